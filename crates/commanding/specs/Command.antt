-- One command: decided, and then done.
use Rattle.std.specs.Prelude.{Bool, List, ℕ, zero, suc, ◌/◌, ℤ, pos, length}
use Rattle.reading.specs.Tables.{state}
use Rattle.meaning.specs.Words.{command_of}
use Rattle.meaning.specs.Refusals.{refusal}
use Rattle.refusing.specs.Sight.{sight_in}
use Rattle.refusing.specs.Commands.{brief}
use Rattle.refusing.specs.Asked.{formula_in}
use Rattle.operating.specs.Log.{row_words}
use Rattle.commanding.specs.Tables.{well_formed_in}
use Rattle.commanding.specs.Perform.{Done, performed}

-- refusal number, value, number of runs; and every word after it
pub record Answered : Type 0 where
  pub code : ℕ
  pub value : ℤ
  pub runs : ℕ
  pub nodes : List ℕ
  pub links : List ℕ
  pub values : List ℤ
  pub cells : List ℤ
  pub log : List ℤ

abbrev pub answered : ℕ → ℤ → ℕ → List ℕ → List ℕ → List ℤ → List ℤ → List ℤ → Answered
answered r x k n l v c g = record { code = r; value = x; runs = k; nodes = n; links = l; values = v; cells = c; log = g }

-- the first row of document 01's table that holds, or 0; of tables that are well formed or not
abbrev pub refusal_on : Bool → List ℕ → List ℕ → List ℤ → List ℤ → List ℤ → ℕ
refusal_on formed n l c g ws = refusal formed (sight_in n l c (length g / row_words)) ws

unfoldable pub refusal_in : List ℕ → List ℕ → List ℤ → List ℤ → List ℤ → List ℤ → ℕ
refusal_in n l v c g ws = refusal_on (well_formed_in n l v c) n l c g ws

-- accepted: what was done, and the rows it wrote are the runs
abbrev pub accepted : Done → Answered
accepted d =
    answered 0 d.value d.ran.rows d.ran.after.nodes d.ran.after.links d.ran.after.values d.cells d.ran.log

-- refused: value 0, runs 0, every word unchanged
abbrev pub refused : ℕ → List ℕ → List ℕ → List ℤ → List ℤ → List ℤ → Answered
refused r n l v c g = answered r (pos 0) 0 n l v c g

unfoldable pub answer : ℕ → List ℕ → List ℕ → List ℤ → List ℤ → List ℤ → List ℤ → Answered
answer zero n l v c g ws = accepted (performed (state n l v) c g (brief (command_of ws)) (formula_in ws))
answer (suc r) n l v c g ws = refused (suc r) n l v c g

unfoldable pub command_in : List ℕ → List ℕ → List ℤ → List ℤ → List ℤ → List ℤ → Answered
command_in n l v c g ws = answer (refusal_in n l v c g ws) n l v c g ws

-- the same, where it is known whether the tables are well formed
abbrev pub command_on : Bool → List ℕ → List ℕ → List ℤ → List ℤ → List ℤ → List ℤ → Answered
command_on formed n l v c g ws = answer (refusal_on formed n l c g ws) n l v c g ws
