-- One turn is one step of the whole output, whatever comes behind the window. Assumes nothing.
use mathlib.Core.Path.{◌≡◌, refl, sym, ap, ◌∙◌}
use mathlib.Core.Bool.{Bool, true, false}
use mathlib.Core.List.{List, [], ◌∷◌, ◌++◌, append-nil}
use Prim.Native.Nat.{ℕ, zero, suc, ◌+◌, ◌*◌, ◌-◌, ◌<◌, ◌≤◌}
use native.Mathlib.Omega.{arith}
use lib.IntN.{ℤ, pos}
use lib.ListN.{length, take, drop}
use lib.Seq.{take-append_seam}
use Rattle.spelling.specs.Buffers.{buffer, put}
use Rattle.spelling.specs.Lines.{Reading, short, unreadable, pair, reading, end_of, first_of, from_first}
use Rattle.spelling.specs.Pairs.{held}
use Rattle.spelling.specs.Answers.{answer, unreadable_answer}
use Rattle.spelling.specs.Output.{output}
use Rattle.spelling.proofs.AnswerLaws.{length_answer}
use Rattle.spelling.proofs.BufferLaws.{put_fits}
use Rattle.spelling.proofs.PairLaws.{held_pair, held_short}
use Rattle.spelling.proofs.Streams.{followed, reading_same, short_few}
use Rattle.spelling.proofs.OutputLaws.{pair_behind, output_none, output_pair, output_unreadable, output_cut}
use Rattle.spelling.proofs.Room.{held_all}
use Rattle.script.specs.declared.turns.Turn.TheVariants.{More, Answered, Ended}
use Rattle.commanding.specs.Command.{command_in}
use Rattle.commanding.proofs.LentLog.{log_long}
use Rattle.script.specs.Turns.{Tables, stepped, waiting, turn_on, turn_in}

-- the bytes of an answer that fits are the front of out
front : (out b : List ℕ) → length b ≤ length out → take (put (buffer out 0) b).next (put (buffer out 0) b).held ≡ b
front out b h = rw (put_fits out b h) (take-append_seam b (drop (length b) out))

-- what can't be read is answered in 82 bytes at most
unread_fits : (out : List ℕ) → 82 ≤ length out → length unreadable_answer ≤ length out
unfolding unreadable_answer
unread_fits out h = let e : length unreadable_answer ≤ 82 + 24 * 0 = length_answer 2 (pos 0) 0 [] in omega arith

-- and a command in 24 bytes more for each word of the log
answer_fits : (t : Tables) (zs : List ℤ) (out : List ℕ) → 82 + 24 * length t.log ≤ length out → length (stepped t zs).answer ≤ length out
unfolding stepped
answer_fits t zs out h =
    let a = command_in t.nodes t.links t.values t.cells t.log zs in
    let e : length (answer a.code a.value a.runs a.log) ≤ 82 + 24 * length a.log = length_answer a.code a.value a.runs a.log in
    let k : length a.log ≡ length t.log = log_long t.nodes t.links t.values t.cells t.log zs in
    omega arith

reading_empty : reading [] ≡ short
unfolding reading end_of first_of from_first
reading_empty = refl

module _ (t : Tables) (ws : List ℤ) (out w : List ℕ) (over : Bool) where
  never_answered : (o : Bool) (n used bytes : ℕ) → (waiting t ws out o n).turn ≡ Answered used bytes → ⊥
  never_answered false n used bytes f = let y : ◌≡◌ {A = ℕ} 0 1 = cc in omega arith
  never_answered true zero used bytes f = let y : ◌≡◌ {A = ℕ} 0 1 = cc in omega arith
  never_answered true (suc n) used bytes f = let y : ◌≡◌ {A = ℕ} 0 1 = cc in omega arith

  -- ---- a pair was answered: its answer, and then the output for what is left
  pub turn_answers : (used bytes : ℕ) → (turn_in t ws out w over).turn ≡ Answered used bytes → 82 + 24 * length t.log ≤ length out → (more : List ℕ) → output stepped t (w ++ more) ≡ take bytes (turn_in t ws out w over).out ++ output stepped (turn_in t ws out w over).after (drop used w ++ more)
  unfolding turn_in turn_on followed
  turn_answers used bytes e room more = go (held (length ws) (reading w)) refl e
    where
      go : (r : Reading) → held (length ws) (reading w) ≡ r → (turn_on t ws out over (length w) r).turn ≡ Answered used bytes → output stepped t (w ++ more) ≡ take bytes (turn_on t ws out over (length w) r).out ++ output stepped (turn_on t ws out over (length w) r).after (drop used w ++ more)
      go short q f = absurd (never_answered over (length w) used bytes f)
      go unreadable q f = let y : ◌≡◌ {A = ℕ} 0 1 = cc in absurd (omega arith)
      go (pair zs rest) q f =
          let eu : length w - length rest ≡ used = cc in
          let eb : (put (buffer out 0) (stepped t zs).answer).next ≡ bytes = cc in
          let h : reading w ≡ pair zs rest = (held_pair (length ws) (reading w) zs rest q).0 in
          let n : reading w ≡ short → ⊥ = λ z. (let y : ◌≡◌ {A = ℕ} 0 1 = cc in omega arith) in
          let m : reading (w ++ more) ≡ pair zs (rest ++ more) = reading_same w more n ∙ ap (λ (r : Reading). followed r more) h in
          let p : take bytes (put (buffer out 0) (stepped t zs).answer).held ≡ (stepped t zs).answer = ap (λ (k : ℕ). take k (put (buffer out 0) (stepped t zs).answer).held) (sym eb) ∙ front out (stepped t zs).answer (answer_fits t zs out room) in
          let d : drop used w ≡ rest = ap (λ (k : ℕ). drop k w) (sym eu) ∙ sym (pair_behind w zs rest h).1 in
          output_pair stepped t (w ++ more) zs (rest ++ more) m
          ∙ ap (λ (x : List ℕ). x ++ output stepped (stepped t zs).after (rest ++ more)) (sym p)
          ∙ ap (λ (l : List ℕ). take bytes (put (buffer out 0) (stepped t zs).answer).held ++ output stepped (stepped t zs).after (l ++ more)) (sym d)

  -- ---- the run ends: the last answer is all that is left of the output
  last : (bytes : ℕ) → (put (buffer out 0) unreadable_answer).next ≡ bytes → 82 ≤ length out → take bytes (put (buffer out 0) unreadable_answer).held ≡ unreadable_answer
  last bytes e h = ap (λ (k : ℕ). take k (put (buffer out 0) unreadable_answer).held) (sym e) ∙ front out unreadable_answer (unread_fits out h)

  bad : (l : List ℕ) → reading l ≡ unreadable → output stepped t l ≡ unreadable_answer
  bad [] e = let k : short ≡ unreadable = sym reading_empty ∙ e in let y : ◌≡◌ {A = ℕ} 0 1 = cc in absurd (omega arith)
  bad (x ∷ l) e = output_unreadable stepped t x l e

  cut : (o : Bool) (l : List ℕ) (bytes : ℕ) (more : List ℕ) → reading l ≡ short → (waiting t ws out o (length l)).turn ≡ Ended bytes → 82 ≤ length out → (o ≡ true → more ≡ []) → output stepped t (l ++ more) ≡ take bytes (waiting t ws out o (length l)).out
  unfolding put
  cut false l bytes more q f h k = let y : ◌≡◌ {A = ℕ} 0 1 = cc in absurd (omega arith)
  cut true [] bytes more q f h k =
      let z : 0 ≡ bytes = cc in
      ap (output stepped t) (k refl) ∙ output_none stepped t ∙ ap (λ (n : ℕ). take n out) z
  cut true (x ∷ l) bytes more q f h k =
      let e : (put (buffer out 0) unreadable_answer).next ≡ bytes = cc in
      ap (λ (m : List ℕ). output stepped t ((x ∷ l) ++ m)) (k refl) ∙ ap (output stepped t) (append-nil (x ∷ l)) ∙ output_cut stepped t x l q ∙ sym (last bytes e h)

  -- more: what comes behind the window, nothing where it is over
  pub turn_ends : (bytes : ℕ) → (turn_in t ws out w over).turn ≡ Ended bytes → 82 ≤ length out → 2047 ≤ length ws → (more : List ℕ) → (over ≡ true → more ≡ []) → output stepped t (w ++ more) ≡ take bytes (turn_in t ws out w over).out
  unfolding turn_in turn_on followed
  turn_ends bytes e h a more k = go (held (length ws) (reading w)) refl e
    where
      go : (r : Reading) → held (length ws) (reading w) ≡ r → (turn_on t ws out over (length w) r).turn ≡ Ended bytes → output stepped t (w ++ more) ≡ take bytes (turn_on t ws out over (length w) r).out
      go short q f = cut over w bytes more (sym (held_all (length ws) w a) ∙ q) f h k
      go unreadable q f =
          let u : reading w ≡ unreadable = sym (held_all (length ws) w a) ∙ q in
          let n : reading w ≡ short → ⊥ = λ z. (let y : ◌≡◌ {A = ℕ} 0 1 = cc in omega arith) in
          let m : reading (w ++ more) ≡ unreadable = reading_same w more n ∙ ap (λ (r : Reading). followed r more) u in
          let e' : (put (buffer out 0) unreadable_answer).next ≡ bytes = cc in
          bad (w ++ more) m ∙ sym (last bytes e' h)
      go (pair zs rest) q f = let y : ◌≡◌ {A = ℕ} 0 1 = cc in absurd (omega arith)

  -- ---- no whole pair: the input goes on, and the window is small
  pub turn_waits : (turn_in t ws out w over).turn ≡ More → (over ≡ false) × (length w < 8194)
  unfolding turn_in turn_on
  turn_waits e = go (held (length ws) (reading w)) refl e
    where
      on : (o : Bool) (n : ℕ) → (waiting t ws out o n).turn ≡ More → o ≡ false
      on false n f = refl
      on true zero f = let y : ◌≡◌ {A = ℕ} 0 1 = cc in absurd (omega arith)
      on true (suc n) f = let y : ◌≡◌ {A = ℕ} 0 1 = cc in absurd (omega arith)

      go : (r : Reading) → held (length ws) (reading w) ≡ r → (turn_on t ws out over (length w) r).turn ≡ More → (over ≡ false) × (length w < 8194)
      go short q f = (on over (length w) f, short_few w (held_short (length ws) (reading w) q))
      go unreadable q f = let y : ◌≡◌ {A = ℕ} 0 1 = cc in absurd (omega arith)
      go (pair zs rest) q f = let y : ◌≡◌ {A = ℕ} 0 1 = cc in absurd (omega arith)
