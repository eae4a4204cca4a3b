-- What a call answers, 0 to 9 or that the reply is too short; and what the reply tells. Assumes nothing.
use mathlib.Core.Path.{◌≡◌, refl, sym, ap, ◌∙◌, subst}
use mathlib.Core.List.{List}
use Prim.Native.Nat.{ℕ, zero, suc, ◌^◌, ◌<◌, ◌≤◌}
use native.Mathlib.Omega.{arith}
use lib.IntN.{ℤ, pos}
use lib.ListN.{length, get_or, set}
use lib.Seq.{get_or-set_same, get_or-set_other, lt-length-set}
use Rattle.meaning.specs.Refusals.{table, refusal}
use Rattle.meaning.proofs.Refused.{first_below}
use Rattle.operating.specs.Log.{number_word}
use Rattle.commanding.specs.Command.{Answered, refusal_in, answer, command_in}
use Rattle.hosting.specs.Calls.{reply_words, no_reply, replied, call_in}
use Rattle.hosting.proofs.Replies.{whole_reply, not_called, is_called}
use Rattle.commanding.proofs.LentLog.{runs_fit}

-- what a host reads in the reply to a command
pub record Told (y : List ℤ) (a : Answered) : Type 0 where
  pub code : get_or y 0 (pos 0) ≡ pos a.code
  pub value : get_or y 1 (pos 0) ≡ a.value
  pub runs : get_or y 2 (pos 0) ≡ pos a.runs

pub word_is : (k : ℕ) → k < 2 ^ 63 → number_word k ≡ pos k
unfolding number_word
word_is k h = ap pos (omega (arith, h))

module _ (y : List ℤ) (a : Answered) (h : reply_words ≤ length y) (few : a.code < 2 ^ 63) (fewer : a.runs < 2 ^ 63) where
  written_tells : Told (set (set (set y 0 (number_word a.code)) 1 a.value) 2 (number_word a.runs)) a
  written_tells =
      let one = set y 0 (number_word a.code) in
      let two = set one 1 a.value in
      let not_1 : ◌≡◌ {A = ℕ} 0 1 → ⊥ = λ z. omega arith in
      let not_2 : ◌≡◌ {A = ℕ} 0 2 → ⊥ = λ z. omega arith in
      let not_3 : ◌≡◌ {A = ℕ} 1 2 → ⊥ = λ z. omega arith in
      let first : 0 < length y = omega (arith, h) in
      let second : 1 < length y = omega (arith, h) in
      let third : 2 < length y = omega (arith, h) in
      record {
        code = get_or-set_other two 2 0 _ (pos 0) not_2 ∙ get_or-set_other one 1 0 a.value (pos 0) not_1 ∙ get_or-set_same y 0 _ (pos 0) first ∙ word_is a.code few;
        value = get_or-set_other two 2 1 _ (pos 0) not_3 ∙ get_or-set_same one 1 a.value (pos 0) (lt-length-set y 0 _ second);
        runs = get_or-set_same two 2 _ (pos 0) (lt-length-set one 1 a.value (lt-length-set y 0 _ third)) ∙ word_is a.runs fewer;
      }

  replied_tells : Told (replied y a.code a.value a.runs) a
  replied_tells = subst (λ w. Told w a) (whole_reply y a.code a.value a.runs h) written_tells

module _ (n l : List ℕ) (v c g ws : List ℤ) where
  nine : refusal_in n l v c g ws ≤ 9
  unfolding refusal_in refusal table
  nine = first_below 0 _

  code_of : (r : ℕ) → (answer r n l v c g ws).code ≡ r
  unfolding answer
  code_of zero = refl
  code_of (suc r) = refl

  code_is : (command_in n l v c g ws).code ≡ refusal_in n l v c g ws
  unfolding command_in
  code_is = code_of (refusal_in n l v c g ws)

  -- document 01's numbers and no others
  pub code_within : (command_in n l v c g ws).code ≤ 9
  code_within = omega (arith, nine, code_is)

  module _ (y : List ℤ) where
    -- the call answers what the command does ..
    pub call_answers : reply_words ≤ length y → (call_in n l v c g ws y).answer ≡ (command_in n l v c g ws).code
    call_answers h = ap (λ r. r.answer) (sym (is_called n l v c g ws y h))

    -- .. unless the reply is too short
    pub call_short : length y < reply_words → (call_in n l v c g ws y).answer ≡ no_reply
    call_short h = ap (λ r. r.answer) (sym (not_called n l v c g ws y h))

    -- the reply tells the command's answer; no slice is longer than 2 ^ 64 - 1
    pub reply_tells : reply_words ≤ length y → length g < 2 ^ 64 → Told (call_in n l v c g ws y).reply (command_in n l v c g ws)
    reply_tells h short =
        let a = command_in n l v c g ws in
        let few : a.code < 2 ^ 63 = omega (arith, code_within) in
        let fewer : a.runs < 2 ^ 63 = omega (arith, runs_fit n l v c g ws, short) in
        subst (λ r. Told r.reply a) (is_called n l v c g ws y h) (replied_tells y a h few fewer)
