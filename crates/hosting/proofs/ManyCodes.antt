-- What the call for many commands answers, 0 to 3 or that the reply is too short; and what the reply tells. Assumes nothing.
use mathlib.Core.Path.{◌≡◌, refl, sym, ap, ◌∙◌, subst}
use mathlib.Core.List.{List}
use Prim.Native.Nat.{ℕ, ◌^◌, ◌<◌, ◌≤◌}
use native.Mathlib.Omega.{arith}
use lib.IntN.{ℤ, pos}
use lib.ListN.{length, get_or, set}
use lib.Seq.{get_or-set_same, get_or-set_other, lt-length-set}
use Rattle.operating.specs.Log.{number_word}
use Rattle.sequencing.specs.declared.steps.Why.{Why}
use Rattle.sequencing.specs.declared.steps.Why.TheVariants as why
use Rattle.sequencing.specs.Series.{Ended, series_in}
use Rattle.sequencing.proofs.Inside.{inside}
use Rattle.hosting.specs.Calls.{reply_words, no_reply}
use Rattle.hosting.specs.Many.{why_number, calls_in}
use Rattle.hosting.proofs.Codes.{word_is}
use Rattle.hosting.proofs.ManyReplies.{many_reply, not_done, calls_done}

pub why_within : (w : Why) → why_number w ≤ 3
unfolding why_number
why_within why.Over = omega arith
why_within why.List = omega arith
why_within why.Answers = omega arith
why_within why.Rows = omega arith

-- what a host reads in the reply to many commands
pub record ToldMany (y : List ℤ) (e : Ended) : Type 0 where
  pub why : get_or y 0 (pos 0) ≡ pos (why_number e.why)
  pub used : get_or y 1 (pos 0) ≡ pos e.after.used
  pub done : get_or y 2 (pos 0) ≡ pos e.after.done
  pub rows : get_or y 3 (pos 0) ≡ pos e.after.ran

module _ (y : List ℤ) (h : reply_words ≤ length y) (p q r s : ℤ) where
  abbrev one : List ℤ
  one = set y 0 p

  abbrev two : List ℤ
  two = set one 1 q

  abbrev three : List ℤ
  three = set two 2 r

  abbrev four : List ℤ
  four = set three 3 s

  other : (xs : List ℤ) (i j : ℕ) (x : ℤ) → j < i → get_or (set xs i x) j (pos 0) ≡ get_or xs j (pos 0)
  other xs i j x l = get_or-set_other xs i j x (pos 0) (λ z. omega arith)

  first_word : get_or four 0 (pos 0) ≡ p
  first_word = other three 3 0 s (omega arith) ∙ other two 2 0 r (omega arith) ∙ other one 1 0 q (omega arith) ∙ get_or-set_same y 0 p (pos 0) (omega (arith, h))

  second_word : get_or four 1 (pos 0) ≡ q
  second_word = other three 3 1 s (omega arith) ∙ other two 2 1 r (omega arith) ∙ get_or-set_same one 1 q (pos 0) (lt-length-set y 0 p (omega (arith, h)))

  third_word : get_or four 2 (pos 0) ≡ r
  third_word = other three 3 2 s (omega arith) ∙ get_or-set_same two 2 r (pos 0) (lt-length-set one 1 q (lt-length-set y 0 p (omega (arith, h))))

  fourth_word : get_or four 3 (pos 0) ≡ s
  fourth_word = get_or-set_same three 3 s (pos 0) (lt-length-set two 2 r (lt-length-set one 1 q (lt-length-set y 0 p (omega (arith, h)))))

module _ (n l : List ℕ) (v c rows list answers y : List ℤ) where
  abbrev ended : Ended
  ended = series_in n l v c rows list answers

  -- the call answers why the series stopped ..
  pub calls_answer : reply_words ≤ length y → (calls_in n l v c rows list answers y).answer ≡ why_number ended.why
  calls_answer h = ap (λ r. r.answer) (sym (calls_done n l v c rows list answers y ended h refl))

  -- .. unless the reply is too short
  pub calls_short : length y < reply_words → (calls_in n l v c rows list answers y).answer ≡ no_reply
  calls_short h = ap (λ r. r.answer) (sym (not_done n l v c rows list answers y h))

  -- the reply tells why, and how far it is; no slice of words of eight bytes is as long as that
  pub calls_tell : reply_words ≤ length y → length list < 2 ^ 63 → length rows < 2 ^ 63 → length answers < 2 ^ 63 → ToldMany (calls_in n l v c rows list answers y).reply ended
  calls_tell h short-list short-rows short-answers =
      let i = inside n l v c rows list answers in
      let s = ended.after in
      let w = number_word (why_number ended.why) in
      let a = number_word s.used in
      let b = number_word s.done in
      let d = number_word s.ran in
      let told : ToldMany (set (set (set (set y 0 w) 1 a) 2 b) 3 d) ended = record {
        why = first_word y h w a b d ∙ word_is (why_number ended.why) (omega (arith, why_within ended.why));
        used = second_word y h w a b d ∙ word_is s.used (omega (arith, i.used_inside, short-list));
        done = third_word y h w a b d ∙ word_is s.done (omega (arith, i.answers_inside, short-answers));
        rows = fourth_word y h w a b d ∙ word_is s.ran (omega (arith, i.rows_inside, short-rows));
      } in
      subst (λ z. ToldMany z ended) (many_reply y (why_number ended.why) s.used s.done s.ran h ∙ ap (λ r. r.reply) (calls_done n l v c rows list answers y ended h refl)) told
