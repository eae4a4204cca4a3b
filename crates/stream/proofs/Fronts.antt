-- What is unread is a part of the buffer, and moving it to the front keeps it. Assumes nothing.
use Rattle.std.proofs.Common.{◌≡◌, ℕ, ◌+◌, ◌-◌, List, length, take, drop, min, ap, sym, ◌∙◌, arith, length-take, length-drop}
use Rattle.std.proofs.Math.Seq.{paste}
use Rattle.std.proofs.lemmas.List.{take_min, drop_min, drop-take}
use Rattle.std.proofs.lemmas.List.Edits.{length-paste, take-paste}
use Rattle.stream.specs.Windows.{Front, unread}

-- The part between bounds that are cut to the buffer's length.
pub part_of : (d : List ℕ) (at end a e : ℕ) → e ≡ min end (length d) → a ≡ min at e → take (e - a) (drop a d) ≡ unread d at end
part_of d at end a e p q =
    let long : length (take e d) ≡ min e (length d) = length-take e d in
    let stop : a + (e - a) ≡ e = omega arith in
    let start : a ≡ min at (length (take e d)) = omega arith in
    sym (drop-take a (e - a) d)
    ∙ ap (λ (k : ℕ). drop a (take k d)) stop
    ∙ ap (λ (k : ℕ). drop k (take e d)) start
    ∙ drop_min at (take e d)
    ∙ ap (λ (k : ℕ). drop at (take k d)) p
    ∙ ap (drop at) (take_min end d)

-- It moves to the front.
pub front_of : (d : List ℕ) (at end a e : ℕ) (after : List ℕ) → e ≡ min end (length d) → a ≡ min at e → after ≡ paste d 0 (drop a d) (e - a) → Front d at end (e - a) after
front_of d at end a e after p q r =
    let rest : length (drop a d) ≡ length d - a = length-drop a d in
    let part : length (take (e - a) (drop a d)) ≡ min (e - a) (length (drop a d)) = length-take (e - a) (drop a d) in
    let long : e - a ≡ length (take (e - a) (drop a d)) = omega arith in
    let whole : length after ≡ length d = ap length r ∙ length-paste d 0 (drop a d) (e - a) (omega arith) (omega arith) in
    let none : e - a ≡ 0 + (e - a) = omega arith in
    let same : take (e - a) (drop a d) ≡ unread d at end = part_of d at end a e p q in
    record {
      long = long ∙ ap length same;
      same = ap (take (e - a)) r ∙ ap (λ (k : ℕ). take k (paste d 0 (drop a d) (e - a))) none ∙ take-paste d 0 (drop a d) (e - a) (omega arith) (omega arith) ∙ same;
      upto = omega arith;
    }
