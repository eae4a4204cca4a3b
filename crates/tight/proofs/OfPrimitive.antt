-- The promise of each public function of `primitive` has one answer. Assumes nothing.
use Rattle.std.specs.Prelude.{Option, Some, None}
use Rattle.std.specs.Iterator.{YieldsFirst}
use mathlib.Core.Path.{◌≡◌, refl, sym, ap, ◌∙◌}
use mathlib.Core.List.{List, [], ◌∷◌}
use Prim.Native.Nat.{ℕ}
use native.Mathlib.Omega.{arith}
use denote.RattleType.{RattleType}
use denote.Param.Laws.{Laws, IsCopy}
use mir.Syntax.{Dict}
use Rattle.std.specs.declared.clone.Clone as clone
use Rattle.primitive.specs.declared.words.Word as word
use Rattle.tight.specs.OneAnswer.{OneAnswer}
use Rattle.primitive.proofs.kinds.Kind.of_word.Kinds as kinds-of_word-kinds
use Rattle.primitive.proofs.kinds.Kind.of_word.Reads as kinds-of_word
use Rattle.primitive.proofs.kinds.Kind.word.Kinds as kinds-word-kinds
use Rattle.primitive.proofs.kinds.Kind.word.Reads as kinds-word
use Rattle.primitive.proofs.slots.open.Kinds as slots-open-kinds
use Rattle.primitive.proofs.slots.open.Reads as slots-open
use Rattle.primitive.proofs.walk.Walk.new.Kinds as walk_new_kinds
use Rattle.primitive.proofs.walk.Walk.new.Reads as walk_new
use Rattle.primitive.proofs.words.U64Word.zero.Kinds as words-u64-zero-kinds
use Rattle.primitive.proofs.words.U64Word.zero.Reads as words-u64-zero
use Rattle.primitive.proofs.words.I64Word.zero.Kinds as words-i64-zero-kinds
use Rattle.primitive.proofs.words.I64Word.zero.Reads as words-i64-zero
use Rattle.primitive.proofs.words.at.Kinds as words-at-kinds
use Rattle.primitive.proofs.words.at.Reads as words-at
use Rattle.primitive.proofs.words.put.Kinds as words-put-kinds
use Rattle.primitive.proofs.words.put.Reads as words-put
use Rattle.primitive.proofs.words.get.Kinds as words-get-kinds
use Rattle.primitive.proofs.words.get.Reads as words-get
use Rattle.primitive.proofs.words.store.Kinds as words-store-kinds
use Rattle.primitive.proofs.words.store.Reads as words-store
use Rattle.primitive.proofs.walk.WalkIterator.next.Kinds as walk_next_kinds
use Rattle.primitive.proofs.walk.WalkIterator.next.Reads as walk_next

pub one_kinds_of_word : OneAnswer kinds-of_word-kinds.ps kinds-of_word-kinds.r kinds-of_word.Learnt
one_kinds_of_word κs a x y v w p q = (p.0 ∙ sym q.0, refl)

pub one_kinds_word : OneAnswer kinds-word-kinds.ps kinds-word-kinds.r kinds-word.Learnt
one_kinds_word κs a x y v w p q = (p ∙ sym q, refl)

pub one_slots_open : OneAnswer slots-open-kinds.ps slots-open-kinds.r slots-open.Learnt
one_slots_open κs a x y v w p q = (p ∙ sym q, refl)

pub one_walk_new : OneAnswer walk_new_kinds.ps walk_new_kinds.r walk_new.Learnt
one_walk_new κs a x y v w p q = (p ∙ sym q, refl)

pub one_words_u64_zero : OneAnswer words-u64-zero-kinds.ps words-u64-zero-kinds.r words-u64-zero.Learnt
one_words_u64_zero κs a x y v w p q = (p ∙ sym q, refl)

pub one_words_i64_zero : OneAnswer words-i64-zero-kinds.ps words-i64-zero-kinds.r words-i64-zero.Learnt
one_words_i64_zero κs a x y v w p q = (p ∙ sym q, refl)

-- of words of any type
pub one_words_at : (T : RattleType) (l : Laws T) (o : IsCopy T) (g : word.Ghosts T.Denot) (d : Dict) (h : clone.Ghosts T.Denot) (e : Dict) → OneAnswer (words-at-kinds.ps T l o) (words-at-kinds.r T l o) (words-at.Learnt T l o g d h e)
one_words_at T l o g d h e κs a x y v w p q = (p ∙ sym q, refl)

pub one_words_put : (T : RattleType) (l : Laws T) (o : IsCopy T) (h : clone.Ghosts T.Denot) (e : Dict) → OneAnswer (words-put-kinds.ps T l o) (words-put-kinds.r T l o) (words-put.Learnt T l o h e)
one_words_put T l o h e κs a x y v w p q = (refl, λ i. ((p ∙ sym q) i, (tt, (tt, tt))))

pub one_words_get : OneAnswer words-get-kinds.ps words-get-kinds.r words-get.Learnt
one_words_get κs a x y v w p q = (p ∙ sym q, refl)

pub one_words_store : OneAnswer words-store-kinds.ps words-store-kinds.r words-store.Learnt
one_words_store κs a x y v w p q = (refl, λ i. ((p ∙ sym q) i, (tt, (tt, (tt, (tt, tt))))))

-- Two ways to go on along a list are one: the slot that comes next, and those behind it.
one_first : (s t u : List ℕ) (x y : Option ℕ) → YieldsFirst (λ (l : List ℕ). l) s x t → YieldsFirst (λ (l : List ℕ). l) s y u → (x ≡ y) × (t ≡ u)
one_first s t u None None p q = (refl, p.1 ∙ sym q.1)
one_first s t u None (Some k) p q = let e : [] ≡ k ∷ u = sym p.0 ∙ q in let z : ◌≡◌ {A = ℕ} 0 1 = cc in absurd (omega arith)
one_first s t u (Some j) None p q = let e : [] ≡ j ∷ t = sym q.0 ∙ p in let z : ◌≡◌ {A = ℕ} 0 1 = cc in absurd (omega arith)
one_first s t u (Some j) (Some k) p q =
    let e : j ∷ t ≡ k ∷ u = sym p ∙ q in
    let h : j ≡ k = cc in
    let r : t ≡ u = cc in
    (ap Some h, r)

pub one_walk_next : OneAnswer walk_next_kinds.ps walk_next_kinds.r walk_next.Learnt
one_walk_next κs a x y v w p q =
    let e = one_first a.0.now v.0 w.0 x y p.0 q.0 in
    (e.0, λ i. (e.1 i, tt))
