-- The read links of a node, and where they go, before and after. Assumes nothing.
use mathlib.Core.Path.{◌≡◌, refl, sym, ap, ap₂, ◌∙◌, subst}
use mathlib.Core.List.{List, ◌++◌}
use Prim.Native.Nat.{ℕ}
use Rattle.meaning.specs.State.{St, Kind, deps}
use Rattle.meaning.specs.WellFormed.{In, read_links}
use Rattle.meaning.proofs.Members.{reads_agree, reads_sub}

abbrev pub SameLists : St → St → ℕ → Type 0
SameLists s t m = (t.done m ≡ s.done m) × (t.rest m ≡ s.rest m)

abbrev pub reads_of : (ℕ → Kind) → St → ℕ → List ℕ
reads_of kind s e = read_links kind s.dep (deps s e)

-- the read links of e are as they were, go where they went, and keep their versions
pub record SameReads (kind : ℕ → Kind) (s t : St) (e : ℕ) : Type 0 where
  pub links : reads_of kind t e ≡ reads_of kind s e
  pub ends : (l : ℕ) → In l (reads_of kind s e) → (t.dep l ≡ s.dep l) × (t.ver l ≡ s.ver l)

pub reads_same : (kind : ℕ → Kind) (s : St) (e : ℕ) → SameReads kind s s e
reads_same kind s e = record { links = refl; ends = λ l j. (refl, refl) }

pub reads_then : (kind : ℕ → Kind) (s t x : St) (e : ℕ) → SameReads kind s t e → SameReads kind t x e → SameReads kind s x e
reads_then kind s t x e p q = record { links = q.links ∙ p.links; ends = λ l j. let a = q.ends l (subst (In l) (sym p.links) j) in let b = p.ends l j in (a.0 ∙ b.0, a.1 ∙ b.1) }

pub reads_lists : (kind : ℕ → Kind) (s t : St) (e : ℕ) → SameLists s t e → ((l : ℕ) → In l (deps s e) → (t.dep l ≡ s.dep l) × (t.ver l ≡ s.ver l)) → SameReads kind s t e
reads_lists kind s t e p h = record {
  links = ap (read_links kind t.dep) (ap₂ (λ (x y : List ℕ). x ++ y) p.0 p.1) ∙ reads_agree kind s.dep t.dep (deps s e) (λ l j. (h l j).0);
  ends = λ l j. h l (reads_sub kind s.dep l (deps s e) j);
}

-- the same of two states with kinds of their own
pub record ReadsStay (s t : St) (e : ℕ) : Type 0 where
  pub links : reads_of t.kind t e ≡ reads_of s.kind s e
  pub ends : (l : ℕ) → In l (reads_of s.kind s e) → (t.dep l ≡ s.dep l) × (t.ver l ≡ s.ver l)

pub stay_then : (s t x : St) (e : ℕ) → ReadsStay s t e → ReadsStay t x e → ReadsStay s x e
stay_then s t x e p q = record { links = q.links ∙ p.links; ends = λ l j. let a = q.ends l (subst (In l) (sym p.links) j) in let b = p.ends l j in (a.0 ∙ b.0, a.1 ∙ b.1) }

pub same_stay : (kind : ℕ → Kind) (s t : St) (e : ℕ) → s.kind ≡ kind → t.kind ≡ kind → SameReads kind s t e → ReadsStay s t e
same_stay kind s t e p q r = record {
  links = ap (λ (k : ℕ → Kind). reads_of k t e) q ∙ r.links ∙ ap (λ (k : ℕ → Kind). reads_of k s e) (sym p);
  ends = λ l j. r.ends l (subst (λ (k : ℕ → Kind). In l (reads_of k s e)) p j);
}
