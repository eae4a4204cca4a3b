-- What no read changes: everything but flags, stored values, links, the cycle and the gone marks; and gone is for good. Assumes nothing.
use Rattle.std.specs.Prelude.{Option}
use mathlib.Core.Path.{◌≡◌, refl, ap, ◌∙◌}
use mathlib.Core.Bool.{Bool, true}
use mathlib.Core.List.{List, [], ◌∷◌}
use Prim.Native.Nat.{ℕ}
use Rattle.values.specs.declared.Value.{Value}
use Rattle.trees.specs.Trees.{Tree}
use Rattle.meaning.specs.State.{St, Kind, Room, Row}
use Rattle.meaning.specs.Links.{renew, insert, link, cut}
use Rattle.meaning.proofs.Laws.{up_by}
use Rattle.meaning.proofs.Rings.{link_ways, Drops, Renews}

-- what only the making of a node touches
pub record Given : Type 0 where
  pub room : Room
  pub size : ℕ
  pub used : ℕ
  pub kind : ℕ → Kind
  pub form : ℕ → Tree
  pub owner : ℕ → Option ℕ
  pub level : ℕ → ℕ

abbrev pub given : St → Given
given s = record { room = s.room; size = s.size; used = s.used; kind = s.kind; form = s.form; owner = s.owner; level = s.level }

-- and what writes, batches and runs touch
pub record Fixed : Type 0 where
  pub nodes : Given
  pub pend : ℕ → Value
  pub depth : ℕ
  pub queue : List ℕ
  pub log : List Row

abbrev pub fixed : St → Fixed
fixed s = record { nodes = given s; pend = s.pend; depth = s.depth; queue = s.queue; log = s.log }

pub record Still (s t : St) : Type 0 where
  pub same : fixed t ≡ fixed s
  pub gone : (n : ℕ) → s.gone n ≡ true → t.gone n ≡ true

-- by computation
abbrev Plain : St → St → Type 0
Plain s t = (fixed t ≡ fixed s) × (t.gone ≡ s.gone)

plain : (s t : St) → Plain s t → Still s t
plain s t p = record { same = p.0; gone = λ n e. ap (λ (g : ℕ → Bool). g n) p.1 ∙ e }

still : (s : St) → Still s s
still s = plain s s (refl, refl)

cut_still : (s : St) (l : ℕ) → Plain s (cut s l)
unfolding cut
cut_still s l = (refl, refl)

renew_still : (s : St) (u v : ℕ) (ls : List ℕ) → Plain s (renew s u v ls)
unfolding renew
renew_still s u v [] = (refl, refl)
renew_still s u v (l ∷ ls) = (refl, refl)

insert_still : (s : St) (d u v : ℕ) (ls : List ℕ) → Plain s (insert s d u v ls)
unfolding insert
insert_still s d u v [] = (refl, refl)
insert_still s d u v (l ∷ ls) = (refl, refl)

link_plain : (s : St) (d u v : ℕ) → Plain s (link s d u v)
link_plain s d u v = link_ways (Plain s) s d u v (λ e. (refl, refl)) (λ f. renew_still s u v (s.rest u)) (λ g. (refl, refl)) (insert_still s d u v s.free)

pub link_still : (s : St) (d u v : ℕ) → Still s (link s d u v)
link_still s d u v = plain s _ (link_plain s d u v)

pub link_marks : (s : St) (d u v : ℕ) → (link s d u v).gone ≡ s.gone
link_marks s d u v = (link_plain s d u v).1

pub drops_still : Drops Still
drops_still = record {
  same = still;
  then = λ s t x p q. record { same = q.same ∙ p.same; gone = λ n e. q.gone n (p.gone n e) };
  stops = λ s. plain s _ (refl, refl);
  cuts = λ s l v. plain s _ (cut_still s l);
  bares = λ s x. record { same = refl; gone = λ n e. up_by s.gone x true (λ (b : Bool). b ≡ true) n (λ q. refl) (λ q. e) };
  stales = λ s d. plain s _ (refl, refl);
}

pub renews_still : Renews Still
renews_still = record {
  drops = drops_still;
  begins = λ s n f. plain s _ (refl, refl);
  flags = λ s n f. plain s _ (refl, refl);
  stores = λ s n v f. plain s _ (refl, refl);
  moves = λ s n. plain s _ (refl, refl);
  links = link_still;
  shallows = λ s n. plain s _ (refl, refl);
}
