-- The second ring over words is the second ring over lists: reading, the dirty check, updates and evaluation. By the bound of the lists, for every bound of the words: no bound is used up. Assumes nothing.
use mathlib.Core.Path.{◌≡◌, refl, sym, subst}
use mathlib.Core.Bool.{true, false}
use mathlib.Core.List.{List, []}
use Prim.Native.Nat.{ℕ, zero, suc, ◌<◌, ◌≤◌}
use native.Mathlib.Omega.{arith}
use lib.IntN.{ℤ}
use Rattle.trees.specs.Legal.{most_nesting}
use Rattle.reading.specs.Tables.{State, rank_of}
use Rattle.primitive.specs.Words.{DEPS, link_rows, node}
use Rattle.reading.specs.Ring.{start_of, deps_by, checked_by, evaluated_by, refreshed_by, ring_n}
use Rattle.reading.specs.Read.{refreshed, checked, evaluated_for}
use Rattle.meaning.specs.State.{St, readable, deps}
use Rattle.meaning.specs.Reads.{check_w, fresh, settle, check, evaluate}
use Rattle.meaning.proofs.Still.{Given}
use Rattle.meaning.proofs.Inside.{Set, Static, Goes, Inside}
use Rattle.meaning.proofs.Frames.{Open}
use Rattle.meaning.proofs.Reading.{Above, Freshens, settle_spreads, reads_of, During}
use Rattle.meaning.proofs.Updating.{check_apart, fresh_inside}
use Rattle.meaning.proofs.Running.{size_is}
use Rattle.structure.specs.Rep.{has_form}
use Rattle.structure.proofs.Steps.{Sees, Tells}
use Rattle.structure.proofs.Evaluation.{evaluation_sim}
use Rattle.structure.proofs.Updates.{freshens_less, Refreshes, form_laid}
use Rattle.structure.proofs.Renewals.{refresh_sim}
use Rattle.structure.proofs.Answers.{Answers, ask_sim, check_tells}

module _ (g : Given) (st : Static g) (ran : List ℕ) (C : List ℤ) where
  -- the lists have the bound b, the words any bound a; of nodes of a rank below both
  record Alike (b : ℕ) : Type 1 where
    pub refreshes : (a j : ℕ) → j ≤ a → j ≤ b → Refreshes g st ran C j (ring_n C a) (fresh b)
    pub answers : (a j : ℕ) → j ≤ a → j ≤ b → Answers g st ran C j (ring_n C a) (fresh b)

  freshens_at : (b j : ℕ) → j ≤ b → Freshens g st j (fresh b)
  freshens_at b j le = freshens_less g st j b (fresh b) le (fresh_inside g st b)

  -- ---- the check of u, on a budget of dependencies
  checks_on : (b : ℕ) → Alike b → (a u : ℕ) → u ≤ a → u ≤ b → (X : Set) → u < g.size → ((m : ℕ) → X m → readable (g.kind m) ≡ true → u ≤ m) → ((d : ℕ) → d < g.size → Goes g d u → X d → ⊥)
      → (x : State) (s : St) → Inside g X s → Open g st X s → s.stuck ≡ false → (deps s u ≡ [] → ⊥) → Sees ran x C s → (j : ℕ) → link_rows x.links ≤ j
      → Tells ran C (deps_by C (ring_n C a) u j x (node x.nodes u DEPS)) (check_w (fresh b) s u)
  checks_on b k a u la lb X hu above apart = check_tells g st ran C u (ring_n C a) (fresh b) (freshens_at b u lb) (k.answers a u la lb) X hu above apart

  checks : (b : ℕ) → Alike b → (a u : ℕ) → u ≤ a → u ≤ b → (X : Set) → u < g.size → ((m : ℕ) → X m → readable (g.kind m) ≡ true → u ≤ m) → ((d : ℕ) → d < g.size → Goes g d u → X d → ⊥)
      → (x : State) (s : St) → Inside g X s → Open g st X s → s.stuck ≡ false → (deps s u ≡ [] → ⊥) → Sees ran x C s → Tells ran C (checked_by C (ring_n C a) x u) (check_w (fresh b) s u)
  unfolding checked_by
  checks b k a u la lb X hu above apart x s i o free ne q = checks_on b k a u la lb X hu above apart x s i o free ne q (link_rows x.links) (omega arith)

  -- ---- one bound more
  refreshes_at : (b : ℕ) → Alike b → (a j : ℕ) → j ≤ a → j ≤ suc b → Refreshes g st ran C j (ring_n C a) (fresh (suc b))
  unfolding ring_n fresh
  refreshes_at b k zero j la lb X x s m i o h r ab lt free q = absurd (omega arith)
  refreshes_at b k (suc a) j la lb X x s m i o h r ab lt free q =
      subst (Sees ran (refreshed_by C (ring_n C a) x m) C) (sym (settle_spreads g st (suc b) (fresh (suc b)) (fresh_inside g st (suc b)) X s m i o h r ab (omega arith)))
      (refresh_sim g st ran C m (ring_n C a) (fresh b) (freshens_at b m (omega arith)) (k.refreshes a m (omega arith) (omega arith)) X x s i o h ab free q
      (λ kn pd ne. checks b k a m (omega arith) (omega arith) X h (λ n xn e. let z = ab n xn e in omega arith) (check_apart g st X m kn ab) x s i o free ne q) (g.kind m) refl r)

  answers_at : (b : ℕ) → Alike b → (a j : ℕ) → j ≤ a → j ≤ suc b → Answers g st ran C j (ring_n C a) (fresh (suc b))
  unfolding ring_n fresh
  answers_at b k zero j la lb X x s m i o h r ab lt free mu q = absurd (omega arith)
  answers_at b k (suc a) j la lb X x s m i o h r ab lt free mu q =
      ask_sim g st ran C m (ring_n C (suc a)) (fresh b) (freshens_at b m (omega arith)) (k.refreshes (suc a) m (omega arith) (omega arith)) X x s i o h ab free q r
      (λ kn pd ne. checks b k a m (omega arith) (omega arith) X h (λ n xn e. let z = ab n xn e in omega arith) (check_apart g st X m kn ab) x s i o free ne q) mu

  second_ring : (b : ℕ) → Alike b
  second_ring zero = record {
    refreshes = λ a j la lb X x s m i o h r ab lt free q. absurd (omega arith);
    answers = λ a j la lb X x s m i o h r ab lt free mu q. absurd (omega arith);
  }
  second_ring (suc b) = let k = second_ring b in record { refreshes = refreshes_at b k; answers = answers_at b k }

  -- ---- what callers cite; the bound over words is the rank of the node, over lists the number of nodes
  -- a node brought up to date, whatever bound is enough
  pub refreshed_within : (X : Set) (x : State) (s : St) (n : ℕ) → Inside g X s → Open g st X s → n < g.size → readable (g.kind n) ≡ true → Above g st X n → s.stuck ≡ false → Sees ran x C s
      → (a : ℕ) → rank_of n ≤ a → Sees ran (refreshed_by C (ring_n C a) x n) C (settle s n)
  unfolding rank_of ring_n
  refreshed_within X x s n i o h r ab free q a le = let e = size_is g st X s i in (second_ring s.size).refreshes (suc a) (suc n) (omega arith) (omega arith) X x s n i o h r ab (omega arith) free q

  pub refreshed_sees : (X : Set) (x : State) (s : St) (n : ℕ) → Inside g X s → Open g st X s → n < g.size → readable (g.kind n) ≡ true → Above g st X n → s.stuck ≡ false → Sees ran x C s
      → Sees ran (refreshed C x n) C (settle s n)
  unfolding refreshed
  refreshed_sees X x s n i o h r ab free q = refreshed_within X x s n i o h r ab free q (rank_of n) (omega arith)

  -- the dirty check of u
  pub checked_within : (X : Set) (u : ℕ) → u < g.size → ((m : ℕ) → X m → readable (g.kind m) ≡ true → u ≤ m) → ((d : ℕ) → d < g.size → Goes g d u → X d → ⊥)
      → (x : State) (s : St) → Inside g X s → Open g st X s → s.stuck ≡ false → (deps s u ≡ [] → ⊥) → Sees ran x C s → (a j : ℕ) → rank_of u ≤ a → link_rows x.links ≤ j
      → Tells ran C (deps_by C (ring_n C a) u j x (node x.nodes u DEPS)) (check s u)
  unfolding rank_of
  checked_within X u h above apart x s i o free ne q a j le many = let e = size_is g st X s i in checks_on s.size (second_ring s.size) a u (omega arith) (omega arith) X h above apart x s i o free ne q j many

  pub checked_tells : (X : Set) (u : ℕ) → u < g.size → ((m : ℕ) → X m → readable (g.kind m) ≡ true → u ≤ m) → ((d : ℕ) → d < g.size → Goes g d u → X d → ⊥)
      → (x : State) (s : St) → Inside g X s → Open g st X s → s.stuck ≡ false → (deps s u ≡ [] → ⊥) → Sees ran x C s → Tells ran C (checked C x u) (check s u)
  unfolding checked checked_by
  checked_tells X u h above apart x s i o free ne q = checked_within X u h above apart x s i o free ne q (rank_of u) (link_rows x.links) (omega arith) (omega arith)

  -- the evaluation of u, which has begun
  pub evaluated_within : (X : Set) (u : ℕ) → X u → u < g.size → has_form (g.kind u) ≡ true → ((m : ℕ) → X m → readable (g.kind m) ≡ true → u ≤ m)
      → (x : State) (s : St) → During g st X u s 0 s → s.stuck ≡ false → Sees ran x C s → (a : ℕ) → rank_of u ≤ a → (let e = evaluated_by C (ring_n C a) u most_nesting x (start_of x u) in
      Sees ran e.after C (evaluate s u).st × During g st X u s (reads_of g st u) (evaluate s u).st × (e.value ≡ (evaluate s u).val))
  unfolding rank_of
  evaluated_within X u xu h f above x s d free q a le =
      let e = size_is g st X s d.inside in
      evaluation_sim g st u (fresh s.size) (freshens_at s.size u (omega arith)) (ring_n C a) ran C ((second_ring s.size).refreshes a u (omega arith) (omega arith)) X u xu h above s d.inside (omega arith) free C (start_of x u) x s
      (form_laid g st ran C X x s u d.inside h f q) d q

  pub evaluated_sees : (X : Set) (u : ℕ) → X u → u < g.size → has_form (g.kind u) ≡ true → ((m : ℕ) → X m → readable (g.kind m) ≡ true → u ≤ m)
      → (x : State) (s : St) → During g st X u s 0 s → s.stuck ≡ false → Sees ran x C s
      → Sees ran (evaluated_for C x u).after C (evaluate s u).st × During g st X u s (reads_of g st u) (evaluate s u).st × ((evaluated_for C x u).value ≡ (evaluate s u).val)
  unfolding evaluated_for
  evaluated_sees X u xu h f above x s d free q = evaluated_within X u xu h f above x s d free q (rank_of u) (omega arith)
