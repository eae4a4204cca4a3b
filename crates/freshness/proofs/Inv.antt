-- What holds of values between and inside operations: versions, signals, marks, computeds, effects and their records. Nodes of A are being evaluated and exempt.
-- g is what no read or write changes, p the last written values, ρ what each effect's last run read. Assumes nothing.
use mathlib.Core.Path.{◌≡◌, sym, ap, ◌∙◌, subst}
use mathlib.Core.Logic.{◌⊎◌}
use mathlib.Core.Bool.{Bool, true, false}
use mathlib.Core.List.{List}
use Prim.Native.Nat.{ℕ, ◌≤◌, ◌<◌}
use Rattle.flags.specs.declared.Named.{Named}
use Rattle.values.specs.declared.Value.{Value}
use Rattle.trees.specs.Trees.{Tree, worth, reads}
use Rattle.meaning.specs.State.{St, Kind, signal, computed, effect, Row, readable, unclean}
use Rattle.meaning.specs.Setters.{with_queue, with_depth, with_log, with_stuck}
use Rattle.meaning.specs.WellFormed.{In}
use Rattle.freshness.specs.Afresh.{readings}
use Rattle.meaning.proofs.Laws.{or_first, or_left, or_right}
use Rattle.meaning.proofs.Still.{Given}
use Rattle.meaning.proofs.Inside.{Set}
use Rattle.freshness.proofs.Forms.{locally, readings_same, firsts, firsts_readings}

abbrev pub Records : Type 0
Records = ℕ → List (ℕ × Value)

abbrev pub union : Set → Set → Set
union A B u = A u ⊎ B u

-- u has a live link to d
pub record LinkedBy (live : ℕ → Bool) (dep sub : ℕ → ℕ) (d u : ℕ) : Type 0 where
  pub slot : ℕ
  pub is_live : live slot ≡ true
  pub to : dep slot ≡ d
  pub from : sub slot ≡ u

abbrev pub Linked : St → ℕ → ℕ → Type 0
Linked s d u = LinkedBy s.live s.dep s.sub d u

-- u's read links go to exactly the nodes of the list
pub record ReadsBy (kind : ℕ → Kind) (live : ℕ → Bool) (dep sub : ℕ → ℕ) (u : ℕ) (ns : List ℕ) : Type 0 where
  pub all : (d : ℕ) → In d ns → LinkedBy live dep sub d u
  pub only : (d : ℕ) → LinkedBy live dep sub d u → readable (kind d) ≡ true → In d ns
  pub can : (d : ℕ) → In d ns → readable (kind d) ≡ true

-- the value and the links of a computed are those of its formula over the stored values
pub record RightBy (kind : ℕ → Kind) (live : ℕ → Bool) (dep sub : ℕ → ℕ) (form : Tree) (sto : ℕ → Value) (c : ℕ) : Type 0 where
  pub value : sto c ≡ worth form sto
  pub reads : ReadsBy kind live dep sub c (reads form sto)

abbrev pub Right : Given → St → ℕ → Type 0
Right g s c = RightBy g.kind s.live s.dep s.sub (g.form c) s.sto c

-- X is under way; A is exempt: X, and on the way those whose dependencies have just changed
pub record Inv (g : Given) (p : ℕ → Value) (ρ : Records) (X A : Set) (s : St) : Type 0 where
  pub last : s.pend ≡ p
  pub ver : (l : ℕ) → s.live l ≡ true → s.ver l ≤ s.cycle
  pub sig : (n : ℕ) → n < g.size → g.kind n ≡ signal → (s.fl n).dirty ≡ false → s.sto n ≡ p n
  pub mark : (l : ℕ) → s.live l ≡ true → readable (g.kind (s.dep l)) ≡ true → (A (s.sub l) → ⊥) → unclean (s.fl (s.dep l)) ≡ true → (s.fl (s.sub l)).pending ≡ true
  pub val : (c : ℕ) → c < g.size → g.kind c ≡ computed → (A c → ⊥) → (s.fl c).mutable ≡ true → (s.fl c).dirty ≡ false → Right g s c
  -- an effect that is not dirty has read what is stored
  pub seen : (e : ℕ) → e < g.size → g.kind e ≡ effect → s.gone e ≡ false → (A e → ⊥) → (s.fl e).dirty ≡ false → ρ e ≡ readings (g.form e) s.sto
  -- its read links are its record, dirty or not
  pub rec : (e : ℕ) → e < g.size → g.kind e ≡ effect → s.gone e ≡ false → (X e → ⊥) → ReadsBy g.kind s.live s.dep s.sub e (firsts (ρ e))

-- more nodes are exempt
pub exempt : (g : Given) (p : ℕ → Value) (ρ : Records) (X Y A B : Set) (s : St) → ((n : ℕ) → X n → Y n) → ((n : ℕ) → A n → B n) → Inv g p ρ X A s → Inv g p ρ Y B s
exempt g p ρ X Y A B s f h i = record {
  last = i.last;
  ver = i.ver;
  sig = i.sig;
  mark = λ l lv r na. i.mark l lv r (λ a. na (h (s.sub l) a));
  val = λ c lt k na. i.val c lt k (λ a. na (h c a));
  seen = λ e lt k gn na. i.seen e lt k gn (λ a. na (h e a));
  rec = λ e lt k gn nx. i.rec e lt k gn (λ x. nx (f e x));
}

-- queue, depth, log and the mark of being stuck are not looked at
pub beside : (g : Given) (p : ℕ → Value) (ρ : Records) (X A : Set) (s : St) → Inv g p ρ X A s → (q : List ℕ) (d : ℕ) (l : List Row) (b : Bool) → Inv g p ρ X A (with_stuck (with_log (with_depth (with_queue s q) d) l) b)
beside g p ρ X A s i q d l b = record { last = i.last; ver = i.ver; sig = i.sig; mark = i.mark; val = i.val; seen = i.seen; rec = i.rec }

-- ---- flags
pub not_dirty : (f : Named) → unclean f ≡ false → f.dirty ≡ false
not_dirty f e = or_left f.dirty f.pending e

pub not_pending : (f : Named) → unclean f ≡ false → f.pending ≡ false
not_pending f e = or_right f.dirty f.pending e

pub dirty_unclean : (f : Named) → f.dirty ≡ true → unclean f ≡ true
dirty_unclean f e = or_first f.dirty f.pending e

-- ---- a node's clauses speak only of the values that its formula reads
module _ (kind : ℕ → Kind) (live : ℕ → Bool) (dep sub : ℕ → ℕ) (form : Tree) (sto sto' : ℕ → Value) (c : ℕ)
    (same : (m : ℕ) → In m (reads form sto) → sto' m ≡ sto m) where
  pub right_moves : sto' c ≡ sto c → RightBy kind live dep sub form sto c → RightBy kind live dep sub form sto' c
  right_moves h r =
      let p = locally form sto sto' (λ m i. sym (same m i)) in
      record { value = h ∙ r.value ∙ p.0; reads = subst (λ (ns : List ℕ). ReadsBy kind live dep sub c ns) p.1 r.reads }

pub seen_moves : (form : Tree) (sto sto' : ℕ → Value) (xs : List (ℕ × Value)) → ((m : ℕ) → In m (firsts xs) → sto' m ≡ sto m) → xs ≡ readings form sto → xs ≡ readings form sto'
seen_moves form sto sto' xs same e =
    let f : firsts xs ≡ reads form sto = ap firsts e ∙ firsts_readings form sto in
    e ∙ readings_same form sto sto' (λ m i. sym (same m (subst (λ (ns : List ℕ). In m ns) (sym f) i)))

-- ---- and only of its own links
module _ (kind : ℕ → Kind) (live live' : ℕ → Bool) (dep dep' sub sub' : ℕ → ℕ) (c : ℕ)
    (fore : (d : ℕ) → LinkedBy live dep sub d c → LinkedBy live' dep' sub' d c) (back : (d : ℕ) → LinkedBy live' dep' sub' d c → LinkedBy live dep sub d c) where
  pub reads_relink : (ns : List ℕ) → ReadsBy kind live dep sub c ns → ReadsBy kind live' dep' sub' c ns
  reads_relink ns r = record { all = λ d i. fore d (r.all d i); only = λ d l rd. r.only d (back d l) rd; can = r.can }

  pub right_relink : (form : Tree) (sto : ℕ → Value) → RightBy kind live dep sub form sto c → RightBy kind live' dep' sub' form sto c
  right_relink form sto r = record { value = r.value; reads = reads_relink (reads form sto) r.reads }

-- ---- an evaluation of u that began at version `start` and has read ns: the links up to the cursor are those of ns, stamped since then; those after it are older
pub record Evaluated (done rest : List ℕ) (dep ver : ℕ → ℕ) (start : ℕ) (ns : List ℕ) : Type 0 where
  pub covers : (d : ℕ) → In d ns → record { slot : ℕ; within : In slot done; to : dep slot ≡ d }
  pub only : (l : ℕ) → In l done → In (dep l) ns
  pub since : (l : ℕ) → In l done → start ≤ ver l
  pub older : (l : ℕ) → In l rest → ver l < start

abbrev pub Evaluating : St → ℕ → ℕ → List ℕ → Type 0
Evaluating s u start ns = Evaluated (s.done u) (s.rest u) s.dep s.ver start ns
