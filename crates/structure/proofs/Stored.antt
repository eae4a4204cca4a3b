-- One word of a node is stored, which is no head and no tail of subscribers: the cursor goes back, new flags, the mark of being gone. Assumes nothing.
use mathlib.Core.Path.{◌≡◌, refl, sym, ap, ap₂, ◌∙◌, subst, fun_ext}
use mathlib.Core.Bool.{Bool, true, false, not}
use mathlib.Core.List.{List, [], ◌++◌}
use Prim.Native.Nat.{ℕ, zero, suc, ◌%◌, ◌<◌}
use native.Mathlib.Omega.{arith}
use lib.Dec.{eqb}
use lib.IntN.{ℤ}
use borrow.Author.Tests.{eqb-true, eqb-false}
use Rattle.flags.specs.declared.Named.{Named}
use Rattle.flags.specs.Flags.{named}
use Rattle.primitive.specs.Rows.{has_field}
use Rattle.primitive.specs.Words.{PREV-DEP, NEXT-DEP, DEPS, DEPS-TAIL, NEXT-SUB, SUBS, SUBS-TAIL, FLAGS, GONE, KIND, OWNER, LEVEL, node, link, set_node}
use Rattle.primitive.proofs.RowLaws.{other_record, other_field}
use Rattle.lists.specs.Sum.{bit}
use Rattle.linking.specs.Table.{Tab, tab}
use Rattle.linking.proofs.Untouched.{Untouched, by_node}
use Rattle.refusing.specs.Sight.{kind_of}
use Rattle.meaning.specs.State.{St, up, deps}
use Rattle.meaning.specs.Setters.{with_gone, with_fl, with_done, with_rest, set_fl, set_gone}
use Rattle.meaning.specs.Links.{rewind}
use Rattle.meaning.specs.Played.{byte}
use Rattle.meaning.specs.WellFormed.{Lists}
use Rattle.meaning.proofs.Laws.{either, up_same, up_other, up_by}
use Rattle.structure.specs.Chains.{last_word, Chain, Back}
use Rattle.structure.specs.Rep.{word_at, Kinds, Flags}
use Rattle.structure.proofs.Chained.{chain_ext}
use Rattle.structure.proofs.Lens.{ptr, NodeIn, node_same}
use Rattle.structure.proofs.Held.{Held, Shows, node_within, keep_flags, same_lengths, same_registers, same_kinds, same_forms, same_queue}

-- the cursor goes back: the whole lists stay
pub rewound : (s : St) (n m : ℕ) → deps s m ≡ deps (rewind s n) m
rewound s n m =
    either (eqb m n)
    (λ e. subst (λ (z : ℕ). s.done z ++ s.rest z ≡ up s.done n [] z ++ up s.rest n (s.done n ++ s.rest n) z) (sym (eqb-true m n e))
    (sym (ap₂ (λ (x y : List ℕ). x ++ y) (up_same s.done n []) (up_same s.rest n (s.done n ++ s.rest n)))))
    (λ e. let q = eqb-false m n e in sym (ap₂ (λ (x y : List ℕ). x ++ y) (up_other s.done n [] m q) (up_other s.rest n (s.done n ++ s.rest n) m q)))

pub held_rewind : (s : St) (n : ℕ) → Held s → Held (rewind s n)
held_rewind s n w = record {
  lists = subst (λ (f : ℕ → List ℕ). Lists s.room.slots s.size s.free s.live s.dep s.sub f (λ v. []) s.subs) (fun_ext (rewound s n)) w.lists;
  fit = w.fit;
}

module _ (ran : List ℕ) (t : Tab) (W C : List ℤ) (s : St) (n : ℕ) (w : Held s) (r : Shows ran t W C s) (low : n < s.size) where
  n_in : NodeIn t.nodes n
  n_in = node_within t.nodes t.links W C s n r.lengths w.fit low

  abbrev after : ℕ → ℕ → Tab
  after h v = tab (set_node t.nodes n h v) t.links

  store_ptr : (h v f m g x : ℕ) → eqb g h ≡ false → ptr (after h v) f m g x ≡ ptr t f m g x
  unfolding word_at
  store_ptr h v f m g zero q = other_field 16 t.nodes n m h g v q
  store_ptr h v f m g (suc x) q = refl

  -- what is not said of the field's own column stays
  stored : (h v : ℕ) → h < 7 → eqb 1 h ≡ false → eqb DEPS h ≡ false → eqb SUBS h ≡ false → eqb SUBS-TAIL h ≡ false
      → (gn : ℕ → Bool) (F : ℕ → Named) (dn rs : ℕ → List ℕ) → ((m : ℕ) → deps s m ≡ dn m ++ rs m)
      → Kinds (after h v).nodes s.size s.kind gn s.owner s.level → Flags (after h v).nodes s.size F
      → ((m : ℕ) → m < s.size → node (after h v).nodes m DEPS-TAIL ≡ last_word 0 (dn m))
      → Shows ran (after h v) W C (with_rest (with_done (with_fl (with_gone s gn) F) dn) rs)
  stored h v a b c d e gn F dn rs whole ks fs tail =
      let k : Untouched t (after h v) = by_node t n h v a b in
      record {
        lengths = same_lengths t (after h v) k W C s.room r.lengths;
        registers = same_registers t (after h v) k _ _ _ _ r.registers;
        kinds = ks;
        flags = fs;
        values = r.values;
        forms = same_forms t (after h v) k C _ _ _ r.forms;
        slots = r.slots;
        deps = record {
          next = λ m x. subst (Chain (ptr (after h v) NEXT-DEP m DEPS) 0) (whole m) (chain_ext (ptr t NEXT-DEP m DEPS) (ptr (after h v) NEXT-DEP m DEPS) 0 (deps s m) (λ y. store_ptr h v NEXT-DEP m DEPS y c) (r.deps.next m x));
          prev = λ m x. subst (Back (λ y. link t.links y PREV-DEP) 0) (whole m) (r.deps.prev m x);
          tail = tail;
        };
        subs = record {
          next = λ m x. chain_ext (ptr t NEXT-SUB m SUBS) (ptr (after h v) NEXT-SUB m SUBS) 0 (s.subs m) (λ y. store_ptr h v NEXT-SUB m SUBS y d) (r.subs.next m x);
          prev = r.subs.prev;
          tail = λ m x. other_field 16 t.nodes n m h SUBS-TAIL v e ∙ r.subs.tail m x;
        };
        free = r.free;
        queue = same_queue t (after h v) k ran _ r.queue;
      }

  same : (h v m f : ℕ) → eqb f h ≡ false → node (after h v).nodes m f ≡ node t.nodes m f
  same h v m f q = other_field 16 t.nodes n m h f v q

  same_marks : (h v : ℕ) → h < 7 → eqb 1 h ≡ false → eqb GONE h ≡ false → Kinds (after h v).nodes s.size s.kind s.gone s.owner s.level
  same_marks h v a b c = same_kinds t (after h v) (by_node t n h v a b) _ _ _ _ _ (λ m. same h v m GONE c) r.kinds

  same_cursors : (h v : ℕ) → eqb DEPS-TAIL h ≡ false → (m : ℕ) → m < s.size → node (after h v).nodes m DEPS-TAIL ≡ last_word 0 (s.done m)
  same_cursors h v q m x = same h v m DEPS-TAIL q ∙ r.deps.tail m x

  pub rewind_shows : Shows ran (tab (set_node t.nodes n DEPS-TAIL 0) t.links) W C (rewind s n)
  unfolding has_field
  rewind_shows =
      stored DEPS-TAIL 0 (omega arith) refl refl refl refl s.gone s.fl (up s.done n []) (up s.rest n (s.done n ++ s.rest n)) (rewound s n)
      (same_marks DEPS-TAIL 0 (omega arith) refl refl) (keep_flags t.nodes (after DEPS-TAIL 0).nodes _ _ (λ m. same DEPS-TAIL 0 m FLAGS refl) r.flags)
      (λ m x. up_by s.done n [] (λ (xs : List ℕ). node (after DEPS-TAIL 0).nodes m DEPS-TAIL ≡ last_word 0 xs) m
      (λ e. subst (λ (z : ℕ). node (after DEPS-TAIL 0).nodes z DEPS-TAIL ≡ 0) (sym e) (node_same t.nodes n DEPS-TAIL 0 refl n_in))
      (λ e. other_record 16 t.nodes n m DEPS-TAIL DEPS-TAIL 0 e ∙ r.deps.tail m x))

  -- f is the byte of F
  pub flag_shows : (f : ℕ) (F : Named) → f ≡ byte F → named (f % 256) ≡ F → Shows ran (tab (set_node t.nodes n FLAGS f) t.links) W C (set_fl s n F)
  unfolding has_field
  flag_shows f F e q =
      let own : node (after FLAGS f).nodes n FLAGS ≡ f = node_same t.nodes n FLAGS f refl n_in in
      stored FLAGS f (omega arith) refl refl refl refl s.gone (up s.fl n F) s.done s.rest (λ m. refl) (same_marks FLAGS f (omega arith) refl refl)
      (record {
        flags = λ m. up_by s.fl n F (λ (z : Named). named (node (after FLAGS f).nodes m FLAGS % 256) ≡ z) m
            (λ z. ap (λ (x : ℕ). named (node (after FLAGS f).nodes x FLAGS % 256)) z ∙ ap (λ (x : ℕ). named (x % 256)) own ∙ q)
            (λ z. ap (λ (x : ℕ). named (x % 256)) (other_record 16 t.nodes n m FLAGS FLAGS f z) ∙ r.flags.flags m);
        flag_word = λ m x. up_by s.fl n F (λ (z : Named). node (after FLAGS f).nodes m FLAGS ≡ byte z) m
            (λ z. ap (λ (y : ℕ). node (after FLAGS f).nodes y FLAGS) z ∙ own ∙ e) (λ z. other_record 16 t.nodes n m FLAGS FLAGS f z ∙ r.flags.flag_word m x);
      })
      (same_cursors FLAGS f refl)

  pub gone_shows : Shows ran (tab (set_node t.nodes n GONE 1) t.links) W C (set_gone s n true)
  unfolding has_field
  gone_shows =
      let own : node (after GONE 1).nodes n GONE ≡ 1 = node_same t.nodes n GONE 1 refl n_in in
      let z = r.kinds in
      stored GONE 1 (omega arith) refl refl refl refl (up s.gone n true) s.fl s.done s.rest (λ m. refl)
      (record {
        kind = λ m. ap kind_of (same GONE 1 m KIND refl) ∙ z.kind m;
        gone = λ m. up_by s.gone n true (λ (b : Bool). not (eqb (node (after GONE 1).nodes m GONE) 0) ≡ b) m
            (λ e. ap (λ (x : ℕ). not (eqb x 0)) (ap (λ (x : ℕ). node (after GONE 1).nodes x GONE) e ∙ own))
            (λ e. ap (λ (x : ℕ). not (eqb x 0)) (other_record 16 t.nodes n m GONE GONE 1 e) ∙ z.gone m);
        owner = λ m. same GONE 1 m OWNER refl ∙ z.owner m;
        level = λ m. same GONE 1 m LEVEL refl ∙ z.level m;
        kind_word_lem = λ m x. same GONE 1 m KIND refl ∙ z.kind_word_lem m x;
        gone_word = λ m x. up_by s.gone n true (λ (b : Bool). node (after GONE 1).nodes m GONE ≡ bit b) m
            (λ e. ap (λ (y : ℕ). node (after GONE 1).nodes y GONE) e ∙ own) (λ e. other_record 16 t.nodes n m GONE GONE 1 e ∙ z.gone_word m x);
      })
      (keep_flags t.nodes (after GONE 1).nodes _ _ (λ m. same GONE 1 m FLAGS refl) r.flags) (same_cursors GONE 1 refl)
