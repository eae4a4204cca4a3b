-- One node more over words is one node more over lists: tables that represented the state before represent the state after, and the number is the next one. Assumes nothing.
use Rattle.std.specs.Prelude.{Option}
use mathlib.Core.Path.{◌≡◌, refl, sym, ap, ap₂, ◌∙◌, subst}
use mathlib.Core.Bool.{Bool, true, false, not, ◌&&◌}
use mathlib.Core.List.{List, [], ◌++◌}
use Prim.Native.Nat.{ℕ, zero, suc, ◌+◌, ◌*◌, ◌/◌, ◌%◌, ◌<◌, ◌≤◌}
use native.Mathlib.Omega.{arith}
use lib.Dec.{eqb}
use lib.IntN.{ℤ, pos}
use lib.ListN.{length, get_or, set, take, drop}
use lib.Seq.{take-take}
use borrow.Author.Tests.{eqb-true, eqb-false, lt-ltb, le-leb}
use Rattle.flags.specs.declared.Named.{Named}
use Rattle.values.specs.declared.Value.{Value}
use Rattle.flags.specs.Flags.{named}
use Rattle.primitive.specs.Words.{COUNT, USED, DEPTH, QUEUE, FLAGS, KIND, GONE, DEPS, DEPS-TAIL, SUBS, SUBS-TAIL, START, CELLS, READS, OWNER, LEVEL, NEXT-DEP, PREV-DEP, PREV-SUB, NEXT-SUB, node as word, link, node_rows}
use Rattle.trees.specs.Trees.{Tree, constant, written, size}
use Rattle.trees.specs.Names.{read_cells}
use Rattle.trees.proofs.Written.{length_written}
use Rattle.trees.proofs.Ends.{read_cells_lem}
use Rattle.lists.specs.Sum.{bit}
use Rattle.refusing.specs.Sight.{kind_of}
use Rattle.reading.specs.Tables.{State, state, set_current}
use Rattle.primitive.specs.Kinds.{kind_word as word_of}
use Rattle.operating.specs.declared.making.Sort.{Sort}
use Rattle.operating.specs.Making.{Made, made, described, laid, valued, has_room, make}
use Rattle.meaning.specs.State.{St, Kind, signal, computed, effect, scope, deps, up}
use Rattle.meaning.specs.Engine.{level_of, cells_of, node}
use Rattle.meaning.specs.Played.{byte}
use Rattle.meaning.proofs.Laws.{either, up_same, up_other, up_by}
use Rattle.meaning.proofs.Making.{Fits}
use Rattle.structure.specs.Chains.{last_word, Chain, Back}
use Rattle.structure.specs.Rep.{kind_word, owner_word, has_form, word_at, Kinds, Flags, Values, Spelt, Forms}
use Rattle.structure.proofs.WordLaws.{kind_of_word}
use Rattle.structure.proofs.Chained.{chain_ext}
use Rattle.structure.proofs.Lens.{NodeIn}
use Rattle.structure.proofs.Held.{keep_queue}
use Rattle.structure.proofs.FlagBytes.{named_byte}
use Rattle.structure.proofs.Steps.{Sees, current_at, current_kept, current_long, pending_at_lem, pending_kept, pending_long}
use Rattle.structure.proofs.NewRow.{with_row, new_long, new_head, new_count, new_used, new_other, new_flags, new_kind, new_gone, new_deps, new_deps_tail, new_subs, new_subs_tail, new_start, new_cells, new_reads, new_owner, new_level, new_queue, laid_long, laid_before, laid_here, own_window}

-- the words k, ws of a new node say kind K, formula t, owner o and flags b
pub record Says (s : St) (k : Sort) (ws : List ℤ) (K : Kind) (t : Tree) (o : Option ℕ) (b : Named) : Type 0 where
  pub kind : word_of k.kind ≡ kind_word K
  pub flags : k.flags.bits ≡ byte b
  pub owner : k.owner ≡ owner_word o
  pub level : k.level ≡ level_of s.level K t o
  pub written : has_form K ≡ true → ws ≡ written t
  pub without : has_form K ≡ false → (t ≡ constant (pos 0)) × (ws ≡ [])

module _ (ran : List ℕ) (x : State) (C : List ℤ) (s : St) (k : Sort) (ws : List ℤ) (v : Value) (K : Kind) (t : Tree) (o : Option ℕ) (b : Named) (r : Sees ran x C s) (fits : Fits s K t o) (says : Says s k ws K t o b) where
  abbrev n : ℕ
  n = s.size

  abbrev u : ℕ
  u = s.used

  abbrev N : List ℕ
  N = x.nodes

  abbrev L : List ℕ
  L = x.links

  abbrev W : List ℤ
  W = x.values

  -- as many cells as the formula has
  few : (c : Kind) → K ≡ c → length ws ≡ cells_of c t * 2
  few signal e = ap length (says.without (ap has_form e)).1
  few computed e = ap length (says.written (ap has_form e)) ∙ length_written t
  few effect e = ap length (says.written (ap has_form e)) ∙ length_written t
  few scope e = ap length (says.without (ap has_form e)).1

  long : length ws ≡ cells_of K t * 2
  long = few K refl

  there : NodeIn N n
  there = let e = r.lengths.of_nodes in let h = fits.room in omega arith

  abbrev after : List ℕ
  after = with_row N n k ws (suc n) (u + length ws / 2)

  abbrev cells : List ℤ
  cells = laid C (u * 2) ws

  abbrev values : List ℤ
  values = valued W n v

  -- ---- there is room
  room : has_room N C (length ws / 2) ≡ true
  unfolding has_room
  room =
      let a = r.registers.count in
      let c = r.registers.used in
      let d = r.lengths.of_nodes in
      let e = r.lengths.of_cells in
      let f = fits.room in
      let g = fits.cells in
      let l = long in
      ap₂ ◌&&◌ (lt-ltb (suc (get_or N COUNT 0)) (node_rows N) (omega arith)) (le-leb (get_or N USED 0 + length ws / 2) (length C / 2) (omega arith))

  pub make_is : make x C k ws v ≡ made n (state after L values) cells
  unfolding make
  make_is =
      ap₂ (λ (z y : ℕ). pick z y (has_room N C (length ws / 2))) r.registers.count r.registers.used ∙ ap (pick n u) room
    where
      pick : ℕ → ℕ → Bool → Made
      pick z y c = elim c [ true ↦ made z (state (set (set (described N z k ws) COUNT (suc z)) USED (y + length ws / 2)) L (valued W z v)) (laid C (y * 2) ws) | false ↦ made z x C ]

  abbrev c' : ℕ
  c' = suc n

  abbrev u' : ℕ
  u' = u + length ws / 2

  -- ---- columns of the node table: the word of the new node, and every other as it was
  column : {A : Type 0} (F : ℕ) (p : ℕ → A) (f : ℕ → A) (a : A) → p (word after n F) ≡ a → ((m : ℕ) → p (word N m F) ≡ f m) → (m : ℕ) → p (word after m F) ≡ up f n a m
  column F p f a e h m = up_by f n a (λ z. p (word after m F) ≡ z) m (λ q. ap (λ (z : ℕ). p (word after z F)) q ∙ e) (λ q. ap p (new_other N n k ws c' u' there m F q) ∙ h m)

  below : (m : ℕ) → m < suc n → (m ≡ n → ⊥) → m < n
  below m h q = omega (arith, q)

  -- the same for a word that is told by what it says
  told : {A : Type 0} (F : ℕ) (p : A → ℕ) (f : ℕ → A) (a : A) → word after n F ≡ p a → (m : ℕ) → ((m ≡ n → ⊥) → word N m F ≡ p (f m)) → word after m F ≡ p (up f n a m)
  told F p f a e m h = up_by f n a (λ z. word after m F ≡ p z) m (λ q. ap (λ (z : ℕ). word after z F) q ∙ e) (λ q. new_other N n k ws c' u' there m F q ∙ h q)

  kinds : Kinds after (suc n) (up s.kind n K) (up s.gone n false) (up s.owner n o) (up s.level n (level_of s.level K t o))
  kinds =
      let kd : word after n KIND ≡ kind_word K = new_kind N n k ws c' u' there ∙ says.kind in
      let gn : word after n GONE ≡ 0 = new_gone N n k ws c' u' there in
      record {
        kind = column KIND kind_of s.kind K (ap kind_of kd ∙ kind_of_word K) r.kinds.kind;
        gone = column GONE (λ (z : ℕ). not (eqb z 0)) s.gone false (ap (λ (z : ℕ). not (eqb z 0)) gn) r.kinds.gone;
        owner = λ m. told OWNER owner_word s.owner o (new_owner N n k ws c' u' there ∙ says.owner) m (λ q. r.kinds.owner m);
        level = column LEVEL (λ (z : ℕ). z) s.level (level_of s.level K t o) (new_level N n k ws c' u' there ∙ says.level) r.kinds.level;
        kind_word_lem = λ m h. told KIND kind_word s.kind K kd m (λ q. r.kinds.kind_word_lem m (below m h q));
        gone_word = λ m h. told GONE bit s.gone false gn m (λ q. r.kinds.gone_word m (below m h q));
      }

  flags : Flags after (suc n) (up s.fl n b)
  flags =
      let e : word after n FLAGS ≡ byte b = new_flags N n k ws c' u' there ∙ says.flags in
      record {
        flags = column FLAGS (λ (z : ℕ). named (z % 256)) s.fl b (ap (λ (z : ℕ). named (z % 256)) e ∙ named_byte b) r.flags.flags;
        flag_word = λ m h. told FLAGS byte s.fl b e m (λ q. r.flags.flag_word m (below m h q));
      }

  -- ---- values
  wide : n * 4 + 4 ≤ length W
  wide = let e = r.lengths.of_values in let h = fits.room in omega arith

  wider : n * 4 + 4 ≤ length (set_current W n v)
  wider = let e = current_long W n v wide in let h = wide in omega arith

  values_are : Values values (up s.sto n v) (up s.pend n v)
  unfolding valued
  values_are = record {
    current = λ m. pending_kept (set_current W n v) n v wider m ∙ current_at W n v wide m s.sto r.values.current;
    pending = λ m. pending_at_lem (set_current W n v) n v wider m s.pend (λ y. current_kept W n v wide y ∙ r.values.pending y);
  }

  values_long : length values ≡ length W
  unfolding valued
  values_long = pending_long (set_current W n v) n v wider ∙ current_long W n v wide

  -- ---- formulas
  fit : u * 2 + length ws ≤ length C
  fit = let e = r.lengths.of_cells in let h = fits.cells in let l = long in omega arith

  fit_before : get_or N USED 0 * 2 ≤ length C
  fit_before = let e = r.registers.used in let h = fit in omega arith

  used : get_or after USED 0 ≡ u'
  used = new_used N n k ws c' u' there

  fit_after : get_or after USED 0 * 2 ≤ length cells
  fit_after = let e = used in let h = fit in let l = laid_long C (u * 2) ws fit in omega arith

  spelt_old : (m : ℕ) → (m ≡ n → ⊥) → (f : Tree) → Spelt N C m f → Spelt after cells m f
  spelt_old m q f z =
      let same : (F : ℕ) → word after m F ≡ word N m F = λ F. new_other N n k ws c' u' there m F q in
      let p = word N m START in
      let l = word N m CELLS in
      let e = r.registers.used in
      let i = z.inside in
      let inside : word after m START + word after m CELLS ≤ get_or after USED 0 = let a = same START in let b = same CELLS in let g = used in omega arith in
      let cut : (Y : List ℤ) → take (p * 2 + l * 2) Y ≡ take (p * 2 + l * 2) (take (u * 2) Y) = λ Y. sym (take-take (p * 2 + l * 2) (u * 2) Y (omega arith)) in
      record {
        inside = inside;
        long = z.long ∙ sym (same CELLS);
        words = own_window after cells m fit_after inside ∙ ap₂ (λ (y w : ℕ). drop (y * 2) (take (y * 2 + w * 2) cells)) (same START) (same CELLS)
            ∙ ap (drop (p * 2)) (cut cells ∙ ap (take (p * 2 + l * 2)) (laid_before C (u * 2) ws fit) ∙ sym (cut C))
            ∙ sym (own_window N C m fit_before i) ∙ z.words;
        counted = same READS ∙ z.counted;
      }

  spelt_new : has_form K ≡ true → Spelt after cells n t
  spelt_new h =
      let e = says.written h in
      let l : length ws ≡ size t * 2 = ap length e ∙ length_written t in
      let st : word after n START ≡ u = new_start N n k ws c' u' there ∙ r.registers.used in
      let cs : word after n CELLS ≡ length ws / 2 = new_cells N n k ws c' u' there in
      let inside : word after n START + word after n CELLS ≤ get_or after USED 0 = let g = used in omega arith in
      record {
        inside = inside;
        long = omega arith;
        words = own_window after cells n fit_after inside ∙ ap₂ (λ (y w : ℕ). drop (y * 2) (take (y * 2 + w) cells)) st (let d : word after n CELLS * 2 ≡ length ws = omega arith in d)
            ∙ laid_here C (u * 2) ws fit ∙ e;
        counted = new_reads N n k ws c' u' there ∙ ap read_cells e ∙ read_cells_lem t;
      }

  forms : Forms after cells (suc n) (up s.kind n K) (up s.form n t)
  forms = record {
    spelt = λ m h q. either (eqb m n)
        (λ e. let z = eqb-true m n e in
        subst (λ (y : ℕ). Spelt after cells y (up s.form n t y)) (sym z) (subst (Spelt after cells n) (sym (up_same s.form n t)) (spelt_new (ap has_form (sym (up_same s.kind n K) ∙ ap (up s.kind n K) (sym z)) ∙ q))))
        (λ e. let z = eqb-false m n e in
        subst (Spelt after cells m) (sym (up_other s.form n t m z)) (spelt_old m z (s.form m) (r.forms.spelt m (below m h z) (ap has_form (sym (up_other s.kind n K m z)) ∙ q))));
    without = λ m h q. up_by s.form n t (λ (f : Tree). f ≡ constant (pos 0)) m
        (λ z. (says.without (ap has_form (sym (up_same s.kind n K) ∙ ap (up s.kind n K) (sym z)) ∙ q)).0)
        (λ z. r.forms.without m (below m h z) (ap has_form (sym (up_other s.kind n K m z)) ∙ q));
    past = λ m h. up_other s.form n t m (λ z. omega arith) ∙ r.forms.past m (omega arith);
  }

  -- ---- lists: none of the new node
  ptr_old : (F m G y : ℕ) → (m ≡ n → ⊥) → word_at after L F m G y ≡ word_at N L F m G y
  unfolding word_at
  ptr_old F m G zero q = new_other N n k ws c' u' there m G q
  ptr_old F m G (suc y) q = refl

  deps_new : deps (node s K t o b v) n ≡ []
  deps_new = ap₂ (λ (y z : List ℕ). y ++ z) (up_same s.done n []) (up_same s.rest n [])

  deps_old : (m : ℕ) → (m ≡ n → ⊥) → deps (node s K t o b v) m ≡ deps s m
  deps_old m q = ap₂ (λ (y z : List ℕ). y ++ z) (up_other s.done n [] m q) (up_other s.rest n [] m q)

  pub make_sees : Sees ran (state after L values) cells (node s K t o b v)
  unfolding word_at
  make_sees = record {
    lengths = record {
      of_nodes = new_long N n k ws c' u' there ∙ r.lengths.of_nodes;
      of_links = r.lengths.of_links;
      of_values = values_long ∙ r.lengths.of_values;
      of_cells = laid_long C (u * 2) ws fit ∙ r.lengths.of_cells;
    };
    registers = record {
      count = new_count N n k ws c' u' there;
      used = used ∙ ap (λ (z : ℕ). u + z) (let l = long in let e : length ws / 2 ≡ cells_of K t = omega arith in e);
      depth = new_head N n k ws c' u' there DEPTH (omega arith) (λ e. omega arith) (λ e. omega arith) ∙ r.registers.depth;
      cycle = r.registers.cycle;
    };
    kinds = kinds;
    flags = flags;
    values = values_are;
    forms = forms;
    slots = r.slots;
    deps = record {
      next = λ m h. by_node m (λ (y : ℕ) (z : List ℕ). Chain (word_at after L NEXT-DEP y DEPS) 0 z) (deps (node s K t o b v)) (deps s) deps_new deps_old
          (new_deps N n k ws c' u' there) (λ q. chain_ext (word_at N L NEXT-DEP m DEPS) (word_at after L NEXT-DEP m DEPS) 0 (deps s m) (λ y. ptr_old NEXT-DEP m DEPS y q) (r.deps.next m (below m h q)));
      prev = λ m h. by_node m (λ (y : ℕ) (z : List ℕ). Back (λ (w : ℕ). link L w PREV-DEP) 0 z) (deps (node s K t o b v)) (deps s) deps_new deps_old tt (λ q. r.deps.prev m (below m h q));
      tail = λ m h. told DEPS-TAIL (last_word 0) s.done [] (new_deps_tail N n k ws c' u' there) m (λ q. r.deps.tail m (below m h q));
    };
    subs = record {
      next = λ m h. by_node m (λ (y : ℕ) (z : List ℕ). Chain (word_at after L NEXT-SUB y SUBS) 0 z) (up s.subs n []) s.subs (up_same s.subs n []) (λ y q. up_other s.subs n [] y q)
          (new_subs N n k ws c' u' there) (λ q. chain_ext (word_at N L NEXT-SUB m SUBS) (word_at after L NEXT-SUB m SUBS) 0 (s.subs m) (λ y. ptr_old NEXT-SUB m SUBS y q) (r.subs.next m (below m h q)));
      prev = λ m h. by_node m (λ (y : ℕ) (z : List ℕ). Back (λ (w : ℕ). link L w PREV-SUB) 0 z) (up s.subs n []) s.subs (up_same s.subs n []) (λ y q. up_other s.subs n [] y q) tt (λ q. r.subs.prev m (below m h q));
      tail = λ m h. told SUBS-TAIL (last_word 0) s.subs [] (new_subs_tail N n k ws c' u' there) m (λ q. r.subs.tail m (below m h q));
    };
    free = r.free;
    queue = keep_queue N after ran _ (new_long N n k ws c' u' there) (new_head N n k ws c' u' there QUEUE (omega arith) (λ e. omega arith) (λ e. omega arith)) same_entry r.queue;
  }
    where
      by_node : (m : ℕ) (P : ℕ → List ℕ → Type 0) (f g : ℕ → List ℕ) → f n ≡ [] → ((y : ℕ) → (y ≡ n → ⊥) → f y ≡ g y) → P n [] → ((m ≡ n → ⊥) → P m (g m)) → P m (f m)
      by_node m P f g e h p q = either (eqb m n) (λ z. subst (λ (y : ℕ). P y (f y)) (sym (eqb-true m n z)) (subst (P n) (sym e) p)) (λ z. let y = eqb-false m n z in subst (P m) (sym (h m y)) (q y))

      same_entry : (m : ℕ) → word after m QUEUE ≡ word N m QUEUE
      same_entry m = either (eqb m n) (λ z. subst (λ (y : ℕ). word after y QUEUE ≡ word N y QUEUE) (sym (eqb-true m n z)) (new_queue N n k ws c' u' there)) (λ z. new_other N n k ws c' u' there m QUEUE (eqb-false m n z))
