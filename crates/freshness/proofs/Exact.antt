-- T4, the heart: an effect that is not dirty is due exactly if something that its last run read now has another fresh value. Assumes nothing.
use mathlib.Core.Path.{◌≡◌, refl, sym, ap, ◌∙◌, subst}
use mathlib.Core.Logic.{inl, inr}
use mathlib.Core.Bool.{true, false}
use mathlib.Core.List.{List, ◌∷◌}
use Prim.Native.Nat.{ℕ, ◌<◌}
use Rattle.values.specs.declared.Value.{Value}
use Rattle.trees.specs.Trees.{Tree, reads}
use Rattle.meaning.specs.State.{St, effect, readable}
use Rattle.meaning.specs.WellFormed.{In}
use Rattle.freshness.specs.Afresh.{paired, readings, Among, Differs}
use Rattle.meaning.proofs.Laws.{clash}
use Rattle.meaning.proofs.Still.{Given}
use Rattle.meaning.proofs.Inside.{nobody, Static, Inside}
use Rattle.freshness.proofs.Forms.{named, firsts, firsts_readings}
use Rattle.freshness.proofs.Inv.{Records, Inv}
use Rattle.freshness.proofs.Clean.{φ}
use Rattle.freshness.proofs.Run.{Due}

-- a record of values is of those values
among_in : (f : ℕ → Value) (ns : List ℕ) (d : ℕ) (v : Value) → Among d v (paired f ns) → In d ns × (v ≡ f d)
unfolding paired
among_in f List.[] d v x' = elim x' [ ]
among_in f (n ∷ ns) d v (inl e) = (inl e.0, e.1 ∙ ap f (sym e.0))
among_in f (n ∷ ns) d v (inr i) = let r = among_in f ns d v i in (inr r.0, r.1)

in_among : (f : ℕ → Value) (ns : List ℕ) (d : ℕ) → In d ns → Among d (f d) (paired f ns)
unfolding paired
in_among f List.[] d x' = elim x' [ ]
in_among f (n ∷ ns) d (inl e) = inl (e, ap f e)
in_among f (n ∷ ns) d (inr i) = inr (in_among f ns d i)

-- a record over the values that there are differs in nothing
pub nothing_differs : (t : Tree) (f : ℕ → Value) → Differs (readings t f) f → ⊥
unfolding readings
nothing_differs t f w = w.new (sym (among_in f (reads t f) w.node w.was w.read).1)

module _ (g : Given) (st : Static g) (p : ℕ → Value) (ρ : Records) (s : St) (i : Inside g nobody s) (v : Inv g p ρ nobody nobody s) (e : ℕ) (h : e < g.size) (k : g.kind e ≡ effect) (a : s.gone e ≡ false) (nd : (s.fl e).dirty ≡ false) where
  told : ρ e ≡ readings (g.form e) s.sto
  told = v.seen e h k a (λ z. z) nd

  pub due_differs : Due g p s e → Differs (ρ e) (φ g p)
  unfolding readings
  due_differs (inl d) = clash d nd
  due_differs (inr w) =
      let d = s.dep w.link in
      let j : In d (firsts (ρ e)) = (v.rec e h k a (λ z. z)).only d (record { slot = w.link; is_live = w.live; to = refl; from = w.to }) w.reads in
      let r : In d (reads (g.form e) s.sto) = subst (In d) (ap firsts told ∙ firsts_readings (g.form e) s.sto) j in
      record { node = d; was = s.sto d; read = subst (Among d (s.sto d)) (sym told) (in_among s.sto (reads (g.form e) s.sto) d r); new = λ z. w.old (sym z) }

  pub differs_due : Differs (ρ e) (φ g p) → Due g p s e
  unfolding readings
  differs_due w =
      let d = w.node in
      let r = among_in s.sto (reads (g.form e) s.sto) d w.was (subst (Among d w.was) told w.read) in
      let j : In d (firsts (ρ e)) = subst (In d) (sym (ap firsts told ∙ firsts_readings (g.form e) s.sto)) r.0 in
      let l = (v.rec e h k a (λ z. z)).all d j in
      let low = st.names_lower e d h (named (g.form e) s.sto d r.0) in
      inr (record {
        link = l.slot;
        live = l.is_live;
        to = l.from;
        reads = subst (λ (n : ℕ). readable (g.kind n) ≡ true) (sym l.to) low.0;
        old = λ z. w.new (sym (subst (λ (n : ℕ). s.sto n ≡ φ g p n) l.to z) ∙ sym r.1);
      })
