-- What is read has a value: an accepted read leaves its node clean, never without any flag, and answers what is stored. A signal that was written
-- takes its pending value then, and tells who may hang on it. Assumes nothing.
use Rattle.std.specs.Prelude.{Some}
use mathlib.Core.Path.{◌≡◌, refl, sym, ap, ◌∙◌, subst}
use mathlib.Core.Bool.{Bool, true, false, not}
use mathlib.Core.List.{List, []}
use Prim.Native.Nat.{ℕ, zero, suc, ◌<◌}
use native.Mathlib.Omega.{arith}
use lib.IntN.{ℤ}
use Rattle.flags.specs.declared.Named.{Named}
use Rattle.values.specs.Values.{same}
use Rattle.values.proofs.ValueLaws.{same_yes}
use Rattle.meaning.specs.State.{St, Kind, signal, readable, f1, f17, bare, has_value, up}
use Rattle.meaning.specs.Setters.{set_fl, set_sto, with_log}
use Rattle.meaning.specs.Links.{provided}
use Rattle.meaning.specs.Reads.{Ans, upd_signal, upd_w, fresh_w, fresh, spread, settle_w, settle}
use Rattle.meaning.specs.Words.{read_of, command_of, node_of}
use Rattle.meaning.specs.Refusals.{sight_of, asks_of, wrong_node, table}
use Rattle.meaning.specs.WellFormed.{In, WellFormed}
use Rattle.meaning.specs.Commands.{perform, Answer, accepted, command}
use Rattle.meaning.proofs.Laws.{clash, branch, provided_same, up_by}
use Rattle.meaning.proofs.Still.{given}
use Rattle.meaning.proofs.Refused.{NoneHolds}
use Rattle.meaning.proofs.Performed.{performed}
use Rattle.meaning.proofs.Inside.{static, rest_inside}
use Rattle.meaning.proofs.Soiling.{soil_here}
use Rattle.meaning.proofs.Running.{read_settles}
use Rattle.meaning.proofs.Accepted.{logless, taken}

-- ---- a read of a signal that was written
module _ (s : St) (m : ℕ) where
  abbrev moved : St
  moved = set_sto (set_fl s m f1) m (s.pend m)

  stale_updates : (fr : St → ℕ → Ans) → s.kind m ≡ signal → s.fl m ≡ f17 → fresh_w fr s m ≡ upd_signal s m
  unfolding fresh_w upd_w
  stale_updates fr k f =
      branch (λ (r : Ans). r ≡ upd_signal s m) (bare (s.fl m)) (λ q. clash q (ap bare f))
      (λ q. branch (λ (r : Ans). r ≡ upd_signal s m) (s.fl m).dirty (λ d. ap (λ (z : Kind). upd_w fr z s m) k) (λ d. clash (ap (λ (z : Named). z.dirty) f) d))

  stale_settles : (b : ℕ) → m < b → s.kind m ≡ signal → s.fl m ≡ f17 → settle_w (fresh b) s m ≡ spread (upd_signal s m) m
  unfolding settle_w fresh upd_signal
  stale_settles zero h k f = absurd (omega arith)
  stale_settles (suc b) h k f =
      let t = spread (upd_signal s m) m in
      let kt : t.kind m ≡ signal = branch (λ (x : St). x.kind m ≡ signal) (upd_signal s m).yes (λ q. k) (λ q. k) in
      ap (λ (r : Ans). provided (has_value ((spread r m).kind m) ((spread r m).fl m)) (spread r m)) (stale_updates (fresh b) k f) ∙ provided_same _ t (ap (λ (z : Kind). has_value z (t.fl m)) kt)

  -- pending moves to current; if that changed it, pending subscribers are dirty
  abbrev pub Takes : St → Type 0
  Takes t = (t.sto ≡ up s.sto m (s.pend m)) × ((s.sto m ≡ s.pend m → ⊥) → (l : ℕ) → In l (s.subs m) → (s.fl (s.sub l)).pending ≡ true → (t.fl (s.sub l)).dirty ≡ true)

  stale_takes : m < s.size → s.kind m ≡ signal → s.fl m ≡ f17 → Takes (settle s m)
  unfolding upd_signal
  stale_takes h k f = subst Takes (sym (stale_settles s.size h k f)) (branch Takes (not (same (s.sto m) (s.pend m))) (λ q. (refl, λ ne l i p. soil_here s.sub l (s.subs m) (up s.fl m f1) i (kept l p))) (λ q. (refl, λ ne. absurd (ne (same_yes (s.sto m) (s.pend m) (no_not (same (s.sto m) (s.pend m)) q))))))
    where
      kept : (l : ℕ) → (s.fl (s.sub l)).pending ≡ true → (up s.fl m f1 (s.sub l)).pending ≡ true
      kept l p = up_by s.fl m f1 (λ (z : Named). z.pending ≡ true) (s.sub l) (λ q. clash p (ap (λ (z : Named). z.pending) (ap s.fl q ∙ f))) (λ q. p)

      no_not : (b : Bool) → not b ≡ false → b ≡ true
      no_not true q = refl
      no_not false q = sym q

module _ (s : St) (rows : ℕ) (w : WellFormed s) (ws : List ℤ) (n : ℤ) (is : command_of ws ≡ Some (read_of n)) (ok : (command true s rows ws).code ≡ 0) where
  abbrev Valued : Answer → Type 0
  Valued a = (a.st.fl (node_of n) ≡ f1) × (a.val ≡ a.st.sto (node_of n))

  pub read_valued : Valued (command true s rows ws)
  unfolding table perform wrong_node asks_of
  read_valued =
      let p = performed s rows ws (read_of n) is ok in
      subst Valued (sym p.0) (now p.1)
    where
      now : NoneHolds (table true (sight_of s rows) (Some (read_of n))) → Valued (accepted (perform (with_log s []) (read_of n)))
      now h =
          let wl = logless s rows w in
          let k = taken s rows w readable n (h 2) in
          ((read_settles (given (with_log s [])) (static (with_log s []) wl) (with_log s []) (node_of n) (rest_inside (with_log s []) wl) k.0 k.1).clean, refl)

  pub read_takes : s.kind (node_of n) ≡ signal → s.fl (node_of n) ≡ f17 → Takes s (node_of n) (command true s rows ws).st
  unfolding table perform wrong_node asks_of
  read_takes k f =
      let p = performed s rows ws (read_of n) is ok in
      subst (λ (a : Answer). Takes s (node_of n) a.st) (sym p.0) (stale_takes (with_log s []) (node_of n) (taken s rows w readable n (p.1 2)).0 k f)
