-- Live qubits, and what is done on them.
use Rattle.std.proofs.Common.{◌≡◌, ℕ, zero, suc, Bool, true, false, cond, List, [], ◌∷◌, Option, Some, None, refl, sym, ap, ◌∙◌}
use Rattle.std.specs.Prelude.{slice_get}
use Rattle.gp_base.specs.Run.{Run, Returned, Stopped, Stuck, go_on, ret, stop}
use Rattle.gp_base.specs.declared.event.Event.TheVariants as event
use Rattle.gp_base.specs.declared.event.GateName.{GateName}
use Rattle.gp_base.specs.World.{World, is_live, on_live, did}
use Rattle.hg_graph.specs.Value.{Value, Qubit}
use Rattle.hg_run.specs.code.Leaves.{gate_run}

abbrev or_false : Option Bool → Bool
or_false None = false
or_false (Some b) = b

live_get : (flags : List Bool) (q : ℕ) → or_false (slice_get flags q) ≡ is_live flags q
live_get [] q = refl
live_get (f ∷ flags) zero = refl
live_get (f ∷ flags) (suc q) = live_get flags q

pub live_some : (flags : List Bool) (q : ℕ) (b : Bool) → Some b ≡ slice_get flags q → b ≡ is_live flags q
live_some flags q b e = ap or_false e ∙ live_get flags q

pub live_none : (flags : List Bool) (q : ℕ) → None ≡ slice_get flags q → false ≡ is_live flags q
live_none flags q e = ap or_false e ∙ live_get flags q

-- a run on a live qubit
pub on_live_true : {A : Type 0} (q : ℕ) (m : Run World A) (w : World) → is_live w.flags q ≡ true → on_live q m w ≡ m w
on_live_true q m w e = ap (λ b. cond b (m w) (stop Stuck w)) e

pub on_live_false : {A : Type 0} (q : ℕ) (m : Run World A) (w : World) → is_live w.flags q ≡ false → on_live q m w ≡ Stopped Stuck w
on_live_false q m w e = ap (λ b. cond b (m w) (stop Stuck w)) e

-- a gate on values that are one qubit
pub gate_live : (name : GateName) (vs : List Value) (q : ℕ) (w : World) → vs ≡ Qubit q ∷ [] → is_live w.flags q ≡ true → gate_run name vs w ≡ Returned vs (did (event.Gate1 name q) w)
gate_live name vs q w e l =
    ap (λ vs. gate_run name vs w) e
    ∙ (ap (λ o. go_on o (λ _. ret (Qubit q ∷ []))) (on_live_true q (λ w. Returned tt (did (event.Gate1 name q) w)) w l)
    ∙ ap (λ vs. Returned vs (did (event.Gate1 name q) w)) (sym e))

pub gate_dead : (name : GateName) (vs : List Value) (q : ℕ) (w : World) → vs ≡ Qubit q ∷ [] → is_live w.flags q ≡ false → gate_run name vs w ≡ Stopped Stuck w
gate_dead name vs q w e l =
    ap (λ vs. gate_run name vs w) e ∙ ap (λ o. go_on o (λ _. ret (Qubit q ∷ []))) (on_live_false q (λ w. Returned tt (did (event.Gate1 name q) w)) w l)
