-- In a valid ordered graph a region may be run by firing any ready node first, with no bounds in sight.
use Rattle.std.proofs.Common.{◌≡◌, ℕ, zero, suc, ◌+◌, ◌<◌, ◌≤◌, true, List, [], ◌∷◌, length, refl, sym, ap, ◌∙◌, arith}
use Rattle.gp_base.specs.Run.{◌>>=◌}
use Rattle.hg_ops.specs.Op.{outs_of, is_dataflow_container}
use Rattle.gp_base.specs.Membership.{In}
use Rattle.hg_graph.specs.Graph.{Graph, op_at}
use Rattle.hg_graph.specs.Ordered.{IsOrdered}
use Rattle.hg_graph.specs.Run.{Fired, Open, outs_at, Ready, ready, no_note, fire, firings, runs, world_out}
use Rattle.hg_graph.specs.Value.{Value, HaveTypes, functions}
use Rattle.hg_laws.proofs.Runs.{bind_shows}
use Rattle.hg_laws.proofs.Diamond.{canon, any_first}
use Rattle.hg_laws.proofs.Looks.{plus, In-ready}
use Rattle.hg_laws.proofs.Flow.{Sound, typed_inputs, sound_plus}
use Rattle.hg_laws.proofs.Children.{child_is, kid_is}
use Rattle.hg_laws.proofs.Known.{HasRegion, Known}
use Rattle.hg_laws.proofs.Regions.{is_region, inner_kid}
use Rattle.hg_laws.proofs.Typed.{TypedEnter, fire_gives, resume_typed}
use Rattle.hg_laws.proofs.Alike.{Plain, Doing, at, seen, seen_gives, AlikeEnter, shows_right, fire_alike}
use Rattle.hg_laws.proofs.Order.{PureEnter, shows_fire, add, finish, Good, Fine, diamond, firings_show}
use Rattle.hg_laws.proofs.AnyOrder.{enter_op_pure, resume_alike}
use Rattle.hg_laws.proofs.Bounds.{runs_unfold}

module _ (g : Graph) (V : Known g) (O : IsOrdered g) where
  runs_typed : TypedEnter {N = Unit {0}} g (runs no_note g)
  unfolding runs
  runs_typed = record { typed = λ outer n vs l h. record { gives = λ s. ((resume_typed no_note g V (suc s.world.turns)).typed outer n vs l h).gives s } }

  runs_alike : (d : ℕ) → d ≤ length g.nodes → AlikeEnter g d (runs no_note g)
  unfolding runs
  runs_alike d l = record { alike = λ outer outer' n vs i k h. record { alike = λ w p q. ((resume_alike g V O (suc w.turns)).alike outer outer' n vs i (omega arith) h).alike w p q } }

  runs_pure : (d : ℕ) → d ≤ length g.nodes → PureEnter g d (runs no_note g)
  runs_pure zero l = record { pure = λ n vs i k h ef ty. absurd (omega arith) }
  runs_pure (suc d) l = record {
    pure = λ n vs i k h ef ty.
        let r = enter_op_pure g V (runs no_note g) (runs no_note g) runs_typed runs_typed d (runs_alike d (omega arith)) (runs_alike (length g.nodes) (omega arith)) (runs_pure d (omega arith)) O n vs (op_at g n) refl i k h ef ty in
        (r.0, r.1, λ w. ap world_out (runs_unfold no_note g V [] n vs (at w [])) ∙ r.2 w);
  }

  module _ (c : ℕ) (lc : c < length g.nodes) (fc : is_dataflow_container (op_at g c) ≡ true) (H : HasRegion g c) where
    abbrev doing : List Open → ℕ → List Value → Doing
    doing = fire no_note g (runs no_note g) (runs no_note g)

    abbrev region_from : List Open → ℕ → List Fired → Doing
    region_from outer n fired = firings no_note g doing outer c H.output n fired

    abbrev first : List Open → List Open → ℕ → List Fired → Ready → Doing
    first others outer n fired r = doing others r.node r.ins >>= (λ vs. region_from outer n (record { node = r.node; outs = vs } ∷ fired))

    pub any_ready_first : (outer others : List Open) (n : ℕ) (fired : List Fired) (r : Ready) → Sound g c H.input (outs_at fired) (suc n) → In r (ready g c (outs_at fired)) → (s t : Plain) → s.world ≡ t.world → world_out (region_from outer (suc n) fired s) ≡ world_out (first others outer n fired r t)
    any_ready_first outer others n fired r S ir s t sw =
        let N = length g.nodes in
        let R = is_region g V c lc fc H in
        let RT = runs_typed in
        let AA = runs_alike N (omega arith) in
        let PP = runs_pure N (omega arith) in
        let deep : N ≤ suc N + c = omega arith in
        let k = In-ready g c (outs_at fired) r ir in
        let inside = (child_is g c r.node (kid_is g c r.node k.0).0).0 in
        let ins = typed_inputs g c H.input H.output R (outs_at fired) (suc n) r.node r.ins S (k.1).pulls in
        let whole = firings_show g V (runs no_note g) (runs no_note g) RT RT N AA AA PP c H.input H.output fc R (inner_kid g c H) deep O outer (suc n) fired S in
        let one = bind_shows (λ vs. HaveTypes (functions g) vs (outs_of (op_at g r.node))) (doing others r.node r.ins) (seen (doing [] r.node r.ins)) (λ vs. region_from outer n (record { node = r.node; outs = vs } ∷ fired))
        (λ vs. canon (ready g c) (shows_fire g V (runs no_note g) (runs no_note g) RT RT N AA AA PP) (add g V (runs no_note g) (runs no_note g) RT RT N AA AA PP c H.input H.output fc R (inner_kid g c H) deep) (finish g V (runs no_note g) (runs no_note g) RT RT N AA AA PP c H.input H.output fc R (inner_kid g c H) deep) n (plus (outs_at fired) r.node vs))
        (shows_right _ _ (fire_alike g V (runs no_note g) (runs no_note g) RT RT N AA AA others [] r.node r.ins (op_at g r.node) refl inside (omega arith) ins))
        (seen_gives _ (doing [] r.node r.ins) (fire_gives no_note g V (runs no_note g) (runs no_note g) RT RT [] r.node r.ins (op_at g r.node) refl inside ins))
        (λ vs h. firings_show g V (runs no_note g) (runs no_note g) RT RT N AA AA PP c H.input H.output fc R (inner_kid g c H) deep O outer n (record { node = r.node; outs = vs } ∷ fired) (sound_plus g c H.input H.output R (outs_at fired) n r vs S k.0 k.1 h)) in
        whole.same s
        ∙ (sym (any_first (ready g c) (shows_fire g V (runs no_note g) (runs no_note g) RT RT N AA AA PP) (add g V (runs no_note g) (runs no_note g) RT RT N AA AA PP c H.input H.output fc R (inner_kid g c H) deep) (finish g V (runs no_note g) (runs no_note g) RT RT N AA AA PP c H.input H.output fc R (inner_kid g c H) deep) (Good g V (runs no_note g) (runs no_note g) RT RT N AA AA PP c H.input H.output fc R (inner_kid g c H) deep) (Fine g V (runs no_note g) (runs no_note g) RT RT N AA AA PP c H.input H.output fc R (inner_kid g c H) deep) (diamond g V (runs no_note g) (runs no_note g) RT RT N AA AA PP c H.input H.output fc R (inner_kid g c H) deep O) n (outs_at fired) r S ir s.world)
        ∙ (ap (seen (doing [] r.node r.ins) >>= (λ vs. canon (ready g c) (shows_fire g V (runs no_note g) (runs no_note g) RT RT N AA AA PP) (add g V (runs no_note g) (runs no_note g) RT RT N AA AA PP c H.input H.output fc R (inner_kid g c H) deep) (finish g V (runs no_note g) (runs no_note g) RT RT N AA AA PP c H.input H.output fc R (inner_kid g c H) deep) n (plus (outs_at fired) r.node vs))) sw
        ∙ sym (one.same t)))
