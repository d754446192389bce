-- The events of the run that is left come behind those so far.
use Rattle.std.proofs.Common.{◌≡◌, ℕ, zero, suc, ◌<◌, Bool, true, false, cond, ltb, List, [], ◌∷◌, ◌++◌, Option, Some, None, refl, sym, ap, ◌∙◌, subst, arith, append_assoc, append-nil}
use Rattle.std.specs.Prelude.{slice_get}
use Rattle.gp_base.specs.Clean.{world_after}
use Rattle.gp_base.specs.declared.event.Event.TheVariants as event
use Rattle.gp_base.specs.Run.{Run, Out, Returned, Stopped, go_on, ◌>>=◌, or_stuck}
use Rattle.gp_base.specs.World.{World, next, take_turn, turn_of}
use Rattle.gp_base.proofs.Steps.{IsStep}
use Rattle.hg_ops.specs.Op.{Op, FuncDefn, Const, Dfg, Cfg, DataflowBlock, ExitBlock, Conditional, Case, TailLoop, Call, CallIndirect, LoadConstant, LoadFunction}
use Rattle.hg_graph.specs.Graph.{Graph, op_at, children, feeder, taker, static_input}
use Rattle.hg_graph.specs.Run.{Fired, outs_at, inputs, Ready, ready, perform, State, with_world, on_world, choose, pick_from, constant, name_of_function}
use Rattle.hg_graph.specs.Valid.{IsValid}
use Rattle.hg_graph.specs.Value.{Value, callee}
use Rattle.hg_laws.proofs.Ops.{perform_relates}
use Rattle.hg_steps.specs.Machine.{Frame, Task, Enters, Gives, Config, Plain, variant_of, function_of, enters, enters_after_turn, opens, enter_step, fire_step, round_step, jump_step, close_step, give_step, kept, step_on, step, finish, left_run}
use Rattle.hg_steps.specs.Laws.{AfterStep, Grew, EventsGrow}
use Rattle.hg_steps.specs.Measure.{steps_left}
use Rattle.hg_steps.proofs.Measure.{state_after, steps_end_lem}
use Rattle.hg_steps.proofs.Steps.{steps_keep_the_run_lem}

grew_step : IsStep Grew
grew_step = record {
  same = λ w. record { more = []; grown = sym (append-nil w.events) };
  chain = λ u v w a b. record { more = a.more ++ b.more; grown = b.grown ∙ (ap (λ l. l ++ b.more) a.grown ∙ append_assoc u.events a.more b.more) };
  happens = λ e w h. record { more = e ∷ []; grown = refl };
  allocates = λ w. record { more = event.Alloc (next w) ∷ []; grown = refl };
  ends = λ e q w l h. record { more = e ∷ []; grown = refl };
  takes = λ outcomes w. record { more = []; grown = sym (append-nil w.events) };
}

abbrev S : IsStep Grew
S = grew_step

-- from a state to that after a run
abbrev Reach : {A : Type 0} → Plain → Out Plain A → Type 0
Reach s o = Grew s.world (state_after o).world

reach-or_stuck : {A : Type 0} (o : Option A) (k : A → Run Plain Config) (s : Plain) → ((a : A) → Reach s (k a s)) → Reach s ((or_stuck o >>= k) s)
reach-or_stuck None k s h = S.same s.world
reach-or_stuck (Some a) k s h = h a

reach-world : {A : Type 0} (m : Run World A) (k : A → Run Plain Config) (s : Plain) → Grew s.world (world_after (m s.world)) → ((a : A) (t : Plain) → Reach t (k a t)) → Reach s ((on_world m >>= k) s)
reach-world {A = A} m k s r h = go (m s.world) r
  where
    go : (o : Out World A) → Grew s.world (world_after o) → Reach s (go_on (with_world s o) k)
    go (Returned a w) r = S.chain s.world w _ r (h a (record s { world = w }))
    go (Stopped x w) r = r

reach-turn : (n : ℕ) (vs : List Value) (frames : List Frame) (s : Plain) → Reach s (enters_after_turn n vs frames s)
reach-turn n vs frames s = reach-world take_turn _ s (go s.world.turns) (λ _ t. S.same t.world)
  where
    go : (t : ℕ) → Grew s.world (world_after (turn_of t s.world))
    go zero = S.same s.world
    go (suc t) = record { more = []; grown = sym (append-nil s.world.events) }

reach-constant : (kind : Op) (k : List Value → Run Plain Config) (s : Plain) → ((us : List Value) → Reach s (k us s)) → Reach s ((constant kind >>= k) s)
reach-constant (Const n) k s h = h _
reach-constant _ k s h = S.same s.world

reach-name : (kind : Op) (k : List Value → Run Plain Config) (s : Plain) → ((us : List Value) → Reach s (k us s)) → Reach s ((name_of_function kind >>= k) s)
reach-name (FuncDefn name ins outs) k s h = h _
reach-name _ k s h = S.same s.world

reach-choose : (xs : List Ready) (k : Ready → Run Plain Config) (s : Plain) → ((r : Ready) (t : Plain) → Reach t (k r t)) → Reach s ((choose xs >>= k) s)
reach-choose [] k s h = S.same s.world
reach-choose (x ∷ xs) k s h = pick s.picks
  where
    pick : (picks : List ℕ) → Reach s (go_on (pick_from x xs picks s) k)
    pick [] = h x s
    pick (p ∷ picks) = h _ (record s { picks = picks })

module _ (g : Graph) where
  reach-opens : (n : ℕ) (vs : List Value) (frames : List Frame) (s : Plain) → Reach s (opens g n vs frames s)
  unfolding opens
  reach-opens n vs frames s = reach-or_stuck (slice_get (children g n) 0) _ s (λ input. reach-or_stuck (slice_get (children g n) 1) _ s (λ output. S.same s.world))

  reach-enter : (kind : Op) (n : ℕ) (vs : List Value) (frames : List Frame) (s : Plain) → Reach s (enter_step g kind n vs frames s)
  unfolding enter_step
  reach-enter (FuncDefn name i o) n vs frames s = reach-opens n vs frames s
  reach-enter (Dfg i o) n vs frames s = reach-opens n vs frames s
  reach-enter (Case i o) n vs frames s = reach-opens n vs frames s
  reach-enter (TailLoop a l r) n vs frames s = reach-opens n vs frames s
  reach-enter (DataflowBlock i r o) n vs frames s = reach-opens n vs frames s
  reach-enter (Conditional r i o) n vs frames s = reach-or_stuck (variant_of vs) _ s (λ v. reach-or_stuck (slice_get (children g n) v.tag) _ s (λ c. S.same s.world))
  reach-enter (Cfg i o) n vs frames s = reach-or_stuck (slice_get (children g n) 0) _ s (λ c. S.same s.world)
  reach-enter _ n vs frames s = S.same s.world

  reach-fire : (kind : Op) (n : ℕ) (vs : List Value) (frames : List Frame) (s : Plain) → Reach s (fire_step g kind n vs frames s)
  unfolding fire_step
  reach-fire (Dfg i o) n vs frames s = S.same s.world
  reach-fire (Conditional r i o) n vs frames s = S.same s.world
  reach-fire (TailLoop a b r) n vs frames s = S.same s.world
  reach-fire (Cfg i o) n vs frames s = S.same s.world
  reach-fire (Call i o) n vs frames s = reach-or_stuck (feeder g.links (static_input g n)) _ s (λ f. reach-turn f.node vs frames s)
  reach-fire (CallIndirect i o) n vs frames s = reach-or_stuck (function_of vs) _ s (λ v. reach-or_stuck (callee g i o v.name) _ s (λ f. reach-turn f v.values frames s))
  reach-fire (LoadFunction i o) n vs frames s = reach-or_stuck (feeder g.links (static_input g n)) _ s (λ f. reach-name (op_at g f.node) _ s (λ us. S.same s.world))
  reach-fire LoadConstant n vs frames s = reach-or_stuck (feeder g.links (static_input g n)) _ s (λ f. reach-constant (op_at g f.node) _ s (λ us. S.same s.world))
  reach-fire kind n vs frames s = reach-world (perform kind vs) _ s ((perform_relates Grew S kind vs).relates s.world) (λ us t. S.same t.world)

  reach-round : (k n : ℕ) (vs : List Value) (frames : List Frame) (s : Plain) → Reach s (round_step g k n vs frames s)
  reach-round zero n vs frames s = reach-turn n vs frames s
  reach-round (suc zero) n vs frames s = S.same s.world
  reach-round (suc (suc k)) n vs frames s = S.same s.world

  reach-jump : (kind : Op) (n to : ℕ) (vs : List Value) (frames : List Frame) (s : Plain) → Reach s (jump_step g kind n to vs frames s)
  reach-jump (ExitBlock types) n to vs frames s = S.same s.world
  reach-jump _ n to vs frames s = go (ltb n to)
    where
      go : (b : Bool) → Reach s (cond b (enters to vs frames) (enters_after_turn to vs frames) s)
      go true = S.same s.world
      go false = reach-turn to vs frames s

  reach-close : (kind : Op) (n : ℕ) (us : List Value) (frames : List Frame) (s : Plain) → Reach s (close_step g kind n us frames s)
  unfolding close_step
  reach-close (TailLoop a l r) n us frames s = reach-or_stuck (variant_of us) _ s (λ v. reach-round v.tag n v.values frames s)
  reach-close (DataflowBlock i r o) n us frames s = reach-or_stuck (variant_of us) _ s (λ v. reach-or_stuck (taker g.links (record { node = n; index = v.tag })) _ s (λ to. reach-jump (op_at g to.node) n to.node v.values frames s))
  reach-close _ n us frames s = S.same s.world

  reach-give : (left : ℕ) (f : Frame) (fired : List Fired) (frames : List Frame) (s : Plain) → Reach s (give_step g left f fired frames s)
  unfolding give_step
  reach-give zero f fired frames s = reach-or_stuck (inputs g (outs_at fired) f.output) _ s (λ us. reach-close (op_at g f.container) f.container us frames s)
  reach-give (suc left) f fired frames s = reach-choose (ready g f.container (outs_at fired)) _ s (λ r t. reach-fire (op_at g r.node) r.node r.ins _ t)

  reach-step : (task : Task) (frames : List Frame) (s : Plain) → Reach s (step_on g task frames s)
  reach-step (Enters n vs) frames s = reach-enter (op_at g n) n vs frames s
  reach-step (Gives vs) [] s = S.same s.world
  reach-step (Gives vs) (f ∷ frames) s = reach-give f.left f (kept g f vs) frames s

  module _ (V : IsValid g) where
    abbrev Grows : ℕ → Type 0
    Grows b = (task : Task) (frames : List Frame) (s : Plain) → steps_left g s.world.turns (record { task = task; frames = frames }) < b → Reach s (left_run g (record { task = task; frames = frames }) s)

    -- over a step
    over-step : (b : ℕ) → Grows b → (s : Plain) (n : ℕ) → n < suc b → (o : Out Plain Config) → Reach s o → AfterStep (λ after t. steps_left g t.world.turns after < n) o → Reach s (go_on o (left_run g))
    over-step b IH s n l (Returned after t) r d = S.chain s.world t.world _ r (IH after.task after.frames t (omega arith))
    over-step b IH s n l (Stopped e t) r d = r

    left_grows : (b : ℕ) → Grows b
    unfolding left_run finish
    left_grows zero task frames s l = absurd (omega arith)
    left_grows (suc b) (Enters n vs) frames s l =
        let config : Config = record { task = Enters n vs; frames = frames } in
        subst (Reach s) (sym (steps_keep_the_run_lem g V config s)) (over-step b (left_grows b) s _ l (step g config s) (reach-step (Enters n vs) frames s) (steps_end_lem g V config s refl))
    left_grows (suc b) (Gives vs) [] s l = S.same s.world
    left_grows (suc b) (Gives vs) (f ∷ frames) s l =
        let config : Config = record { task = Gives vs; frames = f ∷ frames } in
        subst (Reach s) (sym (steps_keep_the_run_lem g V config s)) (over-step b (left_grows b) s _ l (step g config s) (reach-step (Gives vs) (f ∷ frames) s) (steps_end_lem g V config s refl))

world-after : {A : Type 0} (o : Out Plain A) → world_after (Rattle.hg_graph.specs.Run.world_out o) ≡ (state_after o).world
world-after (Returned a s) = refl
world-after (Stopped e s) = refl

pub events_grow_lem : EventsGrow
events_grow_lem g V config s =
    subst (Grew s.world) (sym (world-after (left_run g config s))) (left_grows g V (suc (steps_left g s.world.turns config)) config.task config.frames s (omega arith))
