-- A step keeps the run that is left.
use Rattle.std.proofs.Common.{◌≡◌, ℕ, zero, suc, Bool, true, false, cond, ltb, List, [], ◌∷◌, length, Option, Some, None, refl, sym, ap, ◌∙◌}
use Rattle.std.specs.Prelude.{slice_get}
use Rattle.gp_base.specs.Run.{Run, Out, Stuck, ◌>>=◌, ret, stop, or_stuck}
use Rattle.gp_base.specs.World.{take_turn}
use Rattle.hg_ops.specs.Op.{Op, FuncDefn, Dfg, Cfg, DataflowBlock, ExitBlock, Conditional, Case, TailLoop, Call, CallIndirect, LoadConstant, LoadFunction}
use Rattle.hg_graph.specs.Graph.{Graph, Port, op_at, children, firing_children, feeder, taker, static_input}
use Rattle.hg_graph.specs.Run.{Fired, outs_at, inputs, Ready, ready, perform, no_note, on_world, choose, at_node, at_port, with_variant, with_function, constant, name_of_function, after_turn, fire_op, fire, firings, region, after_round, jump, enter_op, runs, run_function}
use Rattle.hg_graph.specs.Value.{Value, Variant, Function, callee}
use Rattle.hg_laws.proofs.Known.{known}
use Rattle.hg_laws.proofs.Bounds.{runs_unfold}
use Rattle.hg_steps.specs.Machine.{Frame, Task, Enters, Gives, Plain, variant_of, function_of, enters, gives, enters_after_turn, opens, enter_step, fire_step, round_step, jump_step, close_step, give_step, kept, step_on, going, close, finish, left_on, left_run}
use Rattle.hg_steps.specs.Laws.{StepsKeepTheRun, RunsBegin}
use Rattle.hg_steps.proofs.Monad.{then_ret, assoc, then_same}
use Rattle.hg_steps.proofs.Blind.{fire_same, runs_blind}

abbrev Values : Type 0
Values = List Value

-- the words for what may be missing, as runs that are stuck or go on
at_node-then : (o : Option ℕ) (k : ℕ → Run Plain Values) (l : Values → Run Plain Values) → at_node o k >>= l ≡ or_stuck o >>= (λ n. k n >>= l)
at_node-then None k l = refl
at_node-then (Some n) k l = refl

at_port-then : (o : Option Port) (k : ℕ → Run Plain Values) (l : Values → Run Plain Values) → at_port o k >>= l ≡ or_stuck o >>= (λ p. k p.node >>= l)
at_port-then None k l = refl
at_port-then (Some p) k l = refl

variant-then : (vs : Values) (k : ℕ → Values → Run Plain Values) (l : Values → Run Plain Values) → with_variant vs k >>= l ≡ or_stuck (variant_of vs) >>= (λ v. k v.tag v.values >>= l)
variant-then (Variant k vs ∷ others) go l = refl
variant-then _ go l = refl

function-then : (vs : Values) (k : List ℕ → Values → Run Plain Values) (l : Values → Run Plain Values) → with_function vs k >>= l ≡ or_stuck (function_of vs) >>= (λ v. k v.name v.values >>= l)
function-then (Function name ∷ others) go l = refl
function-then _ go l = refl

module _ (g : Graph) where
  -- the rest of a region, one firing at a time
  going-end : (c o : ℕ) (fired : List Fired) → going g c o zero fired ≡ or_stuck (inputs g (outs_at fired) o)
  unfolding firings
  going-end c o fired = refl

  going-more : (c o n : ℕ) (fired : List Fired)
      → going g c o (suc n) fired ≡ choose (ready g c (outs_at fired)) >>= (λ r. fire_op no_note g (runs no_note g) (runs no_note g) (op_at g r.node) [] r.node r.ins >>= (λ outs. going g c o n (record { node = r.node; outs = outs } ∷ fired)))
  unfolding firings
  going-more c o n fired =
      then_same (choose (ready g c (outs_at fired))) _ _ (λ r. ap (λ m. m >>= (λ outs. going g c o n (record { node = r.node; outs = outs } ∷ fired)))
      (fire_same g (runs no_note g) (runs no_note g) (runs_blind g) (runs_blind g) (op_at g r.node) (record { container = c; fired = fired; running = Some r.node } ∷ []) [] r.node r.ins))

  turn-then : (n : ℕ) (vs : Values) (frames : List Frame) → after_turn (runs no_note g) [] n vs >>= finish g frames ≡ enters_after_turn n vs frames >>= left_run g
  unfolding left_run
  turn-then n vs frames = assoc (on_world take_turn) _ _ ∙ sym (assoc (on_world take_turn) _ _)

  -- a region opens
  region-then : (kind : Op) (n : ℕ) (vs : Values) (frames : List Frame) → op_at g n ≡ kind → region no_note g (fire no_note g (runs no_note g) (runs no_note g)) [] n vs >>= (λ us. close g kind n us >>= finish g frames) ≡ opens g n vs frames >>= left_run g
  unfolding region opens left_run finish
  region-then kind n vs frames e =
      at_node-then (slice_get (children g n) 0) _ _
      ∙ (then_same (or_stuck (slice_get (children g n) 0)) _ _ (λ input. at_node-then (slice_get (children g n) 1) _ _
      ∙ (then_same (or_stuck (slice_get (children g n) 1)) _ _ (λ output. ap (λ kind. going g n output (length (firing_children g n)) (record { node = input; outs = vs } ∷ []) >>= (λ us. close g kind n us >>= finish g frames)) (sym e))
      ∙ sym (assoc (or_stuck (slice_get (children g n) 1)) _ _)))
      ∙ sym (assoc (or_stuck (slice_get (children g n) 0)) _ _))

  enter-then : (kind : Op) (n : ℕ) (vs : Values) (frames : List Frame) → op_at g n ≡ kind → enter_op no_note g (runs no_note g) (runs no_note g) kind [] n vs >>= finish g frames ≡ enter_step g kind n vs frames >>= left_run g
  unfolding enter_op enter_step close left_run
  enter-then (FuncDefn name i o) n vs frames e = region-then (FuncDefn name i o) n vs frames e
  enter-then (Dfg i o) n vs frames e = region-then (Dfg i o) n vs frames e
  enter-then (Case i o) n vs frames e = region-then (Case i o) n vs frames e
  enter-then (TailLoop a l r) n vs frames e =
      assoc (region no_note g (fire no_note g (runs no_note g) (runs no_note g)) [] n vs) _ _ ∙ region-then (TailLoop a l r) n vs frames e
  enter-then (DataflowBlock i r o) n vs frames e =
      assoc (region no_note g (fire no_note g (runs no_note g) (runs no_note g)) [] n vs) _ _ ∙ region-then (DataflowBlock i r o) n vs frames e
  enter-then (Conditional r i o) n vs frames e =
      variant-then vs _ _
      ∙ (then_same (or_stuck (variant_of vs)) _ _ (λ v. at_node-then (slice_get (children g n) v.tag) _ _ ∙ sym (assoc (or_stuck (slice_get (children g n) v.tag)) _ _))
      ∙ sym (assoc (or_stuck (variant_of vs)) _ _))
  enter-then (Cfg i o) n vs frames e = at_node-then (slice_get (children g n) 0) _ _ ∙ sym (assoc (or_stuck (slice_get (children g n) 0)) _ _)
  enter-then _ n vs frames e = refl

  fire-then : (kind : Op) (n : ℕ) (vs : Values) (frames : List Frame) → fire_op no_note g (runs no_note g) (runs no_note g) kind [] n vs >>= finish g frames ≡ fire_step g kind n vs frames >>= left_run g
  unfolding fire_op fire_step left_run
  fire-then (Dfg i o) n vs frames = refl
  fire-then (Conditional r i o) n vs frames = refl
  fire-then (TailLoop a l r) n vs frames = refl
  fire-then (Cfg i o) n vs frames = refl
  fire-then (Call i o) n vs frames =
      at_port-then (feeder g.links (static_input g n)) _ _
      ∙ (then_same (or_stuck (feeder g.links (static_input g n))) _ _ (λ f. turn-then f.node vs frames) ∙ sym (assoc (or_stuck (feeder g.links (static_input g n))) _ _))
  fire-then (CallIndirect i o) n vs frames =
      function-then vs _ _
      ∙ (then_same (or_stuck (function_of vs)) _ _ (λ v.
      at_node-then (callee g i o v.name) _ _
      ∙ (then_same (or_stuck (callee g i o v.name)) _ _ (λ f. turn-then f v.values frames) ∙ sym (assoc (or_stuck (callee g i o v.name)) _ _)))
      ∙ sym (assoc (or_stuck (function_of vs)) _ _))
  fire-then (LoadFunction i o) n vs frames =
      at_port-then (feeder g.links (static_input g n)) _ _
      ∙ (then_same (or_stuck (feeder g.links (static_input g n))) _ _ (λ f. sym (assoc (name_of_function (op_at g f.node)) (λ us. gives us frames) (left_run g))) ∙ sym (assoc (or_stuck (feeder g.links (static_input g n))) _ _))
  fire-then LoadConstant n vs frames =
      at_port-then (feeder g.links (static_input g n)) _ _
      ∙ (then_same (or_stuck (feeder g.links (static_input g n))) _ _ (λ c. sym (assoc (constant (op_at g c.node)) (λ us. gives us frames) (left_run g))) ∙ sym (assoc (or_stuck (feeder g.links (static_input g n))) _ _))
  fire-then kind n vs frames = sym (assoc (on_world (perform kind vs)) (λ us. gives us frames) (left_run g))

  round-then : (k n : ℕ) (vs : Values) (frames : List Frame) → after_round no_note g (runs no_note g) [] n k vs >>= finish g frames ≡ round_step g k n vs frames >>= left_run g
  unfolding left_run
  round-then zero n vs frames = turn-then n vs frames
  round-then (suc zero) n vs frames = refl
  round-then (suc (suc k)) n vs frames = refl

  jump-then : (kind : Op) (n to : ℕ) (vs : Values) (frames : List Frame) → jump no_note g (runs no_note g) (runs no_note g) kind [] n to vs >>= finish g frames ≡ jump_step g kind n to vs frames >>= left_run g
  unfolding left_run
  jump-then (ExitBlock types) n to vs frames = refl
  jump-then _ n to vs frames = go (ltb n to)
    where
      go : (b : Bool) → (cond b (runs no_note g [] to vs) (after_turn (runs no_note g) [] to vs)) >>= finish g frames ≡ (cond b (enters to vs frames) (enters_after_turn to vs frames)) >>= left_run g
      go true = refl
      go false = turn-then to vs frames

  close-then : (kind : Op) (n : ℕ) (us : Values) (frames : List Frame) → close g kind n us >>= finish g frames ≡ close_step g kind n us frames >>= left_run g
  unfolding close close_step left_run
  close-then (TailLoop a l r) n us frames =
      variant-then us _ _ ∙ (then_same (or_stuck (variant_of us)) _ _ (λ v. round-then v.tag n v.values frames) ∙ sym (assoc (or_stuck (variant_of us)) _ _))
  close-then (DataflowBlock i r o) n us frames =
      variant-then us _ _
      ∙ (then_same (or_stuck (variant_of us)) _ _ (λ v.
      at_port-then (taker g.links (record { node = n; index = v.tag })) _ _
      ∙ (then_same (or_stuck (taker g.links (record { node = n; index = v.tag }))) _ _ (λ to. jump-then (op_at g to.node) n to.node v.values frames)
      ∙ sym (assoc (or_stuck (taker g.links (record { node = n; index = v.tag }))) _ _)))
      ∙ sym (assoc (or_stuck (variant_of us)) _ _))
  close-then _ n us frames = refl

  -- the region goes on
  abbrev closing : ℕ → List Frame → Values → Run Plain Values
  closing c frames us = close g (op_at g c) c us >>= finish g frames

  give-then : (left : ℕ) (f : Frame) (fired : List Fired) (frames : List Frame) → going g f.container f.output left fired >>= closing f.container frames ≡ give_step g left f fired frames >>= left_run g
  unfolding give_step finish
  give-then zero f fired frames =
      ap (λ m. m >>= closing f.container frames) (going-end f.container f.output fired)
      ∙ (then_same (or_stuck (inputs g (outs_at fired) f.output)) _ _ (λ us. close-then (op_at g f.container) f.container us frames) ∙ sym (assoc (or_stuck (inputs g (outs_at fired) f.output)) _ _))
  give-then (suc left) f fired frames =
      ap (λ m. m >>= closing f.container frames) (going-more f.container f.output left fired)
      ∙ (assoc (choose (ready g f.container (outs_at fired))) _ _
      ∙ (then_same (choose (ready g f.container (outs_at fired))) _ _ (λ r.
      assoc (fire_op no_note g (runs no_note g) (runs no_note g) (op_at g r.node) [] r.node r.ins) _ _
      ∙ fires r) ∙ sym (assoc (choose (ready g f.container (outs_at fired))) _ _)))
    where
      fires : (r : Ready)
          → fire_op no_note g (runs no_note g) (runs no_note g) (op_at g r.node) [] r.node r.ins >>= (λ outs. going g f.container f.output left (record { node = r.node; outs = outs } ∷ fired) >>= closing f.container frames)
          ≡ fire_step g (op_at g r.node) r.node r.ins (record f { running = r.node; fired = fired; left = left } ∷ frames) >>= left_run g
      fires r = fire-then (op_at g r.node) r.node r.ins (record f { running = r.node; fired = fired; left = left } ∷ frames)

pub steps_keep_the_run_lem : StepsKeepTheRun
unfolding left_run finish
steps_keep_the_run_lem g V config s = go config.task config.frames
  where
    go : (task : Task) (frames : List Frame) → left_on g task frames s ≡ (step_on g task frames >>= left_run g) s
    go (Enters n vs) frames = ap (λ o. Rattle.gp_base.specs.Run.go_on o (finish g frames)) (runs_unfold no_note g (known g V) [] n vs s) ∙ ap (λ m. m s) (enter-then g (op_at g n) n vs frames refl)
    go (Gives vs) [] = refl
    go (Gives vs) (f ∷ frames) = ap (λ m. m s) (give-then g f.left f (kept g f vs) frames)

pub runs_begin_lem : RunsBegin
unfolding left_run finish run_function
runs_begin_lem g f arguments s = ap (λ m. m s) (then_ret (runs no_note g [] f arguments))
