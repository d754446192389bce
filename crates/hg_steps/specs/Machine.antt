-- The run of a graph as steps over a stack of open regions.
use Rattle.std.specs.Prelude.{ℕ, zero, suc, ltb, if◌then◌else◌, List, [], ◌∷◌, ◌++◌, length, slice_get, Option, Some, None}
use Rattle.gp_base.specs.Run.{Run, Stuck, ◌>>=◌, ret, stop, or_stuck}
use Rattle.gp_base.specs.World.{take_turn}
use Rattle.hg_ops.specs.Op as op
use Rattle.hg_ops.specs.Op.{Op}
use Rattle.hg_graph.specs.Graph.{Graph, op_at, children, firing_children, feeder, taker, static_input}
use Rattle.hg_graph.specs.Run.{Fired, outs_at, inputs, ready, perform, State, on_world, choose, constant, name_of_function, no_note, fire, firings, with_variant, after_round, at_port, jump, runs}
use Rattle.hg_graph.specs.Value.{Value, Variant, Function, values, callee}

-- An open region: its container, its `Output`, the child that runs, what has fired, and how many children are still to
-- fire beside the one that runs. As a region opens, its `Input` runs, and what that gives are the region's arguments.
pub record Frame : Type 0 where
  pub container : ℕ
  pub output : ℕ
  pub running : ℕ
  pub fired : List Fired
  pub left : ℕ

-- What is to be done next: run a node on values, or give values to the child that runs in the innermost region.
pub data Task : Type 0 where
  Enters : ℕ → List Value → Task
  Gives : List Value → Task

-- A task with the regions that are open, the innermost first.
pub record Config : Type 0 where
  pub task : Task
  pub frames : List Frame

-- what a run without notes changes
abbrev pub Plain : Type 0
Plain = State (Unit {0})

-- a variant's number, with the values of its row followed by the other values
pub record Chosen : Type 0 where
  pub tag : ℕ
  pub values : List Value

abbrev pub variant_of : List Value → Option Chosen
variant_of (Variant k vs ∷ others) = Some (record { tag = k; values = values vs ++ others })
variant_of _ = None

-- a function's name, with the values that go into it
pub record Called : Type 0 where
  pub name : List ℕ
  pub values : List Value

abbrev pub function_of : List Value → Option Called
function_of (Function name ∷ others) = Some (record { name = name; values = others })
function_of _ = None

-- ---- one step

abbrev pub enters : ℕ → List Value → List Frame → Run Plain Config
enters n vs frames = ret (record { task = Enters n vs; frames = frames })

abbrev pub gives : List Value → List Frame → Run Plain Config
gives vs frames = ret (record { task = Gives vs; frames = frames })

-- after a turn
abbrev pub enters_after_turn : ℕ → List Value → List Frame → Run Plain Config
enters_after_turn n vs frames = on_world take_turn >>= (λ _. enters n vs frames)

-- an op without a region
abbrev pub leaf_step : Op → List Value → List Frame → Run Plain Config
leaf_step kind vs frames = on_world (perform kind vs) >>= (λ us. gives us frames)

-- a node of this op is run
module _ (g : Graph) where
  unfoldable pub opens : ℕ → List Value → List Frame → Run Plain Config
  opens n vs frames =
      or_stuck (slice_get (children g n) 0) >>= (λ input.
      or_stuck (slice_get (children g n) 1) >>= (λ output.
      gives vs (record { container = n; output = output; running = input; fired = []; left = length (firing_children g n) } ∷ frames)))

  unfoldable pub enter_step : Op → ℕ → List Value → List Frame → Run Plain Config
  enter_step (op.FuncDefn name ins outs) n vs frames = opens n vs frames
  enter_step (op.Dfg ins outs) n vs frames = opens n vs frames
  enter_step (op.Case ins outs) n vs frames = opens n vs frames
  enter_step (op.TailLoop again leave rest) n vs frames = opens n vs frames
  enter_step (op.DataflowBlock ins rows others) n vs frames = opens n vs frames
  enter_step (op.Conditional rows ins outs) n vs frames =
      or_stuck (variant_of vs) >>= (λ v. or_stuck (slice_get (children g n) v.tag) >>= (λ c. enters c v.values frames))
  enter_step (op.Cfg ins outs) n vs frames = or_stuck (slice_get (children g n) 0) >>= (λ block. enters block vs frames)
  enter_step _ n vs frames = stop Stuck

  -- a child of this op fires, in the innermost region
  unfoldable pub fire_step : Op → ℕ → List Value → List Frame → Run Plain Config
  fire_step (op.Dfg ins outs) n vs frames = enters n vs frames
  fire_step (op.Conditional rows ins outs) n vs frames = enters n vs frames
  fire_step (op.TailLoop again leave rest) n vs frames = enters n vs frames
  fire_step (op.Cfg ins outs) n vs frames = enters n vs frames
  fire_step (op.Call ins outs) n vs frames = or_stuck (feeder g.links (static_input g n)) >>= (λ f. enters_after_turn f.node vs frames)
  fire_step (op.CallIndirect ins outs) n vs frames =
      or_stuck (function_of vs) >>= (λ v. or_stuck (callee g ins outs v.name) >>= (λ f. enters_after_turn f v.values frames))
  fire_step (op.LoadFunction ins outs) n vs frames =
      or_stuck (feeder g.links (static_input g n)) >>= (λ f. name_of_function (op_at g f.node) >>= (λ us. gives us frames))
  fire_step op.LoadConstant n vs frames =
      or_stuck (feeder g.links (static_input g n)) >>= (λ c. constant (op_at g c.node) >>= (λ us. gives us frames))
  fire_step kind n vs frames = leaf_step kind vs frames

  -- after a round of the loop n
  abbrev pub round_step : ℕ → ℕ → List Value → List Frame → Run Plain Config
  round_step zero n vs frames = enters_after_turn n vs frames
  round_step (suc zero) n vs frames = gives vs frames
  round_step (suc (suc k)) n vs frames = stop Stuck

  -- from block n to a node of this op
  abbrev pub jump_step : Op → (n to : ℕ) → List Value → List Frame → Run Plain Config
  jump_step (op.ExitBlock types) n to vs frames = gives vs frames
  jump_step _ n to vs frames = if ltb n to then enters to vs frames else enters_after_turn to vs frames

  -- the region of the container n, which has this op, ends with these values
  unfoldable pub close_step : Op → ℕ → List Value → List Frame → Run Plain Config
  close_step (op.TailLoop again leave rest) n us frames = or_stuck (variant_of us) >>= (λ v. round_step v.tag n v.values frames)
  close_step (op.DataflowBlock ins rows others) n us frames =
      or_stuck (variant_of us) >>= (λ v. or_stuck (taker g.links (record { node = n; index = v.tag })) >>= (λ to. jump_step (op_at g to.node) n to.node v.values frames))
  close_step _ n us frames = gives us frames

  -- what the child that runs has given is kept; the next child fires, or the region ends
  unfoldable pub give_step : ℕ → Frame → List Fired → List Frame → Run Plain Config
  give_step zero f fired frames = or_stuck (inputs g (outs_at fired) f.output) >>= (λ us. close_step (op_at g f.container) f.container us frames)
  give_step (suc left) f fired frames =
      choose (ready g f.container (outs_at fired))
      >>= (λ r. fire_step (op_at g r.node) r.node r.ins (record f { running = r.node; fired = fired; left = left } ∷ frames))

  abbrev pub kept : Frame → List Value → List Fired
  kept f vs = record { node = f.running; outs = vs } ∷ f.fired

  abbrev pub step_on : Task → List Frame → Run Plain Config
  step_on (Enters n vs) frames = enter_step (op_at g n) n vs frames
  step_on (Gives vs) [] = gives vs []
  step_on (Gives vs) (f ∷ frames) = give_step f.left f (kept f vs) frames

  -- one step; where no region is open and values are given, the run has ended with them
  abbrev pub step : Config → Run Plain Config
  step config = step_on config.task config.frames

  -- ---- the run that is left

  -- the rest of a region with `left` children to fire
  abbrev pub going : (c output left : ℕ) → List Fired → Run Plain (List Value)
  going c output left fired = firings no_note g (fire no_note g (runs no_note g) (runs no_note g)) [] c output left fired

  -- what follows the region of the container n, which has this op
  unfoldable pub close : Op → ℕ → List Value → Run Plain (List Value)
  close (op.TailLoop again leave rest) n us = with_variant us (after_round no_note g (runs no_note g) [] n)
  close (op.DataflowBlock ins rows others) n us =
      with_variant us (λ k xs. at_port (taker g.links (record { node = n; index = k })) (λ to. jump no_note g (runs no_note g) (runs no_note g) (op_at g to) [] n to xs))
  close _ n us = ret us

  -- what the open regions do with the values that the child gives that runs in the innermost one
  unfoldable pub finish : List Frame → List Value → Run Plain (List Value)
  finish [] vs = ret vs
  finish (f ∷ frames) vs = going f.container f.output f.left (kept f vs) >>= (λ us. close (op_at g f.container) f.container us >>= finish frames)

  abbrev pub left_on : Task → List Frame → Run Plain (List Value)
  left_on (Enters n vs) frames = runs no_note g [] n vs >>= finish frames
  left_on (Gives vs) frames = finish frames vs

  -- the run that is left
  unfoldable pub left_run : Config → Run Plain (List Value)
  left_run config = left_on config.task config.frames
