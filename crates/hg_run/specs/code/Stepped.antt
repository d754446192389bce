-- What is said of a step that was made.
use Rattle.std.specs.Prelude.{◌≡◌, ℕ, List}
use Rattle.gp_base.specs.declared.event.Event.{Event}
use Rattle.gp_base.specs.Run.{Run, Out, Returned, Stopped}
use Rattle.gp_base.specs.World.{World}
use Rattle.hg_graph.specs.Graph.{Graph, op_at}
use Rattle.hg_graph.specs.Valid.{KeepsTags}
use Rattle.gp_base.specs.Membership.{In}
use Rattle.hg_graph.specs.Run.{outs_at}
use Rattle.hg_run.specs.code.Due.{KnowsOtherDues}
use Rattle.hg_graph.specs.Value.{Value}
use Rattle.hg_run.specs.declared.state.Frame.{Frame as DeclaredFrame}
use Rattle.hg_run.specs.declared.state.Machine.{Machine}
use Rattle.hg_run.specs.declared.state.Stepped.{Stepped}
use Rattle.hg_run.specs.declared.state.Stepped.TheVariants as stepped
use Rattle.hg_run.specs.declared.state.Done.{Done}
use Rattle.hg_run.specs.declared.state.Done.TheVariants as done
use Rattle.hg_run.specs.code.StateView.{frame_list, task_view, halt_view, plain, and_event}
use Rattle.hg_steps.specs.Machine.{Frame, Config, Plain}

-- how a step has ended
abbrev pub outcome : Stepped → List DeclaredFrame → Machine → List Event → Out Plain Config
outcome (stepped.Goes task event) frames m events = Returned (record { task = task_view task; frames = frame_list frames }) (plain m (and_event events event))
outcome (stepped.Halts halt) frames m events = Stopped (halt_view halt) (plain m events)

-- the step was made, from one state of the machine to another
abbrev pub Makes : Run Plain Config → Machine → Stepped → List DeclaredFrame → Machine → Type 0
Makes step before how frames after = (events : List Event) → step (plain before events) ≡ outcome how frames after events

-- a step that leaves the machine as it is, but for the open regions
abbrev pub MakesStill : Run Plain Config → Stepped → List DeclaredFrame → Type 0
MakesStill step how frames = (m : Machine) → Makes step m how frames m

-- the same whatever regions are open
abbrev pub Keeps : (List Frame → Run Plain Config) → Machine → Stepped → Machine → Type 0
Keeps step before how after = (frames : List DeclaredFrame) → Makes (step (frame_list frames)) before how frames after

abbrev pub KeepsStill : (List Frame → Run Plain Config) → Stepped → Type 0
KeepsStill step how = (m : Machine) → Keeps step m how m

-- how an op without a region has ended
abbrev pub done_as : Done → Machine → List Event → Out World (List Value)
done_as (done.Gives outs event) m events = Returned outs (plain m (and_event events event)).world
done_as (done.Halts halt) m events = Stopped (halt_view halt) (plain m events).world

-- the op was done, from one state of the machine to another, and no pick was taken
pub record Does (run : Run World (List Value)) (before : Machine) (how : Done) (after : Machine) : Type 0 where
  pub makes : (events : List Event) → run (plain before events).world ≡ done_as how after events
  pub picks : after.picks.items ≡ before.picks.items

-- each op of the graph has what its tags need
abbrev pub TagsAreKept : Graph → Type 0
TagsAreKept g = (n : ℕ) → KeepsTags (op_at g n)

-- the set of an open region has the other children that are due
abbrev pub FrameKeeps : Graph → DeclaredFrame → Type 0
FrameKeeps g f = KnowsOtherDues g f.container.0 (outs_at f.fired) f.running.0 f.dues

abbrev pub FramesKeep : Graph → List DeclaredFrame → Type 0
FramesKeep g frames = (f : DeclaredFrame) → In f frames → FrameKeeps g f
