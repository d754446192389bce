-- What contracts see of the state of a run.
use Rattle.std.specs.Prelude.{◌≡◌, ℕ, ◌%◌, List, [], ◌∷◌, ◌++◌, map, reverse, Option, Some, None}
use Rattle.gp_base.specs.declared.event.Event.{Event}
use Rattle.gp_base.specs.Run.{Out, Stop}
use Rattle.gp_base.specs.Run as run
use Rattle.hg_run.specs.declared.state.Frame.{Frame as DeclaredFrame}
use Rattle.hg_run.specs.declared.state.Task.{Task as DeclaredTask}
use Rattle.hg_run.specs.declared.state.Task.TheVariants as task
use Rattle.hg_run.specs.declared.state.Machine.{Machine}
use Rattle.hg_run.specs.declared.state.Halt.{Halt}
use Rattle.hg_run.specs.declared.state.Halt.TheVariants as halt
use Rattle.hg_graph.specs.Run.{Ready}
use Rattle.hg_run.specs.declared.state.Ready.{Ready as DeclaredReady}
use Rattle.hg_steps.specs.Machine.{Frame, Task, Enters, Gives, Plain}

abbrev pub frame_view : DeclaredFrame → Frame
frame_view f = record { container = f.container.0; output = f.output.0; running = f.running.0; fired = f.fired; left = f.left }

-- the innermost first
abbrev pub frame_list : List DeclaredFrame → List Frame
frame_list frames = reverse (map frame_view frames)

abbrev pub task_view : DeclaredTask → Task
task_view (task.Enter node ins) = Enters node.0 ins
task_view (task.Give outs) = Gives outs

abbrev pub halt_view : Halt → Stop
halt_view halt.TurnsUsed = run.TurnsUsed
halt_view halt.OutcomesUsed = run.OutcomesUsed
halt_view halt.DivisionByZero = run.DivisionByZero
halt_view halt.Stuck = run.Stuck

-- the state with these events
abbrev pub plain : Machine → List Event → Plain
plain m events = record { world = record { flags = m.flags.items; turns = m.turns; outcomes = m.outcomes.items; events = events }; picks = m.picks.items; notes = tt }

abbrev pub and_event : List Event → Option Event → List Event
and_event events None = events
and_event events (Some e) = events ++ e ∷ []

abbrev pub ready_view : DeclaredReady → Ready
ready_view r = record { node = r.node.0; ins = r.ins }

-- how a choice has ended
abbrev pub EndsChoice : Out Plain Ready → Option DeclaredReady → Plain → Type 0
EndsChoice out None s = out ≡ run.Stopped run.Stuck s
EndsChoice out (Some r) s = out ≡ run.Returned (ready_view r) s

-- the place that the next pick names among so many, 0 where there is none
abbrev pub place_of : List ℕ → ℕ → ℕ
place_of [] count = 0
place_of (k ∷ picks) count = k % count

-- what is there, as a list
abbrev pub listed : {A : Type 0} → Option A → List A
listed None = []
listed (Some a) = a ∷ []
