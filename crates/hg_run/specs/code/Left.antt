-- The run that is left.
use Rattle.std.specs.Prelude.{◌≡◌, ◌≢◌, ℕ, ◌<◌, List, [], length}
use Rattle.gp_base.specs.declared.event.Event.{Event}
use Rattle.gp_base.specs.Run.{Out, Returned, Stopped, Stuck}
use Rattle.gp_base.specs.World.{World}
use Rattle.hg_graph.specs.Graph.{Graph, op_at}
use Rattle.hg_graph.specs.Run.{world_out}
use Rattle.hg_graph.specs.Value.{Value}
use Rattle.hg_ops.specs.Op.{Types, FuncDefn}
use Rattle.hg_run.specs.declared.state.Frame.{Frame as DeclaredFrame}
use Rattle.hg_run.specs.declared.state.Task.{Task as DeclaredTask}
use Rattle.hg_run.specs.declared.state.Machine.{Machine}
use Rattle.hg_run.specs.Told.{trace_of}
use Rattle.hg_run.specs.code.StateView.{frame_list, task_view, plain}
use Rattle.hg_steps.specs.Machine.{Config, left_run}

-- the run isn't stuck
abbrev pub IsNotStuck : Out World (List Value) → Type 0
IsNotStuck (Returned vs w) = Unit {0}
IsNotStuck (Stopped stop w) = stop ≢ Stuck

-- a function without inputs
pub record IsEntry (g : Graph) (f : ℕ) : Type 0 where
  pub is_node : f < length g.nodes
  pub name : List ℕ
  pub outs : Types
  pub is_function : op_at g f ≡ FuncDefn name [] outs

abbrev pub config_of : DeclaredTask → List DeclaredFrame → Config
config_of task frames = record { task = task_view task; frames = frame_list frames }

-- the run that is left, behind these events
abbrev pub out_of : Graph → DeclaredTask → List DeclaredFrame → Machine → List Event → Out World (List Value)
out_of g task frames m events = world_out (left_run g (config_of task frames) (plain m events))

-- and its trace
abbrev pub left_trace : Graph → DeclaredTask → List DeclaredFrame → Machine → List ℕ
left_trace g task frames m = trace_of (out_of g task frames m [])
