-- A graph that is sound so far, with its functions, and what that comes to once nothing is left to fill.
use Rattle.std.specs.Prelude.{ℕ, List, []}
use Rattle.gp_base.specs.World.{World}
use Rattle.hg_graph.specs.Graph.{Graph}
use Rattle.hg_graph.specs.Run.{graph_run}
use Rattle.hg_graph.specs.Valid.{IsValid}
use Rattle.hg_graph.specs.Ordered.{IsOrdered}
use Rattle.hg_graph.specs.Value.{Value}
use Rattle.hg_build.specs.Steps.{Hole, EndsAs, function_calls}
use Rattle.hg_build.specs.Built.{FunctionsBuilt}
use Rattle.hg_build.specs.Pending.{Pends}
use Rattle.hg_build.specs.Drawn.{Drawn}
use Rattle.hg_build.specs.Containing.{ContainsAt}
use Rattle.hg_build.specs.Marks.{OrderedSoFar}
use Rattle.hg_build.specs.Start.{Begun}

-- No region is open. The functions do what they say, the containers in `empty` wait for their contents, and nothing else is
-- left to do.
pub record SoundSoFar (g : Graph) (functions : List Hole) (empty marked : List ℕ) : Type 0 where
  pub built : FunctionsBuilt g functions
  pub drawn : Drawn g [] []
  pub pends : Pends g []
  pub contains : ContainsAt g empty []
  pub ordered : OrderedSoFar g marked

-- valid and ordered, and each function runs as it says, where that is not stuck
pub record RunsSoundly (g : Graph) (functions : List Hole) : Type 0 where
  pub valid : IsValid g
  pub ordered : IsOrdered g
  pub runs : (turns f : ℕ) (arguments : List Value) (w : World)
      → EndsAs (function_calls functions turns f arguments w) (graph_run g f arguments w [])

-- Building begins soundly, and a sound graph in which no container is empty runs soundly.
pub record FinishedGraphsAreSound : Type 0 where
  pub begins : (g : Graph) (functions : List Hole) (empty : List ℕ) → Begun g functions empty
      → SoundSoFar g functions empty []
  pub ends : (g : Graph) (functions : List Hole) (marked : List ℕ)
      → SoundSoFar g functions [] marked → RunsSoundly g functions
