-- Runs that don't hang on picks.
use Rattle.std.specs.Prelude.{◌≡◌, ℕ, List}
use Rattle.gp_base.specs.World.{World}
use Rattle.hg_graph.specs.Graph.{Graph}
use Rattle.hg_graph.specs.Moments.{IsProper}
use Rattle.hg_graph.specs.Run.{graph_run}
use Rattle.hg_graph.specs.Value.{Value}

-- from proper arguments the runs under any two lists of picks are equal: their events, their ends and their worlds
abbrev pub RunsAreSame : Graph → Type 0
RunsAreSame g = (f : ℕ) (arguments : List Value) (w : World) → IsProper g f arguments w → (picks others : List ℕ) → graph_run g f arguments w picks ≡ graph_run g f arguments w others
