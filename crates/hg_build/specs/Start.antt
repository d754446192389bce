-- The graph with which building starts: the module, and its functions without contents.
use Rattle.std.specs.Prelude.{◌≡◌, ℕ, ◌<◌, List, [], ◌∷◌, ◌++◌, length, Some}
use Rattle.hg_ops.specs.Op.{Types, Module, FuncDefn}
use Rattle.hg_graph.specs.Graph.{Graph, op_at}
use Rattle.hg_graph.specs.Valid.{name_of}
use Rattle.hg_build.specs.Steps.{Hole}
use Rattle.hg_build.specs.Wired.{with_node}
use Rattle.hg_build.specs.Built.{FunctionsBuilt, Unfilled}
use Rattle.hg_build.specs.Clauses.{empty_hole}
use Rattle.hg_build.specs.Pending.{Pends}
use Rattle.hg_build.specs.Drawn.{Drawn}
use Rattle.hg_build.specs.Containing.{ContainsAt}
use Rattle.hg_build.specs.Marks.{OrderedSoFar}

-- the module alone
abbrev pub module_graph : Graph
module_graph = record { nodes = record { op = Module; parent = 0 } ∷ []; links = [] }

-- a module whose functions are all empty
pub record Begun (g : Graph) (functions : List Hole) (empty : List ℕ) : Type 0 where
  pub module_at : op_at g 0 ≡ Module
  pub unfilled : Unfilled functions
  pub built : FunctionsBuilt g functions
  pub drawn : Drawn g [] []
  pub pends : Pends g []
  pub contains : ContainsAt g empty []
  pub ordered : OrderedSoFar g []

-- no node has the name
abbrev pub IsNew : Graph → List ℕ → Type 0
IsNew g name = (m : ℕ) → m < length g.nodes → name_of (op_at g m) ≡ Some name → ⊥

-- Building starts with the module alone, and functions with new names may be added to it.
pub record ModuleBegins : Type 0 where
  pub alone : Begun module_graph [] []
  pub function : (g : Graph) (functions : List Hole) (empty : List ℕ) (name : List ℕ)
      (ins outs : Types)
      → Begun g functions empty → IsNew g name
      → Begun (with_node g (FuncDefn name ins outs) 0)
      (functions ++ empty_hole (length g.nodes) ∷ []) (length g.nodes ∷ empty)
