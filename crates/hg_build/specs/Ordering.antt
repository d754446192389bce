-- What each call makes of the order of effect nodes: those of a region stand on one chain, in the order of adding.
use Rattle.std.specs.Prelude.{◌≡◌, ℕ, ◌<◌, false, if◌then◌else◌, List, [], ◌∷◌, length, Some, slice_get}
use Rattle.hg_ops.specs.Op.{Op, is_effect, is_dataflow_container}
use Rattle.hg_graph.specs.Graph.{Graph, Port, IsGraph, op_at, parent_at, children}
use Rattle.hg_build.specs.Steps.{Step, Hole}
use Rattle.hg_build.specs.Built.{Fill, Frame, Base, Built, Filling}
use Rattle.hg_build.specs.Clauses.{next_node, empty_hole}
use Rattle.hg_build.specs.Marks.{OrderedAt, OrderedSoFar}
use Rattle.hg_build.specs.declared.region.Region.{Region}
use Rattle.hg_build.specs.declared.region.Outer.{Outer}

abbrev pub OrderedIn : Region → List Frame → List ℕ → Type 0
OrderedIn r frs marked = OrderedAt r.graph r.place frs marked

-- `open` begins a function of the module
pub record OpenOrdered (old : Graph) (c : ℕ) (new : Region) : Type 0 where
  pub by : (marked : List ℕ) → IsGraph old → 0 < c → c < length old.nodes → parent_at old c ≡ 0
      → is_dataflow_container (op_at old 0) ≡ false → children old c ≡ []
      → OrderedSoFar old marked → OrderedIn new [] marked

-- a new node is marked where its op is an effect
pub record NodeOrdered (old new : Region) (kind : Op) : Type 0 where
  pub by : (base : Base) (width : ℕ) (frs : List Frame) (ss : List Step) (marked : List ℕ)
      → Built old base width frs ss → OrderedIn old frs marked
      → OrderedIn new frs (if is_effect kind then next_node old ∷ marked else marked)

-- `constant` and `conditional` mark nothing
pub record QuietOrdered (old new : Region) : Type 0 where
  pub by : (base : Base) (width : ℕ) (frs : List Frame) (ss : List Step) (marked : List ℕ)
      → Built old base width frs ss → OrderedIn old frs marked → OrderedIn new frs marked

-- `block` and `control` neither
pub record BlockOrdered (old new : Region) (cfg : ℕ) (kind : Op) : Type 0 where
  pub by : (base : Base) (width : ℕ) (frs : List Frame) (ss : List Step) (ps : List Port)
      (fill : Fill) (holes : List Hole) (marked : List ℕ)
      → Filling old base width frs ss cfg ps fill holes → is_effect kind ≡ false
      → OrderedIn old frs marked → OrderedIn new frs marked

pub record ControlOrdered (old new : Region) : Type 0 where
  pub by : (base : Base) (width : ℕ) (frs : List Frame) (ss : List Step) (n : ℕ) (ps : List Port)
      (fill : Fill) (holes : List Hole) (marked : List ℕ)
      → Filling old base width frs ss n ps fill holes
      → OrderedIn old frs marked → OrderedIn new frs marked

pub record EnterOrdered (old : Region) (c : ℕ) (outer : Outer) (inner : Region) : Type 0 where
  pub by : (base : Base) (width : ℕ) (frs : List Frame) (ss : List Step) (ps : List Port)
      (fill : Fill) (holes : List Hole) (k : ℕ) (fr : Frame) (marked : List ℕ)
      → Filling old base width frs ss outer.node ps fill holes
      → slice_get holes k ≡ Some (empty_hole c) → fr.outer ≡ outer
      → OrderedIn old frs marked → OrderedIn inner (fr ∷ frs) marked

-- `leave` marks the container, and the node that waited for it, where an effect node stands in it
pub record LeaveOrdered (inner : Region) (outer : Outer) (new : Region) : Type 0 where
  pub by : (base : Base) (width : ℕ) (fr : Frame) (frs : List Frame) (ss : List Step)
      (marked : List ℕ)
      → fr.outer ≡ outer → Built inner base width (fr ∷ frs) ss
      → OrderedIn inner (fr ∷ frs) marked → (marked' : List ℕ) × OrderedIn new frs marked'

pub record FinishOrdered (r : Region) (g : Graph) : Type 0 where
  pub by : (base : Base) (width : ℕ) (ss : List Step) (marked : List ℕ)
      → Built r base width [] ss → OrderedIn r [] marked
      → (marked' : List ℕ) × OrderedSoFar g marked'
