-- Wires that a region knows: one word for what the clauses of the calls ask of wires.
use Rattle.std.specs.Prelude.{◌≡◌, ℕ, ℤ, suc, List, [], ◌∷◌, ◌++◌, length, slice_get, Option, Some}
use Rattle.gp_base.specs.Membership.{In}
use Rattle.hg_ops.specs.GraphType.{GraphType, is_linear}
use Rattle.hg_ops.specs.Op.{Op, Types, outs_of}
use Rattle.hg_graph.specs.Graph.{Graph, Port, op_at}
use Rattle.hg_build.specs.Steps.{Act, Calls, Step, known_after, Grows}
use Rattle.hg_build.specs.Wired.{ports_of, IsNode, IsConstant, IsChoice, IsBlock, IsControl, IsOpened, IsEntered, IsLeft, IsFinished}
use Rattle.hg_build.specs.Built.{Frame, Base, Built}
use Rattle.hg_build.specs.Clauses.{InScope, next_node, step}
use Rattle.hg_build.specs.Pending.{Fits}
use Rattle.hg_build.specs.Drawn.{Typed}
use Rattle.hg_build.specs.declared.region.Region.{Region}
use Rattle.hg_build.specs.declared.region.Outer.{Outer}
use Rattle.hg_build.specs.declared.wire.Held.{Held}

-- a wire of a node that the region knows after some steps; it gives this type, and is linear where the type is
pub record IsWire (r : Region) (ss : List Step) (h : Held) (t : GraphType) : Type 0 where
  pub known : In h.node (known_after (r.place.input ∷ []) ss)
  pub type : slice_get (outs_of (op_at r.graph h.node)) h.index ≡ Some t
  pub linear : h.linear ≡ is_linear t

abbrev pub AreWires : Region → List Step → List Held → Types → Type 0
AreWires r ss [] [] = Unit {0}
AreWires r ss [] (t ∷ ts) = ⊥
AreWires r ss (h ∷ hs) [] = ⊥
AreWires r ss (h ∷ hs) (t ∷ ts) = IsWire r ss h t × AreWires r ss hs ts

-- what the clauses ask
pub record ServesCalls (r : Region) (ss : List Step) (hs : List Held) (ts : Types) : Type 0 where
  pub scope : InScope r ss (ports_of hs)
  pub typed : Typed r.graph (ports_of hs) ts
  pub fits : Fits r.graph hs
  pub many : length ts ≡ length (ports_of hs)

-- Known wires serve in each clause. They stay known as the region grows, and what a new node hands out is known.
pub record WiresServe : Type 0 where
  pub serve : (r : Region) (base : Base) (width : ℕ) (frs : List Frame) (ss : List Step)
      (hs : List Held) (ts : Types)
      → Built r base width frs ss → AreWires r ss hs ts → ServesCalls r ss hs ts
  pub grown : (old new : Region) (base : Base) (width : ℕ) (frs : List Frame) (ss : List Step) (s : Step)
      (hs : List Held) (ts : Types)
      → Built old base width frs ss → Grows old.graph new.graph → new.place.input ≡ old.place.input
      → AreWires old ss hs ts → AreWires new (ss ++ s ∷ []) hs ts
  pub stay : (old new : Region) (base : Base) (width : ℕ) (frs : List Frame) (ss : List Step)
      (kind : Op) (ps : List Port) (source : Option ℕ) (n : ℕ) (handed hs : List Held) (ts : Types)
      (act : Calls → Act)
      → Built old base width frs ss → IsNode old new kind ps source n handed → AreWires old ss hs ts
      → AreWires new (ss ++ step (next_node old) ps act ∷ []) hs ts
  pub handed : (old new : Region) (ss : List Step) (kind : Op) (ps : List Port) (source : Option ℕ)
      (n : ℕ) (handed : List Held) (act : Calls → Act)
      → IsNode old new kind ps source n handed
      → AreWires new (ss ++ step (next_node old) ps act ∷ []) handed (outs_of kind)
  pub stay_constant : (old new : Region) (base : Base) (width : ℕ) (frs : List Frame)
      (ss : List Step) (value : ℤ) (out : Port)
      (hs : List Held) (ts : Types) (act : Calls → Act)
      → Built old base width frs ss → IsConstant old new value out → AreWires old ss hs ts
      → AreWires new (ss ++ step (suc (next_node old)) [] act ∷ []) hs ts
  pub stay_choice : (old new : Region) (base : Base) (width : ℕ) (frs : List Frame) (ss : List Step)
      (rows : List Types) (ins outs : Types) (ps : List Port) (n : ℕ) (handed hs : List Held)
      (ts : Types) (act : Calls → Act)
      → Built old base width frs ss → IsChoice old new rows ins outs ps n handed
      → AreWires old ss hs ts
      → AreWires new (ss ++ step (next_node old) ps act ∷ []) hs ts

-- What each call makes of a graph has what was there: ops, parents, children by their places, feeders and takers.
pub record CallsGrow : Type 0 where
  pub node : (old new : Region) (kind : Op) (ps : List Port) (source : Option ℕ) (n : ℕ)
      (handed : List Held)
      → IsNode old new kind ps source n handed → Grows old.graph new.graph
  pub constant : (old new : Region) (value : ℤ) (out : Port) → IsConstant old new value out
      → Grows old.graph new.graph
  pub choice : (old new : Region) (rows : List Types) (ins outs : Types) (ps : List Port) (n : ℕ)
      (handed : List Held)
      → IsChoice old new rows ins outs ps n handed → Grows old.graph new.graph
  pub block : (old new : Region) (cfg : ℕ) (kind : Op) (n : ℕ) → IsBlock old new cfg kind n
      → Grows old.graph new.graph
  pub control : (old new : Region) (from : Port) (to : ℕ) → IsControl old new from to
      → Grows old.graph new.graph
  pub opened : (old : Graph) (c : ℕ) (ins outs : Types) (new : Region) (handed : List Held)
      → IsOpened old c ins outs new handed → Grows old new.graph
  pub entered : (old : Region) (c : ℕ) (outer : Outer) (inner : Region) (handed : List Held)
      → IsEntered old c outer inner handed → Grows old.graph inner.graph
  pub left : (inner : Region) (outer : Outer) (ps : List Port) (new : Region)
      → IsLeft inner outer ps new → Grows inner.graph new.graph
  pub finished : (old : Region) (ps : List Port) (new : Graph) → IsFinished old ps new
      → Grows old.graph new
  pub joined : (g h j : Graph) → Grows g h → Grows h j → Grows g j
