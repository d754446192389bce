-- Which rules of valid graphs a graph keeps while it is built, and what is still due.
use Rattle.std.specs.Prelude.{◌≡◌, ◌⊎◌, ℕ, ◌<◌, Bool, true, false, List, [], ◌∷◌, length, slice_get, Some}
use Rattle.gp_base.specs.Membership.{In}
use Rattle.hg_ops.specs.Op.{Op, Types, Call, LoadConstant, LoadFunction, ControlPort, ins_of, outs_of, input_ports, is_dataflow_container}
use Rattle.hg_graph.specs.Graph.{Graph, Port, IsGraph, op_at, parent_at, children, links_into, static_input}
use Rattle.hg_build.specs.Built.{Frame}
use Rattle.hg_build.specs.declared.region.Place.{Place}
use Rattle.hg_graph.specs.Valid.{HasBoundary, KeepsBlocks, KeepsCases, KeepsSuccessors, HasPlace, SuitsParent, LinksJoin, InputsAreFed, LinksStayInside, Edge, HasStatic, HasCallee, KeepsName, KeepsTags, is_output}

pub record CallAt (g : Graph) (n : ℕ) (ins outs : Types) : Type 0 where
  pub static : HasStatic g n
  pub callee : HasCallee g n ins outs

-- the Const stands beside the LoadConstant
pub record ConstantAt (g : Graph) (n : ℕ) : Type 0 where
  pub static : HasStatic g n
  pub beside : parent_at g static.source.node ≡ parent_at g n

abbrev pub StaticAt : Graph → ℕ → Op → Type 0
StaticAt g n (Call ins outs) = CallAt g n ins outs
StaticAt g n (LoadFunction ins outs) = CallAt g n ins outs
StaticAt g n LoadConstant = ConstantAt g n
StaticAt g n _ = Unit {0}

-- The nodes in `due` have no link into them yet, apart from order links; those in `owed` have no static link yet.
pub record Drawn (g : Graph) (due owed : List ℕ) : Type 0 where
  pub graph : IsGraph g
  pub places : (n : ℕ) → n < length g.nodes → HasPlace g n
  pub suits : (n : ℕ) → n < length g.nodes → SuitsParent g n
  pub joins : (n : ℕ) → n < length g.nodes → LinksJoin g n
  pub fed : (n : ℕ) → n < length g.nodes → (In n due → ⊥) → InputsAreFed g n
  pub unfed : (n : ℕ) → n < length g.nodes → In n due → (p : ℕ) → p < length (ins_of (op_at g n))
      → links_into g.links (record { node = n; index = p }) ≡ 0
  pub inside : (n : ℕ) → n < length g.nodes → LinksStayInside g n
  pub rises : (a b : ℕ) → Edge g a b → (a < b) ⊎ (is_output (op_at g b) ≡ true)
  pub statics : (n : ℕ) → n < length g.nodes → (In n owed → ⊥) → StaticAt g n (op_at g n)
  pub unowed : (n : ℕ) → n < length g.nodes → In n owed → links_into g.links (static_input g n) ≡ 0
  pub names : (n : ℕ) → n < length g.nodes → KeepsName g n (op_at g n)
  pub tags : (n : ℕ) → n < length g.nodes → KeepsTags (op_at g n)

-- the Output nodes of the open region and of those that wait
abbrev pub dues : Place → List Frame → List ℕ
dues p [] = p.output ∷ []
dues p (fr ∷ frs) = p.output ∷ dues fr.outer.place frs

-- they are regions
abbrev pub Flows : Graph → Place → List Frame → Type 0
Flows g p [] = is_dataflow_container (op_at g p.container) ≡ true
Flows g p (fr ∷ frs) = (is_dataflow_container (op_at g p.container) ≡ true) × Flows g fr.outer.place
    frs

pub record DrawnAt (g : Graph) (p : Place) (frs : List Frame) : Type 0 where
  pub drawn : Drawn g (dues p frs) []
  pub flows : Flows g p frs

-- the ports give these types
abbrev pub Typed : Graph → List Port → Types → Type 0
Typed g [] [] = Unit {0}
Typed g [] (t ∷ ts) = ⊥
Typed g (p ∷ ps) [] = ⊥
Typed g (p ∷ ps) (t ∷ ts) = (slice_get (outs_of (op_at g p.node)) p.index ≡ Some t) × Typed g ps ts

-- The rules on containers while a graph is built: the containers in `empty` have no children yet, and the nodes in
-- `unready` have not all their cases, or their blocks and control links.
pub record Contains (g : Graph) (empty unready : List ℕ) : Type 0 where
  pub bounds : (n : ℕ) → n < length g.nodes → is_dataflow_container (op_at g n) ≡ true
      → (In n empty → ⊥) → HasBoundary g n
  pub vacant : (n : ℕ) → In n empty → children g n ≡ []
  pub blocks : (n : ℕ) → n < length g.nodes → (In n unready → ⊥) → KeepsBlocks g n (op_at g n)
  pub cases : (n : ℕ) → n < length g.nodes → (In n unready → ⊥) → KeepsCases g n (op_at g n)
  pub successors : (n : ℕ) → n < length g.nodes → (In (parent_at g n) unready → ⊥)
      → KeepsSuccessors g n (op_at g n)

-- what has a static input
abbrev pub owes_static : Op → Bool
owes_static (Call ins outs) = true
owes_static (LoadFunction ins outs) = true
owes_static LoadConstant = true
owes_static _ = false

-- what a control link leads to
pub record Blockish (o : Op) : Type 0 where
  pub no_ins : ins_of o ≡ []
  pub control : slice_get (input_ports o) 0 ≡ Some ControlPort
  pub free : owes_static o ≡ false
