-- Values at ports, their types, and the qubits in them.
use Rattle.std.specs.Prelude.{ℕ, zero, suc, ◌+◌, ℤ, Bool, true, false, ◌==◌, if◌then◌else◌, ◌&&◌, List, [], ◌∷◌, Option, Some, None, ◌≡◌}
use Rattle.std.specs.Str.{bytes_eq}
use Rattle.hg_ops.specs.GraphType as type
use Rattle.hg_ops.specs.GraphType.{GraphType, Row, Rows, no_types, next, no_rows, next_row, types}
use Rattle.hg_ops.specs.Op.{Op, Types, FuncDefn}
use Rattle.hg_ops.specs.SameType.{same_types}
use Rattle.hg_graph.specs.Graph.{Node, Graph, op_at}

mutual
  -- A whole number, a qubit by its number, a variant of a Sum: the number of its row, with the row's values, or a function
  -- by its name.
  pub data Value : Type 0 where
    Int : ℤ → Value
    Qubit : ℕ → Value
    Variant : ℕ → Values → Value
    Function : (name : List ℕ) → Value

  pub data Values : Type 0 where
    no_values : Values
    value : Value → Values → Values

-- values as a list, and back
abbrev pub values : Values → List Value
values no_values = []
values (value v vs) = v ∷ values vs

abbrev pub packed : List Value → Values
packed [] = no_values
packed (v ∷ vs) = value v (packed vs)

-- false is row 0 of two empty rows, and true row 1
abbrev pub truth : Bool → Value
truth b = Variant (if b then 1 else 0) no_values

abbrev pub truth_of : Value → Option Bool
truth_of (Variant zero no_values) = Some false
truth_of (Variant (suc zero) no_values) = Some true
truth_of _ = None

-- ---- types of values

-- the types that go into a function and come out of it
pub record Signature : Type 0 where
  pub ins : Types
  pub outs : Types

-- the functions that there are, by name
abbrev pub Functions : Type 0
Functions = List ℕ → Option Signature

-- the number of the first function of a name among nodes, the first of which has number n
abbrev pub place_by : List ℕ → ℕ → Op → Option ℕ → Option ℕ
place_by name n (FuncDefn other ins outs) rest = if bytes_eq other name then Some n else rest
place_by name n _ rest = rest

abbrev pub place_among : List Node → ℕ → List ℕ → Option ℕ
place_among [] n name = None
place_among (node ∷ nodes) n name = place_by name n node.op (place_among nodes (suc n) name)

unfoldable pub function_named : Graph → List ℕ → Option ℕ
function_named g name = place_among g.nodes 0 name

abbrev pub signature_of : Op → Option Signature
signature_of (FuncDefn name ins outs) = Some (record { ins = ins; outs = outs })
signature_of _ = None

abbrev pub signature_at : Graph → Option ℕ → Option Signature
signature_at g None = None
signature_at g (Some f) = signature_of (op_at g f)

-- the functions of a graph
unfoldable pub functions : Graph → Functions
functions g name = signature_at g (function_named g name)

abbrev pub is_signature : Types → Types → Option Signature → Bool
is_signature ins outs None = false
is_signature ins outs (Some signature) = same_types signature.ins ins && same_types signature.outs outs

-- the number of the function of a name, where it has these types
unfoldable pub callee : Graph → Types → Types → List ℕ → Option ℕ
callee g ins outs name = if is_signature ins outs (functions g name) then function_named g name else None

-- row k of a Sum
abbrev pub row_at : Rows → ℕ → Option Row
row_at no_rows k = None
row_at (next_row r rs) zero = Some r
row_at (next_row r rs) (suc k) = row_at rs k

-- A value is of a type, where these functions are there. A variant has the values of its row, and a function's name is of
-- the function's type.
abbrev mutual
  pub HasType : Functions → Value → GraphType → Type 0
  HasType F (Int n) type.Int = Unit {0}
  HasType F (Int n) type.Qubit = ⊥
  HasType F (Int n) (type.Sum rs) = ⊥
  HasType F (Int n) (type.Function i o) = ⊥
  HasType F (Qubit q) type.Int = ⊥
  HasType F (Qubit q) type.Qubit = Unit {0}
  HasType F (Qubit q) (type.Sum rs) = ⊥
  HasType F (Qubit q) (type.Function i o) = ⊥
  HasType F (Variant k vs) type.Int = ⊥
  HasType F (Variant k vs) type.Qubit = ⊥
  HasType F (Variant k vs) (type.Sum rs) = HasRow F vs (row_at rs k)
  HasType F (Variant k vs) (type.Function i o) = ⊥
  HasType F (Function name) type.Int = ⊥
  HasType F (Function name) type.Qubit = ⊥
  HasType F (Function name) (type.Sum rs) = ⊥
  HasType F (Function name) (type.Function i o) = F name ≡ Some (record { ins = types i; outs = types o })

  pub HasRow : Functions → Values → Option Row → Type 0
  HasRow F no_values None = ⊥
  HasRow F (value v vs) None = ⊥
  HasRow F no_values (Some no_types) = Unit {0}
  HasRow F no_values (Some (next t r)) = ⊥
  HasRow F (value v vs) (Some no_types) = ⊥
  HasRow F (value v vs) (Some (next t r)) = HasType F v t × HasRow F vs (Some r)

-- each value is of the type at its place
abbrev pub HaveTypes : Functions → List Value → List GraphType → Type 0
HaveTypes F [] [] = Unit {0}
HaveTypes F (v ∷ vs) [] = ⊥
HaveTypes F [] (t ∷ ts) = ⊥
HaveTypes F (v ∷ vs) (t ∷ ts) = HasType F v t × HaveTypes F vs ts

-- ---- qubits in values

abbrev mutual
  -- how often the qubit stands in the value
  pub uses : ℕ → Value → ℕ
  uses q (Int n) = 0
  uses q (Qubit p) = if p == q then 1 else 0
  uses q (Variant k vs) = uses_packed q vs
  uses q (Function name) = 0

  pub uses_packed : ℕ → Values → ℕ
  uses_packed q no_values = 0
  uses_packed q (value v vs) = uses q v + uses_packed q vs

abbrev pub uses_all : ℕ → List Value → ℕ
uses_all q [] = 0
uses_all q (v ∷ vs) = uses q v + uses_all q vs
