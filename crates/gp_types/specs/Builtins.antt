-- The built-in functions: their names, what they take and what they answer.
use Rattle.std.specs.Prelude.{ℕ, List, [], ◌∷◌, Option, Some, None, codes, bytes_eq, if◌then◌else◌}
use Rattle.gp_base.specs.declared.event.GateName.TheVariants as gate
use Rattle.gp_types.specs.declared.builtins.Builtin.{Builtin}
use Rattle.gp_types.specs.declared.builtins.Builtin.TheVariants.{Qubit, Discard, Measure, ProjectZ, Reset, OneQubitGate, TwoQubitGate, Toffoli, Rotation, Result}
use Rattle.gp_types.specs.declared.builtins.BuiltinParameter.{BuiltinParameter}
use Rattle.gp_types.specs.declared.mode.Mode.{Mode}
use Rattle.gp_types.specs.declared.mode.Mode.TheVariants.{Borrowed, Owned, Copied}
use Rattle.gp_types.specs.declared.builtins.BuiltinType.{BuiltinType}
use Rattle.gp_types.specs.declared.builtins.BuiltinType.TheVariants as ty

pub record Named : Type 0 where
  pub name : List ℕ
  pub function : Builtin

abbrev pub named : List ℕ → Builtin → Named
named name function = record { name = name; function = function }

-- the built-in functions, each with its name
abbrev pub builtins : List Named
builtins =
    named (codes "qubit") Qubit
    ∷ named (codes "discard") Discard
    ∷ named (codes "measure") Measure
    ∷ named (codes "project_z") ProjectZ
    ∷ named (codes "reset") Reset
    ∷ named (codes "h") (OneQubitGate gate.H)
    ∷ named (codes "x") (OneQubitGate gate.X)
    ∷ named (codes "y") (OneQubitGate gate.Y)
    ∷ named (codes "z") (OneQubitGate gate.Z)
    ∷ named (codes "s") (OneQubitGate gate.S)
    ∷ named (codes "sdg") (OneQubitGate gate.Sdg)
    ∷ named (codes "t") (OneQubitGate gate.T)
    ∷ named (codes "tdg") (OneQubitGate gate.Tdg)
    ∷ named (codes "cx") (TwoQubitGate gate.Cx)
    ∷ named (codes "cy") (TwoQubitGate gate.Cy)
    ∷ named (codes "cz") (TwoQubitGate gate.Cz)
    ∷ named (codes "toffoli") Toffoli
    ∷ named (codes "rx") (Rotation gate.Rx)
    ∷ named (codes "ry") (Rotation gate.Ry)
    ∷ named (codes "rz") (Rotation gate.Rz)
    ∷ named (codes "result") Result
    ∷ []

abbrev pub look_up : List Named → List ℕ → Option Builtin
look_up [] name = None
look_up (row ∷ rows) name = if bytes_eq name row.name then Some row.function else look_up rows name

-- the built-in function of a name
unfoldable pub builtin_named : List ℕ → Option Builtin
builtin_named name = look_up builtins name

abbrev pub takes : BuiltinType → Mode → BuiltinParameter
takes ty mode = record { ty = ty; mode = mode }

-- What a built-in function takes, in order. `result` takes a tag and then an `int` or a `bool`, which is no such list.
abbrev pub parameters_of : Builtin → List BuiltinParameter
parameters_of Discard = takes ty.Qubit Owned ∷ []
parameters_of Measure = takes ty.Qubit Owned ∷ []
parameters_of ProjectZ = takes ty.Qubit Borrowed ∷ []
parameters_of Reset = takes ty.Qubit Borrowed ∷ []
parameters_of (OneQubitGate name) = takes ty.Qubit Borrowed ∷ []
parameters_of (TwoQubitGate name) = takes ty.Qubit Borrowed ∷ takes ty.Qubit Borrowed ∷ []
parameters_of Toffoli = takes ty.Qubit Borrowed ∷ takes ty.Qubit Borrowed ∷ takes ty.Qubit Borrowed ∷ []
parameters_of (Rotation name) = takes ty.Qubit Borrowed ∷ takes ty.Int Copied ∷ []
parameters_of _ = []

-- the type of its answer, where it has one
abbrev pub answer_of : Builtin → Option BuiltinType
answer_of Qubit = Some ty.Qubit
answer_of Measure = Some ty.Bool
answer_of ProjectZ = Some ty.Bool
answer_of _ = None
