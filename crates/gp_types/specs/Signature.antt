-- How functions take and answer values.
use Rattle.std.specs.Prelude.{ℕ, Bool, true, false, List, [], ◌∷◌, Option, map, option_map, if◌then◌else◌}
use Rattle.gp_types.specs.declared.mode.Mode.{Mode}
use Rattle.gp_types.specs.declared.mode.Mode.TheVariants.{Borrowed, Owned, Copied}
use Rattle.gp_types.specs.declared.signature.SigParam as declared_parameter
use Rattle.gp_types.specs.declared.signature.Signature as declared
use Rattle.gp_types.specs.Types.{Ty, Function, FunParam, FunParams, no_params, param, answer_of}
use Rattle.gp_types.specs.View.{ty_view}
use Rattle.gp_types.specs.Linear.{is_linear}

-- a parameter, with the type of its values and how it is taken
pub record Parameter : Type 0 where
  pub name : List ℕ
  pub ty : Ty
  pub mode : Mode

-- the parameters in order, and the type of the answer, where there is one
pub record Signature : Type 0 where
  pub params : List Parameter
  pub result : Option Ty

-- A value without qubits is copied; a linear one is borrowed, unless the parameter is marked as owned.
abbrev pub mode_of : Ty → (owned : Bool) → Mode
mode_of ty owned = if is_linear ty then (if owned then Owned else Borrowed) else Copied

abbrev pub parameter_view : declared_parameter.SigParam → Parameter
parameter_view p = record { name = p.name; ty = ty_view p.ty; mode = p.mode }

-- a linear value that comes back to the caller
abbrev pub is_borrowed_mode : Mode → Bool
is_borrowed_mode Borrowed = true
is_borrowed_mode _ = false

abbrev pub parameter_names : List Parameter → List (List ℕ)
parameter_names ps = map Parameter.name ps

abbrev pub signature_view : declared.Signature → Signature
signature_view s = record { params = map parameter_view s.params; result = option_map ty_view s.result }

-- a parameter by its type and mode
abbrev pub fun_param : Parameter → FunParam
fun_param p = record { ty = p.ty; mode = p.mode }

-- the parameters' types and modes, in order
abbrev pub function_params : List Parameter → FunParams
function_params [] = no_params
function_params (p ∷ ps) = param p.ty p.mode (function_params ps)

-- the type of functions with this signature
abbrev pub function_type : Signature → Ty
function_type s = Function (function_params s.params) (answer_of s.result)
