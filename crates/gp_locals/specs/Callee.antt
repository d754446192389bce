-- What a call calls.
use Rattle.std.specs.Prelude.{ℕ, Bool, true, false, if◌then◌else◌, List, Option, Some, None}
use Rattle.gp_types.specs.Types as types
use Rattle.gp_types.specs.Types.{Ty, FunParams, Answer, answer_of}
use Rattle.gp_types.specs.Signature.{Signature, function_params}
use Rattle.gp_types.specs.Builtins.{builtin_named}
use Rattle.gp_types.specs.declared.builtins.Builtin.{Builtin}
use Rattle.gp_types.specs.declared.builtins.Builtin.TheVariants as built_in
use Rattle.gp_locals.specs.Environment.{Names, Environment, type_of}
use Rattle.gp_scope.specs.Known.{Known}

-- a written function, by what it takes and answers; a struct that the call makes; or a built-in function
pub data Callee : Type 0 where
  Function : FunParams → Answer → Callee
  Made : Ty → Callee
  BuiltIn : Builtin → Callee

abbrev pub struct_or_built_in : Option Ty → Option Builtin → Option Callee
struct_or_built_in (Some ty) other = Some (Made ty)
struct_or_built_in None (Some b) = Some (BuiltIn b)
struct_or_built_in None None = None

abbrev pub by_signature : Signature → Callee
by_signature s = Function (function_params s.params) (answer_of s.result)

abbrev pub first_callee : Option Signature → Option Callee → Option Callee
first_callee (Some s) other = Some (by_signature s)
first_callee None other = other

abbrev pub imported_function : Known → List ℕ → Option Builtin
imported_function known name = if known.is_imported name then builtin_named name else None

-- what a call of the name calls outside of functions
abbrev pub outside : Known → List ℕ → Option Callee
outside known name = first_callee (known.signature_of name) (struct_or_built_in (known.struct_of name) (imported_function known name))

-- what a call of a value of this type calls
abbrev pub by_type : Ty → Option Callee
by_type (types.Function params answer) = Some (Function params answer)
by_type _ = None

abbrev pub by_usable : Option Ty → Option Callee
by_usable None = None
by_usable (Some ty) = by_type ty

-- a name of the function is called by its type, and hides what the name means outside
abbrev pub hidden_by : Option (Option Ty) → Option Callee → Option Callee
hidden_by (Some usable) callee = by_usable usable
hidden_by None callee = callee

-- what a call of the name calls in a function with these names, where they have these types
abbrev pub callee_of : Known → Names → Environment → List ℕ → Option Callee
callee_of known names e name = hidden_by (type_of names e name) (outside known name)

-- only the built-in function `result` takes a tag
abbrev pub takes_tag : Callee → Bool
takes_tag (BuiltIn built_in.Result) = true
takes_tag _ = false
