-- Typed programs in memory.
use Rattle.std.specs.Prelude.{ℕ, List, Option, map, option_map}
use Rattle.indexmap.specs.IndexMap.{get_by_text}
use Rattle.gp_types.specs.Types.{Ty}
use Rattle.gp_types.specs.View.{ty_view}
use Rattle.gp_typing.specs.declared.program.Typed as declared
use Rattle.gp_typing.specs.Typed.{TypedFunction}
use Rattle.gp_typing.specs.View.{function_view}

abbrev pub typed_view : declared.Typed → List TypedFunction
typed_view t = map function_view t.functions

-- the type of the struct of a name
abbrev pub struct_in : declared.Typed → List ℕ → Option Ty
struct_in t name = option_map ty_view (get_by_text t.structs name)
