-- The data that environments, and what they say of a name, are in memory.
use Rattle.std.specs.Prelude.{Option, Some, None}
use Rattle.gp_types.specs.View.{ty_view}
use Rattle.gp_types.specs.Types.{Ty}
use Rattle.gp_locals.specs.declared.environment.Found.{Found}
use Rattle.gp_locals.specs.declared.environment.Found.TheVariants.{Foreign, Unusable, Usable}
use Rattle.gp_locals.specs.declared.name_type.NameType as declared
use Rattle.gp_locals.specs.Environment.{NameType}

abbrev pub found_view : Found → Option (Option Ty)
found_view Foreign = None
found_view Unusable = Some None
found_view (Usable ty) = Some (Some (ty_view ty.now))

abbrev pub name_view : declared.NameType → NameType
name_view n = record { name = n.name; ty = ty_view n.ty }
