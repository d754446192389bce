-- The data that usable names are in memory.
use Rattle.std.specs.Prelude.{List, Option, map, option_map}
use Rattle.std.specs.Global.{Global}
use Rattle.std.specs.Rc.{rc_slice_items}
use Rattle.std.specs.declared.rc.RcSlice.{RcSlice}
use Rattle.gp_types.specs.View.{ty_view}
use Rattle.gp_locals.specs.declared.usable.UsableName as declared
use Rattle.gp_locals.specs.code.Usable.{UsableName}

abbrev pub usable_view : declared.UsableName → UsableName
usable_view u = record { position = u.position; ty = ty_view u.ty }

-- a shared list, where there is one
abbrev pub shared_view : Option (RcSlice declared.UsableName Global) → Option (List UsableName)
shared_view shared = option_map (λ listed. map usable_view (rc_slice_items listed)) shared
