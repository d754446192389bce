-- The type that a type in memory is.
use Rattle.std.specs.Prelude.{List, Option, map, option_map}
use Rattle.std.specs.declared.alloc.Global.{Global}
use Rattle.std.specs.declared.rc.Rc.{Rc}
use Rattle.std.specs.Rc.{rc_slice_items, rc_value}
use Rattle.gp_types.specs.declared.ty.Ty as declared
use Rattle.gp_types.specs.declared.ty.Field as declared_field
use Rattle.gp_types.specs.declared.ty.FunParam as declared_param
use Rattle.gp_types.specs.declared.ty.Ty.TheOpen.{Ty-F, Field-F, FunParam-F}
use Rattle.gp_types.specs.Types.{Ty, Int, Bool, Qubit, Tuple, Struct, Function, Field, FunParam, FunParams, Answer, tys_of, fields_of, params_of, answer_of}

-- one level, with the types inside already seen
abbrev pub ty_step : Ty-F Ty Field FunParam → Ty
ty_step Ty-F.Int = Int
ty_step Ty-F.Bool = Bool
ty_step Ty-F.Qubit = Qubit
ty_step (Ty-F.Tuple items) = Tuple (tys_of (rc_slice_items items))
ty_step (Ty-F.Struct name fields) = Struct name (fields_of (rc_slice_items fields))
ty_step (Ty-F.Function params answer) = Function (params_of (rc_slice_items params)) (answer_of (option_map rc_value answer))

abbrev pub field_step : Field-F Ty Field FunParam → Field
field_step f = record { name = f.name; ty = f.ty }

abbrev pub param_step : FunParam-F Ty Field FunParam → FunParam
param_step p = record { ty = p.ty; mode = p.mode }

abbrev pub ty_view : declared.Ty → Ty
ty_view = declared.fold-Ty Ty Field FunParam ty_step field_step param_step

abbrev pub field_view : declared_field.Field → Field
field_view = declared_field.fold-Field Ty Field FunParam ty_step field_step param_step

abbrev pub param_view : declared_param.FunParam → FunParam
param_view = declared_param.fold-FunParam Ty Field FunParam ty_step field_step param_step

abbrev pub params_view : List declared_param.FunParam → FunParams
params_view ps = params_of (map param_view ps)

abbrev pub answer_view : Option (Rc declared.Ty Global) → Answer
answer_view t = answer_of (option_map ty_view (option_map rc_value t))
