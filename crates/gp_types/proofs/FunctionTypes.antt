-- What a function type in memory is as plain data.
use Rattle.std.proofs.Common.{◌≡◌, Some, List, [], ◌∷◌, map, refl, sym, ap, ◌∙◌}
use Rattle.std.specs.Rc.{rc_slice_items, rc_value}
use Rattle.std.specs.declared.alloc.Global.{Global}
use Rattle.std.specs.declared.rc.Rc.{Rc}
use Rattle.std.specs.declared.rc.RcSlice.{RcSlice}
use Rattle.gp_types.specs.declared.ty.Ty.{Ty}
use Rattle.gp_types.specs.declared.ty.FunParam.{FunParam}
use Rattle.gp_types.specs.declared.ty.Ty.TheFolds.{fold-roll-Ty}
use Rattle.gp_types.specs.declared.ty.Ty.TheOpen.{Ty-F}
use Rattle.gp_types.specs.declared.ty.Ty.TheVariants.{Function, rolls-Function}
use Rattle.gp_types.specs.Types as types
use Rattle.gp_types.specs.Signature.{Parameter, fun_param, function_params}
use Rattle.gp_types.specs.View.{ty_view, param_view, ty_step, field_step, param_step}

pub answers : (ps : RcSlice FunParam Global) (t : Rc Ty Global) → ty_view (Function ps (Some t)) ≡ types.Function (types.params_of (map param_view (rc_slice_items ps))) (types.answers (ty_view (rc_value t)))
answers ps t = ap ty_view (sym (rolls-Function ps (Some t))) ∙ fold-roll-Ty types.Ty types.Field types.FunParam ty_step field_step param_step (Ty-F.Function ps (Some t))

pub params_row : {A : Type 0} (view : A → Parameter) (ps : List A) → types.params_of (map (λ p. fun_param (view p)) ps) ≡ function_params (map view ps)
params_row view [] = refl
params_row view (p ∷ ps) = ap (λ rest. types.param (view p).ty (view p).mode rest) (params_row view ps)
