use Rattle.std.proofs.Common.{◌≡◌, map, drop}
use Rattle.gp_types.specs.Same as spec
use Rattle.gp_types.specs.Types.{tys_of, params_of}
use Rattle.gp_types.specs.View.{ty_view, param_view}
use Rattle.gp_types.proofs.same.+same.Given as goal

-- what is left of both decides
abbrev pub invariant-same_types-loop-i : goal.invariant-same_types-loop-i
invariant-same_types-loop-i l =
    spec.same_types (tys_of (map ty_view (drop l.i l.items))) (tys_of (map ty_view (drop l.i l.others)))
    ≡ spec.same_types (tys_of (map ty_view l.items)) (tys_of (map ty_view l.others))

abbrev pub invariant-same_params-loop-i : goal.invariant-same_params-loop-i
invariant-same_params-loop-i l =
    spec.same_params (params_of (map param_view (drop l.i l.params))) (params_of (map param_view (drop l.i l.others)))
    ≡ spec.same_params (params_of (map param_view l.params)) (params_of (map param_view l.others))
