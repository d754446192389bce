-- The data that a callee in memory is.
use Rattle.gp_types.specs.View.{ty_view, params_view, answer_view}
use Rattle.gp_types.specs.Signature.{signature_view}
use Rattle.gp_locals.specs.declared.callee.Callee as declared
use Rattle.gp_locals.specs.declared.callee.Callee.TheVariants as callee
use Rattle.gp_locals.specs.Callee.{Callee, Function, Made, BuiltIn, by_signature}

abbrev pub callee_view : declared.Callee → Callee
callee_view (callee.Written s) = by_signature (signature_view s.now)
callee_view (callee.Value params answer) = Function (params_view params.now) (answer_view answer.now)
callee_view (callee.Made ty) = Made (ty_view ty.now)
callee_view (callee.BuiltIn b) = BuiltIn b
