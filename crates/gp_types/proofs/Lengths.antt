-- Lists of types of different lengths aren't equal.
use Rattle.std.proofs.Common.{◌≡◌, ◌≢◌, Bool, true, false, ◌&&◌, List, [], ◌∷◌, length, map, refl, sym, ◌∙◌, arith}
use Rattle.std.proofs.lemmas.List.{length-map}
use Rattle.gp_types.specs.declared.ty.Ty as declared
use Rattle.gp_types.specs.declared.ty.FunParam as declared_param
use Rattle.gp_types.specs.Types.{Ty, FunParam, tys_of, params_of}
use Rattle.gp_types.specs.View.{ty_view, param_view}
use Rattle.gp_types.specs.Same as spec

and_false : (b c : Bool) → c ≡ false → (b && c) ≡ false
and_false true c e = e
and_false false c e = refl

apart : (ts us : List Ty) → length ts ≢ length us → spec.same_types (tys_of ts) (tys_of us) ≡ false
apart [] [] h = absurd (h refl)
apart [] (u ∷ us) h = refl
apart (t ∷ ts) [] h = refl
apart (t ∷ ts) (u ∷ us) h = and_false (spec.same_type t u) _ (apart ts us (λ e. h (omega (arith, e))))

pub lengths_apart : (ts us : List declared.Ty) → length ts ≢ length us
    → spec.same_types (tys_of (map ty_view ts)) (tys_of (map ty_view us)) ≡ false
lengths_apart ts us h = apart (map ty_view ts) (map ty_view us) (λ e. h (sym (length-map ts ty_view) ∙ e ∙ length-map us ty_view))

unlike : (ps qs : List FunParam) → length ps ≢ length qs → spec.same_params (params_of ps) (params_of qs) ≡ false
unlike [] [] h = absurd (h refl)
unlike [] (q ∷ qs) h = refl
unlike (p ∷ ps) [] h = refl
unlike (p ∷ ps) (q ∷ qs) h = and_false (spec.same_mode p.mode q.mode && spec.same_type p.ty q.ty) _ (unlike ps qs (λ e. h (omega (arith, e))))

pub params_apart : (ps qs : List declared_param.FunParam) → length ps ≢ length qs
    → spec.same_params (params_of (map param_view ps)) (params_of (map param_view qs)) ≡ false
params_apart ps qs h = unlike (map param_view ps) (map param_view qs) (λ e. h (sym (length-map ps param_view) ∙ e ∙ length-map qs param_view))
