-- What names mean where a function runs, by whether they are names of the function.
use Rattle.std.proofs.lemmas.Bool.Decides.{Decides-eqb}
use Rattle.std.proofs.Common.{◌≡◌, ℕ, true, false, true≢false, arith, ◌==◌, length, List, [], ◌∷◌, Option, Some, None, refl, ap, sym, ◌∙◌}
use Rattle.std.specs.Prelude.{option_and_then, option_map}
use Rattle.gp_locals.specs.Callee.{outside}
use Rattle.gp_locals.specs.Environment.{Names, place_among}
use Rattle.gp_scope.specs.Known.{Known}
use Rattle.gp_tree.specs.declared.place.Place.{Place}
use Rattle.gp_types.specs.Signature.{Signature}
use Rattle.gp_meaning.specs.Calls.{Resolved, resolved, resolved_at, resolved_value}
use Rattle.gp_meaning.specs.State.{Variables, function_value, named_at, value_at, variable, variable_at}
use Rattle.gp_meaning.specs.Value.{Value, at_path, function}
use Rattle.gp_evaluator.proofs.Paths.{path_none}

pub own_value : (known : Known) (names : Names) (vs : Variables) (p : Place) (i : ℕ) → place_among names p.name ≡ Some i
    → value_at known names vs p ≡ at_path (variable names vs p.name) p.fields
own_value known names vs p i e =
    ap (λ o. at_path (named_at vs o (function_value known p.name)) p.fields) e ∙ ap (λ o. at_path (variable_at vs o) p.fields) (sym e)

pub outside_value : (known : Known) (names : Names) (vs : Variables) (p : Place) → place_among names p.name ≡ None
    → value_at known names vs p ≡ at_path (function_value known p.name) p.fields
outside_value known names vs p e = ap (λ o. at_path (named_at vs o (function_value known p.name)) p.fields) e

pub ruleset reads = (own_value, outside_value)

-- a function of the program, which has no fields
no_parts : (o : Option Signature) (name f : List ℕ) (fs : List (List ℕ)) → at_path (option_map (λ s. function name) o) (f ∷ fs) ≡ None
no_parts None name f fs = refl
no_parts (Some s) name f fs = path_none fs

pub no_part : (known : Known) (name : List ℕ) (fields : List (List ℕ)) → (length fields == 0) ≡ false → at_path (function_value known name) fields ≡ None
no_part known name [] h = absurd (true≢false (sym ((Decides-eqb 0 0).1 refl) ∙ h))
no_part known name (f ∷ fs) h = no_parts (known.signature_of name) name f fs

pub alone : (known : Known) (name : List ℕ) (fields : List (List ℕ)) → (length fields == 0) ≡ true → at_path (function_value known name) fields ≡ function_value known name
alone known name [] h = refl
alone known name (f ∷ fs) h = let e = (Decides-eqb (length (f ∷ fs)) 0).0 h in absurd (omega arith)

pub own_callee : (known : Known) (names : Names) (vs : Variables) (name : List ℕ) (i : ℕ) → place_among names name ≡ Some i
    → resolved known names vs name ≡ option_and_then (resolved_value known) (variable names vs name)
own_callee known names vs name i e = ap (λ o. resolved_at known vs o name) e ∙ ap (λ o. option_and_then (resolved_value known) (variable_at vs o)) (sym e)

pub outside_callee : (known : Known) (names : Names) (vs : Variables) (name : List ℕ) → place_among names name ≡ None
    → resolved known names vs name ≡ option_map (λ callee. record { name = name; callee = callee }) (outside known name)
outside_callee known names vs name e = ap (λ o. resolved_at known vs o name) e

pub ruleset resolves = (own_callee, outside_callee)
