-- Patterns with as many targets as there are parts.
use Rattle.std.proofs.Common.{◌≡◌, ◌≢◌, true, false, List, [], ◌∷◌, length, map, refl, arith}
use Rattle.gp_tree.specs.declared.place.Place.{Place}
use Rattle.gp_types.specs.declared.ty.Ty as declared
use Rattle.gp_types.specs.Types.{tys_of}
use Rattle.gp_types.specs.View.{ty_view}
use Rattle.gp_typing.specs.Statements.{are_as_many}

pub apart_count : (places : List Place) (parts : List declared.Ty) → length places ≢ length parts
    → are_as_many places (tys_of (map ty_view parts)) ≡ false
apart_count [] [] h = absurd (h refl)
apart_count [] (p ∷ ps) h = refl
apart_count (x ∷ xs) [] h = refl
apart_count (x ∷ xs) (p ∷ ps) h = apart_count xs ps (λ e. h (omega (arith, e)))

pub same_count : (places : List Place) (parts : List declared.Ty) → length places ≡ length parts
    → are_as_many places (tys_of (map ty_view parts)) ≡ true
same_count [] [] h = refl
same_count [] (p ∷ ps) h = absurd (omega (arith, h))
same_count (x ∷ xs) [] h = absurd (omega (arith, h))
same_count (x ∷ xs) (p ∷ ps) h = same_count xs ps (omega (arith, h))
