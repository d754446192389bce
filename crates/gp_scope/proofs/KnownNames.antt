-- A program's scope says of all names and lines together what the program does.
use Rattle.std.proofs.Common.{◌≡◌, List, ap, ◌∙◌}
use Rattle.gp_tree.specs.Program.{ProgramItem}
use Rattle.gp_scope.specs.declared.scope.Scope.{Scope}
use Rattle.gp_scope.specs.Known.{known_of}
use Rattle.gp_scope.specs.ScopeView.{known_in, IsScopeOf}

same_by : {A B : Type 0} (f g : A → B) → ((x : A) → f x ≡ g x) → f ≡ g
same_by f g e = λ j x. e x j

pub known_in-same : (program : List ProgramItem) (s : Scope) → IsScopeOf program s → known_in s ≡ known_of program
known_in-same program s is =
    ap (λ f. record { is_imported = f; struct_of = (known_in s).struct_of; signature_of = (known_in s).signature_of; annotated_at = (known_in s).annotated_at }) (same_by (known_in s).is_imported (known_of program).is_imported is.imports_are)
    ∙ ap (λ f. record { is_imported = (known_of program).is_imported; struct_of = f; signature_of = (known_in s).signature_of; annotated_at = (known_in s).annotated_at }) (same_by (known_in s).struct_of (known_of program).struct_of is.structs_are)
    ∙ ap (λ f. record { is_imported = (known_of program).is_imported; struct_of = (known_of program).struct_of; signature_of = f; annotated_at = (known_in s).annotated_at }) (same_by (known_in s).signature_of (known_of program).signature_of is.signatures_are)
    ∙ ap (λ f. record { is_imported = (known_of program).is_imported; struct_of = (known_of program).struct_of; signature_of = (known_of program).signature_of; annotated_at = f }) (same_by (known_in s).annotated_at (known_of program).annotated_at is.annotated_are)
