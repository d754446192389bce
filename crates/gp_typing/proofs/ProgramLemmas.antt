-- Programs, one function after another.
use Rattle.std.proofs.Common.{◌≡◌, List, [], ◌∷◌, ◌++◌, map, Ok, Err, refl, sym, ap, ◌∙◌, append_assoc}
use Rattle.gp_tree.specs.Program.{FunctionDefinition, ProgramItem, function_item}
use Rattle.gp_typing.specs.declared.fault.TypeFault.{TypeFault}
use Rattle.gp_typing.specs.Checks.{Checked, ◌>>=◌}
use Rattle.gp_typing.specs.Functions.{function_typing, program_typing}
use Rattle.gp_scope.specs.declared.scope.Scope.{Scope}
use Rattle.gp_scope.specs.Known.{Known, known_of}
use Rattle.gp_scope.specs.ScopeView.{known_in, IsScopeOf}
use Rattle.gp_scope.proofs.KnownNames.{known_in-same}
use Rattle.gp_typing.specs.Typed.{TypedFunction}

-- the functions so far, and those of the items that are left
abbrev pub program_left : Known → List TypedFunction → List ProgramItem → Checked (List TypedFunction)
program_left known so_far items = program_typing known items >>= λ rest. Ok (so_far ++ rest)

pub program_goes : (known : Known) (so_far : List TypedFunction) (f : FunctionDefinition) (items : List ProgramItem)
    → program_left known so_far (function_item f ∷ items) ≡ (function_typing known f >>= λ t. program_left known (so_far ++ t ∷ []) items)
program_goes known so_far f items = go (function_typing known f) (program_typing known items) where
  go : (m : Checked TypedFunction) (n : Checked (List TypedFunction))
      → ((m >>= λ t. n >>= λ others. Ok (t ∷ others)) >>= λ rest. Ok (so_far ++ rest)) ≡ (m >>= λ t. n >>= λ rest. Ok ((so_far ++ t ∷ []) ++ rest))
  go (Err g) n = refl
  go (Ok t) (Err g) = refl
  go (Ok t) (Ok rest) = ap (λ (ts : List TypedFunction). Ok ts) (sym (append_assoc so_far (t ∷ []) rest))

pub program_starts : (known : Known) (items : List ProgramItem) → program_left known [] items ≡ program_typing known items
program_starts known items = go (program_typing known items) where
  go : (m : Checked (List TypedFunction)) → (m >>= λ rest. Ok ([] ++ rest)) ≡ m
  go (Err g) = refl
  go (Ok rest) = refl

-- a function that is typed joins those so far
pub program_step : (known : Known) (so_far : List TypedFunction) (f : FunctionDefinition) (items : List ProgramItem) (t : TypedFunction)
    → function_typing known f ≡ Ok t → program_left known (so_far ++ t ∷ []) items ≡ program_left known so_far (function_item f ∷ items)
program_step known so_far f items t e =
    sym (program_goes known so_far f items ∙ ap (λ (m : Checked TypedFunction). m >>= λ t. program_left known (so_far ++ t ∷ []) items) e)

-- a function that has a fault gives the program's
pub program_stops : (known : Known) (so_far : List TypedFunction) (f : FunctionDefinition) (items : List ProgramItem) (g : TypeFault)
    → function_typing known f ≡ Err g → program_left known so_far (function_item f ∷ items) ≡ Err g
program_stops known so_far f items g e =
    program_goes known so_far f items ∙ ap (λ (m : Checked TypedFunction). m >>= λ t. program_left known (so_far ++ t ∷ []) items) e

pub pushed : {A B : Type 0} (view : A → B) (xs : List A) (x : A) → map view (xs ++ x ∷ []) ≡ map view xs ++ view x ∷ []
pushed view [] x = refl
pushed view (y ∷ ys) x = ap (λ zs. view y ∷ zs) (pushed view ys x)

-- what the scope says of a program is what the program says
pub program_known : (program : List ProgramItem) (s : Scope) → IsScopeOf program s → program_typing (known_in s) program ≡ program_typing (known_of program) program
program_known program s is = ap (λ k. program_typing k program) (known_in-same program s is)
