-- The types of functions, and of a program.
use Rattle.std.specs.Prelude.{ℕ, Bool, false, ◌&&◌, ◌||◌, not, List, [], ◌∷◌, Some, is_some, Ok, bytes_eq}
use Rattle.gp_tree.specs.Program.{FunctionDefinition, ProgramItem, function_item}
use Rattle.gp_types.specs.Signature.{Signature, Parameter, is_borrowed_mode, parameter_names}
use Rattle.gp_typing.specs.declared.fault.TypeFault.TheVariants.{UnknownName, TooManyPlaces, MissingReturn}
use Rattle.gp_typing.specs.Checks.{Checked, ◌>>=◌, check, found}
use Rattle.gp_locals.specs.Environment.{Names, Environment, nothing_usable, put, is_within}
use Rattle.gp_scope.specs.Known.{Known}
use Rattle.gp_locals.specs.Locals.{locals}
use Rattle.gp_typing.specs.Statements.{Frame, block_typing, block_of}
use Rattle.gp_typing.specs.Typed.{TypedFunction}

-- whether a name is a borrowed parameter
abbrev pub is_borrowed_among : List Parameter → List ℕ → Bool
is_borrowed_among [] name = false
is_borrowed_among (p ∷ ps) name = (is_borrowed_mode p.mode && bytes_eq p.name name) || is_borrowed_among ps name

abbrev pub names_of : FunctionDefinition → Signature → Names
names_of f s = locals (parameter_names s.params) f.body

abbrev pub frame_of : FunctionDefinition → Signature → Frame
frame_of f s = record { names = names_of f s; result = s.result; is_borrowed = is_borrowed_among s.params }

abbrev pub with_parameters : Names → Environment → List Parameter → Environment
with_parameters names e [] = e
with_parameters names e (p ∷ ps) = with_parameters names (put names e p.name p.ty) ps

-- what is usable where a function begins: its parameters
abbrev pub at_start : FunctionDefinition → Signature → Environment
at_start f s = with_parameters (names_of f s) (nothing_usable (names_of f s)) s.params

unfoldable pub function_typing : Known → FunctionDefinition → Checked TypedFunction
function_typing known f =
    found (known.signature_of f.name) (UnknownName f.line)
    >>= λ s. check (is_within (Some (at_start f s))) (TooManyPlaces f.line)
    >>= λ _. block_typing known (frame_of f s) (Some (at_start f s)) f.body
    >>= λ b. check (not (is_some s.result && is_some b.ends.next)) (MissingReturn f.line)
    >>= λ _. Ok (record { line = f.line; name = f.name; signature = s; body = block_of b })

-- the functions of a program with their types, in text order
abbrev pub program_typing : Known → List ProgramItem → Checked (List TypedFunction)
program_typing known [] = Ok []
program_typing known (function_item f ∷ items) =
    function_typing known f >>= λ typed. program_typing known items >>= λ others. Ok (typed ∷ others)
program_typing known (_ ∷ items) = program_typing known items
