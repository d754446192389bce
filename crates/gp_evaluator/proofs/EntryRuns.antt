-- The run of an entry, in the words of the program alone.
use Rattle.std.proofs.Common.{◌≡◌, ℕ, Bool, List, [], Option, Result, Ok, Err, ◌++◌, take, ap, ◌∙◌}
use mathlib.Core.Path.{fun_ext}
use Rattle.std.specs.Result.{IsErrAnd}
use Rattle.std.specs.declared.alloc.AllocError.{AllocError}
use Rattle.gp_base.specs.World.{World, start}
use Rattle.gp_base.specs.declared.event.Event.{Event}
use Rattle.gp_base.specs.declared.name.LineNo.{LineNo}
use Rattle.gp_scope.specs.Known.{Known, known_of}
use Rattle.gp_scope.specs.ScopeView.{known_in, IsScopeOf}
use Rattle.gp_scope.specs.declared.scope.Scope.{Scope}
use Rattle.gp_tree.specs.Program.{ProgramItem, program_items}
use Rattle.gp_tree.specs.declared.program.Item.{Item}
use Rattle.gp_types.specs.Signature.{Signature}
use Rattle.gp_types.specs.Types.{Ty}
use Rattle.gp_evaluator.specs.Answers.{Appended, entry_run}
use Rattle.gp_evaluator.specs.Evaluation.{rest_of, source_in}
use Rattle.gp_meaning.specs.Meaning.{routines_of}
use Rattle.gp_meaning.specs.Runs.{Source, function_in, source}
use Rattle.gp_meaning.proofs.Rests.{call_is}

abbrev known_by : (List ℕ → Bool) → (List ℕ → Option Ty) → (List ℕ → Option Signature) → (LineNo → Option Ty) → Known
known_by imports structs signatures annotated = record { is_imported = imports; struct_of = structs; signature_of = signatures; annotated_at = annotated }

known_is : (program : List ProgramItem) (s : Scope) → IsScopeOf program s → known_in s ≡ known_of program
known_is program s h =
    ap (λ f. known_by f (known_in s).struct_of (known_in s).signature_of (known_in s).annotated_at) (fun_ext h.imports_are)
    ∙ ap (λ f. known_by (known_of program).is_imported f (known_in s).signature_of (known_in s).annotated_at) (fun_ext h.structs_are)
    ∙ ap (λ f. known_by (known_of program).is_imported (known_of program).struct_of f (known_in s).annotated_at) (fun_ext h.signatures_are)
    ∙ ap (λ f. known_by (known_of program).is_imported (known_of program).struct_of (known_of program).signature_of f) (fun_ext h.annotated_are)

abbrev source_with : List ProgramItem → Known → Source
source_with program k = record { known = k; routines = routines_of k program }

source_is : (items : List Item) (s : Scope) → IsScopeOf (program_items items) s → source_in items s ≡ source (program_items items)
source_is items s h = ap (source_with (program_items items)) (known_is (program_items items) s h)

pub entry_is : (items : List Item) (s : Scope) (entry : List ℕ) (turns : ℕ) (outcomes : List Bool) (w : World) → IsScopeOf (program_items items) s → w ≡ start turns outcomes
    → (rest_of items s).call entry [] w ≡ entry_run (program_items items) entry turns outcomes
entry_is items s entry turns outcomes w h e =
    call_is (source_in items s) entry [] w ∙ ap (λ P. function_in P entry [] w) (source_is items s h) ∙ ap (λ (v : World). function_in (source (program_items items)) entry [] v) e

-- the exit of an append
pub append_exits : (before after more : List Event) (Q : AllocError → Type 0) (r : Result (Unit {0}) AllocError) → IsErrAnd r Q → (k : ℕ) → after ≡ before ++ take k more → Appended before after more r
append_exits before after more Q (Ok u) e k h = absurd e
append_exits before after more Q (Err why) e k h = (k, h)
