-- What `evaluate` answers.
use Rattle.std.specs.Prelude.{◌≡◌, ℕ, Bool, false, not, if◌then◌else◌, List, [], ◌∷◌, ◌++◌, take, Option, Some, None, Result, MatchResult}
use Rattle.gp_base.specs.Clean.{world_after}
use Rattle.gp_base.specs.Run.{Out, Returned, Stopped, TurnsUsed, OutcomesUsed, DivisionByZero, Stuck}
use Rattle.gp_base.specs.World.{World, start}
use Rattle.gp_base.specs.declared.event.Event.{Event}
use Rattle.gp_scope.specs.Spelled.{function_signature}
use Rattle.gp_scope.specs.declared.scope.Scope.{Scope}
use Rattle.gp_tree.specs.Program.{ProgramItem}
use Rattle.gp_tree.specs.declared.program.Item.{Item}
use Rattle.gp_types.specs.Linear.{is_linear}
use Rattle.gp_types.specs.Signature.{Parameter, Signature}
use Rattle.gp_types.specs.Types.{Ty}
use Rattle.gp_evaluator.specs.declared.entry.EvalFault.{EvalFault}
use Rattle.gp_evaluator.specs.declared.entry.EvalFault.TheVariants as fault
use Rattle.gp_evaluator.specs.declared.entry.SourceEnd.{SourceEnd}
use Rattle.gp_evaluator.specs.declared.entry.SourceEnd.TheVariants as ends
use Rattle.gp_evaluator.specs.declared.world.World as declared_world
use Rattle.gp_meaning.specs.Calls.{Called}
use Rattle.gp_evaluator.specs.Evaluation.{rest_of}
use Rattle.gp_meaning.specs.Runs.{run_of}
use Rattle.gp_evaluator.specs.View.{world_view}
use Rattle.std.specs.declared.alloc.AllocError.{AllocError}

abbrev pub is_linear_result : Option Ty → Bool
is_linear_result None = false
is_linear_result (Some ty) = is_linear ty

abbrev pub closed_with : List Parameter → Option Ty → Bool
closed_with [] ty = not (is_linear_result ty)
closed_with (p ∷ ps) ty = false

-- takes nothing, and answers no qubits
abbrev pub is_closed : Signature → Bool
is_closed s = closed_with s.params s.result

-- how a run ended
abbrev pub end_of : {A : Type 0} → Out World A → SourceEnd
end_of (Returned a w) = ends.Returned
end_of (Stopped TurnsUsed w) = ends.TurnsUsed
end_of (Stopped OutcomesUsed w) = ends.OutcomesUsed
end_of (Stopped DivisionByZero w) = ends.DivisionByZero
end_of (Stopped Stuck w) = ends.Stuck

-- the end and the world of the run of a function without values
abbrev pub RanToEnd : List Item → Scope → List ℕ → declared_world.World → declared_world.World → Result SourceEnd AllocError → Type 0
RanToEnd items scope entry before after result =
    MatchResult result
    (λ end. (end_of ((rest_of items scope).call entry [] (world_view before)) ≡ end) × (world_after ((rest_of items scope).call entry [] (world_view before)) ≡ world_view after))
    (λ why. Unit {0})

-- all of the events behind the others; where memory ran out the first ones of them
abbrev pub Appended : List Event → List Event → List Event → Result (Unit {0}) AllocError → Type 0
Appended before after more result = MatchResult result (λ u. after ≡ before ++ more) (λ why. (k : ℕ) × (after ≡ before ++ take k more))

-- why a function can't be an entry
abbrev pub fault_of : Option Signature → Option EvalFault
fault_of None = Some fault.NoEntry
fault_of (Some s) = if is_closed s then None else Some fault.EntryNotClosed

abbrev pub entry_fault : List ProgramItem → List ℕ → Option EvalFault
entry_fault program entry = fault_of (function_signature program entry)

-- the run of the entry
abbrev pub entry_run : List ProgramItem → List ℕ → ℕ → List Bool → Out World Called
entry_run program entry turns outcomes = run_of program entry [] (start turns outcomes)

-- what is said where a fault is answered
abbrev pub FaultAnswer : List ProgramItem → List ℕ → Out World Called → List Event → List Event → EvalFault → Type 0
FaultAnswer program entry run before after fault.Memory = (k : ℕ) × (after ≡ before ++ take k (world_after run).events)
FaultAnswer program entry run before after f = (entry_fault program entry ≡ Some f) × (after ≡ before)

abbrev pub EvaluateAnswer : List ProgramItem → List ℕ → ℕ → List Bool → List Event → List Event → Result SourceEnd EvalFault → Type 0
EvaluateAnswer program entry turns outcomes before after result =
    MatchResult result
    (λ end. (entry_fault program entry ≡ None) × (end_of (entry_run program entry turns outcomes) ≡ end) × (after ≡ before ++ (world_after (entry_run program entry turns outcomes)).events))
    (FaultAnswer program entry (entry_run program entry turns outcomes) before after)
