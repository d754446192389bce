-- The answer of the names phase.
use Rattle.std.specs.Prelude.{◌≢◌, List, Some, None, Result, MatchResult}
use Rattle.gp_tree.specs.Program.{ProgramItem}
use Rattle.gp_scope.specs.declared.fault.ScopeFault.{ScopeFault}
use Rattle.gp_scope.specs.declared.fault.ScopeFault.TheVariants.{Memory}
use Rattle.gp_scope.specs.declared.scope.Scope.{Scope}
use Rattle.gp_scope.specs.FirstFault.{IsFirstFault}
use Rattle.gp_scope.specs.ScopeView.{IsScopeOf}

-- `Ok` exactly where the names have no fault, and then with the program's scope; else the first fault
abbrev pub CollectAnswer : List ProgramItem → Result Scope ScopeFault → Type 0
CollectAnswer program result =
    MatchResult result (λ scope. IsFirstFault program None × IsScopeOf program scope) (λ fault. fault ≢ Memory → IsFirstFault program (Some fault))
