-- The first fault of a program's names, or none. Each step goes over the whole program before the next begins.
use Rattle.std.specs.Prelude.{◌≡◌, ◌≢◌, ◌⊎◌, Result, MatchResult, List, [], ◌∷◌, Some, None, MatchOption}
use Rattle.gp_tree.specs.Program.{ProgramItem, StructDefinition}
use Rattle.gp_scope.specs.declared.fault.ScopeFault.{ScopeFault}
use Rattle.gp_scope.specs.declared.fault.ScopeFault.TheVariants as fault
use Rattle.gp_scope.specs.Checks.{Found, first}
use Rattle.gp_scope.specs.Definitions.{structs_in, imports_fault, definitions_fault, decorators_fault}
use Rattle.gp_scope.specs.Parts.{parts_fault}
use Rattle.gp_scope.specs.Cycles.{IsOnCycle}
use Rattle.gp_scope.specs.Sizes.{sizes_fault}

-- what the steps before cycles find
abbrev pub names_fault : List ProgramItem → Found
names_fault program = first (imports_fault program) (first (definitions_fault program [] program) (first (decorators_fault program) (parts_fault program program)))

-- The first of these structs that holds itself is found, else what comes next.
abbrev pub FindsCycle : (program : List ProgramItem) → List StructDefinition → (next found : Found) → Type 0
FindsCycle program [] next found = found ≡ next
FindsCycle program (s ∷ ss) next found =
    (IsOnCycle program s.name × (found ≡ Some (fault.StructCycle s.line))) ⊎ ((¬ IsOnCycle program s.name) × FindsCycle program ss next found)

-- The answer of the code's step on cycles: `Ok` exactly where no struct is on one.
abbrev pub CyclesAnswer : List ProgramItem → Result Unit ScopeFault → Type 0
CyclesAnswer program result =
    MatchResult result (λ _. FindsCycle program (structs_in program) None None) (λ f. f ≢ fault.Memory → (next : Found) → FindsCycle program (structs_in program) next (Some f))

abbrev pub IsFirstFault : List ProgramItem → Found → Type 0
IsFirstFault program found =
    MatchOption (names_fault program) (FindsCycle program (structs_in program) (sizes_fault program program) found) (λ f. found ≡ Some f)
