-- The answer of the steps of the names phase before cycles.
use Rattle.std.specs.Prelude.{◌≡◌, ◌≢◌, List, Some, None, Result, MatchResult}
use Rattle.gp_tree.specs.Program.{ProgramItem, program_items}
use Rattle.gp_scope.specs.declared.fault.ScopeFault.{ScopeFault}
use Rattle.gp_scope.specs.declared.fault.ScopeFault.TheVariants.{Memory}
use Rattle.gp_scope.specs.declared.names.Names.{Names}
use Rattle.gp_scope.specs.FirstFault.{names_fault}
use Rattle.gp_scope.specs.code.NamesOf.{AreNames}

-- `Ok` exactly where these steps find no fault, and then with the tables of names; else the first fault
abbrev pub NamesAnswer : List ProgramItem → Result Names ScopeFault → Type 0
NamesAnswer program result =
    MatchResult result (λ names. (names_fault program ≡ None) × AreNames names × (program_items names.items.now ≡ program)) (λ fault. fault ≢ Memory → names_fault program ≡ Some fault)
