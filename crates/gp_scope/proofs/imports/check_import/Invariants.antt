use Rattle.std.proofs.Common.{◌≡◌, drop}
use Rattle.gp_scope.specs.Definitions as spec
use Rattle.gp_scope.proofs.imports.check_import.Given as goal

-- what is left decides
abbrev pub invariant-loop-name : goal.invariant-loop-name
invariant-loop-name l = spec.imported_names_fault l.import (drop l.name-index l.name-items) ≡ spec.imported_names_fault l.import l.import.names
