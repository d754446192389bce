-- What the rules of names make of every program: one first fault, or none.
use Rattle.std.specs.Prelude.{◌≡◌, ◌≢◌, List, Some}
use Rattle.gp_tree.specs.Program.{ProgramItem}
use Rattle.gp_scope.specs.declared.fault.ScopeFault.TheVariants.{Memory}
use Rattle.gp_scope.specs.Checks.{Found}
use Rattle.gp_scope.specs.FirstFault.{IsFirstFault}

-- The names of a program have exactly one first fault, or none; and want of memory is no fault of names.
pub record NamesHaveOneAnswer : Type 0 where
  pub one : (program : List ProgramItem) (a b : Found) → IsFirstFault program a → IsFirstFault program b → a ≡ b
  pub always_one : (program : List ProgramItem) → (found : Found) × IsFirstFault program found × (found ≢ Some Memory)
