use Rattle.std.proofs.Common.{◌≡◌, ◌∙◌, ap, sym, subst, Some, None}
use Rattle.gp_tree.specs.Program.{program_items}
use Rattle.gp_scope.specs.Collected.{CollectAnswer}
use Rattle.gp_scope.specs.FirstFault.{IsFirstFault, names_fault}
use Rattle.gp_scope.proofs.PhaseLemmas.{names-first}
use Rattle.gp_scope.proofs.phase.collect.Goals as goal

pub check_types-requires-clause-before : goal.check_types-requires-clause-before
check_types-requires-clause-before c = subst (λ p. names_fault p ≡ None) (sym c.in-Ok.ensures.2) c.in-Ok.ensures.0

pub returns-in-Err : goal.returns-in-Err
returns-in-Err c = λ h.
    subst (λ xs. IsFirstFault (program_items xs) (Some c.in-Err.fault)) c.as_slice.ensures (names-first (program_items c.as_slice.result.now) c.in-Err.fault (c.in-Err.ensures h))

pub returns-in-Ok : goal.returns-in-Ok
returns-in-Ok c =
    subst (λ p. CollectAnswer p c.check_types.result) (c.in-Ok.ensures.2 ∙ ap program_items c.as_slice.ensures) c.check_types.ensures
