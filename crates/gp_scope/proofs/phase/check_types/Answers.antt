use Rattle.std.proofs.Common.{◌∙◌, ap, refl, Some, None}
use Rattle.gp_tree.specs.Program.{program_items}
use Rattle.gp_scope.specs.Sizes.{sizes_fault}
use Rattle.gp_scope.specs.Tables.{value_in}
use Rattle.gp_scope.proofs.CycleLemmas.{structs-have-fields}
use Rattle.gp_scope.proofs.PhaseLemmas.{first-fault, no-cycle, sizes-decide, sizes-first}
use Rattle.gp_scope.proofs.phase.check_types.Goals as goal

pub returns-in-Err : goal.returns-in-Err
returns-in-Err c = λ h.
    first-fault (program_items c.args.names.items.now) (Some c.in-Err.fault) c.requires.before
    (c.in-Err.ensures h (sizes_fault (program_items c.args.names.items.now) (program_items c.args.names.items.now)))

pub check_sizes-requires : goal.check_sizes-requires
check_sizes-requires c =
    sizes-decide (program_items c.args.names.items.now) c.args.names.structs c.deref-2.result.now 64 refl
    (λ q. ap (λ l. value_in c.args.names.structs l q) c.deref-2.ensures.value ∙ c.in_ok-sizes.ensures q) (no-cycle (program_items c.args.names.items.now) c.in-Ok.ensures)

pub returns-in-Err-check_sizes : goal.returns-in-Err-check_sizes
returns-in-Err-check_sizes c = λ h.
    sizes-first (program_items c.args.names.items.now) (Some c.in-Err-check_sizes.fault) c.requires.before
    (no-cycle (program_items c.args.names.items.now) c.in-Ok.ensures) (c.in-Err-check_sizes.ensures h)

pub make_scope-requires : goal.make_scope-requires
make_scope-requires c = (c.requires.tables, structs-have-fields (program_items c.args.names.items.now) (no-cycle (program_items c.args.names.items.now) c.in-Ok.ensures))

pub returns : goal.returns
returns c = (
  sizes-first (program_items c.args.names.items.now) None c.requires.before (no-cycle (program_items c.args.names.items.now) c.in-Ok.ensures) c.in-Ok-check_sizes.ensures,
  c.in_ok-make_scope.ensures,
)
