use Rattle.std.proofs.Common.{◌≡◌, drop}
use Rattle.gp_tree.specs.Statement.{statements}
use Rattle.gp_locals.specs.Locals.{with_names, names_of_block}
use Rattle.gp_locals.proofs.locals.+add_block.Given as goal

-- with the names that are left, the same as at first
abbrev pub invariant-add_block-loop-stmt : goal.invariant-add_block-loop-stmt
invariant-add_block-loop-stmt l =
    with_names l.names (names_of_block (statements (drop l.stmt-index l.block))) ≡ with_names l.fn.names (names_of_block (statements l.block))
