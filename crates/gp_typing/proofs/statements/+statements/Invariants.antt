use Rattle.std.proofs.Common.{◌≡◌, ◌+◌, drop}
use Rattle.gp_tree.specs.Statement.{statements}
use Rattle.gp_typing.specs.code.Pieces.{continued}
use Rattle.gp_typing.specs.code.StatementView.{block_in, block_view, frame_view, known_for}
use Rattle.gp_typing.proofs.StatementSizes.{block_steps, statement_steps}
use Rattle.gp_typing.proofs.statements.+statements.Given as goal

-- the block so far with the statements that are left behind it is the whole
abbrev pub invariant-check_block-loop-stmt : goal.invariant-check_block-loop-stmt
invariant-check_block-loop-stmt l =
    continued (known_for l.frame) (frame_view l.frame) (block_view l.typed) (statements (drop l.stmt-index l.block))
    ≡ block_in l.frame l.fn.start (statements l.block)

-- each call goes down into a part
abbrev pub decreases-check_block : goal.decreases-check_block
decreases-check_block l = block_steps l.block.now

abbrev pub decreases-check_next : goal.decreases-check_next
decreases-check_next l = statement_steps l.stmt.now + 1

abbrev pub decreases-check_statement : goal.decreases-check_statement
decreases-check_statement l = statement_steps l.stmt.now

abbrev pub decreases-check_if : goal.decreases-check_if
decreases-check_if l = block_steps l.body.now + block_steps l.other.now + 1

abbrev pub decreases-check_while : goal.decreases-check_while
decreases-check_while l = block_steps l.body.now + 1

abbrev pub decreases-check_for : goal.decreases-check_for
decreases-check_for l = block_steps l.body.now + 1
