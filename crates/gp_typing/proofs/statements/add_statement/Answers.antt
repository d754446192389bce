use Rattle.gp_typing.specs.code.Pieces.{ended_next}
use Rattle.gp_typing.specs.code.StatementView.{block_view, ends_view, statement_view}
use Rattle.gp_typing.specs.View.{statements_view}
use Rattle.gp_typing.proofs.Binds.{exits}
use Rattle.gp_typing.proofs.BlockViews.{ended_next-err, ended_next-ok}
use Rattle.gp_typing.proofs.statements.add_statement.Goals as goal

pub returns-in_err-ends : goal.returns-in_err-ends
returns-in_err-ends c =
    exits block_view c.from_residual-in_err-ends.result (ended_next c.args.line (block_view c.args.block) c.args.before (statement_view c.args.typed)) c.in_err-ends.field-0.0 c.from_residual-in_err-ends.ensures.1
    (λ n. ended_next-err c.args.line (block_view c.args.block) c.args.before (statement_view c.args.typed) c.in_err-ends.field-0.0 (c.in_err-ends.ensures n))

pub returns : goal.returns
returns c =
    ended_next-ok c.args.line (block_view c.args.block) c.args.before (statement_view c.args.typed) (ends_view c.in_ok-ends.ends) c.in_ok-ends.ensures
    (statements_view c.append_statement.new.stmts.items) c.in_ok-append_statement.ensures
