use Rattle.gp_lex.proofs.Comments.{goes_on}
use Rattle.gp_lex.proofs.piece.comment_len.Goals as goal

pub loop-len-preserved : goal.loop-len-preserved
loop-len-preserved c =
    goes_on c.loop-len.len c.args.text.now c.split_at.result.1.now c.ends_line.result c.loop-len-test.true c.split_at.ensures.back c.ends_line.ensures c.if-not-ends_line.true c.loop-len.invariant.1
