use Rattle.guppy_call.proofs.Due.{due-not_thin, due-thin, length-thin_text}
use Rattle.guppy_call.proofs.compile.compile_text.Goals as goal

pub returns-in_default-clause-due : goal.returns-in_default-clause-due
returns-in_default-clause-due c =
    due-not_thin _ (record { within = c.if-text-gt-SOURCE_LIMIT.false; other = rw c.in_default.is at c.in_ok-lines.ensures.none })

pub graph_line-requires : goal.graph_line-requires
graph_line-requires c = length-thin_text _ _ _ (rw c.in-Some.is at c.in_ok-lines.ensures.lines) c.if-text-gt-SOURCE_LIMIT.false

pub returns-clause-due : goal.returns-clause-due
returns-clause-due c =
    due-thin
    _
    c.in-Some.lines
    _
    (record { within = c.if-text-gt-SOURCE_LIMIT.false; spelled = rw c.in-Some.is at c.in_ok-lines.ensures.lines })
    c.graph_line.ensures.given_up
    c.graph_line.ensures.held_at_return
    c.graph_line.ensures.compiled
