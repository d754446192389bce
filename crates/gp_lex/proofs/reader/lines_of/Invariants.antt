use Rattle.std.proofs.Common.{length}
use Rattle.gp_lex.specs.code.Reading.{lines_of}
use Rattle.gp_lex.proofs.Turns.{Kept}
use Rattle.gp_lex.proofs.reader.lines_of.Given as goal

abbrev pub invariant-loop-turn : goal.invariant-loop-turn
invariant-loop-turn l = Kept (length l.text) (lines_of l.text) l._turn-end l._turn l.found l.at l.begun l.rest
