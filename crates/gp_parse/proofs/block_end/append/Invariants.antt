use Rattle.std.proofs.Common.{◌≡◌, ◌++◌, length}
use Rattle.std.specs.Vec.Iter.{into_iter_items, into_iter_len}
use Rattle.gp_parse.proofs.block_end.append.Given as goal

abbrev pub invariant-loop-statement : goal.invariant-loop-statement
invariant-loop-statement l = (l.block.items ++ into_iter_items l.statement-iterator ≡ l.fn.block.items ++ l.fn.more.items) × (into_iter_len l.statement-iterator ≡ length (into_iter_items l.statement-iterator))
