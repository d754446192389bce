-- An interrupted read consumes nothing.
use Rattle.std.specs.Io.KnownBytes.{Keeps}
use Rattle.guppy_top.proofs.real_files.read_retrying.Given as goal

abbrev pub invariant-loop : goal.invariant-loop
invariant-loop g l = Keeps (g.S.Read.remaining l.initial.source) (g.S.Read.remaining l.source)
