use Rattle.std.proofs.Common.{◌≡◌, length}
use Rattle.walks.proofs.components.Numbering.enter.Given as goal

-- there are as many numbers as before
abbrev pub invariant-loop-next : goal.invariant-loop-next
invariant-loop-next l = length l.self.numbers.items ≡ length l.fn.self.numbers.items
