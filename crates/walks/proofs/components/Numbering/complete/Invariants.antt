use Rattle.std.proofs.Common.{◌≡◌, length}
use Rattle.walks.proofs.components.Numbering.complete.Given as goal

-- there are as many numbers as before
abbrev pub invariant-loop : goal.invariant-loop
invariant-loop l = length l.self.numbers.items ≡ length l.fn.self.numbers.items
