use Rattle.std.proofs.Common.{◌≡◌, length}
use Rattle.walks.proofs.components.component_numbers.Given as goal

-- each node has a number
abbrev pub invariant-loop : goal.invariant-loop
invariant-loop l = length l.numbering.numbers.items ≡ length l.successors
