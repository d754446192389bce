use Rattle.std.proofs.Common.{◌≡◌, map, ◌+◌, ◌-◌, ◌*◌}
use Rattle.gp_form.specs.code.Reading.{read, level, tighter, looseness, chain, chain_from, items, items_from}
use Rattle.gp_form.specs.code.Steps.{with_front}
use Rattle.gp_form.proofs.expression.+parser.Given as goal
use Rattle.gp_tree.specs.Expression.{expression}

abbrev pub decreases-atom : goal.decreases-atom
decreases-atom l = 40 * l.depth + 3

abbrev pub decreases-chain : goal.decreases-chain
decreases-chain l = 40 * l.depth + 5 + 2 * looseness (tighter l.at)

abbrev pub decreases-comparison : goal.decreases-comparison
decreases-comparison l = 40 * l.depth + 11

abbrev pub decreases-deeper : goal.decreases-deeper
decreases-deeper l = 40 * l.depth

abbrev pub decreases-expressions : goal.decreases-expressions
decreases-expressions l = 40 * l.depth + 2

abbrev pub decreases-items : goal.decreases-items
decreases-items l = 40 * l.depth + 1

abbrev pub decreases-level : goal.decreases-level
decreases-level l = 40 * l.depth + 4 + 2 * looseness l.level

abbrev pub decreases-named : goal.decreases-named
decreases-named l = 40 * l.depth + 2

abbrev pub decreases-inversion : goal.decreases-inversion
decreases-inversion l = 40 * l.depth + 12

abbrev pub decreases-factor : goal.decreases-factor
decreases-factor l = 40 * l.depth + 5

abbrev pub decreases-whole : goal.decreases-whole
decreases-whole l = 40 * l.depth + 19

abbrev pub invariant-chain-loop-turn : goal.invariant-chain-loop-turn
invariant-chain-loop-turn l = chain l.at (level (read l.depth) (tighter l.at)) l.fn.tokens ≡ chain_from l.at (level (read l.depth) (tighter l.at)) (l._turn-end - l._turn) (expression l.left) l.rest

abbrev pub invariant-items-loop-turn : goal.invariant-items-loop-turn
invariant-items-loop-turn l = with_front (map expression l.fn.found.items) (items (read l.depth) l.end l.fn.tokens) ≡ with_front (map expression l.found.items) (items_from (read l.depth) l.end (l._turn-end - l._turn) l.rest)
