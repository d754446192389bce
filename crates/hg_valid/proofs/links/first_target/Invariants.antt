use Rattle.std.proofs.Common.{take}
use Rattle.std.specs.Option.{option_map}
use Rattle.hg_graph.specs.View.{number_of}
use Rattle.hg_valid.specs.code.LinkRules.{LeastTarget}
use Rattle.hg_valid.proofs.links.first_target.Given as goal

abbrev pub invariant-loop-number : goal.invariant-loop-number
invariant-loop-number l = LeastTarget l.graph l.rule (take l.number l.graph.links) (option_map number_of l.found)
