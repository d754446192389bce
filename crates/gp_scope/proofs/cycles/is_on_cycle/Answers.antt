use Rattle.std.proofs.Common.{sym, ◌∙◌}
use Rattle.gp_tree.specs.Program.{program_items}
use Rattle.gp_scope.specs.Tables.{value_in}
use Rattle.gp_scope.proofs.ComponentLemmas.{above-no_cycle}
use Rattle.gp_scope.proofs.cycles.is_on_cycle.Goals as goal

pub returns-then-is_above_held : goal.returns-then-is_above_held
returns-then-is_above_held c =
    above-no_cycle (program_items c.args.names.now.items.now) (value_in c.args.names.now.structs c.args.numbers.now) (sym c.requires.ordered ∙ c.if-ordered.true)
    c.args.name.now (sym c.is_above_held.ensures ∙ c.if-is_above_held.true)
