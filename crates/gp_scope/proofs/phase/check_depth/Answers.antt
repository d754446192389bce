use Rattle.std.proofs.Common.{rules, ◌≡◌, false, refl, nat_lt}
use Rattle.std.specs.List.{list_any}
use Rattle.gp_tree.specs.Program.{program_items}
use Rattle.gp_scope.proofs.PhaseLemmas.{small-finds}
use Rattle.gp_scope.proofs.phase.check_depth.Goals as goal

pub returns-else-is_any_above : goal.returns-else-is_any_above
returns-else-is_any_above c =
    let none : list_any (λ size. nat_lt 64 size) c.args.sizes.now ≡ false = search rules in
    small-finds (program_items c.args.names.now.items.now) c.args.names.now.structs c.args.sizes.now 64 refl c.requires.levels none
