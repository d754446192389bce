use Rattle.std.proofs.Common.{rules, ◌≡◌, ap, ◌∙◌, sym}
use Rattle.gp_tree.specs.Program.{program_items}
use Rattle.gp_scope.specs.Tables.{value_in}
use Rattle.gp_scope.proofs.Levels.{level-zero}
use Rattle.gp_scope.proofs.SizeLemmas.{value_in-empty, next-level}
use Rattle.gp_scope.proofs.sizes.struct_sizes.Goals as goal

pub loop-round-init : goal.loop-round-init
loop-round-init c = λ q.
    ap (λ l. value_in c.args.names.now.structs l q) c.new-sizes.ensures.items ∙ value_in-empty c.args.names.now.structs q
    ∙ sym (level-zero (program_items c.args.names.now.items.now) q)

pub loop-round-preserved : goal.loop-round-preserved
loop-round-preserved c =
    let sizes : c.deref.result.now ≡ c.loop-round.sizes.items = search rules in
    next-level (program_items c.args.names.now.items.now) c.args.names.now.structs c.requires.1 c.loop-round._round c.deref.result.now c.in_ok-sizes.sizes.items
    (λ q. ap (λ l. value_in c.args.names.now.structs l q) sizes ∙ c.loop-round.invariant q) c.in_ok-sizes.ensures
