use Rattle.std.proofs.Common.{[], arith, map}
use Rattle.std.proofs.lemmas.Grind.{common_steps}
use Rattle.gp_tree.specs.Statement.{statements}
use Rattle.gp_locals.specs.Locals.{names_of_block}
use Rattle.gp_locals.proofs.Names.{names_seen, parameter_name, with_names_append}
use Rattle.gp_locals.proofs.locals.locals_of.Goals as goal

pub returns : goal.returns
returns c =
    let s = names_seen c.args.params.now in
    let e = with_names_append [] (map parameter_name c.args.params.now) (names_of_block (statements c.args.body.now)) in
    let f = c.in_ok-add_block.ensures in
    grind (arith, common_steps, s, e, f)
