use Rattle.std.proofs.Common.{rules, ◌≡◌, arith, sym, ◌∙◌, ◌+◌, ◌++◌, drop}
use Rattle.std.proofs.lemmas.Grind.{common_steps}
use Rattle.gp_tree.specs.Statement.{statement, statements}
use Rattle.gp_locals.specs.Locals.{with_names, names_of_statement, names_of_block}
use Rattle.gp_locals.proofs.Names.{with_names_append}
use Rattle.gp_tree.specs.declared.stmt.Stmt as q
use Rattle.gp_locals.proofs.locals.+add_block.Goals as goal

pub add_block-loop-stmt-preserved : goal.add_block-loop-stmt-preserved
add_block-loop-stmt-preserved t c =
    let e = with_names_append c.loop-stmt.names (names_of_statement (statement c.stmt-item.result)) (names_of_block (statements (drop (c.loop-stmt.stmt-index + 1) c.args.block.now))) in
    let f = c.in_ok-add_stmt.ensures in
    grind (arith, common_steps, e, f)

pub add_stmt-returns-in_ok-add_block-in-If-2 : goal.add_stmt-returns-in_ok-add_block-in-If-2
add_stmt-returns-in_ok-add_block-in-If-2 t c =
    let e = with_names_append c.args.names.now (names_of_block (statements c.in-If.body.items)) (names_of_block (statements c.in-If.other.items)) in
    let f = c.in_ok-add_block-in-If.ensures in
    let g = c.in_ok-add_block-in-If-2.ensures in
    let step : c.add_block-in-If.new.names ≡ with_names c.args.names.now (names_of_block (statements c.in-If.body.items) ++ names_of_block (statements c.in-If.other.items)) =
    g ∙ rw (f, c.deref.ensures.value, c.deref-in-If.ensures.value) (sym e) in
    search (rules, q.the_lemmas, step)
