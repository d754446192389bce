use Rattle.std.proofs.Common.{rules}
use Rattle.gp_tree.specs.declared.line_form.LineForm as q
use Rattle.gp_parse.proofs.block_line.go_on.Goals as goal

pub returns-in-While : goal.returns-in-While
returns-in-While c = λ xs. search (rules, q.the_lemmas, c.open_new.ensures xs)

pub returns-in-For : goal.returns-in-For
returns-in-For c = search (rules, q.the_lemmas, c.open_new-in-For.ensures)

pub returns-in-If : goal.returns-in-If
returns-in-If c = λ xs. search (rules, q.the_lemmas, c.open_new-in-If.ensures xs)

pub returns-in-Elif : goal.returns-in-Elif
returns-in-Elif c = λ xs. search (rules, q.the_lemmas, c.open_other.ensures xs)

pub returns-in-Else : goal.returns-in-Else
returns-in-Else c = λ xs. search (rules, q.the_lemmas, c.open_other-in-Else.ensures xs)

pub returns-in_default : goal.returns-in_default
returns-in_default c = λ xs. search (rules, q.the_lemmas, c.add_line.ensures xs)
