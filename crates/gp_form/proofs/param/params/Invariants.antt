use Rattle.std.proofs.Common.{◌≡◌, map, ◌-◌}
use Rattle.gp_form.specs.declared.list_end.ListEnd.TheVariants as until
use Rattle.gp_form.specs.code.FormReading.{listed, listed_from, param}
use Rattle.gp_form.specs.code.Reading.{past_end}
use Rattle.gp_form.specs.code.Steps.{with_front}
use Rattle.gp_tree.specs.Form.{parameter}
use Rattle.gp_form.proofs.param.params.Given as goal

abbrev pub invariant-loop-turn : goal.invariant-loop-turn
invariant-loop-turn l = listed param (past_end until.Paren) l.fn.tokens ≡ with_front (map parameter l.found) (listed_from param (past_end until.Paren) (l._turn-end - l._turn) l.rest)
