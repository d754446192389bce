use Rattle.std.proofs.Common.{◌≡◌, ◌-◌}
use Rattle.gp_form.specs.declared.list_end.ListEnd.TheVariants as until
use Rattle.gp_form.specs.code.FormReading.{listed, listed_from}
use Rattle.gp_form.specs.code.Reading.{past_end}
use Rattle.gp_form.specs.code.Steps.{past_name, with_front}
use Rattle.gp_form.proofs.import.names_inside.Given as goal

abbrev pub invariant-loop-turn : goal.invariant-loop-turn
invariant-loop-turn l = listed past_name (past_end until.Paren) l.fn.tokens ≡ with_front l.found (listed_from past_name (past_end until.Paren) (l._turn-end - l._turn) l.rest)
