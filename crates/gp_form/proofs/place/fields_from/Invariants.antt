use Rattle.std.proofs.Common.{◌≡◌, [], length, ◌-◌}
use Rattle.gp_form.specs.code.Reading.{fields_from}
use Rattle.gp_form.proofs.place.fields_from.Given as goal

abbrev pub invariant-loop-turn : goal.invariant-loop-turn
invariant-loop-turn l = fields_from (length l.fn.tokens) [] l.fn.tokens ≡ fields_from (l._turn-end - l._turn) l.fields l.rest
