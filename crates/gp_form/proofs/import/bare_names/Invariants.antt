use Rattle.std.proofs.Common.{◌≡◌, ◌-◌, length}
use Rattle.gp_form.specs.code.FormReading.{names_from}
use Rattle.gp_form.proofs.FormTurns.{with_names}
use Rattle.gp_form.proofs.import.bare_names.Given as goal

abbrev pub invariant-loop-turn : goal.invariant-loop-turn
invariant-loop-turn l = names_from (length l.fn.tokens) l.fn.tokens ≡ with_names l.found (names_from (l._turn-end - l._turn) l.rest)
