use Rattle.std.proofs.Common.{◌≡◌, [], ◌∷◌, ◌-◌}
use Rattle.gp_form.specs.code.FormReading.{listed, listed_from}
use Rattle.gp_form.specs.code.Reading.{place_front, past_end}
use Rattle.gp_form.specs.code.Steps.{with_front}
use Rattle.gp_form.proofs.target.places.Given as goal

abbrev pub invariant-loop-turn : goal.invariant-loop-turn
invariant-loop-turn l = with_front (l.fn.first ∷ []) (listed place_front (past_end l.end) l.fn.tokens) ≡ with_front l.found (listed_from place_front (past_end l.end) (l._turn-end - l._turn) l.rest)
