use Rattle.std.proofs.Common.{◌≡◌, take, drop}
use Rattle.gp_form.specs.code.FormReading.{split}
use Rattle.gp_form.proofs.FormTurns.{behind_front}
use Rattle.gp_form.proofs.assigning.split.Given as goal

abbrev pub invariant-loop-place : goal.invariant-loop-place
invariant-loop-place l = split l.tokens ≡ behind_front (take l.place l.tokens) (split (drop l.place l.tokens))
