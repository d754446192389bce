-- What the answer says of the spelling.
use Rattle.std.proofs.Common.{◌≡◌, Some, None, Ok, Err, refl, sym, ◌∙◌}
use Rattle.gp_lex.specs.declared.line.LogicalLine.{LogicalLine}
use Rattle.gp_tree.specs.declared.line_form.LineForm.{LineForm}
use Rattle.gp_tree.specs.Form.{form}
use Rattle.gp_form.specs.declared.form_fault.FormFault.TheVariants as fault
use Rattle.gp_form.specs.code.FormReading as spec
use Rattle.gp_form.specs.LineForms.{IsFormOf}
use Rattle.gp_form.specs.LineSize.{IsTooBig}
use Rattle.gp_form.proofs.StepLemmas.{some_is, none_some}
use Rattle.gp_form.proofs.FormSound.{line_sound}
use Rattle.gp_form.proofs.FormComplete.{line_complete}

pub found_is : (line : LogicalLine) (found : LineForm) → (IsTooBig line.tokens → ⊥) → spec.line line.tokens ≡ Some (form found) → IsFormOf line (Ok found)
found_is line found small h = (small, line_sound line.tokens (form found) h, λ other d. some_is other (form found) (sym (line_complete d) ∙ h))

pub nothing_is : (line : LogicalLine) → (IsTooBig line.tokens → ⊥) → spec.line line.tokens ≡ None → IsFormOf line (Err (fault.NotALine line.number))
nothing_is line small h = (small, λ other d. none_some other (sym h ∙ line_complete d), refl)
