-- What the form of a logical line is.
use Rattle.std.specs.Prelude.{◌≡◌, Result, Ok, Err}
use Rattle.gp_lex.specs.declared.line.LogicalLine.{LogicalLine}
use Rattle.gp_tree.specs.declared.line_form.LineForm.{LineForm}
use Rattle.gp_tree.specs.Form.{Form, form}
use Rattle.gp_form.specs.declared.form_fault.FormFault.{FormFault}
use Rattle.gp_form.specs.declared.form_fault.FormFault.TheVariants as fault
use Rattle.gp_form.specs.Forms.{SpellsForm}
use Rattle.gp_form.specs.LineSize.{IsTooBig}

-- The answer is the one form that the line's tokens spell, or TooBig with the line's number where the line is
-- above a bound, or NotALine with it where it isn't and its tokens spell no form, unless memory ran out.
abbrev pub IsFormOf : LogicalLine → Result LineForm FormFault → Type 0
IsFormOf line (Ok found) = (IsTooBig line.tokens → ⊥) × SpellsForm line.tokens (form found) × ((other : Form) → SpellsForm line.tokens other → other ≡ form found)
IsFormOf line (Err (fault.TooBig number)) = IsTooBig line.tokens × (number ≡ line.number)
IsFormOf line (Err (fault.NotALine number)) = (IsTooBig line.tokens → ⊥) × ((other : Form) → SpellsForm line.tokens other → ⊥) × (number ≡ line.number)
IsFormOf line (Err fault.Memory) = Unit {0}
