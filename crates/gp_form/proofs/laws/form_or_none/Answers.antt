use Rattle.gp_form.proofs.FormLaws.{has_form_or_none}
use Rattle.gp_form.proofs.laws.form_or_none.Goals as goal

pub returns : goal.returns
returns c = has_form_or_none
