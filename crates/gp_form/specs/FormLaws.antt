-- What the grammar makes of every line: it is too big or not, and its tokens spell one form or none.
use Rattle.std.specs.Prelude.{◌⊎◌, List}
use Rattle.gp_lex.specs.declared.token.Token.{Token}
use Rattle.gp_tree.specs.Form.{Form}
use Rattle.gp_form.specs.Forms.{SpellsForm}
use Rattle.gp_form.specs.LineSize.{IsTooBig}

-- Tokens spell a form, or they spell none; and they are too many or not.
pub record HasFormOrNone : Type 0 where
  pub form_or_none : (ts : List Token) → ((v : Form) × SpellsForm ts v) ⊎ ((v : Form) → SpellsForm ts v → ⊥)
  pub big_or_small : (ts : List Token) → IsTooBig ts ⊎ (IsTooBig ts → ⊥)
