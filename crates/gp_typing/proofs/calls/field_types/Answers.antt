use Rattle.std.proofs.Common.{ap, ◌∙◌, map}
use Rattle.gp_types.specs.Types.{tys_of}
use Rattle.gp_types.specs.View.{ty_view, field_view}
use Rattle.gp_typing.proofs.Rows.{all_taken, field_row}
use Rattle.gp_typing.proofs.calls.field_types.Goals as goal

pub returns : goal.returns
returns c =
    ap tys_of (all_taken (λ f. (field_view f).ty) c.args.fields.now c.loop-field.field-index (map ty_view c.loop-field.made.items) c.loop-field.invariant c.loop-field-test.false)
    ∙ field_row field_view c.args.fields.now
