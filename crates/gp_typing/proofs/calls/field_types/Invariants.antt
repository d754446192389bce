use Rattle.std.proofs.Common.{◌≡◌, map, take}
use Rattle.gp_types.specs.View.{ty_view, field_view}
use Rattle.gp_typing.proofs.calls.field_types.Given as goal

abbrev pub invariant-loop-field : goal.invariant-loop-field
invariant-loop-field l = map ty_view l.made.items ≡ map (λ f. (field_view f).ty) (take l.field-index l.fields)
