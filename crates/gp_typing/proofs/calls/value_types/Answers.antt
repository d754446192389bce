use Rattle.std.proofs.Common.{ap, ◌∙◌, map}
use Rattle.gp_types.specs.Types.{tys_of}
use Rattle.gp_types.specs.View.{ty_view, param_view}
use Rattle.gp_typing.proofs.Rows.{all_taken, value_row}
use Rattle.gp_typing.proofs.calls.value_types.Goals as goal

pub returns : goal.returns
returns c =
    ap tys_of (all_taken (λ p. (param_view p).ty) c.args.params.now c.loop-param.param-index (map ty_view c.loop-param.made.items) c.loop-param.invariant c.loop-param-test.false)
    ∙ value_row param_view c.args.params.now
