use Rattle.std.proofs.Common.{ap, ◌∙◌, map}
use Rattle.gp_types.specs.Types.{tys_of}
use Rattle.gp_types.specs.View.{ty_view}
use Rattle.gp_typing.specs.Expressions as spec
use Rattle.gp_typing.proofs.Rows.{all_taken, built_in_row}
use Rattle.gp_typing.proofs.calls.built_in_types.Goals as goal

pub returns : goal.returns
returns c =
    ap tys_of (all_taken (λ p. spec.built_in_ty p.ty) c.args.params.now c.loop-param.param-index (map ty_view c.loop-param.made.items) c.loop-param.invariant c.loop-param-test.false)
    ∙ built_in_row c.args.params.now
