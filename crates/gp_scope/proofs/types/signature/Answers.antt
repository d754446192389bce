use Rattle.std.proofs.Common.{ap, ap₂, map, ◌∙◌}
use Rattle.gp_tree.specs.Form.{parameter}
use Rattle.gp_tree.specs.Program.{program_items}
use Rattle.gp_scope.specs.Spelled.{parameter_of}
use Rattle.gp_scope.proofs.types.signature.Goals as goal

pub returns : goal.returns
returns c =
    ap₂ (λ p r. record { params = p; result = r })
    (c.in_ok-params.ensures ∙ ap (λ ps. map (parameter_of (program_items c.args.names.now.items.now)) (map parameter ps)) c.as_slice.ensures)
    c.in_ok-result_type.ensures
