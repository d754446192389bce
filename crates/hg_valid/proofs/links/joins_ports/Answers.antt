use Rattle.std.proofs.Common.{◌≡◌, ◌-◌, ◌∙◌, Some, None, length, slice_get, sym, ap}
use Rattle.hg_ops.specs.Op.{ins_of, outs_of}
use Rattle.hg_ops.specs.TypeView.{type_view}
use Rattle.hg_graph.specs.Graph.{op_at}
use Rattle.hg_graph.specs.View.{port_view}
use Rattle.hg_valid.proofs.PortKinds.{both_values, values_alike, both_behind, kinds_alike, value_to_other, other_to_value, same_kinds}
use Rattle.hg_valid.proofs.links.joins_ports.Goals as goal

pub returns-in-Some-Some : goal.returns-in-Some-Some
returns-in-Some-Some c =
    let g = c.args.graph.now in
    let from = port_view c.args.from in
    let to = port_view c.args.to in
    let t = type_view c.in-Some-Some.given.now in
    let u = type_view c.in-Some-Some.taken.now in
    let e : slice_get (outs_of (op_at g from.node)) from.index ≡ Some t = sym (c.in-Some-Some.ensures ∙ ap (λ ts. slice_get ts from.index) c.outs_at-outs.ensures) in
    let f : slice_get (ins_of (op_at g to.node)) to.index ≡ Some u = sym (c.in-Some-Some.ensures' ∙ ap (λ ts. slice_get ts to.index) c.ins_at-ins.ensures) in (
      λ s. both_values g from to t u e f (c.is_same.ensures.0 s),
      λ J. c.is_same.ensures.1 (values_alike g from to t u e f J),
    )

pub returns-in-None-None : goal.returns-in-None-None
returns-in-None-None c =
    let g = c.args.graph.now in
    let from = port_view c.args.from in
    let to = port_view c.args.to in
    let e : slice_get (outs_of (op_at g from.node)) from.index ≡ None = sym (c.in-None-None.ensures ∙ ap (λ ts. slice_get ts from.index) c.outs_at-outs.ensures) in
    let f : slice_get (ins_of (op_at g to.node)) to.index ≡ None = sym (c.in-None-None.ensures' ∙ ap (λ ts. slice_get ts to.index) c.ins_at-ins.ensures) in
    let p : from.index - c.len.result ≡ from.index - length (outs_of (op_at g from.node)) = ap (λ n. from.index - n) (c.len.ensures.len ∙ ap length c.outs_at-outs.ensures) in
    let q : to.index - c.len-in-None-None.result ≡ to.index - length (ins_of (op_at g to.node)) = ap (λ n. to.index - n) (c.len-in-None-None.ensures.len ∙ ap length c.ins_at-ins.ensures) in (
      λ s. both_behind g from to e f (same_kinds _ _ _ _ _ _ _ _ c.op.ensures c.op-in-None-None.ensures p q (c.same_other_kind.ensures.0 s)),
      λ J. c.same_other_kind.ensures.1 (same_kinds _ _ _ _ _ _ _ _ (sym c.op.ensures) (sym c.op-in-None-None.ensures) (sym p) (sym q) (kinds_alike g from to e f J)),
    )

pub returns-in_default : goal.returns-in_default
returns-in_default c =
    let g = c.args.graph.now in
    let from = port_view c.args.from in
    let to = port_view c.args.to in
    let t = type_view c.in_default.field-0-0.now in
    let e : slice_get (outs_of (op_at g from.node)) from.index ≡ Some t = sym (c.in_default.ensures ∙ ap (λ ts. slice_get ts from.index) c.outs_at-outs.ensures) in
    let f : slice_get (ins_of (op_at g to.node)) to.index ≡ None = sym (c.in_default.ensures' ∙ ap (λ ts. slice_get ts to.index) c.ins_at-ins.ensures) in (
      λ s. absurd cc,
      λ J. absurd (value_to_other g from to t e f J),
    )

pub returns-in_default-2 : goal.returns-in_default-2
returns-in_default-2 c =
    let g = c.args.graph.now in
    let from = port_view c.args.from in
    let to = port_view c.args.to in
    let u = type_view c.in_default.field-0-1.now in
    let e : slice_get (outs_of (op_at g from.node)) from.index ≡ None = sym (c.in_default.ensures ∙ ap (λ ts. slice_get ts from.index) c.outs_at-outs.ensures) in
    let f : slice_get (ins_of (op_at g to.node)) to.index ≡ Some u = sym (c.in_default.ensures' ∙ ap (λ ts. slice_get ts to.index) c.ins_at-ins.ensures) in (
      λ s. absurd cc,
      λ J. absurd (other_to_value g from to u e f J),
    )
