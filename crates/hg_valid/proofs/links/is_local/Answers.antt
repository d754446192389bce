use Rattle.std.proofs.Common.{◌≡◌, ◌<◌, ◌≤◌, ◌-◌, ◌∙◌, length, slice_get, sym, ap, ap₂, subst}
use Rattle.std.proofs.lemmas.Bool.{lt-ltb}
use Rattle.hg_ops.specs.Op.{ins_of, other_inputs}
use Rattle.hg_graph.specs.Graph.{op_at}
use Rattle.hg_graph.specs.Valid.{is_local}
use Rattle.hg_valid.proofs.PortKinds.{local_value, local_behind}
use Rattle.hg_valid.proofs.links.is_local.Goals as goal

pub returns-then-to-len : goal.returns-then-to-len
returns-then-to-len c =
    let op = op_at c.args.graph.now c.args.to.node.0 in
    let count : c.len.result ≡ length (ins_of op) = c.len.ensures.len ∙ ap length c.ins_at-ins.ensures in
    let l : c.args.to.index < length (ins_of op) = subst (λ n. c.args.to.index < n) count c.if-to-len.true in
    lt-ltb c.args.to.index c.len.result c.if-to-len.true ∙ sym (local_value op c.args.to.index l)

pub returns-else-to-len : goal.returns-else-to-len
returns-else-to-len c =
    let op = op_at c.args.graph.now c.args.to.node.0 in
    let count : c.len.result ≡ length (ins_of op) = c.len.ensures.len ∙ ap length c.ins_at-ins.ensures in
    let again : c.len-else-to-len.result ≡ length (ins_of op) = c.len-else-to-len.ensures.len ∙ ap length c.ins_at-ins.ensures in
    let l : length (ins_of op) ≤ c.args.to.index = subst (λ n. n ≤ c.args.to.index) count c.if-to-len.false in
    c.is_control.ensures
    ∙ ap is_local (c.other_input.ensures ∙ ap₂ (λ o n. slice_get (other_inputs o) (c.args.to.index - n)) c.op.ensures again)
    ∙ sym (local_behind op c.args.to.index l)
