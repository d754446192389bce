use Rattle.std.proofs.Common.{◌∙◌, true, false, sym, ap}
use Rattle.hg_ops.specs.Op.{Op}
use Rattle.hg_graph.specs.Value.{is_signature, signature_of}
use Rattle.hg_run.specs.code.FunctionsView.{number_in}
use Rattle.hg_run.proofs.Callees.{callee_none, callee_some}
use Rattle.hg_run.proofs.functions.callee.Goals as goal

pub returns-in-None : goal.returns-in-None
returns-in-None c =
    callee_none c.args.graph.now c.args.ins.now c.args.outs.now c.args.name.now
    (sym (c.requires c.args.name.now) ∙ (ap (number_in c.args.functions.now.numbers) (sym c.as_str.ensures) ∙ sym c.in-None.ensures))

pub returns-in-None-op_of : goal.returns-in-None-op_of
returns-in-None-op_of c =
    callee_some c.args.graph.now c.args.ins.now c.args.outs.now c.args.name.now c.in-Some.number false
    (sym (c.requires c.args.name.now) ∙ (ap (number_in c.args.functions.now.numbers) (sym c.as_str.ensures) ∙ sym c.in-Some.ensures))
    (ap (λ (op : Op). is_signature c.args.ins.now c.args.outs.now (signature_of op)) (sym c.in-None-op_of.ensures))

pub returns-then-has_types : goal.returns-then-has_types
returns-then-has_types c =
    callee_some c.args.graph.now c.args.ins.now c.args.outs.now c.args.name.now c.in-Some.number true
    (sym (c.requires c.args.name.now) ∙ (ap (number_in c.args.functions.now.numbers) (sym c.as_str.ensures) ∙ sym c.in-Some.ensures))
    (sym c.if-has_types.true ∙ (c.has_types.ensures ∙ ap (λ (op : Op). is_signature c.args.ins.now c.args.outs.now (signature_of op)) c.in-Some-op_of.ensures))

pub returns-else-has_types : goal.returns-else-has_types
returns-else-has_types c =
    callee_some c.args.graph.now c.args.ins.now c.args.outs.now c.args.name.now c.in-Some.number false
    (sym (c.requires c.args.name.now) ∙ (ap (number_in c.args.functions.now.numbers) (sym c.as_str.ensures) ∙ sym c.in-Some.ensures))
    (sym c.if-has_types.false ∙ (c.has_types.ensures ∙ ap (λ (op : Op). is_signature c.args.ins.now c.args.outs.now (signature_of op)) c.in-Some-op_of.ensures))
