use Rattle.std.proofs.Common.{subst}
use Rattle.hg_ops.specs.Op.{Op}
use Rattle.hg_steps.specs.Machine.{close_step}
use Rattle.hg_run.specs.code.Stepped.{Keeps}
use Rattle.hg_run.proofs.Parts.{if_ok}
use Rattle.hg_run.proofs.steps.close.Goals as goal

pub returns-in-Some-TailLoop : goal.returns-in-Some-TailLoop
returns-in-Some-TailLoop c =
    let arm = c.in-Some-TailLoop in
    if_ok c.after_round.result _ _ c.after_round.ensures (λ how h. subst (λ (kind : Op). Keeps (close_step c.args.graph.now kind c.args.node.0 c.args.outs) c.args.machine.now how c.after_round.new.machine)
    (rw arm.field-0-is at arm.ensures) (h arm.field-0-0 arm.field-0-1 arm.field-0-2 c.args.graph.now))

pub returns-in-Some-DataflowBlock : goal.returns-in-Some-DataflowBlock
returns-in-Some-DataflowBlock c =
    let arm = c.in-Some-DataflowBlock in
    if_ok c.after_block.result _ _ c.after_block.ensures (λ how h. subst (λ (kind : Op). Keeps (close_step c.args.graph.now kind c.args.node.0 c.args.outs) c.args.machine.now how c.after_block.new.machine)
    (rw arm.field-0-is at arm.ensures) (h arm.field-0-0 arm.field-0-2 arm.field-0-1))
