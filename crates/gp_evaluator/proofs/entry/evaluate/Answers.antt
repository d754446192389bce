use Rattle.std.proofs.Common.{◌≡◌, ◌∙◌, ◌++◌, [], Some, None, if◌then◌else◌, take, ap, sym}
use Rattle.gp_base.specs.Clean.{world_after}
use Rattle.gp_scope.specs.Spelled.{function_signature}
use Rattle.gp_tree.specs.Program.{program_items}
use Rattle.gp_types.specs.Signature.{signature_view}
use Rattle.gp_evaluator.specs.declared.entry.EvalFault.TheVariants as fault
use Rattle.gp_evaluator.specs.Answers.{end_of, fault_of}
use Rattle.gp_evaluator.specs.Evaluation.{rest_of}
use Rattle.gp_evaluator.specs.View.{world_view}
use Rattle.gp_evaluator.proofs.EntryRuns.{entry_is}
use Rattle.gp_evaluator.proofs.entry.evaluate.Goals as goal

pub returns-in-Ok-append : goal.returns-in-Ok-append
returns-in-Ok-append c =
    let program = program_items c.args.program.now in
    let entry = c.args.entry.now in
    let scope = c.args.scope.now in
    let w = world_view c.new-world.result in
    let known : function_signature program entry ≡ Some (signature_view c.in-Some.signature.now) = sym (c.requires.signatures_are entry) ∙ sym c.in-Some.ensures in
    let same = ap (λ items. (rest_of items scope).call entry [] w) c.as_slice.ensures ∙ entry_is c.args.program.now scope entry c.args.turns c.args.outcomes.now w c.requires c.new-world.ensures in (
      ap fault_of known ∙ ap (λ b. if b then None else Some fault.EntryNotClosed) (sym c.is_closed.ensures ∙ c.if-not-is_closed.false),
      sym (ap end_of same) ∙ c.in-Ok.ensures.0,
      c.in-Ok-append.ensures ∙ ap (λ events. c.args.events.now ++ events) (c.into_events.ensures ∙ ap (λ v. v.events) (sym c.in-Ok.ensures.1 ∙ ap world_after same)),
    )

pub returns-in-Err : goal.returns-in-Err
returns-in-Err c =
    let entry = c.args.entry.now in
    let scope = c.args.scope.now in
    let w = world_view c.new-world.result in
    let same = ap (λ items. (rest_of items scope).call entry [] w) c.as_slice.ensures ∙ entry_is c.args.program.now scope entry c.args.turns c.args.outcomes.now w c.requires c.new-world.ensures in (
      c.in-Err.ensures.0,
      c.in-Err.ensures.1 ∙ ap (λ events. c.args.events.now ++ take c.in-Err.ensures.0 events) (c.into_events.ensures ∙ ap (λ v. v.events) (sym c.in-Ok.ensures.1 ∙ ap world_after same)),
    )
