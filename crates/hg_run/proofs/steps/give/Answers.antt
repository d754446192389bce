use Rattle.std.proofs.Common.{subst, sym, ap, ◌∙◌, refl, ◌≡◌}
use Rattle.std.specs.Prelude.{List}
use Rattle.hg_graph.specs.Run.{Fired, outs_at}
use Rattle.hg_graph.specs.declared.link.NodeId.{NodeId}
use Rattle.hg_run.specs.code.Due.{KnowsDuesBeside, followers_at}
use Rattle.hg_run.specs.code.FollowersView.{lists_of}
use Rattle.hg_run.proofs.Elsewhere.{known_beside}
use Rattle.hg_steps.specs.Machine.{give_step, kept}
use Rattle.hg_run.specs.code.StateView.{frame_view, frame_list, plain}
use Rattle.hg_run.proofs.Parts.{if_ok, give_same}
use Rattle.hg_run.proofs.steps.give.Goals as goal

pub returns-then-frame-eq0-clause-step : goal.returns-then-frame-eq0-clause-step
returns-then-frame-eq0-clause-step c = if_ok c.end.result _ _ c.end.ensures (λ how h events.
    let more : kept c.args.graph.now (frame_view c.args.frame) c.args.outs ≡ c.in_ok-fired.fired
    = sym c.in_ok-fired.ensures in
    ap (λ n. give_step c.args.graph.now n (frame_view c.args.frame) (kept c.args.graph.now (frame_view c.args.frame) c.args.outs) (frame_list c.args.frames.now.items) (plain c.args.machine.now events)) c.if-frame-eq0.true
    ∙ (ap (λ (fired : List Fired). give_step c.args.graph.now 0 (frame_view c.args.frame) fired (frame_list c.args.frames.now.items) (plain c.args.machine.now events)) more
    ∙ (give_same c.args.graph.now _ _ 0 _ _ _ refl refl ∙ h c.args.frames.now.items events)))

pub returns-else-frame-eq0-clause-step : goal.returns-else-frame-eq0-clause-step
returns-else-frame-eq0-clause-step c = if_ok c.go_on.result _ _ c.go_on.ensures.step (λ how h events.
    let more : kept c.args.graph.now (frame_view c.args.frame) c.args.outs ≡ c.in_ok-fired.fired
    = sym c.in_ok-fired.ensures in
    ap (λ (fired : List Fired). give_step c.args.graph.now c.args.frame.left (frame_view c.args.frame) fired (frame_list c.args.frames.now.items) (plain c.args.machine.now events)) more
    ∙ (give_same c.args.graph.now _ _ c.args.frame.left _ _ _ refl refl ∙ h events))

pub refresh_all-requires : goal.refresh_all-requires
refresh_all-requires c =
    subst (λ (nodes : List NodeId). KnowsDuesBeside c.args.graph.now c.args.frame.container.0 (outs_at c.in_ok-fired.fired) nodes c.args.frame.dues) (sym c.followers_at.ensures)
    (subst (λ (fired : List Fired). KnowsDuesBeside c.args.graph.now c.args.frame.container.0 (outs_at fired) (followers_at (lists_of c.args.tables.now.followers) c.args.frame.running.0) c.args.frame.dues) (sym c.in_ok-fired.ensures)
    (known_beside c.args.graph.now c.args.frame.container.0 c.args.frame.fired c.args.frame.running.0 c.args.outs (lists_of c.args.tables.now.followers) c.args.frame.dues c.requires.tables.followers c.requires.frame))
