use Rattle.std.proofs.Common.{ap, sym, ◌∙◌, subst}
use Rattle.gp_base.specs.Run.{Returned, Stopped, Stuck}
use Rattle.hg_graph.specs.Run.{outs_at}
use Rattle.hg_run.specs.code.Due.{HasOtherDues}
use Rattle.hg_run.specs.code.StateView.{ready_view}
use Rattle.hg_run.proofs.DueLists.{none_chosen, chosen, never_none, never_past, unfired}
use Rattle.hg_run.proofs.Elsewhere.{but_one, is_place}
use Rattle.hg_run.proofs.due.take_due.Goals as goal

pub returns-in-None-clause-choice : goal.returns-in-None-clause-choice
returns-in-None-clause-choice c = λ s p.
    none_chosen c.args.graph.now c.args.container.0 (outs_at c.args.fired.now) c.args.dues.now.ready c.requires.ready s c.in-None.ensures.none.0
    ∙ ap (λ picks. Stopped Stuck (record s { picks = picks })) (p ∙ sym c.in-None.ensures.none.1)

pub returns-in-None-child_of-clause-choice : goal.returns-in-None-child_of-clause-choice
returns-in-None-child_of-clause-choice c = λ s p.
    absurd (never_past c.args.graph.now c.args.container.0 (outs_at c.args.fired.now) c.args.dues.now.ready c.requires.ready c.in-Some.place c.in-None-child_of.ensures c.in-Some.ensures.place.member)

pub returns-in-None-2-clause-choice : goal.returns-in-None-2-clause-choice
returns-in-None-2-clause-choice c = λ s p.
    absurd
    (never_none c.args.graph.now c.args.container.0 (outs_at c.args.fired.now) c.args.dues.now.ready c.requires.ready c.in-Some.place c.in-Some-child_of.node.0
    (sym c.in-Some-child_of.ensures) c.in-Some.ensures.place.member (sym c.in-None-2.is ∙ c.in_ok-inputs_of-in-Some-child_of.ensures))

pub returns-in-Some-2-clause-choice : goal.returns-in-Some-2-clause-choice
returns-in-Some-2-clause-choice c = λ s p.
    chosen c.args.graph.now c.args.container.0 (outs_at c.args.fired.now) c.args.dues.now.ready c.requires.ready c.in-Some.place c.in-Some-child_of.node.0
    (sym c.in-Some-child_of.ensures) c.in-Some.ensures.place.member s c.args.picks.now.items c.in-Some-2.ins p c.in-Some.ensures.place.rank
    (sym c.in-Some-2.is ∙ c.in_ok-inputs_of-in-Some-child_of.ensures)
    ∙ ap (λ picks. Returned (ready_view (record { node = c.in-Some-child_of.node; ins = c.in-Some-2.ins })) (record s { picks = picks })) (sym c.in-Some.ensures.picks)

pub returns-in-Some-2-clause-rest : goal.returns-in-Some-2-clause-rest
returns-in-Some-2-clause-rest c =
    let g = c.args.graph.now in
    let look = outs_at c.args.fired.now in
    let n = c.in-Some-child_of.node.0 in
    let here = sym c.in-Some-child_of.ensures in
    record {
      ready =
          subst (HasOtherDues g c.args.container.0 look n) (sym c.in-Some.ensures.place.rest)
          (but_one g c.args.container.0 n look c.in-Some.place c.args.dues.now.ready (is_place g c.args.container.0 n c.in-Some.place here) c.requires.ready);
      seen = record { values = c.requires.seen.values; orders = c.requires.seen.orders };
      first = unfired g c.args.container.0 look c.args.dues.now.ready c.requires.ready c.in-Some.place n here c.in-Some.ensures.place.member;
    }
