use Rattle.std.proofs.Common.{rules, ◌≡◌, true, false, is_some, ap, ◌∙◌, bytes_eq}
use Rattle.indexmap.specs.IndexMap.{get_by}
use Rattle.gp_scope.specs.Checks.{is_among}
use Rattle.gp_scope.specs.Tables.{texts_of}
use Rattle.gp_scope.proofs.SearchLemmas.{seen-step, found-step, missing-step}
use Rattle.gp_scope.proofs.cycles.reach_held.Goals as goal

pub loop-name-preserved-in-Continue-branch-2 : goal.loop-name-preserved-in-Continue-branch-2
loop-name-preserved-in-Continue-branch-2 c =
    let found : is_some (get_by (λ k. bytes_eq c.in-Some.name.now k.now) c.loop-name.unseen) ≡ true = search rules in
    record {
      seen = seen-step c.args.unseen.now c.loop-name.unseen c.swap_remove.new.self c.loop-name.yielded c.in-Some.name c.loop-name.invariant.seen c.swap_remove.ensures.updates;
      waiting = λ q.
          ap (λ l. is_among q (texts_of l)) c.in_ok-push.ensures.items
          ∙ found-step c.args.unseen.now c.loop-name.unseen c.loop-name.yielded c.in-Some.name c.loop-name.invariant.seen c.args.waiting.now.items c.loop-name.waiting.items c.loop-name.invariant.waiting found q;
      count = search rules;
    }

pub loop-name-preserved : goal.loop-name-preserved
loop-name-preserved c =
    let missing : is_some (get_by (λ k. bytes_eq c.in-Some.name.now k.now) c.loop-name.unseen) ≡ false = search rules in
    record {
      seen = seen-step c.args.unseen.now c.loop-name.unseen c.swap_remove.new.self c.loop-name.yielded c.in-Some.name c.loop-name.invariant.seen c.swap_remove.ensures.updates;
      waiting = λ q.
          missing-step c.args.unseen.now c.loop-name.unseen c.loop-name.yielded c.in-Some.name c.loop-name.invariant.seen c.args.waiting.now.items c.loop-name.waiting.items c.loop-name.invariant.waiting missing q;
      count = search rules;
    }
