use Rattle.std.proofs.Common.{◌≡◌, ◌∙◌, ap, map, filter, subst}
use Rattle.std.specs.Option.{IfSome}
use Rattle.gp_locals.specs.Environment.{join}
use Rattle.gp_locals.specs.code.Usable.{is_kept_among}
use Rattle.gp_locals.specs.code.UsableView.{usable_view, shared_view}
use Rattle.gp_locals.proofs.UsableLists.{lists, lists_join, same_list, is_listed, view_of}
use Rattle.gp_locals.proofs.environment.Environment.join.Goals as goal

pub invariant_of-result : goal.invariant_of-result
invariant_of-result c = (
  is_listed c.self.inside.count (map usable_view c.in_ok-usable.usable.items) (join c.args.self.now c.args.others.now)
      (same_list c.self.inside.count (filter (is_kept_among (map usable_view c.others.inside.usable.items)) (map usable_view c.self.inside.usable.items)) (map usable_view c.in_ok-usable.usable.items) (join c.args.self.now c.args.others.now)
      (c.in_ok-usable.ensures
      ∙ ap (λ xs. filter (is_kept_among (map usable_view xs)) (map usable_view c.deref.result.now)) c.deref-2.ensures.value
      ∙ ap (λ xs. filter (is_kept_among (map usable_view c.others.inside.usable.items)) (map usable_view xs)) c.deref.ensures.value)
      (lists_join c.others.inside.count (map usable_view c.others.inside.usable.items) c.args.others.now
      (lists c.others.inside.count (map usable_view c.others.inside.usable.items) c.args.others.now c.others.view_is c.others.invariant.0)
      c.self.inside.count (map usable_view c.self.inside.usable.items) c.args.self.now
      (lists c.self.inside.count (map usable_view c.self.inside.usable.items) c.args.self.now c.self.view_is c.self.invariant.0))),
  subst (λ xs. IfSome (shared_view c.in_ok-shared.shared) (λ listed. listed ≡ map usable_view xs)) c.deref-3.ensures.value c.in_ok-shared.ensures,
)

pub returns : goal.returns
returns c =
    view_of c.self.inside.count (map usable_view c.in_ok-usable.usable.items) (join c.args.self.now c.args.others.now)
    (same_list c.self.inside.count (filter (is_kept_among (map usable_view c.others.inside.usable.items)) (map usable_view c.self.inside.usable.items)) (map usable_view c.in_ok-usable.usable.items) (join c.args.self.now c.args.others.now)
    (c.in_ok-usable.ensures
    ∙ ap (λ xs. filter (is_kept_among (map usable_view xs)) (map usable_view c.deref.result.now)) c.deref-2.ensures.value
    ∙ ap (λ xs. filter (is_kept_among (map usable_view c.others.inside.usable.items)) (map usable_view xs)) c.deref.ensures.value)
    (lists_join c.others.inside.count (map usable_view c.others.inside.usable.items) c.args.others.now
    (lists c.others.inside.count (map usable_view c.others.inside.usable.items) c.args.others.now c.others.view_is c.others.invariant.0)
    c.self.inside.count (map usable_view c.self.inside.usable.items) c.args.self.now
    (lists c.self.inside.count (map usable_view c.self.inside.usable.items) c.args.self.now c.self.view_is c.self.invariant.0)))
