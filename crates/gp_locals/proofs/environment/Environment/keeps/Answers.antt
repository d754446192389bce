use Rattle.std.proofs.Common.{◌∙◌, ap, map}
use Rattle.std.specs.List.{list_all}
use Rattle.gp_locals.specs.code.Usable.{is_kept_among}
use Rattle.gp_locals.specs.code.UsableView.{usable_view}
use Rattle.gp_locals.proofs.UsableLists.{lists, keeps_is}
use Rattle.gp_locals.proofs.environment.Environment.keeps.Goals as goal

pub returns : goal.returns
returns c =
    c.are_kept.ensures
    ∙ ap (λ xs. list_all (is_kept_among (map usable_view xs)) (map usable_view c.deref.result.now)) c.deref-2.ensures.value
    ∙ ap (λ xs. list_all (is_kept_among (map usable_view c.others.inside.usable.items)) (map usable_view xs)) c.deref.ensures.value
    ∙ keeps_is c.others.inside.count (map usable_view c.others.inside.usable.items) c.args.others.now
    (lists c.others.inside.count (map usable_view c.others.inside.usable.items) c.args.others.now c.others.view_is c.others.invariant.0)
    c.self.inside.count (map usable_view c.self.inside.usable.items) c.args.self.now
    (lists c.self.inside.count (map usable_view c.self.inside.usable.items) c.args.self.now c.self.view_is c.self.invariant.0)
