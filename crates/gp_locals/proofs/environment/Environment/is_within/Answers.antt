use Rattle.std.proofs.Common.{◌∙◌, ap, map}
use Rattle.gp_locals.specs.Environment.{total_size}
use Rattle.gp_locals.specs.code.Usable.{sizes}
use Rattle.gp_locals.specs.code.UsableView.{usable_view}
use Rattle.gp_locals.proofs.UsableLists.{lists, sizes_are, within_is}
use Rattle.gp_locals.proofs.environment.Environment.is_within.Goals as goal

pub returns : goal.returns
returns c =
    within_is c.sizes.result (sizes (map usable_view c.deref.result.now)) (total_size c.args.self.now) c.sizes.ensures
    (ap (λ xs. sizes (map usable_view xs)) c.deref.ensures.value
    ∙ sizes_are c.self.inside.count (map usable_view c.self.inside.usable.items) c.args.self.now
    (lists c.self.inside.count (map usable_view c.self.inside.usable.items) c.args.self.now c.self.view_is c.self.invariant.0))
