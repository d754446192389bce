use Rattle.std.proofs.Common.{◌∙◌, ap, map}
use Rattle.std.specs.Rc.{rc_slice_items}
use Rattle.gp_locals.specs.code.Usable.{by_names}
use Rattle.gp_locals.specs.code.UsableView.{usable_view}
use Rattle.gp_locals.proofs.UsableLists.{lists, names_are}
use Rattle.gp_locals.proofs.environment.Environment.usable.Goals as goal

pub returns-clause-listed : goal.returns-clause-listed
returns-clause-listed c =
    c.new.ensures
    ∙ ap (λ ns. by_names ns (map usable_view (rc_slice_items c.in_ok-usable.usable))) c.in_ok-shared.ensures
    ∙ ap (by_names c.args.names.now) (c.in_ok-usable.ensures.made ∙ ap (map usable_view) c.deref.ensures.value)
    ∙ names_are c.args.names.now c.self.inside.count (map usable_view c.self.inside.usable.items) c.args.self.now
    (lists c.self.inside.count (map usable_view c.self.inside.usable.items) c.args.self.now c.self.view_is c.self.invariant.0)
