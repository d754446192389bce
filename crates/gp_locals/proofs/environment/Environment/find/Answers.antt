use Rattle.std.proofs.Common.{◌∙◌, ap, sym, map, Some}
use Rattle.gp_locals.specs.Environment.{type_at}
use Rattle.gp_locals.specs.code.Usable.{type_among}
use Rattle.gp_locals.specs.code.UsableView.{usable_view}
use Rattle.gp_locals.proofs.UsableLists.{lists, type_is}
use Rattle.gp_locals.proofs.environment.Environment.find.Goals as goal

pub returns-in-Some-type_among : goal.returns-in-Some-type_among
returns-in-Some-type_among c =
    ap Some (c.in-Some-type_among.ensures ∙ ap (λ xs. type_among c.in-Some.position (map usable_view xs)) c.deref.ensures.value
    ∙ type_is c.self.inside.count c.in-Some.position (map usable_view c.self.inside.usable.items) c.args.self.now
    (lists c.self.inside.count (map usable_view c.self.inside.usable.items) c.args.self.now c.self.view_is c.self.invariant.0))
    ∙ ap (type_at c.args.self.now) (sym c.in-Some.is ∙ c.position.ensures)

pub returns-in-None : goal.returns-in-None
returns-in-None c =
    ap Some (c.in-None.ensures ∙ ap (λ xs. type_among c.in-Some.position (map usable_view xs)) c.deref.ensures.value
    ∙ type_is c.self.inside.count c.in-Some.position (map usable_view c.self.inside.usable.items) c.args.self.now
    (lists c.self.inside.count (map usable_view c.self.inside.usable.items) c.args.self.now c.self.view_is c.self.invariant.0))
    ∙ ap (type_at c.args.self.now) (sym c.in-Some.is ∙ c.position.ensures)
