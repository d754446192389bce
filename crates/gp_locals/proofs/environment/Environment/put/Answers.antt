use Rattle.std.proofs.Common.{◌≡◌, ◌∙◌, ap, sym, subst, refl, map, OnOk}
use Rattle.gp_types.specs.View.{ty_view}
use Rattle.gp_locals.specs.Environment.{put_at}
use Rattle.gp_locals.specs.code.Usable.{spread, put_among}
use Rattle.gp_locals.specs.code.UsableView.{usable_view}
use Rattle.gp_locals.proofs.UsableLists.{lists, put_outside, put_given, put_listed, put_viewed}
use Rattle.gp_locals.proofs.environment.Environment.put.Goals as goal

pub returns-then-position-self : goal.returns-then-position-self
returns-then-position-self c =
    sym (put_outside c.self.inside.count c.in-Some.position (ty_view c.args.ty) (map usable_view c.self.inside.usable.items) c.args.self.now
    (lists c.self.inside.count (map usable_view c.self.inside.usable.items) c.args.self.now c.self.view_is c.self.invariant.0) c.if-position-self.true)
    ∙ ap (λ place. put_at c.args.self.now place (ty_view c.args.ty)) (sym c.in-Some.is ∙ c.position.ensures)

pub returns-then-is_given : goal.returns-then-is_given
returns-then-is_given c =
    sym (put_given c.self.inside.count c.in-Some.position (ty_view c.args.ty) (map usable_view c.self.inside.usable.items) c.args.self.now
    (lists c.self.inside.count (map usable_view c.self.inside.usable.items) c.args.self.now c.self.view_is c.self.invariant.0) c.if-position-self.false
    (subst (λ xs. put_among c.in-Some.position (ty_view c.args.ty) (map usable_view xs) ≡ map usable_view xs) c.deref.ensures.value (c.if-is_given.ensures refl)))
    ∙ ap (λ place. put_at c.args.self.now place (ty_view c.args.ty)) (sym c.in-Some.is ∙ c.position.ensures)

pub invariant_of-self : goal.invariant_of-self
invariant_of-self c = (
  put_listed usable_view c.put_among.result c.self.inside.count c.in-Some.position (ty_view c.args.ty) c.self.inside.usable.items c.put_among.new.usable.items c.args.self.now
      (lists c.self.inside.count (map usable_view c.self.inside.usable.items) c.args.self.now c.self.view_is c.self.invariant.0) c.if-position-self.false c.put_among.ensures.put c.put_among.ensures.unchanged,
  tt,
)

pub returns : goal.returns
returns c =
    subst (λ e. OnOk c.put_among.result (spread 0 c.self.inside.count (map usable_view c.put_among.new.usable.items) ≡ e))
    (ap (λ place. put_at c.args.self.now place (ty_view c.args.ty)) (sym c.in-Some.is ∙ c.position.ensures))
    (put_viewed usable_view c.put_among.result c.self.inside.count c.in-Some.position (ty_view c.args.ty) c.self.inside.usable.items c.put_among.new.usable.items c.args.self.now
    (lists c.self.inside.count (map usable_view c.self.inside.usable.items) c.args.self.now c.self.view_is c.self.invariant.0) c.if-position-self.false c.put_among.ensures.put)
