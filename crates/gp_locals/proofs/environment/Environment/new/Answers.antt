use Rattle.std.proofs.Common.{ap, length, map}
use Rattle.gp_locals.specs.Environment.{nothing_usable}
use Rattle.gp_locals.specs.code.UsableView.{usable_view}
use Rattle.gp_locals.proofs.UsableLists.{lists_new, is_listed, view_of}
use Rattle.gp_locals.proofs.environment.Environment.new.Goals as goal

pub invariant_of-result : goal.invariant_of-result
invariant_of-result c = (
  is_listed (length c.as_slice.result.now) (map usable_view c.new.result.items) (nothing_usable c.args.names.now)
      (lists_new c.as_slice.result.now c.args.names.now (map usable_view c.new.result.items) c.as_slice.ensures (ap (map usable_view) c.new.ensures.items)),
  tt,
)

pub returns : goal.returns
returns c =
    view_of (length c.as_slice.result.now) (map usable_view c.new.result.items) (nothing_usable c.args.names.now)
    (lists_new c.as_slice.result.now c.args.names.now (map usable_view c.new.result.items) c.as_slice.ensures (ap (map usable_view) c.new.ensures.items))
