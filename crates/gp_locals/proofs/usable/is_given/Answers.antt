use Rattle.std.proofs.Common.{◌∙◌, ap, sym, map}
use Rattle.std.specs.Prelude.{slice_get}
use Rattle.gp_types.specs.View.{ty_view}
use Rattle.gp_locals.specs.code.UsableView.{usable_view}
use Rattle.gp_locals.proofs.UsableLists.{put_same}
use Rattle.gp_locals.proofs.usable.is_given.Goals as goal

pub returns : goal.returns
returns c = λ holds.
    put_same c.args.position (ty_view c.args.ty.now) (map usable_view c.args.usable.now)
    (ap (slice_get (map usable_view c.args.usable.now)) (sym c.count_below.ensures.exact) ∙ c.has_at.ensures holds)
