use Rattle.std.proofs.Common.{◌≡◌, ◌∙◌, Some, slice_get, refl, ap, arith}
use Rattle.hg_graph.specs.Valid.{HasSuccessor}
use Rattle.hg_valid.proofs.ByPlace.{item_is, next_place, get_within}
use Rattle.hg_valid.proofs.blocks.has_successors.Goals as goal

pub loop-place-preserved : goal.loop-place-preserved
loop-place-preserved c =
    let rows = c.as_slice-rows.result.now in
    let row = c.index-rows-place.result in
    next_place (λ k r. HasSuccessor c.args.graph.now c.args.node.0 k r c.args.others.now) rows c.loop-place.place row
    (λ z e. item_is rows c.loop-place.place row z c.index-rows-place.is c.loop-place-test.true e) c.loop-place.invariant (c.if-not-has_successor.ensures.0 refl)

pub returns : goal.returns
returns c =
    let rows = c.as_slice-rows.result.now in (
      λ t k row e. let f : slice_get rows k ≡ Some row = ap (λ rs. slice_get rs k) c.as_slice-rows.ensures ∙ e in
          let l = get_within rows k row f in c.loop-place.invariant k row (omega arith) f,
      λ h. refl,
    )
