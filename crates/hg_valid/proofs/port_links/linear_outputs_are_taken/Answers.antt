use Rattle.std.proofs.Common.{◌≡◌, ◌∙◌, true, length, map, slice_get, refl, sym, ap, arith}
use Rattle.std.proofs.lemmas.List.{length-map}
use Rattle.hg_ops.specs.GraphType.{is_linear}
use Rattle.hg_ops.specs.Op.{outs_of}
use Rattle.hg_ops.specs.TypeView.{type_view}
use Rattle.hg_graph.specs.Graph.{op_at, links_from}
use Rattle.hg_valid.proofs.ByPlace.{item_at, next_place, get_within}
use Rattle.hg_valid.proofs.port_links.linear_outputs_are_taken.Goals as goal

pub loop-index-preserved : goal.loop-index-preserved
loop-index-preserved c =
    let g = c.args.graph.now in
    let items = c.as_slice-types.result.now in
    let p = c.loop-index.index in
    let are : map type_view items ≡ outs_of (op_at g c.args.node.0) = c.as_slice-types.ensures ∙ c.outs_at.ensures in
    let step = next_place (λ k t. is_linear t ≡ true → links_from g.links (record { node = c.args.node.0; index = k }) ≡ 1) (outs_of (op_at g c.args.node.0)) p (type_view c.index-types-index.result)
    (λ z e. item_at type_view items p c.index-types-index.result z c.index-types-index.is c.loop-index-test.true (ap (λ ts. slice_get ts p) are ∙ e)) (λ k z l e. c.loop-index.invariant k z l e) (c.if-not-is_taken.ensures.0 refl) in
    λ k t l e. step k t l e

pub returns : goal.returns
returns c =
    let g = c.args.graph.now in
    let items = c.as_slice-types.result.now in
    let are : map type_view items ≡ outs_of (op_at g c.args.node.0) = c.as_slice-types.ensures ∙ c.outs_at.ensures in (
      λ t p type e.
          let l = get_within (outs_of (op_at g c.args.node.0)) p type e in
          let m : length items ≡ length (outs_of (op_at g c.args.node.0)) = sym (length-map items type_view) ∙ ap length are in
          c.loop-index.invariant p type (omega arith) e,
      λ h. refl,
    )
