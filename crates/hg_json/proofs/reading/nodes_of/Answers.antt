use Rattle.std.proofs.Common.{◌≡◌, ◌++◌, ◌∷◌, [], ◌<◌, map, arith}
use Rattle.std.proofs.lemmas.Result.{err_from_is_err_and}
use Rattle.std.proofs.lemmas.List.{map_push, length_push}
use Rattle.std.proofs.lemmas.List.Elements.{All-push}
use Rattle.hg_graph.specs.NodeView.{node_view}
use Rattle.hg_json.specs.Reading.{BadNode, node_of}
use Rattle.hg_json.proofs.Pieces.{count_items}
use Rattle.hg_json.proofs.Turns.{goes_on, ends, is_done}
use Rattle.hg_json.proofs.reading.nodes_of.Goals as goal

pub returns-in_err-node-clause-answers : goal.returns-in_err-node-clause-answers
returns-in_err-node-clause-answers c =
    let p = err_from_is_err_and c.from_residual.result c.from_residual.ensures.1 in
    rw (p.1, p.2, ← c.count-total.ensures) (ends (node_of c.args.profile c.count-total.result) BadNode (map node_view c.loop-k.nodes) c.args.entries.now c.loop-k.k _ c.loop-k.invariant.so_far c.in_err-node.field-0.0 c.index-entries-k.result c.loop-k-test.true c.index-entries-k.is c.in_err-node.ensures.answers)

pub loop-k-preserved : goal.loop-k-preserved
loop-k-preserved c =
    let node = c.in_ok-node.node in
    let pushed : c.push.new.self ≡ c.loop-k.nodes ++ node ∷ [] = c.in_ok-push.ensures.ok in
    let viewed : map node_view c.push.new.self ≡ map node_view c.loop-k.nodes ++ node_view node ∷ [] = rw pushed (map_push _ c.loop-k.nodes node) in
    record {
      many = rw pushed (omega (arith, length_push c.loop-k.nodes node, c.loop-k.invariant.many));
      parents_in = rw pushed (All-push (λ n. n.parent.0 < c.count-total.result) c.loop-k.nodes node c.loop-k.invariant.parents_in c.in_ok-node.ensures.parent_in);
      so_far = rw viewed (goes_on (node_of c.args.profile c.count-total.result) BadNode (map node_view c.loop-k.nodes) c.args.entries.now c.loop-k.k _ c.loop-k.invariant.so_far c.index-entries-k.result _ c.loop-k-test.true c.index-entries-k.is c.in_ok-node.ensures.answers);
    }

pub returns-clause-answers : goal.returns-clause-answers
returns-clause-answers c =
    rw (← c.count-total.ensures) (is_done (node_of c.args.profile c.count-total.result) BadNode (map node_view c.loop-k.nodes) c.args.entries.now c.loop-k.k _ c.loop-k.invariant.so_far c.loop-k-test.false)

pub returns-clause-many : goal.returns-clause-many
returns-clause-many c = omega (arith, count_items c.args.entries.now, c.loop-k.invariant.many, c.loop-k-test.false, c.loop-k.auto.k-end)

pub returns-clause-parents_in : goal.returns-clause-parents_in
returns-clause-parents_in c =
    λ i d within. omega (arith, c.loop-k.invariant.parents_in i d within, c.count-total.ensures, count_items c.args.entries.now, c.loop-k.invariant.many, c.loop-k-test.false)
