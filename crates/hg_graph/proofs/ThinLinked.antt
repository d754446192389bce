-- The links of a thin graph keep the rules.
use Rattle.std.proofs.Common.{◌≡◌, ℕ, zero, suc, ◌<◌, List, [], ◌∷◌, length, map, Some, slice_get, refl, arith}
use Rattle.hg_ops.specs.GraphType.{GraphType}
use Rattle.hg_ops.specs.Op.{ins_of, outs_of}
use Rattle.hg_graph.specs.Graph.{op_of, op_at}
use Rattle.hg_graph.specs.Rules.{InputsLinkedOnce, LinearOutputsLinkedOnce}
use Rattle.hg_graph.specs.Thin.{ThinGate, H, X, gate_op, in_main, thin_graph, ThinGraphsAreLinked}
use Rattle.hg_graph.proofs.ThinNodes.{node_of, after_first}
use Rattle.hg_graph.proofs.ThinLinks.{links_into-chain, links_from-chain}

gate_in : (gate : ThinGate) (p : ℕ) → p < length (ins_of (gate_op gate)) → p ≡ 0
gate_in H p h = omega arith
gate_in X p h = omega arith

gate_out : (gate : ThinGate) (p : ℕ) (type : GraphType) → slice_get (outs_of (gate_op gate)) p ≡ Some type → p ≡ 0
gate_out gate zero type e = refl
gate_out H (suc p) type e = absurd cc
gate_out X (suc p) type e = absurd cc

-- which input ports there are
input_port : (gates : List ThinGate) (i p : ℕ) → p < length (ins_of (op_of (slice_get (map in_main (after_first gates)) i))) → (i < suc (length gates)) × (p ≡ 0)
input_port [] zero p h = (omega arith, omega arith)
input_port [] (suc i) p h = absurd (omega arith)
input_port (gate ∷ gates) zero p h = (omega arith, gate_in gate p h)
input_port (gate ∷ gates) (suc i) p h = let r = input_port gates i p h in (omega arith, r.1)

-- which output ports there are
output_port : (gates : List ThinGate) (i p : ℕ) (type : GraphType) → slice_get (outs_of (op_of (slice_get (map in_main (after_first gates)) i))) p ≡ Some type → (i < length gates) × (p ≡ 0)
output_port [] zero p type e = absurd cc
output_port [] (suc i) p type e = absurd cc
output_port (gate ∷ gates) zero p type e = (omega arith, gate_out gate p type e)
output_port (gate ∷ gates) (suc i) p type e = let r = output_port gates i p type e in (omega arith, r.1)

inputs_linked : (gates : List ThinGate) → InputsLinkedOnce (thin_graph gates)
unfolding thin_graph op_at
inputs_linked gates zero l p h = absurd (omega arith)
inputs_linked gates (suc zero) l p h = absurd (omega arith)
inputs_linked gates (suc (suc zero)) l p h = absurd (omega arith)
inputs_linked gates (suc (suc (suc zero))) l p h = absurd (omega arith)
inputs_linked gates (suc (suc (suc (suc zero)))) l p h = absurd (omega arith)
inputs_linked gates (suc (suc (suc (suc (suc i))))) l p h =
    let r = input_port gates i p h in
    rw r.1 (links_into-chain (node_of i) 4 (suc (length gates)) (omega arith) (omega arith))

outputs_linked : (gates : List ThinGate) → LinearOutputsLinkedOnce (thin_graph gates)
unfolding thin_graph op_at
outputs_linked gates zero l p type e linear = absurd cc
outputs_linked gates (suc zero) l p type e linear = absurd cc
outputs_linked gates (suc (suc zero)) l p type e linear = absurd cc
outputs_linked gates (suc (suc (suc zero))) l p type e linear = absurd cc
outputs_linked gates (suc (suc (suc (suc zero)))) l zero type e linear = links_from-chain 4 4 (suc (length gates)) (omega arith) (omega arith)
outputs_linked gates (suc (suc (suc (suc zero)))) l (suc p) type e linear = absurd cc
outputs_linked gates (suc (suc (suc (suc (suc i))))) l p type e linear =
    let r = output_port gates i p type e in
    rw r.1 (links_from-chain (node_of (suc i)) 4 (suc (length gates)) (omega arith) (omega arith))

pub thin_graphs_are_linked : ThinGraphsAreLinked
thin_graphs_are_linked gates = (inputs_linked gates, outputs_linked gates)
