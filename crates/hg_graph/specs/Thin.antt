-- Thin graphs: one function, `main`, in which one qubit passes through gates.
use Rattle.std.specs.Prelude.{◌≡◌, ℕ, zero, suc, ◌+◌, false, List, [], ◌∷◌, ◌++◌, length, map, drop, codes}
use Rattle.gp_base.specs.declared.event.GateName.{GateName}
use Rattle.gp_base.specs.declared.event.GateName.TheVariants as name
use Rattle.gp_base.specs.declared.event.Event.{Event}
use Rattle.gp_base.specs.declared.event.Event.TheVariants as event
use Rattle.gp_base.specs.Run.{Returned}
use Rattle.gp_base.specs.World.{World, next}
use Rattle.hg_ops.specs.Op as op
use Rattle.hg_graph.specs.Graph.{Node, Link, Ports, Order, Graph}
use Rattle.hg_graph.specs.Rules.{InputsLinkedOnce, LinearOutputsLinkedOnce}
use Rattle.hg_graph.specs.Run.{run_function}

-- a gate of a thin graph
pub data ThinGate : Type 0 where
  H : ThinGate
  X : ThinGate

abbrev pub gate_op : ThinGate → op.Op
gate_op H = op.Ext (op.Gate1 op.H)
gate_op X = op.Ext (op.Gate1 op.X)

abbrev pub gate_name : ThinGate → GateName
gate_name H = name.H
gate_name X = name.X

-- a child of `main`
abbrev pub in_main : op.Op → Node
in_main kind = record { op = kind; parent = 1 }

-- a value link and an order link from each of `count` nodes to the next, from node n on
abbrev pub chain : ℕ → ℕ → List Link
chain n zero = []
chain n (suc count) =
    Ports (record { node = n; index = 0 }) (record { node = suc n; index = 0 }) ∷ Order n (suc n) ∷ chain (suc n) count

-- the children of `main` from node 4 on: the qubit is allocated, the gates follow, and the last node frees it
abbrev pub thin_ops : List ThinGate → List op.Op
thin_ops gates = op.Ext op.Alloc ∷ (map gate_op gates ++ op.Ext op.Free ∷ [])

-- the thin graph of these gates
unfoldable pub thin_graph : List ThinGate → Graph
thin_graph gates = record {
  nodes = record { op = op.Module; parent = 0 } ∷ record { op = op.FuncDefn (codes "main") [] []; parent = 0 } ∷ in_main (op.Input []) ∷ in_main (op.Output []) ∷ map in_main (thin_ops gates);
  links = chain 4 (suc (length gates));
}

-- the events of its run on qubit q
abbrev pub thin_events : ℕ → List ThinGate → List Event
thin_events q gates = event.Alloc q ∷ (map (λ gate. event.Gate1 (gate_name gate) q) gates ++ event.Free q ∷ [])

-- the world after its run: the next qubit has lived, and no turn and no outcome was taken
abbrev pub thin_after : List ThinGate → World → World
thin_after gates w = record w { flags = w.flags ++ false ∷ []; events = w.events ++ thin_events (next w) gates }

-- In every world and under every list of picks, `main` of a thin graph returns, with the events of its
-- gates on the world's next qubit. One pick is taken for each node that fires.
abbrev pub ThinGraphsRun : Type 0
ThinGraphsRun =
    (gates : List ThinGate) (w : World) (picks : List ℕ)
    → run_function (thin_graph gates) 1 [] (record { world = w; picks = picks; notes = tt })
    ≡ Returned [] (record { world = thin_after gates w; picks = drop (length gates + 2) picks; notes = tt })

-- in a thin graph each value input port and each linear value output port has exactly one link
abbrev pub ThinGraphsAreLinked : Type 0
ThinGraphsAreLinked = (gates : List ThinGate) → InputsLinkedOnce (thin_graph gates) × LinearOutputsLinkedOnce (thin_graph gates)
