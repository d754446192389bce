-- Thin texts and their graphs.
use Rattle.std.specs.Prelude.{◌≡◌, ℕ, List, [], ◌∷◌, ◌++◌, ◌+◌, length, map, drop}
use Rattle.gp_base.specs.Run.{Returned}
use Rattle.gp_base.specs.World.{World}
use Rattle.gp_lower.specs.declared.thin_text.ThinLine.{ThinLine}
use Rattle.gp_lower.specs.declared.thin_text.ThinLine.TheVariants as line
use Rattle.hg_ops.specs.Op as op
use Rattle.hg_graph.specs.Graph.{Graph}
use Rattle.hg_graph.specs.Run.{run_function}
use Rattle.hg_graph.specs.Thin.{ThinGate, H, X, thin_after}

-- the line that applies a gate to the qubit
abbrev pub gate_line : ThinGate → ThinLine
gate_line H = line.H
gate_line X = line.X

abbrev pub gate_lines : List ThinGate → List ThinLine
gate_lines gates = map gate_line gates

-- the lines that apply gates, and then give the qubit up
abbrev pub complete_lines : List ThinGate → List ThinLine
complete_lines gates = gate_lines gates ++ line.Discard ∷ []

-- the last line is a `discard`, and no other line is
abbrev pub AreComplete : List ThinLine → Type 0
AreComplete lines = (gates : List ThinGate) × (lines ≡ complete_lines gates)

-- the op that a line becomes
abbrev pub line_op : ThinLine → op.Op
line_op line.H = op.Ext (op.Gate1 op.H)
line_op line.X = op.Ext (op.Gate1 op.X)
line_op line.Discard = op.Ext op.Free

-- In every world and under every list of picks `main` returns, with the events of these gates on the
-- world's next qubit. A pick is taken for each node that fires; the empty list fires the ready node of the
-- least number first.
abbrev pub RunsGates : List ThinGate → Graph → Type 0
RunsGates gates g =
    (w : World) (picks : List ℕ)
    → run_function g 1 [] (record { world = w; picks = picks; notes = tt })
    ≡ Returned [] (record { world = thin_after gates w; picks = drop (length gates + 2) picks; notes = tt })
