-- Runs of small graphs, computed.
use Rattle.std.proofs.Common.{◌≡◌, false, [], ◌∷◌, refl}
use Rattle.gp_base.specs.declared.event.GateName.TheVariants as gate
use Rattle.gp_base.specs.declared.event.Event.TheVariants as event
use Rattle.gp_base.specs.Run.{Returned}
use Rattle.gp_base.specs.World.{start}
use Rattle.hg_graph.specs.Thin.{H, X}
use Rattle.hg_graph.specs.Graph.{op_at, parent_at, children, firing_children}
use Rattle.hg_graph.specs.Run.{inputs, candidate, ready, perform_extension, perform, fire_op, firings, region, enter_op, runs, run_function}
use Rattle.hg_graph.specs.Thin.{thin_graph}

thin_runs : run_function (thin_graph (H ∷ X ∷ [])) 1 [] (record { world = start 5 []; picks = []; notes = tt })
    ≡ Returned [] (record { world = record { flags = false ∷ []; turns = 5; outcomes = []; events = event.Alloc 0 ∷ event.Gate1 gate.H 0 ∷ event.Gate1 gate.X 0 ∷ event.Free 0 ∷ [] }; picks = []; notes = tt })
unfolding thin_graph op_at parent_at children firing_children inputs candidate ready perform_extension perform fire_op firings region enter_op runs run_function
thin_runs = refl
