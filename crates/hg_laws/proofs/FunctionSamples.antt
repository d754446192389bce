-- Small graphs with functions as values: their runs are computed, and tests show them valid and ordered.
use Rattle.std.proofs.Common.{◌≡◌, ℕ, true, cond, length, refl}
use Rattle.hg_graph.specs.Graph.{Graph, op_at, parent_at, children, firing_children}
use Rattle.hg_graph.specs.Run.{inputs, candidate, ready, perform_extension, perform, fire_op, firings, region, enter_op, runs, run_function, graph_run}
use Rattle.hg_graph.specs.Valid.{is_output}
use Rattle.hg_graph.specs.Value.{function_named, functions, callee}
use Rattle.hg_laws.specs.FunctionSamples.{indirect, twice, passed, called, chosen, named, IsSound, FunctionSamplesRun, FunctionSamplesAreSound}
use Rattle.hg_laws.proofs.Tested.{valid_ok, passes_valid, ordered_ok, passes_ordered}

pub function_samples_run_lem : FunctionSamplesRun
unfolding graph_run run_function runs enter_op region firings fire_op perform perform_extension ready candidate inputs children firing_children op_at parent_at callee functions function_named
function_samples_run_lem = record {
  indirect_runs = refl;
  indirect_stops = refl;
  mistaken_is_stuck = refl;
  twice_runs = refl;
  passed_runs = refl;
  called_runs = refl;
  not_called_runs = refl;
  first_chosen = refl;
  second_chosen = refl;
  named_runs = refl;
}

-- each edge goes to a greater number or to an `Output`
by_number : Graph → ℕ → ℕ
by_number g n = cond (is_output (op_at g n)) (length g.nodes) n

sound : (g : Graph) → valid_ok g (by_number g) ≡ true → ordered_ok g ≡ true → IsSound g
sound g passes chains =
    let valid = passes_valid g (by_number g) passes in
    record { valid = valid; ordered = passes_ordered g valid chains }

indirect_sound : IsSound indirect
unfolding valid_ok ordered_ok by_number children firing_children op_at parent_at
indirect_sound = sound indirect refl refl

twice_sound : IsSound twice
unfolding valid_ok ordered_ok by_number children firing_children op_at parent_at
twice_sound = sound twice refl refl

passed_sound : IsSound passed
unfolding valid_ok ordered_ok by_number children firing_children op_at parent_at
passed_sound = sound passed refl refl

called_sound : IsSound called
unfolding valid_ok ordered_ok by_number children firing_children op_at parent_at
called_sound = sound called refl refl

chosen_sound : IsSound chosen
unfolding valid_ok ordered_ok by_number children firing_children op_at parent_at
chosen_sound = sound chosen refl refl

named_sound : IsSound named
unfolding valid_ok ordered_ok by_number children firing_children op_at parent_at
named_sound = sound named refl refl

pub function_samples_are_sound_lem : FunctionSamplesAreSound
function_samples_are_sound_lem = record {
  indirect_sound = indirect_sound;
  twice_sound = twice_sound;
  passed_sound = passed_sound;
  called_sound = called_sound;
  chosen_sound = chosen_sound;
  named_sound = named_sound;
}
