-- Small graphs: their runs are computed, and tests show them valid and ordered.
use Rattle.std.proofs.Common.{◌≡◌, ℕ, true, cond, List, [], ◌∷◌, length, refl, sym, ap, ◌∙◌, arith}
use Rattle.std.specs.Int.{int_wrap}
use Rattle.gp_base.specs.World.{World, start}
use Rattle.gp_base.specs.Run.{Out, Returned, Stopped}
use Rattle.gp_base.specs.declared.event.Event.{Event}
use Rattle.gp_base.specs.declared.event.Event.TheVariants as event
use Rattle.gp_base.specs.declared.event.GateName.TheVariants as name
use Rattle.hg_graph.specs.Graph.{Graph, op_at, parent_at, children, firing_children}
use Rattle.hg_graph.specs.Moments.{IsProper}
use Rattle.hg_graph.specs.Ordered.{IsOrdered}
use Rattle.hg_graph.specs.Run.{inputs, candidate, ready, perform_extension, perform, fire_op, firings, region, enter_op, runs, run_function, graph_run}
use Rattle.hg_graph.specs.Valid.{IsValid, is_output}
use Rattle.hg_graph.specs.Value.{Value}
use Rattle.hg_laws.specs.Samples.{thin, crossed, loop, counts, both_ended, NumbersAre, SamplesRun, SamplesAreValid}
use Rattle.hg_laws.proofs.Tested.{valid_ok, passes_valid, ordered_ok, passes_ordered}
use Rattle.hg_laws.proofs.Main.{picks_change_nothing_lem}

pub numbers_are_lem : NumbersAre
unfolding int_wrap
numbers_are_lem = record { quotients = refl; remainders = refl; greatest = refl; least = refl; least_rest = refl }

pub samples_run_lem : SamplesRun
unfolding graph_run run_function runs enter_op region firings fire_op perform perform_extension ready candidate inputs children firing_children op_at parent_at int_wrap
samples_run_lem = record { thin_runs = refl; crossed_runs = refl; one_pick = refl; three_picks = refl; four_picks = refl; loop_runs = refl; loop_stops = refl; counts_down = refl }

-- each edge goes to a greater number or to an `Output`
by_number : Graph → ℕ → ℕ
by_number g n = cond (is_output (op_at g n)) (length g.nodes) n

thin_passes : valid_ok thin (by_number thin) ≡ true
unfolding valid_ok by_number children firing_children op_at parent_at
thin_passes = refl

thin_valid : IsValid thin
thin_valid = passes_valid thin (by_number thin) thin_passes

crossed_passes : valid_ok crossed (by_number crossed) ≡ true
unfolding valid_ok by_number children firing_children op_at parent_at
crossed_passes = refl

crossed_valid : IsValid crossed
crossed_valid = passes_valid crossed (by_number crossed) crossed_passes

loop_passes : valid_ok loop (by_number loop) ≡ true
unfolding valid_ok by_number children firing_children op_at parent_at
loop_passes = refl

loop_valid : IsValid loop
loop_valid = passes_valid loop (by_number loop) loop_passes

counts_passes : valid_ok counts (by_number counts) ≡ true
unfolding valid_ok by_number children firing_children op_at parent_at
counts_passes = refl

counts_valid : IsValid counts
counts_valid = passes_valid counts (by_number counts) counts_passes

thin_chains : ordered_ok thin ≡ true
unfolding ordered_ok children firing_children op_at parent_at
thin_chains = refl

loop_chains : ordered_ok loop ≡ true
unfolding ordered_ok children firing_children op_at parent_at
loop_chains = refl

counts_chains : ordered_ok counts ≡ true
unfolding ordered_ok children firing_children op_at parent_at
counts_chains = refl

-- two lists of picks give it two runs
crossed_unordered : IsOrdered crossed → ⊥
unfolding op_at
crossed_unordered O =
    let P : IsProper crossed 1 [] (start 5 []) = record { is_node = omega arith; name = _; ins = []; outs = []; is_function = refl; typed = tt; live = λ q. omega arith } in
    no (sym (samples_run_lem.three_picks) ∙ (picks_change_nothing_lem crossed crossed_valid O 1 [] (start 5 []) P (0 ∷ 0 ∷ 1 ∷ []) ∙ samples_run_lem.crossed_runs))
  where
    -- the qubit of the third event
    third : List Event → ℕ
    third (a ∷ b ∷ event.Gate1 gate q ∷ rest) = q
    third _ = 0

    events : Out World (List Value) → List Event
    events (Returned vs w) = w.events
    events (Stopped e w) = w.events

    apart : ◌≡◌ {A = ℕ} 1 0 → ⊥
    apart e = absurd (omega arith)

    no : ◌≡◌ {A = Out World (List Value)} (Returned [] (both_ended (event.Alloc 0 ∷ event.Alloc 1 ∷ event.Gate1 name.H 1 ∷ event.Gate1 name.H 0 ∷ event.Free 0 ∷ event.Free 1 ∷ []))) (Returned [] (both_ended (event.Alloc 0 ∷ event.Alloc 1 ∷ event.Gate1 name.H 0 ∷ event.Gate1 name.H 1 ∷ event.Free 0 ∷ event.Free 1 ∷ []))) → ⊥
    no e = apart (ap (λ o. third (events o)) e)

pub samples_are_valid_lem : SamplesAreValid
samples_are_valid_lem = record {
  thin_valid = thin_valid;
  crossed_valid = crossed_valid;
  loop_valid = loop_valid;
  counts_valid = counts_valid;
  thin_ordered = passes_ordered thin thin_valid thin_chains;
  loop_ordered = passes_ordered loop loop_valid loop_chains;
  counts_ordered = passes_ordered counts counts_valid counts_chains;
  crossed_unordered = crossed_unordered;
}
