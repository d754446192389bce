-- A run step by step, with what is told of it.
use Rattle.std.proofs.Common.{◌≡◌, ◌≢◌, ℕ, ◌<◌, ◌≤◌, Bool, true, false, List, [], ◌∷◌, ◌++◌, Option, Some, None, refl, sym, ap, ◌∙◌, subst, arith, append_assoc, append-nil}
use Rattle.std.specs.Prelude.{codes}
use Rattle.std.specs.List.{flat_map}
use Rattle.std.proofs.lemmas.Grind.{flat_map-append}
use Rattle.gp_base.specs.Clean.{world_after}
use Rattle.gp_base.specs.declared.event.Event.{Event}
use Rattle.gp_base.specs.declared.event.End.{End}
use Rattle.gp_base.specs.declared.event.End.TheVariants as end
use Rattle.gp_base.specs.EventText.{event_line, end_text, trace}
use Rattle.gp_base.specs.Outside.{Wrote, WrotePart}
use Rattle.gp_base.specs.Run.{Out, Returned, Stopped, Stop, TurnsUsed, OutcomesUsed, DivisionByZero, Stuck, go_on}
use Rattle.gp_base.specs.World.{World}
use Rattle.hg_graph.specs.Graph.{Graph}
use Rattle.gp_base.specs.World.{start}
use Rattle.hg_graph.specs.declared.link.NodeId.{NodeId}
use Rattle.hg_graph.specs.Moments.{IsProper, EndsWell}
use Rattle.hg_graph.specs.Run.{world_out, graph_run}
use Rattle.hg_run.specs.declared.state.Task.TheVariants as task
use Rattle.hg_laws.proofs.Places.{valid_graphs_end_well_lem}
use Rattle.hg_graph.specs.Valid.{IsValid}
use Rattle.hg_graph.specs.Value.{Value}
use Rattle.hg_run.specs.declared.state.Frame.{Frame as DeclaredFrame}
use Rattle.hg_run.specs.declared.state.Task.{Task as DeclaredTask}
use Rattle.hg_run.specs.declared.state.Machine.{Machine}
use Rattle.hg_run.specs.declared.state.Halt.{Halt}
use Rattle.hg_run.specs.declared.state.Stepped.TheVariants as stepped
use Rattle.hg_run.specs.code.StateView.{frame_list, task_view, halt_view, plain, and_event, listed}
use Rattle.hg_run.specs.code.Stepped.{Makes}
use Rattle.hg_run.specs.Told.{trace_of, trace_of_stop, EndsAs, IsEndOfStop}
use Rattle.hg_run.specs.code.Left.{IsNotStuck, IsEntry, config_of, out_of}
use Rattle.hg_steps.specs.Laws.{AfterStep}
use Rattle.hg_steps.specs.Machine.{Config, Plain, Task, Enters, Gives, Frame, step_on, finish, left_run}
use Rattle.hg_steps.specs.Measure.{steps_left, is_done_with}
use Rattle.hg_steps.proofs.Steps.{steps_keep_the_run_lem, runs_begin_lem}
use Rattle.hg_steps.proofs.Measure.{steps_end_lem}
use Rattle.hg_steps.proofs.Grows.{events_grow_lem}
use Rattle.hg_run.proofs.Told.{Told, told_none, told_more, Wrote-none, Wrote-append, WrotePart-first, WrotePart-second}

-- a run is left, behind events that are told
pub record Walk (g : Graph) (whole : Out World (List Value)) (task : DeclaredTask) (frames : List DeclaredFrame) (m : Machine) (before now : Option (List ℕ)) (faults faults_now : ℕ) : Type 0 where
  pub events : List Event
  pub told : Told (flat_map event_line events) before now faults faults_now
  pub run : whole ≡ out_of g task frames m events

pub walk_begins : (g : Graph) (task : DeclaredTask) (frames : List DeclaredFrame) (m : Machine) (before : Option (List ℕ)) (faults : ℕ) → Walk g (out_of g task frames m []) task frames m before before faults faults
walk_begins g task frames m before faults = record { events = []; told = told_none before faults; run = refl }

abbrev steps_of : Graph → DeclaredTask → List DeclaredFrame → Machine → ℕ
steps_of g task frames m = steps_left g m.turns (config_of task frames)

module _ (g : Graph) (V : IsValid g) (whole : Out World (List Value)) (task : DeclaredTask) (frames : List DeclaredFrame) (m : Machine) (before now : Option (List ℕ)) (faults faults_now : ℕ)
    (W : Walk g whole task frames m before now faults faults_now) where
  over : (out : Out Plain Config) → step_on g (task_view task) (frame_list frames) (plain m W.events) ≡ out → whole ≡ world_out (go_on out (left_run g))
  over out e = W.run ∙ ap world_out (steps_keep_the_run_lem g V (config_of task frames) (plain m W.events) ∙ ap (λ o. go_on o (left_run g)) e)

  lines_of : (event : Option Event) → flat_map event_line W.events ++ flat_map event_line (listed event) ≡ flat_map event_line (and_event W.events event)
  lines_of None = append-nil (flat_map event_line W.events)
  lines_of (Some e) = sym (flat_map-append event_line W.events (e ∷ []))

  -- a step goes on
  pub walk_goes : (next : DeclaredTask) (event : Option Event) (frames' : List DeclaredFrame) (m' : Machine) (after : Option (List ℕ)) (faults_after : ℕ)
      → Makes (step_on g (task_view task) (frame_list frames)) m (stepped.Goes next event) frames' m' → Wrote now after (flat_map event_line (listed event)) → faults_now ≤ faults_after
      → Walk g whole next frames' m' before after faults faults_after
  walk_goes next event frames' m' after faults_after makes wrote rises = record {
    events = and_event W.events event;
    told = subst (λ text. Told text before after faults faults_after) (lines_of event) (told_more _ _ before now after faults faults_now faults_after W.told wrote rises);
    run = over _ (makes W.events);
  }

  pub walk_falls : (next : DeclaredTask) (event : Option Event) (frames' : List DeclaredFrame) (m' : Machine) → is_done_with (task_view task) (frame_list frames) ≡ false
      → Makes (step_on g (task_view task) (frame_list frames)) m (stepped.Goes next event) frames' m' → steps_of g next frames' m' < steps_of g task frames m
  walk_falls next event frames' m' d makes =
      subst (AfterStep (λ after t. steps_left g t.world.turns after < steps_of g task frames m)) (makes W.events) (steps_end_lem g V (config_of task frames) (plain m W.events) d)

  -- a step stops
  pub walk_stops : (halt : Halt) (frames' : List DeclaredFrame) (m' : Machine) → Makes (step_on g (task_view task) (frame_list frames)) m (stepped.Halts halt) frames' m' → whole ≡ Stopped (halt_view halt) (plain m' W.events).world
  walk_stops halt frames' m' makes = over _ (makes W.events)

  -- the last values are given
  pub walk_ends : is_done_with (task_view task) (frame_list frames) ≡ true → (vs : List Value) × (whole ≡ Returned vs (plain m W.events).world)
  unfolding left_run finish
  walk_ends d = go (task_view task) (frame_list frames) d W.run
    where
      go : (t : Task) (fs : List Frame) → is_done_with t fs ≡ true → whole ≡ world_out (left_run g (record { task = t; frames = fs }) (plain m W.events)) → (vs : List Value) × (whole ≡ Returned vs (plain m W.events).world)
      go (Enters n vs) fs d e = absurd cc
      go (Gives vs) [] d e = (vs, e)
      go (Gives vs) (f ∷ fs) d e = absurd cc

  -- ---- what is told

  -- where all is told but the end
  end_behind : (how : End) → trace W.events how ≡ flat_map event_line W.events ++ (end_text how ++ codes "\n")
  end_behind how = append_assoc (flat_map event_line W.events) (end_text how) (codes "\n")

  pub ends_ok : (how : End) (after : Option (List ℕ)) → trace_of whole ≡ trace W.events how → Wrote now after (end_text how ++ codes "\n") → Wrote before after (trace_of whole)
  ends_ok how after e w = subst (Wrote before after) (sym (e ∙ end_behind how)) (Wrote-append _ _ before now after W.told.written w)

  pub ends_part : (how : End) (after : Option (List ℕ)) → trace_of whole ≡ trace W.events how → WrotePart now after (end_text how ++ codes "\n") → WrotePart before after (trace_of whole)
  ends_part how after e w = subst (WrotePart before after) (sym (e ∙ end_behind how)) (WrotePart-second _ _ before now after W.told.written w)

  pub done_trace : is_done_with (task_view task) (frame_list frames) ≡ true → trace_of whole ≡ trace W.events end.Returned
  done_trace d = ap trace_of (walk_ends d).1

  pub done_end : is_done_with (task_view task) (frame_list frames) ≡ true → EndsAs whole end.Returned
  done_end d = subst (λ out. EndsAs out end.Returned) (sym (walk_ends d).1) refl

  trace_of_end : (stop : Stop) (how : End) (events : List Event) → IsEndOfStop stop how → trace_of_stop stop events ≡ trace events how
  trace_of_end TurnsUsed how events e = ap (trace events) (sym e)
  trace_of_end OutcomesUsed how events e = ap (trace events) (sym e)
  trace_of_end DivisionByZero how events e = ap (trace events) (sym e)
  trace_of_end Stuck how events e = absurd e

  module _ (halt : Halt) (frames' : List DeclaredFrame) (m' : Machine) (makes : Makes (step_on g (task_view task) (frame_list frames)) m (stepped.Halts halt) frames' m') where
    pub stop_trace : (how : End) → IsEndOfStop (halt_view halt) how → trace_of whole ≡ trace W.events how
    stop_trace how e = ap trace_of (walk_stops halt frames' m' makes) ∙ trace_of_end (halt_view halt) how W.events e

    pub stop_end : (how : End) → IsEndOfStop (halt_view halt) how → EndsAs whole how
    stop_end how e = subst (λ out. EndsAs out how) (sym (walk_stops halt frames' m' makes)) e

    pub not_stuck : IsNotStuck whole → halt_view halt ≢ Stuck
    not_stuck n = subst IsNotStuck (walk_stops halt frames' m' makes) n

  -- ---- a part of the trace

  front_of : (how : End) (all events more : List Event) → all ≡ events ++ more → trace all how ≡ flat_map event_line events ++ ((flat_map event_line more ++ end_text how) ++ codes "\n")
  front_of how all events more e =
      ap (λ all. (flat_map event_line all ++ end_text how) ++ codes "\n") e
      ∙ (ap (λ lines. (lines ++ end_text how) ++ codes "\n") (flat_map-append event_line events more)
      ∙ (ap (λ text. text ++ codes "\n") (append_assoc (flat_map event_line events) (flat_map event_line more) (end_text how))
      ∙ append_assoc (flat_map event_line events) (flat_map event_line more ++ end_text how) (codes "\n")))

  -- the lines of events come first in the trace of a run that goes on behind them
  front : (out : Out World (List Value)) (events more : List Event) → (world_after out).events ≡ events ++ more → IsNotStuck out → (rest : List ℕ) × (trace_of out ≡ flat_map event_line events ++ rest)
  front (Returned vs w) events more e n = (_, front_of end.Returned w.events events more e)
  front (Stopped TurnsUsed w) events more e n = (_, front_of end.TurnsUsed w.events events more e)
  front (Stopped OutcomesUsed w) events more e n = (_, front_of end.OutcomesUsed w.events events more e)
  front (Stopped DivisionByZero w) events more e n = (_, front_of end.DivisionByZero w.events events more e)
  front (Stopped Stuck w) events more e n = absurd (n refl)

  left_front : (t : DeclaredTask) (fs : List DeclaredFrame) (n : Machine) (events : List Event) → whole ≡ out_of g t fs n events → IsNotStuck whole → (rest : List ℕ) × (trace_of whole ≡ flat_map event_line events ++ rest)
  left_front t fs n events e fine =
      let grew = events_grow_lem g V (config_of t fs) (plain n events) in
      front whole events grew.more (ap (λ out. (world_after out).events) e ∙ grew.grown) fine

  nothing_more : (text : List ℕ) → WrotePart now now text
  nothing_more text = (0, Wrote-none now)

  pub walk_part : IsNotStuck whole → WrotePart before now (trace_of whole)
  walk_part fine =
      let f = left_front task frames m W.events W.run fine in
      subst (WrotePart before now) (sym f.1) (WrotePart-second _ f.0 before now now W.told.written (nothing_more f.0))

  pub walk_writes : (next : DeclaredTask) (event : Option Event) (frames' : List DeclaredFrame) (m' : Machine) (after : Option (List ℕ))
      → Makes (step_on g (task_view task) (frame_list frames)) m (stepped.Goes next event) frames' m' → IsNotStuck whole → WrotePart now after (flat_map event_line (listed event)) → WrotePart before after (trace_of whole)
  walk_writes next event frames' m' after makes fine part =
      let f = left_front next frames' m' (and_event W.events event) (over _ (makes W.events)) fine in
      subst (WrotePart before after) (ap (λ lines. lines ++ f.0) (lines_of event) ∙ sym f.1)
      (WrotePart-first _ f.0 before after (WrotePart-second _ _ before now after W.told.written part))

-- ---- the beginning
pub out_begins : (g : Graph) (f : NodeId) (arguments : List Value) (frames : List DeclaredFrame) (m : Machine) (outcomes : List Bool) (picks : List ℕ)
    → arguments ≡ [] → frames ≡ [] → m.flags.items ≡ [] → m.outcomes.items ≡ outcomes → m.picks.items ≡ picks
    → out_of g (task.Enter f arguments) frames m [] ≡ graph_run g f.0 [] (start m.turns outcomes) picks
unfolding graph_run
out_begins g f arguments frames m outcomes picks a fr fl o p =
    let out : List Value → List DeclaredFrame → List Bool → List Bool → List ℕ → Out World (List Value)
    = λ arguments frames flags outcomes picks. world_out (left_run g (record { task = Enters f.0 arguments; frames = frame_list frames }) (record { world = record { flags = flags; turns = m.turns; outcomes = outcomes; events = [] }; picks = picks; notes = tt })) in
    ap (λ a. out a frames m.flags.items m.outcomes.items m.picks.items) a
    ∙ (ap (λ fr. out [] fr m.flags.items m.outcomes.items m.picks.items) fr
    ∙ (ap (λ fl. out [] [] fl m.outcomes.items m.picks.items) fl
    ∙ (ap (λ o. out [] [] [] o m.picks.items) o
    ∙ (ap (λ p. out [] [] [] outcomes p) p
    ∙ ap world_out (runs_begin_lem g f.0 [] (record { world = start m.turns outcomes; picks = picks; notes = tt }))))))

pub entry_fine : (g : Graph) → IsValid g → (f : ℕ) → IsEntry g f → (w : World) (picks : List ℕ) → IsNotStuck (graph_run g f [] w picks)
entry_fine g V f E w picks = go _ (graph_run g f [] w picks) (valid_graphs_end_well_lem g V f [] w proper picks)
  where
    proper : IsProper g f [] w
    proper = record { is_node = E.is_node; name = E.name; ins = []; outs = E.outs; is_function = E.is_function; typed = tt; live = λ q. omega arith }

    go : (Q : List Value → World → Type 0) (out : Out World (List Value)) → EndsWell Q out → IsNotStuck out
    go Q (Returned vs w) h = tt
    go Q (Stopped TurnsUsed w) h = λ e. cc
    go Q (Stopped OutcomesUsed w) h = λ e. cc
    go Q (Stopped DivisionByZero w) h = λ e. cc
    go Q (Stopped Stuck w) h = absurd h
