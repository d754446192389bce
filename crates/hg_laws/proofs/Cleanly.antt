-- The events of every run are clean, of whatever graph.
use Rattle.std.proofs.Common.{◌≡◌, ℕ, zero, suc, Bool, true, false, cond, ltb, List, [], ◌∷◌, ◌++◌, length, Option, Some, None, refl, sym, ap, ◌∙◌, append-nil}
use Rattle.std.specs.Prelude.{slice_get}
use Rattle.gp_base.specs.Clean.{IsCleanBetween, world_after}
use Rattle.gp_base.specs.Run.{Run, Out, Returned, Stopped, Stuck, go_on, ◌>>=◌, ret, stop, or_stuck}
use Rattle.gp_base.specs.World.{World, take_turn, turn_of}
use Rattle.hg_ops.specs.Op.{Op, FuncDefn, Const, Dfg, Cfg, DataflowBlock, ExitBlock, Conditional, Case, TailLoop, Call, CallIndirect, LoadConstant, LoadFunction}
use Rattle.hg_graph.specs.Graph.{Graph, Port, op_at, children, firing_children, feeder, taker, static_input}
use Rattle.hg_graph.specs.Run.{Fired, Open, outs_at, inputs, ready, perform, State, Note, with_world, on_world, choose, pick_from, at_moment, Enter, at_node, at_port, with_variant, with_function, name_of_function, constant, after_turn, fire_op, fire, firings, region, after_round, jump, enter_op, level, resume, runs, no_note, world_out, run_function, graph_run}
use Rattle.hg_graph.specs.Value.{Value, Variant, Function, callee, values}
use Rattle.gp_base.proofs.Steps.{IsStep, Relates, clean_step}
use Rattle.hg_laws.proofs.Ops.{perform_relates}

abbrev state_after : {N A : Type 0} → Out (State N) A → State N
state_after (Returned a s) = s
state_after (Stopped e s) = s

module _ (R : World → World → Type 0) (S : IsStep R) (turns : (n : ℕ) (w : World) → R w (record w { turns = n })) where
  record Reaches {N A : Type 0} (m : Run (State N) A) : Type 0 where
    reaches : (s : State N) → R s.world (state_after (m s)).world

  reaches_on : {N A B : Type 0} (s : State N) (o : Out (State N) A) (k : A → Run (State N) B) → R s.world (state_after o).world → ((a : A) → Reaches (k a)) → R s.world (state_after (go_on o k)).world
  reaches_on s (Returned a t) k r h = S.chain s.world t.world (state_after (k a t)).world r ((h a).reaches t)
  reaches_on s (Stopped e t) k r h = r

  then_reaches : {N A B : Type 0} (m : Run (State N) A) (k : A → Run (State N) B) → Reaches m → ((a : A) → Reaches (k a)) → Reaches (m >>= k)
  then_reaches m k r h = record { reaches = λ s. reaches_on s (m s) k (r.reaches s) h }

  still : {N A : Type 0} (m : Run (State N) A) → ((s : State N) → (state_after (m s)).world ≡ s.world) → Reaches m
  still m e = record { reaches = λ s. Rattle.std.proofs.Common.subst (R s.world) (sym (e s)) (S.same s.world) }

  with_world-reaches : {N A : Type 0} (s : State N) (o : Out World A) → R s.world (world_after o) → R s.world (state_after (with_world s o)).world
  with_world-reaches s (Returned a w) h = h
  with_world-reaches s (Stopped e w) h = h

  on_world_reaches : {N A : Type 0} (m : Run World A) → Relates R S m → Reaches {N = N} (on_world m)
  on_world_reaches m h = record { reaches = λ s. with_world-reaches s (m s.world) (h.relates s.world) }

  turn_relates : Relates R S take_turn
  turn_relates = record { relates = λ w. go w w.turns }
    where
      go : (w : World) (n : ℕ) → R w (world_after (turn_of n w))
      go w zero = S.same w
      go w (suc n) = turns n w

  choose_reaches : {N A : Type 0} (xs : List A) → Reaches {N = N} (choose xs)
  choose_reaches xs = still (choose xs) (go xs)
    where
      pick : {N A : Type 0} (x : A) (xs : List A) (s : State N) (p : List ℕ) → (state_after (pick_from x xs p s)).world ≡ s.world
      pick x xs s [] = refl
      pick x xs s (k ∷ p) = refl

      go : {N A : Type 0} (xs : List A) (s : State N) → (state_after (choose xs s)).world ≡ s.world
      go [] s = refl
      go (x ∷ xs) s = pick x xs s s.picks

  module _ {N : Type 0} (note : Note N) (g : Graph) where
    record ReachesEnter (E : Enter N) : Type 0 where
      reaches : (outer : List Open) (n : ℕ) (vs : List Value) → Reaches (E outer n vs)

    at_node_reaches : (o : Option ℕ) (k : ℕ → Run (State N) (List Value)) → ((n : ℕ) → Reaches (k n)) → Reaches (at_node o k)
    at_node_reaches None k h = still (stop Stuck) (λ s. refl)
    at_node_reaches (Some n) k h = h n

    at_port_reaches : (o : Option Port) (k : ℕ → Run (State N) (List Value)) → ((n : ℕ) → Reaches (k n)) → Reaches (at_port o k)
    at_port_reaches None k h = still (stop Stuck) (λ s. refl)
    at_port_reaches (Some p) k h = h p.node

    variant_reaches : (vs : List Value) (k : ℕ → List Value → Run (State N) (List Value)) → ((n : ℕ) (us : List Value) → Reaches (k n us)) → Reaches (with_variant vs k)
    variant_reaches (Variant n us ∷ vs) k h = h n (values us ++ vs)
    variant_reaches _ k h = still (stop Stuck) (λ s. refl)

    function_reaches : (vs : List Value) (k : List ℕ → List Value → Run (State N) (List Value)) → ((name : List ℕ) (us : List Value) → Reaches (k name us)) → Reaches (with_function vs k)
    function_reaches (Function name ∷ vs) k h = h name vs
    function_reaches _ k h = still (stop Stuck) (λ s. refl)

    name_reaches : (kind : Op) → Reaches {N = N} (name_of_function kind)
    name_reaches (FuncDefn name i o) = still (name_of_function (FuncDefn name i o)) (λ s. refl)
    name_reaches _ = still (stop Stuck) (λ s. refl)

    const_reaches : (kind : Op) → Reaches {N = N} (constant kind)
    const_reaches (Const n) = still (constant (Const n)) (λ s. refl)
    const_reaches _ = still (stop Stuck) (λ s. refl)

    or_stuck_reaches : (o : Option (List Value)) → Reaches {N = N} (or_stuck o)
    or_stuck_reaches None = still (stop Stuck) (λ s. refl)
    or_stuck_reaches (Some vs) = still (ret vs) (λ s. refl)

    moment_reaches : (os : List Open) → Reaches (at_moment note os)
    moment_reaches os = still (at_moment note os) (λ s. refl)

    module _ (inside again : Enter N) (CI : ReachesEnter inside) (CA : ReachesEnter again) where
      turn_reaches : (outer : List Open) (n : ℕ) (vs : List Value) → Reaches (after_turn again outer n vs)
      turn_reaches outer n vs = then_reaches (on_world take_turn) (λ _. again outer n vs) (on_world_reaches take_turn turn_relates) (λ _. CA.reaches outer n vs)

      fire_reaches : (kind : Op) (outer : List Open) (n : ℕ) (vs : List Value) → Reaches (fire_op note g inside again kind outer n vs)
      unfolding fire_op
      fire_reaches (Dfg i o) outer n vs = CI.reaches outer n vs
      fire_reaches (Conditional r i o) outer n vs = CI.reaches outer n vs
      fire_reaches (TailLoop a l r) outer n vs = CI.reaches outer n vs
      fire_reaches (Cfg i o) outer n vs = CI.reaches outer n vs
      fire_reaches (Call i o) outer n vs = at_port_reaches (feeder g.links (static_input g n)) _ (λ f. turn_reaches outer f vs)
      fire_reaches (CallIndirect i o) outer n vs = function_reaches vs _ (λ name us. at_node_reaches (callee g i o name) _ (λ f. turn_reaches outer f us))
      fire_reaches (LoadFunction i o) outer n vs = at_port_reaches (feeder g.links (static_input g n)) _ (λ f. name_reaches (op_at g f))
      fire_reaches LoadConstant outer n vs = at_port_reaches (feeder g.links (static_input g n)) _ (λ c. const_reaches (op_at g c))
      fire_reaches kind outer n vs = on_world_reaches (perform kind vs) (perform_relates R S kind vs)

      firings_reach : (outer : List Open) (c o n : ℕ) (fired : List Fired) → Reaches (firings note g (fire note g inside again) outer c o n fired)
      unfolding firings
      firings_reach outer c o zero fired = then_reaches (at_moment note _) _ (moment_reaches _) (λ _. or_stuck_reaches (inputs g (outs_at fired) o))
      firings_reach outer c o (suc n) fired =
          then_reaches _ _ (then_reaches (at_moment note _) (λ _. choose (ready g c (outs_at fired))) (moment_reaches _) (λ _. choose_reaches (ready g c (outs_at fired))))
          (λ r. then_reaches _ _ (fire_reaches (op_at g r.node) _ r.node r.ins) (λ vs. firings_reach outer c o n (record { node = r.node; outs = vs } ∷ fired)))

      region_reaches : (outer : List Open) (c : ℕ) (vs : List Value) → Reaches (region note g (fire note g inside again) outer c vs)
      unfolding region
      region_reaches outer c vs = at_node_reaches (slice_get (children g c) 0) _ (λ i. at_node_reaches (slice_get (children g c) 1) _ (λ o. firings_reach outer c o (length (firing_children g c)) (record { node = i; outs = vs } ∷ [])))

      round_reaches : (outer : List Open) (n k : ℕ) (vs : List Value) → Reaches (after_round note g again outer n k vs)
      round_reaches outer n zero vs = turn_reaches outer n vs
      round_reaches outer n (suc zero) vs = still (ret vs) (λ s. refl)
      round_reaches outer n (suc (suc k)) vs = still (stop Stuck) (λ s. refl)

      if_reaches : (b : Bool) (x y : Run (State N) (List Value)) → Reaches x → Reaches y → Reaches (cond b x y)
      if_reaches true x y hx hy = hx
      if_reaches false x y hx hy = hy

      jump_reaches : (kind : Op) (outer : List Open) (n m : ℕ) (vs : List Value) → Reaches (jump note g inside again kind outer n m vs)
      jump_reaches (ExitBlock r) outer n m vs = still (ret vs) (λ s. refl)
      jump_reaches _ outer n m vs = if_reaches (ltb n m) _ _ (CI.reaches outer m vs) (turn_reaches outer m vs)

      enter_op_reaches : (kind : Op) (outer : List Open) (n : ℕ) (vs : List Value) → Reaches (enter_op note g inside again kind outer n vs)
      unfolding enter_op
      enter_op_reaches (FuncDefn name i o) outer n vs = region_reaches outer n vs
      enter_op_reaches (Dfg i o) outer n vs = region_reaches outer n vs
      enter_op_reaches (Case i o) outer n vs = region_reaches outer n vs
      enter_op_reaches (Conditional r i o) outer n vs = variant_reaches vs _ (λ k us. at_node_reaches (slice_get (children g n) k) _ (λ c. CI.reaches outer c us))
      enter_op_reaches (TailLoop a l r) outer n vs = then_reaches _ _ (region_reaches outer n vs) (λ us. variant_reaches us _ (λ k xs. round_reaches outer n k xs))
      enter_op_reaches (Cfg i o) outer n vs = at_node_reaches (slice_get (children g n) 0) _ (λ b. CI.reaches outer b vs)
      enter_op_reaches (DataflowBlock i r o) outer n vs = then_reaches _ _ (region_reaches outer n vs) (λ us. variant_reaches us _ (λ k xs. at_port_reaches (taker g.links (record { node = n; index = k })) _ (λ m. jump_reaches (op_at g m) outer n m xs)))
      enter_op_reaches _ outer n vs = still (stop Stuck) (λ s. refl)

    level_reaches : (again : Enter N) → ReachesEnter again → (d : ℕ) → ReachesEnter (level note g again d)
    level_reaches again CA zero = record { reaches = λ outer n vs. still (stop Stuck) (λ s. refl) }
    level_reaches again CA (suc d) = record { reaches = λ outer n vs. enter_op_reaches (level note g again d) again (level_reaches again CA d) CA (op_at g n) outer n vs }

    resume_reaches : (t : ℕ) → ReachesEnter (resume note g t)
    resume_reaches zero = record { reaches = λ outer n vs. still (stop Stuck) (λ s. refl) }
    resume_reaches (suc t) = record { reaches = λ outer n vs. (level_reaches (resume note g t) (resume_reaches t) (length g.nodes)).reaches outer n vs }

-- a turn leaves events and flags
turn_clean : (n : ℕ) (w : World) → IsCleanBetween w (record w { turns = n })
turn_clean n w = record { events = []; appended = sym (append-nil w.events); clean = refl }

world-after : {N A : Type 0} (o : Out (State N) A) → (state_after o).world ≡ world_after (world_out o)
world-after (Returned a s) = refl
world-after (Stopped e s) = refl

pub always_clean : (g : Graph) (f : ℕ) (vs : List Value) (w : World) (picks : List ℕ) → IsCleanBetween w (world_after (graph_run g f vs w picks))
unfolding graph_run run_function runs
always_clean g f vs w picks =
    let s : State (Unit {0}) = record { world = w; picks = picks; notes = tt } in
    Rattle.std.proofs.Common.subst (IsCleanBetween w) (world-after (resume no_note g (suc w.turns) [] f vs s))
    (((resume_reaches IsCleanBetween clean_step turn_clean no_note g (suc w.turns)).reaches [] f vs).reaches s)
