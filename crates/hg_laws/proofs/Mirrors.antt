-- What a run writes down at its moments changes nothing else of it.
use Rattle.std.proofs.Common.{◌≡◌, ℕ, zero, suc, Bool, true, false, cond, ltb, List, [], ◌∷◌, ◌++◌, length, Option, Some, None, refl, ap, ◌∙◌}
use Rattle.std.specs.Prelude.{slice_get}
use Rattle.gp_base.specs.Run.{Run, Out, Returned, Stopped, Stuck, go_on, ◌>>=◌, ret, stop, or_stuck}
use Rattle.gp_base.specs.World.{World, take_turn}
use Rattle.hg_ops.specs.Op.{Op, FuncDefn, Const, Dfg, Cfg, DataflowBlock, ExitBlock, Conditional, Case, TailLoop, Call, CallIndirect, LoadConstant, LoadFunction}
use Rattle.hg_graph.specs.Graph.{Graph, Port, op_at, children, firing_children, feeder, taker, static_input}
use Rattle.hg_graph.specs.Run.{Fired, Open, outs_at, inputs, ready, perform, State, Note, no_note, with_world, on_world, choose, pick_from, at_moment, Enter, at_node, at_port, with_variant, with_function, name_of_function, constant, after_turn, fire_op, fire, firings, region, after_round, jump, enter_op, level, resume, runs, world_out}
use Rattle.hg_graph.specs.Value.{Value, Variant, Function, callee, values}

-- the state without what was written down
abbrev bare : {N : Type 0} → State N → State (Unit {0})
bare s = record { world = s.world; picks = s.picks; notes = tt }

abbrev bare_out : {N A : Type 0} → Out (State N) A → Out (State (Unit {0})) A
bare_out (Returned a s) = Returned a (bare s)
bare_out (Stopped e s) = Stopped e (bare s)

record Mirrors {N A : Type 0} (m : Run (State N) A) (n : Run (State (Unit {0})) A) : Type 0 where
  mirrors : (s : State N) → bare_out (m s) ≡ n (bare s)

mirrors_on : {N A B : Type 0} (o : Out (State N) A) (k : A → Run (State N) B) (l : A → Run (State (Unit {0})) B) → ((a : A) → Mirrors (k a) (l a)) → bare_out (go_on o k) ≡ go_on (bare_out o) l
mirrors_on (Returned a s) k l h = (h a).mirrors s
mirrors_on (Stopped e s) k l h = refl

then_mirrors : {N A B : Type 0} (m : Run (State N) A) (n : Run (State (Unit {0})) A) (k : A → Run (State N) B) (l : A → Run (State (Unit {0})) B) → Mirrors m n → ((a : A) → Mirrors (k a) (l a)) → Mirrors (m >>= k) (n >>= l)
then_mirrors m n k l r h = record { mirrors = λ s. mirrors_on (m s) k l h ∙ ap (λ o. go_on o l) (r.mirrors s) }

ret_mirrors : {N A : Type 0} (a : A) → Mirrors {N = N} (ret a) (ret a)
ret_mirrors a = record { mirrors = λ s. refl }

stuck_mirrors : {N A : Type 0} → Mirrors {N = N} {A = A} (stop Stuck) (stop Stuck)
stuck_mirrors = record { mirrors = λ s. refl }

world_mirrors : {N A : Type 0} (m : Run World A) → Mirrors {N = N} (on_world m) (on_world m)
world_mirrors m = record { mirrors = λ s. go s (m s.world) }
  where
    go : {N A : Type 0} (s : State N) (o : Out World A) → bare_out (with_world s o) ≡ with_world (bare s) o
    go s (Returned a w) = refl
    go s (Stopped e w) = refl

choose_mirrors : {N A : Type 0} (xs : List A) → Mirrors {N = N} (choose xs) (choose xs)
choose_mirrors xs = record { mirrors = go xs }
  where
    pick : {N A : Type 0} (x : A) (xs : List A) (s : State N) (p : List ℕ) → bare_out (pick_from x xs p s) ≡ pick_from x xs p (bare s)
    pick x xs s [] = refl
    pick x xs s (k ∷ p) = refl

    go : {N A : Type 0} (xs : List A) (s : State N) → bare_out (choose xs s) ≡ choose xs (bare s)
    go [] s = refl
    go (x ∷ xs) s = pick x xs s s.picks

at_node_mirrors : {N : Type 0} (o : Option ℕ) (k : ℕ → Run (State N) (List Value)) (l : ℕ → Run (State (Unit {0})) (List Value)) → ((n : ℕ) → Mirrors (k n) (l n)) → Mirrors (at_node o k) (at_node o l)
at_node_mirrors None k l h = stuck_mirrors
at_node_mirrors (Some n) k l h = h n

at_port_mirrors : {N : Type 0} (o : Option Port) (k : ℕ → Run (State N) (List Value)) (l : ℕ → Run (State (Unit {0})) (List Value)) → ((n : ℕ) → Mirrors (k n) (l n)) → Mirrors (at_port o k) (at_port o l)
at_port_mirrors None k l h = stuck_mirrors
at_port_mirrors (Some p) k l h = h p.node

variant_mirrors : {N : Type 0} (vs : List Value) (k : ℕ → List Value → Run (State N) (List Value)) (l : ℕ → List Value → Run (State (Unit {0})) (List Value)) → ((n : ℕ) (us : List Value) → Mirrors (k n us) (l n us)) → Mirrors (with_variant vs k) (with_variant vs l)
variant_mirrors (Variant n us ∷ vs) k l h = h n (values us ++ vs)
variant_mirrors _ k l h = stuck_mirrors

function_mirrors : {N : Type 0} (vs : List Value) (k : List ℕ → List Value → Run (State N) (List Value)) (l : List ℕ → List Value → Run (State (Unit {0})) (List Value)) → ((name : List ℕ) (us : List Value) → Mirrors (k name us) (l name us)) → Mirrors (with_function vs k) (with_function vs l)
function_mirrors (Function name ∷ vs) k l h = h name vs
function_mirrors _ k l h = stuck_mirrors

name_mirrors : {N : Type 0} (kind : Op) → Mirrors {N = N} (name_of_function kind) (name_of_function kind)
name_mirrors (FuncDefn name i o) = ret_mirrors _
name_mirrors _ = stuck_mirrors

const_mirrors : {N : Type 0} (kind : Op) → Mirrors {N = N} (constant kind) (constant kind)
const_mirrors (Const n) = ret_mirrors _
const_mirrors _ = stuck_mirrors

or_stuck_mirrors : {N : Type 0} (o : Option (List Value)) → Mirrors {N = N} (or_stuck o) (or_stuck o)
or_stuck_mirrors None = stuck_mirrors
or_stuck_mirrors (Some vs) = ret_mirrors vs

module _ {N : Type 0} (note : Note N) (g : Graph) where
  record MirrorsEnter (E : Enter N) (F : Enter (Unit {0})) : Type 0 where
    mirrors : (outer : List Open) (n : ℕ) (vs : List Value) → Mirrors (E outer n vs) (F outer n vs)

  moment_mirrors : (os : List Open) → Mirrors (at_moment note os) (at_moment no_note os)
  moment_mirrors os = record { mirrors = λ s. refl }

  module _ (inside again : Enter N) (inside' again' : Enter (Unit {0})) (MI : MirrorsEnter inside inside') (MA : MirrorsEnter again again') where
    turn_mirrors : (outer : List Open) (n : ℕ) (vs : List Value) → Mirrors (after_turn again outer n vs) (after_turn again' outer n vs)
    turn_mirrors outer n vs = then_mirrors (on_world take_turn) (on_world take_turn) (λ _. again outer n vs) (λ _. again' outer n vs) (world_mirrors take_turn) (λ _. MA.mirrors outer n vs)

    fire_mirrors : (kind : Op) (outer : List Open) (n : ℕ) (vs : List Value) → Mirrors (fire_op note g inside again kind outer n vs) (fire_op no_note g inside' again' kind outer n vs)
    unfolding fire_op
    fire_mirrors (Dfg i o) outer n vs = MI.mirrors outer n vs
    fire_mirrors (Conditional r i o) outer n vs = MI.mirrors outer n vs
    fire_mirrors (TailLoop a l r) outer n vs = MI.mirrors outer n vs
    fire_mirrors (Cfg i o) outer n vs = MI.mirrors outer n vs
    fire_mirrors (Call i o) outer n vs = at_port_mirrors (feeder g.links (static_input g n)) _ _ (λ f. turn_mirrors outer f vs)
    fire_mirrors (CallIndirect i o) outer n vs = function_mirrors vs _ _ (λ name us. at_node_mirrors (callee g i o name) _ _ (λ f. turn_mirrors outer f us))
    fire_mirrors (LoadFunction i o) outer n vs = at_port_mirrors (feeder g.links (static_input g n)) _ _ (λ f. name_mirrors (op_at g f))
    fire_mirrors LoadConstant outer n vs = at_port_mirrors (feeder g.links (static_input g n)) _ _ (λ c. const_mirrors (op_at g c))
    fire_mirrors kind outer n vs = world_mirrors (perform kind vs)

    firings_mirror : (outer : List Open) (c o n : ℕ) (fired : List Fired) → Mirrors (firings note g (fire note g inside again) outer c o n fired) (firings no_note g (fire no_note g inside' again') outer c o n fired)
    unfolding firings
    firings_mirror outer c o zero fired = then_mirrors _ _ _ _ (moment_mirrors _) (λ _. or_stuck_mirrors (inputs g (outs_at fired) o))
    firings_mirror outer c o (suc n) fired =
        then_mirrors _ _ _ _ (then_mirrors _ _ _ _ (moment_mirrors _) (λ _. choose_mirrors (ready g c (outs_at fired))))
        (λ r. then_mirrors _ _ _ _ (fire_mirrors (op_at g r.node) _ r.node r.ins) (λ vs. firings_mirror outer c o n (record { node = r.node; outs = vs } ∷ fired)))

    region_mirrors : (outer : List Open) (c : ℕ) (vs : List Value) → Mirrors (region note g (fire note g inside again) outer c vs) (region no_note g (fire no_note g inside' again') outer c vs)
    unfolding region
    region_mirrors outer c vs = at_node_mirrors (slice_get (children g c) 0) _ _ (λ i. at_node_mirrors (slice_get (children g c) 1) _ _ (λ o. firings_mirror outer c o (length (firing_children g c)) (record { node = i; outs = vs } ∷ [])))

    round_mirrors : (outer : List Open) (n k : ℕ) (vs : List Value) → Mirrors (after_round note g again outer n k vs) (after_round no_note g again' outer n k vs)
    round_mirrors outer n zero vs = turn_mirrors outer n vs
    round_mirrors outer n (suc zero) vs = ret_mirrors vs
    round_mirrors outer n (suc (suc k)) vs = stuck_mirrors

    if_mirrors : (b : Bool) (x y : Run (State N) (List Value)) (x' y' : Run (State (Unit {0})) (List Value)) → Mirrors x x' → Mirrors y y' → Mirrors (cond b x y) (cond b x' y')
    if_mirrors true x y x' y' hx hy = hx
    if_mirrors false x y x' y' hx hy = hy

    jump_mirrors : (kind : Op) (outer : List Open) (n m : ℕ) (vs : List Value) → Mirrors (jump note g inside again kind outer n m vs) (jump no_note g inside' again' kind outer n m vs)
    jump_mirrors (ExitBlock r) outer n m vs = ret_mirrors vs
    jump_mirrors _ outer n m vs = if_mirrors (ltb n m) _ _ _ _ (MI.mirrors outer m vs) (turn_mirrors outer m vs)

    enter_op_mirrors : (kind : Op) (outer : List Open) (n : ℕ) (vs : List Value) → Mirrors (enter_op note g inside again kind outer n vs) (enter_op no_note g inside' again' kind outer n vs)
    unfolding enter_op
    enter_op_mirrors (FuncDefn name i o) outer n vs = region_mirrors outer n vs
    enter_op_mirrors (Dfg i o) outer n vs = region_mirrors outer n vs
    enter_op_mirrors (Case i o) outer n vs = region_mirrors outer n vs
    enter_op_mirrors (Conditional r i o) outer n vs = variant_mirrors vs _ _ (λ k us. at_node_mirrors (slice_get (children g n) k) _ _ (λ c. MI.mirrors outer c us))
    enter_op_mirrors (TailLoop a l r) outer n vs = then_mirrors _ _ _ _ (region_mirrors outer n vs) (λ us. variant_mirrors us _ _ (λ k xs. round_mirrors outer n k xs))
    enter_op_mirrors (Cfg i o) outer n vs = at_node_mirrors (slice_get (children g n) 0) _ _ (λ b. MI.mirrors outer b vs)
    enter_op_mirrors (DataflowBlock i r o) outer n vs = then_mirrors _ _ _ _ (region_mirrors outer n vs) (λ us. variant_mirrors us _ _ (λ k xs. at_port_mirrors (taker g.links (record { node = n; index = k })) _ _ (λ m. jump_mirrors (op_at g m) outer n m xs)))
    enter_op_mirrors _ outer n vs = stuck_mirrors

  level_mirrors : (again : Enter N) (again' : Enter (Unit {0})) → MirrorsEnter again again' → (d : ℕ) → MirrorsEnter (level note g again d) (level no_note g again' d)
  level_mirrors again again' MA zero = record { mirrors = λ outer n vs. stuck_mirrors }
  level_mirrors again again' MA (suc d) = record { mirrors = λ outer n vs. enter_op_mirrors (level note g again d) again (level no_note g again' d) again' (level_mirrors again again' MA d) MA (op_at g n) outer n vs }

  resume_mirrors : (t : ℕ) → MirrorsEnter (resume note g t) (resume no_note g t)
  resume_mirrors zero = record { mirrors = λ outer n vs. stuck_mirrors }
  resume_mirrors (suc t) = record { mirrors = λ outer n vs. (level_mirrors (resume note g t) (resume no_note g t) (resume_mirrors t) (length g.nodes)).mirrors outer n vs }

  world_out-bare : {A : Type 0} (o : Out (State N) A) → world_out o ≡ world_out (bare_out o)
  world_out-bare (Returned a s) = refl
  world_out-bare (Stopped e s) = refl

  pub runs_mirror : (outer : List Open) (n : ℕ) (vs : List Value) (s : State N) → world_out (runs note g outer n vs s) ≡ world_out (runs no_note g outer n vs (bare s))
  unfolding runs
  runs_mirror outer n vs s = world_out-bare (resume note g (suc s.world.turns) outer n vs s) ∙ ap world_out (((resume_mirrors (suc s.world.turns)).mirrors outer n vs).mirrors s)
