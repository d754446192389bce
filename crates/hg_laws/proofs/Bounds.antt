-- The bounds on depth and turns are enough: with greater ones a run of a valid graph is the same.
use Rattle.std.proofs.Common.{◌≡◌, ℕ, zero, suc, ◌+◌, ◌<◌, ◌≤◌, Bool, true, false, cond, ltb, List, [], ◌∷◌, length, Option, Some, None, refl, sym, ap, ◌∙◌, subst, arith}
use Rattle.std.specs.Prelude.{slice_get}
use Rattle.std.proofs.lemmas.Bool.{ltb-true}
use Rattle.std.proofs.lemmas.Option.{slice_get_past}
use Rattle.gp_base.specs.Clean.{world_after}
use Rattle.gp_base.specs.Run.{Run, Out, Returned, Stopped, Stuck, go_on, ◌>>=◌, ret, stop, or_stuck}
use Rattle.gp_base.specs.World.{World, turn_of}
use Rattle.hg_ops.specs.Op.{Op, Module, FuncDefn, Const, Dfg, Cfg, DataflowBlock, ExitBlock, Conditional, Case, TailLoop, Call, CallIndirect, LoadConstant, LoadFunction}
use Rattle.gp_base.specs.Membership.{In}
use Rattle.hg_graph.specs.Graph.{Graph, Port, op_of, op_at, children, firing_children, feeder, taker, static_input}
use Rattle.hg_graph.specs.Run.{Fired, Open, outs_at, inputs, ready, perform, State, Note, with_world, on_world, choose, pick_from, at_moment, Enter, at_node, at_port, with_variant, with_function, name_of_function, constant, after_turn, fire_op, fire, firings, region, after_round, jump, enter_op, level, resume, runs}
use Rattle.hg_graph.specs.Value.{Value, Variant, Function, callee}
use Rattle.hg_laws.proofs.Runs.{Giving, Gives, then_gives, no_types}
use Rattle.gp_base.proofs.Steps.{SameTurns, turns_step}
use Rattle.hg_laws.proofs.Ops.{perform_relates}
use Rattle.hg_laws.proofs.Children.{get_in, kid_is}
use Rattle.hg_laws.proofs.Known.{Known}
use Rattle.hg_laws.proofs.Regions.{child_greater}
use Rattle.hg_laws.proofs.Looks.{In-ready}
use Rattle.hg_laws.proofs.Typed.{choose_gives}

-- where a run returns, fewer than b turns are left
abbrev pub Below : {N A : Type 0} → ℕ → Out (State N) A → Type 0
Below b (Returned a s) = s.world.turns < b
Below b (Stopped e s) = Unit {0}

-- two runs are the same from states with fewer than b turns left
pub record Equal {N A : Type 0} (b : ℕ) (m n : Run (State N) A) : Type 0 where
  pub same : (s : State N) → s.world.turns < b → m s ≡ n s
  pub below : (s : State N) → s.world.turns < b → Below b (m s)

equal_on : {N A B : Type 0} (b : ℕ) (T : A → Type 0) (o : Out (State N) A) (k l : A → Run (State N) B) → Below b o → Giving T o → ((a : A) → T a → Equal b (k a) (l a)) → (go_on o k ≡ go_on o l) × Below b (go_on o k)
equal_on b T (Returned a s) k l h t e = let x = e a t in (x.same s h, x.below s h)
equal_on b T (Stopped x s) k l h t e = (refl, tt)

then_equal : {N A B : Type 0} (b : ℕ) (T : A → Type 0) (m n : Run (State N) A) (k l : A → Run (State N) B) → Equal b m n → Gives T m → ((a : A) → T a → Equal b (k a) (l a)) → Equal b (m >>= k) (n >>= l)
then_equal b T m n k l e t h = record {
  same = λ s lt. (equal_on b T (m s) k l (e.below s lt) (t.gives s) h).0 ∙ ap (λ o. go_on o l) (e.same s lt);
  below = λ s lt. (equal_on b T (m s) k l (e.below s lt) (t.gives s) h).1;
}

-- a run that leaves the turns alone
still : {N A : Type 0} (b : ℕ) (m : Run (State N) A) → ((s : State N) → s.world.turns < b → Below b (m s)) → Equal b m m
still b m h = record { same = λ s l. refl; below = h }

-- a turn
turn_equal : {N : Type 0} (b : ℕ) (again again' : Enter N) (outer : List Open) (n : ℕ) (vs : List Value) → Equal b (again outer n vs) (again' outer n vs) → Equal (suc b) (after_turn again outer n vs) (after_turn again' outer n vs)
turn_equal b again again' outer n vs e = record { same = λ s h. (go e s s.world.turns h).0; below = λ s h. (go e s s.world.turns h).1 }
  where
    wider : {N : Type 0} (o : Out (State N) (List Value)) → Below b o → Below (suc b) o
    wider (Returned a s) h = omega arith
    wider (Stopped e s) h = tt

    go : {N : Type 0} {k l : Run (State N) (List Value)} → Equal b k l → (s : State N) (n : ℕ) → n < suc b → (go_on (with_world s (turn_of n s.world)) (λ _. k) ≡ go_on (with_world s (turn_of n s.world)) (λ _. l)) × Below (suc b) (go_on (with_world s (turn_of n s.world)) (λ _. k))
    go e s zero h = (refl, tt)
    go {k = k} e s (suc n) h =
        let t = record s { world = record s.world { turns = n } } in
        (e.same t (omega arith), wider (k t) (e.below t (omega arith)))

choose_below : {N A : Type 0} (b : ℕ) (xs : List A) (s : State N) → s.world.turns < b → Below b (choose xs s)
choose_below b [] s h = tt
choose_below b (x ∷ xs) s h = pick s.picks
  where
    pick : (p : List ℕ) → Below b (pick_from x xs p s)
    pick [] = h
    pick (k ∷ p) = h

world_below : {N : Type 0} (b : ℕ) (s : State N) (o : Out World (List Value)) → (world_after o).turns ≡ s.world.turns → s.world.turns < b → Below b (with_world s o)
world_below b s (Returned a w) e h = subst (λ x. x < b) (sym e) h
world_below b s (Stopped x w) e h = tt

perform_below : {N : Type 0} (b : ℕ) (kind : Op) (vs : List Value) (s : State N) → s.world.turns < b → Below b (on_world (perform kind vs) s)
perform_below b kind vs s h = world_below b s (perform kind vs s.world) ((perform_relates SameTurns turns_step kind vs).relates s.world) h

const_below : {N : Type 0} (b : ℕ) (kind : Op) (s : State N) → s.world.turns < b → Below b (constant kind s)
const_below b (Const n) s h = h
const_below b _ s h = tt

at_node_equal : {N : Type 0} (b : ℕ) (o : Option ℕ) (k l : ℕ → Run (State N) (List Value)) → ((n : ℕ) → o ≡ Some n → Equal b (k n) (l n)) → Equal b (at_node o k) (at_node o l)
at_node_equal b None k l h = still b (stop Stuck) (λ s lt. tt)
at_node_equal b (Some n) k l h = h n refl

at_port_equal : {N : Type 0} (b : ℕ) (o : Option Port) (k l : ℕ → Run (State N) (List Value)) → ((n : ℕ) → Equal b (k n) (l n)) → Equal b (at_port o k) (at_port o l)
at_port_equal b None k l h = still b (stop Stuck) (λ s lt. tt)
at_port_equal b (Some p) k l h = h p.node

variant_equal : {N : Type 0} (b : ℕ) (vs : List Value) (k l : ℕ → List Value → Run (State N) (List Value)) → ((n : ℕ) (us : List Value) → Equal b (k n us) (l n us)) → Equal b (with_variant vs k) (with_variant vs l)
variant_equal b (Variant n us ∷ vs) k l h = h n _
variant_equal b _ k l h = still b (stop Stuck) (λ s lt. tt)

function_equal : {N : Type 0} (b : ℕ) (vs : List Value) (k l : List ℕ → List Value → Run (State N) (List Value)) → ((name : List ℕ) (us : List Value) → Equal b (k name us) (l name us)) → Equal b (with_function vs k) (with_function vs l)
function_equal b (Function name ∷ vs) k l h = h name vs
function_equal b _ k l h = still b (stop Stuck) (λ s lt. tt)

name_below : {N : Type 0} (b : ℕ) (kind : Op) (s : State N) → s.world.turns < b → Below b (name_of_function kind s)
name_below b (FuncDefn name i o) s h = h
name_below b _ s h = tt

or_stuck_below : {N : Type 0} (b : ℕ) (o : Option (List Value)) (s : State N) → s.world.turns < b → Below b (or_stuck o s)
or_stuck_below b None s h = tt
or_stuck_below b (Some vs) s h = h

-- from states with fewer than b turns, and nodes less than D deep
pub record EqualEnter {N : Type 0} (g : Graph) (b D : ℕ) (E F : Enter N) : Type 0 where
  pub equal : (outer : List Open) (n : ℕ) (vs : List Value) → length g.nodes ≤ D + n → Equal b (E outer n vs) (F outer n vs)

module _ {N : Type 0} (note : Note N) (g : Graph) (V : Known g) (b D : ℕ) (inside inside' again again' : Enter N) (SI : EqualEnter g (suc b) D inside inside') (SA : EqualEnter g b (length g.nodes) again again') where
  again_equal : (outer : List Open) (n : ℕ) (vs : List Value) → Equal (suc b) (after_turn again outer n vs) (after_turn again' outer n vs)
  again_equal outer n vs = turn_equal b again again' outer n vs (SA.equal outer n vs (omega arith))

  fire_equal : (kind : Op) (outer : List Open) (n : ℕ) (vs : List Value) → length g.nodes ≤ D + n → Equal (suc b) (fire_op note g inside again kind outer n vs) (fire_op note g inside' again' kind outer n vs)
  unfolding fire_op
  fire_equal (Dfg i o) outer n vs d = SI.equal outer n vs d
  fire_equal (Conditional r i o) outer n vs d = SI.equal outer n vs d
  fire_equal (TailLoop a l r) outer n vs d = SI.equal outer n vs d
  fire_equal (Cfg i o) outer n vs d = SI.equal outer n vs d
  fire_equal (Call i o) outer n vs d = at_port_equal (suc b) (feeder g.links (static_input g n)) _ _ (λ f. again_equal outer f vs)
  fire_equal (CallIndirect i o) outer n vs d = function_equal (suc b) vs _ _ (λ name us. at_node_equal (suc b) (callee g i o name) _ _ (λ f _. again_equal outer f us))
  fire_equal (LoadFunction i o) outer n vs d = at_port_equal (suc b) (feeder g.links (static_input g n)) _ _ (λ f. still (suc b) (name_of_function (op_at g f)) (name_below (suc b) (op_at g f)))
  fire_equal LoadConstant outer n vs d = at_port_equal (suc b) (feeder g.links (static_input g n)) _ _ (λ c. still (suc b) (constant (op_at g c)) (const_below (suc b) (op_at g c)))
  fire_equal kind outer n vs d = still (suc b) (on_world (perform kind vs)) (perform_below (suc b) kind vs)

  moment_equal : (os : List Open) → Equal (suc b) (at_moment note os) (at_moment note os)
  moment_equal os = still (suc b) (at_moment note os) (λ s h. h)

  firings_equal : (outer : List Open) (c o n : ℕ) (fired : List Fired) → length g.nodes ≤ suc D + c → Equal (suc b) (firings note g (fire note g inside again) outer c o n fired) (firings note g (fire note g inside' again') outer c o n fired)
  unfolding firings
  firings_equal outer c o zero fired d = then_equal (suc b) (λ _. Unit {0}) _ _ _ _ (moment_equal _) (no_types _) (λ _ _. still (suc b) (or_stuck (inputs g (outs_at fired) o)) (or_stuck_below (suc b) (inputs g (outs_at fired) o)))
  firings_equal outer c o (suc n) fired d =
      then_equal (suc b) (λ r. In r (ready g c (outs_at fired))) _ _ _ _
      (then_equal (suc b) (λ _. Unit {0}) _ _ _ _ (moment_equal _) (no_types _) (λ _ _. still (suc b) (choose (ready g c (outs_at fired))) (choose_below (suc b) (ready g c (outs_at fired)))))
      (then_gives (λ _. Unit {0}) _ (at_moment note _) _ (no_types _) (λ _ _. choose_gives (ready g c (outs_at fired))))
      (λ r ir.
      let more = child_greater g V c r.node (kid_is g c r.node (In-ready g c (outs_at fired) r ir).0).0 in
      then_equal (suc b) (λ _. Unit {0}) _ _ _ _ (fire_equal (op_at g r.node) _ r.node r.ins (omega arith)) (no_types _) (λ vs _. firings_equal outer c o n (record { node = r.node; outs = vs } ∷ fired) d))

  region_equal : (outer : List Open) (c : ℕ) (vs : List Value) → length g.nodes ≤ suc D + c → Equal (suc b) (region note g (fire note g inside again) outer c vs) (region note g (fire note g inside' again') outer c vs)
  unfolding region
  region_equal outer c vs d = at_node_equal (suc b) (slice_get (children g c) 0) _ _ (λ i _. at_node_equal (suc b) (slice_get (children g c) 1) _ _ (λ o _. firings_equal outer c o (length (firing_children g c)) (record { node = i; outs = vs } ∷ []) d))

  round_equal : (outer : List Open) (n k : ℕ) (vs : List Value) → Equal (suc b) (after_round note g again outer n k vs) (after_round note g again' outer n k vs)
  round_equal outer n zero vs = again_equal outer n vs
  round_equal outer n (suc zero) vs = still (suc b) (ret vs) (λ s h. h)
  round_equal outer n (suc (suc k)) vs = still (suc b) (stop Stuck) (λ s h. tt)

  jump_equal : (kind : Op) (outer : List Open) (n m : ℕ) (vs : List Value) → length g.nodes ≤ suc D + n → Equal (suc b) (jump note g inside again kind outer n m vs) (jump note g inside' again' kind outer n m vs)
  jump_equal (ExitBlock r) outer n m vs d = still (suc b) (ret vs) (λ s h. h)
  jump_equal _ outer n m vs d = go (ltb n m) refl
    where
      go : (c : Bool) → ltb n m ≡ c → Equal (suc b) (cond c (inside outer m vs) (after_turn again outer m vs)) (cond c (inside' outer m vs) (after_turn again' outer m vs))
      go true q = let less = ltb-true n m q in SI.equal outer m vs (omega arith)
      go false q = again_equal outer m vs

  enter_op_equal : (kind : Op) (outer : List Open) (n : ℕ) (vs : List Value) → length g.nodes ≤ suc D + n → Equal (suc b) (enter_op note g inside again kind outer n vs) (enter_op note g inside' again' kind outer n vs)
  unfolding enter_op
  enter_op_equal (FuncDefn name i o) outer n vs d = region_equal outer n vs d
  enter_op_equal (Dfg i o) outer n vs d = region_equal outer n vs d
  enter_op_equal (Case i o) outer n vs d = region_equal outer n vs d
  enter_op_equal (Conditional r i o) outer n vs d =
      variant_equal (suc b) vs _ _ (λ k us. at_node_equal (suc b) (slice_get (children g n) k) _ _ (λ c e. let more = child_greater g V n c (get_in (children g n) k c e) in SI.equal outer c us (omega arith)))
  enter_op_equal (TailLoop a l r) outer n vs d =
      then_equal (suc b) (λ _. Unit {0}) _ _ _ _ (region_equal outer n vs d) (no_types _) (λ us _. variant_equal (suc b) us _ _ (λ k xs. round_equal outer n k xs))
  enter_op_equal (Cfg i o) outer n vs d =
      at_node_equal (suc b) (slice_get (children g n) 0) _ _ (λ c e. let more = child_greater g V n c (get_in (children g n) 0 c e) in SI.equal outer c vs (omega arith))
  enter_op_equal (DataflowBlock i r o) outer n vs d =
      then_equal (suc b) (λ _. Unit {0}) _ _ _ _ (region_equal outer n vs d) (no_types _) (λ us _. variant_equal (suc b) us _ _ (λ k xs. at_port_equal (suc b) (taker g.links (record { node = n; index = k })) _ _ (λ m. jump_equal (op_at g m) outer n m xs d)))
  enter_op_equal _ outer n vs d = still (suc b) (stop Stuck) (λ s h. tt)

module _ {N : Type 0} (note : Note N) (g : Graph) (V : Known g) where
  -- past the nodes nothing is run
  past_stuck : (again : Enter N) (d : ℕ) (outer : List Open) (n : ℕ) (vs : List Value) → length g.nodes ≤ n → level note g again d outer n vs ≡ stop Stuck
  unfolding op_at enter_op
  past_stuck again zero outer n vs l = refl
  past_stuck again (suc d) outer n vs l = ap (λ x. enter_op note g (level note g again d) again (op_of x) outer n vs) (slice_get_past g.nodes n l)

  level_equal : (b : ℕ) (again again' : Enter N) → EqualEnter g b (length g.nodes) again again' → (d e : ℕ) → d ≤ e → EqualEnter g (suc b) d (level note g again d) (level note g again' e)
  level_equal b again again' SA zero e l = record { equal = λ outer n vs h. subst (λ m. Equal (suc b) (stop Stuck) m) (sym (past_stuck again' e outer n vs (omega arith))) (still (suc b) (stop Stuck) (λ s lt. tt)) }
  level_equal b again again' SA (suc d) zero l = absurd (omega arith)
  level_equal b again again' SA (suc d) (suc e) l = record {
    equal = λ outer n vs h.
        enter_op_equal note g V b d (level note g again d) (level note g again' e) again again' (level_equal b again again' SA d e (omega arith)) SA (op_at g n) outer n vs h;
  }

  resume_equal : (t u : ℕ) → t ≤ u → EqualEnter g t (length g.nodes) (resume note g t) (resume note g u)
  resume_equal zero u l = record { equal = λ outer n vs h. record { same = λ s lt. absurd (omega arith); below = λ s lt. absurd (omega arith) } }
  resume_equal (suc t) zero l = absurd (omega arith)
  resume_equal (suc t) (suc u) l = record { equal = λ outer n vs h. (level_equal t (resume note g t) (resume note g u) (resume_equal t u (omega arith)) (length g.nodes) (length g.nodes) (omega arith)).equal outer n vs h }

  -- more turns of fuel and a greater depth change nothing
  pub bounds_suffice : (turns depth n : ℕ) (outer : List Open) (vs : List Value) (s : State N) → s.world.turns ≤ turns → length g.nodes ≤ depth → level note g (resume note g turns) depth outer n vs s ≡ runs note g outer n vs s
  unfolding runs
  bounds_suffice turns depth n outer vs s t d =
      sym (((level_equal s.world.turns (resume note g s.world.turns) (resume note g turns) (resume_equal s.world.turns turns t) (length g.nodes) depth d).equal outer n vs (omega arith)).same s (omega arith))

  -- ---- a run of a valid graph unfolds as if there were no bounds
  level_runs : (t D : ℕ) → D ≤ length g.nodes → EqualEnter g (suc t) D (level note g (resume note g t) D) (runs note g)
  unfolding runs
  level_runs t D l = record {
    equal = λ outer n vs h. record {
      same = λ s lt.
          ((level_equal t (resume note g t) (resume note g t) (resume_equal t t (omega arith)) D (length g.nodes) l).equal outer n vs h).same s lt
          ∙ sym (((level_equal s.world.turns (resume note g s.world.turns) (resume note g t) (resume_equal s.world.turns t (omega arith)) (length g.nodes) (length g.nodes) (omega arith)).equal outer n vs (omega arith)).same s (omega arith));
      below = ((level_equal t (resume note g t) (resume note g t) (resume_equal t t (omega arith)) D (length g.nodes) l).equal outer n vs h).below;
    };
  }

  resume_runs : (t : ℕ) → EqualEnter g t (length g.nodes) (resume note g t) (runs note g)
  resume_runs zero = record { equal = λ outer n vs h. record { same = λ s lt. absurd (omega arith); below = λ s lt. absurd (omega arith) } }
  resume_runs (suc t) = record {
    equal = λ outer n vs h. record {
      same = λ s lt. ((level_runs t (length g.nodes) (omega arith)).equal outer n vs h).same s lt;
      below = λ s lt. ((level_runs t (length g.nodes) (omega arith)).equal outer n vs h).below s lt;
    };
  }

  no_node : (n : ℕ) → length g.nodes ≡ 0 → op_at g n ≡ Module
  unfolding op_at
  no_node n e = ap op_of (slice_get_past g.nodes n (omega arith))

  pub runs_unfold : (outer : List Open) (n : ℕ) (vs : List Value) (s : State N) → runs note g outer n vs s ≡ enter_op note g (runs note g) (runs note g) (op_at g n) outer n vs s
  unfolding runs enter_op
  runs_unfold outer n vs s = go (length g.nodes) refl
    where
      go : (N' : ℕ) → length g.nodes ≡ N' → level note g (resume note g s.world.turns) N' outer n vs s ≡ enter_op note g (runs note g) (runs note g) (op_at g n) outer n vs s
      go zero e = ap (λ kind. enter_op note g (runs note g) (runs note g) kind outer n vs s) (sym (no_node n e))
      go (suc D) e =
          (enter_op_equal note g V s.world.turns D (level note g (resume note g s.world.turns) D) (runs note g) (resume note g s.world.turns) (runs note g) (level_runs s.world.turns D (omega arith)) (resume_runs s.world.turns) (op_at g n) outer n vs (omega arith)).same s (omega arith)
