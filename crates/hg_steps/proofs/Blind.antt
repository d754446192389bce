-- A run without notes doesn't look at the regions that are open around it.
use Rattle.std.proofs.Common.{◌≡◌, ℕ, zero, suc, cond, ltb, List, [], ◌∷◌, length, Option, Some, None, refl, ap, ap₂}
use Rattle.std.specs.Prelude.{slice_get}
use Rattle.std.proofs.Math.Path.{fun_ext}
use Rattle.gp_base.specs.Run.{Run, ◌>>=◌}
use Rattle.gp_base.specs.World.{take_turn}
use Rattle.hg_ops.specs.Op.{Op, FuncDefn, Dfg, Cfg, DataflowBlock, ExitBlock, Conditional, Case, TailLoop, Call, CallIndirect, LoadConstant, LoadFunction}
use Rattle.hg_graph.specs.Graph.{Graph, Port, op_at, children, firing_children, feeder, taker, static_input}
use Rattle.hg_graph.specs.Run.{Fired, Open, outs_at, ready, no_note, on_world, choose, at_moment, Enter, at_node, at_port, with_variant, with_function, after_turn, fire_op, fire, firings, region, after_round, jump, enter_op, level, resume, runs}
use Rattle.hg_graph.specs.Value.{Value, callee}
use Rattle.hg_steps.specs.Machine.{Plain}
use Rattle.hg_steps.proofs.Monad.{then_same}

-- under whatever regions the run of a node is the same
pub record IsBlind (E : Enter (Unit {0})) : Type 0 where
  pub same : (outer other : List Open) (n : ℕ) (vs : List Value) → E outer n vs ≡ E other n vs

variant_same : (vs : List Value) (k l : ℕ → List Value → Run Plain (List Value)) → ((n : ℕ) (us : List Value) → k n us ≡ l n us) → with_variant vs k ≡ with_variant vs l
variant_same vs k l h = ap (λ k. with_variant vs k) (fun_ext (λ n. fun_ext (h n)))

function_same : (vs : List Value) (k l : List ℕ → List Value → Run Plain (List Value)) → ((name : List ℕ) (us : List Value) → k name us ≡ l name us) → with_function vs k ≡ with_function vs l
function_same vs k l h = ap (λ k. with_function vs k) (fun_ext (λ name. fun_ext (h name)))

node_same : (o : Option ℕ) (k l : ℕ → Run Plain (List Value)) → ((n : ℕ) → k n ≡ l n) → at_node o k ≡ at_node o l
node_same o k l h = ap (λ k. at_node o k) (fun_ext h)

port_same : (o : Option Port) (k l : ℕ → Run Plain (List Value)) → ((n : ℕ) → k n ≡ l n) → at_port o k ≡ at_port o l
port_same o k l h = ap (λ k. at_port o k) (fun_ext h)

module _ (g : Graph) (inside again : Enter (Unit {0})) (I : IsBlind inside) (A : IsBlind again) where
  turn_same : (outer other : List Open) (n : ℕ) (vs : List Value) → after_turn again outer n vs ≡ after_turn again other n vs
  turn_same outer other n vs = then_same (on_world take_turn) _ _ (λ _. A.same outer other n vs)

  pub fire_same : (kind : Op) (outer other : List Open) (n : ℕ) (vs : List Value) → fire_op no_note g inside again kind outer n vs ≡ fire_op no_note g inside again kind other n vs
  unfolding fire_op
  fire_same (Dfg i o) outer other n vs = I.same outer other n vs
  fire_same (Conditional r i o) outer other n vs = I.same outer other n vs
  fire_same (TailLoop a l r) outer other n vs = I.same outer other n vs
  fire_same (Cfg i o) outer other n vs = I.same outer other n vs
  fire_same (Call i o) outer other n vs = port_same (feeder g.links (static_input g n)) _ _ (λ f. turn_same outer other f vs)
  fire_same (CallIndirect i o) outer other n vs = function_same vs _ _ (λ name us. node_same (callee g i o name) _ _ (λ f. turn_same outer other f us))
  fire_same (LoadFunction i o) outer other n vs = refl
  fire_same LoadConstant outer other n vs = refl
  fire_same kind outer other n vs = refl

  firings_same : (outer other : List Open) (c o n : ℕ) (fired : List Fired) → firings no_note g (fire no_note g inside again) outer c o n fired ≡ firings no_note g (fire no_note g inside again) other c o n fired
  unfolding firings
  firings_same outer other c o zero fired = refl
  firings_same outer other c o (suc n) fired =
      then_same (at_moment no_note (record { container = c; fired = fired; running = None } ∷ outer) >>= (λ _. choose (ready g c (outs_at fired)))) _ _
      (λ r. ap₂ (λ m k. m >>= k) (fire_same (op_at g r.node) (record { container = c; fired = fired; running = Some r.node } ∷ outer) (record { container = c; fired = fired; running = Some r.node } ∷ other) r.node r.ins) (fun_ext (λ outs. firings_same outer other c o n (record { node = r.node; outs = outs } ∷ fired))))

  region_same : (outer other : List Open) (c : ℕ) (vs : List Value) → region no_note g (fire no_note g inside again) outer c vs ≡ region no_note g (fire no_note g inside again) other c vs
  unfolding region
  region_same outer other c vs = node_same (slice_get (children g c) 0) _ _ (λ i. node_same (slice_get (children g c) 1) _ _ (λ o. firings_same outer other c o (length (firing_children g c)) (record { node = i; outs = vs } ∷ [])))

  round_same : (outer other : List Open) (n k : ℕ) (vs : List Value) → after_round no_note g again outer n k vs ≡ after_round no_note g again other n k vs
  round_same outer other n zero vs = turn_same outer other n vs
  round_same outer other n (suc zero) vs = refl
  round_same outer other n (suc (suc k)) vs = refl

  jump_same : (kind : Op) (outer other : List Open) (n m : ℕ) (vs : List Value) → jump no_note g inside again kind outer n m vs ≡ jump no_note g inside again kind other n m vs
  jump_same (ExitBlock r) outer other n m vs = refl
  jump_same _ outer other n m vs = ap₂ (λ x y. cond (ltb n m) x y) (I.same outer other m vs) (turn_same outer other m vs)

  enter_same : (kind : Op) (outer other : List Open) (n : ℕ) (vs : List Value) → enter_op no_note g inside again kind outer n vs ≡ enter_op no_note g inside again kind other n vs
  unfolding enter_op
  enter_same (FuncDefn name i o) outer other n vs = region_same outer other n vs
  enter_same (Dfg i o) outer other n vs = region_same outer other n vs
  enter_same (Case i o) outer other n vs = region_same outer other n vs
  enter_same (Conditional r i o) outer other n vs = variant_same vs _ _ (λ k us. node_same (slice_get (children g n) k) _ _ (λ c. I.same outer other c us))
  enter_same (TailLoop a l r) outer other n vs = ap₂ (λ m k. m >>= k) (region_same outer other n vs) (fun_ext (λ us. variant_same us _ _ (λ k xs. round_same outer other n k xs)))
  enter_same (Cfg i o) outer other n vs = node_same (slice_get (children g n) 0) _ _ (λ b. I.same outer other b vs)
  enter_same (DataflowBlock i r o) outer other n vs = ap₂ (λ m k. m >>= k) (region_same outer other n vs) (fun_ext (λ us. variant_same us _ _ (λ k xs. port_same (taker g.links (record { node = n; index = k })) _ _ (λ m. jump_same (op_at g m) outer other n m xs))))
  enter_same _ outer other n vs = refl

module _ (g : Graph) where
  level_blind : (again : Enter (Unit {0})) → IsBlind again → (d : ℕ) → IsBlind (level no_note g again d)
  level_blind again A zero = record { same = λ outer other n vs. refl }
  level_blind again A (suc d) = record { same = λ outer other n vs. enter_same g (level no_note g again d) again (level_blind again A d) A (op_at g n) outer other n vs }

  resume_blind : (t : ℕ) → IsBlind (resume no_note g t)
  resume_blind zero = record { same = λ outer other n vs. refl }
  resume_blind (suc t) = record { same = λ outer other n vs. (level_blind (resume no_note g t) (resume_blind t) (length g.nodes)).same outer other n vs }

  pub runs_blind : IsBlind (runs no_note g)
  unfolding runs
  runs_blind = record { same = λ outer other n vs. fun_ext (λ s. ap (λ m. m s) ((resume_blind (suc s.world.turns)).same outer other n vs)) }
