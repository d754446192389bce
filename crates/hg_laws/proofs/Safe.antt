-- One place for each qubit, at each moment, and never stuck.
use Rattle.std.proofs.Common.{◌≡◌, ◌⊎◌, inl, inr, ℕ, zero, suc, ◌+◌, ◌%◌, ◌<◌, ◌≤◌, Bool, true, false, cond, ◌||◌, ltb, eqb, ℤ, List, [], ◌∷◌, ◌++◌, length, Option, Some, None, refl, sym, ap, ◌∙◌, subst, arith}
use Rattle.std.specs.Prelude.{slice_get}
use Rattle.std.proofs.lemmas.Bool.{eqb-true, ltb-true}
use Rattle.std.proofs.Math.Nat.{mod-lt}
use Rattle.gp_base.specs.Clean.{world_after}
use Rattle.gp_base.specs.Run.{Run, Out, Returned, Stopped, TurnsUsed, OutcomesUsed, DivisionByZero, Stuck, go_on, ◌>>=◌, ret, or_stuck}
use Rattle.gp_base.specs.World.{World, take_turn, turn_of}
use Rattle.hg_ops.specs.GraphType.{sum_type, function_type}
use Rattle.hg_ops.specs.Op.{Op, Types, Module, FuncDefn, Const, Input, Output, Dfg, Cfg, DataflowBlock, ExitBlock, Conditional, Case, TailLoop, Tag, Call, CallIndirect, LoadConstant, LoadFunction, Ext, ins_of, outs_of, fires, is_dataflow_container, inner_ins, inner_outs}
use Rattle.gp_base.specs.Membership.{In}
use Rattle.hg_graph.specs.Graph.{Graph, Port, op_at, children, firing_children, feeder, taker, static_input}
use Rattle.hg_graph.specs.Moments.{FiredOnce, IsGoodOpen, AreGoodOpen, EndsWell}
use Rattle.hg_graph.specs.Run.{Fired, Open, outs_at, has_fired, inputs, Ready, ready, perform, State, Note, with_world, on_world, choose, pick_from, at_moment, Enter, at_node, at_port, with_variant, with_function, name_of_function, constant, after_turn, fire_op, fire, firings, region, after_round, jump, enter_op, level, resume}
use Rattle.hg_graph.specs.Valid.{is_block, block_ins}
use Rattle.hg_graph.specs.Value.{Value, Int, Qubit, Variant, Function, callee, values, HasType, HaveTypes, functions}
use Rattle.hg_laws.proofs.Runs.{Giving, Gives, no_types}
use Rattle.hg_laws.proofs.Values.{uses-packed, uses-values, uses-append, have-append, variant_row}
use Rattle.hg_laws.proofs.Wires.{value_links, order_links, edge_cases}
use Rattle.gp_base.proofs.Steps.{IsLater, later_step, SameTurns, turns_step}
use Rattle.hg_laws.proofs.Ops.{perform_relates}
use Rattle.hg_laws.proofs.Looks.{IsReady, In-ready, orders_in}
use Rattle.hg_laws.proofs.Flow.{IsRegion, Sound, typed_inputs, sound_plus, sound_start, some_ready, all_fed, fed_by_fired}
use Rattle.hg_laws.proofs.Children.{get_in, child_is, kid_is}
use Rattle.hg_laws.proofs.Named.{names_function}
use Rattle.hg_laws.proofs.Known.{is_inner, Known, region_of}
use Rattle.hg_laws.proofs.Regions.{is_region, child_greater, inner_kid}
use Rattle.hg_laws.proofs.Typed.{entry_ins, fire_gives, region_at, level_typed, resume_typed, TypedEnter, place_in, option_same}
use Rattle.hg_laws.proofs.Carry.{held, held_open, held_open-none, held_plus, held_start, held_end, held_running}
use Rattle.hg_laws.proofs.Counts.{lives, Counted, extension_keeps, ends_in}

-- what a run of values leaves, where `rest` counts what stands elsewhere
pub record Balanced (start : World) (rest : ℕ → ℕ) (vs : List Value) (w : World) : Type 0 where
  pub count : Counted rest vs w
  pub later : IsLater start w

abbrev pub Kept : World → (ℕ → ℕ) → ℕ → List Value → World → Type 0
Kept start rest turns vs w = Balanced start rest vs w × (w.turns ≡ turns)

-- ---- an op without a region
map_ends : {A : Type 0} (Q S : A → World → Type 0) (o : Out World A) → ((a : A) (v : World) → Q a v → S a v) → EndsWell Q o → EndsWell S o
map_ends Q S (Returned a w) f h = f a w h
map_ends Q S (Stopped TurnsUsed w) f h = tt
map_ends Q S (Stopped OutcomesUsed w) f h = tt
map_ends Q S (Stopped DivisionByZero w) f h = tt
map_ends Q S (Stopped Stuck w) f h = h

abbrev pub is_leaf : Op → Bool
is_leaf (Ext e) = true
is_leaf (Tag rows k) = true
is_leaf _ = false

counted_leaf : (g : Graph) (rest : ℕ → ℕ) (w : World) (kind : Op) (vs : List Value) → is_leaf kind ≡ true → HaveTypes (functions g) vs (ins_of kind) → Counted rest vs w → EndsWell (Counted rest) (perform kind vs w)
unfolding perform
counted_leaf g rest w (Ext e) vs k h c = extension_keeps rest w (functions g) e vs h c
counted_leaf g rest w (Tag rows n) vs k h c = λ q. let z = c q in let u = uses-packed q vs in omega arith
counted_leaf g rest w _ vs k h c = absurd cc

leaf_ends : (g : Graph) (start : World) (rest : ℕ → ℕ) (w : World) (kind : Op) (vs : List Value) → is_leaf kind ≡ true → HaveTypes (functions g) vs (ins_of kind) → Balanced start rest vs w → EndsWell (Kept start rest w.turns) (perform kind vs w)
leaf_ends g start rest w kind vs k h b =
    let o = perform kind vs w in
    map_ends _ (Kept start rest w.turns) o (λ us v q. (record { count = (q.0).0; later = (q.0).1 }, q.1))
    (ends_in _ (λ v. v.turns ≡ w.turns) o
    (ends_in (Counted rest) (IsLater start) o (counted_leaf g rest w kind vs k h b.count) (later_step.chain start w (world_after o) b.later ((perform_relates IsLater later_step kind vs).relates w)))
    ((perform_relates SameTurns turns_step kind vs).relates w))

-- ---- moments, counted over links
unfoldable pub held_all : ℕ → Graph → List Open → ℕ
held_all q g [] = 0
held_all q g (o ∷ os) = held_open q g o + held_all q g os

pub open_all : (q : ℕ) (g : Graph) (o : Open) (os : List Open) → held_all q g (o ∷ os) ≡ held_open q g o + held_all q g os
unfolding held_all
open_all q g o os = refl

pub open_none : (q : ℕ) (g : Graph) → held_all q g [] ≡ 0
unfolding held_all
open_none q g = refl

pub record Placed (start : World) (g : Graph) (foreign : ℕ → ℕ) (os : List Open) (w : World) : Type 0 where
  pub regions : AreGoodOpen g os
  pub places : (q : ℕ) → held_all q g os + foreign q ≡ lives w q
  pub later : IsLater start w

abbrev pub can_enter : Op → Bool
can_enter (FuncDefn name i o) = true
can_enter (Dfg i o) = true
can_enter (Case i o) = true
can_enter (Conditional r i o) = true
can_enter (TailLoop a l r) = true
can_enter (Cfg i o) = true
can_enter (DataflowBlock i r o) = true
can_enter _ = false

-- what stands elsewhere than in the region that runs
abbrev pub elsewhere : Graph → (ℕ → ℕ) → List Open → ℕ → ℕ
elsewhere g foreign outer q = held_all q g outer + foreign q

module _ {N : Type 0} (I : N → Type 0) where
  -- what was written down is as it should be, what is returned has the property, and the end is never stuck
  abbrev pub Safely : {A : Type 0} → (A → World → Type 0) → Out (State N) A → Type 0
  Safely Q (Returned a s) = I s.notes × Q a s.world
  Safely Q (Stopped TurnsUsed s) = I s.notes
  Safely Q (Stopped OutcomesUsed s) = I s.notes
  Safely Q (Stopped DivisionByZero s) = I s.notes
  Safely Q (Stopped Stuck s) = ⊥

  pub record Safe {A : Type 0} (Q : A → World → Type 0) (m : Run (State N) A) (w : World) : Type 0 where
    pub safe : (p : List ℕ) (n : N) → I n → Safely Q (m (record { world = w; picks = p; notes = n }))

  safely_on : {A B : Type 0} (Q : A → World → Type 0) (T : A → Type 0) (S : B → World → Type 0) (o : Out (State N) A) (k : A → Run (State N) B) → Safely Q o → Giving T o → ((a : A) (w : World) → Q a w → T a → Safe S (k a) w) → Safely S (go_on o k)
  safely_on Q T S (Returned a s) k h t f = (f a s.world h.1 t).safe s.picks s.notes h.0
  safely_on Q T S (Stopped TurnsUsed s) k h t f = h
  safely_on Q T S (Stopped OutcomesUsed s) k h t f = h
  safely_on Q T S (Stopped DivisionByZero s) k h t f = h
  safely_on Q T S (Stopped Stuck s) k h t f = h

  pub then_safe : {A B : Type 0} (Q : A → World → Type 0) (T : A → Type 0) (S : B → World → Type 0) (m : Run (State N) A) (k : A → Run (State N) B) (w : World) → Safe Q m w → Gives T m → ((a : A) (v : World) → Q a v → T a → Safe S (k a) v) → Safe S (m >>= k) w
  then_safe Q T S m k w s t h = record { safe = λ p n i. safely_on Q T S (m (record { world = w; picks = p; notes = n })) k (s.safe p n i) (t.gives (record { world = w; picks = p; notes = n })) h }

  safely_map : {A : Type 0} (Q S : A → World → Type 0) (o : Out (State N) A) → ((a : A) (v : World) → Q a v → S a v) → Safely Q o → Safely S o
  safely_map Q S (Returned a s) h x = (x.0, h a s.world x.1)
  safely_map Q S (Stopped TurnsUsed s) h x = x
  safely_map Q S (Stopped OutcomesUsed s) h x = x
  safely_map Q S (Stopped DivisionByZero s) h x = x
  safely_map Q S (Stopped Stuck s) h x = x

  pub safe_map : {A : Type 0} (Q S : A → World → Type 0) (m : Run (State N) A) (w : World) → ((a : A) (v : World) → Q a v → S a v) → Safe Q m w → Safe S m w
  safe_map Q S m w h s = record { safe = λ p n i. safely_map Q S (m (record { world = w; picks = p; notes = n })) h (s.safe p n i) }

  world_safely : {A : Type 0} (Q : A → World → Type 0) (s : State N) (o : Out World A) → I s.notes → EndsWell Q o → Safely Q (with_world s o)
  world_safely Q s (Returned a w) i h = (i, h)
  world_safely Q s (Stopped TurnsUsed w) i h = i
  world_safely Q s (Stopped OutcomesUsed w) i h = i
  world_safely Q s (Stopped DivisionByZero w) i h = i
  world_safely Q s (Stopped Stuck w) i h = h

  world_safe : {A : Type 0} (Q : A → World → Type 0) (m : Run World A) (w : World) → EndsWell Q (m w) → Safe Q (on_world m) w
  world_safe Q m w h = record { safe = λ p n i. world_safely Q (record { world = w; picks = p; notes = n }) (m w) i h }

  choose_safe : {A : Type 0} (xs : List A) (w : World) → (xs ≡ [] → ⊥) → Safe (λ x v. In x xs × (v ≡ w)) (choose xs) w
  choose_safe [] w n = absurd (n refl)
  choose_safe (x ∷ xs) w n = record { safe = λ p m i. one p m i }
    where
      one : (p : List ℕ) (m : N) → I m → Safely (λ y v. In y (x ∷ xs) × (v ≡ w)) (pick_from x xs p (record { world = w; picks = p; notes = m }))
      one [] m i = (i, (inl refl, refl))
      one (k ∷ p) m i = (i, (place_in (x ∷ xs) (k % suc (length xs)) x (let pos : 0 < suc (length xs) = omega arith in mod-lt k pos), refl))

  -- a turn lowers the count
  turn_ends : (w : World) → EndsWell (λ _ v. (n : ℕ) × (w.turns ≡ suc n) × (v ≡ record w { turns = n })) (take_turn w)
  turn_ends w = go w.turns refl
    where
      go : (n : ℕ) → w.turns ≡ n → EndsWell (λ _ v. (m : ℕ) × (w.turns ≡ suc m) × (v ≡ record w { turns = m })) (turn_of n w)
      go zero e = tt
      go (suc n) e = (n, e, refl)

  module _ (note : Note N) (start : World) (g : Graph) (foreign : ℕ → ℕ) (keeps : (os : List Open) (w : World) (n : N) → Placed start g foreign os w → I n → I (note os w n)) where
    abbrev pub Leaves : List Open → ℕ → List Value → World → Type 0
    Leaves outer bound us w = Balanced start (elsewhere g foreign outer) us w × (w.turns < bound)

    -- a node is run safely where fewer than `bound` turns are left, and it lies less than `depth` deep
    pub record SafeEnter (bound depth : ℕ) (E : Enter N) : Type 0 where
      pub safe : (outer : List Open) (n : ℕ) (vs : List Value) (w : World) → n < length g.nodes → can_enter (op_at g n) ≡ true → length g.nodes ≤ depth + n → HaveTypes (functions g) vs (entry_ins (op_at g n)) → AreGoodOpen g outer → Balanced start (elsewhere g foreign outer) vs w → w.turns < bound → Safe (Leaves outer bound) (E outer n vs) w

    module _ (V : Known g) (b D : ℕ) (inside again : Enter N) (TI : TypedEnter g inside) (TA : TypedEnter g again) (SI : SafeEnter (suc b) D inside) (SA : SafeEnter b (length g.nodes) again) where
      abbrev Post : List Open → List Value → World → Type 0
      Post outer = Leaves outer (suc b)

      abbrev Here : List Open → List Value → World → Type 0
      Here outer vs w = Balanced start (elsewhere g foreign outer) vs w

      same_world : (outer : List Open) (vs : List Value) (w : World) (n : ℕ) → Here outer vs w → Here outer vs (record w { turns = n })
      same_world outer vs w n h = record { count = h.count; later = record { more = (h.later).more; gone = (h.later).gone } }

      -- a node that is run from within, or after a turn
      inside_safe : (outer : List Open) (n : ℕ) (vs : List Value) (w : World) (kind : Op) → op_at g n ≡ kind → n < length g.nodes → can_enter kind ≡ true → length g.nodes ≤ D + n → HaveTypes (functions g) vs (entry_ins kind) → AreGoodOpen g outer → Here outer vs w → w.turns < suc b → Safe (Post outer) (inside outer n vs) w
      inside_safe outer n vs w kind e l k d h os bal t = SI.safe outer n vs w l (ap can_enter e ∙ k) d (subst (λ x. HaveTypes (functions g) vs (entry_ins x)) (sym e) h) os bal t

      again_safe : (outer : List Open) (n : ℕ) (vs : List Value) (w : World) (kind : Op) → op_at g n ≡ kind → n < length g.nodes → can_enter kind ≡ true → HaveTypes (functions g) vs (entry_ins kind) → AreGoodOpen g outer → Here outer vs w → w.turns < suc b → Safe (Post outer) (after_turn again outer n vs) w
      again_safe outer n vs w kind e l k h os bal t =
          then_safe _ (λ _. Unit {0}) (Post outer) (on_world take_turn) (λ _. again outer n vs) w (world_safe _ take_turn w (turn_ends w)) (no_types _) (λ _ v r _.
          let t' : suc r.0 < suc b = subst (λ x. x < suc b) r.1 t in
          subst (λ x. Safe (Post outer) (again outer n vs) x) (sym r.2)
          (safe_map (Leaves outer b) (Post outer) (again outer n vs) (record w { turns = r.0 }) (λ a u q. (q.0, let z = q.1 in omega arith))
          (SA.safe outer n vs (record w { turns = r.0 }) l (ap can_enter e ∙ k) (omega arith) (subst (λ x. HaveTypes (functions g) vs (entry_ins x)) (sym e) h) os (same_world outer vs w r.0 bal) (omega arith))))

      at_node_safe : (S : List Value → World → Type 0) (o : Option ℕ) (k : ℕ → Run (State N) (List Value)) (w : World) (n : ℕ) → o ≡ Some n → Safe S (k n) w → Safe S (at_node o k) w
      at_node_safe S o k w n e h = subst (λ x. Safe S (at_node x k) w) (sym e) h

      at_port_safe : (S : List Value → World → Type 0) (o : Option Port) (k : ℕ → Run (State N) (List Value)) (w : World) (p : Port) → o ≡ Some p → Safe S (k p.node) w → Safe S (at_port o k) w
      at_port_safe S o k w p e h = subst (λ x. Safe S (at_port x k) w) (sym e) h

      ret_safe : (S : List Value → World → Type 0) (vs : List Value) (w : World) → S vs w → Safe S (ret vs) w
      ret_safe S vs w h = record { safe = λ p n i. (i, h) }

      const_safe : (outer : List Open) (kind : Op) (v : ℤ) (w : World) → kind ≡ Const v → Here outer [] w → w.turns < suc b → Safe (Post outer) (constant kind) w
      const_safe outer kind v w e h t = subst (λ x. Safe (Post outer) (constant x) w) (sym e) (ret_safe (Post outer) (Int v ∷ []) w (record { count = λ q. let z = h.count q in omega arith; later = h.later }, t))

      name_safe : (outer : List Open) (kind : Op) (name : List ℕ) (i u : Types) (w : World) → kind ≡ FuncDefn name i u → Here outer [] w → w.turns < suc b → Safe (Post outer) (name_of_function kind) w
      name_safe outer kind name i u w e h t = subst (λ x. Safe (Post outer) (name_of_function x) w) (sym e) (ret_safe (Post outer) (Function name ∷ []) w (record { count = λ q. let z = h.count q in omega arith; later = h.later }, t))

      function_safe : (S : List Value → World → Type 0) (outer : List Open) (vs : List Value) (i o ts : Types) (go : List ℕ → List Value → Run (State N) (List Value)) (w : World) → HaveTypes (functions g) vs (function_type i o ∷ ts) → Here outer vs w → ((name : List ℕ) (us : List Value) → HasType (functions g) (Function name) (function_type i o) → HaveTypes (functions g) us ts → Here outer us w → Safe S (go name us) w) → Safe S (with_function vs go) w
      function_safe S outer [] i o ts go w h bal f = absurd h
      function_safe S outer (Int n ∷ vs) i o ts go w h bal f = absurd h.0
      function_safe S outer (Qubit n ∷ vs) i o ts go w h bal f = absurd h.0
      function_safe S outer (Variant k us ∷ vs) i o ts go w h bal f = absurd h.0
      function_safe S outer (Function name ∷ vs) i o ts go w h bal f = f name vs h.0 h.1 (record { count = λ q. let z = bal.count q in omega arith; later = bal.later })

      leaf_safe : (outer : List Open) (kind : Op) (vs : List Value) (w : World) → is_leaf kind ≡ true → HaveTypes (functions g) vs (ins_of kind) → Here outer vs w → w.turns < suc b → Safe (Post outer) (on_world (perform kind vs)) w
      leaf_safe outer kind vs w k h bal t =
          safe_map (Kept start (elsewhere g foreign outer) w.turns) (Post outer) (on_world (perform kind vs)) w (λ a v q. (q.0, subst (λ x. x < suc b) (sym q.1) t))
          (world_safe _ (perform kind vs) w (leaf_ends g start (elsewhere g foreign outer) w kind vs k h bal))

      no_values' : (vs : List Value) → HaveTypes (functions g) vs [] → vs ≡ []
      no_values' [] h = refl
      no_values' (v ∷ vs) h = absurd h

      -- ---- one child fires
      fire_safe : (outer : List Open) (n : ℕ) (vs : List Value) (w : World) (kind : Op) → op_at g n ≡ kind → n < length g.nodes → is_inner kind ≡ true → fires kind ≡ true → length g.nodes ≤ D + n → HaveTypes (functions g) vs (ins_of kind) → AreGoodOpen g outer → Here outer vs w → w.turns < suc b → Safe (Post outer) (fire_op note g inside again kind outer n vs) w
      unfolding fire_op
      fire_safe outer n vs w (Dfg i o) e l k f d h os bal t = inside_safe outer n vs w (Dfg i o) e l refl d h os bal t
      fire_safe outer n vs w (Conditional r i o) e l k f d h os bal t = inside_safe outer n vs w (Conditional r i o) e l refl d h os bal t
      fire_safe outer n vs w (TailLoop a lv r) e l k f d h os bal t = inside_safe outer n vs w (TailLoop a lv r) e l refl d h os bal t
      fire_safe outer n vs w (Cfg i o) e l k f d h os bal t = inside_safe outer n vs w (Cfg i o) e l refl d h os bal t
      fire_safe outer n vs w (Call i o) e l k f d h os bal t =
          let c = V.calls n i o l e in
          at_port_safe (Post outer) (feeder g.links (static_input g n)) _ w c.0 c.2 (again_safe outer (c.0).node vs w (FuncDefn c.1 i o) c.4 c.3 refl h os bal t)
      fire_safe outer n vs w (CallIndirect i o) e l k f d h os bal t =
          function_safe (Post outer) outer vs i o i _ w h bal (λ name us ty ts bl.
          let c = names_function g name i o ty in
          at_node_safe (Post outer) (callee g i o name) _ w c.place c.found (again_safe outer c.place us w (FuncDefn c.name i o) c.is_function c.is_node refl ts os bl t))
      fire_safe outer n vs w (LoadFunction i o) e l k f d h os bal t =
          let c = V.loads n i o l e in
          at_port_safe (Post outer) (feeder g.links (static_input g n)) _ w c.0 c.2 (name_safe outer (op_at g (c.0).node) c.1 i o w c.3 (subst (λ us. Here outer us w) (no_values' vs h) bal) t)
      fire_safe outer n vs w LoadConstant e l k f d h os bal t =
          let c = V.constants n l e in
          at_port_safe (Post outer) (feeder g.links (static_input g n)) _ w c.0 c.2 (const_safe outer (op_at g (c.0).node) c.1 w c.3 (subst (λ us. Here outer us w) (no_values' vs h) bal) t)
      fire_safe outer n vs w (Ext x) e l k f d h os bal t = leaf_safe outer (Ext x) vs w refl h bal t
      fire_safe outer n vs w (Tag rows a) e l k f d h os bal t = leaf_safe outer (Tag rows a) vs w refl h bal t
      fire_safe outer n vs w Module e l k f d h os bal t = absurd cc
      fire_safe outer n vs w (FuncDefn name i o) e l k f d h os bal t = absurd cc
      fire_safe outer n vs w (Input r) e l k f d h os bal t = absurd cc
      fire_safe outer n vs w (Output r) e l k f d h os bal t = absurd cc
      fire_safe outer n vs w (Const a) e l k f d h os bal t = absurd cc
      fire_safe outer n vs w (Case i o) e l k f d h os bal t = absurd cc
      fire_safe outer n vs w (DataflowBlock i r o) e l k f d h os bal t = absurd cc
      fire_safe outer n vs w (ExitBlock r) e l k f d h os bal t = absurd cc

      -- ---- a region
      record Region (outer : List Open) (c i o n : ℕ) (fired : List Fired) (w : World) : Type 0 where
        is : IsRegion g c i o
        inner : (k : ℕ) → In k (firing_children g c) → is_inner (op_at g k) ≡ true
        sound : Sound g c i (outs_at fired) n
        once : FiredOnce fired
        outers : AreGoodOpen g outer
        places : (q : ℕ) → held q (outs_at fired) (value_links g) + elsewhere g foreign outer q ≡ lives w q
        later : IsLater start w
        turns : w.turns < suc b
        deep : length g.nodes ≤ suc D + c

      abbrev open_now : ℕ → List Fired → Option ℕ → Open
      open_now c fired running = record { container = c; fired = fired; running = running }

      -- the moment before a firing and at the end
      good_here : (outer : List Open) (c i o n : ℕ) (fired : List Fired) (w : World) → Region outer c i o n fired w → IsGoodOpen g (open_now c fired None)
      good_here outer c i o n fired w H = record {
        typed = (H.sound).typed;
        closed = λ x y e h. elim (edge_cases g x y e) [
          | inl z ↦ ap (has_fired (outs_at fired)) (sym z.2) ∙ (H.sound).closed z.0 z.1 (ap (has_fired (outs_at fired)) z.3 ∙ h)
          | inr z ↦ ap (has_fired (outs_at fired)) (sym z.2) ∙ (H.sound).closed_order z.0 z.1 (ap (has_fired (outs_at fired)) z.3 ∙ h)
        ];
        once = H.once;
        running = tt;
      }

      moment_safe : (outer : List Open) (c i o n : ℕ) (fired : List Fired) (w : World) → Region outer c i o n fired w → Safe (λ _ v. v ≡ w) (at_moment note (open_now c fired None ∷ outer)) w
      moment_safe outer c i o n fired w H =
          record {
            safe = λ p m im. (
              keeps (open_now c fired None ∷ outer) w m (record {
                regions = (good_here outer c i o n fired w H, H.outers);
                places = λ q. let x = open_all q g (open_now c fired None) outer in let y = held_open-none q g c fired in let z = H.places q in omega arith;
                later = H.later;
              }) im,
              refl,
            );
          }

      good_running : (outer : List Open) (c i o n : ℕ) (fired : List Fired) (w : World) → Region outer c i o (suc n) fired w → (r : Ready) → In r.node (firing_children g c) → IsReady g (outs_at fired) r → IsGoodOpen g (open_now c fired (Some r.node))
      good_running outer c i o n fired w H r k h = record {
        typed = (H.sound).typed;
        closed = λ x y e hr. elim (edge_cases g x y e) [
          | inl z ↦ ap (has_fired (outs_at fired)) (sym z.2) ∙ which (has_fired (outs_at fired) y) (eqb r.node y) refl refl hr (λ a. (H.sound).closed z.0 z.1 (ap (has_fired (outs_at fired)) z.3 ∙ a)) (λ a. fed_by_fired g c i o H.is (outs_at fired) r.node r.ins (inl k) h.pulls z.0 z.1 (z.3 ∙ sym (eqb-true r.node y a)))
          | inr z ↦ ap (has_fired (outs_at fired)) (sym z.2) ∙ which (has_fired (outs_at fired) y) (eqb r.node y) refl refl hr (λ a. (H.sound).closed_order z.0 z.1 (ap (has_fired (outs_at fired)) z.3 ∙ a)) (λ a. orders_in (order_links g) (outs_at fired) r.node z.0 h.ordered z.1 (z.3 ∙ sym (eqb-true r.node y a)))
        ];
        once = H.once;
        running = h.fresh;
      }
        where
          which : {Z : Type 0} (x y : Bool) {x' y' : Bool} → x' ≡ x → y' ≡ y → (x || y) ≡ true → (x' ≡ true → Z) → (y' ≡ true → Z) → Z
          which true y ex ey e f h' = f ex
          which false y ex ey e f h' = h' (ey ∙ e)

      firings_safe : (outer : List Open) (c i o n : ℕ) (fired : List Fired) (w : World) → Region outer c i o n fired w → Safe (Post outer) (firings note g (fire note g inside again) outer c o n fired) w
      unfolding firings
      firings_safe outer c i o zero fired w H =
          let f = all_fed g c i o H.is (outs_at fired) H.sound in
          then_safe (λ _ v. v ≡ w) (λ _. Unit {0}) (Post outer) (at_moment note _) _ w (moment_safe outer c i o zero fired w H) (no_types _) (λ _ v e _.
          subst (λ x. Safe (Post outer) (or_stuck (inputs g (outs_at fired) o)) x) (sym e)
          (subst (λ x. Safe (Post outer) (or_stuck x) w) (sym f.1)
          (ret_safe (Post outer) f.0 w (
            record {
              count = λ q. let a = held_end g c i o H.is q (outs_at fired) f.0 H.sound f.1 in let z = H.places q in omega arith;
              later = H.later;
            },
            H.turns,
          ))))
      firings_safe outer c i o (suc n) fired w H =
          then_safe (λ r v. In r (ready g c (outs_at fired)) × (v ≡ w)) (λ _. Unit {0}) (Post outer) _ _ w
          (then_safe (λ _ v. v ≡ w) (λ _. Unit {0}) (λ r v. In r (ready g c (outs_at fired)) × (v ≡ w)) (at_moment note _) _ w (moment_safe outer c i o (suc n) fired w H) (no_types _) (λ _ v e _.
          subst (λ x. Safe (λ r u. In r (ready g c (outs_at fired)) × (u ≡ w)) (choose (ready g c (outs_at fired))) x) (sym e) (choose_safe (ready g c (outs_at fired)) w (some_ready g c i o H.is (outs_at fired) n H.sound))))
          (no_types _)
          (λ r v e _. subst (λ x. Safe (Post outer) (fire note g inside again (open_now c fired (Some r.node) ∷ outer) r.node r.ins >>= (λ vs. firings note g (fire note g inside again) outer c o n (record { node = r.node; outs = vs } ∷ fired))) x) (sym e.1)
          (let k = In-ready g c (outs_at fired) r e.0 in
          let kid = kid_is g c r.node k.0 in
          let child = child_is g c r.node kid.0 in
          let more = child_greater g V c r.node kid.0 in
          let deep : length g.nodes ≤ D + r.node = let z = H.deep in omega arith in
          let ins = typed_inputs g c i o H.is (outs_at fired) (suc n) r.node r.ins H.sound (k.1).pulls in
          then_safe (Post (open_now c fired (Some r.node) ∷ outer)) (λ vs. HaveTypes (functions g) vs (outs_of (op_at g r.node))) (Post outer) _ _ w
          (fire_safe (open_now c fired (Some r.node) ∷ outer) r.node r.ins w (op_at g r.node) refl child.0 (H.inner r.node k.0) kid.1 deep ins
          (good_running outer c i o n fired w H r k.0 k.1, H.outers)
          (record {
            count = λ q. let x = open_all q g (open_now c fired (Some r.node)) outer in let y = held_running g c i o H.is q fired r k.0 k.1 in let z = H.places q in omega arith;
            later = H.later;
          }) H.turns)
          (fire_gives note g V inside again TI TA _ r.node r.ins (op_at g r.node) refl child.0 ins)
          (λ vs u post ty. firings_safe outer c i o n (record { node = r.node; outs = vs } ∷ fired) u (record {
            is = H.is;
            inner = H.inner;
            sound = sound_plus g c i o H.is (outs_at fired) n r vs H.sound k.0 k.1 ty;
            once = ((k.1).fresh, H.once);
            outers = H.outers;
            places = λ q. let x = open_all q g (open_now c fired (Some r.node)) outer in let y = held_running g c i o H.is q fired r k.0 k.1 in let z = held_plus g c i o H.is q (outs_at fired) n r vs H.sound k.0 k.1 ty in let p = (post.0).count q in omega arith;
            later = (post.0).later;
            turns = post.1;
            deep = H.deep;
          }))))

      flow_region : (outer : List Open) (c : ℕ) (vs : List Value) (w : World) → c < length g.nodes → is_dataflow_container (op_at g c) ≡ true → length g.nodes ≤ suc D + c → HaveTypes (functions g) vs (inner_ins (op_at g c)) → AreGoodOpen g outer → Here outer vs w → w.turns < suc b → Safe (Post outer) (region note g (fire note g inside again) outer c vs) w
      unfolding region
      flow_region outer c vs w l f d h os bal t =
          let H = region_of g V c f (V.regions c l f) in
          let R = is_region g V c l f H in
          let ty : HaveTypes (functions g) vs (outs_of (op_at g H.input)) = subst (HaveTypes (functions g) vs) (sym (ap outs_of H.input_op)) h in
          at_node_safe (Post outer) (slice_get (children g c) 0) _ w H.input (ap (λ x. slice_get x 0) H.list)
          (at_node_safe (Post outer) (slice_get (children g c) 1) _ w H.output (ap (λ x. slice_get x 1) H.list)
          (firings_safe outer c H.input H.output (length (firing_children g c)) (record { node = H.input; outs = vs } ∷ []) w (record {
            is = R;
            inner = inner_kid g c H;
            sound = sound_start g c H.input H.output R vs ty;
            once = (refl, tt);
            outers = os;
            places = λ q. let a = held_start g c H.input H.output R q vs ty in let z = bal.count q in omega arith;
            later = bal.later;
            turns = t;
            deep = d;
          })))

      region_safe : (outer : List Open) (n : ℕ) (vs : List Value) (w : World) (kind : Op) → op_at g n ≡ kind → n < length g.nodes → is_dataflow_container kind ≡ true → length g.nodes ≤ suc D + n → HaveTypes (functions g) vs (inner_ins kind) → AreGoodOpen g outer → Here outer vs w → w.turns < suc b → Safe (Post outer) (region note g (fire note g inside again) outer n vs) w
      region_safe outer n vs w kind e l f d h os bal t = flow_region outer n vs w l (ap is_dataflow_container e ∙ f) d (subst (λ x. HaveTypes (functions g) vs (inner_ins x)) (sym e) h) os bal t

      variant_safe : (S : List Value → World → Type 0) (outer : List Open) (vs : List Value) (rows : List Types) (ts : Types) (go : ℕ → List Value → Run (State N) (List Value)) (w : World) → HaveTypes (functions g) vs (sum_type rows ∷ ts) → Here outer vs w → ((k : ℕ) (r : Types) (us : List Value) → slice_get rows k ≡ Some r → HaveTypes (functions g) us (r ++ ts) → Here outer us w → Safe S (go k us) w) → Safe S (with_variant vs go) w
      variant_safe S outer [] rows ts go w h bal f = absurd h
      variant_safe S outer (Int n ∷ vs) rows ts go w h bal f = absurd h.0
      variant_safe S outer (Qubit n ∷ vs) rows ts go w h bal f = absurd h.0
      variant_safe S outer (Function n ∷ vs) rows ts go w h bal f = absurd h.0
      variant_safe S outer (Variant k us ∷ vs) rows ts go w h bal f =
          let r = variant_row (functions g) rows k us h.0 in
          f k r.0 (values us ++ vs) r.1 (have-append (functions g) (values us) vs r.0 ts r.2 h.1)
          (record { count = λ q. let a = uses-append q (values us) vs in let c = uses-values q us in let z = bal.count q in omega arith; later = bal.later })

      round_safe : (outer : List Open) (n : ℕ) (a lv rs : Types) (k : ℕ) (r : Types) (us : List Value) (w : World) → op_at g n ≡ TailLoop a lv rs → n < length g.nodes → slice_get (a ∷ lv ∷ []) k ≡ Some r → HaveTypes (functions g) us (r ++ rs) → AreGoodOpen g outer → Here outer us w → w.turns < suc b → Safe (Post outer) (after_round note g again outer n k us) w
      round_safe outer n a lv rs zero r us w e l q h os bal t = again_safe outer n us w (TailLoop a lv rs) e l refl (subst (λ x. HaveTypes (functions g) us (x ++ rs)) (option_same (Some a) r a q refl) h) os bal t
      round_safe outer n a lv rs (suc zero) r us w e l q h os bal t = ret_safe (Post outer) us w (bal, t)
      round_safe outer n a lv rs (suc (suc k)) r us w e l q h os bal t = absurd cc

      jump_safe : (outer : List Open) (n m : ℕ) (vs : List Value) (w : World) (kind : Op) → op_at g m ≡ kind → m < length g.nodes → is_block kind ≡ true → length g.nodes ≤ suc D + n → HaveTypes (functions g) vs (block_ins kind) → AreGoodOpen g outer → Here outer vs w → w.turns < suc b → Safe (Post outer) (jump note g inside again kind outer n m vs) w
      jump_safe outer n m vs w (ExitBlock r) e l k d h os bal t = ret_safe (Post outer) vs w (bal, t)
      jump_safe outer n m vs w (DataflowBlock i rs o) e l k d h os bal t =
          elim (later (ltb n m) refl) [
            | inl f ↦ subst (λ c. Safe (Post outer) (cond c (inside outer m vs) (after_turn again outer m vs)) w) (sym f.0) (inside_safe outer m vs w (DataflowBlock i rs o) e l refl (let z = f.1 in omega arith) h os bal t)
            | inr f ↦ subst (λ c. Safe (Post outer) (cond c (inside outer m vs) (after_turn again outer m vs)) w) (sym f) (again_safe outer m vs w (DataflowBlock i rs o) e l refl h os bal t)
          ]
        where
          later : (c : Bool) → ltb n m ≡ c → ((ltb n m ≡ true) × (n < m)) ⊎ (ltb n m ≡ false)
          later true q = inl (q, ltb-true n m q)
          later false q = inr q
      jump_safe outer n m vs w _ e l k d h os bal t = absurd cc

      enter_op_safe : (outer : List Open) (n : ℕ) (vs : List Value) (w : World) (kind : Op) → op_at g n ≡ kind → n < length g.nodes → can_enter kind ≡ true → length g.nodes ≤ suc D + n → HaveTypes (functions g) vs (entry_ins kind) → AreGoodOpen g outer → Here outer vs w → w.turns < suc b → Safe (Post outer) (enter_op note g inside again kind outer n vs) w
      unfolding enter_op
      enter_op_safe outer n vs w (FuncDefn name i o) e l k d h os bal t = region_safe outer n vs w (FuncDefn name i o) e l refl d h os bal t
      enter_op_safe outer n vs w (Dfg i o) e l k d h os bal t = region_safe outer n vs w (Dfg i o) e l refl d h os bal t
      enter_op_safe outer n vs w (Case i o) e l k d h os bal t = region_safe outer n vs w (Case i o) e l refl d h os bal t
      enter_op_safe outer n vs w (Conditional rows i o) e l k d h os bal t =
          variant_safe (Post outer) outer vs rows i _ w h bal (λ j r us q ty bl.
          let C = V.cases n j rows r i o l e q in
          let ic = get_in (children g n) j C.case C.is_child in
          let more = child_greater g V n C.case ic in
          at_node_safe (Post outer) (slice_get (children g n) j) _ w C.case C.is_child
          (inside_safe outer C.case us w (Case (r ++ i) o) C.case_is (child_is g n C.case ic).0 refl (omega arith) ty os bl t))
      enter_op_safe outer n vs w (TailLoop a lv rs) e l k d h os bal t =
          then_safe (Post outer) (λ us. HaveTypes (functions g) us (inner_outs (TailLoop a lv rs))) (Post outer) (region note g (fire note g inside again) outer n vs) _ w
          (region_safe outer n vs w (TailLoop a lv rs) e l refl d h os bal t)
          (region_at note g V inside again TI TA outer n vs (TailLoop a lv rs) e l refl h)
          (λ us v post ty. variant_safe (Post outer) outer us (a ∷ lv ∷ []) rs _ v ty post.0 (λ j r xs q tx bl. round_safe outer n a lv rs j r xs v e l q tx os bl post.1))
      enter_op_safe outer n vs w (Cfg i o) e l k d h os bal t =
          let B = V.first_blocks n i o l e in
          let at : slice_get (children g n) 0 ≡ Some B.entry = ap (λ x. slice_get x 0) B.are_children in
          let ic = get_in (children g n) 0 B.entry at in
          let more = child_greater g V n B.entry ic in
          at_node_safe (Post outer) (slice_get (children g n) 0) _ w B.entry at
          (inside_safe outer B.entry vs w (DataflowBlock i B.rows B.others) B.entry_is (child_is g n B.entry ic).0 refl (omega arith) h os bal t)
      enter_op_safe outer n vs w (DataflowBlock i rows o) e l k d h os bal t =
          then_safe (Post outer) (λ us. HaveTypes (functions g) us (inner_outs (DataflowBlock i rows o))) (Post outer) (region note g (fire note g inside again) outer n vs) _ w
          (region_safe outer n vs w (DataflowBlock i rows o) e l refl d h os bal t)
          (region_at note g V inside again TI TA outer n vs (DataflowBlock i rows o) e l refl h)
          (λ us v post ty. variant_safe (Post outer) outer us rows o _ v ty post.0 (λ j r xs q tx bl.
          let L = V.controls n j i rows o r l e q in
          at_port_safe (Post outer) (taker g.links (record { node = n; index = j })) _ v L.block L.at
          (jump_safe outer n (L.block).node xs v (op_at g (L.block).node) refl L.is_in L.is_one d (subst (HaveTypes (functions g) xs) (sym L.fits) tx) os bl post.1)))
      enter_op_safe outer n vs w _ e l k d h os bal t = absurd cc

    module _ (V : Known g) where
      pub level_safe : (b : ℕ) (again : Enter N) → TypedEnter g again → SafeEnter b (length g.nodes) again → (d : ℕ) → SafeEnter (suc b) d (level note g again d)
      level_safe b again TA SA zero = record { safe = λ outer n vs w l k d h os bal t. absurd (omega arith) }
      level_safe b again TA SA (suc d) = record {
        safe = λ outer n vs w l k dd h os bal t.
            enter_op_safe V b d (level note g again d) again (level_typed note g V again TA d) TA (level_safe b again TA SA d) SA outer n vs w (op_at g n) refl l k dd h os bal t;
      }

      pub resume_safe : (b : ℕ) → SafeEnter b (length g.nodes) (resume note g b)
      resume_safe zero = record { safe = λ outer n vs w l k d h os bal t. absurd (omega arith) }
      resume_safe (suc b) = record { safe = λ outer n vs w l k d h os bal t. (level_safe b (resume note g b) (resume_typed note g V b) (resume_safe b) (length g.nodes)).safe outer n vs w l k d h os bal t }
