-- What a run returns has its types, in whatever world.
use Rattle.std.proofs.Common.{◌≡◌, inl, inr, ℕ, zero, suc, ◌%◌, ◌<◌, Bool, true, false, cond, ltb, ℤ, List, [], ◌∷◌, ◌++◌, length, Option, Some, None, refl, sym, ap, ◌∙◌, subst, arith, mod-lt}
use Rattle.std.specs.Prelude.{slice_get, slice_index_or}
use Rattle.gp_base.specs.Run.{Run, Out, Returned, Stopped, ◌>>=◌, ret, stop, or_stuck}
use Rattle.gp_base.specs.Number.{is_same}
use Rattle.gp_base.specs.declared.event.Event.TheVariants as event
use Rattle.gp_base.specs.declared.event.GateName.TheVariants as name
use Rattle.gp_base.specs.World.{World, allocate, free, measure, measure_free, reset, apply_gate, apply_gate_on_two, apply_gate_on_three, rotate, does, take_turn}
use Rattle.hg_ops.specs.GraphType as type
use Rattle.hg_ops.specs.GraphType.{GraphType, sum_type, tuple_type, bool_type, function_type}
use Rattle.hg_ops.specs.Op as op
use Rattle.hg_ops.specs.Op.{one_qubit_name, two_qubit_name, rotation_name, Op, Types, Extension, Module, FuncDefn, Const, Input, Output, Dfg, Cfg, DataflowBlock, ExitBlock, Conditional, Case, TailLoop, Tag, Call, CallIndirect, LoadConstant, LoadFunction, Ext, Division, extension_ins, extension_outs, ins_of, outs_of, is_dataflow_container, inner_ins, inner_outs}
use Rattle.gp_base.specs.Membership.{In}
use Rattle.hg_graph.specs.Graph.{Graph, Port, op_at, parent_at, children, firing_children, feeder, taker, static_input}
use Rattle.hg_graph.specs.Run.{Fired, Open, outs_at, inputs, ready, with_tuple, nothing, divide, divided, perform_extension, perform, State, Note, on_world, choose, pick_from, at_moment, Enter, at_node, at_port, with_variant, with_function, name_of_function, constant, after_turn, fire_op, fire, firings, region, after_round, jump, enter_op, level, resume}
use Rattle.hg_graph.specs.Valid.{is_block, block_ins}
use Rattle.hg_graph.specs.Value.{Value, Int, Qubit, Variant, Function, values, packed, truth, callee, Functions, HasType, HaveTypes, functions}
use Rattle.hg_laws.proofs.Runs.{Giving, Gives, then_gives, no_types, on_world_gives}
use Rattle.hg_laws.proofs.Values.{have-append, no_row, variant_row, row_variant}
use Rattle.hg_laws.proofs.Matches.{qubit_case, two_qubits_case, three_qubits_case, angle_case, int_case, two_ints_case, bool_case, two_bools_case}
use Rattle.hg_laws.proofs.Named.{names_function, function_typed}
use Rattle.hg_laws.proofs.Looks.{In-ready}
use Rattle.hg_laws.proofs.Flow.{IsRegion, Sound, typed_inputs, sound_plus, sound_start}
use Rattle.hg_laws.proofs.Children.{get_in, child_is, kid_is}
use Rattle.hg_laws.proofs.Known.{Known, region_of}
use Rattle.hg_laws.proofs.Regions.{is_region}

-- ---- the chosen one is in the list
pub place_in : {A : Type 0} (xs : List A) (k : ℕ) (d : A) → k < length xs → In (slice_index_or xs k d) xs
place_in [] k d l = absurd (omega arith)
place_in (x ∷ xs) zero d l = inl refl
place_in (x ∷ xs) (suc k) d l = inr (place_in xs k d (omega arith))

picked : {N A : Type 0} (x : A) (xs : List A) (s : State N) (p : List ℕ) → Giving (λ y. In y (x ∷ xs)) (pick_from x xs p s)
picked x xs s [] = inl refl
picked x xs s (k ∷ p) = place_in (x ∷ xs) (k % suc (length xs)) x (let pos : 0 < suc (length xs) = omega arith in mod-lt k pos)

choose_one : {N A : Type 0} (xs : List A) (s : State N) → Giving (λ x. In x xs) (choose xs s)
choose_one [] s = tt
choose_one (x ∷ xs) s = picked x xs s s.picks

pub choose_gives : {N A : Type 0} (xs : List A) → Gives {S = State N} (λ x. In x xs) (choose xs)
choose_gives xs = record { gives = λ s. choose_one xs s }

pub stuck_gives : {S A : Type 0} (Q : A → Type 0) → Gives {S = S} Q (stop Rattle.gp_base.specs.Run.Stuck)
stuck_gives Q = record { gives = λ s. tt }

-- ---- extension ops
pub after_gives : {A : Type 0} (Q : List Value → Type 0) (m : Run World A) (k : A → Run World (List Value)) → ((a : A) → Gives Q (k a)) → Gives Q (m >>= k)
after_gives Q m k h = then_gives (λ _. Unit {0}) Q m k (no_types m) (λ a _. h a)

module _ (F : Functions) where
  truth_typed : (b : Bool) → HasType F (truth b) bool_type
  truth_typed true = tt
  truth_typed false = tt

  divide_gives : (which : Division) (a b : ℤ) → Gives (λ us. HaveTypes F us (type.Int ∷ [])) (divide which a b)
  divide_gives which a b = record { gives = λ w. go w (is_same b (Rattle.std.specs.Prelude.pos 0)) }
    where
      go : (w : World) (c : Bool) → Giving (λ us. HaveTypes F us (type.Int ∷ [])) (cond c (stop Rattle.gp_base.specs.Run.DivisionByZero) (ret (Int (divided which a b) ∷ [])) w)
      go w true = tt
      go w false = (tt, tt)

  tuple_gives : (ts : Types) (vs : List Value) → HaveTypes F vs (tuple_type ts ∷ []) → Gives (λ us. HaveTypes F us ts) (with_tuple vs ret)
  tuple_gives ts [] h = absurd h
  tuple_gives ts (Int n ∷ vs) h = absurd h.0
  tuple_gives ts (Qubit n ∷ vs) h = absurd h.0
  tuple_gives ts (Function n ∷ vs) h = absurd h.0
  tuple_gives ts (Variant zero us ∷ []) h = record { gives = λ w. let r = variant_row F (ts ∷ []) 0 us h.0 in subst (HaveTypes F (values us)) (sym (is ts r.0 r.1)) r.2 }
    where
      is : (a b : Types) → Some a ≡ Some b → a ≡ b
      is a b q = cc
  tuple_gives ts (Variant zero us ∷ v ∷ vs) h = absurd h.1
  tuple_gives ts (Variant (suc k) us ∷ vs) h = absurd (no_row F us h.0)

  abbrev Of : Types → List Value → Type 0
  Of ts us = HaveTypes F us ts

  pub extension_gives : (e : Extension) (vs : List Value) → HaveTypes F vs (extension_ins e) → Gives (λ us. HaveTypes F us (extension_outs e)) (perform_extension e vs)
  unfolding perform_extension
  extension_gives op.Alloc [] h = after_gives (Of (type.Qubit ∷ [])) allocate (λ q. ret (Qubit q ∷ [])) (λ q. record { gives = λ w. (tt, tt) })
  extension_gives op.Alloc (v ∷ vs) h = absurd h
  extension_gives op.Free vs h = qubit_case (Gives (Of [])) (stuck_gives (Of [])) vs _ (λ q. after_gives (Of []) (free q) nothing (λ _. record { gives = λ w. tt }))
  extension_gives op.MeasureFree vs h = qubit_case (Gives (Of (bool_type ∷ []))) (stuck_gives (Of (bool_type ∷ []))) vs _ (λ q. after_gives (Of (bool_type ∷ [])) (measure_free q) (λ b. ret (truth b ∷ [])) (λ b. record { gives = λ w. (truth_typed b, tt) }))
  extension_gives op.Measure vs h = qubit_case (Gives (Of (type.Qubit ∷ bool_type ∷ []))) (stuck_gives (Of (type.Qubit ∷ bool_type ∷ []))) vs _ (λ q. after_gives (Of (type.Qubit ∷ bool_type ∷ [])) (measure q) (λ b. ret (Qubit q ∷ truth b ∷ [])) (λ b. record { gives = λ w. (tt, (truth_typed b, tt)) }))
  extension_gives op.Reset vs h = qubit_case (Gives (Of (type.Qubit ∷ []))) (stuck_gives (Of (type.Qubit ∷ []))) vs _ (λ q. after_gives (Of (type.Qubit ∷ [])) (reset q) (λ _. ret (Qubit q ∷ [])) (λ _. record { gives = λ w. (tt, tt) }))
  extension_gives (op.Gate1 gate) vs h = qubit_case (Gives (Of (type.Qubit ∷ []))) (stuck_gives (Of (type.Qubit ∷ []))) vs _ (λ q. after_gives (Of (type.Qubit ∷ [])) (apply_gate (one_qubit_name gate) q) (λ _. ret (Qubit q ∷ [])) (λ _. record { gives = λ w. (tt, tt) }))
  extension_gives (op.Gate2 gate) vs h = two_qubits_case (Gives (Of (type.Qubit ∷ type.Qubit ∷ []))) (stuck_gives (Of (type.Qubit ∷ type.Qubit ∷ []))) vs _ (λ p q. after_gives (Of (type.Qubit ∷ type.Qubit ∷ [])) (apply_gate_on_two (two_qubit_name gate) p q) (λ _. ret (Qubit p ∷ Qubit q ∷ [])) (λ _. record { gives = λ w. (tt, (tt, tt)) }))
  extension_gives op.Toffoli vs h = three_qubits_case (Gives (Of (type.Qubit ∷ type.Qubit ∷ type.Qubit ∷ []))) (stuck_gives (Of (type.Qubit ∷ type.Qubit ∷ type.Qubit ∷ []))) vs _ (λ p q r. after_gives (Of (type.Qubit ∷ type.Qubit ∷ type.Qubit ∷ [])) (apply_gate_on_three name.Toffoli p q r) (λ _. ret (Qubit p ∷ Qubit q ∷ Qubit r ∷ [])) (λ _. record { gives = λ w. (tt, (tt, (tt, tt))) }))
  extension_gives (op.Rotation gate) vs h = angle_case (Gives (Of (type.Qubit ∷ []))) (stuck_gives (Of (type.Qubit ∷ []))) vs _ (λ q a. after_gives (Of (type.Qubit ∷ [])) (rotate (rotation_name gate) q a) (λ _. ret (Qubit q ∷ [])) (λ _. record { gives = λ w. (tt, tt) }))
  extension_gives (op.ResultInt tag) vs h = int_case (Gives (Of [])) (stuck_gives (Of [])) vs _ (λ a. after_gives (Of []) (does (event.ResultInt tag a)) nothing (λ _. record { gives = λ w. tt }))
  extension_gives (op.ResultBool tag) vs h = bool_case (Gives (Of [])) (stuck_gives (Of [])) vs _ (λ a. after_gives (Of []) (does (event.ResultBool tag a)) nothing (λ _. record { gives = λ w. tt }))
  extension_gives (op.Calculate which) vs h = two_ints_case (Gives (Of (type.Int ∷ []))) (stuck_gives (Of (type.Int ∷ []))) vs _ (λ a b. record { gives = λ w. (tt, tt) })
  extension_gives (op.Divide which) vs h = two_ints_case (Gives (Of (type.Int ∷ []))) (stuck_gives (Of (type.Int ∷ []))) vs _ (divide_gives which)
  extension_gives op.Negate vs h = int_case (Gives (Of (type.Int ∷ []))) (stuck_gives (Of (type.Int ∷ []))) vs _ (λ a. record { gives = λ w. (tt, tt) })
  extension_gives (op.Compare which) vs h = two_ints_case (Gives (Of (bool_type ∷ []))) (stuck_gives (Of (bool_type ∷ []))) vs _ (λ a b. record { gives = λ w. (truth_typed _, tt) })
  extension_gives op.Not vs h = bool_case (Gives (Of (bool_type ∷ []))) (stuck_gives (Of (bool_type ∷ []))) vs _ (λ a. record { gives = λ w. (truth_typed _, tt) })
  extension_gives (op.CompareBools which) vs h = two_bools_case (Gives (Of (bool_type ∷ []))) (stuck_gives (Of (bool_type ∷ []))) vs _ (λ a b. record { gives = λ w. (truth_typed _, tt) })
  extension_gives (op.Unpack types) vs h = tuple_gives types vs h

  -- a Tag of a row that there is
  pub tag_typed : (rows : List Types) (k : ℕ) (vs : List Value) (r : Types) → slice_get rows k ≡ Some r → HaveTypes F vs (ins_of (Tag rows k)) → HasType F (Variant k (packed vs)) (sum_type rows)
  tag_typed rows k vs r e h = row_variant F rows k vs r e (subst (HaveTypes F vs) (index rows k r e) h)
    where
      index : (xs : List Types) (k : ℕ) (r : Types) → slice_get xs k ≡ Some r → slice_index_or xs k [] ≡ r
      index [] k r e = absurd cc
      index (x ∷ xs) zero r e = cc
      index (x ∷ xs) (suc k) r e = index xs k r e

-- ---- what goes into a node that is run, and what comes out
abbrev pub entry_ins : Op → Types
entry_ins (FuncDefn name i o) = i
entry_ins (Case i o) = i
entry_ins (DataflowBlock i r o) = i
entry_ins kind = ins_of kind

abbrev pub exit_of : Graph → ℕ → Op → Types
exit_of g n (FuncDefn name i o) = o
exit_of g n (Case i o) = o
exit_of g n (DataflowBlock i r o) = outs_of (op_at g (parent_at g n))
exit_of g n kind = outs_of kind

pub record TypedEnter {N : Type 0} (g : Graph) (E : Enter N) : Type 0 where
  pub typed : (outer : List Open) (n : ℕ) (vs : List Value) → n < length g.nodes → HaveTypes (functions g) vs (entry_ins (op_at g n)) → Gives (λ us. HaveTypes (functions g) us (exit_of g n (op_at g n))) (E outer n vs)

pub variant_gives : {N : Type 0} (F : Functions) (Q : List Value → Type 0) (vs : List Value) (rows : List Types) (ts : Types) (go : ℕ → List Value → Run (State N) (List Value)) → HaveTypes F vs (sum_type rows ∷ ts) → ((k : ℕ) (r : Types) (us : List Value) → slice_get rows k ≡ Some r → HaveTypes F us (r ++ ts) → Gives Q (go k us)) → Gives Q (with_variant vs go)
variant_gives F Q [] rows ts go h f = record { gives = λ s. tt }
variant_gives F Q (Int n ∷ vs) rows ts go h f = record { gives = λ s. tt }
variant_gives F Q (Qubit n ∷ vs) rows ts go h f = record { gives = λ s. tt }
variant_gives F Q (Function n ∷ vs) rows ts go h f = record { gives = λ s. tt }
variant_gives F Q (Variant k us ∷ vs) rows ts go h f = let r = variant_row F rows k us h.0 in f k r.0 (values us ++ vs) r.1 (have-append F (values us) vs r.0 ts r.2 h.1)

pub function_gives : {N : Type 0} (F : Functions) (Q : List Value → Type 0) (vs : List Value) (i o ts : Types) (go : List ℕ → List Value → Run (State N) (List Value)) → HaveTypes F vs (function_type i o ∷ ts) → ((name : List ℕ) (us : List Value) → HasType F (Function name) (function_type i o) → HaveTypes F us ts → Gives Q (go name us)) → Gives Q (with_function vs go)
function_gives F Q [] i o ts go h f = record { gives = λ s. tt }
function_gives F Q (Int n ∷ vs) i o ts go h f = record { gives = λ s. tt }
function_gives F Q (Qubit n ∷ vs) i o ts go h f = record { gives = λ s. tt }
function_gives F Q (Variant k us ∷ vs) i o ts go h f = record { gives = λ s. tt }
function_gives F Q (Function name ∷ vs) i o ts go h f = f name vs h.0 h.1

pub at_node_gives : {N : Type 0} (Q : List Value → Type 0) (o : Option ℕ) (k : ℕ → Run (State N) (List Value)) → ((n : ℕ) → o ≡ Some n → Gives Q (k n)) → Gives Q (at_node o k)
at_node_gives Q None k h = record { gives = λ s. tt }
at_node_gives Q (Some n) k h = h n refl

pub at_port_gives : {N : Type 0} (Q : List Value → Type 0) (o : Option Port) (k : ℕ → Run (State N) (List Value)) → ((p : Port) → o ≡ Some p → Gives Q (k p.node)) → Gives Q (at_port o k)
at_port_gives Q None k h = record { gives = λ s. tt }
at_port_gives Q (Some p) k h = h p refl

pub option_same : {A : Type 0} (o : Option A) (x y : A) → o ≡ Some x → o ≡ Some y → x ≡ y
option_same o x y a b = cc

const_gives : {N : Type 0} (F : Functions) (kind : Op) → Gives {S = State N} (λ us. HaveTypes F us (type.Int ∷ [])) (constant kind)
const_gives F (Const n) = record { gives = λ s. (tt, tt) }
const_gives F _ = record { gives = λ s. tt }

module _ {N : Type 0} (note : Note N) (g : Graph) (V : Known g) (inside again : Enter N) (TI : TypedEnter g inside) (TA : TypedEnter g again) where
  -- a node that is run from within, or after a turn
  enters_inside : (outer : List Open) (n : ℕ) (vs : List Value) (kind : Op) → op_at g n ≡ kind → n < length g.nodes → HaveTypes (functions g) vs (entry_ins kind) → Gives (λ us. HaveTypes (functions g) us (exit_of g n kind)) (inside outer n vs)
  enters_inside outer n vs kind e l h =
      subst (λ x. Gives (λ us. HaveTypes (functions g) us (exit_of g n x)) (inside outer n vs)) e (TI.typed outer n vs l (subst (λ x. HaveTypes (functions g) vs (entry_ins x)) (sym e) h))

  enters_again : (outer : List Open) (n : ℕ) (vs : List Value) (kind : Op) → op_at g n ≡ kind → n < length g.nodes → HaveTypes (functions g) vs (entry_ins kind) → Gives (λ us. HaveTypes (functions g) us (exit_of g n kind)) (after_turn again outer n vs)
  enters_again outer n vs kind e l h =
      then_gives (λ _. Unit {0}) _ (on_world take_turn) _ (no_types _) (λ _ _. subst (λ x. Gives (λ us. HaveTypes (functions g) us (exit_of g n x)) (again outer n vs)) e (TA.typed outer n vs l (subst (λ x. HaveTypes (functions g) vs (entry_ins x)) (sym e) h)))

  stuck_op : (Q : List Value → Type 0) (kind : Op) (vs : List Value) → perform kind vs ≡ stop Rattle.gp_base.specs.Run.Stuck → Gives {S = State N} Q (on_world (perform kind vs))
  stuck_op Q kind vs e = subst (λ m. Gives {S = State N} Q (on_world m)) (sym e) (record { gives = λ s. tt })

  pub fire_gives : (outer : List Open) (n : ℕ) (vs : List Value) (kind : Op) → op_at g n ≡ kind → n < length g.nodes → HaveTypes (functions g) vs (ins_of kind) → Gives (λ us. HaveTypes (functions g) us (outs_of kind)) (fire_op note g inside again kind outer n vs)
  unfolding fire_op perform
  fire_gives outer n vs (Dfg i o) e l h = enters_inside outer n vs (Dfg i o) e l h
  fire_gives outer n vs (Conditional r i o) e l h = enters_inside outer n vs (Conditional r i o) e l h
  fire_gives outer n vs (TailLoop a b r) e l h = enters_inside outer n vs (TailLoop a b r) e l h
  fire_gives outer n vs (Cfg i o) e l h = enters_inside outer n vs (Cfg i o) e l h
  fire_gives outer n vs (Call i o) e l h =
      let c = V.calls n i o l e in
      at_port_gives _ (feeder g.links (static_input g n)) _ (λ f q.
      let same : c.0 ≡ f = option_same (feeder g.links (static_input g n)) c.0 f c.2 q in
      enters_again outer f.node vs (FuncDefn c.1 i o) (ap (λ x. op_at g x.node) (sym same) ∙ c.4) (subst (λ x. x.node < length g.nodes) same c.3) h)
  fire_gives outer n vs (CallIndirect i o) e l h =
      function_gives (functions g) _ vs i o i _ h (λ name us t ts.
      let c = names_function g name i o t in
      at_node_gives _ (callee g i o name) _ (λ f q.
      let same : c.place ≡ f = option_same (callee g i o name) c.place f c.found q in
      enters_again outer f us (FuncDefn c.name i o) (ap (op_at g) (sym same) ∙ c.is_function) (subst (λ x. x < length g.nodes) same c.is_node) ts))
  fire_gives outer n vs (LoadFunction i o) e l h =
      let c = V.loads n i o l e in
      at_port_gives _ (feeder g.links (static_input g n)) _ (λ f q.
      let same : c.0 ≡ f = option_same (feeder g.links (static_input g n)) c.0 f c.2 q in
      subst (λ x. Gives (λ us. HaveTypes (functions g) us (function_type i o ∷ [])) (name_of_function {N = N} x)) (sym (ap (λ x. op_at g x.node) (sym same) ∙ c.3))
      (record { gives = λ s. (function_typed g c.1 i o c.4, tt) }))
  fire_gives outer n vs LoadConstant e l h = at_port_gives _ (feeder g.links (static_input g n)) _ (λ c q. const_gives (functions g) (op_at g c.node))
  fire_gives outer n vs (Tag rows k) e l h =
      let t = V.tags n k rows l e in
      record { gives = λ s. (tag_typed (functions g) rows k vs t.0 t.1 h, tt) }
  fire_gives outer n vs (Ext x) e l h = on_world_gives _ (perform_extension x vs) (extension_gives (functions g) x vs h)
  fire_gives outer n vs Module e l h = record { gives = λ s. tt }
  fire_gives outer n vs (FuncDefn name i o) e l h = record { gives = λ s. tt }
  fire_gives outer n vs (Const k) e l h = record { gives = λ s. tt }
  fire_gives outer n vs (Input r) e l h = record { gives = λ s. tt }
  fire_gives outer n vs (Output r) e l h = record { gives = λ s. tt }
  fire_gives outer n vs (DataflowBlock i r o) e l h = record { gives = λ s. tt }
  fire_gives outer n vs (ExitBlock r) e l h = record { gives = λ s. tt }
  fire_gives outer n vs (Case i o) e l h = record { gives = λ s. tt }

  or_stuck_gives : (Q : List Value → Type 0) (o : Option (List Value)) → ((vs : List Value) → o ≡ Some vs → Q vs) → Gives {S = State N} Q (or_stuck o)
  or_stuck_gives Q None h = record { gives = λ s. tt }
  or_stuck_gives Q (Some vs) h = record { gives = λ s. h vs refl }

  pub firings_give : (outer : List Open) (c i o n : ℕ) (fired : List Fired) → IsRegion g c i o → Sound g c i (outs_at fired) n → Gives (λ us. HaveTypes (functions g) us (ins_of (op_at g o))) (firings note g (fire note g inside again) outer c o n fired)
  unfolding firings
  firings_give outer c i o zero fired R S =
      then_gives (λ _. Unit {0}) _ (at_moment note _) _ (no_types _) (λ _ _. or_stuck_gives _ (inputs g (outs_at fired) o) (λ vs e. typed_inputs g c i o R (outs_at fired) 0 o vs S e))
  firings_give outer c i o (suc n) fired R S =
      then_gives (λ r. In r (ready g c (outs_at fired))) _ _ _
      (then_gives (λ _. Unit {0}) _ (at_moment note _) _ (no_types _) (λ _ _. choose_gives (ready g c (outs_at fired))))
      (λ r ir. let k = In-ready g c (outs_at fired) r ir in
      then_gives (λ vs. HaveTypes (functions g) vs (outs_of (op_at g r.node))) _ _ _
      (fire_gives _ r.node r.ins (op_at g r.node) refl (child_is g c r.node (kid_is g c r.node k.0).0).0 (typed_inputs g c i o R (outs_at fired) (suc n) r.node r.ins S (k.1).pulls))
      (λ vs h. firings_give outer c i o n (record { node = r.node; outs = vs } ∷ fired) R (sound_plus g c i o R (outs_at fired) n r vs S k.0 k.1 h)))

  pub region_gives : (outer : List Open) (c : ℕ) (vs : List Value) → c < length g.nodes → is_dataflow_container (op_at g c) ≡ true → HaveTypes (functions g) vs (inner_ins (op_at g c)) → Gives (λ us. HaveTypes (functions g) us (inner_outs (op_at g c))) (region note g (fire note g inside again) outer c vs)
  unfolding region
  region_gives outer c vs l f h =
      let H = region_of g V c f (V.regions c l f) in
      at_node_gives _ (slice_get (children g c) 0) _ (λ i ei. at_node_gives _ (slice_get (children g c) 1) _ (λ o eo.
      let si : H.input ≡ i = option_same (slice_get (children g c) 0) H.input i (ap (λ x. slice_get x 0) H.list) ei in
      let so : H.output ≡ o = option_same (slice_get (children g c) 1) H.output o (ap (λ x. slice_get x 1) H.list) eo in
      let R = is_region g V c l f H in
      let t : HaveTypes (functions g) vs (outs_of (op_at g H.input)) = subst (HaveTypes (functions g) vs) (sym (ap outs_of H.input_op)) h in
      let S = sound_start g c H.input H.output R vs t in
      subst (λ x. Gives (λ us. HaveTypes (functions g) us (inner_outs (op_at g c))) (firings note g (fire note g inside again) outer c o (length (firing_children g c)) (record { node = x; outs = vs } ∷ []))) si
      (subst (λ x. Gives (λ us. HaveTypes (functions g) us (inner_outs (op_at g c))) (firings note g (fire note g inside again) outer c x (length (firing_children g c)) (record { node = H.input; outs = vs } ∷ []))) so
      (subst (λ x. Gives (λ us. HaveTypes (functions g) us x) (firings note g (fire note g inside again) outer c H.output (length (firing_children g c)) (record { node = H.input; outs = vs } ∷ []))) (ap ins_of H.output_op)
      (firings_give outer c H.input H.output (length (firing_children g c)) (record { node = H.input; outs = vs } ∷ []) R S)))))

  pub region_at : (outer : List Open) (n : ℕ) (vs : List Value) (kind : Op) → op_at g n ≡ kind → n < length g.nodes → is_dataflow_container kind ≡ true → HaveTypes (functions g) vs (inner_ins kind) → Gives (λ us. HaveTypes (functions g) us (inner_outs kind)) (region note g (fire note g inside again) outer n vs)
  region_at outer n vs kind e l f h =
      subst (λ x. Gives (λ us. HaveTypes (functions g) us (inner_outs x)) (region note g (fire note g inside again) outer n vs)) e (region_gives outer n vs l (ap is_dataflow_container e ∙ f) (subst (λ x. HaveTypes (functions g) vs (inner_ins x)) (sym e) h))

  cond_gives : (Q : List Value → Type 0) (b : Bool) (x y : Run (State N) (List Value)) → Gives Q x → Gives Q y → Gives Q (cond b x y)
  cond_gives Q true x y hx hy = hx
  cond_gives Q false x y hx hy = hy

  jump_gives : (outer : List Open) (n m : ℕ) (vs : List Value) (kind : Op) → op_at g m ≡ kind → m < length g.nodes → is_block kind ≡ true → HaveTypes (functions g) vs (block_ins kind) → Gives (λ us. HaveTypes (functions g) us (outs_of (op_at g (parent_at g m)))) (jump note g inside again kind outer n m vs)
  jump_gives outer n m vs (ExitBlock r) e l k h = record { gives = λ s. subst (HaveTypes (functions g) vs) (V.exits m r l e) h }
  jump_gives outer n m vs (DataflowBlock i rs o) e l k h =
      cond_gives (λ us. HaveTypes (functions g) us (exit_of g m (DataflowBlock i rs o))) (ltb n m) _ _ (enters_inside outer m vs (DataflowBlock i rs o) e l h) (enters_again outer m vs (DataflowBlock i rs o) e l h)
  jump_gives outer n m vs _ e l k h = absurd cc

  round_gives : (outer : List Open) (n : ℕ) (a lv rs : Types) (k : ℕ) (r : Types) (us : List Value) → op_at g n ≡ TailLoop a lv rs → n < length g.nodes → slice_get (a ∷ lv ∷ []) k ≡ Some r → HaveTypes (functions g) us (r ++ rs) → Gives (λ vs. HaveTypes (functions g) vs (lv ++ rs)) (after_round note g again outer n k us)
  round_gives outer n a lv rs zero r us e l q h = enters_again outer n us (TailLoop a lv rs) e l (subst (λ x. HaveTypes (functions g) us (x ++ rs)) (option_same (Some a) r a q refl) h)
  round_gives outer n a lv rs (suc zero) r us e l q h = record { gives = λ s. subst (λ x. HaveTypes (functions g) us (x ++ rs)) (option_same (Some lv) r lv q refl) h }
  round_gives outer n a lv rs (suc (suc k)) r us e l q h = record { gives = λ s. tt }

  pub enter_op_gives : (outer : List Open) (n : ℕ) (vs : List Value) (kind : Op) → op_at g n ≡ kind → n < length g.nodes → HaveTypes (functions g) vs (entry_ins kind) → Gives (λ us. HaveTypes (functions g) us (exit_of g n kind)) (enter_op note g inside again kind outer n vs)
  unfolding enter_op
  enter_op_gives outer n vs (FuncDefn name i o) e l h = region_at outer n vs (FuncDefn name i o) e l refl h
  enter_op_gives outer n vs (Dfg i o) e l h = region_at outer n vs (Dfg i o) e l refl h
  enter_op_gives outer n vs (Case i o) e l h = region_at outer n vs (Case i o) e l refl h
  enter_op_gives outer n vs (Conditional rows i o) e l h =
      variant_gives (functions g) _ vs rows i _ h (λ k r us q t.
      at_node_gives _ (slice_get (children g n) k) _ (λ c ec.
      let C = V.cases n k rows r i o l e q in
      let same : C.case ≡ c = option_same (slice_get (children g n) k) C.case c C.is_child ec in
      enters_inside outer c us (Case (r ++ i) o) (ap (op_at g) (sym same) ∙ C.case_is) (child_is g n c (get_in (children g n) k c ec)).0 t))
  enter_op_gives outer n vs (TailLoop a lv rs) e l h =
      then_gives _ _ (region note g (fire note g inside again) outer n vs) _ (region_at outer n vs (TailLoop a lv rs) e l refl h)
      (λ us t. variant_gives (functions g) _ us (a ∷ lv ∷ []) rs _ t (λ k r xs q u. round_gives outer n a lv rs k r xs e l q u))
  enter_op_gives outer n vs (Cfg i o) e l h =
      at_node_gives _ (slice_get (children g n) 0) _ (λ b eb.
      let B = V.first_blocks n i o l e in
      let same : B.entry ≡ b = option_same (slice_get (children g n) 0) B.entry b (ap (λ x. slice_get x 0) B.are_children) eb in
      let c = child_is g n b (get_in (children g n) 0 b eb) in
      subst (λ z. Gives (λ us. HaveTypes (functions g) us z) (inside outer b vs)) (ap (λ x. outs_of (op_at g x)) c.1 ∙ ap outs_of e)
      (enters_inside outer b vs (DataflowBlock i B.rows B.others) (ap (op_at g) (sym same) ∙ B.entry_is) c.0 h))
  enter_op_gives outer n vs (DataflowBlock i rows o) e l h =
      then_gives _ _ (region note g (fire note g inside again) outer n vs) _ (region_at outer n vs (DataflowBlock i rows o) e l refl h)
      (λ us t. variant_gives (functions g) _ us rows o _ t (λ k r xs q u.
      at_port_gives _ (taker g.links (record { node = n; index = k })) _ (λ m em.
      let L = V.controls n k i rows o r l e q in
      let same : L.block ≡ m = option_same (taker g.links (record { node = n; index = k })) L.block m L.at em in
      subst (λ x. Gives (λ us. HaveTypes (functions g) us (outs_of (op_at g x))) (jump note g inside again (op_at g m.node) outer n m.node xs)) (ap (λ x. parent_at g x.node) (sym same) ∙ L.together)
      (jump_gives outer n m.node xs (op_at g m.node) refl (subst (λ x. x.node < length g.nodes) same L.is_in) (ap (λ x. is_block (op_at g x.node)) (sym same) ∙ L.is_one)
      (subst (HaveTypes (functions g) xs) (sym L.fits ∙ ap (λ x. block_ins (op_at g x.node)) same) u)))))
  enter_op_gives outer n vs _ e l h = record { gives = λ s. tt }

module _ {N : Type 0} (note : Note N) (g : Graph) (V : Known g) where
  pub level_typed : (again : Enter N) → TypedEnter g again → (d : ℕ) → TypedEnter g (level note g again d)
  level_typed again TA zero = record { typed = λ outer n vs l h. record { gives = λ s. tt } }
  level_typed again TA (suc d) = record { typed = λ outer n vs l h. enter_op_gives note g V (level note g again d) again (level_typed again TA d) TA outer n vs (op_at g n) refl l h }

  pub resume_typed : (t : ℕ) → TypedEnter g (resume note g t)
  resume_typed zero = record { typed = λ outer n vs l h. record { gives = λ s. tt } }
  resume_typed (suc t) = record { typed = λ outer n vs l h. (level_typed (resume note g t) (resume_typed t) (length g.nodes)).typed outer n vs l h }
