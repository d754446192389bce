-- The whole numbers of a run have 64 bits, of whatever graph.
use Rattle.std.proofs.Common.{◌≡◌, ℕ, zero, suc, ℤ, Bool, true, false, cond, ltb, List, [], ◌∷◌, ◌++◌, length, Option, Some, None, refl, sym, ap, ◌∙◌, subst}
use Rattle.std.specs.Prelude.{slice_get, pos, ◌==◌, not, FitsSigned}
use Rattle.std.specs.Int.{w64}
use Rattle.std.proofs.lemmas.Int.{SFits-int_wrap}
use Rattle.gp_base.specs.Number.{is_same, negated}
use Rattle.gp_base.specs.Run.{Run, Out, Returned, Stopped, DivisionByZero, Stuck, ◌>>=◌, ret, stop, or_stuck}
use Rattle.gp_base.specs.declared.event.Event.TheVariants as event
use Rattle.gp_base.specs.declared.event.GateName.TheVariants as name
use Rattle.gp_base.specs.World.{World, allocate, free, measure, measure_free, reset, apply_gate, apply_gate_on_two, apply_gate_on_three, rotate, does, take_turn}
use Rattle.gp_base.specs.Membership.{In}
use Rattle.hg_ops.specs.Op as op
use Rattle.hg_ops.specs.Op.{Op, Extension, Arithmetic, Division, one_qubit_name, two_qubit_name, rotation_name, FuncDefn, Const, Dfg, Cfg, DataflowBlock, ExitBlock, Conditional, Case, TailLoop, Tag, Call, CallIndirect, LoadConstant, LoadFunction, Ext, ins_of}
use Rattle.hg_graph.specs.Graph.{Graph, Link, Port, op_at, children, firing_children, feeder, taker, static_input}
use Rattle.hg_graph.specs.Run.{Fired, Open, Look, outs_at, value_at, value_of, cons_both, pulled, inputs, ready, with_tuple, nothing, divide, divided, calculated, compared, compared_bools, perform_extension, perform, State, Note, no_note, with_world, on_world, choose, at_moment, Enter, at_node, at_port, with_variant, with_function, name_of_function, constant, after_turn, fire_op, fire, firings, region, after_round, jump, enter_op, level, resume, runs, world_out, run_function, graph_run}
use Rattle.hg_graph.specs.Value.{Value, Int, Qubit, Variant, Function, Values, no_values, value, values, packed, truth, callee}
use Rattle.hg_laws.specs.Fits.{Fits, PackedFit, AllFit, ReturnsFitting, ConstantsFit, NumbersFit}
use Rattle.hg_laws.proofs.Runs.{Giving, Gives, then_gives, no_types, on_world_gives}
use Rattle.hg_laws.proofs.Matches.{qubit_case, two_qubits_case, three_qubits_case, angle_case, int_case, two_ints_case, bool_case, two_bools_case}
use Rattle.hg_laws.proofs.Looks.{In-ready}
use Rattle.hg_laws.proofs.Typed.{choose_gives, stuck_gives, after_gives, at_node_gives, at_port_gives}

-- ---- values
values_fit : (vs : Values) → PackedFit vs → AllFit (values vs)
values_fit no_values h = tt
values_fit (value v vs) h = (h.0, values_fit vs h.1)

packed_fit : (vs : List Value) → AllFit vs → PackedFit (packed vs)
packed_fit [] h = tt
packed_fit (v ∷ vs) h = (h.0, packed_fit vs h.1)

both_fit : (us vs : List Value) → AllFit us → AllFit vs → AllFit (us ++ vs)
both_fit [] vs h k = k
both_fit (u ∷ us) vs h k = (h.0, both_fit us vs h.1 k)

truth_fits : (b : Bool) → Fits (truth b)
truth_fits b = tt

-- ---- what is read of nodes that have fired
abbrev LooksFit : Look → Type 0
LooksFit look = (n : ℕ) (vs : List Value) → look n ≡ Some vs → AllFit vs

get_fits : (vs : List Value) → AllFit vs → (p : ℕ) (v : Value) → slice_get vs p ≡ Some v → Fits v
get_fits [] h p v e = absurd cc
get_fits (u ∷ us) h zero v e = subst Fits (is u v e) h.0
  where
    is : (a b : Value) → Some a ≡ Some b → a ≡ b
    is a b e = cc
get_fits (u ∷ us) h (suc p) v e = get_fits us h.1 p v e

module _ (look : Look) (L : LooksFit look) where
  value_fits : (from : Option Port) (v : Value) → value_of look from ≡ Some v → Fits v
  value_fits None v e = absurd cc
  value_fits (Some from) v e = at (look from.node) refl e
    where
      at : (o : Option (List Value)) → look from.node ≡ o → value_at o from.index ≡ Some v → Fits v
      at None q e = absurd cc
      at (Some vs) q e = get_fits vs (L from.node vs q) from.index v e

  pulled_fit : (links : List Link) (n p count : ℕ) (vs : List Value) → pulled links look n p count ≡ Some vs → AllFit vs
  pulled_fit links n p zero vs e = subst AllFit (is [] vs e) tt
    where
      is : (a b : List Value) → Some a ≡ Some b → a ≡ b
      is a b e = cc
  pulled_fit links n p (suc count) vs e =
      both (value_of look (feeder links (record { node = n; index = p }))) (pulled links look n (suc p) count) refl refl e (λ us r. pulled_fit links n (suc p) count us r)
    where
      is : (a b : List Value) → Some a ≡ Some b → a ≡ b
      is a b e = cc

      both : (o : Option Value) (os : Option (List Value)) → value_of look (feeder links (record { node = n; index = p })) ≡ o
          → pulled links look n (suc p) count ≡ os → cons_both o os ≡ Some vs
          → ((us : List Value) → pulled links look n (suc p) count ≡ Some us → AllFit us) → AllFit vs
      both None os q r e rest = absurd cc
      both (Some v) None q r e rest = absurd cc
      both (Some v) (Some us) q r e rest =
          let h : AllFit (v ∷ us) = (value_fits (feeder links (record { node = n; index = p })) v q, rest us r) in
          subst AllFit (is (v ∷ us) vs e) h

  inputs_fit : (g : Graph) (n : ℕ) (vs : List Value) → inputs g look n ≡ Some vs → AllFit vs
  unfolding inputs
  inputs_fit g n vs e = pulled_fit g.links n 0 (length (ins_of (op_at g n))) vs e

abbrev FiredFit : List Fired → Type 0
FiredFit [] = Unit {0}
FiredFit (f ∷ fired) = AllFit f.outs × FiredFit fired

outs_fit : (fired : List Fired) → FiredFit fired → LooksFit (outs_at fired)
outs_fit [] h n vs e = absurd cc
outs_fit (f ∷ fired) h n vs e = at (f.node == n) e (λ k. outs_fit fired h.1 n vs k)
  where
    is : (a b : List Value) → Some a ≡ Some b → a ≡ b
    is a b e = cc

    at : (b : Bool) → cond b (Some f.outs) (outs_at fired n) ≡ Some vs → (outs_at fired n ≡ Some vs → AllFit vs) → AllFit vs
    at true e rest = subst AllFit (is f.outs vs e) h.0
    at false e rest = rest e

-- ---- ops without a region
abbrev P : Run World (List Value) → Type 0
P m = Gives AllFit m

no : P (stop Stuck)
no = stuck_gives AllFit

returns : (vs : List Value) → AllFit vs → P (ret vs)
returns vs h = record { gives = λ w. h }

calculated_fits : (which : Arithmetic) (a b : ℤ) → FitsSigned w64 (calculated which a b)
calculated_fits op.Add a b = SFits-int_wrap w64 _
calculated_fits op.Sub a b = SFits-int_wrap w64 _
calculated_fits op.Mul a b = SFits-int_wrap w64 _

divided_fits : (which : Division) (a b : ℤ) → FitsSigned w64 (divided which a b)
divided_fits op.FloorDiv a b = SFits-int_wrap w64 _
divided_fits op.Mod a b = SFits-int_wrap w64 _

divide_gives : (which : Division) (a b : ℤ) → P (divide which a b)
divide_gives which a b = record { gives = λ w. go w (is_same b (pos 0)) }
  where
    go : (w : World) (c : Bool) → Giving AllFit (cond c (stop DivisionByZero) (ret (Int (divided which a b) ∷ [])) w)
    go w true = tt
    go w false = (divided_fits which a b, tt)

tuple_gives : (vs : List Value) → AllFit vs → P (with_tuple vs ret)
tuple_gives (Variant zero us ∷ []) h = returns (values us) (values_fit us h.0)
tuple_gives _ h = no

extension_gives : (e : Extension) (vs : List Value) → AllFit vs → P (perform_extension e vs)
unfolding perform_extension
extension_gives op.Alloc [] h = after_gives AllFit allocate (λ q. ret (Qubit q ∷ [])) (λ q. returns (Qubit q ∷ []) (tt, tt))
extension_gives op.Alloc (v ∷ vs) h = no
extension_gives op.Free vs h = qubit_case P no vs _ (λ q. after_gives AllFit (free q) nothing (λ _. returns [] tt))
extension_gives op.MeasureFree vs h = qubit_case P no vs _ (λ q. after_gives AllFit (measure_free q) (λ b. ret (truth b ∷ [])) (λ b. returns (truth b ∷ []) (truth_fits b, tt)))
extension_gives op.Measure vs h = qubit_case P no vs _ (λ q. after_gives AllFit (measure q) (λ b. ret (Qubit q ∷ truth b ∷ [])) (λ b. returns (Qubit q ∷ truth b ∷ []) (tt, (truth_fits b, tt))))
extension_gives op.Reset vs h = qubit_case P no vs _ (λ q. after_gives AllFit (reset q) (λ _. ret (Qubit q ∷ [])) (λ _. returns (Qubit q ∷ []) (tt, tt)))
extension_gives (op.Gate1 gate) vs h = qubit_case P no vs _ (λ q. after_gives AllFit (apply_gate (one_qubit_name gate) q) (λ _. ret (Qubit q ∷ [])) (λ _. returns (Qubit q ∷ []) (tt, tt)))
extension_gives (op.Gate2 gate) vs h = two_qubits_case P no vs _ (λ p q. after_gives AllFit (apply_gate_on_two (two_qubit_name gate) p q) (λ _. ret (Qubit p ∷ Qubit q ∷ [])) (λ _. returns (Qubit p ∷ Qubit q ∷ []) (tt, (tt, tt))))
extension_gives op.Toffoli vs h = three_qubits_case P no vs _ (λ p q r. after_gives AllFit (apply_gate_on_three name.Toffoli p q r) (λ _. ret (Qubit p ∷ Qubit q ∷ Qubit r ∷ [])) (λ _. returns (Qubit p ∷ Qubit q ∷ Qubit r ∷ []) (tt, (tt, (tt, tt)))))
extension_gives (op.Rotation gate) vs h = angle_case P no vs _ (λ q a. after_gives AllFit (rotate (rotation_name gate) q a) (λ _. ret (Qubit q ∷ [])) (λ _. returns (Qubit q ∷ []) (tt, tt)))
extension_gives (op.ResultInt tag) vs h = int_case P no vs _ (λ a. after_gives AllFit (does (event.ResultInt tag a)) nothing (λ _. returns [] tt))
extension_gives (op.ResultBool tag) vs h = bool_case P no vs _ (λ a. after_gives AllFit (does (event.ResultBool tag a)) nothing (λ _. returns [] tt))
extension_gives (op.Calculate which) vs h = two_ints_case P no vs _ (λ a b. returns (Int (calculated which a b) ∷ []) (calculated_fits which a b, tt))
extension_gives (op.Divide which) vs h = two_ints_case P no vs _ (divide_gives which)
extension_gives op.Negate vs h = int_case P no vs _ (λ a. returns (Int (negated a) ∷ []) (SFits-int_wrap w64 _, tt))
extension_gives (op.Compare which) vs h = two_ints_case P no vs _ (λ a b. returns (truth (compared which a b) ∷ []) (tt, tt))
extension_gives op.Not vs h = bool_case P no vs _ (λ a. returns (truth (not a) ∷ []) (tt, tt))
extension_gives (op.CompareBools which) vs h = two_bools_case P no vs _ (λ a b. returns (truth (compared_bools which a b) ∷ []) (tt, tt))
extension_gives (op.Unpack types) vs h = tuple_gives vs h

perform_gives : (kind : Op) (vs : List Value) → AllFit vs → P (perform kind vs)
unfolding perform
perform_gives (Ext e) vs h = extension_gives e vs h
perform_gives (Tag rows k) vs h = returns (Variant k (packed vs) ∷ []) (packed_fit vs h, tt)
perform_gives _ vs h = no

-- ---- runs
abbrev F : {N : Type 0} → Run (State N) (List Value) → Type 0
F m = Gives AllFit m

stuck : {N : Type 0} → F {N = N} (stop Stuck)
stuck = stuck_gives AllFit

record FitsEnter {N : Type 0} (E : Enter N) : Type 0 where
  fits : (outer : List Open) (n : ℕ) (vs : List Value) → AllFit vs → F (E outer n vs)

variant_fits : {N : Type 0} (vs : List Value) (k : ℕ → List Value → Run (State N) (List Value)) → AllFit vs
    → ((n : ℕ) (us : List Value) → AllFit us → F (k n us)) → F (with_variant vs k)
variant_fits (Variant n us ∷ vs) k h f = f n (values us ++ vs) (both_fit (values us) vs (values_fit us h.0) h.1)
variant_fits _ k h f = stuck

function_fits : {N : Type 0} (vs : List Value) (k : List ℕ → List Value → Run (State N) (List Value)) → AllFit vs
    → ((name : List ℕ) (us : List Value) → AllFit us → F (k name us)) → F (with_function vs k)
function_fits (Function name ∷ vs) k h f = f name vs h.1
function_fits _ k h f = stuck

name_fits : {N : Type 0} (kind : Op) → F {N = N} (name_of_function kind)
name_fits (FuncDefn name i o) = record { gives = λ s. (tt, tt) }
name_fits _ = stuck

or_stuck_fits : {N : Type 0} (o : Option (List Value)) → ((vs : List Value) → o ≡ Some vs → AllFit vs) → F {N = N} (or_stuck o)
or_stuck_fits None h = stuck
or_stuck_fits (Some vs) h = record { gives = λ s. h vs refl }

module _ {N : Type 0} (note : Note N) (g : Graph) (C : ConstantsFit g) where
  const_fits : (n : ℕ) → F {N = N} (constant (op_at g n))
  const_fits n = go (op_at g n) refl
    where
      go : (kind : Op) → op_at g n ≡ kind → F {N = N} (constant kind)
      go (Const k) e = record { gives = λ s. (C n k e, tt) }
      go _ e = stuck

  module _ (inside again : Enter N) (FI : FitsEnter inside) (FA : FitsEnter again) where
    turn_fits : (outer : List Open) (n : ℕ) (vs : List Value) → AllFit vs → F (after_turn again outer n vs)
    turn_fits outer n vs h = then_gives (λ _. Unit {0}) AllFit (on_world take_turn) _ (no_types _) (λ _ _. FA.fits outer n vs h)

    fire_fits : (kind : Op) (outer : List Open) (n : ℕ) (vs : List Value) → AllFit vs → F (fire_op note g inside again kind outer n vs)
    unfolding fire_op
    fire_fits (Dfg i o) outer n vs h = FI.fits outer n vs h
    fire_fits (Conditional r i o) outer n vs h = FI.fits outer n vs h
    fire_fits (TailLoop a l r) outer n vs h = FI.fits outer n vs h
    fire_fits (Cfg i o) outer n vs h = FI.fits outer n vs h
    fire_fits (Call i o) outer n vs h = at_port_gives AllFit (feeder g.links (static_input g n)) _ (λ f _. turn_fits outer f.node vs h)
    fire_fits (CallIndirect i o) outer n vs h =
        function_fits vs _ h (λ name us k. at_node_gives AllFit (callee g i o name) _ (λ f _. turn_fits outer f us k))
    fire_fits (LoadFunction i o) outer n vs h = at_port_gives AllFit (feeder g.links (static_input g n)) _ (λ f _. name_fits (op_at g f.node))
    fire_fits LoadConstant outer n vs h = at_port_gives AllFit (feeder g.links (static_input g n)) _ (λ c _. const_fits c.node)
    fire_fits kind outer n vs h = on_world_gives AllFit (perform kind vs) (perform_gives kind vs h)

    firings_fit : (outer : List Open) (c o n : ℕ) (fired : List Fired) → FiredFit fired → F (firings note g (fire note g inside again) outer c o n fired)
    unfolding firings
    firings_fit outer c o zero fired h =
        then_gives (λ _. Unit {0}) AllFit (at_moment note _) _ (no_types _) (λ _ _.
        or_stuck_fits (inputs g (outs_at fired) o) (λ vs e. inputs_fit (outs_at fired) (outs_fit fired h) g o vs e))
    firings_fit outer c o (suc n) fired h =
        then_gives (λ r. In r (ready g c (outs_at fired))) AllFit _ _
        (then_gives (λ _. Unit {0}) _ (at_moment note _) _ (no_types _) (λ _ _. choose_gives (ready g c (outs_at fired))))
        (λ r i. then_gives AllFit AllFit _ _
        (fire_fits (op_at g r.node) _ r.node r.ins (inputs_fit (outs_at fired) (outs_fit fired h) g r.node r.ins ((In-ready g c (outs_at fired) r i).1).pulls))
        (λ vs k. firings_fit outer c o n (record { node = r.node; outs = vs } ∷ fired) (k, h)))

    region_fits : (outer : List Open) (c : ℕ) (vs : List Value) → AllFit vs → F (region note g (fire note g inside again) outer c vs)
    unfolding region
    region_fits outer c vs h =
        at_node_gives AllFit (slice_get (children g c) 0) _ (λ i _. at_node_gives AllFit (slice_get (children g c) 1) _ (λ o _.
        firings_fit outer c o (length (firing_children g c)) (record { node = i; outs = vs } ∷ []) (h, tt)))

    round_fits : (outer : List Open) (n k : ℕ) (vs : List Value) → AllFit vs → F (after_round note g again outer n k vs)
    round_fits outer n zero vs h = turn_fits outer n vs h
    round_fits outer n (suc zero) vs h = record { gives = λ s. h }
    round_fits outer n (suc (suc k)) vs h = stuck

    cond_fits : (b : Bool) (x y : Run (State N) (List Value)) → F x → F y → F (cond b x y)
    cond_fits true x y hx hy = hx
    cond_fits false x y hx hy = hy

    jump_fits : (kind : Op) (outer : List Open) (n m : ℕ) (vs : List Value) → AllFit vs → F (jump note g inside again kind outer n m vs)
    jump_fits (ExitBlock r) outer n m vs h = record { gives = λ s. h }
    jump_fits _ outer n m vs h = cond_fits (ltb n m) _ _ (FI.fits outer m vs h) (turn_fits outer m vs h)

    enter_op_fits : (kind : Op) (outer : List Open) (n : ℕ) (vs : List Value) → AllFit vs → F (enter_op note g inside again kind outer n vs)
    unfolding enter_op
    enter_op_fits (FuncDefn name i o) outer n vs h = region_fits outer n vs h
    enter_op_fits (Dfg i o) outer n vs h = region_fits outer n vs h
    enter_op_fits (Case i o) outer n vs h = region_fits outer n vs h
    enter_op_fits (Conditional r i o) outer n vs h =
        variant_fits vs _ h (λ k us e. at_node_gives AllFit (slice_get (children g n) k) _ (λ c _. FI.fits outer c us e))
    enter_op_fits (TailLoop a l r) outer n vs h =
        then_gives AllFit AllFit _ _ (region_fits outer n vs h) (λ us e. variant_fits us _ e (λ k xs u. round_fits outer n k xs u))
    enter_op_fits (Cfg i o) outer n vs h = at_node_gives AllFit (slice_get (children g n) 0) _ (λ b _. FI.fits outer b vs h)
    enter_op_fits (DataflowBlock i r o) outer n vs h =
        then_gives AllFit AllFit _ _ (region_fits outer n vs h) (λ us e. variant_fits us _ e (λ k xs u.
        at_port_gives AllFit (taker g.links (record { node = n; index = k })) _ (λ m _. jump_fits (op_at g m.node) outer n m.node xs u)))
    enter_op_fits _ outer n vs h = stuck

  level_fits : (again : Enter N) → FitsEnter again → (d : ℕ) → FitsEnter (level note g again d)
  level_fits again FA zero = record { fits = λ outer n vs h. stuck }
  level_fits again FA (suc d) = record { fits = λ outer n vs h. enter_op_fits (level note g again d) again (level_fits again FA d) FA (op_at g n) outer n vs h }

  resume_fits : (t : ℕ) → FitsEnter (resume note g t)
  resume_fits zero = record { fits = λ outer n vs h. stuck }
  resume_fits (suc t) = record { fits = λ outer n vs h. (level_fits (resume note g t) (resume_fits t) (length g.nodes)).fits outer n vs h }

fitting : (o : Out (State (Unit {0})) (List Value)) → Giving AllFit o → ReturnsFitting (world_out o)
fitting (Returned vs s) h = h
fitting (Stopped e s) h = tt

pub numbers_fit_lem : NumbersFit
unfolding graph_run run_function runs
numbers_fit_lem g C f vs h w picks =
    let s : State (Unit {0}) = record { world = w; picks = picks; notes = tt } in
    fitting (resume no_note g (suc w.turns) [] f vs s) (((resume_fits no_note g C (suc w.turns)).fits [] f vs h).gives s)
