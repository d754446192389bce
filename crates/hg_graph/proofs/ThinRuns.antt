-- The run of a thin graph.
use Rattle.std.proofs.Common.{◌≡◌, ◌≢◌, inl, inr, ℕ, suc, ◌+◌, ◌<◌, ◌≤◌, Bool, true, false, cond, eqb, eq-eqb, ne_eqb, List, [], ◌∷◌, ◌++◌, length, map, drop, Some, None, is_some, slice_get, append_assoc, refl, ap, ap₂, ◌∙◌, subst, arith}
use Rattle.std.proofs.Math.Seq.{drop-nil}
use Rattle.std.proofs.lemmas.Bool.Decides.{eqb_tells}
use Rattle.gp_base.specs.declared.event.Event.{Event}
use Rattle.gp_base.specs.declared.event.Event.TheVariants as event
use Rattle.gp_base.specs.Run.{Out, Returned, or_stuck}
use Rattle.gp_base.specs.World.{World, next, is_live, ended, did}
use Rattle.hg_ops.specs.GraphType as type
use Rattle.hg_ops.specs.Op as op
use Rattle.hg_ops.specs.Op.{Op, Extension, Ext, ins_of, extension_ins}
use Rattle.hg_graph.specs.Graph.{Graph, op_at, children, firing_children, numbers, feeder}
use Rattle.hg_graph.specs.Value.{Value, Qubit}
use Rattle.hg_graph.specs.Run.{State, no_note, Enter, outs_at, has_fired, Fired, at_node, perform_extension, fire, firings, region, enter_op, level, resume, runs, run_function}
use Rattle.hg_graph.specs.Thin.{ThinGate, H, X, gate_op, gate_name, in_main, thin_graph, thin_after, ThinGraphsRun}
use Rattle.hg_graph.proofs.ThinNumbers.{length-numbers}
use Rattle.hg_graph.proofs.ThinLinks.{first_port, feeder-chain}
use Rattle.hg_graph.proofs.ThinNodes.{node_of, after_first, length-after_first, children-thin, firing_children-thin, left_next, left_within, op_at-left, op_at-first}
use Rattle.hg_graph.proofs.ThinSteps.{InChain, ready_one, no_inputs, one_input, plain_state, extension_fires, one_step}

-- ---- qubits

pub is_live-new : (flags : List Bool) → is_live (flags ++ true ∷ []) (length flags) ≡ true
is_live-new [] = refl
is_live-new (flag ∷ flags) = is_live-new flags

pub ended-new : (flags : List Bool) → ended (flags ++ true ∷ []) (length flags) ≡ flags ++ false ∷ []
ended-new [] = refl
ended-new (flag ∷ flags) = ap (λ fs. flag ∷ fs) (ended-new flags)

-- the op of a gate
abbrev gate_extension : ThinGate → Extension
gate_extension H = op.Gate1 op.H
gate_extension X = op.Gate1 op.X

gate_is : (gate : ThinGate) → gate_op gate ≡ Ext (gate_extension gate)
gate_is H = refl
gate_is X = refl

gate_performs : (gate : ThinGate) (q : ℕ) (w : World) → is_live w.flags q ≡ true → perform_extension (gate_extension gate) (Qubit q ∷ []) w ≡ Returned (Qubit q ∷ []) (did (event.Gate1 (gate_name gate) q) w)
unfolding perform_extension
gate_performs H q w l = rw l
gate_performs X q w l = rw l

free_performs : (q : ℕ) (w : World) → is_live w.flags q ≡ true → perform_extension op.Free (Qubit q ∷ []) w ≡ Returned [] (did (event.Free q) (record w { flags = ended w.flags q }))
unfolding perform_extension
free_performs q w l = rw l

alloc_performs : (w : World) → perform_extension op.Alloc [] w ≡ Returned (Qubit (next w) ∷ []) (did (event.Alloc (next w)) (record w { flags = w.flags ++ true ∷ [] }))
unfolding perform_extension
alloc_performs w = refl

-- ---- what has fired

-- The nodes from 4 to `last` have fired, and `last` gave the qubit.
pub record HasReached (last q : ℕ) (fired : List Fired) : Type 0 where
  pub before : (n : ℕ) → 4 ≤ n → n ≤ last → has_fired (outs_at fired) n ≡ true
  pub after : (n : ℕ) → last < n → has_fired (outs_at fired) n ≡ false
  pub gave : outs_at fired last ≡ Some (Qubit q ∷ [])

-- `Input` alone has
abbrev entered : List Fired
entered = record { node = 2; outs = [] } ∷ []

-- once the next one has fired
reaches : (g : Graph) (count node q : ℕ) (fired : List Fired) → InChain g count node (outs_at fired) → HasReached node q (record { node = node; outs = Qubit q ∷ [] } ∷ fired)
reaches g count node q fired c = record {
  before = λ n l b. elim (eqb_tells node n) [ inl e ↦ seen n true e.0 | inr e ↦ seen n false e.0 ∙ c.before n l (below e.1 b) ];
  after = λ n l. seen n false (ne_eqb node n (λ e. absurd (omega arith))) ∙ c.after n (omega arith);
  gave = ap (λ b. cond b (Some (Qubit q ∷ [])) (outs_at fired node)) (eq-eqb node node refl);
}
  where
    seen : (n : ℕ) (b : Bool) → eqb node n ≡ b → has_fired (outs_at (record { node = node; outs = Qubit q ∷ [] } ∷ fired)) n ≡ is_some (cond b (Some (Qubit q ∷ [])) (outs_at fired n))
    seen n b e = ap (λ b. is_some (cond b (Some (Qubit q ∷ [])) (outs_at fired n))) e

    below : {n : ℕ} → node ≢ n → n ≤ node → n < node
    below ne l = omega arith

starts_in_chain : (gates : List ThinGate) → InChain (thin_graph gates) (suc (length gates)) 4 (outs_at entered)
unfolding thin_graph
starts_in_chain gates = record {
  links = refl;
  children = firing_children-thin gates;
  before = λ n l b. absurd (omega arith);
  after = λ n l. ap (λ b. is_some {T = List Value} (cond b (Some []) None)) (ne_eqb 2 n (λ e. absurd (omega arith)));
}

goes_in_chain : (gates : List ThinGate) (last q : ℕ) (fired : List Fired) → HasReached last q fired → InChain (thin_graph gates) (suc (length gates)) (suc last) (outs_at fired)
unfolding thin_graph
goes_in_chain gates last q fired h = record {
  links = refl;
  children = firing_children-thin gates;
  before = λ n l b. h.before n l (omega arith);
  after = λ n l. h.after n l;
}

-- ---- the firings behind the first

feeder-thin : (gates : List ThinGate) (i : ℕ) → i < suc (length gates) → feeder (thin_graph gates).links (first_port (node_of (suc i))) ≡ Some (first_port (node_of i))
unfolding thin_graph
feeder-thin gates i l = feeder-chain (node_of i) 4 (suc (length gates)) (omega arith) (omega arith)

abbrev left_to_fire : Enter (Unit {0}) → List ThinGate → ℕ → List Fired → World → List ℕ → Out (State (Unit {0})) (List Value)
left_to_fire enter gates count fired w picks = firings no_note (thin_graph gates) enter [] 1 3 count fired (plain_state w picks)

-- what fires a node
abbrev fires_by : Enter (Unit {0}) → Enter (Unit {0}) → List ThinGate → Enter (Unit {0})
fires_by inside again gates = fire no_note (thin_graph gates) inside again

-- the next one fires on the qubit
next_fires : (inside again : Enter (Unit {0})) (gates : List ThinGate) (i q count : ℕ) (e : Extension) (more : List Op) (fired : List Fired) (w v : World) (picks : List ℕ) (outs : List Value) → drop i (after_first gates) ≡ Ext e ∷ more → extension_ins e ≡ type.Qubit ∷ [] → HasReached (node_of i) q fired → perform_extension e (Qubit q ∷ []) w ≡ Returned outs v
    → left_to_fire (fires_by inside again gates) gates (suc count) fired w picks ≡ left_to_fire (fires_by inside again gates) gates count (record { node = node_of (suc i); outs = outs } ∷ fired) v (drop 1 picks)
next_fires inside again gates i q count e more fired w v picks outs left one h p =
    let g = thin_graph gates in
    let last = node_of i in
    let within : i < suc (length gates) = subst (λ n. i < n) (length-after_first gates) (left_within (after_first gates) i (Ext e) more left) in
    let is_kind = op_at-left gates i (Ext e) more left in
    let ins = one_input g (outs_at fired) (suc last) last type.Qubit (Qubit q) (ap ins_of is_kind ∙ one) (feeder-thin gates i within) h.gave in
    one_step g (fires_by inside again gates) [] 1 3 count fired w v picks (record { node = suc last; ins = Qubit q ∷ [] }) outs
    (ready_one g (suc (length gates)) (suc last) (outs_at fired) (Qubit q ∷ []) (goes_in_chain gates last q fired h) (omega arith) (omega arith) ins)
    (λ regions. extension_fires g inside again regions (suc last) (Qubit q ∷ []) outs e w v (drop 1 picks) is_kind p)

none_left : (enter : Enter (Unit {0})) (gates : List ThinGate) (fired : List Fired) (w : World) (picks : List ℕ) → left_to_fire enter gates 0 fired w picks ≡ Returned [] (plain_state w picks)
unfolding firings thin_graph op_at
none_left enter gates fired w picks = ap (λ o. or_stuck o (plain_state w picks)) (no_inputs (thin_graph gates) (outs_at fired) 3 refl)

gate_ins : (gate : ThinGate) → extension_ins (gate_extension gate) ≡ type.Qubit ∷ []
gate_ins H = refl
gate_ins X = refl

-- the events of the gates that are left, and of the end
abbrev events_left : ℕ → List ThinGate → List Event
events_left q rest = map (λ gate. event.Gate1 (gate_name gate) q) rest ++ event.Free q ∷ []

abbrev after_rest : ℕ → List ThinGate → World → World
after_rest q rest w = record w { flags = ended w.flags q; events = w.events ++ events_left q rest }

drop_more : (n : ℕ) (picks : List ℕ) → drop n (drop 1 picks) ≡ drop (suc n) picks
drop_more n [] = drop-nil n
drop_more n (pick ∷ picks) = refl

rest_runs : (inside again : Enter (Unit {0})) (gates rest : List ThinGate) (i q : ℕ) (fired : List Fired) (w : World) (picks : List ℕ) → drop i (after_first gates) ≡ after_first rest → HasReached (node_of i) q fired → is_live w.flags q ≡ true
    → left_to_fire (fires_by inside again gates) gates (suc (length rest)) fired w picks ≡ Returned [] (plain_state (after_rest q rest w) (drop (suc (length rest)) picks))
rest_runs inside again gates [] i q fired w picks left h live =
    next_fires inside again gates i q 0 op.Free [] fired w (after_rest q [] w) picks [] left refl h (free_performs q w live)
    ∙ none_left (fires_by inside again gates) gates (record { node = node_of (suc i); outs = [] } ∷ fired) (after_rest q [] w) (drop 1 picks)
rest_runs inside again gates (gate ∷ rest) i q fired w picks left h live =
    let last = node_of i in
    let v = did (event.Gate1 (gate_name gate) q) w in
    next_fires inside again gates i q (suc (length rest)) (gate_extension gate) (after_first rest) fired w v picks (Qubit q ∷ []) (left ∙ ap (λ kind. kind ∷ after_first rest) (gate_is gate)) (gate_ins gate) h (gate_performs gate q w live)
    ∙ rest_runs inside again gates rest (suc i) q (record { node = suc last; outs = Qubit q ∷ [] } ∷ fired) v (drop 1 picks) (left_next (after_first gates) i (gate_op gate) (after_first rest) left)
    (reaches (thin_graph gates) (suc (length gates)) (suc last) q fired (goes_in_chain gates last q fired h)) live
    ∙ ap₂ (λ events left. Returned [] (plain_state (record w { flags = ended w.flags q; events = events }) left)) (append_assoc w.events (event.Gate1 (gate_name gate) q ∷ []) (events_left q rest)) (drop_more (suc (length rest)) picks)

-- ---- the whole run

abbrev after_alloc : World → World
after_alloc w = did (event.Alloc (next w)) (record w { flags = w.flags ++ true ∷ [] })

first_fires : (inside again : Enter (Unit {0})) (gates : List ThinGate) (count : ℕ) (w : World) (picks : List ℕ)
    → left_to_fire (fires_by inside again gates) gates (suc count) entered w picks ≡ left_to_fire (fires_by inside again gates) gates count (record { node = 4; outs = Qubit (next w) ∷ [] } ∷ entered) (after_alloc w) (drop 1 picks)
first_fires inside again gates count w picks =
    let g = thin_graph gates in
    one_step g (fires_by inside again gates) [] 1 3 count entered w (after_alloc w) picks (record { node = 4; ins = [] }) (Qubit (next w) ∷ [])
    (ready_one g (suc (length gates)) 4 (outs_at entered) [] (starts_in_chain gates) (omega arith) (omega arith) (no_inputs g (outs_at entered) 4 (ap ins_of (op_at-first gates))))
    (λ regions. extension_fires g inside again regions 4 [] (Qubit (next w) ∷ []) op.Alloc w (after_alloc w) (drop 1 picks) (op_at-first gates) (alloc_performs w))

region_by : (g : Graph) (enter : Enter (Unit {0})) (input output count : ℕ) (others : List ℕ) (s : State (Unit {0})) → children g 1 ≡ input ∷ output ∷ others → length (firing_children g 1) ≡ count
    → region no_note g enter [] 1 [] s ≡ firings no_note g enter [] 1 output count (record { node = input; outs = [] } ∷ []) s
unfolding region
region_by g enter input output count others s c n =
    ap₂ (λ nodes left. at_node (slice_get nodes 0) (λ input. at_node (slice_get nodes 1) (λ output. firings no_note g enter [] 1 output left (record { node = input; outs = [] } ∷ []))) s) c n

-- what runs a node inside `main`
abbrev inside_main : List ThinGate → ℕ → Enter (Unit {0})
inside_main gates turns = level no_note (thin_graph gates) (resume no_note (thin_graph gates) turns) (node_of (length (map in_main (after_first gates))))

region_fires : (gates : List ThinGate) (w : World) (picks : List ℕ)
    → run_function (thin_graph gates) 1 [] (plain_state w picks)
    ≡ left_to_fire (fires_by (inside_main gates w.turns) (resume no_note (thin_graph gates) w.turns) gates) gates (suc (suc (length gates))) entered w picks
unfolding run_function runs enter_op thin_graph op_at
region_fires gates w picks =
    region_by (thin_graph gates) (fires_by (inside_main gates w.turns) (resume no_note (thin_graph gates) w.turns) gates) 2 3 (suc (suc (length gates))) (4 ∷ numbers 5 (suc (length gates))) (plain_state w picks) (children-thin gates)
    (ap length (firing_children-thin gates) ∙ length-numbers 4 (suc (suc (length gates))))

pub thin_graphs_run : ThinGraphsRun
thin_graphs_run gates w picks =
    let q = next w in
    let inside = inside_main gates w.turns in
    let again = resume no_note (thin_graph gates) w.turns in
    region_fires gates w picks
    ∙ first_fires inside again gates (suc (length gates)) w picks
    ∙ rest_runs inside again gates gates 0 q (record { node = 4; outs = Qubit q ∷ [] } ∷ entered) (after_alloc w) (drop 1 picks) refl
    (reaches (thin_graph gates) (suc (length gates)) 4 q entered (starts_in_chain gates)) (is_live-new w.flags)
    ∙ ap₂ (λ flags events. Returned [] (plain_state (record w { flags = flags; events = events }) (drop (suc (length gates)) (drop 1 picks)))) (ended-new w.flags) (append_assoc w.events (event.Alloc q ∷ []) (events_left q gates))
    ∙ ap (λ left. Returned [] (plain_state (thin_after gates w) left)) (drop_more (suc (length gates)) picks ∙ ap (λ n. drop n picks) two_more)
  where
    two_more : suc (suc (length gates)) ≡ length gates + 2
    two_more = omega arith
