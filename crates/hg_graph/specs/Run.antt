-- The run of a graph.
use Rattle.std.specs.Prelude.{ℕ, zero, suc, ◌%◌, ℤ, pos, int_lt, int_le, Bool, true, not, ◌&&◌, ◌||◌, ◌==◌, if◌then◌else◌, ltb, List, [], ◌∷◌, ◌++◌, length, slice_get, slice_index_or, filter_map, Option, Some, None, is_some}
use Rattle.gp_base.specs.declared.event.Event.TheVariants as event
use Rattle.gp_base.specs.declared.event.GateName.TheVariants as gate
use Rattle.gp_base.specs.Number.{sum, difference, product, negated, quotient, remainder, is_same}
use Rattle.gp_base.specs.Run.{Run, Out, Returned, Stopped, DivisionByZero, Stuck, ◌>>=◌, ret, stop, or_stuck}
use Rattle.gp_base.specs.Truth.{same_truth}
use Rattle.gp_base.specs.World.{World, allocate, free, apply_gate, apply_gate_on_two, apply_gate_on_three, rotate, reset, measure, measure_free, does, take_turn}
use Rattle.hg_ops.specs.Op as op
use Rattle.hg_ops.specs.Op.{Op, Extension, Arithmetic, Division, Comparison, BoolComparison, ins_of, one_qubit_name, two_qubit_name, rotation_name}
use Rattle.hg_graph.specs.Graph.{Graph, Link, Ports, Order, Port, op_at, children, firing_children, feeder, taker, static_input}
use Rattle.hg_graph.specs.Value.{Value, Int, Qubit, Variant, Function, values, packed, truth, truth_of, callee}

-- ---- what a region has so far

-- a node that has fired, with the values at its outputs
pub record Fired : Type 0 where
  pub node : ℕ
  pub outs : List Value

-- an open region: its container, the nodes that have fired, and the child that runs
pub record Open : Type 0 where
  pub container : ℕ
  pub fired : List Fired
  pub running : Option ℕ

-- the values that each node has given so far, where it has fired
abbrev pub Look : Type 0
Look = ℕ → Option (List Value)

-- by the list of the nodes that have fired, the newest first
abbrev pub outs_at : List Fired → Look
outs_at [] n = None
outs_at (f ∷ fired) n = if f.node == n then Some f.outs else outs_at fired n

abbrev pub has_fired : Look → ℕ → Bool
has_fired look n = is_some (look n)

abbrev pub value_at : Option (List Value) → ℕ → Option Value
value_at None p = None
value_at (Some values) p = slice_get values p

-- the value at the source of a link
abbrev pub value_of : Look → Option Port → Option Value
value_of look None = None
value_of look (Some from) = value_at (look from.node) from.index

abbrev pub cons_both : Option Value → Option (List Value) → Option (List Value)
cons_both None values = None
cons_both (Some v) None = None
cons_both (Some v) (Some values) = Some (v ∷ values)

-- the values at `count` input ports of a node, from port p on, looked up backwards along the links
abbrev pub pulled : List Link → Look → ℕ → ℕ → ℕ → Option (List Value)
pulled links look n p zero = Some []
pulled links look n p (suc count) =
    cons_both (value_of look (feeder links (record { node = n; index = p }))) (pulled links look n (suc p) count)

unfoldable pub inputs : Graph → Look → ℕ → Option (List Value)
inputs g look n = pulled g.links look n 0 (length (ins_of (op_at g n)))

-- each order link into the node comes from one that has fired
abbrev pub orders_kept : List Link → Look → ℕ → Bool
orders_kept [] look n = true
orders_kept (Ports a b ∷ links) look n = orders_kept links look n
orders_kept (Order a b ∷ links) look n = (not (b == n) || has_fired look a) && orders_kept links look n

-- a node that is ready to fire, with the values at its inputs
pub record Ready : Type 0 where
  pub node : ℕ
  pub ins : List Value

abbrev pub with_inputs : ℕ → Option (List Value) → Option Ready
with_inputs n None = None
with_inputs n (Some values) = Some (record { node = n; ins = values })

-- the node, where it hasn't fired and all before it has
unfoldable pub candidate : Graph → Look → ℕ → Option Ready
candidate g look n =
    if has_fired look n then None else (if orders_kept g.links look n then with_inputs n (inputs g look n) else None)

-- the ready children of a region, in rising number
unfoldable pub ready : Graph → ℕ → Look → List Ready
ready g c look = filter_map (candidate g look) (firing_children g c)

-- ---- what an op without a region does: from the values at its inputs to those at its outputs

-- values of the kinds that an op takes; with others it is stuck
abbrev pub with_qubit : List Value → (ℕ → Run World (List Value)) → Run World (List Value)
with_qubit (Qubit q ∷ []) k = k q
with_qubit _ k = stop Stuck

abbrev pub with_two_qubits : List Value → (ℕ → ℕ → Run World (List Value)) → Run World (List Value)
with_two_qubits (Qubit p ∷ Qubit q ∷ []) k = k p q
with_two_qubits _ k = stop Stuck

abbrev pub with_three_qubits : List Value → (ℕ → ℕ → ℕ → Run World (List Value)) → Run World (List Value)
with_three_qubits (Qubit p ∷ Qubit q ∷ Qubit r ∷ []) k = k p q r
with_three_qubits _ k = stop Stuck

abbrev pub with_angle : List Value → (ℕ → ℤ → Run World (List Value)) → Run World (List Value)
with_angle (Qubit q ∷ Int a ∷ []) k = k q a
with_angle _ k = stop Stuck

abbrev pub with_int : List Value → (ℤ → Run World (List Value)) → Run World (List Value)
with_int (Int a ∷ []) k = k a
with_int _ k = stop Stuck

abbrev pub with_two_ints : List Value → (ℤ → ℤ → Run World (List Value)) → Run World (List Value)
with_two_ints (Int a ∷ Int b ∷ []) k = k a b
with_two_ints _ k = stop Stuck

abbrev pub if_truth : Option Bool → (Bool → Run World (List Value)) → Run World (List Value)
if_truth None k = stop Stuck
if_truth (Some b) k = k b

abbrev pub with_bool : List Value → (Bool → Run World (List Value)) → Run World (List Value)
with_bool (v ∷ []) k = if_truth (truth_of v) k
with_bool _ k = stop Stuck

abbrev pub with_two_bools : List Value → (Bool → Bool → Run World (List Value)) → Run World (List Value)
with_two_bools (u ∷ v ∷ []) k = if_truth (truth_of u) (λ a. if_truth (truth_of v) (k a))
with_two_bools _ k = stop Stuck

abbrev pub with_tuple : List Value → (List Value → Run World (List Value)) → Run World (List Value)
with_tuple (Variant zero vs ∷ []) k = k (values vs)
with_tuple _ k = stop Stuck

abbrev pub calculated : Arithmetic → ℤ → ℤ → ℤ
calculated op.Add a b = sum a b
calculated op.Sub a b = difference a b
calculated op.Mul a b = product a b

abbrev pub divided : Division → ℤ → ℤ → ℤ
divided op.FloorDiv a b = quotient a b
divided op.Mod a b = remainder a b

abbrev pub compared : Comparison → ℤ → ℤ → Bool
compared op.Eq a b = is_same a b
compared op.Ne a b = not (is_same a b)
compared op.Lt a b = int_lt a b
compared op.Le a b = int_le a b
compared op.Gt a b = int_lt b a
compared op.Ge a b = int_le b a

abbrev pub compared_bools : BoolComparison → Bool → Bool → Bool
compared_bools op.BoolEq a b = same_truth a b
compared_bools op.BoolNe a b = not (same_truth a b)

abbrev pub nothing : {A : Type 0} → A → Run World (List Value)
nothing _ = ret []

abbrev pub divide : Division → ℤ → ℤ → Run World (List Value)
divide which a b = if is_same b (pos 0) then stop DivisionByZero else ret (Int (divided which a b) ∷ [])

unfoldable pub perform_extension : Extension → List Value → Run World (List Value)
perform_extension op.Alloc [] = allocate >>= (λ q. ret (Qubit q ∷ []))
perform_extension op.Alloc _ = stop Stuck
perform_extension op.Free vs = with_qubit vs (λ q. free q >>= nothing)
perform_extension op.MeasureFree vs = with_qubit vs (λ q. measure_free q >>= (λ b. ret (truth b ∷ [])))
perform_extension op.Measure vs = with_qubit vs (λ q. measure q >>= (λ b. ret (Qubit q ∷ truth b ∷ [])))
perform_extension op.Reset vs = with_qubit vs (λ q. reset q >>= (λ _. ret (Qubit q ∷ [])))
perform_extension (op.Gate1 name) vs = with_qubit vs (λ q. apply_gate (one_qubit_name name) q >>= (λ _. ret (Qubit q ∷ [])))
perform_extension (op.Gate2 name) vs =
    with_two_qubits vs (λ p q. apply_gate_on_two (two_qubit_name name) p q >>= (λ _. ret (Qubit p ∷ Qubit q ∷ [])))
perform_extension op.Toffoli vs =
    with_three_qubits vs (λ p q r. apply_gate_on_three gate.Toffoli p q r >>= (λ _. ret (Qubit p ∷ Qubit q ∷ Qubit r ∷ [])))
perform_extension (op.Rotation name) vs = with_angle vs (λ q a. rotate (rotation_name name) q a >>= (λ _. ret (Qubit q ∷ [])))
perform_extension (op.ResultInt tag) vs = with_int vs (λ a. does (event.ResultInt tag a) >>= nothing)
perform_extension (op.ResultBool tag) vs = with_bool vs (λ b. does (event.ResultBool tag b) >>= nothing)
perform_extension (op.Calculate which) vs = with_two_ints vs (λ a b. ret (Int (calculated which a b) ∷ []))
perform_extension (op.Divide which) vs = with_two_ints vs (divide which)
perform_extension op.Negate vs = with_int vs (λ a. ret (Int (negated a) ∷ []))
perform_extension (op.Compare which) vs = with_two_ints vs (λ a b. ret (truth (compared which a b) ∷ []))
perform_extension op.Not vs = with_bool vs (λ a. ret (truth (not a) ∷ []))
perform_extension (op.CompareBools which) vs = with_two_bools vs (λ a b. ret (truth (compared_bools which a b) ∷ []))
perform_extension (op.Unpack types) vs = with_tuple vs ret

unfoldable pub perform : Op → List Value → Run World (List Value)
perform (op.Ext e) vs = perform_extension e vs
perform (op.Tag rows k) vs = ret (Variant k (packed vs) ∷ [])
perform _ vs = stop Stuck

-- ---- the state of a run

-- What a run of a graph changes: the world, the picks that are left, and what it writes down at moments. A pick says
-- which of the ready nodes fires next.
pub record State (N : Type 0) : Type 0 where
  pub world : World
  pub picks : List ℕ
  pub notes : N

-- What a run does at a moment: from the regions that are open, outermost last, and the world to further notes. There
-- is a moment before each firing and one at each region's end.
abbrev pub Note : Type 0 → Type 0
Note N = List Open → World → N → N

-- writes nothing down
abbrev pub no_note : {N : Type 0} → Note N
no_note regions w notes = notes

abbrev pub with_world : {N A : Type 0} → State N → Out World A → Out (State N) A
with_world s (Returned a w) = Returned a (record s { world = w })
with_world s (Stopped e w) = Stopped e (record s { world = w })

-- what changes the world alone
abbrev pub on_world : {N A : Type 0} → Run World A → Run (State N) A
on_world m s = with_world s (m s.world)

abbrev pub pick_from : {N A : Type 0} → A → List A → List ℕ → State N → Out (State N) A
pick_from x xs [] s = Returned x s
pick_from x xs (k ∷ picks) s = Returned (slice_index_or (x ∷ xs) (k % suc (length xs)) x) (record s { picks = picks })

-- takes the next pick, 0 where none is left, and chooses the entry at that place, counted round
abbrev pub choose : {N A : Type 0} → List A → Run (State N) A
choose [] s = stop Stuck s
choose (x ∷ xs) s = pick_from x xs s.picks s

abbrev pub at_moment : {N : Type 0} → Note N → List Open → Run (State N) (Unit {0})
at_moment note regions s = Returned tt (record s { notes = note regions s.world s.notes })

-- ---- nodes with a region

-- What runs a node: under the regions that are open, from its number and the values that go in to those that come out.
abbrev pub Enter : Type 0 → Type 0
Enter N = List Open → ℕ → List Value → Run (State N) (List Value)

abbrev pub at_node : {N : Type 0} → Option ℕ → (ℕ → Run (State N) (List Value)) → Run (State N) (List Value)
at_node None k = stop Stuck
at_node (Some n) k = k n

abbrev pub at_port : {N : Type 0} → Option Port → (ℕ → Run (State N) (List Value)) → Run (State N) (List Value)
at_port None k = stop Stuck
at_port (Some port) k = k port.node

-- the number of a variant, with the values of its row followed by the other values
abbrev pub with_variant : {N : Type 0} → List Value → (ℕ → List Value → Run (State N) (List Value)) → Run (State N) (List Value)
with_variant (Variant k vs ∷ others) go = go k (values vs ++ others)
with_variant _ go = stop Stuck

-- the name of a function, with the other values
abbrev pub with_function : {N : Type 0} → List Value → (List ℕ → List Value → Run (State N) (List Value)) → Run (State N) (List Value)
with_function (Function name ∷ others) go = go name others
with_function _ go = stop Stuck

-- the name of a function as a value
abbrev pub name_of_function : {N : Type 0} → Op → Run (State N) (List Value)
name_of_function (op.FuncDefn name ins outs) = ret (Function name ∷ [])
name_of_function _ = stop Stuck

abbrev pub constant : {N : Type 0} → Op → Run (State N) (List Value)
constant (op.Const n) = ret (Int n ∷ [])
constant _ = stop Stuck

-- a turn, and then a node
abbrev pub after_turn : {N : Type 0} → Enter N → Enter N
after_turn again outer n vs = on_world take_turn >>= (λ _. again outer n vs)

module _ {N : Type 0} (note : Note N) (g : Graph) where
  -- What happens when a node fires: `inside` runs a node that lies inside, and `again` one after a turn.
  unfoldable pub fire_op : Enter N → Enter N → Op → Enter N
  fire_op inside again (op.Dfg ins outs) outer n vs = inside outer n vs
  fire_op inside again (op.Conditional rows ins outs) outer n vs = inside outer n vs
  fire_op inside again (op.TailLoop a l r) outer n vs = inside outer n vs
  fire_op inside again (op.Cfg ins outs) outer n vs = inside outer n vs
  fire_op inside again (op.Call ins outs) outer n vs = at_port (feeder g.links (static_input g n)) (λ f. after_turn again outer f vs)
  fire_op inside again (op.CallIndirect ins outs) outer n vs = with_function vs (λ name us. at_node (callee g ins outs name) (λ f. after_turn again outer f us))
  fire_op inside again (op.LoadFunction ins outs) outer n vs = at_port (feeder g.links (static_input g n)) (λ f. name_of_function (op_at g f))
  fire_op inside again op.LoadConstant outer n vs = at_port (feeder g.links (static_input g n)) (λ c. constant (op_at g c))
  fire_op inside again kind outer n vs = on_world (perform kind vs)

  abbrev pub fire : Enter N → Enter N → Enter N
  fire inside again outer n vs = fire_op inside again (op_at g n) outer n vs

  -- `count` children of the container c are still to fire; in the end the region gives what comes into its `Output`
  unfoldable pub firings : Enter N → List Open → (c output count : ℕ) → List Fired → Run (State N) (List Value)
  firings fire outer c output zero fired =
      at_moment note (record { container = c; fired = fired; running = None } ∷ outer)
      >>= (λ _. or_stuck (inputs g (outs_at fired) output))
  firings fire outer c output (suc count) fired =
      at_moment note (record { container = c; fired = fired; running = None } ∷ outer)
      >>= (λ _. choose (ready g c (outs_at fired)))
      >>= (λ r. fire (record { container = c; fired = fired; running = Some r.node } ∷ outer) r.node r.ins
      >>= (λ outs. firings fire outer c output count (record { node = r.node; outs = outs } ∷ fired)))

  -- the region of a container, on the values that its `Input` gives
  unfoldable pub region : Enter N → Enter N
  region fire outer c vs =
      at_node (slice_get (children g c) 0) (λ input.
      at_node (slice_get (children g c) 1) (λ output.
      firings fire outer c output (length (firing_children g c)) (record { node = input; outs = vs } ∷ [])))

  -- after a round of a loop
  abbrev pub after_round : Enter N → List Open → ℕ → ℕ → List Value → Run (State N) (List Value)
  after_round again outer n zero vs = after_turn again outer n vs
  after_round again outer n (suc zero) vs = ret vs
  after_round again outer n (suc (suc k)) vs = stop Stuck

  -- from block n to where its control link leads
  abbrev pub jump : Enter N → Enter N → Op → List Open → (n to : ℕ) → List Value → Run (State N) (List Value)
  jump inside again (op.ExitBlock types) outer n to vs = ret vs
  jump inside again _ outer n to vs = if ltb n to then inside outer to vs else after_turn again outer to vs

  -- a node that is run
  unfoldable pub enter_op : Enter N → Enter N → Op → Enter N
  enter_op inside again (op.FuncDefn name ins outs) outer n vs = region (fire inside again) outer n vs
  enter_op inside again (op.Dfg ins outs) outer n vs = region (fire inside again) outer n vs
  enter_op inside again (op.Case ins outs) outer n vs = region (fire inside again) outer n vs
  enter_op inside again (op.Conditional rows ins outs) outer n vs =
      with_variant vs (λ k us. at_node (slice_get (children g n) k) (λ c. inside outer c us))
  enter_op inside again (op.TailLoop a l r) outer n vs =
      region (fire inside again) outer n vs >>= (λ us. with_variant us (after_round again outer n))
  enter_op inside again (op.Cfg ins outs) outer n vs = at_node (slice_get (children g n) 0) (λ block. inside outer block vs)
  enter_op inside again (op.DataflowBlock ins rows others) outer n vs =
      region (fire inside again) outer n vs
      >>= (λ us. with_variant us (λ k xs.
      at_port (taker g.links (record { node = n; index = k })) (λ to. jump inside again (op_at g to) outer n to xs)))
  enter_op inside again _ outer n vs = stop Stuck

  -- A node is run at most `depth` nodes deep. A run goes from a node to one with a greater number, or takes a turn.
  abbrev pub level : Enter N → (depth : ℕ) → Enter N
  level again zero outer n vs = stop Stuck
  level again (suc depth) outer n vs = enter_op (level again depth) again (op_at g n) outer n vs

  -- a node is run with fewer than `turns` turns left
  abbrev pub resume : (turns : ℕ) → Enter N
  resume zero outer n vs = stop Stuck
  resume (suc turns) outer n vs = level (resume turns) (length g.nodes) outer n vs

  -- a node is run in the present state
  unfoldable pub runs : Enter N
  runs outer n vs s = resume (suc s.world.turns) outer n vs s

-- ---- whole runs

abbrev pub world_out : {N A : Type 0} → Out (State N) A → Out World A
world_out (Returned a s) = Returned a s.world
world_out (Stopped e s) = Stopped e s.world

-- the run of the function at node f on its arguments, with nothing written down
unfoldable pub run_function : Graph → ℕ → List Value → Run (State (Unit {0})) (List Value)
run_function g f arguments = runs no_note g [] f arguments

-- The run of the function at node f, from a world, under a list of picks: the values that it returns, or how it
-- stops, and the world after it.
unfoldable pub graph_run : Graph → ℕ → List Value → World → List ℕ → Out World (List Value)
graph_run g f arguments w picks = world_out (run_function g f arguments (record { world = w; picks = picks; notes = tt }))
