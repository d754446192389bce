-- Small graphs with functions as values, what their runs are, and that they are valid and ordered.
use Rattle.std.specs.Prelude.{◌≡◌, ℕ, true, false, List, [], ◌∷◌, ◌++◌, codes}
use Rattle.gp_base.specs.declared.event.Event.{Event}
use Rattle.gp_base.specs.declared.event.Event.TheVariants as event
use Rattle.gp_base.specs.declared.event.GateName.TheVariants as name
use Rattle.gp_base.specs.Run.{Out, Returned, Stopped, TurnsUsed, Stuck}
use Rattle.gp_base.specs.World.{World, start}
use Rattle.hg_ops.specs.GraphType.{Qubit, function_type}
use Rattle.hg_ops.specs.Op as op
use Rattle.hg_ops.specs.Op.{Op, Types, OneQubitGate}
use Rattle.hg_graph.specs.Graph.{Node, Link, Graph}
use Rattle.hg_graph.specs.Ordered.{IsOrdered}
use Rattle.hg_graph.specs.Run.{graph_run}
use Rattle.hg_graph.specs.Valid.{IsValid}
use Rattle.hg_graph.specs.Value.{Value}
use Rattle.hg_laws.specs.Samples.{node, wire, one, tests}

-- a function from a qubit to a qubit, alone and before a qubit
abbrev pub function : Types
function = function_type one one ∷ []

abbrev pub function_and_one : Types
function_and_one = function_type one one ∷ one

-- the boundary of a region whose types are these, in its container
abbrev pub boundary : Types → Types → ℕ → List Node
boundary ins outs parent = node (op.Input ins) parent ∷ node (op.Output outs) parent ∷ []

-- the region of a function from a qubit to a qubit that applies a gate
abbrev pub gate : OneQubitGate → ℕ → List Node
gate kind parent = boundary one one parent ++ node (op.Ext (op.Gate1 kind)) parent ∷ []

-- `main` calls the function `f`, which is loaded as a value; with these types of results at the call
abbrev pub handed : Types → Graph
handed outs = record {
  nodes = node op.Module 0 ∷ node (op.FuncDefn (codes "f") one one) 0
      ∷ node (op.FuncDefn (codes "main") [] []) 0 ∷ gate op.H 1
      ++ boundary [] [] 2 ++ node (op.Ext op.Alloc) 2 ∷ node (op.LoadFunction one one) 2
      ∷ node (op.CallIndirect one outs) 2 ∷ node (op.Ext op.Free) 2 ∷ [];
  links = wire 3 0 5 0 ∷ wire 5 0 4 0 ∷ wire 1 0 9 0 ∷ wire 9 0 10 0 ∷ wire 8 0 10 1
      ∷ wire 10 0 11 0 ∷ [];
}

-- with the function's own types, and with others
abbrev pub indirect : Graph
indirect = handed one

abbrev pub mistaken : Graph
mistaken = handed (Qubit ∷ one)

-- `f` is loaded once and called twice
abbrev pub twice : Graph
twice = record {
  nodes = node op.Module 0 ∷ node (op.FuncDefn (codes "f") one one) 0
      ∷ node (op.FuncDefn (codes "main") [] []) 0 ∷ gate op.H 1
      ++ boundary [] [] 2 ++ node (op.Ext op.Alloc) 2 ∷ node (op.LoadFunction one one) 2
      ∷ node (op.CallIndirect one one) 2 ∷ node (op.CallIndirect one one) 2
      ∷ node (op.Ext op.Free) 2 ∷ [];
  links = wire 3 0 5 0 ∷ wire 5 0 4 0 ∷ wire 1 0 9 0 ∷ wire 9 0 10 0 ∷ wire 8 0 10 1
      ∷ wire 9 0 11 0 ∷ wire 10 0 11 1 ∷ wire 11 0 12 0 ∷ [];
}

-- `main` passes `f` to the function `apply`, which calls it
abbrev pub passed : Graph
passed = record {
  nodes = node op.Module 0 ∷ node (op.FuncDefn (codes "f") one one) 0
      ∷ node (op.FuncDefn (codes "apply") function_and_one one) 0
      ∷ node (op.FuncDefn (codes "main") [] []) 0 ∷ gate op.H 1
      ++ boundary function_and_one one 2 ++ node (op.CallIndirect one one) 2
      ∷ boundary [] [] 3 ++ node (op.Ext op.Alloc) 3 ∷ node (op.LoadFunction one one) 3
      ∷ node (op.Call function_and_one one) 3 ∷ node (op.Ext op.Free) 3 ∷ [];
  links = wire 4 0 6 0 ∷ wire 6 0 5 0 ∷ wire 7 0 9 0 ∷ wire 7 1 9 1 ∷ wire 9 0 8 0
      ∷ wire 1 0 13 0 ∷ wire 13 0 14 0 ∷ wire 12 0 14 1 ∷ wire 2 0 14 2 ∷ wire 14 0 15 0 ∷ [];
}

-- an outcome decides whether a case of a `Conditional` calls `f`, which goes into both cases
abbrev pub called : Graph
called = record {
  nodes = node op.Module 0 ∷ node (op.FuncDefn (codes "f") one one) 0
      ∷ node (op.FuncDefn (codes "main") [] []) 0 ∷ gate op.H 1
      ++ boundary [] [] 2 ++ node (op.Ext op.Alloc) 2 ∷ node (op.Ext op.Measure) 2
      ∷ node (op.LoadFunction one one) 2 ∷ node (op.Conditional tests function_and_one one) 2
      ∷ node (op.Ext op.Free) 2 ∷ node (op.Case function_and_one one) 11
      ∷ boundary function_and_one one 13 ++ node (op.Case function_and_one one) 11
      ∷ boundary function_and_one one 16 ++ node (op.CallIndirect one one) 16 ∷ [];
  links = wire 3 0 5 0 ∷ wire 5 0 4 0 ∷ wire 8 0 9 0 ∷ wire 9 1 11 0 ∷ wire 1 0 10 0
      ∷ wire 10 0 11 1 ∷ wire 9 0 11 2 ∷ wire 11 0 12 0 ∷ wire 14 1 15 0
      ∷ wire 17 0 19 0 ∷ wire 17 1 19 1 ∷ wire 19 0 18 0 ∷ [];
}

-- an outcome decides which of two functions with the same types a `Conditional` gives to be called: `f` or `g`
abbrev pub chosen : Graph
chosen = record {
  nodes = node op.Module 0 ∷ node (op.FuncDefn (codes "f") one one) 0
      ∷ node (op.FuncDefn (codes "g") one one) 0 ∷ node (op.FuncDefn (codes "main") [] []) 0
      ∷ gate op.H 1 ++ gate op.X 2 ++ boundary [] [] 3 ++ node (op.Ext op.Alloc) 3
      ∷ node (op.Ext op.Measure) 3 ∷ node (op.Conditional tests [] function) 3
      ∷ node (op.CallIndirect one one) 3 ∷ node (op.Ext op.Free) 3
      ∷ node (op.Case [] function) 14 ∷ boundary [] function 17 ++ node (op.LoadFunction one one) 17
      ∷ node (op.Case [] function) 14 ∷ boundary [] function 21 ++ node (op.LoadFunction one one) 21
      ∷ [];
  links = wire 4 0 6 0 ∷ wire 6 0 5 0 ∷ wire 7 0 9 0 ∷ wire 9 0 8 0 ∷ wire 12 0 13 0
      ∷ wire 13 1 14 0 ∷ wire 14 0 15 0 ∷ wire 13 0 15 1 ∷ wire 15 0 16 0
      ∷ wire 1 0 20 0 ∷ wire 20 0 19 0 ∷ wire 2 0 24 0 ∷ wire 24 0 23 0 ∷ [];
}

-- `main` has two functions with the same types as values, and calls `g` before `f`
abbrev pub named : Graph
named = record {
  nodes = node op.Module 0 ∷ node (op.FuncDefn (codes "f") one one) 0
      ∷ node (op.FuncDefn (codes "g") one one) 0 ∷ node (op.FuncDefn (codes "main") [] []) 0
      ∷ gate op.H 1 ++ gate op.X 2 ++ boundary [] [] 3 ++ node (op.Ext op.Alloc) 3
      ∷ node (op.LoadFunction one one) 3 ∷ node (op.LoadFunction one one) 3
      ∷ node (op.CallIndirect one one) 3 ∷ node (op.CallIndirect one one) 3
      ∷ node (op.Ext op.Free) 3 ∷ [];
  links = wire 4 0 6 0 ∷ wire 6 0 5 0 ∷ wire 7 0 9 0 ∷ wire 9 0 8 0 ∷ wire 1 0 13 0
      ∷ wire 2 0 14 0 ∷ wire 14 0 15 0 ∷ wire 12 0 15 1 ∷ wire 13 0 16 0 ∷ wire 15 0 16 1
      ∷ wire 16 0 17 0 ∷ [];
}

-- A run that returns nothing, with these turns and no outcome left, in which the one qubit was allocated, then had these
-- events, and was freed.
abbrev pub ends_with : ℕ → List Event → Out World (List Value)
ends_with turns events = Returned [] (record {
  flags = false ∷ [];
  turns = turns;
  outcomes = [];
  events = event.Alloc 0 ∷ events ++ event.Free 0 ∷ [];
})

-- A run that stopped with its one qubit allocated and no event more.
abbrev pub allocated_with : ℕ → World
allocated_with turns = record {
  flags = true ∷ [];
  turns = turns;
  outcomes = [];
  events = event.Alloc 0 ∷ [];
}

abbrev pub h : Event
h = event.Gate1 name.H 0

abbrev pub x : Event
x = event.Gate1 name.X 0

-- Each call takes a turn. The value names the function that is called, whichever others have its types.
pub record FunctionSamplesRun : Type 0 where
  pub indirect_runs : graph_run indirect 2 [] (start 5 []) [] ≡ ends_with 4 (h ∷ [])
  pub indirect_stops : graph_run indirect 2 [] (start 0 []) [] ≡ Stopped TurnsUsed (allocated_with 0)
  pub mistaken_is_stuck : graph_run mistaken 2 [] (start 5 []) [] ≡ Stopped Stuck (allocated_with 5)
  pub twice_runs : graph_run twice 2 [] (start 5 []) [] ≡ ends_with 3 (h ∷ h ∷ [])
  pub passed_runs : graph_run passed 3 [] (start 5 []) [] ≡ ends_with 3 (h ∷ [])
  pub called_runs : graph_run called 2 [] (start 5 (true ∷ [])) [] ≡ ends_with 4 (event.Measure 0 true ∷ h ∷ [])
  pub not_called_runs : graph_run called 2 [] (start 5 (false ∷ [])) [] ≡ ends_with 5 (event.Measure 0 false ∷ [])
  pub first_chosen : graph_run chosen 3 [] (start 5 (false ∷ [])) [] ≡ ends_with 4 (event.Measure 0 false ∷ h ∷ [])
  pub second_chosen : graph_run chosen 3 [] (start 5 (true ∷ [])) [] ≡ ends_with 4 (event.Measure 0 true ∷ x ∷ [])
  pub named_runs : graph_run named 3 [] (start 5 []) [] ≡ ends_with 3 (x ∷ h ∷ [])

-- All but `mistaken` are valid and ordered.
pub record IsSound (g : Graph) : Type 0 where
  pub valid : IsValid g
  pub ordered : IsOrdered g

pub record FunctionSamplesAreSound : Type 0 where
  pub indirect_sound : IsSound indirect
  pub twice_sound : IsSound twice
  pub passed_sound : IsSound passed
  pub called_sound : IsSound called
  pub chosen_sound : IsSound chosen
  pub named_sound : IsSound named
