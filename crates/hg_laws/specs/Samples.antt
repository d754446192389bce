-- Small graphs, what their runs are, and that they are valid and ordered.
use Rattle.std.specs.Prelude.{◌≡◌, ℕ, true, false, pos, negsuc, List, [], ◌∷◌, codes}
use Rattle.gp_base.specs.Number.{quotient, remainder, sum}
use Rattle.gp_base.specs.declared.event.Event.{Event}
use Rattle.gp_base.specs.declared.event.Event.TheVariants as event
use Rattle.gp_base.specs.declared.event.GateName.TheVariants as name
use Rattle.gp_base.specs.Run.{Returned, Stopped, TurnsUsed}
use Rattle.gp_base.specs.World.{World, start}
use Rattle.hg_ops.specs.GraphType.{GraphType, Qubit, sum_type}
use Rattle.hg_ops.specs.Op as op
use Rattle.hg_ops.specs.Op.{Op, Types}
use Rattle.hg_graph.specs.Graph.{Node, Link, Ports, Order, Graph}
use Rattle.hg_graph.specs.Ordered.{IsOrdered}
use Rattle.hg_graph.specs.Run.{graph_run}
use Rattle.hg_graph.specs.Valid.{IsValid}

abbrev pub node : Op → ℕ → Node
node kind parent = record { op = kind; parent = parent }

abbrev pub wire : ℕ → ℕ → ℕ → ℕ → Link
wire a p b q = Ports (record { node = a; index = p }) (record { node = b; index = q })

-- one qubit and one gate
abbrev pub thin : Graph
thin = record {
  nodes = node op.Module 0 ∷ node (op.FuncDefn (codes "main") [] []) 0 ∷ node (op.Input []) 1 ∷ node (op.Output []) 1 ∷ node (op.Ext op.Alloc) 1 ∷ node (op.Ext (op.Gate1 op.H)) 1 ∷ node (op.Ext op.Free) 1 ∷ [];
  links = wire 4 0 5 0 ∷ Order 4 5 ∷ wire 5 0 6 0 ∷ Order 5 6 ∷ [];
}

-- two qubits, whose gates have no order
abbrev pub crossed : Graph
crossed = record {
  nodes = node op.Module 0 ∷ node (op.FuncDefn (codes "main") [] []) 0 ∷ node (op.Input []) 1 ∷ node (op.Output []) 1 ∷ node (op.Ext op.Alloc) 1 ∷ node (op.Ext op.Alloc) 1 ∷ node (op.Ext (op.Gate1 op.H)) 1 ∷ node (op.Ext (op.Gate1 op.H)) 1 ∷ node (op.Ext op.Free) 1 ∷ node (op.Ext op.Free) 1 ∷ [];
  links = wire 4 0 6 0 ∷ wire 5 0 7 0 ∷ wire 6 0 8 0 ∷ wire 7 0 9 0 ∷ Order 4 5 ∷ Order 5 6 ∷ [];
}

abbrev pub one : Types
one = Qubit ∷ []

abbrev pub two : List Types
two = one ∷ one ∷ []

abbrev pub tests : List Types
tests = [] ∷ [] ∷ []

abbrev pub either : Types
either = sum_type two ∷ []

-- a loop that measures a qubit until it sees 0
abbrev pub loop : Graph
loop = record {
  nodes = node op.Module 0 ∷ node (op.FuncDefn (codes "main") [] []) 0 ∷ node (op.Input []) 1 ∷ node (op.Output []) 1 ∷ node (op.Ext op.Alloc) 1 ∷ node (op.TailLoop one one []) 1 ∷ node (op.Input one) 5 ∷ node (op.Output either) 5 ∷ node (op.Ext op.Measure) 5 ∷ node (op.Conditional tests one either) 5 ∷ node (op.Case one either) 9 ∷ node (op.Input one) 10 ∷ node (op.Output either) 10 ∷ node (op.Tag two 1) 10 ∷ node (op.Case one either) 9 ∷ node (op.Input one) 14 ∷ node (op.Output either) 14 ∷ node (op.Tag two 0) 14 ∷ node (op.Ext op.Free) 1 ∷ [];
  links = wire 4 0 5 0 ∷ wire 5 0 18 0 ∷ wire 6 0 8 0 ∷ wire 8 1 9 0 ∷ wire 8 0 9 1 ∷ wire 9 0 7 0 ∷ wire 11 0 13 0 ∷ wire 13 0 12 0 ∷ wire 15 0 17 0 ∷ wire 17 0 16 0 ∷ [];
}

abbrev pub number : Types
number = GraphType.Int ∷ []

-- a block that counts a number down, by a call of a function, until it is negative
abbrev pub counts : Graph
counts = record {
  nodes = node op.Module 0 ∷ node (op.FuncDefn (codes "main") [] []) 0 ∷ node (op.FuncDefn (codes "less") number number) 0
      ∷ node (op.Input []) 1 ∷ node (op.Output []) 1 ∷ node (op.Const (pos 2)) 1 ∷ node op.LoadConstant 1 ∷ node (op.Cfg number number) 1 ∷ node (op.Ext (op.ResultInt (codes "n"))) 1
      ∷ node (op.DataflowBlock number ([] ∷ [] ∷ []) number) 7 ∷ node (op.ExitBlock number) 7
      ∷ node (op.Input number) 9 ∷ node (op.Output (sum_type ([] ∷ [] ∷ []) ∷ number)) 9 ∷ node (op.Call number number) 9 ∷ node (op.Const (pos 0)) 9 ∷ node op.LoadConstant 9 ∷ node (op.Ext (op.Compare op.Lt)) 9
      ∷ node (op.Input number) 2 ∷ node (op.Output number) 2 ∷ node (op.Const (pos 1)) 2 ∷ node op.LoadConstant 2 ∷ node (op.Ext (op.Calculate op.Sub)) 2 ∷ [];
  links = wire 5 0 6 0 ∷ wire 6 0 7 0 ∷ wire 7 0 8 0 ∷ Order 7 8 ∷ wire 9 0 9 0 ∷ wire 9 1 10 0
      ∷ wire 11 0 13 0 ∷ wire 2 0 13 1 ∷ wire 14 0 15 0 ∷ wire 13 0 16 0 ∷ wire 15 0 16 1 ∷ wire 16 0 12 0 ∷ wire 13 0 12 1
      ∷ wire 19 0 20 0 ∷ wire 17 0 21 0 ∷ wire 20 0 21 1 ∷ wire 21 0 18 0 ∷ [];
}

-- the world after a run of `crossed`
abbrev pub both_ended : List Event → World
both_ended events = record { flags = false ∷ false ∷ []; turns = 5; outcomes = []; events = events }

-- Whole numbers are divided towards minus infinity, and kept to 64 bits.
pub record NumbersAre : Type 0 where
  pub quotients : quotient (negsuc 6) (pos 2) ∷ quotient (pos 7) (negsuc 1) ∷ [] ≡ negsuc 3 ∷ negsuc 3 ∷ []
  pub remainders : remainder (negsuc 6) (pos 2) ∷ remainder (pos 7) (negsuc 1) ∷ [] ≡ pos 1 ∷ negsuc 0 ∷ []
  pub greatest : sum (pos 9223372036854775807) (pos 1) ≡ negsuc 9223372036854775807
  pub least : quotient (negsuc 9223372036854775807) (negsuc 0) ≡ negsuc 9223372036854775807
  pub least_rest : remainder (negsuc 9223372036854775807) (negsuc 0) ≡ pos 0

pub record SamplesRun : Type 0 where
  pub thin_runs : graph_run thin 1 [] (start 5 []) [] ≡ Returned [] (record { flags = false ∷ []; turns = 5; outcomes = []; events = event.Alloc 0 ∷ event.Gate1 name.H 0 ∷ event.Free 0 ∷ [] })
  pub crossed_runs : graph_run crossed 1 [] (start 5 []) [] ≡ Returned [] (both_ended (event.Alloc 0 ∷ event.Alloc 1 ∷ event.Gate1 name.H 0 ∷ event.Gate1 name.H 1 ∷ event.Free 0 ∷ event.Free 1 ∷ []))
  pub one_pick : graph_run crossed 1 [] (start 5 []) (1 ∷ []) ≡ graph_run crossed 1 [] (start 5 []) []
  pub three_picks : graph_run crossed 1 [] (start 5 []) (0 ∷ 0 ∷ 1 ∷ []) ≡ Returned [] (both_ended (event.Alloc 0 ∷ event.Alloc 1 ∷ event.Gate1 name.H 1 ∷ event.Gate1 name.H 0 ∷ event.Free 0 ∷ event.Free 1 ∷ []))
  pub four_picks : graph_run crossed 1 [] (start 5 []) (0 ∷ 0 ∷ 4294967295 ∷ 3 ∷ []) ≡ Returned [] (both_ended (event.Alloc 0 ∷ event.Alloc 1 ∷ event.Gate1 name.H 1 ∷ event.Free 1 ∷ event.Gate1 name.H 0 ∷ event.Free 0 ∷ []))
  pub loop_runs : graph_run loop 1 [] (start 5 (true ∷ true ∷ false ∷ [])) [] ≡ Returned [] (record { flags = false ∷ []; turns = 3; outcomes = []; events = event.Alloc 0 ∷ event.Measure 0 true ∷ event.Measure 0 true ∷ event.Measure 0 false ∷ event.Free 0 ∷ [] })
  pub loop_stops : graph_run loop 1 [] (start 1 (true ∷ true ∷ false ∷ [])) [] ≡ Stopped TurnsUsed (record { flags = true ∷ []; turns = 0; outcomes = false ∷ []; events = event.Alloc 0 ∷ event.Measure 0 true ∷ event.Measure 0 true ∷ [] })
  pub counts_down : graph_run counts 1 [] (start 5 []) [] ≡ Returned [] (record { flags = []; turns = 0; outcomes = []; events = event.ResultInt (codes "n") (negsuc 0) ∷ [] })

-- All are valid, and all but `crossed` are ordered.
pub record SamplesAreValid : Type 0 where
  pub thin_valid : IsValid thin
  pub crossed_valid : IsValid crossed
  pub loop_valid : IsValid loop
  pub counts_valid : IsValid counts
  pub thin_ordered : IsOrdered thin
  pub loop_ordered : IsOrdered loop
  pub counts_ordered : IsOrdered counts
  pub crossed_unordered : IsOrdered crossed → ⊥
