-- Which firings take a turn.
use Rattle.std.proofs.Common.{◌≡◌, ℕ, Bool, true, false, List, [], ◌∷◌, Option, Some, None, inl, inr, refl}
use Rattle.hg_ops.specs.Op.{Op, Call, CallIndirect, Types, takes_turn}
use Rattle.hg_graph.specs.Graph.{Graph, Port, op_at, feeder, static_input}
use Rattle.hg_graph.specs.Run.{Open, State, Enter, no_note, after_turn, at_node, at_port, with_function, fire_op}
use Rattle.hg_graph.specs.Value.{Value, Int, Qubit, Variant, Function, callee}
use Rattle.hg_laws.specs.Laws.{TakesTurn, CallsTakeTurns}

module _ (g : Graph) (inside again : Enter (Unit {0})) (outer : List Open) (n : ℕ) (s : State (Unit {0})) where
  through_port : (vs : List Value) (port : Option Port) → TakesTurn again outer s (at_port port (λ f. after_turn again outer f vs) s)
  through_port vs None = inl refl
  through_port vs (Some port) = inr (port.node, vs, refl)

  to_node : (vs : List Value) (f : Option ℕ) → TakesTurn again outer s (at_node f (λ f. after_turn again outer f vs) s)
  to_node vs None = inl refl
  to_node vs (Some f) = inr (f, vs, refl)

  by_value : (ins outs : Types) (vs : List Value)
      → TakesTurn again outer s (with_function vs (λ name us. at_node (callee g ins outs name) (λ f. after_turn again outer f us)) s)
  by_value ins outs [] = inl refl
  by_value ins outs (Int k ∷ vs) = inl refl
  by_value ins outs (Qubit q ∷ vs) = inl refl
  by_value ins outs (Variant k us ∷ vs) = inl refl
  by_value ins outs (Function name ∷ vs) = to_node vs (callee g ins outs name)

  calls : (op : Op) (vs : List Value) → takes_turn op ≡ true → TakesTurn again outer s (fire_op no_note g inside again op outer n vs s)
  unfolding fire_op
  calls (Call ins outs) vs t = through_port vs (feeder g.links (static_input g n))
  calls (CallIndirect ins outs) vs t = by_value ins outs vs
  calls _ vs t = absurd cc

  others : (other : Enter (Unit {0})) (op : Op) (vs : List Value) → takes_turn op ≡ false
      → fire_op no_note g inside again op outer n vs s ≡ fire_op no_note g inside other op outer n vs s
  unfolding fire_op
  others other (Call ins outs) vs t = absurd cc
  others other (CallIndirect ins outs) vs t = absurd cc
  others other _ vs t = refl

pub calls_take_turns_lem : CallsTakeTurns
calls_take_turns_lem = record {
  calls = λ g inside again outer n vs s t. calls g inside again outer n s (op_at g n) vs t;
  others = λ g inside again other outer n vs s t. others g inside again outer n s other (op_at g n) vs t;
}
