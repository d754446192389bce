-- Static links.
use Rattle.std.proofs.Common.{◌≡◌, ℕ, Some, length, sym, ap, subst, ◌∙◌}
use Rattle.hg_ops.specs.Op.{Types, ins_of}
use Rattle.hg_graph.specs.Graph.{Graph, Port, op_at, parent_at, feeder, static_input}
use Rattle.hg_graph.specs.Valid.{HasCallee, HasConstant, IsAncestor}
use Rattle.hg_valid.specs.code.Parts.{IsFunctionOf, IsOnlySource}

-- the static input by its number
pub static_at : (g : Graph) (n p : ℕ) → p ≡ length (ins_of (op_at g n)) → record { node = n; index = p } ≡ static_input g n
static_at g n p e = let at : ℕ → Port = λ k. record { node = n; index = k } in ap at e

same_port : (a b : Port) → Some a ≡ Some b → a ≡ b
same_port a b e = cc

module _ (g : Graph) (n : ℕ) (ins outs : Types) (from : Port) (fed : feeder g.links (static_input g n) ≡ Some from) where
  pub callee_made : IsFunctionOf (op_at g from.node) ins outs → HasCallee g n ins outs
  callee_made f = record { source = from; is_source = fed; name = f.0; is_function = f.1 }

  pub callee_is : HasCallee g n ins outs → IsFunctionOf (op_at g from.node) ins outs
  callee_is H = subst (λ p. IsFunctionOf (op_at g p.node) ins outs) (same_port H.source from (sym H.is_source ∙ fed)) (H.name, H.is_function)

module _ (g : Graph) (n : ℕ) (from : Port) (only : IsOnlySource g (static_input g n) from) where
  pub constant_made : IsAncestor g (parent_at g from.node) n → HasConstant g n
  constant_made h = record { static = record { once = only.once; source = from; is_source = only.is_source }; seen = h }

  pub constant_is : HasConstant g n → IsAncestor g (parent_at g from.node) n
  constant_is H = subst (λ p. IsAncestor g (parent_at g p.node) n) (same_port H.static.source from (sym H.static.is_source ∙ only.is_source)) H.seen
