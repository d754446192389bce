-- Tags and truth values.
use Rattle.std.proofs.Common.{◌≡◌, ℕ, zero, suc, ◌≤◌, ◌<◌, ◌⊎◌, inl, inr, get_or, map, length, List, [], ◌∷◌, Some, None, refl, sym, ap, ◌∙◌, subst, arith}
use Rattle.std.specs.Prelude.{slice_get}
use Rattle.std.proofs.lemmas.Option.{slice_get_past, slice_get_cases}
use Rattle.hg_ops.specs.Op.{Module}
use Rattle.hg_graph.specs.Graph.{Graph, Node, op_of, op_at}
use Rattle.hg_graph.specs.Valid.{VariantsAndTags}
use Rattle.hg_graph.specs.Valid.{IsValid, KeepsTags}
use Rattle.hg_graph.specs.Value.{Value, Variant, packed, truth_of}
use Rattle.hg_run.specs.declared.value.Value.{Value as Declared}
use Rattle.hg_run.specs.code.ValueView.{value_view}
use Rattle.hg_run.specs.code.Stepped.{TagsAreKept}

-- a variant with values is no truth value
no_truth : (k : ℕ) (v : Value) (vs : List Value) → None ≡ truth_of (Variant k (packed (v ∷ vs)))
no_truth zero v vs = refl
no_truth (suc zero) v vs = refl
no_truth (suc (suc k)) v vs = refl

pub no_truth_in : (k : ℕ) (vs : List Declared) (row : List Value) → map value_view vs ≡ row → 1 ≤ length vs → None ≡ truth_of (Variant k (packed row))
no_truth_in k [] row e h = absurd (omega (arith, h))
no_truth_in k (v ∷ vs) row e h = no_truth k (value_view v) (map value_view vs) ∙ ap (λ row. truth_of (Variant k (packed row))) e

op_past : (g : Graph) (n : ℕ) → length g.nodes ≤ n → op_at g n ≡ Module
unfolding op_at
op_past g n h = ap op_of (slice_get_past g.nodes n h)

-- a valid graph keeps its tags
pub tags_kept : (g : Graph) → IsValid g → TagsAreKept g
tags_kept g v n = split (slice_get_cases g.nodes n).1
  where
    split : ((x : Node) × (n < length g.nodes) × (slice_get g.nodes n ≡ Some x) × (get_or g.nodes n x ≡ x)) ⊎ ((length g.nodes ≤ n) × (slice_get g.nodes n ≡ None)) → KeepsTags (op_at g n)
    split (inl (x, l, e, d)) = v.keeps VariantsAndTags n l
    split (inr (l, e)) = subst KeepsTags (sym (op_past g n l)) tt
