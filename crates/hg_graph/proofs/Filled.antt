-- What is written down of a graph of nodes without links.
use Rattle.std.proofs.Common.{◌≡◌, ◌≢◌, ◌<◌, ◌∷◌, ◌∙◌, [], inl, inr, ℕ, zero, suc, true, false, not, eqb, List, length, map, All, slice_get, get_or, refl, sym, ap, subst, arith}
use Rattle.std.proofs.lemmas.List.{length-map}
use Rattle.std.proofs.lemmas.List.Elements.{All-get_or}
use Rattle.std.proofs.lemmas.Bool.Decides.{eqb_tells}
use Rattle.hg_graph.specs.declared.graph.Node as declared
use Rattle.hg_graph.specs.Graph.{Graph, parent_of, parent_at}
use Rattle.hg_graph.specs.code.GraphIndex.{IsIndexed, IsFilled}
use Rattle.hg_graph.specs.NodeIndex.{NodeIndex, fresh_index}
use Rattle.hg_graph.specs.NodeView.{node_view}
use Rattle.hg_ops.specs.OpView.{op_view}
use Rattle.hg_graph.proofs.IndexedNodes.{IsFilled-fresh, IsIndexed-filled}

abbrev pub bare_of : List declared.Node → Graph
bare_of nodes = record { nodes = map node_view nodes; links = [] }

get-parent : (nodes : List declared.Node) (n : ℕ) (d : declared.Node) → n < length nodes → parent_of (slice_get (map node_view nodes) n) ≡ (get_or nodes n d).parent.0
get-parent [] n d within = absurd (omega arith)
get-parent (x ∷ nodes) zero d within = refl
get-parent (x ∷ nodes) (suc n) d within = get-parent nodes n d (omega arith)

pub parent_at-bare_of : (nodes : List declared.Node) (n : ℕ) (d : declared.Node) → n < length nodes → parent_at (bare_of nodes) n ≡ (get_or nodes n d).parent.0
unfolding parent_at
parent_at-bare_of nodes n d within = get-parent nodes n d within

pub is_other : (a b : ℕ) → not (eqb a b) ≡ true → a ≢ b
is_other a b differ same = elim (eqb_tells a b) [ inl e ↦ let contrary : true ≡ false = sym differ ∙ ap not e.0 in cc | inr e ↦ e.1 same ]

pub is_same : (a b : ℕ) → not (eqb a b) ≡ false → a ≡ b
is_same a b agree = elim (eqb_tells a b) [ inl e ↦ e.1 | inr e ↦ let contrary : false ≡ true = sym agree ∙ ap not e.0 in cc ]

map_twice : (nodes : List declared.Node) → map (λ node. fresh_index (op_view node.op)) nodes ≡ map (λ node. fresh_index node.op) (map node_view nodes)
map_twice [] = refl
map_twice (x ∷ nodes) = ap (λ xs. fresh_index (op_view x.op) ∷ xs) (map_twice nodes)

pub starts : (nodes : List declared.Node) (indexes : List NodeIndex) → indexes ≡ map (λ node. fresh_index (op_view node.op)) nodes → IsFilled (bare_of nodes) 0 indexes
starts nodes indexes fresh = subst (IsFilled (bare_of nodes) 0) (sym (fresh ∙ map_twice nodes)) (IsFilled-fresh (map node_view nodes))

parents_in : (nodes : List declared.Node) (k : ℕ) → All (λ node. node.parent.0 < k) nodes → (n : ℕ) → n < length nodes → parent_at (bare_of nodes) n < k
parents_in [] k all n within = absurd (omega arith)
parents_in (x ∷ nodes) k all n within =
    subst (λ p. p < k) (sym (parent_at-bare_of (x ∷ nodes) n x within)) (All-get_or (λ node. node.parent.0 < k) (x ∷ nodes) n x within all)

pub ends : (nodes : List declared.Node) (indexes : List NodeIndex) → 0 < length nodes → All (λ node. node.parent.0 < length nodes) nodes → IsFilled (bare_of nodes) (length nodes) indexes
    → IsIndexed (bare_of nodes) indexes
ends nodes indexes some all filled =
    let many : length (map node_view nodes) ≡ length nodes = length-map nodes node_view in
    IsIndexed-filled (map node_view nodes) indexes
    (record {
      some = omega (arith, many);
      parents = λ n within. subst (λ c. parent_at (bare_of nodes) n < c) (sym many) (parents_in nodes (length nodes) all n (subst (λ c. n < c) many within));
      links = λ link i. absurd i;
    })
    (subst (λ k. IsFilled (bare_of nodes) k indexes) (sym many) filled)
