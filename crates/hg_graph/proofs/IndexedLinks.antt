-- What is kept of the nodes fits the graph after a link was added.
use Rattle.std.proofs.Common.{◌≡◌, ◌≢◌, ◌<◌, ◌++◌, ◌∷◌, ◌∙◌, [], inl, inr, ◌⊎◌, ℕ, if◌then◌else◌, nat_lt, List, Some, length, map, filter, slice_get, refl, sym, ap, subst}
use Rattle.std.proofs.lemmas.List.{length-map}
use Rattle.std.proofs.lemmas.List.Elements.{filter-append}
use Rattle.std.proofs.lemmas.List.{append-nil}
use Rattle.std.proofs.lemmas.Bool.Decides.{eqb_tells}
use Rattle.gp_base.specs.Membership.{In}
use Rattle.hg_graph.specs.Graph.{Graph, Link, Ports, Order, Port, LinkIsWithin, IsGraph, numbers, op_at, parent_at, children}
use Rattle.hg_graph.specs.NodeIndex.{NodeIndex, node_index, input_count, output_count, numbers_into, numbers_from, orders_into, orders_from, is_into, is_from, is_stray, is_order_into, is_order_from, with_input, with_output, with_before, with_after}
use Rattle.hg_graph.specs.code.GraphIndex.{IsIndexed, updated, with_ports, with_order}
use Rattle.hg_graph.proofs.LinkNumbers.{length-numbers, map-same, numbers-other, numbers-more, inputs-same, inputs-pushed, outputs-same, outputs-pushed, strays-same, strays-pushed}
use Rattle.hg_graph.proofs.Updates.{length-updated, get-updated_same, get-updated_other}

-- the graph with a link more
abbrev pub linked : Graph → Link → Graph
linked g link = record g { links = g.links ++ link ∷ [] }

In-append_one : (links : List Link) (link x : Link) → In x (links ++ link ∷ []) → In x links ⊎ (x ≡ link)
In-append_one [] link x (inl e) = inr e
In-append_one [] link x (inr i) = absurd i
In-append_one (y ∷ links) link x (inl e) = inl (inl e)
In-append_one (y ∷ links) link x (inr i) = elim (In-append_one links link x i) [ inl j ↦ inl (inr j) | inr e ↦ inr e ]

pub IsGraph-linked : (g : Graph) (link : Link) → IsGraph g → LinkIsWithin (length g.nodes) link → IsGraph (linked g link)
unfolding parent_at
IsGraph-linked g link is within = record {
  some = is.some;
  parents = is.parents;
  links = λ x i. elim (In-append_one g.links link x i) [ inl j ↦ is.links x j | inr e ↦ subst (LinkIsWithin (length g.nodes)) (sym e) within ];
}

module _ (g : Graph) (a b : Port) where
  abbrev g' : Graph
  g' = linked g (Ports a b)

  abbrev count : ℕ
  count = length g.links

  -- node n after the output was written, and after the input was
  half : ℕ → NodeIndex
  half n = record (node_index g n) { outputs = map (λ p. numbers_from g'.links (record { node = n; index = p })) (numbers 0 (output_count g n)) }

  output_done : (n : ℕ) (indexes : List NodeIndex) → slice_get indexes n ≡ Some (node_index g n) → slice_get (updated a.node (with_output a.index count) indexes) n ≡ Some (half n)
  unfolding half node_index
  output_done n indexes is = elim (eqb_tells a.node n) [
    | inl e ↦ subst (λ m. slice_get (updated m (with_output a.index count) indexes) n ≡ Some (half n)) (sym e.1)
        (get-updated_same n (with_output a.index count) indexes (node_index g n) is
        ∙ ap (λ (ls : List (List ℕ)). Some (record (node_index g n) { outputs = ls })) (sym (outputs-pushed g.links a b n (output_count g n) e.1)))
    | inr e ↦ get-updated_other a.node n (with_output a.index count) indexes e.1 ∙ is
        ∙ ap (λ (ls : List (List ℕ)). Some (record (node_index g n) { outputs = ls })) (sym (outputs-same g.links a b n (output_count g n) e.1))
  ]

  -- what the code writes at the input is what the longer list of links has there
  input_written : (n : ℕ) → b.node ≡ n → with_input b.index (Ports a b) count (half n) ≡ node_index g' n
  unfolding half node_index op_at children parent_at
  input_written n here =
      let many : length (map (λ p. numbers_into g.links (record { node = n; index = p })) (numbers 0 (input_count g n))) ≡ input_count g n =
      length-map (numbers 0 (input_count g n)) _ ∙ length-numbers 0 (input_count g n) in
      let strays : (if nat_lt b.index (length (half n).inputs) then (half n).strays else (half n).strays ++ Ports a b ∷ []) ≡ filter (is_stray n (input_count g n)) g'.links =
      ap (λ c. if nat_lt b.index c then (half n).strays else (half n).strays ++ Ports a b ∷ []) many ∙ sym (strays-pushed g.links a b n (input_count g n) here) in
      λ i. record {
        children = children g n;
        inputs = sym (inputs-pushed g.links a b n (input_count g n) here) i;
        outputs = (half n).outputs;
        before = sym (numbers-other (is_order_into n) g.links (Ports a b) refl) i;
        after = sym (numbers-other (is_order_from n) g.links (Ports a b) refl) i;
        strays = strays i;
      }

  input_other : (n : ℕ) → b.node ≢ n → half n ≡ node_index g' n
  unfolding half node_index op_at children parent_at
  input_other n other = λ i. record {
    children = children g n;
    inputs = sym (inputs-same g.links a b n (input_count g n) other) i;
    outputs = (half n).outputs;
    before = sym (numbers-other (is_order_into n) g.links (Ports a b) refl) i;
    after = sym (numbers-other (is_order_from n) g.links (Ports a b) refl) i;
    strays = sym (strays-same g.links a b n (input_count g n) other) i;
  }

  input_done : (n : ℕ) (indexes : List NodeIndex) → slice_get indexes n ≡ Some (half n) → slice_get (updated b.node (with_input b.index (Ports a b) count) indexes) n ≡ Some (node_index g' n)
  input_done n indexes is = elim (eqb_tells b.node n) [
    | inl e ↦ subst (λ m. slice_get (updated m (with_input b.index (Ports a b) count) indexes) n ≡ Some (node_index g' n)) (sym e.1)
        (get-updated_same n (with_input b.index (Ports a b) count) indexes (half n) is ∙ ap Some (input_written n e.1))
    | inr e ↦ get-updated_other b.node n (with_input b.index (Ports a b) count) indexes e.1 ∙ is ∙ ap Some (input_other n e.1)
  ]

  pub IsIndexed-ports : (indexes : List NodeIndex) → IsIndexed g indexes → a.node < length g.nodes → b.node < length g.nodes
      → IsIndexed g' (with_ports a b count indexes)
  IsIndexed-ports indexes is from_in to_in = record {
    graph = IsGraph-linked g (Ports a b) is.graph (from_in, to_in);
    count = length-updated b.node _ _ ∙ length-updated a.node _ indexes ∙ is.count;
    each = λ n within. input_done n _ (output_done n indexes (is.each n within));
  }

-- ---- an order link
module _ (g : Graph) (a b : ℕ) where
  abbrev h : Graph
  h = linked g (Order a b)

  abbrev number : ℕ
  number = length g.links

  half_ordered : ℕ → NodeIndex
  half_ordered n = record (node_index g n) { after = orders_from h.links n }

  after_done : (n : ℕ) (indexes : List NodeIndex) → slice_get indexes n ≡ Some (node_index g n) → slice_get (updated a (with_after number) indexes) n ≡ Some (half_ordered n)
  unfolding half_ordered node_index
  after_done n indexes is = elim (eqb_tells a n) [
    | inl e ↦ subst (λ m. slice_get (updated m (with_after number) indexes) n ≡ Some (half_ordered n)) (sym e.1)
        (get-updated_same n (with_after number) indexes (node_index g n) is
        ∙ ap (λ (ks : List ℕ). Some (record (node_index g n) { after = ks })) (sym (numbers-more (is_order_from n) g.links (Order a b) e.0)))
    | inr e ↦ get-updated_other a n (with_after number) indexes e.1 ∙ is
        ∙ ap (λ (ks : List ℕ). Some (record (node_index g n) { after = ks })) (sym (numbers-other (is_order_from n) g.links (Order a b) e.0))
  ]

  -- no port has an order link
  strays_ordered : (n c : ℕ) → filter (is_stray n c) h.links ≡ filter (is_stray n c) g.links
  strays_ordered n c = filter-append (is_stray n c) g.links (Order a b ∷ []) ∙ append-nil (filter (is_stray n c) g.links)

  ordered : (n : ℕ) (before : List ℕ) → orders_into h.links n ≡ before → record (half_ordered n) { before = before } ≡ node_index h n
  unfolding half_ordered node_index op_at children parent_at
  ordered n before is = λ i. record {
    children = children g n;
    inputs = sym (map-same _ _ 0 (input_count g n) (λ p _. numbers-other (is_into (record { node = n; index = p })) g.links (Order a b) refl)) i;
    outputs = sym (map-same _ _ 0 (output_count g n) (λ p _. numbers-other (is_from (record { node = n; index = p })) g.links (Order a b) refl)) i;
    before = sym is i;
    after = orders_from h.links n;
    strays = sym (strays_ordered n (input_count g n)) i;
  }

  before_done : (n : ℕ) (indexes : List NodeIndex) → slice_get indexes n ≡ Some (half_ordered n) → slice_get (updated b (with_before number) indexes) n ≡ Some (node_index h n)
  unfolding half_ordered node_index
  before_done n indexes is = elim (eqb_tells b n) [
    | inl e ↦ subst (λ m. slice_get (updated m (with_before number) indexes) n ≡ Some (node_index h n)) (sym e.1)
        (get-updated_same n (with_before number) indexes (half_ordered n) is ∙ ap Some (ordered n _ (numbers-more (is_order_into n) g.links (Order a b) e.0)))
    | inr e ↦ get-updated_other b n (with_before number) indexes e.1 ∙ is ∙ ap Some (ordered n _ (numbers-other (is_order_into n) g.links (Order a b) e.0))
  ]

  pub IsIndexed-order : (indexes : List NodeIndex) → IsIndexed g indexes → a < length g.nodes → b < length g.nodes → IsIndexed h (with_order a b number indexes)
  IsIndexed-order indexes is from_in to_in = record {
    graph = IsGraph-linked g (Order a b) is.graph (from_in, to_in);
    count = length-updated b _ _ ∙ length-updated a _ indexes ∙ is.count;
    each = λ n within. before_done n _ (after_done n indexes (is.each n within));
  }

-- what the code wrote, by what it wrote
pub ports_in_step : (g : Graph) (a b : Port) (links : List Link) (k : ℕ) (indexes now : List NodeIndex) → IsIndexed g indexes → a.node < length g.nodes → b.node < length g.nodes
    → links ≡ g.links ++ Ports a b ∷ [] → k ≡ length g.links → now ≡ with_ports a b k indexes → IsIndexed (record g { links = links }) now
ports_in_step g a b links k indexes now fits from_in to_in more last written =
    subst (λ (ls : List Link). IsIndexed (record g { links = ls }) now) (sym more)
    (subst (IsIndexed (linked g (Ports a b))) (sym (written ∙ ap (λ j. with_ports a b j indexes) last)) (IsIndexed-ports g a b indexes fits from_in to_in))

pub order_in_step : (g : Graph) (a b : ℕ) (links : List Link) (k : ℕ) (indexes now : List NodeIndex) → IsIndexed g indexes → a < length g.nodes → b < length g.nodes
    → links ≡ g.links ++ Order a b ∷ [] → k ≡ length g.links → now ≡ with_order a b k indexes → IsIndexed (record g { links = links }) now
order_in_step g a b links k indexes now fits from_in to_in more last written =
    subst (λ (ls : List Link). IsIndexed (record g { links = ls }) now) (sym more)
    (subst (IsIndexed (linked g (Order a b))) (sym (written ∙ ap (λ j. with_order a b j indexes) last)) (IsIndexed-order g a b indexes fits from_in to_in))
