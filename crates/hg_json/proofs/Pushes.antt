-- Writing the text of a graph.
use Rattle.std.proofs.Common.{◌≡◌, ℕ, ◌+◌, ◌<◌, List, ◌∷◌, ◌++◌, length, drop, get_or, nat_lt, true, false, Option, Some, refl, sym, ap, ◌∙◌, append_assoc, arith, slice_get}
use Rattle.std.specs.Prelude.{codes}
use Rattle.std.proofs.lemmas.Bool.{lt-ltb}
use Rattle.std.proofs.lemmas.List.{drop_more}
use Rattle.std.proofs.lemmas.Option.{get_or_from_slice_get, slice_get-get_or}
use Rattle.serde_json.specs.Data.{Data, string, array, object, Items, no_members, member}
use Rattle.serde_json.specs.Written.{comma_if, compact_text, items_text}
use Rattle.serde_json.proofs.OnLiterals.{serde_json_on_literals}
use Rattle.hg_graph.specs.Graph.{Node, Link, Graph, op_at, parent_at}
use Rattle.hg_json.specs.GraphText.{array_of, node_data, link_data, graph_data, json}

-- ---- a loop that writes one entry after the other

module _ {A : Type 0} (data_of : A → Data) (xs : List A) (k : ℕ) where
  pub one_written : (out new total : List ℕ) (x : A) → k < length xs → x ≡ get_or xs k x → new ≡ out ++ (comma_if (nat_lt 0 k) ++ compact_text (data_of x))
      → out ++ items_text (nat_lt 0 k) (array_of data_of (drop k xs)) ≡ total → new ++ items_text (nat_lt 0 (k + 1)) (array_of data_of (drop (k + 1) xs)) ≡ total
  one_written out new total x lt is e so_far =
      let c = comma_if (nat_lt 0 k) in
      let t = compact_text (data_of x) in
      let rest = items_text true (array_of data_of (drop (k + 1) xs)) in
      let here : drop k xs ≡ x ∷ drop (k + 1) xs = drop_more xs k x lt ∙ ap (λ y. y ∷ drop (k + 1) xs) (sym is) in
      let later : nat_lt 0 (k + 1) ≡ true = lt-ltb 0 (k + 1) (omega arith) in
      let first : out ++ items_text (nat_lt 0 k) (array_of data_of (drop k xs)) ≡ out ++ (c ++ (t ++ rest)) = ap (λ ys. out ++ items_text (nat_lt 0 k) (array_of data_of ys)) here in
      ap (λ b. new ++ items_text b (array_of data_of (drop (k + 1) xs))) later ∙ ap (λ s. s ++ rest) e ∙ append_assoc out (c ++ t) rest ∙ ap (λ s. out ++ s) (append_assoc c t rest) ∙ sym first ∙ so_far

-- the entries that the readers of a graph give

pub link-read : (links : List Link) (k : ℕ) (found : Option Link) (link : Link) → found ≡ slice_get links k → found ≡ Some link → link ≡ get_or links k link
link-read links k found link looked some = sym (get_or_from_slice_get links k link link (sym looked ∙ some))

pub node-read : (g : Graph) (k : ℕ) (d : Node) → k < length g.nodes → record { op = op_at g k; parent = parent_at g k } ≡ get_or g.nodes k d
unfolding op_at parent_at
node-read g k d within = rw (slice_get-get_or g.nodes k d within) refl

-- ---- the whole text from its pieces

pieces : (es ns : Items)
    → codes "{\"edges\":[" ++ (items_text false es ++ (codes ",\"nodes\":[" ++ (items_text false ns ++ codes ",\"version\":\"profile-2\"}")))
    ≡ compact_text (object (member (codes "edges") (array es) (member (codes "nodes") (array ns) (member (codes "version") (string (codes "profile-2")) no_members))))
unfolding serde_json_on_literals
pieces es ns = refl

pub whole_text : (g : Graph)
    → (((codes "{\"edges\":[" ++ items_text false (array_of link_data g.links)) ++ codes ",\"nodes\":[") ++ items_text false (array_of node_data g.nodes)) ++ codes ",\"version\":\"profile-2\"}" ≡ json g
unfolding json graph_data
whole_text g =
    let es = items_text false (array_of link_data g.links) in
    let ns = items_text false (array_of node_data g.nodes) in
    let a = codes "{\"edges\":[" in
    let b = codes ",\"nodes\":[" in
    let c = codes ",\"version\":\"profile-2\"}" in
    append_assoc ((a ++ es) ++ b) ns c ∙ append_assoc (a ++ es) b (ns ++ c) ∙ append_assoc a es (b ++ (ns ++ c)) ∙ pieces (array_of link_data g.links) (array_of node_data g.nodes)
