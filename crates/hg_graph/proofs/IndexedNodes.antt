-- What is kept of the nodes fits the graph after a node was added.
use Rattle.std.proofs.Common.{◌≡◌, ◌≢◌, ◌<◌, ◌+◌, ◌++◌, ◌∷◌, ◌∙◌, ◌==◌, ◌&&◌, [], inl, inr, ◌⊎◌, ℕ, zero, suc, Bool, true, false, if◌then◌else◌, not, nat_lt, List, Some, length, map, filter, slice_get, replicate, refl, sym, ap, ap₂, subst, arith, zero-add}
use Rattle.std.proofs.lemmas.List.{length-append, length-map, append-nil}
use Rattle.std.proofs.lemmas.List.Elements.{filter-append}
use Rattle.std.proofs.lemmas.Bool.Decides.{eqb_tells}
use Rattle.hg_ops.specs.Op.{input_ports, output_ports}
use Rattle.gp_base.specs.Membership.{In}
use Rattle.hg_graph.specs.Graph.{Graph, Node, Link, Ports, Order, LinkIsWithin, IsGraph, numbers, op_of, op_at, parent_of, parent_at, children}
use Rattle.hg_graph.specs.NodeIndex.{NodeIndex, node_index, input_count, output_count, numbers_into, numbers_from, orders_into, orders_from, is_into, is_from, is_stray, is_order_into, is_order_from, with_child, fresh_index}
use Rattle.hg_graph.specs.code.GraphIndex.{IsIndexed, IsFilled, index_below, updated}
use Rattle.hg_graph.proofs.LinkNumbers.{eqb-other, and-false, map-copies, numbers-none}
use Rattle.hg_graph.proofs.Updates.{length-updated, get-updated_same, get-updated_other}

-- ---- lists with one entry more

pub get-append_within : {A : Type 0} (xs : List A) (x : A) (n : ℕ) → n < length xs → slice_get (xs ++ x ∷ []) n ≡ slice_get xs n
get-append_within [] x n within = absurd (omega arith)
get-append_within (y ∷ ys) x zero within = refl
get-append_within (y ∷ ys) x (suc n) within = get-append_within ys x n (omega arith)

pub get-append_end : {A : Type 0} (xs : List A) (x : A) → slice_get (xs ++ x ∷ []) (length xs) ≡ Some x
get-append_end [] x = refl
get-append_end (y ∷ ys) x = get-append_end ys x

numbers_snoc : (s c : ℕ) → s ∷ numbers (suc s) c ≡ numbers s c ++ (s + c) ∷ []
numbers_snoc s zero = let e : s ≡ s + 0 = omega arith in ap (λ j. j ∷ []) e
numbers_snoc s (suc c) = let e : suc s + c ≡ s + suc c = omega arith in ap (λ ks. s ∷ ks) (numbers_snoc (suc s) c ∙ ap (λ j. numbers (suc s) c ++ j ∷ []) e)

pub numbers-next : (c : ℕ) → numbers 0 (suc c) ≡ numbers 0 c ++ c ∷ []
numbers-next c = numbers_snoc 0 c ∙ ap (λ j. numbers 0 c ++ j ∷ []) (zero-add c)

pub filter-same : (f g : ℕ → Bool) (s c : ℕ) → ((p : ℕ) → p < s + c → f p ≡ g p) → filter f (numbers s c) ≡ filter g (numbers s c)
filter-same f g s zero same = refl
filter-same f g s (suc c) same =
    ap (λ (b : Bool). if b then s ∷ filter f (numbers (suc s) c) else filter f (numbers (suc s) c)) (same s (omega arith))
    ∙ ap (λ (ks : List ℕ). if g s then s ∷ ks else ks) (filter-same f g (suc s) c (λ p below. same p (omega arith)))

pub filter-none : (f : ℕ → Bool) (s c : ℕ) → ((p : ℕ) → p < s + c → f p ≡ false) → filter f (numbers s c) ≡ []
filter-none f s zero none = refl
filter-none f s (suc c) none =
    ap (λ (b : Bool). if b then s ∷ filter f (numbers (suc s) c) else filter f (numbers (suc s) c)) (none s (omega arith))
    ∙ filter-none f (suc s) c (λ p below. none p (omega arith))

filter-links-none : (f : Link → Bool) (links : List Link) → ((link : Link) → In link links → f link ≡ false) → filter f links ≡ []
filter-links-none f [] none = refl
filter-links-none f (x ∷ links) none =
    ap (λ (b : Bool). if b then x ∷ filter f links else filter f links) (none x (inl refl)) ∙ filter-links-none f links (λ link i. none link (inr i))

-- ---- the graph with a node more

abbrev pub grown : Graph → Node → Graph
grown g node = record g { nodes = g.nodes ++ node ∷ [] }

module _ (g : Graph) (node : Node) (is : IsGraph g) (parent_in : node.parent < length g.nodes) where
  abbrev g' : Graph
  g' = grown g node

  abbrev count : ℕ
  count = length g.nodes

  length_grown : length g'.nodes ≡ suc count
  length_grown = omega (arith, length-append g.nodes (node ∷ []))

  old_op : (n : ℕ) → n < count → op_at g' n ≡ op_at g n
  unfolding op_at
  old_op n within = ap op_of (get-append_within g.nodes node n within)

  old_parent : (n : ℕ) → n < count → parent_at g' n ≡ parent_at g n
  unfolding parent_at
  old_parent n within = ap parent_of (get-append_within g.nodes node n within)

  new_op : op_at g' count ≡ node.op
  unfolding op_at
  new_op = ap op_of (get-append_end g.nodes node)

  new_parent : parent_at g' count ≡ node.parent
  unfolding parent_at
  new_parent = ap parent_of (get-append_end g.nodes node)

  below : (n : ℕ) → n < length g'.nodes → (n < count) ⊎ (n ≡ count)
  below n within =
      let short : n < suc count = subst (λ c. n < c) length_grown within in
      elim (eqb_tells n count) [ inl e ↦ inr e.1 | inr e ↦ let ne = e.1 in inl (omega arith) ]

  pub IsGraph-grown : IsGraph g'
  IsGraph-grown = record {
    some = omega (arith, length_grown);
    parents = λ n within. elim (below n within) [
      | inl old ↦ omega (arith, length_grown, old_parent n old, is.parents n old)
      | inr new ↦ subst (λ m. parent_at g' m < length g'.nodes) (sym new) (omega (arith, length_grown, new_parent))
    ];
    links = λ link i. wider link (is.links link i);
  }
    where
      wider : (link : Link) → LinkIsWithin (length g.nodes) link → LinkIsWithin (length g'.nodes) link
      wider (Ports a b) w = (omega (arith, w.0, length_grown), omega (arith, w.1, length_grown))
      wider (Order a b) w = (omega (arith, w.0, length_grown), omega (arith, w.1, length_grown))

  -- the children of node c among the numbers below some
  abbrev is_child : Graph → ℕ → ℕ → Bool
  is_child k c n = parent_at k n == c && not (n == c)

  children_grown : (c : ℕ) → children g' c ≡ children g c ++ (if is_child g' c count then count ∷ [] else [])
  unfolding children
  children_grown c =
      ap (λ k. filter (is_child g' c) (numbers 0 k)) length_grown
      ∙ ap (filter (is_child g' c)) (numbers-next count)
      ∙ filter-append (is_child g' c) (numbers 0 count) (count ∷ [])
      ∙ ap (λ ks. ks ++ (if is_child g' c count then count ∷ [] else []))
      (filter-same (is_child g' c) (is_child g c) 0 count (λ p short. let within : p < count = omega (arith, short) in ap (λ q. q == c && not (p == c)) (old_parent p within)))

  child_test : (c : ℕ) → c < count → is_child g' c count ≡ (node.parent == c)
  child_test c within =
      let other : count ≢ c = λ e. absurd (omega arith) in
      ap₂ (λ p t. (p == c) && not t) new_parent (eqb-other count c other) ∙ and_true (node.parent == c)
    where
      and_true : (b : Bool) → (b && true) ≡ b
      and_true true = refl
      and_true false = refl

  with_children : (n : ℕ) (ks : List ℕ) → n < count → children g' n ≡ ks → record (node_index g n) { children = ks } ≡ node_index g' n
  unfolding node_index
  with_children n ks within has = λ i. record {
    children = sym has i;
    inputs = map (λ p. numbers_into g.links (record { node = n; index = p })) (numbers 0 (length (input_ports (sym (old_op n within) i))));
    outputs = map (λ p. numbers_from g.links (record { node = n; index = p })) (numbers 0 (length (output_ports (sym (old_op n within) i))));
    before = orders_into g.links n;
    after = orders_from g.links n;
    strays = filter (is_stray n (length (input_ports (sym (old_op n within) i)))) g.links;
  }

  children_of_parent : (n : ℕ) → n < count → (node.parent == n) ≡ true → children g' n ≡ children g n ++ count ∷ []
  children_of_parent n within e =
      children_grown n ∙ ap (λ b. children g n ++ (if b then count ∷ [] else [])) (child_test n within ∙ e)

  children_of_other : (n : ℕ) → n < count → (node.parent == n) ≡ false → children g' n ≡ children g n
  children_of_other n within e =
      children_grown n ∙ ap (λ b. children g n ++ (if b then count ∷ [] else [])) (child_test n within ∙ e) ∙ append-nil (children g n)

  old_done : (indexes : List NodeIndex) (n : ℕ) → n < count → slice_get indexes n ≡ Some (node_index g n) → slice_get (updated node.parent (with_child count) indexes) n ≡ Some (node_index g' n)
  unfolding node_index
  old_done indexes n within has = elim (eqb_tells node.parent n) [
    | inl e ↦ subst (λ m. slice_get (updated m (with_child count) indexes) n ≡ Some (node_index g' n)) (sym e.1)
        (get-updated_same n (with_child count) indexes (node_index g n) has ∙ ap Some (with_children n _ within (children_of_parent n within e.0)))
    | inr e ↦ get-updated_other node.parent n (with_child count) indexes e.1 ∙ has ∙ ap Some (with_children n _ within (children_of_other n within e.0))
  ]

  -- no link leads to or from the new node
  into_none : (p : ℕ) (link : Link) → LinkIsWithin count link → is_into (record { node = count; index = p }) link ≡ false
  into_none p (Ports a b) w = let other : b.node ≢ count = λ e. absurd (omega (arith, w.1)) in ap (λ t. t && (b.index == p)) (eqb-other b.node count other)
  into_none p (Order a b) w = refl

  from_none : (p : ℕ) (link : Link) → LinkIsWithin count link → is_from (record { node = count; index = p }) link ≡ false
  from_none p (Ports a b) w = let other : a.node ≢ count = λ e. absurd (omega (arith, w.0)) in ap (λ t. t && (a.index == p)) (eqb-other a.node count other)
  from_none p (Order a b) w = refl

  order_into_none : (link : Link) → LinkIsWithin count link → is_order_into count link ≡ false
  order_into_none (Ports a b) w = refl
  order_into_none (Order a b) w = eqb-other b count (λ e. absurd (omega (arith, w.1)))

  order_from_none : (link : Link) → LinkIsWithin count link → is_order_from count link ≡ false
  order_from_none (Ports a b) w = refl
  order_from_none (Order a b) w = eqb-other a count (λ e. absurd (omega (arith, w.0)))

  stray_none : (c : ℕ) (link : Link) → LinkIsWithin count link → is_stray count c link ≡ false
  stray_none c (Ports a b) w = let other : b.node ≢ count = λ e. absurd (omega (arith, w.1)) in ap (λ t. t && not (nat_lt b.index c)) (eqb-other b.node count other)
  stray_none c (Order a b) w = refl

  no_children : children g' count ≡ []
  unfolding children
  no_children = ap (λ k. filter (is_child g' count) (numbers 0 k)) length_grown ∙ filter-none (is_child g' count) 0 (suc count) none
    where
      none : (p : ℕ) → p < 0 + suc count → is_child g' count p ≡ false
      none p short = elim (eqb_tells p count) [
        | inl e ↦ and-false (parent_at g' p == count) (not (p == count)) (ap not e.0)
        | inr e ↦
            let ne = e.1 in
            let within : p < count = omega arith in
            let other : parent_at g' p ≢ count = λ f. absurd (omega (arith, f, old_parent p within, is.parents p within)) in
            ap (λ t. t && not (p == count)) (eqb-other (parent_at g' p) count other)
      ]

  pub new_index : node_index g' count ≡ fresh_index node.op
  unfolding node_index
  new_index = λ i. record {
    children = no_children i;
    inputs = inputs i;
    outputs = outputs i;
    before = numbers-none (is_order_into count) 0 g.links (λ link j. order_into_none link (is.links link j)) i;
    after = numbers-none (is_order_from count) 0 g.links (λ link j. order_from_none link (is.links link j)) i;
    strays = filter-links-none (is_stray count (input_count g' count)) g.links (λ link j. stray_none (input_count g' count) link (is.links link j)) i;
  }
    where
      inputs : map (λ p. numbers_into g.links (record { node = count; index = p })) (numbers 0 (input_count g' count)) ≡ replicate (length (input_ports node.op)) []
      inputs =
          map-copies _ [] 0 (input_count g' count) (λ p. numbers-none (is_into (record { node = count; index = p })) 0 g.links (λ link j. into_none p link (is.links link j)))
          ∙ ap (λ op. replicate (length (input_ports op)) []) new_op

      outputs : map (λ p. numbers_from g.links (record { node = count; index = p })) (numbers 0 (output_count g' count)) ≡ replicate (length (output_ports node.op)) []
      outputs =
          map-copies _ [] 0 (output_count g' count) (λ p. numbers-none (is_from (record { node = count; index = p })) 0 g.links (λ link j. from_none p link (is.links link j)))
          ∙ ap (λ op. replicate (length (output_ports op)) []) new_op

  abbrev changed : List NodeIndex → List NodeIndex
  changed indexes = updated node.parent (with_child count) indexes

  many : (indexes : List NodeIndex) → IsIndexed g indexes → length (changed indexes) ≡ count
  many indexes fits = length-updated node.parent (with_child count) indexes ∙ fits.count

  pub IsIndexed-grown : (indexes : List NodeIndex) → IsIndexed g indexes → IsIndexed g' (changed indexes ++ fresh_index node.op ∷ [])
  IsIndexed-grown indexes fits = record {
    graph = IsGraph-grown;
    count = omega (arith, length-append (changed indexes) (fresh_index node.op ∷ []), many indexes fits, length_grown);
    each = λ n within. elim (below n within) [
      | inl old ↦ get-append_within (changed indexes) (fresh_index node.op) n (subst (λ c. n < c) (sym (many indexes fits)) old) ∙ old_done indexes n old (fits.each n old)
      | inr new ↦ subst (λ m. slice_get (changed indexes ++ fresh_index node.op ∷ []) m ≡ Some (node_index g' m)) (sym new)
          (ap (slice_get (changed indexes ++ fresh_index node.op ∷ [])) (sym (many indexes fits)) ∙ get-append_end (changed indexes) (fresh_index node.op) ∙ ap Some (sym new_index))
    ];
  }

-- ---- a graph of nodes, whose children are written down one after another

module _ (nodes : List Node) where
  abbrev bare : Graph
  bare = record { nodes = nodes; links = [] }

  abbrev fresh : List NodeIndex
  fresh = map (λ node. fresh_index node.op) nodes

  get-fresh : (xs : List Node) (c : ℕ) → c < length xs → slice_get (map (λ node. fresh_index node.op) xs) c ≡ Some (fresh_index (op_of (slice_get xs c)))
  get-fresh [] c within = absurd (omega arith)
  get-fresh (x ∷ xs) zero within = refl
  get-fresh (x ∷ xs) (suc c) within = get-fresh xs c (omega arith)

  fresh_is : (c : ℕ) → fresh_index (op_at bare c) ≡ index_below bare 0 c
  unfolding node_index
  fresh_is c = λ i. record {
    children = [];
    inputs = sym (map-copies (λ p. numbers_into [] (record { node = c; index = p })) [] 0 (input_count bare c) (λ p. refl)) i;
    outputs = sym (map-copies (λ p. numbers_from [] (record { node = c; index = p })) [] 0 (output_count bare c) (λ p. refl)) i;
    before = [];
    after = [];
    strays = [];
  }

  pub IsFilled-fresh : IsFilled bare 0 fresh
  unfolding op_at
  IsFilled-fresh = record {
    count = length-map nodes (λ node. fresh_index node.op);
    each = λ c within. get-fresh nodes c within ∙ ap Some (fresh_is c);
  }

  -- one node more is written down
  below_next : (n c : ℕ) → filter (λ m. parent_at bare m == c && not (m == c)) (numbers 0 (suc n))
      ≡ filter (λ m. parent_at bare m == c && not (m == c)) (numbers 0 n) ++ (if parent_at bare n == c && not (n == c) then n ∷ [] else [])
  below_next n c = ap (filter (λ m. parent_at bare m == c && not (m == c))) (numbers-next n) ∙ filter-append (λ m. parent_at bare m == c && not (m == c)) (numbers 0 n) (n ∷ [])

  with_next : (n c : ℕ) (b : Bool) → (parent_at bare n == c && not (n == c)) ≡ b
      → record (index_below bare n c) { children = filter (λ m. parent_at bare m == c && not (m == c)) (numbers 0 n) ++ (if b then n ∷ [] else []) } ≡ index_below bare (suc n) c
  with_next n c b is =
      ap (λ (ks : List ℕ). record (index_below bare n c) { children = ks })
      (ap (λ t. filter (λ m. parent_at bare m == c && not (m == c)) (numbers 0 n) ++ (if t then n ∷ [] else [])) (sym is) ∙ sym (below_next n c))

  unchanged : (n c : ℕ) → (parent_at bare n == c && not (n == c)) ≡ false → index_below bare n c ≡ index_below bare (suc n) c
  unchanged n c is =
      ap (λ (ks : List ℕ). record (index_below bare n c) { children = ks }) (sym (append-nil (filter (λ m. parent_at bare m == c && not (m == c)) (numbers 0 n))))
      ∙ with_next n c false is

  -- the root of a tree is its own parent and no child
  pub IsFilled-root : (n : ℕ) (indexes : List NodeIndex) → IsFilled bare n indexes → parent_at bare n ≡ n → IsFilled bare (suc n) indexes
  IsFilled-root n indexes fits own = record {
    count = fits.count;
    each = λ c within. fits.each c within ∙ ap Some (unchanged n c (none c));
  }
    where
      none : (c : ℕ) → (parent_at bare n == c && not (n == c)) ≡ false
      none c = elim (eqb_tells n c) [
        | inl e ↦ and-false (parent_at bare n == c) (not (n == c)) (ap not e.0)
        | inr e ↦ ap (λ p. p == c && not (n == c)) own ∙ ap (λ t. t && not (n == c)) e.0
      ]

  pub IsFilled-child : (n : ℕ) (indexes : List NodeIndex) → IsFilled bare n indexes → parent_at bare n ≢ n → IsFilled bare (suc n) (updated (parent_at bare n) (with_child n) indexes)
  IsFilled-child n indexes fits other = record {
    count = length-updated (parent_at bare n) (with_child n) indexes ∙ fits.count;
    each = λ c within. elim (eqb_tells (parent_at bare n) c) [
      | inl e ↦ subst (λ m. slice_get (updated m (with_child n) indexes) c ≡ Some (index_below bare (suc n) c)) (sym e.1)
          (get-updated_same c (with_child n) indexes (index_below bare n c) (fits.each c within) ∙ ap Some (with_next n c true (is_child c e.0 e.1)))
      | inr e ↦ get-updated_other (parent_at bare n) c (with_child n) indexes e.1 ∙ fits.each c within
          ∙ ap Some (unchanged n c (ap (λ t. t && not (n == c)) e.0))
    ];
  }
    where
      is_child : (c : ℕ) → (parent_at bare n == c) ≡ true → parent_at bare n ≡ c → (parent_at bare n == c && not (n == c)) ≡ true
      is_child c e same = ap₂ (λ s t. s && not t) e (eqb-other n c (λ f. other (same ∙ sym f)))

  pub IsIndexed-filled : (indexes : List NodeIndex) → IsGraph bare → IsFilled bare (length nodes) indexes → IsIndexed bare indexes
  unfolding node_index children
  IsIndexed-filled indexes is fits = record { graph = is; count = fits.count; each = fits.each }

-- what the code wrote, by what it wrote
pub node_in_step : (g : Graph) (node : Node) (nodes : List Node) (k : ℕ) (fresh_node : NodeIndex) (indexes now : List NodeIndex) → IsIndexed g indexes → node.parent < length g.nodes
    → nodes ≡ g.nodes ++ node ∷ [] → k ≡ length g.nodes → fresh_node ≡ fresh_index node.op → now ≡ updated node.parent (with_child k) indexes ++ fresh_node ∷ []
    → IsIndexed (record g { nodes = nodes }) now
node_in_step g node nodes k fresh_node indexes now fits parent_in more last is_fresh written =
    subst (λ (ns : List Node). IsIndexed (record g { nodes = ns }) now) (sym more)
    (subst (IsIndexed (grown g node)) (sym (written ∙ ap₂ (λ j i. updated node.parent (with_child j) indexes ++ i ∷ []) last is_fresh)) (IsIndexed-grown g node fits.graph parent_in indexes fits))
