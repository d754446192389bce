-- What nodes and links make of the rules on containers.
use Rattle.std.proofs.Common.{◌≡◌, ◌≢◌, ◌⊎◌, inl, inr, ⊎_elim, ℕ, zero, suc, ◌+◌, ◌<◌, Bool, true, false, cond, List, [], ◌∷◌, ◌++◌, length, Option, Some, None, slice_get, refl, sym, ap, ◌∙◌, subst, arith, append-nil, length-append}
use Rattle.gp_base.specs.Membership.{In}
use Rattle.hg_ops.specs.Op.{Op, Types, FuncDefn, Input, Output, Dfg, Cfg, DataflowBlock, ExitBlock, Conditional, Case, TailLoop, ins_of, outs_of, is_dataflow_container, inner_ins, inner_outs}
use Rattle.hg_graph.specs.Graph.{Graph, Port, Link, Ports, Order, IsGraph, LinkIsWithin, op_at, parent_at, children, taker, is_port, links_from}
use Rattle.hg_graph.specs.Valid.{HasBoundary, KeepsBlocks, KeepsCases, KeepsSuccessors, is_boundary, is_exit, is_block, block_ins}
use Rattle.hg_laws.proofs.Children.{child_is, is_child, get_in}
use Rattle.hg_laws.proofs.Lists.{get_within}
use Rattle.hg_build.specs.Steps.{Grows}
use Rattle.hg_build.specs.Wired.{with_node, with_links, with_cases, after_ends, after_node, after_choice, value_links, order_links, static_links}
use Rattle.hg_build.specs.Drawn.{Contains, Typed}
use Rattle.hg_build.specs.Containing.{with_cases_of}
use Rattle.hg_build.proofs.Real.{in_last}
use Rattle.hg_build.proofs.Moves.{grows_trans}
use Rattle.hg_build.proofs.Grow.{count_node, op_old, op_new, parent_old, parent_new, op_links, parent_links, children_links, children_parent, children_other, no_children, node_grows, links_grow, get_end, graph_node}
use Rattle.hg_build.proofs.Linear.{split, skip, other_port, from_append, from_values, from_order}
use Rattle.hg_build.specs.Pending.{times}
use Rattle.hg_build.proofs.Fires.{port_is}
use Rattle.hg_build.proofs.Joins.{with_none}
use Rattle.hg_build.proofs.Containers.{with_cases_more}
use Rattle.hg_build.proofs.Rules.{cases_grow}

-- ---- what stays

taker_within : (ls : List Link) (count : ℕ) (from to : Port) → ((link : Link) → In link ls → LinkIsWithin count link) → taker ls from ≡ Some to → to.node < count
taker_within [] count from to h e = absurd cc
taker_within (Order a b ∷ ls) count from to h e = taker_within ls count from to (λ l i. h l (inr i)) e
taker_within (Ports a b ∷ ls) count from to h e = by_test (is_port a from) e (taker_within ls count from to (λ l i. h l (inr i)))
  where
    some_is : (x y : Port) → Some x ≡ Some y → x ≡ y
    some_is x y q = cc

    by_test : (t : Bool) → cond t (Some b) (taker ls from) ≡ Some to → (taker ls from ≡ Some to → to.node < count) → to.node < count
    by_test true q r = let x : b.node < count = (h (Ports a b) (inl refl)).1 in let y : b.node ≡ to.node = ap (λ (z : Port). z.node) (some_is b to q) in omega arith
    by_test false q r = r q

-- the links out of blocks stay
pub record SameBlocks (g h : Graph) : Type 0 where
  pub by : (n k : ℕ) (ins : Types) (rows : List Types) (others : Types) → n < length g.nodes → op_at g n ≡ DataflowBlock ins rows others → links_from h.links (record { node = n; index = k }) ≡ links_from g.links (record { node = n; index = k })

module _ (g h : Graph) (s : IsGraph g) (w : Grows g h) where
  child_op : (c m : ℕ) → In m (children g c) → op_at h m ≡ op_at g m
  child_op c m i = w.ops m (child_is g c m i).0

  bound_in : (n : ℕ) → n < length g.nodes → children h n ≡ children g n → HasBoundary g n → HasBoundary h n
  bound_in n l k b =
      let o = w.ops n l in
      let inp : In b.input (children g n) = subst (λ xs. In b.input xs) (sym b.are_children) (inl refl) in
      let out : In b.output (children g n) = subst (λ xs. In b.output xs) (sym b.are_children) (inr (inl refl)) in
      record {
        input = b.input;
        output = b.output;
        rest = b.rest;
        are_children = k ∙ b.are_children;
        input_is = child_op n b.input inp ∙ b.input_is ∙ sym (ap (λ x. Input (inner_ins x)) o);
        output_is = child_op n b.output out ∙ b.output_is ∙ sym (ap (λ x. Output (inner_outs x)) o);
        no_other = λ m i. ap is_boundary (child_op n m (subst (λ xs. In m xs) (sym b.are_children) (inr (inr i)))) ∙ b.no_other m i;
      }

  blocks_in : (n : ℕ) (kind : Op) → children h n ≡ children g n → KeepsBlocks g n kind → KeepsBlocks h n kind
  blocks_in n (Cfg ins outs) k b = record {
    entry = b.entry;
    exit = b.exit;
    rest = b.rest;
    rows = b.rows;
    others = b.others;
    are_children = k ∙ b.are_children;
    entry_is = child_op n b.entry (subst (λ xs. In b.entry xs) (sym b.are_children) (inl refl)) ∙ b.entry_is;
    exit_is = child_op n b.exit (subst (λ xs. In b.exit xs) (sym b.are_children) (inr (inl refl))) ∙ b.exit_is;
    no_other = λ m i. ap is_exit (child_op n m (subst (λ xs. In m xs) (sym b.are_children) (inr (inr i)))) ∙ b.no_other m i;
  }
  blocks_in n _ k b = tt

  cases_stay : (n : ℕ) (kind : Op) → children h n ≡ children g n → KeepsCases g n kind → KeepsCases h n kind
  cases_stay n (Conditional rows ins outs) k c = record {
    count = ap length k ∙ c.count;
    each = λ j row e. let x = c.each j row e in record { case = x.case; is_child = ap (λ xs. slice_get xs j) k ∙ x.is_child; case_is = child_op n x.case (get_in (children g n) j x.case x.is_child) ∙ x.case_is };
  }
  cases_stay n _ k c = tt

  successors_in : (n : ℕ) (kind : Op) → n < length g.nodes → op_at g n ≡ kind → SameBlocks g h → KeepsSuccessors g n kind → KeepsSuccessors h n kind
  successors_in n (DataflowBlock ins rows others) l at sb x = λ k row e.
      let y = x k row e in
      let lt = taker_within g.links (length g.nodes) (record { node = n; index = k }) y.target s.links y.is_target in
      record {
        once = sb.by n k ins rows others l at ∙ y.once;
        target = y.target;
        is_target = w.takers (record { node = n; index = k }) y.target y.is_target;
        is_block = ap is_block (w.ops y.target.node lt) ∙ y.is_block;
        fits = ap block_ins (w.ops y.target.node lt) ∙ y.fits;
      }
  successors_in n _ l at sb x = tt

-- ---- a node: it is empty and unready at first

-- under what a node may be added: what is unready, or a region that isn't empty, to which it is no Input or Output
abbrev pub MayAdd : Graph → Op → ℕ → List ℕ → List ℕ → Type 0
MayAdd g kind p empty unready = (In p empty → ⊥) × ((In p unready × (is_dataflow_container (op_at g p) ≡ false)) ⊎ ((is_dataflow_container (op_at g p) ≡ true) × (is_boundary kind ≡ false) × (is_block kind ≡ false)))

region_free : (g : Graph) (n : ℕ) (kind : Op) → is_dataflow_container kind ≡ true → KeepsBlocks g n kind × KeepsCases g n kind
region_free g n (FuncDefn name ins outs) e = (tt, tt)
region_free g n (Dfg ins outs) e = (tt, tt)
region_free g n (Case ins outs) e = (tt, tt)
region_free g n (DataflowBlock ins rows others) e = (tt, tt)
region_free g n (TailLoop a l r) e = (tt, tt)
region_free g n _ e = absurd (wrong e)
  where
    wrong : false ≡ true → ⊥
    wrong e = cc

pub no_block : (g : Graph) (n : ℕ) (kind : Op) → is_block kind ≡ false → KeepsSuccessors g n kind
no_block g n (DataflowBlock ins rows others) e = absurd cc
no_block g n _ e = tt

pub clash : {A : Type 0} (b : Bool) → b ≡ true → b ≡ false → A
clash b t f = absurd cc

pub node_contained : (g : Graph) (kind : Op) (p : ℕ) (empty unready : List ℕ) → IsGraph g → p < length g.nodes → MayAdd g kind p empty unready → Contains g empty unready → Contains (with_node g kind p) (length g.nodes ∷ empty) (length g.nodes ∷ unready)
node_contained g kind p empty unready s lt may d = record {
  bounds = λ n l e o. by_side n l (λ m. bound_old n m (by_parent n) (ap is_dataflow_container (sym (op_old g kind p n m)) ∙ e) (λ i. o (inr i))) (λ q. absurd (o (inl q)));
  vacant = λ n i. vacant_at n i (by_parent n);
  blocks = λ n l o. by_side n l (λ m. subst (KeepsBlocks h n) (sym (op_old g kind p n m)) (blocks_old n m (by_parent n) (λ i. o (inr i)))) (λ q. absurd (o (inl q)));
  cases = λ n l o. by_side n l (λ m. subst (KeepsCases h n) (sym (op_old g kind p n m)) (cases_old n m (by_parent n) (λ i. o (inr i)))) (λ q. absurd (o (inl q)));
  successors = λ n l o. by_side n l (λ m. subst (KeepsSuccessors h n) (sym (op_old g kind p n m)) (successors_in g h s w n (op_at g n) m refl (record { by = λ x k ins rows others lx at. refl }) (d.successors n m (λ i. o (inr (subst (λ x. In x unready) (sym (parent_old g kind p n m)) i)))))) (λ q. new_successors n q o);
}
  where
    h : Graph
    h = with_node g kind p

    w : Grows g (with_node g kind p)
    w = node_grows g kind p

    more : length (with_node g kind p).nodes ≡ suc (length g.nodes)
    more = count_node g kind p

    by_side : {A : Type 0} (n : ℕ) → n < length (with_node g kind p).nodes → (n < length g.nodes → A) → (n ≡ length g.nodes → A) → A
    by_side n l a b = ⊎_elim a (λ r. ⊎_elim b (λ u. absurd (let m = more in omega arith)) r) (split n (length g.nodes))

    by_parent : (n : ℕ) → (n ≡ p) ⊎ (n ≢ p)
    by_parent n = ⊎_elim (λ l. inr (λ e. absurd (omega arith))) (λ r. ⊎_elim (λ e. inl e) (λ u. inr (λ e. absurd (omega arith))) r) (split n p)

    grown_bound : HasBoundary g p → is_boundary kind ≡ false → HasBoundary (with_node g kind p) p
    grown_bound b nb =
        let o = op_old g kind p p lt in
        let inp : In b.input (children g p) = subst (λ xs. In b.input xs) (sym b.are_children) (inl refl) in
        let out : In b.output (children g p) = subst (λ xs. In b.output xs) (sym b.are_children) (inr (inl refl)) in
        record {
          input = b.input;
          output = b.output;
          rest = b.rest ++ length g.nodes ∷ [];
          are_children = children_parent g kind p lt ∙ ap (λ xs. xs ++ length g.nodes ∷ []) b.are_children;
          input_is = child_op g (with_node g kind p) s w p b.input inp ∙ b.input_is ∙ sym (ap (λ x. Input (inner_ins x)) o);
          output_is = child_op g (with_node g kind p) s w p b.output out ∙ b.output_is ∙ sym (ap (λ x. Output (inner_outs x)) o);
          no_other = λ m i. ⊎_elim (λ j. ap is_boundary (child_op g (with_node g kind p) s w p m (subst (λ xs. In m xs) (sym b.are_children) (inr (inr j)))) ∙ b.no_other m j) (λ q. ap (λ x. is_boundary (op_at (with_node g kind p) x)) q ∙ ap is_boundary (op_new g kind p) ∙ nb) (in_last b.rest (length g.nodes) m i);
        }

    bound_old : (n : ℕ) → n < length g.nodes → (n ≡ p) ⊎ (n ≢ p) → is_dataflow_container (op_at g n) ≡ true → (In n empty → ⊥) → HasBoundary (with_node g kind p) n
    bound_old n l (inr ne) e o = bound_in g (with_node g kind p) s w n l (children_other g kind p n ne) (d.bounds n l e o)
    bound_old n l (inl q) e o =
        let e' : is_dataflow_container (op_at g p) ≡ true = ap (λ x. is_dataflow_container (op_at g x)) (sym q) ∙ e in
        subst (HasBoundary (with_node g kind p)) (sym q) (⊎_elim (λ u. clash (is_dataflow_container (op_at g p)) e' u.1) (λ v. grown_bound (d.bounds p lt e' may.0) v.1) may.1)

    vacant_at : (n : ℕ) → In n (length g.nodes ∷ empty) → (n ≡ p) ⊎ (n ≢ p) → children (with_node g kind p) n ≡ []
    vacant_at n (inl q) (inl e) = absurd (omega arith)
    vacant_at n (inl q) (inr ne) = children_other g kind p n ne ∙ no_children g s n (omega arith)
    vacant_at n (inr i) (inl e) = absurd (may.0 (subst (λ x. In x empty) e i))
    vacant_at n (inr i) (inr ne) = children_other g kind p n ne ∙ d.vacant n i

    free_parent : (n : ℕ) → n ≡ p → (In n unready → ⊥) → is_dataflow_container (op_at g n) ≡ true
    free_parent n q o = ⊎_elim (λ u. absurd (o (subst (λ x. In x unready) (sym q) u.0))) (λ v. ap (λ x. is_dataflow_container (op_at g x)) q ∙ v.0) may.1

    blocks_old : (n : ℕ) → n < length g.nodes → (n ≡ p) ⊎ (n ≢ p) → (In n unready → ⊥) → KeepsBlocks (with_node g kind p) n (op_at g n)
    blocks_old n l (inr ne) o = blocks_in g (with_node g kind p) s w n (op_at g n) (children_other g kind p n ne) (d.blocks n l o)
    blocks_old n l (inl q) o = (region_free (with_node g kind p) n (op_at g n) (free_parent n q o)).0

    cases_old : (n : ℕ) → n < length g.nodes → (n ≡ p) ⊎ (n ≢ p) → (In n unready → ⊥) → KeepsCases (with_node g kind p) n (op_at g n)
    cases_old n l (inr ne) o = cases_stay g (with_node g kind p) s w n (op_at g n) (children_other g kind p n ne) (d.cases n l o)
    cases_old n l (inl q) o = (region_free (with_node g kind p) n (op_at g n) (free_parent n q o)).1

    new_successors : (n : ℕ) → n ≡ length g.nodes → (In (parent_at (with_node g kind p) n) (length g.nodes ∷ unready) → ⊥) → KeepsSuccessors (with_node g kind p) n (op_at (with_node g kind p) n)
    new_successors n q o = ⊎_elim (λ u. absurd (o (inr (subst (λ x. In x unready) (sym (ap (parent_at (with_node g kind p)) q ∙ parent_new g kind p)) u.0)))) (λ v. no_block (with_node g kind p) n (op_at (with_node g kind p) n) (ap (λ x. is_block (op_at (with_node g kind p) x)) q ∙ ap is_block (op_new g kind p) ∙ v.2)) may.1

-- ---- links that don't come out of blocks
pub links_contained : (g : Graph) (ls : List Link) (empty unready : List ℕ) → IsGraph g → SameBlocks g (with_links g ls) → Contains g empty unready → Contains (with_links g ls) empty unready
links_contained g ls empty unready s sb d = record {
  bounds = λ n l e o. bound_in g h s w n l (children_links g ls n) (d.bounds n l (ap is_dataflow_container (sym (op_links g ls n)) ∙ e) o);
  vacant = λ n i. children_links g ls n ∙ d.vacant n i;
  blocks = λ n l o. subst (KeepsBlocks h n) (sym (op_links g ls n)) (blocks_in g h s w n (op_at g n) (children_links g ls n) (d.blocks n l o));
  cases = λ n l o. subst (KeepsCases h n) (sym (op_links g ls n)) (cases_stay g h s w n (op_at g n) (children_links g ls n) (d.cases n l o));
  successors = λ n l o. subst (KeepsSuccessors h n) (sym (op_links g ls n)) (successors_in g h s w n (op_at g n) l refl sb (d.successors n l (λ i. o (subst (λ x. In x unready) (sym (parent_links g ls n)) i))));
}
  where
    h : Graph
    h = with_links g ls

    w : Grows g (with_links g ls)
    w = links_grow g ls

-- ---- what is no longer empty, and what is ready

-- no container, so not empty
pub no_container : (g : Graph) (n : ℕ) (empty unready : List ℕ) → is_dataflow_container (op_at g n) ≡ false → Contains g (n ∷ empty) unready → Contains g empty unready
no_container g n empty unready e d = record {
  bounds = λ m l f o. d.bounds m l f (λ i. ⊎_elim (λ q. clash (is_dataflow_container (op_at g n)) (ap (λ x. is_dataflow_container (op_at g x)) (sym q) ∙ f) e) o i);
  vacant = λ m i. d.vacant m (inr i);
  blocks = d.blocks;
  cases = d.cases;
  successors = d.successors;
}

-- a node is ready: of a Conditional the cases are there, of a CFG the blocks with their control links
pub ready_now : (g : Graph) (n : ℕ) (empty unready : List ℕ) → KeepsBlocks g n (op_at g n) → KeepsCases g n (op_at g n) → ((m : ℕ) → m < length g.nodes → parent_at g m ≡ n → KeepsSuccessors g m (op_at g m)) → Contains g empty (n ∷ unready) → Contains g empty unready
ready_now g n empty unready b c s d = record {
  bounds = d.bounds;
  vacant = d.vacant;
  blocks = λ m l o. by_eq (λ q. subst (λ x. KeepsBlocks g x (op_at g x)) (sym q) b) (λ ne. d.blocks m l (λ i. ⊎_elim ne o i)) (same m n);
  cases = λ m l o. by_eq (λ q. subst (λ x. KeepsCases g x (op_at g x)) (sym q) c) (λ ne. d.cases m l (λ i. ⊎_elim ne o i)) (same m n);
  successors = λ m l o. by_eq (λ q. s m l q) (λ ne. d.successors m l (λ i. ⊎_elim ne o i)) (same (parent_at g m) n);
}
  where
    same : (a b : ℕ) → (a ≡ b) ⊎ (a ≡ b → ⊥)
    same a b = ⊎_elim (λ l. inr (λ e. absurd (omega arith))) (λ r. ⊎_elim (λ e. inl e) (λ u. inr (λ e. absurd (omega arith))) r) (split a b)

    by_eq : {A B : Type 0} → (B → A) → ((B → ⊥) → A) → B ⊎ (B → ⊥) → A
    by_eq f h (inl q) = f q
    by_eq f h (inr ne) = h ne

-- what is neither a Conditional nor a CFG and has no child is ready
abbrev pub is_plain_node : Op → Bool
is_plain_node (Conditional rows ins outs) = false
is_plain_node (Cfg ins outs) = false
is_plain_node _ = true

plain_kept : (g : Graph) (n : ℕ) (kind : Op) → is_plain_node kind ≡ true → KeepsBlocks g n kind × KeepsCases g n kind
plain_kept g n (Conditional rows ins outs) e = absurd cc
plain_kept g n (Cfg ins outs) e = absurd cc
plain_kept g n _ e = (tt, tt)

pub no_child : (g : Graph) (kind : Op) (p : ℕ) → IsGraph g → p < length g.nodes → (m : ℕ) → m < length (with_node g kind p).nodes → parent_at (with_node g kind p) m ≡ length g.nodes → ⊥
no_child g kind p s lt m l q =
    let more = count_node g kind p in
    ⊎_elim (λ o. let x = parent_old g kind p m o in let y = s.parents m o in omega arith) (λ r. ⊎_elim (λ e. let x = ap (parent_at (with_node g kind p)) e ∙ parent_new g kind p in omega arith) (λ u. omega arith) r) (split m (length g.nodes))

-- a node that is no container, no Conditional and no CFG
pub plain_contained : (g : Graph) (kind : Op) (p : ℕ) (empty unready : List ℕ) → IsGraph g → p < length g.nodes → MayAdd g kind p empty unready → is_dataflow_container kind ≡ false → is_plain_node kind ≡ true → Contains g empty unready → Contains (with_node g kind p) empty unready
plain_contained g kind p empty unready s lt may nd pl d =
    let n = length g.nodes in
    let h = with_node g kind p in
    let at = op_new g kind p in
    let k = plain_kept h n (op_at h n) (ap is_plain_node at ∙ pl) in
    ready_now h n empty unready k.0 k.1 (λ m l q. absurd (no_child g kind p s lt m l q)) (no_container h n empty (n ∷ unready) (ap is_dataflow_container at ∙ nd) (node_contained g kind p empty unready s lt may d))

-- ---- the Input and the Output of an empty container
pub ends_contained : (g : Graph) (c : ℕ) (empty rest unready : List ℕ) → IsGraph g → c < length g.nodes → is_dataflow_container (op_at g c) ≡ true → In c empty → ((m : ℕ) → In m empty → (m ≡ c) ⊎ In m rest) → ((m : ℕ) → In m rest → In m empty × (m ≢ c)) → Contains g empty unready → Contains (after_ends g c (inner_ins (op_at g c)) (inner_outs (op_at g c))) rest unready
ends_contained g c empty rest unready s lt e ic out into d = record {
  bounds = λ n l f o. by_side n l (λ m. bound_old n m (same n c) (ap is_dataflow_container (sym (old_op n m)) ∙ f) o) (λ q. clash (is_dataflow_container (op_at h n)) f (ap is_dataflow_container (first_op n q))) (λ q. clash (is_dataflow_container (op_at h n)) f (ap is_dataflow_container (second_op n q)));
  vacant = λ n i. old_children n (into n i).1 ∙ d.vacant n (into n i).0;
  blocks = λ n l o. by_side n l (λ m. subst (KeepsBlocks h n) (sym (old_op n m)) (blocks_old n m (same n c) o)) (λ q. subst (KeepsBlocks h n) (sym (first_op n q)) tt) (λ q. subst (KeepsBlocks h n) (sym (second_op n q)) tt);
  cases = λ n l o. by_side n l (λ m. subst (KeepsCases h n) (sym (old_op n m)) (cases_old n m (same n c) o)) (λ q. subst (KeepsCases h n) (sym (first_op n q)) tt) (λ q. subst (KeepsCases h n) (sym (second_op n q)) tt);
  successors = λ n l o. by_side n l (λ m. subst (KeepsSuccessors h n) (sym (old_op n m)) (successors_in g h s w n (op_at g n) m refl (record { by = λ x k ins rows others lx at. refl }) (d.successors n m (λ i. o (subst (λ x. In x unready) (sym (w.parents n m)) i))))) (λ q. subst (KeepsSuccessors h n) (sym (first_op n q)) tt) (λ q. subst (KeepsSuccessors h n) (sym (second_op n q)) tt);
}
  where
    ins : Types
    ins = inner_ins (op_at g c)

    outs : Types
    outs = inner_outs (op_at g c)

    g1 : Graph
    g1 = with_node g (Input ins) c

    h : Graph
    h = after_ends g c ins outs

    m1 : length (with_node g (Input (inner_ins (op_at g c))) c).nodes ≡ suc (length g.nodes)
    m1 = count_node g (Input (inner_ins (op_at g c))) c

    w : Grows g (after_ends g c (inner_ins (op_at g c)) (inner_outs (op_at g c)))
    w = grows_trans g g1 h (node_grows g (Input ins) c) (node_grows g1 (Output outs) c)

    m2 : length (after_ends g c (inner_ins (op_at g c)) (inner_outs (op_at g c))).nodes ≡ suc (suc (length g.nodes))
    m2 = count_node g1 (Output outs) c ∙ ap suc m1

    by_side : {A : Type 0} (n : ℕ) → n < length (after_ends g c (inner_ins (op_at g c)) (inner_outs (op_at g c))).nodes → (n < length g.nodes → A) → (n ≡ length g.nodes → A) → (n ≡ suc (length g.nodes) → A) → A
    by_side n l x y z = ⊎_elim x (λ r. ⊎_elim y (λ u. z (let m = m2 in omega arith)) r) (split n (length g.nodes))

    same : (a b : ℕ) → (a ≡ b) ⊎ (a ≢ b)
    same a b = ⊎_elim (λ l. inr (λ q. absurd (omega arith))) (λ r. ⊎_elim (λ q. inl q) (λ u. inr (λ q. absurd (omega arith))) r) (split a b)

    old_op : (n : ℕ) → n < length g.nodes → op_at (after_ends g c (inner_ins (op_at g c)) (inner_outs (op_at g c))) n ≡ op_at g n
    old_op n l = w.ops n l

    first_op : (n : ℕ) → n ≡ length g.nodes → op_at (after_ends g c (inner_ins (op_at g c)) (inner_outs (op_at g c))) n ≡ Input (inner_ins (op_at g c))
    first_op n q = ap (op_at h) q ∙ op_old g1 (Output outs) c (length g.nodes) (let m = m1 in omega arith) ∙ op_new g (Input ins) c

    second_op : (n : ℕ) → n ≡ suc (length g.nodes) → op_at (after_ends g c (inner_ins (op_at g c)) (inner_outs (op_at g c))) n ≡ Output (inner_outs (op_at g c))
    second_op n q = ap (op_at h) (q ∙ sym m1) ∙ op_new g1 (Output outs) c

    old_children : (n : ℕ) → n ≢ c → children (after_ends g c (inner_ins (op_at g c)) (inner_outs (op_at g c))) n ≡ children g n
    old_children n ne = children_other g1 (Output outs) c n ne ∙ children_other g (Input ins) c n ne

    kids : children (after_ends g c (inner_ins (op_at g c)) (inner_outs (op_at g c))) c ≡ length g.nodes ∷ suc (length g.nodes) ∷ []
    kids = children_parent g1 (Output outs) c (let m = m1 in omega arith) ∙ ap (λ ks. ks ++ length g1.nodes ∷ []) (children_parent g (Input ins) c lt ∙ ap (λ ks. ks ++ length g.nodes ∷ []) (d.vacant c ic)) ∙ ap (λ m. length g.nodes ∷ m ∷ []) m1

    bound_old : (n : ℕ) → n < length g.nodes → (n ≡ c) ⊎ (n ≢ c) → is_dataflow_container (op_at g n) ≡ true → (In n rest → ⊥) → HasBoundary (after_ends g c (inner_ins (op_at g c)) (inner_outs (op_at g c))) n
    bound_old n l (inr ne) f o = bound_in g h s w n l (old_children n ne) (d.bounds n l f (λ i. ⊎_elim (λ q. absurd (ne q)) o (out n i)))
    bound_old n l (inl q) f o = subst (HasBoundary h) (sym q) (record {
      input = length g.nodes;
      output = suc (length g.nodes);
      rest = [];
      are_children = kids;
      input_is = first_op (length g.nodes) refl ∙ ap (λ x. Input (inner_ins x)) (sym (old_op c lt));
      output_is = second_op (suc (length g.nodes)) refl ∙ ap (λ x. Output (inner_outs x)) (sym (old_op c lt));
      no_other = λ m i. absurd i;
    })

    free : (n : ℕ) → n ≡ c → KeepsBlocks (after_ends g c (inner_ins (op_at g c)) (inner_outs (op_at g c))) n (op_at g n) × KeepsCases (after_ends g c (inner_ins (op_at g c)) (inner_outs (op_at g c))) n (op_at g n)
    free n q = region_free h n (op_at g n) (ap (λ x. is_dataflow_container (op_at g x)) q ∙ e)

    blocks_old : (n : ℕ) → n < length g.nodes → (n ≡ c) ⊎ (n ≢ c) → (In n unready → ⊥) → KeepsBlocks (after_ends g c (inner_ins (op_at g c)) (inner_outs (op_at g c))) n (op_at g n)
    blocks_old n l (inr ne) o = blocks_in g h s w n (op_at g n) (old_children n ne) (d.blocks n l o)
    blocks_old n l (inl q) o = (free n q).0

    cases_old : (n : ℕ) → n < length g.nodes → (n ≡ c) ⊎ (n ≢ c) → (In n unready → ⊥) → KeepsCases (after_ends g c (inner_ins (op_at g c)) (inner_outs (op_at g c))) n (op_at g n)
    cases_old n l (inr ne) o = cases_stay g h s w n (op_at g n) (old_children n ne) (d.cases n l o)
    cases_old n l (inl q) o = (free n q).1

-- ---- the cases of a Conditional
pub record CasesFrom (g : Graph) (n first : ℕ) (front : List ℕ) (rows : List Types) (ins outs : Types) : Type 0 where
  pub count : length (children g n) ≡ length front + length rows
  pub each : (k : ℕ) (row : Types) → slice_get rows k ≡ Some row → (slice_get (children g n) (length front + k) ≡ Some (first + k)) × (op_at g (first + k) ≡ Case (row ++ ins) outs)

cases_next : (n : ℕ) (row : Types) (rows : List Types) (ins outs : Types) (g : Graph) → n < length g.nodes → CasesFrom (with_cases (with_node g (Case (row ++ ins) outs) n) n rows ins outs) n (length (with_node g (Case (row ++ ins) outs) n).nodes) (children (with_node g (Case (row ++ ins) outs) n) n) rows ins outs → CasesFrom (with_cases g n (row ∷ rows) ins outs) n (length g.nodes) (children g n) (row ∷ rows) ins outs
cases_next n row rows ins outs g lt r =
    subst (λ h. CasesFrom h n (length g.nodes) (children g n) (row ∷ rows) ins outs) (sym (with_cases_more g n row rows ins outs)) (record {
      count = let a = r.count in let b = len in omega arith;
      each = λ k x e. at k x e;
    })
  where
    kind : Op
    kind = Case (row ++ ins) outs

    g1 : Graph
    g1 = with_node g (Case (row ++ ins) outs) n

    more : length (with_node g (Case (row ++ ins) outs) n).nodes ≡ suc (length g.nodes)
    more = count_node g (Case (row ++ ins) outs) n

    w : Grows (with_node g (Case (row ++ ins) outs) n) (with_cases (with_node g (Case (row ++ ins) outs) n) n rows ins outs)
    w = cases_grow n rows ins outs (with_node g (Case (row ++ ins) outs) n)

    kids : children (with_node g (Case (row ++ ins) outs) n) n ≡ children g n ++ length g.nodes ∷ []
    kids = children_parent g (Case (row ++ ins) outs) n lt

    len : length (children (with_node g (Case (row ++ ins) outs) n) n) ≡ suc (length (children g n))
    len = ap length kids ∙ (let l = length-append (children g n) (length g.nodes ∷ []) in omega arith)

    here : slice_get (children (with_node g (Case (row ++ ins) outs) n) n) (length (children g n)) ≡ Some (length g.nodes)
    here = ap (λ ks. slice_get ks (length (children g n))) kids ∙ get_end (children g n) (length g.nodes)

    the_row : (a b : Types) → Some a ≡ Some b → a ≡ b
    the_row a b e = cc

    at : (k : ℕ) (x : Types) → slice_get (row ∷ rows) k ≡ Some x → (slice_get (children (with_cases (with_node g (Case (row ++ ins) outs) n) n rows ins outs) n) (length (children g n) + k) ≡ Some (length g.nodes + k)) × (op_at (with_cases (with_node g (Case (row ++ ins) outs) n) n rows ins outs) (length g.nodes + k) ≡ Case (x ++ ins) outs)
    at zero x e =
        let i : length (children g n) + 0 ≡ length (children g n) = omega arith in
        let j : length g.nodes + 0 ≡ length g.nodes = omega arith in
        rw (i, j) (w.kids n (length (children g n)) (length g.nodes) here, w.ops (length g.nodes) (let m = more in omega arith) ∙ op_new g kind n ∙ ap (λ t. Case (t ++ ins) outs) (the_row row x e))
    at (suc k) x e =
        let y = r.each k x e in
        let i : length (children g1 n) + k ≡ length (children g n) + suc k = let l = len in omega arith in
        let j : length g1.nodes + k ≡ length g.nodes + suc k = let m = more in omega arith in
        (subst (λ u. slice_get (children (with_cases g1 n rows ins outs) n) u ≡ Some (length g.nodes + suc k)) i (y.0 ∙ ap Some j), subst (λ u. op_at (with_cases g1 n rows ins outs) u ≡ Case (x ++ ins) outs) j y.1)

pub cases_from : (n : ℕ) (rows : List Types) (ins outs : Types) (g : Graph) → n < length g.nodes → CasesFrom (with_cases g n rows ins outs) n (length g.nodes) (children g n) rows ins outs
cases_from n [] ins outs g lt = record { count = ap (λ x. length (children x n)) same ∙ omega arith; each = λ k row e. absurd (none k row e) }
  where
    same : with_cases g n [] ins outs ≡ g
    same = ap (λ x. record g { nodes = x }) (append-nil g.nodes)

    none : (k : ℕ) (row : Types) → slice_get [] k ≡ Some row → ⊥
    none k row e = cc
cases_from n (row ∷ rows) ins outs g lt = cases_next n row rows ins outs g lt (cases_from n rows ins outs (with_node g (Case (row ++ ins) outs) n) (let m = count_node g (Case (row ++ ins) outs) n in omega arith))

in_get : (xs : List ℕ) (x : ℕ) → In x xs → (k : ℕ) × (slice_get xs k ≡ Some x)
in_get [] x i = absurd i
in_get (y ∷ xs) x (inl e) = (0, ap Some (sym e))
in_get (y ∷ xs) x (inr i) = let r = in_get xs x i in (suc r.0, r.1)

pub get_at : (rows : List Types) (k : ℕ) → k < length rows → (row : Types) × (slice_get rows k ≡ Some row)
get_at [] k lt = absurd (omega arith)
get_at (row ∷ rows) zero lt = (row, refl)
get_at (row ∷ rows) (suc k) lt = get_at rows k (omega arith)

cases_contained : (n : ℕ) (rows : List Types) (ins outs : Types) (empty unready : List ℕ) (g : Graph) → IsGraph g → n < length g.nodes → is_dataflow_container (op_at g n) ≡ false → In n unready → (In n empty → ⊥) → Contains g empty unready → Contains (with_cases g n rows ins outs) (with_cases_of (length g.nodes) rows empty) unready
cases_contained n [] ins outs empty unready g s lt nd i ne d = subst (λ h. Contains h empty unready) (ap (λ x. record g { nodes = x }) (sym (append-nil g.nodes))) d
cases_contained n (row ∷ rows) ins outs empty unready g s lt nd i ne d =
    let kind = Case (row ++ ins) outs in
    let m = length g.nodes in
    let g1 = with_node g kind n in
    let more : length g1.nodes ≡ suc m = count_node g kind n in
    let at = op_new g kind n in
    let s1 = graph_node g kind n lt s in
    let d1 : Contains g1 (m ∷ empty) unready = ready_now g1 m (m ∷ empty) unready (subst (KeepsBlocks g1 m) (sym at) tt) (subst (KeepsCases g1 m) (sym at) tt) (λ x l q. absurd (no_child g kind n s lt x l q)) (node_contained g kind n empty unready s lt (ne, inl (i, nd)) d) in
    let nm : In n (m ∷ empty) → ⊥ = λ j. ⊎_elim (λ e. omega arith) ne j in
    subst (λ h. Contains h (with_cases_of m (row ∷ rows) empty) unready) (sym (with_cases_more g n row rows ins outs))
    (subst (λ k. Contains (with_cases g1 n rows ins outs) (with_cases_of k rows (m ∷ empty)) unready) more (cases_contained n rows ins outs (m ∷ empty) unready g1 s1 (omega arith) (ap is_dataflow_container (op_old g kind n n lt) ∙ nd) i nm d1))

-- ---- a node with its links
typed_no_block : (g : Graph) (n k : ℕ) (ins : Types) (rows : List Types) (others : Types) (ps : List Port) (ts : Types) → op_at g n ≡ DataflowBlock ins rows others → Typed g ps ts → times ps (record { node = n; index = k }) ≡ 0
typed_no_block g n k ins rows others [] [] at y = refl
typed_no_block g n k ins rows others [] (t ∷ ts) at y = absurd y
typed_no_block g n k ins rows others (p ∷ ps) [] at y = absurd y
typed_no_block g n k ins rows others (p ∷ ps) (t ∷ ts) at y =
    skip (is_port p (record { node = n; index = k })) (times ps (record { node = n; index = k })) 0 (by_test (is_port p (record { node = n; index = k })) refl) (typed_no_block g n k ins rows others ps ts at y.1)
  where
    none : (j : ℕ) → slice_get [] j ≡ Some t → ⊥
    none j e = cc

    by_test : (b : Bool) → is_port p (record { node = n; index = k }) ≡ b → b ≡ false
    by_test false e = refl
    by_test true e =
        let q : p.node ≡ n = ap (λ (z : Port). z.node) (port_is p (record { node = n; index = k }) e) in
        absurd (none p.index (ap (λ ts. slice_get ts p.index) (sym (ap (λ x. outs_of (op_at g x)) q ∙ ap outs_of at)) ∙ y.0))

pub values_same : (g : Graph) (t : ℕ) (ps : List Port) (ts : Types) → Typed g ps ts → SameBlocks g (with_links g (value_links t 0 ps))
values_same g t ps ts y = record {
  by = λ n k ins rows others l at. let a = from_append g.links (value_links t 0 ps) (record { node = n; index = k }) in let b = from_values t 0 ps (record { node = n; index = k }) in let c = typed_no_block g n k ins rows others ps ts at y in omega arith;
}

pub order_same : (g : Graph) (last : Option ℕ) (t : ℕ) → SameBlocks g (with_links g (order_links last t))
order_same g last t = record {
  by = λ n k ins rows others l at. let a = from_append g.links (order_links last t) (record { node = n; index = k }) in let b = from_order last t (record { node = n; index = k }) in omega arith;
}

-- a node that is no container, with value links and an order link; a CFG or a Conditional is not ready yet
pub start_contained : (g : Graph) (kind : Op) (c : ℕ) (ps : List Port) (prior : Option ℕ) (empty unready : List ℕ) → IsGraph g → c < length g.nodes → (In c empty → ⊥) → is_dataflow_container (op_at g c) ≡ true → is_boundary kind ≡ false → is_block kind ≡ false → is_dataflow_container kind ≡ false → Typed (with_node g kind c) ps (ins_of kind) → IsGraph (with_links (with_node g kind c) (value_links (length g.nodes) 0 ps)) → Contains g empty unready → Contains (after_node g kind c ps None prior) empty (length g.nodes ∷ unready)
start_contained g kind c ps prior empty unready s lt ne fl nb nk nd y s2 d =
    let n = length g.nodes in
    let g1 = with_node g kind c in
    let g2 = with_links g1 (value_links n 0 ps) in
    let s1 = graph_node g kind c lt s in
    let d1 = no_container g1 n empty (n ∷ unready) (ap is_dataflow_container (op_new g kind c) ∙ nd) (node_contained g kind c empty unready s lt (ne, inr (fl, nb, nk)) d) in
    let d2 = links_contained g1 (value_links n 0 ps) empty (n ∷ unready) s1 (values_same g1 n ps (ins_of kind) y) d1 in
    let e : g2 ≡ with_links g2 [] = sym (with_none g2) in
    subst (λ x. Contains (with_links x (order_links prior n)) empty (n ∷ unready)) e (links_contained g2 (order_links prior n) empty (n ∷ unready) s2 (order_same g2 prior n) d2)

-- `conditional` in whole
pub choice_contained : (g : Graph) (rows : List Types) (ins outs : Types) (c : ℕ) (ps : List Port) (empty unready : List ℕ) → IsGraph g → c < length g.nodes → (In c empty → ⊥) → ((m : ℕ) → In m empty → m < length g.nodes) → is_dataflow_container (op_at g c) ≡ true → Typed (with_node g (Conditional rows ins outs) c) ps (ins_of (Conditional rows ins outs)) → IsGraph (with_links (with_node g (Conditional rows ins outs) c) (value_links (length g.nodes) 0 ps)) → IsGraph (after_node g (Conditional rows ins outs) c ps None None) → op_at (after_node g (Conditional rows ins outs) c ps None None) (length g.nodes) ≡ Conditional rows ins outs → children (after_node g (Conditional rows ins outs) c ps None None) (length g.nodes) ≡ [] → Contains g empty unready → Contains (after_choice g rows ins outs c ps) (with_cases_of (suc (length g.nodes)) rows empty) unready
choice_contained g rows ins outs c ps empty unready s lt ne below fl y s2 s3 at none d =
    let n = length g.nodes in
    let kind = Conditional rows ins outs in
    let h1 = after_node g kind c ps None None in
    let more : length h1.nodes ≡ suc n = count_node g kind c in
    let h = with_cases h1 n rows ins outs in
    let d1 = start_contained g kind c ps None empty unready s lt ne fl refl refl refl y s2 d in
    let d2 : Contains h (with_cases_of (suc n) rows empty) (n ∷ unready) = subst (λ k. Contains h (with_cases_of k rows empty) (n ∷ unready)) more (cases_contained n rows ins outs empty (n ∷ unready) h1 s3 (omega arith) (ap is_dataflow_container at) (inl refl) (λ i. let x = below n i in omega arith) d1) in
    let cf = cases_from n rows ins outs h1 (omega arith) in
    let w = cases_grow n rows ins outs h1 in
    let op : op_at h n ≡ kind = w.ops n (omega arith) ∙ at in
    let zero_len : length (children h1 n) ≡ 0 = ap length none in
    ready_now h n (with_cases_of (suc n) rows empty) unready (subst (KeepsBlocks h n) (sym op) tt) (subst (KeepsCases h n) (sym op) (record {
      count = let a = cf.count in omega arith;
      each = λ k row e. let x = cf.each k row e in record { case = length h1.nodes + k; is_child = subst (λ u. slice_get (children h n) u ≡ Some (length h1.nodes + k)) (omega (arith, zero_len)) x.0; case_is = x.1 };
    })) (λ m l q. no_block h m (op_at h m) (case_child m l q cf zero_len (is_child h n m l q (apart m q (w.parents n (omega arith) ∙ par))))) d2
  where
    h_ : Graph
    h_ = after_choice g rows ins outs c ps

    par : parent_at (after_node g (Conditional rows ins outs) c ps None None) (length g.nodes) ≡ c
    par =
        let g1 = with_node g (Conditional rows ins outs) c in
        let g2 = with_links g1 (value_links (length g.nodes) 0 ps) in
        parent_links (with_links g2 []) [] (length g.nodes) ∙ parent_links g2 [] (length g.nodes) ∙ parent_links g1 (value_links (length g.nodes) 0 ps) (length g.nodes) ∙ parent_new g (Conditional rows ins outs) c

    apart : (m : ℕ) → parent_at (after_choice g rows ins outs c ps) m ≡ length g.nodes → parent_at (after_choice g rows ins outs c ps) (length g.nodes) ≡ c → m ≢ length g.nodes
    apart m q z e = let x = ap (parent_at (after_choice g rows ins outs c ps)) (sym e) in omega arith

    the_nat : (a b : ℕ) → Some a ≡ Some b → a ≡ b
    the_nat a b e = cc

    case_child : (m : ℕ) → m < length (after_choice g rows ins outs c ps).nodes → parent_at (after_choice g rows ins outs c ps) m ≡ length g.nodes → CasesFrom (after_choice g rows ins outs c ps) (length g.nodes) (length (after_node g (Conditional rows ins outs) c ps None None).nodes) (children (after_node g (Conditional rows ins outs) c ps None None) (length g.nodes)) rows ins outs → length (children (after_node g (Conditional rows ins outs) c ps None None) (length g.nodes)) ≡ 0 → In m (children (after_choice g rows ins outs c ps) (length g.nodes)) → is_block (op_at (after_choice g rows ins outs c ps) m) ≡ false
    case_child m l q cf z i =
        let k = in_get (children (after_choice g rows ins outs c ps) (length g.nodes)) m i in
        let lk = get_within (children (after_choice g rows ins outs c ps) (length g.nodes)) k.0 m k.1 in
        let a = cf.count in
        let r = get_at rows k.0 (omega arith) in
        let x = cf.each k.0 r.0 r.1 in
        let y : m ≡ length (after_node g (Conditional rows ins outs) c ps None None).nodes + k.0 = the_nat _ _ (sym k.1 ∙ subst (λ u. slice_get (children (after_choice g rows ins outs c ps) (length g.nodes)) u ≡ Some (length (after_node g (Conditional rows ins outs) c ps None None).nodes + k.0)) (let zz = z in omega arith) x.0) in
        ap (λ u. is_block (op_at (after_choice g rows ins outs c ps) u)) y ∙ ap is_block x.1

-- ---- `op`, `call`: ready at once
static_blocks : (g : Graph) (f t q : ℕ) → is_block (op_at g f) ≡ false → SameBlocks g (with_links g (static_links (Some f) t q))
static_blocks g f t q nb = record {
  by = λ n k ins rows others l at.
      let a = from_append g.links (static_links (Some f) t q) (record { node = n; index = k }) in
      let b = skip (is_port (record { node = f; index = 0 }) (record { node = n; index = k })) 0 0 (by_test n k ins rows others at (is_port (record { node = f; index = 0 }) (record { node = n; index = k })) refl) refl in
      omega arith;
}
  where
    by_test : (n k : ℕ) (ins : Types) (rows : List Types) (others : Types) → op_at g n ≡ DataflowBlock ins rows others → (b : Bool) → is_port (record { node = f; index = 0 }) (record { node = n; index = k }) ≡ b → b ≡ false
    by_test n k ins rows others at false e = refl
    by_test n k ins rows others at true e =
        let q : f ≡ n = ap (λ (z : Port). z.node) (port_is (record { node = f; index = 0 }) (record { node = n; index = k }) e) in
        absurd (clash true refl (sym (ap (λ x. is_block (op_at g x)) q ∙ ap is_block at) ∙ nb))

abbrev pub SourceFree : Graph → Option ℕ → Type 0
SourceFree g None = Unit {0}
SourceFree g (Some f) = is_block (op_at g f) ≡ false

source_blocks : (g : Graph) (source : Option ℕ) (t q : ℕ) → SourceFree g source → SameBlocks g (with_links g (static_links source t q))
source_blocks g None t q nb = order_same g None t
source_blocks g (Some f) t q nb = static_blocks g f t q nb

-- a node that is no container, no Conditional and no CFG, with all its links
pub node_whole : (g : Graph) (kind : Op) (c : ℕ) (ps : List Port) (source prior : Option ℕ) (empty unready : List ℕ) → IsGraph g → c < length g.nodes → (In c empty → ⊥) → is_dataflow_container (op_at g c) ≡ true → is_boundary kind ≡ false → is_block kind ≡ false → is_dataflow_container kind ≡ false → is_plain_node kind ≡ true → Typed (with_node g kind c) ps (ins_of kind) → IsGraph (with_links (with_node g kind c) (value_links (length g.nodes) 0 ps)) → IsGraph (with_links (with_links (with_node g kind c) (value_links (length g.nodes) 0 ps)) (static_links source (length g.nodes) (length ps))) → SourceFree (with_links (with_node g kind c) (value_links (length g.nodes) 0 ps)) source → Contains g empty unready → Contains (after_node g kind c ps source prior) empty unready
node_whole g kind c ps source prior empty unready s lt ne fl nb nk nd pl y s2 s3 sf d =
    let n = length g.nodes in
    let g1 = with_node g kind c in
    let g2 = with_links g1 (value_links n 0 ps) in
    let g3 = with_links g2 (static_links source n (length ps)) in
    let s1 = graph_node g kind c lt s in
    let d1 : Contains g1 empty unready = plain_contained g kind c empty unready s lt (ne, inr (fl, nb, nk)) nd pl d in
    let d2 : Contains g2 empty unready = links_contained g1 (value_links n 0 ps) empty unready s1 (values_same g1 n ps (ins_of kind) y) d1 in
    let d3 : Contains g3 empty unready = links_contained g2 (static_links source n (length ps)) empty unready s2 (source_blocks g2 source n (length ps) sf) d2 in
    links_contained g3 (order_links prior n) empty unready s3 (order_same g3 prior n) d3

-- a control link of a CFG that isn't ready
pub control_contained : (g : Graph) (from : Port) (to : ℕ) (empty unready : List ℕ) → IsGraph g → In (parent_at g from.node) unready → Contains g empty unready → Contains (with_links g (Ports from (record { node = to; index = 0 }) ∷ [])) empty unready
control_contained g from to empty unready s i d = record {
  bounds = λ n l e o. bound_in g h s w n l (children_links g ls n) (d.bounds n l (ap is_dataflow_container (sym (op_links g ls n)) ∙ e) o);
  vacant = λ n i. children_links g ls n ∙ d.vacant n i;
  blocks = λ n l o. subst (KeepsBlocks h n) (sym (op_links g ls n)) (blocks_in g h s w n (op_at g n) (children_links g ls n) (d.blocks n l o));
  cases = λ n l o. subst (KeepsCases h n) (sym (op_links g ls n)) (cases_stay g h s w n (op_at g n) (children_links g ls n) (d.cases n l o));
  successors = λ n l o. subst (KeepsSuccessors h n) (sym (op_links g ls n)) (others_in n (op_at g n) l (λ e. o (subst (λ x. In x unready) (sym (parent_links g ls n ∙ ap (parent_at g) (sym e))) i)) (d.successors n l (λ j. o (subst (λ x. In x unready) (sym (parent_links g ls n)) j))));
}
  where
    ls : List Link
    ls = Ports from (record { node = to; index = 0 }) ∷ []

    h : Graph
    h = with_links g ls

    w : Grows g (with_links g (Ports from (record { node = to; index = 0 }) ∷ []))
    w = links_grow g ls

    others_in : (n : ℕ) (kind : Op) → n < length g.nodes → (from.node ≡ n → ⊥) → KeepsSuccessors g n kind → KeepsSuccessors (with_links g (Ports from (record { node = to; index = 0 }) ∷ [])) n kind
    others_in n (DataflowBlock ins rows more) l ne x = λ k row e.
        let y = x k row e in
        let lt = taker_within g.links (length g.nodes) (record { node = n; index = k }) y.target s.links y.is_target in
        let a = from_append g.links ls (record { node = n; index = k }) in
        let b = skip (is_port from (record { node = n; index = k })) 0 0 (other_port from (record { node = n; index = k }) ne) refl in
        let c = y.once in
        record {
          once = omega arith;
          target = y.target;
          is_target = w.takers (record { node = n; index = k }) y.target y.is_target;
          is_block = ap is_block (w.ops y.target.node lt) ∙ y.is_block;
          fits = ap block_ins (w.ops y.target.node lt) ∙ y.fits;
        }
    others_in n _ l ne x = tt

-- ---- `block`: a child of a CFG that isn't ready
pub block_contained : (g : Graph) (n : ℕ) (ins : Types) (rows : List Types) (other : Types) (empty unready : List ℕ) → IsGraph g → n < length g.nodes → is_dataflow_container (op_at g n) ≡ false → In n unready → (In n empty → ⊥) → Contains g empty unready → Contains (with_node g (DataflowBlock ins rows other) n) (length g.nodes ∷ empty) unready
block_contained g n ins rows other empty unready s lt nd i ne d =
    let kind = DataflowBlock ins rows other in
    let m = length g.nodes in
    let h = with_node g kind n in
    let at = op_new g kind n in
    ready_now h m (m ∷ empty) unready (subst (KeepsBlocks h m) (sym at) tt) (subst (KeepsCases h m) (sym at) tt) (λ x l q. absurd (no_child g kind n s lt x l q)) (node_contained g kind n empty unready s lt (ne, inl (i, nd)) d)

pub exit_contained : (g : Graph) (n : ℕ) (types : Types) (empty unready : List ℕ) → IsGraph g → n < length g.nodes → is_dataflow_container (op_at g n) ≡ false → In n unready → (In n empty → ⊥) → Contains g empty unready → Contains (with_node g (ExitBlock types) n) empty unready
exit_contained g n types empty unready s lt nd i ne d = plain_contained g (ExitBlock types) n empty unready s lt (ne, inl (i, nd)) refl refl d
