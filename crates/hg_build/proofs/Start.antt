-- The module alone, and functions that are added to it.
use Rattle.std.proofs.Common.{◌≡◌, ◌≢◌, ◌⊎◌, inl, inr, ⊎_elim, ℕ, zero, suc, ◌<◌, true, false, List, [], ◌∷◌, ◌++◌, length, Some, None, slice_get, refl, sym, ap, ◌∙◌, subst, arith, le_refl}
use Rattle.hg_ops.specs.Op.{Op, Types, Module, FuncDefn, DataflowBlock, ExitBlock, ins_of, outs_of, is_effect, is_dataflow_container}
use Rattle.hg_graph.specs.Graph.{Graph, IsGraph, op_at, parent_at, children}
use Rattle.hg_graph.specs.Valid.{HasPlace, SuitsParent, InputsAreFed, KeepsBlocks, KeepsCases, KeepsSuccessors, KeepsName, KeepsTags, Edge, along_value, along_order, may_stand_in, is_block}
use Rattle.hg_build.specs.Steps.{Hole, HoleDoes, HolesDo, Grows, IsFunctionAt}
use Rattle.hg_build.specs.Wired.{with_node}
use Rattle.hg_build.specs.Built.{FunctionsAt, Unfilled}
use Rattle.hg_build.specs.Pending.{Pends}
use Rattle.hg_build.specs.Drawn.{Drawn, StaticAt, Contains}
use Rattle.hg_build.specs.Containing.{ContainsAt}
use Rattle.hg_build.specs.Marks.{Marks}
use Rattle.hg_build.specs.Start.{module_graph, Begun, IsNew, ModuleBegins}
use Rattle.hg_build.proofs.Grow.{count_node, op_old, op_new, children_other, no_children, node_grows}
use Rattle.hg_build.proofs.Adds.{sound_node}
use Rattle.hg_build.proofs.Frames.{functions_in}
use Rattle.hg_build.proofs.Containers.{holes_push, do_push}
use Rattle.hg_build.proofs.Linear.{split, silent_pends, takes_none}
use Rattle.hg_build.proofs.Draws.{NodeFits, silent_drawn}
use Rattle.hg_build.proofs.Contents.{clash, no_block, no_child, node_contained, ready_now}

-- ---- the module alone

only : (P : ℕ → Type 0) → P 0 → (n : ℕ) → n < 1 → P n
only P p zero l = p
only P p (suc n) l = absurd (omega arith)

root_op : op_at module_graph 0 ≡ Module
unfolding op_at
root_op = refl

root_parent : parent_at module_graph 0 ≡ 0
unfolding parent_at
root_parent = refl

root_children : children module_graph 0 ≡ []
unfolding children parent_at
root_children = refl

root_graph : IsGraph module_graph
root_graph = record {
  some = omega arith;
  parents = only (λ n. parent_at module_graph n < 1) (let q = root_parent in omega arith);
  links = λ link i. absurd i;
}

no_edge : (a b : ℕ) → Edge module_graph a b → ⊥
no_edge a b (along_value p q i l) = i
no_edge a b (along_order i) = i

root_drawn : Drawn module_graph [] []
root_drawn = record {
  graph = root_graph;
  places = only (HasPlace module_graph) (record { root = λ e. (root_op, root_parent); others = λ l. absurd (omega arith) });
  suits = only (SuitsParent module_graph) (λ ne. absurd (ne root_parent));
  joins = λ n l. record { ports = λ from to i. absurd i; orders = λ b i. absurd i };
  fed = λ n l o. only (λ k. InputsAreFed module_graph k) (λ p lp. absurd (let q = ap (λ k. length (ins_of k)) root_op in omega arith)) n l;
  unfed = λ n l i. absurd i;
  inside = λ n l. record { ports = λ from to i. absurd i; orders = λ b i. absurd i };
  rises = λ a b e. absurd (no_edge a b e);
  statics = λ n l o. only (λ k. StaticAt module_graph k (op_at module_graph k)) (subst (StaticAt module_graph 0) (sym root_op) tt) n l;
  unowed = λ n l i. absurd i;
  names = only (λ k. KeepsName module_graph k (op_at module_graph k)) (subst (KeepsName module_graph 0) (sym root_op) tt);
  tags = only (λ k. KeepsTags (op_at module_graph k)) (subst KeepsTags (sym root_op) tt);
}

none_there : {X : Type 0} (x : X) (k : ℕ) → slice_get {X = X} [] k ≡ Some x → ⊥
none_there x k e = cc

root_pends : Pends module_graph []
root_pends = record {
  one = λ p type l e f. absurd (only (λ k. slice_get (outs_of (op_at module_graph k)) p.index ≡ Some type → ⊥) (λ q. none_there type p.index (ap (λ o. slice_get (outs_of o) p.index) (sym root_op) ∙ q)) p.node l e);
  fresh = λ p le. refl;
}

root_contains : ContainsAt module_graph [] []
root_contains = record {
  contains = record {
    bounds = λ n l e o. absurd (only (λ k. is_dataflow_container (op_at module_graph k) ≡ true → ⊥) (λ q. clash (is_dataflow_container (op_at module_graph 0)) q (ap is_dataflow_container root_op)) n l e);
    vacant = λ n i. absurd i;
    blocks = λ n l o. only (λ k. KeepsBlocks module_graph k (op_at module_graph k)) (subst (KeepsBlocks module_graph 0) (sym root_op) tt) n l;
    cases = λ n l o. only (λ k. KeepsCases module_graph k (op_at module_graph k)) (subst (KeepsCases module_graph 0) (sym root_op) tt) n l;
    successors = λ n l o. only (λ k. KeepsSuccessors module_graph k (op_at module_graph k)) (subst (KeepsSuccessors module_graph 0) (sym root_op) tt) n l;
  };
  within = λ m i. absurd i;
  regions = λ m i. absurd i;
}

-- where nothing is marked, no op is an effect
no_marks : (g : Graph) → Marks g [] []
no_marks g = record { nodes = λ m i. absurd i; outwards = λ m i. absurd i; joined = λ a b i. absurd i }

begun_alone : Begun module_graph [] []
begun_alone = record {
  module_at = root_op;
  unfilled = tt;
  built = record {
    sound = record { graph = root_graph; orders = λ a b i. absurd i };
    at = record { are = tt; top = 1; rise = omega arith; topped = le_refl 1; started = le_refl 1; does = tt };
  };
  drawn = root_drawn;
  pends = root_pends;
  contains = root_contains;
  ordered = record {
    owns = λ n l e. absurd (only (λ k. is_effect (op_at module_graph k) ≡ true → ⊥) (λ q. clash (is_effect (op_at module_graph 0)) q (ap is_effect root_op)) n l e);
    marks = no_marks module_graph;
  };
}

-- ---- a function more

unfilled_push : (holes : List Hole) (n : ℕ) → Unfilled holes → Unfilled (holes ++ record { node = n; act = None } ∷ [])
unfilled_push [] n u = (refl, tt)
unfilled_push (hole ∷ holes) n u = (u.0, unfilled_push holes n u.1)

functions_push : (g : Graph) (holes : List Hole) (n : ℕ) → FunctionsAt g holes → IsFunctionAt g n → FunctionsAt g (holes ++ record { node = n; act = None } ∷ [])
functions_push g [] n f x = (x, tt)
functions_push g (hole ∷ holes) n f x = (f.0, functions_push g holes n f.1 x)

unfilled_stay : (g : Graph) (kind : Op) (top end top' end' : ℕ) (holes : List Hole) → Unfilled holes → HolesDo g 0 top end holes → HolesDo (with_node g kind 0) 0 top' end' holes
unfilled_stay g kind top end top' end' [] u d = tt
unfilled_stay g kind top end top' end' (hole ∷ holes) u d = (λ ne. one ne (d.0 ne), unfilled_stay g kind top end top' end' holes u.1 d.1)
  where
    one : hole.node ≢ 0 → HoleDoes g top end hole.node hole.act → HoleDoes (with_node g kind 0) top' end' hole.node hole.act
    one ne x = subst (HoleDoes (with_node g kind 0) top' end' hole.node) (sym u.0) (children_other g kind 0 hole.node ne ∙ subst (HoleDoes g top end hole.node) u.0 x)

module_kid : (kind : Op) → may_stand_in Module kind ≡ true → is_block kind ≡ false
module_kid (DataflowBlock ins rows others) e = absurd cc
module_kid (ExitBlock types) e = absurd cc
module_kid _ e = refl

function_contained : (g : Graph) (name : List ℕ) (ins outs : Types) (empty : List ℕ) → IsGraph g → op_at g 0 ≡ Module → Drawn (with_node g (FuncDefn name ins outs) 0) [] [] → ContainsAt g empty [] → Contains (with_node g (FuncDefn name ins outs) 0) (length g.nodes ∷ empty) []
function_contained g name ins outs empty s root dr d =
    let kind = FuncDefn name ins outs in
    let n = length g.nodes in
    let h = with_node g kind 0 in
    let at : op_at h n ≡ kind = op_new g kind 0 in
    let nd : is_dataflow_container (op_at g 0) ≡ false = ap is_dataflow_container root in
    let c = d.contains in
    let c0 : Contains g empty (0 ∷ []) = record { bounds = c.bounds; vacant = c.vacant; blocks = λ m l o. c.blocks m l (λ i. i); cases = λ m l o. c.cases m l (λ i. i); successors = λ m l o. c.successors m l (λ i. i) } in
    let c1 = node_contained g kind 0 empty (0 ∷ []) s s.some (λ i. clash (is_dataflow_container (op_at g 0)) (d.regions 0 i) nd, inl (inl refl, nd)) c0 in
    let c2 : Contains h (n ∷ empty) (0 ∷ []) = ready_now h n (n ∷ empty) (0 ∷ []) (subst (KeepsBlocks h n) (sym at) tt) (subst (KeepsCases h n) (sym at) tt) (λ m l q. absurd (no_child g kind 0 s s.some m l q)) c1 in
    let root' : op_at h 0 ≡ Module = op_old g kind 0 0 s.some ∙ root in
    ready_now h 0 (n ∷ empty) [] (subst (KeepsBlocks h 0) (sym root') tt) (subst (KeepsCases h 0) (sym root') tt) (λ m l q. kid m l q root' (split m 0)) c2
  where
    kid : (m : ℕ) → m < length (with_node g (FuncDefn name ins outs) 0).nodes → parent_at (with_node g (FuncDefn name ins outs) 0) m ≡ 0 → op_at (with_node g (FuncDefn name ins outs) 0) 0 ≡ Module → (m < 0) ⊎ ((m ≡ 0) ⊎ (0 < m)) → KeepsSuccessors (with_node g (FuncDefn name ins outs) 0) m (op_at (with_node g (FuncDefn name ins outs) 0) m)
    kid m l q r (inl x) = absurd (omega arith)
    kid m l q r (inr (inl e)) = no_block (with_node g (FuncDefn name ins outs) 0) m _ (ap (λ k. is_block (op_at (with_node g (FuncDefn name ins outs) 0) k)) e ∙ ap is_block r)
    kid m l q r (inr (inr u)) =
        let h = with_node g (FuncDefn name ins outs) 0 in
        no_block h m _ (module_kid (op_at h m) (ap (λ o. may_stand_in o (op_at h m)) (sym (ap (op_at h) q ∙ r)) ∙ dr.suits m l (λ e. omega arith)))

begun_function : (g : Graph) (functions : List Hole) (empty : List ℕ) (name : List ℕ) (ins outs : Types) → Begun g functions empty → IsNew g name → Begun (with_node g (FuncDefn name ins outs) 0) (functions ++ record { node = length g.nodes; act = None } ∷ []) (length g.nodes ∷ empty)
begun_function g functions empty name ins outs b new =
    let kind = FuncDefn name ins outs in
    let n = length g.nodes in
    let h = with_node g kind 0 in
    let s = b.drawn.graph in
    let some = s.some in
    let more : length h.nodes ≡ suc n = count_node g kind 0 in
    let w : Grows g h = node_grows g kind 0 in
    let at : op_at h n ≡ kind = op_new g kind 0 in
    let m = b.built.at in
    let t = m.topped in
    let fits : NodeFits g kind 0 = record { parent = some; no_module = refl; suits = ap (λ o. may_stand_in o kind) b.module_at; fresh = λ x e. subst (IsNew g) (same name x e) new; tags = tt } in
    let dr : Drawn h [] [] = silent_drawn g kind 0 [] [] b.drawn fits (λ x i. absurd i) refl refl in
    record {
      module_at = op_old g kind 0 0 some ∙ b.module_at;
      unfilled = unfilled_push functions n b.unfilled;
      built = record {
        sound = sound_node g kind 0 some b.built.sound;
        at = record {
          are = functions_push h functions n (functions_in g h 0 m.top functions w m.rise t m.are) (record { name = name; ins = ins; outs = outs; is = at });
          top = length h.nodes;
          rise = holes_push functions 0 m.top n (length h.nodes) None m.rise t (omega arith);
          topped = le_refl (length h.nodes);
          started = le_refl (length h.nodes);
          does = do_push h 0 (length h.nodes) (length h.nodes) n functions (unfilled_stay g kind m.top n (length h.nodes) (length h.nodes) functions b.unfilled m.does) (children_other g kind 0 n (λ e. omega arith) ∙ no_children g s n (le_refl n));
        };
      };
      drawn = dr;
      pends = (silent_pends g kind 0 refl).by s [] [] b.pends tt (takes_none []);
      contains = record {
        contains = function_contained g name ins outs empty s b.module_at dr b.contains;
        within = λ x i. ⊎_elim (λ e. omega arith) (λ j. let l = b.contains.within x j in omega arith) i;
        regions = λ x i. ⊎_elim (λ e. ap (λ k. is_dataflow_container (op_at h k)) e ∙ ap is_dataflow_container at) (λ j. ap is_dataflow_container (w.ops x (b.contains.within x j)) ∙ b.contains.regions x j) i;
      };
      ordered = record {
        owns = λ x l e. ⊎_elim (λ o. b.ordered.owns x o (ap is_effect (sym (op_old g kind 0 x o)) ∙ e)) (λ r. ⊎_elim (λ q. clash (is_effect (op_at h x)) e (ap (λ k. is_effect (op_at h k)) q ∙ ap is_effect at)) (λ u. absurd (omega arith)) r) (split x n);
        marks = no_marks h;
      };
    }
  where
    same : (x y : List ℕ) → Some x ≡ Some y → x ≡ y
    same x y e = cc

pub module_begins : ModuleBegins
module_begins = record { alone = begun_alone; function = begun_function }
