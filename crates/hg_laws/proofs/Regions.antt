-- The region of a container in a valid graph.
use Rattle.std.proofs.Common.{◌≡◌, ◌≢◌, ◌⊎◌, inl, inr, ℕ, ◌<◌, true, length, Some, refl, sym, ap, ◌∙◌, subst, arith}
use Rattle.std.specs.Prelude.{slice_get}
use Rattle.std.proofs.lemmas.Bool.Decides.{eqb_tells}
use Rattle.hg_ops.specs.GraphType.{GraphType}
use Rattle.hg_ops.specs.Op.{Op, Types, Module, Input, Output, Const, ins_of, outs_of, fires, is_dataflow_container, is_operation, inner_ins, inner_outs}
use Rattle.gp_base.specs.Membership.{In}
use Rattle.hg_graph.specs.Graph.{Graph, op_at, parent_at, children, firing_children}
use Rattle.hg_graph.specs.Valid.{is_output, is_input}
use Rattle.hg_laws.proofs.Looks.{not_both}
use Rattle.hg_laws.proofs.Children.{child_is, is_child, kid_is, is_kid, firing_children_distinct}
use Rattle.hg_laws.proofs.Known.{is_inner, HasRegion, Known}
use Rattle.hg_laws.proofs.Flow.{IsRegion}

fires_outs : (op : Op) (p : ℕ) (t : GraphType) → is_inner op ≡ true → slice_get (outs_of op) p ≡ Some t → fires op ≡ true
fires_outs (Input r) p t i e = absurd cc
fires_outs (Output r) p t i e = absurd cc
fires_outs (Const n) p t i e = absurd cc
fires_outs _ p t i e = refl

fires_ins : (op : Op) (p : ℕ) (t : GraphType) → is_inner op ≡ true → slice_get (ins_of op) p ≡ Some t → fires op ≡ true
fires_ins (Input r) p t i e = absurd cc
fires_ins (Output r) p t i e = absurd cc
fires_ins (Const n) p t i e = absurd cc
fires_ins _ p t i e = refl

fires_op : (op : Op) → is_inner op ≡ true → is_operation op ≡ true → fires op ≡ true
fires_op (Input r) i e = absurd cc
fires_op (Output r) i e = absurd cc
fires_op (Const n) i e = absurd cc
fires_op _ i e = refl

no_outs : (op : Op) (r : Types) (p : ℕ) (t : GraphType) → op ≡ Output r → slice_get (outs_of op) p ≡ Some t → ⊥
no_outs op r p t o e = go (ap (λ x. slice_get (outs_of x) p) (sym o) ∙ e)
  where
    go : slice_get (outs_of (Output r)) p ≡ Some t → ⊥
    go h = cc

no_ins : (op : Op) (r : Types) (p : ℕ) (t : GraphType) → op ≡ Input r → slice_get (ins_of op) p ≡ Some t → ⊥
no_ins op r p t o e = go (ap (λ x. slice_get (ins_of x) p) (sym o) ∙ e)
  where
    go : slice_get (ins_of (Input r)) p ≡ Some t → ⊥
    go h = cc

module _ (g : Graph) (V : Known g) where
  pub child_greater : (c n : ℕ) → In n (children g c) → c < n
  child_greater c n i =
      let k = child_is g c n i in
      elim (eqb_tells n 0) [
        | inl e ↦ absurd (k.2 (e.1 ∙ (sym V.root_parent ∙ (ap (parent_at g) (sym e.1) ∙ k.1))))
        | inr e ↦ let ne = e.1 in let r = V.rises n (positive ne) k.0 in subst (λ x. x < n) k.1 r
      ]
    where
      positive : n ≢ 0 → 0 < n
      positive ne = omega arith

  not_own_parent : (c : ℕ) → c < length g.nodes → is_dataflow_container (op_at g c) ≡ true → parent_at g c ≢ c
  not_own_parent c l f e =
      elim (eqb_tells c 0) [
        | inl z ↦ no_flow (sym (ap is_dataflow_container (ap (op_at g) z.1 ∙ V.root)) ∙ f)
        | inr z ↦ let ne = z.1 in let r = V.rises c (positive ne) l in less (subst (λ x. x < c) e r)
      ]
    where
      positive : c ≢ 0 → 0 < c
      positive ne = omega arith

      less : c < c → ⊥
      less h = absurd (omega arith)

      no_flow : is_dataflow_container Module ≡ true → ⊥
      no_flow h = cc

  module _ (c : ℕ) (lc : c < length g.nodes) (fc : is_dataflow_container (op_at g c) ≡ true) (H : HasRegion g c) where
    listed : (n : ℕ) → In n (children g c) → (n ≡ H.input) ⊎ ((n ≡ H.output) ⊎ In n H.rest)
    listed n i = subst (In n) H.list i

    input_in : In H.input (children g c)
    input_in = subst (In H.input) (sym H.list) (inl refl)

    output_in : In H.output (children g c)
    output_in = subst (In H.output) (sym H.list) (inr (inl refl))

    -- a node beside one of the region
    beside : (n m : ℕ) → n < length g.nodes → In m (children g c) → parent_at g n ≡ parent_at g m → In n (children g c)
    beside n m l i e =
        let k = child_is g c m i in
        is_child g c n l (e ∙ k.1) (λ q. not_own_parent c lc fc (ap (parent_at g) (sym q) ∙ e ∙ k.1))

    from_kid : (n : ℕ) → In n (firing_children g c) ⊎ (n ≡ H.input) → In n (children g c)
    from_kid n (inl k) = (kid_is g c n k).0
    from_kid n (inr e) = subst (λ m. In m (children g c)) (sym e) input_in

    to_kid : (n : ℕ) → In n (firing_children g c) ⊎ (n ≡ H.output) → In n (children g c)
    to_kid n (inl k) = (kid_is g c n k).0
    to_kid n (inr e) = subst (λ m. In m (children g c)) (sym e) output_in

    pub is_region : IsRegion g c H.input H.output
    is_region = record {
      kids_once = firing_children_distinct g c;
      not_i = λ k. not_both (fires (op_at g H.input)) (kid_is g c H.input k).1 (ap fires H.input_op);
      not_o = λ k. not_both (fires (op_at g H.output)) (kid_is g c H.output k).1 (ap fires H.output_op);
      apart = λ e. apart_ops (sym H.input_op ∙ (ap (op_at g) e ∙ H.output_op));
      back = λ w iw k. let j = V.wires w iw in
          let b = beside w.from w.to j.from_in (to_kid w.to k) j.together in
          elim (listed w.from b) [
            | inl e ↦ inr e
            | inr r ↦ elim r [
              | inl e ↦ absurd (no_outs (op_at g w.from) (inner_outs (op_at g c)) w.fp j.ty (ap (op_at g) e ∙ H.output_op) j.from_port)
              | inr i ↦ inl (is_kid g c w.from b (fires_outs (op_at g w.from) w.fp j.ty (H.inner w.from i) j.from_port))
            ]
          ];
      forth = λ w iw k. let j = V.wires w iw in
          let b = beside w.to w.from j.to_in (from_kid w.from k) (sym j.together) in
          elim (listed w.to b) [
            | inl e ↦ absurd (no_ins (op_at g w.to) (inner_ins (op_at g c)) w.tp j.ty (ap (op_at g) e ∙ H.input_op) j.to_port)
            | inr r ↦ elim r [
              | inl e ↦ inr e
              | inr i ↦ inl (is_kid g c w.to b (fires_ins (op_at g w.to) w.tp j.ty (H.inner w.to i) j.to_port))
            ]
          ];
      order_back = λ l il k. let j = V.orders l il in
          let b = beside l.before l.after j.before_in (kid_is g c l.after k).0 j.together in
          elim (listed l.before b) [
            | inl e ↦ inr e
            | inr r ↦ elim r [
              | inl e ↦ not_both (is_output (op_at g l.before)) (ap is_output (ap (op_at g) e ∙ H.output_op)) j.not_output
              | inr i ↦ inl (is_kid g c l.before b (fires_op (op_at g l.before) (H.inner l.before i) j.before_op))
            ]
          ];
      no_into = λ w iw e. let j = V.wires w iw in no_ins (op_at g w.to) (inner_ins (op_at g c)) w.tp j.ty (ap (op_at g) e ∙ H.input_op) j.to_port;
      no_order_into = λ l il e. let j = V.orders l il in not_both (is_input (op_at g l.after)) (ap is_input (ap (op_at g) e ∙ H.input_op)) j.not_input;
      joins = V.wires;
      fed = λ n p k l. V.fed n p (child_is g c n (to_kid n k)).0 l;
      spent = λ n p t k e li. V.spent n p t (child_is g c n (from_kid n k)).0 e li;
      no_circle = V.no_circle;
    }
      where
        apart_ops : Input (inner_ins (op_at g c)) ≡ Output (inner_outs (op_at g c)) → ⊥
        apart_ops e = cc

pub inner_kid : (g : Graph) (c : ℕ) (H : HasRegion g c) (k : ℕ) → In k (firing_children g c) → is_inner (op_at g k) ≡ true
inner_kid g c H k ik =
    let kid = kid_is g c k ik in
    elim (subst (In k) H.list kid.0) [
      | inl e ↦ not_both (fires (op_at g k)) kid.1 (ap fires (ap (op_at g) e ∙ H.input_op))
      | inr r ↦ elim r [
        | inl e ↦ not_both (fires (op_at g k)) kid.1 (ap fires (ap (op_at g) e ∙ H.output_op))
        | inr i ↦ H.inner k i
      ]
    ]
