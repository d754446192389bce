-- The way up from a node.
use Rattle.std.proofs.Common.{◌≡◌, ◌⊎◌, inl, inr, ℕ, suc, ◌<◌, ◌≤◌, List, [], ◌∷◌, ◌++◌, length, sym, subst, arith, ◌∙◌}
use Rattle.std.proofs.lemmas.Bool.{cases_lt}
use Rattle.hg_graph.specs.Graph.{Graph, IsGraph, parent_at}
use Rattle.hg_graph.specs.Valid.{IsAncestor, of_child, of_further, Places}
use Rattle.hg_valid.specs.code.Broken.{AllKeep}
use Rattle.hg_valid.specs.code.Ancestors.{AreJumps}
use Rattle.hg_valid.specs.declared.ancestors.Jump.{Jump}
use Rattle.hg_valid.proofs.ByPlace.{get_or_last}

module _ (g : Graph) where
  -- an ancestor of an ancestor is one
  pub up : (a b n : ℕ) → IsAncestor g a b → IsAncestor g b n → IsAncestor g a n
  up a b n h (of_child e) = of_further (subst (IsAncestor g a) (sym e) h)
  up a b n h (of_further k) = of_further (up a b (parent_at g n) h k)

  -- an ancestor is the parent, or an ancestor of it
  pub parent_or : (a n : ℕ) → IsAncestor g a n → (a ≡ parent_at g n) ⊎ IsAncestor g a (parent_at g n)
  parent_or a n (of_child e) = inl (sym e)
  parent_or a n (of_further h) = inr h

  -- one more step
  pub more_jumps : (count : ℕ) (jumps : List Jump) (jump : Jump) → AreJumps g count jumps → IsAncestor g jump.to.0 count → AreJumps g (suc count) (jumps ++ jump ∷ [])
  more_jumps count jumps jump J h = record {
    count_is = simp Rattle.std.proofs.lemmas.List.length-append (let e = J.count_is in omega arith);
    lead_up = λ n other e. elim (get_or_last jumps jump other n e) [
      | inl s ↦ J.lead_up n other s
      | inr s ↦ subst (λ j. IsAncestor g j.to.0 n) s.1 (subst (IsAncestor g jump.to.0) (sym J.count_is ∙ sym s.0) h)
    ];
  }

  module _ (G : IsGraph g) (places : AllKeep g Places) where
    parent_le : (n : ℕ) → n < length g.nodes → parent_at g n ≤ n
    parent_le n l = elim (cases_lt 0 n) [
      | inl s ↦ let h = ((places n l).others s).1 in omega arith
      | inr s ↦ let z : n ≡ 0 = omega arith in let h = ((places n l).root z).1 in omega arith
    ]

    pub ancestor_le : (a n : ℕ) → n < length g.nodes → IsAncestor g a n → a ≤ parent_at g n
    ancestor_le a n l (of_child e) = omega arith
    ancestor_le a n l (of_further h) =
        let k = ancestor_le a (parent_at g n) (G.parents n l) h in
        let m = parent_le (parent_at g n) (G.parents n l) in omega arith

    pub ancestor_lt : (a n : ℕ) → n < length g.nodes → 0 < n → IsAncestor g a n → a < n
    ancestor_lt a n l s h = let k = ancestor_le a n l h in let m = ((places n l).others s).1 in omega arith

    pub ancestor_in : (a n : ℕ) → n < length g.nodes → IsAncestor g a n → a < length g.nodes
    ancestor_in a n l h = let k = ancestor_le a n l h in let m = G.parents n l in omega arith

    -- of two ancestors of a node the smaller one is one of the other
    pub two : (x y n : ℕ) → n < length g.nodes → IsAncestor g x n → IsAncestor g y n → x ≤ y → (x ≡ y) ⊎ IsAncestor g x y
    two x y n l (of_child e) (of_child f) s = inl (sym e ∙ f)
    two x y n l (of_child e) (of_further k) s =
        let a = ancestor_le y (parent_at g n) (G.parents n l) k in
        let b = parent_le (parent_at g n) (G.parents n l) in inl (omega arith)
    two x y n l (of_further h) (of_child f) s = inr (subst (IsAncestor g x) f h)
    two x y n l (of_further h) (of_further k) s = two x y (parent_at g n) (G.parents n l) h k s

    -- an ancestor of the node that is no greater than where the way up has come is there or further up
    pub at_most : (a n : ℕ) → n < length g.nodes → IsAncestor g a n → n ≤ a → n ≡ a
    at_most a n l h s = let k = ancestor_le a n l h in let m = parent_le n l in omega arith
