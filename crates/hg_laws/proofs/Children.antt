-- Children of a node.
use Rattle.std.proofs.Common.{◌≡◌, ◌≢◌, inl, inr, ℕ, zero, suc, ◌<◌, Bool, true, false, not, ◌&&◌, eqb, List, [], ◌∷◌, length, Some, refl, ap₂, arith}
use Rattle.std.specs.Prelude.{slice_get}
use Rattle.std.proofs.lemmas.Bool.{eqb-true, eq-eqb}
use Rattle.hg_ops.specs.Op.{fires}
use Rattle.gp_base.specs.Membership.{In}
use Rattle.hg_graph.specs.Graph.{Graph, op_at, parent_at, children, firing_children, numbers}
use Rattle.hg_laws.proofs.Lists.{Distinct, In-filter, In-filter_back, In-numbers, In-numbers_back, Distinct-filter, Distinct-numbers}
use Rattle.hg_laws.proofs.Looks.{eqb_no, not_both}

pub get_in : {A : Type 0} (xs : List A) (k : ℕ) (x : A) → slice_get xs k ≡ Some x → In x xs
get_in [] k x e = absurd cc
get_in (y ∷ xs) zero x e = inl cc
get_in (y ∷ xs) (suc k) x e = inr (get_in xs k x e)

pub both_true : (a b : Bool) → (a && b) ≡ true → (a ≡ true) × (b ≡ true)
both_true true b e = (refl, e)
both_true false b e = absurd cc

not_same : (a b : ℕ) → not (eqb a b) ≡ true → a ≢ b
not_same a b e q = not_both (eqb a b) (eq-eqb a b q) (flip (eqb a b) e)
  where
    flip : (x : Bool) → not x ≡ true → x ≡ false
    flip true h = absurd cc
    flip false h = refl

pub child_is : (g : Graph) (c n : ℕ) → In n (children g c) → (n < length g.nodes) × (parent_at g n ≡ c) × (n ≢ c)
unfolding children
child_is g c n i =
    let f = In-filter (λ m. eqb (parent_at g m) c && not (eqb m c)) (numbers 0 (length g.nodes)) n i in
    let b = both_true (eqb (parent_at g n) c) (not (eqb n c)) f.1 in
    let r = In-numbers 0 (length g.nodes) n f.0 in
    (omega arith, eqb-true (parent_at g n) c b.0, not_same n c b.1)

pub is_child : (g : Graph) (c n : ℕ) → n < length g.nodes → parent_at g n ≡ c → n ≢ c → In n (children g c)
unfolding children
is_child g c n l p ne =
    In-filter_back (λ m. eqb (parent_at g m) c && not (eqb m c)) (numbers 0 (length g.nodes)) n (In-numbers_back 0 (length g.nodes) n (omega arith) (omega arith))
    (ap₂ (λ x y. x && not y) (eq-eqb (parent_at g n) c p) (eqb_no n c ne))

pub kid_is : (g : Graph) (c n : ℕ) → In n (firing_children g c) → In n (children g c) × (fires (op_at g n) ≡ true)
unfolding firing_children
kid_is g c n i = In-filter (λ m. fires (op_at g m)) (children g c) n i

pub is_kid : (g : Graph) (c n : ℕ) → In n (children g c) → fires (op_at g n) ≡ true → In n (firing_children g c)
unfolding firing_children
is_kid g c n i f = In-filter_back (λ m. fires (op_at g m)) (children g c) n i f

pub firing_children_distinct : (g : Graph) (c : ℕ) → Distinct (firing_children g c)
unfolding firing_children children
firing_children_distinct g c = Distinct-filter (λ m. fires (op_at g m)) _ (Distinct-filter _ _ (Distinct-numbers 0 (length g.nodes)))
