-- The nodes of a thin graph.
use Rattle.std.proofs.Common.{◌≡◌, ℕ, zero, suc, ◌+◌, ◌<◌, ◌≤◌, Bool, true, not, ◌&&◌, ◌==◌, ne_eqb, List, [], ◌∷◌, ◌++◌, length, map, drop, filter, Some, slice_get, refl, ap, ap₂, ◌∙◌, arith}
use Rattle.hg_ops.specs.Op as op
use Rattle.hg_ops.specs.Op.{Op, fires}
use Rattle.hg_graph.specs.Graph.{op_of, parent_of, op_at, parent_at, numbers, children, firing_children}
use Rattle.hg_graph.specs.Thin.{ThinGate, H, X, gate_op, in_main, thin_graph}
use Rattle.hg_graph.proofs.ThinNumbers.{filter_all}

-- the number of the op at a place of the list
abbrev pub node_of : ℕ → ℕ
node_of i = suc (suc (suc (suc i)))

-- ---- lists of ops

-- the ops behind the first
abbrev pub after_first : List ThinGate → List Op
after_first gates = map gate_op gates ++ op.Ext op.Free ∷ []

pub length-after_first : (gates : List ThinGate) → length (after_first gates) ≡ suc (length gates)
length-after_first [] = refl
length-after_first (gate ∷ gates) = ap suc (length-after_first gates)

fires-gate : (gate : ThinGate) → fires (gate_op gate) ≡ true
fires-gate H = refl
fires-gate X = refl

-- each of them is in `main`, and fires
in_main_fires : (gates : List ThinGate) (i : ℕ) → i < suc (length gates)
    → (parent_of (slice_get (map in_main (after_first gates)) i) ≡ 1) × (fires (op_of (slice_get (map in_main (after_first gates)) i)) ≡ true)
in_main_fires [] zero l = (refl, refl)
in_main_fires [] (suc i) l = absurd (omega arith)
in_main_fires (gate ∷ gates) zero l = (refl, fires-gate gate)
in_main_fires (gate ∷ gates) (suc i) l = in_main_fires gates i (omega arith)

-- ---- the children of `main`

-- a node from the fifth on
at_fifth : (P : ℕ → Type 0) (count : ℕ) → ((i : ℕ) → i < count → P (node_of (suc i))) → (n : ℕ) → 5 ≤ n → n < 5 + count → P n
at_fifth P count h zero l b = absurd (omega arith)
at_fifth P count h (suc zero) l b = absurd (omega arith)
at_fifth P count h (suc (suc zero)) l b = absurd (omega arith)
at_fifth P count h (suc (suc (suc zero))) l b = absurd (omega arith)
at_fifth P count h (suc (suc (suc (suc zero)))) l b = absurd (omega arith)
at_fifth P count h (suc (suc (suc (suc (suc i))))) l b = h i (omega arith)

length_nodes : (ops : List Op) → length (map in_main ops) ≡ length ops
length_nodes [] = refl
length_nodes (kind ∷ ops) = ap suc (length_nodes ops)

-- the numbers of the nodes behind the first that fires
behind : (gates : List ThinGate) → numbers 5 (length (map in_main (after_first gates))) ≡ numbers 5 (suc (length gates))
behind gates = ap (numbers 5) (length_nodes (after_first gates) ∙ length-after_first gates)

child_test : (gates : List ThinGate) (n : ℕ) → 5 ≤ n → n < 5 + suc (length gates) → (parent_at (thin_graph gates) n == 1 && not (n == 1)) ≡ true
unfolding thin_graph parent_at
child_test gates = at_fifth (λ n. (parent_at (thin_graph gates) n == 1 && not (n == 1)) ≡ true) (suc (length gates)) (λ i l.
    ap₂ (λ p b. p == 1 && not b) (in_main_fires gates i l).0 (ne_eqb (node_of (suc i)) 1 (λ e. absurd (omega arith))))

pub children-thin : (gates : List ThinGate) → children (thin_graph gates) 1 ≡ 2 ∷ 3 ∷ 4 ∷ numbers 5 (suc (length gates))
unfolding children thin_graph parent_at
children-thin gates =
    let test : ℕ → Bool = λ n. parent_at (thin_graph gates) n == 1 && not (n == 1) in
    ap (λ ns. 2 ∷ 3 ∷ 4 ∷ filter test ns) (behind gates)
    ∙ ap (λ ns. 2 ∷ 3 ∷ 4 ∷ ns) (filter_all test 5 (suc (length gates)) (child_test gates))

fires_test : (gates : List ThinGate) (n : ℕ) → 5 ≤ n → n < 5 + suc (length gates) → fires (op_at (thin_graph gates) n) ≡ true
unfolding thin_graph op_at
fires_test gates = at_fifth (λ n. fires (op_at (thin_graph gates) n) ≡ true) (suc (length gates)) (λ i l. (in_main_fires gates i l).1)

pub firing_children-thin : (gates : List ThinGate) → firing_children (thin_graph gates) 1 ≡ numbers 4 (suc (suc (length gates)))
unfolding firing_children thin_graph op_at
firing_children-thin gates =
    let test : ℕ → Bool = λ n. fires (op_at (thin_graph gates) n) in
    ap (filter test) (children-thin gates)
    ∙ ap (λ ns. 4 ∷ ns) (filter_all test 5 (suc (length gates)) (fires_test gates))

-- ---- the ops by their numbers

-- what is left of a list from a place on
pub get_left : {A : Type 0} (xs : List A) (i : ℕ) (y : A) (ys : List A) → drop i xs ≡ y ∷ ys → slice_get xs i ≡ Some y
get_left [] zero y ys e = absurd cc
get_left [] (suc i) y ys e = absurd cc
get_left (x ∷ xs) zero y ys e = cc
get_left (x ∷ xs) (suc i) y ys e = get_left xs i y ys e

pub left_next : {A : Type 0} (xs : List A) (i : ℕ) (y : A) (ys : List A) → drop i xs ≡ y ∷ ys → drop (suc i) xs ≡ ys
left_next [] zero y ys e = absurd cc
left_next [] (suc i) y ys e = absurd cc
left_next (x ∷ xs) zero y ys e = cc
left_next (x ∷ xs) (suc i) y ys e = left_next xs i y ys e

pub left_within : {A : Type 0} (xs : List A) (i : ℕ) (y : A) (ys : List A) → drop i xs ≡ y ∷ ys → i < length xs
left_within [] zero y ys e = absurd cc
left_within [] (suc i) y ys e = absurd cc
left_within (x ∷ xs) zero y ys e = omega arith
left_within (x ∷ xs) (suc i) y ys e = let h = left_within xs i y ys e in omega arith

get_in_main : (ops : List Op) (i : ℕ) (kind : Op) → slice_get ops i ≡ Some kind → op_of (slice_get (map in_main ops) i) ≡ kind
get_in_main [] i kind e = absurd cc
get_in_main (first ∷ ops) zero kind e = cc
get_in_main (first ∷ ops) (suc i) kind e = get_in_main ops i kind e

pub op_at-left : (gates : List ThinGate) (i : ℕ) (kind : Op) (rest : List Op) → drop i (after_first gates) ≡ kind ∷ rest → op_at (thin_graph gates) (node_of (suc i)) ≡ kind
unfolding thin_graph op_at
op_at-left gates i kind rest e = get_in_main (after_first gates) i kind (get_left (after_first gates) i kind rest e)

pub op_at-first : (gates : List ThinGate) → op_at (thin_graph gates) 4 ≡ op.Ext op.Alloc
unfolding thin_graph op_at
op_at-first gates = refl
