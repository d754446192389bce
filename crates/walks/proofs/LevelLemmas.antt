-- Levels and walks.
use Rattle.std.proofs.Common.{◌≡◌, inl, inr, ℕ, ◌+◌, ◌<◌, ◌≤◌, List, length, get_or, sym, ap, subst, arith}
use Rattle.std.proofs.lemmas.Bool.{cases_eq}
use Rattle.gp_base.specs.Membership.{In}
use Rattle.walks.specs.Walks.{row, Leads, Walk, once, first, IsClosed}
use Rattle.walks.specs.code.Levels.{NeverRises, FallsBelow, NoneBefore}
use Rattle.walks.proofs.WalkLemmas.{place_in}

never_up : (lists : List (List ℕ)) → IsClosed lists → (levels : List ℕ) → NeverRises lists levels (length lists) → (a b : ℕ) → a < length lists → Walk lists a b → get_or levels b 0 ≤ get_or levels a 0
never_up lists C levels N a b l (once i) = N.each a b l i
never_up lists C levels N a b l (first i w) =
    let h = N.each a _ l i in
    let k = never_up lists C levels N _ b (C.within a _ i) w in
    omega arith

goes_down : (lists : List (List ℕ)) → IsClosed lists → (levels : List ℕ) → NeverRises lists levels (length lists) → (n a b : ℕ) → FallsBelow lists levels n → a < n → Walk lists a b → get_or levels b 0 < get_or levels a 0
goes_down lists C levels N n a b F l (once i) = F.each a b l i
goes_down lists C levels N n a b F l (first i w) =
    let h = F.each a _ l i in
    let k = never_up lists C levels N _ b (C.within a _ i) w in
    omega arith

pub none_before : (lists : List (List ℕ)) → IsClosed lists → (levels : List ℕ) → NeverRises lists levels (length lists) → (n : ℕ) → FallsBelow lists levels n → n < length lists → NoneBefore lists n
none_before lists C levels N n F l = record { is_node = l; none_before = λ m h w. let k = goes_down lists C levels N n m m F h w in omega arith }

-- what is at most the greatest of the levels of a node's list
led_at_most : (lists : List (List ℕ)) (levels nodes : List ℕ) (a n best : ℕ) → a ≡ n → nodes ≡ row lists n → ((k : ℕ) → k < length nodes → get_or levels (get_or nodes k 0) 0 ≤ best)
    → (b : ℕ) → Leads lists a b → get_or levels b 0 ≤ best
led_at_most lists levels nodes a n best f e each b i =
    let r = place_in b nodes (subst (λ (ns : List ℕ). In b ns) (sym e) (subst (λ (m : ℕ). Leads lists m b) f i)) in
    subst (λ (m : ℕ). get_or levels m 0 ≤ best) r.2 (each r.0 r.1)

-- one node more
pub rises_not : (lists : List (List ℕ)) (levels nodes : List ℕ) (n best : ℕ) → NeverRises lists levels n → nodes ≡ row lists n → ((k : ℕ) → k < length nodes → get_or levels (get_or nodes k 0) 0 ≤ best) → best ≤ get_or levels n 0
    → NeverRises lists levels (n + 1)
rises_not lists levels nodes n best N e each h = record {
  each = λ a b l i. elim (cases_eq a n) [
    | inl f ↦
        let k = led_at_most lists levels nodes a n best f e each b i in
        let q : get_or levels a 0 ≡ get_or levels n 0 = ap (λ m. get_or levels m 0) f in
        omega arith
    | inr ne ↦ N.each a b (omega arith) i
  ];
}

pub falls_more : (lists : List (List ℕ)) (levels nodes : List ℕ) (n best : ℕ) → FallsBelow lists levels n → nodes ≡ row lists n → ((k : ℕ) → k < length nodes → get_or levels (get_or nodes k 0) 0 ≤ best) → best < get_or levels n 0
    → FallsBelow lists levels (n + 1)
falls_more lists levels nodes n best F e each h = record {
  each = λ a b l i. elim (cases_eq a n) [
    | inl f ↦
        let k = led_at_most lists levels nodes a n best f e each b i in
        let q : get_or levels a 0 ≡ get_or levels n 0 = ap (λ m. get_or levels m 0) f in
        omega arith
    | inr ne ↦ F.each a b (omega arith) i
  ];
}
