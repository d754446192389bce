-- Effect nodes and their marks.
use Rattle.std.proofs.Common.{◌≡◌, ◌≢◌, inl, inr, ℕ, suc, ◌<◌, ◌≤◌, Bool, true, false, List, length, set, sym, ap, subst, refl, ◌∙◌, arith}
use Rattle.std.proofs.lemmas.Bool.{cases_eq, cases_lt, false≢true}
use Rattle.std.proofs.lemmas.List.{length-set, get_or-set_same, get_or-set_other, get_or_past}
use Rattle.hg_ops.specs.Op.{is_effect}
use Rattle.hg_graph.specs.Graph.{Graph, op_at, parent_at}
use Rattle.hg_graph.specs.Ordered.{HasEffect, own, inside}
use Rattle.hg_laws.proofs.Children.{child_is, is_child}
use Rattle.walks.specs.Counts.{is_marked}
use Rattle.hg_valid.specs.code.Effects.{AreEffects, AreCarried}

-- the marks of ops
pub own_marks : (g : Graph) (marks : List Bool) → length marks ≡ length g.nodes → ((n : ℕ) → n < length g.nodes → is_marked marks n ≡ is_effect (op_at g n)) → AreCarried g (length g.nodes) marks
own_marks g marks count each = record {
  count = count;
  effects = λ n m. elim (cases_lt n (length g.nodes)) [
    | inl l ↦ own (sym (each n l) ∙ m)
    | inr l ↦ absurd (false≢true (sym (get_or_past marks n false (omega arith)) ∙ m))
  ];
  own = λ n l e. each n l ∙ e;
  carried = λ n h l m. absurd (omega arith);
}

-- a node that isn't marked has nothing to carry
pub carried_past : (g : Graph) (n : ℕ) (marks : List Bool) → AreCarried g (suc n) marks → is_marked marks n ≡ false → AreCarried g n marks
carried_past g n marks C e = record {
  count = C.count;
  effects = C.effects;
  own = C.own;
  carried = λ k h l m. elim (cases_eq k n) [
    | inl f ↦ absurd (false≢true (sym e ∙ ap (is_marked marks) (sym f) ∙ m))
    | inr ne ↦ C.carried k (omega arith) l m
  ];
}

-- a marked node marks its parent
not_above : (g : Graph) (n m : ℕ) → n ≤ m → m ≢ n → (0 < n → n < length g.nodes → parent_at g n < n) → n < length g.nodes → (n ≡ 0 → parent_at g n ≡ n) → m ≡ parent_at g n → ⊥
not_above g n m h ne below l root f = elim (cases_eq n 0) [
  | inl z ↦ ne (f ∙ root z)
  | inr nz ↦ let b : parent_at g n < n = below (omega arith) l in omega arith
]

pub carried_on : (g : Graph) (n : ℕ) (marks : List Bool) → parent_at g 0 ≡ 0 → ((m : ℕ) → 0 < m → m < length g.nodes → parent_at g m < m) → ((m : ℕ) → m < length g.nodes → parent_at g m < length g.nodes)
    → n < length g.nodes → AreCarried g (suc n) marks → is_marked marks n ≡ true → AreCarried g n (set marks (parent_at g n) true)
carried_on g n marks first below parents l C e =
    let root : n ≡ 0 → parent_at g n ≡ n = λ z. ap (parent_at g) z ∙ first ∙ sym z in
    let p : ℕ = parent_at g n in
    let after : List Bool = set marks p true in
    let count : length marks ≡ length g.nodes = C.count in
    let isp : p < length g.nodes = parents n l in
    let within : p < length marks = omega arith in
    let here : is_marked after p ≡ true = get_or-set_same marks p true false within in
    let other : (m : ℕ) → m ≢ p → is_marked after m ≡ is_marked marks m = λ m ne. get_or-set_other marks p m true false ne in
    let kept : (m : ℕ) → is_marked marks m ≡ true → is_marked after m ≡ true = λ m k. elim (cases_eq m p) [
      | inl f ↦ ap (is_marked after) f ∙ here
      | inr ne ↦ other m ne ∙ k
    ] in
    let effect : HasEffect g p = elim (cases_eq n p) [
      | inl f ↦ subst (HasEffect g) f (C.effects n e)
      | inr ne ↦ inside (is_child g p n l refl ne) (C.effects n e)
    ] in
    record {
      count = length-set marks p true ∙ C.count;
      effects = λ m k. elim (cases_eq m p) [
        | inl f ↦ subst (HasEffect g) (sym f) effect
        | inr ne ↦ C.effects m (sym (other m ne) ∙ k)
      ];
      own = λ m h k. kept m (C.own m h k);
      carried = λ m h k q. elim (cases_eq m n) [
        | inl f ↦ ap (λ i. is_marked after (parent_at g i)) f ∙ here
        | inr ne ↦ kept (parent_at g m) (C.carried m (omega arith) k (sym (other m (λ f. not_above g n m h ne (below n) l root f)) ∙ q))
      ];
    }

all_effects : (g : Graph) (marks : List Bool) → AreCarried g 0 marks → (n : ℕ) → n < length g.nodes → HasEffect g n → is_marked marks n ≡ true
all_effects g marks C n l (own e) = C.own n l e
all_effects g marks C n l (inside i e) =
    let k = child_is g n _ i in
    sym (ap (is_marked marks) k.1) ∙ C.carried _ (omega arith) k.0 (all_effects g marks C _ k.0 e)

pub carried_all : (g : Graph) (marks : List Bool) → AreCarried g 0 marks → AreEffects g marks
carried_all g marks C = record { count = C.count; effects = C.effects; all = all_effects g marks C }
