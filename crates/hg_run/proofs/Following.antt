-- Where links lead from each node.
use Rattle.std.proofs.Common.{◌≡◌, ◌≢◌, ◌⊎◌, inl, inr, ℕ, zero, suc, ◌+◌, ◌<◌, ◌≤◌, Bool, true, false, List, [], ◌∷◌, ◌++◌, length, map, set, get_or, Option, Some, None, refl, sym, ap, ap₂, ◌∙◌, subst, arith}
use Rattle.std.specs.Prelude.{slice_get, ◌||◌, ◌==◌}
use Rattle.std.proofs.lemmas.Bool.{eq-eqb, cases_order}
use Rattle.std.proofs.lemmas.List.{get_or-set_same, get_or-set_other, length-map, map-set, get_or-map, length-set}
use Rattle.gp_base.specs.Membership.{In}
use Rattle.hg_graph.specs.Graph.{Graph, Link, Ports, Order, IsGraph}
use Rattle.hg_graph.specs.declared.link.NodeId.{NodeId}
use Rattle.hg_laws.proofs.Children.{get_in}
use Rattle.hg_steps.specs.Counters.{source_of}
use Rattle.hg_run.specs.code.Due.{is_among, target_of, followers_at, HasFollowers, with_more}

among_left : (m : ℕ) (xs ys : List NodeId) → is_among m xs ≡ true → is_among m (xs ++ ys) ≡ true
among_left m [] ys e = absurd cc
among_left m (x ∷ xs) ys e = go (x.0 == m) e (among_left m xs ys)
  where
    go : (t : Bool) → (t || is_among m xs) ≡ true → (is_among m xs ≡ true → is_among m (xs ++ ys) ≡ true) → (t || is_among m (xs ++ ys)) ≡ true
    go true e later = refl
    go false e later = later e

among_last : (t : NodeId) (xs : List NodeId) → is_among t.0 (xs ++ t ∷ []) ≡ true
among_last t [] = ap (λ b. b || false) (eq-eqb t.0 t.0 refl)
among_last t (x ∷ xs) = go (x.0 == t.0) (among_last t xs)
  where
    go : (b : Bool) → is_among t.0 (xs ++ t ∷ []) ≡ true → (b || is_among t.0 (xs ++ t ∷ [])) ≡ true
    go true e = refl
    go false e = e

module _ (lists : List (List NodeId)) (a : ℕ) (t : NodeId) (l : a < length lists) where
  here : followers_at (with_more lists a t) a ≡ followers_at lists a ++ t ∷ []
  here = get_or-set_same lists a (get_or lists a [] ++ t ∷ []) [] l

  stays : (m n : ℕ) → is_among m (followers_at lists n) ≡ true → is_among m (followers_at (with_more lists a t) n) ≡ true
  stays m n e = elim (cases_order n a) [
    | inl q ↦ subst (λ n. is_among m (followers_at (with_more lists a t) n) ≡ true) (sym q) (ap (is_among m) here ∙ among_left m (followers_at lists a) (t ∷ []) (ap (λ n. is_among m (followers_at lists n)) (sym q) ∙ e))
    | inr q ↦ ap (is_among m) (get_or-set_other lists a n (get_or lists a [] ++ t ∷ []) [] (apart q)) ∙ e
  ]
    where
      apart : (n < a) ⊎ (a < n) → n ≢ a
      apart (inl h) q = omega (arith, h, q)
      apart (inr h) q = omega (arith, h, q)

  comes : is_among t.0 (followers_at (with_more lists a t) a) ≡ true
  comes = ap (is_among t.0) here ∙ among_last t (followers_at lists a)

-- the first k links are followed
abbrev pub FollowUpTo : Graph → List (List NodeId) → ℕ → Type 0
FollowUpTo g lists k = (i : ℕ) (link : Link) → i < k → slice_get g.links i ≡ Some link → is_among (target_of link) (followers_at lists (source_of link)) ≡ true

pub follow_more : (g : Graph) (lists : List (List NodeId)) (k a : ℕ) (link : Link) (t : NodeId) → Some link ≡ slice_get g.links k → a ≡ source_of link → t.0 ≡ target_of link → a < length lists → FollowUpTo g lists k → FollowUpTo g (with_more lists a t) (k + 1)
follow_more g lists k a link t at s to l far i other h e = elim (cases_order i k) [
  | inl q ↦ (let same : Some link ≡ Some other = at ∙ (ap (slice_get g.links) (sym q) ∙ e) in last (some_inj same))
  | inr q ↦ stays lists a t l (target_of other) (source_of other) (far i other (less q h) e)
]
  where
    less : (i < k) ⊎ (k < i) → i < k + 1 → i < k
    less (inl q) h = q
    less (inr q) h = absurd (omega (arith, q, h))

    or_link : Option Link → Link
    or_link None = link
    or_link (Some x) = x

    some_inj : Some link ≡ Some other → link ≡ other
    some_inj e = ap or_link e

    last : link ≡ other → is_among (target_of other) (followers_at (with_more lists a t) (source_of other)) ≡ true
    last q = ap₂ (λ m n. is_among m (followers_at (with_more lists a t) n)) (sym (to ∙ ap target_of q)) (sym (s ∙ ap source_of q)) ∙ comes lists a t l

in_place : {A : Type 0} (x : A) (xs : List A) → In x xs → (i : ℕ) × (i < length xs) × (slice_get xs i ≡ Some x)
in_place x [] i = absurd i
in_place x (y ∷ xs) (inl e) = (0, omega arith, ap Some (sym e))
in_place x (y ∷ xs) (inr i) = let p = in_place x xs i in (suc p.0, (let l = p.1 in omega arith), p.2)

pub follow_done : (g : Graph) (lists : List (List NodeId)) (k : ℕ) → length g.links ≤ k → FollowUpTo g lists k → HasFollowers g lists
follow_done g lists k l far link i = let p = in_place link g.links i in far p.0 link (let h = p.1 in omega arith) p.2

pub source_within : (g : Graph) (k : ℕ) (link : Link) → IsGraph g → Some link ≡ slice_get g.links k → source_of link < length g.nodes
source_within g k (Ports a b) G at = (G.links (Ports a b) (get_in g.links k (Ports a b) (sym at))).0
source_within g k (Order a b) G at = (G.links (Order a b) (get_in g.links k (Order a b) (sym at))).0

-- a list of what is seen of some lists
pub more_seen : {V : Type 0} (items : V → List NodeId) (lists : List V) (a : ℕ) (was now : V) (t : NodeId) → a < length lists → was ≡ get_or lists a was → items now ≡ items was ++ t ∷ []
    → map items (set lists a now) ≡ with_more (map items lists) a t
more_seen items lists a was now t l at is =
    map-set items lists a now ∙ ap (set (map items lists) a) (is ∙ ap (λ xs. xs ++ t ∷ []) (ap items at ∙ sym (get_or-map items lists a was [] l)))

pub past : {A : Type 0} (xs : List A) (k : ℕ) → slice_get xs k ≡ None → length xs ≤ k
past [] k e = omega arith
past (x ∷ xs) zero e = absurd cc
past (x ∷ xs) (suc k) e = let l = past xs k e in omega arith

pub same_length : {V : Type 0} (items : V → List NodeId) (old new : List V) (a : ℕ) (t : NodeId) → map items new ≡ with_more (map items old) a t → length new ≡ length old
same_length items old new a t e = sym (length-map new items) ∙ (ap length e ∙ (length-set (map items old) a (get_or (map items old) a [] ++ t ∷ []) ∙ length-map old items))
