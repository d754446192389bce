-- Value links and order links as lists of successors.
use Rattle.std.proofs.Common.{◌≡◌, ◌≢◌, ◌⊎◌, inl, inr, ⊎_elim, ℕ, zero, suc, ◌+◌, ◌<◌, ◌≤◌, List, [], ◌∷◌, ◌++◌, length, set, replicate, Option, Some, None, sym, ap, subst, refl, ◌∙◌, arith}
use Rattle.std.specs.Prelude.{slice_get}
use Rattle.std.proofs.lemmas.Bool.{cases_eq, cases_lt}
use Rattle.std.proofs.lemmas.List.{length-set, get_or-set_same, get_or-set_other, length-replicate, get_or-replicate, get_or_past}
use Rattle.hg_ops.specs.Op.{ins_of}
use Rattle.gp_base.specs.Membership.{In}
use Rattle.hg_graph.specs.Graph.{Graph, Link, Ports, Order, IsGraph, LinkIsWithin, op_at}
use Rattle.hg_graph.specs.Valid.{Edge, along_value, along_order, Path, edge, joined}
use Rattle.hg_laws.proofs.Children.{get_in}
use Rattle.walks.specs.Walks.{row, Leads, Walk, once, first, IsClosed}
use Rattle.walks.proofs.WalkLemmas.{walk_on}
use Rattle.hg_valid.specs.code.Successors.{Joins, AreSuccessors, HasEdges}

in_left : {A : Type 0} (x : A) (xs ys : List A) → In x xs → In x (xs ++ ys)
in_left x [] ys i = absurd i
in_left x (a ∷ xs) ys (inl e) = inl e
in_left x (a ∷ xs) ys (inr i) = inr (in_left x xs ys i)

in_last : {A : Type 0} (x : A) (xs : List A) → In x (xs ++ x ∷ [])
in_last x [] = inl refl
in_last x (a ∷ xs) = inr (in_last x xs)

in_either : {A : Type 0} (x y : A) (xs : List A) → In x (xs ++ y ∷ []) → In x xs ⊎ (x ≡ y)
in_either x y [] (inl e) = inr e
in_either x y [] (inr i) = absurd i
in_either x y (a ∷ xs) (inl e) = inl (inl e)
in_either x y (a ∷ xs) (inr i) = ⊎_elim (λ j. inl (inr j)) (λ e. inr e) (in_either x y xs i)

in_get : {A : Type 0} (x : A) (xs : List A) → In x xs → (k : ℕ) × (k < length xs) × (slice_get xs k ≡ Some x)
in_get x [] i = absurd i
in_get x (a ∷ xs) (inl e) = (0, omega arith, ap Some (sym e))
in_get x (a ∷ xs) (inr i) = let r = in_get x xs i in (suc r.0, omega arith, r.2)

pub got_some : {A : Type 0} (xs : List A) (k : ℕ) → k < length xs → slice_get xs k ≢ None
got_some [] k l e = absurd (omega arith)
got_some (x ∷ xs) zero l e = absurd cc
got_some (x ∷ xs) (suc k) l e = got_some xs k (omega arith) e

-- ---- links that join

joins_edge : (g : Graph) (o : Option Link) (a b : ℕ) → ((l : Link) → o ≡ Some l → In l g.links) → Joins g o a b → Edge g a b
joins_edge g None a b h j = absurd j
joins_edge g (Some (Ports from to)) a b h j =
    let P : ℕ → Type 0 = λ m. In (Ports (record { node = m; index = from.index }) to) g.links in
    let Q : ℕ → Type 0 = λ m. In (Ports (record { node = a; index = from.index }) (record { node = m; index = to.index })) g.links in
    let R : ℕ → Type 0 = λ m. to.index < length (ins_of (op_at g m)) in
    along_value from.index to.index (subst Q j.1 (subst P j.0 (h (Ports from to) refl))) (subst R j.1 j.2)
joins_edge g (Some (Order before after)) a b h j =
    let P : ℕ → Type 0 = λ m. In (Order m after) g.links in
    let Q : ℕ → Type 0 = λ m. In (Order a m) g.links in
    along_order (subst Q j.1 (subst P j.0 (h (Order before after) refl)))

joins_same : (g : Graph) (o : Option Link) (a b x y : ℕ) → Joins g o a b → Joins g o x y → (a ≡ x) × (b ≡ y)
joins_same g None a b x y j k = absurd j
joins_same g (Some (Ports from to)) a b x y j k = (sym j.0 ∙ k.0, sym j.1 ∙ k.1)
joins_same g (Some (Order before after)) a b x y j k = (sym j.0 ∙ k.0, sym j.1 ∙ k.1)

edge_joins : (g : Graph) (a b : ℕ) → Edge g a b → (j : ℕ) × (j < length g.links) × Joins g (slice_get g.links j) a b
edge_joins g a b (along_value p q i l) =
    let r = in_get _ g.links i in
    (r.0, r.1, subst (λ (o : Option Link). Joins g o a b) (sym r.2) (refl, refl, l))
edge_joins g a b (along_order i) =
    let r = in_get _ g.links i in
    (r.0, r.1, subst (λ (o : Option Link). Joins g o a b) (sym r.2) (refl, refl))

-- ---- one link more

pub edge_added : (g : Graph) (k : ℕ) (lists lists' : List (List ℕ)) (a b : ℕ) → HasEdges g k lists → Joins g (slice_get g.links k) a b → a < length lists
    → lists' ≡ set lists a (row lists a ++ b ∷ []) → HasEdges g (k + 1) lists'
edge_added g k lists lists' a b H j l e =
    let new : List ℕ = row lists a ++ b ∷ [] in
    let after : List (List ℕ) = set lists a new in
    let here : row after a ≡ new = get_or-set_same lists a new [] l in
    let other : (x : ℕ) → x ≢ a → row after x ≡ row lists x = λ x ne. get_or-set_other lists a x new [] ne in
    let joins : Edge g a b = joins_edge g (slice_get g.links k) a b (λ m h. get_in g.links k m h) j in
    let kept : (x y : ℕ) → Leads lists x y → Leads after x y = λ x y i. elim (cases_eq x a) [
      | inl f ↦ subst (λ (m : ℕ). Leads after m y) (sym f) (subst (λ (ns : List ℕ). In y ns) (sym here) (in_left y (row lists a) (b ∷ []) (subst (λ (m : ℕ). Leads lists m y) f i)))
      | inr ne ↦ subst (λ (ns : List ℕ). In y ns) (sym (other x ne)) i
    ] in
    subst (λ (xs : List (List ℕ)). HasEdges g (k + 1) xs) (sym e) (record {
      count = length-set lists a new ∙ H.count;
      edges = λ x y i. elim (cases_eq x a) [
        | inl f ↦ ⊎_elim
            (λ o. H.edges x y (subst (λ (m : ℕ). Leads lists m y) (sym f) o))
            (λ d. subst (λ (m : ℕ). Edge g x m) (sym d) (subst (λ (m : ℕ). Edge g m b) (sym f) joins))
            (in_either y b (row lists a) (subst (λ (ns : List ℕ). In y ns) here (subst (λ (m : ℕ). Leads after m y) f i)))
        | inr ne ↦ H.edges x y (subst (λ (ns : List ℕ). In y ns) (other x ne) i)
      ];
      below = λ m h x y q. elim (cases_eq m k) [
        | inl f ↦
            let s = joins_same g (slice_get g.links k) a b x y j (subst (λ (n : ℕ). Joins g (slice_get g.links n) x y) f q) in
            subst (λ (n : ℕ). Leads after n y) s.0 (subst (λ (n : ℕ). Leads after a n) s.1 (subst (λ (ns : List ℕ). In b ns) (sym here) (in_last b (row lists a))))
        | inr ne ↦ kept x y (H.below m (omega arith) x y q)
      ];
    })

-- the link at place k, where it is one of ports or of order
pub ports_join : (g : Graph) (k : ℕ) (l : Link) → Some l ≡ slice_get g.links k → (a b : ℕ) → Joins g (Some l) a b → Joins g (slice_get g.links k) a b
ports_join g k l e a b j = subst (λ (o : Option Link). Joins g o a b) e j

pub link_within : (g : Graph) → IsGraph g → (k : ℕ) (l : Link) → Some l ≡ slice_get g.links k → LinkIsWithin (length g.nodes) l
link_within g G k l e = G.links l (get_in g.links k l (sym e))

-- ---- where it starts and ends

pub edges_start : (g : Graph) (lists : List (List ℕ)) → lists ≡ replicate (length g.nodes) [] → HasEdges g 0 lists
edges_start g lists e = subst (λ (xs : List (List ℕ)). HasEdges g 0 xs) (sym e) (record {
  count = length-replicate (length g.nodes) [];
  edges = λ a b i. elim (cases_lt a (length g.nodes)) [
    | inl l ↦ absurd (subst (λ (ns : List ℕ). In b ns) (get_or-replicate (length g.nodes) a [] [] l) i)
    | inr l ↦ absurd (subst (λ (ns : List ℕ). In b ns) (get_or_past (replicate (length g.nodes) []) a [] (let h = length-replicate {A = List ℕ} (length g.nodes) [] in omega arith)) i)
  ];
  below = λ j h. absurd (omega arith);
})

pub edges_end : (g : Graph) (k : ℕ) (lists : List (List ℕ)) → length g.links ≤ k → HasEdges g k lists → AreSuccessors g lists
edges_end g k lists l H = record {
  count = H.count;
  edges = H.edges;
  all = λ a b e. let r = edge_joins g a b e in H.below r.0 (let h : r.0 < length g.links = r.1 in omega arith) a b r.2;
}

edge_within : (g : Graph) → IsGraph g → (a b : ℕ) → Edge g a b → b < length g.nodes
edge_within g G a b (along_value p q i l) = (G.links _ i).1
edge_within g G a b (along_order i) = (G.links _ i).1

pub closed_successors : (g : Graph) → IsGraph g → (lists : List (List ℕ)) → AreSuccessors g lists → IsClosed lists
closed_successors g G lists S = record { within = λ a b i. let h = edge_within g G a b (S.edges a b i) in let e : length lists ≡ length g.nodes = S.count in omega arith }

-- ---- walks and paths

pub path_of : (g : Graph) (lists : List (List ℕ)) → AreSuccessors g lists → (a b : ℕ) → Walk lists a b → Path g a b
path_of g lists S a b (once l) = edge (S.edges a b l)
path_of g lists S a b (first l w) = joined (edge (S.edges a _ l)) (path_of g lists S _ b w)

pub walk_of : (g : Graph) (lists : List (List ℕ)) → AreSuccessors g lists → (a b : ℕ) → Path g a b → Walk lists a b
walk_of g lists S a b (edge e) = once (S.all a b e)
walk_of g lists S a b (joined p q) = walk_on lists a _ b (walk_of g lists S a _ p) (walk_of g lists S _ b q)
