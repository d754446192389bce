-- Whether effect nodes have different counts, region by region, and what follows.
use Rattle.std.proofs.Common.{◌≡◌, ◌≢◌, inl, inr, ⊎_elim, ℕ, zero, suc, ◌+◌, ◌-◌, ◌<◌, ◌≤◌, Bool, true, false, List, [], ◌∷◌, length, get_or, set, Some, sym, ap, subst, refl, ◌∙◌, arith}
use Rattle.std.specs.Prelude.{slice_get, IsTrue, MatchBool, ◌↔◌, Result, Ok, Err, IfOk}
use Rattle.std.specs.Bool.{OnTrue}
use Rattle.std.proofs.lemmas.Bool.{cases_eq, cases_lt, false≢true}
use Rattle.std.proofs.lemmas.List.{get_or-set_same, get_or-set_other}
use Rattle.hg_ops.specs.Op as op
use Rattle.hg_ops.specs.Op.{Op, is_effect, is_dataflow_container, fires}
use Rattle.gp_base.specs.Membership.{In}
use Rattle.hg_graph.specs.Graph.{Graph, op_at, parent_at, children}
use Rattle.hg_graph.specs.Ordered.{HasEffect, own, inside, IsOrdered}
use Rattle.hg_graph.specs.Valid.{IsValid, Path, edge, joined, Edge, may_stand_in}
use Rattle.hg_laws.proofs.Lists.{Distinct, Distinct-filter, Distinct-numbers}
use Rattle.hg_laws.proofs.Known.{Known, known}
use Rattle.hg_laws.proofs.Wires.{edge_cases}
use Rattle.hg_laws.proofs.Main.{picks_change_nothing_lem}
use Rattle.hg_laws.proofs.Children.{child_is, is_child, kid_is, is_kid}
use Rattle.walks.specs.Walks.{Walk, IsClosed}
use Rattle.walks.specs.Counts.{is_marked, AreCounted}
use Rattle.walks.specs.Cycles.{HasCycle}
use Rattle.walks.proofs.CountLemmas.{own_mark, falls_from, next_marked, marked_one}
use Rattle.walks.proofs.WalkLemmas.{place_in, in_place, walk_on}
use Rattle.hg_valid.specs.code.Successors.{AreSuccessors}
use Rattle.hg_valid.specs.code.Effects.{AreEffects}
use Rattle.hg_valid.specs.SameRuns.{RunsAreSame}
use Rattle.hg_valid.specs.code.Regions.{AreApart, HaveSame, HasSame, ApartBelow, IsSeen, child_at}
use Rattle.hg_valid.proofs.Edges.{path_of, walk_of, closed_successors}

-- ---- the children of a region

children_distinct : (g : Graph) (c : ℕ) → Distinct (children g c)
unfolding children
children_distinct g c = Distinct-filter _ _ (Distinct-numbers 0 (length g.nodes))

apart_at : (xs : List ℕ) → Distinct xs → (i j : ℕ) → i < j → j < length xs → get_or xs i 0 ≢ get_or xs j 0
apart_at [] d i j h l e = omega arith
apart_at (x ∷ xs) d zero zero h l e = omega arith
apart_at (x ∷ xs) d zero (suc j) h l e = d.0 (subst (λ (m : ℕ). In m xs) (sym e) (in_place xs j (omega arith)))
apart_at (x ∷ xs) d (suc i) zero h l e = omega arith
apart_at (x ∷ xs) d (suc i) (suc j) h l e = apart_at xs d.1 i j (omega arith) (omega arith) e

pub got_at : (xs : List ℕ) (k x : ℕ) → slice_get xs k ≡ Some x → (k < length xs) × (get_or xs k 0 ≡ x)
got_at [] k x e = absurd cc
got_at (y ∷ xs) zero x e = (omega arith, cc)
got_at (y ∷ xs) (suc k) x e = let r = got_at xs k x e in (omega arith, r.1)

pub child_within : (g : Graph) (c k : ℕ) → k < length (children g c) → child_at g c k < length g.nodes
child_within g c k l = (child_is g c (child_at g c k) (in_place (children g c) k l)).0

-- ---- the counts that have been seen

pub seen_start : (g : Graph) (c : ℕ) (marks : List Bool) (counts seen : List ℕ) → ((i : ℕ) → get_or seen i 0 ≤ c) → IsSeen g c 0 marks counts seen
seen_start g c marks counts seen h = record {
  earlier = λ i. let k = h i in omega arith;
  written = λ j l. absurd (omega arith);
  had = λ i e. absurd (let k = h i in omega arith);
  differ = λ i j l k. absurd (omega arith);
}

pub seen_past : (g : Graph) (c k : ℕ) (marks : List Bool) (counts seen : List ℕ) → IsSeen g c k marks counts seen → is_marked marks (child_at g c k) ≡ false → IsSeen g c (k + 1) marks counts seen
seen_past g c k marks counts seen S e =
    let not_last : (j : ℕ) → j < k + 1 → is_marked marks (child_at g c j) ≡ true → j < k = λ j l m. elim (cases_eq j k) [
      | inl f ↦ absurd (false≢true (sym e ∙ ap (λ i. is_marked marks (child_at g c i)) (sym f) ∙ m))
      | inr ne ↦ omega arith
    ] in
    record {
      earlier = S.earlier;
      written = λ j l m. S.written j (not_last j l m) m;
      had = λ i f. let r = S.had i f in let l : r.0 < k = r.1 in (r.0, omega arith, r.2, r.3);
      differ = λ i j l h m n. S.differ i j l (not_last j h n) m n;
    }

pub seen_on : (g : Graph) (c k : ℕ) (marks : List Bool) (counts seen : List ℕ) → IsSeen g c k marks counts seen → is_marked marks (child_at g c k) ≡ true
    → get_or counts (child_at g c k) 0 < length seen → get_or seen (get_or counts (child_at g c k) 0) 0 ≢ c + 1
    → IsSeen g c (k + 1) marks counts (set seen (get_or counts (child_at g c k) 0) (c + 1))
seen_on g c k marks counts seen S m l new =
    let at : ℕ = get_or counts (child_at g c k) 0 in
    let after : List ℕ = set seen at (c + 1) in
    let here : get_or after at 0 ≡ c + 1 = get_or-set_same seen at (c + 1) 0 l in
    let other : (i : ℕ) → i ≢ at → get_or after i 0 ≡ get_or seen i 0 = λ i ne. get_or-set_other seen at i (c + 1) 0 ne in
    let count_of : (j : ℕ) → j ≡ k → get_or counts (child_at g c j) 0 ≡ at = λ j f. ap (λ i. get_or counts (child_at g c i) 0) f in
    let fresh : (j : ℕ) → j < k → is_marked marks (child_at g c j) ≡ true → get_or counts (child_at g c j) 0 ≢ at = λ j h n e. new (sym (ap (λ i. get_or seen i 0) e) ∙ S.written j h n) in
    record {
      earlier = λ i. elim (cases_eq i at) [
        | inl f ↦ let p : get_or after i 0 ≡ get_or after at 0 = ap (λ x. get_or after x 0) f in omega arith
        | inr ne ↦ let p = other i ne in let h = S.earlier i in omega arith
      ];
      written = λ j h n. elim (cases_eq j k) [
        | inl f ↦ ap (λ x. get_or after x 0) (count_of j f) ∙ here
        | inr ne ↦ let l' : j < k = omega arith in other (get_or counts (child_at g c j) 0) (fresh j l' n) ∙ S.written j l' n
      ];
      had = λ i f. elim (cases_eq i at) [
        | inl e ↦ (k, omega arith, m, sym e)
        | inr ne ↦ let r = S.had i (sym (other i ne) ∙ f) in let h : r.0 < k = r.1 in (r.0, omega arith, r.2, r.3)
      ];
      differ = λ i j h h' n n' e. elim (cases_eq j k) [
        | inl f ↦ fresh i (omega arith) n (e ∙ count_of j f)
        | inr ne ↦ S.differ i j h (omega arith) n n' e
      ];
    }

pub seen_same : (g : Graph) (c k : ℕ) (marks : List Bool) (counts seen : List ℕ) → IsSeen g c k marks counts seen → k < length (children g c) → is_marked marks (child_at g c k) ≡ true
    → get_or seen (get_or counts (child_at g c k) 0) 0 ≡ c + 1 → HaveSame g c marks counts
seen_same g c k marks counts seen S l m e =
    let r = S.had (get_or counts (child_at g c k) 0) e in
    let j : r.0 < k = r.1 in
    record {
      one = child_at g c r.0;
      other = child_at g c k;
      one_in = in_place (children g c) r.0 (omega arith);
      other_in = in_place (children g c) k l;
      one_marked = r.2;
      other_marked = m;
      differ = apart_at (children g c) (children_distinct g c) r.0 k j l;
      same = r.3;
    }

pub seen_all : (g : Graph) (c k : ℕ) (marks : List Bool) (counts seen : List ℕ) → IsSeen g c k marks counts seen → length (children g c) ≤ k → AreApart g c marks counts
seen_all g c k marks counts seen S l = record {
  differ = λ a b i j m n ne e.
      let p = place_in a (children g c) i in
      let q = place_in b (children g c) j in
      let ps : p.0 < length (children g c) = p.1 in
      let qs : q.0 < length (children g c) = q.1 in
      let ma : is_marked marks (child_at g c p.0) ≡ true = ap (is_marked marks) p.2 ∙ m in
      let mb : is_marked marks (child_at g c q.0) ≡ true = ap (is_marked marks) q.2 ∙ n in
      let same : get_or counts (child_at g c p.0) 0 ≡ get_or counts (child_at g c q.0) 0 = ap (λ x. get_or counts x 0) p.2 ∙ e ∙ ap (λ x. get_or counts x 0) (sym q.2) in
      elim (cases_lt p.0 q.0) [
        | inl h ↦ S.differ p.0 q.0 h (omega arith) ma mb same
        | inr h ↦ elim (cases_eq p.0 q.0) [
          | inl f ↦ ne (sym p.2 ∙ ap (child_at g c) f ∙ q.2)
          | inr nf ↦ S.differ q.0 p.0 (omega arith) (omega arith) mb ma (sym same)
        ]
      ];
}

-- ---- the regions so far

pub below_start : (g : Graph) (marks : List Bool) (counts : List ℕ) → ApartBelow g 0 marks counts
below_start g marks counts = record { each = λ r l. absurd (omega arith) }

pub below_on : (g : Graph) (c : ℕ) (marks : List Bool) (counts : List ℕ) → ApartBelow g c marks counts → (is_dataflow_container (op_at g c) ≡ true → AreApart g c marks counts) → ApartBelow g (c + 1) marks counts
below_on g c marks counts B h = record {
  each = λ r l f. elim (cases_eq r c) [
    | inl e ↦ subst (λ (i : ℕ). AreApart g i marks counts) (sym e) (h (subst (λ (i : ℕ). is_dataflow_container (op_at g i) ≡ true) e f))
    | inr ne ↦ B.each r (omega arith) f
  ];
}

-- ---- effect nodes along paths

effect_fires : (kind : Op) → is_effect kind ≡ true → fires kind ≡ true
effect_fires (op.Input r) e = absurd cc
effect_fires (op.Output r) e = absurd cc
effect_fires (op.Const n) e = absurd cc
effect_fires _ e = refl

parent_fires : (kind child : Op) → may_stand_in kind child ≡ true → fires kind ≡ true
parent_fires (op.Input r) child e = absurd cc
parent_fires (op.Output r) child e = absurd cc
parent_fires (op.Const n) child e = absurd cc
parent_fires _ child e = refl

inside_fires : (g : Graph) → Known g → (n m : ℕ) → In m (children g n) → fires (op_at g n) ≡ true
inside_fires g K n m i =
    let k = child_is g n m i in
    elim (cases_eq m 0) [
      | inl z ↦ absurd (k.2 (z ∙ sym K.root_parent ∙ ap (parent_at g) (sym z) ∙ k.1))
      | inr nz ↦ parent_fires (op_at g n) (op_at g m) (subst (λ (p : ℕ). may_stand_in (op_at g p) (op_at g m) ≡ true) k.1 (K.suits m (omega arith) k.0))
    ]

fires_effect : (g : Graph) → Known g → (n : ℕ) → HasEffect g n → fires (op_at g n) ≡ true
fires_effect g K n (own e) = effect_fires (op_at g n) e
fires_effect g K n (inside i h) = inside_fires g K n _ i

edge_together : (g : Graph) → Known g → (a b : ℕ) → Edge g a b → parent_at g b ≡ parent_at g a
edge_together g K a b e = ⊎_elim
    (λ w. ap (parent_at g) (sym w.3) ∙ sym (K.wires w.0 w.1).together ∙ ap (parent_at g) w.2)
    (λ l. ap (parent_at g) (sym l.3) ∙ sym (K.orders l.0 l.1).together ∙ ap (parent_at g) l.2)
    (edge_cases g a b e)

path_together : (g : Graph) → Known g → (a b : ℕ) → Path g a b → parent_at g b ≡ parent_at g a
path_together g K a b (edge e) = edge_together g K a b e
path_together g K a b (joined p q) = path_together g K _ b q ∙ path_together g K a _ p

path_within : (g : Graph) → Known g → (a b : ℕ) → Path g a b → b < length g.nodes
path_within g K a b (edge e) = ⊎_elim
    (λ w. subst (λ (n : ℕ). n < length g.nodes) w.3 (K.wires w.0 w.1).to_in)
    (λ l. subst (λ (n : ℕ). n < length g.nodes) l.3 (K.orders l.0 l.1).after_in)
    (edge_cases g a b e)
path_within g K a b (joined p q) = path_within g K _ b q

-- a child of a region leads to children of the region only
child_on_path : (g : Graph) → Known g → (c a b : ℕ) → is_dataflow_container (op_at g c) ≡ true → In a (children g c) → Path g a b → In b (children g c)
child_on_path g K c a b f i p =
    let k = child_is g c a i in
    let together : parent_at g b ≡ c = path_together g K a b p ∙ k.1 in
    let l = path_within g K a b p in
    is_child g c b l together (λ e. elim (cases_eq b 0) [
      | inl z ↦ false≢true (sym (ap is_dataflow_container K.root) ∙ ap (λ n. is_dataflow_container (op_at g n)) (sym z ∙ e) ∙ f)
      | inr nz ↦ let h : parent_at g b < b = K.rises b (omega arith) l in omega arith
    ])

-- ---- what follows

record IsRegion (g : Graph) (lists : List (List ℕ)) (marks : List Bool) (counts : List ℕ) (c : ℕ) : Type 0 where
  known : Known g
  successors : AreSuccessors g lists
  closed : IsClosed lists
  effects : AreEffects g marks
  counted : AreCounted lists marks counts
  container : is_dataflow_container (op_at g c) ≡ true
  apart : AreApart g c marks counts

record IsMember (g : Graph) (c : ℕ) (marks : List Bool) (a : ℕ) : Type 0 where
  child : In a (children g c)
  marked : is_marked marks a ≡ true

-- of two effect nodes the one of the greater count leads to the other
leads_down : (g : Graph) (lists : List (List ℕ)) (marks : List Bool) (counts : List ℕ) (c : ℕ) → IsRegion g lists marks counts c → (n a b : ℕ) → IsMember g c marks a → IsMember g c marks b
    → get_or counts a 0 ≤ n → get_or counts b 0 < get_or counts a 0 → Walk lists a b
leads_down g lists marks counts c R zero a b M N l h = absurd (omega arith)
leads_down g lists marks counts c R (suc n) a b M N l h =
    let e : length lists ≡ length g.nodes = R.successors.count in
    let la : a < length g.nodes = (child_is g c a M.child).0 in
    let lb : b < length g.nodes = (child_is g c b N.child).0 in
    let ub : 1 ≤ get_or counts b 0 = let u = marked_one marks b N.marked in let o = own_mark lists marks counts R.counted b (omega arith) in omega arith in
    let k : ℕ = get_or counts a 0 - 2 in
    let two : get_or counts a 0 ≡ suc (suc k) = omega arith in
    let w = next_marked lists R.closed marks counts R.counted a k (omega arith) M.marked two in
    let x : ℕ = w.node in
    let X : IsMember g c marks x = record {
      child = child_on_path g R.known c a x R.container M.child (path_of g lists R.successors a x w.reached);
      marked = w.marked;
    } in
    let cx : get_or counts x 0 ≡ suc k = w.count_is in
    elim (cases_eq b x) [
      | inl f ↦ subst (λ (m : ℕ). Walk lists a m) (sym f) w.reached
      | inr ne ↦
          let nc : get_or counts b 0 ≢ get_or counts x 0 = R.apart.differ b x N.child X.child N.marked X.marked ne in
          walk_on lists a x b w.reached (leads_down g lists marks counts c R n x b X N (omega arith) (omega arith))
    ]

pub apart_ordered : (g : Graph) → IsValid g → (lists : List (List ℕ)) → AreSuccessors g lists → (marks : List Bool) → AreEffects g marks → (counts : List ℕ) → AreCounted lists marks counts
    → ApartBelow g (length g.nodes) marks counts → IsOrdered g
apart_ordered g V lists S marks E counts A B c a b f i j ha hb ne =
    let K = known g V in
    let ia = (kid_is g c a i).0 in
    let ib = (kid_is g c b j).0 in
    let ca = child_is g c a ia in
    let cb = child_is g c b ib in
    let ma : is_marked marks a ≡ true = E.all a ca.0 ha in
    let mb : is_marked marks b ≡ true = E.all b cb.0 hb in
    let lc : c < length g.nodes = subst (λ (n : ℕ). n < length g.nodes) ca.1 (V.graph.parents a ca.0) in
    let R : IsRegion g lists marks counts c = record { known = K; successors = S; closed = closed_successors g V.graph lists S; effects = E; counted = A; container = f; apart = B.each c lc f } in
    let M : IsMember g c marks a = record { child = ia; marked = ma } in
    let N : IsMember g c marks b = record { child = ib; marked = mb } in
    let nc : get_or counts a 0 ≢ get_or counts b 0 = R.apart.differ a b ia ib ma mb ne in
    elim (cases_lt (get_or counts a 0) (get_or counts b 0)) [
      | inl h ↦ inr (path_of g lists S b a (leads_down g lists marks counts c R (get_or counts b 0) b a N M (omega arith) h))
      | inr h ↦ inl (path_of g lists S a b (leads_down g lists marks counts c R (get_or counts a 0) a b M N (omega arith) (omega arith)))
    ]

pub same_unordered : (g : Graph) → IsValid g → (lists : List (List ℕ)) → AreSuccessors g lists → (marks : List Bool) → AreEffects g marks → (counts : List ℕ) → AreCounted lists marks counts
    → HasSame g marks counts → IsOrdered g → ⊥
same_unordered g V lists S marks E counts A H O =
    let K = known g V in
    let C = closed_successors g V.graph lists S in
    let e : length lists ≡ length g.nodes = S.count in
    let c : ℕ = H.region in
    let X = H.children_are in
    let one : ℕ = X.one in
    let other : ℕ = X.other in
    let lo : one < length g.nodes = (child_is g c one X.one_in).0 in
    let lt : other < length g.nodes = (child_is g c other X.other_in).0 in
    let eo : HasEffect g one = E.effects one X.one_marked in
    let et : HasEffect g other = E.effects other X.other_marked in
    let same : get_or counts one 0 ≡ get_or counts other 0 = X.same in
    ⊎_elim
    (λ p. let h = falls_from lists C marks counts A one other (omega arith) X.one_marked (walk_of g lists S one other p) in omega arith)
    (λ p. let h = falls_from lists C marks counts A other one (omega arith) X.other_marked (walk_of g lists S other one p) in omega arith)
    (O c one other H.is_region (is_kid g c one X.one_in (fires_effect g K one eo)) (is_kid g c other X.other_in (fires_effect g K other et)) eo et X.differ)

pub tells_order : (g : Graph) → IsValid g → (lists : List (List ℕ)) → AreSuccessors g lists → (marks : List Bool) → AreEffects g marks → (counts : List ℕ) → AreCounted lists marks counts
    → (b : Bool) → MatchBool b (ApartBelow g (length g.nodes) marks counts) (HasSame g marks counts) → IsTrue b ↔ IsOrdered g
tells_order g V lists S marks E counts A true h = (λ _. apart_ordered g V lists S marks E counts A h, λ _. refl)
tells_order g V lists S marks E counts A false h = (λ e. absurd (false≢true e), λ O. absurd (same_unordered g V lists S marks E counts A h O))

pub same_runs : (g : Graph) → IsValid g → (b : Bool) → IsTrue b ↔ IsOrdered g → OnTrue b (RunsAreSame g)
same_runs g V true h = λ f arguments w proper picks others. picks_change_nothing_lem g V (h.0 refl) f arguments w proper picks ∙ sym (picks_change_nothing_lem g V (h.0 refl) f arguments w proper others)
same_runs g V false h = tt

pub no_cycle : (g : Graph) → IsValid g → (lists : List (List ℕ)) → AreSuccessors g lists → HasCycle lists → ⊥
no_cycle g V lists S H = (known g V).no_circle H.node (path_of g lists S H.node H.node H.back)

-- what the test of counts says, over what was read for it
pub record HasTested (g given : Graph) (lists lists' : List (List ℕ)) (marks marks' marks'' : List Bool) (counts counts' : List ℕ) : Type 0 where
  pub valid : IsValid g
  pub given_is : given ≡ g
  pub successors : AreSuccessors g lists
  pub effects : AreEffects g marks
  pub counted : AreCounted lists' marks' counts
  pub lists_are : lists' ≡ lists
  pub marks_are : marks' ≡ marks
  pub marks_again : marks'' ≡ marks
  pub counts_are : counts' ≡ counts

tested : (g given : Graph) (lists lists' : List (List ℕ)) (marks marks' marks'' : List Bool) (counts counts' : List ℕ) → HasTested g given lists lists' marks marks' marks'' counts counts'
    → (b : Bool) → MatchBool b (ApartBelow given (length given.nodes) marks'' counts') (HasSame given marks'' counts') → IsTrue b ↔ IsOrdered g
tested g given lists lists' marks marks' marks'' counts counts' T b h =
    let A : AreCounted lists marks counts = subst (λ (xs : List (List ℕ)). AreCounted xs marks counts) T.lists_are (subst (λ (xs : List Bool). AreCounted lists' xs counts) T.marks_are T.counted) in
    let P : Graph → Type 0 = λ n. MatchBool b (ApartBelow n (length n.nodes) marks counts) (HasSame n marks counts) in
    let Q : List Bool → Type 0 = λ xs. MatchBool b (ApartBelow given (length given.nodes) xs counts') (HasSame given xs counts') in
    let R : List ℕ → Type 0 = λ xs. MatchBool b (ApartBelow given (length given.nodes) marks xs) (HasSame given marks xs) in
    tells_order g T.valid lists T.successors marks T.effects counts A b (subst P T.given_is (subst R T.counts_are (subst Q T.marks_again h)))

pub tested_order : (E : Type 0) (g given : Graph) (lists lists' : List (List ℕ)) (marks marks' marks'' : List Bool) (counts counts' : List ℕ) → HasTested g given lists lists' marks marks' marks'' counts counts'
    → (r : Result Bool E) → IfOk r (λ b. MatchBool b (ApartBelow given (length given.nodes) marks'' counts') (HasSame given marks'' counts')) → IfOk r (λ b. IsTrue b ↔ IsOrdered g)
tested_order E g given lists lists' marks marks' marks'' counts counts' T (Ok b) h = tested g given lists lists' marks marks' marks'' counts counts' T b h
tested_order E g given lists lists' marks marks' marks'' counts counts' T (Err e) h = h

pub tested_runs : (E : Type 0) (g : Graph) → IsValid g → (r : Result Bool E) → IfOk r (λ b. IsTrue b ↔ IsOrdered g) → IfOk r (λ b. OnTrue b (RunsAreSame g))
tested_runs E g V (Ok b) h = same_runs g V b h
tested_runs E g V (Err e) h = h
