-- Effect nodes of a region stand on one chain.
use Rattle.std.proofs.Common.{◌≡◌, ◌≢◌, ◌⊎◌, inl, inr, ⊎_elim, ℕ, suc, ◌≤◌, ◌<◌, Bool, true, false, cond, not, ◌&&◌, eqb-true, List, [], ◌∷◌, ◌++◌, length, Option, Some, None, refl, sym, ap, ◌∙◌, subst, arith}
use Rattle.gp_base.specs.Membership.{In}
use Rattle.hg_ops.specs.Op.{ins_of, is_effect, is_dataflow_container}
use Rattle.hg_graph.specs.Graph.{Graph, Link, Ports, Order, IsGraph, op_at, parent_at, children}
use Rattle.hg_graph.specs.Valid.{Path, edge, joined, Edge, along_value, along_order}
use Rattle.hg_graph.specs.Ordered.{HasEffect, own, inside}
use Rattle.hg_laws.proofs.Children.{child_is, kid_is, is_child}
use Rattle.hg_build.specs.Steps.{Grows}
use Rattle.hg_build.specs.Wired.{adds_order, is_last, leave_prior, leave_last}
use Rattle.hg_build.specs.Marks.{Latest, Owns, Marks, MarkedAt, MarkedIsOrdered, Latests, lates}
use Rattle.hg_build.specs.Built.{Frame}
use Rattle.hg_build.specs.declared.region.Place.{Place}
use Rattle.hg_build.specs.declared.region.Outer.{Outer}
use Rattle.hg_build.proofs.Linear.{split, op_past}

clash : (b : Bool) → b ≡ true → b ≡ false → ⊥
clash b t f = cc

in_front : (xs ys : List Link) (x : Link) → In x xs → In x (xs ++ ys)
in_front [] ys x i = absurd i
in_front (y ∷ xs) ys x (inl e) = inl e
in_front (y ∷ xs) ys x (inr i) = inr (in_front xs ys x i)

-- ---- in the end

effect_marked : (g : Graph) (marked : List ℕ) → parent_at g 0 ≡ 0 → Owns g marked → Marks g [] marked → (n : ℕ) → n < length g.nodes → HasEffect g n → In n marked ⊎ (n ≡ 0)
effect_marked g marked s w k n l (own e) = inl (w n l e)
effect_marked g marked s w k n l (inside {m = m} i e) =
    let c = child_is g n m i in
    ⊎_elim (λ j. ⊎_elim (λ x. inl (subst (λ y. In y marked) c.1 x)) (λ r. ⊎_elim (λ z. inr (sym c.1 ∙ z)) (λ x. absurd x) r) (k.outwards m j))
    (λ z. inr (sym c.1 ∙ ap (parent_at g) z ∙ s))
    (effect_marked g marked s w k m c.0 e)

pub marked_is_ordered : MarkedIsOrdered
marked_is_ordered g marked d so c a b fl ia ib ea eb ne =
    let ca = child_is g c a (kid_is g c a ia).0 in
    let cb = child_is g c b (kid_is g c b ib).0 in
    let ma = is_marked a ca.0 ca.1 ca.2 ea in
    let mb = is_marked b cb.0 cb.1 cb.2 eb in
    so.marks.joined a b ma mb ne (ca.1 ∙ sym cb.1) (ap (λ x. is_dataflow_container (op_at g x)) ca.1 ∙ fl)
  where
    root : parent_at g 0 ≡ 0
    root = ((d.places 0 d.graph.some).root refl).1

    is_marked : (x : ℕ) → x < length g.nodes → parent_at g x ≡ c → x ≢ c → HasEffect g x → In x marked
    is_marked x l p nc e = ⊎_elim (λ j. j) (λ z. absurd (nc (z ∙ sym (sym p ∙ (ap (parent_at g) z ∙ root))))) (effect_marked g marked root so.owns so.marks x l e)

-- ---- growth

edge_in : (g h : Graph) (xs : List Link) (a b : ℕ) → IsGraph g → Grows g h → h.links ≡ g.links ++ xs → Edge g a b → Edge h a b
edge_in g h xs a b s w e (along_value p q i l) =
    along_value p q (subst (λ ls. In (Ports (record { node = a; index = p }) (record { node = b; index = q })) ls) (sym e) (in_front g.links xs _ i)) (let z = ap (λ o. length (ins_of o)) (w.ops b (s.links _ i).1) in omega arith)
edge_in g h xs a b s w e (along_order i) = along_order (subst (λ ls. In (Order a b) ls) (sym e) (in_front g.links xs _ i))

pub path_in : (g h : Graph) (xs : List Link) (a b : ℕ) → IsGraph g → Grows g h → h.links ≡ g.links ++ xs → Path g a b → Path h a b
path_in g h xs a b s w e (edge x) = edge (edge_in g h xs a b s w e x)
path_in g h xs a c s w e (joined {b = b} x y) = joined (path_in g h xs a b s w e x) (path_in g h xs b c s w e y)

latest_in : (g h : Graph) (xs : List Link) (marked : List ℕ) (c : ℕ) (last : Option ℕ) → IsGraph g → Grows g h → h.links ≡ g.links ++ xs → ((m : ℕ) → In m marked → m < length g.nodes) → Latest g marked c last → Latest h marked c last
latest_in g h xs marked c None s w e b l = λ m i q. l m i (sym (w.parents m (b m i)) ∙ q)
latest_in g h xs marked c (Some x) s w e b l =
    (l.0, w.parents x (b x l.0) ∙ l.1, λ m i q. ⊎_elim (λ z. inl z) (λ z. inr (path_in g h xs m x s w e z)) (l.2 m i (sym (w.parents m (b m i)) ∙ q)))

pub latests_in : (g h : Graph) (xs : List Link) (marked : List ℕ) (p : Place) (frs : List Frame) → IsGraph g → Grows g h → h.links ≡ g.links ++ xs → ((m : ℕ) → In m marked → m < length g.nodes) → Latests g marked p frs → Latests h marked p frs
latests_in g h xs marked p [] s w e b l = latest_in g h xs marked p.container p.last s w e b l
latests_in g h xs marked p (fr ∷ frs) s w e b l = (latest_in g h xs marked p.container p.last s w e b l.0, latests_in g h xs marked fr.outer.place frs s w e b l.1)

-- what adds no effect op keeps each marked
pub owns_in : (g h : Graph) (marked : List ℕ) → Grows g h → ((n : ℕ) → length g.nodes ≤ n → is_effect (op_at h n) ≡ true → In n marked) → Owns g marked → Owns h marked
owns_in g h marked w quiet k n l f = ⊎_elim (λ o. k n o (ap is_effect (sym (w.ops n o)) ∙ f)) (λ r. ⊎_elim (λ q. quiet n (omega arith) f) (λ u. quiet n (omega arith) f) r) (split n (length g.nodes))

pub marks_in : (g h : Graph) (xs : List Link) (late marked : List ℕ) → IsGraph g → Grows g h → h.links ≡ g.links ++ xs → Marks g late marked → Marks h late marked
marks_in g h xs late marked s w e k = record {
  nodes = λ m i. let a = k.nodes m i in let b = w.more in omega arith;
  outwards = λ m i. subst (λ x. In x marked ⊎ ((x ≡ 0) ⊎ In x late)) (sym (w.parents m (k.nodes m i))) (k.outwards m i);
  joined = λ a b i j ne q f.
      let pa = w.parents a (k.nodes a i) in let pb = w.parents b (k.nodes b j) in
      let fl : is_dataflow_container (op_at g (parent_at g a)) ≡ true = ap is_dataflow_container (sym (w.ops (parent_at g a) (s.parents a (k.nodes a i)))) ∙ ap (λ x. is_dataflow_container (op_at h x)) (sym pa) ∙ f in
      ⊎_elim (λ z. inl (path_in g h xs a b s w e z)) (λ z. inr (path_in g h xs b a s w e z)) (k.joined a b i j ne (sym pa ∙ q ∙ pb) fl);
}

-- An effect node n that was not marked gets its mark: it comes after the latest of its region c, by an order link.
pub mark_node : (h : Graph) (late marked : List ℕ) (n c : ℕ) (last : Option ℕ) → Marks h late marked → n < length h.nodes → parent_at h n ≡ c → In c late → Latest h marked c last → ((l : ℕ) → last ≡ Some l → In (Order l n) h.links) → Marks h late (n ∷ marked) × Latest h (n ∷ marked) c (Some n)
mark_node h late marked n c last k lt par il la lk = (
  record {
    nodes = λ m i. ⊎_elim (λ e. omega arith) (λ j. k.nodes m j) i;
    outwards = λ m i. ⊎_elim (λ e. inr (inr (subst (λ x. In x late) (sym (ap (parent_at h) e ∙ par)) il))) (λ j. ⊎_elim (λ x. inl (inr x)) (λ x. inr x) (k.outwards m j)) i;
    joined = λ a b i j ne q f. both a b i j ne q f;
  },
  (inl refl, par, λ m i q. ⊎_elim (λ e. inl e) (λ j. inr (to_n last la lk m j q)) i),
)
  where
    to_n : (last : Option ℕ) → Latest h marked c last → ((l : ℕ) → last ≡ Some l → In (Order l n) h.links) → (m : ℕ) → In m marked → parent_at h m ≡ c → Path h m n
    to_n None l lk m i q = absurd (l m i q)
    to_n (Some x) l lk m i q = ⊎_elim (λ e. subst (λ y. Path h y n) (sym e) (edge (along_order (lk x refl)))) (λ z. joined z (edge (along_order (lk x refl)))) (l.2 m i q)

    both : (a b : ℕ) → In a (n ∷ marked) → In b (n ∷ marked) → a ≢ b → parent_at h a ≡ parent_at h b → is_dataflow_container (op_at h (parent_at h a)) ≡ true → Path h a b ⊎ Path h b a
    both a b (inl x) (inl y) ne q f = absurd (ne (x ∙ sym y))
    both a b (inl x) (inr j) ne q f = inr (subst (λ z. Path h b z) (sym x) (to_n last la lk b j (sym q ∙ ap (parent_at h) x ∙ par)))
    both a b (inr i) (inl y) ne q f = inl (subst (λ z. Path h a z) (sym y) (to_n last la lk a i (q ∙ ap (parent_at h) y ∙ par)))
    both a b (inr i) (inr j) ne q f = k.joined a b i j ne q f

-- ---- the calls

late_head : (p : Place) (frs : List Frame) → In p.container (lates p frs)
late_head p [] = inl refl
late_head p (fr ∷ frs) = inl refl

latest_head : (g : Graph) (marked : List ℕ) (p : Place) (frs : List Frame) → Latests g marked p frs → Latest g marked p.container p.last
latest_head g marked p [] l = l
latest_head g marked p (fr ∷ frs) l = l.0

-- a mark in another region
latest_more : (h : Graph) (marked : List ℕ) (n c : ℕ) (last : Option ℕ) → parent_at h n ≢ c → Latest h marked c last → Latest h (n ∷ marked) c last
latest_more h marked n c None ne l = λ m i q. ⊎_elim (λ e. ne (ap (parent_at h) (sym e) ∙ q)) (λ j. l m j q) i
latest_more h marked n c (Some x) ne l = (inr l.0, l.1, λ m i q. ⊎_elim (λ e. absurd (ne (ap (parent_at h) (sym e) ∙ q))) (λ j. l.2 m j q) i)

-- the regions that wait are other regions than c
abbrev pub Others : ℕ → List Frame → Type 0
Others c [] = Unit {0}
Others c (fr ∷ frs) = (c ≢ fr.outer.place.container) × Others c frs

frames_more : (h : Graph) (marked : List ℕ) (n c : ℕ) (p : Place) (frs : List Frame) → parent_at h n ≡ c → (c ≢ p.container) → Others c frs → Latests h marked p frs → Latests h (n ∷ marked) p frs
frames_more h marked n c p [] e ne o l = latest_more h marked n p.container p.last (λ q. ne (sym e ∙ q)) l
frames_more h marked n c p (fr ∷ frs) e ne o l = (latest_more h marked n p.container p.last (λ q. ne (sym e ∙ q)) l.0, frames_more h marked n c fr.outer.place frs e o.0 o.1 l.1)

lates_last : (p : Place) (last : Option ℕ) (frs : List Frame) → lates (record p { last = last }) frs ≡ lates p frs
lates_last p last [] = refl
lates_last p last (fr ∷ frs) = refl

set_last : (h : Graph) (marked : List ℕ) (p : Place) (last : Option ℕ) (frs : List Frame) (n : ℕ) → parent_at h n ≡ p.container → Others p.container frs → Latest h (n ∷ marked) p.container last → Latests h marked p frs → Latests h (n ∷ marked) (record p { last = last }) frs
set_last h marked p last [] n e o a l = a
set_last h marked p last (fr ∷ frs) n e o a l = (a, frames_more h marked n p.container fr.outer.place frs e o.0 o.1 l.1)

-- an effect node n is added to the open region, with its order link
pub effect_marked_at : (g h : Graph) (xs : List Link) (p : Place) (frs : List Frame) (marked : List ℕ) → IsGraph g → Grows g h → h.links ≡ g.links ++ xs → length h.nodes ≡ suc (length g.nodes) → parent_at h (length g.nodes) ≡ p.container → ((l : ℕ) → p.last ≡ Some l → In (Order l (length g.nodes)) h.links) → Others p.container frs → MarkedAt g p frs marked → MarkedAt h (record p { last = Some (length g.nodes) }) frs (length g.nodes ∷ marked)
effect_marked_at g h xs p frs marked s w e more par lk o k =
    let n = length g.nodes in
    let ls = latests_in g h xs marked p frs s w e k.marks.nodes k.latest in
    let x = mark_node h (lates p frs) marked n p.container p.last (marks_in g h xs (lates p frs) marked s w e k.marks) (omega arith) par (late_head p frs) (latest_head h marked p frs ls) lk in
    record {
      owns = owns_in g h (n ∷ marked) w (λ m le f. ⊎_elim (λ l. absurd (no_own m le l)) (λ r. ⊎_elim (λ q. inl q) (λ u. absurd (far m u f)) r) (split m n)) (λ m l f. inr (k.owns m l f));
      marks = subst (λ z. Marks h z (n ∷ marked)) (sym (lates_last p (Some n) frs)) x.0;
      latest = set_last h marked p (Some n) frs n par o x.1 ls;
    }
  where
    no_own : (m : ℕ) → length g.nodes ≤ m → m < length g.nodes → ⊥
    no_own m a b = omega arith

    far : (m : ℕ) → length g.nodes < m → is_effect (op_at h m) ≡ true → ⊥
    far m u f = clash (is_effect (op_at h m)) f (ap is_effect (op_past h m (omega arith)))

-- what adds no effect op
pub quiet_marked_at : (g h : Graph) (xs : List Link) (p : Place) (frs : List Frame) (marked : List ℕ) → IsGraph g → Grows g h → h.links ≡ g.links ++ xs → ((n : ℕ) → length g.nodes ≤ n → is_effect (op_at h n) ≡ false) → MarkedAt g p frs marked → MarkedAt h p frs marked
quiet_marked_at g h xs p frs marked s w e quiet k = record {
  owns = owns_in g h marked w (λ m le f. absurd (clash (is_effect (op_at h m)) f (quiet m le))) k.owns;
  marks = marks_in g h xs (lates p frs) marked s w e k.marks;
  latest = latests_in g h xs marked p frs s w e k.marks.nodes k.latest;
}

-- `enter`: nothing is marked in a container without children
pub enter_marked_at : (g h : Graph) (p q : Place) (frs : List Frame) (fr : Frame) (marked : List ℕ) → fr.outer.place ≡ p → q.last ≡ None → ((m : ℕ) → In m marked → parent_at h m ≡ q.container → ⊥) → MarkedAt h p frs marked → MarkedAt h q (fr ∷ frs) marked
enter_marked_at g h p q frs fr marked e ql none k = record {
  owns = k.owns;
  marks = record { nodes = k.marks.nodes; outwards = λ m i. ⊎_elim (λ x. inl x) (λ r. inr (⊎_elim (λ z. inl z) (λ z. inr (inr (subst (λ x. In (parent_at h m) (lates x frs)) (sym e) z))) r)) (k.marks.outwards m i); joined = k.marks.joined };
  latest = (subst (λ o. Latest h marked q.container o) (sym ql) none, subst (λ x. Latests h marked x frs) (sym e) k.latest);
}

-- A container gets its mark: its region holds an effect node. Its own parent is marked, or is the module.
pub mark_container : (h : Graph) (late marked : List ℕ) (c : ℕ) → Marks h (c ∷ late) marked → c < length h.nodes → In (parent_at h c) marked ⊎ (parent_at h c ≡ 0) → is_dataflow_container (op_at h (parent_at h c)) ≡ false → Marks h late (c ∷ marked)
mark_container h late marked c k lt par nd = record {
  nodes = λ m i. ⊎_elim (λ e. omega arith) (λ j. k.nodes m j) i;
  outwards = λ m i. ⊎_elim (λ e. subst (λ x. In (parent_at h x) (c ∷ marked) ⊎ ((parent_at h x ≡ 0) ⊎ In (parent_at h x) late)) (sym e) (⊎_elim (λ x. inl (inr x)) (λ z. inr (inl z)) par)) (λ j. ⊎_elim (λ x. inl (inr x)) (λ r. ⊎_elim (λ z. inr (inl z)) (λ z. ⊎_elim (λ q. inl (inl q)) (λ x. inr (inr x)) z) r) (k.outwards m j)) i;
  joined = λ a b i j ne q f. both a b i j ne q f;
}
  where
    both : (a b : ℕ) → In a (c ∷ marked) → In b (c ∷ marked) → a ≢ b → parent_at h a ≡ parent_at h b → is_dataflow_container (op_at h (parent_at h a)) ≡ true → Path h a b ⊎ Path h b a
    both a b (inl x) j ne q f = absurd (clash (is_dataflow_container (op_at h (parent_at h c))) (ap (λ y. is_dataflow_container (op_at h (parent_at h y))) (sym x) ∙ f) nd)
    both a b (inr i) (inl y) ne q f = absurd (clash (is_dataflow_container (op_at h (parent_at h c))) (ap (λ y. is_dataflow_container (op_at h y)) (sym (q ∙ ap (parent_at h) y)) ∙ f) nd)
    both a b (inr i) (inr j) ne q f = k.joined a b i j ne q f

-- a container without a marked node needs no mark
pub drop_container : (h : Graph) (late marked : List ℕ) (c : ℕ) → Marks h (c ∷ late) marked → Latest h marked c None → Marks h late marked
drop_container h late marked c k none = record {
  nodes = k.nodes;
  outwards = λ m i. ⊎_elim (λ x. inl x) (λ r. ⊎_elim (λ z. inr (inl z)) (λ z. ⊎_elim (λ q. absurd (none m i q)) (λ x. inr (inr x)) z) r) (k.outwards m i);
  joined = k.joined;
}

-- ---- `leave`

last_is : (last : Option ℕ) (n : ℕ) → is_last last n ≡ true → last ≡ Some n
last_is None n e = absurd cc
last_is (Some l) n e = ap Some (eqb-true l n e)

not_both : (a b : Bool) → (not a && not b) ≡ false → (a ≡ true) ⊎ (b ≡ true)
not_both true b e = inl refl
not_both false true e = inr refl
not_both false false e = absurd cc

-- a Conditional or a CFG that gets no order link now is marked already
marked_before : (h : Graph) (outer : Outer) (l : ℕ) (marked : List ℕ) → outer.chained ≡ is_effect (op_at h outer.node) → outer.node < length h.nodes → Owns h marked → Latest h marked outer.place.container outer.place.last → adds_order outer (Some l) ≡ false → In outer.node marked
marked_before h outer l marked ch lt ow la e =
    ⊎_elim (λ c. ow outer.node lt (sym ch ∙ c)) (λ x. (subst (λ o. Latest h marked outer.place.container o) (last_is outer.place.last outer.node x) la).0) (not_both outer.chained (is_last outer.place.last outer.node) e)

latests_last : (h : Graph) (marked : List ℕ) (p : Place) (frs : List Frame) → Latests h marked p frs → Latests h marked (record p { last = p.last }) frs
latests_last h marked p [] l = l
latests_last h marked p (fr ∷ frs) l = l

-- the container of a hole gets its mark under a marked node
container_marked_at : (h : Graph) (q : Place) (frs : List Frame) (marked : List ℕ) (c n : ℕ) → Owns h marked → Marks h (c ∷ lates q frs) marked → Latests h marked q frs → c < length h.nodes → parent_at h c ≡ n → In n marked → is_dataflow_container (op_at h n) ≡ false → n ≢ q.container → Others n frs → MarkedAt h q frs (c ∷ marked)
container_marked_at h q frs marked c n ow ms ls lt par i nd ne o = record {
  owns = λ m l f. inr (ow m l f);
  marks = mark_container h (lates q frs) marked c ms lt (inl (subst (λ x. In x marked) (sym par) i)) (ap (λ x. is_dataflow_container (op_at h x)) par ∙ nd);
  latest = frames_more h marked c n q frs par ne o ls;
}

pub leave_marked_at : (g h : Graph) (xs : List Link) (outer : Outer) (p : Place) (frs : List Frame) (marked : List ℕ) → IsGraph g → Grows g h → h.links ≡ g.links ++ xs → length h.nodes ≡ length g.nodes → p.container < length g.nodes → outer.node < length g.nodes → parent_at h p.container ≡ outer.node → parent_at h outer.node ≡ outer.place.container → is_dataflow_container (op_at h outer.node) ≡ false → outer.chained ≡ is_effect (op_at h outer.node) → ((l : ℕ) → leave_prior outer p.last ≡ Some l → In (Order l outer.node) h.links) → outer.node ≢ outer.place.container → Others outer.node frs → Others outer.place.container frs → Owns g marked → Marks g (p.container ∷ lates outer.place frs) marked → Latest g marked p.container p.last → Latests g marked outer.place frs → (marked' : List ℕ) × MarkedAt h (record outer.place { last = leave_last outer p.last }) frs marked'
leave_marked_at g h xs outer p frs marked s w e len cl nl par parn nd ch lk ne on oq ow ms la ls =
    by_inner p.last refl
  where
    ow' : Owns h marked
    ow' = owns_in g h marked w (λ m le f. absurd (clash (is_effect (op_at h m)) f (ap is_effect (op_past h m (omega arith))))) ow

    ms' : Marks h (p.container ∷ lates outer.place frs) marked
    ms' = marks_in g h xs (p.container ∷ lates outer.place frs) marked s w e ms

    ls' : Latests h marked outer.place frs
    ls' = latests_in g h xs marked outer.place frs s w e ms.nodes ls

    la' : Latest h marked p.container p.last
    la' = latest_in g h xs marked p.container p.last s w e ms.nodes la

    kept : Latests h marked outer.place frs → In outer.node marked → MarkedAt h outer.place frs (p.container ∷ marked)
    kept l i = container_marked_at h outer.place frs marked p.container outer.node ow' ms' l (omega arith) par i nd ne on

    by_adds : (l : ℕ) → p.last ≡ Some l → (t : Bool) → adds_order outer (Some l) ≡ t → (marked' : List ℕ) × MarkedAt h (record outer.place { last = cond t (Some outer.node) outer.place.last }) frs marked'
    by_adds l q false a = (p.container ∷ marked, kept ls' (marked_before h outer l marked ch (omega arith) ow' (latest_head h marked outer.place frs ls') a))
    by_adds l q true a =
        let n = outer.node in
        let x = mark_node h (p.container ∷ lates outer.place frs) marked n outer.place.container outer.place.last ms' (omega arith) parn (inr (late_head outer.place frs)) (latest_head h marked outer.place frs ls') (λ z f. lk z (ap (leave_prior outer) q ∙ ap (λ t. cond t outer.place.last None) a ∙ f)) in
        let fs = set_last h marked outer.place (Some n) frs n parn oq x.1 ls' in
        (p.container ∷ n ∷ marked, container_marked_at h (record outer.place { last = Some n }) frs (n ∷ marked) p.container n (λ m lm f. inr (ow' m lm f)) (subst (λ z. Marks h (p.container ∷ z) (n ∷ marked)) (sym (lates_last outer.place (Some n) frs)) x.0) fs (omega arith) par (inl refl) nd ne on)

    by_inner : (o : Option ℕ) → p.last ≡ o → (marked' : List ℕ) × MarkedAt h (record outer.place { last = leave_last outer p.last }) frs marked'
    by_inner None q = (
      marked,
      record {
        owns = ow';
        marks = drop_container h (lates (record outer.place { last = leave_last outer p.last }) frs) marked p.container (subst (λ z. Marks h (p.container ∷ z) marked) (sym (lates_last outer.place (leave_last outer p.last) frs)) ms') (subst (λ o. Latest h marked p.container o) q la');
        latest = subst (λ o. Latests h marked (record outer.place { last = leave_last outer o }) frs) (sym q) ls';
      },
    )
    by_inner (Some l) q = subst (λ o. (marked' : List ℕ) × MarkedAt h (record outer.place { last = leave_last outer o }) frs marked') (sym q) (by_adds l q (adds_order outer (Some l)) refl)

-- ---- `open` and `finish` of a function
pub function_open : (g : Graph) (f : ℕ) (marked : List ℕ) (p : Place) → p.container ≡ f → p.last ≡ None → children g f ≡ [] → IsGraph g → ((m : ℕ) → parent_at g m ≡ f → m ≢ f) → Owns g marked → Marks g [] marked → MarkedAt g p [] marked
function_open g f marked p e l none s apart ow ms = record {
  owns = ow;
  marks = record { nodes = ms.nodes; outwards = λ m i. ⊎_elim (λ x. inl x) (λ r. ⊎_elim (λ z. inr (inl z)) (λ z. absurd z) r) (ms.outwards m i); joined = ms.joined };
  latest = subst (λ o. Latest g marked p.container o) (sym l) (λ m i q. absurd (subst (λ xs. In m xs) none (is_child g f m (ms.nodes m i) (q ∙ e) (apart m (q ∙ e)))));
}

pub function_close : (h : Graph) (p : Place) (marked : List ℕ) → p.container < length h.nodes → parent_at h p.container ≡ 0 → is_dataflow_container (op_at h 0) ≡ false → MarkedAt h p [] marked → (marked' : List ℕ) × Owns h marked' × Marks h [] marked'
function_close h p marked lt par nd k =
    (p.container ∷ marked, (λ m l f. inr (k.owns m l f)), mark_container h [] marked p.container k.marks lt (inr par) (ap (λ x. is_dataflow_container (op_at h x)) par ∙ nd))
