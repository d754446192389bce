-- What stays when the builder adds a node or a link.
use Rattle.std.proofs.Common.{◌≡◌, ◌≢◌, ◌⊎◌, inl, inr, ⊎_elim, ℕ, zero, suc, ◌+◌, ◌≤◌, ◌<◌, Bool, true, false, cond, not, ◌&&◌, eqb, List, [], ◌∷◌, ◌++◌, length, filter, Option, Some, None, slice_get, refl, sym, ap, ◌∙◌, arith, eq-eqb, eqb-true, ne_eqb, le_refl, append_assoc, append-nil, length-append}
use Rattle.gp_base.specs.Membership.{In}
use Rattle.hg_ops.specs.Op.{Op, fires}
use Rattle.hg_graph.specs.Graph.{Graph, Port, Link, Ports, Order, IsGraph, LinkIsWithin, op_at, op_of, parent_at, parent_of, children, firing_children, numbers, feeder, taker, is_port}
use Rattle.hg_laws.proofs.Children.{child_is}
use Rattle.hg_build.specs.Steps.{Grows, SamePart, FedBy}
use Rattle.hg_build.specs.Wired.{with_node, with_links, value_links, order_links, static_links}
use Rattle.hg_build.proofs.Real.{in_split, grows_self}
use Rattle.hg_build.proofs.Moves.{grows_trans}

-- ---- lists
get_left : {X : Type 0} (xs ys : List X) (m : ℕ) → m < length xs → slice_get (xs ++ ys) m ≡ slice_get xs m
get_left [] ys m l = absurd (omega arith)
get_left (x ∷ xs) ys zero l = refl
get_left (x ∷ xs) ys (suc m) l = get_left xs ys m (omega arith)

get_some : {X : Type 0} (xs ys : List X) (m : ℕ) (x : X) → slice_get xs m ≡ Some x → slice_get (xs ++ ys) m ≡ Some x
get_some [] ys m x e = absurd cc
get_some (y ∷ xs) ys zero x e = e
get_some (y ∷ xs) ys (suc m) x e = get_some xs ys m x e

pub get_end : {X : Type 0} (xs : List X) (y : X) → slice_get (xs ++ y ∷ []) (length xs) ≡ Some y
get_end [] y = refl
get_end (x ∷ xs) y = get_end xs y

filter_append : {X : Type 0} (f : X → Bool) (xs ys : List X) → filter f (xs ++ ys) ≡ filter f xs ++ filter f ys
filter_append f [] ys = refl
filter_append f (x ∷ xs) ys = by_test (f x) (filter_append f xs ys)
  where
    by_test : (b : Bool) → filter f (xs ++ ys) ≡ filter f xs ++ filter f ys → cond b (x ∷ filter f (xs ++ ys)) (filter f (xs ++ ys)) ≡ cond b (x ∷ filter f xs) (filter f xs) ++ filter f ys
    by_test true e = ap (λ zs. x ∷ zs) e
    by_test false e = e

filter_same : {X : Type 0} (f h : X → Bool) (xs : List X) → ((x : X) → In x xs → f x ≡ h x) → filter f xs ≡ filter h xs
filter_same f h [] e = refl
filter_same f h (x ∷ xs) e = rw (e x (inl refl), filter_same f h xs (λ y i. e y (inr i))) refl

numbers_push : (a n m : ℕ) → m ≡ a + n → numbers a (suc n) ≡ numbers a n ++ m ∷ []
numbers_push a zero m e = let x : a ≡ m = omega arith in ap (λ k. k ∷ []) x
numbers_push a (suc n) m e = ap (λ ks. a ∷ ks) (numbers_push (suc a) n m (omega arith))

in_numbers : (a n x : ℕ) → In x (numbers a n) → x < a + n
in_numbers a zero x i = absurd i
in_numbers a (suc n) x (inl e) = omega arith
in_numbers a (suc n) x (inr i) = let r = in_numbers (suc a) n x i in omega arith

-- ---- a node at the end
module _ (g : Graph) (kind : Op) (c : ℕ) where
  pub count_node : length (with_node g kind c).nodes ≡ suc (length g.nodes)
  count_node = let l = length-append g.nodes (record { op = kind; parent = c } ∷ []) in omega arith

  pub op_old : (m : ℕ) → m < length g.nodes → op_at (with_node g kind c) m ≡ op_at g m
  unfolding op_at
  op_old m l = ap op_of (get_left g.nodes (record { op = kind; parent = c } ∷ []) m l)

  pub parent_old : (m : ℕ) → m < length g.nodes → parent_at (with_node g kind c) m ≡ parent_at g m
  unfolding parent_at
  parent_old m l = ap parent_of (get_left g.nodes (record { op = kind; parent = c } ∷ []) m l)

  pub op_new : op_at (with_node g kind c) (length g.nodes) ≡ kind
  unfolding op_at
  op_new = ap op_of (get_end g.nodes (record { op = kind; parent = c }))

  pub parent_new : parent_at (with_node g kind c) (length g.nodes) ≡ c
  unfolding parent_at
  parent_new = ap parent_of (get_end g.nodes (record { op = kind; parent = c }))

  -- the further children of m
  abbrev new_child : ℕ → List ℕ
  new_child m = cond (eqb c m && not (eqb (length g.nodes) m)) (length g.nodes ∷ []) []

  children_push : (m : ℕ) → children (with_node g kind c) m ≡ children g m ++ new_child m
  unfolding children
  children_push m =
      let n = length g.nodes in
      let h = with_node g kind c in
      let test : ℕ → Bool = λ k. eqb (parent_at h k) m && not (eqb k m) in
      let old : ℕ → Bool = λ k. eqb (parent_at g k) m && not (eqb k m) in
      ap (λ k. filter test (numbers 0 k)) count_node
      ∙ ap (filter test) (numbers_push 0 n n (omega arith))
      ∙ filter_append test (numbers 0 n) (n ∷ [])
      ∙ ap (λ ks. ks ++ filter test (n ∷ [])) (filter_same test old (numbers 0 n) (λ k i. let lt = in_numbers 0 n k i in ap (λ p. eqb p m && not (eqb k m)) (parent_old k (omega arith))))
      ∙ ap (λ p. filter old (numbers 0 n) ++ cond (eqb p m && not (eqb n m)) (n ∷ []) []) parent_new

  firing_push : (m : ℕ) → firing_children (with_node g kind c) m ≡ firing_children g m ++ cond ((eqb c m && not (eqb (length g.nodes) m)) && fires kind) (length g.nodes ∷ []) []
  unfolding firing_children
  firing_push m =
      let n = length g.nodes in
      let h = with_node g kind c in
      let test : ℕ → Bool = λ k. fires (op_at h k) in
      let old : ℕ → Bool = λ k. fires (op_at g k) in
      ap (filter test) (children_push m)
      ∙ filter_append test (children g m) (new_child m)
      ∙ ap (λ ks. ks ++ filter test (new_child m)) (filter_same test old (children g m) (λ k i. ap fires (op_old k (child_is g m k i).0)))
      ∙ ap (λ ks. filter old (children g m) ++ ks) (end (eqb c m && not (eqb n m)))
    where
      end : (b : Bool) → filter (λ k. fires (op_at (with_node g kind c) k)) (cond b (length g.nodes ∷ []) []) ≡ cond (b && fires kind) (length g.nodes ∷ []) []
      end true = ap (λ o. cond (fires o) (length g.nodes ∷ []) []) op_new
      end false = refl

  pub firing_other : (m : ℕ) → m ≢ c → firing_children (with_node g kind c) m ≡ firing_children g m
  firing_other m ne = firing_push m ∙ rw (ne_eqb c m (λ e. ne (sym e))) (append-nil (firing_children g m))

  pub firing_parent : c < length g.nodes → firing_children (with_node g kind c) c ≡ firing_children g c ++ cond (fires kind) (length g.nodes ∷ []) []
  firing_parent lt = let ne : length g.nodes ≢ c = omega arith in firing_push c ∙ rw (eq-eqb c c refl, ne_eqb (length g.nodes) c ne) refl

  pub children_parent : c < length g.nodes → children (with_node g kind c) c ≡ children g c ++ length g.nodes ∷ []
  children_parent lt = let ne : length g.nodes ≢ c = omega arith in children_push c ∙ rw (eq-eqb c c refl, ne_eqb (length g.nodes) c ne) refl

  pub children_other : (m : ℕ) → m ≢ c → children (with_node g kind c) m ≡ children g m
  children_other m ne = children_push m ∙ rw (ne_eqb c m (λ e. ne (sym e))) (append-nil (children g m))

  pub node_grows : Grows g (with_node g kind c)
  node_grows = record {
    more = omega (arith, count_node);
    ops = op_old;
    parents = parent_old;
    kids = λ m k x e. rw (children_push m) (get_some (children g m) (new_child m) k x e);
    feeders = λ to from e. e;
    takers = λ from to e. e;
  }

-- ---- links at the end
feeder_left : (ls rs : List Link) (to from : Port) → feeder ls to ≡ Some from → feeder (ls ++ rs) to ≡ Some from
feeder_left [] rs to from e = absurd cc
feeder_left (Order a b ∷ ls) rs to from e = feeder_left ls rs to from e
feeder_left (Ports a b ∷ ls) rs to from e = by_test (is_port b to) e (feeder_left ls rs to from)
  where
    by_test : (t : Bool) → cond t (Some a) (feeder ls to) ≡ Some from → (feeder ls to ≡ Some from → feeder (ls ++ rs) to ≡ Some from) → cond t (Some a) (feeder (ls ++ rs) to) ≡ Some from
    by_test true e h = e
    by_test false e h = h e

feeder_right : (ls rs : List Link) (to : Port) → feeder ls to ≡ None → feeder (ls ++ rs) to ≡ feeder rs to
feeder_right [] rs to e = refl
feeder_right (Order a b ∷ ls) rs to e = feeder_right ls rs to e
feeder_right (Ports a b ∷ ls) rs to e = by_test (is_port b to) e (feeder_right ls rs to)
  where
    by_test : (t : Bool) → cond t (Some a) (feeder ls to) ≡ None → (feeder ls to ≡ None → feeder (ls ++ rs) to ≡ feeder rs to) → cond t (Some a) (feeder (ls ++ rs) to) ≡ feeder rs to
    by_test true e h = absurd cc
    by_test false e h = h e

taker_left : (ls rs : List Link) (from to : Port) → taker ls from ≡ Some to → taker (ls ++ rs) from ≡ Some to
taker_left [] rs from to e = absurd cc
taker_left (Order a b ∷ ls) rs from to e = taker_left ls rs from to e
taker_left (Ports a b ∷ ls) rs from to e = by_test (is_port a from) e (taker_left ls rs from to)
  where
    by_test : (t : Bool) → cond t (Some b) (taker ls from) ≡ Some to → (taker ls from ≡ Some to → taker (ls ++ rs) from ≡ Some to) → cond t (Some b) (taker (ls ++ rs) from) ≡ Some to
    by_test true e h = e
    by_test false e h = h e

taker_right : (ls rs : List Link) (from : Port) → taker ls from ≡ None → taker (ls ++ rs) from ≡ taker rs from
taker_right [] rs from e = refl
taker_right (Order a b ∷ ls) rs from e = taker_right ls rs from e
taker_right (Ports a b ∷ ls) rs from e = by_test (is_port a from) e (taker_right ls rs from)
  where
    by_test : (t : Bool) → cond t (Some b) (taker ls from) ≡ None → (taker ls from ≡ None → taker (ls ++ rs) from ≡ taker rs from) → cond t (Some b) (taker (ls ++ rs) from) ≡ taker rs from
    by_test true e h = absurd cc
    by_test false e h = h e

pub children_links : (g : Graph) (ls : List Link) (m : ℕ) → children (with_links g ls) m ≡ children g m
unfolding children parent_at
children_links g ls m = refl

pub firing_links : (g : Graph) (ls : List Link) (m : ℕ) → firing_children (with_links g ls) m ≡ firing_children g m
unfolding firing_children children parent_at op_at
firing_links g ls m = refl

pub op_links : (g : Graph) (ls : List Link) (m : ℕ) → op_at (with_links g ls) m ≡ op_at g m
unfolding op_at
op_links g ls m = refl

pub parent_links : (g : Graph) (ls : List Link) (m : ℕ) → parent_at (with_links g ls) m ≡ parent_at g m
unfolding parent_at
parent_links g ls m = refl

pub links_grow : (g : Graph) (ls : List Link) → Grows g (with_links g ls)
links_grow g ls = record {
  more = le_refl (length g.nodes);
  ops = λ m l. op_links g ls m;
  parents = λ m l. parent_links g ls m;
  kids = λ m k x e. ap (λ ks. slice_get ks k) (children_links g ls m) ∙ e;
  feeders = λ to from e. feeder_left g.links ls to from e;
  takers = λ from to e. taker_left g.links ls from to e;
}

-- ---- growth, with what stays below n apart from children of p
pub record Grown (n p : ℕ) (g h : Graph) : Type 0 where
  pub grows : Grows g h
  pub firing : (m : ℕ) → m < n → m ≢ p → firing_children h m ≡ firing_children g m
  pub kids : (m : ℕ) → m < n → m ≢ p → children h m ≡ children g m

pub grown_self : (n p : ℕ) (g : Graph) → Grown n p g g
grown_self n p g = record { grows = grows_self g; firing = λ m l e. refl; kids = λ m l e. refl }

pub grown_trans : (n p : ℕ) (g h j : Graph) → Grown n p g h → Grown n p h j → Grown n p g j
grown_trans n p g h j a b = record {
  grows = grows_trans g h j a.grows b.grows;
  firing = λ m l e. b.firing m l e ∙ a.firing m l e;
  kids = λ m l e. b.kids m l e ∙ a.kids m l e;
}

pub node_grown : (n p c : ℕ) (g : Graph) (kind : Op) → (c ≡ p) ⊎ (n ≤ c) → Grown n p g (with_node g kind c)
node_grown n p c g kind o = record {
  grows = node_grows g kind c;
  firing = λ m l e. firing_other g kind c m (ne m l e);
  kids = λ m l e. children_other g kind c m (ne m l e);
}
  where
    ne : (m : ℕ) → m < n → m ≢ p → m ≢ c
    ne m l e q = ⊎_elim (λ x. e (q ∙ x)) (λ x. absurd (omega arith)) o

pub links_grown : (n p : ℕ) (g : Graph) (ls : List Link) → Grown n p g (with_links g ls)
links_grown n p g ls = record { grows = links_grow g ls; firing = λ m l e. firing_links g ls m; kids = λ m l e. children_links g ls m }

-- x is not from lo to hi
abbrev pub Off : ℕ → ℕ → ℕ → Type 0
Off lo hi x = (x < lo) ⊎ (hi ≤ x)

pub part_grown : (n p lo hi : ℕ) (g h : Graph) → Grown n p g h → hi ≤ n → Off lo hi p → SamePart lo hi g h
part_grown n p lo hi g h a le o = record {
  grows = a.grows;
  firing = λ m x y. a.firing m (omega arith) (λ e. ⊎_elim (λ l. absurd (omega arith)) (λ u. absurd (omega arith)) o);
}

-- ---- graphs stay graphs
within_more : (n m : ℕ) → n ≤ m → (link : Link) → LinkIsWithin n link → LinkIsWithin m link
within_more n m le (Ports a b) w = let x = w.0 in let y = w.1 in (omega arith, omega arith)
within_more n m le (Order a b) w = let x = w.0 in let y = w.1 in (omega arith, omega arith)

both : (b : Bool) → b ≡ false → b ≡ true → ⊥
both b f t = cc

pub graph_node : (g : Graph) (kind : Op) (c : ℕ) → c < length g.nodes → IsGraph g → IsGraph (with_node g kind c)
graph_node g kind c lt s =
    let more = count_node g kind c in
    record {
      some = let x = s.some in omega arith;
      parents = λ n l. by_place n l more (eqb n (length g.nodes)) refl;
      links = λ link i. within_more (length g.nodes) (length (with_node g kind c).nodes) (omega arith) link (s.links link i);
    }
  where
    by_place : (n : ℕ) → n < length (with_node g kind c).nodes → length (with_node g kind c).nodes ≡ suc (length g.nodes) → (t : Bool) → eqb n (length g.nodes) ≡ t → parent_at (with_node g kind c) n < length (with_node g kind c).nodes
    by_place n l more true e =
        let q : n ≡ length g.nodes = eqb-true n (length g.nodes) e in
        let r : parent_at (with_node g kind c) n ≡ c = ap (parent_at (with_node g kind c)) q ∙ parent_new g kind c in
        omega arith
    by_place n l more false e =
        let ne : n ≢ length g.nodes = λ q. both (eqb n (length g.nodes)) e (eq-eqb n (length g.nodes) q) in
        let lt' : n < length g.nodes = omega arith in
        let r = parent_old g kind c n lt' in
        let x = s.parents n lt' in
        omega arith

pub graph_links : (g : Graph) (ls : List Link) → ((link : Link) → In link ls → LinkIsWithin (length g.nodes) link) → IsGraph g → IsGraph (with_links g ls)
graph_links g ls w s = record {
  some = s.some;
  parents = λ n l. let x = s.parents n l in let y = parent_links g ls n in omega arith;
  links = λ link i. ⊎_elim (λ j. s.links link j) (λ j. w link j) (in_split g.links ls link i);
}

-- nothing is known of a node that isn't there
pub no_children : (g : Graph) → IsGraph g → (n : ℕ) → length g.nodes ≤ n → children g n ≡ []
no_children g s n le = none (children g n) (λ m i. let k = child_is g n m i in let p = s.parents m k.0 in let q = k.1 in absurd (omega arith))
  where
    none : (xs : List ℕ) → ((m : ℕ) → In m xs → ⊥) → xs ≡ []
    none [] h = refl
    none (x ∷ xs) h = absurd (h x (inl refl))

feeder_none : (ls : List Link) (n count q : ℕ) → count ≤ n → ((link : Link) → In link ls → LinkIsWithin count link) → feeder ls (record { node = n; index = q }) ≡ None
feeder_none [] n count q le h = refl
feeder_none (Order a b ∷ ls) n count q le h = feeder_none ls n count q le (λ l i. h l (inr i))
feeder_none (Ports a b ∷ ls) n count q le h =
    let w = (h (Ports a b) (inl refl)).1 in
    let ne : b.node ≢ n = omega arith in
    rw (ne_eqb b.node n ne) (feeder_none ls n count q le (λ l i. h l (inr i)))

pub no_feeder : (g : Graph) → IsGraph g → (n q : ℕ) → length g.nodes ≤ n → feeder g.links (record { node = n; index = q }) ≡ None
no_feeder g s n q le = feeder_none g.links n (length g.nodes) q le s.links

-- ---- the links of a node that had none feed it
fed_links : (g : Graph) (n q : ℕ) (ps : List Port) (front : List Link) (rs : List Link) → g.links ≡ front ++ (value_links n q ps ++ rs) → ((i : ℕ) → q ≤ i → feeder front (record { node = n; index = i }) ≡ None) → FedBy g n q ps
fed_links g n q [] front rs e none = tt
fed_links g n q (p ∷ ps) front rs e none =
    let l : Link = Ports p (record { node = n; index = q }) in (
      ap (λ ls. feeder ls (record { node = n; index = q })) e ∙ feeder_right front (value_links n q (p ∷ ps) ++ rs) (record { node = n; index = q }) (none q (le_refl q)) ∙ rw (eq-eqb n n refl, eq-eqb q q refl) refl,
      fed_links g n (suc q) ps (front ++ l ∷ []) rs (e ∙ sym (append_assoc front (l ∷ []) (value_links n (suc q) ps ++ rs))) (λ i le. let ne : q ≢ i = omega arith in feeder_right front (l ∷ []) (record { node = n; index = i }) (none i (omega arith)) ∙ rw (eq-eqb n n refl, ne_eqb q i ne) refl),
    )

pub fed_new : (g : Graph) (n : ℕ) (ps : List Port) → ((q : ℕ) → feeder g.links (record { node = n; index = q }) ≡ None) → FedBy (with_links g (value_links n 0 ps)) n 0 ps
fed_new g n ps none = fed_links (with_links g (value_links n 0 ps)) n 0 ps g.links [] (ap (λ ls. g.links ++ ls) (sym (append-nil (value_links n 0 ps)))) (λ i le. none i)

-- what these links don't feed
value_other : (t q : ℕ) (ps : List Port) (to : Port) → to.node ≢ t → feeder (value_links t q ps) to ≡ None
value_other t q [] to ne = refl
value_other t q (p ∷ ps) to ne = rw (ne_eqb t to.node (λ e. ne (sym e))) (value_other t (suc q) ps to ne)

value_before : (t q : ℕ) (ps : List Port) (i : ℕ) → i < q → feeder (value_links t q ps) (record { node = t; index = i }) ≡ None
value_before t q [] i lt = refl
value_before t q (p ∷ ps) i lt = let ne : q ≢ i = omega arith in rw (eq-eqb t t refl, ne_eqb q i ne) (value_before t (suc q) ps i (omega arith))

value_past : (t q : ℕ) (ps : List Port) (i : ℕ) → q + length ps ≤ i → feeder (value_links t q ps) (record { node = t; index = i }) ≡ None
value_past t q [] i le = refl
value_past t q (p ∷ ps) i le = let ne : q ≢ i = omega arith in rw (eq-eqb t t refl, ne_eqb q i ne) (value_past t (suc q) ps i (omega arith))

static_other : (source : Option ℕ) (t q : ℕ) (to : Port) → to.node ≢ t → feeder (static_links source t q) to ≡ None
static_other None t q to ne = refl
static_other (Some f) t q to ne = rw (ne_eqb t to.node (λ e. ne (sym e))) refl

order_other : (last : Option ℕ) (t : ℕ) (to : Port) → feeder (order_links last t) to ≡ None
order_other None t to = refl
order_other (Some l) t to = refl

-- where nothing fed a port, nothing does after links to other ports
pub still_unfed : (g : Graph) (ls : List Link) (to : Port) → feeder g.links to ≡ None → feeder ls to ≡ None → feeder (with_links g ls).links to ≡ None
still_unfed g ls to a b = feeder_right g.links ls to a ∙ b

pub unfed_values : (g : Graph) (t : ℕ) (ps : List Port) (to : Port) → to.node ≢ t → feeder g.links to ≡ None → feeder (with_links g (value_links t 0 ps)).links to ≡ None
unfed_values g t ps to ne a = still_unfed g (value_links t 0 ps) to a (value_other t 0 ps to ne)

pub unfed_static : (g : Graph) (source : Option ℕ) (t q : ℕ) (to : Port) → to.node ≢ t → feeder g.links to ≡ None → feeder (with_links g (static_links source t q)).links to ≡ None
unfed_static g source t q to ne a = still_unfed g (static_links source t q) to a (static_other source t q to ne)

pub unfed_order : (g : Graph) (last : Option ℕ) (t : ℕ) (to : Port) → feeder g.links to ≡ None → feeder (with_links g (order_links last t)).links to ≡ None
unfed_order g last t to a = still_unfed g (order_links last t) to a (order_other last t to)

-- the static link of a new node
pub static_new : (g : Graph) (n f : ℕ) (ps : List Port) → ((q : ℕ) → feeder g.links (record { node = n; index = q }) ≡ None) → feeder (with_links (with_links g (value_links n 0 ps)) (static_links (Some f) n (length ps))).links (record { node = n; index = length ps }) ≡ Some (record { node = f; index = 0 })
static_new g n f ps none =
    let to : Port = record { node = n; index = length ps } in
    feeder_right (g.links ++ value_links n 0 ps) (static_links (Some f) n (length ps)) to (feeder_right g.links (value_links n 0 ps) to (none (length ps)) ∙ value_past n 0 ps (length ps) (omega arith))
    ∙ rw (eq-eqb n n refl, eq-eqb (length ps) (length ps) refl) refl

-- a control link from a port that had none
pub taker_new : (g : Graph) (from to : Port) → taker g.links from ≡ None → taker (with_links g (Ports from to ∷ [])).links from ≡ Some to
taker_new g from to e = taker_right g.links (Ports from to ∷ []) from e ∙ rw (eq-eqb from.node from.node refl, eq-eqb from.index from.index refl) refl
