-- What the calls of the builder make of pending ports.
use Rattle.std.proofs.Common.{◌≡◌, ◌≢◌, ◌⊎◌, inl, inr, ⊎_elim, ℕ, ℤ, zero, suc, ◌+◌, ◌≤◌, ◌<◌, Bool, true, false, cond, List, [], ◌∷◌, ◌++◌, length, Option, Some, None, slice_get, refl, sym, ap, ◌∙◌, subst, arith, eq-eqb, ne_eqb, append-nil, append_assoc, length-append}
use Rattle.gp_base.specs.Membership.{In}
use Rattle.hg_ops.specs.GraphType.{GraphType, is_linear}
use Rattle.hg_ops.specs.Op.{Op, Module, Types, Const, LoadConstant, Input, Output, Case, FuncDefn, Conditional, outs_of}
use Rattle.hg_graph.specs.Graph.{Graph, Port, Link, Ports, Order, IsGraph, LinkIsWithin, op_at, op_of, is_port, links_from}
use Rattle.hg_graph.specs.Valid.{LinearOutputsAreTaken}
use Rattle.hg_build.specs.Steps.{Grows}
use Rattle.hg_build.specs.Wired.{with_node, with_links, with_cases, after_constant, after_choice, after_ends, after_control, value_links, order_links, static_links, after_node, out_held, load_of, port_of, ports_of}
use Rattle.hg_build.specs.Pending.{times, linears, Pends, FitsAt, Fits, Takes, PendsAfter}
use Rattle.hg_build.specs.Wired.{IsNode, IsOpened, IsConstant, IsChoice, IsBlock, IsControl, IsEntered, IsLeft, IsFinished}
use Rattle.hg_build.specs.declared.wire.Held.{Held}
use Rattle.hg_build.specs.declared.region.Region.{Region}
use Rattle.hg_build.specs.declared.region.Outer.{Outer}
use Rattle.hg_build.proofs.Joins.{with_none}
use Rattle.hg_build.proofs.Fires.{port_is}
use Rattle.hg_build.proofs.Moves.{grows_trans}
use Rattle.hg_build.proofs.Grow.{count_node, op_new, op_links, node_grows, links_grow, graph_node, graph_links}
use Rattle.hg_build.proofs.Adds.{PortsBelow, values_within, ports_more}
use Rattle.hg_build.proofs.Containers.{with_cases_more}

pub split : (a b : ℕ) → (a < b) ⊎ ((a ≡ b) ⊎ (b < a))
split zero zero = inr (inl refl)
split zero (suc b) = inl (omega arith)
split (suc a) zero = inr (inr (omega arith))
split (suc a) (suc b) = ⊎_elim (λ x. inl (omega arith)) (λ y. inr (⊎_elim (λ e. inl (ap suc e)) (λ z. inr (omega arith)) y)) (split a b)

-- ---- counts
pub from_append : (ls rs : List Link) (p : Port) → links_from (ls ++ rs) p ≡ links_from ls p + links_from rs p
from_append [] rs p = omega arith
from_append (Ports a b ∷ ls) rs p = let h = from_append ls rs p in omega arith
from_append (Order a b ∷ ls) rs p = from_append ls rs p

pub from_values : (n q : ℕ) (ps : List Port) (p : Port) → links_from (value_links n q ps) p ≡ times ps p
from_values n q [] p = refl
from_values n q (a ∷ ps) p = ap (λ k. cond (is_port a p) 1 0 + k) (from_values n (suc q) ps p)

pub from_order : (o : Option ℕ) (n : ℕ) (p : Port) → links_from (order_links o n) p ≡ 0
from_order None n p = refl
from_order (Some l) n p = refl

pub times_append : (xs ys : List Port) (p : Port) → times (xs ++ ys) p ≡ times xs p + times ys p
times_append [] ys p = omega arith
times_append (x ∷ xs) ys p = let h = times_append xs ys p in omega arith

pub skip : (b : Bool) (n m : ℕ) → b ≡ false → n ≡ m → cond b 1 0 + n ≡ m
skip true n m e f = absurd cc
skip false n m e f = omega arith

pub hit : (b : Bool) (n m : ℕ) → b ≡ true → n ≡ m → cond b 1 0 + n ≡ suc m
hit true n m e f = omega arith
hit false n m e f = absurd cc

same_count : (b : Bool) (n m : ℕ) → n ≡ m → cond b 1 0 + n ≡ cond b 1 0 + m
same_count b n m e = ap (λ k. cond b 1 0 + k) e

some_is : (a b : GraphType) → Some a ≡ Some b → a ≡ b
some_is a b q = cc

pub other_port : (a p : Port) → a.node ≢ p.node → is_port a p ≡ false
other_port a p ne = rw (ne_eqb a.node p.node ne) refl

-- links out of a node that isn't there
from_none : (ls : List Link) (count : ℕ) (p : Port) → count ≤ p.node → ((link : Link) → In link ls → LinkIsWithin count link) → links_from ls p ≡ 0
from_none [] count p le h = refl
from_none (Order a b ∷ ls) count p le h = from_none ls count p le (λ l i. h l (inr i))
from_none (Ports a b ∷ ls) count p le h =
    let w = (h (Ports a b) (inl refl)).0 in
    let ne : a.node ≢ p.node = omega arith in
    skip (is_port a p) (links_from ls p) 0 (other_port a p ne) (from_none ls count p le (λ l i. h l (inr i)))

-- ---- wires
fit_grows : (g h : Graph) (x : Held) → Grows g h → FitsAt g x → FitsAt h x
fit_grows g h x w f = let a = f.within in let b = w.more in record { within = omega arith; type = f.type; is = ap (λ o. slice_get (outs_of o) x.index) (w.ops x.node a) ∙ f.is; same = f.same }

pub fits_grow : (g h : Graph) (hs : List Held) → Grows g h → Fits g hs → Fits h hs
fits_grow g h [] w f = tt
fits_grow g h (x ∷ hs) w f = (fit_grows g h x w f.0, fits_grow g h hs w f.1)

-- at a linear port all wires are linear
all_linear : (g : Graph) (hs : List Held) (p : Port) (type : GraphType) → Fits g hs → slice_get (outs_of (op_at g p.node)) p.index ≡ Some type → is_linear type ≡ true → times (ports_of hs) p ≡ times (linears hs) p
all_linear g [] p type f e l = refl
all_linear g (x ∷ hs) p type f e l = by_port (is_port (port_of x) p) refl (all_linear g hs p type f.1 e l)
  where
    linear : port_of x ≡ p → x.linear ≡ true
    linear q = f.0.same ∙ ap is_linear (some_is f.0.type type (sym f.0.is ∙ ap (λ (z : Port). slice_get (outs_of (op_at g z.node)) z.index) q ∙ e)) ∙ l

    keep : (b : Bool) → is_port (port_of x) p ≡ false → times (ports_of hs) p ≡ times (linears hs) p → times (ports_of hs) p ≡ times (cond b (port_of x ∷ linears hs) (linears hs)) p
    keep true n r = sym (skip (is_port (port_of x) p) (times (linears hs) p) (times (ports_of hs) p) n (sym r))
    keep false n r = r

    by_port : (t : Bool) → is_port (port_of x) p ≡ t → times (ports_of hs) p ≡ times (linears hs) p → cond (is_port (port_of x) p) 1 0 + times (ports_of hs) p ≡ times (cond x.linear (port_of x ∷ linears hs) (linears hs)) p
    by_port true q r = rw (linear (port_is (port_of x) p q)) (same_count (is_port (port_of x) p) (times (ports_of hs) p) (times (linears hs) p) r)
    by_port false q r = skip (is_port (port_of x) p) (times (ports_of hs) p) _ q (keep x.linear q r)

-- the wires of a new node
out_times : (n q : ℕ) (ts : List GraphType) (p : Port) → p.node ≢ n → times (linears (out_held n q ts)) p ≡ 0
out_times n q [] p ne = refl
out_times n q (t ∷ ts) p ne = by_linear (is_linear t) (out_times n (suc q) ts p ne)
  where
    by_linear : (b : Bool) → times (linears (out_held n (suc q) ts)) p ≡ 0 → times (cond b (record { node = n; index = q } ∷ linears (out_held n (suc q) ts)) (linears (out_held n (suc q) ts))) p ≡ 0
    by_linear true r = skip (is_port (record { node = n; index = q }) p) _ 0 (other_port (record { node = n; index = q }) p (λ e. ne (sym e))) r
    by_linear false r = r

out_below : (n q i : ℕ) (ts : List GraphType) → i < q → times (linears (out_held n q ts)) (record { node = n; index = i }) ≡ 0
out_below n q i [] lt = refl
out_below n q i (t ∷ ts) lt = by_linear (is_linear t) (out_below n (suc q) i ts (omega arith))
  where
    by_linear : (b : Bool) → times (linears (out_held n (suc q) ts)) (record { node = n; index = i }) ≡ 0 → times (cond b (record { node = n; index = q } ∷ linears (out_held n (suc q) ts)) (linears (out_held n (suc q) ts))) (record { node = n; index = i }) ≡ 0
    by_linear true r = let ne : q ≢ i = omega arith in skip (is_port (record { node = n; index = q }) (record { node = n; index = i })) _ _ (rw (eq-eqb n n refl, ne_eqb q i ne) refl) r
    by_linear false r = r

out_once : (n q i j : ℕ) (ts : List GraphType) (type : GraphType) → slice_get ts j ≡ Some type → is_linear type ≡ true → i ≡ q + j → times (linears (out_held n q ts)) (record { node = n; index = i }) ≡ 1
out_once n q i j [] type e l s = absurd cc
out_once n q i zero (t ∷ ts) type e l s =
    let lt : is_linear t ≡ true = ap is_linear (some_is t type e) ∙ l in
    let qi : q ≡ i = omega arith in
    rw lt (hit (is_port (record { node = n; index = q }) (record { node = n; index = i })) _ 0 (rw (eq-eqb n n refl, eq-eqb q i qi) refl) (out_below n (suc q) i ts (omega arith)))
out_once n q i (suc j) (t ∷ ts) type e l s = by_linear (is_linear t) (out_once n (suc q) i j ts type e l (omega arith))
  where
    by_linear : (b : Bool) → times (linears (out_held n (suc q) ts)) (record { node = n; index = i }) ≡ 1 → times (cond b (record { node = n; index = q } ∷ linears (out_held n (suc q) ts)) (linears (out_held n (suc q) ts))) (record { node = n; index = i }) ≡ 1
    by_linear true r = let ne : q ≢ i = omega arith in skip (is_port (record { node = n; index = q }) (record { node = n; index = i })) _ _ (rw (eq-eqb n n refl, ne_eqb q i ne) refl) r
    by_linear false r = r

out_fits : (g : Graph) (n q : ℕ) (ts front : List GraphType) → n < length g.nodes → outs_of (op_at g n) ≡ front ++ ts → length front ≡ q → Fits g (out_held n q ts)
out_fits g n q [] front lt e l = tt
out_fits g n q (t ∷ ts) front lt e l =
    (record { within = lt; type = t; is = rw (e, sym l) (get_middle front ts t); same = refl }, out_fits g n (suc q) ts (front ++ t ∷ []) lt (e ∙ sym (append_assoc front (t ∷ []) ts)) (len front l))
  where
    get_middle : (xs ys : List GraphType) (y : GraphType) → slice_get (xs ++ y ∷ ys) (length xs) ≡ Some y
    get_middle [] ys y = refl
    get_middle (x ∷ xs) ys y = get_middle xs ys y

    len : (xs : List GraphType) → length xs ≡ q → length (xs ++ t ∷ []) ≡ suc q
    len xs m = let r = length-append xs (t ∷ []) in omega arith

pub new_fits : (g : Graph) (n : ℕ) (kind : Op) → n < length g.nodes → op_at g n ≡ kind → Fits g (out_held n 0 (outs_of kind))
new_fits g n kind lt e = out_fits g n 0 (outs_of kind) [] lt (ap outs_of e) refl

-- ---- one node that takes wires and hands others out
pub pends_node : (g h : Graph) (n : ℕ) (kind : Op) (taken : List Held) → n ≡ length g.nodes → Grows g h → n < length h.nodes → op_at h n ≡ kind → ((m : ℕ) → n < m → outs_of (op_at h m) ≡ []) → ((p : Port) (type : GraphType) → slice_get (outs_of (op_at h p.node)) p.index ≡ Some type → links_from h.links p ≡ links_from g.links p + times (ports_of taken) p) → PendsAfter g h taken (out_held n 0 (outs_of kind))
pends_node g h n kind taken nn w lt at later links = record {
  by = λ s pending rest b f t. record {
    one = λ p type pl e l. by_place s pending rest b f t p type e l (split p.node n);
    fresh = λ p le.
        let far : p.node ≢ n = omega arith in
        let a = b.fresh p (let m = w.more in omega arith) in
        let c = t p in
        let d = out_times n 0 (outs_of kind) p far in
        let x = times_append (linears (out_held n 0 (outs_of kind))) rest p in
        omega arith;
  };
  fits = new_fits h n kind lt at;
  still = λ hs f. fits_grow g h hs w f;
}
  where
    old_place : (pending rest : List Port) → Pends g pending → Fits g taken → Takes pending taken rest → (p : Port) (type : GraphType) → slice_get (outs_of (op_at h p.node)) p.index ≡ Some type → is_linear type ≡ true → p.node < n → links_from h.links p + times (linears (out_held n 0 (outs_of kind)) ++ rest) p ≡ 1
    old_place pending rest b f t p type e l lt' =
        let far : p.node ≢ n = omega arith in
        let e' : slice_get (outs_of (op_at g p.node)) p.index ≡ Some type = ap (λ o. slice_get (outs_of o) p.index) (sym (w.ops p.node (omega arith))) ∙ e in
        let a = b.one p type (omega arith) e' l in
        let c = t p in
        let d = out_times n 0 (outs_of kind) p far in
        let x = times_append (linears (out_held n 0 (outs_of kind))) rest p in
        let y = links p type e in
        let z = all_linear g taken p type f e' l in
        omega arith

    fits_times : (hs : List Held) → Fits g hs → (p : Port) → n ≤ p.node → times (ports_of hs) p ≡ 0
    fits_times [] f p le = refl
    fits_times (x ∷ hs) f p le =
        let a = f.0.within in
        let ne : x.node ≢ p.node = omega arith in
        skip (is_port (port_of x) p) (times (ports_of hs) p) 0 (other_port (port_of x) p ne) (fits_times hs f.1 p le)

    new_place : IsGraph g → (pending rest : List Port) → Pends g pending → Fits g taken → Takes pending taken rest → (p : Port) (type : GraphType) → slice_get (outs_of (op_at h p.node)) p.index ≡ Some type → is_linear type ≡ true → p.node ≡ n → links_from h.links p + times (linears (out_held n 0 (outs_of kind)) ++ rest) p ≡ 1
    new_place s pending rest b f t p type e l q =
        let e' : slice_get (outs_of kind) p.index ≡ Some type = ap (λ o. slice_get (outs_of o) p.index) (sym (ap (op_at h) q ∙ at)) ∙ e in
        let o = out_once n 0 p.index p.index (outs_of kind) type e' l (omega arith) in
        let o' : times (linears (out_held n 0 (outs_of kind))) p ≡ 1 = ap (λ m. times (linears (out_held n 0 (outs_of kind))) (record { node = m; index = p.index })) q ∙ o in
        let a = b.fresh p (omega arith) in
        let c = t p in
        let x = times_append (linears (out_held n 0 (outs_of kind))) rest p in
        let y = links p type e in
        let z = fits_times taken f p (omega arith) in
        let u = from_none g.links (length g.nodes) p (omega arith) s.links in
        omega arith

    none : (type : GraphType) (k : ℕ) → slice_get [] k ≡ Some type → ⊥
    none type k e = cc

    by_place : IsGraph g → (pending rest : List Port) → Pends g pending → Fits g taken → Takes pending taken rest → (p : Port) (type : GraphType) → slice_get (outs_of (op_at h p.node)) p.index ≡ Some type → is_linear type ≡ true → (p.node < n) ⊎ ((p.node ≡ n) ⊎ (n < p.node)) → links_from h.links p + times (linears (out_held n 0 (outs_of kind)) ++ rest) p ≡ 1
    by_place s pending rest b f t p type e l (inl q) = old_place pending rest b f t p type e l q
    by_place s pending rest b f t p type e l (inr (inl q)) = new_place s pending rest b f t p type e l q
    by_place s pending rest b f t p type e l (inr (inr q)) = absurd (none type p.index (ap (λ ts. slice_get ts p.index) (sym (later p.node q)) ∙ e))

-- what hands out no wires
pub pends_more : (g h : Graph) (taken : List Held) → Grows g h → ((m : ℕ) → length g.nodes ≤ m → outs_of (op_at h m) ≡ []) → ((p : Port) (type : GraphType) → slice_get (outs_of (op_at h p.node)) p.index ≡ Some type → links_from h.links p ≡ links_from g.links p + times (ports_of taken) p) → PendsAfter g h taken []
pends_more g h taken w later links = record {
  by = λ s pending rest b f t. record {
    one = λ p type pl e l. by_place pending rest b f t p type e l (split p.node (length g.nodes));
    fresh = λ p le. let a = b.fresh p (let m = w.more in omega arith) in let c = t p in omega arith;
  };
  fits = tt;
  still = λ hs f. fits_grow g h hs w f;
}
  where
    none : (type : GraphType) (k : ℕ) → slice_get [] k ≡ Some type → ⊥
    none type k e = cc

    old_place : (pending rest : List Port) → Pends g pending → Fits g taken → Takes pending taken rest → (p : Port) (type : GraphType) → slice_get (outs_of (op_at h p.node)) p.index ≡ Some type → is_linear type ≡ true → p.node < length g.nodes → links_from h.links p + times rest p ≡ 1
    old_place pending rest b f t p type e l lt =
        let e' : slice_get (outs_of (op_at g p.node)) p.index ≡ Some type = ap (λ o. slice_get (outs_of o) p.index) (sym (w.ops p.node lt)) ∙ e in
        let a = b.one p type lt e' l in
        let c = t p in
        let y = links p type e in
        let z = all_linear g taken p type f e' l in
        omega arith

    past : (p : Port) (type : GraphType) → slice_get (outs_of (op_at h p.node)) p.index ≡ Some type → length g.nodes ≤ p.node → ⊥
    past p type e le = none type p.index (ap (λ ts. slice_get ts p.index) (sym (later p.node le)) ∙ e)

    by_place : (pending rest : List Port) → Pends g pending → Fits g taken → Takes pending taken rest → (p : Port) (type : GraphType) → slice_get (outs_of (op_at h p.node)) p.index ≡ Some type → is_linear type ≡ true → (p.node < length g.nodes) ⊎ ((p.node ≡ length g.nodes) ⊎ (length g.nodes < p.node)) → links_from h.links p + times rest p ≡ 1
    by_place pending rest b f t p type e l (inl q) = old_place pending rest b f t p type e l q
    by_place pending rest b f t p type e l (inr (inl q)) = absurd (past p type e (omega arith))
    by_place pending rest b f t p type e l (inr (inr q)) = absurd (past p type e (omega arith))

-- in the end each linear output has its link
pub none_pend : (g : Graph) → Pends g [] → (n : ℕ) → n < length g.nodes → LinearOutputsAreTaken g n
none_pend g b n lt p type e l = let a = b.one (record { node = n; index = p }) type lt e l in omega arith

-- ---- the calls

get_past : {X : Type 0} (xs : List X) (m : ℕ) → length xs ≤ m → slice_get xs m ≡ None
get_past [] m l = refl
get_past (x ∷ xs) zero l = absurd (omega arith)
get_past (x ∷ xs) (suc m) l = get_past xs m (omega arith)

pub op_past : (g : Graph) (m : ℕ) → length g.nodes ≤ m → op_at g m ≡ Module
unfolding op_at
op_past g m le = ap op_of (get_past g.nodes m le)

-- the links of a node, at ports with a type
static_from : (h : Graph) (source : Option ℕ) (n q : ℕ) (p : Port) (type : GraphType) → ((f : ℕ) → source ≡ Some f → outs_of (op_at h f) ≡ []) → slice_get (outs_of (op_at h p.node)) p.index ≡ Some type → links_from (static_links source n q) p ≡ 0
static_from h None n q p type nout e = refl
static_from h (Some f) n q p type nout e = by_port (is_port (record { node = f; index = 0 }) p) refl
  where
    none : (k : ℕ) → slice_get [] k ≡ Some type → ⊥
    none k e = cc

    by_port : (t : Bool) → is_port (record { node = f; index = 0 }) p ≡ t → cond t 1 0 + 0 ≡ 0
    by_port false q = omega arith
    by_port true q =
        let r : record { node = f; index = 0 } ≡ p = port_is (record { node = f; index = 0 }) p q in
        absurd (none p.index (ap (λ ts. slice_get ts p.index) (sym (ap (λ (z : Port). outs_of (op_at h z.node)) (sym r) ∙ nout f refl)) ∙ e))

after_from : (g h : Graph) (kind : Op) (c : ℕ) (ps : List Port) (source prior : Option ℕ) (p : Port) (type : GraphType) → ((f : ℕ) → source ≡ Some f → outs_of (op_at h f) ≡ []) → slice_get (outs_of (op_at h p.node)) p.index ≡ Some type → links_from (after_node g kind c ps source prior).links p ≡ links_from g.links p + times ps p
after_from g h kind c ps source prior p type nout e =
    let n = length g.nodes in
    let a = from_append ((g.links ++ value_links n 0 ps) ++ static_links source n (length ps)) (order_links prior n) p in
    let b = from_append (g.links ++ value_links n 0 ps) (static_links source n (length ps)) p in
    let d = from_append g.links (value_links n 0 ps) p in
    let x = from_values n 0 ps p in
    let y = static_from h source n (length ps) p type nout e in
    let z = from_order prior n p in
    omega arith

after_grows : (g : Graph) (kind : Op) (c : ℕ) (ps : List Port) (source prior : Option ℕ) → Grows g (after_node g kind c ps source prior)
after_grows g kind c ps source prior =
    let n = length g.nodes in
    let g1 = with_node g kind c in
    let g2 = with_links g1 (value_links n 0 ps) in
    let g3 = with_links g2 (static_links source n (length ps)) in
    grows_trans g g1 (with_links g3 (order_links prior n)) (node_grows g kind c) (grows_trans g1 g2 (with_links g3 (order_links prior n)) (links_grow g1 (value_links n 0 ps)) (grows_trans g2 g3 (with_links g3 (order_links prior n)) (links_grow g2 (static_links source n (length ps))) (links_grow g3 (order_links prior n))))

after_op : (g : Graph) (kind : Op) (c : ℕ) (ps : List Port) (source prior : Option ℕ) → op_at (after_node g kind c ps source prior) (length g.nodes) ≡ kind
after_op g kind c ps source prior =
    let n = length g.nodes in
    let g1 = with_node g kind c in
    let g2 = with_links g1 (value_links n 0 ps) in
    let g3 = with_links g2 (static_links source n (length ps)) in
    op_links g3 (order_links prior n) n ∙ op_links g2 (static_links source n (length ps)) n ∙ op_links g1 (value_links n 0 ps) n ∙ op_new g kind c

abbrev pub NoOuts : Graph → Option ℕ → Type 0
NoOuts g None = Unit {0}
NoOuts g (Some f) = (f < length g.nodes) × (outs_of (op_at g f) ≡ [])

no_outs : (g h : Graph) (source : Option ℕ) → Grows g h → NoOuts g source → (f : ℕ) → source ≡ Some f → outs_of (op_at h f) ≡ []
no_outs g h None w s f e = absurd cc
no_outs g h (Some k) w s f e =
    let q : k ≡ f = some_nat k f e in
    subst (λ m. outs_of (op_at h m) ≡ []) q (ap outs_of (w.ops k s.0) ∙ s.1)
  where
    some_nat : (a b : ℕ) → Some a ≡ Some b → a ≡ b
    some_nat a b e = cc

pub node_pends : (g : Graph) (kind : Op) (c : ℕ) (taken : List Held) (source prior : Option ℕ) → NoOuts g source → PendsAfter g (after_node g kind c (ports_of taken) source prior) taken (out_held (length g.nodes) 0 (outs_of kind))
node_pends g kind c taken source prior nout =
    let n = length g.nodes in
    let h = after_node g kind c (ports_of taken) source prior in
    let more : length h.nodes ≡ suc n = count_node g kind c in
    let w = after_grows g kind c (ports_of taken) source prior in
    pends_node g h n kind taken refl w (omega arith) (after_op g kind c (ports_of taken) source prior) (λ m lt. ap outs_of (op_past h m (omega arith))) (λ p type e. after_from g h kind c (ports_of taken) source prior p type (no_outs g h source w nout) e)

-- nothing is taken
pub takes_none : (pending : List Port) → Takes pending [] pending
takes_none pending p = omega arith

-- a node without outputs
pub silent_pends : (g : Graph) (kind : Op) (c : ℕ) → outs_of kind ≡ [] → PendsAfter g (with_node g kind c) [] []
silent_pends g kind c nout =
    let n = length g.nodes in
    let h = with_node g kind c in
    let more : length h.nodes ≡ suc n = count_node g kind c in
    pends_more g h [] (node_grows g kind c) (λ m le. by_place m (split m n) le) (λ p type e. omega arith)
  where
    by_place : (m : ℕ) → (m < length g.nodes) ⊎ ((m ≡ length g.nodes) ⊎ (length g.nodes < m)) → length g.nodes ≤ m → outs_of (op_at (with_node g kind c) m) ≡ []
    by_place m (inl q) le = absurd (omega arith)
    by_place m (inr (inl q)) le = ap (λ k. outs_of (op_at (with_node g kind c) k)) q ∙ ap outs_of (op_new g kind c) ∙ nout
    by_place m (inr (inr q)) le = ap outs_of (op_past (with_node g kind c) m (let more = count_node g kind c in omega arith))

pub pends_then : (g h j : Graph) (taken handed : List Held) → (IsGraph g → IsGraph h) → PendsAfter g h [] [] → PendsAfter h j taken handed → PendsAfter g j taken handed
pends_then g h j taken handed gr a b = record {
  by = λ s pending rest x f t. b.by (gr s) pending rest (a.by s pending pending x tt (takes_none pending)) (a.still taken f) t;
  fits = b.fits;
  still = λ hs f. b.still hs (a.still hs f);
}

pub pends_last : (g h j : Graph) (taken handed : List Held) → (IsGraph g → Fits g taken → IsGraph h) → PendsAfter g h taken handed → PendsAfter h j [] [] → PendsAfter g j taken handed
pends_last g h j taken handed gr a b = record {
  by = λ s pending rest x f t. b.by (gr s f) (linears handed ++ rest) (linears handed ++ rest) (a.by s pending rest x f t) tt (takes_none (linears handed ++ rest));
  fits = b.still handed a.fits;
  still = λ hs f. b.still hs (a.still hs f);
}

-- the links into an Output, and the order link of `leave`
pub close_pends : (g : Graph) (o : ℕ) (taken : List Held) (prior : Option ℕ) (n : ℕ) → PendsAfter g (with_links (with_links g (value_links o 0 (ports_of taken))) (order_links prior n)) taken []
close_pends g o taken prior n =
    let g1 = with_links g (value_links o 0 (ports_of taken)) in
    let h = with_links g1 (order_links prior n) in
    pends_more g h taken (grows_trans g g1 h (links_grow g (value_links o 0 (ports_of taken))) (links_grow g1 (order_links prior n))) (λ m le. ap outs_of (op_links g1 (order_links prior n) m ∙ op_links g (value_links o 0 (ports_of taken)) m ∙ op_past g m le))
    (λ p type e.
    let a = from_append (g.links ++ value_links o 0 (ports_of taken)) (order_links prior n) p in
    let b = from_append g.links (value_links o 0 (ports_of taken)) p in
    let c = from_values o 0 (ports_of taken) p in
    let d = from_order prior n p in
    omega arith)

-- `constant`
pub constant_pends : (g : Graph) (value : ℤ) (c : ℕ) → c < length g.nodes → PendsAfter g (after_constant g value c) [] (out_held (suc (length g.nodes)) 0 (outs_of LoadConstant))
constant_pends g value c lt =
    let n = length g.nodes in
    let g1 = with_node g (Const value) c in
    let more : length g1.nodes ≡ suc n = count_node g (Const value) c in
    let a = node_pends g1 LoadConstant c [] (Some n) None (omega arith, ap outs_of (op_new g (Const value) c)) in
    subst (λ m. PendsAfter g (after_constant g value c) [] (out_held m 0 (outs_of LoadConstant))) more (pends_then g g1 (after_constant g value c) [] _ (graph_node g (Const value) c lt) (silent_pends g (Const value) c refl) a)

pends_self : (g : Graph) → PendsAfter g g [] []
pends_self g = record {
  by = λ s pending rest b f t. record { one = λ p type lt e l. let a = b.one p type lt e l in let c = t p in omega arith; fresh = λ p le. let a = b.fresh p le in let c = t p in omega arith };
  fits = tt;
  still = λ hs f. f;
}

cases_pend : (n : ℕ) (rows : List Types) (ins outs : Types) (g : Graph) → n < length g.nodes → PendsAfter g (with_cases g n rows ins outs) [] []
cases_pend n [] ins outs g lt = subst (λ h. PendsAfter g h [] []) (ap (λ x. record g { nodes = x }) (sym (append-nil g.nodes))) (pends_self g)
cases_pend n (row ∷ rows) ins outs g lt =
    let g1 = with_node g (Case (row ++ ins) outs) n in
    let more : length g1.nodes ≡ suc (length g.nodes) = count_node g (Case (row ++ ins) outs) n in
    subst (λ h. PendsAfter g h [] []) (sym (with_cases_more g n row rows ins outs)) (pends_then g g1 (with_cases g1 n rows ins outs) [] [] (graph_node g (Case (row ++ ins) outs) n lt) (silent_pends g (Case (row ++ ins) outs) n refl) (cases_pend n rows ins outs g1 (omega arith)))

fits_below : (g : Graph) (hs : List Held) → Fits g hs → PortsBelow (length g.nodes) (ports_of hs)
fits_below g [] f = tt
fits_below g (x ∷ hs) f = (f.0.within, fits_below g hs f.1)

graph_after : (g : Graph) (kind : Op) (c : ℕ) (taken : List Held) → c < length g.nodes → IsGraph g → Fits g taken → IsGraph (after_node g kind c (ports_of taken) None None)
graph_after g kind c taken lt s f =
    let n = length g.nodes in
    let g1 = with_node g kind c in
    let more : length g1.nodes ≡ suc n = count_node g kind c in
    let g2 = with_links g1 (value_links n 0 (ports_of taken)) in
    let s1 = graph_node g kind c lt s in
    let s2 = graph_links g1 (value_links n 0 (ports_of taken)) (values_within (length g1.nodes) n 0 (ports_of taken) (omega arith) (ports_more n (length g1.nodes) (ports_of taken) (omega arith) (fits_below g taken f))) s1 in
    graph_links (with_links g2 []) [] (λ link i. absurd i) (graph_links g2 [] (λ link i. absurd i) s2)

-- `conditional`
pub choice_pends : (g : Graph) (rows : List Types) (ins outs : Types) (c : ℕ) (taken : List Held) → c < length g.nodes → PendsAfter g (after_choice g rows ins outs c (ports_of taken)) taken (out_held (length g.nodes) 0 outs)
choice_pends g rows ins outs c taken lt =
    let h = after_node g (Conditional rows ins outs) c (ports_of taken) None None in
    let more : length h.nodes ≡ suc (length g.nodes) = count_node g (Conditional rows ins outs) c in
    pends_last g h (after_choice g rows ins outs c (ports_of taken)) taken (out_held (length g.nodes) 0 outs) (λ s f. graph_after g (Conditional rows ins outs) c taken lt s f) (node_pends g (Conditional rows ins outs) c taken None None tt) (cases_pend (length g.nodes) rows ins outs h (omega arith))

-- `open` and `enter`
pub ends_pend : (g : Graph) (c : ℕ) (ins outs : Types) → c < length g.nodes → PendsAfter g (after_ends g c ins outs) [] (out_held (length g.nodes) 0 ins)
ends_pend g c ins outs lt =
    let n = length g.nodes in
    let g1 = with_node g (Input ins) c in
    let more : length g1.nodes ≡ suc n = count_node g (Input ins) c in
    pends_last g g1 (after_ends g c ins outs) [] (out_held n 0 ins) (λ s f. graph_node g (Input ins) c lt s)
    (pends_node g g1 n (Input ins) [] refl (node_grows g (Input ins) c) (omega arith) (op_new g (Input ins) c) (λ m lt'. ap outs_of (op_past g1 m (omega arith))) (λ p type e. omega arith))
    (silent_pends g1 (Output outs) c refl)

-- a control link: it comes from a port without a type
pub control_pends : (g : Graph) (from : Port) (to : ℕ) → outs_of (op_at g from.node) ≡ [] → PendsAfter g (after_control g from to) [] []
control_pends g from to nout =
    let ls = Ports from (record { node = to; index = 0 }) ∷ [] in
    let h = after_control g from to in
    pends_more g h [] (links_grow g ls) (λ m le. ap outs_of (op_links g ls m ∙ op_past g m le)) (λ p type e. let a = from_append g.links ls p in let b = by_port p type e (is_port from p) refl in omega arith)
  where
    none : (type : GraphType) (k : ℕ) → slice_get [] k ≡ Some type → ⊥
    none type k e = cc

    by_port : (p : Port) (type : GraphType) → slice_get (outs_of (op_at (after_control g from to) p.node)) p.index ≡ Some type → (t : Bool) → is_port from p ≡ t → cond t 1 0 + 0 ≡ 0
    by_port p type e false q = omega arith
    by_port p type e true q =
        let r : from ≡ p = port_is from p q in
        absurd (none type p.index (ap (λ ts. slice_get ts p.index) (sym (ap outs_of (op_links g (Ports from (record { node = to; index = 0 }) ∷ []) p.node) ∙ ap (λ (z : Port). outs_of (op_at g z.node)) (sym r) ∙ nout)) ∙ e))

-- ---- clauses

pub pends_is : (g new h : Graph) (taken handed wires : List Held) → new ≡ h → handed ≡ wires → PendsAfter g h taken wires → PendsAfter g new taken handed
pends_is g new h taken handed wires e f a = subst (λ x. PendsAfter g x taken handed) (sym e) (subst (λ x. PendsAfter g h taken x) (sym f) a)

pub node_pending : (old new : Region) (kind : Op) (taken : List Held) (n : ℕ) (handed : List Held) → IsNode old new kind (ports_of taken) None n handed → PendsAfter old.graph new.graph taken handed
node_pending old new kind taken n handed a = pends_is old.graph new.graph _ taken handed _ a.graph a.wires (node_pends old.graph kind old.place.container taken None _ tt)

pub call_pending : (old new : Region) (kind : Op) (f : ℕ) (taken : List Held) (n : ℕ) (handed : List Held) → IsNode old new kind (ports_of taken) (Some f) n handed → f < length old.graph.nodes → outs_of (op_at old.graph f) ≡ [] → PendsAfter old.graph new.graph taken handed
call_pending old new kind f taken n handed a lt nout = pends_is old.graph new.graph _ taken handed _ a.graph a.wires (node_pends old.graph kind old.place.container taken (Some f) _ (lt, nout))

pub constant_pending : (old new : Region) (value : ℤ) (out : Port) → IsConstant old new value out → old.place.container < length old.graph.nodes → PendsAfter old.graph new.graph [] (record { node = out.node; index = out.index; linear = false } ∷ [])
constant_pending old new value out a lt =
    pends_is old.graph new.graph _ [] _ _ a.graph (ap (λ (p : Port). record { node = p.node; index = p.index; linear = false } ∷ []) a.wire) (constant_pends old.graph value old.place.container lt)

-- what is loaded is a function, which is copyable
load_held : (o : Op) (n : ℕ) → out_held n 0 (outs_of (load_of o)) ≡ record { node = n; index = 0; linear = false } ∷ []
load_held (FuncDefn name ins outs) n = refl
load_held _ n = refl

pub load_exact : (old new : Region) (o : Op) (f n : ℕ) (handed : List Held) → IsNode old new (load_of o) [] (Some f) n handed → IsNode old new (load_of o) [] (Some f) n (record { node = n; index = 0; linear = false } ∷ [])
load_exact old new o f n handed a = record {
  graph = a.graph;
  place = a.place;
  number = a.number;
  wires = ap (λ m. record { node = m; index = 0; linear = false } ∷ []) a.number ∙ sym (load_held o (length old.graph.nodes));
}

pub load_pending : (old new : Region) (o : Op) (f n : ℕ) (handed : List Held) → IsNode old new (load_of o) [] (Some f) n handed → f < length old.graph.nodes → outs_of (op_at old.graph f) ≡ [] → PendsAfter old.graph new.graph [] (record { node = n; index = 0; linear = false } ∷ [])
load_pending old new o f n handed a lt nout =
    pends_is old.graph new.graph _ [] _ _ a.graph (load_exact old new o f n handed a).wires (node_pends old.graph (load_of o) old.place.container [] (Some f) _ (lt, nout))

pub choice_pending : (old new : Region) (rows : List Types) (ins outs : Types) (taken : List Held) (n : ℕ) (handed : List Held) → IsChoice old new rows ins outs (ports_of taken) n handed → old.place.container < length old.graph.nodes → PendsAfter old.graph new.graph taken handed
choice_pending old new rows ins outs taken n handed a lt = pends_is old.graph new.graph _ taken handed _ a.graph a.wires (choice_pends old.graph rows ins outs old.place.container taken lt)

pub block_pending : (old new : Region) (cfg : ℕ) (kind : Op) (n : ℕ) → IsBlock old new cfg kind n → outs_of kind ≡ [] → PendsAfter old.graph new.graph [] []
block_pending old new cfg kind n a nout = pends_is old.graph new.graph _ [] [] [] a.graph refl (silent_pends old.graph kind cfg nout)

pub control_pending : (old new : Region) (from : Port) (to : ℕ) → IsControl old new from to → outs_of (op_at old.graph from.node) ≡ [] → PendsAfter old.graph new.graph [] []
control_pending old new from to a nout = pends_is old.graph new.graph _ [] [] [] a.graph refl (control_pends old.graph from to nout)

pub open_pending : (old : Graph) (c : ℕ) (ins outs : Types) (new : Region) (handed : List Held) → IsOpened old c ins outs new handed → c < length old.nodes → PendsAfter old new.graph [] handed
open_pending old c ins outs new handed a lt = pends_is old new.graph _ [] handed _ a.graph a.wires (ends_pend old c ins outs lt)

pub enter_pending : (old : Region) (c : ℕ) (outer : Outer) (inner : Region) (handed : List Held) → IsEntered old c outer inner handed → c < length old.graph.nodes → PendsAfter old.graph inner.graph [] handed
enter_pending old c outer inner handed a lt = pends_is old.graph inner.graph _ [] handed _ a.graph a.wires (ends_pend old.graph c _ _ lt)

pub leave_pending : (inner : Region) (outer : Outer) (taken : List Held) (new : Region) → IsLeft inner outer (ports_of taken) new → PendsAfter inner.graph new.graph taken []
leave_pending inner outer taken new a = pends_is inner.graph new.graph _ taken [] [] a.graph refl (close_pends inner.graph inner.place.output taken _ outer.node)

pub finish_pending : (old : Region) (taken : List Held) (new : Graph) → IsFinished old (ports_of taken) new → PendsAfter old.graph new taken []
finish_pending old taken new a =
    pends_is old.graph new _ taken [] [] (a.graph ∙ sym (with_none (with_links old.graph (value_links old.place.output 0 (ports_of taken))))) refl (close_pends old.graph old.place.output taken None 0)
