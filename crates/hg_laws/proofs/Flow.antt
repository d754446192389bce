-- One region: what has fired is typed and closed under what feeds it, and something is ready until all has fired.
pub use Rattle.std.proofs.Common.{◌≡◌, ◌≢◌, ◌⊎◌, inl, inr, ℕ, zero, suc, ◌+◌, ◌<◌, ◌≤◌, Bool, true, false, cond, not, ◌&&◌, ◌||◌, eqb, List, [], ◌∷◌, length, Option, Some, None, is_some, refl, sym, ap, ap₂, ◌∙◌, subst, arith}
use Rattle.std.specs.Prelude.{slice_get}
use Rattle.std.proofs.lemmas.Bool.Decides.{eqb_tells}
use Rattle.std.proofs.lemmas.Bool.{eqb-true, eq-eqb}
use Rattle.hg_ops.specs.GraphType.{GraphType, is_linear}
use Rattle.hg_ops.specs.Op.{ins_of, outs_of}
use Rattle.gp_base.specs.Membership.{In}
use Rattle.hg_graph.specs.Graph.{Graph, op_at, firing_children}
use Rattle.hg_graph.specs.Moments.{yet_to_fire, IsPartway}
use Rattle.hg_graph.specs.Run.{Look, has_fired, value_at, cons_both, inputs, Ready, ready}
use Rattle.hg_graph.specs.Valid.{Edge, Path, edge, joined}
use Rattle.hg_graph.specs.Value.{Value, HasType, HaveTypes, functions}
use Rattle.hg_laws.proofs.Lists.{Distinct, In-filter, In-filter_back, circle, get_within}
use Rattle.hg_laws.proofs.Values.{has_at}
use Rattle.hg_laws.proofs.Wires.{Wire, Pair, value_links, order_links, wire_into, wires_into, wires_from, along, gathered, orders_done, inputs_are, wire_edge, pair_edge, edge_cases}
use Rattle.hg_laws.proofs.Looks.{plus, plus_same, plus_other, has_some, has_outs, has_cases, not_both, has_plus, is_wire_into, has_wire_into, both_some, along_some, orders_in, IsReady, In-ready_back}
use Rattle.hg_laws.proofs.Known.{JoinsWire}

-- n children are still to fire
pub record Sound (g : Graph) (c i : ℕ) (look : Look) (n : ℕ) : Type 0 where
  pub who : (m : ℕ) → has_fired look m ≡ true → In m (firing_children g c) ⊎ (m ≡ i)
  pub typed : (m : ℕ) (vs : List Value) → look m ≡ Some vs → HaveTypes (functions g) vs (outs_of (op_at g m))
  pub closed : (w : Wire) → In w (value_links g) → has_fired look w.to ≡ true → has_fired look w.from ≡ true
  pub closed_order : (l : Pair) → In l (order_links g) → has_fired look l.after ≡ true → has_fired look l.before ≡ true
  pub input : has_fired look i ≡ true
  pub count : length (yet_to_fire look (firing_children g c)) ≡ n

pub partway_sound : (g : Graph) (c i : ℕ) (look : Look) (n : ℕ) → IsPartway g c i look n → Sound g c i look n
partway_sound g c i look n p = record {
  who = p.within;
  typed = p.typed;
  closed = λ w iw h. p.closed w.from w.to (wire_edge g w iw) h;
  closed_order = λ l il h. p.closed l.before l.after (pair_edge g l il) h;
  input = p.entered;
  count = p.count_is;
}

pub sound_partway : (g : Graph) (c i : ℕ) (look : Look) (n : ℕ) → Sound g c i look n → IsPartway g c i look n
sound_partway g c i look n s = record {
  within = s.who;
  typed = s.typed;
  closed = λ a b e h. elim (edge_cases g a b e) [
    | inl x ↦ ap (has_fired look) (sym x.2) ∙ s.closed x.0 x.1 (ap (has_fired look) x.3 ∙ h)
    | inr x ↦ ap (has_fired look) (sym x.2) ∙ s.closed_order x.0 x.1 (ap (has_fired look) x.3 ∙ h)
  ];
  entered = s.input;
  count_is = s.count;
}

pub record IsRegion (g : Graph) (c i o : ℕ) : Type 0 where
  pub kids_once : Distinct (firing_children g c)
  pub not_i : In i (firing_children g c) → ⊥
  pub not_o : In o (firing_children g c) → ⊥
  pub apart : i ≢ o
  pub back : (w : Wire) → In w (value_links g) → In w.to (firing_children g c) ⊎ (w.to ≡ o) → In w.from (firing_children g c) ⊎ (w.from ≡ i)
  pub forth : (w : Wire) → In w (value_links g) → In w.from (firing_children g c) ⊎ (w.from ≡ i) → In w.to (firing_children g c) ⊎ (w.to ≡ o)
  pub order_back : (l : Pair) → In l (order_links g) → In l.after (firing_children g c) → In l.before (firing_children g c) ⊎ (l.before ≡ i)
  pub no_into : (w : Wire) → In w (value_links g) → w.to ≢ i
  pub no_order_into : (l : Pair) → In l (order_links g) → l.after ≢ i
  pub joins : (w : Wire) → In w (value_links g) → JoinsWire g w
  pub fed : (n p : ℕ) → In n (firing_children g c) ⊎ (n ≡ o) → p < length (ins_of (op_at g n)) → wires_into (value_links g) n p ≡ 1
  pub spent : (n p : ℕ) (t : GraphType) → In n (firing_children g c) ⊎ (n ≡ i) → slice_get (outs_of (op_at g n)) p ≡ Some t → is_linear t ≡ true → wires_from (value_links g) n p ≡ 1
  pub no_circle : (n : ℕ) → Path g n n → ⊥

-- ---- counting what is left
left_same : (look more : Look) (ks : List ℕ) → ((k : ℕ) → In k ks → has_fired look k ≡ has_fired more k) → length (yet_to_fire look ks) ≡ length (yet_to_fire more ks)
left_same look more [] h = refl
left_same look more (k ∷ ks) h = go (has_fired look k) (has_fired more k) (h k (inl refl)) (left_same look more ks (λ j i. h j (inr i)))
  where
    go : (a b : Bool) → a ≡ b → length (yet_to_fire look ks) ≡ length (yet_to_fire more ks) → length (cond (not a) (k ∷ yet_to_fire look ks) (yet_to_fire look ks)) ≡ length (cond (not b) (k ∷ yet_to_fire more ks) (yet_to_fire more ks))
    go true true e r = r
    go true false e r = absurd cc
    go false true e r = absurd cc
    go false false e r = ap suc r

left_plus : (look : Look) (a : ℕ) (vs : List Value) (ks : List ℕ) → Distinct ks → In a ks → has_fired look a ≡ false → length (yet_to_fire look ks) ≡ suc (length (yet_to_fire (plus look a vs) ks))
left_plus look a vs [] d i f = absurd i
left_plus look a vs (k ∷ ks) d (inl e) f =
    let rest = left_same look (plus look a vs) ks (λ j ij. ap is_some (sym (plus_other look a vs j (λ q. d.0 (subst (λ m. In m ks) (sym q ∙ e) ij))))) in
    let here : has_fired look k ≡ false = ap (has_fired look) (sym e) ∙ f in
    let there : has_fired (plus look a vs) k ≡ true = ap (has_fired (plus look a vs)) (sym e) ∙ has_some (plus look a vs) a vs (plus_same look a vs) in
    ap (λ b. length (cond (not b) (k ∷ yet_to_fire look ks) (yet_to_fire look ks))) here
    ∙ (ap suc rest ∙ sym (ap (λ b. suc (length (cond (not b) (k ∷ yet_to_fire (plus look a vs) ks) (yet_to_fire (plus look a vs) ks)))) there))
left_plus look a vs (k ∷ ks) d (inr i) f =
    let ne : a ≢ k = λ q. d.0 (subst (λ m. In m ks) q i) in
    go (has_fired look k) (has_fired (plus look a vs) k) (ap is_some (sym (plus_other look a vs k ne))) (left_plus look a vs ks d.1 i f)
  where
    go : (x y : Bool) → x ≡ y → length (yet_to_fire look ks) ≡ suc (length (yet_to_fire (plus look a vs) ks)) → length (cond (not x) (k ∷ yet_to_fire look ks) (yet_to_fire look ks)) ≡ suc (length (cond (not y) (k ∷ yet_to_fire (plus look a vs) ks) (yet_to_fire (plus look a vs) ks)))
    go true true e r = r
    go true false e r = absurd cc
    go false true e r = absurd cc
    go false false e r = ap suc r

pub none_left : (look : Look) (ks : List ℕ) (k : ℕ) → In k ks → length (yet_to_fire look ks) ≡ 0 → has_fired look k ≡ true
none_left look ks k i e = elim (has_cases look k) [ inl h ↦ h | inr h ↦ absurd (no_length (yet_to_fire look ks) (In-filter_back (λ x. not (has_fired look x)) ks k i (ap not h)) e) ]
  where
    no_length : (l : List ℕ) → In k l → length l ≡ 0 → ⊥
    no_length [] j q = j
    no_length (x ∷ l) j q = cc

-- ---- the feeder of a port is its only link
counts_in : (ws : List Wire) (n p : ℕ) (w : Wire) → In w ws → w.to ≡ n → w.tp ≡ p → 1 ≤ wires_into ws n p
counts_in [] n p w i a b = absurd i
counts_in (v ∷ ws) n p w (inl e) a b =
    let t : (eqb v.to n && eqb v.tp p) ≡ true = ap₂ ◌&&◌ (eq-eqb v.to n (ap (λ x. x.to) (sym e) ∙ a)) (eq-eqb v.tp p (ap (λ x. x.tp) (sym e) ∙ b)) in
    subst (λ z. 1 ≤ cond z 1 0 + wires_into ws n p) (sym t) (omega arith)
counts_in (v ∷ ws) n p w (inr i) a b = let r = counts_in ws n p w i a b in omega arith

pub only_wire_into : (ws : List Wire) (n p : ℕ) (w : Wire) → wires_into ws n p ≡ 1 → In w ws → w.to ≡ n → w.tp ≡ p → wire_into ws n p ≡ Some w
only_wire_into [] n p w c i a b = absurd i
only_wire_into (v ∷ ws) n p w c (inl e) a b =
    let t : (eqb v.to n && eqb v.tp p) ≡ true = ap₂ ◌&&◌ (eq-eqb v.to n (ap (λ x. x.to) (sym e) ∙ a)) (eq-eqb v.tp p (ap (λ x. x.tp) (sym e) ∙ b)) in
    ap (λ z. cond z (Some v) (wire_into ws n p)) t ∙ ap Some (sym e)
only_wire_into (v ∷ ws) n p w c (inr i) a b =
    go (eqb v.to n && eqb v.tp p) c (counts_in ws n p w i a b) (λ q. only_wire_into ws n p w q i a b)
  where
    go : (z : Bool) → cond z 1 0 + wires_into ws n p ≡ 1 → 1 ≤ wires_into ws n p → (wires_into ws n p ≡ 1 → wire_into ws n p ≡ Some w) → cond z (Some v) (wire_into ws n p) ≡ Some w
    go true q l rest = absurd (omega arith)
    go false q l rest = rest (omega arith)

-- the value at each input port
pub gathered_at : (ws : List Wire) (look : Look) (n p k : ℕ) (vs : List Value) → gathered ws look n p k ≡ Some vs → (j : ℕ) → p ≤ j → j < p + k → (v : Value) × (along look (wire_into ws n j) ≡ Some v)
gathered_at ws look n p zero vs e j l h = absurd (omega arith)
gathered_at ws look n p (suc k) vs e j l h =
    let b = both_some (along look (wire_into ws n p)) (gathered ws look n (suc p) k) vs e in
    elim (eqb_tells p j) [ inl q ↦ (b.0, ap (λ m. along look (wire_into ws n m)) (sym q.1) ∙ b.2) | inr q ↦ let ne = q.1 in gathered_at ws look n (suc p) k b.1 b.3 j (above ne l) (omega arith) ]
  where
    above : p ≢ j → p ≤ j → suc p ≤ j
    above ne le = omega arith

same_some : {A : Type 0} (o : Option A) (x y : A) → o ≡ Some x → o ≡ Some y → x ≡ y
same_some o x y a b = cc

module _ (g : Graph) (c i o : ℕ) (R : IsRegion g c i o) where
  -- each link into a ready node comes from one that has fired
  pub fed_by_fired : (look : Look) (n : ℕ) (vs : List Value) → In n (firing_children g c) ⊎ (n ≡ o) → inputs g look n ≡ Some vs → (w : Wire) → In w (value_links g) → w.to ≡ n → has_fired look w.from ≡ true
  fed_by_fired look n vs k e₀ w iw t =
      let e = sym (inputs_are g look n) ∙ e₀ in
      let j = R.joins w iw in
      let within : w.tp < length (ins_of (op_at g n)) = subst (λ m. w.tp < length (ins_of (op_at g m))) t (get_within (ins_of (op_at g w.to)) w.tp j.ty j.to_port) in
      let f = only_wire_into (value_links g) n w.tp w (R.fed n w.tp k within) iw t refl in
      let v = gathered_at (value_links g) look n 0 (length (ins_of (op_at g n))) vs e w.tp (omega arith) (omega arith) in
      let a = along_some look (wire_into (value_links g) n w.tp) v.0 v.1 in
      has_some look w.from a.1 (ap (λ x. look x.from) (same_some (wire_into (value_links g) n w.tp) w a.0 f a.2) ∙ a.3)

  -- a value at the source of a link has the port's type
  pub typed_along : (look : Look) (m : ℕ) → Sound g c i look m → (w : Wire) → In w (value_links g) → (v : Value) → along look (Some w) ≡ Some v → (t : GraphType) → slice_get (ins_of (op_at g w.to)) w.tp ≡ Some t → HasType (functions g) v t
  typed_along look m s w iw v e t p =
      let j = R.joins w iw in
      let a = along_some look (Some w) v e in
      let same : w ≡ a.0 = same_some (Some w) w a.0 refl a.2 in
      let at : slice_get a.1 w.fp ≡ Some v = ap (λ x. slice_get a.1 x.fp) same ∙ a.4 in
      let u = has_at (functions g) a.1 (outs_of (op_at g w.from)) (s.typed w.from a.1 (ap (λ x. look x.from) same ∙ a.3)) w.fp j.ty j.from_port in
      let vu : u.0 ≡ v = same_some (slice_get a.1 w.fp) u.0 v u.1 at in
      let tt' : j.ty ≡ t = same_some (slice_get (ins_of (op_at g w.to)) w.tp) j.ty t j.to_port p in
      subst (HasType (functions g) v) tt' (subst (λ x. HasType (functions g) x j.ty) vu u.2)

  typed_pulls : (look : Look) (m n p : ℕ) (ts all : List GraphType) (vs : List Value) → Sound g c i look m → all ≡ ins_of (op_at g n) → ((j : ℕ) (t : GraphType) → slice_get ts j ≡ Some t → slice_get all (p + j) ≡ Some t) → gathered (value_links g) look n p (length ts) ≡ Some vs → HaveTypes (functions g) vs ts
  typed_pulls look m n p [] all vs s q h e = subst (λ x. HaveTypes (functions g) x []) (same_some (Some []) [] vs refl e) tt
  typed_pulls look m n p (t ∷ ts) all vs s q h e =
      let b = both_some (along look (wire_into (value_links g) n p)) (gathered (value_links g) look n (suc p) (length ts)) vs e in
      let a = along_some look (wire_into (value_links g) n p) b.0 b.2 in
      let f = is_wire_into (value_links g) n p a.0 a.2 in
      let along_w : along look (Some a.0) ≡ Some b.0 = ap (along look) (sym a.2) ∙ b.2 in
      let z : p + 0 ≡ p = omega arith in
      let port : slice_get (ins_of (op_at g (a.0).to)) (a.0).tp ≡ Some t =
      ap₂ (λ x y. slice_get (ins_of (op_at g x)) y) f.1 (f.2 ∙ sym z) ∙ (ap (λ l. slice_get l (p + 0)) (sym q) ∙ h 0 t refl) in
      let here = typed_along look m s a.0 f.0 b.0 along_w t port in
      let shift : (j : ℕ) → suc p + j ≡ p + suc j = λ j. omega arith in
      let rest = typed_pulls look m n (suc p) ts all b.1 s q (λ j u k. ap (slice_get all) (shift j) ∙ h (suc j) u k) b.3 in
      subst (λ x. HaveTypes (functions g) x (t ∷ ts)) (sym b.4) (here, rest)

  pub typed_inputs : (look : Look) (m n : ℕ) (vs : List Value) → Sound g c i look m → inputs g look n ≡ Some vs → HaveTypes (functions g) vs (ins_of (op_at g n))
  typed_inputs look m n vs s e =
      let z : (j : ℕ) → 0 + j ≡ j = λ j. omega arith in
      typed_pulls look m n 0 (ins_of (op_at g n)) (ins_of (op_at g n)) vs s refl (λ j t k. ap (slice_get (ins_of (op_at g n))) (z j) ∙ k) (sym (inputs_are g look n) ∙ e)

  -- one firing keeps it
  pub sound_plus : (look : Look) (m : ℕ) (r : Ready) (vs : List Value) → Sound g c i look (suc m) → In r.node (firing_children g c) → IsReady g look r → HaveTypes (functions g) vs (outs_of (op_at g r.node)) → Sound g c i (plus look r.node vs) m
  sound_plus look m r vs s k h t =
      let a = r.node in
      record {
        who = λ n f. elim (eqb_tells a n) [ inl e ↦ inl (subst (λ x. In x (firing_children g c)) e.1 k) | inr e ↦ s.who n (ap is_some (sym (plus_other look a vs n e.1)) ∙ f) ];
        typed = λ n us e. elim (eqb_tells a n) [
          | inl q ↦ subst (λ x. HaveTypes (functions g) x (outs_of (op_at g n))) (same_some (plus look a vs n) vs us (ap (plus look a vs) (sym q.1) ∙ plus_same look a vs) e) (subst (λ x. HaveTypes (functions g) vs (outs_of (op_at g x))) q.1 t)
          | inr q ↦ s.typed n us (sym (plus_other look a vs n q.1) ∙ e)
        ];
        closed = λ w iw f. has_plus look a vs w.from (elim (eqb_tells a w.to) [
          | inl q ↦ fed_by_fired look a r.ins (inl k) h.pulls w iw (sym q.1)
          | inr q ↦ s.closed w iw (ap is_some (sym (plus_other look a vs w.to q.1)) ∙ f)
        ]);
        closed_order = λ l il f. has_plus look a vs l.before (elim (eqb_tells a l.after) [
          | inl q ↦ orders_in (order_links g) look a l h.ordered il (sym q.1)
          | inr q ↦ s.closed_order l il (ap is_some (sym (plus_other look a vs l.after q.1)) ∙ f)
        ]);
        input = has_plus look a vs i s.input;
        count = let e = left_plus look a vs (firing_children g c) R.kids_once k h.fresh in let f = s.count in omega arith;
      }

  -- ---- something is ready
  missing_order : (ls : List Pair) (look : Look) (n : ℕ) → orders_done ls look n ≡ false → (l : Pair) × In l ls × (l.after ≡ n) × (has_fired look l.before ≡ false)
  missing_order [] look n e = absurd cc
  missing_order (l ∷ ls) look n e = go (eqb l.after n) (has_fired look l.before) refl refl e (λ q. missing_order ls look n q)
    where
      go : (x y : Bool) → eqb l.after n ≡ x → has_fired look l.before ≡ y → ((not x || y) && orders_done ls look n) ≡ false → (orders_done ls look n ≡ false → (k : Pair) × In k ls × (k.after ≡ n) × (has_fired look k.before ≡ false)) → (k : Pair) × In k (l ∷ ls) × (k.after ≡ n) × (has_fired look k.before ≡ false)
      go true false ex ey q rest = (l, inl refl, eqb-true l.after n ex, ey)
      go true true ex ey q rest = let r = rest q in (r.0, inr r.1, r.2, r.3)
      go false y ex ey q rest = let r = rest q in (r.0, inr r.1, r.2, r.3)

  missing_port : (ws : List Wire) (look : Look) (n p k : ℕ) → gathered ws look n p k ≡ None → (j : ℕ) × (j < p + k) × (along look (wire_into ws n j) ≡ None)
  missing_port ws look n p zero e = absurd cc
  missing_port ws look n p (suc k) e = go (along look (wire_into ws n p)) refl (gathered ws look n (suc p) k) refl e (λ q. missing_port ws look n (suc p) k q)
    where
      go : (x : Option Value) → along look (wire_into ws n p) ≡ x → (y : Option (List Value)) → gathered ws look n (suc p) k ≡ y → cons_both x y ≡ None → (gathered ws look n (suc p) k ≡ None → (j : ℕ) × (j < suc p + k) × (along look (wire_into ws n j) ≡ None)) → (j : ℕ) × (j < p + suc k) × (along look (wire_into ws n j) ≡ None)
      go None ex y ey q rest = (p, omega arith, ex)
      go (Some v) ex None ey q rest = let r = rest ey in (r.0, omega (arith, r.1), r.2)
      go (Some v) ex (Some vs) ey q rest = absurd cc

  not_ready : (look : Look) (m n : ℕ) → Sound g c i look m → In n (firing_children g c) → has_fired look n ≡ false → ready g c look ≡ [] → (z : ℕ) × Edge g z n × (has_fired look z ≡ false) × In z (firing_children g c)
  not_ready look m n s k f e = orders (orders_done (order_links g) look n) refl (inputs g look n) refl
    where
      kid_of : (z : ℕ) → has_fired look z ≡ false → In z (firing_children g c) ⊎ (z ≡ i) → In z (firing_children g c)
      kid_of z h (inl y) = y
      kid_of z h (inr y) = not_both (has_fired look z) (ap (has_fired look) y ∙ s.input) h

      unfed : (w : Wire) → In w (value_links g) → w.to ≡ n → along look (Some w) ≡ None → has_fired look w.from ≡ false
      unfed w iw t q =
          elim (has_cases look w.from) [
            | inr h ↦ h
            | inl h ↦ let us = has_outs look w.from h in let j = R.joins w iw in
                let u = has_at (functions g) us.0 (outs_of (op_at g w.from)) (s.typed w.from us.0 us.1) w.fp j.ty j.from_port in
                absurd (none_some (ap (λ x. value_at x w.fp) us.1 ∙ u.1) q)
          ]
        where
          none_some : {v : Value} → along look (Some w) ≡ Some v → along look (Some w) ≡ None → ⊥
          none_some p q = cc

      orders : (b : Bool) → orders_done (order_links g) look n ≡ b → (x : Option (List Value)) → inputs g look n ≡ x → (z : ℕ) × Edge g z n × (has_fired look z ≡ false) × In z (firing_children g c)
      orders false eb x ex =
          let l = missing_order (order_links g) look n eb in
          ((l.0).before, subst (Edge g (l.0).before) l.2 (pair_edge g l.0 l.1), l.3, kid_of (l.0).before l.3 (R.order_back l.0 l.1 (subst (λ x. In x (firing_children g c)) (sym l.2) k)))
      orders true eb (Some vs) ex = absurd (subst (In (record { node = n; ins = vs })) e (In-ready_back g c look (record { node = n; ins = vs }) k (record { fresh = f; ordered = eb; pulls = ex })))
      orders true eb None ex =
          let j = missing_port (value_links g) look n 0 (length (ins_of (op_at g n))) (sym (inputs_are g look n) ∙ ex) in
          let w = has_wire_into (value_links g) n j.0 (R.fed n j.0 (inl k) (omega (arith, j.1))) in
          let d = is_wire_into (value_links g) n j.0 w.0 w.1 in
          let u = unfed w.0 d.0 d.1 (sym (ap (along look) w.1) ∙ j.2) in
          ((w.0).from, subst (Edge g (w.0).from) d.1 (wire_edge g w.0 d.0), u, kid_of (w.0).from u (R.back w.0 d.0 (inl (subst (λ x. In x (firing_children g c)) (sym d.1) k))))

  pub some_ready : (look : Look) (m : ℕ) → Sound g c i look (suc m) → ready g c look ≡ [] → ⊥
  some_ready look m s e = go (yet_to_fire look (firing_children g c)) refl
    where
      in_left : (y : ℕ) → has_fired look y ≡ false → In y (firing_children g c) → In y (yet_to_fire look (firing_children g c))
      in_left y f k = In-filter_back (λ x. not (has_fired look x)) (firing_children g c) y k (ap not f)

      not_true : (b : Bool) → not b ≡ true → b ≡ false
      not_true true q = absurd cc
      not_true false q = refl

      go : (l : List ℕ) → yet_to_fire look (firing_children g c) ≡ l → ⊥
      go [] q = let a = ap length (sym q) ∙ s.count in absurd cc
      go (x ∷ xs) q =
          let r = circle (Path g) (λ a b d. joined) x xs (λ y iy.
          let f = In-filter (λ z. not (has_fired look z)) (firing_children g c) y (subst (In y) (sym q) iy) in
          let z = not_ready look (suc m) y s f.0 (not_true (has_fired look y) f.1) e in
          (z.0, subst (In z.0) q (in_left z.0 z.2 z.3), edge z.1)) in
          R.no_circle r.0 r.1

all_left : (look : Look) (ks : List ℕ) → ((k : ℕ) → In k ks → has_fired look k ≡ false) → length (yet_to_fire look ks) ≡ length ks
all_left look [] h = refl
all_left look (k ∷ ks) h = ap (λ b. length (cond (not b) (k ∷ yet_to_fire look ks) (yet_to_fire look ks))) (h k (inl refl)) ∙ ap suc (all_left look ks (λ j i. h j (inr i)))

module _ (g : Graph) (c i o : ℕ) (R : IsRegion g c i o) where
  start : List Value → Look
  start args = plus (λ n. None) i args

  only_input : (args : List Value) (n : ℕ) → has_fired (start args) n ≡ true → n ≡ i
  unfolding start
  only_input args n h = elim (eqb_tells i n) [ inl e ↦ sym e.1 | inr e ↦ not_both (has_fired (start args) n) h (ap is_some (plus_other (λ m. None) i args n e.1)) ]

  pub sound_start : (args : List Value) → HaveTypes (functions g) args (outs_of (op_at g i)) → Sound g c i (plus (λ n. None) i args) (length (firing_children g c))
  unfolding start
  sound_start args t =
      record {
        who = λ n h. inr (only_input args n h);
        typed = λ n vs e. let same = only_input args n (has_some (plus (λ m. None) i args) n vs e) in
            subst (λ x. HaveTypes (functions g) x (outs_of (op_at g n))) (same_some (plus (λ m. None) i args n) args vs (ap (plus (λ m. None) i args) same ∙ plus_same (λ m. None) i args) e) (subst (λ m. HaveTypes (functions g) args (outs_of (op_at g m))) (sym same) t);
        closed = λ w iw h. absurd (R.no_into w iw (only_input args w.to h));
        closed_order = λ l il h. absurd (R.no_order_into l il (only_input args l.after h));
        input = has_some (plus (λ m. None) i args) i args (plus_same (λ m. None) i args);
        count = all_left (plus (λ m. None) i args) (firing_children g c) (λ k ik. ap is_some (plus_other (λ m. None) i args k (λ q. R.not_i (subst (λ x. In x (firing_children g c)) (sym q) ik))));
      }

module _ (g : Graph) (c i o : ℕ) (R : IsRegion g c i o) where
  -- where all has fired, Output has its inputs
  pub all_fed : (look : Look) → Sound g c i look 0 → (vs : List Value) × (inputs g look o ≡ Some vs)
  all_fed look s = let r = go (gathered (value_links g) look o 0 (length (ins_of (op_at g o)))) refl in (r.0, inputs_are g look o ∙ r.1)
    where
      fired : (n : ℕ) → In n (firing_children g c) ⊎ (n ≡ i) → has_fired look n ≡ true
      fired n (inl k) = none_left look (firing_children g c) n k s.count
      fired n (inr e) = ap (has_fired look) e ∙ s.input

      none_some : {v : Value} (w : Wire) → along look (Some w) ≡ Some v → along look (Some w) ≡ None → ⊥
      none_some w p q = cc

      go : (x : Option (List Value)) → gathered (value_links g) look o 0 (length (ins_of (op_at g o))) ≡ x → (vs : List Value) × (gathered (value_links g) look o 0 (length (ins_of (op_at g o))) ≡ Some vs)
      go (Some vs) e = (vs, e)
      go None e =
          let j = missing_port g c i o R (value_links g) look o 0 (length (ins_of (op_at g o))) e in
          let w = has_wire_into (value_links g) o j.0 (R.fed o j.0 (inr refl) (omega (arith, j.1))) in
          let d = is_wire_into (value_links g) o j.0 w.0 w.1 in
          let us = has_outs look (w.0).from (fired (w.0).from (R.back w.0 d.0 (inr d.1))) in
          let j' = R.joins w.0 d.0 in
          let u = has_at (functions g) us.0 (outs_of (op_at g (w.0).from)) (s.typed (w.0).from us.0 us.1) (w.0).fp j'.ty j'.from_port in
          absurd (none_some w.0 (ap (λ x. value_at x (w.0).fp) us.1 ∙ u.1) (sym (ap (along look) w.1) ∙ j.2))
