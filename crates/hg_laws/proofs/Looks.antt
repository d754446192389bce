-- What a region has so far: inputs, readiness, and what one more firing changes.
use Rattle.std.proofs.Common.{◌≡◌, ◌≢◌, ◌⊎◌, inl, inr, ⊎_elim, ℕ, zero, suc, ◌+◌, Bool, true, false, cond, not, ◌&&◌, ◌||◌, eqb, List, [], ◌∷◌, length, Option, Some, None, is_some, refl, sym, ap, ap₂, ◌∙◌, subst, arith}
use Rattle.std.specs.Prelude.{slice_get}
use Rattle.std.proofs.lemmas.Bool.Decides.{eqb_tells}
use Rattle.std.proofs.lemmas.Bool.{eqb-true, eq-eqb}
use Rattle.hg_ops.specs.Op.{ins_of}
use Rattle.gp_base.specs.Membership.{In}
use Rattle.hg_graph.specs.Graph.{Graph, op_at, firing_children}
use Rattle.hg_graph.specs.Run.{Look, has_fired, value_at, cons_both, inputs, orders_kept, Ready, with_inputs, candidate, ready}
use Rattle.hg_graph.specs.Value.{Value}
use Rattle.hg_laws.proofs.Lists.{In-filter_map, In-filter_map_back}
use Rattle.hg_laws.proofs.Wires.{Wire, Pair, value_links, order_links, wire_into, wires_into, along, gathered, orders_done, inputs_are, orders_are}

-- one more has fired
abbrev pub plus : Look → ℕ → List Value → Look
plus look a vs n = cond (eqb a n) (Some vs) (look n)

pub plus_same : (look : Look) (a : ℕ) (vs : List Value) → plus look a vs a ≡ Some vs
plus_same look a vs = ap (λ b. cond b (Some vs) (look a)) (eq-eqb a a refl)

pub eqb_no : (a b : ℕ) → a ≢ b → eqb a b ≡ false
eqb_no a b ne = ⊎_elim (λ e. absurd (ne e.1)) (λ e. e.0) (eqb_tells a b)

pub plus_other : (look : Look) (a : ℕ) (vs : List Value) (n : ℕ) → a ≢ n → plus look a vs n ≡ look n
plus_other look a vs n ne = ap (λ b. cond b (Some vs) (look n)) (eqb_no a n ne)

pub has_some : (look : Look) (n : ℕ) (vs : List Value) → look n ≡ Some vs → has_fired look n ≡ true
has_some look n vs e = ap is_some e

pub has_none : (look : Look) (n : ℕ) → has_fired look n ≡ false → look n ≡ None
has_none look n e = go (look n) e
  where
    go : (o : Option (List Value)) → is_some o ≡ false → o ≡ None
    go None e = refl
    go (Some vs) e = absurd cc

pub has_outs : (look : Look) (n : ℕ) → has_fired look n ≡ true → (vs : List Value) × (look n ≡ Some vs)
has_outs look n e = go (look n) e
  where
    go : (o : Option (List Value)) → is_some o ≡ true → (vs : List Value) × (o ≡ Some vs)
    go None e = absurd cc
    go (Some vs) e = (vs, refl)

pub has_cases : (look : Look) (n : ℕ) → (has_fired look n ≡ true) ⊎ (has_fired look n ≡ false)
has_cases look n = bool (has_fired look n)
  where
    bool : (b : Bool) → (b ≡ true) ⊎ (b ≡ false)
    bool true = inl refl
    bool false = inr refl

pub not_both : {A : Type 0} (b : Bool) → b ≡ true → b ≡ false → A
not_both b t f = absurd cc

-- what has fired stays so
pub has_plus : (look : Look) (a : ℕ) (vs : List Value) (n : ℕ) → has_fired look n ≡ true → has_fired (plus look a vs) n ≡ true
has_plus look a vs n h = go (eqb a n)
  where
    go : (b : Bool) → is_some (cond b (Some vs) (look n)) ≡ true
    go true = refl
    go false = h

pub plus_swap : (look : Look) (a b : ℕ) (us vs : List Value) → a ≢ b → (n : ℕ) → plus (plus look a us) b vs n ≡ plus (plus look b vs) a us n
plus_swap look a b us vs ne n =
    elim (eqb_tells a n) [
      | inl e ↦ let no : b ≢ n = λ x. ne (e.1 ∙ sym x) in
          plus_other (plus look a us) b vs n no ∙ subst (λ m. plus look a us m ≡ plus (plus look b vs) a us m) e.1 (plus_same look a us ∙ sym (plus_same (plus look b vs) a us))
      | inr e ↦ ap (λ o. cond (eqb b n) (Some vs) o) (plus_other look a us n e.1) ∙ sym (plus_other (plus look b vs) a us n e.1)
    ]

-- ---- feeders
and_true : (a b : Bool) → (a && b) ≡ true → (a ≡ true) × (b ≡ true)
and_true true b e = (refl, e)
and_true false b e = absurd cc

pub is_wire_into : (ws : List Wire) (n p : ℕ) (w : Wire) → wire_into ws n p ≡ Some w → In w ws × (w.to ≡ n) × (w.tp ≡ p)
is_wire_into [] n p w e = absurd cc
is_wire_into (v ∷ ws) n p w e = go (eqb v.to n && eqb v.tp p) refl e (λ h. is_wire_into ws n p w h)
  where
    some_is : (x y : Wire) → Some x ≡ Some y → x ≡ y
    some_is x y q = cc

    go : (b : Bool) → (eqb v.to n && eqb v.tp p) ≡ b → cond b (Some v) (wire_into ws n p) ≡ Some w → (wire_into ws n p ≡ Some w → In w ws × (w.to ≡ n) × (w.tp ≡ p)) → In w (v ∷ ws) × (w.to ≡ n) × (w.tp ≡ p)
    go true t h rest =
        let both = and_true (eqb v.to n) (eqb v.tp p) t in
        let same = some_is v w h in
        (inl (sym same), ap (λ x. x.to) (sym same) ∙ eqb-true v.to n both.0, ap (λ x. x.tp) (sym same) ∙ eqb-true v.tp p both.1)
    go false t h rest = let r = rest h in (inr r.0, r.1, r.2)

pub has_wire_into : (ws : List Wire) (n p : ℕ) → wires_into ws n p ≡ 1 → (w : Wire) × (wire_into ws n p ≡ Some w)
has_wire_into [] n p e = absurd (omega arith)
has_wire_into (v ∷ ws) n p e = go (eqb v.to n && eqb v.tp p) e (λ h. has_wire_into ws n p h)
  where
    go : (b : Bool) → cond b 1 0 + wires_into ws n p ≡ 1 → (wires_into ws n p ≡ 1 → (w : Wire) × (wire_into ws n p ≡ Some w)) → (w : Wire) × (cond b (Some v) (wire_into ws n p) ≡ Some w)
    go true h rest = (v, refl)
    go false h rest = rest (omega arith)

-- ---- inputs
pub both_some : (o : Option Value) (r : Option (List Value)) (vs : List Value) → cons_both o r ≡ Some vs → (u : Value) × (us : List Value) × (o ≡ Some u) × (r ≡ Some us) × (vs ≡ u ∷ us)
both_some None r vs e = absurd cc
both_some (Some u) None vs e = absurd cc
both_some (Some u) (Some us) vs e = (u, us, refl, refl, cc)

pub along_some : (look : Look) (o : Option Wire) (v : Value) → along look o ≡ Some v → (w : Wire) × (us : List Value) × (o ≡ Some w) × (look w.from ≡ Some us) × (slice_get us w.fp ≡ Some v)
along_some look None v e = absurd cc
along_some look (Some w) v e = go (look w.from) refl e
  where
    go : (r : Option (List Value)) → look w.from ≡ r → value_at r w.fp ≡ Some v → (x : Wire) × (us : List Value) × (Some w ≡ Some x) × (look x.from ≡ Some us) × (slice_get us x.fp ≡ Some v)
    go None q h = absurd cc
    go (Some us) q h = (w, us, refl, q, h)

-- a larger look gives the same inputs
pub gathered_grows : (ws : List Wire) (look more : Look) (n p k : ℕ) (vs : List Value) → ((m : ℕ) (us : List Value) → look m ≡ Some us → more m ≡ Some us) → gathered ws look n p k ≡ Some vs → gathered ws more n p k ≡ Some vs
gathered_grows ws look more n p zero vs g e = e
gathered_grows ws look more n p (suc k) vs g e =
    let b = both_some (along look (wire_into ws n p)) (gathered ws look n (suc p) k) vs e in
    let a = along_some look (wire_into ws n p) b.0 b.2 in
    let one : along more (wire_into ws n p) ≡ Some b.0 = ap (along more) a.2 ∙ ap (λ o. value_at o (a.0).fp) (g (a.0).from a.1 a.3) ∙ a.4 in
    let rest = gathered_grows ws look more n (suc p) k b.1 g b.3 in
    ap₂ cons_both one rest ∙ ap Some (sym b.4)

pub orders_grow : (ls : List Pair) (look more : Look) (n : ℕ) → ((m : ℕ) → has_fired look m ≡ true → has_fired more m ≡ true) → orders_done ls look n ≡ true → orders_done ls more n ≡ true
orders_grow [] look more n g e = refl
orders_grow (l ∷ ls) look more n g e =
    let b = and_true (not (eqb l.after n) || has_fired look l.before) (orders_done ls look n) e in
    ap₂ ◌&&◌ (go (not (eqb l.after n)) b.0) (orders_grow ls look more n g b.1)
  where
    go : (c : Bool) → (c || has_fired look l.before) ≡ true → (c || has_fired more l.before) ≡ true
    go true h = refl
    go false h = g l.before h

pub orders_in : (ls : List Pair) (look : Look) (n : ℕ) (l : Pair) → orders_done ls look n ≡ true → In l ls → l.after ≡ n → has_fired look l.before ≡ true
orders_in [] look n l e i a = absurd i
orders_in (o ∷ ls) look n l e (inl s) a =
    let b = and_true (not (eqb o.after n) || has_fired look o.before) (orders_done ls look n) e in
    let here : eqb o.after n ≡ true = eq-eqb o.after n (ap (λ x. x.after) (sym s) ∙ a) in
    ap (λ x. has_fired look x.before) s ∙ (sym (ap (λ c. not c || has_fired look o.before) here) ∙ b.0)
orders_in (o ∷ ls) look n l e (inr i) a = orders_in ls look n l (and_true (not (eqb o.after n) || has_fired look o.before) (orders_done ls look n) e).1 i a

-- ---- what is ready
pub record IsReady (g : Graph) (look : Look) (r : Ready) : Type 0 where
  pub fresh : has_fired look r.node ≡ false
  pub ordered : orders_done (order_links g) look r.node ≡ true
  pub pulls : inputs g look r.node ≡ Some r.ins

cond_ready : (g : Graph) (look : Look) (n : ℕ) (r : Ready) (b c : Bool) (o : Option (List Value)) → has_fired look n ≡ b → orders_done (order_links g) look n ≡ c → inputs g look n ≡ o → cond b None (cond c (with_inputs n o) None) ≡ Some r → (n ≡ r.node) × IsReady g look r
cond_ready g look n r true c o eb ec eo e = absurd cc
cond_ready g look n r false false o eb ec eo e = absurd cc
cond_ready g look n r false true None eb ec eo e = absurd cc
cond_ready g look n r false true (Some vs) eb ec eo e =
    let s = some_is (record { node = n; ins = vs }) r e in
    (ap (λ x. x.node) s, subst (IsReady g look) s (record { fresh = eb; ordered = ec; pulls = eo }))
  where
    some_is : (x y : Ready) → Some x ≡ Some y → x ≡ y
    some_is x y q = cc

pub candidate_is : (g : Graph) (look : Look) (n : ℕ) (r : Ready) → candidate g look n ≡ Some r → (n ≡ r.node) × IsReady g look r
unfolding candidate
candidate_is g look n r e = cond_ready g look n r (has_fired look n) (orders_kept g.links look n) (inputs g look n) refl (sym (orders_are g look n)) refl e

pub is_candidate : (g : Graph) (look : Look) (r : Ready) → IsReady g look r → candidate g look r.node ≡ Some r
unfolding candidate
is_candidate g look r h =
    ap (λ b. cond b None (cond (orders_kept g.links look r.node) (with_inputs r.node (inputs g look r.node)) None)) h.fresh
    ∙ ap (λ b. cond b (with_inputs r.node (inputs g look r.node)) None) (orders_are g look r.node ∙ h.ordered)
    ∙ ap (with_inputs r.node) h.pulls

pub In-ready : (g : Graph) (c : ℕ) (look : Look) (r : Ready) → In r (ready g c look) → In r.node (firing_children g c) × IsReady g look r
unfolding ready
In-ready g c look r i =
    let f = In-filter_map (candidate g look) (firing_children g c) r i in
    let s = candidate_is g look f.0 r f.2 in
    (subst (λ n. In n (firing_children g c)) s.0 f.1, s.1)

pub In-ready_back : (g : Graph) (c : ℕ) (look : Look) (r : Ready) → In r.node (firing_children g c) → IsReady g look r → In r (ready g c look)
unfolding ready
In-ready_back g c look r i h = In-filter_map_back (candidate g look) (firing_children g c) r.node r i (is_candidate g look r h)

-- another one that is ready stays so
pub stays_ready : (g : Graph) (look : Look) (r : Ready) (a : ℕ) (vs : List Value) → has_fired look a ≡ false → a ≢ r.node → IsReady g look r → IsReady g (plus look a vs) r
stays_ready g look r a vs fresh ne h =
    let none = has_none look a fresh in
    record {
      fresh = ap is_some (plus_other look a vs r.node ne) ∙ h.fresh;
      ordered = orders_grow (order_links g) look (plus look a vs) r.node (has_plus look a vs) h.ordered;
      pulls = inputs_are g (plus look a vs) r.node ∙ gathered_grows (value_links g) look (plus look a vs) r.node 0 (length (ins_of (op_at g r.node))) r.ins (λ m us e. plus_other look a vs m (λ q. none_some (ap look q ∙ e) none) ∙ e) (sym (inputs_are g look r.node) ∙ h.pulls);
    }
  where
    none_some : {us : List Value} → look a ≡ Some us → look a ≡ None → ⊥
    none_some p q = cc
