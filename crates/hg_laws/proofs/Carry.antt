-- Qubits on links: what a region holds, and what one firing does to it.
use Rattle.std.proofs.Common.{◌≡◌, ◌≢◌, ◌⊎◌, inl, inr, ⊎_elim, ℕ, zero, suc, ◌+◌, ◌<◌, Bool, true, false, cond, ◌&&◌, ◌||◌, eqb, List, [], ◌∷◌, length, Option, Some, None, is_some, refl, sym, ap, ap₂, ◌∙◌, subst, arith}
use Rattle.std.specs.Prelude.{slice_get}
use Rattle.std.proofs.lemmas.Bool.Decides.{eqb_tells}
use Rattle.std.proofs.lemmas.Bool.{eqb-true, eq-eqb}
use Rattle.hg_ops.specs.GraphType.{GraphType, is_linear}
use Rattle.hg_ops.specs.Op.{ins_of, outs_of}
use Rattle.gp_base.specs.Membership.{In}
use Rattle.hg_graph.specs.Graph.{Graph, op_at, firing_children}
use Rattle.hg_graph.specs.Moments.{has_read}
use Rattle.hg_graph.specs.Run.{Fired, Open, Look, outs_at, has_fired, value_at, inputs, Ready}
use Rattle.hg_graph.specs.Value.{Value, HasType, HaveTypes, functions, uses_all}
use Rattle.hg_laws.proofs.Lists.{total, total_four, total_same, total_zero, ports, ports-zero, ports-suc, ports_same, by_ports}
use Rattle.hg_laws.proofs.Values.{has_at, have_length, copyable_uses, uses_option, uses_ports}
use Rattle.hg_laws.proofs.Wires.{Wire, value_links, wire_into, wires_into, wires_from, along, gathered, inputs_are}
use Rattle.hg_laws.proofs.Looks.{plus, plus_same, plus_other, eqb_no, has_some, has_none, has_cases, not_both, both_some, IsReady}
use Rattle.hg_laws.proofs.Flow.{IsRegion, Sound, fed_by_fired, none_left}

-- how often the qubit stands at the source of the link, where its target has not fired
abbrev pub carried : ℕ → Look → Wire → ℕ
carried q look w = cond (has_fired look w.to) 0 (uses_option q (along look (Some w)))

-- how often the region holds it
unfoldable pub held : ℕ → Look → List Wire → ℕ
held q look ws = total (carried q look) ws

-- what a node takes in over its links, and what it gives out
abbrev taken : ℕ → Look → ℕ → Wire → ℕ
taken q look a w = cond (eqb w.to a) (uses_option q (along look (Some w))) 0

abbrev given : ℕ → ℕ → List Value → Wire → ℕ
given q a vs w = cond (eqb w.from a) (uses_option q (slice_get vs w.fp)) 0

-- ---- sums over the links of one port
none_into : (f : Wire → ℕ) (ws : List Wire) (n j : ℕ) → wires_into ws n j ≡ 0 → total (λ w. cond (eqb w.to n && eqb w.tp j) (f w) 0) ws ≡ 0
unfolding total
none_into f [] n j e = refl
none_into f (w ∷ ws) n j e = go (eqb w.to n && eqb w.tp j) e (λ q. none_into f ws n j q)
  where
    go : (b : Bool) → cond b 1 0 + wires_into ws n j ≡ 0 → (wires_into ws n j ≡ 0 → total (λ w. cond (eqb w.to n && eqb w.tp j) (f w) 0) ws ≡ 0) → cond b (f w) 0 + total (λ w. cond (eqb w.to n && eqb w.tp j) (f w) 0) ws ≡ 0
    go true q r = absurd (omega arith)
    go false q r = let x = r (omega arith) in omega arith

one_into : (q : ℕ) (look : Look) (ws : List Wire) (n j : ℕ) → wires_into ws n j ≡ 1 → total (λ w. cond (eqb w.to n && eqb w.tp j) (uses_option q (along look (Some w))) 0) ws ≡ uses_option q (along look (wire_into ws n j))
unfolding total
one_into q look [] n j e = absurd (omega arith)
one_into q look (w ∷ ws) n j e = go (eqb w.to n && eqb w.tp j) e (λ h. one_into q look ws n j h)
  where
    go : (b : Bool) → cond b 1 0 + wires_into ws n j ≡ 1 → (wires_into ws n j ≡ 1 → total (λ w. cond (eqb w.to n && eqb w.tp j) (uses_option q (along look (Some w))) 0) ws ≡ uses_option q (along look (wire_into ws n j))) → cond b (uses_option q (along look (Some w))) 0 + total (λ w. cond (eqb w.to n && eqb w.tp j) (uses_option q (along look (Some w))) 0) ws ≡ uses_option q (along look (cond b (Some w) (wire_into ws n j)))
    go true h r = let z = none_into (λ x. uses_option q (along look (Some x))) ws n j (omega arith) in omega arith
    go false h r = let x = r (omega arith) in omega arith

zero_from : (f : ℕ → ℕ) (ws : List Wire) (n j : ℕ) → f j ≡ 0 → total (λ w. cond (eqb w.from n && eqb w.fp j) (f w.fp) 0) ws ≡ 0
zero_from f ws n j e = total_zero (λ w. cond (eqb w.from n && eqb w.fp j) (f w.fp) 0) ws (λ w i. go w (eqb w.from n) (eqb_tells w.fp j))
  where
    go : (w : Wire) (b : Bool) → ((eqb w.fp j ≡ true) × (w.fp ≡ j)) ⊎ ((eqb w.fp j ≡ false) × (w.fp ≢ j)) → cond (b && eqb w.fp j) (f w.fp) 0 ≡ 0
    go w false h = refl
    go w true (inl h) = ap (λ z. cond z (f w.fp) 0) h.0 ∙ ap f h.1 ∙ e
    go w true (inr h) = ap (λ z. cond z (f w.fp) 0) h.0

none_from : (f : ℕ → ℕ) (ws : List Wire) (n j : ℕ) → wires_from ws n j ≡ 0 → total (λ w. cond (eqb w.from n && eqb w.fp j) (f w.fp) 0) ws ≡ 0
unfolding total
none_from f [] n j e = refl
none_from f (w ∷ ws) n j e = go (eqb w.from n && eqb w.fp j) e (λ q. none_from f ws n j q)
  where
    go : (b : Bool) → cond b 1 0 + wires_from ws n j ≡ 0 → (wires_from ws n j ≡ 0 → total (λ w. cond (eqb w.from n && eqb w.fp j) (f w.fp) 0) ws ≡ 0) → cond b (f w.fp) 0 + total (λ w. cond (eqb w.from n && eqb w.fp j) (f w.fp) 0) ws ≡ 0
    go true q r = absurd (omega arith)
    go false q r = let x = r (omega arith) in omega arith

one_from : (f : ℕ → ℕ) (ws : List Wire) (n j : ℕ) → wires_from ws n j ≡ 1 → total (λ w. cond (eqb w.from n && eqb w.fp j) (f w.fp) 0) ws ≡ f j
unfolding total
one_from f [] n j e = absurd (omega arith)
one_from f (w ∷ ws) n j e = go (eqb w.from n) (eqb_tells w.fp j) e (λ q. one_from f ws n j q)
  where
    rest : ℕ
    rest = total (λ w. cond (eqb w.from n && eqb w.fp j) (f w.fp) 0) ws

    no : (b : Bool) → b ≡ false → cond b 1 0 + wires_from ws n j ≡ 1 → (wires_from ws n j ≡ 1 → rest ≡ f j) → cond b (f w.fp) 0 + rest ≡ f j
    no true h c r = absurd cc
    no false h c r = let x = r (omega arith) in omega arith

    yes : (b : Bool) → b ≡ true → w.fp ≡ j → cond b 1 0 + wires_from ws n j ≡ 1 → cond b (f w.fp) 0 + rest ≡ f j
    yes false h s c = absurd cc
    yes true h s c = let z : rest ≡ 0 = none_from f ws n j (omega arith) in let y : f w.fp ≡ f j = ap f s in omega arith

    go : (b : Bool) → ((eqb w.fp j ≡ true) × (w.fp ≡ j)) ⊎ ((eqb w.fp j ≡ false) × (w.fp ≢ j)) → cond (b && eqb w.fp j) 1 0 + wires_from ws n j ≡ 1 → (wires_from ws n j ≡ 1 → rest ≡ f j) → cond (b && eqb w.fp j) (f w.fp) 0 + rest ≡ f j
    go false h c r = no false refl c r
    go true (inl h) c r = yes (eqb w.fp j) h.0 h.1 c
    go true (inr h) c r = no (eqb w.fp j) h.0 c r

gathered_uses : (q : ℕ) (ws : List Wire) (look : Look) (n p k : ℕ) (vs : List Value) → gathered ws look n p k ≡ Some vs → ports (λ j. uses_option q (along look (wire_into ws n j))) p k ≡ uses_all q vs
gathered_uses q ws look n p zero vs e = ports-zero (λ j. uses_option q (along look (wire_into ws n j))) p ∙ ap (uses_all q) (is [] vs e)
  where
    is : (x y : List Value) → Some x ≡ Some y → x ≡ y
    is x y h = cc
gathered_uses q ws look n p (suc k) vs e =
    let b = both_some (along look (wire_into ws n p)) (gathered ws look n (suc p) k) vs e in
    ports-suc (λ j. uses_option q (along look (wire_into ws n j))) p k
    ∙ (ap₂ ◌+◌ (ap (uses_option q) b.2) (gathered_uses q ws look n (suc p) k b.1 b.3) ∙ ap (uses_all q) (sym b.4))

within : {A : Type 0} (xs : List A) (p : ℕ) (x : A) → slice_get xs p ≡ Some x → p < length xs
within [] p x e = absurd cc
within (y ∷ xs) zero x e = omega arith
within (y ∷ xs) (suc p) x e = let r = within xs p x e in omega arith

there_is : {A : Type 0} (xs : List A) (p : ℕ) → p < length xs → (x : A) × (slice_get xs p ≡ Some x)
there_is [] p l = absurd (omega arith)
there_is (x ∷ xs) zero l = (x, refl)
there_is (x ∷ xs) (suc p) l = there_is xs p (omega arith)

module _ (g : Graph) (c i o : ℕ) (R : IsRegion g c i o) (q : ℕ) where
  all_taken : (look : Look) (n : ℕ) (vs : List Value) → In n (firing_children g c) ⊎ (n ≡ o) → inputs g look n ≡ Some vs → total (taken q look n) (value_links g) ≡ uses_all q vs
  all_taken look n vs k e₀ =
      let e = sym (inputs_are g look n) ∙ e₀ in
      let len = length (ins_of (op_at g n)) in
      by_ports (λ w. eqb w.to n) (λ w. w.tp) (λ w. uses_option q (along look (Some w))) len (value_links g) (λ w iw t. let j = R.joins w iw in subst (λ m. w.tp < length (ins_of (op_at g m))) (eqb-true w.to n t) (within (ins_of (op_at g w.to)) w.tp j.ty j.to_port))
      ∙ (ports_same _ (λ j. uses_option q (along look (wire_into (value_links g) n j))) 0 len (λ j _ l. one_into q look (value_links g) n j (R.fed n j k (omega arith)))
      ∙ gathered_uses q (value_links g) look n 0 len vs e)

  all_given : (n : ℕ) (vs : List Value) → In n (firing_children g c) ⊎ (n ≡ i) → HaveTypes (functions g) vs (outs_of (op_at g n)) → total (given q n vs) (value_links g) ≡ uses_all q vs
  all_given n vs k h =
      let len = length (outs_of (op_at g n)) in
      let f = λ (j : ℕ). uses_option q (slice_get vs j) in
      let same : length vs ≡ len = have_length (functions g) vs (outs_of (op_at g n)) h in
      by_ports (λ w. eqb w.from n) (λ w. w.fp) (λ w. f w.fp) len (value_links g) (λ w iw t. let j = R.joins w iw in subst (λ m. w.fp < length (outs_of (op_at g m))) (eqb-true w.from n t) (within (outs_of (op_at g w.from)) w.fp j.ty j.from_port))
      ∙ (ports_same _ f 0 len (λ j _ l. each j (omega arith))
      ∙ (ap (ports f 0) (sym same) ∙ uses_ports q vs))
    where
      each : (j : ℕ) → j < length (outs_of (op_at g n)) → total (λ w. cond (eqb w.from n && eqb w.fp j) (uses_option q (slice_get vs w.fp)) 0) (value_links g) ≡ uses_option q (slice_get vs j)
      each j l =
          let t = there_is (outs_of (op_at g n)) j l in
          let v = has_at (functions g) vs (outs_of (op_at g n)) h j t.0 t.1 in
          lin (is_linear t.0) refl t.0 t.1 refl v.0 v.1 v.2
        where
          lin : (b : Bool) → b ≡ b → (t : GraphType) → slice_get (outs_of (op_at g n)) j ≡ Some t → b ≡ b → (v : Value) → slice_get vs j ≡ Some v → HasType (functions g) v t → total (λ w. cond (eqb w.from n && eqb w.fp j) (uses_option q (slice_get vs w.fp)) 0) (value_links g) ≡ uses_option q (slice_get vs j)
          lin b _ t e _ v ev hv = split (is_linear t) refl
            where
              split : (x : Bool) → is_linear t ≡ x → total (λ w. cond (eqb w.from n && eqb w.fp j) (uses_option q (slice_get vs w.fp)) 0) (value_links g) ≡ uses_option q (slice_get vs j)
              split true x = one_from (λ m. uses_option q (slice_get vs m)) (value_links g) n j (R.spent n j t k e x)
              split false x =
                  let z : uses_option q (slice_get vs j) ≡ 0 = ap (uses_option q) ev ∙ copyable_uses (functions g) q v t hv x in
                  zero_from (λ m. uses_option q (slice_get vs m)) (value_links g) n j z ∙ sym z

  -- nothing of a node that has not fired
  not_along : (look : Look) (w : Wire) → has_fired look w.from ≡ false → uses_option q (along look (Some w)) ≡ 0
  not_along look w f = ap (λ x. uses_option q (value_at x w.fp)) (has_none look w.from f)

  -- one firing
  pub held_plus : (look : Look) (m : ℕ) (r : Ready) (vs : List Value) → Sound g c i look (suc m) → In r.node (firing_children g c) → IsReady g look r → HaveTypes (functions g) vs (outs_of (op_at g r.node)) → held q (plus look r.node vs) (value_links g) + uses_all q r.ins ≡ held q look (value_links g) + uses_all q vs
  unfolding held
  held_plus look m r vs s k h t =
      let sums = total_four (carried q (plus look r.node vs)) (taken q look r.node) (carried q look) (given q r.node vs) (value_links g) (λ w iw. each w iw (eqb_tells r.node w.to) (eqb_tells r.node w.from)) in
      let a = all_taken look r.node r.ins (inl k) h.pulls in
      let b = all_given r.node vs (inl k) t in
      ap (λ z. total (carried q (plus look r.node vs)) (value_links g) + z) (sym a) ∙ (sums ∙ ap (λ z. total (carried q look) (value_links g) + z) b)
    where
      sides : (x y u v : ℕ) (x' y' u' v' : ℕ) → x ≡ x' → y ≡ y' → u ≡ u' → v ≡ v' → x' + y' ≡ u' + v' → x + y ≡ u + v
      sides x y u v x' y' u' v' a b c' d e = omega arith

      back_eqb : (x y : ℕ) → x ≡ y → eqb y x ≡ true
      back_eqb x y e = eq-eqb y x (sym e)

      each : (w : Wire) → In w (value_links g) → ((eqb r.node w.to ≡ true) × (r.node ≡ w.to)) ⊎ ((eqb r.node w.to ≡ false) × (r.node ≢ w.to)) → ((eqb r.node w.from ≡ true) × (r.node ≡ w.from)) ⊎ ((eqb r.node w.from ≡ false) × (r.node ≢ w.from)) → carried q (plus look r.node vs) w + taken q look r.node w ≡ carried q look w + given q r.node vs w
      each w iw (inl a) (inl b) =
          not_both (has_fired look w.from) (fed_by_fired g c i o R look r.node r.ins (inl k) h.pulls w iw (sym a.1)) (ap (has_fired look) (sym b.1) ∙ h.fresh)
      each w iw (inl a) (inr b) =
          let x = uses_option q (along look (Some w)) in
          let z = uses_option q (along (plus look r.node vs) (Some w)) in
          sides _ _ _ _ 0 x x 0
          (ap (λ y. cond y 0 z) (has_some (plus look r.node vs) w.to vs (ap (plus look r.node vs) (sym a.1) ∙ plus_same look r.node vs)))
          (ap (λ y. cond y x 0) (back_eqb r.node w.to a.1))
          (ap (λ y. cond y 0 x) (ap (has_fired look) (sym a.1) ∙ h.fresh))
          (ap (λ y. cond y (uses_option q (slice_get vs w.fp)) 0) (eqb_no w.from r.node (λ e. b.1 (sym e))))
          (omega arith)
      each w iw (inr a) (inl b) =
          let x = uses_option q (slice_get vs w.fp) in
          let gone : has_fired look w.from ≡ false = ap (has_fired look) (sym b.1) ∙ h.fresh in
          let still : has_fired look w.to ≡ false = elim (has_cases look w.to) [ inl e ↦ not_both (has_fired look w.from) (s.closed w iw e) gone | inr e ↦ e ] in
          let off = not_along look w gone in
          sides _ _ _ _ x 0 0 x
          (ap₂ (λ y u. cond y 0 (uses_option q (value_at u w.fp))) (ap is_some (plus_other look r.node vs w.to a.1) ∙ still) (ap (plus look r.node vs) (sym b.1) ∙ plus_same look r.node vs))
          (ap (λ y. cond y (uses_option q (along look (Some w))) 0) (eqb_no w.to r.node (λ e. a.1 (sym e))))
          (ap (λ y. cond y 0 (uses_option q (along look (Some w)))) still ∙ off)
          (ap (λ y. cond y x 0) (back_eqb r.node w.from b.1))
          (omega arith)
      each w iw (inr a) (inr b) =
          let x = cond (has_fired look w.to) 0 (uses_option q (along look (Some w))) in
          sides _ _ _ _ x 0 x 0
          (ap₂ (λ y u. cond (is_some y) 0 (uses_option q (value_at u w.fp))) (plus_other look r.node vs w.to a.1) (plus_other look r.node vs w.from b.1))
          (ap (λ y. cond y (uses_option q (along look (Some w))) 0) (eqb_no w.to r.node (λ e. a.1 (sym e))))
          refl
          (ap (λ y. cond y (uses_option q (slice_get vs w.fp)) 0) (eqb_no w.from r.node (λ e. b.1 (sym e))))
          (omega arith)

  -- at the start a region holds its arguments, and at its end its results
  pub held_start : (args : List Value) → HaveTypes (functions g) args (outs_of (op_at g i)) → held q (plus (λ n. None) i args) (value_links g) ≡ uses_all q args
  unfolding held
  held_start args h = total_same (carried q (plus (λ n. None) i args)) (given q i args) (value_links g) (λ w iw. each w iw (eqb_tells i w.from)) ∙ all_given i args (inr refl) h
    where
      each : (w : Wire) → In w (value_links g) → ((eqb i w.from ≡ true) × (i ≡ w.from)) ⊎ ((eqb i w.from ≡ false) × (i ≢ w.from)) → carried q (plus (λ n. None) i args) w ≡ given q i args w
      each w iw (inl b) =
          ap₂ (λ y u. cond (is_some y) 0 (uses_option q (value_at u w.fp))) (plus_other (λ n. None) i args w.to (λ e. R.no_into w iw (sym e))) (ap (plus (λ n. None) i args) (sym b.1) ∙ plus_same (λ n. None) i args)
          ∙ sym (ap (λ y. cond y (uses_option q (slice_get args w.fp)) 0) (eq-eqb w.from i (sym b.1)))
      each w iw (inr b) =
          ap (λ y. cond (has_fired (plus (λ n. None) i args) w.to) 0 (uses_option q (value_at y w.fp))) (plus_other (λ n. None) i args w.from b.1) ∙ (zero_cond (has_fired (plus (λ n. None) i args) w.to)
          ∙ sym (ap (λ y. cond y (uses_option q (slice_get args w.fp)) 0) (eqb_no w.from i (λ e. b.1 (sym e)))))
        where
          zero_cond : (b : Bool) → ◌≡◌ {A = ℕ} (cond b 0 0) 0
          zero_cond true = refl
          zero_cond false = refl

  pub held_end : (look : Look) (vs : List Value) → Sound g c i look 0 → inputs g look o ≡ Some vs → held q look (value_links g) ≡ uses_all q vs
  unfolding held
  held_end look vs s e = total_same (carried q look) (taken q look o) (value_links g) (λ w iw. each w iw (eqb_tells w.to o)) ∙ all_taken look o vs (inr refl) e
    where
      not_fired : has_fired look o ≡ false
      not_fired = elim (has_cases look o) [ inr h ↦ h | inl h ↦ absurd (⊎_elim R.not_o (λ x. R.apart (sym x)) (s.who o h)) ]

      each : (w : Wire) → In w (value_links g) → ((eqb w.to o ≡ true) × (w.to ≡ o)) ⊎ ((eqb w.to o ≡ false) × (w.to ≢ o)) → carried q look w ≡ taken q look o w
      each w iw (inl a) =
          ap (λ y. cond y 0 (uses_option q (along look (Some w)))) (ap (has_fired look) a.1 ∙ not_fired) ∙ sym (ap (λ y. cond y (uses_option q (along look (Some w))) 0) a.0)
      each w iw (inr a) = no_more (has_cases look w.from) ∙ sym (ap (λ y. cond y (uses_option q (along look (Some w))) 0) a.0)
        where
          zero_cond : (b : Bool) (x : ℕ) → (b ≡ true) ⊎ (x ≡ 0) → cond b 0 x ≡ 0
          zero_cond true x h = refl
          zero_cond false x (inl h) = absurd cc
          zero_cond false x (inr h) = h

          no_more : (has_fired look w.from ≡ true) ⊎ (has_fired look w.from ≡ false) → carried q look w ≡ 0
          no_more (inr f) = zero_cond (has_fired look w.to) (uses_option q (along look (Some w))) (inr (not_along look w f))
          no_more (inl t) =
              let k : In w.to (firing_children g c) = elim (R.forth w iw (s.who w.from t)) [ inl k ↦ k | inr e ↦ absurd (a.1 e) ] in
              zero_cond (has_fired look w.to) (uses_option q (along look (Some w))) (inl (none_left look (firing_children g c) w.to k s.count))

-- what an open region holds
abbrev pub carried_by : ℕ → Look → Option ℕ → Wire → ℕ
carried_by q look running w = cond (has_read look running w.to) 0 (uses_option q (along look (Some w)))

unfoldable pub held_open : ℕ → Graph → Open → ℕ
held_open q g o = total (carried_by q (outs_at o.fired) o.running) (value_links g)

pub held_open-none : (q : ℕ) (g : Graph) (c : ℕ) (s : List Fired) → held_open q g (record { container = c; fired = s; running = None }) ≡ held q (outs_at s) (value_links g)
unfolding held held_open
held_open-none q g c s = refl

module _ (g : Graph) (c i o : ℕ) (R : IsRegion g c i o) (q : ℕ) where
  -- a child that runs has read its inputs
  pub held_running : (s : List Fired) (r : Ready) → In r.node (firing_children g c) → IsReady g (outs_at s) r → held_open q g (record { container = c; fired = s; running = Some r.node }) + uses_all q r.ins ≡ held q (outs_at s) (value_links g)
  unfolding held held_open
  held_running s r k h =
      let look = outs_at s in
      let sums = total_four (carried_by q look (Some r.node)) (taken q look r.node) (carried q look) (λ _. 0) (value_links g) (λ w iw. each w (eqb_tells w.to r.node)) in
      let a = all_taken g c i o R q look r.node r.ins (inl k) h.pulls in
      let z = total_zero (λ _. 0) (value_links g) (λ w _. refl) in
      omega arith
    where
      back_eqb : (x y : ℕ) → x ≡ y → eqb y x ≡ true
      back_eqb x y e = eq-eqb y x (sym e)

      fresh_to : (w : Wire) → w.to ≡ r.node → has_fired (outs_at s) w.to ≡ false
      fresh_to w e = ap (has_fired (outs_at s)) e ∙ h.fresh

      sides : (x y u x' y' u' : ℕ) → x ≡ x' → y ≡ y' → u ≡ u' → x' + y' ≡ u' → x + y ≡ u + 0
      sides x y u x' y' u' a b c' e = omega arith

      or_true : (b : Bool) → (b || true) ≡ true
      or_true true = refl
      or_true false = refl

      or_no : (b : Bool) → (b || false) ≡ b
      or_no true = refl
      or_no false = refl

      each : (w : Wire) → ((eqb w.to r.node ≡ true) × (w.to ≡ r.node)) ⊎ ((eqb w.to r.node ≡ false) × (w.to ≢ r.node)) → carried_by q (outs_at s) (Some r.node) w + taken q (outs_at s) r.node w ≡ carried q (outs_at s) w + 0
      each w (inl e) =
          let x = uses_option q (along (outs_at s) (Some w)) in
          sides _ _ _ 0 x x
          (ap (λ b. cond b 0 x) (ap (λ b. has_fired (outs_at s) w.to || b) (back_eqb w.to r.node e.1) ∙ or_true (has_fired (outs_at s) w.to)))
          (ap (λ b. cond b x 0) e.0)
          (ap (λ b. cond b 0 x) (fresh_to w e.1))
          (omega arith)
      each w (inr e) =
          let x = uses_option q (along (outs_at s) (Some w)) in
          sides _ _ _ (cond (has_fired (outs_at s) w.to) 0 x) 0 (cond (has_fired (outs_at s) w.to) 0 x)
          (ap (λ b. cond b 0 x) (ap (λ b. has_fired (outs_at s) w.to || b) (eqb_no r.node w.to (λ y. e.1 (sym y))) ∙ or_no (has_fired (outs_at s) w.to)))
          (ap (λ b. cond b x 0) e.0)
          refl
          (omega arith)
