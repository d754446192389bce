-- Order links by their numbers.
use Rattle.std.proofs.Common.{◌≡◌, ℕ, suc, ◌+◌, ◌≤◌, Bool, true, false, cond, List, [], ◌∷◌, length, Some, refl, sym, ap, ◌∙◌, inl, inr, arith}
use Rattle.std.specs.Prelude.{slice_get, not, ◌&&◌, ◌||◌, ◌==◌}
use Rattle.gp_base.specs.Membership.{In}
use Rattle.hg_graph.specs.Graph.{Graph, Link, Ports, Order, IsGraph, LinkIsWithin}
use Rattle.hg_graph.specs.NodeIndex.{numbers_where, is_order_into, orders_into}
use Rattle.hg_graph.specs.Run.{Look, orders_kept, has_fired}
use Rattle.hg_laws.proofs.Looks.{eqb_no}
use Rattle.hg_run.specs.code.Orders.{order_at, orders_at}

module _ (all : List Link) (look : Look) (n : ℕ) where
  joined : (t u : Bool) → (t && u) ≡ ((t && true) && u)
  joined true u = refl
  joined false u = refl

  -- an order link at a place
  from_order : (a b : ℕ) (links : List Link) (k : ℕ) → slice_get all k ≡ Some (Order a b) → orders_kept links look n ≡ orders_at all look n (numbers_where (is_order_into n) (suc k) links)
      → (t : Bool) → (b == n) ≡ t → orders_kept (Order a b ∷ links) look n ≡ orders_at all look n (cond (b == n) (k ∷ numbers_where (is_order_into n) (suc k) links) (numbers_where (is_order_into n) (suc k) links))
  from_order a b links k here rest true e =
      ap (λ u. (not (b == n) || has_fired look a) && u) rest
      ∙ (joined (not (b == n) || has_fired look a) (orders_at all look n (numbers_where (is_order_into n) (suc k) links))
      ∙ (ap (λ o. order_at look n o && orders_at all look n (numbers_where (is_order_into n) (suc k) links)) (sym here)
      ∙ ap (λ t. orders_at all look n (cond t (k ∷ numbers_where (is_order_into n) (suc k) links) (numbers_where (is_order_into n) (suc k) links))) (sym e)))
  from_order a b links k here rest false e =
      ap (λ t. (not t || has_fired look a) && orders_kept links look n) e ∙ (rest ∙ ap (λ t. orders_at all look n (cond t (k ∷ numbers_where (is_order_into n) (suc k) links) (numbers_where (is_order_into n) (suc k) links))) (sym e))

  next_place : (link : Link) (links : List Link) (k : ℕ) → ((i : ℕ) → slice_get (link ∷ links) i ≡ slice_get all (k + i)) → (i : ℕ) → slice_get links i ≡ slice_get all (suc k + i)
  next_place link links k at i = at (suc i) ∙ ap (slice_get all) (let e : k + suc i ≡ suc k + i = omega arith in e)

  from_place : (links : List Link) (k : ℕ) → ((i : ℕ) → slice_get links i ≡ slice_get all (k + i)) → orders_kept links look n ≡ orders_at all look n (numbers_where (is_order_into n) k links)
  from_place [] k at = refl
  from_place (Ports a b ∷ links) k at = from_place links (suc k) (next_place (Ports a b) links k at)
  from_place (Order a b ∷ links) k at =
      from_order a b links k (sym (at 0 ∙ ap (slice_get all) (let e : k + 0 ≡ k = omega arith in e))) (from_place links (suc k) (next_place (Order a b) links k at)) (b == n) refl

  pub by_numbers : orders_kept all look n ≡ orders_at all look n (orders_into all n)
  by_numbers = from_place all 0 (λ i. ap (slice_get all) (let e : i ≡ 0 + i = omega arith in e))

-- no order link leads past the nodes
none_past : (count : ℕ) (look : Look) (n : ℕ) → count ≤ n → (links : List Link) → ((link : Link) → In link links → LinkIsWithin count link) → true ≡ orders_kept links look n
none_past count look n h [] w = refl
none_past count look n h (Ports a b ∷ links) w = none_past count look n h links (λ link i. w link (inr i))
none_past count look n h (Order a b ∷ links) w =
    none_past count look n h links (λ link i. w link (inr i))
    ∙ ap (λ t. (not t || has_fired look a) && orders_kept links look n) (sym (eqb_no b n (λ e. let q = (w (Order a b) (inl refl)).1 in omega (arith, q, e, h))))

pub orders_past : (g : Graph) (look : Look) (n : ℕ) → IsGraph g → length g.nodes ≤ n → true ≡ orders_kept g.links look n
orders_past g look n G h = none_past (length g.nodes) look n h g.links G.links
