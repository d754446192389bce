-- The first link out of a port by its number.
use Rattle.std.proofs.Common.{◌≡◌, ℕ, suc, ◌+◌, Bool, true, false, cond, List, [], ◌∷◌, Option, Some, None, refl, sym, ap, ◌∙◌, arith}
use Rattle.std.specs.Prelude.{slice_get}
use Rattle.hg_graph.specs.Graph.{Link, Ports, Order, Port, taker, is_port}
use Rattle.hg_graph.specs.NodeIndex.{numbers_where, is_from, numbers_from}
use Rattle.hg_run.specs.code.Orders.{target_at, first_at}

module _ (all : List Link) (from : Port) where
  next_place : (link : Link) (links : List Link) (k : ℕ) → ((i : ℕ) → slice_get (link ∷ links) i ≡ slice_get all (k + i)) → (i : ℕ) → slice_get links i ≡ slice_get all (suc k + i)
  next_place link links k at i = at (suc i) ∙ ap (slice_get all) (let e : k + suc i ≡ suc k + i = omega arith in e)

  from_ports : (a b : Port) (links : List Link) (k : ℕ) → slice_get all k ≡ Some (Ports a b) → taker links from ≡ first_at all (numbers_where (is_from from) (suc k) links)
      → (t : Bool) → cond t (Some b) (taker links from) ≡ first_at all (cond t (k ∷ numbers_where (is_from from) (suc k) links) (numbers_where (is_from from) (suc k) links))
  from_ports a b links k here rest true = ap target_at (sym here)
  from_ports a b links k here rest false = rest

  from_place : (links : List Link) (k : ℕ) → ((i : ℕ) → slice_get links i ≡ slice_get all (k + i)) → taker links from ≡ first_at all (numbers_where (is_from from) k links)
  from_place [] k at = refl
  from_place (Order a b ∷ links) k at = from_place links (suc k) (next_place (Order a b) links k at)
  from_place (Ports a b ∷ links) k at =
      from_ports a b links k (sym (at 0 ∙ ap (slice_get all) (let e : k + 0 ≡ k = omega arith in e))) (from_place links (suc k) (next_place (Ports a b) links k at)) (is_port a from)

  pub taker_first : taker all from ≡ first_at all (numbers_from all from)
  taker_first = from_place all 0 (λ i. ap (slice_get all) (let e : i ≡ 0 + i = omega arith in e))

-- by the first of the numbers
pub first_none : (all : List Link) (numbers : List ℕ) → None ≡ slice_get numbers 0 → None ≡ first_at all numbers
first_none all [] e = refl
first_none all (k ∷ numbers) e = absurd cc

pub first_some : (all : List Link) (numbers : List ℕ) (k : ℕ) → Some k ≡ slice_get numbers 0 → target_at (slice_get all k) ≡ first_at all numbers
first_some all [] k e = absurd cc
first_some all (j ∷ numbers) k e = ap (λ o. target_at (slice_get all (or_number o))) e
  where
    or_number : Option ℕ → ℕ
    or_number None = 0
    or_number (Some n) = n
