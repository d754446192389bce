-- Look-ups in the links of a thin graph.
use Rattle.std.proofs.Common.{◌≡◌, ◌≢◌, inl, inr, ℕ, zero, suc, ◌+◌, ◌<◌, ◌≤◌, Bool, true, false, cond, not, ◌&&◌, ◌||◌, eqb, eqb-true, eq-eqb, ne_eqb, Some, refl, ap, ap₂, ◌∙◌, zero-add, arith}
use Rattle.std.proofs.lemmas.Bool.Decides.{eqb_tells}
use Rattle.hg_graph.specs.Graph.{Port, feeder, links_into, links_from}
use Rattle.hg_graph.specs.Run.{Look, has_fired, orders_kept}
use Rattle.hg_graph.specs.Thin.{chain}

abbrev pub first_port : ℕ → Port
first_port n = record { node = n; index = 0 }

above : {a b : ℕ} → a ≢ b → a ≤ b → suc a ≤ b
above ne l = omega arith

-- ---- order links

-- kept, where the nodes before have fired
pub orders_kept_after : (look : Look) (n first count : ℕ) → ((j : ℕ) → first ≤ j → suc j ≡ n → has_fired look j ≡ true) → orders_kept (chain first count) look n ≡ true
orders_kept_after look n first zero h = refl
orders_kept_after look n first (suc count) h =
    ap₂ ◌&&◌ (one (eqb (suc first) n) refl) (orders_kept_after look n (suc first) count (λ j l. h j (omega arith)))
  where
    one : (b : Bool) → eqb (suc first) n ≡ b → (not b || has_fired look first) ≡ true
    one true e = h first (omega arith) (eqb-true (suc first) n e)
    one false e = refl

-- not kept, where the node before has not fired
pub orders_kept_before : (look : Look) (j first count : ℕ) → first ≤ j → j < first + count → has_fired look j ≡ false → orders_kept (chain first count) look (suc j) ≡ false
orders_kept_before look j first zero l h e = absurd (omega arith)
orders_kept_before look j first (suc count) l h e =
    elim (eqb_tells first j) [
      | inl s ↦ ap (λ b. b && orders_kept (chain (suc first) count) look (suc j)) (ap₂ (λ b c. not b || c) (eq-eqb (suc first) (suc j) (ap suc s.1)) (ap (has_fired look) s.1 ∙ e))
      | inr s ↦ ap (λ b. (not (eqb (suc first) (suc j)) || has_fired look first) && b) (orders_kept_before look j (suc first) count (above s.1 l) (omega arith) e) ∙ and_false (not (eqb (suc first) (suc j)) || has_fired look first)
    ]
  where
    and_false : (b : Bool) → (b && false) ≡ false
    and_false true = refl
    and_false false = refl

-- ---- value links

not_same : {a b : ℕ} → a ≢ b → eqb (suc a) (suc b) ≡ false
not_same {a = a} {b = b} ne = ne_eqb (suc a) (suc b) (λ e. ne (omega arith))

same : {a b : ℕ} → a ≡ b → eqb (suc a) (suc b) ≡ true
same {a = a} {b = b} e = eq-eqb (suc a) (suc b) (ap suc e)

-- the node before is the source
pub feeder-chain : (j first count : ℕ) → first ≤ j → j < first + count → feeder (chain first count) (first_port (suc j)) ≡ Some (first_port j)
feeder-chain j first zero l h = absurd (omega arith)
feeder-chain j first (suc count) l h =
    elim (eqb_tells first j) [
      | inl s ↦ rw (same s.1) (ap (λ n. Some (first_port n)) s.1)
      | inr s ↦ rw (not_same s.1) (feeder-chain j (suc first) count (above s.1 l) (omega arith))
    ]

-- a count, where one more is or isn't there
add_one : (b : Bool) (n : ℕ) → b ≡ true → n ≡ 0 → cond (b && true) 1 0 + n ≡ 1
add_one b n e z = ap₂ (λ c m. cond (c && true) 1 0 + m) e z

add_none : (b : Bool) (n k : ℕ) → b ≡ false → n ≡ k → cond (b && true) 1 0 + n ≡ k
add_none b n k e z = ap₂ (λ c m. cond (c && true) 1 0 + m) e z ∙ zero-add k

into_none : (j first count : ℕ) → j < first → links_into (chain first count) (first_port (suc j)) ≡ 0
into_none j first zero l = refl
into_none j first (suc count) l = add_none (eqb (suc first) (suc j)) _ 0 (ne_eqb (suc first) (suc j) (λ e. omega arith)) (into_none j (suc first) count (omega arith))

-- one link comes in from the node before
pub links_into-chain : (j first count : ℕ) → first ≤ j → j < first + count → links_into (chain first count) (first_port (suc j)) ≡ 1
links_into-chain j first zero l h = absurd (omega arith)
links_into-chain j first (suc count) l h =
    elim (eqb_tells first j) [
      | inl s ↦ let e = s.1 in add_one (eqb (suc first) (suc j)) _ (same e) (into_none j (suc first) count (omega arith))
      | inr s ↦ add_none (eqb (suc first) (suc j)) _ 1 (not_same s.1) (links_into-chain j (suc first) count (above s.1 l) (omega arith))
    ]

from_none : (j first count : ℕ) → j < first → links_from (chain first count) (first_port j) ≡ 0
from_none j first zero l = refl
from_none j first (suc count) l = add_none (eqb first j) _ 0 (ne_eqb first j (λ e. omega arith)) (from_none j (suc first) count (omega arith))

-- one link goes out to the node after
pub links_from-chain : (j first count : ℕ) → first ≤ j → j < first + count → links_from (chain first count) (first_port j) ≡ 1
links_from-chain j first zero l h = absurd (omega arith)
links_from-chain j first (suc count) l h =
    elim (eqb_tells first j) [
      | inl s ↦ let e = s.1 in add_one (eqb first j) _ s.0 (from_none j (suc first) count (omega arith))
      | inr s ↦ add_none (eqb first j) _ 1 s.0 (links_from-chain j (suc first) count (above s.1 l) (omega arith))
    ]
