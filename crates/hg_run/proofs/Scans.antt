-- Scans of lists.
use Rattle.std.proofs.Common.{◌≡◌, ℕ, suc, ◌+◌, ◌<◌, ◌≤◌, Bool, true, false, cond, List, [], ◌∷◌, ◌++◌, length, map, drop, Option, Some, None, refl, sym, ap, ap₂, ◌∙◌, arith, ◌-◌, append_assoc, append-nil}
use Rattle.std.specs.Prelude.{slice_get, slice_index_or, not, ◌&&◌}
use Rattle.std.proofs.lemmas.List.{drop_more}
use Rattle.std.proofs.lemmas.Option.{get_or_from_slice_get, slice_get_within}
use Rattle.gp_base.specs.Run.{Returned}
use Rattle.hg_graph.specs.Graph.{Graph, Link, Ports, Order, Port, taker, is_port, feeder}
use Rattle.hg_graph.specs.Run.{Look, value_of, cons_both, pulled, inputs, with_inputs, candidate, orders_kept, has_fired, choose, pick_from}
use Rattle.hg_graph.specs.Value.{Value, values, packed}
use Rattle.hg_steps.specs.Machine.{Plain, variant_of}
use Rattle.hg_run.specs.declared.value.Value.{Value as Declared}
use Rattle.hg_run.specs.declared.value.Value.TheVariants as kind
use Rattle.hg_run.specs.code.StateView.{place_of}
use Rattle.hg_run.specs.code.ValueView.{value_view}

-- from an entry on
pub drop_found : {A : Type 0} (xs : List A) (k : ℕ) (x : A) → slice_get xs k ≡ Some x → drop k xs ≡ x ∷ drop (k + 1) xs
drop_found xs k x found =
    drop_more xs k x (slice_get_within xs k x found) ∙ ap (λ y. y ∷ drop (k + 1) xs) (get_or_from_slice_get xs k x x found)

-- ---- the first link out of a port
or_else : Option Port → Option Port → Option Port
or_else None o = o
or_else (Some p) o = Some p

module _ (from : Port) (links : List Link) where
  taker_first : (link : Link) (p : Port) → Some p ≡ taker (link ∷ []) from → taker (link ∷ links) from ≡ Some p
  taker_first (Order a b) p e = absurd cc
  taker_first (Ports a b) p e = go (is_port a from) e
    where
      go : (t : Bool) → Some p ≡ cond t (Some b) None → cond t (Some b) (taker links from) ≡ Some p
      go true e = sym e
      go false e = absurd cc

  taker_later : (link : Link) → None ≡ taker (link ∷ []) from → taker (link ∷ links) from ≡ taker links from
  taker_later (Order a b) e = refl
  taker_later (Ports a b) e = go (is_port a from) e
    where
      go : (t : Bool) → None ≡ cond t (Some b) None → cond t (Some b) (taker links from) ≡ taker links from
      go true e = absurd cc
      go false e = refl

pub taker_here : (from : Port) (links : List Link) (k : ℕ) (link : Link) (p : Port) → Some link ≡ slice_get links k → Some p ≡ taker (link ∷ []) from → taker links from ≡ taker (drop k links) from → Some p ≡ taker links from
taker_here from links k link p at e so_far = sym (so_far ∙ (ap (λ links. taker links from) (drop_found links k link (sym at)) ∙ taker_first from (drop (k + 1) links) link p e))

pub taker_more : (from : Port) (links : List Link) (k : ℕ) (link : Link) → Some link ≡ slice_get links k → None ≡ taker (link ∷ []) from → taker links from ≡ taker (drop k links) from → taker links from ≡ taker (drop (k + 1) links) from
taker_more from links k link at e so_far = so_far ∙ (ap (λ links. taker links from) (drop_found links k link (sym at)) ∙ taker_later from (drop (k + 1) links) link e)

-- ---- the choice of a ready node
pub choose_is : {A : Type 0} (xs : List A) (s : Plain) (picks : List ℕ) (r : A) → s.picks ≡ picks → 0 < length xs → ((d : A) → r ≡ slice_index_or xs (place_of picks (length xs)) d) → choose xs s ≡ Returned r (record s { picks = drop 1 picks })
choose_is {A = A} [] s picks r e l at = absurd (omega arith)
choose_is {A = A} (x ∷ xs) s picks r e l at = ap (λ p. pick_from x xs p s) e ∙ go picks e at
  where
    go : (picks : List ℕ) → s.picks ≡ picks → ((d : A) → r ≡ slice_index_or (x ∷ xs) (place_of picks (length (x ∷ xs))) d) → pick_from x xs picks s ≡ Returned r (record s { picks = drop 1 picks })
    go [] e at = ap₂ (λ x p. Returned x (record s { picks = p })) (sym (at x)) e
    go (k ∷ picks) e at = ap (λ x. Returned x (record s { picks = picks })) (sym (at x))

-- ---- a variant taken apart
pub values-packed : (vs : List Value) → values (packed vs) ≡ vs
values-packed [] = refl
values-packed (v ∷ vs) = ap (λ vs. v ∷ vs) (values-packed vs)

pub variant_first : (vs others : List Declared) (v : Declared) (tag : ℕ) (row : List Value) → (length vs ≡ 0 → ⊥) → v ≡ slice_index_or vs 0 v → v ≡ kind.Variant tag row → others ≡ drop 1 vs
    → variant_of (map value_view vs) ≡ Some (record { tag = tag; values = row ++ map value_view others })
variant_first [] others v tag row l at is rest = absurd (l refl)
variant_first (x ∷ xs) others v tag row l at is rest =
    ap (λ x. variant_of (value_view x ∷ map value_view xs)) (sym at ∙ is)
    ∙ ap₂ (λ row others. Some (record { tag = tag; values = row ++ map value_view others })) (values-packed row) (sym rest)

-- ---- the values at inputs, port by port
abbrev pub prepended : List Value → Option (List Value) → Option (List Value)
prepended front None = None
prepended front (Some vs) = Some (front ++ vs)

pub prepended-none : (o : Option (List Value)) → o ≡ prepended [] o
prepended-none None = refl
prepended-none (Some vs) = refl

module _ (links : List Link) (look : Look) (n p count : ℕ) (front : List Value) (o : Option Port) (from : o ≡ feeder links (record { node = n; index = p })) (l : p < count) where
  left : count - p ≡ suc (count - (p + 1))
  left = omega arith

  first_pulled : pulled links look n p (count - p) ≡ cons_both (value_of look o) (pulled links look n (p + 1) (count - (p + 1)))
  first_pulled =
      ap (pulled links look n p) left
      ∙ (ap (λ o. cons_both (value_of look o) (pulled links look n (suc p) (count - (p + 1)))) (sym from)
      ∙ ap (λ q. cons_both (value_of look o) (pulled links look n q (count - (p + 1)))) (let e : suc p ≡ p + 1 = omega arith in e))

  pub pulled_none : (all : Option (List Value)) → None ≡ value_of look o → all ≡ prepended front (pulled links look n p (count - p)) → None ≡ all
  pulled_none all e so_far = sym (so_far ∙ ap (prepended front) (first_pulled ∙ ap (λ v. cons_both v (pulled links look n (p + 1) (count - (p + 1)))) (sym e)) ∙ go (pulled links look n (p + 1) (count - (p + 1))))
    where
      go : (vs : Option (List Value)) → prepended front (cons_both None vs) ≡ None
      go vs = refl

  pub pulled_some : (all : Option (List Value)) (v : Value) → Some v ≡ value_of look o → all ≡ prepended front (pulled links look n p (count - p)) → all ≡ prepended (front ++ v ∷ []) (pulled links look n (p + 1) (count - (p + 1)))
  pulled_some all v e so_far = so_far ∙ ap (prepended front) (first_pulled ∙ ap (λ v. cons_both v (pulled links look n (p + 1) (count - (p + 1)))) (sym e)) ∙ go (pulled links look n (p + 1) (count - (p + 1)))
    where
      go : (vs : Option (List Value)) → prepended front (cons_both (Some v) vs) ≡ prepended (front ++ v ∷ []) vs
      go None = refl
      go (Some vs) = ap Some (sym (append_assoc front (v ∷ []) vs))

-- all ports have been seen
pub pulled_all : (links : List Link) (look : Look) (n p count : ℕ) (front : List Value) (all : Option (List Value)) → count ≤ p → all ≡ prepended front (pulled links look n p (count - p)) → Some front ≡ all
pulled_all links look n p count front all l so_far =
    let none : count - p ≡ 0 = omega arith in
    sym (so_far ∙ (ap (λ k. prepended front (pulled links look n p k)) none ∙ ap Some (append-nil front)))

-- ---- a node that is ready
pub candidate_is : (g : Graph) (look : Look) (n : ℕ) (b : Bool) → b ≡ (not (has_fired look n) && orders_kept g.links look n) → candidate g look n ≡ cond b (with_inputs n (inputs g look n)) None
unfolding candidate
candidate_is g look n b e = go (has_fired look n) (orders_kept g.links look n) b e
  where
    go : (f k b : Bool) → b ≡ (not f && k) → cond f None (cond k (with_inputs n (inputs g look n)) None) ≡ cond b (with_inputs n (inputs g look n)) None
    go true k b e = ap (λ b. cond b (with_inputs n (inputs g look n)) None) (sym e)
    go false k b e = ap (λ b. cond b (with_inputs n (inputs g look n)) None) (sym e)
