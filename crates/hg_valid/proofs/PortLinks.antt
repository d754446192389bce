-- How many links a port has, and the only one.
use Rattle.std.proofs.Common.{inl, inr, subst, ◌≡◌, ◌≢◌, ◌<◌, ◌+◌, ◌++◌, ◌∷◌, ◌∙◌, [], ℕ, suc, Bool, true, false, cond, List, Option, Some, None, length, slice_get, refl, sym, ap, arith}
use Rattle.std.specs.Option.{option_and_then}
use Rattle.std.proofs.lemmas.List.{length-append, append_assoc}
use Rattle.gp_base.specs.Membership.{In}
use Rattle.hg_graph.specs.Graph.{Graph, Link, Ports, Order, Port, IsGraph, LinkIsWithin, is_port, feeder, taker, links_into, links_from}
use Rattle.hg_graph.specs.NodeIndex.{numbers_where, numbers_into, numbers_from, is_into, is_from}
use Rattle.hg_graph.specs.code.Sources.{source_of}
use Rattle.hg_graph.proofs.Readers.{first-feeder}
use Rattle.hg_laws.proofs.Children.{get_in}
use Rattle.hg_valid.specs.code.Parts.{target_of, IsOnlySource, IsOnlyTarget}

-- ---- how many
one_more : (t : Bool) (k n : ℕ) (xs : List ℕ) → length xs ≡ n → length (cond t (k ∷ xs) xs) ≡ cond t 1 0 + n
one_more true k n xs e = omega arith
one_more false k n xs e = omega arith

into_from : (k : ℕ) (links : List Link) (port : Port) → length (numbers_where (is_into port) k links) ≡ links_into links port
into_from k [] port = refl
into_from k (Ports a b ∷ links) port = one_more (is_port b port) k _ _ (into_from (suc k) links port)
into_from k (Order a b ∷ links) port = into_from (suc k) links port

from_from : (k : ℕ) (links : List Link) (port : Port) → length (numbers_where (is_from port) k links) ≡ links_from links port
from_from k [] port = refl
from_from k (Ports a b ∷ links) port = one_more (is_port a port) k _ _ (from_from (suc k) links port)
from_from k (Order a b ∷ links) port = from_from (suc k) links port

pub length-numbers_into : (links : List Link) (port : Port) → length (numbers_into links port) ≡ links_into links port
length-numbers_into links port = into_from 0 links port

pub length-numbers_from : (links : List Link) (port : Port) → length (numbers_from links port) ≡ links_from links port
length-numbers_from links port = from_from 0 links port

-- ---- the first link out of a port
get-append_at : (xs : List Link) (x : Link) (ys : List Link) → slice_get (xs ++ x ∷ ys) (length xs) ≡ Some x
get-append_at [] x ys = refl
get-append_at (y ∷ xs) x ys = get-append_at xs x ys

abbrev first_of : List Link → List ℕ → Option Port
first_of links numbers = option_and_then (λ k. target_of (slice_get links k)) (slice_get numbers 0)

module _ (port : Port) where
  step : (before : List Link) (x : Link) (links : List Link)
      → first_of ((before ++ x ∷ []) ++ links) (numbers_where (is_from port) (length (before ++ x ∷ [])) links) ≡ taker links port
      → first_of (before ++ x ∷ links) (numbers_where (is_from port) (suc (length before)) links) ≡ taker links port
  step before x links later =
      let next : length (before ++ x ∷ []) ≡ suc (length before) = omega (arith, length-append before (x ∷ [])) in
      ap (λ k. first_of (before ++ x ∷ links) (numbers_where (is_from port) k links)) (sym next)
      ∙ ap (λ all. first_of all (numbers_where (is_from port) (length (before ++ x ∷ [])) links)) (sym (append_assoc before (x ∷ []) links)) ∙ later

  first_to : (before links : List Link) → first_of (before ++ links) (numbers_where (is_from port) (length before) links) ≡ taker links port
  first_to before [] = refl
  first_to before (Ports a b ∷ links) = here (is_port a port) (step before (Ports a b) links (first_to (before ++ Ports a b ∷ []) links))
    where
      here : (t : Bool) → first_of (before ++ Ports a b ∷ links) (numbers_where (is_from port) (suc (length before)) links) ≡ taker links port
          → first_of (before ++ Ports a b ∷ links) (cond t (length before ∷ numbers_where (is_from port) (suc (length before)) links) (numbers_where (is_from port) (suc (length before)) links)) ≡ cond t (Some b) (taker links port)
      here true later = ap target_of (get-append_at before (Ports a b) links)
      here false later = later
  first_to before (Order a b ∷ links) = step before (Order a b) links (first_to (before ++ Order a b ∷ []) links)

-- ---- where there is none
no_feeder : (links : List Link) (port : Port) → feeder links port ≡ None → links_into links port ≡ 0
no_feeder [] port e = refl
no_feeder (Ports a b ∷ links) port e = here (is_port b port) e (no_feeder links port)
  where
    here : (t : Bool) → cond t (Some a) (feeder links port) ≡ None → (feeder links port ≡ None → links_into links port ≡ 0) → cond t 1 0 + links_into links port ≡ 0
    here true e more = absurd cc
    here false e more = let m = more e in omega arith
no_feeder (Order a b ∷ links) port e = no_feeder links port e

no_taker : (links : List Link) (port : Port) → taker links port ≡ None → links_from links port ≡ 0
no_taker [] port e = refl
no_taker (Ports a b ∷ links) port e = here (is_port a port) e (no_taker links port)
  where
    here : (t : Bool) → cond t (Some b) (taker links port) ≡ None → (taker links port ≡ None → links_from links port ≡ 0) → cond t 1 0 + links_from links port ≡ 0
    here true e more = absurd cc
    here false e more = let m = more e in omega arith
no_taker (Order a b ∷ links) port e = no_taker links port e

-- ---- the only one
-- the feeder of a port with links of these numbers
feeder_by : (links : List Link) (port : Port) (k : ℕ) (rest : List ℕ) → numbers_into links port ≡ k ∷ rest → source_of (slice_get links k) ≡ feeder links port
feeder_by links port k rest e = ap (λ numbers. option_and_then (λ j. source_of (slice_get links j)) (slice_get numbers 0)) (sym e) ∙ first-feeder links port

taker_by : (links : List Link) (port : Port) (k : ℕ) (rest : List ℕ) → numbers_from links port ≡ k ∷ rest → target_of (slice_get links k) ≡ taker links port
taker_by links port k rest e = ap (λ numbers. option_and_then (λ j. target_of (slice_get links j)) (slice_get numbers 0)) (sym e) ∙ first_to port [] links

module _ (g : Graph) (G : IsGraph g) where
  from_in : (o : Option Link) (k : ℕ) (from : Port) → slice_get g.links k ≡ o → source_of o ≡ Some from → from.node < length g.nodes
  from_in None k from e s = absurd cc
  from_in (Some (Order a b)) k from e s = absurd cc
  from_in (Some (Ports a b)) k from e s = subst (λ p. p.node < length g.nodes) (is a from s) (G.links (Ports a b) (get_in g.links k (Ports a b) e)).0
    where
      is : (p q : Port) → Some p ≡ Some q → p ≡ q
      is p q r = cc

  to_in : (o : Option Link) (k : ℕ) (to : Port) → slice_get g.links k ≡ o → target_of o ≡ Some to → to.node < length g.nodes
  to_in None k to e s = absurd cc
  to_in (Some (Order a b)) k to e s = absurd cc
  to_in (Some (Ports a b)) k to e s = subst (λ p. p.node < length g.nodes) (is b to s) (G.links (Ports a b) (get_in g.links k (Ports a b) e)).1
    where
      is : (p q : Port) → Some p ≡ Some q → p ≡ q
      is p q r = cc

  pub only_source : (to : Port) (k : ℕ) (from : Port) → numbers_into g.links to ≡ k ∷ [] → source_of (slice_get g.links k) ≡ Some from → IsOnlySource g to from
  only_source to k from e s = record {
    once = sym (length-numbers_into g.links to) ∙ ap length e;
    is_source = sym (feeder_by g.links to k [] e) ∙ s;
    is_node = from_in (slice_get g.links k) k from refl s;
  }

  pub only_target : (from : Port) (k : ℕ) (to : Port) → numbers_from g.links from ≡ k ∷ [] → target_of (slice_get g.links k) ≡ Some to → IsOnlyTarget g from to
  only_target from k to e s = record {
    once = sym (length-numbers_from g.links from) ∙ ap length e;
    is_target = sym (taker_by g.links from k [] e) ∙ s;
    is_node = to_in (slice_get g.links k) k to refl s;
  }

-- where a port has one link, its number is that of a link of ports
pub some_source : (links : List Link) (to : Port) (k : ℕ) → numbers_into links to ≡ k ∷ [] → source_of (slice_get links k) ≡ None → links_into links to ≢ 1
some_source links to k e none once = let z = no_feeder links to (sym (feeder_by links to k [] e) ∙ none) in absurd (omega arith)

pub some_target : (links : List Link) (from : Port) (k : ℕ) → numbers_from links from ≡ k ∷ [] → target_of (slice_get links k) ≡ None → links_from links from ≢ 1
some_target links from k e none once = let z = no_taker links from (sym (taker_by links from k [] e) ∙ none) in absurd (omega arith)

-- the first feeder of a port is a node
pub feeder_in : (g : Graph) → IsGraph g → (to from : Port) → feeder g.links to ≡ Some from → from.node < length g.nodes
feeder_in g G to from e = among g.links (λ link i. G.links link i) e
  where
    among : (links : List Link) → ((link : Link) → In link links → LinkIsWithin (length g.nodes) link) → feeder links to ≡ Some from → from.node < length g.nodes
    among [] within f = absurd cc
    among (Order a b ∷ links) within f = among links (λ link i. within link (inr i)) f
    among (Ports a b ∷ links) within f = here (is_port b to) f (among links (λ link i. within link (inr i)))
      where
        is : (p q : Port) → Some p ≡ Some q → p ≡ q
        is p q r = cc

        here : (t : Bool) → cond t (Some a) (feeder links to) ≡ Some from → (feeder links to ≡ Some from → from.node < length g.nodes) → from.node < length g.nodes
        here true h more = subst (λ p. p.node < length g.nodes) (is a from h) (within (Ports a b) (inl refl)).0
        here false h more = more h
