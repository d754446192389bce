-- What the readers of a graph find.
use Rattle.std.proofs.Common.{◌≡◌, ◌≢◌, ◌<◌, ◌≤◌, ◌+◌, ◌++◌, ◌∷◌, ◌∙◌, ◌==◌, ◌&&◌, [], inl, inr, ℕ, zero, suc, Bool, true, false, cond, not, nat_lt, List, Option, Some, None, length, map, filter, slice_get, get_or, refl, sym, ap, arith, zero-add, le-ltb}
use Rattle.std.specs.Option.{option_and_then}
use Rattle.std.proofs.lemmas.List.{length-map, length-append, append_assoc}
use Rattle.std.proofs.lemmas.Bool.Decides.{eqb_tells}
use Rattle.gp_base.specs.Membership.{In}
use Rattle.hg_graph.specs.Graph.{Graph, Link, Ports, Order, Port, LinkIsWithin, numbers, is_port, feeder}
use Rattle.hg_graph.specs.NodeIndex.{node_index, input_count, output_count, numbers_where, numbers_into, numbers_from, is_into, is_stray}
use Rattle.hg_graph.specs.code.Sources.{source_of}
use Rattle.hg_graph.proofs.LinkNumbers.{eqb-other, length-numbers}

-- ---- lists by port

by_port : (f : ℕ → List ℕ) (s c p : ℕ) → p < c → get_or (map f (numbers s c)) p [] ≡ f (s + p)
by_port f s zero p within = absurd (omega arith)
by_port f s (suc c) zero within = let e : s ≡ s + 0 = omega arith in ap f e
by_port f s (suc c) (suc p) within = let e : suc s + p ≡ s + suc p = omega arith in by_port f (suc s) c p (omega arith) ∙ ap f e

module _ (g : Graph) (n p : ℕ) where
  pub length-inputs : length (node_index g n).inputs ≡ input_count g n
  unfolding node_index
  length-inputs = length-map (numbers 0 (input_count g n)) _ ∙ length-numbers 0 (input_count g n)

  pub length-outputs : length (node_index g n).outputs ≡ output_count g n
  unfolding node_index
  length-outputs = length-map (numbers 0 (output_count g n)) _ ∙ length-numbers 0 (output_count g n)

  pub input_at : p < input_count g n → get_or (node_index g n).inputs p [] ≡ numbers_into g.links (record { node = n; index = p })
  unfolding node_index
  input_at within =
      let f : ℕ → List ℕ = λ q. numbers_into g.links (record { node = n; index = q }) in
      by_port f 0 (input_count g n) p within ∙ ap f (zero-add p)

  pub output_at : p < output_count g n → get_or (node_index g n).outputs p [] ≡ numbers_from g.links (record { node = n; index = p })
  unfolding node_index
  output_at within =
      let f : ℕ → List ℕ = λ q. numbers_from g.links (record { node = n; index = q }) in
      by_port f 0 (output_count g n) p within ∙ ap f (zero-add p)

-- ---- the first link into a port

get-append_at : (xs : List Link) (x : Link) (ys : List Link) → slice_get (xs ++ x ∷ ys) (length xs) ≡ Some x
get-append_at [] x ys = refl
get-append_at (y ∷ xs) x ys = get-append_at xs x ys

-- the first source, by the numbers
abbrev first_of : List Link → List ℕ → Option Port
first_of links numbers = option_and_then (λ k. source_of (slice_get links k)) (slice_get numbers 0)

first_from : (before links : List Link) (port : Port) → first_of (before ++ links) (numbers_where (is_into port) (length before) links) ≡ feeder links port
first_from before [] port = refl
first_from before (Ports a b ∷ links) port = here (is_port b port) (first_from (before ++ Ports a b ∷ []) links port)
  where
    next : length (before ++ Ports a b ∷ []) ≡ suc (length before)
    next = omega (arith, length-append before (Ports a b ∷ []))

    found : source_of (slice_get (before ++ Ports a b ∷ links) (length before)) ≡ Some a
    found = ap source_of (get-append_at before (Ports a b) links)

    here : (t : Bool) → first_of ((before ++ Ports a b ∷ []) ++ links) (numbers_where (is_into port) (length (before ++ Ports a b ∷ [])) links) ≡ feeder links port
        → first_of (before ++ Ports a b ∷ links) (cond t (length before ∷ numbers_where (is_into port) (suc (length before)) links) (numbers_where (is_into port) (suc (length before)) links)) ≡ cond t (Some a) (feeder links port)
    here true later = found
    here false later =
        ap (λ k. first_of (before ++ Ports a b ∷ links) (numbers_where (is_into port) k links)) (sym next)
        ∙ ap (λ all. first_of all (numbers_where (is_into port) (length (before ++ Ports a b ∷ [])) links)) (sym (append_assoc before (Ports a b ∷ []) links)) ∙ later
first_from before (Order a b ∷ links) port =
    ap (λ k. first_of (before ++ Order a b ∷ links) (numbers_where (is_into port) k links)) (sym next)
    ∙ ap (λ all. first_of all (numbers_where (is_into port) (length (before ++ Order a b ∷ [])) links)) (sym (append_assoc before (Order a b ∷ []) links))
    ∙ first_from (before ++ Order a b ∷ []) links port
  where
    next : length (before ++ Order a b ∷ []) ≡ suc (length before)
    next = omega (arith, length-append before (Order a b ∷ []))

pub first-feeder : (links : List Link) (port : Port) → first_of links (numbers_into links port) ≡ feeder links port
first-feeder links port = first_from [] links port

-- a link into a port that isn't there is among the strays: by whether the node, the port and the side list are those
stray_step : (a : Port) (rest kept : Option Port) (strays : List Link) (port b : Port) (at_node at_index is_past : Bool) → kept ≡ rest
    → (b.node == port.node) ≡ at_node → (b.index == port.index) ≡ at_index → feeder strays port ≡ kept → (at_index ≡ true → is_past ≡ true)
    → feeder (cond (at_node && is_past) (Ports a b ∷ strays) strays) port ≡ cond (at_node && at_index) (Some a) rest
stray_step a rest kept strays port b false at_index is_past later n i f past = f ∙ later
stray_step a rest kept strays port b true false false later n i f past = f ∙ later
stray_step a rest kept strays port b true false true later n i f past = rw (n, i) (f ∙ later)
stray_step a rest kept strays port b true true true later n i f past = rw (n, i) refl
stray_step a rest kept strays port b true true false later n i f past = let e : false ≡ true = past refl in cc

pub feeder-strays : (links : List Link) (port : Port) (c : ℕ) → c ≤ port.index → feeder (filter (is_stray port.node c) links) port ≡ feeder links port
feeder-strays [] port c past = refl
feeder-strays (Order a b ∷ links) port c past = feeder-strays links port c past
feeder-strays (Ports a b ∷ links) port c past =
    stray_step a (feeder links port) _ (filter (is_stray port.node c) links) port b (b.node == port.node) (b.index == port.index) (not (nat_lt b.index c))
    (feeder-strays links port c past) refl refl refl is_past
  where
    is_past : (b.index == port.index) ≡ true → not (nat_lt b.index c) ≡ true
    is_past same = elim (eqb_tells b.index port.index) [
      | inl e ↦ ap not (ap (λ q. nat_lt q c) e.1 ∙ le-ltb port.index c past)
      | inr e ↦ let contrary : true ≡ false = sym same ∙ e.0 in cc
    ]

-- no link leads to a node that isn't there
pub feeder-out : (links : List Link) (count : ℕ) (port : Port) → ((link : Link) → In link links → LinkIsWithin count link) → count ≤ port.node → feeder links port ≡ None
feeder-out [] count port within past = refl
feeder-out (Order a b ∷ links) count port within past = feeder-out links count port (λ link i. within link (inr i)) past
feeder-out (Ports a b ∷ links) count port within past =
    let other : b.node ≢ port.node = λ e. absurd (omega (arith, (within (Ports a b) (inl refl)).1)) in
    ap (λ t. cond (t && (b.index == port.index)) (Some a) (feeder links port)) (eqb-other b.node port.node other)
    ∙ feeder-out links count port (λ link i. within link (inr i)) past
