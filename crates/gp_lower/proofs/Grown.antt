-- One more line, one more node and two more links.
use Rattle.std.proofs.Common.{◌≡◌, ℕ, zero, suc, ◌+◌, ◌<◌, ◌≤◌, List, [], ◌∷◌, ◌++◌, length, map, take, get_or, refl, sym, ap, subst, ◌∙◌, arith, length-append}
use Rattle.std.proofs.lemmas.List.{take_more, length-take-le, take_all}
use Rattle.gp_lower.specs.declared.thin_text.ThinLine.{ThinLine}
use Rattle.gp_lower.specs.declared.thin_text.ThinLine.TheVariants as line
use Rattle.hg_graph.specs.Graph.{Node, Link, Ports, Order, Graph}
use Rattle.hg_graph.specs.Thin.{ThinGate, H, X, gate_op, in_main, chain, thin_graph}
use Rattle.gp_lower.specs.code.Growing.{grown}
use Rattle.gp_lower.specs.Thin.{line_op, complete_lines, AreComplete}

-- the two links from one node to another
abbrev pub step : ℕ → ℕ → List Link
step m n = Ports (record { node = m; index = 0 }) (record { node = n; index = 0 }) ∷ Order m n ∷ []

-- a chain is longer by a step at its end
pub chain-suc : (n count : ℕ) → chain n (suc count) ≡ chain n count ++ step (n + count) (suc (n + count))
chain-suc n zero = let e : n + 0 ≡ n = omega arith in rw e refl
chain-suc n (suc count) =
    let e : n + suc count ≡ suc n + count = omega arith in
    rw e (ap (λ links. Ports (record { node = n; index = 0 }) (record { node = suc n; index = 0 }) ∷ Order n (suc n) ∷ links) (chain-suc (suc n) count))

map-snoc : {A B : Type 0} (f : A → B) (xs : List A) (x : A) → map f (xs ++ x ∷ []) ≡ map f xs ++ f x ∷ []
map-snoc f [] x = refl
map-snoc f (y ∷ ys) x = ap (λ zs. f y ∷ zs) (map-snoc f ys x)

pub nodes-grown : (lines : List ThinLine) (x : ThinLine) → (grown (lines ++ x ∷ [])).nodes ≡ (grown lines).nodes ++ in_main (line_op x) ∷ []
nodes-grown lines x = rw (map-snoc line_op lines x, map-snoc in_main (map line_op lines) (line_op x)) refl

pub links-grown : (lines : List ThinLine) (x : ThinLine) → (grown (lines ++ x ∷ [])).links ≡ (grown lines).links ++ step (4 + length lines) (suc (4 + length lines))
links-grown lines x =
    let e : length (lines ++ x ∷ []) ≡ suc (length lines) = omega (arith, length-append lines (x ∷ [])) in
    rw e (chain-suc 4 (length lines))

pub length-grown : (lines : List ThinLine) → length (grown lines).nodes ≡ 5 + length lines
length-grown [] = refl
length-grown (x ∷ lines) = omega (arith, length-grown lines)

-- the ops of complete lines are those of a thin graph
ops : (gates : List ThinGate) → map line_op (complete_lines gates) ≡ map gate_op gates ++ line_op line.Discard ∷ []
ops [] = refl
ops (H ∷ gates) = ap (λ xs. line_op line.H ∷ xs) (ops gates)
ops (X ∷ gates) = ap (λ xs. line_op line.X ∷ xs) (ops gates)

length-complete_lines : (gates : List ThinGate) → length (complete_lines gates) ≡ suc (length gates)
length-complete_lines [] = refl
length-complete_lines (x ∷ gates) = ap suc (length-complete_lines gates)

-- the graph of complete lines is the thin graph
pub grown-complete_lines : (gates : List ThinGate) → grown (complete_lines gates) ≡ thin_graph gates
unfolding thin_graph
grown-complete_lines gates = rw (ops gates, length-complete_lines gates) refl

graph-is : (g h : Graph) → g.nodes ≡ h.nodes → g.links ≡ h.links → g ≡ h
graph-is g h n l =
    let made : List Node → List Link → Graph = λ ns ls. record { nodes = ns; links = ls } in
    ap (λ ns. made ns g.links) n ∙ ap (λ ls. made h.nodes ls) l

-- one more line is one more node, which the node before it leads to
pub grows : (items : List ThinLine) (k : ℕ) (x : ThinLine) (old new : Graph) (last : ℕ)
    → k < length items → old ≡ grown (take k items) → last ≡ 4 + k
    → new.nodes ≡ old.nodes ++ in_main (line_op (get_or items k x)) ∷ [] → new.links ≡ old.links ++ step last (length old.nodes)
    → new ≡ grown (take (k + 1) items)
grows items k x old new last within was at nodes links =
    let lines = take k items in
    let y = get_or items k x in
    let more = take_more items k x within in
    let count : length lines ≡ k = length-take-le k items (omega arith) in
    let here : last ≡ 4 + length lines = omega (arith, at, count) in
    let there : length (grown lines).nodes ≡ suc (4 + length lines) = omega (arith, length-grown lines) in
    let n : new.nodes ≡ (grown (lines ++ y ∷ [])).nodes = nodes ∙ ap (λ g. g.nodes ++ in_main (line_op y) ∷ []) was ∙ sym (nodes-grown lines y) in
    let l : new.links ≡ (grown (lines ++ y ∷ [])).links =
    links ∙ rw (was, here) (ap (λ m. (grown lines).links ++ step (4 + length lines) m) there) ∙ sym (links-grown lines y) in
    rw more (graph-is new (grown (lines ++ y ∷ [])) n l)

-- after all lines the graph is the thin one
pub done : (items lines : List ThinLine) (k : ℕ) (g : Graph) (gates : List ThinGate)
    → length items ≤ k → items ≡ lines → g ≡ grown (take k items) → lines ≡ complete_lines gates → g ≡ thin_graph gates
done items lines k g gates past same was complete =
    was ∙ ap grown (take_all k items past ∙ same ∙ complete) ∙ grown-complete_lines gates

-- the number that the next node gets
pub counted : (items : List ThinLine) (k : ℕ) (g : Graph) → k < length items → g ≡ grown (take k items) → length g.nodes ≡ 4 + (k + 1)
counted items k g within was =
    ap (λ h. length h.nodes) was ∙ omega (arith, length-grown (take k items), length-take-le k items (omega arith))

-- so what holds of all thin graphs holds of it
pub holds : (items lines : List ThinLine) (k : ℕ) (g : Graph) (P : Graph → Type 0)
    → ((gates : List ThinGate) → P (thin_graph gates)) → AreComplete lines → length items ≤ k → items ≡ lines → g ≡ grown (take k items) → P g
holds items lines k g P all complete past same was = subst P (sym (done items lines k g complete.0 past same was complete.1)) (all complete.0)
