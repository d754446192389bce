-- Reading entries one after the other, as a loop does.
use Rattle.std.proofs.Common.{◌≡◌, ℕ, suc, ◌+◌, ◌<◌, ◌≤◌, List, [], ◌∷◌, ◌++◌, length, drop, get_or, Option, Some, None, Result, Ok, Err, refl, sym, ap, ◌∙◌, append_assoc, arith}
use Rattle.std.proofs.lemmas.List.{append-nil, drop_more, drop_all}
use Rattle.serde_json.specs.Data.{Data, Items}
use Rattle.serde_json.specs.View.{view, items_view}
use Rattle.serde_json.specs.declared.value.Value.{Value}
use Rattle.hg_json.specs.declared.fault.JsonFault.{JsonFault}
use Rattle.hg_json.specs.declared.fault.JsonFault.TheVariants as fault
use Rattle.hg_graph.specs.Graph.{Node, Graph}
use Rattle.hg_json.specs.declared.fault.Miss.{Miss}
use Rattle.hg_json.specs.declared.fault.Miss.TheVariants as miss
use Rattle.hg_json.specs.Reading.{Refusal, BadLink, all_of, after, or_refuse, each, link_of, linked}
use Rattle.hg_json.specs.Steps.{◌>>=◌}
use Rattle.hg_json.specs.code.Found.{Misses}
use Rattle.hg_json.specs.Answers.{Refuses}

-- ---- items that all have to stand for something

-- what was found before, and then the rest
abbrev pub with_found : {A : Type 0} → List A → Option (List A) → Option (List A)
with_found front found = found >>= λ xs. Some (front ++ xs)

regroup_found : {A : Type 0} (front : List A) (x : A) (found : Option (List A)) → with_found front (found >>= λ xs. Some (x ∷ xs)) ≡ with_found (front ++ x ∷ []) found
regroup_found front x (Some xs) = ap Some (sym (append_assoc front (x ∷ []) xs))
regroup_found front x None = refl

module _ {A : Type 0} (f : Data → Option A) (front : List A) (vs : List Value) (k : ℕ) (total : Option (List A)) (so_far : with_found front (all_of f (items_view (drop k vs))) ≡ total) where
  pub next_found : (v : Value) (x : A) → k < length vs → v ≡ get_or vs k v → f (view v) ≡ Some x → with_found (front ++ x ∷ []) (all_of f (items_view (drop (k + 1) vs))) ≡ total
  unfolding all_of
  next_found v x lt is h =
      let here : drop k vs ≡ v ∷ drop (k + 1) vs = drop_more vs k v lt ∙ ap (λ y. y ∷ drop (k + 1) vs) (sym is) in
      let one : with_found front (all_of f (items_view (drop k vs))) ≡ with_found (front ++ x ∷ []) (all_of f (items_view (drop (k + 1) vs))) = rw (here, h) (regroup_found front x (all_of f (items_view (drop (k + 1) vs)))) in
      sym one ∙ so_far

  pub missed : (e : Miss) (v : Value) → k < length vs → v ≡ get_or vs k v → Misses e (f (view v)) → Misses e total
  unfolding all_of
  missed miss.Memory v lt is h = tt
  missed miss.Shape v lt is h =
      let here : drop k vs ≡ v ∷ drop (k + 1) vs = drop_more vs k v lt ∙ ap (λ y. y ∷ drop (k + 1) vs) (sym is) in
      let one : with_found front (all_of f (items_view (drop k vs))) ≡ None = rw (here, h) refl in
      sym so_far ∙ one

  pub all_found : length vs ≤ k → total ≡ Some front
  unfolding all_of
  all_found le =
      let one : with_found front (all_of f (items_view (drop k vs))) ≡ Some front = rw (drop_all k vs le) (ap Some (append-nil front)) in
      sym so_far ∙ one

-- ---- entries, of which the first that stands for nothing is named

-- what was read before, and then the rest
abbrev pub with_front : {A : Type 0} → List A → Result (List A) Refusal → Result (List A) Refusal
with_front front read = after read (λ xs. Ok (front ++ xs))

regroup : {A : Type 0} (front : List A) (x : A) (read : Result (List A) Refusal) → with_front front (after read (λ xs. Ok (x ∷ xs))) ≡ with_front (front ++ x ∷ []) read
regroup front x (Ok xs) = ap Ok (sym (append_assoc front (x ∷ []) xs))
regroup front x (Err e) = refl

module _ {A : Type 0} (f : Data → Option A) (r : ℕ → Refusal) (front : List A) (vs : List Value) (k : ℕ) (total : Result (List A) Refusal) (so_far : with_front front (each f r k (items_view (drop k vs))) ≡ total) where
  pub goes_on : (v : Value) (x : A) → k < length vs → v ≡ get_or vs k v → or_refuse (r k) (f (view v)) ≡ Ok x → with_front (front ++ x ∷ []) (each f r (k + 1) (items_view (drop (k + 1) vs))) ≡ total
  unfolding each
  goes_on v x lt is h =
      let here : drop k vs ≡ v ∷ drop (k + 1) vs = drop_more vs k v lt ∙ ap (λ y. y ∷ drop (k + 1) vs) (sym is) in
      let next : suc k ≡ k + 1 = omega arith in
      let one : with_front front (each f r k (items_view (drop k vs))) ≡ with_front (front ++ x ∷ []) (each f r (k + 1) (items_view (drop (k + 1) vs))) = rw (here, h, sym next) (regroup front x (each f r (suc k) (items_view (drop (suc k) vs)))) in
      sym one ∙ so_far

  refused_at : (e : Refusal) (v : Value) → k < length vs → v ≡ get_or vs k v → or_refuse (r k) (f (view v)) ≡ Err e → total ≡ Err e
  unfolding each
  refused_at e v lt is h =
      let here : drop k vs ≡ v ∷ drop (k + 1) vs = drop_more vs k v lt ∙ ap (λ y. y ∷ drop (k + 1) vs) (sym is) in
      let one : with_front front (each f r k (items_view (drop k vs))) ≡ Err e = rw (here, h) refl in
      sym so_far ∙ one

  pub ends : (e : JsonFault) (v : Value) → k < length vs → v ≡ get_or vs k v → Refuses e (or_refuse (r k) (f (view v))) → Refuses e total
  ends fault.NotJson v lt is h = refused_at _ v lt is h
  ends fault.Top v lt is h = refused_at _ v lt is h
  ends fault.Version v lt is h = refused_at _ v lt is h
  ends (fault.Node n) v lt is h = refused_at _ v lt is h
  ends (fault.Link n) v lt is h = refused_at _ v lt is h
  ends fault.Memory v lt is h = tt

  pub is_done : length vs ≤ k → total ≡ Ok front
  unfolding each
  is_done le =
      let one : with_front front (each f r k (items_view (drop k vs))) ≡ Ok front = rw (drop_all k vs le) (ap Ok (append-nil front)) in
      sym so_far ∙ one

-- ---- a graph whose links are read

pub linked_done : (g : Graph) (nodes : List Node) (edges : Items) → g.nodes ≡ nodes → each (link_of (length nodes)) BadLink 0 edges ≡ Ok g.links → linked nodes edges ≡ Ok g
unfolding linked
linked_done g nodes edges same read = rw (read, ← same) refl

pub linked_refused : (nodes : List Node) (edges : Items) (e : JsonFault) → Refuses e (each (link_of (length nodes)) BadLink 0 edges) → Refuses e (linked nodes edges)
unfolding linked
linked_refused nodes edges fault.NotJson h = rw h refl
linked_refused nodes edges fault.Top h = rw h refl
linked_refused nodes edges fault.Version h = rw h refl
linked_refused nodes edges (fault.Node k) h = rw h refl
linked_refused nodes edges (fault.Link k) h = rw h refl
linked_refused nodes edges fault.Memory h = tt
