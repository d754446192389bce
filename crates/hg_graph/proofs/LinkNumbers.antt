-- The numbers of links, by port, as links are added.
use Rattle.std.proofs.Common.{◌≡◌, ◌≢◌, ◌≤◌, ◌+◌, ◌++◌, ◌∷◌, ◌∙◌, ◌==◌, ◌&&◌, [], inl, inr, ℕ, zero, suc, Bool, true, false, if◌then◌else◌, not, nat_lt, List, length, map, filter, replicate, refl, sym, ap, ap₂, subst, arith, add-zero, zero-add}
use Rattle.std.proofs.lemmas.List.{append-nil}
use Rattle.std.proofs.lemmas.List.Elements.{filter-append}
use Rattle.std.proofs.lemmas.Bool.Decides.{eqb_tells}
use Rattle.gp_base.specs.Membership.{In}
use Rattle.hg_graph.specs.Graph.{Link, Ports, Port, numbers}
use Rattle.hg_graph.specs.NodeIndex.{numbers_where, numbers_into, numbers_from, is_into, is_from, is_stray, pushed_at}

-- ---- tests of numbers

pub eqb-self : (a : ℕ) → (a == a) ≡ true
eqb-self a = elim (eqb_tells a a) [ inl e ↦ e.0 | inr e ↦ absurd (e.1 refl) ]

pub eqb-other : (a b : ℕ) → a ≢ b → (a == b) ≡ false
eqb-other a b ne = elim (eqb_tells a b) [ inl e ↦ absurd (ne e.1) | inr e ↦ e.0 ]

pub and-false : (a b : Bool) → b ≡ false → (a && b) ≡ false
and-false true b e = e
and-false false b e = refl

-- ---- one link more

one_if : (b : Bool) (k : ℕ) (whole part tail : List ℕ) → whole ≡ part ++ tail → (if b then k ∷ whole else whole) ≡ (if b then k ∷ part else part) ++ tail
one_if true k whole part tail e = ap (λ ys. k ∷ ys) e
one_if false k whole part tail e = e

numbers_where-append : (test : Link → Bool) (k : ℕ) (links : List Link) (link : Link)
    → numbers_where test k (links ++ link ∷ []) ≡ numbers_where test k links ++ (if test link then (k + length links) ∷ [] else [])
numbers_where-append test k [] link = ap (λ j. if test link then j ∷ [] else []) (sym (add-zero k))
numbers_where-append test k (x ∷ links) link =
    let e : suc k + length links ≡ k + suc (length links) = omega arith in
    one_if (test x) k _ _ _ (numbers_where-append test (suc k) links link ∙ ap (λ j. numbers_where test (suc k) links ++ (if test link then j ∷ [] else [])) e)

pub numbers-other : (test : Link → Bool) (links : List Link) (link : Link) → test link ≡ false → numbers_where test 0 (links ++ link ∷ []) ≡ numbers_where test 0 links
numbers-other test links link fails =
    numbers_where-append test 0 links link ∙ ap (λ b. numbers_where test 0 links ++ (if b then (0 + length links) ∷ [] else [])) fails ∙ append-nil (numbers_where test 0 links)

pub numbers-more : (test : Link → Bool) (links : List Link) (link : Link) → test link ≡ true → numbers_where test 0 (links ++ link ∷ []) ≡ numbers_where test 0 links ++ length links ∷ []
numbers-more test links link passes =
    numbers_where-append test 0 links link ∙ ap (λ b. numbers_where test 0 links ++ (if b then (0 + length links) ∷ [] else [])) passes
    ∙ ap (λ j. numbers_where test 0 links ++ j ∷ []) (zero-add (length links))

pub numbers-none : (test : Link → Bool) (k : ℕ) (links : List Link) → ((link : Link) → In link links → test link ≡ false) → numbers_where test k links ≡ []
numbers-none test k [] none = refl
numbers-none test k (x ∷ links) none =
    ap (λ b. if b then k ∷ numbers_where test (suc k) links else numbers_where test (suc k) links) (none x (inl refl)) ∙ numbers-none test (suc k) links (λ link i. none link (inr i))

-- ---- lists by port

pub length-numbers : (s c : ℕ) → length (numbers s c) ≡ c
length-numbers s zero = refl
length-numbers s (suc c) = ap suc (length-numbers (suc s) c)

pub map-same : {A : Type 0} (f g : ℕ → A) (s c : ℕ) → ((p : ℕ) → s ≤ p → f p ≡ g p) → map f (numbers s c) ≡ map g (numbers s c)
map-same f g s zero same = refl
map-same f g s (suc c) same = ap₂ (λ x xs. x ∷ xs) (same s (omega arith)) (map-same f g (suc s) c (λ p above. same p (omega arith)))

pub map-copies : {A : Type 0} (f : ℕ → A) (x : A) (s c : ℕ) → ((p : ℕ) → f p ≡ x) → map f (numbers s c) ≡ replicate c x
map-copies f x s zero same = refl
map-copies f x s (suc c) same = ap₂ (λ y ys. y ∷ ys) (same s) (map-copies f x (suc s) c same)

map-pushed : (f g : ℕ → List ℕ) (q k s d c : ℕ) → q ≡ s + d → g q ≡ f q ++ k ∷ [] → ((p : ℕ) → q ≢ p → g p ≡ f p) → map g (numbers s c) ≡ pushed_at d k (map f (numbers s c))
map-pushed f g q k s d zero at more other = refl
map-pushed f g q k s zero (suc c) at more other =
    let here : q ≡ s = omega arith in
    ap₂ (λ x xs. x ∷ xs) (subst (λ p. g p ≡ f p ++ k ∷ []) here more) (map-same g f (suc s) c (λ p above. other p (λ e. absurd (omega arith))))
map-pushed f g q k s (suc d) (suc c) at more other =
    let there : q ≢ s = λ e. absurd (omega arith) in
    ap₂ (λ x xs. x ∷ xs) (other s there) (map-pushed f g q k (suc s) d c (omega arith) more other)

-- ---- the links at the ports of node n, with a link of ports more
module _ (links : List Link) (a b : Port) (n c : ℕ) where
  abbrev at_port : ℕ → Port
  at_port p = record { node = n; index = p }

  abbrev longer : List Link
  longer = links ++ Ports a b ∷ []

  pub inputs-same : b.node ≢ n → map (λ p. numbers_into longer (at_port p)) (numbers 0 c) ≡ map (λ p. numbers_into links (at_port p)) (numbers 0 c)
  inputs-same other = map-same _ _ 0 c (λ p _. numbers-other (is_into (at_port p)) links (Ports a b) (ap (λ t. t && (b.index == p)) (eqb-other b.node n other)))

  pub outputs-same : a.node ≢ n → map (λ p. numbers_from longer (at_port p)) (numbers 0 c) ≡ map (λ p. numbers_from links (at_port p)) (numbers 0 c)
  outputs-same other = map-same _ _ 0 c (λ p _. numbers-other (is_from (at_port p)) links (Ports a b) (ap (λ t. t && (a.index == p)) (eqb-other a.node n other)))

  into_port : b.node ≡ n → is_into (at_port b.index) (Ports a b) ≡ true
  into_port here = ap₂ (λ s t. s && t) (ap (λ m. b.node == m) (sym here) ∙ eqb-self b.node) (eqb-self b.index)

  from_port : a.node ≡ n → is_from (at_port a.index) (Ports a b) ≡ true
  from_port here = ap₂ (λ s t. s && t) (ap (λ m. a.node == m) (sym here) ∙ eqb-self a.node) (eqb-self a.index)

  pub inputs-pushed : b.node ≡ n
      → map (λ p. numbers_into longer (at_port p)) (numbers 0 c) ≡ pushed_at b.index (length links) (map (λ p. numbers_into links (at_port p)) (numbers 0 c))
  inputs-pushed here =
      map-pushed (λ p. numbers_into links (at_port p)) (λ p. numbers_into longer (at_port p)) b.index (length links) 0 b.index c (sym (zero-add b.index))
      (numbers-more (is_into (at_port b.index)) links (Ports a b) (into_port here))
      (λ p other. numbers-other (is_into (at_port p)) links (Ports a b) (and-false (b.node == n) (b.index == p) (eqb-other b.index p other)))

  pub outputs-pushed : a.node ≡ n
      → map (λ p. numbers_from longer (at_port p)) (numbers 0 c) ≡ pushed_at a.index (length links) (map (λ p. numbers_from links (at_port p)) (numbers 0 c))
  outputs-pushed here =
      map-pushed (λ p. numbers_from links (at_port p)) (λ p. numbers_from longer (at_port p)) a.index (length links) 0 a.index c (sym (zero-add a.index))
      (numbers-more (is_from (at_port a.index)) links (Ports a b) (from_port here))
      (λ p other. numbers-other (is_from (at_port p)) links (Ports a b) (and-false (a.node == n) (a.index == p) (eqb-other a.index p other)))

  stray_if : (t : Bool) → filter (is_stray n c) links ++ (if not t then Ports a b ∷ [] else []) ≡ (if t then filter (is_stray n c) links else filter (is_stray n c) links ++ Ports a b ∷ [])
  stray_if true = append-nil (filter (is_stray n c) links)
  stray_if false = refl

  pub strays-pushed : b.node ≡ n
      → filter (is_stray n c) longer ≡ (if nat_lt b.index c then filter (is_stray n c) links else filter (is_stray n c) links ++ Ports a b ∷ [])
  strays-pushed here =
      filter-append (is_stray n c) links (Ports a b ∷ [])
      ∙ ap (λ t. filter (is_stray n c) links ++ (if t && not (nat_lt b.index c) then Ports a b ∷ [] else [])) (ap (λ m. b.node == m) (sym here) ∙ eqb-self b.node)
      ∙ stray_if (nat_lt b.index c)

  pub strays-same : b.node ≢ n → filter (is_stray n c) longer ≡ filter (is_stray n c) links
  strays-same other =
      filter-append (is_stray n c) links (Ports a b ∷ [])
      ∙ ap (λ t. filter (is_stray n c) links ++ (if t && not (nat_lt b.index c) then Ports a b ∷ [] else [])) (eqb-other b.node n other)
      ∙ append-nil (filter (is_stray n c) links)
