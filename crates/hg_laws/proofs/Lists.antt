-- Elements of lists, and sums over lists.
use Rattle.std.proofs.Common.{◌≡◌, ◌≢◌, ◌⊎◌, inl, inr, ⊎_elim, ℕ, zero, suc, ◌+◌, ◌<◌, ◌≤◌, Bool, true, false, cond, ◌&&◌, eqb, List, [], ◌∷◌, length, filter, filter_map, Option, Some, None, refl, sym, ap, ap₂, ◌∙◌, subst, arith}
use Rattle.std.proofs.lemmas.Bool.Decides.{eqb_tells}
use Rattle.std.specs.List.{cons_option}
use Rattle.std.specs.Prelude.{slice_get}
use Rattle.gp_base.specs.Membership.{In}
use Rattle.hg_graph.specs.Graph.{numbers}

-- each element once
abbrev pub Distinct : {A : Type 0} → List A → Type 0
Distinct [] = Unit {0}
Distinct (x ∷ xs) = (In x xs → ⊥) × Distinct xs

abbrev pub cons_if : {A : Type 0} → Bool → A → List A → List A
cons_if b x xs = cond b (x ∷ xs) xs

-- ---- filter and filter_map
In-cons_if : {A : Type 0} (b : Bool) (a x : A) (xs : List A) → In x (cond b (a ∷ xs) xs) → ((x ≡ a) × (b ≡ true)) ⊎ In x xs
In-cons_if true a x xs (inl e) = inl (e, refl)
In-cons_if true a x xs (inr i) = inr i
In-cons_if false a x xs i = inr i

pub In-filter : {A : Type 0} (test : A → Bool) (xs : List A) (x : A) → In x (filter test xs) → In x xs × (test x ≡ true)
In-filter test [] x i = absurd i
In-filter test (a ∷ xs) x i =
    ⊎_elim (λ h. (inl h.0, ap test h.0 ∙ h.1)) (λ j. let r = In-filter test xs x j in (inr r.0, r.1)) (In-cons_if (test a) a x (filter test xs) i)

into_cons_if : {A : Type 0} (b : Bool) (a x : A) (xs : List A) → ((x ≡ a) × (b ≡ true)) ⊎ In x xs → In x (cond b (a ∷ xs) xs)
into_cons_if true a x xs (inl e) = inl e.0
into_cons_if true a x xs (inr i) = inr i
into_cons_if false a x xs (inl e) = absurd (cc)
into_cons_if false a x xs (inr i) = i

pub In-filter_back : {A : Type 0} (test : A → Bool) (xs : List A) (x : A) → In x xs → test x ≡ true → In x (filter test xs)
In-filter_back test [] x i t = absurd i
In-filter_back test (a ∷ xs) x (inl e) t = into_cons_if (test a) a x (filter test xs) (inl (e, ap test (sym e) ∙ t))
In-filter_back test (a ∷ xs) x (inr i) t = into_cons_if (test a) a x (filter test xs) (inr (In-filter_back test xs x i t))

In-cons_option : {A : Type 0} (o : Option A) (x : A) (xs : List A) → In x (cons_option o xs) → (o ≡ Some x) ⊎ In x xs
In-cons_option None x xs i = inr i
In-cons_option (Some a) x xs (inl e) = inl (ap Some (sym e))
In-cons_option (Some a) x xs (inr i) = inr i

into_cons_option : {A : Type 0} (o : Option A) (x : A) (xs : List A) → (o ≡ Some x) ⊎ In x xs → In x (cons_option o xs)
into_cons_option None x xs (inl e) = absurd cc
into_cons_option None x xs (inr i) = i
into_cons_option (Some a) x xs (inl e) = inl cc
into_cons_option (Some a) x xs (inr i) = inr i

pub In-filter_map : {A B : Type 0} (h : A → Option B) (xs : List A) (y : B) → In y (filter_map h xs) → (x : A) × In x xs × (h x ≡ Some y)
In-filter_map h [] y i = absurd i
In-filter_map h (a ∷ xs) y i =
    ⊎_elim (λ e. (a, inl refl, e)) (λ j. let r = In-filter_map h xs y j in (r.0, inr r.1, r.2)) (In-cons_option (h a) y (filter_map h xs) i)

pub In-filter_map_back : {A B : Type 0} (h : A → Option B) (xs : List A) (x : A) (y : B) → In x xs → h x ≡ Some y → In y (filter_map h xs)
In-filter_map_back h [] x y i e = absurd i
In-filter_map_back h (a ∷ xs) x y (inl p) e = into_cons_option (h a) y (filter_map h xs) (inl (ap h (sym p) ∙ e))
In-filter_map_back h (a ∷ xs) x y (inr i) e = into_cons_option (h a) y (filter_map h xs) (inr (In-filter_map_back h xs x y i e))

-- ---- sums
unfoldable pub total : {A : Type 0} → (A → ℕ) → List A → ℕ
total f [] = 0
total f (x ∷ xs) = f x + total f xs

pub total-nil : {A : Type 0} (f : A → ℕ) → total f [] ≡ 0
unfolding total
total-nil f = refl

pub total-cons : {A : Type 0} (f : A → ℕ) (x : A) (xs : List A) → total f (x ∷ xs) ≡ f x + total f xs
unfolding total
total-cons f x xs = refl

-- four sums, element by element
pub total_four : {A : Type 0} (f g h k : A → ℕ) (xs : List A) → ((x : A) → In x xs → f x + g x ≡ h x + k x) → total f xs + total g xs ≡ total h xs + total k xs
unfolding total
total_four f g h k [] e = refl
total_four f g h k (x ∷ xs) e =
    let here : f x + g x ≡ h x + k x = e x (inl refl) in
    let rest = total_four f g h k xs (λ y i. e y (inr i)) in
    omega arith

pub total_same : {A : Type 0} (f g : A → ℕ) (xs : List A) → ((x : A) → In x xs → f x ≡ g x) → total f xs ≡ total g xs
unfolding total
total_same f g [] e = refl
total_same f g (x ∷ xs) e = ap₂ ◌+◌ (e x (inl refl)) (total_same f g xs (λ y i. e y (inr i)))

pub total_zero : {A : Type 0} (f : A → ℕ) (xs : List A) → ((x : A) → In x xs → f x ≡ 0) → total f xs ≡ 0
unfolding total
total_zero f [] e = refl
total_zero f (x ∷ xs) e = let a = e x (inl refl) in let b = total_zero f xs (λ y i. e y (inr i)) in omega arith

-- k numbers from p on
unfoldable pub ports : (ℕ → ℕ) → ℕ → ℕ → ℕ
ports f p zero = 0
ports f p (suc k) = f p + ports f (suc p) k

pub ports-zero : (f : ℕ → ℕ) (p : ℕ) → ports f p 0 ≡ 0
unfolding ports
ports-zero f p = refl

pub ports-suc : (f : ℕ → ℕ) (p k : ℕ) → ports f p (suc k) ≡ f p + ports f (suc p) k
unfolding ports
ports-suc f p k = refl

pub ports_same : (f g : ℕ → ℕ) (p k : ℕ) → ((j : ℕ) → p ≤ j → j < p + k → f j ≡ g j) → ports f p k ≡ ports g p k
unfolding ports
ports_same f g p zero e = refl
ports_same f g p (suc k) e = ap₂ ◌+◌ (e p (omega arith) (omega arith)) (ports_same f g (suc p) k (λ j a b. e j (omega arith) (omega arith)))

ports_none : (f : ℕ → ℕ) (p k : ℕ) → ((j : ℕ) → p ≤ j → f j ≡ 0) → ports f p k ≡ 0
unfolding ports
ports_none f p zero e = refl
ports_none f p (suc k) e = let a = e p (omega arith) in let b = ports_none f (suc p) k (λ j l. e j (omega arith)) in omega arith

ports_add : (f g : ℕ → ℕ) (p k : ℕ) → ports (λ j. f j + g j) p k ≡ ports f p k + ports g p k
unfolding ports
ports_add f g p zero = refl
ports_add f g p (suc k) = let r = ports_add f g (suc p) k in omega arith

-- one of the ports
ports_one : (b : Bool) (t c p k : ℕ) → p ≤ t → t < p + k → ports (λ j. cond (b && eqb t j) c 0) p k ≡ cond b c 0
unfolding ports
ports_one b t c p zero l h = absurd (omega arith)
ports_one false t c p (suc k) l h = ports_none (λ j. 0) p (suc k) (λ j _. refl)
ports_one true t c p (suc k) l h =
    elim (eqb_tells t p) [
      | inl e ↦ let r = ports_none (λ j. cond (eqb t j) c 0) (suc p) k (λ j le. elim (eqb_tells t j) [ inl x ↦ absurd (omega (arith, x.1, e.1)) | inr x ↦ ap (λ z. cond z c 0) x.0 ]) in
          let f : cond (eqb t p) c 0 ≡ c = ap (λ z. cond z c 0) e.0 in omega arith
      | inr e ↦ let ne = e.1 in let r = ports_one true t c (suc p) k (lt_of ne l) (omega arith) in
          let f : cond (eqb t p) c 0 ≡ 0 = ap (λ z. cond z c 0) e.0 in omega arith
    ]
  where
    lt_of : t ≢ p → p ≤ t → suc p ≤ t
    lt_of ne l = omega arith

-- a sum over the elements of each key, where each key is one of the ports
pub by_ports : {A : Type 0} (mine : A → Bool) (key : A → ℕ) (f : A → ℕ) (k : ℕ) (xs : List A) → ((x : A) → In x xs → mine x ≡ true → key x < k) → total (λ x. cond (mine x) (f x) 0) xs ≡ ports (λ j. total (λ x. cond (mine x && eqb (key x) j) (f x) 0) xs) 0 k
unfolding total
by_ports mine key f k [] h = sym (ports_none (λ j. 0) 0 k (λ j _. refl))
by_ports mine key f k (x ∷ xs) h =
    ap₂ ◌+◌ (sym (one (mine x) refl)) (by_ports mine key f k xs (λ y i. h y (inr i)))
    ∙ sym (ports_add (λ j. cond (mine x && eqb (key x) j) (f x) 0) (λ j. total (λ y. cond (mine y && eqb (key y) j) (f y) 0) xs) 0 k)
  where
    one : (b : Bool) → mine x ≡ b → ports (λ j. cond (b && eqb (key x) j) (f x) 0) 0 k ≡ cond b (f x) 0
    one false e = ports_none (λ j. 0) 0 k (λ j _. refl)
    one true e = ports_one true (key x) (f x) 0 k (omega arith) (let l = h x (inl refl) e in omega arith)

-- ---- a list in which each element has one before it goes in a circle
pub circle : {A : Type 0} (P : A → A → Type 0) → ((a b c : A) → P a b → P b c → P a c) → (x : A) (xs : List A) → ((y : A) → In y (x ∷ xs) → (z : A) × In z (x ∷ xs) × P z y) → (y : A) × P y y
circle P trans x [] h =
    let r = h x (inl refl) in
    elim r.1 [ inl e ↦ (x, subst (λ z. P z x) e r.2) | inr i ↦ absurd i ]
circle {A = A} P trans x (a ∷ xs) h =
    let first = h x (inl refl) in
    let rest : (z : A) × In z (x ∷ a ∷ xs) × P z x → (y : A) × P y y = λ r. elim r.1 [
      | inl e ↦ (x, subst (λ z. P z x) e r.2)
      | inr i ↦ circle P trans a xs (λ y iy. let s = h y (inr iy) in elim s.1 [ inl e ↦ (r.0, i, trans r.0 x y r.2 (subst (λ z. P z y) e s.2)) | inr j ↦ (s.0, j, s.2) ])
    ] in
    rest first

-- ---- numbers that count up
pub In-numbers : (a n x : ℕ) → In x (numbers a n) → (a ≤ x) × (x < a + n)
In-numbers a zero x i = absurd i
In-numbers a (suc n) x (inl e) = (omega arith, omega arith)
In-numbers a (suc n) x (inr i) = let r = In-numbers (suc a) n x i in (omega arith, omega arith)

pub In-numbers_back : (a n x : ℕ) → a ≤ x → x < a + n → In x (numbers a n)
In-numbers_back a zero x l h = absurd (omega arith)
In-numbers_back a (suc n) x l h = elim (eqb_tells x a) [ inl e ↦ inl e.1 | inr e ↦ inr (In-numbers_back (suc a) n x (above e.1 l) (omega arith)) ]
  where
    above : x ≢ a → a ≤ x → suc a ≤ x
    above ne le = omega arith

pub Distinct-numbers : (a n : ℕ) → Distinct (numbers a n)
Distinct-numbers a zero = tt
Distinct-numbers a (suc n) = (λ i. let r = In-numbers (suc a) n a i in absurd (omega arith), Distinct-numbers (suc a) n)

Distinct-cond : {A : Type 0} (b : Bool) (x : A) (xs : List A) → (In x xs → ⊥) → Distinct xs → Distinct (cond b (x ∷ xs) xs)
Distinct-cond true x xs n d = (n, d)
Distinct-cond false x xs n d = d

pub Distinct-filter : {A : Type 0} (test : A → Bool) (xs : List A) → Distinct xs → Distinct (filter test xs)
Distinct-filter test [] d = tt
Distinct-filter test (x ∷ xs) d = Distinct-cond (test x) x (filter test xs) (λ i. d.0 (In-filter test xs x i).0) (Distinct-filter test xs d.1)

pub get_within : {A : Type 0} (xs : List A) (p : ℕ) (x : A) → slice_get xs p ≡ Some x → p < length xs
get_within [] p x e = absurd cc
get_within (y ∷ xs) zero x e = omega arith
get_within (y ∷ xs) (suc p) x e = let r = get_within xs p x e in omega arith
