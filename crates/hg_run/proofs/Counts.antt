-- A tree of counts.
use Rattle.std.proofs.Common.{◌≡◌, ◌≢◌, ◌⊎◌, inl, inr, ℕ, zero, suc, ◌+◌, ◌-◌, ◌*◌, ◌/◌, ◌^◌, ◌<◌, ◌≤◌, Bool, true, false, cond, List, [], ◌∷◌, length, take, set, get_or, Some, refl, sym, ap, ap₂, ◌∙◌, subst, arith}
use Rattle.std.specs.Prelude.{slice_get, nat_lt}
use Rattle.std.proofs.lemmas.Bool.{cases_order, cases_lt}
use Rattle.std.proofs.lemmas.List.{get_or-set_same, get_or-set_other, length-set, take_all}
use Rattle.std.proofs.lemmas.Nat.{pow_pos}
use Rattle.std.proofs.Math.Nat.{two-pow-succ}
use Rattle.std.proofs.Math.Pow.{pow_mono}
use Rattle.hg_run.specs.code.CountedSetView.{one_if, ones, count_at, IsSumAt, AreSumsBut, IsTree}

-- a node below the flags has what its children have
abbrev Sums : (ℕ → ℕ) → ℕ → Type 0
Sums t m = (q : ℕ) → 0 < q → q < m → t q ≡ t (2 * q) + t (2 * q + 1)

-- so many counts together, from one on
abbrev pub span : (ℕ → ℕ) → ℕ → ℕ → ℕ
span t b zero = 0
span t b (suc i) = span t b i + t (b + i)

-- what is left of a node has as much as what is left of its first child
span_double : (t : ℕ → ℕ) (m b i : ℕ) → Sums t m → 0 < b → b + i ≤ m → span t (2 * b) (2 * i) ≡ span t b i
span_double t m b zero sums l h = refl
span_double t m b (suc i) sums l h =
    let e : 2 * suc i ≡ suc (suc (2 * i)) = omega arith in
    let first : 2 * b + 2 * i ≡ 2 * (b + i) = omega arith in
    let second : 2 * b + suc (2 * i) ≡ 2 * (b + i) + 1 = omega arith in
    let whole = sums (b + i) (omega (arith, l)) (omega (arith, h)) in
    let before = span_double t m b i sums l (omega (arith, h)) in
    let more : span t (2 * b) (2 * i) + t (2 * b + 2 * i) + t (2 * b + suc (2 * i)) ≡ span t b i + t (b + i) = omega (arith, whole, before, ap t first, ap t second) in
    ap (span t (2 * b)) e ∙ more

-- the root has as much as all on one level
span_all : (t : ℕ → ℕ) (m j : ℕ) → Sums t m → 2 ^ j ≤ m → span t (2 ^ j) (2 ^ j) ≡ t 1
span_all t m zero sums h = omega arith
span_all t m (suc j) sums h =
    let e : 2 ^ suc j ≡ 2 * 2 ^ j = omega (arith, two-pow-succ j) in
    ap (λ w. span t w w) e ∙ (span_double t m (2 ^ j) (2 ^ j) sums (pow_pos j) (omega (arith, h, e)) ∙ span_all t m j sums (omega (arith, h, e)))

-- ---- the flags
ones_more : (flags : List Bool) (i : ℕ) → ones (take (suc i) flags) ≡ ones (take i flags) + one_if (get_or flags i false)
ones_more [] zero = refl
ones_more [] (suc i) = refl
ones_more (flag ∷ flags) zero = omega arith
ones_more (flag ∷ flags) (suc i) = let e = ones_more flags i in omega (arith, e)

get_true : (flags : List Bool) (i : ℕ) → get_or flags i false ≡ true → slice_get flags i ≡ Some true
get_true [] i e = absurd cc
get_true (flag ∷ flags) zero e = ap Some e
get_true (flag ∷ flags) (suc i) e = get_true flags i e

lt_no : (m n : ℕ) → n ≤ m → nat_lt m n ≡ false
lt_no m n l = grind arith

lt_yes : (m n : ℕ) → m < n → nat_lt m n ≡ true
lt_yes m n l = grind arith

module _ (flags : List Bool) (counts : List ℕ) where
  count_leaf : (i : ℕ) → count_at flags counts (length counts + i) ≡ one_if (get_or flags i false)
  count_leaf i =
      ap (λ t. cond t (get_or counts (length counts + i) 0) (one_if (get_or flags (length counts + i - length counts) false))) (lt_no (length counts + i) (length counts) (omega arith))
      ∙ ap (λ k. one_if (get_or flags k false)) (let e : length counts + i - length counts ≡ i = omega arith in e)

  count_inner : (k : ℕ) → k < length counts → count_at flags counts k ≡ get_or counts k 0
  count_inner k l = ap (λ t. cond t (get_or counts k 0) (one_if (get_or flags (k - length counts) false))) (lt_yes k (length counts) l)

  leaf_span : (i : ℕ) → span (count_at flags counts) (length counts) i ≡ ones (take i flags)
  leaf_span zero = refl
  leaf_span (suc i) = ap₂ (λ a b. a + b) (leaf_span i) (count_leaf i) ∙ sym (ones_more flags i)

  tree_sums : (depth : ℕ) → IsTree flags counts depth → Sums (count_at flags counts) (length counts)
  tree_sums depth tree q l h = count_inner q h ∙ tree.sums q l h (λ e. omega (arith, l, e))

  pub root : (depth : ℕ) → IsTree flags counts depth → count_at flags counts 1 ≡ ones flags
  root depth tree =
      sym (span_all (count_at flags counts) (length counts) depth (tree_sums depth tree) (omega (arith, tree.width)))
      ∙ (ap (λ w. span (count_at flags counts) w w) (sym tree.width) ∙ (leaf_span (length counts) ∙ ap ones (take_all (length counts) flags tree.wide)))

  -- the search down the tree
  pub record IsOnWay (rank level width place rest : ℕ) : Type 0 where
    pub is_power : width ≡ 2 ^ level
    pub within : place < width
    pub left : span (count_at flags counts) width place + rest ≡ rank
    pub here : rest < count_at flags counts (width + place)

  module _ (depth : ℕ) (tree : IsTree flags counts depth) (rank : ℕ) where
    pub at_root : rank < ones flags → IsOnWay rank 0 1 0 rank
    at_root l = record { is_power = refl; within = omega arith; left = omega arith; here = omega (arith, root depth tree, l) }

    -- a node on the way is above the flags
    pub above : (level width place rest : ℕ) → level < depth → IsOnWay rank level width place rest → width + place < length counts
    above level width place rest l way =
        let p : 2 ^ suc level ≤ 2 ^ depth = pow_mono (omega (arith, l)) in
        omega (arith, p, two-pow-succ level, way.is_power, way.within, tree.width)

    module _ (level width place rest : ℕ) (l : level < depth) (way : IsOnWay rank level width place rest) where
      wide : 0 < width
      wide = omega (arith, way.within)

      in_tree : width + place < length counts
      in_tree = above level width place rest l way

      next_width : width * 2 ≡ 2 ^ (level + 1)
      next_width = let e : level + 1 ≡ suc level = omega arith in omega (arith, way.is_power, two-pow-succ level, ap (λ n. 2 ^ n) e)

      doubled : span (count_at flags counts) (width * 2) (place * 2) ≡ span (count_at flags counts) width place
      doubled =
          ap₂ (span (count_at flags counts)) (let e : width * 2 ≡ 2 * width = omega arith in e) (let e : place * 2 ≡ 2 * place = omega arith in e)
          ∙ span_double (count_at flags counts) (length counts) width place (tree_sums depth tree) wide (omega (arith, in_tree))

      child : count_at flags counts (2 * (width + place)) ≡ count_at flags counts (width * 2 + place * 2)
      child = ap (count_at flags counts) (let e : 2 * (width + place) ≡ width * 2 + place * 2 = omega arith in e)

      pub to_left : rest < count_at flags counts (2 * (width + place)) → IsOnWay rank (level + 1) (width * 2) (place * 2) rest
      to_left h = record { is_power = next_width; within = omega (arith, way.within); left = omega (arith, doubled, way.left); here = omega (arith, h, child) }

      pub to_right : count_at flags counts (2 * (width + place)) ≤ rest → IsOnWay rank (level + 1) (width * 2) (place * 2 + 1) (rest - count_at flags counts (2 * (width + place)))
      to_right h = record {
        is_power = next_width;
        within = omega (arith, way.within);
        left = ap (λ n. span (count_at flags counts) (width * 2) n + (rest - count_at flags counts (2 * (width + place)))) (let e : place * 2 + 1 ≡ suc (place * 2) = omega arith in e) ∙ omega (arith, doubled, way.left, child, h);
        here = let e = tree_sums depth tree (width + place) (omega (arith, wide)) in_tree in
            let s : 2 * (width + place) + 1 ≡ width * 2 + (place * 2 + 1) = omega arith in omega (arith, e, ap (count_at flags counts) s, way.here, h);
      }

    -- at the flags
    module _ (level width place rest : ℕ) (at_end : level ≡ depth) (way : IsOnWay rank level width place rest) where
      all_wide : width ≡ length counts
      all_wide = omega (arith, way.is_power, tree.width, ap (λ n. 2 ^ n) at_end)

      at_flag : rest < one_if (get_or flags place false)
      at_flag = let e : width + place ≡ length counts + place = omega (arith, all_wide) in omega (arith, way.here, ap (count_at flags counts) e, count_leaf place)

      flag_set : (flag : Bool) → rest < one_if flag → (flag ≡ true) × (rest ≡ 0)
      flag_set true h = (refl, omega (arith, h))
      flag_set false h = absurd (omega (arith, h))

      pub found : slice_get flags place ≡ Some true
      found = get_true flags place (flag_set (get_or flags place false) at_flag).0

      pub rank_before : ones (take place flags) ≡ rank
      rank_before =
          omega (arith, leaf_span place, ap (λ w. span (count_at flags counts) w place) all_wide, way.left, (flag_set (get_or flags place false) at_flag).1)

-- ---- a change
count_flag : (flags : List Bool) (counts : List ℕ) (place k : ℕ) (flag : Bool) → place < length flags → k ≢ length counts + place → count_at (set flags place flag) counts k ≡ count_at flags counts k
count_flag flags counts place k flag l ne = go (cases_lt k (length counts))
  where
    go : (k < length counts) ⊎ (length counts ≤ k) → count_at (set flags place flag) counts k ≡ count_at flags counts k
    go (inl h) = count_inner (set flags place flag) counts k h ∙ sym (count_inner flags counts k h)
    go (inr h) = ap (λ b. cond (nat_lt k (length counts)) (get_or counts k 0) (one_if b)) (get_or-set_other flags place (k - length counts) flag false (λ e. ne (omega (arith, e, h))))

count_set : (flags : List Bool) (counts : List ℕ) (at k v : ℕ) → k ≢ at → count_at flags (set counts at v) k ≡ count_at flags counts k
count_set flags counts at k v ne =
    ap (λ m. cond (nat_lt k m) (get_or (set counts at v) k 0) (one_if (get_or flags (k - m) false))) (length-set counts at v)
    ∙ ap (λ n. cond (nat_lt k (length counts)) n (one_if (get_or flags (k - length counts) false))) (get_or-set_other counts at k v 0 ne)

-- after a change of a flag
pub sums_flag : (flags : List Bool) (counts : List ℕ) (depth place : ℕ) (flag : Bool) → IsTree flags counts depth → place < length flags → AreSumsBut (set flags place flag) counts ((length counts + place) / 2)
sums_flag flags counts depth place flag tree l q p h ne =
    tree.sums q p h (λ e. omega (arith, e, p))
    ∙ sym (ap₂ (λ a b. a + b) (count_flag flags counts place (2 * q) flag l (λ e. ne (omega (arith, e)))) (count_flag flags counts place (2 * q + 1) flag l (λ e. ne (omega (arith, e)))))

-- after one node is made good
pub sums_up : (flags : List Bool) (counts : List ℕ) (at v : ℕ) → 0 < at → at < length counts → v ≡ count_at flags counts (2 * at) + count_at flags counts (2 * at + 1) → AreSumsBut flags counts at → AreSumsBut flags (set counts at v) (at / 2)
sums_up flags counts at v p h e sums q r s ne = go (cases_order q at)
  where
    below : q < length counts
    below = omega (arith, s, length-set counts at v)

    other : q ≢ at → IsSumAt flags (set counts at v) q
    other d =
        get_or-set_other counts at q v 0 d
        ∙ (sums q r below d
        ∙ sym (ap₂ (λ a b. a + b) (count_set flags counts at (2 * q) v (λ e. ne (omega (arith, e)))) (count_set flags counts at (2 * q + 1) v (λ e. ne (omega (arith, e))))))

    go : (q ≡ at) ⊎ ((q < at) ⊎ (at < q)) → IsSumAt flags (set counts at v) q
    go (inl d) =
        subst (IsSumAt flags (set counts at v)) (sym d)
        (get_or-set_same counts at v 0 h
        ∙ (e
        ∙ sym (ap₂ (λ a b. a + b) (count_set flags counts at (2 * at) v (λ e. omega (arith, e, p))) (count_set flags counts at (2 * at + 1) v (λ e. omega (arith, e, p))))))
    go (inr (inl d)) = other (λ e. omega (arith, e, d))
    go (inr (inr d)) = other (λ e. omega (arith, e, d))

-- ---- no count is past the number of places
module _ (flags : List Bool) (counts : List ℕ) (at : ℕ) (sums : AreSumsBut flags counts at) where
  flag_small : (b : Bool) → one_if b ≤ 1
  flag_small true = omega arith
  flag_small false = omega arith

  leaf_small : (k : ℕ) → length counts ≤ k → count_at flags counts k ≤ 1
  leaf_small k h = let e : length counts + (k - length counts) ≡ k = omega (arith, h) in omega (arith, ap (count_at flags counts) e, count_leaf flags counts (k - length counts), flag_small (get_or flags (k - length counts) false))

  times_small : (c k : ℕ) → c ≤ 1 → c * k ≤ k
  times_small zero k h = omega arith
  times_small (suc zero) k h = omega arith
  times_small (suc (suc c)) k h = absurd (omega (arith, h))

  -- from the two below
  from_two : (k : ℕ) → at < k → k < 2 * length counts
      → (k < length counts → count_at flags counts (2 * k) * (2 * k) ≤ 2 * length counts) → (k < length counts → count_at flags counts (2 * k + 1) * (2 * k + 1) ≤ 2 * length counts)
      → (k < length counts) ⊎ (length counts ≤ k) → count_at flags counts k * k ≤ 2 * length counts
  from_two k l h left right (inr d) = omega (arith, times_small (count_at flags counts k) k (leaf_small k d), h)
  from_two k l h left right (inl d) =
      let e = count_inner flags counts k d ∙ sums k (omega (arith, l)) d (λ e. omega (arith, e, l)) in
      omega (arith, ap (λ n. n * k) e, left d, right d)

  bounded : (fuel k : ℕ) → 2 * length counts ≤ k + fuel → at < k → k < 2 * length counts → count_at flags counts k * k ≤ 2 * length counts
  bounded zero k f l h = absurd (omega (arith, f, h))
  bounded (suc fuel) k f l h =
      from_two k l h (λ d. bounded fuel (2 * k) (omega (arith, f, l)) (omega (arith, l)) (omega (arith, d))) (λ d. bounded fuel (2 * k + 1) (omega (arith, f, l)) (omega (arith, l)) (omega (arith, d)))
      (cases_lt k (length counts))

  at_most : (c k : ℕ) → 0 < k → c ≤ c * k
  at_most c zero h = absurd (omega (arith, h))
  at_most c (suc k) h = omega arith

  pub small : (k : ℕ) → at < k → k < 2 * length counts → count_at flags counts k ≤ 2 * length counts
  small k l h = omega (arith, bounded (2 * length counts) k (omega arith) l h, at_most (count_at flags counts k) k (omega (arith, l)))

  -- below a node at most half of that
  pub half_small : (k : ℕ) → at < k → 1 < k → k < 2 * length counts → count_at flags counts k ≤ length counts
  half_small k l o h = omega (arith, bounded (2 * length counts) k (omega arith) l h, twice (count_at flags counts k) k o)
    where
      twice : (c k : ℕ) → 1 < k → 2 * c ≤ c * k
      twice c zero h = absurd (omega (arith, h))
      twice c (suc zero) h = absurd (omega (arith, h))
      twice c (suc (suc k)) h = omega arith
