-- The nodes that walks from a node lead to.
use Rattle.std.proofs.Common.{◌≡◌, ◌≢◌, ◌⊎◌, inl, inr, ℕ, ◌+◌, ◌<◌, ◌≤◌, Bool, true, false, cond, List, [], ◌∷◌, ◌++◌, length, get_or, set, replicate, sym, ap, subst, refl, ◌∙◌, arith}
use Rattle.std.specs.Prelude.{count_by, MatchBool, ◌*◌}
use Rattle.std.proofs.lemmas.Bool.{cases_eq, cases_lt, false≢true}
use Rattle.std.proofs.lemmas.List.{length-set, get_or-set_same, get_or-set_other, get_or_append_left, get_or_push, length_push, length-replicate, get_or-replicate, get_or_past}
use Rattle.std.proofs.lemmas.List.Sums.{sum_by-set, count_by-le-length}
use Rattle.std.proofs.lemmas.List.Folds.{sum_by-replicate}
use Rattle.walks.specs.Walks.{Leads, Walk, once, first}
use Rattle.walks.specs.Counts.{is_marked}
use Rattle.walks.specs.code.Reach.{IsReach, HasGrown}
use Rattle.walks.proofs.WalkLemmas.{walk_on}

abbrev one_if : Bool → ℕ
one_if b = cond b 1 0

pub grown_not : (reached : List Bool) (nodes : List ℕ) → HasGrown reached reached nodes nodes
grown_not reached nodes = record { kept = λ n m. m; longer = omega arith; same = λ i l. refl }

pub grown_on : (a b c : List Bool) (xs ys zs : List ℕ) → HasGrown a b xs ys → HasGrown b c ys zs → HasGrown a c xs zs
grown_on a b c xs ys zs G H = record {
  kept = λ n m. H.kept n (G.kept n m);
  longer = let g = G.longer in let h = H.longer in omega arith;
  same = λ i l. H.same i (let g = G.longer in omega arith) ∙ G.same i l;
}

-- one node is reached
pub reached_one : (lists : List (List ℕ)) (start : ℕ) (reached : List Bool) (nodes : List ℕ) → IsReach lists start reached nodes → (n : ℕ) → n < length lists → Walk lists start n → is_marked reached n ≡ false
    → IsReach lists start (set reached n true) (nodes ++ n ∷ []) × HasGrown reached (set reached n true) nodes (nodes ++ n ∷ []) × (is_marked (set reached n true) n ≡ true)
reached_one lists start reached nodes R n l w new =
    let after : List Bool = set reached n true in
    let more : List ℕ = nodes ++ n ∷ [] in
    let count : length reached ≡ length lists = R.count in
    let longer : length more ≡ length nodes + 1 = length_push nodes n in
    let within : n < length reached = omega arith in
    let here : is_marked after n ≡ true = get_or-set_same reached n true false within in
    let other : (m : ℕ) → m ≢ n → is_marked after m ≡ is_marked reached m = λ m ne. get_or-set_other reached n m true false ne in
    let old : (i : ℕ) → i < length nodes → get_or more i 0 ≡ get_or nodes i 0 = λ i h. get_or_append_left nodes (n ∷ []) 0 i h in
    let last : get_or more (length nodes) 0 ≡ n = get_or_push nodes n 0 (length nodes) refl in
    let kept : (m : ℕ) → is_marked reached m ≡ true → is_marked after m ≡ true = λ m k. elim (cases_eq m n) [ inl e ↦ ap (is_marked after) e ∙ here | inr ne ↦ other m ne ∙ k ] in
    let tallied = sum_by-set one_if reached n true false within in
    let none : one_if (get_or reached n false) ≡ 0 = ap one_if new in
    let was : count_by (λ b. b) reached ≡ length nodes = R.tally in (
      record {
        count = length-set reached n true ∙ R.count;
        tally = omega arith;
        walks = λ m k. elim (cases_eq m n) [ inl e ↦ subst (λ (x : ℕ). Walk lists start x) (sym e) w | inr ne ↦ R.walks m (sym (other m ne) ∙ k) ];
        listed = λ m k. elim (cases_eq m n) [
          | inl e ↦ (length nodes, omega arith, last ∙ sym e)
          | inr ne ↦ let r = R.listed m (sym (other m ne) ∙ k) in (r.0, (let h : r.0 < length nodes = r.1 in omega arith), old r.0 r.1 ∙ r.2)
        ];
        marked = λ i h. elim (cases_eq i (length nodes)) [
          | inl e ↦ ap (λ x. is_marked after (get_or more x 0)) e ∙ ap (is_marked after) last ∙ here
          | inr ne ↦ let h' : i < length nodes = omega arith in ap (is_marked after) (old i h') ∙ kept (get_or nodes i 0) (R.marked i h')
        ];
      },
      record { kept = kept; longer = omega arith; same = old },
      here,
    )

pub reach_starts : (lists : List (List ℕ)) (start : ℕ) (reached : List Bool) (nodes : List ℕ) → reached ≡ replicate (length lists) false → nodes ≡ [] → IsReach lists start reached nodes
reach_starts lists start reached nodes re ne =
    let count : length reached ≡ length lists = ap length re ∙ length-replicate (length lists) false in
    let none : (n : ℕ) → is_marked reached n ≡ false = λ n. elim (cases_lt n (length lists)) [
      | inl l ↦ ap (λ xs. get_or xs n false) re ∙ get_or-replicate (length lists) n false false l
      | inr l ↦ get_or_past reached n false (omega arith)
    ] in
    let empty : length nodes ≡ 0 = ap length ne in
    record {
      count = count;
      tally = ap (count_by (λ b. b)) re ∙ sum_by-replicate one_if (length lists) false ∙ (let z : length lists * 0 ≡ 0 = omega arith in z) ∙ sym empty;
      walks = λ n m. absurd (false≢true (sym (none n) ∙ m));
      listed = λ n m. absurd (false≢true (sym (none n) ∙ m));
      marked = λ i l. absurd (omega arith);
    }

-- no more nodes are reached than there are
pub few_reached : (lists : List (List ℕ)) (start : ℕ) (reached : List Bool) (nodes : List ℕ) → IsReach lists start reached nodes → length nodes ≤ length lists
few_reached lists start reached nodes R = let h = count_by-le-length (λ b. b) reached in let e = R.count in let t = R.tally in omega arith

-- where the start and all nodes that were reached have been followed, all have been reached
led_reached : (lists : List (List ℕ)) (start : ℕ) (reached : List Bool) → ((b : ℕ) → Leads lists start b → is_marked reached b ≡ true)
    → ((a b : ℕ) → is_marked reached a ≡ true → Leads lists a b → is_marked reached b ≡ true) → (a b : ℕ) → (a ≡ start) ⊎ (is_marked reached a ≡ true) → Leads lists a b → is_marked reached b ≡ true
led_reached lists start reached begun on a b (inl e) l = begun b (subst (λ (m : ℕ). Leads lists m b) e l)
led_reached lists start reached begun on a b (inr m) l = on a b m l

all_reached : (lists : List (List ℕ)) (start : ℕ) (reached : List Bool) → ((b : ℕ) → Leads lists start b → is_marked reached b ≡ true)
    → ((a b : ℕ) → is_marked reached a ≡ true → Leads lists a b → is_marked reached b ≡ true) → (a n : ℕ) → (a ≡ start) ⊎ (is_marked reached a ≡ true) → Walk lists a n → is_marked reached n ≡ true
all_reached lists start reached begun on a n h (once l) = led_reached lists start reached begun on a n h l
all_reached lists start reached begun on a n h (first l w) = all_reached lists start reached begun on _ n (inr (led_reached lists start reached begun on a _ h l)) w

pub tells_back : (lists : List (List ℕ)) (start k : ℕ) (reached : List Bool) (nodes : List ℕ) → IsReach lists start reached nodes → length nodes ≤ k → ((b : ℕ) → Leads lists start b → is_marked reached b ≡ true)
    → ((i : ℕ) → i < k → i < length nodes → (b : ℕ) → Leads lists (get_or nodes i 0) b → is_marked reached b ≡ true) → (b : Bool) → b ≡ is_marked reached start
    → MatchBool b (Walk lists start start) (Walk lists start start → ⊥)
tells_back lists start k reached nodes R l begun done true e = R.walks start (sym e)
tells_back lists start k reached nodes R l begun done false e = λ w.
    false≢true (e ∙ all_reached lists start reached begun
    (λ a b m i. let r = R.listed a m in let h : r.0 < length nodes = r.1 in done r.0 (omega arith) r.1 b (subst (λ (x : ℕ). Leads lists x b) (sym r.2) i))
    start start (inl refl) w)

pub walk_to : (lists : List (List ℕ)) (start node n : ℕ) (reached : List Bool) (nodes : List ℕ) → IsReach lists start reached nodes → (node ≡ start) ⊎ (is_marked reached node ≡ true) → Leads lists node n → Walk lists start n
walk_to lists start node n reached nodes R h i = elim h [
  | inl e ↦ once (subst (λ (m : ℕ). Leads lists m n) e i)
  | inr m ↦ walk_on lists start node n (R.walks node m) (once i)
]
