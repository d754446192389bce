-- The steps of a search for the greatest counts.
use Rattle.std.proofs.Common.{◌≡◌, ◌≢◌, ◌⊎◌, inl, inr, ℕ, suc, ◌+◌, ◌-◌, ◌<◌, ◌≤◌, Bool, true, false, cond, eqb, List, [], ◌∷◌, ◌++◌, length, get_or, set, sym, ap, subst, refl, ◌∙◌, arith, sum, take, map}
use Rattle.std.proofs.lemmas.Bool.{cases_eq, cases_lt, ne_eqb}
use Rattle.std.proofs.lemmas.List.{length-set, length-map, get_or-map, get_or_past, get_or_default, take_all, take_more, get_or-set_same, get_or-set_other, get_or_append_left, get_or_push, length_push}
use Rattle.std.proofs.lemmas.List.Sums.{sum_by-set, count_by-le-length}
use Rattle.walks.specs.Walks.{row, Leads, Walk, once, first, WalkBy, IsClosed}
use Rattle.walks.specs.Counts.{mark, is_marked, marked_count, IsCounted, AreCounted}
use Rattle.walks.specs.Cycles.{HasCycle, NoneBack}
use Rattle.walks.specs.code.Search.{IsOpen, IsLeft, IsSearch, IsLast, HasGoneOn, left_count}
use Rattle.walks.proofs.WalkLemmas.{place_in, in_place, walk_on}

-- ---- one entry written

pub stays_zero : (xs : List ℕ) (a y n : ℕ) → 0 < get_or xs a 0 → get_or xs n 0 ≡ 0 → get_or (set xs a y) n 0 ≡ 0
stays_zero xs a y n p z =
    let ne : n ≢ a = λ e. absurd (let f : get_or xs n 0 ≡ get_or xs a 0 = ap (λ m. get_or xs m 0) e in omega arith) in
    get_or-set_other xs a n y 0 ne ∙ z

pub falls_at : (xs : List ℕ) (a y : ℕ) → a < length xs → y ≤ get_or xs a 0 → (n : ℕ) → get_or (set xs a y) n 0 ≤ get_or xs n 0
falls_at xs a y l h n =
    elim (cases_eq n a) [
      | inl e ↦ subst (λ m. get_or (set xs a y) m 0 ≤ get_or xs m 0) (sym e) (let f = get_or-set_same xs a y 0 l in omega arith)
      | inr ne ↦ let f = get_or-set_other xs a n y 0 ne in omega arith
    ]

abbrev is_left : ℕ → ℕ
is_left s = cond (eqb s 0) 1 0

not_left_yet : (s : ℕ) → 0 < s → is_left s ≡ 0
not_left_yet s h = ap (λ b. cond b 1 0) (ne_eqb s 0 (λ e. absurd (omega arith)))

pub left_more : (steps : List ℕ) (a y : ℕ) → a < length steps → 0 < get_or steps a 0 → left_count steps ≤ left_count (set steps a y)
left_more steps a y l p =
    let e = sum_by-set is_left steps a y 0 l in
    let z : is_left (get_or steps a 0) ≡ 0 = not_left_yet (get_or steps a 0) p in
    omega arith

pub left_one_more : (steps : List ℕ) (a : ℕ) → a < length steps → 0 < get_or steps a 0 → left_count (set steps a 0) ≡ suc (left_count steps)
left_one_more steps a l p =
    let e = sum_by-set is_left steps a 0 0 l in
    let z : is_left (get_or steps a 0) ≡ 0 = not_left_yet (get_or steps a 0) p in
    omega arith

-- ---- nodes that have been left

left_kept : (lists : List (List ℕ)) (marks : List Bool) (steps steps' counts counts' : List ℕ) (n : ℕ) → IsLeft lists marks steps counts n
    → get_or counts' n 0 ≡ get_or counts n 0 → left_count steps ≤ left_count steps' → IsLeft lists marks steps' counts' n
left_kept lists marks steps steps' counts counts' n L e more = record {
  counted = subst (λ (c : ℕ). IsCounted lists marks n c) (sym e) L.counted;
  few = let h = L.few in omega arith;
  none_back = L.none_back;
}

led_left : (lists : List (List ℕ)) (marks : List Bool) (steps path counts : List ℕ) → IsSearch lists marks steps path counts
    → (n : ℕ) → get_or steps n 0 ≤ 1 → (b : ℕ) → Leads lists n b → get_or steps b 0 ≡ 0
led_left lists marks steps path counts S n z b l =
    let r = place_in b (row lists n) l in
    sym (ap (λ m. get_or steps m 0) r.2) ∙ S.looked n r.0 r.1 (omega arith)

-- from a node that has been left, walks lead to such nodes only
left_led : (lists : List (List ℕ)) (marks : List Bool) (steps path counts : List ℕ) → IsSearch lists marks steps path counts
    → (n b : ℕ) → get_or steps n 0 ≡ 0 → Walk lists n b → get_or steps b 0 ≡ 0
left_led lists marks steps path counts S n b z (once l) = led_left lists marks steps path counts S n (omega arith) b l
left_led lists marks steps path counts S n b z (first l w) = left_led lists marks steps path counts S _ b (led_left lists marks steps path counts S n (omega arith) _ l) w

-- no walk leads back to a node of which one step is left
last_not_back : (lists : List (List ℕ)) (marks : List Bool) (steps path counts : List ℕ) → IsSearch lists marks steps path counts
    → (a b : ℕ) → get_or steps a 0 ≡ 1 → Walk lists a b → get_or steps b 0 ≡ 0
last_not_back lists marks steps path counts S a b o (once l) = led_left lists marks steps path counts S a (omega arith) b l
last_not_back lists marks steps path counts S a b o (first l w) = left_led lists marks steps path counts S _ b (led_left lists marks steps path counts S a (omega arith) _ l) w

-- ---- a look at a node that has been left

pub search_looked : (lists : List (List ℕ)) (marks : List Bool) (steps path counts : List ℕ) → IsSearch lists marks steps path counts
    → (a k : ℕ) → IsOpen lists steps a → get_or steps a 0 ≡ k + 2 → get_or steps (get_or (row lists a) k 0) 0 ≡ 0
    → IsSearch lists marks (set steps a (k + 1)) path counts
search_looked lists marks steps path counts S a k O is was =
    let steps' : List ℕ = set steps a (k + 1) in
    let isn : a < length lists = O.is_node in
    let sc : length steps ≡ length lists = S.step_count in
    let within_steps : a < length steps = omega arith in
    let some : 0 < get_or steps a 0 = omega arith in
    let here : get_or steps' a 0 ≡ k + 1 = get_or-set_same steps a (k + 1) 0 within_steps in
    let other : (n : ℕ) → n ≢ a → get_or steps' n 0 ≡ get_or steps n 0 = λ n ne. get_or-set_other steps a n (k + 1) 0 ne in
    let falls : (n : ℕ) → get_or steps' n 0 ≤ get_or steps n 0 = falls_at steps a (k + 1) within_steps (omega arith) in
    let stay : (n : ℕ) → get_or steps n 0 ≡ 0 → get_or steps' n 0 ≡ 0 = λ n z. stays_zero steps a (k + 1) n some z in
    record {
      step_count = length-set steps a (k + 1) ∙ S.step_count;
      count_count = S.count_count;
      within = λ n. let h = S.within n in let f = falls n in omega arith;
      looked = λ b j l h. stay _ (elim (cases_eq b a) [
        | inl e ↦
            elim (cases_eq j k) [
              | inl f ↦ subst (λ (m : ℕ). get_or steps (get_or (row lists m) j 0) 0 ≡ 0) (sym e) (subst (λ (m : ℕ). get_or steps (get_or (row lists a) m 0) 0 ≡ 0) (sym f) was)
              | inr f ↦ S.looked b j l (let p : get_or steps b 0 ≡ get_or steps a 0 = ap (λ m. get_or steps m 0) e in let q : get_or steps' b 0 ≡ get_or steps' a 0 = ap (λ m. get_or steps' m 0) e in omega arith)
            ]
        | inr ne ↦ S.looked b j l (let p = other b ne in omega arith)
      ]);
      on_path = λ n P. S.on_path n (record {
        is_node = P.is_node;
        entered = elim (cases_eq n a) [
          | inl e ↦ subst (λ (m : ℕ). get_or steps m 0 ≤ length (row lists m) + 1) (sym e) O.entered
          | inr ne ↦ let p = other n ne in let h = P.entered in omega arith
        ];
        not_left = let f = falls n in let h = P.not_left in omega arith;
      });
      opened = λ i l. let P = S.opened i l in record {
        is_node = P.is_node;
        entered = let f = falls (get_or path i 0) in let h = P.entered in omega arith;
        not_left = elim (cases_eq (get_or path i 0) a) [
          | inl e ↦ let p : get_or steps' (get_or path i 0) 0 ≡ get_or steps' a 0 = ap (λ m. get_or steps' m 0) e in omega arith
          | inr ne ↦ let p = other (get_or path i 0) ne in let h = P.not_left in omega arith
        ];
      };
      apart = S.apart;
      walks = S.walks;
      left = λ n l z.
          let was_zero : get_or steps n 0 ≡ 0 = elim (cases_eq n a) [
            | inl e ↦ absurd (let p : get_or steps' n 0 ≡ get_or steps' a 0 = ap (λ m. get_or steps' m 0) e in omega arith)
            | inr ne ↦ let p = other n ne in omega arith
          ] in
          left_kept lists marks steps steps' counts counts n (S.left n l was_zero) refl (left_more steps a (k + 1) within_steps some);
    }

-- ---- a new node is entered

pub search_entered : (lists : List (List ℕ)) (marks : List Bool) (steps path counts : List ℕ) → IsSearch lists marks steps path counts
    → (b : ℕ) → b < length lists → get_or steps b 0 ≡ length (row lists b) + 2 → ((i : ℕ) → i < length path → Walk lists (get_or path i 0) b)
    → IsSearch lists marks (set steps b (length (row lists b) + 1)) (path ++ b ∷ []) counts
search_entered lists marks steps path counts S b isn is comes =
    let y : ℕ = length (row lists b) + 1 in
    let steps' : List ℕ = set steps b y in
    let path' : List ℕ = path ++ b ∷ [] in
    let sc : length steps ≡ length lists = S.step_count in
    let longer : length path' ≡ length path + 1 = length_push path b in
    let within_steps : b < length steps = omega arith in
    let some : 0 < get_or steps b 0 = omega arith in
    let here : get_or steps' b 0 ≡ y = get_or-set_same steps b y 0 within_steps in
    let other : (n : ℕ) → n ≢ b → get_or steps' n 0 ≡ get_or steps n 0 = λ n ne. get_or-set_other steps b n y 0 ne in
    let falls : (n : ℕ) → get_or steps' n 0 ≤ get_or steps n 0 = falls_at steps b y within_steps (omega arith) in
    let stay : (n : ℕ) → get_or steps n 0 ≡ 0 → get_or steps' n 0 ≡ 0 = λ n z. stays_zero steps b y n some z in
    let old : (i : ℕ) → i < length path → get_or path' i 0 ≡ get_or path i 0 = λ i l. get_or_append_left path (b ∷ []) 0 i l in
    let new : get_or path' (length path) 0 ≡ b = get_or_push path b 0 (length path) refl in
    let not_new : (i : ℕ) → i < length path → get_or path i 0 ≢ b = λ i l e.
    let h = (S.opened i l).entered in
    let f : get_or steps (get_or path i 0) 0 ≡ get_or steps b 0 = ap (λ m. get_or steps m 0) e in
    let g : length (row lists (get_or path i 0)) ≡ length (row lists b) = ap (λ m. length (row lists m)) e in
    absurd (omega arith) in
    record {
      step_count = length-set steps b y ∙ S.step_count;
      count_count = S.count_count;
      within = λ n. let h = S.within n in let f = falls n in omega arith;
      looked = λ c j l h. stay _ (elim (cases_eq c b) [
        | inl e ↦ absurd (
            let p : get_or steps' c 0 ≡ get_or steps' b 0 = ap (λ m. get_or steps' m 0) e in
            let g : length (row lists c) ≡ length (row lists b) = ap (λ m. length (row lists m)) e in
            omega arith)
        | inr ne ↦ S.looked c j l (let p = other c ne in omega arith)
      ]);
      on_path = λ n P. elim (cases_eq n b) [
        | inl e ↦ (length path, omega arith, new ∙ sym e)
        | inr ne ↦
            let p = other n ne in
            let h = P.entered in
            let k = P.not_left in
            let r = S.on_path n (record { is_node = P.is_node; entered = omega arith; not_left = omega arith }) in
            (r.0, omega arith, old r.0 r.1 ∙ r.2)
      ];
      opened = λ i l. elim (cases_eq i (length path)) [
        | inl e ↦ subst (λ (m : ℕ). IsOpen lists steps' m) (sym new ∙ sym (ap (λ m. get_or path' m 0) e)) (record { is_node = isn; entered = omega arith; not_left = omega arith })
        | inr ne ↦
            let l' : i < length path = omega arith in
            let P = S.opened i l' in
            let p = other (get_or path i 0) (not_new i l') in
            subst (λ (m : ℕ). IsOpen lists steps' m) (sym (old i l')) (record {
              is_node = P.is_node;
              entered = let h = P.entered in omega arith;
              not_left = let h = P.not_left in omega arith;
            })
      ];
      apart = λ i j l h e.
          let i' : i < length path = omega arith in
          elim (cases_eq j (length path)) [
            | inl f ↦ not_new i i' (sym (old i i') ∙ e ∙ ap (λ m. get_or path' m 0) f ∙ new)
            | inr f ↦ let j' : j < length path = omega arith in S.apart i j l j' (sym (old i i') ∙ e ∙ old j j')
          ];
      walks = λ i j l h.
          let i' : i < length path = omega arith in
          subst (λ (m : ℕ). Walk lists m (get_or path' j 0)) (sym (old i i')) (elim (cases_eq j (length path)) [
            | inl f ↦ subst (λ (m : ℕ). Walk lists (get_or path i 0) m) (sym new ∙ sym (ap (λ m. get_or path' m 0) f)) (comes i i')
            | inr f ↦ let j' : j < length path = omega arith in subst (λ (m : ℕ). Walk lists (get_or path i 0) m) (sym (old j j')) (S.walks i j l j')
          ]);
      left = λ n l z.
          let was_zero : get_or steps n 0 ≡ 0 = elim (cases_eq n b) [
            | inl e ↦ absurd (let p : get_or steps' n 0 ≡ get_or steps' b 0 = ap (λ m. get_or steps' m 0) e in omega arith)
            | inr ne ↦ let p = other n ne in omega arith
          ] in
          left_kept lists marks steps steps' counts counts n (S.left n l was_zero) refl (left_more steps b y within_steps some);
    }

-- ---- the last node of the path is left

-- the greatest count of the nodes to which a node leads
pub record IsGreatest (nodes counts : List ℕ) (best : ℕ) : Type 0 where
  pub each : (k : ℕ) → k < length nodes → get_or counts (get_or nodes k 0) 0 ≤ best
  pub one : (best ≡ 0) ⊎ ((k : ℕ) × (k < length nodes) × (get_or counts (get_or nodes k 0) 0 ≡ best))

at_most : (b : Bool) → cond b 1 0 ≤ 1
at_most true = omega arith
at_most false = omega arith

pub greatest_of : (nodes counts counts' : List ℕ) (best : ℕ) → counts ≡ counts' → ((k : ℕ) → k < length nodes → get_or counts (get_or nodes k 0) 0 ≤ best)
    → (best ≡ 0) ⊎ ((k : ℕ) × (k < length nodes) × (get_or counts (get_or nodes k 0) 0 ≡ best)) → IsGreatest nodes counts' best
greatest_of nodes counts counts' best e each one = subst (λ (xs : List ℕ). IsGreatest nodes xs best) e (record { each = each; one = one })

-- the node's count, with those of the nodes to which it leads
counted_now : (lists : List (List ℕ)) (marks : List Bool) (counts : List ℕ) (a best : ℕ) → ((b : ℕ) → Leads lists a b → (get_or counts b 0 ≤ best) × IsCounted lists marks b (get_or counts b 0))
    → (best ≡ 0) ⊎ ((b : ℕ) × Leads lists a b × (get_or counts b 0 ≡ best)) → IsCounted lists marks a (mark marks a + best)
counted_now lists marks counts a best led one = elim one [
  | inl e ↦ record { nodes = []; walk = tt; meets = ap (λ c. mark marks a + c) (sym e); most = most }
  | inr w ↦
      let C : IsCounted lists marks w.0 (get_or counts w.0 0) = (led w.0 w.1).1 in
      record { nodes = w.0 ∷ C.nodes; walk = (w.1, C.walk); meets = ap (λ c. mark marks a + c) (C.meets ∙ w.2); most = most }
]
  where
    most : (others : List ℕ) → WalkBy lists a others → marked_count marks (a ∷ others) ≤ mark marks a + best
    most [] w = omega arith
    most (b ∷ others) w = let h = (led b w.0).0 in let k = (led b w.0).1.most others w.1 in omega arith

pub search_left : (lists : List (List ℕ)) → IsClosed lists → (marks : List Bool) (steps before counts : List ℕ) (a best : ℕ) → IsSearch lists marks steps (before ++ a ∷ []) counts
    → get_or steps a 0 ≡ 1 → IsGreatest (row lists a) counts best → IsSearch lists marks (set steps a 0) before (set counts a (mark marks a + best))
search_left lists C marks steps before counts a best S is G =
    let path : List ℕ = before ++ a ∷ [] in
    let steps' : List ℕ = set steps a 0 in
    let counts' : List ℕ = set counts a (mark marks a + best) in
    let sc : length steps ≡ length lists = S.step_count in
    let cc' : length counts ≡ length lists = S.count_count in
    let longer : length path ≡ length before + 1 = length_push before a in
    let old : (i : ℕ) → i < length before → get_or path i 0 ≡ get_or before i 0 = λ i l. get_or_append_left before (a ∷ []) 0 i l in
    let last : get_or path (length before) 0 ≡ a = get_or_push before a 0 (length before) refl in
    let O : IsOpen lists steps a = subst (λ (m : ℕ). IsOpen lists steps m) last (S.opened (length before) (omega arith)) in
    let isn : a < length lists = O.is_node in
    let within_steps : a < length steps = omega arith in
    let within_counts : a < length counts = omega arith in
    let some : 0 < get_or steps a 0 = omega arith in
    let here : get_or steps' a 0 ≡ 0 = get_or-set_same steps a 0 0 within_steps in
    let other : (n : ℕ) → n ≢ a → get_or steps' n 0 ≡ get_or steps n 0 = λ n ne. get_or-set_other steps a n 0 0 ne in
    let falls : (n : ℕ) → get_or steps' n 0 ≤ get_or steps n 0 = falls_at steps a 0 within_steps (omega arith) in
    let stay : (n : ℕ) → get_or steps n 0 ≡ 0 → get_or steps' n 0 ≡ 0 = λ n z. stays_zero steps a 0 n some z in
    let not_here : (x : ℕ) → get_or steps x 0 ≡ 0 → x ≢ a = λ x z e. absurd (let f : get_or steps x 0 ≡ get_or steps a 0 = ap (λ m. get_or steps m 0) e in omega arith) in
    let same : (x : ℕ) → get_or steps x 0 ≡ 0 → get_or counts' x 0 ≡ get_or counts x 0 = λ x z. get_or-set_other counts a x (mark marks a + best) 0 (not_here x z) in
    let is_apart : (i : ℕ) → i < length before → get_or before i 0 ≢ a = λ i l e. S.apart i (length before) l (omega arith) (old i l ∙ e ∙ sym last) in
    let more : left_count steps' ≡ suc (left_count steps) = left_one_more steps a within_steps some in
    let kept : (n : ℕ) → n < length lists → get_or steps n 0 ≡ 0 → IsLeft lists marks steps' counts' n = λ n l z.
    left_kept lists marks steps steps' counts counts' n (S.left n l z) (same n z) (omega arith) in
    let led : (b : ℕ) → Leads lists a b → get_or steps b 0 ≡ 0 = led_left lists marks steps path counts S a (omega arith) in
    let mine : get_or counts' a 0 ≡ mark marks a + best = get_or-set_same counts a (mark marks a + best) 0 within_counts in
    let counted : IsCounted lists marks a (mark marks a + best) = counted_now lists marks counts a best
    (λ b m. (
      let r = place_in b (row lists a) m in
          let g : get_or counts (get_or (row lists a) r.0 0) 0 ≡ get_or counts b 0 = ap (λ m. get_or counts m 0) r.2 in
          let h = G.each r.0 r.1 in omega arith,
      (S.left b (C.within a b m) (led b m)).counted,
    ))
    (elim G.one [
      | inl d ↦ inl d
      | inr w ↦ inr (get_or (row lists a) w.0 0, in_place (row lists a) w.0 w.1, w.2)
    ]) in
    record {
      step_count = length-set steps a 0 ∙ S.step_count;
      count_count = length-set counts a (mark marks a + best) ∙ S.count_count;
      within = λ n. let h = S.within n in let f = falls n in omega arith;
      looked = λ c j l h. stay _ (elim (cases_eq c a) [
        | inl e ↦ S.looked c j l (let f : get_or steps c 0 ≡ get_or steps a 0 = ap (λ m. get_or steps m 0) e in omega arith)
        | inr ne ↦ S.looked c j l (let p = other c ne in omega arith)
      ]);
      on_path = λ n P.
          let ne : n ≢ a = λ e. absurd (let h = P.not_left in let f : get_or steps' n 0 ≡ get_or steps' a 0 = ap (λ m. get_or steps' m 0) e in omega arith) in
          let p = other n ne in
          let h = P.entered in
          let k = P.not_left in
          let r = S.on_path n (record { is_node = P.is_node; entered = omega arith; not_left = omega arith }) in
          let not_last : r.0 ≢ length before = λ e. ne (sym r.2 ∙ ap (λ m. get_or path m 0) e ∙ last) in
          let shorter : r.0 < length path = r.1 in
          let l : r.0 < length before = omega arith in
          (r.0, l, sym (old r.0 l) ∙ r.2);
      opened = λ i l.
          let P : IsOpen lists steps (get_or before i 0) = subst (λ (m : ℕ). IsOpen lists steps m) (old i l) (S.opened i (omega arith)) in
          let p = other (get_or before i 0) (is_apart i l) in
          record {
            is_node = P.is_node;
            entered = let h = P.entered in omega arith;
            not_left = let h = P.not_left in omega arith;
          };
      apart = λ i j l h e. let i' : i < length before = omega arith in S.apart i j l (omega arith) (old i i' ∙ e ∙ sym (old j h));
      walks = λ i j l h.
          let i' : i < length before = omega arith in
          subst (λ (m : ℕ). Walk lists m (get_or before j 0)) (old i i') (subst (λ (m : ℕ). Walk lists (get_or path i 0) m) (old j h) (S.walks i j l (omega arith)));
      left = λ n l z. elim (cases_eq n a) [
        | inr ne ↦ kept n l (sym (other n ne) ∙ z)
        | inl e ↦ subst (λ (m : ℕ). IsLeft lists marks steps' counts' m) (sym e) (record {
          counted = subst (λ (c : ℕ). IsCounted lists marks a c) (sym mine) counted;
          few = let h : mark marks a ≤ 1 = at_most (is_marked marks a) in
              elim G.one [
                | inl d ↦ omega arith
                | inr w ↦
                    let b : ℕ = get_or (row lists a) w.0 0 in
                    let m : Leads lists a b = in_place (row lists a) w.0 w.1 in
                    let q : get_or counts b 0 ≡ best = w.2 in
                    let f = (S.left b (C.within a b m) (led b m)).few in
                    omega arith
              ];
          none_back = λ w. let f = last_not_back lists marks steps path counts S a a is w in omega arith;
        })
      ];
    }

-- ---- the steps of the code

open_in : (lists : List (List ℕ)) (marks : List Bool) (steps path counts : List ℕ) → IsSearch lists marks steps path counts → (a : ℕ) → IsLast path a → IsOpen lists steps a
open_in lists marks steps path counts S a L =
    let some : 0 < length path = L.some in
    subst (λ (m : ℕ). IsOpen lists steps m) L.last (S.opened (length path - 1) (omega arith))

pub last_is_open : (lists : List (List ℕ)) (marks : List Bool) (steps path counts : List ℕ) (a : ℕ) → IsSearch lists marks steps path counts → IsLast path a
    → (a < length lists) × (a < length steps) × (a < length counts) × (0 < get_or steps a 0) × (get_or steps a 0 ≤ length (row lists a) + 1)
last_is_open lists marks steps path counts a S L =
    let O = open_in lists marks steps path counts S a L in
    let isn : a < length lists = O.is_node in
    let s : length steps ≡ length lists = S.step_count in
    let k : length counts ≡ length lists = S.count_count in
    (isn, omega arith, omega arith, O.not_left, O.entered)

-- each node to which a node leads is one
pub led_in : (lists : List (List ℕ)) → IsClosed lists → (a k : ℕ) → k < length (row lists a) → get_or (row lists a) k 0 < length lists
led_in lists C a k l = C.within a _ (in_place (row lists a) k l)

sum_at : (steps : List ℕ) (a y : ℕ) → a < length steps → y < get_or steps a 0 → sum (set steps a y) < sum steps
sum_at steps a y l h = let e = sum_by-set (λ (x : ℕ). x) steps a y 0 l in omega arith

-- what a read of the list of a node gives
pub row_read : (lists : List (List ℕ)) (a : ℕ) (r nodes : List ℕ) → a < length lists → r ≡ get_or lists a r → nodes ≡ r → nodes ≡ row lists a
row_read lists a r nodes l e f = f ∙ e ∙ get_or_default lists a r [] l

pub rows_in : (lists : List (List ℕ)) → IsClosed lists → (a : ℕ) (nodes counts : List ℕ) → nodes ≡ row lists a → length counts ≡ length lists
    → (k : ℕ) → k < length nodes → get_or nodes k 0 < length counts
rows_in lists C a nodes counts e s =
    subst (λ (ns : List ℕ). (k : ℕ) → k < length ns → get_or ns k 0 < length counts) (sym e) (λ k l. let h = led_in lists C a k l in omega arith)

-- ---- the last step of a node

best_few : (lists : List (List ℕ)) → IsClosed lists → (marks : List Bool) (steps path counts nodes : List ℕ) (a best : ℕ) → IsSearch lists marks steps path counts
    → get_or steps a 0 ≡ 1 → nodes ≡ row lists a → IsGreatest nodes counts best → best ≤ left_count steps
best_few lists C marks steps path counts nodes a best S is e G =
    elim G.one [
      | inl d ↦ omega arith
      | inr w ↦
          let l : w.0 < length nodes = w.1 in
          let g : get_or nodes w.0 0 ≡ get_or (row lists a) w.0 0 = ap (λ (ns : List ℕ). get_or ns w.0 0) e in
          let l' : w.0 < length (row lists a) = subst (λ (ns : List ℕ). w.0 < length ns) e l in
          let b : ℕ = get_or (row lists a) w.0 0 in
          let m : Leads lists a b = in_place (row lists a) w.0 l' in
          let z : get_or steps b 0 ≡ 0 = led_left lists marks steps path counts S a (omega arith) b m in
          let h : get_or counts b 0 ≤ left_count steps = (S.left b (C.within a b m) z).few in
          let q : get_or counts b 0 ≡ best = ap (λ n. get_or counts n 0) (sym g) ∙ w.2 in
          omega arith
    ]

left_few : (steps : List ℕ) (a : ℕ) → a < length steps → 0 < get_or steps a 0 → left_count steps < length steps
left_few steps a l p =
    let e = left_one_more steps a l p in
    let f = count_by-le-length (λ s. eqb s 0) (set steps a 0) in
    let g = length-set steps a 0 in
    omega arith

-- the greatest count is less than the number of nodes
pub best_below : (lists : List (List ℕ)) → IsClosed lists → (marks : List Bool) (steps path counts nodes : List ℕ) (a best : ℕ) → IsSearch lists marks steps path counts
    → IsLast path a → get_or steps a 0 ≡ 1 → nodes ≡ row lists a → IsGreatest nodes counts best → best < length lists
best_below lists C marks steps path counts nodes a best S L is e G =
    let o = last_is_open lists marks steps path counts a S L in
    let h = best_few lists C marks steps path counts nodes a best S is e G in
    let k = left_few steps a o.1 (omega arith) in
    let s : length steps ≡ length lists = S.step_count in
    omega arith

without_last : (path : List ℕ) (a : ℕ) → IsLast path a → path ≡ take (length path - 1) path ++ a ∷ []
without_last path a L =
    let some : 0 < length path = L.some in
    let k : ℕ = length path - 1 in
    let short : k < length path = omega arith in
    let whole : k + 1 ≡ length path = omega arith in
    sym (take_all (k + 1) path (omega arith)) ∙ take_more path k 0 short ∙ ap (λ x. take k path ++ x ∷ []) L.last

pub gone_left : (lists : List (List ℕ)) → IsClosed lists → (marks : List Bool) (steps path path' counts nodes : List ℕ) (a best count : ℕ) → IsSearch lists marks steps path counts
    → IsLast path a → get_or steps a 0 ≡ 1 → path' ≡ take (length path - 1) path → nodes ≡ row lists a → IsGreatest nodes counts best → count ≡ mark marks a + best
    → HasGoneOn lists marks steps (set steps a 0) path' (set counts a count)
gone_left lists C marks steps path path' counts nodes a best count S L is p e G v =
    let o = last_is_open lists marks steps path counts a S L in
    let before : List ℕ = take (length path - 1) path in
    let S' : IsSearch lists marks steps (before ++ a ∷ []) counts = subst (λ (xs : List ℕ). IsSearch lists marks steps xs counts) (without_last path a L) S in
    let G' : IsGreatest (row lists a) counts best = subst (λ (ns : List ℕ). IsGreatest ns counts best) e G in
    let T = search_left lists C marks steps before counts a best S' is G' in
    record {
      search = subst (λ (xs : List ℕ). IsSearch lists marks (set steps a 0) xs (set counts a count)) (sym p) (subst (λ (x : ℕ). IsSearch lists marks (set steps a 0) before (set counts a x)) (sym v) T);
      fewer = sum_at steps a 0 o.1 (omega arith);
      falls = falls_at steps a 0 o.1 (omega arith);
    }

-- ---- a look at the next node

-- the next node to which the last node of the path leads
pub record IsNext (lists : List (List ℕ)) (nodes : List ℕ) (steps : List ℕ) (a left next : ℕ) : Type 0 where
  pub nodes_are : nodes ≡ row lists a
  pub left_is : left ≡ get_or steps a 0
  pub further : left ≢ 1
  pub next_is : next ≡ get_or nodes (left - 2) 0

record NextIs (lists : List (List ℕ)) (steps : List ℕ) (a next : ℕ) : Type 0 where
  place : ℕ
  steps_are : get_or steps a 0 ≡ place + 2
  within : place < length (row lists a)
  at_place : get_or (row lists a) place 0 ≡ next
  leads : Leads lists a next

next_of : (lists : List (List ℕ)) (marks : List Bool) (steps path counts nodes : List ℕ) (a left next : ℕ) → IsSearch lists marks steps path counts → IsLast path a
    → IsNext lists nodes steps a left next → NextIs lists steps a next
next_of lists marks steps path counts nodes a left next S L N =
    let o = last_is_open lists marks steps path counts a S L in
    let e : left ≡ get_or steps a 0 = N.left_is in
    let f : left ≢ 1 = N.further in
    let w : left - 2 < length (row lists a) = omega arith in
    let at : get_or (row lists a) (left - 2) 0 ≡ next = ap (λ (ns : List ℕ). get_or ns (left - 2) 0) (sym N.nodes_are) ∙ sym N.next_is in
    record {
      place = left - 2;
      steps_are = omega arith;
      within = w;
      at_place = at;
      leads = subst (λ (m : ℕ). Leads lists a m) at (in_place (row lists a) (left - 2) w);
    }

pub next_in : (lists : List (List ℕ)) → IsClosed lists → (marks : List Bool) (steps path counts nodes : List ℕ) (a left next : ℕ) → IsSearch lists marks steps path counts → IsLast path a
    → IsNext lists nodes steps a left next → (next < length lists) × (next < length steps)
next_in lists C marks steps path counts nodes a left next S L N =
    let X = next_of lists marks steps path counts nodes a left next S L N in
    let h : next < length lists = C.within a next X.leads in
    let s : length steps ≡ length lists = S.step_count in
    (h, omega arith)

pub gone_looked : (lists : List (List ℕ)) (marks : List Bool) (steps path counts nodes : List ℕ) (a left next : ℕ) → IsSearch lists marks steps path counts → IsLast path a
    → IsNext lists nodes steps a left next → get_or steps next 0 ≡ 0 → HasGoneOn lists marks steps (set steps a (left - 1)) path counts
gone_looked lists marks steps path counts nodes a left next S L N z =
    let o = last_is_open lists marks steps path counts a S L in
    let X = next_of lists marks steps path counts nodes a left next S L N in
    let e : left ≡ get_or steps a 0 = N.left_is in
    let p : get_or steps a 0 ≡ X.place + 2 = X.steps_are in
    let was : get_or steps (get_or (row lists a) X.place 0) 0 ≡ 0 = ap (λ n. get_or steps n 0) X.at_place ∙ z in
    let same : X.place + 1 ≡ left - 1 = omega arith in
    record {
      search = subst (λ (y : ℕ). IsSearch lists marks (set steps a y) path counts) same (search_looked lists marks steps path counts S a X.place (open_in lists marks steps path counts S a L) X.steps_are was);
      fewer = sum_at steps a (left - 1) o.1 (omega arith);
      falls = falls_at steps a (left - 1) o.1 (omega arith);
    }

-- an open node leads to the last node of the path
pub cycle_seen : (lists : List (List ℕ)) → IsClosed lists → (marks : List Bool) (steps path counts nodes : List ℕ) (a left next : ℕ) → IsSearch lists marks steps path counts → IsLast path a
    → IsNext lists nodes steps a left next → get_or steps next 0 ≢ 0 → get_or steps next 0 ≤ length (row lists next) + 1 → HasCycle lists
cycle_seen lists C marks steps path counts nodes a left next S L N some few =
    let X = next_of lists marks steps path counts nodes a left next S L N in
    let r = S.on_path next (record { is_node = C.within a next X.leads; entered = few; not_left = omega arith }) in
    let i : ℕ = r.0 in
    let within : i < length path = r.1 in
    let last : ℕ = length path - 1 in
    record {
      node = a;
      back = elim (cases_eq i last) [
        | inl e ↦ once (subst (λ (m : ℕ). Leads lists a m) (sym r.2 ∙ ap (λ n. get_or path n 0) e ∙ L.last) X.leads)
        | inr ne ↦
            let w : Walk lists (get_or path i 0) (get_or path last 0) = S.walks i last (omega arith) (omega arith) in
            let v : Walk lists next a = subst (λ (m : ℕ). Walk lists m a) r.2 (subst (λ (m : ℕ). Walk lists (get_or path i 0) m) L.last w) in
            first X.leads v
      ];
    }

-- a node enters the path behind its last node
pub gone_in : (lists : List (List ℕ)) → IsClosed lists → (marks : List Bool) (steps steps' path path' counts counts' nodes : List ℕ) (a left next : ℕ) → IsSearch lists marks steps path counts
    → IsLast path a → IsNext lists nodes steps a left next → length (row lists next) + 1 < get_or steps next 0
    → steps' ≡ set steps next (get_or steps next 0 - 1) → path' ≡ path ++ next ∷ [] → counts' ≡ counts → HasGoneOn lists marks steps steps' path' counts'
gone_in lists C marks steps steps' path path' counts counts' nodes a left next S L N many se pe ce =
    let X = next_of lists marks steps path counts nodes a left next S L N in
    let isn : next < length lists = C.within a next X.leads in
    let s : length steps ≡ length lists = S.step_count in
    let w = S.within next in
    let some : 0 < length path = L.some in
    let last : ℕ = length path - 1 in
    let comes : (i : ℕ) → i < length path → Walk lists (get_or path i 0) next = λ i l. elim (cases_eq i last) [
      | inl e ↦ once (subst (λ (m : ℕ). Leads lists m next) (sym L.last ∙ ap (λ n. get_or path n 0) (sym e)) X.leads)
      | inr ne ↦
          walk_on lists _ _ _ (S.walks i last (omega arith) (omega arith)) (once (subst (λ (m : ℕ). Leads lists m next) (sym L.last) X.leads))
    ] in
    let E = search_entered lists marks steps path counts S next isn (omega arith) comes in
    let same : length (row lists next) + 1 ≡ get_or steps next 0 - 1 = omega arith in
    let within_steps : next < length steps = omega arith in
    record {
      search = subst (λ (xs : List ℕ). IsSearch lists marks xs path' counts') (sym se) (subst (λ (xs : List ℕ). IsSearch lists marks (set steps next (get_or steps next 0 - 1)) xs counts') (sym pe)
          (subst (λ (xs : List ℕ). IsSearch lists marks (set steps next (get_or steps next 0 - 1)) (path ++ next ∷ []) xs) (sym ce)
          (subst (λ (y : ℕ). IsSearch lists marks (set steps next y) (path ++ next ∷ []) counts) same E)));
      fewer = subst (λ (xs : List ℕ). sum xs < sum steps) (sym se) (sum_at steps next (get_or steps next 0 - 1) within_steps (omega arith));
      falls = subst (λ (xs : List ℕ). (n : ℕ) → get_or xs n 0 ≤ get_or steps n 0) (sym se) (falls_at steps next (get_or steps next 0 - 1) within_steps (omega arith));
    }

-- ---- where a search starts and ends

pub search_starts : (lists : List (List ℕ)) (marks : List Bool) (steps path counts : List ℕ) → steps ≡ map (λ nodes. length nodes + 2) lists → path ≡ [] → counts ≡ map (λ nodes. 0) lists
    → IsSearch lists marks steps path counts
search_starts lists marks steps path counts se pe ce =
    let sl : length steps ≡ length lists = ap length se ∙ length-map lists (λ nodes. length nodes + 2) in
    let pl : length path ≡ 0 = ap length pe in
    let all : (n : ℕ) → n < length lists → get_or steps n 0 ≡ length (row lists n) + 2 = λ n l. ap (λ xs. get_or xs n 0) se ∙ get_or-map (λ nodes. length nodes + 2) lists n [] 0 l in
    let past : (n : ℕ) → length lists ≤ n → get_or steps n 0 ≡ 0 = λ n l. get_or_past steps n 0 (omega arith) in
    record {
      step_count = sl;
      count_count = ap length ce ∙ length-map lists (λ nodes. 0);
      within = λ n. elim (cases_lt n (length lists)) [ inl l ↦ let h = all n l in omega arith | inr l ↦ let h = past n l in omega arith ];
      looked = λ a k l h. elim (cases_lt a (length lists)) [
        | inl m ↦ absurd (let e = all a m in omega arith)
        | inr m ↦ absurd (let e : row lists a ≡ [] = get_or_past lists a [] m in let f : length (row lists a) ≡ 0 = ap length e in omega arith)
      ];
      on_path = λ n P. absurd (let e = all n P.is_node in let h = P.entered in omega arith);
      opened = λ i l. absurd (omega arith);
      apart = λ i j l h. absurd (omega arith);
      walks = λ i j l h. absurd (omega arith);
      left = λ n l z. absurd (let e = all n l in omega arith);
    }

-- with an empty path, a node has either not been entered or been left
pub none_open : (lists : List (List ℕ)) (marks : List Bool) (steps path counts : List ℕ) → IsSearch lists marks steps path counts → length path ≡ 0 → (n : ℕ) → n < length lists
    → (get_or steps n 0 ≡ 0) ⊎ (get_or steps n 0 ≡ length (row lists n) + 2)
none_open lists marks steps path counts S e n l =
    elim (cases_eq (get_or steps n 0) 0) [
      | inl z ↦ inl z
      | inr nz ↦ elim (cases_eq (get_or steps n 0) (length (row lists n) + 2)) [
        | inl f ↦ inr f
        | inr nf ↦ absurd (let w = S.within n in let r = S.on_path n (record { is_node = l; entered = omega arith; not_left = omega arith }) in let h : r.0 < length path = r.1 in omega arith)
      ]
    ]

-- the root is entered, where the path is empty
pub root_entered : (lists : List (List ℕ)) (marks : List Bool) (steps steps' path path' counts counts' : List ℕ) (root : ℕ) → IsSearch lists marks steps path counts → path ≡ []
    → root < length lists → 0 < get_or steps root 0 → steps' ≡ set steps root (get_or steps root 0 - 1) → path' ≡ path ++ root ∷ [] → counts' ≡ counts
    → IsSearch lists marks steps' path' counts' × ((n : ℕ) → get_or steps' n 0 ≤ get_or steps n 0) × (get_or steps' root 0 ≤ length (row lists root) + 1)
root_entered lists marks steps steps' path path' counts counts' root S pe l some se pe' ce =
    let pl : length path ≡ 0 = ap length pe in
    let s : length steps ≡ length lists = S.step_count in
    let within_steps : root < length steps = omega arith in
    let new : get_or steps root 0 ≡ length (row lists root) + 2 = elim (none_open lists marks steps path counts S pl root l) [ inl z ↦ absurd (omega arith) | inr f ↦ f ] in
    let y : ℕ = get_or steps root 0 - 1 in
    let E = search_entered lists marks steps path counts S root l new (λ i h. absurd (omega arith)) in
    let same : length (row lists root) + 1 ≡ y = omega arith in
    let F : IsSearch lists marks (set steps root y) (path ++ root ∷ []) counts = subst (λ (z : ℕ). IsSearch lists marks (set steps root z) (path ++ root ∷ []) counts) same E in
    let here = get_or-set_same steps root y 0 within_steps in
    let at : get_or steps' root 0 ≡ get_or (set steps root y) root 0 = ap (λ xs. get_or xs root 0) se in (
      subst (λ (xs : List ℕ). IsSearch lists marks xs path' counts') (sym se) (subst (λ (xs : List ℕ). IsSearch lists marks (set steps root y) xs counts') (sym pe')
          (subst (λ (xs : List ℕ). IsSearch lists marks (set steps root y) (path ++ root ∷ []) xs) (sym ce) F)),
      subst (λ (xs : List ℕ). (n : ℕ) → get_or xs n 0 ≤ get_or steps n 0) (sym se) (falls_at steps root y within_steps (omega arith)),
      omega arith,
    )

-- ---- all nodes have been left

pub all_counted : (lists : List (List ℕ)) (marks : List Bool) (steps path counts : List ℕ) → IsSearch lists marks steps path counts → ((n : ℕ) → n < length lists → get_or steps n 0 ≡ 0)
    → AreCounted lists marks counts
all_counted lists marks steps path counts S done = record {
  count = S.count_count;
  each = λ n l. (S.left n l (done n l)).counted;
  few = λ n l.
      let h = (S.left n l (done n l)).few in
      let k = count_by-le-length (λ s. eqb s 0) steps in
      let e : length steps ≡ length lists = S.step_count in
      omega arith;
}

pub none_back : (lists : List (List ℕ)) (marks : List Bool) (steps path counts : List ℕ) → IsSearch lists marks steps path counts → ((n : ℕ) → n < length lists → get_or steps n 0 ≡ 0)
    → NoneBack lists
none_back lists marks steps path counts S done = record { none = λ n l. (S.left n l (done n l)).none_back }
