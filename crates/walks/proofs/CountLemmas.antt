-- What counts along walks say of single links.
use Rattle.std.proofs.Common.{◌≡◌, inl, inr, ℕ, suc, ◌+◌, ◌<◌, ◌≤◌, Bool, true, false, cond, List, [], ◌∷◌, length, get_or, ap, arith}
use Rattle.std.proofs.lemmas.Bool.{cases_Bool, cases_lt}
use Rattle.std.proofs.lemmas.List.{get_or_past}
use Rattle.walks.specs.Walks.{Leads, Walk, once, first, WalkBy, IsClosed}
use Rattle.walks.specs.Counts.{is_marked, mark, marked_count, AreCounted}
use Rattle.walks.proofs.WalkLemmas.{reached_in}

pub marked_one : (marks : List Bool) (a : ℕ) → is_marked marks a ≡ true → mark marks a ≡ 1
marked_one marks a m = ap (λ b. cond b 1 0) m

unmarked_one : (marks : List Bool) (a : ℕ) → is_marked marks a ≡ false → mark marks a ≡ 0
unmarked_one marks a m = ap (λ b. cond b 1 0) m

pub few_counts : (lists : List (List ℕ)) (marks : List Bool) (counts : List ℕ) → AreCounted lists marks counts → (n : ℕ) → get_or counts n 0 ≤ length lists
few_counts lists marks counts A n = elim (cases_lt n (length lists)) [
  | inl l ↦ A.few n l
  | inr l ↦ let e : length counts ≡ length lists = A.count in let z : get_or counts n 0 ≡ 0 = get_or_past counts n 0 (omega arith) in omega arith
]

-- a node's count is at least its mark
pub own_mark : (lists : List (List ℕ)) (marks : List Bool) (counts : List ℕ) → AreCounted lists marks counts → (a : ℕ) → a < length lists → mark marks a ≤ get_or counts a 0
own_mark lists marks counts A a l = let h = (A.each a l).most [] tt in omega arith

-- along a link the count falls by the mark
falls_by : (lists : List (List ℕ)) → IsClosed lists → (marks : List Bool) (counts : List ℕ) → AreCounted lists marks counts → (a b : ℕ) → a < length lists → Leads lists a b
    → mark marks a + get_or counts b 0 ≤ get_or counts a 0
falls_by lists C marks counts A a b l i =
    let B = A.each b (C.within a b i) in
    let h = (A.each a l).most (b ∷ B.nodes) (i, B.walk) in
    let e : marked_count marks (b ∷ B.nodes) ≡ get_or counts b 0 = B.meets in
    omega arith

never_rises : (lists : List (List ℕ)) → IsClosed lists → (marks : List Bool) (counts : List ℕ) → AreCounted lists marks counts → (a b : ℕ) → a < length lists → Walk lists a b → get_or counts b 0 ≤ get_or counts a 0
never_rises lists C marks counts A a b l (once i) = let h = falls_by lists C marks counts A a b l i in omega arith
never_rises lists C marks counts A a b l (first i w) =
    let h = falls_by lists C marks counts A a _ l i in
    let k = never_rises lists C marks counts A _ b (C.within a _ i) w in
    omega arith

-- along a walk from a marked node the count falls
pub falls_from : (lists : List (List ℕ)) → IsClosed lists → (marks : List Bool) (counts : List ℕ) → AreCounted lists marks counts → (a b : ℕ) → a < length lists → is_marked marks a ≡ true → Walk lists a b
    → get_or counts b 0 < get_or counts a 0
falls_from lists C marks counts A a b l m (once i) =
    let u = marked_one marks a m in
    let h = falls_by lists C marks counts A a b l i in
    omega arith
falls_from lists C marks counts A a b l m (first i w) =
    let u = marked_one marks a m in
    let h = falls_by lists C marks counts A a _ l i in
    let k = never_rises lists C marks counts A _ b (C.within a _ i) w in
    omega arith

-- the first marked node on a walk, and what the walk goes on by
record FirstMarked (lists : List (List ℕ)) (marks : List Bool) (a count : ℕ) : Type 0 where
  node : ℕ
  rest : List ℕ
  marked : is_marked marks node ≡ true
  reached : Walk lists a node
  walk : WalkBy lists node rest
  meets : marked_count marks (node ∷ rest) ≡ count

first_marked : (lists : List (List ℕ)) (marks : List Bool) (a k : ℕ) (nodes : List ℕ) → WalkBy lists a nodes → marked_count marks nodes ≡ suc k → FirstMarked lists marks a (suc k)
first_marked lists marks a k [] w e = absurd (omega arith)
first_marked lists marks a k (b ∷ nodes) w e = elim (cases_Bool (is_marked marks b)) [
  | inl m ↦ record { node = b; rest = nodes; marked = m; reached = once w.0; walk = w.1; meets = e }
  | inr m ↦
      let z = unmarked_one marks b m in
      let F = first_marked lists marks b k nodes w.1 (omega arith) in
      record { node = F.node; rest = F.rest; marked = F.marked; reached = first w.0 F.reached; walk = F.walk; meets = F.meets }
]

-- a marked node of this count, to which a walk leads
pub record NextMarked (lists : List (List ℕ)) (marks : List Bool) (counts : List ℕ) (a count : ℕ) : Type 0 where
  pub node : ℕ
  pub marked : is_marked marks node ≡ true
  pub count_is : get_or counts node 0 ≡ count
  pub reached : Walk lists a node

-- a marked node leads to a marked node of the count below its own, where that isn't 0
pub next_marked : (lists : List (List ℕ)) → IsClosed lists → (marks : List Bool) (counts : List ℕ) → AreCounted lists marks counts → (a k : ℕ) → a < length lists → is_marked marks a ≡ true
    → get_or counts a 0 ≡ suc (suc k) → NextMarked lists marks counts a (suc k)
next_marked lists C marks counts A a k l m two =
    let u = marked_one marks a m in
    let W = A.each a l in
    let e : mark marks a + marked_count marks W.nodes ≡ get_or counts a 0 = W.meets in
    let F = first_marked lists marks a k W.nodes W.walk (omega arith) in
    let h = (A.each F.node (reached_in lists C a F.node F.reached)).most F.rest F.walk in
    let f : marked_count marks (F.node ∷ F.rest) ≡ suc k = F.meets in
    let g = falls_from lists C marks counts A a F.node l m F.reached in
    record { node = F.node; marked = F.marked; count_is = omega arith; reached = F.reached }
