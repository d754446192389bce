-- Each struct is on a cycle, or it is on none: a way back to it is looked for among the structs that it hasn't passed yet.
use Rattle.std.proofs.Common.{◌≡◌, ◌⊎◌, inl, inr, ℕ, zero, suc, ◌<◌, ◌≤◌, Bool, true, false, ◌||◌, List, [], ◌∷◌, map, Option, Some, None, refl, sym, subst, ◌∙◌, true≢false, bytes_eq, arith, find, cond, ap}
use Rattle.std.proofs.lemmas.Slice.Eq.{bytes_eq-Decides}
use Rattle.gp_tree.specs.Program.{ProgramItem, StructDefinition}
use Rattle.gp_scope.specs.Checks.{is_among}
use Rattle.gp_scope.specs.Definitions.{struct_named, structs_in}
use Rattle.gp_scope.specs.Cycles.{holds, IsWay, IsOnCycle}
use Rattle.gp_scope.proofs.CycleLemmas.{HeldBy, held_by, free, free-less}

abbrev pub Decided : Type 0 → Type 0
Decided P = P ⊎ (P → ⊥)

-- none of the names is among those of the path
abbrev Avoids : List (List ℕ) → List (List ℕ) → Type 0
Avoids path [] = Unit {0}
Avoids path (x ∷ xs) = (is_among x path ≡ false) × Avoids path xs

-- a way over names that aren't on the path
abbrev FreshWay : List ProgramItem → List (List ℕ) → (from to : List ℕ) → Type 0
FreshWay program path from to = (between : List (List ℕ)) × IsWay program from between to × Avoids path between

avoids-nothing : (between : List (List ℕ)) → Avoids [] between
avoids-nothing [] = tt
avoids-nothing (x ∷ xs) = (refl, avoids-nothing xs)

-- A way that comes back to a name begins there anew.
shorten : (program : List ProgramItem) (x : List ℕ) (path : List (List ℕ)) (y to : List ℕ) (between : List (List ℕ)) → IsWay program y between to → Avoids path between
    → FreshWay program (x ∷ path) x to ⊎ Avoids (x ∷ path) between
shorten program x path y to [] way fresh = inr tt
shorten program x path y to (z ∷ rest) way fresh = go (shorten program x path z to rest way.1 fresh.1)
  where
    at : (b : Bool) → bytes_eq z x ≡ b → Avoids (x ∷ path) rest → FreshWay program (x ∷ path) x to ⊎ Avoids (x ∷ path) (z ∷ rest)
    at true e fresher = inl (rest, subst (λ w. IsWay program w rest to) ((bytes_eq-Decides z x).0 e) way.1, fresher)
    at false e fresher = inr (ap (λ b. b || is_among z path) e ∙ fresh.0, fresher)

    go : FreshWay program (x ∷ path) x to ⊎ Avoids (x ∷ path) rest → FreshWay program (x ∷ path) x to ⊎ Avoids (x ∷ path) (z ∷ rest)
    go (inl found) = inl found
    go (inr fresher) = at (bytes_eq z x) refl fresher

-- a name from which a way leads is a struct's
leaves_struct : (program : List ProgramItem) (x to : List ℕ) (between : List (List ℕ)) → IsWay program x between to → (d : StructDefinition) × (struct_named program x ≡ Some d)
leaves_struct program x to [] way = let by : HeldBy program x to = held_by program x to way in (by.decl, by.is)
leaves_struct program x to (z ∷ rest) way = let by : HeldBy program x z = held_by program x z way.0 in (by.decl, by.is)

abbrev names_of : List StructDefinition → List (List ℕ)
names_of ss = map (λ s. s.name) ss

among_names : (q : List ℕ) (ss : List StructDefinition) (d : StructDefinition) → find (λ s. bytes_eq q s.name) ss ≡ Some d → is_among q (names_of ss) ≡ true
among_names q [] d e = absurd cc
among_names q (s ∷ ss) d e = go (bytes_eq q s.name) refl (among_names q ss d)
  where
    go : (b : Bool) → bytes_eq q s.name ≡ b → (find (λ x. bytes_eq q x.name) ss ≡ Some d → is_among q (names_of ss) ≡ true) → is_among q (names_of (s ∷ ss)) ≡ true
    go true t more = ap (λ b. b || is_among q (names_of ss)) t
    go false f more = ap (λ b. b || is_among q (names_of ss)) f ∙ more (sym (ap (λ b. cond b (Some s) (find (λ x. bytes_eq q x.name) ss)) f) ∙ e)

-- the next name of a way, which isn't on the path, and the rest of the way, which avoids it
record Next (program : List ProgramItem) (path : List (List ℕ)) (from to x : List ℕ) : Type 0 where
  held : holds program from x ≡ true
  fresh : is_among x path ≡ false
  rest : FreshWay program (x ∷ path) x to

module _ (program : List ProgramItem) (path : List (List ℕ)) (from to : List ℕ)
    (search : (x : List ℕ) (d : StructDefinition) → struct_named program x ≡ Some d → is_among x path ≡ false → Decided (FreshWay program (x ∷ path) x to)) where
  from_struct : (x : List ℕ) (r : Option StructDefinition) → struct_named program x ≡ r → is_among x path ≡ false → Decided (FreshWay program (x ∷ path) x to)
  from_struct x (Some d) e fresh = search x d e fresh
  from_struct x None e fresh = inr (λ w. let s = leaves_struct program x to w.0 w.1 in absurd (let h = sym e ∙ s.1 in cc))

  over_fresh : (x : List ℕ) → holds program from x ≡ true → (b : Bool) → is_among x path ≡ b → Decided (Next program path from to x)
  over_fresh x held true e = inr (λ n. true≢false (sym e ∙ n.fresh))
  over_fresh x held false e = go (from_struct x (struct_named program x) refl e)
    where
      go : Decided (FreshWay program (x ∷ path) x to) → Decided (Next program path from to x)
      go (inl w) = inl (record { held = held; fresh = e; rest = w })
      go (inr none) = inr (λ n. none n.rest)

  over_held : (x : List ℕ) (b : Bool) → holds program from x ≡ b → Decided (Next program path from to x)
  over_held x true e = over_fresh x e (is_among x path) refl
  over_held x false e = inr (λ n. true≢false (sym n.held ∙ e))

  abbrev SomeNext : Type 0
  SomeNext = (x : List ℕ) × Next program path from to x

  abbrev NoneOf : List (List ℕ) → Type 0
  NoneOf names = (x : List ℕ) → is_among x names ≡ true → Next program path from to x → ⊥

  none_more : (n : List ℕ) (names : List (List ℕ)) → (Next program path from to n → ⊥) → NoneOf names → NoneOf (n ∷ names)
  none_more n names first rest x among next = go (bytes_eq x n) refl
    where
      go : (b : Bool) → bytes_eq x n ≡ b → ⊥
      go true e = first (subst (λ z. Next program path from to z) ((bytes_eq-Decides x n).0 e) next)
      go false e = rest x (sym (ap (λ b. b || is_among x names) e) ∙ among) next

  among_all : (names : List (List ℕ)) → SomeNext ⊎ NoneOf names
  among_all [] = inr (λ x among next. absurd (true≢false (sym among)))
  among_all (n ∷ names) = go (over_held n (holds program from n) refl) (among_all names)
    where
      go : Decided (Next program path from to n) → SomeNext ⊎ NoneOf names → SomeNext ⊎ NoneOf (n ∷ names)
      go (inl next) rest = inl (n, next)
      go (inr first) (inl some) = inl some
      go (inr first) (inr none) = inr (none_more n names first none)

  no_way : holds program from to ≡ false → NoneOf (names_of (structs_in program)) → FreshWay program path from to → ⊥
  no_way direct none w = go w.0 w.1 w.2
    where
      go : (between : List (List ℕ)) → IsWay program from between to → Avoids path between → ⊥
      go [] way fresh = true≢false (sym way ∙ direct)
      go (x ∷ rest) way fresh =
          let d = leaves_struct program x to rest way.1 in
          none x (among_names x (structs_in program) d.0 d.1) (record { held = way.0; fresh = fresh.0; rest = cut (shorten program x path x to rest way.1 fresh.1) })
        where
          cut : FreshWay program (x ∷ path) x to ⊎ Avoids (x ∷ path) rest → FreshWay program (x ∷ path) x to
          cut (inl found) = found
          cut (inr fresher) = (rest, way.1, fresher)

  step : Decided (FreshWay program path from to)
  step = direct (holds program from to) refl
    where
      looser : (x : List ℕ) (between : List (List ℕ)) → Avoids (x ∷ path) between → Avoids path between
      looser x [] h = tt
      looser x (z ∷ zs) h = (other (bytes_eq z x) h.0, looser x zs h.1)
        where
          other : (b : Bool) → (b || is_among z path) ≡ false → is_among z path ≡ false
          other true g = absurd (true≢false g)
          other false g = g

      later : holds program from to ≡ false → SomeNext ⊎ NoneOf (names_of (structs_in program)) → Decided (FreshWay program path from to)
      later e (inl s) =
          let next = s.1 in
          inl (s.0 ∷ next.rest.0, (next.held, next.rest.1), (next.fresh, looser s.0 next.rest.0 next.rest.2))
      later e (inr none) = inr (no_way e none)

      direct : (b : Bool) → holds program from to ≡ b → Decided (FreshWay program path from to)
      direct true e = inl ([], e, tt)
      direct false e = later e (among_all (names_of (structs_in program)))

decide : (program : List ProgramItem) (to : List ℕ) (k : ℕ) (path : List (List ℕ)) (from : List ℕ) → free path (structs_in program) ≤ k → Decided (FreshWay program path from to)
decide program to zero path from few = step program path from to search
  where
    search : (x : List ℕ) (d : StructDefinition) → struct_named program x ≡ Some d → is_among x path ≡ false → Decided (FreshWay program (x ∷ path) x to)
    search x d e fresh =
        let less : free (x ∷ path) (structs_in program) < free path (structs_in program) = free-less x path (structs_in program) d e fresh in
        absurd (omega arith)
decide program to (suc k) path from few =
    step program path from to (λ x d e fresh. decide program to k (x ∷ path) x (fewer k path x d few e fresh))
  where
    fewer : (k : ℕ) (path : List (List ℕ)) (x : List ℕ) (d : StructDefinition) → free path (structs_in program) ≤ suc k → struct_named program x ≡ Some d → is_among x path ≡ false
        → free (x ∷ path) (structs_in program) ≤ k
    fewer k path x d few e fresh =
        let less : free (x ∷ path) (structs_in program) < free path (structs_in program) = free-less x path (structs_in program) d e fresh in
        omega arith

-- a struct is on a cycle, or it isn't
pub on_cycle_or_not : (program : List ProgramItem) (name : List ℕ) → Decided (IsOnCycle program name)
on_cycle_or_not program name = go (decide program name (free [] (structs_in program)) [] name (omega arith))
  where
    go : Decided (FreshWay program [] name name) → Decided (IsOnCycle program name)
    go (inl w) = inl (w.0, w.1)
    go (inr none) = inr (λ cycle. none (cycle.0, cycle.1, avoids-nothing cycle.0))
