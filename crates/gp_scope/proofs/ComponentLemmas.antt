-- Where no struct has a number below that of a name that it holds, one with a number above all of them is on no cycle.
use Rattle.std.proofs.Common.{◌≡◌, ℕ, ◌-◌, ◌<◌, ◌≤◌, Bool, true, false, cond, List, [], ◌∷◌, Some, None, refl, sym, ap, subst, ◌∙◌, bytes_eq, find, nat_lt, nat_le, arith}
use Rattle.std.specs.List.{list_all}
use Rattle.std.proofs.lemmas.Slice.Eq.{bytes_eq-Decides}
use Rattle.std.proofs.lemmas.Bool.Decides.{nat_tests}
use Rattle.gp_tree.specs.Program.{ProgramItem, StructDefinition}
use Rattle.gp_scope.specs.Definitions.{structs_in}
use Rattle.gp_scope.specs.Cycles.{holds, IsWay, IsOnCycle}
use Rattle.gp_scope.specs.code.EachName.{each_field_name}
use Rattle.gp_scope.specs.code.Components.{held_within, are_ordered, is_above_held}
use Rattle.gp_scope.proofs.Levels.{and_left, and_right}
use Rattle.gp_scope.proofs.CycleLemmas.{HeldBy, held_by, field_mentioned_passes}

le-true : (x y : ℕ) → nat_le x y ≡ true → x ≤ y
le-true x y e = grind (arith, nat_tests)

lt-true : (x y : ℕ) → nat_lt x y ≡ true → x < y
lt-true x y e = grind (arith, nat_tests)

-- what holds of each struct holds of the struct of a name
each_struct : (test : List ℕ → Bool) (ss : List StructDefinition) → list_all (λ s. test s.name) ss ≡ true → (q : List ℕ) (s : StructDefinition)
    → find (λ d. bytes_eq q d.name) ss ≡ Some s → test q ≡ true
each_struct test [] h q s e = absurd cc
each_struct test (d ∷ ds) h q s e =
    elim (bytes_eq q d.name) as (λ b. bytes_eq q d.name ≡ b → test q ≡ true) [
      | true ↦ λ t. subst (λ z. test z ≡ true) (sym ((bytes_eq-Decides q d.name).0 t)) (and_left (test d.name) _ h)
      | false ↦ λ f. each_struct test ds (and_right (test d.name) _ h) q s (sym (ap (λ b. cond b (Some d) (find (λ x. bytes_eq q x.name) ds)) f) ∙ e)
    ] refl

-- what a struct holds is within the limit
held-le : (program : List ProgramItem) (numbers : List ℕ → ℕ) (limit : ℕ) (q r : List ℕ) → held_within program numbers limit q ≡ true → holds program q r ≡ true
    → numbers r ≤ limit
held-le program numbers limit q r h e =
    let by : HeldBy program q r = held_by program q r e in
    let each : each_field_name (λ held. nat_le (numbers held) limit) by.decl.fields ≡ true =
    ap (λ o. elim o [ None ↦ true | Some s ↦ each_field_name (λ held. nat_le (numbers held) limit) s.fields ]) (sym by.is) ∙ h in
    le-true (numbers r) limit (field_mentioned_passes (λ held. nat_le (numbers held) limit) r by.decl.fields each by.mentioned)

step-le : (program : List ProgramItem) (numbers : List ℕ → ℕ) → are_ordered program numbers ≡ true → (q r : List ℕ) → holds program q r ≡ true → numbers r ≤ numbers q
step-le program numbers h q r e =
    let by : HeldBy program q r = held_by program q r e in
    held-le program numbers (numbers q) q r (each_struct (λ n. held_within program numbers (numbers n) n) (structs_in program) h q by.decl by.is) e

way-le : (program : List ProgramItem) (numbers : List ℕ → ℕ) → are_ordered program numbers ≡ true → (between : List (List ℕ)) (from to : List ℕ)
    → IsWay program from between to → numbers to ≤ numbers from
way-le program numbers h [] from to way = step-le program numbers h from to way
way-le program numbers h (next ∷ between) from to way =
    let first : numbers next ≤ numbers from = step-le program numbers h from next way.0 in
    let rest : numbers to ≤ numbers next = way-le program numbers h between next to way.1 in
    omega arith

pub above-no_cycle : (program : List ProgramItem) (numbers : List ℕ → ℕ) → are_ordered program numbers ≡ true → (q : List ℕ) → is_above_held program numbers q ≡ true
    → IsOnCycle program q → ⊥
above-no_cycle program numbers h q above cycle = go cycle.0 cycle.1
  where
    positive : 0 < numbers q
    positive = lt-true 0 (numbers q) (and_left (nat_lt 0 (numbers q)) _ above)

    less : (r : List ℕ) → holds program q r ≡ true → numbers r < numbers q
    less r e =
        let le : numbers r ≤ numbers q - 1 = held-le program numbers (numbers q - 1) q r (and_right (nat_lt 0 (numbers q)) _ above) e in
        let low : 0 < numbers q = positive in
        omega arith

    go : (between : List (List ℕ)) → IsWay program q between q → ⊥
    go [] way = let lt : numbers q < numbers q = less q way in omega arith
    go (next ∷ between) way =
        let lt : numbers next < numbers q = less next way.0 in
        let le : numbers q ≤ numbers next = way-le program numbers h between next q way.1 in
        omega arith
