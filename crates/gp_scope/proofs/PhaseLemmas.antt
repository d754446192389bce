-- From the steps to the first fault.
use Rattle.std.proofs.Common.{◌≡◌, inl, inr, ℕ, suc, ◌≤◌, Bool, true, false, ◌||◌, List, [], ◌∷◌, Option, Some, None, refl, sym, ap, subst, ◌∙◌, true≢false, Bor, bytes_eq, cond, find, nat_lt, slice_get, unwrap_or, zero, arith, MatchOption}
use Rattle.std.specs.Option.{option_map_or}
use Rattle.std.specs.List.{list_any}
use Rattle.std.proofs.lemmas.Slice.Eq.{bytes_eq-Decides}
use Rattle.std.proofs.lemmas.Bool.Decides.{nat_tests}
use Rattle.indexmap.specs.IndexMap.{IndexMap, index_of_by}
use Rattle.gp_tree.specs.declared.struct_decl.StructDecl.{StructDecl}
use Rattle.gp_tree.specs.Program.{ProgramItem, StructDefinition}
use Rattle.gp_tree.specs.TypeExpression.{TypeExpression}
use Rattle.gp_types.specs.Size.{size}
use Rattle.gp_scope.specs.declared.fault.ScopeFault.{ScopeFault}
use Rattle.gp_scope.specs.Checks.{Found}
use Rattle.gp_scope.specs.Definitions.{structs_in}
use Rattle.gp_scope.specs.Cycles.{holds, IsWay, IsOnCycle}
use Rattle.gp_scope.specs.FirstFault.{FindsCycle, IsFirstFault, names_fault}
use Rattle.gp_scope.specs.code.Levels.{size_by, level_size}
use Rattle.gp_scope.specs.Sizes.{sizes_fault}
use Rattle.gp_scope.specs.Spelled.{spelled}
use Rattle.gp_scope.specs.Tables.{Hasher, value_in}
use Rattle.gp_scope.proofs.CycleLemmas.{NoCycle, HeldBy, held_by, level-decides, small-no_cycle}

-- where no struct is on a cycle, what comes next is found
pub finds-next : (program : List ProgramItem) → NoCycle program → (ss : List StructDefinition) (next : Found) → FindsCycle program ss next next
finds-next program none [] next = refl
finds-next program none (s ∷ ss) next = inr (none s.name, finds-next program none ss next)

-- where nothing is found, no struct is on a cycle
not_found : (program : List ProgramItem) (ss : List StructDefinition) → FindsCycle program ss None None → (q : List ℕ) (s : StructDefinition)
    → find (λ d. bytes_eq q d.name) ss ≡ Some s → IsOnCycle program q → ⊥
not_found program [] h q s e cycle = absurd cc
not_found program (d ∷ ds) (inl found) q s e cycle = none_is_some found.1
  where
    none_is_some : {A : Type 0} {x : A} → None ≡ Some x → ⊥
    none_is_some h = absurd cc
not_found program (d ∷ ds) (inr rest) q s e cycle =
    elim (bytes_eq q d.name) as (λ b. bytes_eq q d.name ≡ b → ⊥) [
      | true ↦ λ t. rest.0 (subst (λ z. IsOnCycle program z) ((bytes_eq-Decides q d.name).0 t) cycle)
      | false ↦ λ f. not_found program ds rest.1 q s (sym (ap (λ b. cond b (Some d) (find (λ x. bytes_eq q x.name) ds)) f) ∙ e) cycle
    ] refl

pub no-cycle : (program : List ProgramItem) → FindsCycle program (structs_in program) None None → NoCycle program
no-cycle program h q cycle = go cycle.0 cycle.1
  where
    from : (to : List ℕ) → holds program q to ≡ true → ⊥
    from to e = let by : HeldBy program q to = held_by program q to e in not_found program (structs_in program) h q by.decl by.is cycle

    go : (between : List (List ℕ)) → IsWay program q between q → ⊥
    go [] way = from q way
    go (next ∷ between) way = from next way.0

within : (x : ℕ) → nat_lt 64 x ≡ false → x ≤ 64
within x e = grind (arith, nat_tests)

-- sizes within the limit
small_at : (sizes : List ℕ) → list_any (λ size. nat_lt 64 size) sizes ≡ false → (place : ℕ) → unwrap_or (slice_get sizes place) 1 ≤ 64
small_at [] h place = omega arith
small_at (x ∷ xs) h zero = small_head (nat_lt 64 x) refl h
  where
    small_head : (b : Bool) → nat_lt 64 x ≡ b → (b || list_any (λ size. nat_lt 64 size) xs) ≡ false → x ≤ 64
    small_head true e g = absurd (true≢false g)
    small_head false e g = within x e
small_at (x ∷ xs) h (suc place) = small_at xs (rest (nat_lt 64 x) h) place
  where
    rest : (b : Bool) → (b || list_any (λ size. nat_lt 64 size) xs) ≡ false → list_any (λ size. nat_lt 64 size) xs ≡ false
    rest true g = absurd (true≢false g)
    rest false g = g

pub value_in-small : (structs : IndexMap (Bor (List ℕ)) (Bor StructDecl) Hasher) (sizes : List ℕ) → list_any (λ size. nat_lt 64 size) sizes ≡ false
    → (q : List ℕ) → value_in structs sizes q ≤ 64
value_in-small structs sizes h q = go (index_of_by (λ k. bytes_eq q k.now) structs)
  where
    go : (r : Option ℕ) → option_map_or (λ place. unwrap_or (slice_get sizes place) 1) r 1 ≤ 64
    go None = omega arith
    go (Some i) = small_at sizes h i

-- where every size is within the limit, no struct is on a cycle
pub small-finds : (program : List ProgramItem) (structs : IndexMap (Bor (List ℕ)) (Bor StructDecl) Hasher) (sizes : List ℕ) (k : ℕ) → k ≡ 64
    → ((q : List ℕ) → value_in structs sizes q ≡ level_size k program q) → list_any (λ size. nat_lt 64 size) sizes ≡ false
    → FindsCycle program (structs_in program) None None
small-finds program structs sizes k is same h =
    finds-next program (λ q cycle. small-no_cycle program k is q (subst (λ n. n ≤ 64) (same q) (value_in-small structs sizes h q)) cycle) (structs_in program) None

same_sizes : (f g : List ℕ → ℕ) → ((q : List ℕ) → f q ≡ g q) → f ≡ g
same_sizes f g e = λ j q. e q j

-- sizes by level decide which types are above the limit
pub sizes-decide : (program : List ProgramItem) (structs : IndexMap (Bor (List ℕ)) (Bor StructDecl) Hasher) (sizes : List ℕ) (k : ℕ) → k ≡ 64
    → ((q : List ℕ) → value_in structs sizes q ≡ level_size k program q) → NoCycle program
    → (t : TypeExpression) → nat_lt 64 (size_by (value_in structs sizes) t) ≡ nat_lt 64 (size (spelled program t))
sizes-decide program structs sizes k is same none t =
    ap (λ f. nat_lt 64 (size_by f t)) (same_sizes (value_in structs sizes) (level_size k program) same) ∙ level-decides program none k is t

-- the first fault, where the steps before cycles find nothing
pub first-fault : (program : List ProgramItem) (found : Found) → names_fault program ≡ None → FindsCycle program (structs_in program) (sizes_fault program program) found → IsFirstFault program found
first-fault program found e h =
    subst (λ r. MatchOption r (FindsCycle program (structs_in program) (sizes_fault program program) found) (λ f. found ≡ Some f)) (sym e) h

pub names-first : (program : List ProgramItem) (f : ScopeFault) → names_fault program ≡ Some f → IsFirstFault program (Some f)
names-first program f e =
    subst (λ r. MatchOption r (FindsCycle program (structs_in program) (sizes_fault program program) (Some f)) (λ g. Some f ≡ Some g)) (sym e) refl

pub sizes-first : (program : List ProgramItem) (found : Found) → names_fault program ≡ None → NoCycle program → sizes_fault program program ≡ found → IsFirstFault program found
sizes-first program found e none s =
    first-fault program found e (subst (λ n. FindsCycle program (structs_in program) n found) (sym s) (finds-next program none (structs_in program) found))
