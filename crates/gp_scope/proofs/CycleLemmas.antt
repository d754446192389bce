-- Cycles of structs against levels: a type that is whole is on no cycle, and without cycles every type is whole.
use Rattle.std.proofs.Common.{◌≡◌, ℕ, zero, suc, ◌+◌, ◌<◌, ◌≤◌, Bool, true, false, ◌||◌, List, [], ◌∷◌, ◌++◌, length, Option, Some, None, refl, sym, ap, subst, ◌∙◌, true≢false, bytes_eq, arith, find, cond, nat_lt}
use Rattle.std.proofs.lemmas.Slice.Eq.{bytes_eq-Decides}
use Rattle.std.proofs.lemmas.Bool.Decides.{nat_tests}
use Rattle.gp_tree.specs.Program.{ProgramItem, FieldDefinition, StructDefinition, import_item, struct_item, function_item}
use Rattle.gp_tree.specs.TypeExpression.{TypeExpression, TypeExpressions, ParameterTypes, ResultType, named_type, tuple_type, function_type, no_types, with_type, no_parameters, with_parameter, no_result, with_result}
use Rattle.gp_types.specs.Types as types
use Rattle.gp_types.specs.Size.{size}
use Rattle.gp_scope.specs.Checks.{is_among}
use Rattle.gp_scope.specs.Definitions.{struct_named, structs_in}
use Rattle.gp_scope.specs.Cycles.{mentions, some_mentions, params_mention, answer_mentions, fields_mention, holds, IsWay, Reaches, IsOnCycle}
use Rattle.gp_scope.specs.Spelled.{spelled_by, spelled, fields_spelled_by, opened, StructsHaveFields}
use Rattle.gp_scope.specs.code.Levels.{size_by, level_size}
use Rattle.gp_scope.specs.code.EachName.{each_name, each_name_of, each_name_taken, each_name_answered, each_field_name}
use Rattle.gp_scope.proofs.Levels.{and_left, and_right, and_true, closed, closed-none, closed-zero, closed-suc, opened-suc, opened-stays, same_type_by, same_fields_by, type_below, small_type, level-below, level-small}

or_cases : (a b : Bool) → (a || b) ≡ true → (a ≡ false → b ≡ true)
or_cases true b h e = absurd (true≢false e)
or_cases false b h e = h

pub bytes_eq-same : (a : List ℕ) → bytes_eq a a ≡ true
bytes_eq-same a = (bytes_eq-Decides a a).1 refl

-- a name that is mentioned passes a test that each name passes
mutual
  mentioned_passes : (test : List ℕ → Bool) (x : List ℕ) (t : TypeExpression) → each_name test t ≡ true → mentions t x ≡ true → test x ≡ true
  mentioned_passes test x (named_type y) h m = subst (λ z. test z ≡ true) (sym ((bytes_eq-Decides x y).0 m)) h
  mentioned_passes test x (tuple_type ts) h m = some_mentioned_passes test x ts h m
  mentioned_passes test x (function_type ps r) h m =
      elim (params_mention ps x) as (λ b. params_mention ps x ≡ b → test x ≡ true) [
        | true ↦ λ e. param_mentioned_passes test x ps (and_left (each_name_taken test ps) _ h) e
        | false ↦ λ e. answer_mentioned_passes test x r (and_right (each_name_taken test ps) _ h) (or_cases (params_mention ps x) _ m e)
      ] refl

  some_mentioned_passes : (test : List ℕ → Bool) (x : List ℕ) (ts : TypeExpressions) → each_name_of test ts ≡ true → some_mentions ts x ≡ true → test x ≡ true
  some_mentioned_passes test x no_types h m = absurd (true≢false (sym m))
  some_mentioned_passes test x (with_type t ts) h m =
      elim (mentions t x) as (λ b. mentions t x ≡ b → test x ≡ true) [
        | true ↦ λ e. mentioned_passes test x t (and_left (each_name test t) _ h) e
        | false ↦ λ e. some_mentioned_passes test x ts (and_right (each_name test t) _ h) (or_cases (mentions t x) _ m e)
      ] refl

  param_mentioned_passes : (test : List ℕ → Bool) (x : List ℕ) (ps : ParameterTypes) → each_name_taken test ps ≡ true → params_mention ps x ≡ true → test x ≡ true
  param_mentioned_passes test x no_parameters h m = absurd (true≢false (sym m))
  param_mentioned_passes test x (with_parameter t owned ps) h m =
      elim (mentions t x) as (λ b. mentions t x ≡ b → test x ≡ true) [
        | true ↦ λ e. mentioned_passes test x t (and_left (each_name test t) _ h) e
        | false ↦ λ e. param_mentioned_passes test x ps (and_right (each_name test t) _ h) (or_cases (mentions t x) _ m e)
      ] refl

  answer_mentioned_passes : (test : List ℕ → Bool) (x : List ℕ) (r : ResultType) → each_name_answered test r ≡ true → answer_mentions r x ≡ true → test x ≡ true
  answer_mentioned_passes test x no_result h m = absurd (true≢false (sym m))
  answer_mentioned_passes test x (with_result t) h m = mentioned_passes test x t h m

pub field_mentioned_passes : (test : List ℕ → Bool) (x : List ℕ) (fs : List FieldDefinition) → each_field_name test fs ≡ true → fields_mention fs x ≡ true → test x ≡ true
field_mentioned_passes test x [] h m = absurd (true≢false (sym m))
field_mentioned_passes test x (f ∷ fs) h m =
    elim (mentions f.ty x) as (λ b. mentions f.ty x ≡ b → test x ≡ true) [
      | true ↦ λ e. mentioned_passes test x f.ty (and_left (each_name test f.ty) _ h) e
      | false ↦ λ e. field_mentioned_passes test x fs (and_right (each_name test f.ty) _ h) (or_cases (mentions f.ty x) _ m e)
    ] refl

-- and each name passes where all that are mentioned do
or_true_left : (a b : Bool) → a ≡ true → (a || b) ≡ true
or_true_left true b h = refl
or_true_left false b h = absurd (true≢false (sym h))

or_true_right : (a b : Bool) → b ≡ true → (a || b) ≡ true
or_true_right true b h = refl
or_true_right false b h = h

mutual
  each_passes : (test : List ℕ → Bool) (t : TypeExpression) → ((x : List ℕ) → mentions t x ≡ true → test x ≡ true) → each_name test t ≡ true
  each_passes test (named_type y) h = h y (bytes_eq-same y)
  each_passes test (tuple_type ts) h = each_of_passes test ts h
  each_passes test (function_type ps r) h =
      and_true (each_name_taken test ps) _ (each_taken_passes test ps (λ x m. h x (or_true_left (params_mention ps x) _ m)))
      (each_answered_passes test r (λ x m. h x (or_true_right (params_mention ps x) _ m)))

  each_of_passes : (test : List ℕ → Bool) (ts : TypeExpressions) → ((x : List ℕ) → some_mentions ts x ≡ true → test x ≡ true) → each_name_of test ts ≡ true
  each_of_passes test no_types h = refl
  each_of_passes test (with_type t ts) h =
      and_true (each_name test t) _ (each_passes test t (λ x m. h x (or_true_left (mentions t x) _ m))) (each_of_passes test ts (λ x m. h x (or_true_right (mentions t x) _ m)))

  each_taken_passes : (test : List ℕ → Bool) (ps : ParameterTypes) → ((x : List ℕ) → params_mention ps x ≡ true → test x ≡ true) → each_name_taken test ps ≡ true
  each_taken_passes test no_parameters h = refl
  each_taken_passes test (with_parameter t owned ps) h =
      and_true (each_name test t) _ (each_passes test t (λ x m. h x (or_true_left (mentions t x) _ m))) (each_taken_passes test ps (λ x m. h x (or_true_right (mentions t x) _ m)))

  each_answered_passes : (test : List ℕ → Bool) (r : ResultType) → ((x : List ℕ) → answer_mentions r x ≡ true → test x ≡ true) → each_name_answered test r ≡ true
  each_answered_passes test no_result h = refl
  each_answered_passes test (with_result t) h = each_passes test t h

each_field_passes : (test : List ℕ → Bool) (fs : List FieldDefinition) → ((x : List ℕ) → fields_mention fs x ≡ true → test x ≡ true) → each_field_name test fs ≡ true
each_field_passes test [] h = refl
each_field_passes test (f ∷ fs) h =
    and_true (each_name test f.ty) _ (each_passes test f.ty (λ x m. h x (or_true_left (mentions f.ty x) _ m))) (each_field_passes test fs (λ x m. h x (or_true_right (mentions f.ty x) _ m)))

-- what a struct holds stands in the type of one of its fields
pub record HeldBy (program : List ProgramItem) (name held : List ℕ) : Type 0 where
  pub decl : StructDefinition
  pub is : struct_named program name ≡ Some decl
  pub mentioned : fields_mention decl.fields held ≡ true

pub held_by : (program : List ProgramItem) (name held : List ℕ) → holds program name held ≡ true → HeldBy program name held
held_by program name held h = go (struct_named program name) refl
  where
    go : (r : Option StructDefinition) → struct_named program name ≡ r → HeldBy program name held
    go None e = absurd (true≢false (sym h ∙ ap (λ r. elim r [ None ↦ false | Some s ↦ fields_mention s.fields held ]) e))
    go (Some s) e = record { decl = s; is = e; mentioned = ap (λ r. elim r [ None ↦ false | Some d ↦ fields_mention d.fields held ]) (sym e) ∙ h }

pub holds-some : (program : List ProgramItem) (name held : List ℕ) (s : StructDefinition) → struct_named program name ≡ Some s → holds program name held ≡ fields_mention s.fields held
holds-some program name held s e = ap (λ r. elim r [ None ↦ false | Some d ↦ fields_mention d.fields held ]) e

-- what a whole type holds is whole at a lower level
held_closed : (program : List ProgramItem) (n : ℕ) (name held : List ℕ) → closed program n name ≡ true → holds program name held ≡ true
    → (m : ℕ) × (m < n) × (closed program m held ≡ true)
held_closed program zero name held h e =
    let by : HeldBy program name held = held_by program name held e in
    absurd (true≢false (sym h ∙ closed-zero program name by.decl by.is))
held_closed program (suc n) name held h e =
    let by : HeldBy program name held = held_by program name held e in
    (n, omega arith, field_mentioned_passes (closed program n) held by.decl.fields (sym (closed-suc program n name by.decl by.is) ∙ h) by.mentioned)

way_closed : (program : List ProgramItem) (between : List (List ℕ)) (n : ℕ) (from to : List ℕ) → closed program n from ≡ true → IsWay program from between to
    → (m : ℕ) × (m < n) × (closed program m to ≡ true)
way_closed program [] n from to h way = held_closed program n from to h way
way_closed program (next ∷ between) n from to h way =
    let down = held_closed program n from next h way.0 in
    let rest = way_closed program between down.0 next to down.2 way.1 in
    (rest.0, omega (arith, down.1, rest.1), rest.2)

descend : (program : List ProgramItem) (k n : ℕ) (q : List ℕ) → n < k → closed program n q ≡ true → IsOnCycle program q → ⊥
descend program zero n q le h cycle = omega arith
descend program (suc k) n q le h cycle =
    let down = way_closed program cycle.0 n q q h cycle.1 in
    descend program k down.0 q (omega (arith, down.1)) down.2 cycle

-- a whole type is on no cycle
pub closed-no_cycle : (program : List ProgramItem) (n : ℕ) (q : List ℕ) → closed program n q ≡ true → IsOnCycle program q → ⊥
closed-no_cycle program n q h cycle = descend program (suc n) n q (omega arith) h cycle

pub way-push : (program : List ProgramItem) (between : List (List ℕ)) (from last to : List ℕ) → IsWay program from between last → holds program last to ≡ true
    → IsWay program from (between ++ last ∷ []) to
way-push program [] from last to way h = (way, h)
way-push program (next ∷ between) from last to way h = (way.0, way-push program between next last to way.1 h)

-- 1, unless the test holds
abbrev pub one_unless : Bool → ℕ
one_unless true = 0
one_unless false = 1

-- how many of these structs have a name that isn't among those of a path
abbrev pub free : List (List ℕ) → List StructDefinition → ℕ
free path [] = 0
free path (s ∷ ss) = one_unless (is_among s.name path) + free path ss

one_less : (a b : Bool) → (b ≡ true → a ≡ true) → one_unless a ≤ one_unless b
one_less true true h = omega arith
one_less true false h = omega arith
one_less false true h = absurd (true≢false (sym (h refl)))
one_less false false h = omega arith

free-more : (q : List ℕ) (path : List (List ℕ)) (ss : List StructDefinition) → free (q ∷ path) ss ≤ free path ss
free-more q path [] = omega arith
free-more q path (s ∷ ss) =
    let here : one_unless (is_among s.name (q ∷ path)) ≤ one_unless (is_among s.name path) =
    one_less (is_among s.name (q ∷ path)) (is_among s.name path) (λ e. or_true_right (bytes_eq s.name q) _ e) in
    let rest : free (q ∷ path) ss ≤ free path ss = free-more q path ss in
    omega arith

pub free-less : (q : List ℕ) (path : List (List ℕ)) (ss : List StructDefinition) (found : StructDefinition) → find (λ s. bytes_eq q s.name) ss ≡ Some found
    → is_among q path ≡ false → free (q ∷ path) ss < free path ss
free-less q path [] found e out = absurd cc
free-less q path (s ∷ ss) found e out =
    elim (bytes_eq q s.name) as (λ b. bytes_eq q s.name ≡ b → free (q ∷ path) (s ∷ ss) < free path (s ∷ ss)) [
      | true ↦ λ t.
          let same : q ≡ s.name = (bytes_eq-Decides q s.name).0 t in
          let taken : one_unless (is_among s.name (q ∷ path)) ≡ 0 =
          ap one_unless (or_true_left (bytes_eq s.name q) _ ((bytes_eq-Decides s.name q).1 (sym same))) in
          let not_taken : one_unless (is_among s.name path) ≡ 1 = ap one_unless (subst (λ z. is_among z path ≡ false) same out) in
          let rest : free (q ∷ path) ss ≤ free path ss = free-more q path ss in
          omega arith
      | false ↦ λ f.
          let here : one_unless (is_among s.name (q ∷ path)) ≤ one_unless (is_among s.name path) =
          one_less (is_among s.name (q ∷ path)) (is_among s.name path) (λ g. or_true_right (bytes_eq s.name q) _ g) in
          let rest : free (q ∷ path) ss < free path ss = free-less q path ss found (sym (ap (λ b. cond b (Some s) (find (λ d. bytes_eq q d.name) ss)) f) ∙ e) out in
          omega arith
    ] refl

free-all : (path : List (List ℕ)) (ss : List StructDefinition) → free path ss ≤ length ss
free-all path [] = omega arith
free-all path (s ∷ ss) =
    let here : one_unless (is_among s.name path) ≤ 1 = one_less (is_among s.name path) false (λ e. absurd (true≢false (sym e))) in
    let rest : free path ss ≤ length ss = free-all path ss in
    omega arith

structs-length : (items : List ProgramItem) → length (structs_in items) ≤ length items
structs-length [] = omega arith
structs-length (import_item i ∷ items) = let rest : length (structs_in items) ≤ length items = structs-length items in omega arith
structs-length (struct_item s ∷ items) = let rest : length (structs_in items) ≤ length items = structs-length items in omega arith
structs-length (function_item f ∷ items) = let rest : length (structs_in items) ≤ length items = structs-length items in omega arith

abbrev pub NoCycle : List ProgramItem → Type 0
NoCycle program = (q : List ℕ) → IsOnCycle program q → ⊥

-- the names of the path all reach the name
abbrev pub Lead : List ProgramItem → List (List ℕ) → List ℕ → Type 0
Lead program path q = (p : List ℕ) → is_among p path ≡ true → Reaches program p q

lead-push : (program : List ProgramItem) (path : List (List ℕ)) (q x : List ℕ) → Lead program path q → holds program q x ≡ true → Lead program (q ∷ path) x
lead-push program path q x lead h p among =
    elim (bytes_eq p q) as (λ b. bytes_eq p q ≡ b → Reaches program p x) [
      | true ↦ λ e. subst (λ z. Reaches program z x) (sym ((bytes_eq-Decides p q).0 e)) ([], h)
      | false ↦ λ e. let way = lead p (or_cases (bytes_eq p q) _ among e) in (way.0 ++ q ∷ [], way-push program way.0 p q x way.1 h)
    ] refl

-- without cycles a path doesn't come back, so a name is whole with as many levels as there are structs off the path
closes : (program : List ProgramItem) → NoCycle program → (n : ℕ) (path : List (List ℕ)) (q : List ℕ) → Lead program path q
    → free path (structs_in program) ≤ n → closed program n q ≡ true
closes program none zero path q lead le =
    go (struct_named program q) refl (is_among q path) refl
  where
    go : (r : Option StructDefinition) → struct_named program q ≡ r → (b : Bool) → is_among q path ≡ b → closed program zero q ≡ true
    go None e b in_path = closed-none program zero q e
    go (Some s) e true in_path = absurd (none q (lead q in_path))
    go (Some s) e false in_path =
        let less : free (q ∷ path) (structs_in program) < free path (structs_in program) = free-less q path (structs_in program) s e in_path in
        absurd (omega arith)
closes program none (suc n) path q lead le =
    go (struct_named program q) refl (is_among q path) refl (λ x held less. closes program none n (q ∷ path) x (lead-push program path q x lead held) less)
  where
    go : (r : Option StructDefinition) → struct_named program q ≡ r → (b : Bool) → is_among q path ≡ b
        → ((x : List ℕ) → holds program q x ≡ true → free (q ∷ path) (structs_in program) ≤ n → closed program n x ≡ true) → closed program (suc n) q ≡ true
    go None e b in_path rest = closed-none program (suc n) q e
    go (Some s) e true in_path rest = absurd (none q (lead q in_path))
    go (Some s) e false in_path rest =
        let less : free (q ∷ path) (structs_in program) < free path (structs_in program) = free-less q path (structs_in program) s e in_path in
        closed-suc program n q s e ∙ each_field_passes (closed program n) s.fields (λ x m. rest x (holds-some program q x s e ∙ m) (omega arith))

-- without cycles every name is whole with as many levels as the program has items
pub all-closed : (program : List ProgramItem) → NoCycle program → (q : List ℕ) → closed program (length program) q ≡ true
all-closed program none q =
    let few : free [] (structs_in program) ≤ length (structs_in program) = free-all [] (structs_in program) in
    let fewer : length (structs_in program) ≤ length program = structs-length program in
    closes program none (length program) [] q (λ p among. absurd (true≢false (sym among))) (omega arith)

fields_at : (program : List ProgramItem) (n : ℕ) (q : List ℕ) (s : StructDefinition) → struct_named program q ≡ Some s → closed program n q ≡ true
    → opened n program q ≡ types.Struct q (fields_spelled_by (opened n program) s.fields)
fields_at program zero q s e h = absurd (true≢false (sym h ∙ closed-zero program q s e))
fields_at program (suc n) q s e h =
    opened-suc program n q s e
    ∙ ap (λ fs. types.Struct q fs)
    (same_fields_by (closed program n) (opened n program) (opened (suc n) program) (λ x g. sym (opened-stays program n (suc n) x (omega arith) g)) s.fields (sym (closed-suc program n q s e) ∙ h))

pub structs-have-fields : (program : List ProgramItem) → NoCycle program → StructsHaveFields program
structs-have-fields program none q s e = fields_at program (length program) q s e (all-closed program none q)

-- Where no struct is on a cycle, the sizes at level 64 say which types are above it.
big_by_level : (a b : ℕ) → a ≤ b → (a ≤ 64 → b ≤ a) → nat_lt 64 a ≡ nat_lt 64 b
big_by_level a b low high = grind (arith, nat_tests)

pub level-decides : (program : List ProgramItem) → NoCycle program → (k : ℕ) → k ≡ 64 → (t : TypeExpression)
    → nat_lt 64 (size_by (level_size k program) t) ≡ nat_lt 64 (size (spelled program t))
level-decides program none k is t = big_by_level _ _ low high
  where
    whole : (x : List ℕ) → closed program (length program) x ≡ true
    whole = all-closed program none

    low : size_by (level_size k program) t ≤ size (spelled program t)
    low = type_below (closed program (length program)) (level_size k program) (opened (length program) program) (λ x g. level-below program (length program) k x g) t
        (each_passes (closed program (length program)) t (λ x m. whole x))

    same : (x : List ℕ) → closed program k x ≡ true → opened k program x ≡ opened (length program) program x
    same x g = sym (opened-stays program k (k + length program) x (omega arith) g) ∙ opened-stays program (length program) (k + length program) x (omega arith) (whole x)

    high : size_by (level_size k program) t ≤ 64 → size (spelled program t) ≤ size_by (level_size k program) t
    high h =
        let small = small_type k (closed program k) (level_size k program) (opened k program) (λ x g. level-small program k x (omega arith) g) t (omega arith) in
        let equal : size (spelled_by (opened k program) t) ≡ size (spelled program t) = ap size (same_type_by (closed program k) (opened k program) (opened (length program) program) same t small.0) in
        omega (arith, small.1)

-- a size of at most 64 at level 64 is that of a name on no cycle
pub small-no_cycle : (program : List ProgramItem) (k : ℕ) → k ≡ 64 → (q : List ℕ) → level_size k program q ≤ 64 → IsOnCycle program q → ⊥
small-no_cycle program k is q h cycle = closed-no_cycle program k q (level-small program k q (omega arith) (omega arith)).0 cycle
