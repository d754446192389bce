-- Sizes by level against the sizes of spelled types, and structs that are open at a level.
use Rattle.std.proofs.Common.{◌≡◌, ℕ, zero, suc, ◌≤◌, Bool, true, false, ◌&&◌, List, [], ◌∷◌, Option, Some, None, min, refl, sym, ap, ap₂, ◌∙◌, true≢false, bytes_eq, codes, arith, if◌then◌else◌}
use Rattle.gp_tree.specs.Program.{ProgramItem, FieldDefinition, StructDefinition}
use Rattle.gp_tree.specs.TypeExpression.{TypeExpression, TypeExpressions, ParameterTypes, ResultType, named_type, tuple_type, function_type, no_types, with_type, no_parameters, with_parameter, no_result, with_result}
use Rattle.gp_types.specs.Types as types
use Rattle.gp_types.specs.Types.{Ty, Tys, Fields, FunParams, Answer}
use Rattle.gp_types.specs.Signature.{mode_of}
use Rattle.gp_types.specs.Size.{size, total_size, total_field_size, total_param_size, answer_size}
use Rattle.gp_scope.specs.Definitions.{struct_named}
use Rattle.gp_scope.specs.Spelled.{spelled_by, all_spelled_by, params_spelled_by, answer_spelled_by, fields_spelled_by, basic_type, opened}
use Rattle.gp_scope.specs.code.EachName.{each_name, each_name_of, each_name_taken, each_name_answered, each_field_name}
use Rattle.gp_scope.specs.code.Levels.{size_by, total_by, params_total, answer_size_by, fields_total, level_size}

pub and_left : (a b : Bool) → (a && b) ≡ true → a ≡ true
and_left true b h = refl
and_left false b h = h

pub and_right : (a b : Bool) → (a && b) ≡ true → b ≡ true
and_right true b h = h
and_right false b h = absurd (true≢false (sym h))

pub and_true : (a b : Bool) → a ≡ true → b ≡ true → (a && b) ≡ true
and_true true b h g = g
and_true false b h g = h

-- whether the type of the name is whole with so many levels
unfoldable pub closed : List ProgramItem → ℕ → List ℕ → Bool
closed program zero name = elim (struct_named program name) [ None ↦ true | Some s ↦ false ]
closed program (suc n) name = elim (struct_named program name) [ None ↦ true | Some s ↦ each_field_name (closed program n) s.fields ]

pub closed-none : (program : List ProgramItem) (n : ℕ) (q : List ℕ) → struct_named program q ≡ None → closed program n q ≡ true
unfolding closed
closed-none program zero q e = ap (λ r. elim r [ None ↦ true | Some s ↦ false ]) e
closed-none program (suc n) q e = ap (λ r. elim r [ None ↦ true | Some s ↦ each_field_name (closed program n) s.fields ]) e

pub closed-zero : (program : List ProgramItem) (q : List ℕ) (s : StructDefinition) → struct_named program q ≡ Some s → closed program zero q ≡ false
unfolding closed
closed-zero program q s e = ap (λ r. elim r [ None ↦ true | Some s ↦ false ]) e

pub closed-suc : (program : List ProgramItem) (n : ℕ) (q : List ℕ) (s : StructDefinition) → struct_named program q ≡ Some s
    → closed program (suc n) q ≡ each_field_name (closed program n) s.fields
unfolding closed
closed-suc program n q s e = ap (λ r. elim r [ None ↦ true | Some s ↦ each_field_name (closed program n) s.fields ]) e

pub opened-none : (program : List ProgramItem) (n : ℕ) (q : List ℕ) → struct_named program q ≡ None → opened n program q ≡ basic_type q
opened-none program zero q e = refl
opened-none program (suc n) q e = ap (λ r. elim r [ None ↦ basic_type q | Some s ↦ types.Struct q (fields_spelled_by (opened n program) s.fields) ]) e

pub opened-suc : (program : List ProgramItem) (n : ℕ) (q : List ℕ) (s : StructDefinition) → struct_named program q ≡ Some s
    → opened (suc n) program q ≡ types.Struct q (fields_spelled_by (opened n program) s.fields)
opened-suc program n q s e = ap (λ r. elim r [ None ↦ basic_type q | Some s ↦ types.Struct q (fields_spelled_by (opened n program) s.fields) ]) e

pub level-zero : (program : List ProgramItem) (q : List ℕ) → level_size zero program q ≡ 1
unfolding level_size
level-zero program q = refl

pub level-none : (program : List ProgramItem) (n : ℕ) (q : List ℕ) → struct_named program q ≡ None → level_size n program q ≡ 1
unfolding level_size
level-none program zero q e = refl
level-none program (suc n) q e = ap (λ r. elim r [ None ↦ 1 | Some s ↦ min (suc (fields_total (level_size n program) s.fields)) 65 ]) e

pub level-suc : (program : List ProgramItem) (n : ℕ) (q : List ℕ) (s : StructDefinition) → struct_named program q ≡ Some s
    → level_size (suc n) program q ≡ min (suc (fields_total (level_size n program) s.fields)) 65
unfolding level_size
level-suc program n q s e = ap (λ r. elim r [ None ↦ 1 | Some s ↦ min (suc (fields_total (level_size n program) s.fields)) 65 ]) e

-- Names that mean the same make the same types.
module _ (test : List ℕ → Bool) (f g : List ℕ → Ty) (same : (x : List ℕ) → test x ≡ true → f x ≡ g x) where
  mutual
    pub same_type_by : (t : TypeExpression) → each_name test t ≡ true → spelled_by f t ≡ spelled_by g t
    same_type_by (named_type name) h = same name h
    same_type_by (tuple_type items) h = ap (λ ts. types.Tuple ts) (same_types_by items h)
    same_type_by (function_type ps r) h =
        ap₂ (λ a b. types.Function a b) (same_params_by ps (and_left (each_name_taken test ps) _ h)) (same_answer_by r (and_right (each_name_taken test ps) _ h))

    pub same_types_by : (ts : TypeExpressions) → each_name_of test ts ≡ true → all_spelled_by f ts ≡ all_spelled_by g ts
    same_types_by no_types h = refl
    same_types_by (with_type t ts) h =
        ap₂ (λ a b. types.more a b) (same_type_by t (and_left (each_name test t) _ h)) (same_types_by ts (and_right (each_name test t) _ h))

    pub same_params_by : (ps : ParameterTypes) → each_name_taken test ps ≡ true → params_spelled_by f ps ≡ params_spelled_by g ps
    same_params_by no_parameters h = refl
    same_params_by (with_parameter t owned ps) h =
        ap₂ (λ a b. types.param a (mode_of a owned) b) (same_type_by t (and_left (each_name test t) _ h)) (same_params_by ps (and_right (each_name test t) _ h))

    pub same_answer_by : (r : ResultType) → each_name_answered test r ≡ true → answer_spelled_by f r ≡ answer_spelled_by g r
    same_answer_by no_result h = refl
    same_answer_by (with_result t) h = ap (λ a. types.answers a) (same_type_by t h)

  pub same_fields_by : (fs : List FieldDefinition) → each_field_name test fs ≡ true → fields_spelled_by f fs ≡ fields_spelled_by g fs
  same_fields_by [] h = refl
  same_fields_by (d ∷ ds) h =
      ap₂ (λ a b. types.field d.name a b) (same_type_by d.ty (and_left (each_name test d.ty) _ h)) (same_fields_by ds (and_right (each_name test d.ty) _ h))

-- Sizes of names bound the sizes of types from below.
module _ (test : List ℕ → Bool) (sizes : List ℕ → ℕ) (f : List ℕ → Ty) (below : (x : List ℕ) → test x ≡ true → sizes x ≤ size (f x)) where
  mutual
    pub type_below : (t : TypeExpression) → each_name test t ≡ true → size_by sizes t ≤ size (spelled_by f t)
    type_below (named_type name) h = below name h
    type_below (tuple_type items) h = let rest : total_by sizes items ≤ total_size (all_spelled_by f items) = types_below items h in omega arith
    type_below (function_type ps r) h =
        let here : params_total sizes ps ≤ total_param_size (params_spelled_by f ps) = params_below ps (and_left (each_name_taken test ps) _ h) in
        let rest : answer_size_by sizes r ≤ answer_size (answer_spelled_by f r) = answer_below r (and_right (each_name_taken test ps) _ h) in
        omega arith

    pub types_below : (ts : TypeExpressions) → each_name_of test ts ≡ true → total_by sizes ts ≤ total_size (all_spelled_by f ts)
    types_below no_types h = omega arith
    types_below (with_type t ts) h =
        let here : size_by sizes t ≤ size (spelled_by f t) = type_below t (and_left (each_name test t) _ h) in
        let rest : total_by sizes ts ≤ total_size (all_spelled_by f ts) = types_below ts (and_right (each_name test t) _ h) in
        omega arith

    pub params_below : (ps : ParameterTypes) → each_name_taken test ps ≡ true → params_total sizes ps ≤ total_param_size (params_spelled_by f ps)
    params_below no_parameters h = omega arith
    params_below (with_parameter t owned ps) h =
        let here : size_by sizes t ≤ size (spelled_by f t) = type_below t (and_left (each_name test t) _ h) in
        let rest : params_total sizes ps ≤ total_param_size (params_spelled_by f ps) = params_below ps (and_right (each_name test t) _ h) in
        omega arith

    pub answer_below : (r : ResultType) → each_name_answered test r ≡ true → answer_size_by sizes r ≤ answer_size (answer_spelled_by f r)
    answer_below no_result h = omega arith
    answer_below (with_result t) h = type_below t h

  pub fields_below : (fs : List FieldDefinition) → each_field_name test fs ≡ true → fields_total sizes fs ≤ total_field_size (fields_spelled_by f fs)
  fields_below [] h = omega arith
  fields_below (d ∷ ds) h =
      let here : size_by sizes d.ty ≤ size (spelled_by f d.ty) = type_below d.ty (and_left (each_name test d.ty) _ h) in
      let rest : fields_total sizes ds ≤ total_field_size (fields_spelled_by f ds) = fields_below ds (and_right (each_name test d.ty) _ h) in
      omega arith

-- Names with small sizes make small types.
module _ (limit : ℕ) (test : List ℕ → Bool) (sizes : List ℕ → ℕ) (f : List ℕ → Ty)
    (small : (x : List ℕ) → sizes x ≤ limit → (test x ≡ true) × (size (f x) ≤ sizes x)) where
  mutual
    pub small_type : (t : TypeExpression) → size_by sizes t ≤ limit → (each_name test t ≡ true) × (size (spelled_by f t) ≤ size_by sizes t)
    small_type (named_type name) h = small name h
    small_type (tuple_type items) h = let rest = small_types items (omega arith) in (rest.0, omega (arith, rest.1))
    small_type (function_type ps r) h =
        let here = small_params ps (omega arith) in
        let rest = small_answer r (omega arith) in
        (and_true (each_name_taken test ps) _ here.0 rest.0, omega (arith, here.1, rest.1))

    pub small_types : (ts : TypeExpressions) → total_by sizes ts ≤ limit → (each_name_of test ts ≡ true) × (total_size (all_spelled_by f ts) ≤ total_by sizes ts)
    small_types no_types h = (refl, omega arith)
    small_types (with_type t ts) h =
        let here = small_type t (omega arith) in
        let rest = small_types ts (omega arith) in
        (and_true (each_name test t) _ here.0 rest.0, omega (arith, here.1, rest.1))

    pub small_params : (ps : ParameterTypes) → params_total sizes ps ≤ limit
        → (each_name_taken test ps ≡ true) × (total_param_size (params_spelled_by f ps) ≤ params_total sizes ps)
    small_params no_parameters h = (refl, omega arith)
    small_params (with_parameter t owned ps) h =
        let here = small_type t (omega arith) in
        let rest = small_params ps (omega arith) in
        (and_true (each_name test t) _ here.0 rest.0, omega (arith, here.1, rest.1))

    pub small_answer : (r : ResultType) → answer_size_by sizes r ≤ limit
        → (each_name_answered test r ≡ true) × (answer_size (answer_spelled_by f r) ≤ answer_size_by sizes r)
    small_answer no_result h = (refl, omega arith)
    small_answer (with_result t) h = small_type t h

  pub small_fields : (fs : List FieldDefinition) → fields_total sizes fs ≤ limit
      → (each_field_name test fs ≡ true) × (total_field_size (fields_spelled_by f fs) ≤ fields_total sizes fs)
  small_fields [] h = (refl, omega arith)
  small_fields (d ∷ ds) h =
      let here = small_type d.ty (omega arith) in
      let rest = small_fields ds (omega arith) in
      (and_true (each_name test d.ty) _ here.0 rest.0, omega (arith, here.1, rest.1))

pub size-positive : (t : Ty) → 1 ≤ size t
size-positive types.Int = omega arith
size-positive types.Bool = omega arith
size-positive types.Qubit = omega arith
size-positive (types.Tuple items) = omega arith
size-positive (types.Struct name fields) = omega arith
size-positive (types.Function ps r) = omega arith

size-basic : (q : List ℕ) → size (basic_type q) ≡ 1
size-basic q = go (bytes_eq q (codes "int")) (bytes_eq q (codes "bool"))
  where
    go : (a b : Bool) → size (if a then types.Int else if b then types.Bool else types.Qubit) ≡ 1
    go true b = refl
    go false true = refl
    go false false = refl

-- a type that is whole stays as it is with more levels
stays_step : (program : List ProgramItem) (n : ℕ) → ((m : ℕ) (x : List ℕ) → n ≤ m → closed program n x ≡ true → opened m program x ≡ opened n program x)
    → (m : ℕ) (q : List ℕ) → suc n ≤ m → closed program (suc n) q ≡ true → (r : Option StructDefinition) → struct_named program q ≡ r
    → opened m program q ≡ opened (suc n) program q
stays_step program n stays m q le h None e = opened-none program m q e ∙ sym (opened-none program (suc n) q e)
stays_step program n stays zero q le h (Some s) e = absurd (omega arith)
stays_step program n stays (suc m) q le h (Some s) e =
    opened-suc program m q s e
    ∙ ap (λ fs. types.Struct q fs) (same_fields_by (closed program n) (opened m program) (opened n program) (λ x g. stays m x (omega arith) g) s.fields (sym (closed-suc program n q s e) ∙ h))
    ∙ sym (opened-suc program n q s e)

stays_zero : (program : List ProgramItem) (m : ℕ) (q : List ℕ) → closed program zero q ≡ true → (r : Option StructDefinition) → struct_named program q ≡ r
    → opened m program q ≡ opened zero program q
stays_zero program m q h None e = opened-none program m q e
stays_zero program m q h (Some s) e = absurd (true≢false (sym h ∙ closed-zero program q s e))

pub opened-stays : (program : List ProgramItem) (n m : ℕ) (q : List ℕ) → n ≤ m → closed program n q ≡ true → opened m program q ≡ opened n program q
opened-stays program zero m q le h = stays_zero program m q h (struct_named program q) refl
opened-stays program (suc n) m q le h = stays_step program n (λ k x l g. opened-stays program n k x l g) m q le h (struct_named program q) refl

-- a name's size at any level is at most that of its whole type
below_step : (program : List ProgramItem) (n : ℕ) → ((m : ℕ) (x : List ℕ) → closed program n x ≡ true → level_size m program x ≤ size (opened n program x))
    → (m : ℕ) (q : List ℕ) → closed program (suc n) q ≡ true → (r : Option StructDefinition) → struct_named program q ≡ r
    → level_size m program q ≤ size (opened (suc n) program q)
below_step program n below m q h None e =
    let one : level_size m program q ≡ 1 = level-none program m q e in
    let positive : 1 ≤ size (opened (suc n) program q) = size-positive (opened (suc n) program q) in
    omega arith
below_step program n below zero q h (Some s) e =
    let one : level_size zero program q ≡ 1 = level-zero program q in
    let positive : 1 ≤ size (opened (suc n) program q) = size-positive (opened (suc n) program q) in
    omega arith
below_step program n below (suc m) q h (Some s) e =
    let here : level_size (suc m) program q ≡ min (suc (fields_total (level_size m program) s.fields)) 65 = level-suc program m q s e in
    let fields : fields_total (level_size m program) s.fields ≤ total_field_size (fields_spelled_by (opened n program) s.fields) =
    fields_below (closed program n) (level_size m program) (opened n program) (λ x g. below m x g) s.fields (sym (closed-suc program n q s e) ∙ h) in
    let whole : size (opened (suc n) program q) ≡ suc (total_field_size (fields_spelled_by (opened n program) s.fields)) = ap size (opened-suc program n q s e) in
    omega arith

below_zero : (program : List ProgramItem) (m : ℕ) (q : List ℕ) → closed program zero q ≡ true → (r : Option StructDefinition) → struct_named program q ≡ r
    → level_size m program q ≤ size (opened zero program q)
below_zero program m q h None e =
    let one : level_size m program q ≡ 1 = level-none program m q e in
    let positive : 1 ≤ size (opened zero program q) = size-positive (opened zero program q) in
    omega arith
below_zero program m q h (Some s) e = absurd (true≢false (sym h ∙ closed-zero program q s e))

pub level-below : (program : List ProgramItem) (n m : ℕ) (q : List ℕ) → closed program n q ≡ true → level_size m program q ≤ size (opened n program q)
level-below program zero m q h = below_zero program m q h (struct_named program q) refl
level-below program (suc n) m q h = below_step program n (λ k x g. level-below program n k x g) m q h (struct_named program q) refl

-- a name whose size at a level is no more than the level has a whole type there, and that is its size
small_step : (program : List ProgramItem) (n : ℕ) → ((x : List ℕ) → level_size n program x ≤ n → (closed program n x ≡ true) × (size (opened n program x) ≤ level_size n program x))
    → (q : List ℕ) → suc n ≤ 64 → level_size (suc n) program q ≤ suc n → (r : Option StructDefinition) → struct_named program q ≡ r
    → (closed program (suc n) q ≡ true) × (size (opened (suc n) program q) ≤ level_size (suc n) program q)
small_step program n small q le h None e =
    let one : level_size (suc n) program q ≡ 1 = level-none program (suc n) q e in
    let basic : size (opened (suc n) program q) ≡ 1 = ap size (opened-none program (suc n) q e) ∙ size-basic q in
    (closed-none program (suc n) q e, omega arith)
small_step program n small q le h (Some s) e =
    let here : level_size (suc n) program q ≡ min (suc (fields_total (level_size n program) s.fields)) 65 = level-suc program n q s e in
    let fields = small_fields n (closed program n) (level_size n program) (opened n program) small s.fields (omega arith) in
    let whole : size (opened (suc n) program q) ≡ suc (total_field_size (fields_spelled_by (opened n program) s.fields)) = ap size (opened-suc program n q s e) in
    (closed-suc program n q s e ∙ fields.0, omega (arith, fields.1))

pub level-small : (program : List ProgramItem) (n : ℕ) (q : List ℕ) → n ≤ 64 → level_size n program q ≤ n
    → (closed program n q ≡ true) × (size (opened n program q) ≤ level_size n program q)
level-small program zero q le h = let one : level_size zero program q ≡ 1 = level-zero program q in absurd (omega arith)
level-small program (suc n) q le h = small_step program n (λ x g. level-small program n x (omega arith) g) q le h (struct_named program q) refl
