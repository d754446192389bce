-- Paths of fields.
use Rattle.std.proofs.Common.{◌≡◌, ℕ, zero, suc, List, [], ◌∷◌, Option, Some, None, get_or, set, drop, refl, sym, subst, ap, ◌∙◌, ◌<◌, ◌+◌, length, map, Bool, true, false, if◌then◌else◌, option_map, bytes_eq, arith}
use Rattle.gp_meaning.specs.Value as spec
use Rattle.gp_meaning.specs.Value.{Value, FieldValue}
use Rattle.gp_evaluator.specs.View.{field_view}
use Rattle.gp_evaluator.specs.declared.value.FieldValue as declared_field

pub path_none : (path : List (List ℕ)) → spec.at_path None path ≡ None
path_none [] = refl
path_none (f ∷ fs) = refl

pub path_stops : (v : Value) (path : List (List ℕ)) (i : ℕ) (whole : Option Value) (f : List ℕ) → i < length path → f ≡ get_or path i f
    → None ≡ spec.field_of v f → spec.at_path (Some v) (drop i path) ≡ whole → None ≡ whole
path_stops v [] i whole f h e p q = absurd (omega (arith, h))
path_stops v (g ∷ fs) zero whole f h e p q = sym (path_none fs) ∙ ap (λ z. spec.at_path z fs) (p ∙ ap (spec.field_of v) e) ∙ q
path_stops v (g ∷ fs) (suc i) whole f h e p q = path_stops v fs i whole f (omega (arith, h)) e p q

-- ---- fields by their places

later : (i : ℕ) (o : Option ℕ) → option_map (λ k. i + k) (option_map suc o) ≡ option_map (λ k. suc i + k) o
later i None = refl
later i (Some k) = ap Some (omega arith)

pub from_start : (o : Option ℕ) → option_map (λ k. 0 + k) o ≡ o
from_start None = refl
from_start (Some k) = ap Some (omega arith)

-- the place among the fields that are left, behind i others
abbrev pub place_from : ℕ → List declared_field.FieldValue → List ℕ → Option ℕ
place_from i fields name = option_map (λ k. i + k) (spec.place_named (map field_view (drop i fields)) name)

go_on : (i : ℕ) (fields fs : List declared_field.FieldValue) (f : declared_field.FieldValue) (name : List ℕ) (b : Bool) → drop i fields ≡ f ∷ fs → drop (suc i) fields ≡ fs
    → bytes_eq (field_view f).name name ≡ b → place_from i fields name ≡ (if b then Some i else place_from (suc i) fields name)
go_on i fields fs f name true e d t =
    ap (λ xs. option_map (λ k. i + k) (spec.place_named (map field_view xs) name)) e ∙ ap (λ b. option_map (λ k. i + k) (if b then Some 0 else option_map suc (spec.place_named (map field_view fs) name))) t ∙ ap Some (omega arith)
go_on i fields fs f name false e d t =
    ap (λ xs. option_map (λ k. i + k) (spec.place_named (map field_view xs) name)) e
    ∙ ap (λ b. option_map (λ k. i + k) (if b then Some 0 else option_map suc (spec.place_named (map field_view fs) name))) t
    ∙ later i (spec.place_named (map field_view fs) name) ∙ ap (λ xs. option_map (λ k. suc i + k) (spec.place_named (map field_view xs) name)) (sym d)

pub ruleset places = (from_start)

pub place_within : (fs : List FieldValue) (name : List ℕ) (k : ℕ) → spec.place_named fs name ≡ Some k → k < length fs
place_within [] name k e = absurd cc
place_within (f ∷ fs) name k e = by_test (λ j h. place_within fs name j h) (bytes_eq f.name name) e where
  by_place : ((j : ℕ) → spec.place_named fs name ≡ Some j → j < length fs) → (o : Option ℕ) → spec.place_named fs name ≡ o → option_map suc o ≡ Some k → k < suc (length fs)
  by_place among None h g = absurd cc
  by_place among (Some j) h g = let i : j < length fs = among j h in let n : suc j ≡ k = cc in omega arith

  by_test : ((j : ℕ) → spec.place_named fs name ≡ Some j → j < length fs) → (b : Bool) → (if b then Some 0 else option_map suc (spec.place_named fs name)) ≡ Some k → k < suc (length fs)
  by_test among true g = let n : 0 ≡ k = cc in omega arith
  by_test among false g = by_place among (spec.place_named fs name) refl g

pub part_none : (fs : List FieldValue) (name : List ℕ) (path : List (List ℕ)) (new : Value) → spec.place_named fs name ≡ None
    → spec.with_field_part (spec.fields_of fs) name path new ≡ None
part_none [] name path new e = refl
part_none (f ∷ fs) name path new e = by_test (λ h. part_none fs name path new h) (bytes_eq f.name name) e where
  by_place : (spec.place_named fs name ≡ None → spec.with_field_part (spec.fields_of fs) name path new ≡ None) → (o : Option ℕ) → spec.place_named fs name ≡ o → option_map suc o ≡ None → option_map (spec.with_field f.name f.value) (spec.with_field_part (spec.fields_of fs) name path new) ≡ None
  by_place among None h g = ap (option_map (spec.with_field f.name f.value)) (among h)
  by_place among (Some j) h g = absurd cc

  by_test : (spec.place_named fs name ≡ None → spec.with_field_part (spec.fields_of fs) name path new ≡ None) → (b : Bool)
      → (if b then Some 0 else option_map suc (spec.place_named fs name)) ≡ None
      → (if b then option_map (λ c. spec.with_field f.name c (spec.fields_of fs)) (spec.with_part f.value path new)
      else option_map (spec.with_field f.name f.value) (spec.with_field_part (spec.fields_of fs) name path new)) ≡ None
  by_test among true g = absurd cc
  by_test among false g = by_place among (spec.place_named fs name) refl g

mapped : {A B C : Type 0} (f : B → C) (g : A → B) (o : Option A) → option_map f (option_map g o) ≡ option_map (λ x. f (g x)) o
mapped f g None = refl
mapped f g (Some x) = refl

-- what a change of the fields comes to, where the first of them has the name or not
abbrev AtPlace : FieldValue → List FieldValue → List ℕ → List (List ℕ) → Value → FieldValue → ℕ → Bool → Type 0
AtPlace f fs name path new d k b =
    (if b then option_map (λ c. spec.with_field f.name c (spec.fields_of fs)) (spec.with_part f.value path new)
    else option_map (spec.with_field f.name f.value) (spec.with_field_part (spec.fields_of fs) name path new))
    ≡ option_map (λ c. spec.fields_of (spec.changed_at (f ∷ fs) k c)) (spec.with_part (get_or (f ∷ fs) k d).value path new)

pub part_found : (fs : List FieldValue) (name : List ℕ) (path : List (List ℕ)) (new : Value) (k : ℕ) (d : FieldValue) → spec.place_named fs name ≡ Some k
    → spec.with_field_part (spec.fields_of fs) name path new ≡ option_map (λ c. spec.fields_of (spec.changed_at fs k c)) (spec.with_part (get_or fs k d).value path new)
part_found [] name path new k d e = absurd cc
part_found (f ∷ fs) name path new k d e = by_test (λ j h. part_found fs name path new j d h) (bytes_eq f.name name) e where
  by_place : ((j : ℕ) → spec.place_named fs name ≡ Some j
      → spec.with_field_part (spec.fields_of fs) name path new ≡ option_map (λ c. spec.fields_of (spec.changed_at fs j c)) (spec.with_part (get_or fs j d).value path new))
      → (o : Option ℕ) → spec.place_named fs name ≡ o → option_map suc o ≡ Some k → AtPlace f fs name path new d k false
  by_place among None h g = absurd cc
  by_place among (Some j) h g =
      let n : suc j ≡ k = cc in
      subst (λ (m : ℕ). AtPlace f fs name path new d m false) n
      (ap (option_map (spec.with_field f.name f.value)) (among j h)
      ∙ mapped (spec.with_field f.name f.value) (λ c. spec.fields_of (spec.changed_at fs j c)) (spec.with_part (get_or fs j d).value path new))

  by_test : ((j : ℕ) → spec.place_named fs name ≡ Some j
      → spec.with_field_part (spec.fields_of fs) name path new ≡ option_map (λ c. spec.fields_of (spec.changed_at fs j c)) (spec.with_part (get_or fs j d).value path new))
      → (b : Bool) → (if b then Some 0 else option_map suc (spec.place_named fs name)) ≡ Some k → AtPlace f fs name path new d k b
  by_test among true g = let n : 0 ≡ k = cc in subst (λ (m : ℕ). AtPlace f fs name path new d m true) n refl
  by_test among false g = by_place among (spec.place_named fs name) refl g

-- a path that begins with this field
pub at_field : (v : Value) (fs : List FieldValue) (path : List (List ℕ)) (field : List ℕ) (new : Value) → v ≡ spec.structure (spec.fields_of fs)
    → 0 < length path → field ≡ get_or path 0 field → spec.with_part v path new ≡ option_map spec.structure (spec.with_field_part (spec.fields_of fs) field (drop 1 path) new)
at_field v fs [] field new e h g = absurd (omega arith)
at_field v fs (f ∷ path) field new e h g =
    ap (λ w. spec.with_part w (f ∷ path) new) e ∙ ap (λ n. option_map spec.structure (spec.with_field_part (spec.fields_of fs) n path new)) (sym g)

pub written : (xs : List declared_field.FieldValue) (k : ℕ) (y d : declared_field.FieldValue) → k < length xs → (field_view y).name ≡ (field_view (get_or xs k d)).name
    → map field_view (set xs k y) ≡ spec.changed_at (map field_view xs) k (field_view y).value
written [] k y d h e = absurd (omega arith)
written (x ∷ xs) zero y d h e = ap (λ n. record { name = n; value = (field_view y).value } ∷ map field_view xs) e
written (x ∷ xs) (suc k) y d h e = ap (λ fs. field_view x ∷ fs) (written xs k y d (omega arith) e)
