-- Rows of arguments, fields and final values.
use Rattle.std.proofs.Common.{◌≡◌, ℕ, zero, suc, ◌<◌, ◌≤◌, ◌+◌, add-one, List, [], ◌∷◌, ◌++◌, Some, None, get_or, drop, length, map, refl, sym, ap, ◌∙◌, Bool, true, false, not, ◌&&◌, ◌==◌, ltb, eqb, if◌then◌else◌, option_and_then, ◌≢◌, arith}
use Rattle.std.proofs.lemmas.Bool.{eq-eqb, ne_eqb, ltb-true, ltb-false}
use Rattle.std.proofs.lemmas.List.{length-map, get_or-map, map-append, drop_all}
use Rattle.std.specs.Prelude.{All}
use Rattle.std.specs.declared.alloc.Global.{Global}
use Rattle.std.specs.declared.rc.RcSlice.{RcSlice}
use Rattle.std.specs.Rc.{rc_slice_items}
use Rattle.gp_base.specs.Tag.{IsTag, IsPrintable}
use Rattle.gp_locals.specs.Callee.{Callee, takes_tag}
use Rattle.gp_locals.specs.Tag.{is_tag, is_tag_character, all_tag_characters}
use Rattle.gp_types.specs.Signature.{Parameter, function_params}
use Rattle.gp_types.specs.Types.{Field, FunParam, fields_of, params_of}
use Rattle.gp_types.specs.View.{ty_view, field_view}
use Rattle.gp_types.specs.declared.ty.Ty as declared_ty
use Rattle.gp_types.specs.declared.ty.Field as declared_field
use Rattle.gp_types.specs.declared.ty.Ty.TheVariants as variants
use Rattle.gp_scope.proofs.SpellLemmas.{ty_view-Struct}
use Rattle.gp_tree.specs.declared.expr.Expr.{Expr}
use Rattle.gp_tree.specs.Expression.{Expression, expression, expressions, expressions_of}
use Rattle.gp_evaluator.specs.declared.value.Value as declared_value
use Rattle.gp_evaluator.specs.declared.value.FieldValue as declared_made
use Rattle.gp_evaluator.specs.View as views
use Rattle.gp_evaluator.specs.View.{value_view}
use Rattle.gp_meaning.specs.Calls as spec
use Rattle.gp_meaning.specs.Value as values
use Rattle.gp_meaning.specs.Value.{Value, FieldValue, FieldValues, no_fields, with_field}

pub fields_count : (fs : List Field) → length fs ≡ spec.field_count (fields_of fs)
fields_count [] = refl
fields_count (f ∷ fs) = ap suc (fields_count fs)

pub expressions_count : (es : List Expression) → length es ≡ spec.count (expressions_of es)
expressions_count [] = refl
expressions_count (e ∷ es) = ap suc (expressions_count es)

pub struct_count : (ty : declared_ty.Ty) (name : List ℕ) (fields : RcSlice declared_field.Field Global) → ty ≡ variants.Struct name fields → length (rc_slice_items fields) ≡ spec.part_count (ty_view ty)
struct_count ty name fields is =
    sym (length-map (rc_slice_items fields) field_view) ∙ fields_count (map field_view (rc_slice_items fields)) ∙ ap spec.part_count (sym (ap ty_view is ∙ ty_view-Struct name fields))

pub ruleset call_rows = (struct_count)

pub written_count : {A : Type 0} (view : A → Parameter) (ps : List A) → length ps ≡ spec.param_count (function_params (map view ps))
written_count view [] = refl
written_count view (p ∷ ps) = ap suc (written_count view ps)

pub valued_count : {A : Type 0} (view : A → FunParam) (ps : List A) → length ps ≡ spec.param_count (params_of (map view ps))
valued_count view [] = refl
valued_count view (p ∷ ps) = ap suc (valued_count view ps)

pub ruleset param_counts = (written_count, valued_count)

-- ---- tags

pub right_count : (callee : Callee) (es : List Expr) → takes_tag callee ≡ false → length es ≡ spec.value_count callee → spec.tag_of callee (expressions es) ≡ Some None
right_count callee es t e =
    let n : spec.count (expressions es) ≡ spec.value_count callee = sym (sym (length-map es expression) ∙ expressions_count (map expression es)) ∙ e in
    ap (λ b. if b then spec.tag_before (expressions es) else (if spec.count (expressions es) == spec.value_count callee then Some None else None)) t
    ∙ ap (λ b. if b then Some None else None) (eq-eqb (spec.count (expressions es)) (spec.value_count callee) n)

pub wrong_count : (callee : Callee) (es : List Expr) → takes_tag callee ≡ false → length es ≢ spec.value_count callee → spec.tag_of callee (expressions es) ≡ None
wrong_count callee es t e =
    let n : spec.count (expressions es) ≡ length es = sym (sym (length-map es expression) ∙ expressions_count (map expression es)) in
    ap (λ b. if b then spec.tag_before (expressions es) else (if spec.count (expressions es) == spec.value_count callee then Some None else None)) t
    ∙ ap (λ b. if b then Some None else None) (ne_eqb (spec.count (expressions es)) (spec.value_count callee) (λ g. e (sym n ∙ g)))

pub takes : (callee : Callee) (es : List Expr) → takes_tag callee ≡ true → spec.tag_of callee (expressions es) ≡ spec.tag_before (expressions es)
takes callee es t = ap (λ b. if b then spec.tag_before (expressions es) else (if spec.count (expressions es) == spec.value_count callee then Some None else None)) t

pub ruleset call_tags = (right_count, wrong_count, takes)

pub not_two : (es : List Expr) → length es ≢ 2 → spec.tag_before (expressions es) ≡ None
not_two [] n = refl
not_two (e ∷ []) n = refl
not_two (e ∷ f ∷ []) n = absurd (n refl)
not_two (e ∷ f ∷ g ∷ es) n = refl

pub two : (es : List Expr) (e : Expr) → length es ≡ 2 → e ≡ get_or es 0 e → spec.tag_before (expressions es) ≡ option_and_then (λ t. spec.tag_where t (is_tag t)) (spec.text_of (expression e))
two [] e n is = absurd (omega arith)
two (a ∷ []) e n is = absurd (omega arith)
two (a ∷ b ∷ []) e n is = ap (λ x. option_and_then (λ t. spec.tag_where t (is_tag t)) (spec.text_of (expression x))) (sym is)
two (a ∷ b ∷ c ∷ es) e n is = absurd (omega arith)

pub ruleset tags = (not_two, two)

character_is : (c : ℕ) → is_tag_character c ≡ true → IsPrintable c
character_is c e = by_tests (ltb c 32) (ltb 126 c) refl refl e where
  by_tests : (a b : Bool) → ltb c 32 ≡ a → ltb 126 c ≡ b → (not a && not b && not (eqb c 92)) ≡ true → IsPrintable c
  by_tests true b h g f = absurd cc
  by_tests false true h g f = absurd cc
  by_tests false false h g f = let i = ltb-false c 32 h in let j = ltb-false 126 c g in (omega (arith, i), omega (arith, j))

both_true : (a b : Bool) → (a && b) ≡ true → (a ≡ true) × (b ≡ true)
both_true true true e = (refl, refl)
both_true true false e = absurd cc
both_true false b e = absurd cc

characters_are : (cs : List ℕ) → all_tag_characters cs ≡ true → All IsPrintable cs
characters_are [] e k d h = absurd (omega (arith, h))
characters_are (c ∷ cs) e zero d h = character_is c (both_true (is_tag_character c) (all_tag_characters cs) e).0
characters_are (c ∷ cs) e (suc k) d h = characters_are cs (both_true (is_tag_character c) (all_tag_characters cs) e).1 k d (omega (arith, h))

pub tag_is : (t : List ℕ) → is_tag t ≡ true → IsTag t
tag_is t e = by_tests (ltb 0 (length t)) (ltb 255 (length t)) (all_tag_characters t) refl refl refl e where
  by_tests : (a b c : Bool) → ltb 0 (length t) ≡ a → ltb 255 (length t) ≡ b → all_tag_characters t ≡ c → (a && not b && c) ≡ true → IsTag t
  by_tests false b c h g f i = absurd cc
  by_tests true true c h g f i = absurd cc
  by_tests true false false h g f i = absurd cc
  by_tests true false true h g f i =
      let some : 0 < length t = ltb-true 0 (length t) h in
      let few : length t ≤ 255 = ltb-false 255 (length t) g in
      record { some = some; few = few; printable = characters_are t f }

-- ---- fields and their values

-- fields before others
abbrev pub prefixed : List FieldValue → FieldValues → FieldValues
prefixed [] rest = rest
prefixed (f ∷ fs) rest = with_field f.name f.value (prefixed fs rest)

pub prefixed_end : (fs : List FieldValue) → prefixed fs no_fields ≡ values.fields_of fs
prefixed_end [] = refl
prefixed_end (f ∷ fs) = ap (with_field f.name f.value) (prefixed_end fs)

pub prefixed_one : (fs : List FieldValue) (f : FieldValue) (rest : FieldValues) → prefixed (fs ++ f ∷ []) rest ≡ prefixed fs (with_field f.name f.value rest)
prefixed_one [] f rest = refl
prefixed_one (g ∷ fs) f rest = ap (with_field g.name g.value) (prefixed_one fs f rest)

pub field_step : (fs : List Field) (vs : List Value) (i : ℕ) (f : Field) (v : Value) → i < length fs → i < length vs → f ≡ get_or fs i f → v ≡ get_or vs i v
    → spec.field_values (fields_of (drop i fs)) (drop i vs) ≡ with_field f.name v (spec.field_values (fields_of (drop (suc i) fs)) (drop (suc i) vs))
field_step [] vs i f v h g e d = absurd (omega (arith, h))
field_step (x ∷ fs) [] i f v h g e d = absurd (omega (arith, g))
field_step (x ∷ fs) (y ∷ vs) zero f v h g e d = ap (λ n. with_field n y (spec.field_values (fields_of fs) vs)) (ap (λ (z : Field). z.name) (sym e)) ∙ ap (λ z. with_field f.name z (spec.field_values (fields_of fs) vs)) (sym d)
field_step (x ∷ fs) (y ∷ vs) (suc i) f v h g e d = field_step fs vs i f v (omega (arith, h)) (omega (arith, g)) e d

pub no_values_left : (fs : List Field) (vs : List Value) (i : ℕ) → length vs ≤ i → spec.field_values (fields_of (drop i fs)) (drop i vs) ≡ no_fields
no_values_left fs vs i h = ap (spec.field_values (fields_of (drop i fs))) (drop_all i vs h) ∙ none (drop i fs) where
  none : (fs : List Field) → spec.field_values (fields_of fs) [] ≡ no_fields
  none [] = refl
  none (f ∷ fs) = refl

pub no_fields_left : (fs : List Field) (vs : List Value) (i : ℕ) → length fs ≤ i → spec.field_values (fields_of (drop i fs)) (drop i vs) ≡ no_fields
no_fields_left fs vs i h = ap (λ xs. spec.field_values (fields_of xs) (drop i vs)) (drop_all i fs h)

-- one field more
pub fields_made : (fields : List declared_field.Field) (values : List declared_value.Value) (made made' : List declared_made.FieldValue) (i : ℕ) (f : declared_field.Field) (v : declared_value.Value) (m : declared_made.FieldValue)
    → i < length fields → i < length values → f ≡ get_or fields i f → v ≡ get_or values i v → made' ≡ made ++ m ∷ [] → (views.field_view m).name ≡ (field_view f).name → (views.field_view m).value ≡ value_view v
    → prefixed (map views.field_view made') (spec.field_values (fields_of (drop (i + 1) (map field_view fields))) (drop (i + 1) (map value_view values)))
    ≡ prefixed (map views.field_view made) (spec.field_values (fields_of (drop i (map field_view fields))) (drop i (map value_view values)))
fields_made fields values made made' i f v m h g e d p n q =
    let fs = map field_view fields in
    let vs = map value_view values in
    let rest = spec.field_values (fields_of (drop (suc i) fs)) (drop (suc i) vs) in
    ap (λ k. prefixed (map views.field_view made') (spec.field_values (fields_of (drop k fs)) (drop k vs))) (add-one i)
    ∙ ap (λ xs. prefixed (map views.field_view xs) rest) p ∙ ap (λ xs. prefixed xs rest) (map-append views.field_view made (m ∷ []))
    ∙ prefixed_one (map views.field_view made) (views.field_view m) rest
    ∙ ap (λ x. prefixed (map views.field_view made) (with_field x (views.field_view m).value rest)) n ∙ ap (λ x. prefixed (map views.field_view made) (with_field (field_view f).name x rest)) q
    ∙ ap (prefixed (map views.field_view made)) (sym (field_step fs vs i (field_view f) (value_view v) (omega (arith, h, length-map fields field_view)) (omega (arith, g, length-map values value_view))
    (ap field_view e ∙ sym (get_or-map field_view fields i f (field_view f) h)) (ap value_view d ∙ sym (get_or-map value_view values i v (value_view v) g))))

pub none_made : (fields : List declared_field.Field) (values : List declared_value.Value) (made : List declared_made.FieldValue) (i : ℕ) → length values ≤ i
    → prefixed (map views.field_view made) (spec.field_values (fields_of (drop (i + 1) (map field_view fields))) (drop (i + 1) (map value_view values)))
    ≡ prefixed (map views.field_view made) (spec.field_values (fields_of (drop i (map field_view fields))) (drop i (map value_view values)))
none_made fields values made i h =
    let fs = map field_view fields in
    let vs = map value_view values in
    ap (prefixed (map views.field_view made)) (no_values_left fs vs (i + 1) (omega (arith, h, length-map values value_view)) ∙ sym (no_values_left fs vs i (omega (arith, h, length-map values value_view))))
