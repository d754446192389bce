-- Lists of two items, how many items there are, and the data of a text.
use Rattle.std.proofs.Common.{◌≡◌, ℕ, suc, List, [], ◌∷◌, length, get_or, Some, None, Ok, Err, Bool, true, false, IsUtf8, refl, ap, arith}
use Rattle.std.proofs.lemmas.Str.{IsUtf8-from_is_utf8, is_utf8-from_IsUtf8}
use Rattle.std.specs.Str.{is_utf8}
use Rattle.serde_json.specs.Data.{Data}
use Rattle.serde_json.specs.Read.{read}
use Rattle.serde_json.specs.View.{view, items_view}
use Rattle.serde_json.specs.declared.value.Value.{Value}
use Rattle.hg_json.specs.Reading.{NotJson, two, count, value_of, or_refuse}
use Rattle.hg_json.specs.Steps.{when}

pub two_none : (vs : List Value) → (length vs ≡ 2 → ⊥) → two (items_view vs) ≡ None
two_none [] h = refl
two_none (a ∷ []) h = refl
two_none (a ∷ b ∷ []) h = absurd (h refl)
two_none (a ∷ b ∷ c ∷ vs) h = refl

pub two_some : (vs : List Value) (d : Value) → length vs ≡ 2 → two (items_view vs) ≡ Some (view (get_or vs 0 d), view (get_or vs 1 d))
two_some [] d h = absurd (omega arith)
two_some (a ∷ []) d h = absurd (omega arith)
two_some (a ∷ b ∷ []) d h = refl
two_some (a ∷ b ∷ c ∷ vs) d h = absurd (omega arith)

pub count_items : (vs : List Value) → count (items_view vs) ≡ length vs
count_items [] = refl
count_items (v ∷ vs) = ap suc (count_items vs)

pub value_found : (bs : List ℕ) (d : Data) → IsUtf8 bs → read bs ≡ Some d → value_of bs ≡ Ok d
unfolding value_of
value_found bs d u e = rw (is_utf8-from_IsUtf8 bs u, e) refl

not_utf8 : (bs : List ℕ) (b : Bool) → is_utf8 bs ≡ b → (IsUtf8 bs → read bs ≡ None) → when b (read bs) ≡ None
not_utf8 bs true e h = h (IsUtf8-from_is_utf8 bs e)
not_utf8 bs false e h = refl

pub value_refused : (bs : List ℕ) → (IsUtf8 bs → read bs ≡ None) → value_of bs ≡ Err NotJson
unfolding value_of
value_refused bs h = ap (or_refuse NotJson) (not_utf8 bs (is_utf8 bs) refl h)
