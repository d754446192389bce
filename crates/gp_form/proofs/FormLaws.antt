-- Every line is too big or not, and its tokens spell a form or none.
use Rattle.std.proofs.Common.{◌≡◌, ◌⊎◌, inl, inr, ℕ, zero, suc, ◌+◌, ◌<◌, ◌≤◌, List, length, take, count_by, Option, Some, None, refl, sym, ◌∙◌, arith}
use Rattle.std.proofs.lemmas.Bool.{cases_lt}
use Rattle.gp_lex.specs.declared.token.Token.{Token}
use Rattle.gp_tree.specs.Form.{Form}
use Rattle.gp_form.specs.FormLaws.{HasFormOrNone}
use Rattle.gp_form.specs.code.FormReading.{line}
use Rattle.gp_form.specs.Forms.{SpellsForm}
use Rattle.gp_form.specs.LineSize.{IsTooBig, OpensTooMany, is_opening, is_closing}
use Rattle.gp_form.proofs.FormComplete.{line_complete}
use Rattle.gp_form.proofs.FormSound.{line_sound}
use Rattle.gp_form.proofs.FormTurns.{opens_here, opens_nowhere}

a_form_or_none : (ts : List Token) → ((v : Form) × SpellsForm ts v) ⊎ ((v : Form) → SpellsForm ts v → ⊥)
a_form_or_none ts = read (line ts) refl
  where
    read : (o : Option Form) → line ts ≡ o → ((v : Form) × SpellsForm ts v) ⊎ ((v : Form) → SpellsForm ts v → ⊥)
    read (Some v) e = inl (v, line_sound ts v e)
    read None e = inr (λ v d. let k : None ≡ Some v = sym e ∙ line_complete d in cc)

-- a front of at most so many tokens opens too many brackets, or none does
abbrev Within : List Token → ℕ → Type 0
Within ts k = count_by is_opening (take k ts) ≤ count_by is_closing (take k ts) + 50

open_or_not : (ts : List Token) (n : ℕ) → OpensTooMany ts ⊎ ((k : ℕ) → k < n → Within ts k)
open_or_not ts zero = inr (λ k low. omega arith)
open_or_not ts (suc n) = go (open_or_not ts n) (cases_lt (count_by is_closing (take n ts) + 50) (count_by is_opening (take n ts)))
  where
    go : OpensTooMany ts ⊎ ((k : ℕ) → k < n → Within ts k) → ((count_by is_closing (take n ts) + 50 < count_by is_opening (take n ts)) ⊎ Within ts n)
        → OpensTooMany ts ⊎ ((k : ℕ) → k < suc n → Within ts k)
    go (inl many) here = inl many
    go (inr within) (inl over) = inl (opens_here ts n over)
    go (inr within) (inr small) = inr both
      where
        at : (k : ℕ) → (k < n) ⊎ (k ≡ n) → Within ts k
        at k (inl low) = within k low
        at k (inr same) = rw same small

        both : (k : ℕ) → k < suc n → Within ts k
        both k low = at k (below (cases_lt k n))
          where
            below : (k < n) ⊎ (n ≤ k) → (k < n) ⊎ (k ≡ n)
            below (inl less) = inl less
            below (inr more) = inr (omega arith)

big_or_not : (ts : List Token) → IsTooBig ts ⊎ (IsTooBig ts → ⊥)
big_or_not ts = long (cases_lt 600 (length ts))
  where
    brackets : length ts ≤ 600 → OpensTooMany ts ⊎ ((k : ℕ) → k < suc (length ts) → Within ts k) → IsTooBig ts ⊎ (IsTooBig ts → ⊥)
    brackets short (inl many) = inl (inr many)
    brackets short (inr within) = inr small
      where
        small : IsTooBig ts → ⊥
        small (inl longer) = omega arith
        small (inr many) = opens_nowhere ts (λ k low. within k (omega arith)) many

    long : (600 < length ts) ⊎ (length ts ≤ 600) → IsTooBig ts ⊎ (IsTooBig ts → ⊥)
    long (inl longer) = inl (inl longer)
    long (inr short) = brackets short (open_or_not ts (suc (length ts)))

pub has_form_or_none : HasFormOrNone
has_form_or_none = record {
  form_or_none = a_form_or_none;
  big_or_small = big_or_not;
}
