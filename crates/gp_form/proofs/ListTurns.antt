-- The turns of a loop over items with commas between them, beside what the reading of them says.
use Rattle.std.proofs.Common.{◌≡◌, ℕ, suc, ◌+◌, ◌-◌, ◌<◌, ◌≤◌, List, [], ◌∷◌, ◌++◌, length, Option, Some, None, refl, ap, ◌∙◌, arith, append_assoc}
use Rattle.std.proofs.lemmas.List.{append-nil}
use Rattle.gp_lex.specs.declared.token.Symbol.TheVariants as s
use Rattle.gp_lex.specs.declared.token.Token.{Token}
use Rattle.gp_form.specs.declared.part_fault.PartFault.{PartFault}
use Rattle.gp_form.specs.declared.part_fault.PartFault.TheVariants as fault
use Rattle.gp_form.specs.code.FormReading.{listed_from, listed}
use Rattle.gp_form.specs.code.Steps.{◌>>=◌, Fails, Read, past_symbol, with_front}
use Rattle.gp_form.proofs.Turns.{one_more, no_more}

regroup : {X : Type 0} (front : List X) (x : X) (read : Option (List X × List Token)) → with_front front (read >>= λ y. Some (x ∷ y.0, y.1)) ≡ with_front (front ++ x ∷ []) read
regroup {X} front x (Some y) = ap (λ (xs : List X). Some (xs, y.1)) (simp append_assoc)
regroup front x None = refl

module _ {X : Type 0} (item : Read X) (closed : List Token → Option (List Token)) where
  pub listed_init : (front : List X) (ts : List Token) (n : ℕ) → n ≡ length ts + 1 → with_front front (listed item closed ts) ≡ with_front front (listed_from item closed (n - 0) ts)
  unfolding listed
  listed_init front ts n h = let turns : suc (length ts) ≡ n - 0 = omega arith in ap (λ (k : ℕ). with_front front (listed_from item closed k ts)) turns

  pub listed_start : (ts : List Token) (n : ℕ) → n ≡ length ts + 1 → listed item closed ts ≡ with_front [] (listed_from item closed (n - 0) ts)
  unfolding listed
  listed_start ts n h = let turns : suc (length ts) ≡ n - 0 = omega arith in all (listed_from item closed (suc (length ts)) ts) ∙ ap (λ (k : ℕ). with_front [] (listed_from item closed k ts)) turns
    where
      all : (read : Option (List X × List Token)) → read ≡ with_front [] read
      all (Some x) = refl
      all None = refl

  module _ (front : List X) (n at : ℕ) (ts : List Token) (total : Option (List X × List Token)) (so_far : total ≡ with_front front (listed_from item closed (n - at) ts)) where
    abbrev turn : ℕ → Option (List X × List Token)
    turn k = with_front front (listed_from item closed k ts)

    pub listed_close : (after : List Token) → at < n → closed ts ≡ Some after → total ≡ Some (front, after)
    unfolding listed_from
    listed_close after below closes =
        let now : turn (suc (n - (at + 1))) ≡ Some (front, after) = rw closes (ap (λ (xs : List X). Some (xs, after)) (append-nil front)) in
        one_more turn n at below so_far ∙ now

    pub listed_fail : (e : PartFault) → at < n → closed ts ≡ None → Fails e (item ts) → Fails e total
    unfolding listed_from
    listed_fail fault.Memory below unclosed fails = tt
    listed_fail fault.NotSpelled below unclosed fails =
        let now : turn (suc (n - (at + 1))) ≡ None = rw (unclosed, fails) refl in
        one_more turn n at below so_far ∙ now

    module _ (below : at < n) (unclosed : closed ts ≡ None) (x : X) (next : List Token) (read : item ts ≡ Some (x, next)) where
      pub listed_end : (after : List Token) → closed next ≡ Some after → total ≡ Some (front ++ x ∷ [], after)
      unfolding listed_from
      listed_end after closes =
          let now : turn (suc (n - (at + 1))) ≡ Some (front ++ x ∷ [], after) = rw (unclosed, read, closes) refl in
          one_more turn n at below so_far ∙ now

      pub listed_stop : closed next ≡ None → past_symbol s.Comma next ≡ None → total ≡ None
      unfolding listed_from
      listed_stop going ends =
          let now : turn (suc (n - (at + 1))) ≡ None = rw (unclosed, read, going, ends) refl in
          one_more turn n at below so_far ∙ now

      pub listed_go_on : (after : List Token) → closed next ≡ None → past_symbol s.Comma next ≡ Some after → total ≡ with_front (front ++ x ∷ []) (listed_from item closed (n - (at + 1)) after)
      unfolding listed_from
      listed_go_on after going comma =
          let now : turn (suc (n - (at + 1))) ≡ with_front front (listed_from item closed (n - (at + 1)) after >>= λ y. Some (x ∷ y.0, y.1)) = rw (unclosed, read, going, comma) refl in
          one_more turn n at below so_far ∙ now ∙ regroup front x (listed_from item closed (n - (at + 1)) after)

    pub listed_run_out : n ≤ at → total ≡ None
    unfolding listed_from
    listed_run_out done = no_more turn n at done so_far
