-- A recursion on a count of turns, beside a loop that counts up.
use Rattle.std.proofs.Common.{◌≡◌, ℕ, suc, ◌+◌, ◌-◌, ◌<◌, ◌≤◌, List, [], ◌∷◌, ◌++◌, Option, Some, None, refl, ap, ◌∙◌, arith, append_assoc}
use Rattle.std.proofs.lemmas.List.{append-nil}
use Rattle.gp_lex.specs.declared.token.Symbol.TheVariants as s
use Rattle.gp_lex.specs.declared.token.Token.{Token}
use Rattle.gp_form.specs.declared.level.Level.{Level}
use Rattle.gp_form.specs.declared.level.Level.TheVariants.{Whole}
use Rattle.gp_form.specs.declared.list_end.ListEnd.{ListEnd}
use Rattle.gp_form.specs.declared.part_fault.PartFault.{PartFault}
use Rattle.gp_form.specs.declared.part_fault.PartFault.TheVariants as fault
use Rattle.gp_form.specs.code.Reading.{items_from, past_end}
use Rattle.gp_form.specs.code.Steps.{◌>>=◌, Fails, Read, past_symbol, with_front}
use Rattle.gp_tree.specs.Expression.{Expression}

pub one_more : {X : Type 0} {x : X} (f : ℕ → X) (n at : ℕ) → at < n → x ≡ f (n - at) → x ≡ f (suc (n - (at + 1)))
one_more f n at below e = let turn : n - at ≡ suc (n - (at + 1)) = omega arith in e ∙ ap f turn

pub no_more : {X : Type 0} {x : X} (f : ℕ → X) (n at : ℕ) → n ≤ at → x ≡ f (n - at) → x ≡ f 0
no_more f n at done e = let none : n - at ≡ 0 = omega arith in e ∙ ap f none

pub deeper : {X : Type 0} (f : ℕ → X) (n : ℕ) → 0 < n → f n ≡ f (suc (n - 1))
deeper f n some = let e : n ≡ suc (n - 1) = omega arith in ap f e

-- ---- items

abbrev Total : Type 0
Total = Option (List Expression × List Token)

regroup : (front : List Expression) (e : Expression) (read : Total) → with_front front (read >>= λ x. Some (e ∷ x.0, x.1)) ≡ with_front (front ++ e ∷ []) read
regroup front e (Some x) = ap (λ (es : List Expression). Some (es, x.1)) (simp append_assoc)
regroup front e None = refl

module _ (inner : Level → Read Expression) (to : ListEnd) (front : List Expression) (n at : ℕ) (ts : List Token) (total : Total) (so_far : total ≡ with_front front (items_from inner to (n - at) ts)) where
  abbrev turn : ℕ → Total
  turn k = with_front front (items_from inner to k ts)

  pub items_close : (after : List Token) → at < n → past_end to ts ≡ Some after → total ≡ Some (front, after)
  unfolding items_from
  items_close after below closed =
      let now : turn (suc (n - (at + 1))) ≡ Some (front, after) = rw closed (ap (λ (es : List Expression). Some (es, after)) (append-nil front)) in
      one_more turn n at below so_far ∙ now

  pub items_fail : (e : PartFault) → at < n → past_end to ts ≡ None → Fails e (inner Whole ts) → Fails e total
  unfolding items_from
  items_fail fault.Memory below unclosed fails = tt
  items_fail fault.NotSpelled below unclosed fails =
      let now : turn (suc (n - (at + 1))) ≡ None = rw (unclosed, fails) refl in
      one_more turn n at below so_far ∙ now

  module _ (below : at < n) (unclosed : past_end to ts ≡ None) (e : Expression) (next : List Token) (item : inner Whole ts ≡ Some (e, next)) where
    pub items_end : (after : List Token) → past_end to next ≡ Some after → total ≡ Some (front ++ e ∷ [], after)
    unfolding items_from
    items_end after closed =
        let now : turn (suc (n - (at + 1))) ≡ Some (front ++ e ∷ [], after) = rw (unclosed, item, closed) refl in
        one_more turn n at below so_far ∙ now

    pub items_stop : past_end to next ≡ None → past_symbol s.Comma next ≡ None → total ≡ None
    unfolding items_from
    items_stop going ends =
        let now : turn (suc (n - (at + 1))) ≡ None = rw (unclosed, item, going, ends) refl in
        one_more turn n at below so_far ∙ now

    pub items_go_on : (after : List Token) → past_end to next ≡ None → past_symbol s.Comma next ≡ Some after → total ≡ with_front (front ++ e ∷ []) (items_from inner to (n - (at + 1)) after)
    unfolding items_from
    items_go_on after going comma =
        let now : turn (suc (n - (at + 1))) ≡ with_front front (items_from inner to (n - (at + 1)) after >>= λ x. Some (e ∷ x.0, x.1)) = rw (unclosed, item, going, comma) refl in
        one_more turn n at below so_far ∙ now ∙ regroup front e (items_from inner to (n - (at + 1)) after)

  pub items_run_out : n ≤ at → past_end to ts ≡ None → total ≡ None
  unfolding items_from
  items_run_out done unclosed =
      let now : turn 0 ≡ None = rw unclosed refl in
      no_more turn n at done so_far ∙ now

  pub items_close_last : (after : List Token) → n ≤ at → past_end to ts ≡ Some after → total ≡ Some (front, after)
  unfolding items_from
  items_close_last after done closed =
      let now : turn 0 ≡ Some (front, after) = rw closed (ap (λ (es : List Expression). Some (es, after)) (append-nil front)) in
      no_more turn n at done so_far ∙ now
