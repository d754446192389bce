-- A header, by the calls that look at its parts.
use Rattle.std.proofs.Common.{◌≡◌, ℕ, Bool, true, false, List, [], ◌∷◌, map, Option, Some, None, Result, Ok, Err, refl, sym, ap}
use Rattle.gp_base.specs.declared.name.LineNo.{LineNo}
use Rattle.gp_tree.specs.Form.{MaybeForm, no_form, some_form}
use Rattle.gp_tree.specs.Statement.{Statement}
use Rattle.gp_parse.specs.declared.parse_fault.ParseFault.{ParseFault}
use Rattle.gp_parse.specs.declared.parse_fault.ParseFault.TheVariants as fault
use Rattle.gp_parse.specs.FirstFault.{Fault, nesting, too_deep}
use Rattle.gp_parse.specs.code.NestingMachine.{Opening, Branch, Frame, Blocks, simple_of, opens_with, opens, opens_other, adds}
use Rattle.gp_parse.specs.code.NestingCode.{required, with_some, statement_behind, begun_or_fault}
use Rattle.gp_parse.specs.code.NestingViews.{Follows, Leaves}
use Rattle.gp_base.specs.Stacks.{is_nothing}
use Rattle.gp_parse.proofs.NestingRest.{ok, err}

-- a fault that one call hands on from another
pub leaves_err : {X Y : Type 0} (view : X → Y) (e : ParseFault) (r : Result Y Fault) (frames : List Frame) (s : Result Blocks Fault) → ((d : Fault) → r ≡ Err d → s ≡ Err d) → Follows view (Err e) r → Leaves (Err e) frames s
leaves_err view (fault.Nesting n) r frames s h f = h (nesting n) f
leaves_err view (fault.TooDeep n) r frames s h f = h (too_deep n) f
leaves_err view fault.Memory r frames s h f = tt
leaves_err view (fault.TooBig n) r frames s h f = f
leaves_err view (fault.NotALine n) r frames s h f = f

ok_err : {A : Type 0} (x : A) (d : Fault) → ok x ≡ Err d → ⊥
ok_err x d e = cc

fault_is : {A : Type 0} (d e : Fault) → err {A = A} d ≡ Err e → d ≡ e
fault_is d e h = cc

some_is : {A : Type 0} (x y : A) → ok x ≡ Ok y → x ≡ y
some_is x y e = cc

module _ (fits : ℕ → Bool) (o : Opening) (n : LineNo) (x : Frame) (xs : List Frame) where
  pub opens_err : (behind : MaybeForm) (d : Fault) → statement_behind o.in_loop n behind ≡ Err d → opens fits o n behind x xs ≡ Err d
  opens_err no_form d e = absurd (ok_err None d e)
  opens_err (some_form form) d e = by (simple_of o.in_loop n form) e
    where
      by : (r : Option Statement) → with_some (required n r) ≡ Err d → opens_with fits o n r x xs ≡ Err d
      by None e = ap (λ (z : Fault). err z) (fault_is (nesting n) d e)
      by (Some y) e = absurd (ok_err (Some y) d e)

  pub opens_is : (behind : MaybeForm) (r : Option Statement) → statement_behind o.in_loop n behind ≡ Ok r → opens fits o n behind x xs ≡ begun_or_fault fits o n r x xs
  opens_is no_form r e = ap (λ (z : Option Statement). begun_or_fault fits o n z x xs) (some_is None r e)
  opens_is (some_form form) r e = by (simple_of o.in_loop n form) e
    where
      by : (q : Option Statement) → with_some (required n q) ≡ Ok r → opens_with fits o n q x xs ≡ begun_or_fault fits o n r x xs
      by None e = absurd (ok_err r (nesting n) (sym e))
      by (Some y) e = ap (λ (z : Option Statement). begun_or_fault fits o n z x xs) (some_is (Some y) r e)

pub adds_err : (n : LineNo) (x : Frame) (xs : List Frame) (r : Option Statement) (d : Fault) → required n r ≡ Err d → adds r n x xs ≡ Err d
adds_err n x xs None d e = ap (λ (z : Fault). err z) (fault_is (nesting n) d e)
adds_err n x xs (Some y) d e = absurd (ok_err y d e)

pub adds_is : (n : LineNo) (x : Frame) (xs : List Frame) (r : Option Statement) (y : Statement) → required n r ≡ Ok y → adds r n x xs ≡ adds (Some y) n x xs
adds_is n x xs None y e = absurd (ok_err y (nesting n) (sym e))
adds_is n x xs (Some z) y e = ap (λ (w : Statement). adds (Some w) n x xs) (some_is z y e)

module _ {A : Type 0} (view : A → Branch) (fits : ℕ → Bool) (o : Opening) (n : LineNo) (behind : MaybeForm) (x : Frame) (xs : List Frame) where
  pub other_none : (c : List A) → is_nothing c ≡ true → opens_other fits o n behind x xs (map view c) ≡ Err (nesting n)
  other_none [] e = refl
  other_none (b ∷ c) e = absurd (let clash : false ≡ true = e in cc)

  pub other_some : (c : List A) → is_nothing c ≡ false → opens_other fits o n behind x xs (map view c) ≡ opens fits o n behind x xs
  other_some [] e = absurd (let clash : true ≡ false = e in cc)
  other_some (b ∷ c) e = refl
