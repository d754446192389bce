use Rattle.std.proofs.Common.{rules, ◌≡◌, ◌==◌, length, refl, ap, sym, ◌∙◌, Some, option_map}
use Rattle.gp_scope.specs.ScopeView.{known_in}
use Rattle.gp_types.specs.Signature.{signature_view}
use Rattle.gp_meaning.specs.Value.{function}
use Rattle.gp_evaluator.proofs.NameCases.{no_part, alone}
use Rattle.gp_evaluator.proofs.Views.{function_view}
use Rattle.gp_evaluator.proofs.names.read_outside.Goals as goal

pub returns-then-not-is_empty : goal.returns-then-not-is_empty
returns-then-not-is_empty c =
    λ n. (
      refl,
      no_part (known_in c.args.scope.now) c.args.place.now.name c.args.place.now.fields
          (sym (ap (λ xs. length xs == 0) c.as_slice.ensures) ∙ sym c.is_empty.ensures ∙ c.if-not-is_empty.true),
    )

pub returns-in_ok-copy-in-Some : goal.returns-in_ok-copy-in-Some
returns-in_ok-copy-in-Some c =
    alone (known_in c.args.scope.now) c.args.place.now.name c.args.place.now.fields
    (sym (ap (λ xs. length xs == 0) c.as_slice.ensures) ∙ sym c.is_empty.ensures ∙ c.if-not-is_empty.false)
    ∙ ap (option_map (λ s. function c.args.place.now.name)) known
    ∙ ap (λ n. Some (function n)) (sym c.in_ok-copy-in-Some.ensures)
    ∙ ap Some (sym (function_view c.in_ok-copy-in-Some.field-0))
  where
    known : (known_in c.args.scope.now).signature_of c.args.place.now.name ≡ Some (signature_view c.in-Some.field-0.now)
    known = search rules
