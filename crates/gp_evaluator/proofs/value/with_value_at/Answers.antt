use Rattle.std.proofs.Common.{◌<◌, ◌∙◌, ap, sym, length, map, arith}
use Rattle.std.proofs.lemmas.List.{length-map}
use Rattle.gp_evaluator.specs.declared.value.Value.TheViews.{roll-FieldValue}
use Rattle.gp_meaning.specs.Value as spec
use Rattle.gp_evaluator.specs.View.{value_view, field_view}
use Rattle.gp_evaluator.proofs.Paths.{written}
use Rattle.gp_evaluator.proofs.Views.{field_view_is}
use Rattle.gp_evaluator.proofs.value.with_value_at.Goals as goal

pub returns : goal.returns
returns c =
    let made = c.in_ok-made.made.items in
    let long = sym (length-map made field_view) ∙ ap length c.in_ok-made.ensures ∙ length-map c.args.fields.now field_view in
    let within : c.args.place < length made = omega (arith, long, c.requires) in
    let new = roll-FieldValue (record { name = c.index_mut.result.now.name; value = c.args.value }) in
    let was = c.index_mut.result.now in
    written made c.args.place new was within (ap (λ f. f.name) (field_view_is new) ∙ sym (ap (λ f. f.name) (field_view_is was)) ∙ ap (λ f. (field_view f).name) c.index_mut.ensures.value)
    ∙ ap (λ f. spec.changed_at (map field_view made) c.args.place f.value) (field_view_is new)
    ∙ ap (λ fs. spec.changed_at fs c.args.place (value_view c.args.value)) c.in_ok-made.ensures
