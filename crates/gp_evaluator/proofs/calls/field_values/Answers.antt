use Rattle.std.proofs.Common.{◌∙◌, ◌+◌, ap, sym, map, drop, arith}
use Rattle.std.proofs.lemmas.List.{length-map}
use Rattle.gp_types.specs.Types.{fields_of}
use Rattle.gp_types.specs.View as types_view
use Rattle.gp_scope.proofs.SpellLemmas.{field_view-made}
use Rattle.gp_evaluator.specs.declared.value.Value.TheViews.{roll-FieldValue}
use Rattle.gp_meaning.specs.Calls as spec
use Rattle.gp_evaluator.specs.View.{value_view, field_view}
use Rattle.gp_evaluator.proofs.CallRows.{prefixed, prefixed_end, fields_made, none_made, no_fields_left}
use Rattle.gp_evaluator.proofs.Views.{field_view_is}
use Rattle.gp_evaluator.proofs.calls.field_values.Goals as goal
use Rattle.gp_evaluator.proofs.calls.field_values.Goals.{then-i-values+in_ok-copy+in_ok-copy-2+in_ok-push, else-i-values}

pub loop-i-preserved : goal.loop-i-preserved
loop-i-preserved c =
    let fs = map types_view.field_view c.args.fields.now in
    let vs = map value_view c.args.values.now in
    let long = length-map c.args.values.now value_view in
    elim c.if-i-values.branch [
      | then-i-values+in_ok-copy+in_ok-copy-2+in_ok-push w ↦
          let f = w.index-fields-i.result in
          let m = roll-FieldValue (record { name = w.in_ok-copy.field-0; value = w.in_ok-copy-2.field-0 }) in
          fields_made c.args.fields.now c.args.values.now c.loop-i.made.items c.if-i-values.made.items c.loop-i.i f w.index-values-i.result m
          c.loop-i-test.true w.if-i-values.true w.index-fields-i.is w.index-values-i.is (ap (λ v. v.items) w.made-is ∙ w.in_ok-push.ensures.items)
          (ap (λ x. x.name) (field_view_is m) ∙ w.in_ok-copy.ensures ∙ ap (λ g. g.name) (sym w.index-fields-i.is) ∙ sym (ap (λ x. x.name) (field_view-made f.name f.ty)))
          (ap (λ x. x.value) (field_view_is m) ∙ w.in_ok-copy-2.ensures) ∙ c.loop-i.invariant
      | else-i-values w ↦
          ap (λ v. prefixed (map field_view v.items) (spec.field_values (fields_of (drop (c.loop-i.i + 1) fs)) (drop (c.loop-i.i + 1) vs))) w.made-is
          ∙ none_made c.args.fields.now c.args.values.now c.loop-i.made.items c.loop-i.i w.if-i-values.false ∙ c.loop-i.invariant
    ]

pub returns : goal.returns
returns c =
    let fs = map types_view.field_view c.args.fields.now in
    let vs = map value_view c.args.values.now in
    let long = length-map c.args.fields.now types_view.field_view in
    sym (prefixed_end (map field_view c.loop-i.made.items))
    ∙ ap (prefixed (map field_view c.loop-i.made.items)) (sym (no_fields_left fs vs c.loop-i.i (omega (arith, long, c.loop-i-test.false))))
    ∙ c.loop-i.invariant
