use Rattle.std.proofs.Common.{◌≡◌, ◌-◌, ◌∙◌, ap, sym, length, map, drop, option_map, Some, arith}
use Rattle.std.proofs.lemmas.List.{length-map, length-drop, get_or-map, take_all}
use Rattle.gp_meaning.specs.Value as spec
use Rattle.gp_evaluator.specs.View.{value_view, field_view}
use Rattle.gp_evaluator.proofs.Paths.{place_within, part_none, part_found, at_field}
use Rattle.gp_evaluator.proofs.Views.{struct_view, field_view_is}
use Rattle.gp_evaluator.proofs.value.+with_part.Goals as goal

pub returns-in_default-place_named : goal.returns-in_default-place_named
returns-in_default-place_named t c =
    let fs = map field_view c.in-Struct.fields.items in
    let first = at_field (value_view c.args.value.now) fs c.args.path.now c.field-item.result (value_view c.args.part) (ap value_view c.in-Struct.is ∙ struct_view c.in-Struct.fields) (omega (arith, c.in-len1-up.len_at_least)) c.field-item.is in
    let named = ap (λ n. spec.place_named fs n) (sym c.as_str.ensures) ∙ ap (λ xs. spec.place_named (map field_view xs) c.as_str.result.now) (sym c.deref.ensures.value) in
    sym (first ∙ ap (option_map spec.structure) (part_none fs c.field-item.result (drop 1 c.args.path.now) (value_view c.args.part) (named ∙ sym c.in_default-place_named.ensures)))

pub index-requires : goal.index-requires
index-requires t c =
    let fs = map field_view c.in-Struct.fields.items in
    let named = ap (λ n. spec.place_named fs n) (sym c.as_str.ensures) ∙ ap (λ xs. spec.place_named (map field_view xs) c.as_str.result.now) (sym c.deref.ensures.value) in
    let within = place_within fs c.field-item.result c.in-Some.place (named ∙ sym c.in-Some.ensures) in
    let long = length-map c.in-Struct.fields.items field_view in
    omega (arith, within, long, c.in-Struct.fields.ok.0)

pub with_value_at-requires : goal.with_value_at-requires
with_value_at-requires t c =
    let fs = map field_view c.in-Struct.fields.items in
    let named = ap (λ n. spec.place_named fs n) (sym c.as_str.ensures) ∙ ap (λ xs. spec.place_named (map field_view xs) c.as_str.result.now) (sym c.deref.ensures.value) in
    let within = place_within fs c.field-item.result c.in-Some.place (named ∙ sym c.in-Some.ensures) in
    let long = length-map c.in-Struct.fields.items field_view in
    let same = ap length c.deref-in-Some-2.ensures.value in
    omega (arith, within, long, same)

pub returns-in_ok-with_value_at-in-Some-2 : goal.returns-in_ok-with_value_at-in-Some-2
returns-in_ok-with_value_at-in-Some-2 t c =
    let fs = map field_view c.in-Struct.fields.items in
    let first = at_field (value_view c.args.value.now) fs c.args.path.now c.field-item.result (value_view c.args.part) (ap value_view c.in-Struct.is ∙ struct_view c.in-Struct.fields) (omega (arith, c.in-len1-up.len_at_least)) c.field-item.is in
    let named = ap (λ n. spec.place_named fs n) (sym c.as_str.ensures) ∙ ap (λ xs. spec.place_named (map field_view xs) c.as_str.result.now) (sym c.deref.ensures.value) in
    let among : spec.place_named fs c.field-item.result ≡ Some c.in-Some.place = named ∙ sym c.in-Some.ensures in
    let within = place_within fs c.field-item.result c.in-Some.place among in
    let long = length-map c.in-Struct.fields.items field_view in
    let read = get_or-map field_view c.in-Struct.fields.items c.in-Some.place c.index.result.now (field_view c.index.result.now) (omega (arith, within, long)) ∙ ap field_view (sym c.index.ensures) ∙ field_view_is c.index.result.now in
    let part = ap (λ (f : spec.FieldValue). spec.with_part f.value (drop 1 c.args.path.now) (value_view c.args.part)) read
    ∙ ap (λ xs. spec.with_part (value_view c.index.result.now.value) xs (value_view c.args.part)) (sym (take_all (length c.args.path.now - 1) (drop 1 c.args.path.now) (omega (arith, length-drop 1 c.args.path.now))))
    ∙ sym c.in_ok-changed.ensures ∙ ap (option_map value_view) c.in-Some-2.is in
    sym (first
    ∙ ap (option_map spec.structure) (part_found fs c.field-item.result (drop 1 c.args.path.now) (value_view c.args.part) c.in-Some.place (field_view c.index.result.now) among)
    ∙ ap (λ o. option_map spec.structure (option_map (λ v. spec.fields_of (spec.changed_at fs c.in-Some.place v)) o)) part
    ∙ ap (λ xs. Some (spec.structure (spec.fields_of (spec.changed_at (map field_view xs) c.in-Some.place (value_view c.in-Some-2.changed))))) (sym c.deref-in-Some-2.ensures.value)
    ∙ ap (λ fs. Some (spec.structure (spec.fields_of fs))) (sym c.in_ok-with_value_at-in-Some-2.ensures)
    ∙ ap Some (sym (struct_view c.in_ok-with_value_at-in-Some-2.field-0)))

pub returns-in-None : goal.returns-in-None
returns-in-None t c =
    let fs = map field_view c.in-Struct.fields.items in
    let first = at_field (value_view c.args.value.now) fs c.args.path.now c.field-item.result (value_view c.args.part) (ap value_view c.in-Struct.is ∙ struct_view c.in-Struct.fields) (omega (arith, c.in-len1-up.len_at_least)) c.field-item.is in
    let named = ap (λ n. spec.place_named fs n) (sym c.as_str.ensures) ∙ ap (λ xs. spec.place_named (map field_view xs) c.as_str.result.now) (sym c.deref.ensures.value) in
    let among : spec.place_named fs c.field-item.result ≡ Some c.in-Some.place = named ∙ sym c.in-Some.ensures in
    let within = place_within fs c.field-item.result c.in-Some.place among in
    let long = length-map c.in-Struct.fields.items field_view in
    let read = get_or-map field_view c.in-Struct.fields.items c.in-Some.place c.index.result.now (field_view c.index.result.now) (omega (arith, within, long)) ∙ ap field_view (sym c.index.ensures) ∙ field_view_is c.index.result.now in
    let part = ap (λ (f : spec.FieldValue). spec.with_part f.value (drop 1 c.args.path.now) (value_view c.args.part)) read
    ∙ ap (λ xs. spec.with_part (value_view c.index.result.now.value) xs (value_view c.args.part)) (sym (take_all (length c.args.path.now - 1) (drop 1 c.args.path.now) (omega (arith, length-drop 1 c.args.path.now))))
    ∙ sym c.in_ok-changed.ensures ∙ ap (option_map value_view) c.in-None.is in
    sym (first
    ∙ ap (option_map spec.structure) (part_found fs c.field-item.result (drop 1 c.args.path.now) (value_view c.args.part) c.in-Some.place (field_view c.index.result.now) among)
    ∙ ap (λ o. option_map spec.structure (option_map (λ v. spec.fields_of (spec.changed_at fs c.in-Some.place v)) o)) part)
