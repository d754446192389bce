use Rattle.std.proofs.Common.{rules, arith, ◌≡◌, suc, ◌≤◌, length, map, Some, None, IfOk, ap, ap₂, subst, sym, ◌∙◌}
use Rattle.std.specs.Rc.{rc_slice_items}
use Rattle.gp_tree.specs.Program.{program_items, field_definition, struct_definition}
use Rattle.gp_tree.specs.TypeExpression.{type_expression, type_expressions, parameter_type, parameter_types, result_type, tuple_type, function_type}
use Rattle.gp_types.specs.Types as types
use Rattle.gp_types.specs.Signature.{mode_of}
use Rattle.gp_types.specs.Types.{Ty, tys_of, fields_of, params_of}
use Rattle.gp_types.specs.Size.{size, total_size, total_field_size, total_param_size}
use Rattle.gp_types.specs.View.{ty_view, field_view, param_view}
use Rattle.gp_scope.specs.Definitions.{struct_named}
use Rattle.gp_scope.specs.code.NamesOf.{AreWhole, whole}
use Rattle.gp_scope.specs.Spelled.{spelled, basic_type, spelled_by, all_spelled_by, params_spelled_by, fields_spelled_by, spelled_field, spelled_param}
use Rattle.gp_scope.specs.Tables.{struct_at}
use Rattle.gp_scope.proofs.SpellLemmas.{spelled-items, spelled-fields, spelled-params, item-size, field-size, param-size, part-made, parameter_type-is, field_view-made, param_view-made, type_expression-Tuple, type_expression-Callable, opened-basic}
use Rattle.gp_scope.proofs.types.+spell.Goals as goal

pub spell_fields-spell-requires : goal.spell_fields-spell-requires
spell_fields-spell-requires t c =
    let part : size (spelled_by (whole c.args.names.now) (type_expression c.field-item.result.ty)) ≤ total_field_size (fields_spelled_by (whole c.args.names.now) (map field_definition c.args.fields.now)) =
    field-size (whole c.args.names.now) c.args.fields.now c.loop-field.field-index c.field-item.result (omega arith) c.field-item.is in
    (omega arith, c.requires)

pub spell_fields-loop-field-preserved : goal.spell_fields-loop-field-preserved
spell_fields-loop-field-preserved t c =
    part-made field_view (λ f. spelled_field (whole c.args.names.now) (field_definition f)) c.loop-field.made.items c.push.new.self.items (record { name = c.in_ok-copy.field-0; ty = c.in_ok-spell.field-0 })
    c.args.fields.now c.loop-field.field-index c.field-item.result c.in_ok-push.ensures.items c.loop-field.invariant (omega arith) c.field-item.is
    (field_view-made c.in_ok-copy.field-0 c.in_ok-spell.field-0 ∙ ap₂ (λ n u. record { name = n; ty = u }) c.in_ok-copy.ensures c.in_ok-spell.ensures)

pub spell_items-spell-requires : goal.spell_items-spell-requires
spell_items-spell-requires t c =
    let part : size (spelled_by (whole c.args.names.now) (type_expression c.item-item.result)) ≤ total_size (all_spelled_by (whole c.args.names.now) (type_expressions c.args.items.now)) =
    item-size (whole c.args.names.now) c.args.items.now c.loop-item.item-index c.item-item.result (omega arith) c.item-item.is in
    (omega arith, c.requires)

pub spell_name-spell_fields-requires : goal.spell_name-spell_fields-requires
spell_name-spell_fields-requires t c =
    let known : AreWhole c.args.names.now = assumption in
    let at : struct_at c.args.names.now.structs c.args.name.now ≡ Some (struct_definition c.in-Some.decl.now.now) = search rules in
    let is : struct_named (program_items c.args.names.now.items.now) c.args.name.now ≡ Some (struct_definition c.in-Some.decl.now.now) = sym (known.0.1 c.args.name.now) ∙ at in
    let whole_size : size (whole c.args.names.now c.args.name.now) ≡ suc (total_field_size (fields_spelled_by (whole c.args.names.now) (map field_definition c.in-Some.decl.now.now.fields))) =
    ap size (known.1 c.args.name.now (struct_definition c.in-Some.decl.now.now) is) in
    let same : total_field_size (fields_spelled_by (whole c.args.names.now) (map field_definition c.as_slice.result.now)) ≡ total_field_size (fields_spelled_by (whole c.args.names.now) (map field_definition c.in-Some.decl.now.now.fields)) =
    ap (λ xs. total_field_size (fields_spelled_by (whole c.args.names.now) (map field_definition xs))) c.as_slice.ensures in
    (omega arith, known)

pub spell-returns-in_ok-spell_items-in-Tuple : goal.spell-returns-in_ok-spell_items-in-Tuple
spell-returns-in_ok-spell_items-in-Tuple t c =
    let P : Ty → Type 0 = λ seen. IfOk c.tuple.result (λ made. ty_view made ≡ seen) in
    let written : type_expression c.args.ty.now ≡ tuple_type (type_expressions (rc_slice_items c.in-Tuple.items)) = ap type_expression c.in-Tuple.is ∙ type_expression-Tuple c.in-Tuple.items in
    subst P
    (ap (λ l. types.Tuple (tys_of l)) c.in_ok-spell_items-in-Tuple.ensures
    ∙ ap (λ ts. types.Tuple ts) (spelled-items (whole c.args.names.now) c.deref.result.now)
    ∙ ap (λ xs. types.Tuple (all_spelled_by (whole c.args.names.now) (type_expressions xs))) c.deref.ensures.value
    ∙ sym (ap (λ x. spelled (program_items c.args.names.now.items.now) x) written))
    c.tuple.ensures

pub spell_name-returns-in_ok-copy-in-Some : goal.spell_name-returns-in_ok-copy-in-Some
spell_name-returns-in_ok-copy-in-Some t c =
    let P : Ty → Type 0 = λ seen. IfOk c.structure.result (λ made. ty_view made ≡ seen) in
    let known : AreWhole c.args.names.now = assumption in
    let at : struct_at c.args.names.now.structs c.args.name.now ≡ Some (struct_definition c.in-Some.decl.now.now) = search rules in
    let is : struct_named (program_items c.args.names.now.items.now) c.args.name.now ≡ Some (struct_definition c.in-Some.decl.now.now) = sym (known.0.1 c.args.name.now) ∙ at in
    subst P
    (ap₂ (λ n fs. types.Struct n fs) c.in_ok-copy-in-Some.ensures
    (ap fields_of c.in_ok-fields-in-Some.ensures ∙ spelled-fields (whole c.args.names.now) c.as_slice.result.now
    ∙ ap (λ xs. fields_spelled_by (whole c.args.names.now) (map field_definition xs)) c.as_slice.ensures)
    ∙ sym (known.1 c.args.name.now (struct_definition c.in-Some.decl.now.now) is))
    c.structure.ensures

pub spell_name-returns-in-None : goal.spell_name-returns-in-None
spell_name-returns-in-None t c =
    let known : AreWhole c.args.names.now = assumption in
    let program = program_items c.args.names.now.items.now in
    let at : struct_at c.args.names.now.structs c.args.name.now ≡ None = search rules in
    c.basic_type.ensures ∙ ap basic_type c.as_str-text.ensures ∙ sym (opened-basic (length program) program c.args.name.now (sym (known.0.1 c.args.name.now) ∙ at))

pub spell_params-spell-requires : goal.spell_params-spell-requires
spell_params-spell-requires t c =
    let part : size (spelled_by (whole c.args.names.now) (parameter_type c.param-item.result).ty) ≤ total_param_size (params_spelled_by (whole c.args.names.now) (parameter_types c.args.params.now)) =
    param-size (whole c.args.names.now) c.args.params.now c.loop-param.param-index c.param-item.result (omega arith) c.param-item.is in
    let same : size (spelled_by (whole c.args.names.now) (parameter_type c.param-item.result).ty) ≡ size (spelled_by (whole c.args.names.now) (type_expression c.param-item.result.ty)) =
    ap (λ p. size (spelled_by (whole c.args.names.now) p.ty)) (parameter_type-is c.param-item.result) in
    (omega arith, c.requires)

pub spell_params-loop-param-preserved : goal.spell_params-loop-param-preserved
spell_params-loop-param-preserved t c =
    part-made param_view (λ p. spelled_param (whole c.args.names.now) (parameter_type p)) c.loop-param.made.items c.push.new.self.items (record { ty = c.in_ok-ty.ty; mode = c.of-taken.result })
    c.args.params.now c.loop-param.param-index c.param-item.result c.in_ok-push.ensures.items c.loop-param.invariant (omega arith) c.param-item.is
    (param_view-made c.in_ok-ty.ty c.of-taken.result
    ∙ ap₂ (λ u m. record { ty = u; mode = m }) c.in_ok-ty.ensures (c.of-taken.ensures ∙ ap (λ u. mode_of u c.param-item.result.owned) c.in_ok-ty.ensures)
    ∙ ap (spelled_param (whole c.args.names.now)) (sym (parameter_type-is c.param-item.result)))

pub spell-returns-in_ok-answer-in-Callable : goal.spell-returns-in_ok-answer-in-Callable
spell-returns-in_ok-answer-in-Callable t c =
    let P : Ty → Type 0 = λ seen. IfOk c.function.result (λ made. ty_view made ≡ seen) in
    let written : type_expression c.args.ty.now ≡ function_type (parameter_types (rc_slice_items c.in-Callable.params)) (result_type c.in-Callable.answer) =
    ap type_expression c.in-Callable.is ∙ type_expression-Callable c.in-Callable.params c.in-Callable.answer in
    subst P
    (ap₂ (λ a b. types.Function a b)
    (ap params_of c.in_ok-params-in-Callable.ensures ∙ spelled-params (whole c.args.names.now) c.deref-in-Callable.result.now
    ∙ ap (λ xs. params_spelled_by (whole c.args.names.now) (parameter_types xs)) c.deref-in-Callable.ensures.value)
    c.in_ok-answer-in-Callable.ensures
    ∙ sym (ap (λ x. spelled (program_items c.args.names.now.items.now) x) written))
    c.function.ensures
