use Rattle.std.proofs.Common.{rules, ◌≡◌, ◌∙◌, ap, false, is_some, Some, bytes_eq, option_map, string_bytes}
use Rattle.indexmap.specs.IndexMap.{get_by_text}
use Rattle.gp_types.specs.View.{ty_view}
use Rattle.gp_scope.proofs.KeptFirst.{text-add}
use Rattle.gp_typing.proofs.StructTypeLemmas.{mapped}
use Rattle.gp_typing.proofs.struct_types.add_type.Goals as goal

pub returns : goal.returns
returns c = λ q.
    let name = c.args.name.now in
    let old = c.args.table.now in
    let found = option_map ty_view (get_by_text c.args.scope.now.structs name) in
    let text : string_bytes c.in_ok-from_str.field-0 ≡ name = search rules in
    let absent : is_some (get_by_text old name) ≡ false = search rules in
    let same : Some (ty_view c.in_ok-ty.ty) ≡ found = ap Some c.in_ok-ty.ensures ∙ c.in-Some.ensures in
    ap (option_map ty_view) (text-add old c.insert.new.self c.in_ok-from_str.field-0 c.in_ok-ty.ty name text c.in_ok-insert.ensures.updates absent q)
    ∙ mapped ty_view (get_by_text old q) (bytes_eq q name) c.in_ok-ty.ty found same
