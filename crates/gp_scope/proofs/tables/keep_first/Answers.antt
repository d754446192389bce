use Rattle.std.proofs.Common.{rules, ◌≡◌, false, is_some, string_bytes}
use Rattle.indexmap.specs.IndexMap.{get_by_text}
use Rattle.gp_scope.proofs.KeptFirst.{text-add}
use Rattle.gp_scope.proofs.tables.keep_first.Goals as goal

pub returns-in_ok-insert : goal.returns-in_ok-insert
returns-in_ok-insert g c =
    let text : string_bytes c.in_ok-from_str.field-0 ≡ c.args.name.now = search rules in
    let absent : is_some (get_by_text c.args.table.now c.args.name.now) ≡ false = search rules in
    text-add c.args.table.now c.insert.new.self c.in_ok-from_str.field-0 c.args.value c.args.name.now text c.in_ok-insert.ensures.updates absent
