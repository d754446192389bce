use Rattle.std.proofs.Common.{rules, ◌≡◌, false, is_some, nat_eq}
use Rattle.indexmap.specs.IndexMap.{get_by}
use Rattle.gp_scope.proofs.KeptFirst.{line-add}
use Rattle.gp_scope.proofs.tables.keep_first_line.Goals as goal

pub returns-in_ok-insert : goal.returns-in_ok-insert
returns-in_ok-insert c =
    let absent : is_some (get_by (nat_eq c.args.line) c.args.table.now) ≡ false = search rules in
    line-add c.args.table.now c.insert.new.self c.args.line c.args.ty c.in_ok-insert.ensures.updates absent
