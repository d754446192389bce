use Rattle.std.proofs.Common.{rules}
use Rattle.gp_scope.proofs.TableLemmas.{struct_at-add}
use Rattle.gp_scope.proofs.definitions.add_struct.Goals as goal

pub returns-in_ok-insert : goal.returns-in_ok-insert
returns-in_ok-insert c =
    struct_at-add c.args.structs.now c.insert.new.self c.as_str-name.result c.args.decl c.args.decl.now.name c.as_str-name.ensures
    c.in_ok-insert.ensures.updates (search rules)
