use Rattle.std.proofs.Common.{rules, arith, ◌≡◌, ap, ◌∙◌, bytes_eq, ◌||◌, string_bytes}
use Rattle.gp_scope.specs.Tables.{has_name}
use Rattle.gp_scope.proofs.TableLemmas.{names_step, has_name-insert}
use Rattle.gp_scope.proofs.imports.add_names.Goals as goal

pub loop-name-preserved : goal.loop-name-preserved
loop-name-preserved c = λ q.
    let text : string_bytes c.in_ok-from_str.field-0 ≡ c.name-item.result = search rules in
    names_step q c.as_slice-name-items.result.now c.loop-name.name-index c.name-item.result (has_name c.loop-name.imported q) (has_name c.insert.new.self q) _
    (omega arith) c.name-item.is
    (has_name-insert c.loop-name.imported c.insert.new.self c.in_ok-from_str.field-0 c.in_ok-insert.ensures.updates q ∙ ap (λ t. bytes_eq q t || has_name c.loop-name.imported q) text)
    (c.loop-name.invariant q)
