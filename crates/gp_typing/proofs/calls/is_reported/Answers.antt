use Rattle.std.proofs.Common.{◌≤◌, map, sym, subst}
use Rattle.std.proofs.lemmas.List.{length-map}
use Rattle.gp_types.specs.View.{ty_view}
use Rattle.gp_typing.proofs.Rows.{is_reported-many}
use Rattle.gp_typing.proofs.calls.is_reported.Goals as goal

pub returns-in_default-2 : goal.returns-in_default-2
returns-in_default-2 c =
    sym (is_reported-many c.args.tag.now (map ty_view c.args.types.now) (subst (λ n. 2 ≤ n) (sym (length-map c.args.types.now ty_view)) c.in_default.len_at_least))
