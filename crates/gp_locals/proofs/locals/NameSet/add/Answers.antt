use Rattle.std.proofs.Common.{◌≡◌, sym, ap, subst, ◌∙◌, string_bytes, map}
use Rattle.gp_locals.specs.Locals.{with_name}
use Rattle.gp_locals.proofs.Names.{present, inserted}
use Rattle.gp_locals.proofs.locals.NameSet.add.Goals as goal

pub returns-in_ok-insert : goal.returns-in_ok-insert
returns-in_ok-insert c =
    ap (λ keys. map string_bytes keys) c.in_ok-insert.ensures.keys
    ∙ inserted c.self.inside.texts.keys c.in_ok-from_str.field-0
    ∙ ap (λ name. with_name (map string_bytes c.self.inside.texts.keys) name) c.in_ok-from_str.ensures.ok
    ∙ ap (λ names. with_name names c.args.name.now) c.self.view_is

pub returns-else-not-contains : goal.returns-else-not-contains
returns-else-not-contains c =
    subst (λ names. names ≡ with_name names c.args.name.now) c.self.view_is (present c.self.inside.texts.keys c.args.name.now (sym c.contains.ensures ∙ c.if-not-contains.false))
