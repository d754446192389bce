use Rattle.std.proofs.Common.{sym, ap, ◌∙◌, string_bytes, bytes_eq}
use Rattle.gp_locals.proofs.Names.{position-map}
use Rattle.gp_locals.specs.Environment.{place_among}
use Rattle.gp_locals.proofs.locals.NameSet.position.Goals as goal

pub returns : goal.returns
returns c =
    c.get_index_of.ensures.index ∙ sym (position-map string_bytes (bytes_eq c.args.name.now) c.self.inside.texts.keys)
    ∙ ap (λ names. place_among names c.args.name.now) c.self.view_is
