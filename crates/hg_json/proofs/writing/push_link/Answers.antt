use Rattle.std.proofs.Common.{ap, ◌∙◌}
use Rattle.serde_json.specs.Written.{has_float}
use Rattle.hg_json.proofs.Floats.{link-whole}
use Rattle.hg_json.proofs.writing.push_link.Goals as goal

pub push_value-requires : goal.push_value-requires
push_value-requires c = ap has_float c.in_ok-value.ensures ∙ link-whole _
