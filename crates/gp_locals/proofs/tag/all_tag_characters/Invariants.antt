use Rattle.std.proofs.Common.{◌≡◌, drop}
use Rattle.gp_locals.specs.Tag as spec
use Rattle.gp_locals.proofs.tag.all_tag_characters.Given as goal

-- the bytes that are left decide
abbrev pub invariant-loop-byte : goal.invariant-loop-byte
invariant-loop-byte l = spec.all_tag_characters (drop l.byte-index l.text) ≡ spec.all_tag_characters l.text
