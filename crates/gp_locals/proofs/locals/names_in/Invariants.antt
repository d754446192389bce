use Rattle.std.proofs.Common.{◌≡◌, map, string_bytes, take}
use Rattle.gp_locals.proofs.locals.names_in.Given as goal

abbrev pub invariant-loop-text : goal.invariant-loop-text
invariant-loop-text l = l.names.items ≡ map string_bytes (take l.text-index l.texts)
