use Rattle.std.proofs.Common.{◌≡◌, ◌++◌, map, drop}
use Rattle.hg_ops.specs.code.PlainType.{plain_type}
use Rattle.hg_ops.proofs.signatures.row_of.Given as goal

-- the types so far, and those that are left
abbrev pub invariant-loop-ty : goal.invariant-loop-ty
invariant-loop-ty l = l.row ++ map plain_type (drop l.ty-index l.types) ≡ map plain_type l.types
