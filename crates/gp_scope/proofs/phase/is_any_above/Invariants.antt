use Rattle.std.proofs.Common.{◌≡◌, drop, nat_lt}
use Rattle.std.specs.List.{list_any}
use Rattle.gp_scope.proofs.phase.is_any_above.Given as goal

-- what is left decides
abbrev pub invariant-loop-size : goal.invariant-loop-size
invariant-loop-size l = list_any (λ size. nat_lt 64 size) (drop l.size-index l.sizes) ≡ list_any (λ size. nat_lt 64 size) l.sizes
