use Rattle.std.proofs.Common.{◌≡◌, ◌≤◌, ◌-◌, ◌^◌, drop}
use Rattle.gp_lex.specs.Tokens.{number_from}
use Rattle.gp_lex.proofs.value.number_of.Given as goal

abbrev pub invariant-loop-c : goal.invariant-loop-c
invariant-loop-c l = (l.number ≤ 2 ^ 63 - 1) × (number_from 0 l.digits ≡ number_from l.number (drop l.c-index l.digits))
