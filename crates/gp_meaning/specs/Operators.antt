-- What operators answer, once their operands are values.
use Rattle.std.specs.Prelude.{ℤ, pos, Bool, not, int_lt, int_le, if◌then◌else◌, Option, option_map, Result, Ok, Err}
use Rattle.gp_base.specs.Truth.{same_truth}
use Rattle.gp_base.specs.Number.{sum, difference, product, negated, quotient, remainder, is_same}
use Rattle.gp_base.specs.Run.{Stop, DivisionByZero, Stuck, Run, ret, stop}
use Rattle.gp_tree.specs.declared.expr.BinOp.{BinOp}
use Rattle.gp_tree.specs.declared.expr.BinOp.TheVariants as op
use Rattle.gp_meaning.specs.Value.{Value, number, boolean, number_of}

-- a value, or why there is none
abbrev pub Operated : Type 0
Operated = Result Value Stop

-- a run that gives the value, or stops
abbrev pub or_stop : {S : Type 0} → Operated → Run S Value
or_stop (Ok v) = ret v
or_stop (Err e) = stop e

-- the answer of a division by the second number
abbrev pub divided : ℤ → ℤ → Operated
divided n by = if is_same by (pos 0) then Err DivisionByZero else Ok (number n)

abbrev pub of_numbers : BinOp → ℤ → ℤ → Operated
of_numbers op.Add a b = Ok (number (sum a b))
of_numbers op.Sub a b = Ok (number (difference a b))
of_numbers op.Mul a b = Ok (number (product a b))
of_numbers op.FloorDiv a b = divided (quotient a b) b
of_numbers op.Mod a b = divided (remainder a b) b
of_numbers op.Eq a b = Ok (boolean (is_same a b))
of_numbers op.Ne a b = Ok (boolean (not (is_same a b)))
of_numbers op.Lt a b = Ok (boolean (int_lt a b))
of_numbers op.Le a b = Ok (boolean (int_le a b))
of_numbers op.Gt a b = Ok (boolean (int_lt b a))
of_numbers op.Ge a b = Ok (boolean (int_le b a))

-- truth values are compared, and nothing else
abbrev pub of_booleans : BinOp → Bool → Bool → Operated
of_booleans op.Eq a b = Ok (boolean (same_truth a b))
of_booleans op.Ne a b = Ok (boolean (not (same_truth a b)))
of_booleans _ a b = Err Stuck

-- minus a number
abbrev pub minus_of : Value → Option Value
minus_of v = option_map (λ n. number (negated n)) (number_of v)

-- two numbers or two truth values; others are of a wrong kind
abbrev pub operated : BinOp → Value → Value → Operated
operated o (number a) (number b) = of_numbers o a b
operated o (boolean a) (boolean b) = of_booleans o a b
operated o _ _ = Err Stuck
