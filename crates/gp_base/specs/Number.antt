-- Arithmetic on whole numbers of 64 bits with a sign. The run of a source and the run of a graph use these words.
use Rattle.std.specs.Prelude.{suc, ℤ, pos, negsuc, neg_ℤ, ◌+ℤ◌, ◌-ℤ◌, ◌*ℤ◌, Bool, int_le, ◌&&◌}
use Rattle.std.specs.Int.{w64, int_wrap, int_div_euclid}

-- what 64 bits with a sign keep of a number
abbrev pub wrapped : ℤ → ℤ
wrapped z = int_wrap w64 z

abbrev pub sum : ℤ → ℤ → ℤ
sum a b = wrapped (a +ℤ b)

abbrev pub difference : ℤ → ℤ → ℤ
difference a b = wrapped (a -ℤ b)

abbrev pub product : ℤ → ℤ → ℤ
product a b = wrapped (a *ℤ b)

abbrev pub negated : ℤ → ℤ
negated a = wrapped (neg_ℤ a)

-- the quotient rounded towards minus infinity, of a divisor that isn't 0
abbrev pub floor_quotient : ℤ → ℤ → ℤ
floor_quotient a (pos b) = int_div_euclid a (pos b)
floor_quotient a (negsuc b) = int_div_euclid (neg_ℤ a) (pos (suc b))

abbrev pub quotient : ℤ → ℤ → ℤ
quotient a b = wrapped (floor_quotient a b)

-- what is left; where it isn't 0 it has the divisor's sign
abbrev pub remainder : ℤ → ℤ → ℤ
remainder a b = wrapped (a -ℤ floor_quotient a b *ℤ b)

abbrev pub is_same : ℤ → ℤ → Bool
is_same a b = int_le a b && int_le b a
