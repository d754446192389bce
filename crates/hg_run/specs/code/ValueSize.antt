-- How large values are: each is larger than those in it.
use Rattle.std.specs.Prelude.{ℕ, suc, ◌+◌, List}
use Rattle.hg_graph.specs.Value.{Value, Int, Qubit, Variant, Function, Values, no_values, value, packed}

abbrev mutual
  pub value_size : Value → ℕ
  value_size (Int n) = 0
  value_size (Qubit q) = 0
  value_size (Variant k vs) = suc (packed_size vs)
  value_size (Function name) = 0

  pub packed_size : Values → ℕ
  packed_size no_values = 0
  packed_size (value v vs) = suc (value_size v + packed_size vs)

abbrev pub values_size : List Value → ℕ
values_size vs = packed_size (packed vs)
