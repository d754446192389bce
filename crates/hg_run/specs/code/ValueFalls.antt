-- The values in a list are smaller than the list, and those of a variant smaller than the variant.
use Rattle.std.specs.Prelude.{◌≤◌, max, List, [], ◌∷◌, map}
use Rattle.std.proofs.Common.{arith}
use denote.Param.Weighed.{most}
use Rattle.hg_run.specs.declared.value.Value.{Value as Declared}
use Rattle.hg_run.specs.declared.value.Value.TheVariants as kind
use Rattle.hg_run.specs.declared.value.Values.TheDeep.{deep-Value}
use Rattle.hg_run.specs.code.ValueSize.{value_size, values_size}
use Rattle.hg_run.specs.code.ValueView.{value_view}

deep_le-value_size : (v : Declared) → deep-Value v ≤ value_size (value_view v)
deep_le-value_size (kind.Int n) = omega arith
deep_le-value_size (kind.Qubit q) = omega arith
deep_le-value_size (kind.Variant k vs) = omega arith
deep_le-value_size (kind.Function name) = omega arith

pub most_le-values_size : (vs : List Declared) → max (most deep-Value vs) 0 ≤ values_size (map value_view vs)
most_le-values_size [] = omega arith
most_le-values_size (v ∷ vs) = omega (arith, deep_le-value_size v, most_le-values_size vs)
