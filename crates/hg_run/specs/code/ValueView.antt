-- What contracts see of values.
use Rattle.std.specs.Prelude.{map, List}
use Rattle.hg_run.specs.declared.value.Value.{Value as Declared}
use Rattle.hg_run.specs.declared.value.Value.TheVariants as kind
use Rattle.hg_run.specs.declared.value.Values.TheInside as inside_values
use Rattle.hg_graph.specs.Value.{Value, Int, Qubit, Variant, Function, packed}

abbrev pub value_view : Declared → Value
value_view (kind.Int n) = Int n
value_view (kind.Qubit q) = Qubit q
value_view (kind.Variant k vs) = Variant k (packed vs)
value_view (kind.Function name) = Function name

abbrev pub values_view : inside_values.Inside → List Value
values_view values = map value_view values.values.items
