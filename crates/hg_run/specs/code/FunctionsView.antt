-- The functions of a graph, found by their names.
use Rattle.std.specs.Prelude.{◌≡◌, ℕ, List, Option}
use Rattle.std.specs.BTreeMap.{BTreeMap, get_by}
use Rattle.std.specs.Cmp.Lexicographic.{slice_cmp}
use Rattle.std.specs.Ordering.{nat_cmp}
use denote.Ref.{Bor}
use Rattle.hg_graph.specs.Graph.{Graph}
use Rattle.hg_graph.specs.Value.{function_named}
use Rattle.hg_run.specs.declared.functions.Functions.{Functions}

abbrev pub number_in : BTreeMap (Bor (List ℕ)) ℕ → List ℕ → Option ℕ
number_in numbers name = get_by (λ key. slice_cmp nat_cmp name key.now) numbers

-- the table has the first function of each name
abbrev pub HasFunctions : Graph → Functions → Type 0
HasFunctions g functions = (name : List ℕ) → number_in functions.numbers name ≡ function_named g name
