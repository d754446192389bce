use Rattle.std.proofs.Common.{◌≡◌, drop}
use Rattle.serde_json.specs.View.{items_view}
use Rattle.hg_json.specs.Reading.{all_of, type_in}
use Rattle.hg_json.proofs.Turns.{with_found}
use Rattle.hg_json.proofs.rows.types_of.Given as goal

-- those so far are followed by those of the rest
abbrev pub invariant-loop-k : goal.invariant-loop-k
invariant-loop-k l = with_found l.found (all_of (type_in l.profile) (items_view (drop l.k l.items))) ≡ all_of (type_in l.profile) (items_view l.items)
