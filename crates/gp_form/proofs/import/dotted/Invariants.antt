use Rattle.std.proofs.Common.{◌≡◌, ◌∷◌, ◌++◌, take, flat_map, string_bytes}
use Rattle.gp_form.proofs.import.dotted.Given as goal

abbrev pub invariant-loop-field : goal.invariant-loop-field
invariant-loop-field l = string_bytes l.text ≡ l.path.name ++ flat_map (λ n. 46 ∷ n) (take l.field-index l.path.fields)
