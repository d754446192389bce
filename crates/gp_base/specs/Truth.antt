-- Truth values. The run of a source and the run of a graph use this word.
use Rattle.std.specs.Prelude.{Bool, not, if◌then◌else◌}

-- whether both are true or both are false
abbrev pub same_truth : Bool → Bool → Bool
same_truth a b = if a then b else not b
