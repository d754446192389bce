-- What a sink gets through a buffer.
use Rattle.std.specs.Prelude.{◌≡◌, ℕ, List, Option}
use Rattle.gp_base.specs.Outside.{appended, Wrote, WrotePart}

-- a sink got more
abbrev pub Grown : Option (List ℕ) → Option (List ℕ) → Type 0
Grown before after = (more : List ℕ) × Wrote before after more

-- between two moments nothing was lost or added: what the sink had and the buffer kept is the same, taken together
abbrev pub NoneLost : (before : Option (List ℕ)) (kept_before : List ℕ) (after : Option (List ℕ)) (kept : List ℕ) → Type 0
NoneLost before kept_before after kept = appended after kept ≡ appended before kept_before

-- between two moments this text came behind what the sink had and the buffer kept, whole or a part from its front
abbrev pub Passed : (before : Option (List ℕ)) (kept_before : List ℕ) (after : Option (List ℕ)) (kept : List ℕ) → List ℕ → Type 0
Passed before kept_before after kept text = Wrote (appended before kept_before) (appended after kept) text

abbrev pub PassedPart : (before : Option (List ℕ)) (kept_before : List ℕ) (after : Option (List ℕ)) (kept : List ℕ) → List ℕ → Type 0
PassedPart before kept_before after kept text = WrotePart (appended before kept_before) (appended after kept) text
