-- What is said of files and sinks.
use Rattle.std.specs.Prelude.{◌≡◌, ℕ, ◌+◌, ◌-◌, ◌^◌, ◌≤◌, ◌↔◌, min, List, [], ◌++◌, take, Option, Some, None, IsSome}

-- What each name holds, where it is told. A name is its bytes.
abbrev pub Holdings : Type 0
Holdings = Option (List ℕ → Option (List ℕ))

-- the name is held, or contents aren't told
abbrev pub MayOpen : Holdings → List ℕ → Type 0
MayOpen None name = Unit {0}
MayOpen (Some holds) name = IsSome (holds name)

-- contents are told, and the name isn't held
abbrev pub IsMissing : Holdings → List ℕ → Type 0
IsMissing None name = ⊥
IsMissing (Some holds) name = holds name ≡ None

-- what the name holds, where it is told and held
abbrev pub contents_of : Holdings → List ℕ → Option (List ℕ)
contents_of None name = None
contents_of (Some holds) name = holds name

-- bytes in front of what is left, where that is told
abbrev pub prepended : List ℕ → Option (List ℕ) → Option (List ℕ)
prepended front None = None
prepended front (Some rest) = Some (front ++ rest)

-- bytes behind what was written, where that is told
abbrev pub appended : Option (List ℕ) → List ℕ → Option (List ℕ)
appended None more = None
appended (Some bytes) more = Some (bytes ++ more)

-- between two moments a sink got this text whole, or a part from the front of it
abbrev pub Wrote : Option (List ℕ) → Option (List ℕ) → List ℕ → Type 0
Wrote before after text = after ≡ appended before text

abbrev pub WrotePart : Option (List ℕ) → Option (List ℕ) → List ℕ → Type 0
WrotePart before after text = (count : ℕ) × Wrote before after (take count text)

-- reading n bytes of what was left: none exactly at the end, where that is told
abbrev pub IsEndOf : Option (List ℕ) → ℕ → Type 0
IsEndOf None n = Unit {0}
IsEndOf (Some rest) n = (n ≡ 0) ↔ (rest ≡ [])

-- A count of faults rose from `old` to `new`: by one or more, or to the greatest count that a `u64` keeps.
abbrev pub Rose : ℕ → ℕ → Type 0
Rose old new = min (old + 1) (2 ^ 64 - 1) ≤ new
