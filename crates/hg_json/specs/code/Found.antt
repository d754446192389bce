-- What is found of an entry: `view` is what contracts see of the value in hand. Memory may run out at any time.
use Rattle.std.specs.Prelude.{◌≡◌, Option, Some, None, Result, Ok, Err, ⊤}
use Rattle.hg_json.specs.declared.fault.Miss.{Miss}
use Rattle.hg_json.specs.declared.fault.Miss.TheVariants as miss

-- an option that is what was to be found
abbrev pub Finds : {A B : Type 0} → (A → B) → Option A → Option B → Type 0
Finds view None found = found ≡ None
Finds view (Some x) found = found ≡ Some (view x)

-- nothing was to be found, unless memory ran out
abbrev pub Misses : {B : Type 0} → Miss → Option B → Type 0
Misses miss.Memory found = ⊤
Misses miss.Shape found = found ≡ None

-- a result that is what was to be found
abbrev pub Gives : {A B : Type 0} → (A → B) → Result A Miss → Option B → Type 0
Gives view (Ok x) found = found ≡ Some (view x)
Gives view (Err e) found = Misses e found
