-- What reading answers, beside its definition: `view` is what contracts see of the value in hand. Memory may run out at any
-- time.
use Rattle.std.specs.Prelude.{◌≡◌, Result, Ok, Err, ⊤}
use Rattle.hg_json.specs.declared.fault.JsonFault.{JsonFault}
use Rattle.hg_json.specs.declared.fault.JsonFault.TheVariants as fault
use Rattle.hg_json.specs.Reading.{Refusal, NotJson, Top, Version, BadNode, BadLink}

-- this refusal was to be read, unless memory ran out
abbrev pub Refuses : {B : Type 0} → JsonFault → Result B Refusal → Type 0
Refuses fault.NotJson read = read ≡ Err NotJson
Refuses fault.Top read = read ≡ Err Top
Refuses fault.Version read = read ≡ Err Version
Refuses (fault.Node k) read = read ≡ Err (BadNode k)
Refuses (fault.Link k) read = read ≡ Err (BadLink k)
Refuses fault.Memory read = ⊤

-- a result that is what was to be read, or its refusal
abbrev pub Answers : {A B : Type 0} → (A → B) → Result A JsonFault → Result B Refusal → Type 0
Answers view (Ok x) read = read ≡ Ok (view x)
Answers view (Err e) read = Refuses e read
