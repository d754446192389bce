-- Steps of reading tokens from left to right. A reading gives what stands at the front, and the tokens behind it.
use Rattle.std.specs.Prelude.{◌≡◌, ℕ, List, ◌∷◌, ◌++◌, Bool, Option, Some, None, Result, Ok, Err, if◌then◌else◌}
use denote.Enum.Bare.{sameb}
use Rattle.gp_lex.specs.contracts.token.Keyword.{the_type as keyword_type}
use Rattle.gp_lex.specs.contracts.token.Symbol.{the_type as symbol_type}
use Rattle.gp_lex.specs.declared.token.Keyword.{Keyword}
use Rattle.gp_lex.specs.declared.token.Symbol.{Symbol}
use Rattle.gp_lex.specs.declared.token.Token.{Token}
use Rattle.gp_lex.specs.declared.token.Token.TheVariants as t
use Rattle.gp_form.specs.declared.part_fault.PartFault.{PartFault}
use Rattle.gp_form.specs.declared.part_fault.PartFault.TheVariants as fault

abbrev pub Read : Type 0 → Type 0
Read A = List Token → Option (A × List Token)

-- ---- what functions return

abbrev pub Fails : {Y : Type 0} → PartFault → Option Y → Type 0
Fails fault.Memory read = Unit {0}
Fails fault.NotSpelled read = read ≡ None

-- what a function returned, seen by view, is what reading gives, unless memory ran out
abbrev pub Gives : {X Y : Type 0} → (X → Y) → Result X PartFault → Option Y → Type 0
Gives view (Ok x) read = read ≡ Some (view x)
Gives view (Err e) read = Fails e read

-- the same of a function that takes no memory
abbrev pub Finds : {X Y : Type 0} → (X → Y) → Option X → Option Y → Type 0
Finds view (Some x) read = read ≡ Some (view x)
Finds view None read = read ≡ None

-- ---- one step after another

infixl 10 ◌>>=◌
abbrev pub ◌>>=◌ : {A B : Type 0} → Option A → (A → Option B) → Option B
(Some x) >>= f = f x
None >>= f = None

-- goes on behind what was found, or does something else
abbrev pub found : {A B : Type 0} → Option A → (A → B) → B → B
found (Some x) f other = f x
found None f other = other

-- what was found before, and what is found behind it
abbrev pub with_front : {A : Type 0} → List A → Option (List A × List Token) → Option (List A × List Token)
with_front front read = read >>= λ x. Some (front ++ x.0, x.1)

-- ---- one token

-- the tokens after this one at the front, where it stands there
abbrev pub if_same : Bool → List Token → Option (List Token)
if_same b ts = if b then Some ts else None

unfoldable pub past_symbol : Symbol → List Token → Option (List Token)
past_symbol x (t.Symbol y ∷ ts) = if_same (sameb symbol_type y x) ts
past_symbol x _ = None

unfoldable pub past_word : Keyword → List Token → Option (List Token)
past_word x (t.Keyword y ∷ ts) = if_same (sameb keyword_type y x) ts
past_word x _ = None

-- the name at the front
unfoldable pub past_name : Read (List ℕ)
past_name (t.Name n ∷ ts) = Some (n, ts)
past_name _ = None
