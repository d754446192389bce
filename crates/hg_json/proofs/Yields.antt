-- What each answer has that a step of reading gives, where it gives one.
use Rattle.std.proofs.Common.{◌≡◌, Bool, true, false, cond, List, [], ◌∷◌, Option, Some, None, Result, Ok, Err, option_map, option_and_then, refl}
use Rattle.std.specs.Prelude.{⊤}
use Rattle.hg_json.specs.Reading.{Refusal, after}
use Rattle.hg_json.specs.Steps.{◌>>=◌, when, found}

abbrev pub Yields : {A : Type 0} → (A → Type 0) → Option A → Type 0
Yields P None = ⊤
Yields P (Some x) = P x

abbrev pub Reads : {A : Type 0} → (A → Type 0) → Result A Refusal → Type 0
Reads P (Err e) = ⊤
Reads P (Ok x) = P x

abbrev pub Each : {A : Type 0} → (A → Type 0) → List A → Type 0
Each P [] = ⊤
Each P (x ∷ xs) = P x × Each P xs

pub yields_any : {A B : Type 0} (P : B → Type 0) (o : Option A) (f : A → Option B) → ((a : A) → Yields P (f a)) → Yields P (o >>= f)
yields_any P None f h = tt
yields_any P (Some a) f h = h a

pub yields_from : {A B : Type 0} (P : A → Type 0) (Q : B → Type 0) (o : Option A) (f : A → Option B) → ((a : A) → P a → Yields Q (f a)) → Yields P o → Yields Q (o >>= f)
yields_from P Q None f h p = tt
yields_from P Q (Some a) f h p = h a p

pub yields_when : {A : Type 0} (P : A → Type 0) (b : Bool) (o : Option A) → (b ≡ true → Yields P o) → Yields P (when b o)
yields_when P true o h = h refl
yields_when P false o h = tt

pub yields_if : {A : Type 0} (P : A → Type 0) (b : Bool) (o p : Option A) → (b ≡ true → Yields P o) → (b ≡ false → Yields P p) → Yields P (cond b o p)
yields_if P true o p g h = g refl
yields_if P false o p g h = h refl

pub yields_found : {A B : Type 0} (P : B → Type 0) (o : Option A) (f : A → Option B) (other : Option B) → ((a : A) → Yields P (f a)) → Yields P other → Yields P (found o f other)
yields_found P None f other g h = h
yields_found P (Some a) f other g h = g a

pub yields_then : {A B : Type 0} (P : A → Type 0) (Q : B → Type 0) (o : Option A) (f : A → Option B) → ((a : A) → P a → Yields Q (f a)) → Yields P o → Yields Q (option_and_then f o)
yields_then P Q None f h p = tt
yields_then P Q (Some a) f h p = h a p

pub yields_map : {A B : Type 0} (P : A → Type 0) (Q : B → Type 0) (o : Option A) (f : A → B) → ((a : A) → P a → Q (f a)) → Yields P o → Yields Q (option_map f o)
yields_map P Q None f h p = tt
yields_map P Q (Some a) f h p = h a p

pub reads_any : {A B : Type 0} (P : B → Type 0) (r : Result A Refusal) (f : A → Result B Refusal) → ((a : A) → Reads P (f a)) → Reads P (after r f)
reads_any P (Err e) f h = tt
reads_any P (Ok a) f h = h a

pub reads_from : {A B : Type 0} (P : A → Type 0) (Q : B → Type 0) (r : Result A Refusal) (f : A → Result B Refusal) → ((a : A) → P a → Reads Q (f a)) → Reads P r → Reads Q (after r f)
reads_from P Q (Err e) f h p = tt
reads_from P Q (Ok a) f h p = h a p

pub reads_both : {A : Type 0} (P Q : A → Type 0) (r : Result A Refusal) → Reads P r → Reads Q r → Reads (λ x. P x × Q x) r
reads_both P Q (Err e) p q = tt
reads_both P Q (Ok x) p q = (p, q)
