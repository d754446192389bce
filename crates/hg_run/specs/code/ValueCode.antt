-- Values as data by which the check tells values apart.
use Rattle.std.specs.Prelude.{◌≡◌, ℕ, ℤ, List}
use Rattle.std.specs.Coded.{Coded, coded_list, coded_ℕ}
use base.Stored.{Gv, gnil, gnum, gcons}
use Rattle.std.proofs.Common.{refl, ap, pos, negsuc}
use Rattle.hg_graph.specs.Value.{Value, Int, Qubit, Variant, Function, Values, no_values, value}

abbrev coded_name : Coded (List ℕ)
coded_name = coded_list coded_ℕ

abbrev int_code : ℤ → Gv
int_code (pos n) = gcons gnil (gnum n)
int_code (negsuc n) = gcons (gnum 0) (gnum n)

abbrev mutual
  pub value_code : Value → Gv
  value_code (Int n) = gcons gnil (int_code n)
  value_code (Qubit q) = gnum q
  value_code (Variant k vs) = gcons (gnum k) (values_code vs)
  value_code (Function name) = gcons (gcons gnil gnil) (coded_name.code name)

  pub values_code : Values → Gv
  values_code no_values = gnil
  values_code (value v vs) = gcons (value_code v) (values_code vs)

abbrev head : Gv → Gv
head (gcons a b) = a
head _ = gnil

abbrev tail : Gv → Gv
tail (gcons a b) = b
tail _ = gnil

abbrev number : Gv → ℕ
number (gnum n) = n
number _ = 0

int_code-inj : (a b : ℤ) → int_code a ≡ int_code b → a ≡ b
int_code-inj (pos a) (pos b) e = ap (λ g. pos (number (tail g))) e
int_code-inj (pos a) (negsuc b) e = cc
int_code-inj (negsuc a) (pos b) e = cc
int_code-inj (negsuc a) (negsuc b) e = ap (λ g. negsuc (number (tail g))) e

mutual
  pub value_code-inj : (a b : Value) → value_code a ≡ value_code b → a ≡ b
  value_code-inj (Int a) (Int b) e = ap Int (int_code-inj a b (ap tail e))
  value_code-inj (Int a) (Qubit q) e = cc
  value_code-inj (Int a) (Variant k vs) e = cc
  value_code-inj (Int a) (Function name) e = cc
  value_code-inj (Qubit p) (Int b) e = cc
  value_code-inj (Qubit p) (Qubit q) e = ap (λ g. Qubit (number g)) e
  value_code-inj (Qubit p) (Variant k vs) e = cc
  value_code-inj (Qubit p) (Function name) e = cc
  value_code-inj (Variant k vs) (Int b) e = cc
  value_code-inj (Variant k vs) (Qubit q) e = cc
  value_code-inj (Variant k vs) (Function name) e = cc
  value_code-inj (Function name) (Int b) e = cc
  value_code-inj (Function name) (Qubit q) e = cc
  value_code-inj (Function name) (Variant k vs) e = cc
  value_code-inj (Function name) (Function other) e = ap Function (coded_name.inj name other (ap tail e))
  value_code-inj (Variant j us) (Variant k vs) e = λ i. Variant (number (head (e i))) (values_code-inj us vs (ap tail e) i)

  pub values_code-inj : (a b : Values) → values_code a ≡ values_code b → a ≡ b
  values_code-inj no_values no_values e = refl
  values_code-inj no_values (value v vs) e = cc
  values_code-inj (value v vs) no_values e = cc
  values_code-inj (value u us) (value v vs) e = λ i. value (value_code-inj u v (ap head e) i) (values_code-inj us vs (ap tail e) i)

abbrev pub coded_value : Coded Value
coded_value = record { code = value_code; inj = value_code-inj }

abbrev pub ValueList : Type 0
ValueList = List Value

abbrev pub coded_values : Coded ValueList
coded_values = coded_list coded_value
