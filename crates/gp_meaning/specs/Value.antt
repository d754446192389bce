-- Values of a run, and their parts.
use Rattle.std.specs.Prelude.{ℕ, zero, suc, ℤ, Bool, List, [], ◌∷◌, Option, Some, None, if◌then◌else◌, option_map, bytes_eq}

mutual
  pub data Value : Type 0 where
    number : ℤ → Value
    boolean : Bool → Value
    -- a qubit, by its number
    qubit : ℕ → Value
    tuple : Values → Value
    -- the value of a struct
    structure : FieldValues → Value
    -- a function, by its name
    function : List ℕ → Value

  pub data Values : Type 0 where
    no_values : Values
    with_value : Value → Values → Values

  -- the fields of a struct with their values, in the order in which it declares them
  pub data FieldValues : Type 0 where
    no_fields : FieldValues
    with_field : (name : List ℕ) → Value → FieldValues → FieldValues

-- a field by itself
pub record FieldValue : Type 0 where
  pub name : List ℕ
  pub value : Value

abbrev pub values_of : List Value → Values
values_of [] = no_values
values_of (v ∷ vs) = with_value v (values_of vs)

abbrev pub listed : Values → List Value
listed no_values = []
listed (with_value v vs) = v ∷ listed vs

abbrev pub fields_of : List FieldValue → FieldValues
fields_of [] = no_fields
fields_of (f ∷ fs) = with_field f.name f.value (fields_of fs)

-- ---- values of one kind

abbrev pub number_of : Value → Option ℤ
number_of (number n) = Some n
number_of _ = None

abbrev pub boolean_of : Value → Option Bool
boolean_of (boolean b) = Some b
boolean_of _ = None

abbrev pub qubit_of : Value → Option ℕ
qubit_of (qubit q) = Some q
qubit_of _ = None

-- the parts of a tuple
abbrev pub parts_of : Value → Option (List Value)
parts_of (tuple vs) = Some (listed vs)
parts_of _ = None

-- ---- parts of structs

abbrev pub field_named : FieldValues → List ℕ → Option Value
field_named no_fields name = None
field_named (with_field other v fields) name = if bytes_eq other name then Some v else field_named fields name

-- the value of a field, where the value is that of a struct which has it
abbrev pub field_of : Value → List ℕ → Option Value
field_of (structure fields) name = field_named fields name
field_of _ name = None

-- the value at the end of a path of fields
abbrev pub at_path : Option Value → List (List ℕ) → Option Value
at_path v [] = v
at_path None (field ∷ path) = None
at_path (Some v) (field ∷ path) = at_path (field_of v field) path

abbrev mutual
  -- a value with another one at the end of a path of fields, where the path is there
  pub with_part : Value → List (List ℕ) → Value → Option Value
  with_part v [] new = Some new
  with_part (structure fields) (field ∷ path) new = option_map structure (with_field_part fields field path new)
  with_part _ (field ∷ path) new = None

  -- fields of which one has another value at the end of a path of its own
  pub with_field_part : FieldValues → (field : List ℕ) → (path : List (List ℕ)) → Value → Option FieldValues
  with_field_part no_fields field path new = None
  with_field_part (with_field name v fields) field path new =
      if bytes_eq name field
      then option_map (λ changed. with_field name changed fields) (with_part v path new)
      else option_map (with_field name v) (with_field_part fields field path new)

-- the place of the first field of this name
abbrev pub place_named : List FieldValue → List ℕ → Option ℕ
place_named [] name = None
place_named (f ∷ fs) name = if bytes_eq f.name name then Some 0 else option_map suc (place_named fs name)

-- fields, of which the one at this place has another value
abbrev pub changed_at : List FieldValue → ℕ → Value → List FieldValue
changed_at [] place v = []
changed_at (f ∷ fs) zero v = record f { value = v } ∷ fs
changed_at (f ∷ fs) (suc place) v = f ∷ changed_at fs place v
