-- What calls take and give.
use Rattle.std.specs.Prelude.{ℕ, suc, ℤ, Bool, true, false, List, [], ◌∷◌, Option, Some, None, option_map, option_and_then, slice_index_or, if◌then◌else◌, ◌==◌, length, map, slice_get}
use Rattle.gp_base.specs.declared.event.Event.TheVariants as event
use Rattle.gp_base.specs.declared.event.GateName.TheVariants as gate
use Rattle.gp_base.specs.Run.{Run, Stuck, stop, ret, ◌>>=◌, or_stuck}
use Rattle.gp_base.specs.World.{World, allocate, free, apply_gate, apply_gate_on_two, apply_gate_on_three, rotate, reset, measure, measure_free, does, take_turn}
use Rattle.gp_locals.specs.Callee.{Callee, Function, Made, BuiltIn, by_signature, outside, takes_tag}
use Rattle.gp_locals.specs.Tag.{is_tag}
use Rattle.gp_locals.specs.Environment.{Names, place_among}
use Rattle.gp_scope.specs.Known.{Known}
use Rattle.gp_tree.specs.Expression as expr
use Rattle.gp_tree.specs.Expression.{Expression, Expressions, no_expressions, with_expression}
use Rattle.gp_types.specs.Types as types
use Rattle.gp_types.specs.Types.{Ty, Fields, FunParams}
use Rattle.gp_types.specs.Builtins.{parameters_of}
use Rattle.gp_types.specs.declared.builtins.Builtin.{Builtin}
use Rattle.gp_types.specs.declared.builtins.Builtin.TheVariants as built_in
use Rattle.gp_meaning.specs.Value.{Value, number, boolean, qubit, function, number_of, qubit_of, structure, FieldValues, no_fields, with_field}
use Rattle.gp_meaning.specs.State.{State, Variables, assign_place}

-- What a call gives: its answer, where it has one, and for each parameter its final value, where it is borrowed. Behind
-- the last borrowed parameter there need be nothing.
pub record Called : Type 0 where
  pub answer : Option Value
  pub finals : List (Option Value)

-- an answer, and qubits that come back
abbrev pub gives : {S : Type 0} → Option Value → (qubits : List ℕ) → Run S Called
gives answer qubits = ret (record { answer = answer; finals = map (λ q. Some (qubit q)) qubits })

-- ---- what a call calls

-- the name that the program has for what is called, and what that is
pub record Resolved : Type 0 where
  pub name : List ℕ
  pub callee : Callee

-- the function of the program that a value is the name of
abbrev pub resolved_value : Known → Value → Option Resolved
resolved_value known (function name) = option_map (λ s. record { name = name; callee = by_signature s }) (known.signature_of name)
resolved_value known _ = None

abbrev pub resolved_at : Known → Variables → Option ℕ → List ℕ → Option Resolved
resolved_at known vs (Some i) name = option_and_then (resolved_value known) (slice_index_or vs i None)
resolved_at known vs None name = option_map (λ callee. record { name = name; callee = callee }) (outside known name)

-- What a call of a name calls. A name of the function that runs is called by its value, and hides what it means outside.
abbrev pub resolved : Known → Names → Variables → List ℕ → Option Resolved
resolved known names vs name = resolved_at known vs (place_among names name) name

-- ---- arguments

abbrev pub count : Expressions → ℕ
count no_expressions = 0
count (with_expression e es) = suc (count es)

abbrev pub field_count : Fields → ℕ
field_count types.end = 0
field_count (types.field name ty fields) = suc (field_count fields)

abbrev pub part_count : Ty → ℕ
part_count (types.Struct name fields) = field_count fields
part_count _ = 0

abbrev pub param_count : FunParams → ℕ
param_count types.no_params = 0
param_count (types.param ty mode ps) = suc (param_count ps)

-- how many values a call takes, a tag aside
abbrev pub value_count : Callee → ℕ
value_count (Function ps r) = param_count ps
value_count (Made ty) = part_count ty
value_count (BuiltIn built_in.Result) = 1
value_count (BuiltIn b) = length (parameters_of b)

abbrev pub tag_where : List ℕ → Bool → Option (Option (List ℕ))
tag_where t true = Some (Some t)
tag_where t false = None

abbrev pub text_of : Expression → Option (List ℕ)
text_of (expr.text t) = Some t
text_of _ = None

-- the tag that stands before one value
abbrev pub tag_before : Expressions → Option (Option (List ℕ))
tag_before (with_expression e (with_expression value no_expressions)) = option_and_then (λ t. tag_where t (is_tag t)) (text_of e)
tag_before _ = None

-- The tag of a call with these arguments, where it takes one. None where the number of arguments is wrong, or no tag
-- stands where one is taken.
abbrev pub tag_of : Callee → Expressions → Option (Option (List ℕ))
tag_of callee es = if takes_tag callee then tag_before es else (if count es == value_count callee then Some None else None)

-- ---- built-in functions

-- the qubit and the whole number that are the value at a place
abbrev pub qubit_at : List Value → ℕ → Option ℕ
qubit_at vs place = option_and_then qubit_of (slice_get vs place)

abbrev pub number_at : List Value → ℕ → Option ℤ
number_at vs place = option_and_then number_of (slice_get vs place)

-- a whole number or a truth value is reported under a tag
abbrev pub reported : Option (List ℕ) → Option Value → Run World Called
reported (Some tag) (Some (number n)) = does (event.ResultInt tag n) >>= λ _. gives None []
reported (Some tag) (Some (boolean b)) = does (event.ResultBool tag b) >>= λ _. gives None []
reported _ _ = stop Stuck

-- A built-in function with these values; where one of them is missing or of another kind than it takes, it is stuck.
abbrev pub performed : Builtin → (tag : Option (List ℕ)) → List Value → Run World Called
performed built_in.Qubit tag vs = allocate >>= λ q. gives (Some (qubit q)) []
performed built_in.Discard tag vs = or_stuck (qubit_at vs 0) >>= λ q. free q >>= λ _. gives None []
performed built_in.Measure tag vs = or_stuck (qubit_at vs 0) >>= λ q. measure_free q >>= λ b. gives (Some (boolean b)) []
performed built_in.ProjectZ tag vs = or_stuck (qubit_at vs 0) >>= λ q. measure q >>= λ b. gives (Some (boolean b)) (q ∷ [])
performed built_in.Reset tag vs = or_stuck (qubit_at vs 0) >>= λ q. reset q >>= λ _. gives None (q ∷ [])
performed (built_in.OneQubitGate g) tag vs = or_stuck (qubit_at vs 0) >>= λ q. apply_gate g q >>= λ _. gives None (q ∷ [])
performed (built_in.TwoQubitGate g) tag vs =
    or_stuck (qubit_at vs 0) >>= λ p. or_stuck (qubit_at vs 1) >>= λ q. apply_gate_on_two g p q >>= λ _. gives None (p ∷ q ∷ [])
performed built_in.Toffoli tag vs =
    or_stuck (qubit_at vs 0)
    >>= λ p. or_stuck (qubit_at vs 1)
    >>= λ q. or_stuck (qubit_at vs 2)
    >>= λ r. apply_gate_on_three gate.Toffoli p q r
    >>= λ _. gives None (p ∷ q ∷ r ∷ [])
performed (built_in.Rotation g) tag vs =
    or_stuck (qubit_at vs 0) >>= λ q. or_stuck (number_at vs 1) >>= λ a. rotate g q a >>= λ _. gives None (q ∷ [])
performed built_in.Result tag vs = reported tag (slice_get vs 0)

-- ---- calls

abbrev pub field_values : Fields → List Value → FieldValues
field_values (types.field name ty fields) (v ∷ vs) = with_field name v (field_values fields vs)
field_values _ _ = no_fields

abbrev pub struct_fields : Ty → List Value → FieldValues
struct_fields (types.Struct name fields) vs = field_values fields vs
struct_fields _ vs = no_fields

-- the runs of written functions
abbrev pub Functions : Type 0
Functions = List ℕ → List Value → Run World Called

-- A call with its tag and its values. That of a written function takes a turn.
abbrev pub called : Functions → Callee → List ℕ → Option (List ℕ) → List Value → Run World Called
called functions (Function ps r) name tag vs = take_turn >>= λ _. functions name vs
called functions (Made ty) name tag vs = gives (Some (structure (struct_fields ty vs))) []
called functions (BuiltIn b) name tag vs = performed b tag vs

-- ---- borrowed arguments

-- a final value goes to the place of its argument, where that is a place
abbrev pub put_back : Names → Expression → Value → Run State (Unit {0})
put_back names (expr.place p) v = assign_place names p v
put_back names _ v = ret tt

-- the final values go back, in the order of the arguments
abbrev pub put_back_each : Names → Expressions → List (Option Value) → Run State (Unit {0})
put_back_each names (with_expression e es) (Some v ∷ finals) = put_back names e v >>= λ _. put_back_each names es finals
put_back_each names (with_expression e es) (None ∷ finals) = put_back_each names es finals
put_back_each names _ _ = ret tt
