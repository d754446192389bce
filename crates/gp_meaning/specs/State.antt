-- The state of a function's run: the values of its names, and the world.
use Rattle.std.specs.Prelude.{ℕ, List, [], ◌∷◌, length, ◌==◌, if◌then◌else◌, map, Option, Some, None, option_map, slice_index_or, slice_set}
use Rattle.gp_base.specs.Run.{Out, Run, Returned, Stopped, Stuck, stop, ret, ◌>>=◌, or_stuck}
use Rattle.gp_base.specs.World.{World}
use Rattle.gp_locals.specs.Environment.{Names, place_among}
use Rattle.gp_tree.specs.declared.place.Place.{Place}
use Rattle.gp_tree.specs.declared.place.Targets.{Targets}
use Rattle.gp_tree.specs.declared.place.Targets.TheVariants as targets
use Rattle.gp_scope.specs.Known.{Known}
use Rattle.gp_meaning.specs.Value.{Value, function, at_path, with_part, parts_of}

-- the value of each name of the function, where it has one, in the order of the names
abbrev pub Variables : Type 0
Variables = List (Option Value)

pub record State : Type 0 where
  pub variables : Variables
  pub world : World

-- ---- what stops a run, and what changes the world alone

abbrev pub with_variables : {A : Type 0} → Variables → Out World A → Out State A
with_variables vs (Returned a w) = Returned a (record { variables = vs; world = w })
with_variables vs (Stopped e w) = Stopped e (record { variables = vs; world = w })

abbrev pub on_world : {A : Type 0} → Run World A → Run State A
on_world m s = with_variables s.variables (m s.world)

abbrev pub without_variables : {A : Type 0} → Out State A → Out World A
without_variables (Returned a s) = Returned a s.world
without_variables (Stopped e s) = Stopped e s.world

-- a run that begins with these values of the names, and forgets them at its end
abbrev pub begun_with : {A : Type 0} → Variables → Run State A → Run World A
begun_with vs m w = without_variables (m (record { variables = vs; world = w }))

-- ---- the values of names

-- no name has a value
abbrev pub no_variables : Names → Variables
no_variables names = map (λ name. None) names

abbrev pub variable_at : Variables → Option ℕ → Option Value
variable_at vs None = None
variable_at vs (Some i) = slice_index_or vs i None

-- the value of a name
abbrev pub variable : Names → Variables → List ℕ → Option Value
variable names vs name = variable_at vs (place_among names name)

abbrev pub set_at : Variables → Option ℕ → Value → Variables
set_at vs None v = vs
set_at vs (Some i) v = slice_set vs i (Some v)

-- the values when the name has got this one
abbrev pub set : Names → Variables → List ℕ → Value → Variables
set names vs name v = set_at vs (place_among names name) v

abbrev pub set_each : Names → Variables → List (List ℕ) → List Value → Variables
set_each names vs (name ∷ more) (v ∷ values) = set_each names (set names vs name v) more values
set_each names vs _ _ = vs

-- ---- places

-- a function of the program is the value of its name
abbrev pub function_value : Known → List ℕ → Option Value
function_value known name = option_map (λ s. function name) (known.signature_of name)

-- the value of a name, which is that of a function of the program where it is no name of the function that runs
abbrev pub named_at : Variables → Option ℕ → Option Value → Option Value
named_at vs (Some i) outside = slice_index_or vs i None
named_at vs None outside = outside

abbrev pub named_value : Known → Names → Variables → List ℕ → Option Value
named_value known names vs name = named_at vs (place_among names name) (function_value known name)

-- the value at a place
abbrev pub value_at : Known → Names → Variables → Place → Option Value
value_at known names vs place = at_path (named_value known names vs place.name) place.fields

abbrev pub changed : Option Value → List (List ℕ) → Value → Option Value
changed None path new = None
changed (Some v) path new = with_part v path new

-- the value of the name of a place when the place has got another one: that of a name alone needs none before
abbrev pub placed : Option Value → List (List ℕ) → Value → Option Value
placed old [] new = Some new
placed old (field ∷ path) new = changed old (field ∷ path) new

abbrev pub assign_name : Names → List ℕ → Value → Run State (Unit {0})
assign_name names name v s = Returned tt (record s { variables = set names s.variables name v })

abbrev pub assign_place : Names → Place → Value → Run State (Unit {0})
assign_place names place v s = (or_stuck (placed (variable names s.variables place.name) place.fields v) >>= assign_name names place.name) s

abbrev pub assign_each : Names → List Place → List Value → Run State (Unit {0})
assign_each names (place ∷ places) (v ∷ vs) = assign_place names place v >>= λ _. assign_each names places vs
assign_each names _ _ = ret tt

-- as many places as parts, each of which gets its part in turn
abbrev pub assign_parts : Names → List Place → List Value → Run State (Unit {0})
assign_parts names places vs = if length places == length vs then assign_each names places vs else stop Stuck

abbrev pub assign : Names → Targets → Value → Run State (Unit {0})
assign names (targets.One place) v = assign_place names place v
assign names (targets.Pattern places) v = or_stuck (parts_of v) >>= assign_parts names places
