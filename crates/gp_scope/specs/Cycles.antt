-- Structs that hold themselves, through fields, tuples, and parameters and results of function types.
use Rattle.std.specs.Prelude.{◌≡◌, ℕ, Bool, true, false, ◌||◌, List, [], ◌∷◌, Some, None, bytes_eq}
use Rattle.gp_tree.specs.Program.{ProgramItem, FieldDefinition}
use Rattle.gp_tree.specs.TypeExpression.{TypeExpression, TypeExpressions, ParameterTypes, ResultType, named_type, tuple_type, function_type, no_types, with_type, no_parameters, with_parameter, no_result, with_result}
use Rattle.gp_scope.specs.Definitions.{struct_named}

-- whether a written type names the name
abbrev mutual
  pub mentions : TypeExpression → List ℕ → Bool
  mentions (named_type its_name) name = bytes_eq name its_name
  mentions (tuple_type items) name = some_mentions items name
  mentions (function_type params answer) name = params_mention params name || answer_mentions answer name

  pub some_mentions : TypeExpressions → List ℕ → Bool
  some_mentions no_types name = false
  some_mentions (with_type t ts) name = mentions t name || some_mentions ts name

  pub params_mention : ParameterTypes → List ℕ → Bool
  params_mention no_parameters name = false
  params_mention (with_parameter t owned ps) name = mentions t name || params_mention ps name

  pub answer_mentions : ResultType → List ℕ → Bool
  answer_mentions no_result name = false
  answer_mentions (with_result t) name = mentions t name

abbrev pub fields_mention : List FieldDefinition → List ℕ → Bool
fields_mention [] name = false
fields_mention (f ∷ fs) name = mentions f.ty name || fields_mention fs name

-- the first name is that of a struct, and the second stands in the type of one of its fields
abbrev pub holds : List ProgramItem → List ℕ → List ℕ → Bool
holds program name held = elim (struct_named program name) [ None ↦ false | Some s ↦ fields_mention s.fields held ]

-- each name of the way holds the next: from the first name, over those in between, to the last
abbrev pub IsWay : List ProgramItem → (from : List ℕ) (between : List (List ℕ)) (to : List ℕ) → Type 0
IsWay program from [] to = holds program from to ≡ true
IsWay program from (next ∷ between) to = (holds program from next ≡ true) × IsWay program next between to

abbrev pub Reaches : List ProgramItem → List ℕ → List ℕ → Type 0
Reaches program from to = (between : List (List ℕ)) × IsWay program from between to

abbrev pub IsOnCycle : List ProgramItem → List ℕ → Type 0
IsOnCycle program name = Reaches program name name
