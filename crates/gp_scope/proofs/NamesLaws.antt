-- The names of every program have exactly one first fault, or none.
use Rattle.std.proofs.Common.{◌≡◌, ◌≢◌, ◌∙◌, inl, inr, Bool, true, false, List, [], ◌∷◌, ◌++◌, ℕ, Option, Some, None, refl, sym}
use Rattle.std.specs.Prelude.{MatchOption, if◌then◌else◌, codes}
use Rattle.gp_base.specs.declared.name.LineNo.{LineNo}
use Rattle.gp_tree.specs.declared.program.Import.{Import}
use Rattle.gp_tree.specs.Form.{Parameter}
use Rattle.gp_tree.specs.Program.{ProgramItem, import_item, struct_item, function_item, FieldDefinition, StructDefinition}
use Rattle.gp_tree.specs.TypeExpression.{TypeExpression, TypeExpressions, ParameterTypes, ResultType, named_type, tuple_type, function_type, no_types, with_type, no_parameters, with_parameter, no_result, with_result}
use Rattle.gp_scope.specs.declared.fault.ScopeFault.{ScopeFault}
use Rattle.gp_scope.specs.declared.fault.ScopeFault.TheVariants as fault
use Rattle.gp_scope.specs.Annotations.{Annotation, annotations}
use Rattle.gp_scope.specs.Checks.{Found, first, fault_where}
use Rattle.gp_scope.specs.Cycles.{IsOnCycle}
use Rattle.gp_scope.specs.Definitions as definitions
use Rattle.gp_scope.specs.Definitions.{structs_in, imports}
use Rattle.gp_scope.specs.FirstFault.{names_fault, FindsCycle, IsFirstFault}
use Rattle.gp_scope.specs.NamesLaws.{NamesHaveOneAnswer}
use Rattle.gp_scope.specs.Parts as parts
use Rattle.gp_scope.specs.Sizes as sizes
use Rattle.gp_scope.specs.Sizes.{sizes_fault}
use Rattle.gp_scope.proofs.CycleChoice.{Decided, on_cycle_or_not}
use Rattle.gp_scope.proofs.PhaseLemmas.{first-fault, names-first}

-- ---- one first fault

one_cycle : (program : List ProgramItem) (ss : List StructDefinition) (next a b : Found) → FindsCycle program ss next a → FindsCycle program ss next b → a ≡ b
one_cycle program [] next a b f g = f ∙ sym g
one_cycle program (s ∷ ss) next a b (inl f) (inl g) = f.1 ∙ sym g.1
one_cycle program (s ∷ ss) next a b (inl f) (inr g) = absurd (g.0 f.0)
one_cycle program (s ∷ ss) next a b (inr f) (inl g) = absurd (f.0 g.0)
one_cycle program (s ∷ ss) next a b (inr f) (inr g) = one_cycle program ss next a b f.1 g.1

pub one_found : (program : List ProgramItem) (a b : Found) → IsFirstFault program a → IsFirstFault program b → a ≡ b
one_found program a b = go (names_fault program) where
  go : (o : Found) → MatchOption o (FindsCycle program (structs_in program) (sizes_fault program program) a) (λ f. a ≡ Some f)
      → MatchOption o (FindsCycle program (structs_in program) (sizes_fault program program) b) (λ f. b ≡ Some f) → a ≡ b
  go None f g = one_cycle program (structs_in program) (sizes_fault program program) a b f g
  go (Some x) f g = f ∙ sym g

-- ---- want of memory is no fault of names

abbrev IsOfNames : Found → Type 0
IsOfNames None = Unit {0}
IsOfNames (Some f) = f ≢ fault.Memory

first_of : (a b : Found) → IsOfNames a → IsOfNames b → IsOfNames (first a b)
first_of None b h k = k
first_of (Some f) b h k = h

where_of : (b : Bool) (f : ScopeFault) → f ≢ fault.Memory → IsOfNames (fault_where b f)
where_of true f h = h
where_of false f h = tt

unknown_import : (n : LineNo) → fault.ImportUnknown n ≢ fault.Memory
unknown_import n e = cc

twice : (n : LineNo) → fault.NameTwice n ≢ fault.Memory
twice n e = cc

not_imported : (n : LineNo) → fault.NotImported n ≢ fault.Memory
not_imported n e = cc

unknown_type : (n : LineNo) → fault.UnknownType n ≢ fault.Memory
unknown_type n e = cc

on_cycle : (n : LineNo) → fault.StructCycle n ≢ fault.Memory
on_cycle n e = cc

too_big : (n : LineNo) → fault.TooBigType n ≢ fault.Memory
too_big n e = cc

imported_names : (i : Import) (names : List (List ℕ)) → IsOfNames (definitions.imported_names_fault i names)
imported_names i [] = tt
imported_names i (n ∷ names) = first_of _ _ (where_of _ _ (unknown_import i.line)) (imported_names i names)

imports_of : (items : List ProgramItem) → IsOfNames (definitions.imports_fault items)
imports_of [] = tt
imports_of (import_item i ∷ items) = first_of _ _ (imported_names i i.names) (imports_of items)
imports_of (struct_item s ∷ items) = imports_of items
imports_of (function_item f ∷ items) = imports_of items

definitions_of : (program : List ProgramItem) (taken : List (List ℕ)) (items : List ProgramItem) → IsOfNames (definitions.definitions_fault program taken items)
definitions_of program taken [] = tt
definitions_of program taken (struct_item s ∷ items) = first_of _ _ (where_of _ _ (twice s.line)) (definitions_of program (taken ++ s.name ∷ []) items)
definitions_of program taken (function_item f ∷ items) = first_of _ _ (where_of _ _ (twice f.line)) (definitions_of program (taken ++ f.name ∷ []) items)
definitions_of program taken (import_item i ∷ items) = definitions_of program taken items

first_decorator_of : (items : List ProgramItem) → IsOfNames (definitions.first_decorator_fault items)
first_decorator_of [] = tt
first_decorator_of (struct_item s ∷ items) = not_imported s.mark
first_decorator_of (function_item f ∷ items) = not_imported f.mark
first_decorator_of (import_item i ∷ items) = first_decorator_of items

decorators_of : (items : List ProgramItem) → IsOfNames (definitions.decorators_fault items)
decorators_of items = go (imports items (codes "guppy"))
  where
    go : (b : Bool) → IsOfNames (if b then None else definitions.first_decorator_fault items)
    go true = tt
    go false = first_decorator_of items

mark_of : (program : List ProgramItem) (line : LineNo) (owned : Bool) → IsOfNames (parts.mark_fault program line owned)
mark_of program line owned = where_of _ _ (not_imported line)

mutual
  type_of : (program : List ProgramItem) (line : LineNo) (t : TypeExpression) → IsOfNames (parts.type_fault program line t)
  type_of program line (named_type name) = where_of _ _ (unknown_type line)
  type_of program line (tuple_type ts) = types_of program line ts
  type_of program line (function_type ps r) =
      first_of _ _ (where_of _ _ (not_imported line)) (first_of _ _ (parameter_types_of program line ps) (result_type_of program line r))

  types_of : (program : List ProgramItem) (line : LineNo) (ts : TypeExpressions) → IsOfNames (parts.types_fault program line ts)
  types_of program line no_types = tt
  types_of program line (with_type t ts) = first_of _ _ (type_of program line t) (types_of program line ts)

  parameter_types_of : (program : List ProgramItem) (line : LineNo) (ps : ParameterTypes) → IsOfNames (parts.parameter_types_fault program line ps)
  parameter_types_of program line no_parameters = tt
  parameter_types_of program line (with_parameter t owned ps) =
      first_of _ _ (type_of program line t) (first_of _ _ (mark_of program line owned) (parameter_types_of program line ps))

  result_type_of : (program : List ProgramItem) (line : LineNo) (r : ResultType) → IsOfNames (parts.result_type_fault program line r)
  result_type_of program line no_result = tt
  result_type_of program line (with_result t) = type_of program line t

fields_of : (program : List ProgramItem) (taken : List (List ℕ)) (fs : List FieldDefinition) → IsOfNames (parts.fields_fault program taken fs)
fields_of program taken [] = tt
fields_of program taken (f ∷ fs) =
    first_of _ _ (where_of _ _ (twice f.line)) (first_of _ _ (type_of program f.line f.ty) (fields_of program (taken ++ f.name ∷ []) fs))

parameters_of : (program : List ProgramItem) (line : LineNo) (taken : List (List ℕ)) (ps : List Parameter) → IsOfNames (parts.parameters_fault program line taken ps)
parameters_of program line taken [] = tt
parameters_of program line taken (p ∷ ps) =
    first_of _ _ (where_of _ _ (twice line))
    (first_of _ _ (type_of program line p.ty)
    (first_of _ _ (mark_of program line p.owned) (parameters_of program line (taken ++ p.name ∷ []) ps)))

result_of : (program : List ProgramItem) (line : LineNo) (t : Option TypeExpression) → IsOfNames (parts.result_fault program line t)
result_of program line None = tt
result_of program line (Some t) = type_of program line t

annotations_of : (program : List ProgramItem) (xs : List Annotation) → IsOfNames (parts.annotations_fault program xs)
annotations_of program [] = tt
annotations_of program (a ∷ rest) = first_of _ _ (type_of program a.line a.ty) (annotations_of program rest)

parts_of : (program items : List ProgramItem) → IsOfNames (parts.parts_fault program items)
parts_of program [] = tt
parts_of program (struct_item s ∷ items) = first_of _ _ (fields_of program [] s.fields) (parts_of program items)
parts_of program (function_item f ∷ items) =
    first_of _ _
    (first_of _ _ (parameters_of program f.line [] f.params) (first_of _ _ (result_of program f.line f.result_type) (annotations_of program (annotations f.body))))
    (parts_of program items)
parts_of program (import_item i ∷ items) = parts_of program items

names_of : (program : List ProgramItem) → IsOfNames (names_fault program)
names_of program = first_of _ _ (imports_of program) (first_of _ _ (definitions_of program [] program) (first_of _ _ (decorators_of program) (parts_of program program)))

size_of : (program : List ProgramItem) (line : LineNo) (t : TypeExpression) → IsOfNames (sizes.big_type_fault program line t)
size_of program line t = where_of _ _ (too_big line)

parameter_sizes_of : (program : List ProgramItem) (line : LineNo) (ps : List Parameter) → IsOfNames (sizes.big_parameters_fault program line ps)
parameter_sizes_of program line [] = tt
parameter_sizes_of program line (p ∷ ps) = first_of _ _ (size_of program line p.ty) (parameter_sizes_of program line ps)

result_size_of : (program : List ProgramItem) (line : LineNo) (t : Option TypeExpression) → IsOfNames (sizes.big_result_fault program line t)
result_size_of program line None = tt
result_size_of program line (Some t) = size_of program line t

annotation_sizes_of : (program : List ProgramItem) (xs : List Annotation) → IsOfNames (sizes.big_annotations_fault program xs)
annotation_sizes_of program [] = tt
annotation_sizes_of program (a ∷ rest) = first_of _ _ (size_of program a.line a.ty) (annotation_sizes_of program rest)

sizes_of : (program items : List ProgramItem) → IsOfNames (sizes_fault program items)
sizes_of program [] = tt
sizes_of program (struct_item s ∷ items) = first_of _ _ (size_of program s.line (named_type s.name)) (sizes_of program items)
sizes_of program (function_item f ∷ items) =
    first_of _ _
    (first_of _ _ (parameter_sizes_of program f.line f.params) (first_of _ _ (result_size_of program f.line f.result_type) (annotation_sizes_of program (annotations f.body))))
    (sizes_of program items)
sizes_of program (import_item i ∷ items) = sizes_of program items

-- ---- always a first fault, or none

finds_cycle : (program : List ProgramItem) (ss : List StructDefinition) (next : Found) → IsOfNames next → (found : Found) × FindsCycle program ss next found × IsOfNames found
finds_cycle program [] next h = (next, refl, h)
finds_cycle program (s ∷ ss) next h = go (on_cycle_or_not program s.name) (finds_cycle program ss next h)
  where
    go : Decided (IsOnCycle program s.name) → (found : Found) × FindsCycle program ss next found × IsOfNames found
        → (found : Found) × FindsCycle program (s ∷ ss) next found × IsOfNames found
    go (inl cycle) rest = (Some (fault.StructCycle s.line), inl (cycle, refl), on_cycle s.line)
    go (inr none) rest = (rest.0, inr (none, rest.1), rest.2)

not_memory : (found : Found) → IsOfNames found → found ≢ Some fault.Memory
not_memory None h e = cc
not_memory (Some fault.Memory) h e = h refl
not_memory (Some (fault.ImportUnknown n)) h e = cc
not_memory (Some (fault.NameTwice n)) h e = cc
not_memory (Some (fault.NotImported n)) h e = cc
not_memory (Some (fault.UnknownType n)) h e = cc
not_memory (Some (fault.StructCycle n)) h e = cc
not_memory (Some (fault.TooBigType n)) h e = cc

always_found : (program : List ProgramItem) → (found : Found) × IsFirstFault program found × (found ≢ Some fault.Memory)
always_found program = go (names_fault program) refl (names_of program)
  where
    go : (r : Found) → names_fault program ≡ r → IsOfNames r → (found : Found) × IsFirstFault program found × (found ≢ Some fault.Memory)
    go None e h =
        let c = finds_cycle program (structs_in program) (sizes_fault program program) (sizes_of program program) in
        (c.0, first-fault program c.0 e c.1, not_memory c.0 c.2)
    go (Some f) e h = (Some f, names-first program f e, not_memory (Some f) h)

pub names_have_one_answer : NamesHaveOneAnswer
names_have_one_answer = record {
  one = one_found;
  always_one = always_found;
}
