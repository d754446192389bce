-- The names that a program brings in and defines, and the checks of imports, of definitions' names and of decorators.
use Rattle.std.specs.Prelude.{ℕ, Bool, false, not, ◌||◌, List, [], ◌∷◌, ◌++◌, Option, Some, None, codes, bytes_eq, if◌then◌else◌, find}
use Rattle.gp_tree.specs.declared.program.Import.{Import}
use Rattle.gp_tree.specs.Program.{ProgramItem, import_item, struct_item, function_item, StructDefinition, FunctionDefinition}
use Rattle.gp_scope.specs.declared.fault.ScopeFault.TheVariants as fault
use Rattle.gp_scope.specs.Modules.{offers}
use Rattle.gp_scope.specs.Checks.{Found, first, fault_where, is_among}

-- whether an import of the program brings the name in, wherever it stands
abbrev pub imports : List ProgramItem → List ℕ → Bool
imports [] name = false
imports (import_item i ∷ items) name = is_among name i.names || imports items name
imports (_ ∷ items) name = imports items name

-- the structs in text order
abbrev pub structs_in : List ProgramItem → List StructDefinition
structs_in [] = []
structs_in (struct_item s ∷ items) = s ∷ structs_in items
structs_in (_ ∷ items) = structs_in items

-- the functions in text order
abbrev pub functions_in : List ProgramItem → List FunctionDefinition
functions_in [] = []
functions_in (function_item f ∷ items) = f ∷ functions_in items
functions_in (_ ∷ items) = functions_in items

abbrev pub struct_named : List ProgramItem → List ℕ → Option StructDefinition
struct_named items name = find (λ s. bytes_eq name s.name) (structs_in items)

abbrev pub function_named : List ProgramItem → List ℕ → Option FunctionDefinition
function_named items name = find (λ f. bytes_eq name f.name) (functions_in items)

-- Imports: each name must be one that its module offers.

abbrev pub imported_names_fault : Import → List (List ℕ) → Found
imported_names_fault i [] = None
imported_names_fault i (name ∷ names) =
    first (fault_where (not (offers i.«module» name)) (fault.ImportUnknown i.line)) (imported_names_fault i names)

abbrev pub imports_fault : List ProgramItem → Found
imports_fault [] = None
imports_fault (import_item i ∷ items) = first (imported_names_fault i i.names) (imports_fault items)
imports_fault (_ ∷ items) = imports_fault items

-- Definitions: the name of each must be new, imported nowhere in the program, and none of four words.

abbrev pub is_word : List ℕ → Bool
is_word name = bytes_eq name (codes "int") || bytes_eq name (codes "bool") || bytes_eq name (codes "tuple") || bytes_eq name (codes "range")

-- a definition's name can't be this one, where the definitions before it have the names `taken`
abbrev pub is_taken : (program : List ProgramItem) (taken : List (List ℕ)) (name : List ℕ) → Bool
is_taken program taken name = is_word name || imports program name || is_among name taken

abbrev pub definitions_fault : (program : List ProgramItem) (taken : List (List ℕ)) → List ProgramItem → Found
definitions_fault program taken [] = None
definitions_fault program taken (struct_item s ∷ items) =
    first (fault_where (is_taken program taken s.name) (fault.NameTwice s.line)) (definitions_fault program (taken ++ s.name ∷ []) items)
definitions_fault program taken (function_item f ∷ items) =
    first (fault_where (is_taken program taken f.name) (fault.NameTwice f.line)) (definitions_fault program (taken ++ f.name ∷ []) items)
definitions_fault program taken (import_item i ∷ items) = definitions_fault program taken items

-- Decorators: where there is one, `guppy` must be imported.

abbrev pub first_decorator_fault : List ProgramItem → Found
first_decorator_fault [] = None
first_decorator_fault (struct_item s ∷ items) = Some (fault.NotImported s.mark)
first_decorator_fault (function_item f ∷ items) = Some (fault.NotImported f.mark)
first_decorator_fault (import_item i ∷ items) = first_decorator_fault items

abbrev pub decorators_fault : List ProgramItem → Found
decorators_fault items = if imports items (codes "guppy") then None else first_decorator_fault items
