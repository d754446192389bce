-- Which lines are the lines of a program, by cases on the program. `fits` says which levels of blocks are allowed.
use Rattle.std.specs.Prelude.{◌≡◌, ◌<◌, ◌+◌, ℕ, Bool, true, false, List, [], ◌∷◌, ◌++◌, Option}
use Rattle.gp_base.specs.declared.name.LineNo.{LineNo}
use Rattle.gp_tree.specs.declared.expr.BinOp.{BinOp}
use Rattle.gp_tree.specs.declared.place.Place.{Place}
use Rattle.gp_tree.specs.declared.place.Targets.{Targets}
use Rattle.gp_tree.specs.declared.place.Targets.TheVariants.{One}
use Rattle.gp_tree.specs.Expression.{Expression}
use Rattle.gp_tree.specs.Expression as e
use Rattle.gp_tree.specs.Form.{Form, MaybeForm, Parameter}
use Rattle.gp_tree.specs.Form as f
use Rattle.gp_tree.specs.Program.{FieldDefinition, ProgramItem, import_item, struct_item, function_item}
use Rattle.gp_tree.specs.Statement.{Statement, statements_of}
use Rattle.gp_tree.specs.Statement as s
use Rattle.gp_tree.specs.TypeExpression.{TypeExpression}

-- a line: its number, its indentation, and its form
pub record Line : Type 0 where
  pub number : LineNo
  pub indent : ℕ
  pub form : Form

abbrev pub line : LineNo → ℕ → Form → Line
line n i form = record { number = n; indent = i; form = form }

-- The simple form of line n is this statement. The truth value says whether it stands inside a loop of its function.
pub data IsSimple : Bool → LineNo → Form → Statement → Type 0 where
  docstring : (loop : Bool) (n : LineNo) → IsSimple loop n f.docstring (s.pass n)
  assign : (loop : Bool) (n : LineNo) (t : Targets) (v : Expression) → IsSimple loop n (f.assign t v) (s.assign n t v)
  annotated : (loop : Bool) (n : LineNo) (x : List ℕ) (ty : TypeExpression) (v : Expression) → IsSimple loop n (f.annotated x ty v) (s.annotated n x ty v)
  -- `p += v` is the assignment of `p + v` to `p`
  augmented : (loop : Bool) (n : LineNo) (p : Place) (op : BinOp) (v : Expression) → IsSimple loop n (f.augmented p op v) (s.assign n (One p) (e.binary op (e.place p) v))
  evaluate : (loop : Bool) (n : LineNo) (v : Expression) → IsSimple loop n (f.evaluate v) (s.evaluate n v)
  return_value : (loop : Bool) (n : LineNo) (v : Option Expression) → IsSimple loop n (f.return_value v) (s.return_value n v)
  break_loop : (n : LineNo) → IsSimple true n f.break_loop (s.break_loop n)
  continue_loop : (n : LineNo) → IsSimple true n f.continue_loop (s.continue_loop n)
  pass : (loop : Bool) (n : LineNo) → IsSimple loop n f.pass (s.pass n)

mutual
  -- These lines are these statements, one after the other, in a block with this indentation and this level.
  pub data AreStatements (fits : ℕ → Bool) : ℕ → ℕ → Bool → List Line → List Statement → Type 0 where
    no_more : (i l : ℕ) (loop : Bool) → AreStatements fits i l loop [] []
    and_more : (i l : ℕ) (loop : Bool) (a b : List Line) (x : Statement) (xs : List Statement)
        → IsStatement fits i l loop a x → AreStatements fits i l loop b xs → AreStatements fits i l loop (a ++ b) (x ∷ xs)

  -- These lines are this statement, with its blocks.
  pub data IsStatement (fits : ℕ → Bool) : ℕ → ℕ → Bool → List Line → Statement → Type 0 where
    simple : (i l : ℕ) (loop : Bool) (n : LineNo) (form : Form) (x : Statement) → IsSimple loop n form x → IsStatement fits i l loop (line n i form ∷ []) x
    while_loop : (i l : ℕ) (loop : Bool) (n : LineNo) (test : Expression) (behind : MaybeForm) (a : List Line) (xs : List Statement)
        → IsBlock fits i (l + 1) true n behind a xs
        → IsStatement fits i l loop (line n i (f.while_header test behind) ∷ a) (s.while_loop n test (statements_of xs))
    for_loop : (i l : ℕ) (loop : Bool) (n : LineNo) (name : List ℕ) (count : Expression) (behind : MaybeForm) (a : List Line) (xs : List Statement)
        → IsBlock fits i (l + 1) true n behind a xs
        → IsStatement fits i l loop (line n i (f.for_header name count behind) ∷ a) (s.for_loop n name count (statements_of xs))
    if_else : (i l : ℕ) (loop : Bool) (n : LineNo) (test : Expression) (behind : MaybeForm) (a b : List Line) (xs ys : List Statement)
        → IsBlock fits i (l + 1) loop n behind a xs → IsOtherBranch fits i (l + 1) loop b ys
        → IsStatement fits i l loop (line n i (f.if_header test behind) ∷ (a ++ b)) (s.if_else n test (statements_of xs) (statements_of ys))

  -- These lines, behind the block of an `if` or `elif`, are its other branch. The level is that of the block before.
  pub data IsOtherBranch (fits : ℕ → Bool) : ℕ → ℕ → Bool → List Line → List Statement → Type 0 where
    missing : (i l : ℕ) (loop : Bool) → IsOtherBranch fits i l loop [] []
    else_block : (i l : ℕ) (loop : Bool) (n : LineNo) (behind : MaybeForm) (a : List Line) (xs : List Statement)
        → IsBlock fits i l loop n behind a xs → IsOtherBranch fits i l loop (line n i (f.else_header behind) ∷ a) xs
    -- an `elif` is an `if` alone in the other branch
    elif_block : (i l : ℕ) (loop : Bool) (n : LineNo) (test : Expression) (behind : MaybeForm) (a b : List Line) (xs ys : List Statement)
        → IsBlock fits i (l + 1) loop n behind a xs → IsOtherBranch fits i (l + 1) loop b ys
        → IsOtherBranch fits i l loop (line n i (f.elif_header test behind) ∷ (a ++ b)) (s.if_else n test (statements_of xs) (statements_of ys) ∷ [])

  -- The block of the header of line n, which has this indentation and this simple form behind its colon, or none.
  pub data IsBlock (fits : ℕ → Bool) : ℕ → ℕ → Bool → LineNo → MaybeForm → List Line → List Statement → Type 0 where
    on_the_line : (i l : ℕ) (loop : Bool) (n : LineNo) (form : Form) (x : Statement)
        → fits l ≡ true → IsSimple loop n form x → IsBlock fits i l loop n (f.some_form form) [] (x ∷ [])
    below : (i l : ℕ) (loop : Bool) (n : LineNo) (a : List Line) (xs : List Statement) → IsDeeper fits i l loop a xs → IsBlock fits i l loop n f.no_form a xs

  -- One line or more, all statements of one indentation greater than this one.
  pub data IsDeeper (fits : ℕ → Bool) : ℕ → ℕ → Bool → List Line → List Statement → Type 0 where
    deeper : (i l : ℕ) (loop : Bool) (x : Line) (a : List Line) (xs : List Statement)
        → fits l ≡ true → i < x.indent → AreStatements fits x.indent l loop (x ∷ a) xs → IsDeeper fits i l loop (x ∷ a) xs

-- a line of a class's block, and the fields that it declares
pub data IsClassLine : LineNo → Form → List FieldDefinition → Type 0 where
  field : (n : LineNo) (name : List ℕ) (ty : TypeExpression) → IsClassLine n (f.field name ty) (record { line = n; name = name; ty = ty } ∷ [])
  docstring : (n : LineNo) → IsClassLine n f.docstring []
  pass : (n : LineNo) → IsClassLine n f.pass []

-- lines of a class's block at one indentation
pub data AreFields : ℕ → List Line → List FieldDefinition → Type 0 where
  no_more : (i : ℕ) → AreFields i [] []
  and_more : (i : ℕ) (n : LineNo) (form : Form) (a : List Line) (ds es : List FieldDefinition)
      → IsClassLine n form ds → AreFields i a es → AreFields i (line n i form ∷ a) (ds ++ es)

-- a class's block: one line or more
pub data IsClassBlock : List Line → List FieldDefinition → Type 0 where
  deeper : (x : Line) (a : List Line) (ds : List FieldDefinition) → 0 < x.indent → AreFields x.indent (x ∷ a) ds → IsClassBlock (x ∷ a) ds

-- a line at the top that needs no other, and the items that it gives
pub data IsTopLine : LineNo → Form → List ProgramItem → Type 0 where
  import_names : (n : LineNo) (name : List ℕ) (names : List (List ℕ)) → IsTopLine n (f.import_names name names) (import_item (record { line = n; «module» = name; names = names }) ∷ [])
  docstring : (n : LineNo) → IsTopLine n f.docstring []
  pass : (n : LineNo) → IsTopLine n f.pass []
  module_call : (n : LineNo) (name : List ℕ) → IsTopLine n (f.module_call name) []

-- what a `def` line says, and the lines of it and of its decorator
pub record Head : Type 0 where
  pub mark : LineNo
  pub line : LineNo
  pub name : List ℕ
  pub params : List Parameter
  pub result_type : Option TypeExpression

abbrev pub function_of : Head → List Statement → ProgramItem
function_of h xs = function_item (record { line = h.line; mark = h.mark; name = h.name; params = h.params; result_type = h.result_type; body = statements_of xs })

abbrev pub struct_of : LineNo → LineNo → List ℕ → List FieldDefinition → ProgramItem
struct_of mark n name ds = struct_item (record { line = n; mark = mark; name = name; fields = ds })

-- These lines at the top are one import, docstring, `pass`, module call, marked function or marked class.
pub data IsItem (fits : ℕ → Bool) : List Line → List ProgramItem → Type 0 where
  alone : (n : LineNo) (form : Form) (items : List ProgramItem) → IsTopLine n form items → IsItem fits (line n 0 form ∷ []) items
  function : (mark n : LineNo) (name : List ℕ) (params : List Parameter) (ty : Option TypeExpression) (behind : MaybeForm) (a : List Line) (xs : List Statement)
      → IsBlock fits 0 1 false n behind a xs
      → IsItem fits (line mark 0 f.function_decorator ∷ line n 0 (f.def_header name params ty behind) ∷ a) (function_of (record { mark = mark; line = n; name = name; params = params; result_type = ty }) xs ∷ [])
  class : (mark n : LineNo) (name : List ℕ) (a : List Line) (ds : List FieldDefinition)
      → IsClassBlock a ds
      → IsItem fits (line mark 0 f.struct_decorator ∷ line n 0 (f.class_header name) ∷ a) (struct_of mark n name ds ∷ [])

-- These lines are the lines of the program with these items.
pub data Nests (fits : ℕ → Bool) : List Line → List ProgramItem → Type 0 where
  no_more : Nests fits [] []
  and_more : (a b : List Line) (items others : List ProgramItem) → IsItem fits a items → Nests fits b others → Nests fits (a ++ b) (items ++ others)
