-- What holds of each program that lines are the lines of.
use Rattle.std.proofs.Common.{◌≡◌, ℕ, Bool, List, [], ◌∷◌, ◌++◌, map, refl, sym, ap, subst, ◌∙◌, append_assoc}
use Rattle.std.proofs.lemmas.List.{append-nil}
use Rattle.gp_base.specs.declared.name.LineNo.{LineNo}
use Rattle.gp_tree.specs.Form.{Form, MaybeForm, no_form, some_form}
use Rattle.gp_tree.specs.Form as f
use Rattle.gp_parse.specs.Placement.{IsSomeBlock, IsPlaced, ArePlaced, HasPlacedJumps, annotated_lines_in, annotated_lines, program_annotated_lines, AllBehind, AreRising}
use Rattle.gp_tree.specs.Program.{FieldDefinition, ProgramItem, function_item}
use Rattle.gp_tree.specs.Statement.{Statement, statements_of}
use Rattle.gp_parse.specs.Nested.{number_of}
use Rattle.gp_parse.specs.Nesting as g
use Rattle.gp_parse.specs.Nesting.{Line, line, IsSimple, AreStatements, IsStatement, IsOtherBranch, IsBlock, IsDeeper, IsClassLine, AreFields, IsClassBlock, IsTopLine, IsItem, Nests}

-- ---- jumps inside loops

simple_placed : {loop : Bool} {n : LineNo} {form : Form} {x : Statement} → IsSimple loop n form x → IsPlaced loop x
simple_placed (g.docstring loop n) = tt
simple_placed (g.assign loop n t v) = tt
simple_placed (g.annotated loop n x ty v) = tt
simple_placed (g.augmented loop n p op v) = tt
simple_placed (g.evaluate loop n v) = tt
simple_placed (g.return_value loop n v) = tt
simple_placed (g.break_loop n) = refl
simple_placed (g.continue_loop n) = refl
simple_placed (g.pass loop n) = tt

mutual
  statements_placed : {fits : ℕ → Bool} {i l : ℕ} {loop : Bool} {a : List Line} {xs : List Statement} → AreStatements fits i l loop a xs → ArePlaced loop (statements_of xs)
  statements_placed (g.no_more i l loop) = tt
  statements_placed (g.and_more i l loop a b x xs is rest) = (statement_placed is, statements_placed rest)

  statement_placed : {fits : ℕ → Bool} {i l : ℕ} {loop : Bool} {a : List Line} {x : Statement} → IsStatement fits i l loop a x → IsPlaced loop x
  statement_placed (g.simple i l loop n form x is) = simple_placed is
  statement_placed (g.while_loop i l loop n test behind a xs block) = (block_placed block).1
  statement_placed (g.for_loop i l loop n name count behind a xs block) = (block_placed block).1
  statement_placed (g.if_else i l loop n test behind a b xs ys block other) = ((block_placed block).0, (block_placed block).1, other_placed other)

  other_placed : {fits : ℕ → Bool} {i l : ℕ} {loop : Bool} {a : List Line} {xs : List Statement} → IsOtherBranch fits i l loop a xs → ArePlaced loop (statements_of xs)
  other_placed (g.missing i l loop) = tt
  other_placed (g.else_block i l loop n behind a xs block) = (block_placed block).1
  other_placed (g.elif_block i l loop n test behind a b xs ys block other) = (((block_placed block).0, (block_placed block).1, other_placed other), tt)

  block_placed : {fits : ℕ → Bool} {i l : ℕ} {loop : Bool} {n : LineNo} {behind : MaybeForm} {a : List Line} {xs : List Statement} → IsBlock fits i l loop n behind a xs → IsSomeBlock (statements_of xs) × ArePlaced loop (statements_of xs)
  block_placed (g.on_the_line i l loop n form x fit is) = (tt, (simple_placed is, tt))
  block_placed (g.below i l loop n a xs d) = deeper_placed d

  deeper_placed : {fits : ℕ → Bool} {i l : ℕ} {loop : Bool} {a : List Line} {xs : List Statement} → IsDeeper fits i l loop a xs → IsSomeBlock (statements_of xs) × ArePlaced loop (statements_of xs)
  deeper_placed (g.deeper i l loop x a xs fit lt is) = (some_block is refl, statements_placed is)

  -- lines of statements are those of a statement
  some_block : {fits : ℕ → Bool} {i l : ℕ} {loop : Bool} {a b : List Line} {x : Line} {xs : List Statement} → AreStatements fits i l loop a xs → a ≡ x ∷ b → IsSomeBlock (statements_of xs)
  some_block (g.no_more i l loop) e = absurd cc
  some_block (g.and_more i l loop a b x xs is rest) e = tt

placed_behind : (items others : List ProgramItem) → HasPlacedJumps items → HasPlacedJumps others → HasPlacedJumps (items ++ others)
placed_behind [] others h k = k
placed_behind (Rattle.gp_tree.specs.Program.function_item x ∷ items) others h k = (h.0, placed_behind items others h.1 k)
placed_behind (Rattle.gp_tree.specs.Program.import_item x ∷ items) others h k = placed_behind items others h k
placed_behind (Rattle.gp_tree.specs.Program.struct_item x ∷ items) others h k = placed_behind items others h k

top_placed : {n : LineNo} {form : Form} {items : List ProgramItem} → IsTopLine n form items → HasPlacedJumps items
top_placed (g.import_names n name names) = tt
top_placed (g.docstring n) = tt
top_placed (g.pass n) = tt
top_placed (g.module_call n name) = tt

item_placed : {fits : ℕ → Bool} {a : List Line} {items : List ProgramItem} → IsItem fits a items → HasPlacedJumps items
item_placed (g.alone n form items is) = top_placed is
item_placed (g.function k n name params ty behind a xs block) = ((block_placed block).1, tt)
item_placed (g.class k n name a ds block) = tt

pub program_placed : {fits : ℕ → Bool} {a : List Line} {items : List ProgramItem} → Nests fits a items → HasPlacedJumps items
program_placed g.no_more = tt
program_placed (g.and_more a b items others is rest) = placed_behind items others (item_placed is) (program_placed rest)

-- ---- the lines of annotated assignments

of_simple : LineNo → Form → List LineNo
of_simple n (f.annotated name ty value) = n ∷ []
of_simple n _ = []

of_behind : LineNo → MaybeForm → List LineNo
unfolding of_simple
of_behind n no_form = []
of_behind n (some_form form) = of_simple n form

of_form : LineNo → Form → List LineNo
unfolding of_behind
of_form n (f.annotated name ty value) = n ∷ []
of_form n (f.def_header name params ty behind) = of_behind n behind
of_form n (f.if_header test behind) = of_behind n behind
of_form n (f.elif_header test behind) = of_behind n behind
of_form n (f.while_header test behind) = of_behind n behind
of_form n (f.else_header behind) = of_behind n behind
of_form n (f.for_header name count behind) = of_behind n behind
of_form n _ = []

-- the lines with an annotated assignment, alone or behind a colon
of_lines : List Line → List LineNo
unfolding of_form
of_lines [] = []
of_lines (x ∷ xs) = of_form x.number x.form ++ of_lines xs

lines-append : (a b : List Line) → of_lines (a ++ b) ≡ of_lines a ++ of_lines b
unfolding of_lines
lines-append [] b = refl
lines-append (x ∷ a) b = ap (λ (z : List LineNo). of_form x.number x.form ++ z) (lines-append a b) ∙ sym (append_assoc (of_form x.number x.form) (of_lines a) (of_lines b))

simple_lines : {loop : Bool} {n : LineNo} {form : Form} {x : Statement} → IsSimple loop n form x → annotated_lines_in x ≡ of_simple n form
unfolding of_simple
simple_lines (g.docstring loop n) = refl
simple_lines (g.assign loop n t v) = refl
simple_lines (g.annotated loop n x ty v) = refl
simple_lines (g.augmented loop n p op v) = refl
simple_lines (g.evaluate loop n v) = refl
simple_lines (g.return_value loop n v) = refl
simple_lines (g.break_loop n) = refl
simple_lines (g.continue_loop n) = refl
simple_lines (g.pass loop n) = refl

alone_lines : {loop : Bool} {n : LineNo} {form : Form} {x : Statement} → IsSimple loop n form x → annotated_lines_in x ≡ of_form n form
unfolding of_form
alone_lines (g.docstring loop n) = refl
alone_lines (g.assign loop n t v) = refl
alone_lines (g.annotated loop n x ty v) = refl
alone_lines (g.augmented loop n p op v) = refl
alone_lines (g.evaluate loop n v) = refl
alone_lines (g.return_value loop n v) = refl
alone_lines (g.break_loop n) = refl
alone_lines (g.continue_loop n) = refl
alone_lines (g.pass loop n) = refl

two_parts : (n : LineNo) (behind : MaybeForm) (a b : List Line) (u v : List LineNo) → u ≡ of_behind n behind ++ of_lines a → v ≡ of_lines b → u ++ v ≡ of_behind n behind ++ of_lines (a ++ b)
two_parts n behind a b u v p q = ap (λ (z : List LineNo). z ++ v) p ∙ ap (λ (z : List LineNo). (of_behind n behind ++ of_lines a) ++ z) q ∙ append_assoc (of_behind n behind) (of_lines a) (of_lines b) ∙ ap (λ (z : List LineNo). of_behind n behind ++ z) (sym (lines-append a b))

mutual
  unfolding of_lines

  statements_lines : {fits : ℕ → Bool} {i l : ℕ} {loop : Bool} {a : List Line} {xs : List Statement} → AreStatements fits i l loop a xs → annotated_lines (statements_of xs) ≡ of_lines a
  statements_lines (g.no_more i l loop) = refl
  statements_lines (g.and_more i l loop a b x xs is rest) = ap (λ (z : List LineNo). z ++ annotated_lines (statements_of xs)) (statement_lines is) ∙ ap (λ (z : List LineNo). of_lines a ++ z) (statements_lines rest) ∙ sym (lines-append a b)

  statement_lines : {fits : ℕ → Bool} {i l : ℕ} {loop : Bool} {a : List Line} {x : Statement} → IsStatement fits i l loop a x → annotated_lines_in x ≡ of_lines a
  statement_lines (g.simple i l loop n form x is) = alone_lines is ∙ sym (append-nil (of_form n form))
  statement_lines (g.while_loop i l loop n test behind a xs block) = block_lines block
  statement_lines (g.for_loop i l loop n name count behind a xs block) = block_lines block
  statement_lines (g.if_else i l loop n test behind a b xs ys block other) = two_parts n behind a b _ _ (block_lines block) (other_lines other)

  other_lines : {fits : ℕ → Bool} {i l : ℕ} {loop : Bool} {a : List Line} {xs : List Statement} → IsOtherBranch fits i l loop a xs → annotated_lines (statements_of xs) ≡ of_lines a
  other_lines (g.missing i l loop) = refl
  other_lines (g.else_block i l loop n behind a xs block) = block_lines block
  other_lines (g.elif_block i l loop n test behind a b xs ys block other) = append-nil (annotated_lines (statements_of xs) ++ annotated_lines (statements_of ys)) ∙ two_parts n behind a b _ _ (block_lines block) (other_lines other)

  block_lines : {fits : ℕ → Bool} {i l : ℕ} {loop : Bool} {n : LineNo} {behind : MaybeForm} {a : List Line} {xs : List Statement} → IsBlock fits i l loop n behind a xs → annotated_lines (statements_of xs) ≡ of_behind n behind ++ of_lines a
  block_lines (g.on_the_line i l loop n form x fit is) = ap (λ (z : List LineNo). z ++ []) (simple_lines is)
  block_lines (g.below i l loop n a xs d) = deeper_lines d

  deeper_lines : {fits : ℕ → Bool} {i l : ℕ} {loop : Bool} {a : List Line} {xs : List Statement} → IsDeeper fits i l loop a xs → annotated_lines (statements_of xs) ≡ of_lines a
  deeper_lines (g.deeper i l loop x a xs fit lt is) = statements_lines is

class_line_lines : {n : LineNo} {form : Form} {ds : List FieldDefinition} → IsClassLine n form ds → of_form n form ≡ []
unfolding of_form
class_line_lines (g.field n name ty) = refl
class_line_lines (g.docstring n) = refl
class_line_lines (g.pass n) = refl

fields_lines : {i : ℕ} {a : List Line} {ds : List FieldDefinition} → AreFields i a ds → of_lines a ≡ []
unfolding of_lines
fields_lines (g.no_more i) = refl
fields_lines (g.and_more i n form a ds es is fields) = ap (λ (z : List LineNo). z ++ of_lines a) (class_line_lines is) ∙ fields_lines fields

class_lines : {a : List Line} {ds : List FieldDefinition} → IsClassBlock a ds → of_lines a ≡ []
class_lines (g.deeper x a ds lt fields) = fields_lines fields

top_lines : {n : LineNo} {form : Form} {items : List ProgramItem} → IsTopLine n form items → program_annotated_lines items ≡ of_form n form ++ []
unfolding of_form
top_lines (g.import_names n name names) = refl
top_lines (g.docstring n) = refl
top_lines (g.pass n) = refl
top_lines (g.module_call n name) = refl

item_lines : {fits : ℕ → Bool} {a : List Line} {items : List ProgramItem} → IsItem fits a items → program_annotated_lines items ≡ of_lines a
unfolding of_lines
item_lines (g.alone n form items is) = top_lines is
item_lines (g.function k n name params ty behind a xs block) = append-nil (annotated_lines (statements_of xs)) ∙ block_lines block
item_lines (g.class k n name a ds block) = sym (class_lines block)

behind-append : (items others : List ProgramItem) → program_annotated_lines (items ++ others) ≡ program_annotated_lines items ++ program_annotated_lines others
behind-append [] others = refl
behind-append (Rattle.gp_tree.specs.Program.function_item x ∷ items) others = ap (λ (z : List LineNo). annotated_lines x.body ++ z) (behind-append items others) ∙ sym (append_assoc (annotated_lines x.body) (program_annotated_lines items) (program_annotated_lines others))
behind-append (Rattle.gp_tree.specs.Program.import_item x ∷ items) others = behind-append items others
behind-append (Rattle.gp_tree.specs.Program.struct_item x ∷ items) others = behind-append items others

program_lines : {fits : ℕ → Bool} {a : List Line} {items : List ProgramItem} → Nests fits a items → program_annotated_lines items ≡ of_lines a
unfolding of_lines
program_lines g.no_more = refl
program_lines (g.and_more a b items others is rest) = behind-append items others ∙ ap (λ (z : List LineNo). z ++ program_annotated_lines others) (item_lines is) ∙ ap (λ (z : List LineNo). of_lines a ++ z) (program_lines rest) ∙ sym (lines-append a b)

-- ---- numbers that rise

data AtMost (n : LineNo) (ns : List LineNo) : Type 0 where
  none : ns ≡ [] → AtMost n ns
  one : ns ≡ n ∷ [] → AtMost n ns

simple_one : (n : LineNo) (form : Form) → AtMost n (of_simple n form)
unfolding of_simple
simple_one n (f.annotated name ty value) = one refl
simple_one n _ = none refl

behind_one : (n : LineNo) (behind : MaybeForm) → AtMost n (of_behind n behind)
unfolding of_behind
behind_one n no_form = none refl
behind_one n (some_form form) = simple_one n form

form_one : (n : LineNo) (form : Form) → AtMost n (of_form n form)
unfolding of_form
form_one n (f.annotated name ty value) = one refl
form_one n (f.def_header name params ty behind) = behind_one n behind
form_one n (f.if_header test behind) = behind_one n behind
form_one n (f.elif_header test behind) = behind_one n behind
form_one n (f.while_header test behind) = behind_one n behind
form_one n (f.else_header behind) = behind_one n behind
form_one n (f.for_header name count behind) = behind_one n behind
form_one n _ = none refl

all_behind : (n : LineNo) (xs : List Line) → AllBehind n (map number_of xs) → AllBehind n (of_lines xs)
unfolding of_lines
all_behind n [] h = tt
all_behind n (x ∷ xs) h = by (of_form x.number x.form) (form_one x.number x.form) (all_behind n xs h.1)
  where
    by : (ns : List LineNo) → AtMost x.number ns → AllBehind n (of_lines xs) → AllBehind n (ns ++ of_lines xs)
    by ns (none e) k = subst (λ (z : List LineNo). AllBehind n (z ++ of_lines xs)) (sym e) k
    by ns (one e) k = subst (λ (z : List LineNo). AllBehind n (z ++ of_lines xs)) (sym e) (h.0, k)

rising : (xs : List Line) → AreRising (map number_of xs) → AreRising (of_lines xs)
unfolding of_lines
rising [] h = tt
rising (x ∷ xs) h = by (of_form x.number x.form) (form_one x.number x.form) (rising xs h.1)
  where
    by : (ns : List LineNo) → AtMost x.number ns → AreRising (of_lines xs) → AreRising (ns ++ of_lines xs)
    by ns (none e) k = subst (λ (z : List LineNo). AreRising (z ++ of_lines xs)) (sym e) k
    by ns (one e) k = subst (λ (z : List LineNo). AreRising (z ++ of_lines xs)) (sym e) (all_behind x.number xs h.0, k)

-- where the numbers of the lines rise, those of the annotated assignments do
pub annotated_rising : {fits : ℕ → Bool} {a : List Line} {items : List ProgramItem} → Nests fits a items → AreRising (map number_of a) → AreRising (program_annotated_lines items)
annotated_rising {a = a} nests h = subst (λ (z : List LineNo). AreRising z) (sym (program_lines nests)) (rising a h)
