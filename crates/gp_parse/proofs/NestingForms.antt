-- The forms that stand alone, found from the form and as the rules say them.
use Rattle.std.proofs.Common.{◌≡◌, Bool, true, false, List, Option, Some, None, refl, subst}
use Rattle.gp_base.specs.declared.name.LineNo.{LineNo}
use Rattle.gp_tree.specs.Form.{Form}
use Rattle.gp_tree.specs.Form as f
use Rattle.gp_tree.specs.Program.{FieldDefinition, ProgramItem}
use Rattle.gp_tree.specs.Statement.{Statement}
use Rattle.gp_tree.specs.Statement as s
use Rattle.gp_parse.specs.Nesting as g
use Rattle.gp_parse.specs.Nesting.{IsSimple, IsClassLine, IsTopLine}
use Rattle.gp_parse.specs.code.NestingMachine.{in_loop, simple_of, class_line_of, top_line_of}

abbrev pub some : {A : Type 0} → A → Option A
some x = Some x

some_is : {A : Type 0} (x y : A) → some x ≡ Some y → x ≡ y
some_is x y e = cc

none_some : {A : Type 0} (y : A) → ◌≡◌ {A = Option A} None (Some y) → ⊥
none_some y e = cc

pub simple_found : {loop : Bool} {n : LineNo} {form : Form} {x : Statement} → IsSimple loop n form x → simple_of loop n form ≡ Some x
simple_found (g.docstring loop n) = refl
simple_found (g.assign loop n t v) = refl
simple_found (g.annotated loop n x ty v) = refl
simple_found (g.augmented loop n p op v) = refl
simple_found (g.evaluate loop n v) = refl
simple_found (g.return_value loop n v) = refl
simple_found (g.break_loop n) = refl
simple_found (g.continue_loop n) = refl
simple_found (g.pass loop n) = refl

break_is : (loop : Bool) (n : LineNo) (x : Statement) → in_loop loop (s.break_loop n) ≡ Some x → IsSimple loop n f.break_loop x
break_is true n x e = subst (λ (z : Statement). IsSimple true n f.break_loop z) (some_is (s.break_loop n) x e) (g.break_loop n)
break_is false n x e = absurd (none_some x e)

continue_is : (loop : Bool) (n : LineNo) (x : Statement) → in_loop loop (s.continue_loop n) ≡ Some x → IsSimple loop n f.continue_loop x
continue_is true n x e = subst (λ (z : Statement). IsSimple true n f.continue_loop z) (some_is (s.continue_loop n) x e) (g.continue_loop n)
continue_is false n x e = absurd (none_some x e)

pub simple_is : (loop : Bool) (n : LineNo) (form : Form) (x : Statement) → simple_of loop n form ≡ Some x → IsSimple loop n form x
simple_is loop n f.docstring x e = subst (λ (z : Statement). IsSimple loop n f.docstring z) (some_is _ x e) (g.docstring loop n)
simple_is loop n (f.assign t v) x e = subst (λ (z : Statement). IsSimple loop n (f.assign t v) z) (some_is _ x e) (g.assign loop n t v)
simple_is loop n (f.annotated y ty v) x e = subst (λ (z : Statement). IsSimple loop n (f.annotated y ty v) z) (some_is _ x e) (g.annotated loop n y ty v)
simple_is loop n (f.augmented p op v) x e = subst (λ (z : Statement). IsSimple loop n (f.augmented p op v) z) (some_is _ x e) (g.augmented loop n p op v)
simple_is loop n (f.evaluate v) x e = subst (λ (z : Statement). IsSimple loop n (f.evaluate v) z) (some_is _ x e) (g.evaluate loop n v)
simple_is loop n (f.return_value v) x e = subst (λ (z : Statement). IsSimple loop n (f.return_value v) z) (some_is _ x e) (g.return_value loop n v)
simple_is loop n f.break_loop x e = break_is loop n x e
simple_is loop n f.continue_loop x e = continue_is loop n x e
simple_is loop n f.pass x e = subst (λ (z : Statement). IsSimple loop n f.pass z) (some_is _ x e) (g.pass loop n)
simple_is loop n _ x e = absurd (none_some x e)

pub class_line_found : {n : LineNo} {form : Form} {ds : List FieldDefinition} → IsClassLine n form ds → class_line_of n form ≡ Some ds
class_line_found (g.field n name ty) = refl
class_line_found (g.docstring n) = refl
class_line_found (g.pass n) = refl

pub class_line_is : (n : LineNo) (form : Form) (ds : List FieldDefinition) → class_line_of n form ≡ Some ds → IsClassLine n form ds
class_line_is n (f.field name ty) ds e = subst (λ (z : List FieldDefinition). IsClassLine n (f.field name ty) z) (some_is _ ds e) (g.field n name ty)
class_line_is n f.docstring ds e = subst (λ (z : List FieldDefinition). IsClassLine n f.docstring z) (some_is _ ds e) (g.docstring n)
class_line_is n f.pass ds e = subst (λ (z : List FieldDefinition). IsClassLine n f.pass z) (some_is _ ds e) (g.pass n)
class_line_is n _ ds e = absurd (none_some ds e)

pub top_line_found : {n : LineNo} {form : Form} {items : List ProgramItem} → IsTopLine n form items → top_line_of n form ≡ Some items
top_line_found (g.import_names n name names) = refl
top_line_found (g.docstring n) = refl
top_line_found (g.pass n) = refl
top_line_found (g.module_call n name) = refl

pub top_line_is : (n : LineNo) (form : Form) (items : List ProgramItem) → top_line_of n form ≡ Some items → IsTopLine n form items
top_line_is n (f.import_names name names) items e = subst (λ (z : List ProgramItem). IsTopLine n (f.import_names name names) z) (some_is _ items e) (g.import_names n name names)
top_line_is n f.docstring items e = subst (λ (z : List ProgramItem). IsTopLine n f.docstring z) (some_is _ items e) (g.docstring n)
top_line_is n f.pass items e = subst (λ (z : List ProgramItem). IsTopLine n f.pass z) (some_is _ items e) (g.pass n)
top_line_is n (f.module_call name) items e = subst (λ (z : List ProgramItem). IsTopLine n (f.module_call name) z) (some_is _ items e) (g.module_call n name)
top_line_is n _ items e = absurd (none_some items e)
