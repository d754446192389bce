-- Statements and blocks step by step.
use Rattle.std.proofs.Common.{◌≡◌, ◌≢◌, ℕ, suc, ◌+◌, ◌<◌, ◌≤◌, not, List, length, drop, get_or, drop-cons, add-one, Option, Some, None, Result, Ok, Err, sym, ap, subst, ◌∙◌}
use Rattle.std.proofs.lemmas.List.{drop_all}
use Rattle.std.specs.Result.{IsErrAnd}
use Rattle.std.specs.Prelude.{Vec}
use Rattle.std.specs.declared.alloc.Global.{Global}
use Rattle.gp_base.specs.declared.name.LineNo.{LineNo}
use Rattle.gp_tree.specs.declared.expr.Expr.{Expr}
use Rattle.gp_tree.specs.declared.place.Targets.{Targets}
use Rattle.gp_tree.specs.declared.type_expr.TypeExpr.{TypeExpr}
use Rattle.gp_tree.specs.declared.stmt.Stmt.{Stmt}
use Rattle.gp_tree.specs.declared.stmt.Stmt.TheFolds.{fold-roll-Stmt}
use Rattle.gp_tree.specs.declared.stmt.Stmt.TheOpen.{Stmt-F}
use Rattle.gp_tree.specs.declared.stmt.Stmt.TheVariants as variants
use Rattle.gp_tree.specs.Expression.{Expression, expression}
use Rattle.gp_tree.specs.Statement as stmt
use Rattle.gp_tree.specs.Statement.{Statement, Statements, statement, statements, statement_step}
use Rattle.gp_tree.specs.TypeExpression.{type_expression}
use Rattle.gp_types.specs.Signature.{signature_view}
use Rattle.gp_types.specs.Types as types
use Rattle.gp_typing.specs.declared.fault.TypeFault.{TypeFault}
use Rattle.gp_typing.specs.declared.fault.TypeFault.TheVariants.{Memory, Unreachable, BorrowedAssigned}
use Rattle.gp_typing.specs.declared.frame.Frame as declared_frame
use Rattle.gp_typing.specs.Checks.{Checked, ◌>>=◌, found, Answers}
use Rattle.gp_locals.specs.Environment.{Environment, NameType, put, usable}
use Rattle.gp_typing.specs.Functions.{is_borrowed_among}
use Rattle.gp_typing.specs.code.Pieces.{tested, counted, named, ended_annotated, ended_if, ended_while, ended_for, ended_next, continued}
use Rattle.gp_typing.specs.code.Compound.{if_in, while_in, for_in, next_in}
use Rattle.gp_typing.specs.Statements.{StatementTyping, BlockTyping, line_of}
use Rattle.gp_typing.specs.code.StatementView.{block_in, frame_view, known_for, statement_in, value_in}
use Rattle.gp_typing.specs.Typed.{TypedExpression}
use Rattle.gp_typing.proofs.Blocks.{next-goes, nothing-goes, tested-goes, counted-goes, annotated-goes}

-- ---- exits

pub error_exit : {A B : Type 0} (view : A → B) (r : Result A TypeFault) (m : Checked B) (f : TypeFault) → IsErrAnd r (λ y. y ≡ f) → (f ≢ Memory → m ≡ Err f) → Answers view r m
error_exit view (Ok a) m f e h = absurd e
error_exit view (Err y) m f e h = λ n. h (subst (λ z. z ≢ Memory) e n) ∙ ap (λ z. Err z) (sym e)

pub memory_exit : {A B : Type 0} (view : A → B) (r : Result A TypeFault) (m : Checked B) → IsErrAnd r (λ y. y ≡ Memory) → Answers view r m
memory_exit view (Ok a) m e = absurd e
memory_exit view (Err y) m e = λ n. absurd (n e)

pub last_call : {A B : Type 0} (view : A → B) (r : Result A TypeFault) (m n : Checked B) → m ≡ n → Answers view r n → Answers view r m
last_call view r m n e h = subst (λ z. Answers view r z) (sym e) h

pub at_err : {A B : Type 0} (m : Checked A) (k : A → Checked B) (f : TypeFault) → m ≡ Err f → (m >>= k) ≡ Err f
at_err m k f e = ap (λ z. z >>= k) e

pub at_ok : {A B : Type 0} (m : Checked A) (k : A → Checked B) (a : A) → m ≡ Ok a → (m >>= k) ≡ k a
at_ok m k a e = ap (λ z. z >>= k) e

-- ---- the statements of each kind

module _ (frame : declared_frame.Frame) (e : Environment) (s : Stmt) (line : LineNo) where
  pub as_assign : (ts : Targets) (value : Expr) → s ≡ variants.Assign line ts value
      → statement_in frame e (statement s) ≡ statement_in frame e (stmt.assign line ts (expression value))
  as_assign ts value is = ap (λ (x : Stmt). statement_in frame e (statement x)) (is ∙ sym (variants.rolls-Assign line ts value)) ∙ ap (λ (x : Statement). statement_in frame e x) (fold-roll-Stmt Statement statement_step (Stmt-F.Assign line ts value))

  pub as_annotated : (name : List ℕ) (ty : TypeExpr) (value : Expr) → s ≡ variants.Annotated line name ty value
      → statement_in frame e (statement s) ≡ ended_annotated (known_for frame) (frame_view frame) e line name (type_expression ty) (value_in frame e line (expression value))
  as_annotated name ty value is = ap (λ (x : Stmt). statement_in frame e (statement x)) (is ∙ sym (variants.rolls-Annotated line name ty value)) ∙ ap (λ (x : Statement). statement_in frame e x) (fold-roll-Stmt Statement statement_step (Stmt-F.Annotated line name ty value)) ∙ annotated-goes (known_for frame) (frame_view frame) e line name (type_expression ty) (expression value)

  pub as_evaluate : (value : Expr) → s ≡ variants.Evaluate line value
      → statement_in frame e (statement s) ≡ statement_in frame e (stmt.evaluate line (expression value))
  as_evaluate value is = ap (λ (x : Stmt). statement_in frame e (statement x)) (is ∙ sym (variants.rolls-Evaluate line value)) ∙ ap (λ (x : Statement). statement_in frame e x) (fold-roll-Stmt Statement statement_step (Stmt-F.Evaluate line value))

  pub as_if : (test : Expr) (body other : Vec Stmt Global) → s ≡ variants.If line test body other
      → (b o : List Stmt) → b ≡ body.items → o ≡ other.items
      → statement_in frame e (statement s) ≡ if_in frame e line (expression test) (statements b) (statements o)
  as_if test body other is b o as_body as_other = ap (λ (x : Stmt). statement_in frame e (statement x)) (is ∙ sym (variants.rolls-If line test body other)) ∙ ap (λ (x : Statement). statement_in frame e x) (fold-roll-Stmt Statement statement_step (Stmt-F.If line test body other))
      ∙ tested-goes (value_in frame e line (expression test)) line (λ t. block_in frame (Some e) (statements body.items) >>= λ x. block_in frame (Some e) (statements other.items) >>= λ y. ended_if line t x y)
      ∙ ap (λ (ss : List Stmt). if_in frame e line (expression test) (statements ss) (statements other.items)) (sym as_body)
      ∙ ap (λ (ss : List Stmt). if_in frame e line (expression test) (statements b) (statements ss)) (sym as_other)

  pub as_while : (test : Expr) (body : Vec Stmt Global) → s ≡ variants.While line test body → (b : List Stmt) → b ≡ body.items
      → statement_in frame e (statement s) ≡ while_in frame e line (expression test) (statements b)
  as_while test body is b as_body = ap (λ (x : Stmt). statement_in frame e (statement x)) (is ∙ sym (variants.rolls-While line test body)) ∙ ap (λ (x : Statement). statement_in frame e x) (fold-roll-Stmt Statement statement_step (Stmt-F.While line test body))
      ∙ tested-goes (value_in frame e line (expression test)) line (λ t. block_in frame (Some e) (statements body.items) >>= λ b. ended_while line (expression test) t e b)
      ∙ ap (λ (ss : List Stmt). while_in frame e line (expression test) (statements ss)) (sym as_body)

  pub as_for : (name : List ℕ) (count : Expr) (body : Vec Stmt Global) → s ≡ variants.For line name count body → (b : List Stmt) → b ≡ body.items
      → statement_in frame e (statement s) ≡ for_in frame e line name (expression count) (statements b)
  as_for name count body is b as_body = ap (λ (x : Stmt). statement_in frame e (statement x)) (is ∙ sym (variants.rolls-For line name count body)) ∙ ap (λ (x : Statement). statement_in frame e x) (fold-roll-Stmt Statement statement_step (Stmt-F.For line name count body))
      ∙ counted-goes (value_in frame e line (expression count)) line (not (is_borrowed_among (signature_view frame.signature.now).params name)) (BorrowedAssigned line) (put frame.names.now e name types.Int)
      (λ n i. block_in frame (Some i) (statements body.items) >>= λ b. ended_for line name n e b)
      ∙ ap (λ (ss : List Stmt). for_in frame e line name (expression count) (statements ss)) (sym as_body)

-- ---- compound statements

block_at : (frame : declared_frame.Frame) (e i : Environment) (block : Statements) (m : Checked BlockTyping) → i ≡ e
    → block_in frame (Some i) block ≡ m → block_in frame (Some e) block ≡ m
block_at frame e i block m same h = ap (λ (e : Environment). block_in frame (Some e) block) (sym same) ∙ h

module _ (frame : declared_frame.Frame) (e : Environment) (line : LineNo) where
  module _ (test : Expression) (body other : Statements) (t : TypedExpression) (at_test : tested line (value_in frame e line test) ≡ Ok t)
      (i : Environment) (same : i ≡ e) where
    if_tested : if_in frame e line test body other ≡ (block_in frame (Some e) body >>= λ x. block_in frame (Some e) other >>= λ y. ended_if line t x y)
    if_tested = at_ok (tested line (value_in frame e line test))
        (λ t. block_in frame (Some e) body >>= λ x. block_in frame (Some e) other >>= λ y. ended_if line t x y) t at_test

    pub if_err_body : (f : TypeFault) → block_in frame (Some i) body ≡ Err f → if_in frame e line test body other ≡ Err f
    if_err_body f h = if_tested
        ∙ at_err (block_in frame (Some e) body) (λ x. block_in frame (Some e) other >>= λ y. ended_if line t x y) f (block_at frame e i body (Err f) same h)

    module _ (x : BlockTyping) (at_body : block_in frame (Some i) body ≡ Ok x) where
      if_entered : if_in frame e line test body other ≡ (block_in frame (Some e) other >>= λ y. ended_if line t x y)
      if_entered = if_tested
          ∙ at_ok (block_in frame (Some e) body) (λ x. block_in frame (Some e) other >>= λ y. ended_if line t x y) x (block_at frame e i body (Ok x) same at_body)

      pub if_err_other : (f : TypeFault) → block_in frame (Some e) other ≡ Err f → if_in frame e line test body other ≡ Err f
      if_err_other f h = if_entered ∙ at_err (block_in frame (Some e) other) (λ y. ended_if line t x y) f h

      pub if_ok : (y : BlockTyping) → block_in frame (Some e) other ≡ Ok y → if_in frame e line test body other ≡ ended_if line t x y
      if_ok y h = if_entered ∙ at_ok (block_in frame (Some e) other) (λ y. ended_if line t x y) y h

  module _ (test : Expression) (body : Statements) (t : TypedExpression) (at_test : tested line (value_in frame e line test) ≡ Ok t)
      (i : Environment) (same : i ≡ e) where
    while_tested : while_in frame e line test body ≡ (block_in frame (Some e) body >>= λ b. ended_while line test t e b)
    while_tested = at_ok (tested line (value_in frame e line test)) (λ t. block_in frame (Some e) body >>= λ b. ended_while line test t e b) t at_test

    pub while_err_body : (f : TypeFault) → block_in frame (Some i) body ≡ Err f → while_in frame e line test body ≡ Err f
    while_err_body f h = while_tested
        ∙ at_err (block_in frame (Some e) body) (λ b. ended_while line test t e b) f (block_at frame e i body (Err f) same h)

    pub while_ok : (b : BlockTyping) → block_in frame (Some i) body ≡ Ok b → while_in frame e line test body ≡ ended_while line test t e b
    while_ok b h = while_tested
        ∙ at_ok (block_in frame (Some e) body) (λ b. ended_while line test t e b) b (block_at frame e i body (Ok b) same h)

  module _ (name : List ℕ) (count : Expression) (body : Statements) (n : TypedExpression) (at_count : counted line (value_in frame e line count) ≡ Ok n) where
    for_counted : for_in frame e line name count body
        ≡ (named (frame_view frame) e line name types.Int >>= λ i. block_in frame (Some i) body >>= λ b. ended_for line name n e b)
    for_counted = at_ok (counted line (value_in frame e line count))
        (λ n. named (frame_view frame) e line name types.Int >>= λ i. block_in frame (Some i) body >>= λ b. ended_for line name n e b) n at_count

    pub for_err_name : (f : TypeFault) → named (frame_view frame) e line name types.Int ≡ Err f → for_in frame e line name count body ≡ Err f
    for_err_name f h = for_counted
        ∙ at_err (named (frame_view frame) e line name types.Int) (λ i. block_in frame (Some i) body >>= λ b. ended_for line name n e b) f h

    module _ (i : Environment) (at_name : named (frame_view frame) e line name types.Int ≡ Ok i) where
      for_named : for_in frame e line name count body ≡ (block_in frame (Some i) body >>= λ b. ended_for line name n e b)
      for_named = for_counted
          ∙ at_ok (named (frame_view frame) e line name types.Int) (λ i. block_in frame (Some i) body >>= λ b. ended_for line name n e b) i at_name

      pub for_err_body : (f : TypeFault) → block_in frame (Some i) body ≡ Err f → for_in frame e line name count body ≡ Err f
      for_err_body f h = for_named ∙ at_err (block_in frame (Some i) body) (λ b. ended_for line name n e b) f h

      pub for_ok : (b : BlockTyping) → block_in frame (Some i) body ≡ Ok b → for_in frame e line name count body ≡ ended_for line name n e b
      for_ok b h = for_named ∙ at_ok (block_in frame (Some i) body) (λ b. ended_for line name n e b) b h

-- ---- a statement behind a block

module _ (frame : declared_frame.Frame) (b : BlockTyping) (s : Statement) where
  rest : Environment → Checked BlockTyping
  rest e = statement_in frame e s >>= λ x. ended_next (line_of s) b (usable frame.names.now e) x

  pub next_none : b.ends.next ≡ None → next_in frame b s ≡ Err (Unreachable (line_of s))
  unfolding rest
  next_none h = ap (λ (n : Option Environment). found n (Unreachable (line_of s)) >>= rest) h

  module _ (e : Environment) (next : b.ends.next ≡ Some e) where
    at_next : next_in frame b s ≡ rest e
    unfolding rest
    at_next = ap (λ (n : Option Environment). found n (Unreachable (line_of s)) >>= rest) next

    pub next_err : (f : TypeFault) → statement_in frame e s ≡ Err f → next_in frame b s ≡ Err f
    unfolding rest
    next_err f h = at_next ∙ at_err (statement_in frame e s) (λ x. ended_next (line_of s) b (usable frame.names.now e) x) f h

    pub next_last : (x : StatementTyping) → statement_in frame e s ≡ Ok x → (line : LineNo) → line ≡ line_of s
        → (before : List NameType) → before ≡ usable frame.names.now e → next_in frame b s ≡ ended_next line b before x
    unfolding rest
    next_last x h line its_line before is_before = at_next
        ∙ at_ok (statement_in frame e s) (λ x. ended_next (line_of s) b (usable frame.names.now e) x) x h
        ∙ ap (λ (l : LineNo). ended_next l b (usable frame.names.now e) x) (sym its_line)
        ∙ ap (λ (ns : List NameType). ended_next line b ns x) (sym is_before)

-- ---- the loop over a block: what is left behind this one answers `m`

first_of : (block : List Stmt) (i : ℕ) (item : Stmt) → i < length block → item ≡ get_or block i item
    → statements (drop i block) ≡ stmt.with_statement (statement item) (statements (drop (i + 1) block))
first_of block i item h is =
    ap statements (drop-cons block i item h)
    ∙ ap (λ (x : Stmt). stmt.with_statement (statement x) (statements (drop (suc i) block))) (sym is)
    ∙ ap (λ (k : ℕ). stmt.with_statement (statement item) (statements (drop k block))) (sym (add-one i))

module _ (frame : declared_frame.Frame) (block : List Stmt) (b : BlockTyping) (m : Checked BlockTyping) (index : ℕ)
    (so_far : continued (known_for frame) (frame_view frame) b (statements (drop index block)) ≡ m) where
  pub block_ends : length block ≤ index → m ≡ Ok b
  block_ends h = sym so_far
      ∙ ap (λ (ss : List Stmt). continued (known_for frame) (frame_view frame) b (statements ss)) (drop_all index block h)
      ∙ nothing-goes (known_for frame) (frame_view frame) b

  module _ (item : Stmt) (h : index < length block) (is : item ≡ get_or block index item) where
    at_item : m ≡ (next_in frame b (statement item) >>= λ c. continued (known_for frame) (frame_view frame) c (statements (drop (index + 1) block)))
    at_item = sym so_far ∙ ap (λ (ss : Statements). continued (known_for frame) (frame_view frame) b ss) (first_of block index item h is)
        ∙ next-goes (known_for frame) (frame_view frame) b (statement item) (statements (drop (index + 1) block))

    pub block_err : (f : TypeFault) → next_in frame b (statement item) ≡ Err f → m ≡ Err f
    block_err f k = at_item
        ∙ at_err (next_in frame b (statement item)) (λ c. continued (known_for frame) (frame_view frame) c (statements (drop (index + 1) block))) f k

    pub block_more : (c : BlockTyping) → next_in frame b (statement item) ≡ Ok c
        → continued (known_for frame) (frame_view frame) c (statements (drop (index + 1) block)) ≡ m
    block_more c k = sym (at_item
        ∙ at_ok (next_in frame b (statement item)) (λ c. continued (known_for frame) (frame_view frame) c (statements (drop (index + 1) block))) c k)
