-- Expressions and statements in memory, one level seen.
use Rattle.std.proofs.Common.{◌≡◌, ℕ, ℤ, Bool, List, Option, ap, sym, ◌∙◌}
use Rattle.std.specs.declared.alloc.Global.{Global}
use Rattle.std.specs.declared.boxed.Box.{Box}
use Rattle.std.specs.declared.vec.Vec.{Vec}
use Rattle.gp_base.specs.declared.name.LineNo.{LineNo}
use Rattle.gp_tree.specs.declared.expr.BinOp.{BinOp}
use Rattle.gp_tree.specs.declared.expr.Expr.{Expr}
use Rattle.gp_tree.specs.declared.expr.Expr.TheFolds.{fold-roll-Expr}
use Rattle.gp_tree.specs.declared.expr.Expr.TheOpen.{Expr-F}
use Rattle.gp_tree.specs.declared.expr.Expr.TheVariants as variants
use Rattle.gp_tree.specs.declared.place.Place.{Place}
use Rattle.gp_tree.specs.declared.place.Targets.{Targets}
use Rattle.gp_tree.specs.declared.stmt.Stmt.{Stmt}
use Rattle.gp_tree.specs.declared.stmt.Stmt.TheFolds.{fold-roll-Stmt}
use Rattle.gp_tree.specs.declared.stmt.Stmt.TheOpen.{Stmt-F}
use Rattle.gp_tree.specs.declared.stmt.Stmt.TheVariants as stmts
use Rattle.gp_tree.specs.declared.type_expr.TypeExpr.{TypeExpr}
use Rattle.gp_tree.specs.Expression as expr
use Rattle.gp_tree.specs.Expression.{Expression, expression, expression_step, expressions, maybe_expression}
use Rattle.gp_tree.specs.Statement as stmt
use Rattle.gp_tree.specs.Statement.{Statement, statement, statement_step, statements}
use Rattle.gp_tree.specs.TypeExpression.{type_expression}

pub as_number : (e : Expr) (n : ℤ) → e ≡ variants.Int n → expression e ≡ expr.number n
as_number e n is = ap expression (is ∙ sym (variants.rolls-Int n)) ∙ fold-roll-Expr Expression expression_step (Expr-F.Int n)

pub as_boolean : (e : Expr) (b : Bool) → e ≡ variants.Bool b → expression e ≡ expr.boolean b
as_boolean e b is = ap expression (is ∙ sym (variants.rolls-Bool b)) ∙ fold-roll-Expr Expression expression_step (Expr-F.Bool b)

pub as_text : (e : Expr) (t : List ℕ) → e ≡ variants.Text t → expression e ≡ expr.text t
as_text e t is = ap expression (is ∙ sym (variants.rolls-Text t)) ∙ fold-roll-Expr Expression expression_step (Expr-F.Text t)

pub as_place : (e : Expr) (p : Place) → e ≡ variants.Place p → expression e ≡ expr.place p
as_place e p is = ap expression (is ∙ sym (variants.rolls-Place p)) ∙ fold-roll-Expr Expression expression_step (Expr-F.Place p)

pub as_minus : (e : Expr) (a : Box Expr Global) → e ≡ variants.Neg a → expression e ≡ expr.minus (expression a.value)
as_minus e a is = ap expression (is ∙ sym (variants.rolls-Neg a)) ∙ fold-roll-Expr Expression expression_step (Expr-F.Neg a)

pub as_negation : (e : Expr) (a : Box Expr Global) → e ≡ variants.Not a → expression e ≡ expr.negation (expression a.value)
as_negation e a is = ap expression (is ∙ sym (variants.rolls-Not a)) ∙ fold-roll-Expr Expression expression_step (Expr-F.Not a)

pub as_binary : (e : Expr) (o : BinOp) (a b : Box Expr Global) → e ≡ variants.Binary o a b → expression e ≡ expr.binary o (expression a.value) (expression b.value)
as_binary e o a b is = ap expression (is ∙ sym (variants.rolls-Binary o a b)) ∙ fold-roll-Expr Expression expression_step (Expr-F.Binary o a b)

pub as_both : (e : Expr) (a b : Box Expr Global) → e ≡ variants.And a b → expression e ≡ expr.both (expression a.value) (expression b.value)
as_both e a b is = ap expression (is ∙ sym (variants.rolls-And a b)) ∙ fold-roll-Expr Expression expression_step (Expr-F.And a b)

pub as_either : (e : Expr) (a b : Box Expr Global) → e ≡ variants.Or a b → expression e ≡ expr.either (expression a.value) (expression b.value)
as_either e a b is = ap expression (is ∙ sym (variants.rolls-Or a b)) ∙ fold-roll-Expr Expression expression_step (Expr-F.Or a b)

pub as_choice : (e : Expr) (c a b : Box Expr Global) → e ≡ variants.Choice c a b → expression e ≡ expr.choice (expression c.value) (expression a.value) (expression b.value)
as_choice e c a b is = ap expression (is ∙ sym (variants.rolls-Choice c a b)) ∙ fold-roll-Expr Expression expression_step (Expr-F.Choice c a b)

pub as_tuple : (e : Expr) (es : Vec Expr Global) → e ≡ variants.Tuple es → expression e ≡ expr.tuple (expressions es.items)
as_tuple e es is = ap expression (is ∙ sym (variants.rolls-Tuple es)) ∙ fold-roll-Expr Expression expression_step (Expr-F.Tuple es)

pub as_call : (e : Expr) (name : List ℕ) (es : Vec Expr Global) → e ≡ variants.Call name es → expression e ≡ expr.call name (expressions es.items)
as_call e name es is = ap expression (is ∙ sym (variants.rolls-Call name es)) ∙ fold-roll-Expr Expression expression_step (Expr-F.Call name es)

pub as_assign : (s : Stmt) (line : LineNo) (ts : Targets) (e : Expr) → s ≡ stmts.Assign line ts e → statement s ≡ stmt.assign line ts (expression e)
as_assign s line ts e is = ap statement (is ∙ sym (stmts.rolls-Assign line ts e)) ∙ fold-roll-Stmt Statement statement_step (Stmt-F.Assign line ts e)

pub as_annotated : (s : Stmt) (line : LineNo) (name : List ℕ) (ty : TypeExpr) (e : Expr) → s ≡ stmts.Annotated line name ty e → statement s ≡ stmt.annotated line name (type_expression ty) (expression e)
as_annotated s line name ty e is = ap statement (is ∙ sym (stmts.rolls-Annotated line name ty e)) ∙ fold-roll-Stmt Statement statement_step (Stmt-F.Annotated line name ty e)

pub as_evaluate : (s : Stmt) (line : LineNo) (e : Expr) → s ≡ stmts.Evaluate line e → statement s ≡ stmt.evaluate line (expression e)
as_evaluate s line e is = ap statement (is ∙ sym (stmts.rolls-Evaluate line e)) ∙ fold-roll-Stmt Statement statement_step (Stmt-F.Evaluate line e)

pub as_return : (s : Stmt) (line : LineNo) (e : Option Expr) → s ≡ stmts.Return line e → statement s ≡ stmt.return_value line (maybe_expression e)
as_return s line e is = ap statement (is ∙ sym (stmts.rolls-Return line e)) ∙ fold-roll-Stmt Statement statement_step (Stmt-F.Return line e)

pub as_if : (s : Stmt) (line : LineNo) (c : Expr) (body other : Vec Stmt Global) → s ≡ stmts.If line c body other
    → statement s ≡ stmt.if_else line (expression c) (statements body.items) (statements other.items)
as_if s line c body other is = ap statement (is ∙ sym (stmts.rolls-If line c body other)) ∙ fold-roll-Stmt Statement statement_step (Stmt-F.If line c body other)

pub as_while : (s : Stmt) (line : LineNo) (c : Expr) (body : Vec Stmt Global) → s ≡ stmts.While line c body → statement s ≡ stmt.while_loop line (expression c) (statements body.items)
as_while s line c body is = ap statement (is ∙ sym (stmts.rolls-While line c body)) ∙ fold-roll-Stmt Statement statement_step (Stmt-F.While line c body)

pub as_for : (s : Stmt) (line : LineNo) (name : List ℕ) (e : Expr) (body : Vec Stmt Global) → s ≡ stmts.For line name e body
    → statement s ≡ stmt.for_loop line name (expression e) (statements body.items)
as_for s line name e body is = ap statement (is ∙ sym (stmts.rolls-For line name e body)) ∙ fold-roll-Stmt Statement statement_step (Stmt-F.For line name e body)

pub as_break : (s : Stmt) (line : LineNo) → s ≡ stmts.Break line → statement s ≡ stmt.break_loop line
as_break s line is = ap statement (is ∙ sym (stmts.rolls-Break line)) ∙ fold-roll-Stmt Statement statement_step (Stmt-F.Break line)

pub as_continue : (s : Stmt) (line : LineNo) → s ≡ stmts.Continue line → statement s ≡ stmt.continue_loop line
as_continue s line is = ap statement (is ∙ sym (stmts.rolls-Continue line)) ∙ fold-roll-Stmt Statement statement_step (Stmt-F.Continue line)

pub as_pass : (s : Stmt) (line : LineNo) → s ≡ stmts.Pass line → statement s ≡ stmt.pass line
as_pass s line is = ap statement (is ∙ sym (stmts.rolls-Pass line)) ∙ fold-roll-Stmt Statement statement_step (Stmt-F.Pass line)
