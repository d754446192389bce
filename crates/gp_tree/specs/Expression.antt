-- Expressions as plain data, and the data that an expression in memory is.
use Rattle.std.specs.Prelude.{ℕ, ℤ, Bool, List, [], ◌∷◌, map, Option, Some, None}
use Rattle.gp_tree.specs.declared.expr.BinOp.{BinOp}
use Rattle.gp_tree.specs.declared.expr.Expr.{Expr, fold-Expr}
use Rattle.gp_tree.specs.declared.expr.Expr.TheOpen.{Expr-F}
use Rattle.gp_tree.specs.declared.place.Place.{Place}

mutual
  -- an expression; names and texts are their bytes
  pub data Expression : Type 0 where
    number : ℤ → Expression
    boolean : Bool → Expression
    text : List ℕ → Expression
    place : Place → Expression
    -- a minus sign before the operand
    minus : Expression → Expression
    -- `not` before the operand
    negation : Expression → Expression
    binary : BinOp → Expression → Expression → Expression
    -- left `and` right
    both : Expression → Expression → Expression
    -- left `or` right
    either : Expression → Expression → Expression
    -- the test, the value where it is true, and the other value
    choice : Expression → Expression → Expression → Expression
    tuple : Expressions → Expression
    -- the name that is called, and the arguments
    call : List ℕ → Expressions → Expression

  pub data Expressions : Type 0 where
    no_expressions : Expressions
    with_expression : Expression → Expressions → Expressions

abbrev pub expressions_of : List Expression → Expressions
expressions_of [] = no_expressions
expressions_of (e ∷ es) = with_expression e (expressions_of es)

-- one level, with each expression inside already seen as plain data
abbrev pub expression_step : Expr-F Expression → Expression
expression_step (Expr-F.Int n) = number n
expression_step (Expr-F.Bool b) = boolean b
expression_step (Expr-F.Text t) = text t
expression_step (Expr-F.Place p) = place p
expression_step (Expr-F.Neg a) = minus a.value
expression_step (Expr-F.Not a) = negation a.value
expression_step (Expr-F.Binary op a b) = binary op a.value b.value
expression_step (Expr-F.And a b) = both a.value b.value
expression_step (Expr-F.Or a b) = either a.value b.value
expression_step (Expr-F.Choice c a b) = choice c.value a.value b.value
expression_step (Expr-F.Tuple es) = tuple (expressions_of es.items)
expression_step (Expr-F.Call f es) = call f (expressions_of es.items)

-- an expression in memory as plain data
abbrev pub expression : Expr → Expression
expression = fold-Expr Expression expression_step

abbrev pub expressions : List Expr → Expressions
expressions es = expressions_of (map expression es)

abbrev pub maybe_expression : Option Expr → Option Expression
maybe_expression None = None
maybe_expression (Some e) = Some (expression e)
