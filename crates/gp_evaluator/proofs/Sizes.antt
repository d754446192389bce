-- The parts of a form of text in memory are smaller.
use Rattle.std.proofs.Common.{◌≡◌, ℕ, ◌+◌, ◌<◌, ◌≤◌, List, Option, Some, ap, arith}
use Rattle.std.specs.declared.alloc.Global.{Global}
use Rattle.std.specs.declared.boxed.Box.{Box}
use Rattle.std.specs.declared.vec.Vec.{Vec}
use Rattle.gp_base.specs.declared.name.LineNo.{LineNo}
use Rattle.gp_tree.specs.declared.expr.BinOp.{BinOp}
use Rattle.gp_tree.specs.declared.expr.Expr.{Expr}
use Rattle.gp_tree.specs.declared.expr.Expr.TheVariants as variants
use Rattle.gp_tree.specs.declared.place.Targets.{Targets}
use Rattle.gp_tree.specs.declared.stmt.Stmt.{Stmt}
use Rattle.gp_tree.specs.declared.stmt.Stmt.TheVariants as stmts
use Rattle.gp_tree.specs.declared.type_expr.TypeExpr.{TypeExpr}
use Rattle.gp_tree.specs.Expression.{expression, expressions, maybe_expression}
use Rattle.gp_tree.specs.Statement.{statement, statements}
use Rattle.gp_evaluator.proofs.Falls.{expression_size, row_size, statement_size, block_size, returned_size}
use Rattle.gp_evaluator.proofs.Texts.{as_minus, as_negation, as_binary, as_both, as_either, as_choice, as_tuple, as_call, as_assign, as_annotated, as_evaluate, as_return, as_if, as_while, as_for}

abbrev pub size : Expr → ℕ
size e = expression_size (expression e)

abbrev pub within : Expr → Expr → Type 0
within x e = size x + 3 ≤ size e

same_size : (x y : Expr) → x ≡ y → size x ≡ size y
same_size x y e = ap (λ (z : Expr). size z) e

module _ (e x : Expr) where
  pub minus_part : (a : Box Expr Global) → e ≡ variants.Neg a → x ≡ a.value → within x e
  minus_part a is at = let h = ap expression_size (as_minus e a is) in let g = same_size x a.value at in omega (arith, h, g)

  pub negation_part : (a : Box Expr Global) → e ≡ variants.Not a → x ≡ a.value → within x e
  negation_part a is at = let h = ap expression_size (as_negation e a is) in let g = same_size x a.value at in omega (arith, h, g)

  pub binary_left : (o : BinOp) (a b : Box Expr Global) → e ≡ variants.Binary o a b → x ≡ a.value → within x e
  binary_left o a b is at = let h = ap expression_size (as_binary e o a b is) in let g = same_size x a.value at in omega (arith, h, g)

  pub binary_right : (o : BinOp) (a b : Box Expr Global) → e ≡ variants.Binary o a b → x ≡ b.value → within x e
  binary_right o a b is at = let h = ap expression_size (as_binary e o a b is) in let g = same_size x b.value at in omega (arith, h, g)

  pub both_left : (a b : Box Expr Global) → e ≡ variants.And a b → x ≡ a.value → within x e
  both_left a b is at = let h = ap expression_size (as_both e a b is) in let g = same_size x a.value at in omega (arith, h, g)

  pub both_right : (a b : Box Expr Global) → e ≡ variants.And a b → x ≡ b.value → within x e
  both_right a b is at = let h = ap expression_size (as_both e a b is) in let g = same_size x b.value at in omega (arith, h, g)

  pub either_left : (a b : Box Expr Global) → e ≡ variants.Or a b → x ≡ a.value → within x e
  either_left a b is at = let h = ap expression_size (as_either e a b is) in let g = same_size x a.value at in omega (arith, h, g)

  pub either_right : (a b : Box Expr Global) → e ≡ variants.Or a b → x ≡ b.value → within x e
  either_right a b is at = let h = ap expression_size (as_either e a b is) in let g = same_size x b.value at in omega (arith, h, g)

  pub choice_test : (c a b : Box Expr Global) → e ≡ variants.Choice c a b → x ≡ c.value → within x e
  choice_test c a b is at = let h = ap expression_size (as_choice e c a b is) in let g = same_size x c.value at in omega (arith, h, g)

  pub choice_value : (c a b : Box Expr Global) → e ≡ variants.Choice c a b → x ≡ a.value → within x e
  choice_value c a b is at = let h = ap expression_size (as_choice e c a b is) in let g = same_size x a.value at in omega (arith, h, g)

  pub choice_other : (c a b : Box Expr Global) → e ≡ variants.Choice c a b → x ≡ b.value → within x e
  choice_other c a b is at = let h = ap expression_size (as_choice e c a b is) in let g = same_size x b.value at in omega (arith, h, g)

module _ (e : Expr) (xs : List Expr) where
  pub tuple_parts : (es : Vec Expr Global) → e ≡ variants.Tuple es → xs ≡ es.items → row_size (expressions xs) + 1 ≤ size e
  tuple_parts es is at =
      let h = ap expression_size (as_tuple e es is) in
      let g : row_size (expressions xs) ≡ row_size (expressions es.items) = ap (λ (z : List Expr). row_size (expressions z)) at in
      omega (arith, h, g)

  pub call_parts : (name : List ℕ) (es : Vec Expr Global) → e ≡ variants.Call name es → xs ≡ es.items → row_size (expressions xs) + 2 ≤ size e
  call_parts name es is at =
      let h = ap expression_size (as_call e name es is) in
      let g : row_size (expressions xs) ≡ row_size (expressions es.items) = ap (λ (z : List Expr). row_size (expressions z)) at in
      omega (arith, h, g)

same_block : (b : List Stmt) (body : Vec Stmt Global) → b ≡ body.items → block_size (statements b) ≡ block_size (statements body.items)
same_block b body e = ap (λ (z : List Stmt). block_size (statements z)) e

module _ (x : Stmt) (line : LineNo) where
  pub assign_part : (ts : Targets) (e : Expr) → x ≡ stmts.Assign line ts e → size e + 3 ≤ statement_size (statement x)
  assign_part ts e is = let h = ap statement_size (as_assign x line ts e is) in omega (arith, h)

  pub annotated_part : (name : List ℕ) (ty : TypeExpr) (e : Expr) → x ≡ stmts.Annotated line name ty e → size e + 3 ≤ statement_size (statement x)
  annotated_part name ty e is = let h = ap statement_size (as_annotated x line name ty e is) in omega (arith, h)

  pub evaluate_part : (e : Expr) → x ≡ stmts.Evaluate line e → size e + 3 ≤ statement_size (statement x)
  evaluate_part e is = let h = ap statement_size (as_evaluate x line e is) in omega (arith, h)

  pub return_part : (o : Option Expr) (e : Expr) → x ≡ stmts.Return line o → o ≡ Some e → size e + 3 ≤ statement_size (statement x)
  return_part o e is n =
      let h = ap statement_size (as_return x line o is) in
      let g : returned_size (maybe_expression o) ≡ size e + 3 = ap (λ (z : Option Expr). returned_size (maybe_expression z)) n in
      omega (arith, h, g)

  module _ (c : Expr) (body : Vec Stmt Global) (b : List Stmt) where
    pub if_test : (other : Vec Stmt Global) → x ≡ stmts.If line c body other → size c + 3 ≤ statement_size (statement x)
    if_test other is = let h = ap statement_size (as_if x line c body other is) in omega (arith, h)

    pub if_body : (other : Vec Stmt Global) → x ≡ stmts.If line c body other → b ≡ body.items → block_size (statements b) < statement_size (statement x)
    if_body other is at = let h = ap statement_size (as_if x line c body other is) in let g = same_block b body at in omega (arith, h, g)

    pub if_other : (other : Vec Stmt Global) → x ≡ stmts.If line c body other → b ≡ other.items → block_size (statements b) < statement_size (statement x)
    if_other other is at = let h = ap statement_size (as_if x line c body other is) in let g = same_block b other at in omega (arith, h, g)

    pub while_part : x ≡ stmts.While line c body → b ≡ body.items → size c + block_size (statements b) + 3 < statement_size (statement x)
    while_part is at = let h = ap statement_size (as_while x line c body is) in let g = same_block b body at in omega (arith, h, g)

    pub for_limit : (name : List ℕ) → x ≡ stmts.For line name c body → size c + 3 ≤ statement_size (statement x)
    for_limit name is = let h = ap statement_size (as_for x line name c body is) in omega (arith, h)

    pub for_part : (name : List ℕ) → x ≡ stmts.For line name c body → b ≡ body.items → block_size (statements b) + 1 < statement_size (statement x)
    for_part name is at = let h = ap statement_size (as_for x line name c body is) in let g = same_block b body at in omega (arith, h, g)
