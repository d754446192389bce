-- How large statements and blocks are: the measure of the calls that go down into them.
use Rattle.std.proofs.Common.{◌≡◌, ℕ, zero, suc, ◌+◌, ◌*◌, ◌<◌, List, [], ◌∷◌, length, get_or, arith, sym, ap, ◌∙◌}
use Rattle.std.specs.Prelude.{Vec}
use Rattle.std.specs.declared.alloc.Global.{Global}
use Rattle.gp_base.specs.declared.name.LineNo.{LineNo}
use Rattle.gp_tree.specs.declared.expr.Expr.{Expr}
use Rattle.gp_tree.specs.declared.stmt.Stmt.{Stmt}
use Rattle.gp_tree.specs.declared.stmt.Stmt.TheFolds.{fold-roll-Stmt}
use Rattle.gp_tree.specs.declared.stmt.Stmt.TheOpen.{Stmt-F}
use Rattle.gp_tree.specs.declared.stmt.Stmt.TheVariants as variants
use Rattle.gp_tree.specs.Statement as stmt
use Rattle.gp_tree.specs.Statement.{Statement, Statements, statement, statements, statement_step}

abbrev mutual
  pub statement_size : Statement → ℕ
  statement_size (stmt.assign line ts value) = 0
  statement_size (stmt.annotated line name ty value) = 0
  statement_size (stmt.evaluate line value) = 0
  statement_size (stmt.return_value line value) = 0
  statement_size (stmt.if_else line test body other) = block_size body + block_size other + 1
  statement_size (stmt.while_loop line test body) = block_size body + 1
  statement_size (stmt.for_loop line name count body) = block_size body + 1
  statement_size (stmt.break_loop line) = 0
  statement_size (stmt.continue_loop line) = 0
  statement_size (stmt.pass line) = 0

  pub block_size : Statements → ℕ
  block_size stmt.no_statements = 0
  block_size (stmt.with_statement s ss) = statement_size s + block_size ss + 1

-- ---- three steps for each level: a block, a statement behind what stands before it, and the statement alone

abbrev pub block_steps : List Stmt → ℕ
block_steps block = 3 * block_size (statements block)

abbrev pub statement_steps : Stmt → ℕ
statement_steps s = 3 * statement_size (statement s)

item-size : (block : List Stmt) (i : ℕ) (item : Stmt) → i < length block → item ≡ get_or block i item
    → statement_size (statement item) < block_size (statements block)
item-size [] i item h is = absurd (omega arith)
item-size (s ∷ ss) zero item h is =
    let same : statement_size (statement item) ≡ statement_size (statement s) = ap (λ (x : Stmt). statement_size (statement x)) is in
    omega arith
item-size (s ∷ ss) (suc i) item h is =
    let rest : statement_size (statement item) < block_size (statements ss) = item-size ss i item (omega arith) is in
    omega arith

-- a statement is smaller than the block that it stands in
pub item-smaller : (block : List Stmt) (i : ℕ) (item : Stmt) → i < length block → item ≡ get_or block i item
    → statement_steps item + 1 < block_steps block
item-smaller block i item h is =
    let less : statement_size (statement item) < block_size (statements block) = item-size block i item h is in
    omega arith

-- blocks are smaller than their statement
module _ (s : Stmt) (line : LineNo) where
  pub if-smaller : (test : Expr) (body other : Vec Stmt Global) → s ≡ variants.If line test body other
      → (b o : List Stmt) → b ≡ body.items → o ≡ other.items → block_steps b + block_steps o + 1 < statement_steps s
  if-smaller test body other is b o as_body as_other =
      let whole : statement_size (statement s) ≡ block_size (statements body.items) + block_size (statements other.items) + 1 =
      ap (λ (x : Stmt). statement_size (statement x)) (is ∙ sym (variants.rolls-If line test body other))
      ∙ ap (λ (x : Statement). statement_size x) (fold-roll-Stmt Statement statement_step (Stmt-F.If line test body other)) in
      let first : block_size (statements b) ≡ block_size (statements body.items) = ap (λ (ss : List Stmt). block_size (statements ss)) as_body in
      let second : block_size (statements o) ≡ block_size (statements other.items) = ap (λ (ss : List Stmt). block_size (statements ss)) as_other in
      omega arith

  pub while-smaller : (test : Expr) (body : Vec Stmt Global) → s ≡ variants.While line test body
      → (b : List Stmt) → b ≡ body.items → block_steps b + 1 < statement_steps s
  while-smaller test body is b as_body =
      let whole : statement_size (statement s) ≡ block_size (statements body.items) + 1 =
      ap (λ (x : Stmt). statement_size (statement x)) (is ∙ sym (variants.rolls-While line test body))
      ∙ ap (λ (x : Statement). statement_size x) (fold-roll-Stmt Statement statement_step (Stmt-F.While line test body)) in
      let part : block_size (statements b) ≡ block_size (statements body.items) = ap (λ (ss : List Stmt). block_size (statements ss)) as_body in
      omega arith

  pub for-smaller : (name : List ℕ) (count : Expr) (body : Vec Stmt Global) → s ≡ variants.For line name count body
      → (b : List Stmt) → b ≡ body.items → block_steps b + 1 < statement_steps s
  for-smaller name count body is b as_body =
      let whole : statement_size (statement s) ≡ block_size (statements body.items) + 1 =
      ap (λ (x : Stmt). statement_size (statement x)) (is ∙ sym (variants.rolls-For line name count body))
      ∙ ap (λ (x : Statement). statement_size x) (fold-roll-Stmt Statement statement_step (Stmt-F.For line name count body)) in
      let part : block_size (statements b) ≡ block_size (statements body.items) = ap (λ (ss : List Stmt). block_size (statements ss)) as_body in
      omega arith
