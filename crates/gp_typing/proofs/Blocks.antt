-- The definition of statements in its pieces, and blocks that get their statements one after another.
use Rattle.std.proofs.Common.{◌≡◌, ℕ, not, Bool, true, false, List, [], ◌∷◌, ◌++◌, Option, Some, None, Ok, Err, refl, sym, ap}
use Rattle.gp_base.specs.declared.name.LineNo.{LineNo}
use Rattle.gp_tree.specs.Expression.{Expression}
use Rattle.gp_tree.specs.TypeExpression.{TypeExpression}
use Rattle.gp_types.specs.Types.{Ty}
use Rattle.gp_types.specs.Same.{same_type}
use Rattle.gp_tree.specs.Statement as stmt
use Rattle.gp_tree.specs.Statement.{Statement, Statements}
use Rattle.gp_typing.specs.declared.fault.TypeFault.{TypeFault}
use Rattle.gp_typing.specs.declared.fault.TypeFault.TheVariants.{Mismatch, TooManyPlaces, BorrowedAssigned}
use Rattle.gp_typing.specs.Checks.{Checked, ◌>>=◌, check, found}
use Rattle.gp_locals.specs.Environment.{Environment, is_within, put}
use Rattle.gp_typing.specs.Expressions.{Value, is_bool, is_int, typing, valued}
use Rattle.gp_scope.specs.Known.{Known}
use Rattle.gp_typing.specs.code.Pieces.{tested, counted, ended_annotated, append_statements, joined_block, with_last, next_of, continued}
use Rattle.gp_typing.specs.Statements.{Frame, StatementTyping, BlockTyping, block_typing, first_of_block, goes_on, line_of, statement_typing, typed_as}
use Rattle.gp_typing.specs.Typed as typed
use Rattle.gp_typing.specs.Typed.{TypedExpression, TypedStatement, TypedStatements, no_statements, with_statement}
use Rattle.gp_typing.specs.View.{statements_of}
use Rattle.gp_typing.proofs.Joins.{after-assoc, after-goes_on}

-- ---- tests and counts

pub tested-goes : {B : Type 0} (value : Checked Value) (line : LineNo) (k : TypedExpression → Checked B)
    → (value >>= λ t. check (is_bool t.ty) (Mismatch line) >>= λ _. k t.tree) ≡ (tested line value >>= k)
tested-goes {B} (Err f) line k = refl
tested-goes {B} (Ok t) line k = go (is_bool t.ty) where
  go : (b : Bool) → (check b (Mismatch line) >>= λ _. k t.tree) ≡ ((check b (Mismatch line) >>= λ _. Ok t.tree) >>= k)
  go true = refl
  go false = refl

pub counted-goes : {B : Type 0} (value : Checked Value) (line : LineNo) (w : Bool) (f : TypeFault) (inside : Environment) (k : TypedExpression → Environment → Checked B)
    → (value >>= λ n. check (is_int n.ty) (Mismatch line) >>= λ _. check w f >>= λ _. k n.tree inside)
    ≡ (counted line value >>= λ n. (check w f >>= λ _. Ok inside) >>= λ i. k n i)
counted-goes {B} (Err g) line w f inside k = refl
counted-goes {B} (Ok n) line w f inside k = go (is_int n.ty) w where
  go : (b w : Bool) → (check b (Mismatch line) >>= λ _. check w f >>= λ _. k n.tree inside)
      ≡ ((check b (Mismatch line) >>= λ _. Ok n.tree) >>= λ n. (check w f >>= λ _. Ok inside) >>= λ i. k n i)
  go true true = refl
  go true false = refl
  go false w = refl

pub annotated-goes : (known : Known) (frame : Frame) (e : Environment) (line : LineNo) (name : List ℕ) (ty : TypeExpression) (value : Expression)
    → statement_typing known frame e (stmt.annotated line name ty value)
    ≡ ended_annotated known frame e line name ty (valued line (typing known frame.names e line value))
annotated-goes known frame e line name ty value = go (valued line (typing known frame.names e line value)) where
  fits : (v : Value) (its : Ty) (b w : Bool)
      → (check b (Mismatch line) >>= λ _. check w (BorrowedAssigned line) >>= λ _. typed_as (typed.annotated line name ty v.tree) (goes_on (Some (put frame.names e name v.ty))))
      ≡ (check b (Mismatch line) >>= λ _. (check w (BorrowedAssigned line) >>= λ _. Ok (put frame.names e name v.ty)) >>= λ next. typed_as (typed.annotated line name ty v.tree) (goes_on (Some next)))
  fits v its true true = refl
  fits v its true false = refl
  fits v its false w = refl

  at : (v : Value) (w : Option Ty) (b : Bool)
      → (found w (Mismatch line) >>= λ its. check (same_type its v.ty) (Mismatch line) >>= λ _. check b (BorrowedAssigned line) >>= λ _. typed_as (typed.annotated line name ty v.tree) (goes_on (Some (put frame.names e name v.ty))))
      ≡ ((found w (Mismatch line) >>= λ its. check (same_type its v.ty) (Mismatch line)) >>= λ _. (check b (BorrowedAssigned line) >>= λ _. Ok (put frame.names e name v.ty)) >>= λ next. typed_as (typed.annotated line name ty v.tree) (goes_on (Some next)))
  at v None b = refl
  at v (Some its) b = fits v its (same_type its v.ty) b

  go : (m : Checked Value)
      → (m >>= λ v. found (known.annotated_at line) (Mismatch line) >>= λ its. check (same_type its v.ty) (Mismatch line) >>= λ _. check (not (frame.is_borrowed name)) (BorrowedAssigned line) >>= λ _. typed_as (typed.annotated line name ty v.tree) (goes_on (Some (put frame.names e name v.ty))))
      ≡ ended_annotated known frame e line name ty m
  go (Err f) = refl
  go (Ok v) = at v (known.annotated_at line) (not (frame.is_borrowed name))

-- ---- statements in a row

append-none : (xs : TypedStatements) → append_statements xs no_statements ≡ xs
append-none no_statements = refl
append-none (with_statement s ss) = ap (λ (rest : TypedStatements). with_statement s rest) (append-none ss)

append-last : (xs : TypedStatements) (s : TypedStatement) (rest : TypedStatements)
    → append_statements (append_statements xs (with_statement s no_statements)) rest ≡ append_statements xs (with_statement s rest)
append-last no_statements s rest = refl
append-last (with_statement x xs) s rest = ap (λ (rest : TypedStatements). with_statement x rest) (append-last xs s rest)

pub statements_of_last : (xs : List TypedStatement) (s : TypedStatement)
    → statements_of (xs ++ s ∷ []) ≡ append_statements (statements_of xs) (with_statement s no_statements)
statements_of_last [] s = refl
statements_of_last (x ∷ xs) s = ap (λ (rest : TypedStatements). with_statement x rest) (statements_of_last xs s)

-- ---- blocks

joined-first : (frame : Frame) (b : BlockTyping) (e : Environment) (x : StatementTyping) (r : BlockTyping)
    → joined_block (with_last frame b e x) r ≡ joined_block b (first_of_block frame e x r)
joined-first frame b e x r = rw (append-last b.trees _ r.trees, after-assoc b.ends x.ends r.ends)

regroup : {X R : Type 0} (fault : TypeFault) (w : X → Bool) (rest : X → Checked R) (F : X → R → R) (G : R → R) (H : X → R) (K : R → Checked R)
    → ((x : X) → K (H x) ≡ (rest x >>= λ r. Ok (G (F x r)))) → (m : Checked X)
    → ((m >>= λ x. check (w x) fault >>= λ _. rest x >>= λ r. Ok (F x r)) >>= λ r. Ok (G r))
    ≡ ((m >>= λ x. check (w x) fault >>= λ _. Ok (H x)) >>= K)
regroup {X} {R} fault w rest F G H K h (Err f) = refl
regroup {X} {R} fault w rest F G H K h (Ok x) = go (w x) (rest x) (h x) where
  go : (v : Bool) (n : Checked R) → K (H x) ≡ (n >>= λ r. Ok (G (F x r)))
      → ((check v fault >>= λ _. n >>= λ r. Ok (F x r)) >>= λ r. Ok (G r)) ≡ ((check v fault >>= λ _. Ok (H x)) >>= K)
  go false n h = refl
  go true (Ok r) h = sym h
  go true (Err f) h = sym h

same-blocks : (F G : BlockTyping → BlockTyping) → ((r : BlockTyping) → F r ≡ G r) → (n : Checked BlockTyping)
    → (n >>= λ r. Ok (F r)) ≡ (n >>= λ r. Ok (G r))
same-blocks F G h (Err f) = refl
same-blocks F G h (Ok r) = ap (λ (b : BlockTyping). Ok b) (h r)

module _ (known : Known) (frame : Frame) where
  next-at : (trees : TypedStatements) (next breaks continues : Option Environment) (s : Statement) (ss : Statements)
      → let b : BlockTyping = record { trees = trees; ends = record { next = next; breaks = breaks; continues = continues } } in
      continued known frame b (stmt.with_statement s ss) ≡ (next_of known frame b s >>= λ b. continued known frame b ss)
  next-at trees None breaks continues s ss = refl
  next-at trees (Some e) breaks continues s ss =
      let b : BlockTyping = record { trees = trees; ends = record { next = Some e; breaks = breaks; continues = continues } } in
      regroup (TooManyPlaces (line_of s)) (λ (x : StatementTyping). is_within x.ends.next) (λ x. block_typing known frame x.ends.next ss)
      (first_of_block frame e) (joined_block b) (with_last frame b e) (λ c. continued known frame c ss)
      (λ x. same-blocks (joined_block (with_last frame b e x)) (λ r. joined_block b (first_of_block frame e x r)) (joined-first frame b e x) (block_typing known frame x.ends.next ss))
      (statement_typing known frame e s)

  -- one statement more
  pub next-goes : (b : BlockTyping) (s : Statement) (ss : Statements)
      → continued known frame b (stmt.with_statement s ss) ≡ (next_of known frame b s >>= λ b. continued known frame b ss)
  next-goes b s ss = next-at b.trees b.ends.next b.ends.breaks b.ends.continues s ss

  -- no statement more
  pub nothing-goes : (b : BlockTyping) → continued known frame b stmt.no_statements ≡ Ok b
  nothing-goes b = rw (append-none b.trees, after-goes_on b.ends)

  unit : (m : Checked BlockTyping) (start : Option Environment)
      → (m >>= λ rest. Ok (joined_block (record { trees = no_statements; ends = goes_on start }) rest)) ≡ m
  unit (Ok b) start = refl
  unit (Err f) start = refl

  -- the whole block
  pub first-goes : (start : Option Environment) (ss : Statements)
      → continued known frame (record { trees = no_statements; ends = goes_on start }) ss ≡ block_typing known frame start ss
  first-goes start ss = unit (block_typing known frame start ss) start
