-- Typed statements in memory, in a row.
use Rattle.std.proofs.Common.{rules, ◌≡◌, ◌∙◌, Bool, true, false, List, [], ◌∷◌, ◌++◌, Ok, Err, ap, refl, sym}
use Rattle.gp_base.specs.declared.name.LineNo.{LineNo}
use Rattle.gp_typing.specs.declared.typed.TypedStmt as q
use Rattle.gp_typing.specs.declared.fault.TypeFault.{TypeFault}
use Rattle.gp_typing.specs.declared.fault.TypeFault.TheVariants.{TooManyPlaces}
use Rattle.gp_locals.specs.Environment.{NameType, is_within}
use Rattle.gp_typing.specs.Checks.{Checked, ◌>>=◌, check}
use Rattle.gp_typing.specs.Statements.{Ends, StatementTyping, BlockTyping, after}
use Rattle.gp_typing.specs.code.Pieces.{append_statements, ended_next, kept_within, with_typed}
use Rattle.gp_typing.specs.Typed.{TypedStatements, behind, no_statements, with_statement}
use Rattle.gp_typing.specs.View.{statement_kind_view, statement_view, statements_view}

statement_view-of : (s : q.TypedStmt) → statement_view s ≡ behind s.before (statement_kind_view s.kind)
statement_view-of s = search (rules, q.the_lemmas)

pub statements_view_last : (xs : List q.TypedStmt) (s : q.TypedStmt)
    → statements_view (xs ++ s ∷ []) ≡ append_statements (statements_view xs) (with_statement (behind s.before (statement_kind_view s.kind)) no_statements)
statements_view_last [] s = ap (λ x. with_statement x no_statements) (statement_view-of s)
statements_view_last (x ∷ xs) s = ap (λ (rest : TypedStatements). with_statement (statement_view x) rest) (statements_view_last xs s)

-- a block with one more statement, from its ends
pub ended_next-goes : (line : LineNo) (b : BlockTyping) (before : List NameType) (s : StatementTyping)
    → ended_next line b before s
    ≡ (kept_within line b.ends s.ends >>= λ ends. Ok (record { trees = append_statements b.trees (with_statement (behind before s.kind) no_statements); ends = ends }))
ended_next-goes line b before s = go (is_within s.ends.next) where
  go : (w : Bool) → (check w (TooManyPlaces line) >>= λ _. Ok (with_typed b before s))
      ≡ ((check w (TooManyPlaces line) >>= λ _. Ok (after b.ends s.ends)) >>= λ ends. Ok (record { trees = append_statements b.trees (with_statement (behind before s.kind) no_statements); ends = ends }))
  go true = refl
  go false = refl

module _ (line : LineNo) (b : BlockTyping) (before : List NameType) (s : StatementTyping) where
  pub ended_next-err : (f : TypeFault) → kept_within line b.ends s.ends ≡ Err f → ended_next line b before s ≡ Err f
  ended_next-err f h = ended_next-goes line b before s
      ∙ ap (λ (m : Checked Ends). m >>= λ ends. Ok (record { trees = append_statements b.trees (with_statement (behind before s.kind) no_statements); ends = ends })) h

  pub ended_next-ok : (ends : Ends) → kept_within line b.ends s.ends ≡ Ok ends
      → (trees : TypedStatements) → trees ≡ append_statements b.trees (with_statement (behind before s.kind) no_statements)
      → ended_next line b before s ≡ Ok (record { trees = trees; ends = ends })
  ended_next-ok ends h trees is = ended_next-goes line b before s
      ∙ ap (λ (m : Checked Ends). m >>= λ ends. Ok (record { trees = append_statements b.trees (with_statement (behind before s.kind) no_statements); ends = ends })) h
      ∙ ap (λ (ts : TypedStatements). Ok (record { trees = ts; ends = ends })) (sym is)
