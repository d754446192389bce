-- Compound statements, and a statement behind a block, in a function in memory.
use Rattle.std.specs.Prelude.{ℕ, List, Some}
use Rattle.gp_base.specs.declared.name.LineNo.{LineNo}
use Rattle.gp_tree.specs.Expression.{Expression}
use Rattle.gp_tree.specs.Statement.{Statement, Statements}
use Rattle.gp_types.specs.Types as types
use Rattle.gp_locals.specs.Environment.{Environment}
use Rattle.gp_typing.specs.declared.frame.Frame as declared_frame
use Rattle.gp_typing.specs.Checks.{Checked, ◌>>=◌}
use Rattle.gp_typing.specs.code.Pieces.{tested, counted, named, ended_if, ended_while, ended_for, next_of}
use Rattle.gp_typing.specs.Statements.{BlockTyping, StatementTyping}
use Rattle.gp_typing.specs.code.StatementView.{block_in, frame_view, known_for, value_in}

abbrev pub if_in : declared_frame.Frame → Environment → LineNo → (test : Expression) → (body other : Statements) → Checked StatementTyping
if_in frame e line test body other =
    tested line (value_in frame e line test)
    >>= λ t. block_in frame (Some e) body
    >>= λ x. block_in frame (Some e) other
    >>= λ y. ended_if line t x y

abbrev pub while_in : declared_frame.Frame → Environment → LineNo → (test : Expression) → (body : Statements) → Checked StatementTyping
while_in frame e line test body =
    tested line (value_in frame e line test)
    >>= λ t. block_in frame (Some e) body
    >>= λ b. ended_while line test t e b

abbrev pub for_in : declared_frame.Frame → Environment → LineNo → (name : List ℕ) → (count : Expression) → (body : Statements) → Checked StatementTyping
for_in frame e line name count body =
    counted line (value_in frame e line count)
    >>= λ n. named (frame_view frame) e line name types.Int
    >>= λ i. block_in frame (Some i) body
    >>= λ b. ended_for line name n e b

-- a statement behind a block, where a path leads there
abbrev pub next_in : declared_frame.Frame → BlockTyping → Statement → Checked BlockTyping
next_in frame b s = next_of (known_for frame) (frame_view frame) b s
