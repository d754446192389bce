-- A function's body in one piece, and typed programs in memory.
use Rattle.std.specs.Prelude.{◌&&◌, not, Some, is_some, Ok}
use Rattle.gp_base.specs.declared.name.LineNo.{LineNo}
use Rattle.gp_tree.specs.Statement.{Statements}
use Rattle.gp_typing.specs.declared.fault.TypeFault.TheVariants.{TooManyPlaces, MissingReturn}
use Rattle.gp_typing.specs.Checks.{Checked, ◌>>=◌, check}
use Rattle.gp_locals.specs.Environment.{Environment, is_within}
use Rattle.gp_scope.specs.Known.{Known}
use Rattle.gp_typing.specs.Statements.{Frame, block_typing, block_of}
use Rattle.gp_typing.specs.Typed.{TypedBlock}

-- the body of a function with its types, from the environment where it begins
abbrev pub body_typing : Known → Frame → LineNo → Environment → Statements → Checked TypedBlock
body_typing known frame line e ss =
    check (is_within (Some e)) (TooManyPlaces line)
    >>= λ _. block_typing known frame (Some e) ss
    >>= λ b. check (not (is_some frame.result && is_some b.ends.next)) (MissingReturn line)
    >>= λ _. Ok (block_of b)
