-- The first fault of lines that are no program's.
use Rattle.std.specs.Prelude.{ℕ, Bool, true, List, [], ◌∷◌, ◌++◌, nat_le}
use Rattle.gp_base.specs.declared.name.LineNo.{LineNo}
use Rattle.gp_tree.specs.Program.{ProgramItem}
use Rattle.gp_parse.specs.Nesting.{Line, Nests}

-- a fault with the number of its line
pub data Fault : Type 0 where
  nesting : LineNo → Fault
  too_deep : LineNo → Fault

-- lines that the lines of some program begin with
pub record IsPrefix (fits : ℕ → Bool) (p : List Line) : Type 0 where
  pub more : List Line
  pub items : List ProgramItem
  pub nests : Nests fits (p ++ more) items

abbrev pub within : ℕ → ℕ → Bool
within limit level = nat_le level limit

abbrev pub any_level : ℕ → Bool
any_level level = true

-- The fault of the lines: at the first line that no program's lines go on with after those before it, or else at the last line.
pub data FirstFault (limit : ℕ) : List Line → Fault → Type 0 where
  -- without the limit some program's lines would go on with the line
  above_limit : (p q : List Line) (x : Line)
      → IsPrefix (within limit) p → (IsPrefix (within limit) (p ++ x ∷ []) → ⊥) → IsPrefix any_level (p ++ x ∷ []) → FirstFault limit (p ++ x ∷ q) (too_deep x.number)
  misplaced : (p q : List Line) (x : Line)
      → IsPrefix (within limit) p → (IsPrefix (within limit) (p ++ x ∷ []) → ⊥) → (IsPrefix any_level (p ++ x ∷ []) → ⊥) → FirstFault limit (p ++ x ∷ q) (nesting x.number)
  -- the lines end where a block, a `def` or a `class` is wanted
  unfinished : (p : List Line) (x : Line)
      → IsPrefix (within limit) (p ++ x ∷ []) → ((items : List ProgramItem) → Nests (within limit) (p ++ x ∷ []) items → ⊥) → FirstFault limit (p ++ x ∷ []) (nesting x.number)
