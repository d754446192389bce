-- Files kept in memory.
use Rattle.std.specs.Prelude.{◌≡◌, ◌≢◌, ◌<◌, ◌≤◌, ℕ, if◌then◌else◌, List, [], ◌∷◌, length, drop, slice_index_or, Option, Some, None}
use Rattle.std.specs.Option.{option_or}
use Rattle.std.specs.Str.{bytes_eq}
use Rattle.gp_base.specs.declared.memory_files.Cursor.{Cursor}
use Rattle.gp_base.specs.FaultPlan.{CallPlan}
use Rattle.gp_base.specs.Outside.{Holdings}

-- the bytes of a name, and what it holds
pub record FileContents : Type 0 where
  pub name : List ℕ
  pub bytes : List ℕ

-- The stored files in the order in which they were put; what is left of the open file, where one is open; and which
-- calls fail.
pub record StoredFiles : Type 0 where
  pub stored : List FileContents
  pub left : Option (List ℕ)
  pub plan : CallPlan

-- what a name holds: the bytes of the last file that has it
abbrev pub last_put : List FileContents → List ℕ → Option (List ℕ)
last_put [] name = None
last_put (file ∷ files) name = option_or (last_put files name) (if bytes_eq file.name name then Some file.bytes else None)

-- what each name holds
abbrev pub held_by : StoredFiles → Holdings
held_by files = Some (last_put files.stored)

-- the bytes of the file at a place
abbrev pub bytes_at : List FileContents → ℕ → List ℕ
bytes_at files place = (slice_index_or files place (record { name = []; bytes = [] })).bytes

-- what a cursor has left of its file
abbrev pub left_at : List FileContents → Cursor → List ℕ
left_at files cursor = drop cursor.offset (bytes_at files cursor.place)

-- the cursor is at a file, and not past its end
pub record IsWithin (files : List FileContents) (cursor : Cursor) : Type 0 where
  pub place : cursor.place < length files
  pub offset : cursor.offset ≤ length (bytes_at files cursor.place)

-- The name holds these bytes, and each other name holds what it held. The open file and the calls are as they were.
pub record Puts (old new : StoredFiles) (name bytes : List ℕ) : Type 0 where
  pub named : last_put new.stored name ≡ Some bytes
  pub others : (other : List ℕ) → other ≢ name → last_put new.stored other ≡ last_put old.stored other
  pub unmoved : record new { stored = old.stored } ≡ old
