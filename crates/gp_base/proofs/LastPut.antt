-- Files kept in memory: what a name holds.
use Rattle.std.proofs.Common.{◌≡◌, ◌≢◌, ◌<◌, ◌+◌, ℕ, zero, suc, Bool, true, false, if◌then◌else◌, List, [], ◌∷◌, ◌++◌, length, take, drop, All, Option, Some, None, refl, sym, ap, arith}
use Rattle.std.specs.List.{HoldsAt, AllWithin}
use Rattle.std.specs.Option.{option_or, option_map, ForSome, IfSome, IfNone}
use Rattle.std.specs.Str.{bytes_eq}
use Rattle.std.proofs.lemmas.Bool.{false_from_ne_true}
use Rattle.std.proofs.lemmas.List.{drop-drop, get_or_append_left, take-append-drop}
use Rattle.std.proofs.lemmas.Slice.Eq.{bytes_eq-Decides}
use Rattle.gp_base.specs.declared.memory_files.Cursor.{Cursor}
use Rattle.gp_base.specs.FaultPlan.{CallPlan}
use Rattle.gp_base.specs.StoredFiles.{FileContents, last_put, bytes_at, left_at, IsWithin, Puts}

bytes_eq-same : (xs ys : List ℕ) → xs ≡ ys → bytes_eq xs ys ≡ true
bytes_eq-same xs ys same = (bytes_eq-Decides xs ys).1 same

bytes_eq-other : (xs ys : List ℕ) → xs ≢ ys → bytes_eq xs ys ≡ false
bytes_eq-other xs ys other = false_from_ne_true (bytes_eq xs ys) (λ same. other ((bytes_eq-Decides xs ys).0 same))

option_or-if : (test : Bool) (x : List ℕ) (o p : Option (List ℕ)) → option_or (if test then Some x else o) p ≡ (if test then Some x else option_or o p)
option_or-if true x o p = refl
option_or-if false x o p = refl

-- one more file
pub last_put-push : (files : List FileContents) (file : FileContents) (name : List ℕ) → last_put (files ++ file ∷ []) name ≡ (if bytes_eq file.name name then Some file.bytes else last_put files name)
last_put-push [] file name = refl
last_put-push (first ∷ files) file name = rw (last_put-push files file name)
    (option_or-if (bytes_eq file.name name) file.bytes (last_put files name) (if bytes_eq first.name name then Some first.bytes else None))

-- where no file has the name
pub last_put-none : (files : List FileContents) (name : List ℕ) → All (λ (file : FileContents). file.name ≢ name) files → last_put files name ≡ None
last_put-none [] name others = refl
last_put-none (file ∷ files) name others =
    rw (last_put-none files name (λ k d within. others (suc k) d (omega arith)), bytes_eq-other file.name name (others 0 file (omega arith)))

-- where the last file that has the name is at this place
pub last_put-at : (files : List FileContents) (name : List ℕ) (place : ℕ) → place < length files → HoldsAt (λ (file : FileContents). file.name ≡ name) files place → AllWithin (λ (file : FileContents). file.name ≢ name) files (place + 1) (length files) → last_put files name ≡ Some (bytes_at files place)
last_put-at [] name place within found last = absurd (omega arith)
last_put-at (file ∷ files) name zero within found last =
    rw (last_put-none files name (λ k d below. last (suc k) d (omega arith) (omega arith)), bytes_eq-same file.name name (found file))
last_put-at (file ∷ files) name (suc place) within found last =
    rw (last_put-at files name place (omega arith) found (λ k d low high. last (suc k) d (omega arith) (omega arith)))

-- the place of the last file that has the name, where one has it
pub last_put-place : (files : List FileContents) (name : List ℕ) (found : Option ℕ) → IfSome found (λ place. place < length files) → IfSome found (HoldsAt (λ (file : FileContents). file.name ≡ name) files) → IfSome found (λ place. AllWithin (λ (file : FileContents). file.name ≢ name) files (place + 1) (length files)) → IfSome found (λ place. last_put files name ≡ Some (bytes_at files place))
last_put-place files name None within has last = tt
last_put-place files name (Some place) within has last = last_put-at files name place within has last

-- the same, where none has it
pub last_put-missing : (files : List FileContents) (name : List ℕ) (found : Option ℕ) → IfNone found (All (λ (file : FileContents). file.name ≢ name) files) → IfNone found (last_put files name ≡ None)
last_put-missing files name None others = last_put-none files name others
last_put-missing files name (Some place) others = tt

-- what a cursor has left, read on
pub left_at-more : (files : List FileContents) (cursor : Cursor) (count : ℕ) → left_at files cursor ≡ take count (left_at files cursor) ++ left_at files (record { place = cursor.place; offset = cursor.offset + count })
left_at-more files cursor count =
    let bytes = bytes_at files cursor.place in
    rw (← drop-drop count cursor.offset bytes) (sym (take-append-drop count (drop cursor.offset bytes)))

-- what a cursor has left stays
left_at-push : (files : List FileContents) (file : FileContents) (cursor : Option Cursor) → ForSome cursor (IsWithin files) → option_map (left_at (files ++ file ∷ [])) cursor ≡ option_map (left_at files) cursor
left_at-push files file None within = refl
left_at-push files file (Some cursor) within =
    ap (λ (at : FileContents). Some (drop cursor.offset at.bytes))
    (get_or_append_left files (file ∷ []) (record { name = []; bytes = [] }) cursor.place (within cursor refl).place)

-- one more file, of the name
pub puts-push : (files : List FileContents) (cursor : Option Cursor) (plan : CallPlan) (name bytes : List ℕ) (more : List FileContents) → more ≡ files ++ record { name = name; bytes = bytes } ∷ [] → ForSome cursor (IsWithin files) → Puts (record { stored = files; left = option_map (left_at files) cursor; plan = plan }) (record { stored = more; left = option_map (left_at more) cursor; plan = plan }) name bytes
puts-push files cursor plan name bytes more pushed within = rw pushed (record {
  named = rw (last_put-push, bytes_eq-same name name refl);
  others = λ other differs. rw (last_put-push, bytes_eq-other name other (λ same. differs (sym same)));
  unmoved = rw left_at-push;
})
