use Rattle.std.proofs.Common.{◌≡◌, ◌+◌, ◌-◌, length}
use Rattle.guppy_call.specs.declared.input.TheConstants.{PIECE}
use Rattle.guppy_call.proofs.ReadSoFar.{ReadSoFar}
use Rattle.guppy_call.proofs.input.read_open.Given as goal

abbrev pub invariant-loop-bytes : goal.invariant-loop-bytes
invariant-loop-bytes g l =
    let files = g.F.Files in
    ReadSoFar l.limit (files.rest l.initial.files) (files.faults l.initial.files) l.bytes.items (files.rest l.files) (files.is_open l.files) (files.faults l.files)
    × (length l.piece.items ≡ PIECE)

abbrev pub decreases-loop-bytes : goal.decreases-loop-bytes
decreases-loop-bytes g l = l.limit + 1 - length l.bytes.items
