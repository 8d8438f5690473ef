-- So many bytes are put, as one part. Assumes nothing.
use Rattle.std.proofs.Common.{◌≡◌, take}
use Rattle.telling.specs.Said.{with_bytes}
use Rattle.telling.proofs.Text.put_bytes.Given as goal

abbrev pub invariant-loop-b : goal.invariant-loop-b
invariant-loop-b l = l.self ≡ with_bytes l.fn.self (take l.b-index l.bytes)
