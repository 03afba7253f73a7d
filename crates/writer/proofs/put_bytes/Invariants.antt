use Rattle.std.proofs.Common.{◌≡◌}
use lib.ListN.{take}
use lib.Seq.{sets}
use Rattle.writer.proofs.put_bytes.Given as goal

-- The bytes before are written.
abbrev pub invariant-loop-i : goal.invariant-loop-i
invariant-loop-i l = l.out ≡ sets l.initial.out l.at (take l.i l.s)
