-- Bytes written one behind another into an output that is lent.
use Rattle.std.specs.Prelude.{List, ℕ, ◌+◌, ◌-◌, length, take}
use Rattle.std.proofs.lemmas.List.Edits.{sets}
use Rattle.writer.specs.declared.Writer.{Writer}

-- The greatest place: it is a number of 64 bits.
abbrev pub last_place : ℕ
last_place = 18446744073709551615

-- Of bytes at a place, those that a place can count: all, but behind more bytes than any memory has.
unfoldable pub counted : ℕ → List ℕ → List ℕ
counted at s = take (last_place - at) s

-- The writer when bytes are written: they stand at its place, as many of them as there is room for, nothing else of the
-- output has changed, and the place is behind them all.
unfoldable pub written : Writer → List ℕ → Writer
written w s =
    let all = counted w.at s in
    record w { out = record w.out { now = sets w.out.now w.at all }; at = w.at + length all }
