-- What the code's values say. Nothing here has to be believed, since no public function's contract
-- cites it.
use Rattle.std.specs.Prelude.{Result, Ok, Err, List, ℕ}
use Rattle.tokenizer.specs.Answer.{Out, done, refuse}
use Rattle.datatype.specs.Label.{label_said}
use Rattle.archive.specs.declared.record.Room.{Room as Left}
use Rattle.archive.specs.declared.record.Head.{Head as Apart}
use Rattle.archive.specs.declared.record.Parts.{Parts}
use Rattle.archive.specs.declared.record.Named.{Named}
use Rattle.archive.specs.declared.NotRead.{NotRead}
use Rattle.archive.specs.Archive.{Room, Head, Taken, Strings, not_read_number}

abbrev pub room_said : Left → Room
room_said r = record { rows = r.rows; bytes = r.bytes }

abbrev pub head_said : Apart → Head
head_said h = record { label = label_said h.label; below = h.below.now; behind = h.behind.now; room = room_said h.room }

abbrev pub parts_said : Parts → Taken (List ℕ)
parts_said p = record { value = p.value.now; rest = p.rest.now }

abbrev pub strings_said : Named → Strings
strings_said n = record { name = n.name.now; zone = n.zone.now; rest = n.rest.now; left = n.left }

-- What the code's results of reading say: the value, seen by a view, or the refusal by its number.
abbrev pub read_means : {X Y : Type 0} → (X → Y) → Result X NotRead → Out Y
read_means view (Ok value) = done (view value)
read_means view (Err e) = refuse (not_read_number e)
