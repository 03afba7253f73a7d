-- How the code goes through the records of an image: the bytes still to be read are a chain of
-- stretches, the innermost record's first. Nothing here has to be believed, since no public
-- function's contract cites it.
use Rattle.std.specs.Prelude.{List, [], ◌∷◌, ℕ, zero, suc, ◌-◌, take, drop, get_or}
use Rattle.tokenizer.specs.Answer.{Out, refused, done, ◌>>=◌}
use Rattle.archive.specs.Archive.{Room, Read, records_at}

-- The room left behind some records.
abbrev pub left_of : Out Read → Out Room
left_of (refused r) = refused r
left_of (done a) = done a.room

-- The room left behind the records of a chain of stretches, innermost first.
unfoldable pub chain_left : ℕ → List (List ℕ) → Room → Out Room
chain_left f [] room = done room
chain_left f (s ∷ ss) room = do
  r ← left_of (records_at f s room)
  chain_left f ss r

-- The bytes of an image from one place to another.
abbrev pub between : List ℕ → ℕ → ℕ → List ℕ
between image at end = take (end - at) (drop at image)

-- The stretches that are left where the reading stands at a place, inside so many open records
-- whose ends are kept.
unfoldable pub stretches : List ℕ → List ℕ → ℕ → ℕ → List (List ℕ)
stretches image ends zero at = []
stretches image ends (suc d) at = between image at (get_or ends d 0) ∷ stretches image ends d (get_or ends d 0)
