-- The stored sample of the archive: how many cases, then the cases. A case is the words and the bytes lent, the image, the status,
-- the row count, the packed text and the words of as many rows. All that is lent holds `unread` before; what stands behind the
-- rows and the text is to hold it still, or 0 where the image is refused. An image that is accepted is written again.
use Rattle.std.specs.Prelude.{Bool, true, ◌&&◌, List, ℕ, ◌*◌, min, take, drop, length, replicate, nat_eq, if◌then◌else◌}
use Rattle.tokenizer.specs.Text.{same, all}
use Rattle.datatype.specs.Tree.{part, name_list}
use Rattle.datatype.specs.Table.{row_words}
use Rattle.archive.specs.Archive.{archive_answer, archive_bytes, unarchive_answer, unarchive_rows, unarchive_text}
use Rattle.arrow_types.specs.Status.{status_of, value_of}
use Rattle.packing.specs.Packed.{rows_answered as rows_of, bytes_answered as length_of}
use Rattle.replay.specs.Sample.{number_at, after_part, counted, replayed}
use Rattle.replay.specs.PrintCase.{bytes_of}
use Rattle.replay.specs.ReadCase.{unread, rest_of, left_words, after_case}
use Rattle.replay.specs.declared.ImageCase.{ImageCase}
use Rattle.replay.specs.declared.Agreement.{Agreement}

-- What stands before the rows' words. What is said of rows is said as in a case of the reader, whose text is the image.
unfoldable pub image_case_at : List ℕ → ℕ → ImageCase
image_case_at sample at =
    let lent = number_at sample at in
    let bytes = number_at sample lent.next in
    let image = number_at sample bytes.next in
    let status = number_at sample (after_part sample image.next image.value) in
    let count = number_at sample status.next in
    let text = number_at sample count.next in
    let next = after_part sample text.next text.value in
    record {
      read = record { lent = lent.value; at = image.next; size = image.value; status = status.value; value = count.value; place = 0; next = next };
      bytes = bytes.value;
      text = text;
    }

-- A lent text holds this text, and past it what the status says.
unfoldable pub leaves_text : List ℕ → ℕ → List ℕ → Bool
leaves_text out status text = same (take (length text) out) text && all (nat_eq (rest_of status)) (drop (length text) out)

-- An image gives this status, this row count and this text, and leaves these words of so many lent.
unfoldable pub gives_image : List ℕ → ℕ → ℕ → ℕ → ℕ → List ℕ → List ℕ → Bool
gives_image image words bytes status count left text =
    let rows = replicate words unread in
    let lent = replicate bytes unread in
    let answer = unarchive_answer image rows lent in
    nat_eq (status_of answer) status && nat_eq (rows_of answer) count && nat_eq (length_of answer) (length text)
    && same (unarchive_rows image rows lent) left && leaves_text (unarchive_text image rows lent) status text

-- A tree of these rows over this text is written as this image into so many bytes.
unfoldable pub writes_image : List ℕ → List ℕ → List ℕ → ℕ → Bool
writes_image text rows image lent =
    let out = replicate lent unread in
    let answer = archive_answer text name_list rows out in
    nat_eq (status_of answer) 0 && nat_eq (value_of answer) (length image) && same (archive_bytes text name_list rows out) image

-- An image gives what a case says, these words among it, where so many bytes are lent, and is written again into so many where it
-- is accepted.
unfoldable pub image_alike : List ℕ → ImageCase → List ℕ → ℕ → ℕ → ℕ → Bool
image_alike sample case left words bytes out =
    let image = part sample case.read.at case.read.size in
    let text = bytes_of sample case.text in
    let rows = take (min (row_words * case.read.value) (length left)) left in
    let again = if nat_eq case.read.status 0 then writes_image text rows image out else true in
    gives_image image words bytes case.read.status case.read.value left text && again

-- The agreement with one case more, which is lent so many words and is to leave so many, is lent so many bytes, and so many to be
-- written again.
unfoldable pub one_image : List ℕ → Agreement → ImageCase → ℕ → ℕ → ℕ → ℕ → Agreement
one_image sample t case words left bytes out =
    counted t (image_alike sample case (left_words sample case.read left) words bytes out) (after_case sample case.read left)

-- The agreement with the case that stands behind it, lent no more than so many words and bytes.
unfoldable pub image_one : List ℕ → ℕ → ℕ → Agreement → Agreement
image_one sample words most t =
    let case = image_case_at sample t.next in
    let lent = min case.read.lent words in
    one_image sample t case lent lent (min case.bytes most) (min case.read.size most)

-- The agreement of a whole sample.
unfoldable pub image_all : List ℕ → ℕ → ℕ → Agreement
image_all sample words most = replayed (image_one sample words most) sample
