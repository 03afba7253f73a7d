-- The printed text of a tree is read back whole: by induction over the tree, and then from the text's first byte to its last.
use mathlib.Core.Path.{◌≡◌, sym, ◌∙◌}
use mathlib.Core.Bool.{true}
use mathlib.Core.List.{List, [], ◌++◌, append-nil}
use Prim.Native.Nat.{ℕ, zero, suc, ◌≤◌}
use native.Mathlib.Omega.{arith}
use lib.ListN.{length, drop}
use Rattle.tokenizer.specs.Answer.{Out, done, refuse}
use Rattle.tokenizer.specs.Utf8.{is_utf8}
use Rattle.tokenizer.specs.Token.{token, token_at, token_from, no_token, type_word}
use Rattle.datatype.specs.Kind.{Shape, leaf, timestamp, time, interval, fixed, list, fixed_list, struct, union, dictionary, decimal, mapping, run_end_encoded, shape_of}
use Rattle.datatype.specs.Tree.{Forest, ∅, node, count, depth, Row, Label, name_list, labels}
use Rattle.row_table.specs.Sound.{Standing, bare}
use Rattle.unchecked_rows.specs.Parents.{parented}
use Rattle.unchecked_rows.proofs.ParentFixed.{labels-parented}
use Rattle.row_table.proofs.SoundTree.{rules_at}
use Rattle.parser.specs.Parse.{Tree, single, shape_at, type_with, type_at}
use Rattle.parser.proofs.FirstType.{first-type}
use Rattle.datatype_parse.specs.Parse.{text_over, parse}
use Rattle.display_length.specs.Display.{shape_text, type_text, shown, display}
use Rattle.display_length.specs.declared.words.Spelling.{Spelling}
use Rattle.round_trip.proofs.PlainRows.{PlainRow, PlainRows, ShapeRow, shape_row, bare_label, bare_is}
use Rattle.round_trip.proofs.Pieces.{look-here, stands-is, need-found}
use Rattle.round_trip.proofs.Types.{TreeRead, Begins, ReadsTree, ReadsAll, begins}
use Rattle.round_trip.proofs.Leaves.{leaf-read, timestamp-read, time-read, interval-read, fixed-read, decimal-read}
use Rattle.round_trip.proofs.Parents.{list_read, fixed-list-read, struct-read, union-read, dictionary-read, map_read, run-ends-read}

-- ---- one level

module _ (spelling : Spelling) (text : List ℕ) (type : ℕ → ℕ → Out Tree) where
  -- what stands behind a kind's word, by its shape
  shape-read : (s : Shape) (l : Label) (kids : Forest Label) (at rows : ℕ) (rest : List ℕ) → ReadsAll spelling text type kids → ShapeRow s l kids → count kids ≤ rows
      → drop at text ≡ shape_text spelling s l (shown spelling kids) ++ rest → TreeRead text (shape_at text type s l.kind at rows) (bare_label l) kids rest
  unfolding shape_at
  shape-read leaf l kids at rows rest rd h enough e = leaf-read text l kids at rest h (unfold shape_text in e)
  shape-read timestamp l kids at rows rest rd h enough e = timestamp-read text l kids at rest spelling h e
  shape-read time l kids at rows rest rd h enough e = time-read text l kids at rest spelling h e
  shape-read interval l kids at rows rest rd h enough e = interval-read text l kids at rest spelling h e
  shape-read fixed l kids at rows rest rd h enough e = fixed-read text l kids at rest spelling h e
  shape-read list l kids at rows rest rd h enough e = list_read spelling text type l at rows rest kids rd h enough e
  shape-read fixed_list l kids at rows rest rd h enough e = fixed-list-read spelling text type l at rows rest kids rd h enough e
  shape-read struct l kids at rows rest rd h enough e = struct-read spelling text type l at rows rest kids rd h enough e
  shape-read union l kids at rows rest rd h enough e = union-read spelling text type l at rows rest kids rd h enough e
  shape-read dictionary l kids at rows rest rd h enough e = dictionary-read spelling text type l at rows rest kids rd h enough e
  shape-read decimal l kids at rows rest rd h enough e = decimal-read text spelling l kids at rest h e
  shape-read mapping l kids at rows rest rd h enough e = map_read spelling text type l at rows rest kids rd h enough e
  shape-read run_end_encoded l kids at rows rest rd h enough e = run-ends-read spelling text type l at rows rest kids rd h enough e

  worded : (l : Label) (kids : Forest Label) (at rows : ℕ) (rest : List ℕ) (b : Begins spelling text at l kids rest)
      → TreeRead text (shape_at text type (shape_of l.kind) l.kind b.token.next rows) (bare_label l) kids rest
      → TreeRead text (type_with text type at (suc rows)) (bare_label l) kids rest
  unfolding type_with
  worded l kids at rows rest b r =
      record {
        got = r.got;
        reads = rw (need-found text type_word l.kind at _ b, b.value) r.reads;
        after = r.after;
        row = r.row;
        below = r.below;
      }

  type-read : (place : Standing) (l : Label) (kids : Forest Label) → ReadsAll spelling text type kids → PlainRow place l kids → PlainRows (rules_at l).below kids
      → ReadsTree spelling text (type_with text type) l kids
  type-read place l kids rd r pl at zero rest b enough = absurd (omega arith)
  type-read place l kids rd r pl at (suc rows) rest b enough =
      worded l kids at rows rest b
      (shape-read (shape_of l.kind) l kids b.token.next rows rest rd (shape_row place l kids r pl) (omega arith) b.after)

-- ---- all levels

all_read : (spelling : Spelling) (text : List ℕ) (place : Standing) (f : Forest Label) (level : ℕ) → PlainRows place f → depth f ≤ level → ReadsAll spelling text (λ a r. type_at text level a r) f
unfolding type_at
all_read spelling text place ∅ level pl de = tt
all_read spelling text place (node l kids others) zero pl de = absurd (omega arith)
all_read spelling text place (node l kids others) (suc level) pl de = (
  type-read spelling text (λ a r. type_at text level a r) place l kids (all_read spelling text (rules_at l).below kids level pl.1 (omega arith)) pl.0 pl.1,
  all_read spelling text place others (suc level) pl.2 (omega arith),
)

-- ---- the whole text

-- what is read of the printed text of a tree, with so many rows lent, where it is short enough and UTF-8
pub record WholeRead (spelling : Spelling) (tree : Forest Label) (rows : ℕ) : Type 0 where
  pub back : Forest Row
  pub reads : length (display spelling tree) ≤ 16384 → is_utf8 (display spelling tree) ≡ true → parse (display spelling tree) rows ≡ done back
  pub says : labels (display spelling tree) name_list back ≡ tree

pub over : (text : List ℕ) (at : ℕ) → drop at text ≡ [] → text_over text at ≡ true
unfolding text_over token_from
over text at e =
    let t : token_at text at ≡ token (refuse 5) at 0 = (look-here text at [] e).token in
    rw (stands-is text no_token at (token (refuse 5) at 0) t, t)

whole : (spelling : Spelling) (l : Label) (kids : Forest Label) (rows : ℕ) → bare_label l ≡ l
    → TreeRead (display spelling (node l kids ∅)) (type_at (display spelling (node l kids ∅)) 64 0 rows) (bare_label l) kids [] → WholeRead spelling (node l kids ∅) rows
unfolding parse labels
whole spelling l kids rows b r =
    record {
      back = parented (single r.got);
      reads = λ short utf8. rw (first-type (display spelling (node l kids ∅)) rows short utf8, r.reads, over (display spelling (node l kids ∅)) r.got.next r.after);
      says = labels-parented (display spelling (node l kids ∅)) name_list (single r.got) ∙ (λ j. node ((r.row ∙ b) j) (r.below j) ∅);
    }

pub whole_read : (spelling : Spelling) (l : Label) (kids : Forest Label) (rows : ℕ) → PlainRows bare (node l kids ∅) → suc (depth kids) ≤ 64 → suc (count kids) ≤ rows
    → WholeRead spelling (node l kids ∅) rows
unfolding display shown
whole_read spelling l kids rows pl de enough =
    let text : List ℕ = type_text spelling l (shown spelling kids) in
    whole spelling l kids rows (bare_is l kids pl.0)
    ((all_read spelling text bare (node l kids ∅) 64 pl (omega arith)).0 0 rows []
    (begins spelling text l kids 0 0 [] pl.0.fits.kind tt (look-here text 0 (text ++ []) (sym (append-nil text)))) enough)
