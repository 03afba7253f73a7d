-- The reader (document 01, 'Types' and 'Numbers a caller may get'). A definition for each `parse_` function of the Rust.
-- A place is a number of bytes into the text. What is met first, from left to right, decides. A refusal's place is that of
-- the last token taken, one that is only looked at not counting (document 02, [2]).
use Rattle.std.specs.Prelude.{Bool, List, ◌++◌, map, ℕ, zero, suc, ◌+◌, ◌-◌, ◌%◌, ◌^◌, length, drop, replicate, nat_le, nat_eq, if◌then◌else◌}
use Rattle.tokenizer.specs.Answer.{Out, refused, done, refuse_at, ◌>>=◌}
use Rattle.tokenizer.specs.Utf8.{is_utf8}
use Rattle.tokenizer.specs.Token.{Standing, token_at, sort_of, value_of, is_negative, place_of, no_token, lparen, rparen, comma, colon, integer, double_quoted, single_quoted, type_word, time_unit, interval_unit, union_mode, map_sorted, nullability, field_word, some_word, none_word, x_word}
use Rattle.tokenizer.specs.declared.TokenKind.{TokenKind}
use Rattle.datatype.specs.Limits.{max_text, max_levels}
use Rattle.datatype.specs.Kind.{Shape, leaf, timestamp, time, interval, fixed, list, fixed_list, struct, union, dictionary, decimal, mapping, run_end_encoded, shape_of, is_word, unit_fits, decimal_fits, entries_refusal, ids_fit}
use Rattle.datatype.specs.Tree.{Forest, ∅, node, count, roots, Row}
use Rattle.datatype.specs.Table.{table_of}
use Rattle.parser.specs.declared.Extent.{Extent}

-- ---- rows

-- Where a name stands: its home, its start and its length.
pub record Name : Type 0 where
  pub home : ℕ
  pub start : ℕ
  pub size : ℕ

-- The three names of the name list.
abbrev pub item : Name
item = record { home = 2; start = 0; size = 4 }

abbrev pub run_ends : Name
run_ends = record { home = 2; start = 4; size = 8 }

abbrev pub values : Name
values = record { home = 2; start = 12; size = 6 }

-- A name read from the text, even `item`.
abbrev pub text_name : Standing → Name
text_name t = record { home = 1; start = t.start; size = t.size }

-- The row of a type that is no field: kind, words 4 and 5, and the zone.
abbrev pub bare_row : ℕ → ℕ → ℕ → ℕ → ℕ → Row
bare_row k param scale zone_start zone_length =
    record { kind = k; role = 0; union_id = 0; number = param; scale = scale; home = 0; name_start = 0; name_length = 0; zone_start = zone_start; zone_length = zone_length; parent = 0 }

-- The same row as a field's.
abbrev pub field_row : ℕ → ℕ → Name → Row → Row
field_row role id n r =
    record { kind = r.kind; role = role; union_id = id; number = r.number; scale = r.scale; home = n.home; name_start = n.start; name_length = n.size; zone_start = r.zone_start; zone_length = r.zone_length; parent = r.parent }

-- A type or a field that was read: its row, its children, and the place behind it.
pub record Tree : Type 0 where
  pub row : Row
  pub kids : Forest Row
  pub next : ℕ

-- Fields that were read, and the place behind them.
pub record Fields : Type 0 where
  pub trees : Forest Row
  pub next : ℕ

-- A string that was read or left out (length 0), and the place behind it.
pub record Zone : Type 0 where
  pub start : ℕ
  pub size : ℕ
  pub next : ℕ

-- How many rows a type or a field has.
abbrev pub rows_in : Tree → ℕ
rows_in t = suc (count t.kids)

-- A run of one tree, and of two.
abbrev pub single : Tree → Forest Row
single t = node t.row t.kids ∅

abbrev pub pair : Tree → Tree → Forest Row
pair t u = node t.row t.kids (node u.row u.kids ∅)

-- One turn of reading fields: they end, or a field was read, which is the last, or more may follow.
pub data Item : Type 0 where
  end : (next : ℕ) → Item
  last : (t : Tree) (next : ℕ) → Item
  more : (t : Tree) (next : ℕ) → Item

-- What a turn makes of the fields; `go` reads those that follow, at a place with so many rows left.
abbrev pub fields_from : (ℕ → ℕ → Out Fields) → ℕ → Item → Out Fields
fields_from go rows (end next) = done (record { trees = ∅; next = next })
fields_from go rows (last t next) = done (record { trees = single t; next = next })
fields_from go rows (more t next) = do
  fs ← go next (rows - rows_in t)
  done (record { trees = node t.row t.kids fs.trees; next = fs.next })

-- Fields turn by turn. The first number falls with each field and never runs out where it is above the rows left,
-- since each field takes a row.
unfoldable pub items_by : (ℕ → ℕ → Out Item) → ℕ → ℕ → ℕ → Out Fields
items_by item zero at rows = refuse_at 4 at
items_by item (suc most) at rows = item at rows >>= fields_from (items_by item most) rows

-- ---- signed bytes

-- A union id: 256 is added to a negative one, and -0 is 0.
abbrev pub id_of : Out TokenKind → ℕ
id_of k = if is_negative k then (256 - value_of k) % 256 else value_of k

-- A scale plus 128.
abbrev pub scale_of : Out TokenKind → ℕ
scale_of k = if is_negative k then 128 - value_of k else (128 + value_of k)

-- ---- tokens where one is needed

-- The refusal at a token that is not of the sort needed: 9, or its own where there is no token.
abbrev pub refusal_of : Out TokenKind → ℕ
refusal_of k = if nat_eq (sort_of k) no_token then value_of k else 9

-- A refusal at the place that a token has.
abbrev pub refuse_last : {A : Type 0} → ℕ → Out ℕ → Out A
refuse_last n token = token >>= λ place. refuse_at n place

-- The place of the mark that ends at a place.
abbrev pub mark_before : ℕ → ℕ
mark_before next = next - 1

module _ (text : List ℕ) where
  -- The place of the token at or behind a place: the text's length where none is left.
  unfoldable pub place_at : ℕ → ℕ
  place_at at = let t = token_at text at in place_of t.kind t.start

  -- A token of a sort is needed.
  unfoldable pub need : ℕ → ℕ → Out Standing
  need sort at =
      let t = token_at text at in
      if nat_eq (sort_of t.kind) sort then done t else refuse_at (refusal_of t.kind) (place_at at)

  -- A token is only looked at.
  unfoldable pub stands : ℕ → ℕ → Bool
  stands sort at = nat_eq (sort_of (token_at text at).kind) sort

  -- Nullability may be left out: nullable is the default. The role, and the place behind the word.
  unfoldable pub role_at : ℕ → ℕ
  role_at at = if stands nullability at then value_of (token_at text at).kind else 1

  unfoldable pub after_role : ℕ → ℕ
  after_role at = if stands nullability at then (token_at text at).next else at

  -- The last token taken where nullability was asked for behind a mark: the word, or that mark.
  unfoldable pub role_place : ℕ → ℕ
  role_place at = if stands nullability at then place_at at else mark_before at

  -- The word of a field's type, which stands behind the name, the colon and nullability.
  unfoldable pub word_place : ℕ → Out ℕ
  word_place at = do
    s ← need double_quoted at
    c ← need colon s.next
    done (place_at (after_role c.next))

  -- The last token of a field whose type has a kind and ends at a place: the word where the type is no more than that, else
  -- the mark that closes it.
  unfoldable pub last_token : ℕ → ℕ → ℕ → Out ℕ
  last_token at k next = if is_word k then word_place at else done (mark_before next)

  -- A number from -least to most; one outside is refused at the number.
  unfoldable pub number_in : ℕ → ℕ → ℕ → Out Standing
  number_in least most at = do
    t ← need integer at
    if nat_le (value_of t.kind) (if is_negative t.kind then least else most) then done t else refuse_at 10 (place_at at)

  -- A length: signed 32 bits, not negative. A precision: 0 to 255. A scale or a union id: signed 8 bits.
  abbrev pub length_at : ℕ → Out Standing
  length_at at = number_in 0 (2 ^ 31 - 1) at

  abbrev pub precision_at : ℕ → Out Standing
  precision_at at = number_in 0 255 at

  abbrev pub signed_byte_at : ℕ → Out Standing
  signed_byte_at at = number_in 128 127 at

  -- The unit of a kind: one that it does not take is refused at the unit.
  unfoldable pub unit_at : ℕ → ℕ → Out Standing
  unit_at k at = do
    u ← need time_unit at
    if unit_fits k (value_of u.kind) then done u else refuse_at 11 (place_at at)

  -- The mark that closes a type of a row and children.
  unfoldable pub close_at : Row → Forest Row → ℕ → Out Tree
  close_at r kids at = do
    c ← need rparen at
    done (record { row = r; kids = kids; next = c.next })

  -- ---- a timestamp's zone, behind the unit: ) or , and a string, Some(string) or None, and )

  -- behind the word Some: (string)
  unfoldable pub some_zone : ℕ → Out Zone
  some_zone at = do
    p ← need lparen at
    s ← need double_quoted p.next
    c ← need rparen s.next
    done (record { start = s.start; size = s.size; next = c.next })

  unfoldable pub zone_string : ℕ → Out Zone
  zone_string at =
      if stands none_word at then (do
        n ← need none_word at
        done (record { start = 0; size = 0; next = n.next }))
      else if stands some_word at then (do
        w ← need some_word at
        some_zone w.next)
      else (do
        s ← need double_quoted at
        done (record { start = s.start; size = s.size; next = s.next }))

  unfoldable pub zone_at : ℕ → Out Zone
  zone_at at =
      if stands rparen at then (do
        c ← need rparen at
        done (record { start = 0; size = 0; next = c.next }))
      else (do
        c ← need comma at
        z ← zone_string c.next
        e ← need rparen z.next
        done (record { start = z.start; size = z.size; next = e.next }))

  -- ---- types without children

  unfoldable pub timestamp_at : ℕ → ℕ → Out Tree
  timestamp_at k at = do
    p ← need lparen at
    u ← need time_unit p.next
    z ← zone_at u.next
    done (record { row = bare_row k (value_of u.kind) 0 z.start z.size; kids = ∅; next = z.next })

  unfoldable pub time_at : ℕ → ℕ → Out Tree
  time_at k at = do
    p ← need lparen at
    u ← unit_at k p.next
    close_at (bare_row k (value_of u.kind) 0 0 0) ∅ u.next

  unfoldable pub interval_at : ℕ → ℕ → Out Tree
  interval_at k at = do
    p ← need lparen at
    u ← need interval_unit p.next
    close_at (bare_row k (value_of u.kind) 0 0 0) ∅ u.next

  unfoldable pub fixed_size_binary_at : ℕ → ℕ → Out Tree
  fixed_size_binary_at k at = do
    p ← need lparen at
    n ← length_at p.next
    close_at (bare_row k (value_of n.kind) 0 0 0) ∅ n.next

  -- A decimal's scale and the mark that closes it. Precision and scale are judged together, behind the mark.
  unfoldable pub scale_at : ℕ → ℕ → ℕ → Out Tree
  scale_at k precision at = do
    s ← signed_byte_at at
    t ← close_at (bare_row k precision (scale_of s.kind) 0 0) ∅ s.next
    if decimal_fits k precision (scale_of s.kind) then done t else refuse_at 12 (mark_before t.next)

  unfoldable pub decimal_at : ℕ → ℕ → Out Tree
  decimal_at k at = do
    p ← need lparen at
    n ← precision_at p.next
    c ← need comma n.next
    scale_at k (value_of n.kind) c.next

  -- A list's name behind the comma: field: 'name'
  unfoldable pub list_name_at : ℕ → Out Standing
  list_name_at at = do
    f ← need field_word at
    c ← need colon f.next
    need single_quoted c.next

  -- What follows reads types one level down by `type`: a place and the rows left, to an answer.
  module _ (type : ℕ → ℕ → Out Tree) where
    -- ---- fields

    -- "name": [nullability] type, with a union id
    unfoldable pub field_at : ℕ → ℕ → ℕ → Out Tree
    field_at id at rows = do
      s ← need double_quoted at
      c ← need colon s.next
      t ← type (after_role c.next) rows
      done (record { row = field_row (role_at c.next) id (text_name s) t.row; kids = t.kids; next = t.next })

    -- [nullability] type, as a field of a name of the name list
    unfoldable pub default_field : Name → ℕ → ℕ → Out Tree
    default_field n at rows = do
      t ← type (after_role at) rows
      done (record { row = field_row (role_at at) 0 n t.row; kids = t.kids; next = t.next })

    -- [nullability] type [, field: 'name']: left out, the name is `item`
    unfoldable pub list_field : ℕ → ℕ → Out Tree
    list_field at rows = do
      t ← default_field item at rows
      if stands comma t.next then (do
        c ← need comma t.next
        s ← list_name_at c.next
        done (record { row = field_row t.row.role 0 (text_name s) t.row; kids = t.kids; next = s.next }))
          else done t

    -- One turn of a Struct's fields: the mark that closes them, or a field and the comma or the mark behind it.
    unfoldable pub struct_item : ℕ → ℕ → Out Item
    struct_item at rows =
        if stands rparen at then (do
          c ← need rparen at
          done (end c.next))
        else (do
          t ← field_at 0 at rows
          if stands comma t.next then (do
            c ← need comma t.next
            done (more t c.next))
              else (do
                c ← need rparen t.next
                done (last t c.next)))

    -- id: ("name": [nullability] type)
    unfoldable pub union_field : ℕ → ℕ → Out Tree
    union_field at rows = do
      i ← signed_byte_at at
      c ← need colon i.next
      p ← need lparen c.next
      t ← field_at (id_of i.kind) p.next rows
      close_at t.row t.kids t.next

    -- One turn of a Union's fields: the mark that closes them, or a comma and a field.
    unfoldable pub union_item : ℕ → ℕ → Out Item
    union_item at rows =
        if stands rparen at then (do
          c ← need rparen at
          done (end c.next))
        else (do
          c ← need comma at
          t ← union_field c.next rows
          done (more t t.next))

    -- RunEndEncoded's fields in the long form: run ends that are nullable are refused once their field is read.
    unfoldable pub named_run_ends : ℕ → ℕ → Out Fields
    named_run_ends at rows = do
      r ← field_at 0 at rows
      s ← (if nat_eq r.row.role 2 then done r else refuse_last 13 (last_token at r.row.kind r.next))
      c ← need comma s.next
      v ← field_at 0 c.next (rows - rows_in r)
      done (record { trees = pair r v; next = v.next })

    -- In the short form: two types, and nullable run ends are refused at once.
    unfoldable pub default_run_ends : ℕ → ℕ → Out Fields
    default_run_ends at rows =
        if nat_eq (role_at at) 2 then (do
          r ← default_field run_ends at rows
          c ← need comma r.next
          v ← default_field values c.next (rows - rows_in r)
          done (record { trees = pair r v; next = v.next }))
        else refuse_at 13 (role_place at)

    -- Two fields if a whole double-quoted string is next, else two types.
    unfoldable pub run_end_fields : ℕ → ℕ → Out Fields
    run_end_fields at rows = if stands double_quoted at then named_run_ends at rows else default_run_ends at rows

    -- Map's entries: refused once the whole field is read.
    unfoldable pub entries_at : ℕ → ℕ → Out Tree
    entries_at at rows = do
      t ← field_at 0 at rows
      let number = entries_refusal t.row.role t.row.kind (map (λ r. r.role) (roots t.kids))
      if nat_eq number 0 then done t else refuse_last number (last_token at t.row.kind t.next)

    -- FixedSizeList's child behind the length: `x` and a full list field, or a comma and a type, nullable `item`.
    unfoldable pub fixed_list_field : ℕ → ℕ → Out Tree
    fixed_list_field at rows =
        if stands x_word at then (do
          x ← need x_word at
          list_field x.next rows)
        else (do
          c ← need comma at
          t ← type c.next rows
          done (record { row = field_row 1 0 item t.row; kids = t.kids; next = t.next }))

    -- ---- types with children; so many rows are left for these

    unfoldable pub list_at : ℕ → ℕ → ℕ → Out Tree
    list_at k at rows = do
      p ← need lparen at
      t ← list_field p.next rows
      close_at (bare_row k 0 0 0 0) (single t) t.next

    unfoldable pub fixed_size_list_at : ℕ → ℕ → ℕ → Out Tree
    fixed_size_list_at k at rows = do
      p ← need lparen at
      n ← length_at p.next
      t ← fixed_list_field n.next rows
      close_at (bare_row k (value_of n.kind) 0 0 0) (single t) t.next

    unfoldable pub struct_at : ℕ → ℕ → ℕ → Out Tree
    struct_at k at rows = do
      p ← need lparen at
      fs ← items_by struct_item (suc rows) p.next rows
      done (record { row = bare_row k 0 0 0 0; kids = fs.trees; next = fs.next })

    -- Union ids are judged behind the mark that closes the type.
    unfoldable pub union_at : ℕ → ℕ → ℕ → Out Tree
    union_at k at rows = do
      p ← need lparen at
      m ← need union_mode p.next
      fs ← items_by union_item (suc rows) m.next rows
      if ids_fit (map (λ r. r.union_id) (roots fs.trees))
          then done (record { row = bare_row k (value_of m.kind) 0 0 0; kids = fs.trees; next = fs.next })
          else refuse_at 15 (mark_before fs.next)

    unfoldable pub dictionary_at : ℕ → ℕ → ℕ → Out Tree
    dictionary_at k at rows = do
      p ← need lparen at
      t ← type p.next rows
      c ← need comma t.next
      v ← type c.next (rows - rows_in t)
      close_at (bare_row k 0 0 0 0) (pair t v) v.next

    unfoldable pub map_at : ℕ → ℕ → ℕ → Out Tree
    map_at k at rows = do
      p ← need lparen at
      t ← entries_at p.next rows
      c ← need comma t.next
      s ← need map_sorted c.next
      close_at (bare_row k (value_of s.kind) 0 0 0) (single t) s.next

    unfoldable pub run_end_encoded_at : ℕ → ℕ → ℕ → Out Tree
    run_end_encoded_at k at rows = do
      p ← need lparen at
      fs ← run_end_fields p.next rows
      close_at (bare_row k 0 0 0 0) fs.trees fs.next

    -- What follows the word of kind k, by its shape.
    unfoldable pub shape_at : Shape → ℕ → ℕ → ℕ → Out Tree
    shape_at leaf k at rows = done (record { row = bare_row k 0 0 0 0; kids = ∅; next = at })
    shape_at timestamp k at rows = timestamp_at k at
    shape_at time k at rows = time_at k at
    shape_at interval k at rows = interval_at k at
    shape_at fixed k at rows = fixed_size_binary_at k at
    shape_at list k at rows = list_at k at rows
    shape_at fixed_list k at rows = fixed_size_list_at k at rows
    shape_at struct k at rows = struct_at k at rows
    shape_at union k at rows = union_at k at rows
    shape_at dictionary k at rows = dictionary_at k at rows
    shape_at decimal k at rows = decimal_at k at
    shape_at mapping k at rows = map_at k at rows
    shape_at run_end_encoded k at rows = run_end_encoded_at k at rows

    -- A type that begins where a level is left: it takes a row (4), then its word is judged. Without a level or a row left it
    -- is refused where its first token would begin.
    unfoldable pub type_with : ℕ → ℕ → Out Tree
    type_with at zero = refuse_at 4 (place_at at)
    type_with at (suc rows) = do
      t ← need type_word at
      shape_at (shape_of (value_of t.kind)) (value_of t.kind) t.next rows

  -- A type at a place, with so many levels and rows left.
  unfoldable pub type_at : ℕ → ℕ → ℕ → Out Tree
  type_at zero at rows = refuse_at 3 (place_at at)
  type_at (suc level) at rows = type_with (λ a r. type_at level a r) at rows

-- ---- the type that a text begins with

-- The whole text is judged first: its length (1), then its bytes (2). So many rows are lent.
unfoldable pub first_type : List ℕ → ℕ → Out Tree
first_type text rows =
    let tree = type_at text max_levels 0 rows in
    let utf8 = if is_utf8 text then tree else refuse_at 2 0 in
    if nat_le (length text) max_text then utf8 else refuse_at 1 max_text

-- What is answered for it: the place behind it and its row count, or the refusal.
unfoldable pub read_of : Out Tree → Out Extent
read_of (refused r) = refused r
read_of (done t) = done (record { next = t.next; used = rows_in t })

-- What the lent words hold behind it: the rows, and past them what they held before; all zeros on a refusal.
unfoldable pub rows_of : List ℕ → Out Tree → List ℕ
rows_of before (refused r) = replicate (length before) 0
rows_of before (done t) = table_of (single t) ++ drop (length (table_of (single t))) before
