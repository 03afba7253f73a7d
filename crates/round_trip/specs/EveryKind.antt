-- Demand 3's conditions can be met, by computation: the characters that they allow are the 314 that the demand says, and a
-- tree that has every one of the 41 kinds, and names and a zone of all these characters, meets them.
use Rattle.std.specs.Prelude.{◌≡◌, refl, Bool, true, false, ◌&&◌, ◌||◌, List, [], ◌∷◌, ◌++◌, ℕ, zero, suc, length, nat_eq, if◌then◌else◌}
use Prim.Native.Char.{code}
use Prim.Native.String.{String}
use Prim.Native.String as S
use Rattle.tokenizer.specs.Text.{bytes}
use Rattle.tokenizer.specs.Answer.{Out, refused, done}
use Rattle.datatype.specs.Limits.{max_rows}
use Rattle.datatype.specs.Kind.{kinds}
use Rattle.datatype.specs.Tree.{Forest, ∅, node, Row, name_list}
use Rattle.datatype.specs.Table.{table_of}
use Rattle.datatype_parse.specs.Internal.Computed as parser
use Rattle.datatype_parse.specs.Parse.{parse}
use Rattle.datatype_display.specs.Internal.Computed as printer
use Rattle.display_length.specs.declared.words.Spelling.{Spelling}
use Rattle.display_length.specs.declared.words.Spelling.TheVariants.{Us, Micro}
use Rattle.round_trip.specs.Plain.{is_plain, is_plain_byte, is_plain_text, all_plain, is_plain_tree, in_demand3}

-- ---- the characters

-- Printable ASCII without quote marks and the backslash, and what is plain above it, written out.
abbrev pub plain_ascii : String
plain_ascii = " !#$%&()*+,-./0123456789:;<=>?@ABCDEFGHIJKLMNOPQRSTUVWXYZ[]^_`abcdefghijklmnopqrstuvwxyz{|}~"

abbrev pub plain_latin : String
plain_latin = "¡¢£¤¥¦§¨©ª«¬®¯°±²³´µ¶·¸¹º»¼½¾¿ÀÁÂÃÄÅÆÇÈÉÊËÌÍÎÏÐÑÒÓÔÕÖ×ØÙÚÛÜÝÞßàáâãäåæçèéêëìíîïðñòóôõö÷øùúûüýþÿĀāĂăĄąĆćĈĉĊċČčĎďĐđĒēĔĕĖėĘęĚěĜĝĞğĠġĢģĤĥĦħĨĩĪīĬĭĮįİıĲĳĴĵĶķĸĹĺĻļĽľĿŀŁłŃńŅņŇňŉŊŋŌōŎŏŐőŒœŔŕŖŗŘřŚśŜŝŞşŠšŢţŤťŦŧŨũŪūŬŭŮůŰűŲųŴŵŶŷŸŹźŻżŽžſ"

abbrev pub codes : String → List ℕ
codes S.[] = []
codes (S.◌∷◌ c s) = code c ∷ codes s

pub plain_count : (length (codes plain_ascii) ≡ 92) × (length (codes plain_latin) ≡ 222)
plain_count = (refl, refl)

-- The plain characters among the n from c on.
abbrev pub plain_from : ℕ → ℕ → List ℕ
plain_from zero c = []
plain_from (suc n) c = let rest = plain_from n (suc c) in if is_plain c then c ∷ rest else rest

-- Of all characters up to U+03FF these are plain, and no others.
pub plain_characters : plain_from 0x400 0 ≡ codes plain_ascii ++ codes plain_latin
unfolding is_plain
plain_characters = refl

-- ---- a tree

abbrev pub plain_text : List ℕ
plain_text = bytes plain_ascii ++ bytes plain_latin

abbrev pub joined : List (List ℕ) → List ℕ
joined [] = []
joined (s ∷ ss) = s ++ joined ss

-- A text with every kind, both forms of RunEndEncoded, names `item`, `run_ends` and `values` in both homes, and every
-- plain character in the names of fields of Struct, List, Union, Map and RunEndEncoded and in a zone.
abbrev pub text : List ℕ
text =
    joined (
    bytes "Struct(\"" ∷ plain_text
    ∷ bytes "\": Null, \"b\": non-null Boolean, \"i\": Int8, \"i\": Int16, \"i\": Int32, \"i\": Int64, \"u\": UInt8, \"u\": UInt16, \"u\": UInt32, \"u\": UInt64, "
    ∷ bytes "\"f\": Float16, \"f\": Float32, \"f\": Float64, \"t\": Timestamp(us, \"" ∷ plain_text
    ∷ bytes "\"), \"d\": Date32, \"d\": Date64, \"t\": Time32(ms), \"t\": Time64(ns), \"d\": Duration(s), \"i\": Interval(MonthDayNano), "
    ∷ bytes "\"x\": Binary, \"x\": FixedSizeBinary(16), \"x\": LargeBinary, \"x\": BinaryView, \"s\": Utf8, \"s\": LargeUtf8, \"s\": Utf8View, "
    ∷ bytes "\"l\": List(Int8), \"l\": ListView(non-null Int8, field: '" ∷ plain_text
    ∷ bytes "'), \"l\": FixedSizeList(4 x Int8, field: 'item'), \"l\": LargeList(Int8), \"l\": LargeListView(Int8), "
    ∷ bytes "\"item\": Struct(), \"values\": Union(Dense, 5: (\"run_ends\": Int8), 100: (\"" ∷ plain_text
    ∷ bytes "\": non-null Utf8)), \"d\": Dictionary(Int8, Utf8), "
    ∷ bytes "\"d\": Decimal32(9, -128), \"d\": Decimal64(12, 3), \"d\": Decimal128(38, 0), \"d\": Decimal256(76, 76), "
    ∷ bytes "\"m\": Map(\"" ∷ plain_text ∷ bytes "\": non-null Struct(\"k\": non-null Utf8, \"v\": Int8), sorted), "
    ∷ bytes "\"r\": RunEndEncoded(non-null Int32, Utf8), \"r\": RunEndEncoded(\"" ∷ plain_text ∷ bytes "\": non-null Int16, \"values\": Utf8))"
    ∷ [])

-- The tree that it is read as meets the conditions, in either spelling.
abbrev pub meets_conditions : Spelling → Out (Forest Row) → Bool
meets_conditions spelling (refused r) = false
meets_conditions spelling (done f) = in_demand3 spelling text name_list (table_of f)

pub conditions_met : (spelling : Spelling) → meets_conditions spelling (parse text max_rows) ≡ true
unfolding parser.computed printer.computed is_plain_byte is_plain_text all_plain is_plain_tree in_demand3
conditions_met Us = refl
conditions_met Micro = refl

-- Every kind from 0 to 40 stands in it.
abbrev pub has_kind : ℕ → Forest Row → Bool
has_kind k ∅ = false
has_kind k (node r kids next) = nat_eq r.kind k || has_kind k kids || has_kind k next

abbrev pub has_kinds_below : ℕ → Forest Row → Bool
has_kinds_below zero f = true
has_kinds_below (suc k) f = has_kind k f && has_kinds_below k f

abbrev pub has_every_kind : Out (Forest Row) → Bool
has_every_kind (refused r) = false
has_every_kind (done f) = has_kinds_below kinds f

pub every_kind : has_every_kind (parse text max_rows) ≡ true
unfolding parser.computed
every_kind = refl
