-- One name for the definitions that a worked example computes with: `unfolding computed` unfolds them all.
use Rattle.tokenizer.specs.Internal.Computed as tokenizer
use Rattle.row_table.specs.Internal.Computed as row_table
use Rattle.writer.specs.Digits.{digits_with, digits}
use Rattle.display_length.specs.Display.{kind_word, microsecond_text, unit_text, interval_text, mode_text, sorted_text, scale_text, unicode_text, escape, escape_pair, escape_next, escaped_from, escaped, quoted, nullity_text, field_text, list_name_text, list_field_text, struct_text, union_text, zone_text, default_names, run_end_text, shape_text, type_text, shown, display, own_length, display_length}
use Rattle.display_length.specs.PrintedLength.{quotes_names, quoted_latin}
use Rattle.datatype_display.specs.Print.{default_spelling, print, print_answer, print_bytes}

unfoldable pub computed : Unit {0}
unfolding
    tokenizer.computed row_table.computed
    kind_word digits_with digits microsecond_text unit_text interval_text mode_text sorted_text scale_text unicode_text escape escape_pair escape_next escaped_from escaped quoted nullity_text field_text
    list_name_text list_field_text struct_text union_text zone_text default_names run_end_text shape_text type_text shown display
    own_length display_length quotes_names quoted_latin default_spelling print print_answer print_bytes
computed = tt
