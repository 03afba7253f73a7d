-- One name for the definitions that a worked example computes with: `unfolding computed` unfolds them all.
use Rattle.tokenizer.specs.Internal.Computed as tokenizer
use Rattle.unchecked_rows.specs.Internal.Computed as subtrees
use Rattle.datatype.specs.Kind.{is_word}
use Rattle.parser.specs.Parse.{place_at, role_place, word_place, last_token, need, stands, role_at, after_role, number_in, unit_at, close_at, some_zone, zone_string, zone_at, timestamp_at, time_at, interval_at, fixed_size_binary_at, scale_at, decimal_at, list_name_at, field_at, default_field, list_field, struct_item, union_field, union_item, items_by, named_run_ends, default_run_ends, run_end_fields, entries_at, fixed_list_field, list_at, fixed_size_list_at, struct_at, union_at, dictionary_at, map_at, run_end_encoded_at, shape_at, type_with, type_at, first_type}

unfoldable pub computed : Unit {0}
unfolding
    tokenizer.computed subtrees.computed
    is_word place_at role_place word_place last_token need stands role_at after_role number_in unit_at close_at some_zone zone_string zone_at
    timestamp_at time_at interval_at fixed_size_binary_at scale_at decimal_at list_name_at field_at default_field list_field struct_item union_field union_item items_by
    named_run_ends default_run_ends
    run_end_fields entries_at fixed_list_field
    list_at fixed_size_list_at struct_at union_at dictionary_at map_at run_end_encoded_at shape_at type_with type_at first_type
computed = tt
