-- What the returns of each function cite: the answers of its calls, and its own laws.
use Rattle.parser.proofs.Matched.{handed_on, got-fields, got-tree, got_look, got_next, got_span, got_token, got_zone, handed, lost-fields, lost-tree, lost_integer, lost_look, lost_next, lost_span, lost_token, lost_word, lost_zone}
use Rattle.parser.proofs.FieldLaws.{fields-handed, fields-refused, long-1, long-2, long-last, long-3, long-4, long-5, run-ends-long, run-ends-short, short-1, short-2, short-3, short-4, short-5, union-1, union-2, union-3, union-4, union-5, union-6}
use Rattle.parser.proofs.FirstType.{first_read, lent_fits, lent_room, lent_words, not-utf8, refused-answer, refused-rows, text-read, text-refused, too_long}
use Rattle.parser.proofs.Places.{word-place-1, word-place-2, word-place-3}
use Rattle.parser.proofs.Looks.{needed-stands, refused-stands}
use Rattle.parser.proofs.Loops.{loop-most}
use Rattle.parser.proofs.Parents.{dictionary-1, dictionary-2, dictionary-3, dictionary-4, dictionary-5, fixed-list-1, fixed-list-2, fixed-list-3, fixed-list-4, fixed-list-5, fixed-list-6, fixed-list-7, list-1, list-2, list-3, map-1, map-2, map-3, map-last, map-4, map-5, map-6, run-end-1, run-end-2, run-end-3}
use Rattle.parser.proofs.Readers.{closed-done, closed-lost, decimal-1, decimal-2, decimal-3, decimal-4, field-1, field-2, field-3, field-5, fixed-3, interval-3, list-field-1, list-field-2, list-field-3, list-field-4, meets-handed, meets-refused, name-1, name-2, name-3, scale-1, scale-2, scale-3, scale-4, time-3, timestamp-1, timestamp-2, timestamp-3, timestamp-5, value-1, value-2}
use Rattle.parser.proofs.Stores.{from_length}
use Rattle.parser.proofs.TokenLaws.{after-here, after-out, expect-found, expect-refused, gone, integer-found, integer-fits, integer-refused, interval-unit-here, look-here, look-not, lost, map-sorted-here, next-here, next-refused, null-not, null-other, role-here, role-out, span-here, span-refused, stands-gone, stands-lost, stands_here, time-unit-here, type-word-here, union-mode-here, word-refused, word_lost}
use Rattle.parser.proofs.Types.{struct-1, struct-2, struct-4, struct-loop, struct-start, type-decimal, type-deep, type-dictionary, type-fixed, type-fixed-list, type-full, type-interval, type-list, type-map, type-run-ends, type-struct, type-time, type-timestamp, type-union, type-word, union-at-1, union-at-2, union-loop, union-start}
use Rattle.parser.proofs.ZoneLaws.{byte-in, byte-out, list-name-fits, name-fits, number_lost, positive-out, some-1, some-2, some-3, some-4, unit-1, unit-2, unit-3, zone-1, zone-2, zone-3, zone-4, zone-5, zone-fits, zone-lost, zone-none, zone-other, zone-some, zone-string, zone_done, zone_refused}

pub ruleset word_place_steps = (handed_on, handed, word-place-1, lost_span, got_span, word-place-2, lost_next, word-place-3)

pub ruleset text_steps = (text-refused, too_long, not-utf8, lent_fits, lent_words, lent_room, text-read)

pub ruleset i64_steps = (handed_on, handed, integer-refused, lost, integer-found, integer-fits, gone)

pub ruleset close_steps = (handed_on, closed-lost, lost_next, got_next, closed-done)

pub ruleset unsigned_steps = (handed_on, handed, word-refused, number_lost, lost_integer, positive-out)

pub ruleset word_steps = (handed_on, word_lost, type-word-here, time-unit-here, interval-unit-here, union-mode-here, map-sorted-here, word-refused, gone)

pub ruleset string_steps = (handed_on, handed, span-refused, lost, span-here, gone)

pub ruleset dictionary_steps = (handed_on, meets-handed, dictionary-1, lost_next, got_next, dictionary-2, lost-tree, dictionary-3, got-tree, dictionary-4, dictionary-5, from_length)

pub ruleset field_steps = (handed_on, meets-handed, field-1, lost_span, got_span, field-2, lost_next, got_next, field-3, lost-tree, name-fits, field-5, got-tree)

pub ruleset fixed_size_list_steps = (handed_on, meets-handed, fixed-list-1, lost_next, got_next, fixed-list-2, lost_word, got_look, lost_look, lost-tree, got-tree, fixed-list-3, fixed-list-4, fixed-list-5, fixed-list-6, fixed-list-7)

pub ruleset list_steps = (handed_on, meets-handed, list-1, lost_next, list-2, got_next, lost-tree, list-3, got-tree)

pub ruleset list_field_steps = (handed_on, meets-handed, list-field-1, lost-tree, lost_look, list-field-2, got-tree, refused-stands, got_look, list-field-3, needed-stands, lost_span, got_span, list-name-fits, list-field-4)

pub ruleset map_steps = (handed_on, map-last, meets-refused, meets-handed, map-1, lost_next, got_next, map-2, lost-tree, lost_word, got-tree, map-3, map-4, map-5, map-6)

pub ruleset next_type_steps = (handed_on, meets-refused, type-deep, type-full, meets-handed, type-word, lost_word, type-timestamp, type-time, type-interval, type-fixed, type-list, type-fixed-list, type-struct, type-union, type-dictionary, type-decimal, type-map, type-run-ends)

pub ruleset run_end_encoded_steps = (handed_on, meets-handed, run-end-1, lost_next, got_next, run-end-2, lost-fields, run-ends-long, run-end-3, got-fields, run-ends-short)

pub ruleset struct_steps = (handed_on, meets-handed, struct-1, lost_next, lost_look, got_look, lost-tree, got-tree, struct-start, loop-most, struct-loop, struct-2, struct-4, from_length)

pub ruleset union_steps = (handed_on, meets-handed, union-at-1, lost_next, got_next, union-at-2, lost_word, got-tree, union-start, loop-most, union-loop, from_length)

pub ruleset union_field_steps = (handed_on, meets-handed, union-1, lost_integer, lost_next, got_next, lost-tree, got-tree, union-2, union-3, union-4, union-5, union-6)

pub ruleset ree_fields_steps = (handed_on, long-last, fields-handed, fields-refused, long-1, lost-tree, got-tree, lost_next, got_next, long-2, long-3, long-4, long-5, from_length)

pub ruleset ree_types_steps = (handed_on, fields-refused, short-1, fields-handed, lost_next, got_next, lost-tree, got-tree, short-2, short-3, short-4, short-5, from_length)

pub ruleset timestamp_steps = (handed_on, meets-handed, timestamp-1, lost_next, got_next, timestamp-2, lost_word, zone-fits, got_zone, timestamp-3, timestamp-5, lost_zone)

pub ruleset value_steps = (handed_on, meets-handed, value-1, lost_next, got_next, value-2, lost_word, time-3, interval-3, fixed-3)

pub ruleset decimal_steps = (handed_on, meets-handed, decimal-1, lost_next, got_next, decimal-2, lost_word, decimal-3, decimal-4)

pub ruleset unit_steps = (handed_on, handed, unit-1, lost_word, unit-2, unit-3)

pub ruleset some_steps = (handed_on, handed, zone_refused, some-1, lost_next, got_next, some-2, lost_span, got_span, some-3, zone_done, some-4)

pub ruleset next_if_x_steps = (look-here, look-not, stands-lost, stands-gone)

pub ruleset expect_field_steps = (handed_on, handed, next-refused, lost, next-here, gone)

pub ruleset expect_token_steps = (expect-found, expect-refused)

pub ruleset list_name_steps = (handed_on, handed, span-refused, name-1, lost_next, got_next, name-2, name-3)

pub ruleset scale_steps = (handed_on, meets-handed, scale-1, lost_integer, scale-2, scale-3, scale-4)

pub ruleset i8_steps = (handed_on, handed, integer-refused, number_lost, lost_integer, byte-out, byte-in)

pub ruleset zone_string_steps = (handed_on, handed, zone_refused, zone-lost, lost_token, zone_done, zone-none, got_token, zone-some, zone-string, zone-other)

pub ruleset zone_steps = (handed_on, got_look, zone_done, zone-1, lost_look, handed, zone_refused, zone-2, lost_next, got_next, zone-3, lost_zone, zone-4, got_zone, zone-5)

pub ruleset peek_double_quoted_steps = (stands-lost, stands_here, stands-gone)

pub ruleset nullability_steps = (role-out, after-out, null-other, stands-lost, null-not, role-here, after-here)

pub ruleset first_type_steps = (first_read, refused-answer, refused-rows)
