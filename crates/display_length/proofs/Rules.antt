-- What the goals of each function cite: the laws of what it reads and calls, and of what it answers.
use Rattle.std.proofs.lemmas.Bool.Decides.{nat_tests}
use Rattle.tokenizer.proofs.Basics.{of_true, is_true}
use Rattle.datatype.proofs.KindShapes.{shape_by}
use Rattle.writer.proofs.DigitLaws.{digits_few}
use Rattle.display_length.proofs.LatinLaws.{latin_greatest, clean_heaviest, greatest-go, greatest-end, heaviest-go, heaviest-end, row_latin_is, pair_none, pair_one, pair_two, tree-clean, tree-latin}
use Rattle.display_length.proofs.CleanLaws.{clean_name, clean_zone}
use Rattle.row_table.proofs.NodeLaws.{kind_said, role_said, id_said, number_said, scale_said, name_said, zone_said, all_labels, all_nest, all_levels}
use Rattle.display_length.proofs.PrintedLaws.{printed-18, printed-length}
use Rattle.display_length.proofs.StringLaws.{left_all, left-next, left-none, lead-next, lead-end, plain-next, quoted-clean, quoted_few, zone-none, zone-some, zone_few, list_name_few}
use Rattle.display_length.proofs.TreeLaws.{single_length, single_word, tree-length, root-levels}
use Rattle.display_length.proofs.WordLaws.{word_few, unit_few, interval_few, mode_few, sorted_few, scale_few, comma_few, nullity_few}

-- ---- strings

pub ruleset is_latin_steps = (latin_greatest, greatest-go, greatest-end)

pub ruleset is_clean_steps = (clean_heaviest, heaviest-go, heaviest-end)

pub ruleset lead_steps = (lead-next, lead-end)

pub ruleset paired_steps = (left_all, left-next, left-none)

pub ruleset counted_steps = (left_all, plain-next, left-none)

pub ruleset quoted_steps = (quoted-clean, quoted_few)

pub ruleset zone_steps = (zone-none, zone-some, quoted_few)

-- ---- a row's own bytes

pub ruleset name_steps = (name_said, clean_name)

pub ruleset zone_part_steps = (zone_said, clean_zone)

pub ruleset behind_steps = (shape_by, nat_tests, number_said, scale_said, unit_few, interval_few, mode_few, sorted_few, digits_few, scale_few, zone_few)

pub ruleset field_steps = (role_said, quoted_few, nullity_few)

pub ruleset around_steps = (shape_by, nat_tests, role_said, id_said, comma_few, nullity_few, digits_few, list_name_few)

-- ---- what prints in double quotes

pub ruleset pair_steps = (pair_none, pair_one, pair_two)

pub ruleset row_latin_steps = (kind_said, zone_said, row_latin_is)

pub ruleset tree_latin_steps = (tree-clean, tree-latin, all_labels, all_nest, all_levels)

-- ---- the whole tree

pub ruleset single_steps = (single_length, single_word, word_few)

pub ruleset printed_steps = (of_true, is_true, printed-18, printed-length, root-levels, tree-length)
