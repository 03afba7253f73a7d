-- What the goals of each function cite: the laws of what it reads and calls, and of what it answers.
use Rattle.tokenizer.proofs.Marks.{word_first}
use Rattle.tokenizer.proofs.Numbers.{digit_least, digit_most, kind_start, kind_none, kind-out, kind-go, kind-other, kind-large, kind-beyond, kind-fits, first_there, word_minus, word_plain}
use Rattle.tokenizer.proofs.Runs.{spaces-out, spaces-stop, spaces-go, word_out, word-stop, word-go, quote-out, quote-stop, quote-go, ordinary-go, string-open, string-empty, string-whole}
use Rattle.tokenizer.proofs.Stands.{token-stands, start-stands, word-passed, word-sized, refused-passed, refused-sized, whole}
use Rattle.tokenizer.proofs.WordTokens.{walk-out, walk-stop, walk-beyond, walk-go, walk-lost, no_number, word_least, word_most, word_size, word_cut, word-walked, no_separator, by_end, by_mark, by_double, by_single, by_word, token-by}

-- ---- a text's spaces and strings

pub ruleset space_steps = (spaces-out, spaces-stop, spaces-go)

pub ruleset escaped_steps = (quote-out, quote-stop, quote-go)

pub ruleset quote_steps = (quote-out, quote-stop, ordinary-go)

pub ruleset letter_steps = (ordinary-go)

pub ruleset string_steps = (string-open, string-empty, string-whole)

-- ---- words

pub ruleset walk_steps = (word_out, word-stop, word-go, word_size, walk-out, walk-stop, walk-beyond, walk-go, walk-lost, no_number)

pub ruleset digit_steps = (digit_least, digit_most, kind_start, kind_none, kind-out, kind-go, kind-other, kind-large, kind-beyond, kind-fits)

pub ruleset sign_steps = (first_there, word_minus, word_plain)

pub ruleset number_steps = (word_least, word_most, word_size, word_cut)

pub ruleset word_steps = (word_first, word-walked)

-- ---- tokens

pub ruleset token_steps = (no_separator, by_end, by_mark, by_double, by_single, by_word)

pub ruleset table_steps = (token-by)

pub ruleset stands_steps = (word_least, token-stands, start-stands, word-passed, word-sized, refused-passed, refused-sized, whole)
