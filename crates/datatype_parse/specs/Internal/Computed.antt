-- One name for the definitions that a worked example computes with: `unfolding computed` unfolds them all.
use Rattle.datatype.specs.Kind.{is_word}
use Rattle.parser.specs.Internal.Computed as parser
use Rattle.datatype_parse.specs.Parse.{text_over, parse, parse_answer, parse_rows}

unfoldable pub computed : Unit {0}
unfolding parser.computed is_word text_over parse parse_answer parse_rows
computed = tt
