-- What the reader's functions answer: a value, or a refusal with its place (document 02, [2]).
use Rattle.std.specs.Prelude.{Some}
use Rattle.std.specs.declared.result.Result.{Result}
use Rattle.tokenizer.specs.Answer.{Refusal, Out, number_of, answer_by}
use Rattle.parser.specs.declared.error.ReadError.{ReadError}

-- The refusal that an error is.
unfoldable pub refusal_in : ReadError → Refusal
refusal_in e = record { number = number_of e.refusal; place = Some e.place }

-- What a `Result` says: the value, or the refusal.
abbrev pub read_answer : {A : Type 0} → Result A ReadError → Out A
read_answer = answer_by refusal_in
