-- Answers: a value, or a refusal (document 01, 'Numbers a caller may get').
use Rattle.std.specs.Prelude.{Option, Some, None, ℕ, Bool, ◌&&◌, nat_le}
use Rattle.std.specs.declared.result.Result.{Result}
use Rattle.std.specs.declared.result.Result.TheVariants.{Ok, Err}
use Rattle.tokenizer.specs.declared.refusal.Refusal as R
use Rattle.tokenizer.specs.declared.refusal.Refusal.TheVariants.{TextTooLong, NotUtf8, TooDeep, TooManyRows, TextEnds, StringNeverEnds, StringEmpty, UnknownWord, UnexpectedToken, NumberOutOfRange, WrongTimeUnit, WrongDecimal, MustBeNonNull, WrongMapEntries, WrongUnionId, TrailingText, NotSound, NotLatin, PrintTooLong}

-- A refusal, by its number; where in a text it was met, if it was met in one (document 02, [2]).
pub record Refusal : Type 0 where
  pub number : ℕ
  pub place : Option ℕ

pub data Out (A : Type 0) : Type 0 where
  refused : Refusal → Out A
  done : A → Out A

-- The refusal of a number, without a place: the printer's have none, and a token's is told by the token.
abbrev pub refuse : {A : Type 0} → ℕ → Out A
refuse n = refused (record { number = n; place = None })

-- The refusal of a number at a place of the text: the reader's.
abbrev pub refuse_at : {A : Type 0} → ℕ → ℕ → Out A
refuse_at n place = refused (record { number = n; place = Some place })

-- What comes first is met first: a refusal ends the reading.
infixl 10 ◌>>=◌
abbrev pub ◌>>=◌ : {A B : Type 0} → Out A → (A → Out B) → Out B
refused r >>= f = refused r
done a >>= f = f a

-- ---- the answers of the code

-- What a `Result` says, by what its error says: the value, or the refusal.
abbrev pub answer_by : {A E : Type 0} → (E → Refusal) → Result A E → Out A
answer_by says (Ok value) = done value
answer_by says (Err e) = refused (says e)

-- The same of an error that is a number: each crate's contracts cite it with the numbers of its own errors.
abbrev pub answer_of : {A E : Type 0} → (E → ℕ) → Result A E → Out A
answer_of number = answer_by (λ e. record { number = number e; place = None })

-- The numbers that a refusal may have.
abbrev pub is_number : ℕ → Bool
is_number n = nat_le 1 n && nat_le n 31

-- The number of each refusal (document 01, 'Numbers a caller may get').
abbrev pub number_of : R.Refusal → ℕ
number_of TextTooLong = 1
number_of NotUtf8 = 2
number_of TooDeep = 3
number_of TooManyRows = 4
number_of TextEnds = 5
number_of StringNeverEnds = 6
number_of StringEmpty = 7
number_of UnknownWord = 8
number_of UnexpectedToken = 9
number_of NumberOutOfRange = 10
number_of WrongTimeUnit = 11
number_of WrongDecimal = 12
number_of MustBeNonNull = 13
number_of WrongMapEntries = 14
number_of WrongUnionId = 15
number_of TrailingText = 16
number_of NotSound = 17
number_of NotLatin = 18
number_of PrintTooLong = 19
