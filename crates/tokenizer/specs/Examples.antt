-- Words that are nearly listed, and listed words of which one begins another: the tokens that they are, by computation.
use Rattle.std.specs.Prelude.{◌≡◌, refl, List, [], ◌∷◌, ◌++◌, ℕ, replicate}
use Rattle.tokenizer.specs.Answer.{Out, done, refuse}
use Rattle.tokenizer.specs.Text.{bytes}
use Rattle.tokenizer.specs.Token.{token_at}
use Rattle.tokenizer.specs.Internal.Computed.{computed}
use Rattle.tokenizer.specs.declared.TokenKind.{TokenKind}
use Rattle.tokenizer.specs.declared.TokenKind.TheVariants.{DataType, TimeUnit, MapSorted}

-- The kind of the first token of each text.
abbrev kinds : List (List ℕ) → List (Out TokenKind)
kinds [] = []
kinds (text ∷ more) = (token_at text 0).kind ∷ kinds more

abbrev all8 : List (List ℕ) → List (Out TokenKind)
all8 [] = []
all8 (text ∷ more) = refuse 8 ∷ all8 more

-- Behind these: the first byte of µ alone, a tab, a NUL byte, and a word as long as a text may be.
abbrev pub nearly : List (List ℕ)
nearly =
    bytes "Int"
    ∷ bytes "Utf8Vie"
    ∷ bytes "Decimal1"
    ∷ bytes "int8"
    ∷ bytes "Int8x"
    ∷ bytes "Int9"
    ∷ bytes "µ"
    ∷ bytes "μs"
    ∷ (194 ∷ [])
    ∷ (bytes "List" ++ (9 ∷ []))
    ∷ (bytes "Int8" ++ (0 ∷ []))
    ∷ replicate 16384 120
    ∷ []

pub none_listed : kinds nearly ≡ all8 nearly
unfolding computed
none_listed = refl

pub each_its_own : kinds (bytes "List" ∷ bytes "ListView" ∷ bytes "s" ∷ bytes "sorted" ∷ bytes "Int8" ∷ bytes "Int16" ∷ bytes "µs" ∷ [])
    ≡ done (DataType 27) ∷ done (DataType 28) ∷ done (TimeUnit 0) ∷ done (MapSorted 1) ∷ done (DataType 2) ∷ done (DataType 3) ∷ done (TimeUnit 2) ∷ []
unfolding computed
each_its_own = refl
