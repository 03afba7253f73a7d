-- What the functions use beside the definitions of their contracts.
use mathlib.Core.Path.{◌≡◌, refl, ap, ◌∙◌}
use mathlib.Core.Bool.{Bool, ◌&&◌}
use mathlib.Core.List.{List, [], ◌∷◌}
use Prim.Native.Nat.{ℕ}
use lib.ListN.{get_or, set}
use lib.Seq.{set-set, set-get_or}
use Rattle.std.specs.List.{list_all}
use Rattle.tokenizer.specs.Text.{all}

-- a word that is set and set back
pub put_back : (words : List ℕ) (i v : ℕ) → set (set words i v) i (get_or words i 0) ≡ words
put_back words i v = set-set words i v (get_or words i 0) ∙ set-get_or words i 0

pub list_all_is : (p : ℕ → Bool) (s : List ℕ) → list_all p s ≡ all p s
list_all_is p [] = refl
list_all_is p (b ∷ s) = ap (λ (r : Bool). p b && r) (list_all_is p s)
