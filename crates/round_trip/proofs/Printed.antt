-- What a tree with plain names and zones prints in double quotes is Latin.
use mathlib.Core.List.{List, [], ◌∷◌}
use Prim.Native.Nat.{ℕ}
use native.Mathlib.Omega.{arith}
use lib.Dec.{T, leb}
use Rattle.tokenizer.specs.Text.{all}
use Rattle.tokenizer.proofs.Basics.{and_l, and_r, both, of_true}
use Rattle.datatype.specs.Tree.{Forest, ∅, node, roots, Label}
use Rattle.std.proofs.lemmas.Bool.Decides.{nat_tests}
use Rattle.display_length.specs.PrintedLength.{is_latin, names_latin, quoted_latin}
use Rattle.round_trip.specs.Plain.{is_plain_byte, is_plain_text, all_plain}
use Rattle.round_trip.proofs.Tokens.{plain_byte, plain_bytes}
use Rattle.round_trip.proofs.PlainRows.{plain_parts}

bytes_latin : (s : List ℕ) → T (all is_plain_byte s) → T (is_latin s)
bytes_latin [] h = tt
bytes_latin (c ∷ s) h =
    both (leb c 0xC5) (is_latin s) (of_true _ (plain_byte c (and_l (is_plain_byte c) (all is_plain_byte s) h)).most) (bytes_latin s (and_r (is_plain_byte c) (all is_plain_byte s) h))

plain_latin : (s : List ℕ) → T (is_plain_text s) → T (is_latin s)
plain_latin s h = bytes_latin s (plain_bytes s h)

names_latin_lem : (f : Forest Label) → T (all_plain f) → T (names_latin (roots f))
names_latin_lem ∅ h = tt
names_latin_lem (node l kids next) h =
    let p = plain_parts l kids next h in
    let a = plain_latin l.name p.0 in
    let n = names_latin_lem next p.3 in
    grind (arith, nat_tests)

-- no double-quoted name or zone holds a character above U+017F
pub plain_quoted : (f : Forest Label) → T (all_plain f) → T (quoted_latin f)
unfolding quoted_latin
plain_quoted ∅ h = tt
plain_quoted (node l kids next) h =
    let p = plain_parts l kids next h in
    let z = plain_latin l.zone p.1 in
    let n = names_latin_lem kids p.2 in
    let k = plain_quoted kids p.2 in
    let r = plain_quoted next p.3 in
    grind (arith, nat_tests)
