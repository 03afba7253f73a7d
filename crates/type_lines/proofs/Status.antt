-- What the exit status says of the run.
--   zero_ended  status 0: there was no argument, the reader is at its end, and the writer gained the answers to all that it gave
use Rattle.std.specs.Prelude.{Option, Some, None, Result, Ok, Err}
use mathlib.Core.Path.{◌≡◌, refl}
use mathlib.Core.List.{List}
use Prim.Native.Nat.{ℕ}
use Rattle.input_lines.specs.Streams.{Streams}
use Rattle.type_lines.specs.Streams.{Answered}
use Rattle.type_lines.specs.Turns.{History, Ended}
use Rattle.type_lines.specs.Start.{Starts, status_of}
use Rattle.type_lines.specs.declared.Ending.{Ending}
use Rattle.type_lines.specs.declared.Ending.TheVariants.{Argument, Lines}
use Rattle.std.specs.declared.env.FillError.{FillError}
use Rattle.std.specs.declared.env.FillError.TheVariants.{NotPresent, TooLong}

pub zero_ended : {I O : Type 0} (a : Result ℕ FillError) (e : Ending) (out : List ℕ) (stdin stdin' : I) (stdout stdout' : O) (s s' : Streams) (stderr stderr' : Option (List ℕ))
    → Starts a e out stdin stdin' stdout stdout' s s' stderr stderr' → status_of e ≡ 0 → (a ≡ Err NotPresent) × (h : History) × (n : ℕ) × Ended h n out × Answered s s' h.read
zero_ended (Err NotPresent) (Lines (Ok (Some n))) out stdin stdin' stdout stdout' s s' stderr stderr' k z = (refl, k.0.0, n, k.0.1.0, k.0.1.1)
zero_ended (Err NotPresent) (Lines (Ok None)) out stdin stdin' stdout stdout' s s' stderr stderr' k z = absurd (cc)
zero_ended (Err NotPresent) (Lines (Err _)) out stdin stdin' stdout stdout' s s' stderr stderr' k z = absurd (cc)
zero_ended (Err NotPresent) (Argument _) out stdin stdin' stdout stdout' s s' stderr stderr' k z = absurd (cc)
zero_ended (Err TooLong) (Lines _) out stdin stdin' stdout stdout' s s' stderr stderr' k z = absurd k
zero_ended (Err TooLong) (Argument _) out stdin stdin' stdout stdout' s s' stderr stderr' k z = absurd (cc)
zero_ended (Ok _) (Lines _) out stdin stdin' stdout stdout' s s' stderr stderr' k z = absurd k
zero_ended (Ok _) (Argument _) out stdin stdin' stdout stdout' s s' stderr stderr' k z = absurd (cc)
