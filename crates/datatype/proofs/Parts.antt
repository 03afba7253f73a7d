-- A name and a zone are no longer than what they are parts of.
--   name_short, zone_short
use Rattle.std.specs.Prelude.{if◌then◌else◌}
use mathlib.Core.Path.{◌≡◌, refl}
use mathlib.Core.Bool.{Bool, true, false}
use mathlib.Core.List.{List, []}
use Prim.Native.Nat.{ℕ, zero, suc, ◌+◌, ◌≤◌}
use native.Mathlib.Omega.{arith}
use lib.ListN.{length, take, drop, length-take, length-drop}
use lib.Dec.{leb}
use Rattle.datatype.specs.Tree.{part, name_of, zone_of}

part_short : (s : List ℕ) (start size m : ℕ) → length s ≤ m → length (part s start size) ≤ m
part_short s start size m h = go (leb (start + size) (length s)) refl
  where
    go : (b : Bool) → leb (start + size) (length s) ≡ b → length (if b then take size (drop start s) else []) ≤ m
    go true e = omega (arith, length-take size (drop start s), length-drop start s)
    go false e = omega arith

pub name_short : (text names : List ℕ) (home start size m : ℕ) → length text ≤ m → length names ≤ m → length (name_of text names home start size) ≤ m
unfolding name_of
name_short text names zero start size m h k = omega arith
name_short text names (suc zero) start size m h k = part_short text start size m h
name_short text names (suc (suc zero)) start size m h k = part_short names start size m k
name_short text names (suc (suc (suc home))) start size m h k = omega arith

pub zone_short : (text : List ℕ) (start size m : ℕ) → length text ≤ m → length (zone_of text start size) ≤ m
unfolding zone_of
zone_short text start size m h = part_short text start size m h
