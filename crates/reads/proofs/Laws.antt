-- A nest of bytes has a byte on top.
use Prim.Native.Nat.{ℕ, zero, suc, ◌<◌}
use mathlib.Core.List.{List}
use native.Mathlib.Omega.{arith}
use lib.ListN.{get_or}
use Rattle.rules.specs.Model.{down, top}

pub top_byte : (nest : List ℕ) (depth : ℕ) → ((i : ℕ) → get_or nest i 0 < 256) → top (down nest depth) < 256
top_byte nest zero h = omega arith
top_byte nest (suc d) h = h d
