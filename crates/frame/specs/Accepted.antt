-- Refusals 12 and 11 in exactly their cases: a stacking or an unstacking is accepted just where each fact below holds.
use Rattle.std.specs.Prelude.{ℕ, ◌+◌, ◌%◌, ◌^◌, ◌≤◌, ◌<◌, ◌≡◌, Bool}
use Rattle.frame.specs.Frame.{frame_at}

pub record Fits (base len : ℕ) : Type 0 where
  pub short : len ≤ 65536
  pub base4 : base % 4 ≡ 0
  pub ends : base + len ≤ 2 ^ 32

pub record Holds (base len frame : ℕ) : Type 0 where
  pub from : base ≤ frame
  pub upto : frame + 32 ≤ base + len

pub record StackAccepted (base len sp : ℕ) (align : Bool) : Type 0 where
  pub window : Fits base len
  pub sp4 : sp % 4 ≡ 0
  pub room : 32 ≤ sp
  pub holds : Holds base len (frame_at align sp)

pub record UnstackAccepted (base len sp : ℕ) : Type 0 where
  pub window : Fits base len
  pub sp4 : sp % 4 ≡ 0
  pub holds : Holds base len sp
  pub restored : sp + 32 < 2 ^ 32
