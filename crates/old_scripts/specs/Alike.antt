-- Two chips with different numbers of lines that hold the same, and answer the same.
use Rattle.std.specs.Prelude.{ℕ, ◌≡◌, List, [], ◌∷◌, false, get_or}
use Rattle.rules.specs.Model.{Model, Answer, stack, top}
use Rattle.rules.specs.Priorities.{execution}

-- The same at every number. Past the end of a list a read gives the clear value, so the longer list is the shorter one followed by clear places.
pub record Same {A : Type 0} (clear : A) (l r : List A) : Type 0 where
  pub each : (n : ℕ) → get_or l n clear ≡ get_or r n clear

-- the same flags, priority bytes, nest and counts of lost rises, and everything else equal
pub record Alike (m t : Model) : Type 0 where
  pub pending : Same false m.pending t.pending
  pub active : Same false m.active t.active
  pub enabled : Same false m.enabled t.enabled
  pub level : Same false m.level t.level
  pub priority : Same 0 m.priority t.priority
  pub nest : Same 0 m.nest t.nest
  pub lost : Same 0 m.lost t.lost
  pub core : m.core ≡ t.core

-- "the same output lines": every number of an answer, and the top of the nest and the execution priority that it leaves; and what it leaves is alike
pub record Agree (a b : Answer) : Type 0 where
  pub refusal : a.refusal ≡ b.refusal
  pub value : a.value ≡ b.value
  pub vector : a.vector ≡ b.vector
  pub link : a.link ≡ b.link
  pub topmost : top (stack a.next) ≡ top (stack b.next)
  pub priority : execution a.next ≡ execution b.next
  pub next : Alike a.next b.next

-- as many answers, and each agrees with its own
abbrev pub Agreeing : List Answer → List Answer → Type 0
Agreeing [] [] = Unit {0}
Agreeing [] (b ∷ ys) = ⊥
Agreeing (a ∷ xs) [] = ⊥
Agreeing (a ∷ xs) (b ∷ ys) = Agree a b × Agreeing xs ys
