-- What the loop over the regions knows of those passed: the first word of the one that covers the address; a second one ends the loop.
use Prim.Native.Nat.{ℕ, zero, suc, ◌<◌, ◌≤◌}
use mathlib.Core.Path.{◌≡◌, refl, sym, ap, subst, ◌∙◌}
use mathlib.Core.Logic.{⊎_elim}
use mathlib.Core.List.{List}
use mathlib.Core.Bool.{Bool, true, false}
use native.Mathlib.Nat.{eq-or-lt_of_le, le_of_suc-le-suc}
use native.Mathlib.Omega.{arith}
use lib.ListN.{get_or}
use Rattle.std.proofs.Common.{true≢false}
use Rattle.std.specs.Prelude.{Option, None, Some, is_some}
use Rattle.std.proofs.lemmas.Option.{none-some}
use Rattle.verdicts.specs.declared.Access.{Access}
use Rattle.editions.specs.Pmsav8.{Cover, Nowhere, Once, Twice, covers_at, cover_allows, counted, tally, cover_of, decided, covers_allow}

-- none was found, or the first word of the one
abbrev pub Known : List ℕ → Cover → Option ℕ → Type 0
Known rbars Nowhere found = found ≡ None
Known rbars (Once k) found = found ≡ Some (get_or rbars k 0)
Known rbars Twice found = ⊥

two_more : (b : Bool) (n : ℕ) → counted b n Twice ≡ Twice
unfolding counted
two_more true n = refl
two_more false n = refl

-- two stay two, whatever follows
two_stay : (test : ℕ → Bool) (i n : ℕ) → i ≤ n → tally test i ≡ Twice → tally test n ≡ Twice
unfolding tally
two_stay test i zero h q = let e : i ≡ 0 = omega arith in subst (λ (j : ℕ). tally test j ≡ Twice) e q
two_stay test i (suc n) h q =
    ⊎_elim (λ e. subst (λ (j : ℕ). tally test j ≡ Twice) e q)
    (λ l. ap (counted (test n) n) (two_stay test i n (le_of_suc-le-suc l) q) ∙ two_more (test n) n)
    (eq-or-lt_of_le h)

module _ (rbars rlars : List ℕ) (address : ℕ) where
  abbrev test : ℕ → Bool
  test i = covers_at rbars rlars address i

  module _ (i : ℕ) (found : Option ℕ) (k : Known rbars (tally test i) found) where
    -- region i covers the address, and none before it does
    pub first_one : is_some found ≡ false → test i ≡ true → Known rbars (tally test (suc i)) (Some (get_or rbars i 0))
    unfolding tally counted
    first_one e t = subst (λ (b : Bool). Known rbars (counted b i (tally test i)) (Some (get_or rbars i 0))) (sym t) (go (tally test i) k)
      where
        go : (c : Cover) → Known rbars c found → Known rbars (counted true i c) (Some (get_or rbars i 0))
        go Nowhere h = refl
        go (Once j) h = absurd (true≢false (ap is_some (sym h) ∙ e))
        go Twice h = absurd h

    -- it does not
    pub not_one : test i ≡ false → Known rbars (tally test (suc i)) found
    unfolding tally counted
    not_one t = subst (λ (b : Bool). Known rbars (counted b i (tally test i)) found) (sym t) k

    -- it does, and one before it does too: that decides
    pub second_one : is_some found ≡ true → test i ≡ true → (n : ℕ) → i < n → (access : Access) (privileged otherwise : Bool)
        → covers_allow rbars rlars access address privileged otherwise n ≡ false
    unfolding covers_allow cover_of decided tally counted
    second_one e t n l access privileged otherwise =
        ap (λ (c : Cover). decided rbars c access privileged otherwise)
        (two_stay test (suc i) n l (ap (λ (b : Bool). counted b i (tally test i)) t ∙ go (tally test i) k))
      where
        go : (c : Cover) → Known rbars c found → counted true i c ≡ Twice
        go Nowhere h = absurd (true≢false (sym e ∙ ap is_some h))
        go (Once j) h = refl
        go Twice h = absurd h

    -- all were passed, and one covers the address
    pub passed_one : (rbar : ℕ) → found ≡ Some rbar → (access : Access) (privileged otherwise : Bool)
        → covers_allow rbars rlars access address privileged otherwise i ≡ cover_allows rbar access privileged
    unfolding covers_allow cover_of decided
    passed_one rbar e access privileged otherwise = go (tally test i) k
      where
        go : (c : Cover) → Known rbars c found → decided rbars c access privileged otherwise ≡ cover_allows rbar access privileged
        go Nowhere h = absurd (none-some _ (sym h ∙ e))
        go (Once j) h =
            let f : Some (get_or rbars j 0) ≡ Some rbar = sym h ∙ e in
            let q : get_or rbars j 0 ≡ rbar = grind arith in
            rw q
        go Twice h = absurd h

    -- all were passed, and none does
    pub passed_none : found ≡ None → (access : Access) (privileged otherwise : Bool)
        → covers_allow rbars rlars access address privileged otherwise i ≡ otherwise
    unfolding covers_allow cover_of decided
    passed_none e access privileged otherwise = go (tally test i) k
      where
        go : (c : Cover) → Known rbars c found → decided rbars c access privileged otherwise ≡ otherwise
        go Nowhere h = refl
        go (Once j) h = absurd (none-some _ (sym e ∙ h))
        go Twice h = absurd h
