-- Laws of PMSAv8: which addresses a region covers, what its rights are, and who decides. Two regions over an address fault, one decides, where
-- there is none the background does; and the order of the regions is of no account.
use Prim.Native.Nat.{ℕ, zero, suc, ◌*◌, ◌/◌, ◌%◌, ◌^◌, ◌<◌}
use Rattle.std.specs.Prelude.{◌≡◌, ◌⊎◌, List, map, Bool, get_or, T, eqb}
use Rattle.std.proofs.Math.Path.{refl, ap}
use Rattle.std.proofs.Common.{sym, subst, ◌∙◌, eq-or-lt_of_le, le_of_suc-le-suc, eqb→eq, leb→le, le→leb}
use Rattle.std.proofs.Math.Logic.{⊎_elim}
use Rattle.std.proofs.Math.Bool.{true, false, cond}
use native.Mathlib.Omega.{arith}
use Rattle.std.proofs.Math.ListN.{get_or-map}
use Rattle.bools.specs.Tests.{is_true, is_false, and_l, and_r, join}
use Rattle.bools.specs.Every.{every, of_every}
use Rattle.mpu.specs.declared.Mpu.{Mpu}
use Rattle.mpu.specs.declared.Edition.TheVariants.{Pmsav8}
use Rattle.verdicts.specs.declared.Access.{Access}
use Rattle.verdicts.specs.declared.Access.TheVariants.{Fetch}
use Rattle.verdicts.specs.declared.Rights.{Rights}
use Rattle.verdicts.specs.Verdict.{default_decides, background, system_fetch, fault_of}
use Rattle.editions.specs.Pmsav8.{Cover, Nowhere, Once, Twice, block_of, covers, rights_in, covers_at, cover_allows, counted, tally, cover_of, decided, covers_allow}
use Rattle.editions.specs.Editions.{guard_allows, guard_permits, guard_verdict}
use Rattle.editions.specs.EditionLaws.{regions_decide}
use Rattle.editions.specs.Pmsav8Laws.{Within, rows, row_of, row_at, numbers, Two, Says, Covered, Reordered, renamed}

clash : {b : Bool} → b ≡ true → b ≡ false → ⊥
clash p q = is_false q (is_true p)

pub within : (rbar rlar address : ℕ) → T (covers rbar rlar address) → Within rbar rlar address
unfolding covers
within rbar rlar address t =
    let l = leb→le (block_of rbar) (block_of address) (search (and_l, and_r)) in
    let h = leb→le (block_of address) (block_of rlar) (search (and_l, and_r)) in
    record { enabled = search (and_l, and_r); from = omega arith; to = omega arith }

pub covered : (rbar rlar address : ℕ) → Within rbar rlar address → T (covers rbar rlar address)
unfolding covers
covered rbar rlar address w =
    let on = w.enabled in
    let from = w.from in
    let to = w.to in
    let low = le→leb (block_of rbar) (block_of address) (omega arith) in
    let high = le→leb (block_of address) (block_of rlar) (omega arith) in
    search join

-- "A region whose last block is before its first covers nothing."
pub backwards_covers_nothing : (rbar rlar address : ℕ) → block_of rlar < block_of rbar → covers rbar rlar address ≡ false
backwards_covers_nothing rbar rlar address h = cases (covers rbar rlar address) refl
  where
    cases : (b : Bool) → covers rbar rlar address ≡ b → b ≡ false
    cases false q = refl
    cases true q =
        let w = within rbar rlar address (subst T (sym q) tt) in
        let z : ⊥ = omega (arith, w.from, w.to) in
        absurd z

pub four_rows : map row_at numbers ≡ rows
unfolding rights_in
four_rows = refl

by_rights : (rbar : ℕ) → row_of rbar ≡ row_at (rbar / 2 % 2 ^ 2)
unfolding rights_in
by_rights rbar =
    let low : rbar / 2 % 2 ≡ rbar / 2 % 2 ^ 2 * 2 / 2 % 2 = omega arith in
    let high : rbar / 2 ^ 2 % 2 ≡ rbar / 2 % 2 ^ 2 * 2 / 2 ^ 2 % 2 = omega arith in
    rw (low, high)

in_order : (n : ℕ) → n < 4 → get_or numbers n 0 ≡ n
unfolding every
in_order n h = eqb→eq (get_or numbers n 0) n (of_every (λ (i : ℕ). eqb (get_or numbers i 0) i) 4 n h tt)

-- So the rights of every region are the row of its bits 2:1; the other bits give no right and take none.
pub rights_row : (rbar : ℕ) → row_of rbar ≡ get_or rows (rbar / 2 % 2 ^ 2) (row_at 0)
rights_row rbar =
    let n = rbar / 2 % 2 ^ 2 in
    by_rights rbar
    ∙ sym (ap row_at (in_order n (omega arith)))
    ∙ sym (get_or-map row_at numbers n 0)
    ∙ ap (λ (l : List (Rights × Rights)). get_or l n (row_at 0)) four_rows

-- A fetch needs the right to read, and "no fetch 0" clear.
pub fetch_right : (rbar : ℕ) (privileged : Bool) → rbar % 2 ≡ 0 → cover_allows rbar Fetch privileged ≡ (rights_in rbar privileged).read
unfolding cover_allows
fetch_right rbar privileged e = rw e refl

pub fetch_forbidden : (rbar : ℕ) (privileged : Bool) → rbar % 2 ≡ 1 → cover_allows rbar Fetch privileged ≡ false
unfolding cover_allows
fetch_forbidden rbar privileged e = rw e refl

module _ (test : ℕ → Bool) where
  more : (n : ℕ) → Two test n → Two test (suc n)
  more n r =
      let a = r.one_below in
      let b = r.other_below in
      record { one = r.one; other = r.other; one_below = omega arith; other_below = omega arith; apart = r.apart; one_holds = r.one_holds; other_holds = r.other_holds }

  last : (n i : ℕ) → i < suc n → (i ≡ n) ⊎ (i < n)
  last n i h = eq-or-lt_of_le (le_of_suc-le-suc h)

  -- The tally says so,
  pub tally_says : (n : ℕ) → Says test n (tally test n)
  unfolding tally counted
  tally_says zero = λ i h. let z : ⊥ = omega arith in absurd z
  tally_says (suc n) = go (test n) refl (tally test n) (tally_says n)
    where
      go : (b : Bool) → test n ≡ b → (c : Cover) → Says test n c → Says test (suc n) (counted b n c)
      go false q Nowhere f = λ i h. ⊎_elim (λ e. ap test e ∙ q) (f i) (last n i h)
      go false q (Once k) r =
          record {
            below = let l = r.below in omega arith;
            holds = r.holds;
            alone = λ i h t. ⊎_elim (λ e. absurd (clash t (ap test e ∙ q))) (λ l. r.alone i l t) (last n i h);
          }
      go false q Twice r = more n r
      go true q Nowhere f =
          record {
            below = omega arith;
            holds = q;
            alone = λ i h t. ⊎_elim (λ e. e) (λ l. absurd (clash t (f i l))) (last n i h);
          }
      go true q (Once k) r =
          let l = r.below in
          record { one = n; other = k; one_below = omega arith; other_below = omega arith; apart = omega arith; one_holds = q; other_holds = r.holds }
      go true q Twice r = more n r

  -- and it says one thing only.
  says_one : (n : ℕ) (c d : Cover) → Says test n c → Says test n d → c ≡ d
  says_one n Nowhere Nowhere f g = refl
  says_one n Nowhere (Once k) f r = absurd (clash r.holds (f k r.below))
  says_one n Nowhere Twice f r = absurd (clash r.one_holds (f r.one r.one_below))
  says_one n (Once k) Nowhere r f = absurd (clash r.holds (f k r.below))
  says_one n (Once k) (Once j) r s = ap Once (s.alone k r.below r.holds)
  says_one n (Once k) Twice r s =
      absurd (s.apart (r.alone s.one s.one_below s.one_holds ∙ sym (r.alone s.other s.other_below s.other_holds)))
  says_one n Twice Nowhere r f = absurd (clash r.one_holds (f r.one r.one_below))
  says_one n Twice (Once k) s r =
      absurd (s.apart (r.alone s.one s.one_below s.one_holds ∙ sym (r.alone s.other s.other_below s.other_holds)))
  says_one n Twice Twice r s = refl

  pub tally_is : (n : ℕ) (c : Cover) → Says test n c → tally test n ≡ c
  tally_is n c s = says_one n (tally test n) c (tally_says n) s

module _ (g : Mpu) (access : Access) (address : ℕ) (privileged negative : Bool) (f : system_fetch access address ≡ false) (d : default_decides g.control address negative ≡ false) where
  cover_decides : (c : Cover) → Covered g address c
      → guard_verdict Pmsav8 g access address privileged negative ≡ cond (decided g.bases c access privileged (background g.control access address privileged)) 0 (fault_of access)
  unfolding guard_allows covers_allow cover_of
  cover_decides c s =
      regions_decide Pmsav8 g access address privileged negative f d
      ∙ ap (λ (x : Cover). cond (decided g.bases x access privileged (background g.control access address privileged)) 0 (fault_of access)) (tally_is (covers_at g.bases g.attributes address) 8 c s)

  -- "An address that two enabled regions cover faults", whatever the background is.
  pub two_fault : Covered g address Twice → guard_verdict Pmsav8 g access address privileged negative ≡ fault_of access
  unfolding decided
  two_fault s = cover_decides Twice s

  -- One region decides by its rights,
  pub one_decides : (k : ℕ) → Covered g address (Once k)
      → guard_verdict Pmsav8 g access address privileged negative ≡ cond (cover_allows (get_or g.bases k 0) access privileged) 0 (fault_of access)
  unfolding decided
  one_decides k s = cover_decides (Once k) s

  -- and where none covers the address, the background.
  pub none_background : Covered g address Nowhere
      → guard_verdict Pmsav8 g access address privileged negative ≡ cond (background g.control access address privileged) 0 (fault_of access)
  unfolding decided
  none_background s = cover_decides Nowhere s

module _ (n : ℕ) (a b x y : List ℕ) (o : Reordered n a b x y) (address : ℕ) where
  alike : (i : ℕ) → i < n → covers_at a b address i ≡ covers_at x y address (o.to i)
  alike i h = rw (o.first i h, o.second i h)

  alike_from : (i : ℕ) → i < n → covers_at a b address (o.from i) ≡ covers_at x y address i
  alike_from i h = alike (o.from i) (o.from_below i h) ∙ ap (covers_at x y address) (o.to_from i h)

  renamed_says : (c : Cover) → Says (covers_at a b address) n c → Says (covers_at x y address) n (renamed o.to c)
  renamed_says Nowhere f = λ i h. sym (alike_from i h) ∙ f (o.from i) (o.from_below i h)
  renamed_says (Once k) r =
      record {
        below = o.to_below k r.below;
        holds = sym (alike k r.below) ∙ r.holds;
        alone = λ i h t. sym (o.to_from i h) ∙ ap o.to (r.alone (o.from i) (o.from_below i h) (alike_from i h ∙ t));
      }
  renamed_says Twice r =
      record {
        one = o.to r.one;
        other = o.to r.other;
        one_below = o.to_below r.one r.one_below;
        other_below = o.to_below r.other r.other_below;
        apart = λ e. r.apart (sym (o.from_to r.one r.one_below) ∙ ap o.from e ∙ o.from_to r.other r.other_below);
        one_holds = sym (alike r.one r.one_below) ∙ r.one_holds;
        other_holds = sym (alike r.other r.other_below) ∙ r.other_holds;
      }

  order_allows : (access : Access) (privileged otherwise : Bool) → covers_allow a b access address privileged otherwise n ≡ covers_allow x y access address privileged otherwise n
  unfolding covers_allow cover_of decided
  order_allows access privileged otherwise =
      go (tally (covers_at a b address) n) (tally_says (covers_at a b address) n)
      ∙ ap (λ (c : Cover). decided x c access privileged otherwise) (sym (tally_is (covers_at x y address) n (renamed o.to (tally (covers_at a b address) n)) (renamed_says (tally (covers_at a b address) n) (tally_says (covers_at a b address) n))))
    where
      go : (c : Cover) → Says (covers_at a b address) n c → decided a c access privileged otherwise ≡ decided x (renamed o.to c) access privileged otherwise
      go Nowhere s = refl
      go (Once k) s = rw (o.first k s.below)
      go Twice s = refl

-- Two guards with the same control word and the same regions, in whatever order, give the same verdicts. So neither the selected number nor the
-- plain words count.
pub order_verdict : (g h : Mpu) (access : Access) (address : ℕ) (privileged negative : Bool) → g.control ≡ h.control
    → Reordered 8 g.bases g.attributes h.bases h.attributes
    → guard_verdict Pmsav8 g access address privileged negative ≡ guard_verdict Pmsav8 h access address privileged negative
unfolding guard_verdict guard_permits guard_allows
order_verdict g h access address privileged negative e o =
    rw (order_allows 8 g.bases g.attributes h.bases h.attributes o address access privileged (background g.control access address privileged), e)
