-- What the groups of a number obey: written they read back, and what is read is spelled in one way only.
use Rattle.std.specs.Prelude.{ℕ, zero, suc, ◌+◌, ◌-◌, ◌*◌, ◌/◌, ◌%◌, ◌^◌, ◌≤◌, ◌<◌, ◌≡◌, refl, List, [], ◌∷◌, ◌++◌, Option, Some, None, Bool, true, false, cond, length, get_or, drop, eqb, ltb}
use Rattle.std.proofs.Common.{sym, ap, ◌∙◌, append_assoc, add-one, arith, length-append, length-drop, drop-cons, lt-ltb, le-ltb, ne_eqb, ltb-true, ltb-false}
use Rattle.std.proofs.Math.Nat.{pow-succ'}
use Rattle.std.proofs.Math.Seq.{get_or-append_seam}
use Rattle.std.proofs.lemmas.Bool.{eqb-false}
use Rattle.std.proofs.lemmas.Option.{none-some}
use Rattle.std.proofs.NetLemmas.Options.{same_parts}
use Rattle.numbers.specs.Number.{groups, number_bytes, joined, groups_at, number_at}

-- the clauses at a count that is not 0, as the code has it

pub groups_short : (left n : ℕ) → 1 ≤ left → n < 128 → groups left n ≡ n ∷ []
unfolding groups
groups_short zero n h k = let z : ⊥ = omega arith in absurd z
groups_short (suc l) n h k = simp (lt-ltb n 128 k)

pub groups_long : (left n : ℕ) → 1 ≤ left → 128 ≤ n → groups left n ≡ (n % 128 + 128) ∷ groups (left - 1) (n / 128)
unfolding groups
groups_long zero n h k = let z : ⊥ = omega arith in absurd z
groups_long (suc l) n h k = let e : suc l - 1 ≡ l = omega arith in simp (le-ltb n 128 k, e)

pub groups_size : (left n : ℕ) → length (groups left n) ≤ left
unfolding groups
groups_size zero n = omega arith
groups_size (suc l) n = cases (ltb n 128) (groups_size l (n / 128))
  where
    cases : (b : Bool) → length (groups l (n / 128)) ≤ l → length (cond b (n ∷ []) ((n % 128 + 128) ∷ groups l (n / 128))) ≤ suc l
    cases true ih = omega arith
    cases false ih = omega arith

pub groups_some : (left n : ℕ) → 1 ≤ length (groups (suc left) n)
unfolding groups
groups_some l n = cases (ltb n 128)
  where
    cases : (b : Bool) → 1 ≤ length (cond b (n ∷ []) ((n % 128 + 128) ∷ groups l (n / 128)))
    cases true = omega arith
    cases false = omega arith

pub groups_at_step : (bytes : List ℕ) (at left : ℕ) → 1 ≤ left → groups_at bytes at left ≡ cond (ltb at (length bytes)) (cond (ltb (get_or bytes at 0) 128) (Some (get_or bytes at 0, at + 1)) (joined (get_or bytes at 0 - 128) (groups_at bytes (at + 1) (left - 1)))) None
unfolding groups_at
groups_at_step bytes at zero h = let z : ⊥ = omega arith in absurd z
groups_at_step bytes at (suc l) h = let e : suc l - 1 ≡ l = omega arith in rw e

joined_value : (g v next : ℕ) → (v ≡ 0 → ⊥) → g + 128 * v < 2 ^ 32 → joined g (Some (v, next)) ≡ Some (g + 128 * v, next)
unfolding joined
joined_value g v next h k = simp (ne_eqb v 0 h, lt-ltb (g + 128 * v) (2 ^ 32) k)

-- from `at` to `next` the bytes are this spelling
pub record Spells (bytes : List ℕ) (at : ℕ) (spelling : List ℕ) (next : ℕ) : Type 0 where
  pub here : drop at bytes ≡ spelling ++ drop next bytes
  pub after : next ≡ at + length spelling

pub spells_append : (bytes : List ℕ) (at mid next : ℕ) (a b : List ℕ) → Spells bytes at a mid → Spells bytes mid b next → Spells bytes at (a ++ b) next
spells_append bytes at mid next a b p q = record {
  here = p.here ∙ ap (λ (l : List ℕ). a ++ l) q.here ∙ sym (append_assoc a b (drop next bytes));
  after = omega (arith, length-append a b);
}

pub spells_nothing : (bytes : List ℕ) (at : ℕ) → Spells bytes at [] at
spells_nothing bytes at = record { here = refl; after = omega arith }

-- a spelling that is not empty stands within the bytes
pub spells_inside : (bytes : List ℕ) (at next : ℕ) (a : List ℕ) → 1 ≤ length a → Spells bytes at a next → next ≤ length bytes
spells_inside bytes at next a h p =
    let e = ap length p.here ∙ length-append a (drop next bytes) in
    omega (arith, length-drop at bytes, length-drop next bytes)

-- what a slice of bytes holds
abbrev pub Bytes : List ℕ → Type 0
Bytes bytes = (i : ℕ) → get_or bytes i 0 < 256

-- ---- what is written reads back

within : (pre : List ℕ) (b : ℕ) (rest : List ℕ) → length pre < length (pre ++ (b ∷ rest))
within pre b rest = rw (length-append pre (b ∷ rest)) (omega arith)

read_last : (l b : ℕ) (pre rest : List ℕ) → b < 128 → groups_at (pre ++ (b ∷ rest)) (length pre) (suc l) ≡ Some (b, length pre + 1)
unfolding groups_at
read_last l b pre rest h = simp (lt-ltb _ _ (within pre b rest), get_or-append_seam, lt-ltb _ _ h)

read_more : (l b : ℕ) (pre rest : List ℕ) → 128 ≤ b → groups_at (pre ++ (b ∷ rest)) (length pre) (suc l) ≡ joined (b - 128) (groups_at (pre ++ (b ∷ rest)) (length pre + 1) l)
unfolding groups_at
read_more l b pre rest h = simp (lt-ltb _ _ (within pre b rest), get_or-append_seam, le-ltb _ _ h)

abbrev Reads : ℕ → ℕ → List ℕ → List ℕ → Type 0
Reads l n pre post = groups_at (pre ++ (groups (suc l) n ++ post)) (length pre) (suc l) ≡ Some (n, length pre + length (groups (suc l) n))

short : (l n : ℕ) (pre post : List ℕ) → n < 128 → Reads l n pre post
short l n pre post h = rw (groups_short (suc l) n (omega arith) h) (read_last l n pre post h)

long : (m n : ℕ) (pre post : List ℕ) → 128 ≤ n → n < 2 ^ 32 → Reads m (n / 128) (pre ++ ((n % 128 + 128) ∷ [])) post → Reads (suc m) n pre post
long m n pre post q k ih =
    let b = n % 128 + 128 in
    let e : b - 128 + 128 * (n / 128) ≡ n = omega arith in
    let f : length pre + 1 + length (groups (suc m) (n / 128)) ≡ length pre + suc (length (groups (suc m) (n / 128))) = omega arith in
    let o : suc (suc m) - 1 ≡ suc m = omega arith in
    rw (groups_long (suc (suc m)) n (omega arith) q, o)
    (read_more (suc m) b pre (groups (suc m) (n / 128) ++ post) (omega arith)
    ∙ ap (joined (b - 128)) (simp (append_assoc, length-append) at ih)
    ∙ joined_value (b - 128) (n / 128) _ (λ z. omega arith) (omega arith)
    ∙ simp (e, f))

groups_written : (l n : ℕ) (pre post : List ℕ) → n < 128 ^ suc l → n < 2 ^ 32 → Reads l n pre post
groups_written zero n pre post h k = short zero n pre post (omega arith)
groups_written (suc m) n pre post h k = cases (ltb n 128) refl (λ q. groups_written m (n / 128) (pre ++ ((n % 128 + 128) ∷ [])) post (omega (arith, pow-succ' 128 (suc m))) (omega arith))
  where
    cases : (b : Bool) → ltb n 128 ≡ b → (128 ≤ n → Reads m (n / 128) (pre ++ ((n % 128 + 128) ∷ [])) post) → Reads (suc m) n pre post
    cases true q ih = short (suc m) n pre post (ltb-true n 128 q)
    cases false q ih = long m n pre post (ltb-false n 128 q) k (ih (ltb-false n 128 q))

pub number_written : (n : ℕ) (pre post : List ℕ) → n < 2 ^ 32 → number_at (pre ++ (number_bytes n ++ post)) (length pre) ≡ Some (n, length pre + length (number_bytes n))
unfolding number_at number_bytes
number_written n pre post h = groups_written 4 n pre post (omega arith) h

-- ---- what is read has one spelling

joined_inv : (g : ℕ) (r : Option (ℕ × ℕ)) (n next : ℕ) → joined g r ≡ Some (n, next) → (v : ℕ) × ((r ≡ Some (v, next)) × ((1 ≤ v) × ((n ≡ g + 128 * v) × (n < 2 ^ 32))))
unfolding joined
joined_inv g None n next e = absurd (none-some _ e)
joined_inv g (Some (v, w)) n next e = cases (eqb v 0) refl (ltb (g + 128 * v) (2 ^ 32)) refl
  where
    cases : (a : Bool) → eqb v 0 ≡ a → (b : Bool) → ltb (g + 128 * v) (2 ^ 32) ≡ b → (u : ℕ) × ((◌≡◌ {A = Option (ℕ × ℕ)} (Some (v, w)) (Some (u, next))) × ((1 ≤ u) × ((n ≡ g + 128 * u) × (n < 2 ^ 32))))
    cases true p b q = absurd (none-some _ (simp p at e))
    cases false p false q = absurd (none-some _ (simp (p, q) at e))
    cases false p true q =
        let d = same_parts (g + 128 * v) n w next (simp (p, q) at e) in
        let m = d.0 in
        let o : v ≡ 0 → ⊥ = eqb-false v 0 p in
        let s = ltb-true (g + 128 * v) (2 ^ 32) q in
        (v, (ap (λ (k : ℕ). Some (v, k)) d.1, (omega arith, (sym m, omega arith))))

pub record NumberRead (bytes : List ℕ) (at n next : ℕ) (spelling : List ℕ) : Type 0 where
  pub spelled : Spells bytes at spelling next
  pub small : n < 2 ^ 32

groups_read : (l : ℕ) (bytes : List ℕ) (at n next : ℕ) → Bytes bytes → groups_at bytes at l ≡ Some (n, next) → NumberRead bytes at n next (groups l n)
unfolding groups_at
groups_read zero bytes at n next small e = absurd (none-some _ e)
groups_read (suc l) bytes at n next small e =
    cases (ltb at (length bytes)) refl (ltb (get_or bytes at 0) 128) refl (λ v r. groups_read l bytes (at + 1) v next small r)
  where
    cases : (a : Bool) → ltb at (length bytes) ≡ a → (b : Bool) → ltb (get_or bytes at 0) 128 ≡ b → ((v : ℕ) → groups_at bytes (at + 1) l ≡ Some (v, next) → NumberRead bytes (at + 1) v next (groups l v)) → NumberRead bytes at n next (groups (suc l) n)
    cases false p b q ih = absurd (none-some _ (simp p at e))
    cases true p true q ih =
        let d = same_parts (get_or bytes at 0) n (at + 1) next (simp (p, q) at e) in
        let a = d.0 in
        let m = d.1 in
        let h = ltb-true at (length bytes) p in
        let s : n < 128 = omega (arith, ltb-true (get_or bytes at 0) 128 q) in
        rw (groups_short (suc l) n (omega arith) s)
        (record { spelled = record { here = drop-cons bytes at 0 h ∙ simp (a, ← m, add-one); after = sym m }; small = omega arith })
    cases true p false q ih =
        let d = simp (p, q) at e in
        let i = joined_inv (get_or bytes at 0 - 128) (groups_at bytes (at + 1) l) n next d in
        let v = i.0 in
        let r = ih v i.1.0 in
        let o : 1 ≤ v = i.1.1.0 in
        let t : n ≡ get_or bytes at 0 - 128 + 128 * v = i.1.1.1.0 in
        let s = small at in
        let u = ltb-false (get_or bytes at 0) 128 q in
        let f : n / 128 ≡ v = omega arith in
        let g : n % 128 + 128 ≡ get_or bytes at 0 = omega arith in
        let k : suc l - 1 ≡ l = omega arith in
        rw (groups_long (suc l) n (omega arith) (omega arith), k, f, g)
        (record {
          spelled = record {
            here = drop-cons bytes at 0 (ltb-true at (length bytes) p) ∙ ap (λ (x : List ℕ). get_or bytes at 0 ∷ x) (ap (λ (k : ℕ). drop k bytes) (sym (add-one at)) ∙ r.spelled.here);
            after = omega (arith, r.spelled.after);
          };
          small = i.1.1.1.1;
        })

pub number_read : (bytes : List ℕ) (at n next : ℕ) → Bytes bytes → number_at bytes at ≡ Some (n, next) → NumberRead bytes at n next (number_bytes n)
unfolding number_at number_bytes
number_read bytes at n next small e = groups_read 5 bytes at n next small e
