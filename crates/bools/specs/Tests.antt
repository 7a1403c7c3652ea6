-- Facts about tests: one that holds or fails, two of them as one, a choice by one.
use Rattle.std.specs.Prelude.{ℕ, ◌≡◌, refl, ◌⊎◌, Bool, true, false, not, cond, ◌&&◌, ◌||◌, T, eqb}
use Rattle.std.proofs.Common.{sym, subst, inl, inr}
use Rattle.std.proofs.Math.Dec.{eqb_refl}

-- ---- a test that holds, and one that fails

pub is_true : {b : Bool} → b ≡ true → T b
is_true e = subst T (sym e) tt

pub true_is : (b : Bool) → T b → b ≡ true
true_is true t = refl
true_is false t = absurd t

pub false_is : (b : Bool) → (T b → ⊥) → b ≡ false
false_is true f = absurd (f tt)
false_is false f = refl

pub is_false : {b : Bool} → b ≡ false → T b → ⊥
is_false e t = subst T e t

pub fails : {b : Bool} → b ≡ false → T (not b)
fails e = subst (λ b. T (not b)) (sym e) tt

pub same : (a b : ℕ) → a ≡ b → T (eqb a b)
same a b e = subst (λ x. T (eqb a x)) e (eqb_refl a)

-- ---- two tests as one

pub both : (a b : Bool) → T (a && b) → T a × T b
both true true t = (tt, tt)
both true false t = absurd t
both false b t = absurd t

pub and_l : (a b : Bool) → T (a && b) → T a
and_l a b t = (both a b t).0

pub and_r : (a b : Bool) → T (a && b) → T b
and_r a b t = (both a b t).1

pub join : (a b : Bool) → T a → T b → T (a && b)
join true true s t = tt
join true false s t = t
join false b s t = absurd s

pub either : (a b : Bool) → T (a || b) → T a ⊎ T b
either true b t = inl tt
either false b t = inr t

pub or_right : (a b : Bool) → T b → T (a || b)
or_right true b t = tt
or_right false b t = t

pub not_or_left : (a b : Bool) → T (not (a || b)) → T (not a)
not_or_left true b t = t
not_or_left false b t = tt

-- a test or else another, where the one that fails gives the other
pub or_of : (a b : Bool) → ((T a → ⊥) → T b) → T (a || b)
or_of true b f = tt
or_of false b f = f (λ t. t)

pub of_or : (a b : Bool) → T (a || b) → (T a → ⊥) → T b
of_or true b t f = absurd (f tt)
of_or false b t f = t

-- one test asks for another
abbrev pub implies : Bool → Bool → Bool
implies a b = not a || b

pub if_of : (a b : Bool) → (T a → T b) → T (implies a b)
if_of true b f = f tt
if_of false b f = tt

pub of_if : (a b : Bool) → T (implies a b) → T a → T b
of_if true b t u = t
of_if false b t u = absurd u

-- the same as equations: tests that both hold; the last one, where those before it hold; one that fails
pub and_true_of : {a b : Bool} → a ≡ true → b ≡ true → (a && b) ≡ true
and_true_of p q = simp (p, q)

pub and_last : {a b : Bool} → a ≡ true → b ≡ (a && b)
and_last p = simp p

pub and_true : (b : Bool) → (b && true) ≡ b
and_true true = refl
and_true false = refl

pub and_false_of : (a b : Bool) → b ≡ false → (a && b) ≡ false
and_false_of true b e = e
and_false_of false b e = refl

-- a test that another one asks for adds nothing to it
pub and_needed : (a b : Bool) → (T b → T a) → a && b ≡ b
and_needed true b f = refl
and_needed false true f = absurd (f tt)
and_needed false false f = refl

pub not_and_not : (a b : Bool) → not (a && not b) ≡ not a || b
not_and_not true true = refl
not_and_not true false = refl
not_and_not false b = refl

-- ---- a choice by a test

pub by_cases {ℓ} : {A : Type ℓ} (P : A → Type 0) (b : Bool) {x y : A} → (T b → P x) → (T (not b) → P y) → P (cond b x y)
by_cases P true f g = f tt
by_cases P false f g = g tt

-- what both choices pass
pub either_way : {A : Type 0} (p : A → Bool) (b : Bool) (x y : A) → T (p x) → T (p y) → T (p (cond b x y))
either_way p true x y s t = s
either_way p false x y s t = t

-- the choice, once the test is known
pub taken : {A : Type 0} (b : Bool) (x y : A) → b ≡ true → x ≡ cond b x y
taken b x y e = rw e refl

pub left : {A : Type 0} (b : Bool) (x y : A) → b ≡ false → y ≡ cond b x y
left b x y e = rw e refl

-- a flag set or cleared by a test
pub set_by : (b x : Bool) → cond b true x ≡ x || b
set_by true true = refl
set_by true false = refl
set_by false true = refl
set_by false false = refl

pub clear_by : (b x : Bool) → cond b false x ≡ x && not b
clear_by true true = refl
clear_by true false = refl
clear_by false true = refl
clear_by false false = refl
