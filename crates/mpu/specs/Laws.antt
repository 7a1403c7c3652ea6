-- Laws of the registers: what is kept stays kept, so a guard stays sound, once over its edition.
use Rattle.std.specs.Prelude.{ℕ, ◌+◌, ◌-◌, ◌*◌, ◌/◌, ◌%◌, ◌^◌, ◌<◌, ◌≤◌, ◌≡◌, List, Bool, cond, length, get_or, set, T, eqb}
use Rattle.std.proofs.Math.Path.{refl}
use Rattle.std.proofs.Common.{sym, ap, subst, ◌∙◌, arith, length-set, get_or-set_same, get_or-set_other}
use Rattle.std.proofs.Math.Bool.{true, false}
use Rattle.std.proofs.lemmas.List.{get_or-replicate}
use Rattle.std.proofs.Math.Dec.{ltb}
use borrow.Author.Tests.{ltb-false, eqb-true, eqb-false}
use Rattle.mpu.specs.declared.Mpu.{Mpu}
use Rattle.mpu.specs.declared.MpuRegister.{MpuRegister}
use Rattle.mpu.specs.declared.MpuRegister.TheVariants.{Kind, Control, Number, Base, Attributes, Rbar, Rlar, Mair0, Mair1, Missing}
use Rattle.mpu.specs.declared.Edition.{Edition}
use Rattle.mpu.specs.declared.Edition.TheVariants.{Pmsav7, Pmsav8}
use Rattle.mpu.specs.Pmsav8.{pmsav8_register_at, region_of, kept_word, kept_rlar, read_rbar, read_rlar, with_rbar, with_rlar, with_mair0, with_mair1}
use Rattle.mpu.specs.Registers.{fresh_mpu, mpu_register_at, kept_base, kept_attributes, read_mpu, write_number, with_base, write_base, with_attributes, write_mpu}
use Rattle.mpu.specs.Editions.{guard_register_at, kept_first, kept_second, kept_plain, belongs}
use Rattle.mpu.specs.Soundness.{SoundMpu}

pub kept_base_twice : (x : ℕ) → kept_base (kept_base x) ≡ kept_base x
unfolding kept_base
kept_base_twice x = omega arith

pub kept_base_word : (x : ℕ) → kept_base x ≤ 2 ^ 32 - 2 ^ 5
unfolding kept_base
kept_base_word x = omega arith

-- The four fields of attributes that are made of them.
module _ (a b c d : ℕ) (fa : a < 2) (fb : b < 2 ^ 3) (fc : c < 2 ^ 14) (fd : d < 2 ^ 6) where
  field_a : (a * 2 ^ 28 + b * 2 ^ 24 + c * 2 ^ 8 + d) / 2 ^ 28 % 2 ≡ a
  field_a = omega arith

  field_b : (a * 2 ^ 28 + b * 2 ^ 24 + c * 2 ^ 8 + d) / 2 ^ 24 % 2 ^ 3 ≡ b
  field_b = omega arith

  field_c : (a * 2 ^ 28 + b * 2 ^ 24 + c * 2 ^ 8 + d) / 2 ^ 8 % 2 ^ 14 ≡ c
  field_c = omega arith

  field_d : (a * 2 ^ 28 + b * 2 ^ 24 + c * 2 ^ 8 + d) % 2 ^ 6 ≡ d
  field_d = omega arith

  fields_kept : kept_attributes (a * 2 ^ 28 + b * 2 ^ 24 + c * 2 ^ 8 + d) ≡ a * 2 ^ 28 + b * 2 ^ 24 + c * 2 ^ 8 + d
  unfolding kept_attributes
  fields_kept = rw (field_a, field_b, field_c, field_d)

pub kept_attributes_twice : (x : ℕ) → kept_attributes (kept_attributes x) ≡ kept_attributes x
unfolding kept_attributes
kept_attributes_twice x =
    fields_kept (x / 2 ^ 28 % 2) (x / 2 ^ 24 % 2 ^ 3) (x / 2 ^ 8 % 2 ^ 14) (x % 2 ^ 6)
    (omega arith) (omega arith) (omega arith) (omega arith)

pub kept_attributes_word : (x : ℕ) → kept_attributes x < 2 ^ 32
unfolding kept_attributes
kept_attributes_word x = omega arith

pub kept_word_twice : (x : ℕ) → kept_word (kept_word x) ≡ kept_word x
unfolding kept_word
kept_word_twice x = omega arith

-- All bits of a word are kept.
pub word_kept : (x : ℕ) → x < 2 ^ 32 → x ≡ kept_word x
unfolding kept_word
word_kept x h = omega arith

pub kept_rlar_twice : (x : ℕ) → kept_rlar (kept_rlar x) ≡ kept_rlar x
unfolding kept_rlar
kept_rlar_twice x = whole (x / 2 ^ 5 % 2 ^ 27) (x % 2 ^ 4) (omega arith) (omega arith)
  where
    whole : (a b : ℕ) → a < 2 ^ 27 → b < 2 ^ 4 → (a * 2 ^ 5 + b) / 2 ^ 5 % 2 ^ 27 * 2 ^ 5 + (a * 2 ^ 5 + b) % 2 ^ 4 ≡ a * 2 ^ 5 + b
    whole a b h k =
        let high : (a * 2 ^ 5 + b) / 2 ^ 5 ≡ a = omega arith in
        let low : (a * 2 ^ 5 + b) % 2 ^ 4 ≡ b = omega arith in
        let all : a % 2 ^ 27 ≡ a = omega arith in
        rw (high, low, all)

-- A store of a kept word leaves kept words: once for the first and the second words, over the number.
kept_set : (kept : ℕ → ℕ) (words : List ℕ) (m x : ℕ) → kept x ≡ x → length words ≡ 8
    → ((n : ℕ) → n < 8 → kept (get_or words n 0) ≡ get_or words n 0)
    → (n : ℕ) → n < 8 → kept (get_or (set words m x) n 0) ≡ get_or (set words m x) n 0
kept_set kept words m x own l h n u = cases (eqb n m) refl
  where
    cases : (b : Bool) → eqb n m ≡ b → kept (get_or (set words m x) n 0) ≡ get_or (set words m x) n 0
    cases true q =
        let e = eqb-true n m q in
        let f : get_or (set words m x) n 0 ≡ x =
        ap (λ (j : ℕ). get_or (set words m x) j 0) e ∙ get_or-set_same words m x 0 (omega arith) in
        ap kept f ∙ own ∙ sym f
    cases false q =
        let f = get_or-set_other words m n x 0 (eqb-false n m q) in
        ap kept f ∙ h n u ∙ sym f

-- ---- either edition

-- one more test before what is settled
either_way : (e : Edition) (t : Bool) (r s : MpuRegister) → T (belongs e r) → T (belongs e s) → T (belongs e (cond t r s))
either_way e true r s p q = p
either_way e false r s p q = q

-- A guard's map has none but its own registers.
pub map_belongs : (e : Edition) (offset : ℕ) → T (belongs e (guard_register_at e offset))
unfolding guard_register_at mpu_register_at pmsav8_register_at belongs
map_belongs Pmsav7 offset = search either_way depth 30
map_belongs Pmsav8 offset = search either_way depth 30

zeros_kept : (e : Edition) → (kept_first e 0 ≡ 0) × (kept_second e 0 ≡ 0) × (kept_plain e 0 ≡ 0)
unfolding kept_first kept_second kept_plain kept_base kept_attributes kept_word kept_rlar
zeros_kept Pmsav7 = (refl, refl, refl)
zeros_kept Pmsav8 = (refl, refl, refl)

pub fresh_sound : (e : Edition) → SoundMpu e fresh_mpu
unfolding fresh_mpu
fresh_sound e =
    let z = zeros_kept e in
    record {
      control = omega arith;
      region = omega arith;
      eight_bases = refl;
      eight_attributes = refl;
      bases = λ n h. rw get_or-replicate z.0;
      attributes = λ n h. rw get_or-replicate z.1;
      mair0 = z.2;
      mair1 = z.2;
    }

-- A sound guard stays so with another control word or number, and with kept words put anew.
module _ (e : Edition) (g : Mpu) (s : SoundMpu e g) where
  select_sound : (c n : ℕ) → c < 8 → n < 8 → SoundMpu e (record { control = c; region = n; bases = g.bases; attributes = g.attributes; mair0 = g.mair0; mair1 = g.mair1 })
  select_sound c n h k =
      record { control = h; region = k; eight_bases = s.eight_bases; eight_attributes = s.eight_attributes; bases = s.bases; attributes = s.attributes; mair0 = s.mair0; mair1 = s.mair1 }

  first_sound : (r m x : ℕ) → r < 8 → kept_first e x ≡ x
      → SoundMpu e (record { control = g.control; region = r; bases = set g.bases m x; attributes = g.attributes; mair0 = g.mair0; mair1 = g.mair1 })
  first_sound r m x h k =
      record {
        control = s.control;
        region = h;
        eight_bases = length-set g.bases m x ∙ s.eight_bases;
        eight_attributes = s.eight_attributes;
        bases = kept_set (kept_first e) g.bases m x k s.eight_bases s.bases;
        attributes = s.attributes;
        mair0 = s.mair0;
        mair1 = s.mair1;
      }

  second_sound : (m x : ℕ) → kept_second e x ≡ x
      → SoundMpu e (record { control = g.control; region = g.region; bases = g.bases; attributes = set g.attributes m x; mair0 = g.mair0; mair1 = g.mair1 })
  second_sound m x k =
      record {
        control = s.control;
        region = s.region;
        eight_bases = s.eight_bases;
        eight_attributes = length-set g.attributes m x ∙ s.eight_attributes;
        bases = s.bases;
        attributes = kept_set (kept_second e) g.attributes m x k s.eight_attributes s.attributes;
        mair0 = s.mair0;
        mair1 = s.mair1;
      }

  plain_sound : (x y : ℕ) → kept_plain e x ≡ x → kept_plain e y ≡ y
      → SoundMpu e (record { control = g.control; region = g.region; bases = g.bases; attributes = g.attributes; mair0 = x; mair1 = y })
  plain_sound x y h k =
      record { control = s.control; region = s.region; eight_bases = s.eight_bases; eight_attributes = s.eight_attributes; bases = s.bases; attributes = s.attributes; mair0 = h; mair1 = k }

  write_number_sound : (x : ℕ) → SoundMpu e (write_number x g)
  unfolding write_number
  write_number_sound x = cases (ltb 7 x) refl
    where
      cases : (b : Bool) → ltb 7 x ≡ b → SoundMpu e (cond b g (record { control = g.control; region = x; bases = g.bases; attributes = g.attributes; mair0 = g.mair0; mair1 = g.mair1 }))
      cases true q = s
      cases false q = select_sound g.control x s.control (omega (arith, ltb-false 7 x q))

-- ---- a base, which only the first edition has

module _ (g : Mpu) (s : SoundMpu Pmsav7 g) where
  with_base_sound : (m x : ℕ) → m < 8 → SoundMpu Pmsav7 (with_base m x g)
  unfolding with_base kept_first
  with_base_sound m x h = first_sound Pmsav7 g s m m (kept_base x) h (kept_base_twice x)

  write_base_sound : (x : ℕ) → SoundMpu Pmsav7 (write_base x g)
  unfolding write_base
  write_base_sound x = cases (eqb (x / 2 ^ 4 % 2) 0) (ltb 7 (x % 2 ^ 4)) refl
    where
      cases : (b c : Bool) → ltb 7 (x % 2 ^ 4) ≡ c → SoundMpu Pmsav7 (cond b (with_base g.region x g) (cond c g (with_base (x % 2 ^ 4) x g)))
      cases true c q = with_base_sound g.region x s.region
      cases false true q = s
      cases false false q = with_base_sound (x % 2 ^ 4) x (omega (arith, ltb-false 7 (x % 2 ^ 4) q))

-- Writing any register of its own keeps a guard sound.
pub write_mpu_sound : (e : Edition) (r : MpuRegister) (x : ℕ) (g : Mpu) → T (belongs e r) → SoundMpu e g → SoundMpu e (write_mpu r x g)
unfolding write_mpu with_attributes with_rbar with_rlar with_mair0 with_mair1 belongs kept_first kept_second kept_plain
write_mpu_sound e Kind x g t s = s
write_mpu_sound e Control x g t s = select_sound e g s (x % 2 ^ 3) g.region (omega arith) s.region
write_mpu_sound e Number x g t s = write_number_sound e g s x
write_mpu_sound Pmsav7 Base x g t s = write_base_sound g s x
write_mpu_sound Pmsav8 Base x g t s = absurd t
write_mpu_sound Pmsav7 Attributes x g t s = second_sound Pmsav7 g s g.region (kept_attributes x) (kept_attributes_twice x)
write_mpu_sound Pmsav8 Attributes x g t s = absurd t
write_mpu_sound Pmsav7 (Rbar pair) x g t s = absurd t
write_mpu_sound Pmsav8 (Rbar pair) x g t s = first_sound Pmsav8 g s g.region (region_of pair g.region) (kept_word x) s.region (kept_word_twice x)
write_mpu_sound Pmsav7 (Rlar pair) x g t s = absurd t
write_mpu_sound Pmsav8 (Rlar pair) x g t s = second_sound Pmsav8 g s (region_of pair g.region) (kept_rlar x) (kept_rlar_twice x)
write_mpu_sound Pmsav7 Mair0 x g t s = absurd t
write_mpu_sound Pmsav8 Mair0 x g t s = plain_sound Pmsav8 g s (kept_word x) g.mair1 (kept_word_twice x) s.mair1
write_mpu_sound Pmsav7 Mair1 x g t s = absurd t
write_mpu_sound Pmsav8 Mair1 x g t s = plain_sound Pmsav8 g s g.mair0 (kept_word x) s.mair0 (kept_word_twice x)
write_mpu_sound e Missing x g t s = s

-- ---- what is read

either_small : (t : Bool) (x y k : ℕ) → x < k → y < k → cond t x y < k
either_small true x y k h l = h
either_small false x y k h l = l

pub region_small : (pair n : ℕ) → n < 8 → region_of pair n < 8
unfolding region_of
region_small pair n h = either_small (eqb pair 0) _ _ 8 (omega arith) (omega arith)

kept_first_word : (e : Edition) (x : ℕ) → kept_first e x < 2 ^ 32
unfolding kept_first kept_word
kept_first_word Pmsav7 x = omega (arith, kept_base_word x)
kept_first_word Pmsav8 x = omega arith

kept_second_word : (e : Edition) (x : ℕ) → kept_second e x < 2 ^ 32
unfolding kept_second kept_rlar
kept_second_word Pmsav7 x = kept_attributes_word x
kept_second_word Pmsav8 x = omega arith

kept_plain_word : (e : Edition) (x : ℕ) → kept_plain e x < 2 ^ 32
unfolding kept_plain kept_word
kept_plain_word Pmsav7 x = omega arith
kept_plain_word Pmsav8 x = omega arith

-- What a sound guard's registers read is a word.
pub read_mpu_word : (e : Edition) (r : MpuRegister) (g : Mpu) → SoundMpu e g → read_mpu r g < 2 ^ 32
unfolding read_mpu read_rbar read_rlar
read_mpu_word e Kind g s = omega arith
read_mpu_word e Control g s = omega (arith, s.control)
read_mpu_word e Number g s = omega (arith, s.region)
read_mpu_word e Base g s = omega (arith, kept_base_word (get_or g.bases g.region 0))
read_mpu_word e Attributes g s =
    subst (λ (w : ℕ). w < 2 ^ 32) (s.attributes g.region s.region) (kept_second_word e (get_or g.attributes g.region 0))
read_mpu_word e (Rbar pair) g s =
    let n = region_of pair g.region in
    subst (λ (w : ℕ). w < 2 ^ 32) (s.bases n (region_small pair g.region s.region)) (kept_first_word e (get_or g.bases n 0))
read_mpu_word e (Rlar pair) g s =
    let n = region_of pair g.region in
    subst (λ (w : ℕ). w < 2 ^ 32) (s.attributes n (region_small pair g.region s.region)) (kept_second_word e (get_or g.attributes n 0))
read_mpu_word e Mair0 g s = subst (λ (w : ℕ). w < 2 ^ 32) s.mair0 (kept_plain_word e g.mair0)
read_mpu_word e Mair1 g s = subst (λ (w : ℕ). w < 2 ^ 32) s.mair1 (kept_plain_word e g.mair1)
read_mpu_word e Missing g s = omega arith
