-- A sound guard: "each field holds only the bits kept here" (document 01, "The chip"), which are those of its edition (document 02, E12), as
-- a test and as what it means.
use Rattle.std.specs.Prelude.{ℕ, ◌<◌, ◌≡◌, List, Bool, ◌&&◌, length, get_or, T, eqb, ltb}
use Rattle.std.proofs.Common.{ltb→lt, lt→ltb, eqb→eq}
use Rattle.bools.specs.Tests.{same, and_l, and_r, join}
use Rattle.bools.specs.Every.{every, every_of, of_every}
use Rattle.mpu.specs.declared.Mpu.{Mpu}
use Rattle.mpu.specs.declared.Edition.{Edition}
use Rattle.mpu.specs.Editions.{kept_first, kept_second, kept_plain}

-- The two words of region n are bits that are kept.
abbrev base_kept : Edition → List ℕ → ℕ → Bool
base_kept e bases n = eqb (kept_first e (get_or bases n 0)) (get_or bases n 0)

abbrev attributes_kept : Edition → List ℕ → ℕ → Bool
attributes_kept e attributes n = eqb (kept_second e (get_or attributes n 0)) (get_or attributes n 0)

unfoldable pub region_kept : Edition → List ℕ → List ℕ → ℕ → Bool
region_kept e bases attributes n = base_kept e bases n && attributes_kept e attributes n

-- So are the two plain words, which are 0 in the first edition.
unfoldable pub plain_kept : Edition → Mpu → Bool
plain_kept e g = eqb (kept_plain e g.mair0) g.mair0 && eqb (kept_plain e g.mair1) g.mair1

unfoldable pub sound_mpu : Edition → Mpu → Bool
sound_mpu e g =
    ltb g.control 8
    && ltb g.region 8
    && eqb (length g.bases) 8
    && eqb (length g.attributes) 8
    && every (region_kept e g.bases g.attributes) 8
    && plain_kept e g

pub record SoundMpu (e : Edition) (g : Mpu) : Type 0 where
  pub control : g.control < 8
  pub region : g.region < 8
  pub eight_bases : length g.bases ≡ 8
  pub eight_attributes : length g.attributes ≡ 8
  pub bases : (n : ℕ) → n < 8 → kept_first e (get_or g.bases n 0) ≡ get_or g.bases n 0
  pub attributes : (n : ℕ) → n < 8 → kept_second e (get_or g.attributes n 0) ≡ get_or g.attributes n 0
  pub mair0 : kept_plain e g.mair0 ≡ g.mair0
  pub mair1 : kept_plain e g.mair1 ≡ g.mair1

-- The test says what the record says, and the other way round.
pub of_sound_mpu : (e : Edition) (g : Mpu) → T (sound_mpu e g) → SoundMpu e g
unfolding sound_mpu region_kept plain_kept
of_sound_mpu e g t =
    let kept : T (every (region_kept e g.bases g.attributes) 8) = search (and_l, and_r) in
    let each : (n : ℕ) → n < 8 → T (region_kept e g.bases g.attributes n) = λ n l. of_every (region_kept e g.bases g.attributes) 8 n l kept in
    record {
      control = ltb→lt g.control 8 (search (and_l, and_r));
      region = ltb→lt g.region 8 (search (and_l, and_r));
      eight_bases = eqb→eq (length g.bases) 8 (search (and_l, and_r));
      eight_attributes = eqb→eq (length g.attributes) 8 (search (and_l, and_r));
      bases = λ n l. eqb→eq (kept_first e (get_or g.bases n 0)) (get_or g.bases n 0) (and_l (base_kept e g.bases n) (attributes_kept e g.attributes n) (each n l));
      attributes = λ n l. eqb→eq (kept_second e (get_or g.attributes n 0)) (get_or g.attributes n 0) (and_r (base_kept e g.bases n) (attributes_kept e g.attributes n) (each n l));
      mair0 = eqb→eq (kept_plain e g.mair0) g.mair0 (search (and_l, and_r) depth 10);
      mair1 = eqb→eq (kept_plain e g.mair1) g.mair1 (search (and_l, and_r) depth 10);
    }

pub sound_mpu_of : {e : Edition} {g : Mpu} → SoundMpu e g → T (sound_mpu e g)
unfolding sound_mpu region_kept plain_kept
sound_mpu_of {e} {g} s =
    let a = lt→ltb g.control 8 s.control in
    let b = lt→ltb g.region 8 s.region in
    let d = same (length g.bases) 8 s.eight_bases in
    let f = same (length g.attributes) 8 s.eight_attributes in
    let h = every_of (region_kept e g.bases g.attributes) 8 (λ n l. join (base_kept e g.bases n) (attributes_kept e g.attributes n) (same _ _ (s.bases n l)) (same _ _ (s.attributes n l))) in
    let i = same (kept_plain e g.mair0) g.mair0 s.mair0 in
    let j = same (kept_plain e g.mair1) g.mair1 s.mair1 in
    search join depth 10
