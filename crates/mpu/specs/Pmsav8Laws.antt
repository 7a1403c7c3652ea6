-- Laws of PMSAv8's registers: which region a pair shows, what reads back, and that no pair moves the selected number.
use Rattle.std.specs.Prelude.{ℕ, ◌/◌, ◌%◌, ◌^◌, ◌≤◌, ◌≡◌, refl}
use Rattle.std.proofs.Common.{arith, ne_eqb}
use Rattle.std.proofs.Math.Seq.{get_or-set_same}
use Rattle.mpu.specs.declared.Mpu.{Mpu}
use Rattle.mpu.specs.declared.MpuRegister.TheVariants.{Rbar, Rlar}
use Rattle.mpu.specs.declared.Edition.TheVariants.{Pmsav8}
use Rattle.mpu.specs.Pmsav8.{region_of, kept_word, kept_rlar, read_rbar, read_rlar, with_rbar, with_rlar}
use Rattle.mpu.specs.Registers.{read_mpu, write_mpu}
use Rattle.mpu.specs.Soundness.{SoundMpu}
use Rattle.mpu.specs.Laws.{region_small}

-- Pair 0 is the selected region's.
pub pair_0 : (n : ℕ) → region_of 0 n ≡ n
unfolding region_of
pair_0 n = refl

-- "that pair for the selected region with 1:0 of its number 1, 2, 3": the bits above stay
pub pairs_1_to_3 : (pair n : ℕ) → 1 ≤ pair → pair ≤ 3 → (region_of pair n % 2 ^ 2 ≡ pair) × (region_of pair n / 2 ^ 2 ≡ n / 2 ^ 2)
unfolding region_of
pairs_1_to_3 pair n low high = rw (ne_eqb pair 0 (omega arith)) (omega arith, omega arith)

module _ (g : Mpu) (s : SoundMpu Pmsav8 g) (pair x : ℕ) where
  -- "ED9C keeps all bits"
  pub rbar_back : read_mpu (Rbar pair) (write_mpu (Rbar pair) x g) ≡ kept_word x
  unfolding read_mpu write_mpu read_rbar with_rbar
  rbar_back =
      let n = region_of pair g.region in
      let small = region_small pair g.region s.region in
      let eight = s.eight_bases in
      get_or-set_same g.bases n (kept_word x) 0 (omega arith)

  -- "EDA0 mask 0xFFFFFFEF"
  pub rlar_back : read_mpu (Rlar pair) (write_mpu (Rlar pair) x g) ≡ kept_rlar x
  unfolding read_mpu write_mpu read_rlar with_rlar
  rlar_back =
      let n = region_of pair g.region in
      let small = region_small pair g.region s.region in
      let eight = s.eight_attributes in
      get_or-set_same g.attributes n (kept_rlar x) 0 (omega arith)

-- Neither selects a region.
pub nothing_selected : (g : Mpu) (pair x : ℕ) → ((write_mpu (Rbar pair) x g).region ≡ g.region) × ((write_mpu (Rlar pair) x g).region ≡ g.region)
unfolding write_mpu with_rbar with_rlar
nothing_selected g pair x = (refl, refl)
