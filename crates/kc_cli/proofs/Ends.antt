-- The numbers of the first and the last of some volumes.
use Rattle.std.proofs.Common.{ℕ, zero, suc, ◌≡◌, ◌-◌, List, [], ◌∷◌, length, Option, Some, None, ap, ap₂, slice_get, arith}
use Rattle.kc_trace.specs.declared.volume_writer.VolumeEntry.{VolumeEntry}
use Rattle.kc_cli.specs.Custody.{first_number, last_number, numbers_between, numbers_in}

-- the entry at the first place is that of the first volume
first_is : (entries : List VolumeEntry) (entry : VolumeEntry) → Some entry ≡ slice_get entries 0 → first_number entries ≡ entry.number
first_is [] entry is = absurd cc
first_is (one ∷ entries) entry is = let same : one ≡ entry = cc in ap (λ (it : VolumeEntry). it.number) same

-- the entry at the last place is that of the last volume
last_at : (entries : List VolumeEntry) (place : ℕ) (entry : VolumeEntry) → suc place ≡ length entries → Some entry ≡ slice_get entries place → last_number entries ≡ entry.number
last_at [] place entry long is = absurd cc
last_at (one ∷ []) zero entry long is = let same : one ≡ entry = cc in ap (λ (it : VolumeEntry). it.number) same
last_at (one ∷ []) (suc place) entry long is = absurd (omega (arith, long))
last_at (one ∷ next ∷ entries) zero entry long is = absurd (omega (arith, long))
last_at (one ∷ next ∷ entries) (suc place) entry long is = last_at (next ∷ entries) place entry (omega (arith, long)) is

last_is : (entries : List VolumeEntry) (entry : VolumeEntry) → Some entry ≡ slice_get entries (length entries - 1) → last_number entries ≡ entry.number
last_is [] entry is = absurd cc
last_is (one ∷ entries) entry is = last_at (one ∷ entries) (length (one ∷ entries) - 1) entry (omega arith) is

-- the numbers of the volumes at the first and the last place are those of the first and the last volume
pub ends_are : (entries : List VolumeEntry) (first last : VolumeEntry) → Some first ≡ slice_get entries 0 → Some last ≡ slice_get entries (length entries - 1) → numbers_in entries ≡ numbers_between first.number last.number
ends_are entries first last is_first is_last = ap₂ numbers_between (first_is entries first is_first) (last_is entries last is_last)
