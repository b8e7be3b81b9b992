-- What a state of version 1 or 2 has is within what its text may say.
use Rattle.std.proofs.Common.{ℕ, true, ◌≡◌, ◌≤◌, refl, arith}
use Rattle.std.proofs.lemmas.Bool.{false≢true}
use Rattle.kc_types.specs.Limits.{second_frame_limit, second_slot_limit, first_vcpu_limit, first_gfn_limit, first_image_limit, first_image_size_limit}
use Rattle.kc_types.specs.Configuration.{Configuration, IsConfiguration, most_frames, slot_count, slots_of, vcpus_of, gfns_of, most_images, most_image_bytes, has_dump}
use Rattle.kc_types.specs.declared.version.Version.{Version}
use Rattle.kc_types.specs.declared.version.Version.TheVariants.{One, Two, Three}

most-frames : (version : Version) → has_dump version ≡ true → most_frames version ≤ second_frame_limit
most-frames One has = omega arith
most-frames Two has = omega arith
most-frames Three has = absurd (false≢true has)

pub few-frames : (config : Configuration) → IsConfiguration config → has_dump config.version ≡ true → config.frames ≤ second_frame_limit
few-frames config is has = let few = is.few_frames in omega (arith, few, most-frames config.version has)

most-slots : (version : Version) → has_dump version ≡ true → slots_of version ≤ second_slot_limit
most-slots One has = omega arith
most-slots Two has = omega arith
most-slots Three has = absurd (false≢true has)

pub few-slots : (config : Configuration) → has_dump config.version ≡ true → slot_count config ≤ second_slot_limit
unfolding slot_count
few-slots config has = most-slots config.version has

pub vcpus-of : (version : Version) → has_dump version ≡ true → vcpus_of version ≡ first_vcpu_limit
vcpus-of One has = refl
vcpus-of Two has = refl
vcpus-of Three has = absurd (false≢true has)

pub few-gfns : (version : Version) → has_dump version ≡ true → gfns_of version ≤ first_gfn_limit
few-gfns One has = omega arith
few-gfns Two has = omega arith
few-gfns Three has = absurd (false≢true has)

pub few-images : (version : Version) → has_dump version ≡ true → most_images version ≤ first_image_limit
few-images One has = omega arith
few-images Two has = omega arith
few-images Three has = absurd (false≢true has)

pub few-bytes : (version : Version) → has_dump version ≡ true → most_image_bytes version ≤ first_image_size_limit
few-bytes One has = omega arith
few-bytes Two has = omega arith
few-bytes Three has = absurd (false≢true has)
