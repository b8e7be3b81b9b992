-- The limits of a version are within the ranges of the numbers, and the number of slots determines the version.
use Rattle.std.proofs.Common.{ℕ, ◌≡◌, ◌≤◌, refl, arith}
use Rattle.kc_types.specs.Limits.{frame_limit, slot_limit, vcpu_limit, gfn_limit, leaf_limit, image_limit}
use Rattle.kc_types.specs.Configuration.{Configuration, most_frames, slot_count, slots_of, vcpus_of, gfns_of, roots_of, most_leaves, most_images}
use Rattle.kc_types.specs.declared.version.Version.{Version}
use Rattle.kc_types.specs.declared.version.Version.TheVariants.{One, Two, Three}

pub few-frames : (version : Version) (n : ℕ) → n ≤ most_frames version → n ≤ frame_limit
few-frames One n few = omega (arith, few)
few-frames Two n few = omega (arith, few)
few-frames Three n few = omega (arith, few)

pub few-slots : (version : Version) → slots_of version ≤ slot_limit
few-slots One = omega arith
few-slots Two = omega arith
few-slots Three = omega arith

pub few-vcpus : (version : Version) → vcpus_of version ≤ vcpu_limit
few-vcpus One = omega arith
few-vcpus Two = omega arith
few-vcpus Three = omega arith

pub few-gfns : (version : Version) → gfns_of version ≤ gfn_limit
few-gfns One = omega arith
few-gfns Two = omega arith
few-gfns Three = omega arith

pub few-roots : (version : Version) → roots_of version ≤ leaf_limit
few-roots One = omega arith
few-roots Two = omega arith
few-roots Three = omega arith

pub few-leaves : (version : Version) → most_leaves version ≤ leaf_limit
few-leaves One = omega arith
few-leaves Two = omega arith
few-leaves Three = omega arith

pub few-images : (version : Version) → most_images version ≤ image_limit
few-images One = omega arith
few-images Two = omega arith
few-images Three = omega arith

version-by-slots : (a b : Version) → slots_of a ≡ slots_of b → a ≡ b
version-by-slots One One is = refl
version-by-slots One Two is = absurd (omega (arith, is))
version-by-slots One Three is = absurd (omega (arith, is))
version-by-slots Two One is = absurd (omega (arith, is))
version-by-slots Two Two is = refl
version-by-slots Two Three is = absurd (omega (arith, is))
version-by-slots Three One is = absurd (omega (arith, is))
version-by-slots Three Two is = absurd (omega (arith, is))
version-by-slots Three Three is = refl

pub same-version : (c d : Configuration) → slot_count c ≡ slot_count d → c.version ≡ d.version
unfolding slot_count
same-version c d is = version-by-slots c.version d.version is
