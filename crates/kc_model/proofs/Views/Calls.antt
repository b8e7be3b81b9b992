-- Calls that differ only in the bytes that they write.
use Rattle.std.proofs.Common.{ℕ, ◌≡◌, true, List, refl, sym, ap, ◌∙◌}
use Rattle.kc_types.specs.declared.call.Call.{Call}
use Rattle.kc_types.specs.declared.call.Call.TheVariants.{HostWrite, GuestWrite, Remap}
use Rattle.kc_model.specs.Redaction.{all_frames, keeps_images}
use Rattle.kc_model.proofs.Views.Steps.{bytes_of, with_bytes}

pub own-bytes : (call : Call) → with_bytes call (bytes_of call) ≡ call
own-bytes (HostWrite f off bytes) = refl
own-bytes (GuestWrite v c g off bytes) = refl
own-bytes _ = refl

other-bytes : (call : Call) (first second : List ℕ) → with_bytes (with_bytes call first) second ≡ with_bytes call second
other-bytes (HostWrite f off bytes) first second = refl
other-bytes (GuestWrite v c g off bytes) first second = refl
other-bytes _ first second = refl

-- two calls that are the same with some bytes in place of theirs
pub of-one-form : (call other : Call) (first second : List ℕ) → with_bytes call first ≡ with_bytes other second → with_bytes call (bytes_of other) ≡ other
of-one-form call other first second same =
    sym (other-bytes call first (bytes_of other)) ∙ ap (λ x. with_bytes x (bytes_of other)) same ∙ other-bytes other second (bytes_of other) ∙ own-bytes other

pub all-kept : (call : Call) → keeps_images all_frames call ≡ true
all-kept (Remap v i f) = refl
all-kept _ = refl
