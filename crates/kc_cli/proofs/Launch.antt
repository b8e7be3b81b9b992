-- The launch measurement of boot images.
use Rattle.std.proofs.Common.{◌≡◌, ℕ, List, [], ◌∷◌, ◌++◌, length, sym, ap, ◌∙◌, append_assoc, append-nil}
use Rattle.std.specs.Int.{w64, to_le_bytes}
use Rattle.std.proofs.lemmas.Grind.{flat_map-append}
use Rattle.kc_model.specs.Launches.{Booted, booted_part, launch_text}

-- one image more
pub image_after : (images : List Booted) (base : ℕ) (bytes : List ℕ) → ((launch_text images ++ to_le_bytes w64 base) ++ to_le_bytes w64 (length bytes)) ++ bytes ≡ launch_text (images ++ record { base = base; bytes = bytes } ∷ [])
image_after images base bytes =
    let front = to_le_bytes w64 base in
    let long = to_le_bytes w64 (length bytes) in
    append_assoc (launch_text images ++ front) long bytes
    ∙ append_assoc (launch_text images) front (long ++ bytes)
    ∙ ap (λ (one : List ℕ). launch_text images ++ one) (sym (append-nil (booted_part (record { base = base; bytes = bytes }))))
    ∙ sym (flat_map-append booted_part images (record { base = base; bytes = bytes } ∷ []))
