-- Pages that are written.
use Rattle.std.proofs.Common.{ℕ, suc, ◌≡◌, ◌<◌, ◌≤◌, ◌+◌, ◌-◌, ◌%◌, List, [], ◌∷◌, ◌++◌, All, length, get_or, take, replicate, refl, ◌∙◌, arith, length-append, length-drop}
use Rattle.std.proofs.lemmas.List.{length-map, length-take, length-replicate}
use Rattle.std.proofs.lemmas.List.Elements.{All-append, All-map, All-take, All-drop}
use Rattle.kc_model.specs.Bytes.{as_byte, as_bytes}
use Rattle.kc_model.specs.State.{overwritten}
use Rattle.kc_model.specs.Lawful.{IsPage}
use Rattle.kc_model.proofs.States.ZeroPage.{zeros-are_bytes}

length-overwritten : (bytes : List ℕ) (off : ℕ) (written : List ℕ) → off + length written ≤ length bytes → length (overwritten bytes off written) ≡ length bytes
length-overwritten bytes off written h = simp (length-append, length-map, length-take, length-drop) (omega arith)

are_bytes : (numbers : List ℕ) → All (λ b. b < 256) (as_bytes numbers)
are_bytes numbers = All-map (λ b. b < 256) as_byte numbers (λ k d lt. omega arith)

pub page-overwritten : (bytes : List ℕ) (off : ℕ) (written : List ℕ) → IsPage bytes → off + length written ≤ 4096 → IsPage (overwritten bytes off written)
page-overwritten bytes off written is within = record {
  whole = let enough : off + length written ≤ length bytes = rw is.whole within in length-overwritten bytes off written enough ∙ is.whole;
  each_byte = All-append (λ b. b < 256) (take off bytes ++ as_bytes written) _ (All-append (λ b. b < 256) (take off bytes) (as_bytes written) (All-take (λ b. b < 256) off bytes is.each_byte) (are_bytes written))
      (All-drop (λ b. b < 256) (off + length written) bytes is.each_byte);
}

-- bytes stay the same as bytes
pub as_bytes-same : (bytes : List ℕ) → ((k : ℕ) → get_or bytes k 0 < 256) → as_bytes bytes ≡ bytes
as_bytes-same [] each = refl
as_bytes-same (b ∷ bytes) each =
    let small : b < 256 = each 0 in
    let here : b % 256 ≡ b = omega arith in
    let rest : as_bytes bytes ≡ bytes = as_bytes-same bytes (λ k. each (suc k)) in
    rw (here, rest) refl

-- a page whose bytes from a place on are set to zero
pub page-trimmed : (bytes : List ℕ) (kept : ℕ) → IsPage bytes → kept ≤ 4096 → IsPage (take kept bytes ++ replicate (4096 - kept) 0)
page-trimmed bytes kept is within = record {
  whole = let whole = is.whole in simp (length-append, length-take, length-replicate) (omega arith);
  each_byte = All-append (λ b. b < 256) (take kept bytes) _ (All-take (λ b. b < 256) kept bytes is.each_byte) (zeros-are_bytes (4096 - kept));
}
