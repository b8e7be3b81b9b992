-- States in which a slot boots the same approve the same.
use Rattle.std.proofs.Common.{ℕ, zero, suc, ◌≡◌, ◌<◌, ◌&&◌, ◌+◌, Bool, true, false, cond, List, [], ◌∷◌, ◌++◌, length, get_or, Option, None, Some, refl, sym, ap, ◌∙◌, arith}
use Rattle.std.specs.Int.{w64, to_le_bytes}
use Rattle.std.specs.List.{list_any, list_all, flat_map}
use Rattle.std.specs.Option.{option_map}
use Rattle.sha2.specs.Sha256.{sha256}
use Rattle.kc_types.specs.Configuration.{measures_launch}
use Rattle.kc_model.specs.State.{State, Image, slot_at}
use Rattle.kc_model.specs.Effects.{first_failing, image_bytes, same_bytes, is_approved, launch_part, launch_digest, is_launch_approved, is_boot_approved, unapproved}

-- the first of a list that fails one of two tests that agree on it
failing-same : {X : Type 0} (p q : X → Bool) (xs : List X) → ((i : ℕ) (d : X) → i < length xs → p (get_or xs i d) ≡ q (get_or xs i d)) → first_failing p xs ≡ first_failing q xs
failing-same p q [] same = refl
failing-same p q (x ∷ xs) same =
    let here : p x ≡ q x = same zero x (omega arith) in
    let rest = failing-same p q xs (λ i d lt. same (suc i) d (omega arith)) in
    rw (here, rest) refl

all-same : {X : Type 0} (p q : X → Bool) (xs : List X) → ((i : ℕ) (d : X) → i < length xs → p (get_or xs i d) ≡ q (get_or xs i d)) → list_all p xs ≡ list_all q xs
all-same p q [] same = refl
all-same p q (x ∷ xs) same = let here : p x ≡ q x = same zero x (omega arith) in rw (here, all-same p q xs (λ i d lt. same (suc i) d (omega arith))) refl

parts-same : {X : Type 0} (f g : X → List ℕ) (xs : List X) → ((i : ℕ) (d : X) → i < length xs → f (get_or xs i d) ≡ g (get_or xs i d)) → flat_map f xs ≡ flat_map g xs
parts-same f g [] same = refl
parts-same f g (x ∷ xs) same = let here : f x ≡ g x = same zero x (omega arith) in rw (here, parts-same f g xs (λ i d lt. same (suc i) d (omega arith))) refl

-- the slot has the same images with the same bytes, under the same rules and approved digests
pub record BootsAlike (m n : State) (v : ℕ) : Type 0 where
  pub version : m.config.version ≡ n.config.version
  pub approved : m.config.approved ≡ n.config.approved
  pub images : (slot_at m v).images ≡ (slot_at n v).images
  pub bytes : (i : ℕ) (d : Image) → i < length (slot_at m v).images → image_bytes m v (get_or (slot_at m v).images i d) ≡ image_bytes n v (get_or (slot_at m v).images i d)

-- the image for which a boot is rejected, by how boots are approved
abbrev pub rejected_by : Bool → Bool → Option ℕ → Option ℕ
rejected_by whole launch failing = cond whole (cond launch None (Some 0)) failing

module _ (m n : State) (v : ℕ) (alike : BootsAlike m n v) where
  each-approved : (i : ℕ) (d : Image) → i < length (slot_at m v).images → is_approved m v (get_or (slot_at m v).images i d) ≡ is_approved n v (get_or (slot_at m v).images i d)
  each-approved i d lt =
      ap (λ content. list_any (λ digest. same_bytes digest (sha256 content)) m.config.approved) (alike.bytes i d lt)
      ∙ ap (λ digests. list_any (λ digest. same_bytes digest (sha256 (image_bytes n v (get_or (slot_at m v).images i d)))) digests) alike.approved

  -- the launch measurement is the same
  pub digest-same : launch_digest m v ≡ launch_digest n v
  digest-same =
      let part : (i : ℕ) (d : Image) → i < length (slot_at m v).images → launch_part m v (get_or (slot_at m v).images i d) ≡ launch_part n v (get_or (slot_at m v).images i d) = λ i d lt.
      ap (λ content. to_le_bytes w64 (get_or (slot_at m v).images i d).base ++ (to_le_bytes w64 (get_or (slot_at m v).images i d).len ++ content)) (alike.bytes i d lt) in
      let parts : flat_map (launch_part m v) (slot_at m v).images ≡ flat_map (launch_part n v) (slot_at n v).images =
      parts-same (launch_part m v) (launch_part n v) (slot_at m v).images part ∙ ap (flat_map (launch_part n v)) alike.images in
      ap sha256 parts

  launch-same : is_launch_approved m v ≡ is_launch_approved n v
  launch-same =
      ap (λ launch. list_any (λ digest. same_bytes digest launch) m.config.approved) digest-same
      ∙ ap (λ digests. list_any (λ digest. same_bytes digest (launch_digest n v)) digests) alike.approved

  pub unapproved-same : unapproved m v ≡ unapproved n v
  unapproved-same =
      let failing : first_failing (is_approved m v) (slot_at m v).images ≡ first_failing (is_approved n v) (slot_at n v).images =
      failing-same (is_approved m v) (is_approved n v) (slot_at m v).images each-approved ∙ ap (first_failing (is_approved n v)) alike.images in
      ap (λ version. rejected_by (measures_launch version) (is_launch_approved m v) (first_failing (is_approved m v) (slot_at m v).images)) alike.version
      ∙ ap (λ launch. rejected_by (measures_launch n.config.version) launch (first_failing (is_approved m v) (slot_at m v).images)) launch-same
      ∙ ap (rejected_by (measures_launch n.config.version) (is_launch_approved n v)) failing

  pub boot-same : is_boot_approved m v ≡ is_boot_approved n v
  boot-same =
      let all : list_all (is_approved m v) (slot_at m v).images ≡ list_all (is_approved n v) (slot_at n v).images =
      all-same (is_approved m v) (is_approved n v) (slot_at m v).images each-approved ∙ ap (list_all (is_approved n v)) alike.images in
      ap (λ version. cond (measures_launch version) (is_launch_approved m v) (list_all (is_approved m v) (slot_at m v).images)) alike.version
      ∙ ap (λ launch. cond (measures_launch n.config.version) launch (list_all (is_approved m v) (slot_at m v).images)) launch-same
      ∙ ap (cond (measures_launch n.config.version) (is_launch_approved n v)) all

-- ---- a boot that is not rejected is approved

pass_rest : {X : Type 0} (p : X → Bool) (xs : List X) (rest : Option ℕ) → first_failing p xs ≡ rest → option_map (λ place. place + 1) rest ≡ None → first_failing p xs ≡ None
pass_rest p xs None is e = is
pass_rest p xs (Some i) is e = cc

pass_first : {X : Type 0} (p : X → Bool) (b : Bool) (xs : List X) → (first_failing p xs ≡ None → list_all p xs ≡ true) → cond b (option_map (λ place. place + 1) (first_failing p xs)) (Some 0) ≡ None → (b && list_all p xs) ≡ true
pass_first p true xs rest e = rest (pass_rest p xs (first_failing p xs) refl e)
pass_first p false xs rest e = cc

-- if none fails, all pass
all_pass : {X : Type 0} (p : X → Bool) (xs : List X) → first_failing p xs ≡ None → list_all p xs ≡ true
all_pass p [] e = refl
all_pass p (x ∷ xs) e = pass_first p (p x) xs (all_pass p xs) e

pub boot-approved : (m : State) (v : ℕ) → unapproved m v ≡ None → is_boot_approved m v ≡ true
boot-approved m v e = by_rule (measures_launch m.config.version) (is_launch_approved m v) e
  where
    by_rule : (whole launch : Bool) → rejected_by whole launch (first_failing (is_approved m v) (slot_at m v).images) ≡ None → cond whole launch (list_all (is_approved m v) (slot_at m v).images) ≡ true
    by_rule true true e = refl
    by_rule true false e = cc
    by_rule false launch e = all_pass (is_approved m v) (slot_at m v).images e
