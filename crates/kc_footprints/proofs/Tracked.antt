-- What the last waves show of the calls so far; over any names, parts and touches.
use Rattle.std.specs.Prelude.{◌≡◌, ℕ, suc, ◌<◌, ◌≤◌, Bool, true, ◌⊎◌}
use Rattle.kc_types.specs.declared.resource.Resource.TheVariants.{Frame}
use Rattle.kc_model.specs.Resources.{Resource}
use Rattle.kc_footprints.specs.LastWaves.{Stamps, frame_wave, principal_wave, reach_wave}

-- names_frame k f: call k names the frame f; names_principal k p: it names the principal p; has k p r: before call k
-- the resource r is the principal p, or a frame that it may have; touches k r: call k touches the resource r
module _ (names_frame names_principal : ℕ → ℕ → Bool) (has : ℕ → ℕ → Resource → Bool) (touches : ℕ → Resource → Bool) where
  -- how the four are related
  pub record Shape : Type 0 where
    pub by_name : (k f : ℕ) → names_frame k f ≡ true → touches k (Frame f) ≡ true
    pub by_part : (k p : ℕ) (r : Resource) → names_principal k p ≡ true → has k p r ≡ true → touches k r ≡ true
    pub named_or_part : (k : ℕ) (r : Resource) → touches k r ≡ true → ((f : ℕ) × (r ≡ Frame f) × (names_frame k f ≡ true)) ⊎ ((p : ℕ) × (names_principal k p ≡ true) × (has k p r ≡ true))
    pub own : (k p : ℕ) → names_principal k p ≡ true → (r : Resource) × ((j : ℕ) → has j p r ≡ true)
    pub grows : (k p : ℕ) (r : Resource) → has (suc k) p r ≡ true → (has k p r ≡ true) ⊎ ((names_principal k p ≡ true) × (touches k r ≡ true))
    pub keeps : (k p : ℕ) (r : Resource) → has k p r ≡ true → has (suc k) p r ≡ true

  -- near p q: the principals have some part in common
  pub record IsNear (size k : ℕ) (near : ℕ → ℕ → Bool) : Type 0 where
    pub common : (p q : ℕ) → p < size → q < size → near p q ≡ true → (r : Resource) × (has k p r ≡ true) × (has k q r ≡ true)
    pub all : (p q : ℕ) (r : Resource) → p < size → q < size → has k p r ≡ true → has k q r ≡ true → near p q ≡ true

  module _ (wave : ℕ → ℕ) where
    -- after the first k calls: the last wave of a call that named a frame, the last of a call that named a principal,
    -- and the highest of a call that touched a part of a principal; 0 if there is none
    pub record AreTracked (size k : ℕ) (s : Stamps) : Type 0 where
      pub frame_bound : (j f : ℕ) → j < k → names_frame j f ≡ true → wave j ≤ frame_wave s f
      pub frame_got : (f : ℕ) → (frame_wave s f ≡ 0) ⊎ ((j : ℕ) × (j < k) × (names_frame j f ≡ true) × (wave j ≡ frame_wave s f))
      pub principal_bound : (j p : ℕ) → j < k → names_principal j p ≡ true → wave j ≤ principal_wave s p
      pub principal_got : (p : ℕ) → (principal_wave s p ≡ 0) ⊎ ((j : ℕ) × (j < k) × (names_principal j p ≡ true) × ((r : Resource) → has k p r ≡ true → touches j r ≡ true) × (wave j ≡ principal_wave s p))
      pub reach_bound : (j p : ℕ) (r : Resource) → p < size → j < k → has k p r ≡ true → touches j r ≡ true → wave j ≤ reach_wave s p
      pub reach_got : (p : ℕ) → p < size → (reach_wave s p ≡ 0) ⊎ ((j : ℕ) × (r : Resource) × (j < k) × (has k p r ≡ true) × (touches j r ≡ true) × (wave j ≡ reach_wave s p))
