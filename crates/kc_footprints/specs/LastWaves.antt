-- The last waves, by which a planner finds the next one without a walk over what a call touches; over any names and
-- reach.
use Rattle.std.specs.Prelude.{◌≡◌, ℕ, ◌≤◌, ◌<◌, Bool, true, cond, List, get_or, ◌⊎◌}

-- the last wave of a call that named a frame, the last of one that named a principal, and the highest of one that
-- touched a principal or what it may have
pub record Stamps : Type 0 where
  pub frame_waves : List ℕ
  pub principal_waves : List ℕ
  pub reach_waves : List ℕ

-- 0 means no wave
abbrev pub frame_wave : Stamps → ℕ → ℕ
frame_wave s f = get_or s.frame_waves f 0

abbrev pub principal_wave : Stamps → ℕ → ℕ
principal_wave s p = get_or s.principal_waves p 0

abbrev pub reach_wave : Stamps → ℕ → ℕ
reach_wave s p = get_or s.reach_waves p 0

-- names_frame f: the call names the frame f;  names_principal p: it names the principal p;
-- reach p f: before the call the principal p may have the frame f
module _ (names_frame names_principal : ℕ → Bool) (reach : ℕ → ℕ → Bool) where
  -- high is the highest wave of a call that shares something with this call, as the last waves show it
  pub record IsFound (size high : ℕ) (s : Stamps) : Type 0 where
    pub named : (f : ℕ) → names_frame f ≡ true → frame_wave s f ≤ high
    pub had : (f p : ℕ) → names_frame f ≡ true → p < size → reach p f ≡ true → principal_wave s p ≤ high
    pub whole : (p : ℕ) → names_principal p ≡ true → reach_wave s p ≤ high
    pub got : (high ≡ 0) ⊎ (((f : ℕ) × (names_frame f ≡ true) × (frame_wave s f ≡ high))
        ⊎ (((f : ℕ) × (p : ℕ) × (names_frame f ≡ true) × (p < size) × (reach p f ≡ true) × (principal_wave s p ≡ high))
        ⊎ ((p : ℕ) × (names_principal p ≡ true) × (reach_wave s p ≡ high))))

  -- the call, of wave w, is recorded
  pub record IsNoted (size w : ℕ) (near : ℕ → ℕ → Bool) (s t : Stamps) : Type 0 where
    pub frame_is : (f : ℕ) → frame_wave t f ≡ cond (names_frame f) w (frame_wave s f)
    pub principal_is : (p : ℕ) → principal_wave t p ≡ cond (names_principal p) w (principal_wave s p)
    pub reach_more : (p : ℕ) → p < size → reach_wave s p ≤ reach_wave t p
    pub reach_named : (p f : ℕ) → p < size → names_frame f ≡ true → reach p f ≡ true → w ≤ reach_wave t p
    pub reach_near : (p q : ℕ) → p < size → names_principal q ≡ true → near p q ≡ true → w ≤ reach_wave t p
    pub reach_is : (p : ℕ) → p < size → (reach_wave t p ≡ reach_wave s p) ⊎ ((reach_wave t p ≡ w)
        × (((f : ℕ) × (names_frame f ≡ true) × (reach p f ≡ true)) ⊎ ((q : ℕ) × (names_principal q ≡ true) × (near p q ≡ true))))
