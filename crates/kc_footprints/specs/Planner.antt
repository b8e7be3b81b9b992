-- What the planner keeps about the calls so far, and what its steps do.
use Rattle.std.specs.Prelude.{◌≡◌, ◌≢◌, ℕ, ◌<◌, ◌≤◌, ◌^◌, Bool, true, false, ◌&&◌, ◌||◌, eqb, List, [], length, get_or, set, take, Option, Some, None, IfSome, ◌⊎◌}
use Rattle.std.specs.List.{list_any, IsDistinct}
use Rattle.kc_footprints.specs.declared.names.Names.{Names}
use Rattle.kc_footprints.specs.Reach.{has_member, is_at, names_principal, gains_by, may_have, touches}
use Rattle.kc_footprints.specs.Planned.{ComesJustAfter}
pub use Rattle.kc_footprints.specs.LastWaves.{Stamps}
use Rattle.kc_footprints.specs.LastWaves.{IsFound, IsNoted}
use Rattle.kc_footprints.specs.Plan.{wave_of}

-- what each principal may have, the principals with which each may have a frame in common, and how many of each slot's
-- frames the free list has taken over
pub record Reached : Type 0 where
  pub sets : List (List ℕ)
  pub near : List (List ℕ)
  pub freed : List ℕ

abbrev pub members_of : Reached → ℕ → List ℕ
members_of h p = get_or h.sets p []

-- the principal q is among those to which p is related
abbrev pub is_related : Reached → ℕ → ℕ → Bool
is_related h p q = has_member (get_or h.near p []) q

-- the principals are one, or one is related to the other
unfoldable pub is_near : Reached → ℕ → ℕ → Bool
is_near h p q = eqb p q || (is_related h p q || is_related h q p)

abbrev pub hit_frame : Option ℕ → List ℕ → Bool
hit_frame None members = false
hit_frame (Some f) members = has_member members f

abbrev pub hit_slot : Option ℕ → Reached → ℕ → Bool
hit_slot None h p = false
hit_slot (Some v) h p = is_near h p v

-- whether a call touches the principal p or what it may have
abbrev pub is_hit : ℕ → Names → Reached → ℕ → Bool
is_hit free n h p = hit_frame n.frame (members_of h p) || (hit_slot n.slot h p || (n.free && is_near h p free))

-- the numbers that a call names exist
pub record IsInRange (frames free : ℕ) (n : Names) : Type 0 where
  pub frame : IfSome n.frame (λ f. f < frames)
  pub slot : IfSome n.slot (λ v. v < free)

-- principals with a frame in common are related, and the counts are right; size is the number of principals, and free
-- is the number of the free list
pub record IsExact (size free : ℕ) (h : Reached) : Type 0 where
  pub few : size < 2 ^ 32
  pub sets_len : length h.sets ≡ size
  pub near_len : length h.near ≡ size
  pub freed_len : length h.freed ≡ size
  pub freed_in : (p f : ℕ) → has_member (take (get_or h.freed p 0) (members_of h p)) f ≡ true → has_member (members_of h free) f ≡ true
  pub freed_low : (p : ℕ) → get_or h.freed p 0 ≤ length (members_of h p)
  pub related : (p q : ℕ) → is_related h p q ≡ true → (f : ℕ) × (has_member (members_of h p) f ≡ true) × (has_member (members_of h q) f ≡ true)
  pub shared : (p q f : ℕ) → p < size → q < size → has_member (members_of h p) f ≡ true → has_member (members_of h q) f ≡ true → is_near h p q ≡ true
  pub once : (p : ℕ) → IsDistinct eqb (members_of h p)

-- the last wave of a call that touched the frame f, as frame_waves and the first n of principal_waves show it
pub record IsLastOf (n f : ℕ) (h : Reached) (s : Stamps) (high : ℕ) : Type 0 where
  pub named : get_or s.frame_waves f 0 ≤ high
  pub had : (p : ℕ) → p < n → has_member (members_of h p) f ≡ true → get_or s.principal_waves p 0 ≤ high
  pub got : (get_or s.frame_waves f 0 ≡ high) ⊎ ((p : ℕ) × (p < n) × (has_member (members_of h p) f ≡ true) × (get_or s.principal_waves p 0 ≡ high))

-- high is the highest wave of a call that shares something with a call with these names
abbrev pub IsHigh : ℕ → ℕ → Names → Reached → Stamps → ℕ → Type 0
IsHigh size free n h s high = IsFound (λ f. is_at n.frame f) (λ p. names_principal free n p) (λ p f. has_member (members_of h p) f) size high s

-- the highest waves of the first n principals are raised to w if the call touches them or what they may have
pub record IsTop (n free w : ℕ) (names : Names) (h : Reached) (before after : List ℕ) : Type 0 where
  pub more : (p : ℕ) → get_or before p 0 ≤ get_or after p 0
  pub hit : (p : ℕ) → p < n → is_hit free names h p ≡ true → w ≤ get_or after p 0
  pub is : (p : ℕ) → (get_or after p 0 ≡ get_or before p 0) ⊎ ((get_or after p 0 ≡ w) × (is_hit free names h p ≡ true))

-- a call with these names, of wave w, is recorded
abbrev pub IsWritten : ℕ → ℕ → Names → ℕ → Reached → Stamps → Stamps → Type 0
IsWritten size free n w h s t = IsNoted (λ f. is_at n.frame f) (λ p. names_principal free n p) (λ p f. has_member (members_of h p) f) size w (is_near h) s t

-- the principal p, which may have the frame f, is related to each of the first n that may have it too
pub record IsRelated (n p f : ℕ) (a b : Reached) : Type 0 where
  pub sets : b.sets ≡ a.sets
  pub freed : b.freed ≡ a.freed
  pub near_len : length b.near ≡ length a.near
  pub keeps : (q r : ℕ) → is_related a q r ≡ true → is_related b q r ≡ true
  pub only : (q r : ℕ) → is_related b q r ≡ true → (is_related a q r ≡ true) ⊎ ((has_member (members_of a q) f ≡ true) × (has_member (members_of a r) f ≡ true))
  pub there : (q : ℕ) → q < n → has_member (members_of a q) f ≡ true → is_related b p q ≡ true

-- what principals may have is only appended to
abbrev pub IsGrown : Reached → Reached → Type 0
IsGrown a b = (p n : ℕ) → n ≤ length (members_of a p) → (n ≤ length (members_of b p)) × (take n (members_of b p) ≡ take n (members_of a p))

-- each principal p gains the frames f that pass the test, and no others
pub record IsWider (size free : ℕ) (test : ℕ → ℕ → Bool) (a b : Reached) : Type 0 where
  pub exact : IsExact size free b
  pub sets : (p f : ℕ) → has_member (members_of b p) f ≡ (has_member (members_of a p) f || test p f)
  pub grown : IsGrown a b

-- the principal p gains the frame f
pub record IsJoined (size free p f : ℕ) (a b : Reached) : Type 0 where
  pub wider : IsWider size free (λ q g. eqb p q && eqb f g) a b
  pub others : (q : ℕ) → q ≢ p → members_of b q ≡ members_of a q
  pub freed : b.freed ≡ a.freed

abbrev pub AreGained : ℕ → ℕ → Names → Reached → Reached → Type 0
AreGained size free n a b = IsWider size free (λ p f. gains_by free (λ q g. has_member (members_of a q) g) n n.gain p f) a b

abbrev pub set_at : Option ℕ → ℕ → List ℕ → List ℕ
set_at None w xs = xs
set_at (Some i) w xs = set xs i w

-- the pairs of a principal and a frame
abbrev pub has_pair : List (ℕ × ℕ) → ℕ → ℕ → Bool
has_pair pairs p f = list_any (λ x. eqb x.0 p && eqb x.1 f) pairs

-- the principals of the pairs are below n
abbrev pub AreBelow : ℕ → List (ℕ × ℕ) → Type 0
AreBelow n pairs = (i : ℕ) → i < length pairs → (get_or pairs i (0, 0)).0 < n

-- the frames of the pairs are below n
abbrev pub HaveFramesBelow : ℕ → List (ℕ × ℕ) → Type 0
HaveFramesBelow n pairs = (p f : ℕ) → has_pair pairs p f ≡ true → f < n

-- no frame has two owners
pub record HasOneOwnerEach (pairs : List (ℕ × ℕ)) : Type 0 where
  pub same : (p q f : ℕ) → has_pair pairs p f ≡ true → has_pair pairs q f ≡ true → p ≡ q

pub record IsStart (size free : ℕ) (pairs : List (ℕ × ℕ)) (h : Reached) : Type 0 where
  pub exact : IsExact size free h
  pub sets : (p f : ℕ) → has_member (members_of h p) f ≡ has_pair pairs p f

-- the wave of each call comes just after the highest of an earlier call that shares something with it
abbrev pub ArePlanned : ℕ → List (ℕ × ℕ) → List Names → List ℕ → Type 0
ArePlanned free pairs cs waves = (k : ℕ) → k < length cs → ComesJustAfter (touches free (has_pair pairs) cs) (wave_of waves) k

-- the sets have what each principal may have after all calls
abbrev pub AreReached : ℕ → List (ℕ × ℕ) → List Names → List (List ℕ) → Type 0
AreReached free pairs cs sets = (p f : ℕ) → has_member (get_or sets p []) f ≡ may_have free (has_pair pairs) cs (length cs) p f
