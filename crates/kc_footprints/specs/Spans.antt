-- Footprints as spans: the first of what principals may have.
use Rattle.std.specs.Prelude.{◌≡◌, ℕ, ◌<◌, ◌≤◌, Bool, false, ◌||◌, not, eqb, List, [], ◌∷◌, map, length, get_or, take, Option, Some, None, IfSome, is_some, option_map, option_to_list, if◌then◌else◌}
use Rattle.kc_types.specs.Limits.{frame_limit, slot_limit}
use Rattle.kc_model.specs.Resources.{Resource}
use Rattle.kc_types.specs.declared.resource.Resource.TheVariants as resource
use Rattle.std.specs.List.{IsDistinct, filter}
use Rattle.kc_footprints.specs.declared.names.Names.{Names}
use Rattle.kc_footprints.specs.Reach.{has_member, is_at, reach_of, may_have, names_at}
use Rattle.kc_footprints.specs.declared.footprints.Footprint.{Footprint}
use Rattle.kc_footprints.specs.declared.footprints.Span.{Span}

-- what each principal may have at the end, and what each call touches of it
pub record Footprints : Type 0 where
  pub sets : List (List ℕ)
  pub calls : List Footprint
  pub waves : List ℕ

abbrev pub no_footprint : Footprint
no_footprint = record { frame = None; slot = None; free = None }

abbrev pub footprint_at : Footprints → ℕ → Footprint
footprint_at footprints k = get_or footprints.calls k no_footprint

-- the frame is among the first of what the principal may have
abbrev pub has_frame : List (List ℕ) → Option Span → ℕ → Bool
has_frame sets None f = false
has_frame sets (Some s) f = has_member (take s.length (get_or sets s.principal [])) f

abbrev pub is_of : Option Span → ℕ → Bool
is_of None v = false
is_of (Some s) v = eqb s.principal v

-- whether a call that has this footprint may touch the resource
abbrev pub footprint_has : List (List ℕ) → Footprint → Resource → Bool
footprint_has sets footprint (resource.Frame f) = is_at footprint.frame f || (has_frame sets footprint.slot f || has_frame sets footprint.free f)
footprint_has sets footprint (resource.Vm v) = is_of footprint.slot v
footprint_has sets footprint resource.Free = is_some footprint.free

abbrev size_of : List ℕ → ℕ
size_of xs = length xs

pub record IsSpan (sets : List (List ℕ)) (s : Span) : Type 0 where
  pub principal : s.principal < length sets
  pub within : s.length ≤ size_of (get_or sets s.principal [])

-- what the footprint names exists
pub record IsThere (sets : List (List ℕ)) (footprint : Footprint) : Type 0 where
  pub frame : IfSome footprint.frame (λ f. f < frame_limit)
  pub slot : IfSome footprint.slot (IsSpan sets)
  pub slot_low : IfSome footprint.slot (λ s. s.principal < slot_limit)
  pub free : IfSome footprint.free (IsSpan sets)

-- this holds of each footprint, no principal may have a frame twice, and frames have numbers of frames
pub record AreThere (sets : List (List ℕ)) (footprints : List Footprint) : Type 0 where
  pub low : (p i : ℕ) → i < size_of (get_or sets p []) → get_or (get_or sets p []) i 0 < frame_limit
  pub once : (p : ℕ) → IsDistinct eqb (get_or sets p [])
  pub each : (k : ℕ) → k < length footprints → IsThere sets (get_or footprints k no_footprint)

-- the first of what a principal may have, except the frame and what the other principal has
abbrev pub numbers_of : List (List ℕ) → Option ℕ → Option Span → Span → List ℕ
numbers_of sets frame other s = filter (λ f. not (is_at frame f || has_frame sets other f)) (take s.length (get_or sets s.principal []))

abbrev pub frames_of : List (List ℕ) → Option ℕ → Option Span → Span → List Resource
frames_of sets frame other s = map resource.Frame (numbers_of sets frame other s)

-- a footprint is listed in three parts: the frame that is named, the slot with what it may have, and the free list
abbrev pub frame_part : Option ℕ → List Resource
frame_part frame = map resource.Frame (option_to_list frame)

abbrev pub principal_part : List (List ℕ) → (Span → Resource) → Option ℕ → Option Span → Option Span → List Resource
principal_part sets itself frame other None = []
principal_part sets itself frame other (Some s) = itself s ∷ frames_of sets frame other s

abbrev pub slot_itself : Span → Resource
slot_itself s = resource.Vm s.principal

abbrev pub slot_part : List (List ℕ) → Option ℕ → Option Span → List Resource
slot_part sets frame slot = principal_part sets slot_itself frame None slot

abbrev pub free_itself : Span → Resource
free_itself s = resource.Free

abbrev pub free_part : List (List ℕ) → Option ℕ → Option Span → Option Span → List Resource
free_part sets frame slot free = principal_part sets free_itself frame slot free

-- all that a principal may have
abbrev pub span_of : List (List ℕ) → ℕ → Span
span_of sets p = record { principal = p; length = size_of (get_or sets p []) }

-- the free list, if the call names it
abbrev pub free_of : ℕ → Names → Option ℕ
free_of free n = if n.free then Some free else None

abbrev pub footprint_of : List (List ℕ) → ℕ → Names → Footprint
footprint_of sets free n = record { frame = n.frame; slot = option_map (span_of sets) n.slot; free = option_map (span_of sets) (free_of free n) }

-- the span is that of the principal, if there is one, and its frames are those that the principal may have by `before`
pub record IsSpanOf (sets : List (List ℕ)) (before : ℕ → ℕ → Bool) (o : Option ℕ) (span : Option Span) : Type 0 where
  pub there : is_some span ≡ is_some o
  pub principal : (p : ℕ) → is_of span p ≡ is_at o p
  pub frames : (f : ℕ) → has_frame sets span f ≡ reach_of before o f
  pub within : IfSome span (IsSpan sets)

-- the footprint says what a call with these names touches, if `before` says what principals may have before it
pub record IsFootprintOf (end : ℕ) (before : ℕ → ℕ → Bool) (n : Names) (sets : List (List ℕ)) (footprint : Footprint) : Type 0 where
  pub frame : footprint.frame ≡ n.frame
  pub slot : IsSpanOf sets before n.slot footprint.slot
  pub free : IsSpanOf sets before (free_of end n) footprint.free

abbrev pub AreFootprintsOf : ℕ → (ℕ → ℕ → Bool) → List Names → List (List ℕ) → List Footprint → Type 0
AreFootprintsOf free start cs sets footprints = (k : ℕ) → k < length footprints → IsFootprintOf free (may_have free start cs k) (names_at cs k) sets (get_or footprints k no_footprint)
