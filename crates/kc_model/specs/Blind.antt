-- What the host cannot see of a slot: the bytes at some of its guest frames.
use Rattle.std.specs.Prelude.{ℕ, ◌≡◌, ◌==◌, ◌&&◌, Bool, true, false, List, [], ◌∷◌, map, length, replicate, Option, Some, None, if◌then◌else◌}
use Rattle.std.specs.List.{AllByRecursion}
use Rattle.kc_types.specs.declared.call.Call.{Call}
use Rattle.kc_types.specs.declared.call.Call.TheVariants.{GuestRead, GuestWrite, Grant, GrantRange}
use Rattle.kc_types.specs.declared.reply.Reply.{Reply}
use Rattle.kc_types.specs.declared.owner.Owner.TheVariants.{Vm}
use Rattle.kc_types.specs.Configuration.{Configuration}
use Rattle.kc_model.specs.State.{State, Frame, frame_at, slot_at}
use Rattle.kc_model.specs.Boot.{boot}
use Rattle.kc_model.specs.Refusals.{is_active, any_from}
use Rattle.kc_model.specs.Next.{replies_from, state_after}
use Rattle.kc_model.specs.Lawful.{IsLawful, same_owner}

-- a slot and a set of its guest frames
pub record Secret : Type 0 where
  pub vm : ℕ
  pub gfns : ℕ → Bool

abbrev pub has_gfn : (ℕ → Bool) → Option ℕ → Bool
has_gfn gfns None = false
has_gfn gfns (Some g) = gfns g

-- whether the frame is mapped at one of these guest frames of the slot, which is active or not
abbrev pub is_secret : Secret → Bool → Frame → Bool
is_secret s active frame = same_owner frame.owner (Vm s.vm) && (has_gfn s.gfns frame.gfn && active)

abbrev pub hidden_frame : Secret → Bool → Frame → Frame
hidden_frame s active frame = record frame { bytes = if is_secret s active frame then [] else frame.bytes }

abbrev pub is_running : State → ℕ → Bool
is_running m v = is_active (slot_at m v).phase

-- the state without the secret bytes
abbrev pub hidden : Secret → State → State
hidden s m = record m { frames = map (hidden_frame s (is_running m s.vm)) m.frames }

abbrev pub names_secret : Secret → ℕ → ℕ → Bool
names_secret s v g = (v == s.vm) && s.gfns g

-- the call without the bytes that it writes to secret guest frames, but with their number
abbrev pub hidden_call : Secret → Call → Call
hidden_call s (GuestWrite v c g off bytes) = GuestWrite v c g off (if names_secret s v g then replicate (length bytes) 0 else bytes)
hidden_call s call = call

abbrev pub reads_secret : Secret → Call → Bool
reads_secret s (GuestRead v c g off len) = names_secret s v g
reads_secret s _ = false

abbrev pub grants_secret : Secret → Call → Bool
grants_secret s (Grant v c g) = names_secret s v g
grants_secret s (GrantRange v c g n) = any_from g n (names_secret s v)
grants_secret s _ = false

-- no secret frame is shared with the host
abbrev pub IsPrivate : Secret → State → Type 0
IsPrivate s m = (f : ℕ) → is_secret s (is_running m s.vm) (frame_at m f) ≡ true → (frame_at m f).share ≡ 0

-- the states differ only in secret bytes (low equivalence), and no frame that has them is shared
pub record AreAlike (s : Secret) (m n : State) : Type 0 where
  pub same : hidden s m ≡ hidden s n
  pub private : IsPrivate s m

-- the traces differ only in the bytes of writes to secret guest frames
abbrev pub AlikeTraces : Secret → List Call → List Call → Type 0
AlikeTraces s calls others = map (hidden_call s) calls ≡ map (hidden_call s) others

-- the replies to all calls but the slot's reads of secret guest frames are the same
abbrev pub SameReplies : Secret → List Call → List Reply → List Reply → Type 0
SameReplies s [] [] [] = Unit {0}
SameReplies s (call ∷ calls) (reply ∷ replies) (other ∷ others) = (reads_secret s call ≡ false → reply ≡ other) × SameReplies s calls replies others
SameReplies s _ _ _ = ⊥

-- what the host sees of two traces: their replies, and the states that they leave
pub record SeesTheSame (s : Secret) (m n : State) (calls others : List Call) : Type 0 where
  pub replies : SameReplies s calls (replies_from m calls) (replies_from n others)
  pub states : AreAlike s (state_after m calls) (state_after n others)

-- noninterference (confidentiality), with declassification by grant: for every slot and every set of secret guest
-- frames, a trace that grants none of them shows nothing of their bytes
abbrev pub HostIsBlind : State → List Call → Type 0
HostIsBlind m calls = (s : Secret) (n : State) (others : List Call) → IsLawful n → AreAlike s m n → AlikeTraces s calls others
    → AllByRecursion (λ call. grants_secret s call ≡ false) calls → SeesTheSame s m n calls others

-- the same of a run that was answered, by its replies and the state that it left
abbrev pub ShowsNothing : State → List Call → List Reply → State → Type 0
ShowsNothing old calls replies new = (s : Secret) (n : State) (others : List Call) → IsLawful n → AreAlike s old n → AlikeTraces s calls others
    → AllByRecursion (λ call. grants_secret s call ≡ false) calls → SameReplies s calls replies (replies_from n others) × AreAlike s new (state_after n others)

-- the same of a run from boot, compared to any other trace in the same configuration
abbrev pub ShowsNothingFromBoot : Configuration → List Call → List Reply → State → Type 0
ShowsNothingFromBoot c calls replies new = (s : Secret) (others : List Call) → AlikeTraces s calls others
    → AllByRecursion (λ call. grants_secret s call ≡ false) calls → SameReplies s calls replies (replies_from (boot c) others) × AreAlike s new (state_after (boot c) others)
