-- A long run in volumes, each of which begins in the state that the one before it leaves. Outside the core a state is
-- known by its text.
use Rattle.std.specs.Prelude.{ℕ, true, ◌≡◌, ◌<◌, ◌≤◌, List, [], ◌∷◌, ◌++◌, length, All}
use Rattle.kc_types.specs.Configuration.{has_dump}
use Rattle.kc_types.specs.declared.call.Call.{Call}
use Rattle.kc_types.specs.declared.reply.Reply.{Reply}
use Rattle.kc_types.specs.Limits.{byte_limit}
use Rattle.kc_model.specs.State.{State}
use Rattle.kc_model.specs.Lawful.{IsLawful}
use Rattle.kc_model.specs.Next.{replies_from, state_after}

-- 32 bytes
pub record IsDigest (digest : List ℕ) : Type 0 where
  pub long : length digest ≡ 32
  pub each : All (λ b. b < 256) digest

-- a lawful state whose approved digests are 32 bytes each, as the type of a configuration has them
pub record IsCoreState (m : State) : Type 0 where
  pub lawful : IsLawful m
  pub digests : All IsDigest m.config.approved

-- no text of at most a gigabyte is the text of two states, the one of a version that has texts of states
abbrev pub TellsApart : (State → List ℕ) → Type 0
TellsApart spelled = (m n : State) → has_dump m.config.version ≡ true → IsCoreState m → IsCoreState n → length (spelled m) ≤ byte_limit → spelled m ≡ spelled n → m ≡ n

-- calls in order, with their replies, and the text of the state after them
pub record Volume : Type 0 where
  pub calls : List Call
  pub replies : List Reply
  pub left : List ℕ

-- one thread that makes the calls from a state of this text on gets the volume's replies, and leaves a state of the
-- volume's text
pub record IsReplayedFrom (spelled : State → List ℕ) (text : List ℕ) (volume : Volume) : Type 0 where
  pub start : State
  pub told : IsCoreState start
  pub is : spelled start ≡ text
  pub short : length text ≤ byte_limit
  pub given : volume.replies ≡ replies_from start volume.calls
  pub left : volume.left ≡ spelled (state_after start volume.calls)

-- each volume is replayed from what the one before it leaves, on whatever machine and in whatever order
abbrev pub AreReplayedFrom : (State → List ℕ) → List ℕ → List Volume → Type 0
AreReplayedFrom spelled text [] = Unit {0}
AreReplayedFrom spelled text (volume ∷ volumes) = IsReplayedFrom spelled text volume × AreReplayedFrom spelled volume.left volumes

-- the calls of all volumes, and their replies
abbrev pub all_calls : List Volume → List Call
all_calls [] = []
all_calls (volume ∷ volumes) = volume.calls ++ all_calls volumes

abbrev pub all_replies : List Volume → List Reply
all_replies [] = []
all_replies (volume ∷ volumes) = volume.replies ++ all_replies volumes

-- the text after the last volume
abbrev pub last_text : List ℕ → List Volume → List ℕ
last_text text [] = text
last_text text (volume ∷ volumes) = last_text volume.left volumes
