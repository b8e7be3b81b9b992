-- Accesses that may be left out of a trace, since custody does not depend on them: reads, and writes of bytes that do
-- not count.
use Rattle.std.specs.Prelude.{ℕ, ◌≡◌, Bool, true, false, not, ◌&&◌, List, [], ◌∷◌, ◌++◌, length, is_none, is_some}
use Rattle.std.specs.List.{range_with_len}
use Rattle.kc_types.specs.declared.call.Call.{Call}
use Rattle.kc_types.specs.declared.call.Call.TheVariants.{HostRead, HostWrite, GuestRead, GuestWrite}
use Rattle.kc_types.specs.declared.custody.Change.{Change}
use Rattle.kc_model.specs.State.{State, frame_at, vcpu_at, mapped_at}
use Rattle.kc_model.specs.Next.{next, replies_from, state_after}
use Rattle.kc_model.specs.Lawful.{IsLawful}
use Rattle.kc_model.specs.Custody.{changes_by, custody, first_line}
use Rattle.kc_model.specs.Redaction.{counts, KeepsImages, DifferInBytes, AreSameReplies}

-- the virtual processor waits for no page, and the guest frame is mapped: hardware makes such an access by itself
abbrev pub is_direct : State → ℕ → ℕ → ℕ → Bool
is_direct m v c g = is_none (vcpu_at m v c).fault && is_some (mapped_at m v g)

-- an access that changes nothing, or only bytes that do not count
abbrev pub may_lack : (ℕ → Bool) → State → Call → Bool
may_lack kept m (HostRead f off len) = true
may_lack kept m (HostWrite f off bytes) = not (counts kept m f (frame_at m f).owner)
may_lack kept m (GuestRead v c g off len) = is_direct m v c g
may_lack kept m (GuestWrite v c g off bytes) = is_direct m v c g
may_lack kept m _ = false

-- the elements whose mark is true
abbrev pub marked : {X : Type 0} → List Bool → List X → List X
marked (true ∷ marks) (x ∷ xs) = x ∷ marked marks xs
marked (false ∷ marks) (x ∷ xs) = marked marks xs
marked _ _ = []

-- each call whose mark is false may be left out of the trace
abbrev pub MayLackOthers : (ℕ → Bool) → State → List Bool → List Call → Type 0
MayLackOthers kept m [] [] = Unit {0}
MayLackOthers kept m (true ∷ marks) (call ∷ calls) = MayLackOthers kept (next m call).1 marks calls
MayLackOthers kept m (false ∷ marks) (call ∷ calls) = (may_lack kept m call ≡ true) × MayLackOthers kept (next m call).1 marks calls
MayLackOthers kept m _ _ = ⊥

-- the changes by calls on these lines
abbrev pub custody_on : List ℕ → State → List Call → List Change
custody_on (line ∷ lines) m (call ∷ calls) = changes_by line m (next m call).1 ++ custody_on lines (next m call).1 calls
custody_on _ m _ = []

-- the marked calls by themselves have the changes of all calls, each on the line that its call had, and the same
-- replies, except for the bytes that reads are answered
pub record TellsAll (kept : ℕ → Bool) (m n : State) (marks : List Bool) (calls : List Call) : Type 0 where
  pub custody : (lines : List ℕ) → length lines ≡ length calls → custody_on (marked marks lines) n (marked marks calls) ≡ custody_on lines m calls
  pub replies : AreSameReplies (marked marks calls) (marked marks (replies_from m calls)) (replies_from n (marked marks calls))
  pub states : DifferInBytes kept (state_after m calls) (state_after n (marked marks calls))

-- if the kept frames include all that become pages of boot images, a trace without such accesses has the same custody
abbrev pub AccessesChangeNothing : State → List Call → Type 0
AccessesChangeNothing m calls =
    (custody_on (range_with_len first_line (length calls)) m calls ≡ custody m calls)
    × ((kept : ℕ → Bool) (n : State) (marks : List Bool) → IsLawful n → DifferInBytes kept m n → MayLackOthers kept m marks calls → KeepsImages kept calls → TellsAll kept m n marks calls)
