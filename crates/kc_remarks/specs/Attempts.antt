-- Attempts: which calls were refused at a page of a VM, and in which of its lives.
use Rattle.std.specs.Prelude.{ℕ, ◌≡◌, Bool, true, false, ◌&&◌, ◌==◌, nat_lt, List, [], ◌∷◌, filter, length, All, Option, Some, None}
use Rattle.std.specs.List.{filter_map}
use Rattle.std.specs.List.Sorted.{IsNonDecreasingBy}
use Rattle.std.specs.Option.{option_map}
use Rattle.kc_types.specs.Refusals.{number_of}
use Rattle.kc_types.specs.Slots.{vm_of}
use Rattle.kc_types.specs.declared.call.Call.{Call}
use Rattle.kc_types.specs.declared.refusal.Refusal.{Refusal}
use Rattle.kc_types.specs.declared.refusal.Refusal.TheVariants.{BadVm, BadVcpu, BadFrame, BadGfn, BadRange, SlotUsed, NoVm, WrongPhase, VcpuUsed, NoVcpu, ImagesFull, Overlap, NoImage, ImageFull, ImageShort, NoFault, Mapped, NotMapped, NotHost, Protected, NotPresent, TablesFull, ShareFull, NotShared, Shared, NoFree}
use Rattle.kc_types.specs.declared.reply.Reply.{Reply}
use Rattle.kc_types.specs.declared.reply.Reply.TheVariants as reply
use Rattle.kc_types.specs.declared.custody.Life.{Life}
use Rattle.kc_model.specs.State.{State}
use Rattle.kc_model.specs.Events.{events}
use Rattle.kc_model.specs.Lives.{is_owned_by}
use Rattle.kc_model.specs.Before.{lives_from}
use Rattle.kc_model.specs.Summaries.{calls_that, place_after, last_place}
use Rattle.kc_remarks.specs.declared.attempt.Attempt.{Attempt}
use Rattle.kc_remarks.specs.declared.remark.NamedFrame.{NamedFrame}
use Rattle.kc_remarks.specs.declared.remark.Denial.{Denial}
use Rattle.kc_remarks.specs.declared.remark.Denial.TheVariants as denial
use Rattle.kc_remarks.specs.declared.remark.Note.{Note}
use Rattle.kc_remarks.specs.declared.remark.Note.TheVariants as note
use Rattle.kc_remarks.specs.Remarks.{named_by, notes}

abbrev pub attempt_at : ℕ → Refusal → ℕ → Attempt
attempt_at line reason v = record { line = line; vm = v; reason = reason }

-- a refused call, if it names a frame that a VM owned before it
abbrev pub attempt_on : ℕ → Option NamedFrame → Refusal → Option Attempt
attempt_on line None reason = None
attempt_on line (Some named) reason = option_map (attempt_at line reason) (vm_of named.owner)

-- the attempt that a call is, by the frame that it names and its reply
abbrev pub attempt_told : ℕ → Option NamedFrame → Reply → Option Attempt
attempt_told line named (reply.Refused reason) = attempt_on line named reason
attempt_told line named _ = None

-- the attempt of a note
abbrev pub attempt_for : ℕ → Option NamedFrame → Denial → Option Attempt
attempt_for line named (denial.Refused reason) = attempt_on line named reason
attempt_for line named (denial.Rejected image) = None

abbrev pub attempt_in : Note → Option Attempt
attempt_in (note.Denied told) = attempt_for told.line told.named told.reason
attempt_in _ = None

-- the attempts among notes
abbrev pub attempts_in : List Note → List Attempt
attempts_in told = filter_map attempt_in told

-- no attempt is on a line before that of an earlier one
abbrev pub AreInOrder : List Attempt → Type 0
AreInOrder attempts = IsNonDecreasingBy (λ (a : Attempt). a.line) attempts

abbrev pub is_before : ℕ → Option ℕ → Bool
is_before line None = true
is_before line (Some end) = nat_lt line end

-- whether the page was the VM's in this life: the call comes after the one that registers the VM, and before the one that clears it
abbrev pub is_in_life : Life → Attempt → Bool
is_in_life life attempt = ((attempt.vm == life.vm) && nat_lt life.registered attempt.line) && is_before attempt.line life.cleared

abbrev pub attempts_in_life : Life → List Attempt → List Attempt
attempts_in_life life attempts = filter (is_in_life life) attempts

abbrev pub is_for : Refusal → Attempt → Bool
is_for reason attempt = number_of attempt.reason == number_of reason

-- how many were refused for this reason
abbrev pub count_attempts : List Attempt → Refusal → ℕ
count_attempts attempts reason = length (filter (is_for reason) attempts)

-- all reasons, in the order of their numbers
abbrev pub refusals : List Refusal
refusals = BadVm ∷ BadVcpu ∷ BadFrame ∷ BadGfn ∷ BadRange ∷ SlotUsed ∷ NoVm ∷ WrongPhase ∷ VcpuUsed ∷ NoVcpu ∷ ImagesFull ∷ Overlap ∷ NoImage ∷ ImageFull ∷ ImageShort ∷ NoFault ∷ Mapped ∷ NotMapped ∷ NotHost ∷ Protected ∷ NotPresent ∷ TablesFull ∷ ShareFull ∷ NotShared ∷ Shared ∷ NoFree ∷ []

-- ---- the same by states and replies

-- whether a VM owns the frame that a call names
abbrev pub is_owner_of : ℕ → Option NamedFrame → Bool
is_owner_of v None = false
is_owner_of v (Some named) = is_owned_by v named.owner

-- whether a call is refused for this reason at a frame that the VM owns before it
abbrev pub is_refused_at : ℕ → Refusal → State → Call → Reply → Bool
is_refused_at v reason m call (reply.Refused refusal) = (number_of refusal == number_of reason) && is_owner_of v (named_by m call)
is_refused_at v reason m call _ = false

-- the attempts in a life are, for each reason, as many as the calls of the life that are refused at a frame of its VM
abbrev pub AttemptsAreCounted : State → List Call → Life → Type 0
AttemptsAreCounted m calls life =
    (reason : Refusal) → count_attempts (attempts_in_life life (attempts_in (notes m calls))) reason
    ≡ calls_that (is_refused_at life.vm reason) m calls (place_after life.registered) (last_place calls life.cleared)

-- so it is in each life of the summary of a trace
abbrev pub AllAttemptsAreCounted : State → List Call → Type 0
AllAttemptsAreCounted m calls = All (AttemptsAreCounted m calls) (lives_from m (events m calls))
