-- Volumes that are each replayed alone are the whole.
use Rattle.std.proofs.Common.{ℕ, true, ◌≡◌, List, [], ◌∷◌, ◌++◌, refl, ap, sym, ◌∙◌}
use Rattle.kc_types.specs.Configuration.{has_dump}
use Rattle.kc_model.specs.State.{State}
use Rattle.kc_model.specs.Next.{replies_from, state_after}
use Rattle.kc_model.proofs.Lawful.LawfulTraces.{core_state-after}
use Rattle.kc_model.proofs.States.Sizes.{config-after}
use Rattle.kc_model.proofs.States.Runs.{replies_from-append, state_after-append}
use Rattle.kc_model.specs.Volumes.{IsCoreState, TellsApart, Volume, AreReplayedFrom, all_calls, all_replies, last_text}

pub chained : (spelled : State → List ℕ) → TellsApart spelled → (m : State) (text : List ℕ) (volumes : List Volume) → has_dump m.config.version ≡ true → IsCoreState m → spelled m ≡ text → AreReplayedFrom spelled text volumes
    → (all_replies volumes ≡ replies_from m (all_calls volumes)) × (last_text text volumes ≡ spelled (state_after m (all_calls volumes)))
chained spelled apart m text [] has told is each = (refl, sym is)
chained spelled apart m text (volume ∷ volumes) has told is each =
    let first = each.0 in
    let same : first.start ≡ m = sym (apart m first.start has told first.told (rw is first.short) (is ∙ sym first.is)) in
    let given : volume.replies ≡ replies_from m volume.calls = first.given ∙ ap (λ s. replies_from s volume.calls) same in
    let left : spelled (state_after m volume.calls) ≡ volume.left = sym (first.left ∙ ap (λ s. spelled (state_after s volume.calls)) same) in
    let rest = chained spelled apart (state_after m volume.calls) volume.left volumes (rw (config-after m volume.calls) has) (core_state-after m volume.calls told) left each.1 in (
      ap (λ replies. replies ++ all_replies volumes) given ∙ ap (λ replies. replies_from m volume.calls ++ replies) rest.0 ∙ sym (replies_from-append m volume.calls (all_calls volumes)),
      rest.1 ∙ ap spelled (sym (state_after-append m volume.calls (all_calls volumes))),
    )
