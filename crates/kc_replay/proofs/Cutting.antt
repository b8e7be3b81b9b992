-- Segments in turn make the whole.
use Rattle.std.proofs.Common.{◌≡◌, List, [], ◌∷◌, ◌++◌, refl, ap, sym, ◌∙◌}
use Rattle.std.specs.List.{flat_map}
use Rattle.std.proofs.lemmas.List.Concat.{flat_map-cons}
use Rattle.kc_types.specs.declared.call.Call.{Call}
use Rattle.kc_model.specs.State.{State}
use Rattle.kc_model.specs.Next.{replies_from, state_after}
use Rattle.kc_model.proofs.States.Runs.{replies_from-append, state_after-append}
use Rattle.kc_replay.specs.Replayer.{replies_to_each, state_after_each}

pub replies-joined : (m : State) (segments : List (List Call)) → replies_to_each m segments ≡ replies_from m (flat_map (λ calls. calls) segments)
unfolding replies_to_each
replies-joined m [] = refl
replies-joined m (calls ∷ segments) =
    ap (λ others. replies_from m calls ++ others) (replies-joined (state_after m calls) segments) ∙ sym (replies_from-append m calls (flat_map (λ cs. cs) segments)) ∙ ap (replies_from m) (sym (flat_map-cons (λ (cs : List Call). cs) calls segments))

pub state-joined : (m : State) (segments : List (List Call)) → state_after_each m segments ≡ state_after m (flat_map (λ calls. calls) segments)
unfolding state_after_each
state-joined m [] = refl
state-joined m (calls ∷ segments) =
    state-joined (state_after m calls) segments ∙ sym (state_after-append m calls (flat_map (λ cs. cs) segments)) ∙ ap (state_after m) (sym (flat_map-cons (λ (cs : List Call). cs) calls segments))
