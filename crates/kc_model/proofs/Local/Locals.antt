-- Each call depends only on what it needs, and changes nothing else.
use Rattle.std.proofs.Common.{ℕ, ◌≡◌, true, Option, Some, None, List, [], ◌∷◌, refl, ap, ◌∙◌}
use Rattle.kc_types.specs.declared.call.Call.{Call}
use Rattle.kc_types.specs.declared.call.Call.TheVariants.{Take, Give, HostFault, HostRead, HostWrite}
use Rattle.kc_types.specs.declared.refusal.Refusal.{Refusal}
use Rattle.kc_model.specs.State.{State}
use Rattle.kc_model.specs.Refusals.{refusal}
use Rattle.kc_model.specs.Effects.{effect, host_takes}
use Rattle.kc_model.specs.Next.{next, unless_refused}
use Rattle.kc_model.specs.Resources.{Resources, merged}
use Rattle.kc_model.specs.Local.{outcome_merged, IsLocal}
use Rattle.kc_model.proofs.Local.Merges.{HasFrame, frame-merged, free-merged, frames-set}
use Rattle.kc_types.specs.declared.resource.Resource.TheVariants as resource

unless-local : (here : Resources) (m rest : State) (call : Call) (refused : Option Refusal) → refusal m call ≡ refused → (refusal m call ≡ None → effect (merged here m rest) call ≡ outcome_merged here (effect m call) rest)
    → unless_refused refused (merged here m rest) call ≡ outcome_merged here (unless_refused refused m call) rest
unless-local here m rest call None is served = served is
unless-local here m rest call (Some r) is served = refl

-- a call is local if its refusal and its effect are
pub local-next : (here : Resources) (m rest : State) (call : Call) → refusal (merged here m rest) call ≡ refusal m call → (refusal m call ≡ None → effect (merged here m rest) call ≡ outcome_merged here (effect m call) rest) → IsLocal here m rest call
unfolding next
local-next here m rest call same served = ap (λ refused. unless_refused refused (merged here m rest) call) same ∙ unless-local here m rest call (refusal m call) refl served

pub local-host_fault : (here : Resources) (m rest : State) (f : ℕ) → HasFrame here m f → IsLocal here m rest (HostFault f)
local-host_fault here m rest f has = local-next here m rest (HostFault f)
    (rw (frame-merged here m rest f has) refl)
    (λ _. rw (frame-merged here m rest f has, frames-set here m rest f has) refl)

pub local-host_read : (here : Resources) (m rest : State) (f off len : ℕ) → HasFrame here m f → IsLocal here m rest (HostRead f off len)
local-host_read here m rest f off len has = local-next here m rest (HostRead f off len)
    (rw (frame-merged here m rest f has) refl)
    (λ _. rw (frame-merged here m rest f has) refl)

pub local-host_write : (here : Resources) (m rest : State) (f off : ℕ) (bytes : List ℕ) → HasFrame here m f → IsLocal here m rest (HostWrite f off bytes)
local-host_write here m rest f off bytes has = local-next here m rest (HostWrite f off bytes)
    (rw (frame-merged here m rest f has) refl)
    (λ _. rw (frame-merged here m rest f has, frames-set here m rest f has) refl)

pub local-give : (here : Resources) (m rest : State) (f : ℕ) → HasFrame here m f → here resource.Free ≡ true → IsLocal here m rest (Give f)
local-give here m rest f has free = local-next here m rest (Give f)
    (rw (frame-merged here m rest f has) refl)
    (λ _. rw (frame-merged here m rest f has, frames-set here m rest f has, free) refl)

takes-local : (here : Resources) (m rest : State) (free : List ℕ) → here resource.Free ≡ true → m.free ≡ free → ((f : ℕ) (fs : List ℕ) → free ≡ f ∷ fs → HasFrame here m f) → host_takes (merged here m rest) free ≡ outcome_merged here (host_takes m free) rest
takes-local here m rest [] has e first = refl
takes-local here m rest (f ∷ fs) has e first = rw (frame-merged here m rest f (first f fs refl), frames-set here m rest f (first f fs refl), has) refl

pub local-take : (here : Resources) (m rest : State) → here resource.Free ≡ true → ((f : ℕ) (fs : List ℕ) → m.free ≡ f ∷ fs → HasFrame here m f) → IsLocal here m rest Take
local-take here m rest has first = local-next here m rest Take (rw has refl) (λ _. ap (host_takes (merged here m rest)) (free-merged here m rest has) ∙ takes-local here m rest m.free has refl first)
