-- The host's calls on parts.
use Rattle.std.proofs.Common.{ℕ, zero, suc, ◌≡◌, ◌<◌, false, length, List, [], ◌∷◌, ◌++◌, Some, None, refl, sym, ap, ◌∙◌, arith}
use Rattle.std.proofs.lemmas.Bool.{ne_eqb}
use Rattle.kc_types.specs.Configuration.{Configuration}
use Rattle.kc_types.specs.declared.link.Ends.{Ends}
use Rattle.kc_types.specs.declared.owner.Owner.{Owner}
use Rattle.kc_types.specs.declared.owner.Owner.TheVariants.{Core, Host, Free, Vm}
use Rattle.kc_types.specs.declared.call.Call.TheVariants.{Take, Give}
use Rattle.kc_types.specs.declared.reply.Reply.TheVariants as reply
use Rattle.kc_types.specs.declared.refusal.Refusal.TheVariants.{NoFree}
use Rattle.kc_model.specs.State.{State, frame_at, with_frame, zero_page}
use Rattle.kc_model.specs.Lawful.{times_in}
use Rattle.kc_model.specs.Refusals.{refusal, conditions}
use Rattle.kc_model.specs.Effects.{effect, host_takes, given}
use Rattle.kc_model.proofs.Refusals.Served.{none-of}
use Rattle.kc_model.proofs.Refusals.Answered.{frame-in, was-host}
use Rattle.kc_page.specs.declared.page.Page.{Page}
use Rattle.kc_page.specs.Page.{frame_of}
use Rattle.kc_links.specs.Chain.{Links}
use Rattle.kc_links.specs.Ending.{listed}
use Rattle.kc_parts.specs.Parts.{Held, page_at, with_page, link_of, links_of, ends_at}
use Rattle.kc_parts.specs.States.{list_in, state_of, owner_at, IsLinked, IsLoose, IsFreeMove, free_of}
use Rattle.kc_parts.proofs.Pages.{links-kept}
use Rattle.kc_parts.proofs.Seen.{ends-page, linked-moved}
use Rattle.kc_core.proofs.Frames.{changed}

pub give-served : (m : State) (f : ℕ) → refusal m (Give f) ≡ None → (f < m.config.frames) × ((frame_at m f).owner ≡ Host)
give-served m f served =
    let none = none-of (conditions m (Give f)) served in
    (frame-in m f (none 0), was-host m f (none 1))

-- the host's frames are in no list
pub loose-host : (config : Configuration) (h : Held) (f : ℕ) → IsLinked config h → owner_at h f ≡ Host → IsLoose h f
loose-host config h f linked host = record {
  alone = linked.lists.alone f host;
  absent = λ owner ends is. by_count owner ends is (times_in (listed (links_of h) ends) f) refl;
}
  where
    no_ends : (owner : Owner) (ends : Ends) → owner ≡ Host → ends_at h owner ≡ Some ends → ⊥
    no_ends Host ends e is = cc
    no_ends Core ends e is = cc
    no_ends Free ends e is = cc
    no_ends (Vm v) ends e is = cc

    by_count : (owner : Owner) (ends : Ends) → ends_at h owner ≡ Some ends → (n : ℕ) → times_in (listed (links_of h) ends) f ≡ n → n ≡ 0
    by_count owner ends is zero e = refl
    by_count owner ends is (suc n) e = absurd (no_ends owner ends (sym (linked.lists.owned owner ends f is (rw e (omega arith))) ∙ host) is)

-- no frame is free
pub take-none : (config : Configuration) (h : Held) → free_of h ≡ [] → refusal (state_of config h) Take ≡ Some NoFree
take-none config h none = rw none refl

pub state-none : (config : Configuration) (old new : Held) → IsFreeMove old new → free_of old ≡ [] → free_of new ≡ [] → state_of config new ≡ state_of config old
state-none config old new move before after = move.state config ∙ ap (λ fs. record (state_of config old) { free = fs }) (after ∙ sym before)

-- a frame is free
pub take-some : (config : Configuration) (h : Held) (f : ℕ) (rest : List ℕ) → free_of h ≡ f ∷ rest → (refusal (state_of config h) Take ≡ None) × (reply.Frame f ≡ (effect (state_of config h) Take).0)
take-some config h f rest first = (rw (first, ne_eqb (suc (length rest)) 0 (λ e. omega (arith, e))) refl, ap (λ fs. (host_takes (state_of config h) fs).0) (sym first))

-- the first free frame is the host's
pub state-taken : (config : Configuration) (old mid : Held) (f : ℕ) (page new : Page) → IsFreeMove old mid → free_of old ≡ f ∷ free_of mid → f < config.frames → page_at mid f ≡ Some page → link_of new ≡ link_of page
    → frame_of new ≡ record (frame_of page) { owner = Host; present = false } → state_of config (with_page mid f new) ≡ (effect (state_of config old) Take).1
state-taken config old mid f page new move free low at same to =
    let m : State = state_of config old in
    changed config mid f page new (λ frame. record frame { owner = Host; present = false }) low at same to
    ∙ ap (λ (s : State). with_frame s f (record (frame_at s f) { owner = Host; present = false })) (move.state config)
    ∙ ap (λ fs. (host_takes m fs).1) (sym free)

pub linked-taken : (config : Configuration) (mid : Held) (f : ℕ) (page new : Page) → IsLinked config mid → IsLoose mid f → page_at mid f ≡ Some page → link_of new ≡ link_of page → new.bytes.is_reserved ≡ page.bytes.is_reserved → IsLinked config (with_page mid f new)
linked-taken config mid f page new linked loose at same reserved = linked-moved config mid f page new linked at same loose.absent (λ host. loose.alone) reserved

-- a page in no list is in none after it changed
pub loose-page : (h : Held) (f : ℕ) (page new : Page) → page_at h f ≡ Some page → link_of new ≡ link_of page → IsLoose h f → IsLoose (with_page h f new) f
loose-page h f page new at same loose = record {
  alone = ap (λ (l : Links). l f) (links-kept h f page new at same) ∙ loose.alone;
  absent = λ owner ends is. rw (links-kept h f page new at same) (loose.absent owner ends (sym (ends-page h f new owner) ∙ is));
}

-- a frame of the host's is the last of the free ones
pub state-given : (config : Configuration) (old new : Held) (f : ℕ) (page given_up : Page) → f < config.frames → page_at old f ≡ Some page → link_of given_up ≡ link_of page
    → frame_of given_up ≡ record (frame_of page) { owner = Free; present = false; bytes = zero_page }
    → IsFreeMove (with_page old f given_up) new → free_of new ≡ free_of (with_page old f given_up) ++ f ∷ [] → state_of config new ≡ given (state_of config old) f
state-given config old new f page given_up low at same to move free =
    let m : State = state_of config old in
    let kept : free_of (with_page old f given_up) ≡ free_of old = ap (λ links. list_in links old.free) (links-kept old f page given_up at same) in
    move.state config
    ∙ ap (λ (s : State). record s { free = free_of new }) (changed config old f page given_up (λ frame. record frame { owner = Free; present = false; bytes = zero_page }) low at same to)
    ∙ ap (λ fs. record (with_frame m f (record (frame_at m f) { owner = Free; present = false; bytes = zero_page })) { free = fs }) (free ∙ ap (λ fs. fs ++ f ∷ []) kept)
