-- Traces that differ in secret bytes alone get the same replies, but for the slot's own reads.
use Rattle.std.proofs.Common.{ℕ, ◌≡◌, ◌<◌, Bool, true, false, ◌&&◌, List, [], ◌∷◌, refl, sym, ap, subst, ◌∙◌, Option, None, Some}
use Rattle.std.specs.List.{AllByRecursion}
use Rattle.kc_types.specs.declared.call.Call.{Call}
use Rattle.kc_types.specs.declared.reply.Reply.{Reply}
use Rattle.kc_model.specs.State.{State, Frame, Slot, frame_at, mapped_at}
use Rattle.kc_model.specs.Refusals.{is_active}
use Rattle.kc_model.specs.Next.{next, replies_from, state_after}
use Rattle.kc_model.specs.Lawful.{IsLawful, same_owner}
use Rattle.kc_model.specs.Blind.{Secret, has_gfn, is_secret, is_running, hidden, hidden_call, reads_secret, grants_secret, IsPrivate, AreAlike, AlikeTraces, SeesTheSame, HostIsBlind, ShowsNothing, ShowsNothingFromBoot}
use Rattle.kc_model.proofs.Lawful.Keeps.{lawful-next}
use Rattle.kc_model.proofs.Views.Steps.{bytes_of, IsStep, step}
use Rattle.kc_model.proofs.Views.Calls.{all-kept}
use Rattle.kc_model.proofs.Blind.Unseen.{and-false}
use Rattle.kc_model.proofs.Blind.AsView.{view_of, is_view, running-alike, frames-hidden, to-view, from-view, calls-form, calls-may, reads-shown}
use Rattle.kc_model.proofs.Blind.Private.{private-next, secret-owner}
use Rattle.kc_model.proofs.Lawful.AtBoot.{slot-boot}
use Rattle.kc_model.specs.Boot.{boot}
use Rattle.kc_types.specs.Configuration.{Configuration, slot_count}
use Rattle.kc_types.specs.declared.owner.Owner.TheVariants.{Vm}

-- of two alike states both are private
pub private-alike : (s : Secret) (m n : State) → hidden s m ≡ hidden s n → IsPrivate s m → IsPrivate s n
private-alike s m n same private f e =
    let frames = frames-hidden s m n same f in
    let shares : (frame_at m f).share ≡ (frame_at n f).share = ap (λ (x : Frame). x.share) frames in
    let secrets : is_secret s (is_running n s.vm) (frame_at m f) ≡ is_secret s (is_running n s.vm) (frame_at n f) = ap (is_secret s (is_running n s.vm)) frames in
    sym shares ∙ private f (subst (λ t. is_secret s t (frame_at m f) ≡ true) (sym (running-alike s m n same)) (secrets ∙ e))

-- the same call with other secret bytes, on the other state
pub both-step : (s : Secret) (m n : State) (call other : Call) → IsLawful m → IsLawful n → AreAlike s m n → hidden_call s call ≡ hidden_call s other → IsStep (view_of s) m call (next m call) (next n other)
both-step s m n call other m_is n_is alike calls =
    subst (λ (x : Call). IsStep (view_of s) m call (next m call) (next n x)) (calls-form s call other calls)
    (step (view_of s) m n call (bytes_of other) (is_view s) m_is n_is (to-view s m n alike.same) (calls-may s m call other m_is calls) (all-kept call))

pub alike-next : (s : Secret) (m n : State) (call other : Call) → IsLawful m → IsLawful n → AreAlike s m n → hidden_call s call ≡ hidden_call s other → grants_secret s call ≡ false → AreAlike s (next m call).1 (next n other).1
alike-next s m n call other m_is n_is alike calls grants = record {
  same = from-view s (next m call).1 (next n other).1 (both-step s m n call other m_is n_is alike calls).states;
  private = private-next s m call m_is alike.private grants;
}

same-answer : (s : Secret) (m n : State) (call other : Call) → IsLawful m → IsLawful n → AreAlike s m n → hidden_call s call ≡ hidden_call s other → reads_secret s call ≡ false → (next m call).0 ≡ (next n other).0
same-answer s m n call other m_is n_is alike calls reads = sym ((both-step s m n call other m_is n_is alike calls).answer.whole (reads-shown s m call m_is alike.private reads))

blind-from : (s : Secret) (m n : State) (calls others : List Call) → IsLawful m → IsLawful n → AreAlike s m n → AlikeTraces s calls others
    → AllByRecursion (λ call. grants_secret s call ≡ false) calls → SeesTheSame s m n calls others
blind-from s m n [] [] m_is n_is alike traces grants = record { replies = tt; states = alike }
blind-from s m n [] (other ∷ others) m_is n_is alike traces grants = absurd cc
blind-from s m n (call ∷ calls) [] m_is n_is alike traces grants = absurd cc
blind-from s m n (call ∷ calls) (other ∷ others) m_is n_is alike traces grants =
    let first : hidden_call s call ≡ hidden_call s other = cc in
    let rest : AlikeTraces s calls others = cc in
    let later = blind-from s (next m call).1 (next n other).1 calls others (lawful-next m call m_is) (lawful-next n other n_is) (alike-next s m n call other m_is n_is alike first grants.0) rest grants.1 in
    record {
      replies = (same-answer s m n call other m_is n_is alike first, later.replies);
      states = later.states;
    }

-- the host is blind for every trace from a lawful state
pub host_is_blind : (m : State) (calls : List Call) → IsLawful m → HostIsBlind m calls
host_is_blind m calls is s n others n_is alike traces grants = blind-from s m n calls others is n_is alike traces grants

pub shows_nothing : (m new : State) (calls : List Call) (replies : List Reply) → IsLawful m → replies ≡ replies_from m calls → new ≡ state_after m calls → ShowsNothing m calls replies new
shows_nothing m new calls replies is answered left s n others n_is alike traces grants =
    let seen = host_is_blind m calls is s n others n_is alike traces grants in
    (rw answered seen.replies, rw left seen.states)

-- two cores at boot are alike
pub alike-boot : (s : Secret) (c : Configuration) → AreAlike s (boot c) (boot c)
alike-boot s c = record { same = refl; private = λ f secret. no_secret f secret }
  where
    idle : is_running (boot c) s.vm ≡ false
    idle = slot-boot (λ (x : Slot). is_active x.phase) c s.vm refl

    no_secret : (f : ℕ) → is_secret s (is_running (boot c) s.vm) (frame_at (boot c) f) ≡ true → (frame_at (boot c) f).share ≡ 0
    no_secret f secret =
        let open_it : is_secret s (is_running (boot c) s.vm) (frame_at (boot c) f) ≡ false = ap (λ t. is_secret s t (frame_at (boot c) f)) idle ∙ and-false _ _ in
        absurd cc

-- of a lawful state the secret frames are those that the running slot maps at secret guest frames
pub secret-mapped : (s : Secret) (m : State) (f : ℕ) → IsLawful m → s.vm < slot_count m.config → is_secret s (is_running m s.vm) (frame_at m f) ≡ true → (g : ℕ) × (mapped_at m s.vm g ≡ Some f) × (s.gfns g ≡ true)
secret-mapped s m f is v_in e = by-gfn (frame_at m f).gfn refl (second (same_owner (frame_at m f).owner (Vm s.vm)) _ _ e)
  where
    second : (p q r : Bool) → (p && (q && r)) ≡ true → q ≡ true
    second true true r h = refl
    second true false r h = cc
    second false q r h = cc

    by-gfn : (gfn : Option ℕ) → (frame_at m f).gfn ≡ gfn → has_gfn s.gfns gfn ≡ true → (g : ℕ) × (mapped_at m s.vm g ≡ Some f) × (s.gfns g ≡ true)
    by-gfn None at h = absurd cc
    by-gfn (Some g) at h = (g, (is.mapped s.vm g f v_in).1 (secret-owner s (is_running m s.vm) (frame_at m f) e, at), h)

pub shows_nothing-boot : (c : Configuration) (calls : List Call) (replies : List Reply) (new : State) → IsLawful (boot c) → ShowsNothing (boot c) calls replies new → ShowsNothingFromBoot c calls replies new
shows_nothing-boot c calls replies new is shown s others traces grants = shown s (boot c) others is (alike-boot s c) traces grants
