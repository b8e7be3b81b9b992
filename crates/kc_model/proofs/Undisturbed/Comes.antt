-- A call by which something reaches the VM, compared to another by which the same does.
use Rattle.std.proofs.Common.{ℕ, ◌≡◌, ◌<◌, ◌⊎◌, ◌&&◌, inl, inr, Bool, true, false, cond, List, ◌∷◌, length, nat_eq, eq-eqb, refl, sym, ap, subst, ◌∙◌, arith, Option, None, Some, replicate}
use Rattle.std.proofs.lemmas.Grind.{common_steps}
use Rattle.std.proofs.lemmas.Bool.{cases_eq, ne_eqb, and_parts}
use Rattle.std.proofs.lemmas.Option.{same_Some}
use Rattle.std.proofs.lemmas.List.{length-replicate}
use Rattle.kc_types.specs.Configuration.{slot_count}
use Rattle.kc_types.specs.declared.call.Call.{Call}
use Rattle.kc_types.specs.declared.call.Call.TheVariants.{Take, Give, HostFault, HostRead, HostWrite, RegisterVm, RegisterVcpu, SetBoot, Remap, Verify, Map, GuestRead, GuestWrite, Grant, Revoke, GrantRange, RevokeRange, Drop, Clear}
use Rattle.kc_types.specs.declared.reply.Reply.{Reply}
use Rattle.kc_types.specs.declared.refusal.Refusal.{Refusal}
use Rattle.kc_types.specs.declared.owner.Owner.{Owner}
use Rattle.kc_types.specs.declared.owner.Owner.TheVariants.{Core, Host, Free, Vm}
use Rattle.kc_types.specs.Slots.{slot_of}
use Rattle.kc_model.specs.State.{State, frame_at, overwritten, mapped_at}
use Rattle.kc_model.specs.Refusals.{refusal, conditions, backing, next_gfn, pending, bad_vm, first_of_these, guest_access}
use Rattle.kc_model.specs.Effects.{Outcome, effect, guest_written}
use Rattle.kc_model.specs.Next.{next, unless_refused}
use Rattle.kc_model.specs.Lawful.{IsLawful, same_owner}
use Rattle.kc_model.specs.Blind.{has_gfn}
use Rattle.kc_model.specs.Undisturbed.{watched, HasTheSame, Input, own_call, image_page, fresh_page, host_bytes, if_served, if_named, by_host, input, watched_reply, with_answer, verifies, watched_call}
use Rattle.kc_model.proofs.Refusals.Served.{none-of}
use Rattle.kc_model.proofs.Refusals.Answered.{vm-in}
use Rattle.kc_model.proofs.States.Changes.{exists}
use Rattle.kc_model.proofs.Undisturbed.Pages.{HasFrames, has-frames, changed-same, slots-same, same-then, same-back}
use Rattle.kc_model.proofs.Undisturbed.Unnamed.{same-self, blank}
use Rattle.kc_model.proofs.Undisturbed.Refused as refused
use Rattle.kc_model.proofs.Undisturbed.Own.{IsAlike, own-register, own-vcpu, own-boot, own-read, own-write, own-grant, own-revoke, own-grants, own-revokes, own-drop, own-clear, own-verify}
use Rattle.kc_model.proofs.Undisturbed.Handed.{remap-same, map-same, host-same}

-- a call that may reach the VM as it is
abbrev pub IsOwn : Call → Type 0
IsOwn (HostWrite f off bytes) = ⊥
IsOwn (Remap w i f) = ⊥
IsOwn (Map w c f) = ⊥
IsOwn _ = Unit {0}

-- the call by which this reaches the VM
abbrev pub Comes : (ℕ → Bool) → ℕ → State → Call → Input → Type 0
Comes s v m call (own_call c) = (watched_call s call ≡ c) × (slot_of call ≡ Some v) × IsOwn call
Comes s v m call (image_page i bytes) = (f : ℕ) × (call ≡ Remap v i f) × (refusal m (Remap v i f) ≡ None) × (watched s (next_gfn m v i) (frame_at m f).bytes ≡ bytes)
Comes s v m call (fresh_page c bytes) = (f : ℕ) × (call ≡ Map v c f) × (refusal m (Map v c f) ≡ None) × (watched s (pending m v c) (frame_at m f).bytes ≡ bytes)
Comes s v m call (host_bytes g off bytes) = (f : ℕ) × (call ≡ HostWrite f off bytes) × (refusal m (HostWrite f off bytes) ≡ None) × ((frame_at m f).owner ≡ Vm v) × ((frame_at m f).gfn ≡ Some g) × (s g ≡ true)

served-of : (refused : Option Refusal) (x : Option Input) (i : Input) → if_served refused x ≡ Some i → (refused ≡ None) × (x ≡ Some i)
served-of None x i e = (refl, e)
served-of (Some r) x i e = absurd cc

named-of : (at : Option ℕ) (v : ℕ) (x : Option Input) (i : Input) → if_named v at x ≡ Some i → (at ≡ Some v) × (x ≡ Some i)
named-of None v x i e = absurd cc
named-of (Some w) v x i e = elim (cases_eq w v) [
  | inl same ↦ (ap Some same, ap (λ b. cond b x None) (sym (eq-eqb w v same)) ∙ e)
  | inr other ↦ let none : None ≡ Some i = ap (λ b. cond b x None) (sym (ne_eqb w v other)) ∙ e in absurd cc
]

own-is : (owner : Owner) (v : ℕ) → same_owner owner (Vm v) ≡ true → owner ≡ Vm v
own-is Core v h = absurd cc
own-is Host v h = absurd cc
own-is Free v h = absurd cc
own-is (Vm w) v h = ap Vm (grind (arith, common_steps, h))

gfn-is : (s : ℕ → Bool) (gfn : Option ℕ) → has_gfn s gfn ≡ true → gfn ≡ Some (backing gfn)
gfn-is s None h = absurd cc
gfn-is s (Some g) h = refl

watch-is : (s : ℕ → Bool) (gfn : Option ℕ) → has_gfn s gfn ≡ true → s (backing gfn) ≡ true
watch-is s None h = absurd cc
watch-is s (Some g) h = h

hosts-of : (t : Bool) (a b : Input) → cond t (Some a) None ≡ Some b → (t ≡ true) × (a ≡ b)
hosts-of true a b e = (refl, same_Some a b e)
hosts-of false a b e = absurd cc

pub comes : (s : ℕ → Bool) (v : ℕ) (m : State) (call : Call) (i : Input) → input s v m call ≡ Some i → Comes s v m call i
comes s v m (HostWrite f off bytes) i e =
    let frame = frame_at m f in
    let seen = served-of (refusal m (HostWrite f off bytes)) (by_host s v frame off bytes) i e in
    let found = hosts-of (same_owner frame.owner (Vm v) && has_gfn s frame.gfn) (host_bytes (backing frame.gfn) off bytes) i seen.1 in
    let parts = and_parts (same_owner frame.owner (Vm v)) (has_gfn s frame.gfn) found.0 in
    subst (Comes s v m (HostWrite f off bytes)) found.1 (f, refl, seen.0, own-is frame.owner v parts.0, gfn-is s frame.gfn parts.1, watch-is s frame.gfn parts.1)
comes s v m (Remap w i f) j e =
    let mine = named-of (Some w) v _ j e in
    let seen = served-of (refusal m (Remap w i f)) _ j mine.1 in
    subst (Comes s v m (Remap w i f)) (same_Some _ _ seen.1)
    (let mine_too : w ≡ v = same_Some w v mine.0 in (f, ap (λ x. Remap x i f) mine_too, subst (λ x. refusal m (Remap x i f) ≡ None) mine_too seen.0, ap (λ x. watched s (next_gfn m x i) (frame_at m f).bytes) (sym mine_too)))
comes s v m (Map w c f) j e =
    let mine = named-of (Some w) v _ j e in
    let seen = served-of (refusal m (Map w c f)) _ j mine.1 in
    subst (Comes s v m (Map w c f)) (same_Some _ _ seen.1)
    (let mine_too : w ≡ v = same_Some w v mine.0 in (f, ap (λ x. Map x c f) mine_too, subst (λ x. refusal m (Map x c f) ≡ None) mine_too seen.0, ap (λ x. watched s (pending m x c) (frame_at m f).bytes) (sym mine_too)))
comes s v m (RegisterVm w) i e =
    let mine = named-of (Some w) v _ i e in
    let seen = served-of (refusal m (RegisterVm w)) _ i mine.1 in
    subst (Comes s v m (RegisterVm w)) (same_Some _ _ seen.1) (refl, mine.0, tt)
comes s v m (RegisterVcpu w c) i e =
    let mine = named-of (Some w) v _ i e in
    let seen = served-of (refusal m (RegisterVcpu w c)) _ i mine.1 in
    subst (Comes s v m (RegisterVcpu w c)) (same_Some _ _ seen.1) (refl, mine.0, tt)
comes s v m (SetBoot w base len) i e =
    let mine = named-of (Some w) v _ i e in
    let seen = served-of (refusal m (SetBoot w base len)) _ i mine.1 in
    subst (Comes s v m (SetBoot w base len)) (same_Some _ _ seen.1) (refl, mine.0, tt)
comes s v m (Verify w) i e =
    let mine = named-of (Some w) v _ i e in
    let seen = served-of (refusal m (Verify w)) _ i mine.1 in
    subst (Comes s v m (Verify w)) (same_Some _ _ seen.1) (refl, mine.0, tt)
comes s v m (Clear w) i e =
    let mine = named-of (Some w) v _ i e in
    let seen = served-of (refusal m (Clear w)) _ i mine.1 in
    subst (Comes s v m (Clear w)) (same_Some _ _ seen.1) (refl, mine.0, tt)
comes s v m call i e =
    let mine = named-of (slot_of call) v (Some (own_call (watched_call s call))) i e in
    subst (Comes s v m call) (same_Some _ _ mine.1) (refl, mine.0, tt)

-- all is watched, or the call does not measure the VM
abbrev pub IsWhole : (ℕ → Bool) → ℕ → Call → Type 0
IsWhole s v call = ((g : ℕ) → s g ≡ true) ⊎ (verifies v call ≡ false)

-- the call is refused for the same reason, or else does the same
Own : (ℕ → Bool) → ℕ → State → State → Call → Type 0
Own s v m n call = HasTheSame s v m n → IsWhole s v call → (refusal m call ≡ refusal n call) × (refusal m call ≡ None → refusal n call ≡ None → IsAlike s v call (effect m call) (effect n call))

record IsReady (v : ℕ) (m : State) : Type 0 where
  has : HasFrames v m
  within : v < length m.slots

ready : (m : State) (v : ℕ) → IsLawful m → bad_vm m v ≡ None → IsReady v m
ready m v is none = record { has = has-frames m v is (vm-in m v none); within = rw is.slots (vm-in m v none) }

-- the frame's slot exists
slot-of-frame : (m : State) (f v : ℕ) → IsLawful m → (frame_at m f).owner ≡ Vm v → v < slot_count m.config
slot-of-frame m f v is mine = (is.each_frame f (exists m f (λ core. cc))).slot v mine

own : (s : ℕ → Bool) (v : ℕ) (m n : State) (call : Call) → IsLawful m → IsLawful n → slot_of call ≡ Some v → IsOwn call → Own s v m n call
unfolding Own
own s v m n Take m_is n_is e is_own = absurd cc
own s v m n (Give f) m_is n_is e is_own = absurd cc
own s v m n (HostFault f) m_is n_is e is_own = absurd cc
own s v m n (HostRead f off len) m_is n_is e is_own = absurd cc
own s v m n (HostWrite f off bytes) m_is n_is e is_own = absurd is_own
own s v m n (Remap w i f) m_is n_is e is_own = absurd is_own
own s v m n (Map w c f) m_is n_is e is_own = absurd is_own
own s v m n (RegisterVm w) m_is n_is e is_own = subst (λ x. Own s x m n (RegisterVm w)) (same_Some w v e) (λ same whole. (refused.refused-register s w m n same, λ served other. let here = ready m w m_is (none-of (conditions m (RegisterVm w)) served 0) in let there = ready n w n_is (none-of (conditions n (RegisterVm w)) other 0) in own-register s w m n same here.has there.has here.within there.within))
own s v m n (RegisterVcpu w c) m_is n_is e is_own = subst (λ x. Own s x m n (RegisterVcpu w c)) (same_Some w v e) (λ same whole. (refused.refused-vcpu s w m n same c, λ served other. let here = ready m w m_is (none-of (conditions m (RegisterVcpu w c)) served 0) in let there = ready n w n_is (none-of (conditions n (RegisterVcpu w c)) other 0) in own-vcpu s w m n same here.has there.has here.within there.within c))
own s v m n (SetBoot w base len) m_is n_is e is_own = subst (λ x. Own s x m n (SetBoot w base len)) (same_Some w v e) (λ same whole. (refused.refused-boot s w m n same base len, λ served other. let here = ready m w m_is (none-of (conditions m (SetBoot w base len)) served 0) in let there = ready n w n_is (none-of (conditions n (SetBoot w base len)) other 0) in own-boot s w m n same here.has there.has here.within there.within base len))
own s v m n (Verify w) m_is n_is e is_own = subst (λ x. Own s x m n (Verify w)) (same_Some w v e) (λ same whole. (
  refused.refused-verify s w m n same,
  λ served other. elim whole [
    | inl all ↦ let here = ready m w m_is (none-of (conditions m (Verify w)) served 0) in let there = ready n w n_is (none-of (conditions n (Verify w)) other 0) in own-verify s w m n same here.has there.has here.within there.within all m_is served
    | inr none ↦ let it : nat_eq w w ≡ true = eq-eqb w w refl in absurd cc
  ],
))
own s v m n (GuestRead w c g off len) m_is n_is e is_own = subst (λ x. Own s x m n (GuestRead w c g off len)) (same_Some w v e) (λ same whole. (refused.refused-read s w m n same c g off len, λ served other. let here = ready m w m_is (none-of (conditions m (GuestRead w c g off len)) served 0) in let there = ready n w n_is (none-of (conditions n (GuestRead w c g off len)) other 0) in own-read s w m n same here.has there.has here.within there.within c g off len))
own s v m n (GuestWrite w c g off bytes) m_is n_is e is_own = subst (λ x. Own s x m n (GuestWrite w c g off bytes)) (same_Some w v e) (λ same whole. (refused.refused-write s w m n same c g off bytes, λ served other. let here = ready m w m_is (none-of (conditions m (GuestWrite w c g off bytes)) served 0) in let there = ready n w n_is (none-of (conditions n (GuestWrite w c g off bytes)) other 0) in own-write s w m n same here.has there.has here.within there.within c g off bytes))
own s v m n (Grant w c g) m_is n_is e is_own = subst (λ x. Own s x m n (Grant w c g)) (same_Some w v e) (λ same whole. (refused.refused-grant s w m n same c g, λ served other. let here = ready m w m_is (none-of (conditions m (Grant w c g)) served 0) in let there = ready n w n_is (none-of (conditions n (Grant w c g)) other 0) in own-grant s w m n same here.has there.has here.within there.within c g served))
own s v m n (Revoke w c g) m_is n_is e is_own = subst (λ x. Own s x m n (Revoke w c g)) (same_Some w v e) (λ same whole. (refused.refused-revoke s w m n same c g, λ served other. let here = ready m w m_is (none-of (conditions m (Revoke w c g)) served 0) in let there = ready n w n_is (none-of (conditions n (Revoke w c g)) other 0) in own-revoke s w m n same here.has there.has here.within there.within c g served))
own s v m n (GrantRange w c g k) m_is n_is e is_own = subst (λ x. Own s x m n (GrantRange w c g k)) (same_Some w v e) (λ same whole. (refused.refused-grants s w m n same c g k, λ served other. let here = ready m w m_is (none-of (conditions m (GrantRange w c g k)) served 0) in let there = ready n w n_is (none-of (conditions n (GrantRange w c g k)) other 0) in own-grants s w m n same here.has there.has here.within there.within c g k served))
own s v m n (RevokeRange w c g k) m_is n_is e is_own = subst (λ x. Own s x m n (RevokeRange w c g k)) (same_Some w v e) (λ same whole. (refused.refused-revokes s w m n same c g k, λ served other. let here = ready m w m_is (none-of (conditions m (RevokeRange w c g k)) served 0) in let there = ready n w n_is (none-of (conditions n (RevokeRange w c g k)) other 0) in own-revokes s w m n same here.has there.has here.within there.within c g k served))
own s v m n (Drop w c g) m_is n_is e is_own = subst (λ x. Own s x m n (Drop w c g)) (same_Some w v e) (λ same whole. (refused.refused-drop s w m n same c g, λ served other. let here = ready m w m_is (none-of (conditions m (Drop w c g)) served 0) in let there = ready n w n_is (none-of (conditions n (Drop w c g)) other 0) in own-drop s w m n same here.has there.has here.within there.within c g served))
own s v m n (Clear w) m_is n_is e is_own = subst (λ x. Own s x m n (Clear w)) (same_Some w v e) (λ same whole. (refused.refused-clear s w m n same, λ served other. let here = ready m w m_is (none-of (conditions m (Clear w)) served 0) in let there = ready n w n_is (none-of (conditions n (Clear w)) other 0) in own-clear s w m n same here.has there.has here.within there.within))

own-case : (reason : Option Refusal) (s : ℕ → Bool) (v : ℕ) (m n : State) (call : Call) → HasTheSame s v m n → refusal m call ≡ reason → refusal n call ≡ reason
    → (refusal m call ≡ None → refusal n call ≡ None → IsAlike s v call (effect m call) (effect n call)) → IsAlike s v call (unless_refused reason m call) (unless_refused reason n call)
own-case None s v m n call same first second does = does first second
own-case (Some r) s v m n call same first second does = record { state = same; answer = refl }

own-next : (s : ℕ → Bool) (v : ℕ) (m n : State) (call : Call) → IsLawful m → IsLawful n → HasTheSame s v m n → IsWhole s v call → slot_of call ≡ Some v → IsOwn call → IsAlike s v call (next m call) (next n call)
unfolding next Own
own-next s v m n call m_is n_is same whole named is_own =
    let parts = own s v m n call m_is n_is named is_own same whole in
    subst (λ r. IsAlike s v call (unless_refused (refusal m call) m call) (unless_refused r n call)) parts.0 (own-case (refusal m call) s v m n call same refl (sym parts.0) parts.1)

-- the VM has the same after both, and is answered the same by both
pub record IsTogether (s : ℕ → Bool) (v : ℕ) (i : Input) (a b : Outcome) : Type 0 where
  pub state : HasTheSame s v a.1 b.1
  pub told : (l k : List Reply) → l ≡ k → with_answer s (Some i) a.0 l ≡ with_answer s (Some i) b.0 k

-- a call that is not refused has its effect
does : (reason : Option Refusal) (m : State) (call : Call) → reason ≡ None → (unless_refused reason m call).1 ≡ (effect m call).1
does None m call e = refl
does (Some r) m call e = absurd cc

does-next : (m : State) (call : Call) → refusal m call ≡ None → (next m call).1 ≡ (effect m call).1
unfolding next
does-next m call served = does (refusal m call) m call served

both-do : (s : ℕ → Bool) (v : ℕ) (m n : State) (call other : Call) → refusal m call ≡ None → refusal n other ≡ None → HasTheSame s v (effect m call).1 (effect n other).1 → HasTheSame s v (next m call).1 (next n other).1
both-do s v m n call other served too same =
    subst (λ x. HasTheSame s v x (next n other).1) (sym (does-next m call served)) (subst (λ x. HasTheSame s v (effect m call).1 x) (sym (does-next n other too)) same)

-- what is alike stays alike
alike-then : (s : ℕ → Bool) (v : ℕ) (call : Call) (a b c : Outcome) → IsAlike s v call a b → IsAlike s v call b c → IsAlike s v call a c
alike-then s v call a b c ab bc = record { state = same-then s v a.1 b.1 c.1 ab.state bc.state; answer = ab.answer ∙ bc.answer }

alike-back : (s : ℕ → Bool) (v : ℕ) (call : Call) (a b : Outcome) → IsAlike s v call a b → IsAlike s v call b a
alike-back s v call a b ab = record { state = same-back s v a.1 b.1 ab.state; answer = sym ab.answer }

-- other bytes are written to a guest frame that is not watched
blind-write : (s : ℕ → Bool) (v : ℕ) (m : State) (call : Call) (c g off : ℕ) (first second : List ℕ) (at : Option ℕ) → s g ≡ false → HasFrames v m → v < length m.slots → mapped_at m v g ≡ at
    → IsAlike s v call (guest_written m v c g off first at) (guest_written m v c g off second at)
blind-write s v m call c g off first second None unseen has lt e = record { state = same-self s v _; answer = refl }
blind-write s v m call c g off first second (Some f) unseen has lt e =
    let x = frame_at m f in
    let page = blank s g x (overwritten x.bytes off first) unseen ∙ sym (blank s g x (overwritten x.bytes off second) unseen) in
    let wrote = changed-same s v m m g f f (record x { bytes = overwritten x.bytes off first }) (record x { bytes = overwritten x.bytes off second }) (same-self s v m) has has e e page in
    record { state = slots-same s v _ _ _ _ wrote lt lt refl refl refl; answer = refl }

unless-alike : (reason : Option Refusal) (s : ℕ → Bool) (v : ℕ) (m : State) (told call other : Call) → refusal m call ≡ reason → (refusal m call ≡ None → IsAlike s v told (effect m call) (effect m other)) → IsAlike s v told (unless_refused reason m call) (unless_refused reason m other)
unless-alike None s v m told call other e alike = alike e
unless-alike (Some r) s v m told call other e alike = record { state = same-self s v m; answer = refl }

watched-write : (b : Bool) (s : ℕ → Bool) (v : ℕ) (m : State) (c g off : ℕ) (bytes : List ℕ) → IsLawful m → s g ≡ b
    → IsAlike s v (GuestWrite v c g off (cond b bytes (replicate (length bytes) 0))) (next m (GuestWrite v c g off bytes)) (next m (GuestWrite v c g off (cond b bytes (replicate (length bytes) 0))))
unfolding next
watched-write true s v m c g off bytes is e = record { state = same-self s v _; answer = refl }
watched-write false s v m c g off bytes is e =
    let call = GuestWrite v c g off bytes in
    let other = GuestWrite v c g off (replicate (length bytes) 0) in
    let agree : refusal m call ≡ refusal m other = ap (λ k. first_of_these (guest_access m v c g off k)) (sym (length-replicate (length bytes) 0)) in
    subst (λ r. IsAlike s v other (unless_refused (refusal m call) m call) (unless_refused r m other)) agree (unless-alike (refusal m call) s v m other call other refl (λ served.
    let here = ready m v is (none-of (conditions m call) served 0) in
    blind-write s v m other c g off bytes (replicate (length bytes) 0) (mapped_at m v g) e here.has here.within refl))

watched-alike : (s : ℕ → Bool) (v : ℕ) (m : State) (call : Call) → IsLawful m → slot_of call ≡ Some v → IsAlike s v (watched_call s call) (next m call) (next m (watched_call s call))
watched-alike s v m (GuestWrite w c g off bytes) is e = subst (λ x. IsAlike s x (GuestWrite w c g off (cond (s g) bytes (replicate (length bytes) 0))) (next m (GuestWrite w c g off bytes)) (next m (GuestWrite w c g off (cond (s g) bytes (replicate (length bytes) 0))))) (same_Some w v e) (watched-write (s g) s w m c g off bytes is refl)
watched-alike s v m call is e = record { state = same-self s v _; answer = refl }

named-too : (s : ℕ → Bool) (call : Call) → slot_of (watched_call s call) ≡ slot_of call
named-too s (GuestWrite w c g off bytes) = refl
named-too s call = refl

own-too : (s : ℕ → Bool) (call : Call) → IsOwn call → IsOwn (watched_call s call)
own-too s (GuestWrite w c g off bytes) h = tt
own-too s call h = h

whole-too : (s : ℕ → Bool) (v : ℕ) (call : Call) → IsWhole s v call → IsWhole s v (watched_call s call)
whole-too s v (GuestWrite w c g off bytes) h = h
whole-too s v call h = h

own-alike : (s : ℕ → Bool) (v : ℕ) (m n : State) (call other c : Call) → IsLawful m → IsLawful n → HasTheSame s v m n → IsWhole s v call → Comes s v m call (own_call c) → Comes s v n other (own_call c) → IsAlike s v c (next m call) (next n other)
own-alike s v m n call other c m_is n_is same whole first second =
    let named : slot_of c ≡ Some v = subst (λ x. slot_of x ≡ Some v) first.0 (named-too s call ∙ first.1) in
    let both = own-next s v m n c m_is n_is same (subst (IsWhole s v) first.0 (whole-too s v call whole)) named (subst IsOwn first.0 (own-too s call first.2)) in
    let here : IsAlike s v c (next m call) (next m c) = subst (λ x. IsAlike s v x (next m call) (next m x)) first.0 (watched-alike s v m call m_is first.1) in
    let there : IsAlike s v c (next n other) (next n c) = subst (λ x. IsAlike s v x (next n other) (next n x)) second.0 (watched-alike s v n other n_is second.1) in
    alike-then s v c (next m call) (next m c) (next n other) here (alike-then s v c (next m c) (next n c) (next n other) both (alike-back s v c (next n other) (next n c) there))

together-as : (i : Input) (s : ℕ → Bool) (v : ℕ) (m n : State) (call other : Call) → IsLawful m → IsLawful n → HasTheSame s v m n → IsWhole s v call → Comes s v m call i → Comes s v n other i → IsTogether s v i (next m call) (next n other)
together-as (own_call c) s v m n call other m_is n_is same whole first second =
    let alike = own-alike s v m n call other c m_is n_is same whole first second in
    record { state = alike.state; told = λ l k e. ap (λ x. x ∷ l) alike.answer ∙ ap (λ xs. watched_reply s c (next n other).0 ∷ xs) e }
together-as (image_page i bytes) s v m n call other m_is n_is same whole first second =
    let f = first.0 in
    let k = second.0 in
    let served = first.2 in
    let too = second.2 in
    let lt = vm-in m v (none-of (conditions m (Remap v i f)) served 0) in
    let in_n = vm-in n v (none-of (conditions n (Remap v i k)) too 0) in
    let done = remap-same s v m n same m_is n_is lt in_n i f k served too (first.3 ∙ sym second.3) in
    subst (λ x. IsTogether s v (image_page i bytes) (next m x) (next n other)) (sym first.1) (subst (λ x. IsTogether s v (image_page i bytes) (next m (Remap v i f)) (next n x)) (sym second.1)
    (record { state = both-do s v m n (Remap v i f) (Remap v i k) served too done; told = λ l j e. e }))
together-as (fresh_page c bytes) s v m n call other m_is n_is same whole first second =
    let f = first.0 in
    let k = second.0 in
    let served = first.2 in
    let too = second.2 in
    let lt = vm-in m v (none-of (conditions m (Map v c f)) served 0) in
    let in_n = vm-in n v (none-of (conditions n (Map v c k)) too 0) in
    let done = map-same s v m n same m_is n_is lt in_n c f k served too (first.3 ∙ sym second.3) in
    subst (λ x. IsTogether s v (fresh_page c bytes) (next m x) (next n other)) (sym first.1) (subst (λ x. IsTogether s v (fresh_page c bytes) (next m (Map v c f)) (next n x)) (sym second.1)
    (record { state = both-do s v m n (Map v c f) (Map v c k) served too done; told = λ l j e. e }))
together-as (host_bytes g off bytes) s v m n call other m_is n_is same whole first second =
    let f = first.0 in
    let k = second.0 in
    let lt = slot-of-frame m f v m_is first.3 in
    let in_n = slot-of-frame n k v n_is second.3 in
    let at = (m_is.mapped v g f lt).1 (first.3, first.4) in
    let bt = (n_is.mapped v g k in_n).1 (second.3, second.4) in
    let done = host-same s v m n same m_is n_is lt in_n g off f k bytes at bt in
    subst (λ x. IsTogether s v (host_bytes g off bytes) (next m x) (next n other)) (sym first.1) (subst (λ x. IsTogether s v (host_bytes g off bytes) (next m (HostWrite f off bytes)) (next n x)) (sym second.1)
    (record { state = both-do s v m n (HostWrite f off bytes) (HostWrite k off bytes) first.2 second.2 done; told = λ l j e. e }))

pub together : (s : ℕ → Bool) (v : ℕ) (m n : State) (call other : Call) (i : Input) → IsLawful m → IsLawful n → HasTheSame s v m n → IsWhole s v call → input s v m call ≡ Some i → input s v n other ≡ Some i → IsTogether s v i (next m call) (next n other)
together s v m n call other i m_is n_is same whole first second = together-as i s v m n call other m_is n_is same whole (comes s v m call i first) (comes s v n other i second)
