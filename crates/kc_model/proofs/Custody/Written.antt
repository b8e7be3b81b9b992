-- An active VM's page that is not shared holds what its virtual processors wrote there, and they read it.
use Rattle.std.proofs.Common.{ℕ, suc, ◌≡◌, ◌<◌, ◌+◌, inl, inr, true, false, nat_eq, length, List, refl, sym, ap, subst, ◌∙◌, Option, None, Some, arith, eq-eqb}
use Rattle.std.proofs.lemmas.Bool.{cases_eq, cases_Bool, eqb-true, ne_eqb}
use Rattle.kc_types.specs.Configuration.{slot_count}
use Rattle.kc_types.specs.declared.call.Call.{Call}
use Rattle.kc_types.specs.declared.call.Call.TheVariants.{GuestRead, GuestWrite}
use Rattle.kc_types.specs.declared.reply.Reply.{Reply}
use Rattle.kc_types.specs.declared.reply.Reply.TheVariants as reply
use Rattle.kc_types.specs.declared.refusal.Refusal.{Refusal}
use Rattle.kc_types.specs.declared.owner.Owner.TheVariants.{Vm}
use Rattle.kc_types.specs.declared.custody.Custody.{Custody}
use Rattle.kc_model.specs.State.{State, Frame, frame_at, mapped_at}
use Rattle.kc_model.specs.Refusals.{refusal}
use Rattle.kc_model.specs.Effects.{guest_read, guest_written}
use Rattle.kc_model.specs.Next.{next, unless_refused}
use Rattle.kc_model.specs.Lawful.{IsLawful}
use Rattle.kc_model.specs.Footprints.{state_at, call_at}
use Rattle.kc_model.specs.CustodyLaws.{is_write_of}
use Rattle.kc_model.specs.OwnMemory.{page_after, KeepsWritten, ReadsItsPages, IsOwnMemory}
use Rattle.kc_model.proofs.States.Lists.{changed-same, changed-other}
use Rattle.kc_model.proofs.States.Changes.{exists}
use Rattle.kc_model.proofs.Lawful.GuestCalls.{guest_access-served}
use Rattle.kc_model.proofs.Lawful.LawfulTraces.{lawful-at}
use Rattle.kc_model.proofs.Custody.Still.{still}
use Rattle.kc_model.proofs.Custody.Active.{active}
use Rattle.kc_model.proofs.Safe.Safe.{every_step}

some-same : (f k : ℕ) → Some f ≡ Some k → f ≡ k
some-same f k e = cc

-- a write at some guest frame of the VM
wrote : (m : State) (v c h off : ℕ) (written : List ℕ) (at : Option ℕ) (g f : ℕ) → IsLawful m → v < slot_count m.config → mapped_at m v h ≡ at → (frame_at m f).owner ≡ Vm v → (frame_at m f).gfn ≡ Some g
    → (frame_at (guest_written m v c h off written at).1 f).bytes ≡ page_after v g (GuestWrite v c h off written) (guest_written m v c h off written at).0 (frame_at m f).bytes
wrote m v c h off written None g f is lt e mine there = refl
wrote m v c h off written (Some k) g f is lt e mine there =
    let low : f < length m.frames = exists m f (λ core. cc) in
    let self : nat_eq v v ≡ true = eq-eqb v v refl in
    elim (cases_eq h g) [
      | inl same ↦
          let to_f : mapped_at m v g ≡ Some f = (is.mapped v g f lt).1 (mine, there) in
          let here : k ≡ f = some-same k f (sym e ∙ ap (λ x. mapped_at m v x) same ∙ to_f) in
          let hit : nat_eq h g ≡ true = eq-eqb h g same in
          rw (self, hit, here) (ap (λ (x : Frame). x.bytes) (changed-same m f _ low))
      | inr other ↦
          let miss : nat_eq h g ≡ false = ne_eqb h g other in
          let apart : f ≡ k → ⊥ = λ same.
          (let to_k : (frame_at m k).gfn ≡ Some h = ((is.mapped v h k lt).0 e).1 in
          other (some-same h g (sym to_k ∙ subst (λ x. (frame_at m x).gfn ≡ Some g) same there))) in
          rw (self, miss) (ap (λ (x : Frame). x.bytes) (changed-other m k _ f apart))
    ]

wrote-unless : (refused : Option Refusal) (m : State) (v c h off : ℕ) (written : List ℕ) (g f : ℕ) → refusal m (GuestWrite v c h off written) ≡ refused → IsLawful m → (frame_at m f).owner ≡ Vm v → (frame_at m f).gfn ≡ Some g
    → (frame_at (unless_refused refused m (GuestWrite v c h off written)).1 f).bytes ≡ page_after v g (GuestWrite v c h off written) (unless_refused refused m (GuestWrite v c h off written)).0 (frame_at m f).bytes
wrote-unless None m v c h off written g f served is mine there = wrote m v c h off written (mapped_at m v h) g f is (guest_access-served m v c h off (length written) served).0.vm refl mine there
wrote-unless (Some r) m v c h off written g f served is mine there = refl

own-write : (m : State) (v c h off : ℕ) (written : List ℕ) (g f : ℕ) → IsLawful m → (frame_at m f).owner ≡ Vm v → (frame_at m f).gfn ≡ Some g
    → (frame_at (next m (GuestWrite v c h off written)).1 f).bytes ≡ page_after v g (GuestWrite v c h off written) (next m (GuestWrite v c h off written)).0 (frame_at m f).bytes
unfolding next
own-write m v c h off written g f is mine there = wrote-unless (refusal m (GuestWrite v c h off written)) m v c h off written g f refl is mine there

others-after : (v w c h off g : ℕ) (written : List ℕ) (answer : Reply) (bytes : List ℕ) → nat_eq w v ≡ false → page_after v g (GuestWrite w c h off written) answer bytes ≡ bytes
others-after v w c h off g written reply.Done bytes other = rw other refl
others-after v w c h off g written _ bytes other = refl

step : (m : State) (call : Call) (v g f : ℕ) → IsLawful m → (frame_at m f).owner ≡ Vm v → (frame_at m f).gfn ≡ Some g
    → (is_write_of v call ≡ false → (frame_at (next m call).1 f).bytes ≡ (frame_at m f).bytes)
    → (frame_at (next m call).1 f).bytes ≡ page_after v g call (next m call).0 (frame_at m f).bytes
step m (GuestWrite w c h off written) v g f is mine there keeps = elim (cases_Bool (nat_eq w v)) [
  | inl same ↦ let e : v ≡ w = sym (eqb-true w v same) in
      subst (λ x. (frame_at (next m (GuestWrite x c h off written)).1 f).bytes ≡ page_after v g (GuestWrite x c h off written) (next m (GuestWrite x c h off written)).0 (frame_at m f).bytes) e (own-write m v c h off written g f is mine there)
  | inr other ↦ keeps other ∙ sym (others-after v w c h off g written _ (frame_at m f).bytes other)
]
step m call v g f is mine there keeps = keeps refl

kept_written : (m : State) (calls : List Call) → IsLawful m → KeepsWritten m calls
kept_written m calls is i j v g f stretch none owner gfn share start k from below =
    let ends = stretch.ends in
    let there = lawful-at m calls is k (omega (arith, below, ends)) in
    let so_far = still m calls is i j f stretch none k from (omega (arith, below)) in
    let mine : (frame_at (state_at m calls k) f).owner ≡ Vm v = ap (λ (x : Custody). x.owner) so_far ∙ owner in
    let at_g : (frame_at (state_at m calls k) f).gfn ≡ Some g = ap (λ (x : Custody). x.gfn) so_far ∙ gfn in
    let more : k + 1 ≡ suc k = omega arith in
    rw more (step (state_at m calls k) (call_at calls k) v g f there mine at_g (λ quiet. rw more at (active m calls is i j v f stretch none owner share start k from below quiet)))

reads-unless : (refused : Option Refusal) (m : State) (v c g off len : ℕ) (at : Option ℕ) → mapped_at m v g ≡ at → (new : State) → ReadsItsPages m (GuestRead v c g off len) (guest_read m v c g off len at).0 new
reads-unless refused m v c g off len None e new = tt
reads-unless refused m v c g off len (Some f) e new = (f, e, refl)

reads-refused : (refused : Option Refusal) (m : State) (call : Call) → ReadsItsPages m call (unless_refused refused m call).0 (unless_refused refused m call).1
reads-refused None m (GuestRead v c g off len) = reads-unless None m v c g off len (mapped_at m v g) refl _
reads-refused (Some r) m (GuestRead v c g off len) = tt
reads-refused refused m _ = tt

reads : (m : State) (call : Call) → IsLawful m → ReadsItsPages m call (next m call).0 (next m call).1
unfolding next
reads m call is = reads-refused (refusal m call) m call

pub own_memory : (m : State) (calls : List Call) → IsLawful m → IsOwnMemory m calls
own_memory m calls is = record { written = kept_written m calls is; read = every_step ReadsItsPages reads m calls is }
