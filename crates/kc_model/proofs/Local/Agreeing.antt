-- What the law of one call says about parts: everything that the call does not need stays, and states that agree on
-- what it needs agree afterwards.
use Rattle.std.proofs.Common.{ℕ, zero, suc, ◌≡◌, ◌≤◌, Bool, true, false, cond, List, [], ◌∷◌, length, get_or, refl, sym, ap, ◌∙◌, arith}
use Rattle.kc_types.specs.declared.call.Call.{Call}
use Rattle.kc_types.specs.declared.reply.Reply.{Reply}
use Rattle.kc_types.specs.declared.owner.Owner.TheVariants.{Core}
use Rattle.kc_model.specs.State.{State, Frame, Slot, untouched, no_slot}
use Rattle.kc_model.specs.Effects.{Outcome}
use Rattle.kc_model.specs.Next.{next}
use Rattle.kc_model.specs.Resources.{Resources, Resource, pick, merged, part_of, Part, frame_part, slot_part, free_part, need, IsWithin}
use Rattle.kc_model.specs.Local.{IsOrderly, IsSameSize, AgreesOn, outcome_merged}
use Rattle.kc_model.proofs.Local.Merges.{pick-get}
use Rattle.kc_model.proofs.States.Sizes.{sized-next}
use Rattle.kc_model.proofs.Local.Locality.{local}
use Rattle.kc_types.specs.declared.resource.Resource.TheVariants as resource

pick-other : {X : Type 0} (test : ℕ → Bool) (d : X) (xs ys : List X) (i : ℕ) → length ys ≤ length xs → test i ≡ false → get_or (pick test d xs ys) i d ≡ get_or ys i d
pick-other test d [] [] i short not_here = refl
pick-other test d [] (y ∷ ys) i short not_here = absurd (omega arith)
pick-other test d (x ∷ xs) [] zero short not_here = rw not_here refl
pick-other test d (x ∷ xs) (y ∷ ys) zero short not_here = rw not_here refl
pick-other test d (x ∷ xs) [] (suc i) short not_here = pick-other (λ j. test (suc j)) d xs [] i (omega arith) not_here
pick-other test d (x ∷ xs) (y ∷ ys) (suc i) short not_here = pick-other (λ j. test (suc j)) d xs ys i (omega arith) not_here

either_way : {X : Type 0} (b : Bool) (x y : X) → (b ≡ true → y ≡ x) → cond b x y ≡ y
either_way true x y same = sym (same refl)
either_way false x y same = refl

pick-agrees : {X : Type 0} (test : ℕ → Bool) (d : X) (xs ys : List X) → length ys ≡ length xs → ((i : ℕ) → test i ≡ true → get_or ys i d ≡ get_or xs i d) → pick test d xs ys ≡ ys
pick-agrees test d [] [] size same = refl
pick-agrees test d [] (y ∷ ys) size same = absurd (omega arith)
pick-agrees test d (x ∷ xs) [] size same = absurd (omega arith)
pick-agrees test d (x ∷ xs) (y ∷ ys) size same =
    ap (λ z. z ∷ pick (λ j. test (suc j)) d xs ys) (either_way (test 0) x y (same 0))
    ∙ ap (λ zs. y ∷ zs) (pick-agrees (λ j. test (suc j)) d xs ys (omega arith) (λ i here. same (suc i) here))

abbrev pub frame_of_part : Part → Frame
frame_of_part (frame_part frame) = frame
frame_of_part _ = untouched Core

abbrev pub slot_of_part : Part → Slot
slot_of_part (slot_part slot) = slot
slot_of_part _ = no_slot

abbrev pub free_of_part : Part → List ℕ
free_of_part (free_part free) = free
free_of_part _ = []

-- a state that agrees with m on the resources is m there
pub merged-agrees : (here : Resources) (m other : State) → AgreesOn here m other → merged here m other ≡ other
merged-agrees here m other agrees =
    ap (λ config. record (merged here m other) { config = config }) (sym agrees.size.config)
    ∙ ap (λ frames. record (merged here m other) { config = other.config; frames = frames }) (pick-agrees (λ f. here (resource.Frame f)) (untouched Core) m.frames other.frames agrees.size.frames (λ f is. ap frame_of_part (agrees.parts (resource.Frame f) is)))
    ∙ ap (λ free. record (merged here m other) { config = other.config; frames = other.frames; free = free }) (either_way (here resource.Free) m.free other.free (λ is. ap free_of_part (agrees.parts resource.Free is)))
    ∙ ap (λ slots. record other { slots = slots }) (pick-agrees (λ v. here (resource.Vm v)) no_slot m.slots other.slots agrees.size.slots (λ v is. ap slot_of_part (agrees.parts (resource.Vm v) is)))

-- the resources have the first state's parts
merged-here : (here : Resources) (m rest : State) (r : Resource) → here r ≡ true → part_of (merged here m rest) r ≡ part_of m r
merged-here here m rest (resource.Frame f) is = ap frame_part (pick-get (λ f. here (resource.Frame f)) (untouched Core) m.frames rest.frames f (λ lt. is))
merged-here here m rest (resource.Vm v) is = ap slot_part (pick-get (λ v. here (resource.Vm v)) no_slot m.slots rest.slots v (λ lt. is))
merged-here here m rest resource.Free is = rw is refl

-- everything else is the other's
merged-elsewhere : (here : Resources) (m rest : State) (r : Resource) → IsSameSize m rest → here r ≡ false → part_of (merged here m rest) r ≡ part_of rest r
merged-elsewhere here m rest (resource.Frame f) size is = ap frame_part (pick-other (λ f. here (resource.Frame f)) (untouched Core) m.frames rest.frames f (let h = size.frames in omega (arith, h)) is)
merged-elsewhere here m rest (resource.Vm v) size is = ap slot_part (pick-other (λ v. here (resource.Vm v)) no_slot m.slots rest.slots v (let h = size.slots in omega (arith, h)) is)
merged-elsewhere here m rest resource.Free size is = rw is refl

agrees-self : (here : Resources) (m : State) → AgreesOn here m m
agrees-self here m = record { size = record { config = refl; frames = refl; slots = refl }; parts = λ r is. refl }

-- what the call does in a state that agrees with m on what it needs
pub next-agreeing : (here : Resources) (m other : State) (call : Call) → IsOrderly m → IsWithin (need m call) here → AgreesOn here m other → next other call ≡ outcome_merged here (next m call) other
next-agreeing here m other call is within agrees =
    ap (λ s. next s call) (sym (merged-agrees here m other agrees)) ∙ local here m other call is within

-- the other state has the same size as the first state after the call
after-size : (m other : State) (call : Call) → IsSameSize m other → IsSameSize (next m call).1 other
after-size m other call size =
    let s = sized-next m call in
    record { config = size.config ∙ sym s.config; frames = size.frames ∙ sym s.frames; slots = size.slots ∙ sym s.slots }

-- states that agree on what the call needs answer the same, and agree afterwards
pub agrees-next : (here : Resources) (m other : State) (call : Call) → IsOrderly m → IsWithin (need m call) here → AgreesOn here m other → ((next other call).0 ≡ (next m call).0) × AgreesOn here (next m call).1 (next other call).1
agrees-next here m other call is within agrees =
    let e = next-agreeing here m other call is within agrees in (
      ap (λ (o : Outcome). o.0) e,
      record {
        size = let n = sized-next other call in let s = after-size m other call agrees.size in record { config = n.config ∙ s.config; frames = n.frames ∙ s.frames; slots = n.slots ∙ s.slots };
        parts = λ r in_here. ap (λ (o : Outcome). part_of o.1 r) e ∙ merged-here here (next m call).1 other r in_here;
      },
    )

-- everything else of the other state stays
pub keeps-rest : (here : Resources) (m other : State) (call : Call) → IsOrderly m → IsWithin (need m call) here → AgreesOn here m other → (r : Resource) → here r ≡ false → part_of (next other call).1 r ≡ part_of other r
keeps-rest here m other call is within agrees r not_here =
    ap (λ (o : Outcome). part_of o.1 r) (next-agreeing here m other call is within agrees) ∙ merged-elsewhere here (next m call).1 other r (after-size m other call agrees.size) not_here

-- a call leaves what it does not need
pub keeps-others : (m : State) (call : Call) → IsOrderly m → (r : Resource) → need m call r ≡ false → part_of (next m call).1 r ≡ part_of m r
keeps-others m call is r not_here = keeps-rest (need m call) m m call is (λ r in_need. in_need) (agrees-self (need m call) m) r not_here

-- what holds of parts held in a store holds of the state that they are parts of
pub on-parts : (held new : State) (call : Call) (answer : Reply) → answer ≡ (next held call).0 → new ≡ (next held call).1
    → (here : Resources) (m rest : State) → IsOrderly m → IsWithin (need m call) here → held ≡ merged here m rest → (answer ≡ (next m call).0) × (new ≡ merged here (next m call).1 rest)
on-parts held new call answer replied left here m rest is within parts =
    let e : next held call ≡ outcome_merged here (next m call) rest = ap (λ s. next s call) parts ∙ local here m rest call is within in
    (replied ∙ ap (λ (o : Outcome). o.0) e, left ∙ ap (λ (o : Outcome). o.1) e)
