-- What two states have in common for a VM when frames and slots change.
use Rattle.std.proofs.Common.{ℕ, ◌≡◌, ◌<◌, inl, inr, Bool, true, false, cond, List, [], length, get_or, set, is_none, refl, sym, ap, subst, ◌∙◌, Option, None, Some, length-set, get_or-set_same, get_or-set_other}
use Rattle.std.proofs.lemmas.Bool.{cases_eq}
use Rattle.std.proofs.lemmas.Option.{same_Some}
use Rattle.std.specs.FinMap as map
use Rattle.std.specs.Ordering.{nat_cmp}
use Rattle.kc_types.specs.Configuration.{slot_count}
use Rattle.kc_types.specs.declared.owner.Owner.TheVariants.{Core}
use Rattle.kc_model.specs.State.{State, Frame, Slot, slot_at, mapped_at, with_frame, with_slot, untouched}
use Rattle.kc_model.specs.Refusals.{backing}
use Rattle.kc_model.specs.Lawful.{IsLawful}
use Rattle.kc_model.specs.Undisturbed.{Page, watched, page_of, page_under, page_at, own_slot, HasTheSame}
use Rattle.kc_model.proofs.States.Changes.{slot-here}
use Rattle.kc_model.proofs.Lawful.GuestCalls.{exists-mapped}
use Rattle.kc_model.proofs.Lawful.RangeCalls.{apart}

-- two guest frames of the slot lead to two frames, which exist
pub record HasFrames (v : ℕ) (m : State) : Type 0 where
  pub apart : (g h f k : ℕ) → mapped_at m v g ≡ Some f → mapped_at m v h ≡ Some k → (h ≡ g → ⊥) → k ≡ f → ⊥
  pub exists : (g f : ℕ) → mapped_at m v g ≡ Some f → f < length m.frames

pub has-frames : (m : State) (v : ℕ) → IsLawful m → v < slot_count m.config → HasFrames v m
has-frames m v is lt = record { apart = λ g h f k first second ne same. apart m v g h f k is lt first second ne same; exists = λ g f e. exists-mapped m v g f is lt e }

pub frames-with : (m : State) (v f : ℕ) (x : Frame) → HasFrames v m → HasFrames v (with_frame m f x)
frames-with m v f x has = record { apart = has.apart; exists = λ g k e. rw length-set (has.exists g k e) }

-- the page at a frame that is not the changed one, and at the changed one
pub page-other : (s : ℕ → Bool) (frames : List Frame) (f : ℕ) (x : Frame) (g : ℕ) (at : Option ℕ) → ((k : ℕ) → at ≡ Some k → k ≡ f → ⊥) → page_under s (set frames f x) g at ≡ page_under s frames g at
page-other s frames f x g None other = refl
page-other s frames f x g (Some k) other = ap (λ (y : Frame). Some (page_of s g y)) (get_or-set_other frames f k x (untouched Core) (other k refl))

pub page-here : (s : ℕ → Bool) (frames : List Frame) (f : ℕ) (x : Frame) (g : ℕ) (at : Option ℕ) → f < length frames → at ≡ Some f → page_under s (set frames f x) g at ≡ Some (page_of s g x)
page-here s frames f x g at lt e = ap (page_under s (set frames f x) g) e ∙ ap (λ (y : Frame). Some (page_of s g y)) (get_or-set_same frames f x (untouched Core) lt)

-- the page under frames that are the same for it
pub page-kept : (s : ℕ → Bool) (frames others : List Frame) (g : ℕ) (at : Option ℕ) → ((f : ℕ) → at ≡ Some f → page_of s g (get_or frames f (untouched Core)) ≡ page_of s g (get_or others f (untouched Core))) → page_under s frames g at ≡ page_under s others g at
page-kept s frames others g None same = refl
page-kept s frames others g (Some f) same = ap Some (same f refl)

-- what equal pages say
pub under-none : (s : ℕ → Bool) (frames others : List Frame) (g : ℕ) (at bt : Option ℕ) → page_under s frames g at ≡ page_under s others g bt → is_none at ≡ is_none bt
under-none s frames others g None None e = refl
under-none s frames others g None (Some k) e = cc
under-none s frames others g (Some f) None e = cc
under-none s frames others g (Some f) (Some k) e = refl

pub under-page : (s : ℕ → Bool) (frames others : List Frame) (g : ℕ) (at bt : Option ℕ) → page_under s frames g at ≡ page_under s others g bt → is_none at ≡ false
    → page_of s g (get_or frames (backing at) (untouched Core)) ≡ page_of s g (get_or others (backing bt) (untouched Core))
under-page s frames others g None bt e some = absurd cc
under-page s frames others g (Some f) None e some = absurd cc
under-page s frames others g (Some f) (Some k) e some = same_Some _ _ e

-- pages whose bytes are changed in one way
watched-by : (b : Bool) (p q : List ℕ) (change : List ℕ → List ℕ) → cond b p [] ≡ cond b q [] → cond b (change p) [] ≡ cond b (change q) []
watched-by true p q change e = ap change e
watched-by false p q change e = refl

pub page-by : (s : ℕ → Bool) (g : ℕ) (x y : Frame) (change : List ℕ → List ℕ) → page_of s g x ≡ page_of s g y → page_of s g (record x { bytes = change x.bytes }) ≡ page_of s g (record y { bytes = change y.bytes })
page-by s g x y change e =
    let share : x.share ≡ y.share = ap (λ (p : Page). p.share) e in
    let bytes : watched s g (change x.bytes) ≡ watched s g (change y.bytes) = watched-by (s g) x.bytes y.bytes change (ap (λ (p : Page). p.bytes) e) in
    cc

watched-true : (b : Bool) (p q : List ℕ) → b ≡ true → cond b p [] ≡ cond b q [] → p ≡ q
watched-true true p q h e = e
watched-true false p q h e = absurd cc

pub page-bytes : (s : ℕ → Bool) (g : ℕ) (x y : Frame) → s g ≡ true → page_of s g x ≡ page_of s g y → x.bytes ≡ y.bytes
page-bytes s g x y seen e = watched-true (s g) x.bytes y.bytes seen (ap (λ (p : Page). p.bytes) e)

-- a frame changes at a guest frame, in both states
pub changed-same : (s : ℕ → Bool) (v : ℕ) (m n : State) (g f k : ℕ) (x y : Frame) → HasTheSame s v m n → HasFrames v m → HasFrames v n → mapped_at m v g ≡ Some f → mapped_at n v g ≡ Some k → page_of s g x ≡ page_of s g y
    → HasTheSame s v (with_frame m f x) (with_frame n k y)
changed-same s v m n g f k x y same here there at bt pages = record {
  slots = same.slots;
  leaves = same.leaves;
  approved = same.approved;
  slot = same.slot;
  pages = λ h. elim (cases_eq h g) [
    | inl is ↦ subst (λ j. page_at s (with_frame m f x) v j ≡ page_at s (with_frame n k y) v j) (sym is)
        (page-here s m.frames f x g (mapped_at m v g) (here.exists g f at) at ∙ ap Some pages ∙ sym (page-here s n.frames k y g (mapped_at n v g) (there.exists g k bt) bt))
    | inr ne ↦ page-other s m.frames f x h (mapped_at m v h) (λ j e. here.apart g h f j at e ne) ∙ same.pages h ∙ sym (page-other s n.frames k y h (mapped_at n v h) (λ j e. there.apart g h k j bt e ne))
  ];
}

-- a slot changes, except for its table, in both states
slot-page : (s : ℕ → Bool) (v : ℕ) (m : State) (a : Slot) (g : ℕ) → v < length m.slots → a.mapped ≡ (slot_at m v).mapped → page_at s (with_slot m v a) v g ≡ page_at s m v g
slot-page s v m a g lt e = ap (λ (x : Slot). page_under s m.frames g (map.get x.mapped g)) (slot-here m v a lt) ∙ ap (λ (t : map.FinMap nat_cmp ℕ). page_under s m.frames g (map.get t g)) e

pub slots-same : (s : ℕ → Bool) (v : ℕ) (m n : State) (a b : Slot) → HasTheSame s v m n → v < length m.slots → v < length n.slots → own_slot a ≡ own_slot b → a.mapped ≡ (slot_at m v).mapped → b.mapped ≡ (slot_at n v).mapped
    → HasTheSame s v (with_slot m v a) (with_slot n v b)
slots-same s v m n a b same lt in_n slots at bt = record {
  slots = same.slots;
  leaves = same.leaves;
  approved = same.approved;
  slot = ap own_slot (slot-here m v a lt) ∙ slots ∙ sym (ap own_slot (slot-here n v b in_n));
  pages = λ g. slot-page s v m a g lt at ∙ same.pages g ∙ sym (slot-page s v n b g in_n bt);
}

pub same-then : (s : ℕ → Bool) (v : ℕ) (a b c : State) → HasTheSame s v a b → HasTheSame s v b c → HasTheSame s v a c
same-then s v a b c ab bc = record { slots = ab.slots ∙ bc.slots; leaves = ab.leaves ∙ bc.leaves; approved = ab.approved ∙ bc.approved; slot = ab.slot ∙ bc.slot; pages = λ g. ab.pages g ∙ bc.pages g }

pub same-back : (s : ℕ → Bool) (v : ℕ) (a b : State) → HasTheSame s v a b → HasTheSame s v b a
same-back s v a b ab = record { slots = sym ab.slots; leaves = sym ab.leaves; approved = sym ab.approved; slot = sym ab.slot; pages = λ g. sym (ab.pages g) }
