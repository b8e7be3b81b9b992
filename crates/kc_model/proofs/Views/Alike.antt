-- Views: which bytes count, and states that differ only in bytes that do not.
use Rattle.std.proofs.Common.{ℕ, zero, suc, ◌≡◌, ◌<◌, inl, inr, Bool, true, false, cond, not, ◌&&◌, List, [], ◌∷◌, map, length, get_or, set, Option, refl, sym, ap, ap₂, ◌∙◌, arith, length-set}
use Rattle.std.proofs.lemmas.Bool.{cases_lt}
use Rattle.std.proofs.lemmas.List.{get_or_past}
use Rattle.kc_types.specs.Configuration.{Configuration}
use Rattle.kc_types.specs.declared.custody.Custody.{Custody}
use Rattle.kc_types.specs.declared.owner.Owner.{Owner}
use Rattle.kc_types.specs.declared.owner.Owner.TheVariants.{Core, Host, Free, Vm}
use Rattle.kc_model.specs.State.{State, Frame, Slot, frame_at, slot_at, with_slot, untouched, no_slot}
use Rattle.kc_model.specs.Refusals.{is_active}
use Rattle.kc_model.specs.Effects.{changed_each}
use Rattle.kc_model.specs.Custody.{custody_of}
use Rattle.kc_model.specs.Lawful.{IsLawful}
use Rattle.kc_model.specs.Redaction.{AreAlike}
use Rattle.kc_model.proofs.States.ZeroPage.{length-zero_page}

-- which frames of nobody's VM count, and which guest frames an active VM hides
pub record View : Type 0 where
  pub kept : ℕ → Bool
  pub hides : ℕ → Option ℕ → Bool

-- whether the bytes of a frame of this owner, at this guest frame, count
abbrev pub sees : View → State → ℕ → Owner → Option ℕ → Bool
sees view m f (Vm v) gfn = not (view.hides v gfn && is_active (slot_at m v).phase)
sees view m f _ gfn = view.kept f

abbrev pub seen : View → State → ℕ → Frame → Bool
seen view m f x = sees view m f x.owner x.gfn

-- two states differ only in bytes that do not count
pub record Alike (view : View) (m n : State) : Type 0 where
  pub config : n.config ≡ m.config
  pub free : n.free ≡ m.free
  pub slots : n.slots ≡ m.slots
  pub number : length n.frames ≡ length m.frames
  pub frames : (f : ℕ) → AreAlike (seen view m f (frame_at m f)) (frame_at m f) (frame_at n f)

-- the state with other frames
abbrev pub beside : State → List Frame → State
beside m ys = record m { frames = ys }

-- the owners of two alike frames
pub owner-alike : (b : Bool) (x y : Frame) → AreAlike b x y → y.owner ≡ x.owner
owner-alike b x y alike = ap (λ (c : Custody). c.owner) alike.custody

pub share-alike : (b : Bool) (x y : Frame) → AreAlike b x y → y.share ≡ x.share
share-alike b x y alike = ap (λ (c : Custody). c.share) alike.custody

pub present-alike : (b : Bool) (x y : Frame) → AreAlike b x y → y.present ≡ x.present
present-alike b x y alike = ap (λ (c : Custody). c.present) alike.custody

pub alike-itself : (b : Bool) (x : Frame) → AreAlike b x x
alike-itself b x = record { custody = refl; bytes = λ h. refl }

-- frames are alike if less counts
pub alike-less : (a b : Bool) (x y : Frame) → (b ≡ true → a ≡ true) → AreAlike a x y → AreAlike b x y
alike-less a b x y less alike = record { custody = alike.custody; bytes = λ h. alike.bytes (less h) }

-- frames of one custody whose bytes do not count
pub alike-unseen : (b : Bool) (x y : Frame) → b ≡ false → custody_of y ≡ custody_of x → AreAlike b x y
alike-unseen b x y none same = record { custody = same; bytes = λ h. absurd cc }

-- a change of frames that does not use a frame's bytes, except to make the new ones
pub record IsPlain (change : Frame → Frame) : Type 0 where
  pub owner : (x : Frame) → (change x).owner ≡ x.owner
  pub gfn : (x : Frame) → (change x).gfn ≡ x.gfn
  pub custody : (x y : Frame) → custody_of y ≡ custody_of x → custody_of (change y) ≡ custody_of (change x)
  pub bytes : (x y : Frame) → y.bytes ≡ x.bytes → (change y).bytes ≡ (change x).bytes

pub alike-changed : (change : Frame → Frame) → IsPlain change → (b : Bool) (x y : Frame) → AreAlike b x y → AreAlike b (change x) (change y)
alike-changed change plain b x y alike = record { custody = plain.custody x y alike.custody; bytes = λ h. plain.bytes x y (alike.bytes h) }

-- lists of frames that are alike, place by place
abbrev pub AlikeFrames : View → State → List Frame → List Frame → Type 0
AlikeFrames view m xs ys = (f : ℕ) → AreAlike (seen view m f (get_or xs f (untouched Core))) (get_or xs f (untouched Core)) (get_or ys f (untouched Core))

-- what relates two lists at each place relates them after two related elements are written
both-set : {X : Type 0} (R : ℕ → X → X → Type 0) (xs ys : List X) (f : ℕ) (x y d : X) → length ys ≡ length xs → ((k : ℕ) → R k (get_or xs k d) (get_or ys k d)) → R f x y → (k : ℕ) → R k (get_or (set xs f x) k d) (get_or (set ys f y) k d)
both-set R [] [] f x y d number each here k = each k
both-set R [] (b ∷ ys) f x y d number each here k = absurd cc
both-set R (a ∷ xs) [] f x y d number each here k = absurd cc
both-set R (a ∷ xs) (b ∷ ys) zero x y d number each here zero = here
both-set R (a ∷ xs) (b ∷ ys) zero x y d number each here (suc k) = each (suc k)
both-set R (a ∷ xs) (b ∷ ys) (suc f) x y d number each here zero = each zero
both-set R (a ∷ xs) (b ∷ ys) (suc f) x y d number each here (suc k) = both-set (λ n. R (suc n)) xs ys f x y d (omega (arith, number)) (λ n. each (suc n)) here k

pub frames-set : (view : View) (m : State) (xs ys : List Frame) (f : ℕ) (x y : Frame) → length ys ≡ length xs → AlikeFrames view m xs ys → AreAlike (seen view m f x) x y → AlikeFrames view m (set xs f x) (set ys f y)
frames-set view m xs ys f x y number alike here k = both-set (λ n a b. AreAlike (seen view m n a) a b) xs ys f x y (untouched Core) number alike here k

pub number-set : (xs ys : List Frame) (f : ℕ) (x y : Frame) → length ys ≡ length xs → length (set ys f y) ≡ length (set xs f x)
number-set xs ys f x y number = length-set ys f y ∙ number ∙ sym (length-set xs f x)

-- one frame is changed
pub frames-changed : (view : View) (m : State) (xs ys : List Frame) (f : ℕ) (change : Frame → Frame) → IsPlain change → length ys ≡ length xs → AlikeFrames view m xs ys
    → AlikeFrames view m (set xs f (change (get_or xs f (untouched Core)))) (set ys f (change (get_or ys f (untouched Core))))
frames-changed view m xs ys f change plain number alike =
    let x = get_or xs f (untouched Core) in
    let y = get_or ys f (untouched Core) in
    frames-set view m xs ys f (change x) (change y) number alike
    (alike-changed change plain (seen view m f (change x)) x y (alike-less (seen view m f x) (seen view m f (change x)) x y (λ h. sym (ap₂ (sees view m f) (plain.owner x) (plain.gfn x)) ∙ h) (alike f)))

-- each of some frames is changed
pub frames-each : (view : View) (m : State) (change : Frame → Frame) → IsPlain change → (xs ys : List Frame) (fs : List ℕ) → length ys ≡ length xs → AlikeFrames view m xs ys → AlikeFrames view m (changed_each change xs fs) (changed_each change ys fs)
frames-each view m change plain xs ys [] number alike = alike
frames-each view m change plain xs ys (f ∷ fs) number alike =
    frames-each view m change plain (set xs f (change (get_or xs f (untouched Core)))) (set ys f (change (get_or ys f (untouched Core)))) fs (number-set xs ys f _ _ number) (frames-changed view m xs ys f change plain number alike)

-- frames are alike if fewer owners' bytes count
pub frames-less : (view : View) (m n : State) (xs ys : List Frame) → ((f : ℕ) (owner : Owner) (gfn : Option ℕ) → sees view n f owner gfn ≡ true → sees view m f owner gfn ≡ true) → AlikeFrames view m xs ys → AlikeFrames view n xs ys
frames-less view m n xs ys less alike f =
    let x = get_or xs f (untouched Core) in
    alike-less (seen view m f x) (seen view n f x) x (get_or ys f (untouched Core)) (less f x.owner x.gfn) (alike f)

-- slots stay active, and perhaps one becomes active
more-active : (slots : List Slot) (w : ℕ) (slot : Slot) → (is_active (get_or slots w no_slot).phase ≡ true → is_active slot.phase ≡ true) → (v : ℕ) → is_active (get_or slots v no_slot).phase ≡ true → is_active (get_or (set slots w slot) v no_slot).phase ≡ true
more-active [] w slot stays v h = h
more-active (s ∷ slots) zero slot stays zero h = stays h
more-active (s ∷ slots) zero slot stays (suc v) h = h
more-active (s ∷ slots) (suc w) slot stays zero h = h
more-active (s ∷ slots) (suc w) slot stays (suc v) h = more-active slots w slot stays v h

not-less : (hides a b : Bool) → (a ≡ true → b ≡ true) → not (hides && b) ≡ true → not (hides && a) ≡ true
not-less false a b more h = refl
not-less true true b more h = let e = more refl in cc
not-less true false b more h = refl

sees-less : (view : View) (m : State) (w : ℕ) (slot : Slot) → (is_active (slot_at m w).phase ≡ true → is_active slot.phase ≡ true) → (f : ℕ) (owner : Owner) (gfn : Option ℕ) → sees view (with_slot m w slot) f owner gfn ≡ true → sees view m f owner gfn ≡ true
sees-less view m w slot stays f (Vm v) gfn h = not-less (view.hides v gfn) (is_active (slot_at m v).phase) (is_active (slot_at (with_slot m w slot) v).phase) (more-active m.slots w slot stays v) h
sees-less view m w slot stays f Core gfn h = h
sees-less view m w slot stays f Host gfn h = h
sees-less view m w slot stays f Free gfn h = h

pub frames-slot : (view : View) (m : State) (w : ℕ) (slot : Slot) (xs ys : List Frame) → (is_active (slot_at m w).phase ≡ true → is_active slot.phase ≡ true) → AlikeFrames view m xs ys → AlikeFrames view (with_slot m w slot) xs ys
frames-slot view m w slot xs ys stays alike = frames-less view m (with_slot m w slot) xs ys (sees-less view m w slot stays) alike

-- states

pub sees-by : (view : View) (m n : State) → n.slots ≡ m.slots → (f : ℕ) (owner : Owner) (gfn : Option ℕ) → sees view n f owner gfn ≡ sees view m f owner gfn
sees-by view m n slots f (Vm v) gfn = ap (λ (slots : List Slot). not (view.hides v gfn && is_active (get_or slots v no_slot).phase)) slots
sees-by view m n slots f Core gfn = refl
sees-by view m n slots f Host gfn = refl
sees-by view m n slots f Free gfn = refl

pub differ-itself : (view : View) (m : State) → Alike view m m
differ-itself view m = record { config = refl; free = refl; slots = refl; number = refl; frames = λ f. alike-itself _ (frame_at m f) }

-- whether bytes count, by the second state's slots
pub seen-both : (view : View) (m n : State) → Alike view m n → (f : ℕ) → seen view n f (frame_at n f) ≡ seen view m f (frame_at m f)
seen-both view m n differ f =
    let same = (differ.frames f).custody in
    sees-by view m n differ.slots f (frame_at n f).owner (frame_at n f).gfn ∙ ap (λ (c : Custody). sees view m f c.owner c.gfn) same

pub differ-back : (view : View) (m n : State) → Alike view m n → Alike view n m
differ-back view m n differ = record {
  config = sym differ.config;
  free = sym differ.free;
  slots = sym differ.slots;
  number = sym differ.number;
  frames = λ f. record { custody = sym (differ.frames f).custody; bytes = λ h. sym ((differ.frames f).bytes (sym (seen-both view m n differ f) ∙ h)) };
}

pub differ-then : (view : View) (m n o : State) → Alike view m n → Alike view n o → Alike view m o
differ-then view m n o first second = record {
  config = second.config ∙ first.config;
  free = second.free ∙ first.free;
  slots = second.slots ∙ first.slots;
  number = second.number ∙ first.number;
  frames = λ f. record { custody = (second.frames f).custody ∙ (first.frames f).custody; bytes = λ h. (second.frames f).bytes (seen-both view m n first f ∙ h) ∙ (first.frames f).bytes h };
}

abbrev made : Configuration → List Frame → List ℕ → List Slot → State
made config frames free slots = record { config = config; frames = frames; free = free; slots = slots }

-- the second state is the first with its own frames
pub beside-is : (view : View) (m n : State) → Alike view m n → beside m n.frames ≡ n
beside-is view m n differ =
    let config = differ.config in
    let free = differ.free in
    let slots = differ.slots in
    let same : made m.config n.frames m.free m.slots ≡ made n.config n.frames n.free n.slots = rw (config, free, slots) refl in
    same

-- a slot is changed by a function of what it was
pub differ-slot : (view : View) (m n : State) (w : ℕ) (change : Slot → Slot) → (is_active (slot_at m w).phase ≡ true → is_active (change (slot_at m w)).phase ≡ true) → Alike view m n
    → Alike view (with_slot m w (change (slot_at m w))) (with_slot n w (change (slot_at n w)))
differ-slot view m n w change stays differ = record {
  config = differ.config;
  free = differ.free;
  slots = ap (λ (slots : List Slot). set slots w (change (get_or slots w no_slot))) differ.slots;
  number = differ.number;
  frames = frames-slot view m w (change (slot_at m w)) m.frames n.frames stays differ.frames;
}

-- each frame of a lawful state has a whole page
pub whole : (m : State) → IsLawful m → (f : ℕ) → length (frame_at m f).bytes ≡ 4096
whole m is f = elim (cases_lt f (length m.frames)) [
  | inl low ↦ (is.each_frame f low).page.whole
  | inr past ↦ ap (λ (x : Frame). length x.bytes) (get_or_past m.frames f (untouched Core) past) ∙ length-zero_page
]

-- frames whose bytes are replaced where they do not count

pub same-filled : (fill : List ℕ) (b : Bool) (x y : Frame) → AreAlike (not b) x y → record y { bytes = cond b fill y.bytes } ≡ record x { bytes = cond b fill x.bytes }
same-filled fill b x y alike =
    let owner = ap (λ (c : Custody). c.owner) alike.custody in
    let gfn = ap (λ (c : Custody). c.gfn) alike.custody in
    let share = ap (λ (c : Custody). c.share) alike.custody in
    let present = ap (λ (c : Custody). c.present) alike.custody in
    let one : record y { bytes = cond b fill y.bytes } ≡ frame_of x.owner x.share x.gfn x.present (cond b fill y.bytes) = rw (owner, gfn, share, present) refl in
    one ∙ ap (frame_of x.owner x.share x.gfn x.present) (by-test b alike.bytes)
  where
    frame_of : Owner → ℕ → Option ℕ → Bool → List ℕ → Frame
    frame_of owner share gfn present bytes = record { owner = owner; share = share; gfn = gfn; present = present; bytes = bytes }

    by-test : (b : Bool) → (not b ≡ true → y.bytes ≡ x.bytes) → cond b fill y.bytes ≡ cond b fill x.bytes
    by-test true same = refl
    by-test false same = same refl

pub maps-alike : (change other : Frame → Frame) (xs ys : List Frame) (d : Frame) → length ys ≡ length xs → ((f : ℕ) → f < length xs → other (get_or ys f d) ≡ change (get_or xs f d)) → map other ys ≡ map change xs
maps-alike change other [] [] d number same = refl
maps-alike change other [] (y ∷ ys) d number same = absurd cc
maps-alike change other (x ∷ xs) [] d number same = absurd cc
maps-alike change other (x ∷ xs) (y ∷ ys) d number same =
    let first = same zero (omega arith) in
    let rest = maps-alike change other xs ys d (omega (arith, number)) (λ f lt. same (suc f) (omega arith)) in
    cc
