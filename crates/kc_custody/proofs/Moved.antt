-- A call leaves the custody of each frame that it may not change.
use Rattle.std.proofs.Common.{ℕ, zero, suc, ◌≡◌, ◌<◌, ◌≤◌, ◌+◌, Bool, true, false, cond, ◌||◌, nat_eq, nat_lt, nat_le, List, [], ◌∷◌, get_or, set, Option, None, Some, refl, sym, ap, ◌∙◌, arith, get_or-set_other}
use Rattle.std.specs.List.{range_with_len, filter_map, cons_option}
use Rattle.std.specs.Option.{option_to_list}
use Rattle.std.specs.Ordering.{nat_cmp}
use Rattle.std.specs.FinMap as map
use Rattle.std.proofs.lemmas.Bool.{or_parts, or_from, eqb-false, lt-leb, lt-ltb, le-ltb}
use Rattle.kc_types.specs.Limits.{range_limit}
use Rattle.kc_types.specs.Configuration.{gfns_of, slot_count}
use Rattle.kc_types.specs.declared.refusal.Refusal.{Refusal}
use Rattle.kc_types.specs.declared.owner.Owner.TheVariants.{Core, Free}
use Rattle.kc_types.specs.declared.call.Call.{Call}
use Rattle.kc_types.specs.declared.call.Call.TheVariants.{Take, Give, HostFault, HostRead, HostWrite, RegisterVm, RegisterVcpu, SetBoot, Remap, Verify, Map, GuestRead, GuestWrite, Grant, Revoke, GrantRange, RevokeRange, Drop, Clear}
use Rattle.kc_model.specs.State.{State, Frame, Image, slot_at, mapped_at, with_frame, untouched}
use Rattle.kc_model.specs.Links.{first_of}
use Rattle.kc_model.specs.Refusals.{refusal, conditions, backing, first_of_these, guest_range}
use Rattle.kc_model.specs.Effects.{effect, host_takes, guest_read, guest_written, verified, all_trimmed, trimmed, unapproved, changed_each, frames_under, granted, revoked, scrubbed}
use Rattle.kc_model.specs.Next.{next, unless_refused}
use Rattle.kc_model.specs.Resources.{is_in}
use Rattle.kc_model.proofs.Refusals.Served.{none-of}
use Rattle.kc_model.proofs.Refusals.Answered.{vm-in}
use Rattle.kc_model.proofs.States.Frames.{part-set}
use Rattle.kc_model.proofs.States.Lists.{changed-other}
use Rattle.kc_model.proofs.Lawful.GuestCalls.{guest_frame-served}
use Rattle.kc_model.proofs.Lawful.RangeCalls.{guest_range-served}
use Rattle.kc_model.specs.Custody.{custody_of, custody_at}
use Rattle.kc_custody.specs.Movable.{movable, mapped_in}

-- a number that a list does not hold is none of its numbers
pub not-first : (g : ℕ) (gs : List ℕ) (f : ℕ) → is_in (g ∷ gs) f ≡ false → f ≡ g → ⊥
not-first g gs f absent same = eqb-false g f (or_parts (nat_eq g f) (is_in gs f) absent).0 (sym same)

pub not-later : (g : ℕ) (gs : List ℕ) (f : ℕ) → is_in (g ∷ gs) f ≡ false → is_in gs f ≡ false
not-later g gs f absent = (or_parts (nat_eq g f) (is_in gs f) absent).1

-- another frame is changed
other : (m : State) (g : ℕ) (frame : Frame) (f : ℕ) → is_in (g ∷ []) f ≡ false → custody_at (with_frame m g frame) f ≡ custody_at m f
other m g frame f absent = ap custody_of (changed-other m g frame f (not-first g [] f absent))

takes : (m : State) (free : List ℕ) (f : ℕ) → is_in (option_to_list (first_of free)) f ≡ false → custody_at (host_takes m free).1 f ≡ custody_at m f
takes m [] f absent = refl
takes m (g ∷ rest) f absent = other m g _ f absent

writes : (m : State) (w c g off : ℕ) (bytes : List ℕ) (at : Option ℕ) (f : ℕ) → custody_at (guest_written m w c g off bytes at).1 f ≡ custody_at m f
writes m w c g off bytes None f = refl
writes m w c g off bytes (Some k) f = part-set custody_of m.frames k _ (untouched Core) refl f

reads : (m : State) (w c g off len : ℕ) (at : Option ℕ) (f : ℕ) → custody_at (guest_read m w c g off len at).1 f ≡ custody_at m f
reads m w c g off len None f = refl
reads m w c g off len (Some k) f = refl

trims : (m : State) (w : ℕ) (images : List Image) (f : ℕ) → custody_at (all_trimmed m w images) f ≡ custody_at m f
trims m w [] f = refl
trims m w (image ∷ images) f = trims (trimmed m w image) w images f ∙ part-set custody_of m.frames _ _ (untouched Core) refl f

verifies : (m : State) (w : ℕ) (first : Option ℕ) (f : ℕ) → custody_at (verified m w first).1 f ≡ custody_at m f
verifies m w None f = trims m w (slot_at m w).images f
verifies m w (Some i) f = refl

-- frames that are changed one after another
each-other : (change : Frame → Frame) (frames : List Frame) (fs : List ℕ) (f : ℕ) → is_in fs f ≡ false → get_or (changed_each change frames fs) f (untouched Core) ≡ get_or frames f (untouched Core)
each-other change frames [] f absent = refl
each-other change frames (g ∷ gs) f absent =
    each-other change (set frames g (change (get_or frames g (untouched Core)))) gs f (not-later g gs f absent)
    ∙ get_or-set_other frames g f (change (get_or frames g (untouched Core))) (untouched Core) (not-first g gs f absent)

-- frames that are scrubbed
scrubs-other : (frames : List Frame) (fs : List ℕ) (f : ℕ) → is_in fs f ≡ false → get_or (scrubbed frames fs) f (untouched Core) ≡ get_or frames f (untouched Core)
scrubs-other frames [] f absent = refl
scrubs-other frames (g ∷ gs) f absent =
    scrubs-other (set frames g (untouched Free)) gs f (not-later g gs f absent)
    ∙ get_or-set_other frames g f (untouched Free) (untouched Core) (not-first g gs f absent)

-- the frame at a mapped guest frame
backed : (at : Option ℕ) (f : ℕ) → at ≡ Some (backing at) → is_in (option_to_list at) f ≡ false → is_in (backing at ∷ []) f ≡ false
backed None f mapped absent = cc
backed (Some k) f mapped absent = absent

under-more : (at : Option ℕ) (mine theirs : List ℕ) (f : ℕ) → at ≡ Some (backing at) → is_in (cons_option at mine) f ≡ false → (is_in mine f ≡ false → is_in theirs f ≡ false) → is_in (backing at ∷ theirs) f ≡ false
under-more None mine theirs f mapped absent rest = cc
under-more (Some k) mine theirs f mapped absent rest =
    let parts = or_parts (nat_eq k f) (is_in mine f) absent in
    or_from (nat_eq k f) (is_in theirs f) parts.0 (rest parts.1)

-- the frames at the guest frames of a range, all of them mapped
under : (mapped : map.FinMap nat_cmp ℕ) (g n f : ℕ) → ((h : ℕ) → g ≤ h → h < g + n → map.get mapped h ≡ Some (backing (map.get mapped h)))
    → is_in (filter_map (λ h. map.get mapped h) (range_with_len g n)) f ≡ false → is_in (frames_under mapped (range_with_len g n)) f ≡ false
under mapped g zero f all absent = refl
under mapped g (suc n) f all absent =
    under-more (map.get mapped g) (filter_map (λ h. map.get mapped h) (range_with_len (g + 1) n)) (frames_under mapped (range_with_len (g + 1) n)) f (all g (omega arith) (omega arith)) absent
    (under mapped (g + 1) n f (λ h low high. all h (omega (arith, low)) (omega (arith, high))))

ranged : (a b : Bool) (fs : List ℕ) (f : ℕ) → a ≡ false → b ≡ false → is_in (cond (a || b) [] fs) f ≡ false → is_in fs f ≡ false
ranged false false fs f x y absent = absent
ranged false true fs f x y absent = cc
ranged true b fs f x y absent = cc

slotted : (a : Bool) (fs : List ℕ) (f : ℕ) → a ≡ true → is_in (cond a fs []) f ≡ false → is_in fs f ≡ false
slotted true fs f x absent = absent
slotted false fs f x absent = cc

-- the frames under a range that a served call names
range-absent : (m : State) (v c g n : ℕ) (last : Option Refusal) (f : ℕ) → first_of_these (guest_range m v c g n last) ≡ None → is_in (mapped_in m v g n) f ≡ false → is_in (frames_under (slot_at m v).mapped (range_with_len g n)) f ≡ false
range-absent m v c g n last f served absent =
    let seen = (guest_range-served m v c g n last served).0 in
    let few = seen.few in
    let gfn = seen.call.gfn in
    let mine = ranged (nat_lt range_limit n) (nat_le (gfns_of m.config.version) g) (filter_map (λ h. mapped_at m v h) (range_with_len g n)) f (le-ltb range_limit n few) (lt-leb (gfns_of m.config.version) g gfn) absent in
    under (slot_at m v).mapped g n f seen.mapped mine

stays-effect : (m : State) (call : Call) (f : ℕ) → refusal m call ≡ None → is_in (movable m call) f ≡ false → custody_at (effect m call).1 f ≡ custody_at m f
stays-effect m Take f served absent = takes m m.free f absent
stays-effect m (Give g) f served absent = other m g _ f absent
stays-effect m (HostFault g) f served absent = other m g _ f absent
stays-effect m (HostRead g off len) f served absent = refl
stays-effect m (HostWrite g off bytes) f served absent = part-set custody_of m.frames g _ (untouched Core) refl f
stays-effect m (RegisterVm w) f served absent = refl
stays-effect m (RegisterVcpu w c) f served absent = refl
stays-effect m (SetBoot w base len) f served absent = refl
stays-effect m (Remap w i g) f served absent = other m g _ f absent
stays-effect m (Verify w) f served absent = verifies m w (unapproved m w) f
stays-effect m (Map w c g) f served absent = other m g _ f absent
stays-effect m (GuestRead w c g off len) f served absent = reads m w c g off len (mapped_at m w g) f
stays-effect m (GuestWrite w c g off bytes) f served absent = writes m w c g off bytes (mapped_at m w g) f
stays-effect m (Grant w c g) f served absent =
    let seen = guest_frame-served m w c g _ served in
    ap custody_of (each-other granted m.frames (backing (mapped_at m w g) ∷ []) f (backed (mapped_at m w g) f seen.0.mapped absent))
stays-effect m (Revoke w c g) f served absent =
    let seen = guest_frame-served m w c g _ served in
    ap custody_of (each-other revoked m.frames (backing (mapped_at m w g) ∷ []) f (backed (mapped_at m w g) f seen.0.mapped absent))
stays-effect m (GrantRange w c g n) f served absent = ap custody_of (each-other granted m.frames (frames_under (slot_at m w).mapped (range_with_len g n)) f (range-absent m w c g n _ f served absent))
stays-effect m (RevokeRange w c g n) f served absent = ap custody_of (each-other revoked m.frames (frames_under (slot_at m w).mapped (range_with_len g n)) f (range-absent m w c g n _ f served absent))
stays-effect m (Drop w c g) f served absent =
    let seen = guest_frame-served m w c g _ served in
    other m (backing (mapped_at m w g)) _ f (backed (mapped_at m w g) f seen.0.mapped absent)
stays-effect m (Clear w) f served absent =
    let low = vm-in m w (none-of (conditions m (Clear w)) served 0) in
    ap custody_of (scrubs-other m.frames (slot_at m w).frames f (slotted (nat_lt w (slot_count m.config)) (slot_at m w).frames f (lt-ltb w (slot_count m.config) low) absent))

stays-unless : (refused : Option Refusal) (m : State) (call : Call) (f : ℕ) → refusal m call ≡ refused → is_in (movable m call) f ≡ false → custody_at (unless_refused refused m call).1 f ≡ custody_at m f
stays-unless None m call f served absent = stays-effect m call f served absent
stays-unless (Some r) m call f served absent = refl

-- a call leaves the custody of each frame that it may not change
pub stays : (m : State) (call : Call) (f : ℕ) → is_in (movable m call) f ≡ false → custody_at (next m call).1 f ≡ custody_at m f
unfolding next
stays m call f absent = stays-unless (refusal m call) m call f refl absent
