-- What parts are seen as, and how that changes with one page.
use Rattle.std.proofs.Common.{ℕ, zero, suc, ◌≡◌, ◌≢◌, ◌<◌, ◌≤◌, ◌+◌, inl, inr, not, List, [], ◌∷◌, set, map, Option, Some, None, is_some, Bool, true, false, refl, sym, ap, ◌∙◌, arith}
use Rattle.std.specs.List.{range_with_len}
use Rattle.std.specs.Option.{option_map}
use Rattle.std.proofs.lemmas.Bool.{cases_eq}
use Rattle.std.proofs.lemmas.List.FromFn.{get_or-map-range_with_len}
use Rattle.kc_types.specs.Configuration.{Configuration, slot_count}
use Rattle.kc_types.specs.declared.link.Ends.{Ends}
use Rattle.kc_types.specs.declared.owner.Owner.{Owner}
use Rattle.kc_types.specs.declared.owner.Owner.TheVariants.{Core, Host, Free, Vm}
use Rattle.kc_model.specs.Lawful.{times_in}
use Rattle.kc_model.specs.State.{frame_at, slot_at, with_frame, untouched, no_slot}
use Rattle.kc_page.specs.declared.page.Page.{Page}
use Rattle.kc_page.specs.Page.{frame_of}
use Rattle.kc_links.specs.Chain.{unlinked}
use Rattle.kc_links.specs.Ending.{listed}
use Rattle.kc_parts.specs.Parts.{Held, is_sparse, page_at, vm_at, links_of, link_of, ends_at, with_page}
use Rattle.kc_parts.specs.States.{frame_in, slot_in, list_in, state_of, owner_at, HasRoom, IsLinked}
use Rattle.kc_parts.proofs.Pages.{page-set, page-other, kept-at, links-kept}
use Rattle.kc_parts.proofs.Moving.{only-first, not-first, lists-owners, lists-same}

-- a list made of a function that changes at one number is the list with that element set
set-from : {X : Type 0} (old new : ℕ → X) (a n k : ℕ) (x : X) → new (a + k) ≡ x → ((g : ℕ) → g ≢ a + k → new g ≡ old g) → map new (range_with_len a n) ≡ set (map old (range_with_len a n)) k x
set-from old new a zero k x is others = refl
set-from old new a (suc n) zero x is others =
    let here : new a ≡ x = ap new (let e : a ≡ a + 0 = omega arith in e) ∙ is in
    rw (here, same-from old new (a + 1) n (λ g le. others g (λ e. omega (arith, le, e)))) refl
  where
    same-from : {X : Type 0} (old new : ℕ → X) (a n : ℕ) → ((g : ℕ) → a ≤ g → new g ≡ old g) → map new (range_with_len a n) ≡ map old (range_with_len a n)
    same-from old new a zero same = refl
    same-from old new a (suc n) same = rw (same a (omega arith), same-from old new (a + 1) n (λ g le. same g (omega (arith, le)))) refl
set-from old new a (suc n) (suc k) x is others =
    let e : a + suc k ≡ (a + 1) + k = omega arith in
    rw (others a (λ same. omega (arith, same)), set-from old new (a + 1) n k x (ap new (sym e) ∙ is) (λ g other. others g (λ same. other (same ∙ e)))) refl

pub table-set : {X : Type 0} (old new : ℕ → X) (n k : ℕ) (x : X) → new k ≡ x → ((g : ℕ) → g ≢ k → new g ≡ old g) → map new (range_with_len 0 n) ≡ set (map old (range_with_len 0 n)) k x
table-set old new n k x is others = let e : 0 + k ≡ k = omega arith in set-from old new 0 n k x (ap new e ∙ is) (λ g other. others g (λ same. other (same ∙ sym e)))

pub table-same : {X : Type 0} (old new : ℕ → X) (ks : List ℕ) → ((g : ℕ) → new g ≡ old g) → map new ks ≡ map old ks
table-same old new [] same = refl
table-same old new (k ∷ ks) same = rw (same k, table-same old new ks same) refl

-- the frame of a number
pub frame-seen : (config : Configuration) (h : Held) (f : ℕ) → f < config.frames → frame_at (state_of config h) f ≡ frame_in (page_at h f)
frame-seen config h f low = get_or-map-range_with_len (λ g. frame_in (page_at h g)) 0 config.frames f f (untouched Core) low (omega arith)

-- the slot of a number
pub slot-seen : (config : Configuration) (h : Held) (v : ℕ) → v < slot_count config → slot_at (state_of config h) v ≡ slot_in (links_of h) (vm_at h v)
slot-seen config h v low = get_or-map-range_with_len (λ w. slot_in (links_of h) (vm_at h w)) 0 (slot_count config) v v no_slot low (omega arith)

-- a page that is here, and keeps its links, is the frame of its number
pub state-page : (config : Configuration) (h : Held) (f : ℕ) (old new : Page) → page_at h f ≡ Some old → link_of new ≡ link_of old → state_of config (with_page h f new) ≡ with_frame (state_of config h) f (frame_of new)
state-page config h f old new is same = λ i. record {
  config = config;
  frames = table-set (λ g. frame_in (page_at h g)) (λ g. frame_in (page_at (with_page h f new) g)) config.frames f (frame_of new) (ap frame_in (page-set h f old new is)) (λ g other. ap frame_in (page-other h f g old new is other)) i;
  free = list_in (links-kept h f old new is same i) h.free;
  slots = map (λ v. slot_in (links-kept h f old new is same i) (vm_at h v)) (range_with_len 0 (slot_count config));
}

pub ends-pages : (h : Held) (pages : List Page) (owner : Owner) → ends_at (record h { pages = pages }) owner ≡ ends_at h owner
ends-pages h pages Core = refl
ends-pages h pages Host = refl
ends-pages h pages Free = refl
ends-pages h pages (Vm v) = refl

pub ends-page : (h : Held) (f : ℕ) (page : Page) (owner : Owner) → ends_at (with_page h f page) owner ≡ ends_at h owner
ends-page h f page owner = ends-pages h (with_page h f page).pages owner

pub here-page : (h : Held) (f : ℕ) (old new : Page) → page_at h f ≡ Some old → (g : ℕ) → is_some (page_at (with_page h f new) g) ≡ is_some (page_at h g)
here-page h f old new is g = elim (cases_eq g f) [
  | inl e ↦ rw e (ap is_some (page-set h f old new is) ∙ sym (ap is_some is))
  | inr other ↦ ap is_some (page-other h f g old new is other)
]

-- a page that is reserved as before is sparse as before
pub sparse-page : (h : Held) (f : ℕ) (old new : Page) → page_at h f ≡ Some old → new.bytes.is_reserved ≡ old.bytes.is_reserved → (g : ℕ) → is_sparse (page_at (with_page h f new) g) ≡ is_sparse (page_at h g)
sparse-page h f old new is same g = elim (cases_eq g f) [
  | inl e ↦ rw e (ap is_sparse (page-set h f old new is) ∙ ap not same ∙ sym (ap is_sparse is))
  | inr other ↦ ap is_sparse (page-other h f g old new is other)
]

-- there is room if there was
pub room-kept : (old new : Held) → new.is_reserved ≡ old.is_reserved → ((g : ℕ) → is_sparse (page_at new g) ≡ is_sparse (page_at old g)) → HasRoom old → HasRoom new
room-kept old new same each room reserved g = each g ∙ room (sym same ∙ reserved) g

-- reserved parts have memory for a page that is here
pub page-reserved : (h : Held) (f : ℕ) (page : Page) → HasRoom h → h.is_reserved ≡ true → page_at h f ≡ Some page → page.bytes.is_reserved ≡ true
page-reserved h f page room reserved is = by_test page.bytes.is_reserved (sym (ap is_sparse is) ∙ room reserved f)
  where
    by_test : (b : Bool) → not b ≡ false → b ≡ true
    by_test true e = refl
    by_test false e = sym e

pub room-page : (h : Held) (f : ℕ) (old new : Page) → page_at h f ≡ Some old → new.bytes.is_reserved ≡ old.bytes.is_reserved → HasRoom h → HasRoom (with_page h f new)
room-page h f old new is same room = room-kept h (with_page h f new) refl (sparse-page h f old new is same) room

-- a page changes, and keeps its links and its owner
pub linked-kept : (config : Configuration) (h : Held) (f : ℕ) (old new : Page) → IsLinked config h → page_at h f ≡ Some old → link_of new ≡ link_of old → new.meta.owner ≡ old.meta.owner → new.bytes.is_reserved ≡ old.bytes.is_reserved → IsLinked config (with_page h f new)
linked-kept config h f old new linked is same owner reserved = record {
  frames = λ g here. linked.frames g (sym (here-page h f old new is g) ∙ here);
  vms = linked.vms;
  lists = lists-same (links_of h) (links_of (with_page h f new)) (ends_at h) (ends_at (with_page h f new)) (owner_at h) (owner_at (with_page h f new))
      (links-kept h f old new is same) (ends-page h f new) (λ g. owner-of (page_at h g) (page_at (with_page h f new) g) (kept-at (λ (page : Page). page.meta.owner) h f old new is owner g)) linked.lists;
  room = room-page h f old new is reserved linked.room;
}
  where
    owner-of : (a b : Option Page) → option_map (λ (page : Page). page.meta.owner) b ≡ option_map (λ (page : Page). page.meta.owner) a → (frame_in b).owner ≡ (frame_in a).owner
    owner-of None None e = refl
    owner-of None (Some b) e = cc
    owner-of (Some a) None e = cc
    owner-of (Some a) (Some b) e = ap (λ o. inner o) e
      where
        inner : Option Owner → Owner
        inner (Some x) = x
        inner None = Core

-- a page in no list changes, and keeps its links
pub linked-moved : (config : Configuration) (h : Held) (f : ℕ) (old new : Page) → IsLinked config h → page_at h f ≡ Some old → link_of new ≡ link_of old
    → ((p : Owner) (e : Ends) → ends_at h p ≡ Some e → times_in (listed (links_of h) e) f ≡ 0) → (new.meta.owner ≡ Host → links_of h f ≡ Some unlinked) → new.bytes.is_reserved ≡ old.bytes.is_reserved → IsLinked config (with_page h f new)
linked-moved config h f old new linked is same none alone reserved = record {
  frames = λ g here. linked.frames g (sym (here-page h f old new is g) ∙ here);
  vms = linked.vms;
  lists = lists-owners (links_of h) (links_of (with_page h f new)) (ends_at h) (ends_at (with_page h f new)) (owner_at h) (owner_at (with_page h f new)) (f ∷ []) (links-kept h f old new is same) (ends-page h f new)
      (λ g out. ap (λ there. (frame_in there).owner) (page-other h f g old new is (not-first f g out)))
      (λ g moved p e here. rw (only-first f g moved) (none p e here))
      (λ g moved host. rw (only-first f g moved) (alone (sym (ap (λ there. (frame_in there).owner) (page-set h f old new is)) ∙ (rw (only-first f g moved) at host))))
      linked.lists;
  room = room-page h f old new is reserved linked.room;
}
