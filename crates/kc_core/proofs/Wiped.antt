-- Parts whose pages keep their records and change their bytes.
use Rattle.std.proofs.Common.{ℕ, ◌≡◌, cond, nat_lt, not, Bool, true, false, List, [], ◌∷◌, map, Option, Some, None, is_some, refl, sym, ap, ◌∙◌}
use Rattle.std.specs.Prelude.{slice_index_or}
use Rattle.std.specs.List.{range_with_len, slice_get}
use Rattle.std.specs.Option.{option_map}
use Rattle.std.proofs.lemmas.List.{length-map}
use Rattle.std.proofs.lemmas.Option.{slice_get-map}
use mathlib.Core.Path.{fun_ext}
use Rattle.kc_types.specs.Limits.{frame_limit}
use Rattle.kc_types.specs.Configuration.{Configuration, slot_count}
use Rattle.kc_types.specs.declared.owner.Owner.{Owner}
use Rattle.kc_types.specs.declared.owner.Owner.TheVariants.{Core, Host, Free, Vm}
use Rattle.kc_model.specs.State.{Frame, slot_at, untouched, zero_page}
use Rattle.kc_model.specs.Refusals.{is_active}
use Rattle.kc_model.specs.Lawful.{IsLawful}
use Rattle.kc_model.specs.Blanking.{blank_state, blank_frame, is_guests}
use Rattle.kc_model.proofs.Redaction.Blank.{audited_blank}
use Rattle.kc_model.specs.Wiped.{wiped, wiped_frame}
use Rattle.kc_model.proofs.Lawful.Wipes.{lawful-wiped}
use Rattle.kc_page.specs.declared.page.Page.{Page}
use Rattle.kc_page.specs.declared.page.PageRecord.{PageRecord}
use Rattle.kc_page.specs.Page.{frame_of, scrubbed_page}
use Rattle.kc_page.specs.PageBytes.{zeroed}
use Rattle.kc_parts.specs.Parts.{Held, is_filled, is_sparse, place_of, place_in, page_at, vm_at, link_of, links_of, ends_at}
use Rattle.kc_parts.specs.Marks.{is_marked, scrubbed_if_marked}
use Rattle.kc_parts.specs.States.{frame_in, slot_in, list_in, state_of, owner_at}
use Rattle.kc_parts.proofs.Moving.{lists-same}
use Rattle.kc_parts.proofs.Seen.{room-kept}
use Rattle.kc_core.specs.KCore.{IsCore}

-- pages keep their records, and each is changed as a frame is
module _ (config : Configuration) (h : Held) (page_to : Page → Page) (frame_to : Frame → Frame)
    (recorded : (page : Page) → (page_to page).meta ≡ page.meta) (framed : (page : Page) → frame_of (page_to page) ≡ frame_to (frame_of page))
    (reserved : (page : Page) → (page_to page).bytes.is_reserved ≡ page.bytes.is_reserved) (none : frame_to (untouched Core) ≡ untouched Core) where
  abbrev changed : Held
  changed = record h { pages = map page_to h.pages }

  page-changed : (f : ℕ) → page_at changed f ≡ option_map page_to (page_at h f)
  page-changed f = ap (λ n. slice_get (map page_to h.pages) (cond (is_filled h.numbers h.filled f) (place_of h.numbers f) n)) (length-map h.pages page_to) ∙ slice_get-map page_to h.pages (place_in h f)

  link-changed : (there : Option Page) → option_map link_of (option_map page_to there) ≡ option_map link_of there
  link-changed None = refl
  link-changed (Some page) = ap (λ (meta : PageRecord). Some (record { prev = meta.prev; next = meta.next })) (recorded page)

  frame-changed : (there : Option Page) → frame_in (option_map page_to there) ≡ frame_to (frame_in there)
  frame-changed None = sym none
  frame-changed (Some page) = framed page

  owner-changed : (there : Option Page) → (frame_in (option_map page_to there)).owner ≡ (frame_in there).owner
  owner-changed None = refl
  owner-changed (Some page) = ap (λ (meta : PageRecord). meta.owner) (recorded page)

  sparse-changed : (there : Option Page) → is_sparse (option_map page_to there) ≡ is_sparse there
  sparse-changed None = refl
  sparse-changed (Some page) = ap not (reserved page)

  some-changed : (there : Option Page) → is_some (option_map page_to there) ≡ is_some there
  some-changed None = refl
  some-changed (Some page) = refl

  links-changed : links_of changed ≡ links_of h
  links-changed = fun_ext (λ f. ap (λ there. cond (nat_lt f frame_limit) there None) (ap (option_map link_of) (page-changed f) ∙ link-changed (page_at h f)))

  pub state-changed : state_of config changed ≡ record (state_of config h) { frames = map frame_to (state_of config h).frames }
  state-changed = λ i. record {
    config = config;
    frames = frames (range_with_len 0 config.frames) i;
    free = list_in (links-changed i) h.free;
    slots = map (λ v. slot_in (links-changed i) (vm_at h v)) (range_with_len 0 (slot_count config));
  }
    where
      frames : (fs : List ℕ) → map (λ f. frame_in (page_at changed f)) fs ≡ map frame_to (map (λ f. frame_in (page_at h f)) fs)
      frames [] = refl
      frames (f ∷ fs) = rw (page-changed f, frame-changed (page_at h f), frames fs) refl

  pub core-changed : IsLawful (record (state_of config h) { frames = map frame_to (state_of config h).frames }) → IsCore config h → IsCore config changed
  core-changed lawful is = record {
    lawful = rw state-changed lawful;
    linked = record {
      frames = λ f here. is.linked.frames f (sym (some-at f) ∙ here);
      vms = is.linked.vms;
      lists = lists-same (links_of h) (links_of changed) (ends_at h) (ends_at changed) (owner_at h) (owner_at changed) links-changed ends
          (λ f. ap (λ (there : Option Page). (frame_in there).owner) (page-changed f) ∙ owner-changed (page_at h f)) is.linked.lists;
      room = room-kept h changed refl (λ f. ap is_sparse (page-changed f) ∙ sparse-changed (page_at h f)) is.linked.room;
    };
    whole = record {
      numbers = is.whole.numbers;
      frames = λ f low. some-at f ∙ is.whole.frames f low;
      vms = is.whole.vms;
      past = is.whole.past;
      free = is.whole.free;
    };
  }
    where
      some-at : (f : ℕ) → is_some (page_at changed f) ≡ is_some (page_at h f)
      some-at f = ap is_some (page-changed f) ∙ some-changed (page_at h f)

      ends : (p : Owner) → ends_at changed p ≡ ends_at h p
      ends Core = refl
      ends Host = refl
      ends Free = refl
      ends (Vm v) = refl

-- all bytes are zeroed
pub state-clean : (config : Configuration) (h : Held) → state_of config (record h { pages = map scrubbed_page h.pages }) ≡ wiped (state_of config h)
state-clean config h = state-changed config h scrubbed_page wiped_frame (λ page. refl) (λ page. refl) (λ page. refl) refl

pub core-clean : (config : Configuration) (h : Held) → IsCore config h → IsCore config (record h { pages = map scrubbed_page h.pages })
core-clean config h is = core-changed config h scrubbed_page wiped_frame (λ page. refl) (λ page. refl) (λ page. refl) refl (lawful-wiped (state_of config h) is.lawful) is

-- the bytes of active VMs' pages are zeroed
module _ (config : Configuration) (h : Held) (marks : List Bool) (active : (v : ℕ) → slice_index_or marks v false ≡ is_active (slot_at (state_of config h) v).phase) where
  page-blank : (owner : Owner) → is_marked marks owner ≡ is_guests (state_of config h) owner
  page-blank Core = refl
  page-blank Host = refl
  page-blank Free = refl
  page-blank (Vm v) = active v

  frame-blank : (page : Page) → frame_of (scrubbed_if_marked marks page) ≡ blank_frame (state_of config h) (frame_of page)
  frame-blank page = by_test (is_marked marks page.meta.owner) ∙ ap (λ test. record (frame_of page) { bytes = cond test zero_page page.bytes.bytes }) (page-blank page.meta.owner)
    where
      by_test : (test : Bool) → frame_of (record page { bytes = cond test (zeroed page.bytes) page.bytes }) ≡ record (frame_of page) { bytes = cond test zero_page page.bytes.bytes }
      by_test true = refl
      by_test false = refl

  reserved-blank : (page : Page) → (scrubbed_if_marked marks page).bytes.is_reserved ≡ page.bytes.is_reserved
  reserved-blank page = by_test (is_marked marks page.meta.owner)
    where
      by_test : (test : Bool) → (cond test (zeroed page.bytes) page.bytes).is_reserved ≡ page.bytes.is_reserved
      by_test true = refl
      by_test false = refl

  pub state-blank : state_of config (record h { pages = map (scrubbed_if_marked marks) h.pages }) ≡ blank_state (state_of config h)
  state-blank = state-changed config h (scrubbed_if_marked marks) (blank_frame (state_of config h)) (λ page. refl) frame-blank reserved-blank refl

  pub core-blank : IsCore config h → IsCore config (record h { pages = map (scrubbed_if_marked marks) h.pages })
  core-blank is = core-changed config h (scrubbed_if_marked marks) (blank_frame (state_of config h)) (λ page. refl) frame-blank reserved-blank refl (audited_blank (state_of config h) [] is.lawful).lawful is
