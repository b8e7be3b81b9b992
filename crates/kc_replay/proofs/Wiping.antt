-- Parts that are wiped.
use Rattle.std.proofs.Common.{ℕ, ◌≡◌, ◌<◌, cond, map, Option, Some, None, is_some, sym, ap, subst, ◌∙◌}
use Rattle.std.specs.List.{slice_get}
use Rattle.std.specs.Option.{option_map}
use Rattle.std.proofs.lemmas.List.{length-map}
use Rattle.std.proofs.lemmas.Option.{same_Some, slice_get-map}
use Rattle.std.proofs.Math.ListN.{get_or-map}
use Rattle.kc_types.specs.Configuration.{Configuration}
use Rattle.kc_types.specs.declared.owner.Owner.TheVariants.{Core}
use Rattle.kc_model.specs.State.{State, Frame, frame_at, untouched, zero_page}
use Rattle.kc_model.specs.Wiped.{wiped, wiped_frame}
use Rattle.kc_page.specs.declared.page.Page.{Page}
use Rattle.kc_page.specs.Page.{scrubbed_page}
use Rattle.kc_parts.specs.Parts.{Held, is_filled, place_of, place_in, page_at}
use Rattle.kc_parts.specs.States.{state_of}
use Rattle.kc_core.specs.KCore.{IsCore}
use Rattle.kc_core.proofs.Frames.{frame-is}
use Rattle.kc_replay.specs.Wave.{HasPlaces, HasNoBytes, IsWiped}
use Rattle.kc_replay.proofs.Taking.{places-whole}

wiped-page : (there : Option Page) (page : Page) → option_map scrubbed_page there ≡ Some page → page.bytes.bytes ≡ zero_page
wiped-page None page e = cc
wiped-page (Some p) page e = ap (λ (x : Page). x.bytes.bytes) (sym (same_Some (scrubbed_page p) page e))

page-clean : (h : Held) (f : ℕ) → page_at (record h { pages = map scrubbed_page h.pages }) f ≡ option_map scrubbed_page (page_at h f)
page-clean h f = ap (λ n. slice_get (map scrubbed_page h.pages) (cond (is_filled h.numbers h.filled f) (place_of h.numbers f) n)) (length-map h.pages scrubbed_page) ∙ slice_get-map scrubbed_page h.pages (place_in h f)

-- pages that were wiped have only zero bytes
pub no-bytes : (config : Configuration) (h : Held) → HasNoBytes (record h { pages = map scrubbed_page h.pages })
no-bytes config h f page e = wiped-page (page_at h f) page (sym (page-clean h f) ∙ e)

frame-wiped : (m : State) (f : ℕ) → frame_at (wiped m) f ≡ wiped_frame (frame_at m f)
frame-wiped m f = get_or-map wiped_frame m.frames f (untouched Core)

-- the parts of a core that was wiped
pub core-wiped : (m : State) (config : Configuration) (h : Held) → IsCore config h → state_of config h ≡ wiped m → IsWiped m.config h
core-wiped m config h is state = record {
  places = subst (λ (it : Configuration). HasPlaces it h) (ap (λ (s : State). s.config) state) (places-whole config h is);
  bytes = λ f page at.
      let low : f < config.frames = is.linked.frames f (ap is_some at) in
      ap (λ (x : Frame). x.bytes) (sym (frame-is config h f page low at) ∙ ap (λ (s : State). frame_at s f) state ∙ frame-wiped m f);
}
