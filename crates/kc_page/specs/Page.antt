-- Pages, as frames of the state.
use Rattle.std.specs.Prelude.{ℕ, ◌≡◌}
use Rattle.kc_page.specs.declared.page.Page.{Page}
use Rattle.kc_page.specs.declared.page.PageRecord.{PageRecord}
use Rattle.kc_page.specs.PageBytes.{zeroed}
use Rattle.kc_model.specs.State.{State, Frame, frame_at}
use Rattle.kc_model.specs.Links.{link_at}

-- the page with zero bytes
abbrev pub scrubbed_page : Page → Page
scrubbed_page page = record page { bytes = zeroed page.bytes }

-- a page as a frame of the state, without its links
abbrev pub frame_of : Page → Frame
frame_of page = record {
  owner = page.meta.owner;
  share = page.meta.share;
  gfn = page.meta.gfn;
  present = page.meta.present;
  bytes = page.bytes.bytes;
}

-- the record is that of the frame in the state, with its neighbours in the list of its owner
pub record IsRecordOf (m : State) (f : ℕ) (meta : PageRecord) : Type 0 where
  pub owner : meta.owner ≡ (frame_at m f).owner
  pub share : meta.share ≡ (frame_at m f).share
  pub gfn : meta.gfn ≡ (frame_at m f).gfn
  pub present : meta.present ≡ (frame_at m f).present
  pub prev : meta.prev ≡ (link_at m f).prev
  pub next : meta.next ≡ (link_at m f).next
