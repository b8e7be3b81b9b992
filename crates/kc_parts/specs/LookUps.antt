-- What is looked up in parts by number.
use Rattle.std.specs.Prelude.{◌≡◌}
use Rattle.kc_page.specs.declared.page.PageRecord.{PageRecord}
use Rattle.kc_model.specs.State.{Frame}

-- the record has the frame's values
pub record IsMetaOf (frame : Frame) (meta : PageRecord) : Type 0 where
  pub owner : meta.owner ≡ frame.owner
  pub share : meta.share ≡ frame.share
  pub gfn : meta.gfn ≡ frame.gfn
  pub present : meta.present ≡ frame.present
