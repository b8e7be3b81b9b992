-- The frame that is handed to a slot, and where it goes.
use Rattle.std.specs.Prelude.{ℕ, ◌≡◌, ◌<◌, Some}
use Rattle.kc_types.specs.Configuration.{gfns_of}
use Rattle.kc_model.specs.State.{State, vcpu_at}
use Rattle.kc_model.specs.Refusals.{next_gfn}
use Rattle.kc_core.specs.declared.hand.NextPage.{NextPage}
use Rattle.kc_core.specs.declared.hand.Awaited.{Awaited}

-- the frame of this number, at the guest frame of the image's next page
pub record IsNextPage (m : State) (v i f : ℕ) (page : NextPage) : Type 0 where
  pub vm : page.vm ≡ v
  pub gfn : page.gfn ≡ next_gfn m v i
  pub within : page.gfn < gfns_of m.config.version
  pub frame : page.frame ≡ f

-- the frame of this number, at the guest frame for which the virtual processor waits
pub record IsAwaited (m : State) (v c f : ℕ) (page : Awaited) : Type 0 where
  pub vm : page.vm ≡ v
  pub vcpu : page.vcpu ≡ c
  pub gfn : (vcpu_at m v c).fault ≡ Some page.gfn
  pub within : page.gfn < gfns_of m.config.version
  pub frame : page.frame ≡ f
