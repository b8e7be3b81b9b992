-- Parts that are taken out of a core, on which calls are made, and that are put back.
use Rattle.std.specs.Prelude.{◌≡◌, true, false, not, ◌&&◌, ◌||◌}
use Rattle.kc_types.specs.Configuration.{Configuration}
use Rattle.kc_types.specs.declared.call.Call.{Call}
use Rattle.kc_model.specs.State.{State}
use Rattle.kc_model.specs.Lawful.{IsLawful}
use Rattle.kc_model.specs.Next.{next}
use Rattle.kc_model.specs.Resources.{Resource, Resources, need}
use Rattle.kc_parts.specs.Cuts.{IsSplit, IsJoin}
use Rattle.kc_parts.specs.Parts.{Held}
use Rattle.kc_parts.specs.Restricted.{exists_in, IsRestricted}
use Rattle.kc_parts.specs.States.{state_of}
use Rattle.kc_core.specs.KCore.{IsCore}
use Rattle.kc_replay.specs.Wave.{HasPlaces}

-- those of the first that are in the second, those that are not, and those of either
abbrev pub in_both : Resources → Resources → Resources
in_both here there r = here r && there r

abbrev pub in_first : Resources → Resources → Resources
in_first here there r = here r && not (there r)

abbrev pub in_either : Resources → Resources → Resources
in_either here there r = here r || there r

-- parts that are a state's at some resources stay so if parts are taken out, calls are made elsewhere, and parts are
-- put back; a whole core's parts are its state's at all resources that exist, and parts that are so are a whole core's
pub record IsMoving : Type 0 where
  pub whole : (config : Configuration) (h : Held) → IsCore config h → IsRestricted (state_of config h) (exists_in config) h × HasPlaces config h
  pub taken : (m : State) (here wanted : Resources) (h rest got : Held) → IsRestricted m here h → IsSplit h wanted rest got → IsRestricted m (in_both here wanted) got × IsRestricted m (in_first here wanted) rest
  -- a call changes nothing at resources that it does not need
  pub stays : (m : State) (here : Resources) (h : Held) (call : Call) → IsLawful m → IsRestricted m here h → ((r : Resource) → here r ≡ true → need m call r ≡ false) → IsRestricted (next m call).1 here h
  pub joined : (m : State) (here there : Resources) (one other after : Held) → IsRestricted m here one → IsRestricted m there other → IsJoin one other after → IsRestricted m (in_either here there) after
  pub same : (m : State) (here there : Resources) (h : Held) → IsRestricted m here h → ((r : Resource) → here r ≡ there r) → IsRestricted m there h
  pub core : (m : State) (h : Held) → IsLawful m → IsRestricted m (exists_in m.config) h → HasPlaces m.config h → IsCore m.config h × (state_of m.config h ≡ m)
