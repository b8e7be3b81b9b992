-- What principals may have before a call, and what calls touch, from names and the start only.
use Rattle.std.specs.Prelude.{ℕ, zero, suc, Bool, false, ◌&&◌, ◌||◌, eqb, nat_lt, List, get_or, Option, Some, None}
use Rattle.kc_types.specs.declared.resource.Resource.TheVariants as resource
use Rattle.kc_model.specs.Resources.{Resource}
pub use Rattle.kc_footprints.specs.Members.{has_member}
use Rattle.kc_footprints.specs.declared.names.Gain.{Gain}
use Rattle.kc_footprints.specs.declared.names.Gain.TheVariants.{Nothing, SlotTakesFrame, FreeTakesFrame, FreeTakesReach}
use Rattle.kc_footprints.specs.declared.names.Names.{Names}

abbrev pub is_at : Option ℕ → ℕ → Bool
is_at None x = false
is_at (Some y) x = eqb y x

-- the names of call k
abbrev pub names_at : List Names → ℕ → Names
names_at cs k = get_or cs k (record { frame = None; slot = None; free = false; gain = Nothing })

-- free is the number of the free list, as a principal
abbrev pub names_principal : ℕ → Names → ℕ → Bool
names_principal free n p = is_at n.slot p || (n.free && eqb free p)

-- what this principal may have; nothing if there is none
abbrev pub reach_of : (ℕ → ℕ → Bool) → Option ℕ → ℕ → Bool
reach_of reach None f = false
reach_of reach (Some p) f = reach p f

-- what the principal p gains by a call
abbrev pub gains_by : ℕ → (ℕ → ℕ → Bool) → Names → Gain → ℕ → ℕ → Bool
gains_by free reach n Nothing p f = false
gains_by free reach n SlotTakesFrame p f = is_at n.slot p && is_at n.frame f
gains_by free reach n FreeTakesFrame p f = (n.free && eqb free p) && is_at n.frame f
gains_by free reach n FreeTakesReach p f = (n.free && eqb free p) && reach_of reach n.slot f

-- what the principal p may have before call k, if start p f says that it owns the frame f at the start
abbrev pub may_have : ℕ → (ℕ → ℕ → Bool) → List Names → ℕ → ℕ → ℕ → Bool
may_have free start cs zero p f = start p f
may_have free start cs (suc k) p f = may_have free start cs k p f || gains_by free (may_have free start cs k) (names_at cs k) (names_at cs k).gain p f

-- whether the resource is the principal p, or a frame that it may have, if `reach` says what each principal may have
abbrev pub has_part : ℕ → (ℕ → ℕ → Bool) → ℕ → Resource → Bool
has_part free reach p (resource.Frame f) = reach p f
has_part free reach p (resource.Vm v) = eqb p v && nat_lt v free
has_part free reach p resource.Free = eqb free p

-- whether a call with these names touches the resource
abbrev pub touched_by : ℕ → (ℕ → ℕ → Bool) → Names → Resource → Bool
touched_by free reach n (resource.Frame f) = is_at n.frame f || (reach_of reach n.slot f || (n.free && reach free f))
touched_by free reach n (resource.Vm v) = is_at n.slot v
touched_by free reach n resource.Free = n.free

abbrev pub touches : ℕ → (ℕ → ℕ → Bool) → List Names → ℕ → Resource → Bool
touches free start cs k r = touched_by free (may_have free start cs k) (names_at cs k) r
