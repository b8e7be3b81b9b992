-- The footprints of a short trace, as worked out by hand.
use Rattle.std.proofs.Common.{ℕ, ◌≡◌, Bool, true, false, List, [], ◌∷◌, map, refl}
use Rattle.std.specs.List.{range_with_len}
use Rattle.kc_types.specs.Configuration.{Configuration}
use Rattle.kc_types.specs.declared.version.Version.TheVariants.{One}
use Rattle.kc_types.specs.declared.call.Call.{Call}
use Rattle.kc_types.specs.declared.call.Call.TheVariants.{Take, Give, HostFault, RegisterVm, Remap, GuestRead, Drop, Clear}
use Rattle.kc_model.specs.Boot.{boot}
use Rattle.kc_model.specs.Footprints.{footprint}
use Rattle.kc_types.specs.declared.resource.Resource.TheVariants as resource
use Rattle.kc_types.specs.Configuration.{slot_count}

-- frame 0 is the core's, 1 to 4 are the host's, 5 to 7 are free
abbrev small : Configuration
small = record { version = One; frames = 8; core = 1; host = 4; leaves = 1; approved = [] }

abbrev calls : List Call
calls = RegisterVm 0 ∷ Remap 0 0 1 ∷ GuestRead 0 0 0 0 1 ∷ Clear 0 ∷ Take ∷ HostFault 1 ∷ HostFault 5 ∷ HostFault 2 ∷ []

-- frames 0 to 8, slots 0 and 1, the free list
abbrev touches : List Call → ℕ → List Bool
touches calls k = footprint (boot small) calls k (resource.Vm 0) ∷ footprint (boot small) calls k (resource.Vm 1) ∷ footprint (boot small) calls k resource.Free ∷ map (λ f. footprint (boot small) calls k (resource.Frame f)) (range_with_len 0 9)

call_0 : touches calls 0 ≡ true ∷ false ∷ false ∷ false ∷ false ∷ false ∷ false ∷ false ∷ false ∷ false ∷ false ∷ false ∷ []
unfolding slot_count
call_0 = refl

call_1 : touches calls 1 ≡ true ∷ false ∷ false ∷ false ∷ true ∷ false ∷ false ∷ false ∷ false ∷ false ∷ false ∷ false ∷ []
unfolding slot_count
call_1 = refl

call_2 : touches calls 2 ≡ true ∷ false ∷ false ∷ false ∷ true ∷ false ∷ false ∷ false ∷ false ∷ false ∷ false ∷ false ∷ []
unfolding slot_count
call_2 = refl

call_3 : touches calls 3 ≡ true ∷ false ∷ true ∷ false ∷ true ∷ false ∷ false ∷ false ∷ true ∷ true ∷ true ∷ false ∷ []
unfolding slot_count
call_3 = refl

call_4 : touches calls 4 ≡ false ∷ false ∷ true ∷ false ∷ true ∷ false ∷ false ∷ false ∷ true ∷ true ∷ true ∷ false ∷ []
unfolding slot_count
call_4 = refl

call_5 : touches calls 5 ≡ false ∷ false ∷ false ∷ false ∷ true ∷ false ∷ false ∷ false ∷ false ∷ false ∷ false ∷ false ∷ []
unfolding slot_count
call_5 = refl

call_6 : touches calls 6 ≡ false ∷ false ∷ false ∷ false ∷ false ∷ false ∷ false ∷ false ∷ true ∷ false ∷ false ∷ false ∷ []
unfolding slot_count
call_6 = refl

-- a call that names nothing that exists touches nothing, and a call on a slot that does not exist only the free list
absent_frame : touches (HostFault 8 ∷ []) 0 ≡ false ∷ false ∷ false ∷ false ∷ false ∷ false ∷ false ∷ false ∷ false ∷ false ∷ false ∷ false ∷ []
unfolding slot_count
absent_frame = refl

absent_slot : touches (Drop 16 0 0 ∷ []) 0 ≡ false ∷ false ∷ true ∷ false ∷ false ∷ false ∷ false ∷ false ∷ true ∷ true ∷ true ∷ false ∷ []
unfolding slot_count
absent_slot = refl

absent_gift : touches (Take ∷ Drop 16 0 0 ∷ Give 9 ∷ []) 2 ≡ false ∷ false ∷ true ∷ false ∷ false ∷ false ∷ false ∷ false ∷ true ∷ true ∷ true ∷ false ∷ []
unfolding slot_count
absent_gift = refl
