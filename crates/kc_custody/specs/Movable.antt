-- The frames whose custody a call may change, by what it names and what is there.
use Rattle.std.specs.Prelude.{ℕ, ◌||◌, nat_lt, nat_le, List, [], ◌∷◌, if◌then◌else◌}
use Rattle.std.specs.List.{range_with_len, filter_map}
use Rattle.std.specs.Option.{option_to_list}
use Rattle.kc_types.specs.Limits.{range_limit}
use Rattle.kc_types.specs.Configuration.{gfns_of, slot_count}
use Rattle.kc_types.specs.declared.call.Call.{Call}
use Rattle.kc_types.specs.declared.call.Call.TheVariants.{Take, Give, HostFault, Remap, Map, Grant, Revoke, GrantRange, RevokeRange, Drop, Clear}
use Rattle.kc_model.specs.State.{State, slot_at, mapped_at}
use Rattle.kc_model.specs.Links.{first_of}

-- the frames at guest frames of a range that a call may name
abbrev pub mapped_in : State → ℕ → ℕ → ℕ → List ℕ
mapped_in m v g n = if nat_lt range_limit n || nat_le (gfns_of m.config.version) g then [] else filter_map (λ h. mapped_at m v h) (range_with_len g n)

-- the list of a slot that exists
abbrev pub listed_of : State → ℕ → List ℕ
listed_of m v = if nat_lt v (slot_count m.config) then (slot_at m v).frames else []

abbrev pub movable : State → Call → List ℕ
movable m Take = option_to_list (first_of m.free)
movable m (Give f) = f ∷ []
movable m (HostFault f) = f ∷ []
movable m (Remap v i f) = f ∷ []
movable m (Map v c f) = f ∷ []
movable m (Grant v c g) = option_to_list (mapped_at m v g)
movable m (Revoke v c g) = option_to_list (mapped_at m v g)
movable m (GrantRange v c g n) = mapped_in m v g n
movable m (RevokeRange v c g n) = mapped_in m v g n
movable m (Drop v c g) = option_to_list (mapped_at m v g)
movable m (Clear v) = listed_of m v
movable m _ = []
