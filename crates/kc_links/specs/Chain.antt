-- Links that lead from frame to frame, forwards and backwards.
use Rattle.std.specs.Prelude.{ℕ, zero, suc, ◌≡◌, ◌==◌, List, [], ◌∷◌, Option, Some, None, IsSome, if◌then◌else◌}
use Rattle.kc_types.specs.declared.link.Link.{Link}

-- the links of the frames that a store holds
abbrev pub Links : Type 0
Links = ℕ → Option Link

-- the link of a frame in no list
abbrev pub unlinked : Link
unlinked = record { prev = None; next = None }

-- the frame is there
abbrev pub Holds : Links → Option ℕ → Type 0
Holds links None = Unit {0}
Holds links (Some f) = IsSome (links f)

abbrev pub with_link : Links → ℕ → Link → Links
with_link links f link = λ other. if other == f then Some link else links other

abbrev pub or_unlinked : Option Link → Link
or_unlinked None = unlinked
or_unlinked (Some link) = link

-- the links with another frame after the given one, or before it
abbrev pub pointing_forward : Links → Option ℕ → Option ℕ → Links
pointing_forward links None next = links
pointing_forward links (Some f) next = with_link links f (record (or_unlinked (links f)) { next = next })

abbrev pub pointing_back : Links → Option ℕ → Option ℕ → Links
pointing_back links None prev = links
pointing_back links (Some f) prev = with_link links f (record (or_unlinked (links f)) { prev = prev })

-- the first and the last of a list, or the given frame for an empty list
abbrev pub first_or : Option ℕ → List ℕ → Option ℕ
first_or after [] = after
first_or after (f ∷ fs) = Some f

abbrev pub last_or : Option ℕ → List ℕ → Option ℕ
last_or before [] = before
last_or before (f ∷ fs) = last_or (Some f) fs

-- each frame's link names its neighbours; `before` precedes the first frame, and `after` follows the last
abbrev pub NamesNeighbours : Links → Option ℕ → List ℕ → Option ℕ → Type 0
NamesNeighbours links before [] after = Unit {0}
NamesNeighbours links before (f ∷ fs) after = (links f ≡ Some (record { prev = before; next = first_or after fs })) × NamesNeighbours links (Some f) fs after

abbrev pub next_of : Option Link → Option ℕ
next_of None = None
next_of (Some link) = link.next

-- the frames that the links lead to from one on, if this many are left
abbrev pub spelled : Links → ℕ → Option ℕ → List ℕ
spelled links zero at = []
spelled links (suc n) None = []
spelled links (suc n) (Some f) = f ∷ spelled links n (next_of (links f))
