-- Parts that are all of a lawful state's are linked, and are seen as the state.
use Rattle.std.proofs.Common.{ℕ, suc, ◌≡◌, ◌<◌, true, nat_lt, Bool, List, [], ◌∷◌, length, refl, sym, ◌∙◌, arith}
use Rattle.std.proofs.lemmas.Bool.{lt-ltb}
use Rattle.kc_types.specs.Configuration.{slot_count}
use Rattle.kc_types.specs.declared.owner.Owner.{Owner}
use Rattle.kc_types.specs.declared.owner.Owner.TheVariants.{Core, Host, Free, Vm}
use Rattle.kc_model.specs.State.{State, frame_at, untouched, no_slot}
use Rattle.kc_model.specs.Lawful.{IsLawful}
use Rattle.kc_model.specs.Resources.{Resource, is_in, pick}
use Rattle.kc_model.specs.Local.{cut}
use Rattle.kc_model.specs.Links.{list_of}
use Rattle.kc_model.proofs.States.Changes.{exists}
use Rattle.kc_model.proofs.Local.Orderly.{owned-is}
use Rattle.kc_parts.specs.Parts.{Held}
use Rattle.kc_parts.specs.States.{state_of, here_of, IsLinked}
use Rattle.kc_parts.specs.Restricted.{exists_in, IsRestricted, IsClosed}
use Rattle.kc_parts.proofs.Restricting.{linked-cut, state-cut, here-is}

-- a listed frame exists
listed-low : (m : State) → IsLawful m → (p : Owner) (f : ℕ) → is_in (list_of m p) f ≡ true → f < m.config.frames
listed-low m is Core f inside = cc
listed-low m is Host f inside = cc
listed-low m is Free f inside = rw is.frames at (exists m f (λ core. let own : (frame_at m f).owner ≡ Free = owned-is m is Free f inside in let no = sym core ∙ own in cc))
listed-low m is (Vm v) f inside = rw is.frames at (exists m f (λ core. let own : (frame_at m f).owner ≡ Vm v = owned-is m is (Vm v) f inside in let no = sym core ∙ own in cc))

pick-whole : {X : Type 0} (test : ℕ → Bool) (d : X) (xs : List X) → ((i : ℕ) → i < length xs → test i ≡ true) → pick test d xs [] ≡ xs
pick-whole test d [] all = refl
pick-whole test d (x ∷ xs) all = rw (all 0 (omega arith), pick-whole (λ i. test (suc i)) d xs (λ i low. all (suc i) (omega (arith, low)))) refl

-- the cut of everything is the state
cut-whole : (m : State) → IsLawful m → cut m (exists_in m.config) ≡ m
cut-whole m is = λ i. record {
  config = m.config;
  frames = pick-whole (λ f. nat_lt f m.config.frames) (untouched Core) m.frames (λ f low. lt-ltb f m.config.frames (rw is.frames at low)) i;
  free = m.free;
  slots = pick-whole (λ v. nat_lt v (slot_count m.config)) no_slot m.slots (λ v low. lt-ltb v (slot_count m.config) (rw is.slots at low)) i;
}

module _ (m : State) (h : Held) (lawful : IsLawful m) (restricted : IsRestricted m (exists_in m.config) h) where
  closed : IsClosed m (exists_in m.config)
  closed = record { exist = λ r e. e; lists = λ p f ends inside. lt-ltb f m.config.frames (listed-low m lawful p f inside) }

  pub linked-again : IsLinked m.config h
  linked-again = linked-cut m (exists_in m.config) h lawful closed restricted

  pub state-again : state_of m.config h ≡ m
  state-again = state-cut m (exists_in m.config) h lawful closed restricted ∙ cut-whole m lawful

  -- what is here is what exists
  pub here-again : (r : Resource) → here_of h r ≡ exists_in m.config r
  here-again = here-is m (exists_in m.config) h lawful closed restricted
