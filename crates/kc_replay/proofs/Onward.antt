-- One wave after another.
use Rattle.std.proofs.Common.{ℕ, zero, suc, ◌≡◌, ◌≢◌, ◌<◌, ◌≤◌, ◌⊎◌, inl, inr, Bool, true, false, ◌||◌, ◌==◌, eq-eqb, List, [], ◌∷◌, ◌++◌, length, get_or, take, drop, set, ◌+◌, refl, sym, ap, subst, ◌∙◌, arith}
use Rattle.std.specs.Prelude.{slice_index_or}
use Rattle.std.proofs.lemmas.Bool.{cases_eq, cases_lt, ne_eqb, false_from_ne_true}
use Rattle.std.proofs.Math.Seq.{take-append_seam}
use Rattle.std.proofs.lemmas.List.{get_or-set_same, get_or-set_other}
use Rattle.kc_types.specs.declared.call.Call.{Call}
use Rattle.kc_types.specs.declared.reply.Reply.{Reply}
use Rattle.kc_types.specs.declared.reply.Reply.TheVariants.{Done}
use Rattle.kc_model.specs.State.{State}
use Rattle.kc_model.specs.Lawful.{IsLawful}
use Rattle.kc_model.specs.Resources.{Resource, Resources}
use Rattle.kc_model.specs.Next.{next, replies_from, state_after}
use Rattle.kc_model.specs.Footprints.{call_at, state_at, reply_at, footprint}
use Rattle.kc_model.proofs.States.Places.{state_at-rest}
use Rattle.kc_model.proofs.Lawful.Keeps.{lawful-next}
use Rattle.kc_footprints.specs.Order.{IsPlan}
use Rattle.kc_footprints.specs.Reorder.{with_number, IsDue, IsTaken}
use Rattle.kc_footprints.proofs.Reorders.{due_by_wave}
use Rattle.kc_footprints.specs.Commuting.{IsWaves}
use Rattle.kc_footprints.specs.Reordering.{after_order, AnswersAlike}
use Rattle.kc_footprints.proofs.Reordered.{alike, is_order_free}
use Rattle.kc_replay.specs.Wave.{IsWave, AreReplied, wave_calls}
use Rattle.kc_footprints.specs.Plan.{AreCallNumbers, AreCallsOf}
use Rattle.kc_replay.proofs.Ready.{config-order, apart-in-wave}

-- the calls of the waves up to w are made, in whatever order, and their replies are in their places
pub record IsUpTo (m : State) (calls : List Call) (wave : ℕ → ℕ) (w : ℕ) (store : State) (replies : List Reply) : Type 0 where
  pub order : List ℕ
  pub done : ℕ → Bool
  pub taken : IsTaken (footprint m calls) (length calls) (λ j. false) order done
  pub below : (j : ℕ) → j < length calls → wave j ≤ w → done j ≡ true
  pub above : (j : ℕ) → j < length calls → done j ≡ true → wave j ≤ w
  pub state : store ≡ after_order calls m order
  pub replied : (k : ℕ) → k < length calls → wave k ≤ w → slice_index_or replies k Done ≡ reply_at m calls k
  pub size : length replies ≡ length calls

either-true : (b d : Bool) → d ≡ true → (b || d) ≡ true
either-true true d e = refl
either-true false d e = e

-- a set with one more number has what it had
done-kept : (done : ℕ → Bool) (k j : ℕ) → done j ≡ true → with_number k done j ≡ true
done-kept done k j e = either-true (j == k) (done j) e

done-this : (done : ℕ → Bool) (k : ℕ) → with_number k done k ≡ true
done-this done k = by_place (cases_eq k k)
  where
    by_place : ((k ≡ k) ⊎ (k ≢ k)) → with_number k done k ≡ true
    by_place (inl same) = let e = eq-eqb k k same in rw e refl
    by_place (inr other) = absurd (other refl)

done-other : (done : ℕ → Bool) (k j : ℕ) → j ≢ k → with_number k done j ≡ done j
done-other done k j other = let differ = ne_eqb j k other in rw differ refl

-- the set with all these numbers added
pub done_after : List ℕ → (ℕ → Bool) → ℕ → Bool
done_after [] done = done
done_after (k ∷ ks) done = done_after ks (with_number k done)

after-kept : (ks : List ℕ) (done : ℕ → Bool) (j : ℕ) → done j ≡ true → done_after ks done j ≡ true
unfolding done_after
after-kept [] done j e = e
after-kept (k ∷ ks) done j e = after-kept ks (with_number k done) j (done-kept done k j e)

after-has : (ks : List ℕ) (done : ℕ → Bool) (i : ℕ) → i < length ks → done_after ks done (get_or ks i 0) ≡ true
unfolding done_after
after-has [] done i low = absurd (omega (arith, low))
after-has (k ∷ ks) done zero low = after-kept ks (with_number k done) k (done-this done k)
after-has (k ∷ ks) done (suc i) low = after-has ks (with_number k done) i (omega (arith, low))

after-only : (ks : List ℕ) (done : ℕ → Bool) (j : ℕ) → done_after ks done j ≡ true → (done j ≡ true) ⊎ ((i : ℕ) × (i < length ks) × (get_or ks i 0 ≡ j))
unfolding done_after
after-only [] done j e = inl e
after-only (k ∷ ks) done j e = by_rest (after-only ks (with_number k done) j e)
  where
    by_place : with_number k done j ≡ true → ((j ≡ k) ⊎ (j ≢ k)) → (done j ≡ true) ⊎ ((i : ℕ) × (i < suc (length ks)) × (get_or (k ∷ ks) i 0 ≡ j))
    by_place is (inl same) = inr (0, omega arith, sym same)
    by_place is (inr other) = inl (sym (done-other done k j other) ∙ is)

    by_rest : ((with_number k done j ≡ true) ⊎ ((i : ℕ) × (i < length ks) × (get_or ks i 0 ≡ j))) → (done j ≡ true) ⊎ ((i : ℕ) × (i < suc (length ks)) × (get_or (k ∷ ks) i 0 ≡ j))
    by_rest (inl is) = by_place is (cases_eq j k)
    by_rest (inr at) = inr (suc at.0, (let low = at.1 in omega (arith, low)), at.2)

module _ {Res : Type 0} (touches : ℕ → Res → Bool) (n : ℕ) where
  -- calls made after others
  pub taken-more : (done mid final : ℕ → Bool) (order more : List ℕ) → IsTaken touches n done order mid → IsTaken touches n mid more final → IsTaken touches n done (order ++ more) final
  taken-more done mid final [] more same onward = subst (λ (d : ℕ → Bool). IsTaken touches n d more final) same onward
  taken-more done mid final (k ∷ ks) more due onward = (due.0, taken-more (with_number k done) mid final ks more due.1 onward)

  -- the calls of a wave come after those of all lower waves, in whatever order
  pub wave-taken : (wave : ℕ → ℕ) (w : ℕ) → IsPlan touches wave n → (ks : List ℕ) (done : ℕ → Bool) → AreCallNumbers n ks → ((i : ℕ) → i < length ks → wave (get_or ks i 0) ≡ w)
      → ((i : ℕ) → i < length ks → done (get_or ks i 0) ≡ false) → ((j : ℕ) → j < n → wave j < w → done j ≡ true) → ((j : ℕ) → j < n → done j ≡ true → wave j ≤ w)
      → IsTaken touches n done ks (done_after ks done)
  unfolding done_after
  wave-taken wave w plan [] done numbers same fresh lower higher = refl
  wave-taken wave w plan (k ∷ ks) done numbers same fresh lower higher = (
    due_by_wave touches wave n done k plan (record {
      within = numbers.within 0 (omega arith);
      fresh = fresh 0 (omega arith);
      lower = λ j low up. let is : wave k ≡ w = same 0 (omega arith) in lower j low (omega (arith, up, is));
      no_higher = λ j low is. let at : wave k ≡ w = same 0 (omega arith) in let le = higher j low is in omega (arith, le, at);
    }),
    wave-taken wave w plan ks (with_number k done)
        (record {
          within = λ i low. numbers.within (suc i) (omega (arith, low));
          once = λ i j il jl differ. numbers.once (suc i) (suc j) (omega (arith, il)) (omega (arith, jl)) (λ e. differ (omega (arith, e)));
        })
        (λ i low. same (suc i) (omega (arith, low)))
        (λ i low. done-other done k (get_or ks i 0) (numbers.once (suc i) 0 (omega (arith, low)) (omega arith) (λ e. absurd (omega (arith, e)))) ∙ fresh (suc i) (omega (arith, low)))
        (λ j low up. done-kept done k j (lower j low up))
        (λ j low is. still j low is (cases_eq j k)),
  )
    where
      still : (j : ℕ) → j < n → with_number k done j ≡ true → ((j ≡ k) ⊎ (j ≢ k)) → wave j ≤ w
      still j low is (inl at) = let e : wave j ≡ w = ap wave at ∙ same 0 (omega arith) in omega (arith, e)
      still j low is (inr other) = higher j low (sym (done-other done k j other) ∙ is)

after-more : (calls : List Call) (store : State) (order more : List ℕ) → after_order calls store (order ++ more) ≡ after_order calls (after_order calls store order) more
after-more calls store [] more = refl
after-more calls store (k ∷ ks) more = after-more calls (next store (call_at calls k)).1 ks more

after-wave : (calls : List Call) (store : State) (ks : List ℕ) → state_at store (wave_calls calls ks) (length ks) ≡ after_order calls store ks
after-wave calls store [] = refl
after-wave calls store (k ∷ ks) = state_at-rest store (call_at calls k) (wave_calls calls ks) (length ks) ∙ after-wave calls (next store (call_at calls k)).1 ks

lawful-taken : {Res : Type 0} (touches : ℕ → Res → Bool) (calls : List Call) (order : List ℕ) (done final : ℕ → Bool) (store : State) → IsTaken touches (length calls) done order final → IsLawful store
    → IsLawful (after_order calls store order)
lawful-taken touches calls [] done final store same is = is
lawful-taken touches calls (k ∷ ks) done final store due is =
    lawful-taken touches calls ks (with_number k done) final (next store (call_at calls k)).1 due.1 (lawful-next store (call_at calls k) is)

-- the replies of a wave's calls are those of the trace
alike-get : (m : State) (calls : List Call) (store : State) (ks : List ℕ) → AnswersAlike m calls store ks → (i : ℕ) → i < length ks → reply_at store (wave_calls calls ks) i ≡ reply_at m calls (get_or ks i 0)
alike-get m calls store [] same i low = absurd (omega (arith, low))
alike-get m calls store (k ∷ ks) same zero low = same.0
alike-get m calls store (k ∷ ks) same (suc i) low =
    ap (λ (s : State). (next s (call_at (wave_calls calls ks) i)).0) (state_at-rest store (call_at calls k) (wave_calls calls ks) i) ∙ alike-get m calls (next store (call_at calls k)).1 ks same.1 i (omega (arith, low))

same-replies : (m : State) (calls : List Call) (replies : List Reply) → length replies ≡ length calls → ((k : ℕ) → k < length calls → get_or replies k Done ≡ reply_at m calls k) → replies ≡ replies_from m calls
same-replies m [] [] size each = refl
same-replies m [] (r ∷ rs) size each = cc
same-replies m (c ∷ cs) [] size each = cc
same-replies m (c ∷ cs) (r ∷ rs) size each =
    ap (λ (x : Reply). x ∷ rs) (each 0 (omega arith))
    ∙ ap (λ (xs : List Reply). (next m c).0 ∷ xs)
    (same-replies (next m c).1 cs rs (omega (arith, size)) (λ k low. each (suc k) (omega (arith, low)) ∙ ap (λ (s : State). (next s (call_at cs k)).0) (state_at-rest m c cs k)))

pub up-to-config : (m : State) (calls : List Call) (wave : ℕ → ℕ) (w : ℕ) (store : State) (replies : List Reply) → IsUpTo m calls wave w store replies → store.config ≡ m.config
up-to-config m calls wave w store replies up = ap (λ (s : State). s.config) up.state ∙ config-order calls m up.order

module _ (m : State) (calls : List Call) (is : IsLawful m) (wave : ℕ → ℕ) (plan : IsWaves m calls wave) where
  -- no call is done
  pub up-to-none : (replies : List Reply) → length replies ≡ length calls → IsUpTo m calls wave 0 m replies
  up-to-none replies size = record {
    order = [];
    done = λ j. false;
    taken = refl;
    below = λ j low le. let first = (plan j low).reached.2 in absurd (omega (arith, le, first));
    above = λ j low e. cc;
    state = refl;
    replied = λ k low le. let first = (plan k low).reached.2 in absurd (omega (arith, le, first));
    size = size;
  }

  -- all calls are done
  pub up-to-all : (w : ℕ) (store : State) (replies : List Reply) → ((k : ℕ) → k < length calls → wave k ≤ w) → IsUpTo m calls wave w store replies → (replies ≡ replies_from m calls) × (store ≡ state_after m calls)
  up-to-all w store replies last up = (
    same-replies m calls replies up.size (λ k low. up.replied k low (last k low)),
    up.state ∙ (is_order_free m calls up.order is (record { final = up.done; taken = up.taken; all = λ j low. up.below j low (last j low) })).1,
  )

  module _ (footprints : ℕ → Resources) (are_footprints : (k : ℕ) (r : Resource) → k < length calls → footprints k r ≡ footprint m calls k r) (w : ℕ) (store : State) (replies : List Reply) (up : IsUpTo m calls wave w store replies)
      (members : List ℕ) (are : AreCallsOf wave (length calls) (suc w) members) where
    fresh : (j : ℕ) → j < length calls → wave j ≡ suc w → up.done j ≡ false
    fresh j low at = false_from_ne_true (up.done j) (λ did. let le = up.above j low did in omega (arith, le, at))

    fresh-at : (i : ℕ) → i < length members → up.done (get_or members i 0) ≡ false
    fresh-at i low = fresh (get_or members i 0) (are.calls.within i low) (are.same i low)

    lower : (j : ℕ) → j < length calls → wave j < suc w → up.done j ≡ true
    lower j low less = up.below j low (omega (arith, less))

    higher : (j : ℕ) → j < length calls → up.done j ≡ true → wave j ≤ suc w
    higher j low did = let le = up.above j low did in omega (arith, le)

    due-at : (i : ℕ) → i < length members → IsDue (footprint m calls) (length calls) up.done (get_or members i 0)
    due-at i low =
        let at = are.same i low in
        due_by_wave (footprint m calls) wave (length calls) up.done (get_or members i 0) plan (record {
          within = are.calls.within i low;
          fresh = fresh-at i low;
          lower = λ j below less. lower j below (omega (arith, less, at));
          no_higher = λ j below did. let le = higher j below did in omega (arith, le, at);
        })

    -- the calls of the next wave can be made side by side
    pub wave-next : IsWave store calls footprints members
    wave-next = subst (λ (s : State). IsWave s calls footprints members) (sym up.state) (record {
      lawful = lawful-taken (footprint m calls) calls up.order (λ j. false) up.done m up.taken is;
      within = are.calls.within;
      apart = apart-in-wave m calls is wave up.order up.done footprints members (suc w) plan up.taken due-at are.same are.calls.once are_footprints;
      once = are.calls.once;
    })

    taken-next : IsTaken (footprint m calls) (length calls) up.done members (done_after members up.done)
    taken-next = wave-taken (footprint m calls) (length calls) wave (suc w) plan members up.done are.calls are.same fresh-at lower higher

    by_member : (k : ℕ) → ((i : ℕ) × (i < length members) × (get_or members i 0 ≡ k)) → done_after members up.done k ≡ true
    by_member k at = subst (λ (x : ℕ). done_after members up.done x ≡ true) at.2 (after-has members up.done at.0 at.1)

    below-next : (j : ℕ) → j < length calls → ((wave j < suc w) ⊎ (suc w ≤ wave j)) → wave j ≤ suc w → done_after members up.done j ≡ true
    below-next j low (inl less) le = after-kept members up.done j (lower j low less)
    below-next j low (inr more) le = by_member j (are.all j low (omega (arith, more, le)))

    above-next : (j : ℕ) → j < length calls → ((up.done j ≡ true) ⊎ ((i : ℕ) × (i < length members) × (get_or members i 0 ≡ j))) → wave j ≤ suc w
    above-next j low (inl did) = higher j low did
    above-next j low (inr at) = let e : wave j ≡ suc w = ap wave (sym at.2) ∙ are.same at.0 at.1 in omega (arith, e)

    -- the calls of the next wave are made
    pub up-to-next : (after : State) (given : List Reply) → AreReplied store calls members replies given → after ≡ state_at store (wave_calls calls members) (length members) → IsUpTo m calls wave (suc w) after given
    up-to-next after given replied end = record {
      order = up.order ++ members;
      done = done_after members up.done;
      taken = taken-more (footprint m calls) (length calls) (λ j. false) up.done (done_after members up.done) up.order members up.taken taken-next;
      below = λ j low le. below-next j low (cases_lt (wave j) (suc w)) le;
      above = λ j low did. above-next j low (after-only members up.done j did);
      state = end ∙ after-wave calls store members ∙ ap (λ (s : State). after_order calls s members) up.state ∙ sym (after-more calls m up.order members);
      replied = λ k low le. by_wave k low le (cases_lt (wave k) (suc w));
      size = replied.size ∙ up.size;
    }
      where
        given-at : (k : ℕ) → ((i : ℕ) × (i < length members) × (get_or members i 0 ≡ k)) → get_or given k Done ≡ reply_at m calls k
        given-at k at =
            subst (λ (x : ℕ). get_or given x Done ≡ reply_at m calls x) at.2
            (replied.given at.0 at.1 ∙ ap (λ (s : State). reply_at s (wave_calls calls members) at.0) up.state
            ∙ alike-get m calls (after_order calls m up.order) members (alike m calls is up.order members up.done (done_after members up.done) up.taken taken-next) at.0 at.1)

        by_wave : (k : ℕ) → k < length calls → wave k ≤ suc w → ((wave k < suc w) ⊎ (suc w ≤ wave k)) → get_or given k Done ≡ reply_at m calls k
        by_wave k low le (inl less) =
            replied.kept k (λ i at e. let is : wave k ≡ suc w = ap wave (sym e) ∙ are.same i at in omega (arith, less, is)) ∙ up.replied k low (omega (arith, less))
        by_wave k low le (inr more) = given-at k (are.all k low (omega (arith, more, le)))

module _ (m : State) (calls : List Call) (members : List ℕ) (numbers : AreCallNumbers (length calls) members) (replies : List Reply) (place : ℕ) (reply : Reply) (low : place < length members) (size : length replies ≡ length calls) where
  -- the reply to one more call of a wave
  pub given-more : reply ≡ reply_at m (wave_calls calls members) place → ((i : ℕ) → i < place → i < length members → get_or replies (get_or members i 0) Done ≡ reply_at m (wave_calls calls members) i)
      → (i : ℕ) → i < place + 1 → i < length members → get_or (set replies (get_or members place 0) reply) (get_or members i 0) Done ≡ reply_at m (wave_calls calls members) i
  given-more is before i less below = by_place (cases_eq i place)
    where
      by_place : ((i ≡ place) ⊎ (i ≢ place)) → get_or (set replies (get_or members place 0) reply) (get_or members i 0) Done ≡ reply_at m (wave_calls calls members) i
      by_place (inl same) = rw same (get_or-set_same replies (get_or members place 0) reply Done (let l = numbers.within place low in omega (arith, l, size)) ∙ is)
      by_place (inr other) = get_or-set_other replies (get_or members place 0) (get_or members i 0) reply Done (numbers.once i place below low other) ∙ before i (omega (arith, less, other)) below

  pub given-kept : (k : ℕ) → ((i : ℕ) → i < length members → get_or members i 0 ≢ k) → get_or (set replies (get_or members place 0) reply) k Done ≡ get_or replies k Done
  given-kept k none = get_or-set_other replies (get_or members place 0) k reply Done (λ e. none place low (sym e))

pub state-one : (m : State) (calls : List Call) (k : ℕ) → state_at m calls (k + 1) ≡ (next (state_at m calls k) (call_at calls k)).1
state-one m calls k = let e : k + 1 ≡ suc k = omega arith in rw e refl

-- the numbers of a wave's calls
pub numbers_of : (m : State) (calls : List Call) (footprints : ℕ → Resources) (members : List ℕ) → IsWave m calls footprints members → AreCallNumbers (length calls) members
numbers_of m calls footprints members wave = record { within = wave.within; once = wave.once }

-- a list that was written over as a whole
pub written-whole : {X : Type 0} (xs ys : List X) (n : ℕ) → n ≡ length xs → take n (xs ++ drop (length xs) ys) ≡ xs
written-whole xs ys n e = rw e (take-append_seam xs (drop (length xs) ys))
