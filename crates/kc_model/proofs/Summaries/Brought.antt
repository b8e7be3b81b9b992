-- What is common to all lives: from a place on a life says what it should, if events before that bring its VM exactly
-- the frames that it has there.
use Rattle.std.proofs.Common.{ℕ, ◌≡◌, ◌<◌, ◌≤◌, ◌+◌, ◌-◌, ◌||◌, ◌⊎◌, Bool, List, ◌++◌, length, All, Option, Some, None, sym, ap, subst, ◌∙◌, arith}
use Rattle.std.specs.List.{list_any, range_with_len}
use Rattle.std.proofs.Math.Bool.{or_comm}
use Rattle.std.proofs.lemmas.List.Sums.{length-filter}
use Rattle.std.proofs.lemmas.List.Elements.{All-append, All-weaker, filter_map-append}
use Rattle.kc_types.specs.Configuration.{slot_count}
use Rattle.kc_types.specs.declared.call.Call.{Call}
use Rattle.kc_types.specs.declared.slot.Phase.TheVariants.{Empty, Active, Dead}
use Rattle.kc_types.specs.declared.custody.Event.{Event}
use Rattle.kc_types.specs.declared.custody.Life.{Life}
use Rattle.kc_model.specs.State.{State}
use Rattle.kc_model.specs.Lawful.{IsLawful}
use Rattle.kc_model.specs.Resources.{is_in}
use Rattle.kc_model.specs.Lives.{is_gain, is_loss, is_read, is_write, line_of_turn, measurement_told, count_different, frame_gained, frames_gained, most_beyond, sharings}
use Rattle.kc_model.specs.Summaries.{last_place, listed_at, owns_at, IsFirstIn, IsLived}
use Rattle.kc_model.proofs.Custody.Ordered.{in-range}
use Rattle.kc_model.proofs.Summaries.Counts.{count, count-append, count-same, is_in-both, different}
use Rattle.kc_model.proofs.Summaries.Stretches.{most-gained}
use Rattle.kc_model.proofs.Summaries.Lives.{IsLife}

-- a life by its events, those of its end among them, and by all events after its first
abbrev pub life_by : ℕ → ℕ → List Event → List Event → Life
life_by v line told more = record {
  vm = v;
  registered = line;
  active = line_of_turn v Active told;
  dead = line_of_turn v Dead told;
  cleared = line_of_turn v Empty told;
  measurement = measurement_told v told;
  frames = count_different (frames_gained v told);
  most = most_beyond v told;
  left = count (is_gain v) told - count (is_loss v) told;
  returned = count (is_loss v) told;
  reads = count (is_read v) told;
  writes = count (is_write v) told;
  shared = sharings v more;
}

module _ (m : State) (calls : List Call) (v : ℕ) where
  -- events that bring the VM the frames that it has at a place, and count nothing else
  pub record Brings (k : ℕ) (first : List Event) : Type 0 where
    pub gains : count (is_gain v) first ≡ listed_at m calls v k
    pub losses : count (is_loss v) first ≡ 0
    pub reads : count (is_read v) first ≡ 0
    pub writes : count (is_write v) first ≡ 0
    pub frames : (f : ℕ) → f < m.config.frames → is_in (frames_gained v first) f ≡ owns_at m calls v f k
    pub within : All (λ f. f < m.config.frames) (frames_gained v first)

  -- the lines on which events say that the slot turned are those of its states
  pub record AreTurns (k : ℕ) (end : Option ℕ) (told : List Event) : Type 0 where
    pub cleared : line_of_turn v Empty told ≡ end
    pub active : IsFirstIn m calls v Active k (last_place calls end) (line_of_turn v Active told)
    pub dead : IsFirstIn m calls v Dead k (last_place calls end) (line_of_turn v Dead told)
    pub once : (line_of_turn v Active told ≡ None) ⊎ (line_of_turn v Dead told ≡ None)

module _ (m : State) (calls : List Call) (is : IsLawful m) (v : ℕ) (low : v < slot_count m.config) where
  -- a life's last place is in the trace
  last-within : (i : ℕ) (line : Option ℕ) → IsFirstIn m calls v Empty i (length calls) line → last_place calls line ≤ length calls
  last-within i None first = omega arith
  last-within i (Some line) first = first.1

  skipped : (test : Event → Bool) (first rest : List Event) → count test first ≡ 0 → count test (first ++ rest) ≡ count test rest
  skipped test first rest none = count-append test first rest ∙ omega (arith, none)

  pub lived : (line k : ℕ) (first rest more : List Event) (end : Option ℕ) → Brings m calls v k first → IsLife m calls is v low k rest end → AreTurns m calls v k end (first ++ rest)
      → IsLived m calls (life_by v line (first ++ rest) more) k (last_place calls end)
  lived line k first rest more end brings life turns =
      let tells = life.tells in
      let told = first ++ rest in
      let N = m.config.frames in
      let gains = count-append (is_gain v) first rest in
      let losses = skipped (is_loss v) first rest brings.losses in
      let brought = brings.gains in
      let most = most-gained v first rest brings.losses in
      let ever : ℕ → Bool = λ f. list_any (owns_at m calls v f) (range_with_len k (last_place calls end + 1 - k)) in
      let parts = filter_map-append (frame_gained v) first rest in
      let below : All (λ f. f < N) (frames_gained v told) = subst (λ (fs : List ℕ). All (λ f. f < N) fs) (sym parts) (All-append (λ f. f < N) (frames_gained v first) (frames_gained v rest) brings.within tells.within) in
      record {
        stretch = record { begins = tells.begins; ends = last-within k end life.cleared };
        active = turns.active;
        dead = turns.dead;
        cleared = subst (λ line. IsFirstIn m calls v Empty k (length calls) line) (sym turns.cleared) life.cleared;
        once = turns.once;
        frames =
            different (frames_gained v told) N below
            ∙ count-same (is_in (frames_gained v told)) ever (range_with_len 0 N)
            (All-weaker (λ f. (0 ≤ f) × (f < 0 + N)) (λ f. is_in (frames_gained v told) f ≡ ever f)
            (λ f low.
            let within : f < N = omega (arith, low.1) in
            ap (λ (fs : List ℕ). is_in fs f) parts ∙ is_in-both (frames_gained v first) (frames_gained v rest) f
            ∙ ap (λ b. b || is_in (frames_gained v rest) f) (brings.frames f within)
            ∙ or_comm (owns_at m calls v f k) (is_in (frames_gained v rest) f) ∙ tells.gains f within)
            (range_with_len 0 N) (in-range 0 N))
            ∙ length-filter ever (range_with_len 0 N);
        most = record {
          no_more = λ n from to. let all = tells.no_more n from to in omega (arith, all, most, brought);
          as_many = let at = tells.as_many in let all = at.3 in (at.0, at.1, at.2, omega (arith, all, most, brought));
        };
        left = let balance = tells.balance in omega (arith, balance, gains, losses, brought);
        returned = losses ∙ tells.losses;
        reads = skipped (is_read v) first rest brings.reads ∙ tells.reads;
        writes = skipped (is_write v) first rest brings.writes ∙ tells.writes;
      }
