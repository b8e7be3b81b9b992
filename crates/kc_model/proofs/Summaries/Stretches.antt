-- What the events of a stretch of calls count, put together call by call.
use Rattle.std.proofs.Common.{ℕ, suc, ◌≡◌, ◌≤◌, ◌+◌, ◌-◌, ◌⊎◌, inl, inr, Bool, true, false, cond, not, ◌&&◌, ◌||◌, ◌<◌, subst, List, [], ◌∷◌, ◌++◌, All, refl, sym, ap, ap₂, ◌∙◌, arith}
use Rattle.std.specs.List.{range_with_len}
use Rattle.std.proofs.lemmas.Bool.{cases_lt}
use Rattle.std.proofs.lemmas.List.Elements.{All-nil, All-append, All-weaker, filter_map-append}
use Rattle.kc_types.specs.declared.call.Call.{Call}
use Rattle.kc_types.specs.declared.reply.Reply.{Reply}
use Rattle.kc_types.specs.declared.custody.Event.{Event}
use Rattle.kc_model.specs.State.{State}
use Rattle.kc_model.specs.Footprints.{state_at, call_at, reply_at}
use Rattle.kc_model.specs.Lives.{is_gain, is_loss, is_read, is_write, most_beyond, frame_gained, frames_gained}
use Rattle.kc_model.specs.Summaries.{listed_at, owns_at, reads_from, writes_to, calls_that, frames_that}
use Rattle.kc_model.proofs.Summaries.Counts.{count, is_in-both, sum_from, sum-none, sum-more, any_to, any-one, any-more, count-cons, count-append, count-none}
use Rattle.kc_model.proofs.Summaries.Called.{IsQuiet, CallTells, none-gained}
use Rattle.kc_model.proofs.Summaries.Owned.{all_frames, lost}
use Rattle.kc_model.proofs.States.Counts.{one_if}
use Rattle.kc_model.proofs.Footprints.Reaches.{config-at}
use Rattle.kc_model.specs.Resources.{is_in}
use Rattle.std.proofs.lemmas.List.Sums.{length-filter}

-- if the count is zero, the first element fails the test and so do the others
first-of-none : (b : Bool) (n : ℕ) → one_if b + n ≡ 0 → (b ≡ false) × (n ≡ 0)
first-of-none true n none = absurd (omega (arith, none))
first-of-none false n none = (refl, omega (arith, none))

-- events that bring no frames leave the most as it is, lowered by what they take
most-lost : (v : ℕ) (xs ys : List Event) → count (is_gain v) xs ≡ 0 → most_beyond v (xs ++ ys) ≡ most_beyond v ys - count (is_loss v) xs
most-lost v [] ys none = omega arith
most-lost v (x ∷ xs) ys none =
    let parts = first-of-none (is_gain v x) (count (is_gain v) xs) (sym (count-cons (is_gain v) x xs) ∙ none) in
    by_event (is_gain v x) (is_loss v x) parts.0 refl (most-lost v xs ys parts.1)
  where
    by_event : (gain loss : Bool) → gain ≡ false → is_loss v x ≡ loss → most_beyond v (xs ++ ys) ≡ most_beyond v ys - count (is_loss v) xs
        → cond gain (most_beyond v (xs ++ ys) + 1) (cond loss (most_beyond v (xs ++ ys) - 1) (most_beyond v (xs ++ ys))) ≡ most_beyond v ys - count (is_loss v) (x ∷ xs)
    by_event true loss other is rest = cc
    by_event false true other is rest = let all = count-cons (is_loss v) x xs ∙ ap (λ b. one_if b + count (is_loss v) xs) is in omega (arith, rest, all)
    by_event false false other is rest = let all = count-cons (is_loss v) x xs ∙ ap (λ b. one_if b + count (is_loss v) xs) is in omega (arith, rest, all)

-- events that take no frames raise the most by what they bring
pub most-gained : (v : ℕ) (xs ys : List Event) → count (is_loss v) xs ≡ 0 → most_beyond v (xs ++ ys) ≡ most_beyond v ys + count (is_gain v) xs
most-gained v [] ys none = omega arith
most-gained v (x ∷ xs) ys none =
    let parts = first-of-none (is_loss v x) (count (is_loss v) xs) (sym (count-cons (is_loss v) x xs) ∙ none) in
    by_event (is_gain v x) (is_loss v x) refl parts.0 (most-gained v xs ys parts.1)
  where
    by_event : (gain loss : Bool) → is_gain v x ≡ gain → loss ≡ false → most_beyond v (xs ++ ys) ≡ most_beyond v ys + count (is_gain v) xs
        → cond gain (most_beyond v (xs ++ ys) + 1) (cond loss (most_beyond v (xs ++ ys) - 1) (most_beyond v (xs ++ ys))) ≡ most_beyond v ys + count (is_gain v) (x ∷ xs)
    by_event true loss is other rest = let all = count-cons (is_gain v) x xs ∙ ap (λ b. one_if b + count (is_gain v) xs) is in omega (arith, rest, all)
    by_event false true is other rest = cc
    by_event false false is other rest = let all = count-cons (is_gain v) x xs ∙ ap (λ b. one_if b + count (is_gain v) xs) is in omega (arith, rest, all)

module _ (m : State) (calls : List Call) (v : ℕ) where
  -- the number of frames that the call at a place takes from the VM
  abbrev pub taken : ℕ → ℕ
  taken k = frames_that (λ f. owns_at m calls v f k && not (owns_at m calls v f (k + 1))) m

  -- what events count, by the states of a stretch from place i to j and by its replies
  pub record Tells (i j : ℕ) (told : List Event) : Type 0 where
    pub begins : i ≤ j
    pub reads : count (is_read v) told ≡ calls_that (reads_from v) m calls i j
    pub writes : count (is_write v) told ≡ calls_that (writes_to v) m calls i j
    pub balance : listed_at m calls v i + count (is_gain v) told ≡ listed_at m calls v j + count (is_loss v) told
    pub no_more : (k : ℕ) → i ≤ k → k ≤ j → listed_at m calls v k ≤ listed_at m calls v i + most_beyond v told
    pub as_many : (k : ℕ) × (i ≤ k) × (k ≤ j) × (listed_at m calls v k ≡ listed_at m calls v i + most_beyond v told)
    pub losses : count (is_loss v) told ≡ sum_from taken i j
    pub gains : (f : ℕ) → f < m.config.frames → (is_in (frames_gained v told) f || owns_at m calls v f i) ≡ any_to (owns_at m calls v f) i j
    pub within : All (λ f. f < m.config.frames) (frames_gained v told)

  -- whether a call passes the test
  abbrev does : (State → Call → Reply → Bool) → ℕ → ℕ
  does test k = one_if (test (state_at m calls k) (call_at calls k) (reply_at m calls k))

  same-frames : (k : ℕ) → all_frames (state_at m calls k) ≡ range_with_len 0 m.config.frames
  same-frames k = ap (λ config. range_with_len 0 config.frames) (config-at m calls k)

  taken-is : (k : ℕ) → count (lost (state_at m calls k) (state_at m calls (suc k)) v) (all_frames (state_at m calls k)) ≡ taken k
  taken-is k =
      let next : suc k ≡ k + 1 = omega arith in
      ap (λ n. count (lost (state_at m calls k) (state_at m calls n) v) (all_frames (state_at m calls k))) next
      ∙ ap (count (λ f. owns_at m calls v f k && not (owns_at m calls v f (k + 1)))) (same-frames k)
      ∙ length-filter (λ f. owns_at m calls v f k && not (owns_at m calls v f (k + 1))) (range_with_len 0 m.config.frames)

  -- a frame that the VM has at some time, has then or gets later
  had-or-gained : (had gets later : Bool) → (((not had && gets) || later) || had) ≡ (had || (later || gets))
  had-or-gained true gets true = refl
  had-or-gained true gets false = refl
  had-or-gained false true true = refl
  had-or-gained false true false = refl
  had-or-gained false false true = refl
  had-or-gained false false false = refl

  pub tells-none : (i : ℕ) → Tells i i []
  tells-none i = record {
    begins = omega arith;
    reads = sym (sum-none (does (reads_from v)) i);
    writes = sym (sum-none (does (writes_to v)) i);
    balance = refl;
    no_more = λ k from to. let same : k ≡ i = omega (arith, from, to) in rw same (omega arith);
    as_many = (i, omega arith, omega arith, omega arith);
    losses = sym (sum-none taken i);
    gains = λ f lt. sym (any-one (owns_at m calls v f) i);
    within = All-nil (λ f. f < m.config.frames);
  }

  -- the most is that of the first state, or that of the states after it
  most-more : (i : ℕ) (xs ys : List Event) → CallTells v (state_at m calls i) (call_at calls i) xs
      → (listed_at m calls v i + most_beyond v (xs ++ ys) ≡ listed_at m calls v (suc i) + most_beyond v ys)
      ⊎ ((most_beyond v (xs ++ ys) ≡ 0) × (listed_at m calls v (suc i) + most_beyond v ys ≤ listed_at m calls v i))
  most-more i xs ys call =
      let balance = call.balance in
      elim call.one_way [
        | inl none ↦
            let most = most-lost v xs ys none in
            elim (cases_lt (most_beyond v ys) (count (is_loss v) xs)) [
              | inl less ↦ inr (omega (arith, most, less), omega (arith, balance, none, less))
              | inr more ↦ inl (omega (arith, most, balance, none, more))
            ]
        | inr none ↦ let most = most-gained v xs ys none in inl (omega (arith, most, balance, none))
      ]

  -- a call, and the stretch after it
  pub tells-more : (i j : ℕ) (xs ys : List Event) → CallTells v (state_at m calls i) (call_at calls i) xs → Tells (suc i) j ys → Tells i j (xs ++ ys)
  tells-more i j xs ys call later =
      let begins = later.begins in
      let most = most-more i xs ys call in
      record {
        begins = omega (arith, begins);
        reads = count-append (is_read v) xs ys ∙ ap₂ ◌+◌ call.reads later.reads ∙ sym (sum-more (does (reads_from v)) i j begins);
        writes = count-append (is_write v) xs ys ∙ ap₂ ◌+◌ call.writes later.writes ∙ sym (sum-more (does (writes_to v)) i j begins);
        balance = let first = call.balance in let rest = later.balance in omega (arith, first, rest, count-append (is_gain v) xs ys, count-append (is_loss v) xs ys);
        no_more = λ k from to. elim (cases_lt i k) [
          | inl lt ↦
              let rest = later.no_more k lt to in
              elim most [
                | inl same ↦ omega (arith, rest, same)
                | inr first ↦ let none = first.0 in let less = first.1 in omega (arith, rest, none, less)
              ]
          | inr here ↦ let same : k ≡ i = omega (arith, from, here) in rw same (omega arith)
        ];
        as_many = elim most [
          | inl same ↦ let at = later.as_many in let from = at.1 in (at.0, omega (arith, from), at.2, at.3 ∙ sym same)
          | inr first ↦ let none = first.0 in (i, omega arith, omega (arith, begins), omega (arith, none))
        ];
        losses = count-append (is_loss v) xs ys ∙ ap₂ ◌+◌ (call.losses ∙ taken-is i) later.losses ∙ sym (sum-more taken i j begins);
        gains = λ f lt.
            let first = call.gains f (rw (config-at m calls i) lt) in
            let rest = later.gains f lt in
            ap (λ (fs : List ℕ). is_in fs f || owns_at m calls v f i) (filter_map-append (frame_gained v) xs ys)
            ∙ ap (λ b. b || owns_at m calls v f i) (is_in-both (frames_gained v xs) (frames_gained v ys) f ∙ ap (λ b. b || is_in (frames_gained v ys) f) first)
            ∙ had-or-gained (owns_at m calls v f i) (owns_at m calls v f (suc i)) (is_in (frames_gained v ys) f)
            ∙ ap (λ b. owns_at m calls v f i || b) rest
            ∙ sym (any-more (owns_at m calls v f) i j begins);
        within =
            let first = subst (λ config. All (λ f. f < config.frames) (frames_gained v xs)) (config-at m calls i) call.within in
            subst (λ (fs : List ℕ). All (λ f. f < m.config.frames) fs) (sym (filter_map-append (frame_gained v) xs ys))
            (All-append (λ f. f < m.config.frames) (frames_gained v xs) (frames_gained v ys) first later.within);
      }

  most-quiet : (xs ys : List Event) → All (IsQuiet v) xs → most_beyond v (xs ++ ys) ≡ most_beyond v ys
  most-quiet xs ys quiet =
      let gains = count-none (is_gain v) xs (All-weaker (IsQuiet v) (λ told. is_gain v told ≡ false) (λ told q. q.gain) xs quiet) in
      let losses = count-none (is_loss v) xs (All-weaker (IsQuiet v) (λ told. is_loss v told ≡ false) (λ told q. q.loss) xs quiet) in
      let most = most-gained v xs ys losses in
      omega (arith, most, gains)

  gained-after : (xs ys : List Event) → All (IsQuiet v) xs → frames_gained v (xs ++ ys) ≡ frames_gained v ys
  gained-after xs ys quiet =
      filter_map-append (frame_gained v) xs ys
      ∙ ap (λ (first : List ℕ). first ++ frames_gained v ys) (none-gained v xs (All-weaker (IsQuiet v) (λ told. is_gain v told ≡ false) (λ told q. q.gain) xs quiet))

  skip-quiet : (test : Event → Bool) (xs ys : List Event) → All (λ told. test told ≡ false) xs → count test (xs ++ ys) ≡ count test ys
  skip-quiet test xs ys none = let zero = count-none test xs none in count-append test xs ys ∙ omega (arith, zero)

  -- quiet events before them change nothing
  pub tells-quiet : (i j : ℕ) (xs ys : List Event) → All (IsQuiet v) xs → Tells i j ys → Tells i j (xs ++ ys)
  tells-quiet i j xs ys quiet later =
      let most = most-quiet xs ys quiet in
      let gains = skip-quiet (is_gain v) xs ys (All-weaker (IsQuiet v) (λ told. is_gain v told ≡ false) (λ told q. q.gain) xs quiet) in
      let losses = skip-quiet (is_loss v) xs ys (All-weaker (IsQuiet v) (λ told. is_loss v told ≡ false) (λ told q. q.loss) xs quiet) in
      record {
        begins = later.begins;
        reads = skip-quiet (is_read v) xs ys (All-weaker (IsQuiet v) (λ told. is_read v told ≡ false) (λ told q. q.read) xs quiet) ∙ later.reads;
        writes = skip-quiet (is_write v) xs ys (All-weaker (IsQuiet v) (λ told. is_write v told ≡ false) (λ told q. q.write) xs quiet) ∙ later.writes;
        balance = let all = later.balance in omega (arith, all, gains, losses);
        no_more = λ k from to. let all = later.no_more k from to in omega (arith, all, most);
        as_many = let at = later.as_many in let all = at.3 in (at.0, at.1, at.2, omega (arith, all, most));
        losses = losses ∙ later.losses;
        gains = λ f lt. ap (λ (fs : List ℕ). is_in fs f || owns_at m calls v f i) (gained-after xs ys quiet) ∙ later.gains f lt;
        within = subst (λ (fs : List ℕ). All (λ f. f < m.config.frames) fs) (sym (gained-after xs ys quiet)) later.within;
      }
