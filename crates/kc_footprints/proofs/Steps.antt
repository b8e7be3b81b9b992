-- One more call is planned and tracked.
use Rattle.std.proofs.Common.{◌≡◌, ℕ, zero, suc, ◌+◌, ◌-◌, ◌<◌, ◌≤◌, Bool, true, false, cond, refl, ap, arith, inl, inr}
use Rattle.std.specs.Prelude.{◌⊎◌}
use Rattle.std.proofs.Math.Nat.{eq-or-lt_of_le}
use Rattle.std.proofs.lemmas.Bool.{cases_Bool}
use Rattle.kc_footprints.specs.Planned.{ComesJustAfter}
use Rattle.kc_types.specs.declared.resource.Resource.TheVariants.{Frame}
use Rattle.kc_model.specs.Resources.{Resource}
use Rattle.kc_footprints.specs.LastWaves.{Stamps, frame_wave, principal_wave, reach_wave, IsFound, IsNoted}
use Rattle.kc_footprints.proofs.Tracked.{Shape, IsNear, AreTracked}

module _ (names_frame names_principal : ℕ → ℕ → Bool) (has : ℕ → ℕ → Resource → Bool) (touches : ℕ → Resource → Bool) (shape : Shape names_frame names_principal has touches)
    (wave : ℕ → ℕ) (size k : ℕ) (s : Stamps) (named_below : (j p : ℕ) → names_principal j p ≡ true → p < size) (tracked : AreTracked names_frame names_principal has touches wave size k s) where
  -- what a principal may have at some time it may have later
  later : (d j p : ℕ) (r : Resource) → has j p r ≡ true → has (d + j) p r ≡ true
  later zero j p r h = let e : 0 + j ≡ j = omega arith in rw e h
  later (suc d) j p r h = let e : suc d + j ≡ suc (d + j) = omega arith in rw e (shape.keeps (d + j) p r (later d j p r h))

  had_later : (j p : ℕ) (r : Resource) → j < k → has j p r ≡ true → has k p r ≡ true
  had_later j p r low h = let e : k ≡ (k - j) + j = omega arith in rw e (later (k - j) j p r h)

  module _ (high : ℕ) (found : IsFound (names_frame k) (names_principal k) (λ p f. has k p (Frame f)) size high s) where
    below_by_name : (j f : ℕ) → j < k → touches j (Frame f) ≡ true → names_frame k f ≡ true → wave j ≤ high
    below_by_name j f low tj nk =
        elim (shape.named_or_part j (Frame f) tj) [
          | inl named ↦ (let same : f ≡ named.0 = (let e = named.1 in cc) in let a = tracked.frame_bound j f low (rw same named.2) in let b = found.named f nk in omega arith)
          | inr part ↦ (let a = tracked.principal_bound j part.0 low part.1 in let b = found.had f part.0 nk (named_below j part.0 part.1) (had_later j part.0 (Frame f) low part.2) in omega arith)
        ]

    below : (j : ℕ) (r : Resource) → j < k → touches j r ≡ true → touches k r ≡ true → wave j ≤ high
    below j r low tj tk =
        elim (shape.named_or_part k r tk) [
          | inl named ↦ below_by_name j named.0 low (rw named.1 at tj) named.2
          | inr part ↦ (let a = tracked.reach_bound j part.0 r (named_below k part.0 part.1) low part.2 tj in let b = found.whole part.0 part.1 in omega arith)
        ]

    pub just_after : wave k ≡ suc high → ComesJustAfter touches wave k
    just_after is = record {
      above = λ j r low tj tk. let a = below j r low tj tk in omega arith;
      just =
          elim found.got [
            | inl none ↦ inl (omega arith)
            | inr some ↦
                elim some [
                  | inl by_frame ↦
                      elim (tracked.frame_got by_frame.0) [
                        | inl none ↦ inl (let e = by_frame.2 in omega arith)
                        | inr it ↦ inr (it.0, Frame by_frame.0, it.1, shape.by_name it.0 by_frame.0 it.2, shape.by_name k by_frame.0 by_frame.1, (let e = by_frame.2 in let f = it.3 in omega arith))
                      ]
                  | inr more ↦
                      elim more [
                        | inl by_principal ↦
                            elim (tracked.principal_got by_principal.1) [
                              | inl none ↦ inl (let e = by_principal.5 in omega arith)
                              | inr it ↦ inr (it.0, Frame by_principal.0, it.1, it.3 (Frame by_principal.0) by_principal.4, shape.by_name k by_principal.0 by_principal.2, (let e = by_principal.5 in let f = it.4 in omega arith))
                            ]
                        | inr by_reach ↦
                            elim (tracked.reach_got by_reach.0 (named_below k by_reach.0 by_reach.1)) [
                              | inl none ↦ inl (let e = by_reach.2 in omega arith)
                              | inr it ↦ inr (it.0, it.1, it.2, it.4, shape.by_part k by_reach.0 it.1 by_reach.1 it.3, (let e = by_reach.2 in let f = it.5 in omega arith))
                            ]
                      ]
                ]
          ];
    }

  module _ (w : ℕ) (near : ℕ → ℕ → Bool) (t : Stamps) (is_near : IsNear names_frame names_principal has touches size k near)
      (noted : IsNoted (names_frame k) (names_principal k) (λ p f. has k p (Frame f)) size w near s t) (planned : ComesJustAfter touches wave k) (is : wave k ≡ w) where
    -- the last wave of a call that named something, after call k
    bound : (name : ℕ → Bool) (before after : ℕ) → after ≡ cond (name k) w before → ((j : ℕ) → j < k → name j ≡ true → wave j ≤ before) → ((j : ℕ) → j < k → name j ≡ true → name k ≡ true → wave j < wave k)
        → (j : ℕ) → j < suc k → name j ≡ true → wave j ≤ after
    bound name before after now old rise j low nj =
        let earlier : j < k → wave j ≤ before = λ below. old j below nj in
        let raised : j < k → name k ≡ true → wave j < wave k = λ below. rise j below nj in
        grind (arith, cases_Bool (name k))

    frame_bound : (j f : ℕ) → j < suc k → names_frame j f ≡ true → wave j ≤ frame_wave t f
    frame_bound j f = bound (λ i. names_frame i f) (frame_wave s f) (frame_wave t f) (noted.frame_is f) (λ i. tracked.frame_bound i f) (λ i low ni nk. planned.above i (Frame f) low (shape.by_name i f ni) (shape.by_name k f nk)) j

    frame_got : (f : ℕ) (b : Bool) → names_frame k f ≡ b → (frame_wave t f ≡ 0) ⊎ ((j : ℕ) × (j < suc k) × (names_frame j f ≡ true) × (wave j ≡ frame_wave t f))
    frame_got f true nk = let now = rw nk at (noted.frame_is f) in inr (k, omega arith, nk, omega arith)
    frame_got f false nk =
        let now = rw nk at (noted.frame_is f) in
        elim (tracked.frame_got f) [
          | inl none ↦ inl (omega arith)
          | inr it ↦ inr (it.0, (let l = it.1 in omega arith), it.2, (let l = it.3 in omega arith))
        ]

    principal_bound : (j p : ℕ) → j < suc k → names_principal j p ≡ true → wave j ≤ principal_wave t p
    principal_bound j p = bound (λ i. names_principal i p) (principal_wave s p) (principal_wave t p) (noted.principal_is p) (λ i. tracked.principal_bound i p)
        (λ i low ni nk. let own = shape.own k p nk in planned.above i own.0 low (shape.by_part i p own.0 ni (own.1 i)) (shape.by_part k p own.0 nk (own.1 k))) j

    principal_got : (p : ℕ) (b : Bool) → names_principal k p ≡ b
        → (principal_wave t p ≡ 0) ⊎ ((j : ℕ) × (j < suc k) × (names_principal j p ≡ true) × ((r : Resource) → has (suc k) p r ≡ true → touches j r ≡ true) × (wave j ≡ principal_wave t p))
    principal_got p true nk =
        let now = rw nk at (noted.principal_is p) in
        inr (k, omega arith, nk, (λ r h. elim (shape.grows k p r h) [ inl old ↦ shape.by_part k p r nk old | inr new ↦ new.1 ]), omega arith)
    principal_got p false nk =
        let now = rw nk at (noted.principal_is p) in
        elim (tracked.principal_got p) [
          | inl none ↦ inl (omega arith)
          | inr it ↦ inr (it.0, (let l = it.1 in omega arith), it.2, (λ r h. elim (shape.grows k p r h) [ inl old ↦ it.3 r old | inr new ↦ (let yes = new.0 in cc) ]), (let l = it.4 in omega arith))
        ]

    -- call k raises each principal that has a part of what it touches
    raised_named : (p : ℕ) → names_principal k p ≡ true → w ≤ reach_wave t p
    raised_named p nk = let own = shape.own k p nk in let low = named_below k p nk in noted.reach_near p p low nk (is_near.all p p own.0 low low (own.1 k) (own.1 k))

    raised_part : (p : ℕ) (r : Resource) → p < size → has k p r ≡ true → touches k r ≡ true → w ≤ reach_wave t p
    raised_part p r low h tk =
        elim (shape.named_or_part k r tk) [
          | inl named ↦ noted.reach_named p named.0 low named.2 (rw named.1 at h)
          | inr part ↦ noted.reach_near p part.0 low part.1 (is_near.all p part.0 r low (named_below k part.0 part.1) h part.2)
        ]

    reach_bound : (j p : ℕ) (r : Resource) → p < size → j < suc k → has (suc k) p r ≡ true → touches j r ≡ true → wave j ≤ reach_wave t p
    reach_bound j p r low under h tj =
        let step : j ≤ k = omega arith in
        elim (eq-or-lt_of_le step) [
          | inl same ↦
              (let tk : touches k r ≡ true = rw same at tj in
              let x : wave j ≡ wave k = ap wave same in
              elim (shape.grows k p r h) [
                | inl old ↦ (let y = raised_part p r low old tk in omega arith)
                | inr new ↦ (let y = raised_named p new.0 in omega arith)
              ])
          | inr below ↦
              elim (shape.grows k p r h) [
                | inl old ↦ (let a = tracked.reach_bound j p r low below old tj in let b = noted.reach_more p low in omega arith)
                | inr new ↦ (let a = raised_named p new.0 in let b : wave j < wave k = planned.above j r below tj new.1 in omega arith)
              ]
        ]

    reach_got : (p : ℕ) → p < size → (reach_wave t p ≡ 0) ⊎ ((j : ℕ) × (r : Resource) × (j < suc k) × (has (suc k) p r ≡ true) × (touches j r ≡ true) × (wave j ≡ reach_wave t p))
    reach_got p low =
        elim (noted.reach_is p low) [
          | inl same ↦
              elim (tracked.reach_got p low) [
                | inl none ↦ inl (omega arith)
                | inr it ↦ inr (it.0, it.1, (let l = it.2 in omega arith), shape.keeps k p it.1 it.3, it.4, (let l = it.5 in omega arith))
              ]
          | inr new ↦
              (let e = new.0 in
              elim new.1 [
                | inl named ↦ inr (k, Frame named.0, omega arith, shape.keeps k p (Frame named.0) named.2, shape.by_name k named.0 named.1, omega arith)
                | inr near_it ↦
                    (let it = is_near.common p near_it.0 low (named_below k near_it.0 near_it.1) near_it.2 in
                    inr (k, it.0, omega arith, shape.keeps k p it.0 it.1, shape.by_part k near_it.0 it.0 near_it.1 it.2, omega arith))
              ])
        ]

    pub one_more : AreTracked names_frame names_principal has touches wave size (suc k) t
    one_more = record {
      frame_bound = frame_bound;
      frame_got = λ f. frame_got f (names_frame k f) refl;
      principal_bound = principal_bound;
      principal_got = λ p. principal_got p (names_principal k p) refl;
      reach_bound = reach_bound;
      reach_got = reach_got;
    }
