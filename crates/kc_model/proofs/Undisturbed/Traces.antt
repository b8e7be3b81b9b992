-- Two traces by which the same reaches a VM.
use Rattle.std.proofs.Common.{ℕ, ◌≡◌, ◌<◌, inl, inr, Bool, true, false, cond, List, [], ◌∷◌, length, get_or, eq-eqb, refl, sym, ap, subst, ◌∙◌, arith, Option, None, Some}
use Rattle.std.proofs.lemmas.Option.{same_Some}
use Rattle.std.specs.List.{AllByRecursion}
use Rattle.std.specs.FinMap as map
use Rattle.std.specs.Ordering.{nat_cmp}
use Rattle.kc_types.specs.Configuration.{Configuration, IsConfiguration, slot_count}
use Rattle.kc_types.specs.declared.version.Version.{Version}
use Rattle.kc_types.proofs.Ranges.{same-version}
use Rattle.std.proofs.lemmas.Bool.{cases_lt}
use Rattle.kc_types.specs.declared.call.Call.{Call}
use Rattle.kc_types.specs.declared.owner.Owner.{Owner}
use Rattle.kc_types.specs.declared.owner.Owner.TheVariants.{Core, Host, Vm}
use Rattle.kc_model.specs.State.{State, Frame, Slot, frame_at, slot_at, mapped_at, untouched, empty_slot}
use Rattle.kc_model.specs.Boot.{boot}
use Rattle.kc_model.specs.Refusals.{is_active}
use Rattle.kc_model.specs.Next.{next, state_after}
use Rattle.kc_model.specs.Lawful.{IsLawful, same_owner}
use Rattle.kc_model.specs.Blind.{Secret, IsPrivate, is_secret, is_running, has_gfn}
use Rattle.kc_model.specs.Undisturbed.{Page, watched, page_of, page_under, page_at, own_slot, HasTheSame, Input, own_call, image_page, fresh_page, host_bytes, input, inputs, with_input, answers, with_answer, is_by_host, IsMeasuredWhole, IsTreatedAlike, TreatsAlike, KeepsUnwritten, WatchesFewer, IsUndisturbed, IsUndisturbedFromBoot}
use Rattle.kc_model.proofs.Refusals.Served.{host_access-served}
use Rattle.kc_model.proofs.Lawful.AtBoot.{slot_at-boot, slot_past-boot, slot-boot, lawful-boot}
use Rattle.kc_model.proofs.Lawful.Keeps.{lawful-next}
use Rattle.kc_model.proofs.Blind.Private.{private-next}
use Rattle.kc_model.proofs.Undisturbed.Pages.{same-then, same-back, page-bytes}
use Rattle.kc_model.proofs.Undisturbed.Unnamed.{unnamed, same-self}
use Rattle.kc_model.proofs.Undisturbed.Comes.{IsWhole, Comes, comes, together}

-- the first call of a trace by which something reaches the VM
record Found (s : ℕ → Bool) (v : ℕ) (n : State) (others : List Call) (i : Input) (later : List Input) : Type 0 where
  at : State
  call : Call
  rest : List Call
  lawful : IsLawful at
  same : HasTheSame s v n at
  brings : input s v at call ≡ Some i
  then : inputs s v (next at call).1 rest ≡ later
  told : answers s v n others ≡ with_answer s (Some i) (next at call).0 (answers s v (next at call).1 rest)
  end : state_after n others ≡ state_after (next at call).1 rest

first-of : (i j : Input) (is js : List Input) → i ∷ is ≡ j ∷ js → (i ≡ j) × (is ≡ js)
first-of i j is js e = (cc, cc)

find-case : (x : Option Input) (s : ℕ → Bool) (v : ℕ) (n : State) (other : Call) (rest : List Call) (i : Input) (later : List Input) → IsLawful n → input s v n other ≡ x
    → (inputs s v (next n other).1 rest ≡ i ∷ later → Found s v (next n other).1 rest i later) → with_input x (inputs s v (next n other).1 rest) ≡ i ∷ later → Found s v n (other ∷ rest) i later
find-case None s v n other rest i later is e go h =
    let f = go h in
    record {
      at = f.at;
      call = f.call;
      rest = f.rest;
      lawful = f.lawful;
      same = same-then s v n (next n other).1 f.at (unnamed s v n other is e) f.same;
      brings = f.brings;
      then = f.then;
      told = ap (λ x. with_answer s x (next n other).0 (answers s v (next n other).1 rest)) e ∙ f.told;
      end = f.end;
    }
find-case (Some j) s v n other rest i later is e go h =
    let parts = first-of j i (inputs s v (next n other).1 rest) later h in
    let brings : input s v n other ≡ Some i = e ∙ ap Some parts.0 in
    record {
      at = n;
      call = other;
      rest = rest;
      lawful = is;
      same = same-self s v n;
      brings = brings;
      then = parts.1;
      told = ap (λ x. with_answer s x (next n other).0 (answers s v (next n other).1 rest)) brings;
      end = refl;
    }

find : (s : ℕ → Bool) (v : ℕ) (n : State) (others : List Call) (i : Input) (later : List Input) → IsLawful n → inputs s v n others ≡ i ∷ later → Found s v n others i later
find s v n [] i later is e = absurd cc
find s v n (other ∷ rest) i later is e = find-case (input s v n other) s v n other rest i later is refl (λ h. find s v (next n other).1 rest i later (lawful-next n other is) h) e

-- a trace by which nothing reaches the VM
IsIdle : (ℕ → Bool) → ℕ → State → List Call → Type 0
IsIdle s v n others = (answers s v n others ≡ []) × HasTheSame s v n (state_after n others)

idle-case : (x : Option Input) (s : ℕ → Bool) (v : ℕ) (n : State) (other : Call) (rest : List Call) → IsLawful n → input s v n other ≡ x
    → (inputs s v (next n other).1 rest ≡ [] → IsIdle s v (next n other).1 rest) → with_input x (inputs s v (next n other).1 rest) ≡ [] → IsIdle s v n (other ∷ rest)
unfolding IsIdle
idle-case None s v n other rest is e go h =
    let f = go h in
    (ap (λ x. with_answer s x (next n other).0 (answers s v (next n other).1 rest)) e ∙ f.0, same-then s v n (next n other).1 _ (unnamed s v n other is e) f.1)
idle-case (Some j) s v n other rest is e go h = absurd cc

idle : (s : ℕ → Bool) (v : ℕ) (n : State) (others : List Call) → IsLawful n → inputs s v n others ≡ [] → IsIdle s v n others
unfolding IsIdle
idle s v n [] is e = (refl, same-self s v n)
idle s v n (other ∷ rest) is e = idle-case (input s v n other) s v n other rest is refl (λ h. idle s v (next n other).1 rest (lawful-next n other is) h) e

whole-first : (s : ℕ → Bool) (v : ℕ) (call : Call) (calls : List Call) → IsMeasuredWhole s v (call ∷ calls) → IsWhole s v call
whole-first s v call calls (inl all) = inl all
whole-first s v call calls (inr each) = inr each.0

whole-later : (s : ℕ → Bool) (v : ℕ) (call : Call) (calls : List Call) → IsMeasuredWhole s v (call ∷ calls) → IsMeasuredWhole s v calls
whole-later s v call calls (inl all) = inl all
whole-later s v call calls (inr each) = inr each.1

alike-case : (x : Option Input) (s : ℕ → Bool) (v : ℕ) (m n : State) (call : Call) (calls others : List Call) → IsLawful m → IsLawful n → HasTheSame s v m n → IsWhole s v call → input s v m call ≡ x
    → ((k : State) (rest : List Call) → IsLawful k → HasTheSame s v (next m call).1 k → inputs s v (next m call).1 calls ≡ inputs s v k rest → IsTreatedAlike s v (next m call).1 k calls rest)
    → with_input x (inputs s v (next m call).1 calls) ≡ inputs s v n others → IsTreatedAlike s v m n (call ∷ calls) others
alike-case None s v m n call calls others m_is n_is same whole e go h =
    let after = go n others n_is (same-then s v (next m call).1 m n (same-back s v m (next m call).1 (unnamed s v m call m_is e)) same) h in
    record {
      told = ap (λ x. with_answer s x (next m call).0 (answers s v (next m call).1 calls)) e ∙ after.told;
      states = after.states;
    }
alike-case (Some i) s v m n call calls others m_is n_is same whole e go h =
    let f = find s v n others i (inputs s v (next m call).1 calls) n_is (sym h) in
    let step = together s v m f.at call f.call i m_is f.lawful (same-then s v m n f.at same f.same) whole e f.brings in
    let after = go (next f.at f.call).1 f.rest (lawful-next f.at f.call f.lawful) step.state (sym f.then) in
    record {
      told = ap (λ x. with_answer s x (next m call).0 (answers s v (next m call).1 calls)) e ∙ step.told _ _ after.told ∙ sym f.told;
      states = subst (λ x. HasTheSame s v (state_after (next m call).1 calls) x) (sym f.end) after.states;
    }

alike : (s : ℕ → Bool) (v : ℕ) (m n : State) (calls others : List Call) → IsLawful m → IsLawful n → HasTheSame s v m n → inputs s v m calls ≡ inputs s v n others → IsMeasuredWhole s v calls → IsTreatedAlike s v m n calls others
unfolding IsIdle
alike s v m n [] others m_is n_is same e whole =
    let nothing = idle s v n others n_is (sym e) in
    record { told = sym nothing.0; states = same-then s v m n _ same nothing.1 }
alike s v m n (call ∷ calls) others m_is n_is same e whole =
    alike-case (input s v m call) s v m n call calls others m_is n_is same (whole-first s v call calls whole) refl
    (λ k rest k_is same_there h. alike s v (next m call).1 k calls rest (lawful-next m call m_is) k_is same_there h (whole-later s v call calls whole)) e

treats_alike : (m : State) (calls : List Call) → IsLawful m → TreatsAlike m calls
treats_alike m calls is s v n others n_is same e whole = alike s v m n calls others is n_is same e whole

-- a write of the host that reaches the VM is to a page that is shared
not-by_host : (s : Secret) (m : State) (call : Call) (i : Input) → IsLawful m → IsPrivate s m → Comes s.gfns s.vm m call i → is_by_host i ≡ false
not-by_host s m call (own_call c) is private it = refl
not-by_host s m call (image_page j bytes) is private it = refl
not-by_host s m call (fresh_page c bytes) is private it = refl
not-by_host s m call (host_bytes g off bytes) is private it =
    let f = it.0 in
    let frame = frame_at m f in
    let mine : frame.owner ≡ Vm s.vm = it.3 in
    let seen = host_access-served m f off (length bytes) it.2 in
    let lt : f < length m.frames = rw is.frames seen.frame in
    absurd (elim ((is.each_frame f lt).reached seen.present) [
      | inl host ↦ let both : Vm s.vm ≡ Host = sym mine ∙ host in cc
      | inr some ↦
          let within = (is.each_frame f lt).slot s.vm mine in
          let running : is_running m s.vm ≡ true = ap is_active (is.shared s.vm f within mine some) in
          let owner : same_owner frame.owner (Vm s.vm) ≡ true = ap (λ (o : Owner). same_owner o (Vm s.vm)) mine ∙ eq-eqb s.vm s.vm refl in
          let gfn : has_gfn s.gfns frame.gfn ≡ true = ap (has_gfn s.gfns) it.4 ∙ it.5 in
          let secret : is_secret s (is_running m s.vm) frame ≡ true = rw (owner, gfn, running) refl in
          let none = private f secret in
          omega (arith, none, some)
    ])

unwritten-case : (x : Option Input) (s : Secret) (m : State) (call : Call) (later : List Input) → IsLawful m → IsPrivate s m → input s.gfns s.vm m call ≡ x → AllByRecursion (λ i. is_by_host i ≡ false) later
    → AllByRecursion (λ i. is_by_host i ≡ false) (with_input x later)
unwritten-case None s m call later is private e each = each
unwritten-case (Some i) s m call later is private e each = (not-by_host s m call i is private (comes s.gfns s.vm m call i e), each)

unwritten : (m : State) (calls : List Call) → IsLawful m → KeepsUnwritten m calls
unwritten m [] is s private grants = tt
unwritten m (call ∷ calls) is s private grants =
    unwritten-case (input s.gfns s.vm m call) s m call _ is private refl (unwritten (next m call).1 calls (lawful-next m call is) s (private-next s m call is private grants.0) grants.1)

-- fewer watched guest frames
fewer-page : (s t : ℕ → Bool) (g : ℕ) (x y : Frame) → (t g ≡ true → s g ≡ true) → page_of s g x ≡ page_of s g y → page_of t g x ≡ page_of t g y
fewer-page s t g x y within e =
    let share : x.share ≡ y.share = ap (λ (p : Page). p.share) e in
    let bytes : watched t g x.bytes ≡ watched t g y.bytes = by-case (t g) refl in
    ap (λ n. record { share = n; bytes = watched t g x.bytes }) share ∙ ap (λ b. record { share = y.share; bytes = b }) bytes
  where
    by-case : (b : Bool) → t g ≡ b → cond b x.bytes [] ≡ cond b y.bytes []
    by-case true h = page-bytes s g x y (within h) e
    by-case false h = refl

fewer-under : (s t : ℕ → Bool) (frames others : List Frame) (g : ℕ) (at bt : Option ℕ) → (t g ≡ true → s g ≡ true) → page_under s frames g at ≡ page_under s others g bt → page_under t frames g at ≡ page_under t others g bt
fewer-under s t frames others g None None within e = refl
fewer-under s t frames others g None (Some k) within e = absurd cc
fewer-under s t frames others g (Some f) None within e = absurd cc
fewer-under s t frames others g (Some f) (Some k) within e = ap Some (fewer-page s t g (get_or frames f (untouched Core)) (get_or others k (untouched Core)) within (same_Some _ _ e))

fewer : (m : State) → WatchesFewer m
fewer m s t v n within same = record {
  slots = same.slots;
  leaves = same.leaves;
  approved = same.approved;
  slot = same.slot;
  pages = λ g. fewer-under s t m.frames n.frames g (mapped_at m v g) (mapped_at n v g) (within g) (same.pages g);
}

pub undisturbed : (m : State) (calls : List Call) → IsLawful m → IsUndisturbed m calls
undisturbed m calls is = record { alike = treats_alike m calls is; unwritten = unwritten m calls is; fewer = fewer m }

no-page : (s : ℕ → Bool) (v : ℕ) (c : Configuration) (g : ℕ) → page_at s (boot c) v g ≡ None
no-page s v c g = slot-boot (λ (y : Slot). page_under s (boot c).frames g (map.get y.mapped g)) c v refl ∙ ap (page_under s (boot c).frames g) (map.get-empty nat_cmp g)

pub undisturbed_from_boot : (c : Configuration) (calls : List Call) → IsConfiguration c → IsUndisturbedFromBoot c calls
undisturbed_from_boot c calls is s v d others d_is slots leaves approved e whole =
    alike s v (boot c) (boot d) calls others (lawful-boot c is) (lawful-boot d d_is) (record {
      slots = slots;
      leaves = leaves;
      approved = approved;
      slot = same-slot;
      pages = λ g. no-page s v c g ∙ sym (no-page s v d g);
    }) e whole
  where
    same-slot : own_slot (slot_at (boot c) v) ≡ own_slot (slot_at (boot d) v)
    same-slot = elim (cases_lt v (slot_count c)) [
      | inl low ↦ ap own_slot (slot_at-boot c v low) ∙ ap (λ (version : Version). own_slot (empty_slot version)) (same-version c d slots) ∙ sym (ap own_slot (slot_at-boot d v (omega (arith, low, slots))))
      | inr past ↦ ap own_slot (slot_past-boot c v past) ∙ sym (ap own_slot (slot_past-boot d v (omega (arith, past, slots))))
    ]
