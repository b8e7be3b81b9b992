-- A frame is sound exactly if its verdict shows nothing.
use Rattle.std.proofs.Common.{ℕ, ◌≡◌, ◌≢◌, ◌<◌, inl, inr, Bool, true, false, ◌&&◌, ◌||◌, not, nat_lt, nat_le, List, Option, Some, None, is_some, IsTrue, refl, sym, ap, arith}
use Rattle.std.specs.Prelude.{◌↔◌, ◌⊎◌, ◌==◌}
use Rattle.std.specs.Cmp.Lexicographic.{pointwise, same_text, other_text}
use Rattle.std.proofs.lemmas.Bool.{ltb-true, ltb-false, lt-ltb, leb-true, leb-false, eqb-false, ne_eqb, cases_lt}
use Rattle.sha2.specs.Sha256.{sha256}
use Rattle.kc_types.specs.declared.link.Link.{Link}
use Rattle.kc_types.specs.declared.owner.Owner.{Owner}
use Rattle.kc_types.specs.declared.owner.Owner.TheVariants.{Core, Host, Free, Vm}
use Rattle.kc_model.specs.State.{zero_page}
use Rattle.kc_model.specs.Lawful.{same_owner, is_vm}
use Rattle.kc_links.specs.Chain.{unlinked}
use Rattle.kc_dump.specs.declared.line.FrameLine.{FrameLine}
use Rattle.kc_audit.specs.declared.verdict.FrameVerdict.{FrameVerdict}
use Rattle.kc_dump.specs.Sound.{IsSoundFrame}
use Rattle.kc_audit.specs.Verdicts.{verdict_by, wrong_core, wrong_link, wrong_gfn}
use Rattle.kc_model.proofs.States.Owners.{same-is}

pointwise-same : (xs ys : List ℕ) → xs ≡ ys → pointwise ◌==◌ xs ys ≡ true
pointwise-same xs ys same = by_test (pointwise ◌==◌ xs ys) refl
  where
    by_test : (b : Bool) → pointwise ◌==◌ xs ys ≡ b → b ≡ true
    by_test true e = refl
    by_test false e = absurd (other_text xs ys (sym e) same)

-- a verdict that shows nothing
pub record IsClear (verdict : FrameVerdict) : Type 0 where
  pub core_owner : verdict.core_owner ≡ false
  pub linked : verdict.linked ≡ false
  pub gfn : verdict.gfn ≡ false
  pub share : verdict.share ≡ false
  pub present : verdict.present ≡ false
  pub bytes : verdict.bytes ≡ false

pub and-right : (a b : Bool) → (a && b) ≡ false → a ≡ true → b ≡ false
and-right true b e x = e
and-right false b e x = cc

pub and-none : (a b : Bool) → (a ≡ true → b ≡ false) → (a && b) ≡ false
and-none true b e = e refl
and-none false b e = refl

pub or-parts : (a b : Bool) → (a || b) ≡ false → (a ≡ false) × (b ≡ false)
or-parts true b e = cc
or-parts false b e = (refl, e)

pub negated : (a : Bool) → not a ≡ false → a ≡ true
negated true e = refl
negated false e = cc

pub negates : (a : Bool) → a ≡ true → not a ≡ false
negates true e = refl
negates false e = cc

opposite : (a : Bool) → (a ≡ true → ⊥) → a ≡ false
opposite true never = absurd (never refl)
opposite false never = refl

pub none-there : (o : Option ℕ) → is_some o ≡ false → o ≡ None
none-there None e = refl
none-there (Some x) e = cc

-- the core owns the first frames
core-placed : (core f : ℕ) (owner : Owner) → wrong_core core f owner ≡ false → (owner ≡ Core) ↔ (f < core)
core-placed core f Core e = (λ same. leb-false core f e, λ low. refl)
core-placed core f Host e = (λ same. cc, λ low. let past = ltb-false f core e in absurd (omega (arith, past, low)))
core-placed core f Free e = (λ same. cc, λ low. let past = ltb-false f core e in absurd (omega (arith, past, low)))
core-placed core f (Vm v) e = (λ same. cc, λ low. let past = ltb-false f core e in absurd (omega (arith, past, low)))

placed-core : (core f : ℕ) (owner : Owner) → (owner ≡ Core) ↔ (f < core) → wrong_core core f owner ≡ false
placed-core core f Core is = opposite (nat_le core f) (λ e. let low = is.0 refl in let r = leb-true core f e in omega (arith, low, r))
placed-core core f Host is = opposite (nat_lt f core) (λ e. let no = is.1 (ltb-true f core e) in cc)
placed-core core f Free is = opposite (nat_lt f core) (λ e. let no = is.1 (ltb-true f core e) in cc)
placed-core core f (Vm v) is = opposite (nat_lt f core) (λ e. let no = is.1 (ltb-true f core e) in cc)

-- a frame in no list has no neighbours
alone : (prev next : Option ℕ) → (is_some prev || is_some next) ≡ false → ◌≡◌ {A = Link} (record { prev = prev; next = next }) unlinked
alone prev next e =
    let parts = or-parts (is_some prev) (is_some next) e in
    let p = none-there prev parts.0 in let n = none-there next parts.1 in λ i. record { prev = p i; next = n i }

not-alone : (prev next : Option ℕ) → ◌≡◌ {A = Link} (record { prev = prev; next = next }) unlinked → (is_some prev || is_some next) ≡ false
not-alone prev next e = let p = ap (λ (l : Link). l.prev) e in let n = ap (λ (l : Link). l.next) e in rw (p, n) refl

core-alone : (owner : Owner) (prev next : Option ℕ) → wrong_link owner prev next ≡ false → owner ≡ Core → (is_some prev || is_some next) ≡ false
core-alone Core prev next e same = e
core-alone Host prev next e same = cc
core-alone Free prev next e same = cc
core-alone (Vm v) prev next e same = cc

host-alone : (owner : Owner) (prev next : Option ℕ) → wrong_link owner prev next ≡ false → owner ≡ Host → (is_some prev || is_some next) ≡ false
host-alone Core prev next e same = cc
host-alone Host prev next e same = e
host-alone Free prev next e same = cc
host-alone (Vm v) prev next e same = cc

linked-right : (owner : Owner) (prev next : Option ℕ) → (owner ≡ Core → (is_some prev || is_some next) ≡ false) → (owner ≡ Host → (is_some prev || is_some next) ≡ false) → wrong_link owner prev next ≡ false
linked-right Core prev next c h = c refl
linked-right Host prev next c h = h refl
linked-right Free prev next c h = refl
linked-right (Vm v) prev next c h = refl

-- only a VM's frame has a guest frame, and each has
gfn-there : (mapped : Bool) (owner : Owner) (gfn : Option ℕ) → wrong_gfn mapped owner gfn ≡ false → is_some gfn ≡ is_vm owner
gfn-there mapped Core gfn e = e
gfn-there mapped Host gfn e = e
gfn-there mapped Free gfn e = e
gfn-there mapped (Vm v) gfn e = negated (is_some gfn) (or-parts (not (is_some gfn)) (not mapped) e).0

-- its table maps it
pub gfn-mapped : (mapped : Bool) (owner : Owner) (gfn : Option ℕ) (v : ℕ) → wrong_gfn mapped owner gfn ≡ false → owner ≡ Vm v → mapped ≡ true
gfn-mapped mapped Core gfn v e same = cc
gfn-mapped mapped Host gfn v e same = cc
gfn-mapped mapped Free gfn v e same = cc
gfn-mapped mapped (Vm w) gfn v e same = negated mapped (or-parts (not (is_some gfn)) (not mapped) e).1

gfn-right : (mapped : Bool) (owner : Owner) (gfn : Option ℕ) → is_some gfn ≡ is_vm owner → (is_vm owner ≡ true → mapped ≡ true) → wrong_gfn mapped owner gfn ≡ false
gfn-right mapped Core gfn e there = e
gfn-right mapped Host gfn e there = e
gfn-right mapped Free gfn e there = e
gfn-right mapped (Vm v) gfn e there = rw (negates (is_some gfn) e, negates mapped (there refl)) refl

positive : (n : ℕ) → n ≢ 0 → 0 < n
positive n never = elim (cases_lt 0 n) [ inl low ↦ low | inr past ↦ absurd (never (omega (arith, past))) ]

-- the host reaches what is its own or shared
reaches : (present : Bool) (owner : Owner) (share : ℕ) → ((present && not (same_owner owner Host)) && (share == 0)) ≡ false → present ≡ true → (owner ≡ Host) ⊎ (0 < share)
reaches present owner share e p = by_host (same_owner owner Host) refl
  where
    by_host : (b : Bool) → same_owner owner Host ≡ b → (owner ≡ Host) ⊎ (0 < share)
    by_host true h = inl (same-is owner Host h)
    by_host false h =
        let zero : (share == 0) ≡ false = and-right (present && not (same_owner owner Host)) (share == 0) e (rw (p, h) refl) in
        inr (positive share (eqb-false share 0 zero))

reach-right : (present : Bool) (owner : Owner) (share : ℕ) → (IsTrue present → (owner ≡ Host) ⊎ (0 < share)) → ((present && not (same_owner owner Host)) && (share == 0)) ≡ false
reach-right present owner share reached = by_present present reached
  where
    by_reach : (owner ≡ Host) ⊎ (0 < share) → (not (same_owner owner Host) && (share == 0)) ≡ false
    by_reach (inl host) = ap (λ b. b && (share == 0)) (negates (same_owner owner Host) (ap (λ o. same_owner o Host) host))
    by_reach (inr some) = and-none (not (same_owner owner Host)) (share == 0) (λ o. ne_eqb share 0 (λ e. omega (arith, e, some)))

    by_present : (p : Bool) → (IsTrue p → (owner ≡ Host) ⊎ (0 < share)) → ((p && not (same_owner owner Host)) && (share == 0)) ≡ false
    by_present true r = by_reach (r refl)
    by_present false r = refl

-- a frame whose verdict shows nothing is sound
pub sound-frame : (core f : ℕ) (mapped : Bool) (line : FrameLine) → IsClear (verdict_by core f mapped line) → IsSoundFrame core f line
sound-frame core f mapped line clear = record {
  placed = core-placed core f line.owner clear.core_owner;
  core_alone = λ same. alone line.prev line.next (core-alone line.owner line.prev line.next clear.linked same);
  host_alone = λ same. alone line.prev line.next (host-alone line.owner line.prev line.next clear.linked same);
  mapped = gfn-there mapped line.owner line.gfn clear.gfn;
  sharer = λ some. negated (is_vm line.owner) (and-right (nat_lt 0 line.share) (not (is_vm line.owner)) clear.share (lt-ltb 0 line.share some));
  reached = λ p. reaches line.present line.owner line.share clear.present p;
  zeroed = λ free. same_text line.digest (sha256 zero_page)
      (sym (negated (pointwise ◌==◌ line.digest (sha256 zero_page)) (and-right (same_owner line.owner Free) (not (pointwise ◌==◌ line.digest (sha256 zero_page))) clear.bytes (ap (λ o. same_owner o Free) free))));
}

-- and conversely, if its table maps it
pub frame-clear : (core f : ℕ) (mapped : Bool) (line : FrameLine) → IsSoundFrame core f line → (is_vm line.owner ≡ true → mapped ≡ true) → IsClear (verdict_by core f mapped line)
frame-clear core f mapped line is there = record {
  core_owner = placed-core core f line.owner is.placed;
  linked = linked-right line.owner line.prev line.next (λ same. not-alone line.prev line.next (is.core_alone same)) (λ same. not-alone line.prev line.next (is.host_alone same));
  gfn = gfn-right mapped line.owner line.gfn is.mapped there;
  share = and-none (nat_lt 0 line.share) (not (is_vm line.owner)) (λ some. negates (is_vm line.owner) (is.sharer (ltb-true 0 line.share some)));
  present = reach-right line.present line.owner line.share is.reached;
  bytes = and-none (same_owner line.owner Free) (not (pointwise ◌==◌ line.digest (sha256 zero_page))) (λ free.
      negates (pointwise ◌==◌ line.digest (sha256 zero_page)) (pointwise-same line.digest (sha256 zero_page) (is.zeroed (same-is line.owner Free free))));
}
