-- How a life grows by one event more.
use Rattle.std.proofs.Common.{ℕ, ◌≡◌, ◌<◌, ◌≤◌, ◌+◌, ◌-◌, ◌^◌, ◌==◌, ◌&&◌, ◌||◌, max, Bool, true, false, cond, List, [], ◌∷◌, ◌++◌, length, map, filter, Option, Some, None, refl, sym, ap, ap₂, ◌∙◌, arith, append-nil}
use Rattle.std.specs.Option.{option_or}
use Rattle.std.proofs.lemmas.List.{map-append}
use Rattle.std.proofs.lemmas.Bool.{eq-eqb}
use Rattle.kc_types.specs.declared.slot.Phase.TheVariants.{Empty, Booting, Active, Dead}
use Rattle.kc_types.specs.declared.custody.Measurement.{Measurement}
use Rattle.kc_types.specs.declared.custody.Change.TheVariants as change
use Rattle.kc_types.specs.declared.custody.Event.{Event}
use Rattle.kc_types.specs.declared.custody.Event.TheVariants as event
use Rattle.kc_types.specs.declared.custody.FrameChange.{FrameChange}
use Rattle.kc_types.specs.declared.custody.PhaseChange.{PhaseChange}
use Rattle.kc_types.specs.declared.custody.Sharing.{Sharing}
use Rattle.kc_model.specs.Custody.{nothing_measured}
use Rattle.kc_model.specs.Lives.{life_in, is_owned_by, is_measuring, line_of_turn, measurement_told, is_gain, is_loss, is_read, is_write, frames_gained, count_different, sharings}
use Rattle.kc_custody.specs.declared.open_life.Stretch.{Stretch}
use Rattle.kc_custody.specs.Endings.{FrameEndings, HasEndingOf, line_of_ending, NotesEvent, NumbersStretches, begins_sharing}
use Rattle.kc_custody.specs.Growing.{Growing, with_member, gaining, losing, owning, sharing, sharing_of, stretch_from, first_measurement, is_open, Start, is_open_since, life_since, with_event, counted, AreMembers, HaveEndings, IsGrowing, HasRoomFor, EndsBy, concerns, TakesIn}
use Rattle.kc_custody.proofs.Counts.{counted-short}
use Rattle.kc_custody.proofs.Appended.{or-none, open-more, life-open, life-closed, line-more, measurement-more, measurement-kept, counted-more, gained-more, most-covers, most-more, members-more, ended_with, shared-more}

-- what is said of a life with one event more
abbrev pub counted_with : ℕ → Event → Growing → Growing
counted_with v e life = record life {
  active = option_or life.active (line_of_turn v Active (e ∷ []));
  dead = option_or life.dead (line_of_turn v Dead (e ∷ []));
  cleared = option_or life.cleared (line_of_turn v Empty (e ∷ []));
  measurement = first_measurement life.active life.dead life.measurement (measurement_told v (e ∷ []));
  gained = life.gained + length (filter (is_gain v) (e ∷ []));
  lost = life.lost + length (filter (is_loss v) (e ∷ []));
  most = max life.most (life.gained + length (filter (is_gain v) (e ∷ [])) - (life.lost + length (filter (is_loss v) (e ∷ []))));
  reads = life.reads + length (filter (is_read v) (e ∷ []));
  writes = life.writes + length (filter (is_write v) (e ∷ []));
}

pub counted-with : (v line : ℕ) (xs : List Event) (e : Event) → counted v line (xs ++ e ∷ []) ≡ counted_with v e (counted v line xs)
unfolding counted
counted-with v line xs e =
    rw (line-more v Active xs (e ∷ []), line-more v Dead xs (e ∷ []), line-more v Empty xs (e ∷ []), measurement-more v xs (e ∷ []), counted-more (is_gain v) xs (e ∷ []), counted-more (is_loss v) xs (e ∷ []), most-more v xs e, counted-more (is_read v) xs (e ∷ []), counted-more (is_write v) xs (e ∷ [])) refl

-- an event that says nothing of these
pub lines-kept : (v line : ℕ) (xs : List Event) → (l : Growing) → l ≡ counted v line xs
    → record l { active = option_or l.active None; dead = option_or l.dead None; cleared = option_or l.cleared None; measurement = first_measurement l.active l.dead l.measurement nothing_measured } ≡ l
unfolding counted
lines-kept v line xs l is = rw is (rw (or-none (line_of_turn v Active xs), or-none (line_of_turn v Dead xs), or-none (line_of_turn v Empty xs), measurement-kept v xs) refl)

most-kept : (v line : ℕ) (xs : List Event) (n : ℕ) → max (counted v line xs).most ((counted v line xs).gained - ((counted v line xs).lost + n)) ≡ (counted v line xs).most
unfolding counted
most-kept v line xs n = let covers = most-covers v xs in omega (arith, covers)

-- the stretches so far, with one event more
pub stretches-kept : (e : Event) (before after : List FrameEndings) → NotesEvent e before after → (shared : List Stretch) → HaveEndings before shared
    → (map (sharing_of after) shared ≡ map (ended_with e) (map (sharing_of before) shared)) × HaveEndings after shared
stretches-kept e before after noted [] have = (refl, tt)
stretches-kept e before after noted (s ∷ more) have =
    let here = noted.each s.frame s.ending have.0 in
    let rest = stretches-kept e before after noted more have.1 in
    (ap₂ (λ (line : Option ℕ) (ys : List Sharing). record { frame = s.frame; gfn = s.gfn; from = s.from; to = line } ∷ ys) here.1 rest.0, (here.0, rest.1))

have-more : (endings : List FrameEndings) (xs ys : List Stretch) → HaveEndings endings xs → HaveEndings endings ys → HaveEndings endings (xs ++ ys)
have-more endings [] ys first second = second
have-more endings (x ∷ xs) ys first second = (first.0, have-more endings xs ys first.1 second)

open-before : (e : Event) (start : Start) → is_open_since (with_event e start) ≡ true → is_open_since start ≡ true
open-before e start alive = by_open (is_open_since start) (is_open start.vm (e ∷ [])) (sym (open-more start.vm start.more e) ∙ alive)
  where
    by_open : (was is : Bool) → (was && is) ≡ true → was ≡ true
    by_open true is both = refl
    by_open false is both = both

-- the life stays as it is
pub grows-left : (e : Event) (start : Start) (before after : List FrameEndings) (life : Growing) → NotesEvent e before after
    → counted start.vm start.line (life_since (with_event e start)) ≡ counted start.vm start.line (life_since start)
    → frames_gained start.vm (life_since (with_event e start)) ≡ frames_gained start.vm (life_since start)
    → cond (is_open_since start) (sharings start.vm (e ∷ [])) [] ≡ []
    → IsGrowing before start life → IsGrowing after (with_event e start) life
grows-left e start before after life noted counts frames none is =
    let kept = stretches-kept e before after noted life.shared is.begun in
    record {
      counts = is.counts ∙ ap (λ (c : Growing). record c { frames = life.frames; members = life.members; shared = life.shared }) (sym counts);
      frames = is.frames ∙ ap count_different (sym frames);
      members = λ alive. rw frames (is.members (open-before e start alive));
      shared = kept.0 ∙ ap (map (ended_with e)) is.shared ∙ sym (append-nil (map (ended_with e) (sharings start.vm start.more))) ∙ ap (λ ys. map (ended_with e) (sharings start.vm start.more) ++ ys) (sym none) ∙ sym (shared-more start.vm start.more e);
      begun = kept.1;
    }

pub closed-left : (e : Event) (start : Start) (before after : List FrameEndings) (life : Growing) → NotesEvent e before after → is_open_since start ≡ false
    → IsGrowing before start life → IsGrowing after (with_event e start) life
closed-left e start before after life noted closed is =
    let same = life-closed start.vm start.more e closed in
    grows-left e start before after life noted (ap (counted start.vm start.line) same) (ap (frames_gained start.vm) same) (ap (λ (b : Bool). cond b (sharings start.vm (e ∷ [])) []) closed) is

-- an open life becomes another
pub grows : (e : Event) (start : Start) (before after : List FrameEndings) (old new : Growing) (begun : List Stretch) → NotesEvent e before after → is_open_since start ≡ true
    → new ≡ record (counted start.vm start.line (life_since (with_event e start))) { frames = new.frames; members = new.members; shared = new.shared }
    → new.frames ≡ count_different (frames_gained start.vm (life_since (with_event e start)))
    → (is_open_since (with_event e start) ≡ true → AreMembers (frames_gained start.vm (life_since (with_event e start))) new.members)
    → new.shared ≡ old.shared ++ begun → map (sharing_of after) begun ≡ sharings start.vm (e ∷ []) → HaveEndings after begun
    → IsGrowing before start old → IsGrowing after (with_event e start) new
grows e start before after old new begun noted alive counts frames members shared more have is =
    let kept = stretches-kept e before after noted old.shared is.begun in
    record {
      counts = counts;
      frames = frames;
      members = members;
      shared = ap (map (sharing_of after)) shared ∙ map-append (sharing_of after) old.shared begun ∙ ap₂ ◌++◌ (kept.0 ∙ ap (map (ended_with e)) is.shared) (more ∙ ap (λ (b : Bool). cond b (sharings start.vm (e ∷ [])) []) (sym alive)) ∙ sym (shared-more start.vm start.more e);
      begun = rw shared (have-more after old.shared begun kept.1 have);
    }

add-zero : (n : ℕ) → n + 0 ≡ n
add-zero n = omega arith

-- an event by which no frame is gained
counted-by : (v line : ℕ) (xs : List Event) (e : Event) (a d c : Option ℕ) (measured : Measurement) (l r w : ℕ)
    → line_of_turn v Active (e ∷ []) ≡ a → line_of_turn v Dead (e ∷ []) ≡ d → line_of_turn v Empty (e ∷ []) ≡ c → measurement_told v (e ∷ []) ≡ measured
    → length (filter (is_gain v) (e ∷ [])) ≡ 0 → length (filter (is_loss v) (e ∷ [])) ≡ l → length (filter (is_read v) (e ∷ [])) ≡ r → length (filter (is_write v) (e ∷ [])) ≡ w
    → counted v line (xs ++ e ∷ []) ≡ record (counted v line xs) {
      active = option_or (counted v line xs).active a;
      dead = option_or (counted v line xs).dead d;
      cleared = option_or (counted v line xs).cleared c;
      measurement = first_measurement (counted v line xs).active (counted v line xs).dead (counted v line xs).measurement measured;
      lost = (counted v line xs).lost + l;
      reads = (counted v line xs).reads + r;
      writes = (counted v line xs).writes + w;
    }
counted-by v line xs e a d c measured l r w ea ed ec ei eg el er ew =
    counted-with v line xs e ∙ rw (ea, ed, ec, ei, eg, el, er, ew, add-zero (counted v line xs).gained, most-kept v line xs l) refl

-- and which is no turn of the slot
counted-plain : (v line : ℕ) (xs : List Event) (e : Event) (l r w : ℕ)
    → line_of_turn v Active (e ∷ []) ≡ None → line_of_turn v Dead (e ∷ []) ≡ None → line_of_turn v Empty (e ∷ []) ≡ None → measurement_told v (e ∷ []) ≡ nothing_measured
    → length (filter (is_gain v) (e ∷ [])) ≡ 0 → length (filter (is_loss v) (e ∷ [])) ≡ l → length (filter (is_read v) (e ∷ [])) ≡ r → length (filter (is_write v) (e ∷ [])) ≡ w
    → counted v line (xs ++ e ∷ []) ≡ record (counted v line xs) { lost = (counted v line xs).lost + l; reads = (counted v line xs).reads + r; writes = (counted v line xs).writes + w }
counted-plain v line xs e l r w ea ed ec ei eg el er ew =
    counted-by v line xs e None None None nothing_measured l r w ea ed ec ei eg el er ew
    ∙ ap (λ (g : Growing). record g { lost = (counted v line xs).lost + l; reads = (counted v line xs).reads + r; writes = (counted v line xs).writes + w }) (lines-kept v line xs (counted v line xs) refl)

-- an event that says nothing of the slot
quiet-left : (e : Event) (start : Start) (before after : List FrameEndings) (life : Growing) → NotesEvent e before after → is_open_since start ≡ true
    → life_in start.vm (e ∷ []) ≡ e ∷ []
    → line_of_turn start.vm Active (e ∷ []) ≡ None → line_of_turn start.vm Dead (e ∷ []) ≡ None → line_of_turn start.vm Empty (e ∷ []) ≡ None → measurement_told start.vm (e ∷ []) ≡ nothing_measured
    → length (filter (is_gain start.vm) (e ∷ [])) ≡ 0 → length (filter (is_loss start.vm) (e ∷ [])) ≡ 0 → length (filter (is_read start.vm) (e ∷ [])) ≡ 0 → length (filter (is_write start.vm) (e ∷ [])) ≡ 0
    → frames_gained start.vm (e ∷ []) ≡ [] → sharings start.vm (e ∷ []) ≡ []
    → IsGrowing before start life → IsGrowing after (with_event e start) life
quiet-left e start before after life noted alive one ea ed ec ei eg el er ew frames none is =
    let v = start.vm in
    let c = counted v start.line (life_since start) in
    let more = life-open v start.more e alive ∙ ap (λ ys. life_since start ++ ys) one in
    grows-left e start before after life noted
    (ap (counted v start.line) more ∙ counted-plain v start.line (life_since start) e 0 0 0 ea ed ec ei eg el er ew ∙ rw (add-zero c.lost, add-zero c.reads, add-zero c.writes) refl)
    (ap (frames_gained v) more ∙ gained-more v (life_since start) (e ∷ []) ∙ ap (λ ys. frames_gained v (life_since start) ++ ys) frames ∙ append-nil (frames_gained v (life_since start)))
    (rw alive none) is

pub unconcerned-left : (e : Event) (start : Start) (before after : List FrameEndings) (life : Growing) → NotesEvent e before after → is_open_since start ≡ true → concerns start.vm e ≡ false
    → IsGrowing before start life → IsGrowing after (with_event e start) life
unconcerned-left (event.Change (change.Frame told)) start before after life noted alive other is = by_owners (is_owned_by start.vm told.before.owner) (is_owned_by start.vm told.after.owner) refl refl other
  where
    by_owners : (had has : Bool) → is_owned_by start.vm told.before.owner ≡ had → is_owned_by start.vm told.after.owner ≡ has → (had || has) ≡ false → IsGrowing after (with_event (event.Change (change.Frame told)) start) life
    by_owners true has before_is after_is none = cc
    by_owners false true before_is after_is none = cc
    by_owners false false before_is after_is none =
        quiet-left (event.Change (change.Frame told)) start before after life noted alive refl refl refl refl refl (rw (before_is, after_is) refl) (rw before_is refl) refl refl (rw (before_is, after_is) refl) (rw after_is refl) is
unconcerned-left (event.Change (change.Phase told)) start before after life noted alive other is =
    quiet-left (event.Change (change.Phase told)) start before after life noted alive (rw other refl) (rw other refl) (rw other refl) (rw other refl) (rw (is_measuring, other) refl) refl refl refl refl refl (rw other refl) is
unconcerned-left (event.Read w) start before after life noted alive other is =
    quiet-left (event.Read w) start before after life noted alive refl refl refl refl refl refl refl (rw other refl) refl refl refl is
unconcerned-left (event.Write w) start before after life noted alive other is =
    quiet-left (event.Write w) start before after life noted alive refl refl refl refl refl refl refl refl (rw other refl) refl refl is

-- an event of the slot by which its VM gains no frame, and shares none
grows-counts : (e : Event) (start : Start) (before after : List FrameEndings) (old new : Growing) → NotesEvent e before after → is_open_since start ≡ true
    → life_in start.vm (e ∷ []) ≡ e ∷ []
    → new ≡ record (counted start.vm start.line (life_since start ++ e ∷ [])) { frames = new.frames; members = new.members; shared = new.shared }
    → new.frames ≡ old.frames → (is_open start.vm (e ∷ []) ≡ true → new.members ≡ old.members) → new.shared ≡ old.shared
    → frames_gained start.vm (e ∷ []) ≡ [] → sharings start.vm (e ∷ []) ≡ []
    → IsGrowing before start old → IsGrowing after (with_event e start) new
grows-counts e start before after old new noted alive one counts frames members shared gained none is =
    let v = start.vm in
    let more : life_since (with_event e start) ≡ life_since start ++ e ∷ [] = life-open v start.more e alive ∙ ap (λ ys. life_since start ++ ys) one in
    let same : frames_gained v (life_since (with_event e start)) ≡ frames_gained v (life_since start) = ap (frames_gained v) more ∙ gained-more v (life_since start) (e ∷ []) ∙ ap (λ ys. frames_gained v (life_since start) ++ ys) gained ∙ append-nil (frames_gained v (life_since start)) in
    grows e start before after old new [] noted alive
    (counts ∙ ap (λ (ys : List Event). record (counted v start.line ys) { frames = new.frames; members = new.members; shared = new.shared }) (sym more))
    (frames ∙ is.frames ∙ ap count_different (sym same))
    (λ still. rw (same, members (open-last e start still)) (is.members alive))
    (shared ∙ sym (append-nil old.shared)) (sym none) tt is
  where
    open-last : (e : Event) (start : Start) → is_open_since (with_event e start) ≡ true → is_open start.vm (e ∷ []) ≡ true
    open-last e start still = by_open (is_open_since start) (is_open start.vm (e ∷ [])) (sym (open-more start.vm start.more e) ∙ still)
      where
        by_open : (was is : Bool) → (was && is) ≡ true → is ≡ true
        by_open true is both = both
        by_open false is both = cc

counts-short : (v line : ℕ) (more : List Event) → (((counted v line (life_in v more)).reads ≤ length more) × ((counted v line (life_in v more)).writes ≤ length more)) × (((counted v line (life_in v more)).gained ≤ length more) × ((counted v line (life_in v more)).lost ≤ length more))
unfolding counted
counts-short v line more = ((counted-short (is_read v) v more, counted-short (is_write v) v more), (counted-short (is_gain v) v more, counted-short (is_loss v) v more))

pub takes-read : (w ending : ℕ) (old new : Growing) → (old.reads + 1 < 2 ^ 64 → new ≡ record old { reads = old.reads + 1 }) → TakesIn (event.Read w) ending old new
takes-read w ending old new made = λ start before after room ends alive of is.
    let v = start.vm in
    let c = counted v start.line (life_since start) in
    let few : old.reads + 1 < 2 ^ 64 = let n = ap (λ (g : Growing). g.reads) is.counts in let short = (counts-short v start.line start.more).0.0 in omega (arith, n, short, room) in
    let same : (w == v) ≡ true = eq-eqb w v of in
    let step : counted v start.line (life_since start ++ event.Read w ∷ []) ≡ record c { reads = c.reads + 1 } =
    counted-plain v start.line (life_since start) (event.Read w) 0 1 0 refl refl refl refl refl refl (rw same refl) refl ∙ rw (add-zero c.lost, add-zero c.writes) refl in
    rw (made few) (grows-counts (event.Read w) start before after old (record old { reads = old.reads + 1 }) ends.noted alive refl
    (ap (λ (g : Growing). record g { reads = g.reads + 1 }) is.counts ∙ ap (λ (g : Growing). record g { frames = old.frames; members = old.members; shared = old.shared }) (sym step))
    refl (λ still. refl) refl refl refl is)

pub takes-write : (w ending : ℕ) (old new : Growing) → (old.writes + 1 < 2 ^ 64 → new ≡ record old { writes = old.writes + 1 }) → TakesIn (event.Write w) ending old new
takes-write w ending old new made = λ start before after room ends alive of is.
    let v = start.vm in
    let c = counted v start.line (life_since start) in
    let few : old.writes + 1 < 2 ^ 64 = let n = ap (λ (g : Growing). g.writes) is.counts in let short = (counts-short v start.line start.more).0.1 in omega (arith, n, short, room) in
    let same : (w == v) ≡ true = eq-eqb w v of in
    let step : counted v start.line (life_since start ++ event.Write w ∷ []) ≡ record c { writes = c.writes + 1 } =
    counted-plain v start.line (life_since start) (event.Write w) 0 0 1 refl refl refl refl refl refl refl (rw same refl) ∙ rw (add-zero c.lost, add-zero c.reads) refl in
    rw (made few) (grows-counts (event.Write w) start before after old (record old { writes = old.writes + 1 }) ends.noted alive refl
    (ap (λ (g : Growing). record g { writes = g.writes + 1 }) is.counts ∙ ap (λ (g : Growing). record g { frames = old.frames; members = old.members; shared = old.shared }) (sym step))
    refl (λ still. refl) refl refl refl is)

-- a slot's turn: it is active or dead from this line on, or cleared on it
turn-own : (v : ℕ) (told : PhaseChange) → told.vm ≡ v → (told.vm == v) ≡ true
turn-own v told of = eq-eqb told.vm v of

pub takes-active : (told : PhaseChange) (ending : ℕ) (old new : Growing) → told.phase ≡ Active
    → new ≡ record old { active = option_or old.active (Some told.line); measurement = first_measurement old.active old.dead old.measurement told.measurement } → TakesIn (event.Change (change.Phase told)) ending old new
takes-active told ending old new phase made = λ start before after room ends alive of is.
    let v = start.vm in
    let e = event.Change (change.Phase told) in
    let c = counted v start.line (life_since start) in
    let same = turn-own v told of in
    let step : counted v start.line (life_since start ++ e ∷ []) ≡ record c { active = option_or c.active (Some told.line); measurement = first_measurement c.active c.dead c.measurement told.measurement } =
    counted-by v start.line (life_since start) e (Some told.line) None None told.measurement 0 0 0 (rw (same, phase) refl) (rw (same, phase) refl) (rw (same, phase) refl) (rw (is_measuring, same, phase) refl) refl refl refl refl
    ∙ rw (or-none c.dead, or-none c.cleared, add-zero c.lost, add-zero c.reads, add-zero c.writes) refl in
    rw made (grows-counts e start before after old (record old { active = option_or old.active (Some told.line); measurement = first_measurement old.active old.dead old.measurement told.measurement }) ends.noted alive (rw (same, phase) refl)
    (ap (λ (g : Growing). record g { active = option_or g.active (Some told.line); measurement = first_measurement g.active g.dead g.measurement told.measurement }) is.counts ∙ ap (λ (g : Growing). record g { frames = old.frames; members = old.members; shared = old.shared }) (sym step))
    refl (λ still. refl) refl refl (rw (same, phase) refl) is)

pub takes-dead : (told : PhaseChange) (ending : ℕ) (old new : Growing) → told.phase ≡ Dead
    → new ≡ record old { dead = option_or old.dead (Some told.line); measurement = first_measurement old.active old.dead old.measurement told.measurement } → TakesIn (event.Change (change.Phase told)) ending old new
takes-dead told ending old new phase made = λ start before after room ends alive of is.
    let v = start.vm in
    let e = event.Change (change.Phase told) in
    let c = counted v start.line (life_since start) in
    let same = turn-own v told of in
    let step : counted v start.line (life_since start ++ e ∷ []) ≡ record c { dead = option_or c.dead (Some told.line); measurement = first_measurement c.active c.dead c.measurement told.measurement } =
    counted-by v start.line (life_since start) e None (Some told.line) None told.measurement 0 0 0 (rw (same, phase) refl) (rw (same, phase) refl) (rw (same, phase) refl) (rw (is_measuring, same, phase) refl) refl refl refl refl
    ∙ rw (or-none c.active, or-none c.cleared, add-zero c.lost, add-zero c.reads, add-zero c.writes) refl in
    rw made (grows-counts e start before after old (record old { dead = option_or old.dead (Some told.line); measurement = first_measurement old.active old.dead old.measurement told.measurement }) ends.noted alive (rw (same, phase) refl)
    (ap (λ (g : Growing). record g { dead = option_or g.dead (Some told.line); measurement = first_measurement g.active g.dead g.measurement told.measurement }) is.counts ∙ ap (λ (g : Growing). record g { frames = old.frames; members = old.members; shared = old.shared }) (sym step))
    refl (λ still. refl) refl refl (rw (same, phase) refl) is)

measurement-none : (v line : ℕ) (xs : List Event) → first_measurement (counted v line xs).active (counted v line xs).dead (counted v line xs).measurement nothing_measured ≡ (counted v line xs).measurement
unfolding counted
measurement-none v line xs = measurement-kept v xs

pub takes-empty : (told : PhaseChange) (ending : ℕ) (old new : Growing) → told.phase ≡ Empty
    → new ≡ record old { cleared = option_or old.cleared (Some told.line); members = [] } → TakesIn (event.Change (change.Phase told)) ending old new
takes-empty told ending old new phase made = λ start before after room ends alive of is.
    let v = start.vm in
    let e = event.Change (change.Phase told) in
    let c = counted v start.line (life_since start) in
    let same = turn-own v told of in
    let step : counted v start.line (life_since start ++ e ∷ []) ≡ record c { cleared = option_or c.cleared (Some told.line) } =
    counted-by v start.line (life_since start) e None None (Some told.line) nothing_measured 0 0 0 (rw (same, phase) refl) (rw (same, phase) refl) (rw (same, phase) refl) (rw (is_measuring, same, phase) refl) refl refl refl refl
    ∙ rw (or-none c.active, or-none c.dead, measurement-none v start.line (life_since start), add-zero c.lost, add-zero c.reads, add-zero c.writes) refl in
    rw made (grows-counts e start before after old (record old { cleared = option_or old.cleared (Some told.line); members = [] }) ends.noted alive (rw (same, phase) refl)
    (ap (λ (g : Growing). record g { cleared = option_or g.cleared (Some told.line); members = [] }) is.counts ∙ ap (λ (g : Growing). record g { frames = old.frames; members = []; shared = old.shared }) (sym step))
    refl (λ still. let ended : is_open v (e ∷ []) ≡ false = rw (same, phase) refl in let never = sym ended ∙ still in cc) refl refl (rw (same, phase) refl) is)

-- another life begins in the slot
pub takes-booting : (told : PhaseChange) (ending : ℕ) (old new : Growing) → told.phase ≡ Booting → new ≡ record old { members = [] } → TakesIn (event.Change (change.Phase told)) ending old new
takes-booting told ending old new phase made = λ start before after room ends alive of is.
    let v = start.vm in
    let e = event.Change (change.Phase told) in
    let same = turn-own v told of in
    let more : life_since (with_event e start) ≡ life_since start = life-open v start.more e alive ∙ rw (same, phase) (append-nil (life_since start)) in
    let ended : is_open v (e ∷ []) ≡ false = rw (same, phase) refl in
    rw made (grows e start before after old (record old { members = [] }) [] ends.noted alive
    (ap (λ (g : Growing). record g { members = [] }) is.counts ∙ ap (λ (ys : List Event). record (counted v start.line ys) { frames = old.frames; members = []; shared = old.shared }) (sym more))
    (is.frames ∙ ap (λ ys. count_different (frames_gained v ys)) (sym more))
    (λ still. let never = sym ended ∙ last-open (is_open_since start) (is_open v (e ∷ [])) (sym (open-more v start.more e) ∙ still) in cc)
    (sym (append-nil old.shared)) (rw (same, phase) refl) tt is)
  where
    last-open : (was is : Bool) → (was && is) ≡ true → is ≡ true
    last-open true is both = both
    last-open false is both = cc

-- the stretch that begins with the change of a frame, if one does
abbrev pub begun_by : Bool → FrameChange → ℕ → List Stretch
begun_by has told ending = cond (has && begins_sharing told) (stretch_from told ending ∷ []) []

sharing-is : (has : Bool) (told : FrameChange) (ending : ℕ) (life : Growing) → sharing has (begins_sharing told) (stretch_from told ending) life ≡ record life { shared = life.shared ++ begun_by has told ending }
sharing-is has told ending life = by_begins has (begins_sharing told)
  where
    by_begins : (has begins : Bool) → sharing has begins (stretch_from told ending) life ≡ record life { shared = life.shared ++ cond (has && begins) (stretch_from told ending ∷ []) [] }
    by_begins true true = refl
    by_begins true false = rw (append-nil life.shared) refl
    by_begins false begins = rw (append-nil life.shared) refl

begun-told : (v : ℕ) (told : FrameChange) (ending : ℕ) (after : List FrameEndings) (has : Bool) → is_owned_by v told.after.owner ≡ has → NumbersStretches told after ending
    → (map (sharing_of after) (begun_by has told ending) ≡ sharings v (event.Change (change.Frame told) ∷ [])) × HaveEndings after (begun_by has told ending)
begun-told v told ending after has owned numbered = rw owned (by_begins has (begins_sharing told) numbered)
  where
    by_begins : (has begins : Bool) → (begins ≡ true → HasEndingOf after told.frame ending × (line_of_ending after told.frame ending ≡ None))
        → (map (sharing_of after) (cond (has && begins) (stretch_from told ending ∷ []) []) ≡ cond (has && begins) (record { frame = told.frame; gfn = told.after.gfn; from = told.line; to = None } ∷ []) [] ++ []) × HaveEndings after (cond (has && begins) (stretch_from told ending ∷ []) [])
    by_begins true true numbered = (ap (λ (line : Option ℕ). record { frame = told.frame; gfn = told.after.gfn; from = told.line; to = line } ∷ []) (numbered refl).1, ((numbered refl).0, tt))
    by_begins true false numbered = (refl, tt)
    by_begins false begins numbered = (refl, tt)

counted-gain : (v line : ℕ) (xs : List Event) (told : FrameChange) → is_owned_by v told.before.owner ≡ false → is_owned_by v told.after.owner ≡ true
    → counted v line (xs ++ event.Change (change.Frame told) ∷ []) ≡ record (counted v line xs) { gained = (counted v line xs).gained + 1; most = max (counted v line xs).most ((counted v line xs).gained + 1 - (counted v line xs).lost) }
counted-gain v line xs told before after =
    let e = event.Change (change.Frame told) in
    let c = counted v line xs in
    let gains : length (filter (is_gain v) (e ∷ [])) ≡ 1 = rw (before, after) refl in
    let losses : length (filter (is_loss v) (e ∷ [])) ≡ 0 = rw before refl in
    counted-with v line xs e ∙ rw (gains, losses, add-zero c.lost, add-zero c.reads, add-zero c.writes) (ap (λ (g : Growing). record g { gained = c.gained + 1; most = max c.most (c.gained + 1 - c.lost) }) (lines-kept v line xs c refl))

counted-vm : (v line : ℕ) (xs : List Event) → (counted v line xs).vm ≡ v
unfolding counted
counted-vm v line xs = refl

-- the change of a frame that the VM does not gain by it
frame-kept : (start : Start) (told : FrameChange) (ending l : ℕ) (before after : List FrameEndings) (old : Growing) (has : Bool) → EndsBy (event.Change (change.Frame told)) ending before after → is_open_since start ≡ true
    → is_owned_by start.vm told.after.owner ≡ has → is_gain start.vm (event.Change (change.Frame told)) ≡ false → length (filter (is_loss start.vm) (event.Change (change.Frame told) ∷ [])) ≡ l
    → IsGrowing before start old → IsGrowing after (with_event (event.Change (change.Frame told)) start) (record old { lost = old.lost + l; shared = old.shared ++ begun_by has told ending })
frame-kept start told ending l before after old has ends alive owned gain loss is =
    let v = start.vm in
    let e = event.Change (change.Frame told) in
    let c = counted v start.line (life_since start) in
    let begun = begun_by has told ending in
    let more : life_since (with_event e start) ≡ life_since start ++ e ∷ [] = life-open v start.more e alive in
    let stretch = begun-told v told ending after has owned (ends.numbered told refl) in
    let none : frames_gained v (e ∷ []) ≡ [] = rw gain refl in
    let gained : frames_gained v (life_since (with_event e start)) ≡ frames_gained v (life_since start) = ap (frames_gained v) more ∙ gained-more v (life_since start) (e ∷ []) ∙ ap (λ ys. frames_gained v (life_since start) ++ ys) none ∙ append-nil (frames_gained v (life_since start)) in
    let step : counted v start.line (life_since (with_event e start)) ≡ record c { lost = c.lost + l } =
    ap (counted v start.line) more ∙ counted-plain v start.line (life_since start) e l 0 0 refl refl refl refl (rw gain refl) loss refl refl ∙ rw (add-zero c.reads, add-zero c.writes) refl in
    grows e start before after old (record old { lost = old.lost + l; shared = old.shared ++ begun }) begun ends.noted alive
    (ap (λ (g : Growing). record g { lost = g.lost + l; shared = old.shared ++ begun }) is.counts ∙ ap (λ (g : Growing). record g { frames = old.frames; members = old.members; shared = old.shared ++ begun }) (sym step))
    (is.frames ∙ ap count_different (sym gained)) (λ still. rw gained (is.members alive)) refl stretch.0 stretch.1 is

-- and of one that it gains
frame-gained : (start : Start) (told : FrameChange) (ending : ℕ) (before after : List FrameEndings) (old : Growing) → EndsBy (event.Change (change.Frame told)) ending before after → is_open_since start ≡ true
    → is_owned_by start.vm told.before.owner ≡ false → is_owned_by start.vm told.after.owner ≡ true
    → IsGrowing before start old → IsGrowing after (with_event (event.Change (change.Frame told)) start) (record (gaining told.frame old) { shared = old.shared ++ begun_by true told ending })
frame-gained start told ending before after old ends alive was owned is =
    let v = start.vm in
    let e = event.Change (change.Frame told) in
    let c = counted v start.line (life_since start) in
    let begun = begun_by true told ending in
    let new : Growing = record (gaining told.frame old) { shared = old.shared ++ begun } in
    let more : life_since (with_event e start) ≡ life_since start ++ e ∷ [] = life-open v start.more e alive in
    let stretch = begun-told v told ending after true owned (ends.numbered told refl) in
    let one : frames_gained v (e ∷ []) ≡ told.frame ∷ [] = rw (was, owned) refl in
    let gained : frames_gained v (life_since (with_event e start)) ≡ frames_gained v (life_since start) ++ told.frame ∷ [] = ap (frames_gained v) more ∙ gained-more v (life_since start) (e ∷ []) ∙ ap (λ ys. frames_gained v (life_since start) ++ ys) one in
    let step : counted v start.line (life_since (with_event e start)) ≡ record c { gained = c.gained + 1; most = max c.most (c.gained + 1 - c.lost) } =
    ap (counted v start.line) more ∙ counted-gain v start.line (life_since start) told was owned in
    let members : AreMembers (frames_gained v (life_since start) ++ told.frame ∷ []) (with_member old.members told.frame) = members-more (frames_gained v (life_since start)) old.members told.frame (is.members alive) in
    grows e start before after old new begun ends.noted alive
    (ap (λ (g : Growing). record g { frames = new.frames; members = new.members; gained = g.gained + 1; most = max g.most (g.gained + 1 - g.lost); shared = new.shared }) is.counts ∙ ap (λ (g : Growing). record g { frames = new.frames; members = new.members; shared = new.shared }) (sym step))
    (members.count ∙ ap count_different (sym gained)) (λ still. rw gained members) refl stretch.0 stretch.1 is

-- the change of a frame, by what its owners are to the VM
pub takes-frame : (told : FrameChange) (ending : ℕ) (old new : Growing)
    → (HasRoomFor old → new ≡ sharing (is_owned_by old.vm told.after.owner) (begins_sharing told) (stretch_from told ending) (owning (is_owned_by old.vm told.before.owner) (is_owned_by old.vm told.after.owner) told.frame old))
    → TakesIn (event.Change (change.Frame told)) ending old new
takes-frame told ending old new made = λ start before after room ends alive of is.
    let v = start.vm in
    let own : old.vm ≡ v = ap (λ (g : Growing). g.vm) is.counts ∙ counted-vm v start.line (life_since start) in
    let short = (counts-short v start.line start.more).1 in
    let few : HasRoomFor old = (let n = ap (λ (g : Growing). g.gained) is.counts in let s = short.0 in omega (arith, n, s, room), let n = ap (λ (g : Growing). g.lost) is.counts in let s = short.1 in omega (arith, n, s, room)) in
    by_owners start before after ends alive is (is_owned_by old.vm told.before.owner) (is_owned_by old.vm told.after.owner) (ap (λ w. is_owned_by w told.before.owner) (sym own)) (ap (λ w. is_owned_by w told.after.owner) (sym own)) (made few)
  where
    by_owners : (start : Start) (before after : List FrameEndings) → EndsBy (event.Change (change.Frame told)) ending before after → is_open_since start ≡ true → IsGrowing before start old
        → (had has : Bool) → is_owned_by start.vm told.before.owner ≡ had → is_owned_by start.vm told.after.owner ≡ has
        → new ≡ sharing has (begins_sharing told) (stretch_from told ending) (owning had has told.frame old) → IsGrowing after (with_event (event.Change (change.Frame told)) start) new
    by_owners start before after ends alive is false true was owned made = rw (made, sharing-is true told ending (gaining told.frame old)) (frame-gained start told ending before after old ends alive was owned is)
    by_owners start before after ends alive is true false was owned made = rw (made, sharing-is false told ending (losing old)) (frame-kept start told ending 1 before after old false ends alive owned (rw was refl) (rw (was, owned) refl) is)
    by_owners start before after ends alive is true true was owned made = rw (made, sharing-is true told ending old) (rw (add-zero old.lost) at (frame-kept start told ending 0 before after old true ends alive owned (rw was refl) (rw (was, owned) refl) is))
    by_owners start before after ends alive is false false was owned made = rw (made, sharing-is false told ending old) (rw (add-zero old.lost) at (frame-kept start told ending 0 before after old false ends alive owned (rw (was, owned) refl) (rw was refl) is))
