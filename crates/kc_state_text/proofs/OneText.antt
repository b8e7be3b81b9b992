-- A text is that of at most one state, and a text that is refused is not a state's.
use Rattle.std.proofs.Common.{ℕ, ◌≡◌, ◌≤◌, inl, inr, List, [], ◌∷◌, ◌++◌, length, map, get_or, Option, Some, None, All, true, false, refl, sym, ap, subst, ◌∙◌, append_assoc, arith, length-append}
use Rattle.std.specs.Prelude.{codes}
use Rattle.std.specs.List.{flat_map}
use Rattle.std.proofs.lemmas.List.{length-map, get_or_default}
use Rattle.std.proofs.lemmas.List.Elements.{All-map}
use Rattle.kc_types.specs.Configuration.{Configuration, slot_count, has_dump}
use Rattle.kc_types.specs.Limits.{byte_limit, slot_limit}
use Rattle.kc_types.proofs.Ranges.{same-version, few-frames as few_frames, few-slots as few_slots}
use Rattle.kc_types.specs.declared.owner.Owner.TheVariants.{Core}
use Rattle.kc_model.specs.State.{State, Frame, Slot, Vcpu, slot_at, untouched, no_slot, absent_vcpu}
use Rattle.kc_model.specs.Lawful.{IsLawful, IsPage, IsLawfulSlot}
use Rattle.kc_dump_text.specs.declared.fault.DumpFault.{DumpFault}
use Rattle.kc_dump_text.specs.declared.fault.DumpFault.TheVariants as dump
use Rattle.kc_dump_text.specs.DumpText.{dump_text}
use Rattle.kc_dump_text.specs.Grammar.{IsDumpText}
use Rattle.kc_dump_text.specs.Refused.{IsRefusedDump}
use Rattle.kc_dump_text.proofs.Followed.{one-dump, not-refused}
use Rattle.kc_snapshot.specs.Dumping.{dump_of}
use Rattle.kc_snapshot.specs.Told.{Told, SlotRest, slot_rest, rest_of, told_of}
use Rattle.kc_snapshot.specs.Unlawful.{IsUnlawful}
use Rattle.kc_snapshot.specs.declared.unlawful.Unlawful.{Unlawful}
use Rattle.kc_snapshot.specs.declared.unlawful.Unlawful.TheVariants as unlawful
use Rattle.kc_snapshot.proofs.InRange.{dump-in-range}
use Rattle.kc_state_text.specs.declared.sizes.Sizes as numbers
use Rattle.kc_state_text.specs.declared.fault.StateFault.{StateFault}
use Rattle.kc_state_text.specs.declared.fault.StateFault.TheVariants.{NoHeader, BadLine, Missing, Sizes, Found, Slot as BadSlot, Frame as BadFrame, Memory}
use Rattle.kc_model.specs.Volumes.{IsDigest, IsCoreState}
use Rattle.kc_state_text.specs.StateText.{Front, state_header, sizes_words, sizes_line, approved_words, approved_line, slot_words, slot_line, page_words, page_line, front_text, front_of, sizes_of, state_text}
use Rattle.kc_state_text.specs.Refused.{AreSizes, IsVcpuWord, IsSlotLine, IsFront, IsWholeFront, LacksLine, StopsBefore, StopsWithin, IsDumpFault, IsTextOf, TellsNone, IsRefusedState}
use Rattle.kc_state_text.proofs.Limits.{few-frames, few-slots, vcpus-of, few-gfns, few-images, few-bytes}
use Rattle.kc_state_text.proofs.Spelled.{AreNumbers, numbers-are-words, numbers-same, sizes-are-words, sizes-same, approved-are-words, approved-same, slot-are-words, slot-same, page-are-words, page-same}
use Rattle.kc_state_text.proofs.Followed.{first-same, lines-same, lines-go-on}

cancel : (a b c : List ℕ) → a ++ b ≡ a ++ c → b ≡ c
cancel [] b c e = e
cancel (x ∷ a) b c e = cancel a b c (let t : a ++ b ≡ a ++ c = cc in t)

-- ---- fronts

after-header : (f : Front) (rest : List ℕ) → front_text f ++ rest ≡ state_header ++ (sizes_line f.sizes ++ (flat_map approved_line f.approved ++ (flat_map slot_line f.slots ++ (flat_map page_line f.pages ++ rest))))
after-header f rest = regrouped state_header (sizes_line f.sizes) (flat_map approved_line f.approved) (flat_map slot_line f.slots) (flat_map page_line f.pages) rest
  where
    regrouped : (h s a b c r : List ℕ) → (h ++ (s ++ (a ++ (b ++ c)))) ++ r ≡ h ++ (s ++ (a ++ (b ++ (c ++ r))))
    regrouped h s a b c r = simp append_assoc

-- lines that give the same sizes, and what follows them
record SameSizes (f g : Front) (c d : List ℕ) : Type 0 where
  sizes : f.sizes ≡ g.sizes
  rest : flat_map approved_line f.approved ++ (flat_map slot_line f.slots ++ (flat_map page_line f.pages ++ c)) ≡ flat_map approved_line g.approved ++ (flat_map slot_line g.slots ++ (flat_map page_line g.pages ++ d))

sizes-told : (f g : Front) (c d : List ℕ) → IsFront f → IsFront g → front_text f ++ c ≡ front_text g ++ d → SameSizes f g c d
sizes-told f g c d x y e =
    let after = cancel state_header _ _ (sym (after-header f c) ∙ e ∙ after-header g d) in
    let both = first-same AreSizes (codes "config") sizes_words sizes-are-words sizes-same f.sizes g.sizes _ _ x.sizes y.sizes after in
    record { sizes = both.0; rest = both.1 }

-- a text has at most one whole front
fronts-same : (f g : Front) (c d : List ℕ) → IsFront f → IsFront g → IsWholeFront f → IsWholeFront g → front_text f ++ c ≡ front_text g ++ d → (f ≡ g) × (c ≡ d)
fronts-same f g c d x y v w e =
    let s = sizes-told f g c d x y e in
    let a1 = v.approved in let a2 = w.approved in let s1 = v.slots in let s2 = w.slots in let p1 = v.pages in let p2 = w.pages in
    let z1 = ap (λ (z : numbers.Sizes). z.approved) s.sizes in
    let z2 = ap (λ (z : numbers.Sizes). z.slots) s.sizes in
    let z3 = ap (λ (z : numbers.Sizes). z.frames) s.sizes in
    let one = lines-same IsDigest (codes "approved") approved_words approved-are-words approved-same f.approved g.approved _ _ x.approved y.approved (omega (arith, a1, a2, z1)) s.rest in
    let two = lines-same IsSlotLine (codes "slot") slot_words slot-are-words slot-same f.slots g.slots _ _ x.slots y.slots (omega (arith, s1, s2, z2)) one.1 in
    let three = lines-same IsPage (codes "page") page_words page-are-words page-same f.pages g.pages c d x.pages y.pages (omega (arith, p1, p2, z3)) two.1 in
    (λ i. record { sizes = s.sizes i; approved = one.0 i; slots = two.0 i; pages = three.0 i }, three.1)

-- a text that has a whole front lacks none of its lines
front-goes-on : (f g : Front) (c d : List ℕ) → IsFront f → IsFront g → IsWholeFront g → front_text f ++ c ≡ front_text g ++ d → LacksLine f c → ⊥
front-goes-on f g c d x y w e lacks = by_kind lacks
  where
    s : SameSizes f g c d
    s = sizes-told f g c d x y e

    z1 : f.sizes.approved ≡ g.sizes.approved
    z1 = ap (λ (z : numbers.Sizes). z.approved) s.sizes

    z2 : f.sizes.slots ≡ g.sizes.slots
    z2 = ap (λ (z : numbers.Sizes). z.slots) s.sizes

    z3 : f.sizes.frames ≡ g.sizes.frames
    z3 = ap (λ (z : numbers.Sizes). z.frames) s.sizes

    by_kind : LacksLine f c → ⊥
    by_kind (inl l) =
        let few = l.0 in let a = w.approved in
        let here : flat_map approved_line f.approved ++ c ≡ flat_map approved_line g.approved ++ (flat_map slot_line g.slots ++ (flat_map page_line g.pages ++ d)) =
        ap (λ (p : List SlotRest × List (List ℕ)). flat_map approved_line f.approved ++ (flat_map slot_line p.0 ++ (flat_map page_line p.1 ++ c))) (λ i. (sym l.1 i, sym l.2 i)) ∙ s.rest in
        lines-go-on IsDigest (codes "approved") approved_words approved-are-words approved-same f.approved g.approved c _ x.approved y.approved (omega (arith, few, a, z1)) here l.3
    by_kind (inr (inl l)) =
        let long = l.0 in let few = l.1 in let a = w.approved in let b = w.slots in
        let one = lines-same IsDigest (codes "approved") approved_words approved-are-words approved-same f.approved g.approved _ _ x.approved y.approved (omega (arith, long, a, z1)) s.rest in
        let here : flat_map slot_line f.slots ++ c ≡ flat_map slot_line g.slots ++ (flat_map page_line g.pages ++ d) =
        ap (λ (p : List (List ℕ)). flat_map slot_line f.slots ++ (flat_map page_line p ++ c)) (sym l.2) ∙ one.1 in
        lines-go-on IsSlotLine (codes "slot") slot_words slot-are-words slot-same f.slots g.slots c _ x.slots y.slots (omega (arith, few, b, z2)) here l.3
    by_kind (inr (inr l)) =
        let long = l.0 in let most = l.1 in let few = l.2 in let a = w.approved in let b = w.slots in let p = w.pages in
        let one = lines-same IsDigest (codes "approved") approved_words approved-are-words approved-same f.approved g.approved _ _ x.approved y.approved (omega (arith, long, a, z1)) s.rest in
        let two = lines-same IsSlotLine (codes "slot") slot_words slot-are-words slot-same f.slots g.slots _ _ x.slots y.slots (omega (arith, most, b, z2)) one.1 in
        lines-go-on IsPage (codes "page") page_words page-are-words page-same f.pages g.pages c d x.pages y.pages (omega (arith, few, p, z3)) two.1 l.3

-- ---- the front of a state

module _ (m : State) (is : IsCoreState m) (has : has_dump m.config.version ≡ true) where
  slot-fits : (slot : Slot) → IsLawfulSlot m.config slot → IsSlotLine (slot_rest slot)
  slot-fits slot l = record {
    vcpus = l.vcpus ∙ vcpus-of m.config.version has;
    each_vcpu = λ k d lt. (let here = l.each_vcpu k in let same = get_or_default slot.vcpus k d absent_vcpu lt in subst IsVcpuWord (sym same) (record { absent = vcpu-absent (get_or slot.vcpus k absent_vcpu) here.registered; gfn = λ g at. (let low = here.gfn g at in omega (arith, low, few-gfns m.config.version has)) }));
    few_images = let few = l.few_images in omega (arith, few, few-images m.config.version has);
    each_image = λ k d lt. (let image = l.each_image k d lt in let within = image.within in let small = image.small in let pages = image.pages in record {
      base = omega (arith, within, few-gfns m.config.version has);
      len = omega (arith, small, few-bytes m.config.version has);
      pages = omega (arith, pages, within, few-gfns m.config.version has);
    });
  }
    where
      vcpu-absent : (v : Vcpu) → ((g : ℕ) → v.fault ≡ Some g → v.registered ≡ true) → v.registered ≡ false → v.fault ≡ None
      vcpu-absent v fits off = by_fault v.fault refl
        where
          by_fault : (f : Option ℕ) → v.fault ≡ f → v.fault ≡ None
          by_fault None is = is
          by_fault (Some g) is = (let yes = fits g is in let clash : true ≡ false = sym yes ∙ off in absurd cc)

  pub slots-fit : All IsSlotLine (map slot_rest m.slots)
  slots-fit = All-map IsSlotLine slot_rest m.slots (λ k d lt. subst (λ slot. IsSlotLine (slot_rest slot)) (sym (get_or_default m.slots k d no_slot lt)) (slot-fits (slot_at m k) (is.lawful.each_slot k (rw is.lawful.slots at lt))))

  pub pages-fit : All IsPage (map (λ (frame : Frame). frame.bytes) m.frames)
  pages-fit = All-map IsPage (λ (frame : Frame). frame.bytes) m.frames (λ k d lt. subst (λ (frame : Frame). IsPage frame.bytes) (sym (get_or_default m.frames k d (untouched Core) lt)) (is.lawful.each_frame k lt).page)

  abbrev state-front : Front
  state-front = front_of (rest_of m)

  front-is : IsFront state-front
  front-is = record {
    sizes = record {
      slots = (let a = length-map m.slots slot_rest in let b = is.lawful.slots in let c = few-slots m.config has in omega (arith, a, b, c));
      frames = (let a = length-map m.frames (λ (frame : Frame). frame.bytes) in let b = is.lawful.frames in let c = few-frames m.config is.lawful.config has in omega (arith, a, b, c));
      host = (let a = few-frames m.config is.lawful.config has in let b = is.lawful.config.within in omega (arith, a, b));
      approved = is.lawful.config.few_digests;
    };
    approved = is.digests;
    slots = slots-fit;
    pages = pages-fit;
  }

  front-whole : IsWholeFront state-front
  front-whole = record { approved = refl; slots = refl; pages = refl }

  dumped : IsDumpText (dump_text (dump_of m)) (dump_of m)
  dumped = record { whole = refl; range = dump-in-range m is.lawful; has = has }

  dump-short : length (state_text m) ≤ byte_limit → length (dump_text (dump_of m)) ≤ byte_limit
  dump-short short = let a = length-append (front_text state-front) (dump_text (dump_of m)) in omega (arith, short, a)

  -- a state's text describes that state
  pub told-same : (t : Told) → IsTextOf (state_text m) t → length (state_text m) ≤ byte_limit → told_of m ≡ t
  told-same t told short =
      let both = fronts-same (front_of (rest_of m)) (front_of t.rest) (dump_text (dump_of m)) (dump_text t.dump) front-is told.front front-whole (record { approved = refl; slots = refl; pages = refl }) told.whole in
      let dumps = one-dump (dump_text (dump_of m)) (dump_of m) t.dump (dump-short short) dumped (subst (λ text. IsDumpText text t.dump) (sym both.1) told.dump) in
      λ i. record { rest = record { host = (both.0 i).sizes.host; approved = (both.0 i).approved; slots = (both.0 i).slots; pages = (both.0 i).pages }; dump = dumps i }

  tells-it : IsTextOf (state_text m) (told_of m)
  tells-it = record { whole = refl; front = front-is; dump = dumped }

  -- ---- why a text is not a state's

  not-before : (text : List ℕ) (n : ℕ) → text ≡ state_text m → StopsBefore text n → ⊥
  not-before text n e (inl stop) =
      let rest = stop.1 in
      let after = cancel state_header _ _ (sym (after-header state-front (dump_text (dump_of m))) ∙ sym e ∙ rest.1) in
      rest.2 state-front.sizes _ front-is.sizes (sym after)
  not-before text n e (inr stop) = front-goes-on stop.0 state-front stop.1 (dump_text (dump_of m)) stop.2.front front-is front-whole (sym stop.2.whole ∙ e) stop.3

  no-dump-fault : (f : Front) (rest : List ℕ) (fault : DumpFault) → rest ≡ dump_text (dump_of m) → length (state_text m) ≤ byte_limit → (fault ≡ dump.Memory → ⊥) → IsRefusedDump rest fault → ⊥
  no-dump-fault f rest fault e short other r = other (not-refused (dump_text (dump_of m)) (dump_of m) fault (dump-short short) dumped (subst (λ text. IsRefusedDump text fault) e r))

  by-dump : (f : Front) (rest : List ℕ) (fault : StateFault) → rest ≡ dump_text (dump_of m) → length (state_text m) ≤ byte_limit → IsDumpFault f rest fault → ⊥
  by-dump f rest NoHeader e short w = w
  by-dump f rest (BadLine n) e short (inl w) = no-dump-fault f rest dump.NoHeader e short (λ same. absurd cc) w.0
  by-dump f rest (BadLine n) e short (inr w) = no-dump-fault f rest (dump.BadLine w.0) e short (λ same. absurd cc) w.1
  by-dump f rest (Missing g) e short w = no-dump-fault f rest (dump.Frame g) e short (λ same. absurd cc) w
  by-dump f rest Sizes e short w = w
  by-dump f rest (Found finding) e short w = w
  by-dump f rest (BadSlot v) e short w = w
  by-dump f rest (BadFrame g) e short w = w
  by-dump f rest Memory e short w = w

  not-within : (text : List ℕ) (fault : StateFault) → text ≡ state_text m → length (state_text m) ≤ byte_limit → StopsWithin text fault → ⊥
  not-within text fault e short s =
      let both = fronts-same s.front state-front s.rest (dump_text (dump_of m)) s.begins.front front-is s.whole front-whole (sym s.begins.whole ∙ e) in
      by-dump s.front s.rest fault both.1 short s.why

slots-few : (config : Configuration) → slot_count config ≤ slot_limit
unfolding slot_count
slots-few config = few_slots config.version

-- the sizes of a state of any version
numbers-of : (m : State) → IsCoreState m → AreNumbers (sizes_of (rest_of m))
numbers-of m is =
    let few = few_frames m.config.version m.config.frames is.lawful.config.few_frames in
    let within = is.lawful.config.within in
    let digests = is.lawful.config.few_digests in
    record {
      slots = (let a = length-map m.slots slot_rest in let b = is.lawful.slots in let c = slots-few m.config in omega (arith, a, b, c));
      frames = (let a = length-map m.frames (λ (frame : Frame). frame.bytes) in let b = is.lawful.frames in omega (arith, a, b, few));
      host = omega (arith, few, within);
      approved = omega (arith, digests);
    }

-- states of one text have one version, since they have as many slots
version-told : (m n : State) → IsCoreState m → IsCoreState n → state_text m ≡ state_text n → m.config.version ≡ n.config.version
version-told m n is-m is-n e =
    let after = cancel state_header _ _ (sym (after-header (front_of (rest_of m)) (dump_text (dump_of m))) ∙ e ∙ after-header (front_of (rest_of n)) (dump_text (dump_of n))) in
    let both = first-same AreNumbers (codes "config") sizes_words numbers-are-words numbers-same (sizes_of (rest_of m)) (sizes_of (rest_of n)) _ _ (numbers-of m is-m) (numbers-of n is-n) after in
    let slots : length (map slot_rest m.slots) ≡ length (map slot_rest n.slots) = ap (λ (z : numbers.Sizes). z.slots) both.0 in
    same-version m.config n.config (sym is-m.lawful.slots ∙ sym (length-map m.slots slot_rest) ∙ slots ∙ length-map n.slots slot_rest ∙ is-n.lawful.slots)

pub one-text : ((m n : State) → IsLawful m → IsLawful n → told_of m ≡ told_of n → m ≡ n) → (m n : State) → has_dump m.config.version ≡ true → IsCoreState m → IsCoreState n → length (state_text m) ≤ byte_limit → state_text m ≡ state_text n → m ≡ n
one-text one m n has is-m is-n short e =
    let has-n = subst (λ version. has_dump version ≡ true) (version-told m n is-m is-n e) has in
    one m n is-m.lawful is-n.lawful (told-same m is-m has (told_of n) (subst (λ text. IsTextOf text (told_of n)) (sym e) (tells-it n is-n has-n)) short)

abbrev pub Refuses : Type 0
Refuses = (t : Told) (why : Unlawful) → (why ≡ unlawful.Memory → ⊥) → IsUnlawful t why → (m : State) → IsLawful m → told_of m ≡ t → ⊥

not-told : Refuses → (m : State) → has_dump m.config.version ≡ true → IsCoreState m → (text : List ℕ) (why : Unlawful) → text ≡ state_text m → length (state_text m) ≤ byte_limit → (why ≡ unlawful.Memory → ⊥) → TellsNone text why → ⊥
not-told refuses m has is text why e short other tells = refuses tells.0 why other tells.2 m is.lawful (told-same m is has tells.0 (subst (λ text. IsTextOf text tells.0) e tells.1) short)

pub no-state : Refuses → (text : List ℕ) (fault : StateFault) → (fault ≡ Memory → ⊥) → IsRefusedState text fault → (m : State) → has_dump m.config.version ≡ true → IsCoreState m → length text ≤ byte_limit → text ≡ state_text m → ⊥
no-state refuses text NoHeader other r m has is short e = r _ (e ∙ after-header (front_of (rest_of m)) (dump_text (dump_of m)))
no-state refuses text (BadLine n) other (inl r) m has is short e = not-before m is has text n e r
no-state refuses text (BadLine n) other (inr r) m has is short e = not-within m is has text (BadLine n) e (subst (λ (l : List ℕ). length l ≤ byte_limit) e short) r
no-state refuses text (Missing f) other r m has is short e = not-within m is has text (Missing f) e (subst (λ (l : List ℕ). length l ≤ byte_limit) e short) r
no-state refuses text Sizes other r m has is short e = not-told refuses m has is text unlawful.Sizes e (subst (λ (l : List ℕ). length l ≤ byte_limit) e short) (λ same. absurd cc) r
no-state refuses text (Found finding) other r m has is short e = not-told refuses m has is text (unlawful.Found finding) e (subst (λ (l : List ℕ). length l ≤ byte_limit) e short) (λ same. absurd cc) r
no-state refuses text (BadSlot v) other r m has is short e = not-told refuses m has is text (unlawful.Slot v) e (subst (λ (l : List ℕ). length l ≤ byte_limit) e short) (λ same. absurd cc) r
no-state refuses text (BadFrame f) other r m has is short e = not-told refuses m has is text (unlawful.Frame f) e (subst (λ (l : List ℕ). length l ≤ byte_limit) e short) (λ same. absurd cc) r
no-state refuses text Memory other r m has is short e = other refl
