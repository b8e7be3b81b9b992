-- What each list call does to a chain.
use Rattle.std.proofs.Common.{ℕ, ◌≡◌, ◌<◌, ◌+◌, ◌-◌, inl, inr, List, [], ◌∷◌, ◌++◌, length-append, Option, Some, None, eq-eqb, refl, sym, ap, subst, ◌∙◌, arith}
use Rattle.kc_model.specs.Lawful.{times_in}
use Rattle.kc_model.specs.Effects.{without}
use Rattle.kc_model.proofs.States.Members.{times_in-append, IsOnce, once-rest}
use Rattle.kc_types.specs.declared.link.Link.{Link}
use Rattle.kc_types.specs.declared.link.Ends.{Ends}
use Rattle.kc_links.specs.Chain.{Links, unlinked, with_link, pointing_forward, pointing_back, first_or, last_or, NamesNeighbours}
use Rattle.kc_links.specs.Ending.{Chain, listed, IsList, AreApart, starting, stopping}
use Rattle.kc_links.proofs.Times.{times-same, once-first, without-none, Around, around}
use Rattle.kc_links.proofs.Linked.{with_link-same, with_link-other, forward-other, back-other, first-where, last-where, last-append, linked-same, linked-split, linked-join, linked-forward, linked-back}
use Rattle.kc_links.proofs.Once.{linked-once, spelled-linked}

-- a chain's sequence is the one that the links spell
pub chain-listed : (m : Links) (ends : Ends) (fs : List ℕ) → Chain m ends fs → listed m ends ≡ fs
unfolding listed
chain-listed m ends fs chain = rw (chain.count, chain.head) (spelled-linked m None fs chain.linked)

pub chain-is_list : (m : Links) (ends : Ends) (fs : List ℕ) → Chain m ends fs → IsList m ends
chain-is_list m ends fs chain = rw (chain-listed m ends fs chain) chain

pub chain-once : (m : Links) (ends : Ends) (fs : List ℕ) → Chain m ends fs → IsOnce fs
chain-once m ends fs chain = linked-once m None fs None 0 chain.linked refl

pub stopping-count : (ends : Ends) (at prev : Option ℕ) → (stopping ends at prev).count ≡ ends.count
stopping-count ends None prev = refl
stopping-count ends (Some f) prev = refl

-- the links and ends after a frame is appended
abbrev pub links_appended : Links → Ends → ℕ → Links
links_appended m ends f = with_link (pointing_forward m ends.tail (Some f)) f (record { prev = ends.tail; next = None })

abbrev pub ends_appended : Ends → ℕ → Ends
ends_appended ends f = let moved = starting ends ends.tail (Some f) in record moved { tail = Some f; count = moved.count + 1 }

-- the start of the list stays if the frame is put after another
pub starting-later : (x : ℕ) (xs : List ℕ) (ends : Ends) (next : Option ℕ) → starting ends (last_or (Some x) xs) next ≡ ends
starting-later x [] ends next = refl
starting-later x (y ∷ ys) ends next = starting-later y ys ends next

pub start-append : (a b : List ℕ) (ends : Ends) → ends.head ≡ first_or None a → (starting ends (last_or None a) (first_or None b)).head ≡ first_or None (a ++ b)
start-append [] b ends head = refl
start-append (x ∷ xs) b ends head = rw (starting-later x xs ends (first_or None b)) head

pub starting-tail : (ends : Ends) (at next : Option ℕ) → (starting ends at next).tail ≡ ends.tail
starting-tail ends None next = refl
starting-tail ends (Some f) next = refl

pub starting-count : (ends : Ends) (at next : Option ℕ) → (starting ends at next).count ≡ ends.count
starting-count ends None next = refl
starting-count ends (Some f) next = refl

pub chain-append : (m : Links) (ends : Ends) (fs : List ℕ) (f : ℕ) → Chain m ends fs → times_in fs f ≡ 0 → Chain (links_appended m ends f) (ends_appended ends f) (fs ++ f ∷ [])
chain-append m ends fs f chain apart = record {
  head = ap (λ at. (starting ends at (Some f)).head) chain.tail ∙ start-append fs (f ∷ []) ends chain.head;
  tail = sym (last-append None fs (f ∷ []));
  count = let c = chain.count in let l = length-append fs (f ∷ []) in let k = starting-count ends ends.tail (Some f) in omega (arith, c, l, k);
  linked = let once = chain-once m ends fs chain in let grown : Links = pointing_forward m (last_or None fs) (Some f) in
      rw chain.tail (linked-join _ None fs (f ∷ []) None
      (linked-same grown _ None fs (Some f) (linked-forward m None fs None (Some f) chain.linked once)
      (λ g some. with_link-other grown f _ g (λ same. let some_f : 0 < times_in fs f = rw same at some in absurd (omega arith))))
      (with_link-same grown f _, tt));
}

-- the links after a frame between these two is taken off
abbrev pub links_unlinked : Links → ℕ → Link → Links
links_unlinked m f link = with_link (pointing_back (pointing_forward m link.prev link.next) link.next link.prev) f unlinked

abbrev pub ends_unlinked : Ends → Link → Ends
ends_unlinked ends link = let moved = stopping (starting ends link.prev link.next) link.next link.prev in record moved { count = moved.count - 1 }

-- the link of a frame between these lists
abbrev pub between : List ℕ → List ℕ → Link
between a b = record { prev = last_or None a; next = first_or None b }

pub stopping-head : (ends : Ends) (at prev : Option ℕ) → (stopping ends at prev).head ≡ ends.head
stopping-head ends None prev = refl
stopping-head ends (Some f) prev = refl

pub starting-first : (a b : List ℕ) (f : ℕ) (ends : Ends) → ends.head ≡ first_or None (a ++ f ∷ b) → (starting ends (last_or None a) (first_or None b)).head ≡ first_or None (a ++ b)
starting-first [] b f ends head = refl
starting-first (x ∷ xs) b f ends head = ap (λ e. e.head) (starting-later x xs ends (first_or None b)) ∙ head

pub stopping-last : (a b : List ℕ) (f : ℕ) (ends : Ends) → ends.tail ≡ last_or None (a ++ f ∷ b) → (stopping ends (first_or None b) (last_or None a)).tail ≡ last_or None (a ++ b)
stopping-last a [] f ends tail = sym (last-append None a [])
stopping-last a (x ∷ xs) f ends tail = tail ∙ last-append None a (f ∷ x ∷ xs) ∙ sym (last-append None a (x ∷ xs))

-- two linked parts that share no frame are joined
pub linked-joined : (m : Links) (a b : List ℕ) (middle before : Option ℕ) → NamesNeighbours m None a middle → NamesNeighbours m before b None → IsOnce a → IsOnce b → AreApart a b → NamesNeighbours (pointing_back (pointing_forward m (last_or None a) (first_or None b)) (first_or None b) (last_or None a)) None (a ++ b) None
linked-joined m a b middle before front back once_a once_b apart = linked-join _ None a b None
    (linked-same _ _ None a (first_or None b) (linked-forward m None a middle (first_or None b) front once_a)
    (λ g some. back-other _ (first_or None b) (last_or None a) g (λ first. elim (first-where None b g first) [
      | inl none ↦ absurd cc
      | inr in_b ↦ let none = apart g some in absurd (omega (arith, none, in_b))
    ])))
    (linked-back _ before b None (last_or None a)
    (linked-same m _ before b None back
    (λ g some. forward-other m (last_or None a) (first_or None b) g (λ last. elim (last-where None a g last) [
      | inl none ↦ absurd cc
      | inr in_a ↦ let none = apart g in_a in absurd (omega (arith, none, some))
    ])))
    once_b)

pub once-parts : (a b : List ℕ) → IsOnce (a ++ b) → IsOnce a × IsOnce b × AreApart a b
once-parts a b once = (
  λ g. let h = once g in let e = times_in-append a b g in omega (arith, h, e),
  λ g. let h = once g in let e = times_in-append a b g in omega (arith, h, e),
  λ g some. let h = once g in let e = times_in-append a b g in omega (arith, h, e, some),
)

-- the link of the frame between two parts of a chain
pub between-link : (m : Links) (a b : List ℕ) (f : ℕ) → NamesNeighbours m None (a ++ f ∷ b) None → m f ≡ Some (between a b)
between-link m a b f linked = (linked-split m None a (f ∷ b) None linked).1.0

pub linked-unlink : (m : Links) (a b : List ℕ) (f : ℕ) → NamesNeighbours m None (a ++ f ∷ b) None → NamesNeighbours (links_unlinked m f (between a b)) None (a ++ b) None
linked-unlink m a b f linked =
    let once = linked-once m None (a ++ f ∷ b) None 0 linked refl in
    let parts = linked-split m None a (f ∷ b) None linked in
    let split = once-parts a (f ∷ b) once in
    let joined : Links = pointing_back (pointing_forward m (last_or None a) (first_or None b)) (first_or None b) (last_or None a) in
    let apart : AreApart a b = λ g some. let none = split.2 g some in omega (arith, none) in
    linked-same joined _ None (a ++ b) None
    (linked-joined m a b (Some f) (Some f) parts.0 parts.1.1 split.0 (once-rest f b split.1) apart)
    (λ g some. with_link-other joined f unlinked g (λ same.
    let here = times_in-append a b f in let whole = times_in-append a (f ∷ b) f in let first = times-same f b in let one = once f in
    let some_f : 0 < times_in (a ++ b) f = rw same at some in absurd (omega (arith, here, whole, first, one))))

pub chain-unlink : (m : Links) (ends : Ends) (a b : List ℕ) (f : ℕ) → Chain m ends (a ++ f ∷ b) → Chain (links_unlinked m f (between a b)) (ends_unlinked ends (between a b)) (a ++ b)
chain-unlink m ends a b f chain = record {
  head = stopping-head _ (first_or None b) (last_or None a) ∙ starting-first a b f ends chain.head;
  tail = stopping-last a b f (starting ends (last_or None a) (first_or None b)) (starting-tail ends (last_or None a) (first_or None b) ∙ chain.tail);
  count = let c = chain.count in let l = length-append a (f ∷ b) in let k = length-append a b in
      let same = stopping-count (starting ends (last_or None a) (first_or None b)) (first_or None b) (last_or None a) ∙ starting-count ends (last_or None a) (first_or None b) in omega (arith, c, l, k, same);
  linked = linked-unlink m a b f chain.linked;
}

-- the links and ends after one list is appended to another
abbrev pub links_spliced : Links → Ends → Ends → Links
links_spliced m to from = pointing_back (pointing_forward m to.tail from.head) from.head to.tail

abbrev pub ends_spliced : Ends → Ends → Ends
ends_spliced to from = let moved = starting to to.tail from.head in record moved { tail = from.tail; count = moved.count + from.count }

pub chain-splice : (m : Links) (to from : Ends) (a : List ℕ) (x : ℕ) (xs : List ℕ) → Chain m to a → Chain m from (x ∷ xs) → AreApart a (x ∷ xs) → Chain (links_spliced m to from) (ends_spliced to from) (a ++ x ∷ xs)
chain-splice m to from a x xs chain_to chain_from apart = record {
  head = ap (λ at. (starting to at from.head).head) chain_to.tail ∙ ap (λ next. (starting to (last_or None a) next).head) chain_from.head ∙ start-append a (x ∷ xs) to chain_to.head;
  tail = chain_from.tail ∙ sym (last-append None a (x ∷ xs));
  count = let c = chain_to.count in let d = chain_from.count in let l = length-append a (x ∷ xs) in let k = starting-count to to.tail from.head in omega (arith, c, d, l, k);
  linked = rw (chain_to.tail, chain_from.head) (linked-joined m a (x ∷ xs) None None chain_to.linked chain_from.linked (chain-once m to a chain_to) (chain-once m from (x ∷ xs) chain_from) apart);
}

-- what a call leaves, from the links and ends that it leaves
pub leaves-list : (m n : Links) (ends new : Ends) (fs : List ℕ) → n ≡ m → new ≡ ends → Chain m ends fs → IsList n new
leaves-list m n ends new fs links same chain = rw (links, same) (chain-is_list m ends fs chain)

pub leaves-frames : (m n : Links) (ends new : Ends) (fs : List ℕ) → n ≡ m → new ≡ ends → Chain m ends fs → listed n new ≡ fs
leaves-frames m n ends new fs links same chain = rw (links, same) (chain-listed m ends fs chain)

-- a frame of the list, in the form that an answer to a call uses
pub list-between : (m : Links) (ends : Ends) (f : ℕ) (link : Link) → (list : IsList m ends) → (some : 0 < times_in (listed m ends) f) → m f ≡ Some link → (parts : Around (listed m ends) f) → link ≡ between parts.before parts.after
list-between m ends f link list some is parts =
    let linked : NamesNeighbours m None (parts.before ++ f ∷ parts.after) None = subst (λ l. NamesNeighbours m None l None) parts.whole list.linked in
    let there = between-link m parts.before parts.after f linked in cc

pub list-unlink : (m : Links) (ends : Ends) (f : ℕ) (link : Link) → IsList m ends → 0 < times_in (listed m ends) f → m f ≡ Some link → Chain (links_unlinked m f link) (ends_unlinked ends link) (without (listed m ends) f)
list-unlink m ends f link list some is =
    let parts = around (listed m ends) f (chain-once m ends (listed m ends) list) some in
    let chain : Chain m ends (parts.before ++ f ∷ parts.after) = subst (λ l. Chain m ends l) parts.whole list in
    rw (list-between m ends f link list some is parts, parts.others) (chain-unlink m ends parts.before parts.after f chain)

splice-some : (m : Links) (to from : Ends) (a b : List ℕ) (first : ℕ) → Chain m to a → Chain m from b → AreApart a b → from.head ≡ Some first → Chain (links_spliced m to from) (ends_spliced to from) (a ++ b)
splice-some m to from a [] first chain_to chain_from apart is = let none = chain_from.head in absurd cc
splice-some m to from a (x ∷ xs) first chain_to chain_from apart is = chain-splice m to from a x xs chain_to chain_from apart

pub list-splice : (m : Links) (to from : Ends) (first : ℕ) → IsList m to → IsList m from → AreApart (listed m to) (listed m from) → from.head ≡ Some first → Chain (links_spliced m to from) (ends_spliced to from) (listed m to ++ listed m from)
list-splice m to from first list other apart is = splice-some m to from (listed m to) (listed m from) first list other apart is

-- a list with no first frame is empty
none-listed : (m : Links) (ends : Ends) (fs : List ℕ) → Chain m ends fs → ends.head ≡ None → fs ≡ []
none-listed m ends [] chain none = refl
none-listed m ends (f ∷ fs) chain none = let some = chain.head in absurd cc

pub list-none : (m : Links) (ends : Ends) → IsList m ends → ends.head ≡ None → listed m ends ≡ []
list-none m ends list none = none-listed m ends (listed m ends) list none

-- taking the first frame off a list leaves the others
first-without : (m : Links) (ends : Ends) (fs : List ℕ) (f : ℕ) → Chain m ends fs → ends.head ≡ Some f → fs ≡ f ∷ without fs f
first-without m ends [] f chain is = let none = chain.head in absurd cc
first-without m ends (x ∷ xs) f chain is =
    let e : x ≡ f = (let some = chain.head in cc) in
    let once = chain-once m ends (x ∷ xs) chain in
    rw (eq-eqb x f e) (ap (λ y. y ∷ xs) e ∙ ap (λ l. f ∷ l) (sym (without-none xs f (rw (← e) (once-first x xs once)))))

pub list-first : (m : Links) (ends : Ends) (f : ℕ) → IsList m ends → ends.head ≡ Some f → listed m ends ≡ f ∷ without (listed m ends) f
list-first m ends f list is = first-without m ends (listed m ends) f list is
