-- The entries of the map that a look-up function is, by ascending guest frame.
use Rattle.std.proofs.Common.{ℕ, zero, suc, ◌≡◌, ◌<◌, ◌≤◌, ◌+◌, ◌-◌, ◌*◌, ◌/◌, ◌%◌, get_or, List, [], ◌∷◌, ◌++◌, length, take, Option, Some, None, refl, sym, ap, subst, ◌∙◌, arith}
use Rattle.std.proofs.lemmas.List.{append-nil, get_or_past, take_more}
use Rattle.std.specs.declared.cmp.Ordering.{Ordering}
use Rattle.std.specs.declared.cmp.Ordering.TheVariants.{Less, Equal, Greater}
use Rattle.std.specs.Ordering.{nat_cmp}
use Rattle.std.specs.Cmp.{nat_cmp_total, ranked}
use Rattle.std.specs.FinMap.{FinMap, entries, empty, insert, entries-insert, len-entries, len-empty}
use Rattle.std.specs.FinMap.Entries as entry
use Rattle.kc_vms.proofs.Maps.{keys-other}
use Rattle.kc_vms.specs.TablePool.{Pool, entry_at}
use Rattle.kc_vms.specs.Levels.{put, map_of, look_up, mapped_by}

-- the entry of a guest frame, if it is mapped
abbrev pub entry_of : Option ℕ → ℕ → List (ℕ × ℕ)
entry_of None g = []
entry_of (Some f) g = (g, f) ∷ []

-- all guest frames are below this one
pub AreLow : ℕ → List (ℕ × ℕ) → Type 0
AreLow n [] = Unit {0}
AreLow n (e ∷ es) = (e.0 < n) × AreLow n es

low-more : (n k : ℕ) (es : List (ℕ × ℕ)) → n ≤ k → AreLow n es → AreLow k es
unfolding AreLow
low-more n k [] le low = tt
low-more n k (e ∷ es) le low = (let l = low.0 in omega (arith, l, le), low-more n k es le low.1)

low-push : (n f : ℕ) (es : List (ℕ × ℕ)) → AreLow n es → AreLow (suc n) (es ++ (n, f) ∷ [])
unfolding AreLow
low-push n f [] low = (omega arith, tt)
low-push n f (e ∷ es) low = (let l = low.0 in omega (arith, l), low-push n f es low.1)

greater : (n k : ℕ) → k < n → (o : Ordering) → nat_cmp n k ≡ o → o ≡ Greater
greater n k low Less is = let r = ranked n k Less (sym is) in absurd (omega (arith, r, low))
greater n k low Equal is = let r = ranked n k Equal (sym is) in absurd (omega (arith, r, low))
greater n k low Greater is = refl

put-last : (n f : ℕ) (es : List (ℕ × ℕ)) → AreLow n es → entry.put nat_cmp n f es ≡ es ++ (n, f) ∷ []
unfolding AreLow
put-last n f [] low = refl
put-last n f (e ∷ es) low = rw (greater n e.0 low.0 (nat_cmp n e.0) refl) (ap (λ l. e ∷ l) (put-last n f es low.1))

no-length : (es : List (ℕ × ℕ)) → length es ≡ 0 → es ≡ []
no-length [] e = refl
no-length (x ∷ xs) e = absurd (omega (arith, e))

pub empty-entries : entries (empty {X = ℕ} {R = nat_cmp}) ≡ []
empty-entries = no-length (entries (empty {X = ℕ} {R = nat_cmp})) (sym (len-entries (empty {X = ℕ} {R = nat_cmp})) ∙ len-empty nat_cmp ℕ)

pub insert-last : (m : FinMap nat_cmp ℕ) (n f : ℕ) → AreLow n (entries m) → entries (insert m n f) ≡ entries m ++ (n, f) ∷ []
insert-last m n f low = entries-insert nat_cmp_total m n f ∙ put-last n f (entries m) low

put-entries : (v : Option ℕ) (m : FinMap nat_cmp ℕ) (n : ℕ) → AreLow n (entries m) → entries (put v n m) ≡ entries m ++ entry_of v n
put-entries None m n low = sym (append-nil (entries m))
put-entries (Some f) m n low = insert-last m n f low

put-low : (v : Option ℕ) (m : FinMap nat_cmp ℕ) (n : ℕ) → AreLow n (entries m) → AreLow (suc n) (entries (put v n m))
put-low None m n low = low-more n (suc n) (entries m) (omega arith) low
put-low (Some f) m n low = rw (insert-last m n f low) (low-push n f (entries m) low)

map_of-low : (look : ℕ → Option ℕ) (n : ℕ) → AreLow n (entries (map_of look n))
unfolding map_of AreLow
map_of-low look zero = rw empty-entries tt
map_of-low look (suc n) = put-low (look n) (map_of look n) n (map_of-low look n)

-- the entries before a place are below it
pub before-low : (es : List (ℕ × ℕ)) (i : ℕ) → ((n : ℕ) → suc n < length es → (get_or es n (0, 0)).0 < (get_or es (suc n) (0, 0)).0) → i < length es → AreLow (get_or es i (0, 0)).0 (take i es)
unfolding AreLow
before-low es zero rising low = tt
before-low es (suc i) rising low =
    let e = get_or es i (0, 0) in
    let less = rising i low in
    let before = low-push e.0 e.1 (take i es) (before-low es i rising (omega (arith, low))) in
    let taken : take (suc i) es ≡ take i es ++ e ∷ [] = ap (λ n. take n es) (let n : suc i ≡ i + 1 = omega arith in n) ∙ take_more es i (0, 0) (omega (arith, low)) in
    subst (AreLow (get_or es (suc i) (0, 0)).0) (sym taken) (low-more (suc e.0) (get_or es (suc i) (0, 0)).0 (take i es ++ e ∷ []) (omega (arith, less)) before)

pub find-low : (n : ℕ) (es : List (ℕ × ℕ)) → AreLow n es → entry.find nat_cmp n es ≡ None
unfolding AreLow
find-low n [] low = refl
find-low n (e ∷ es) low = rw (keys-other n e.0 (λ same. let l = low.0 in omega (arith, same, l))) (find-low n es low.1)

-- the entries with one more guest frame
pub entries-more : (look : ℕ → Option ℕ) (n : ℕ) → entries (map_of look (suc n)) ≡ entries (map_of look n) ++ entry_of (look n) n
unfolding map_of
entries-more look n = put-entries (look n) (map_of look n) n (map_of-low look n)

-- guest frames that are not mapped add no entries
pub entries-none : (look : ℕ → Option ℕ) (n k : ℕ) → ((i : ℕ) → i < k → look (n + i) ≡ None) → entries (map_of look (n + k)) ≡ entries (map_of look n)
entries-none look n zero none = ap (λ b. entries (map_of look b)) (let e : n + 0 ≡ n = omega arith in e)
entries-none look n (suc k) none =
    let e : n + suc k ≡ suc (n + k) = omega arith in
    ap (λ b. entries (map_of look b)) e ∙ entries-more look (n + k) ∙ ap (λ v. entries (map_of look (n + k)) ++ entry_of v (n + k)) (none k (omega arith)) ∙ append-nil _
    ∙ entries-none look n k (λ i low. none i (omega (arith, low)))

pub mapped-entries : (root : List (Option ℕ)) (pool : Pool) → entries (mapped_by root pool) ≡ entries (map_of (look_up root pool) 134217728)
unfolding mapped_by
mapped-entries root pool = refl

-- what is in the leaf of a root slot
look-leaf : (root : List (Option ℕ)) (pool : Pool) (slot leaf place : ℕ) → place < 512 → get_or root slot None ≡ Some leaf → look_up root pool (slot * 512 + place) ≡ entry_at pool leaf place
look-leaf root pool slot leaf place low led =
    let s : (slot * 512 + place) / 512 ≡ slot = omega (arith, low) in
    let p : (slot * 512 + place) % 512 ≡ place = omega (arith, low) in
    rw (s, p, led) refl

pub leaf-some : (root : List (Option ℕ)) (pool : Pool) (slot leaf place f g : ℕ) (old new : List (ℕ × ℕ)) → place < 512 → get_or root slot None ≡ Some leaf → entry_at pool leaf place ≡ Some f → g ≡ slot * 512 + place
    → old ≡ entries (map_of (look_up root pool) (slot * 512 + place)) → new ≡ old ++ (g, f) ∷ [] → new ≡ entries (map_of (look_up root pool) (slot * 512 + (place + 1)))
leaf-some root pool slot leaf place f g old new low led there is so_far pushed =
    let e : slot * 512 + (place + 1) ≡ suc (slot * 512 + place) = omega arith in
    pushed ∙ ap (λ k. old ++ (k, f) ∷ []) is ∙ ap (λ l. l ++ (slot * 512 + place, f) ∷ []) so_far
    ∙ ap (λ v. entries (map_of (look_up root pool) (slot * 512 + place)) ++ entry_of v (slot * 512 + place)) (sym (look-leaf root pool slot leaf place low led ∙ there))
    ∙ sym (ap (λ n. entries (map_of (look_up root pool) n)) e ∙ entries-more (look_up root pool) (slot * 512 + place))

pub leaf-none : (root : List (Option ℕ)) (pool : Pool) (slot leaf place : ℕ) (old : List (ℕ × ℕ)) → place < 512 → get_or root slot None ≡ Some leaf → entry_at pool leaf place ≡ None
    → old ≡ entries (map_of (look_up root pool) (slot * 512 + place)) → old ≡ entries (map_of (look_up root pool) (slot * 512 + (place + 1)))
leaf-none root pool slot leaf place old low led there so_far =
    let e : slot * 512 + (place + 1) ≡ suc (slot * 512 + place) = omega arith in
    so_far ∙ sym (append-nil _)
    ∙ ap (λ v. entries (map_of (look_up root pool) (slot * 512 + place)) ++ entry_of v (slot * 512 + place)) (sym (look-leaf root pool slot leaf place low led ∙ there))
    ∙ sym (ap (λ n. entries (map_of (look_up root pool) n)) e ∙ entries-more (look_up root pool) (slot * 512 + place))

-- a root slot without a leaf
pub slot-none : (root : List (Option ℕ)) (pool : Pool) (slot : ℕ) (old : List (ℕ × ℕ)) → get_or root slot None ≡ None → old ≡ entries (map_of (look_up root pool) (slot * 512)) → old ≡ entries (map_of (look_up root pool) ((slot + 1) * 512))
slot-none root pool slot old none so_far =
    let e : (slot + 1) * 512 ≡ slot * 512 + 512 = omega arith in
    so_far ∙ sym (ap (λ n. entries (map_of (look_up root pool) n)) e ∙ entries-none (look_up root pool) (slot * 512) 512 (λ i low.
    let s : (slot * 512 + i) / 512 ≡ slot = omega (arith, low) in
    rw (s, none) refl))

pub slot-some : (root : List (Option ℕ)) (pool : Pool) (slot : ℕ) (new : List (ℕ × ℕ)) → new ≡ entries (map_of (look_up root pool) (slot * 512 + 512)) → new ≡ entries (map_of (look_up root pool) ((slot + 1) * 512))
slot-some root pool slot new is = let e : slot * 512 + 512 ≡ (slot + 1) * 512 = omega arith in is ∙ ap (λ n. entries (map_of (look_up root pool) n)) e

pub none-below : (root : List (Option ℕ)) (pool : Pool) → entries (map_of (look_up root pool) 0) ≡ []
unfolding map_of
none-below root pool = empty-entries

-- a root that ends maps nothing further on
pub rest-none : (root : List (Option ℕ)) (pool : Pool) (slot : ℕ) (old : List (ℕ × ℕ)) → length root ≤ slot → slot ≤ 262144 → old ≡ entries (map_of (look_up root pool) (slot * 512)) → old ≡ entries (map_of (look_up root pool) 134217728)
rest-none root pool slot old past few so_far =
    let e : slot * 512 + (134217728 - slot * 512) ≡ 134217728 = omega (arith, few) in
    so_far ∙ sym (ap (λ n. entries (map_of (look_up root pool) n)) (sym e) ∙ entries-none (look_up root pool) (slot * 512) (134217728 - slot * 512) (λ i low.
    let further : length root ≤ (slot * 512 + i) / 512 = omega (arith, past) in
    rw (get_or_past root ((slot * 512 + i) / 512) None further) refl))
