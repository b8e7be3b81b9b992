-- Lines that are appended one after another.
use Rattle.std.proofs.Common.{ℕ, ◌≡◌, ◌≤◌, List, [], ◌∷◌, ◌++◌, length, take, map, Result, Ok, Err, refl, sym, ap, ◌∙◌, append_assoc}
use Rattle.std.specs.Prelude.{codes, OnOk}
use Rattle.std.specs.Fmt.{decimal}
use Rattle.std.specs.List.{flat_map}
use Rattle.std.proofs.lemmas.List.{take_all, append-nil}
use Rattle.kc_dump_text.specs.DumpText.{spaced, dump_text}
use Rattle.kc_model.specs.State.{State, Frame, Vcpu, Image}
use Rattle.kc_snapshot.specs.Told.{SlotRest, slot_rest, rest_of}
use Rattle.kc_snapshot.specs.Dumping.{dump_of}
use Rattle.kc_state_text.specs.declared.sizes.Sizes.{Sizes}
use Rattle.kc_state_text.specs.StateText.{state_header, sizes_of, sizes_line, approved_line, vcpu_word, vcpu_words, vcpus_words, image_words, images_words, slot_words, slot_line, page_line, front_begin, state_text}

pub spaced-append : (xs ys : List (List ℕ)) → spaced (xs ++ ys) ≡ spaced xs ++ spaced ys
spaced-append [] ys = refl
spaced-append (x ∷ xs) ys = ap (λ (l : List ℕ). 32 ∷ (x ++ l)) (spaced-append xs ys) ∙ ap (λ (l : List ℕ). 32 ∷ l) (sym (append_assoc x (spaced xs) (spaced ys)))

pub spaced-flat : {X : Type 0} (f : X → List (List ℕ)) (xs : List X) → spaced (flat_map f xs) ≡ flat_map (λ x. spaced (f x)) xs
spaced-flat f [] = refl
spaced-flat f (x ∷ xs) = spaced-append (f x) (flat_map f xs) ∙ ap (λ (l : List ℕ). spaced (f x) ++ l) (spaced-flat f xs)

mapped : (vcpus : List Vcpu) → vcpus_words vcpus ≡ flat_map vcpu_words vcpus
mapped [] = refl
mapped (v ∷ vs) = ap (λ (ws : List (List ℕ)). vcpu_word v ∷ ws) (mapped vs)

pub on-map : {X E : Type 0} {P Q : Type 0} (r : Result X E) → (P → Q) → OnOk r P → OnOk r Q
on-map (Ok x) f is = f is
on-map (Err e) f is = tt

regrouped-slot : (start n v i e : List ℕ) → (((start ++ n) ++ v) ++ i) ++ e ≡ start ++ (n ++ ((v ++ i) ++ e))
regrouped-slot start n v i e = simp append_assoc

pub slot-written : (rest : SlotRest) (start a b c d : List ℕ) → a ≡ start ++ codes "slot" → b ≡ a ++ flat_map (λ vcpu. spaced (vcpu_words vcpu)) rest.vcpus → c ≡ b ++ flat_map (λ image. spaced (image_words image)) rest.images → d ≡ c ++ 10 ∷ []
    → d ≡ start ++ slot_line rest
slot-written rest start a b c d is-a is-b is-c is-d =
    let v = flat_map (λ (vcpu : Vcpu). spaced (vcpu_words vcpu)) rest.vcpus in
    let i = flat_map (λ (image : Image). spaced (image_words image)) rest.images in
    let words : spaced (slot_words rest) ≡ v ++ i =
    spaced-append (vcpus_words rest.vcpus) (images_words rest.images)
    ∙ ap (λ (l : List ℕ). l ++ spaced (images_words rest.images)) (ap spaced (mapped rest.vcpus) ∙ spaced-flat vcpu_words rest.vcpus)
    ∙ ap (λ (l : List ℕ). v ++ l) (spaced-flat image_words rest.images) in
    is-d ∙ ap (λ (l : List ℕ). l ++ 10 ∷ []) (is-c ∙ ap (λ (l : List ℕ). l ++ i) (is-b ∙ ap (λ (l : List ℕ). l ++ v) is-a))
    ∙ regrouped-slot start (codes "slot") v i (10 ∷ [])
    ∙ ap (λ (l : List ℕ). start ++ (codes "slot" ++ (l ++ 10 ∷ []))) (sym words)

regrouped-sizes : (start k a b c d e : List ℕ) → (((((start ++ k) ++ a) ++ b) ++ c) ++ d) ++ e ≡ start ++ (k ++ ((a ++ (b ++ (c ++ d))) ++ e))
regrouped-sizes start k a b c d e = simp append_assoc

pub sizes-written : (s : Sizes) (start t1 t2 t3 t4 t5 t6 : List ℕ) → t1 ≡ start ++ codes "config" → t2 ≡ t1 ++ (32 ∷ decimal s.slots) → t3 ≡ t2 ++ (32 ∷ decimal s.frames) → t4 ≡ t3 ++ (32 ∷ decimal s.host) → t5 ≡ t4 ++ (32 ∷ decimal s.approved)
    → t6 ≡ t5 ++ 10 ∷ [] → t6 ≡ start ++ sizes_line s
sizes-written s start t1 t2 t3 t4 t5 t6 e1 e2 e3 e4 e5 e6 =
    e6 ∙ ap (λ (l : List ℕ). l ++ 10 ∷ []) (e5 ∙ ap (λ (l : List ℕ). l ++ (32 ∷ decimal s.approved)) (e4 ∙ ap (λ (l : List ℕ). l ++ (32 ∷ decimal s.host)) (e3 ∙ ap (λ (l : List ℕ). l ++ (32 ∷ decimal s.frames)) (e2 ∙ ap (λ (l : List ℕ). l ++ (32 ∷ decimal s.slots)) e1))))
    ∙ regrouped-sizes start (codes "config") (32 ∷ decimal s.slots) (32 ∷ decimal s.frames) (32 ∷ decimal s.host) (32 ∷ decimal s.approved) (10 ∷ [])
    ∙ ap (λ (l : List ℕ). start ++ (codes "config" ++ ((32 ∷ (decimal s.slots ++ (32 ∷ (decimal s.frames ++ (32 ∷ (decimal s.host ++ (32 ∷ l))))))) ++ 10 ∷ []))) (sym (append-nil (decimal s.approved)))

lines-mapped : {X Y : Type 0} (f : Y → List ℕ) (g : X → Y) (xs : List X) → flat_map f (map g xs) ≡ flat_map (λ x. f (g x)) xs
lines-mapped f g [] = refl
lines-mapped f g (x ∷ xs) = ap (λ (l : List ℕ). f (g x) ++ l) (lines-mapped f g xs)

-- all of them
pub all-written : {X Y : Type 0} (f : Y → List ℕ) (g : X → Y) (xs : List X) (i : ℕ) (start new : List ℕ) → length xs ≤ i → new ≡ start ++ flat_map (λ x. f (g x)) (take i xs) → new ≡ start ++ flat_map f (map g xs)
all-written f g xs i start new past is = is ∙ ap (λ ys. start ++ flat_map (λ x. f (g x)) ys) (take_all i xs past) ∙ ap (λ (l : List ℕ). start ++ l) (sym (lines-mapped f g xs))

regrouped : (h s a b p d : List ℕ) → (h ++ (s ++ (a ++ b))) ++ (p ++ d) ≡ (h ++ (s ++ (a ++ (b ++ p)))) ++ d
regrouped h s a b p d = simp append_assoc

-- the lines before those of the pages, those of the pages, and the dump are the text
pub whole-text : (m : State) → front_begin m ++ (flat_map page_line (map (λ (frame : Frame). frame.bytes) m.frames) ++ dump_text (dump_of m)) ≡ state_text m
whole-text m = regrouped state_header (sizes_line (sizes_of (rest_of m))) (flat_map approved_line m.config.approved) (flat_map slot_line (map slot_rest m.slots)) (flat_map page_line (map (λ (frame : Frame). frame.bytes) m.frames)) (dump_text (dump_of m))
