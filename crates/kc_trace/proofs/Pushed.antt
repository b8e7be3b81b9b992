-- Text that is appended, piece after piece.
use Rattle.std.proofs.Common.{ℕ, ◌≡◌, ◌<◌, ◌+◌, List, [], ◌∷◌, ◌++◌, take, length, get_or, sym, ap, ◌∙◌, append_assoc, append-nil}
use Rattle.std.specs.List.{flat_map}
use Rattle.std.proofs.lemmas.List.{take_more}
use Rattle.std.proofs.lemmas.List.Concat.{flat_map-cons}
use Rattle.std.proofs.lemmas.Grind.{flat_map-append}

-- a piece, and then the rest
more : (first second last piece rest : List ℕ) → second ≡ first ++ piece → last ≡ second ++ rest → last ≡ first ++ (piece ++ rest)
more first second last piece rest e h = h ∙ ap (λ xs. xs ++ rest) e ∙ append_assoc first piece rest

-- three to eight pieces, one after another
pub three : (t t1 t2 t3 a b c : List ℕ) → t1 ≡ t ++ a → t2 ≡ t1 ++ b → t3 ≡ t2 ++ c → t3 ≡ t ++ (a ++ (b ++ c))
three t t1 t2 t3 a b c h1 h2 h3 = more t t1 t3 a (b ++ c) h1 (more t1 t2 t3 b c h2 h3)

pub four : (t t1 t2 t3 t4 a b c d : List ℕ) → t1 ≡ t ++ a → t2 ≡ t1 ++ b → t3 ≡ t2 ++ c → t4 ≡ t3 ++ d → t4 ≡ t ++ (a ++ (b ++ (c ++ d)))
four t t1 t2 t3 t4 a b c d h1 h2 h3 h4 = more t t1 t4 a (b ++ (c ++ d)) h1 (three t1 t2 t3 t4 b c d h2 h3 h4)

pub five : (t t1 t2 t3 t4 t5 a b c d e : List ℕ)
    → t1 ≡ t ++ a → t2 ≡ t1 ++ b → t3 ≡ t2 ++ c → t4 ≡ t3 ++ d → t5 ≡ t4 ++ e
    → t5 ≡ t ++ (a ++ (b ++ (c ++ (d ++ e))))
five t t1 t2 t3 t4 t5 a b c d e h1 h2 h3 h4 h5 =
    more t t1 t5 a (b ++ (c ++ (d ++ e))) h1
    (more t1 t2 t5 b (c ++ (d ++ e)) h2
    (more t2 t3 t5 c (d ++ e) h3
    (more t3 t4 t5 d (e) h4 h5)))

pub six : (t t1 t2 t3 t4 t5 t6 a b c d e f : List ℕ)
    → t1 ≡ t ++ a → t2 ≡ t1 ++ b → t3 ≡ t2 ++ c → t4 ≡ t3 ++ d → t5 ≡ t4 ++ e → t6 ≡ t5 ++ f
    → t6 ≡ t ++ (a ++ (b ++ (c ++ (d ++ (e ++ f)))))
six t t1 t2 t3 t4 t5 t6 a b c d e f h1 h2 h3 h4 h5 h6 =
    more t t1 t6 a (b ++ (c ++ (d ++ (e ++ f)))) h1
    (more t1 t2 t6 b (c ++ (d ++ (e ++ f))) h2
    (more t2 t3 t6 c (d ++ (e ++ f)) h3
    (more t3 t4 t6 d (e ++ f) h4
    (more t4 t5 t6 e (f) h5 h6))))

pub seven : (t t1 t2 t3 t4 t5 t6 t7 a b c d e f g : List ℕ)
    → t1 ≡ t ++ a → t2 ≡ t1 ++ b → t3 ≡ t2 ++ c → t4 ≡ t3 ++ d → t5 ≡ t4 ++ e → t6 ≡ t5 ++ f → t7 ≡ t6 ++ g
    → t7 ≡ t ++ (a ++ (b ++ (c ++ (d ++ (e ++ (f ++ g))))))
seven t t1 t2 t3 t4 t5 t6 t7 a b c d e f g h1 h2 h3 h4 h5 h6 h7 =
    more t t1 t7 a (b ++ (c ++ (d ++ (e ++ (f ++ g))))) h1
    (more t1 t2 t7 b (c ++ (d ++ (e ++ (f ++ g)))) h2
    (more t2 t3 t7 c (d ++ (e ++ (f ++ g))) h3
    (more t3 t4 t7 d (e ++ (f ++ g)) h4
    (more t4 t5 t7 e (f ++ g) h5
    (more t5 t6 t7 f (g) h6 h7)))))

pub eight : (t t1 t2 t3 t4 t5 t6 t7 t8 a b c d e f g h : List ℕ)
    → t1 ≡ t ++ a → t2 ≡ t1 ++ b → t3 ≡ t2 ++ c → t4 ≡ t3 ++ d → t5 ≡ t4 ++ e → t6 ≡ t5 ++ f → t7 ≡ t6 ++ g → t8 ≡ t7 ++ h
    → t8 ≡ t ++ (a ++ (b ++ (c ++ (d ++ (e ++ (f ++ (g ++ h)))))))
eight t t1 t2 t3 t4 t5 t6 t7 t8 a b c d e f g h h1 h2 h3 h4 h5 h6 h7 h8 =
    more t t1 t8 a (b ++ (c ++ (d ++ (e ++ (f ++ (g ++ h)))))) h1
    (more t1 t2 t8 b (c ++ (d ++ (e ++ (f ++ (g ++ h))))) h2
    (more t2 t3 t8 c (d ++ (e ++ (f ++ (g ++ h)))) h3
    (more t3 t4 t8 d (e ++ (f ++ (g ++ h))) h4
    (more t4 t5 t8 e (f ++ (g ++ h)) h5
    (more t5 t6 t8 f (g ++ h) h6
    (more t6 t7 t8 g (h) h7 h8))))))

-- one more line
pub lines_more : {X : Type 0} (line : X → List ℕ) (front : List ℕ) (n : ℕ) (xs : List X) (x : X) (before after : List ℕ) → n < length xs → x ≡ get_or xs n x
    → before ≡ front ++ flat_map line (take n xs) → after ≡ before ++ line x → after ≡ front ++ flat_map line (take (n + 1) xs)
lines_more line front n xs x before after lt is so_far added =
    more front before after (flat_map line (take n xs)) (line x) so_far added
    ∙ ap (λ ys. front ++ ys) (ap (λ y. flat_map line (take n xs) ++ line y) is ∙ sym (
    ap (flat_map line) (take_more xs n x lt)
    ∙ flat_map-append line (take n xs) (get_or xs n x ∷ [])
    ∙ ap (λ ys. flat_map line (take n xs) ++ ys) (flat_map-cons line (get_or xs n x) [] ∙ append-nil (line (get_or xs n x)))))
