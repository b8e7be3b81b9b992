-- Words put one after another.
use Rattle.std.proofs.Common.{ℕ, ◌++◌, List, [], string_bytes, ap, sym, ◌∙◌, append_assoc, append-nil}
use Rattle.kc_picture.specs.declared.words.Text.{Text}
use Rattle.kc_picture.specs.Words.{Puts}

pub puts-two : (a b c : Text) (u v : List ℕ) → Puts a b u → Puts b c v → Puts a c (u ++ v)
puts-two a b c u v first next ok =
    let after = next ok in
    let before = first after.0 in
    (before.0, after.1 ∙ ap (λ t. t ++ v) before.1 ∙ append_assoc (string_bytes a.text) u v)

pub puts-none : (a : Text) → Puts a a []
puts-none a ok = (ok, sym (append-nil (string_bytes a.text)))
