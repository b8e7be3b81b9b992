-- As many notes are of denied calls as replies deny one.
use Rattle.std.proofs.Common.{ℕ, suc, ◌≡◌, ◌+◌, Bool, true, false, cond, List, [], ◌∷◌, ◌++◌, map, filter, length, Option, Some, None, refl, sym, ap, ap₂, ◌∙◌, arith}
use Rattle.std.specs.Option.{option_to_list}
use Rattle.std.proofs.lemmas.List.{length-append}
use Rattle.std.proofs.lemmas.List.Elements.{filter-append}
use Rattle.kc_types.specs.declared.call.Call.{Call}
use Rattle.kc_types.specs.declared.call.Call.TheVariants.{HostRead, HostWrite}
use Rattle.kc_types.specs.declared.reply.Reply.{Reply}
use Rattle.kc_types.specs.declared.reply.Reply.TheVariants as reply
use Rattle.kc_types.specs.declared.custody.Event.{Event}
use Rattle.kc_types.specs.Slots.{vm_of}
use Rattle.kc_model.specs.State.{State}
use Rattle.kc_model.specs.Next.{next, replies_from}
use Rattle.kc_model.specs.Events.{events_by}
use Rattle.kc_remarks.specs.declared.remark.CallKind.{CallKind}
use Rattle.kc_remarks.specs.declared.remark.NamedFrame.{NamedFrame}
use Rattle.kc_remarks.specs.declared.remark.Note.{Note}
use Rattle.kc_remarks.specs.declared.remark.Note.TheVariants as note
use Rattle.kc_remarks.specs.Remarks.{access_at, access_to, read_told, write_told, remark_told, remark_by, named_by, notes_by, notes_from}
use Rattle.kc_remarks.specs.Denials.{is_denied, is_denial}

none-of-events : (told : List Event) → length (filter is_denied (map note.Event told)) ≡ 0
none-of-events [] = refl
none-of-events (event ∷ more) = none-of-events more

of-access-at : (line : ℕ) (call : CallKind) (off len : ℕ) (named : NamedFrame) (vm : Option ℕ) → length (filter is_denied (option_to_list (access_at line call off len named vm))) ≡ 0
of-access-at line call off len named None = refl
of-access-at line call off len named (Some v) = refl

of-access : (line : ℕ) (call : CallKind) (off len : ℕ) (named : Option NamedFrame) → length (filter is_denied (option_to_list (access_to line call off len named))) ≡ 0
of-access line call off len None = refl
of-access line call off len (Some named) = of-access-at line call off len named (vm_of named.owner)

of-read : (line : ℕ) (named : Option NamedFrame) (call : Call) → length (filter is_denied (option_to_list (read_told line named call))) ≡ 0
of-read line named (HostRead f off len) = of-access line _ off len named
of-read line named _ = refl

of-write : (line : ℕ) (named : Option NamedFrame) (call : Call) → length (filter is_denied (option_to_list (write_told line named call))) ≡ 0
of-write line named (HostWrite f off bytes) = of-access line _ off _ named
of-write line named _ = refl

of-remark : (line : ℕ) (named : Option NamedFrame) (call : Call) (answer : Reply) → length (filter is_denied (option_to_list (remark_told line named call answer))) ≡ cond (is_denial answer) 1 0
of-remark line named call (reply.Refused reason) = refl
of-remark line named call (reply.Rejected image) = refl
of-remark line named call (reply.Data bytes) = of-read line named call
of-remark line named call reply.Done = of-write line named call
of-remark line named call _ = refl

pub both : (xs ys : List Note) → length (filter is_denied (xs ++ ys)) ≡ length (filter is_denied xs) + length (filter is_denied ys)
both xs ys = ap length (filter-append is_denied xs ys) ∙ length-append (filter is_denied xs) (filter is_denied ys)

pub of-call : (n : ℕ) (m : State) (call : Call) → length (filter is_denied (notes_by n m call)) ≡ cond (is_denial (next m call).0) 1 0
of-call n m call =
    let split = both (option_to_list (remark_by n m call)) (map note.Event (events_by n m call)) in
    let remark = of-remark n (named_by m call) call (next m call).0 in
    let events = none-of-events (events_by n m call) in
    omega (arith, split, remark, events)

one-reply : (answer : Reply) (more : List Reply) → length (filter is_denial (answer ∷ more)) ≡ cond (is_denial answer) 1 0 + length (filter is_denial more)
one-reply answer more = by_test (is_denial answer) (filter is_denial more)
  where
    by_test : (b : Bool) (rest : List Reply) → length (cond b (answer ∷ rest) rest) ≡ cond b 1 0 + length rest
    by_test true rest = let e : suc (length rest) ≡ 1 + length rest = omega arith in e
    by_test false rest = let e : length rest ≡ 0 + length rest = omega arith in e

pub denied : (n : ℕ) (m : State) (calls : List Call) → length (filter is_denied (notes_from n m calls)) ≡ length (filter is_denial (replies_from m calls))
denied n m [] = refl
denied n m (call ∷ calls) =
    let split = both (notes_by n m call) (notes_from (n + 1) (next m call).1 calls) in
    split
    ∙ ap₂ (λ (a b : ℕ). a + b) (of-call n m call) (denied (n + 1) (next m call).1 calls)
    ∙ sym (one-reply (next m call).0 (replies_from (next m call).1 calls))
