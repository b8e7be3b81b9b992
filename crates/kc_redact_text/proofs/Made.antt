-- Redacting calls as they come in two stretches is redacting them in one.
use Rattle.std.proofs.Common.{append_assoc, append-nil, subst, length, ◌≤◌, arith, ◌≡◌, ℕ, Bool, true, false, not, List, [], ◌∷◌, ◌++◌, Option, Some, None, refl, sym, ap, ◌∙◌}
use Rattle.std.proofs.lemmas.List.{map-append}
use Rattle.std.specs.Prelude.{if◌then◌else◌}
use Rattle.kc_types.specs.declared.call.Call.{Call}
use Rattle.kc_types.specs.declared.call.Call.TheVariants.{HostWrite}
use Rattle.kc_types.specs.declared.owner.Owner.{Owner}
use Rattle.kc_types.specs.declared.owner.Owner.TheVariants.{Core, Host, Free, Vm}
use Rattle.kc_model.specs.State.{State, frame_at}
use Rattle.kc_types.specs.declared.reply.Reply.{Reply}
use Rattle.kc_model.specs.Next.{next, state_after}
use Rattle.kc_model.specs.Redaction.{counts}
use Rattle.kc_model.specs.Blanking.{is_guests}
use Rattle.kc_model.proofs.States.Runs.{state_after-append, replies_from-append}
use Rattle.kc_model.proofs.States.Sizes.{config-after}
use Rattle.kc_remarks.specs.declared.denials.Denials.{Denials}
use Rattle.kc_remarks.specs.Denials.{Counts}
use Rattle.kc_cli.proofs.Counted.{one_each}
use Rattle.kc_redact.specs.Redacted.{blanked, redacted_call, redacted_in, redacted_from, all_frames}
use Rattle.kc_redact_text.specs.Kept.{blanked_call}
use Rattle.kc_redact_text.specs.Made.{is_hidden, redacted_next, core_next, redacted_by, core_after, config_of, reply_next, replies_by, CountsMore}

-- ---- one call

counted : (m : State) (f : ℕ) (owner : Owner) → counts all_frames m f owner ≡ not (is_guests m owner)
counted m f (Vm v) = refl
counted m f Core = refl
counted m f Host = refl
counted m f Free = refl

abbrev shown_as : ℕ → ℕ → List ℕ → Bool → Call
shown_as f off bytes b = HostWrite f off (if b then bytes else blanked bytes)

pub hidden : (m : State) (call : Call) → is_hidden m call ≡ true → redacted_in all_frames m call ≡ blanked_call call
hidden m (HostWrite f off bytes) h = ap (shown_as f off bytes) (counted m f (frame_at m f).owner ∙ ap not h)
hidden m _ h = cc

pub shown : (m : State) (call : Call) → is_hidden m call ≡ false → redacted_in all_frames m call ≡ redacted_call call
shown m (HostWrite f off bytes) h = ap (shown_as f off bytes) (counted m f (frame_at m f).owner ∙ ap not h)
shown m _ h = refl

-- ---- calls in order

from-append : (m : State) (xs ys : List Call) → redacted_from m (xs ++ ys) ≡ redacted_from m xs ++ redacted_from (state_after m xs) ys
from-append m [] ys = refl
from-append m (x ∷ xs) ys = ap (λ rest. redacted_in all_frames m x ∷ rest) (from-append (next m x).1 xs ys)

pub by-none : (core : Option State) → redacted_by core [] ≡ []
by-none None = refl
by-none (Some m) = refl

pub after-none : (core : Option State) → core_after core [] ≡ core
after-none None = refl
after-none (Some m) = refl

pub by-append : (core : Option State) (xs ys : List Call) → redacted_by core (xs ++ ys) ≡ redacted_by core xs ++ redacted_by (core_after core xs) ys
by-append None xs ys = map-append redacted_call xs ys
by-append (Some m) xs ys = from-append m xs ys

pub after-append : (core : Option State) (xs ys : List Call) → core_after core (xs ++ ys) ≡ core_after (core_after core xs) ys
after-append None xs ys = refl
after-append (Some m) xs ys = ap Some (state_after-append m xs ys)

by-one : (core : Option State) (call : Call) → redacted_by core (call ∷ []) ≡ redacted_next core call ∷ []
by-one None call = refl
by-one (Some m) call = refl

after-one : (core : Option State) (call : Call) → core_after core (call ∷ []) ≡ core_next core call
after-one None call = refl
after-one (Some m) call = refl

pub by-then : (core now : Option State) (xs : List Call) (call : Call) → now ≡ core_after core xs → redacted_by core (xs ++ call ∷ []) ≡ redacted_by core xs ++ redacted_next now call ∷ []
by-then core now xs call is =
    by-append core xs (call ∷ []) ∙ ap (λ more. redacted_by core xs ++ more) (by-one (core_after core xs) call ∙ ap (λ c. redacted_next c call ∷ []) (sym is))

pub after-then : (core now : Option State) (xs : List Call) (call : Call) → now ≡ core_after core xs → core_after core (xs ++ call ∷ []) ≡ core_next now call
after-then core now xs call is = after-append core xs (call ∷ []) ∙ after-one (core_after core xs) call ∙ ap (λ c. core_next c call) (sym is)

pub config-made : (core : Option State) (calls : List Call) → config_of (core_after core calls) ≡ config_of core
config-made None calls = refl
config-made (Some m) calls = ap Some (config-after m calls)

-- one more call is kept
pub kept-then : (core now : Option State) (first so_far new xs : List Call) (call kept : Call) → so_far ≡ first ++ redacted_by core xs → now ≡ core_after core xs → kept ≡ redacted_next now call → new ≡ so_far ++ kept ∷ [] → new ≡ first ++ redacted_by core (xs ++ call ∷ [])
kept-then core now first so_far new xs call kept is at one added =
    added ∙ ap (λ l. l ++ kept ∷ []) is ∙ append_assoc first (redacted_by core xs) (kept ∷ [])
    ∙ ap (λ l. first ++ l) (ap (λ k. redacted_by core xs ++ k ∷ []) one ∙ sym (by-then core now xs call at))

-- ---- their replies

pub replies-none : (core : Option State) → replies_by core [] ≡ []
replies-none None = refl
replies-none (Some m) = refl

pub replies-append : (core : Option State) (xs ys : List Call) → replies_by core (xs ++ ys) ≡ replies_by core xs ++ replies_by (core_after core xs) ys
replies-append None xs ys = refl
replies-append (Some m) xs ys = replies_from-append m xs ys

replies-one : (core : Option State) (call : Call) → replies_by core (call ∷ []) ≡ reply_next core call
replies-one None call = refl
replies-one (Some m) call = refl

-- no more replies are counted
pub counts-none : (core : Option State) (denials : Denials) → CountsMore (replies_by core []) denials denials
counts-none core denials replies h = subst (λ (all : List Reply). Counts all denials) (sym (ap (λ (more : List Reply). replies ++ more) (replies-none core) ∙ append-nil replies)) h

-- those of calls, and of others after them
pub counts-append : (core made : Option State) (xs ys : List Call) (before mid after : Denials) → made ≡ core_after core xs → CountsMore (replies_by core xs) before mid → CountsMore (replies_by made ys) mid after → CountsMore (replies_by core (xs ++ ys)) before after
counts-append core made xs ys before mid after at one two replies h =
    let all : (replies ++ replies_by core xs) ++ replies_by made ys ≡ replies ++ replies_by core (xs ++ ys) =
    append_assoc replies (replies_by core xs) (replies_by made ys)
    ∙ ap (λ (c : Option State). replies ++ (replies_by core xs ++ replies_by c ys)) at
    ∙ ap (λ (more : List Reply). replies ++ more) (sym (replies-append core xs ys)) in
    subst (λ (rs : List Reply). Counts rs after) all (two (replies ++ replies_by core xs) (one replies h))

pub counts-then : (core now : Option State) (xs : List Call) (call : Call) (before mid after : Denials) → now ≡ core_after core xs → CountsMore (replies_by core xs) before mid → CountsMore (reply_next now call) mid after → CountsMore (replies_by core (xs ++ call ∷ [])) before after
counts-then core now xs call before mid after at one two =
    counts-append core now xs (call ∷ []) before mid after at one (subst (λ (more : List Reply). CountsMore more mid after) (sym (replies-one now call)) two)

-- there is a reply to each call, if there is a core
pub replies-few : (core : Option State) (calls : List Call) → length (replies_by core calls) ≤ length calls
replies-few None calls = omega arith
replies-few (Some m) calls = let each = one_each m calls in omega (arith, each)
