-- The events of alike traces are the same.
use Rattle.std.proofs.Common.{ℕ, ◌≡◌, ◌+◌, false, List, [], ◌∷◌, ◌++◌, refl, sym, ap, ap₂, ◌∙◌}
use Rattle.std.specs.List.{AllByRecursion}
use Rattle.kc_types.specs.declared.call.Call.{Call}
use Rattle.kc_model.specs.State.{State}
use Rattle.kc_model.specs.Next.{next}
use Rattle.kc_model.specs.Lawful.{IsLawful}
use Rattle.kc_model.specs.Blind.{Secret, hidden_call, grants_secret, AreAlike, AlikeTraces}
use Rattle.kc_model.specs.Custody.{first_line}
use Rattle.kc_model.specs.Events.{events_by, events_from}
use Rattle.kc_model.specs.CustodyBlind.{CustodyIsBlind}
use Rattle.kc_model.proofs.Lawful.Keeps.{lawful-next}
use Rattle.kc_model.proofs.Views.Steps.{bytes_of}
use Rattle.kc_model.proofs.Views.Events.{events-told}
use Rattle.kc_model.proofs.Views.Calls.{all-kept}
use Rattle.kc_model.proofs.Blind.AsView.{view_of, is_view, to-view, calls-form, calls-may}
use Rattle.kc_model.proofs.Blind.HostBlind.{alike-next}

told-from : (s : Secret) (line : ℕ) (m n : State) (calls others : List Call) → IsLawful m → IsLawful n → AreAlike s m n → AlikeTraces s calls others
    → AllByRecursion (λ call. grants_secret s call ≡ false) calls → events_from line m calls ≡ events_from line n others
told-from s line m n [] [] m_is n_is alike traces grants = refl
told-from s line m n [] (other ∷ others) m_is n_is alike traces grants = absurd cc
told-from s line m n (call ∷ calls) [] m_is n_is alike traces grants = absurd cc
told-from s line m n (call ∷ calls) (other ∷ others) m_is n_is alike traces grants =
    let first : hidden_call s call ≡ hidden_call s other = cc in
    let rest : AlikeTraces s calls others = cc in
    let after = alike-next s m n call other m_is n_is alike first grants.0 in
    let later = told-from s (line + 1) (next m call).1 (next n other).1 calls others (lawful-next m call m_is) (lawful-next n other n_is) after rest grants.1 in
    let here = events-told (view_of s) line m n call (bytes_of other) (is_view s) m_is n_is (to-view s m n alike.same) (calls-may s m call other m_is first) (all-kept call) in
    ap₂ ◌++◌ (sym here ∙ ap (events_by line n) (calls-form s call other first)) later

pub custody_is_blind : (m : State) (calls : List Call) → IsLawful m → CustodyIsBlind m calls
custody_is_blind m calls is s n others n_is alike traces grants = told-from s first_line m n calls others is n_is alike traces grants
