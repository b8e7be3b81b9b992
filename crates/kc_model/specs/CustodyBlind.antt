-- What is reported of custody shows nothing of secret bytes.
use Rattle.std.specs.Prelude.{◌≡◌, false, List}
use Rattle.std.specs.List.{AllByRecursion}
use Rattle.kc_types.specs.declared.call.Call.{Call}
use Rattle.kc_model.specs.State.{State}
use Rattle.kc_model.specs.Lawful.{IsLawful}
use Rattle.kc_model.specs.Blind.{Secret, AreAlike, AlikeTraces, grants_secret}
use Rattle.kc_model.specs.Events.{events}

-- for every slot and every set of secret guest frames, a trace that grants none of them has the same events whatever
-- bytes they hold, and so the same custody, lives and bars
abbrev pub CustodyIsBlind : State → List Call → Type 0
CustodyIsBlind m calls = (s : Secret) (n : State) (others : List Call) → IsLawful n → AreAlike s m n → AlikeTraces s calls others
    → AllByRecursion (λ call. grants_secret s call ≡ false) calls → events m calls ≡ events n others
