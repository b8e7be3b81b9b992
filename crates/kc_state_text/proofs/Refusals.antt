-- Why a text describes no lawful state.
use Rattle.std.proofs.Common.{ℕ, ◌≡◌, List}
use Rattle.kc_snapshot.specs.Told.{Told}
use Rattle.kc_snapshot.specs.Unlawful.{IsUnlawful}
use Rattle.kc_snapshot.specs.declared.unlawful.Unlawful.{Unlawful}
use Rattle.kc_snapshot.specs.declared.unlawful.Unlawful.TheVariants.{Sizes, Found, Slot, Frame, Memory}
use Rattle.kc_state_text.specs.Faults.{unlawful_fault}
use Rattle.kc_state_text.specs.Refused.{IsTextOf, IsRefusedState}

pub unlawful-refused : (text : List ℕ) (t : Told) (why : Unlawful) → IsTextOf text t → IsUnlawful t why → IsRefusedState text (unlawful_fault why)
unlawful-refused text t Sizes told un = (t, told, un)
unlawful-refused text t (Found finding) told un = (t, told, un)
unlawful-refused text t (Slot v) told un = (t, told, un)
unlawful-refused text t (Frame f) told un = (t, told, un)
unlawful-refused text t Memory told un = tt
