use Rattle.std.proofs.Common.{rules, ◌≡◌, ℕ, List, ◌++◌, ◌∷◌, [], length, ap₂, ◌∙◌, subst}
use Rattle.std.specs.Int.{w64, to_le_bytes}
use Rattle.sha2.specs.Hashers.{Holds256}
use Rattle.kc_model.specs.Launches.{Booted, launch_text}
use Rattle.kc_cli.specs.Measuring.{HasMeasured}
use Rattle.kc_cli.proofs.Launch.{image_after}
use Rattle.kc_cli.proofs.Sources.{of_whole}
use Rattle.kc_cli.proofs.measuring.LaunchMeasure.add.Goals as goal

pub returns-clause-measured : goal.returns-clause-measured
returns-clause-measured g c = λ e.
    (let all = c.in_ok-bytes.bytes.items in
    let front : c.to_le_bytes.result ≡ to_le_bytes w64 c.args.base = search rules in
    let long : c.to_le_bytes-2.result ≡ to_le_bytes w64 (length all) = search rules in
    of_whole (λ bytes. (images : List Booted) → HasMeasured c.args.self.now images → Holds256 c.update-3.new.self (launch_text (images ++ record { base = c.args.base; bytes = bytes } ∷ []))) _ _ all c.in_ok-bytes.ensures.ok c.in_ok-bytes.ensures.ended
    (λ images had. subst (Holds256 c.update-3.new.self) (ap₂ (λ (xs ys : List ℕ). ((launch_text images ++ xs) ++ ys) ++ all) front long ∙ image_after images c.args.base all) (c.update-3.ensures _ (c.update-2.ensures _ (c.update.ensures _ had)))))
