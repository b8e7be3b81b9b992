use Rattle.std.proofs.Common.{◌≡◌, drop}
use Rattle.serde_json.specs.View.{items_view}
use Rattle.kc_config_text.specs.ConfigText.{digests_in}
use Rattle.kc_config_text.proofs.ConfigMembers.{with_front}
use Rattle.kc_config_text.proofs.config_text.digests_of.Given as goal

-- the digests so far and those of the values that follow are all the digests
abbrev pub invariant-loop-value : goal.invariant-loop-value
invariant-loop-value l = with_front l.digests.items (digests_in (items_view (drop l.value-index l.values))) ≡ digests_in (items_view l.values)
