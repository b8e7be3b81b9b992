use Rattle.std.proofs.Common.{ap, sym, ◌∙◌, Some}
use Rattle.std.specs.Prelude.{option_map}
use Rattle.kc_config_text.specs.ConfigText.{member_count}
use Rattle.kc_config_text.proofs.ConfigMembers.{member_count-view}
use Rattle.kc_config_text.proofs.config_text.count_members.Goals as goal

pub returns-in-Some : goal.returns-in-Some
returns-in-Some c = ap Some (c.len.ensures.len ∙ sym (member_count-view c.in-Some.members.now.entries)) ∙ ap (option_map member_count) c.in-Some.ensures
