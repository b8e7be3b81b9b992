use Rattle.std.proofs.Common.{◌≡◌, string_bytes, sym, ap, ◌∙◌, arith, rules}
use Rattle.serde_json.specs.Data.{put}
use Rattle.serde_json.specs.View.{view, members_view}
use Rattle.serde_json.proofs.Views.{members_view-insert_entry}
use Rattle.kc_config_text.proofs.ConfigMembers.{member_count-view}
use Rattle.kc_config_text.proofs.KeptValues.{alike_through, one_more_kept, enough_kept}
use Rattle.kc_config_text.proofs.config_value.keep_member.Goals as goal

pub returns-then-len-gt-MOST_MEMBERS : goal.returns-then-len-gt-MOST_MEMBERS
returns-then-len-gt-MOST_MEMBERS c ms d kept alike =
    let count = member_count-view c.args.found.now.entries in
    enough_kept c.args.name.now d (members_view c.args.found.now.entries) ms (omega (arith, count)) kept

pub returns : goal.returns
returns c ms d kept alike =
    let old = c.args.found.now.entries in
    let v = c.keep_inner.result in
    let count = member_count-view old in
    let copied : string_bytes c.in_ok-key.key ≡ c.args.name.now = search rules in
    let inserted : put c.args.name.now (view v) (members_view old) ≡ members_view c.insert.new.self.entries =
    ap (λ name. put name (view v) (members_view old)) (sym copied) ∙ sym (members_view-insert_entry old c.in_ok-key.key v) ∙ ap members_view (sym c.in_ok-insert.ensures.entries) in
    rw (← inserted) (one_more_kept c.args.name.now (view v) d (members_view old) ms (omega (arith, count)) (alike_through _ _ _ c.keep_inner.ensures alike) kept)
