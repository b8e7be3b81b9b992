use Rattle.kc_dump_text.proofs.Spelled.{parts-spelled}
use Rattle.kc_dump_text.proofs.writer.text_of.Goals as goal

pub returns-clause-text : goal.returns-clause-text
returns-clause-text c = rw (c.in_ok-push_frames.ensures, c.in_ok-push_all_entries.ensures, c.in_ok-push_all_leaves.ensures, c.in_ok-push_vms.ensures, c.in_ok-push_free.ensures, c.in_ok-push_size.ensures, c.in_ok-push_header.ensures, c.new-text.ensures.items, c.version.ensures, c.slots.ensures.value, c.slots-2.ensures.value, c.slots-3.ensures.value, c.frames.ensures.value) (parts-spelled c.args.dump.now)
