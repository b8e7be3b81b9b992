use Rattle.std.proofs.Common.{codes, ◌++◌, [], ◌∷◌}
use Rattle.kc_trace.specs.CustodyText.{versions_text, digests_text, sizes_text, refused_count_text, accesses_text, chain_text}
use Rattle.kc_trace.proofs.Pushed.{seven}
use Rattle.kc_trace.proofs.custody_writer.push_heading.Goals as goal

pub returns-clause-line : goal.returns-clause-line
returns-clause-line c =
    let config = c.args.config.now in
    let heading = c.args.heading.now in
    seven c.args.text.now.items c.push_versions.new.text.items c.push_digests.new.text.items c.push_sizes.new.text.items c.push_refused_count.new.text.items c.push_accesses.new.text.items c.push_chain.new.text.items c.push_bytes.new.text.items
    versions_text (digests_text heading.digests) (sizes_text config) (refused_count_text c.args.refused) (accesses_text heading.is_unseen) (chain_text heading.chain) (codes "}" ++ 10 ∷ [])
    c.push_versions.ensures.items c.push_digests.ensures.items c.push_sizes.ensures.items c.push_refused_count.ensures.items c.push_accesses.ensures.items c.push_chain.ensures.items c.push_bytes.ensures.items
