use Rattle.std.proofs.Common.{rules, ◌≡◌, length}
use Rattle.kc_parts.proofs.Chunked.{seen-made}
use Rattle.kc_parts.proofs.chunk.Chunk.of.Goals as goal

pub returns : goal.returns
returns c =
    let long : length c.args.pages.items ≡ c.len-count.result = search rules in
    seen-made _ _ _ c.args.pages.items long
