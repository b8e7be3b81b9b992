-- The shares that a dump may show.
use Rattle.std.proofs.Common.{ℕ, ◌≤◌, ◌<◌, length}
use Rattle.std.specs.Prelude.{◌==◌, ◌&&◌, nat_le}
use Rattle.std.proofs.lemmas.Bool.{and_parts, leb-true}
use Rattle.kc_types.specs.Limits.{share_limit}
use Rattle.kc_types.specs.Configuration.{gfns_of}
use Rattle.kc_dump.specs.Dump.{Dumped, line_at}
use Rattle.kc_dump.specs.Ranges.{is_below, is_owner, IsDump}

pub few_shares : (d : Dumped) → IsDump d → (f : ℕ) → f < length d.frames → (line_at d.frames f).share ≤ share_limit
few_shares d kept f here =
    let l = line_at d.frames f in
    let n = length d.frames in
    let owner = is_owner d.version l.owner in
    let few = nat_le l.share share_limit in
    let bytes = and_parts (owner && few && is_below (gfns_of d.version) l.gfn && is_below n l.prev && is_below n l.next && (length l.digest == 32)) _ (kept.frames f here) in
    let long = and_parts (owner && few && is_below (gfns_of d.version) l.gfn && is_below n l.prev && is_below n l.next) (length l.digest == 32) bytes.0 in
    let next = and_parts (owner && few && is_below (gfns_of d.version) l.gfn && is_below n l.prev) (is_below n l.next) long.0 in
    let prev = and_parts (owner && few && is_below (gfns_of d.version) l.gfn) (is_below n l.prev) next.0 in
    let gfn = and_parts (owner && few) (is_below (gfns_of d.version) l.gfn) prev.0 in
    leb-true l.share share_limit (and_parts owner few gfn.0).1
