use Rattle.std.proofs.Common.{codes}
use Rattle.hex.specs.Hex.{encode_lower}
use Rattle.kc_trace.specs.CustodyText.{member}
use Rattle.kc_trace.proofs.Pushed.{five}
use Rattle.kc_trace.proofs.custody_writer.push_image.Goals as goal

pub returns-clause-items : goal.returns-clause-items
returns-clause-items c =
    let image = c.args.image.now in
    five c.args.text.now.items c.push_member.new.text.items c.push_member-2.new.text.items c.push_bytes.new.text.items c.push_digits.new.text.items c.push_bytes-2.new.text.items
    (member (codes "{\"base\":") image.base) (member (codes ",\"len\":") image.len) (codes ",\"sha256\":\"") (encode_lower image.digest) (codes "\"}")
    c.push_member.ensures.items c.push_member-2.ensures.items c.push_bytes.ensures.items c.push_digits.ensures.items c.push_bytes-2.ensures.items
