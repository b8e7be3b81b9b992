use Rattle.std.proofs.Common.{codes}
use Rattle.kc_trace.specs.CustodyText.{images_text, launch_member}
use Rattle.kc_trace.proofs.Pushed.{four}
use Rattle.kc_trace.proofs.custody_writer.push_measurement.Goals as goal

pub returns-clause-items : goal.returns-clause-items
returns-clause-items c =
    let measured = c.args.measurement.now in
    four c.args.text.now.items c.push_bytes.new.text.items c.push_images.new.text.items c.push_bytes-2.new.text.items c.push_launch.new.text.items (codes ",\"images\":[") (images_text measured.images) (codes "]") (launch_member measured.launch)
    c.push_bytes.ensures.items (rw c.as_slice.ensures.value at c.push_images.ensures.items) c.push_bytes-2.ensures.items c.push_launch.ensures.items
