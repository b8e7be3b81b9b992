use Rattle.kc_picture.proofs.titles.push_place.Goals as goal

pub returns-in_ok-write : goal.returns-in_ok-write
returns-in_ok-write c = rw (c.in-Some.is, ← c.number.ensures.value) c.in_ok-write.ensures.bytes
