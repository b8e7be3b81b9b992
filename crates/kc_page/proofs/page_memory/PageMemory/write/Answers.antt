use Rattle.std.proofs.Common.{arith}
use Rattle.std.proofs.lemmas.Grind.{common_steps}
use Rattle.kc_model.proofs.States.Pages.{as_bytes-same}
use Rattle.kc_page.proofs.page_memory.PageMemory.write.Goals as goal

pub returns : goal.returns
returns c = rw (as_bytes-same c.args.bytes.now (λ k. (c.type_inv.bytes k).fits)) (grind (arith, common_steps))
