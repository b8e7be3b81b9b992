-- What calls begin with if no file is named for it.
use Rattle.std.proofs.Common.{◌≡◌, Bool, true, false, refl}
use Rattle.kc_texts.specs.declared.whole.ReadFault.{ReadFault}
use Rattle.kc_texts.specs.declared.whole.ReadFault.TheVariants as reads
use Rattle.kc_faults.specs.Faults.{read_fault}
use Rattle.kc_run.specs.Opening.{IsUnseenFault}

-- a fault of the input
pub unseen : (failed : Bool) (fault : ReadFault) → (fault ≡ reads.Memory → failed ≡ false) → (fault ≡ reads.Read → failed ≡ true) → IsUnseenFault failed (read_fault fault)
unseen failed reads.Memory memory read = rw (memory refl) refl
unseen failed reads.Read memory read = rw (read refl) refl
