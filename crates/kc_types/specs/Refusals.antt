-- The number and the name of each refusal, and when a result is one.
use Rattle.std.specs.Prelude.{ℕ, ◌≡◌, List, codes, Option, Some, None, Result, Ok, Err}
use Rattle.kc_types.specs.declared.refusal.Refusal.{Refusal}
use Rattle.kc_types.specs.declared.refusal.Refusal.TheVariants.{BadVm, BadVcpu, BadFrame, BadGfn, BadRange, SlotUsed, NoVm, WrongPhase, VcpuUsed, NoVcpu, ImagesFull, Overlap, NoImage, ImageFull, ImageShort, NoFault, Mapped, NotMapped, NotHost, Protected, NotPresent, TablesFull, ShareFull, NotShared, Shared, NoFree}

-- refusals are tried in the order of their numbers
abbrev pub number_of : Refusal → ℕ
number_of BadVm = 1
number_of BadVcpu = 2
number_of BadFrame = 3
number_of BadGfn = 4
number_of BadRange = 5
number_of SlotUsed = 6
number_of NoVm = 7
number_of WrongPhase = 8
number_of VcpuUsed = 9
number_of NoVcpu = 10
number_of ImagesFull = 11
number_of Overlap = 12
number_of NoImage = 13
number_of ImageFull = 14
number_of ImageShort = 15
number_of NoFault = 16
number_of Mapped = 17
number_of NotMapped = 18
number_of NotHost = 19
number_of Protected = 20
number_of NotPresent = 21
number_of TablesFull = 22
number_of ShareFull = 23
number_of NotShared = 24
number_of Shared = 25
number_of NoFree = 26

-- the name of a refusal in texts
abbrev pub name_of : Refusal → List ℕ
name_of BadVm = codes "bad-vm"
name_of BadVcpu = codes "bad-vcpu"
name_of BadFrame = codes "bad-frame"
name_of BadGfn = codes "bad-gfn"
name_of BadRange = codes "bad-range"
name_of SlotUsed = codes "slot-used"
name_of NoVm = codes "no-vm"
name_of WrongPhase = codes "wrong-phase"
name_of VcpuUsed = codes "vcpu-used"
name_of NoVcpu = codes "no-vcpu"
name_of ImagesFull = codes "images-full"
name_of Overlap = codes "overlap"
name_of NoImage = codes "no-image"
name_of ImageFull = codes "image-full"
name_of ImageShort = codes "image-short"
name_of NoFault = codes "no-fault"
name_of Mapped = codes "mapped"
name_of NotMapped = codes "not-mapped"
name_of NotHost = codes "not-host"
name_of Protected = codes "protected"
name_of NotPresent = codes "not-present"
name_of TablesFull = codes "tables-full"
name_of ShareFull = codes "share-full"
name_of NotShared = codes "not-shared"
name_of Shared = codes "shared"
name_of NoFree = codes "no-free"

-- the result is an error exactly if there is a refusal, and then the error is that refusal
abbrev pub Answers : {X Refused : Type 0} → Result X Refused → Option Refused → Type 0
Answers (Ok x) refusal = refusal ≡ None
Answers (Err e) refusal = refusal ≡ Some e
