-- The titles of bars and of cells.
use Rattle.std.specs.Prelude.{ℕ, ◌-◌, Bool, true, false, ◌==◌, List, [], ◌++◌, codes, Option, Some, None, if◌then◌else◌}
use Rattle.std.specs.Fmt.{decimal}
use Rattle.kc_types.specs.declared.owner.Owner.{Owner}
use Rattle.kc_types.specs.declared.owner.Owner.TheVariants.{Core, Host, Free, Vm}
use Rattle.kc_types.specs.declared.custody.Custody.{Custody}
use Rattle.kc_types.specs.declared.custody.Bar.{Bar}
use Rattle.kc_picture.specs.declared.cells.Whose.{Whose}
use Rattle.kc_picture.specs.declared.cells.Whose.TheVariants as whose
use Rattle.kc_picture.specs.declared.titles.Block.{Block}

-- the guest frame at which a VM sees it, if it does
abbrev pub place_words : Option ℕ → List ℕ
place_words None = []
place_words (Some g) = codes " at guest frame " ++ decimal g

-- who owns a frame, and of a VM's the guest frame
abbrev pub owner_words : Owner → Option ℕ → List ℕ
owner_words Core g = codes "core"
owner_words Host g = codes "host"
owner_words Free g = codes "free"
owner_words (Vm v) g = codes "vm " ++ decimal v ++ place_words g

-- how often its VM has granted it, if it has
abbrev pub grant_words : ℕ → List ℕ
grant_words n = if n == 0 then [] else (if n == 1 then codes ", 1 grant" else codes ", " ++ decimal n ++ codes " grants")

-- that the host reaches it, if it does
abbrev pub reach_words : Bool → List ℕ
reach_words true = codes ", reached by the host"
reach_words false = []

abbrev pub custody_words : Custody → List ℕ
custody_words custody = owner_words custody.owner custody.gfn ++ grant_words custody.share ++ reach_words custody.present

-- as "frame 3, lines 17 to 22: vm 0 at guest frame 7, 1 grant": the last line is the one before that at which it ends
abbrev pub bar_title : Bar → List ℕ
bar_title bar = codes "frame " ++ decimal bar.frame ++ codes ", lines " ++ decimal bar.from ++ codes " to " ++ decimal (bar.to - 1) ++ codes ": " ++ custody_words bar.custody

abbrev pub frames_words : (first last : ℕ) → List ℕ
frames_words first last = if first == last then codes "frame " ++ decimal first else codes "frames " ++ decimal first ++ codes " to " ++ decimal last

-- whose a cell is; of a picture of one VM alone, whether that had any of it
abbrev pub whose_words : (alone : Bool) → Whose → List ℕ
whose_words true (whose.Vm v) = codes "vm " ++ decimal v ++ codes " had some of it"
whose_words false (whose.Vm v) = codes "vm " ++ decimal v ++ codes " had more of it than all other VMs together"
whose_words alone whose.Several = codes "several VMs had some of it, none more than all others together"
whose_words true (whose.Rest colour) = codes "the VM had none of it"
whose_words false (whose.Rest colour) = codes "no VM had any of it"

-- as "frames 64 to 95, lines 17 to 256: vm 3 had more of it than all other VMs together"
abbrev pub cell_title : (alone : Bool) → Block → Whose → List ℕ
cell_title alone block whose = frames_words block.first_frame block.last_frame ++ codes ", lines " ++ decimal block.first_line ++ codes " to " ++ decimal block.last_line ++ codes ": " ++ whose_words alone whose
