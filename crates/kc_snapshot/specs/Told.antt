-- What describes a state: its dump, and all that a dump leaves out.
use Rattle.std.specs.Prelude.{ℕ, List, length, map}
use Rattle.kc_types.specs.Configuration.{Configuration}
use Rattle.kc_model.specs.State.{State, Frame, Slot, Vcpu, Image}
use Rattle.kc_page.specs.PageBytes.{Content}
use Rattle.kc_dump.specs.Dump.{Dumped}
use Rattle.kc_snapshot.specs.Dumping.{dump_of}

-- what a dump leaves out of a slot: its virtual processors, and its images
pub record SlotRest : Type 0 where
  pub vcpus : List Vcpu
  pub images : List Image

-- what a dump leaves out of a state: how many frames were the host's at boot, the approved digests, the rest of each slot, the bytes of each page
pub record Rest : Type 0 where
  pub host : ℕ
  pub approved : List (List ℕ)
  pub slots : List SlotRest
  pub pages : List (List ℕ)

-- the bytes of pages
abbrev pub bytes_of : List Content → List (List ℕ)
bytes_of pages = map (λ (page : Content). page.bytes) pages

pub record Told : Type 0 where
  pub rest : Rest
  pub dump : Dumped

abbrev pub slot_rest : Slot → SlotRest
slot_rest slot = record { vcpus = slot.vcpus; images = slot.images }

abbrev pub rest_of : State → Rest
rest_of m = record {
  host = m.config.host;
  approved = m.config.approved;
  slots = map slot_rest m.slots;
  pages = map (λ (frame : Frame). frame.bytes) m.frames;
}

-- the description of a state
abbrev pub told_of : State → Told
told_of m = record { rest = rest_of m; dump = dump_of m }

-- the configuration of a state that has this description
abbrev pub config_of : Told → Configuration
config_of t = record {
  version = t.dump.version;
  frames = length t.dump.frames;
  core = t.dump.core;
  host = t.rest.host;
  leaves = t.dump.leaves;
  approved = t.rest.approved;
}
