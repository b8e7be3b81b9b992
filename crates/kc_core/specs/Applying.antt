-- What a call does with parts, besides what the rules say.
use Rattle.std.specs.Prelude.{ℕ, ◌≡◌, true, Result, Ok, Err}
use Rattle.kc_types.specs.declared.call.Call.{Call}
use Rattle.kc_types.specs.declared.memory.Memory.{Memory}
use Rattle.kc_types.specs.declared.refusal.Refusal.{Refusal}
use Rattle.kc_types.specs.declared.reply.Reply.{Reply}
use Rattle.kc_types.specs.declared.reply.Reply.TheVariants as reply
use Rattle.kc_types.specs.Configuration.{Configuration}
use Rattle.kc_model.specs.Next.{next}
use Rattle.kc_model.specs.Resources.{Resource, need, IsWithin}
use Rattle.kc_model.specs.Local.{IsOrderly}
use Rattle.kc_parts.specs.Parts.{Held, links_of}
use Rattle.kc_parts.specs.States.{state_of, here_of, owner_at, is_away, IsLinked}
use Rattle.kc_core.specs.declared.unserved.Unserved.{Unserved}
use Rattle.kc_core.specs.declared.unserved.Unserved.TheVariants.{Refused, OutOfMemory}

-- the places of frames and of slots are the same, and so are the parts in them, and they are reserved as before; frames of a
-- list whose ends are elsewhere keep their owner and their links
pub record KeepsPlaces (old new : Held) : Type 0 where
  pub numbers : new.numbers ≡ old.numbers
  pub slots : new.vms.numbers ≡ old.vms.numbers
  pub filled : new.filled ≡ old.filled
  pub reserved : new.is_reserved ≡ old.is_reserved
  pub here : (r : Resource) → here_of new r ≡ here_of old r
  pub away : (f : ℕ) → is_away old f ≡ true → (owner_at new f ≡ owner_at old f) × (links_of new f ≡ links_of old f)

-- a call can be made on the parts: they are as orderly as those of a lawful state, and what the call needs is here
pub record IsAble (config : Configuration) (h : Held) (call : Call) : Type 0 where
  pub orderly : IsOrderly (state_of config h)
  pub linked : IsLinked config h
  pub here : IsWithin (need (state_of config h) call) (here_of h)

-- the reply to a call, and the parts that it leaves, are what the rules say, and all parts stay in their places
pub record IsAnswer (config : Configuration) (old new : Held) (call : Call) (answer : Reply) : Type 0 where
  pub reply : answer ≡ (next (state_of config old) call).0
  pub state : state_of config new ≡ (next (state_of config old) call).1
  pub linked : IsLinked config new
  pub places : KeepsPlaces old new

-- the reply to a call that is carried out, or that it is refused, and why
abbrev pub reply_of : Result Reply Refusal → Reply
reply_of (Ok reply) = reply
reply_of (Err why) = reply.Refused why

-- the same for a call for which memory may run out, and then there is no reply
abbrev pub answer_of : Result Reply Unserved → Result Reply Memory
answer_of (Ok reply) = Ok reply
answer_of (Err (Refused why)) = Ok (reply.Refused why)
answer_of (Err (OutOfMemory memory)) = Err memory
