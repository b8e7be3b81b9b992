-- A call by numbers and bytes, and a reply in numbers and bytes.
use Rattle.std.specs.Prelude.{◌≡◌, ℕ, Bool, ◌==◌, ◌&&◌, nat_lt, nat_le, if◌then◌else◌, List, [], length, Option, Some, None}
use Rattle.kc_types.specs.Limits.{page_size}
use Rattle.kc_types.specs.Refusals.{number_of}
use Rattle.kc_types.specs.declared.call.Call.{Call}
use Rattle.kc_types.specs.declared.call.Actor.{Actor}
use Rattle.kc_types.specs.declared.call.Call.TheVariants.{Take, Give, HostFault, HostRead, HostWrite, RegisterVm, RegisterVcpu, SetBoot, Remap, Verify, Map, GuestRead, GuestWrite, Grant, Revoke, GrantRange, RevokeRange, Drop, Clear}
use Rattle.kc_types.specs.declared.reply.Reply.{Reply}
use Rattle.kc_types.specs.declared.reply.Reply.TheVariants as replies
use Rattle.kc_live.specs.Book.{reply_to}
use Rattle.kc_session.specs.Session.{Kept, with_call, IsOf, IsUnmade}
use Rattle.kc_session.specs.declared.session.AskFault.{AskFault}
use Rattle.kcore_c.specs.declared.request.Request.{Request}
use Rattle.kcore_c.specs.declared.request.Answer.{Answer}

-- as many bytes as a call may have
abbrev pub is_data : List ℕ → Bool
is_data bytes = nat_lt 0 (length bytes) && nat_le (length bytes) page_size

-- the call with these numbers and no bytes
abbrev pub numbered : Request → Option Call
numbered r =
    if r.call == 0 then Some Take
    else if r.call == 1 then Some (Give r.first)
    else if r.call == 2 then Some (HostFault r.first)
    else if r.call == 3 then Some (HostRead r.first r.second r.third)
    else if r.call == 5 then Some (RegisterVm r.first)
    else if r.call == 6 then Some (RegisterVcpu r.first r.second)
    else if r.call == 7 then Some (SetBoot r.first r.second r.third)
    else if r.call == 8 then Some (Remap r.first r.second r.third)
    else if r.call == 9 then Some (Verify r.first)
    else if r.call == 10 then Some (Map r.first r.second r.third)
    else if r.call == 11 then Some (GuestRead r.first r.second r.third r.fourth r.fifth)
    else if r.call == 13 then Some (Grant r.first r.second r.third)
    else if r.call == 14 then Some (Revoke r.first r.second r.third)
    else if r.call == 15 then Some (GrantRange r.first r.second r.third r.fourth)
    else if r.call == 16 then Some (RevokeRange r.first r.second r.third r.fourth)
    else if r.call == 17 then Some (Drop r.first r.second r.third)
    else if r.call == 18 then Some (Clear r.first)
    else None

-- the call that a request is
abbrev pub requested : Request → List ℕ → Option Call
requested r bytes =
    if r.call == 4 then (if is_data bytes then Some (HostWrite r.first r.second bytes) else None)
    else if r.call == 12 then (if is_data bytes then Some (GuestWrite r.first r.second r.third r.fourth bytes) else None)
    else numbered r

-- a reply's numbers, and its bytes
abbrev pub answer_of : Reply → Answer
answer_of replies.Done = record { kind = 0; number = 0 }
answer_of (replies.Frame f) = record { kind = 1; number = f }
answer_of (replies.Image i) = record { kind = 2; number = i }
answer_of (replies.Data bytes) = record { kind = 3; number = length bytes }
answer_of (replies.Fault g) = record { kind = 4; number = g }
answer_of (replies.Rejected i) = record { kind = 5; number = i }
answer_of (replies.Refused refusal) = record { kind = 6; number = number_of refusal }

abbrev pub bytes_of : Reply → List ℕ
bytes_of (replies.Data bytes) = bytes
bytes_of _ = []

-- the request is a call by the one that asks, which the session now has, and its reply's numbers and bytes are reported
pub record IsDone (asker : Option Actor) (old new : Kept) (request : Request) (given told : List ℕ) (answer : Answer) : Type 0 where
  pub call : Call
  pub read : requested request given ≡ Some call
  pub yours : IsOf asker call
  pub made : new ≡ with_call old call
  pub numbers : answer ≡ answer_of (reply_to old.log call)
  pub bytes : told ≡ bytes_of (reply_to old.log call)

-- the request is a call, and why it is not made
pub record IsUndone (asker : Option Actor) (old : Kept) (request : Request) (given : List ℕ) (fault : AskFault) : Type 0 where
  pub call : Call
  pub read : requested request given ≡ Some call
  pub why : IsUnmade asker old call fault
