-- How each call is spelled.
use Rattle.std.specs.Prelude.{ℕ, ◌+◌, Bool, true, false, not, List, [], ◌∷◌, ◌++◌, codes, if◌then◌else◌}
use Rattle.std.specs.List.{list_any, flat_map, join_with_byte}
use Rattle.std.specs.Fmt.{decimal}
use Rattle.hex.specs.Hex.{encode_lower}
use Rattle.kc_types.specs.Limits.{line_limit}
use Rattle.kc_trace.specs.declared.header.Header.{Header}
use Rattle.kc_trace.specs.declared.header.Header.TheVariants.{One, Two, Three}
use Rattle.kc_trace.specs.Header.{trace_header}
use Rattle.kc_types.specs.declared.call.Call.{Call}
use Rattle.kc_types.specs.declared.call.Call.TheVariants.{Take, Give, HostFault, HostRead, HostWrite, RegisterVm, RegisterVcpu, SetBoot, Remap, Verify, Map, GuestRead, GuestWrite, Grant, Revoke, GrantRange, RevokeRange, Drop, Clear}

-- the words of a call's line: its name, its numbers, and the bytes that it writes
abbrev pub words_of : Call → List (List ℕ)
words_of Take = codes "take" ∷ []
words_of (Give frame) = codes "give" ∷ decimal frame ∷ []
words_of (HostFault frame) = codes "hfault" ∷ decimal frame ∷ []
words_of (HostRead frame offset len) = codes "hread" ∷ decimal frame ∷ decimal offset ∷ decimal len ∷ []
words_of (HostWrite frame offset bytes) = codes "hwrite" ∷ decimal frame ∷ decimal offset ∷ encode_lower bytes ∷ []
words_of (RegisterVm vm) = codes "regvm" ∷ decimal vm ∷ []
words_of (RegisterVcpu vm vcpu) = codes "regvcpu" ∷ decimal vm ∷ decimal vcpu ∷ []
words_of (SetBoot vm base len) = codes "setboot" ∷ decimal vm ∷ decimal base ∷ decimal len ∷ []
words_of (Remap vm image frame) = codes "remap" ∷ decimal vm ∷ decimal image ∷ decimal frame ∷ []
words_of (Verify vm) = codes "verify" ∷ decimal vm ∷ []
words_of (Map vm vcpu frame) = codes "map" ∷ decimal vm ∷ decimal vcpu ∷ decimal frame ∷ []
words_of (GuestRead vm vcpu gfn offset len) = codes "gread" ∷ decimal vm ∷ decimal vcpu ∷ decimal gfn ∷ decimal offset ∷ decimal len ∷ []
words_of (GuestWrite vm vcpu gfn offset bytes) = codes "gwrite" ∷ decimal vm ∷ decimal vcpu ∷ decimal gfn ∷ decimal offset ∷ encode_lower bytes ∷ []
words_of (Grant vm vcpu gfn) = codes "grant" ∷ decimal vm ∷ decimal vcpu ∷ decimal gfn ∷ []
words_of (Revoke vm vcpu gfn) = codes "revoke" ∷ decimal vm ∷ decimal vcpu ∷ decimal gfn ∷ []
words_of (GrantRange vm vcpu gfn count) = codes "grantr" ∷ decimal vm ∷ decimal vcpu ∷ decimal gfn ∷ decimal count ∷ []
words_of (RevokeRange vm vcpu gfn count) = codes "revoker" ∷ decimal vm ∷ decimal vcpu ∷ decimal gfn ∷ decimal count ∷ []
words_of (Drop vm vcpu gfn) = codes "drop" ∷ decimal vm ∷ decimal vcpu ∷ decimal gfn ∷ []
words_of (Clear vm) = codes "clear" ∷ decimal vm ∷ []

-- the line of a call, without its newline
abbrev pub line_of : Call → List ℕ
line_of call = join_with_byte 32 (words_of call)

-- the length of the longest line of a call, with its newline: `gwrite`, four numbers and 4,096 bytes
abbrev pub longest_call : ℕ
longest_call = line_limit + 1

-- the lines of some calls, each with its newline
abbrev pub lines_of : List Call → List ℕ
lines_of calls = flat_map (λ call. line_of call ++ 10 ∷ []) calls

-- whether traces with the first header may not have the call
abbrev pub is_range_call : Call → Bool
is_range_call (GrantRange vm vcpu gfn count) = true
is_range_call (RevokeRange vm vcpu gfn count) = true
is_range_call _ = false

-- whether a trace with this header may have the call
abbrev pub is_allowed_in : Header → Call → Bool
is_allowed_in One call = not (is_range_call call)
is_allowed_in Two call = true
is_allowed_in (Three head) call = true

-- the text of some calls after a header
abbrev pub text_of : Header → List Call → List ℕ
text_of header calls = trace_header header ++ lines_of calls

-- the first header that may have all of these calls after it
unfoldable pub header_of : List Call → Header
header_of calls = if list_any is_range_call calls then Two else One

-- the text that is written for a list of calls
abbrev pub trace_of : List Call → List ℕ
trace_of calls = text_of (header_of calls) calls
