-- The options of a subcommand, as clap finds them.
use Rattle.std.specs.Prelude.{◌≡◌, ◌≢◌, ◌⊎◌, ◌^◌, ◌↔◌, ◌&&◌, IsTrue, ℕ, nat_le, nat_lt, Bool, false, List, [], drop, length, codes, Option, Some, None, option_map, if◌then◌else◌}
use Rattle.std.specs.Option.{option_map_or}
use Rattle.std.specs.List.{list_all}
use Rattle.std.specs.Char.{digit_value}
use Rattle.std.specs.Str.Parse.{digits_value, without_leading_plus}
use Rattle.std.specs.Borrow.{Bor}
use Rattle.clap.specs.Words.{Text, Row, first_of, one_of, all_of}
use Rattle.kc_types.specs.Limits.{worker_limit}
use Rattle.kc_args.specs.declared.options.Options.{Options}
use Rattle.kc_args.specs.declared.options.Options.TheVariants.{Replay, Live, Custody, Audit, Redact, Convert}

-- the number of this many bits that a text is, with or without a plus; 0 if it is not one
abbrev pub number_or_zero : ℕ → Text → ℕ
number_or_zero bits text =
    let digits = without_leading_plus text in
    if nat_lt 0 (length digits) && list_all (λ digit. nat_lt (digit_value digit) 10) digits && nat_lt (digits_value 10 digits) (2 ^ bits) then digits_value 10 digits else 0

-- 1 to 64: the command's rules accept no other number of workers
abbrev pub in_range : ℕ → ℕ
in_range n = if nat_le 1 n && nat_le n worker_limit then n else 1

-- the number of workers that is named; 1 if none is
abbrev pub workers_in : List Row → ℕ
workers_in rows = option_map_or (λ text. in_range (number_or_zero 8 text)) (one_of (codes "workers") rows) 1

-- the number after `--vm`
abbrev pub slot_in : List Row → ℕ
slot_in rows = option_map_or (number_or_zero 16) (one_of (codes "vm") rows) 0

-- the slot that is named, if one is
abbrev pub vm_in : List Row → Option ℕ
vm_in rows = option_map (λ text. slot_in rows) (first_of (codes "vm") rows)

-- the path after this option is that of the rows
abbrev pub HasPath : Text → List Row → Option (Bor Text) → Type 0
HasPath option rows path = option_map (λ s. s.now) path ≡ first_of option rows

-- the path of the configuration, and the number of workers, are those of the rows
abbrev pub HasOptions : List Row → Option (Bor Text) → ℕ → Type 0
HasOptions rows config workers = HasPath (codes "config") rows config × (workers ≡ workers_in rows)

-- the flag is given
abbrev pub IsSet : Text → List Row → Type 0
IsSet flag rows = first_of flag rows ≡ Some (codes "true")

-- the file that is read; `-`, or no file, is standard input
abbrev pub HasInput : List Row → Option (Bor Text) → Type 0
HasInput rows None = (first_of (codes "file") rows ≡ None) ⊎ (first_of (codes "file") rows ≡ Some (codes "-"))
HasInput rows (Some name) = (first_of (codes "file") rows ≡ Some name.now) × (name.now ≢ codes "-")

-- the files that are named, in order
abbrev pub files_found : Option (List Text) → List Text
files_found None = []
files_found (Some files) = files

abbrev pub files_named : List Row → List Text
files_named rows = files_found (all_of (codes "file") rows)

-- the files that come after the first of those that are named, in order
abbrev pub files_after_first : Option (List Text) → List Text
files_after_first None = []
files_after_first (Some files) = drop 1 files

abbrev pub files_after : List Row → List Text
files_after rows = files_after_first (all_of (codes "file") rows)

-- whether several files are named
abbrev pub are_several : Option (List Text) → Bool
are_several None = false
are_several (Some files) = nat_lt 1 (length files)

abbrev pub has_several : List Row → Bool
has_several rows = are_several (all_of (codes "file") rows)

-- the flag is given exactly if this is true
abbrev pub IsFlag : Text → List Row → Bool → Type 0
IsFlag flag rows given = IsTrue given ↔ IsSet flag rows

-- the options that the subcommand of this name is given, by their rows: besides `measure` there are `replay`, `live`, `custody`, `audit`, `redact` and `convert` alone
abbrev pub AreOptionsIn : Text → List Row → Options → Type 0
AreOptionsIn name rows (Replay config from to workers lines dump state blank several) = (name ≢ codes "live") × (name ≢ codes "custody") × (name ≢ codes "audit") × (name ≢ codes "redact") × (name ≢ codes "convert") × (name ≢ codes "measure")
    × HasOptions rows config workers × HasPath (codes "from") rows from × HasPath (codes "to") rows to
    × IsFlag (codes "lines") rows lines × IsFlag (codes "dump") rows dump × IsFlag (codes "state") rows state × IsFlag (codes "blank") rows blank
    × (several ≡ has_several rows)
AreOptionsIn name rows (Live config workers) = (name ≡ codes "live") × HasOptions rows config workers
AreOptionsIn name rows (Custody config from vm summary svg html refused accesses unseen digests) = (name ≡ codes "custody")
    × HasPath (codes "config") rows config × HasPath (codes "from") rows from × (vm ≡ vm_in rows)
    × IsFlag (codes "summary") rows summary × IsFlag (codes "svg") rows svg × IsFlag (codes "html") rows html
    × IsFlag (codes "refused") rows refused × IsFlag (codes "accesses") rows accesses × IsFlag (codes "unseen") rows unseen × IsFlag (codes "digests") rows digests
AreOptionsIn name rows (Audit all) = (name ≡ codes "audit") × IsFlag (codes "all") rows all
AreOptionsIn name rows (Redact config from host) = (name ≡ codes "redact")
    × HasPath (codes "config") rows config × HasPath (codes "from") rows from × IsFlag (codes "host") rows host
AreOptionsIn name rows (Convert config after) = (name ≡ codes "convert")
    × HasPath (codes "config") rows config × HasPath (codes "after") rows after
