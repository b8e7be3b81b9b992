-- The boot images that a command line names.
use Rattle.std.specs.Prelude.{◌≡◌, ◌==◌, ◌&&◌, ◌<◌, ◌≤◌, not, nat_lt, ℕ, List, [], map, length, codes, Contains, Option, Some, None, if◌then◌else◌}
use Rattle.std.specs.List.{before_first, after_first}
use Rattle.clap.specs.Words.{Text, Row}
use Rattle.kc_types.specs.Limits.{gfn_limit, image_limit}
use Rattle.kc_lines.specs.Words.{number_in}
use Rattle.kc_args.specs.declared.job.ImageFile.{ImageFile}
use Rattle.kc_args.specs.declared.job.Measuring.{Measuring}
use Rattle.kc_args.specs.declared.clash.Clash.{Clash}
use Rattle.kc_args.specs.declared.clash.Clash.TheVariants as clashes
use Rattle.kc_args.specs.Options.{IsFlag, files_named}

-- a guest frame number and a path that is not empty
abbrev pub place_at : Option ℕ → Text → Option (ℕ × Text)
place_at None path = None
place_at (Some base) path = if nat_lt base gfn_limit && not (length path == 0) then Some (base, path) else None

-- the first guest frame and the path that a word gives, which are before and after its first `=`
abbrev pub place_in : Text → Option (ℕ × Text)
place_in word = place_at (number_in (before_first (λ b. b == 61) word)) (after_first (λ b. b == 61) word)

-- those of an image
abbrev pub place_of : ImageFile → ℕ × Text
place_of image = (image.base, image.path.now)

-- the images that these words name, in order; or one of them does not name an image
abbrev pub AreImagesOf : List Text → Option (List ImageFile) → Type 0
AreImagesOf words None = (word : Text) × Contains words word × (place_in word ≡ None)
AreImagesOf words (Some images) = map (λ image. Some (place_of image)) images ≡ map place_in words

-- what `measure` asks for, by the rows of its options: 1 to 16 images
pub record IsMeasuringIn (rows : List Row) (measuring : Measuring) : Type 0 where
  pub some : 0 < length (files_named rows)
  pub few : length (files_named rows) ≤ image_limit
  pub images : AreImagesOf (files_named rows) (Some measuring.images.items)
  pub json : IsFlag (codes "json") rows measuring.json
  pub explain : IsFlag (codes "explain") rows measuring.explain

-- what is wrong with its images
abbrev pub IsImageClashIn : List Row → Clash → Type 0
IsImageClashIn rows clashes.MeasureAlone = files_named rows ≡ []
IsImageClashIn rows clashes.ManyImages = image_limit < length (files_named rows)
IsImageClashIn rows clashes.NoImage = AreImagesOf (files_named rows) None
IsImageClashIn rows clash = ⊥
