-- What words or lines begin with, and how far some lines were read.
use Rattle.std.specs.Prelude.{ℕ, ◌≡◌, ◌<◌, ◌≤◌, ◌+◌, ◌^◌, false, List, [], ◌∷◌, ◌++◌, length, All}
use Rattle.std.specs.Fmt.{decimal}
use Rattle.std.specs.List.{flat_map}
use Rattle.hex.specs.Hex.{encode_lower}
use Rattle.kc_types.specs.Limits.{first_vcpu_limit, first_image_limit}
use Rattle.kc_model.specs.State.{Vcpu, Image}
use Rattle.kc_model.specs.Lawful.{IsPage}
use Rattle.kc_state_text.specs.declared.fault.StateFault.{StateFault}
use Rattle.kc_state_text.specs.declared.fault.StateFault.TheVariants.{NoHeader, BadLine, Missing, Sizes, Found, Slot, Frame, Memory}
use Rattle.kc_state_text.specs.StateText.{is_zero}
use Rattle.kc_state_text.specs.Refused.{IsVcpuWord, AreImageWords, HasNone, StopsBefore}

abbrev pub IsNumber : ℕ → Type 0
IsNumber n = n < 2 ^ 32

-- it is at most this
abbrev pub IsAtMost : ℕ → ℕ → Type 0
IsAtMost most n = n ≤ most

abbrev pub number_words : ℕ → List (List ℕ)
number_words n = decimal n ∷ []

-- the name, and then the words
abbrev pub after_name : {X : Type 0} → List ℕ → (X → List (List ℕ)) → X → List (List ℕ)
after_name name spelled x = name ∷ spelled x

-- the list does not begin with such a thing
abbrev pub LacksFirst : {X A : Type 0} → (X → Type 0) → (X → List A) → List A → Type 0
LacksFirst {X} {A} Is spelled list = (x : X) (more : List A) → Is x → list ≡ spelled x ++ more → ⊥

-- the list is not such a thing
abbrev pub LacksWhole : {X A : Type 0} → (X → Type 0) → (X → List A) → List A → Type 0
LacksWhole {X} {A} Is spelled list = (x : X) → Is x → list ≡ spelled x → ⊥

-- the list begins with this thing, and the rest follows
pub record BeginsAs {X A : Type 0} (Is : X → Type 0) (spelled : X → List A) (list : List A) (x : X) (rest : List A) : Type 0 where
  pub is : Is x
  pub whole : list ≡ spelled x ++ rest

-- the list is this thing
pub record IsWhole {X A : Type 0} (Is : X → Type 0) (spelled : X → List A) (list : List A) (x : X) : Type 0 where
  pub is : Is x
  pub whole : list ≡ spelled x

-- one more thing, which the list is
abbrev pub IsOneMore : {X A : Type 0} → (X → Type 0) → (X → List A) → List A → List X → List X → Type 0
IsOneMore {X} Is spelled list xs ys = (x : X) × IsWhole Is spelled list x × (ys ≡ xs ++ x ∷ [])

-- the word spells these bytes, of a page that is not zero
pub record AreDigits (word bytes : List ℕ) : Type 0 where
  pub page : IsPage bytes
  pub some : is_zero bytes ≡ false
  pub whole : word ≡ encode_lower bytes

pub record AreVcpus (vcpus : List Vcpu) : Type 0 where
  pub eight : length vcpus ≡ first_vcpu_limit
  pub each : All IsVcpuWord vcpus

pub record AreImages (images : List Image) : Type 0 where
  pub few : length images ≤ first_image_limit
  pub each : All AreImageWords images

-- the text begins with the lines of this many things, and the rest follows
pub record AreRead {X : Type 0} (Is : X → Type 0) (spelled : X → List ℕ) (count : ℕ) (text : List ℕ) (xs : List X) (rest : List ℕ) : Type 0 where
  pub many : length xs ≡ count
  pub each : All Is xs
  pub whole : text ≡ flat_map spelled xs ++ rest

-- after fewer lines, the text does not go on with another one
pub record Lacks {X : Type 0} (Is : X → Type 0) (spelled : X → List ℕ) (first count : ℕ) (text : List ℕ) (n : ℕ) : Type 0 where
  pub xs : List X
  pub rest : List ℕ
  pub read : AreRead Is spelled (length xs) text xs rest
  pub few : length xs < count
  pub none : HasNone Is spelled rest
  pub number : n ≡ first + length xs

-- reading this many lines, the first of which has this number, stops for this reason
abbrev pub StopsAmong : {X : Type 0} → (X → Type 0) → (X → List ℕ) → ℕ → ℕ → List ℕ → StateFault → Type 0
StopsAmong Is spelled first count text NoHeader = ⊥
StopsAmong Is spelled first count text (BadLine n) = Lacks Is spelled first count text n
StopsAmong Is spelled first count text (Missing f) = ⊥
StopsAmong Is spelled first count text Sizes = ⊥
StopsAmong Is spelled first count text (Found finding) = ⊥
StopsAmong Is spelled first count text (Slot v) = ⊥
StopsAmong Is spelled first count text (Frame f) = ⊥
StopsAmong Is spelled first count text Memory = Unit {0}

-- reading the lines between the header and the dump stops for this reason
abbrev pub IsFrontFault : List ℕ → StateFault → Type 0
IsFrontFault text NoHeader = ⊥
IsFrontFault text (BadLine n) = StopsBefore text n
IsFrontFault text (Missing f) = ⊥
IsFrontFault text Sizes = ⊥
IsFrontFault text (Found finding) = ⊥
IsFrontFault text (Slot v) = ⊥
IsFrontFault text (Frame f) = ⊥
IsFrontFault text Memory = Unit {0}
