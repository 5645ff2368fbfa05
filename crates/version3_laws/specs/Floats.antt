-- The two forms of GEO: `a;b` in version 3, `geo:a,b` in version 4, where a and b are floats of RFC 6350, 4.6. Assumes nothing.
use Rattle.std.specs.Prelude.{ℕ, ◌<◌, ◌≡◌, List, ◌∷◌, ◌++◌, ◌⊎◌, length}
use Rattle.octets.specs.Ascii as ascii
use Rattle.octets.specs.Ascii.{octets}
use Rattle.octets.specs.Classes.{digit}
use Rattle.line_parser.specs.Grammar.{Each, Is}

-- 1*DIGIT
pub record Digits (v : List ℕ) : Type 0 where
  pub some : 0 < length v
  pub each : Each (Is digit) v

-- 1*DIGIT ["." 1*DIGIT]
pub data Unsigned : List ℕ → Type 0 where
  whole : {u : List ℕ} → Digits u → Unsigned u
  broken : {u v : List ℕ} → Digits u → Digits v → Unsigned (u ++ (ascii.dot ∷ v))

-- [sign] 1*DIGIT ["." 1*DIGIT]
pub data Float : List ℕ → Type 0 where
  unsigned : {v : List ℕ} → Unsigned v → Float v
  signed : {s : ℕ} {v : List ℕ} → (s ≡ ascii.plus) ⊎ (s ≡ ascii.hyphen) → Unsigned v → Float (s ∷ v)

-- two floats with a mark between them
pub data Floats (mark : ℕ) (a b : List ℕ) : List ℕ → Type 0 where
  floats : Float a → Float b → Floats mark a b (a ++ (mark ∷ b))

-- "`GEO:a;b`, both RFC 6350 floats", and "`GEO:geo:a,b`"
abbrev pub OldGeo : List ℕ → List ℕ → List ℕ → Type 0
OldGeo a b v = Floats ascii.semicolon a b v

pub data NewGeo (a b : List ℕ) : List ℕ → Type 0 where
  schemed : {v : List ℕ} → Floats ascii.comma a b v → NewGeo a b (octets "geo:" ++ v)
