-- Which kind a line's value has, to be held beside REFERENCE, The VALUE rule. Assumes nothing.
use Rattle.std.specs.Prelude.{ℕ, ◌≡◌, true, false, List, ◌⊎◌}
use Rattle.std.proofs.Math.Option.{Option, none, some}
use Rattle.numbers.specs.Properties as property
use Rattle.numbers.specs.Kinds as kinds
use Rattle.octets.specs.Cases.{same}
use Rattle.octets.specs.Ascii.{octets}
use Rattle.property_table.specs.Rows.{kind_at, takes_value}

-- a parameter's first value is there, and is the text in any case; it is there, and is another
abbrev pub Is : List ℕ → Option (List ℕ) → Type 0
Is t o = (v : List ℕ) × (o ≡ some v) × (same v t ≡ true)

abbrev pub IsOther : List ℕ → Option (List ℕ) → Type 0
IsOther t o = (v : List ℕ) × (o ≡ some v) × (same v t ≡ false)

abbrev pub Birthday : ℕ → Type 0
Birthday n = (n ≡ property.bday) ⊎ (n ≡ property.anniversary)

-- VALUE sets the kind: listed rows of kind 0, 1 or 3, TZ among them, except BEGIN, VERSION, END and XML
abbrev pub Valued : ℕ → Type 0
Valued n = takes_value n ≡ true

-- any other row
pub record Fixed (n : ℕ) : Type 0 where
  pub no_date : Birthday n → ⊥
  pub no_value : takes_value n ≡ false

-- the kind of a line of row n whose first VALUE and first CALSCALE are these
pub data KindOf (n : ℕ) (value calscale : Option (List ℕ)) : ℕ → Type 0 where
  date_text : Birthday n → Is (octets "text") value → KindOf n value calscale kinds.text
  date_foreign : Birthday n → (Is (octets "text") value → ⊥) → IsOther (octets "gregorian") calscale → KindOf n value calscale kinds.anything
  date : Birthday n → (Is (octets "text") value → ⊥) → (IsOther (octets "gregorian") calscale → ⊥) → KindOf n value calscale kinds.date
  offset : n ≡ property.tz → Is (octets "utc-offset") value → KindOf n value calscale kinds.offset
  text : Valued n → Is (octets "text") value → KindOf n value calscale kinds.text
  uri : Valued n → Is (octets "uri") value → KindOf n value calscale kinds.uri
  other : Valued n → (n ≡ property.tz → Is (octets "utc-offset") value → ⊥) → IsOther (octets "text") value → IsOther (octets "uri") value
      → KindOf n value calscale kinds.anything
  unnamed : Valued n → value ≡ none → KindOf n value calscale (kind_at n)
  fixed : Fixed n → KindOf n value calscale (kind_at n)
