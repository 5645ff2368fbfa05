-- Which values a line may have, by REFERENCE, The kinds of value: the kinds in plain words, and the fixed values of BEGIN, VERSION and END. Assumes nothing.
use Rattle.std.specs.Prelude.{ℕ, ◌≡◌, true, List}
use Rattle.numbers.specs.Properties as property
use Rattle.octets.specs.Cases.{same}
use Rattle.numbers.specs.Kinds as kinds
use Rattle.octets.specs.Ascii.{octets}
use Rattle.property_table.specs.declared.Edition.{Edition}
use Rattle.value_kinds.specs.Kinds.{fewest_of_name, most_of_name, fewest_of_address, most_of_address}
use Rattle.value_laws.specs.Calendar.{DateAndOrTime, Timestamp, Offset}
use Rattle.value_laws.specs.Words.{Text, Texts, Components, Uri, Gender, Pidmap}

-- "Kinds: 0 anything; 1 text; 2 texts split by bare commas; 3 URI; [..]"
pub data OfKind (e : Edition) : ℕ → List ℕ → Type 0 where
  anything : {v : List ℕ} → OfKind e kinds.anything v
  text : {v : List ℕ} → Text v → OfKind e kinds.text v
  texts : {v : List ℕ} → Texts v → OfKind e kinds.texts v
  uri : {v : List ℕ} → Uri v → OfKind e kinds.uri v
  name : {v : List ℕ} → Components fewest_of_name (most_of_name e) v → OfKind e kinds.name v
  address : {v : List ℕ} → Components fewest_of_address (most_of_address e) v → OfKind e kinds.address v
  components : {v : List ℕ} → Text v → OfKind e kinds.organization v
  gender : {v : List ℕ} → Gender v → OfKind e kinds.gender v
  pidmap : {v : List ℕ} → Pidmap v → OfKind e kinds.pidmap v
  date : {v : List ℕ} → DateAndOrTime v → OfKind e kinds.date v
  timestamp : {v : List ℕ} → Timestamp v → OfKind e kinds.timestamp v
  offset : {v : List ℕ} → Offset v → OfKind e kinds.offset v

-- "BEGIN and END have value VCARD in any case"
abbrev pub Vcard : List ℕ → Type 0
Vcard v = same v (octets "VCARD") ≡ true

-- "VERSION exactly `4.0`"
abbrev pub Four : List ℕ → Type 0
Four v = v ≡ octets "4.0"

-- the value of a line of row 1 BEGIN, 2 END, 34 VERSION or any other
pub record Fitting (e : Edition) (row kind : ℕ) (v : List ℕ) : Type 0 where
  pub begin : row ≡ property.begin → Vcard v
  pub end : row ≡ property.end → Vcard v
  pub version : row ≡ property.version → Four v
  pub other : (row ≡ property.begin → ⊥) → (row ≡ property.end → ⊥) → (row ≡ property.version → ⊥) → OfKind e kind v
