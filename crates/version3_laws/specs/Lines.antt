-- When a line of version 3 is taken in as a line of version 4, and when one of version 4 is given out as one of version 3. Assumes nothing.
use Rattle.std.specs.Prelude.{ℕ, ◌≡◌, List}
use Rattle.numbers.specs.Properties as property
use Rattle.octets.specs.Ascii.{octets}
use Rattle.line_parser.specs.Grammar.{Line}
use Rattle.property_table.specs.declared.Edition.TheVariants.{First}
use Rattle.card_line.specs.Parts.{row_of_line, kind_of_line}
use Rattle.reader_grammar.specs.Values.{OfKind, Four}
use Rattle.reader_grammar.specs.Cards.{Frame}
use Rattle.version3_parameters.specs.declared.Way.{Way}
use Rattle.version3_parameters.specs.declared.Way.TheVariants.{Inward, Outward}
use Rattle.version3_laws.specs.Says.{Says, written, padded}
use Rattle.version3_laws.specs.Floats.{OldGeo, NewGeo}
use Rattle.version3_laws.specs.Params.{Nowhere, ParamsIn, ParamsOut}

-- "the others are FN, N, TEL, EMAIL, ADR, NOTE, TITLE, ROLE, ORG, GEO, URL"
pub data Eleven : ℕ → Type 0 where
  fn : Eleven property.fn
  n : Eleven property.n
  tel : Eleven property.tel
  email : Eleven property.email
  adr : Eleven property.adr
  note : Eleven property.note
  title : Eleven property.title
  role : Eleven property.role
  org : Eleven property.org
  geo : Eleven property.geo
  url : Eleven property.url

-- a value of the row and the kind taken in: "`GEO:a;b` [..] becomes `GEO:geo:a,b`"; any other has its components filled up and its text escaped anew
pub data ValueIn : ℕ → ℕ → List ℕ → List ℕ → Type 0 where
  place : {k : ℕ} {a b v w : List ℕ} → OldGeo a b v → NewGeo a b w → ValueIn property.geo k v w
  said : {row k : ℕ} {v : List ℕ} {cs : List (List (List ℕ))} → (row ≡ property.geo → ⊥) → Says k v cs → ValueIn row k v (written k (padded k cs))

-- the same given out, "all components kept" and none added
pub data ValueOut : ℕ → ℕ → List ℕ → List ℕ → Type 0 where
  place : {k : ℕ} {a b v w : List ℕ} → NewGeo a b v → OldGeo a b w → ValueOut property.geo k v w
  said : {row k : ℕ} {v : List ℕ} {cs : List (List (List ℕ))} → (row ≡ property.geo → ⊥) → Says k v cs → ValueOut row k v (written k cs)

-- the line x is taken in as y: one of the eleven, without a PREF, and with a value that then is of its kind
pub record TakenIn (x y : Line) : Type 0 where
  pub row : Eleven (row_of_line First x)
  pub no_pref : Nowhere (octets "PREF") x.params
  pub group : y.group ≡ x.group
  pub name : y.name ≡ x.name
  pub params : ParamsIn x.params y.params
  pub value : ValueIn (row_of_line First x) (kind_of_line First x) x.value y.value
  pub fits : OfKind First (kind_of_line First x) y.value

-- the line x is given out as y
pub record GivenOut (x y : Line) : Type 0 where
  pub row : Eleven (row_of_line First x)
  pub group : y.group ≡ x.group
  pub name : y.name ≡ x.name
  pub params : ParamsOut x.params y.params
  pub value : ValueOut (row_of_line First x) (kind_of_line First x) x.value y.value

-- in or out
abbrev pub GoesOver : Way → Line → Line → Type 0
GoesOver Inward x y = TakenIn x y
GoesOver Outward x y = GivenOut x y

-- "VERSION:3.0"
abbrev pub Three : List ℕ → Type 0
Three v = v ≡ octets "3.0"

-- the VERSION line that is read, and the number that is written
abbrev pub VersionRead : Way → Line → Type 0
VersionRead Inward x = Frame First property.version Three x
VersionRead Outward x = Frame First property.version Four x

abbrev pub number_written : Way → List ℕ
number_written Inward = octets "4.0"
number_written Outward = octets "3.0"

abbrev pub versioned : Way → Line → Line
versioned w x = record { group = x.group; name = x.name; params = x.params; value = number_written w }
