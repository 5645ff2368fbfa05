-- The newer edition: what it adds, that it takes what the first edition takes, and that the first edition does not know its names. Assumes nothing.
use Rattle.std.specs.Prelude.{ℕ, ◌≡◌, true, false, List}
use Rattle.numbers.specs.Properties as property
use Rattle.numbers.specs.Kinds as kind
use Rattle.octets.specs.Ascii.{octets}
use Rattle.line_parser.specs.Grammar.{Each}
use Rattle.property_table.specs.declared.Edition.TheVariants.{First, Second}
use Rattle.property_table.specs.Rows.{row_of, is_new, kind_at, single}
use Rattle.reader.specs.Outcome.{judge_in, read_in}
use Rattle.folder_raising.specs.declared.Style.{Style}
use Rattle.folder.specs.Outcome.{fold_in}
use Rattle.desk_ledger.specs.Answers.{refused, verdict}
use Rattle.reader_grammar.specs.Inputs.{InputIn}
use Rattle.reader_grammar.specs.Editions.{Old}
use Rattle.demands.specs.Examples.{Holds, renewed}

-- the name is row n of edition two, with that kind
pub record Newer (name : List ℕ) (n k : ℕ) : Type 0 where
  pub row : row_of Second name ≡ n
  pub sort : kind_at n ≡ k

pub record Demand13 : Type 0 where
  -- the new rows, of which CREATED and LANGUAGE stand at most once
  pub created : Newer (octets "CREATED") property.created kind.timestamp
  pub gramgender : Newer (octets "GRAMGENDER") property.gramgender kind.text
  pub language : Newer (octets "LANGUAGE") property.language kind.anything
  pub pronouns : Newer (octets "PRONOUNS") property.pronouns kind.text
  pub socialprofile : Newer (octets "SOCIALPROFILE") property.socialprofile kind.uri
  pub once : (single property.created ≡ true) × (single property.language ≡ true)
  pub often : (single property.gramgender ≡ false) × (single property.pronouns ≡ false) × (single property.socialprofile ≡ false)
  -- every input without the new names that edition one accepts, edition two accepts with the same copy and records, whatever the rooms,
  pub extends : (i : List ℕ) (k n : ℕ) (h : InputIn First i k n) → Each Old h.lines
      → (copy records : List ℕ) → read_in Second i copy records ≡ read_in First i copy records
  -- and folds to the same octets
  pub folds : (i : List ℕ) (k n : ℕ) (h : InputIn First i k n) → Each Old h.lines
      → (s : Style) (out : List ℕ) → fold_in Second s i out ≡ fold_in First s i out
  -- the editions differ: an input of edition two that edition one refuses
  pub strictly : (i : List ℕ) × (k : ℕ) × (n : ℕ) × InputIn Second i k n × ((p : ℕ) × (verdict (judge_in First i) ≡ refused 7 p))
  -- in edition one the new names are no row's
  pub unknown_in_one : (v : List ℕ) → is_new v ≡ true → row_of First v ≡ property.other
  -- examples on both sides of what the editions differ in
  pub examples : Each Holds renewed
