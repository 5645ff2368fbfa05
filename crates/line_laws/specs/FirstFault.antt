-- "The first fault from the left": the longest beginning of a line that a good line has, and the part of the line that is being read there.
-- Assumes nothing.
use Rattle.std.specs.Prelude.{ℕ, ◌≡◌, Bool, true, false, List, [], ◌∷◌, ◌++◌}
use Rattle.numbers.specs.Refusals as refusal
use Rattle.octets.specs.Ascii as ascii
use Rattle.octets.specs.Classes.{named, quoted}
use Rattle.octets.specs.Pick.{pick}
use Rattle.line_parser.specs.Grammar.{Line, Value, Param, Each, Is, Word, GoodValue, GoodParam, WellFormed, value_text, param_text, group_text, render}

-- some good line starts with b
abbrev pub Opens : List ℕ → Type 0
Opens b = (x : Line) × (w : List ℕ) × WellFormed x × (render x ≡ b ++ w)

-- b is the longest beginning of l that a good line has, and rest follows it; l itself is no good line
pub record Leftmost (l b rest : List ℕ) : Type 0 where
  pub whole : l ≡ b ++ rest
  pub opens : Opens b
  pub dead : (c : ℕ) (r : List ℕ) → rest ≡ c ∷ r → Opens (b ++ (c ∷ [])) → ⊥
  pub bad : (x : Line) → WellFormed x → l ≡ render x → ⊥

-- whether an octet follows, or the line ends
unfoldable pub goes_on : List ℕ → Bool
goes_on [] = false
goes_on (c ∷ r) = true

-- A beginning that ends in the values of a parameter, from after `=` on; whether an octet follows; and the number of the fault there: 42, but
-- 43 where the line ends and no quote is open.
pub data InValues : List ℕ → Bool → ℕ → Type 0 where
  in_quotes : (xs : List ℕ) {f : Bool} → Each (Is quoted) xs → InValues (ascii.quote ∷ xs) f refusal.quote
  after_value : (v : Value) {f : Bool} → GoodValue v → InValues (value_text v) f (pick f refusal.quote refusal.no_colon)
  later : (v : Value) {b : List ℕ} {f : Bool} {e : ℕ} → GoodValue v → InValues b f e → InValues (value_text v ++ ascii.comma ∷ b) f e

-- A beginning that ends in a parameter, from after the first `;` on: 41 up to `=`.
pub data InParams : List ℕ → Bool → ℕ → Type 0 where
  in_name : (a : List ℕ) {f : Bool} → Each (Is named) a → InParams a f refusal.parameter
  in_values : (a : List ℕ) {b : List ℕ} {f : Bool} {e : ℕ} → Word a → InValues b f e → InParams (a ++ ascii.equals ∷ b) f e
  later : (p : Param) {b : List ℕ} {f : Bool} {e : ℕ} → GoodParam p → InParams b f e → InParams (param_text p ++ ascii.semicolon ∷ b) f e

-- A beginning of a line: 40 in an empty group or name, and where an octet follows a good one; 43 where the line ends after a good one.
pub data Reading : List ℕ → Bool → ℕ → Type 0 where
  no_name : (g : List ℕ) {f : Bool} → Each (Is named) g → Reading (group_text g) f refusal.name
  after_name : (g n : List ℕ) {f : Bool} → Each (Is named) g → Word n → Reading (group_text g ++ n) f (pick f refusal.name refusal.no_colon)
  in_params : (g n : List ℕ) {b : List ℕ} {f : Bool} {e : ℕ} → Each (Is named) g → Word n → InParams b f e → Reading ((group_text g ++ n) ++ ascii.semicolon ∷ b) f e

-- "The number is that of the first fault from the left"
pub record FirstFault (e : ℕ) (l : List ℕ) : Type 0 where
  pub upto : List ℕ
  pub rest : List ℕ
  pub leftmost : Leftmost l upto rest
  pub reading : Reading upto (goes_on rest) e
