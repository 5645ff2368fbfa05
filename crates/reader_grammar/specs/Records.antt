-- What the records say, by REFERENCE, Property records: the numbers of a line, and what stands in the copy at them. Assumes nothing.
use Rattle.std.specs.Prelude.{ℕ, ◌+◌, ◌-◌, ◌≡◌, List, [], ◌∷◌, ◌++◌, length, take, drop}
use Rattle.line_parser.specs.Grammar.{Line, front, render}
use Rattle.line_parser.specs.Places.{name_start}
use Rattle.property_table.specs.declared.Edition.{Edition}
use Rattle.card_line.specs.Parts.{row_of_line, kind_of_line}

-- n octets of the copy from a on
abbrev pub part : List ℕ → ℕ → ℕ → List ℕ
part copy a n = take n (drop a copy)

-- the record r of the line x, which starts at w in the copy: "property number, line start in the copy, line length without CR LF, group length,
-- name length, parameter count, value start in the copy, kind"; and the line, its end, its group, name and value stand there
pub record Tells (e : Edition) (copy : List ℕ) (w : ℕ) (x : Line) (r : List ℕ) : Type 0 where
  pub numbers : r
      ≡ row_of_line e x ∷ w ∷ length (render x) ∷ length x.group ∷ length x.name ∷ length x.params ∷ (w + length (front x)) ∷ kind_of_line e x ∷ []
  pub line : part copy w (length (render x)) ≡ render x
  pub end : part copy (w + length (render x)) 2 ≡ 13 ∷ 10 ∷ []
  pub group : part copy w (length x.group) ≡ x.group
  pub name : part copy (w + name_start (length x.group)) (length x.name) ≡ x.name
  pub value : part copy (w + length (front x)) (length (render x) - length (front x)) ≡ x.value

-- "one record a logical line in order", the first at w in the copy
pub data Records (e : Edition) (copy : List ℕ) : ℕ → List Line → List ℕ → Type 0 where
  none : {w : ℕ} → Records e copy w [] []
  more : {w : ℕ} {x : Line} {xs : List Line} {r rs : List ℕ} → Tells e copy w x r → Records e copy (w + length (render x) + 2) xs rs
      → Records e copy w (x ∷ xs) (r ++ rs)
