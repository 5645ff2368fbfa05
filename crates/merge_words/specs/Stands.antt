-- What a copy and its records hold of a card's lines, one after the other. Assumes nothing.
use Rattle.std.specs.Prelude.{ℕ, suc, ◌+◌, ◌≤◌, ◌≡◌, List, [], ◌∷◌, length, take, drop}
use Rattle.numbers.specs.Fields as field
use Rattle.line_parser.specs.Grammar.{Line, WellFormed, front, render, name_end}
use Rattle.property_table.specs.declared.Edition.TheVariants.{First}
use Rattle.card_line.specs.Parts.{row_of_line}
use Rattle.merge_sides.specs.Lines.{field_at, name_at, value_at}
use Rattle.merge_sides.specs.Marks.{behind_name}

-- the line i is x, and starts at w in the copy
pub record Stands (c rs : List ℕ) (i w : ℕ) (x : Line) : Type 0 where
  pub formed : WellFormed x
  pub octets : take (length (render x)) (drop w c) ≡ render x
  pub inside : w + length (render x) ≤ length c
  pub property : field_at rs i field.property ≡ row_of_line First x
  pub parameters : field_at rs i field.parameters ≡ length x.params
  pub place : field_at rs i field.value ≡ w + length (front x)
  pub name : name_at c rs i ≡ x.name
  pub value : value_at c rs i ≡ x.value
  pub behind : behind_name c rs i ≡ drop (name_end x) (render x)

-- lines, the first of which has the number i and starts at w
pub data AllStand (c rs : List ℕ) : ℕ → ℕ → List Line → Type 0 where
  none : {i w : ℕ} → AllStand c rs i w []
  more : {i w : ℕ} {x : Line} {xs : List Line} → Stands c rs i w x → AllStand c rs (suc i) (w + length (render x) + 2) xs → AllStand c rs i w (x ∷ xs)
