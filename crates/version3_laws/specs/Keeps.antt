-- What a card keeps that is taken in and given out again. Assumes nothing.
use Rattle.std.specs.Prelude.{ℕ, ◌≡◌, List, [], ◌∷◌, ◌++◌}
use Rattle.numbers.specs.Properties as property
use Rattle.line_parser.specs.Grammar.{Line}
use Rattle.property_table.specs.declared.Edition.TheVariants.{First}
use Rattle.card_line.specs.Parts.{row_of_line, kind_of_line}
use Rattle.version3_laws.specs.Says.{Says, padded}
use Rattle.version3_laws.specs.Cards.{Pairs}

-- "keeps its property values after unescaping, filled components aside": GEO stays octet for octet, and any other value says the same
pub data SameValue : ℕ → ℕ → List ℕ → List ℕ → Type 0 where
  place : {k : ℕ} {v : List ℕ} → SameValue property.geo k v v
  said : {row k : ℕ} {v w : List ℕ} {cs : List (List (List ℕ))} → (row ≡ property.geo → ⊥) → Says k v cs → Says k w (padded k cs) → SameValue row k v w

pub record KeepsLine (x z : Line) : Type 0 where
  pub group : z.group ≡ x.group
  pub name : z.name ≡ x.name
  pub value : SameValue (row_of_line First x) (kind_of_line First x) x.value z.value

-- the same lines in order, but that VERSION is the second
pub data Keeps : List Line → List Line → Type 0 where
  card : (b v z : Line) (us us' xs xs' : List Line) → row_of_line First v ≡ property.version → Pairs KeepsLine us us' → Pairs KeepsLine xs xs'
      → Keeps (b ∷ (us ++ (v ∷ (xs ++ (z ∷ []))))) (b ∷ v ∷ ((us' ++ xs') ++ (z ∷ [])))
