-- Which cards are taken in and given out, and as which lines. Assumes nothing.
use Rattle.std.specs.Prelude.{ℕ, ◌≤◌, ◌≡◌, List, [], ◌∷◌, ◌++◌, map, length}
use Rattle.numbers.specs.Limits as limit
use Rattle.numbers.specs.Properties as property
use Rattle.octets.specs.Room.{overlay}
use Rattle.line_parser.specs.Grammar.{Line, Each, render}
use Rattle.property_table.specs.declared.Edition.TheVariants.{First}
use Rattle.folder_line.specs.Pieces.{folded_lines}
use Rattle.reader_grammar.specs.Cards.{Readable, Begins, Ends, CardLines, lines_of}
use Rattle.reader_grammar.specs.Inputs.{Written}
use Rattle.version3_parameters.specs.declared.Way.{Way}
use Rattle.version3_parameters.specs.declared.Way.TheVariants.{Inward, Outward}
use Rattle.version3_laws.specs.Lines.{GoesOver, VersionRead, versioned}

-- R holds of each element and the one in its place
pub data Pairs {A : Type 0} (R : A → A → Type 0) : List A → List A → Type 0 where
  none : Pairs R [] []
  more : {x y : A} {xs ys : List A} → R x y → Pairs R xs ys → Pairs R (x ∷ xs) (y ∷ ys)

-- BEGIN, lines of which one is VERSION, one is N and one or more are FN, and END; "VERSION becomes the second line" with the other number
pub data CardBy (w : Way) : List Line → List Line → Type 0 where
  card : (b v z : Line) (us us' xs xs' : List Line) → Begins First b → VersionRead w v → Ends First z → Pairs (GoesOver w) us us' → Pairs (GoesOver w) xs xs'
      → lines_of First property.n (us ++ xs) ≡ 1 → 1 ≤ lines_of First property.fn (us ++ xs)
      → CardBy w (b ∷ (us ++ (v ∷ (xs ++ (z ∷ []))))) (b ∷ versioned w v ∷ ((us' ++ xs') ++ (z ∷ [])))

abbrev pub CardIn : List Line → List Line → Type 0
CardIn = CardBy Inward

abbrev pub CardOut : List Line → List Line → Type 0
CardOut = CardBy Outward

-- "the same back from an accepted card"
abbrev pub Source : Way → List Line → Type 0
Source Inward xs = Unit {0}
Source Outward xs = CardLines First xs

-- the input is one card, which goes over as the lines ys
pub record Converts (w : Way) (i : List ℕ) (ys : List Line) : Type 0 where
  pub short : length i ≤ limit.octets
  pub lines : List Line
  pub written : Written lines i
  pub readable : Each Readable lines
  pub source : Source w lines
  pub card : CardBy w lines ys

-- "Both write folded, as read"
unfoldable pub card_octets : List Line → List ℕ
card_octets ys = folded_lines (map render ys)

-- n octets are written to the start of the room, which then holds `after`
pub record WrittenBy (w : Way) (i room : List ℕ) (n : ℕ) (after : List ℕ) : Type 0 where
  pub lines : List Line
  pub card : Converts w i lines
  pub short : length (card_octets lines) ≤ limit.octets
  pub fits : length (card_octets lines) ≤ length room
  pub count : n ≡ length (card_octets lines)
  pub holds : after ≡ overlay (card_octets lines) room

abbrev pub Takes : List ℕ → List ℕ → ℕ → List ℕ → Type 0
Takes = WrittenBy Inward

abbrev pub Gives : List ℕ → List ℕ → ℕ → List ℕ → Type 0
Gives = WrittenBy Outward
