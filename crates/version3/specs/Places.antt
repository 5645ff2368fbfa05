-- The places of a card's lines, BEGIN first, VERSION second and then the others, each in a room of its own, and what is written there.
-- Assumes nothing.
use Rattle.std.specs.Prelude.{ℕ, ◌+◌, ◌<◌, ◌≤◌, ◌≡◌, List, [], ◌++◌, Option, Some, None, Result, eqb, length, take, drop}
use Rattle.numbers.specs.Limits as limit
use Rattle.octets.specs.Pick.{pick}
use Rattle.numbers.specs.declared.refusal.Refusal.{Refusal}
use Rattle.octets.specs.Room.{filled, fill_bounded, written}
use Rattle.line_folds.specs.Logical.{logical_lines}
use Rattle.folder_line.specs.Pieces.{folded_lines}
use Rattle.version3_parameters.specs.declared.Way.{Way}
use Rattle.version3.specs.declared.sheet.Ends.{Ends}
use Rattle.version3.specs.declared.sheet.Reached.{Reached}
use Rattle.version3.specs.declared.sheet.Reached.TheVariants.{End, Long}
use Rattle.version3.specs.Card.{forms, card_text}

-- the lines that stand in a place, folded
abbrev pub placed : Way → ℕ → List (List ℕ) → List ℕ
placed w n ls = folded_lines (forms w n ls)

-- what a place gets of a line that stands in place turn
unfoldable pub share : ℕ → ℕ → List ℕ → List ℕ
share n turn x = pick (eqb turn n) x []

-- rooms that are no larger than a card
abbrev pub Lent : List ℕ → List ℕ → List ℕ → Type 0
Lent first second others = (length first ≤ limit.octets) × (length second ≤ limit.octets) × (length others ≤ limit.octets)

-- so many octets of each room, which is no larger than a card
pub record Within (e : Ends) (first second others : List ℕ) : Type 0 where
  pub first_in : e.first ≤ length first
  pub second_in : e.second ≤ length second
  pub others_in : e.others ≤ length others
  pub first_most : length first ≤ limit.octets
  pub second_most : length second ≤ limit.octets
  pub others_most : length others ≤ limit.octets

-- these octets, one room after the other
abbrev pub joined_by : Ends → List ℕ → List ℕ → List ℕ → List ℕ
joined_by e first second others = (take e.first first ++ take e.second second) ++ take e.others others

-- x was written to a room behind its first w octets, and ends at n
pub record Grown (x before after : List ℕ) (w n : ℕ) : Type 0 where
  pub upto : n ≡ w + length x
  pub inside : n ≤ length after
  pub text : take n after ≡ take w before ++ x

abbrev pub AddedBy : List ℕ → ℕ → List ℕ → List ℕ → Option ℕ → Type 0
AddedBy x w before after (Some n) = Grown x before after w n
AddedBy x w before after None = length before < w + length x

-- each place has its share of the line x, or some room is too small for it
pub record Shared (turn : ℕ) (x : List ℕ) (e n : Ends) (a b c a' b' c' : List ℕ) : Type 0 where
  pub first_share : Grown (share 0 turn x) a a' e.first n.first
  pub second_share : Grown (share 1 turn x) b b' e.second n.second
  pub others_share : Grown (share 2 turn x) c c' e.others n.others

pub data Overfull (turn : ℕ) (x : List ℕ) (e : Ends) (a b c : List ℕ) : Type 0 where
  first_over : length a < e.first + length (share 0 turn x) → Overfull turn x e a b c
  second_over : length b < e.second + length (share 1 turn x) → Overfull turn x e a b c
  others_over : length c < e.others + length (share 2 turn x) → Overfull turn x e a b c

abbrev pub PlacedBy : ℕ → List ℕ → Ends → List ℕ → List ℕ → List ℕ → List ℕ → List ℕ → List ℕ → Option Ends → Type 0
PlacedBy turn x e a b c a' b' c' (Some n) = Shared turn x e n a b c a' b' c'
PlacedBy turn x e a b c a' b' c' None = Overfull turn x e a b c

-- all lines of the input stand in the rooms of their places
pub record Sorted (w : Way) (i : List ℕ) (e : Ends) (a b c : List ℕ) : Type 0 where
  pub within : Within e a b c
  pub first_lines : take e.first a ≡ placed w 0 (logical_lines i)
  pub second_lines : take e.second b ≡ placed w 1 (logical_lines i)
  pub others_lines : take e.others c ≡ placed w 2 (logical_lines i)

-- the lines before a place of the input stand there
pub record Halfway (w : Way) (i : List ℕ) (a b c : List ℕ) (at : ℕ) (e : Ends) : Type 0 where
  pub first_in : e.first ≤ length a
  pub second_in : e.second ≤ length b
  pub others_in : e.others ≤ length c
  pub first_done : placed w 0 (logical_lines i) ≡ take e.first a ++ placed w 0 (logical_lines (drop at i))
  pub second_done : placed w 1 (logical_lines i) ≡ take e.second b ++ placed w 1 (logical_lines (drop at i))
  pub others_done : placed w 2 (logical_lines i) ≡ take e.others c ++ placed w 2 (logical_lines (drop at i))

-- the card is longer than some room
pub data Narrow (w : Way) (i : List ℕ) (a b c : ℕ) : Type 0 where
  first_narrow : a < length (card_text w i) → Narrow w i a b c
  second_narrow : b < length (card_text w i) → Narrow w i a b c
  others_narrow : c < length (card_text w i) → Narrow w i a b c

abbrev pub SheetBy : Way → List ℕ → List ℕ → List ℕ → List ℕ → Option Ends → Type 0
SheetBy w i a b c (Some e) = Sorted w i e a b c
SheetBy w i a b c None = Narrow w i (length a) (length b) (length c)

-- all lines stand there, or those before a line of n octets, more than so many, do
abbrev pub WentBy : Way → List ℕ → ℕ → List ℕ → List ℕ → List ℕ → Reached → Type 0
WentBy w i most a b c (End e) = Sorted w i e a b c
WentBy w i most a b c (Long at n e) = (most < n) × (n ≤ length i) × Halfway w i a b c at e

abbrev pub ReachedBy : Way → List ℕ → ℕ → List ℕ → List ℕ → List ℕ → Option Reached → Type 0
ReachedBy w i most a b c (Some r) = WentBy w i most a b c r
ReachedBy w i most a b c None = Narrow w i (length a) (length b) (length c)

-- the card was written, or nothing, since some room is too small
abbrev pub TriedBy : Way → List ℕ → ℕ → ℕ → ℕ → List ℕ → List ℕ → Option (Result ℕ Refusal) → Type 0
TriedBy w i a b c before after (Some r) = filled (written r) after ≡ fill_bounded (card_text w i) before
TriedBy w i a b c before after None = (after ≡ before) × Narrow w i a b c

abbrev pub Attempt : Way → List ℕ → List ℕ → List ℕ → Option (Result ℕ Refusal) → Type 0
Attempt w i before after (Some r) = filled (written r) after ≡ fill_bounded (card_text w i) before
Attempt w i before after None = after ≡ before
