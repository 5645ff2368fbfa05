-- Which pairs of lines are demanded of two cards, and which plans pass: a field for each clause. Assumes nothing.
use Rattle.std.specs.Prelude.{ℕ, ◌<◌, ◌≡◌, true, List, ◌∷◌, length}
use Rattle.numbers.specs.Properties as property
use Rattle.octets.specs.Cases.{same}
use Rattle.line_parser.specs.Grammar.{Line}
use Rattle.property_table.specs.declared.Edition.TheVariants.{First}
use Rattle.property_table.specs.Rows.{single}
use Rattle.card_line.specs.Parts.{row_of_line}
use Rattle.reader_grammar.specs.Cards.{lines_of}
use Rattle.merge_partners.specs.Pairs.{Pair, pair}
use Rattle.merge.specs.Plans.{flatten}
use Rattle.merge_words.specs.Lists.{Member, At}
use Rattle.merge_words.specs.Pids.{PidOf}
use Rattle.merge_words.specs.Sources.{Leads}

-- the same number; for number 0 the same name without case
pub data SameProperty (x y : Line) : Type 0 where
  listed : row_of_line First x ≡ row_of_line First y → (row_of_line First x ≡ property.other → ⊥) → SameProperty x y
  unlisted : row_of_line First x ≡ property.other → row_of_line First y ≡ property.other → same x.name y.name ≡ true → SameProperty x y

-- a line of each card that share a global value: a PID each with one first number, whose source numbers lead to one URI
pub record Shares (xs ys : List Line) (x y : Line) : Type 0 where
  pub first : ℕ
  pub source : ℕ
  pub other : ℕ
  pub of_x : PidOf x first source
  pub of_y : PidOf y first other
  pub uri : List ℕ
  pub there : Leads xs source uri
  pub too : Leads ys other uri

-- "every two lines, one of each card, sharing a global value" of one property, and "a *1 property with exactly one line on each side"
pub data Demanded (xs ys : List Line) (i j : ℕ) : Type 0 where
  shared : {x y : Line} → At xs i x → At ys j y → SameProperty x y → Shares xs ys x y → Demanded xs ys i j
  alone : {x y : Line} → At xs i x → At ys j y → single (row_of_line First x) ≡ true → row_of_line First x ≡ row_of_line First y
      → lines_of First (row_of_line First x) xs ≡ 1 → lines_of First (row_of_line First y) ys ≡ 1 → Demanded xs ys i j

-- u is the value of the first UID line
pub data FirstUid : List Line → List ℕ → Type 0 where
  uid : {x : Line} {xs : List Line} → row_of_line First x ≡ property.uid → FirstUid (x ∷ xs) x.value
  past : {x : Line} {xs : List Line} {u : List ℕ} → (row_of_line First x ≡ property.uid → ⊥) → FirstUid xs u → FirstUid (x ∷ xs) u

-- "accepts exactly a plan in which"
pub record Passes (xs ys : List Line) (plan : List ℕ) : Type 0 where
  -- "the cards' first UID values exist and are octet-equal"
  pub value : List ℕ
  pub uid_first : FirstUid xs value
  pub uid_second : FirstUid ys value
  -- two numbers a pair, the first card's line first, so an odd count never passes
  pub pairs : List Pair
  pub flat : plan ≡ flatten pairs
  pub lines : (q : Pair) → Member q pairs → (q.left < length xs) × (q.right < length ys)
  -- "each line stands at most once"
  pub once : (m n : ℕ) (q r : Pair) → At pairs m q → At pairs n r → (m ≡ n → ⊥) → (q.left ≡ r.left → ⊥) × (q.right ≡ r.right → ⊥)
  -- "paired lines have one property"
  pub property : (q : Pair) (x y : Line) → Member q pairs → At xs q.left x → At ys q.right y → SameProperty x y
  -- each demanded pair is there
  pub demanded : (i j : ℕ) → Demanded xs ys i j → Member (pair i j) pairs
