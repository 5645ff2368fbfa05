-- CLIENTPIDMAP lines: the URI that a source number leads to, the row that is a card's own, and what is over a limit. Assumes nothing.
use Rattle.std.specs.Prelude.{ℕ, ◌+◌, ◌-◌, ◌<◌, ◌≡◌, List, [], ◌∷◌, ◌++◌, length}
use Rattle.numbers.specs.Limits as limit
use Rattle.numbers.specs.Properties as property
use Rattle.octets.specs.Ascii as ascii
use Rattle.line_parser.specs.Grammar.{Line, render}
use Rattle.property_table.specs.declared.Edition.TheVariants.{First}
use Rattle.card_line.specs.Parts.{row_of_line}
use Rattle.reader_grammar.specs.Cards.{lines_of}
use Rattle.merge_sources.specs.declared.Source.{Source}
use Rattle.merge_words.specs.Lists.{Member}
use Rattle.merge_words.specs.Pids.{Number, PidOf}

-- a CLIENTPIDMAP line: its number and its URI
pub record Maps (x : Line) (n : ℕ) (uri : List ℕ) : Type 0 where
  pub row : row_of_line First x ≡ property.clientpidmap
  pub digits : List ℕ
  pub value : x.value ≡ digits ++ ascii.semicolon ∷ uri
  pub number : Number digits n

-- the URI of the first entry of a source number
pub data Leads : List Line → ℕ → List ℕ → Type 0 where
  found : {x : Line} {xs : List Line} {n : ℕ} {uri : List ℕ} → Maps x n uri → Leads (x ∷ xs) n uri
  further : {x : Line} {xs : List Line} {n : ℕ} {uri : List ℕ} → ((u : List ℕ) → Maps x n u → ⊥) → Leads xs n uri → Leads (x ∷ xs) n uri

-- a row is exactly the CLIENTPIDMAP lines in order, with number, place of the URI and its length; the lines stand from w on in the copy, each with CR LF
pub data RowOf : ℕ → List Line → List Source → Type 0 where
  none : {w : ℕ} → RowOf w [] []
  passed : {w : ℕ} {x : Line} {xs : List Line} {m : List Source} → (row_of_line First x ≡ property.clientpidmap → ⊥)
      → RowOf (w + length (render x) + 2) xs m → RowOf w (x ∷ xs) m
  entry : {w : ℕ} {x : Line} {xs : List Line} {m : List Source} {e : Source} {uri : List ℕ} → Maps x e.number uri
      → e.place ≡ w + length (render x) - length uri → e.length ≡ length uri → RowOf (w + length (render x) + 2) xs m → RowOf w (x ∷ xs) (e ∷ m)

-- 71, of an input of k cards with these lines and a row of it: several cards, over 16 entries or CLIENTPIDMAP lines, a number over 65,535
pub data Over (k : ℕ) (xs : List Line) (m : List Source) : Type 0 where
  several : (k ≡ 1 → ⊥) → Over k xs m
  entries : limit.sources < length m → Over k xs m
  maps : limit.sources < lines_of First property.clientpidmap xs → Over k xs m
  number : {x : Line} {n : ℕ} {uri : List ℕ} → Member x xs → Maps x n uri → limit.source_number < n → Over k xs m
  first : {x : Line} {p s : ℕ} → Member x xs → PidOf x p s → limit.source_number < p → Over k xs m
  source : {x : Line} {p s : ℕ} → Member x xs → PidOf x p s → limit.source_number < s → Over k xs m
