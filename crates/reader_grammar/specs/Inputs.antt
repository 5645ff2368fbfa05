-- Which inputs are accepted, and with which counts, by REFERENCE, Input and logical lines. Assumes nothing.
use Rattle.std.specs.Prelude.{ℕ, ◌≤◌, ◌≡◌, List, [], ◌∷◌, ◌++◌, length}
use Rattle.numbers.specs.Limits as limit
use Rattle.property_table.specs.declared.Edition.{Edition}
use Rattle.property_table.specs.declared.Edition.TheVariants.{First}
use Rattle.line_laws.specs.Lined.{Folded}
use Rattle.line_parser.specs.Grammar.{Line, Each, render}
use Rattle.reader_grammar.specs.Cards.{Readable, Cards}

-- i is the lines in order, each with any number of folds in it and ended by CR LF
pub data Written : List Line → List ℕ → Type 0 where
  none : Written [] []
  more : {x : Line} {xs : List Line} {r i : List ℕ} → Folded (render x) r → Written xs i → Written (x ∷ xs) (r ++ (13 ∷ 10 ∷ i))

-- at most 16,384 octets, which are n lines that may be read, and these are k cards, one or more
pub record InputIn (e : Edition) (i : List ℕ) (k n : ℕ) : Type 0 where
  pub short : length i ≤ limit.octets
  pub lines : List Line
  pub written : Written lines i
  pub readable : Each Readable lines
  pub cards : Cards e k lines
  pub some : 1 ≤ k
  pub count : n ≡ length lines

-- where no edition is named, it is the first
abbrev pub InputOf : List ℕ → ℕ → ℕ → Type 0
InputOf = InputIn First
