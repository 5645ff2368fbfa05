-- The exact octet: what 5 and 7 name, through folds, in the input as given. Assumes nothing.
use Rattle.std.specs.Prelude.{ℕ, ◌+◌, ◌<◌, ◌≤◌, ◌≡◌, List, [], ◌∷◌, ◌++◌, length, take, get_or}
use Rattle.numbers.specs.Kinds as kind
use Rattle.utf8.specs.Rfc3629.{Characters}
use Rattle.line_folds.specs.Folds.{unfolded}
use Rattle.line_folds.specs.Places.{place_of}
use Rattle.line_parser.specs.Grammar.{Each}
use Rattle.line_laws.specs.Lined.{Folded, At, Unbroken, Lined}
use Rattle.property_table.specs.declared.Edition.{Edition}
use Rattle.value_laws.specs.Dead.{Dead}
use Rattle.reader.specs.Outcome.{ended}
use Rattle.reader_grammar.specs.Values.{Fitting}
use Rattle.demands.specs.Examples.{Holds, named}

pub record Demand5 : Type 0 where
  -- a value breaks off at one octet at most
  pub dead_once : (e : Edition) (row k : ℕ) (v : List ℕ) (m n : ℕ) → Dead (Fitting e row k) v m → Dead (Fitting e row k) v n → m ≡ n
  -- where a value of whole characters breaks off, a character starts or the value ends
  pub whole : (e : Edition) (row k : ℕ) → k < kind.count → (v : List ℕ) (o : ℕ) → Characters v → Dead (Fitting e row k) v o → Characters (take o v)
  -- the place that is counted is the one of the plain words, and no other
  pub placed : {l r : List ℕ} → Folded l r → Unbroken l → (o : ℕ) → o ≤ length l → At l r o (place_of r o)
  pub nowhere_else : {l r : List ℕ} {o p : ℕ} → At l r o p → Unbroken l → p ≡ place_of r o
  -- a later octet stands later, and the line's end after all of them
  pub rising : (r : List ℕ) (m n : ℕ) → m < n → n ≤ length (unfolded r) → place_of r m < place_of r n
  -- the end of the line is the end of its raw line
  pub end : {l r : List ℕ} {o p : ℕ} → At l r o p → length l ≤ o → p ≡ length r
  -- in the input stands there that octet of the line, or the CR that ends it
  pub there : {i : List ℕ} (ds es ls ms : List (List ℕ)) (r l : List ℕ) (o q : ℕ) → Lined i (ds ++ (r ∷ es)) (ls ++ (l ∷ ms)) → length ls ≡ length ds
      → At l r o q → get_or i (length (ended ds) + q) 0 ≡ get_or (l ++ (13 ∷ [])) o 0
  -- an octet of each kind, and folds before, at and after it
  pub examples : Each Holds named
