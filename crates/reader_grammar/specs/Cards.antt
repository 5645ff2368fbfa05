-- What a card is, and any number of cards, as REFERENCE, The order of lines draws them. Assumes nothing.
use Rattle.std.specs.Prelude.{ℕ, zero, suc, ◌≤◌, ◌≡◌, Bool, true, false, not, ◌&&◌, ◌||◌, List, [], ◌∷◌, ◌++◌, eqb}
use Rattle.std.proofs.Math.Option.{some}
use Rattle.numbers.specs.Properties as property
use Rattle.utf8.specs.Characters.{allowed}
use Rattle.utf8.specs.Rfc3629.{Characters}
use Rattle.utf8_laws.specs.Texts.{Each as EachOctet}
use Rattle.line_parser.specs.Grammar.{Line, Each, WellFormed, render}
use Rattle.property_table.specs.declared.Edition.{Edition}
use Rattle.property_table.specs.Rows.{single, is_group}
use Rattle.card_state.specs.State.{same_tag}
use Rattle.card_line.specs.Parts.{row_of_line, kind_of_line, altid_of}
use Rattle.reader_grammar.specs.Values.{OfKind, Vcard, Four}

-- no octet 00-08, 0A-1F or 7F, and RFC 3629 UTF-8
pub record Clean (l : List ℕ) : Type 0 where
  pub characters : Characters l
  pub octets : EachOctet (allowed false) l

-- a logical line that may be read: clean, and by the line rule
pub record Readable (x : Line) : Type 0 where
  pub clean : Clean (render x)
  pub formed : WellFormed x

-- neither group nor parameter
pub record Bare (x : Line) : Type 0 where
  pub group : x.group ≡ []
  pub params : x.params ≡ []

-- a line that frames a card: of the row of that number, bare, and with a value of P
pub record Frame (e : Edition) (number : ℕ) (P : List ℕ → Type 0) (x : Line) : Type 0 where
  pub row : row_of_line e x ≡ number
  pub bare : Bare x
  pub value : P x.value

abbrev pub Begins : Edition → Line → Type 0
Begins e x = Frame e property.begin Vcard x

abbrev pub Versions : Edition → Line → Type 0
Versions e x = Frame e property.version Four x

abbrev pub Ends : Edition → Line → Type 0
Ends e x = Frame e property.end Vcard x

-- any other line: its value is of its kind
pub record Inside (e : Edition) (x : Line) : Type 0 where
  pub begin : row_of_line e x ≡ property.begin → ⊥
  pub version : row_of_line e x ≡ property.version → ⊥
  pub end : row_of_line e x ≡ property.end → ⊥
  pub value : OfKind e (kind_of_line e x) x.value

abbrev pub counts : Bool → ℕ → ℕ
counts true n = suc n
counts false n = n

-- how many lines pass the test
unfoldable pub count : (Line → Bool) → List Line → ℕ
count p [] = 0
count p (x ∷ xs) = counts (p x) (count p xs)

abbrev pub of_row : Edition → ℕ → Line → Bool
of_row e row x = eqb (row_of_line e x) row

-- how many lines are of the row
abbrev pub lines_of : Edition → ℕ → List Line → ℕ
lines_of e row xs = count (of_row e row) xs

-- a KIND line whose value is `group` in any case
abbrev pub says_group : Edition → Line → Bool
says_group e x = eqb (row_of_line e x) property.kind && is_group x.value

abbrev pub group_lines : Edition → List Line → ℕ
group_lines e xs = count (says_group e) xs

-- one of the lines passes the test
unfoldable pub any : (Line → Bool) → List Line → Bool
any p [] = false
any p (x ∷ xs) = p x || any p xs

-- RFC 6350, 5.4: two lines of one property with the same ALTID value are one instance; a line with no ALTID is of no instance but its own
pub data OneInstance (e : Edition) (x y : Line) : Type 0 where
  alike : {v : List ℕ} → row_of_line e x ≡ row_of_line e y → altid_of x ≡ some v → altid_of y ≡ some v → OneInstance e x y

-- the same as a test
unfoldable pub same_instance : Edition → Line → Line → Bool
same_instance e x y = eqb (row_of_line e y) (row_of_line e x) && same_tag (altid_of y) (altid_of x)

-- how many of the lines xs of the row start an instance; ys are the lines before them
unfoldable pub instances : Edition → ℕ → List Line → List Line → ℕ
instances e row ys [] = 0
instances e row ys (x ∷ xs) = counts (of_row e row x && not (any (same_instance e x) ys)) (instances e row (ys ++ (x ∷ [])) xs)

-- each property marked *1 at most once: all its lines are one instance
abbrev pub Once : Edition → List Line → Type 0
Once e xs = (row : ℕ) → single row ≡ true → instances e row [] xs ≤ 1

-- lines after VERSION, before END
pub record Inner (e : Edition) (xs : List Line) : Type 0 where
  pub each : Each (Inside e) xs
  pub once : Once e xs

-- all of them: FN (6) at least once, and MEMBER (24) only beside a KIND line with the value group
pub record Body (e : Edition) (xs : List Line) : Type 0 where
  pub inner : Inner e xs
  pub named : 1 ≤ lines_of e property.fn xs
  pub members : 1 ≤ lines_of e property.member xs → 1 ≤ group_lines e xs

-- "BEGIN, VERSION, other lines, END"
pub data CardLines (e : Edition) : List Line → Type 0 where
  card : {b v z : Line} {xs : List Line} → Begins e b → Versions e v → Body e xs → Ends e z → CardLines e (b ∷ v ∷ (xs ++ (z ∷ [])))

-- k cards "with nothing between cards"
pub data Cards (e : Edition) : ℕ → List Line → Type 0 where
  none : Cards e zero []
  more : {k : ℕ} {xs ys : List Line} → CardLines e xs → Cards e k ys → Cards e (suc k) (xs ++ ys)
