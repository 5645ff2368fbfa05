-- Which inputs are refused, with which number and place, by REFERENCE, Refusals and The order of refusals. Assumes nothing.
use Rattle.std.specs.Prelude.{ℕ, ◌+◌, ◌<◌, ◌≤◌, ◌≡◌, true, false, List, [], ◌∷◌, ◌++◌, map, ◌⊎◌, length}
use Rattle.numbers.specs.Limits as limit
use Rattle.numbers.specs.Refusals as refusal
use Rattle.numbers.specs.Properties as property
use Rattle.utf8.specs.Characters.{allowed}
use Rattle.utf8_laws.specs.Texts.{BadAt}
use Rattle.line_parser.specs.Grammar.{Line, Each, front, render}
use Rattle.property_table.specs.declared.Edition.{Edition}
use Rattle.property_table.specs.declared.Edition.TheVariants.{First}
use Rattle.property_table.specs.Rows.{single}
use Rattle.card_line.specs.Parts.{row_of_line, kind_of_line}
use Rattle.reader.specs.Outcome.{ended}
use Rattle.reader_laws.specs.Lone.{Lone}
use Rattle.value_laws.specs.Dead.{Dead}
use Rattle.reader_grammar.specs.Values.{Fitting}
use Rattle.line_laws.specs.Lined.{At, Lined, EndsCrLf}
use Rattle.line_laws.specs.FirstFault.{FirstFault}
use Rattle.reader_grammar.specs.Cards.{Clean, Readable, Bare, Begins, Versions, Inner, OneInstance, Cards, lines_of, group_lines}

-- no "CR without LF after it, or LF without CR before it"
abbrev pub Paired : List ℕ → Type 0
Paired i = (p : ℕ) → Lone i p → ⊥

-- none of 1 to 4 holds
pub record Framed (i : List ℕ) : Type 0 where
  pub short : length i ≤ limit.octets
  pub some : 0 < length i
  pub paired : Paired i
  pub ends : EndsCrLf i

-- the lines of a card that has not ended: none, BEGIN, or BEGIN, VERSION and others
pub data Begun (e : Edition) : List Line → Type 0 where
  nothing : Begun e []
  first : {b : Line} → Begins e b → Begun e (b ∷ [])
  within : {b v : Line} {ys : List Line} → Begins e b → Versions e v → Inner e ys → Begun e (b ∷ v ∷ ys)

-- the lines ls are k cards zs and then the lines ys of a card that has not ended
pub record SoFar (e : Edition) (ls : List (List ℕ)) (k : ℕ) (zs ys : List Line) : Type 0 where
  pub written : ls ≡ map render (zs ++ ys)
  pub readable : Each Readable (zs ++ ys)
  pub cards : Cards e k zs
  pub begun : Begun e ys

-- the line l is read as x
pub record Reads (l : List ℕ) (x : Line) : Type 0 where
  pub text : l ≡ render x
  pub readable : Readable x

-- "Another line as a card's first or second, or BEGIN or VERSION elsewhere, is 9"; ys are the card's lines before x
unfoldable pub InPlace : Edition → List Line → Line → Type 0
InPlace e [] x = row_of_line e x ≡ property.begin
InPlace e (b ∷ []) x = row_of_line e x ≡ property.version
InPlace e (b ∷ v ∷ ys) x = (row_of_line e x ≡ property.begin → ⊥) × (row_of_line e x ≡ property.version → ⊥)

-- BEGIN, VERSION or END
abbrev pub Framing : ℕ → Type 0
Framing row = (row ≡ property.begin) ⊎ ((row ≡ property.version) ⊎ (row ≡ property.end))

-- no "group or parameter on BEGIN, VERSION or END"
abbrev pub Unladen : Edition → Line → Type 0
Unladen e x = Framing (row_of_line e x) → Bare x

-- none of 5, 40 to 43, 9, 8, 7 holds of the line l after the card's lines ys
pub record Sound (e : Edition) (ys : List Line) (l : List ℕ) (x : Line) : Type 0 where
  pub reads : Reads l x
  pub place : InPlace e ys x
  pub unladen : Unladen e x
  pub fits : Fitting e (row_of_line e x) (kind_of_line e x) x.value

-- where a line's refusal has its place: at the line's start, or at an octet of the unfolded line
pub data Where : Type 0 where
  at_start : Where
  at_octet : ℕ → Where

-- the refusals of a line l after the card's lines ys, each where none before it holds: 5, 40 to 43, 9, 8, 7, 10 and, at END, 11, 12;
-- 5 names the first octet that is no allowed character's, 7 the first octet from which no continuation of the value fits, or the line's end
pub data LineRefused (e : Edition) (ys : List Line) (l : List ℕ) : ℕ → Where → Type 0 where
  octet : {o : ℕ} → BadAt (allowed false) l o → LineRefused e ys l refusal.bad_octet (at_octet o)
  rule : {n : ℕ} → Clean l → FirstFault n l → LineRefused e ys l n at_start
  order : (x : Line) → Reads l x → (InPlace e ys x → ⊥) → LineRefused e ys l refusal.order at_start
  laden : (x : Line) → Reads l x → InPlace e ys x → (Unladen e x → ⊥) → LineRefused e ys l refusal.laden at_start
  value : {o : ℕ} (x : Line) → Reads l x → InPlace e ys x → Unladen e x → Dead (Fitting e (row_of_line e x) (kind_of_line e x)) x.value o
      → LineRefused e ys l refusal.value (at_octet (length (front x) + o))
  second : (x : Line) → Sound e ys l x → single (row_of_line e x) ≡ true → 1 ≤ lines_of e (row_of_line e x) ys → Each (λ y. OneInstance e y x → ⊥) ys → LineRefused e ys l refusal.second at_start
  nameless : (x : Line) → Sound e ys l x → row_of_line e x ≡ property.end → lines_of e property.fn ys ≡ 0 → LineRefused e ys l refusal.no_fn at_start
  no_group : (x : Line) → Sound e ys l x → row_of_line e x ≡ property.end → 1 ≤ lines_of e property.fn ys → 1 ≤ lines_of e property.member ys → group_lines e ys ≡ 0 → LineRefused e ys l refusal.member at_start

-- that place counted from the start of the raw line r, which is l with folds in it
abbrev pub Placed : List ℕ → List ℕ → Where → ℕ → Type 0
Placed l r at_start q = q ≡ 0
Placed l r (at_octet o) q = At l r o q

-- 1, 2, 3, 4 over the whole input; then the first line that is refused, its raw line r, its logical line l, at its place; then 9 where the input
-- ends inside a card
pub data RefusedIn (e : Edition) (i : List ℕ) : ℕ → ℕ → Type 0 where
  long : limit.octets < length i → RefusedIn e i refusal.too_long limit.octets
  empty : length i ≡ 0 → RefusedIn e i refusal.empty 0
  lone : {p : ℕ} → length i ≤ limit.octets → 0 < length i → Lone i p → ((q : ℕ) → q < p → Lone i q → ⊥) → RefusedIn e i refusal.lone_cr_or_lf p
  unended : length i ≤ limit.octets → 0 < length i → Paired i → (EndsCrLf i → ⊥) → RefusedIn e i refusal.no_end (length i)
  line : (ds es ls ms : List (List ℕ)) (r l : List ℕ) (n k q : ℕ) (w : Where) (zs ys : List Line) → Framed i → Lined i (ds ++ (r ∷ es)) (ls ++ (l ∷ ms)) → length ls ≡ length ds
      → SoFar e ls k zs ys → LineRefused e ys l n w → Placed l r w q → RefusedIn e i n (length (ended ds) + q)
  unfinished : (rs ls : List (List ℕ)) (k : ℕ) (zs ys : List Line) → Framed i → Lined i rs ls → SoFar e ls k zs ys → 0 < length ys → RefusedIn e i refusal.order (length i)

-- where no edition is named, it is the first
abbrev pub RefusedBy : List ℕ → ℕ → ℕ → Type 0
RefusedBy = RefusedIn First

-- the numbers of these refusals: 1 to 5, 7 to 12, and 40 to 43; 6 is none of them
abbrev pub Judging : ℕ → Type 0
Judging n =
    ((refusal.too_long ≤ n) × (n ≤ refusal.bad_octet))
    ⊎ (((refusal.value ≤ n) × (n ≤ refusal.member)) ⊎ ((refusal.name ≤ n) × (n ≤ refusal.no_colon)))
