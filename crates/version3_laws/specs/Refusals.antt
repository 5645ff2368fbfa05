-- Which inputs are not taken in or not given out, with which number and place, each by its reason. Assumes nothing.
use Rattle.std.specs.Prelude.{ℕ, ◌+◌, ◌<◌, ◌≤◌, ◌≡◌, false, List, [], ◌∷◌, ◌++◌, map, ◌⊎◌, length}
use Rattle.numbers.specs.Limits as limit
use Rattle.numbers.specs.Refusals as refusal
use Rattle.numbers.specs.Properties as property
use Rattle.octets.specs.Ascii.{octets}
use Rattle.utf8.specs.Characters.{allowed}
use Rattle.utf8_laws.specs.Texts.{BadAt}
use Rattle.line_parser.specs.Grammar.{Param, Line, Each, render}
use Rattle.line_laws.specs.Lined.{Lined, EndsCrLf}
use Rattle.line_laws.specs.FirstFault.{FirstFault}
use Rattle.property_table.specs.declared.Edition.TheVariants.{First}
use Rattle.card_line.specs.Parts.{row_of_line, kind_of_line}
use Rattle.reader.specs.Outcome.{ended}
use Rattle.reader_laws.specs.Lone.{Lone}
use Rattle.reader_grammar.specs.Values.{OfKind, Vcard}
use Rattle.reader_grammar.specs.Cards.{Clean, Readable, Begins, lines_of}
use Rattle.reader_grammar.specs.Inputs.{InputOf}
use Rattle.reader_grammar.specs.Refusals.{Paired, Framed, Reads, Framing, Unladen, Where, at_start, at_octet, Placed, RefusedBy}
use Rattle.version3_parameters.specs.declared.Way.{Way}
use Rattle.version3_parameters.specs.declared.Way.TheVariants.{Inward, Outward}
use Rattle.version3_laws.specs.Floats.{OldGeo, NewGeo}
use Rattle.version3_laws.specs.Params.{Nowhere, ParamsOut}
use Rattle.version3_laws.specs.Lines.{Eleven, ValueIn, Three, GoesOver, VersionRead}
use Rattle.version3_laws.specs.Cards.{CardBy, Converts, card_octets}

-- what stands before a line: nothing, BEGIN and the lines ys, or a whole card
pub data Before : Type 0 where
  nothing : Before
  begun : List Line → Before
  whole : Before

-- lines behind BEGIN that go over, VERSION once at most, and N once at most
pub record Within (w : Way) (ys : List Line) : Type 0 where
  pub each : Each (λ y. VersionRead w y ⊎ ((z : Line) × GoesOver w y z)) ys
  pub versions : lines_of First property.version ys ≤ 1
  pub names : lines_of First property.n ys ≤ 1

-- the logical lines ls stand before a line
pub data SoFar (w : Way) : List (List ℕ) → Before → Type 0 where
  no_line : SoFar w [] nothing
  in_card : {b : Line} {ys : List Line} → Begins First b → Each Readable (b ∷ ys) → Within w ys → SoFar w (map render (b ∷ ys)) (begun ys)
  after_card : {xs ys : List Line} → Each Readable xs → CardBy w xs ys → SoFar w (map render xs) whole

-- BEGIN first, no other BEGIN inside, and nothing but BEGIN after END; the lines inside stand in any order
abbrev pub InPlace : Before → Line → Type 0
InPlace nothing x = row_of_line First x ≡ property.begin
InPlace (begun ys) x = row_of_line First x ≡ property.begin → ⊥
InPlace whole x = row_of_line First x ≡ property.begin

-- the reasons of 50: "Any other line, a PREF, a second card, N or VERSION, a GEO of another form, or a value that then breaks its 4.0 kind is 50
-- with its line's start; a missing FN, N or VERSION is 50 at END"
pub data NotTaken : Before → Line → Type 0 where
  second_card : {x : Line} → NotTaken whole x
  begin : {x : Line} → (Vcard x.value → ⊥) → NotTaken nothing x
  end : {ys : List Line} {x : Line} → row_of_line First x ≡ property.end → (Vcard x.value → ⊥) → NotTaken (begun ys) x
  version : {ys : List Line} {x : Line} → row_of_line First x ≡ property.version → (Three x.value → ⊥) → NotTaken (begun ys) x
  second_version : {ys : List Line} {x : Line} → row_of_line First x ≡ property.version → 1 ≤ lines_of First property.version ys → NotTaken (begun ys) x
  second_name : {ys : List Line} {x : Line} → row_of_line First x ≡ property.n → 1 ≤ lines_of First property.n ys → NotTaken (begun ys) x
  other : {ys : List Line} {x : Line} → (Framing (row_of_line First x) → ⊥) → (Eleven (row_of_line First x) → ⊥) → NotTaken (begun ys) x
  pref : {ys : List Line} {x : Line} → Eleven (row_of_line First x) → (Nowhere (octets "PREF") x.params → ⊥) → NotTaken (begun ys) x
  geo : {ys : List Line} {x : Line} → row_of_line First x ≡ property.geo → ((a b : List ℕ) → OldGeo a b x.value → ⊥) → NotTaken (begun ys) x
  value : {ys : List Line} {x : Line} → Eleven (row_of_line First x)
      → ((v : List ℕ) → ValueIn (row_of_line First x) (kind_of_line First x) x.value v → OfKind First (kind_of_line First x) v → ⊥) → NotTaken (begun ys) x
  no_fn : {ys : List Line} {x : Line} → row_of_line First x ≡ property.end → lines_of First property.fn ys ≡ 0 → NotTaken (begun ys) x
  no_n : {ys : List Line} {x : Line} → row_of_line First x ≡ property.end → lines_of First property.n ys ≡ 0 → NotTaken (begun ys) x
  no_version : {ys : List Line} {x : Line} → row_of_line First x ≡ property.end → lines_of First property.version ys ≡ 0 → NotTaken (begun ys) x

-- the reasons of 51: "any other line or PREF, a second card or N, or GEO of another form is 51 with its line's start, no N 51 at END"
pub data NotGiven : Before → Line → Type 0 where
  second_card : {x : Line} → NotGiven whole x
  second_name : {ys : List Line} {x : Line} → row_of_line First x ≡ property.n → 1 ≤ lines_of First property.n ys → NotGiven (begun ys) x
  other : {ys : List Line} {x : Line} → (Framing (row_of_line First x) → ⊥) → (Eleven (row_of_line First x) → ⊥) → NotGiven (begun ys) x
  pref : {ys : List Line} {x : Line} → Eleven (row_of_line First x) → ((qs : List Param) → ParamsOut x.params qs → ⊥) → NotGiven (begun ys) x
  geo : {ys : List Line} {x : Line} → row_of_line First x ≡ property.geo → ((a b : List ℕ) → NewGeo a b x.value → ⊥) → NotGiven (begun ys) x
  no_n : {ys : List Line} {x : Line} → row_of_line First x ≡ property.end → lines_of First property.n ys ≡ 0 → NotGiven (begun ys) x

-- the refusals of a line l that is taken in, each where none before it holds: 5, 40 to 43, 9, 8, 50
pub data LineRefused (before : Before) (l : List ℕ) : ℕ → Where → Type 0 where
  octet : {o : ℕ} → BadAt (allowed false) l o → LineRefused before l refusal.bad_octet (at_octet o)
  rule : {n : ℕ} → Clean l → FirstFault n l → LineRefused before l n at_start
  order : (x : Line) → Reads l x → (InPlace before x → ⊥) → LineRefused before l refusal.order at_start
  laden : (x : Line) → Reads l x → InPlace before x → (Unladen First x → ⊥) → LineRefused before l refusal.laden at_start
  not_taken : (x : Line) → Reads l x → InPlace before x → Unladen First x → NotTaken before x → LineRefused before l refusal.not_taken_in at_start

-- 16, and then 15, for a card that goes over
pub data NoRoom (w : Way) (i room : List ℕ) : ℕ → ℕ → Type 0 where
  long : {ys : List Line} → Converts w i ys → limit.octets < length (card_octets ys) → NoRoom w i room refusal.form_too_long limit.octets
  small : {ys : List Line} → Converts w i ys → length (card_octets ys) ≤ limit.octets → length room < length (card_octets ys)
      → NoRoom w i room refusal.room (length (card_octets ys))

-- taking in: 1, 2, 3, 4 over the whole input; then the first line that is refused, its raw line r, its logical line l, at its place; then 9 where
-- the input ends inside the card; then 16, 15
pub data RefusedIn (i room : List ℕ) : ℕ → ℕ → Type 0 where
  long : limit.octets < length i → RefusedIn i room refusal.too_long limit.octets
  empty : length i ≡ 0 → RefusedIn i room refusal.empty 0
  lone : {p : ℕ} → length i ≤ limit.octets → 0 < length i → Lone i p → ((q : ℕ) → q < p → Lone i q → ⊥) → RefusedIn i room refusal.lone_cr_or_lf p
  unended : length i ≤ limit.octets → 0 < length i → Paired i → (EndsCrLf i → ⊥) → RefusedIn i room refusal.no_end (length i)
  line : (ds es ls ms : List (List ℕ)) (r l : List ℕ) (n q : ℕ) (w : Where) (before : Before) → Framed i → Lined i (ds ++ (r ∷ es)) (ls ++ (l ∷ ms)) → length ls ≡ length ds
      → SoFar Inward ls before → LineRefused before l n w → Placed l r w q → RefusedIn i room n (length (ended ds) + q)
  unfinished : (rs ls : List (List ℕ)) (ys : List Line) → Framed i → Lined i rs ls → SoFar Inward ls (begun ys) → RefusedIn i room refusal.order (length i)
  room : {n p : ℕ} → NoRoom Inward i room n p → RefusedIn i room n p

-- giving out: the reader's refusals; then the first line, of an accepted input, with a reason of 51; then 16, 15
pub data RefusedOut (i room : List ℕ) : ℕ → ℕ → Type 0 where
  reader : {n p : ℕ} → RefusedBy i n p → RefusedOut i room n p
  line : (ds es ls ms : List (List ℕ)) (r : List ℕ) (x : Line) (before : Before) {k m : ℕ} → InputOf i k m → Lined i (ds ++ (r ∷ es)) (ls ++ (render x ∷ ms)) → length ls ≡ length ds
      → SoFar Outward ls before → Readable x → NotGiven before x → RefusedOut i room refusal.not_given_out (length (ended ds))
  room : {n p : ℕ} → NoRoom Outward i room n p → RefusedOut i room n p
