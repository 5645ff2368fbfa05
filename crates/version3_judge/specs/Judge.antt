-- The judgement of a card that is taken in from version 3 or given out to it, line by line: 5, 40 to 43, 9, 8, and 50 or 51. Assumes nothing.
use Rattle.std.specs.Prelude.{ℕ, ◌+◌, Bool, true, false, not, ◌&&◌, ◌||◌, List, [], ◌∷◌, Result, Ok, Err, eqb, ltb, length}
use Rattle.numbers.specs.Kinds as kinds
use Rattle.numbers.specs.Properties as property
use Rattle.numbers.specs.Refusals as refusal
use Rattle.numbers.specs.Refusals.{number}
use Rattle.numbers.specs.declared.refusal.Refusal.{Refusal}
use Rattle.octets.specs.Ascii.{octets}
use Rattle.octets.specs.Pick.{pick}
use Rattle.octets.specs.Cases.{same}
use Rattle.utf8.specs.Characters.{allowed, first_bad}
use Rattle.line_folds.specs.Folds.{unfolded}
use Rattle.line_folds.specs.Places.{place_of}
use Rattle.line_parser.specs.Parse.{Parse, got, bad}
use Rattle.line_parser.specs.Grammar.{Param, Line}
use Rattle.line_parser.specs.Rule.{parse_line}
use Rattle.property_table.specs.declared.Edition.TheVariants.{First}
use Rattle.property_table.specs.Rows.{framing}
use Rattle.value_kinds.specs.Kinds.{kind_in}
use Rattle.value_kinds.specs.declared.Fault.{Fault}
use Rattle.value_kinds.specs.declared.Fault.TheVariants.{Fits, Breaks}
use Rattle.card_line.specs.Parts.{row_of_line, kind_of_line}
use Rattle.card_state.specs.declared.Flaw.{Flaw}
use Rattle.card_state.specs.declared.Flaw.TheVariants.{Placed, Octet}
use Rattle.card_judge.specs.Judge.{laden}
use Rattle.version3_text.specs.Renewed.{semicolons}
use Rattle.version3_geo.specs.Floats.{old_geo, new_geo}
use Rattle.version3_parameters.specs.declared.Way.{Way}
use Rattle.version3_parameters.specs.declared.Way.TheVariants.{Inward, Outward}
use Rattle.version3_parameters.specs.Params.{prefs_fit}
use Rattle.version3_judge.specs.declared.Set.{Set}
use Rattle.version3_judge.specs.declared.Phase.{Phase}
use Rattle.version3_judge.specs.declared.Phase.TheVariants.{BeforeBegin, Inside, Ended}

-- the card after a line, or the refusal's number and its place in the input, or its number and the octet of the unfolded line
pub data Step : Type 0 where
  Next : Set → Step
  Refused : ℕ → ℕ → Step
  Flawed : ℕ → ℕ → Step

-- the same of a refused line
abbrev pub stopped : Flaw → Step
stopped (Placed r p) = Refused (number r) p
stopped (Octet r o) = Flawed (number r) o

-- and of a line's result
abbrev pub step : Result Set Flaw → Step
step (Ok c) = Next c
step (Err f) = stopped f

-- and of the result of all lines
abbrev pub walked : Result Set Refusal → Step
walked (Ok c) = Next c
walked (Err r) = Refused (number r.0) r.1

-- BEGIN has not come
abbrev pub before_begin : Phase → Bool
before_begin BeforeBegin = true
before_begin Inside = false
before_begin Ended = false

-- END has come
abbrev pub ended : Phase → Bool
ended BeforeBegin = false
ended Inside = false
ended Ended = true

abbrev pub fresh_set : Set
fresh_set = record { phase = BeforeBegin; has_fn = false; has_n = false; has_version = false }

-- 50 in, 51 out
abbrev pub number_of : Way → ℕ
number_of Inward = refusal.not_taken_in
number_of Outward = refusal.not_given_out

-- BEGIN stands first, no other BEGIN inside, and nothing but BEGIN after END
unfoldable pub in_place : Phase → ℕ → Bool
in_place Inside row = not (eqb row property.begin)
in_place BeforeBegin row = eqb row property.begin
in_place Ended row = eqb row property.begin

-- the eleven properties that both versions have
unfoldable pub common : ℕ → Bool
common n =
    eqb n property.tel || (eqb n property.email || (eqb n property.fn || (eqb n property.n || (eqb n property.adr || (eqb n property.note
    || (eqb n property.title || (eqb n property.role || (eqb n property.org || (eqb n property.geo || eqb n property.url)))))))))

abbrev pub is_fit : Fault → Bool
is_fit Fits = true
is_fit (Breaks o) = false

-- a value of that kind
unfoldable pub of_kind : ℕ → List ℕ → Bool
of_kind k v = is_fit (kind_in First k v)

-- lists of texts with fewer than so many bare semicolons
unfoldable pub short : ℕ → List ℕ → Bool
short n v = of_kind kinds.texts v && ltb (length (semicolons v)) n

-- a name of at most five components, an address of at most seven, else of its kind
unfoldable pub fills : ℕ → List ℕ → Bool
fills k v = pick (eqb k kinds.name) (short 5 v) (pick (eqb k kinds.address) (short 7 v) (of_kind k v))

-- a value of the row that goes over: in, a GEO of version 3, which would be no text in version 4; out, a GEO that version 3 has too
unfoldable pub goes_over : Way → ℕ → ℕ → List ℕ → Bool
goes_over Inward row k v = pick (eqb row property.geo) (not (eqb k kinds.text) && old_geo v) (fills k v)
goes_over Outward row k v = pick (eqb row property.geo) (new_geo v) true

-- the version that is read
abbrev pub version_read : Way → List ℕ
version_read Inward = octets "3.0"
version_read Outward = octets "4.0"

-- FN, N and VERSION have come
unfoldable pub whole : Set → Bool
whole c = c.has_fn && (c.has_n && c.has_version)

-- BEGIN and END with the value VCARD in any case, BEGIN not after END, and END not before these have come; VERSION once, with its number
unfoldable pub frames : Way → Set → ℕ → List ℕ → Bool
frames w c row v =
    pick (eqb row property.version) (not c.has_version && same v (version_read w))
    (same v (octets "VCARD") && pick (eqb row property.begin) (before_begin c.phase) (whole c))

-- a line of the eleven, N not a second time, with lawful PREFs and a value that goes over
unfoldable pub goes : Way → Set → ℕ → ℕ → List Param → List ℕ → Bool
goes w c row k ps v = common row && (not (eqb row property.n && c.has_n) && (prefs_fit w ps && goes_over w row k v))

unfoldable pub good : Way → Set → ℕ → ℕ → List Param → List ℕ → Bool
good w c row k ps v = pick (framing row) (frames w c row v) (goes w c row k ps v)

-- the card after a line of the row
unfoldable pub noted : Set → ℕ → Set
noted c row =
    record {
      phase = pick (eqb row property.end) Ended Inside;
      has_fn = c.has_fn || eqb row property.fn;
      has_n = c.has_n || eqb row property.n;
      has_version = c.has_version || eqb row property.version;
    }

-- 9, 8, and 50 or 51; group: the group's length; params: how many parameters
unfoldable pub judge_parts : Way → Set → ℕ → ℕ → ℕ → ℕ → ℕ → List Param → List ℕ → Step
judge_parts w c at row group params k ps v =
    pick (in_place c.phase row)
    (pick (laden row group params) (Refused refusal.laden at) (pick (good w c row k ps v) (Next (noted c row)) (Refused (number_of w) at)))
    (Refused refusal.order at)

abbrev pub judge_parsed : Way → Set → ℕ → Parse Line → Step
judge_parsed w c at (got x n) =
    judge_parts w c at (row_of_line First x) (length x.group) (length x.params) (kind_of_line First x) x.params x.value
judge_parsed w c at (bad e) = Refused e at

-- 5, then the fault of the line rule, 40 to 43, then the parts of the line
unfoldable pub judge_line : Way → Set → ℕ → List ℕ → Step
judge_line w c at l =
    pick (ltb (first_bad (allowed false) l) (length l)) (Flawed refusal.bad_octet (first_bad (allowed false) l)) (judge_parsed w c at (parse_line l))

-- a refusal is handed up unchanged
abbrev pub onward : Step → (Set → Step) → Step
onward (Next c) f = f c
onward (Refused n p) f = Refused n p
onward (Flawed n o) f = Flawed n o

-- a refusal that names an octet of the unfolded line has that octet's place in the input
abbrev pub settled : ℕ → List ℕ → Step → Step
settled p l (Next c) = Next c
settled p l (Refused n q) = Refused n q
settled p l (Flawed n o) = Refused n (p + place_of l o)

-- the lines judged one after the other; they are as they came, and p is the place of the first of them in the input as given
unfoldable pub judge_lines : Way → List (List ℕ) → ℕ → Set → Step
judge_lines w [] p c = Next c
judge_lines w (l ∷ ls) p c = onward (settled p l (judge_line w c p (unfolded l))) (judge_lines w ls (p + length l + 2))
