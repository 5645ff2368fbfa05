-- The property table, by REFERENCE, The property table, the row of a name in each edition, and the kind of a line. Assumes nothing.
use Rattle.std.specs.Prelude.{ℕ, zero, suc, ◌+◌, Bool, true, false, not, ◌&&◌, ◌||◌, List, [], ◌∷◌, ◌++◌, eqb, ltb, length, get_or, take, drop}
use Prim.Native.String.{String}
use Rattle.std.proofs.Math.Option.{Option, none, some}
use Rattle.numbers.specs.Properties as property
use Rattle.numbers.specs.Kinds as kinds
use Rattle.octets.specs.Pick.{pick}
use Rattle.octets.specs.Cases.{lower, same}
use Rattle.octets.specs.Ascii.{octets}
use Rattle.octets.specs.Tables.{TableOf}
use Rattle.property_table.specs.declared.Edition.{Edition}
use Rattle.property_table.specs.declared.Edition.TheVariants.{First, Second}

-- how often a property may stand in a card: once where the table marks it so
pub data Times : Type 0 where
  once often : Times

pub record Row : Type 0 where
  pub name : List ℕ
  pub kind : ℕ
  pub times : Times

abbrev pub row : String → ℕ → Times → Row
row n k t = record { name = octets n; kind = k; times = t }

-- the rows of edition one
unfoldable pub rows : List Row
rows =
    row "BEGIN" 0 often ∷
    row "END" 0 often ∷
    row "SOURCE" 3 often ∷
    row "KIND" 1 once ∷
    row "XML" 0 often ∷
    row "FN" 1 often ∷
    row "N" 4 once ∷
    row "NICKNAME" 2 often ∷
    row "PHOTO" 3 often ∷
    row "BDAY" 9 once ∷
    row "ANNIVERSARY" 9 once ∷
    row "GENDER" 7 once ∷
    row "ADR" 5 often ∷
    row "TEL" 1 often ∷
    row "EMAIL" 1 often ∷
    row "IMPP" 3 often ∷
    row "LANG" 0 often ∷
    row "TZ" 1 often ∷
    row "GEO" 3 often ∷
    row "TITLE" 1 often ∷
    row "ROLE" 1 often ∷
    row "LOGO" 3 often ∷
    row "ORG" 6 often ∷
    row "MEMBER" 3 often ∷
    row "RELATED" 3 often ∷
    row "CATEGORIES" 2 often ∷
    row "NOTE" 1 often ∷
    row "PRODID" 1 once ∷
    row "REV" 10 once ∷
    row "SOUND" 3 often ∷
    row "UID" 3 once ∷
    row "CLIENTPIDMAP" 8 often ∷
    row "URL" 3 often ∷
    row "VERSION" 0 often ∷
    row "KEY" 3 often ∷
    row "FBURL" 3 often ∷
    row "CALADRURI" 3 often ∷
    row "CALURI" 3 often ∷
    []

-- the rows that edition two adds
unfoldable pub newer : List Row
newer =
    row "CREATED" 10 once ∷
    row "GRAMGENDER" 1 often ∷
    row "LANGUAGE" 0 once ∷
    row "PRONOUNS" 1 often ∷
    row "SOCIALPROFILE" 3 often ∷
    []

-- the rows of either edition: the table has them all
unfoldable pub all_rows : List Row
all_rows = rows ++ newer

-- the rows of an edition
abbrev pub rows_of : Edition → List Row
rows_of First = rows
rows_of Second = all_rows

-- how many they are, row 0 counted in
abbrev pub row_count : Edition → ℕ
row_count First = property.count
row_count Second = property.all

-- the number of the first row whose name is v without case, counted from i; 0 where there is none
unfoldable pub search : List ℕ → ℕ → List Row → ℕ
search v i [] = 0
search v i (r ∷ rs) = pick (same v r.name) i (search v (suc i) rs)

unfoldable pub row_of : Edition → List ℕ → ℕ
row_of e v = search v 1 (rows_of e)

-- v is one of the names that edition two adds, in any case
unfoldable pub is_new : List ℕ → Bool
is_new v = ltb 0 (search v 1 newer)

-- row 0: any other name
abbrev pub no_row : Row
no_row = record { name = []; kind = 0; times = often }

unfoldable pub row_at : ℕ → Row
row_at n = get_or (no_row ∷ all_rows) n no_row

-- the first octet of a name, a capital as its small letter
unfoldable pub initial : List ℕ → ℕ
initial v = lower (get_or v 0 0)

-- the row's name has l octets and starts with the letter c in either case
unfoldable pub starts_as : ℕ → ℕ → Row → Bool
starts_as l c r = eqb (length r.name) l && eqb (initial r.name) c

-- the row's name is as long as v and starts with the same letter in any case
unfoldable pub agrees : List ℕ → Row → Bool
agrees v = starts_as (length v) (initial v)

-- the numbers, counted from i, of the rows that pass the test p
unfoldable pub choice : (Row → Bool) → ℕ → List Row → List ℕ
choice p i [] = []
choice p i (r ∷ rs) = pick (p r) (i ∷ choice p (suc i) rs) (choice p (suc i) rs)

-- the rows of an edition that a name is compared with
unfoldable pub chosen : Edition → List ℕ → List ℕ
chosen e v = choice (agrees v) 1 (rows_of e)

-- the first of the rows with this length and letter; 0 where there is none
unfoldable pub first_of : ℕ → ℕ → ℕ
first_of l c = get_or (choice (starts_as l c) 1 all_rows) 0 0

-- the first row after row n that agrees with its name
unfoldable pub next_of : ℕ → ℕ
next_of n = get_or (choice (agrees (row_at n).name) (suc n) (drop n all_rows)) 0 0

unfoldable pub kind_at : ℕ → ℕ
kind_at n = (row_at n).kind

abbrev pub is_once : Times → Bool
is_once once = true
is_once often = false

-- the row is marked *1
unfoldable pub single : ℕ → Bool
single n = is_once (row_at n).times

abbrev pub marked : Times → ℕ → ℕ
marked once n = suc n
marked often n = n

-- how many of the rows are marked *1
unfoldable pub marks : List Row → ℕ
marks [] = 0
marks (r ∷ rs) = marked r.times (marks rs)

-- the number of row n among the rows marked *1, counted from 1; 0 for any other row
unfoldable pub once_at : ℕ → ℕ
once_at n = pick (single n) (marks (take n all_rows)) 0

-- BEGIN, VERSION and END frame a card
unfoldable pub framing : ℕ → Bool
framing n = eqb n property.begin || (eqb n property.version || eqb n property.end)

-- VALUE sets the kind on listed rows of kind 0, 1 or 3, except BEGIN, VERSION, END and XML
unfoldable pub takes_value : ℕ → Bool
takes_value n =
    (ltb 0 n && ltb n property.all)
    && ((eqb (kind_at n) kinds.anything || (eqb (kind_at n) kinds.text || eqb (kind_at n) kinds.uri)) && not (framing n || eqb n property.xml))

-- how a line's parameters set its kind: they do not; by VALUE; by VALUE and CALSCALE, on rows of dates; by VALUE, on TZ
abbrev pub by_row : ℕ
by_row = 0

abbrev pub by_value : ℕ
by_value = 1

abbrev pub by_calendar : ℕ
by_calendar = 2

abbrev pub by_zone : ℕ
by_zone = 3

unfoldable pub rule_at : ℕ → ℕ
rule_at n = pick (eqb (kind_at n) kinds.date) by_calendar (pick (eqb n property.tz) by_zone (pick (takes_value n) by_value by_row))

-- the kind that a VALUE parameter names
unfoldable pub kind_named : List ℕ → ℕ
kind_named v = pick (same v (octets "text")) kinds.text (pick (same v (octets "uri")) kinds.uri kinds.anything)

-- a parameter's first value, where there is one, is the text in any case; missing where there is none
unfoldable pub says : List ℕ → Bool → Option (List ℕ) → Bool
says text missing none = missing
says text missing (some v) = same v text

-- the kind k, unless VALUE names one
unfoldable pub value_kind : ℕ → Option (List ℕ) → ℕ
value_kind k none = k
value_kind k (some v) = kind_named v

-- VALUE `text` comes first; a calendar that is not said is the gregorian one
unfoldable pub date_kind : Option (List ℕ) → Option (List ℕ) → ℕ
date_kind value calscale = pick (says (octets "text") false value) kinds.text (pick (says (octets "gregorian") true calscale) kinds.date kinds.anything)

unfoldable pub zone_kind : Option (List ℕ) → ℕ
zone_kind value = pick (says (octets "utc-offset") false value) kinds.offset (value_kind kinds.text value)

-- the kind of a line of row n, given the first value of its first VALUE and of its first CALSCALE parameter, quotes taken off, where it has one
unfoldable pub line_kind : ℕ → Option (List ℕ) → Option (List ℕ) → ℕ
line_kind n value calscale =
    pick (eqb (rule_at n) by_row) (kind_at n)
    (pick (eqb (rule_at n) by_value) (value_kind (kind_at n) value)
    (pick (eqb (rule_at n) by_calendar) (date_kind value calscale) (zone_kind value)))

-- the names of the parameters that set the kind
abbrev pub value_name : List ℕ
value_name = octets "VALUE"

abbrev pub calscale_name : List ℕ
calscale_name = octets "CALSCALE"

-- a KIND line's value that lets MEMBER stand in the card
unfoldable pub is_group : List ℕ → Bool
is_group v = same v (octets "group")

-- the most octets of a name behind its first letter
abbrev pub longest_rest : ℕ
longest_rest = 12

-- how many entries the table has for a row
abbrev pub row_length : ℕ
row_length = 16

-- what the table has in the place of a row's name: the name behind its first letter, filled up by points and hyphens
unfoldable pub name_entries : ℕ → List ℕ
name_entries n = take longest_rest (drop 1 (row_at n).name ++ octets ".-.-.-.-.-.-")

-- the sixteen entries that the table has for a row: its number among the rows marked *1, those of its name, its kind, the next row that agrees
-- with its name, and how parameters set the kind
unfoldable pub entries : ℕ → List ℕ
entries n = once_at n ∷ name_entries n ++ kind_at n ∷ next_of n ∷ rule_at n ∷ []

-- for names that start with c, the first row and the length, for each of k lengths from l on
unfoldable pub firsts : ℕ → ℕ → ℕ → List ℕ
firsts c l zero = []
firsts c l (suc k) = (first_of l c + l) ∷ firsts c (suc l) k

-- how many letters there are, and the first of them
abbrev pub letter_count : ℕ
letter_count = 26

abbrev pub first_letter : ℕ
first_letter = 97

-- the index's entries for names that start with the letter of this number, counted from 0: the first row and the length, for each length from 0 to 15
unfoldable pub index_entries : ℕ → List ℕ
index_entries n = firsts (first_letter + n) 0 row_length

-- where the index starts: behind the rows
abbrev pub index_start : ℕ
index_start = 704

-- a list is the property table: the rows, and behind them the index by letter and length
pub record Lists (t : List ℕ) : Type 0 where
  pub lines : TableOf entries property.all (take index_start t)
  pub index : TableOf index_entries letter_count (drop index_start t)
