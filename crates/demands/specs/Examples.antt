-- The examples of REFERENCE, Worked examples that are marked (*): inputs, and what the entries' outcome definitions give for each. Assumes nothing.
use Rattle.std.specs.Prelude.{ℕ, ◌+◌, ◌-◌, ◌≡◌, List, [], ◌∷◌, ◌++◌, map, length, replicate}
use Prim.Native.String.{String}
use Rattle.octets.specs.Room.{Filled, fill}
use Rattle.folder_raising.specs.declared.Style.{Style}
use Rattle.folder_raising.specs.declared.Style.TheVariants.{AsRead, Raised}
use Rattle.property_table.specs.declared.Edition.{Edition}
use Rattle.property_table.specs.declared.Edition.TheVariants.{First, Second}
use Rattle.folder.specs.Outcome.{fold_in}
use Rattle.text.specs.Outcomes.{unescape_outcome}
use Rattle.octets.specs.Ascii.{octets}
use Rattle.reader.specs.Outcome.{Taken, copy_of, read_in}
use Rattle.report.specs.Steps.{fresh_report}
use Rattle.report.specs.Text.{report_text}
use Rattle.report_laws.specs.Totals.{after}
use Rattle.desk_slots.specs.Sound.{state_at}
use Rattle.desk.specs.Answer.{answer as desk_answer}
use Rattle.desk.specs.Steps.{new_step}
use Rattle.desk_entries.specs.declared.Session.{Session}
use Rattle.desk_entries.specs.declared.State.TheVariants.{Open}
use Rattle.desk_ledger.specs.Answers.{Reply, refused, told, counts, verdict, wrote, said}
use Rattle.desk_ledger.specs.Ticks.{Ticked, opens_at, asks_of, releasing}
use Rattle.desk_ledger.specs.Desks.{Proper, answers, world}

-- CR LF
abbrev end : List ℕ
end = 13 ∷ 10 ∷ []

-- a line with its end
abbrev line : String → List ℕ
line s = octets s ++ end

-- a row of a report with its end
abbrev row : String → List ℕ
row s = octets s ++ 10 ∷ []

-- card M, up to its END, with what stands between FN and END
abbrev pub start : List ℕ
start = line "BEGIN:VCARD" ++ line "VERSION:4.0"

abbrev pub card_with : List ℕ → List ℕ
card_with more = start ++ (line "FN:A" ++ (more ++ line "END:VCARD"))

unfoldable pub card_m : List ℕ
card_m = card_with []

-- the same with a fold after `FN:`
unfoldable pub folded_m : List ℕ
folded_m = start ++ (octets "FN:" ++ (end ++ 32 ∷ line "A") ++ line "END:VCARD")

unfoldable pub records_m : List ℕ
records_m =
    1 ∷ 0 ∷ 11 ∷ 0 ∷ 5 ∷ 0 ∷ 6 ∷ 0 ∷
    34 ∷ 13 ∷ 11 ∷ 0 ∷ 7 ∷ 0 ∷ 21 ∷ 0 ∷
    6 ∷ 26 ∷ 4 ∷ 0 ∷ 2 ∷ 0 ∷ 29 ∷ 1 ∷
    2 ∷ 32 ∷ 9 ∷ 0 ∷ 3 ∷ 0 ∷ 36 ∷ 0 ∷ []

abbrev full_name : String
full_name = "N:Public;John;Quinlan;Mr.;Esq."

-- the report after card M alone
unfoldable pub rows_m : List ℕ
rows_m =
    row "uploads 1" ++ (row "accepted 1" ++ (row "cards 1" ++ (row "lines 4" ++ (row "octets 43"
    ++ (row "p1 1" ++ (row "p2 1" ++ (row "p6 1" ++ row "p34 1")))))))

-- an example: what is read, folded or unescaped, the rooms, the answer, and what the rooms hold then; or the calls on a fresh desk, the
-- number that answers each, and which session then stands in which slot; or judgements taken since a fresh report, and its print
pub data Example : Type 0 where
  reads : (edition : Edition) (input copy records : List ℕ) → Reply → (copy' records' : List ℕ) → Example
  folds : (edition : Edition) (style : Style) (input room : List ℕ) → Reply → (room' : List ℕ) → Example
  unescapes : (text room : List ℕ) → Reply → (room' : List ℕ) → Example
  reports : (inputs : List (List ℕ)) (room : List ℕ) → Reply → (room' : List ℕ) → Example
  turns : (slots : ℕ) (calls : List Ticked) (numbers : List ℕ) (slot : ℕ) (session : Session) → Example

-- such a desk is granted; and with its proper pool, whatever this holds, the steps of the desk's contracts answer and end so
pub record Turns (n : ℕ) (cs : List Ticked) (ns : List ℕ) (i : ℕ) (s : Session) : Type 0 where
  pub granted : said (desk_answer (new_step n).answer) ≡ told 0
  pub answered : (p : List ℕ) → Proper n p → answers n p cs ≡ map told ns
  pub slot : (p : List ℕ) → Proper n p → state_at (world n p cs).desk.entries i ≡ Open s

-- an outcome that answers a and leaves these octets, or numbers, in its rooms
pub record Fills (f : Filled) (a : Reply) (o : List ℕ) : Type 0 where
  pub answer : wrote f.answer ≡ a
  pub room : f.room ≡ o

pub record Reads (t : Taken) (a : Reply) (c r : List ℕ) : Type 0 where
  pub answer : verdict t.answer ≡ a
  pub copy : t.copy ≡ c
  pub records : t.records ≡ r

-- the outcome that the entry's contract names is the one expected
abbrev pub Holds : Example → Type 0
Holds (reads e i c r a c' r') = Reads (read_in e i c r) a c' r'
Holds (folds e s i o a o') = Fills (fold_in e s i o) a o'
Holds (unescapes t o a o') = Fills (unescape_outcome t o) a o'
Holds (reports is o a o') = Fills (fill (report_text (after fresh_report is)) o) a o'
Holds (turns n cs ns i s) = Turns n cs ns i s

-- refused: both rooms stay
abbrev refuses_in : Edition → List ℕ → ℕ → ℕ → Example
refuses_in e i n p = reads e i (replicate 64 0) (replicate 64 0) (refused n p) (replicate 64 0) (replicate 64 0)

abbrev pub refuses : List ℕ → ℕ → ℕ → Example
refuses = refuses_in First

-- accepted with card M's counts, copy and records, the rest of the rooms as it was
abbrev pub as_m : List ℕ → Example
as_m i =
    reads First i (replicate 64 0) (replicate 64 0)
    (counts 1 4) (card_m ++ replicate 21 0) (records_m ++ replicate 32 0)

-- a NOTE line of n octets, and what may stand after it, in card M
abbrev note : ℕ → List ℕ → List ℕ
note n more = card_with (octets "NOTE:" ++ (replicate (n - 5) 97 ++ more))

-- a card is folded in a style into a room of 160 octets to another, of n octets
abbrev pub folding : Style → List ℕ → ℕ → List ℕ → Example
folding s i n o = folds First s i (replicate 160 0) (told n) (o ++ replicate (160 - n) 0)

-- all of them, and two of request 8
abbrev pub marked : List Example
marked =
    as_m card_m ∷
    as_m folded_m ∷
    refuses (start ++ line "END:VCARD") 11 26 ∷
    refuses (start ++ line "FN:A") 9 32 ∷
    refuses (line "BEGIN:VCARD" ++ (line "VERSION:3.0" ++ (line "FN:A" ++ line "END:VCARD"))) 7 21 ∷
    refuses (octets "BEGIN:VCARD" ++ (10 ∷ (line "VERSION:4.0" ++ (line "FN:A" ++ line "END:VCARD")))) 3 11 ∷
    refuses (card_with (line full_name ++ line full_name)) 10 64 ∷
    refuses (card_with (line "N:Doe;J")) 7 39 ∷
    refuses (card_with (line "N;ALTID=1:;;;;" ++ line "N:;;;;")) 10 48 ∷
    folding AsRead (card_with (line "N;ALTID=1:;;;;" ++ line "N;ALTID=1:;;;;")) 75 (card_with (line "N;ALTID=1:;;;;" ++ line "N;ALTID=1:;;;;")) ∷
    folding AsRead (note 75 end) 120 (note 75 end) ∷
    folding AsRead (note 76 end) 124 (note 75 (end ++ 32 ∷ 97 ∷ end)) ∷
    folding AsRead (note 74 (195 ∷ 169 ∷ end)) 124 (note 74 (end ++ 32 ∷ 195 ∷ 169 ∷ end)) ∷
    folding Raised (note 76 end) 124 (note 75 (end ++ 32 ∷ 97 ∷ end)) ∷
    folding Raised (card_with (line "g.fn;type=\"x:y\";q=a:a")) 66 (card_with (line "G.FN;TYPE=\"x:y\";Q=a:a")) ∷
    unescapes (octets "a\\,b") (replicate 8 0) (told 3) (octets "a,b" ++ replicate 5 0) ∷
    unescapes (octets "\\N") (replicate 8 0) (told 1) (10 ∷ replicate 7 0) ∷
    unescapes (octets "a,b") (replicate 8 0) (refused 30 1) (replicate 8 0) ∷
    reports (card_m ∷ []) (replicate 70 0) (told 68) (rows_m ++ replicate 2 0) ∷
    turns 2 (opens_at 0 0 ∷ opens_at 0 0 ∷ asks_of 1 releasing ∷ opens_at 0 0 ∷ []) (1 ∷ 2 ∷ 0 ∷ 3 ∷ []) 0 (record { ticket = 3; tram = 0; held = 0 }) ∷
    []

-- a line after FN in card M is refused with that number, at that octet of it as it came
abbrev flawed : List ℕ → ℕ → ℕ → Example
flawed l n o = refuses (card_with (l ++ end)) n (32 + o)

-- a fold
abbrev fold : List ℕ
fold = end ++ 32 ∷ []

-- where 5 and 7 name an octet: by kind, at the end of a value that ends too early, and through folds; 8, 10 and 40 keep the line's start
abbrev pub named : List Example
named =
    flawed (octets "NOTE:\\x") 7 6 ∷
    flawed (octets "NOTE:a\\") 7 7 ∷
    flawed (octets "NOTE:a,b") 7 6 ∷
    flawed (octets "N:;;;;;") 7 6 ∷
    flawed (octets "UID:1") 7 4 ∷
    flawed (octets "UID:ab") 7 6 ∷
    flawed (octets "GENDER:MX") 7 8 ∷
    flawed (octets "CLIENTPIDMAP:1;") 7 15 ∷
    flawed (octets "BDAY:20230229") 7 12 ∷
    flawed (octets "BDAY:20230230") 7 11 ∷
    flawed (octets "BDAY:20230431") 7 12 ∷
    flawed (octets "BDAY:198513") 7 10 ∷
    flawed (octets "BDAY:19852") 7 9 ∷
    flawed (octets "BDAY:T102261") 7 11 ∷
    flawed (octets "REV:19961022T1400") 7 17 ∷
    refuses (line "BEGIN:VCARDS") 7 11 ∷
    flawed (octets "N:Do" ++ (fold ++ octets "e;J")) 7 10 ∷
    flawed (octets "N:Doe;J" ++ fold) 7 10 ∷
    flawed (octets "NOTE:a" ++ (fold ++ octets ",b")) 7 9 ∷
    flawed (octets "NOTE:a," ++ (fold ++ octets "b")) 7 6 ∷
    flawed (octets "FN:a" ++ (0xe2 ∷ 0x82 ∷ 0x00 ∷ [])) 5 4 ∷
    flawed (octets "FN:" ++ (fold ++ (0x80 ∷ []))) 5 6 ∷
    flawed (octets "FN:" ++ (0xc3 ∷ (fold ++ octets "b"))) 5 3 ∷
    flawed (octets "FN:a" ++ (0x7f ∷ [])) 5 4 ∷
    flawed (octets "N;ALTID=1:;;;;" ++ (end ++ octets "N:;;;;")) 10 16 ∷
    flawed (octets "VERSION:4.0") 9 0 ∷
    flawed (octets "F N:a") 40 0 ∷
    []

-- a line after FN in card M, in an edition: refused with that number, at that octet of it; or accepted, and folded as read to the same octets
abbrev flawed_in : Edition → List ℕ → ℕ → ℕ → Example
flawed_in e l n o = refuses_in e (card_with (l ++ end)) n (32 + o)

abbrev passes_in : Edition → List ℕ → Example
passes_in e l =
    folds e AsRead (card_with (l ++ end)) (replicate 160 0) (told (45 + length l)) (card_with (l ++ end) ++ replicate (115 - length l) 0)

-- so many semicolons
abbrev semicolons : ℕ → List ℕ
semicolons n = replicate n 59

-- what the editions differ in, on both sides of each limit
abbrev pub renewed : List Example
renewed =
    passes_in Second (octets "N:" ++ semicolons 4) ∷
    passes_in Second (octets "N:" ++ semicolons 5) ∷
    passes_in Second (octets "N:" ++ semicolons 6) ∷
    flawed_in Second (octets "N:" ++ semicolons 3) 7 5 ∷
    flawed_in Second (octets "N:" ++ semicolons 7) 7 8 ∷
    flawed_in First (octets "N:" ++ semicolons 5) 7 6 ∷
    passes_in Second (octets "ADR:a\\;b" ++ semicolons 17) ∷
    passes_in Second (octets "ADR:" ++ semicolons 6) ∷
    flawed_in Second (octets "ADR:" ++ semicolons 5) 7 9 ∷
    flawed_in Second (octets "ADR:" ++ semicolons 18) 7 21 ∷
    flawed_in First (octets "ADR:" ++ semicolons 7) 7 10 ∷
    passes_in Second (octets "CREATED:20220705T093412Z") ∷
    flawed_in Second (octets "created;VALUE=text:x") 7 19 ∷
    passes_in First (octets "created;VALUE=text:x") ∷
    flawed_in Second (octets "CREATED:20220705T093412Z" ++ (end ++ octets "Created:20220705T093412Z")) 10 26 ∷
    passes_in First (octets "CREATED:" ++ (end ++ octets "CREATED:")) ∷
    flawed_in Second (octets "GRAMGENDER:a,b") 7 12 ∷
    passes_in Second (octets "GRAMGENDER:neuter" ++ (end ++ octets "GRAMGENDER:common")) ∷
    flawed_in Second (octets "LANGUAGE:de" ++ (end ++ octets "LANGUAGE:en")) 10 13 ∷
    passes_in Second (octets "LANGUAGE;ALTID=1:de" ++ (end ++ octets "LANGUAGE;ALTID=1:en")) ∷
    flawed_in Second (octets "LANGUAGE;VALUE=uri:de") 7 21 ∷
    passes_in Second (octets "PRONOUNS:she/her") ∷
    flawed_in Second (octets "PRONOUNS:a,b") 7 10 ∷
    flawed_in Second (octets "SOCIALPROFILE:cab") 7 17 ∷
    passes_in Second (octets "SOCIALPROFILE;VALUE=text:cab") ∷
    passes_in First (octets "SOCIALPROFILE:cab") ∷
    []

-- raised, two inputs whose copies differ are written to equal octets
pub record Merged (i j room : List ℕ) : Type 0 where
  pub octets : fold_in First Raised i room ≡ fold_in First Raised j room
  pub copies : copy_of i ≡ copy_of j → ⊥

abbrev pub small_name : List ℕ
small_name = card_with (line "x:1")

abbrev pub capital_name : List ℕ
capital_name = card_with (line "X:1")

-- card M with an N of six components
abbrev pub wider_name : List ℕ
wider_name = card_with (line "N:;;;;;")
