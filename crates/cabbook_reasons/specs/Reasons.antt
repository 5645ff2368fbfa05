-- Why a file is refused, in words for a clerk, by what stands there. Assumes nothing.
use Rattle.std.specs.Prelude.{ℕ, zero, suc, ◌+◌, ◌-◌, Bool, true, false, List, eqb, ltb, leb, length, get_or}
use Rattle.numbers.specs.Refusals as refusal
use Rattle.octets.specs.Pick.{pick}
use Rattle.octets.specs.Ascii.{octets}
use Rattle.octets.specs.Cases.{same}
use Rattle.octets.specs.Slices.{part}
use Rattle.cabbook_messages.specs.Words.{words_of}

-- a word stands at a place
unfoldable pub opening : List ℕ → ℕ → List ℕ → Bool
opening s place w = same (part (part s place (length s)) 0 (length w)) w

-- a word stands at the end of a text
abbrev pub ending : List ℕ → List ℕ → Bool
ending b w = pick (ltb (length b) (length w)) false (same (part b (length b - length w) (length b)) w)

-- a word stands right before a place
unfoldable pub closing : List ℕ → ℕ → List ℕ → Bool
closing s place w = ending (part s 0 place) w

-- the mark of byte order in UTF-16, FF FE or FE FF
unfoldable pub utf16 : List ℕ → Bool
utf16 s = pick (eqb (get_or s 0 0) 0xff) (eqb (get_or s 1 0) 0xfe) (pick (eqb (get_or s 0 0) 0xfe) (eqb (get_or s 1 0) 0xff) false)

unfoldable pub line_end_words : List ℕ → ℕ → List ℕ
line_end_words s place =
    pick (eqb (get_or s place 0) 10) (octets "LF without CR before it: Unix line ends, and a vCard's are CR LF")
    (octets "CR without LF after it: a vCard's line ends are CR LF")

-- of a line inside a card
unfoldable pub inner_words : List ℕ → ℕ → List ℕ
inner_words s place =
    pick (opening s place (octets "BEGIN:")) (octets "BEGIN inside a card: the card before it has no END")
    (pick (opening s place (octets "VERSION:")) (octets "VERSION again: it is the second line of a card, once") (octets "line out of order"))

-- a line starts there that tells a card's version, or starts or ends a card
unfoldable pub marking : List ℕ → ℕ → Bool
marking s i =
    pick (closing s i (octets "\n"))
    (pick (opening s i (octets "VERSION:")) true (pick (opening s i (octets "END:")) true (opening s i (octets "BEGIN:")))) false

-- the first such place from i on, within so many octets
unfoldable pub mark_from : List ℕ → ℕ → ℕ → ℕ
mark_from s i zero = i
mark_from s i (suc k) = pick (marking s i) i (mark_from s (i + 1) k)

-- why VERSION is missing as the second line of a card, by the next such line
unfoldable pub found_words : List ℕ → ℕ → List ℕ
found_words s mark =
    pick (opening s mark (octets "VERSION:4.0")) (octets "VERSION must be the second line of a card")
    (pick (opening s mark (octets "VERSION:3.0")) (octets "version 3.0: this unit takes 4.0, and VERSION as the second line")
    (pick (opening s mark (octets "VERSION:2.1")) (octets "version 2.1: this unit takes 4.0, and VERSION as the second line")
    (pick (opening s mark (octets "VERSION:")) (octets "VERSION must be the second line of a card, and be 4.0")
    (octets "no VERSION line: the second line of a card must be VERSION:4.0"))))

unfoldable pub version_words : List ℕ → ℕ → List ℕ
version_words s place = found_words s (mark_from s place (length s - place))

-- of a line where a card has to start, where VERSION has to stand, or inside a card
unfoldable pub between_words : List ℕ → ℕ → List ℕ
between_words s place =
    pick (eqb place 0) (octets "a card starts with BEGIN:VCARD")
    (pick (closing s place (octets "END:VCARD\r\n")) (octets "a card starts with BEGIN:VCARD")
    (pick (closing s place (octets "BEGIN:VCARD\r\n")) (version_words s place) (inner_words s place)))

unfoldable pub order_words : List ℕ → ℕ → List ℕ
order_words s place = pick (leb (length s) place) (octets "the last card has no END:VCARD") (between_words s place)

-- by what stands there, or the words of the refusal
unfoldable pub reason : List ℕ → ℕ → ℕ → List ℕ
reason s number place =
    pick (eqb number refusal.order) (order_words s place)
    (pick (utf16 s) (octets "UTF-16 text, and a vCard is UTF-8") (pick (eqb number refusal.lone_cr_or_lf) (line_end_words s place) (words_of number)))
