-- What the value of a line should be, in words that follow the property's name. Assumes nothing.
use Rattle.std.specs.Prelude.{ℕ, Bool, false, List, [], ◌++◌, eqb, leb}
use Rattle.numbers.specs.Kinds as kind
use Rattle.numbers.specs.Properties as property
use Rattle.octets.specs.Pick.{pick}
use Rattle.octets.specs.Ascii.{octets}
use Rattle.cabbook_messages.specs.Sentences.{amount}

-- a value of a kind breaks in an escape: a backslash stands before the place, and the kind is one of text
abbrev pub is_escape : ℕ → Bool → Bool
is_escape k escape = pick escape (pick (eqb k kind.uri) false (leb k kind.gender)) false

-- how many parts a value should have, and how many it has
abbrev pub parts_wants : List ℕ → ℕ → List ℕ
parts_wants words parts = words ++ amount parts []

-- of a kind that is no text
unfoldable pub other_wants : ℕ → List ℕ
other_wants k =
    pick (eqb k kind.pidmap) (octets " wants digits, ';' and a URI")
    (pick (eqb k kind.date) (octets " wants a date of the calendar, a time or both, as 19850412, 1985-04, --0412, T1022 or 19850412T1022Z")
    (pick (eqb k kind.timestamp) (octets " wants a date of the calendar with its time, as 19961022T140000Z")
    (pick (eqb k kind.offset) (octets " wants an offset, as -0500 or +01") (octets " wants another value"))))

-- of a value of a kind that has so many parts
unfoldable pub kind_wants : ℕ → ℕ → List ℕ
kind_wants k parts =
    pick (eqb k kind.text) (octets " wants text, in which a comma is written \\,")
    (pick (eqb k kind.uri) (octets " wants a URI, as urn:uuid:.. or tel:.. or https:..")
    (pick (eqb k kind.name) (parts_wants (octets " has five parts split by ';' (in edition 2 up to seven), here ") parts)
    (pick (eqb k kind.address) (parts_wants (octets " has seven parts split by ';' (in edition 2 up to eighteen), here ") parts)
    (pick (eqb k kind.organization) (octets " wants parts split by ';', in which a comma is written \\,")
    (pick (eqb k kind.gender) (octets " wants M, F, O, N, U or nothing, then perhaps ';' and text without a bare ','") (other_wants k))))))

-- of a value that breaks after a backslash, or elsewhere
unfoldable pub value_wants : ℕ → Bool → ℕ → List ℕ
value_wants k escape parts = pick (is_escape k escape) (octets " wants \\ , ; n or N after '\\'") (kind_wants k parts)

-- of a row and kind; BEGIN, END and VERSION have fixed values
unfoldable pub wants : ℕ → ℕ → Bool → ℕ → List ℕ
wants row k escape parts =
    pick (eqb row property.begin) (octets " wants VCARD")
    (pick (eqb row property.end) (octets " wants VCARD")
    (pick (eqb row property.version) (octets " wants 4.0: this unit takes version 4.0 alone") (value_wants k escape parts)))
