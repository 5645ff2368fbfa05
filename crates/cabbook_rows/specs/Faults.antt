-- What is wrong with a line that breaks the line rule, in words. Assumes nothing.
use Rattle.std.specs.Prelude.{ℕ, ◌-◌, Bool, false, List, [], ◌++◌, eqb, ltb, leb, length}
use Rattle.numbers.specs.Limits as limit
use Rattle.numbers.specs.Refusals as refusal
use Rattle.octets.specs.Pick.{pick}
use Rattle.octets.specs.Ascii.{octets}
use Rattle.octets.specs.Slices.{part}
use Rattle.line_folds.specs.Folds.{unfolded}
use Rattle.line_parser.specs.AtFault.{at_fault, quote_fault}
use Rattle.line_parser.specs.declared.at_fault.AtFault.{AtFault}
use Rattle.line_parser.specs.declared.at_fault.QuoteFault.{QuoteFault}
use Rattle.line_parser.specs.declared.at_fault.QuoteFault.TheVariants.{LeftOpen, Followed, InBare}
use Rattle.cabbook_messages.specs.Words.{words_of}
use Rattle.cabbook_reasons.specs.Reasons.{reason}
use Rattle.cabbook_rows.specs.Under.{name_most, cut, offending}
use Rattle.cabbook_rows.specs.Values.{wanted_words}

-- a name between two texts
abbrev pub about : List ℕ → List ℕ → List ℕ → List ℕ
about before name after = before ++ cut name_most name ++ after

-- the octets of the name at fault
abbrev pub name_of : AtFault → List ℕ → List ℕ
name_of w l = part l w.start w.end

unfoldable pub name_words : AtFault → List ℕ → List ℕ
name_words w l =
    pick (ltb w.start w.end) (about (octets "name ") (name_of w l) (octets " has neither ':' nor ';' after it"))
    (pick (eqb w.start 0) (octets "no name at the start of the line") (about (octets "no name after group ") (part l 0 (w.start - 1)) []))

unfoldable pub param_words : AtFault → List ℕ → List ℕ
param_words w l = pick (ltb w.start w.end) (about (octets "parameter ") (name_of w l) (octets " has no '='")) (octets "parameter without a name")

abbrev pub quote_text : QuoteFault → List ℕ
quote_text LeftOpen = octets " has a quote left open"
quote_text Followed = octets " has no ',' ';' or ':' after a closing quote"
quote_text InBare = octets " has a quote inside a bare value"

unfoldable pub quote_words : AtFault → List ℕ → List ℕ
quote_words w l = about (octets "parameter ") (name_of w l) (quote_text (quote_fault w.end l))

unfoldable pub colon_words : AtFault → List ℕ → List ℕ
colon_words w l = pick w.is_param (about (octets "no ':' after parameter ") (name_of w l) []) (about (octets "no ':' after name ") (name_of w l) [])

-- of a logical line that is refused with 40 to 43
unfoldable pub fault_words : ℕ → List ℕ → List ℕ
fault_words number l =
    pick (eqb number refusal.name) (name_words (at_fault l) l)
    (pick (eqb number refusal.parameter) (param_words (at_fault l) l)
    (pick (eqb number refusal.quote) (quote_words (at_fault l) l) (colon_words (at_fault l) l)))

-- a refusal of the line rule
unfoldable pub is_fault : ℕ → Bool
is_fault number = pick (ltb number refusal.name) false (leb number refusal.no_colon)

-- of a raw line; the words of the refusal where it is longer than a text that was read
abbrev pub raw_words : ℕ → List ℕ → List ℕ
raw_words number r = pick (ltb limit.read_room (length r)) (words_of number) (fault_words number (unfolded r))

-- what is wrong with the line in which the place lies, what its value should be, or by what stands there
abbrev pub why : List ℕ → ℕ → ℕ → List ℕ
why s number place =
    pick (is_fault number) (raw_words number (offending s number place)) (pick (eqb number refusal.value) (wanted_words s place) (reason s number place))
