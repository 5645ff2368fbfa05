-- The words of a refusal, by REFERENCE, Refusals. tools/messages makes the table of src/words.rt from the list here. Assumes nothing.
use Rattle.std.specs.Prelude.{ℕ, List, [], ◌∷◌, ◌++◌, eqb, length}
use Prim.Native.String.{String}
use Rattle.numbers.specs.Refusals as refusal
use Rattle.octets.specs.Pick.{pick}
use Rattle.octets.specs.Ascii.{octets}

-- a refusal and its words
pub record Message : Type 0 where
  pub number : ℕ
  pub text : String

abbrev pub message : ℕ → String → Message
message n s = record { number = n; text = s }

unfoldable pub messages : List Message
messages =
    message refusal.too_long "over 16,384 octets: a book has at most 16,384" ∷
    message refusal.empty "no octets: the file is empty" ∷
    message refusal.lone_cr_or_lf "a line end that isn't CR LF" ∷
    message refusal.no_end "the last line doesn't end with CR LF" ∷
    message refusal.bad_octet "a control character, or not UTF-8" ∷
    message refusal.value "a value that the property doesn't take" ∷
    message refusal.laden "BEGIN, VERSION and END take no group and no parameter" ∷
    message refusal.order "a line out of order, or a card without END" ∷
    message refusal.second "this property stands again, and a card has it once" ∷
    message refusal.no_fn "the card has no FN line, the name to show" ∷
    message refusal.member "MEMBER in a card without KIND:group" ∷
    message refusal.copy_room "copy room too small" ∷
    message refusal.record_room "record room too small" ∷
    message refusal.room "output room too small" ∷
    message refusal.form_too_long "folded, escaped or encoded form over 16,384 octets" ∷
    message refusal.no_free_slot "no free slot" ∷
    message refusal.tickets_used_up "tickets used up" ∷
    message refusal.not_open "ticket not open" ∷
    message refusal.slot_full "chunk would take the session over 16,384 octets" ∷
    message refusal.pool_length "pool length isn't slots times 16,384" ∷
    message refusal.unsound "desk value not sound" ∷
    message refusal.slot_count "new desk of 0 or over 40 slots" ∷
    message refusal.escape "bare comma, or backslash without \\ , ; n or N after it" ∷
    message refusal.text_octet "octet not allowed, or bad UTF-8" ∷
    message refusal.name "no name, or a bad name or group" ∷
    message refusal.parameter "parameter without '=', or with a bad name" ∷
    message refusal.quote "quote left open or out of place" ∷
    message refusal.no_colon "no colon" ∷
    message refusal.no_label "newline or quote mark, which RFC 6350 can't write" ∷
    message refusal.buffer_length "lent buffer hasn't 16,384 octets" ∷
    message refusal.claim "state claims over 16,384 octets of the buffer" ∷
    message refusal.not_taken_in "not a version 3 card that can be taken in" ∷
    message refusal.not_given_out "can't be given out in version 3" ∷
    message refusal.no_plan "no pairing of the two cards' lines would pass" ∷
    message refusal.merge_limit "more than one card, over 16 CLIENTPIDMAP lines, or a number over 65,535" ∷
    message refusal.source_row "row isn't the card's CLIENTPIDMAP lines in order" ∷
    message refusal.plan "plan doesn't pass, another would" ∷
    message refusal.report_full "a count of the report would pass 4,294,967,295" ∷
    []

-- the words of a number among messages; none where no message has it
unfoldable pub words_in : List Message → ℕ → List ℕ
words_in [] n = []
words_in (m ∷ ms) n = pick (eqb n m.number) (octets m.text) (words_in ms n)

unfoldable pub words_of : ℕ → List ℕ
words_of n = words_in messages n

-- messages as octets: of each its number, the length of its words, and the words
unfoldable pub table_of : List Message → List ℕ
table_of [] = []
table_of (m ∷ ms) = m.number ∷ length (octets m.text) ∷ (octets m.text ++ table_of ms)
