-- Refusals: the number of each, in the order of the table in docs/REFERENCE.md. Assumes nothing.
use Rattle.std.specs.Prelude.{ℕ, List, [], ◌∷◌, ◌++◌}
use Rattle.numbers.specs.declared.refusal.Reason.{Reason}
use Rattle.numbers.specs.declared.refusal.Reason.TheVariants.{TooLong, Empty, LoneCrOrLf, NoEnd, BadOctet, Value, Laden, Order, Second, NoFn, Member, CopyRoom, RecordRoom, Room, FormTooLong, NoFreeSlot, TicketsUsedUp, NotOpen, SlotFull, PoolLength, Unsound, SlotCount, Escape, TextOctet, Name, Parameter, Quote, NoColon, NoLabel, BufferLength, Claim, NotTakenIn, NotGivenOut, NoPlan, MergeLimit, SourceRow, Plan, ReportFull, ReplayCall, ReplayPool, ReplayLog, Other}

-- an input, a text, a value or a label of over 16,384 octets; at 16,384
abbrev pub too_long : ℕ
too_long = 1

-- an input of 0 octets; at 0
abbrev pub empty : ℕ
empty = 2

-- a CR without LF after it, or an LF without CR before it; at the first such octet
abbrev pub lone_cr_or_lf : ℕ
lone_cr_or_lf = 3

-- the last two octets of the input are not CR LF; at the input's length
abbrev pub no_end : ℕ
no_end = 4

-- a logical line with an octet 00-08, 0A-1F or 7F, or with octets that are not UTF-8; at that octet, or at the bad character's first
abbrev pub bad_octet : ℕ
bad_octet = 5

-- a value that breaks its kind; at the first octet from which no continuation satisfies it, or at the CR that ends the line
abbrev pub value : ℕ
value = 7

-- a group or a parameter on BEGIN, VERSION or END; at the line's start
abbrev pub laden : ℕ
laden = 8

-- a line out of order, at its start; or an input that ends inside a card, at its length
abbrev pub order : ℕ
order = 9

-- a second line of a property that a card has at most once; at that line's start
abbrev pub second : ℕ
second = 10

-- no FN in the card; at the END line's start
abbrev pub no_fn : ℕ
no_fn = 11

-- MEMBER without a KIND line whose value is `group` in any case; at the END line's start
abbrev pub member : ℕ
member = 12

-- copy room too small; the octets needed
abbrev pub copy_room : ℕ
copy_room = 13

-- record room too small; the numbers needed
abbrev pub record_room : ℕ
record_room = 14

-- output room too small; the octets needed
abbrev pub room : ℕ
room = 15

-- a folded, escaped or encoded form of over 16,384 octets; at 16,384
abbrev pub form_too_long : ℕ
form_too_long = 16

-- no slot is free; at 0
abbrev pub no_free_slot : ℕ
no_free_slot = 20

-- all tickets have been given out; at 0
abbrev pub tickets_used_up : ℕ
tickets_used_up = 21

-- the ticket is not open; at 0
abbrev pub not_open : ℕ
not_open = 22

-- the chunk would take the session over 16,384 octets; the octets held
abbrev pub slot_full : ℕ
slot_full = 23

-- the pool's length is not slots times 16,384; at 0
abbrev pub pool_length : ℕ
pool_length = 24

-- the desk value is not sound; at 0
abbrev pub unsound : ℕ
unsound = 25

-- a new desk of 0 or over 40 slots; at 0
abbrev pub slot_count : ℕ
slot_count = 26

-- text with a bare comma, or a backslash of no escape; at that octet
abbrev pub escape : ℕ
escape = 30

-- text, a value or a label with an octet that is not allowed, or with bad UTF-8; at its first octet
abbrev pub text_octet : ℕ
text_octet = 31

-- a line with no name, or with a bad name or group; from here to 43 at the line's start
abbrev pub name : ℕ
name = 40

-- a parameter without `=`, or with a bad name
abbrev pub parameter : ℕ
parameter = 41

-- a quote that is left open, followed by something else than , ; : or standing in a bare value
abbrev pub quote : ℕ
quote = 42

-- a line with no colon
abbrev pub no_colon : ℕ
no_colon = 43

-- a value with a newline or a quote mark, which RFC 6350's labels can't hold; at the first such octet
abbrev pub no_label : ℕ
no_label = 44

-- a lent buffer that has not 16,384 octets; at 0
abbrev pub buffer_length : ℕ
buffer_length = 45

-- a state that claims over 16,384 octets of the buffer; at 0
abbrev pub claim : ℕ
claim = 46

-- a line that a version 3 card can't be taken in with, at its start; or FN, N or VERSION missing, at the END line's start
abbrev pub not_taken_in : ℕ
not_taken_in = 50

-- a line that can't be given out in version 3, at its start; or N missing, at the END line's start
abbrev pub not_given_out : ℕ
not_given_out = 51

-- two cards for which no plan would pass; at 0
abbrev pub no_plan : ℕ
no_plan = 70

-- several cards in one input, over 16 entries or CLIENTPIDMAP lines, or a number over 65,535 in a PID or a CLIENTPIDMAP; at 0
abbrev pub merge_limit : ℕ
merge_limit = 71

-- a row of entries that is not its card's CLIENTPIDMAP lines in order; at 0
abbrev pub source_row : ℕ
source_row = 72

-- a plan that does not pass where another would; at 0
abbrev pub plan : ℕ
plan = 73

-- a count of a report would pass 4,294,967,295; at 0
abbrev pub report_full : ℕ
report_full = 80

-- ---- a replay's own: no reader, desk or C routine answers them

-- a call of a script that is unknown or cut off; at its first octet
abbrev pub replay_call : ℕ
replay_call = 90

-- the pool's length is not slots times 16,384; that length
abbrev pub replay_pool : ℕ
replay_pool = 91

-- the log may lack room for the answers; its length
abbrev pub replay_log : ℕ
replay_log = 92

-- ---- all of them

abbrev pub refusals : List ℕ
refusals =
    too_long ∷ empty ∷ lone_cr_or_lf ∷ no_end ∷ bad_octet ∷ value ∷ laden ∷ order ∷ second ∷ no_fn ∷ member ∷ []
    ++ copy_room ∷ record_room ∷ room ∷ form_too_long ∷ []
    ++ no_free_slot ∷ tickets_used_up ∷ not_open ∷ slot_full ∷ pool_length ∷ unsound ∷ slot_count ∷ []
    ++ escape ∷ text_octet ∷ []
    ++ name ∷ parameter ∷ quote ∷ no_colon ∷ no_label ∷ buffer_length ∷ claim ∷ []
    ++ not_taken_in ∷ not_given_out ∷ []
    ++ no_plan ∷ merge_limit ∷ source_row ∷ plan ∷ []
    ++ report_full ∷ []
    ++ replay_call ∷ replay_pool ∷ replay_log ∷ []

-- the number of each reason
abbrev pub number : Reason → ℕ
number TooLong = too_long
number Empty = empty
number LoneCrOrLf = lone_cr_or_lf
number NoEnd = no_end
number BadOctet = bad_octet
number Value = value
number Laden = laden
number Order = order
number Second = second
number NoFn = no_fn
number Member = member
number CopyRoom = copy_room
number RecordRoom = record_room
number Room = room
number FormTooLong = form_too_long
number NoFreeSlot = no_free_slot
number TicketsUsedUp = tickets_used_up
number NotOpen = not_open
number SlotFull = slot_full
number PoolLength = pool_length
number Unsound = unsound
number SlotCount = slot_count
number Escape = escape
number TextOctet = text_octet
number Name = name
number Parameter = parameter
number Quote = quote
number NoColon = no_colon
number NoLabel = no_label
number BufferLength = buffer_length
number Claim = claim
number NotTakenIn = not_taken_in
number NotGivenOut = not_given_out
number NoPlan = no_plan
number MergeLimit = merge_limit
number SourceRow = source_row
number Plan = plan
number ReportFull = report_full
number ReplayCall = replay_call
number ReplayPool = replay_pool
number ReplayLog = replay_log
number (Other u) = u.number
