-- Limits of inputs, forms, desks and answers. Assumes nothing.
use Rattle.std.specs.Prelude.{ℕ}

-- the most octets of an input, a text, a written form and a session; a slot of a pool has as many
abbrev pub octets : ℕ
octets = 16384

-- room for an input and one octet more, so that a longer one is seen
abbrev pub read_room : ℕ
read_room = 16385

-- the most slots of a desk
abbrev pub slots : ℕ
slots = 40

-- the octets of pool that a desk of so many slots has
abbrev pub pool : ℕ
pool = 655360

-- the next ticket of a desk whose tickets are used up: one more than the last ticket
abbrev pub tickets : ℕ
tickets = 4294967295

-- the most octets of a line's first physical line
abbrev pub first_line : ℕ
first_line = 75

-- the most octets of each later physical line after its space
abbrev pub later_line : ℕ
later_line = 74

-- the most properties that a card has at most once: its flags are the bits of one number
abbrev pub flags : ℕ
flags = 32

-- the numbers of a record
abbrev pub record_length : ℕ
record_length = 8

-- the most entries of a row of sources, and the most CLIENTPIDMAP lines of a card in a merge
abbrev pub sources : ℕ
sources = 16

-- the largest number of a PID or a CLIENTPIDMAP in a merge
abbrev pub source_number : ℕ
source_number = 65535

-- the most logical lines of an accepted input: a line has at least 4 octets with its CR LF
abbrev pub lines : ℕ
lines = 4096

-- the factor of a refusal's number in the answer of a C routine
abbrev pub word : ℕ
word = 4294967296

-- the largest number of 32 bits
abbrev pub largest : ℕ
largest = 4294967295

-- the largest number of 64 bits
abbrev pub largest64 : ℕ
largest64 = 18446744073709551615
