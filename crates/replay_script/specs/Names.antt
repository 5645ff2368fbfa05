-- The octet that names each call of a script, and the lengths of calls. Assumes nothing.
use Rattle.std.specs.Prelude.{ℕ}

abbrev pub opens : ℕ
opens = 1

abbrev pub adds : ℕ
adds = 2

abbrev pub judges : ℕ
judges = 3

abbrev pub shows : ℕ
shows = 4

abbrev pub asks : ℕ
asks = 5

abbrev pub releases : ℕ
releases = 6

-- the octets of a call with no tick: its name, and a number in four
abbrev pub length : ℕ
length = 5

-- the octets of an opening: a tick in four more
abbrev pub opening : ℕ
opening = 9

-- the octets of an add before its chunk: a tick in four more, and the chunk's length in two
abbrev pub chunk : ℕ
chunk = 11
