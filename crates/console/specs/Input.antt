-- What was read of the input and not yet taken, and its lines. Assumes nothing.
use Rattle.std.specs.Prelude.{ℕ, ◌+◌, Bool, true, false, List, ltb}
use Rattle.octets.specs.Pick.{pick}
use Rattle.octets.specs.Slices.{part}
use Rattle.console_words.specs.Words.{next_of}
use Rattle.console.specs.declared.input.Input.{Input}
use Rattle.console.specs.declared.input.Line.{Line}

-- nothing was read
abbrev pub begun : Input
begun = record { from = 0; to = 0; long = false; ended = false }

abbrev pub past : Input → ℕ → Input
past i from = record { from = from; to = i.to; long = false; ended = i.ended }

-- the input ended, and a line was begun
abbrev pub is_within_line : Input → Bool
is_within_line i = pick i.ended (pick i.long true (ltb i.from i.to)) false

-- a line up to its LF at a place; where there is none, up to the end of what was read
abbrev pub line_to : Input → ℕ → Line
line_to i end =
    pick (ltb end i.to) (record { from = i.from; to = end; next = end + 1; found = true; last = false })
    (record { from = i.from; to = i.to; next = i.to; found = is_within_line i; last = i.ended })

unfoldable pub line_of : List ℕ → Input → Line
line_of buffer i = line_to i (next_of 10 (part buffer 0 i.to) i.from)
