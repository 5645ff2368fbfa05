-- The names of options and commands, and the numbers that options take. Assumes nothing.
use Rattle.std.specs.Prelude.{ℕ, ◌-◌, List, [], ◌∷◌, ◌++◌, Option, Some, None, get_or, length}
use Prim.Native.String.{String}
use Rattle.numbers.specs.Limits as limit
use Rattle.octets.specs.Pick.{pick}
use Rattle.octets.specs.Ascii.{octets}
use Rattle.octets.specs.Cases.{same}
use Rattle.octets.specs.Classes.{within}
use Rattle.cabbook_options.specs.declared.names.Switch.{Switch}
use Rattle.cabbook_options.specs.declared.names.Switch.TheVariants as switch
use Rattle.cabbook_options.specs.declared.command.Command.{Command}
use Rattle.cabbook_options.specs.declared.command.Command.TheVariants as command
use Rattle.cabbook_options.specs.declared.names.Named.{Named}
use Rattle.cabbook_options.specs.declared.names.Named.TheVariants.{AnOption, ACommand}

-- a number and its name
pub record Name : Type 0 where
  pub number : ℕ
  pub text : String

abbrev pub name : ℕ → String → Name
name n s = record { number = n; text = s }

-- the options, from 1 to 12, and the commands, from 21 on
unfoldable pub names : List Name
names =
    name 1 "--edition" ∷
    name 2 "--chunk" ∷
    name 3 "--tick" ∷
    name 4 "--slots" ∷
    name 5 "--as-read" ∷
    name 6 "--rfc6350" ∷
    name 7 "--bars" ∷
    name 8 "--all" ∷
    name 9 "--quiet" ∷
    name 10 "--json" ∷
    name 11 "--help" ∷
    name 11 "-h" ∷
    name 12 "--version" ∷
    name 21 "check" ∷
    name 22 "show" ∷
    name 23 "fold" ∷
    name 24 "escape" ∷
    name 25 "unescape" ∷
    name 26 "encode" ∷
    name 27 "decode" ∷
    name 28 "morning" ∷
    name 29 "report" ∷
    name 30 "v3in" ∷
    name 31 "v3out" ∷
    name 32 "watch" ∷
    name 33 "merge" ∷
    name 34 "help" ∷
    []

-- the number of a name among names, in either case; 0 where none has it
unfoldable pub number_in : List Name → List ℕ → ℕ
number_in [] w = 0
number_in (m ∷ ms) w = pick (same w (octets m.text)) m.number (number_in ms w)

unfoldable pub number_of : List ℕ → ℕ
number_of w = number_in names w

-- names as octets: of each its number, the length of its name, and the name
unfoldable pub table_of : List Name → List ℕ
table_of [] = []
table_of (m ∷ ms) = m.number ∷ length (octets m.text) ∷ (octets m.text ++ table_of ms)

-- the options and the commands in the order of their numbers
abbrev pub switches : List Switch
switches =
    switch.Edition ∷
    switch.Chunk ∷
    switch.Tick ∷
    switch.Slots ∷
    switch.AsRead ∷
    switch.Rfc6350 ∷
    switch.Bars ∷
    switch.All ∷
    switch.Quiet ∷
    switch.Json ∷
    switch.Help ∷
    switch.Version ∷
    []

abbrev pub commands : List Command
commands =
    command.Check ∷
    command.Show ∷
    command.Fold ∷
    command.Escape ∷
    command.Unescape ∷
    command.Encode ∷
    command.Decode ∷
    command.Morning ∷
    command.Report ∷
    command.V3in ∷
    command.V3out ∷
    command.Watch ∷
    command.Merge ∷
    command.Help ∷
    []

-- more than the number of any option
abbrev pub options_end : ℕ
options_end = 13

-- an option's place among the values: its number, or 0 for one that the program has not
abbrev pub place_of : Switch → ℕ
place_of switch.Edition = 1
place_of switch.Chunk = 2
place_of switch.Tick = 3
place_of switch.Slots = 4
place_of switch.AsRead = 5
place_of switch.Rfc6350 = 6
place_of switch.Bars = 7
place_of switch.All = 8
place_of switch.Quiet = 9
place_of switch.Json = 10
place_of switch.Help = 11
place_of switch.Version = 12
place_of (switch.Other n) = 0

-- what a number stands for
unfoldable pub meaning : ℕ → Option Named
meaning n =
    pick (within 1 12 n) (Some (AnOption (get_or switches (n - 1) switch.Edition)))
    (pick (within 21 34 n) (Some (ACommand (get_or commands (n - 21) command.Check))) None)

-- what a name stands for
unfoldable pub named : List ℕ → Option Named
named w = meaning (number_of w)

-- the largest number that an option takes, where it takes one
abbrev pub most_of : Switch → Option ℕ
most_of switch.Edition = Some 2
most_of switch.Chunk = Some limit.octets
most_of switch.Tick = Some limit.octets
most_of switch.Slots = Some limit.slots
most_of switch.AsRead = None
most_of switch.Rfc6350 = None
most_of switch.Bars = None
most_of switch.All = None
most_of switch.Quiet = None
most_of switch.Json = None
most_of switch.Help = None
most_of switch.Version = None
most_of (switch.Other n) = None
