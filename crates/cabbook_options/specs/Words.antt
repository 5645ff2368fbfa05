-- What the words of a command line say. Assumes nothing.
use Rattle.std.specs.Prelude.{ℕ, ◌+◌, Bool, false, ◌||◌, List, Option, Some, None, eqb, ltb, length, get_or, set, replicate}
use Rattle.octets.specs.Pick.{pick}
use Rattle.octets.specs.Scan.{scan}
use Rattle.octets.specs.Ascii.{octets}
use Rattle.octets.specs.Cases.{same}
use Rattle.octets.specs.Slices.{part}
use Rattle.program_numbers.specs.Decimal.{number_of as decimal_of}
use Rattle.cabbook_options.specs.Names.{options_end, place_of, named, most_of}
use Rattle.cabbook_options.specs.declared.names.Switch.{Switch}
use Rattle.cabbook_options.specs.declared.names.Named.{Named}
use Rattle.cabbook_options.specs.declared.names.Named.TheVariants.{AnOption, ACommand}
use Rattle.cabbook_options.specs.declared.command.Command.{Command}
use Rattle.cabbook_options.specs.declared.words.Fault.{Fault}
use Rattle.cabbook_options.specs.declared.words.Fault.TheVariants.{NoCommand, NoOption, NoValue, NoNumber}
use Rattle.cabbook_options.specs.declared.words.Words.{Words}

-- before the first word nothing is said
abbrev pub begun : Words
begun =
    record {
      command = None;
      named_by = 0;
      files = 0;
      dashes = None;
      waits = None;
      fault = None;
      wrong = 0;
      values = replicate options_end None;
    }

-- the number that an option is set to
abbrev pub value_of : Words → Switch → Option ℕ
value_of w k = get_or w.values (place_of k) None

-- a dash, and more behind it
unfoldable pub looks_like : List ℕ → Bool
looks_like w = pick (ltb (length w) 2) false (eqb (get_or w 0 0) 45)

-- up to the first `=`
abbrev pub name_step : List ℕ → ℕ
name_step l = pick (eqb (get_or l 0 0) 61) 0 1

unfoldable pub name_length : List ℕ → ℕ
name_length w = scan name_step w 0

-- a number from 1 to the most, where both are there
abbrev pub allowed : Option ℕ → Option ℕ → Option ℕ
allowed (Some most) (Some n) = pick (eqb n 0 || ltb most n) None (Some n)
allowed (Some most) None = None
allowed None n = None

-- the number that a word has, where it is from 1 to the most that the option takes
unfoldable pub number_for : Switch → List ℕ → Option ℕ
number_for k word = allowed (most_of k) (decimal_of word)

-- something is wrong at argument i
abbrev pub wronged : Fault → ℕ → Words → Words
wronged fault i w =
    record {
      command = w.command;
      named_by = w.named_by;
      files = w.files;
      dashes = w.dashes;
      waits = w.waits;
      fault = Some fault;
      wrong = i;
      values = w.values;
    }

-- an option waits for its number
abbrev pub awaiting : Switch → Words → Words
awaiting k w =
    record {
      command = w.command;
      named_by = w.named_by;
      files = w.files;
      dashes = w.dashes;
      waits = Some k;
      fault = w.fault;
      wrong = w.wrong;
      values = w.values;
    }

-- an option is set
abbrev pub set_to : Switch → ℕ → Words → Words
set_to k n w =
    record {
      command = w.command;
      named_by = w.named_by;
      files = w.files;
      dashes = w.dashes;
      waits = None;
      fault = w.fault;
      wrong = w.wrong;
      values = set w.values (place_of k) (Some n);
    }

-- a word is an option's number, or none that it takes
abbrev pub numbered_by : Option ℕ → Switch → ℕ → Words → Words
numbered_by (Some n) k i w = set_to k n w
numbered_by None k i w = wronged NoNumber i (awaiting k w)

-- a word is the number of an option; an option that the program has not goes on waiting
unfoldable pub numbered : Switch → ℕ → List ℕ → Words → Words
numbered k i word w = pick (eqb (place_of k) 0) (awaiting k w) (numbered_by (number_for k word) k i w)

-- one file more, as far as they are counted
abbrev pub filed : Words → Words
filed w =
    record {
      command = w.command;
      named_by = w.named_by;
      files = pick (ltb w.files 3) (w.files + 1) w.files;
      dashes = w.dashes;
      waits = w.waits;
      fault = w.fault;
      wrong = w.wrong;
      values = w.values;
    }

-- the command is named
abbrev pub commanded : Command → ℕ → Words → Words
commanded k i w =
    record {
      command = Some k;
      named_by = i;
      files = w.files;
      dashes = w.dashes;
      waits = w.waits;
      fault = w.fault;
      wrong = w.wrong;
      values = w.values;
    }

-- a name in the place of the command's
abbrev pub commanded_by : Option Named → ℕ → Words → Words
commanded_by (Some (ACommand k)) i w = commanded k i w
commanded_by (Some (AnOption k)) i w = wronged NoCommand i w
commanded_by None i w = wronged NoCommand i w

-- a word that is no option: the command's name, or after that a file's
abbrev pub plainly_by : Option Command → ℕ → List ℕ → Words → Words
plainly_by (Some k) i word w = filed w
plainly_by None i word w = commanded_by (named word) i w

unfoldable pub plainly : ℕ → List ℕ → Words → Words
plainly i word w = plainly_by w.command i word w

-- an option that takes no number is set
abbrev pub marked : Switch → Words → Words
marked k w =
    record {
      command = w.command;
      named_by = w.named_by;
      files = w.files;
      dashes = w.dashes;
      waits = w.waits;
      fault = w.fault;
      wrong = w.wrong;
      values = set w.values (place_of k) (Some 1);
    }

-- an option without a value: it waits for its number, or is set; one that the program has not changes nothing
abbrev pub flagged_by : Option ℕ → Switch → Words → Words
flagged_by (Some most) k w = awaiting k w
flagged_by None k w = pick (eqb (place_of k) 0) w (marked k w)

unfoldable pub flagged : Switch → Words → Words
flagged k w = flagged_by (most_of k) k w

-- an option with a value, if it takes one
abbrev pub valued_by : Option ℕ → Switch → ℕ → List ℕ → Words → Words
valued_by (Some most) k i word w = numbered k i word w
valued_by None k i word w = wronged NoValue i w

-- a name in the place of an option's, of n octets of the word
abbrev pub optioned_by : Option Named → ℕ → ℕ → List ℕ → Words → Words
optioned_by (Some (AnOption k)) n i word w =
    pick (eqb n (length word)) (flagged k w) (valued_by (most_of k) k i (part word (n + 1) (length word)) w)
optioned_by (Some (ACommand k)) n i word w = wronged NoOption i w
optioned_by None n i word w = wronged NoOption i w

-- a word that looks like an option
unfoldable pub optioned : ℕ → List ℕ → Words → Words
optioned i word w = optioned_by (named (part word 0 (name_length word))) (name_length word) i word w

-- the options are ended; argument 0 ends none
abbrev pub ended : ℕ → Words → Words
ended i w =
    record {
      command = w.command;
      named_by = w.named_by;
      files = w.files;
      dashes = pick (eqb i 0) w.dashes (Some i);
      waits = w.waits;
      fault = w.fault;
      wrong = w.wrong;
      values = w.values;
    }

-- where options are not ended, a word that looks like one is one, and `--` ends them
abbrev pub opened_by : Option ℕ → ℕ → List ℕ → Words → Words
opened_by (Some end) i word w = plainly i word w
opened_by None i word w = pick (looks_like word) (pick (same word (octets "--")) (ended i w) (optioned i word w)) (plainly i word w)

-- an option that waits takes its number
abbrev pub awaited_by : Option Switch → ℕ → List ℕ → Words → Words
awaited_by (Some k) i word w = numbered k i word w
awaited_by None i word w = opened_by w.dashes i word w

-- nothing is added to what is wrong
abbrev pub took_by : Option Fault → ℕ → List ℕ → Words → Words
took_by (Some fault) i word w = w
took_by None i word w = awaited_by w.waits i word w

-- one more word, argument i: nothing is added to what is wrong; an option that waits takes its number; after `--` and where it does not look like an option
-- a word is plain
unfoldable pub took : ℕ → List ℕ → Words → Words
took i word w = took_by w.fault i word w
