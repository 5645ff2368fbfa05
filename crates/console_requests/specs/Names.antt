-- The requests, as the console's table lists them: the name, how many numbers stand after it, and whether octets stand after those.
-- Assumes nothing.
use Rattle.std.specs.Prelude.{ℕ, ◌+◌, Bool, ◌&&◌, List, [], ◌∷◌, Option, Some, None, eqb}
use Rattle.std.specs.Option.{option_map}
use Prim.Native.String.{String}
use Rattle.octets.specs.Pick.{pick}
use Rattle.octets.specs.Ascii.{octets}
use Rattle.octets.specs.Classes.{bit}
use Rattle.program_numbers.specs.Alike.{alike}
use Rattle.console_requests.specs.declared.Name.{Name}
use Rattle.console_requests.specs.declared.Name.TheVariants.{ToEntry, ToDesk, ToReport, ToMerge, ToWatch}
use Rattle.console_requests.specs.declared.names.Row.{Row as TableRow}
use Rattle.console_requests.specs.declared.EntryCall.TheVariants.{Judge, Read, Fold, Escape, Unescape, Encode, Decode, FoldIn, Offset, JudgeIn, ReadIn, TakeIn, GiveOut}
use Rattle.console_requests.specs.declared.DeskCall.TheVariants.{Desk, Open, Add, Check, Show, Held, Release, Pool, Next}
use Rattle.console_requests.specs.declared.ReportCall.TheVariants.{Report, Take, Print, Count}
use Rattle.console_requests.specs.declared.MergeCall.TheVariants.{Plan, CheckPlan}
use Rattle.console_requests.specs.declared.WatchCall.TheVariants.{Begin, Chunk, End, Buffer, Claim}

pub record Row : Type 0 where
  pub name : Name
  pub spelling : List ℕ
  pub numbers : ℕ
  pub octets : ℕ

-- numbers alone, or octets as the last word
abbrev pub alone : ℕ
alone = 0

abbrev pub with_octets : ℕ
with_octets = 1

abbrev pub row : Name → String → ℕ → ℕ → Row
row n s k o = record { name = n; spelling = octets s; numbers = k; octets = o }

unfoldable pub rows : List Row
rows =
    row (ToEntry Judge) "judge" 0 with_octets ∷
    row (ToEntry Read) "read" 2 with_octets ∷
    row (ToEntry Fold) "fold" 1 with_octets ∷
    row (ToEntry Escape) "escape" 1 with_octets ∷
    row (ToEntry Unescape) "unescape" 1 with_octets ∷
    row (ToDesk Desk) "desk" 2 alone ∷
    row (ToDesk Open) "open" 2 alone ∷
    row (ToDesk Add) "add" 2 with_octets ∷
    row (ToDesk Check) "check" 1 alone ∷
    row (ToDesk Show) "show" 1 alone ∷
    row (ToDesk Held) "held" 1 alone ∷
    row (ToDesk Release) "release" 1 alone ∷
    row (ToDesk Pool) "pool" 2 alone ∷
    row (ToDesk Next) "next" 1 alone ∷
    row (ToEntry Encode) "encode" 2 with_octets ∷
    row (ToEntry Decode) "decode" 2 with_octets ∷
    row (ToEntry FoldIn) "fold-in" 3 with_octets ∷
    row (ToEntry Offset) "offset" 0 with_octets ∷
    row (ToReport Report) "report" 0 alone ∷
    row (ToReport Take) "take" 0 with_octets ∷
    row (ToReport Print) "print" 1 alone ∷
    row (ToReport Count) "count" 2 alone ∷
    row (ToEntry JudgeIn) "judge-in" 1 with_octets ∷
    row (ToEntry ReadIn) "read-in" 3 with_octets ∷
    row (ToEntry TakeIn) "v3-in" 1 with_octets ∷
    row (ToEntry GiveOut) "v3-out" 1 with_octets ∷
    row (ToMerge Plan) "plan" 1 with_octets ∷
    row (ToMerge CheckPlan) "check-plan" 0 with_octets ∷
    row (ToWatch Begin) "begin" 1 alone ∷
    row (ToWatch Chunk) "chunk" 0 with_octets ∷
    row (ToWatch End) "end" 0 alone ∷
    row (ToWatch Buffer) "buffer" 2 alone ∷
    row (ToWatch Claim) "claim" 1 alone ∷
    []

-- a row of the program's table, and one that it may have found
abbrev pub listed : TableRow → Row
listed r = record { name = r.0; spelling = r.1.now; numbers = r.2; octets = bit r.3 with_octets }

abbrev pub lists : Option TableRow → Option Row
lists r = option_map listed r

-- a request of this name with so many words after it
unfoldable pub fits : List ℕ → ℕ → Row → Bool
fits w k r = eqb (r.numbers + r.octets) k && alike w r.spelling

-- the first row that fits
unfoldable pub search : List ℕ → ℕ → List Row → Option Row
search w k [] = None
search w k (r ∷ rs) = pick (fits w k r) (Some r) (search w k rs)

-- the request that a first word names with so many words after it
unfoldable pub row_of : List ℕ → ℕ → Option Row
row_of w k = search w k rows
