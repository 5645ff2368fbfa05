-- A script: calls one after the other in octets. A call is an octet that names it, four with the ticket (of open with the tram's
-- identifier), of open and add four with the tick and, of add, two with the chunk's length and the chunk. Assumes nothing.
use Rattle.std.specs.Prelude.{ℕ, zero, suc, pred, ◌+◌, List, [], ◌∷◌, leb, eqb, length, get_or, take, drop}
use Rattle.octets.specs.Pick.{pick}
use Rattle.octets.specs.Scan.{scan}
use Rattle.octets.specs.Classes.{within}
use Rattle.desk_ledger.specs.Ticks.{Ask, judging, showing, counting, releasing, Ticked, opens_at, adds_at, asks_of}
use Rattle.replay_script.specs.Names as call
use Rattle.replay_script.specs.Numerals.{two_at, four_at}

-- how many octets the call at the start of s needs
unfoldable pub needed : List ℕ → ℕ
needed s = pick (eqb (get_or s 0 0) call.adds) (call.chunk + two_at s call.opening) (pick (eqb (get_or s 0 0) call.opens) call.opening call.length)

-- how many octets the call at the start of s has; 0 where it is unknown or cut off
unfoldable pub width : List ℕ → ℕ
width s = pick (within call.opens call.releases (get_or s 0 0)) (pick (leb (needed s) (length s)) (needed s) 0) 0

-- a call that changes nothing, by its name
abbrev pub query_of : ℕ → Ask
query_of b = pick (eqb b call.judges) judging (pick (eqb b call.shows) showing counting)

-- a call with no tick, by its name
abbrev pub ask_of : ℕ → Ask
ask_of b = pick (eqb b call.releases) releasing (query_of b)

-- the call at the start of s, which has a width
unfoldable pub call_of : List ℕ → Ticked
call_of s =
    pick (eqb (get_or s 0 0) call.opens) (opens_at (four_at s 1) (four_at s call.length))
    (pick (eqb (get_or s 0 0) call.adds) (adds_at (four_at s 1) (take (two_at s call.opening) (drop call.chunk s)) (four_at s call.length))
    (asks_of (four_at s 1) (ask_of (get_or s 0 0))))

-- past k octets of a call that was begun, the calls of s
unfoldable pub calls_in : List ℕ → ℕ → List Ticked
calls_in [] k = []
calls_in (x ∷ xs) zero = call_of (x ∷ xs) ∷ calls_in xs (pred (width (x ∷ xs)))
calls_in (x ∷ xs) (suc k) = calls_in xs k

-- the calls of a script, or the octet at which its first call starts that is unknown or cut off
pub data Decoded : Type 0 where
  calls : List Ticked → Decoded
  broken : ℕ → Decoded

unfoldable pub decode : List ℕ → Decoded
decode s = pick (eqb (scan width s 0) (length s)) (calls (calls_in s 0)) (broken (scan width s 0))
