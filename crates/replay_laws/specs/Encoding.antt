-- Calls as a script, and which lists of calls have one. Assumes nothing.
use Rattle.std.specs.Prelude.{ℕ, ◌<◌, ◌≤◌, ◌≡◌, List, [], ◌∷◌, ◌++◌, length}
use Rattle.numbers.specs.Limits as limit
use Rattle.desk_ledger.specs.Ticks.{judging, showing, counting, releasing, Ticked, opens_at, adds_at, asks_of}
use Rattle.replay_script.specs.Names as call
use Rattle.replay_script.specs.Numerals.{two_octets, four_octets}
use Rattle.replay_script.specs.Scripts.{calls, decode}

abbrev pub encode_call : Ticked → List ℕ
encode_call (opens_at m τ) = call.opens ∷ four_octets m ++ four_octets τ
encode_call (adds_at t q τ) = call.adds ∷ four_octets t ++ four_octets τ ++ two_octets (length q) ++ q
encode_call (asks_of t judging) = call.judges ∷ four_octets t
encode_call (asks_of t showing) = call.shows ∷ four_octets t
encode_call (asks_of t counting) = call.asks ∷ four_octets t
encode_call (asks_of t releasing) = call.releases ∷ four_octets t

unfoldable pub encode : List Ticked → List ℕ
encode [] = []
encode (c ∷ cs) = encode_call c ++ encode cs

-- each is an octet
unfoldable pub Octets : List ℕ → Type 0
Octets [] = Unit {0}
Octets (x ∷ xs) = (x < 256) × Octets xs

-- chunks are of at most 65,535 octets, tickets, identifiers and ticks of 32 bits
abbrev pub CallFits : Ticked → Type 0
CallFits (opens_at m τ) = (m < limit.word) × (τ < limit.word)
CallFits (adds_at t q τ) = (t < limit.word) × (τ < limit.word) × (length q ≤ 65535) × Octets q
CallFits (asks_of t x) = t < limit.word

unfoldable pub Fit : List Ticked → Type 0
Fit [] = Unit {0}
Fit (c ∷ cs) = CallFits c × Fit cs

-- every list of such calls is what some script decodes to
pub record Scripted (cs : List Ticked) : Type 0 where
  pub script : List ℕ
  pub octets : Octets script
  pub decodes : decode script ≡ calls cs
