-- A lent page and how many of its octets are written; text is added as far as there is room. Assumes nothing.
use Rattle.std.specs.Prelude.{ℕ, ◌+◌, List, [], ◌∷◌, ltb, length, set}
use Rattle.octets.specs.Pick.{pick}

pub record Page : Type 0 where
  pub used : ℕ
  pub octets : List ℕ

abbrev pub page : ℕ → List ℕ → Page
page n room = record { used = n; octets = room }

-- an octet after what is written, or nothing where the page is full
unfoldable pub one : ℕ → Page → Page
one x p = pick (ltb p.used (length p.octets)) (page (p.used + 1) (set p.octets p.used x)) p

-- each octet of a text in turn
unfoldable pub added : List ℕ → Page → Page
added [] p = p
added (x ∷ xs) p = added xs (one x p)
