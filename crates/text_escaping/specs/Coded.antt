-- Writing in pairs by a table of letters: an octet that has a letter becomes the lead octet and its letter. Assumes nothing.
use Rattle.std.specs.Prelude.{ℕ, List, [], ◌∷◌, ◌++◌, eqb, get_or}
use Rattle.octets.specs.Pick.{pick}

-- what is written for an octet: itself where its letter is 0
unfoldable pub in_code : ℕ → List ℕ → ℕ → List ℕ
in_code lead t b = pick (eqb (get_or t b 0) 0) (b ∷ []) (lead ∷ get_or t b 0 ∷ [])

-- a text with each octet so written
unfoldable pub coded : ℕ → List ℕ → List ℕ → List ℕ
coded lead t [] = []
coded lead t (x ∷ xs) = in_code lead t x ++ coded lead t xs
