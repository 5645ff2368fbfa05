-- What a label stands for, by REFERENCE, Labels: RFC 6350 changes nothing, RFC 6868 reads three pairs. Assumes nothing.
use Rattle.std.specs.Prelude.{ℕ, Bool, false, ◌&&◌, ◌||◌, List, [], ◌∷◌, eqb, get_or}
use Rattle.octets.specs.Ascii as ascii
use Rattle.octets.specs.Pick.{pick}
use Rattle.octets.specs.Scan.{gather}
use Rattle.label_carets.specs.declared.Rule.{Rule}
use Rattle.label_carets.specs.declared.Rule.TheVariants.{Rfc6350, Rfc6868}

-- what may follow the caret of a pair: `n`, a caret or an apostrophe
unfoldable pub code : ℕ → Bool
code b = eqb b ascii.small_n || (eqb b ascii.caret || eqb b ascii.apostrophe)

-- the octet that such a pair stands for: a newline for `n`, a quote mark for an apostrophe, a caret for a caret
unfoldable pub meant : ℕ → ℕ
meant b = pick (eqb b ascii.small_n) ascii.lf (pick (eqb b ascii.apostrophe) ascii.quote b)

-- a pair starts here
abbrev pub pair_at : Rule → List ℕ → Bool
pair_at Rfc6350 l = false
pair_at Rfc6868 l = eqb (get_or l 0 0) ascii.caret && code (get_or l 1 0)

-- how many octets the pair or the octet has that stands here
unfoldable pub passed : Rule → List ℕ → ℕ
passed r l = pick (pair_at r l) 2 1

-- the octet that it stands for
unfoldable pub standing : Rule → List ℕ → ℕ
standing r l = pick (pair_at r l) (meant (get_or l 1 0)) (get_or l 0 0)

-- what a label stands for
unfoldable pub decoded : Rule → List ℕ → List ℕ
decoded r l = gather (passed r) (λ (w : List ℕ). standing r w ∷ []) l 0
