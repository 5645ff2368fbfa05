-- An input octet by octet, as it arrives: how it ends so far, the first lone CR or LF that is known, and where a line has ended. Assumes nothing.
use Rattle.std.specs.Prelude.{ℕ, suc, Bool, not, ◌&&◌, ◌||◌, List, [], ◌∷◌, eqb}
use Rattle.octets.specs.Ascii as ascii
use Rattle.octets.specs.Pick.{pick}

-- how the octets so far end: with another octet (or there are none), with CR, with CR LF
abbrev pub after_other : ℕ
after_other = 0

abbrev pub after_cr : ℕ
after_cr = 1

abbrev pub after_cr_lf : ℕ
after_cr_lf = 2

-- how they end after one more
unfoldable pub tail_step : ℕ → ℕ → ℕ
tail_step t x = pick (eqb x ascii.cr) after_cr (pick (eqb t after_cr && eqb x ascii.lf) after_cr_lf after_other)

unfoldable pub tail_from : ℕ → List ℕ → ℕ
tail_from t [] = t
tail_from t (x ∷ xs) = tail_from (tail_step t x) xs

-- the first lone CR or LF that these octets make known, where t says how those before them end: 0 is the octet before them, then they are counted
-- from 1; one more than their count where none is known. A CR is known to be lone by the octet after it
unfoldable pub lone_from : ℕ → List ℕ → ℕ
lone_from t [] = 1
lone_from t (x ∷ xs) =
    pick (eqb t after_cr) (pick (eqb x ascii.lf) (suc (lone_from after_cr_lf xs)) 0)
    (pick (eqb x ascii.lf) 1 (suc (lone_from (tail_step t x) xs)))

unfoldable pub blank : ℕ → Bool
blank x = eqb x ascii.space || eqb x ascii.tab

-- the place of the octet that ends the line at hand, or the octets' count where it has not ended: an octet other than space or tab that follows its
-- CR LF; t says how the octets before these end
unfoldable pub next_from : ℕ → List ℕ → ℕ
next_from t [] = 0
next_from t (x ∷ xs) = pick (eqb t after_cr_lf && not (blank x)) 0 (suc (next_from (tail_step t x) xs))
