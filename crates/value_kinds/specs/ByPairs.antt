-- What a look at each octet and the one before it asks of a value before it calls it one of its kind. Assumes nothing.
use Rattle.std.specs.Prelude.{ℕ, Bool, true, false, List, eqb}
use Rattle.numbers.specs.Kinds as kind
use Rattle.octets.specs.Pick.{pick}
use Rattle.text_marks.specs.Pairs.{settled}

-- texts, lists of texts and components whose escapes are whole and none of a backslash; a comma stands bare in a list alone
unfoldable pub fits_by_pairs : ℕ → List ℕ → Bool
fits_by_pairs k v =
    pick (eqb k kind.text) (settled false 0 v)
    (pick (eqb k kind.texts) (settled true 0 v)
    (pick (eqb k kind.organization) (settled false 0 v) false))
