-- What tests of each octet by itself ask of a value before they call it one of its kind. Assumes nothing.
use Rattle.std.specs.Prelude.{ℕ, Bool, true, false, List, eqb, leb, ltb}
use Rattle.numbers.specs.Kinds as kind
use Rattle.octets.specs.Ascii as ascii
use Rattle.octets.specs.Counts.{all_in, count}
use Rattle.octets.specs.Pick.{pick}
use Rattle.property_table.specs.declared.Edition.{Edition}
use Rattle.value_kinds.specs.Octets.{semicolon, neither, holds}
use Rattle.value_kinds.specs.Kinds.{most_of_name, most_of_address}

-- no octet is a or b
abbrev pub lacking : ℕ → ℕ → List ℕ → Bool
lacking a b v = all_in (neither a b) v

-- so many semicolons or more, but fewer than hi, and no backslash
abbrev pub divided : ℕ → ℕ → List ℕ → Bool
divided lo hi v =
    pick (ltb (count (holds semicolon) v) lo) false
    (pick (leb hi (count (holds semicolon) v)) false (lacking ascii.backslash ascii.backslash v))

-- by kind: all values of kind 0; texts and components without backslash and comma; lists of texts without backslash; N and ADR with their
-- semicolons, one less than components, and no backslash. No such test settles a value of any other kind.
unfoldable pub fits_at_once : Edition → ℕ → List ℕ → Bool
fits_at_once e k v =
    pick (eqb k kind.anything) true
    (pick (eqb k kind.text) (lacking ascii.backslash ascii.comma v)
    (pick (eqb k kind.texts) (lacking ascii.backslash ascii.backslash v)
    (pick (eqb k kind.name) (divided 4 (most_of_name e) v)
    (pick (eqb k kind.address) (divided 6 (most_of_address e) v)
    (pick (eqb k kind.organization) (lacking ascii.backslash ascii.comma v) false)))))
