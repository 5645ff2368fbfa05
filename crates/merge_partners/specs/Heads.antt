-- Heads, digests, tags and seats: how lines of one property, and marks that can join two lines, are found fast. Assumes nothing.
use Rattle.std.specs.Prelude.{ℕ, zero, suc, ◌+◌, ◌*◌, ◌%◌, ◌<◌, ◌≤◌, ◌≡◌, Bool, true, false, not, List, [], ◌∷◌, Option, Some, None, eqb, ltb, length, get_or}
use Rattle.numbers.specs.Limits as limit
use Rattle.numbers.specs.Fields as field
use Rattle.numbers.specs.Properties as property
use Rattle.octets.specs.Pick.{pick}
use Rattle.octets.specs.Cases.{lower}
use Rattle.merge_sides.specs.Lines.{one, field_at, name_at, same_property}
use Rattle.merge_partners.specs.declared.Headed.{Headed}
use Rattle.merge_partners.specs.Keys.{no_key, number_at, line}

-- the factor of a digest, and what it stays below
abbrev pub factor : ℕ
factor = 32749

abbrev pub modulus : ℕ
modulus = 281474976710597

-- a digest with one octet more
unfoldable pub with_octet : ℕ → ℕ → ℕ
with_octet digest b = (digest * factor + lower b) % modulus

-- and with these
unfoldable pub digest_from : ℕ → List ℕ → ℕ
digest_from digest [] = digest
digest_from digest (x ∷ xs) = digest_from (with_octet digest x) xs

-- a number that lines of one property share: the property's, or for number 0 the digest of the name
unfoldable pub digest_of : List ℕ → List ℕ → ℕ → ℕ
digest_of c rs i = pick (eqb (field_at rs i field.property) property.other) (digest_from 0 (name_at c rs i)) (field_at rs i field.property)

-- digests of the first lines of a card
abbrev pub Digests : List ℕ → List ℕ → List ℕ → Type 0
Digests c rs digests = (i : ℕ) → i < length digests → get_or digests i 0 ≡ digest_of c rs i

-- the head of line j of a card: the first of k lines from i on of the first card that has its property; 4,096 for none
unfoldable pub head_from : List ℕ → List ℕ → List ℕ → List ℕ → ℕ → ℕ → ℕ → ℕ
head_from ca ra c rs j i zero = limit.lines
head_from ca ra c rs j i (suc k) = pick (same_property ca ra i c rs j) i (head_from ca ra c rs j (i + 1) k)

-- what is known of the line that was looked at last, if there is one: its head among n lines
abbrev pub Known : List ℕ → List ℕ → ℕ → List ℕ → List ℕ → Option Headed → Type 0
Known ca ra n c rs None = Unit {0}
Known ca ra n c rs (Some a) = a.head ≡ head_from ca ra c rs a.line 0 n

-- the tag of a mark, of its line's head and its key
unfoldable pub tag_of : ℕ → ℕ → ℕ
tag_of head key = pick (ltb head 4095) (pick (ltb key 1048576) (head * 1048576 + key) no_key) no_key

-- of the second card's mark k
unfoldable pub tag_at : List ℕ → List ℕ → ℕ → List ℕ → List ℕ → List ℕ → List ℕ → ℕ → ℕ
tag_at ca ra n cb rb marks keys k = tag_of (head_from ca ra cb rb (number_at marks k line) 0 n) (get_or keys k 0)

-- how a line stands as a partner: its number and 1 more, 4,097 for a line that no card has
unfoldable pub seat_of : ℕ → ℕ
seat_of n = pick (ltb n limit.lines) (n + 1) 4097

-- the line of the mark k
unfoldable pub seat_at : List ℕ → ℕ → ℕ
seat_at marks k = seat_of (number_at marks k line)

-- the partner of line i as it stands, 0 for none
unfoldable pub partner_of : List ℕ → ℕ → ℕ
partner_of p i = pick (ltb i limit.lines) (pick (ltb limit.lines (get_or p i 0)) 0 (get_or p i 0)) 0

-- a mark of this tag whose line is not the partner already
unfoldable pub is_new : ℕ → ℕ → ℕ → ℕ → Bool
is_new tag seat own partner = pick (eqb tag own) (not (eqb seat partner)) false

-- how many of n marks from k on
unfoldable pub count_new : List ℕ → List ℕ → ℕ → ℕ → ℕ → ℕ → ℕ
count_new tags seats own partner k zero = 0
count_new tags seats own partner k (suc n) = one (is_new (get_or tags k 0) (get_or seats k 0) own partner) + count_new tags seats own partner (k + 1) n

-- tags and seats of the second card's marks, which have these keys
abbrev pub Tagged : List ℕ → List ℕ → ℕ → List ℕ → List ℕ → List ℕ → List ℕ → List ℕ → List ℕ → Type 0
Tagged ca ra n cb rb marks keys tags seats =
    (length tags ≡ length keys) × (length seats ≡ length keys) × (length keys ≤ limit.lines)
    × ((k : ℕ) → k < length keys → get_or tags k 0 ≡ tag_at ca ra n cb rb marks keys k)
    × ((k : ℕ) → k < length keys → get_or seats k 0 ≡ seat_at marks k)

-- each mark of the key whose line has the property of line i has the tag
abbrev pub Sifts : List ℕ → List ℕ → ℕ → ℕ → ℕ → List ℕ → List ℕ → List ℕ → List ℕ → List ℕ → List ℕ → Type 0
Sifts ca ra i key tag cb rb marks keys tags seats =
    (length tags ≡ length keys) × (length seats ≡ length keys) × (length keys ≤ limit.lines)
    × ((k : ℕ) → k < length keys → get_or keys k 0 ≡ key → same_property ca ra i cb rb (number_at marks k line) ≡ true → get_or tags k 0 ≡ tag)
    × ((k : ℕ) → k < length keys → get_or seats k 0 ≡ seat_at marks k)
