-- What is known of a card: which lines it has had so far, and what a line or its END does to it, by refusals 9 to 12 of REFERENCE, Refusals.
-- Assumes nothing.
use Rattle.std.specs.Prelude.{ℕ, zero, suc, ◌+◌, ◌-◌, ◌/◌, ◌%◌, ◌^◌, ◌<◌, ◌≤◌, Bool, true, false, not, ◌&&◌, ◌||◌, List, [], ◌∷◌, eqb, get_or, set, replicate}
use Rattle.std.proofs.Math.Option.{Option, none, some}
use Rattle.std.specs.Int.Bits.{bit_or}
use Rattle.numbers.specs.Limits as limit
use Rattle.numbers.specs.Properties as property
use Rattle.numbers.specs.Refusals as refusal
use Rattle.octets.specs.Pick.{pick}
use Rattle.property_table.specs.Rows.{once_at}

-- what is known of the card that is being read
pub record Card : Type 0 where
  -- how far it has come
  pub phase : ℕ
  -- the flags of the properties marked *1 that stand in it so far
  pub seen : ℕ
  -- of each of these properties the ALTID value of its first line, where there is one
  pub tags : List (Option (List ℕ))
  -- an FN line, a MEMBER line, a KIND line with the value group
  pub has_fn : Bool
  pub has_member : Bool
  pub is_group : Bool
  -- the cards that have ended, and the lines that were judged
  pub cards : ℕ
  pub lines : ℕ

-- the card after a line, or the refusal's number and its place in the input, or its number and the octet of the unfolded line
pub data Step : Type 0 where
  Next : Card → Step
  Refused : ℕ → ℕ → Step
  Flawed : ℕ → ℕ → Step

-- the counts of a card's state within an input that may still go on: cards that have ended, and lines
abbrev pub Counted : ℕ → ℕ → Type 0
Counted cards lines = (cards ≤ lines) × (lines < limit.octets)

-- the phases of a card: BEGIN has not come, BEGIN has come and VERSION not yet, VERSION has come
abbrev pub before_begin : ℕ
before_begin = 0

abbrev pub before_version : ℕ
before_version = 1

abbrev pub inside : ℕ
inside = 2

-- how many properties are marked *1, those of edition two with them
abbrev pub singles : ℕ
singles = 10

-- no ALTID value
abbrev pub untagged : List (Option (List ℕ))
untagged = replicate singles none

-- before the first line of an input
abbrev pub fresh_card : Card
fresh_card = record { phase = before_begin; seen = 0; tags = untagged; has_fn = false; has_member = false; is_group = false; cards = 0; lines = 0 }

-- 9: BEGIN first and VERSION second, neither of them later
unfoldable pub in_order : ℕ → ℕ → Bool
in_order phase row = pick (eqb phase before_begin) (eqb row property.begin) (pick (eqb phase before_version) (eqb row property.version) (not (eqb row property.begin) && not (eqb row property.version)))

-- the flag of the k-th property marked *1, counted from 1; 0 for none
unfoldable pub flag_of : ℕ → ℕ
flag_of zero = 0
flag_of (suc k) = 2 ^ k

-- the flag of a row: 0 where it is not marked *1
unfoldable pub once_flag : ℕ → ℕ
once_flag row = flag_of (once_at row)

-- the flag stands among those seen
unfoldable pub is_seen : ℕ → ℕ → Bool
is_seen b seen = not (eqb b 0) && eqb (seen / b % 2) 1

-- after BEGIN comes VERSION, after VERSION and each later line another
unfoldable pub phase_after : ℕ → ℕ
phase_after row = pick (eqb row property.begin) before_version inside

-- octet for octet
unfoldable pub equal : List ℕ → List ℕ → Bool
equal [] [] = true
equal [] (y ∷ ys) = false
equal (x ∷ xs) [] = false
equal (x ∷ xs) (y ∷ ys) = eqb x y && equal xs ys

-- two ALTID values are one; a line with no ALTID is of no instance but its own
unfoldable pub same_tag : Option (List ℕ) → Option (List ℕ) → Bool
same_tag (some a) (some b) = equal a b
same_tag (some a) none = false
same_tag none b = false

-- the tag of the k-th property marked *1, counted from 1
unfoldable pub tag_of : List (Option (List ℕ)) → ℕ → Option (List ℕ)
tag_of ts k = get_or ts (k - 1) none

-- the tags after the first line of the k-th property marked *1; a line of any other property leaves them
unfoldable pub tagged : List (Option (List ℕ)) → ℕ → Option (List ℕ) → List (Option (List ℕ))
tagged ts zero altid = ts
tagged ts (suc k) none = ts
tagged ts (suc k) (some v) = set ts k (some v)

-- 10: the line starts a second instance of a property marked *1
unfoldable pub second_instance : Card → ℕ → Option (List ℕ) → Bool
second_instance c row altid = is_seen (once_flag row) c.seen && not (same_tag (tag_of c.tags (once_at row)) altid)

-- the state after a line of the row that is no END, with these tags; group: its value is `group` in any case
abbrev pub going : Card → List (Option (List ℕ)) → ℕ → Bool → Card
going c tags row group = record {
  phase = phase_after row;
  seen = bit_or c.seen (once_flag row);
  tags = tags;
  has_fn = c.has_fn || eqb row property.fn;
  has_member = c.has_member || eqb row property.member;
  is_group = c.is_group || (eqb row property.kind && group);
  cards = c.cards;
  lines = c.lines + 1;
}

-- the first line of a property marked *1 leaves its tag
unfoldable pub line_card : Card → ℕ → Option (List ℕ) → Bool → Card
line_card c row altid group = going c (pick (is_seen (once_flag row) c.seen) c.tags (tagged c.tags (once_at row) altid)) row group

-- a line of the row that is no END, with this ALTID value, where it has one
unfoldable pub noted : Card → ℕ → ℕ → Option (List ℕ) → Bool → Step
noted c at row altid group = pick (second_instance c row altid) (Refused refusal.second at) (Next (line_card c row altid group))

-- the state after END
abbrev pub end_card : Card → Card
end_card c = record { phase = before_begin; seen = 0; tags = untagged; has_fn = false; has_member = false; is_group = false; cards = c.cards + 1; lines = c.lines + 1 }

-- END: 11 where the card has no FN, 12 where it has a MEMBER and no KIND line with the value group
unfoldable pub closed : Card → ℕ → Step
closed c at =
    pick c.has_fn
    (pick (c.has_member && not c.is_group) (Refused refusal.member at)
    (Next (end_card c)))
    (Refused refusal.no_fn at)
