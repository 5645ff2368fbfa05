-- How the state of a card is kept: the ALTID values stand end to end in a store of octets, and the state has the place of each. Assumes nothing.
use Rattle.std.specs.Prelude.{ℕ, zero, suc, ◌+◌, ◌-◌, ◌*◌, ◌/◌, ◌%◌, ◌≤◌, ◌≡◌, Bool, false, ◌&&◌, ◌||◌, List, [], ◌∷◌, Result, Ok, Err, map, eqb, take, drop, set}
use Rattle.std.proofs.Math.Option.{Option, none, some}
use Rattle.std.specs.Int.Bits.{bit_or}
use Rattle.numbers.specs.Properties as property
use Rattle.card_state.specs.State.{Card, Step, Next, Refused, Flawed, before_begin, once_flag, phase_after}
use Rattle.card_state.specs.declared.tags.Tags.{Tags}
use Rattle.card_state.specs.declared.Card.{Card as Kept}
use Rattle.numbers.specs.Refusals.{number}
use Rattle.numbers.specs.declared.refusal.Reason.{Reason}
use Rattle.card_state.specs.declared.Flaw.{Flaw}
use Rattle.card_state.specs.declared.Flaw.TheVariants.{Placed, Octet}

-- the card after a line, or why the line is refused: as the code answers it
abbrev pub KeptStep : Type 0
KeptStep = Result Kept Flaw

pattern abbrev pub next : Kept → KeptStep
next c = Ok c

pattern abbrev pub refused : Reason → ℕ → KeptStep
refused n p = Err (Placed n p)

pattern abbrev pub flawed : Reason → ℕ → KeptStep
flawed n o = Err (Octet n o)

-- the places, in the order of the properties marked *1
unfoldable pub places_of : Tags → List ℕ
places_of t = t.kind ∷ t.n ∷ t.bday ∷ t.anniversary ∷ t.gender ∷ t.prodid ∷ t.rev ∷ t.uid ∷ t.created ∷ t.language ∷ []

-- more than the octets of any input
abbrev pub span : ℕ
span = 32768

-- the place of a value by its start in the store and its length
abbrev pub place_of : ℕ → ℕ → ℕ
place_of from n = from * span + n + 1

-- where the value of a place ends; 0 is the place of no value
unfoldable pub end_of : ℕ → ℕ
end_of zero = 0
end_of (suc p) = p / span + p % span

-- the value of a place
unfoldable pub tag_at : List ℕ → ℕ → Option (List ℕ)
tag_at store zero = none
tag_at store (suc p) = some (take (p % span) (drop (p / span) store))

-- the values of these places end within the first n octets of the store
unfoldable pub Inside : ℕ → List ℕ → Type 0
Inside n [] = Unit {0}
Inside n (p ∷ ps) = (end_of p ≤ n) × Inside n ps

abbrev pub Lies : Kept → Type 0
Lies c = Inside c.used (places_of c.tags)

-- the state that is kept so with a store
unfoldable pub card_of : Kept → List ℕ → Card
card_of c store = record {
  phase = c.phase;
  seen = c.seen;
  tags = map (tag_at store) (places_of c.tags);
  has_fn = c.has_fn;
  has_member = c.has_member;
  is_group = c.is_group;
  cards = c.cards;
  lines = c.lines;
}

unfoldable pub step_of : List ℕ → KeptStep → Step
step_of store (next c) = Next (card_of c store)
step_of store (refused n p) = Refused (number n) p
step_of store (flawed n o) = Flawed (number n) o

-- a state whose values end within the first n octets, or a refusal
unfoldable pub Holds : ℕ → KeptStep → Type 0
Holds n (next c) = Lies c × (c.used ≤ n)
Holds n (refused k p) = Unit {0}
Holds n (flawed k o) = Unit {0}

abbrev pub no_tags : Tags
no_tags = record { kind = 0; n = 0; bday = 0; anniversary = 0; gender = 0; prodid = 0; rev = 0; uid = 0; created = 0; language = 0 }

abbrev pub fresh_kept : Kept
fresh_kept = record { phase = before_begin; seen = 0; tags = no_tags; used = 0; has_fn = false; has_member = false; is_group = false; cards = 0; lines = 0 }

-- the state after a line of the row that is no END and keeps no value
unfoldable pub gone_on : Kept → ℕ → Bool → Kept
gone_on c row group = record {
  phase = phase_after row;
  seen = bit_or c.seen (once_flag row);
  tags = c.tags;
  used = c.used;
  has_fn = c.has_fn || eqb row property.fn;
  has_member = c.has_member || eqb row property.member;
  is_group = c.is_group || (eqb row property.kind && group);
  cards = c.cards;
  lines = c.lines + 1;
}

-- r is c with a value of n octets kept behind the others for the k-th property marked *1
pub record Keeps (c : Kept) (k n : ℕ) (r : Kept) : Type 0 where
  pub phase : r.phase ≡ c.phase
  pub seen : r.seen ≡ c.seen
  pub places : places_of r.tags ≡ set (places_of c.tags) (k - 1) (place_of c.used n)
  pub used : r.used ≡ c.used + n
  pub has_fn : r.has_fn ≡ c.has_fn
  pub has_member : r.has_member ≡ c.has_member
  pub is_group : r.is_group ≡ c.is_group
  pub cards : r.cards ≡ c.cards
  pub lines : r.lines ≡ c.lines
