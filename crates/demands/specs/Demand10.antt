-- Version 3 sets: which cards are taken in and given out and as what, what is refused, and what is kept. Assumes nothing.
use Rattle.std.specs.Prelude.{ℕ, ◌≡◌, List, ◌↔◌, take}
use Rattle.octets.specs.Ascii.{octets}
use Rattle.octets.specs.Room.{filled, fill_bounded}
use Rattle.octets.specs.Room.{Wrote}
use Rattle.line_parser.specs.Grammar.{Line, Each}
use Rattle.reader.specs.Outcome.{judge_of}
use Rattle.reader.specs.Outcome.{Accepted}
use Rattle.reader_grammar.specs.Cards.{Readable}
use Rattle.reader_grammar.specs.Inputs.{Written}
use Rattle.version3.specs.Outcome.{take_outcome, give_outcome}
use Rattle.version3_laws.specs.Says.{Says}
use Rattle.version3_laws.specs.Params.{Nowhere, Preferred}
use Rattle.version3_laws.specs.Lines.{TakenIn, GivenOut}
use Rattle.version3_laws.specs.Cards.{card_octets, Takes, Gives}
use Rattle.version3_laws.specs.Refusals.{RefusedIn, RefusedOut}
use Rattle.version3_laws.specs.Keeps.{Keeps}
use Rattle.version3_laws.specs.Examples.{old_card, new_card, back_card}
use Rattle.demands.specs.Demand1.{Filling}

pub record Demand10 : Type 0 where
  -- in: octets are written exactly where the input is a card that is taken in as them; a refusal is answered exactly for a reason of the table, and
  -- leaves the room as it was
  pub takes : (i room : List ℕ) (n : ℕ) (after : List ℕ) → (take_outcome i room ≡ filled (Wrote n) after) ↔ Takes i room n after
  pub refuses_in : (i room : List ℕ) → Filling (take_outcome i room) room (RefusedIn i room)
  -- out: the same back
  pub gives : (i room : List ℕ) (n : ℕ) (after : List ℕ) → (give_outcome i room ≡ filled (Wrote n) after) ↔ Gives i room n after
  pub refuses_out : (i room : List ℕ) → Filling (give_outcome i room) room (RefusedOut i room)
  -- "the 4.0 reader accepts all that is taken in", as one card
  pub accepted : (i room after : List ℕ) (n : ℕ) → take_outcome i room ≡ filled (Wrote n) after → (m : ℕ) × (judge_of (take n after) ≡ Accepted 1 m)
  -- taken in and given out, it is refused for its length or for room at most, and keeps what its values say, filled components aside
  pub kept : (i room after : List ℕ) (n : ℕ) → take_outcome i room ≡ filled (Wrote n) after
      → (xs : List Line) × (zs : List Line) × Written xs i × Each Readable xs × Keeps xs zs × ((r : List ℕ) → give_outcome (take n after) r ≡ fill_bounded (card_octets zs) r)
  -- a value says one thing
  pub one_meaning : (k : ℕ) (v : List ℕ) (cs ds : List (List (List ℕ))) → Says k v cs → Says k v ds → cs ≡ ds
  -- in, out and in again gives the same octets
  pub in_again : (i room after out back : List ℕ) (n m : ℕ) → take_outcome i room ≡ filled (Wrote n) after → give_outcome (take n after) out ≡ filled (Wrote m) back
      → (r : List ℕ) → take_outcome (take m back) r ≡ fill_bounded (take n after) r
  -- a line without pref, or without PREF, keeps its parameters
  pub types_in : (x y : Line) → TakenIn x y → (Preferred x.params → ⊥) → y.params ≡ x.params
  pub types_out : (x y : Line) → GivenOut x y → Nowhere (octets "PREF") x.params → y.params ≡ x.params
  -- the worked example
  pub taken_example : (room : List ℕ) → take_outcome old_card room ≡ fill_bounded new_card room
  pub given_example : (room : List ℕ) → give_outcome new_card room ≡ fill_bounded back_card room
