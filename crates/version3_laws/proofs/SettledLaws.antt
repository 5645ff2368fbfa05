-- Taking in and giving out write octets, or refuse and leave the room as it was. Assumes nothing.
use mathlib.Core.Bool.{Bool, true, false}
use mathlib.Core.List.{List}
use Prim.Native.Nat.{ℕ}
use lib.Dec.{eqb, ltb}
use lib.ListN.{length}
use Rattle.octets.specs.Pick.{pick}
use Rattle.octets.specs.Room.{Filled, filled, refuse, overlay, fill, fill_bounded}
use Rattle.octets.specs.Room.{Wrote}
use Rattle.line_breaks.specs.Lone.{first_lone, ends_cr_lf}
use Rattle.line_folds.specs.Logical.{raw_lines}
use Rattle.reader.specs.Outcome.{judge_of}
use Rattle.reader.specs.Outcome.{Verdict}
use Rattle.reader.specs.Outcome.{Accepted, Refused as Rejected}
use Rattle.version3_parameters.specs.declared.Way.{Way}
use Rattle.version3_parameters.specs.declared.Way.TheVariants.{Outward}
use Rattle.version3_judge.specs.Judge.{Step, Next, Refused, Flawed, ended, fresh_set, judge_lines}
use Rattle.version3.specs.Card.{card_text}
use Rattle.version3.specs.Outcome.{concluded, convert_outcome, give_by, give_outcome}

-- an outcome is one of the two
pub data Settled (room : List ℕ) : Filled → Type 0 where
  refused : (n p : ℕ) → Settled room (refuse n p room)
  wrote : (n : ℕ) (after : List ℕ) → Settled room (filled (Wrote n) after)

module _ (room : List ℕ) where
  either : (b : Bool) (f g : Filled) → Settled room f → Settled room g → Settled room (pick b f g)
  either true f g s t = s
  either false f g s t = t

  filled_settled : (t : List ℕ) → Settled room (fill_bounded t room)
  unfolding fill_bounded fill
  filled_settled t =
      either (ltb 16384 (length t)) _ _ (refused 16 16384)
      (either (ltb (length room) (length t)) _ _ (refused 15 (length t)) (wrote (length t) (overlay t room)))

  concluded_settled : (w : Way) (s : Step) (i : List ℕ) → Settled room (concluded w s i room)
  concluded_settled w (Next c) i = either (ended c.phase) _ _ (filled_settled (card_text w i)) (refused 9 (length i))
  concluded_settled w (Refused n p) i = refused n p
  concluded_settled w (Flawed n o) i = refused n o

  pub convert_settled : (w : Way) (i : List ℕ) → Settled room (convert_outcome w i room)
  unfolding convert_outcome
  convert_settled w i =
      either (ltb 16384 (length i)) _ _ (refused 1 16384)
      (either (eqb (length i) 0) _ _ (refused 2 0)
      (either (ltb (first_lone i) (length i)) _ _ (refused 3 (first_lone i))
      (either (ends_cr_lf i) _ _ (concluded_settled w (judge_lines w (raw_lines i) 0 fresh_set) i) (refused 4 (length i)))))

  give_by_lem : (v : Verdict) (i : List ℕ) → Settled room (give_by v i room)
  give_by_lem (Accepted k n) i = convert_settled Outward i
  give_by_lem (Rejected n p) i = refused n p

  pub give_settled : (i : List ℕ) → Settled room (give_outcome i room)
  unfolding give_outcome
  give_settled i = give_by_lem (judge_of i) i
