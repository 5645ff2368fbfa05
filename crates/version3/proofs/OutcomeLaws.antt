-- The outcome of taking in and giving out, test by test. Assumes nothing.
use mathlib.Core.Path.{◌≡◌, sym}
use mathlib.Core.Bool.{true, false}
use mathlib.Core.List.{List}
use Prim.Native.Nat.{ℕ, ◌<◌, ◌≤◌}
use lib.ListN.{length}
use borrow.Author.Tests.{lt-ltb, le-ltb, eq-eqb, ne_eqb}
use Rattle.octets.specs.Room.{refuse, fill_bounded}
use Rattle.line_breaks.specs.Lone.{first_lone, ends_cr_lf}
use Rattle.line_folds.specs.Logical.{raw_lines}
use Rattle.version3_parameters.specs.declared.Way.{Way}
use Rattle.version3_judge.specs.declared.Set.{Set}
use Rattle.version3_judge.specs.Judge.{Next, ended, fresh_set, judge_lines}
use Rattle.version3.specs.Card.{card_text}
use Rattle.version3.specs.Outcome.{concluded, convert_outcome}

pub bound_over : (xs room : List ℕ) → 16384 < length xs → refuse 16 16384 room ≡ fill_bounded xs room
unfolding fill_bounded
bound_over xs room h = simp (lt-ltb 16384 (length xs) h)

module _ (w : Way) (i room : List ℕ) where
  pub convert_long : 16384 < length i → refuse 1 16384 room ≡ convert_outcome w i room
  unfolding convert_outcome
  convert_long h = sym (rw (lt-ltb 16384 (length i) h))

  module _ (s : length i ≤ 16384) where
    pub convert_empty : length i ≡ 0 → refuse 2 0 room ≡ convert_outcome w i room
    unfolding convert_outcome
    convert_empty e = sym (rw (le-ltb 16384 (length i) s, eq-eqb (length i) 0 e))

    module _ (n : length i ≡ 0 → ⊥) where
      pub convert_lone : (p : ℕ) → p ≡ first_lone i → p < length i → refuse 3 p room ≡ convert_outcome w i room
      unfolding convert_outcome
      convert_lone p e h = sym (rw (le-ltb 16384 (length i) s, ne_eqb (length i) 0 n, ← e, lt-ltb p (length i) h))

      module _ (p : ℕ) (e : p ≡ first_lone i) (h : length i ≤ p) where
        pub convert_unended : ends_cr_lf i ≡ false → refuse 4 (length i) room ≡ convert_outcome w i room
        unfolding convert_outcome
        convert_unended q = sym (rw (le-ltb 16384 (length i) s, ne_eqb (length i) 0 n, ← e, le-ltb p (length i) h, q))

        pub convert_on : ends_cr_lf i ≡ true → concluded w (judge_lines w (raw_lines i) 0 fresh_set) i room ≡ convert_outcome w i room
        unfolding convert_outcome
        convert_on q = sym (rw (le-ltb 16384 (length i) s, ne_eqb (length i) 0 n, ← e, le-ltb p (length i) h, q))

-- after the last line
module _ (w : Way) (c : Set) (i room : List ℕ) where
  pub conclude_open : ended c.phase ≡ false → refuse 9 (length i) room ≡ concluded w (Next c) i room
  conclude_open e = sym (rw e)

  pub conclude_done : ended c.phase ≡ true → fill_bounded (card_text w i) room ≡ concluded w (Next c) i room
  conclude_done e = sym (rw e)
