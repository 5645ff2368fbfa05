-- The step to a component's end, and an escape that is open, at a place of a list. Assumes nothing.
use mathlib.Core.Path.{◌≡◌, sym}
use mathlib.Core.Bool.{Bool}
use mathlib.Core.List.{List}
use Prim.Native.Nat.{ℕ, ◌+◌, ◌-◌, ◌<◌, ◌≤◌}
use native.Mathlib.Nat.{add-zero}
use native.Mathlib.Numerals.{add-one}
use lib.ListN.{length, get_or, drop, length-drop, drop_of_length-le}
use lib.Seq.{get_or-drop, drop-cons}
use Rattle.cabbook_positions.specs.Components.{bare_at, bare_step, opened, open_after, split_at, splits}

pub at_place : (semicolons : Bool) (s : List ℕ) (i k : ℕ) → bare_at semicolons (get_or s i 0) (length s - i) ≡ k → k ≡ bare_step semicolons (drop i s)
unfolding bare_step
at_place semicolons s i k e = sym (rw (get_or-drop i s 0 0, add-zero, length-drop i s) e)

module _ (waits : Bool) (s : List ℕ) (i : ℕ) where
  pub open_step : i < length s → open_after waits (drop i s) ≡ open_after (opened waits (get_or s i 0)) (drop (i + 1) s)
  unfolding open_after
  open_step h = rw (add-one, drop-cons s i 0 h)

  pub open_end : length s ≤ i → open_after waits (drop i s) ≡ waits
  unfolding open_after
  open_end h = rw (drop_of_length-le s h)

  pub splits_step : i < length s → splits waits (drop i s) ≡ split_at waits (get_or s i 0) + splits (opened waits (get_or s i 0)) (drop (i + 1) s)
  unfolding splits
  splits_step h = rw (add-one, drop-cons s i 0 h)

  pub splits_end : length s ≤ i → splits waits (drop i s) ≡ 0
  unfolding splits
  splits_end h = rw (drop_of_length-le s h)
