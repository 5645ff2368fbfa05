-- Whether all elements of a list from a place on are one value, found element by element. Assumes nothing.
use mathlib.Core.Path.{◌≡◌, sym, ◌∙◌}
use mathlib.Core.Bool.{true, false}
use mathlib.Core.List.{List}
use Prim.Native.Nat.{ℕ, ◌+◌, ◌≤◌, ◌<◌}
use native.Mathlib.Numerals.{add-one}
use lib.Dec.{eqb}
use lib.ListN.{length, get_or, drop, drop_of_length-le}
use lib.Seq.{drop-cons}
use borrow.Author.Tests.{eq-eqb, ne_eqb}
use Rattle.octets.specs.Pick.{pick}
use Rattle.console_entries.specs.Rooms.{all}

-- a search from a place of a list for an element other than v: those before i are v
module _ (v : ℕ) (s : List ℕ) (from i : ℕ) (e : all v (drop from s) ≡ all v (drop i s)) where
  all_at : i < length s → all v (drop i s) ≡ pick (eqb (get_or s i 0) v) (all v (drop (i + 1) s)) false
  unfolding all
  all_at h = rw (add-one, drop-cons s i 0)

  pub all_next : i < length s → get_or s i 0 ≡ v → all v (drop from s) ≡ all v (drop (i + 1) s)
  all_next h x = e ∙ rw (all_at h, eq-eqb (get_or s i 0) v x)

  pub all_not : i < length s → (get_or s i 0 ≡ v → ⊥) → false ≡ all v (drop from s)
  all_not h n = sym (e ∙ rw (all_at h, ne_eqb (get_or s i 0) v n))

  pub all_end : length s ≤ i → true ≡ all v (drop from s)
  unfolding all
  all_end h = sym (e ∙ rw (drop_of_length-le s h))
