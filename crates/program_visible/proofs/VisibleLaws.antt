-- Text made visible, character by character. Assumes nothing.
use mathlib.Core.Path.{◌≡◌, sym, ◌∙◌}
use mathlib.Core.Bool.{Bool, true, false}
use mathlib.Core.List.{List, [], ◌++◌}
use Prim.Native.Nat.{ℕ, ◌+◌, ◌<◌, ◌≤◌}
use native.Mathlib.Omega.{arith}
use native.Mathlib.Nat.{add-zero}
use lib.Dec.{eqb}
use lib.ListN.{length, drop, get_or, take}
use lib.Seq.{get_or-drop}
use borrow.Author.Tests.{eq-eqb, ne_eqb}
use Rattle.octets.specs.Pick.{pick}
use Rattle.utf8.specs.Characters.{allowed, unit}
use Rattle.utf8.proofs.Chars.{unit_inside}
use Rattle.octets.proofs.Scans.{gather_step, gather_end}
use Rattle.program_visible.specs.Visible.{in_hex, hidden, character, passed, standing, visible}

module _ (s : List ℕ) (i n : ℕ) (e : n ≡ character (drop i s)) (h : i < length s) where
  -- an octet in digits
  pub visible_octet : n ≡ 0 → visible (drop i s) ≡ in_hex (get_or s i 0) ++ visible (drop (i + 1) s)
  unfolding visible passed standing
  visible_octet z =
      let t : eqb (character (drop i s)) 0 ≡ true = eq-eqb _ _ (sym e ∙ z) in
      gather_step passed standing s i 1 h (rw t) (omega arith) ∙ rw (t, get_or-drop i s 0 0, add-zero)

  -- a character as it is
  pub visible_character : (n ≡ 0 → ⊥) → visible (drop i s) ≡ take n (drop i s) ++ visible (drop (i + n) s)
  unfolding visible passed standing
  visible_character z =
      let t : eqb (character (drop i s)) 0 ≡ false = ne_eqb _ _ (λ q. z (e ∙ q)) in
      gather_step passed standing s i n h (rw t (sym e)) (omega arith) ∙ rw (t, e)

pub visible_end : (s : List ℕ) (i : ℕ) → length s ≤ i → visible (drop i s) ≡ []
unfolding visible
visible_end s i h = gather_end passed standing s i h

-- a character lies within the text
module _ (s : List ℕ) (i n : ℕ) where
  inside : (b : Bool) → n ≡ pick b 0 (unit (allowed false) (drop i s)) → i ≤ length s → i + n ≤ length s
  inside true e h = omega arith
  inside false e h = unit_inside (allowed false) s i n e h

  pub character_inside : n ≡ character (drop i s) → i ≤ length s → i + n ≤ length s
  unfolding character
  character_inside e h = inside (hidden (get_or (drop i s) 0 0) (get_or (drop i s) 1 0) (get_or (drop i s) 2 0)) e h

-- the character at a place, by the octets that stand there
pub character_at : (s : List ℕ) (i : ℕ)
    → character (drop i s) ≡ pick (hidden (get_or s i 0) (get_or s (i + 1) 0) (get_or s (i + 2) 0)) 0 (unit (allowed false) (drop i s))
unfolding character
character_at s i = simp (get_or-drop, add-zero)
