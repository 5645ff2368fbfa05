-- The flags of the properties marked *1: each row has its own, and a flag is set exactly after a line of its row. Assumes nothing.
use mathlib.Core.Path.{◌≡◌, refl, sym, ap, ◌∙◌}
use mathlib.Core.Bool.{Bool, true, false, not, ◌&&◌, ◌||◌}
use Prim.Native.Nat.{ℕ, zero, suc, ◌-◌, ◌<◌, ◌/◌, ◌%◌, ◌^◌}
use native.Mathlib.Omega.{arith}
use lib.Dec.{eqb, ltb}
use lib.Bits.{bit_or, or_shr, or_mod, or_zero_l}
use borrow.Author.Tests.{ltb-true, eqb-true, eq-eqb}
use Rattle.octets.specs.Pick.{pick}
use Rattle.property_table.specs.Rows.{rows, newer, all_rows, row_at, single, marks, once_at}
use Rattle.octets.specs.Ascii.{octets}
use Rattle.octets.proofs.Upto.{upto, alike}
use Rattle.card_state.specs.State.{flag_of, once_flag, is_seen}

small : (a b : ℕ) → a < 2 → b < 2 → eqb (bit_or a b) 1 ≡ (eqb a 1 || eqb b 1)
small zero b h g = ap (λ (n : ℕ). eqb n 1) (or_zero_l b)
small (suc zero) zero h g = refl
small (suc zero) (suc zero) h g = refl
small (suc zero) (suc (suc b)) h g = absurd (omega arith)
small (suc (suc a)) b h g = absurd (omega arith)

-- a flag of two numbers' flags together
flag : (s b k : ℕ) → eqb (bit_or s b / 2 ^ k % 2) 1 ≡ (eqb (s / 2 ^ k % 2) 1 || eqb (b / 2 ^ k % 2) 1)
flag s b k =
    let e : bit_or s b / 2 ^ k % 2 ≡ bit_or (s / 2 ^ k % 2) (b / 2 ^ k % 2) = ap (λ (n : ℕ). n % 2) (or_shr s b k) ∙ or_mod (s / 2 ^ k) (b / 2 ^ k) 1 in
    ap (λ (n : ℕ). eqb n 1) e ∙ small (s / 2 ^ k % 2) (b / 2 ^ k % 2) (omega arith) (omega arith)

at_place : (row : ℕ) → row < 44 → pick (single row) (once_flag row) 1 ≡ pick (single row) (2 ^ (once_at row - 1)) 1
unfolding upto single marks row_at rows newer all_rows octets once_at flag_of once_flag
at_place row h = alike (λ j. pick (single j) (once_flag j) 1) (λ j. pick (single j) (2 ^ (once_at j - 1)) 1) 44 refl row h

marked : (row : ℕ) → row < 44 → not (eqb (once_flag row) 0) ≡ single row
unfolding upto single marks row_at rows newer all_rows octets once_at flag_of once_flag
marked row h = alike (λ j. not (eqb (once_flag j) 0)) single 44 refl row h

-- a row's flag is in no other row's
own : (r q : ℕ) → r < 44 → q < 44 → (single r && eqb (once_flag q / once_flag r % 2) 1) ≡ (single r && eqb q r)
unfolding upto single marks row_at rows newer all_rows octets once_at flag_of once_flag
own r q h g =
    alike (λ i. single r && eqb (once_flag i / once_flag r % 2) 1) (λ i. single r && eqb i r) 44
    (alike (λ j. upto (λ i. single j && eqb (once_flag i / once_flag j % 2) 1) 0 44) (λ j. upto (λ i. single j && eqb i j) 0 44) 44 refl r h) q g

-- nothing is seen at first
pub none_seen : (row : ℕ) → row < 44 → is_seen (once_flag row) 0 ≡ false
unfolding upto single marks row_at rows newer all_rows once_at flag_of once_flag is_seen
none_seen row h = alike (λ j. is_seen (once_flag j) 0) (λ j. false) 44 refl row h

module _ (s r q : ℕ) (h : r < 44) (g : q < 44) where
  seen_by : (t : Bool) → single r ≡ t → (t && eqb (bit_or s (once_flag q) / once_flag r % 2) 1) ≡ (t && eqb (s / once_flag r % 2) 1 || (t && eqb q r))
  seen_by true e =
      let p : once_flag r ≡ 2 ^ (once_at r - 1) = rw e at (at_place r h) in
      let f : eqb (bit_or s (once_flag q) / once_flag r % 2) 1 ≡ (eqb (s / once_flag r % 2) 1 || eqb (once_flag q / once_flag r % 2) 1) = rw p (flag s (once_flag q) (once_at r - 1)) in
      f ∙ ap (λ (b : Bool). eqb (s / once_flag r % 2) 1 || b) (rw e at (own r q h g))
  seen_by false e = refl

  -- after a line of row q
  pub seen_after : is_seen (once_flag r) (bit_or s (once_flag q)) ≡ (is_seen (once_flag r) s || (single r && eqb q r))
  unfolding is_seen
  seen_after = rw (marked r h) (seen_by (single r) refl)

-- a row marked *1 has a number of its own among them
pub once_some : (row : ℕ) → row < 44 → single row ≡ true → 0 < once_at row
unfolding upto single marks row_at rows newer all_rows octets once_at
once_some row h e = ltb-true 0 (once_at row) (alike (λ j. ltb 0 (once_at j)) single 44 refl row h ∙ e)

number_own : (r q : ℕ) → r < 44 → q < 44 → (single r && eqb (once_at r) (once_at q)) ≡ (single r && eqb r q)
unfolding upto single marks row_at rows newer all_rows octets once_at
number_own r q h g =
    alike (λ i. single r && eqb (once_at r) (once_at i)) (λ i. single r && eqb r i) 44
    (alike (λ j. upto (λ i. single j && eqb (once_at j) (once_at i)) 0 44) (λ j. upto (λ i. single j && eqb j i) 0 44) 44 refl r h) q g

pub once_own : (r q : ℕ) → r < 44 → q < 44 → single r ≡ true → once_at r ≡ once_at q → r ≡ q
once_own r q h g e f =
    let t : eqb (once_at r) (once_at q) ≡ eqb r q = rw e at (number_own r q h g) in
    eqb-true r q (sym t ∙ eq-eqb (once_at r) (once_at q) f)
