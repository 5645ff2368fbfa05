-- The decimal digits of a number, one by one, and how many they are; and what a page holds that was empty before. Assumes nothing.
use mathlib.Core.Path.{◌≡◌, refl, sym, ap, ◌∙◌}
use mathlib.Core.List.{List, [], ◌∷◌, ◌++◌, append-nil}
use Prim.Native.Nat.{ℕ, zero, suc, ◌+◌, ◌-◌, ◌/◌, ◌%◌, ◌≤◌, ◌<◌}
use mathlib.Core.Bool.{Bool, true, false}
use native.Mathlib.Omega.{arith}
use lib.Dec.{ltb}
use lib.ListN.{length, take, set, length-set}
use borrow.Author.Tests.{lt-ltb, le-ltb}
use Rattle.std.proofs.lemmas.List.{length-append, append_assoc, take_more_set}
use Rattle.octets.specs.Pick.{pick}
use Rattle.program_output.specs.Pages.{Page, page, added}
use Rattle.program_output.specs.Digits.{hex_digit_ascii, decimal_in, decimal}
use Rattle.program_output.proofs.PageLaws.{one_fits}

pub decimal_none : (k n : ℕ) (p : Page) → k ≡ 0 → added (decimal_in k n) p ≡ p
unfolding decimal_in added
decimal_none zero n p e = refl
decimal_none (suc k) n p e = absurd (omega arith)

pub decimal_last : (k n : ℕ) → 0 < k → n < 10 → decimal_in k n ≡ hex_digit_ascii n ∷ []
unfolding decimal_in
decimal_last zero n h low = absurd (omega arith)
decimal_last (suc k) n h low = rw (lt-ltb n 10 low)

pub decimal_more : (k n : ℕ) → 0 < k → 10 ≤ n → decimal_in k n ≡ decimal_in (k - 1) (n / 10) ++ (hex_digit_ascii (n % 10) ∷ [])
unfolding decimal_in
decimal_more zero n h ten = absurd (omega arith)
decimal_more (suc k) n h ten =
    let e : suc k - 1 ≡ k = omega arith in
    rw (e, le-ltb n 10 ten)

-- a number that has at most so many digits has no more
either_fits : (t : Bool) (a b : List ℕ) (k : ℕ) → length a ≤ k → length b ≤ k → length (pick t a b) ≤ k
either_fits true a b k h g = h
either_fits false a b k h g = g

pub decimal_fits : (k n : ℕ) → length (decimal_in k n) ≤ k
unfolding decimal_in
decimal_fits zero n = omega arith
decimal_fits (suc k) n =
    let more = decimal_in k (n / 10) ++ (hex_digit_ascii (n % 10) ∷ []) in
    either_fits (ltb n 10) (hex_digit_ascii n ∷ []) more (suc k) (omega arith) (omega (arith, length-append (decimal_in k (n / 10)) (hex_digit_ascii (n % 10) ∷ []), decimal_fits k (n / 10)))

-- text that is added where there is room stands behind what was written
pub added_front : (xs room : List ℕ) (n : ℕ) → n + length xs ≤ length room → (m : ℕ) (r : List ℕ) → page m r ≡ added xs (page n room)
    → (m ≡ n + length xs) × (take m r ≡ take n room ++ xs)
unfolding added
added_front [] room n h m r e = (omega (arith, ap (λ (p : Page). p.used) e), ap (λ (p : Page). take p.used p.octets) e ∙ sym (append-nil (take n room)))
added_front (x ∷ xs) room n h m r e =
    let f = e ∙ ap (added xs) (sym (one_fits x n room (omega arith))) in
    let g = added_front xs (set room n x) (n + 1) (omega (arith, length-set room n x)) m r f in
    (omega (arith, g.0), g.1 ∙ ap (λ (l : List ℕ). l ++ xs) (take_more_set room n x (omega arith)) ∙ append_assoc (take n room) (x ∷ []) xs)

pub decimal_has : (n : ℕ) → length (decimal n) ≤ 20
unfolding decimal
decimal_has n = decimal_fits 20 n
