-- `card_state::flag_of` meets its contract. Assumes nothing.
use mathlib.Core.Path.{◌≡◌, refl, sym, ap, ◌∙◌}
use Prim.Native.Nat.{ℕ, zero, suc, ◌-◌, ◌*◌, ◌%◌, ◌^◌, ◌<◌}
use native.Mathlib.Omega.{arith}
use Rattle.octets.proofs.Upto.{upto, alike}
use Rattle.card_state.specs.State.{flag_of}
use borrow.Author.Rules.{rules}
use Rattle.card_state.proofs.flag_of.Goals as goal

kept : (j : ℕ) → j < 32 → 1 * 2 ^ j % 2 ^ 32 ≡ 2 ^ j
unfolding upto
kept j h = alike (λ i. 1 * 2 ^ i % 2 ^ 32) (λ i. 2 ^ i) 32 refl j h

counted : (k : ℕ) → (k ≡ 0 → ⊥) → flag_of k ≡ 2 ^ (k - 1)
unfolding flag_of
counted zero h = absurd (h refl)
counted (suc k) h = let back : suc k - 1 ≡ k = omega arith in ap (λ (j : ℕ). 2 ^ j) (sym back)

pub returns-then-k-eq0 : goal.returns-then-k-eq0
unfolding flag_of
returns-then-k-eq0 c = search rules

pub returns : goal.returns
returns c = kept (c.args.k - 1) (omega (arith, c.requires)) ∙ sym (counted c.args.k c.if-k-eq0.false)
