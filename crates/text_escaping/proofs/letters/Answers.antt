-- `text_escaping::letters` meets its contract. Assumes nothing.
use mathlib.Core.Path.{◌≡◌, refl, sym, ◌∙◌}
use mathlib.Core.List.{List}
use Prim.Native.Nat.{ℕ, ◌<◌, ◌≤◌}
use native.Mathlib.Omega.{arith}
use lib.Dec.{ltb}
use lib.ListN.{set, replicate, get_or, get_or-eq_default}
use borrow.Author.Tests.{ltb-true, ltb-false, ne_eqb}
use Rattle.octets.specs.Pick.{pick}
use Rattle.octets.proofs.Bools.{by}
use Rattle.octets.proofs.Upto.{upto, along, entries}
use Rattle.text_marks.specs.Marks.{special, marked}
use Rattle.text_escaping.specs.Escaped.{letter, Letters}
use Rattle.text_escaping.proofs.letters.Goals as goal

table : List ℕ
table = set (set (set (set (replicate 256 0) 10 110) 44 44) 59 59) 92 92

right : ℕ → ℕ
right k = pick (marked k) (letter k) 0

-- past its end the table has 0, and no octet there is marked
beyond : (k : ℕ) → 256 ≤ k → get_or table k 0 ≡ right k
unfolding table right marked special
beyond k h =
    get_or-eq_default table 0 h
    ∙ sym (simp (ne_eqb k 92 (λ (e : k ≡ 92). omega arith), ne_eqb k 44 (λ (e : k ≡ 44). omega arith), ne_eqb k 59 (λ (e : k ≡ 59). omega arith), ne_eqb k 10 (λ (e : k ≡ 10). omega arith)))

within : (k : ℕ) → k < 256 → get_or table k 0 ≡ right k
unfolding table right marked special letter along upto
within k h = entries (λ (x : ℕ). x) right table 256 refl k h

pub returns : goal.returns
unfolding Letters table right
returns c = λ k. by (ltb k 256) (λ e. within k (ltb-true k 256 e)) (λ e. beyond k (ltb-false k 256 e))
