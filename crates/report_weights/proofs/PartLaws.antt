-- What a judgement adds, place by place. Assumes nothing.
use mathlib.Core.Path.{◌≡◌, refl, sym, ap, ◌∙◌}
use mathlib.Core.List.{List, map}
use Prim.Native.Nat.{ℕ, zero, suc, ◌-◌, ◌<◌, ◌≤◌}
use native.Mathlib.Omega.{arith}
use lib.ListN.{length, get_or}
use borrow.Author.Tests.{eq-eqb, ne_eqb}
use Rattle.line_folds.specs.Logical.{logical_lines}
use Rattle.reader.specs.Outcome.{judge_of}
use Rattle.reader.specs.Outcome.{Verdict}
use Rattle.reader.specs.Outcome.{Accepted, Refused}
use Rattle.report_lines.specs.Rows.{one, line_counts}
use Rattle.report_weights.specs.Counts.{counts, refusal_at, total_at, count_at}
use Rattle.report_weights.specs.Parts.{refused_part, accepted_part, part_by, part, weights}
use Rattle.report_weights.proofs.PlaceLaws.{at_refusal, at_property}

-- an upload refused with n
module _ (n : ℕ) where
  pub refused_upload : (p : ℕ) → p ≡ 0 → 1 ≡ refused_part n (count_at p)
  unfolding count_at total_at
  refused_upload p e = rw e

  pub refused_total : (p : ℕ) → (p ≡ 0 → ⊥) → p < 5 → 0 ≡ refused_part n (count_at p)
  unfolding count_at total_at
  refused_total zero e h = absurd (e refl)
  refused_total (suc zero) e h = refl
  refused_total (suc (suc zero)) e h = refl
  refused_total (suc (suc (suc zero))) e h = refl
  refused_total (suc (suc (suc (suc zero)))) e h = refl
  refused_total (suc (suc (suc (suc (suc p))))) e h = absurd (omega arith)

  pub refused_property : (p : ℕ) → 20 ≤ p → 0 ≡ refused_part n (count_at p)
  refused_property p h = rw (at_property p h)

  pub refused_same : (p m : ℕ) → 5 ≤ p → p < 20 → m ≡ refusal_at p → m ≡ n → 1 ≡ refused_part n (count_at p)
  refused_same p m h k e q = rw (at_refusal p h k) (sym (ap one (eq-eqb n (refusal_at p) (sym q ∙ e))))

  pub refused_other : (p m : ℕ) → 5 ≤ p → p < 20 → m ≡ refusal_at p → (m ≡ n → ⊥) → 0 ≡ refused_part n (count_at p)
  refused_other p m h k e q = rw (at_refusal p h k) (sym (ap one (ne_eqb n (refusal_at p) (λ r. q (e ∙ sym r)))))

-- an accepted upload
module _ (k n o : ℕ) (ls : List ℕ) where
  pub accepted_property : (p : ℕ) → 20 ≤ p → get_or ls (p - 20) 0 ≡ accepted_part k n o ls (count_at p)
  accepted_property p h = rw (at_property p h)

  pub accepted_refusal : (p : ℕ) → 5 ≤ p → p < 20 → 0 ≡ accepted_part k n o ls (count_at p)
  accepted_refusal p h g = rw (at_refusal p h g)

  pub accepted_cards : (p : ℕ) → p ≡ 2 → k ≡ accepted_part k n o ls (count_at p)
  unfolding count_at total_at
  accepted_cards p e = rw e

  pub accepted_lines : (p : ℕ) → p ≡ 3 → n ≡ accepted_part k n o ls (count_at p)
  unfolding count_at total_at
  accepted_lines p e = rw e

  pub accepted_octets : (p : ℕ) → p ≡ 4 → o ≡ accepted_part k n o ls (count_at p)
  unfolding count_at total_at
  accepted_octets p e = rw e

  pub accepted_upload : (p : ℕ) → p < 5 → (p ≡ 2 → ⊥) → (p ≡ 3 → ⊥) → (p ≡ 4 → ⊥) → 1 ≡ accepted_part k n o ls (count_at p)
  unfolding count_at total_at
  accepted_upload zero h a b c = refl
  accepted_upload (suc zero) h a b c = refl
  accepted_upload (suc (suc zero)) h a b c = absurd (a refl)
  accepted_upload (suc (suc (suc zero))) h a b c = absurd (b refl)
  accepted_upload (suc (suc (suc (suc zero)))) h a b c = absurd (c refl)
  accepted_upload (suc (suc (suc (suc (suc p))))) h a b c = absurd (omega arith)

-- by the verdict
module _ (i : List ℕ) where
  pub refused_weights : (n p : ℕ) → judge_of i ≡ Refused n p → map (refused_part n) counts ≡ weights i
  unfolding weights part
  refused_weights n p e = sym (ap (λ (v : Verdict). map (part_by v i) counts) e)

  pub accepted_weights : (k n : ℕ) (ls : List ℕ) → judge_of i ≡ Accepted k n → ls ≡ line_counts (logical_lines i)
      → map (accepted_part k n (length i) ls) counts ≡ weights i
  unfolding weights part
  accepted_weights k n ls e q =
      ap (λ (l : List ℕ). map (accepted_part k n (length i) l) counts) q ∙ sym (ap (λ (v : Verdict). map (part_by v i) counts) e)
