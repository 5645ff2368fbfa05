-- Which count stands at which place: by one computed test of all places. Assumes nothing.
use mathlib.Core.Path.{◌≡◌, refl, sym, ap, subst, ◌∙◌}
use mathlib.Core.List.{List, [], ◌∷◌, map}
use Prim.Native.Nat.{ℕ, zero, suc, ◌+◌, ◌-◌, ◌<◌, ◌≤◌}
use native.Mathlib.Omega.{arith}
use lib.ListN.{length, get_or}
use lib.Dec.{ltb}
use lib.Seq.{ext_get_or}
use denote.Param.Members.{Mut}
use borrow.Author.Tests.{ltb-true, ltb-false, lt-ltb, le-ltb}
use Rattle.std.specs.Fn.{Called}
use Rattle.std.specs.Array.{IsFromFnResultFrom}
use Rattle.octets.proofs.Bools.{by}
use Rattle.octets.proofs.Upto.{upto, alike}
use Rattle.report_lines.specs.Rows.{numbers_from}
use Rattle.report_weights.specs.Counts.{Count, uploads, refused_with, lines_of, counts, refusal_at, total_at, count_at}

computed : upto (λ p. get_or counts p uploads) 0 59 ≡ upto count_at 0 59
unfolding upto counts numbers_from count_at total_at refusal_at
computed = refl

pub count_at_lem : (p : ℕ) → p < 59 → get_or counts p uploads ≡ count_at p
count_at_lem p h = alike (λ p. get_or counts p uploads) count_at 59 computed p h

pub counts_length : length counts ≡ 59
unfolding counts numbers_from
counts_length = refl

map_at : (f : Count → ℕ) (cs : List Count) (p : ℕ) → p < length cs → get_or (map f cs) p 0 ≡ f (get_or cs p uploads)
map_at f [] p h = absurd (omega arith)
map_at f (c ∷ cs) zero h = refl
map_at f (c ∷ cs) (suc p) h = map_at f cs p (omega arith)

map_length : (f : Count → ℕ) (cs : List Count) → length (map f cs) ≡ length cs
map_length f [] = refl
map_length f (c ∷ cs) = ap suc (map_length f cs)

-- a number for each count
module _ (f : Count → ℕ) where
  pub each_length : length (map f counts) ≡ 59
  each_length = map_length f counts ∙ counts_length

  pub each_at : (p : ℕ) → p < 59 → get_or (map f counts) p 0 ≡ f (count_at p)
  each_at p h = map_at f counts p (omega (arith, counts_length)) ∙ ap f (count_at_lem p h)

  pub each_all : (w : List ℕ) → length w ≡ 59 → ((p : ℕ) → p < 59 → get_or w p 0 ≡ f (count_at p)) → w ≡ map f counts
  each_all w n h = ext_get_or 0 w (map f counts) (n ∙ sym each_length) (λ p lt. let low : p < 59 = omega arith in h p low ∙ sym (each_at p low))

-- calls of a closure that answers v at each place, one after the other
module _ {F : Type 0} (g : Mut F (ℕ × Unit {0}) ℕ) (f : F) (v : ℕ → ℕ) (n : ℕ) (call : (p y : ℕ) (q : F) → p < n → Called g f (p, tt) y q → (q ≡ f) × (y ≡ v p)) where
  pub each_call : (w : List ℕ) (i k : ℕ) → i + k ≤ n → IsFromFnResultFrom g f w i k → (p : ℕ) → i ≤ p → p < i + k → get_or w p 0 ≡ v p
  each_call w i zero h r p le lt = absurd (omega arith)
  each_call w i (suc k) h (q, y, at, made, rest) p le lt =
      let one = call i y q (omega arith) made in
      by (ltb i p)
      (λ t. each_call w (i + 1) k (omega arith) (subst (λ (e : F). IsFromFnResultFrom g e w (i + 1) k) one.0 rest) p (omega (arith, ltb-true i p t)) (omega arith))
      (λ t. let same : i ≡ p = omega (arith, ltb-false i p t) in rw (← same) (at.1 0 ∙ one.1))

pub at_total : (p : ℕ) → p < 5 → count_at p ≡ total_at p
unfolding count_at
at_total p h = rw (lt-ltb p 5 h)

pub at_refusal : (p : ℕ) → 5 ≤ p → p < 20 → count_at p ≡ refused_with (refusal_at p)
unfolding count_at
at_refusal p h k = rw (le-ltb p 5 h, lt-ltb p 20 k)

pub at_property : (p : ℕ) → 20 ≤ p → count_at p ≡ lines_of (p - 20)
unfolding count_at
at_property p h = rw (le-ltb p 5 (omega arith), le-ltb p 20 h)
