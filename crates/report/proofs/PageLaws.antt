-- A text that fits a page stands there whole. Assumes nothing.
use mathlib.Core.Path.{◌≡◌, sym, ap, ◌∙◌}
use mathlib.Core.List.{List, [], ◌∷◌, ◌++◌, append_assoc}
use Prim.Native.Nat.{ℕ, suc, ◌+◌, ◌≤◌}
use native.Mathlib.Nat.{add-zero}
use native.Mathlib.Numerals.{add-one}
use native.Mathlib.Omega.{arith}
use lib.ListN.{length, take, drop, set, length-set, length-append, take-append-drop}
use lib.Seq.{take_at, take-suc-set, drop-set-lt}
use Rattle.program_output.specs.Pages.{Page, page, added}
use Rattle.program_output.proofs.PageLaws.{one_fits}

-- t from n on
added_fits : (t : List ℕ) (n : ℕ) (room : List ℕ) → n + length t ≤ length room
    → added t (page n room) ≡ page (n + length t) (take n room ++ (t ++ drop (n + length t) room))
unfolding added
added_fits [] n room h = rw add-zero (ap (page n) (sym (take-append-drop n room)))
added_fits (x ∷ xs) n room h =
    let step = one_fits x n room (omega arith) in
    let rest = added_fits xs (n + 1) (set room n x) (rw length-set (omega arith)) in
    let count : n + 1 + length xs ≡ n + suc (length xs) = omega arith in
    let front : take (n + 1) (set room n x) ≡ take n room ++ (x ∷ []) = rw add-one (take-suc-set room n x (omega arith)) in
    let behind : drop (n + suc (length xs)) (set room n x) ≡ drop (n + suc (length xs)) room = drop-set-lt (n + suc (length xs)) room n x (omega arith) in
    ap (added xs) (sym step) ∙ rest ∙ rw (front, count, behind) (ap (page (n + suc (length xs))) (append_assoc (take n room) (x ∷ []) (xs ++ drop (n + suc (length xs)) room)))

pub added_front : (t room : List ℕ) → length t ≤ length room → added t (page 0 room) ≡ page (length t) (t ++ drop (length t) room)
added_front t room h =
    let n : 0 + length t ≡ length t = omega arith in
    rw n at (added_fits t 0 room (omega arith))

-- what a page holds to whose start a text was added
pub record Holds (t : List ℕ) (n : ℕ) (room : List ℕ) : Type 0 where
  pub count : n ≡ length t
  pub fits : n ≤ length room
  pub octets : take n room ≡ t

pub holds : (t : List ℕ) (n : ℕ) (room page₀ : List ℕ) → page n room ≡ added t (page 0 page₀) → length t ≤ length page₀ → Holds t n room
holds t n room page₀ e h =
    let q = e ∙ added_front t page₀ h in
    let used : n ≡ length t = ap (λ (p : Page). p.used) q in
    let all : room ≡ t ++ drop (length t) page₀ = ap (λ (p : Page). p.octets) q in
    record {
      count = used;
      fits = omega (arith, ap length all, length-append t (drop (length t) page₀));
      octets = ap (take n) all ∙ take_at t (drop (length t) page₀) n (sym used);
    }
