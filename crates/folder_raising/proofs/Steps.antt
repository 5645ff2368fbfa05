-- One turn of the loop that raises a line in its place. Assumes nothing.
use mathlib.Core.Path.{◌≡◌, refl, sym, ap, ◌∙◌}
use mathlib.Core.List.{List, [], ◌∷◌, ◌++◌, append-nil}
use Prim.Native.Nat.{ℕ, suc, ◌+◌, ◌<◌, ◌≤◌}
use native.Mathlib.Numerals.{add-one}
use native.Mathlib.Omega.{arith}
use lib.ListN.{length, get_or, take, drop, set, take-append-drop}
use lib.Seq.{take-suc, drop-cons, append_snoc, take-set-le, drop-set-lt, get_or-set_same, take-length, drop-length}
use Rattle.folder_raising.specs.Walk.{after, turned, raised_from, raised}
use Rattle.folder_raising.specs.declared.Spot.{Spot}
use Rattle.folder_raising.specs.declared.Spot.TheVariants.{Name, Past}

-- behind the colon nothing changes
pub past : (l : List ℕ) → raised_from Past l ≡ l
unfolding raised_from
past [] = refl
past (x ∷ xs) = ap (λ (r : List ℕ). x ∷ r) (past xs)

-- the octets before i are raised, and the line stands at spot there
pub record Upto (d₀ d : List ℕ) (spot : Spot) (i : ℕ) : Type 0 where
  pub whole : raised d₀ ≡ take i d ++ raised_from spot (drop i d)
  pub same : length d ≡ length d₀

pub start : (d : List ℕ) → Upto d d Name 0
unfolding raised
start d = record { whole = refl; same = refl }

set_length : (d : List ℕ) (i a : ℕ) → length (set d i a) ≡ length d
set_length d i a = lib.ListN.length-set d i a

pub step : (d₀ d : List ℕ) (spot : Spot) (i : ℕ) → i < length d → Upto d₀ d spot i
    → Upto d₀ (set d i (turned spot (get_or d i 0))) (after spot (get_or d i 0)) (i + 1)
unfolding raised_from
step d₀ d spot i h u =
    let x : ℕ = get_or d i 0 in
    let e : List ℕ = set d i (turned spot x) in
    let front : take (suc i) e ≡ take i d ++ (turned spot x ∷ []) =
    take-suc e i 0 (rw (set_length d i (turned spot x)) h)
    ∙ ap (λ (a : ℕ). take i e ++ (a ∷ [])) (get_or-set_same d i (turned spot x) 0 h)
    ∙ ap (λ (t : List ℕ). t ++ (turned spot x ∷ [])) (take-set-le i d i (turned spot x) (omega arith)) in
    let rest : drop (suc i) e ≡ drop (suc i) d = drop-set-lt (suc i) d i (turned spot x) (omega arith) in
    record {
      whole = u.whole ∙ ap (λ (t : List ℕ). take i d ++ raised_from spot t) (drop-cons d i 0 h)
          ∙ sym (append_snoc (take i d) (turned spot x) (raised_from (after spot x) (drop (suc i) d)))
          ∙ rw add-one (ap (λ (t : List ℕ). t ++ raised_from (after spot x) (drop (suc i) d)) (sym front) ∙ ap (λ (t : List ℕ). take (suc i) e ++ raised_from (after spot x) t) (sym rest));
      same = set_length d i (turned spot x) ∙ u.same;
    }

-- behind the colon nothing is left to raise
pub stop : (d₀ d : List ℕ) (spot : Spot) (i : ℕ) → spot ≡ Past → Upto d₀ d spot i → d ≡ raised d₀
stop d₀ d spot i q u = sym (take-append-drop i d) ∙ ap (λ (t : List ℕ). take i d ++ t) (sym (past (drop i d))) ∙ ap (λ (s : Spot). take i d ++ raised_from s (drop i d)) (sym q) ∙ sym u.whole

pub done : (d₀ d : List ℕ) (spot : Spot) (i : ℕ) → length d ≤ i → i ≤ length d → Upto d₀ d spot i → d ≡ raised d₀
unfolding raised_from
done d₀ d spot i h k u =
    let q : i ≡ length d = omega arith in
    sym (u.whole ∙ rw (q, take-length, drop-length) (append-nil d))
