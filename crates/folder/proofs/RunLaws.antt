-- Runs of lines that stay as they are: such a line is its own folded form, and what is left from the start of a run on. Assumes nothing.
use mathlib.Core.Path.{◌≡◌, refl, sym, ap, ◌∙◌}
use mathlib.Core.Bool.{Bool, true, false}
use mathlib.Core.List.{List, [], ◌∷◌, ◌++◌, map, append_assoc, append-nil}
use Prim.Native.Nat.{ℕ, ◌+◌, ◌-◌, ◌<◌, ◌≤◌}
use native.Mathlib.Omega.{arith}
use lib.Dec.{ltb}
use lib.ListN.{length, take, drop}
use lib.Seq.{take-add, drop-drop}
use borrow.Author.Tests.{le-ltb, ltb-true, ltb-false}
use Rattle.octets.specs.Pick.{pick}
use Rattle.octets.specs.Slices.{part}
use Rattle.line_folds.specs.Logical.{logical_lines}
use Rattle.folder_line.specs.Pieces.{pieces, folded, folded_lines, Clean}
use Rattle.folder_line.proofs.Turns.{last_piece}
use Rattle.folder_raising.specs.Walk.{raised, written}
use Rattle.folder_raising.specs.declared.Style.{Style}
use Rattle.folder_raising.specs.declared.Style.TheVariants.{AsRead, Raised}
use Rattle.folder_raising.specs.declared.Spot.TheVariants.{Name}
use Rattle.folder_raising.proofs.Kept.{ends, raised_folded}
use Rattle.folder.proofs.TextLaws.{none_left, nothing}

-- what is claimed only of true holds of false
pub only_true : {A : Type 0} → false ≡ true → A
only_true e = absurd (let z : ◌≡◌ {A = ℕ} 0 1 = cc in omega arith)

-- a line and the CR LF behind it
pub with_end : (s : List ℕ) (at end : ℕ) → at ≤ end → drop end s ≡ 13 ∷ 10 ∷ drop (end + 2) s → take (end - at) (drop at s) ++ (13 ∷ 10 ∷ []) ≡ take (end + 2 - at) (drop at s)
with_end s at end le mark =
    let n : end - at + 2 ≡ end + 2 - at = omega arith in
    let k : at + (end - at) ≡ end = omega arith in
    sym
    (ap (λ (i : ℕ). take i (drop at s)) (sym n)
    ∙ take-add (end - at) 2 (drop at s)
    ∙ ap (λ (r : List ℕ). take (end - at) (drop at s) ++ r) (ap (take 2) (drop-drop (end - at) at s ∙ ap (λ (i : ℕ). drop i s) k ∙ mark)))

-- a line of at most 75 octets is its own folded form
pub short_stands : (l : List ℕ) → Clean l → length l ≤ 75 → folded l ≡ l ++ (13 ∷ 10 ∷ [])
unfolding folded pieces
short_stands l c h = last_piece l 75 c h

-- a line that is its own folded form, and whose names stay, is so in a style
pub styled_stands : (st : Style) (u l : List ℕ) → folded u ≡ l ++ (13 ∷ 10 ∷ []) → written st l ≡ l → folded (written st u) ≡ l ++ (13 ∷ 10 ∷ [])
unfolding raised
styled_stands AsRead u l e k = e
styled_stands Raised u l e k =
    sym (raised_folded u) ∙ ap raised e ∙ ends Name l ∙ ap (λ (r : List ℕ). r ++ (13 ∷ 10 ∷ [])) k

-- what is left: the run from `from` up to `at`, and the lines from there on
abbrev pub rest_from : (List ℕ → List ℕ) → List ℕ → ℕ → ℕ → List ℕ
rest_from f s from at = take (at - from) (drop from s) ++ folded_lines (map f (logical_lines (drop at s)))

-- the line from `at` up to b joins the run
pub run_on : (f : List ℕ → List ℕ) (s : List ℕ) (from at b : ℕ) → from ≤ at → at ≤ b
    → folded_lines (map f (logical_lines (drop at s))) ≡ take (b - at) (drop at s) ++ folded_lines (map f (logical_lines (drop b s)))
    → rest_from f s from at ≡ rest_from f s from b
run_on f s from at b h l e =
    let n : at - from + (b - at) ≡ b - from = omega arith in
    let k : from + (at - from) ≡ at = omega arith in
    let rest : List ℕ = folded_lines (map f (logical_lines (drop b s))) in
    ap (λ (r : List ℕ). take (at - from) (drop from s) ++ r) e
    ∙ sym (append_assoc (take (at - from) (drop from s)) (take (b - at) (drop at s)) rest)
    ∙ ap (λ (r : List ℕ). r ++ rest)
    (sym
    (ap (λ (i : ℕ). take i (drop from s)) (sym n)
    ∙ take-add (at - from) (b - at) (drop from s)
    ∙ ap (λ (r : List ℕ). take (at - from) (drop from s) ++ take (b - at) r) (drop-drop (at - from) from s ∙ ap (λ (i : ℕ). drop i s) k)))

-- behind a line that was written nothing is in the run
pub run_none : (f : List ℕ → List ℕ) (s : List ℕ) (at : ℕ) → folded_lines (map f (logical_lines (drop at s))) ≡ rest_from f s at at
run_none f s at = let z : at - at ≡ 0 = omega arith in rw z refl

-- at the end the run is left
pub run_end : (f : List ℕ → List ℕ) (s : List ℕ) (from at : ℕ) → from ≤ at → (from < at → at ≤ length s) → length s ≤ at
    → rest_from f s from at ≡ part s from at
run_end f s from at h k l =
    ap (λ (ls : List (List ℕ)). take (at - from) (drop from s) ++ folded_lines (map f ls)) (none_left s at l)
    ∙ ap (λ (r : List ℕ). take (at - from) (drop from s) ++ r) nothing
    ∙ append-nil (take (at - from) (drop from s))
    ∙ go (ltb from at) refl
  where
    go : (t : Bool) → ltb from at ≡ t → take (at - from) (drop from s) ≡ part s from at
    go true e = let n = k (ltb-true from at e) in simp (le-ltb (length s) at n, le-ltb at from h)
    go false e = let z : at - from ≡ 0 = omega (arith, ltb-false from at e) in rw z (by (ltb (length s) at) (ltb at from))
      where
        by : (a b : Bool) → ◌≡◌ {A = List ℕ} [] (pick a [] (pick b [] []))
        by true b = refl
        by false true = refl
        by false false = refl
