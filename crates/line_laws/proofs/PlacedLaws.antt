-- Where an octet of a logical line stands in its raw line: the place that is counted is the one that the plain words give, and no other. Assumes nothing.
use mathlib.Core.Path.{◌≡◌, refl, sym, ap, subst, ◌∙◌}
use mathlib.Core.List.{List, [], ◌∷◌, ◌++◌}
use Prim.Native.Nat.{ℕ, zero, suc, ◌+◌, ◌≤◌}
use native.Mathlib.Nat.{zero-add}
use native.Mathlib.Omega.{arith}
use lib.ListN.{length, get_or}
use Rattle.line_folds.specs.Places.{kept_from, place_of}
use Rattle.line_laws.specs.Lined.{Blank, Folded, end, octet, fold, At, ends, here, next, past, Unbroken, Lined, and_then}
use Rattle.line_laws.proofs.LinedLaws.{fold_here, inner_fold}

-- the place of octet o, counted from i on in a list that ends at n
abbrev counted : ℕ → List ℕ → ℕ → ℕ → ℕ
counted i r o n = get_or (kept_from i r 0) o n

-- one octet further, and past a fold
counted_next : (i b : ℕ) (r : List ℕ) (o n : ℕ) → (b ≡ 13 → ⊥) × (b ≡ 10 → ⊥) → counted i (b ∷ r) (suc o) n ≡ counted (i + 1) r o n
unfolding kept_from
counted_next i b r o n h = rw (inner_fold b r h)

counted_here : (i b : ℕ) (r : List ℕ) (n : ℕ) → (b ≡ 13 → ⊥) × (b ≡ 10 → ⊥) → counted i (b ∷ r) 0 n ≡ i
unfolding kept_from
counted_here i b r n h = rw (inner_fold b r h)

counted_past : (i b : ℕ) (r : List ℕ) (o n : ℕ) → Blank b → counted i (13 ∷ 10 ∷ b ∷ r) o n ≡ counted (i + 1 + 1 + 1) r o n
unfolding kept_from
counted_past i b r o n w = rw (fold_here b r w)

-- a place by the plain words is the one that is counted
only : {l r : List ℕ} {o p : ℕ} → At l r o p → Unbroken l → (i n : ℕ) → n ≡ i + length r → counted i r o n ≡ i + p
unfolding Unbroken kept_from
only ends u i n e = e
only (here {b = b} {r = r} f) u i n e = counted_here i b r n u.0 ∙ omega arith
only (next {b = b} {o = o} {r = r} a) u i n e = counted_next i b r o n u.0 ∙ only a u.1 (i + 1) n (omega arith) ∙ omega arith
only (past {b = b} {o = o} {r = r} w a) u i n e = counted_past i b r o n w ∙ only a u (i + 1 + 1 + 1) n (omega arith) ∙ omega arith

pub placed_only : {l r : List ℕ} {o p : ℕ} → At l r o p → Unbroken l → p ≡ place_of r o
unfolding place_of
placed_only {l} {r} {o} {p} a u = sym (only a u 0 (length r) (omega arith) ∙ zero-add p)

-- and the place that is counted is one by the plain words
there : {l r : List ℕ} → Folded l r → Unbroken l → (o i n : ℕ) → o ≤ length l → n ≡ i + length r → (q : ℕ) × At l r o q × (counted i r o n ≡ i + q)
unfolding Unbroken kept_from
there end u zero i n h e = (0, ends, e)
there end u (suc o) i n h e = absurd (omega arith)
there (octet {b = b} {r = r} f) u zero i n h e = (0, here f, counted_here i b r n u.0 ∙ omega arith)
there (octet {b = b} {r = r} f) u (suc o) i n h e =
    let k = there f u.1 o (i + 1) n (omega arith) (omega arith) in
    (suc k.0, next k.1, counted_next i b r o n u.0 ∙ k.2 ∙ omega arith)
there (fold {b = b} {r = r} w f) u o i n h e =
    let k = there f u o (i + 1 + 1 + 1) n h (omega arith) in
    (3 + k.0, past w k.1, counted_past i b r o n w ∙ k.2 ∙ omega arith)

-- an octet of a line, or its end, stands in the raw line where unfolding counts it
pub placed : {l r : List ℕ} → Folded l r → Unbroken l → (o : ℕ) → o ≤ length l → At l r o (place_of r o)
unfolding place_of
placed {l} {r} f u o h =
    let k = there f u o 0 (length r) h (omega arith) in
    subst (At l r o) (sym (k.2 ∙ zero-add k.0)) k.1

-- what stands there is that octet of the line and its CR
pub octet_same : {l r : List ℕ} {o p : ℕ} → At l r o p → (t : List ℕ) → get_or (r ++ (13 ∷ t)) p 0 ≡ get_or (l ++ (13 ∷ [])) o 0
octet_same ends t = refl
octet_same (here f) t = refl
octet_same (next a) t = octet_same a t
octet_same (past {b = b} {p = p} {r = r} w a) t = ap (λ (n : ℕ). get_or (13 ∷ 10 ∷ b ∷ (r ++ (13 ∷ t))) n 0) (three p) ∙ octet_same a t
  where
    three : (p : ℕ) → 3 + p ≡ suc (suc (suc p))
    three p = omega arith

-- the end of the line stands at the end of the raw line
pub end_same : {l r : List ℕ} {o p : ℕ} → At l r o p → length l ≤ o → p ≡ length r
end_same ends h = refl
end_same (here f) h = absurd (omega arith)
end_same (next a) h = ap suc (end_same a (omega arith))
end_same (past {p = p} w a) h = omega (arith, end_same a h)

-- an input's lines at one place: the logical line has no CR and no LF, and is the raw one without its folds
pub lined_there : {i : List ℕ} (ds es ls ms : List (List ℕ)) (r l : List ℕ) → Lined i (ds ++ (r ∷ es)) (ls ++ (l ∷ ms)) → length ls ≡ length ds → Folded l r × Unbroken l
lined_there [] es [] ms r l (and_then f u v h) n = (f, u)
lined_there [] es (k ∷ ls) ms r l h n = absurd (omega arith)
lined_there (d ∷ ds) es [] ms r l h n = absurd (omega arith)
lined_there (d ∷ ds) es (k ∷ ls) ms r l (and_then f u v h) n = lined_there ds es ls ms r l h (omega arith)
