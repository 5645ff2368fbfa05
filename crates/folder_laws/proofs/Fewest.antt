-- No octets with the logical lines of an input, in short physical lines of whole characters, have fewer physical lines than what is written for
-- it. Assumes nothing.
use mathlib.Core.Path.{◌≡◌, refl, sym, ap, ◌∙◌}
use mathlib.Core.List.{List, [], ◌∷◌, ◌++◌, append_assoc}
use Prim.Native.Nat.{ℕ, suc, ◌+◌, ◌≤◌}
use native.Mathlib.Omega.{arith}
use lib.ListN.{length, length-append}
use Rattle.utf8.specs.Rfc3629.{Characters}
use Rattle.utf8.proofs.Chains.{NoEnd, none, more, no_end}
use Rattle.line_laws.specs.Lined.{Folded, end, octet, fold, Lined, no_line, and_then}
use Rattle.folder_line.specs.Pieces.{pieces, joined, folded, folded_lines, Clean, All}
use Rattle.folder_line.proofs.Turns.{clean_chars}
use Rattle.folder_laws.specs.Cuttings.{UpTo}
use Rattle.folder_laws.specs.Foldings.{Billed}
use Rattle.folder_laws.specs.Physical.{upto, behind, physical}
use Rattle.folder_laws.proofs.CutLaws.{Pieces, nil, one, first_whole, later_good}
use Rattle.folder_laws.proofs.BackLaws.{whole_line}
use Rattle.folder_laws.proofs.PhysicalLaws.{behind_run}
use Rattle.folder_laws.proofs.Shortest.{blank_not, upto_goes, behind_goes, least_lines}

-- the physical lines of a line with folds in it, and of what stands behind its CR LF
record Then (r t : List ℕ) : Type 0 where
  start : upto (r ++ (13 ∷ 10 ∷ t)) ≡ upto r
  others : behind (r ++ (13 ∷ 10 ∷ t)) ≡ behind r ++ physical t

and_behind : {l r : List ℕ} → Folded l r → NoEnd l → (t : List ℕ) → Then r t
unfolding upto behind physical
and_behind end n t = record { start = refl; others = refl }
and_behind (octet {b} {l} {r} f) (more a c n) t =
    let s = and_behind f n t in
    record {
      start = upto_goes b (r ++ (13 ∷ 10 ∷ t)) a ∙ ap (λ (x : List ℕ). b ∷ x) s.start ∙ sym (upto_goes b r a);
      others = behind_goes b (r ++ (13 ∷ 10 ∷ t)) c ∙ s.others ∙ ap (λ (x : List (List ℕ)). x ++ physical t) (sym (behind_goes b r c));
    }
and_behind (fold {b} {l} {r} z f) n t =
    let s = and_behind f n t in
    let k = blank_not b z in
    let e : upto (b ∷ (r ++ (13 ∷ 10 ∷ t))) ≡ upto (b ∷ r) =
    upto_goes b (r ++ (13 ∷ 10 ∷ t)) k.0 ∙ ap (λ (x : List ℕ). b ∷ x) s.start ∙ sym (upto_goes b r k.0) in
    let g : behind (b ∷ (r ++ (13 ∷ 10 ∷ t))) ≡ behind (b ∷ r) ++ physical t =
    behind_goes b (r ++ (13 ∷ 10 ∷ t)) k.1 ∙ s.others ∙ ap (λ (x : List (List ℕ)). x ++ physical t) (sym (behind_goes b r k.1)) in
    record { start = refl; others = rw (e, g) }

physical_then : {l r : List ℕ} → Folded l r → NoEnd l → (t : List ℕ) → physical (r ++ (13 ∷ 10 ∷ t)) ≡ physical r ++ physical t
unfolding physical
physical_then f n t = let s = and_behind f n t in rw (s.start, s.others)

all_split : (P : List ℕ → Type 0) (xs ys : List (List ℕ)) → All P (xs ++ ys) → All P xs × All P ys
unfolding All
all_split P [] ys a = (tt, a)
all_split P (x ∷ xs) ys a = let s = all_split P xs ys a.1 in ((a.0, s.0), s.1)

-- ours: a line has as many physical lines as pieces
behind_none : {p : List ℕ} → NoEnd p → behind p ≡ []
unfolding behind
behind_none none = refl
behind_none (more {x} {xs} a b n) = behind_goes x xs b ∙ behind_none n

behind_joined : {m : ℕ} {p : List ℕ} {ps : List (List ℕ)} → NoEnd p → Pieces m ps → length (behind (joined (p ∷ ps))) ≡ length ps
unfolding joined physical behind
behind_joined n nil = ap length (behind_none n)
behind_joined n (one {p = q} {ps = qs} w b g) = ap length (behind_run n (32 ∷ joined (q ∷ qs))) ∙ ap suc (behind_joined (no_end w) g)

pub our_lines : (l : List ℕ) → Clean l → length (physical (joined (pieces l))) ≡ length (pieces l)
unfolding physical pieces
our_lines l c =
    let k = clean_chars l c in
    ap suc (behind_joined (no_end (first_whole k 75 (omega arith))) (later_good k 75 (omega arith)))

pub our_text : (l : List ℕ) (ls : List (List ℕ)) → Clean l → length (physical (folded_lines (l ∷ ls))) ≡ length (pieces l) + length (physical (folded_lines ls))
unfolding folded_lines folded
our_text l ls c =
    ap (λ (t : List ℕ). length (physical t)) (append_assoc (joined (pieces l)) (13 ∷ 10 ∷ []) (folded_lines ls))
    ∙ ap length (physical_then (whole_line l) (no_end (clean_chars l c)) (folded_lines ls))
    ∙ omega (arith, length-append (physical (joined (pieces l))) (physical (folded_lines ls)), our_lines l c)

-- No octets with these logical lines, in short physical lines of whole characters, have fewer physical lines than the folded text.
pub fewest : {t : List ℕ} {rs ls : List (List ℕ)} → All Clean ls → Lined t rs ls → Billed t → length (physical (folded_lines ls)) ≤ length (physical t)
unfolding All folded_lines
fewest c no_line b = omega arith
fewest c (and_then {i} {l} {r} {rs} {ls} f u d h) b =
    let e = physical_then f (no_end (clean_chars l c.0)) i in
    let s = all_split (UpTo 75) (physical r) (physical i) (rw e at b.short) in
    let w = all_split Characters (physical r) (physical i) (rw e at b.whole) in
    let m = least_lines l r c.0 (record { folds = f; lines = record { short = s.0; whole = w.0 } }) in
    let k = fewest c.1 h (record { short = s.1; whole = w.1 }) in
    omega (arith, our_text l ls c.0, m, k, ap length e, length-append (physical r) (physical i))
