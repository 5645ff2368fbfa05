-- Folded text read again: its logical lines, unfolded, are the lines that were folded. Assumes nothing.
use mathlib.Core.Path.{◌≡◌, refl, sym, ap, subst, ◌∙◌}
use mathlib.Core.Bool.{false}
use mathlib.Core.List.{List, [], ◌∷◌, ◌++◌, map, flatten, append-nil, append_assoc}
use mathlib.Core.Logic.{inl}
use Prim.Native.Nat.{ℕ, ◌+◌}
use native.Mathlib.Omega.{arith}
use lib.ListN.{length, length-append}
use Rattle.octets.specs.Scan.{scan, gather}
use Rattle.utf8.specs.Characters.{allowed}
use Rattle.utf8.proofs.Chains.{Chars, end, start, NoEnd, none, more, no_end, char_four}
use Rattle.line_folds.specs.Folds.{fold_at, line_step, line_length, passed, kept, unfolded}
use Rattle.line_folds.specs.Logical.{raw_lines}
use Rattle.line_folds.proofs.FoldLaws.{not_cr_lem}
use Rattle.line_folds.proofs.LineLaws.{lines_end}
use Rattle.folder_line.specs.Pieces.{first, later, pieces, joined, folded, folded_lines, Clean, All}
use Rattle.reader.specs.Outcome.{ended}
use Rattle.line_laws.specs.Lined.{Folded, end as nothing, octet, fold, Unbroken, Unled, Lined, no_line, and_then}
use Rattle.folder_line.proofs.PieceLaws.{rejoin, first_goes, over_no}
use Rattle.folder_line.proofs.Turns.{clean_chars}
use Rattle.folder_laws.proofs.CopyLaws.{line_run, line_stop, first_line, unled_none, unled_line, copy_lines}
use Rattle.folder_laws.proofs.CutLaws.{Pieces, nil, one, first_whole, later_good}

-- octets that are no CR are kept, a fold is not
kept_run : {p : List ℕ} → NoEnd p → (t : List ℕ) → unfolded (p ++ t) ≡ p ++ unfolded t
unfolding unfolded gather passed kept
kept_run none t = refl
kept_run (more {x} {xs} a b n) t = simp (not_cr_lem (x ∷ (xs ++ t)) 0 a) (ap (λ (r : List ℕ). x ∷ r) (kept_run n t))

kept_fold : (t : List ℕ) → unfolded (13 ∷ 10 ∷ 32 ∷ t) ≡ unfolded t
unfolding unfolded gather passed kept fold_at
kept_fold t = refl

line_fold : (t : List ℕ) → line_length (13 ∷ 10 ∷ 32 ∷ t) ≡ 3 + line_length t
unfolding line_length scan line_step fold_at
line_fold t = omega arith

kept_nil : unfolded [] ≡ []
unfolding unfolded gather
kept_nil = refl

kept_end : unfolded (13 ∷ 10 ∷ []) ≡ 13 ∷ 10 ∷ []
unfolding unfolded gather passed kept fold_at
kept_end = refl

-- through the pieces
kept_pieces : {n : ℕ} {p : List ℕ} {ps : List (List ℕ)} → NoEnd p → Pieces n ps → (t : List ℕ)
    → unfolded (joined (p ∷ ps) ++ t) ≡ flatten (p ∷ ps) ++ unfolded t
unfolding joined flatten
kept_pieces {p = p} m nil t = kept_run m t ∙ ap (λ (r : List ℕ). r ++ unfolded t) (sym (append-nil p))
kept_pieces {p = p} m (one {p = q} {ps = qs} w b g) t =
    ap unfolded (append_assoc p (13 ∷ 10 ∷ 32 ∷ joined (q ∷ qs)) t)
    ∙ kept_run m (13 ∷ 10 ∷ 32 ∷ (joined (q ∷ qs) ++ t))
    ∙ ap (λ (r : List ℕ). p ++ r) (kept_fold (joined (q ∷ qs) ++ t) ∙ kept_pieces (no_end w) g t)
    ∙ sym (append_assoc p (flatten (q ∷ qs)) (unfolded t))

line_pieces : {n : ℕ} {p : List ℕ} {ps : List (List ℕ)} → NoEnd p → Pieces n ps → (t : List ℕ) → Unled t
    → line_length (joined (p ∷ ps) ++ (13 ∷ 10 ∷ t)) ≡ length (joined (p ∷ ps))
unfolding joined
line_pieces m nil t u = omega (arith, line_run m (13 ∷ 10 ∷ t), line_stop t u)
line_pieces {p = p} m (one {p = q} {ps = qs} w b g) t u =
    ap line_length (append_assoc p (13 ∷ 10 ∷ 32 ∷ joined (q ∷ qs)) (13 ∷ 10 ∷ t))
    ∙ omega (arith, line_run m (13 ∷ 10 ∷ 32 ∷ (joined (q ∷ qs) ++ (13 ∷ 10 ∷ t))), line_fold (joined (q ∷ qs) ++ (13 ∷ 10 ∷ t)), line_pieces (no_end w) g t u, length-append p (13 ∷ 10 ∷ 32 ∷ joined (q ∷ qs)))

module _ (l : List ℕ) (clean : Clean l) where
  w : NoEnd (first l 75)
  w = no_end (first_whole (clean_chars l clean) 75 (omega arith))

  g : Pieces 74 (later l 75)
  g = later_good (clean_chars l clean) 75 (omega arith)

  unfold_any : (t : List ℕ) → unfolded (joined (pieces l) ++ t) ≡ l ++ unfolded t
  unfolding pieces flatten
  unfold_any t = kept_pieces w g t ∙ ap (λ (r : List ℕ). r ++ unfolded t) (rejoin l 75)

  -- A folded line, unfolded, is the line, with its end and without.
  pub unfold_folded : unfolded (folded l) ≡ l ++ (13 ∷ 10 ∷ [])
  unfolding folded
  unfold_folded = unfold_any (13 ∷ 10 ∷ []) ∙ ap (λ (r : List ℕ). l ++ r) kept_end

  pub unfold_joined : unfolded (joined (pieces l)) ≡ l
  unfold_joined =
      ap unfolded (sym (append-nil (joined (pieces l)))) ∙ unfold_any [] ∙ ap (λ (r : List ℕ). l ++ r) kept_nil ∙ append-nil l

  -- A folded line is one logical line.
  pub one_line : (t : List ℕ) → Unled t → raw_lines (folded l ++ t) ≡ joined (pieces l) ∷ raw_lines t
  unfolding folded pieces
  one_line t u =
      ap raw_lines (append_assoc (joined (pieces l)) (13 ∷ 10 ∷ []) t) ∙ first_line (joined (pieces l)) t (line_pieces w g t u)

-- a folded line starts as the line does
same_head : (x : ℕ) (xs p : List ℕ) (ps : List (List ℕ)) (t : List ℕ) → Unled (x ∷ xs) → Unled ((joined ((x ∷ p) ∷ ps) ++ (13 ∷ 10 ∷ [])) ++ t)
unfolding joined Unled
same_head x xs p [] t u = u
same_head x xs p (q ∷ qs) t u = u

unled_chars : {l : List ℕ} → Chars (allowed false) 0 l → (t : List ℕ) → Unled l → Unled (folded l ++ t)
unfolding folded pieces joined first later
unled_chars end t u = unled_line [] t u
unled_chars (start {x} {m} {xs} a e c) t u =
    rw (first_goes x xs 75 (over_no x xs 75 m e (omega (arith, char_four (x ∷ xs) m e)))) (same_head x xs (first xs 74) (later (x ∷ xs) 75) t u)

unled_text : (ls : List (List ℕ)) → All Clean ls → All Unled ls → Unled (folded_lines ls)
unfolding folded_lines All
unled_text [] c u = unled_none
unled_text (l ∷ ls) c u = unled_chars (clean_chars l c.0) (folded_lines ls) u.0

-- The logical lines of the folded text, unfolded, are the lines.
pub lines_back : (ls : List (List ℕ)) → All Clean ls → All Unled ls → map unfolded (raw_lines (folded_lines ls)) ≡ ls
unfolding folded_lines All
lines_back [] c u = ap (map unfolded) (lines_end [] 0 (omega arith))
lines_back (l ∷ ls) c u =
    ap (map unfolded) (one_line l c.0 (folded_lines ls) (unled_text ls c.1 u.1))
    ∙ ap (λ (r : List ℕ). r ∷ map unfolded (raw_lines (folded_lines ls))) (unfold_joined l c.0)
    ∙ ap (λ (r : List (List ℕ)). l ∷ r) (lines_back ls c.1 u.1)

-- The folded text is split into the lines: each raw line is its line with folds in it.
folded_run : (p : List ℕ) {l r : List ℕ} → Folded l r → Folded (p ++ l) (p ++ r)
folded_run [] f = f
folded_run (b ∷ p) f = octet (folded_run p f)

folded_joined : (p : List ℕ) (ps : List (List ℕ)) → Folded (flatten (p ∷ ps)) (joined (p ∷ ps))
unfolding joined flatten
folded_joined p [] = subst (λ (r : List ℕ). Folded (p ++ []) r) (append-nil p) (folded_run p nothing)
folded_joined p (q ∷ qs) = folded_run p (fold (inl refl) (folded_joined q qs))

unbroken : {l : List ℕ} → NoEnd l → Unbroken l
unfolding Unbroken
unbroken none = tt
unbroken (more a b n) = ((a, b), unbroken n)

pub whole_line : (l : List ℕ) → Folded l (joined (pieces l))
unfolding pieces flatten
whole_line l = subst (λ (m : List ℕ). Folded m (joined (first l 75 ∷ later l 75))) (rejoin l 75) (folded_joined (first l 75) (later l 75))

pub lined_back : (ls : List (List ℕ)) → All Clean ls → All Unled ls → (rs : List (List ℕ)) × Lined (folded_lines ls) rs ls
unfolding folded_lines folded All
lined_back [] c u = ([], no_line)
lined_back (l ∷ ls) c u =
    let k = lined_back ls c.1 u.1 in
    let f : Folded l (joined (pieces l)) = whole_line l in (
      joined (pieces l) ∷ k.0,
      subst (λ (t : List ℕ). Lined t (joined (pieces l) ∷ k.0) (l ∷ ls)) (sym (append_assoc (joined (pieces l)) (13 ∷ 10 ∷ []) (folded_lines ls)))
          (and_then f (unbroken (no_end (clean_chars l c.0))) (unled_text ls c.1 u.1) k.1),
    )

-- Folding a copy, and reading the octets that were written, gives that copy again.
pub read_again : (ls : List (List ℕ)) → All Clean ls → All Unled ls → ended (map unfolded (raw_lines (folded_lines (raw_lines (ended ls))))) ≡ ended ls
read_again ls c u =
    ap (λ (ms : List (List ℕ)). ended (map unfolded (raw_lines (folded_lines ms)))) (copy_lines ls c u) ∙ ap ended (lines_back ls c u)

-- Lines are folded to equal octets exactly when their copies are equal.
module _ (ls ms : List (List ℕ)) (c : All Clean ls) (u : All Unled ls) (d : All Clean ms) (v : All Unled ms) where
  pub same_lines : folded_lines ls ≡ folded_lines ms → ls ≡ ms
  same_lines e = sym (lines_back ls c u) ∙ ap (λ (t : List ℕ). map unfolded (raw_lines t)) e ∙ lines_back ms d v

  pub same_octets : ended ls ≡ ended ms → folded_lines ls ≡ folded_lines ms
  same_octets e = ap folded_lines (sym (copy_lines ls c u) ∙ ap raw_lines e ∙ copy_lines ms d v)

  pub same_copies : folded_lines ls ≡ folded_lines ms → ended ls ≡ ended ms
  same_copies e = ap ended (same_lines e)
