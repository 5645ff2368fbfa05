-- Lines with folds in them, each ended by CR LF: what the walk over an input finds of them. Assumes nothing.
use mathlib.Core.Path.{◌≡◌, refl, sym, ap, subst, ◌∙◌}
use mathlib.Core.Bool.{true, false, false≢true}
use mathlib.Core.List.{List, [], ◌∷◌, ◌++◌, map, append_assoc}
use mathlib.Core.Logic.{◌⊎◌, inl, inr}
use Prim.Native.Nat.{ℕ, suc, ◌<◌}
use native.Mathlib.Omega.{arith}
use lib.ListN.{length}
use Rattle.octets.specs.Scan.{scan}
use Rattle.octets.specs.Classes.{valued}
use Rattle.utf8.specs.Characters.{allowed}
use Rattle.utf8_laws.specs.Texts.{Each as EachOctet}
use Rattle.line_folds.specs.Folds.{unfolded}
use Rattle.line_folds.specs.Logical.{lines_by, raw_lines}
use Rattle.line_parser.specs.Grammar.{Line, Each, front, render}
use Rattle.line_parameters.proofs.Law.{line_law}
use Rattle.line_parameters.proofs.PlacesLaw.{accepted_starts}
use Rattle.line_breaks.specs.Lone.{first_lone}
use Rattle.reader_grammar.specs.Cards.{Readable}
use Rattle.line_laws.specs.Lined.{Folded, end, octet, fold, Unbroken, Unled, EndsCrLf}
use Rattle.line_laws.proofs.LinedLaws.{cons_nil, lone_pair, folded_lone, folded_length, folded_unfolds, first_raw, Text, split, split_raw, paired_text}
use Rattle.reader_grammar.specs.Inputs.{Written, none, more}

clean_inner : (l : List ℕ) → EachOctet (allowed false) l → Unbroken l
unfolding EachOctet Unbroken allowed valued
clean_inner [] h = tt
clean_inner (b ∷ l) h = (
  (λ e. false≢true (subst (λ (x : ℕ). allowed false x ≡ true) e h.0), λ e. false≢true (subst (λ (x : ℕ). allowed false x ≡ true) e h.0)),
  clean_inner l h.1,
)

folded_first : {l r : List ℕ} → Folded l r → (t : List ℕ) → Unled l → 0 < length l → Unled (r ++ t)
unfolding Unled
folded_first end t u h = absurd (omega arith)
folded_first (octet f) t u h = u
folded_first (fold w f) t u h = (λ e. omega arith, λ e. omega arith)

readable_inner : (x : Line) → Readable x → Unbroken (render x)
readable_inner x r = clean_inner (render x) r.clean.octets

written_unled : {xs : List Line} {i : List ℕ} → Written xs i → Each Readable xs → Unled i
unfolding Each Unled
written_unled none h = (λ e. omega arith, λ e. omega arith)
written_unled (more {x = x} {i = i} f w) h =
    let s = accepted_starts (render x) x (length (front x)) ((line_law (render x) x (length (front x))).1 (h.0.formed, refl, refl)) in
    folded_first f (13 ∷ 10 ∷ i) (s.no_space, s.no_tab) s.some

-- the logical lines of lines that are written so are the lines
pub written_lines : {xs : List Line} {i : List ℕ} → Written xs i → Each Readable xs → map unfolded (raw_lines i) ≡ map render xs
unfolding Each raw_lines lines_by
written_lines none h = refl
written_lines (more {x = x} {xs = xs} {r = r} {i = i} f w) h =
    let n = readable_inner x h.0 in
    ap (map unfolded) (first_raw r i (folded_length f n i (written_unled w h.1)))
    ∙ ap (λ (l : List ℕ). l ∷ map unfolded (raw_lines i)) (folded_unfolds f n)
    ∙ ap (λ (ls : List (List ℕ)). render x ∷ ls) (written_lines w h.1)

-- no CR or LF of them is alone
pub written_paired : {xs : List Line} {i : List ℕ} → Written xs i → Each Readable xs → first_lone i ≡ length i
unfolding Each first_lone scan
written_paired none h = refl
written_paired (more {x = x} {i = i} f w) h =
    folded_lone f (readable_inner x h.0) (13 ∷ 10 ∷ i) (lone_pair i ∙ ap (λ (n : ℕ). suc (suc n)) (written_paired w h.1))

-- they end in CR LF
joined : (r i : List ℕ) → (i ≡ []) ⊎ EndsCrLf i → EndsCrLf (r ++ (13 ∷ 10 ∷ i))
joined r i (inl e) = (r, ap (λ (s : List ℕ). r ++ (13 ∷ 10 ∷ s)) e)
joined r i (inr (j, e)) = (r ++ (13 ∷ 10 ∷ j), ap (λ (s : List ℕ). r ++ (13 ∷ 10 ∷ s)) e ∙ sym (append_assoc r (13 ∷ 10 ∷ j) (13 ∷ 10 ∷ [])))

ends_or : {xs : List Line} {i : List ℕ} → Written xs i → (i ≡ []) ⊎ EndsCrLf i
ends_or none = inl refl
ends_or (more {r = r} {i = i} f w) = inr (joined r i (ends_or w))

pub written_ends : {xs : List Line} {i : List ℕ} → Written xs i → 0 < length xs → EndsCrLf i
written_ends none h = absurd (omega arith)
written_ends (more {r = r} {i = i} f w) h = joined r i (ends_or w)

-- such octets, whose logical lines are the lines, are the lines written so
lines_from : (xs : List Line) (i : List ℕ) → (i ≡ []) ⊎ Text i → map unfolded (raw_lines i) ≡ map render xs → Written xs i
unfolding raw_lines lines_by
lines_from [] i (inl q) e = rw q none
lines_from [] i (inr t) e = cons_nil (sym (ap (map unfolded) (split_raw i (split t))) ∙ e)
lines_from (x ∷ xs) i (inl q) e = cons_nil (sym e ∙ ap (λ (l : List ℕ). map unfolded (raw_lines l)) q)
lines_from (x ∷ xs) i (inr t) e =
    let s = split t in
    let p : unfolded s.raw ∷ map unfolded (raw_lines s.rest) ≡ render x ∷ map render xs = sym (ap (map unfolded) (split_raw i s)) ∙ e in
    let a : unfolded s.raw ≡ render x = cc in
    let b : map unfolded (raw_lines s.rest) ≡ map render xs = cc in
    let f : Folded (render x) s.raw = subst (λ (l : List ℕ). Folded l s.raw) (sym (folded_unfolds s.folded s.each) ∙ a) s.folded in
    subst (Written (x ∷ xs)) (sym s.whole) (more f (lines_from xs s.rest s.next b))

pub lines_written : (xs : List Line) (i : List ℕ) → first_lone i ≡ length i → EndsCrLf i → map unfolded (raw_lines i) ≡ map render xs → Written xs i
lines_written xs i e h q = lines_from xs i (inr (paired_text i e h)) q
