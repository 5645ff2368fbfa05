-- What `read_line` answers is said by the parts of the line: numbers, and the octets at them. Assumes nothing.
use mathlib.Core.Path.{◌≡◌, refl, sym, ap, ◌∙◌}
use mathlib.Core.Bool.{Bool, true, false}
use mathlib.Core.List.{List, [], ◌∷◌, ◌++◌, append_assoc}
use mathlib.Core.Logic.{◌↔◌}
use Prim.Native.Nat.{ℕ, ◌+◌, ◌-◌, ◌<◌}
use native.Mathlib.Omega.{arith}
use lib.ListN.{length, take, drop, length-append}
use lib.Seq.{take_at, drop_at, drop-append_seam, take-append_seam}
use borrow.Author.Tests.{ne_eqb}
use Rattle.octets.specs.Classes.{run, more, named, letter, digit, hyphen}
use Rattle.octets.proofs.Bools.{clash}
use Rattle.line_parser.specs.Parse.{Parse, got, bad, hd}
use Rattle.line_parser.specs.Grammar.{Line, WellFormed, led, param_text, group_text, front, render, name_end}
use Rattle.line_parser.specs.Rule.{word, head, parse_line}
use Rattle.line_parser.specs.Places.{outcome, name_start}
use Rattle.line_parser.specs.Places.{Parsed}
use Rattle.line_parser.proofs.ParseLaws.{next_inv}
use Rattle.line_parser.proofs.PartLaws.{word_taken, group_dot}
use Rattle.line_parameters.specs.Placed.{Placed, Starts}
use Rattle.line_parameters.proofs.Sound.{line_sound}
use Rattle.line_parameters.proofs.Complete.{line_complete}

-- a part of a list between two others
pub between : (a b c : List ℕ) (i j : ℕ) → i ≡ length a → j ≡ i + length b → take (j - i) (drop i (a ++ (b ++ c))) ≡ b
between a b c i j hi hj =
    let n : length b ≡ j - i = omega arith in
    rw (drop_at a (b ++ c) i (sym hi)) (take_at b c (j - i) n)

group_at : (g r : List ℕ) → take (length g) (group_text g ++ r) ≡ g
unfolding group_text
group_at [] r = refl
group_at (x ∷ xs) r = ap (take (length (x ∷ xs))) (group_dot (x ∷ xs) r (omega arith)) ∙ take-append_seam (x ∷ xs) (46 ∷ r)

start_at : (g : List ℕ) → name_start (length g) ≡ length (group_text g)
unfolding group_text
start_at [] = refl
start_at (x ∷ xs) = rw (ne_eqb (length (x ∷ xs)) 0 (λ e. omega arith)) (sym (length-append (x ∷ xs) (46 ∷ [])))

-- the octets of a line written out
placed : (x : Line) → Placed (render x) x (length x.group) (name_end x) (length x.params) (length (front x))
unfolding render front name_end
placed x =
    let r : List ℕ = (led 59 param_text x.params ++ 58 ∷ []) ++ x.value in
    let line : render x ≡ group_text x.group ++ (x.name ++ r) = simp append_assoc in
    record {
      group_length = refl;
      name_end = refl;
      count = refl;
      value_start = refl;
      group = rw line (group_at x.group (x.name ++ r));
      name = rw line (between (group_text x.group) x.name r _ _ (start_at x.group) (rw start_at (length-append (group_text x.group) x.name)));
      value = drop-append_seam (front x) x.value;
    }

-- `read_line` answers these numbers exactly for the well-formed lines that they fit
pub places_law : (l : List ℕ) (g n c v : ℕ)
    → (outcome (parse_line l) ≡ Parsed g n c v) ↔ ((x : Line) × WellFormed x × (l ≡ render x) × Placed l x g n c v)
places_law l g n c v = (there (parse_line l) refl, λ h. back h.0 h.1 h.2 h.3)
  where
    there : (m : Parse Line) → parse_line l ≡ m → outcome m ≡ Parsed g n c v → (x : Line) × WellFormed x × (l ≡ render x) × Placed l x g n c v
    there (bad e) p q = clash cc
    there (got x k) p q =
        let s = line_sound l x k p in
        let w = ap parse_line s.1 ∙ line_complete x s.0 in
        let eg : g ≡ length x.group = cc in
        let en : n ≡ name_end x = cc in
        let ec : c ≡ length x.params = cc in
        let ev : v ≡ length (front x) = cc in
        (x, s.0, s.1, rw (s.1, eg, en, ec, ev) (placed x))

    back : (x : Line) → WellFormed x → l ≡ render x → Placed l x g n c v → outcome (parse_line l) ≡ Parsed g n c v
    back x w e p =
        let u = ap outcome (ap parse_line e ∙ line_complete x w) in
        cc

first_octet : (l : List ℕ) → 0 < run named l → named (hd l) ≡ true
unfolding run
first_octet [] h = absurd (omega arith)
first_octet (x ∷ xs) h = go (named x) h
  where
    go : (t : Bool) → 0 < more t (run named xs) → t ≡ true
    go true h = refl
    go false h = absurd (omega arith)

starts : (l : List ℕ) → named (hd l) ≡ true → Starts l
unfolding named letter digit hyphen
starts [] h = clash cc
starts (x ∷ xs) h = record {
  named_first = h;
  some = omega arith;
  no_space = λ e. clash cc;
  no_tab = λ e. clash cc;
}

pub accepted_starts : (l : List ℕ) (x : Line) (k : ℕ) → parse_line l ≡ got x k → Starts l
unfolding parse_line head
accepted_starts l x k h =
    next_inv (head l) _ h (λ y n p q. next_inv (word 40 l) _ p (λ a m p₁ q₁.
    let w = word_taken 40 l a m p₁ in
    starts l (first_octet l (omega arith))))
