-- The search for a name: what the table has at the start of an entry. Assumes nothing.
use mathlib.Core.Path.{◌≡◌, refl, sym, ap, ◌∙◌}
use mathlib.Core.Bool.{true, false}
use mathlib.Core.List.{List, [], ◌∷◌, ◌++◌}
use Prim.Native.Nat.{ℕ, ◌+◌, ◌-◌, ◌<◌, ◌≤◌}
use native.Mathlib.Numerals.{unary_clauses}
use native.Mathlib.Omega.{arith}
use lib.ListN.{length, get_or, take, drop, length-drop, length-append}
use native.Mathlib.Nat.{add-zero}
use lib.Seq.{get_or-drop, drop-drop, take-append_seam, drop-append_seam}
use borrow.Author.Tests.{eq-eqb, ne_eqb}
use Rattle.octets.specs.Ascii.{octets}
use Rattle.octets.specs.Cases.{same}
use Rattle.octets.specs.Scan.{scan}
use Rattle.octets.proofs.Scans.{scan_le}
use Rattle.cabbook_options.specs.Words.{name_step, name_length}
use Rattle.cabbook_options.specs.Names.{Name, names, number_in, number_of, table_of}

-- from a place on the table has these names, and the number of a word is among them
pub record Searched (t w : List ℕ) (i : ℕ) (ms : List Name) : Type 0 where
  pub inside : i ≤ length t
  pub rest : drop i t ≡ table_of ms
  pub alike : number_of w ≡ number_in ms w

-- an entry stands at a place: its number, the length of its name, the name, and then other entries
pub record Stands (t w : List ℕ) (i : ℕ) (m : Name) (ms : List Name) : Type 0 where
  pub number : get_or t i 0 ≡ m.number
  pub size : get_or t (i + 1) 0 ≡ length (octets m.text)
  pub fits : i + 2 + length (octets m.text) ≤ length t
  pub text : take (length (octets m.text)) (drop (i + 2) t) ≡ octets m.text
  pub next : drop (i + 2 + length (octets m.text)) t ≡ table_of ms
  pub alike : number_of w ≡ number_in (m ∷ ms) w

pub begin : (t w : List ℕ) → t ≡ table_of names → Searched t w 0 names
unfolding number_of
begin t w e = record { inside = omega arith; rest = e; alike = refl }

module _ {t w : List ℕ} {i : ℕ} where
  stands_at : (m : Name) (ms : List Name) → Searched t w i (m ∷ ms) → Stands t w i m ms
  unfolding table_of
  stands_at m ms s =
      let n = octets m.text in
      let e = s.rest in
      let after : drop (i + 2) t ≡ n ++ table_of ms = sym (drop-drop 2 i t) ∙ ap (drop 2) e in
      let l : length t - i ≡ 2 + (length n + length (table_of ms)) = sym (length-drop i t) ∙ ap length e ∙ simp length-append (omega arith) in
      record {
        number = sym (simp unary_clauses at (get_or-drop i t 0 0)) ∙ ap (λ (x : List ℕ). get_or x 0 0) e;
        size = sym (get_or-drop i t 1 0) ∙ ap (λ (x : List ℕ). get_or x 1 0) e;
        fits = omega arith;
        text = ap (take (length n)) after ∙ take-append_seam n (table_of ms);
        next = sym (drop-drop (length n) (i + 2) t) ∙ ap (drop (length n)) after ∙ drop-append_seam n (table_of ms);
        alike = s.alike;
      }

  -- before the table's end an entry stands
  pub stands : (ms : List Name) → Searched t w i ms → i < length t → (m : Name) × ((rest : List Name) × Stands t w i m rest)
  unfolding table_of
  stands [] s h = absurd (omega (arith, length-drop i t, ap length s.rest))
  stands (m ∷ ms) s h = (m, (ms, stands_at m ms s))

  pub found : {m : Name} {ms : List Name} → Stands t w i m ms → same w (octets m.text) ≡ true → number_of w ≡ get_or t i 0
  unfolding number_in
  found {m} {ms} s e = s.alike ∙ rw e (sym s.number)

  pub passed : {m : Name} {ms : List Name} → Stands t w i m ms → same w (octets m.text) ≡ false → Searched t w (i + 2 + get_or t (i + 1) 0) ms
  unfolding number_in
  passed {m} {ms} s e =
      record {
        inside = omega (arith, s.size, s.fits);
        rest = rw s.size s.next;
        alike = s.alike ∙ rw e;
      }

  pub none : (ms : List Name) → Searched t w i ms → length t ≤ i → number_of w ≡ 0
  unfolding table_of number_in
  none [] s h = s.alike
  none (m ∷ ms) s h = absurd (omega (arith, length-drop i t, ap length s.rest))

-- an option's name stops at `=`, and goes on at any other octet
pub name_stops : (s : List ℕ) (i : ℕ) → get_or s i 0 ≡ 61 → name_step (drop i s) ≡ 0
name_stops s i e = rw (get_or-drop i s 0 0, add-zero, eq-eqb _ _ e)

pub name_goes : (s : List ℕ) (i : ℕ) → (get_or s i 0 ≡ 61 → ⊥) → name_step (drop i s) ≡ 1
name_goes s i e = rw (get_or-drop i s 0 0, add-zero, ne_eqb _ _ e)

-- an option's name ends at the first `=`, or at the word's end
pub name_empty : name_length [] ≡ 0
unfolding name_length scan
name_empty = refl

pub length_stops : (x : ℕ) (xs : List ℕ) → x ≡ 61 → name_length (x ∷ xs) ≡ 0
unfolding name_length scan
length_stops x xs e = rw (eq-eqb x 61 e)

pub length_goes : (x : ℕ) (xs : List ℕ) → (x ≡ 61 → ⊥) → name_length (x ∷ xs) ≡ name_length xs + 1
unfolding name_length scan
length_goes x xs e = rw (ne_eqb x 61 e) (omega arith)

pub name_inside : (w : List ℕ) → name_length w ≤ length w
unfolding name_length
name_inside w = scan_le name_step w 0
