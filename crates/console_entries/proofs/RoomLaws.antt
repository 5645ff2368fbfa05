-- Room: a loop that sets all of it, a part of it, and the text of what was left in it. Assumes nothing.
use mathlib.Core.Path.{◌≡◌, refl, sym, ap, ◌∙◌}
use mathlib.Core.Bool.{Bool}
use mathlib.Core.List.{List, ◌∷◌, ◌++◌, append-nil}
use Prim.Native.Nat.{ℕ, zero, suc, ◌+◌, ◌-◌, ◌≤◌, ◌<◌}
use native.Mathlib.Omega.{arith}
use lib.ListN.{length, take, drop, set, replicate, length-replicate, get_or-replicate}
use lib.Seq.{drop-length, length-take-le, take_all}
use borrow.Author.Tests.{le-ltb}
use Rattle.octets.proofs.Copies.{copy_step}
use Rattle.octets.specs.Room.{overlay}
use Rattle.octets.specs.Slices.{part}
use Rattle.program_output.specs.Pages.{Page, added}
use Rattle.console_answers.specs.Texts.{room_end}
use Rattle.console_entries.specs.Rooms.{octet_fill, number_fill, octet_room, number_room, both_kept}
use Rattle.console_entries.specs.Entries.{numbers_of, copy_length, taken_text, rooms_text, read_text, outcome_of, write_text}
use Rattle.console_entries.specs.declared.entries.Writer.{Writer}
use Rattle.property_table.specs.declared.Edition.{Edition}

pub fill_step : (d e : List ℕ) (j : ℕ) → j < length d → e ≡ take j (octet_room (length d)) ++ drop j d
    → set e j octet_fill ≡ take (j + 1) (octet_room (length d)) ++ drop (j + 1) d
fill_step d e j hd h =
    rw (get_or-replicate {A = ℕ} (length d) j octet_fill 0 hd) at (copy_step d (octet_room (length d)) e j hd (rw length-replicate hd) h)

pub fill_done : (d e : List ℕ) (j : ℕ) → length d ≤ j → j ≤ length d → e ≡ take j (octet_room (length d)) ++ drop j d → e ≡ octet_room (length d)
fill_done d e j h k p =
    let q : j ≡ length d = omega arith in
    p ∙ rw (q, drop-length, append-nil, take_all {A = ℕ} (length d) (octet_room (length d)) (rw length-replicate (omega arith)))

-- the first r of n equal elements
take_replicate : (r n v : ℕ) → r ≤ n → take r (replicate n v) ≡ replicate r v
take_replicate zero n v h = refl
take_replicate (suc r) zero v h = absurd (omega arith)
take_replicate (suc r) (suc n) v h = ap (λ (l : List ℕ). v ∷ l) (take_replicate r n v (omega arith))

pub less_none : (n : ℕ) → n - 0 ≡ n
less_none n = omega arith

-- the same as a slice's first r elements
room_part : (r n v : ℕ) → r ≤ n → take (r - 0) (replicate n v) ≡ replicate r v
room_part r n v h = ap (λ (m : ℕ). take m (replicate n v)) (less_none r) ∙ take_replicate r n v h

-- what is answered with the first elements of larger rooms
module _ (i : List ℕ) (n r : ℕ) (p : Page) {q : Page} (h : r ≤ n) where
  pub read_part : (e : Edition) (k : ℕ) → k ≤ n → q ≡ added (read_text e i (take (r - 0) (replicate n octet_fill)) (take (k - 0) (replicate n number_fill))) p
      → q ≡ added (read_text e i (octet_room r) (number_room k)) p
  read_part ed k l e = rw (room_part r n octet_fill h, room_part k n number_fill l) at e

  pub write_part : (w : Writer) → q ≡ added (write_text (outcome_of w i (take (r - 0) (replicate n octet_fill)))) p → q ≡ added (write_text (outcome_of w i (octet_room r))) p
  write_part w e = rw (room_part r n octet_fill h) at e

-- a slice whose first n elements became those of e
pub put_front : (p e : List ℕ) (n : ℕ) → n ≤ length p → length e ≡ length (take (n - 0) p) → e ++ drop (n - 0) p ≡ overlay e p
put_front p e n h k =
    let l : length e ≡ n = k ∙ ap (λ (m : ℕ). length (take m p)) (less_none n) ∙ length-take-le n p h in
    ap (λ (m : ℕ). e ++ drop m p) (less_none n ∙ sym l)

-- and those were set
pub fill_front : (p e : List ℕ) (n : ℕ) → n ≤ length p → e ≡ octet_room (length (take (n - 0) p)) → e ++ drop (n - 0) p ≡ overlay (octet_room n) p
fill_front p e n h k =
    let l : length (take (n - 0) p) ≡ n = ap (λ (m : ℕ). length (take m p)) (less_none n) ∙ length-take-le n p h in
    put_front p e n h (rw k (length-replicate {A = ℕ} (length (take (n - 0) p)) octet_fill)) ∙ rw (k, l)

pub part_whole : (s : List ℕ) (a e : ℕ) → a ≤ e → e ≤ length s → part s a e ≡ take (e - a) (drop a s)
part_whole s a e h k = rw (le-ltb (length s) e k, le-ltb e a h)

-- the text of the reader's rooms, by what was measured
module _ (copy records x taken : List ℕ) (lines n k : ℕ) (b : Bool) where
  pub rooms_text_lem : k ≡ numbers_of lines (length records) → taken ≡ part records 0 k → n ≡ copy_length taken → x ≡ part copy 0 n
      → b ≡ both_kept (drop n copy) (drop k records) → taken_text x taken ++ room_end b ≡ rooms_text lines copy records
  unfolding rooms_text
  rooms_text_lem ek et en ex eb = rw (eb, ex, en, et, ek)
