-- Parts of a list: the one at its front, and how long a part is at most. Assumes nothing.
use mathlib.Core.Path.{◌≡◌, sym, ap, ◌∙◌}
use mathlib.Core.Bool.{Bool, true, false}
use mathlib.Core.List.{List, [], ◌++◌}
use Prim.Native.Nat.{ℕ, ◌+◌, ◌-◌, ◌≤◌}
use native.Mathlib.Omega.{arith}
use lib.Dec.{ltb}
use lib.ListN.{length, take, drop, length-append, length-drop, take-append-drop}
use lib.Seq.{take-append_seam}
use borrow.Author.Tests.{le-ltb}
use Rattle.octets.specs.Pick.{pick}
use Rattle.octets.specs.Slices.{part}
use Rattle.program_output.specs.Pages.{Page, added}

-- what was written to the front
pub part_front : (xs rest d : List ℕ) (n : ℕ) → n ≡ length xs → d ≡ xs ++ rest → part d 0 n ≡ xs
part_front xs rest d n e f =
    let h : n ≤ length d = rw (f, length-append xs rest) (omega arith) in
    let z : n - 0 ≡ length xs = omega arith in
    rw (le-ltb (length d) n h, le-ltb n 0 (omega arith), z, f) (take-append_seam xs rest)

either : (b : Bool) (xs ys : List ℕ) (n : ℕ) → length xs ≤ n → length ys ≤ n → length (pick b xs ys) ≤ n
either true xs ys n h k = h
either false xs ys n h k = k

pub part_le : (s : List ℕ) (a e : ℕ) → length (part s a e) ≤ length s
part_le s a e =
    let none : length {A = ℕ} [] ≤ length s = omega arith in
    let t = drop a s in
    let whole : length (take (e - a) t) + length (drop (e - a) t) ≡ length t = sym (length-append (take (e - a) t) (drop (e - a) t)) ∙ ap length (take-append-drop (e - a) t) in
    let some : length (take (e - a) t) ≤ length s = omega (arith, length-drop a s) in
    either (ltb (length s) e) [] (pick (ltb e a) [] (take (e - a) (drop a s))) (length s) none (either (ltb e a) [] (take (e - a) (drop a s)) (length s) none some)

-- a text that is added, by another name
pub added_same : (f : List ℕ → List ℕ) {x y : List ℕ} (p : Page) {q : Page} → x ≡ y → q ≡ added (f x) p → q ≡ added (f y) p
added_same f p e g = g ∙ ap (λ (t : List ℕ). added (f t) p) e
