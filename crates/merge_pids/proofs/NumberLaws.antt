-- Digits at a place, and numbers digit by digit. Assumes nothing.
use mathlib.Core.Path.{◌≡◌, refl, sym, ◌∙◌}
use mathlib.Core.List.{List, [], ◌∷◌}
use Prim.Native.Nat.{ℕ, ◌+◌, ◌-◌, ◌<◌, ◌≤◌}
use native.Mathlib.Numerals.{add-one}
use native.Mathlib.Omega.{arith}
use lib.Dec.{ltb}
use lib.ListN.{length, get_or, take, drop, length-drop, drop_of_length-le}
use lib.Seq.{drop-cons}
use borrow.Author.Tests.{eq-eqb, ne_eqb, lt-ltb, le-ltb, ltb-true, ltb-false}
use Rattle.std.specs.Char.{is_ascii_digit}
use Rattle.std.specs.List.{prefix_len}
use Rattle.std.proofs.lemmas.List.{take_all}
use Rattle.std.proofs.lemmas.List.Folds.{length-prefix_len}
use Rattle.octets.proofs.Bools.{by}
use Rattle.octets.specs.Slices.{part}
use Rattle.octets.specs.Classes.{run, digit}
use Rattle.line_parser.specs.Parse.{hd}
use Rattle.line_parser.proofs.Steps.{look}
use Rattle.merge_pids.specs.Numbers.{with_digit, digits, pid, after_dot, pid_of}
use Rattle.std.specs.Prelude.{Some, None}

digit_is : (b : ℕ) → is_ascii_digit b ≡ digit b
unfolding digit
digit_is b = grind arith

prefix_is : (xs : List ℕ) → prefix_len is_ascii_digit xs ≡ run digit xs
unfolding run
prefix_is [] = refl
prefix_is (x ∷ xs) = rw (digit_is x) (by (digit x) (λ e. rw e (omega (arith, prefix_is xs))) (λ e. rw e))

-- how many octets at the start are digits
pub run_is : (xs : List ℕ) → length (take (prefix_len is_ascii_digit xs) xs) ≡ run digit xs
run_is xs = length-prefix_len is_ascii_digit xs ∙ prefix_is xs

-- the part from a place to the end
pub part_rest : (s : List ℕ) (a : ℕ) → part s a (length s) ≡ drop a s
part_rest s a =
    rw (le-ltb (length s) (length s) (omega arith))
    (by (ltb (length s) a) (λ e. rw e (sym (drop_of_length-le s (omega (arith, ltb-true (length s) a e)))))
    (λ e. rw e (take_all (length s - a) (drop a s) (rw (length-drop a s) (omega (arith, ltb-false (length s) a e))))))

-- one turn of reading a number, and its end
module _ (s : List ℕ) (n i : ℕ) where
  pub digits_turn : i < length s → digits n (drop i s) ≡ digits (with_digit n (get_or s i 0)) (drop (i + 1) s)
  unfolding digits
  digits_turn h = rw (add-one, drop-cons s i 0)

  pub digits_end : length s ≤ i → digits n (drop i s) ≡ n
  unfolding digits
  digits_end h = rw (drop_of_length-le s h)

-- a PID value by what the code tests, d being where its digits end
module _ (l : List ℕ) (d : ℕ) (is-d : d ≡ run digit l) where
  pub pid_none : d ≡ 0 → pid_of l ≡ None
  unfolding pid_of
  pid_none h = rw (eq-eqb (run digit l) 0 (sym is-d ∙ h))

  pub pid_no_dot : (d ≡ 0 → ⊥) → (get_or l d 0 ≡ 46 → ⊥) → pid_of l ≡ None
  unfolding pid_of
  pid_no_dot h g = rw (← is-d, ne_eqb d 0 h, ne_eqb (hd (drop d l)) 46 (λ e. g (sym (look l d) ∙ e)))

  pub pid_dot : (d ≡ 0 → ⊥) → get_or l d 0 ≡ 46 → pid_of l ≡ after_dot (take d l) (drop (d + 1) l)
  unfolding pid_of
  pid_dot h g = rw (← is-d, ne_eqb d 0 h, eq-eqb (hd (drop d l)) 46 (look l d ∙ g))

-- and what stands after its dot
module _ (a m : List ℕ) where
  pub after_none : run digit m ≡ 0 → after_dot a m ≡ None
  unfolding after_dot
  after_none h = rw (eq-eqb (run digit m) 0 h)

  pub after_more : (run digit m ≡ 0 → ⊥) → run digit m < length m → after_dot a m ≡ None
  unfolding after_dot
  after_more h g = rw (ne_eqb (run digit m) 0 h, lt-ltb (run digit m) (length m) g)

  pub after_all : (run digit m ≡ 0 → ⊥) → length m ≤ run digit m → after_dot a m ≡ Some (pid (digits 0 a) (digits 0 m))
  unfolding after_dot
  after_all h g = rw (ne_eqb (run digit m) 0 h, le-ltb (run digit m) (length m) g)
