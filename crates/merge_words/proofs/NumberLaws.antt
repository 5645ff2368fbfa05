-- A number by its digits, and the two numbers of a PID value. Assumes nothing.
use mathlib.Core.Path.{◌≡◌, refl, sym, ap, ◌∙◌}
use mathlib.Core.Bool.{false}
use mathlib.Core.List.{List, [], ◌∷◌, ◌++◌}
use Prim.Native.Nat.{ℕ, suc, ◌+◌, ◌-◌, ◌*◌, ◌<◌, ◌≤◌}
use native.Mathlib.Numerals.{add-one}
use native.Mathlib.Omega.{arith}
use lib.Dec.{eqb, ltb}
use lib.ListN.{length, take, drop, get_or, length-append, get_or-eq_default}
use lib.Seq.{length-take-le, take_all, take-append_seam, drop-append-add, get_or-append_seam, split_at}
use borrow.Author.Tests.{ltb-true, ltb-false, lt-ltb, le-ltb, eqb-true, eqb-false}
use Rattle.octets.specs.Classes.{run, digit}
use Rattle.octets.proofs.Bools.{by, clash}
use Rattle.line_parser.specs.Grammar.{Each, Is}
use Rattle.line_parser.proofs.PartLaws.{run_le}
use Rattle.line_parameters.proofs.Complete.{run_append}
use Rattle.line_parameters.proofs.Sound.{run_each}
use Rattle.std.specs.Prelude.{Some, None}
use Rattle.merge_pids.specs.Numbers.{with_digit, digits, pid as pid_numbers, pid_of}
use Rattle.merge_pids.specs.declared.Pid.{Pid}
use Rattle.merge_pids.proofs.NumberLaws.{pid_none, pid_no_dot, pid_dot, after_none, after_more, after_all}
use Rattle.merge_words.specs.Pids.{decimal, PidText}
use Rattle.merge_words.specs.Sides.{capped}

-- ---- 65,536 for any larger number

pub capped_low : (n : ℕ) → n ≤ 65535 → capped n ≡ n
capped_low n h = rw (le-ltb 65535 n h)

pub capped_high : (n : ℕ) → 65535 < n → capped n ≡ 65536
capped_high n h = rw (lt-ltb 65535 n h)

-- a number and its capped form are over the limit together
pub capped_over : (n : ℕ) → 65535 < capped n → 65535 < n
capped_over n h = by (ltb 65535 n) (λ e. ltb-true 65535 n e) (λ e. absurd (omega (arith, capped_low n (ltb-false 65535 n e), ltb-false 65535 n e)))

pub over_capped : (n : ℕ) → 65535 < n → 65535 < capped n
over_capped n h = omega (arith, capped_high n h)

-- ---- digits

with_digit_lem : (n d : ℕ) → with_digit (capped n) d ≡ capped (n * 10 + (d - 48))
unfolding with_digit
with_digit_lem n d = by (ltb 65535 n)
    (λ e.
    let h = ltb-true 65535 n e in
    rw (e, lt-ltb 65535 (65536 * 10 + (d - 48)) (omega arith), lt-ltb 65535 (n * 10 + (d - 48)) (omega arith)))
    (λ e. rw e)

digits_from : (ds : List ℕ) (n : ℕ) → digits (capped n) ds ≡ capped (decimal n ds)
unfolding digits decimal
digits_from [] n = refl
digits_from (d ∷ ds) n = ap (λ (k : ℕ). digits k ds) (with_digit_lem n d) ∙ digits_from ds (n * 10 + (d - 48))

-- what is read of digits is their number, or 65,536 for any larger one
pub digits_law : (ds : List ℕ) → digits 0 ds ≡ capped (decimal 0 ds)
digits_law ds = digits_from ds 0

-- ---- runs of digits

pub digit_dot : digit 46 ≡ false
unfolding digit
digit_dot = refl

run_all : (ds : List ℕ) → Each (Is digit) ds → run digit ds ≡ length ds
unfolding run Each
run_all [] e = refl
run_all (d ∷ ds) e = rw (e.0, run_all ds e.1)

all_run : (ds : List ℕ) → length ds ≤ run digit ds → Each (Is digit) ds
all_run ds h = rw (take_all (run digit ds) ds h) at (run_each digit ds)

-- ---- a PID value

-- digits, a dot and digits count, with both numbers
pub pid_complete : (v : List ℕ) (p s : ℕ) → PidText v p s → pid_of v ≡ Some (pid_numbers (capped p) (capped s))
pid_complete v p s t =
    let b = t.before in
    let a = t.after in
    let n = length b in
    let r : run digit v ≡ n = ap (run digit) t.text ∙ run_append digit b (46 ∷ a) t.first.each digit_dot in
    let g : get_or v n 0 ≡ 46 = ap (λ (l : List ℕ). get_or l n 0) t.text ∙ get_or-append_seam b 46 a 0 in
    let f : take n v ≡ b = ap (take n) t.text ∙ take-append_seam b (46 ∷ a) in
    let m : drop (n + 1) v ≡ a = ap (drop (n + 1)) t.text ∙ drop-append-add b (46 ∷ a) 1 in
    let k : run digit a ≡ length a = run_all a t.source.each in
    let x : digits 0 b ≡ capped p = digits_law b ∙ ap capped (sym t.first.stands) in
    let y : digits 0 a ≡ capped s = digits_law a ∙ ap capped (sym t.source.stands) in
    let q : pid_of v ≡ Some (pid_numbers (digits 0 b) (digits 0 a)) =
    pid_dot v n (sym r) (λ z. omega (arith, t.first.some)) g ∙ rw (f, m) (after_all b a (λ z. omega (arith, t.source.some)) (omega arith)) in
    rw (← x, ← y) q

-- and nothing else does
pub record PidIn (v : List ℕ) (p s : ℕ) : Type 0 where
  pub first : ℕ
  pub source : ℕ
  pub text : PidText v first source
  pub first_is : p ≡ capped first
  pub source_is : s ≡ capped source

never : {A : Type 0} (v : List ℕ) {p s : ℕ} → pid_of v ≡ Some (pid_numbers p s) → pid_of v ≡ None → A
never v e f = clash cc

module _ (v : List ℕ) (p s : ℕ) (e : pid_of v ≡ Some (pid_numbers p s)) where
  abbrev D : ℕ
  D = run digit v

  abbrev M : List ℕ
  M = drop (D + 1) v

  whole : (D ≡ 0 → ⊥) → get_or v D 0 ≡ 46 → (run digit M ≡ 0 → ⊥) → length M ≤ run digit M → PidIn v p s
  whole some g more all =
      let short : D < length v = by (ltb D (length v)) (λ t. ltb-true D (length v) t)
      (λ t. absurd (omega (arith, g, get_or-eq_default v 0 {n = D} (ltb-false D (length v) t)))) in
      let q : Some (pid_numbers (digits 0 (take D v)) (digits 0 M)) ≡ Some (pid_numbers p s) = sym (pid_dot v D refl some g ∙ after_all (take D v) M more all) ∙ e in
      let r : pid_numbers (digits 0 (take D v)) (digits 0 M) ≡ pid_numbers p s = cc in
      let x : digits 0 (take D v) ≡ p = ap (λ (n : Pid). n.first) r in
      let y : digits 0 M ≡ s = ap (λ (n : Pid). n.source) r in
      record {
        first = decimal 0 (take D v);
        source = decimal 0 M;
        text = record {
          before = take D v;
          after = M;
          text = split_at v D 0 short ∙ ap (λ (n : ℕ). take D v ++ n ∷ drop (suc D) v) g ∙ ap (λ (n : ℕ). take D v ++ 46 ∷ drop n v) (sym (add-one D));
          first = record { some = omega (arith, length-take-le D v (run_le digit v), some); each = run_each digit v; stands = refl };
          source = record { some = omega (arith, more, run_le digit M); each = all_run M all; stands = refl };
        };
        first_is = sym x ∙ digits_law (take D v);
        source_is = sym y ∙ digits_law M;
      }

  pub pid_sound : PidIn v p s
  pid_sound =
      by (eqb D 0) (λ t. never v e (pid_none v D refl (eqb-true D 0 t))) (λ t.
      by (eqb (get_or v D 0) 46)
      (λ u.
      by (eqb (run digit M) 0) (λ z. never v e (pid_dot v D refl (eqb-false D 0 t) (eqb-true (get_or v D 0) 46 u) ∙ after_none (take D v) M (eqb-true (run digit M) 0 z))) (λ z.
      by (ltb (run digit M) (length M))
      (λ y. never v e (pid_dot v D refl (eqb-false D 0 t) (eqb-true (get_or v D 0) 46 u) ∙ after_more (take D v) M (eqb-false (run digit M) 0 z) (ltb-true (run digit M) (length M) y)))
      (λ y. whole (eqb-false D 0 t) (eqb-true (get_or v D 0) 46 u) (eqb-false (run digit M) 0 z) (ltb-false (run digit M) (length M) y))))
      (λ u. never v e (pid_no_dot v D refl (eqb-false D 0 t) (eqb-false (get_or v D 0) 46 u))))

-- a value that counts has three octets or more
pub pid_long : (v : List ℕ) (p s : ℕ) → PidText v p s → 3 ≤ length v
pid_long v p s t = omega (arith, ap length t.text, length-append t.before (46 ∷ t.after), t.first.some, t.source.some)
