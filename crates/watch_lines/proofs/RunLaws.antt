-- Lines judged in two runs, and the reader's lines of an input that has ended. Assumes nothing.
use mathlib.Core.Path.{◌≡◌, refl, sym, ap, subst, ◌∙◌}
use mathlib.Core.Bool.{true, false≢true}
use mathlib.Core.List.{List, [], ◌∷◌, ◌++◌, append_assoc}
use Prim.Native.Nat.{ℕ, zero, suc, ◌+◌, ◌-◌, ◌<◌, ◌≤◌}
use native.Mathlib.Omega.{arith}
use lib.Dec.{ltb}
use lib.ListN.{length, take, drop, length-drop, length-append, take-append-drop}
use lib.Seq.{length-take-le, take-append-le, drop-append-add}
use borrow.Author.Tests.{ltb-true, ltb-false}
use Rattle.octets.proofs.Bools.{by}
use Rattle.line_folds.specs.Folds.{line_length, unfolded}
use Rattle.line_folds.specs.Logical.{raw_lines}
use Rattle.line_folds.proofs.LineLaws.{lines_step, lines_end}
use Rattle.property_table.specs.declared.Edition.{Edition}
use Rattle.property_table.specs.declared.Edition.TheVariants.{First}
use Rattle.card_state.specs.State.{Card, Step, Next, Refused, Flawed}
use Rattle.card_judge.specs.Judge.{judge_line}
use Rattle.reader_walk.specs.Walk.{onward, settled, judge_lines}
use Rattle.watch_arrivals.specs.Arrivals.{tail_from, lone_from, next_from}
use Rattle.watch_arrivals.proofs.ArrivalLaws.{next_append, next_le, next_tail, next_least, next_line, tail_append, tails_other, fine_next}
use Rattle.watch_lines.specs.Parting.{Parting, with_line, opened, parted, ended_lines, open_line}
use Rattle.watch_lines.specs.Values.{halted, values_on, values_next, values_from}
use Rattle.watch_lines.proofs.PartingLaws.{parted_step, parted_open, parted_append}

-- the octets of lines with their ends
unfoldable pub sizes : List (List ℕ) → ℕ
sizes [] = 0
sizes (l ∷ ls) = length l + 2 + sizes ls

run_step : (s : Step) (f g h : Card → Step) → ((d : Card) → f d ≡ onward (g d) h) → onward s f ≡ onward (onward s g) h
run_step (Next c) f g h e = e c
run_step (Refused n p) f g h e = refl
run_step (Flawed n o) f g h e = refl

-- two runs
pub judge_append : (e : Edition) (xs ys : List (List ℕ)) (p : ℕ) (c : Card) → judge_lines e (xs ++ ys) p c ≡ onward (judge_lines e xs p c) (judge_lines e ys (p + sizes xs))
unfolding judge_lines sizes
judge_append e [] ys p c = let z : p ≡ p + 0 = omega arith in ap (λ (q : ℕ). judge_lines e ys q c) z
judge_append e (x ∷ xs) ys p c =
    let z : p + length x + 2 + sizes xs ≡ p + (length x + 2 + sizes xs) = omega arith in
    let s = settled p x (judge_line e c p (unfolded x)) in
    run_step s (judge_lines e (xs ++ ys) (p + length x + 2)) (judge_lines e xs (p + length x + 2)) (judge_lines e ys (p + length x + 2 + sizes xs))
    (λ d. judge_append e xs ys (p + length x + 2) d)
    ∙ ap (λ (q : ℕ). onward (onward s (judge_lines e xs (p + length x + 2))) (judge_lines e ys q)) z

value_step : (j : Step) (p : ℕ) (x : List ℕ) (f : Card → List ℕ) (g : Card → Step) (h : List ℕ → Card → List ℕ) (k : Card → List ℕ)
    → ((d : Card) → f d ≡ values_on (g d) (h (k d))) → values_on j f ≡ values_on (onward (settled p x j) g) (h (values_on j k))
value_step (Next c) p x f g h k e = e c
value_step (Refused n q) p x f g h k e = refl
value_step (Flawed n o) p x f g h k e = refl

-- what is kept after two runs
pub values_append : (xs ys : List (List ℕ)) (p : ℕ) (c : Card) (a : List ℕ)
    → values_from (xs ++ ys) p c a ≡ values_on (judge_lines First xs p c) (λ d. values_from ys (p + sizes xs) d (values_from xs p c a))
unfolding judge_lines values_from sizes
values_append [] ys p c a = let z : p ≡ p + 0 = omega arith in ap (λ (q : ℕ). values_from ys q c a) z
values_append (x ∷ xs) ys p c a =
    let z : p + length x + 2 + sizes xs ≡ p + (length x + 2 + sizes xs) = omega arith in
    let j = judge_line First c p (unfolded x) in
    let next : Card → List ℕ = λ d. values_from xs (p + length x + 2) d (values_next a c x d) in
    value_step j p x (λ d. values_from (xs ++ ys) (p + length x + 2) d (values_next a c x d)) (judge_lines First xs (p + length x + 2))
    (λ v d. values_from ys (p + length x + 2 + sizes xs) d v) next
    (λ d. values_append xs ys (p + length x + 2) d (values_next a c x d))
    ∙ ap (λ (q : ℕ). values_on (onward (settled p x j) (judge_lines First xs (p + length x + 2))) (λ d. values_from ys q d (values_on j next))) z

halt_step : (j : Step) (p : ℕ) (x : List ℕ) (g : Card → Step) (f : Card → List ℕ) → ((d : Card) → halted (g d) ≡ true → f d ≡ [])
    → halted (onward (settled p x j) g) ≡ true → values_on j f ≡ []
halt_step (Next c) p x g f e h = e c h
halt_step (Refused n q) p x g f e h = refl
halt_step (Flawed n o) p x g f e h = refl

-- after a refusal nothing is kept
pub halted_values : (ls : List (List ℕ)) (p : ℕ) (c : Card) (a : List ℕ) → halted (judge_lines First ls p c) ≡ true → values_from ls p c a ≡ []
unfolding judge_lines values_from
halted_values [] p c a h = absurd (false≢true h)
halted_values (x ∷ xs) p c a h =
    halt_step (judge_line First c p (unfolded x)) p x (judge_lines First xs (p + length x + 2)) (λ d. values_from xs (p + length x + 2) d (values_next a c x d))
    (λ d. halted_values xs (p + length x + 2) d (values_next a c x d)) h

-- a list from its next line on ends as it does
tail_next : (l : List ℕ) → next_from 0 l < length l → tail_from 0 (drop (next_from 0 l) l) ≡ tail_from 0 l
tail_next l h =
    let k = next_from 0 l in
    let n : length (drop k l) ≡ length l - k = length-drop k l in
    sym (ap (tail_from 0) (sym (take-append-drop k l)) ∙ tail_append 0 (take k l) (drop k l) ∙ ap (λ (t : ℕ). tail_from t (drop k l)) (next_tail 0 l h) ∙ some (drop k l) (omega (arith, n)))
  where
    some : (m : List ℕ) → 0 < length m → tail_from 2 m ≡ tail_from 0 m
    some [] h = absurd (omega arith)
    some (x ∷ xs) h = tails_other 2 x xs (λ z. omega arith)

-- what is known of the open line of an input that is parted so
pub record OpenIn (i : List ℕ) (q : Parting) : Type 0 where
  -- it has not ended
  pub goes : next_from 0 q.left ≡ length q.left
  -- it ends as the input does
  pub tail : tail_from 0 q.left ≡ tail_from 0 i
  -- it stands behind the lines that have ended
  pub size : sizes q.ended + length q.left ≡ length i
  -- it has an octet where the input has one
  pub some : 0 < length i → 0 < length q.left
  -- no lone CR or LF is known in it where none is in the input
  pub fine : lone_from 0 i ≡ length i + 1 → lone_from 0 q.left ≡ length q.left + 1
  -- the reader's lines are those that have ended, and the open one without its end
  pub lines : lone_from 0 i ≡ length i + 1 → 0 < length i → raw_lines i ≡ q.ended ++ (take (line_length q.left) q.left ∷ [])

abbrev pub Open : List ℕ → Type 0
Open i = OpenIn i (parted i)

-- the reader's lines, the first ended
raw_step : (l : List ℕ) → lone_from 0 l ≡ length l + 1 → next_from 0 l < length l → raw_lines l ≡ take (next_from 0 l - 2) l ∷ raw_lines (drop (next_from 0 l) l)
raw_step l f h =
    let e = next_line l f in
    let n : next_from 0 l ≡ line_length l + 2 =
    by (ltb (line_length l + 2) (length l)) (λ p. e ∙ rw p) (λ p. let g : next_from 0 l ≡ length l = e ∙ rw p in absurd (omega arith)) in
    let m : next_from 0 l - 2 ≡ line_length l = omega (arith, n) in
    let o : 0 + (line_length l + 2) ≡ next_from 0 l = omega (arith, n) in
    lines_step l 0 (omega arith) (line_length l) refl
    ∙ ap (λ (k : ℕ). take (line_length l) l ∷ raw_lines (drop k l)) o
    ∙ ap (λ (k : ℕ). take k l ∷ raw_lines (drop (next_from 0 l) l)) (sym m)

raw_open : (l : List ℕ) → lone_from 0 l ≡ length l + 1 → length l ≤ next_from 0 l → 0 < length l → raw_lines l ≡ take (line_length l) l ∷ []
raw_open l f h n =
    let e = next_line l f in
    let m : length l ≤ line_length l + 2 =
    by (ltb (line_length l + 2) (length l)) (λ p. let g : next_from 0 l ≡ line_length l + 2 = e ∙ rw p in omega (arith, h, g)) (λ p. ltb-false (line_length l + 2) (length l) p) in
    lines_step l 0 (omega arith) (line_length l) refl
    ∙ ap (λ (ls : List (List ℕ)). take (line_length l) l ∷ ls) (lines_end l (0 + (line_length l + 2)) (omega (arith, m)))

-- the first line has not ended
open_none : (i : List ℕ) → length i ≤ next_from 0 i → Open i
unfolding sizes
open_none i h = subst (OpenIn i) (sym (parted_open i h)) (record {
  goes = omega (arith, h, next_le 0 i);
  tail = refl;
  size = omega arith;
  some = λ n. n;
  fine = λ f. f;
  lines = λ f n. raw_open i f h n;
})

-- it has, and the rest is known
open_some : (i : List ℕ) → next_from 0 i < length i → Open (drop (next_from 0 i) i) → Open i
unfolding sizes
open_some i h o =
    let k = next_from 0 i in
    let n : length (drop k i) ≡ length i - k = length-drop k i in
    let least = next_least i h in
    let t : length (take (k - 2) i) ≡ k - 2 = length-take-le (k - 2) i (omega arith) in
    subst (OpenIn i) (sym (parted_step i h)) (record {
      goes = o.goes;
      tail = o.tail ∙ tail_next i h;
      size = omega (arith, t, n, o.size, least);
      some = λ m. o.some (omega (arith, n));
      fine = λ f. o.fine (fine_next 0 i f h);
      lines = λ f m. raw_step i f h ∙ ap (λ (ls : List (List ℕ)). take (k - 2) i ∷ ls) (o.lines (fine_next 0 i f h) (omega (arith, n)));
    })

open_by : (n : ℕ) (i : List ℕ) → length i ≤ n → Open i
open_by zero i h = open_none i (omega arith)
open_by (suc n) i h =
    by (ltb (next_from 0 i) (length i))
    (λ p.
    let lt = ltb-true (next_from 0 i) (length i) p in
    open_some i lt (open_by n (drop (next_from 0 i) i) (omega (arith, next_least i lt, lt, length-drop (next_from 0 i) i))))
    (λ p. open_none i (ltb-false (next_from 0 i) (length i) p))

pub open_law : (i : List ℕ) → Open i
open_law i = open_by (length i) i (omega arith)

-- octets that come later: where the next line starts in them
module _ (i c : List ℕ) where
  abbrev o : List ℕ
  o = open_line i

  abbrev e : ℕ
  e = next_from (tail_from 0 i) c

  next_is : next_from 0 (o ++ c) ≡ length o + e
  next_is = next_append 0 o c (open_law i).goes ∙ ap (λ (t : ℕ). length o + next_from t c) (open_law i).tail

  both : length (o ++ c) ≡ length o + length c
  both = length-append o c

  -- the lines that have ended with them, and the open line
  pub ended_all : ended_lines (i ++ c) ≡ ended_lines i ++ ended_lines (o ++ c)
  ended_all = ap (λ (q : Parting). q.ended) (parted_append i c)

  pub open_all : open_line (i ++ c) ≡ open_line (o ++ c)
  open_all = ap (λ (q : Parting). q.left) (parted_append i c)

  -- no line ends with them
  pub none_ends : length c ≤ e → parted (o ++ c) ≡ opened (o ++ c)
  none_ends h = parted_open (o ++ c) (omega (arith, next_is, both))

  -- the open line ends before octet e of them
  pub some_ends : e < length c → parted (o ++ c) ≡ with_line (take (length o + e - 2) (o ++ c)) (parted (drop e c))
  some_ends h =
      let lt : next_from 0 (o ++ c) < length (o ++ c) = omega (arith, next_is, both) in
      let n : next_from 0 (o ++ c) - 2 ≡ length o + e - 2 = omega (arith, next_is) in
      parted_step (o ++ c) lt
      ∙ ap (λ (k : ℕ). with_line (take k (o ++ c)) (parted (drop (next_from 0 (o ++ c)) (o ++ c)))) n
      ∙ ap (λ (x : List ℕ). with_line (take (length o + e - 2) (o ++ c)) (parted x)) (ap (λ (k : ℕ). drop k (o ++ c)) next_is ∙ drop-append-add o c e)

  pub two_there : e < length c → 2 ≤ length o + e
  two_there h = omega (arith, next_least (o ++ c) (omega (arith, next_is, both)), next_is)

  -- the line that ends, its CR LF and the rest
  pub ends_size : e < length c → length (take (length o + e - 2) (o ++ c)) + 2 + length (drop e c) ≡ length (o ++ c)
  ends_size h =
      let n : length (take (length o + e - 2) (o ++ c)) ≡ length o + e - 2 = length-take-le (length o + e - 2) (o ++ c) (omega (arith, both)) in
      omega (arith, n, length-drop e c, both, two_there h)

  -- the line that ends, by the octets that end it
  pub line_ends : e < length c → take (length o + e - 2) (o ++ take e c) ≡ take (length o + e - 2) (o ++ c)
  line_ends h =
      let n : length (take e c) ≡ e = length-take-le e c (omega arith) in
      let w : o ++ c ≡ (o ++ take e c) ++ drop e c = ap (λ (x : List ℕ). o ++ x) (sym (take-append-drop e c)) ∙ sym (append_assoc o (take e c) (drop e c)) in
      sym (ap (take (length o + e - 2)) w ∙ take-append-le (length o + e - 2) (o ++ take e c) (drop e c) (rw (length-append o (take e c)) (omega (arith, n))))
