-- Octets that arrive in two parts, and the reader's own ends of lines. Assumes nothing.
use mathlib.Core.Path.{◌≡◌, refl, sym, ap, ◌∙◌}
use mathlib.Core.Bool.{true, false, not, ◌&&◌}
use mathlib.Core.List.{List, [], ◌∷◌, ◌++◌}
use Prim.Native.Nat.{ℕ, suc, ◌+◌, ◌-◌, ◌<◌, ◌≤◌}
use native.Mathlib.Nat.{zero-add}
use native.Mathlib.Omega.{arith}
use lib.Dec.{eqb, ltb}
use lib.ListN.{length, get_or, take, drop, length-drop}
use lib.Seq.{take-suc, take-length, take_all, get_or-take, get_or-drop, length-take-le}
use borrow.Author.Tests.{eqb-true, eqb-false, ne_eqb, eq-eqb, ltb-true, ltb-false, lt-ltb, le-ltb}
use Rattle.octets.specs.Pick.{pick}
use Rattle.octets.specs.Scan.{scan, after}
use Rattle.octets.proofs.Bools.{by, and_both}
use Rattle.octets.proofs.Scans.{scan_le}
use Rattle.line_breaks.specs.Lone.{lone_step, first_lone, ends_cr_lf}
use Rattle.line_folds.specs.Folds.{fold_at, line_step, line_length}
use Rattle.watch_arrivals.specs.Arrivals.{tail_step, tail_from, lone_from, blank, next_from}

-- only a CR before decides with the next octet
tail_other : (t x : ℕ) → (t ≡ 1 → ⊥) → tail_step t x ≡ tail_step 0 x
unfolding tail_step
tail_other t x h = rw (ne_eqb t 1 h)

pub tails_other : (t x : ℕ) (xs : List ℕ) → (t ≡ 1 → ⊥) → tail_from t (x ∷ xs) ≡ tail_from 0 (x ∷ xs)
unfolding tail_from
tails_other t x xs h = ap (λ (u : ℕ). tail_from u xs) (tail_other t x h)

pub lone_other : (t : ℕ) (l : List ℕ) → (t ≡ 1 → ⊥) → lone_from t l ≡ lone_from 0 l
unfolding lone_from
lone_other t [] h = refl
lone_other t (x ∷ xs) h = rw (ne_eqb t 1 h, tail_other t x h)

pub tail_append : (t : ℕ) (xs ys : List ℕ) → tail_from t (xs ++ ys) ≡ tail_from (tail_from t xs) ys
unfolding tail_from
tail_append t [] ys = refl
tail_append t (x ∷ xs) ys = tail_append (tail_step t x) xs ys

tail_lf : tail_step 1 10 ≡ 2
unfolding tail_step
tail_lf = refl

-- no lone CR or LF is known in the first part: then the second decides
pub lone_append : (t : ℕ) (xs ys : List ℕ) → lone_from t xs ≡ length xs + 1 → lone_from t (xs ++ ys) ≡ length xs + lone_from (tail_from t xs) ys
unfolding lone_from tail_from
lone_append t [] ys e = sym (zero-add (lone_from t ys))
lone_append t (x ∷ xs) ys e =
    by (eqb t 1)
    (λ p. by (eqb x 10)
    (λ q.
    let w : tail_step t x ≡ 2 = rw (eqb-true t 1 p, eqb-true x 10 q) tail_lf in
    let f : suc (lone_from 2 xs) ≡ suc (length xs) + 1 = rw (p, q) at e in
    let g : lone_from 2 (xs ++ ys) ≡ length xs + lone_from (tail_from 2 xs) ys = lone_append 2 xs ys (omega arith) in
    rw (p, q, w, g) (omega arith))
    (λ q. let f : 0 ≡ suc (length xs) + 1 = rw (p, q) at e in absurd (omega arith)))
    (λ p. by (eqb x 10)
    (λ q. let f : 1 ≡ suc (length xs) + 1 = rw (p, q) at e in absurd (omega arith))
    (λ q.
    let f : suc (lone_from (tail_step t x) xs) ≡ suc (length xs) + 1 = rw (p, q) at e in
    let g : lone_from (tail_step t x) (xs ++ ys) ≡ length xs + lone_from (tail_from (tail_step t x) xs) ys = lone_append (tail_step t x) xs ys (omega arith) in
    rw (p, q, g) (omega arith)))

-- one that is known stays
pub lone_known : (t : ℕ) (xs ys : List ℕ) → lone_from t xs ≤ length xs → lone_from t (xs ++ ys) ≡ lone_from t xs
unfolding lone_from
lone_known t [] ys h = absurd (omega arith)
lone_known t (x ∷ xs) ys h =
    by (eqb t 1)
    (λ p. by (eqb x 10)
    (λ q.
    let f : suc (lone_from 2 xs) ≤ suc (length xs) = rw (p, q) at h in
    rw (p, q) (ap suc (lone_known 2 xs ys (omega arith))))
    (λ q. rw (p, q)))
    (λ p. by (eqb x 10)
    (λ q. rw (p, q))
    (λ q.
    let f : suc (lone_from (tail_step t x) xs) ≤ suc (length xs) = rw (p, q) at h in
    rw (p, q) (ap suc (lone_known (tail_step t x) xs ys (omega arith)))))

pub lone_le : (t : ℕ) (l : List ℕ) → lone_from t l ≤ length l + 1
unfolding lone_from
lone_le t [] = omega arith
lone_le t (x ∷ xs) =
    by (eqb t 1)
    (λ p. by (eqb x 10) (λ q. rw (p, q) (omega (arith, lone_le 2 xs))) (λ q. rw (p, q) (omega arith)))
    (λ p. by (eqb x 10) (λ q. rw (p, q) (omega arith)) (λ q. rw (p, q) (omega (arith, lone_le (tail_step t x) xs))))

-- the line at hand has not ended in the first part: then the second decides
pub next_append : (t : ℕ) (xs ys : List ℕ) → next_from t xs ≡ length xs → next_from t (xs ++ ys) ≡ length xs + next_from (tail_from t xs) ys
unfolding next_from tail_from
next_append t [] ys e = sym (zero-add (next_from t ys))
next_append t (x ∷ xs) ys e =
    by (eqb t 2 && not (blank x))
    (λ p. let f : 0 ≡ suc (length xs) = rw p at e in absurd (omega arith))
    (λ p.
    let f : suc (next_from (tail_step t x) xs) ≡ suc (length xs) = rw p at e in
    let g : next_from (tail_step t x) (xs ++ ys) ≡ length xs + next_from (tail_from (tail_step t x) xs) ys = next_append (tail_step t x) xs ys (omega arith) in
    rw (p, g) (omega arith))

pub next_known : (t : ℕ) (xs ys : List ℕ) → next_from t xs < length xs → next_from t (xs ++ ys) ≡ next_from t xs
unfolding next_from
next_known t [] ys h = absurd (omega arith)
next_known t (x ∷ xs) ys h =
    by (eqb t 2 && not (blank x))
    (λ p. rw p)
    (λ p.
    let f : suc (next_from (tail_step t x) xs) < suc (length xs) = rw p at h in
    rw p (ap suc (next_known (tail_step t x) xs ys (omega arith))))

pub next_le : (t : ℕ) (l : List ℕ) → next_from t l ≤ length l
unfolding next_from
next_le t [] = omega arith
next_le t (x ∷ xs) = by (eqb t 2 && not (blank x)) (λ p. rw p (omega arith)) (λ p. rw p (omega (arith, next_le (tail_step t x) xs)))

-- by the reader's first lone CR or LF
abbrev known_by : ℕ → List ℕ → ℕ
known_by k l = pick (eqb (k + 1) (length l) && eqb (get_or l k 0) 13) (length l + 1) (k + 1)

known_suc : (k x : ℕ) (l : List ℕ) → suc (known_by k l) ≡ known_by (suc k) (x ∷ l)
known_suc k x l =
    let e : eqb (suc k + 1) (suc (length l)) ≡ eqb (k + 1) (length l) = by (eqb (k + 1) (length l)) (λ p. rw p (eq-eqb (suc k + 1) (suc (length l)) (omega (arith, eqb-true (k + 1) (length l) p)))) (λ p. rw p (ne_eqb (suc k + 1) (suc (length l)) (λ q. eqb-false (k + 1) (length l) p (omega (arith, q))))) in
    rw e (by (eqb (k + 1) (length l) && eqb (get_or l k 0) 13) (λ p. rw p (omega arith)) (λ p. rw p (omega arith)))

tail_plain : (t x : ℕ) → eqb x 13 ≡ false → eqb x 10 ≡ false → tail_step t x ≡ 0
unfolding tail_step
tail_plain t x p q = rw (p, q) (by (eqb t 1) (λ e. rw e) (λ e. rw e))

tail_cr : (t : ℕ) → tail_step t 13 ≡ 1
unfolding tail_step
tail_cr t = refl

-- one step of the reader's search
lone_step_lem : (x : ℕ) (xs : List ℕ) (n : ℕ) → lone_step (x ∷ xs) ≡ n → scan lone_step (x ∷ xs) 0 ≡ after n (scan lone_step xs)
unfolding scan
lone_step_lem x xs n e = ap (λ (k : ℕ). after k (scan lone_step xs)) e

skip_one : (y : ℕ) (ys : List ℕ) → scan lone_step (y ∷ ys) 1 ≡ suc (scan lone_step ys 0)
unfolding scan
skip_one y ys = refl

step_lf : (x : ℕ) (xs : List ℕ) → eqb x 10 ≡ true → lone_step (x ∷ xs) ≡ 0
unfolding lone_step
step_lf x xs p = rw p

step_plain : (x : ℕ) (xs : List ℕ) → eqb x 10 ≡ false → eqb x 13 ≡ false → lone_step (x ∷ xs) ≡ 1
unfolding lone_step
step_plain x xs p q = rw (p, q)

step_pair : (x y : ℕ) (xs : List ℕ) → eqb x 10 ≡ false → eqb x 13 ≡ true → eqb y 10 ≡ true → lone_step (x ∷ y ∷ xs) ≡ 2
unfolding lone_step
step_pair x y xs p q r = rw (p, q, r)

step_cr : (x : ℕ) (xs : List ℕ) → eqb x 10 ≡ false → eqb x 13 ≡ true → eqb (get_or xs 0 0) 10 ≡ false → lone_step (x ∷ xs) ≡ 0
unfolding lone_step
step_cr x xs p q r = rw (p, q, r)

-- a list whose search agrees
abbrev Agrees : List ℕ → Type 0
Agrees l = lone_from 0 l ≡ known_by (first_lone l) l

lone_lf : (x : ℕ) (xs : List ℕ) → eqb x 10 ≡ true → Agrees (x ∷ xs)
unfolding lone_from first_lone
lone_lf x xs p = rw (lone_step_lem x xs 0 (step_lf x xs p), p, eqb-true x 10 p) (by (eqb 1 (suc (length xs))) (λ e. rw e) (λ e. rw e))

lone_plain : (x : ℕ) (xs : List ℕ) → eqb x 10 ≡ false → eqb x 13 ≡ false → Agrees xs → Agrees (x ∷ xs)
unfolding lone_from first_lone
lone_plain x xs p q a = rw (lone_step_lem x xs 1 (step_plain x xs p q), p, tail_plain 0 x q p, a) (known_suc (first_lone xs) x xs)

lone_cr : (x : ℕ) → eqb x 10 ≡ false → eqb x 13 ≡ true → Agrees (x ∷ [])
unfolding lone_from first_lone
lone_cr x p q = rw (lone_step_lem x [] 0 (step_cr x [] p q refl), eqb-true x 13 q)

lone_pair : (x y : ℕ) (ys : List ℕ) → eqb x 10 ≡ false → eqb x 13 ≡ true → eqb y 10 ≡ true → Agrees ys → Agrees (x ∷ y ∷ ys)
unfolding lone_from first_lone
lone_pair x y ys p q r a =
    rw (lone_step_lem x (y ∷ ys) 2 (step_pair x y ys p q r), skip_one y ys, p, eqb-true x 13 q, tail_cr 0, r, lone_other 2 ys (λ z. omega arith), a)
    (ap suc (known_suc (first_lone ys) y ys) ∙ known_suc (suc (first_lone ys)) x (y ∷ ys))

lone_broken : (x y : ℕ) (ys : List ℕ) → eqb x 10 ≡ false → eqb x 13 ≡ true → eqb y 10 ≡ false → Agrees (x ∷ y ∷ ys)
unfolding lone_from first_lone
lone_broken x y ys p q r =
    rw (lone_step_lem x (y ∷ ys) 0 (step_cr x (y ∷ ys) p q r), eqb-true x 13 q, tail_cr 0, r, ne_eqb 1 (suc (suc (length ys))) (λ z. omega arith))

pub lone_first : (l : List ℕ) → lone_from 0 l ≡ known_by (first_lone l) l
unfolding lone_from first_lone scan
lone_first [] = refl
lone_first (x ∷ []) = by (eqb x 10) (lone_lf x []) (λ p. by (eqb x 13) (lone_cr x p) (λ q. lone_plain x [] p q (lone_first [])))
lone_first (x ∷ y ∷ ys) =
    by (eqb x 10) (lone_lf x (y ∷ ys))
    (λ p. by (eqb x 13)
    (λ q. by (eqb y 10) (λ r. lone_pair x y ys p q r (lone_first ys)) (λ r. lone_broken x y ys p q r))
    (λ q. lone_plain x (y ∷ ys) p q (lone_first (y ∷ ys))))

-- by the reader's first logical line
abbrev ended_by : ℕ → List ℕ → ℕ
ended_by k l = pick (ltb (k + 2) (length l)) (k + 2) (length l)

ended_suc : (k x : ℕ) (l : List ℕ) → suc (ended_by k l) ≡ ended_by (suc k) (x ∷ l)
ended_suc k x l =
    by (ltb (k + 2) (length l))
    (λ p. rw (p, lt-ltb (suc k + 2) (suc (length l)) (omega (arith, ltb-true (k + 2) (length l) p))) (omega arith))
    (λ p. rw (p, le-ltb (suc k + 2) (suc (length l)) (omega (arith, ltb-false (k + 2) (length l) p))))

line_step_lem : (x : ℕ) (xs : List ℕ) (n : ℕ) → line_step (x ∷ xs) ≡ n → scan line_step (x ∷ xs) 0 ≡ after n (scan line_step xs)
unfolding scan
line_step_lem x xs n e = ap (λ (k : ℕ). after k (scan line_step xs)) e

skip_two : (y z : ℕ) (zs : List ℕ) → scan line_step (y ∷ z ∷ zs) 2 ≡ suc (suc (scan line_step zs 0))
unfolding scan
skip_two y z zs = refl

line_plain : (x : ℕ) (xs : List ℕ) → eqb x 13 ≡ false → line_step (x ∷ xs) ≡ 1
unfolding line_step fold_at
line_plain x xs p = rw p

line_fold : (x y z : ℕ) (zs : List ℕ) → eqb x 13 ≡ true → eqb y 10 ≡ true → blank z ≡ true → line_step (x ∷ y ∷ z ∷ zs) ≡ 3
unfolding line_step fold_at blank
line_fold x y z zs p q r = rw (p, q, r)

line_cr : (x : ℕ) (xs : List ℕ) → eqb x 13 ≡ true → (eqb (get_or xs 0 0) 10 && blank (get_or xs 1 0)) ≡ false → line_step (x ∷ xs) ≡ 0
unfolding line_step fold_at blank
line_cr x xs p q = rw (p, q)

blank_plain : (z : ℕ) → blank z ≡ true → (eqb z 13 ≡ false) × (eqb z 10 ≡ false)
unfolding blank
blank_plain z e =
    by (eqb z 32)
    (λ p. rw (eqb-true z 32 p) (refl, refl))
    (λ p. let q : eqb z 9 ≡ true = rw p at e in rw (eqb-true z 9 q) (refl, refl))

-- an octet after which no lone CR or LF is known
not_lf : (x : ℕ) (xs : List ℕ) → lone_from 0 (x ∷ xs) ≡ length (x ∷ xs) + 1 → (eqb x 10 ≡ false) × (lone_from (tail_step 0 x) xs ≡ length xs + 1)
unfolding lone_from
not_lf x xs e =
    by (eqb x 10)
    (λ p. let f : 1 ≡ suc (length xs) + 1 = rw p at e in absurd (omega arith))
    (λ p. let f : suc (lone_from (tail_step 0 x) xs) ≡ suc (length xs) + 1 = rw p at e in (p, omega arith))

is_lf : (y : ℕ) (ys : List ℕ) → lone_from 1 (y ∷ ys) ≡ length (y ∷ ys) + 1 → (eqb y 10 ≡ true) × (lone_from 0 ys ≡ length ys + 1)
unfolding lone_from
is_lf y ys e =
    by (eqb y 10)
    (λ p. let f : suc (lone_from 2 ys) ≡ suc (length ys) + 1 = rw p at e in (p, sym (lone_other 2 ys (λ z. omega arith)) ∙ omega arith))
    (λ p. let f : 0 ≡ suc (length ys) + 1 = rw p at e in absurd (omega arith))

next_plain : (x : ℕ) (xs : List ℕ) → next_from 0 (x ∷ xs) ≡ suc (next_from (tail_step 0 x) xs)
unfolding next_from
next_plain x xs = refl

next_lf : (ys : List ℕ) → next_from 1 (10 ∷ ys) ≡ suc (next_from 2 ys)
unfolding next_from tail_step
next_lf ys = refl

next_blank : (z : ℕ) (zs : List ℕ) → blank z ≡ true → next_from 2 (z ∷ zs) ≡ suc (next_from 0 zs)
unfolding next_from
next_blank z zs e = rw (e, tail_plain 2 z (blank_plain z e).0 (blank_plain z e).1)

next_here : (z : ℕ) (zs : List ℕ) → blank z ≡ false → next_from 2 (z ∷ zs) ≡ 0
unfolding next_from
next_here z zs e = rw e

lone_blank : (z : ℕ) (zs : List ℕ) → blank z ≡ true → lone_from 0 (z ∷ zs) ≡ length (z ∷ zs) + 1 → lone_from 0 zs ≡ length zs + 1
lone_blank z zs b e = rw (tail_plain 0 z (blank_plain z b).0 (blank_plain z b).1) at (not_lf z zs e).1

abbrev Fine : List ℕ → Type 0
Fine l = lone_from 0 l ≡ length l + 1

abbrev Meets : List ℕ → Type 0
Meets l = Fine l → next_from 0 l ≡ ended_by (line_length l) l

meet_plain : (x : ℕ) (xs : List ℕ) → eqb x 13 ≡ false → Meets xs → Meets (x ∷ xs)
unfolding line_length
meet_plain x xs p m e =
    let k = not_lf x xs e in
    let t : tail_step 0 x ≡ 0 = tail_plain 0 x p k.0 in
    let h : lone_from 0 xs ≡ length xs + 1 = rw t at k.1 in
    rw (line_step_lem x xs 1 (line_plain x xs p)) (next_plain x xs ∙ rw t (ap suc (m h)) ∙ ended_suc (line_length xs) x xs)

meet_cr : (x : ℕ) → eqb x 13 ≡ true → Meets (x ∷ [])
unfolding line_length next_from
meet_cr x p e = rw (line_step_lem x [] 0 (line_cr x [] p refl))

-- CR LF, and what follows
pair : (x y : ℕ) (ys : List ℕ) → eqb x 13 ≡ true → Fine (x ∷ y ∷ ys) → (y ≡ 10) × Fine ys × (next_from 0 (x ∷ y ∷ ys) ≡ suc (suc (next_from 2 ys)))
pair x y ys p e =
    let k = not_lf x (y ∷ ys) e in
    let t : tail_step 0 x ≡ 1 = rw (eqb-true x 13 p) (tail_cr 0) in
    let j = is_lf y ys (rw t at k.1) in
    let z = eqb-true y 10 j.0 in
    (z, j.1, next_plain x (y ∷ ys) ∙ rw (t, z) (ap suc (next_lf ys)))

meet_pair : (x y : ℕ) → eqb x 13 ≡ true → Meets (x ∷ y ∷ [])
unfolding line_length next_from blank
meet_pair x y p e =
    let k = pair x y [] p e in
    k.2 ∙ rw (k.0, line_step_lem x (10 ∷ []) 0 (line_cr x (10 ∷ []) p refl))

meet_fold : (x y z : ℕ) (zs : List ℕ) → eqb x 13 ≡ true → blank z ≡ true → Meets zs → Meets (x ∷ y ∷ z ∷ zs)
unfolding line_length
meet_fold x y z zs p b m e =
    let k = pair x y (z ∷ zs) p e in
    k.2
    ∙ rw (k.0, line_step_lem x (10 ∷ z ∷ zs) 3 (line_fold x 10 z zs p refl b), skip_two 10 z zs, next_blank z zs b, m (lone_blank z zs b k.1))
    (ap (λ (n : ℕ). suc (suc n)) (ended_suc (line_length zs) z zs) ∙ ap suc (ended_suc (suc (line_length zs)) 10 (z ∷ zs)) ∙ ended_suc (suc (suc (line_length zs))) x (10 ∷ z ∷ zs))

meet_end : (x y z : ℕ) (zs : List ℕ) → eqb x 13 ≡ true → blank z ≡ false → Meets (x ∷ y ∷ z ∷ zs)
unfolding line_length
meet_end x y z zs p b e =
    let k = pair x y (z ∷ zs) p e in
    k.2
    ∙ rw (k.0, line_step_lem x (10 ∷ z ∷ zs) 0 (line_cr x (10 ∷ z ∷ zs) p b), next_here z zs b)
    (rw (lt-ltb 2 (suc (suc (suc (length zs)))) (omega arith)) refl)

-- the line at hand ends with the reader's first logical line and its CR LF, where an octet stands after them
pub next_line : (l : List ℕ) → lone_from 0 l ≡ length l + 1 → next_from 0 l ≡ ended_by (line_length l) l
unfolding line_length next_from scan
next_line [] = λ e. refl
next_line (x ∷ []) = by (eqb x 13) (meet_cr x) (λ p. meet_plain x [] p (next_line []))
next_line (x ∷ y ∷ []) = by (eqb x 13) (meet_pair x y) (λ p. meet_plain x (y ∷ []) p (next_line (y ∷ [])))
next_line (x ∷ y ∷ z ∷ zs) =
    by (eqb x 13)
    (λ p. by (blank z) (λ b. meet_fold x y z zs p b (next_line zs)) (meet_end x y z zs p))
    (λ p. meet_plain x (y ∷ z ∷ zs) p (next_line (y ∷ z ∷ zs)))

-- how a list ends, by its last octets
tail_last : (t : ℕ) (l : List ℕ) → 0 < length l → tail_from t l ≡ tail_step (tail_from t (take (length l - 1) l)) (get_or l (length l - 1) 0)
unfolding tail_from
tail_last t l h =
    let j : suc (length l - 1) ≡ length l = omega arith in
    let e : l ≡ take (length l - 1) l ++ (get_or l (length l - 1) 0 ∷ []) = sym (take-length l) ∙ ap (λ (n : ℕ). take n l) (sym j) ∙ take-suc l (length l - 1) 0 (omega arith) in
    ap (tail_from t) e ∙ tail_append t (take (length l - 1) l) (get_or l (length l - 1) 0 ∷ [])

-- the rest of a list, taken whole
pub rest : (a : ℕ) (l : List ℕ) → take (length l - a) (drop a l) ≡ drop a l
rest a l = take_all (length l - a) (drop a l) (rw length-drop (omega arith))

-- the reader's first lone CR or LF in a part of a list
pub first_low : (s : List ℕ) (from to : ℕ) → to ≤ length s → first_lone (take (to - from) (drop from s)) ≤ to - from
unfolding first_lone
first_low s from to h =
    let m = take (to - from) (drop from s) in
    omega (arith, scan_le lone_step m 0, length-take-le (to - from) (drop from s) (rw length-drop (omega arith)))

-- a chunk that starts with LF after a CR
pub break_lf : (t : ℕ) (s : List ℕ) → t ≡ 1 → 0 < length s → get_or s 0 0 ≡ 10 → lone_from t s ≡ 1 + lone_from 0 (drop 1 s)
unfolding lone_from
break_lf t [] e h q = absurd (omega arith)
break_lf t (x ∷ xs) e h q = rw (e, q, lone_other 2 xs (λ z. omega arith)) (omega arith)

pub break_here : (t : ℕ) (s : List ℕ) → t ≡ 1 → 0 < length s → (get_or s 0 0 ≡ 10 → ⊥) → lone_from t s ≡ 0
unfolding lone_from
break_here t [] e h q = absurd (omega arith)
break_here t (x ∷ xs) e h q = rw (e, ne_eqb x 10 q)

pub break_none : (t : ℕ) (s : List ℕ) → length s ≡ 0 → lone_from t s ≡ 1
unfolding lone_from
break_none t [] h = refl
break_none t (x ∷ xs) h = absurd (omega arith)

-- how a list ends
pub tail_none : (t : ℕ) (l : List ℕ) → length l ≡ 0 → tail_from t l ≡ t
unfolding tail_from
tail_none t [] h = refl
tail_none t (x ∷ xs) h = absurd (omega arith)

pub ends_cr : (t : ℕ) (l : List ℕ) → 0 < length l → get_or l (length l - 1) 0 ≡ 13 → tail_from t l ≡ 1
ends_cr t l h e = tail_last t l h ∙ rw (e, tail_cr (tail_from t (take (length l - 1) l)))

pub ends_other : (t : ℕ) (l : List ℕ) → 0 < length l → (get_or l (length l - 1) 0 ≡ 13 → ⊥) → (get_or l (length l - 1) 0 ≡ 10 → ⊥) → tail_from t l ≡ 0
ends_other t l h e f = tail_last t l h ∙ tail_plain (tail_from t (take (length l - 1) l)) (get_or l (length l - 1) 0) (ne_eqb (get_or l (length l - 1) 0) 13 e) (ne_eqb (get_or l (length l - 1) 0) 10 f)

tail_not : (t : ℕ) → (t ≡ 1 → ⊥) → tail_step t 10 ≡ 0
unfolding tail_step
tail_not t h = rw (ne_eqb t 1 h)

is_one : (t y : ℕ) → eqb (tail_step t y) 1 ≡ eqb y 13
unfolding tail_step
is_one t y = by (eqb y 13) (λ p. rw p) (λ p. rw p (by (eqb t 1 && eqb y 10) (λ q. rw q) (λ q. rw q)))

pub alone_pair : (t : ℕ) (l : List ℕ) → length l ≡ 1 → get_or l (length l - 1) 0 ≡ 10 → t ≡ 1 → tail_from t l ≡ 2
unfolding tail_from
alone_pair t l n e z = tail_last t l (omega (arith, n)) ∙ rw (e, n, z) tail_lf

pub alone_lf : (t : ℕ) (l : List ℕ) → length l ≡ 1 → get_or l (length l - 1) 0 ≡ 10 → (t ≡ 1 → ⊥) → tail_from t l ≡ 0
unfolding tail_from
alone_lf t l n e z = tail_last t l (omega (arith, n)) ∙ rw (e, n) (tail_not t z)

-- the octet before the last one
before_last : (t : ℕ) (l : List ℕ) → 2 ≤ length l → eqb (tail_from t (take (length l - 1) l)) 1 ≡ eqb (get_or l (length l - 2) 0) 13
before_last t l h =
    let m = take (length l - 1) l in
    let n : length m ≡ length l - 1 = length-take-le (length l - 1) l (omega arith) in
    let k : length m - 1 ≡ length l - 2 = omega arith in
    let g : get_or m (length m - 1) 0 ≡ get_or l (length l - 2) 0 = ap (λ (i : ℕ). get_or m i 0) k ∙ get_or-take (length l - 1) l (length l - 2) 0 (omega arith) in
    ap (λ (i : ℕ). eqb i 1) (tail_last t m (omega (arith, n))) ∙ is_one (tail_from t (take (length m - 1) m)) (get_or m (length m - 1) 0) ∙ ap (λ (i : ℕ). eqb i 13) g

pub ends_pair : (t : ℕ) (l : List ℕ) → 2 ≤ length l → get_or l (length l - 1) 0 ≡ 10 → get_or l (length l - 2) 0 ≡ 13 → tail_from t l ≡ 2
ends_pair t l h e f =
    let u : tail_from t (take (length l - 1) l) ≡ 1 = eqb-true _ 1 (before_last t l h ∙ eq-eqb (get_or l (length l - 2) 0) 13 f) in
    tail_last t l (omega arith) ∙ rw (e, u) tail_lf

pub ends_lf : (t : ℕ) (l : List ℕ) → 2 ≤ length l → get_or l (length l - 1) 0 ≡ 10 → (get_or l (length l - 2) 0 ≡ 13 → ⊥) → tail_from t l ≡ 0
ends_lf t l h e f =
    let u : eqb (tail_from t (take (length l - 1) l)) 1 ≡ false = before_last t l h ∙ ne_eqb (get_or l (length l - 2) 0) 13 f in
    tail_last t l (omega arith) ∙ rw e (tail_not (tail_from t (take (length l - 1) l)) (eqb-false _ 1 u))

-- where the next line starts
pub next_none : (t : ℕ) (s : List ℕ) → length s ≡ 0 → next_from t s ≡ 0
unfolding next_from
next_none t [] h = refl
next_none t (x ∷ xs) h = absurd (omega arith)

pub next_at : (t : ℕ) (s : List ℕ) → t ≡ 2 → 0 < length s → blank (get_or s 0 0) ≡ false → next_from t s ≡ 0
next_at t [] e h b = absurd (omega arith)
next_at t (x ∷ xs) e h b = rw e (next_here x xs b)

pub next_on : (t : ℕ) (s : List ℕ) → t ≡ 2 → 0 < length s → blank (get_or s 0 0) ≡ true → next_from t s ≡ 1 + next_from 0 (drop 1 s)
next_on t [] e h b = absurd (omega arith)
next_on t (x ∷ xs) e h b = rw (e, next_blank x xs b) (omega arith)

pub fine_on : (t : ℕ) (s : List ℕ) → t ≡ 2 → 0 < length s → blank (get_or s 0 0) ≡ true → lone_from t s ≡ length s + 1
    → lone_from 0 (drop 1 s) ≡ length (drop 1 s) + 1
fine_on t [] e h b f = absurd (omega arith)
fine_on t (x ∷ xs) e h b f = lone_blank x xs b (sym (lone_other t (x ∷ xs) (λ z. omega arith)) ∙ f)

-- after a CR: LF, and a chunk of it alone
pub next_short : (t : ℕ) (s : List ℕ) → t ≡ 1 → length s < 2 → next_from t s ≡ length s
unfolding next_from
next_short t [] e h = refl
next_short t (x ∷ []) e h = rw e
next_short t (x ∷ y ∷ ys) e h = absurd (omega arith)

pub next_one : (t : ℕ) (s : List ℕ) → t ≡ 1 → 2 ≤ length s → lone_from t s ≡ length s + 1 → blank (get_or s 1 0) ≡ false → next_from t s ≡ 1
next_one t [] e h f b = absurd (omega arith)
next_one t (x ∷ []) e h f b = absurd (omega arith)
next_one t (x ∷ y ∷ ys) e h f b =
    let k = is_lf x (y ∷ ys) (rw e at f) in
    rw (e, eqb-true x 10 k.0, next_lf (y ∷ ys), next_here y ys b)

pub next_two : (t : ℕ) (s : List ℕ) → t ≡ 1 → 2 ≤ length s → lone_from t s ≡ length s + 1 → blank (get_or s 1 0) ≡ true → next_from t s ≡ 2 + next_from 0 (drop 2 s)
next_two t [] e h f b = absurd (omega arith)
next_two t (x ∷ []) e h f b = absurd (omega arith)
next_two t (x ∷ y ∷ ys) e h f b =
    let k = is_lf x (y ∷ ys) (rw e at f) in
    rw (e, eqb-true x 10 k.0, next_lf (y ∷ ys), next_blank y ys b) (omega arith)

pub fine_two : (t : ℕ) (s : List ℕ) → t ≡ 1 → 2 ≤ length s → lone_from t s ≡ length s + 1 → blank (get_or s 1 0) ≡ true
    → lone_from 0 (drop 2 s) ≡ length (drop 2 s) + 1
fine_two t [] e h f b = absurd (omega arith)
fine_two t (x ∷ []) e h f b = absurd (omega arith)
fine_two t (x ∷ y ∷ ys) e h f b = lone_blank y ys b (is_lf x (y ∷ ys) (rw e at f)).1

-- only a CR or CR LF before decides with the next octet
pub next_other : (t : ℕ) (l : List ℕ) → (t ≡ 1 → ⊥) → (t ≡ 2 → ⊥) → next_from t l ≡ next_from 0 l
unfolding next_from
next_other t [] h g = refl
next_other t (x ∷ xs) h g = rw (ne_eqb t 2 g, tail_other t x h)

-- where the line after the one that goes on at a place starts, by that line's end
pub line_next : (s : List ℕ) (from e : ℕ) → from ≤ length s → lone_from 0 (drop from s) ≡ length (drop from s) + 1 → e ≡ from + line_length (drop from s)
    → pick (ltb (e + 2) (length s)) (e + 2) (length s) ≡ from + next_from 0 (drop from s)
line_next s from e h f q =
    let n : length (drop from s) ≡ length s - from = length-drop from s in
    let k = line_length (drop from s) in
    rw (next_line (drop from s) f, n)
    (by (ltb (k + 2) (length s - from))
    (λ p. rw (p, lt-ltb (e + 2) (length s) (omega (arith, q, ltb-true (k + 2) (length s - from) p))) (omega (arith, q)))
    (λ p. rw (p, le-ltb (e + 2) (length s) (omega (arith, q, ltb-false (k + 2) (length s - from) p))) (omega (arith, h))))

-- one octet passed
lone_rest : (t x : ℕ) (xs : List ℕ) → lone_from t (x ∷ xs) ≡ length (x ∷ xs) + 1 → lone_from (tail_step t x) xs ≡ length xs + 1
unfolding lone_from
lone_rest t x xs e =
    by (eqb t 1)
    (λ p. by (eqb x 10)
    (λ q.
    let w : tail_step t x ≡ 2 = rw (eqb-true t 1 p, eqb-true x 10 q) tail_lf in
    let f : suc (lone_from 2 xs) ≡ suc (length xs) + 1 = rw (p, q) at e in
    rw w (omega arith))
    (λ q. let f : 0 ≡ suc (length xs) + 1 = rw (p, q) at e in absurd (omega arith)))
    (λ p. by (eqb x 10)
    (λ q. let f : 1 ≡ suc (length xs) + 1 = rw (p, q) at e in absurd (omega arith))
    (λ q. let f : suc (lone_from (tail_step t x) xs) ≡ suc (length xs) + 1 = rw (p, q) at e in omega arith))

-- no lone CR or LF is known from the next line on either
pub fine_next : (t : ℕ) (l : List ℕ) → lone_from t l ≡ length l + 1 → next_from t l < length l
    → lone_from 0 (drop (next_from t l) l) ≡ length (drop (next_from t l) l) + 1
unfolding next_from
fine_next t [] e h = absurd (omega arith)
fine_next t (x ∷ xs) e h =
    by (eqb t 2 && not (blank x))
    (λ p.
    let two : t ≡ 2 = eqb-true t 2 (and_both (eqb t 2) (not (blank x)) p).0 in
    rw p (sym (lone_other t (x ∷ xs) (λ z. omega arith)) ∙ e))
    (λ p.
    let f : suc (next_from (tail_step t x) xs) < suc (length xs) = rw p at h in
    rw p (fine_next (tail_step t x) xs (lone_rest t x xs e) (omega arith)))

-- where a line has ended, CR LF stands before the next
pub next_tail : (t : ℕ) (l : List ℕ) → next_from t l < length l → tail_from t (take (next_from t l) l) ≡ 2
unfolding next_from tail_from
next_tail t [] h = absurd (omega arith)
next_tail t (x ∷ xs) h =
    by (eqb t 2 && not (blank x))
    (λ p. rw p (eqb-true t 2 (and_both (eqb t 2) (not (blank x)) p).0))
    (λ p. let f : suc (next_from (tail_step t x) xs) < suc (length xs) = rw p at h in rw p (next_tail (tail_step t x) xs (omega arith)))

-- an octet alone is no CR LF
one_tail : (x : ℕ) → tail_step 0 x ≡ 2 → ⊥
unfolding tail_step
one_tail x e = by (eqb x 13) (λ p. let f : 1 ≡ 2 = rw p at e in absurd (omega arith)) (λ p. let f : 0 ≡ 2 = rw p at e in absurd (omega arith))

-- a list that ends with CR LF has two octets
pub tail_two : (l : List ℕ) → tail_from 0 l ≡ 2 → 2 ≤ length l
unfolding tail_from
tail_two [] e = absurd (omega arith)
tail_two (x ∷ []) e = absurd (one_tail x e)
tail_two (x ∷ y ∷ ys) e = omega arith

pub next_least : (l : List ℕ) → next_from 0 l < length l → 2 ≤ next_from 0 l
next_least l h =
    let m = tail_two (take (next_from 0 l) l) (next_tail 0 l h) in
    omega (arith, m, length-take-le (next_from 0 l) l (omega arith))

-- the reader's logical line that has not ended, by how its octets end
abbrev Left : List ℕ → Type 0
Left l = Fine l → next_from 0 l ≡ length l → line_length l + tail_from 0 l ≡ length l

left_plain : (x : ℕ) (xs : List ℕ) → eqb x 13 ≡ false → Left xs → Left (x ∷ xs)
unfolding line_length tail_from
left_plain x xs p m e h =
    let k = not_lf x xs e in
    let t : tail_step 0 x ≡ 0 = tail_plain 0 x p k.0 in
    let f : lone_from 0 xs ≡ length xs + 1 = rw t at k.1 in
    let n : suc (next_from 0 xs) ≡ suc (length xs) = ap (λ (u : ℕ). suc (next_from u xs)) (sym t) ∙ sym (next_plain x xs) ∙ h in
    rw (line_step_lem x xs 1 (line_plain x xs p), t) (omega (arith, m f (omega arith)))

left_cr : (x : ℕ) → eqb x 13 ≡ true → Left (x ∷ [])
unfolding line_length tail_from
left_cr x p e h = rw (line_step_lem x [] 0 (line_cr x [] p refl), eqb-true x 13 p) (omega (arith, tail_cr 0))

left_pair : (x y : ℕ) → eqb x 13 ≡ true → Left (x ∷ y ∷ [])
unfolding line_length tail_from blank
left_pair x y p e h =
    let k = pair x y [] p e in
    rw (k.0, line_step_lem x (10 ∷ []) 0 (line_cr x (10 ∷ []) p refl), eqb-true x 13 p, tail_cr 0) (omega (arith, tail_lf))

left_fold : (x y z : ℕ) (zs : List ℕ) → eqb x 13 ≡ true → blank z ≡ true → Left zs → Left (x ∷ y ∷ z ∷ zs)
unfolding line_length tail_from
left_fold x y z zs p b m e h =
    let k = pair x y (z ∷ zs) p e in
    let n : suc (suc (suc (next_from 0 zs))) ≡ suc (suc (suc (length zs))) = ap (λ (u : ℕ). suc (suc u)) (sym (next_blank z zs b)) ∙ sym k.2 ∙ h in
    let t : tail_from 0 (x ∷ y ∷ z ∷ zs) ≡ tail_from 0 zs = rw (k.0, eqb-true x 13 p, tail_cr 0, tail_lf, tail_plain 2 z (blank_plain z b).0 (blank_plain z b).1) in
    rw (t, k.0, line_step_lem x (10 ∷ z ∷ zs) 3 (line_fold x 10 z zs p refl b), skip_two 10 z zs)
    (omega (arith, m (lone_blank z zs b k.1) (omega arith)))

left_end : (x y z : ℕ) (zs : List ℕ) → eqb x 13 ≡ true → blank z ≡ false → Left (x ∷ y ∷ z ∷ zs)
left_end x y z zs p b e h =
    let k = pair x y (z ∷ zs) p e in
    let n : suc (suc (next_from 2 (z ∷ zs))) ≡ suc (suc (suc (length zs))) = sym k.2 ∙ h in
    absurd (omega (arith, n, next_here z zs b))

pub line_left : (l : List ℕ) → lone_from 0 l ≡ length l + 1 → next_from 0 l ≡ length l → line_length l + tail_from 0 l ≡ length l
unfolding line_length tail_from scan
line_left [] = λ e h. refl
line_left (x ∷ []) = by (eqb x 13) (left_cr x) (λ p. left_plain x [] p (line_left []))
line_left (x ∷ y ∷ []) = by (eqb x 13) (left_pair x y) (λ p. left_plain x (y ∷ []) p (line_left (y ∷ [])))
line_left (x ∷ y ∷ z ∷ zs) =
    by (eqb x 13)
    (λ p. by (blank z) (λ b. left_fold x y z zs p b (line_left zs)) (left_end x y z zs p))
    (λ p. left_plain x (y ∷ z ∷ zs) p (line_left (y ∷ z ∷ zs)))

-- the reader's last two octets
pub ends_law : (l : List ℕ) → ends_cr_lf l ≡ eqb (tail_from 0 l) 2
unfolding ends_cr_lf
ends_law l =
    by (ltb (length l) 2)
    (λ p. rw p (sym (ne_eqb (tail_from 0 l) 2 (λ e. let m = tail_two l e in let q = ltb-true (length l) 2 p in omega arith))))
    (λ p.
    let n = ltb-false (length l) 2 p in
    rw p
    (by (eqb (get_or l (length l - 2) 0) 13)
    (λ q. by (eqb (get_or l (length l - 1) 0) 10)
    (λ r. rw (q, r, ends_pair 0 l n (eqb-true (get_or l (length l - 1) 0) 10 r) (eqb-true (get_or l (length l - 2) 0) 13 q)))
    (λ r. rw (q, r) (sym (ne_eqb (tail_from 0 l) 2 (λ e. not_two l n r e)))))
    (λ q. rw q (sym (ne_eqb (tail_from 0 l) 2 (λ e. by (eqb (get_or l (length l - 1) 0) 10)
    (λ r. omega (arith, e, ends_lf 0 l n (eqb-true (get_or l (length l - 1) 0) 10 r) (eqb-false (get_or l (length l - 2) 0) 13 q)))
    (λ r. not_two l n r e)))))))
  where
    not_two : (l : List ℕ) → 2 ≤ length l → eqb (get_or l (length l - 1) 0) 10 ≡ false → tail_from 0 l ≡ 2 → ⊥
    not_two l n r e =
        by (eqb (get_or l (length l - 1) 0) 13)
        (λ s. omega (arith, e, ends_cr 0 l (omega arith) (eqb-true (get_or l (length l - 1) 0) 13 s)))
        (λ s. omega (arith, e, ends_other 0 l (omega arith) (eqb-false (get_or l (length l - 1) 0) 13 s) (eqb-false (get_or l (length l - 1) 0) 10 r)))

-- no lone CR or LF is known: there is none, or the last octet is a CR
pub first_fine : (l : List ℕ) → lone_from 0 l ≡ length l + 1 → (tail_from 0 l ≡ 1 → ⊥) → first_lone l ≡ length l
unfolding first_lone
first_fine l e h =
    let f : known_by (first_lone l) l ≡ length l + 1 = sym (lone_first l) ∙ e in
    by (eqb (first_lone l + 1) (length l) && eqb (get_or l (first_lone l) 0) 13)
    (λ p.
    let b = and_both (eqb (first_lone l + 1) (length l)) (eqb (get_or l (first_lone l) 0) 13) p in
    let n = eqb-true (first_lone l + 1) (length l) b.0 in
    let k : first_lone l ≡ length l - 1 = omega (arith, n) in
    absurd (h (ends_cr 0 l (omega (arith, n)) (ap (λ (i : ℕ). get_or l i 0) (sym k) ∙ eqb-true (get_or l (first_lone l) 0) 13 b.1))))
    (λ p. let g : first_lone l + 1 ≡ length l + 1 = rw p at f in omega arith)

-- where there is none, the last octet is no CR
abbrev Whole : List ℕ → Type 0
Whole l = scan lone_step l 0 ≡ length l → tail_from 0 l ≡ 1 → ⊥

whole_lf : (x : ℕ) (xs : List ℕ) → eqb x 10 ≡ true → Whole (x ∷ xs)
whole_lf x xs p e t = let f : 0 ≡ suc (length xs) = sym (lone_step_lem x xs 0 (step_lf x xs p)) ∙ e in absurd (omega arith)

whole_plain : (x : ℕ) (xs : List ℕ) → eqb x 10 ≡ false → eqb x 13 ≡ false → Whole xs → Whole (x ∷ xs)
unfolding tail_from
whole_plain x xs p q w e t =
    let f : suc (scan lone_step xs 0) ≡ suc (length xs) = sym (lone_step_lem x xs 1 (step_plain x xs p q)) ∙ e in
    w (omega arith) (rw (tail_plain 0 x q p) at t)

whole_cr : (x : ℕ) (xs : List ℕ) → eqb x 10 ≡ false → eqb x 13 ≡ true → eqb (get_or xs 0 0) 10 ≡ false → Whole (x ∷ xs)
whole_cr x xs p q r e t = let f : 0 ≡ suc (length xs) = sym (lone_step_lem x xs 0 (step_cr x xs p q r)) ∙ e in absurd (omega arith)

whole_pair : (x y : ℕ) (ys : List ℕ) → eqb x 10 ≡ false → eqb x 13 ≡ true → eqb y 10 ≡ true → Whole ys → Whole (x ∷ y ∷ ys)
unfolding tail_from
whole_pair x y ys p q r w e t =
    let f : suc (suc (scan lone_step ys 0)) ≡ suc (suc (length ys)) = ap suc (sym (skip_one y ys)) ∙ sym (lone_step_lem x (y ∷ ys) 2 (step_pair x y ys p q r)) ∙ e in
    let u : tail_from 2 ys ≡ 1 = rw (eqb-true x 13 q, eqb-true y 10 r, tail_cr 0, tail_lf) at t in
    by_rest ys (w (omega arith)) u
  where
    by_rest : (ys : List ℕ) → (tail_from 0 ys ≡ 1 → ⊥) → tail_from 2 ys ≡ 1 → ⊥
    by_rest [] w u = absurd (omega arith)
    by_rest (z ∷ zs) w u = w (sym (tails_other 2 z zs (λ q. omega arith)) ∙ u)

no_last : (l : List ℕ) → scan lone_step l 0 ≡ length l → tail_from 0 l ≡ 1 → ⊥
unfolding tail_from
no_last [] = λ e t. absurd (omega arith)
no_last (x ∷ []) = by (eqb x 10) (whole_lf x []) (λ p. by (eqb x 13) (λ q. whole_cr x [] p q refl) (λ q. whole_plain x [] p q (no_last [])))
no_last (x ∷ y ∷ ys) =
    by (eqb x 10) (whole_lf x (y ∷ ys))
    (λ p. by (eqb x 13)
    (λ q. by (eqb y 10) (λ r. whole_pair x y ys p q r (no_last ys)) (λ r. whole_cr x (y ∷ ys) p q r))
    (λ q. whole_plain x (y ∷ ys) p q (no_last (y ∷ ys))))

pub first_waits : (l : List ℕ) → lone_from 0 l ≡ length l + 1 → tail_from 0 l ≡ 1 → first_lone l + 1 ≡ length l
unfolding first_lone tail_from
first_waits [] e t = absurd (omega arith)
first_waits (x ∷ xs) e t =
    let l = x ∷ xs in
    let f : known_by (first_lone l) l ≡ length l + 1 = sym (lone_first l) ∙ e in
    by (eqb (first_lone l + 1) (length l) && eqb (get_or l (first_lone l) 0) 13)
    (λ p. eqb-true (first_lone l + 1) (length l) (and_both (eqb (first_lone l + 1) (length l)) (eqb (get_or l (first_lone l) 0) 13) p).0)
    (λ p. let g : first_lone l + 1 ≡ length l + 1 = rw p at f in absurd (no_last l (omega (arith, g)) t))

-- one that is known is the reader's
pub first_known : (l : List ℕ) → lone_from 0 l ≤ length l → first_lone l + 1 ≡ lone_from 0 l
first_known l h =
    by (eqb (first_lone l + 1) (length l) && eqb (get_or l (first_lone l) 0) 13)
    (λ p. let g : lone_from 0 l ≡ length l + 1 = lone_first l ∙ rw p in absurd (omega arith))
    (λ p. sym (lone_first l ∙ rw p))

tail_low : (t x : ℕ) → tail_step t x ≤ t + 1
unfolding tail_step
tail_low t x =
    by (eqb x 13)
    (λ p. rw p (omega arith))
    (λ p. by (eqb t 1)
    (λ q. by (eqb x 10) (λ r. rw (p, q, r) (omega (arith, eqb-true t 1 q))) (λ r. rw (p, q, r) (omega arith)))
    (λ q. rw (p, q) (omega arith)))

-- a line has its CR LF at least, of which t octets may stand before
pub next_two_least : (t : ℕ) (l : List ℕ) → next_from t l < length l → 2 ≤ t + next_from t l
unfolding next_from
next_two_least t [] h = absurd (omega arith)
next_two_least t (x ∷ xs) h =
    by (eqb t 2 && not (blank x))
    (λ p. rw p (omega (arith, eqb-true t 2 (and_both (eqb t 2) (not (blank x)) p).0)))
    (λ p.
    let f : suc (next_from (tail_step t x) xs) < suc (length xs) = rw p at h in
    rw p (omega (arith, next_two_least (tail_step t x) xs (omega arith), tail_low t x)))

-- how an input ends is told in its last octets
pub tail_short : (t : ℕ) (l : List ℕ) → tail_from t l ≤ t + length l
unfolding tail_from
tail_short t [] = omega arith
tail_short t (x ∷ xs) = omega (arith, tail_short (tail_step t x) xs, tail_low t x)

-- only a CR before them can be lone by the first of some octets
pub lone_least : (t : ℕ) (l : List ℕ) → 1 ≤ t + lone_from t l
unfolding lone_from
lone_least t [] = omega arith
lone_least t (x ∷ xs) =
    by (eqb t 1)
    (λ p. omega (arith, eqb-true t 1 p))
    (λ p. by (eqb x 10) (λ q. rw (p, q) (omega arith)) (λ q. rw (p, q) (omega arith)))

-- an octet that no CR is ends a list: the reader's first lone CR or LF is known
lone_plain_end : (l : List ℕ) → (get_or l (length l - 1) 0 ≡ 13 → ⊥) → lone_from 0 l ≡ first_lone l + 1
lone_plain_end l h =
    by (eqb (first_lone l + 1) (length l) && eqb (get_or l (first_lone l) 0) 13)
    (λ p.
    let b = and_both (eqb (first_lone l + 1) (length l)) (eqb (get_or l (first_lone l) 0) 13) p in
    let k : first_lone l ≡ length l - 1 = omega (arith, eqb-true (first_lone l + 1) (length l) b.0) in
    absurd (h (ap (λ (i : ℕ). get_or l i 0) (sym k) ∙ eqb-true (get_or l (first_lone l) 0) 13 b.1)))
    (λ p. lone_first l ∙ rw p)

-- a CR ends it: the first one before that CR is known, and the CR is not
lone_cr_end : (m : List ℕ) → lone_from 0 (m ++ (13 ∷ [])) ≡ pick (ltb (first_lone m) (length m)) (first_lone m + 1) (length m + 2)
unfolding lone_from first_lone tail_step
lone_cr_end m =
    let k = first_lone m in
    let low : k ≤ length m = scan_le lone_step m 0 in
    by (ltb k (length m))
    (λ p.
    let lt = ltb-true k (length m) p in
    by (eqb (k + 1) (length m) && eqb (get_or m k 0) 13)
    (λ q.
    let b = and_both (eqb (k + 1) (length m)) (eqb (get_or m k 0) 13) q in
    let n : k + 1 ≡ length m = eqb-true (k + 1) (length m) b.0 in
    let i : k ≡ length m - 1 = omega (arith, n) in
    let t : tail_from 0 m ≡ 1 = ends_cr 0 m (omega (arith, n)) (ap (λ (j : ℕ). get_or m j 0) (sym i) ∙ eqb-true (get_or m k 0) 13 b.1) in
    let f : lone_from 0 m ≡ length m + 1 = lone_first m ∙ rw q in
    rw (p, lone_append 0 m (13 ∷ []) f, t) (omega (arith, n)))
    (λ q.
    let f : lone_from 0 m ≡ k + 1 = lone_first m ∙ rw q in
    rw p (lone_known 0 m (13 ∷ []) (omega (arith, f, lt)) ∙ f)))
    (λ p.
    let n : k ≡ length m = omega (arith, ltb-false k (length m) p, low) in
    let f : lone_from 0 m ≡ length m + 1 =
    by (eqb (k + 1) (length m) && eqb (get_or m k 0) 13)
    (λ q. lone_first m ∙ rw q)
    (λ q. let g : lone_from 0 m ≡ k + 1 = lone_first m ∙ rw q in omega (arith, g, n)) in
    rw (p, lone_append 0 m (13 ∷ []) f, lone_other (tail_from 0 m) (13 ∷ []) (no_last m n)) (omega arith))

-- the first lone CR or LF from a place on, by the octets up to a last CR, or up to the end
module _ (s : List ℕ) (from : ℕ) (lt : from < length s) where
  abbrev l : List ℕ
  l = drop from s

  l_long : length l ≡ length s - from
  l_long = length-drop from s

  l_last : get_or l (length l - 1) 0 ≡ get_or s (length s - 1) 0
  l_last =
      let i : from + (length l - 1) ≡ length s - 1 = omega (arith, l_long) in
      get_or-drop from s (length l - 1) 0 ∙ ap (λ (j : ℕ). get_or s j 0) i

  pub break_plain : (get_or s (length s - 1) 0 ≡ 13 → ⊥)
      → pick (ltb (first_lone (take (length s - from) l)) (length s - from)) (from + first_lone (take (length s - from) l) + 1) (length s + 1) ≡ from + lone_from 0 l
  unfolding first_lone
  break_plain h =
      let e : lone_from 0 l ≡ first_lone l + 1 = lone_plain_end l (λ z. h (sym l_last ∙ z)) in
      rw (rest from s, e)
      (by (ltb (first_lone l) (length s - from))
      (λ p. rw p (omega arith))
      (λ p. rw p (omega (arith, ltb-false (first_lone l) (length s - from) p, scan_le lone_step l 0, l_long))))

  pub break_last : get_or s (length s - 1) 0 ≡ 13
      → pick (ltb (first_lone (take (length s - 1 - from) l)) (length s - 1 - from)) (from + first_lone (take (length s - 1 - from) l) + 1) (length s + 1) ≡ from + lone_from 0 l
  break_last h =
      let m = take (length s - 1 - from) l in
      let n : length m ≡ length s - 1 - from = length-take-le (length s - 1 - from) l (omega (arith, l_long)) in
      let j : suc (length s - 1 - from) ≡ length l = omega (arith, l_long) in
      let i : length s - 1 - from ≡ length l - 1 = omega (arith, l_long) in
      let g : get_or l (length s - 1 - from) 0 ≡ 13 = ap (λ (k : ℕ). get_or l k 0) i ∙ l_last ∙ h in
      let e : l ≡ m ++ (13 ∷ []) =
      sym (take-length l) ∙ ap (λ (k : ℕ). take k l) (sym j) ∙ take-suc l (length s - 1 - from) 0 (omega (arith, l_long)) ∙ ap (λ (x : ℕ). m ++ (x ∷ [])) g in
      let f : lone_from 0 l ≡ pick (ltb (first_lone m) (length s - 1 - from)) (first_lone m + 1) (length m + 2) = ap (lone_from 0) e ∙ lone_cr_end m ∙ rw n in
      rw f
      (by (ltb (first_lone m) (length s - 1 - from))
      (λ p. rw p (omega arith))
      (λ p. rw p (omega (arith, n))))
