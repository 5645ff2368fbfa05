-- Shapes of two digits and what comes after them, by the number that they make. Assumes nothing.
use mathlib.Core.Path.{◌≡◌, sym, ap, subst, ◌∙◌}
use mathlib.Core.Bool.{Bool, true, false, not, ◌&&◌, ◌||◌, false≢true}
use mathlib.Core.List.{List, [], ◌∷◌, ◌++◌}
use mathlib.Core.Logic.{inl, inr}
use Prim.Native.Nat.{ℕ, ◌+◌, ◌-◌, ◌*◌, ◌/◌, ◌%◌, ◌<◌, ◌≤◌}
use native.Mathlib.Omega.{arith}
use lib.Dec.{leb}
use borrow.Author.Tests.{leb-true}
use Rattle.octets.specs.Classes.{digit as is_digit}
use Rattle.value_kinds.specs.Octets.{Octets, any, plain, inner, escapee, backslash, comma, semicolon, colon, letter, scheme, graphic, digit, sex, the_v, the_c, the_a, the_r, the_d, four, point, nought, the_t, the_z, minus, sign, figures, among, holds}
use Rattle.value_kinds.specs.Shapes.{Shape, never, empty, one, ◌then◌, ◌or◌, many, Matches, nullable, derivative}
use Rattle.octets.proofs.Bools.{and_both}
use Rattle.octets.proofs.Upto.{upto, alike}
use Rattle.value_kinds.proofs.ShapeLaws.{nil_cons, move, end_to, derivative_to}
use Rattle.value_laws.proofs.Places.{derivative_from}
use Rattle.value_laws.specs.Calendar.{two}

-- a set of digits
unfoldable pub figured : Octets → Bool
figured digit = true
figured (figures d ds) = true
figured any = false
figured plain = false
figured inner = false
figured escapee = false
figured backslash = false
figured comma = false
figured semicolon = false
figured colon = false
figured letter = false
figured scheme = false
figured graphic = false
figured sex = false
figured the_v = false
figured the_c = false
figured the_a = false
figured the_r = false
figured the_d = false
figured four = false
figured point = false
figured nought = false
figured the_t = false
figured the_z = false
figured minus = false
figured sign = false

-- a text of the shape, if it is not empty, starts with a digit
unfoldable pub led : Shape → Bool
led never = true
led empty = true
led (one p) = figured p
led (a then b) = led a && (not (nullable a) || led b)
led (a or b) = led a && led b
led (many a) = false

figured_digit : (p : Octets) (x : ℕ) → figured p ≡ true → holds p x ≡ true → is_digit x ≡ true
unfolding figured holds
figured_digit digit x e h = h
figured_digit (figures d ds) x e h = (and_both (is_digit x) (among (x - 48) (d % 10 ∷ ds)) h).0
figured_digit any x e h = absurd (false≢true e)
figured_digit plain x e h = absurd (false≢true e)
figured_digit inner x e h = absurd (false≢true e)
figured_digit escapee x e h = absurd (false≢true e)
figured_digit backslash x e h = absurd (false≢true e)
figured_digit comma x e h = absurd (false≢true e)
figured_digit semicolon x e h = absurd (false≢true e)
figured_digit colon x e h = absurd (false≢true e)
figured_digit letter x e h = absurd (false≢true e)
figured_digit scheme x e h = absurd (false≢true e)
figured_digit graphic x e h = absurd (false≢true e)
figured_digit sex x e h = absurd (false≢true e)
figured_digit the_v x e h = absurd (false≢true e)
figured_digit the_c x e h = absurd (false≢true e)
figured_digit the_a x e h = absurd (false≢true e)
figured_digit the_r x e h = absurd (false≢true e)
figured_digit the_d x e h = absurd (false≢true e)
figured_digit four x e h = absurd (false≢true e)
figured_digit point x e h = absurd (false≢true e)
figured_digit nought x e h = absurd (false≢true e)
figured_digit the_t x e h = absurd (false≢true e)
figured_digit the_z x e h = absurd (false≢true e)
figured_digit minus x e h = absurd (false≢true e)
figured_digit sign x e h = absurd (false≢true e)

not_both : (m b : Bool) → m ≡ true → (not m || b) ≡ true → b ≡ true
not_both true b e f = f
not_both false b e f = absurd (false≢true e)

led_digit : (r : Shape) (x : ℕ) (v : List ℕ) → led r ≡ true → Matches r (x ∷ v) → is_digit x ≡ true
unfolding led Matches
led_digit never x v e h = absurd h
led_digit empty x v e h = absurd (nil_cons x v (sym h))
led_digit (one p) x v e (y, h, f) =
    let same : y ≡ x = cc in
    subst (λ (z : ℕ). is_digit z ≡ true) same (figured_digit p y e h)
led_digit (a then b) x v e ([], w, f, g, k) =
    led_digit b x v (not_both (nullable a) (led b) (end_to a g) (and_both (led a) (not (nullable a) || led b) e).1) (move b (sym f) k)
led_digit (a then b) x v e (y ∷ u, w, f, g, k) =
    let same : y ≡ x = cc in
    subst (λ (z : ℕ). is_digit z ≡ true) same (led_digit a y u (and_both (led a) (not (nullable a) || led b) e).0 g)
led_digit (a or b) x v e (inl h) = led_digit a x v (and_both (led a) (led b) e).0 h
led_digit (a or b) x v e (inr h) = led_digit b x v (and_both (led a) (led b) e).1 h
led_digit (many a) x v e h = absurd (false≢true e)

digit_bounds : (x : ℕ) → is_digit x ≡ true → (48 ≤ x) × (x ≤ 57)
unfolding is_digit
digit_bounds x e =
    let h = and_both (leb 48 x) (leb x 57) e in
    (leb-true 48 x h.0, leb-true x 57 h.1)

-- a text of the shape is two digits, and then one of the shape that their number has
pub record Pair (r : Shape) (next : ℕ → Shape) : Type 0 where
  pub to : (v : List ℕ) → Matches r v → (n : ℕ) × (w : List ℕ) × (n < 100) × (v ≡ two n ++ w) × Matches (next n) w
  pub from : (n : ℕ) (w : List ℕ) → n < 100 → Matches (next n) w → Matches r (two n ++ w)

-- led by a digit, and not empty
unfoldable pub starts : Shape → Bool
starts r = led r && not (nullable r)

not-true : (b : Bool) → b ≡ true → not b ≡ true → ⊥
not-true true e f = false≢true f
not-true false e f = false≢true e

first : (r : Shape) (v : List ℕ) → starts r ≡ true → Matches r v → (a : ℕ) × (u : List ℕ) × (a < 10) × (v ≡ (48 + a) ∷ u) × Matches (derivative (48 + a) r) u
unfolding starts
first r [] e h = absurd (not-true (nullable r) (end_to r h) (and_both (led r) (not (nullable r)) e).1)
first r (x ∷ u) e h =
    let d = digit_bounds x (led_digit r x u (and_both (led r) (not (nullable r)) e).0 h) in
    let back : x ≡ 48 + (x - 48) = omega (arith, d) in
    (x - 48, u, omega (arith, d), ap (λ (z : ℕ). z ∷ u) back, subst (λ (z : ℕ). Matches (derivative z r) u) back (derivative_to x r u h))

pub pair : (r : Shape) (next : ℕ → Shape) → starts r ≡ true → upto (λ a. starts (derivative (48 + a) r)) 0 10 ≡ upto (λ a. true) 0 10
    → upto (λ n. derivative (48 + n % 10) (derivative (48 + n / 10) r)) 0 100 ≡ upto next 0 100 → Pair r next
pair r next e f g = record { to = to; from = from }
  where
    to : (v : List ℕ) → Matches r v → (n : ℕ) × (w : List ℕ) × (n < 100) × (v ≡ two n ++ w) × Matches (next n) w
    to v h =
        let x = first r v e h in
        let a = x.0 in
        let y = first (derivative (48 + a) r) x.1 (alike (λ k. starts (derivative (48 + k) r)) (λ k. true) 10 f a x.2) x.4 in
        let b = y.0 in
        let n = a * 10 + b in
        let tens : n / 10 ≡ a = omega (arith, x.2, y.2) in
        let units : n % 10 ≡ b = omega (arith, x.2, y.2) in
        let low : n < 100 = omega (arith, x.2, y.2) in
        let shape : derivative (48 + b) (derivative (48 + a) r) ≡ next n =
        sym (ap (λ (k : ℕ). derivative (48 + k) (derivative (48 + n / 10) r)) units ∙ ap (λ (k : ℕ). derivative (48 + b) (derivative (48 + k) r)) tens)
        ∙ alike (λ k. derivative (48 + k % 10) (derivative (48 + k / 10) r)) next 100 g n low in
        (n, y.1, low, x.3 ∙ rw (tens, units) (ap (λ (l : List ℕ). (48 + a) ∷ l) y.3), subst (λ (s : Shape). Matches s y.1) shape y.4)

    from : (n : ℕ) (w : List ℕ) → n < 100 → Matches (next n) w → Matches r (two n ++ w)
    from n w l h =
        let shape = alike (λ k. derivative (48 + k % 10) (derivative (48 + k / 10) r)) next 100 g n l in
        derivative_from (48 + n / 10) r ((48 + n % 10) ∷ w) (derivative_from (48 + n % 10) (derivative (48 + n / 10) r) w (subst (λ (s : Shape). Matches s w) (sym shape) h))
