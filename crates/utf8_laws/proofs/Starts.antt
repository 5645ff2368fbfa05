-- How the length by the first octet and the tests of the later octets read in RFC 3629's grammar, and back. Assumes nothing.
use Prim.Native.Nat.{ℕ, suc, ◌≤◌}
use mathlib.Core.Path.{◌≡◌, refl, sym, ◌∙◌}
use mathlib.Core.Bool.{Bool, true, false, ◌&&◌}
use mathlib.Core.List.{List, [], ◌∷◌, ◌++◌}
use native.Mathlib.Omega.{arith}
use lib.Dec.{leb, ltb, eqb}
use lib.ListN.{length, drop}
use borrow.Author.Tests.{lt-ltb, le-ltb, le-leb, leb-true, ltb-true, ltb-false, eqb-true, eqb-false, eq-eqb, ne_eqb}
use Rattle.octets.specs.Pick.{pick}
use Rattle.octets.specs.Classes.{within}
use Rattle.octets.proofs.Bools.{and_both}
use Rattle.utf8.specs.Characters.{length_by, second, tail, rest, char_length}
use Rattle.utf8.specs.Rfc3629.{In, Character, utf8_1, utf8_2, utf8_3_e0, utf8_3_low, utf8_3_ed, utf8_3_high, utf8_4_f0, utf8_4_mid, utf8_4_f4}
use Rattle.utf8_laws.specs.Texts.{Begins, Each}

pub pick_suc : (b : Bool) (n m : ℕ) → pick b n 0 ≡ suc m → (b ≡ true) × (n ≡ suc m)
pick_suc true n m e = (refl, e)
pick_suc false n m e = absurd (omega arith)

-- a range of the grammar and its two bounds
in_low : (low high b : ℕ) → In low high b → low ≤ b
in_low low high b h = leb-true low b (and_both (leb low b) (leb b high) h).0

in_high : (low high b : ℕ) → In low high b → b ≤ high
in_high low high b h = leb-true b high (and_both (leb low b) (leb b high) h).1

in_range : (low high b : ℕ) → low ≤ b → b ≤ high → In low high b
in_range low high b g h = simp (le-leb low b g, le-leb b high h)

-- the octets that start a character, by its length
data Lead (a : ℕ) : ℕ → Type 0 where
  nothing : Lead a 0
  one : In 0x00 0x7f a → Lead a 1
  two : In 0xc2 0xdf a → Lead a 2
  three : In 0xe0 0xef a → Lead a 3
  four : In 0xf0 0xf4 a → Lead a 4

lead : (a : ℕ) → Lead a (length_by a)
unfolding length_by
lead a = by (ltb a 0x80) (ltb a 0xc2) (ltb a 0xe0) (ltb a 0xf0) (ltb a 0xf5) refl refl refl refl refl
  where
    by : (p q r s t : Bool) → ltb a 0x80 ≡ p → ltb a 0xc2 ≡ q → ltb a 0xe0 ≡ r → ltb a 0xf0 ≡ s → ltb a 0xf5 ≡ t
        → Lead a (pick p 1 (pick q 0 (pick r 2 (pick s 3 (pick t 4 0)))))
    by true q r s t a1 a2 a3 a4 a5 = one (in_range 0x00 0x7f a (omega arith) (omega (arith, ltb-true a 0x80 a1)))
    by false true r s t a1 a2 a3 a4 a5 = nothing
    by false false true s t a1 a2 a3 a4 a5 = two (in_range 0xc2 0xdf a (ltb-false a 0xc2 a2) (omega (arith, ltb-true a 0xe0 a3)))
    by false false false true t a1 a2 a3 a4 a5 = three (in_range 0xe0 0xef a (ltb-false a 0xe0 a3) (omega (arith, ltb-true a 0xf0 a4)))
    by false false false false true a1 a2 a3 a4 a5 = four (in_range 0xf0 0xf4 a (ltb-false a 0xf0 a4) (omega (arith, ltb-true a 0xf5 a5)))
    by false false false false false a1 a2 a3 a4 a5 = nothing

module _ (a : ℕ) where
  by_one : In 0x00 0x7f a → length_by a ≡ 1
  unfolding length_by
  by_one h = simp (lt-ltb a 0x80 (omega (arith, in_high 0x00 0x7f a h)))

  by_two : In 0xc2 0xdf a → length_by a ≡ 2
  unfolding length_by
  by_two h =
      let g = in_low 0xc2 0xdf a h in
      let k = in_high 0xc2 0xdf a h in
      simp (le-ltb a 0x80 (omega arith), le-ltb a 0xc2 g, lt-ltb a 0xe0 (omega arith))

  by_three : In 0xe0 0xef a → length_by a ≡ 3
  unfolding length_by
  by_three h =
      let g = in_low 0xe0 0xef a h in
      let k = in_high 0xe0 0xef a h in
      simp (le-ltb a 0x80 (omega arith), le-ltb a 0xc2 (omega arith), le-ltb a 0xe0 g, lt-ltb a 0xf0 (omega arith))

  by_four : In 0xf0 0xf4 a → length_by a ≡ 4
  unfolding length_by
  by_four h =
      let g = in_low 0xf0 0xf4 a h in
      let k = in_high 0xf0 0xf4 a h in
      simp (le-ltb a 0x80 (omega arith), le-ltb a 0xc2 (omega arith), le-ltb a 0xe0 (omega arith), le-ltb a 0xf0 g, lt-ltb a 0xf5 (omega arith))

  -- the second octet, by the first
  module _ (b : ℕ) where
    second_e0 : a ≡ 0xe0 → second a b ≡ within 0xa0 0xbf b
    unfolding second
    second_e0 e = simp (eq-eqb a 0xe0 e)

    second_ed : a ≡ 0xed → second a b ≡ within 0x80 0x9f b
    unfolding second
    second_ed e = rw e

    second_f0 : a ≡ 0xf0 → second a b ≡ within 0x90 0xbf b
    unfolding second
    second_f0 e = rw e

    second_f4 : a ≡ 0xf4 → second a b ≡ within 0x80 0x8f b
    unfolding second
    second_f4 e = rw e

    second_else : (a ≡ 0xe0 → ⊥) × (a ≡ 0xed → ⊥) × (a ≡ 0xf0 → ⊥) × (a ≡ 0xf4 → ⊥) → second a b ≡ within 0x80 0xbf b
    unfolding second
    second_else n = simp (ne_eqb a 0xe0 n.0, ne_eqb a 0xed n.1, ne_eqb a 0xf0 n.2, ne_eqb a 0xf4 n.3)

-- octets whose tests pass are a character of the grammar
by_tests_two : (a b : ℕ) → In 0xc2 0xdf a → second a b ≡ true → Character (a ∷ b ∷ [])
by_tests_two a b h s =
    let g = in_low 0xc2 0xdf a h in
    let k = in_high 0xc2 0xdf a h in
    utf8_2 h (sym (second_else a b (omega arith)) ∙ s)

by_tests_three : (a b c : ℕ) → In 0xe0 0xef a → second a b ≡ true → In 0x80 0xbf c → Character (a ∷ b ∷ c ∷ [])
by_tests_three a b c h s t = by (eqb a 0xe0) (eqb a 0xed) (ltb a 0xed) refl refl refl
  where
    g : 0xe0 ≤ a
    g = in_low 0xe0 0xef a h

    k : a ≤ 0xef
    k = in_high 0xe0 0xef a h

    plain : (a ≡ 0xe0 → ⊥) → (a ≡ 0xed → ⊥) → In 0x80 0xbf b
    plain p q = sym (second_else a b (omega (arith, k))) ∙ s

    by : (p q r : Bool) → eqb a 0xe0 ≡ p → eqb a 0xed ≡ q → ltb a 0xed ≡ r → Character (a ∷ b ∷ c ∷ [])
    by true q r e1 e2 e3 = let e = eqb-true a 0xe0 e1 in rw e (utf8_3_e0 (sym (second_e0 a b e) ∙ s) t)
    by false true r e1 e2 e3 = let e = eqb-true a 0xed e2 in rw e (utf8_3_ed (sym (second_ed a b e) ∙ s) t)
    by false false true e1 e2 e3 =
        let n = eqb-false a 0xe0 e1 in
        let m = ltb-true a 0xed e3 in
        utf8_3_low (in_range 0xe1 0xec a (omega (arith, g)) (omega arith)) (plain n (eqb-false a 0xed e2)) t
    by false false false e1 e2 e3 =
        let n = eqb-false a 0xed e2 in
        let m = ltb-false a 0xed e3 in
        utf8_3_high (in_range 0xee 0xef a (omega arith) k) (plain (eqb-false a 0xe0 e1) n) t

by_tests_four : (a b c d : ℕ) → In 0xf0 0xf4 a → second a b ≡ true → In 0x80 0xbf c → In 0x80 0xbf d → Character (a ∷ b ∷ c ∷ d ∷ [])
by_tests_four a b c d h s t u = by (eqb a 0xf0) (eqb a 0xf4) refl refl
  where
    g : 0xf0 ≤ a
    g = in_low 0xf0 0xf4 a h

    k : a ≤ 0xf4
    k = in_high 0xf0 0xf4 a h

    by : (p q : Bool) → eqb a 0xf0 ≡ p → eqb a 0xf4 ≡ q → Character (a ∷ b ∷ c ∷ d ∷ [])
    by true q e1 e2 = let e = eqb-true a 0xf0 e1 in rw e (utf8_4_f0 (sym (second_f0 a b e) ∙ s) t u)
    by false true e1 e2 = let e = eqb-true a 0xf4 e2 in rw e (utf8_4_f4 (sym (second_f4 a b e) ∙ s) t u)
    by false false e1 e2 =
        let n = eqb-false a 0xf0 e1 in
        let m = eqb-false a 0xf4 e2 in
        utf8_4_mid (in_range 0xf1 0xf3 a (omega (arith, g)) (omega (arith, k)))
        (sym (second_else a b (omega (arith, g))) ∙ s) t u

-- the tests of `rest` for each length
rest_two : (a b : ℕ) (r : List ℕ) → rest 2 (a ∷ b ∷ r) ≡ true → second a b ≡ true
unfolding rest
rest_two a b r e = (and_both _ _ e).0

rest_three : (a b c : ℕ) (r : List ℕ) → rest 3 (a ∷ b ∷ c ∷ r) ≡ true → (second a b ≡ true) × In 0x80 0xbf c
unfolding rest tail
rest_three a b c r e = let f = and_both _ _ e in (f.0, (and_both _ _ f.1).0)

rest_four : (a b c d : ℕ) (r : List ℕ) → rest 4 (a ∷ b ∷ c ∷ d ∷ r) ≡ true → (second a b ≡ true) × In 0x80 0xbf c × In 0x80 0xbf d
unfolding rest tail
rest_four a b c d r e = let f = and_both _ _ e in let g = and_both _ _ f.1 in (f.0, g.0, g.1)

-- a list whose first n octets pass the tests, where n is the length by the first
found : (a n : ℕ) (xs : List ℕ) → Lead a n → 1 ≤ n → n ≤ suc (length xs) → rest n (a ∷ xs) ≡ true
    → (c : List ℕ) × Begins (a ∷ xs) c × (length c ≡ n)
found a _ xs nothing pos fits e = absurd (omega arith)
found a _ xs (one h) pos fits e = (a ∷ [], (utf8_1 h, (xs, refl)), refl)
found a _ [] (two h) pos fits e = absurd (omega arith)
found a _ (b ∷ r) (two h) pos fits e = (a ∷ b ∷ [], (by_tests_two a b h (rest_two a b r e), (r, refl)), refl)
found a _ [] (three h) pos fits e = absurd (omega arith)
found a _ (b ∷ []) (three h) pos fits e = absurd (omega arith)
found a _ (b ∷ c ∷ r) (three h) pos fits e =
    let f = rest_three a b c r e in
    (a ∷ b ∷ c ∷ [], (by_tests_three a b c h f.0 f.1, (r, refl)), refl)
found a _ [] (four h) pos fits e = absurd (omega arith)
found a _ (b ∷ []) (four h) pos fits e = absurd (omega arith)
found a _ (b ∷ c ∷ []) (four h) pos fits e = absurd (omega arith)
found a _ (b ∷ c ∷ d ∷ r) (four h) pos fits e =
    let f = rest_four a b c d r e in
    (a ∷ b ∷ c ∷ d ∷ [], (by_tests_four a b c d h f.0 f.1 f.2, (r, refl)), refl)

char_nil : char_length [] ≡ 0
unfolding char_length length_by
char_nil = refl

-- a length above 0 is that of a character of the grammar
pub char_found : (l : List ℕ) (n : ℕ) → char_length l ≡ suc n → (c : List ℕ) × Begins l c × (length c ≡ suc n)
unfolding char_length
char_found [] n e = absurd (omega (arith, char_nil))
char_found (a ∷ xs) n e =
    let p = pick_suc (leb (length_by a) (suc (length xs)) && rest (length_by a) (a ∷ xs)) (length_by a) n e in
    let q = and_both (leb (length_by a) (suc (length xs))) (rest (length_by a) (a ∷ xs)) p.0 in
    let f = found a (length_by a) xs (lead a) (omega (arith, p.1)) (leb-true (length_by a) (suc (length xs)) q.0) q.1 in
    (f.0, f.1, f.2 ∙ p.1)

-- the tests pass at a character of the grammar
module _ (a b : ℕ) where
  tests_one : (r : List ℕ) → length_by a ≡ 1 → char_length (a ∷ r) ≡ 1
  unfolding char_length rest
  tests_one r e = simp (e, le-leb 1 (suc (length r)) (omega arith))

  tests_two : (r : List ℕ) → length_by a ≡ 2 → second a b ≡ true → char_length (a ∷ b ∷ r) ≡ 2
  unfolding char_length rest
  tests_two r e s = simp (e, s, le-leb 2 (suc (suc (length r))) (omega arith))

  tests_three : (c : ℕ) (r : List ℕ) → length_by a ≡ 3 → second a b ≡ true → In 0x80 0xbf c → char_length (a ∷ b ∷ c ∷ r) ≡ 3
  unfolding char_length rest tail
  tests_three c r e s t = simp (e, s, t, le-leb 3 (suc (suc (suc (length r)))) (omega arith))

  tests_four : (c d : ℕ) (r : List ℕ) → length_by a ≡ 4 → second a b ≡ true → In 0x80 0xbf c → In 0x80 0xbf d → char_length (a ∷ b ∷ c ∷ d ∷ r) ≡ 4
  unfolding char_length rest tail
  tests_four c d r e s t u = simp (e, s, t, u, le-leb 4 (suc (suc (suc (suc (length r))))) (omega arith))

-- a character of the grammar at the start has that length
pub char_length_lem : (c r : List ℕ) → Character c → char_length (c ++ r) ≡ length c
char_length_lem _ r (utf8_1 {a = a} h) = tests_one a 0 r (by_one a h)
char_length_lem _ r (utf8_2 {a = a} {b = b} h i) =
    let g = in_low 0xc2 0xdf a h in
    let k = in_high 0xc2 0xdf a h in
    tests_two a b r (by_two a h) (second_else a b (omega arith) ∙ i)
char_length_lem _ r (utf8_3_e0 {b = b} {c = c} i j) = tests_three 0xe0 b c r (by_three 0xe0 refl) (second_e0 0xe0 b refl ∙ i) j
char_length_lem _ r (utf8_3_low {a = a} {b = b} {c = c} h i j) =
    let g = in_low 0xe1 0xec a h in
    let k = in_high 0xe1 0xec a h in
    tests_three a b c r (by_three a (in_range 0xe0 0xef a (omega arith) (omega arith))) (second_else a b (omega arith) ∙ i) j
char_length_lem _ r (utf8_3_ed {b = b} {c = c} i j) = tests_three 0xed b c r (by_three 0xed refl) (second_ed 0xed b refl ∙ i) j
char_length_lem _ r (utf8_3_high {a = a} {b = b} {c = c} h i j) =
    let g = in_low 0xee 0xef a h in
    let k = in_high 0xee 0xef a h in
    tests_three a b c r (by_three a (in_range 0xe0 0xef a (omega arith) k)) (second_else a b (omega arith) ∙ i) j
char_length_lem _ r (utf8_4_f0 {b = b} {c = c} {d = d} i j k) = tests_four 0xf0 b c d r (by_four 0xf0 refl) (second_f0 0xf0 b refl ∙ i) j k
char_length_lem _ r (utf8_4_mid {a = a} {b = b} {c = c} {d = d} h i j k) =
    let g = in_low 0xf1 0xf3 a h in
    let m = in_high 0xf1 0xf3 a h in
    tests_four a b c d r (by_four a (in_range 0xf0 0xf4 a (omega arith) (omega arith))) (second_else a b (omega arith) ∙ i) j k
char_length_lem _ r (utf8_4_f4 {b = b} {c = c} {d = d} i j k) = tests_four 0xf4 b c d r (by_four 0xf4 refl) (second_f4 0xf4 b refl ∙ i) j k

-- a character has an octet, and those after its first are 80 or above
also : (low high b : ℕ) (l : List ℕ) → 0x80 ≤ low → In low high b → Each (leb 0x80) l → Each (leb 0x80) (b ∷ l)
unfolding Each
also low high b l g h e = (le-leb 0x80 b (omega (arith, in_low low high b h)), e)

tail_one : (b : ℕ) → In 0x80 0xbf b → Each (leb 0x80) (b ∷ [])
unfolding Each
tail_one b h = also 0x80 0xbf b [] (omega arith) h tt

tail_two : (b c : ℕ) → In 0x80 0xbf b → In 0x80 0xbf c → Each (leb 0x80) (b ∷ c ∷ [])
tail_two b c h k = also 0x80 0xbf b (c ∷ []) (omega arith) h (tail_one c k)

pub char_parts : (c : List ℕ) → Character c → (1 ≤ length c) × Each (leb 0x80) (drop 1 c)
unfolding Each
char_parts _ (utf8_1 h) = (omega arith, tt)
char_parts _ (utf8_2 {b = b} h i) = (omega arith, tail_one b i)
char_parts _ (utf8_3_e0 {b = b} {c = c} i j) = (omega arith, also 0xa0 0xbf b (c ∷ []) (omega arith) i (tail_one c j))
char_parts _ (utf8_3_low {b = b} {c = c} h i j) = (omega arith, tail_two b c i j)
char_parts _ (utf8_3_ed {b = b} {c = c} i j) = (omega arith, also 0x80 0x9f b (c ∷ []) (omega arith) i (tail_one c j))
char_parts _ (utf8_3_high {b = b} {c = c} h i j) = (omega arith, tail_two b c i j)
char_parts _ (utf8_4_f0 {b = b} {c = c} {d = d} i j k) = (omega arith, also 0x90 0xbf b (c ∷ d ∷ []) (omega arith) i (tail_two c d j k))
char_parts _ (utf8_4_mid {b = b} {c = c} {d = d} h i j k) = (omega arith, also 0x80 0xbf b (c ∷ d ∷ []) (omega arith) i (tail_two c d j k))
char_parts _ (utf8_4_f4 {b = b} {c = c} {d = d} i j k) = (omega arith, also 0x80 0x8f b (c ∷ d ∷ []) (omega arith) i (tail_two c d j k))
