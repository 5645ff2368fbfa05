-- Octets from 80 on: where a value may have one, it may have another right after it. Assumes nothing.
use mathlib.Core.Path.{◌≡◌, refl, sym, ap, subst, ◌∙◌}
use mathlib.Core.Bool.{Bool, true, false, not, ◌&&◌, ◌||◌, and-false, false≢true}
use mathlib.Core.List.{List, [], ◌∷◌, ◌++◌, append-nil, append_assoc}
use mathlib.Core.Logic.{◌⊎◌, inl, inr, ⊎_elim}
use Prim.Native.Nat.{ℕ, ◌<◌, ◌≤◌}
use native.Mathlib.Omega.{arith}
use lib.Dec.{eqb, leb}
use borrow.Author.Tests.{ne_eqb, lt-leb}
use Rattle.numbers.specs.Kinds as kinds
use Rattle.octets.specs.Pick.{pick}
use Rattle.octets.specs.Classes.{letter as is_letter, digit as is_digit}
use Rattle.octets.specs.Cases.{lower}
use Rattle.octets.proofs.Bools.{and_both}
use Rattle.octets.proofs.Upto.{upto, alike}
use Rattle.property_table.specs.declared.Edition.{Edition}
use Rattle.property_table.specs.declared.Edition.TheVariants.{First, Second}
use Rattle.value_kinds.specs.Octets.{Octets, any, plain, inner, escapee, backslash, comma, semicolon, colon, letter, scheme, graphic, digit, sex, the_v, the_c, the_a, the_r, the_d, four, point, nought, the_t, the_z, minus, sign, figures, among, holds}
use Rattle.value_kinds.specs.Shapes.{Shape, never, empty, one, ◌then◌, ◌or◌, many, joined, Every, Matches}
use Rattle.value_kinds.specs.Dates.{fours, others, year, months, month, day28, day29, day30, day31, hour, minute, second, last_minute, offset, zoned, past_minute, past_hour, clock, last_second, time, timed, leap_date, common_date, no_year, date_and_or_time, full_time, leap_full, common_full, timestamp}
use Rattle.value_kinds.specs.Kinds.{text, texts, uri, component, parts, up_to, spread, components, gender, pidmap, vcard, version, shape_in, line_shape}

-- an octet that no ASCII character is
abbrev pub High : ℕ → Type 0
High x = 0x80 ≤ x

-- all of them are in the same sets
module _ (x : ℕ) (h : High x) where
  not_this : (k : ℕ) → k < 0x80 → eqb x k ≡ false
  not_this k l = ne_eqb x k (λ e. omega arith)

  above : (k : ℕ) → k < 0x80 → leb x k ≡ false
  above k l = lt-leb x k (omega arith)

  high_lower : lower x ≡ x
  unfolding lower
  high_lower = simp (above 90 (omega arith), and-false)

  no_letter : is_letter x ≡ false
  unfolding is_letter
  no_letter = simp (above 90 (omega arith), above 122 (omega arith), and-false)

  no_digit : is_digit x ≡ false
  unfolding is_digit
  no_digit = simp (above 57 (omega arith), and-false)

  pub in_same : (p : Octets) → holds p x ≡ holds p 0x80
  unfolding holds is_letter is_digit lower
  in_same any = refl
  in_same plain = rw (not_this 92 (omega arith), not_this 44 (omega arith))
  in_same inner = rw (not_this 92 (omega arith), not_this 44 (omega arith), not_this 59 (omega arith))
  in_same escapee = rw (not_this 92 (omega arith), not_this 44 (omega arith), not_this 59 (omega arith), not_this 110 (omega arith), not_this 78 (omega arith))
  in_same backslash = rw (not_this 92 (omega arith))
  in_same comma = rw (not_this 44 (omega arith))
  in_same semicolon = rw (not_this 59 (omega arith))
  in_same colon = rw (not_this 58 (omega arith))
  in_same letter = no_letter
  in_same scheme = rw (no_letter, no_digit, not_this 43 (omega arith), not_this 45 (omega arith), not_this 46 (omega arith))
  in_same graphic = simp (above 126 (omega arith), and-false)
  in_same digit = no_digit
  in_same sex = rw (high_lower, not_this 109 (omega arith), not_this 102 (omega arith), not_this 111 (omega arith), not_this 110 (omega arith), not_this 117 (omega arith))
  in_same the_v = rw (high_lower, not_this 118 (omega arith))
  in_same the_c = rw (high_lower, not_this 99 (omega arith))
  in_same the_a = rw (high_lower, not_this 97 (omega arith))
  in_same the_r = rw (high_lower, not_this 114 (omega arith))
  in_same the_d = rw (high_lower, not_this 100 (omega arith))
  in_same four = rw (not_this 52 (omega arith))
  in_same point = rw (not_this 46 (omega arith))
  in_same nought = rw (not_this 48 (omega arith))
  in_same the_t = rw (not_this 84 (omega arith))
  in_same the_z = rw (not_this 90 (omega arith))
  in_same minus = rw (not_this 45 (omega arith))
  in_same sign = rw (not_this 43 (omega arith), not_this 45 (omega arith))
  in_same (figures d ds) = rw no_digit

-- a set without them stands anywhere, and one with them only where it may stand any number of times; inside: such a place
unfoldable pumps : Bool → Shape → Bool
pumps inside never = true
pumps inside empty = true
pumps inside (one p) = inside || not (holds p 0x80)
pumps inside (a then b) = pumps false a && pumps false b
pumps inside (a or b) = pumps inside a && pumps inside b
pumps inside (many a) = pumps true a

-- one text of the shape, or any number of them one behind the other
abbrev Grown : Bool → Shape → List ℕ → Type 0
Grown true r v = (vs : List (List ℕ)) × (v ≡ joined vs) × Every (Matches r) vs
Grown false r v = Matches r v

-- an octet of two joined texts is one of the first or one of the second
parted : (u : List ℕ) (a : ℕ) (w s t : List ℕ) → u ++ (a ∷ w) ≡ s ++ t
    → ((z : List ℕ) × (s ≡ u ++ (a ∷ z)) × (w ≡ z ++ t)) ⊎ ((z : List ℕ) × (u ≡ s ++ z) × (t ≡ z ++ (a ∷ w)))
parted u a w [] t e = inr (u, refl, sym e)
parted [] a w (y ∷ s) t e =
    let p : a ≡ y = cc in
    let q : w ≡ s ++ t = cc in
    inl (s, ap (λ (x : ℕ). x ∷ s) (sym p), q)
parted (x ∷ u) a w (y ∷ s) t e =
    let p : x ≡ y = cc in
    let q : u ++ (a ∷ w) ≡ s ++ t = cc in
    ⊎_elim
    (λ k. inl (k.0, rw (← p) (ap (λ (l : List ℕ). x ∷ l) k.1), k.2))
    (λ k. inr (k.0, rw p (ap (λ (l : List ℕ). y ∷ l) k.1), k.2))
    (parted u a w s t q)

grown_one : (t : Bool) (r : Shape) (v : List ℕ) → Matches r v → Grown t r v
unfolding joined Every
grown_one true r v m = (v ∷ [], sym (append-nil v), (m, tt))
grown_one false r v m = m

each_by : (P Q : List ℕ → Type 0) → ((v : List ℕ) → P v → Q v) → (vs : List (List ℕ)) → Every P vs → Every Q vs
unfolding Every
each_by P Q f [] h = tt
each_by P Q f (v ∷ vs) h = (f v h.0, each_by P Q f vs h.1)

grown_by : (t : Bool) (r s : Shape) (v : List ℕ) → ((w : List ℕ) → Matches r w → Matches s w) → Grown t r v → Grown t s v
grown_by true r s v f g = (g.0, g.1, each_by (Matches r) (Matches s) f g.0 g.2)
grown_by false r s v f g = f v g

joined_append : (us vs : List (List ℕ)) → joined (us ++ vs) ≡ joined us ++ joined vs
unfolding joined
joined_append [] vs = refl
joined_append (u ∷ us) vs = ap (λ (l : List ℕ). u ++ l) (joined_append us vs) ∙ sym (append_assoc u (joined us) (joined vs))

each_append : (P : List ℕ → Type 0) (us vs : List (List ℕ)) → Every P us → Every P vs → Every P (us ++ vs)
unfolding Every
each_append P [] vs g h = h
each_append P (u ∷ us) vs g h = (g.0, each_append P us vs g.1 h)

module _ (a b : ℕ) (ha : High a) (hb : High b) where
  -- any number of texts, one of which has the octet
  grow_many : (r : Shape) → ((u w : List ℕ) → Matches r (u ++ (a ∷ w)) → Grown true r (u ++ (a ∷ b ∷ w)))
      → (vs : List (List ℕ)) (u w : List ℕ) → u ++ (a ∷ w) ≡ joined vs → Every (Matches r) vs → Grown true r (u ++ (a ∷ b ∷ w))
  unfolding joined Every
  grow_many r f [] [] w e h = let z : ◌≡◌ {A = ℕ} 0 1 = cc in absurd (omega arith)
  grow_many r f [] (x ∷ u) w e h = let z : ◌≡◌ {A = ℕ} 0 1 = cc in absurd (omega arith)
  grow_many r f (v ∷ vs) u w e h =
      ⊎_elim
      (λ k.
      let g = f u k.0 (subst (Matches r) k.1 h.0) in (
        g.0 ++ vs,
        ap (λ (l : List ℕ). u ++ (a ∷ b ∷ l)) k.2
            ∙ sym (append_assoc u (a ∷ b ∷ k.0) (joined vs))
            ∙ ap (λ (l : List ℕ). l ++ joined vs) g.1
            ∙ sym (joined_append g.0 vs),
        each_append (Matches r) g.0 vs g.2 h.1,
      ))
      (λ k.
      let g = grow_many r f vs k.0 w (sym k.2) h.1 in (
        v ∷ g.0,
        ap (λ (l : List ℕ). l ++ (a ∷ b ∷ w)) k.1 ∙ append_assoc v k.0 (a ∷ b ∷ w) ∙ ap (λ (l : List ℕ). v ++ l) g.1,
        (h.0, g.2),
      ))
      (parted u a w v (joined vs) e)

  single : (u w : List ℕ) (x : ℕ) → u ++ (a ∷ w) ≡ x ∷ [] → (u ≡ []) × (a ≡ x) × (w ≡ [])
  single [] [] x e = (refl, cc, refl)
  single [] (y ∷ w) x e = let z : ◌≡◌ {A = ℕ} 0 1 = cc in absurd (omega arith)
  single (y ∷ []) w x e = let z : ◌≡◌ {A = ℕ} 0 1 = cc in absurd (omega arith)
  single (y ∷ z ∷ u) w x e = let z : ◌≡◌ {A = ℕ} 0 1 = cc in absurd (omega arith)

  grow : (t : Bool) (r : Shape) → pumps t r ≡ true → (u w : List ℕ) → Matches r (u ++ (a ∷ w)) → Grown t r (u ++ (a ∷ b ∷ w))
  unfolding pumps Matches joined Every
  grow t never e u w m = absurd m
  grow t empty e [] w m = let z : ◌≡◌ {A = ℕ} 0 1 = cc in absurd (omega arith)
  grow t empty e (x ∷ u) w m = let z : ◌≡◌ {A = ℕ} 0 1 = cc in absurd (omega arith)
  grow true (one p) e u w (x, h, q) =
      let s = single u w x q in
      let ga : holds p a ≡ true = ap (holds p) s.1 ∙ h in
      rw (s.0, s.2) ((a ∷ []) ∷ (b ∷ []) ∷ [], refl, ((a, ga, refl), ((b, in_same b hb p ∙ sym (in_same a ha p) ∙ ga, refl), tt)))
  grow false (one p) e u w (x, h, q) =
      let s = single u w x q in
      let ga : holds p 0x80 ≡ true = sym (in_same a ha p) ∙ ap (holds p) s.1 ∙ h in
      absurd (false≢true (rw ga at e))
  grow t (r then s) e u w (x, y, q, mx, my) =
      let p = and_both (pumps false r) (pumps false s) e in
      grown_one t (r then s) (u ++ (a ∷ b ∷ w))
      (⊎_elim
      (λ k. (
        u ++ (a ∷ b ∷ k.0),
        y,
        ap (λ (l : List ℕ). u ++ (a ∷ b ∷ l)) k.2 ∙ sym (append_assoc u (a ∷ b ∷ k.0) y),
        grow false r p.0 u k.0 (subst (Matches r) k.1 mx),
        my,
      ))
      (λ k. (
        x,
        k.0 ++ (a ∷ b ∷ w),
        ap (λ (l : List ℕ). l ++ (a ∷ b ∷ w)) k.1 ∙ append_assoc x k.0 (a ∷ b ∷ w),
        mx,
        grow false s p.1 k.0 w (subst (Matches s) k.2 my),
      ))
      (parted u a w x y q))
  grow t (r or s) e u w (inl m) =
      grown_by t r (r or s) (u ++ (a ∷ b ∷ w)) (λ v k. inl k) (grow t r (and_both (pumps t r) (pumps t s) e).0 u w m)
  grow t (r or s) e u w (inr m) =
      grown_by t s (r or s) (u ++ (a ∷ b ∷ w)) (λ v k. inr k) (grow t s (and_both (pumps t r) (pumps t s) e).1 u w m)
  grow t (many r) e u w (vs, q, h) =
      grown_one t (many r) (u ++ (a ∷ b ∷ w)) (grow_many r (λ x y. grow true r e x y) vs u w q h)

-- so it is in each kind and each fixed value
kind_pumps : (ed : Edition) (k : ℕ) → k < kinds.count → pumps false (shape_in ed k) ≡ true
unfolding upto pumps holds is_letter is_digit lower among shape_in text texts uri component parts up_to spread components gender pidmap fours others year months month day28 day29 day30 day31 hour minute second last_minute offset zoned past_minute past_hour clock last_second time timed leap_date common_date no_year date_and_or_time full_time leap_full common_full timestamp
kind_pumps First k h = alike (λ j. pumps false (shape_in First j)) (λ j. true) kinds.count refl k h
kind_pumps Second k h = alike (λ j. pumps false (shape_in Second j)) (λ j. true) kinds.count refl k h

pick_pumps : (t : Bool) (a b : Shape) → pumps false a ≡ true → pumps false b ≡ true → pumps false (pick t a b) ≡ true
pick_pumps true a b e f = e
pick_pumps false a b e f = f

line_pumps : (ed : Edition) (row k : ℕ) → k < kinds.count → pumps false (line_shape ed row k) ≡ true
unfolding line_shape pumps holds vcard version lower
line_pumps ed row k h =
    pick_pumps (eqb row 1) vcard _ refl (pick_pumps (eqb row 2) vcard _ refl (pick_pumps (eqb row 34) version (shape_in ed k) refl (kind_pumps ed k h)))

-- where a line's value may have an octet from 80 on, it may have another right after it
pub another_high : (ed : Edition) (row k : ℕ) → k < kinds.count → (a b : ℕ) → High a → High b → (u w : List ℕ)
    → Matches (line_shape ed row k) (u ++ (a ∷ w)) → Matches (line_shape ed row k) (u ++ (a ∷ b ∷ w))
another_high ed row k h a b ha hb u w m = grow a b ha hb false (line_shape ed row k) (line_pumps ed row k h) u w m
