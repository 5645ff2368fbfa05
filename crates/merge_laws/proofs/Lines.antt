-- Properties, names, UIDs and counts of a side by its card's lines. Assumes nothing.
use mathlib.Core.Path.{◌≡◌, refl, sym, ap, subst, ◌∙◌}
use mathlib.Core.Bool.{Bool, true, false, false≢true}
use mathlib.Core.List.{List, [], ◌∷◌}
use mathlib.Core.Logic.{◌↔◌}
use Prim.Native.Nat.{ℕ, zero, suc, ◌+◌, ◌<◌, ◌≤◌}
use native.Mathlib.Omega.{arith}
use lib.Dec.{eqb, ltb}
use lib.ListN.{length, get_or}
use lib.Seq.{ext_get_or}
use borrow.Author.Tests.{ltb-true, lt-ltb, eqb-true, eqb-false, eq-eqb, ne_eqb}
use Rattle.octets.specs.Pick.{pick}
use Rattle.octets.specs.Cases.{same}
use Rattle.octets.proofs.Bools.{by}
use Rattle.line_parser.specs.Grammar.{Line}
use Rattle.property_table.specs.declared.Edition.TheVariants.{First}
use Rattle.card_line.specs.Parts.{row_of_line}
use Rattle.reader_grammar.specs.Cards.{counts, count, lines_of}
use Rattle.merge_sides.specs.Lines.{field_at, value_at, same_from, same_octets, same_property, first_line, count_lines}
use Rattle.merge_partners.specs.Pairs.{same_uids}
use Rattle.merge.specs.Sides.{Side}
use Rattle.merge_words.specs.Lists.{At}
use Rattle.merge_words.specs.Lists.At.{first, later}
use Rattle.merge_laws.specs.Plans.{SameProperty, FirstUid}
use Rattle.merge_laws.specs.Plans.SameProperty.{listed, unlisted}
use Rattle.merge_laws.specs.Plans.FirstUid.{uid, past}
use Rattle.merge_words.specs.Sides.{SideOf}
use Rattle.merge_words.proofs.Members.{at_below}

pub pick_and : (a b : Bool) → pick a b false ≡ true → (a ≡ true) × (b ≡ true)
pick_and true b e = (refl, e)
pick_and false b e = absurd (false≢true e)

-- the same octets are equal ones
module _ (xs ys : List ℕ) where
  same_from_lem : (k i : ℕ) → same_from xs ys i k ≡ true → (n : ℕ) → i ≤ n → n < i + k → get_or xs n 0 ≡ get_or ys n 0
  unfolding same_from
  same_from_lem zero i e n f b = absurd (omega arith)
  same_from_lem (suc k) i e n f b =
      let z = pick_and (eqb (get_or xs i 0) (get_or ys i 0)) (same_from xs ys (i + 1) k) e in
      by (eqb i n)
      (λ s. subst (λ (m : ℕ). get_or xs m 0 ≡ get_or ys m 0) (eqb-true i n s) (eqb-true (get_or xs i 0) (get_or ys i 0) z.0))
      (λ s. same_from_lem k (i + 1) z.1 n (omega (arith, eqb-false i n s)) (omega arith))

  pub octets_equal : same_octets xs ys ≡ true → xs ≡ ys
  unfolding same_octets
  octets_equal e =
      let z = pick_and (eqb (length xs) (length ys)) (same_from xs ys 0 (length xs)) e in
      ext_get_or 0 xs ys (eqb-true (length xs) (length ys) z.0) (λ i h. same_from_lem (length xs) 0 z.1 i (omega arith) (omega (arith, h)))

same_self : (xs : List ℕ) (k i : ℕ) → same_from xs xs i k ≡ true
unfolding same_from
same_self xs zero i = refl
same_self xs (suc k) i = rw (eq-eqb (get_or xs i 0) (get_or xs i 0) refl) (same_self xs k (i + 1))

pub octets_same : (xs ys : List ℕ) → xs ≡ ys → same_octets xs ys ≡ true
unfolding same_octets
octets_same xs ys e = subst (λ (zs : List ℕ). same_octets xs zs ≡ true) e (rw (eq-eqb (length xs) (length xs) refl) (same_self xs (length xs) 0))

-- one property, of two lines
abbrev Row : Line → ℕ
Row = row_of_line First

property_words : (x y : Line) → pick (eqb (Row x) (Row y)) (pick (eqb (Row x) 0) (same x.name y.name) true) false ≡ true → SameProperty x y
property_words x y e =
    let z = pick_and (eqb (Row x) (Row y)) (pick (eqb (Row x) 0) (same x.name y.name) true) e in
    let s : Row x ≡ Row y = eqb-true (Row x) (Row y) z.0 in
    by (eqb (Row x) 0)
    (λ o.
    let r : Row x ≡ 0 = eqb-true (Row x) 0 o in
    unlisted r (sym s ∙ r) (rw o at z.1))
    (λ o. listed s (eqb-false (Row x) 0 o))

words_property : (x y : Line) → SameProperty x y → pick (eqb (Row x) (Row y)) (pick (eqb (Row x) 0) (same x.name y.name) true) false ≡ true
words_property x y (listed s d) = rw (eq-eqb (Row x) (Row y) s, ne_eqb (Row x) 0 d)
words_property x y (unlisted r q s) = rw (eq-eqb (Row x) (Row y) (r ∙ sym q), eq-eqb (Row x) 0 r, s)

module _ (X Y : Side) (xs ys : List Line) (sx : SideOf X xs) (sy : SideOf Y ys) (i j : ℕ) (x y : Line) (hx : At xs i x) (hy : At ys j y) where
  property_is : same_property X.copy X.records i Y.copy Y.records j ≡ pick (eqb (Row x) (Row y)) (pick (eqb (Row x) 0) (same x.name y.name) true) false
  unfolding same_property
  property_is = rw (sx.property i x hx, sy.property j y hy, sx.name i x hx, sy.name j y hy)

  pub same_property_lem : (same_property X.copy X.records i Y.copy Y.records j ≡ true) ↔ SameProperty x y
  same_property_lem = (λ e. property_words x y (sym property_is ∙ e), λ w. property_is ∙ words_property x y w)

-- the first line of a row
pub data Leading (row : ℕ) : List Line → ℕ → Line → Type 0 where
  now : {x : Line} {xs : List Line} → row_of_line First x ≡ row → Leading row (x ∷ xs) 0 x
  then : {x y : Line} {xs : List Line} {n : ℕ} → (row_of_line First x ≡ row → ⊥) → Leading row xs n y → Leading row (x ∷ xs) (suc n) y

pub leading_at : {row n : ℕ} {xs : List Line} {x : Line} → Leading row xs n x → At xs n x
leading_at (now e) = first
leading_at (then d l) = later (leading_at l)

pub leading_row : {row n : ℕ} {xs : List Line} {x : Line} → Leading row xs n x → row_of_line First x ≡ row
leading_row (now e) = e
leading_row (then d l) = leading_row l

-- the records tell the rows of these lines, from i on
abbrev Tells : List ℕ → ℕ → List Line → Type 0
Tells rs i xs = (n : ℕ) (x : Line) → At xs n x → field_at rs (i + n) 0 ≡ row_of_line First x

tells_tail : (rs : List ℕ) (i : ℕ) (x : Line) (xs : List Line) → Tells rs i (x ∷ xs) → Tells rs (i + 1) xs
tells_tail rs i x xs t n y h = ap (λ (k : ℕ). field_at rs k 0) (omega arith) ∙ t (suc n) y (later h)

tells_head : (rs : List ℕ) (i : ℕ) (x : Line) (xs : List Line) → Tells rs i (x ∷ xs) → field_at rs i 0 ≡ row_of_line First x
tells_head rs i x xs t = ap (λ (k : ℕ). field_at rs k 0) (omega arith) ∙ t 0 x first

module _ (rs : List ℕ) (row : ℕ) where
  line_at : (xs : List Line) (i n : ℕ) (x : Line) → Tells rs i xs → Leading row xs n x → first_line rs row i (length xs) ≡ i + n
  unfolding first_line
  line_at [] i n y t h = elim h [ ]
  line_at (x ∷ xs) i n y t (now e) = rw (tells_head rs i x xs t, eq-eqb (row_of_line First x) row e) (omega arith)
  line_at (x ∷ xs) i n y t (then {n = m} d l) =
      rw (tells_head rs i x xs t, ne_eqb (row_of_line First x) row d) (line_at xs (i + 1) m y (tells_tail rs i x xs t) l ∙ omega arith)

  at_line : (xs : List Line) (i : ℕ) → Tells rs i xs → first_line rs row i (length xs) < i + length xs → (n : ℕ) × (x : Line) × Leading row xs n x
  unfolding first_line
  at_line [] i t h = absurd (omega arith)
  at_line (x ∷ xs) i t h =
      by (eqb (row_of_line First x) row)
      (λ e. (0, x, now (eqb-true (row_of_line First x) row e)))
      (λ e.
      let g : first_line rs row (i + 1) (length xs) < i + 1 + length xs = omega (arith, rw (tells_head rs i x xs t, e) at h) in
      let z = at_line xs (i + 1) (tells_tail rs i x xs t) g in
      (suc z.0, z.1, then (eqb-false (row_of_line First x) row e) z.2))

  count_is : (xs : List Line) (i : ℕ) → Tells rs i xs → count_lines rs row i (length xs) ≡ lines_of First row xs
  unfolding count_lines count
  count_is [] i t = refl
  count_is (x ∷ xs) i t =
      rw (tells_head rs i x xs t)
      (by (eqb (row_of_line First x) row)
      (λ e. rw e (omega (arith, count_is xs (i + 1) (tells_tail rs i x xs t))))
      (λ e. rw e (omega (arith, count_is xs (i + 1) (tells_tail rs i x xs t)))))

-- where a line of the row is the only one, it is the first
counted : (row : ℕ) (xs : List Line) (n : ℕ) (x : Line) → At xs n x → row_of_line First x ≡ row → 1 ≤ lines_of First row xs
unfolding count
counted row [] n y h e = elim h [ ]
counted row (x ∷ xs) n y first e = rw (eq-eqb (row_of_line First x) row e) (omega arith)
counted row (x ∷ xs) n y (later {i = m} h) e =
    by (eqb (row_of_line First x) row)
    (λ q. rw q (omega arith))
    (λ q. rw q (counted row xs m y h e))

pub only_leads : (row : ℕ) (xs : List Line) (n : ℕ) (x : Line) → At xs n x → row_of_line First x ≡ row → lines_of First row xs ≡ 1 → Leading row xs n x
unfolding count
only_leads row [] n y h e c = elim h [ ]
only_leads row (x ∷ xs) n y first e c = now e
only_leads row (x ∷ xs) n y (later {i = m} h) e c =
    by (eqb (row_of_line First x) row)
    (λ q.
    let two : counts true (lines_of First row xs) ≡ 1 = rw q at c in
    absurd (omega (arith, two, counted row xs m y h e)))
    (λ q. then (eqb-false (row_of_line First x) row q) (only_leads row xs m y h e (rw q at c)))

pub one_leads : (row : ℕ) (xs : List Line) → lines_of First row xs ≡ 1 → (n : ℕ) × (x : Line) × Leading row xs n x
unfolding count
one_leads row [] c = absurd (omega arith)
one_leads row (x ∷ xs) c =
    by (eqb (row_of_line First x) row)
    (λ q. (0, x, now (eqb-true (row_of_line First x) row q)))
    (λ q.
    let z = one_leads row xs (rw q at c) in
    (suc z.0, z.1, then (eqb-false (row_of_line First x) row q) z.2))

-- the UID line
uid_leads : {xs : List Line} {u : List ℕ} → FirstUid xs u → (n : ℕ) × (x : Line) × Leading 31 xs n x × (x.value ≡ u)
uid_leads (uid {x = x} e) = (0, x, now e, refl)
uid_leads (past d f) =
    let z = uid_leads f in
    (suc z.0, z.1, then d z.2, z.3)

leads_uid : {n : ℕ} {xs : List Line} {x : Line} → Leading 31 xs n x → FirstUid xs x.value
leads_uid (now e) = uid e
leads_uid (then d l) = past d (leads_uid l)

module _ (s : Side) (xs : List Line) (so : SideOf s xs) where
  tells : Tells s.records 0 xs
  tells n x h = ap (λ (k : ℕ). field_at s.records k 0) (omega arith) ∙ so.property n x h

  pub side_count : (row : ℕ) → count_lines s.records row 0 s.lines ≡ lines_of First row xs
  side_count row = ap (count_lines s.records row 0) so.count ∙ count_is s.records row xs 0 tells

  pub side_line : (row n : ℕ) (x : Line) → Leading row xs n x → first_line s.records row 0 s.lines ≡ n
  side_line row n x l = ap (first_line s.records row 0) so.count ∙ line_at s.records row xs 0 n x tells l ∙ omega arith

  pub side_leads : (row : ℕ) → first_line s.records row 0 s.lines < s.lines → (n : ℕ) × (x : Line) × Leading row xs n x
  side_leads row h =
      at_line s.records row xs 0 tells (omega (arith, h, so.count, ap (first_line s.records row 0) so.count))

  pub side_low : (n : ℕ) (x : Line) → At xs n x → n < s.lines
  side_low n x h = omega (arith, at_below h, so.count)

-- both cards have a UID line and the first ones have the same value
module _ (X Y : Side) (xs ys : List Line) (sx : SideOf X xs) (sy : SideOf Y ys) where
  abbrev pub Uids : Bool
  Uids = same_uids X.copy X.records X.lines Y.copy Y.records Y.lines

  abbrev LineX : ℕ
  LineX = first_line X.records 31 0 X.lines

  abbrev LineY : ℕ
  LineY = first_line Y.records 31 0 Y.lines

  pub uids_words : Uids ≡ true → (u : List ℕ) × FirstUid xs u × FirstUid ys u
  unfolding same_uids
  uids_words e =
      let a = pick_and (ltb LineX X.lines) _ e in
      let b = pick_and (ltb LineY Y.lines) _ a.1 in
      let f = side_leads X xs sx 31 (ltb-true LineX X.lines a.0) in
      let g = side_leads Y ys sy 31 (ltb-true LineY Y.lines b.0) in
      let v : value_at X.copy X.records LineX ≡ f.1.value =
      ap (value_at X.copy X.records) (side_line X xs sx 31 f.0 f.1 f.2) ∙ sx.value f.0 f.1 (leading_at f.2) in
      let w : value_at Y.copy Y.records LineY ≡ g.1.value =
      ap (value_at Y.copy Y.records) (side_line Y ys sy 31 g.0 g.1 g.2) ∙ sy.value g.0 g.1 (leading_at g.2) in
      let q : g.1.value ≡ f.1.value = sym w ∙ sym (octets_equal _ _ b.1) ∙ v in
      (f.1.value, leads_uid f.2, subst (FirstUid ys) q (leads_uid g.2))

  pub words_uids : (u : List ℕ) → FirstUid xs u → FirstUid ys u → Uids ≡ true
  unfolding same_uids
  words_uids u f g =
      let a = uid_leads f in
      let b = uid_leads g in
      let h : LineX ≡ a.0 = side_line X xs sx 31 a.0 a.1 a.2 in
      let k : LineY ≡ b.0 = side_line Y ys sy 31 b.0 b.1 b.2 in
      let v : value_at X.copy X.records a.0 ≡ u = sx.value a.0 a.1 (leading_at a.2) ∙ a.3 in
      let w : value_at Y.copy Y.records b.0 ≡ u = sy.value b.0 b.1 (leading_at b.2) ∙ b.3 in
      rw (h, k, lt-ltb a.0 X.lines (side_low X xs sx a.0 a.1 (leading_at a.2)), lt-ltb b.0 Y.lines (side_low Y ys sy b.0 b.1 (leading_at b.2)))
      (octets_same _ _ (v ∙ sym w))
