-- The octet that a refusal names: what stands there in the input, and that it is the first of its character. Assumes nothing.
use mathlib.Core.Path.{◌≡◌, refl, sym, ap, subst, ◌∙◌}
use mathlib.Core.List.{List, [], ◌∷◌, ◌++◌, append_assoc}
use mathlib.Core.Logic.{◌⊎◌, inl, inr, ⊎_elim}
use Prim.Native.Nat.{ℕ, zero, suc, ◌+◌, ◌-◌, ◌<◌, ◌≤◌}
use native.Mathlib.Omega.{arith}
use lib.Dec.{ltb, leb}
use lib.ListN.{length, take, get_or, length-append}
use lib.Seq.{take-append-add, get_or-append-add}
use borrow.Author.Tests.{ltb-true, ltb-false, leb-true}
use Rattle.numbers.specs.Kinds as kinds
use Rattle.octets.proofs.Bools.{by, and_both}
use Rattle.utf8.specs.Rfc3629.{In, Character, utf8_1, utf8_2, utf8_3_e0, utf8_3_low, utf8_3_ed, utf8_3_high, utf8_4_f0, utf8_4_mid, utf8_4_f4, Characters, none, more}
use Rattle.line_laws.specs.Lined.{At, Lined, and_then}
use Rattle.line_laws.proofs.PlacedLaws.{octet_same}
use Rattle.value_kinds.specs.Shapes.{Matches}
use Rattle.value_kinds.specs.Kinds.{line_shape}
use Rattle.value_laws.specs.Dead.{Dead}
use Rattle.value_laws.proofs.KindLaws.{fits_line}
use Rattle.value_laws.proofs.HighLaws.{High, another_high}
use Rattle.reader.specs.Outcome.{ended}
use Rattle.reader_grammar.specs.Values.{Fitting}
use Rattle.reader_grammar.proofs.ValueLaws.{value_fits}
use Rattle.property_table.specs.declared.Edition.{Edition}

-- ---- what stands there

-- the raw line r of an input stands behind those before it, and its CR LF behind it
line_there : {i : List ℕ} (ds es ls ms : List (List ℕ)) (r l : List ℕ) → Lined i (ds ++ (r ∷ es)) (ls ++ (l ∷ ms)) → length ls ≡ length ds
    → (t : List ℕ) × (i ≡ ended ds ++ (r ++ (13 ∷ 10 ∷ t)))
unfolding ended
line_there [] es [] ms r l (and_then {i = t} f u v h) n = (t, refl)
line_there [] es (k ∷ ls) ms r l h n = absurd (omega arith)
line_there (d ∷ ds) es [] ms r l h n = absurd (omega arith)
line_there (d ∷ ds) es (k ∷ ls) ms r l (and_then f u v h) n =
    let w = line_there ds es ls ms r l h (omega arith) in
    (w.0, ap (λ (s : List ℕ). d ++ (13 ∷ 10 ∷ s)) w.1 ∙ sym (append_assoc d (13 ∷ 10 ∷ ended ds) (r ++ (13 ∷ 10 ∷ w.0))))

-- at the place of octet o of a logical line stands that octet, and at the place of its end the CR that ends it
pub octet_there : {i : List ℕ} (ds es ls ms : List (List ℕ)) (r l : List ℕ) (o q : ℕ) → Lined i (ds ++ (r ∷ es)) (ls ++ (l ∷ ms)) → length ls ≡ length ds
    → At l r o q → get_or i (length (ended ds) + q) 0 ≡ get_or (l ++ (13 ∷ [])) o 0
octet_there ds es ls ms r l o q h n a =
    let w = line_there ds es ls ms r l h n in
    ap (λ (s : List ℕ). get_or s (length (ended ds) + q) 0) w.1
    ∙ get_or-append-add (ended ds) (r ++ (13 ∷ 10 ∷ w.0)) q 0
    ∙ octet_same a (10 ∷ w.0)

-- ---- the first octet of its character

-- octet o of v is one of a character and not its first: two octets from 80 on stand before and at it
abbrev Inside : List ℕ → ℕ → Type 0
Inside v o = (u : List ℕ) × (a : ℕ) × (b : ℕ) × (t : List ℕ) × (v ≡ u ++ (a ∷ b ∷ t)) × (o ≡ length u + 1) × High a × High b

unfoldable AllHigh : List ℕ → Type 0
AllHigh [] = Unit {0}
AllHigh (x ∷ xs) = High x × AllHigh xs

in_high : (lo hi b : ℕ) → High lo → In lo hi b → High b
in_high lo hi b h e = omega (arith, leb-true lo b (and_both (leb lo b) (leb b hi) e).0)

-- a character is one octet, or all its octets are from 80 on
character_high : {c : List ℕ} → Character c → (length c ≡ 1) ⊎ AllHigh c
unfolding AllHigh
character_high (utf8_1 a) = inl refl
character_high (utf8_2 a b) = inr (in_high _ _ _ (omega arith) a, (in_high _ _ _ (omega arith) b, tt))
character_high (utf8_3_e0 b c) = inr (omega arith, (in_high _ _ _ (omega arith) b, (in_high _ _ _ (omega arith) c, tt)))
character_high (utf8_3_low a b c) = inr (in_high _ _ _ (omega arith) a, (in_high _ _ _ (omega arith) b, (in_high _ _ _ (omega arith) c, tt)))
character_high (utf8_3_ed b c) = inr (omega arith, (in_high _ _ _ (omega arith) b, (in_high _ _ _ (omega arith) c, tt)))
character_high (utf8_3_high a b c) = inr (in_high _ _ _ (omega arith) a, (in_high _ _ _ (omega arith) b, (in_high _ _ _ (omega arith) c, tt)))
character_high (utf8_4_f0 b c d) = inr (omega arith, (in_high _ _ _ (omega arith) b, (in_high _ _ _ (omega arith) c, (in_high _ _ _ (omega arith) d, tt))))
character_high (utf8_4_mid a b c d) =
    inr (in_high _ _ _ (omega arith) a, (in_high _ _ _ (omega arith) b, (in_high _ _ _ (omega arith) c, (in_high _ _ _ (omega arith) d, tt))))
character_high (utf8_4_f4 b c d) = inr (omega arith, (in_high _ _ _ (omega arith) b, (in_high _ _ _ (omega arith) c, (in_high _ _ _ (omega arith) d, tt))))

inside_character : (c l : List ℕ) (o : ℕ) → AllHigh c → 0 < o → o < length c → Inside (c ++ l) o
unfolding AllHigh
inside_character [] l o h p q = absurd (omega arith)
inside_character (a ∷ []) l o h p q = absurd (omega arith)
inside_character (a ∷ b ∷ c) l zero h p q = absurd (omega arith)
inside_character (a ∷ b ∷ c) l (suc zero) h p q = ([], a, b, c ++ l, refl, refl, h.0, h.1.0)
inside_character (a ∷ b ∷ c) l (suc (suc o)) h p q =
    let w = inside_character (b ∷ c) l (suc o) h.1 (omega arith) (omega arith) in
    (a ∷ w.0, w.1, w.2, w.3, ap (λ (s : List ℕ). a ∷ s) w.4, omega (arith, w.5), w.6, w.7)

further : (c v : List ℕ) (o : ℕ) → Inside v o → Inside (c ++ v) (length c + o)
further c v o (u, a, b, t, e, n, ha, hb) =
    (c ++ u, a, b, t, ap (λ (s : List ℕ). c ++ s) e ∙ sym (append_assoc c u (a ∷ b ∷ t)), omega (arith, n, length-append c u), ha, hb)

-- a text of characters is cut at o between two of them, or inside one
cut : {v : List ℕ} → Characters v → (o : ℕ) → o ≤ length v → Characters (take o v) ⊎ Inside v o
cut none zero h = inl none
cut none (suc o) h = inl none
cut (more {c = c} {l = l} ch rest) o h =
    by (ltb o (length c)) (λ e. within o (ltb-true o (length c) e))
    (λ e.
    let le = ltb-false o (length c) e in
    let n : length c + (o - length c) ≡ o = omega arith in
    let le' : o - length c ≤ length l = omega (arith, length-append c l) in
    subst (λ (m : ℕ). Characters (take m (c ++ l)) ⊎ Inside (c ++ l) m) n
    (⊎_elim (λ k. inl (rw (take-append-add c l (o - length c)) (more ch k))) (λ k. inr (further c l (o - length c) k)) (cut rest (o - length c) le')))
  where
    within : (o : ℕ) → o < length c → Characters (take o (c ++ l)) ⊎ Inside (c ++ l) o
    within zero lt = inl none
    within (suc o) lt = ⊎_elim (λ k. absurd (omega (arith, k))) (λ k. inr (inside_character c l (suc o) k (omega arith) lt)) (character_high ch)

module _ (ed : Edition) (row k : ℕ) (low : k < kinds.count) where
  another : (a b : ℕ) → High a → High b → (u w : List ℕ) → Fitting ed row k (u ++ (a ∷ w)) → Fitting ed row k (u ++ (a ∷ b ∷ w))
  another a b ha hb u w f =
      let to : (v : List ℕ) → Fitting ed row k v → Matches (line_shape ed row k) v = λ v g. (fits_line ed row k v).0 ((value_fits ed row k v).1 g) in
      (value_fits ed row k (u ++ (a ∷ b ∷ w))).0 ((fits_line ed row k (u ++ (a ∷ b ∷ w))).1 (another_high ed row k low a b ha hb u w (to (u ++ (a ∷ w)) f)))

  not_inside : (v : List ℕ) (o : ℕ) → Dead (Fitting ed row k) v o → Inside v o → ⊥
  not_inside v o d (u, a, b, t, e, n, ha, hb) =
      let size : length v ≡ length u + length (a ∷ b ∷ t) = ap length e ∙ length-append u (a ∷ b ∷ t) in
      let one : take o v ≡ u ++ (a ∷ []) = ap (λ (s : List ℕ). take o s) e ∙ ap (λ (m : ℕ). take m (u ++ (a ∷ b ∷ t))) n ∙ take-append-add u (a ∷ b ∷ t) 1 in
      let m : suc o ≡ length u + 2 = omega arith in
      let two : take (suc o) v ≡ u ++ (a ∷ b ∷ []) = ap (λ (s : List ℕ). take (suc o) s) e ∙ ap (λ (m : ℕ). take m (u ++ (a ∷ b ∷ t))) m ∙ take-append-add u (a ∷ b ∷ t) 2 in
      let w = d.goes_on.0 in
      let f : Fitting ed row k (u ++ (a ∷ w)) = subst (Fitting ed row k) (ap (λ (s : List ℕ). s ++ w) one ∙ append_assoc u (a ∷ []) w) d.goes_on.2 in
      d.no_more (omega arith) w (subst (Fitting ed row k) (sym (ap (λ (s : List ℕ). s ++ w) two ∙ append_assoc u (a ∷ b ∷ []) w)) (another a b ha hb u w f))

  -- where a value of whole characters breaks off, a character starts or the value ends
  pub dead_not_in_character : (v : List ℕ) (o : ℕ) → Characters v → Dead (Fitting ed row k) v o → Characters (take o v)
  dead_not_in_character v o c d = ⊎_elim (λ h. h) (λ h. absurd (not_inside v o d h)) (cut c o d.inside)
