-- Kinds 1, 2, 4, 5 and 6 in plain words: each backslash starts an escape, and the bare commas and semicolons are counted.
-- Assumes nothing.
use mathlib.Core.Path.{◌≡◌, refl, sym, ap, subst, ◌∙◌}
use mathlib.Core.Bool.{Bool, true, false, not, ◌&&◌}
use mathlib.Core.List.{List, [], ◌∷◌, ◌++◌, append-nil}
use mathlib.Core.Logic.{inl, inr, ⊎_elim, ◌↔◌}
use Prim.Native.Nat.{ℕ, zero, suc, ◌+◌, ◌≤◌}
use native.Mathlib.Nat.{zero-add}
use native.Mathlib.Omega.{arith}
use lib.Dec.{eqb}
use borrow.Author.Tests.{eqb-true}
use Rattle.property_table.specs.declared.Edition.{Edition}
use Rattle.property_table.specs.declared.Edition.TheVariants.{First, Second}
use Rattle.value_kinds.specs.Octets.{Octets, plain, inner, comma, semicolon, backslash, escapee, holds}
use Rattle.value_kinds.specs.Shapes.{one, ◌then◌, ◌or◌, joined, Every, Matches}
use Rattle.value_kinds.specs.Kinds.{text_of, split, text, texts, component, parts, up_to, spread, components, shape_in, most_of_name, most_of_address}
use Rattle.value_kinds.proofs.QuietLaws.{put, grow, cut, nothing, part_first, part_next, part_own, part_comma, semicolon_or, widen}
use Rattle.value_laws.specs.Words.{Escaped, ends, bare, bare_comma, bare_semicolon, escape, Text, Texts, Semicolons, Components, In}

recount : {c s d t : ℕ} {v : List ℕ} → c ≡ d → s ≡ t → Escaped c s v → Escaped d t v
recount {s = s} {d = d} {v = v} e f h = subst (λ (n : ℕ). Escaped d n v) f (subst (λ (n : ℕ). Escaped n s v) e h)

join : {c s d t : ℕ} {u w : List ℕ} → Escaped c s u → Escaped d t w → Escaped (c + d) (s + t) (u ++ w)
join {d = d} {t = t} ends k = recount (sym (zero-add d)) (sym (zero-add t)) k
join (bare p h) k = bare p (join h k)
join (bare_comma {c = c} p h) k = recount (omega arith) refl (bare_comma p (join h k))
join (bare_semicolon {s = s} p h) k = recount refl (omega arith) (bare_semicolon p (join h k))
join (escape p q h) k = escape p q (join h k)

-- what holds of the pieces of a text holds of it
module _ (P : List ℕ → Type 0) (own : Octets) (nil : P []) (step : (x : ℕ) (v : List ℕ) → In own x → P v → P (x ∷ v))
    (pair : (b x : ℕ) (v : List ℕ) → In backslash b → In escapee x → P v → P (b ∷ x ∷ v)) where
  pieces : (vs : List (List ℕ)) → Every (Matches (one own or one backslash then one escapee)) vs → P (joined vs)
  unfolding Matches joined Every
  pieces [] h = nil
  pieces (v ∷ vs) (inl (x, p, e), h) = subst (λ (l : List ℕ). P (l ++ joined vs)) (sym e) (step x (joined vs) p (pieces vs h))
  pieces (v ∷ vs) (inr (u, w, e, (b, p, f), (x, q, g)), h) =
      let whole : b ∷ x ∷ [] ≡ v = sym (e ∙ ap (λ (l : List ℕ). l ++ w) f ∙ ap (λ (l : List ℕ). b ∷ l) g) in
      subst (λ (l : List ℕ). P (l ++ joined vs)) whole (pair b x (joined vs) p q (pieces vs h))

  of_text : (v : List ℕ) → Matches (text_of own) v → P v
  unfolding Matches
  of_text v (vs, e, h) = subst P (sym e) (pieces vs h)

-- what holds of the texts of a list holds of it
module _ (P : List ℕ → Type 0) (mark own : Octets) (each-text : (v : List ℕ) → Matches (text_of own) v → P v)
    (after-mark : (x : ℕ) (v : List ℕ) → In mark x → P v → P (x ∷ v)) (both : (u w : List ℕ) → P u → P w → P (u ++ w)) where
  further : (vs : List (List ℕ)) → Every (Matches (one mark then text_of own)) vs → P [] → P (joined vs)
  unfolding Matches joined Every
  further [] h n = n
  further (v ∷ vs) ((u, w, e, (x, p, f), k), h) n =
      let whole : x ∷ w ≡ v = sym (e ∙ ap (λ (l : List ℕ). l ++ w) f) in
      both v (joined vs) (subst P whole (after-mark x w p (each-text w k))) (further vs h n)

  of_list : P [] → (v : List ℕ) → Matches (split mark (text_of own)) v → P v
  unfolding Matches
  of_list n v (u, w, e, h, (vs, f, k)) = subst P (sym (e ∙ ap (λ (l : List ℕ). u ++ l) f)) (both u (joined vs) (each-text u h) (further vs k n))

-- from a shape to the counts
of_inner : (v : List ℕ) → Matches (text_of inner) v → Escaped 0 0 v
of_inner v h = of_text (λ (l : List ℕ). Escaped 0 0 l) inner ends (λ x l p k. bare p k) (λ b x l p q k. escape p q k) v h

of_plain : (v : List ℕ) → Matches (text_of plain) v → Text v
of_plain v h =
    of_text Text plain (0, ends)
    (λ x l p k. ⊎_elim (λ m. (suc k.0, bare_semicolon m k.1)) (λ m. (k.0, bare m.0 k.1)) (semicolon_or x p))
    (λ b x l p q k. (k.0, escape p q k.1))
    v h

of_texts : (v : List ℕ) → Matches (split comma (text_of plain)) v → Texts v
of_texts v h =
    of_list Texts comma plain (λ l k. let t = of_plain l k in (0, t.0, t.1)) (λ x l p k. (suc k.0, k.1, bare_comma p k.2))
    (λ u w k m. (k.0 + m.0, k.1 + m.1, join k.2 m.2))
    (0, 0, ends) v h

of_component : (v : List ℕ) → Matches (split comma (text_of inner)) v → Semicolons 0 v
of_component v h =
    of_list (Semicolons 0) comma inner (λ l k. (0, of_inner l k)) (λ x l p k. (suc k.0, bare_comma p k.1))
    (λ u w k m. (k.0 + m.0, recount refl (zero-add 0) (join k.1 m.1)))
    (0, ends) v h

of_components : (v : List ℕ) → Matches (split semicolon (text_of inner)) v → Text v
of_components v h =
    of_list Text semicolon inner (λ l k. (0, of_inner l k)) (λ x l p k. (suc k.0, bare_semicolon p k.1))
    (λ u w k m. (k.0 + m.0, recount (zero-add 0) refl (join k.1 m.1)))
    (0, ends) v h

of_parts : (n : ℕ) (v : List ℕ) → Matches (parts (suc n)) v → Semicolons n v
unfolding Matches parts component
of_parts zero v h = of_component v h
of_parts (suc n) v (u, w, e, h, (a, b, f, (x, p, g), k)) =
    let l = of_component u h in
    let m = of_parts n b k in
    let tail : x ∷ b ≡ w = sym (f ∙ ap (λ (l : List ℕ). l ++ b) g) in
    let whole : u ++ (x ∷ b) ≡ v = ap (λ (z : List ℕ). u ++ z) tail ∙ sym e in
    (l.0 + m.0, subst (Escaped (l.0 + m.0) (suc n)) whole (recount refl (zero-add (suc n)) (join l.1 (bare_semicolon p m.1))))

-- from the counts to a shape
own : (p : Octets) (x : ℕ) → In p x → Matches (one p or one backslash then one escapee) (x ∷ [])
unfolding Matches
own p x h = inl (x, h, refl)

inner_plain : (x : ℕ) → In inner x → In plain x
unfolding holds
inner_plain x e = three (eqb x 92) (eqb x 44) (eqb x 59) e
  where
    three : (a b c : Bool) → (not a && (not b && not c)) ≡ true → (not a && not b) ≡ true
    three true b c e = e
    three false true c e = e
    three false false c e = refl

semicolon_plain : (x : ℕ) → In semicolon x → In plain x
unfolding holds
semicolon_plain x e = subst (λ (y : ℕ). (not (eqb y 92) && not (eqb y 44)) ≡ true) (sym (eqb-true x 59 e)) refl

pair_text : (own : Octets) (b x : ℕ) (v : List ℕ) → In backslash b → In escapee x → Matches (text_of own) v → Matches (text_of own) (b ∷ x ∷ v)
unfolding Matches joined Every
pair_text own b x v p q (vs, e, h) =
    ((b ∷ x ∷ []) ∷ vs, ap (λ (l : List ℕ). b ∷ x ∷ l) e, (inr (b ∷ [], x ∷ [], refl, (b, p, refl), (x, q, refl)), h))

pair_split : (mark own : Octets) (b x : ℕ) (v : List ℕ) → In backslash b → In escapee x → Matches (split mark (text_of own)) v
    → Matches (split mark (text_of own)) (b ∷ x ∷ v)
unfolding Matches
pair_split mark own b x v p q (u, w, e, h, k) = (b ∷ x ∷ u, w, ap (λ (l : List ℕ). b ∷ x ∷ l) e, pair_text own b x u p q h, k)

pair_parts : (n b x : ℕ) (v : List ℕ) → In backslash b → In escapee x → Matches (parts (suc n)) v → Matches (parts (suc n)) (b ∷ x ∷ v)
unfolding Matches parts component
pair_parts zero b x v p q h = pair_split comma inner b x v p q h
pair_parts (suc n) b x v p q (u, w, e, h, k) = (b ∷ x ∷ u, w, ap (λ (l : List ℕ). b ∷ x ∷ l) e, pair_split comma inner b x u p q h, k)

to_text : {c s : ℕ} {v : List ℕ} → Escaped c s v → c ≡ 0 → Matches (text_of plain) v
unfolding Matches joined Every
to_text ends e = ([], refl, tt)
to_text (bare {x = x} {v = v} p h) e = put (one plain or one backslash then one escapee) x v (own plain x (inner_plain x p)) (to_text h e)
to_text (bare_comma p h) e = absurd (omega arith)
to_text (bare_semicolon {x = x} {v = v} p h) e = put (one plain or one backslash then one escapee) x v (own plain x (semicolon_plain x p)) (to_text h e)
to_text (escape {b = b} {x = x} {v = v} p q h) e = pair_text plain b x v p q (to_text h e)

to_texts : {c s : ℕ} {v : List ℕ} → Escaped c s v → Matches (split comma (text_of plain)) v
to_texts ends = nothing comma plain
to_texts (bare {x = x} {v = v} p h) = grow comma plain x v (inner_plain x p) (to_texts h)
to_texts (bare_comma {x = x} {v = v} p h) = cut comma plain x v p (to_texts h)
to_texts (bare_semicolon {x = x} {v = v} p h) = grow comma plain x v (semicolon_plain x p) (to_texts h)
to_texts (escape {b = b} {x = x} {v = v} p q h) = pair_split comma plain b x v p q (to_texts h)

to_components : {c s : ℕ} {v : List ℕ} → Escaped c s v → c ≡ 0 → Matches (split semicolon (text_of inner)) v
to_components ends e = nothing semicolon inner
to_components (bare {x = x} {v = v} p h) e = grow semicolon inner x v p (to_components h e)
to_components (bare_comma p h) e = absurd (omega arith)
to_components (bare_semicolon {x = x} {v = v} p h) e = cut semicolon inner x v p (to_components h e)
to_components (escape {b = b} {x = x} {v = v} p q h) e = pair_split semicolon inner b x v p q (to_components h e)

to_parts : {c s : ℕ} {v : List ℕ} → Escaped c s v → Matches (parts (suc s)) v
unfolding parts component
to_parts ends = nothing comma inner
to_parts (bare {s = s} {x = x} {v = v} p h) = part_first x v s (part_own x p) (to_parts h)
to_parts (bare_comma {s = s} {x = x} {v = v} p h) = part_first x v s (part_comma x p) (to_parts h)
to_parts (bare_semicolon {s = s} {x = x} {v = v} p h) = part_next x v s p (to_parts h)
to_parts (escape {s = s} {b = b} {x = x} {v = v} p q h) = pair_parts s b x v p q (to_parts h)

-- some number of components from a least to a most are exactly so many
few_down : (m : ℕ) (v : List ℕ) → Matches (up_to m) v → (s : ℕ) × (s ≤ m) × Matches (parts (suc s)) v
unfolding Matches parts up_to
few_down zero v k = (0, omega arith, k)
few_down (suc m) v (u, w, e, k, inl (a, b, f, o, g)) =
    let d = few_down m b g in
    (suc d.0, omega (arith, d.1), (u, w, e, k, (a, b, f, o, d.2)))
few_down (suc m) v (u, w, e, k, inr z) =
    let whole : v ≡ u = e ∙ ap (λ (l : List ℕ). u ++ l) z ∙ append-nil u in
    (0, omega arith, subst (Matches component) (sym whole) k)

narrow : (n m : ℕ) (v : List ℕ) → Matches (spread (suc n) m) v → (s : ℕ) × (n ≤ s) × (s ≤ n + m) × Matches (parts (suc s)) v
unfolding Matches parts spread
narrow zero m v k = let d = few_down m v k in (d.0, omega arith, omega (arith, d.1), d.2)
narrow (suc n) m v (u, w, e, k, (a, b, f, o, g)) =
    let d = narrow n m b g in
    (suc d.0, omega (arith, d.1), omega (arith, d.2), (u, w, e, k, (a, b, f, o, d.3)))

-- from n + 1 to n + 1 + m components
is_spread : (n m : ℕ) (v : List ℕ) → Matches (spread (suc n) m) v ↔ Components (suc n) (suc n + m) v
is_spread n m v = (
  λ h. let d = narrow n m v h in (d.0, omega (arith, d.1), omega (arith, d.2), of_parts d.0 v d.3),
  λ h. widen n m h.0 v (omega (arith, h.1)) (omega (arith, h.2)) (to_parts h.3.1),
)

-- the kinds
pub is_text : (e : Edition) (v : List ℕ) → Matches (shape_in e 1) v ↔ Text v
unfolding shape_in text
is_text e v = (of_plain v, λ h. to_text h.1 refl)

pub is_texts : (e : Edition) (v : List ℕ) → Matches (shape_in e 2) v ↔ Texts v
unfolding shape_in text texts
is_texts e v = (of_texts v, λ h. to_texts h.2)

pub is_name : (e : Edition) (v : List ℕ) → Matches (shape_in e 4) v ↔ Components 5 (most_of_name e) v
unfolding shape_in
is_name First v = is_spread 4 0 v
is_name Second v = is_spread 4 2 v

pub is_address : (e : Edition) (v : List ℕ) → Matches (shape_in e 5) v ↔ Components 7 (most_of_address e) v
unfolding shape_in
is_address First v = is_spread 6 0 v
is_address Second v = is_spread 6 11 v

pub is_components : (e : Edition) (v : List ℕ) → Matches (shape_in e 6) v ↔ Text v
unfolding shape_in components
is_components e v = (of_components v, λ h. to_components h.1 refl)
