-- Where a line stands in an accepted input, by what stands before it. Assumes nothing.
use mathlib.Core.Path.{◌≡◌, refl, sym, ap, subst, ◌∙◌}
use mathlib.Core.List.{List, [], ◌∷◌, ◌++◌, map, append_assoc}
use mathlib.Core.Logic.{◌⊎◌, inl, inr}
use Prim.Native.Nat.{ℕ, ◌≤◌}
use native.Mathlib.Omega.{arith}
use Rattle.line_folds.specs.Folds.{unfolded}
use Rattle.line_parser.specs.Grammar.{Line, Each, render}
use Rattle.line_parameters.proofs.Law.{line_unique}
use Rattle.property_table.specs.declared.Edition.TheVariants.{First}
use Rattle.card_line.specs.Parts.{row_of_line, kind_of_line}
use Rattle.reader_grammar.specs.Values.{Fitting}
use Rattle.reader_grammar.specs.Cards.{Readable, Begins, Versions, Ends, Inside, Body, CardLines, Cards, lines_of}
use Rattle.reader_grammar.specs.Cards as grammar
use Rattle.reader_grammar.specs.Refusals.{Framing, Unladen}
use Rattle.reader_grammar.proofs.BegunLaws.{each_join, begin_stands, version_stands, end_stands, inside_stands}
use Rattle.version3_parameters.specs.declared.Way.{Way}
use Rattle.version3_parameters.specs.declared.Way.TheVariants.{Outward}
use Rattle.version3_laws.specs.Lines.{GoesOver}
use Rattle.version3_laws.specs.Cards.{Pairs, CardBy, card}
use Rattle.version3_laws.specs.Cards as cards
use Rattle.version3_laws.specs.Refusals.{Before, nothing, begun, whole, InPlace, SoFar, no_line, in_card, after_card}
use Rattle.version3_laws.proofs.LineLaws.{eleven_no, goes_eleven, version_row, Kinded}
use Rattle.version3_laws.proofs.WalkLaws.{Going, head_more, head_same, AllKinded}

-- ---- lines by their octets

pub same_lines : (xs ys : List Line) → Each Readable xs → Each Readable ys → map render xs ≡ map render ys → xs ≡ ys
unfolding Each
same_lines [] [] r s e = refl
same_lines [] (y ∷ ys) r s e = let z : ◌≡◌ {A = ℕ} 0 1 = cc in absurd (omega arith)
same_lines (x ∷ xs) [] r s e = let z : ◌≡◌ {A = ℕ} 0 1 = cc in absurd (omega arith)
same_lines (x ∷ xs) (y ∷ ys) r s e =
    let a : render x ≡ render y = cc in
    let b : map render xs ≡ map render ys = cc in
    ap (λ (z : Line). z ∷ xs) (line_unique x y r.0.formed s.0.formed a) ∙ ap (λ (zs : List Line). y ∷ zs) (same_lines xs ys r.1 s.1 b)

-- ---- the first END

abbrev NoEnd : Line → Type 0
NoEnd x = row_of_line First x ≡ 2 → ⊥

-- two lists that go on behind their first END are the same up to it, or one of them has the other's line before it
align : (us vs : List Line) (x e : Line) (ms rs : List Line) → Each NoEnd us → row_of_line First e ≡ 2 → us ++ (x ∷ ms) ≡ vs ++ (e ∷ rs)
    → ((qs : List Line) × (vs ≡ us ++ (x ∷ qs))) ⊎ ((us ≡ vs) × (x ≡ e) × (ms ≡ rs))
unfolding Each
align [] [] x e ms rs n r q = inr (refl, cc, cc)
align [] (v ∷ vs) x e ms rs n r q =
    let a : x ≡ v = cc in
    inl (vs, ap (λ (z : Line). z ∷ vs) (sym a))
align (u ∷ us) [] x e ms rs n r q =
    let a : u ≡ e = cc in
    absurd (n.0 (ap (row_of_line First) a ∙ r))
align (u ∷ us) (v ∷ vs) x e ms rs n r q = go (align us vs x e ms rs n.1 r b)
  where
    a : u ≡ v
    a = cc

    b : us ++ (x ∷ ms) ≡ vs ++ (e ∷ rs)
    b = cc

    go : ((qs : List Line) × (vs ≡ us ++ (x ∷ qs))) ⊎ ((us ≡ vs) × (x ≡ e) × (ms ≡ rs)) → ((qs : List Line) × (v ∷ vs ≡ u ∷ (us ++ (x ∷ qs)))) ⊎ ((u ∷ us ≡ v ∷ vs) × (x ≡ e) × (ms ≡ rs))
    go (inl (qs, h)) = inl (qs, ap (λ (z : Line). z ∷ vs) (sym a) ∙ ap (λ (l : List Line). u ∷ l) h)
    go (inr (h, k, m)) = inr (ap (λ (z : Line). z ∷ us) a ∙ ap (λ (l : List Line). v ∷ l) h, k, m)

module _ (w : Way) where
  going_no_end : (y : Line) → Going w y → NoEnd y
  going_no_end y (inl v) e = omega (arith, version_row w y v)
  going_no_end y (inr (z, g)) e = (eleven_no (goes_eleven w y z g)).1 e

  all_no_end : (ys : List Line) → Each (Going w) ys → Each NoEnd ys
  unfolding Each
  all_no_end [] h = tt
  all_no_end (y ∷ ys) h = (going_no_end y h.0, all_no_end ys h.1)

  pairs_no_end : {us us' : List Line} → Pairs (GoesOver w) us us' → Each NoEnd us
  unfolding Each
  pairs_no_end cards.none = tt
  pairs_no_end (cards.more {x = x} {y = y} h p) = ((eleven_no (goes_eleven w x y h)).1, pairs_no_end p)

  -- a card up to its END
  record Ended (xs : List Line) : Type 0 where
    first : Line
    inner : List Line
    last : Line
    parts : xs ≡ first ∷ (inner ++ (last ∷ []))
    no_end : Each NoEnd inner
    end : row_of_line First last ≡ 2

  card_ended : {xs ys : List Line} → CardBy w xs ys → Ended xs
  unfolding Each
  card_ended (card b v z us us' xs xs' hb hv hz pu px n f) = record {
    first = b;
    inner = us ++ (v ∷ xs);
    last = z;
    parts = ap (λ (l : List Line). b ∷ l) (sym (append_assoc us (v ∷ xs) (z ∷ [])));
    no_end = each_join First NoEnd us (v ∷ xs) (pairs_no_end pu) ((λ e. omega (arith, version_row w v hv)), pairs_no_end px);
    end = hz.row;
  }

-- ---- an accepted input

inside_no_end : (zs : List Line) → Each (Inside First) zs → Each NoEnd zs
unfolding Each
inside_no_end [] h = tt
inside_no_end (z ∷ zs) h = (h.0.end, inside_no_end zs h.1)

each_kinded : (zs : List Line) → Each (Inside First) zs → Each (Kinded Outward) zs
unfolding Each
each_kinded [] h = tt
each_kinded (z ∷ zs) h = (λ f. h.0.value, each_kinded zs h.1)

framed_kinded : (x : Line) → Framing (row_of_line First x) → Kinded Outward x
framed_kinded x f n = absurd (n f)

pub cards_kinded : {k : ℕ} {xs : List Line} → Cards First k xs → Each (Kinded Outward) xs
unfolding Each
cards_kinded grammar.Cards.none = tt
cards_kinded (grammar.Cards.more {ys = ys} (grammar.card {b = b} {v = v} {z = z} {xs = xs} hb hv body hz) c) =
    each_join First (Kinded Outward) (b ∷ v ∷ (xs ++ (z ∷ []))) ys
    (framed_kinded b (inl hb.row), (framed_kinded v (inr (inl hv.row)), each_join First (Kinded Outward) xs (z ∷ []) (each_kinded xs body.inner.each) (framed_kinded z (inr (inr hz.row)), tt)))
    (cards_kinded c)

pub all_kinded : (ls : List (List ℕ)) (xs : List Line) → map unfolded ls ≡ map render xs → Each Readable xs → Each (Kinded Outward) xs → AllKinded Outward ls
unfolding Each
all_kinded [] xs e r k = tt
all_kinded (l ∷ ls) [] e r k = let z : ◌≡◌ {A = ℕ} 0 1 = cc in absurd (omega arith)
all_kinded (l ∷ ls) (x ∷ xs) e r k =
    let a : unfolded l ≡ render x = cc in
    let b : map unfolded ls ≡ map render xs = cc in
    (λ y h. subst (Kinded Outward) (line_unique x y r.0.formed h.readable.formed (sym a ∙ h.text)) k.0, all_kinded ls xs b r.1 k.1)

-- the first card of an accepted input, and the lines behind it
pub record FirstCard (xs : List Line) : Type 0 where
  pub b : Line
  pub v : Line
  pub zs : List Line
  pub e : Line
  pub rest : List Line
  pub cards : ℕ
  pub parts : xs ≡ b ∷ ((v ∷ zs) ++ (e ∷ rest))
  pub begins : Begins First b
  pub version : Versions First v
  pub body : Body First zs
  pub ends : Ends First e
  pub later : Cards First cards rest

pub first_card : {k : ℕ} {xs : List Line} → Cards First k xs → 1 ≤ k → FirstCard xs
first_card grammar.Cards.none h = absurd (omega arith)
first_card (grammar.Cards.more {k = k} {ys = ys} (grammar.card {b = b} {v = v} {z = z} {xs = xs} hb hv body hz) c) h = record {
  b = b;
  v = v;
  zs = xs;
  e = z;
  rest = ys;
  cards = k;
  parts = ap (λ (l : List Line). b ∷ v ∷ l) (append_assoc xs (z ∷ []) ys);
  begins = hb;
  version = hv;
  body = body;
  ends = hz;
  later = c;
}

module _ {xs : List Line} (c : FirstCard xs) where
  -- the lines between BEGIN and END
  inner_no_end : Each NoEnd (c.v ∷ c.zs)
  unfolding Each
  inner_no_end = ((λ q. omega (arith, c.version.row)), inside_no_end c.zs c.body.inner.each)

-- what holds of a line in its place
pub record Sourced (b : Before) (x : Line) : Type 0 where
  pub place : InPlace b x
  pub unladen : Unladen First x
  pub fits : Fitting First (row_of_line First x) (kind_of_line First x) x.value

-- and of the lines before it: no VERSION before VERSION, FN and VERSION before END
pub record Counts (ys : List Line) (x : Line) : Type 0 where
  pub version : row_of_line First x ≡ 34 → lines_of First 34 ys ≡ 0
  pub end : row_of_line First x ≡ 2 → (1 ≤ lines_of First 6 ys) × (1 ≤ lines_of First 34 ys)

abbrev pub Counted : Before → Line → Type 0
Counted nothing x = Unit {0}
Counted (begun ys) x = Counts ys x
Counted whole x = Unit {0}

begins_sourced : (b : Before) (x : Line) → (row_of_line First x ≡ 1 → InPlace b x) → Begins First x → Sourced b x
begins_sourced b x f h = let s = begin_stands First x h in record { place = f h.row; unladen = s.unladen; fits = s.fits }

version_sourced : (ys : List Line) (x : Line) → Versions First x → Sourced (begun ys) x
version_sourced ys x h = let s = version_stands First x x h in record { place = λ e. omega (arith, h.row); unladen = s.unladen; fits = s.fits }

inside_sourced : (ys : List Line) (x : Line) → Inside First x → Sourced (begun ys) x × Counts ys x
inside_sourced ys x h =
    let s = inside_stands First x x [] x h in
    (record { place = h.begin; unladen = s.unladen; fits = s.fits }, record { version = λ e. absurd (h.version e); end = λ e. absurd (h.end e) })

end_sourced : (ys : List Line) (x : Line) → Ends First x → Sourced (begun ys) x
end_sourced ys x h = let s = end_stands First x x [] x h in record { place = λ e. omega (arith, h.row); unladen = s.unladen; fits = s.fits }

each_there : {A : Type 0} (P : A → Type 0) (us : List A) (x : A) (qs : List A) → Each P (us ++ (x ∷ qs)) → P x
unfolding Each
each_there P [] x qs h = h.0
each_there P (u ∷ us) x qs h = each_there P us x qs h.1

begin_there : {k : ℕ} {xs : List Line} (x : Line) (ms : List Line) → Cards First k xs → xs ≡ x ∷ ms → Begins First x
begin_there x ms grammar.Cards.none e = let z : ◌≡◌ {A = ℕ} 0 1 = cc in absurd (omega arith)
begin_there x ms (grammar.Cards.more (grammar.card {b = b} hb hv body hz) c) e = let q : b ≡ x = cc in subst (Begins First) q hb

module _ {xs : List Line} (c : FirstCard xs) where
  -- a line inside the first card
  within_card : (us : List Line) (x : Line) (ms : List Line) → Each NoEnd us → us ++ (x ∷ ms) ≡ c.zs ++ (c.e ∷ c.rest) → Sourced (begun (c.v ∷ us)) x × Counts (c.v ∷ us) x
  within_card us x ms n q = go (align us c.zs x c.e ms c.rest n c.ends.row q)
    where
      go : ((qs : List Line) × (c.zs ≡ us ++ (x ∷ qs))) ⊎ ((us ≡ c.zs) × (x ≡ c.e) × (ms ≡ c.rest)) → Sourced (begun (c.v ∷ us)) x × Counts (c.v ∷ us) x
      go (inl (qs, h)) = inside_sourced (c.v ∷ us) x (each_there (Inside First) us x qs (subst (Each (Inside First)) h c.body.inner.each))
      go (inr (h, k, m)) =
          let z : Ends First x = subst (Ends First) (sym k) c.ends in
          let fs = ap (lines_of First 6) h in (
            end_sourced (c.v ∷ us) x z,
            record {
              version = λ e. absurd (omega (arith, z.row, e));
              end = λ e. (omega (arith, head_same Outward 6 c.v us (λ f. omega (arith, f, c.version.row)), fs, c.body.named), omega (arith, head_more Outward 34 c.v us c.version.row));
            },
          )

  behind_begin : (ys : List Line) (x : Line) (ms : List Line) → Each NoEnd ys → ys ++ (x ∷ ms) ≡ (c.v ∷ c.zs) ++ (c.e ∷ c.rest) → Sourced (begun ys) x × Counts ys x
  unfolding Each grammar.count
  behind_begin [] x ms n q =
      let a : x ≡ c.v = cc in
      let h : Versions First x = subst (Versions First) (sym a) c.version in
      (version_sourced [] x h, record { version = λ e. refl; end = λ e. absurd (omega (arith, e, h.row)) })
  behind_begin (y ∷ ys) x ms n q =
      let a : y ≡ c.v = cc in
      let b : ys ++ (x ∷ ms) ≡ c.zs ++ (c.e ∷ c.rest) = cc in
      subst (λ (z : Line). Sourced (begun (z ∷ ys)) x × Counts (z ∷ ys) x) (sym a) (within_card ys x ms n.1 b)

  behind_card : {ps ys : List Line} (x : Line) (ms : List Line) → CardBy Outward ps ys → xs ≡ ps ++ (x ∷ ms) → Begins First x
  behind_card {ps} x ms k q = go (align d.inner (c.v ∷ c.zs) d.last c.e (x ∷ ms) c.rest d.no_end c.ends.row same)
    where
      d : Ended Outward ps
      d = card_ended Outward k

      joined : c.b ∷ ((c.v ∷ c.zs) ++ (c.e ∷ c.rest)) ≡ d.first ∷ (d.inner ++ (d.last ∷ (x ∷ ms)))
      joined = sym c.parts ∙ q ∙ ap (λ (l : List Line). l ++ (x ∷ ms)) d.parts ∙ ap (λ (l : List Line). d.first ∷ l) (append_assoc d.inner (d.last ∷ []) (x ∷ ms))

      same : d.inner ++ (d.last ∷ (x ∷ ms)) ≡ (c.v ∷ c.zs) ++ (c.e ∷ c.rest)
      same = let j = joined in cc

      go : ((qs : List Line) × (c.v ∷ c.zs ≡ d.inner ++ (d.last ∷ qs))) ⊎ ((d.inner ≡ c.v ∷ c.zs) × (d.last ≡ c.e) × (x ∷ ms ≡ c.rest)) → Begins First x
      go (inl (qs, h)) = absurd (each_there NoEnd d.inner d.last qs (subst (Each NoEnd) h (inner_no_end c)) d.end)
      go (inr (h, e, m)) = begin_there x ms c.later (sym m)

  -- a card that goes over and is the whole input is its one card
  pub one_card : {ys : List Line} → CardBy Outward xs ys → CardLines First xs
  one_card {ys} k = go (align d.inner (c.v ∷ c.zs) d.last c.e [] c.rest d.no_end c.ends.row same)
    where
      d : Ended Outward xs
      d = card_ended Outward k

      joined : c.b ∷ ((c.v ∷ c.zs) ++ (c.e ∷ c.rest)) ≡ d.first ∷ (d.inner ++ (d.last ∷ []))
      joined = sym c.parts ∙ d.parts

      same : d.inner ++ (d.last ∷ []) ≡ (c.v ∷ c.zs) ++ (c.e ∷ c.rest)
      same = let j = joined in cc

      go : ((qs : List Line) × (c.v ∷ c.zs ≡ d.inner ++ (d.last ∷ qs))) ⊎ ((d.inner ≡ c.v ∷ c.zs) × (d.last ≡ c.e) × ([] ≡ c.rest)) → CardLines First xs
      go (inl (qs, h)) = absurd (each_there NoEnd d.inner d.last qs (subst (Each NoEnd) h (inner_no_end c)) d.end)
      go (inr (h, e, m)) =
          subst (CardLines First) (ap (λ (r : List Line). c.b ∷ c.v ∷ (c.zs ++ (c.e ∷ r))) m ∙ sym c.parts) (grammar.card c.begins c.version c.body c.ends)

  -- an accepted input does not end inside a card
  pub no_open : (b : Line) (ys : List Line) → Each (Going Outward) ys → xs ≡ b ∷ ys → ⊥
  no_open b ys g q =
      let j : c.b ∷ ((c.v ∷ c.zs) ++ (c.e ∷ c.rest)) ≡ b ∷ ys = sym c.parts ∙ q in
      let t : ys ≡ (c.v ∷ c.zs) ++ (c.e ∷ c.rest) = cc in
      each_there NoEnd (c.v ∷ c.zs) c.e c.rest (subst (Each NoEnd) t (all_no_end Outward ys g)) c.ends.row

  -- each line stands where it may
  pub sourced : (ps : List Line) (x : Line) (ms : List Line) → Each Readable ps → xs ≡ ps ++ (x ∷ ms) → {ls : List (List ℕ)} {b : Before} → SoFar Outward ls b → ls ≡ map render ps → Sourced b x × Counted b x
  unfolding Each
  sourced [] x ms r q no_line e =
      let j : c.b ∷ ((c.v ∷ c.zs) ++ (c.e ∷ c.rest)) ≡ x ∷ ms = sym c.parts ∙ q in
      let a : c.b ≡ x = cc in
      (begins_sourced nothing x (λ h. h) (subst (Begins First) a c.begins), tt)
  sourced (p ∷ ps) x ms r q no_line e = let z : ◌≡◌ {A = ℕ} 0 1 = cc in absurd (omega arith)
  sourced ps x ms r q (in_card {b = b} {ys = ys} h s i) e =
      let t : b ∷ ys ≡ ps = same_lines (b ∷ ys) ps s r e in
      let j : c.b ∷ ((c.v ∷ c.zs) ++ (c.e ∷ c.rest)) ≡ b ∷ (ys ++ (x ∷ ms)) = sym c.parts ∙ q ∙ ap (λ (l : List Line). l ++ (x ∷ ms)) (sym t) in
      let k : ys ++ (x ∷ ms) ≡ (c.v ∷ c.zs) ++ (c.e ∷ c.rest) = cc in
      behind_begin ys x ms (all_no_end Outward ys i.each) k
  sourced ps x ms r q (after_card {xs = us} s k) e =
      let t : us ≡ ps = same_lines us ps s r e in
      (begins_sourced whole x (λ h. h) (behind_card x ms k (q ∙ ap (λ (l : List Line). l ++ (x ∷ ms)) (sym t))), tt)
