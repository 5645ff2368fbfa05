-- The walk over the lines of an input says what stands before each line: nothing, a card that has begun, or a whole card. Assumes nothing.
use mathlib.Core.Path.{◌≡◌, refl, sym, ap, subst, ◌∙◌}
use mathlib.Core.List.{List, [], ◌∷◌, ◌++◌, map, append-nil, append_assoc, map-append}
use mathlib.Core.Logic.{◌⊎◌, inl, inr}
use Prim.Native.Nat.{ℕ, suc, ◌+◌, ◌≤◌}
use native.Mathlib.Omega.{arith}
use lib.Dec.{eqb}
use lib.ListN.{length}
use lib.Seq.{append_snoc}
use borrow.Author.Tests.{eqb-true, eqb-false, eq-eqb, ne_eqb}
use Rattle.octets.proofs.Bools.{by}
use Rattle.line_folds.specs.Folds.{unfolded}
use Rattle.line_parser.specs.Grammar.{Line, Each, render}
use Rattle.property_table.specs.declared.Edition.TheVariants.{First}
use Rattle.card_line.specs.Parts.{row_of_line}
use Rattle.reader.specs.Outcome.{ended}
use Rattle.reader_grammar.specs.Cards.{Readable, Begins, Ends, of_row, count, lines_of}
use Rattle.reader_grammar.specs.Refusals.{Reads}
use Rattle.reader_grammar.proofs.Known.{count_append, each_last}
use Rattle.reader_grammar.proofs.Walks.{start_next}
use Rattle.version3_parameters.specs.declared.Way.{Way}
use Rattle.version3_judge.specs.declared.Set.{Set}
use Rattle.version3_judge.specs.Judge.{Step, Next, Refused, fresh_set, noted, onward, settled, judge_lines}
use Rattle.version3_laws.specs.Lines.{GoesOver, VersionRead, versioned}
use Rattle.version3_laws.specs.Cards.{Pairs, none, more, CardBy, card}
use Rattle.version3_laws.specs.Refusals.{Before, nothing, begun, whole, Within, SoFar, no_line, in_card, after_card}
use Rattle.version3_laws.proofs.LineLaws.{eleven_to, eleven_no, value_unbroken, Kinded, goes_to, goes_eleven, version_row}
use Rattle.version3_laws.proofs.JudgeLaws.{Tells, at_nothing, Advances, begins, version, passes, ends, advance_tells, Judged, flawed, ruled, misplaced, heavy, unwanted, advanced, outcome, decided}

module _ (w : Way) where
  -- a line inside a card that goes over
  abbrev pub Going : Line → Type 0
  Going y = VersionRead w y ⊎ ((z : Line) × GoesOver w y z)

  -- ---- how many lines of a row there are

  one_more : (row : ℕ) (ys : List Line) (x : Line) → row_of_line First x ≡ row → lines_of First row (ys ++ (x ∷ [])) ≡ lines_of First row ys + 1
  unfolding count
  one_more row ys x e = count_append First (of_row First row) ys (x ∷ []) ∙ rw (eq-eqb (row_of_line First x) row e)

  no_more : (row : ℕ) (ys : List Line) (x : Line) → (row_of_line First x ≡ row → ⊥) → lines_of First row (ys ++ (x ∷ [])) ≡ lines_of First row ys + 0
  unfolding count
  no_more row ys x n = count_append First (of_row First row) ys (x ∷ []) ∙ rw (ne_eqb (row_of_line First x) row n)

  pub head_same : (row : ℕ) (x : Line) (ys : List Line) → (row_of_line First x ≡ row → ⊥) → lines_of First row (x ∷ ys) ≡ lines_of First row ys
  unfolding count
  head_same row x ys n = rw (ne_eqb (row_of_line First x) row n)

  pub head_more : (row : ℕ) (x : Line) (ys : List Line) → row_of_line First x ≡ row → lines_of First row (x ∷ ys) ≡ suc (lines_of First row ys)
  unfolding count
  head_more row x ys e = rw (eq-eqb (row_of_line First x) row e)

  -- ---- VERSION among the lines

  goes_no_version : (x y : Line) → GoesOver w x y → row_of_line First x ≡ 34 → ⊥
  goes_no_version x y h e = (eleven_no (goes_eleven w x y h)).2 e

  all_go : (ys : List Line) → Each Going ys → lines_of First 34 ys ≡ 0 → (zs : List Line) × Pairs (GoesOver w) ys zs
  unfolding Each
  all_go [] h e = ([], none)
  all_go (y ∷ ys) h e = go h.0 (λ q. all_go ys h.1 q)
    where
      go : Going y → (lines_of First 34 ys ≡ 0 → (zs : List Line) × Pairs (GoesOver w) ys zs) → (zs : List Line) × Pairs (GoesOver w) (y ∷ ys) zs
      go (inl v) ih = absurd (omega (arith, head_more 34 y ys (version_row w y v)))
      go (inr (z, g)) ih = let r = ih (omega (arith, head_same 34 y ys (goes_no_version y z g))) in (z ∷ r.0, more g r.1)

  record Parted (ys : List Line) : Type 0 where
    us : List Line
    v : Line
    xs : List Line
    us' : List Line
    xs' : List Line
    parts : ys ≡ us ++ (v ∷ xs)
    version : VersionRead w v
    first : Pairs (GoesOver w) us us'
    later : Pairs (GoesOver w) xs xs'

  part : (ys : List Line) → Each Going ys → lines_of First 34 ys ≡ 1 → Parted ys
  unfolding Each count
  part [] h e = absurd (omega arith)
  part (y ∷ ys) h e = go h.0 (λ q. part ys h.1 q)
    where
      go : Going y → (lines_of First 34 ys ≡ 1 → Parted ys) → Parted (y ∷ ys)
      go (inl v) ih =
          let r = all_go ys h.1 (omega (arith, head_more 34 y ys (version_row w y v))) in
          record { us = []; v = y; xs = ys; us' = []; xs' = r.0; parts = refl; version = v; first = none; later = r.1 }
      go (inr (z, g)) ih =
          let r = ih (omega (arith, head_same 34 y ys (goes_no_version y z g))) in
          record { us = y ∷ r.us; v = r.v; xs = r.xs; us' = z ∷ r.us'; xs' = r.xs'; parts = ap (λ (l : List Line). y ∷ l) r.parts; version = r.version; first = more g r.first; later = r.later }

  -- the lines but VERSION
  pub others : (row : ℕ) (us : List Line) (v : Line) (xs : List Line) → (row_of_line First v ≡ row → ⊥) → lines_of First row (us ++ (v ∷ xs)) ≡ lines_of First row (us ++ xs)
  others row us v xs n =
      count_append First (of_row First row) us (v ∷ xs) ∙ ap (λ (m : ℕ). lines_of First row us + m) (head_same row v xs n) ∙ sym (count_append First (of_row First row) us xs)

  -- ---- one line further

  rendered : (xs : List Line) (x : Line) → map render (xs ++ (x ∷ [])) ≡ map render xs ++ (render x ∷ [])
  rendered xs x = map-append render xs (x ∷ [])

  begun_next : (b x : Line) (ys : List Line) → Begins First b → Each Readable (b ∷ ys) → Within w (ys ++ (x ∷ [])) → Readable x → SoFar w (map render (b ∷ ys) ++ (render x ∷ [])) (begun (ys ++ (x ∷ [])))
  begun_next b x ys h r i q =
      subst (λ (ls : List (List ℕ)). SoFar w ls (begun (ys ++ (x ∷ [])))) (rendered (b ∷ ys) x) (in_card h (each_last First Readable (b ∷ ys) x r q) i)

  whole_next : (b x : Line) (ys : List Line) → Begins First b → Each Readable (b ∷ ys) → Within w ys → Readable x → Ends First x → 1 ≤ lines_of First 6 ys → 1 ≤ lines_of First 7 ys → 1 ≤ lines_of First 34 ys
      → SoFar w (map render (b ∷ ys) ++ (render x ∷ [])) whole
  whole_next b x ys h r i q z p m n =
      let a = part ys i.each (omega (arith, i.versions)) in
      let s = version_row w a.v a.version in
      let e : b ∷ (a.us ++ (a.v ∷ (a.xs ++ (x ∷ [])))) ≡ (b ∷ ys) ++ (x ∷ [])
      = ap (λ (l : List Line). b ∷ l) (sym (append_assoc a.us (a.v ∷ a.xs) (x ∷ [])) ∙ ap (λ (l : List Line). l ++ (x ∷ [])) (sym a.parts)) in
      let c = card b a.v x a.us a.us' a.xs a.xs' h a.version z a.first a.later
      (omega (arith, ap (lines_of First 7) a.parts, others 7 a.us a.v a.xs (λ f. omega (arith, s)), i.names))
      (omega (arith, ap (lines_of First 6) a.parts, others 6 a.us a.v a.xs (λ f. omega (arith, s)))) in
      subst (λ (ls : List (List ℕ)). SoFar w ls whole) (rendered (b ∷ ys) x)
      (after_card (each_last First Readable (b ∷ ys) x r q) (subst (λ (l : List Line). CardBy w l (b ∷ versioned w a.v ∷ ((a.us' ++ a.xs') ++ (x ∷ [])))) e c))

  pub so_next : {ls : List (List ℕ)} {b d : Before} (x : Line) → SoFar w ls b → Advances w b x d → Readable x → Kinded w x → SoFar w (ls ++ (render x ∷ [])) d
  unfolding Each count
  so_next x (after_card h c) a r k = elim a [ ]
  so_next x no_line (begins h) r k = in_card {ys = []} h (r, tt) (record { each = tt; versions = omega arith; names = omega arith })
  so_next x (in_card {b = b} {ys = ys} h q i) (version v z) r k =
      let s = version_row w x v in
      begun_next b x ys h q (record {
        each = each_last First Going ys x i.each (inl v);
        versions = omega (arith, one_more 34 ys x s);
        names = omega (arith, no_more 7 ys x (λ f. omega arith), i.names);
      }) r
  so_next x (in_card {b = b} {ys = ys} h q i) (passes p f) r k =
      let e = eleven_to (row_of_line First x) p.row in
      begun_next b x ys h q (record {
        each = each_last First Going ys x i.each (inr (_, goes_to w x k (value_unbroken x r) p));
        versions = omega (arith, no_more 34 ys x (eleven_no e).2, i.versions);
        names = by (eqb (row_of_line First x) 7)
            (λ g. let a = eqb-true (row_of_line First x) 7 g in omega (arith, one_more 7 ys x a, f a))
            (λ g. omega (arith, no_more 7 ys x (eqb-false (row_of_line First x) 7 g), i.names));
      }) r
  so_next x (in_card {b = b} {ys = ys} h q i) (ends z p m n) r k = whole_next b x ys h q i r z p m n

  -- ---- the walk

  -- the raw lines ds were judged, and c is the state then
  pub record Reached (ds : List (List ℕ)) (c : Set) : Type 0 where
    pub before : Before
    pub lines : SoFar w (map unfolded ds) before
    pub known : Tells c before

  pub data Walked (all : List (List ℕ)) : Step → Type 0 where
    finished : {c : Set} → Reached all c → Walked all (Next c)
    stopped : (ds : List (List ℕ)) (l : List ℕ) (es : List (List ℕ)) {c : Set} {s : Step} {n p : ℕ} → all ≡ ds ++ (l ∷ es) → (r : Reached ds c)
        → Judged w r.before c (length (ended ds)) (unfolded l) s → settled (length (ended ds)) l s ≡ Refused n p → Walked all (Refused n p)

  -- each line that is read is of its kind, where that is asked
  abbrev pub AllKinded : List (List ℕ) → Type 0
  AllKinded ls = Each (λ l. (x : Line) → Reads (unfolded l) x → Kinded w x) ls

  next_reached : (ds : List (List ℕ)) (l : List ℕ) (c : Set) (r : Reached ds c) (x : Line) (d : Before) → Reads (unfolded l) x → Advances w r.before x d → Kinded w x
      → Reached (ds ++ (l ∷ [])) (noted c (row_of_line First x))
  next_reached ds l c r x d h a k = record {
    before = d;
    lines = subst (λ (ls : List (List ℕ)). SoFar w ls d) (ap (λ (t : List ℕ). map unfolded ds ++ (t ∷ [])) (sym h.text) ∙ sym (map-append unfolded ds (l ∷ []))) (so_next x r.lines a h.readable k);
    known = advance_tells w c x r.known a;
  }

  turn : (ds : List (List ℕ)) (l : List ℕ) (es : List (List ℕ)) (c : Set) (r : Reached ds c) (f : Set → Step) {s : Step}
      → Judged w r.before c (length (ended ds)) (unfolded l) s → ((x : Line) → Reads (unfolded l) x → Kinded w x)
      → ((d : Set) → Reached (ds ++ (l ∷ [])) d → Walked (ds ++ (l ∷ es)) (f d)) → Walked (ds ++ (l ∷ es)) (onward (settled (length (ended ds)) l s) f)
  turn ds l es c r f (flawed h) k ih = stopped ds l es refl r (flawed h) refl
  turn ds l es c r f (ruled h g) k ih = stopped ds l es refl r (ruled h g) refl
  turn ds l es c r f (misplaced x h g) k ih = stopped ds l es refl r (misplaced x h g) refl
  turn ds l es c r f (heavy x h p g) k ih = stopped ds l es refl r (heavy x h p g) refl
  turn ds l es c r f (unwanted x h p u g) k ih = stopped ds l es refl r (unwanted x h p u g) refl
  turn ds l es c r f (advanced x d h a) k ih = ih (noted c (row_of_line First x)) (next_reached ds l c r x d h a (k x h))

  pub walk : (es ds : List (List ℕ)) (c : Set) → Reached ds c → AllKinded es → Walked (ds ++ es) (judge_lines w es (length (ended ds)) c)
  unfolding judge_lines Each
  walk [] ds c r k = subst (λ (a : List (List ℕ)). Walked a (Next c)) (sym (append-nil ds)) (finished r)
  walk (l ∷ es) ds c r k =
      let j = decided w c r.before r.known (length (ended ds)) (unfolded l) in
      let f = judge_lines w es (length (ended ds) + length l + 2) in
      subst (λ (s : Step). Walked (ds ++ (l ∷ es)) (onward (settled (length (ended ds)) l s) f))
      (sym (outcome w c r.before r.known (length (ended ds)) (unfolded l) j.1))
      (turn ds l es c r f j.1 k.0 (λ d q. rw (append_snoc ds l es, start_next First ds l) at (walk es (ds ++ (l ∷ [])) d q k.1)))

  pub fresh_reached : Reached [] fresh_set
  fresh_reached = record { before = nothing; lines = no_line; known = at_nothing refl }
