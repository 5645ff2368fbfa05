-- The lines that stand before a line are judged one after the other, and lead to a state that knows them. Assumes nothing.
use mathlib.Core.Path.{◌≡◌, refl, sym, ap, subst, ◌∙◌}
use mathlib.Core.List.{List, [], ◌∷◌, ◌++◌, map, append-nil, append_assoc}
use mathlib.Core.Logic.{inl, inr}
use Prim.Native.Nat.{ℕ, ◌+◌, ◌≤◌}
use native.Mathlib.Nat.{add-zero}
use native.Mathlib.Omega.{arith}
use lib.ListN.{length, length-append}
use lib.Seq.{append_snoc}
use Rattle.line_folds.specs.Folds.{unfolded}
use Rattle.line_parser.specs.Grammar.{Line, Each, render}
use Rattle.property_table.specs.declared.Edition.TheVariants.{First}
use Rattle.card_line.specs.Parts.{row_of_line}
use Rattle.reader.specs.Outcome.{ended}
use Rattle.reader_grammar.specs.Cards.{Readable, of_row, count, lines_of}
use Rattle.reader_grammar.proofs.Known.{count_append}
use Rattle.reader_grammar.proofs.BegunLaws.{each_join, each_split}
use Rattle.version3_parameters.specs.declared.Way.{Way}
use Rattle.version3_judge.specs.declared.Set.{Set}
use Rattle.version3_judge.specs.Judge.{Step, Next, Refused, Flawed, fresh_set, noted, judge_line, onward, settled, judge_lines}
use Rattle.version3_laws.specs.Lines.{GoesOver}
use Rattle.version3_laws.specs.Cards.{Pairs, card}
use Rattle.version3_laws.specs.Cards as cards
use Rattle.version3_laws.specs.Refusals.{Before, nothing, begun, whole, SoFar, no_line, in_card, after_card}
use Rattle.version3_laws.proofs.LineLaws.{eleven_no, value_unbroken, goes_from, goes_eleven, version_row}
use Rattle.version3_laws.proofs.JudgeLaws.{Tells, at_nothing, Advances, begins, version, passes, ends, advance_tells, advanced, outcome}
use Rattle.version3_laws.proofs.WalkLaws.{Going, head_same, head_more, others}

module _ (w : Way) where
  -- the lines xs are judged from the state c to the state d
  pub data Steps : Set → List Line → Set → Type 0 where
    none : {c : Set} → Steps c [] c
    more : {c d e : Set} {x : Line} {xs : List Line} → ((at : ℕ) → judge_line w c at (render x) ≡ Next d) → Steps d xs e → Steps c (x ∷ xs) e

  steps_join : {c d e : Set} {xs ys : List Line} → Steps c xs d → Steps d ys e → Steps c (xs ++ ys) e
  steps_join none t = t
  steps_join (more h s) t = more h (steps_join s t)

  pub steps_run : {c d : Set} {xs : List Line} → Steps c xs d → (ls : List (List ℕ)) (at : ℕ) → map unfolded ls ≡ map render xs → judge_lines w ls at c ≡ Next d
  unfolding judge_lines
  steps_run none [] at e = refl
  steps_run none (l ∷ ls) at e = let z : ◌≡◌ {A = ℕ} 0 1 = cc in absurd (omega arith)
  steps_run (more h s) [] at e = let z : ◌≡◌ {A = ℕ} 0 1 = cc in absurd (omega arith)
  steps_run (more {c = c} {x = x} {xs = xs} h s) (l ∷ ls) at e =
      let a : unfolded l ≡ render x = cc in
      let b : map unfolded ls ≡ map render xs = cc in
      ap (λ (m : List ℕ). onward (settled at l (judge_line w c at m)) (judge_lines w ls (at + length l + 2))) a
      ∙ ap (λ (t : Step). onward (settled at l t) (judge_lines w ls (at + length l + 2))) (h at)
      ∙ steps_run s ls (at + length l + 2) b

  one_step : (c : Set) (x : Line) (b d : Before) → Tells c b → Readable x → Advances w b x d → (at : ℕ) → judge_line w c at (render x) ≡ Next (noted c (row_of_line First x))
  one_step c x b d t r a at = outcome w c b t at (render x) (advanced x d (record { text = refl; readable = r }) a)

  none_before : (row : ℕ) (us : List Line) (z : Line) (zs : List Line) → lines_of First row (us ++ (z ∷ zs)) ≤ 1 → row_of_line First z ≡ row → lines_of First row us ≡ 0
  none_before row us z zs h e = omega (arith, h, count_append First (of_row First row) us (z ∷ zs), head_more w row z zs e)

  going_advances : (us : List Line) (z : Line) (zs : List Line) → Readable z → Going w z → lines_of First 34 (us ++ (z ∷ zs)) ≤ 1 → lines_of First 7 (us ++ (z ∷ zs)) ≤ 1
      → Advances w (begun us) z (begun (us ++ (z ∷ [])))
  going_advances us z zs r (inl v) p q = version v (none_before 34 us z zs p (version_row w z v))
  going_advances us z zs r (inr (y, g)) p q = passes (goes_from w z y (value_unbroken z r) g).0 (λ e. none_before 7 us z zs q e)

  -- lines inside a card
  within_run : (us zs : List Line) → Each Readable zs → Each (Going w) zs → lines_of First 34 (us ++ zs) ≤ 1 → lines_of First 7 (us ++ zs) ≤ 1 → (c : Set) → Tells c (begun us)
      → (d : Set) × Steps c zs d × Tells d (begun (us ++ zs))
  unfolding Each
  within_run us [] r g p q c t = (c, none, subst (λ (l : List Line). Tells c (begun l)) (sym (append-nil us)) t)
  within_run us (z ∷ zs) r g p q c t =
      let a = going_advances us z zs r.0 g.0 p q in
      let e = append_snoc us z zs in
      let n = noted c (row_of_line First z) in
      let m = within_run (us ++ (z ∷ [])) zs r.1 g.1 (rw e p) (rw e q) n (advance_tells w c z t a) in
      (m.0, more (one_step c z (begun us) (begun (us ++ (z ∷ []))) t r.0 a) m.1, subst (λ (l : List Line). Tells m.0 (begun l)) e m.2)

  pairs_going : {us us' : List Line} → Pairs (GoesOver w) us us' → Each (Going w) us × (lines_of First 34 us ≡ 0)
  unfolding Each count
  pairs_going cards.none = (tt, refl)
  pairs_going (cards.more {x = x} {y = y} {xs = xs} h p) =
      let r = pairs_going p in
      ((inr (y, h), r.0), head_same w 34 x xs (eleven_no (goes_eleven w x y h)).2 ∙ r.1)

  -- what the lines so far lead to
  pub record Led (ls : List (List ℕ)) (b : Before) : Type 0 where
    pub lines : List Line
    pub text : ls ≡ map render lines
    pub state : Set
    pub steps : Steps fresh_set lines state
    pub known : Tells state b

  pub lead : {ls : List (List ℕ)} {b : Before} → SoFar w ls b → Led ls b
  unfolding Each
  lead no_line = record { lines = []; text = refl; state = fresh_set; steps = none; known = at_nothing refl }
  lead (in_card {b = b} {ys = ys} h r i) =
      let t = advance_tells w fresh_set b (at_nothing refl) (begins h) in
      let n = noted fresh_set (row_of_line First b) in
      let m = within_run [] ys r.1 i.each i.versions i.names n t in
      record { lines = b ∷ ys; text = refl; state = m.0; steps = more (one_step fresh_set b nothing (begun []) (at_nothing refl) r.0 (begins h)) m.1; known = m.2 }
  lead (after_card r (card b v z us us' xs xs' hb hv hz pu px n f)) =
      let t = advance_tells w fresh_set b (at_nothing refl) (begins hb) in
      let c = noted fresh_set (row_of_line First b) in
      let q : (us ++ (v ∷ xs)) ++ (z ∷ []) ≡ us ++ (v ∷ (xs ++ (z ∷ []))) = append_assoc us (v ∷ xs) (z ∷ []) in
      let s = each_split First Readable (us ++ (v ∷ xs)) (z ∷ []) (subst (Each Readable) (sym q) r.1) in
      let gu = pairs_going pu in
      let gx = pairs_going px in
      let k = version_row w v hv in
      let all = us ++ (v ∷ xs) in
      let vs : lines_of First 34 all ≡ 1 = omega (arith, count_append First (of_row First 34) us (v ∷ xs), head_more w 34 v xs k, gu.1, gx.1) in
      let ns : lines_of First 7 all ≡ 1 = others w 7 us v xs (λ e. omega (arith, k)) ∙ n in
      let fs : 1 ≤ lines_of First 6 all = omega (arith, others w 6 us v xs (λ e. omega (arith, k)), f) in
      let m = within_run [] all s.0 (each_join First (Going w) us (v ∷ xs) gu.0 (inl hv, gx.0)) (omega (arith, vs)) (omega (arith, ns)) c t in
      let a : Advances w (begun all) z whole = ends hz fs (omega (arith, ns)) (omega (arith, vs)) in
      record {
        lines = b ∷ (us ++ (v ∷ (xs ++ (z ∷ []))));
        text = refl;
        state = noted m.0 (row_of_line First z);
        steps = more (one_step fresh_set b nothing (begun []) (at_nothing refl) r.0 (begins hb))
            (subst (λ (l : List Line). Steps c l (noted m.0 (row_of_line First z))) q (steps_join m.1 (more (one_step m.0 z (begun all) whole m.2 s.1.0 a) none)));
        known = advance_tells w m.0 z m.2 a;
      }

  -- ---- the lines behind them

  after_line : (ds es : List (List ℕ)) (p q : ℕ) (d : Set) → p + length (ended ds) ≡ q → (s : Step)
      → ((c : Set) → judge_lines w ds p c ≡ Next d → judge_lines w (ds ++ es) p c ≡ judge_lines w es (p + length (ended ds)) d)
      → onward s (judge_lines w ds p) ≡ Next d → onward s (judge_lines w (ds ++ es) p) ≡ judge_lines w es q d
  after_line ds es p q d n (Next c) ih h = ih c h ∙ ap (λ (m : ℕ). judge_lines w es m d) n
  after_line ds es p q d n (Refused m r) ih h = let z : ◌≡◌ {A = ℕ} 0 1 = cc in absurd (omega arith)
  after_line ds es p q d n (Flawed m o) ih h = let z : ◌≡◌ {A = ℕ} 0 1 = cc in absurd (omega arith)

  pub judge_after : (ds es : List (List ℕ)) (at : ℕ) (c d : Set) → judge_lines w ds at c ≡ Next d
      → judge_lines w (ds ++ es) at c ≡ judge_lines w es (at + length (ended ds)) d
  unfolding judge_lines ended
  judge_after [] es at c d e =
      let q : c ≡ d = cc in
      rw (add-zero at, q)
  judge_after (l ∷ ds) es at c d e =
      let n : at + length l + 2 + length (ended ds) ≡ at + length (l ++ (13 ∷ 10 ∷ ended ds)) = omega (arith, length-append l (13 ∷ 10 ∷ ended ds)) in
      after_line ds es (at + length l + 2) (at + length (l ++ (13 ∷ 10 ∷ ended ds))) d n (settled at l (judge_line w c at (unfolded l)))
      (λ b h. judge_after ds es (at + length l + 2) b d h) e
