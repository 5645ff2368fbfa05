-- The reader accepts exactly the inputs of cards, with their counts of cards and lines. Assumes nothing.
use mathlib.Core.Path.{◌≡◌, refl, sym, ap, subst, ◌∙◌}
use mathlib.Core.List.{List, [], ◌∷◌, ◌++◌, map, append-nil}
use mathlib.Core.Logic.{◌↔◌}
use Prim.Native.Nat.{ℕ, zero, suc, ◌<◌, ◌≤◌}
use native.Mathlib.Omega.{arith}
use lib.ListN.{length, length-append}
use borrow.Author.Tests.{le-ltb, eq-eqb, ne_eqb}
use Rattle.line_folds.specs.Folds.{unfolded}
use Rattle.line_folds.specs.Logical.{lines_by, raw_lines, logical_lines}
use Rattle.line_parser.specs.Grammar.{Line, Each, render}
use Rattle.line_parameters.proofs.Law.{line_unique}
use Rattle.card_state.specs.State.{Card, Step, Next, fresh_card}
use Rattle.line_breaks.specs.Lone.{first_lone}
use Rattle.reader_walk.specs.Walk.{judge_lines}
use Rattle.reader.specs.Outcome.{verdict_of, judge_in, ended}
use Rattle.reader.specs.Outcome.{Accepted}
use Rattle.reader.proofs.AcceptLaws.{accepting}
use Rattle.reader_grammar.specs.Cards.{Readable, card, Cards, none, more}
use Rattle.reader_grammar.specs.Inputs.{InputIn}
use Rattle.reader_grammar.specs.Refusals.{Framed}
use Rattle.reader_grammar.proofs.Known.{phase_of, fresh_known}
use Rattle.reader_grammar.proofs.Runs.{steps_run, cards_run}
use Rattle.reader_grammar.proofs.PairedLaws.{paired_law}
use Rattle.line_laws.proofs.LinedLaws.{ends_law}
use Rattle.reader_grammar.proofs.FoldLaws.{written_lines, written_paired, written_ends, lines_written}
use Rattle.reader_grammar.proofs.Walks.{Reached, fresh_reached, Walked, finished, stopped, walk}
use Rattle.property_table.specs.declared.Edition.{Edition}

module _ (ed : Edition) where
  -- past 1 to 4 the lines decide
  pub judge_framed : (i : List ℕ) → Framed i → judge_in ed i ≡ verdict_of (length i) (judge_lines ed (raw_lines i) 0 fresh_card)
  unfolding judge_in
  judge_framed i h =
      rw (
        le-ltb 16384 (length i) h.short,
        ne_eqb (length i) 0 (λ e. omega (arith, h.some)),
        le-ltb (first_lone i) (length i) (omega (arith, (paired_law i).1 h.paired)),
        (ends_law i).1 h.ends,
      )

  pub walk_all : (i : List ℕ) → Walked ed (raw_lines i) (judge_lines ed (raw_lines i) 0 fresh_card)
  unfolding ended
  walk_all i = walk ed (raw_lines i) [] fresh_card (fresh_reached ed)

  reached_by : {all : List (List ℕ)} {s : Step} → Walked ed all s → (c : Card) → s ≡ Next c → Reached ed all c
  reached_by {all} (finished {c = d} r) c e =
      let q : d ≡ c = cc in
      subst (Reached ed all) q r
  reached_by (stopped ds l es e r h) c q = let z : ◌≡◌ {A = ℕ} 0 1 = cc in absurd (omega arith)

  -- a card that has had no line
  pub phase_none : (ys : List Line) → phase_of ed ys ≡ 0 → ys ≡ []
  unfolding phase_of
  phase_none [] e = refl
  phase_none (y ∷ []) e = absurd (omega arith)
  phase_none (y ∷ z ∷ ys) e = absurd (omega arith)

  -- no cards have no lines
  no_cards : {k : ℕ} {xs : List Line} → Cards ed k xs → k ≡ 0 → xs ≡ []
  no_cards none e = refl
  no_cards (more a b) e = absurd (omega arith)

  -- an input that is not empty has a line
  some_line : (i : List ℕ) → 0 < length i → raw_lines i ≡ [] → ⊥
  unfolding raw_lines lines_by
  some_line [] h e = omega arith
  some_line (x ∷ xs) h e = let z : ◌≡◌ {A = ℕ} 0 1 = cc in omega arith

  map_none : {A B : Type 0} (f : A → B) (xs : List A) → map f xs ≡ [] → xs ≡ []
  map_none f [] e = refl
  map_none f (x ∷ xs) e = let z : ◌≡◌ {A = ℕ} 0 1 = cc in absurd (omega arith)

  some_cards : (i : List ℕ) (k : ℕ) (xs : List Line) → 0 < length i → map unfolded (raw_lines i) ≡ map render xs → Cards ed k xs → 1 ≤ k
  some_cards i zero xs h e c = absurd (some_line i h (map_none unfolded (raw_lines i) (e ∙ ap (map render) (no_cards c refl))))
  some_cards i (suc k) xs h e c = omega arith

  -- cards have lines
  some_lines : {k : ℕ} {xs : List Line} → Cards ed k xs → 1 ≤ k → 0 < length xs
  some_lines none h = absurd (omega arith)
  some_lines (more {ys = ys} (card {b = b} {v = v} {z = e} {xs = xs} f g x y) c) h = omega arith

  module _ (i : List ℕ) (k n : ℕ) where
    to : judge_in ed i ≡ Accepted k n → InputIn ed i k n
    unfolding logical_lines
    to e =
        let a = accepting ed i k n e in
        let r = reached_by (walk_all i) a.last a.walked in
        let some : 0 < length i = omega (arith, a.some) in
        let none_left : r.ys ≡ [] = phase_none r.ys (sym r.known.phase ∙ a.outside) in
        let whole : r.zs ≡ r.zs ++ r.ys = sym (append-nil r.zs) ∙ ap (λ (ys : List Line). r.zs ++ ys) (sym none_left) in
        let cards : Cards ed k (r.zs ++ r.ys) = subst (λ (m : ℕ). Cards ed m (r.zs ++ r.ys)) (sym r.cards ∙ a.cards) (subst (Cards ed r.k) whole r.lines.cards) in
        record {
          short = a.short;
          lines = r.zs ++ r.ys;
          written = lines_written (r.zs ++ r.ys) i a.unlone ((ends_law i).0 a.ends) r.lines.written;
          readable = r.lines.readable;
          cards = cards;
          some = some_cards i k (r.zs ++ r.ys) some r.lines.written cards;
          count = sym a.lines ∙ r.count;
        }

    accepts : (c : Card) → c.phase ≡ 0 → c.cards ≡ k → c.lines ≡ n → verdict_of (length i) (Next c) ≡ Accepted k n
    unfolding verdict_of
    accepts c p q r = rw (eq-eqb c.phase 0 p, q, r)

    -- its logical lines are the lines
    pub lines_law : (h : InputIn ed i k n) → logical_lines i ≡ map render h.lines
    unfolding logical_lines
    lines_law h = written_lines h.written h.readable

    framed : InputIn ed i k n → Framed i
    framed h =
        let e = written_ends h.written (some_lines h.cards h.some) in
        record {
          short = h.short;
          some = omega (arith, ap length e.1, length-append e.0 (13 ∷ 10 ∷ []));
          paired = (paired_law i).0 (written_paired h.written h.readable);
          ends = e;
        }

    from : InputIn ed i k n → judge_in ed i ≡ Accepted k n
    unfolding logical_lines phase_of
    from h =
        let l = cards_run ed h.cards h.readable fresh_card (fresh_known ed) in
        judge_framed i (framed h)
        ∙ ap (verdict_of (length i)) (steps_run ed l.steps (raw_lines i) 0 (lines_law h))
        ∙ accepts l.card l.known.phase (omega (arith, l.cards)) (omega (arith, l.lines, h.count))

    -- accepted with k cards and n lines exactly where the input is k cards of n lines
    pub accepted_law : (judge_in ed i ≡ Accepted k n) ↔ InputIn ed i k n
    accepted_law = (to, from)

  same_lines : (xs ys : List Line) → Each Readable xs → Each Readable ys → map render xs ≡ map render ys → xs ≡ ys
  unfolding Each
  same_lines [] [] r s e = refl
  same_lines [] (y ∷ ys) r s e = let z : ◌≡◌ {A = ℕ} 0 1 = cc in absurd (omega arith)
  same_lines (x ∷ xs) [] r s e = let z : ◌≡◌ {A = ℕ} 0 1 = cc in absurd (omega arith)
  same_lines (x ∷ xs) (y ∷ ys) r s e =
      let a : render x ≡ render y = cc in
      let b : map render xs ≡ map render ys = cc in
      ap (λ (z : Line). z ∷ xs) (line_unique x y r.0.formed s.0.formed a) ∙ ap (λ (zs : List Line). y ∷ zs) (same_lines xs ys r.1 s.1 b)

  -- an input has one reading
  pub one_reading : (i : List ℕ) (k m n p : ℕ) (h : InputIn ed i k n) (g : InputIn ed i m p) → h.lines ≡ g.lines
  one_reading i k m n p h g = same_lines h.lines g.lines h.readable g.readable (sym (lines_law i k n h) ∙ lines_law i m p g)
