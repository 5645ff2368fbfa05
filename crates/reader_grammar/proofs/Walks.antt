-- The walk over the lines of an input says what they are: cards and the lines of a card that has not ended, up to the end or to the
-- first line that is refused. Assumes nothing.
use mathlib.Core.Path.{◌≡◌, refl, sym, ap, subst, ◌∙◌}
use mathlib.Core.List.{List, [], ◌∷◌, ◌++◌, map, append-nil, append_assoc, map-append}
use Prim.Native.Nat.{ℕ, suc, ◌+◌}
use native.Mathlib.Omega.{arith}
use lib.ListN.{length, length-append}
use lib.Seq.{append_snoc}
use Rattle.line_folds.specs.Folds.{unfolded}
use Rattle.line_folds.specs.Places.{place_of}
use Rattle.line_parser.specs.Grammar.{Line, Each, render}
use Rattle.card_state.specs.State.{Card, Step, Next, Refused, fresh_card, line_card as next_card}
use Rattle.reader_walk.specs.Walk.{onward, settled, judge_lines}
use Rattle.reader.specs.Outcome.{ended}
use Rattle.reader_grammar.specs.Cards.{Readable, CardLines, Cards, none, more}
use Rattle.reader_grammar.specs.Refusals.{Begun, nothing, SoFar, Sound, Where, at_start, at_octet, LineRefused}
use Rattle.reader_grammar.proofs.Known.{Known, Joins, fresh_known, line_card, line_known, end_card, end_known}
use Rattle.reader_grammar.proofs.LineLaws.{stopped as halted, Judged, refused, goes_on, ends, outcome, decided}
use Rattle.reader_grammar.proofs.BegunLaws.{each_join, Stands, begun_next, begun_end}
use Rattle.property_table.specs.declared.Edition.{Edition}

module _ (ed : Edition) where
  -- one card more at the end
  cards_last : {k : ℕ} {zs : List Line} (ys : List Line) → Cards ed k zs → CardLines ed ys → Cards ed (suc k) (zs ++ ys)
  cards_last ys none h = subst (Cards ed 1) (append-nil ys) (more h none)
  cards_last ys (more {k = k} {xs = xs} {ys = zs} a rest) h = subst (Cards ed (suc (suc k))) (sym (append_assoc xs zs ys)) (more a (cards_last ys rest h))

  -- the raw lines ds were judged, and c is the state then
  pub record Reached (ds : List (List ℕ)) (c : Card) : Type 0 where
    pub k : ℕ
    pub zs : List Line
    pub ys : List Line
    pub lines : SoFar ed (map unfolded ds) k zs ys
    pub known : Known ed c ys
    pub cards : c.cards ≡ k
    pub count : c.lines ≡ length (zs ++ ys)

  pub fresh_reached : Reached [] fresh_card
  unfolding Each
  fresh_reached = record {
    k = 0;
    zs = [];
    ys = [];
    lines = record { written = refl; readable = tt; cards = none; begun = nothing };
    known = fresh_known ed;
    cards = refl;
    count = refl;
  }

  stands : {ys : List Line} {l : List ℕ} {x : Line} → Sound ed ys l x → Stands ed ys x
  stands s = record { place = s.place; unladen = s.unladen; fits = s.fits }

  module _ (ds : List (List ℕ)) (c : Card) (r : Reached ds c) (l : List ℕ) (x : Line) (s : Sound ed r.ys (unfolded l) x) where
    abbrev all : List Line
    all = r.zs ++ r.ys

    written : map unfolded (ds ++ (l ∷ [])) ≡ map render (all ++ (x ∷ []))
    written =
        map-append unfolded ds (l ∷ [])
        ∙ ap (λ (a : List (List ℕ)). a ++ (unfolded l ∷ [])) r.lines.written
        ∙ ap (λ (a : List ℕ). map render all ++ (a ∷ [])) s.reads.text
        ∙ sym (map-append render all (x ∷ []))

    readable : Each Readable (all ++ (x ∷ []))
    unfolding Each
    readable = each_join ed Readable all (x ∷ []) r.lines.readable (s.reads.readable, tt)

    counted : c.lines + 1 ≡ length (all ++ (x ∷ []))
    counted = omega (arith, r.count, length-append all (x ∷ []))

    line_reached : Joins ed r.ys x → Begun ed (r.ys ++ (x ∷ [])) → Reached (ds ++ (l ∷ [])) (line_card ed c x)
    unfolding next_card
    line_reached j b =
        let q = append_assoc r.zs r.ys (x ∷ []) in
        record {
          k = r.k;
          zs = r.zs;
          ys = r.ys ++ (x ∷ []);
          lines = record { written = rw q at written; readable = rw q at readable; cards = r.lines.cards; begun = b };
          known = line_known ed c r.ys x r.known j s.place;
          cards = r.cards;
          count = rw q at counted;
        }

    end_reached : CardLines ed (r.ys ++ (x ∷ [])) → Reached (ds ++ (l ∷ [])) (end_card ed c)
    end_reached b =
        let q = append_assoc r.zs r.ys (x ∷ []) ∙ sym (append-nil (r.zs ++ (r.ys ++ (x ∷ [])))) in
        record {
          k = suc r.k;
          zs = r.zs ++ (r.ys ++ (x ∷ []));
          ys = [];
          lines = record { written = rw q at written; readable = rw q at readable; cards = cards_last (r.ys ++ (x ∷ [])) r.lines.cards b; begun = nothing };
          known = end_known ed c;
          cards = omega (arith, r.cards);
          count = rw q at counted;
        }

  -- a place counted from the start of the raw line r
  abbrev pub place_in : List ℕ → Where → ℕ
  place_in r at_start = 0
  place_in r (at_octet o) = place_of r o

  -- where a refusal of the raw line r, which starts at p, has its place in the input
  pub settled_place : (p n : ℕ) (r : List ℕ) (w : Where) → settled p r (halted ed p n w) ≡ Refused n (p + place_in r w)
  settled_place p n r at_start = ap (Refused n) (omega arith)
  settled_place p n r (at_octet o) = refl

  -- what the walk over all the lines comes to
  pub data Walked (all : List (List ℕ)) : Step → Type 0 where
    finished : {c : Card} → Reached all c → Walked all (Next c)
    stopped : (ds : List (List ℕ)) (l : List ℕ) (es : List (List ℕ)) {c : Card} {n : ℕ} {w : Where} → all ≡ ds ++ (l ∷ es) → (r : Reached ds c)
        → LineRefused ed r.ys (unfolded l) n w → Walked all (Refused n (length (ended ds) + place_in l w))

  -- one line further
  turn : (ds : List (List ℕ)) (l : List ℕ) (es : List (List ℕ)) (c : Card) (r : Reached ds c) (f : Card → Step) {s : Step}
      → Judged ed c r.ys (length (ended ds)) (unfolded l) s
      → ((d : Card) → Reached (ds ++ (l ∷ [])) d → Walked (ds ++ (l ∷ es)) (f d)) → Walked (ds ++ (l ∷ es)) (onward (settled (length (ended ds)) l s) f)
  turn ds l es c r f (refused {n = n} {w = w} h) ih =
      subst (λ (s : Step). Walked (ds ++ (l ∷ es)) (onward s f)) (sym (settled_place (length (ended ds)) n l w)) (stopped ds l es refl r h)
  turn ds l es c r f (goes_on x s e h) ih = ih (line_card ed c x) (line_reached ds c r l x s h (begun_next ed x r.lines.begun (stands s) e h))
  turn ds l es c r f (ends x s e h g) ih = ih (end_card ed c) (end_reached ds c r l x s (begun_end ed x r.lines.begun (stands s) e h g))

  -- where the line after ds and l starts
  pub start_next : (ds : List (List ℕ)) (l : List ℕ) → length (ended (ds ++ (l ∷ []))) ≡ length (ended ds) + length l + 2
  unfolding ended
  start_next [] l = omega (arith, length-append l (13 ∷ 10 ∷ []))
  start_next (d ∷ ds) l =
      omega (
        arith,
        length-append d (13 ∷ 10 ∷ ended (ds ++ (l ∷ []))),
        length-append d (13 ∷ 10 ∷ ended ds),
        start_next ds l,
      )

  pub walk : (es ds : List (List ℕ)) (c : Card) → Reached ds c → Walked (ds ++ es) (judge_lines ed es (length (ended ds)) c)
  unfolding judge_lines
  walk [] ds c r = subst (λ (a : List (List ℕ)). Walked a (Next c)) (sym (append-nil ds)) (finished r)
  walk (l ∷ es) ds c r =
      let j = decided ed c r.ys r.known (length (ended ds)) (unfolded l) in
      let f = judge_lines ed es (length (ended ds) + length l + 2) in
      subst (λ (s : Step). Walked (ds ++ (l ∷ es)) (onward (settled (length (ended ds)) l s) f))
      (sym (outcome ed c r.ys r.known (length (ended ds)) (unfolded l) j.1))
      (turn ds l es c r f j.1 (λ d q. rw (append_snoc ds l es, start_next ds l) at (walk es (ds ++ (l ∷ [])) d q)))
