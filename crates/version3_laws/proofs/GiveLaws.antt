-- Giving out answers exactly as the relations say: what it writes, and what it refuses with which number and place. Assumes nothing.
use mathlib.Core.Path.{◌≡◌, refl, sym, ap, subst, ◌∙◌}
use mathlib.Core.Bool.{true, false, ◌&&◌}
use mathlib.Core.List.{List, [], ◌∷◌, ◌++◌, map, map-append, append-nil}
use mathlib.Core.Logic.{inl, inr, ◌↔◌}
use Prim.Native.Nat.{ℕ}
use native.Mathlib.Omega.{arith}
use lib.Dec.{eqb}
use lib.ListN.{length, length-map}
use borrow.Author.Tests.{eqb-true, eqb-false}
use Rattle.octets.specs.Room.{Filled, filled, refuse, fill_bounded}
use Rattle.octets.specs.Room.{Wrote}
use Rattle.octets.proofs.Bools.{by, and_both}
use Rattle.line_folds.specs.Folds.{unfolded}
use Rattle.line_folds.specs.Logical.{raw_lines}
use Rattle.line_parser.specs.Grammar.{Line, Each, front, render}
use Rattle.line_parser.specs.Parse.{Parse, got, bad}
use Rattle.utf8.specs.Characters.{allowed, first_bad}
use Rattle.utf8_laws.specs.Texts.{BadAt}
use Rattle.utf8_laws.proofs.Utf8.{bad_at_only}
use Rattle.line_laws.specs.FirstFault.{FirstFault}
use Rattle.line_laws.proofs.FirstLaws.{first_fault_law}
use Rattle.line_parameters.proofs.Law.{line_law, line_unique}
use Rattle.line_laws.specs.Lined.{Lined}
use Rattle.line_laws.proofs.LinedLaws.{ends_law, lined_only}
use Rattle.property_table.specs.declared.Edition.TheVariants.{First}
use Rattle.property_table.specs.Rows.{framing}
use Rattle.card_line.specs.Parts.{row_of_line, kind_of_line}
use Rattle.reader.specs.Outcome.{ended, judge_of}
use Rattle.reader.specs.Outcome.{Verdict}
use Rattle.reader.specs.Outcome.{Accepted, Refused as Rejected}
use Rattle.reader.proofs.AcceptLaws.{accepting}
use Rattle.reader_grammar.specs.Cards.{Readable, CardLines, Cards, of_row}
use Rattle.reader_grammar.specs.Cards as grammar
use Rattle.reader_grammar.specs.Inputs.{InputOf}
use Rattle.reader_grammar.specs.Refusals.{Framed, Framing, Unladen, Reads}
use Rattle.reader_grammar.proofs.FoldLaws.{written_lines}
use Rattle.reader_grammar.proofs.PairedLaws.{paired_law}
use Rattle.reader_grammar.proofs.BegunLaws.{each_split}
use Rattle.reader_grammar.proofs.Accepted.{accepted_law}
use Rattle.reader_grammar.proofs.Refused.{refused_law}
use Rattle.reader_grammar.proofs.Known.{none_any, some_any}
use Rattle.version3_parameters.specs.declared.Way.TheVariants.{Outward}
use Rattle.version3_parameters.specs.Params.{prefs_fit}
use Rattle.version3_judge.specs.declared.Set.{Set}
use Rattle.version3_judge.specs.Judge.{Step, Refused, before_begin, fresh_set, common, goes_over, settled}
use Rattle.version3.specs.Outcome.{convert_outcome, give_by, give_outcome}
use Rattle.version3_laws.specs.Cards.{CardBy, Converts, card_octets, Gives}
use Rattle.version3_laws.specs.Refusals.{Before, begun, InPlace, SoFar, in_card, NotGiven, NoRoom, RefusedOut}
use Rattle.version3_laws.specs.Refusals as reasons
use Rattle.version3_laws.proofs.ParamLaws.{params_out, params_out_only}
use Rattle.version3_laws.proofs.PlaceLaws.{new_to, new_from}
use Rattle.version3_laws.proofs.ValueLaws.{out_geo, out_other}
use Rattle.version3_laws.proofs.FairLaws.{clean_fair, fair_bad}
use Rattle.version3_laws.proofs.LineLaws.{eleven_to, eleven_from, eleven_unframed}
use Rattle.version3_laws.proofs.JudgeLaws.{framing_to, framing_from, number_from, Tells, at_nothing, at_begun, at_whole, Advances, is_good, good_begin, good_version, good_end, good_goes, none_by, some_by, good_to, Judged, flawed, ruled, misplaced, heavy, unwanted, advanced}
use Rattle.version3_laws.proofs.ReasonLaws.{advance_end, advance_eleven, n_unframed, geo_unframed, advance_place, place_of}
use Rattle.version3_laws.proofs.WalkLaws.{AllKinded}
use Rattle.version3_laws.proofs.AnswerLaws.{never, refusal_numbers, fill_to, fill_from, fill_long, fill_small, fill_refused, Card, card_answer, stop_answer, Answered, over, inside, halted, answered}
use Rattle.version3_laws.proofs.TakeLaws.{raw_there, lines_there, line_there, split_at}
use Rattle.version3_laws.proofs.SourceLaws.{same_lines, cards_kinded, all_kinded, FirstCard, first_card, Sourced, Counted, one_card, no_open, sourced}
use Rattle.version3_laws.proofs.Small.{clash, both, same_step, no_step}

-- ---- the reasons

module _ (x : Line) where
  stops : {b : Before} → NotGiven b x → {d : Before} → Advances Outward b x d → ⊥
  stops reasons.NotGiven.second_card a = omega (arith, advance_place a)
  stops (reasons.NotGiven.second_name r m) a = omega (arith, (advance_eleven Outward a (n_unframed (row_of_line First x) r)).1 r)
  stops (reasons.NotGiven.other f n) a = n (eleven_to (row_of_line First x) (advance_eleven Outward a f).0.row)
  stops (reasons.NotGiven.pref e n) a = n _ (params_out x.params (advance_eleven Outward a (eleven_unframed e)).0.prefs)
  stops (reasons.NotGiven.geo r n) a =
      let o = new_to x.value (sym (out_geo (row_of_line First x) (kind_of_line First x) x.value r).0 ∙ (advance_eleven Outward a (geo_unframed (row_of_line First x) r)).0.over) in
      n o.0 o.1 o.2
  stops (reasons.NotGiven.no_n r z) a = omega (arith, (advance_end Outward a r).2)

  not_given_from : (c : Set) {b : Before} → Tells c b → Sourced b x → NotGiven b x → is_good Outward c x ≡ false
  not_given_from c t s h = by (is_good Outward c x) (λ g. absurd (stops h (good_to Outward c x s.unladen t s.place g).1)) (λ g. g)

  phase_fresh : (c : Set) → c ≡ fresh_set → before_begin c.phase ≡ true
  phase_fresh c e = rw e

  not_given_to : (c : Set) {b : Before} → Tells c b → Sourced b x → Counted b x → is_good Outward c x ≡ false → NotGiven b x
  not_given_to c (at_nothing e) s n g =
      let p = s.place in
      clash (rw (s.fits.begin p, phase_fresh c e)) (sym (good_begin Outward c x p) ∙ g)
  not_given_to c (at_whole e) s n g = reasons.NotGiven.second_card
  not_given_to c (at_begun {ys = ys} e hf hn hv) s n g =
      by (framing (row_of_line First x)) (λ f. framed (framing_from (row_of_line First x) f)) (λ f. goes f)
    where
      framed : Framing (row_of_line First x) → NotGiven (begun ys) x
      framed (inl q) = absurd (s.place q)
      framed (inr (inl q)) =
          let a : c.has_version ≡ false = hv ∙ none_any First (of_row First 34) ys (n.version q) in
          clash (rw (a, number_from Outward x.value (s.fits.version q))) (sym (good_version Outward c x q) ∙ g)
      framed (inr (inr q)) =
          let k = n.end q in
          let a : c.has_fn ≡ true = hf ∙ some_any First (of_row First 6) ys k.0 in
          let b : c.has_version ≡ true = hv ∙ some_any First (of_row First 34) ys k.1 in
          by c.has_n
          (λ j. clash (rw (s.fits.end q, a, j, b)) (sym (good_end Outward c x q) ∙ g))
          (λ j. reasons.NotGiven.no_n q (none_by (of_row First 7) ys hn j))

      goes : framing (row_of_line First x) ≡ false → NotGiven (begun ys) x
      goes f =
          let r = sym (good_goes Outward c x f) ∙ g in
          by (common (row_of_line First x))
          (λ a.
          let el = eleven_to (row_of_line First x) a in
          by (eqb (row_of_line First x) 7 && c.has_n)
          (λ b. let k = and_both (eqb (row_of_line First x) 7) c.has_n b in reasons.NotGiven.second_name (eqb-true (row_of_line First x) 7 k.0) (some_by (of_row First 7) ys hn k.1))
          (λ b. by (prefs_fit Outward x.params)
          (λ d.
          let o : goes_over Outward (row_of_line First x) (kind_of_line First x) x.value ≡ false = rw (a, b, d) at r in
          by (eqb (row_of_line First x) 19)
          (λ h.
          let q = eqb-true (row_of_line First x) 19 h in
          reasons.NotGiven.geo q (λ u v m. clash ((out_geo (row_of_line First x) (kind_of_line First x) x.value q).0 ∙ new_from m) o))
          (λ h. clash (out_other (row_of_line First x) (kind_of_line First x) x.value (eqb-false (row_of_line First x) 19 h)).0 o))
          (λ d. reasons.NotGiven.pref el (λ qs h. clash (params_out_only h).1 d))))
          (λ a. reasons.NotGiven.other (λ h. clash (framing_to (row_of_line First x) h) f) (λ k. clash (eleven_from k) a))

-- ---- an accepted input

accepted_framed : (i : List ℕ) (k m : ℕ) → judge_of i ≡ Accepted k m → Framed i
accepted_framed i k m e =
    let a = accepting First i k m e in
    record { short = a.short; some = omega (arith, a.some); paired = (paired_law i).0 a.unlone; ends = (ends_law i).0 a.ends }

give_accepted : (i room : List ℕ) (k m : ℕ) → judge_of i ≡ Accepted k m → give_outcome i room ≡ convert_outcome Outward i room
unfolding give_outcome
give_accepted i room k m e = ap (λ (v : Verdict). give_by v i room) e

give_rejected : (i room : List ℕ) (n p : ℕ) → judge_of i ≡ Rejected n p → give_outcome i room ≡ refuse n p room
unfolding give_outcome
give_rejected i room n p e = ap (λ (v : Verdict). give_by v i room) e

-- one card is accepted
source_accepted : {i : List ℕ} {ys : List Line} (c : Converts Outward i ys) → judge_of i ≡ Accepted 1 (length c.lines)
source_accepted {i} c =
    (accepted_law First i 1 (length c.lines)).1 (record {
      short = c.short;
      lines = c.lines;
      written = c.written;
      readable = c.readable;
      cards = subst (Cards First 1) (append-nil c.lines) (grammar.Cards.more c.source grammar.Cards.none);
      some = omega arith;
      count = refl;
    })

-- a line that is read has no bad octet and no fault
reads_flawed : {l : List ℕ} {x : Line} {o : ℕ} → Reads l x → BadAt (allowed false) l o → ⊥
reads_flawed {l} {x} r h =
    let f : first_bad (allowed false) l ≡ length l = fair_bad (clean_fair (rw r.text r.readable.clean)) in
    omega (arith, bad_at_only (allowed false) l h, h.inside, f)

got_bad : {A : Type 0} {m : Parse Line} {x : Line} {k n : ℕ} → m ≡ got x k → m ≡ bad n → A
got_bad p q = let z : ◌≡◌ {A = ℕ} 0 1 = cc in absurd (omega arith)

reads_ruled : {l : List ℕ} {x : Line} {n : ℕ} → Reads l x → FirstFault n l → ⊥
reads_ruled {l} {x} {n} r f = got_bad ((line_law l x (length (front x))).1 (r.readable.formed, r.text, refl)) ((first_fault_law l n).1 f)

-- a list that another is mapped from, split where that one is
record Split (xs : List Line) (us : List (List ℕ)) (l : List ℕ) (vs : List (List ℕ)) : Type 0 where
  before : List Line
  at : Line
  behind : List Line
  parts : xs ≡ before ++ (at ∷ behind)
  first : us ≡ map render before
  line : l ≡ render at

split_more : {xs : List Line} {us : List (List ℕ)} {l u : List ℕ} {vs : List (List ℕ)} (x : Line) → u ≡ render x → Split xs us l vs → Split (x ∷ xs) (u ∷ us) l vs
split_more x a s =
    record { before = x ∷ s.before; at = s.at; behind = s.behind; parts = both refl s.parts; first = both a s.first; line = s.line }

split_lines : (xs : List Line) (us : List (List ℕ)) (l : List ℕ) (vs : List (List ℕ)) → us ++ (l ∷ vs) ≡ map render xs → Split xs us l vs
split_lines [] [] l vs e = let z : ◌≡◌ {A = ℕ} 0 1 = cc in absurd (omega arith)
split_lines [] (u ∷ us) l vs e = let z : ◌≡◌ {A = ℕ} 0 1 = cc in absurd (omega arith)
split_lines (x ∷ xs) [] l vs e = record { before = []; at = x; behind = xs; parts = refl; first = refl; line = cc }
split_lines (x ∷ xs) (u ∷ us) l vs e =
    let a : u ≡ render x = cc in
    let b : us ++ (l ∷ vs) ≡ map render xs = cc in
    split_more x a (split_lines xs us l vs b)

-- a line of an accepted input has none of the reader's refusals
told : {b : Before} {c : Set} {l : List ℕ} {s : Step} (raw : List ℕ) (at n p : ℕ) (x : Line) → l ≡ render x → Readable x → Sourced b x → Counted b x → Tells c b → Judged Outward b c at l s → settled at raw s ≡ Refused n p
    → NotGiven b x × (n ≡ 51) × (p ≡ at)
told raw at n p x e r s k t (flawed h) g = absurd (reads_flawed (record { text = e; readable = r }) h)
told raw at n p x e r s k t (ruled h f) g = absurd (reads_ruled (record { text = e; readable = r }) f)
told {b} raw at n p x e r s k t (misplaced y q f) g = absurd (f (subst (InPlace b) (line_unique x y r.formed q.readable.formed (sym e ∙ q.text)) s.place))
told raw at n p x e r s k t (heavy y q h f) g = absurd (f (subst (Unladen First) (line_unique x y r.formed q.readable.formed (sym e ∙ q.text)) s.unladen))
told {c = c} raw at n p x e r s k t (unwanted y q h u f) g =
    let z : x ≡ y = line_unique x y r.formed q.readable.formed (sym e ∙ q.text) in
    let o = same_step g in
    (not_given_to x c t s k (ap (is_good Outward c) z ∙ f), sym o.0, sym o.1)
told raw at n p x e r s k t (advanced y d q w) g = no_step g

module _ (i room : List ℕ) where
  card_of : {ys : List Line} → Converts Outward i ys → Card Outward i ys
  card_of c = record { lines = c.lines; written = c.written; readable = c.readable; card = c.card }

  pub give_card : {ys : List Line} → Converts Outward i ys → give_outcome i room ≡ fill_bounded (card_octets ys) room
  give_card c = give_accepted i room 1 (length c.lines) (source_accepted c) ∙ card_answer Outward i room c.short (card_of c)

  room_from : {n p : ℕ} → NoRoom Outward i room n p → give_outcome i room ≡ refuse n p room
  room_from (reasons.NoRoom.long {ys = ys} c h) = give_card c ∙ fill_long (card_octets ys) room h
  room_from (reasons.NoRoom.small {ys = ys} c h g) = give_card c ∙ fill_small (card_octets ys) room h g

  -- the line x stands in an accepted input behind the lines ls
  module _ (k m : ℕ) (a : InputOf i k m) where
    first_of : FirstCard a.lines
    first_of = first_card a.cards a.some

    lines_of_lem : map unfolded (raw_lines i) ≡ map render a.lines
    lines_of_lem = written_lines a.written a.readable

    kinded : AllKinded Outward (raw_lines i)
    kinded = all_kinded (raw_lines i) a.lines lines_of_lem a.readable (cards_kinded a.cards)

    record There (ls : List (List ℕ)) (l : List ℕ) (b : Before) : Type 0 where
      line : Line
      text : l ≡ render line
      readable : Readable line
      sound : Sourced b line
      counted : Counted b line

    there : (ls : List (List ℕ)) (l : List ℕ) (ms : List (List ℕ)) {b : Before} → ls ++ (l ∷ ms) ≡ map render a.lines → SoFar Outward ls b → There ls l b
    unfolding Each
    there ls l ms e h =
        let s = split_lines a.lines ls l ms e in
        let r = each_split First Readable s.before (s.at ∷ s.behind) (subst (Each Readable) s.parts a.readable) in
        let q = sourced first_of s.before s.at s.behind r.0 s.parts h s.first in
        record { line = s.at; text = s.line; readable = r.1.0; sound = q.0; counted = q.1 }

    there_raw : (ds : List (List ℕ)) (l : List ℕ) (es : List (List ℕ)) {b : Before} → raw_lines i ≡ ds ++ (l ∷ es) → SoFar Outward (map unfolded ds) b → There (map unfolded ds) (unfolded l) b
    there_raw ds l es q h = there (map unfolded ds) (unfolded l) (map unfolded es) (sym (map-append unfolded ds (l ∷ es)) ∙ ap (map unfolded) (sym q) ∙ lines_of_lem) h

    converts : {ys : List Line} → Card Outward i ys → Converts Outward i ys
    converts c =
        let q : a.lines ≡ c.lines = same_lines a.lines c.lines a.readable c.readable (sym lines_of_lem ∙ written_lines c.written c.readable) in
        record {
          short = a.short;
          lines = c.lines;
          written = c.written;
          readable = c.readable;
          source = subst (CardLines First) q (one_card first_of (subst (λ (l : List Line). CardBy Outward l _) (sym q) c.card));
          card = c.card;
        }

    not_open : {ls : List (List ℕ)} {ys : List Line} {b : Before} → SoFar Outward ls b → b ≡ begun ys → ls ≡ map render a.lines → ⊥
    not_open reasons.SoFar.no_line q e = omega (arith, ap place_of q)
    not_open (in_card {b = b} {ys = ys} h r w) q e = no_open first_of b ys w.each (sym (same_lines (b ∷ ys) a.lines r a.readable e))
    not_open (reasons.SoFar.after_card r c) q e = omega (arith, ap place_of q)

  -- ---- the answer

  answered_refused : {f : Filled} (k m : ℕ) (a : InputOf i k m) → Framed i → Answered Outward i room f → (n p : ℕ) → f ≡ refuse n p room → RefusedOut i room n p
  answered_refused k m a f (over ys c) n p e = reasons.RefusedOut.room (fill_refused Outward i room ys (converts k m a c) n p e)
  answered_refused k m a f (inside ys h) n p e = absurd (not_open k m a h refl (lines_of_lem k m a))
  answered_refused k m a f (halted ds l es c s y q z r j g) n p e =
      let o = refusal_numbers e in
      let t = there_raw k m a ds l es z r.lines in
      let w = told l (length (ended ds)) y q t.line t.text t.readable t.sound t.counted r.known j g in
      let h = subst (λ (u : List ℕ). Lined i (ds ++ (l ∷ es)) (map unfolded ds ++ (u ∷ map unfolded es))) t.text (split_at i ds l es f z) in
      subst (λ (u : ℕ). RefusedOut i room n u) (sym w.2 ∙ o.1)
      (subst (λ (u : ℕ). RefusedOut i room u (length (ended ds))) (sym w.1 ∙ o.0)
      (reasons.RefusedOut.line ds es (map unfolded ds) (map unfolded es) l t.line r.before a h (length-map ds unfolded) r.lines t.readable w.0))

  answered_wrote : {f : Filled} (k m : ℕ) → InputOf i k m → Answered Outward i room f → (n : ℕ) (after : List ℕ) → f ≡ filled (Wrote n) after → Gives i room n after
  answered_wrote k m a (over ys c) n after e =
      let g = fill_to (card_octets ys) room after n e in
      record { lines = ys; card = converts k m a c; short = g.short; fits = g.fits; count = g.count; holds = g.holds }
  answered_wrote k m a (inside ys h) n after e = never e
  answered_wrote k m a (halted ds l es c s y q z r j g) n after e = never e

  answer_of : (k m : ℕ) → InputOf i k m → judge_of i ≡ Accepted k m → Answered Outward i room (convert_outcome Outward i room)
  answer_of k m a e = answered Outward i room (accepted_framed i k m e) (kinded k m a)

  refused_by : (v : Verdict) → judge_of i ≡ v → (n p : ℕ) → give_outcome i room ≡ refuse n p room → RefusedOut i room n p
  refused_by (Accepted k m) e n p g =
      let a = (accepted_law First i k m).0 e in
      answered_refused k m a (accepted_framed i k m e) (answer_of k m a e) n p (sym (give_accepted i room k m e) ∙ g)
  refused_by (Rejected k q) e n p g =
      let o = refusal_numbers (sym (give_rejected i room k q e) ∙ g) in
      rw (← o.0, ← o.1) (reasons.RefusedOut.reader ((refused_law First i k q).0 e))

  wrote_by : (v : Verdict) → judge_of i ≡ v → (n : ℕ) (after : List ℕ) → give_outcome i room ≡ filled (Wrote n) after → Gives i room n after
  wrote_by (Accepted k m) e n after g =
      let a = (accepted_law First i k m).0 e in
      answered_wrote k m a (answer_of k m a e) n after (sym (give_accepted i room k m e) ∙ g)
  wrote_by (Rejected k q) e n after g = never (sym (give_rejected i room k q e) ∙ g)

  wrote_from : (n : ℕ) (after : List ℕ) → Gives i room n after → give_outcome i room ≡ filled (Wrote n) after
  wrote_from n after h = give_card h.card ∙ fill_from (record { short = h.short; fits = h.fits; count = h.count; holds = h.holds })

  refused_from : {n p : ℕ} → RefusedOut i room n p → give_outcome i room ≡ refuse n p room
  refused_from (reasons.RefusedOut.reader {n = n} {p = p} h) = give_rejected i room n p ((refused_law First i n p).1 h)
  refused_from (reasons.RefusedOut.line ds es ls ms r x b {k = k} {m = m} a e c h d g) =
      let j = (accepted_law First i k m).1 a in
      let q = raw_there ds es ls ms r (render x) e c in
      let y = lines_there ds es ls ms r (render x) e c in
      let w = line_there ds es ls ms r (render x) e c in
      let t = there k m a ls (render x) ms ((lined_only e).1 ∙ lines_of_lem k m a) h in
      let z : t.line ≡ x = line_unique t.line x t.readable.formed d.formed (sym t.text) in
      let s : Sourced b x = subst (Sourced b) z t.sound in
      let v : Reads (unfolded r) x = record { text = sym w; readable = d } in
      give_accepted i room k m j
      ∙ stop_answer Outward i room ds r es 51 (length (ended ds)) (accepted_framed i k m j) q (subst (λ (u : List (List ℕ)). SoFar Outward u b) y h)
      (λ n u. (Refused 51 (length (ended ds)), unwanted x v s.place s.unladen (not_given_from x n u s g), refl))
  refused_from (reasons.RefusedOut.room h) = room_from h

  -- n octets are written exactly where the input is an accepted card that is given out as them
  pub gives : (n : ℕ) (after : List ℕ) → (give_outcome i room ≡ filled (Wrote n) after) ↔ Gives i room n after
  gives n after = (wrote_by (judge_of i) refl n after, wrote_from n after)

  -- refused with number n at place p exactly for the reason that the table has there
  pub refuses_out : (n p : ℕ) → (give_outcome i room ≡ refuse n p room) ↔ RefusedOut i room n p
  refuses_out n p = (refused_by (judge_of i) refl n p, refused_from)
