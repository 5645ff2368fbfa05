-- The ALTID values that are kept are those of the grammar's lines since the last END that has ended. Assumes nothing.
use mathlib.Core.Path.{◌≡◌, refl, sym, ap, subst, ◌∙◌}
use mathlib.Core.Bool.{Bool, true, false, not, ◌||◌, false≢true, or-true, or-false}
use mathlib.Core.List.{List, [], ◌∷◌, ◌++◌, map, append-nil, append_assoc}
use Prim.Native.Nat.{ℕ, ◌+◌}
use native.Mathlib.Omega.{arith}
use lib.Dec.{eqb, ltb}
use lib.ListN.{length}
use lib.Seq.{append_snoc}
use borrow.Author.Tests.{eq-eqb, ne_eqb}
use Rattle.octets.specs.Pick.{pick}
use Rattle.octets.proofs.Bools.{by, or_none_right}
use Rattle.line_folds.specs.Folds.{unfolded}
use Rattle.line_parser.specs.Grammar.{Line, Each, front, render}
use Rattle.line_parameters.proofs.Law.{line_law, line_unique}
use Rattle.property_table.specs.declared.Edition.TheVariants.{First}
use Rattle.property_table.specs.Rows.{single, once_at}
use Rattle.card_line.specs.Parts.{row_of_line, altid_of}
use Rattle.card_line.proofs.PartLaws.{row_of_line_lem}
use Rattle.card_state.specs.State.{Card, Step, fresh_card, phase_after, line_card as next_card}
use Rattle.card_judge.specs.Judge.{octets_of, added_at, added_parsed, added_by}
use Rattle.reader.specs.Outcome.{ended}
use Rattle.reader_walk.specs.Walk.{onward, settled, judge_lines}
use Rattle.reader_grammar.specs.Cards.{Readable, of_row, any}
use Rattle.reader_grammar.proofs.Flags.{once_some}
use Rattle.reader_grammar.proofs.Known.{any_last, Known, fresh_known, line_card, line_known, end_card, end_known}
use Rattle.reader_grammar.proofs.LineLaws.{Judged, refused, goes_on, ends, outcome, decided}
use Rattle.reader_grammar.proofs.Walks.{fresh_reached, settled_place, Walked, finished, stopped, walk}
use Rattle.watch_buffer.specs.Buffer.{padded}
use Rattle.watch_lines.specs.Parting.{ended_lines, open_line}
use Rattle.watch_lines.specs.Values.{halted, values_on, values_next, values_from}
use Rattle.watch.specs.Octets.{judged, altid_octets, is_lone, known, used, buffer_after}
use Rattle.watch_laws.specs.Altids.{Ended, since_end, is_first, altids, altids_after, buffer_with}

-- END's row
abbrev is_end : Line → Bool
is_end = of_row First 2

-- one line more: an END leaves no lines, any other is the last of them
since_end_lem : (xs : List Line) (x : Line) → is_end x ≡ true → since_end (xs ++ (x ∷ [])) ≡ []
unfolding since_end any
since_end_lem [] x e = rw e
since_end_lem (y ∷ xs) x e =
    let t : any is_end ((y ∷ xs) ++ (x ∷ [])) ≡ true = any_last First is_end (y ∷ xs) x ∙ ap (λ (b : Bool). any is_end (y ∷ xs) || b) e ∙ or-true (any is_end (y ∷ xs)) in
    ap (λ (b : Bool). pick b (since_end (xs ++ (x ∷ []))) (y ∷ (xs ++ (x ∷ [])))) t ∙ since_end_lem xs x e

since_line : (xs : List Line) (x : Line) → is_end x ≡ false → since_end (xs ++ (x ∷ [])) ≡ since_end xs ++ (x ∷ [])
unfolding since_end any
since_line [] x e = rw e
since_line (y ∷ xs) x e =
    let t : any is_end ((y ∷ xs) ++ (x ∷ [])) ≡ any is_end (y ∷ xs) = any_last First is_end (y ∷ xs) x ∙ ap (λ (b : Bool). any is_end (y ∷ xs) || b) e ∙ or-false (any is_end (y ∷ xs)) in
    by (any is_end (y ∷ xs))
    (λ u.
    ap (λ (b : Bool). pick b (since_end (xs ++ (x ∷ []))) (y ∷ (xs ++ (x ∷ [])))) (t ∙ u)
    ∙ since_line xs x e
    ∙ sym (ap (λ (b : Bool). pick b (since_end xs) (y ∷ xs) ++ (x ∷ [])) u))
    (λ u.
    ap (λ (b : Bool). pick b (since_end (xs ++ (x ∷ []))) (y ∷ (xs ++ (x ∷ [])))) (t ∙ u)
    ∙ sym (ap (λ (b : Bool). pick b (since_end xs) (y ∷ xs) ++ (x ∷ [])) u))

-- what a line adds after the card's lines ys
abbrev adds : List Line → Line → List ℕ
adds ys x = pick (is_first ys x) (octets_of (altid_of x)) []

altids_last : (ys xs : List Line) (x : Line) → altids ys (xs ++ (x ∷ [])) ≡ altids ys xs ++ adds (ys ++ xs) x
unfolding altids
altids_last ys [] x = append-nil (adds ys x) ∙ ap (λ (zs : List Line). adds zs x) (sym (append-nil ys))
altids_last ys (y ∷ xs) x =
    ap (λ (l : List ℕ). adds ys y ++ l)
    (altids_last (ys ++ (y ∷ [])) xs x ∙ ap (λ (zs : List Line). altids (ys ++ (y ∷ [])) xs ++ adds zs x) (append_snoc ys y xs))
    ∙ sym (append_assoc (adds ys y) (altids (ys ++ (y ∷ [])) xs) (adds (ys ++ (y ∷ xs)) x))

-- the state's flags say the same
unmarked : (row : ℕ) → single row ≡ false → once_at row ≡ 0
unfolding once_at
unmarked row e = rw e

module _ (c : Card) (ys : List Line) (k : Known First c ys) (x : Line) where
  added_at_lem : added_at (row_of_line First x) c.seen (altid_of x) ≡ adds ys x
  unfolding added_at
  added_at_lem =
      rw (k.seen (row_of_line First x) (row_of_line_lem First x))
      (by (single (row_of_line First x))
      (λ e.
      let z : eqb (once_at (row_of_line First x)) 0 ≡ false = ne_eqb (once_at (row_of_line First x)) 0 (λ q. omega (arith, once_some (row_of_line First x) (row_of_line_lem First x) e)) in
      rw (e, z) (each (any (of_row First (row_of_line First x)) ys) (octets_of (altid_of x))))
      (λ e. rw (e, unmarked (row_of_line First x) e)))
    where
      each : (t : Bool) (o : List ℕ) → pick t [] o ≡ pick (not t) o []
      each true o = refl
      each false o = refl

  added_law : (l : List ℕ) → unfolded l ≡ render x → Readable x → added_by First c.seen (unfolded l) ≡ adds ys x
  unfolding added_by
  added_law l e r = ap (added_parsed First c.seen) ((line_law (unfolded l) x (length (front x))).1 (r.formed, e, refl)) ∙ added_at_lem

goes_in : (row : ℕ) → eqb (phase_after row) 0 ≡ false
unfolding phase_after
goes_in row = by (eqb row 1) (λ e. rw e) (λ e. rw e)

-- one line further: l, which is read as u, after the lines xs with the values a
module _ (l : List ℕ) (u : Line) (text : unfolded l ≡ render u) (r : Readable u) (p : ℕ) (c : Card) (a : List ℕ) (xs : List Line)
    (k : Known First c (since_end xs)) (e : a ≡ altids_after xs) where
  -- the values after a line that is no END
  kept_on : (x : Line) → unfolded l ≡ render x → Readable x → values_next a c l (line_card First c x) ≡ altids [] (since_end xs ++ (x ∷ []))
  unfolding next_card
  kept_on x t s =
      rw (goes_in (row_of_line First x))
      (ap (λ (b : List ℕ). b ++ added_by First c.seen (unfolded l)) e
      ∙ ap (λ (b : List ℕ). altids_after xs ++ b) (added_law c (since_end xs) k x l t s)
      ∙ sym (altids_last [] (since_end xs) x))

  turn : (f : Card → Step) (g : Card → List ℕ) (goal : List ℕ) {s : Step} → Judged First c (since_end xs) p (unfolded l) s → halted (onward (settled p l s) f) ≡ false
      → ((d : Card) → Known First d (since_end (xs ++ (u ∷ []))) → halted (f d) ≡ false → values_next a c l d ≡ altids_after (xs ++ (u ∷ [])) → g d ≡ goal)
      → values_on s g ≡ goal
  unfolding altids
  turn f g goal (refused {n = n} {w = w} b) h ih = absurd (false≢true (sym h ∙ ap (λ (s : Step). halted (onward s f)) (settled_place First p n l w)))
  turn f g goal (goes_on x s n j) h ih =
      let q : x ≡ u = line_unique x u s.reads.readable.formed r.formed (sym s.reads.text ∙ text) in
      let w : since_end (xs ++ (u ∷ [])) ≡ since_end xs ++ (x ∷ []) = ap (λ (z : Line). since_end (xs ++ (z ∷ []))) (sym q) ∙ since_line xs x (ne_eqb (row_of_line First x) 2 n) in
      ih (line_card First c x) (subst (Known First (line_card First c x)) (sym w) (line_known First c (since_end xs) x k j s.place)) h
      (kept_on x s.reads.text s.reads.readable ∙ ap (altids []) (sym w))
  turn f g goal (ends x s n m o) h ih =
      let q : x ≡ u = line_unique x u s.reads.readable.formed r.formed (sym s.reads.text ∙ text) in
      let w : since_end (xs ++ (u ∷ [])) ≡ [] = ap (λ (z : Line). since_end (xs ++ (z ∷ []))) (sym q) ∙ since_end_lem xs x (eq-eqb (row_of_line First x) 2 n) in
      ih (end_card First c) (subst (Known First (end_card First c)) (sym w) (end_known First c)) h (ap (altids []) (sym w))

nil_cons : {A B : Type 0} {a : A} {l : List A} → [] ≡ a ∷ l → B
nil_cons e = let z : ◌≡◌ {A = ℕ} 0 1 = cc in absurd (omega arith)

values_run : (es : List (List ℕ)) (us : List Line) (p : ℕ) (c : Card) (a : List ℕ) (xs : List Line) → Known First c (since_end xs) → a ≡ altids_after xs
    → map unfolded es ≡ map render us → Each Readable us → halted (judge_lines First es p c) ≡ false → values_from es p c a ≡ altids_after (xs ++ us)
unfolding judge_lines values_from Each
values_run [] [] p c a xs k e m r h = e ∙ ap (λ (zs : List Line). altids_after zs) (sym (append-nil xs))
values_run [] (u ∷ us) p c a xs k e m r h = nil_cons m
values_run (l ∷ es) [] p c a xs k e m r h = nil_cons (sym m)
values_run (l ∷ es) (u ∷ us) p c a xs k e m r h =
    let t : unfolded l ≡ render u = cc in
    let n : map unfolded es ≡ map render us = cc in
    let q = p + length l + 2 in
    let f : Card → Step = judge_lines First es q in
    let g : Card → List ℕ = λ d. values_from es q d (values_next a c l d) in
    let j = decided First c (since_end xs) k p (unfolded l) in
    let o = outcome First c (since_end xs) k p (unfolded l) j.1 in
    ap (λ (s : Step). values_on s g) o
    ∙ turn l u t r.0 p c a xs k e f g (altids_after (xs ++ (u ∷ us))) j.1 (sym (ap (λ (s : Step). halted (onward (settled p l s) f)) o) ∙ h)
    (λ d kd hd v.
    values_run es us q d (values_next a c l d) (xs ++ (u ∷ [])) kd v n r.1 hd
    ∙ ap (λ (zs : List Line). altids_after zs) (append_snoc xs u us))

-- where no fault is known, no ended line is refused
sound_lines : (i : List ℕ) → known i ≡ false → halted (judged i) ≡ false
unfolding known
sound_lines i h = or_none_right (is_lone i) (halted (judged i)) (or_none_right (ltb 16384 (length i)) (is_lone i || halted (judged i)) h)

-- and the ended lines are lines that may be read
lines_read : {ls : List (List ℕ)} {s : Step} → Walked First ls s → halted s ≡ false → (xs : List Line) × ((map unfolded ls ≡ map render xs) × Each Readable xs)
lines_read (finished r) h = (r.zs ++ r.ys, (r.lines.written, r.lines.readable))
lines_read (stopped ds l es e r b) h = absurd (false≢true (sym h))

pub read : (i : List ℕ) → known i ≡ false → (xs : List Line) × Ended i xs
unfolding judged ended
read i h =
    let x = lines_read (walk First (ended_lines i) [] fresh_card (fresh_reached First)) (sound_lines i h) in
    (x.0, record { written = x.1.0; readable = x.1.1 })

pub alts : (i : List ℕ) (xs : List Line) → known i ≡ false → Ended i xs → altid_octets i ≡ altids_after xs
unfolding judged altid_octets since_end altids
alts i xs h e = values_run (ended_lines i) xs 0 fresh_card [] [] (fresh_known First) refl e.written e.readable (sound_lines i h)

pub laid : (i : List ℕ) (xs : List Line) → known i ≡ false → Ended i xs → buffer_after i ≡ buffer_with xs (open_line i)
unfolding buffer_after used
laid i xs h e = rw h (ap (λ (a : List ℕ). padded (a ++ open_line i)) (alts i xs h e))
