-- What taking in and giving out answer past the refusals of the whole input, in either way. Assumes nothing.
use mathlib.Core.Path.{◌≡◌, refl, sym, ap, subst, ◌∙◌}
use mathlib.Core.Bool.{Bool, true, false}
use mathlib.Core.List.{List, [], ◌∷◌, ◌++◌, map}
use Prim.Native.Nat.{ℕ, ◌+◌, ◌<◌, ◌≤◌}
use native.Mathlib.Nat.{zero-add}
use native.Mathlib.Omega.{arith}
use lib.Dec.{ltb}
use lib.ListN.{length, length-append}
use borrow.Author.Tests.{le-ltb, lt-ltb, ltb-true, ltb-false, ne_eqb}
use Rattle.octets.specs.Pick.{pick}
use Rattle.octets.specs.Room.{Filled, filled, refuse, overlay, fill, fill_bounded}
use Rattle.octets.specs.Room.{Wrote, Refused as refused}
use Rattle.octets.proofs.Bools.{clash}
use Rattle.line_breaks.specs.Lone.{first_lone}
use Rattle.line_folds.specs.Folds.{unfolded}
use Rattle.line_folds.specs.Logical.{lines_by, raw_lines, logical_lines}
use Rattle.line_parser.specs.Grammar.{Line, Each}
use Rattle.line_laws.proofs.LinedLaws.{ends_law}
use Rattle.reader.specs.Outcome.{ended}
use Rattle.reader_grammar.specs.Cards.{Readable}
use Rattle.reader_grammar.specs.Inputs.{Written}
use Rattle.reader_grammar.specs.Refusals.{Framed}
use Rattle.reader_grammar.proofs.FoldLaws.{written_lines, written_paired, written_ends, lines_written}
use Rattle.reader_grammar.proofs.PairedLaws.{paired_law}
use Rattle.version3_parameters.specs.declared.Way.{Way}
use Rattle.version3_judge.specs.declared.Phase.TheVariants.{Inside, Ended}
use Rattle.version3_judge.specs.declared.Set.{Set}
use Rattle.version3_judge.specs.Judge.{Step, Next, Refused, fresh_set, settled, judge_lines, onward}
use Rattle.version3.specs.Outcome.{concluded, convert_outcome}
use Rattle.version3_laws.specs.Cards.{CardBy, card, Converts, card_octets}
use Rattle.version3_laws.specs.Refusals.{Before, begun, whole, SoFar, no_line, in_card, after_card, NoRoom}
use Rattle.version3_laws.specs.Refusals as reasons
use Rattle.version3_laws.proofs.JudgeLaws.{Tells, at_begun, at_whole, Judged, outcome}
use Rattle.version3_laws.proofs.WalkLaws.{Reached, Walked, finished, stopped, AllKinded, walk, fresh_reached}
use Rattle.version3_laws.proofs.CardLaws.{card_law}
use Rattle.version3_laws.proofs.RunLaws.{steps_run, lead, judge_after}

-- ---- rooms

pub never : {A : Type 0} {k p n : ℕ} {room after : List ℕ} → refuse k p room ≡ filled (Wrote n) after → A
never {k = k} {p = p} {n = n} e = let q : refused k p ≡ Wrote n = ap (λ (f : Filled). f.answer) e in clash cc

same_refusal : {k p n q : ℕ} {room other : List ℕ} → refuse k p room ≡ refuse n q other → (k ≡ n) × (p ≡ q)
same_refusal {k = k} {p = p} {n = n} {q = q} e = let h : refused k p ≡ refused n q = ap (λ (f : Filled). f.answer) e in (cc, cc)

pub refusal_numbers : {k p n q : ℕ} {room : List ℕ} → refuse k p room ≡ refuse n q room → (k ≡ n) × (p ≡ q)
refusal_numbers e = same_refusal e

same_count : (n m : ℕ) → Wrote n ≡ Wrote m → m ≡ n
same_count n m e = cc

-- octets that were written fit, and are those that the room holds
pub record Fits (t room : List ℕ) (n : ℕ) (after : List ℕ) : Type 0 where
  pub short : length t ≤ 16384
  pub fits : length t ≤ length room
  pub count : n ≡ length t
  pub holds : after ≡ overlay t room

pub fill_to : (t room after : List ℕ) (n : ℕ) → fill_bounded t room ≡ filled (Wrote n) after → Fits t room n after
unfolding fill_bounded fill
fill_to t room after n = go (ltb 16384 (length t)) (ltb (length room) (length t)) refl refl
  where
    go : (a b : Bool) → ltb 16384 (length t) ≡ a → ltb (length room) (length t) ≡ b
        → pick a (refuse 16 16384 room) (pick b (refuse 15 (length t) room) (filled (Wrote (length t)) (overlay t room))) ≡ filled (Wrote n) after → Fits t room n after
    go true b p q e = never e
    go false true p q e = never e
    go false false p q e = record {
      short = ltb-false 16384 (length t) p;
      fits = ltb-false (length room) (length t) q;
      count = same_count (length t) n (ap (λ (f : Filled). f.answer) e);
      holds = sym (ap (λ (f : Filled). f.room) e);
    }

pub fill_from : {t room after : List ℕ} {n : ℕ} → Fits t room n after → fill_bounded t room ≡ filled (Wrote n) after
unfolding fill_bounded fill
fill_from {t} {room} f = rw (le-ltb 16384 (length t) f.short, le-ltb (length room) (length t) f.fits, f.count, f.holds)

pub fill_long : (t room : List ℕ) → 16384 < length t → fill_bounded t room ≡ refuse 16 16384 room
unfolding fill_bounded
fill_long t room h = rw (lt-ltb 16384 (length t) h)

pub fill_small : (t room : List ℕ) → length t ≤ 16384 → length room < length t → fill_bounded t room ≡ refuse 15 (length t) room
unfolding fill_bounded fill
fill_small t room h g = rw (le-ltb 16384 (length t) h, lt-ltb (length room) (length t) g)

-- a card that goes over and is not written has no room
pub fill_refused : (w : Way) (i room : List ℕ) (ys : List Line) → Converts w i ys → (n p : ℕ) → fill_bounded (card_octets ys) room ≡ refuse n p room → NoRoom w i room n p
unfolding fill_bounded fill
fill_refused w i room ys c n p = go (ltb 16384 (length (card_octets ys))) (ltb (length room) (length (card_octets ys))) refl refl
  where
    go : (a b : Bool) → ltb 16384 (length (card_octets ys)) ≡ a → ltb (length room) (length (card_octets ys)) ≡ b
        → pick a (refuse 16 16384 room) (pick b (refuse 15 (length (card_octets ys)) room) (filled (Wrote (length (card_octets ys))) (overlay (card_octets ys) room))) ≡ refuse n p room → NoRoom w i room n p
    go true b k q e =
        let m = refusal_numbers e in
        rw (← m.0, ← m.1) (reasons.NoRoom.long c (ltb-true 16384 (length (card_octets ys)) k))
    go false true k q e =
        let m = refusal_numbers e in
        rw (← m.0, ← m.1) (reasons.NoRoom.small c (ltb-false 16384 (length (card_octets ys)) k) (ltb-true (length room) (length (card_octets ys)) q))
    go false false k q e = never (sym e)

-- ---- past 1 to 4

pub convert_framed : (w : Way) (i room : List ℕ) → Framed i → convert_outcome w i room ≡ concluded w (judge_lines w (raw_lines i) 0 fresh_set) i room
unfolding convert_outcome
convert_framed w i room h =
    rw (
      le-ltb 16384 (length i) h.short,
      ne_eqb (length i) 0 (λ e. omega (arith, h.some)),
      le-ltb (first_lone i) (length i) (omega (arith, (paired_law i).1 h.paired)),
      (ends_law i).1 h.ends,
    )

-- the input is the lines xs, and they are a card that goes over as ys
pub record Card (w : Way) (i : List ℕ) (ys : List Line) : Type 0 where
  pub lines : List Line
  pub written : Written lines i
  pub readable : Each Readable lines
  pub card : CardBy w lines ys

card_some : {w : Way} {xs ys : List Line} → CardBy w xs ys → 0 < length xs
card_some (card b v z us us' xs xs' hb hv hz pu px n f) = omega arith

pub card_framed : (w : Way) (i : List ℕ) {ys : List Line} → length i ≤ 16384 → Card w i ys → Framed i
card_framed w i h c =
    let e = written_ends c.written (card_some c.card) in
    record {
      short = h;
      some = omega (arith, ap length e.1, length-append e.0 (13 ∷ 10 ∷ []));
      paired = (paired_law i).0 (written_paired c.written c.readable);
      ends = e;
    }

whole_phase : {c : Set} → Tells c whole → c.phase ≡ Ended
whole_phase (at_whole e) = e

begun_phase : {c : Set} {ys : List Line} → Tells c (begun ys) → c.phase ≡ Inside
begun_phase (at_begun e f g h) = e

-- a card is written
pub card_answer : (w : Way) (i room : List ℕ) {ys : List Line} → length i ≤ 16384 → Card w i ys → convert_outcome w i room ≡ fill_bounded (card_octets ys) room
unfolding logical_lines
card_answer w i room h c =
    let e = written_lines c.written c.readable in
    let l = lead w (after_card c.readable c.card) in
    let s = steps_run w l.steps (raw_lines i) 0 (e ∙ l.text) in
    convert_framed w i room (card_framed w i h c)
    ∙ ap (λ (t : Step). concluded w t i room) s
    ∙ rw (whole_phase l.known) (ap (λ (t : List ℕ). fill_bounded t room) (card_law w i c.card c.readable e))

-- an input that ends inside the card
pub open_answer : (w : Way) (i room : List ℕ) (ys : List Line) → Framed i → SoFar w (map unfolded (raw_lines i)) (begun ys) → convert_outcome w i room ≡ refuse 9 (length i) room
open_answer w i room ys f h =
    let l = lead w h in
    convert_framed w i room f
    ∙ ap (λ (t : Step). concluded w t i room) (steps_run w l.steps (raw_lines i) 0 l.text)
    ∙ rw (begun_phase l.known)

-- the first line that stops the walk
pub stop_answer : (w : Way) (i room : List ℕ) (ds : List (List ℕ)) (l : List ℕ) (es : List (List ℕ)) {b : Before} (n p : ℕ) → Framed i → raw_lines i ≡ ds ++ (l ∷ es)
    → SoFar w (map unfolded ds) b → ((c : Set) → Tells c b → (s : Step) × Judged w b c (length (ended ds)) (unfolded l) s × (settled (length (ended ds)) l s ≡ Refused n p))
    → convert_outcome w i room ≡ refuse n p room
unfolding judge_lines
stop_answer w i room ds l es {b} n p f e h j =
    let d = lead w h in
    let k = j d.state d.known in
    let at = length (ended ds) in
    let z : 0 + at ≡ at = zero-add at in
    convert_framed w i room f
    ∙ ap (λ (ls : List (List ℕ)). concluded w (judge_lines w ls 0 fresh_set) i room) e
    ∙ ap (λ (t : Step). concluded w t i room)
    (judge_after w ds (l ∷ es) 0 fresh_set d.state (steps_run w d.steps ds 0 d.text)
    ∙ ap (λ (m : ℕ). judge_lines w (l ∷ es) m d.state) z
    ∙ ap (λ (t : Step). onward (settled at l t) (judge_lines w es (at + length l + 2))) (outcome w d.state b d.known at (unfolded l) k.1)
    ∙ ap (λ (t : Step). onward t (judge_lines w es (at + length l + 2))) k.2)

-- ---- the answer, by its reason

pub data Answered (w : Way) (i room : List ℕ) : Filled → Type 0 where
  over : (ys : List Line) → Card w i ys → Answered w i room (fill_bounded (card_octets ys) room)
  inside : (ys : List Line) → SoFar w (map unfolded (raw_lines i)) (begun ys) → Answered w i room (refuse 9 (length i) room)
  halted : (ds : List (List ℕ)) (l : List ℕ) (es : List (List ℕ)) (c : Set) (s : Step) (n p : ℕ) → raw_lines i ≡ ds ++ (l ∷ es) → (r : Reached w ds c)
      → Judged w r.before c (length (ended ds)) (unfolded l) s → settled (length (ended ds)) l s ≡ Refused n p → Answered w i room (refuse n p room)

map_none : {A B : Type 0} (f : A → B) (xs : List A) → map f xs ≡ [] → xs ≡ []
map_none f [] e = refl
map_none f (x ∷ xs) e = let z : ◌≡◌ {A = ℕ} 0 1 = cc in absurd (omega arith)

some_line : (i : List ℕ) → 0 < length i → raw_lines i ≡ [] → ⊥
unfolding raw_lines lines_by
some_line [] h e = omega arith
some_line (x ∷ xs) h e = let z : ◌≡◌ {A = ℕ} 0 1 = cc in omega arith

module _ (w : Way) (i room : List ℕ) (f : Framed i) where
  ended_by : {ls : List (List ℕ)} {b : Before} {c : Set} → map unfolded (raw_lines i) ≡ ls → SoFar w ls b → Tells c b → Answered w i room (concluded w (Next c) i room)
  unfolding logical_lines
  ended_by q no_line t = absurd (some_line i f.some (map_none unfolded (raw_lines i) q))
  ended_by {c = c} q (in_card {ys = ys} h r k) (at_begun p a b d) =
      rw p (inside ys (subst (λ (ls : List (List ℕ)). SoFar w ls (begun ys)) (sym q) (in_card h r k)))
  ended_by {c = c} q (after_card {xs = xs} {ys = ys} r k) (at_whole p) =
      let g : Card w i ys = record { lines = xs; written = lines_written xs i ((paired_law i).1 f.paired) f.ends q; readable = r; card = k } in
      rw (p, card_law w i k r q) (over ys g)

  walked_by : {s : Step} → Walked w (raw_lines i) s → Answered w i room (concluded w s i room)
  walked_by (finished r) = ended_by refl r.lines r.known
  walked_by (stopped ds l es {c = c} {s = s} {n = n} {p = p} q r j e) = halted ds l es c s n p q r j e

  pub answered : AllKinded w (raw_lines i) → Answered w i room (convert_outcome w i room)
  unfolding ended
  answered k = subst (Answered w i room) (sym (convert_framed w i room f)) (walked_by (walk w (raw_lines i) [] fresh_set (fresh_reached w) k))
