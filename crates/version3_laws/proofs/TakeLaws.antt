-- Taking in answers exactly as the relations say: what it writes, and what it refuses with which number and place. Assumes nothing.
use mathlib.Core.Path.{◌≡◌, refl, sym, ap, subst, ◌∙◌}
use mathlib.Core.Bool.{Bool, true, false, false≢true}
use mathlib.Core.List.{List, [], ◌∷◌, ◌++◌, map, map-append}
use mathlib.Core.Logic.{◌↔◌}
use Prim.Native.Nat.{ℕ, ◌+◌, ◌≤◌}
use native.Mathlib.Nat.{add-zero}
use native.Mathlib.Omega.{arith}
use lib.Dec.{eqb, ltb}
use lib.ListN.{length, length-map}
use borrow.Author.Tests.{ltb-true, ltb-false, lt-ltb, le-ltb, eqb-true, eqb-false, ne_eqb}
use Rattle.octets.specs.Pick.{pick}
use Rattle.octets.specs.Room.{Filled, filled, refuse}
use Rattle.octets.specs.Room.{Wrote}
use Rattle.octets.proofs.Bools.{by}
use Rattle.octets.proofs.Scans.{scan_le}
use Rattle.line_breaks.specs.Lone.{lone_step, first_lone, ends_cr_lf}
use Rattle.line_folds.specs.Folds.{unfolded}
use Rattle.line_folds.specs.Logical.{raw_lines}
use Rattle.line_parser.specs.Grammar.{Line, Each}
use Rattle.line_laws.specs.Lined.{Folded, Unbroken, Lined, EndsCrLf}
use Rattle.line_laws.proofs.LinedLaws.{ends_law, lined_law, lined_only}
use Rattle.line_laws.proofs.PlacedLaws.{placed, placed_only, lined_there}
use Rattle.property_table.specs.declared.Edition.TheVariants.{First}
use Rattle.reader.specs.Outcome.{ended}
use Rattle.reader_laws.proofs.LoneLaws.{lone_here, lone_none}
use Rattle.reader_grammar.specs.Refusals.{Framed, Where, at_start, at_octet, Placed}
use Rattle.reader_grammar.proofs.PairedLaws.{lone_within, paired_law, lone_first}
use Rattle.reader_grammar.proofs.Walks.{place_in}
use Rattle.version3_parameters.specs.declared.Way.TheVariants.{Inward}
use Rattle.version3_judge.specs.declared.Set.{Set}
use Rattle.version3_judge.specs.Judge.{Step, Refused, Flawed, fresh_set, settled, judge_lines}
use Rattle.version3.specs.Outcome.{concluded, convert_outcome, take_outcome}
use Rattle.version3_laws.specs.Cards.{Converts, card_octets, Takes}
use Rattle.version3_laws.specs.Refusals.{Before, begun, SoFar, LineRefused, octet, rule, order, laden, not_taken, NoRoom, RefusedIn}
use Rattle.version3_laws.specs.Refusals as reasons
use Rattle.version3_laws.proofs.LineLaws.{value_unbroken}
use Rattle.version3_laws.proofs.JudgeLaws.{Tells, Judged, flawed, ruled, misplaced, heavy, unwanted, advanced}
use Rattle.version3_laws.proofs.ReasonLaws.{not_taken_from, not_taken_to}
use Rattle.version3_laws.proofs.WalkLaws.{AllKinded}
use Rattle.version3_laws.proofs.AnswerLaws.{never, refusal_numbers, fill_to, fill_from, fill_long, fill_small, fill_refused, Card, card_answer, open_answer, stop_answer, Answered, over, inside, halted, answered}
use Rattle.version3_laws.proofs.Small.{same_step, no_step}

-- ---- places

-- an octet of the line, or its end
abbrev Inside : Where → List ℕ → Type 0
Inside at_start l = Unit {0}
Inside (at_octet o) l = o ≤ length l

placed_so : (l r : List ℕ) → Unbroken l → (w : Where) (q : ℕ) → Placed l r w q → place_in First r w ≡ q
placed_so l r u at_start q e = sym e
placed_so l r u (at_octet o) q a = sym (placed_only a u)

so_placed : {l r : List ℕ} → Folded l r → Unbroken l → (w : Where) → Inside w l → Placed l r w (place_in First r w)
so_placed f u at_start h = refl
so_placed f u (at_octet o) h = placed f u o h

-- lists that are joined alike, the first parts as long as each other, are alike
pub same_parts : {A : Type 0} (us vs xs ys : List A) → length us ≡ length vs → us ++ xs ≡ vs ++ ys → (us ≡ vs) × (xs ≡ ys)
same_parts [] [] xs ys n e = (refl, e)
same_parts [] (b ∷ vs) xs ys n e = absurd (omega arith)
same_parts (a ∷ us) [] xs ys n e = absurd (omega arith)
same_parts (a ∷ us) (b ∷ vs) xs ys n e =
    let h : a ≡ b = cc in
    let q : us ++ xs ≡ vs ++ ys = cc in
    let r = same_parts us vs xs ys (omega arith) q in
    (ap (λ (z : _). z ∷ us) h ∙ ap (λ (zs : List _). b ∷ zs) r.0, r.1)

-- in lines that are split so, the logical line at a place is the raw one there without its folds
module _ {i : List ℕ} (ds es ls ms : List (List ℕ)) (r l : List ℕ) (h : Lined i (ds ++ (r ∷ es)) (ls ++ (l ∷ ms))) (n : length ls ≡ length ds) where
  pub raw_there : raw_lines i ≡ ds ++ (r ∷ es)
  raw_there = sym (lined_only h).0

  parts_there : (ls ≡ map unfolded ds) × (l ∷ ms ≡ unfolded r ∷ map unfolded es)
  parts_there =
      same_parts ls (map unfolded ds) (l ∷ ms) (unfolded r ∷ map unfolded es) (n ∙ sym (length-map ds unfolded))
      ((lined_only h).1 ∙ ap (map unfolded) raw_there ∙ map-append unfolded ds (r ∷ es))

  pub lines_there : ls ≡ map unfolded ds
  lines_there = parts_there.0

  pub line_there : l ≡ unfolded r
  line_there = let e = parts_there.1 in cc

-- past 1 to 4 the walk splits the input into its lines
pub split_so : (i : List ℕ) → Framed i → Lined i (raw_lines i) (map unfolded (raw_lines i))
split_so i f = lined_law i ((paired_law i).1 f.paired) f.ends

pub split_at : (i : List ℕ) (ds : List (List ℕ)) (l : List ℕ) (es : List (List ℕ)) → Framed i → raw_lines i ≡ ds ++ (l ∷ es)
    → Lined i (ds ++ (l ∷ es)) (map unfolded ds ++ (unfolded l ∷ map unfolded es))
split_at i ds l es f q =
    subst (λ (x : List (List ℕ)). Lined i (ds ++ (l ∷ es)) x) (map-append unfolded ds (l ∷ es)) (subst (λ (x : List (List ℕ)). Lined i x (map unfolded x)) q (split_so i f))

-- ---- a line that is refused

-- the refusal of a line, and its judgement
line_from : {b : Before} {l : List ℕ} {n : ℕ} {w : Where} (raw : List ℕ) (at : ℕ) → LineRefused b l n w → (c : Set) → Tells c b
    → (s : Step) × Judged Inward b c at l s × (settled at raw s ≡ Refused n (at + place_in First raw w))
line_from raw at (octet {o = o} h) c t = (Flawed 5 o, flawed h, refl)
line_from raw at (rule {n = n} h f) c t = (Refused n at, ruled h f, ap (Refused n) (sym (add-zero at)))
line_from raw at (order x r f) c t = (Refused 9 at, misplaced x r f, ap (Refused 9) (sym (add-zero at)))
line_from raw at (laden x r h f) c t = (Refused 8 at, heavy x r h f, ap (Refused 8) (sym (add-zero at)))
line_from raw at (not_taken x r h u f) c t =
    (Refused 50 at, unwanted x r h u (not_taken_from x (value_unbroken x r.readable) c t h u f), ap (Refused 50) (sym (add-zero at)))

record Told (b : Before) (l raw : List ℕ) (at n p : ℕ) : Type 0 where
  place : Where
  refused : LineRefused b l n place
  there : p ≡ at + place_in First raw place
  inside : Inside place l

told_at : {b : Before} {l raw : List ℕ} (at m n p : ℕ) → LineRefused b l m at_start → Refused m at ≡ Refused n p → Told b l raw at n p
told_at {b} {l} at m n p h e =
    let q = same_step e in
    record { place = at_start; refused = subst (λ (k : ℕ). LineRefused b l k at_start) q.0 h; there = sym q.1 ∙ sym (add-zero at); inside = tt }

line_to : {b : Before} {c : Set} {l raw : List ℕ} {s : Step} (at n p : ℕ) → Tells c b → Judged Inward b c at l s → settled at raw s ≡ Refused n p → Told b l raw at n p
line_to {b} {l = l} at n p t (flawed {o = o} h) e =
    let q = same_step e in
    record { place = at_octet o; refused = subst (λ (k : ℕ). LineRefused b l k (at_octet o)) q.0 (octet h); there = sym q.1; inside = omega (arith, h.inside) }
line_to at n p t (ruled {n = m} h f) e = told_at at m n p (rule h f) e
line_to at n p t (misplaced x r f) e = told_at at 9 n p (order x r f) e
line_to at n p t (heavy x r h f) e = told_at at 8 n p (laden x r h f) e
line_to {c = c} at n p t (unwanted x r h u g) e = told_at at 50 n p (not_taken x r h u (not_taken_to x (value_unbroken x r.readable) c t h g)) e
line_to at n p t (advanced x d r a) e = no_step e

-- taking in asks nothing of the kind of a line that is read
all_kinded : (ls : List (List ℕ)) → AllKinded Inward ls
unfolding Each
all_kinded [] = tt
all_kinded (l ∷ ls) = (λ x r. tt, all_kinded ls)

-- ---- the whole input

module _ (i room : List ℕ) where
  card_of : {ys : List Line} → Converts Inward i ys → Card Inward i ys
  card_of c = record { lines = c.lines; written = c.written; readable = c.readable; card = c.card }

  converts : {ys : List Line} → length i ≤ 16384 → Card Inward i ys → Converts Inward i ys
  converts h c = record { short = h; lines = c.lines; written = c.written; readable = c.readable; source = tt; card = c.card }

  open_end : (EndsCrLf i → ⊥) → ends_cr_lf i ≡ false
  open_end f = by (ends_cr_lf i) (λ e. absurd (f ((ends_law i).0 e))) (λ e. e)

  room_from : {n p : ℕ} → NoRoom Inward i room n p → take_outcome i room ≡ refuse n p room
  room_from (reasons.NoRoom.long {ys = ys} c h) = card_answer Inward i room c.short (card_of c) ∙ fill_long (card_octets ys) room h
  room_from (reasons.NoRoom.small {ys = ys} c h g) = card_answer Inward i room c.short (card_of c) ∙ fill_small (card_octets ys) room h g

  refused_from : {n p : ℕ} → RefusedIn i room n p → take_outcome i room ≡ refuse n p room
  unfolding convert_outcome
  refused_from (reasons.RefusedIn.long h) = rw (lt-ltb 16384 (length i) h)
  refused_from (reasons.RefusedIn.empty e) = rw e
  refused_from (reasons.RefusedIn.lone {p = p} h s f g) =
      let q = lone_first i p f g in
      rw (
        le-ltb 16384 (length i) h,
        ne_eqb (length i) 0 (λ e. omega arith),
        lt-ltb (first_lone i) (length i) (omega (arith, lone_within i p f, q)),
      ) (ap (λ (n : ℕ). refuse 3 n room) q)
  refused_from (reasons.RefusedIn.unended h s f e) =
      rw (
        le-ltb 16384 (length i) h,
        ne_eqb (length i) 0 (λ e. omega arith),
        le-ltb (first_lone i) (length i) (omega (arith, (paired_law i).1 f)),
        open_end e,
      )
  refused_from (reasons.RefusedIn.line ds es ls ms r l n q w b f e c h k a) =
      let at = length (ended ds) in
      stop_answer Inward i room ds r es n (at + place_in First r w) f (raw_there ds es ls ms r l e c)
      (subst (λ (x : List (List ℕ)). SoFar Inward x b) (lines_there ds es ls ms r l e c) h)
      (λ d t. line_from _ at (subst (λ (x : List ℕ). LineRefused b x n w) (line_there ds es ls ms r l e c) k) d t)
      ∙ ap (λ (m : ℕ). refuse n (at + m) room) (placed_so l r (lined_there ds es ls ms r l e c).1 w q a)
  refused_from (reasons.RefusedIn.unfinished rs ls ys f e h) =
      open_answer Inward i room ys f (subst (λ (x : List (List ℕ)). SoFar Inward x (begun ys)) (lined_only e).1 h)
  refused_from (reasons.RefusedIn.room h) = room_from h

  answered_refused : {f : Filled} → Framed i → Answered Inward i room f → (n p : ℕ) → f ≡ refuse n p room → RefusedIn i room n p
  answered_refused f (over ys c) n p e = reasons.RefusedIn.room (fill_refused Inward i room ys (converts f.short c) n p e)
  answered_refused f (inside ys h) n p e =
      let m = refusal_numbers e in
      rw (← m.0, ← m.1) (reasons.RefusedIn.unfinished (raw_lines i) (map unfolded (raw_lines i)) ys f (split_so i f) h)
  answered_refused f (halted ds l es c s k q z r j g) n p e =
      let m = refusal_numbers e in
      let at = length (ended ds) in
      let o = line_to {raw = l} at k q r.known j g in
      let h = split_at i ds l es f z in
      let y = lined_there ds es (map unfolded ds) (map unfolded es) l (unfolded l) h (length-map ds unfolded) in
      subst (λ (x : ℕ). RefusedIn i room n x) (sym o.there ∙ m.1)
      (subst (λ (x : ℕ). RefusedIn i room x (at + place_in First l o.place)) m.0
      (reasons.RefusedIn.line ds es (map unfolded ds) (map unfolded es) l (unfolded l) k (place_in First l o.place) o.place r.before f h (length-map ds unfolded) r.lines o.refused
      (so_placed y.0 y.1 o.place o.inside)))

  answered_wrote : {f : Filled} → length i ≤ 16384 → Answered Inward i room f → (n : ℕ) (after : List ℕ) → f ≡ filled (Wrote n) after → Takes i room n after
  answered_wrote h (over ys c) n after e =
      let g = fill_to (card_octets ys) room after n e in
      record { lines = ys; card = converts h c; short = g.short; fits = g.fits; count = g.count; holds = g.holds }
  answered_wrote h (inside ys k) n after e = never e
  answered_wrote h (halted ds l es c s k q z r j g) n after e = never e

  framed_by : ltb 16384 (length i) ≡ false → eqb (length i) 0 ≡ false → ltb (first_lone i) (length i) ≡ false → ends_cr_lf i ≡ true → Framed i
  unfolding first_lone
  framed_by ea eb ec ed =
      let le : first_lone i ≤ length i = scan_le lone_step i 0 in
      record {
        short = ltb-false 16384 (length i) ea;
        some = omega (arith, eqb-false (length i) 0 eb);
        paired = (paired_law i).0 (omega (arith, ltb-false (first_lone i) (length i) ec));
        ends = (ends_law i).0 ed;
      }

  -- the answer of the walk over a framed input
  abbrev rest : Filled
  rest = concluded Inward (judge_lines Inward (raw_lines i) 0 fresh_set) i room

  answer_framed : Framed i → Answered Inward i room (take_outcome i room)
  answer_framed f = answered Inward i room f (all_kinded (raw_lines i))

  to_by : (n p : ℕ) (a b c d : Bool) → ltb 16384 (length i) ≡ a → eqb (length i) 0 ≡ b → ltb (first_lone i) (length i) ≡ c → ends_cr_lf i ≡ d → take_outcome i room ≡ refuse n p room
      → pick a (refuse 1 16384 room) (pick b (refuse 2 0 room) (pick c (refuse 3 (first_lone i) room) (pick d rest (refuse 4 (length i) room)))) ≡ refuse n p room
      → RefusedIn i room n p
  unfolding first_lone
  to_by n p true b c d ea eb ec ed o e =
      let m = refusal_numbers e in
      rw (← m.0, ← m.1) (reasons.RefusedIn.long (ltb-true 16384 (length i) ea))
  to_by n p false true c d ea eb ec ed o e =
      let m = refusal_numbers e in
      rw (← m.0, ← m.1) (reasons.RefusedIn.empty (eqb-true (length i) 0 eb))
  to_by n p false false true d ea eb ec ed o e =
      let m = refusal_numbers e in
      rw (← m.0, ← m.1) (reasons.RefusedIn.lone (ltb-false 16384 (length i) ea) (omega (arith, eqb-false (length i) 0 eb)) (lone_here i (ltb-true (first_lone i) (length i) ec)) (lone_none i))
  to_by n p false false false false ea eb ec ed o e =
      let m = refusal_numbers e in
      let le : first_lone i ≤ length i = scan_le lone_step i 0 in
      let q : first_lone i ≡ length i = omega (arith, ltb-false (first_lone i) (length i) ec) in
      rw (← m.0, ← m.1) (reasons.RefusedIn.unended (ltb-false 16384 (length i) ea) (omega (arith, eqb-false (length i) 0 eb)) ((paired_law i).0 q) (λ f. false≢true (sym ed ∙ (ends_law i).1 f)))
  to_by n p false false false true ea eb ec ed o e =
      let f = framed_by ea eb ec ed in
      answered_refused f (answer_framed f) n p o

  refused_to : (n p : ℕ) → take_outcome i room ≡ refuse n p room → RefusedIn i room n p
  unfolding convert_outcome
  refused_to n p e = to_by n p (ltb 16384 (length i)) (eqb (length i) 0) (ltb (first_lone i) (length i)) (ends_cr_lf i) refl refl refl refl e e

  wrote_by : (n : ℕ) (after : List ℕ) (a b c d : Bool) → ltb 16384 (length i) ≡ a → eqb (length i) 0 ≡ b → ltb (first_lone i) (length i) ≡ c → ends_cr_lf i ≡ d → take_outcome i room ≡ filled (Wrote n) after
      → pick a (refuse 1 16384 room) (pick b (refuse 2 0 room) (pick c (refuse 3 (first_lone i) room) (pick d rest (refuse 4 (length i) room)))) ≡ filled (Wrote n) after
      → Takes i room n after
  wrote_by n after true b c d ea eb ec ed o e = never e
  wrote_by n after false true c d ea eb ec ed o e = never e
  wrote_by n after false false true d ea eb ec ed o e = never e
  wrote_by n after false false false false ea eb ec ed o e = never e
  wrote_by n after false false false true ea eb ec ed o e =
      let f = framed_by ea eb ec ed in
      answered_wrote f.short (answer_framed f) n after o

  wrote_to : (n : ℕ) (after : List ℕ) → take_outcome i room ≡ filled (Wrote n) after → Takes i room n after
  unfolding convert_outcome
  wrote_to n after e = wrote_by n after (ltb 16384 (length i)) (eqb (length i) 0) (ltb (first_lone i) (length i)) (ends_cr_lf i) refl refl refl refl e e

  wrote_from : (n : ℕ) (after : List ℕ) → Takes i room n after → take_outcome i room ≡ filled (Wrote n) after
  wrote_from n after h =
      card_answer Inward i room h.card.short (card_of h.card)
      ∙ fill_from (record { short = h.short; fits = h.fits; count = h.count; holds = h.holds })

  -- n octets are written exactly where the input is a card that is taken in as them
  pub takes : (n : ℕ) (after : List ℕ) → (take_outcome i room ≡ filled (Wrote n) after) ↔ Takes i room n after
  takes n after = (wrote_to n after, wrote_from n after)

  -- refused with number n at place p exactly for the reason that the table has there
  pub refuses_in_lem : (n p : ℕ) → (take_outcome i room ≡ refuse n p room) ↔ RefusedIn i room n p
  refuses_in_lem n p = (refused_to n p, refused_from)
