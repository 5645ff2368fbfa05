-- The reader refuses exactly the inputs that REFERENCE, Refusals lists, each with the number and place that come first. Assumes nothing.
use mathlib.Core.Path.{◌≡◌, refl, sym, ap, subst, ◌∙◌}
use mathlib.Core.Bool.{Bool, true, false, false≢true}
use mathlib.Core.List.{List, [], ◌∷◌, ◌++◌, map, map-append}
use mathlib.Core.Logic.{◌↔◌}
use Prim.Native.Nat.{ℕ, ◌+◌, ◌<◌, ◌≤◌}
use native.Mathlib.Nat.{add-zero, zero-add}
use native.Mathlib.Omega.{arith}
use lib.Dec.{eqb, ltb}
use lib.ListN.{length, length-append, length-map}
use borrow.Author.Tests.{ltb-true, ltb-false, lt-ltb, le-ltb, eqb-true, eqb-false, ne_eqb}
use Rattle.octets.proofs.Scans.{scan_le}
use Rattle.octets.specs.Pick.{pick}
use Rattle.line_folds.specs.Folds.{unfolded}
use Rattle.line_folds.specs.Logical.{raw_lines}
use Rattle.line_parser.specs.Grammar.{Line, front, render}
use Rattle.octets.proofs.Bools.{by}
use Rattle.card_state.specs.State.{Card, Step, Next, Refused as Halted, Flawed, fresh_card}
use Rattle.card_judge.specs.Judge.{judge_line}
use Rattle.line_breaks.specs.Lone.{lone_step, first_lone, ends_cr_lf}
use Rattle.reader_walk.specs.Walk.{onward, settled, judge_lines}
use Rattle.reader.specs.Outcome.{verdict_of, judge_in, ended}
use Rattle.reader.specs.Outcome.{Accepted, Refused}
use Rattle.reader_laws.proofs.LoneLaws.{lone_here, lone_none}
use Rattle.line_laws.specs.Lined.{Folded, Unbroken, Lined, EndsCrLf}
use Rattle.line_laws.proofs.PlacedLaws.{placed, placed_only, lined_there}
use Rattle.reader_grammar.specs.Refusals.{Framed, SoFar, Where, at_start, at_octet, LineRefused, octet, rule, order, laden, value, second, nameless, no_group, Placed, RefusedIn, long, empty, lone, unended, line, unfinished}
use Rattle.reader_grammar.proofs.Known.{phase_of, Known, fresh_known}
use Rattle.reader_grammar.proofs.LineLaws.{refused, outcome}
use Rattle.reader_grammar.proofs.Runs.{steps_run, prefix_run}
use Rattle.reader_grammar.proofs.Walks.{place_in, settled_place, Walked, finished, stopped}
use Rattle.reader_grammar.proofs.PairedLaws.{lone_within, paired_law, lone_first}
use Rattle.line_laws.proofs.LinedLaws.{ends_law, lined_law, lined_only}
use Rattle.reader_grammar.proofs.Accepted.{judge_framed, walk_all, phase_none}
use Rattle.property_table.specs.declared.Edition.{Edition}

module _ (ed : Edition) where
  -- after the lines ds, which lead to d, the next are judged from where they start
  after_line : (ds es : List (List ℕ)) (p q : ℕ) (d : Card) → p + length (ended ds) ≡ q → (s : Step)
      → ((c : Card) → judge_lines ed ds p c ≡ Next d → judge_lines ed (ds ++ es) p c ≡ judge_lines ed es (p + length (ended ds)) d)
      → onward s (judge_lines ed ds p) ≡ Next d → onward s (judge_lines ed (ds ++ es) p) ≡ judge_lines ed es q d
  after_line ds es p q d n (Next c) ih h = ih c h ∙ ap (λ (m : ℕ). judge_lines ed es m d) n
  after_line ds es p q d n (Halted m r) ih h = let z : ◌≡◌ {A = ℕ} 0 1 = cc in absurd (omega arith)
  after_line ds es p q d n (Flawed m o) ih h = let z : ◌≡◌ {A = ℕ} 0 1 = cc in absurd (omega arith)

  judge_after : (ds es : List (List ℕ)) (at : ℕ) (c d : Card) → judge_lines ed ds at c ≡ Next d
      → judge_lines ed (ds ++ es) at c ≡ judge_lines ed es (at + length (ended ds)) d
  unfolding judge_lines ended
  judge_after [] es at c d e =
      let q : c ≡ d = cc in
      rw (add-zero at, q)
  judge_after (l ∷ ds) es at c d e =
      let n : at + length l + 2 + length (ended ds) ≡ at + length (l ++ (13 ∷ 10 ∷ ended ds)) = omega (arith, length-append l (13 ∷ 10 ∷ ended ds)) in
      after_line ds es (at + length l + 2) (at + length (l ++ (13 ∷ 10 ∷ ended ds))) d n (settled at l (judge_line ed c at (unfolded l)))
      (λ b h. judge_after ds es (at + length l + 2) b d h) e

  -- the lines so far lead to a state that knows the card's lines
  led : (ds : List (List ℕ)) (k : ℕ) (zs ys : List Line) → SoFar ed (map unfolded ds) k zs ys → (d : Card) × (judge_lines ed ds 0 fresh_card ≡ Next d) × Known ed d ys
  led ds k zs ys h =
      let l = prefix_run ed k zs ys h.cards h.begun h.readable fresh_card (fresh_known ed) in
      (l.card, steps_run ed l.steps ds 0 h.written, l.known)

  -- a card that has had a line
  some_phase : (ys : List Line) → 0 < length ys → phase_of ed ys ≡ 0 → ⊥
  some_phase ys h e = omega (arith, ap length (phase_none ed ys e))

  has_some : (ys : List Line) → (phase_of ed ys ≡ 0 → ⊥) → 0 < length ys
  unfolding phase_of
  has_some [] f = absurd (f refl)
  has_some (y ∷ ys) f = omega arith

  -- lists that are joined alike, the first parts as long as each other, are alike
  same_parts : {A : Type 0} (us vs xs ys : List A) → length us ≡ length vs → us ++ xs ≡ vs ++ ys → (us ≡ vs) × (xs ≡ ys)
  same_parts [] [] xs ys n e = (refl, e)
  same_parts [] (b ∷ vs) xs ys n e = absurd (omega arith)
  same_parts (a ∷ us) [] xs ys n e = absurd (omega arith)
  same_parts (a ∷ us) (b ∷ vs) xs ys n e =
      let h : a ≡ b = cc in
      let q : us ++ xs ≡ vs ++ ys = cc in
      let r = same_parts us vs xs ys (omega arith) q in
      (ap (λ (z : _). z ∷ us) h ∙ ap (λ (zs : List _). b ∷ zs) r.0, r.1)

  -- in lines that are split so, the logical line at a place is the raw one there without its folds
  module _ {i : List ℕ} (ds es ls ms : List (List ℕ)) (r l : List ℕ) (h : Lined i (ds ++ (r ∷ es)) (ls ++ (l ∷ ms))) (n : length ls ≡ length ds) where
    raw_there : raw_lines i ≡ ds ++ (r ∷ es)
    raw_there = sym (lined_only h).0

    parts_there : (ls ≡ map unfolded ds) × (l ∷ ms ≡ unfolded r ∷ map unfolded es)
    parts_there =
        same_parts ls (map unfolded ds) (l ∷ ms) (unfolded r ∷ map unfolded es) (n ∙ sym (length-map ds unfolded))
        ((lined_only h).1 ∙ ap (map unfolded) raw_there ∙ map-append unfolded ds (r ∷ es))

    line_there : l ≡ unfolded r
    line_there = let e = parts_there.1 in cc

  -- an octet of the line, or its end
  abbrev Within : Where → List ℕ → Type 0
  Within at_start l = Unit {0}
  Within (at_octet o) l = o ≤ length l

  -- the place in the raw line is the one that is counted
  placed_so : (l r : List ℕ) → Unbroken l → (w : Where) (q : ℕ) → Placed l r w q → place_in ed r w ≡ q
  placed_so l r u at_start q e = sym e
  placed_so l r u (at_octet o) q a = sym (placed_only a u)

  so_placed : {l r : List ℕ} → Folded l r → Unbroken l → (w : Where) → Within w l → Placed l r w (place_in ed r w)
  so_placed f u at_start h = refl
  so_placed f u (at_octet o) h = placed f u o h

  -- an octet that a refusal names is one of the line, or its end
  refused_within : {ys : List Line} {l : List ℕ} {n : ℕ} {w : Where} → LineRefused ed ys l n w → Within w l
  unfolding render
  refused_within (octet b) = omega (arith, b.inside)
  refused_within (rule h f) = tt
  refused_within (order x h k) = tt
  refused_within (laden x h k m) = tt
  refused_within (value {o = o} x h k m d) =
      omega (arith, d.inside, ap length h.text, length-append (front x) x.value)
  refused_within (second x h k m f) = tt
  refused_within (nameless x h k m) = tt
  refused_within (no_group x h k m g f) = tt

  module _ (i : List ℕ) where
    stop_at : (ds : List (List ℕ)) (l : List ℕ) (es : List (List ℕ)) (n k : ℕ) (w : Where) (zs ys : List Line) → Framed i → raw_lines i ≡ ds ++ (l ∷ es)
        → SoFar ed (map unfolded ds) k zs ys → LineRefused ed ys (unfolded l) n w → judge_in ed i ≡ Refused n (length (ended ds) + place_in ed l w)
    unfolding judge_lines verdict_of
    stop_at ds l es n k w zs ys f e h r =
        let d = led ds k zs ys h in
        let at = 0 + length (ended ds) in
        let o = outcome ed d.0 ys d.2 at (unfolded l) (refused r) in
        judge_framed ed i f
        ∙ ap (λ (ls : List (List ℕ)). verdict_of (length i) (judge_lines ed ls 0 fresh_card)) e
        ∙ ap (verdict_of (length i)) (judge_after ds (l ∷ es) 0 fresh_card d.0 d.1 ∙ ap (λ (s : Step). onward s (judge_lines ed es (at + length l + 2))) (ap (settled at l) o ∙ settled_place ed at n l w))
        ∙ ap (λ (p : ℕ). Refused n (p + place_in ed l w)) (zero-add (length (ended ds)))

    stop_inside : (k : ℕ) (zs ys : List Line) → Framed i → SoFar ed (map unfolded (raw_lines i)) k zs ys → 0 < length ys → judge_in ed i ≡ Refused 9 (length i)
    unfolding verdict_of
    stop_inside k zs ys f h s =
        let d = led (raw_lines i) k zs ys h in
        judge_framed ed i f
        ∙ ap (verdict_of (length i)) d.1
        ∙ rw (ne_eqb d.0.phase 0 (λ e. some_phase ys s (sym d.2.phase ∙ e)))

    open_end : (EndsCrLf i → ⊥) → ends_cr_lf i ≡ false
    open_end f = by (ends_cr_lf i) (λ e. absurd (f ((ends_law i).0 e))) (λ e. e)

    from : {n p : ℕ} → RefusedIn ed i n p → judge_in ed i ≡ Refused n p
    unfolding judge_in
    from (long h) = rw (lt-ltb 16384 (length i) h)
    from (empty e) = rw (e)
    from (lone {p = p} h s f g) =
        let q = lone_first i p f g in
        rw (
          le-ltb 16384 (length i) h,
          ne_eqb (length i) 0 (λ e. omega arith),
          lt-ltb (first_lone i) (length i) (omega (arith, lone_within i p f, q)),
        ) (ap (Refused 3) q)
    from (unended h s f e) =
        rw (
          le-ltb 16384 (length i) h,
          ne_eqb (length i) 0 (λ e. omega arith),
          le-ltb (first_lone i) (length i) (omega (arith, (paired_law i).1 f)),
          open_end e,
        )
    from (line ds es ls ms r l n k p w zs ys f e c h q a) =
        stop_at ds r es n k w zs ys f (raw_there ds es ls ms r l e c)
        (subst (λ (x : List (List ℕ)). SoFar ed x k zs ys) (parts_there ds es ls ms r l e c).0 h)
        (subst (λ (x : List ℕ). LineRefused ed ys x n w) (line_there ds es ls ms r l e c) q)
        ∙ ap (λ (m : ℕ). Refused n (length (ended ds) + m)) (placed_so l r (lined_there ds es ls ms r l e c).1 w p a)
    from (unfinished rs ls k zs ys f e h s) = stop_inside k zs ys f (subst (λ (x : List (List ℕ)). SoFar ed x k zs ys) (lined_only e).1 h) s

    -- past 1 to 4 the walk splits the input into its lines
    split_so : Framed i → Lined i (raw_lines i) (map unfolded (raw_lines i))
    split_so f = lined_law i ((paired_law i).1 f.paired) f.ends

    -- the walk ends in a refusal, or inside a card
    walked_to : {s : Step} → Framed i → Walked ed (raw_lines i) s → (n p : ℕ) → verdict_of (length i) s ≡ Refused n p → RefusedIn ed i n p
    unfolding verdict_of
    walked_to f (finished {c = c} r) n p e = inside (eqb c.phase 0) refl e
      where
        inside : (t : Bool) → eqb c.phase 0 ≡ t → pick t (Accepted c.cards c.lines) (Refused 9 (length i)) ≡ Refused n p → RefusedIn ed i n p
        inside true q e = let z : ◌≡◌ {A = ℕ} 0 1 = cc in absurd (omega arith)
        inside false q e =
            let a : 9 ≡ n = cc in
            let b : length i ≡ p = cc in
            rw (← a, ← b) (unfinished (raw_lines i) (map unfolded (raw_lines i)) r.k r.zs r.ys f (split_so f) r.lines (has_some r.ys (λ z. eqb-false c.phase 0 q (r.known.phase ∙ z))))
    walked_to f (stopped ds l es {n = m} {w = x} q r h) n p e =
        let a : m ≡ n = cc in
        let b : length (ended ds) + place_in ed l x ≡ p = cc in
        let w : Lined i (ds ++ (l ∷ es)) (map unfolded ds ++ (unfolded l ∷ map unfolded es))
        = subst (λ (x : List (List ℕ)). Lined i (ds ++ (l ∷ es)) x) (map-append unfolded ds (l ∷ es)) (subst (λ (x : List (List ℕ)). Lined i x (map unfolded x)) q (split_so f)) in
        let s = lined_there ds es (map unfolded ds) (map unfolded es) l (unfolded l) w (length-map ds unfolded) in
        rw (← a, ← b) (line ds es (map unfolded ds) (map unfolded es) l (unfolded l) m r.k (place_in ed l x) x r.zs r.ys f w (length-map ds unfolded) r.lines h
        (so_placed s.0 s.1 x (refused_within h)))

    to_by : (n p : ℕ) (a b c d : Bool) → ltb 16384 (length i) ≡ a → eqb (length i) 0 ≡ b → ltb (first_lone i) (length i) ≡ c → ends_cr_lf i ≡ d
        → pick a (Refused 1 16384) (pick b (Refused 2 0) (pick c (Refused 3 (first_lone i))
        (pick d (verdict_of (length i) (judge_lines ed (raw_lines i) 0 fresh_card)) (Refused 4 (length i))))) ≡ Refused n p
        → RefusedIn ed i n p
    unfolding first_lone
    to_by n p true b c d ea eb ec et e =
        let x : 1 ≡ n = cc in
        let y : 16384 ≡ p = cc in
        rw (← x, ← y) (long (ltb-true 16384 (length i) ea))
    to_by n p false true c d ea eb ec et e =
        let x : 2 ≡ n = cc in
        let y : 0 ≡ p = cc in
        rw (← x, ← y) (empty (eqb-true (length i) 0 eb))
    to_by n p false false true d ea eb ec et e =
        let x : 3 ≡ n = cc in
        let y : first_lone i ≡ p = cc in
        rw (← x, ← y) (lone (ltb-false 16384 (length i) ea) (omega (arith, eqb-false (length i) 0 eb)) (lone_here i (ltb-true (first_lone i) (length i) ec)) (lone_none i))
    to_by n p false false false false ea eb ec et e =
        let x : 4 ≡ n = cc in
        let y : length i ≡ p = cc in
        let le : first_lone i ≤ length i = scan_le lone_step i 0 in
        let s : 0 < length i = omega (arith, eqb-false (length i) 0 eb) in
        let q : first_lone i ≡ length i = omega (arith, ltb-false (first_lone i) (length i) ec) in
        rw (← x, ← y) (unended (ltb-false 16384 (length i) ea) s ((paired_law i).0 q) (λ f. false≢true (sym et ∙ (ends_law i).1 f)))
    to_by n p false false false true ea eb ec et e =
        let le : first_lone i ≤ length i = scan_le lone_step i 0 in
        walked_to (record {
          short = ltb-false 16384 (length i) ea;
          some = omega (arith, eqb-false (length i) 0 eb);
          paired = (paired_law i).0 (omega (arith, ltb-false (first_lone i) (length i) ec));
          ends = (ends_law i).0 et;
        }) (walk_all ed i) n p e

    to : (n p : ℕ) → judge_in ed i ≡ Refused n p → RefusedIn ed i n p
    unfolding judge_in
    to n p e = to_by n p (ltb 16384 (length i)) (eqb (length i) 0) (ltb (first_lone i) (length i)) (ends_cr_lf i) refl refl refl refl e

    -- refused with number n at place p exactly where the table of refusals has it so
    pub refused_law : (n p : ℕ) → (judge_in ed i ≡ Refused n p) ↔ RefusedIn ed i n p
    refused_law n p = (to n p, from)
