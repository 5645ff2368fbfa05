-- Cards and the lines of a card that has not ended are judged through, and the state then says what they are. Assumes nothing.
use mathlib.Core.Path.{◌≡◌, refl, sym, ap, subst, ◌∙◌}
use mathlib.Core.List.{List, [], ◌∷◌, ◌++◌, map, append-nil}
use Prim.Native.Nat.{ℕ, suc, ◌+◌, ◌≤◌}
use native.Mathlib.Omega.{arith}
use lib.ListN.{length, length-append}
use lib.Seq.{append_snoc}
use borrow.Author.Tests.{eq-eqb}
use Rattle.line_folds.specs.Folds.{unfolded}
use Rattle.line_parser.specs.Grammar.{Line, Each, render}
use Rattle.octets.proofs.Bools.{by}
use Rattle.card_line.specs.Parts.{row_of_line}
use Rattle.card_judge.specs.Judge.{judge_line}
use Rattle.card_state.specs.State.{Card, Step, Next, line_card as next_card}
use Rattle.reader_walk.specs.Walk.{onward, settled, judge_lines}
use Rattle.reader_grammar.specs.Cards.{Readable, Begins, Versions, Inside, count, lines_of, group_lines, any, same_instance, instances, Once, Inner, CardLines, card, Cards, none, more}
use Rattle.reader_grammar.specs.Refusals.{Begun, nothing, first, within, Sound}
use Rattle.reader_grammar.proofs.Known.{Known, Joins, line_known, end_known}
use Rattle.reader_grammar.proofs.InstanceLaws.{instances_append, some_instance}
use Rattle.reader_grammar.proofs.LineLaws.{goes_on, ends, outcome}
use Rattle.reader_grammar.proofs.BegunLaws.{each_split, frame_any, Stands, begin_stands, version_stands, end_stands, inside_stands, frame_rows, frame_groups}
use Rattle.property_table.specs.declared.Edition.{Edition}

module _ (ed : Edition) where
  -- each of the lines xs, written out, leads from a state to the next
  pub data Steps : Card → List Line → Card → Type 0 where
    stop : {c : Card} → Steps c [] c
    step : {c d e : Card} {x : Line} {xs : List Line} → ((at : ℕ) → judge_line ed c at (render x) ≡ Next d) → Steps d xs e → Steps c (x ∷ xs) e

  steps_join : {c d e : Card} {xs ys : List Line} → Steps c xs d → Steps d ys e → Steps c (xs ++ ys) e
  steps_join stop t = t
  steps_join (step f s) t = step f (steps_join s t)

  nil_cons : {A B : Type 0} {a : A} {l : List A} → [] ≡ a ∷ l → B
  nil_cons e = let z : ◌≡◌ {A = ℕ} 0 1 = cc in absurd (omega arith)

  -- raw lines that unfold to them are judged so
  pub steps_run : {c d : Card} {xs : List Line} → Steps c xs d → (ls : List (List ℕ)) (at : ℕ) → map unfolded ls ≡ map render xs → judge_lines ed ls at c ≡ Next d
  unfolding judge_lines
  steps_run stop [] at e = refl
  steps_run stop (l ∷ ls) at e = nil_cons (sym e)
  steps_run (step f s) [] at e = nil_cons e
  steps_run (step {c = c} {x = x} {xs = xs} f s) (l ∷ ls) at e =
      let a : unfolded l ≡ render x = cc in
      let b : map unfolded ls ≡ map render xs = cc in
      ap (λ (r : Step). onward (settled at l r) (judge_lines ed ls (at + length l + 2))) (ap (judge_line ed c at) a ∙ f at) ∙ steps_run s ls (at + length l + 2) b

  -- from the state c the lines xs lead to a state that knows ys, with k cards more
  pub record Led (c : Card) (xs ys : List Line) (k : ℕ) : Type 0 where
    pub card : Card
    pub steps : Steps c xs card
    pub known : Known ed card ys
    pub cards : card.cards ≡ c.cards + k
    pub lines : card.lines ≡ c.lines + length xs

  led_none : (c : Card) (ys : List Line) → Known ed c ys → Led c [] ys 0
  led_none c ys h = record { card = c; steps = stop; known = h; cards = omega arith; lines = omega arith }

  led_join : (c : Card) (xs ys vs ws : List Line) (k m : ℕ) → (a : Led c xs ys k) → Led a.card vs ws m → Led c (xs ++ vs) ws (k + m)
  led_join c xs ys vs ws k m a b = record {
    card = b.card;
    steps = steps_join a.steps b.steps;
    known = b.known;
    cards = omega (arith, a.cards, b.cards);
    lines = omega (arith, a.lines, b.lines, length-append xs vs);
  }

  module _ (c : Card) (ys : List Line) (h : Known ed c ys) (x : Line) (r : Readable x) (s : Stands ed ys x) where
    sound : Sound ed ys (render x) x
    sound = record { reads = record { text = refl; readable = r }; place = s.place; unladen = s.unladen; fits = s.fits }

    led_line : (row_of_line ed x ≡ 2 → ⊥) → Joins ed ys x → Led c (x ∷ []) (ys ++ (x ∷ [])) 0
    unfolding next_card
    led_line e f = record {
      card = _;
      steps = step (λ at. outcome ed c ys h at (render x) (goes_on x sound e f)) stop;
      known = line_known ed c ys x h f s.place;
      cards = omega arith;
      lines = refl;
    }

    led_end : row_of_line ed x ≡ 2 → 1 ≤ lines_of ed 6 ys → (1 ≤ lines_of ed 24 ys → 1 ≤ group_lines ed ys) → Led c (x ∷ []) [] 1
    led_end e n m = record {
      card = _;
      steps = step (λ at. outcome ed c ys h at (render x) (ends x sound e n m)) stop;
      known = end_known ed c;
      cards = refl;
      lines = refl;
    }

  module _ (b v : Line) (begins : Begins ed b) (versions : Versions ed v) where
    -- a line of a property marked *1 is of the instance of those before it
    first_of : (done rest : List Line) (x : Line) → Inside ed x → Once ed (done ++ (x ∷ rest)) → Joins ed (b ∷ v ∷ done) x
    unfolding instances any
    first_of done rest x i once e h =
        let row = row_of_line ed x in
        let f = frame_rows ed row b v done i.begin i.version begins versions in
        let some = some_instance ed row [] done refl (omega (arith, h)) in
        let all = instances_append ed row [] done (x ∷ rest) in
        let m = once row e in
        frame_any ed x b v done begins versions i
        ∙ by (any (same_instance ed x) done) (λ t. t)
        (λ t.
        let more : instances ed row done (x ∷ rest) ≡ suc (instances ed row (done ++ (x ∷ [])) rest) = rw (eq-eqb row row refl, t) in
        absurd (omega arith))

    inner_run : (rest done : List Line) → Each Readable rest → Each (Inside ed) rest → Once ed (done ++ rest)
        → (c : Card) → Known ed c (b ∷ v ∷ done) → Led c rest (b ∷ v ∷ (done ++ rest)) 0
    unfolding Each
    inner_run [] done r i once c h = subst (λ (zs : List Line). Led c [] (b ∷ v ∷ zs) 0) (sym (append-nil done)) (led_none c (b ∷ v ∷ done) h)
    inner_run (x ∷ rest) done r i once c h =
        let one = led_line c (b ∷ v ∷ done) h x r.0 (inside_stands ed b v done x i.0) i.0.end (first_of done rest x i.0 once) in
        let q = append_snoc done x rest in
        let others = inner_run rest (done ++ (x ∷ [])) r.1 i.1 (λ row e. rw q (once row e)) one.card one.known in
        subst (λ (zs : List Line). Led c (x ∷ rest) (b ∷ v ∷ zs) 0) q (led_join c (x ∷ []) (b ∷ v ∷ (done ++ (x ∷ []))) rest _ 0 0 one others)

  begin_run : (b : Line) → Begins ed b → Readable b → (c : Card) → Known ed c [] → Led c (b ∷ []) (b ∷ []) 0
  unfolding count
  begin_run b h r c k = led_line c [] k b r (begin_stands ed b h) (λ e. omega (arith, h.row)) (λ e n. absurd (omega arith))

  -- BEGIN is no line of VERSION's row
  no_line : (b v : Line) → Begins ed b → Versions ed v → 1 ≤ lines_of ed (row_of_line ed v) (b ∷ []) → ⊥
  unfolding count
  no_line b v h g n = let z : lines_of ed (row_of_line ed v) (b ∷ []) ≡ 0 = rw (g.row, h.row) in omega arith

  within_run : (b v : Line) (ys : List Line) → Begins ed b → Versions ed v → Inner ed ys → Each Readable (b ∷ v ∷ ys) → (c : Card) → Known ed c []
      → Led c (b ∷ v ∷ ys) (b ∷ v ∷ ys) 0
  unfolding Each count
  within_run b v ys h g i r c k =
      let one = begin_run b h r.0 c k in
      let two = led_line one.card (b ∷ []) one.known v r.1.0 (version_stands ed b v g) (λ e. omega (arith, g.row)) (λ e n. absurd (no_line b v h g n)) in
      let others = inner_run b v h g ys [] r.1.1 i.each i.once two.card two.known in
      led_join c (b ∷ []) (b ∷ []) (v ∷ ys) (b ∷ v ∷ ys) 0 0 one (led_join one.card (v ∷ []) (b ∷ v ∷ []) ys (b ∷ v ∷ ys) 0 0 two others)

  pub begun_run : {ys : List Line} → Begun ed ys → Each Readable ys → (c : Card) → Known ed c [] → Led c ys ys 0
  unfolding Each
  begun_run nothing r c k = led_none c [] k
  begun_run (first {b = b} h) r c k = begin_run b h r.0 c k
  begun_run (within {b = b} {v = v} {ys = ys} h g i) r c k = within_run b v ys h g i r c k

  card_run : {xs : List Line} → CardLines ed xs → Each Readable xs → (c : Card) → Known ed c [] → Led c xs [] 1
  unfolding Each
  card_run (card {b = b} {v = v} {z = e} {xs = xs} h g i f) r c k =
      let s = each_split ed Readable (b ∷ v ∷ xs) (e ∷ []) r in
      let begun = within_run b v xs h g i.inner s.0 c k in
      let named : 1 ≤ lines_of ed 6 (b ∷ v ∷ xs) = rw (frame_rows ed 6 b v xs (λ e. omega arith) (λ e. omega arith) h g) i.named in
      let member-rows = frame_rows ed 24 b v xs (λ e. omega arith) (λ e. omega arith) h g in
      let members : 1 ≤ lines_of ed 24 (b ∷ v ∷ xs) → 1 ≤ group_lines ed (b ∷ v ∷ xs) = rw (member-rows, frame_groups ed b v xs h g) i.members in
      let last = led_end begun.card (b ∷ v ∷ xs) begun.known e s.1.0 (end_stands ed b v xs e f) f.row named members in
      led_join c (b ∷ v ∷ xs) (b ∷ v ∷ xs) (e ∷ []) [] 0 1 begun last

  pub cards_run : {k : ℕ} {xs : List Line} → Cards ed k xs → Each Readable xs → (c : Card) → Known ed c [] → Led c xs [] k
  cards_run none r c h = led_none c [] h
  cards_run (more {k = k} {xs = xs} {ys = ys} a rest) r c h =
      let s = each_split ed Readable xs ys r in
      let one = card_run a s.0 c h in
      let others = cards_run rest s.1 one.card one.known in
      let n : 1 + k ≡ suc k = omega arith in
      subst (Led c (xs ++ ys) []) n (led_join c xs [] ys [] 1 k one others)

  -- cards, and then the lines of one that has not ended
  pub prefix_run : (k : ℕ) (zs ys : List Line) → Cards ed k zs → Begun ed ys → Each Readable (zs ++ ys) → (c : Card) → Known ed c [] → Led c (zs ++ ys) ys k
  prefix_run k zs ys a b r c h =
      let s = each_split ed Readable zs ys r in
      let one = cards_run a s.0 c h in
      let others = begun_run b s.1 one.card one.known in
      let n : k + 0 ≡ k = omega arith in
      subst (Led c (zs ++ ys) ys) n (led_join c zs [] ys ys k 0 one others)
