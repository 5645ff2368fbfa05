-- One line judged with the buffer, and the lines one after the other. Assumes nothing.
use mathlib.Core.Path.{◌≡◌, refl, sym, ap, subst, ◌∙◌}
use mathlib.Core.Bool.{Bool, true, false, not, false≢true}
use mathlib.Core.List.{List, [], ◌∷◌, ◌++◌, append_assoc}
use Prim.Native.Nat.{ℕ, ◌+◌, ◌-◌, ◌<◌, ◌≤◌}
use native.Mathlib.Omega.{arith}
use lib.Dec.{eqb, ltb}
use lib.ListN.{length, take, drop, replicate, length-drop, length-append, length-replicate}
use lib.Seq.{length-take-le, take_at, take-take, take-length, drop-drop}
use Rattle.numbers.specs.Refusals.{number}
use Rattle.octets.specs.Classes.{run}
use Rattle.octets.specs.Pick.{pick}
use Rattle.octets.specs.Room.{overlay}
use Rattle.octets.proofs.Bools.{by}
use borrow.Author.Tests.{lt-ltb, le-ltb, eqb-true, not-false}
use Rattle.line_folds.specs.Folds.{line_length, unfolded, not_cr}
use Rattle.line_folds.proofs.QuickLaws.{no_fold}
use Rattle.line_folds.proofs.SpanLaws.{part_length}
use Rattle.property_table.specs.declared.Edition.TheVariants.{First}
use Rattle.card_state.specs.State.{Card, Step, Next, Refused, Flawed}
use Rattle.card_state.specs.Kept.{card_of, step_of, Holds}
use Rattle.card_state.specs.declared.Card.{Card as Kept}
use Rattle.card_state.specs.Kept.{KeptStep}
use Rattle.card_state.specs.Kept.{next, refused, flawed}
use Rattle.card_state.proofs.KeptLaws.{card_front}
use Rattle.card_judge.specs.Judge.{judge_line}
use Rattle.card_judge.proofs.CardLaws.{one_more}
use Rattle.desk_pool.specs.Pools.{patch}
use Rattle.reader_walk.specs.Walk.{onward, settled, judge_lines, added_of, Left}
use Rattle.reader_walk.proofs.WalkLaws.{settled_next}
use Rattle.watch_buffer.specs.Buffer.{padded}
use Rattle.watch_buffer.proofs.BufferLaws.{clear_padded, padded_rest}
use Rattle.watch_arrivals.specs.Arrivals.{lone_from, next_from}
use Rattle.watch_arrivals.proofs.ArrivalLaws.{line_next, fine_next}
use Rattle.watch_lines.specs.Parting.{Parting, with_line, opened, parted, ended_lines, open_line}
use Rattle.watch_lines.specs.Values.{halted, values_on, values_next, values_from, laid_in, buffer_on, buffers_from}
use Rattle.watch_lines.specs.Taking.{kept, judgement, values_after, Took, Within, Went}
use Rattle.watch_lines.proofs.PartingLaws.{parted_step, parted_open}

-- the line at hand of a walk over the lines that end with a chunk
abbrev pub hand_line : Bool → List ℕ → List ℕ → ℕ → ℕ → List ℕ
hand_line first line chunk at end = pick first line (take (end - at) (drop at chunk))

-- a step that is no card
abbrev Stopped : KeptStep → Type 0
Stopped j = (d : Kept) → j ≡ next d → ⊥

no_store : (j : KeptStep) → Stopped j → (a b : List ℕ) → step_of a j ≡ step_of b j
unfolding step_of
no_store (next c) h a b = absurd (h c refl)
no_store (refused n p) h a b = refl
no_store (flawed n o) h a b = refl

no_values : (j : KeptStep) → Stopped j → (b : List ℕ) (f : Card → List ℕ) → values_on (step_of b j) f ≡ []
unfolding step_of
no_values (next c) h b f = absurd (h c refl)
no_values (refused n p) h b f = refl
no_values (flawed n o) h b f = refl

never : (j : KeptStep) → Stopped j → (at : ℕ) (s b : List ℕ) (r : KeptStep) → step_of b r ≡ settled at s (step_of b j) → (d : Kept) → r ≡ next d → ⊥
unfolding step_of
never (next c) h at s b r e d q = absurd (h c refl)
never (refused n p) h at s b r e d q =
    let z : Next (card_of d b) ≡ Refused (number n) p = sym (ap (step_of b) q) ∙ e in
    let y : ◌≡◌ {A = ℕ} 0 1 = cc in absurd (omega arith)
never (flawed n o) h at s b r e d q =
    let z = sym (ap (step_of b) q) ∙ e in
    let y : ◌≡◌ {A = ℕ} 0 1 = cc in absurd (omega arith)

holds_none : (r : KeptStep) (n : ℕ) → ((d : Kept) → r ≡ next d → ⊥) → Holds n r
unfolding Holds
holds_none (next c) n h = absurd (h c refl)
holds_none (refused k p) n h = tt
holds_none (flawed k o) n h = tt

-- the values of a state that was stepped to
pub kept_low : (n : ℕ) (j : KeptStep) (d : Kept) → j ≡ next d → Holds n j → d.used ≤ n
unfolding Holds
kept_low n j d e h = (subst (Holds n) e h).1

-- a buffer e with the octets u at its front, cleared behind them up to a place from which on it is as b
clear_laid : (e b u : List ℕ) (to : ℕ) → length u ≤ to → take (length u) e ≡ u → drop to e ≡ drop to b → patch e (length u) (replicate (to - length u) 0) ≡ laid_in to u b
unfolding patch laid_in
clear_laid e b u to h f r =
    let n : length (replicate {A = ℕ} (to - length u) 0) ≡ to - length u = length-replicate (to - length u) 0 in
    let m : length u + (to - length u) ≡ to = omega arith in
    let d : drop (to - length u) (drop (length u) e) ≡ drop to b = drop-drop (to - length u) (length u) e ∙ ap (λ (k : ℕ). drop k e) m ∙ r in
    rw (f, n, d)

-- the line s was judged j with the buffer b, which then is e
module _ (c : Kept) (s b e : List ℕ) (at to : ℕ) (full : length b ≡ 16384) (same : length e ≡ length b)
    (room : c.used + length s ≤ to) (within : to ≤ 16384) where
  rest_same : (j : KeptStep) → Left First c s b e j → drop to e ≡ drop to b
  rest_same j l =
      let k = c.used + length s in
      let w : k + (to - k) ≡ to = omega arith in
      ap (λ (n : ℕ). drop n e) (sym w) ∙ sym (drop-drop (to - k) k e) ∙ ap (drop (to - k)) l.rest ∙ drop-drop (to - k) k b ∙ ap (λ (n : ℕ). drop n b) w

  pub took_refused : (j : KeptStep) → Stopped j → step_of e j ≡ judgement c b s at → Left First c s b e j
      → (r : KeptStep) → ((store : List ℕ) → step_of store r ≡ settled at s (step_of store j)) → (b' : List ℕ) → b' ≡ patch e 0 (replicate (to - 0) 0)
      → Took c s b b' at to r
  took_refused j h judged l r settles b' laid =
      let none : values_after c b s at ≡ [] = ap (λ (x : Step). values_on x (values_next (kept c b) (card_of c b) s)) (sym judged) ∙ no_values j h e (values_next (kept c b) (card_of c b) s) in
      let none-next = never j h at s [] r (settles []) in
      record {
        step = settles b' ∙ ap (settled at s) (no_store j h b' e ∙ judged);
        holds = holds_none r (c.used + length s) none-next;
        buffer = λ z. laid ∙ clear_padded e [] to (omega arith) within refl (rest_same j l ∙ z) ∙ ap padded (sym none);
        whole = laid ∙ clear_laid e b [] to (omega arith) refl (rest_same j l) ∙ ap (λ (x : List ℕ). laid_in to x b) (sym none);
        front = λ d q. absurd (none-next d q);
      }

  module _ (d : Kept) (judged : step_of e (next d) ≡ judgement c b s at) (l : Left First c s b e (next d)) (holds : Holds (c.used + length s) (next d)) where
    -- the values after the line
    abbrev after : List ℕ
    after = pick (eqb d.phase 0) [] (kept c b ++ added_of First c s)

    values : values_after c b s at ≡ after
    unfolding step_of card_of
    values = ap (λ (x : Step). values_on x (values_next (kept c b) (card_of c b) s)) (sym judged)

    front_long : length (kept c b) ≡ c.used
    front_long = length-take-le c.used b (omega arith)

    size : d.used ≡ length after
    size =
        by (eqb d.phase 0)
        (λ p. let z : d.used ≡ 0 = rw p at (l.counts d refl) in rw p z)
        (λ p. let z : d.used ≡ c.used + length (added_of First c s) = rw p at (l.counts d refl) in rw (p, length-append (kept c b) (added_of First c s)) (omega (arith, front_long)))

    there : take d.used e ≡ after
    there =
        by (eqb d.phase 0)
        (λ p. let z : d.used ≡ 0 = rw p at (l.counts d refl) in rw (p, z))
        (λ p. let z : d.used ≡ c.used + length (added_of First c s) = rw p at (l.counts d refl) in rw (p, z) (l.front d refl))

    low : d.used ≤ c.used + length s
    unfolding Holds
    low = holds.1

    pub took_next : (b' : List ℕ) → b' ≡ patch e d.used (replicate (to - d.used) 0) → Took c s b b' at to (next d)
    unfolding step_of Holds patch
    took_next b' laid =
        let inside : d.used ≤ length e = omega (arith, low) in
        let same-front : take d.used b' ≡ take d.used e = ap (take d.used) laid ∙ take_at (take d.used e) (replicate (to - d.used) 0 ++ drop (length (replicate {A = ℕ} (to - d.used) 0)) (drop d.used e)) d.used (length-take-le d.used e inside) in
        record {
          step = ap Next (card_front d b' e holds.0 same-front) ∙ ap (settled at s) judged;
          holds = holds;
          buffer = λ z.
              laid
              ∙ ap (λ (n : ℕ). patch e n (replicate (to - n) 0)) size
              ∙ clear_padded e after to (omega (arith, size, low)) within (ap (λ (n : ℕ). take n e) (sym size) ∙ there) (rest_same (next d) l ∙ z)
              ∙ ap padded (sym values);
          whole =
              laid
              ∙ ap (λ (n : ℕ). patch e n (replicate (to - n) 0)) size
              ∙ clear_laid e b after to (omega (arith, size, low)) (ap (λ (n : ℕ). take n e) (sym size) ∙ there) (rest_same (next d) l)
              ∙ ap (λ (x : List ℕ). laid_in to x b) (sym values);
          front = λ f q.
              subst (λ (x : Kept). (x.used ≡ length (values_after c b s at)) × (take x.used b' ≡ values_after c b s at)) (kept_same q)
              (size ∙ ap length (sym values), same-front ∙ there ∙ sym values);
        }
      where
        kept_same : {f : Kept} → next d ≡ next f → d ≡ f
        kept_same q = cc

-- a refusal
halt_step : (r : KeptStep) → ((d : Kept) → r ≡ next d → ⊥) → (b : List ℕ) → halted (step_of b r) ≡ true
unfolding step_of
halt_step (next d) h b = absurd (h d refl)
halt_step (refused n q) h b = refl
halt_step (flawed n o) h b = refl

halt_settled : (p : ℕ) (s : List ℕ) (x : Step) → halted (settled p s x) ≡ halted x
halt_settled p s (Next d) = refl
halt_settled p s (Refused n q) = refl
halt_settled p s (Flawed n o) = refl

halt_on : (x : Step) → halted x ≡ true → (f : Card → Step) → onward x f ≡ x
halt_on (Next d) h f = absurd (false≢true h)
halt_on (Refused n q) h f = refl
halt_on (Flawed n o) h f = refl

halt_values : (x : Step) → halted x ≡ true → (f : Card → List ℕ) → values_on x f ≡ []
halt_values (Next d) h f = absurd (false≢true h)
halt_values (Refused n q) h f = refl
halt_values (Flawed n o) h f = refl

halt_buffer : (x : Step) → halted x ≡ true → (f : Card → List ℕ) (b : List ℕ) → buffer_on x f b ≡ b
halt_buffer (Next d) h f b = absurd (false≢true h)
halt_buffer (Refused n q) h f b = refl
halt_buffer (Flawed n o) h f b = refl

-- the line s, judged with the buffer b, and the lines ls after it
module _ (c : Kept) (s b b' : List ℕ) (p to : ℕ) (sized : c.used ≤ length b) (to_is : to ≡ c.used + length s + 2) (ls : List (List ℕ)) where
  abbrev values_then : Card → List ℕ
  values_then = values_next (kept c b) (card_of c b) s

  front_size : length (kept c b) + length s + 2 ≡ to
  front_size = omega (arith, length-take-le c.used b sized, to_is)

  -- the line led to the state d
  module _ (d : Kept) (t : Took c s b b' p to (next d)) where
    led_to : judgement c b s p ≡ Next (card_of d b')
    unfolding step_of
    led_to = settled_next p s (judgement c b s p) (card_of d b') (sym t.step)

    values_led : values_after c b s p ≡ values_then (card_of d b')
    values_led = ap (λ (x : Step). values_on x values_then) led_to

    kept_led : kept d b' ≡ values_then (card_of d b')
    kept_led = (t.front d refl).1 ∙ values_led

    pub judged_next : judge_lines First (s ∷ ls) p (card_of c b) ≡ judge_lines First ls (p + length s + 2) (card_of d b')
    unfolding judge_lines step_of
    judged_next = ap (λ (x : Step). onward x (judge_lines First ls (p + length s + 2))) (sym t.step)

    pub values_next_lem : values_from (s ∷ ls) p (card_of c b) (kept c b) ≡ values_from ls (p + length s + 2) (card_of d b') (kept d b')
    unfolding values_from
    values_next_lem =
        ap (λ (x : Step). values_on x (λ (y : Card). values_from ls (p + length s + 2) y (values_then y))) led_to
        ∙ ap (values_from ls (p + length s + 2) (card_of d b')) (sym kept_led)

    pub buffers_next : buffers_from (s ∷ ls) p (card_of c b) (kept c b) b ≡ buffers_from ls (p + length s + 2) (card_of d b') (kept d b') b'
    unfolding buffers_from
    buffers_next =
        let n = length (kept c b) + length s + 2 in
        let laid : laid_in n (values_then (card_of d b')) b ≡ b' = ap (λ (m : ℕ). laid_in m (values_then (card_of d b')) b) front_size ∙ ap (λ (x : List ℕ). laid_in to x b) (sym values_led) ∙ sym t.whole in
        ap (λ (x : Step). buffer_on x (λ (y : Card). buffers_from ls (p + length s + 2) y (values_then y) (laid_in n (values_then y) b)) (laid_in n [] b)) led_to
        ∙ ap (buffers_from ls (p + length s + 2) (card_of d b') (values_then (card_of d b'))) laid
        ∙ ap (λ (x : List ℕ). buffers_from ls (p + length s + 2) (card_of d b') x b') (sym kept_led)

  -- it was refused
  module _ (r : KeptStep) (none : (d : Kept) → r ≡ next d → ⊥) (t : Took c s b b' p to r) where
    refuses : halted (judgement c b s p) ≡ true
    refuses = sym (halt_settled p s (judgement c b s p)) ∙ ap halted (sym t.step) ∙ halt_step r none b'

    values_gone : values_after c b s p ≡ []
    values_gone = halt_values (judgement c b s p) refuses values_then

    pub judged_stop : judge_lines First (s ∷ ls) p (card_of c b) ≡ step_of b' r
    unfolding judge_lines
    judged_stop =
        let f = judge_lines First ls (p + length s + 2) in
        ap (λ (x : Step). onward x f) (sym t.step) ∙ halt_on (step_of b' r) (halt_step r none b') f

    pub values_stop : values_from (s ∷ ls) p (card_of c b) (kept c b) ≡ values_after c b s p
    unfolding values_from
    values_stop = halt_values (judgement c b s p) refuses (λ (y : Card). values_from ls (p + length s + 2) y (values_then y)) ∙ sym values_gone

    pub buffers_stop : buffers_from (s ∷ ls) p (card_of c b) (kept c b) b ≡ b'
    unfolding buffers_from
    buffers_stop =
        let n = length (kept c b) + length s + 2 in
        halt_buffer (judgement c b s p) refuses (λ (y : Card). buffers_from ls (p + length s + 2) y (values_then y) (laid_in n (values_then y) b)) (laid_in n [] b)
        ∙ ap (λ (m : ℕ). laid_in m [] b) front_size ∙ ap (λ (x : List ℕ). laid_in to x b) (sym values_gone) ∙ sym t.whole

-- a buffer is 0 from n on
abbrev pub Blank : ℕ → List ℕ → Type 0
Blank n b = drop n b ≡ replicate (16384 - n) 0

-- lines judged one after the other: of the line s₀ at p₀ and the lines of l₀, with the state c₀ and the buffer b₀, the line s at p and those of l are left,
-- with c and b
pub record Hand (c₀ : Kept) (s₀ l₀ b₀ : List ℕ) (p₀ : ℕ) (c : Kept) (s l b : List ℕ) (p : ℕ) : Type 0 where
  pub judged : judge_lines First (s₀ ∷ ended_lines l₀) p₀ (card_of c₀ b₀) ≡ judge_lines First (s ∷ ended_lines l) p (card_of c b)
  pub opens : open_line l₀ ≡ open_line l
  pub pads : Blank (c₀.used + length s₀ + 2) b₀ → Blank (c.used + length s + 2) b
  pub values : values_from (s₀ ∷ ended_lines l₀) p₀ (card_of c₀ b₀) (kept c₀ b₀) ≡ values_from (s ∷ ended_lines l) p (card_of c b) (kept c b)
  pub buffers : buffers_from (s₀ ∷ ended_lines l₀) p₀ (card_of c₀ b₀) (kept c₀ b₀) b₀ ≡ buffers_from (s ∷ ended_lines l) p (card_of c b) (kept c b) b
  pub sized : c.used ≤ length b
  pub place : p + (length s + 2 + length l) ≡ p₀ + (length s₀ + 2 + length l₀)

pub hand_start : (c : Kept) (s l b : List ℕ) (p : ℕ) → c.used ≤ length b → Hand c s l b p c s l b p
hand_start c s l b p h = record { judged = refl; opens = refl; pads = λ z. z; values = refl; buffers = refl; sized = h; place = refl }

-- the lines of l at p are left
pub record Rest (c₀ : Kept) (s₀ l₀ b₀ : List ℕ) (p₀ : ℕ) (c : Kept) (l b : List ℕ) (p : ℕ) : Type 0 where
  pub judged : judge_lines First (s₀ ∷ ended_lines l₀) p₀ (card_of c₀ b₀) ≡ judge_lines First (ended_lines l) p (card_of c b)
  pub opens : open_line l₀ ≡ open_line l
  pub pads : Blank (c₀.used + length s₀ + 2) b₀ → b ≡ padded (kept c b)
  pub values : values_from (s₀ ∷ ended_lines l₀) p₀ (card_of c₀ b₀) (kept c₀ b₀) ≡ values_from (ended_lines l) p (card_of c b) (kept c b)
  pub buffers : buffers_from (s₀ ∷ ended_lines l₀) p₀ (card_of c₀ b₀) (kept c₀ b₀) b₀ ≡ buffers_from (ended_lines l) p (card_of c b) (kept c b) b
  pub sized : c.used ≤ length b
  pub place : p + length l ≡ p₀ + (length s₀ + 2 + length l₀)

-- the octets behind the values are 0
pad_zero : (c : Kept) (b : List ℕ) (to : ℕ) → c.used ≤ length b → c.used ≤ to → b ≡ padded (kept c b) → drop to b ≡ replicate (16384 - to) 0
pad_zero c b to h g z = ap (drop to) z ∙ padded_rest (kept c b) to (omega (arith, length-take-le c.used b h))

-- the line at hand is judged
module _ (c₀ : Kept) (s₀ l₀ b₀ : List ℕ) (p₀ : ℕ) (c : Kept) (s l b : List ℕ) (p : ℕ) (so_far : Hand c₀ s₀ l₀ b₀ p₀ c s l b p)
    (b' : List ℕ) (to : ℕ) (to_is : to ≡ c.used + length s + 2) where
  blank_to : Blank (c₀.used + length s₀ + 2) b₀ → Blank to b
  blank_to z = subst (λ (n : ℕ). Blank n b) (sym to_is) (so_far.pads z)

  -- it was refused
  pub hand_refused : (r : KeptStep) → ((d : Kept) → r ≡ next d → ⊥) → Took c s b b' p to r → (left : List ℕ) → Went c₀ s₀ l₀ b₀ b' p₀ r left
  hand_refused r none t left = record {
    step = sym (so_far.judged ∙ judged_stop c s b b' p to so_far.sized to_is (ended_lines l) r none t);
    rest = λ d q. absurd (none d q);
    buffer = λ z. t.buffer (blank_to z) ∙ ap padded (sym (so_far.values ∙ values_stop c s b b' p to so_far.sized to_is (ended_lines l) r none t));
    sized = λ d q. absurd (none d q);
    whole = sym (so_far.buffers ∙ buffers_stop c s b b' p to so_far.sized to_is (ended_lines l) r none t);
  }

  -- it led to the state d
  pub hand_next : (d : Kept) → d.used ≤ length b' → Took c s b b' p to (next d) → Rest c₀ s₀ l₀ b₀ p₀ d l b' (p + length s + 2)
  hand_next d low t = record {
    judged = so_far.judged ∙ judged_next c s b b' p to so_far.sized to_is (ended_lines l) d t;
    opens = so_far.opens;
    pads = λ z. t.buffer (blank_to z) ∙ ap padded (sym (t.front d refl).1);
    values = so_far.values ∙ values_next_lem c s b b' p to so_far.sized to_is (ended_lines l) d t;
    buffers = so_far.buffers ∙ buffers_next c s b b' p to so_far.sized to_is (ended_lines l) d t;
    sized = low;
    place = omega (arith, so_far.place);
  }

-- the lines that are left: one of them has ended, or none
module _ (c₀ : Kept) (s₀ l₀ b₀ : List ℕ) (p₀ : ℕ) (c : Kept) (l b : List ℕ) (p : ℕ) (so_far : Rest c₀ s₀ l₀ b₀ p₀ c l b p) where
  pub rest_hand : (s es : List ℕ) → parted l ≡ with_line s (parted es) → length s + 2 + length es ≡ length l → Hand c₀ s₀ l₀ b₀ p₀ c s es b p
  rest_hand s es first size =
      let ended : ended_lines l ≡ s ∷ ended_lines es = ap (λ (x : Parting). x.ended) first in
      record {
        judged = so_far.judged ∙ ap (λ (ls : List (List ℕ)). judge_lines First ls p (card_of c b)) ended;
        opens = so_far.opens ∙ ap (λ (x : Parting). x.left) first;
        pads = λ z. pad_zero c b (c.used + length s + 2) so_far.sized (omega arith) (so_far.pads z);
        values = so_far.values ∙ ap (λ (ls : List (List ℕ)). values_from ls p (card_of c b) (kept c b)) ended;
        buffers = so_far.buffers ∙ ap (λ (ls : List (List ℕ)). buffers_from ls p (card_of c b) (kept c b) b) ended;
        sized = so_far.sized;
        place = omega (arith, so_far.place, size);
      }

  pub rest_open : parted l ≡ opened l → Within c p → length l ≤ length l₀ → Went c₀ s₀ l₀ b₀ b p₀ (next c) l
  unfolding judge_lines values_from buffers_from step_of
  rest_open e w h =
      let none : ended_lines l ≡ [] = ap (λ (x : Parting). x.ended) e in
      let values = so_far.values ∙ ap (λ (ls : List (List ℕ)). values_from ls p (card_of c b) (kept c b)) none in
      record {
        step = sym (so_far.judged ∙ ap (λ (ls : List (List ℕ)). judge_lines First ls p (card_of c b)) none);
        rest = λ d q.
            let z : c ≡ d = cc in
            let at : p ≡ p₀ + (length s₀ + 2) + (length l₀ - length l) = omega (arith, so_far.place) in
            (sym (so_far.opens ∙ ap (λ (x : Parting). x.left) e), subst (λ (x : Kept). Within x (p₀ + (length s₀ + 2) + (length l₀ - length l))) z (subst (Within c) at w));
        buffer = λ z. so_far.pads z ∙ ap padded (sym values);
        sized = λ d q.
            let z : c ≡ d = cc in
            subst (λ (x : Kept). x.used ≡ length (values_from (s₀ ∷ ended_lines l₀) p₀ (card_of c₀ b₀) (kept c₀ b₀))) z
            (sym (length-take-le c.used b so_far.sized) ∙ ap length (sym values));
        whole = sym (so_far.buffers ∙ ap (λ (ls : List (List ℕ)). buffers_from ls p (card_of c b) (kept c b) b) none);
      }

-- the state after a line keeps within the octets so far
pub within_next : (c d : Kept) (s b b' : List ℕ) (p to : ℕ) → Within c p → Took c s b b' p to (next d) → Within d (p + length s + 2)
unfolding step_of Holds card_of
within_next c d s b b' p to w t =
    let led : judgement c b s p ≡ Next (card_of d b') = settled_next p s (judgement c b s p) (card_of d b') (sym t.step) in
    let more = one_more First (card_of c b) (card_of d b') p (unfolded s) led in
    record {
      lies = t.holds.0;
      used = omega (arith, t.holds.1, w.used);
      cards = omega (arith, w.cards, more.0, more.1, more.2);
      lines = omega (arith, w.lines, more.0);
    }

-- the line at a place of a chunk ends at e: it has ended where more than its CR LF stands after it
module _ (s : List ℕ) (at e : ℕ) (low : at ≤ length s) (he : e ≡ at + line_length (drop at s)) (le : e ≤ length s)
    (fine : lone_from 0 (drop at s) ≡ length (drop at s) + 1) where
  next_is : pick (ltb (e + 2) (length s)) (e + 2) (length s) ≡ at + next_from 0 (drop at s)
  next_is = line_next s at e (omega arith) fine he

  pub turn_last : length s - e ≤ 2 → parted (drop at s) ≡ opened (drop at s)
  turn_last h =
      let k : length s ≡ at + next_from 0 (drop at s) = rw (le-ltb (e + 2) (length s) (omega arith)) at next_is in
      parted_open (drop at s) (omega (arith, k, length-drop at s))

  module _ (more : 2 < length s - e) where
    line_is : next_from 0 (drop at s) ≡ e - at + 2
    line_is =
        let k : e + 2 ≡ at + next_from 0 (drop at s) = rw (lt-ltb (e + 2) (length s) (omega arith)) at next_is in
        omega (arith, k, he)

    later : drop (next_from 0 (drop at s)) (drop at s) ≡ drop (e + 2) s
    later =
        let n : at + next_from 0 (drop at s) ≡ e + 2 = omega (arith, line_is, he) in
        drop-drop (next_from 0 (drop at s)) at s ∙ ap (λ (n : ℕ). drop n s) n

    inside : next_from 0 (drop at s) < length (drop at s)
    inside = omega (arith, line_is, length-drop at s, he)

    pub turn_next : parted (drop at s) ≡ with_line (take (e - at) (drop at s)) (parted (drop (e + 2) s))
    turn_next =
        let n : next_from 0 (drop at s) - 2 ≡ e - at = omega (arith, line_is) in
        parted_step (drop at s) inside
        ∙ ap (λ (n : ℕ). with_line (take n (drop at s)) (parted (drop (next_from 0 (drop at s)) (drop at s)))) n
        ∙ ap (λ (x : List ℕ). with_line (take (e - at) (drop at s)) (parted x)) later

    pub turn_fine : lone_from 0 (drop (e + 2) s) ≡ length (drop (e + 2) s) + 1
    turn_fine = subst (λ (x : List ℕ). lone_from 0 x ≡ length x + 1) later (fine_next 0 (drop at s) fine inside)

    -- the line, its CR LF and the rest
    pub turn_size : length (take (e - at) (drop at s)) + 2 + length (drop (e + 2) s) ≡ length (drop at s)
    turn_size = rw (part_length s at e (omega (arith, he, more)) he le, length-drop (e + 2) s, length-drop at s) (omega (arith, he))

-- past the end nothing is left
end_parted : (l : List ℕ) → length l ≡ 0 → parted l ≡ opened l
end_parted l h = parted_open l (omega arith)

-- a line with no lines after it
alone : (x : Step) (p : ℕ) → onward x (judge_lines First [] p) ≡ x
unfolding judge_lines
alone (Next d) p = refl
alone (Refused n q) p = refl
alone (Flawed n o) p = refl

pub judged_alone : (s l : List ℕ) (p : ℕ) (c : Card) → length l ≡ 0 → judge_lines First (s ∷ ended_lines l) p c ≡ settled p s (judge_line First c p (unfolded s))
unfolding judge_lines
judged_alone s l p c h =
    let none : ended_lines l ≡ [] = ap (λ (x : Parting). x.ended) (end_parted l h) in
    ap (λ (ls : List (List ℕ)). judge_lines First (s ∷ ls) p c) none ∙ alone (settled p s (judge_line First c p (unfolded s))) (p + length s + 2)

-- two parts copied one behind the other
pub joined_front : (line x rest line' : List ℕ) (n : ℕ) → length x ≡ n → line' ≡ overlay x line → take (n + length rest) (patch line' n rest) ≡ x ++ rest
unfolding patch
joined_front line x rest line' n e l =
    let f : take n line' ≡ x = ap (take n) l ∙ take_at x (drop (length x) line) n e in
    let m : length (x ++ rest) ≡ n + length rest = length-append x rest ∙ ap (λ (k : ℕ). k + length rest) e in
    rw f (ap (take (n + length rest)) (sym (append_assoc x rest (drop (length rest) (drop n line')))) ∙ take_at (x ++ rest) (drop (length rest) (drop n line')) (n + length rest) m)

-- a line that was joined, without its CR LF
pub joined_line_lem : (line x : List ℕ) (n : ℕ) → take n line ≡ x → take (n - 2) line ≡ take (n - 2) x
joined_line_lem line x n e = sym (take-take (n - 2) n line (omega arith)) ∙ ap (take (n - 2)) e

-- a line that goes on to its end without a CR has no fold
pub whole_line : (s : List ℕ) (cr n : ℕ) → length s ≡ n → cr ≡ 0 + run not_cr (drop 0 s) → not (eqb cr n) ≡ false → unfolded s ≡ s
whole_line s cr n size e h =
    let q : cr ≡ n = eqb-true cr n (not-false _ h) in
    let t : take cr s ≡ s = ap (λ (m : ℕ). take m s) (q ∙ sym size) ∙ take-length s in
    subst (λ (x : List ℕ). unfolded x ≡ x) t (no_fold s cr (omega (arith, e)))
