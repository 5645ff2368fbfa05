-- One turn of the walk over the logical lines of an input, and what a walk without refusal leaves. Assumes nothing.
use mathlib.Core.Path.{◌≡◌, refl, sym, ap, ◌∙◌}
use mathlib.Core.List.{List, [], ◌∷◌}
use Prim.Native.Nat.{ℕ, ◌+◌, ◌-◌, ◌<◌, ◌≤◌}
use native.Mathlib.Omega.{arith}
use lib.ListN.{length, take, drop}
use Rattle.line_folds.specs.Folds.{line_length, unfolded}
use Rattle.line_folds.specs.Logical.{raw_lines}
use Rattle.line_folds.proofs.SpanLaws.{lines_turn, part_length}
use Rattle.property_table.specs.declared.Edition.{Edition}
use Rattle.card_judge.specs.Judge.{judge_line}
use Rattle.card_judge.proofs.CardLaws.{one_more}
use Rattle.card_state.specs.State.{Card, Step, Next, Refused, Flawed}
use Rattle.card_state.specs.Kept.{step_of}
use Rattle.card_state.specs.Kept.{KeptStep}
use Rattle.card_state.specs.declared.Card.{Card as KeptCard}
use Rattle.card_state.specs.Kept.{next, refused, flawed}
use Rattle.numbers.specs.declared.refusal.Reason.{Reason}
use Rattle.reader_walk.specs.Walk.{onward, settled, judge_lines}

-- the line from `at` to e is the first of those that are left; it was judged r
module _ (ed : Edition) (s : List ℕ) (at e : ℕ) (lt : at < length s) (he : e ≡ at + line_length (drop at s)) (le : e ≤ length s) where
  pub judged : (c : Card) (r : Step) → r ≡ judge_line ed c at (unfolded (take (e - at) (drop at s)))
      → judge_lines ed (raw_lines (drop at s)) at c ≡ onward (settled at (take (e - at) (drop at s)) r) (judge_lines ed (raw_lines (drop (e + 2) s)) (e + 2))
  unfolding judge_lines
  judged c r hr =
      let m : at + length (take (e - at) (drop at s)) + 2 ≡ e + 2 = rw (part_length s at e lt he le) (omega arith) in
      ap (λ (ls : List (List ℕ)). judge_lines ed ls at c) (lines_turn s at e lt he le)
      ∙ ap (λ (q : ℕ). onward (settled at (take (e - at) (drop at s)) (judge_line ed c at (unfolded (take (e - at) (drop at s))))) (judge_lines ed (raw_lines (drop (e + 2) s)) q)) m
      ∙ ap (λ (q : Step). onward (settled at (take (e - at) (drop at s)) q) (judge_lines ed (raw_lines (drop (e + 2) s)) (e + 2))) (sym hr)

-- a refusal is handed up with its place, and the lines after it are not judged
pub stopped_step : (store : List ℕ) (p : ℕ) (l : List ℕ) (f : Card → Step) (r : KeptStep) → ((x : KeptCard) → r ≡ next x → ⊥)
    → onward (settled p l (step_of store r)) f ≡ settled p l (step_of store r)
unfolding step_of
stopped_step store p l f (next c) h = absurd (h c refl)
stopped_step store p l f (refused n q) h = refl
stopped_step store p l f (flawed n o) h = refl

-- a step that names no octet of the line is settled already
pub settled_step : (store : List ℕ) (p : ℕ) (l : List ℕ) (r : KeptStep) → ((n : Reason) (o : ℕ) → r ≡ flawed n o → ⊥) → step_of store r ≡ settled p l (step_of store r)
unfolding step_of
settled_step store p l (next c) h = refl
settled_step store p l (refused n q) h = refl
settled_step store p l (flawed n o) h = absurd (h n o refl)

-- the place of an octet makes no card of a refusal
pub settled_next : (p : ℕ) (l : List ℕ) (s : Step) (c : Card) → settled p l s ≡ Next c → s ≡ Next c
settled_next p l (Next d) c e = e
settled_next p l (Refused n q) c e = e
settled_next p l (Flawed n o) c e = let z : ◌≡◌ {A = ℕ} 0 1 = cc in absurd (omega arith)

-- where the lines after it are accepted too, a line was judged and led to a card
pub onward_next : {A : Type 0} (p : ℕ) (l : List ℕ) (r : Step) (f : Card → Step) (c' : Card) → onward (settled p l r) f ≡ Next c'
    → ((d : Card) → r ≡ Next d → f d ≡ Next c' → A) → A
onward_next p l (Next d) f c' e k = k d refl e
onward_next p l (Refused n q) f c' e k = let z : ◌≡◌ {A = ℕ} 0 1 = cc in absurd (omega arith)
onward_next p l (Flawed n o) f c' e k = let z : ◌≡◌ {A = ℕ} 0 1 = cc in absurd (omega arith)

-- each judged line is counted
pub counted : (ed : Edition) (ls : List (List ℕ)) (p : ℕ) (c c' : Card) → judge_lines ed ls p c ≡ Next c' → c'.lines ≡ c.lines + length ls
unfolding judge_lines
counted ed [] p c c' e =
    let q : c ≡ c' = cc in
    omega (arith, ap (λ (x : Card). x.lines) q)
counted ed (l ∷ ls) p c c' e =
    onward_next p l (judge_line ed c p (unfolded l)) (judge_lines ed ls (p + length l + 2)) c' e
    (λ d q r. omega (arith, one_more ed c d p (unfolded l) q, counted ed ls (p + length l + 2) d c' r))
