-- `watch_lines::judge_either` meets its contract. Assumes nothing.
use mathlib.Core.Path.{◌≡◌, sym, ap, subst}
use mathlib.Core.Bool.{Bool, false}
use mathlib.Core.List.{List}
use Prim.Native.Nat.{ℕ, ◌+◌}
use lib.ListN.{length}
use Rattle.octets.specs.Pick.{pick}
use Rattle.line_folds.specs.Folds.{unfolded}
use Rattle.property_table.specs.declared.Edition.TheVariants.{First}
use Rattle.card_state.specs.Kept.{step_of, Holds}
use Rattle.card_state.specs.declared.Card.{Card as Kept}
use Rattle.card_state.specs.Kept.{KeptStep}
use Rattle.reader_walk.specs.Walk.{Roomy, Left}
use Rattle.watch_lines.specs.Taking.{judgement}
use Rattle.watch_lines.proofs.judge_either.Goals as goal

abbrev Asks : Kept → Bool → List ℕ → List ℕ → Type 0
Asks c folded b x = Roomy c x b × (folded ≡ false → unfolded x ≡ x)

abbrev Says : Kept → ℕ → List ℕ → List ℕ → KeptStep → List ℕ → Type 0
Says c at b b' r x = (step_of b' r ≡ judgement c b x at) × (Holds (c.used + length x) r × Left First c x b b' r)

pub judge_span-requires : goal.judge_span-requires
judge_span-requires c =
    let a = c.args in
    let p = c.requires in
    let e = ap (λ (f : Bool). pick f a.line.now a.other.now) c.if-first.true in
    let z = subst (Asks a.c a.folded a.buffer.now) e (p.roomy, p.other_value) in
    record { tables = p.tables; counted = p.counted; roomy = z.0; s_value = z.1 }

pub returns-then-first : goal.returns-then-first
returns-then-first c =
    let a = c.args in
    let e = ap (λ (f : Bool). pick f a.line.now a.other.now) c.if-first.true in
    let r = c.judge_span in
    let z = subst (Says a.c a.at a.buffer.now r.new.scratch r.result) (sym e) (r.ensures.result_after, r.ensures.holds) in
    record { result_after = z.0; holds = z.1 }

pub judge_span-requires-2 : goal.judge_span-requires-2
judge_span-requires-2 c =
    let a = c.args in
    let p = c.requires in
    let e = ap (λ (f : Bool). pick f a.line.now a.other.now) c.if-first.false in
    let z = subst (Asks a.c a.folded a.buffer.now) e (p.roomy, p.other_value) in
    record { tables = p.tables; counted = p.counted; roomy = z.0; s_value = z.1 }

pub returns : goal.returns
returns c =
    let a = c.args in
    let e = ap (λ (f : Bool). pick f a.line.now a.other.now) c.if-first.false in
    let r = c.judge_span-2 in
    let z = subst (Says a.c a.at a.buffer.now r.new.scratch r.result) (sym e) (r.ensures.result_after, r.ensures.holds) in
    record { result_after = z.0; holds = z.1 }
