-- `card_judge::judge::judge_parts` meets its contract. Assumes nothing.
use mathlib.Core.Path.{◌≡◌, sym, ap, ◌∙◌}
use mathlib.Core.Bool.{not}
use Prim.Native.Nat.{ℕ}
use native.Mathlib.Omega.{arith}
use Rattle.octets.specs.Pick.{pick}
use Rattle.card_line.specs.Parts.{altid_name, first_value}
use Rattle.card_state.specs.State.{Refused, flag_of, once_flag, is_seen}
use Rattle.card_state.specs.Kept.{card_of}
use mathlib.Core.List.{List}
use Rattle.property_table.specs.declared.Edition.{Edition}
use Rattle.card_line.specs.declared.Parts.{Parts}
use Rattle.card_state.specs.State.{Step}
use Rattle.card_state.specs.declared.Card.{Card as Kept}
use Rattle.card_judge.specs.declared.judge.Judgement.{Judgement}
use Rattle.card_judge.specs.Judge.{entered, fitting, judge_parts, read_by, Keeping, added_at}
use Rattle.card_judge.proofs.JudgeLaws.{tests, fault_inside}
use Rattle.card_judge.proofs.SettleLaws.{stopped, flawed_stop}
use Rattle.card_judge.proofs.judge.judge_parts.Goals as goal

-- the line's judgement, by its parts
abbrev Judged : Edition → Kept → List ℕ → ℕ → Parts → List ℕ → List ℕ → Step
Judged ed c store at x l v = judge_parts ed (card_of c store) at x.row x.group_length x.param_count x.kind (first_value altid_name l) x.value_start v

-- what is promised of an answer
abbrev Told : Edition → Kept → List ℕ → ℕ → Parts → List ℕ → List ℕ → Judgement → Type 0
Told ed c store at x l v j = (read_by j store l ≡ Judged ed c store at x l v) × Keeping c l (added_at x.row c.seen (first_value altid_name l)) j

pub returns-then-misplaced : goal.returns-then-misplaced
unfolding card_of
returns-then-misplaced c =
    let a = c.args in
    let found : Judged a.edition a.c a.store.now a.at a.x a.s.now a.value.now
    ≡ pick (not c.in_order-misplaced.result) (Refused 9 a.at) (pick c.is_laden-laden.result (Refused 8 a.at)
    (fitting a.x.value_start c.judge_value-fault.result (entered (card_of a.c a.store.now) a.at a.x.row (first_value altid_name a.s.now) a.value.now))) =
    tests a.edition (card_of a.c a.store.now) a.at a.x.row a.x.group_length a.x.param_count a.x.kind (first_value altid_name a.s.now) a.x.value_start a.value.now
    c.in_order-misplaced.ensures c.is_laden-laden.ensures c.judge_value-fault.ensures in
    let w : Told a.edition a.c a.store.now a.at a.x a.s.now a.value.now c.unkept.result =
    stopped a.c a.store.now a.s.now c.unkept.result _ a.at _ c.unkept.ensures (simp (found, c.if-misplaced.true-raw)) in
    record { s_value = w.0; keeping = w.1 }

pub returns-then-laden : goal.returns-then-laden
unfolding card_of
returns-then-laden c =
    let a = c.args in
    let found : Judged a.edition a.c a.store.now a.at a.x a.s.now a.value.now
    ≡ pick (not c.in_order-misplaced.result) (Refused 9 a.at) (pick c.is_laden-laden.result (Refused 8 a.at)
    (fitting a.x.value_start c.judge_value-fault.result (entered (card_of a.c a.store.now) a.at a.x.row (first_value altid_name a.s.now) a.value.now))) =
    tests a.edition (card_of a.c a.store.now) a.at a.x.row a.x.group_length a.x.param_count a.x.kind (first_value altid_name a.s.now) a.x.value_start a.value.now
    c.in_order-misplaced.ensures c.is_laden-laden.ensures c.judge_value-fault.ensures in
    let w : Told a.edition a.c a.store.now a.at a.x a.s.now a.value.now c.unkept-then-laden.result =
    stopped a.c a.store.now a.s.now c.unkept-then-laden.result _ a.at _ c.unkept-then-laden.ensures (simp (found, c.if-misplaced.false-raw, c.if-laden.true)) in
    record { s_value = w.0; keeping = w.1 }

-- the octet lies within the value
pub overflow_add-x : goal.overflow_add-x
overflow_add-x c = omega (arith, c.requires.value_bound, fault_inside _ _ _ _ _ (sym c.judge_value-fault.ensures ∙ c.in-Breaks.is))

pub returns-in-Breaks : goal.returns-in-Breaks
unfolding card_of
returns-in-Breaks c =
    let a = c.args in
    let found : Judged a.edition a.c a.store.now a.at a.x a.s.now a.value.now
    ≡ pick (not c.in_order-misplaced.result) (Refused 9 a.at) (pick c.is_laden-laden.result (Refused 8 a.at)
    (fitting a.x.value_start c.judge_value-fault.result (entered (card_of a.c a.store.now) a.at a.x.row (first_value altid_name a.s.now) a.value.now))) =
    tests a.edition (card_of a.c a.store.now) a.at a.x.row a.x.group_length a.x.param_count a.x.kind (first_value altid_name a.s.now) a.x.value_start a.value.now
    c.in_order-misplaced.ensures c.is_laden-laden.ensures c.judge_value-fault.ensures in
    let w : Told a.edition a.c a.store.now a.at a.x a.s.now a.value.now c.unkept-in-Breaks.result =
    flawed_stop a.c a.store.now a.s.now c.unkept-in-Breaks.result _ _ _ c.unkept-in-Breaks.ensures (simp (found, c.if-misplaced.false-raw, c.if-laden.false, c.in-Breaks.is)) in
    record { s_value = w.0; keeping = w.1 }

pub settle-requires : goal.settle-requires
unfolding once_flag
settle-requires c =
    let p = c.requires in
    record {
      classes = p.tables.0;
      parted = p.parted;
      row_lt_all = (p.row_lt_all.0, (c.once_of-once.ensures.value, c.once_of-once.ensures.upper_bound));
      again_value = c.is_again-again.ensures ∙ ap (λ (k : ℕ). is_seen (flag_of k) c.args.c.seen) c.once_of-once.ensures.value;
      counted = p.counted;
      stored = p.stored;
    }

pub returns : goal.returns
unfolding card_of
returns c =
    let a = c.args in
    let found : Judged a.edition a.c a.store.now a.at a.x a.s.now a.value.now
    ≡ pick (not c.in_order-misplaced.result) (Refused 9 a.at) (pick c.is_laden-laden.result (Refused 8 a.at)
    (fitting a.x.value_start c.judge_value-fault.result (entered (card_of a.c a.store.now) a.at a.x.row (first_value altid_name a.s.now) a.value.now))) =
    tests a.edition (card_of a.c a.store.now) a.at a.x.row a.x.group_length a.x.param_count a.x.kind (first_value altid_name a.s.now) a.x.value_start a.value.now
    c.in_order-misplaced.ensures c.is_laden-laden.ensures c.judge_value-fault.ensures in
    record { s_value = c.settle.ensures.s_value ∙ simp (found, c.if-misplaced.false-raw, c.if-laden.false, c.in_default.is); keeping = c.settle.ensures.keeping }
