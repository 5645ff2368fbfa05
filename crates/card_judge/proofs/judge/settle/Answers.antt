-- `card_judge::judge::settle` meets its contract. Assumes nothing.
use mathlib.Core.Path.{◌≡◌, ap, subst}
use mathlib.Core.Bool.{true}
use mathlib.Core.List.{List}
use Prim.Native.Nat.{ℕ, ◌≤◌}
use native.Mathlib.Omega.{arith}
use Rattle.card_line.specs.Parts.{altid_name, first_value}
use Rattle.card_state.specs.State.{once_flag}
use Rattle.card_state.specs.Kept.{card_of}
use Rattle.card_state.specs.declared.Card.{Card as Kept}
use Rattle.card_state.specs.Kept.{KeptStep}
use Rattle.card_state.proofs.KeptLaws.{once_ten}
use Rattle.card_judge.specs.Judge.{entered, read_by, added_at, Keeping, instance}
use Rattle.card_judge.specs.declared.judge.Instance.{Instance as Found}
use Rattle.card_judge.proofs.SettleLaws.{stopped, takes_lies, takes_counts, told_second, settled, not_second, nothing_kept}
use Rattle.card_judge.proofs.judge.settle.Goals as goal

pub instance_of-i-requires : goal.instance_of-i-requires
unfolding once_flag
instance_of-i-requires c =
    let low : c.args.once ≤ 10 = omega (arith, once_ten c.args.x.row c.requires.row_lt_all.0, c.requires.row_lt_all.1.0) in
    record { spans = c.altid_at-f.ensures; k_le_singles = (low, rw c.requires.row_lt_all.1.0 c.requires.again_value); stored = c.requires.stored }

pub returns-in-Second : goal.returns-in-Second
returns-in-Second c =
    let a = c.args in
    let second : (instance c.instance_of-i.result).second ≡ true = ap (λ (x : Found). (instance x).second) c.in-Second.is in
    let w = stopped {added = added_at a.x.row a.c.seen (first_value altid_name a.s.now)} a.c a.store.now a.s.now c.unkept.result _ a.at _ c.unkept.ensures
    (told_second a.c a.store.now a.s.now a.once (first_value altid_name a.s.now) (instance c.instance_of-i.result) c.instance_of-i.ensures a.at a.x.row a.value.now
    c.requires.row_lt_all.1.0 second) in
    record { s_value = w.0; keeping = w.1 }

pub with_value-kept-requires : goal.with_value-kept-requires
with_value-kept-requires c =
    let low : c.args.once ≤ 10 = omega (arith, once_ten c.args.x.row c.requires.row_lt_all.0, c.requires.row_lt_all.1.0) in
    let told = c.instance_of-i.ensures in
    record { from_le_to = (told.order, omega (arith, told.order, told.inside, c.requires.stored.short)); k_nonzero = λ h. ((told.first h).1.0, low) }

pub enter-step-requires : goal.enter-step-requires
enter-step-requires c =
    let a = c.args in
    let stored = c.requires.stored in
    let n = takes_counts a.c a.store.now a.s.now a.once (first_value altid_name a.s.now) (instance c.instance_of-i.result) c.instance_of-i.ensures c.with_value-kept.result c.with_value-kept.ensures stored.lies stored.short in record { counted = rw (n.0, n.1) c.requires.counted; once_value = c.requires.row_lt_all.1; lies = takes_lies a.c a.store.now a.s.now a.once (first_value altid_name a.s.now) (instance c.instance_of-i.result) c.instance_of-i.ensures c.with_value-kept.result c.with_value-kept.ensures stored.lies stored.short }

-- what is to be shown of the octets between two places that are kept
abbrev Judged : Kept → List ℕ → List ℕ → KeptStep → ℕ → ℕ → List ℕ → ℕ → ℕ → Type 0
Judged c store l st row at v from to =
    (read_by (record { step = st; from = from; to = to }) store l ≡ entered (card_of c store) at row (first_value altid_name l) v)
    × Keeping c l (added_at row c.seen (first_value altid_name l)) (record { step = st; from = from; to = to })

pub returns-in-Opened : goal.returns-in-Opened
returns-in-Opened c =
    let a = c.args in
    let i = c.instance_of-i.result in
    let st = c.enter-step.result in
    let stored = c.requires.stored in
    let w = settled a.c a.store.now a.s.now a.once (first_value altid_name a.s.now) (instance i) c.instance_of-i.ensures a.at a.x.row a.value.now
    c.requires.row_lt_all.1.0 c.with_value-kept.result c.with_value-kept.ensures stored.lies stored.short stored.all (not_second i c.in_default.not-Second)
    st c.enter-step.ensures.by_index c.enter-step.ensures.holds in
    let t = subst (λ (x : Found). Judged a.c a.store.now a.s.now st a.x.row a.at a.value.now (instance x).from (instance x).to) c.in-Opened.is w in
    record { s_value = t.0; keeping = t.1 }

pub returns-in_default-i : goal.returns-in_default-i
returns-in_default-i c =
    let a = c.args in
    let i = c.instance_of-i.result in
    let st = c.enter-step.result in
    let stored = c.requires.stored in
    let w = settled a.c a.store.now a.s.now a.once (first_value altid_name a.s.now) (instance i) c.instance_of-i.ensures a.at a.x.row a.value.now
    c.requires.row_lt_all.1.0 c.with_value-kept.result c.with_value-kept.ensures stored.lies stored.short stored.all (not_second i c.in_default.not-Second)
    st c.enter-step.ensures.by_index c.enter-step.ensures.holds in
    let n = nothing_kept i c.in_default-i.not-Opened in
    let t = subst (λ (x : ℕ). Judged a.c a.store.now a.s.now st a.x.row a.at a.value.now x 0) n.0
    (subst (λ (x : ℕ). Judged a.c a.store.now a.s.now st a.x.row a.at a.value.now (instance i).from x) n.1 w) in
    rw c.unkept-in_default-i.ensures (record { s_value = t.0; keeping = t.1 })
