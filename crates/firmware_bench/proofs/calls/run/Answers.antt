-- `firmware_bench::calls::run` meets its contract. Assumes nothing.
use mathlib.Core.Path.{◌≡◌, refl, sym, ap, ◌∙◌}
use mathlib.Core.List.{List}
use Prim.Native.Nat.{ℕ, suc, ◌+◌, ◌-◌, ◌<◌, ◌≤◌}
use native.Mathlib.Omega.{arith}
use native.Mathlib.Numerals.{unary_clauses}
use Rattle.desk.specs.Steps.{Turned}
use Rattle.firmware_bench.specs.Calls.{next_ticket, call_step, run}
use Rattle.firmware_bench.proofs.calls.run.Goals as goal

-- a call moves one turn on
turn_on : (q : List ℕ) (kind last t t' n i : ℕ) (s s' : Turned) → i < n → s' ≡ call_step s.desk s.pool q kind t → t' ≡ next_ticket t last
    → run q kind last t' (n - (i + 1)) s' ≡ run q kind last t (n - i) s
unfolding run
turn_on q kind last t t' n i s s' h e f =
    let k : n - i ≡ suc (n - (i + 1)) = omega arith in
    ap (λ (u : ℕ). run q kind last u (n - (i + 1)) s') f ∙ ap (run q kind last (next_ticket t last) (n - (i + 1))) e ∙ ap (λ (m : ℕ). run q kind last t m s) (sym k)

turns_end : (q : List ℕ) (kind last t n i : ℕ) (s : Turned) → n ≤ i → run q kind last t (n - i) s ≡ s
unfolding run
turns_end q kind last t n i s h =
    let k : n - i ≡ 0 = omega arith in
    ap (λ (m : ℕ). run q kind last t m s) k

pub loop-init : goal.loop-init
loop-init c = simp unary_clauses refl

pub loop-preserved : goal.loop-preserved
loop-preserved c =
    let l = c.loop in
    turn_on _ _ _ _ _ _ l.counter _ _ (omega arith) c.call-turn.ensures c.next_ticket-t.ensures ∙ l.invariant

pub returns : goal.returns
returns c =
    let l = c.loop in
    sym (turns_end _ _ _ _ _ _ _ c.loop-test.false) ∙ l.invariant
