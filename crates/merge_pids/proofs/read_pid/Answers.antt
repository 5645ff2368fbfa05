-- `merge_pids::read_pid` meets its contract. Assumes nothing.
use mathlib.Core.Path.{◌≡◌, sym, ap, ◌∙◌}
use Prim.Native.Nat.{ℕ, ◌-◌, ◌+◌, ◌≤◌, ◌<◌}
use native.Mathlib.Omega.{arith}
use lib.ListN.{length, take, drop, length-take, length-drop, get_or-eq_default}
use lib.Seq.{take_all}
use Rattle.octets.specs.Classes.{run, digit}
use Rattle.merge_pids.specs.Numbers.{digits, pid}
use Rattle.std.specs.Prelude.{Some}
use Rattle.merge_pids.proofs.NumberLaws.{pid_none, pid_no_dot, pid_dot, after_none, after_more, after_all}
use Rattle.merge_pids.proofs.read_pid.Goals as goal

pub returns-then-dot-eq0 : goal.returns-then-dot-eq0
returns-then-dot-eq0 c =
    let d : c.digits_end-dot.result ≡ run digit c.args.s.now = omega (arith, c.digits_end-dot.ensures) in
    sym (pid_none c.args.s.now c.digits_end-dot.result d c.if-dot-eq0.true)

pub returns-then-s-dot : goal.returns-then-s-dot
returns-then-s-dot c =
    let d : c.digits_end-dot.result ≡ run digit c.args.s.now = omega (arith, c.digits_end-dot.ensures) in
    let z = get_or-eq_default c.args.s.now 0 c.if-s-dot.true in
    sym (pid_no_dot c.args.s.now c.digits_end-dot.result d c.if-dot-eq0.false (λ e. omega (arith, z, e)))

pub returns-then-s-dot-ne46 : goal.returns-then-s-dot-ne46
returns-then-s-dot-ne46 c =
    let d : c.digits_end-dot.result ≡ run digit c.args.s.now = omega (arith, c.digits_end-dot.ensures) in
    sym (pid_no_dot c.args.s.now c.digits_end-dot.result d c.if-dot-eq0.false c.if-s-dot-ne46.true)

pub returns-then-end-dot : goal.returns-then-end-dot
returns-then-end-dot c =
    let s = c.args.s.now in
    let k = c.digits_end-dot.result in
    let d : k ≡ run digit s = omega (arith, c.digits_end-dot.ensures) in
    let r : run digit (drop (k + 1) s) ≡ 0 = omega (arith, c.digits_end-end.ensures, c.if-end-dot.true) in
    sym (pid_dot s k d c.if-dot-eq0.false c.if-s-dot-ne46.false ∙ after_none (take k s) (drop (k + 1) s) r)

pub returns-then-end-s : goal.returns-then-end-s
returns-then-end-s c =
    let s = c.args.s.now in
    let k = c.digits_end-dot.result in
    let d : k ≡ run digit s = omega (arith, c.digits_end-dot.ensures) in
    let e : c.digits_end-end.result ≡ k + 1 + run digit (drop (k + 1) s) = c.digits_end-end.ensures in
    let less : c.digits_end-end.result < length s = c.if-end-s.true in
    let m : length (drop (k + 1) s) ≡ length s - (k + 1) = length-drop (k + 1) s in
    sym (pid_dot s k d c.if-dot-eq0.false c.if-s-dot-ne46.false ∙ after_more (take k s) (drop (k + 1) s) (λ z. c.if-end-dot.false (omega (arith, e, z))) (omega (arith, e, less, m)))

pub slice_bounds-read_number-end : goal.slice_bounds-read_number-end
slice_bounds-read_number-end c = simp length-take (omega (arith, c.if-s-dot.false))

pub returns : goal.returns
returns c =
    let s = c.args.s.now in
    let k = c.digits_end-dot.result in
    let d : k ≡ run digit s = omega (arith, c.digits_end-dot.ensures) in
    let e : c.digits_end-end.result ≡ k + 1 + run digit (drop (k + 1) s) = c.digits_end-end.ensures in
    let more : length s ≤ c.digits_end-end.result = c.if-end-s.false in
    let m : length (drop (k + 1) s) ≡ length s - (k + 1) = length-drop (k + 1) s in
    let whole : take (length s - (k + 1)) (drop (k + 1) s) ≡ drop (k + 1) s = take_all (length s - (k + 1)) (drop (k + 1) s) (omega (arith, m)) in
    let a : c.read_number.result ≡ digits 0 (take k s) = c.read_number.ensures.value in
    let b : c.read_number-2.result ≡ digits 0 (drop (k + 1) s) = c.read_number-2.ensures.value ∙ ap (digits 0) whole in
    sym (pid_dot s k d c.if-dot-eq0.false c.if-s-dot-ne46.false ∙ after_all (take k s) (drop (k + 1) s) (λ z. c.if-end-dot.false (omega (arith, e, z))) (omega (arith, e, more, m)) ∙ ap (λ (n : ℕ). Some (pid n (digits 0 (drop (k + 1) s)))) (sym a) ∙ ap (λ (n : ℕ). Some (pid c.read_number.result n)) (sym b))
