-- `watch_lines::settle_either` meets its contract. Assumes nothing.
use mathlib.Core.Path.{◌≡◌, sym, ap, subst}
use mathlib.Core.Bool.{Bool}
use mathlib.Core.List.{List}
use Prim.Native.Nat.{ℕ, ◌+◌, ◌≤◌}
use lib.ListN.{length}
use Rattle.octets.specs.Pick.{pick}
use Rattle.card_state.specs.Kept.{step_of}
use Rattle.card_state.specs.Kept.{KeptStep}
use Rattle.reader_walk.specs.Walk.{settled}
use Rattle.watch_lines.proofs.settle_either.Goals as goal

abbrev Says : ℕ → KeptStep → KeptStep → List ℕ → Type 0
Says at step r x = (store : List ℕ) → step_of store r ≡ settled at x (step_of store step)

pub settle-requires : goal.settle-requires
settle-requires c =
    let a = c.args in
    subst (λ (x : List ℕ). a.at + length x ≤ 16384) (ap (λ (f : Bool). pick f a.line.now a.other.now) c.if-first.true) c.requires

pub returns-then-first : goal.returns-then-first
returns-then-first c =
    let a = c.args in
    subst (Says a.at a.step c.settle.result) (sym (ap (λ (f : Bool). pick f a.line.now a.other.now) c.if-first.true)) c.settle.ensures

pub settle-requires-2 : goal.settle-requires-2
settle-requires-2 c =
    let a = c.args in
    subst (λ (x : List ℕ). a.at + length x ≤ 16384) (ap (λ (f : Bool). pick f a.line.now a.other.now) c.if-first.false) c.requires

pub returns : goal.returns
returns c =
    let a = c.args in
    subst (Says a.at a.step c.settle-2.result) (sym (ap (λ (f : Bool). pick f a.line.now a.other.now) c.if-first.false)) c.settle-2.ensures
