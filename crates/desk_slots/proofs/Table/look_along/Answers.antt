-- `desk_slots::Table::look_along` meets its contract. Assumes nothing.
use mathlib.Core.Path.{◌≡◌, sym, ◌∙◌}
use mathlib.Core.Bool.{true}
use native.Mathlib.Omega.{arith}
use borrow.Author.Tests.{not-true, not-false}
use Rattle.desk_slots.specs.Sound.{bounds}
use Rattle.desk_slots.proofs.LookLaws.{looked_none, looked_free, looked_open, looked_unfit, looked_ahead, looked_repeated, looked_all, looked_unsound, unbounded}
use Rattle.desk_slots.proofs.Table.look_along.Goals as goal

pub returns-then-not-in_bounds : goal.returns-then-not-in_bounds
returns-then-not-in_bounds c =
    let a = c.args in
    looked_unsound a.self.now.entries a.self.now.slots a.self.now.next a.self.now.stamps a.self.now.tick a.t (unbounded a.self.now.entries a.self.now.slots a.self.now.next a.self.now.stamps a.self.now.tick (sym c.in_bounds.ensures ∙ not-true _ c.if-not-in_bounds.true-raw))

pub loop-i-init : goal.loop-i-init
loop-i-init c = looked_none _ _ _ _ _ _

pub loop-i-preserved-in_default : goal.loop-i-preserved-in_default
loop-i-preserved-in_default c =
    let a = c.args in
    let l = c.loop-i in
    looked_free a.self.now.entries a.self.now.slots a.self.now.next a.self.now.stamps a.self.now.tick a.t l.ts l.highest l.found l.run l.i l.invariant (omega arith) c.in_default.is

pub returns-then-not-fits : goal.returns-then-not-fits
returns-then-not-fits c =
    let a = c.args in
    let l = c.loop-i in
    looked_unsound a.self.now.entries a.self.now.slots a.self.now.next a.self.now.stamps a.self.now.tick a.t (looked_unfit a.self.now.entries a.self.now.slots a.self.now.next a.self.now.stamps a.self.now.tick a.t l.ts l.highest l.found l.run l.i l.invariant (omega arith) (sym c.fits.ensures ∙ not-true _ c.if-not-fits.true-raw))

pub returns-then-self-i : goal.returns-then-self-i
returns-then-self-i c =
    let a = c.args in
    let l = c.loop-i in
    let s = c.in-Open in
    looked_unsound a.self.now.entries a.self.now.slots a.self.now.next a.self.now.stamps a.self.now.tick a.t (looked_ahead a.self.now.entries a.self.now.slots a.self.now.next a.self.now.stamps a.self.now.tick a.t l.ts l.highest l.found l.run l.i l.invariant (omega arith) s.session s.is (sym c.fits.ensures ∙ not-false _ c.if-not-fits.false-raw) c.if-self-i.true)

pub repeats-requires : goal.repeats-requires
repeats-requires c = (omega arith, c.loop-i.invariant.most)

pub returns-then-repeats : goal.returns-then-repeats
returns-then-repeats c =
    let a = c.args in
    let l = c.loop-i in
    let s = c.in-Open in
    looked_unsound a.self.now.entries a.self.now.slots a.self.now.next a.self.now.stamps a.self.now.tick a.t (looked_repeated a.self.now.entries a.self.now.slots a.self.now.next a.self.now.stamps a.self.now.tick a.t l.ts l.highest l.found l.run l.i l.invariant (omega arith) s.session s.is (sym c.fits.ensures ∙ not-false _ c.if-not-fits.false-raw) (sym c.repeats.ensures ∙ c.if-repeats.true))

pub loop-i-preserved : goal.loop-i-preserved
loop-i-preserved c =
    let a = c.args in
    let l = c.loop-i in
    let s = c.in-Open in
    let g = looked_open a.self.now.entries a.self.now.slots a.self.now.next a.self.now.stamps a.self.now.tick a.t l.ts l.highest l.found l.run l.i l.invariant (omega arith) s.session s.is (sym c.fits.ensures ∙ not-false _ c.if-not-fits.false-raw) c.if-self-i.false (sym c.repeats.ensures ∙ c.if-repeats.false) in
    rw (c.higher-highest.ensures, c.met-found.ensures, c.longer-run.ensures) g

pub returns : goal.returns
returns c =
    let a = c.args in
    let l = c.loop-i in
    let b : bounds a.self.now.slots a.self.now.next ≡ true = sym c.in_bounds.ensures ∙ not-false _ c.if-not-in_bounds.false-raw in
    looked_all a.self.now.entries a.self.now.slots a.self.now.next a.self.now.stamps a.self.now.tick a.t l.ts l.highest l.found l.run l.i b (omega arith) l.invariant
