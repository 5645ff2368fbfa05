-- `replay::play` meets its contract. Assumes nothing.
use Prim.Native.Nat.{◌+◌, ◌*◌}
use mathlib.Core.Path.{◌≡◌, sym, ◌∙◌}
use mathlib.Core.Bool.{true}
use native.Mathlib.Omega.{arith}
use lib.Dec.{leb}
use lib.ListN.{length}
use Rattle.std.proofs.lemmas.Result.{err_from_is_err_and}
use Rattle.desk_slots.proofs.SoundLaws.{bounds_are}
use Rattle.replay.proofs.OutcomeLaws.{decodes, log_fits, played_broken, played_pool, played_short, played_ran}
use Rattle.replay.proofs.play.Goals as goal

pub returns-in_err-counted : goal.returns-in_err-counted
returns-in_err-counted c =
    let a = c.args in
    let p = err_from_is_err_and c.from_residual.result c.from_residual.ensures.1 in
    rw (p.1, p.2) (played_broken a.slots a.script.now a.pool.now a.log.now _ (sym c.in_err-counted.was ∙ c.count.ensures))

pub overflow_mul-slots : goal.overflow_mul-slots
overflow_mul-slots c =
    let g = bounds_are c.args.slots 1 c.requires.0 in omega (arith, g.1)

pub returns-then-size-slots : goal.returns-then-size-slots
returns-then-size-slots c =
    let a = c.args in
    let found = decodes a.script.now _ (sym c.in_ok-counted.was ∙ c.count.ensures) in
    played_pool a.slots a.script.now a.pool.now a.log.now _ _ found c.if-size-slots.true

pub returns-then-not-has_room : goal.returns-then-not-has_room
returns-then-not-has_room c =
    let a = c.args in
    let found = decodes a.script.now _ (sym c.in_ok-counted.was ∙ c.count.ensures) in
    played_short a.slots a.script.now a.pool.now a.log.now _ _ found c.if-size-slots.false (sym c.has_room.ensures ∙ c.if-not-has_room.true)

pub run_all-wrote-requires : goal.run_all-wrote-requires
run_all-wrote-requires c =
    let a = c.args in
    let found = decodes a.script.now _ (sym c.in_ok-counted.was ∙ c.count.ensures) in
    let roomy : leb (9 * c.in_ok-counted.counted.calls + 16380 * c.in_ok-counted.counted.shows) (length a.log.now) ≡ true = sym c.has_room.ensures ∙ c.if-not-has_room.false in
    record { script_value = found.scans; script_in_bounds = log_fits a.slots a.script.now a.pool.now a.log.now _ _ found roomy _ }

pub returns : goal.returns
returns c =
    let a = c.args in
    let found = decodes a.script.now _ (sym c.in_ok-counted.was ∙ c.count.ensures) in
    let roomy : leb (9 * c.in_ok-counted.counted.calls + 16380 * c.in_ok-counted.counted.shows) (length a.log.now) ≡ true = sym c.has_room.ensures ∙ c.if-not-has_room.false in
    let r = c.run_all-wrote in
    played_ran a.slots a.script.now a.pool.now a.log.now _ _ found a.desk c.requires.1 c.if-size-slots.false roomy r.result _ _ r.ensures.pool_after r.ensures.put
