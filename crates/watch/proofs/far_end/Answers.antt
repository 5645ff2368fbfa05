-- `watch::far_end` meets its contract. Assumes nothing.
use mathlib.Core.Path.{subst}
use native.Mathlib.Omega.{arith}
use lib.Seq.{take_all}
use Rattle.card_state.specs.Kept.{places_of, Inside}
use Rattle.watch.proofs.SoundLaws.{inside_more, inside_at}
use Rattle.watch.proofs.far_end.Goals as goal

pub loop-place-init : goal.loop-place-init
unfolding Inside
loop-place-init c = (λ n l. tt, λ n l. omega arith)

pub loop-place-preserved : goal.loop-place-preserved
unfolding places_of
loop-place-preserved c =
    let l = c.loop-place in
    let ps = places_of c.args.t in
    let i = l.place-index in (
      λ n h. inside_more n ps i c.loop-place-test.true (l.invariant.0 n (omega (arith, c.max-far.ensures))) (omega (arith, c.max-far.ensures, c.end_of.ensures)),
      λ n r. omega (arith, c.max-far.ensures, c.end_of.ensures, l.invariant.1 n r, inside_at n ps i c.loop-place-test.true r),
    )

pub returns : goal.returns
unfolding places_of
returns c =
    let l = c.loop-place in
    let ps = places_of c.args.t in
    (λ n h. subst (Inside n) (take_all l.place-index ps c.loop-place-test.false) (l.invariant.0 n h), l.invariant.1)
