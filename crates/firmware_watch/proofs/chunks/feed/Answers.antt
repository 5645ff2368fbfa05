-- `firmware_watch::chunks::feed` meets its contract. Assumes nothing.
use mathlib.Core.Path.{◌≡◌, sym, ap, subst, ◌∙◌}
use mathlib.Core.List.{List, [], ◌++◌}
use Prim.Native.Nat.{ℕ, ◌+◌, ◌-◌, ◌≤◌}
use native.Mathlib.Omega.{arith}
use lib.ListN.{length, take, drop}
use lib.Seq.{take-add, take-length}
use Rattle.watch.specs.State.{fresh_watch, Stands, After, Reached}
use Rattle.watch.specs.Outcome.{ChunkOf}
use Rattle.watch.specs.declared.Watch.{Watch}
use Rattle.watch.specs.declared.Arrived.{Arrived}
use Rattle.watch.specs.declared.Arrived.TheVariants.{Next as goes_on}
use Rattle.watch.proofs.ReachLaws.{fresh_stands}
use Rattle.firmware_watch.proofs.chunks.feed.Goals as goal

-- a chunk moves from the octets up to `at` to those up to `to`
moved : (w v : Watch) (b d i : List ℕ) (at to : ℕ) (r : Arrived) → Reached w b (take at i) → length b ≡ 16384 → ChunkOf w b (take (to - at) (drop at i)) r d → r ≡ goes_on v → at ≤ to
    → Reached v d (take to i)
moved w v b d i at to r reached full k e h =
    let x = k.led (take at i) reached full in
    let same : x.0 ≡ v = next_same (sym x.1.0 ∙ e) in
    let m : at + (to - at) ≡ to = omega arith in
    let all : take at i ++ take (to - at) (drop at i) ≡ take to i = sym (take-add at (to - at) i) ∙ ap (λ (n : ℕ). take n i) m in
    let after = subst (λ (y : Watch). After y d (take to i)) same (subst (After x.0 d) all x.1.1) in
    record { stands = after.stands; holds = λ p. after.holds }
  where
    next_same : {a c : Watch} → goes_on a ≡ goes_on c → a ≡ c
    next_same q = cc

-- a chunk of a state that was handed on is not refused
taken : (w : Watch) (b d i x : List ℕ) (r : Arrived) → Reached w b i → length b ≡ 16384 → ChunkOf w b x r d → ((v : Watch) → r ≡ goes_on v → ⊥) → ⊥
taken w b d i x r reached full k h = h (k.led i reached full).0 (k.led i reached full).1.0

fresh_reached : (w : Watch) (b : List ℕ) → w ≡ fresh_watch → Reached w b []
fresh_reached w b e = record { stands = subst (λ (x : Watch). Stands x b []) (sym e) (fresh_stands b); holds = λ h. absurd (omega arith) }

pub loop-at-init : goal.loop-at-init
loop-at-init c = (omega arith, c.requires, fresh_reached c.new-w.result c.args.buffer.now c.new-w.ensures)

pub returns-in_default : goal.returns-in_default
returns-in_default c =
    let l = c.loop-at in
    let k = c.chunk-a in
    absurd (taken l.w l.buffer k.new.buffer (take l.at c.args.input.now) _ k.result l.invariant.2 l.invariant.1 k.ensures c.in_default.not-Next)

pub loop-at-preserved : goal.loop-at-preserved
loop-at-preserved c =
    let l = c.loop-at in
    let k = c.chunk-a in
    let e = c.chunk_end-end in (
      e.ensures.1,
      omega (arith, k, l.invariant.1),
      moved l.w c.in-Next.v l.buffer k.new.buffer c.args.input.now l.at e.result k.result l.invariant.2 l.invariant.1 k.ensures c.in-Next.is (omega (arith, e.ensures.0)),
    )

pub returns : goal.returns
returns c =
    let l = c.loop-at in
    let n : l.at ≡ length c.args.input.now = omega (arith, l.invariant.0, c.loop-at-test.false) in
    subst (Reached l.w l.buffer) (ap (λ (m : ℕ). take m c.args.input.now) n ∙ take-length c.args.input.now) l.invariant.2
