-- `reader_walk::keeping::unfold_behind` meets its contract. Assumes nothing.
use mathlib.Core.Path.{ap, ◌∙◌}
use mathlib.Core.List.{◌++◌}
use Prim.Native.Nat.{ℕ, ◌-◌}
use native.Mathlib.Omega.{arith}
use lib.ListN.{length, take, drop}
use Rattle.line_folds.specs.Folds.{unfolded}
use Rattle.reader_walk.proofs.ScratchLaws.{put_behind}
use Rattle.reader_walk.proofs.keeping.unfold_behind.Goals as goal

pub returns : goal.returns
returns c =
    let a = c.args in
    let u = c.unfold in
    let room = take (length a.scratch.now - a.used) (drop a.used a.scratch.now) in record {
      value = u.ensures.0;
      scratch_after = (put_behind a.scratch.now (unfolded a.s.now) u.new.d a.used (omega arith)
          (u.ensures.1 ∙ ap (λ (n : ℕ). unfolded a.s.now ++ drop n room) u.ensures.0));
    }
