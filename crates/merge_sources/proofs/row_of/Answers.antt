-- `merge_sources::row_of` meets its contract: each turn fills one more place, and sixteen filled places are the row. Assumes nothing.
use Rattle.std.proofs.Common.{◌≡◌, [], ◌+◌, get_or, ℕ, length, List, arith, refl, ap, add-one}
use Rattle.merge_sources.specs.Row.{none, put, filled, entries_from, row_of}
use Rattle.merge_sources.specs.declared.Source.{Source}
use Rattle.merge_sources.proofs.row_of.Goals as goal

next_filled : (n : ℕ) (ys : List Source) (i : ℕ) → put (filled n ys i) i (get_or ys i none) ≡ filled n ys (i + 1)
unfolding filled
next_filled n ys i = rw add-one

all_filled : (ys : List Source) → filled (length ys) ys 16 ≡ row_of ys
unfolding filled put entries_from row_of
all_filled ys = refl

none_filled : (n : ℕ) (ys : List Source) → filled n [] 0 ≡ filled n ys 0
unfolding filled
none_filled n ys = refl

pub loop-i-init : goal.loop-i-init
loop-i-init c = rw (none_filled _ c.args.m.now) at c.empty-r.ensures

pub loop-i-preserved : goal.loop-i-preserved
loop-i-preserved c = let e = next_filled (length c.args.m.now) c.args.m.now c.loop-i.i in cc

pub returns : goal.returns
returns c = let e : c.loop-i.i ≡ 16 = omega arith in let a = all_filled c.args.m.now in let b = ap (filled (length c.args.m.now) c.args.m.now) e in cc
