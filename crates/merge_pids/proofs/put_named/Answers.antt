-- `merge_pids::put_named` meets its contract. Assumes nothing.
use borrow.Author.Tests.{not-true, not-false}
use mathlib.Core.Path.{◌≡◌, sym, ◌∙◌}
use mathlib.Core.Bool.{true, false}
use Prim.Native.Nat.{◌-◌}
use lib.ListN.{take, drop}
use Rattle.octets.specs.Ascii.{octets}
use Rattle.octets.specs.Cases.{same}
use Rattle.merge_pids.specs.Marks.{put_all, named_marks, pid_name}
use Rattle.merge_pids.proofs.put_named.Goals as goal

pub slice_bounds-same_name-count : goal.slice_bounds-same_name-count
slice_bounds-same_name-count c = c.requires.start_le_name_end.0

pub slice_bounds-same_name-start : goal.slice_bounds-same_name-start
slice_bounds-same_name-start c = c.requires.start_le_name_end.0

pub slice_bounds-same_name-end : goal.slice_bounds-same_name-end
slice_bounds-same_name-end c = c.requires.start_le_name_end.1

pub returns-then-not-same_name : goal.returns-then-not-same_name
unfolding octets put_all named_marks
returns-then-not-same_name c =
    let a = c.args in
    let e : same (take (a.name_end - a.start) (drop a.start a.s.now)) pid_name ≡ false = sym c.same_name.ensures ∙ c.if-not-same_name.true in
    rw e

pub put_values-requires : goal.put_values-requires
put_values-requires c = c.requires.classes

pub returns : goal.returns
unfolding octets named_marks
returns c =
    let a = c.args in
    let e : same (take (a.name_end - a.start) (drop a.start a.s.now)) pid_name ≡ true = sym c.same_name.ensures ∙ c.if-not-same_name.false in
    rw e c.put_values.ensures
