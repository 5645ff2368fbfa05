-- `label_marks::count_marks` meets its contract. Assumes nothing.
use mathlib.Core.Path.{◌≡◌}
use native.Mathlib.Omega.{arith}
use borrow.Author.Rules.{rules}
use Rattle.octets.specs.Classes.{bit}
use Rattle.octets.proofs.BitLaws.{bit_le}
use Rattle.label_marks.specs.Seen.{mark}
use Rattle.label_marks.proofs.count_marks.Goals as goal

pub count_by-requires : goal.count_by-requires
count_by-requires c =
    let p = mark c.args.x c.args.y in
    record {
      callable = search rules;
      s_len_bound = c.requires;
      bits = λ b r h k. let e : r ≡ bit (mark c.args.x c.args.y b) 1 = search rules in omega (arith, bit_le (mark c.args.x c.args.y b));
    }

pub returns : goal.returns
returns c = (c.count_by.ensures.value (mark c.args.x c.args.y) (λ b r h k. search rules), c.count_by.ensures.bound)
