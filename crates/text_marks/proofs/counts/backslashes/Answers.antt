-- `text_marks::counts::backslashes` meets its contract. Assumes nothing.
use mathlib.Core.Path.{◌≡◌, ◌∙◌}
use native.Mathlib.Omega.{arith}
use borrow.Author.Rules.{rules}
use Rattle.octets.proofs.BitLaws.{bit_le, byte_bit}
use mir.Val.{bool_byte}
use Rattle.text_marks.specs.Marks.{backslash}
use Rattle.text_marks.proofs.counts.backslashes.Goals as goal

pub count_by-requires : goal.count_by-requires
count_by-requires c =
    record {
      callable = search rules;
      s_len_bound = c.requires;
      bits = λ b r h k. let e : r ≡ bool_byte (backslash b) = search rules in omega (arith, bit_le (backslash b), byte_bit (backslash b));
    }

pub returns : goal.returns
returns c = (c.count_by.ensures.value backslash (λ b r h k. let e : r ≡ bool_byte (backslash b) = search rules in e ∙ byte_bit (backslash b)), c.count_by.ensures.bound)
