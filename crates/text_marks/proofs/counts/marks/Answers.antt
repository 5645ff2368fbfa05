-- `text_marks::counts::marks` meets its contract. Assumes nothing.
use mathlib.Core.Path.{◌≡◌, ap, ◌∙◌}
use mathlib.Core.Bool.{Bool}
use native.Mathlib.Omega.{arith}
use borrow.Author.Rules.{rules}
use Rattle.octets.specs.Classes.{bit}
use Rattle.octets.proofs.BitLaws.{bit_le}
use Rattle.text_marks.specs.Marks.{marked}
use Rattle.text_marks.specs.Seen.{held}
use Rattle.text_marks.proofs.SeenLaws.{held_marked}
use Rattle.text_marks.proofs.counts.marks.Goals as goal

pub count_by-requires : goal.count_by-requires
count_by-requires c =
    record {
      callable = search rules;
      s_len_bound = c.requires;
      bits = λ b r h k. let e : r ≡ bit (held 59 10 b) 1 = search rules in omega (arith, bit_le (held 59 10 b));
    }

pub returns : goal.returns
returns c =
    (c.count_by.ensures.value marked (λ b r h k. let e : r ≡ bit (held 59 10 b) 1 = search rules in e ∙ ap (λ (t : Bool). bit t 1) (held_marked b)), c.count_by.ensures.bound)
