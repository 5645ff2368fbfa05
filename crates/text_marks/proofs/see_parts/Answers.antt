-- `text_marks::see_parts` meets its contract. Assumes nothing.
use Rattle.text_marks.proofs.SeenLaws.{seen_parts}
use Rattle.text_marks.proofs.see_parts.Goals as goal

pub returns : goal.returns
returns g c = λ p q h.
    let a = c.args in
    seen_parts p q a.s.now a.end a.from c.see_each.result c.see_each-2.result c.requires.from_le_end (c.see_each.ensures p q h) (c.see_each-2.ensures p q h)
