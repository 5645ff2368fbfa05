-- `text::escape_each` meets its contract. Assumes nothing.
use mathlib.Core.Path.{sym, ap, ◌∙◌}
use mathlib.Core.List.{List}
use Prim.Native.Nat.{ℕ, ◌+◌}
use lib.ListN.{length}
use Rattle.octets.specs.Room.{fill_bounded}
use Rattle.text_escaping.proofs.LengthLaws.{escaped_length}
use Rattle.text_escaping.proofs.CodedLaws.{coded_escaped}
use Rattle.text.proofs.escape_each.Goals as goal

pub put_coded-requires : goal.put_coded-requires
put_coded-requires c =
    let t = c.args.text.now in
    let l = c.letters in
    let k = c.marks-pairs in
    record {
      text_len_bound = c.requires;
      pairs_counted = ap (λ (n : ℕ). length t + n) k.ensures.0 ∙ sym (ap length (coded_escaped l.result l.ensures t) ∙ escaped_length t);
      pairs_bound = k.ensures.1;
    }

pub returns : goal.returns
returns c =
    let l = c.letters in
    c.put_coded.ensures ∙ ap (λ (x : List ℕ). fill_bounded x c.args.out.now) (coded_escaped l.result l.ensures c.args.text.now)
