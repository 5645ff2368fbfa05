-- What measuring a text with escapes answers. Assumes nothing.
use Rattle.std.specs.Prelude.{ℕ, List, Result, Ok, Err, ltb, length}
use Rattle.octets.specs.Pick.{pick}
use Rattle.text_unescaping.specs.Unescaped.{first_fault, unescaped}

-- how many octets the text stands for, or the place of its first fault
unfoldable pub measured : List ℕ → Result ℕ ℕ
measured t = pick (ltb (first_fault t) (length t)) (Err (first_fault t)) (Ok (length (unescaped t)))
