-- The outcomes of escape and unescape, by REFERENCE, Escaping: refusals 1, 31, 16, 15 and 1, 31, 30, 15, each over the whole text before the
-- next. Assumes nothing.
use Rattle.std.specs.Prelude.{ℕ, Bool, true, false, List, ltb, length}
use Rattle.numbers.specs.Limits as limit
use Rattle.numbers.specs.Refusals as refusal
use Rattle.octets.specs.Pick.{pick}
use Rattle.octets.specs.Room.{Filled, refuse, fill, fill_bounded}
use Rattle.utf8.specs.Characters.{allowed, first_bad}
use Rattle.text_escaping.specs.Escaped.{escaped}
use Rattle.text_unescaping.specs.Unescaped.{first_fault, unescaped}

-- 1 over 16,384 octets, then 31 where an octet is not allowed or starts no character, then the outcome that is left
unfoldable pub checked : (ℕ → Bool) → List ℕ → List ℕ → Filled → Filled
checked p t room left =
    pick (ltb limit.octets (length t)) (refuse refusal.too_long limit.octets room)
    (pick (ltb (first_bad p t) (length t)) (refuse refusal.text_octet (first_bad p t) room) left)

-- 30 at the first bare comma or backslash of no escape, then the outcome that is left
unfoldable pub faultless : List ℕ → List ℕ → Filled → Filled
faultless t room left = pick (ltb (first_fault t) (length t)) (refuse refusal.escape (first_fault t) room) left

unfoldable pub escape_outcome : List ℕ → List ℕ → Filled
escape_outcome t room = checked (allowed true) t room (fill_bounded (escaped t) room)

unfoldable pub unescape_outcome : List ℕ → List ℕ → Filled
unescape_outcome t room = checked (allowed false) t room (faultless t room (fill (unescaped t) room))
