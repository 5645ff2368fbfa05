-- The outcomes of encode and decode under a rule, by REFERENCE, Labels: refusals 1, 31, 44, 16, 15 and 1, 31, 15, each over the whole before the
-- next. Assumes nothing.
use Rattle.std.specs.Prelude.{ℕ, Bool, true, not, ◌||◌, List, Option, Some, None, ltb, eqb, length}
use Rattle.numbers.specs.Refusals as refusal
use Rattle.octets.specs.Ascii as ascii
use Rattle.octets.specs.Pick.{pick}
use Rattle.octets.specs.Classes.{quoted, run}
use Rattle.octets.specs.Room.{Filled, refuse, fill, fill_bounded}
use Rattle.utf8.specs.Characters.{allowed}
use Rattle.text.specs.Outcomes.{checked}
use Rattle.label_carets.specs.Encoded.{encoded}
use Rattle.label_carets.specs.Decoded.{decoded}
use Rattle.label_carets.specs.declared.Rule.{Rule}
use Rattle.label_carets.specs.declared.Rule.TheVariants.{Rfc6350, Rfc6868}

-- neither a newline nor a quote mark
unfoldable pub writable : ℕ → Bool
writable b = not (eqb b ascii.lf || eqb b ascii.quote)

-- the place of the first octet that RFC 6350 can't write
unfoldable pub unwritable : List ℕ → Option ℕ
unwritable t = pick (ltb (run writable t) (length t)) (Some (run writable t)) None

-- 44 at the first octet that RFC 6350 can't write, then the outcome that is left; RFC 6868 writes all
abbrev pub sayable : Rule → List ℕ → List ℕ → Filled → Filled
sayable Rfc6350 t room left = pick (ltb (run writable t) (length t)) (refuse refusal.no_label (run writable t) room) left
sayable Rfc6868 t room left = left

-- a value is what escaping takes
unfoldable pub encode_outcome : Rule → List ℕ → List ℕ → Filled
encode_outcome r t room = checked (allowed true) t room (sayable r t room (fill_bounded (encoded r t) room))

-- a label is what may stand between quote marks
unfoldable pub decode_outcome : Rule → List ℕ → List ℕ → Filled
decode_outcome r t room = checked quoted t room (fill (decoded r t) room)
