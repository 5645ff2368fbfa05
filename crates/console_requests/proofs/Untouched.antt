-- A line that is no request leaves the room as it was. Assumes nothing.
use mathlib.Core.Path.{◌≡◌, refl}
use mathlib.Core.Bool.{Bool, true, false}
use mathlib.Core.List.{List, []}
use Prim.Native.Nat.{ℕ, ◌+◌, ◌-◌}
use native.Mathlib.Omega.{arith}
use lib.Dec.{ltb, eqb}
use lib.ListN.{length}
use Rattle.std.specs.Prelude.{Option, Some, None}
use Rattle.octets.specs.Pick.{pick}
use Rattle.octets.specs.Ascii.{octets}
use Rattle.console_words.specs.Words.{words_of, word_at}
use Rattle.program_numbers.specs.Alike.{alike}
use Rattle.program_numbers.specs.Hex.{Taken, taken, stored, decoded, paired, octets_of}
use Rattle.console_requests.specs.Names.{Row, row_of}
use Rattle.console_requests.specs.Requests.{number_at, octets_at, make_request, whole, read_named, request_of}
use Rattle.console_requests.specs.declared.Name.{Name}

-- bad octets leave the room as it was
short_room : (t : Bool) (xs room out : List ℕ) → (pick t (taken None room) (taken (Some (length xs)) out)).answer ≡ None
    → (pick t (taken None room) (taken (Some (length xs)) out)).room ≡ room
short_room true xs room out e = refl
short_room false xs room out e = let z : ◌≡◌ {A = ℕ} 0 1 = cc in absurd (omega arith)

stored_room : (xs room : List ℕ) → (stored xs room).answer ≡ None → (stored xs room).room ≡ room
unfolding stored
stored_room xs room e = short_room (ltb (length room) (length xs)) xs room _ e

picked_room : (s t : Bool) (xs ys room : List ℕ)
    → (pick s (stored xs room) (pick t (stored ys room) (taken None room))).answer ≡ None
    → (pick s (stored xs room) (pick t (stored ys room) (taken None room))).room ≡ room
picked_room true t xs ys room e = stored_room xs room e
picked_room false true xs ys room e = stored_room ys room e
picked_room false false xs ys room e = refl

pub octets_room : (w room : List ℕ) → (octets_of w room).answer ≡ None → (octets_of w room).room ≡ room
unfolding octets_of
octets_room w room e = picked_room (alike w (octets "-")) (paired w) [] (decoded w) room e

last_room : (t : Bool) (w room : List ℕ) → (pick t (taken (Some 0) room) (octets_of w room)).answer ≡ None
    → (pick t (taken (Some 0) room) (octets_of w room)).room ≡ room
last_room true w room e = refl
last_room false w room e = octets_room w room e

at_room : (w : List ℕ) (o : ℕ) (room : List ℕ) → (octets_at w o room).answer ≡ None → (octets_at w o room).room ≡ room
unfolding octets_at
at_room w o room e = last_room (eqb o 0) w room e

counted_room : (n : Name) (a b c : ℕ) (x : Option ℕ) (out room : List ℕ) → (x ≡ None → out ≡ room) → make_request n a b c x ≡ None → out ≡ room
counted_room n a b c (Some k) out room f e = cc
counted_room n a b c None out room f e = f refl

whole_room : (n : Name) (a b c : Option ℕ) (t : Taken) (room : List ℕ) → (t.answer ≡ None → t.room ≡ room)
    → (whole n a b c t room).request ≡ None → (whole n a b c t room).room ≡ room
whole_room n (Some a) (Some b) (Some c) t room f e = counted_room n a b c t.answer t.room room f e
whole_room n (Some a) (Some b) None t room f e = refl
whole_room n (Some a) None c t room f e = refl
whole_room n None b c t room f e = refl

named_room : (r : Option Row) (line room : List ℕ) → (read_named r line room).request ≡ None → (read_named r line room).room ≡ room
named_room None line room e = refl
named_room (Some r) line room e =
    let w = word_at line (r.numbers + 1) in
    whole_room r.name (number_at (word_at line 1) 1 r.numbers) (number_at (word_at line 2) 2 r.numbers) (number_at (word_at line 3) 3 r.numbers) (octets_at w r.octets room) room (at_room w r.octets room) e

-- a line that is no request leaves the room as it was
pub bad_untouched : (line room : List ℕ) → (request_of line room).request ≡ None → (request_of line room).room ≡ room
unfolding request_of
bad_untouched line room e = named_room (row_of (word_at line 0) (length (words_of line) - 1)) line room e
