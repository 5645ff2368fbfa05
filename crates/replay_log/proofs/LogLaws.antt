-- Answers in a log: how long each is, and what the log holds when one is written. Assumes nothing.
use Prim.Native.Nat.{ℕ, ◌+◌, ◌*◌, ◌≤◌}
use mathlib.Core.Path.{◌≡◌, refl, sym, ap, ◌∙◌}
use mathlib.Core.List.{List, [], ◌∷◌, ◌++◌, append_assoc}
use native.Mathlib.Nat.{zero-add}
use native.Mathlib.Omega.{arith}
use lib.ListN.{length, drop, set, length-append}
use lib.Seq.{take-append_seam, drop-append_seam, drop-drop, sets, sets-eq}
use Rattle.octets.specs.Room.{overlay}
use Rattle.reader.specs.Outcome.{Verdict}
use Rattle.reader.specs.Outcome.{Accepted, Refused as Unread}
use Rattle.desk_pool.specs.Pools.{patch}
use Rattle.desk.specs.Answer.{Answer}
use Rattle.desk.specs.Answer.{Done, Refused}
use Rattle.desk_ledger.specs.Ledger.{refused, told, counts, part, verdict}
use Rattle.desk_ledger.specs.Ticks.{judging, showing, counting, releasing, Ticked, opens_at, adds_at, asks_of}
use Rattle.desk_ledger.specs.Desks.{said}
use Rattle.replay_script.specs.Numerals.{two_octets, four_octets}
use Rattle.replay_script.specs.Counts.{shows, shown}
use Rattle.replay_log.specs.Logs.{entry, call_room, room_for}

-- ---- lengths

pub one_length : (name n : ℕ) → length (name ∷ four_octets n) ≡ 5
unfolding two_octets four_octets
one_length name n = refl

pub two_length : (name n m : ℕ) → length (name ∷ four_octets n ++ four_octets m) ≡ 9
unfolding two_octets four_octets
two_length name n m = refl

pub told_length : (n : ℕ) → length (entry (told n)) ≡ 5
unfolding entry
told_length n = one_length 1 n

pub refused_length : (n p : ℕ) → length (entry (refused n p)) ≡ 9
unfolding entry
refused_length n p = two_length 0 n p

pub counts_length : (k n : ℕ) → length (entry (counts k n)) ≡ 9
unfolding entry
counts_length k n = two_length 2 k n

pub part_length : (o : List ℕ) → length (entry (part o)) ≡ 5 + length o
unfolding entry two_octets four_octets
part_length o = omega arith

pub said_room : (a : Answer) → length (entry (said a)) ≤ 9
said_room (Done n) = omega (arith, told_length n)
said_room (Refused n p) = omega (arith, refused_length n p)

pub verdict_room : (v : Verdict) → length (entry (verdict v)) ≤ 9
verdict_room (Accepted k n) = omega (arith, counts_length k n)
verdict_room (Unread n p) = omega (arith, refused_length n p)

-- ---- octets stored at the start of a log

overlaid : (xs d : List ℕ) → length xs ≤ length d → sets d 0 xs ≡ overlay xs d
overlaid xs d h = sets-eq xs d 0 (rw zero-add h) ∙ ap (λ (k : ℕ). xs ++ drop k d) (zero-add (length xs))

pub put_one_is : (d : List ℕ) (name n : ℕ) → 5 ≤ length d → sets (set d 0 name) 1 (four_octets n) ≡ overlay (name ∷ four_octets n) d
put_one_is d name n h = overlaid (name ∷ four_octets n) d (rw (one_length name n) h)

pub put_two_is : (d : List ℕ) (name n m : ℕ) → 9 ≤ length d
    → sets (sets (set d 0 name) 1 (four_octets n)) 5 (four_octets m) ≡ overlay (name ∷ four_octets n ++ four_octets m) d
unfolding two_octets four_octets
put_two_is d name n m h = overlaid (name ∷ four_octets n ++ four_octets m) d (rw (two_length name n m) h)

-- o behind x
pub put_behind : (d x o : List ℕ) (n : ℕ) → n ≡ length x → patch (overlay x d) n o ≡ overlay (x ++ o) d
unfolding patch
put_behind d x o n e =
    rw (e, take-append_seam x (drop (length x) d), drop-append_seam x (drop (length x) d), drop-drop (length o) (length x) d, length-append x o)
    (sym (append_assoc x o (drop (length x + length o) d)))

-- ---- room for the answers to calls

call_room_lem : (c : Ticked) → call_room c ≡ 9 + 16380 * shows c
call_room_lem (opens_at m τ) = refl
call_room_lem (adds_at t q τ) = refl
call_room_lem (asks_of t judging) = refl
call_room_lem (asks_of t showing) = refl
call_room_lem (asks_of t counting) = refl
call_room_lem (asks_of t releasing) = refl

pub room_is : (cs : List Ticked) → room_for cs ≡ 9 * length cs + 16380 * shown cs
unfolding room_for shown
room_is [] = omega arith
room_is (c ∷ cs) = omega (arith, call_room_lem c, room_is cs)
