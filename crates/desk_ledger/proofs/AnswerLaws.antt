-- Which case of an enum a number and its values stand for. Assumes nothing.
use Prim.Native.Nat.{ℕ}
use mathlib.Core.Path.{◌≡◌}
use native.Mathlib.Omega.{arith}
use Rattle.octets.specs.Room.{Written}
use Rattle.octets.specs.Room.{Wrote, Refused as Unwritten}
use Rattle.reader.specs.Outcome.{Verdict}
use Rattle.reader.specs.Outcome.{Accepted, Refused as Unread}
use Rattle.desk.specs.Answer.{Answer}
use Rattle.desk.specs.Answer.{Done, Refused}
use Rattle.desk_ledger.specs.Answers.{refused, told, counts, verdict, wrote, said}

clash : {A : Type 0} → ◌≡◌ {A = ℕ} 0 1 → A
clash e = absurd (omega arith)

pub verdict_counts : (v : Verdict) (k n : ℕ) → verdict v ≡ counts k n → v ≡ Accepted k n
verdict_counts (Accepted cards lines) k n e = cc
verdict_counts (Unread number place) k n e = clash cc

pub verdict_refused : (v : Verdict) (n p : ℕ) → verdict v ≡ refused n p → v ≡ Unread n p
verdict_refused (Accepted cards lines) n p e = clash cc
verdict_refused (Unread number place) n p e = cc

pub wrote_told : (w : Written) (n : ℕ) → wrote w ≡ told n → w ≡ Wrote n
wrote_told (Wrote octets) n e = cc
wrote_told (Unwritten number place) n e = clash cc

pub wrote_refused : (w : Written) (n p : ℕ) → wrote w ≡ refused n p → w ≡ Unwritten n p
wrote_refused (Wrote octets) n p e = clash cc
wrote_refused (Unwritten number place) n p e = cc

pub said_told : (a : Answer) (n : ℕ) → said a ≡ told n → a ≡ Done n
said_told (Done m) n e = cc
said_told (Refused number place) n e = clash cc

pub said_refused : (a : Answer) (n p : ℕ) → said a ≡ refused n p → a ≡ Refused n p
said_refused (Done m) n p e = clash cc
said_refused (Refused number place) n p e = cc
