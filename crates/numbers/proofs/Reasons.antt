-- Two reasons with one number are one reason. Assumes nothing.
use Rattle.std.proofs.Common.{◌≡◌, ℕ, false}
use Rattle.std.proofs.Math.Bool.{Bool-set}
use native.Mathlib.Omega.{arith}
use lib.Dec.{eqb}
use borrow.Author.Tests.{ne_eqb}
use mathlib.Core.Path.{refl, sym, ap, subst, ◌∙◌}
use mathlib.Core.Bool.{Bool, true}
use mathlib.Core.List.{List, [], ◌∷◌}
use Rattle.numbers.specs.Listed.{is_listed}
use Rattle.numbers.specs.Refusals.{number, refusals}
use Rattle.numbers.specs.declared.unlisted.Unlisted.{Unlisted}
use Rattle.numbers.specs.declared.refusal.Reason.{Reason}
use Rattle.numbers.specs.declared.refusal.Reason.TheVariants as reason

-- a number that no refusal has is the value of one Unlisted alone
same_unlisted : (u v : Unlisted) → u.number ≡ v.number → u ≡ v
same_unlisted u v e =
    subst (λ m. (b : is_listed m ≡ false) → u ≡ record { number = m; unlisted = b }) e (λ b. ap (λ f. record { number = u.number; unlisted = f }) (Bool-set (is_listed u.number) false u.unlisted b)) v.unlisted

abbrev reasons : List Reason
reasons =
    reason.TooLong ∷
    reason.Empty ∷
    reason.LoneCrOrLf ∷
    reason.NoEnd ∷
    reason.BadOctet ∷
    reason.Value ∷
    reason.Laden ∷
    reason.Order ∷
    reason.Second ∷
    reason.NoFn ∷
    reason.Member ∷
    reason.CopyRoom ∷
    reason.RecordRoom ∷
    reason.Room ∷
    reason.FormTooLong ∷
    reason.NoFreeSlot ∷
    reason.TicketsUsedUp ∷
    reason.NotOpen ∷
    reason.SlotFull ∷
    reason.PoolLength ∷
    reason.Unsound ∷
    reason.SlotCount ∷
    reason.Escape ∷
    reason.TextOctet ∷
    reason.Name ∷
    reason.Parameter ∷
    reason.Quote ∷
    reason.NoColon ∷
    reason.NoLabel ∷
    reason.BufferLength ∷
    reason.Claim ∷
    reason.NotTakenIn ∷
    reason.NotGivenOut ∷
    reason.NoPlan ∷
    reason.MergeLimit ∷
    reason.SourceRow ∷
    reason.Plan ∷
    reason.ReportFull ∷
    reason.ReplayCall ∷
    reason.ReplayPool ∷
    reason.ReplayLog ∷
    []

abbrev chosen : Bool → Reason → Reason → Reason
chosen true r s = r
chosen false r s = s

-- the reason of a number among reasons
abbrev reason_in : List Reason → ℕ → Reason
reason_in [] n = reason.TooLong
reason_in (r ∷ rs) n = chosen (eqb (number r) n) r (reason_in rs n)

-- the reason is one of the table's
abbrev in_table : Reason → Bool
in_table (reason.Other u) = false
in_table r = true

listed_in_table : (r : Reason) → is_listed (number r) ≡ in_table r
unfolding is_listed
listed_in_table reason.TooLong = refl
listed_in_table reason.Empty = refl
listed_in_table reason.LoneCrOrLf = refl
listed_in_table reason.NoEnd = refl
listed_in_table reason.BadOctet = refl
listed_in_table reason.Value = refl
listed_in_table reason.Laden = refl
listed_in_table reason.Order = refl
listed_in_table reason.Second = refl
listed_in_table reason.NoFn = refl
listed_in_table reason.Member = refl
listed_in_table reason.CopyRoom = refl
listed_in_table reason.RecordRoom = refl
listed_in_table reason.Room = refl
listed_in_table reason.FormTooLong = refl
listed_in_table reason.NoFreeSlot = refl
listed_in_table reason.TicketsUsedUp = refl
listed_in_table reason.NotOpen = refl
listed_in_table reason.SlotFull = refl
listed_in_table reason.PoolLength = refl
listed_in_table reason.Unsound = refl
listed_in_table reason.SlotCount = refl
listed_in_table reason.Escape = refl
listed_in_table reason.TextOctet = refl
listed_in_table reason.Name = refl
listed_in_table reason.Parameter = refl
listed_in_table reason.Quote = refl
listed_in_table reason.NoColon = refl
listed_in_table reason.NoLabel = refl
listed_in_table reason.BufferLength = refl
listed_in_table reason.Claim = refl
listed_in_table reason.NotTakenIn = refl
listed_in_table reason.NotGivenOut = refl
listed_in_table reason.NoPlan = refl
listed_in_table reason.MergeLimit = refl
listed_in_table reason.SourceRow = refl
listed_in_table reason.Plan = refl
listed_in_table reason.ReportFull = refl
listed_in_table reason.ReplayCall = refl
listed_in_table reason.ReplayPool = refl
listed_in_table reason.ReplayLog = refl
listed_in_table (reason.Other u) = u.unlisted

clash : {A : Type 0} → true ≡ false → A
clash e = let z : ◌≡◌ {A = ℕ} 0 1 = cc in absurd (omega arith)

back : (r : Reason) → in_table r ≡ true → reason_in reasons (number r) ≡ r
back reason.TooLong t = refl
back reason.Empty t = refl
back reason.LoneCrOrLf t = refl
back reason.NoEnd t = refl
back reason.BadOctet t = refl
back reason.Value t = refl
back reason.Laden t = refl
back reason.Order t = refl
back reason.Second t = refl
back reason.NoFn t = refl
back reason.Member t = refl
back reason.CopyRoom t = refl
back reason.RecordRoom t = refl
back reason.Room t = refl
back reason.FormTooLong t = refl
back reason.NoFreeSlot t = refl
back reason.TicketsUsedUp t = refl
back reason.NotOpen t = refl
back reason.SlotFull t = refl
back reason.PoolLength t = refl
back reason.Unsound t = refl
back reason.SlotCount t = refl
back reason.Escape t = refl
back reason.TextOctet t = refl
back reason.Name t = refl
back reason.Parameter t = refl
back reason.Quote t = refl
back reason.NoColon t = refl
back reason.NoLabel t = refl
back reason.BufferLength t = refl
back reason.Claim t = refl
back reason.NotTakenIn t = refl
back reason.NotGivenOut t = refl
back reason.NoPlan t = refl
back reason.MergeLimit t = refl
back reason.SourceRow t = refl
back reason.Plan t = refl
back reason.ReportFull t = refl
back reason.ReplayCall t = refl
back reason.ReplayPool t = refl
back reason.ReplayLog t = refl
back (reason.Other u) t = clash (sym t)

other_of : (r : Reason) → in_table r ≡ false → Unlisted
other_of (reason.Other u) t = u
other_of r t = clash t

is_other : (r : Reason) (t : in_table r ≡ false) → r ≡ reason.Other (other_of r t)
unfolding other_of
is_other (reason.Other u) t = refl
is_other r t = clash t

other_number : (r : Reason) (t : in_table r ≡ false) → (other_of r t).number ≡ number r
unfolding other_of
other_number (reason.Other u) t = refl
other_number r t = clash t

-- both are of the table, or neither is
same_by : (r s : Reason) → number r ≡ number s → (b : Bool) → in_table r ≡ b → in_table s ≡ b → r ≡ s
same_by r s e true t u = sym (back r t) ∙ ap (reason_in reasons) e ∙ back s u
same_by r s e false t u =
    is_other r t ∙ ap reason.Other (same_unlisted (other_of r t) (other_of s u) (other_number r t ∙ e ∙ sym (other_number s u))) ∙ sym (is_other s u)

pub same_reason : (r s : Reason) → number r ≡ number s → r ≡ s
same_reason r s e = same_by r s e (in_table s) (sym (listed_in_table r) ∙ ap is_listed e ∙ listed_in_table s) refl

pub other_reason : (r s : Reason) → (r ≡ s → ⊥) → eqb (number r) (number s) ≡ false
other_reason r s h = ne_eqb (number r) (number s) (λ e. h (same_reason r s e))

abbrev chosen_both : Bool → Bool → Bool
chosen_both true b = b
chosen_both false b = false

abbrev all_listed : List ℕ → Bool
all_listed [] = true
all_listed (n ∷ ns) = chosen_both (is_listed n) (all_listed ns)

-- the numbers that the table's refusals have are those that a refusal has
pub listed_refusals : all_listed refusals ≡ true
unfolding is_listed
listed_refusals = refl
