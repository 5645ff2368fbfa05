-- The calls of one upload, their answers, and a machine that knows one upload alone. Assumes nothing.
use Rattle.std.specs.Prelude.{ℕ, Bool, true, false, List, [], ◌∷◌, ◌++◌, eqb}
use Rattle.octets.specs.Pick.{pick}
use Rattle.desk_ledger.specs.Ledger.{Deed, adds, judges, shows, asks, releases, Call, opens, on}
use Rattle.desk_ledger.specs.Ledger.{Reply, refused, told, counts, part, Found, answer, leaves}

abbrev pub keep : {A : Type 0} → Bool → A → List A → List A
keep true x xs = x ∷ xs
keep false x xs = xs

-- the deeds on ticket t, in order
unfoldable pub mine : ℕ → List Call → List Deed
mine t [] = []
mine t (opens m ∷ cs) = mine t cs
mine t (on u x ∷ cs) = keep (eqb u t) x (mine t cs)

-- of the answers to calls, those to the deeds on ticket t
unfoldable pub own : ℕ → List Call → List Reply → List Reply
own t [] rs = []
own t (c ∷ cs) [] = []
own t (opens m ∷ cs) (r ∷ rs) = own t cs rs
own t (on u x ∷ cs) (r ∷ rs) = keep (eqb u t) r (own t cs rs)

-- the answers to deeds on one ticket that is so at first, with nothing else in the world
unfoldable pub solo : Found → List Deed → List Reply
solo f [] = []
solo f (x ∷ xs) = answer f x ∷ solo (leaves f x) xs

abbrev pub accepted : Reply → List ℕ → List ℕ
accepted (refused n p) q = []
accepted (told n) q = q
accepted (counts k n) q = []
accepted (part o) q = []

abbrev pub chunk : Deed → Reply → List ℕ
chunk (adds q) r = accepted r q
chunk judges r = []
chunk shows r = []
chunk asks r = []
chunk releases r = []

-- the chunks that were added to ticket t and accepted, joined, as calls and answers tell
unfoldable pub joined : ℕ → List Call → List Reply → List ℕ
joined t [] rs = []
joined t (c ∷ cs) [] = []
joined t (opens m ∷ cs) (r ∷ rs) = joined t cs rs
joined t (on u x ∷ cs) (r ∷ rs) = pick (eqb u t) (chunk x r) [] ++ joined t cs rs

-- two calls that agree but for an opening's identifier
pub data SameCall : Call → Call → Type 0 where
  openings : (m m' : ℕ) → SameCall (opens m) (opens m')
  deeds : (t : ℕ) (x : Deed) → SameCall (on t x) (on t x)

-- two lists of such calls, call by call
pub data SameCalls : List Call → List Call → Type 0 where
  none : SameCalls [] []
  next : {c d : Call} {cs ds : List Call} → SameCall c d → SameCalls cs ds → SameCalls (c ∷ cs) (d ∷ ds)
