-- The plain ledger with the host's ticks beside it, by REFERENCE, Ticks. The plain ledger stays as it is: an opening that reclaims a session is that
-- session's release, and then the opening. Assumes nothing.
use Rattle.std.specs.Prelude.{ℕ, ◌+◌, ◌≡◌, Bool, true, false, List, [], ◌∷◌, ltb, leb, eqb, length}
use Rattle.numbers.specs.Limits as limit
use Rattle.octets.specs.Pick.{pick}
use Rattle.desk_ledger.specs.Ledger.{Deed, adds, judges, shows, asks, releases, Call, opens, on, Reply, refused, told, counts, part, Row, Ledger, Out, ledger_step, fresh_ledger}

-- by how much the highest tick is ahead of an idle session's at least
abbrev pub idle_ticks : ℕ
idle_ticks = 600

-- ---- calls with ticks

-- what is asked of a ticket with no tick
pub data Ask : Type 0 where
  judging showing counting releasing : Ask

abbrev pub deed : Ask → Deed
deed judging = judges
deed showing = shows
deed counting = asks
deed releasing = releases

-- a call with its arguments except desk and pool: only an opening and an add take the host's tick
pub data Ticked : Type 0 where
  opens_at : (tram tick : ℕ) → Ticked
  adds_at : (ticket : ℕ) (chunk : List ℕ) (tick : ℕ) → Ticked
  asks_of : (ticket : ℕ) → Ask → Ticked

-- the call without its tick
abbrev pub plain : Ticked → Call
plain (opens_at m τ) = opens m
plain (adds_at t q τ) = on t (adds q)
plain (asks_of t x) = on t (deed x)

-- ---- the ledger with ticks

-- the tick of a ticket's opening or of an accepted add
pub record Stamp : Type 0 where
  pub ticket : ℕ
  pub tick : ℕ

-- the plain ledger, the highest tick seen, and the stamps, the last first
pub record Clocked : Type 0 where
  pub ledger : Ledger
  pub tick : ℕ
  pub stamps : List Stamp

-- the tick of a ticket's opening or last accepted add
unfoldable pub stamp_of : List Stamp → ℕ → ℕ
stamp_of [] t = 0
stamp_of (s ∷ ss) t = pick (eqb s.ticket t) s.tick (stamp_of ss t)

-- a tick lower than the highest counts as that
abbrev pub counted : Clocked → ℕ → ℕ
counted c τ = pick (ltb c.tick τ) τ c.tick

-- the highest tick, this call's counted in, is ahead of the session's by 600 or more
unfoldable pub idle : Clocked → ℕ → ℕ → Bool
idle c now t = leb (stamp_of c.stamps t + idle_ticks) now

-- a ticket, or none
pub data Whose : Type 0 where
  nobody : Whose
  of : ℕ → Whose

abbrev pub lower : ℕ → Whose → Whose
lower t nobody = of t
lower t (of u) = pick (ltb t u) (of t) (of u)

abbrev pub lower_if : Bool → ℕ → Whose → Whose
lower_if true t w = lower t w
lower_if false t w = w

-- the lowest open ticket whose session is idle
unfoldable pub lowest_idle : Clocked → ℕ → List Row → Whose
lowest_idle c now [] = nobody
lowest_idle c now (r ∷ rs) = lower_if (idle c now r.ticket) r.ticket (lowest_idle c now rs)

-- whose session an opening takes: nobody's where no ticket is left or a slot is free, else that of the lowest idle one
abbrev pub takes : Clocked → ℕ → Whose
takes c now =
    pick (eqb c.ledger.next limit.tickets) nobody
    (pick (eqb (length c.ledger.rows) c.ledger.slots) (lowest_idle c now c.ledger.rows) nobody)

abbrev pub taken : Clocked → Ticked → Whose
taken c (opens_at m τ) = takes c (counted c τ)
taken c (adds_at t q τ) = nobody
taken c (asks_of t x) = nobody

-- the plain ledger on which the call is then made: the session that is reclaimed is released before
abbrev pub freed : Ledger → Whose → Ledger
freed l nobody = l
freed l (of t) = (ledger_step l (on t releases)).then

-- what is accepted is stamped with the tick counted; a refused call moves no tick
abbrev pub clocked_by : Clocked → ℕ → ℕ → Reply → Out Ledger → Out Clocked
clocked_by c now t (told n) o = record { reply = o.reply; then = record { ledger = o.then; tick = now; stamps = record { ticket = t; tick = now } ∷ c.stamps } }
clocked_by c now t (refused n p) o = record { reply = o.reply; then = record { ledger = o.then; tick = c.tick; stamps = c.stamps } }
clocked_by c now t (counts k n) o = record { reply = o.reply; then = record { ledger = o.then; tick = c.tick; stamps = c.stamps } }
clocked_by c now t (part q) o = record { reply = o.reply; then = record { ledger = o.then; tick = c.tick; stamps = c.stamps } }

-- the plain call, after the release of the session that it takes
abbrev pub plain_out : Clocked → Ticked → Out Ledger
plain_out c x = ledger_step (freed c.ledger (taken c x)) (plain x)

abbrev pub clocked_step : Clocked → Ticked → Out Clocked
clocked_step c (opens_at m τ) = clocked_by c (counted c τ) c.ledger.next (plain_out c (opens_at m τ)).reply (plain_out c (opens_at m τ))
clocked_step c (adds_at t q τ) = clocked_by c (counted c τ) t (plain_out c (adds_at t q τ)).reply (plain_out c (adds_at t q τ))
clocked_step c (asks_of t x) =
    record { reply = (plain_out c (asks_of t x)).reply; then = record { ledger = (plain_out c (asks_of t x)).then; tick = c.tick; stamps = c.stamps } }

abbrev pub fresh_clocked : ℕ → Clocked
fresh_clocked n = record { ledger = fresh_ledger n; tick = 0; stamps = [] }

-- ---- a list of calls with ticks

-- the answers, in order
unfoldable pub run_ticked : {S : Type 0} → (S → Ticked → Out S) → S → List Ticked → List Reply
run_ticked step s [] = []
run_ticked step s (x ∷ xs) = (step s x).reply ∷ run_ticked step (step s x).then xs

-- what is there afterwards
unfoldable pub after_ticked : {S : Type 0} → (S → Ticked → Out S) → S → List Ticked → S
after_ticked step s [] = s
after_ticked step s (x ∷ xs) = after_ticked step (step s x).then xs

-- another ticket's session is taken, or nobody's
abbrev pub Spares : ℕ → Whose → Type 0
Spares t nobody = Unit {0}
Spares t (of u) = u ≡ t → ⊥

-- no call takes the session of ticket t
unfoldable pub Spared : ℕ → Clocked → List Ticked → Type 0
Spared t c [] = Unit {0}
Spared t c (x ∷ xs) = Spares t (taken c x) × Spared t (clocked_step c x).then xs

-- no call takes a session
unfoldable pub ReclaimsNone : Clocked → List Ticked → Type 0
ReclaimsNone c [] = Unit {0}
ReclaimsNone c (x ∷ xs) = (taken c x ≡ nobody) × ReclaimsNone (clocked_step c x).then xs

-- ---- calls that agree

-- two calls that agree but for an opening's identifier
pub data SameTicked : Ticked → Ticked → Type 0 where
  same_opening : (m m' τ : ℕ) → SameTicked (opens_at m τ) (opens_at m' τ)
  same_add : (t : ℕ) (q : List ℕ) (τ : ℕ) → SameTicked (adds_at t q τ) (adds_at t q τ)
  same_ask : (t : ℕ) (x : Ask) → SameTicked (asks_of t x) (asks_of t x)

-- two lists of such calls, call by call
pub data SameTickedCalls : List Ticked → List Ticked → Type 0 where
  none : SameTickedCalls [] []
  next : {c d : Ticked} {cs ds : List Ticked} → SameTicked c d → SameTickedCalls cs ds → SameTickedCalls (c ∷ cs) (d ∷ ds)
