-- Demand 3, whole: the desk refines the ledger with ticks, and no upload interferes with another, for every list of calls on every fresh desk with
-- its proper pool; and as it is asked, over lists that reclaim no session. Assumes nothing.
use Rattle.std.specs.Prelude.{ℕ, ◌+◌, ◌*◌, ◌<◌, ◌≤◌, ◌≡◌, List, [], ◌∷◌, ◌++◌, map, length, get_or, take}
use Rattle.numbers.specs.Limits as limit
use Rattle.numbers.specs.Refusals as refusal
use Rattle.reader.specs.Outcome.{judge_of}
use Rattle.desk_slots.specs.Sound.{state_at, tick_at}
use Rattle.desk.specs.Steps.{Sound, seen, open_step, show_step, held_step, judge_step}
use Rattle.desk_entries.specs.declared.Session.{Session}
use Rattle.desk_entries.specs.declared.State.TheVariants.{Free, Open}
use Rattle.desk.specs.declared.Desk.{Desk}
use Rattle.desk_ledger.specs.Answers.{Reply, refused, told, part, verdict, said}
use Rattle.desk_ledger.specs.Ledger.{Deed, adds, judges, shows, asks, releases, present, shut, Ledger, lookup, ledger_step, fresh_ledger, run}
use Rattle.desk_ledger.specs.Uploads.{mine, own, solo, joined}
use Rattle.desk_ledger.specs.Ticks.{idle_ticks, judging, showing, counting, releasing, Ticked, opens_at, adds_at, asks_of, plain, Clocked, stamp_of, counted, of, taken, clocked_step, fresh_clocked, run_ticked, Spared, ReclaimsNone, SameTickedCalls}
use Rattle.desk_ledger.specs.Desks.{World, desk_step, Proper, answers, world, ledger_answers, ledger}

-- a ticket is open on a desk; in a ledger
abbrev pub OpenOn : Desk → ℕ → Type 0
OpenOn d t = (i : ℕ) × ((s : Session) × ((i < d.slots) × (state_at d.entries i ≡ Open s) × (s.ticket ≡ t)))

abbrev pub OpenIn : Ledger → ℕ → Type 0
OpenIn l t = (o : List ℕ) × (lookup l.rows t ≡ present o)

-- what show, judge and the octets held say of octets o
pub record Holds (w : World) (t : ℕ) (o : List ℕ) : Type 0 where
  pub shown : (show_step w.desk w.pool t).octets ≡ o
  pub judged : verdict (judge_step w.desk w.pool t) ≡ verdict (judge_of o)
  pub held : said (held_step w.desk w.pool t) ≡ told (length o)

-- after a list of calls: the desk is sound and its pool proper; the desk's tick is the ledger's; the same tickets are open as in the ledger; and an open
-- one holds the chunks of its accepted adds, joined
pub record Afterwards (n : ℕ) (p : List ℕ) (xs : List Ticked) : Type 0 where
  pub sound : Sound (world n p xs).desk
  pub slots : (world n p xs).desk.slots ≡ n
  pub proper : length (world n p xs).pool ≡ n * limit.octets
  pub tick : (world n p xs).desk.tick ≡ (ledger n xs).tick
  pub recorded : (t : ℕ) → OpenOn (world n p xs).desk t → OpenIn (ledger n xs).ledger t
  pub backed : (t : ℕ) → OpenIn (ledger n xs).ledger t → OpenOn (world n p xs).desk t
  pub holds : (t : ℕ) → OpenOn (world n p xs).desk t → Holds (world n p xs) t (joined t (map plain xs) (ledger_answers n xs))

-- ---- an upload

-- the opening with identifier m at a tick, after the calls xs, is granted with ticket t
abbrev pub Grants : ℕ → List ℕ → List Ticked → ℕ → ℕ → ℕ → Type 0
Grants n p xs m τ t = (desk_step (world n p xs) (opens_at m τ)).reply ≡ told t

-- none of the later calls ys takes its session
abbrev pub Kept : ℕ → List Ticked → ℕ → ℕ → ℕ → List Ticked → Type 0
Kept n xs m τ t ys = Spared t (clocked_step (ledger n xs) (opens_at m τ)).then ys

-- the answers to the later calls ys that name t
abbrev pub own_answers : ℕ → List ℕ → List Ticked → ℕ → ℕ → ℕ → List Ticked → List Reply
own_answers n p xs m τ t ys = own t (map plain ys) (run_ticked desk_step (desk_step (world n p xs) (opens_at m τ)).then ys)

-- the deeds on t among later calls
abbrev pub deeds_on : ℕ → List Ticked → List Deed
deeds_on t ys = mine t (map plain ys)

-- a deed on a ticket as a call; only an add has the tick
abbrev pub on_at : ℕ → Deed → ℕ → Ticked
on_at t (adds q) τ = adds_at t q τ
on_at t judges τ = asks_of t judging
on_at t shows τ = asks_of t showing
on_at t asks τ = asks_of t counting
on_at t releases τ = asks_of t releasing

-- what a deed on t, at any tick, answers after calls
abbrev pub asked : ℕ → List ℕ → List Ticked → ℕ → Deed → ℕ → Reply
asked n p xs t x τ = (desk_step (world n p xs) (on_at t x τ)).reply

-- two uploads that are kept, in one list or two, on desks of any size: while the first k of their calls agree, so do the answers; and after calls
-- that agree, what show, judge or any other deed answers. Ticks need not agree
pub record Alike (n : ℕ) (p : List ℕ) (xs : List Ticked) (m τ t : ℕ) (n' : ℕ) (p' : List ℕ) (xs' : List Ticked) (m' τ' t' : ℕ) : Type 0 where
  pub answers : (ys ys' : List Ticked) → Kept n xs m τ t ys → Kept n' xs' m' τ' t' ys' → (k : ℕ) → take k (deeds_on t ys) ≡ take k (deeds_on t' ys')
      → take k (own_answers n p xs m τ t ys) ≡ take k (own_answers n' p' xs' m' τ' t' ys')
  pub after : (ys ys' : List Ticked) → Kept n xs m τ t ys → Kept n' xs' m' τ' t' ys' → deeds_on t ys ≡ deeds_on t' ys' → (x : Deed) (σ σ' : ℕ)
      → asked n p (xs ++ opens_at m τ ∷ ys) t x σ ≡ asked n' p' (xs' ++ opens_at m' τ' ∷ ys') t' x σ'

-- ---- a session that is taken

-- slot i had the ticket t, and has another session with no octets then; the slot's octets are 0
pub record Taken (d : Desk) (w : World) (t i : ℕ) : Type 0 where
  pub inside : i < d.slots
  pub had : (s : Session) × ((state_at d.entries i ≡ Open s) × (s.ticket ≡ t))
  pub has : (m : ℕ) × (state_at w.desk.entries i ≡ Open (record { ticket = d.next; tram = m; held = 0 }))
  pub zeroed : (k : ℕ) → k < limit.octets → get_or w.pool (i * limit.octets + k) 0 ≡ 0

-- a call takes the session of t: it was open, 600 ticks or more behind, and no other such ticket is lower; all slots were taken. From then on every deed on t
-- answers as on a closed ticket. The slot that had it has the next ticket with no octets, and its part of the pool is 0
pub record Reclaims (n : ℕ) (p : List ℕ) (xs : List Ticked) (m τ t : ℕ) : Type 0 where
  pub was_open : OpenIn (ledger n xs).ledger t
  pub idle : stamp_of (ledger n xs).stamps t + idle_ticks ≤ counted (ledger n xs) τ
  pub lowest : (u : ℕ) → OpenIn (ledger n xs).ledger u → stamp_of (ledger n xs).stamps u + idle_ticks ≤ counted (ledger n xs) τ → t ≤ u
  pub full : length (ledger n xs).ledger.rows ≡ n
  pub granted : Grants n p xs m τ (ledger n xs).ledger.next
  pub closed : (ys : List Ticked) (x : Deed) (σ : ℕ) → asked n p (xs ++ opens_at m τ ∷ ys) t x σ ≡ shut x
  pub shown : asked n p (xs ++ opens_at m τ ∷ []) (ledger n xs).ledger.next shows 0 ≡ part []
  pub slot : (i : ℕ) × Taken (world n p xs).desk (world n p (xs ++ opens_at m τ ∷ [])) t i

-- ---- an opening on any desk

-- tickets are used up; or no slot is free, and none is idle at this tick
pub data Closed (d : Desk) (tick : ℕ) : Type 0 where
  used_up : d.next ≡ limit.tickets → Closed d tick
  no_slot : ((i : ℕ) → i < d.slots → state_at d.entries i ≡ Free → ⊥)
      → ((i : ℕ) (s : Session) → i < d.slots → state_at d.entries i ≡ Open s → tick_at d.stamps i + idle_ticks ≤ seen d tick → ⊥) → Closed d tick

-- an opening is refused exactly where the desk is closed: 21 where tickets are used up, else 20; else the next ticket is granted
pub record Opening (d : Desk) (p : List ℕ) (m tick : ℕ) : Type 0 where
  pub first : d.next ≡ limit.tickets → said (open_step d p m tick).answer ≡ refused refusal.tickets_used_up 0
  pub second : (d.next ≡ limit.tickets → ⊥) → Closed d tick → said (open_step d p m tick).answer ≡ refused refusal.no_free_slot 0
  pub only : (r a : ℕ) → said (open_step d p m tick).answer ≡ refused r a → Closed d tick
  pub else : (Closed d tick → ⊥) → said (open_step d p m tick).answer ≡ told d.next

-- ---- the whole

pub record Demand3 : Type 0 where
  -- refinement: every list of calls is answered as the ledger with ticks answers it
  pub answered : (n : ℕ) (p : List ℕ) → Proper n p → (xs : List Ticked) → answers n p xs ≡ ledger_answers n xs
  pub afterwards : (n : ℕ) (p : List ℕ) → Proper n p → (xs : List Ticked) → Afterwards n p xs
  -- noninterference: an upload that is kept is answered by its own calls alone, those after its release too, whatever else is reclaimed
  pub alone : (n : ℕ) (p : List ℕ) → Proper n p → (xs : List Ticked) (m τ t : ℕ) → Grants n p xs m τ t
      → (ys : List Ticked) → Kept n xs m τ t ys → own_answers n p xs m τ t ys ≡ solo (present []) (deeds_on t ys)
  pub alike : (n : ℕ) (p : List ℕ) → Proper n p → (xs : List Ticked) (m τ t : ℕ) → Grants n p xs m τ t
      → (n' : ℕ) (p' : List ℕ) → Proper n' p' → (xs' : List Ticked) (m' τ' t' : ℕ) → Grants n' p' xs' m' τ' t'
      → Alike n p xs m τ t n' p' xs' m' τ' t'
  -- no identifier and no octet that the pool held at first changes an answer
  pub unseen : (n : ℕ) (p p' : List ℕ) → Proper n p → Proper n p' → (xs ys : List Ticked) → SameTickedCalls xs ys → answers n p xs ≡ answers n p' ys
  -- no ticket is given twice, a released or reclaimed one neither: a later opening gets a higher one
  pub never_twice : (n : ℕ) (p : List ℕ) → Proper n p → (xs : List Ticked) (m τ t : ℕ) → Grants n p xs m τ t
      → (ys : List Ticked) (m' τ' t' : ℕ) → Grants n p (xs ++ opens_at m τ ∷ ys) m' τ' t' → t < t'
  -- on every sound desk with its proper pool
  pub opening : (d : Desk) (p : List ℕ) (m tick : ℕ) → Sound d → length p ≡ d.slots * limit.octets → Opening d p m tick
  -- what is taken, and what becomes of it
  pub reclaims : (n : ℕ) (p : List ℕ) → Proper n p → (xs : List Ticked) (m τ t : ℕ) → taken (ledger n xs) (opens_at m τ) ≡ of t → Reclaims n p xs m τ t
  -- an accepted opening or add stamps its ticket with the tick counted, and no other call moves a stamp
  pub stamps_open : (c : Clocked) (m τ t : ℕ) → (clocked_step c (opens_at m τ)).reply ≡ told t → stamp_of (clocked_step c (opens_at m τ)).then.stamps t ≡ counted c τ
  pub stamps_add : (c : Clocked) (t : ℕ) (q : List ℕ) (τ k : ℕ) → (clocked_step c (adds_at t q τ)).reply ≡ told k → stamp_of (clocked_step c (adds_at t q τ)).then.stamps t ≡ counted c τ

-- Demand 3 as it is asked: over lists of calls in which the ledger's run takes no session, the ledger being the plain one, with no ticks
pub record Demand3AsAsked : Type 0 where
  pub answered : (n : ℕ) (p : List ℕ) → Proper n p → (xs : List Ticked) → ReclaimsNone (fresh_clocked n) xs → answers n p xs ≡ run ledger_step (fresh_ledger n) (map plain xs)
  pub alone : (n : ℕ) (p : List ℕ) → Proper n p → (xs : List Ticked) (m τ t : ℕ) → Grants n p xs m τ t
      → (ys : List Ticked) → ReclaimsNone (fresh_clocked n) (xs ++ opens_at m τ ∷ ys) → own_answers n p xs m τ t ys ≡ solo (present []) (deeds_on t ys)
  pub alike : (n : ℕ) (p : List ℕ) → Proper n p → (xs : List Ticked) (m τ t : ℕ) → Grants n p xs m τ t
      → (n' : ℕ) (p' : List ℕ) → Proper n' p' → (xs' : List Ticked) (m' τ' t' : ℕ) → Grants n' p' xs' m' τ' t'
      → (ys ys' : List Ticked) → ReclaimsNone (fresh_clocked n) (xs ++ opens_at m τ ∷ ys) → ReclaimsNone (fresh_clocked n') (xs' ++ opens_at m' τ' ∷ ys')
      → deeds_on t ys ≡ deeds_on t' ys' → (x : Deed) (σ σ' : ℕ)
      → asked n p (xs ++ opens_at m τ ∷ ys) t x σ ≡ asked n' p' (xs' ++ opens_at m' τ' ∷ ys') t' x σ'
