-- The ledger with ticks is the plain ledger with a release before each opening that takes a session; and whose session that is. Assumes nothing.
use Prim.Native.Nat.{ℕ, ◌≤◌}
use mathlib.Core.Path.{◌≡◌, refl, sym, ap, ◌∙◌}
use mathlib.Core.Bool.{Bool, true, false}
use mathlib.Core.List.{List, [], ◌∷◌, ◌++◌, map}
use native.Mathlib.Omega.{arith}
use lib.Dec.{ltb, eqb}
use borrow.Author.Tests.{ltb-true, ltb-false, eqb-true, eq-eqb, ne_eqb}
use Rattle.octets.specs.Pick.{pick}
use Rattle.desk_entries.proofs.Searches.{clash}
use Rattle.desk_ledger.specs.Ledger.{Deed, adds, releases, Call, on, Reply, refused, told, counts, part, present, Row, Ledger, lookup, Out, ledger_step, run, after}
use Rattle.desk_ledger.specs.Uploads.{keep, mine, own, chunk, joined}
use Rattle.desk_ledger.specs.Ticks.{Ticked, opens_at, adds_at, asks_of, plain, deed, Clocked, counted, idle, Whose, nobody, of, lower_if, lowest_idle, taken, freed, clocked_by, plain_out, clocked_step, run_ticked, after_ticked, Spares, Spared, ReclaimsNone}
use Rattle.desk_laws.proofs.LedgerRows.{no}

-- ---- one call

-- stamps change neither the answer nor the plain ledger
pub by_reply : (c : Clocked) (now t : ℕ) (r : Reply) (o : Out Ledger) → (clocked_by c now t r o).reply ≡ o.reply
by_reply c now t (refused n p) o = refl
by_reply c now t (told n) o = refl
by_reply c now t (counts k n) o = refl
by_reply c now t (part q) o = refl

pub by_ledger : (c : Clocked) (now t : ℕ) (r : Reply) (o : Out Ledger) → (clocked_by c now t r o).then.ledger ≡ o.then
by_ledger c now t (refused n p) o = refl
by_ledger c now t (told n) o = refl
by_ledger c now t (counts k n) o = refl
by_ledger c now t (part q) o = refl

pub step_reply : (c : Clocked) (x : Ticked) → (clocked_step c x).reply ≡ (plain_out c x).reply
step_reply c (opens_at m τ) = by_reply c (counted c τ) c.ledger.next (plain_out c (opens_at m τ)).reply (plain_out c (opens_at m τ))
step_reply c (adds_at t q τ) = by_reply c (counted c τ) t (plain_out c (adds_at t q τ)).reply (plain_out c (adds_at t q τ))
step_reply c (asks_of t x) = refl

pub step_ledger : (c : Clocked) (x : Ticked) → (clocked_step c x).then.ledger ≡ (plain_out c x).then
step_ledger c (opens_at m τ) = by_ledger c (counted c τ) c.ledger.next (plain_out c (opens_at m τ)).reply (plain_out c (opens_at m τ))
step_ledger c (adds_at t q τ) = by_ledger c (counted c τ) t (plain_out c (adds_at t q τ)).reply (plain_out c (adds_at t q τ))
step_ledger c (asks_of t x) = refl

-- ---- the same calls without ticks, and a release before each that takes a session

abbrev freeing : Whose → List Call → List Call
freeing nobody cs = cs
freeing (of t) cs = on t releases ∷ cs

unfoldable pub flat : Clocked → List Ticked → List Call
flat c [] = []
flat c (x ∷ xs) = freeing (taken c x) (plain x ∷ flat (clocked_step c x).then xs)

after_freeing : (w : Whose) (l : Ledger) (cs : List Call) → after ledger_step l (freeing w cs) ≡ after ledger_step (freed l w) cs
unfolding after
after_freeing nobody l cs = refl
after_freeing (of t) l cs = refl

pub after_flat : (xs : List Ticked) (c : Clocked) → (after_ticked clocked_step c xs).ledger ≡ after ledger_step c.ledger (flat c xs)
unfolding after_ticked after flat
after_flat [] c = refl
after_flat (x ∷ xs) c =
    after_flat xs (clocked_step c x).then
    ∙ ap (λ (l : Ledger). after ledger_step l (flat (clocked_step c x).then xs)) (step_ledger c x)
    ∙ sym (after_freeing (taken c x) c.ledger (plain x ∷ flat (clocked_step c x).then xs))

-- of the answers those to the calls themselves
joined_freeing : (w : Whose) (t : ℕ) (l : Ledger) (cs : List Call) → joined t (freeing w cs) (run ledger_step l (freeing w cs)) ≡ joined t cs (run ledger_step (freed l w) cs)
unfolding run joined
joined_freeing nobody t l cs = refl
joined_freeing (of u) t l cs = go (eqb u t)
  where
    go : (b : Bool) → pick b [] [] ++ joined t cs (run ledger_step (freed l (of u)) cs) ≡ joined t cs (run ledger_step (freed l (of u)) cs)
    go true = refl
    go false = refl

joined_next : (t : ℕ) (x : Ticked) (r : Reply) (cs ds : List Call) (rs qs : List Reply) → joined t cs rs ≡ joined t ds qs → joined t (plain x ∷ cs) (r ∷ rs) ≡ joined t (plain x ∷ ds) (r ∷ qs)
unfolding joined
joined_next t (opens_at m τ) r cs ds rs qs e = e
joined_next t (adds_at u q τ) r cs ds rs qs e = ap (λ (z : List ℕ). pick (eqb u t) (chunk (adds q) r) [] ++ z) e
joined_next t (asks_of u y) r cs ds rs qs e = ap (λ (z : List ℕ). pick (eqb u t) (chunk (deed y) r) [] ++ z) e

pub joined_flat : (xs : List Ticked) (c : Clocked) (t : ℕ) → joined t (flat c xs) (run ledger_step c.ledger (flat c xs)) ≡ joined t (map plain xs) (run_ticked clocked_step c xs)
unfolding run_ticked run flat joined
joined_flat [] c t = refl
joined_flat (x ∷ xs) c t =
    joined_freeing (taken c x) t c.ledger (plain x ∷ flat (clocked_step c x).then xs)
    ∙ ap (λ (r : Reply). joined t (plain x ∷ flat (clocked_step c x).then xs) (r ∷ run ledger_step (plain_out c x).then (flat (clocked_step c x).then xs))) (sym (step_reply c x))
    ∙ ap (λ (l : Ledger). joined t (plain x ∷ flat (clocked_step c x).then xs) ((clocked_step c x).reply ∷ run ledger_step l (flat (clocked_step c x).then xs))) (sym (step_ledger c x))
    ∙ joined_next t x (clocked_step c x).reply (flat (clocked_step c x).then xs) (map plain xs) (run ledger_step (clocked_step c x).then.ledger (flat (clocked_step c x).then xs))
    (run_ticked clocked_step (clocked_step c x).then xs) (joined_flat xs (clocked_step c x).then t)

-- ---- an upload that is spared

mine_freeing : (w : Whose) (t : ℕ) (cs : List Call) → Spares t w → mine t (freeing w cs) ≡ mine t cs
unfolding mine
mine_freeing nobody t cs s = refl
mine_freeing (of u) t cs s = rw (ne_eqb u t s)

mine_next : (t : ℕ) (x : Ticked) (cs ds : List Call) → mine t cs ≡ mine t ds → mine t (plain x ∷ cs) ≡ mine t (plain x ∷ ds)
unfolding mine
mine_next t (opens_at m τ) cs ds e = e
mine_next t (adds_at u q τ) cs ds e = ap (λ (z : List Deed). keep (eqb u t) (adds q) z) e
mine_next t (asks_of u y) cs ds e = ap (λ (z : List Deed). keep (eqb u t) (deed y) z) e

pub mine_flat : (xs : List Ticked) (c : Clocked) (t : ℕ) → Spared t c xs → mine t (flat c xs) ≡ mine t (map plain xs)
unfolding flat Spared mine
mine_flat [] c t s = refl
mine_flat (x ∷ xs) c t s =
    mine_freeing (taken c x) t (plain x ∷ flat (clocked_step c x).then xs) s.0
    ∙ mine_next t x (flat (clocked_step c x).then xs) (map plain xs) (mine_flat xs (clocked_step c x).then t s.1)

own_freeing : (w : Whose) (t : ℕ) (l : Ledger) (cs : List Call) → Spares t w → own t (freeing w cs) (run ledger_step l (freeing w cs)) ≡ own t cs (run ledger_step (freed l w) cs)
unfolding run own
own_freeing nobody t l cs s = refl
own_freeing (of u) t l cs s = rw (ne_eqb u t s)

own_next : (t : ℕ) (x : Ticked) (r : Reply) (cs ds : List Call) (rs qs : List Reply) → own t cs rs ≡ own t ds qs → own t (plain x ∷ cs) (r ∷ rs) ≡ own t (plain x ∷ ds) (r ∷ qs)
unfolding own
own_next t (opens_at m τ) r cs ds rs qs e = e
own_next t (adds_at u q τ) r cs ds rs qs e = ap (λ (z : List Reply). keep (eqb u t) r z) e
own_next t (asks_of u y) r cs ds rs qs e = ap (λ (z : List Reply). keep (eqb u t) r z) e

pub own_flat : (xs : List Ticked) (c : Clocked) (t : ℕ) → Spared t c xs → own t (flat c xs) (run ledger_step c.ledger (flat c xs)) ≡ own t (map plain xs) (run_ticked clocked_step c xs)
unfolding run_ticked run flat own Spared
own_flat [] c t s = refl
own_flat (x ∷ xs) c t s =
    own_freeing (taken c x) t c.ledger (plain x ∷ flat (clocked_step c x).then xs) s.0
    ∙ ap (λ (r : Reply). own t (plain x ∷ flat (clocked_step c x).then xs) (r ∷ run ledger_step (plain_out c x).then (flat (clocked_step c x).then xs))) (sym (step_reply c x))
    ∙ ap (λ (l : Ledger). own t (plain x ∷ flat (clocked_step c x).then xs) ((clocked_step c x).reply ∷ run ledger_step l (flat (clocked_step c x).then xs))) (sym (step_ledger c x))
    ∙ own_next t x (clocked_step c x).reply (flat (clocked_step c x).then xs) (map plain xs) (run ledger_step (clocked_step c x).then.ledger (flat (clocked_step c x).then xs))
    (run_ticked clocked_step (clocked_step c x).then xs) (own_flat xs (clocked_step c x).then t s.1)

-- ---- lists that reclaim no session

spares_none : (t : ℕ) (w : Whose) → w ≡ nobody → Spares t w
spares_none t nobody e = tt
spares_none t (of u) e = clash cc

pub none_spared : (xs : List Ticked) (c : Clocked) (t : ℕ) → ReclaimsNone c xs → Spared t c xs
unfolding Spared ReclaimsNone
none_spared [] c t k = tt
none_spared (x ∷ xs) c t k = (spares_none t (taken c x) k.0, none_spared xs (clocked_step c x).then t k.1)

-- where no session is reclaimed, the answers are those of the plain ledger: ticks change nothing
pub as_before : (xs : List Ticked) (c : Clocked) → ReclaimsNone c xs → run_ticked clocked_step c xs ≡ run ledger_step c.ledger (map plain xs)
unfolding run_ticked run ReclaimsNone
as_before [] c k = refl
as_before (x ∷ xs) c k =
    let r : (clocked_step c x).reply ≡ (ledger_step c.ledger (plain x)).reply = step_reply c x ∙ ap (λ (w : Whose). (ledger_step (freed c.ledger w) (plain x)).reply) k.0 in
    let l : (clocked_step c x).then.ledger ≡ (ledger_step c.ledger (plain x)).then = step_ledger c x ∙ ap (λ (w : Whose). (ledger_step (freed c.ledger w) (plain x)).then) k.0 in
    rw r (ap (λ (rs : List Reply). (ledger_step c.ledger (plain x)).reply ∷ rs) (as_before xs (clocked_step c x).then k.1 ∙ ap (λ (m : Ledger). run ledger_step m (map plain xs)) l))

-- ---- whose session is taken

-- nobody's where no open ticket is idle; else the lowest one's of those that are
pub data Settles (c : Clocked) (now : ℕ) (rs : List Row) : Whose → Type 0 where
  none_idle : ((u : ℕ) (o : List ℕ) → lookup rs u ≡ present o → idle c now u ≡ false) → Settles c now rs nobody
  lowest_idle_lem : (t : ℕ) (o : List ℕ) → lookup rs t ≡ present o → idle c now t ≡ true
      → ((u : ℕ) (q : List ℕ) → lookup rs u ≡ present q → idle c now u ≡ true → t ≤ u) → Settles c now rs (of t)

module _ (c : Clocked) (now : ℕ) (r : Row) (rs : List Row) where
  -- a row is the first one's, or one of the rest
  rows_cases : {A : Type 0} (u : ℕ) (q : List ℕ) → lookup (r ∷ rs) u ≡ present q → (r.ticket ≡ u → A) → (lookup rs u ≡ present q → A) → A
  unfolding lookup
  rows_cases {A} u q e f g = go (eqb r.ticket u) refl e
    where
      go : (b : Bool) → eqb r.ticket u ≡ b → pick b (present r.octets) (lookup rs u) ≡ present q → A
      go true p h = f (eqb-true r.ticket u p)
      go false p h = g h

  first_row : (o : List ℕ) × (lookup (r ∷ rs) r.ticket ≡ present o)
  unfolding lookup
  first_row = (r.octets, rw (eq-eqb r.ticket r.ticket refl))

  rest_row : (t : ℕ) (o : List ℕ) → lookup rs t ≡ present o → (q : List ℕ) × (lookup (r ∷ rs) t ≡ present q)
  unfolding lookup
  rest_row t o e = go (eqb r.ticket t)
    where
      go : (b : Bool) → (q : List ℕ) × (pick b (present r.octets) (lookup rs t) ≡ present q)
      go true = (r.octets, refl)
      go false = (o, e)

  truly : {A : Type 0} → true ≡ false → A
  truly e = clash cc

  more_settled : (w : Whose) → Settles c now rs w → (b : Bool) → idle c now r.ticket ≡ b → Settles c now (r ∷ rs) (lower_if b r.ticket w)
  more_settled w (none_idle f) false q =
      none_idle (λ u o e. rows_cases u o e (λ h. rw (← h) q) (λ h. f u o h))
  more_settled w (none_idle f) true q =
      let p = first_row in
      lowest_idle_lem r.ticket p.0 p.1 q
      (λ u o e i. rows_cases u o e (λ h. omega (arith, h)) (λ h. truly (sym i ∙ f u o h)))
  more_settled w (lowest_idle_lem t o e i f) false q =
      let p = rest_row t o e in
      lowest_idle_lem t p.0 p.1 i
      (λ u s g j. rows_cases u s g (λ h. truly (sym j ∙ rw (← h) q)) (λ h. f u s h j))
  more_settled w (lowest_idle_lem t o e i f) true q = go (ltb r.ticket t) refl
    where
      go : (x : Bool) → ltb r.ticket t ≡ x → Settles c now (r ∷ rs) (pick x (of r.ticket) (of t))
      go true x =
          let p = first_row in
          lowest_idle_lem r.ticket p.0 p.1 q
          (λ u s g j. rows_cases u s g (λ h. omega (arith, h)) (λ h. omega (arith, f u s h j, ltb-true r.ticket t x)))
      go false x =
          let p = rest_row t o e in
          lowest_idle_lem t p.0 p.1 i
          (λ u s g j. rows_cases u s g (λ h. omega (arith, h, ltb-false r.ticket t x)) (λ h. f u s h j))

pub settles : (c : Clocked) (now : ℕ) (rs : List Row) → Settles c now rs (lowest_idle c now rs)
unfolding lowest_idle lookup
settles c now [] = none_idle (λ u o e. no o e)
settles c now (r ∷ rs) = more_settled c now r rs (lowest_idle c now rs) (settles c now rs) (idle c now r.ticket) refl
