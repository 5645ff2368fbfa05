-- Octets that were added chunk by chunk are held, whatever else is called. Assumes nothing.
use Prim.Native.Nat.{ℕ, ◌+◌, ◌≤◌}
use mathlib.Core.Path.{◌≡◌, sym, ap, ◌∙◌}
use mathlib.Core.Bool.{Bool}
use mathlib.Core.List.{List, [], ◌∷◌, ◌++◌, append_assoc, append-nil}
use native.Mathlib.Omega.{arith}
use lib.ListN.{length, take, drop, length-append}
use lib.Seq.{take-add}
use borrow.Author.Tests.{le-ltb}
use Rattle.numbers.specs.Limits as limit
use Rattle.octets.specs.Pick.{pick}
use Rattle.desk_ledger.specs.Ledger.{Deed, adds, Found, present, answer, leaves}
use Rattle.desk_ledger.specs.Ticks.{Ticked, opens_at}
use Rattle.desk_ledger.specs.Desks.{Proper}
use Rattle.desk_laws.specs.Chunks.{pieces, total}
use Rattle.desk_laws.specs.Demand.{Grants, Kept, deeds_on, asked}
use Rattle.desk_laws.proofs.Noninterference.{fates}
use Rattle.desk_laws.proofs.Demand.{asked_so}

-- a chunk that fits
chunk_fits : (a q : List ℕ) → length a + length q ≤ limit.octets → leaves (present a) (adds q) ≡ present (a ++ q)
chunk_fits a q h = ap (λ (b : Bool). present (pick b a (a ++ q))) (le-ltb limit.octets (length a + length q) h)

take_then : (n k : ℕ) (o : List ℕ) → take n o ++ take k (drop n o) ≡ take (n + k) o
take_then n k o = sym (take-add n k o)

-- an upload that holds a, and then the chunks
pieces_held : (ns a o : List ℕ) → length a + length (take (total ns) o) ≤ limit.octets → fates (present a) (pieces ns o) ≡ present (a ++ take (total ns) o)
unfolding pieces total fates
pieces_held [] a o h = ap present (sym (append-nil a))
pieces_held (n ∷ ns) a o h =
    let e : length (take (n + total ns) o) ≡ length (take n o) + length (take (total ns) (drop n o)) =
    sym (ap length (take_then n (total ns) o)) ∙ length-append (take n o) (take (total ns) (drop n o)) in
    let l : length (a ++ take n o) ≡ length a + length (take n o) = length-append a (take n o) in
    ap (λ (f : Found). fates f (pieces ns (drop n o))) (chunk_fits a (take n o) (omega arith))
    ∙ pieces_held ns (a ++ take n o) (drop n o) (omega arith)
    ∙ ap present (append_assoc a (take n o) (take (total ns) (drop n o)) ∙ ap (λ (r : List ℕ). a ++ r) (take_then n (total ns) o))

-- an upload that was granted and is kept, and whose own calls add the octets chunk by chunk, answers whatever is asked of it, the next chunk too, as one that
-- holds exactly the octets taken so far; what is called for other uploads changes nothing
pub octets_held : (n : ℕ) (p : List ℕ) → Proper n p → (xs : List Ticked) (m τ t : ℕ) → Grants n p xs m τ t
    → (octets ns : List ℕ) → length (take (total ns) octets) ≤ limit.octets → (ys : List Ticked) → Kept n xs m τ t ys → deeds_on t ys ≡ pieces ns octets
    → (x : Deed) (σ : ℕ) → asked n p (xs ++ opens_at m τ ∷ ys) t x σ ≡ answer (present (take (total ns) octets)) x
octets_held n p f xs m τ t g octets ns h ys s e x σ =
    asked_so n p f xs m τ t g ys s x σ ∙ ap (λ (ds : List Deed). answer (fates (present []) ds) x) e ∙ ap (λ (r : Found). answer r x) (pieces_held ns [] octets (omega arith))
