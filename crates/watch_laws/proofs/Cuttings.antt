-- Every cutting of an input leads to the same: proved by the contracts of the calls alone. Assumes nothing.
use mathlib.Core.Path.{◌≡◌, sym, subst, ◌∙◌}
use mathlib.Core.List.{List, [], ◌∷◌, ◌++◌, append_assoc, append-nil}
use Prim.Native.Nat.{ℕ}
use native.Mathlib.Omega.{arith}
use lib.ListN.{length}
use Rattle.watch.specs.State.{fresh_watch, After, Reached}
use Rattle.watch.specs.Outcome.{ChunkOf}
use Rattle.watch.specs.declared.Watch.{Watch}
use Rattle.watch.specs.declared.Arrived.TheVariants.{Next as goes_on}
use Rattle.watch.proofs.ReachLaws.{reached_sound, sound_claims, fresh_stands}
use Rattle.watch_laws.specs.Cuttings.{joined, Fed, Demand6}
use Rattle.watch_laws.specs.Cuttings.Fed.{none, more}
use Rattle.watch_laws.proofs.AltidLaws.{read, alts, laid}
use Rattle.watch_laws.proofs.Parts.{parts, last, stays, zeros, gone}

pub after_reached : {w : Watch} {b i : List ℕ} → After w b i → Reached w b i
after_reached a = record { stands = a.stands; holds = λ h. a.holds }

next_same : {v w : Watch} → goes_on v ≡ goes_on w → v ≡ w
next_same e = cc

-- one chunk
pub one : {w v : Watch} {b d c : List ℕ} (i : List ℕ) → Reached w b i → length b ≡ 16384 → ChunkOf w b c (goes_on v) d → After v d (i ++ c) × (length d ≡ 16384)
one {w} {v} {b} {d} {c} i r h k =
    let x = k.led i r h in
    (subst (λ (y : Watch). After y d (i ++ c)) (sym (next_same x.1.0)) x.1.1, k.size ∙ h)

-- any chunks
pub run : {w u : Watch} {b e : List ℕ} {cs : List (List ℕ)} (i : List ℕ) → Reached w b i → length b ≡ 16384 → Fed w b cs u e → Reached u e (i ++ joined cs) × (length e ≡ 16384)
unfolding joined
run {w} {u} {b} {e} i r h none = (subst (Reached w b) (sym (append-nil i)) r, h)
run {w} {u} {b} {e} i r h (more {c = c} {cs = cs} k f) =
    let x = one i r h k in
    let y = run (i ++ c) (after_reached x.0) x.1 f in
    (subst (Reached u e) (append_assoc i c (joined cs)) y.0, y.1)

fresh : (b : List ℕ) → Reached fresh_watch b []
fresh b = record { stands = fresh_stands b; holds = λ h. absurd (omega arith) }

-- from the second chunk on the buffer is known
later : {w u : Watch} {b e : List ℕ} {cs : List (List ℕ)} (i : List ℕ) → After w b i → length b ≡ 16384 → Fed w b cs u e → After u e (i ++ joined cs)
unfolding joined
later {w} {u} {b} {e} i a h none = subst (After w b) (sym (append-nil i)) a
later {w} {u} {b} {e} i a h (more {c = c} {cs = cs} k f) =
    let x = one i (after_reached a) h k in
    subst (After u e) (append_assoc i c (joined cs)) (later (i ++ c) x.0 x.1 f)

begun : {u : Watch} {e : List ℕ} (b c : List ℕ) (cs : List (List ℕ)) → length b ≡ 16384 → Fed fresh_watch b (c ∷ cs) u e → After u e (joined (c ∷ cs))
unfolding joined
begun b c cs h (more k f) = let x = one [] (fresh b) h k in later c x.0 x.1 f

pub watched : Demand6
watched = record {
  same = λ b cs w d v h f e. let x = run [] (fresh b) h f in e.led (joined cs) x.0 x.1;
  holds = λ b c cs w d h f. begun b c cs h f;
  fits = λ b cs w d h f. let x = run [] (fresh b) h f in (sound_claims w (reached_sound w d (joined cs) x.0.stands), x.1);
  parts = parts;
  last = last;
  zero = zeros;
  stays = stays;
  read = read;
  alts = alts;
  laid = laid;
  gone = gone;
}
