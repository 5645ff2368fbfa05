-- Every list of calls with chunks of at most 65,535 octets is what some script decodes to. Assumes nothing.
use Prim.Native.Nat.{ℕ, suc, ◌+◌, ◌*◌, ◌/◌, ◌%◌, ◌≤◌}
use mathlib.Core.Path.{◌≡◌, refl, ap, ◌∙◌}
use mathlib.Core.Bool.{true}
use mathlib.Core.List.{List, [], ◌∷◌, ◌++◌}
use native.Mathlib.Nat.{zero-add}
use native.Mathlib.Omega.{arith}
use lib.Dec.{leb}
use lib.ListN.{length, drop, length-append}
use lib.Seq.{take-append_seam, drop-append_seam}
use borrow.Author.Tests.{le-leb, eq-eqb}
use Rattle.octets.specs.Scan.{scan}
use Rattle.octets.proofs.Scans.{scan_step}
use Rattle.desk_ledger.specs.Ticks.{judging, showing, counting, releasing, Ticked, opens_at, adds_at, asks_of}
use Rattle.replay_script.specs.Numerals.{two_at, four_at, two_octets, four_octets}
use Rattle.replay_script.specs.Scripts.{needed, width, call_of, calls_in, decode}
use Rattle.replay_script.proofs.NumeralLaws.{two_value, four_value}
use Rattle.replay_script.proofs.ScriptLaws.{first}
use Rattle.replay_laws.specs.Encoding.{encode_call, encode, Octets, CallFits, Fit, Scripted}

-- what stands at the start of a script
record Starts (c : Ticked) (r : List ℕ) : Type 0 where
  wide : width (encode_call c ++ r) ≡ length (encode_call c)
  some : 1 ≤ length (encode_call c)
  call : call_of (encode_call c ++ r) ≡ c

five : (n : ℕ) → leb 5 (suc (suc (suc (suc (suc n))))) ≡ true
five n = le-leb 5 (suc (suc (suc (suc (suc n))))) (omega arith)

nine : (n : ℕ) → leb 9 (suc (suc (suc (suc (suc (suc (suc (suc (suc n))))))))) ≡ true
nine n = le-leb 9 (suc (suc (suc (suc (suc (suc (suc (suc (suc n))))))))) (omega arith)

eleven : (k n : ℕ) → k ≤ n → leb (11 + k) (suc (suc (suc (suc (suc (suc (suc (suc (suc (suc (suc n))))))))))) ≡ true
eleven k n h = le-leb (11 + k) (suc (suc (suc (suc (suc (suc (suc (suc (suc (suc (suc n))))))))))) (omega arith)

starts : (c : Ticked) (r : List ℕ) → CallFits c → Starts c r
unfolding width needed call_of two_at four_at two_octets four_octets
starts (opens_at m τ) r h = record { wide = rw (nine (length r)); some = omega arith; call = rw (four_value m h.0, four_value τ h.1) }
starts (adds_at t q τ) r h =
    let e : length q / 256 % 256 * 256 + length q % 256 ≡ length q = two_value (length q) (omega arith) in
    record {
      wide = rw (e, eleven (length q) (length (q ++ r)) (rw length-append (omega arith))) (omega arith);
      some = omega arith;
      call = rw (e, four_value t h.0, four_value τ h.1, take-append_seam q r);
    }
starts (asks_of t judging) r h = record { wide = rw (five (length r)); some = omega arith; call = ap (λ (n : ℕ). asks_of n judging) (four_value t h) }
starts (asks_of t showing) r h = record { wide = rw (five (length r)); some = omega arith; call = ap (λ (n : ℕ). asks_of n showing) (four_value t h) }
starts (asks_of t counting) r h = record { wide = rw (five (length r)); some = omega arith; call = ap (λ (n : ℕ). asks_of n counting) (four_value t h) }
starts (asks_of t releasing) r h = record { wide = rw (five (length r)); some = omega arith; call = ap (λ (n : ℕ). asks_of n releasing) (four_value t h) }

scans : (cs : List Ticked) → Fit cs → scan width (encode cs) 0 ≡ length (encode cs)
unfolding encode Fit scan
scans [] h = refl
scans (c ∷ cs) h =
    let s = starts c (encode cs) h.0 in
    let l : length (encode_call c ++ encode cs) ≡ length (encode_call c) + length (encode cs) = length-append (encode_call c) (encode cs) in
    let a = scan_step width (encode_call c ++ encode cs) 0 (length (encode_call c)) s.wide s.some (omega arith) in
    let d : drop (0 + length (encode_call c)) (encode_call c ++ encode cs) ≡ encode cs = ap (λ (k : ℕ). drop k (encode_call c ++ encode cs)) (zero-add (length (encode_call c))) ∙ drop-append_seam (encode_call c) (encode cs) in
    let b = rw d at a in
    omega (arith, scans cs h.1)

finds : (cs : List Ticked) → Fit cs → calls_in (encode cs) 0 ≡ cs
unfolding encode Fit calls_in
finds [] h = refl
finds (c ∷ cs) h =
    let s = starts c (encode cs) h.0 in
    let l : length (encode_call c ++ encode cs) ≡ length (encode_call c) + length (encode cs) = length-append (encode_call c) (encode cs) in
    first (encode_call c ++ encode cs) (length (encode_call c)) (omega (arith, s.some)) s.wide s.some
    ∙ rw (s.call, drop-append_seam (encode_call c) (encode cs), finds cs h.1)

octets_append : (xs ys : List ℕ) → Octets xs → Octets ys → Octets (xs ++ ys)
unfolding Octets
octets_append [] ys h k = k
octets_append (x ∷ xs) ys h k = (h.0, octets_append xs ys h.1 k)

call_octets : (c : Ticked) → CallFits c → Octets (encode_call c)
unfolding Octets two_octets four_octets
call_octets (opens_at m τ) h = (omega arith, (omega arith, (omega arith, (omega arith, (omega arith, (omega arith, (omega arith, (omega arith, (omega arith, tt)))))))))
call_octets (adds_at t q τ) h =
    (omega arith, (omega arith, (omega arith, (omega arith, (omega arith, (omega arith, (omega arith, (omega arith, (omega arith, (omega arith, (omega arith, h.3)))))))))))
call_octets (asks_of t judging) h = (omega arith, (omega arith, (omega arith, (omega arith, (omega arith, tt)))))
call_octets (asks_of t showing) h = (omega arith, (omega arith, (omega arith, (omega arith, (omega arith, tt)))))
call_octets (asks_of t counting) h = (omega arith, (omega arith, (omega arith, (omega arith, (omega arith, tt)))))
call_octets (asks_of t releasing) h = (omega arith, (omega arith, (omega arith, (omega arith, (omega arith, tt)))))

octets : (cs : List Ticked) → Fit cs → Octets (encode cs)
unfolding encode Fit Octets
octets [] h = tt
octets (c ∷ cs) h = octets_append (encode_call c) (encode cs) (call_octets c h.0) (octets cs h.1)

pub every_list : (cs : List Ticked) → Fit cs → Scripted cs
unfolding decode
every_list cs h =
    record {
      script = encode cs;
      octets = octets cs h;
      decodes = rw (eq-eqb (scan width (encode cs) 0) (length (encode cs)) (scans cs h), finds cs h);
    }
