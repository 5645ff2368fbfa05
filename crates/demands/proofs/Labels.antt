-- What encode and decode refuse, and what they write. Assumes nothing.
use Prim.Native.Nat.{ℕ, ◌≤◌}
use mathlib.Core.Path.{◌≡◌, refl, ap, ◌∙◌}
use mathlib.Core.Bool.{true}
use mathlib.Core.List.{List}
use native.Mathlib.Omega.{arith}
use lib.Dec.{ltb}
use lib.ListN.{length, take}
use borrow.Author.Tests.{ltb-true, ltb-false, lt-ltb, le-ltb}
use Rattle.octets.specs.Classes.{quoted, run}
use Rattle.octets.specs.Room.{Filled, refuse, overlay, fill, fill_bounded}
use Rattle.octets.specs.Room.{Refused}
use Rattle.utf8.specs.Characters.{allowed}
use Rattle.utf8_laws.specs.Texts.{Text}
use Rattle.utf8_laws.proofs.Utf8.{bad_nowhere}
use Rattle.label_carets.specs.Encoded.{encoded}
use Rattle.label_carets.specs.Decoded.{decoded}
use Rattle.label_carets.specs.declared.Rule.{Rule}
use Rattle.label_carets.specs.declared.Rule.TheVariants.{Rfc6350, Rfc6868}
use Rattle.label_carets.proofs.EncodeLaws.{old_encoded}
use Rattle.label_carets.proofs.PairLaws.{old_decoded}
use Rattle.label.specs.Outcomes.{writable, sayable, encode_outcome, decode_outcome}
use Rattle.label_laws.specs.Reads.{Reads, Sayable}
use Rattle.label_laws.proofs.ReadsLaws.{reads_so, reads_some, reads_once, caretless_reads, encoded_reads}
use Rattle.label_laws.proofs.QuotedLaws.{new_says, old_says, says_old, first_unsaid, unsaid_first}
use Rattle.label_laws.proofs.BackLaws.{same_outcome, run_le, wrote_encoded, wrote_decoded, written, back}
use Rattle.desk_ledger.specs.Answers.{told, wrote as written_as}
use Rattle.demands.specs.Demand1.{Fair, FairBy, EncodeBy, no_value, unsaid, encode_over, encode_room, DecodeBy, not_label, label_room}
use Rattle.demands.specs.Demand2.{Writes}
use Rattle.demands.specs.Labels.{Labels}
use Rattle.demands.proofs.Refusing.{FillingByCase as Filling, first}
use Rattle.demands.proofs.Texts.{written_tells, fill_told, bounded_told, checked_told, checked_unfair, checked_fair, over_so, short_so, within_so}
use Rattle.demands.proofs.Exact.{wrote, fill_so, bounded_so, filled_so, writes}

-- ---- what is refused

-- a rule that can write the value goes on
says : (r : Rule) (t out : List ℕ) (left : Filled) → Sayable r t → sayable r t out left ≡ left
says Rfc6350 t out left s = rw (le-ltb (run writable t) (length t) (omega (arith, says_old s)))
says Rfc6868 t out left s = refl

module _ (t out : List ℕ) where
  -- the value itself is short
  old_short : Fair true t → length (encoded Rfc6350 t) ≤ 16384
  old_short f = rw (old_encoded t) f.short

  said_told : (r : Rule) → Fair true t → (n p : ℕ) → (sayable r t out (fill_bounded (encoded r t) out)).answer ≡ Refused n p → EncodeBy t out r n p
  said_told Rfc6868 f n p e =
      bounded_told (EncodeBy t out Rfc6868) (encoded Rfc6868 t) out n p e (λ h. encode_over f h) (λ h k. encode_room f (new_says t) h k)
  said_told Rfc6350 f n p e =
      first (written_tells out) (EncodeBy t out Rfc6350) (ltb (run writable t) (length t)) 44 (run writable t) n p _ e
      (λ a. unsaid f (first_unsaid t (ltb-true (run writable t) (length t) a)))
      (λ a g.
      let s = old_says t (omega (arith, ltb-false (run writable t) (length t) a, run_le writable t)) in
      bounded_told (EncodeBy t out Rfc6350) (encoded Rfc6350 t) out n p g (λ h. absurd (omega (arith, old_short f))) (λ h k. encode_room f s h k))

  module _ (r : Rule) where
    encode_told : (n p : ℕ) → (encode_outcome r t out).answer ≡ Refused n p → EncodeBy t out r n p
    unfolding encode_outcome
    encode_told n p e = checked_told (allowed true) t out (EncodeBy t out r) (sayable r t out (fill_bounded (encoded r t) out)) n p e (λ m q u. no_value u) (λ f g. said_told r f n p g)

    decode_told : (n p : ℕ) → (decode_outcome r t out).answer ≡ Refused n p → DecodeBy t out r n p
    unfolding decode_outcome
    decode_told n p e =
        checked_told quoted t out (DecodeBy t out r) (fill (decoded r t) out) n p e (λ m q u. not_label u)
        (λ f g. fill_told (DecodeBy t out r) (decoded r t) out n p g (λ l. label_room f (reads_some r t) l))

    decode_so : (n p : ℕ) → DecodeBy t out r n p → decode_outcome r t out ≡ refuse n p out
    unfolding decode_outcome
    decode_so n p (not_label u) = checked_unfair quoted t out _ n p u
    decode_so n p (label_room {v = v} f d h) = checked_fair quoted t out _ f ∙ rw (reads_so d) (short_so v out h)

  encode_so : (r : Rule) (n p : ℕ) → EncodeBy t out r n p → encode_outcome r t out ≡ refuse n p out
  unfolding encode_outcome
  encode_so r n p (no_value u) = checked_unfair (allowed true) t out _ n p u
  encode_so r n p (unsaid f u) = checked_fair (allowed true) t out _ f ∙ rw (unsaid_first t p u, lt-ltb p (length t) u.inside)
  encode_so r n p (encode_over f h) = checked_fair (allowed true) t out _ f ∙ over_so (encoded Rfc6868 t) out h
  encode_so r n p (encode_room f s h k) =
      checked_fair (allowed true) t out _ f ∙ says r t out (fill_bounded (encoded r t) out) s ∙ within_so (encoded r t) out h ∙ short_so (encoded r t) out k

  pub encode_exactly : (r : Rule) → Filling (encode_outcome r t out) out (EncodeBy t out r)
  encode_exactly r = record { only = encode_told r; unchanged = encode_so r }

  pub decode_exactly : (r : Rule) → Filling (decode_outcome r t out) out (DecodeBy t out r)
  decode_exactly r = record { only = decode_told r; unchanged = decode_so r }

-- ---- what is written

decodes : (r : Rule) (t v out : List ℕ) → FairBy quoted t → Reads r t v → length v ≤ length out → decode_outcome r t out ≡ wrote v out
unfolding decode_outcome
decodes r t v out f d h = checked_fair quoted t out _ f ∙ rw (reads_so d) (fill_so v out h)

encodes : (r : Rule) (t out : List ℕ) → Fair true t → Sayable r t → length (encoded r t) ≤ 16384 → length (encoded r t) ≤ length out → encode_outcome r t out ≡ wrote (encoded r t) out
unfolding encode_outcome
encodes r t out f s b h = checked_fair (allowed true) t out _ f ∙ says r t out (fill_bounded (encoded r t) out) s ∙ bounded_so (encoded r t) out b h

between : (r : Rule) (t out : List ℕ) (n : ℕ) → written_as (encode_outcome r t out).answer ≡ told n → Text quoted (take n (encode_outcome r t out).room)
between r t out n e =
    let w = wrote_encoded r t out (encode_outcome r t out).room n (filled_so (encode_outcome r t out) n e) in
    rw (written w) ((bad_nowhere quoted (encoded r t)).0 w.fair)

-- what was written is the octets themselves
as_it_is : (f : Filled) (n : ℕ) (xs t out : List ℕ) → written_as f.answer ≡ told n → n ≡ length xs → f.room ≡ overlay xs out → xs ≡ t → Writes f t out
as_it_is f n xs t out e c h q = record { count = e ∙ ap told (c ∙ ap length q); holds = h ∙ ap (λ (l : List ℕ). overlay l out) q }

pub labels : Labels
labels =
    record {
      some = λ r w. (decoded r w, reads_some r w);
      one = reads_once;
      decodes = λ r t v out f d h. writes (decodes r t v out f d h);
      itself = caretless_reads;
      same = same_outcome;
      encodes = λ r t out f s b h. writes (encodes r t out f s b h);
      stands = encoded_reads;
      between = between;
      back = λ r t out room n e h. writes (back r t out (encode_outcome r t out).room room n (filled_so (encode_outcome r t out) n e) h);
      old_encodes = λ t out n e.
          let w = wrote_encoded Rfc6350 t out (encode_outcome Rfc6350 t out).room n (filled_so (encode_outcome Rfc6350 t out) n e) in
          as_it_is (encode_outcome Rfc6350 t out) n (encoded Rfc6350 t) t out e w.count w.holds (old_encoded t);
      old_decodes = λ t out n e.
          let w = wrote_decoded Rfc6350 t out (decode_outcome Rfc6350 t out).room n (filled_so (decode_outcome Rfc6350 t out) n e) in
          as_it_is (decode_outcome Rfc6350 t out) n (decoded Rfc6350 t) t out e w.0 w.1 (old_decoded t);
    }
