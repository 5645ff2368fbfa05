-- `watch::Watch::chunk` meets its contract. Assumes nothing.
use native.Mathlib.Omega.{arith}
use mathlib.Core.Path.{refl, sym, ap, subst, ◌∙◌}
use mathlib.Core.List.{List}
use Prim.Native.Nat.{ℕ}
use borrow.Author.Tests.{ltb-true, ltb-false, not-true, not-false}
use Rattle.watch.specs.declared.Arrived.TheVariants.{Refused}
use Rattle.watch.specs.State.{claims}
use Rattle.watch.proofs.SoundLaws.{no_way}
use Rattle.watch.proofs.ReachLaws.{reached_sound, sound_claims, first_buffer, first_stands, later_buffer}
use Rattle.watch.specs.Outcome.{Comes, chunk_came}
use Rattle.watch.proofs.OutcomeLaws.{begun_first, begun_later}
use Rattle.watch.proofs.Watch.chunk.Goals as goal

pub returns-then-buffer-ne-OCTETS : goal.returns-then-buffer-ne-OCTETS
returns-then-buffer-ne-OCTETS c =
    record {
      another = λ h. (ap (λ (n : ℕ). Refused n 0) c.number.ensures, refl);
      over = λ e k. absurd (c.if-buffer-ne-OCTETS.true e);
      goes = λ e k. absurd (c.if-buffer-ne-OCTETS.true e);
      false = λ e k s. absurd (c.if-buffer-ne-OCTETS.true e);
      sound = λ e k s. absurd (c.if-buffer-ne-OCTETS.true e);
      led = λ i r e. absurd (c.if-buffer-ne-OCTETS.true e);
      size = refl;
    }

pub returns-then-over : goal.returns-then-over
returns-then-over c =
    let much = ltb-true 16384 (claims c.args.self) (sym c.is_over-over.ensures ∙ c.if-over.true) in
    record {
      another = λ h. absurd (h c.if-buffer-ne-OCTETS.false);
      over = λ e k. (ap (λ (n : ℕ). Refused n 0) c.number-then-over.ensures, refl);
      goes = λ e k. absurd (omega (arith, much, k));
      false = λ e k s. absurd (omega (arith, much, k));
      sound = λ e k s. absurd (omega (arith, much, k));
      led = λ i r e. absurd (omega (arith, much, sound_claims c.args.self (reached_sound c.args.self c.args.buffer.now i r.stands)));
      size = refl;
    }

pub returns-then-not-sound : goal.returns-then-not-sound
returns-then-not-sound c =
    let low = ltb-false 16384 (claims c.args.self) (sym c.is_over-over.ensures ∙ c.if-over.false) in
    let unsound = not-true c.is_sound-sound.result c.if-not-sound.true-raw in
    record {
      another = λ h. absurd (h c.if-buffer-ne-OCTETS.false);
      over = λ e k. absurd (omega (arith, low, k));
      goes = λ e k. (c.args.self, refl);
      false = λ e k s. (refl, refl);
      sound = λ e k s. no_way (sym unsound ∙ c.is_sound-sound.ensures.1 s);
      led = λ i r e. no_way (sym unsound ∙ c.is_sound-sound.ensures.1 (reached_sound c.args.self c.args.buffer.now i r.stands));
      size = refl;
    }

pub overflow_add-self : goal.overflow_add-self
overflow_add-self c = omega (arith, (c.is_sound-sound.ensures.0 (not-false c.is_sound-sound.result c.if-not-sound.false-raw)).counts.short)

pub arrive-requires : goal.arrive-requires
arrive-requires c = (c.is_sound-sound.ensures.0 (not-false c.is_sound-sound.result c.if-not-sound.false-raw), omega (arith, c.clear, c.if-buffer-ne-OCTETS.false))

pub returns-then-self-eq0 : goal.returns-then-self-eq0
returns-then-self-eq0 c =
    let low = ltb-false 16384 (claims c.args.self) (sym c.is_over-over.ensures ∙ c.if-over.false) in
    let sound = c.is_sound-sound.ensures.0 (not-false c.is_sound-sound.result c.if-not-sound.false-raw) in
    let a = c.args in
    let b = c.clear.new.buffer in
    record {
      another = λ h. absurd (h c.if-buffer-ne-OCTETS.false);
      over = λ e k. absurd (omega (arith, low, k));
      goes = λ e k. (c.arrive.result, refl);
      false = λ e k s. absurd (s sound);
      sound = λ e k s. (c.arrive.result, (refl, subst (λ (x : List ℕ). Comes c.arrive.result c.arrive.new.buffer (chunk_came a.self x a.chunk.now)) (begun_first a.self a.buffer.now b c.if-self-eq0.true c.clear.ensures) c.arrive.ensures.comes));
      led = λ i r e. (c.arrive.result, (refl, c.arrive.ensures.by_index i (first_stands a.self a.buffer.now i b r.stands c.if-self-eq0.true c.if-buffer-ne-OCTETS.false c.clear.ensures) (first_buffer a.self a.buffer.now i b r.stands c.if-self-eq0.true c.if-buffer-ne-OCTETS.false c.clear.ensures)));
      size = omega (arith, c.arrive, c.clear);
    }

pub arrive-requires-2 : goal.arrive-requires-2
arrive-requires-2 c = (c.is_sound-sound.ensures.0 (not-false c.is_sound-sound.result c.if-not-sound.false-raw), c.if-buffer-ne-OCTETS.false)

pub returns : goal.returns
returns c =
    let low = ltb-false 16384 (claims c.args.self) (sym c.is_over-over.ensures ∙ c.if-over.false) in
    let sound = c.is_sound-sound.ensures.0 (not-false c.is_sound-sound.result c.if-not-sound.false-raw) in
    let a = c.args in
    record {
      another = λ h. absurd (h c.if-buffer-ne-OCTETS.false);
      over = λ e k. absurd (omega (arith, low, k));
      goes = λ e k. (c.arrive-2.result, refl);
      false = λ e k s. absurd (s sound);
      sound = λ e k s. (c.arrive-2.result, (refl, subst (λ (x : List ℕ). Comes c.arrive-2.result c.arrive-2.new.buffer (chunk_came a.self x a.chunk.now)) (begun_later a.self a.buffer.now c.if-self-eq0.false) c.arrive-2.ensures.comes));
      led = λ i r e. (c.arrive-2.result, (refl, c.arrive-2.ensures.by_index i r.stands (later_buffer a.self a.buffer.now i r c.if-self-eq0.false)));
      size = omega (arith, c.arrive-2);
    }
