-- `watch::Watch::end` meets its contract. Assumes nothing.
use native.Mathlib.Omega.{arith}
use mathlib.Core.Path.{refl, sym, ◌∙◌}
use borrow.Author.Tests.{ltb-true, ltb-false, not-true, not-false}
use Rattle.watch.specs.State.{claims}
use Rattle.watch.proofs.SoundLaws.{no_way}
use Rattle.watch.proofs.ReachLaws.{reached_sound, sound_claims}
use Rattle.watch.proofs.Watch.end.Goals as goal

pub returns-then-buffer-ne-OCTETS : goal.returns-then-buffer-ne-OCTETS
returns-then-buffer-ne-OCTETS c =
    record {
      another = λ h. refl;
      over = λ e k. absurd (c.if-buffer-ne-OCTETS.true e);
      false = λ e k s. absurd (c.if-buffer-ne-OCTETS.true e);
      sound = λ e k s. absurd (c.if-buffer-ne-OCTETS.true e);
      led = λ i r e. absurd (c.if-buffer-ne-OCTETS.true e);
    }

pub returns-then-over : goal.returns-then-over
returns-then-over c =
    let much = ltb-true 16384 (claims c.args.self) (sym c.is_over-over.ensures ∙ c.if-over.true) in
    record {
      another = λ h. absurd (h c.if-buffer-ne-OCTETS.false);
      over = λ e k. refl;
      false = λ e k s. absurd (omega (arith, much, k));
      sound = λ e k s. absurd (omega (arith, much, k));
      led = λ i r e. absurd (omega (arith, much, sound_claims c.args.self (reached_sound c.args.self c.args.buffer.now i r.stands)));
    }

pub returns-then-not-sound : goal.returns-then-not-sound
returns-then-not-sound c =
    let low = ltb-false 16384 (claims c.args.self) (sym c.is_over-over.ensures ∙ c.if-over.false) in
    let unsound = not-true c.is_sound-sound.result c.if-not-sound.true-raw in
    record {
      another = λ h. absurd (h c.if-buffer-ne-OCTETS.false);
      over = λ e k. absurd (omega (arith, low, k));
      false = λ e k s. refl;
      sound = λ e k s. no_way (sym unsound ∙ c.is_sound-sound.ensures.1 s);
      led = λ i r e. no_way (sym unsound ∙ c.is_sound-sound.ensures.1 (reached_sound c.args.self c.args.buffer.now i r.stands));
    }

pub conclude-requires : goal.conclude-requires
conclude-requires c = (c.is_sound-sound.ensures.0 (not-false c.is_sound-sound.result c.if-not-sound.false-raw), c.if-buffer-ne-OCTETS.false)

pub returns : goal.returns
returns c =
    let low = ltb-false 16384 (claims c.args.self) (sym c.is_over-over.ensures ∙ c.if-over.false) in
    let sound = c.is_sound-sound.ensures.0 (not-false c.is_sound-sound.result c.if-not-sound.false-raw) in
    record {
      another = λ h. absurd (h c.if-buffer-ne-OCTETS.false);
      over = λ e k. absurd (omega (arith, low, k));
      false = λ e k s. absurd (s sound);
      sound = λ e k s. c.conclude.ensures.value;
      led = λ i r e. c.conclude.ensures.by_index i r;
    }
