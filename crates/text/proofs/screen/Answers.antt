-- `text::screen` meets its contract. Assumes nothing.
use mathlib.Core.Path.{◌≡◌, sym}
use mathlib.Core.Bool.{false}
use lib.ListN.{length}
use native.Mathlib.Omega.{arith}
use Rattle.octets.specs.Counts.{any}
use borrow.Author.Rules.{rules}
use borrow.Author.Tests.{lt-ltb, le-ltb}
use Rattle.text_marks.specs.Seen.{seen_by}
use Rattle.text_marks.proofs.SeenLaws.{seen_plain}
use Rattle.utf8.specs.Characters.{first_bad}
use Rattle.text.specs.Screened.{screened_by}
use Rattle.text.proofs.screen.Goals.{then-seen-eq0-via-then-seen-eq0, then-seen-eq0-via-else-seen-eq0+then-seen-eq2}
use Rattle.text.proofs.screen.Goals as goal

pub returns-then-text-gt-OCTETS : goal.returns-then-text-gt-OCTETS
unfolding screened_by
returns-then-text-gt-OCTETS g c = λ p a h saw found good. simp (lt-ltb 16384 (length c.args.text.now) c.if-text-gt-OCTETS.true)

pub returns-then-bad-text : goal.returns-then-bad-text
unfolding screened_by
returns-then-bad-text g c = λ p a h saw found good.
    let t = c.args.text.now in
    let n = length c.args.text.now in
    let e : c.see-seen.result ≡ seen_by a h t = saw _ (search rules) in
    let f : c.first_bad-bad.result ≡ first_bad p t = found _ (search rules) in
    simp (le-ltb 16384 n c.if-text-gt-OCTETS.false, sym f, lt-ltb c.first_bad-bad.result n c.if-bad-text.true)

pub returns : goal.returns
unfolding screened_by
returns g c = λ p a h saw found good.
    let t = c.args.text.now in
    let n = length c.args.text.now in
    let e : c.see-seen.result ≡ seen_by a h t = saw _ (search rules) in
    let f : c.first_bad-bad.result ≡ first_bad p t = found _ (search rules) in
    simp (
      le-ltb 16384 n c.if-text-gt-OCTETS.false,
      sym f,
      le-ltb c.first_bad-bad.result n c.if-bad-text.false,
      sym e,
    )

pub returns-then-seen-eq0 : goal.returns-then-seen-eq0
unfolding screened_by
returns-then-seen-eq0 g c = λ p a h saw found good.
    let t = c.args.text.now in
    let n = length c.args.text.now in
    let e : c.see-seen.result ≡ seen_by a h t = saw _ (search rules) in
    let none : any a t ≡ false =
    elim c.then-seen-eq0.branch [
      | then-seen-eq0-via-then-seen-eq0 w ↦ (seen_plain a h t c.see-seen.result e).0 w.if-seen-eq0.true
      | then-seen-eq0-via-else-seen-eq0+then-seen-eq2 w ↦ (seen_plain a h t c.see-seen.result e).1 w.if-seen-eq2.true
    ] in
    simp (le-ltb 16384 n c.if-text-gt-OCTETS.false, good none, le-ltb n n (omega arith), sym e)
