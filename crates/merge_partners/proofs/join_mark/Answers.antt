-- `merge_partners::join_mark` meets its contract. Assumes nothing.
use borrow.Author.Tests.{eq-eqb, ne_eqb}
use mathlib.Core.Path.{◌≡◌, sym, ap, ◌∙◌}
use Prim.Native.Nat.{ℕ}
use native.Mathlib.Omega.{arith}
use lib.ListN.{length}
use Rattle.merge_partners.specs.Heads.{count_new, partner_of}
use Rattle.merge_partners.specs.Pairs.{join_all, mark_pairs}
use Rattle.merge_partners.proofs.NewLaws.{none_at_all}
use Rattle.merge_partners.proofs.join_mark.Goals as goal

pub returns-then-key-eq-NO_KEY : goal.returns-then-key-eq-NO_KEY
unfolding join_all mark_pairs
returns-then-key-eq-NO_KEY c = rw (eq-eqb c.args.key 4294967295 c.if-key-eq-NO_KEY.true)

pub count_new-requires : goal.count_new-requires
count_new-requires c = (c.requires.1 ∙ sym c.requires.0, omega (arith, c.requires.0, c.requires.2))

pub returns-then-count_new-eq0 : goal.returns-then-count_new-eq0
unfolding mark_pairs
returns-then-count_new-eq0 c =
    let a = c.args in
    let s = c.requires in
    let e : count_new a.m.now.tags.now a.m.now.seats.now a.tag (partner_of a.p.now a.i) 0 (length a.m.now.keys.now) ≡ 0 = ap (λ (m : ℕ). count_new a.m.now.tags.now a.m.now.seats.now a.tag m 0 (length a.m.now.keys.now)) (sym c.partner_of-partner.ensures) ∙ ap (count_new a.m.now.tags.now a.m.now.seats.now a.tag c.partner_of-partner.result 0) (sym s.0) ∙ sym c.count_new.ensures ∙ c.if-count_new-eq0.true in
    rw (ne_eqb a.key 4294967295 c.if-key-eq-NO_KEY.false) (sym (none_at_all a.x.now.copy.now a.x.now.records.now a.i a.key a.tag a.y.now.copy.now a.y.now.records.now a.m.now.numbers.now a.m.now.keys.now a.m.now.tags.now a.m.now.seats.now s a.p.now a.t.now (length a.m.now.keys.now) 0 (omega arith) e))

pub join_hits-requires : goal.join_hits-requires
join_hits-requires c = c.requires

pub returns : goal.returns
unfolding mark_pairs
returns c = rw (ne_eqb c.args.key 4294967295 c.if-key-eq-NO_KEY.false) c.join_hits.ensures
