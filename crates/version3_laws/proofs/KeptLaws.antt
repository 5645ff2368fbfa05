-- A card that is taken in and given out keeps what its values say; taken in again it gives the same octets; a line without pref and PREF keeps
-- its parameters. Assumes nothing.
use mathlib.Core.Path.{◌≡◌, refl, sym, ap, subst, ◌∙◌}
use mathlib.Core.List.{List, [], ◌∷◌, ◌++◌}
use Prim.Native.Nat.{ℕ, ◌≤◌}
use native.Mathlib.Omega.{arith}
use lib.ListN.{length, take}
use lib.Seq.{take-append_seam}
use Rattle.octets.specs.Ascii.{octets}
use Rattle.octets.specs.Room.{filled, fill_bounded}
use Rattle.octets.specs.Room.{Wrote}
use Rattle.line_parser.specs.Grammar.{Param, Line, Each}
use Rattle.property_table.specs.declared.Edition.TheVariants.{First}
use Rattle.card_line.specs.Parts.{row_of_line, kind_of_line}
use Rattle.reader_grammar.specs.Cards.{Readable, CardLines, lines_of}
use Rattle.reader_grammar.specs.Inputs.{Written}
use Rattle.reader_grammar.proofs.BegunLaws.{each_join, each_split}
use Rattle.version3_parameters.specs.declared.Way.{Way}
use Rattle.version3_parameters.specs.declared.Way.TheVariants.{Inward, Outward}
use Rattle.version3.specs.Outcome.{take_outcome, give_outcome}
use Rattle.version3_laws.specs.Params.{Named, Nowhere, Preferred, ParamsIn, ParamsOut}
use Rattle.version3_laws.specs.Params as params
use Rattle.version3_laws.specs.Lines.{Eleven, TakenIn, GivenOut, GoesOver, VersionRead, versioned}
use Rattle.version3_laws.specs.Cards.{Pairs, CardBy, card, Converts, card_octets}
use Rattle.version3_laws.specs.Cards as cards
use Rattle.version3_laws.specs.Keeps.{KeepsLine, Keeps}
use Rattle.version3_laws.specs.Keeps as keeps
use Rattle.version3_laws.proofs.NewLines.{goes_readable, version_readable}
use Rattle.version3_laws.proofs.AnswerLaws.{fill_to, Card, card_answer}
use Rattle.version3_laws.proofs.TakeLaws.{takes}
use Rattle.version3_laws.proofs.GiveLaws.{give_card}
use Rattle.version3_laws.proofs.AcceptLaws.{folded_written, row_same, kind_same, pairs_readable, pairs_count, pairs_join, versioned_row, taken_card, octets_written}
use Rattle.version3_laws.proofs.BackLaws.{value_back, params_back}

-- ---- a line

pub record LineBack (x y : Line) : Type 0 where
  pub out : Line
  pub given : GivenOut y out
  pub again : TakenIn out y
  pub kept : KeepsLine x out

pub line_back : (x y : Line) → Readable x → TakenIn x y → LineBack x y
line_back x y r h =
    let v = value_back h.value in
    let p = params_back h.params h.no_pref in
    let z : Line = record { group = y.group; name = y.name; params = p.out; value = v.out } in
    let a = row_same Inward x y r h in
    let b = kind_same Inward x y r h in
    let g : GivenOut y z = record {
      row = subst Eleven (sym a) h.row;
      group = refl;
      name = refl;
      params = p.given;
      value = rw (a, b) v.given;
    } in
    let s = goes_readable Inward x y r h in
    let c : row_of_line First z ≡ row_of_line First x = row_same Outward y z s g ∙ a in
    let d : kind_of_line First z ≡ kind_of_line First x = kind_same Outward y z s g ∙ b in
    record {
      out = z;
      given = g;
      again = record {
        row = subst Eleven (sym c) h.row;
        no_pref = p.nowhere;
        group = refl;
        name = refl;
        params = p.again;
        value = rw (c, d) v.again;
        fits = rw d h.fits;
      };
      kept = record { group = h.group; name = h.name; value = v.kept };
    }

-- ---- lines

pub record LinesBack (us us' : List Line) : Type 0 where
  pub out : List Line
  pub given : Pairs (GoesOver Outward) us' out
  pub again : Pairs (GoesOver Inward) out us'
  pub kept : Pairs KeepsLine us out

pub lines_back : {us us' : List Line} → Pairs (GoesOver Inward) us us' → Each Readable us → LinesBack us us'
unfolding Each
lines_back cards.none r = record { out = []; given = cards.none; again = cards.none; kept = cards.none }
lines_back (cards.more {x = x} {y = y} h p) r =
    let a = line_back x y r.0 h in
    let b = lines_back p r.1 in
    record { out = a.out ∷ b.out; given = cards.more a.given b.given; again = cards.more a.again b.again; kept = cards.more a.kept b.kept }

-- ---- the card

pub record CardBack (xs ys : List Line) : Type 0 where
  pub out : List Line
  pub given : CardBy Outward ys out
  pub again : CardBy Inward out ys
  pub kept : Keeps xs out
  pub readable : Each Readable out

same_number : (v : Line) → VersionRead Inward v → versioned Outward (versioned Inward v) ≡ v
same_number v h = λ i. record { group = v.group; name = v.name; params = v.params; value = sym h.value i }

pub card_back : {xs ys : List Line} → CardBy Inward xs ys → Each Readable xs → CardBack xs ys
unfolding Each
card_back (card b v z us us' xs xs' hb hv hz pu px n f) r =
    let ru = each_split First Readable us (v ∷ (xs ++ (z ∷ []))) r.1 in
    let rx = each_split First Readable xs (z ∷ []) ru.1.1 in
    let p = pairs_join Inward pu px in
    let rp = each_join First Readable us xs ru.0 rx.0 in
    let bu = lines_back pu ru.0 in
    let bx = lines_back px rx.0 in
    let given = pairs_join Outward bu.given bx.given in
    let again = pairs_join Inward bu.again bx.again in
    let ry = pairs_readable Inward p rp in
    let rz = pairs_readable Outward given ry in
    let w = us' ++ xs' in
    let o = bu.out ++ bx.out in
    let four = versioned Inward v in
    let three = versioned Outward four in
    let q : three ≡ v = same_number v hv in
    let hf : VersionRead Outward four = record { row = versioned_row Inward v ∙ hv.row; bare = record { group = hv.bare.group; params = hv.bare.params }; value = refl } in
    let ht : VersionRead Inward three = record { row = versioned_row Outward four ∙ versioned_row Inward v ∙ hv.row; bare = record { group = hv.bare.group; params = hv.bare.params }; value = refl } in
    let nw : lines_of First 7 w ≡ 1 = pairs_count Inward 7 p rp ∙ n in
    let fw : 1 ≤ lines_of First 6 w = omega (arith, pairs_count Inward 6 p rp, f) in
    record {
      out = b ∷ three ∷ (o ++ (z ∷ []));
      given = card b four z [] [] w o hb hf hz cards.none given nw fw;
      again = card b three z [] [] o w hb ht hz cards.none again (pairs_count Outward 7 given ry ∙ nw) (omega (arith, pairs_count Outward 6 given ry, fw));
      kept = subst (λ (t : Line). Keeps (b ∷ (us ++ (v ∷ (xs ++ (z ∷ []))))) (b ∷ t ∷ (o ++ (z ∷ [])))) (sym q) (keeps.card b v z us bu.out xs bx.out hv.row bu.kept bx.kept);
      readable = (r.0, (version_readable Outward four (version_readable Inward v ru.1.0), each_join First Readable o (z ∷ []) rz (rx.1.0, tt)));
    }

-- ---- the octets

-- octets that are a card's lines, folded
written_card : (w : Way) (xs ys : List Line) → Each Readable xs → CardBy w xs ys → Card w (card_octets xs) ys
unfolding card_octets
written_card w xs ys r c = record { lines = xs; written = folded_written xs; readable = r; card = c }

given_octets : (ys zs : List Line) → length (card_octets ys) ≤ 16384 → Each Readable ys → CardLines First ys → CardBy Outward ys zs → Converts Outward (card_octets ys) zs
unfolding card_octets
given_octets ys zs h r s c = record { short = h; lines = ys; written = folded_written ys; readable = r; source = s; card = c }

-- what was taken in, with what it is given out as
pub record Back (i t : List ℕ) : Type 0 where
  pub lines : List Line
  pub out : List Line
  pub written : Written lines i
  pub readable : Each Readable lines
  pub kept : Keeps lines out
  pub given : (room : List ℕ) → give_outcome t room ≡ fill_bounded (card_octets out) room
  pub again : length (card_octets out) ≤ 16384 → (room : List ℕ) → take_outcome (card_octets out) room ≡ fill_bounded t room

pub back : (i room after : List ℕ) (n : ℕ) → take_outcome i room ≡ filled (Wrote n) after → Back i (take n after)
back i room after n e =
    let h = (takes i room n after).0 e in
    let c = h.card in
    let w = taken_card c.card c.readable in
    let b = card_back c.card c.readable in
    let t = octets_written h in
    record {
      lines = c.lines;
      out = b.out;
      written = c.written;
      readable = c.readable;
      kept = b.kept;
      given = λ r. ap (λ (u : List ℕ). give_outcome u r) t ∙ give_card (card_octets h.lines) r (given_octets h.lines b.out h.short w.readable w.card b.given);
      again = λ s r. card_answer Inward (card_octets b.out) r s (written_card Inward b.out h.lines b.readable b.again) ∙ ap (λ (u : List ℕ). fill_bounded u r) (sym t);
    }

-- taken in and given out, it is refused for room at most, and keeps what its values say
pub kept : (i room after : List ℕ) (n : ℕ) → take_outcome i room ≡ filled (Wrote n) after
    → (xs : List Line) × (zs : List Line) × Written xs i × Each Readable xs × Keeps xs zs × ((r : List ℕ) → give_outcome (take n after) r ≡ fill_bounded (card_octets zs) r)
kept i room after n e = let b = back i room after n e in (b.lines, b.out, b.written, b.readable, b.kept, b.given)

-- in, out and in again gives the same octets
pub in_again : (i room after out back' : List ℕ) (n m : ℕ) → take_outcome i room ≡ filled (Wrote n) after → give_outcome (take n after) out ≡ filled (Wrote m) back'
    → (r : List ℕ) → take_outcome (take m back') r ≡ fill_bounded (take n after) r
in_again i room after out back' n m e g r =
    let b = back i room after n e in
    let f = fill_to (card_octets b.out) out back' m (sym (b.given out) ∙ g) in
    let t : take m back' ≡ card_octets b.out = rw (f.count, f.holds) (take-append_seam (card_octets b.out) _) in
    ap (λ (u : List ℕ). take_outcome u r) t ∙ b.again f.short r

-- ---- parameters

-- a line without TYPE=pref that is taken in keeps its parameters
params_same : {ps qs : List Param} → ParamsIn ps qs → (Preferred ps → ⊥) → qs ≡ ps
params_same (params.ParamsIn.plainly n) h = refl
params_same (params.ParamsIn.preferred p g) h = absurd (h p)

pub types_in : (x y : Line) → TakenIn x y → (Preferred x.params → ⊥) → y.params ≡ x.params
types_in x y t h = params_same t.params h

nowhere_there : (us : List Param) (p : Param) (qs : List Param) → Nowhere (octets "PREF") (us ++ (p ∷ qs)) → Named (octets "PREF") p → ⊥
unfolding Each
nowhere_there [] p qs h = h.0
nowhere_there (u ∷ us) p qs h = nowhere_there us p qs h.1

params_kept : {ps qs : List Param} → ParamsOut ps qs → Nowhere (octets "PREF") ps → qs ≡ ps
params_kept (params.ParamsOut.plainly n) h = refl
params_kept (params.ParamsOut.preferred {p = p} us qs o a b) h = absurd (nowhere_there us p qs h o.name)

-- a line without PREF that is given out keeps its parameters
pub types_out : (x y : Line) → GivenOut x y → Nowhere (octets "PREF") x.params → y.params ≡ x.params
types_out x y t h = params_kept t.params h
