-- The laws of the octets that folding a text has written. Assumes nothing.
use mathlib.Core.Path.{◌≡◌, refl, ap}
use mathlib.Core.Bool.{Bool, true, false}
use mathlib.Core.List.{List, map}
use Prim.Native.Nat.{ℕ, ◌≤◌}
use native.Mathlib.Omega.{arith}
use lib.Dec.{ltb}
use lib.ListN.{length, take, drop}
use lib.Seq.{take-append_seam, drop-append_seam}
use borrow.Author.Tests.{ltb-false}
use Rattle.octets.specs.Pick.{pick}
use Rattle.octets.specs.Room.{Filled, filled, refuse, overlay, fill, fill_bounded}
use Rattle.octets.specs.Room.{Wrote, Refused}
use Rattle.card_judge.specs.Judge.{judge_line}
use Rattle.card_state.specs.State.{Card, Next}
use Rattle.card_judge.proofs.CardLaws.{line_clean}
use Rattle.reader.specs.Outcome.{judge_in}
use Rattle.line_folds.specs.Logical.{logical_lines}
use Rattle.reader.specs.Outcome.{Verdict}
use Rattle.reader.specs.Outcome.{Accepted, Refused as Denied}
use Rattle.folder_line.specs.Pieces.{folded_lines, Clean, All}
use Rattle.folder.specs.Outcome.{fold_by, fold_in}
use Rattle.folder_raising.specs.Walk.{written}
use Rattle.folder_raising.specs.declared.Style.{Style}
use Rattle.folder.proofs.Accepted.{all_lines, accepted}
use Rattle.line_laws.specs.Lined.{Unled}
use Rattle.folder_laws.specs.Physical.{physical}
use Rattle.folder_laws.specs.Written.{Folds}
use Rattle.folder_laws.proofs.BackLaws.{lined_back, lines_back}
use Rattle.folder_laws.proofs.CuttingLaws.{all_characters}
use Rattle.folder_laws.proofs.PhysicalLaws.{short_lines, whole_lines}
use Rattle.folder_laws.proofs.StyleLaws.{clean_styled, unled_styled}
use Rattle.property_table.specs.declared.Edition.{Edition}

-- The folded form of clean lines, none led by a space or tab.
pub folds : (ls : List (List ℕ)) → All Clean ls → All Unled ls → Folds ls (folded_lines ls)
folds ls c u = record { short = short_lines ls c; whole = all_characters (physical (folded_lines ls)) (whole_lines ls c); back = lined_back ls c u; again = refl }

-- t stands at the start of the room, in n octets, and behind it the room is as it was
pub record InRoom (t room after : List ℕ) (n : ℕ) : Type 0 where
  pub count : n ≡ length t
  pub bound : n ≤ 16384
  pub written : take n after ≡ t
  pub left : drop n after ≡ drop n room

never : (n k p : ℕ) → Wrote n ≡ Refused k p → ⊥
never n k p e = let z : ◌≡◌ {A = ℕ} 0 1 = cc in omega arith

module _ (t room after : List ℕ) where
  wrote_by : (n : ℕ) (a b : Bool) → ltb 16384 (length t) ≡ a
      → filled (Wrote n) after ≡ pick a (refuse 16 16384 room) (pick b (refuse 15 (length t) room) (filled (Wrote (length t)) (overlay t room)))
      → InRoom t room after n
  wrote_by n true b p e = absurd (never n 16 16384 (ap (λ (x : Filled). x.answer) e))
  wrote_by n false true p e = absurd (never n 15 (length t) (ap (λ (x : Filled). x.answer) e))
  wrote_by n false false p e =
      let a : Wrote n ≡ Wrote (length t) = ap (λ (x : Filled). x.answer) e in
      let m : n ≡ length t = cc in
      let f : after ≡ overlay t room = ap (λ (x : Filled). x.room) e in
      record {
        count = m;
        bound = omega (arith, ltb-false 16384 (length t) p);
        written = rw (m, f) (take-append_seam t (drop (length t) room));
        left = rw (m, f) (drop-append_seam t (drop (length t) room));
      }

  -- an answer that octets were written says which
  pub wrote : (n : ℕ) → filled (Wrote n) after ≡ fill_bounded t room → InRoom t room after n
  unfolding fill_bounded fill
  wrote n e = wrote_by n (ltb 16384 (length t)) (ltb (length room) (length t)) refl e

-- where octets were written, the input was accepted
pub wrote_accepted : {A : Type 0} (s : Style) (v : Verdict) (i room after : List ℕ) (n : ℕ) → filled (Wrote n) after ≡ fold_by s v i room
    → ((k m : ℕ) → v ≡ Accepted k m → filled (Wrote n) after ≡ fill_bounded (folded_lines (map (written s) (logical_lines i))) room → A) → A
unfolding fold_by
wrote_accepted s (Accepted k m) i room after n e f = f k m refl e
wrote_accepted s (Denied k p) i room after n e f = absurd (never n k p (ap (λ (x : Filled). x.answer) e))

line_unled : (ed : Edition) (c c' : Card) (p : ℕ) (l : List ℕ) → judge_line ed c p l ≡ Next c' → Unled l
unfolding Unled
line_unled ed c c' p l e = let w = line_clean ed c c' p l e in (w.1, w.2)

-- What was written: the folded form of the input's lines in the style, which are clean and led by no space or tab.
pub record Form (s : Style) (i t : List ℕ) : Type 0 where
  pub octets : t ≡ folded_lines (map (written s) (logical_lines i))
  pub short : length t ≤ 16384
  pub clean : All Clean (logical_lines i)
  pub unled : All Unled (logical_lines i)

pub form : (ed : Edition) (s : Style) (i room after : List ℕ) (n : ℕ) → filled (Wrote n) after ≡ fold_in ed s i room → Form s i (take n after)
unfolding fold_in
form ed s i room after n e =
    wrote_accepted s (judge_in ed i) i room after n e
    (λ k m a f.
    let p = wrote (folded_lines (map (written s) (logical_lines i))) room after n f in
    record {
      octets = p.written;
      short = omega (arith, p.count, p.bound, ap length p.written);
      clean = (accepted ed i k m a).0;
      unled = all_lines ed Unled (line_unled ed) i k m a;
    })

-- The octets that folding an input has written: they are short physical lines of whole characters, read again they have the same logical
-- lines in the style, and folded again they are the same octets.
pub fold_written : (s : Style) {i t : List ℕ} → Form s i t → Folds (map (written s) (logical_lines i)) t
fold_written s {i} f =
    rw f.octets (folds (map (written s) (logical_lines i)) (clean_styled s (logical_lines i) f.clean) (unled_styled s (logical_lines i) f.unled))

-- and the walk finds these lines in them
pub fold_lines : (s : Style) {i t : List ℕ} → Form s i t → logical_lines t ≡ map (written s) (logical_lines i)
unfolding logical_lines
fold_lines s {i} f =
    rw f.octets (lines_back (map (written s) (logical_lines i)) (clean_styled s (logical_lines i) f.clean) (unled_styled s (logical_lines i) f.unled))
