-- An accepted card fits the rooms: its copy, its records and its marks. Assumes nothing.
use mathlib.Core.Path.{◌≡◌, refl, sym, ap, ◌∙◌}
use mathlib.Core.List.{List, [], ◌∷◌, ◌++◌, map}
use Prim.Native.Nat.{ℕ, ◌*◌, ◌≤◌}
use native.Mathlib.Omega.{arith}
use lib.ListN.{length, drop, replicate, length-append, length-drop, length-replicate}
use Rattle.octets.specs.Room.{overlay}
use Rattle.line_parser.specs.Grammar.{Line, Each, WellFormed, led, param_text, group_text, front, render}
use Rattle.property_table.specs.declared.Edition.TheVariants.{First}
use Rattle.reader.specs.Outcome.{judge_of, ended, copy_of, records_in, Taken, took, read_in}
use Rattle.reader.specs.Outcome.{Verdict}
use Rattle.reader.specs.Outcome.{Accepted, Refused}
use Rattle.reader.proofs.ReadLaws.{read_refused, read_written}
use Rattle.reader_laws.proofs.CopyAgain.{copy_shorter}
use Rattle.reader_grammar.specs.Cards.{Readable}
use Rattle.reader_grammar.specs.Inputs.{InputOf}
use Rattle.reader_grammar.proofs.Accepted.{accepted_law}
use Rattle.reader_grammar.proofs.RecordLaws.{copy_law}
use Rattle.merge.specs.Sides.{read_of}

-- a line has a name and a colon
line_some : (x : Line) → WellFormed x → 2 ≤ length (render x)
unfolding render front
line_some x w =
    let l = led 59 param_text x.params in
    omega (
      arith,
      w.name.some,
      length-append (group_text x.group ++ (x.name ++ (l ++ 58 ∷ []))) x.value,
      length-append (group_text x.group) (x.name ++ (l ++ 58 ∷ [])),
      length-append x.name (l ++ 58 ∷ []),
      length-append l (58 ∷ []),
    )

-- so four octets or more with CR LF
lines_some : (xs : List Line) → Each Readable xs → length xs * 4 ≤ length (ended (map render xs))
unfolding Each ended
lines_some [] r = omega arith
lines_some (x ∷ xs) r = omega (arith, line_some x r.0.formed, lines_some xs r.1, length-append (render x) (13 ∷ 10 ∷ ended (map render xs)))

module _ (i : List ℕ) (k n : ℕ) (h : InputOf i k n) where
  judged : judge_of i ≡ Accepted k n
  judged = (accepted_law First i k n).1 h

  copy_short : length (copy_of i) ≤ 16384
  copy_short = omega (arith, copy_shorter First i k n judged, h.short)

  pub ended_short : length (ended (map render h.lines)) ≤ 16384
  ended_short = omega (arith, copy_short, ap length (copy_law First i k n h))

  -- at most 4,096 lines
  pub lines_few : length h.lines ≤ 4096
  lines_few = omega (arith, ended_short, lines_some h.lines h.readable)

  module _ (copy records : List ℕ) (c : length copy ≡ 16384) (r : length records ≡ 32768) where
    -- no room is too small
    read_in_lem : read_in First i copy records ≡ took (Accepted k n) (overlay (copy_of i) copy) (overlay (records_in First i) records)
    read_in_lem =
        sym (read_written First i copy records k n (length (copy_of i)) judged refl (omega (arith, copy_short)) (omega (arith, lines_few, h.count)) _ _ refl refl)

    pub copy_length : length (overlay (copy_of i) copy) ≡ 16384
    copy_length = omega (arith, length-append (copy_of i) (drop (length (copy_of i)) copy), length-drop (length (copy_of i)) copy, copy_short)

  -- what reading it leaves
  pub read_of_lem : read_of i ≡ took (Accepted k n) (overlay (copy_of i) (replicate 16384 0)) (overlay (records_in First i) (replicate 32768 0))
  unfolding read_of
  read_of_lem = read_in_lem (replicate 16384 0) (replicate 32768 0) (length-replicate {A = ℕ} 16384 0) (length-replicate {A = ℕ} 32768 0)

  pub read_copy : length (overlay (copy_of i) (replicate 16384 0)) ≡ 16384
  read_copy = copy_length (replicate 16384 0) (replicate 32768 0) (length-replicate {A = ℕ} 16384 0) (length-replicate {A = ℕ} 32768 0)

refused_answer : (i : List ℕ) (n p : ℕ) → judge_of i ≡ Refused n p → (read_of i).answer ≡ Refused n p
unfolding read_of
refused_answer i n p e =
    ap (λ (t : Taken). t.answer) (sym (read_refused First i (replicate 16384 0) (replicate 32768 0) (Refused n p) n p (sym e) refl))

-- 13 and 14 are never given: the answer is that of judging
pub read_answer : (i : List ℕ) → (read_of i).answer ≡ judge_of i
read_answer i = go (judge_of i) refl
  where
    go : (v : Verdict) → judge_of i ≡ v → (read_of i).answer ≡ judge_of i
    go (Accepted k n) e = ap (λ (t : Taken). t.answer) (read_of_lem i k n ((accepted_law First i k n).0 e)) ∙ sym e
    go (Refused n p) e = refused_answer i n p e ∙ sym e
