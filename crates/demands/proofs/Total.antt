-- Demand 1, whole. Assumes nothing.
use Prim.Native.Nat.{ℕ}
use mathlib.Core.Path.{◌≡◌, ap}
use mathlib.Core.List.{List, []}
use native.Mathlib.Omega.{arith}
use Rattle.octets.specs.Room.{Filled, refuse}
use Rattle.reader.specs.Outcome.{judge_of, Taken, took}
use Rattle.reader.specs.Outcome.{Verdict}
use Rattle.reader.specs.Outcome.{Refused as Unread}
use Rattle.desk.specs.Steps.{Turned, turned, new_step, fresh_desk}
use Rattle.desk.specs.Answer.{Answer}
use Rattle.desk.specs.Answer.{Refused}
use Rattle.desk.specs.declared.Desk.{Desk}
use Rattle.desk_ledger.specs.Answers.{refused, verdict, wrote, said}
use Rattle.desk_ledger.proofs.AnswerLaws.{verdict_refused, wrote_refused, said_refused}
use Rattle.firmware.specs.Word.{verdict_word, Low, word_outcome}
use Rattle.firmware.proofs.Places.{place_low}
use Rattle.folder_raising.specs.declared.Style.TheVariants.{Raised}
use Rattle.firmware.proofs.Lows.{low_unescape, low_fold}
use Rattle.reader_grammar.proofs.Numbers.{refusal_number}
use Rattle.reader_grammar.specs.Refusals.{RefusedBy}
use Rattle.reader_grammar.proofs.Refused.{refused_law}
use Rattle.demands.specs.Demand1.{Exactly, Answering, Reading, Filling, Turning, counted as counted-as, Counting, Halves, Demand1}
use Rattle.demands.proofs.Refusing.{ByCase, FillingByCase, TurningByCase}
use Rattle.demands.proofs.Texts.{escape_exactly, unescape_exactly}
use Rattle.demands.proofs.Labels.{encode_exactly, decode_exactly}
use Rattle.demands.proofs.Cards.{judge_exactly, read_exactly, fold_exactly}
use Rattle.report.specs.declared.Report.{Report}
use Rattle.report.specs.Answer.{Answer as TakingAnswer}
use Rattle.report.specs.Answer.{Counted, Refused as Uncounted}
use Rattle.report.specs.Answer.{Taken as TakenIn}
use Rattle.demands.proofs.Reports.{take_exactly, print_exactly}
use Rattle.demands.proofs.Desks.{new_exactly, open_exactly, add_exactly, release_exactly, held_exactly, judge_held_exactly, shows_none, shows, counted, judged}
use Rattle.property_table.specs.declared.Edition.TheVariants.{First}

judge_word : (i : List ℕ) (n p : ℕ) → RefusedBy i n p → Halves (verdict_word (judge_of i)) n p
judge_word i n p b =
    let e = (refused_law First i n p).1 b in
    record { word = rw e; low = omega (arith, place_low i n p e) }

-- a refusal that leaves the room as it was, as a word
refusal_word : (f : Filled) (out : List ℕ) (n p : ℕ) → f ≡ refuse n p out → Low f.answer → Halves (word_outcome f).answer n p × ((word_outcome f).room ≡ out)
refusal_word f out n p e l = (record { word = rw e; low = rw e at l }, rw e)

-- ---- answers in document 01's numbers

counted_refused : (a : TakingAnswer) (n p : ℕ) → counted-as a ≡ refused n p → a ≡ Uncounted n p
counted_refused Counted n p e = let z : ◌≡◌ {A = ℕ} 0 1 = cc in absurd (omega arith)
counted_refused (Uncounted m q) n p e =
    let a : m ≡ n = cc in
    let b : q ≡ p = cc in
    rw (a, b)

module _ {By : ℕ → ℕ → Type 0} where
  verdict_exactly : {v : Verdict} → ByCase (λ (v : Verdict). v) v Unread By → Answering (verdict v) By
  verdict_exactly {v} e =
      record { only = λ n p f. e.only n p (verdict_refused v n p f); answers = λ n p b. ap verdict (e.unchanged n p b); unchanged = λ n p b. tt }

  answer_exactly : {a : Answer} → ByCase (λ (a : Answer). a) a Refused By → Answering (said a) By
  answer_exactly {a} e =
      record { only = λ n p f. e.only n p (said_refused a n p f); answers = λ n p b. ap said (e.unchanged n p b); unchanged = λ n p b. tt }

  reading_exactly : {t : Taken} {copy records : List ℕ} → ByCase (λ (t : Taken). t.answer) t (λ n p. took (Unread n p) copy records) By → Reading t copy records By
  reading_exactly {t} {copy} {records} e =
      record {
        only = λ n p f. e.only n p (verdict_refused t.answer n p f);
        answers = λ n p b. ap (λ (t : Taken). verdict t.answer) (e.unchanged n p b);
        unchanged = λ n p b. (ap (λ (t : Taken). t.copy) (e.unchanged n p b), ap (λ (t : Taken). t.records) (e.unchanged n p b));
      }

  filling_exactly : {f : Filled} {room : List ℕ} → FillingByCase f room By → Filling f room By
  filling_exactly {f} {room} e =
      record {
        only = λ n p g. e.only n p (wrote_refused f.answer n p g);
        answers = λ n p b. ap (λ (f : Filled). wrote f.answer) (e.unchanged n p b);
        unchanged = λ n p b. ap (λ (f : Filled). f.room) (e.unchanged n p b);
      }

  turning_exactly : {r : Turned} {d : Desk} {pool : List ℕ} → TurningByCase r d pool By → Turning r d pool By
  turning_exactly {r} {d} {pool} e =
      record {
        only = λ n p f. e.only n p (said_refused r.answer n p f);
        answers = λ n p b. ap (λ (r : Turned). said r.answer) (e.unchanged n p b);
        unchanged = λ n p b. (ap (λ (r : Turned). r.desk) (e.unchanged n p b), ap (λ (r : Turned). r.pool) (e.unchanged n p b));
      }

  counting_exactly : {t : TakenIn} {r : Report} → ByCase (λ (t : TakenIn). t.answer) t (λ n p. record { answer = Uncounted n p; report = r }) By → Counting t r By
  counting_exactly {t} {r} e =
      record {
        only = λ n p f. e.only n p (counted_refused t.answer n p f);
        answers = λ n p b. ap (λ (t : TakenIn). counted-as t.answer) (e.unchanged n p b);
        unchanged = λ n p b. ap (λ (t : TakenIn). t.report) (e.unchanged n p b);
      }

  starting_exactly : {r : Turned} → TurningByCase r (fresh_desk 0) [] By → Exactly (said r.answer) (r.desk ≡ fresh_desk 0) By
  starting_exactly {r} e =
      record {
        only = λ n p f. e.only n p (said_refused r.answer n p f);
        answers = λ n p b. ap (λ (r : Turned). said r.answer) (e.unchanged n p b);
        unchanged = λ n p b. ap (λ (r : Turned). r.desk) (e.unchanged n p b);
      }

pub demand1 : Demand1
demand1 =
    record {
      judges = λ e i. verdict_exactly (judge_exactly e i);
      numbers = refusal_number;
      reads = λ e i copy records. reading_exactly (read_exactly e i copy records);
      folds = λ e s i out. filling_exactly (fold_exactly e i s out);
      escapes = λ t out. filling_exactly (escape_exactly t out);
      unescapes = λ t out. filling_exactly (unescape_exactly t out);
      encodes = λ r t out. filling_exactly (encode_exactly t out r);
      decodes = λ r t out. filling_exactly (decode_exactly t out r);
      starts = λ slots. starting_exactly {r = turned (new_step slots) []} (new_exactly slots);
      opens = λ d pool m tick. turning_exactly (open_exactly d pool m tick);
      adds = λ d pool t chunk tick. turning_exactly (add_exactly d pool t chunk tick);
      releases = λ d pool t. turning_exactly (release_exactly d pool t);
      counts = λ d pool t. answer_exactly (held_exactly d pool t);
      judges_held = λ d pool t. verdict_exactly (judge_held_exactly d pool t);
      shows_none = shows_none;
      shows = shows;
      counted = λ d pool t i s h. ap said (counted d pool t i s h);
      judged = λ d pool t i s h. ap verdict (judged d pool t i s h);
      takes = λ r i. counting_exactly (take_exactly r i);
      prints = λ r out. filling_exactly (print_exactly r out);
      c_judge = judge_word;
      c_fold = λ i out n p b. refusal_word _ out n p ((fold_exactly First i Raised out).unchanged n p b) (low_fold i out);
      c_unescape = λ t out n p b. refusal_word _ out n p ((unescape_exactly t out).unchanged n p b) (low_unescape t out);
    }
