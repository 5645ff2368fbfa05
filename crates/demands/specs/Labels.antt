-- Labels under RFC 6350 and RFC 6868: what encode and decode write, what a label stands for, and that an encoded value comes back. Every outcome
-- named here is the one that the entry's contract equates with its answer and with all lent memory at exit. Assumes nothing.
use Rattle.std.specs.Prelude.{ℕ, ◌≤◌, ◌≡◌, List, length, take, true}
use Rattle.numbers.specs.Limits as limit
use Rattle.octets.specs.Classes.{quoted}
use Rattle.utf8_laws.specs.Texts.{Text}
use Rattle.label_carets.specs.Encoded.{encoded}
use Rattle.label_carets.specs.declared.Rule.{Rule}
use Rattle.label_carets.specs.declared.Rule.TheVariants.{Rfc6350}
use Rattle.label.specs.Outcomes.{encode_outcome, decode_outcome}
use Rattle.label_laws.specs.Reads.{Reads, Caretless, Sayable}
use Rattle.desk_ledger.specs.Answers.{told, wrote}
use Rattle.demands.specs.Demand1.{Fair, FairBy}
use Rattle.demands.specs.Demand2.{Writes}

pub record Labels : Type 0 where
  -- each label stands for exactly one value
  pub some : (r : Rule) (w : List ℕ) → (v : List ℕ) × Reads r w v
  pub one : {r : Rule} {w u v : List ℕ} → Reads r w u → Reads r w v → u ≡ v
  -- decode writes that value
  pub decodes : (r : Rule) (t v out : List ℕ) → FairBy quoted t → Reads r t v → length v ≤ length out → Writes (decode_outcome r t out) v out
  -- a value without a caret reads the same under either rule: as it stands, with the same outcome, refusals and room too
  pub itself : (r : Rule) {t : List ℕ} → Caretless t → Reads r t t
  pub same : (r s : Rule) (t out : List ℕ) → Caretless t → decode_outcome r t out ≡ decode_outcome s t out
  -- encode writes a label that stands for the value
  pub encodes : (r : Rule) (t out : List ℕ) → Fair true t → Sayable r t → length (encoded r t) ≤ limit.octets → length (encoded r t) ≤ length out
      → Writes (encode_outcome r t out) (encoded r t) out
  pub stands : (r : Rule) (t : List ℕ) → Reads r (encoded r t) t
  -- what it wrote may stand between quote marks,
  pub between : (r : Rule) (t out : List ℕ) (n : ℕ) → wrote (encode_outcome r t out).answer ≡ told n → Text quoted (take n (encode_outcome r t out).room)
  -- and decoded gives the value back
  pub back : (r : Rule) (t out room : List ℕ) (n : ℕ) → wrote (encode_outcome r t out).answer ≡ told n → length t ≤ length room
      → Writes (decode_outcome r (take n (encode_outcome r t out).room) room) t room
  -- the old pair changes nothing
  pub old_encodes : (t out : List ℕ) (n : ℕ) → wrote (encode_outcome Rfc6350 t out).answer ≡ told n → Writes (encode_outcome Rfc6350 t out) t out
  pub old_decodes : (t out : List ℕ) (n : ℕ) → wrote (decode_outcome Rfc6350 t out).answer ≡ told n → Writes (decode_outcome Rfc6350 t out) t out
