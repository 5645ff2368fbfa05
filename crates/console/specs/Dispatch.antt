-- What the console answers to a line, and what it keeps then. Assumes nothing.
use Rattle.std.specs.Prelude.{ℕ, ◌≡◌, Bool, true, false, List, Option, Some, None, ltb, length, replicate}
use Rattle.octets.specs.Slices.{part}
use Rattle.console_requests.specs.Requests.{Requested, request_of}
use Rattle.console_requests.specs.declared.Request.{Request}
use Rattle.console_requests.specs.declared.Name.{Name}
use Rattle.console_requests.specs.declared.Name.TheVariants.{ToEntry, ToDesk, ToReport, ToMerge, ToWatch}
use Rattle.console_requests.specs.declared.EntryCall.{EntryCall}
use Rattle.console_requests.specs.declared.EntryCall.TheVariants.{Judge, Read, Fold, Escape, Unescape, Encode, Decode, FoldIn, Offset, JudgeIn, ReadIn, TakeIn, GiveOut}
use Rattle.console_requests.specs.declared.DeskCall.{DeskCall}
use Rattle.console_requests.specs.declared.DeskCall.TheVariants.{Desk, Open, Add, Check, Show, Held, Release, Pool, Next}
use Rattle.console_requests.specs.declared.ReportCall.{ReportCall}
use Rattle.console_requests.specs.declared.ReportCall.TheVariants.{Report, Take, Print, Count}
use Rattle.console_requests.specs.declared.MergeCall.{MergeCall}
use Rattle.console_requests.specs.declared.MergeCall.TheVariants.{Plan, CheckPlan}
use Rattle.console_requests.specs.declared.WatchCall.{WatchCall}
use Rattle.console_requests.specs.declared.WatchCall.TheVariants.{Begin, Chunk, End, Buffer, Claim}
use Rattle.property_table.specs.declared.Edition.TheVariants.{First}
use Rattle.console_entries.specs.Entries.{judge_answer, judge_in_answer, offset_answer, read_answer, read_in_answer, write_answer, encode_answer, decode_answer, fold_answer}
use Rattle.console_desk.specs.DeskAnswers.{State, WithPool, with_pool, desk_answer, next_answer, change_answer, look_answer, pool_answer}
use Rattle.console_report.specs.ReportAnswers.{KeptState, kept, fresh_answer, take_answer, prints_answer, count_answer}
use Rattle.console_merge.specs.MergeAnswers.{plan_answer, check_answer}
use Rattle.console_watch.specs.WatchAnswers.{Watching, WithBuffer, watching, watching_of, with_buffer, says_all, says_bad, begin_answer, buffer_answer, claim_answer, ChunkTurn, EndTurn}
use Rattle.console_watch.specs.declared.Session.{Session}
use Rattle.console_entries.specs.declared.entries.Writer.TheVariants.{Fold as to_fold, Escape as to_escape, Unescape as to_unescape, TakeIn as to_take_in, GiveOut as to_give_out}
use Rattle.console_desk.specs.declared.Change.TheVariants.{Open as to_open, Add as to_add, Release as to_release}
use Rattle.console_desk.specs.declared.Look.TheVariants.{Check as to_check, Show as to_show, Held as to_held}

-- each request to an entry, with its numbers and the octets that it sends
unfoldable pub entry_text : EntryCall → ℕ → ℕ → ℕ → List ℕ → List ℕ
entry_text Judge n k m sent = judge_answer First sent
entry_text Read n k m sent = read_answer First n k sent
entry_text Fold n k m sent = write_answer to_fold n sent
entry_text Escape n k m sent = write_answer to_escape n sent
entry_text Unescape n k m sent = write_answer to_unescape n sent
entry_text Encode n k m sent = encode_answer n k sent
entry_text Decode n k m sent = decode_answer n k sent
entry_text FoldIn n k m sent = fold_answer n k m sent
entry_text Offset n k m sent = offset_answer sent
entry_text JudgeIn n k m sent = judge_in_answer n sent
entry_text ReadIn n k m sent = read_in_answer n k m sent
entry_text TakeIn n k m sent = write_answer to_take_in n sent
entry_text GiveOut n k m sent = write_answer to_give_out n sent

-- each request of the desk
unfoldable pub desk_turn : DeskCall → ℕ → ℕ → List ℕ → State → List ℕ → WithPool
desk_turn Desk n k sent t pool = desk_answer n k t pool
desk_turn Open n k sent t pool = change_answer to_open n k sent t pool
desk_turn Add n k sent t pool = change_answer to_add n k sent t pool
desk_turn Check n k sent t pool = with_pool (look_answer to_check n t pool) pool
desk_turn Show n k sent t pool = with_pool (look_answer to_show n t pool) pool
desk_turn Held n k sent t pool = with_pool (look_answer to_held n t pool) pool
desk_turn Release n k sent t pool = change_answer to_release n k sent t pool
desk_turn Pool n k sent t pool = with_pool (pool_answer n k t pool) pool
desk_turn Next n k sent t pool = with_pool (next_answer n t) pool

-- each request of the report
unfoldable pub report_turn : ReportCall → ℕ → ℕ → List ℕ → KeptState → KeptState
report_turn Report n k sent s = fresh_answer s
report_turn Take n k sent s = take_answer sent s
report_turn Print n k sent s = prints_answer n s
report_turn Count n k sent s = count_answer n k s

-- each request of two edits, with its number and the octets that it sends
unfoldable pub merge_text : MergeCall → ℕ → List ℕ → List ℕ
merge_text Plan n sent = plan_answer n sent
merge_text CheckPlan n sent = check_answer sent

-- each request of the reader of chunks, by what is kept before and after
unfoldable pub WatchTurn : WatchCall → ℕ → ℕ → List ℕ → WithBuffer → WithBuffer → Type 0
WatchTurn Begin n k sent x y = y ≡ begin_answer n x.state x.buffer
WatchTurn Chunk n k sent x y = ChunkTurn sent x y
WatchTurn End n k sent x y = EndTurn x.state x.buffer y.state × (y.buffer ≡ x.buffer)
WatchTurn Buffer n k sent x y = y ≡ with_buffer (buffer_answer n k x.state x.buffer) x.buffer
WatchTurn Claim n k sent x y = y ≡ with_buffer (claim_answer n x.state) x.buffer

-- all that is kept: desk, output, report and the reader of chunks, its buffer, and the pool
pub record Everything : Type 0 where
  pub watched : WithBuffer
  pub pool : List ℕ

abbrev pub everything : Watching → List ℕ → List ℕ → Everything
everything t b pool = record { watched = with_buffer t b; pool = pool }

abbrev pub all_of : Session → List ℕ → List ℕ → List ℕ → Everything
all_of s out b pool = everything (watching_of s out) b pool

-- a text is added to the output, and all else stays
abbrev pub saying : List ℕ → Everything → Everything
saying text x = everything (says_all text x.watched.state) x.watched.buffer x.pool

-- the answer to what is no request
abbrev pub saying_bad : Everything → Everything
saying_bad x = everything (says_bad x.watched.state) x.watched.buffer x.pool

-- desk, output and report, and the pool, are these, and all else stays
abbrev pub keeping : KeptState → List ℕ → Everything → Everything
keeping k pool x = everything (watching k x.watched.state.watch x.watched.state.size) x.watched.buffer pool

-- what the desk's side leaves, and the report as it was
abbrev pub beside : WithPool → Everything → Everything
beside p x = keeping (kept p.state x.watched.state.kept.report) p.pool x

-- each request by whom it is for, by what is kept before and after
unfoldable pub AnswerAny : Name → ℕ → ℕ → ℕ → List ℕ → Everything → Everything → Type 0
AnswerAny (ToEntry e) n k m sent x y = y ≡ saying (entry_text e n k m sent) x
AnswerAny (ToDesk d) n k m sent x y = y ≡ beside (desk_turn d n k sent x.watched.state.kept.state x.pool) x
AnswerAny (ToReport r) n k m sent x y = y ≡ keeping (report_turn r n k sent x.watched.state.kept) x.pool x
AnswerAny (ToMerge e) n k m sent x y = y ≡ saying (merge_text e n sent) x
AnswerAny (ToWatch w) n k m sent x y = WatchTurn w n k sent x.watched y.watched × (y.pool ≡ x.pool)

abbrev pub AnswerTo : Request → List ℕ → Everything → Everything → Type 0
AnswerTo q sent x y = AnswerAny q.name q.first q.second q.third sent x y

-- the octets that a request sends stand at the front of the room
abbrev pub AnswerSent : Option Request → List ℕ → Everything → Everything → Type 0
AnswerSent (Some q) room x y = AnswerTo q (part room 0 q.count) x y
AnswerSent None room x y = y ≡ saying_bad x

abbrev pub AnswerFrom : Requested → Everything → Everything → Type 0
AnswerFrom r x y = AnswerSent r.request r.room x y

unfoldable pub AnswerIn : List ℕ → List ℕ → Everything → Everything → Type 0
AnswerIn line room x y = AnswerFrom (request_of line room) x y

-- the most octets of a line, its LF and a CR before it not counted
abbrev pub most_line : ℕ
most_line = 140000

-- the most octets that such a line can send
abbrev pub most_sent : ℕ
most_sent = 70000

abbrev pub Either : Bool → Type 0 → Type 0 → Type 0
Either true p q = p
Either false p q = q

-- a longer line is no request
unfoldable pub AnswerLine : List ℕ → Everything → Everything → Type 0
AnswerLine line x y = Either (ltb most_line (length line)) (y ≡ saying_bad x) (AnswerIn line (replicate most_sent 0) x y)
