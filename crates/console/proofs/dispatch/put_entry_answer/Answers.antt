-- `console::dispatch::put_entry_answer` meets its contract. Assumes nothing.
use Rattle.console.specs.Dispatch.{entry_text}
use Rattle.console.proofs.dispatch.put_entry_answer.Goals as goal

pub returns-in-Judge : goal.returns-in-Judge
unfolding entry_text
returns-in-Judge c = rw c.in-Judge.is c.put_judge_answer.ensures

pub returns-in-Read : goal.returns-in-Read
unfolding entry_text
returns-in-Read c = rw c.in-Read.is c.put_read_answer.ensures

pub returns-in-Fold : goal.returns-in-Fold
unfolding entry_text
returns-in-Fold c = rw c.in-Fold.is c.put_write_answer.ensures

pub returns-in-Escape : goal.returns-in-Escape
unfolding entry_text
returns-in-Escape c = rw c.in-Escape.is c.put_write_answer-in-Escape.ensures

pub returns-in-Unescape : goal.returns-in-Unescape
unfolding entry_text
returns-in-Unescape c = rw c.in-Unescape.is c.put_write_answer-in-Unescape.ensures

pub returns-in-Encode : goal.returns-in-Encode
unfolding entry_text
returns-in-Encode c = rw c.in-Encode.is c.put_encode_answer.ensures

pub returns-in-Decode : goal.returns-in-Decode
unfolding entry_text
returns-in-Decode c = rw c.in-Decode.is c.put_decode_answer.ensures

pub returns-in-FoldIn : goal.returns-in-FoldIn
unfolding entry_text
returns-in-FoldIn c = rw c.in-FoldIn.is c.put_fold_answer.ensures

pub returns-in-Offset : goal.returns-in-Offset
unfolding entry_text
returns-in-Offset c = rw c.in-Offset.is c.put_offset_answer.ensures

pub returns-in-JudgeIn : goal.returns-in-JudgeIn
unfolding entry_text
returns-in-JudgeIn c = rw c.in-JudgeIn.is c.put_judge_in_answer.ensures

pub returns-in-ReadIn : goal.returns-in-ReadIn
unfolding entry_text
returns-in-ReadIn c = rw c.in-ReadIn.is c.put_read_in_answer.ensures

pub returns-in-TakeIn : goal.returns-in-TakeIn
unfolding entry_text
returns-in-TakeIn c = rw c.in-TakeIn.is c.put_write_answer-in-TakeIn.ensures

pub returns-in-GiveOut : goal.returns-in-GiveOut
unfolding entry_text
returns-in-GiveOut c = rw c.in-GiveOut.is c.put_write_answer-in-GiveOut.ensures
