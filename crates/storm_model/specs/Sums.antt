-- what a storm leaves in four vBuckets, and the line of each
use Rattle.std.specs.Prelude.{ℕ, zero, suc, ◌+◌, ◌*◌, ◌-◌, ◌%◌, ◌^◌, false, List, length, map}
use Rattle.std.specs.FinMap as finite
use Rattle.std.specs.List.{flat_map, fold, range_with_len, sum_by}
use Rattle.vb_types.specs.Images.{Picture, applied, nothing}
use Rattle.vb_types.specs.declared.role.Role.TheVariants as role
use Rattle.vb_types.specs.declared.stream.StreamAsk.{StreamAsk}
use Rattle.vb_types.specs.declared.write.Write.{Write}
use Rattle.vb_calls.specs.declared.calls.VbAnswer.{VbAnswer}
use Rattle.vb_calls.specs.declared.calls.VbAnswer.TheVariants as answer
use Rattle.vb_calls.specs.declared.calls.VbCall.TheVariants as call
use Rattle.vb_calls.specs.State.{Plain, new_vb, image_in}
use Rattle.vb_calls.specs.Plain.{plain_step}
use Rattle.storm_model.specs.declared.lines.StormLine.{StormLine}
use Rattle.storm_model.specs.Writes.{writes_of}

-- the keys of an image's documents, by rising keys, each with its value
abbrev pub contents : Picture → List (List ℕ × List ℕ)
contents image = map (λ e. (e.0, e.1.value)) (finite.entries image.docs)

-- the number that these digits write
abbrev pub number_of : List ℕ → ℕ
number_of digits = fold (λ n digit. n * 10 + (digit - 48)) 0 digits

-- the sum of the values of these documents, read as numbers
abbrev pub value_sum : List (List ℕ × List ℕ) → ℕ
value_sum docs = sum_by (λ d. number_of d.1) docs % 2 ^ 64

-- vBucket v as it was made: active, with a branch id of its own
abbrev pub storm_new : ℕ → Plain
storm_new v = new_vb 0 role.Active (v + 1)

-- what a reader asks for: all, from 0
abbrev pub from_start : StreamAsk
from_start = record { flags = 0; start = 0; end = 2 ^ 64 - 1; uuid = 0; ss = 0; se = 0 }

-- two readers' streams are opened
abbrev pub opened : Plain → Plain
opened vb = (plain_step (plain_step vb (call.OpenStream 1 from_start false)).0 (call.OpenStream 2 from_start false)).0

-- a client's write is made
abbrev pub stored : Plain → Write → Plain
stored vb write = (plain_step vb (call.Store write 0)).0

-- the writes of all clients for vBucket v, one client after the other
abbrev pub in_turn : ℕ → ℕ → ℕ → ℕ → List Write
in_turn seed clients writes v = flat_map (λ c. writes_of seed c writes v) (range_with_len 0 clients)

-- vBucket v once it has its readers' streams and these writes
abbrev pub storm_vb : ℕ → List Write → Plain
storm_vb v writes = fold stored (opened (storm_new v)) writes

-- a batch that was taken is written down
abbrev pub written_down : VbAnswer → Plain → Plain
written_down (answer.Rows batch) vb = (plain_step vb (call.FlushDone batch.position.at)).0
written_down other vb = vb

-- so many times the next batch is taken and written down, where there is one
abbrev pub flushed : ℕ → Plain → Plain
flushed zero vb = vb
flushed (suc n) vb = let took = plain_step vb call.FlushTake in flushed n (written_down took.1.answer took.0)

-- the changes of a snapshot that was taken are applied to the reader's image
abbrev pub taken_in : VbAnswer → Picture → Picture
taken_in (answer.Taken snapshot) image = fold applied image snapshot.items
taken_in other image = image

-- so many times a reader with this stream takes the next snapshot, where there is one
abbrev pub read : ℕ → ℕ → Plain → Picture → Picture
read zero id vb image = image
read (suc n) id vb image = let took = plain_step vb (call.Take id) in read n id took.0 (taken_in took.1.answer image)

-- the line of a vBucket with this last seqno, the last one that is written down, and these documents, where its two readers have these
abbrev pub told_line : ℕ → ℕ → Picture → Picture → Picture → StormLine
told_line high saved shown first second = record {
  high = high;
  docs = length (contents shown);
  sum = value_sum (contents shown);
  saved = saved;
  read_first = value_sum (contents first);
  read_second = value_sum (contents second);
}

-- the line of a vBucket once the flusher took all and the two readers then did. No batch and no snapshot is empty, so as many times as there are changes are enough
abbrev pub line_of : Plain → StormLine
line_of vb = let done = flushed vb.position.at vb in
    told_line vb.position.at done.saved (image_in vb) (read vb.position.at 1 done nothing) (read vb.position.at 2 done nothing)

-- the lines of vBuckets 0 to 3
abbrev pub storm_sum : ℕ → ℕ → ℕ → List StormLine
storm_sum seed clients writes = map (λ v. line_of (storm_vb v (in_turn seed clients writes v))) (range_with_len 0 4)
