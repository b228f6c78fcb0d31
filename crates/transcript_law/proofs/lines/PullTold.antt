-- a pull of a client's connection tells of frames of its own streams and of its answers alone, and of as many as it answers, whatever the replies of vBuckets
use Rattle.std.specs.Prelude.{◌≡◌, ◌∷◌, ◌++◌, if◌then◌else◌}
use Rattle.transcript_law.proofs.Words.{ℕ, suc, true, List, [], refl, ap, sym, subst, ◌∙◌, drop, length, filter, Option, Some, None, Event, Answer, Frame, Halt, StreamName, PlainNode, PlainProducer, Served, Told, States, begun, frames_put, frames_in_lines, is_frame, PutsAsTold, why_of}
use Rattle.dcp_producer.specs.Pulling.{frame_put}
use Rattle.dcp_producer.specs.declared.desk.Desk.{Desk}
use Rattle.node_core.specs.Clients.{PlainClient, client_pull, client_pulled, front_len, with_replies}
use Rattle.node_world.specs.Nodes.{pull_at, pull_if}
use Rattle.transcript_law.proofs.lines.{Calm.{AnyKind, Calm, Spared, takes_any}, Pulling.{Lines, PutFew, Puts, pull_so}, SessionLines.{IsKept}}
use Rattle.transcript_law.proofs.lines.Refusals.{IsMade}
use Rattle.transcript_law.proofs.links.PumpAnswers.{Counted, one_more, put_says}
use Rattle.vb_calls.specs.Programs.{AnyCall}
use Rattle.transcript_law.proofs.lines.Reads.{pull_is}
use Rattle.vb_calls.proofs.JobReadings.{after_job_bind, after_reads_bind, reads_always}
use Rattle.vb_calls.specs.Jobs.{Ended, IsRead, after_reads}
use Rattle.vb_calls.specs.Shelves.{Shelves}

-- a line of a frame of the client's streams, or of what it is sent
abbrev pub IsPut : ℕ → ℕ → Event → Type 0
IsPut n c (Event.Marked stream start end flags) = stream ≡ StreamName.Client n c
IsPut n c (Event.Item stream seq act key) = stream ≡ StreamName.Client n c
IsPut n c (Event.Finished stream reason) = stream ≡ StreamName.Client n c
IsPut n c (Event.Stated stream role) = stream ≡ StreamName.Client n c
IsPut n c (Event.Reply m d bytes) = (m ≡ n) × (d ≡ c)
IsPut n c other = ⊥

-- all of them are
abbrev pub ArePut : ℕ → ℕ → List Event → Type 0
ArePut n c [] = Unit {0}
ArePut n c (line ∷ lines) = IsPut n c line × ArePut n c lines

put_more : (n c : ℕ) (lines more : List Event) → ArePut n c lines → ArePut n c more → ArePut n c (lines ++ more)
put_more n c [] more a b = b
put_more n c (line ∷ lines) more a b = (a.0, put_more n c lines more a.1 b)

-- each frame with its reply
replied_put : (n c : ℕ) (lines : List Event) (bytes : List ℕ) → ArePut n c lines → ArePut n c (with_replies n c lines bytes)
unfolding with_replies
replied_put n c [] [] a = tt
replied_put n c [] (b ∷ bytes) a = ((refl, refl), tt)
replied_put n c (line ∷ lines) bytes a = (a.0, ((refl, refl), replied_put n c lines (drop (front_len bytes) bytes) a.1))

-- a reply is no frame of a stream
replied_counts : (n c : ℕ) (lines : List Event) (bytes : List ℕ) → frames_in_lines (with_replies n c lines bytes) ≡ frames_in_lines lines
unfolding with_replies
replied_counts n c lines bytes = ap (λ (xs : List Event). length xs) (by lines bytes)
  where
    by : (lines : List Event) (bytes : List ℕ) → filter is_frame (with_replies n c lines bytes) ≡ filter is_frame lines
    by [] [] = refl
    by [] (b ∷ bytes) = refl
    by (line ∷ lines) bytes = ap (λ (xs : List Event). if is_frame line then line ∷ xs else xs) (by lines (drop (front_len bytes) bytes))

-- a line of a frame of a stream
abbrev IsOwn : StreamName → Event → Type 0
IsOwn name line = (is_frame line ≡ true) × ((n c : ℕ) → name ≡ StreamName.Client n c → IsPut n c line)

frames : Lines IsOwn
frames = record { items = λ name c. (refl, λ n d e. e); markers = λ name start end flags. (refl, λ n d e. e); ends = λ name reason. (refl, λ n d e. e); states = λ name told. (refl, λ n d e. e) }

-- a pull of the connection of the client c at the node n
module _ (n c : ℕ) where
  abbrev SoFar : ℕ → Served → Type 0
  SoFar k s = Counted k s × (s.end.desk.stream ≡ StreamName.Client n c) × ArePut n c s.events

  keeps : (k : ℕ) (s : Served) (end : PlainProducer) → end.desk ≡ s.end.desk → SoFar k s → SoFar k (record s { end = end })
  keeps k s end same so = (so.0, ap (λ (d : Desk). d.stream) same ∙ so.1, so.2)

  puts : (k : ℕ) (s : Served) (f : Frame) (line : Event) → IsOwn s.end.desk.stream line → SoFar k s → SoFar (suc k) (frame_put f line s)
  puts k s f line is so = (one_more k s f line is.0 so.0, so.1, put_more n c s.events (line ∷ []) so.2 (is.1 n c so.1, tt))

  -- how it is told and answered
  abbrev pub PullTold : ℕ → Told → Type 0
  PullTold wanted told = ArePut n c told.events × ((count : ℕ) × (said : _) × (told.answer ≡ Answer.Pulled count said) × PutsAsTold wanted told.events count said)

  pub pull_told : (wanted : ℕ) (client : PlainClient) (shelves : Shelves) (states : States) → IsKept n c (Some client) → (let x = (after_reads (client_pulled wanted client) shelves states).1 in PullTold wanted (record { events = x.events; answer = x.answer }))
  pull_told wanted client shelves states kept =
      let first : Served = begun client.producer in let x = after_reads (frames_put wanted first) shelves states in
      let put : Puts AnyKind IsOwn takes_any frames SoFar keeps puts wanted x.1 = reads_always AnyCall IsRead (Puts AnyKind IsOwn takes_any frames SoFar keeps puts wanted) (frames_put wanted first) shelves states
      (pull_so AnyKind IsOwn takes_any frames SoFar keeps puts wanted first ((refl, refl), kept.0.stream, tt)) in
      subst (λ y. PullTold wanted (record { events = y.1.events; answer = y.1.answer })) (sym (after_reads_bind (frames_put wanted first) (λ put. Ended (client_pull client.session put)) shelves states))
      (let s : Served = x.1.0 in
      subst (λ (who : ℕ × ℕ). PullTold wanted (record { events = with_replies who.0 who.1 s.events s.out; answer = Answer.Pulled s.count (why_of x.1.1) })) (λ i. (sym kept.0.node i, sym kept.0.number i)) (
        replied_put n c s.events s.out put.1.2,
        (s.count, why_of x.1.1, refl, counted s wanted x.1.1 put.0 put.1.0 put.2),
      ))
    where
      counted : (s : Served) (wanted : ℕ) (halted : Halt) (k : ℕ) → Counted k s → PutFew wanted k halted → PutsAsTold wanted (with_replies n c s.events s.out) s.count (why_of halted)
      counted s wanted halted k counts few = let p = put_says wanted k s halted counts few in
          record { told = p.told ∙ sym (replied_counts n c s.events s.out); most = p.most; all = p.all; only = p.only }

-- its lines tell of no arm
pub put_calm : (n c : ℕ) (lines : List Event) → ArePut n c lines → Calm lines
put_calm n c [] a = refl
put_calm n c (Event.Marked stream start end flags ∷ lines) a = put_calm n c lines a.1
put_calm n c (Event.Item stream seq act key ∷ lines) a = put_calm n c lines a.1
put_calm n c (Event.Finished stream reason ∷ lines) a = put_calm n c lines a.1
put_calm n c (Event.Stated stream role ∷ lines) a = put_calm n c lines a.1
put_calm n c (Event.Reply m d bytes ∷ lines) a = put_calm n c lines a.1
put_calm n c (other ∷ lines) a = absurd a.0

pub pull_calm : (n c wanted : ℕ) (node : PlainNode) → IsKept n c (node.clients c) → Spared (pull_at c wanted node).1
pull_calm n c wanted node kept = by (node.clients c) kept
  where
    by : (o : Option PlainClient) → IsKept n c o → Spared (pull_if c wanted node o).1
    by None k = refl
    by (Some client) k =
        let x = (after_reads (client_pulled wanted client) node.shelves node.vbs).1 in let t = pull_told n c wanted client node.shelves node.vbs k in
        subst (λ (y : PlainNode × Told). Spared y.1) (sym (pull_is c wanted node (Some client))) (said x.answer x.events t.1.0 t.1.1 t.1.2 (put_calm n c x.events t.0))
      where
        said : (answer : Answer) (lines : List Event) (count : ℕ) (why : _) → answer ≡ Answer.Pulled count why → Calm lines → Spared (record { events = lines; answer = answer })
        said (Answer.Pulled k w) lines count why e calm = calm
        said Answer.Ok lines count why e calm = calm
        said (Answer.Number k) lines count why e calm = calm
        said (Answer.No cause) lines count why e calm = let z : ⊥ = cc in absurd z

-- and it is no refusal
pub pull_made : (c wanted : ℕ) (node : PlainNode) (client : PlainClient) → IsMade (pull_if c wanted node (Some client)).1.answer
pull_made c wanted node client = subst (λ y. IsMade y.1.answer) (sym (after_job_bind (frames_put wanted (begun client.producer)) (λ put. Ended (client_pull client.session put)) node.vbs node.shelves)) (λ why e s. cc)
