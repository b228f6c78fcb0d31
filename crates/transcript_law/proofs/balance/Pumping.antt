-- the line `pump`: the balance of its link, turn by turn
use Rattle.std.specs.Prelude.{◌≡◌, ◌⊎◌, ◌∷◌, ℕ, ◌+◌, ◌<◌, ◌≤◌, ◌^◌, ◌++◌, List, [], length}
use Rattle.transcript_law.proofs.Words.{zero, suc, Bool, true, false, refl, ap, sym, ◌∙◌, subst, inl, inr, ⊎_elim, arith, append-nil, append_assoc, Option, Some, All, Frame, Readable, spelling, frames_in, States, Turn, More, Stop, frames_put, pulled, Halt, PlainStream, Served, begun, StaysSound, TakesSnapshots}
use Rattle.transcript_law.proofs.Words.{row_at, PlainLink, PlainConsumer, PlainProducer, link_number, producer_node, PlainNode, PlainWorld, Role, Change, slice_get, pull_result, PullResult, peer_pulled, peer_of, Chronicle, after_lines, Member, Plain, Granted}
use Rattle.mcbp_frame.proofs.Cases.{length-spelling}
use Rattle.dcp_producer.specs.Pulling.{Pulling, none_quiet, one_frame, pull_of}
use Rattle.transcript_law.proofs.balance.Rooms.{room_of}
use Rattle.transcript_law.specs.Balance.{is_of_stream, stream_len}
use Rattle.transcript_law.proofs.balance.{Levels.{Buffered, Holds, Level, WindowIs}, Measures.{over, over_more, over_one, spelled}, Putting.{HasStream, Passes, StreamFits, Went, none_went, one_went, put_len}, Stepping.{sized_if}, Upping.{later_frames}}
use Rattle.transcript_law.proofs.invariant.{Agreement.{Agrees, ChangeFits, EndsStand, Heir, LinkAgrees, Streaming, Wants, kept_stream}, LinkRows.{found_is_link, put_is_found}}
use Rattle.transcript_law.proofs.links.{PumpWorlds.{LinkKnown, SoFar, TurnSoFar, TurnsSoFar, pumped, served_link}, Sent.{all_found, change_readable}, PullTurns.{turn}}
use Rattle.transcript_law.proofs.verbs.PumpFrames.{first_so_far}
use Rattle.vb_calls.proofs.JobReadings.{after_reads_bind}
use Rattle.vb_calls.specs.Jobs.{Ended, after_reads, go_on_job, repeated_job}

-- a producer has no stream, or one, of which what it may put fits
abbrev OneFits : List PlainStream → Type 0
OneFits streams = (streams ≡ []) ⊎ ((stream : PlainStream) × (streams ≡ stream ∷ []) × StreamFits stream)

-- the stream that is kept
kept_fits : {streams : List PlainStream} (over : Bool) (stream : PlainStream) → StreamFits stream → streams ≡ kept_stream over stream → OneFits streams
kept_fits true stream fits kept = inl kept
kept_fits false stream fits kept = inr (stream, kept, fits)

-- behind all of a list there is nothing
none_found : (xs : List Change) (n : ℕ) (c : Change) → length xs ≤ n → slice_get xs n ≡ Some c → ⊥
none_found [] n c all here = cc
none_found (x ∷ xs) zero c all here = omega arith
none_found (x ∷ xs) (suc n) c all here = none_found xs n c (omega arith) here

streaming_fits : {fv : Wants} {kn : Member} {pv : Option Plain} {leader : Member} {g : Option Granted} {served : PlainProducer} {asker : PlainConsumer} {asked said : List Frame} → asker.dialed.vb < 1024 → (x : Streaming fv kn pv leader g served asker asked said) → StreamFits x.serving.stream
streaming_fits {asker = asker} few x =
    let o : x.stream.opaque ≡ asker.asked = x.streams.put.opaque_is in
    let v : x.stream.vb ≡ asker.dialed.vb = x.streams.put.vb_is in
    let small : asker.asked < 2 ^ 32 = x.consumer.small in
    record {
      opaque = omega arith;
      vb = omega arith;
      item = λ c here. change_readable c x.stream.opaque x.stream.vb (all_found ChangeFits x.stream.items x.stream.next c x.streams.put.fits here) (omega arith) (omega arith);
    }

-- an heir's has no item to put
heir_fits : {pv : Option Plain} {g : Option Granted} {served : PlainProducer} {asker : PlainConsumer} {asked said : List Frame} → asker.dialed.vb < 1024 → (x : Heir pv g served asker asked said) → StreamFits x.stream
heir_fits {asker = asker} few x =
    let o : x.stream.opaque ≡ asker.asked = x.opaque_is in
    let v : x.stream.vb ≡ asker.dialed.vb = x.vb_is in
    let small : asker.asked < 2 ^ 32 = x.small in
    record { opaque = omega arith; vb = omega arith; item = λ c here. absurd (none_found x.stream.items x.stream.next c x.whole here) }

module _ {fv : Wants} {kn : Member} {pv : Option Plain} {leader : Member} {g : Option Granted} {last : Option Role} {point : Option ℕ} {served : PlainProducer} {asker : PlainConsumer} {asked said : List Frame} where
  stream_fits : asker.dialed.vb < 1024 → EndsStand fv kn pv leader g last point served asker asked said → OneFits served.streams
  stream_fits few (EndsStand.IsAsking ask none x) = inl x.no_stream
  stream_fits few (EndsStand.IsRefusedYet none x) = inl x.no_stream
  stream_fits few (EndsStand.IsStreaming x state) = kept_fits x.granted_is.over x.stream (streaming_fits few x) x.stream_is
  stream_fits few (EndsStand.IsHeir x state) = kept_fits x.granted_is.over x.stream (heir_fits few x) x.stream_is

module _ (takes : TakesSnapshots) (stays : StaysSound) (w : PlainWorld) (r : Chronicle) (link : PlainLink) (node : PlainNode) (found : row_at link_number (link_number link) w.links ≡ Some link) (buffered : Buffered link.consumer.dialed.buffer) where
  abbrev buffer : ℕ
  buffer = link.consumer.dialed.buffer

  abbrev l : ℕ
  l = link_number link

  -- what was put so far is on its way down
  abbrev down_at : List ℕ → List ℕ
  down_at out = link.down_heard ++ (link.down ++ out)

  abbrev asked : List Frame
  asked = frames_in (link.up_heard ++ link.up)

  abbrev PutHolds : Served → Type 0
  PutHolds s = Holds buffer (room_of s.end) (over stream_len (down_at s.out)) asked

  -- the same behind a frame, or where none was put
  abbrev TurnPuts : Turn Pulling (Served × Halt) → Type 0
  TurnPuts (More p) = PutHolds p.served
  TurnPuts (Stop stopped) = PutHolds stopped.0

  -- and of what a pull comes to
  abbrev PutEnds : PullResult → Type 0
  PutEnds told = Holds buffer (room_of told.peer.producer) (over stream_len (down_at told.out)) (frames_in (told.peer.heard ++ link.up))

  module _ (states : States) (s : Served) (g : SoFar w r l link node states s) (holds : PutHolds s) where
    abbrev here : PlainLink
    here = served_link link s

    abbrev now : PlainWorld
    now = pumped w l link node states s

    la : LinkAgrees now (after_lines r s.events) g.agrees.0 here [] []
    la = let p = found_is_link l now.links here (put_is_found l w.links link here found refl) in g.agrees.1.links here p.0

    said_spelled : down_at s.out ≡ spelled la.talk.said
    said_spelled = la.talk.downs.bytes ∙ ap spelled (sym la.talk.downs.joined)

    asked_are : asked ≡ la.talk.asked
    asked_are = later_frames link.up_heard link.up [] la.talk.ups.behind la.talk.ups.bytes (subst (All Readable) la.talk.ups.joined la.talk.ups.readable) ∙ sym la.talk.ups.joined

    sized : HasStream s → s.end.window.size ≡ buffer
    sized some = sized_if la.talk.stands some (subst (WindowIs buffer (room_of s.end)) asked_are holds.window)

    -- a frame was put
    more_holds : (t : Served) (f : Frame) → Readable f → is_of_stream f ≡ true → HasStream s → t.out ≡ s.out ++ spelling f → Passes (length (spelling f)) (room_of s.end) (room_of t.end) → PutHolds t
    more_holds t f readable counts some out (same, passed) =
        let size : s.end.window.size ≡ buffer = sized some in
        let some_buffer = buffered.some in
        let behind : down_at (s.out ++ spelling f) ≡ down_at s.out ++ spelling f = ap (λ b. link.down_heard ++ b) (sym (append_assoc link.down s.out (spelling f))) ∙ sym (append_assoc link.down_heard (link.down ++ s.out) (spelling f)) in
        let more = over_more stream_len (down_at s.out) (spelling f) la.talk.said la.talk.downs.readable said_spelled in
        let one = over_one stream_len f readable in
        let len = put_len f counts in
        let whole = length-spelling f in
        let limit = readable.limit in
        let counted : over stream_len (down_at t.out) ≡ over stream_len (down_at s.out) + length (spelling f) = ap (λ o. over stream_len (down_at o)) out ∙ ap (over stream_len) behind ∙ omega (arith, more, one, len) in
        let grew : (s.end.window.outstanding < s.end.window.size) × (t.end.window.outstanding ≡ s.end.window.outstanding + length (spelling f)) = ⊎_elim (λ none. let z = none.0 in absurd (omega arith)) (λ go. go) passed in
        let free = grew.0 in
        let went = grew.1 in
        let before = holds.balance in
        record { balance = omega arith; window = inl (same ∙ size); below = omega arith }

    after_turn : (t : Turn Pulling (Served × Halt)) → Went s t → TurnPuts t
    after_turn (More p) (f, is, some, out, passed) = more_holds p.served f is.0 is.1 some out passed
    after_turn (Stop (t, h)) same = subst (λ w. Holds buffer w (over stream_len (down_at t.out)) asked) (sym same.0) (subst (λ out. Holds buffer (room_of s.end) (over stream_len (down_at out)) asked) (sym same.1) holds)

    one_turn : TurnPuts (after_reads (one_frame (pull_of s none_quiet)) node.shelves states).1
    one_turn = after_turn (after_reads (one_frame (pull_of s none_quiet)) node.shelves states).1 (⊎_elim (λ none. none_went s node.shelves states none) (λ one. one_went s node.shelves states one.0 one.1 one.2) (stream_fits la.small.1 la.talk.stands))

  -- so many frames
  abbrev Both : States × Turn Pulling (Served × Halt) → Type 0
  Both x = TurnsSoFar w r l link node x × TurnPuts x.1

  next_turn : (states : States) (x : Turn Pulling (Served × Halt)) → TurnSoFar w r l link node states x → TurnPuts x → Both (after_reads (go_on_job one_frame x) node.shelves states)
  next_turn states (More p) g holds =
      subst (λ q. Both (after_reads (one_frame (pull_of p.served q)) node.shelves states)) (sym g.1) (turn w r l link node found states p.served g.0 takes stays, one_turn states p.served g.0 holds)
  next_turn states (Stop stopped) g holds = (g, holds)

  turns : (k : ℕ) (states : States) (s : Served) → SoFar w r l link node states s → PutHolds s → Both (after_reads (repeated_job k one_frame (pull_of s none_quiet)) node.shelves states)
  turns zero states s g holds = ((g, refl), holds)
  turns (suc k) states s g holds =
      let x = after_reads (repeated_job k one_frame (pull_of s none_quiet)) node.shelves states in
      let before = turns k states s g holds in
      subst Both (sym (after_reads_bind (repeated_job k one_frame (pull_of s none_quiet)) (go_on_job one_frame) node.shelves states)) (next_turn x.0 x.1 before.0 before.1)

  -- what is left of them
  left_holds : (states : States) (x : Turn Pulling (Served × Halt)) → TurnPuts x → PutHolds (after_reads (pulled x) node.shelves states).1.0
  left_holds states (More p) holds = holds
  left_holds states (Stop stopped) holds = holds

  module _ (a : Agrees w r) (read : LinkKnown r r link) (known : w.nodes (producer_node link) ≡ Some node) where
    abbrev first : Served
    first = begun link.server

    first_holds : Level link → PutHolds first
    first_holds level = subst (λ b. Holds buffer (room_of link.server) (over stream_len (link.down_heard ++ b)) asked) (sym (append-nil link.down)) (level buffered)

    pub pump_holds : (frames : ℕ) → Level link → PutEnds (after_reads (peer_pulled frames (peer_of link)) node.shelves node.vbs).1
    unfolding frames_put
    pump_holds frames level =
        let x = after_reads (repeated_job frames one_frame (pull_of first none_quiet)) node.shelves node.vbs in
        subst PutEnds
        (sym (ap (λ y. y.1) (after_reads_bind (frames_put frames first) (λ put. Ended (pull_result link.up_heard put)) node.shelves node.vbs) ∙ ap (λ y. pull_result link.up_heard y.1) (after_reads_bind (repeated_job frames one_frame (pull_of first none_quiet)) pulled node.shelves node.vbs)))
        (left_holds x.0 x.1 (turns frames node.vbs first (first_so_far takes stays w r link node found a known read) (first_holds level)).1)
