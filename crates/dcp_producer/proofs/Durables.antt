-- what is put of changes, and of durable writes
use Rattle.std.proofs.Common.{◌≡◌, ℕ, Bool, true, false, List, [], ◌∷◌, ◌++◌, None, refl, ap, ◌∙◌}
use Rattle.mcbp_frame.specs.Spelling.{spelling}
use Rattle.mcbp_dcp.specs.declared.message.DcpMsg.{DcpMsg}
use Rattle.mcbp_dcp.specs.declared.message.DcpMsg.TheVariants as msg
use Rattle.mcbp_dcp.specs.DcpFrames.{dcp_frame}
use Rattle.mcbp_dcp.specs.DurableRows.{no_cas, no_times, prepare_bytes, resolution_bytes, resolution_row, some_value}
use Rattle.vb_types.specs.declared.change.Act.{Act}
use Rattle.vb_types.specs.declared.change.Act.TheVariants as act
use Rattle.vb_types.specs.declared.change.Change.{Change}
use Rattle.vb_types.specs.declared.role.Role.{Role}
use Rattle.vb_types.specs.declared.role.Role.TheVariants as role
use Rattle.takeover.specs.declared.give_up.GiveUp.{GiveUp}
use Rattle.vb_types.specs.declared.change.Level.TheVariants as level
use Rattle.vb_types.specs.declared.doc.Doc.{Doc}
use Rattle.vb_events.specs.declared.event.Event.TheVariants as event
use Rattle.vb_types.specs.declared.stream.Snapshot.{Snapshot}
use Rattle.vb_calls.specs.Jobs.{Ended, bind_job}
use Rattle.vb_calls.specs.Programs.{Stop}
use Rattle.mcbp_dcp.specs.MessageRows.{answer_head, state_bytes, deletion_bytes, end_bytes, marker_bytes, mutation_bytes, no_four}
use Rattle.dcp_producer.specs.Producers.{Served}
use Rattle.dcp_producer.specs.Frames.{state_put, act_message, act_sent, item_line, marker_flags, next_by, next_frame, past_item}
use Rattle.dcp_producer.specs.Pulling.{came, frame_put, stream_asked, stream_went, pull_of}
use Rattle.dcp_producer.specs.Items.{Asking, ComesAs, IsNext, EndsBytes, MarksBytes, Puts, PutsDurables, PutsPlain, PutsBytes, durable_row, durable_doc}

module _ (a : Asking) (c : Change) (next : IsNext a.stream c) where
  -- the stream behind its item, with this message
  item_served : DcpMsg → Served
  item_served m = frame_put (dcp_frame m a.stream.opaque a.stream.vb) (item_line a.served.end.desk.stream c) (stream_went (past_item c.seq a.stream) a.served)

  item_turn : stream_asked a.served a.quiet a.stream ≡ Ended (Stop (pull_of (item_served (act_message c c.act)) a.quiet, None))
  unfolding next_frame item_served
  item_turn = ap (λ o. bind_job (next_by a.served.end.desk.stream a.stream o) (λ n. Ended (came a.served a.quiet n))) next

  -- an item with this act and this message is put
  puts : (x : Act) (m : DcpMsg) → c.act ≡ x → act_message c x ≡ m → Puts a c (act_sent x) m
  unfolding item_served
  puts x m is said = record {
    then = item_served m;
    goes_on = item_turn ∙ ap (λ o. Ended (Stop (pull_of (item_served o) a.quiet, None))) (ap (act_message c) is ∙ said);
    line = ap (λ sent. a.served.events ++ event.Item a.served.end.desk.stream c.seq sent c.key ∷ []) (ap act_sent is);
    frame = refl;
  }

  pub durables : PutsDurables a c
  durables = record {
    prepare = λ level doc is. puts (act.Prepare level doc false) _ is refl;
    removal = λ level doc is. puts (act.Prepare level doc true) _ is refl;
    commit = λ prepared doc deleted is. puts (act.Commit prepared doc deleted) _ is refl;
    abort = λ prepared is. puts (act.Abort prepared) _ is refl;
  }

  pub plain_ones : PutsPlain a c
  plain_ones = record {
    stored = λ doc is. puts (act.Set doc) _ is refl;
    removed = λ cas rev is. puts (act.Remove cas rev) _ is refl;
  }

-- the bytes of the message are put
bytes_put : (c : Change) (m : DcpMsg) (bytes : List ℕ) → act_message c c.act ≡ m → spelling (dcp_frame m 0x0a0b0c0d 0x0102) ≡ bytes → PutsBytes c bytes
unfolding item_served
bytes_put c m bytes said spelled a next opaque vb = (
  item_served a c next m,
  item_turn a c next ∙ ap (λ o. Ended (Stop (pull_of (item_served a c next o) a.quiet, None))) said,
  (λ i. a.served.out ++ spelling (dcp_frame m (opaque i) (vb i))) ∙ ap (λ b. a.served.out ++ b) spelled,
)

pub prepare_bytes_put : PutsBytes (durable_row 0x1112131415161718 (act.Prepare level.MajorityPersistActive (durable_doc some_value) false)) (prepare_bytes 0x27 no_times 0 2 some_value)
unfolding spelling dcp_frame
prepare_bytes_put = bytes_put (durable_row 0x1112131415161718 (act.Prepare level.MajorityPersistActive (durable_doc some_value) false)) _ _ refl refl

pub removal_bytes_put : PutsBytes (durable_row 0x1112131415161718 (act.Prepare level.PersistMajority (durable_doc []) true)) (prepare_bytes 0x22 no_times 1 3 [])
unfolding spelling dcp_frame
removal_bytes_put = bytes_put (durable_row 0x1112131415161718 (act.Prepare level.PersistMajority (durable_doc []) true)) _ _ refl refl

pub commit_bytes_put : (doc : Doc) (deleted : Bool) → PutsBytes (durable_row 0x2122232425262728 (act.Commit 0x1112131415161718 doc deleted)) (resolution_bytes 0x62 0 no_cas)
unfolding spelling dcp_frame
commit_bytes_put doc deleted = bytes_put (durable_row 0x2122232425262728 (act.Commit 0x1112131415161718 doc deleted)) (msg.Commit resolution_row) _ refl refl

pub abort_bytes_put : PutsBytes (durable_row 0x2122232425262728 (act.Abort 0x1112131415161718)) (resolution_bytes 0x63 0 no_cas)
unfolding spelling dcp_frame
abort_bytes_put = bytes_put (durable_row 0x2122232425262728 (act.Abort 0x1112131415161718)) (msg.Abort resolution_row) _ refl refl

pub set_bytes_put : PutsBytes (durable_row 0x1112131415161718 (act.Set (durable_doc some_value))) (mutation_bytes no_four 0)
unfolding spelling dcp_frame
set_bytes_put = bytes_put (durable_row 0x1112131415161718 (act.Set (durable_doc some_value))) _ _ refl refl

pub remove_bytes_put : PutsBytes (durable_row 0x1112131415161718 (act.Remove 0x3132333435363738 0x2122232425262728)) (deletion_bytes 0)
unfolding spelling dcp_frame
remove_bytes_put = bytes_put (durable_row 0x1112131415161718 (act.Remove 0x3132333435363738 0x2122232425262728)) _ _ refl refl

-- the bytes of a marker's message, and of an end's
marked : (snapshot : Snapshot) (bytes : List ℕ) → spelling (dcp_frame (msg.SnapshotMarker snapshot.start snapshot.end (marker_flags snapshot.disk)) 0x0a0b0c0d 0x0102) ≡ bytes
    → MarksBytes snapshot bytes
marked snapshot bytes spelled a opaque vb = (
  _,
  refl,
  (λ i. a.served.out ++ spelling (dcp_frame (msg.SnapshotMarker snapshot.start snapshot.end (marker_flags snapshot.disk)) (opaque i) (vb i))) ∙ ap (λ b. a.served.out ++ b) spelled,
)

pub memory_bytes_put : (items : List Change)
    → MarksBytes (record { start = 0x1112131415161718; end = 0x2122232425262728; disk = false; items = items }) (marker_bytes (0x00 ∷ 0x00 ∷ 0x00 ∷ 0x01 ∷ []))
unfolding spelling dcp_frame
memory_bytes_put items = marked (record { start = 0x1112131415161718; end = 0x2122232425262728; disk = false; items = items }) _ refl

pub disk_bytes_put : (items : List Change)
    → MarksBytes (record { start = 0x1112131415161718; end = 0x2122232425262728; disk = true; items = items }) (marker_bytes (0x00 ∷ 0x00 ∷ 0x00 ∷ 0x02 ∷ []))
unfolding spelling dcp_frame
disk_bytes_put items = marked (record { start = 0x1112131415161718; end = 0x2122232425262728; disk = true; items = items }) _ refl

ended : (reason : ℕ) (bytes : List ℕ) → spelling (dcp_frame (msg.StreamEnd reason) 0x0a0b0c0d 0x0102) ≡ bytes → EndsBytes reason bytes
ended reason bytes spelled a opaque vb = (
  _,
  refl,
  (λ i. a.served.out ++ spelling (dcp_frame (msg.StreamEnd reason) (opaque i) (vb i))) ∙ ap (λ b. a.served.out ++ b) spelled,
)

pub over_bytes_put : EndsBytes 2 (end_bytes (0x00 ∷ 0x00 ∷ 0x00 ∷ 0x02 ∷ []))
unfolding spelling dcp_frame
over_bytes_put = ended 2 _ refl

pub sent_bytes_put : EndsBytes 0 (end_bytes (0x00 ∷ 0x00 ∷ 0x00 ∷ 0x00 ∷ []))
unfolding spelling dcp_frame
sent_bytes_put = ended 0 _ refl

-- ---- the frames of states

stated : (g : GiveUp) (told : Role) (bytes : List ℕ) → spelling (dcp_frame (msg.SetVbucketState told) 0x0a0b0c0d 0x0102) ≡ bytes → ComesAs (λ a. state_put a.served.end.desk.stream a.stream g told) bytes
stated g told bytes spelled a opaque vb = (
  _,
  refl,
  (λ i. a.served.out ++ spelling (dcp_frame (msg.SetVbucketState told) (opaque i) (vb i))) ∙ ap (λ b. a.served.out ++ b) spelled,
)

pub state_bytes_put : (g : GiveUp) → ComesAs (λ a. state_put a.served.end.desk.stream a.stream g role.Pending) (state_bytes 0x00 no_cas 3) × ComesAs (λ a. state_put a.served.end.desk.stream a.stream g role.Active) (state_bytes 0x00 no_cas 1)
unfolding spelling dcp_frame
state_bytes_put g = (stated g role.Pending _ refl, stated g role.Active _ refl)

pub state_answer_bytes : spelling (dcp_frame (msg.StateAnswer 0) 0x0a0b0c0d 0x0102) ≡ answer_head 0x5b 0x00 0x00 0x00
unfolding spelling dcp_frame
state_answer_bytes = refl
