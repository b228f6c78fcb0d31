-- each lawful transcript passes a checker, line by line
use Rattle.std.proofs.Common.{Bool, List, [], ap, append-nil, arith, false, inl, inr, length, map, refl, subst, sym, true, ℕ, ⊎_elim, ◌+◌, ◌<◌, ◌∙◌, ◌∷◌, ◌≡◌, ◌≤◌}
use Rattle.std.proofs.lemmas.Bool.Decides.{nat_tests}
use Rattle.std.proofs.lemmas.Bool.{cases_lt}
use Rattle.std.specs.FinMap.{get}
use Rattle.std.specs.Prelude.{◌==◌, if◌then◌else◌, ◌⊎◌, ◌^◌, ◌||◌, Option, Some, None}
use Rattle.client_session.specs.declared.session.Settings.{Settings}
use Rattle.dcp_producer.proofs.Headers.{vb_told}
use Rattle.mcbp_dcp.specs.declared.message.DcpMsg.{DcpMsg}
use Rattle.mcbp_frame.proofs.Cases.{length-spelling}
use Rattle.mcbp_frame.specs.Frames.{big_16_at, body_size}
use Rattle.mcbp_frame.specs.Spelling.{spelling}
use Rattle.mcbp_frame.specs.declared.frame.Frame.{Frame}
use Rattle.mcbp_frame.specs.declared.frame.TheConstants.{HEADER_LEN}
use Rattle.mcbp_kv.specs.{Requests.{request_of}, declared.durable.Durability.{Durability}}
use Rattle.script_text.specs.declared.verb.ScriptLine.{ScriptLine}
use Rattle.durability.specs.Chains.{Members}
use Rattle.vb_calls.specs.Writes.{doc_refusal}
use Rattle.vb_events.specs.declared.event.Event.{Event}
use Rattle.vb_events.specs.declared.event.Event.TheVariants as event
use Rattle.vb_events.specs.declared.event.Group.{Group}
use Rattle.vb_events.specs.declared.event.StreamName.TheVariants as name
use Rattle.vb_types.specs.Images.{Picture, image_of}
use Rattle.vb_types.specs.Statuses.{status_code}
use Rattle.vb_types.specs.declared.change.Change.{Change}
use Rattle.vb_types.specs.declared.change.Pend.{Pend}
use Rattle.vb_types.specs.declared.doc.Doc.{Doc}
use Rattle.vb_types.specs.declared.role.Role.{Role}
use Rattle.vb_types.specs.declared.role.Role.TheVariants as role
use Rattle.vb_types.specs.declared.status.Status.{Status}
use Rattle.vb_types.specs.declared.status.Status.TheVariants as status
use Rattle.vb_types.specs.declared.write.Op.{Op}
use Rattle.vb_types.specs.declared.write.Op.TheVariants as op
use Rattle.vb_types.specs.declared.write.Write.{Write}
use Rattle.branch_model.specs.Histories.{last_seq}
use Rattle.transcript_law.specs.Checked.{AllPass, Checked, CheckedAck, CheckedChange, CheckedCount, CheckedEnd, CheckedFrom, CheckedItem, CheckedLine, CheckedMark, CheckedReply, CheckedShow, CheckedState, IsBacked, OfClient, OfLink, complete_number}
use Rattle.transcript_law.specs.Chronicles.{Chronicle, Conns, CountsKnown, ItemLine, after_group, after_line, ahead, at_line, conns_line, empty_chronicle}
use Rattle.transcript_law.specs.ClientStreams.{ClientKnown, ClientStream, stream_view}
use Rattle.transcript_law.specs.Clients.{Heard}
use Rattle.transcript_law.specs.LawfulAnswers.{serving, Answers, AnswersFault, FitsBy, FitsDurable, FitsFrame, FitsNumbered, FitsRequest, IsCommitted, IsStatus, IsWhyRefused, LacksMajority, LawfulReply}
use Rattle.transcript_law.specs.LawfulClients.{IsActive, IsPut, LawfulClientEnd, LawfulClientItem, LawfulClientMark, ReachesMeant, StartsAt}
use Rattle.transcript_law.specs.LawfulMessages.{moment_of}
use Rattle.transcript_law.specs.Lawfulness.{Fulfils, IsHeldIfCommitted, Lawful, LawfulAcknowledged, LawfulChange, LawfulCounted, LawfulFinish, LawfulFrom, LawfulGroups, LawfulItem, LawfulLine, LawfulMark, LawfulShown, LawfulState, LinesFrom, ShownLine, next_marker_start, reach_after, stream_history}
use Rattle.transcript_law.proofs.Words.{eq-eqb}
use Rattle.transcript_law.specs.LinesTold.{is_dial_of}
use Rattle.transcript_law.specs.Majorities.{IsHeldByMost}
use Rattle.transcript_law.specs.Questions.{Question, question_of}
use Rattle.transcript_law.specs.StreamLaws.{LawfulSaid}
use Rattle.transcript_law.specs.StreamsTold.{Asking}
use Rattle.transcript_law.specs.Unanswered.{AsksDurably}
use Rattle.transcript_law.specs.LinesTold.{OwnChange}

-- ---- changes

backed : (counts : CountsKnown) (saved : ℕ) (image : Picture) (c : Change) → Fulfils image c → IsHeldIfCommitted counts saved image c → IsBacked counts saved image c
backed counts saved image c fulfils most prepared doc deleted e =
    let (p, waits, seq, doc_is, deleted_is) = fulfils prepared doc deleted e in
    (p, waits, seq, subst (λ s. IsHeldByMost counts saved s p.level) seq (most prepared doc deleted e p waits))

change : (r : Chronicle) (n v uuid : ℕ) (c : Change) → LawfulChange r n v uuid c → CheckedChange r n v uuid c
change r n v uuid c l = record { writer = l.writer; backed = backed (r.counts_at n v) (r.disk_at n v).saved (image_of (r.held n v)) c l.fulfils l.backed }

show : (r : Chronicle) (said : ShownLine) (behind : List Event) → LawfulShown r said behind → said.at ≡ said.se → CheckedShow r said.node said.vb said.uuid said.at behind
show r said behind l ends = let s = l.complete ends in record { image = s.lines; shared = s.shared }

-- ---- streams of links

link_mark : (r : Chronicle) (l start end flags : ℕ) → LawfulMark r (name.Link l) start end flags → OfLink r l (λ g. CheckedMark (stream_history r g) true g.ask g.place g.last start end)
link_mark r l start end flags (g, stream, m, source) = (
  g,
  stream,
  record {
    behind = m.behind;
    covers = m.whole;
    first_start = λ none. subst (λ last. start ≡ next_marker_start last g) none m.starts;
    first_end = λ none. subst (λ last. reach_after last g ≤ end) none m.reaches;
  },
)

link_item : (r : Chronicle) (l : ℕ) (item : ItemLine) → LawfulItem r (name.Link l) item → OfLink r l (λ g. CheckedItem g.last item)
link_item r l item (g, b, stream, opens, last, next, source) = (g, stream, (b, last, next))

link_state : (r : Chronicle) (l : ℕ) (role : Role) → LawfulState r l role → OfLink r l (CheckedState r)
link_state r l role s = (s.stream, (s.dial.vb, ap (is_dial_of s.dial.vb) s.takes_on.dialed ∙ eq-eqb s.dial.vb s.dial.vb refl, s.takes_on.stream), (s.whole, s.all))

link_end : (r : Chronicle) (l reason : ℕ) → LawfulFinish r (name.Link l) reason → OfLink r l (λ g. CheckedEnd reason g.last)
link_end r l reason (g, stream, opens, whole, by) = (g, stream, λ all. whole)

-- ---- streams of clients

long : (bytes : List ℕ) (f : Frame) → bytes ≡ spelling f → HEADER_LEN ≤ length bytes
long bytes f e = let n : length bytes ≡ 24 + body_size f = ap (λ (l : List ℕ). length l) e ∙ length-spelling f in omega (arith, n)

put : (Rule : ClientStream → Type 0) (known : ClientKnown) (n c : ℕ) (m : DcpMsg) (behind : List Event) (p : IsPut n c known m behind) → Rule p.stream → OfClient Rule known n c behind
put Rule known n c m behind p ruled = record { bytes = p.bytes; stands = p.stands; long = long p.bytes _ p.spelled; stream = p.stream; known_as = p.known_as; ruled = ruled }

client_mark : (r : Chronicle) (known : ClientKnown) (n c start end flags : ℕ) (behind : List Event) → LawfulClientMark r known n c start end flags behind
    → OfClient (λ g. CheckedMark (stream_view r.tree g) g.sync g.ask g.place g.last start end) known n c behind
client_mark r known n c start end flags behind l = let g = l.put.stream in let m = l.marker in put _ known n c _ behind l.put (record {
  behind = m.behind;
  covers = m.whole;
  first_start = λ none. subst (λ last. StartsAt last r.tree g start end) none m.starts;
  first_end = λ none. subst (λ last. ReachesMeant last r.tree g end) none m.reaches;
})

client_item : (r : Chronicle) (known : ClientKnown) (n c : ℕ) (item : ItemLine) (behind : List Event) → LawfulClientItem r known n c item behind → OfClient (λ g. CheckedItem g.last item) known n c behind
client_item r known n c item behind l = put _ known n c _ behind l.put (l.begun, l.last, l.next)

client_end : (known : ClientKnown) (n c reason : ℕ) (behind : List Event) → LawfulClientEnd known n c reason behind → OfClient (λ g. CheckedEnd reason g.last) known n c behind
client_end known n c reason behind l = put _ known n c _ behind l.put (λ all. l.whole)

-- ---- acknowledgements

complete : (at seq ss se : ℕ) → seq ≤ at → at ≤ se → (at < se → seq ≤ ss) → seq ≤ complete_number at (ss, se)
complete at seq ss se held within inside = by (at == se) refl
  where
    by : (b : Bool) → (at == se) ≡ b → seq ≤ (if b then at else ss)
    by true e = held
    by false e = let below : at < se = grind (arith, nat_tests, e, within) in inside below

ack : (r : Chronicle) (l n v seq saved : ℕ) → LawfulAcknowledged r l n v seq saved → CheckedAck r l n v seq saved
ack r l n v seq saved a = record {
  stream = a.fed.0;
  fed = a.fed.1;
  complete = λ ends known. complete (last_seq 0 (r.held n v)) seq ends.0 ends.1 a.held (a.follows ends.0 ends.1 known).within (a.complete ends.0 ends.1 known);
  follows = λ ends known. a.follows ends.0 ends.1 known;
  thirds = a.thirds;
}

count : (r : Chronicle) (l n v member seq : ℕ) → LawfulCounted r l n v member seq → CheckedCount r l n v member seq
count r l n v member seq c = let (g, has, opens, wrote, branch) = c.granted in record { another = c.another; dialed = c.dialed; stream = g; granted = has; wrote = wrote; on_branch = branch }

-- ---- answers to durable writes

-- a status has room in its field
status_small : (st : Status) → status_code st < 2 ^ 16
status_small status.Success = omega arith
status_small other = omega arith

-- the status of an answer stands in its header
no_success : (bytes : List ℕ) (f g : Frame) (st : Status) → bytes ≡ spelling g → IsStatus f g st → big_16_at bytes 6 ≡ status_code status.Success → status_code st ≡ 0
no_success bytes f g st e b success =
    let small : g.vb_or_status < 2 ^ 16 = subst (λ n. n < 2 ^ 16) (sym b.header.status) (status_small st) in
    sym b.header.status ∙ sym (vb_told g [] small) ∙ ap (λ (l : List ℕ). big_16_at l 6) (append-nil (spelling g) ∙ sym e) ∙ success

-- no refusal is a success
named : (known : Status) → (status_code known ≡ 0 → ⊥) → (st : Status) → Some known ≡ Some st → status_code st ≡ 0 → ⊥
named known other st e z = let same : known ≡ st = cc in other (ap status_code same ∙ z)

either : (b : Bool) (known : Status) → (status_code known ≡ 0 → ⊥) → (st : Status) → (if b then None else Some known) ≡ Some st → status_code st ≡ 0 → ⊥
either true known other st e z = cc
either false known other st e z = named known other st e z

no_key : status_code status.KeyEnoent ≡ 0 → ⊥
no_key z = omega (arith, z)

key_there : status_code status.KeyEexists ≡ 0 → ⊥
key_there z = omega (arith, z)

of_doc : (o : Op) (cas : ℕ) (there : Option Doc) (st : Status) → doc_refusal o cas there ≡ Some st → status_code st ≡ 0 → ⊥
of_doc op.Set cas None st e z = either (cas == 0) status.KeyEnoent no_key st e z
of_doc op.Add cas None st e z = cc
of_doc op.Replace cas None st e z = named status.KeyEnoent no_key st e z
of_doc op.Delete cas None st e z = named status.KeyEnoent no_key st e z
of_doc op.Set cas (Some doc) st e z = either (cas == 0 || cas == doc.cas) status.KeyEexists key_there st e z
of_doc op.Add cas (Some doc) st e z = named status.KeyEexists key_there st e z
of_doc op.Replace cas (Some doc) st e z = either (cas == 0 || cas == doc.cas) status.KeyEexists key_there st e z
of_doc op.Delete cas (Some doc) st e z = either (cas == 0 || cas == doc.cas) status.KeyEexists key_there st e z

-- a status that is this one is none of success
is_other : (st known : Status) → (status_code known ≡ 0 → ⊥) → st ≡ known → status_code st ≡ 0 → ⊥
is_other st known other e z = other (sym (ap status_code e) ∙ z)

-- nor is the reason for which a durable write is refused
of_chain : (chain : Members) (held : List Change) (st : Status) → LacksMajority chain held st → status_code st ≡ 0 → ⊥
of_chain chain held st x z = ⊎_elim (λ full. is_other st status.Etmpfail (λ e. omega (arith, e)) full.said z) (λ few. is_other st status.DurabilityImpossible (λ e. omega (arith, e)) few.1 z) x

of_role : (known : Option (Option Role)) → IsActive known ⊎ (IsActive known → ⊥)
of_role None = inr (λ e. cc)
of_role (Some None) = inr (λ e. cc)
of_role (Some (Some role.Active)) = inl refl
of_role (Some (Some role.Replica)) = inr (λ e. cc)
of_role (Some (Some role.Pending)) = inr (λ e. cc)
of_role (Some (Some role.Dead)) = inr (λ e. cc)

module _ (Besides : Status → Type 0) (known : Option (Option Role)) (risen : ℕ) (image : Picture) (write : Write) (st : Status) (why : IsWhyRefused Besides known risen image write st) (besides : Besides st → status_code st ≡ 0 → ⊥) (z : status_code st ≡ 0) where
  of_key : IsActive known → (p : Option Pend) → get image.pending write.key ≡ p → ⊥
  of_key active (Some p) e = ⊎_elim
      (λ own. ⊎_elim (λ (one : st ≡ status.SyncWriteInProgress). is_other st status.SyncWriteInProgress (λ q. omega (arith, q)) one z) (λ b. besides b z) (why.locked active (p, e, own)))
      (λ left. ⊎_elim (λ (one : st ≡ status.SyncWriteReCommitInProgress). is_other st status.SyncWriteReCommitInProgress (λ q. omega (arith, q)) one z) (λ b. besides b z) (why.left active (p, e, left)))
      (cases_lt risen p.seq)
  of_key active None e = ⊎_elim (λ d. of_doc write.op write.cas (get image.docs write.key) st d z) (λ b. besides b z) (why.unfit active e)

  refused : ⊥
  refused = ⊎_elim (λ active. of_key active (get image.pending write.key) refl) (λ off. is_other st status.NotMyVbucket (λ q. omega (arith, q)) (why.away off) z) (of_role known)

-- of what fits a durable write Success is its commit alone
module _ (served : Option (List OwnChange)) (r : Chronicle) (n v : ℕ) (settings : Settings) (write : Write) (wish : Durability) (f g : Frame) (bytes : List ℕ) (spelled : bytes ≡ spelling g) (success : big_16_at bytes 6 ≡ status_code status.Success) where
  of_status : (st : Status) → (status_code st ≡ 0 → ⊥) → IsStatus f g st → ⊥
  of_status st other is = other (no_success bytes f g st spelled is success)

  committed : FitsDurable served r n v settings write wish f g → IsCommitted n v served r.made settings write wish f g
  committed fits = ⊎_elim (λ no.
      let (st, is, why, first) = no in absurd (refused (LacksMajority (r.counts_at n v).chain (r.held n v)) (r.role_at n v) (r.counts_at n v).risen (image_of (r.held n v)) write st why (of_chain (r.counts_at n v).chain (r.held n v) st) (no_success bytes f g st spelled is success))) (λ y. ⊎_elim (λ is. is) (λ nobody. absurd (of_status status.SyncWriteAmbiguous (λ q. omega (arith, q)) nobody.said)) y) fits

  with_number : (count : ℕ) → FitsNumbered count f g (FitsDurable served r n v settings write wish f g) → IsCommitted n v served r.made settings write wish f g
  with_number count fits = ⊎_elim (λ spent. absurd (of_status status.Etmpfail (λ q. omega (arith, q)) spent.1)) (λ left. committed left.1) fits

answered : (r : Chronicle) (n c : ℕ) (asking : Asking) (bytes : List ℕ) (q : Question) → question_of asking ≡ Some q → (asks : AsksDurably asking.settings q.frame) → big_16_at bytes 6 ≡ status_code status.Success → Answers r n c asking bytes
    → (answer : Frame) × (bytes ≡ spelling answer) × IsCommitted n q.frame.vb_or_status (serving r n c asking) r.made asking.settings asks.write asks.wish q.frame answer
answered r n c asking bytes q next asks success a =
    let both : Some a.question ≡ Some q = sym a.next ∙ next in let same : a.question ≡ q = cc in
    let fits : FitsFrame (serving r n c asking) r n (moment_of (r.clients_at n c) asking q) asking.settings q.frame a.answer = subst (λ (p : Question). FitsFrame (serving r n c asking) r n (moment_of (r.clients_at n c) asking p) asking.settings p.frame a.answer) same a.fits in
    let of_kv : FitsRequest (serving r n c asking) r n asking.durables asking.settings q.frame a.answer (request_of asking.settings.json q.frame) = subst (λ b. FitsBy b (serving r n c asking) r n (moment_of (r.clients_at n c) asking q) asking.settings q.frame a.answer) asks.own fits in
    let durable : FitsNumbered asking.durables q.frame a.answer (FitsDurable (serving r n c asking) r n q.frame.vb_or_status asking.settings asks.write asks.wish q.frame a.answer) = subst (FitsRequest (serving r n c asking) r n asking.durables asking.settings q.frame a.answer) asks.asks of_kv in
    (a.answer, a.spelled, with_number (serving r n c asking) r n q.frame.vb_or_status asking.settings asks.write asks.wish q.frame a.answer bytes a.spelled success asking.durables durable)

reply : (r : Chronicle) (n c : ℕ) (bytes : List ℕ) (behind : List Event) → ((r.clients_at n c).told ≡ None → LawfulReply r n c (r.clients_at n c).asking bytes behind) → CheckedReply r n c bytes
reply r n c bytes behind l question s = ⊎_elim (answered r n c (r.clients_at n c).asking bytes question s.next s.asks s.success)
    (λ (fault : AnswersFault n c r (r.clients_at n c).asking bytes behind). let e : None ≡ Some question = sym fault.none ∙ s.next in cc) (l s.own)

-- ---- lines

pub line_passes : (r : Chronicle) (line : Event) (behind : List Event) → LawfulLine r line behind → CheckedLine r line behind
line_passes r (event.Branch n v uuid parent fork high) behind l = l.new
line_passes r (event.Changed n v uuid c) behind l = change r n v uuid c l
line_passes r (event.Reply n c bytes) behind l = reply r n c bytes behind l
line_passes r (event.Asked (name.Link k) n v ask high log said) behind l = l.answered
line_passes r (event.Asked (name.Client n c) m v ask high log said) behind l = subst (λ k. LawfulSaid r k v ask high log said) (sym l.own_node) l.answered
line_passes r (event.Adopted n v log) behind l = l
line_passes r (event.Marked (name.Link k) start end flags) behind l = link_mark r k start end flags l
line_passes r (event.Marked (name.Client n c) start end flags) behind l = client_mark r (r.clients_at n c) n c start end flags behind l
line_passes r (event.Item (name.Link k) seq act key) behind l = link_item r k _ l
line_passes r (event.Item (name.Client n c) seq act key) behind l = client_item r (r.clients_at n c) n c _ behind l
line_passes r (event.Finished (name.Link k) reason) behind l = link_end r k reason l
line_passes r (event.Finished (name.Client n c) reason) behind l = client_end (r.clients_at n c) n c reason behind l
line_passes r (event.Stated (name.Link k) role) behind l = link_state r k role l
line_passes r (event.Stated (name.Client n c) role) behind l = l
line_passes r (event.Rolled n v named to) behind l = l.1
line_passes r (event.Acknowledged (name.Link k) n v seq saved) behind l = ack r k n v seq saved l
line_passes r (event.Acknowledged (name.Client m c) n v seq saved) behind l = l
line_passes r (event.Counted (name.Link k) n v member seq) behind l = count r k n v member seq l
line_passes r (event.Counted (name.Client m c) n v member seq) behind l = l
line_passes r (event.Shown n v role uuid at ss se docs preps) behind l = show r _ behind l
line_passes r (event.Role n v role) behind l = tt
line_passes r (event.Closed n c) behind l = tt
line_passes r (event.Ranged n v ss se) behind l = tt
line_passes r (event.Got n v stream c) behind l = tt
line_passes r (event.Batch n v ss se at count) behind l = tt
line_passes r (event.Stat n v windows items cursors saved high) behind l = tt
line_passes r (event.CallFailed n) behind l = tt
line_passes r (event.NodeStopped n) behind l = tt
line_passes r (event.Ended k reason) behind l = tt
line_passes r (event.Logged n v log) behind l = tt
line_passes r (event.Document key doc) behind l = tt
line_passes r (event.Prepared key seq level) behind l = tt

pub lines_pass : (r : Chronicle) (lines : List Event) → LawfulFrom r lines → CheckedFrom r lines
lines_pass r [] l = tt
lines_pass r (line ∷ behind) l = (line_passes r line behind l.0, lines_pass (after_line r line) behind l.1)

-- also where it was heard which connections are open
heard : (r : Chronicle) (conns : Conns) (line : Event) (behind : List Event) → Heard conns line behind (LawfulLine r line behind) → CheckedLine r line behind
heard r conns (event.Reply n c bytes) behind h = line_passes r (event.Reply n c bytes) behind h.1
heard r conns (event.Closed n c) behind h = tt
heard r conns (event.NodeStopped n) behind h = tt
heard r conns other behind h = line_passes r other behind h

lines_heard : (r : Chronicle) (conns : Conns) (lines : List Event) → LinesFrom r conns lines → CheckedFrom r lines
lines_heard r conns [] l = tt
lines_heard r conns (line ∷ behind) l = (heard r conns line behind l.0, lines_heard (after_line r line) (conns_line conns line) behind l.1)

-- ---- groups

all_pass : (r : Chronicle) (script : List ScriptLine) (groups : List Group) → LawfulGroups r script groups → AllPass r script groups
all_pass r [] [] l = tt
all_pass r (line ∷ lines) [] l = tt
all_pass r [] (group ∷ groups) l = tt
all_pass r (line ∷ lines) (group ∷ groups) l = (lines_heard (ahead (at_line r line.line) line.verb group.answer) r.conn_at group.events l.0.0, all_pass (after_group (at_line r line.line) line.verb group.events group.answer) lines groups l.1)

numbered : (r : Chronicle) (script : List ScriptLine) (groups : List Group) → LawfulGroups r script groups → map (λ (group : Group). group.line) groups ≡ map (λ (line : ScriptLine). line.line) script
numbered r [] [] l = refl
numbered r (line ∷ lines) [] l = absurd l
numbered r [] (group ∷ groups) l = absurd l
numbered r (line ∷ lines) (group ∷ groups) l = (λ i. l.0.3 i ∷ numbered (after_group (at_line r line.line) line.verb group.events group.answer) lines groups l.1 i)

pub passes : (script : List ScriptLine) (groups : List Group) → Lawful script groups → Checked script groups
passes script groups l = record { numbered = numbered empty_chronicle script groups l; passes = all_pass empty_chronicle script groups l }
