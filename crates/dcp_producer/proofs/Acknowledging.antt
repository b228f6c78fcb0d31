-- how acknowledgements are weighed and counted
use Rattle.std.proofs.Common.{◌≡◌, ◌<◌, ◌≤◌, ℕ, Bool, true, false, List, [], ◌∷◌, refl, sym, ap, ◌∙◌, subst, inl, inr, arith, Option, Some, None, Ok, Err}
use Rattle.std.proofs.lemmas.Bool.Decides.{nat_tests}
use Rattle.std.specs.Prelude.{if◌then◌else◌, ◌||◌, nat_lt}
use Rattle.mcbp_frame.specs.declared.frame.Frame.{Frame}
use Rattle.mcbp_dcp.specs.declared.message.DcpMsg.TheVariants as msg
use Rattle.vb_events.specs.declared.event.StreamName.{StreamName}
use Rattle.vb_events.specs.declared.event.StreamName.TheVariants as name
use Rattle.vb_types.specs.declared.status.Status.{Status}
use Rattle.vb_types.specs.declared.status.Status.TheVariants as status
use Rattle.vb_calls.specs.declared.calls.VbCall.TheVariants as call
use Rattle.vb_calls.specs.declared.calls.VbAnswer.{VbAnswer}
use Rattle.vb_calls.specs.declared.calls.VbAnswer.TheVariants as answer
use Rattle.vb_calls.specs.declared.calls.VbReply.{VbReply}
use Rattle.vb_calls.specs.Programs.{Done, Call, Made, Told}
use Rattle.dcp_producer.specs.declared.desk.Handshake.{Handshake}
use Rattle.dcp_producer.specs.declared.desk.Handshake.TheVariants as handshake
use Rattle.dcp_producer.specs.declared.desk.Named.{Named}
use Rattle.dcp_producer.specs.declared.desk.Named.TheVariants as named
use Rattle.dcp_producer.specs.Producers.{PlainStream, Served, is_client, is_open, member_named, member_of, stream_at}
use Rattle.dcp_producer.specs.Serving.{status_sent, fed_stream, weighed, counted_with, counted_by, count_answered, count_requested, acknowledged, message_answered}
use Rattle.dcp_producer.specs.Handshaking.{Gets}
use Rattle.dcp_producer.specs.Having.{IsOpened}
use Rattle.dcp_producer.specs.Counting.{IsUnfed, IsFed, IsNoMember, IsMember, IsCounted, CountsAs, OneCount, IsCountable}
use Rattle.dcp_producer.proofs.Finding.{none_at, found_at, found_back}
use Rattle.dcp_producer.proofs.Weighing.{same_gets}
use Rattle.dcp_producer.proofs.Closing.{early, fresh_so, open_so}

-- a stream that a change of role ended counts as none
not_fed : (n : StreamName) (stream : PlainStream) → stream.ended ≡ true → fed_stream n (Some stream) ≡ None
not_fed (name.Link number) stream ended = ap (λ b. if b then None else Some stream) ended
not_fed (name.Client node client) stream ended = refl

-- of a client's connection none is
none_fed : (node client : ℕ) (stream : Option PlainStream) → fed_stream (name.Client node client) stream ≡ None
none_fed node client None = refl
none_fed node client (Some stream) = refl

no_stream : (v : ℕ) (s : Served) → IsUnfed v s → fed_stream s.end.desk.stream (stream_at v s.end.streams) ≡ None
no_stream v s (inl (node, client, is)) = ap (λ n. fed_stream n (stream_at v s.end.streams)) is ∙ none_fed node client (stream_at v s.end.streams)
no_stream v s (inr (inl none)) = ap (fed_stream s.end.desk.stream) (none_at v s.end.streams none)
no_stream v s (inr (inr (stream, there, ended))) = ap (fed_stream s.end.desk.stream) (found_at v stream s.end.streams there) ∙ not_fed s.end.desk.stream stream ended

its_stream : (v : ℕ) (stream : PlainStream) (s : Served) → IsFed v stream s → fed_stream s.end.desk.stream (stream_at v s.end.streams) ≡ Some stream
its_stream v stream s ((number, link), there, alive) =
    ap (fed_stream s.end.desk.stream) (found_at v stream s.end.streams there) ∙ (λ i. if is_client (link i) || alive i then None else Some stream)

no_member : (h : Handshake) → IsNoMember h → member_of h ≡ None
no_member h (sync, inl nobody) = ap member_of nobody
no_member h (sync, inr stranger) = ap member_of stranger

-- who gave a name, or none, did so behind OPEN
not_fresh : (sync : Bool) (name : Named) → handshake.Open sync name ≡ handshake.Fresh → ⊥
not_fresh sync name is = absurd (cc is)

said_open : (h : Handshake) (sync : Bool) (name : Named) → h ≡ handshake.Open sync name → h ≡ handshake.Fresh → ⊥
said_open h sync name is fresh = not_fresh sync name (sym is ∙ fresh)

stranger_open : (h : Handshake) → IsNoMember h → h ≡ handshake.Fresh → ⊥
stranger_open h (sync, inl nobody) = said_open h sync named.Nobody nobody
stranger_open h (sync, inr stranger) = said_open h sync named.Stranger stranger

member_open : (member : ℕ) (h : Handshake) → IsMember member h → h ≡ handshake.Fresh → ⊥
member_open member h (sync, is) = said_open h sync (named.Member member) is

its_member : (member : ℕ) (h : Handshake) → IsMember member h → member_of h ≡ Some member
its_member member h (sync, is) = ap member_of is

-- what is no status is counted
no_status : (f : Frame) (member seq : ℕ) (reply : VbReply) (a : VbAnswer) (s : Served) → ((st : Status) → a ≡ answer.Status st → ⊥) → counted_by f member seq reply a s ≡ counted_with f member seq reply s
no_status f member seq reply (answer.Status st) s other = absurd (other st refl)
no_status f member seq reply a s other = refl

counts_as : (f : Frame) (member seq : ℕ) (s : Served) (reply : Option VbReply) → CountsAs f member seq s (count_answered f member seq s reply) reply
counts_as f member seq s reply = record {
  absent = λ none. same_gets f status.NotMyVbucket s (Done (count_answered f member seq s reply)) (ap (λ o. Done (count_answered f member seq s o)) none);
  refused = λ r st there said. same_gets f st s (Done (count_answered f member seq s reply)) (ap (λ o. Done (count_answered f member seq s o)) there ∙ ap (λ a. Done (counted_by f member seq r a s)) said);
  counted = λ r there other.
      let is : count_answered f member seq s reply ≡ counted_with f member seq r s = ap (count_answered f member seq s) there ∙ no_status f member seq r r.answer s other in
      subst (λ t. IsCounted f member seq s t r) (sym is) (record { end = refl; out = refl; count = refl; lines = refl; resolved = refl });
}

one_call : (f : Frame) (member seq : ℕ) (s : Served) (made : List Made) (s' : Served) → Told (Call f.vb_or_status (call.Ack member seq) (λ reply. Done (count_answered f member seq s reply))) made s'
    → (reply : Option VbReply) × (made ≡ (f.vb_or_status, call.Ack member seq, reply) ∷ []) × CountsAs f member seq s s' reply
one_call f member seq s [] s' told = absurd told
one_call f member seq s (m ∷ []) s' (at, asked, is) =
    (m.2, λ i. (at i, asked i, m.2) ∷ [], subst (λ t. CountsAs f member seq s t m.2) (sym is) (counts_as f member seq s m.2))
one_call f member seq s (m ∷ n ∷ made) s' (at, asked, more) = absurd more

module _ (f : Frame) (seq : ℕ) (s : Served) where
  -- an acknowledgement on an open connection is what it is weighed as
  weighed_as : IsOpened s → (o : Option PlainStream) (m : Option ℕ) → fed_stream s.end.desk.stream (stream_at f.vb_or_status s.end.streams) ≡ o → member_of s.end.handshake ≡ m
      → acknowledged f seq s ≡ count_requested f seq s (weighed seq o m)
  unfolding acknowledged
  weighed_as opened o m stream member =
      open_so f s (count_requested f seq s (weighed seq (fed_stream s.end.desk.stream (stream_at f.vb_or_status s.end.streams)) (member_of s.end.handshake))) opened
      ∙ (λ i. count_requested f seq s (weighed seq (stream i) (member i)))

  pub early_count : s.end.handshake ≡ handshake.Fresh → acknowledged f seq s ≡ Done (status_sent f status.Einval s)
  unfolding acknowledged
  early_count fresh = fresh_so f s (count_requested f seq s (weighed seq (fed_stream s.end.desk.stream (stream_at f.vb_or_status s.end.streams)) (member_of s.end.handshake))) fresh

  pub counted_early : s.end.handshake ≡ handshake.Fresh → Gets 4 handshake.Fresh f s (message_answered f (msg.SeqnoAcknowledged seq) s)
  unfolding acknowledged
  counted_early fresh = early f s (count_requested f seq s (weighed seq (fed_stream s.end.desk.stream (stream_at f.vb_or_status s.end.streams)) (member_of s.end.handshake))) fresh

  pub unfed_first : IsOpened s → IsUnfed f.vb_or_status s → Gets 0x83 s.end.handshake f s (message_answered f (msg.SeqnoAcknowledged seq) s)
  unfed_first opened unfed =
      same_gets f status.NotSupported s (acknowledged f seq s) (weighed_as opened None (member_of s.end.handshake) (no_stream f.vb_or_status s unfed) refl)

  module _ (stream : PlainStream) (fed : IsFed f.vb_or_status stream s) where
    pub stranger_next : IsNoMember s.end.handshake → Gets 4 s.end.handshake f s (message_answered f (msg.SeqnoAcknowledged seq) s)
    stranger_next other =
        same_gets f status.Einval s (acknowledged f seq s)
        (weighed_as (stranger_open s.end.handshake other) (Some stream) None (its_stream f.vb_or_status stream s fed) (no_member s.end.handshake other))

    module _ (member : ℕ) (named : IsMember member s.end.handshake) where
      its_weight : (b : Bool) → nat_lt stream.reached seq ≡ b → acknowledged f seq s ≡ count_requested f seq s (if b then Err status.Erange else Ok member)
      its_weight b is =
          weighed_as (member_open member s.end.handshake named) (Some stream) (Some member) (its_stream f.vb_or_status stream s fed) (its_member member s.end.handshake named)
          ∙ ap (λ t. count_requested f seq s (if t then Err status.Erange else Ok member)) is

      pub above_then : stream.reached < seq → Gets 0x22 s.end.handshake f s (message_answered f (msg.SeqnoAcknowledged seq) s)
      above_then above = let e : nat_lt stream.reached seq ≡ true = grind (arith, nat_tests) in same_gets f status.Erange s (acknowledged f seq s) (its_weight true e)

      pub counted_last : seq ≤ stream.reached → OneCount f member seq s
      counted_last within made s' told =
          let e : nat_lt stream.reached seq ≡ false = grind (arith, nat_tests) in
          one_call f member seq s made s' (subst (λ p. Told p made s') (its_weight false e) told)

-- where a stream feeds the vBucket, it is the connection's
kept : (b : Bool) (t stream : PlainStream) → (if b then None else Some t) ≡ Some stream → (b ≡ false) × (t ≡ stream)
kept true t stream is = absurd (cc is)
kept false t stream is = (refl, cc is)

module _ (v : ℕ) (stream : PlainStream) (s : Served) where
  fed_back : (n : StreamName) (o : Option PlainStream) → s.end.desk.stream ≡ n → stream_at v s.end.streams ≡ o → fed_stream n o ≡ Some stream → IsFed v stream s
  fed_back n None named there is = absurd (cc is)
  fed_back (name.Client node client) (Some t) named there is = absurd (cc is)
  fed_back (name.Link number) (Some t) named there is =
      let (on, same) = kept t.ended t stream is in
      ((number, named), found_back v stream s.end.streams (there ∙ ap Some same), sym (ap (λ (x : PlainStream). x.ended) same) ∙ on)

-- where a name is a member's, it is this member's
name_back : (sync : Bool) (name : Named) (member : ℕ) → member_named name ≡ Some member → IsMember member (handshake.Open sync name)
name_back sync named.Nobody member is = absurd (cc is)
name_back sync named.Stranger member is = absurd (cc is)
name_back sync (named.Member node) member is = let e : node ≡ member = cc is in (sync, ap (λ n. handshake.Open sync (named.Member n)) e)

member_back : (h : Handshake) (member : ℕ) → member_of h ≡ Some member → IsMember member h
member_back handshake.Fresh member is = absurd (cc is)
member_back (handshake.Open sync name) member is = name_back sync name member is

module _ (f : Frame) (seq : ℕ) (s s' : Served) (first : Made) (more : List Made) where
  asked_only : (stream : PlainStream) (member : ℕ) (b : Bool) → nat_lt stream.reached seq ≡ b → Told (count_requested f seq s (if b then Err status.Erange else Ok member)) (first ∷ more) s'
      → seq ≤ stream.reached
  asked_only stream member true is told = absurd told
  asked_only stream member false is told = grind (arith, nat_tests)

  weighed_only : (o : Option PlainStream) (m : Option ℕ) → fed_stream s.end.desk.stream (stream_at f.vb_or_status s.end.streams) ≡ o → member_of s.end.handshake ≡ m
      → Told (count_requested f seq s (weighed seq o m)) (first ∷ more) s' → IsCountable f seq s
  weighed_only None m fed is told = absurd told
  weighed_only (Some stream) None fed is told = absurd told
  weighed_only (Some stream) (Some member) fed is told = record {
    stream = stream;
    fed = fed_back f.vb_or_status stream s s.end.desk.stream (stream_at f.vb_or_status s.end.streams) refl refl fed;
    member = member;
    named = member_back s.end.handshake member is;
    within = asked_only stream member (nat_lt stream.reached seq) refl told;
  }

  by_open : (b : Bool) → Told (if b then count_requested f seq s (weighed seq (fed_stream s.end.desk.stream (stream_at f.vb_or_status s.end.streams)) (member_of s.end.handshake)) else Done (status_sent f status.Einval s)) (first ∷ more) s' → IsCountable f seq s
  by_open true told = weighed_only (fed_stream s.end.desk.stream (stream_at f.vb_or_status s.end.streams)) (member_of s.end.handshake) refl refl told
  by_open false told = absurd told

  pub counted_only : Told (message_answered f (msg.SeqnoAcknowledged seq) s) (first ∷ more) s' → IsCountable f seq s
  unfolding acknowledged
  counted_only told = by_open (is_open s.end.handshake) told
