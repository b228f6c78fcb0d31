-- how a client's connection and a dial end
use Rattle.std.proofs.Common.{arith, ◌≡◌, inl, inr, ℕ, Bool, true, false, List, [], refl, ap, sym, ◌∙◌, subst, Option, Some, None}
use Rattle.std.specs.Prelude.{if◌then◌else◌, is_some, nat_lt, ◌≤◌}
use Rattle.std.proofs.lemmas.Bool.{lt-ltb}
use Rattle.std.proofs.lemmas.Bool.Decides.{nat_tests}
use Rattle.slab.specs.Slab.{get, Updates}
use Rattle.mcbp_frame.specs.declared.frame.FrameFault.{FrameFault}
use Rattle.vb_events.specs.declared.event.EndReason.{EndReason}
use Rattle.vb_events.specs.declared.event.EndReason.TheVariants as reason
use Rattle.vb_types.specs.declared.role.LogEntry.{LogEntry}
use Rattle.vb_calls.specs.declared.calls.Resolved.{Resolved}
use Rattle.vb_calls.specs.declared.calls.VbAnswer.{VbAnswer}
use Rattle.vb_calls.specs.declared.calls.VbAnswer.TheVariants as answer
use Rattle.vb_calls.specs.declared.calls.VbCall.{VbCall}
use Rattle.vb_calls.specs.declared.calls.VbReply.{VbReply}
use Rattle.vb_calls.specs.declared.journals.Rolled.{Rolled}
use Rattle.vb_calls.specs.declared.journals.Rolled.TheVariants as rolled
use Rattle.vb_calls.specs.Programs.{AnyCall, Always}
use Rattle.dcp_consumer.specs.declared.handshake.Handshake.TheVariants as handshake
use Rattle.dcp_consumer.specs.Machine.{again_by, request_again, ended_for, over_why, streaming}
use Rattle.vb_types.specs.declared.stream.StreamAsk.{StreamAsk}
use Rattle.node_core.specs.declared.conn.Conn.{Conn}
use Rattle.node_core.specs.declared.conn.Conn.TheVariants as conn
use Rattle.node_core.specs.declared.node.Node.{Node}
use Rattle.node_core.specs.declared.out.NodeOut.{NodeOut}
use Rattle.node_core.specs.Clients.{PlainClient}
use Rattle.node_core.specs.Dials.{DialResult, adopt_result, again_result, with_last_line, with_end_line, fault_met, is_done, is_done_answer, message_result, over_for, rolled_back, taken_as, granted_with}
use Rattle.node_core.specs.EndingLaws.{IsClosed, KeepsOpen, LetsClosedGo, LeavesOpenAlone, IsOverFor, IsMade, IsTaken, IsOfDisk, OverByRefusals, LastLines}
use Rattle.node_core.specs.Outcomes.{ConnFed, ConnPosted, kept_unless}

-- ---- clients

-- what is kept of a connection that is closed exactly where this is said
module _ {W J : Type 0} (key : ℕ) (old : Node W J) (out : NodeOut) (new : Node W J) (left : Conn) (conns : Updates old.conns new.conns key (kept_unless out.closed left)) where
  at_key : (b : Bool) → out.closed ≡ b → get new.conns key ≡ kept_unless b left
  at_key b is = conns.changed ∙ ap (λ c. kept_unless c left) is

  kept_open : (IsClosed left → out.closed ≡ true) → KeepsOpen key out new
  kept_open says = record {
    no_closed = λ c there is_closed. by c there is_closed out.closed refl;
    gone = at_key true;
    stays = λ is. (left, at_key false is);
  }
    where
      by : (c : Conn) → get new.conns key ≡ Some c → IsClosed c → (b : Bool) → out.closed ≡ b → ⊥
      by c there is_closed true said = let none : None ≡ Some c = sym (at_key true said) ∙ there in cc
      by c there is_closed false said =
          let same : Some left ≡ Some c = sym (at_key false said) ∙ there in
          let is : left ≡ c = cc same in
          let z : false ≡ true = sym said ∙ says (subst IsClosed (sym is) is_closed) in cc

module _ {W : Type 0} (step : W → ℕ → VbCall → Option VbReply → W → Type 0) where
  fed_says : (clock : ℕ) (piece : List ℕ) (found : Conn) (old : W) (out : NodeOut) (left : Conn) (new : W) → ConnFed step clock piece found old out left new → IsClosed left → out.closed ≡ true
  fed_says clock piece (conn.Client kept) old out (conn.Client left) new fed is_closed =
      let by = fed.2 in ap (λ (o : NodeOut). o.closed) by.2 ∙ ap (λ (c : PlainClient). c.session.closed) (sym by.3) ∙ is_closed
  fed_says clock piece (conn.Client kept) old out (conn.Peer left) new fed is_closed = absurd fed
  fed_says clock piece (conn.Peer kept) old out left new fed is_closed = absurd (subst IsClosed fed.2 is_closed tt)

  posted_says : (clock : ℕ) (outcome : Resolved) (found : Conn) (old : W) (out : NodeOut) (left : Conn) (new : W) → ConnPosted step clock outcome found old out left new → IsClosed left → out.closed ≡ true
  posted_says clock outcome (conn.Client kept) old out (conn.Client left) new posted is_closed =
      let by = posted.2 in ap (λ (o : NodeOut). o.closed) by.2 ∙ ap (λ (c : PlainClient). c.session.closed) (sym by.3) ∙ is_closed
  posted_says clock outcome (conn.Client kept) old out (conn.Peer left) new posted is_closed = absurd posted
  posted_says clock outcome (conn.Peer kept) old out left new posted is_closed = absurd (subst IsClosed posted.2 is_closed tt)

pub lets_closed_go : (W J : Type 0) (step : W → ℕ → VbCall → Option VbReply → W → Type 0) → LetsClosedGo W J step
lets_closed_go W J step = record {
  bytes = λ clock key piece found old out new fed. kept_open key old out new fed.left fed.conns (fed_says step clock piece found old.vbs out fed.left new.vbs fed.fed);
  outcomes = λ clock key outcome found old out new posted. kept_open key old out new posted.left posted.conns (posted_says step clock outcome found old.vbs out posted.left new.vbs posted.posted);
}

pub leaves_open_alone : LeavesOpenAlone
leaves_open_alone = record {
  is_closed = λ client is. ap (λ b. if b then None else Some client) is;
  still_open = λ client is. ap (λ b. if b then None else Some client) is;
  let_go = λ c. refl;
  kept = λ c. refl;
}

-- ---- dials

done_answer_is : (r : VbReply) (a : VbAnswer) → r.answer ≡ a → is_done_answer a ≡ true → IsMade (Some r)
done_answer_is r answer.Done is done = (r, refl, is)
done_answer_is r other is done = cc

pub made_is : (reply : Option VbReply) → is_done reply ≡ true → IsMade reply
made_is None done = cc
made_is (Some r) done = done_answer_is r r.answer refl done

pub made_tested : (reply : Option VbReply) → IsMade reply → is_done reply ≡ true
made_tested reply made = ap is_done made.1 ∙ ap is_done_answer made.2

log_refused : (log : List LogEntry) (s : DialResult) (reply : Option VbReply) → (IsMade reply → ⊥) → IsOverFor reason.Protocol (adopt_result log s reply)
log_refused log s reply never = by (is_done reply) refl
  where
    by : (b : Bool) → is_done reply ≡ b → IsOverFor reason.Protocol (if b then granted_with log s else over_for reason.Protocol s)
    by true done = absurd (never (made_is reply done))
    by false done = refl

log_taken : (log : List LogEntry) (s : DialResult) (reply : Option VbReply) → IsMade reply → s.dial.consumer.handshake ≡ handshake.Asking → (adopt_result log s reply).dial.consumer.handshake ≡ handshake.Streaming
log_taken log s reply made asking = ap (λ b. (if b then granted_with log s else over_for reason.Protocol s).dial.consumer.handshake) (made_tested reply made) ∙ ap streaming asking

-- asked once more, by whether an opaque is left
asked_so : (s : DialResult) (ask : StreamAsk) → s.dial.consumer.handshake ≡ handshake.Asking → (b : Bool) → nat_lt s.dial.consumer.asked 4294967295 ≡ b
    → (again_result s (Some ask)).dial.consumer.handshake ≡ (if b then request_again ask s.dial.consumer else (ended_for reason.Protocol s.dial.consumer, [])).0.handshake
asked_so s ask asking b left =
    ap (λ h. (again_by h ask s.dial.consumer).0.handshake) asking
    ∙ ap (λ b. (if b then request_again ask s.dial.consumer else (ended_for reason.Protocol s.dial.consumer, [])).0.handshake) left

not_taken : (s : DialResult) (r : VbReply) (a : VbAnswer) → r.answer ≡ a → (IsTaken (Some r) → ⊥) → IsOverFor reason.Protocol (taken_as r s a)
not_taken s r answer.Done is never = absurd (never (r, refl, inl is))
not_taken s r (answer.Range ss se) is never = absurd (never (r, refl, inr (ss, se, is)))
not_taken s r other is never = refl

message_refused : (s : DialResult) (reply : Option VbReply) → (IsTaken reply → ⊥) → IsOverFor reason.Protocol (message_result s reply)
message_refused s None never = refl
message_refused s (Some r) never = not_taken s r r.answer refl never

message_taken : (s : DialResult) (reply : Option VbReply) → IsTaken reply → (message_result s reply).dial ≡ s.dial
message_taken s reply (r, is, inl done) = ap (λ o. (message_result s o).dial) is ∙ ap (λ a. (taken_as r s a).dial) done
message_taken s reply (r, is, inr (ss, se, range)) = ap (λ o. (message_result s o).dial) is ∙ ap (λ a. (taken_as r s a).dial) range

of_disk : (point : ℕ) (s : DialResult) (came : Rolled) → IsOfDisk came → Always AnyCall (IsOverFor reason.Disk) (rolled_back point s came)
of_disk point s rolled.Closed disk = refl
of_disk point s rolled.DiskFailed disk = refl
of_disk point s (rolled.Damaged place) disk = refl
of_disk point s (rolled.To to) disk = absurd disk
of_disk point s (rolled.Refused st) disk = absurd disk

met : (s : DialResult) (fault : FrameFault) (o : Option EndReason) → over_why s.dial.consumer.handshake ≡ o → fault_met (Some fault) s ≡ (if is_some o then s else over_for reason.Protocol s)
met s fault o is = ap (λ (w : Option EndReason). if is_some w then s else over_for reason.Protocol s) is

over_already : (s : DialResult) (fault : Option FrameFault) (why : EndReason) → IsOverFor why s → fault_met fault s ≡ s
over_already s None why over = refl
over_already s (Some fault) why over = met s fault (Some why) over

none_left : (s : DialResult) → 4294967295 ≤ s.dial.consumer.asked → nat_lt s.dial.consumer.asked 4294967295 ≡ false
none_left s many = grind (arith, nat_tests, many)

pub over_by_refusals : OverByRefusals
over_by_refusals = record {
  log = log_refused;
  granted = log_taken;
  message = message_refused;
  taken = message_taken;
  refused = λ point s st. refl;
  disk = of_disk;
  follows_not = λ s. refl;
  follows = λ s ask asking few. asked_so s ask asking true (lt-ltb s.dial.consumer.asked 4294967295 few) ∙ asking;
  no_more_asks = λ s ask asking many. ap over_why (asked_so s ask asking false (none_left s many));
  fault = λ s fault none. ap (λ (t : DialResult). over_why t.dial.consumer.handshake) (met s fault None none);
  earlier = over_already;
  none = λ s. refl;
}

told_for : (s : DialResult) (why : EndReason) → IsOverFor why s → with_last_line s ≡ with_end_line (Some why) s
told_for s why over = ap (λ o. with_end_line o s) over

pub last_lines : LastLines
last_lines = record {
  refused = λ s over. ap (λ (t : DialResult). t.events) (told_for s reason.Refused over);
  protocol = λ s over. ap (λ (t : DialResult). t.events) (told_for s reason.Protocol over);
  done = λ s over. ap (λ (t : DialResult). t.events) (told_for s reason.Done over);
  state = λ s over. ap (λ (t : DialResult). t.events) (told_for s reason.State over);
  disk = λ s over. told_for s reason.Disk over;
  none = λ s none. ap (λ o. with_end_line o s) none;
  cut = λ dial. refl;
}
