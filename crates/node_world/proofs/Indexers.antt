-- clients that streams feed: frames that they ask for, requests of DCP, and the end of a connection
use Rattle.std.proofs.Common.{◌≡◌, ◌≤◌, ℕ, zero, suc, Bool, true, false, List, [], ◌∷◌, ◌++◌, append-nil, append_assoc, drop, take, length, length-take, inl, inr, refl, sym, ap, ◌∙◌, subst, Some, None, Ok}
use Rattle.std.specs.Prelude.{◌+◌, if◌then◌else◌, min, not}
use Rattle.std.proofs.lemmas.Bool.{eq-eqb, le-ltb}
use Rattle.mcbp_frame.specs.Frames.{big_32_at, first_frame}
use Rattle.mcbp_frame.specs.declared.frame.Frame.{Frame}
use Rattle.mcbp_frame.specs.declared.frame.TheConstants.{HEADER_LEN}
use Rattle.client_session.specs.declared.session.Who.{Who}
use Rattle.client_session.specs.Serving.{Served, bytes_handled, handed, is_held, served, turns_handled, with_bytes}
use Rattle.client_session.proofs.Handing.{handed_up}
use Rattle.client_session.proofs.Keeping.{front_of}
use Rattle.client_session.proofs.Turns.{handed_holds, is_opened, not_held, turns_frame, turns_waiting}
use Rattle.dcp_producer.specs.declared.halt.Halt.{Halt}
use Rattle.dcp_producer.specs.Ending.{end_closed, streams_closed}
use Rattle.dcp_producer.specs.Endings.{alive}
use Rattle.dcp_producer.specs.Producers.{PlainProducer, PlainStream, Served as Answered, begun}
use Rattle.dcp_producer.specs.Pulling.{frames_put}
use Rattle.dcp_producer.specs.Serving.{frame_answered}
use Rattle.vb_events.specs.declared.event.Event.{Event}
use Rattle.vb_calls.specs.declared.calls.VbCall.TheVariants as call
use Rattle.vb_calls.specs.Jobs.{after_reads}
use Rattle.vb_calls.specs.Programs.{Prog, Done, Call, after, bind}
use Rattle.vb_calls.specs.States.{States, states_step}
use Rattle.vb_calls.proofs.Readings.{after_bind}
use Rattle.node_core.specs.Clients.{ClientPulled, Handling, PlainClient, client_fed, client_pull, closed_if, delivered, frames_passed, front_len, handled_on, went_on, with_replies}
use Rattle.node_core.proofs.Handlings.{passes_frame}
use Rattle.node_world.specs.declared.told.Told.{Told}
use Rattle.node_world.specs.Indexers.{AnswersInOrder, AsksDcp, BeginsWith, HangsUp, PullsFrames, ToldWith, closed_each}
use Rattle.node_world.specs.Nodes.{PlainNode, bytes_at, bytes_if, hang_at, hung_if, pull_at, pull_if}
use Rattle.node_world.specs.Worlds.{PlainWorld, Outcome, on_node}
use Rattle.node_world.proofs.CallsMade.{leaves_so, line_is}
use Rattle.node_world.proofs.PullReads.{client_put, pull_is, pull_read}
use Rattle.node_world.proofs.WhoAwaits.{Opens, closes_open, passes_open}

-- ---- lines and their frames

take_drop : (n : ℕ) (xs : List ℕ) → take n xs ++ drop n xs ≡ xs
take_drop zero xs = refl
take_drop (suc n) [] = refl
take_drop (suc n) (x ∷ xs) = ap (λ ys. x ∷ ys) (take_drop n xs)

front_is : (bytes : List ℕ) → HEADER_LEN ≤ length bytes → length (take (front_len bytes) bytes) ≡ min (HEADER_LEN + big_32_at bytes 8) (length bytes)
front_is bytes whole = length-take (front_len bytes) bytes ∙ ap (λ b. min (if b then length bytes else HEADER_LEN + big_32_at bytes 8) (length bytes)) (le-ltb (length bytes) HEADER_LEN whole)

told_with : (who : Who) (lines : List Event) (bytes : List ℕ) → ToldWith who lines bytes (with_replies who.node who.client lines bytes)
unfolding with_replies
told_with who [] [] = inl (refl, refl)
told_with who [] (b ∷ bytes) = inr (λ e. cc e, refl)
told_with who (line ∷ lines) bytes = (
  take (front_len bytes) bytes,
  drop (front_len bytes) bytes,
  with_replies who.node who.client lines (drop (front_len bytes) bytes),
  sym (take_drop (front_len bytes) bytes),
  front_is bytes,
  refl,
  told_with who lines (drop (front_len bytes) bytes),
)

-- ---- frames of streams

module _ (w : PlainWorld) (n c : ℕ) (node : PlainNode) (client : PlainClient) (there : w.nodes n ≡ Some node) (up : node.off ≡ None) (open_one : node.clients c ≡ Some client) where
  module _ (frames : ℕ) (put : States × (Answered × Halt)) (is : after_reads (frames_put frames (begun client.producer)) node.shelves node.vbs ≡ put) where
    abbrev left : PlainNode × Told
    left = pull_read c node (put.0, client_pull client.session put.1)

    pulls_as : pull_at c frames node ≡ left
    pulls_as =
        ap (pull_if c frames node) open_one ∙ pull_is c frames client node ∙ ap (λ (x : States × ClientPulled). pull_read c node x) (client_put frames client node.shelves node.vbs)
        ∙ ap (λ (x : States × (Answered × Halt)). pull_read c node (x.0, client_pull client.session x.1)) is

    line_told : (on_node w n (pull_at c frames)).1 ≡ left.1
    line_told = ap (λ (o : Outcome). o.1) (line_is w n node there up (pull_at c frames)) ∙ ap (λ (x : PlainNode × Told). x.1) pulls_as

  pub pulls_frames : PullsFrames w n c client node
  pulls_frames = record {
    told = λ number frames put is. (
      subst (ToldWith client.session.who put.1.0.events put.1.0.out) (sym (ap (λ (t : Told). t.events) (line_told frames put is))) (told_with client.session.who put.1.0.events put.1.0.out),
      ap (λ (t : Told). t.answer) (line_told frames put is),
    );
    left = λ number frames put is. (
      (left frames put is).0,
      (leaves_so w n node there up (pull_at c frames) (left frames put is) (pulls_as frames put is)).is,
      refl,
      ap (λ b. if b then Some (record { session = client.session; producer = put.1.0.end }) else node.clients c) (eq-eqb c c refl),
    );
  }

-- ---- the end of a connection

closed_by : (x : PlainStream) (more : List PlainStream) → ((states : States) → (after (streams_closed more) states).0 ≡ closed_each (alive more) states) → (b : Bool) (states : States)
    → (after (if b then streams_closed more else Call x.vb (call.CloseStream x.id) (λ reply. streams_closed more)) states).0 ≡ closed_each (if not b then x ∷ alive more else alive more) states
closed_by x more later true states = later states
closed_by x more later false states = later (states_step states x.vb (call.CloseStream x.id)).0

closed_so : (streams : List PlainStream) (states : States) → (after (streams_closed streams) states).0 ≡ closed_each (alive streams) states
closed_so [] states = refl
closed_so (x ∷ more) states = closed_by x more (closed_so more) x.ended states

end_so : (producer : PlainProducer) (states : States) → (after (end_closed producer) states).0 ≡ closed_each (alive producer.streams) states
unfolding end_closed
end_so producer states = closed_so producer.streams states

pub hangs_up : (w : PlainWorld) (n c : ℕ) (node : PlainNode) (client : PlainClient) → w.nodes n ≡ Some node → node.off ≡ None → node.clients c ≡ Some client → HangsUp w n c client node
hangs_up w n c node client there up open_one = record {
  closes = λ number. (
    (hung_if c node (Some client)).0,
    (leaves_so w n node there up (hang_at c) (hung_if c node (Some client)) (ap (hung_if c node) open_one)).is,
    ap (λ b. if b then None else node.clients c) (eq-eqb c c refl),
    end_so client.producer node.vbs,
  );
  told = λ number. ap (λ (o : Outcome). o.1) (line_is w n node there up (hang_at c)) ∙ ap (λ o. (hung_if c node o).1) open_one;
}

-- ---- requests of DCP

-- a request of DCP is handed up, and nothing behind it is served yet
turns_dcp : (clock : ℕ) (s : Served) (f : Frame) → is_held s ≡ false → first_frame s.session.reader ≡ Some (Ok f) → AsksDcp f → turns_handled clock s ≡ Done (handed f (front_of f s))
turns_dcp clock s f free whole dcp =
    turns_frame clock s f free whole ∙ ap (λ prog. bind prog (turns_handled clock)) (handed_up clock f (front_of f s) dcp.asks dcp.named)
    ∙ turns_waiting clock (handed f (front_of f s)) (handed_holds (handed f (front_of f s)) f refl)

module _ (clock : ℕ) where
  -- the session goes on, and then the frames that it hands up are answered
  abbrev goes_on : Handling → Answered → Prog Handling
  goes_on h a = bind (bytes_handled clock [] (served h.client.session [])) (λ s. frames_passed clock (went_on (h.events ++ delivered h.client.session.who a) a.end s))

  dcp_after : (h : Handling) (f : Frame) (states : States) (a : States × Answered) → h.dcp ≡ Some f → after (frame_answered f (begun h.client.producer)) states ≡ a
      → after (frames_passed clock h) states ≡ after (goes_on h a.1) a.0
  dcp_after h f states a e is =
      ap (λ prog. after prog states) (passes_frame clock h f e) ∙ after_bind (frame_answered f (begun h.client.producer)) (goes_on h) states ∙ ap (λ (x : States × Answered). after (goes_on h x.1) x.0) is

  -- a request that was handed up is answered first
  dcp_opens : (h : Handling) (f : Frame) (states : States) (a : States × Answered) → h.dcp ≡ Some f → after (frame_answered f (begun h.client.producer)) states ≡ a
      → Opens (h.events ++ delivered h.client.session.who a.1) (after (frames_passed clock h) states)
  dcp_opens h f states a e is =
      let first : List Event = h.events ++ delivered h.client.session.who a.1 in
      let run : Prog Served = bytes_handled clock [] (served h.client.session []) in
      let x : States × Served = after run a.0 in
      subst (Opens first) (sym (dcp_after h f states a e is ∙ after_bind run (λ s. frames_passed clock (went_on first a.1.end s)) a.0)) (passes_open first clock (went_on first a.1.end x.1) x.0 (x.1.events, refl))

  -- and then the one behind it
  dcp_next : (h : Handling) (f g : Frame) (states : States) (a b : States × Answered) → h.dcp ≡ Some f → h.client.session.closed ≡ false → h.client.session.awaited ≡ None → first_frame h.client.session.reader ≡ Some (Ok g) → AsksDcp g
      → after (frame_answered f (begun h.client.producer)) states ≡ a → after (frame_answered g (begun a.1.end)) a.0 ≡ b
      → Opens ((h.events ++ delivered h.client.session.who a.1) ++ delivered h.client.session.who b.1) (after (frames_passed clock h) states)
  dcp_next h f g states a b e live free whole dcp is next =
      let s : Served = served h.client.session [] in
      let lines : List Event = h.events ++ delivered h.client.session.who a.1 in
      let later : List Event = delivered h.client.session.who b.1 in
      let goes : bytes_handled clock [] s ≡ Done (handed g (front_of g s)) =
      is_opened clock [] s live ∙ ap (λ bytes. turns_handled clock (with_bytes bytes s)) (append-nil h.client.session.reader) ∙ turns_dcp clock s g (not_held s free refl) whole dcp in
      let second : Handling = went_on lines a.1.end (handed g (front_of g s)) in
      subst (Opens (lines ++ later)) (sym (dcp_after h f states a e is ∙ ap (λ prog. after (bind prog (λ t. frames_passed clock (went_on lines a.1.end t))) a.0) goes))
      (subst (λ xs. Opens (xs ++ later) (after (frames_passed clock second) a.0)) (append-nil lines) (dcp_opens second g a.0 b refl next))

module _ (w : PlainWorld) (n c : ℕ) (node : PlainNode) (client : PlainClient) (bytes : List ℕ) (f : Frame) (there : w.nodes n ≡ Some node) (up : node.off ≡ None) (open_one : node.clients c ≡ Some client)
    (begins : BeginsWith client.session bytes f) (dcp : AsksDcp f) where
  abbrev clock : ℕ
  clock = node.clock

  abbrev start : Served
  start = served client.session []

  abbrev front : Served
  front = with_bytes bytes start

  -- the request was handed up
  abbrev up_there : Handling
  up_there = went_on [] client.producer (handed f (front_of f front))

  whole : bytes_handled clock bytes start ≡ Done (handed f (front_of f front))
  whole =
      is_opened clock bytes start begins.live ∙ ap (λ xs. turns_handled clock (with_bytes (xs ++ bytes) start)) begins.empty ∙ turns_dcp clock front f (not_held front begins.free refl) begins.whole dcp

  fed_as : after (client_fed clock bytes client) node.vbs ≡ after (handled_on clock client.producer (handed f (front_of f front))) node.vbs
  unfolding client_fed
  fed_as = ap (λ prog. after (bind prog (handled_on clock client.producer)) node.vbs) whole

  all_open : (first : List Event) → Opens first (after (frames_passed clock up_there) node.vbs) → Opens first (after (client_fed clock bytes client) node.vbs)
  all_open first opens =
      let x : States × Handling = after (frames_passed clock up_there) node.vbs in
      subst (Opens first) (sym (fed_as ∙ after_bind (frames_passed clock up_there) (λ h. closed_if h.client.session.closed h) node.vbs)) (closes_open first clock x.1 x.0 x.1.client.session.closed opens)

  bytes_told : (on_node w n (bytes_at c bytes)).1.events ≡ (after (client_fed clock bytes client) node.vbs).1.events
  bytes_told = ap (λ (o : Outcome). o.1.events) (line_is w n node there up (bytes_at c bytes)) ∙ ap (λ o. (bytes_if c bytes node o).1.events) open_one

  pub answers_in_order : AnswersInOrder w n c node client bytes f
  answers_in_order = record {
    first = λ number a is.
        let who : Who = client.session.who in
        let (rest, opens) = all_open (delivered who a.1) (dcp_opens clock up_there f node.vbs a refl is) in
        (delivered who a.1, rest, told_with who a.1.events a.1.out, bytes_told ∙ opens);
    next = λ number g a b behind asks is after_it.
        let who : Who = client.session.who in
        let (rest, opens) = all_open (delivered who a.1 ++ delivered who b.1) (dcp_next clock up_there f g node.vbs a b refl begins.live begins.free behind asks is after_it) in
        (delivered who a.1, delivered who b.1, rest, told_with who a.1.events a.1.out, told_with who b.1.events b.1.out, bytes_told ∙ opens ∙ append_assoc (delivered who a.1) (delivered who b.1) rest);
  }
