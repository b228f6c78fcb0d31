-- each line of a script closes a client's connection as it may
use Rattle.std.specs.Prelude.{◌≡◌, ◌∷◌, ◌++◌, ◌==◌, ◌||◌, not, if◌then◌else◌}
use Rattle.std.specs.List.{flat_map, list_any}
use Rattle.transcript_law.proofs.Words.{ℕ, Bool, true, false, List, [], map, refl, ap, sym, ◌∙◌, subst, and_parts, eqb-true, append_assoc, option_map, Option, Some, None, is_some, Cause, Change, Role, AdminCall, AdminResult, Chronicle, Event, Frame, FrameFault, Verb, VbVerb, NodeVerb, LinkVerb, ClientVerb, PlainLink, PlainNode, PlainWorld, Outcome, States, Told, VbAnswer, VbCall, VbReply, after, after_job, admin_call, admin_result, branch_lines, call_at, called_at, consumer_node, cut_off, first_cause, left_of, left_open, link_number, link_outcome, moved_len, no_node, node_outcome, on_link, on_node, own_link, peer_of, producer_node, promote_causes, pump_at, refusal, refused_or, replica_at, replica_causes, role_outcome, row_at, take, turn_causes, turned_after, turned_if, up_at, vb_at, vb_causes, verb_step, with_ended, with_link, with_node_at, with_states}
use Rattle.client_session.specs.Answers.{fault_lines}
unfoldable use Rattle.client_session.specs.Answers.{reply_line}
use Rattle.dcp_producer.specs.declared.desk.Desk.{Desk}
use Rattle.durability.specs.Chains.{Members}
use Rattle.mcbp_frame.specs.{Cutting.{front_fault}, Frames.{faulty_head}, Spelling.{spelling}}
use Rattle.mcbp_frame.specs.declared.frame.FaultyHead.{FaultyHead}
use Rattle.mcbp_kv.specs.{Answers.{bare_answer}, Replies.{reply_frame}}
use Rattle.node_core.specs.{Admin.{admin_job, admin_refused, promote_result, role_at, role_noted, role_result}, Calls.{own_lines_if}, Clients.{Handling, PlainClient, client_ended, client_posted}, Dials.{DialResult, acknowledged_line, dial_due, untold}, Flushing.{FlushResult, flush_result, settled_by, settled_result}, Peers.{peer_answered, peer_frames, peer_heard}}
use Rattle.dcp_producer.specs.declared.yields.Yielded.{Yielded}
use Rattle.node_core.specs.{GivingUp.{dead_line, peer_gives_up, resolved_in}, Peers.{PeerResult}}
use Rattle.node_world.specs.{Arms.{fired_by, placed, under_arm}, Cuts.{closed_at}, Power.{after_broken, after_fire, disk_end, down_lines, is_broken_answer, with_arm, with_broken}, Turns.{posted_at as posted_at_node, posted_in, role_called}, Pumps.{gives_at, with_given, with_gone}, World.{down_in, down_outcome, down_step, pump_outcome, pump_step}, Worlds.{arm_in, node_if, with_node_if}}
use Rattle.node_world.specs.declared.arm.Fired.{Fired}
use Rattle.node_world.specs.declared.arm.Fired.TheVariants as fired
use Rattle.node_world.specs.{Dues.{due_at, due_in, due_of, is_counted}, Links.{dial_of, frame_posted, frame_up, frames_up, untold_peer}, Nodes.{flush_here, all_posted, awaiting, chain_causes, chain_line, chain_made, done, flush_line, posted_if, posted_to, save_line, tick_line, vb_made, with_clients_ended, with_kept, with_posts}}
use Rattle.node_world.specs.declared.script_node.TheConstants.{MAX_CLIENTS}
use Rattle.transcript_law.proofs.invariant.{Agreement.{Agrees, ClientAgrees}, Ranged.{IsRanged, NodeRangedIf}}
use Rattle.transcript_law.proofs.lines.{Answering.{Tells, peer_so}, Broken.{Broke, So, bytes_break, left_asked, none_closes, posted_so}, Calm.{AnyAsk, AnyKind, any_job, asks_any, due_keeps}, DialTold.{down_so}, LinkTold.{pump_so}, SessionLines.{IsFor, IsKept, LeftBy, posted_at}}
use Rattle.transcript_law.proofs.verbs.{NodeLines.{on_link_by, on_node_by}, Tellings.{Are, Tell, flush_steps}, Unclosed.{cut_unclosed, drop_unclosed, is_none_closing, log_unclosed, none_unclosed, pull_unclosed, show_unclosed, start_unclosed, stat_unclosed, take_unclosed}, Untaken.{ToldBy}}
use Rattle.transcript_law.specs.{Breaks.{AllBreak, ClosesAsBroken, is_closing}, LinesTold.{Dial}, Tellings.{TellsOf, are_told, at_link, at_vb, is_none, is_of_end, is_of_pull, is_of_start, may_tell}, Feeding.{client_in}, Questions.{behind_frames}, StreamsTold.{ClientsKnown}}
use Rattle.vb_calls.proofs.{Conduct.{after_always}, JobConduct.{after_job_always, always_bind_job}}
use Rattle.vb_calls.specs.{Flushes.{part_job, role_job}, Jobs.{Ended, Job}, Programs.{AnyCall, AnyReply}}
use Rattle.vb_calls.specs.declared.calls.Resolved.{Resolved}
use Rattle.vb_calls.specs.declared.calls.VbAnswer.TheVariants as answer
use Rattle.vb_calls.specs.declared.journals.Flushed.{Flushed}
use Rattle.vb_calls.specs.declared.journals.Flushed.TheVariants as flushed
use Rattle.vb_types.specs.declared.journal.FlushPart.{FlushPart}
use Rattle.vb_types.specs.declared.journal.FlushPart.TheVariants as part
use Rattle.vb_types.specs.declared.status.Status.TheVariants.{Einval}

-- ---- lists of lines

-- none of them tells that a connection closed
abbrev pub NoneCloses : List Event → Type 0
NoneCloses lines = list_any is_closing lines ≡ false

pub none_more : (xs ys : List Event) → NoneCloses xs → NoneCloses ys → NoneCloses (xs ++ ys)
none_more [] ys a b = b
none_more (x ∷ xs) ys a b = by (is_closing x) a (λ c. none_more xs ys c b)
  where
    by : (k : Bool) → (k || list_any is_closing xs) ≡ false → (NoneCloses xs → NoneCloses (xs ++ ys)) → (k || list_any is_closing (xs ++ ys)) ≡ false
    by true e rest = cc
    by false e rest = rest e

none_front : (xs ys : List Event) → NoneCloses (xs ++ ys) → NoneCloses xs
none_front [] ys a = refl
none_front (x ∷ xs) ys a = by (is_closing x) a (none_front xs ys)
  where
    by : (k : Bool) → (k || list_any is_closing (xs ++ ys)) ≡ false → (NoneCloses (xs ++ ys) → NoneCloses xs) → (k || list_any is_closing xs) ≡ false
    by true e rest = cc
    by false e rest = rest e

none_changed : (n v uuid : ℕ) (cs : List Change) → NoneCloses (map (Event.Changed n v uuid) cs)
none_changed n v uuid [] = refl
none_changed n v uuid (c ∷ cs) = none_changed n v uuid cs

none_own : (n v : ℕ) (o : Option VbReply) → NoneCloses (own_lines_if n v o)
none_own n v None = refl
none_own n v (Some reply) = none_changed n v reply.branch reply.changes

none_there : (xs ys : List Event) (y : Event) → [] ≡ xs ++ y ∷ ys → ⊥
none_there [] ys y e = cc
none_there (x ∷ xs) ys y e = cc

-- lines in front of the last one are the same where they are all
cut_last : (xs ys : List Event) (a b : Event) → xs ++ a ∷ [] ≡ ys ++ b ∷ [] → xs ≡ ys
cut_last [] [] a b e = refl
cut_last [] (y ∷ ys) a b e = let r : [] ≡ ys ++ b ∷ [] = cc in absurd (none_there ys [] b r)
cut_last (x ∷ xs) [] a b e = let r : xs ++ a ∷ [] ≡ [] = cc in absurd (none_there xs [] a (sym r))
cut_last (x ∷ xs) (y ∷ ys) a b e = let first : x ≡ y = cc in let rest : xs ++ a ∷ [] ≡ ys ++ b ∷ [] = cc in λ i. first i ∷ cut_last xs ys a b rest i

-- what stands in front of the line of a connection that closed
abbrev fault_init : ℕ → ℕ → Option FaultyHead → List Event
fault_init n c None = []
fault_init n c (Some head) = reply_line n c (bare_answer head.opcode Einval head.opaque) ∷ []

init_is : (n c : ℕ) (head : Option FaultyHead) → fault_lines n c head ≡ fault_init n c head ++ Event.Closed n c ∷ []
init_is n c None = refl
init_is n c (Some head) = refl

module _ (clients : ClientsKnown) where
  -- each connection that these lines tell closed did so by its bytes
  abbrev pub Break : List Event → Type 0
  Break lines = (before : Option Event) → AllBreak clients before lines

  more : (xs ys : List Event) (before : Option Event) → AllBreak clients before xs → Break ys → AllBreak clients before (xs ++ ys)
  more [] ys before a b = b before
  more (Event.Closed n c ∷ xs) ys before a b = (a.0, more xs ys (Some (Event.Closed n c)) a.1 b)
  more (Event.NodeStopped n ∷ xs) ys before a b = tt
  more (x ∷ xs) ys before a b = more xs ys (Some x) a b

  pub break_more : (xs ys : List Event) → Break xs → Break ys → Break (xs ++ ys)
  break_more xs ys a b before = more xs ys before (a before) b

  pub none_break : (lines : List Event) → NoneCloses lines → Break lines
  none_break [] none before = tt
  none_break (Event.Closed n c ∷ lines) none before = cc
  none_break (Event.NodeStopped n ∷ lines) none before = tt
  none_break (x ∷ lines) none before = none_break lines none (Some x)

  -- ---- a connection

  -- it keeps, behind its frames, the bytes that the client sent behind what was answered
  abbrev pub GoodIf : ℕ → ℕ → Option PlainClient → Type 0
  GoodIf n c None = Unit {0}
  GoodIf n c (Some client) = IsKept n c (Some client) × (left_of client.session.reader ≡ behind_frames (clients n c).asking.bytes)

  abbrev pub Good : ℕ → PlainNode → Type 0
  Good n node = (c : ℕ) → GoodIf n c (node.clients c)

  fault_break : (n c : ℕ) (fault : FrameFault) → front_fault (behind_frames (clients n c).asking.bytes) ≡ Some fault → (head : Option FaultyHead) → faulty_head fault (behind_frames (clients n c).asking.bytes) ≡ head → Break (fault_lines n c head)
  unfolding reply_line
  fault_break n c fault stands None named before = (record { fault = fault; stands = stands; told = λ h is. let z : None ≡ Some h = sym named ∙ is in cc }, tt)
  fault_break n c fault stands (Some head) named before =
      (record { fault = fault; stands = stands; told = λ h is. let both : Some head ≡ Some h = sym named ∙ is in let same : head ≡ h = cc in ap (λ (k : FaultyHead). Some (Event.Reply n c (spelling (reply_frame (bare_answer k.opcode Einval k.opaque))))) same }, tt)

  module _ (n c clock : ℕ) (o : Resolved) (client : PlainClient) (states : States) (good : GoodIf n c (Some client)) where
    abbrev left : List ℕ
    left = behind_frames (clients n c).asking.bytes

    abbrev x : States × Handling
    x = after (client_posted clock o client) states

    one_posted : Break x.1.events × GoodIf n c (left_open x.1.client)
    one_posted = let at = posted_at n c clock client states good.0 o in by x.1.client.session.closed refl (posted_so n c left clock o client states good.0 good.1).2 at.0 at.1
      where
        by : (b : Bool) → x.1.client.session.closed ≡ b → So n c left b x.1 → IsFor n c x.1.client → LeftBy n c b x.1 → Break x.1.events × GoodIf n c (if b then None else Some x.1.client)
        by false e so own lines = (none_break x.1.events (none_closes n c x.1.events lines), ((own, e), so))
        by true e so own lines =
            let b : Broke n c left x.1.events = so.2 in let head : Option FaultyHead = faulty_head b.fault left in
            let front = lines.2 in
            let same : front.0 ≡ b.front ++ fault_init n c head = cut_last front.0 (b.front ++ fault_init n c head) (Event.Closed n c) (Event.Closed n c)
            (sym front.1 ∙ b.last ∙ ap (λ ls. b.front ++ ls) (init_is n c head) ∙ sym (append_assoc b.front (fault_init n c head) (Event.Closed n c ∷ []))) in
            let none : NoneCloses b.front = none_front b.front (fault_init n c head) (subst NoneCloses same (none_closes n c front.0 front.2)) in
            (subst Break (sym b.last) (break_more b.front (fault_lines n c head) (none_break b.front none) (fault_break n c b.fault b.stands head refl)), tt)

  -- outcomes that are posted
  posted_break : (n : ℕ) (o : Resolved) (node : PlainNode) (who : Option ℕ) → Good n node → Break (posted_to o node who).1 × Good n (posted_to o node who).0
  posted_break n o node None good = (λ before. tt, good)
  posted_break n o node (Some c) good = by (node.clients c) (good c)
    where
      one : (d : ℕ) (b : Bool) → (d == c) ≡ b → (k : Option PlainClient) → GoodIf n c k → GoodIf n d (if b then k else node.clients d)
      one d true e k here = subst (λ m. GoodIf n m k) (sym (eqb-true d c e)) here
      one d false e k here = good d

      by : (k : Option PlainClient) → GoodIf n c k → Break (posted_if c o node k).1 × Good n (posted_if c o node k).0
      by None g = (λ before. tt, good)
      by (Some client) g = let y = one_posted n c node.clock o client node.vbs g in (y.0, λ d. one d (d == c) refl (left_open (after (client_posted node.clock o client) node.vbs).1.client) y.1)

  pub posts_break : (n : ℕ) (rs : List Resolved) (node : PlainNode) → Good n node → Break (all_posted rs node).1 × Good n (all_posted rs node).0
  posts_break n [] node good = (λ before. tt, good)
  posts_break n (o ∷ rs) node good =
      let who : Option ℕ = awaiting node.clients o.waiter MAX_CLIENTS in let one = posted_break n o node who good in let rest = posts_break n rs (posted_to o node who).0 one.1 in
      (break_more (posted_to o node who).1 (all_posted rs (posted_to o node who).0).1 one.0 rest.0, rest.1)

  -- ---- lines for a vBucket

  told_break : (n : ℕ) (told : FlushResult) (node : PlainNode) → Good n node → NoneCloses told.events → Break (with_posts told node).1.events
  told_break n told node good none = break_more told.events (all_posted told.resolved node).1 (none_break told.events none) (posts_break n told.resolved node good).0

  none_settled : (n v : ℕ) (o : Option VbReply) → NoneCloses (settled_result n v o).events
  none_settled n v None = refl
  none_settled n v (Some reply) = by reply.answer
    where
      by : (a : VbAnswer) → NoneCloses (settled_by n v reply a).events
      by answer.Done = none_own n v (Some reply)
      by other = refl

  settles_break : (n v : ℕ) (c : VbCall) (node : PlainNode) → Good n node → (let y = call_at node.vbs v c (node.vbs v) in Break (with_posts (settled_result n v y.1) (with_states node y.0)).1.events)
  settles_break n v c node good = let y = call_at node.vbs v c (node.vbs v) in told_break n (settled_result n v y.1) (with_states node y.0) good (none_settled n v y.1)

  chain_break : (n v : ℕ) (others : Members) (node : PlainNode) → Good n node → Break (chain_line n v others node).1.events
  chain_break n v others node good = by (first_cause (chain_causes n v others node))
    where
      by : (why : _) → Break (refused_or why node (chain_made n v others node)).1.events
      by (Some why) = λ before. tt
      by None = settles_break n v (VbCall.Chain (record { active = n; others = others })) node good

  flush_break : (n v : ℕ) (p : FlushPart) (node : PlainNode) → Good n node → Break (flush_line n v p node).1.events
  flush_break n v p node good =
      let y = after_job (flush_here n v p node) node.vbs node.shelves in
      told_break n y.1 (with_kept node y.0) good (flush_steps (λ told. NoneCloses told.events) (λ came. Unit {0}) n v p node refl by (λ flush. any_job (part_job v p flush)))
    where
      taken : (line : Event) (k : Bool) → is_closing line ≡ false → NoneCloses (if k then [] else line ∷ [])
      taken line true e = refl
      taken line false e = ap (λ b. b || false) e

      by : (came : Flushed) → Unit {0} → NoneCloses (flush_result n v came).events
      by (flushed.Done reply) s = none_own n v reply
      by (flushed.Took ss se at count) s = taken (Event.Batch n v ss se at count) (count == 0) refl
      by other s = refl

  due_break : (n v : ℕ) (came : Outcome) → Break came.1.events → Break (due_in n v came).1.events
  due_break n v came b = by (is_counted came.1.answer)
    where
      acks : (link : PlainLink) (node : PlainNode) → Break (after (dial_due (dial_of link)) node.vbs).1.events
      acks link node = after_always AnyCall (λ (t : DialResult). Break t.events) (dial_due (dial_of link)) node.vbs
          (due_keeps Break (λ lines d seq saved so. break_more lines (acknowledged_line d seq saved ∷ []) so (λ before. tt)) (untold (dial_of link)) (λ before. tt))

      at : (link : PlainLink) (k : Option PlainNode) → Break (due_at n link came.0 came.1 k).1.events
      at link None = b
      at link (Some node) = break_more came.1.events (after (dial_due (dial_of link)) node.vbs).1.events b (acks link node)

      of : (k : Option PlainLink) → Break (due_of n came.0 came.1 k).1.events
      of None = b
      of (Some link) = at link (came.0.nodes n)

      by : (k : Bool) → Break (let y : Outcome = if k then due_of n came.0 came.1 (own_link n v came.0.links) else came in y.1.events)
      by true = of (own_link n v came.0.links)
      by false = b

  -- behind lines of a node its arm may fire
  armed_break : (n : ℕ) (w : PlainWorld) (came : Outcome) → Break came.1.events → Break (with_arm n w came).1.events
  armed_break n w came b = by (fired_by (arm_in (w.nodes n)).fuse (arm_in (came.0.nodes n)).fuse)
    where
      by : (f : Fired) → Break (after_fire n (arm_in (w.nodes n)).out f came).1.events
      by fired.No = b
      by fired.Failed = break_more came.1.events (Event.CallFailed n ∷ []) b (λ before. tt)
      by fired.Stopped = break_more came.1.events (Event.NodeStopped n ∷ down_lines n None came.0) b (λ before. tt)

  unless_break : {A : Type 0} (why : Option Cause) (before : A) (y : A × Told) → Break y.1.events → Break (refused_or why before y).1.events
  unless_break (Some why) before y b = λ first. tt
  unless_break None before y b = b

  -- ---- a change of role

  abbrev pub GoodAt : ℕ → Option PlainNode → Type 0
  GoodAt n None = Unit {0}
  GoodAt n (Some node) = Good n node

  pub put_good : (w : PlainWorld) (n m : ℕ) (node : PlainNode) → GoodAt n (w.nodes n) → (n ≡ m → Good n node) → GoodAt n ((with_node_at w m node).nodes n)
  put_good w n m node good here = by (n == m) refl
    where
      by : (b : Bool) → (n == m) ≡ b → GoodAt n (if b then Some node else w.nodes n)
      by true e = here (eqb-true n m e)
      by false e = good

  pub if_good : (w : PlainWorld) (n m : ℕ) (f : PlainNode → PlainNode) → ((node : PlainNode) → Good n node → Good n (f node)) → GoodAt n (w.nodes n) → GoodAt n ((with_node_if m f w).nodes n)
  if_good w n m f keeps good = by (w.nodes m) refl
    where
      by : (o : Option PlainNode) → w.nodes m ≡ o → GoodAt n ((node_if m f w o).nodes n)
      by None e = good
      by (Some node) e = put_good w n m (f node) good (λ same. keeps node (subst (GoodAt n) (ap w.nodes same ∙ e) good))

  pub ended_good : (n v : ℕ) (ids : List ℕ) (node : PlainNode) → Good n node → Good n (with_clients_ended v ids node)
  ended_good n v ids node good c = by (node.clients c) (good c)
    where
      by : (o : Option PlainClient) → GoodIf n c o → GoodIf n c (option_map (client_ended v ids) o)
      by None g = tt
      by (Some client) g = ((record { node = g.0.0.node; number = g.0.0.number; stream = g.0.0.stream; desk = g.0.0.desk }, g.0.1), g.1)

  cut_good : (n : ℕ) (o : Option PlainLink) (w : PlainWorld) → GoodAt n (w.nodes n) → GoodAt n ((cut_off o w).0.nodes n)
  cut_good n None w good = good
  cut_good n (Some link) w good = if_good w n (producer_node link) (closed_at link) (λ node g. g) good

  none_cut : (o : Option PlainLink) (w : PlainWorld) → NoneCloses (cut_off o w).1
  none_cut None w = refl
  none_cut (Some link) w = refl

  module _ (n v : ℕ) (w : PlainWorld) (asked : AdminCall) (calls : (o : Option VbReply) → NoneCloses (admin_result n v asked o).events) (job : admin_job n v asked ≡ role_at n v asked) where
    none_at : (node : PlainNode) → NoneCloses (called_at n v asked node).1.events
    none_at node = subst (λ (j : Job AdminResult). NoneCloses (after_job j node.vbs node.shelves).1.events) (sym job) (after_job_always AnyCall AnyAsk (λ (told : AdminResult). NoneCloses told.events) (role_at n v asked) node.vbs node.shelves
        (always_bind_job AnyReply AnyCall AnyAsk (λ made. Unit {0}) (λ (told : AdminResult). NoneCloses told.events) (role_job v (admin_call asked)) (λ made. Ended (role_noted n v asked made)) (any_job (role_job v (admin_call asked))) (λ made any. calls made.0)))

    posted_in_break : (w3 : PlainWorld) (t : Told) (rs : List Resolved) → GoodAt n (w3.nodes n) → NoneCloses t.events → Break (posted_in n rs (w3, t)).1.events
    posted_in_break w3 t rs good none = by (w3.nodes n) good
      where
        by : (o : Option PlainNode) → GoodAt n o → Break (posted_at_node n rs w3 t o).1.events
        by None g = none_break t.events none
        by (Some node) g = break_more t.events (all_posted rs node).1 (none_break t.events none) (posts_break n rs node g).0

    ended_break : (o : Option (List ℕ)) (w1 : PlainWorld) (told : AdminResult) → GoodAt n (w1.nodes n) → NoneCloses told.events → Break (turned_if n v w o (w1, told)).1.events
    ended_break None w1 told good none = none_break told.events none
    ended_break (Some ids) w1 told good none =
        let w2 : PlainWorld = with_ended n v ids w1 in let own = own_link n v w2.links in
        posted_in_break (cut_off own w2).0 (record { events = (cut_off own w2).1 ++ told.events; answer = told.answer }) told.resolved
        (cut_good n own w2 (if_good w1 n n (with_clients_ended v ids) (ended_good n v ids) good)) (none_more (cut_off own w2).1 told.events (none_cut own w2) none)

    role_break : (why : Option Cause) → GoodAt n (w.nodes n) → Break (with_arm n w (refused_or why w (role_outcome n v asked w))).1.events
    role_break why good = armed_break n w (refused_or why w (role_outcome n v asked w)) (unless_break why w (role_outcome n v asked w) (by (w.nodes n) good))
      where
        called : (node : PlainNode) → Good n node → (b : Bool) → (let y : PlainNode × AdminResult = if b then (node, admin_refused Cause.NodeDown) else under_arm v (called_at n v asked) node in Break (turned_if n v w y.1.ended (with_node_at w n y.0, y.1)).1.events)
        called node g true = λ before. tt
        called node g false = let y = under_arm v (called_at n v asked) node in ended_break y.1.ended (with_node_at w n y.0) y.1 (put_good w n n y.0 good (λ same. g)) (none_at (placed v node))

        by : (o : Option PlainNode) → GoodAt n o → Break (turned_after n v w (node_outcome w n no_node o (role_called n v asked))).1.events
        by None g = λ before. tt
        by (Some node) g = called node g (is_some node.off)

  rises : (n v uuid : ℕ) (o : Option VbReply) → NoneCloses (admin_result n v (AdminCall.Promote uuid) o).events
  rises n v uuid None = refl
  rises n v uuid (Some reply) = by reply.answer
    where
      by : (a : VbAnswer) → NoneCloses (promote_result n v reply a).events
      by (answer.Branch u parent fork high) = none_own n v (Some reply)
      by (answer.Status st) = refl
      by other = refl

  turns : (n v : ℕ) (r : Role) (reply : VbReply) (a : VbAnswer) → NoneCloses (role_result n v r reply a).events
  turns n v r reply answer.Done = refl
  turns n v r reply other = refl

  follows : (n v : ℕ) (o : Option VbReply) → NoneCloses (admin_result n v AdminCall.Follow o).events
  follows n v None = refl
  follows n v (Some reply) = turns n v Role.Replica reply reply.answer

  dies : (n v : ℕ) (o : Option VbReply) → NoneCloses (admin_result n v AdminCall.Dead o).events
  dies n v None = refl
  dies n v (Some reply) = turns n v Role.Dead reply reply.answer

  -- a vBucket that is made
  made_break : (n v : ℕ) (r : Role) (uuid : ℕ) (why : Option Cause) (node : PlainNode) → Break (refused_or why node (vb_made n v r uuid node)).1.events
  made_break n v r uuid why node = unless_break why node (vb_made n v r uuid node) (none_break (branch_lines n v r uuid) (by r))
    where
      by : (r : Role) → NoneCloses (branch_lines n v r uuid)
      by Role.Active = refl
      by other = refl

  -- ---- what comes down a link

  none_of : (lines : List Event) → Are is_none_closing lines → NoneCloses lines
  none_of [] a = refl
  none_of (Event.Closed n c ∷ lines) a = cc
  none_of (line ∷ lines) a = none_of lines a

  broken_break : (n l : ℕ) (w : PlainWorld) (came : Outcome) → NoneCloses came.1.events → Break (with_broken n l w came).1.events
  broken_break n l w came none = by (is_broken_answer came.1.answer)
    where
      fired_so : (f : Fired) → Break (after_broken n l (arm_in (w.nodes n)).out f came).1.events
      fired_so fired.No = none_break (came.1.events ++ disk_end l) (none_more came.1.events (disk_end l) none refl)
      fired_so fired.Failed = none_break (came.1.events ++ Event.CallFailed n ∷ disk_end l) (none_more came.1.events (Event.CallFailed n ∷ disk_end l) none refl)
      fired_so fired.Stopped = break_more came.1.events (Event.NodeStopped n ∷ down_lines n (Some l) came.0) (none_break came.1.events none) (λ before. tt)

      by : (b : Bool) → Break (let y : Outcome = if b then after_broken n l (arm_in (w.nodes n)).out (fired_by (arm_in (w.nodes n)).fuse (arm_in (came.0.nodes n)).fuse) came else came in y.1.events)
      by true = fired_so (fired_by (arm_in (w.nodes n)).fuse (arm_in (came.0.nodes n)).fuse)
      by false = none_break came.1.events none

  down_break : (w : PlainWorld) (l wanted : ℕ) → Break (down_step w l wanted).1.events
  down_break w l wanted = by (row_at link_number l w.links)
    where
      at : (link : PlainLink) (o : Option PlainNode) → NoneCloses (with_link link (node_outcome w (consumer_node link) (Some link, refusal Cause.UnknownNode) o (down_in wanted link))).1.events
      at link None = refl
      at link (Some node) = none_of (down_in wanted link node).1.1.events
          (down_so is_none_closing link.consumer.dialed (λ h. Unit {0}) (λ seq saved. refl) (record { streams = λ h k. tt; protocol = tt; disk = tt; frame = λ c f k. tt }) (λ log. refl) (λ ss se. refl) (λ c. refl) (λ named to. refl) (λ why k. refl) (λ takes new. refl) (λ takes uuid c. refl) wanted link node refl tt)

      by : (o : Option PlainLink) → Break (down_outcome w l o (link_outcome w l consumer_node (down_in wanted) o)).1.events
      by None = λ before. tt
      by (Some link) = broken_break (consumer_node link) l w (link_outcome w l consumer_node (down_in wanted) (Some link)) (at link (w.nodes (consumer_node link)))

  -- ---- what comes up a link

  tells_none : (d : Desk) → Tells NoneCloses d
  tells_none d = record { more = none_more; asked = λ v ask high log said. refl; counted = λ link v member seq uuid changes. none_changed d.node v uuid changes }

  frames_break : (n : ℕ) (fs : List Frame) (came : PlainNode × PeerResult) → Good n came.0 → Break came.1.events → Break (frames_up fs came).1.events
  frames_break n [] came good b = b
  frames_break n (f ∷ fs) came good b =
      let y = after (peer_answered f came.1.peer) came.0.vbs in
      let none : NoneCloses y.1.events = (peer_so AnyKind NoneCloses came.1.peer.producer.desk asks_any (tells_none came.1.peer.producer.desk) f came.1.peer came.0.vbs refl refl).0 in
      let posts = posts_break n y.1.resolved (with_states came.0 y.0) good in
      frames_break n fs (frame_up f came) posts.1 (break_more came.1.events (frame_posted f came.1.peer came.0).1.events b (break_more y.1.events (all_posted y.1.resolved (with_states came.0 y.0)).1 (none_break y.1.events none) posts.0))

  -- ---- vBuckets that are given up, and frames that are put

  given_good : (n : ℕ) (given : List Yielded) (w : PlainWorld) → GoodAt n (w.nodes n) → GoodAt n ((with_given n given w).nodes n)
  given_good n [] w good = good
  given_good n (one ∷ more) w good = given_good n more (with_ended n one.vb one.ended w) (if_good w n n (with_clients_ended one.vb one.ended) (ended_good n one.vb one.ended) good)

  dead_none : (n : ℕ) (given : List Yielded) → NoneCloses (map (dead_line n) given)
  dead_none n [] = refl
  dead_none n (one ∷ more) = dead_none n more

  gave_break : (w : PlainWorld) (frames : ℕ) (link : PlainLink) (o : Option PlainNode) → w.nodes (producer_node link) ≡ o → GoodAt (producer_node link) o → Break (gives_at frames link w o).1.events
  gave_break w frames link None e good = λ before. tt
  gave_break w frames link (Some node) e good =
      let n : ℕ = producer_node link in let came = after (peer_gives_up frames (peer_of link)) node.vbs in
      let gone : PlainWorld = with_gone link node came.0 came.1.peer w in
      posted n (with_given n came.1.given gone) (done (map (dead_line n) came.1.given)) (flat_map resolved_in came.1.given) (given_good n came.1.given gone (put_good w n n (with_states node came.0) (subst (GoodAt n) (sym e) good) (λ same. good))) (dead_none n came.1.given)
    where
      posted : (n : ℕ) (w3 : PlainWorld) (t : Told) (rs : List Resolved) → GoodAt n (w3.nodes n) → NoneCloses t.events → Break (posted_in n rs (w3, t)).1.events
      posted n w3 t rs good none = by (w3.nodes n) good
        where
          by : (o : Option PlainNode) → GoodAt n o → Break (posted_at_node n rs w3 t o).1.events
          by None g = none_break t.events none
          by (Some node) g = break_more t.events (all_posted rs node).1 (none_break t.events none) (posts_break n rs node g).0

  put_break : (w : PlainWorld) (l frames : ℕ) → Break (on_link w l producer_node (pump_at frames)).1.events
  put_break w l frames = on_link_by (λ o. Break o.1.events) w l producer_node (pump_at frames) (λ before. tt) (λ link found before. tt)
      (λ link node found known. none_break (pump_at frames link node).1.1.events (none_of (pump_at frames link node).1.1.events (pump_so is_none_closing link.server.desk (λ start end flags. refl) (λ c. refl) (λ reason. refl) (λ told. refl) frames link node refl)))

  pump_break : (w : PlainWorld) → ((n : ℕ) → GoodAt n (w.nodes n)) → (l frames : ℕ) → Break (pump_step w l frames).1.events
  pump_break w good l frames = by (row_at link_number l w.links)
    where
      by : (o : Option PlainLink) → Break (pump_outcome w l frames o).1.events
      by None = λ before. tt
      by (Some link) = let gave = gives_at frames link w (w.nodes (producer_node link)) in
          break_more gave.1.events (on_link gave.0 l producer_node (pump_at frames)).1.events (gave_break w frames link (w.nodes (producer_node link)) refl (good (producer_node link))) (put_break gave.0 l frames)

-- ---- each line

-- the connections of a node are what the lines tell
good_of : (w : PlainWorld) (r : Chronicle) (n : ℕ) (node : PlainNode) → IsRanged w → Agrees w r → w.nodes n ≡ Some node → Good r.clients_at n node
good_of w r n node ranged a known c = by (node.clients c) refl ((subst (NodeRangedIf n) known (ranged n)).own c)
  where
    by : (o : Option PlainClient) → node.clients c ≡ o → IsKept n c o → GoodIf r.clients_at n c o
    by None is kept = tt
    by (Some client) is kept =
        let mine : ClientAgrees w r n c client = a.1.clients.each n c client (ap (λ o. client_in o c) known ∙ is) in
        (kept, sym (left_asked (r.clients_at n c).asking client.session client.producer.handshake mine.asks))

module _ (w : PlainWorld) (r : Chronicle) (ranged : IsRanged w) (a : Agrees w r) where
  on_break : (n : ℕ) (f : PlainNode → PlainNode × Told) → ((node : PlainNode) → Good r.clients_at n node → Break r.clients_at (f node).1.events) → Break r.clients_at (on_node w n f).1.events
  on_break n f each = on_node_by (λ o. Break r.clients_at o.1.events) w n f (λ before. tt) (λ node known before. tt) (λ node known up. each node (good_of w r n node ranged a known))

  up_break : (l wanted : ℕ) → Break r.clients_at (on_link w l producer_node (up_at wanted)).1.events
  up_break l wanted = on_link_by (λ o. Break r.clients_at o.1.events) w l producer_node (up_at wanted) (λ before. tt) (λ link found before. tt) (λ link node found known. let piece : List ℕ = take (moved_len wanted link.up) link.up in
      frames_break r.clients_at (producer_node link) (peer_frames piece (peer_of link)) (node, untold_peer (peer_heard piece (peer_of link))) (good_of w r (producer_node link) node ranged a known) (λ before. tt))

  pub good_at : (n : ℕ) → GoodAt r.clients_at n (w.nodes n)
  good_at n = by (w.nodes n) refl
    where
      by : (o : Option PlainNode) → w.nodes n ≡ o → GoodAt r.clients_at n o
      by None e = tt
      by (Some node) e = good_of w r n node ranged a e

  -- where a line may tell of none that closes, or tells of it where its node stopped alone
  unclosed : (asked : Verb) → ((line : Event) → may_tell r asked line ≡ true → is_none_closing line ≡ true) → (lines : List Event) → TellsOf r asked lines → AllBreak r.clients_at None lines
  unclosed asked none lines t = by None lines t
    where
      by : (before : Option Event) (lines : List Event) → Tell (may_tell r asked) (is_of_end r) lines → AllBreak r.clients_at before lines
      by before [] t = tt
      by before (Event.NodeStopped m ∷ lines) t = tt
      by before (Event.Closed m c ∷ lines) t = let p = and_parts (may_tell r asked (Event.Closed m c)) _ t in let z : false ≡ true = none (Event.Closed m c) p.0 in cc
      by before (line ∷ lines) t = let p = and_parts (may_tell r asked line) (are_told (may_tell r asked) (is_of_end r) lines) t in by (Some line) lines p.1

  vb_breaks : (number n v : ℕ) (what : VbVerb) → (let y = (verb_step w number (Verb.AtVb n v what)).1 in TellsOf r (Verb.AtVb n v what) y.events → ClosesAsBroken r (Verb.AtVb n v what) y.events)
  vb_breaks number n v (VbVerb.Chain others) t = on_break n (chain_line n v others) (chain_break r.clients_at n v others) None
  vb_breaks number n v VbVerb.Tick t = on_break n (tick_line n v) (λ node good. settles_break r.clients_at n v (VbCall.Tick node.clock) node good) None
  vb_breaks number n v VbVerb.Done t = due_break r.clients_at n v (on_node w n (flush_line n v part.Done)) (on_break n (flush_line n v part.Done) (flush_break r.clients_at n v part.Done)) None
  vb_breaks number n v (VbVerb.MakeActive uuid) t = armed_break r.clients_at n w (on_node w n (vb_at w.uuids n v uuid)) (on_break n (vb_at w.uuids n v uuid) (λ node good. made_break r.clients_at n v Role.Active uuid (first_cause (vb_causes w.uuids node v uuid)) node)) None
  vb_breaks number n v VbVerb.MakeReplica t = armed_break r.clients_at n w (on_node w n (replica_at n v)) (on_break n (replica_at n v) (λ node good. made_break r.clients_at n v Role.Replica 0 (first_cause (replica_causes node v)) node)) None
  vb_breaks number n v (VbVerb.Promote uuid) t = role_break r.clients_at n v w (AdminCall.Promote uuid) (rises r.clients_at n v uuid) refl (first_cause (promote_causes w n v uuid)) (good_at n) None
  vb_breaks number n v VbVerb.Follow t = role_break r.clients_at n v w AdminCall.Follow (follows r.clients_at n v) refl (first_cause (turn_causes w n v Role.Replica)) (good_at n) None
  vb_breaks number n v VbVerb.Dead t = role_break r.clients_at n v w AdminCall.Dead (dies r.clients_at n v) refl (first_cause (turn_causes w n v Role.Dead)) (good_at n) None
  vb_breaks number n v VbVerb.Save t = armed_break r.clients_at n w (on_node w n (save_line n v)) (on_break n (save_line n v) (λ node good. flush_break r.clients_at n v part.Save (placed v node) good)) None
  vb_breaks number n v VbVerb.Trim t = unclosed (Verb.AtVb n v VbVerb.Trim) none_unclosed (verb_step w number (Verb.AtVb n v VbVerb.Trim)).1.events t
  vb_breaks number n v VbVerb.Seal t = unclosed (Verb.AtVb n v VbVerb.Seal) none_unclosed (verb_step w number (Verb.AtVb n v VbVerb.Seal)).1.events t
  vb_breaks number n v VbVerb.Take t = unclosed (Verb.AtVb n v VbVerb.Take) (take_unclosed r n v) (verb_step w number (Verb.AtVb n v VbVerb.Take)).1.events t
  vb_breaks number n v VbVerb.Stat t = unclosed (Verb.AtVb n v VbVerb.Stat) (stat_unclosed r n v) (verb_step w number (Verb.AtVb n v VbVerb.Stat)).1.events t
  vb_breaks number n v VbVerb.Log t = unclosed (Verb.AtVb n v VbVerb.Log) (log_unclosed r n v) (verb_step w number (Verb.AtVb n v VbVerb.Log)).1.events t
  vb_breaks number n v VbVerb.Show t = unclosed (Verb.AtVb n v VbVerb.Show) (show_unclosed r n v) (verb_step w number (Verb.AtVb n v VbVerb.Show)).1.events t

  pub line_breaks : (number : ℕ) (line : Verb) → (let y = (verb_step w number line).1 in ToldBy r line y.events → ClosesAsBroken r line y.events)
  line_breaks number (Verb.AtClient n c (ClientVerb.Bytes bytes)) t = bytes_break w r n c bytes ranged a
  line_breaks number (Verb.AtClient n c ClientVerb.Open) t = unclosed (Verb.AtClient n c ClientVerb.Open) none_unclosed (verb_step w number (Verb.AtClient n c ClientVerb.Open)).1.events t
  line_breaks number (Verb.AtClient n c ClientVerb.Hang) t = unclosed (Verb.AtClient n c ClientVerb.Hang) none_unclosed (verb_step w number (Verb.AtClient n c ClientVerb.Hang)).1.events t
  line_breaks number (Verb.AtClient n c (ClientVerb.Pull wanted)) t = unclosed (Verb.AtClient n c (ClientVerb.Pull wanted)) (pull_unclosed n c) (verb_step w number (Verb.AtClient n c (ClientVerb.Pull wanted))).1.events t
  line_breaks number (Verb.Node n) t = unclosed (Verb.Node n) none_unclosed (verb_step w number (Verb.Node n)).1.events t
  line_breaks number (Verb.Link l m n v buffer takeover) t = unclosed (Verb.Link l m n v buffer takeover) none_unclosed (verb_step w number (Verb.Link l m n v buffer takeover)).1.events t
  line_breaks number (Verb.AtNode n (NodeVerb.Clock nanos)) t = unclosed (Verb.AtNode n (NodeVerb.Clock nanos)) none_unclosed (verb_step w number (Verb.AtNode n (NodeVerb.Clock nanos))).1.events t
  line_breaks number (Verb.AtNode n (NodeVerb.Stop call out)) t = unclosed (Verb.AtNode n (NodeVerb.Stop call out)) none_unclosed (verb_step w number (Verb.AtNode n (NodeVerb.Stop call out))).1.events t
  line_breaks number (Verb.AtNode n (NodeVerb.Fail call)) t = unclosed (Verb.AtNode n (NodeVerb.Fail call)) none_unclosed (verb_step w number (Verb.AtNode n (NodeVerb.Fail call))).1.events t
  line_breaks number (Verb.AtNode n (NodeVerb.Crash out)) t = tt
  line_breaks number (Verb.AtNode n (NodeVerb.Start uuids)) t = unclosed (Verb.AtNode n (NodeVerb.Start uuids)) (start_unclosed n) (verb_step w number (Verb.AtNode n (NodeVerb.Start uuids))).1.events t
  line_breaks number (Verb.AtVb n v what) t = vb_breaks number n v what t
  line_breaks number (Verb.AtLink l (LinkVerb.Up wanted)) t = up_break l wanted None
  line_breaks number (Verb.AtLink l (LinkVerb.Down wanted)) t = down_break r.clients_at w l wanted None
  line_breaks number (Verb.AtLink l (LinkVerb.Pump wanted)) t = pump_break r.clients_at w good_at l wanted None
  line_breaks number (Verb.AtLink l LinkVerb.Drop) t = unclosed (Verb.AtLink l LinkVerb.Drop) (drop_unclosed (r.dial_of l) l) (verb_step w number (Verb.AtLink l LinkVerb.Drop)).1.events t
  line_breaks number (Verb.AtLink l LinkVerb.Cut) t = unclosed (Verb.AtLink l LinkVerb.Cut) (cut_unclosed (r.dial_of l) l) (verb_step w number (Verb.AtLink l LinkVerb.Cut)).1.events t
