-- what the law needs of each line for a node, for a client's connection and for a link
use Rattle.std.specs.Prelude.{◌≡◌, ◌∷◌, ◌||◌, ◌&&◌, if◌then◌else◌}
use Rattle.transcript_law.proofs.Words.{ℕ, Bool, true, false, [], refl, ap, sym, subst, ◌∙◌, arith, Option, Some, None, is_some, not, Answer, Cause, Chronicle, Verb, NodeVerb, ClientVerb, LinkVerb, PlainLink, PlainNode, PlainWorld, Outcome, Told, IsAnswered, LawfulAnswer, after_verb, stays, take_snapshots}
use Rattle.transcript_law.proofs.Words.{ask_in, bytes_at, client_at, clock_at, consumer_node, cut_outcome, done, drop, empty_node, bytes_if, first_cause, hang_at, link_causes, link_number, node_causes, node_step, on_link, on_node, producer_node, refusal, row_at, unlinked, up_at, with_client, with_dialed, with_links, with_node_at}
use Rattle.node_world.specs.{Arms.{fail_arm, stop_arm}, Nodes.{arm_at, hung_if, pull_at, pull_if}, Power.{crash_causes, crash_step, down_lines, dropped, start_at, start_causes, start_step}, World.{base_of, client_verb_at, cut_step, down_in, down_outcome, down_step, link_step, link_verb_step, node_verb_step, pump_outcome, pump_step}, Worlds.{is_off, on_made}, declared.arm.Arm.{Arm}}
use Rattle.transcript_law.proofs.{invariant.LinkRows.{found_is_link}, noted.{Joint.{noted_of}, Pumped.{pump_known}}}
use Rattle.transcript_law.proofs.invariant.{AtRest.{RestsIf, Still, bytes_still, down_rests, either_node, hang_still, link_still, pull_still, start_still, still_put, still_steps, up_still, weaker}, CallsKept.{InWorld, dropped_all, none_at, on_made_all, unless_all, unlinked_all}, Agreement.{Agrees, GoesOn}, Entering.{Entered, armed_entered, blank_entered, clock_entered, crashed_entered, dial_entered, moved_entered, start_line_entered}}
use Rattle.transcript_law.proofs.invariant.{FedClients.{bytes_keeps, client_keeps, hang_keeps, pull_keeps}, FedLines.{broken_line, cut_fine, dialed_fed, down_fine, same_keeps, start_keeps, unless_fed, up_fed}, Feeding.{dropped_fine, made_fine, with_node as fed_node}}
use Rattle.transcript_law.proofs.invariant.Ranged.{IsRanged, NodeRanged, NodeRangedIf, bytes_ranged, client_ranged, down_ranged, dropped_ranged, hang_ranged, kept_ranged, on_link_ranged, on_made_ranged, pull_ranged, start_at_ranged, unless_ranged, unlinked_ranged, up_ranged, with_node}
use Rattle.transcript_law.proofs.{invariant.Clients.{client_answered, crash_answered}, disks.AppendLines.{start_says}, disks.Fired.{ends_calm}, lines.Calm.{Spared, bytes_calm, up_calm}, lines.PullTold.{pull_calm, pull_made}, lines.Refusals.{Anything, Same, Says, on_link_says, on_node_says, refused_says, unchanged}, ends.Open.{cut_answered, down_over, link_answered, pump_answered, up_answered}}
use Rattle.transcript_law.proofs.verbs.{BoundAnswers.{bound, bound_at, bound_down, closed_link_refused, crash_refused, link_refused, node_exists, off_as_power, one, over, start_refused}, FiredLines.{down_fires, rows_fire}, LineAnswers.{IsOk, down_line_says, no_ok}}
use Rattle.transcript_law.proofs.verbs.{ArmLines.{fail_goes, stop_goes}, Crashing.{crash_goes}, Dials.{link_goes}, DownLine.{down_answered, down_goes}, DownOwns.{owns_settled}, Leaving.{cut_goes}, NodeLines.{as_told, clock_goes, node_goes, on_link_by, on_made_by, on_node_by, refused_on}}
use Rattle.transcript_law.proofs.verbs.{PumpLines.{pump_fed, pump_keeps, pump_ranged, pump_spared, pump_still}, Pumping.{pump_came}, Requesting.{bytes_goes}, Rows.{Goes, Row, alone_row, answered_row, told_goes}, Settling.{steady}, Starting.{start_answered, start_fires, start_goes}, ClientTellings.{bytes_tells, pull_tells}, LinkTellings.{cut_tells, up_tells}, NodeTellings.{crash_tells, start_tells}, StopTellings.{world_dialed}, Tellings.{tell_unless}, Ups.{up_goes}}
use Rattle.transcript_law.specs.{Bound.{is_told_down}, Chronicles.{after_bytes, heir_in, known_fail, known_stop}, Firings.{FiresInLine}, Tellings.{TellsOf, is_none, is_of_end}}
use Rattle.node_core.specs.Clients.{new_client}
use Rattle.transcript_law.proofs.indexers.{Closing.{hang_line_goes, open_line_goes}, Pulled.{pull_goes}}
use Rattle.vbucket.proofs.Ending.{takes_exactly}
use Rattle.vbucket.specs.Laws.{IsTimely}
use Rattle.node_world.specs.Links.{drop_at}
use Rattle.transcript_law.proofs.{ends.Open.{drop_answered}, links.DropRows.{drop_fed, drop_ranged, drop_still}, links.Dropped.{drop_goes}, verbs.LinkTellings.{drop_tells}}

-- ---- nodes

pub node_row : (w : PlainWorld) (n : ℕ) → Row w (Verb.Node n) (node_step w n)
node_row w n =
    let x : Outcome = (with_node_at w n empty_node, done []) in let why : Option Cause = first_cause (node_causes w n) in let told : Told = (node_step w n).1 in
    let says : Says IsOk (Same w) (node_step w n) = refused_says IsOk (Same w) w x why no_ok (unchanged w) (tt, λ why e s. cc) in record {
      ranged = λ fits r. unless_ranged w x why r (with_node w n empty_node r (record { clock = omega arith; clients = λ c. tt; own = λ c. tt; runs = λ e c. refl }));
      rests = λ r here h a all. weaker (node_step w n).0 (unless_all Still IsTimely still_steps (λ id. tt) w x why all (still_put w n empty_node all (none_at Still IsTimely still_steps (λ id. tt))));
      fed = λ r here calm h a fine kept. unless_fed w x why fine.fed (fed_node w n empty_node fine.fed (record { owned = λ v id h. absurd h; kept = λ c client e. cc }));
      keeps = λ rests. says.1;
      tells = λ r t. tell_unless is_none (is_of_end r) why w x refl;
      told = λ r fits t. (says.0, rows_fire (node_causes w n) w x (tt, tt) refl);
      entered = λ before r old. old;
      bound = λ r a rule. bound (is_told_down r n) Cause.NodeExists [] _ told rule (λ e. one Cause.NodeExists told (node_exists w (w.nodes n) x (sym (off_as_power w r a n) ∙ e)));
      goes = λ r fits ranged calm begins a. told_goes (Verb.Node n) r (node_step w n) (node_goes w r n a);
    }

-- an arm of a node, whether it runs or not
arm_row : (w : PlainWorld) (n : ℕ) (what : NodeVerb) (arm : Arm) → (let line : Verb = Verb.AtNode n what in let x : Outcome = on_made w n (arm_at arm) in
    ((r : Chronicle) → LawfulAnswer r line x.1.events x.1.answer → IsAnswered r line x.1.events x.1.answer)
    → ((r : Chronicle) → IsOk x.1 × Spared x.1 → LawfulAnswer r line x.1.events x.1.answer × FiresInLine r line x.1.events x.1.answer)
    → ((before r : Chronicle) (said : Answer) → Entered r → Entered (after_verb before r line x.1.events said)) → ((r : Chronicle) → Agrees w r → Goes line r x) → Row w line x)
arm_row w n what arm bound told entered goes =
    let f : PlainNode → PlainNode × Told = arm_at arm in let came : Outcome = on_made w n f in
    let says : Says IsOk (Same w) came = on_made_by (Says IsOk (Same w)) w n f (tt, λ why e s. (unchanged w, refl)) (λ node known. (tt, λ why e s. cc)) in record {
      ranged = λ fits r. on_made_ranged w n f r (λ node here. kept_ranged n node (f node).0 refl (λ c. refl) refl here);
      rests = λ r here h a all. weaker came.0 (on_made_all Still IsTimely still_steps (λ id. tt) w n f all (λ node e there. there));
      fed = λ r here calm h a fine kept. (made_fine w n f fine same_keeps).fed;
      keeps = λ rests. says.1;
      bound = λ r a rule. bound r rule;
      tells = λ r t. on_made_by (λ o. TellsOf r (Verb.AtNode n what) o.1.events) w n f refl (λ node known. refl);
      told = λ r fits t. told r (says.0, on_made_by (λ o. Spared o.1) w n f refl (λ node known. refl));
      entered = λ before r old. entered before r came.1.answer old;
      goes = λ r fits ranged calm begins a. told_goes (Verb.AtNode n what) r came (goes r a);
    }

pub node_row_of : (w : PlainWorld) (n : ℕ) (what : NodeVerb) → Row w (Verb.AtNode n what) (node_verb_step w n what)
node_row_of w n (NodeVerb.Clock nanos) = alone_row w (Verb.AtNode n (NodeVerb.Clock nanos)) n (clock_at nanos) (λ r. (refl, λ told s. s)) (λ before r lines said old. clock_entered r n nanos said old)
    (λ fits node up r. record { clock = fits.1; clients = r.clients; own = r.own; runs = r.runs }) (λ node here there. there) same_keeps (λ node r. refl) (λ told node r. refl) (λ r told. on_node_says IsOk w n (clock_at nanos) no_ok (λ node known. (tt, λ why e s. cc)))
    (λ r fits ranged calm begins a. clock_goes w r n nanos a)
node_row_of w n (NodeVerb.Stop k out) = arm_row w n (NodeVerb.Stop k out) (stop_arm k out) (λ r rule. rule) (λ r said. said) (λ before r said old. armed_entered r n (known_stop k out) said old) (λ r a. stop_goes w r n k out a)
node_row_of w n (NodeVerb.Fail k) = arm_row w n (NodeVerb.Fail k) (fail_arm k) (λ r rule. rule) (λ r said. said) (λ before r said old. armed_entered r n (known_fail k) said old) (λ r a. fail_goes w r n k a)
node_row_of w n (NodeVerb.Crash out) =
    let x : Outcome = (dropped n out w, done (down_lines n None w)) in let why : Option Cause = first_cause (crash_causes w n) in let came : Outcome = crash_step w n out in
    let says : Says IsOk (Same w) came = refused_says IsOk (Same w) w x why no_ok (unchanged w) (tt, λ why e s. cc) in record {
      ranged = λ fits r. unless_ranged w x why r (dropped_ranged n out w r);
      rests = λ r here h a all. weaker came.0 (unless_all Still IsTimely still_steps (λ id. tt) w x why all (dropped_all Still IsTimely still_steps (λ id. tt) n out w all));
      fed = λ r here calm h a fine kept. unless_fed w x why fine.fed (dropped_fine n out w fine).fed;
      keeps = λ rests. says.1;
      tells = λ r t. crash_tells r w n out (world_dialed w r t.agrees);
      told = λ r fits t. (crash_answered r.conn_at w 0 t.conns n out, rows_fire (crash_causes w n) w x (tt, (tt, tt)) (ends_calm n None w));
      bound = λ r a rule. bound_at w r a n _ came.1 rule (crash_refused w n (w.nodes n) x);
      entered = λ before r old. crashed_entered r n out came.1.answer old;
      goes = λ r fits ranged calm begins a. told_goes (Verb.AtNode n (NodeVerb.Crash out)) r came (crash_goes stays w r n out a);
    }
node_row_of w n (NodeVerb.Start uuids) = let x : Outcome = on_made w n (start_at n uuids) in let why : Option Cause = first_cause (start_causes w n uuids) in let told : Told = (start_step w n uuids).1 in record {
  ranged = λ fits r. unless_ranged w x why r (on_made_ranged w n (start_at n uuids) r (λ node here. start_at_ranged n uuids node here));
  rests = λ r here h a all. weaker (start_step w n uuids).0 (start_still w r n uuids a all);
  fed = λ r here calm h a fine kept. unless_fed w x why fine.fed (made_fine w n (start_at n uuids) fine (start_keeps n uuids)).fed;
  keeps = λ rests. (start_says w n uuids).1;
  bound = λ r a rule. bound_down (is_told_down r n) Cause.NodeUp (Cause.UnknownNode ∷ []) _ told rule (λ e. start_refused w (w.nodes n) (drop 2 (start_causes w n uuids)) x (sym (off_as_power w r a n) ∙ e));
  tells = λ r t. start_tells r n w uuids;
  told = λ r fits t. (start_answered steady w r n uuids fits.1.1 t.agrees, start_fires steady w r n uuids fits.1.1 t.agrees);
  entered = λ before r old. start_line_entered r n told.events told.answer old;
  goes = λ r fits ranged calm begins a. start_goes steady w r n uuids fits.1.1 a;
}

-- ---- clients

pub client_row_of : (w : PlainWorld) (number n c : ℕ) (what : ClientVerb) → Row w (Verb.AtClient n c what) (on_node w n (client_verb_at n number c what))
client_row_of w number n c ClientVerb.Open =
    let opened : PlainNode → PlainNode × Told = λ node. (with_client node c (Some (new_client (record { node = n; client = c; base = base_of number }))), done []) in
    let closed : PlainNode → PlainNode × Told = λ node. (node, refusal Cause.LinkOpen) in
    answered_row (λ r. IsOk) w (Verb.AtClient n c ClientVerb.Open) n (client_at n (base_of number) c) (λ r. (refl, λ told s. s)) (λ before r lines said old. blank_entered r n c said old) (λ fits. client_ranged n (base_of number) c)
    (λ node here there. either_node (is_some (node.clients c)) (closed node) (opened node) there there) (client_keeps n (base_of number) c)
    (λ node r. elim (is_some (node.clients c)) as (λ b. let x : PlainNode × Told = if b then closed node else opened node in Spared x.1) [ true ↦ refl | false ↦ refl ])
    (λ told node r. elim (is_some (node.clients c)) as (λ b. let x : PlainNode × Told = if b then closed node else opened node in TellsOf told (Verb.AtClient n c ClientVerb.Open) x.1.events) [ true ↦ refl | false ↦ refl ])
    (λ r told. on_node_says IsOk w n (client_at n (base_of number) c) no_ok (λ node known.
    elim (is_some (node.clients c)) as (λ b. Says IsOk (λ k. k ≡ node) (if b then closed node else opened node)) [ true ↦ (tt, λ why e s. (refl, refl)) | false ↦ (tt, λ why e s. cc) ]))
    (λ r t ok. client_answered r.conn_at w number t.conns n c ClientVerb.Open)
    (λ r fits ranged calm begins a. open_line_goes w r n (base_of number) c begins a)
client_row_of w number n c (ClientVerb.Bytes bytes) = answered_row (λ r. IsOk) w (Verb.AtClient n c (ClientVerb.Bytes bytes)) n (bytes_at c bytes) (λ r. (refl, λ told s. s)) (λ before r lines said old. old)
    (λ fits node up r. bytes_ranged n c bytes node fits.2 r) (bytes_still n c bytes) (bytes_keeps c bytes) (λ node r. bytes_calm n c bytes node r.own) (λ told node r. bytes_tells told n c bytes node r.own)
    (λ r told. on_node_says IsOk w n (bytes_at c bytes) no_ok (λ node known. elim (node.clients c) as (λ o. Says IsOk (λ k. k ≡ node) (bytes_if c bytes node o)) [ None ↦ (tt, λ why e s. (refl, refl)) | Some session ↦ (tt, λ why e s. cc) ]))
    (λ r t ok. client_answered r.conn_at w number t.conns n c (ClientVerb.Bytes bytes))
    (λ r fits ranged calm begins a. on_node_by (λ x. GoesOn (after_bytes r n c bytes x.1.answer) as_told x) w n (bytes_at c bytes) (tt, a) (λ node known. refused_on w r n node Cause.NodeDown a known) (λ node known up. bytes_goes stays steady w r n c bytes node fits.2 (subst (NodeRangedIf n) known (ranged n)) calm a known))
client_row_of w number n c (ClientVerb.Pull wanted) = answered_row (λ r told. Unit {0}) w (Verb.AtClient n c (ClientVerb.Pull wanted)) n (pull_at c wanted) (λ r. (refl, λ told s. s)) (λ before r lines said old. old)
    (λ fits node up r. pull_ranged n c wanted node r) (pull_still n c wanted) (pull_keeps c wanted) (λ node r. pull_calm n c wanted node (r.own c)) (λ told node r. pull_tells told n c wanted node r.own)
    (λ r told. on_node_says (λ told. Unit {0}) w n (pull_at c wanted) (λ why. tt) (λ node known. elim (node.clients c) as (λ o. Says (λ told. Unit {0}) (λ k. k ≡ node) (pull_if c wanted node o)) [ None ↦ (tt, λ why e s. (refl, refl)) | Some client ↦ (tt, λ why e s. absurd (pull_made c wanted node client why e s)) ]))
    (λ r t ok. client_answered r.conn_at w number t.conns n c (ClientVerb.Pull wanted))
    (λ r fits ranged calm begins a. pull_goes take_snapshots takes_exactly w r n c wanted ranged a)
client_row_of w number n c ClientVerb.Hang = answered_row (λ r. IsOk) w (Verb.AtClient n c ClientVerb.Hang) n (hang_at c) (λ r. (refl, λ told s. s)) (λ before r lines said old. blank_entered r n c said old)
    (λ fits node up r. hang_ranged n c node r) (hang_still n c) (hang_keeps c)
    (λ node r. elim (node.clients c) as (λ o. Spared (hung_if c node o).1) [ None ↦ refl | Some client ↦ refl ])
    (λ told node r. elim (node.clients c) as (λ o. TellsOf told (Verb.AtClient n c ClientVerb.Hang) (hung_if c node o).1.events) [ None ↦ refl | Some client ↦ refl ])
    (λ r told. on_node_says IsOk w n (hang_at c) no_ok (λ node known. elim (node.clients c) as (λ o. Says IsOk (λ k. k ≡ node) (hung_if c node o)) [ None ↦ (tt, λ why e s. (refl, refl)) | Some client ↦ (tt, λ why e s. cc) ]))
    (λ r t ok. client_answered r.conn_at w number t.conns n c ClientVerb.Hang)
    (λ r fits ranged calm begins a. hang_line_goes w r n c a)

-- ---- links

pub link_row : (w : PlainWorld) (number l m n v buffer : ℕ) (takeover : Bool) → Row w (Verb.Link l m n v buffer takeover) (link_step w number l m n v buffer takeover)
link_row w number l m n v buffer takeover =
    let x : Outcome = (with_links w (with_dialed number l m n v buffer takeover w.links (ask_in w n v)), done []) in let why : Option Cause = first_cause (link_causes w l m n v) in let came : Outcome = link_step w number l m n v buffer takeover in
    let says : Says IsOk (Same w) came = refused_says IsOk (Same w) w x why no_ok (unchanged w) (tt, λ why e s. cc) in record {
      ranged = λ fits r. unless_ranged w x why r r;
      rests = λ r here h a all. weaker came.0 (unless_all Still IsTimely still_steps (λ id. tt) w x why all all);
      fed = λ r here calm h a fine kept. unless_fed w x why fine.fed (dialed_fed w fine number l m n v buffer takeover (ask_in w n v));
      keeps = λ rests. says.1;
      tells = λ r t. tell_unless is_none (is_of_end r) why w x refl;
      told = λ r fits t. (link_answered w r t.agrees t.linked number l m n v buffer takeover, rows_fire (link_causes w l m n v) w x (tt, (tt, (tt, (tt, (tt, tt))))) refl);
      entered = λ before r old. dial_entered r l m n v came.1.answer old;
      bound = λ r a rule. bound (is_told_down r m || is_told_down r n) Cause.NodeDown (Cause.UnknownNode ∷ []) _ came.1 rule (λ e.
          link_refused w (not (is_some (w.nodes m) && is_some (w.nodes n))) (is_off (w.nodes m) || is_off (w.nodes n)) (drop 2 (link_causes w l m n v)) x ((λ i. sym (off_as_power w r a m) i || sym (off_as_power w r a n) i) ∙ e));
      goes = λ r fits ranged calm begins a. told_goes (Verb.Link l m n v buffer takeover) r came (link_goes w r number l m n v buffer takeover fits a);
    }

pub link_row_of : (w : PlainWorld) (l : ℕ) (what : LinkVerb) → Row w (Verb.AtLink l what) (link_verb_step w l what)
link_row_of w l (LinkVerb.Up wanted) = let f = up_at wanted in let came : Outcome = on_link w l producer_node f in
    let says : Says Anything (Same w) came = on_link_says Anything w l producer_node f (λ why. tt) (λ link node. (tt, λ why e s. cc)) in record {
      ranged = λ fits r. on_link_ranged w l producer_node f r (λ link n node here. up_ranged n wanted link node here);
      fed = λ r here calm h a fine kept. up_fed w fine kept l wanted;
      rests = λ r here h a all. weaker came.0 (link_still w here all l producer_node f (λ link node at there. up_still (producer_node link) wanted link node at there));
      keeps = λ rests. says.1;
      bound = λ r a rule. over w r l _ came.1 a rule (closed_link_refused w l producer_node f);
      entered = λ before r old. old;
      tells = λ r t. up_tells w r t.agrees l t.ranged wanted;
      told = λ r fits t. (up_answered w r t.agrees t.linked l wanted, on_link_by (λ o. Spared o.1) w l producer_node f refl (λ link found. refl) (λ link node found known. let here : NodeRanged (producer_node link) node = subst (NodeRangedIf (producer_node link)) known (t.ranged (producer_node link)) in up_calm (producer_node link) wanted link node here.own));
      goes = λ r fits ranged calm begins a. told_goes (Verb.AtLink l (LinkVerb.Up wanted)) r came (up_goes stays steady w r l wanted ranged calm.0 (noted_of w r begins) a);
    }
link_row_of w l (LinkVerb.Down wanted) = let o : Outcome = on_link w l consumer_node (down_in wanted) in let came : Outcome = down_step w l wanted in let found : Option PlainLink = row_at link_number l w.links in record {
  ranged = λ fits r. down_ranged w l found o (on_link_ranged w l consumer_node (down_in wanted) r (λ link n node here. kept_ranged n node (down_in wanted link node).0 refl (λ c. refl) refl here));
  rests = λ r here h a all. down_rests w l wanted (owns_settled stays w r l wanted a (noted_of w r h) h.free (weaker w all)) (weaker w all);
  fed = λ r here calm h a fine kept. (broken_line w l found o (down_fine w fine l wanted)).fed;
  keeps = λ rests. (down_line_says w l wanted).1;
  tells = λ r t. tt;
  told = λ r fits t. ((down_answered stays w r l wanted t.agrees (noted_of w r t.handed) t.handed.free, down_over w r t.agrees t.linked l wanted), down_fires w r l wanted t.dials);
  bound = λ r a rule. over w r l _ came.1 a rule (λ none. ap (λ k. (down_outcome w l k o).1) none ∙ closed_link_refused w l consumer_node (down_in wanted) none);
  entered = λ before r old. moved_entered before r (before.dial_of l) (before.point_of l) (heir_in came.1.events) came.1.events came.1.answer old;
  goes = λ r fits ranged calm begins a. told_goes (Verb.AtLink l (LinkVerb.Down wanted)) r came (down_goes stays w r l wanted a (noted_of w r begins) begins.free);
}
link_row_of w l (LinkVerb.Pump frames) = let came : Outcome = pump_step w l frames in record {
  ranged = λ fits r. pump_ranged w l frames r;
  fed = λ r here calm h a fine kept. pump_fed w l frames take_snapshots stays steady r a here calm.0 (pump_known w r h) fine kept;
  rests = λ r here h a all. weaker came.0 (pump_still w l frames here all);
  keeps = λ rests. pump_keeps w l frames;
  bound = λ r a rule. over w r l _ came.1 a rule (λ none. ap (λ o. (pump_outcome w l frames o).1) none);
  entered = λ before r old. old;
  tells = λ r t. tt;
  told = λ r fits t. (pump_answered w r t.agrees t.linked t.ranged l frames, pump_spared w l frames t.ranged);
  goes = λ r fits ranged calm begins a. told_goes (Verb.AtLink l (LinkVerb.Pump frames)) r came (pump_came take_snapshots stays steady w r l frames a ranged calm.0 (pump_known w r begins)).goes;
}
link_row_of w l LinkVerb.Drop = let came : Outcome = on_link w l producer_node drop_at in
    let says : Says Anything (Same w) came = on_link_says Anything w l producer_node drop_at (λ why. tt) (λ link node. (tt, λ why e s. cc)) in record {
      ranged = λ fits r. on_link_ranged w l producer_node drop_at r (λ link n node here. drop_ranged n link node here);
      fed = λ r here calm h a fine kept. drop_fed w l fine;
      rests = λ r here h a all. weaker came.0 (link_still w here all l producer_node drop_at (λ link node at there. drop_still link node there));
      keeps = λ rests. says.1;
      bound = λ r a rule. over w r l _ came.1 a rule (closed_link_refused w l producer_node drop_at);
      entered = λ before r old. old;
      tells = λ r t. drop_tells w r t.agrees l;
      told = λ r fits t. (drop_answered w r t.agrees t.linked l, on_link_by (λ o. Spared o.1) w l producer_node drop_at refl (λ link found. refl) (λ link node found known. refl));
      goes = λ r fits ranged calm begins a. told_goes (Verb.AtLink l LinkVerb.Drop) r came (drop_goes stays w r l a);
    }
link_row_of w l LinkVerb.Cut = let found : Option PlainLink = row_at link_number l w.links in
    let says : Says IsOk (Same w) (cut_outcome w found) = elim found as (λ o. Says IsOk (Same w) (cut_outcome w o)) [ None ↦ (tt, λ why e s. (unchanged w, refl)) | Some link ↦ (tt, λ why e s. cc) ] in record {
      ranged = λ fits r. elim found as (λ o. IsRanged (cut_outcome w o).0) [ None ↦ r | Some link ↦ unlinked_ranged w link r ];
      fed = λ r here calm h a fine kept. (cut_fine w fine l).fed;
      rests = λ r here h a all. elim found as (λ o. InWorld RestsIf (cut_outcome w o).0) [ None ↦ weaker w all | Some link ↦ weaker (unlinked link w) (unlinked_all Still IsTimely still_steps (λ id. tt) w link all) ];
      keeps = λ rests. says.1;
      bound = λ r a rule. over w r l _ (cut_step w l).1 a rule (λ none. ap (λ o. (cut_outcome w o).1) none);
      entered = λ before r old. old;
      tells = λ r t. cut_tells w r t.agrees l;
      told = λ r fits t. (cut_answered w r t.agrees t.linked l, elim found as (λ o. Spared (cut_outcome w o).1) [ None ↦ refl | Some link ↦ refl ]);
      goes = λ r fits ranged calm begins a. told_goes (Verb.AtLink l LinkVerb.Cut) r (cut_step w l) (cut_goes stays w r l a);
    }
