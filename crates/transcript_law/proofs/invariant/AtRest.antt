-- no line leaves a vBucket more to commit
use Rattle.std.specs.Prelude.{◌≡◌, ◌∷◌, if◌then◌else◌}
use Rattle.transcript_law.proofs.Words.{Outcome, ℕ, List, [], subst, sym, ap, ◌∙◌, refl, inl, inr, ⊎_elim, Frame, Bool, true, false, not, Option, Some, None, is_some, Cause, Role, Act, Change, Plain, VbCall, VbReply, plain_step, after, after_job, Prog, Job, min}
use Rattle.transcript_law.proofs.Words.{States, row_at, end_closed, Told, PlainLink, LinkResult, link_number, consumer_node, up_at, AdminCall, AdminResult, own_link, cut_off, links_ended, called_at, admin_line, with_ended, turned_if, no_node, turned_after}
use Rattle.transcript_law.proofs.Words.{role_outcome, PlainNode, PlainWorld, with_node_at, done, refusal, first_cause, refused_or, node_outcome, on_node, with_states}
use Rattle.transcript_law.proofs.Words.{bytes_if, bytes_at, on_link, vb_in, is_active, is_follower, is_answerable, marker_fits, marked_vb, is_next, quiet_reply, refusal_reply, new_vb, Sound, Chronicle, take}
use Rattle.transcript_law.proofs.invariant.Agreement.{Agrees, AgreesAt, book_in}
use Rattle.transcript_law.proofs.invariant.CallsKept.{AllAt, AllIn, InWorld, put_all, ran, ran_job, put_node, on_made_all, on_node_all, unlinked_all, on_link_all, on_link_found, none_at, ended_all, armed_all, broken_all, unless_all, kept_or}
use Rattle.transcript_law.proofs.invariant.Ranged.{IsRanged, NodeRanged, NodeRangedIf, kept_ranged, posted_ranged, told_stays_ranged, unlinked_ranged, with_ended_ranged, with_node}
use Rattle.transcript_law.proofs.{disks.Reloaded.{reloaded, so}, invariant.Seats.{seat}, disks.Shelving.{loaded_at, loaded_of}}
use Rattle.transcript_law.proofs.invariant.TimelyCalls.{Makes, MakesJob, admin_tame, chain_tame, closed_makes, due_tame, fed_tame, flush_tame, peer_tame, posted_tame, pull_tame, start_tame, tick_tame}
use Rattle.dcp_consumer.specs.declared.handshake.Dialed.{Dialed}
use Rattle.disk_journals.specs.{Arms.{opens_all}, Books.{Book}}
use Rattle.durability.specs.Chains.{Links, Members, is_chain}
use Rattle.journal_points.specs.Points.{saved}
use Rattle.node_core.proofs.Conduct.{bytes_follow, others_stay}
use Rattle.node_core.specs.Admin.{admin_job, admin_refused}
use Rattle.node_core.specs.Clients.{PlainClient, client_fed, client_posted, client_pulled}
use Rattle.node_core.specs.Conduct.{FollowsAt, IsFollowing, KeepsLink, RollsAt}
use Rattle.node_core.specs.Dials.{dial_due, dial_bytes, untold}
use Rattle.node_core.specs.Flushing.{chain_changed, ticked}
use Rattle.node_core.specs.Loading.{are_short, loaded_by, start_job, starts_of}
use Rattle.node_core.specs.Peers.{PeerResult, peer_answered, peer_frames, peer_heard}
use Rattle.node_world.specs.{Arms.{fired_by, placed, under_arm}, Dues.{due_at, due_in, due_of, is_counted}, Links.{dial_of, frame_up, frames_up, moved_len, peer_of, untold_peer}, Turns.{posted_at, posted_in, role_called, turned}}
use Rattle.node_world.specs.Nodes.{flush_here, all_posted, awaiting, chain_line, chain_made, flush_line, hang_at, hung_if, is_active_one, posted_if, posted_to, pull_at, pull_if, tick_line, vb_made, with_kept}
use Rattle.node_world.specs.Power.{burnt_arm, loaded_node, not_opened, start_at, start_causes, start_if, start_one, start_step, started_by, starts_from, with_arm}
use Rattle.node_world.specs.World.{down_in, down_outcome}
use Rattle.node_world.specs.Worlds.{on_made}
use Rattle.node_world.specs.declared.arm.Arm.{Arm}
use Rattle.node_world.specs.declared.arm.Fired.{Fired}
use Rattle.node_world.specs.declared.arm.Fired.TheVariants as fired
use Rattle.node_world.specs.declared.script_node.TheConstants.{MAX_CLIENTS}
use Rattle.transcript_law.proofs.Words.{eq-eqb, length}
use Rattle.std.proofs.lemmas.Bool.{cases_eq}
use Rattle.vb_calls.specs.Following.{completed_act, receive_as, rolled_vb}
use Rattle.vb_calls.specs.Shelves.{Shelves}
use Rattle.vb_calls.specs.State.{pending_of}
use Rattle.vb_calls.specs.declared.calls.Resolved.{Resolved}
use Rattle.vb_calls.specs.declared.calls.VbAnswer.TheVariants as answer
use Rattle.vb_calls.specs.declared.calls.VbCall.TheVariants as call
use Rattle.vb_events.specs.declared.event.Cause.TheVariants as cause
use Rattle.vb_types.specs.declared.journal.FlushPart.{FlushPart}
use Rattle.transcript_law.specs.Chronicles.{after_calls, after_up}
use Rattle.vb_types.specs.declared.journal.Record.{Record}
use Rattle.vb_types.specs.declared.role.Role.TheVariants as role
use Rattle.vb_types.specs.declared.status.Status.TheVariants as status
use Rattle.vbucket.proofs.{Committing.{idle_rests, none_rests}, Resting.{stays_at_rest}, Soundness.{stays}}
use Rattle.vbucket.specs.{Laws.{IsTimely}, Settles.{IsSettled}}

-- no more may be committed at any
abbrev pub AreAtRest : PlainWorld → Type 0
AreAtRest w = (n v : ℕ) (vb : Plain) → vb_in (w.nodes n) v ≡ Some vb → IsSettled vb

-- sound, and nothing more may be committed there
abbrev pub Still : Plain → Type 0
Still vb = Sound vb × IsSettled vb

-- nothing may, where it is active
abbrev pub RestsIf : Plain → Type 0
RestsIf vb = is_active vb.role ≡ true → IsSettled vb

-- ---- a vBucket that follows, and one that is made

-- the calls of a follower, and the end of a stream
abbrev pub IsAside : VbCall → Type 0
IsAside (call.CloseStream id) = Unit {0}
IsAside other = IsFollowing other

pub aside : (d : Dialed) (m : ℕ) (made : VbCall) → d.takeover ≡ false → FollowsAt d m made → IsAside made
aside d m (call.CloseStream id) alone f = tt
aside d m other alone (own, inl f) = f
aside d m other alone (own, inr f) = let never : true ≡ false = sym f.0 ∙ alone in cc

-- one that follows is not active
follows_idle : (r : Role) → is_follower r ≡ true → is_active r ≡ true → ⊥
follows_idle role.Active f a = cc
follows_idle role.Replica f a = cc
follows_idle role.Pending f a = cc
follows_idle role.Dead f a = cc

module _ (vb : Plain) where
  -- it stays as it is, or follows as before
  moved : (b d : Bool) (made other : Plain × VbReply) (refused : VbReply) → is_follower vb.role ≡ b → made.0.role ≡ vb.role → other.0.role ≡ vb.role → RestsIf vb → RestsIf (if b then (if d then made else other) else (vb, refused)).0
  moved false d made other refused f same stays rest = rest
  moved true true made other refused f same stays rest = λ a. absurd (follows_idle vb.role f (sym (ap is_active same) ∙ a))
  moved true false made other refused f same stays rest = λ a. absurd (follows_idle vb.role f (sym (ap is_active stays) ∙ a))

  received : (a : Option Act) (c : Change) → (receive_as a vb c).0.role ≡ vb.role
  received None c = refl
  received (Some a) c = refl

pub aside_rests : (vb : Plain) (made : VbCall) → IsAside made → RestsIf vb → RestsIf (plain_step vb made).0
aside_rests vb (call.CloseStream id) k rest = rest
aside_rests vb (call.Adopt log) k rest =
    moved vb (is_follower vb.role) (is_answerable log) (record vb { log = log; first = true }, quiet_reply answer.Done) (vb, refusal_reply status.Einval) (refusal_reply status.NotMyVbucket) refl refl refl rest
aside_rests vb (call.Marker start end) k rest =
    moved vb (is_follower vb.role) (marker_fits vb.position vb.first start end) (marked_vb vb start end, quiet_reply (answer.Range (min start vb.position.at) end)) (vb, refusal_reply status.Erange) (refusal_reply status.NotMyVbucket) refl refl refl rest
aside_rests vb (call.Receive c) k rest =
    let a = completed_act (pending_of vb c.key) c.act in
    moved vb (is_follower vb.role) (is_next vb.position c.seq) (receive_as a vb c) (vb, refusal_reply status.Erange) (refusal_reply status.NotMyVbucket) refl (received vb a c) refl rest
aside_rests vb (call.RollTo at image cas) k rest =
    moved vb (is_follower vb.role) true (rolled_vb vb at image cas, quiet_reply (answer.Num at)) (vb, refusal_reply status.NotMyVbucket) (refusal_reply status.NotMyVbucket) refl refl refl rest
aside_rests vb call.Ask k rest = rest
aside_rests vb call.Due k rest = rest
aside_rests vb call.Stat k rest = rest
aside_rests vb other k rest = absurd k

-- what the vBucket that a link is to take over comes to in a `down` has no more to commit, where it is active then
abbrev pub OwnsSettled : PlainWorld → ℕ → ℕ → Type 0
OwnsSettled w l wanted = (link : PlainLink) (node : PlainNode) (vb : Plain) → row_at link_number l w.links ≡ Some link → w.nodes (consumer_node link) ≡ Some node → link.consumer.dialed.takeover ≡ true → (down_in wanted link node).0.vbs link.consumer.dialed.vb ≡ Some vb → RestsIf vb

pub down_rests : (w : PlainWorld) (l wanted : ℕ) → OwnsSettled w l wanted → InWorld RestsIf w → InWorld RestsIf (down_outcome w l (row_at link_number l w.links) (on_link w l consumer_node (down_in wanted))).0
down_rests w l wanted owned all = by (row_at link_number l w.links)
  where
    -- a link that follows alone has its vBucket follow; one for a takeover leaves the other vBuckets
    each : (link : PlainLink) (node : PlainNode) → row_at link_number l w.links ≡ Some link → w.nodes (consumer_node link) ≡ Some node → AllAt RestsIf node.vbs → (b : Bool) → link.consumer.dialed.takeover ≡ b → AllAt RestsIf (down_in wanted link node).0.vbs
    each link node found e there false alone =
        let d = link.consumer.dialed in let x = placed d.vb node in
        ran_job RestsIf IsAside aside_rests (λ id. tt) (FollowsAt d) (RollsAt d) (KeepsLink (untold (dial_of link))) (λ m made f. aside d m made alone f) (dial_bytes (take (moved_len wanted link.down) link.down) (dial_of link)) x.vbs x.shelves
        (bytes_follow (take (moved_len wanted link.down) link.down) (dial_of link)) there
    each link node found e there true takes = λ q vb is.
        let d = link.consumer.dialed in let x = placed d.vb node in let piece : List ℕ = take (moved_len wanted link.down) link.down in
        ⊎_elim
        (λ same. owned link node vb found e takes (subst (λ m. (down_in wanted link node).0.vbs m ≡ Some vb) same is))
        (λ other. there q vb (sym (others_stay piece (dial_of link) x.vbs x.shelves q other).0 ∙ is))
        (cases_eq q d.vb)

    came : InWorld RestsIf (on_link w l consumer_node (down_in wanted)).0
    came = on_link_found RestsIf IsAside aside_rests (λ id. tt) w l consumer_node (down_in wanted) all (λ link node found e there. each link node found e there link.consumer.dialed.takeover refl)

    by : (o : Option PlainLink) → InWorld RestsIf (down_outcome w l o (on_link w l consumer_node (down_in wanted))).0
    by None = came
    by (Some link) = broken_all RestsIf IsAside aside_rests (λ id. tt) (consumer_node link) l w (on_link w l consumer_node (down_in wanted)) came

-- one that is made has nothing to commit
pub made_rests : (w : PlainWorld) (n v : ℕ) (f : PlainNode → PlainNode × Told) (said : Role) (uuid : ℕ) (why : PlainNode → Option Cause) → ((node : PlainNode) → f node ≡ refused_or (why node) node (vb_made n v said uuid node)) → InWorld RestsIf w
    → InWorld RestsIf (with_arm n w (on_node w n f)).0
made_rests w n v f said uuid why is all = armed_all RestsIf IsAside aside_rests (λ id. tt) n w (on_node w n f) (on_node_all RestsIf IsAside aside_rests (λ id. tt) w n f all (λ node e there.
    subst (λ (x : PlainNode × Told). AllAt RestsIf x.0.vbs) (sym (is node)) (kept_or RestsIf IsAside aside_rests (λ id. tt) node (vb_made n v said uuid node) (why node) there
    (put_all RestsIf IsAside aside_rests (λ id. tt) node.vbs v (new_vb n said uuid) there (λ a. none_rests (new_vb n said uuid) refl)))))

-- ---- all other lines

pub still_steps : (vb : Plain) (made : VbCall) → IsTimely made → Still vb → Still (plain_step vb made).0
still_steps vb made timely x = (stays vb made x.0 timely, stays_at_rest vb made x.0 timely x.1)

abbrev pub still_put : (w : PlainWorld) (n : ℕ) (node : PlainNode) → InWorld Still w → AllAt Still node.vbs → InWorld Still (with_node_at w n node)
still_put = put_node Still IsTimely still_steps (λ id. tt)

abbrev pub still_on : (w : PlainWorld) (n : ℕ) (f : PlainNode → PlainNode × Told) → InWorld Still w → ((node : PlainNode) → w.nodes n ≡ Some node → AllAt Still node.vbs → AllAt Still (f node).0.vbs) → InWorld Still (on_node w n f).0
still_on = on_node_all Still IsTimely still_steps (λ id. tt)

-- a line of a node, and one of an open link
pub node_still : (w : PlainWorld) → IsRanged w → InWorld Still w → (n : ℕ) (f : PlainNode → PlainNode × Told) → ((node : PlainNode) → NodeRanged n node → AllAt Still node.vbs → AllAt Still (f node).0.vbs) → InWorld Still (on_node w n f).0
node_still w ranged all n f kept = still_on w n f all (λ node e there. kept node (subst (NodeRangedIf n) e (ranged n)) there)

pub link_still : (w : PlainWorld) → IsRanged w → InWorld Still w → (l : ℕ) (end : PlainLink → ℕ) (f : PlainLink → PlainNode → PlainNode × LinkResult) → ((link : PlainLink) (node : PlainNode) → NodeRanged (end link) node → AllAt Still node.vbs → AllAt Still (f link node).0.vbs) → InWorld Still (on_link w l end f).0
link_still w ranged all l end f kept = on_link_all Still IsTimely still_steps (λ id. tt) w l end f all (λ link node e there. kept link node (subst (NodeRangedIf (end link)) e (ranged (end link))) there)

pub still_ran : {A : Type 0} (prog : Prog A) (states : States) → Makes IsTimely prog → AllAt Still states → AllAt Still (after prog states).0
still_ran prog states makes all = ran Still IsTimely still_steps (λ id. tt) prog states makes all

pub still_job : {A : Type 0} (one : Job A) (states : States) (shelves : Shelves) → MakesJob IsTimely one → AllAt Still states → AllAt Still (after_job one states shelves).0.0
still_job one states shelves makes all = ran_job Still IsTimely still_steps (λ id. tt) (λ v made. IsTimely made) (λ v ask. Unit {0}) (λ a. Unit {0}) (λ v made k. k) one states shelves makes all

-- clients
pub bytes_still : (n c : ℕ) (bytes : List ℕ) (node : PlainNode) → NodeRanged n node → AllAt Still node.vbs → AllAt Still (bytes_at c bytes node).0.vbs
bytes_still n c bytes node ranged all = by (node.clients c)
  where
    by : (o : Option PlainClient) → AllAt Still (bytes_if c bytes node o).0.vbs
    by None = all
    by (Some client) = still_ran (client_fed node.clock bytes client) node.vbs (fed_tame node.clock ranged.clock bytes client) all

pub pull_still : (n c frames : ℕ) (node : PlainNode) → NodeRanged n node → AllAt Still node.vbs → AllAt Still (pull_at c frames node).0.vbs
pull_still n c frames node ranged all = by (node.clients c)
  where
    by : (o : Option PlainClient) → AllAt Still (pull_if c frames node o).0.vbs
    by None = all
    by (Some client) = still_job (client_pulled frames client) node.vbs node.shelves (pull_tame frames client) all

pub hang_still : (n c : ℕ) (node : PlainNode) → NodeRanged n node → AllAt Still node.vbs → AllAt Still (hang_at c node).0.vbs
hang_still n c node ranged all = by (node.clients c)
  where
    by : (o : Option PlainClient) → AllAt Still (hung_if c node o).0.vbs
    by None = all
    by (Some client) = still_ran (end_closed client.producer) node.vbs (closed_makes IsTimely (λ id. tt) client.producer) all

posted_still : (n : ℕ) (r : Resolved) (node : PlainNode) (o : Option ℕ) → NodeRanged n node → AllAt Still node.vbs → AllAt Still (posted_to r node o).0.vbs
posted_still n r node None ranged all = all
posted_still n r node (Some c) ranged all = by (node.clients c)
  where
    by : (o : Option PlainClient) → AllAt Still (posted_if c r node o).0.vbs
    by None = all
    by (Some client) = still_ran (client_posted node.clock r client) node.vbs (posted_tame node.clock ranged.clock r client) all

posts_still : (n : ℕ) (rs : List Resolved) (node : PlainNode) → NodeRanged n node → AllAt Still node.vbs → AllAt Still (all_posted rs node).0.vbs
posts_still n [] node ranged all = all
posts_still n (r ∷ rs) node ranged all =
    let o : Option ℕ = awaiting node.clients r.waiter MAX_CLIENTS in posts_still n rs (posted_to r node o).0 (posted_ranged n r node o ranged) (posted_still n r node o ranged all)

-- those of a call that left the clock and the connections
told_still : (n : ℕ) (rs : List Resolved) (node node' : PlainNode) → node'.clock ≡ node.clock → ((c : ℕ) → node'.clients c ≡ node.clients c) → node'.off ≡ node.off → NodeRanged n node → AllAt Still node'.vbs → AllAt Still (all_posted rs node').0.vbs
told_still n rs node node' clock clients off ranged all = posts_still n rs node' (kept_ranged n node node' clock clients off ranged) all

-- a node's own lines
pub flush_still : (n v : ℕ) (p : FlushPart) (node : PlainNode) → NodeRanged n node → AllAt Still node.vbs → AllAt Still (flush_line n v p node).0.vbs
flush_still n v p node ranged all =
    let x = after_job (flush_here n v p node) node.vbs node.shelves in
    told_still n x.1.resolved node (with_kept node x.0) refl (λ c. refl) refl ranged (still_job (flush_here n v p node) node.vbs node.shelves (flush_tame n v p (is_some (node.vbs v))) all)

pub chain_still : (n v : ℕ) (others : Members) (node : PlainNode) → NodeRanged n node → AllAt Still node.vbs → AllAt Still (chain_line n v others node).0.vbs
chain_still n v others node ranged all = by (not (is_some (node.vbs v))) (not (is_active_one (node.vbs v))) (is_chain n others) refl
  where
    made : is_chain n others ≡ true → AllAt Still (chain_made n v others node).0.vbs
    made e =
        let links : Links = record { active = n; others = others } in
        let x = after (chain_changed n v links) node.vbs in
        told_still n x.1.resolved node (with_states node x.0) refl (λ c. refl) refl ranged (still_ran (chain_changed n v links) node.vbs (chain_tame n v links e) all)

    by : (a b c : Bool) → is_chain n others ≡ c → AllAt Still (refused_or (first_cause ((a, cause.UnknownVb) ∷ (b, cause.WrongRole) ∷ (not c, cause.ChainBad) ∷ [])) node (chain_made n v others node)).0.vbs
    by true b c e = all
    by false true c e = all
    by false false false e = all
    by false false true e = made e

pub tick_still : (n v : ℕ) (node : PlainNode) → NodeRanged n node → AllAt Still node.vbs → AllAt Still (tick_line n v node).0.vbs
tick_still n v node ranged all =
    let x = after (ticked n v node.clock) node.vbs in told_still n x.1.resolved node (with_states node x.0) refl (λ c. refl) refl ranged (still_ran (ticked n v node.clock) node.vbs (tick_tame n v node.clock) all)

pub admin_still : (n v : ℕ) (asked : AdminCall) (node : PlainNode) → AllAt Still node.vbs → AllAt Still (admin_line n v asked node).0.vbs
admin_still n v asked node all = still_job (admin_job n v asked) node.vbs node.shelves (admin_tame n v asked) all

-- a producer's
frames_still : (n : ℕ) (frames : List Frame) (came : PlainNode × PeerResult) → NodeRanged n came.0 → AllAt Still came.0.vbs → AllAt Still (frames_up frames came).0.vbs
frames_still n [] came ranged all = all
frames_still n (f ∷ frames) came ranged all =
    let x = after (peer_answered f came.1.peer) came.0.vbs in let states : PlainNode = with_states came.0 x.0 in
    frames_still n frames (frame_up f came) (told_stays_ranged n x.1.resolved came.0 states refl (λ c. refl) refl ranged) (told_still n x.1.resolved came.0 states refl (λ c. refl) refl ranged (still_ran (peer_answered f came.1.peer) came.0.vbs (peer_tame f came.1.peer) all))

pub up_still : (n wanted : ℕ) (link : PlainLink) (node : PlainNode) → NodeRanged n node → AllAt Still node.vbs → AllAt Still (up_at wanted link node).0.vbs
up_still n wanted link node ranged all =
    let piece : List ℕ = take (moved_len wanted link.up) link.up in
    frames_still n (peer_frames piece (peer_of link)) (node, untold_peer (peer_heard piece (peer_of link))) ranged all

-- ---- changes of role

-- outcomes that are posted at the node n
pub posts_in_still : (n : ℕ) (rs : List Resolved) (o : Outcome) → IsRanged o.0 → InWorld Still o.0 → InWorld Still (posted_in n rs o).0
posts_in_still n rs o ranged all = by (o.0.nodes n) (ranged n) (all n)
  where
    by : (k : Option PlainNode) → NodeRangedIf n k → AllIn Still k → InWorld Still (posted_at n rs o.0 o.1 k).0
    by None r there = all
    by (Some node) r there = still_put o.0 n (all_posted rs node).0 all (posts_still n rs node r there)

-- the world without the vBucket's own link, where it has one
pub cut_still : (o : Option PlainLink) (w : PlainWorld) → IsRanged w → InWorld Still w → IsRanged (cut_off o w).0 × InWorld Still (cut_off o w).0
cut_still None w ranged all = (ranged, all)
cut_still (Some link) w ranged all = (unlinked_ranged w link ranged, unlinked_all Still IsTimely still_steps (λ id. tt) w link all)

-- the world after a call that changed a role or did not
turned_still : (n v : ℕ) (before w : PlainWorld) (told : AdminResult) (ended : Option (List ℕ)) → InWorld Still before → IsRanged w → InWorld Still w → InWorld Still (turned_if n v before ended (w, told)).0
turned_still n v before w told None all ranged now = all
turned_still n v before w told (Some ids) all ranged now =
    let cut = cut_still (own_link n v (links_ended n v ids w.links)) (with_ended n v ids w) (with_ended_ranged n v ids w ranged) (ended_all Still IsTimely still_steps (λ id. tt) w n v ids now) in posts_in_still n told.resolved (turned n v told (with_ended n v ids w)) cut.0 cut.1

pub role_still : (w : PlainWorld) (n v : ℕ) (asked : AdminCall) → IsRanged w → InWorld Still w → InWorld Still (role_outcome n v asked w).0
role_still w n v asked ranged all = by (w.nodes n) (ranged n) (all n)
  where
    kept : (node : PlainNode) → NodeRanged n node → NodeRanged n (role_called n v asked node).0
    kept node r = elim (is_some node.off) as (λ b. let x : PlainNode × AdminResult = if b then (node, admin_refused cause.NodeDown) else under_arm v (called_at n v asked) node in NodeRanged n x.0) [ true ↦ r | false ↦ kept_ranged n node (under_arm v (called_at n v asked) node).0 refl (λ c. refl) refl r ]

    still : (node : PlainNode) → AllAt Still node.vbs → AllAt Still (role_called n v asked node).0.vbs
    still node there = elim (is_some node.off) as (λ b. let x : PlainNode × AdminResult = if b then (node, admin_refused cause.NodeDown) else under_arm v (called_at n v asked) node in AllAt Still x.0.vbs)
        [ true ↦ there | false ↦ (let x = placed v node in still_job (admin_job n v asked) x.vbs x.shelves (admin_tame n v asked) there) ]

    by : (o : Option PlainNode) → NodeRangedIf n o → AllIn Still o → InWorld Still (turned_after n v w (node_outcome w n no_node o (role_called n v asked))).0
    by None r there = all
    by (Some node) r there =
        let x = role_called n v asked node in
        turned_still n v w (with_node_at w n x.0) x.1 x.1.ended all (with_node w n x.0 ranged (kept node r)) (still_put w n x.0 all (still node there))

-- ---- a node that starts

starts_still : (n : ℕ) (starts : List (ℕ × ℕ)) (node : PlainNode) (told : Told) → AllAt Still node.vbs → AllAt Still (starts_from n starts (node, told)).0.vbs
starts_still n [] node told all = all
starts_still n (start ∷ starts) node told all = by (λ t. starts_still n starts (start_one n start node).0 t one) (fired_by node.arm.fuse (start_one n start node).0.arm.fuse)
  where
    one : AllAt Still (start_one n start node).0.vbs
    one = let x = placed start.0 node in still_job (start_job n start.0 start.1) x.vbs x.shelves (start_tame n start.0 start.1) all

    by : ((t : Told) → AllAt Still (starts_from n starts ((start_one n start node).0, t)).0.vbs) → (f : Fired) → AllAt Still (started_by n node.arm f (start_one n start node).1 told (start_one n start node).0 (starts_from n starts)).0.vbs
    by rest fired.No = rest _
    by rest fired.Failed = rest _
    by rest fired.Stopped = none_at Still IsTimely still_steps (λ id. tt)

-- one that is loaded has nothing to commit
loaded_rests : (n : ℕ) (o : Option (List Record)) (vb : Plain) → loaded_of n o ≡ Some vb → IsSettled vb
loaded_rests n None vb e = absurd (cc e)
loaded_rests n (Some []) vb e = absurd (cc e)
loaded_rests n (Some (last ∷ older)) vb e = let same : loaded_by n (saved (last ∷ older)) ≡ vb = cc in subst IsSettled same (none_rests (loaded_by n (saved (last ∷ older))) refl)

module _ (w : PlainWorld) (r : Chronicle) (n : ℕ) (uuids : List ℕ) (agrees : Agrees w r) (all : InWorld Still w) where
  module _ (node : PlainNode) (books : List Book) (known : w.nodes n ≡ Some node) (there : AllAt Still node.vbs) (down : node.off ≡ Some books) where
    abbrev arm : Arm
    arm = burnt_arm (length books) node.arm

    abbrev loaded : PlainNode
    loaded = loaded_node n books arm

    loaded_still : opens_all node.arm.fuse (length books) ≡ true → AllAt Still loaded.vbs
    loaded_still opens v vb e =
        let now = reloaded w r agrees.0 n node books agrees.1 known down opens in
        let here : vb_in ((with_node_at w n loaded).nodes n) v ≡ Some vb = ap (λ b. vb_in (if b then Some loaded else w.nodes n) v) (eq-eqb n n refl) ∙ e in (
          (subst (AgreesAt (after_up n (after_calls (length books) n r)) n v (agrees.0.nodes (seat n v))) here (now.vbs n v)).sound,
          loaded_rests n (book_in books v) vb (sym (loaded_at n books (so w r agrees.0 n node books agrees.1 known down) v) ∙ e),
        )

    by : (opens : Bool) → opens_all node.arm.fuse (length books) ≡ opens → (short : Bool)
        → AllAt Still (if opens then (if short then (record node { arm = arm }, refusal cause.IdsShort) else starts_from n (starts_of books uuids) (loaded, done [])) else not_opened n node).0.vbs
    by true e true = there
    by true e false = starts_still n (starts_of books uuids) loaded (done []) (loaded_still e)
    by false e short = there

  at_start : (node : PlainNode) → w.nodes n ≡ Some node → AllAt Still node.vbs → (o : Option (List Book)) → node.off ≡ o → AllAt Still (start_if n uuids node o).0.vbs
  at_start node known there None e = there
  at_start node known there (Some books) e = by node books known there e (opens_all node.arm.fuse (length books)) refl (are_short books uuids)

  pub start_still : InWorld Still (start_step w n uuids).0
  start_still = unless_all Still IsTimely still_steps (λ id. tt) w (on_made w n (start_at n uuids)) (first_cause (start_causes w n uuids)) all (on_made_all Still IsTimely still_steps (λ id. tt) w n (start_at n uuids) all (λ node known there. at_start node known there node.off refl))

-- what is due behind a batch
pub due_still : (n v : ℕ) (o : Outcome) → InWorld Still o.0 → InWorld Still (due_in n v o).0
due_still n v o all = by (is_counted o.1.answer)
  where
    at : (link : PlainLink) (k : Option PlainNode) → AllIn Still k → InWorld Still (due_at n link o.0 o.1 k).0
    at link None there = all
    at link (Some node) there = let x = after (dial_due (dial_of link)) node.vbs in still_put o.0 n (with_states node x.0) all (still_ran (dial_due (dial_of link)) node.vbs (due_tame (dial_of link)) there)

    of : (l : Option PlainLink) → InWorld Still (due_of n o.0 o.1 l).0
    of None = all
    of (Some link) = at link (o.0.nodes n) (all n)

    by : (b : Bool) → InWorld Still (let x : Outcome = if b then due_of n o.0 o.1 (own_link n v o.0.links) else o in x.0)
    by true = of (own_link n v o.0.links)
    by false = all

-- ---- each line of a script

pub weaker : (w : PlainWorld) → InWorld Still w → InWorld RestsIf w
weaker w all n = by (w.nodes n) (all n)
  where
    by : (o : Option PlainNode) → AllIn Still o → AllIn RestsIf o
    by None there = tt
    by (Some node) there = λ v vb e a. (there v vb e).1

pub either_node : (b : Bool) (x y : PlainNode × Told) → AllAt Still x.0.vbs → AllAt Still y.0.vbs → AllAt Still (if b then x else y).0.vbs
either_node true x y first second = first
either_node false x y first second = second

-- what agrees is sound
found : (o : Option PlainNode) (v : ℕ) (vb : Plain) → AllIn RestsIf o → vb_in o v ≡ Some vb → RestsIf vb
found None v vb all e = absurd (cc e)
found (Some node) v vb all e = all v vb e

sound_of : (w : PlainWorld) (r : Chronicle) → Agrees w r → (n v : ℕ) (vb : Plain) → vb_in (w.nodes n) v ≡ Some vb → Sound vb
sound_of w r (c, a) n v vb there = (subst (AgreesAt r n v (c.nodes (seat n v))) there (a.vbs n v)).sound

pub still_world : (w : PlainWorld) (r : Chronicle) → Agrees w r → AreAtRest w → InWorld Still w
still_world w r a rest n = by (w.nodes n) refl
  where
    by : (o : Option PlainNode) → w.nodes n ≡ o → AllIn Still o
    by None e = tt
    by (Some node) e = λ v vb there. let here : vb_in (w.nodes n) v ≡ Some vb = ap (λ o. vb_in o v) e ∙ there in (sound_of w r a n v vb here, rest n v vb here)

-- after a line all is as at rest as before it, where it is so at each vBucket that is active
pub line_rests : (w : PlainWorld) (r : Chronicle) (came : Outcome) → (InWorld Still w → InWorld RestsIf came.0) → Agrees w r → AreAtRest w → (w' : PlainWorld) (r' : Chronicle) → w'.nodes ≡ came.0.nodes → Agrees w' r' → AreAtRest w'
line_rests w r came steps agrees rest w' r' same now n v vb there = by (is_active vb.role) refl
  where
    rests : RestsIf vb
    rests = found (came.0.nodes n) v vb (steps (still_world w r agrees rest) n) (sym (ap (λ (f : ℕ → Option PlainNode). vb_in (f n) v) same) ∙ there)

    by : (b : Bool) → is_active vb.role ≡ b → IsSettled vb
    by true e = rests e
    by false e = idle_rests vb (sound_of w' r' now n v vb there) e

-- before the first line there is none
pub start_rests : (w : PlainWorld) → ((n : ℕ) → w.nodes n ≡ None) → AreAtRest w
start_rests w none n v vb there = let z : None ≡ Some vb = sym (ap (λ o. vb_in o v) (none n)) ∙ there in absurd (cc z)
