-- outcomes that are posted to clients behind what else is told of a line
use Rattle.std.specs.Prelude.{◌≡◌, ◌++◌, if◌then◌else◌}
use Rattle.transcript_law.proofs.Words.{ℕ, List, refl, ap, sym, ◌∙◌, subst, Option, Some, None, is_some, not, eq-eqb, Answer, Cause, Change, Chronicle, Event, StaysSound, after_change, after_lines, flat_map, branch_of_line, with_branches, LawfulFrom, Outcome, PlainNode, PlainWorld, with_node_at}
use Rattle.transcript_law.proofs.{answers.{Claims.{ClaimAt, claim_read}, Committed.{AllHowTold, all_claimed, all_read}}, invariant.Agreement.{Agrees, GoesOn}, disks.ArmedLines.{ArmedCame}, lines.Changes.{Reads, calls_read, disk_reads, reads_same}, lines.ClientLines.{AreOfClients, clients_branched, clients_quiet, clients_read, read_beside}, disks.Firing.{same_told}, lines.Lines.{AreQuiet, after_more, lawful_more, quiet_more}}
use Rattle.transcript_law.proofs.{links.Posting.{SameBeside, posts_go, posts_keep, posts_of_clients, put_agrees}, invariant.Ranged.{IsRanged, NodeRanged, NodeRangedIf}, verbs.Settling.{Steady}}
use Rattle.node_core.specs.Flushing.{FlushResult}
use Rattle.node_world.specs.{Arms.{fired_by}, Nodes.{all_posted, with_posts}, Turns.{posted_at, posted_in}, Worlds.{arm_in, is_up}}
use Rattle.node_world.specs.declared.{arm.Fired.{Fired}}
use Rattle.node_world.specs.declared.arm.Fired.TheVariants as fired
use Rattle.node_core.specs.Clients.{PlainClient}
use Rattle.transcript_law.specs.{LawfulAnswers.{AllDurable}, LinesTold.{after_client_line}, StreamsTold.{ClientsKnown}}
use Rattle.transcript_law.specs.Chronicles.{after_noted, broken_by, calls_of_append, state_of, with_record}
use Rattle.vb_calls.specs.declared.calls.Resolved.{Resolved}
use Rattle.vb_types.specs.declared.role.Role.{Role}
use Rattle.transcript_law.proofs.invariant.Owing.{later_same}

-- what a line tells beside its lines: changes, and lines that tell of clients alone, read the same before it and behind it
pub record IsBeside (told : Chronicle → Chronicle) : Type 0 where
  pub reads : (r : Chronicle) → Reads r (told r)
  pub past : (r : Chronicle) (n v uuid : ℕ) (change : Change) → told (after_change r n v uuid change) ≡ after_change (told r) n v uuid change
  pub client : (r : Chronicle) (line : Event) → told (after_client_line r line) ≡ after_client_line (told r) line

-- a line that tells nothing beside them
pub nothing_beside : IsBeside (λ r. r)
nothing_beside = record { reads = λ r. reads_same r; past = λ r n v uuid change. refl; client = λ r line. refl }

-- a line that gave a vBucket a role, and did not stop its node yet
pub noted_beside : (n v : ℕ) (role : Role) (said : Answer) → (said ≡ Answer.No Cause.Stopped → ⊥) → IsBeside (λ r. after_noted r n v role said)
noted_beside n v role (Answer.No Cause.Stopped) runs = absurd (runs refl)
noted_beside n v role (Answer.No Cause.Closed) runs = record { reads = λ r. disk_reads r n v (r.disk_at n v) refl; past = λ r m q uuid change. refl; client = λ r line. refl }
noted_beside n v role (Answer.No Cause.Disk) runs = record { reads = λ r. calls_read calls_of_append n (disk_reads r n v (broken_by (r.arm_at n).fuse (Some (state_of r n v role)) (r.disk_at n v)) refl); past = λ r m q uuid change. refl; client = λ r line. refl }
noted_beside n v role Answer.Ok runs = record { reads = λ r. calls_read calls_of_append n (disk_reads r n v (with_record (state_of r n v role) (r.disk_at n v)) refl); past = λ r m q uuid change. refl; client = λ r line. refl }
noted_beside n v role other runs = nothing_beside

-- a line that appends a record at the node n, under the arm that it has in the world w: its lines are lawful, none shows a vBucket, and it has come to what they tell
pub record NotingGoes (n : ℕ) (told : Answer → Chronicle → Chronicle) (w : PlainWorld) (r : Chronicle) (o : Outcome) : Type 0 where
  pub lawful : LawfulFrom r o.1.events
  pub quiet : AreQuiet o.1.events
  pub came : ArmedCame n told (fired_by (arm_in (w.nodes n)).fuse (arm_in (o.0.nodes n)).fuse) (after_lines r o.1.events) (with_branches o.1.events o.0) o.1.answer

-- what is claimed of outcomes is so where as much is read
paid_beside : (q r : Chronicle) → Reads q r → (n : ℕ) (clients : ℕ → Option PlainClient) (rs : List Resolved) → AllHowTold n q (ClaimAt q n clients) rs → AllHowTold n r (ClaimAt r n clients) rs
paid_beside q r reads n clients rs paid =
    all_claimed n r (ClaimAt q n clients) (ClaimAt r n clients) rs
    (claim_read q r n clients (later_same q r reads.last reads.made) (λ c. ap (λ (t : ClientsKnown). (t n c).asking) reads.clients))
    (all_read n q r (ClaimAt q n clients) rs reads.made reads.role paid)

module _ (stays : StaysSound) (steady : Steady) where
  -- outcomes behind what a line of the node n told: all goes on
  pub posts_behind : (w : PlainWorld) (r : Chronicle) (n : ℕ) (node : PlainNode) (told : FlushResult) (beside : Chronicle → Chronicle) → IsBeside beside → NodeRanged n node → AllHowTold n (after_lines r told.events) (ClaimAt (after_lines r told.events) n node.clients) told.resolved → AllDurable (after_lines r told.events).made → AreQuiet told.events
      → GoesOn r beside (with_node_at w n node, record { events = told.events; answer = told.answer })
      → GoesOn r beside (with_node_at w n (with_posts told node).0, (with_posts told node).1)
  posts_behind w r n node told beside b ranged paid calm quiet g =
      let r1 : Chronicle = after_lines r told.events in let lines : List Event = (all_posted told.resolved node).1 in let clients : AreOfClients lines = posts_of_clients n told.resolved node ranged.own in
      let p = posts_go stays steady w (beside r1) n node told.resolved ranged (paid_beside r1 (beside r1) (b.reads r1) n node.clients told.resolved paid) (subst AllDurable (sym (b.reads r1).made) calm) g.1 in (
        lawful_more r told.events lines quiet g.0 (clients_read r1 (beside r1) lines clients (b.reads r1) p.0),
        subst (Agrees (with_node_at w n (all_posted told.resolved node).0)) (sym (ap beside (after_more r told.events lines) ∙ read_beside beside b.past b.client r1 lines clients)) p.1,
      )

  -- and so it does where an arm may have fired, which is asked later

  module _ (n : ℕ) (told : Answer → Chronicle → Chronicle) (before : PlainWorld) (r : Chronicle) (rs : List Resolved) where
    -- what agrees then in one world, and what is told there, agrees in another, with what is told there
    came_on : (x : Fired) (q q' : Chronicle) (w w' : PlainWorld) (said : Answer) → is_up (w'.nodes n) ≡ is_up (w.nodes n) → (Agrees w (told said q) → Agrees w' (told said q')) → ArmedCame n told x q w said → ArmedCame n told x q' w' said
    came_on fired.No q q' w w' said up go a = go a
    came_on fired.Failed q q' w w' said up go a = (a.0, go a.1)
    came_on fired.Stopped q q' w w' said up go a = (a.0, up ∙ a.1, go a.2)

    -- what the lines that are told before them tell, or what they do
    came_lawful : (x : Fired) (q : Chronicle) (w : PlainWorld) (said : Answer) → ArmedCame n told x q w said → Agrees w (told said q)
    came_lawful fired.No q w said a = a
    came_lawful fired.Failed q w said a = a.1
    came_lawful fired.Stopped q w said a = a.2

    module _ (o : Outcome) (so : NotingGoes n told before r o) (b : IsBeside (told o.1.answer)) (ranged : IsRanged o.0) (paid : (node : PlainNode) → o.0.nodes n ≡ Some node → AllHowTold n (after_lines r o.1.events) (ClaimAt (after_lines r o.1.events) n node.clients) rs) (calm : AllDurable (after_lines r o.1.events).made) where
      abbrev r1 : Chronicle
      r1 = after_lines r o.1.events

      posts_at : (node : PlainNode) → o.0.nodes n ≡ Some node → NotingGoes n told before r (posted_at n rs o.0 o.1 (Some node))
      posts_at node at =
          let here : NodeRanged n node = subst (NodeRangedIf n) at (ranged n) in
          let node' : PlainNode = (all_posted rs node).0 in let lines : List Event = (all_posted rs node).1 in let clients : AreOfClients lines = posts_of_clients n rs node here.own in let kept : SameBeside node node' = posts_keep rs node in
          let w1 : PlainWorld = with_branches o.1.events o.0 in let w2 : PlainWorld = with_node_at o.0 n node' in
          let go = posts_go stays steady w1 (told o.1.answer r1) n node rs here (paid_beside r1 (told o.1.answer r1) (b.reads r1) n node.clients rs (paid node at)) (subst AllDurable (sym (b.reads r1).made) calm) in
          let arms : fired_by (arm_in (before.nodes n)).fuse (arm_in (w2.nodes n)).fuse ≡ fired_by (arm_in (before.nodes n)).fuse (arm_in (o.0.nodes n)).fuse =
          (λ i. fired_by (arm_in (before.nodes n)).fuse (arm_in (if eq-eqb n n refl i then Some node' else o.0.nodes n)).fuse) ∙ (λ i. fired_by (arm_in (before.nodes n)).fuse (kept.arm i).fuse)
          ∙ (λ i. fired_by (arm_in (before.nodes n)).fuse (arm_in (sym at i)).fuse) in
          let up : is_up (w2.nodes n) ≡ is_up (w1.nodes n) = (λ i. is_up (if eq-eqb n n refl i then Some node' else o.0.nodes n)) ∙ ap (λ k. not (is_some k)) kept.off ∙ ap is_up (sym at) in
          let same : flat_map branch_of_line (o.1.events ++ lines) ≡ flat_map branch_of_line o.1.events = same_told o.1.events lines (clients_branched lines clients) in
          let read : told o.1.answer (after_lines r (o.1.events ++ lines)) ≡ after_lines (told o.1.answer r1) lines = ap (told o.1.answer) (after_more r o.1.events lines) ∙ read_beside (told o.1.answer) b.past b.client r1 lines clients in
          record {
            lawful = lawful_more r o.1.events lines so.quiet so.lawful (clients_read r1 (told o.1.answer r1) lines clients (b.reads r1) (go (put_agrees w1 (told o.1.answer r1) n node at (came_lawful (fired_by (arm_in (before.nodes n)).fuse (arm_in (o.0.nodes n)).fuse) r1 w1 o.1.answer so.came))).0);
            quiet = quiet_more o.1.events lines so.quiet (clients_quiet lines clients);
            came = subst (λ x. ArmedCame n told x (after_lines r (o.1.events ++ lines)) (with_branches (o.1.events ++ lines) w2) o.1.answer) (sym arms)
                (came_on (fired_by (arm_in (before.nodes n)).fuse (arm_in (o.0.nodes n)).fuse) r1 (after_lines r (o.1.events ++ lines)) w1 (with_branches (o.1.events ++ lines) w2) o.1.answer up
                (λ a. subst (λ us. Agrees (record w2 { uuids = o.0.uuids ++ us }) (told o.1.answer (after_lines r (o.1.events ++ lines)))) (sym same)
                (subst (Agrees (with_node_at w1 n node')) (sym read) (go (put_agrees w1 (told o.1.answer r1) n node at a)).1)) so.came);
          }

      pub posts_come : NotingGoes n told before r (posted_in n rs o)
      posts_come = by (o.0.nodes n) refl
        where
          by : (x : Option PlainNode) → o.0.nodes n ≡ x → NotingGoes n told before r (posted_at n rs o.0 o.1 x)
          by None e = so
          by (Some node) e = posts_at node e
