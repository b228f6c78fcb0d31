-- lines of a node and of a link that no prepare hears of: who waited waits on
use Rattle.std.specs.Prelude.{◌≡◌, ◌<◌, ◌∷◌, ◌==◌, if◌then◌else◌}
use Rattle.transcript_law.proofs.Words.{ℕ, Bool, true, false, List, [], refl, ap, sym, ◌∙◌, ⊎_elim, eq-eqb, ne_eqb, length, Option, Some, None, is_some, Cause, Outcome, Plain, PlainLink, PlainNode, Role, Told, AdminCall}
use Rattle.transcript_law.proofs.Words.{States, admin_line, after, begun, frames_put, subst, client_at, dial_of, done, end_closed, first_cause, hang_at, new_vb, own_link, peer_of, pump_at, peer_pulled, refusal, refused_or, with_client, with_states}
use Rattle.client_session.specs.declared.session.Awaited.{Awaited}
use Rattle.disk_journals.specs.{Arms.{opens_all}, Books.{Book}}
use Rattle.node_core.specs.Admin.{admin_job}
use Rattle.node_core.specs.Clients.{ClientPulled, PlainClient, client_pull, client_ended, client_pulled, new_client}
use Rattle.node_core.specs.Dials.{dial_due}
use Rattle.node_core.specs.Loading.{are_short, starts_of}
use Rattle.node_world.specs.{Arms.{fired_by}, Dues.{due_at, due_in, due_of, is_counted}, Nodes.{hung_if, pull_at, pull_if, vb_made, with_clients_ended}, Power.{burnt_arm, loaded_node, not_opened, start_at, start_if, start_one, started_by, starts_from}}
use Rattle.node_world.specs.declared.arm.Fired.{Fired}
use Rattle.node_world.specs.declared.arm.Fired.TheVariants as fired
use Rattle.node_world.specs.declared.script_node.TheConstants.{MAX_CLIENTS}
use Rattle.std.proofs.lemmas.Bool.{cases_eq}
use Rattle.std.specs.Option.{option_map}
use Rattle.transcript_law.proofs.awaiting.{Jobs.{IsIdle, job_idle, ran_idle}, States.{Kept}, Stays.{NoneIn, NoneWaits, Stays, none_on, put_none, stays_kept, stays_none, stays_same}}
use Rattle.transcript_law.proofs.invariant.{TimelyCalls.{MakesJob, closed_makes, due_makes, pull_makes, pulled_makes}}
use Rattle.transcript_law.proofs.lines.Pulling.{Takes}
use Rattle.transcript_law.specs.Waits.{IsOutstandingAt, NoneWaitsInVain}
use Rattle.vb_calls.specs.declared.calls.VbAnswer.TheVariants as answer
use Rattle.vb_events.specs.declared.event.Cause.TheVariants as cause
use Rattle.vb_calls.specs.Jobs.{after_job, Ended}
use Rattle.vb_calls.proofs.JobReadings.{after_job_bind}
use Rattle.vb_calls.specs.Shelves.{Shelves}

-- ---- clients' connections

-- one that opens awaits nothing
pub open_waits : (n base c : ℕ) (node : PlainNode) → NoneWaitsInVain node → NoneWaitsInVain (client_at n base c node).0
open_waits n base c node none = by (is_some (node.clients c))
  where
    new : PlainClient
    new = new_client (record { node = n; client = c; base = base })

    at : (x : PlainClient) (a : Awaited) (d : ℕ) → d < MAX_CLIENTS → x.session.awaited ≡ Some a → (b : Bool) → (if b then Some new else node.clients d) ≡ Some x → IsOutstandingAt a.waiter node.vbs
    at x a d lt has true e = let same : new ≡ x = cc in let z : None ≡ Some a = ap (λ (k : PlainClient). k.session.awaited) same ∙ has in absurd (cc z)
    at x a d lt has false e = none d x a lt e has

    by : (b : Bool) → let x : PlainNode × Told = if b then (node, refusal cause.LinkOpen) else (with_client node c (Some new), done []) in NoneWaitsInVain x.0
    by true d x a lt is has = none d x a lt is has
    by false d x a lt is has = at x a d lt has (d == c) is

pub hang_stays : (c : ℕ) (node : PlainNode) → Stays (Some node) (Some (hang_at c node).0)
hang_stays c node = by (node.clients c)
  where
    left : (d : ℕ) (other : PlainClient) (b : Bool) → (if b then None else node.clients d) ≡ Some other → node.clients d ≡ Some other
    left d other true e = absurd (cc e)
    left d other false e = e

    by : (o : Option PlainClient) → Stays (Some node) (Some (hung_if c node o).0)
    by None d other is = stays_same (Some node) d other is
    by (Some client) d other is = (other, left d other (d == c) is, refl, ran_idle (end_closed client.producer) node.vbs (closed_makes IsIdle (λ id. tt) client.producer))

-- frames of streams are taken from vBuckets
idle_takes : Takes IsIdle
idle_takes = record { places = λ id. tt; takes = λ id. tt; closes = λ id. tt }

pub pull_stays : (c frames : ℕ) (node : PlainNode) → Stays (Some node) (Some (pull_at c frames node).0)
pull_stays c frames node = by (node.clients c) refl
  where
    by : (o : Option PlainClient) → node.clients c ≡ o → Stays (Some node) (Some (pull_if c frames node o).0)
    by None there d other is = stays_same (Some node) d other is
    by (Some client) there d other is =
        let x = after_job (client_pulled frames client) node.vbs node.shelves in
        let session : x.1.client.session ≡ client.session =
        subst (λ (y : (States × Shelves) × ClientPulled). y.1.client.session ≡ client.session) (sym (after_job_bind (frames_put frames (begun client.producer)) (λ put. Ended (client_pull client.session put)) node.vbs node.shelves)) refl in
        let kept : Kept node.vbs x.0.0 = job_idle (client_pulled frames client) node.vbs node.shelves (pull_makes IsIdle idle_takes frames client) in
        ⊎_elim
        (λ same.
        let z : Some x.1.client ≡ Some other = sym (ap (λ b. if b then Some x.1.client else node.clients d) (eq-eqb d c same)) ∙ is in let one : x.1.client ≡ other = cc in
        (client, ap node.clients same ∙ there, ap (λ (k : PlainClient). k.session) (sym one) ∙ session, kept))
        (λ ne. (other, sym (ap (λ b. if b then Some x.1.client else node.clients d) (ne_eqb d c ne)) ∙ is, refl, kept))
        (cases_eq d c)

-- streams that a change of role ended
pub ended_stays : (v : ℕ) (ids : List ℕ) (node : PlainNode) → Stays (Some node) (Some (with_clients_ended v ids node))
ended_stays v ids node c client' is = by (node.clients c) refl is
  where
    by : (o : Option PlainClient) → node.clients c ≡ o → option_map (client_ended v ids) o ≡ Some client' → (client : PlainClient) × (node.clients c ≡ Some client) × (client'.session ≡ client.session) × Kept node.vbs node.vbs
    by None e k = absurd (cc k)
    by (Some client) e k = let same : client_ended v ids client ≡ client' = cc in (client, e, ap (λ (x : PlainClient). x.session) (sym same), λ m o. o)

-- ---- vBuckets

-- one is made, where there is none
pub made_stays : (n v : ℕ) (role : Role) (uuid : ℕ) (node : PlainNode) (rest : List (Bool × Cause)) → Stays (Some node) (Some (refused_or (first_cause ((is_some (node.vbs v), cause.VbExists) ∷ rest)) node (vb_made n v role uuid node)).0)
made_stays n v role uuid node rest = by (node.vbs v) refl
  where
    made : node.vbs v ≡ None → Stays (Some node) (Some (vb_made n v role uuid node).0)
    made none = stays_kept node (vb_made n v role uuid node).0 (λ c. refl) (λ k o. record {
      v = o.v;
      vb = o.vb;
      there = ap (λ b. if b then Some (new_vb n role uuid) else node.vbs o.v) (ne_eqb o.v v (λ same. let z : None ≡ Some o.vb = sym none ∙ ap node.vbs (sym same) ∙ o.there in cc)) ∙ o.there;
      w = o.w;
      among = o.among;
      number = o.number;
    })

    unless : (why : Option Cause) → Stays (Some node) (Some (vb_made n v role uuid node).0) → Stays (Some node) (Some (refused_or why node (vb_made n v role uuid node)).0)
    unless None s = s
    unless (Some why) s = stays_same (Some node)

    by : (o : Option Plain) → node.vbs v ≡ o → Stays (Some node) (Some (refused_or (first_cause ((is_some o, cause.VbExists) ∷ rest)) node (vb_made n v role uuid node)).0)
    by None e = unless (first_cause rest) (made e)
    by (Some vb) e = stays_same (Some node)

pub admin_stays : (n v : ℕ) (asked : AdminCall) (node : PlainNode) → MakesJob IsIdle (admin_job n v asked) → Stays (Some node) (Some (admin_line n v asked node).0)
admin_stays n v asked node makes = stays_kept node (admin_line n v asked node).0 (λ c. refl) (job_idle (admin_job n v asked) node.vbs node.shelves makes)

-- ---- links

pub pump_stays : (frames : ℕ) (link : PlainLink) (node : PlainNode) → Stays (Some node) (Some (pump_at frames link node).0)
pump_stays frames link node = stays_kept node (pump_at frames link node).0 (λ c. refl) (job_idle (peer_pulled frames (peer_of link)) node.vbs node.shelves (pulled_makes IsIdle idle_takes frames (peer_of link)))

-- what is due behind a batch
pub due_none : (n v : ℕ) (o : Outcome) → NoneWaits o.0 → NoneWaits (due_in n v o).0
due_none n v o all = by (is_counted o.1.answer)
  where
    at : (link : PlainLink) (k : Option PlainNode) → NoneIn k → NoneWaits (due_at n link o.0 o.1 k).0
    at link None there = all
    at link (Some node) there =
        let next : PlainNode = with_states node (after (dial_due (dial_of link)) node.vbs).0 in
        put_none o.0 n next all (none_on (Some node) (Some next) (stays_kept node next (λ c. refl) (ran_idle (dial_due (dial_of link)) node.vbs (due_makes IsIdle tt (dial_of link)))) there)

    of : (l : Option PlainLink) → NoneWaits (due_of n o.0 o.1 l).0
    of None = all
    of (Some link) = at link (o.0.nodes n) (all n)

    by : (b : Bool) → NoneWaits (let x : Outcome = if b then due_of n o.0 o.1 (own_link n v o.0.links) else o in x.0)
    by true = of (own_link n v o.0.links)
    by false = all

-- ---- a node that starts has no connection

starts_none : (n : ℕ) (starts : List (ℕ × ℕ)) (node : PlainNode) (told : Told) → ((c : ℕ) → node.clients c ≡ None) → (c : ℕ) → (starts_from n starts (node, told)).0.clients c ≡ None
starts_none n [] node told none c = none c
starts_none n (start ∷ starts) node told none c = by (λ t. starts_none n starts (start_one n start node).0 t none c) (fired_by node.arm.fuse (start_one n start node).0.arm.fuse)
  where
    by : ((t : Told) → (starts_from n starts ((start_one n start node).0, t)).0.clients c ≡ None) → (f : Fired) → (started_by n node.arm f (start_one n start node).1 told (start_one n start node).0 (starts_from n starts)).0.clients c ≡ None
    by rest fired.No = rest _
    by rest fired.Failed = rest _
    by rest fired.Stopped = refl

pub start_stays : (n : ℕ) (uuids : List ℕ) (node : PlainNode) → Stays (Some node) (Some (start_at n uuids node).0)
start_stays n uuids node = by node.off
  where
    opened : (books : List Book) (opens short : Bool) → let x : PlainNode × Told = if opens then (if short then (record node { arm = burnt_arm (length books) node.arm }, refusal cause.IdsShort) else starts_from n (starts_of books uuids) (loaded_node n books (burnt_arm (length books) node.arm), done [])) else not_opened n node in Stays (Some node) (Some x.0)
    opened books true true = stays_kept node (record node { arm = burnt_arm (length books) node.arm }) (λ c. refl) (λ k o. o)
    opened books true false =
        let x : PlainNode × Told = starts_from n (starts_of books uuids) (loaded_node n books (burnt_arm (length books) node.arm), done []) in
        stays_none (Some node) (Some x.0) (starts_none n (starts_of books uuids) (loaded_node n books (burnt_arm (length books) node.arm)) (done []) (λ c. refl))
    opened books false short = stays_kept node (not_opened n node).0 (λ c. refl) (λ k o. o)

    by : (o : Option (List Book)) → Stays (Some node) (Some (start_if n uuids node o).0)
    by None = stays_same (Some node)
    by (Some books) = opened books (opens_all node.arm.fuse (length books)) (are_short books uuids)
