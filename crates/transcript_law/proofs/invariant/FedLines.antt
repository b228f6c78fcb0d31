-- after each line each stream of a vBucket is that of an open link or of a client's connection
use Rattle.std.specs.Prelude.{◌≡◌, ◌∷◌, ◌++◌}
use Rattle.transcript_law.proofs.Words.{ℕ, Bool, List, [], refl, ap, sym, subst, inl, inr, ⊎_elim, fold, length, take, Option, Some, None, is_some, row_at, States, after, after_job, Cause, EndReason, Role, Plain}
use Rattle.transcript_law.proofs.Words.{PlainLink, link_number, producer_node, consumer_node, PlainNode, PlainWorld, Told, Outcome, DialResult, with_node_at, with_links, with_states, node_outcome, own_link, moved_len, peer_of, dial_of, dial_bytes, over_why, up_at, pump_at, refusal, refused_or, first_cause, done}
use Rattle.transcript_law.proofs.Words.{cut_outcome, with_dialed, link_outcome, on_link, with_link, StreamAsk, new_link, new_vb, peer_pulled, with_vb_at}
use Rattle.transcript_law.proofs.{invariant.Agreement.{IsLink}, invariant.FedClients.{Keeps, NodeFed, keeps_all, less_keeps, none_fed, posts_keep}, invariant.FedNodes.{pump_held, up_held}, invariant.Feeding.{AllFed, AllKept, Fed, Fine, broken_fine, kept_fine, relinked_fed, served_fed, swapped, unlinked_fine}, invariant.LinkRows.{found_is_link}, verbs.Leaving.{own_found}}
use Rattle.transcript_law.proofs.{invariant.Quiets.{due_quiet, fed_quiet, flush_quiet, start_quiet}, invariant.Unopened.{NoNew, either, put_new, step_new}}
use Rattle.transcript_law.specs.Feeding.{HasIn}
use Rattle.journal_points.specs.Points.{saved}
use Rattle.vb_calls.specs.declared.calls.Resolved.{Resolved}
use Rattle.disk_journals.specs.{Arms.{opens_all}, Books.{Book}}
use Rattle.durability.specs.Chains.{Members}
use Rattle.node_core.specs.{Dials.{dial_due}, Flushing.{chain_changed, ticked}, Loading.{are_short, loaded_by, no_states, starts_of, with_loaded}, Peers.{peer_frames, peer_heard}}
use Rattle.node_world.proofs.Keeping.{due_dialed, fed_dialed, given_desk}
use Rattle.node_world.specs.Arms.{fired_by, placed}
use Rattle.node_world.specs.Dues.{due_at, due_in, due_of, is_counted, with_due}
use Rattle.node_world.specs.Links.{frames_up, left_unless, untold_peer, with_down, with_server, with_up}
use Rattle.node_world.specs.Nodes.{flush_here, all_posted, chain_causes, chain_line, chain_made, flush_line, tick_line, vb_made, with_kept}
use Rattle.node_world.specs.Power.{burnt_arm, loaded_node, not_opened, opened_at, start_at, start_books, start_if, start_one, started_by, starts_from}
use Rattle.node_world.specs.World.{down_in, down_outcome, relinked}
use Rattle.node_world.specs.declared.arm.Fired.{Fired}
use Rattle.node_world.specs.declared.arm.Fired.TheVariants as fired
use Rattle.vb_calls.specs.States.{make_at}
use Rattle.vb_types.specs.declared.journal.FlushPart.{FlushPart}
use Rattle.vb_types.specs.declared.journal.Record.{Record}
use Rattle.vb_calls.specs.declared.calls.VbCall.TheVariants as call
use Rattle.transcript_law.proofs.lines.Reads.{pump_reads, pumps_read, read_desk}
use Rattle.vb_calls.specs.Jobs.{after_reads}

-- ---- lines of one node

-- a step that keeps the node's vBuckets without a stream more, and its connections, and the outcomes behind it
pub less_posts : (node mid : PlainNode) (rs : List Resolved) → NoNew node.vbs mid.vbs → ((c : ℕ) → mid.clients c ≡ node.clients c) → Keeps node (all_posted rs mid).0
less_posts node mid rs less same = keeps_all node mid (all_posted rs mid).0 (less_keeps node mid less same) (posts_keep rs mid)

pub same_keeps : (node : PlainNode) → Keeps node node
same_keeps node others fed = fed

pub flush_keeps : (n v : ℕ) (p : FlushPart) (node : PlainNode) → Keeps node (flush_line n v p node).0
flush_keeps n v p node = let x = after_job (flush_here n v p node) node.vbs node.shelves in less_posts node (with_kept node x.0) x.1.resolved (flush_quiet n v p (is_some (node.vbs v)) node.vbs node.shelves) (λ c. refl)

pub refused_keeps : (node : PlainNode) (x : PlainNode × Told) (why : Option Cause) → Keeps node x.0 → Keeps node (refused_or why node x).0
refused_keeps node x None keeps = keeps
refused_keeps node x (Some why) keeps = same_keeps node

pub chain_keeps : (n v : ℕ) (others : Members) (node : PlainNode) → Keeps node (chain_line n v others node).0
chain_keeps n v others node =
    let x = after (chain_changed n v (record { active = n; others = others })) node.vbs in
    refused_keeps node (chain_made n v others node) (first_cause (chain_causes n v others node)) (less_posts node (with_states node x.0) x.1.resolved (step_new node.vbs v (call.Chain (record { active = n; others = others })) tt) (λ c. refl))

pub tick_keeps : (n v : ℕ) (node : PlainNode) → Keeps node (tick_line n v node).0
tick_keeps n v node = let x = after (ticked n v node.clock) node.vbs in less_posts node (with_states node x.0) x.1.resolved (step_new node.vbs v (call.Tick node.clock) tt) (λ c. refl)

pub made_less : (n v : ℕ) (role : Role) (uuid : ℕ) (node : PlainNode) → NoNew node.vbs (vb_made n v role uuid node).0.vbs
made_less n v role uuid node = put_new node.vbs v (new_vb n role uuid) (λ id h. absurd h)

pub made_keeps : (n v : ℕ) (role : Role) (uuid : ℕ) (node : PlainNode) → Keeps node (vb_made n v role uuid node).0
made_keeps n v role uuid node = less_keeps node (vb_made n v role uuid node).0 (made_less n v role uuid node) (λ c. refl)

-- ---- a node that starts

abbrev NoStream : States → Type 0
NoStream states = (v id : ℕ) → HasIn (states v) id → ⊥

none_where_less : (states states' : States) → NoNew states states' → NoStream states → NoStream states'
none_where_less states states' less none = λ v id h. none v id (less v id h)

loaded_none : (n : ℕ) (books : List Book) (states : States) → NoStream states → NoStream (fold (λ states book. with_loaded n states book.0 book.1) states books)
loaded_none n [] states none = none
loaded_none n (book ∷ books) states none = loaded_none n books (with_loaded n states book.0 book.1) (one book.1)
  where
    made : (fresh : Plain) (o : Option Plain) → ((id : ℕ) → HasIn (Some fresh) id → ⊥) → NoStream (make_at states book.0 fresh o).0
    made fresh None empty = none_where_less states (with_vb_at states book.0 fresh) (put_new states book.0 fresh (λ id h. absurd (empty id h))) none
    made fresh (Some there) empty = none

    one : (records : List Record) → NoStream (with_loaded n states book.0 records)
    one [] = none
    one (last ∷ older) = made (loaded_by n (saved (last ∷ older))) (states book.0) (λ id h. h)

starts_none : (n : ℕ) (starts : List (ℕ × ℕ)) (node : PlainNode) (told : Told) → NoStream node.vbs → NoStream (starts_from n starts (node, told)).0.vbs
starts_none n [] node told none = none
starts_none n (start ∷ starts) node told none = by (λ t. starts_none n starts (start_one n start node).0 t
    (none_where_less node.vbs (start_one n start node).0.vbs (start_quiet n start.0 start.1 (placed start.0 node).vbs (placed start.0 node).shelves) none)) (fired_by node.arm.fuse (start_one n start node).0.arm.fuse)
  where
    by : ((t : Told) → NoStream (starts_from n starts ((start_one n start node).0, t)).0.vbs) → (f : Fired) → NoStream (started_by n node.arm f (start_one n start node).1 told (start_one n start node).0 (starts_from n starts)).0.vbs
    by rest fired.No = rest _
    by rest fired.Failed = rest _
    by rest fired.Stopped = λ v id h. h

-- nor a connection
starts_alone : (n : ℕ) (starts : List (ℕ × ℕ)) (node : PlainNode) (told : Told) → ((c : ℕ) → node.clients c ≡ None) → (c : ℕ) → (starts_from n starts (node, told)).0.clients c ≡ None
starts_alone n [] node told alone = alone
starts_alone n (start ∷ starts) node told alone = by (λ t. starts_alone n starts (start_one n start node).0 t alone) (fired_by node.arm.fuse (start_one n start node).0.arm.fuse)
  where
    by : ((t : Told) (c : ℕ) → (starts_from n starts ((start_one n start node).0, t)).0.clients c ≡ None) → (f : Fired) → (c : ℕ) → (started_by n node.arm f (start_one n start node).1 told (start_one n start node).0 (starts_from n starts)).0.clients c ≡ None
    by rest fired.No = rest _
    by rest fired.Failed = rest _
    by rest fired.Stopped = λ c. refl

abbrev FedAt : (ℕ → ℕ → Type 0) → PlainNode × Told → Type 0
FedAt others x = NodeFed others x.0.vbs x.0.clients

pub start_keeps : (n : ℕ) (uuids : List ℕ) (node : PlainNode) → Keeps node (start_at n uuids node).0
start_keeps n uuids node others fed = by node.off
  where
    opened : (books : List Book) → FedAt others (start_books n uuids books node)
    opened books = either (FedAt others) (opens_all node.arm.fuse (length books)) (opened_at n uuids books node) (not_opened n node)
        (either (FedAt others) (are_short books uuids) (record node { arm = burnt_arm (length books) node.arm }, refusal Cause.IdsShort)
        (starts_from n (starts_of books uuids) (loaded_node n books (burnt_arm (length books) node.arm), done [])) fed
        (let x = starts_from n (starts_of books uuids) (loaded_node n books (burnt_arm (length books) node.arm), done []) in none_fed others x.0.vbs x.0.clients
        (starts_none n (starts_of books uuids) (loaded_node n books (burnt_arm (length books) node.arm)) (done []) (loaded_none n books no_states (λ v id h. h)))
        (starts_alone n (starts_of books uuids) (loaded_node n books (burnt_arm (length books) node.arm)) (done []) (λ c. refl)))) fed

    by : (o : Option (List Book)) → FedAt others (start_if n uuids node o)
    by None = fed
    by (Some books) = opened books

-- ---- lines of links

module _ (w : PlainWorld) (fine : Fine w) where
  -- the link as it is
  same_fine : (link : PlainLink) → IsLink link w.links → Fine (relinked link (Some link) w)
  same_fine link is = swapped w link link fine is refl refl

  pub up_fed : AllKept w → (l wanted : ℕ) → AllFed (on_link w l producer_node (up_at wanted)).0
  up_fed kept l wanted = by (row_at link_number l w.links) refl
    where
      at : (link : PlainLink) → IsLink link w.links → (o : Option PlainNode) → w.nodes (producer_node link) ≡ o
          → AllFed (with_link link (node_outcome w (producer_node link) (Some link, refusal Cause.UnknownNode) o (up_at wanted link))).0
      at link is None e = (same_fine link is).fed
      at link is (Some node) e =
          let piece : List ℕ = take (moved_len wanted link.up) link.up in
          let x = frames_up (peer_frames piece (peer_of link)) (node, untold_peer (peer_heard piece (peer_of link))) in
          served_fed w link (with_up link (moved_len wanted link.up) x.1) fine is (producer_node link) node x.0 refl e
          (given_desk piece (peer_of link) node) (λ others fed. up_held others wanted link node fed (kept link is))

      by : (o : Option PlainLink) → row_at link_number l w.links ≡ o → AllFed (link_outcome w l producer_node (up_at wanted) o).0
      by None e = fine.fed
      by (Some link) e = at link (found_is_link l w.links link e).0 (w.nodes (producer_node link)) refl

  pub pump_fed : AllKept w → (l frames : ℕ) → AllFed (on_link w l producer_node (pump_at frames)).0
  pump_fed kept l frames = subst (λ pump. AllFed (on_link w l producer_node pump).0) (sym (pumps_read frames)) (by (row_at link_number l w.links) refl)
    where
      at : (link : PlainLink) → IsLink link w.links → (o : Option PlainNode) → w.nodes (producer_node link) ≡ o
          → AllFed (with_link link (node_outcome w (producer_node link) (Some link, refusal Cause.UnknownNode) o (pump_reads frames link))).0
      at link is None e = (same_fine link is).fed
      at link is (Some node) e =
          let x = after_reads (peer_pulled frames (peer_of link)) node.shelves node.vbs in
          served_fed w link (with_server link x.1.peer x.1.out) fine is (producer_node link) node (with_states node x.0) refl e
          (read_desk frames (peer_of link) node.shelves node.vbs) (λ others fed. pump_held others frames link node fed (kept link is))

      by : (o : Option PlainLink) → row_at link_number l w.links ≡ o → AllFed (link_outcome w l producer_node (pump_reads frames) o).0
      by None e = fine.fed
      by (Some link) e = at link (found_is_link l w.links link e).0 (w.nodes (producer_node link)) refl

  -- the consumer of a link was given bytes
  module _ (wanted : ℕ) (link : PlainLink) (is : IsLink link w.links) (node : PlainNode) (known : w.nodes (consumer_node link) ≡ Some node) where
    abbrev at : PlainNode
    at = placed link.consumer.dialed.vb node

    abbrev piece : List ℕ
    piece = take (moved_len wanted link.down) link.down

    abbrev left : PlainNode
    left = (down_in wanted link node).0

    abbrev given : DialResult
    given = (after_job (dial_bytes piece (dial_of link)) at.vbs at.shelves).1

    given_stays : Fine (with_node_at w (consumer_node link) left)
    given_stays = kept_fine w (consumer_node link) node left fine known (less_keeps node left (fed_quiet piece (dial_of link) at.vbs at.shelves) (λ c. refl))

    given_over : (why : Option EndReason) → Fine (relinked link (left_unless why (with_down link (moved_len wanted link.down) given)) (with_node_at w (consumer_node link) left))
    given_over None = swapped (with_node_at w (consumer_node link) left) link (with_down link (moved_len wanted link.down) given) given_stays is refl (ap (λ d. d.link) (fed_dialed piece (dial_of link) at.vbs at.shelves))
    given_over (Some why) = unlinked_fine (with_node_at w (consumer_node link) left) link given_stays is

  pub down_fine : (l wanted : ℕ) → Fine (on_link w l consumer_node (down_in wanted)).0
  down_fine l wanted = by (row_at link_number l w.links) refl
    where
      here : (link : PlainLink) → IsLink link w.links → (o : Option PlainNode) → w.nodes (consumer_node link) ≡ o
          → Fine (with_link link (node_outcome w (consumer_node link) (Some link, refusal Cause.UnknownNode) o (down_in wanted link))).0
      here link is None e = same_fine link is
      here link is (Some node) e = given_over wanted link is node e (over_why (given wanted link is node e).dial.consumer.handshake)

      by : (o : Option PlainLink) → row_at link_number l w.links ≡ o → Fine (link_outcome w l consumer_node (down_in wanted) o).0
      by None e = fine
      by (Some link) e = here link (found_is_link l w.links link e).0 (w.nodes (consumer_node link)) refl

  pub cut_fine : (l : ℕ) → Fine (cut_outcome w (row_at link_number l w.links)).0
  cut_fine l = by (row_at link_number l w.links) refl
    where
      by : (o : Option PlainLink) → row_at link_number l w.links ≡ o → Fine (cut_outcome w o).0
      by None e = fine
      by (Some link) e = unlinked_fine w link fine (found_is_link l w.links link e).0

  -- one more link
  more_in : (x y : PlainLink) (links : List PlainLink) → IsLink x links → IsLink x (links ++ y ∷ [])
  more_in x y [] i = absurd i
  more_in x y (z ∷ zs) i = ⊎_elim (λ e. inl e) (λ j. inr (more_in x y zs j)) i

  pub dialed_fed : (line l m n v buffer : ℕ) (takeover : Bool) (o : Option StreamAsk) → AllFed (with_links w (with_dialed line l m n v buffer takeover w.links o))
  dialed_fed line l m n v buffer takeover None = fine.fed
  dialed_fed line l m n v buffer takeover (Some ask) = λ k node is. relinked_fed (Fed w.links k) (Fed (w.links ++ new_link line l m n v buffer takeover ask ∷ []) k) node.vbs node.clients (λ q id (x, i, of). (x, more_in x (new_link line l m n v buffer takeover ask) w.links i, of)) (fine.fed k node is)

-- what is due behind a batch
pub due_fine : (n v : ℕ) (o : Outcome) → Fine o.0 → Fine (due_in n v o).0
due_fine n v o fine = either (λ (x : Outcome). Fine x.0) (is_counted o.1.answer) (due_of n o.0 o.1 (own_link n v o.0.links)) o (by (own_link n v o.0.links) refl) fine
  where
    at : (link : PlainLink) → IsLink link o.0.links → (k : Option PlainNode) → o.0.nodes n ≡ k → Fine (due_at n link o.0 o.1 k).0
    at link is None e = fine
    at link is (Some node) e =
        let x = after (dial_due (dial_of link)) node.vbs in
        swapped (with_node_at o.0 n (with_states node x.0)) link (with_due link x.1) (kept_fine o.0 n node (with_states node x.0) fine e (less_keeps node (with_states node x.0) (due_quiet (dial_of link) node.vbs) (λ c. refl))) is refl
        (ap (λ d. d.link) (due_dialed (dial_of link) node.vbs))

    by : (l : Option PlainLink) → own_link n v o.0.links ≡ l → Fine (due_of n o.0 o.1 l).0
    by None e = fine
    by (Some link) e = at link (own_found n v o.0.links link e).0 (o.0.nodes n) refl

-- ---- all lines

-- a line that may be refused
pub unless_fine : (w : PlainWorld) (o : Outcome) (why : Option Cause) → Fine w → Fine o.0 → Fine (refused_or why w o).0
unless_fine w o (Some why) before after = before
unless_fine w o None before after = after

pub unless_fed : (w : PlainWorld) (o : Outcome) (why : Option Cause) → AllFed w → AllFed o.0 → AllFed (refused_or why w o).0
unless_fed w o (Some why) before after = before
unless_fed w o None before after = after

pub broken_line : (w : PlainWorld) (l : ℕ) (o : Option PlainLink) (came : Outcome) → Fine came.0 → Fine (down_outcome w l o came).0
broken_line w l None came fine = fine
broken_line w l (Some link) came fine = broken_fine (consumer_node link) l w came fine
