-- what a line `drop` of a link leaves as it was: the links, and of its vBuckets all but cursors
use Rattle.std.specs.Prelude.{◌≡◌}
use Rattle.transcript_law.proofs.Words.{ℕ, Bool, false, refl, sym, subst, Option, Some, None, Cause, PlainLink, PlainNode, PlainStream, PlainWorld, States, VbCall, after, link_number, link_outcome, node_outcome, on_link, producer_node, refusal, row_at, with_link}
use Rattle.dcp_producer.specs.{Dropping.{cursor_dropped, cursor_dropped_of, flag_said}, Producers.{PlainProducer, stream_at as kept_at}}
use Rattle.node_world.specs.Links.{drop_at}
use Rattle.vb_calls.specs.Programs.{Prog, Done, Call}
use Rattle.transcript_law.proofs.awaiting.{Jobs.{IsIdle, ran_idle}, Stays.{Stays, stays_kept}}
use Rattle.transcript_law.proofs.invariant.{Agreement.{IsLink}, AtRest.{Still, still_ran}, CallsKept.{AllAt}, FedClients.{less_keeps}, Feeding.{AllFed, Fine, served_fed, swapped}, LinkRows.{found_is_link, put_same}, Ranged.{NodeRanged, kept_ranged}, TimelyCalls.{Makes}, Unopened.{NoNew, either, step_new}}
use Rattle.vbucket.specs.Laws.{IsTimely}

-- of one vBucket at most a cursor is dropped, and nothing else is asked
drops_make : (kind : VbCall → Type 0) → ((id : ℕ) → kind (VbCall.DropCursor id)) → (v : ℕ) (end : PlainProducer) → Makes kind (cursor_dropped v end)
drops_make kind drops v end = by (kept_at v end.streams)
  where
    by : (o : Option PlainStream) → Makes kind (cursor_dropped_of o)
    by None = tt
    by (Some stream) = either (λ (p : Prog Bool). Makes kind p) stream.ended (Done false) (Call stream.vb (VbCall.DropCursor stream.id) (λ reply. Done (flag_said reply))) tt (drops stream.id, λ reply any. tt)

-- so no stream is opened
drops_open : (v : ℕ) (end : PlainProducer) (states : States) → NoNew states (after (cursor_dropped v end) states).0
drops_open v end states = by (kept_at v end.streams)
  where
    by : (o : Option PlainStream) → NoNew states (after (cursor_dropped_of o) states).0
    by None = λ u id h. h
    by (Some stream) = either (λ (p : Prog Bool). NoNew states (after p states).0) stream.ended (Done false) (Call stream.vb (VbCall.DropCursor stream.id) (λ reply. Done (flag_said reply))) (λ u id h. h) (step_new states stream.vb (VbCall.DropCursor stream.id) tt)

-- ---- at the producer's node

pub drop_ranged : (n : ℕ) (link : PlainLink) (node : PlainNode) → NodeRanged n node → NodeRanged n (drop_at link node).0
drop_ranged n link node ranged = kept_ranged n node (drop_at link node).0 refl (λ c. refl) refl ranged

pub drop_still : (link : PlainLink) (node : PlainNode) → AllAt Still node.vbs → AllAt Still (drop_at link node).0.vbs
drop_still link node all = still_ran (cursor_dropped link.consumer.dialed.vb link.server) node.vbs (drops_make IsTimely (λ id. tt) link.consumer.dialed.vb link.server) all

pub drop_stays : (link : PlainLink) (node : PlainNode) → Stays (Some node) (Some (drop_at link node).0)
drop_stays link node = stays_kept node (drop_at link node).0 (λ c. refl) (ran_idle (cursor_dropped link.consumer.dialed.vb link.server) node.vbs (drops_make IsIdle (λ id. tt) link.consumer.dialed.vb link.server))

-- ---- the line

module _ (w : PlainWorld) (l : ℕ) where
  -- the link is as it was
  pub drop_links : (on_link w l producer_node drop_at).0.links ≡ w.links
  drop_links = by (row_at link_number l w.links) refl
    where
      at : (link : PlainLink) → row_at link_number l w.links ≡ Some link → link_number link ≡ l → (o : Option PlainNode) → (with_link link (node_outcome w (producer_node link) (Some link, refusal Cause.UnknownNode) o (drop_at link))).0.links ≡ w.links
      at link e number None = put_same (link_number link) w.links link (subst (λ k. row_at link_number k w.links ≡ Some link) (sym number) e)
      at link e number (Some node) = put_same (link_number link) w.links link (subst (λ k. row_at link_number k w.links ≡ Some link) (sym number) e)

      by : (o : Option PlainLink) → row_at link_number l w.links ≡ o → (link_outcome w l producer_node drop_at o).0.links ≡ w.links
      by None e = refl
      by (Some link) e = at link e (found_is_link l w.links link e).1 (w.nodes (producer_node link))

  pub drop_among : (x : PlainLink) → IsLink x (on_link w l producer_node drop_at).0.links → IsLink x w.links
  drop_among x i = subst (IsLink x) drop_links i

  -- each stream is that of an open link or client, as it was
  pub drop_fed : Fine w → AllFed (on_link w l producer_node drop_at).0
  drop_fed fine = by (row_at link_number l w.links) refl
    where
      at : (link : PlainLink) → IsLink link w.links → (o : Option PlainNode) → w.nodes (producer_node link) ≡ o → AllFed (with_link link (node_outcome w (producer_node link) (Some link, refusal Cause.UnknownNode) o (drop_at link))).0
      at link is None e = (swapped w link link fine is refl refl).fed
      at link is (Some node) e = served_fed w link link fine is (producer_node link) node (drop_at link node).0 refl e refl (λ others fed. less_keeps node (drop_at link node).0 (drops_open link.consumer.dialed.vb link.server node.vbs) (λ c. refl) _ fed)

      by : (o : Option PlainLink) → row_at link_number l w.links ≡ o → AllFed (link_outcome w l producer_node drop_at o).0
      by None e = fine.fed
      by (Some link) e = at link (found_is_link l w.links link e).0 (w.nodes (producer_node link)) refl
