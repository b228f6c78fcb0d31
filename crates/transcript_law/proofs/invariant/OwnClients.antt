-- what the clients of a node are told, where its connections are told as its own
use Rattle.std.specs.Prelude.{◌∷◌, ◌++◌}
use Rattle.std.specs.List.{All}
use Rattle.transcript_law.proofs.Words.{ℕ, Bool, true, false, List, [], sym, subst, All-nil, All-cons, All-append, refl, Option, Some, None, Event, StreamName, PlainNode, after}
use Rattle.transcript_law.proofs.lines.{ClientLines.{AllKept, posted_of}, SessionLines.{AreTo, IsKept, LeftBy, posted_at}}
use Rattle.transcript_law.specs.Plainness.{IsOfClient}
use Rattle.node_core.specs.Clients.{Handling, PlainClient, client_posted}
use Rattle.node_world.specs.Nodes.{all_posted, awaiting, posted_if, posted_to}
use Rattle.node_world.specs.declared.script_node.TheConstants.{MAX_CLIENTS}
use Rattle.vb_calls.specs.declared.calls.Resolved.{Resolved}

module _ (n : ℕ) where
  abbrev Own : List Event → Type 0
  Own lines = All (IsOfClient n) lines

  none : Own []
  none = All-nil (IsOfClient n)

  more : (lines others : List Event) → Own lines → Own others → Own (lines ++ others)
  more lines others a b = All-append (IsOfClient n) lines others a b

  to_own : (c : ℕ) (lines : List Event) → AreTo n c lines → Own lines
  to_own c [] l = none
  to_own c (Event.Changed m v uuid change ∷ lines) l = All-cons (IsOfClient n) (Event.Changed m v uuid change) lines l.0 (to_own c lines l.1)
  to_own c (Event.Reply m d bytes ∷ lines) l = All-cons (IsOfClient n) (Event.Reply m d bytes) lines l.0.0 (to_own c lines l.1)
  to_own c (Event.Asked (StreamName.Client m d) k v ask high log said ∷ lines) l = All-cons (IsOfClient n) (Event.Asked (StreamName.Client m d) k v ask high log said) lines (l.0.0, l.0.2) (to_own c lines l.1)
  to_own c (other ∷ lines) l = absurd l.0

  left_own : (c : ℕ) (closed : Bool) (h : Handling) → LeftBy n c closed h → Own h.events
  left_own c false h left = to_own c h.events left
  left_own c true h left = subst Own (sym left.2.1) (more left.2.0 (Event.Closed n c ∷ []) (to_own c left.2.0 left.2.2) (All-cons (IsOfClient n) (Event.Closed n c) [] refl none))

  -- one outcome
  posted_own : (r : Resolved) (node : PlainNode) (o : Option ℕ) → AllKept n node → Own (posted_to r node o).1
  posted_own r node None kept = none
  posted_own r node (Some c) kept = by (node.clients c) (kept c)
    where
      by : (o : Option PlainClient) → IsKept n c o → Own (posted_if c r node o).1
      by None k = none
      by (Some client) k = let x = after (client_posted node.clock r client) node.vbs in left_own c x.1.client.session.closed x.1 (posted_at n c node.clock client node.vbs k r).1

  -- whatever is posted to the clients of such a node is told of them
  pub posts_own : (rs : List Resolved) (node : PlainNode) → AllKept n node → Own (all_posted rs node).1
  posts_own [] node kept = none
  posts_own (r ∷ rs) node kept =
      let o : Option ℕ = awaiting node.clients r.waiter MAX_CLIENTS in
      more (posted_to r node o).1 (all_posted rs (posted_to r node o).0).1 (posted_own r node o kept) (posts_own rs (posted_to r node o).0 (posted_of n r node o kept).1)
