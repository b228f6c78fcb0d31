-- each line for a client tells of nothing else than it may
use Rattle.std.specs.Prelude.{◌≡◌, ◌∷◌, ◌&&◌}
use Rattle.transcript_law.proofs.Words.{ℕ, Bool, true, false, List, [], refl, sym, subst, eq-eqb, Option, Some, None, Chronicle, ClientVerb, Event, PlainNode, StreamName, Told, after, bytes_at, bytes_if}
use Rattle.node_core.specs.Clients.{Handling, PlainClient, client_fed}
use Rattle.node_world.specs.Nodes.{pull_at, pull_if}
use Rattle.transcript_law.proofs.lines.{ClientLines.{AllKept}, PullTold.{ArePut, pull_told}, SessionLines.{AreTo, IsKept, LeftBy, fed_at}}
use Rattle.transcript_law.proofs.verbs.Tellings.{Are, Tell, are_cons, are_more, same_place, tell_all}
use Rattle.transcript_law.specs.Tellings.{at_client, is_of_client, is_of_end, is_of_pull}
use Rattle.transcript_law.proofs.lines.Reads.{pull_is}

module _ (r : Chronicle) (n c : ℕ) where
  abbrev Tells : ClientVerb → List Event → Type 0
  Tells what lines = Tell (at_client n c what) (is_of_end r) lines

  -- what is served is told of its connection alone
  to_client : (lines : List Event) → AreTo n c lines → Are (is_of_client n c) lines
  to_client [] l = refl
  to_client (Event.Changed m v uuid change ∷ lines) l = are_cons (is_of_client n c) (Event.Changed m v uuid change) lines (eq-eqb m n l.0) (to_client lines l.1)
  to_client (Event.Reply m d bytes ∷ lines) l = are_cons (is_of_client n c) (Event.Reply m d bytes) lines (λ i. eq-eqb m n l.0.0 i && eq-eqb d c l.0.1 i) (to_client lines l.1)
  to_client (Event.Asked (StreamName.Client m d) k v ask high log said ∷ lines) l = are_cons (is_of_client n c) (Event.Asked (StreamName.Client m d) k v ask high log said) lines (λ i. eq-eqb m n l.0.0 i && eq-eqb d c l.0.1 i) (to_client lines l.1)
  to_client (other ∷ lines) l = absurd l.0

  left_client : (closed : Bool) (h : Handling) → LeftBy n c closed h → Are (is_of_client n c) h.events
  left_client false h left = to_client h.events left
  left_client true h left = subst (Are (is_of_client n c)) (sym left.2.1) (are_more (is_of_client n c) left.2.0 (Event.Closed n c ∷ []) (to_client left.2.0 left.2.2) (are_cons (is_of_client n c) (Event.Closed n c) [] (same_place n c) refl))

  pub bytes_tells : (bytes : List ℕ) (node : PlainNode) → AllKept n node → Tells (ClientVerb.Bytes bytes) (bytes_at c bytes node).1.events
  bytes_tells bytes node kept = tell_all (is_of_client n c) (is_of_end r) (λ m e. cc) (bytes_at c bytes node).1.events (by (node.clients c) (kept c))
    where
      by : (o : Option PlainClient) → IsKept n c o → Are (is_of_client n c) (bytes_if c bytes node o).1.events
      by None k = refl
      by (Some client) k = let x = after (client_fed node.clock bytes client) node.vbs in left_client x.1.client.session.closed x.1 (fed_at n c node.clock client node.vbs k bytes).1

  -- a pull of the streams of its own client
  named : (line : StreamName → Event) (s : StreamName) → s ≡ StreamName.Client n c → is_of_pull n c (line (StreamName.Client n c)) ≡ true → is_of_pull n c (line s) ≡ true
  named line s e is = subst (λ x. is_of_pull n c (line x) ≡ true) (sym e) is

  put_are : (lines : List Event) → ArePut n c lines → Are (is_of_pull n c) lines
  put_are [] a = refl
  put_are (Event.Marked s start end flags ∷ lines) a = are_cons (is_of_pull n c) (Event.Marked s start end flags) lines (named (λ s. Event.Marked s start end flags) s a.0 (same_place n c)) (put_are lines a.1)
  put_are (Event.Item s seq act key ∷ lines) a = are_cons (is_of_pull n c) (Event.Item s seq act key) lines (named (λ s. Event.Item s seq act key) s a.0 (same_place n c)) (put_are lines a.1)
  put_are (Event.Finished s reason ∷ lines) a = are_cons (is_of_pull n c) (Event.Finished s reason) lines (named (λ s. Event.Finished s reason) s a.0 (same_place n c)) (put_are lines a.1)
  put_are (Event.Stated s role ∷ lines) a = are_cons (is_of_pull n c) (Event.Stated s role) lines (named (λ s. Event.Stated s role) s a.0 (same_place n c)) (put_are lines a.1)
  put_are (Event.Reply m d bytes ∷ lines) a = are_cons (is_of_pull n c) (Event.Reply m d bytes) lines (λ i. eq-eqb m n a.0.0 i && eq-eqb d c a.0.1 i) (put_are lines a.1)
  put_are (other ∷ lines) a = absurd a.0

  pub pull_tells : (wanted : ℕ) (node : PlainNode) → AllKept n node → Tells (ClientVerb.Pull wanted) (pull_at c wanted node).1.events
  pull_tells wanted node kept = tell_all (is_of_pull n c) (is_of_end r) (λ m e. cc) (pull_at c wanted node).1.events (by (node.clients c) (kept c))
    where
      by : (o : Option PlainClient) → IsKept n c o → Are (is_of_pull n c) (pull_if c wanted node o).1.events
      by None k = refl
      by (Some client) k = subst (λ (y : PlainNode × Told). Are (is_of_pull n c) y.1.events) (sym (pull_is c wanted node (Some client))) (put_are _ (pull_told n c wanted client node.shelves node.vbs k).0)
