-- what a vBucket's link acknowledges once more of the vBucket is written down
use Rattle.std.specs.Prelude.{◌≡◌, ◌<◌, ◌≤◌, ◌∷◌, ◌++◌, ◌^◌, if◌then◌else◌}
use Rattle.transcript_law.proofs.Words.{ℕ, Bool, true, false, List, [], refl, ap, sym, ◌∙◌, subst, append-nil, Option, Some, None, spelling, Event, Sound, after, is_follower}
use Rattle.transcript_law.proofs.Words.{DialResult, PlainLink, PlainNode, PlainWorld, link_number, consumer_node, dial_of, row_at, row_put, vb_in, own_link, with_links, with_node_at, with_states, Told, Chronicle, after_lines, LawfulFrom, fork_of, image_in}
use Rattle.transcript_law.proofs.invariant.Agreement.{vb_of, AgreesAt, VbAgrees, LinkAgrees, IsLink, consumer_seat, idle, AgreesIn, GoesOn}
use Rattle.transcript_law.proofs.{links.Acknowledging.{DueCame, ack_frame, acked_agrees, ack_lawful, due_came, due_rests, owns_not}, invariant.Carrying.{Relinked}, verbs.Leaving.{own_found}, invariant.LinkRows.{put_same, row_found}, verbs.NodeLines.{as_told, node_of_same_vbs}, invariant.OneLink.{carries_same}}
use Rattle.transcript_law.proofs.lines.Lines.{AreQuiet, after_more, lawful_more}
use Rattle.transcript_law.specs.Lawfulness.{SavesThirds}
use Rattle.{dcp_consumer.specs.Machine.{is_streaming}, node_core.specs.Dials.{acknowledged_line, acknowledged_result, due_requested, untold}}
use Rattle.node_world.specs.Dues.{due_at, due_in, due_of, with_acknowledged, is_counted}

-- a batch is done, which lets the vBucket v of the node n acknowledge more
module _ (w : PlainWorld) (r : Chronicle) (n v : ℕ) (told : Told) (quiet : AreQuiet told.events) (g : GoesOn r as_told (w, told)) where
  -- what is read of the lines
  abbrev read : Chronicle
  read = after_lines r told.events

  -- with more lines
  goes_with : (w' : PlainWorld) (lines : List Event) → LawfulFrom read lines → AgreesIn idle w' (after_lines read lines) g.1.0 → GoesOn r as_told (w', record told { events = told.events ++ lines })
  goes_with w' lines lawful a = (lawful_more r told.events lines quiet g.0 lawful, (g.1.0, subst (λ x. AgreesIn idle w' x g.1.0) (sym (after_more r told.events lines)) a))

  module _ (link : PlainLink) (own : IsLink link w.links) (here : consumer_node link ≡ n) (node : PlainNode) (at : w.nodes n ≡ Some node) where
    abbrev s : DialResult
    s = untold (dial_of link)

    abbrev mine : LinkAgrees w read g.1.0 link [] []
    mine = g.1.1.links link own

    found : row_at link_number (link_number link) w.links ≡ Some link
    found = row_found w.links link g.1.1.differ own

    held : VbAgrees read (consumer_node link) link.consumer.dialed.vb (g.1.0.nodes (consumer_seat link)) mine.follower
    held = subst (AgreesAt read (consumer_node link) link.consumer.dialed.vb (g.1.0.nodes (consumer_seat link))) mine.follower_is (g.1.1.vbs (consumer_node link) link.consumer.dialed.vb)

    sound : Sound mine.follower
    sound = held.sound

    known : node.vbs link.consumer.dialed.vb ≡ Some mine.follower
    known = sym (ap (λ o. vb_in o link.consumer.dialed.vb) at) ∙ ap (λ m. vb_of w m link.consumer.dialed.vb) (sym here) ∙ mine.follower_is

    again : Relinked w (with_node_at w n (with_states node node.vbs)) w.links
    again = node_of_same_vbs w n node (with_states node node.vbs) at (λ q. refl) (λ q. refl) refl

    -- the world with this on its way from the consumer
    abbrev put : PlainLink → PlainWorld
    put link' = with_links (with_node_at w n (with_states node node.vbs)) (row_put link_number (link_number link) link' w.links)

    silent : GoesOn r as_told (with_acknowledged n link node w told (node.vbs, s))
    silent = let link' : PlainLink = record link { up = link.up ++ [] } in goes_with (put link') [] tt
        (carries_same idle idle w (put link') read g.1.0 g.1.1
        (record {
          powers = again.powers;
          vbs = again.vbs;
          shelves = again.shelves;
          uuids = refl;
          linked = ap (λ b. row_put link_number (link_number link) (record link { up = b }) w.links) (append-nil link.up) ∙ put_same (link_number link) w.links link found;
        }) (λ k. refl))

    acked : (seq : ℕ) → is_streaming link.consumer.handshake ≡ true → is_follower mine.follower.role ≡ true → seq < 2 ^ 64 → seq ≤ fork_of mine.follower.position → SavesThirds (image_in mine.follower) seq mine.follower.saved
        → GoesOn r as_told (with_acknowledged n link node w told (node.vbs, acknowledged_result seq s mine.follower.saved))
    acked seq granted follows low shared thirds =
        let up : List ℕ = link.up ++ spelling (ack_frame seq link.consumer) in let link' : PlainLink = record link { consumer = record link.consumer { acked = seq }; up = up } in
        goes_with (put link') (acknowledged_line link.consumer.dialed seq mine.follower.saved ∷ []) (ack_lawful idle w read g.1.0 g.1.1 link [] [] mine seq granted follows shared thirds, tt)
        (acked_agrees link seq up refl granted (owns_not link.consumer mine.follower.role mine.follows follows) low idle w (put link') read g.1.0 g.1.1 found (record { powers = again.powers; vbs = again.vbs; shelves = again.shelves; uuids = refl; linked = refl }))

    node_goes : GoesOn r as_told (due_at n link w told (Some node))
    node_goes = by_role (is_follower mine.follower.role) refl
      where
        by : is_follower mine.follower.role ≡ true → DueCame node.vbs mine.follower s (after (due_requested s) node.vbs) → GoesOn r as_told (with_acknowledged n link node w told (after (due_requested s) node.vbs))
        by follows (DueCame.IsSilent low e) = subst (λ y. GoesOn r as_told (with_acknowledged n link node w told y)) (sym e) silent
        by follows (DueCame.IsAcked seq is granted low shared thirds e) = subst (λ y. GoesOn r as_told (with_acknowledged n link node w told y)) (sym e) (acked seq granted follows low shared thirds)

        by_role : (b : Bool) → is_follower mine.follower.role ≡ b → GoesOn r as_told (with_acknowledged n link node w told (after (due_requested s) node.vbs))
        by_role true follows = by follows (due_came node.vbs mine.follower s known follows sound)
        by_role false rests = subst (λ y. GoesOn r as_told (with_acknowledged n link node w told y)) (sym (due_rests node.vbs mine.follower s known rests)) silent

  at_node : (link : PlainLink) → IsLink link w.links → consumer_node link ≡ n → (o : Option PlainNode) → w.nodes n ≡ o → GoesOn r as_told (due_at n link w told o)
  at_node link own here None e = g
  at_node link own here (Some node) e = node_goes link own here node e

  of_link : (o : Option PlainLink) → own_link n v w.links ≡ o → GoesOn r as_told (due_of n w told o)
  of_link None e = g
  of_link (Some link) e = let own = own_found n v w.links link e in at_node link own.0 own.1 (w.nodes n) refl

  -- what goes on, goes on with what is acknowledged then
  pub due_goes : GoesOn r as_told (due_in n v (w, told))
  due_goes = elim (is_counted told.answer) as (λ b. GoesOn r as_told (if b then due_of n w told (own_link n v w.links) else (w, told))) [ true ↦ of_link (own_link n v w.links) refl | false ↦ g ]
