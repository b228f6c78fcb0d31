-- the line `up`: who was given up for a stream whose rest is sent is the writer yet
use Rattle.std.specs.Prelude.{◌≡◌, ◌∷◌, ◌⊎◌}
use Rattle.std.specs.List.{list_any}
use Rattle.takeover.specs.GivingUp.{new_give_up}
use Rattle.takeover.specs.declared.give_up.GiveStep.TheVariants.{End, SendAll, SendRest, Yield}
use Rattle.transcript_law.proofs.Words.{ℕ, Bool, true, false, List, [], refl, ap, sym, ◌∙◌, subst, inl, inr, ⊎_elim, All, All-nil, Option, Some, None, Answer, Cause, Chronicle, Event, LinkVerb, Outcome, PlainLink, PlainNode, PlainStream, PlainWorld, StreamName, Verb, link_number, link_outcome, moved_len, node_outcome, on_link, peer_of, producer_node, refusal, row_at, row_put, take, up_at, with_branches, with_link, with_links, with_node_at, with_up}
use Rattle.node_core.specs.Peers.{PeerResult}
use Rattle.node_world.specs.Links.{peer_given}
use Rattle.transcript_law.proofs.invariant.{Agreement.{Agrees, IsLink}, LinkRows.{found_is_link, put_links}, Noted.{AllKept, KeptFor, KeptLink}}
use Rattle.transcript_law.proofs.noted.{Freed.{AllMade}, Groups.{dial_at}, KeptGroups.{IsSending, RestsOn, link_kept, moved_kept, none_kept, rests_same, step_in}, KeptLines.{is_unceding}, Moments.{stands_of}, Staying.{link_same, none_turns}, UpMoves.{all_own, own_grants, roleless_all}, Upping.{HeardAs, IsNew, UpCame, UpStreams}}
use Rattle.transcript_law.proofs.verbs.Tellings.{each_told}
use Rattle.transcript_law.specs.{Chronicles.{after_group, ahead}, Lawfulness.{LinesFrom}, LinesTold.{Dial}, TakeoverNotes.{turns_feeder}}
use Rattle.transcript_law.specs.Tellings.{TellsOf, are_all, at_link, is_of_end, may_tell}

-- ---- it states nothing

up_unceding : (dial : Option Dial) (l wanted : ℕ) (line : Event) → at_link dial l (LinkVerb.Up wanted) line ≡ true → is_unceding line ≡ true
up_unceding None l wanted line e = cc
up_unceding (Some dial) l wanted (Event.Stated (StreamName.Link k) role) e = cc
up_unceding (Some dial) l wanted other e = refl

end_unceding : (r : Chronicle) (m : ℕ) (line : Event) → is_of_end r m line ≡ true → is_unceding line ≡ true
end_unceding r m (Event.Stated (StreamName.Link k) role) e = cc
end_unceding r m other e = refl

all_unceding : (r : Chronicle) (l wanted : ℕ) (lines : List Event) → TellsOf r (Verb.AtLink l (LinkVerb.Up wanted)) lines → are_all is_unceding lines ≡ true
all_unceding r l wanted lines t = each_told (may_tell r (Verb.AtLink l (LinkVerb.Up wanted))) (is_of_end r) is_unceding (up_unceding (r.dial_of l) l wanted) (λ m stops line e. end_unceding r m line e) lines t

-- ---- a stream whose rest is sent sent it before

heard_rests : (s s' : PlainStream) → HeardAs s s' → IsSending s' → IsSending s
heard_rests s s' (ended, inl same) (rest, going) = (sym same ∙ rest, sym ended ∙ going)
heard_rests s s' (ended, inr (inl (before, now))) (rest, going) = let z : Some Yield ≡ Some SendRest = ap step_in (sym now ∙ rest) in cc
heard_rests s s' (ended, inr (inr (before, now))) (rest, going) = let z : Some End ≡ Some SendRest = ap step_in (sym now ∙ rest) in cc

new_rests : (s' : PlainStream) → IsNew s' → IsSending s' → ⊥
new_rests s' new (rest, going) = ⊎_elim (λ none. let z : None ≡ Some SendRest = ap step_in (sym none ∙ rest) in cc) (λ all. let z : Some SendAll ≡ Some SendRest = ap step_in (sym all ∙ rest) in cc) new.gives

module _ (w : PlainWorld) (r : Chronicle) (wanted : ℕ) (a : Agrees w r) (made : AllMade r) (kept : AllKept w r) where
  abbrev asked : ℕ → Verb
  asked l = Verb.AtLink l (LinkVerb.Up wanted)

  abbrev Kept : ℕ → Outcome → Type 0
  Kept l o = TellsOf r (asked l) o.1.events → LinesFrom (ahead r (asked l) o.1.answer) r.conn_at o.1.events → Agrees (with_branches o.1.events o.0) (after_group r (asked l) o.1.events o.1.answer) → AllKept (with_branches o.1.events o.0) (after_group r (asked l) o.1.events o.1.answer)

  -- a link and its node, by what came up
  module _ (link : PlainLink) (node : PlainNode) (found : row_at link_number (link_number link) w.links ≡ Some link) where
    abbrev n : ℕ
    n = moved_len wanted link.up

    abbrev l : ℕ
    l = link_number link

    abbrev came : PlainNode × PeerResult
    came = peer_given (take n link.up) (peer_of link) node

    abbrev link' : PlainLink
    link' = with_up link n came.1

    abbrev lines : List Event
    lines = came.1.events

    abbrev after : Chronicle
    after = after_group r (asked l) lines (Answer.Number n)

    abbrev w' : PlainWorld
    w' = with_branches lines (with_links (with_node_at w (producer_node link) came.0) (row_put link_number l link' w.links))

    i : IsLink link w.links
    i = (found_is_link l w.links link found).0

    module _ (from : LinesFrom (ahead r (asked l) (Answer.Number n)) r.conn_at lines) (cedes : are_all is_unceding lines ≡ true) (later : Agrees w' after) where
      abbrev Own : PlainStream → Type 0
      Own = KeptFor after (producer_node link') link'.consumer.dialed.vb (after.stream_of (StreamName.Link l) link'.consumer.dialed.vb)

      own_kept : IsLink link' w'.links → (ss ss' : List PlainStream) → link.server.streams ≡ ss → link'.server.streams ≡ ss' → UpStreams lines l ss ss' → KeptLink after link'
      own_kept j [] [] e f u = subst (All Own) (sym f) (All-nil Own)
      own_kept j (s ∷ ss) [] e f u = subst (All Own) (sym f) (All-nil Own)
      own_kept j [] (s' ∷ more) e f u = subst (All Own) (sym (stands_of w' after later.0 link' (later.1.links link' j) s' more f).alone) (none_kept after (producer_node link') link'.consumer.dialed.vb (after.stream_of (StreamName.Link l) link'.consumer.dialed.vb) (s' ∷ []) (new_rests s' u.1, tt))
      own_kept j (s ∷ ss) (s' ∷ more) e f u = link_kept w w' r (asked l) lines (Answer.Number n) a from made later link link' i j refl refl u.0 cedes
          (subst (RestsOn link.server.streams) (sym (stands_of w' after later.0 link' (later.1.links link' j) s' more f).alone) (subst (λ q. RestsOn q (s' ∷ [])) (sym e) (heard_rests s s' u.1, tt))) (kept link i)

    up_link : UpCame lines wanted n link link' → Kept (link_number link) (with_link link (with_node_at w (producer_node link) (up_at wanted link node).0, (up_at wanted link node).1))
    up_link c t from later =
        let own = all_own r l wanted lines t in let none = roleless_all l lines own in let cedes = all_unceding r l wanted lines t in
        moved_kept w w' r l (LinkVerb.Up wanted) lines (Answer.Number n) a from made later (own_grants l lines own) cedes (λ x j. ⊎_elim
        (λ e. inl (subst (λ k. KeptLink after k) (sym e) (own_kept from cedes later (subst (λ k. IsLink k w'.links) e j) link.server.streams link'.server.streams refl refl c.streams)))
        (λ old. inr (old.1, x, old.0, link_same (turns_feeder (Some (dial_at x)) lines) x (none_turns (dial_at x) lines none)))
        (put_links l w.links link link' x a.1.differ found refl j)) kept

  -- where it is refused
  none_up : (l : ℕ) (links : List PlainLink) (why : Cause) → ((x : PlainLink) → IsLink x links → IsLink x w.links) → Kept l (with_links w links, refusal why)
  none_up l links why among t from later x j = link_kept w (with_branches [] (with_links w links)) r (asked l) [] (Answer.No why) a from made later x x (among x j) j refl refl refl refl (rests_same x.server.streams) (kept x (among x j))

  -- the whole line, by what comes up each link
  pub ups_kept : (came_up : (link : PlainLink) (node : PlainNode) (found : row_at link_number (link_number link) w.links ≡ Some link) → w.nodes (producer_node link) ≡ Some node
      → (let x = peer_given (take (moved_len wanted link.up) link.up) (peer_of link) node in UpCame x.1.events wanted (moved_len wanted link.up) link (with_up link (moved_len wanted link.up) x.1)))
      → (l : ℕ) → Kept l (on_link w l producer_node (up_at wanted))
  ups_kept came_up l = by (row_at link_number l w.links) refl
    where
      at : (link : PlainLink) → row_at link_number (link_number link) w.links ≡ Some link → (o : Option PlainNode) → w.nodes (producer_node link) ≡ o
          → Kept (link_number link) (with_link link (node_outcome w (producer_node link) (Some link, refusal Cause.UnknownNode) o (up_at wanted link)))
      at link found None e = none_up (link_number link) (row_put link_number (link_number link) link w.links) Cause.UnknownNode (λ x i. put_among_same x i)
        where
          put_among_same : (x : PlainLink) → IsLink x (row_put link_number (link_number link) link w.links) → IsLink x w.links
          put_among_same x i = ⊎_elim (λ e. subst (λ k. IsLink k w.links) (sym e) (found_is_link (link_number link) w.links link found).0) (λ old. old.0) (put_links (link_number link) w.links link link x a.1.differ found refl i)
      at link found (Some node) e = up_link link node found (came_up link node found e)

      by : (o : Option PlainLink) → row_at link_number l w.links ≡ o → Kept l (link_outcome w l producer_node (up_at wanted) o)
      by None e = none_up l w.links Cause.LinkClosed (λ x i. i)
      by (Some link) e = let same = (found_is_link l w.links link e).1 in
          subst (λ k. Kept k (link_outcome w k producer_node (up_at wanted) (Some link))) same (at link (ap (λ k. row_at link_number k w.links) same ∙ e) (w.nodes (producer_node link)) refl)
