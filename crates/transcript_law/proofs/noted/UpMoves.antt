-- the line `up`: behind it all is known of links, by what came up
use Rattle.std.specs.Prelude.{◌≡◌, ◌∷◌, ◌&&◌, ◌||◌, ◌==◌, ◌⊎◌, if◌then◌else◌}
use Rattle.std.specs.List.{list_any}
use Rattle.transcript_law.proofs.Words.{ℕ, Bool, true, false, List, [], refl, ap, sym, ◌∙◌, subst, inl, inr, ⊎_elim, and_parts, eqb-true, eqb-false, Option, Some, None, Answer, Cause, Chronicle, Event, LinkVerb, Outcome, PlainLink, PlainNode, PlainWorld, Role, StreamName, Told, Verb, link_number, link_outcome, moved_len, node_outcome, on_link, peer_of, producer_node, refusal, row_at, row_put, take, up_at, with_branches, with_link, with_links, with_node_at, with_up}
use Rattle.node_core.specs.Peers.{PeerResult}
use Rattle.node_world.specs.Links.{peer_given}
use Rattle.transcript_law.proofs.invariant.{Agreement.{Agrees, IsLink, LinkAgrees}, LinkRows.{found_is_link, put_links}}
use Rattle.transcript_law.proofs.noted.{Groups.{dial_at, known_is, read_with, turned_at}, Known.{AllKnown, LinkKnown, Remains, remains_known}, Others.{GrantsAlone, OthersRemain, moved_known}, Staying.{link_same}, Upping.{UpCame, link_up}}
use Rattle.transcript_law.proofs.noted.Staying.{is_roleless, none_turns}
use Rattle.transcript_law.proofs.verbs.Tellings.{each_told}
use Rattle.transcript_law.specs.Chronicles.{after_group}
use Rattle.transcript_law.specs.LinesTold.{Dial, TakeoverKnown}
use Rattle.transcript_law.specs.TakeoverNotes.{is_grant_of, obeyed_after, turned_after, turns_feeder}
use Rattle.transcript_law.specs.Tellings.{TellsOf, are_all, at_link, is_of_clients, is_of_end, is_of_up, may_tell}
use Rattle.vb_types.specs.declared.stream.AskAnswer.TheVariants as ask_answer

-- ---- a line of which nothing came

-- all is known as it was
pub idle_known : (w' : PlainWorld) (r : Chronicle) (asked : Verb) (said : Answer) → Agrees w' (after_group r asked [] said) → (x : PlainLink) → IsLink x w'.links
    → obeyed_after ((read_with r asked [] said).dial_of (link_number x)) asked [] said (link_number x) (r.takeover_of (link_number x)) ≡ r.takeover_of (link_number x)
    → LinkKnown (r.takeover_of (link_number x)) x → LinkKnown ((after_group r asked [] said).takeover_of (link_number x)) x
idle_known w' r asked said a x i same known =
    let l = link_number x in let t : TakeoverKnown = r.takeover_of l in let read : Chronicle = read_with r asked [] said in
    let now : TakeoverKnown = record t { turned = turned_after read asked [] l t.turned } in
    subst (λ k. LinkKnown k x) (sym (known_is w' r asked [] said a l ∙ ap (λ (k : TakeoverKnown). record k { turned = turned_after read asked [] l k.turned }) same))
    (remains_known t now false x x (link_same false x refl) refl refl refl (λ s more e. turned_at w' r asked [] said a x i t.turned refl s more e) known)

-- ---- its lines

-- they tell of no role, and let this link alone continue
abbrev is_of_own : ℕ → Event → Bool
is_of_own l (Event.Asked (StreamName.Link k) n v ask high log said) = k == l
is_of_own l (Event.Role n v role) = false
is_of_own l other = true

up_own : (dial : Option Dial) (l wanted : ℕ) (line : Event) → at_link dial l (LinkVerb.Up wanted) line ≡ true → is_of_own l line ≡ true
up_own None l wanted line e = cc
up_own (Some dial) l wanted (Event.Asked (StreamName.Link k) n v ask high log said) e = own (k == l) e
  where
    own : (b : Bool) → (b || false) ≡ true → b ≡ true
    own true z = refl
    own false z = z
up_own (Some dial) l wanted (Event.Role n v role) e = cc
up_own (Some dial) l wanted other e = refl

end_own : (r : Chronicle) (l m : ℕ) (line : Event) → is_of_end r m line ≡ true → is_of_own l line ≡ true
end_own r l m (Event.Asked (StreamName.Link k) n v ask high log said) e = cc
end_own r l m (Event.Role n v role) e = cc
end_own r l m other e = refl

pub all_own : (r : Chronicle) (l wanted : ℕ) (lines : List Event) → TellsOf r (Verb.AtLink l (LinkVerb.Up wanted)) lines → are_all (is_of_own l) lines ≡ true
all_own r l wanted lines t = each_told (may_tell r (Verb.AtLink l (LinkVerb.Up wanted))) (is_of_end r) (is_of_own l) (up_own (r.dial_of l) l wanted) (λ m stops line e. end_own r l m line e) lines t

own_roleless : (l : ℕ) (line : Event) → is_of_own l line ≡ true → is_roleless line ≡ true
own_roleless l (Event.Role n v role) e = cc
own_roleless l other e = refl

own_grant : (l j : ℕ) (line : Event) → (j ≡ l → ⊥) → is_of_own l line ≡ true → is_grant_of j line ≡ false
own_grant l j (Event.Asked (StreamName.Link k) n v ask high log ask_answer.Go) ne e = by (k == j) refl
  where
    by : (b : Bool) → (k == j) ≡ b → b ≡ false
    by true q = absurd (ne (sym (eqb-true k j q) ∙ eqb-true k l e))
    by false q = refl
own_grant l j other ne e = refl

pub own_grants : (l : ℕ) (lines : List Event) → are_all (is_of_own l) lines ≡ true → GrantsAlone l lines
own_grants l [] a j ne = refl
own_grants l (line ∷ lines) a j ne = let p = and_parts (is_of_own l line) (are_all (is_of_own l) lines) a in λ i. own_grant l j line ne p.0 i || own_grants l lines p.1 j ne i

pub roleless_all : (l : ℕ) (lines : List Event) → are_all (is_of_own l) lines ≡ true → are_all is_roleless lines ≡ true
roleless_all l [] a = refl
roleless_all l (line ∷ lines) a = let p = and_parts (is_of_own l line) (are_all (is_of_own l) lines) a in λ i. own_roleless l line p.0 i && roleless_all l lines p.1 i

-- ---- the line

module _ (w : PlainWorld) (r : Chronicle) (wanted : ℕ) (a : Agrees w r) (all : AllKnown w r) where
  abbrev asked : ℕ → Verb
  asked l = Verb.AtLink l (LinkVerb.Up wanted)

  abbrev Known : ℕ → Outcome → Type 0
  Known l o = TellsOf r (asked l) o.1.events → Agrees (with_branches o.1.events o.0) (after_group r (asked l) o.1.events o.1.answer) → AllKnown (with_branches o.1.events o.0) (after_group r (asked l) o.1.events o.1.answer)

  -- a link and its node, by what came up
  module _ (link : PlainLink) (node : PlainNode) (found : row_at link_number (link_number link) w.links ≡ Some link) where
    abbrev n : ℕ
    n = moved_len wanted link.up

    abbrev came : PlainNode × PeerResult
    came = peer_given (take n link.up) (peer_of link) node

    abbrev link' : PlainLink
    link' = with_up link n came.1

    up_link : UpCame came.1.events wanted n link link' → Known (link_number link) (with_link link (with_node_at w (producer_node link) (up_at wanted link node).0, (up_at wanted link node).1))
    up_link c t later =
        let lines : List Event = came.1.events in let l = link_number link in let is = found_is_link l w.links link found in
        let w' : PlainWorld = with_branches lines (with_links (with_node_at w (producer_node link) came.0) (row_put link_number l link' w.links)) in
        let own = all_own r l wanted lines t in let none = roleless_all l lines own in
        moved_known w w' r l (LinkVerb.Up wanted) lines (Answer.Number n) later (own_grants l lines own) (λ x i. ⊎_elim
        (λ e. inl (subst (λ (k : PlainLink). LinkKnown ((after_group r (asked l) lines (Answer.Number n)).takeover_of (link_number k)) k) (sym e)
        (link_up w w' r a.0 lines wanted n link link' c (a.1.links link is.0) later (subst (λ k. IsLink k w'.links) e i) (all link is.0) (none_turns (dial_at link') lines none))))
        (λ old. inr (old.1, x, old.0, link_same (turns_feeder (Some (dial_at x)) lines) x (none_turns (dial_at x) lines none)))
        (put_links l w.links link link' x a.1.differ found refl i)) all

  -- where it is refused
  none_up : (l : ℕ) (links : List PlainLink) (why : Cause) → ((x : PlainLink) → IsLink x links → IsLink x w.links) → Known l (with_links w links, refusal why)
  none_up l links why among t later x i = idle_known (with_branches [] (with_links w links)) r (asked l) (Answer.No why) later x i refl (all x (among x i))

  -- the whole line, by what comes up each link
  pub ups_known : (came_up : (link : PlainLink) (node : PlainNode) (found : row_at link_number (link_number link) w.links ≡ Some link) → w.nodes (producer_node link) ≡ Some node
      → (let x = peer_given (take (moved_len wanted link.up) link.up) (peer_of link) node in UpCame x.1.events wanted (moved_len wanted link.up) link (with_up link (moved_len wanted link.up) x.1)))
      → (l : ℕ) → Known l (on_link w l producer_node (up_at wanted))
  ups_known came_up l = by (row_at link_number l w.links) refl
    where
      at : (link : PlainLink) → row_at link_number (link_number link) w.links ≡ Some link → (o : Option PlainNode) → w.nodes (producer_node link) ≡ o
          → Known (link_number link) (with_link link (node_outcome w (producer_node link) (Some link, refusal Cause.UnknownNode) o (up_at wanted link)))
      at link found None e = none_up (link_number link) (row_put link_number (link_number link) link w.links) Cause.UnknownNode (λ x i. put_among_same x i)
        where
          put_among_same : (x : PlainLink) → IsLink x (row_put link_number (link_number link) link w.links) → IsLink x w.links
          put_among_same x i = ⊎_elim (λ e. subst (λ k. IsLink k w.links) (sym e) (found_is_link (link_number link) w.links link found).0) (λ old. old.0) (put_links (link_number link) w.links link link x a.1.differ found refl i)
      at link found (Some node) e = up_link link node found (came_up link node found e)

      by : (o : Option PlainLink) → row_at link_number l w.links ≡ o → Known l (link_outcome w l producer_node (up_at wanted) o)
      by None e = none_up l w.links Cause.LinkClosed (λ x i. i)
      by (Some link) e = let same = (found_is_link l w.links link e).1 in
          subst (λ k. Known k (link_outcome w k producer_node (up_at wanted) (Some link))) same (at link (ap (λ k. row_at link_number k w.links) same ∙ e) (w.nodes (producer_node link)) refl)
