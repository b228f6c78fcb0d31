-- the line `down`: which lines it tells, and what is known of all links behind it
use Rattle.std.specs.Prelude.{◌≡◌, ◌∷◌, ◌++◌, ◌&&◌, ◌||◌, ◌==◌, ◌⊎◌, if◌then◌else◌}
use Rattle.std.specs.List.{All, list_any}
use Rattle.transcript_law.proofs.Words.{ℕ, Bool, true, false, List, [], refl, ap, sym, ◌∙◌, subst, inl, inr, ⊎_elim, and_parts, eq-eqb, eqb-true, eqb-false, Option, Some, None, All-nil, All-cons, All-head, All-tail, Answer, Cause, Chronicle, DialResult, EndReason, Event, Frame, Granted, LinkVerb, Member, Outcome, Plain, PlainConsumer, PlainLink, PlainNode, PlainProducer, PlainStream, PlainWorld, Role, StaysSound, StreamName, Verb, after_job, consumer_node, dial_bytes, is_follower, link_number, moved_len, node_outcome, over_why, producer_node, refusal, row_at, take, with_link, with_node_at}
use Rattle.transcript_law.proofs.{balance.{Leaving.{dropped_among, out_among, put_among}, Writing.{delivered}}, disks.{ArmedLines.{AreEnds}, Downed.{down_ends}}, lines.DialTold.{KeepsSo, down_so}, verbs.{DownLine.{Leaves, down_came, down_unturned}, Leaving.{row_found}, Tellings.{same_place}}}
use Rattle.transcript_law.proofs.invariant.{Agreement.{Agrees, EndsStand, FollowsBy, IsLink, LinkAgrees, Wants, vb_of}, Carried.{numbers, stream_opened}, LinkRows.{found_is_link}, Noted.{AllFree, AllKept, AllNoted, KeptLink}}
use Rattle.transcript_law.proofs.links.Takes.{DownLeft}
use Rattle.transcript_law.proofs.noted.{DownLefts.{link_went}, Downing.{link_down}, Fitting.{AreNamed, is_ungranting, lines_fit}, Freed.{AllMade, LinesFit}, Groups.{dial_at}, KeptGroups.{RestsOn, link_kept, moved_kept, rests_same}, KeptLines.{is_unceding}, Known.{AllKnown, LinkKnown, Remains, StreamsOn}, Others.{GrantsAlone, OthersRemain, moved_known}, Staying.{streams_same}}
use Rattle.transcript_law.specs.{Asked.{ids_in}, Chronicles.{after_group, ahead}, Feeding.{HasOpen}, Lawfulness.{LinesFrom}, TakeoverNotes.{is_grant_of, is_role_of, turns_feeder}, Tellings.{are_all}}
use Rattle.node_world.specs.{Arms.{fired_by, placed}, Power.{after_broken, disk_end, down_lines, is_broken_answer, with_broken}, Links.{dial_of, left_unless, with_down}, World.{down_in, down_outcome, down_step, link_outcome, relinked}, Worlds.{arm_in}, declared.arm.Fired.{Fired}}
use Rattle.node_world.specs.declared.arm.Fired.TheVariants as fired
use Rattle.dcp_consumer.specs.declared.handshake.Dialed.{Dialed}
use Rattle.takeover.specs.TakingOver.{new_take_over}
use Rattle.takeover.specs.declared.{take_over.TakeOver.{TakeOver}, take_over.TakeStep.{TakeStep}, take_over.TakeStep.TheVariants.{Own, Pend}}
use Rattle.vb_types.specs.declared.stream.AskAnswer.TheVariants as ask_answer

-- ---- its lines

-- they make no branch, ask for no stream of a link, state nothing on one, and tell of no other role than that of the vBucket v of the node n
abbrev pub is_downward : ℕ → ℕ → Event → Bool
is_downward n v (Event.Branch m u uuid parent fork high) = false
is_downward n v (Event.Asked (StreamName.Link l) m u ask high log said) = false
is_downward n v (Event.Role m u role) = m == n && u == v
is_downward n v (Event.Stated (StreamName.Link l) role) = false
is_downward n v other = true

abbrev pub AreDownward : ℕ → ℕ → List Event → Type 0
AreDownward n v lines = are_all (is_downward n v) lines ≡ true

ends_downward : (n v : ℕ) (lines : List Event) → AreEnds lines → AreDownward n v lines
ends_downward n v [] a = refl
ends_downward n v (Event.Ended l reason ∷ lines) a = ends_downward n v lines a
ends_downward n v (Event.Closed m c ∷ lines) a = ends_downward n v lines a
ends_downward n v (other ∷ lines) a = absurd a

more_downward : (n v : ℕ) (xs ys : List Event) → AreDownward n v xs → AreDownward n v ys → AreDownward n v (xs ++ ys)
more_downward n v [] ys a b = b
more_downward n v (x ∷ xs) ys a b = let p = and_parts (is_downward n v x) (are_all (is_downward n v) xs) a in λ i. p.0 i && more_downward n v xs ys p.1 b i

one_unceding : (n v : ℕ) (line : Event) → is_downward n v line ≡ true → is_unceding line ≡ true
one_unceding n v (Event.Stated (StreamName.Link l) role) e = cc
one_unceding n v other e = refl

downward_unceding : (n v : ℕ) (lines : List Event) → AreDownward n v lines → are_all is_unceding lines ≡ true
downward_unceding n v [] a = refl
downward_unceding n v (line ∷ lines) a = let p = and_parts (is_downward n v line) (are_all (is_downward n v) lines) a in λ i. one_unceding n v line p.0 i && downward_unceding n v lines p.1 i

any_keeps : KeepsSo (λ h. Unit {0})
any_keeps = record { streams = λ h k. tt; protocol = tt; disk = tt; frame = λ c f k. tt }

module _ (w : PlainWorld) (link : PlainLink) (wanted : ℕ) where
  open link.consumer.dialed use {node as n, vb as v, link as l}

  abbrev came : Option PlainNode → Outcome
  came o = with_link link (node_outcome w (consumer_node link) (Some link, refusal Cause.UnknownNode) o (down_in wanted link))

  came_are : (o : Option PlainNode) → AreDownward n v (came o).1.events
  came_are None = refl
  came_are (Some node) = down_so (is_downward n v) link.consumer.dialed (λ h. Unit {0}) (λ seq saved. refl) any_keeps (λ log. refl) (λ ss se. refl) (λ c. refl) (λ named to. refl) (λ why k. refl) (λ t new. same_place n v) (λ t uuid c. refl) wanted link node refl tt

  broken_are : (o : Option PlainNode) → AreDownward n v (with_broken n l w (came o)).1.events
  broken_are o = by_answer (is_broken_answer (came o).1.answer)
    where
      by : (f : Fired) → AreDownward n v (after_broken n l (arm_in (w.nodes n)).out f (came o)).1.events
      by fired.No = more_downward n v (came o).1.events (disk_end l) (came_are o) refl
      by fired.Failed = more_downward n v (came o).1.events (Event.CallFailed n ∷ disk_end l) (came_are o) refl
      by fired.Stopped = more_downward n v (came o).1.events (Event.NodeStopped n ∷ down_lines n (Some l) (came o).0) (came_are o) (ends_downward n v (down_lines n (Some l) (came o).0) (down_ends n (Some l) (came o).0))

      by_answer : (b : Bool) → AreDownward n v (let x : Outcome = if b then after_broken n l (arm_in (w.nodes n)).out (fired_by (arm_in (w.nodes n)).fuse (arm_in ((came o).0.nodes n)).fuse) (came o) else came o in x.1.events)
      by_answer true = by (fired_by (arm_in (w.nodes n)).fuse (arm_in ((came o).0.nodes n)).fuse)
      by_answer false = came_are o

-- of a link that is there
pub down_are : (w : PlainWorld) (l wanted : ℕ) (link : PlainLink) → row_at link_number l w.links ≡ Some link → AreDownward link.consumer.dialed.node link.consumer.dialed.vb (down_step w l wanted).1.events
down_are w l wanted link found =
    let (i, is) = found_is_link l w.links link found in
    subst (λ o. AreDownward link.consumer.dialed.node link.consumer.dialed.vb (down_outcome w l o (link_outcome w l consumer_node (down_in wanted) o)).1.events) (sym found)
    (subst (λ k. AreDownward link.consumer.dialed.node link.consumer.dialed.vb (with_broken (consumer_node link) k w (link_outcome w l consumer_node (down_in wanted) (Some link))).1.events) is (broken_are w link wanted (w.nodes (consumer_node link))))

-- of one that is not, none is told
pub down_none : (w : PlainWorld) (l wanted : ℕ) → row_at link_number l w.links ≡ None → (down_step w l wanted).1.events ≡ []
down_none w l wanted none = ap (λ o. (down_outcome w l o (link_outcome w l consumer_node (down_in wanted) o)).1.events) none

-- they fit, and let no link continue
downward_ungranting : (n v : ℕ) (lines : List Event) → AreDownward n v lines → are_all is_ungranting lines ≡ true
downward_ungranting n v [] a = refl
downward_ungranting n v (line ∷ lines) a = let p = and_parts (is_downward n v line) (are_all (is_downward n v) lines) a in λ i. one line p.0 i && downward_ungranting n v lines p.1 i
  where
    one : (line : Event) → is_downward n v line ≡ true → is_ungranting line ≡ true
    one (Event.Asked (StreamName.Link l) m u ask high log said) e = cc
    one other e = refl

downward_named : (n v : ℕ) (lines : List Event) → AreDownward n v lines → AreNamed (ids_in lines)
downward_named n v [] a = tt
downward_named n v (Event.Branch m u uuid parent fork high ∷ lines) a = cc
downward_named n v (line ∷ lines) a = downward_named n v lines (and_parts (is_downward n v line) (are_all (is_downward n v) lines) a).1

pub downward_grants : (n v k : ℕ) (lines : List Event) → AreDownward n v lines → list_any (is_grant_of k) lines ≡ false
downward_grants n v k [] a = refl
downward_grants n v k (line ∷ lines) a = let p = and_parts (is_downward n v line) (are_all (is_downward n v) lines) a in λ i. one line p.0 i || downward_grants n v k lines p.1 i
  where
    one : (line : Event) → is_downward n v line ≡ true → is_grant_of k line ≡ false
    one (Event.Asked (StreamName.Link l) m u ask high log said) e = cc
    one other e = refl

-- another vBucket gets no role
downward_apart : (n v m u : ℕ) (lines : List Event) → AreDownward n v lines → (m ≡ n → u ≡ v → ⊥) → list_any (is_role_of m u) lines ≡ false
downward_apart n v m u [] a ne = refl
downward_apart n v m u (line ∷ lines) a ne = let p = and_parts (is_downward n v line) (are_all (is_downward n v) lines) a in λ i. one line p.0 i || downward_apart n v m u lines p.1 ne i
  where
    neither : (a b : Bool) → (a ≡ true → b ≡ true → ⊥) → (a && b) ≡ false
    neither true true ne = absurd (ne refl refl)
    neither true false ne = refl
    neither false b ne = refl

    one : (line : Event) → is_downward n v line ≡ true → is_role_of m u line ≡ false
    one (Event.Role x y role) e =
        let p = and_parts (x == n) (y == v) e in
        neither (x == m) (y == u) (λ q s. ne (sym (eqb-true x m q) ∙ eqb-true x n p.0) (sym (eqb-true y u s) ∙ eqb-true y v p.1))
    one other e = refl

-- what a `down` tells fits
pub down_fits : (w : PlainWorld) (l wanted : ℕ) (r : Chronicle) → LinesFit r (down_step w l wanted).1.events
down_fits w l wanted r = by (row_at link_number l w.links) refl
  where
    by : (o : Option PlainLink) → row_at link_number l w.links ≡ o → LinesFit r (down_step w l wanted).1.events
    by None e = subst (LinesFit r) (sym (down_none w l wanted e)) tt
    by (Some link) e = let a = down_are w l wanted link e in lines_fit r (down_step w l wanted).1.events (downward_ungranting link.consumer.dialed.node link.consumer.dialed.vb (down_step w l wanted).1.events a) (downward_named link.consumer.dialed.node link.consumer.dialed.vb (down_step w l wanted).1.events a)

-- ---- the links behind it

module _ (w : PlainWorld) (link : PlainLink) (wanted : ℕ) where
  open link.consumer.dialed use {node as n, vb as v, link as l}

  -- the link that is left has its number, and the others were there
  abbrev Old : PlainLink → Type 0
  Old x = (link_number x ≡ l) ⊎ IsLink x w.links

  came_among : (o : Option PlainNode) (x : PlainLink) → IsLink x (came w link wanted o).0.links → Old x
  came_among None x i = ⊎_elim (λ e. inl (ap link_number e)) (λ j. inr j) (put_among l link w.links x i)
  came_among (Some node) x i = by (over_why told.dial.consumer.handshake) x i
    where
      at : PlainNode
      at = placed v node

      piece : List ℕ
      piece = take (moved_len wanted link.down) link.down

      told : DialResult
      told = (after_job (dial_bytes piece (dial_of link)) at.vbs at.shelves).1

      by : (why : Option EndReason) (x : PlainLink) → IsLink x (relinked link (left_unless why (with_down link (moved_len wanted link.down) told)) (with_node_at w (consumer_node link) (down_in wanted link node).0)).links → Old x
      by None x i = ⊎_elim (λ e. inl (ap link_number e ∙ ap (λ (d : Dialed). d.link) (delivered piece (dial_of link) at.vbs at.shelves).dialed)) (λ j. inr j) (put_among l (with_down link (moved_len wanted link.down) told) w.links x i)
      by (Some why) x i = inr (out_among l w.links x i)

  broken_among : (o : Option PlainNode) (x : PlainLink) → IsLink x (with_broken n l w (came w link wanted o)).0.links → Old x
  broken_among o = by_answer (is_broken_answer (came w link wanted o).1.answer)
    where
      by : (f : Fired) (x : PlainLink) → IsLink x (after_broken n l (arm_in (w.nodes n)).out f (came w link wanted o)).0.links → Old x
      by fired.No x i = came_among o x i
      by fired.Failed x i = came_among o x i
      by fired.Stopped x i = came_among o x (dropped_among n (arm_in (w.nodes n)).out (came w link wanted o).0 x i)

      by_answer : (b : Bool) (x : PlainLink) → IsLink x (let y : Outcome = if b then after_broken n l (arm_in (w.nodes n)).out (fired_by (arm_in (w.nodes n)).fuse (arm_in ((came w link wanted o).0.nodes n)).fuse) (came w link wanted o) else came w link wanted o in y.0.links) → Old x
      by_answer true x i = by (fired_by (arm_in (w.nodes n)).fuse (arm_in ((came w link wanted o).0.nodes n)).fuse) x i
      by_answer false x i = came_among o x i

down_among : (w : PlainWorld) (l wanted : ℕ) (link : PlainLink) → row_at link_number l w.links ≡ Some link → (x : PlainLink) → IsLink x (down_step w l wanted).0.links → (link_number x ≡ l) ⊎ IsLink x w.links
down_among w l wanted link found =
    let (i, is) = found_is_link l w.links link found in
    subst (λ o. (x : PlainLink) → IsLink x (down_outcome w l o (link_outcome w l consumer_node (down_in wanted) o)).0.links → (link_number x ≡ l) ⊎ IsLink x w.links) (sym found)
    (subst (λ k. (x : PlainLink) → IsLink x (with_broken (consumer_node link) k w (link_outcome w l consumer_node (down_in wanted) (Some link))).0.links → (link_number x ≡ k) ⊎ IsLink x w.links) is
    (broken_among w link wanted (w.nodes (consumer_node link))))

-- streams of which none is open are ended already
ended_on : (turns : Bool) (ss : List PlainStream) → ((v id : ℕ) → HasOpen v id ss → turns ≡ true → ⊥) → StreamsOn turns ss ss
ended_on turns [] none = tt
ended_on turns (s ∷ ss) none = ((refl, by turns s.ended refl refl), ended_on turns ss (λ v id has. none v id (inr has)))
  where
    by : (t e : Bool) → turns ≡ t → s.ended ≡ e → e ≡ (e || t)
    by t true p q = refl
    by false false p q = refl
    by true false p q = absurd (none s.vb s.id (inl (refl, refl, q)) p)

-- a stream was asked for, so the link's two ends are at two nodes
ends_apart : {fv : Wants} {kn : Member} {pv : Option Plain} {leader : Member} {g : Option Granted} {said : Option Role} {point : Option ℕ} {served : PlainProducer} {asker : PlainConsumer} {up down : List Frame} → EndsStand fv kn pv leader g said point served asker up down
    → (said ≡ None → asker.taking ≡ new_take_over → ⊥) → served.desk.node ≡ asker.dialed.node → ⊥
ends_apart (EndsStand.IsAsking ask none x) some e = some none.1 x.untold
ends_apart (EndsStand.IsRefusedYet none x) some e = some none.1 x.untold
ends_apart (EndsStand.IsStreaming x told) some e = x.serving.apart e
ends_apart (EndsStand.IsHeir x told) some e = x.apart e

module _ (stays : StaysSound) (w : PlainWorld) (r : Chronicle) (wanted : ℕ) (a : Agrees w r) (noted : AllNoted w r) (free : AllFree w r) (link : PlainLink) (found : row_at link_number (link_number link) w.links ≡ Some link) where
  open link.consumer.dialed use {node as n, vb as v, link as l}

  abbrev lines : List Event
  lines = (down_step w l wanted).1.events

  i : IsLink link w.links
  i = (found_is_link l w.links link found).0

  la : LinkAgrees w r a.0 link [] []
  la = a.1.links link i

  are : AreDownward n v lines
  are = down_are w l wanted link found

  -- where they tell of its vBucket's role that followed before
  turned_follows : list_any (is_role_of n v) lines ≡ true → is_follower la.follower.role ≡ true
  turned_follows t = by link.consumer.taking.last refl la.follows
    where
      by : (o : Option TakeStep) → link.consumer.taking.last ≡ o → FollowsBy o la.follower.role → is_follower la.follower.role ≡ true
      by None e f = f
      by (Some Pend) e f = ap is_follower f
      by (Some Own) e f = let z : true ≡ false = sym t ∙ down_unturned stays w r l wanted a noted free link found e in cc

  -- so it feeds no link
  none_fed : (y : PlainLink) → IsLink y w.links → (u id : ℕ) → HasOpen u id y.server.streams → turns_feeder (Some (dial_at y)) lines ≡ true → ⊥
  none_fed y j u id has t =
      let (pv, is, feeds, s, opened, at) = stream_opened w r a.0 y [] [] (a.1.links y j) u id has in
      let apart : (producer_node y ≡ n → y.consumer.dialed.vb ≡ v → ⊥) → ⊥ = λ ne. let z : true ≡ false = sym t ∙ downward_apart n v (producer_node y) y.consumer.dialed.vb lines are ne in cc in
      apart (λ e f.
      let here : vb_of w n v ≡ Some pv = (λ k. vb_of w (sym e k) (sym f k)) ∙ is in
      let same : pv ≡ la.follower = (let z : Some pv ≡ Some la.follower = sym here ∙ la.follower_is in cc) in
      let told : list_any (is_role_of n v) lines ≡ true = (λ k. list_any (is_role_of (sym e k) (sym f k)) lines) ∙ t in
      let z : false ≡ true = sym feeds ∙ ap (λ (x : Plain). is_follower x.role) same ∙ turned_follows told in cc)

  remains : (y : PlainLink) → IsLink y w.links → Remains (turns_feeder (Some (dial_at y)) lines) y y
  remains y j = record { dialed = refl; taking = refl; coming = λ m k. k; streams = ended_on (turns_feeder (Some (dial_at y)) lines) y.server.streams (λ u id has t. none_fed y j u id has t) }

  -- nor its own link's producer
  feeder_apart : (link' : PlainLink) → DownLeft r lines link link' → turns_feeder (Some (dial_at link)) lines ≡ false
  feeder_apart link' d = by (list_any (is_role_of (producer_node link) v) lines) refl
    where
      two : producer_node link ≡ n → list_any (is_role_of n v) lines ≡ true → ⊥
      two e t = ⊎_elim
          (λ x. ⊎_elim
          (λ none. let z : true ≡ false = sym t ∙ none.1 in cc)
          (λ pends. ends_apart la.talk.stands (λ said new. let z : None ≡ Some Role.Pending = sym said ∙ pends.2 in cc) e)
          x)
          (λ owns. ends_apart la.talk.stands (λ said new. let z : None ≡ Some Pend = ap (λ (x : TakeOver). x.last) (sym new) ∙ owns.0 in cc) e)
          d.takes

      by : (b : Bool) → list_any (is_role_of (producer_node link) v) lines ≡ b → list_any (is_role_of (producer_node link) v) lines ≡ false
      by false e = e
      by true e =
          let apart : (producer_node link ≡ n → v ≡ v → ⊥) → ⊥ = λ ne. let z : true ≡ false = sym e ∙ downward_apart n v (producer_node link) v lines are ne in cc in
          absurd (apart (λ q s. two q ((λ k. list_any (is_role_of (sym q k) v) lines) ∙ e)))

  module _ (all : AllKnown w r) (w' : PlainWorld) (same : w'.links ≡ (down_step w l wanted).0.links) (b : Agrees w' (after_group r (Verb.AtLink l (LinkVerb.Down wanted)) lines (down_step w l wanted).1.answer)) where
    abbrev said : Answer
    said = (down_step w l wanted).1.answer

    abbrev after : Chronicle
    after = after_group r (Verb.AtLink l (LinkVerb.Down wanted)) lines said

    own_known : (x : PlainLink) → IsLink x w'.links → link_number x ≡ l → LinkKnown (after.takeover_of (link_number x)) x
    own_known x j e = by said refl (down_came stays w r l wanted a noted free).3
      where
        by : (s : Answer) → said ≡ s → Leaves r l w.links (down_step w l wanted).0.links lines s → LinkKnown (after.takeover_of (link_number x)) x
        by (Answer.Number k) q leaves =
            let d : DownLeft r lines link x = leaves link x found (subst (λ ls. row_at link_number l ls ≡ Some x) same (ap (λ k. row_at link_number k w'.links) (sym e) ∙ row_found w'.links x b.1.differ j)) in
            link_down w w' r a.0 lines wanted said link x (link_went w w' r after a.0 b.0 lines link x d la (b.1.links x j)) la b j (downward_grants n v l lines are) (feeder_apart x d) (all link i)
        by other q leaves = absurd (leaves x (subst (IsLink x) same j) e)

    pub known_behind : AllKnown w' after
    known_behind = moved_known w w' r l (LinkVerb.Down wanted) lines said b (λ k ne. downward_grants n v k lines are)
        (λ x j. ⊎_elim
        (λ e. inl (own_known x j e))
        (λ old. elim (numbers (link_number x) l) [ inl e ↦ inl (own_known x j e) | inr ne ↦ inr (ne, x, old, remains x old) ])
        (down_among w l wanted link found x (subst (IsLink x) same j)))
        all

    -- ---- who was given up for a stream whose rest is sent is the writer yet

    module _ (from : LinesFrom (ahead r (Verb.AtLink l (LinkVerb.Down wanted)) said) r.conn_at lines) (made : AllMade r) (kept : AllKept w r) where
      cedes : are_all is_unceding lines ≡ true
      cedes = downward_unceding n v lines are

      own_kept : (x : PlainLink) → IsLink x w'.links → link_number x ≡ l → KeptLink after x
      own_kept x j e = by said refl (down_came stays w r l wanted a noted free).3
        where
          by : (s : Answer) → said ≡ s → Leaves r l w.links (down_step w l wanted).0.links lines s → KeptLink after x
          by (Answer.Number k) q leaves =
              let d : DownLeft r lines link x = leaves link x found (subst (λ ls. row_at link_number l ls ≡ Some x) same (ap (λ k. row_at link_number k w'.links) (sym e) ∙ row_found w'.links x b.1.differ j)) in
              link_kept w w' r (Verb.AtLink l (LinkVerb.Down wanted)) lines said a from made b link x i j d.dialed refl (downward_grants n v (link_number x) lines are) cedes
              (subst (λ (p : PlainProducer). RestsOn link.server.streams p.streams) (sym d.server) (rests_same link.server.streams)) (kept link i)
          by other q leaves = absurd (leaves x (subst (IsLink x) same j) e)

      pub kept_behind : AllKept w' after
      kept_behind = moved_kept w w' r l (LinkVerb.Down wanted) lines said a from made b (λ k ne. downward_grants n v k lines are) cedes
          (λ x j. ⊎_elim
          (λ e. inl (own_kept x j e))
          (λ old. elim (numbers (link_number x) l) [ inl e ↦ inl (own_kept x j e) | inr ne ↦ inr (ne, x, old, remains x old) ])
          (down_among w l wanted link found x (subst (IsLink x) same j)))
          kept

-- all is known of links behind a `down`, in a world that has the links of the one that it leaves
abbrev pub KnownBehind : PlainWorld → PlainWorld → Chronicle → ℕ → ℕ → Type 0
KnownBehind w w' r l wanted = let o = down_step w l wanted in w'.links ≡ o.0.links → Agrees w' (after_group r (Verb.AtLink l (LinkVerb.Down wanted)) o.1.events o.1.answer) → AllKnown w' (after_group r (Verb.AtLink l (LinkVerb.Down wanted)) o.1.events o.1.answer)

pub down_known : (stays : StaysSound) (w w' : PlainWorld) (r : Chronicle) (l wanted : ℕ) → Agrees w r → AllNoted w r → AllFree w r → AllKnown w r → KnownBehind w w' r l wanted
down_known stays w w' r l wanted a noted free all same b = by (row_at link_number l w.links) refl
  where
    by : (o : Option PlainLink) → row_at link_number l w.links ≡ o → AllKnown w' (after_group r (Verb.AtLink l (LinkVerb.Down wanted)) (down_step w l wanted).1.events (down_step w l wanted).1.answer)
    by (Some link) e =
        let is = (found_is_link l w.links link e).1 in
        subst (λ k. KnownBehind w w' r k wanted) is (λ s c. known_behind stays w r wanted a noted free link (subst (λ k. row_at link_number k w.links ≡ Some link) (sym is) e) all w' s c) same b
    by None e =
        let none = down_none w l wanted e in
        moved_known w w' r l (LinkVerb.Down wanted) (down_step w l wanted).1.events (down_step w l wanted).1.answer b (λ k ne. ap (list_any (is_grant_of k)) none)
        (λ x j.
        let old : IsLink x w.links = subst (IsLink x) (same ∙ ap (λ o. (down_outcome w l o (link_outcome w l consumer_node (down_in wanted) o)).0.links) e) j in
        inr ((λ q. let z : Some x ≡ None = sym (row_found w.links x a.1.differ old) ∙ ap (λ k. row_at link_number k w.links) q ∙ e in cc), x, old, record { dialed = refl; taking = refl; coming = λ m k. k; streams = streams_same (turns_feeder (Some (dial_at x)) (down_step w l wanted).1.events) x.server.streams (ap (turns_feeder (Some (dial_at x))) none) }))
        all

-- and so is all kept
abbrev pub KeptBehind : PlainWorld → PlainWorld → Chronicle → ℕ → ℕ → Type 0
KeptBehind w w' r l wanted = let o = down_step w l wanted in let asked : Verb = Verb.AtLink l (LinkVerb.Down wanted) in
    LinesFrom (ahead r asked o.1.answer) r.conn_at o.1.events → w'.links ≡ o.0.links → Agrees w' (after_group r asked o.1.events o.1.answer) → AllKept w' (after_group r asked o.1.events o.1.answer)

pub down_kept : (stays : StaysSound) (w w' : PlainWorld) (r : Chronicle) (l wanted : ℕ) → Agrees w r → AllNoted w r → AllFree w r → AllKnown w r → AllMade r → AllKept w r → KeptBehind w w' r l wanted
down_kept stays w w' r l wanted a noted free all made kept from same b = by (row_at link_number l w.links) refl
  where
    by : (o : Option PlainLink) → row_at link_number l w.links ≡ o → AllKept w' (after_group r (Verb.AtLink l (LinkVerb.Down wanted)) (down_step w l wanted).1.events (down_step w l wanted).1.answer)
    by (Some link) e =
        let is = (found_is_link l w.links link e).1 in
        subst (λ k. KeptBehind w w' r k wanted) is (λ f s c. kept_behind stays w r wanted a noted free link (subst (λ k. row_at link_number k w.links ≡ Some link) (sym is) e) all w' s c f made kept) from same b
    by None e =
        let none = down_none w l wanted e in
        moved_kept w w' r l (LinkVerb.Down wanted) (down_step w l wanted).1.events (down_step w l wanted).1.answer a from made b (λ k ne. ap (list_any (is_grant_of k)) none) (ap (are_all is_unceding) none)
        (λ x j.
        let old : IsLink x w.links = subst (IsLink x) (same ∙ ap (λ o. (down_outcome w l o (link_outcome w l consumer_node (down_in wanted) o)).0.links) e) j in
        inr ((λ q. let z : Some x ≡ None = sym (row_found w.links x a.1.differ old) ∙ ap (λ k. row_at link_number k w.links) q ∙ e in cc), x, old, record { dialed = refl; taking = refl; coming = λ m k. k; streams = streams_same (turns_feeder (Some (dial_at x)) (down_step w l wanted).1.events) x.server.streams (ap (turns_feeder (Some (dial_at x))) none) }))
        kept
