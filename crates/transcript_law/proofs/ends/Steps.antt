-- each line of a script tells the ends of the links that end with it
use Rattle.std.specs.Prelude.{◌≡◌, ◌<◌, ◌⊎◌, ◌∷◌, ◌++◌, ◌==◌, ◌&&◌, ◌||◌, if◌then◌else◌}
use Rattle.std.specs.List.{filter, find}
use Rattle.transcript_law.proofs.Words.{ℕ, Bool, true, false, List, [], refl, ap, sym, ◌∙◌, subst, inl, inr, ⊎_elim, not, take, list_any, and_parts, eqb-true, eqb-false, eq-eqb, Option, Some, None, is_some, AdminCall, AdminResult, Answer, Cause, Chronicle, Event, EndReason, LinkVerb, Role, PlainLink, PlainNode, PlainWorld, Outcome, Told, VbAnswer, VbReply}
use Rattle.transcript_law.proofs.Words.{admin_call, admin_result, after_job, after_lines, called_at, consumer_node, cut_off, cut_outcome, dial_of, is_taken, link_causes, link_number, link_ended, links_ended, moved_len, no_node, node_outcome, on_link, own_link, peer_of, producer_node, pump_at, refusal, refused_or, role_outcome, row_at, row_out, turned_after, turned_if, unlinked, up_at, with_dialed, with_ended, with_link, with_links, with_node_at}
use Rattle.dcp_consumer.specs.Machine.{over_why}
use Rattle.node_core.specs.{Admin.{admin_job, admin_refused, promote_result, role_at, role_noted, role_result}, Dials.{DialResult, PlainDial, bytes_counted, bytes_taken, dial_bytes, fault_met, frames_taken, is_broken, rest_met, untold, with_end_line, with_last_line, with_left}}
use Rattle.mcbp_frame.specs.Cutting.{front_fault, frames_in}
use Rattle.node_core.specs.Calls.{own_lines}
use Rattle.node_world.proofs.Keeping.{fed_dialed}
use Rattle.node_world.specs.{Arms.{fired_by, placed, under_arm}, Links.{down_answer, left_unless, with_down}, Power.{after_broken, after_fire, disk_end, down_lines, dropped, is_broken_answer, is_this_number, is_touched, with_arm, with_broken}, Turns.{posted_at, posted_in, role_called}, Nodes.{all_posted}, World.{down_in, down_outcome, down_step, link_outcome, relinked}, Worlds.{arm_in}}
use Rattle.node_world.specs.declared.arm.Fired.{Fired}
use Rattle.node_world.specs.declared.arm.Fired.TheVariants as fired
use Rattle.transcript_law.proofs.ends.{Links.{AllLinked, IsThere, Kept, down_ends, kept_behind, kept_both, kept_dropped, kept_front, kept_out, kept_put, kept_same, kept_told, none_at, small}, Told.{EndsIn, goes_on, in_behind, in_front}}
use Rattle.transcript_law.proofs.{disks.Fired.{ends_calm}, invariant.{Agreement.{Agrees, IsLink, LinksDiffer}, LinkRows.{found_is_link, links_apart}}, invariant.Numbered.{told_there}, lines.Calm.{AnyAsk, Calm, Still, any_job, down_calm}, links.Turning.{NoneFeeds, told_alike, told_is_link}}
use Rattle.transcript_law.proofs.verbs.{Asking.{armed_behind}, Leaving.{none_found, own_found}, LinkTellings.{came_dialed}, StopTellings.{AreDialed, dial_told, refused_dialed, role_dialed, world_dialed}}
use Rattle.transcript_law.specs.{Ends.{Dials, NoneAt, NoneFor, NoneStopped, NoneTurned}, Asked.{turns_in}, Firings.{FiresAsSaid, mishaps}, LinesTold.{Dial, is_dial_at, is_dial_for}}
use Rattle.vb_calls.proofs.JobConduct.{after_job_always, always_bind_job}
use Rattle.vb_calls.specs.Flushes.{role_job}
use Rattle.vb_calls.specs.Jobs.{AlwaysJob, Ended, Job}
use Rattle.vb_calls.specs.Programs.{AnyCall, AnyReply}
use Rattle.vb_calls.specs.Shelves.{Shelves}
use Rattle.vb_calls.specs.States.{States}
use Rattle.vb_calls.specs.declared.calls.Resolved.{Resolved}
use Rattle.vb_calls.specs.declared.calls.VbAnswer.TheVariants as answer
use Rattle.vb_disk.specs.declared.made.Outcome.{Outcome as Left}

-- ---- lines that tell of no stop

pub calm_free : (dials : Dials) (lines : List Event) → Calm lines → NoneStopped dials lines
calm_free dials [] c = tt
calm_free dials (Event.NodeStopped n ∷ lines) c = cc
calm_free dials (Event.CallFailed n ∷ lines) c = cc
calm_free dials (Event.Rolled n v named to ∷ lines) c = cc
calm_free dials (line ∷ lines) c = calm_free dials lines c

pub still_free : (dials : Dials) (lines : List Event) → Still lines → NoneStopped dials lines
still_free dials [] c = tt
still_free dials (Event.NodeStopped n ∷ lines) c = cc
still_free dials (Event.CallFailed n ∷ lines) c = cc
still_free dials (Event.Rolled n v named to ∷ lines) c = still_free dials lines c
still_free dials (line ∷ lines) c = still_free dials lines c

-- or of this one
pub stop_free : (dials : Dials) (n : ℕ) (lines : List Event) → NoneAt dials n → mishaps lines ≡ Event.NodeStopped n ∷ [] → NoneStopped dials lines
stop_free dials n [] at c = tt
stop_free dials n (Event.NodeStopped m ∷ lines) at c = let same : m ≡ n = cc in let rest : mishaps lines ≡ [] = cc in (subst (NoneAt dials) (sym same) at, calm_free dials lines rest)
stop_free dials n (Event.CallFailed m ∷ lines) at c = cc
stop_free dials n (Event.Rolled m v named to ∷ lines) at c = cc
stop_free dials n (line ∷ lines) at c = stop_free dials n lines at c

pub fail_free : (dials : Dials) (n : ℕ) (lines : List Event) → mishaps lines ≡ Event.CallFailed n ∷ [] → NoneStopped dials lines
fail_free dials n [] c = tt
fail_free dials n (Event.NodeStopped m ∷ lines) c = cc
fail_free dials n (Event.CallFailed m ∷ lines) c = let rest : mishaps lines ≡ [] = cc in calm_free dials lines rest
fail_free dials n (Event.Rolled m v named to ∷ lines) c = cc
fail_free dials n (line ∷ lines) c = fail_free dials n lines c

-- a line that calls a disk of the node n
pub fired_free : (dials : Dials) (n : ℕ) (lines : List Event) (said : Answer) → FiresAsSaid (Some n) lines said → (said ≡ Answer.No Cause.Stopped → NoneAt dials n) → NoneStopped dials lines
fired_free dials n lines (Answer.No Cause.Disk) f at = fail_free dials n lines f
fired_free dials n lines (Answer.No Cause.Stopped) f at = stop_free dials n lines (at refl) f
fired_free dials n lines other f at = calm_free dials lines f

-- more lines
pub stopped_more : (dials : Dials) (xs ys : List Event) → NoneStopped dials xs → NoneStopped dials ys → NoneStopped dials (xs ++ ys)
stopped_more dials [] ys s t = t
stopped_more dials (Event.NodeStopped n ∷ xs) ys s t = (s.0, stopped_more dials xs ys s.1 t)
stopped_more dials (line ∷ xs) ys s t = stopped_more dials xs ys s t

-- ---- the last line of a link whose consumer is over

-- its end is told, unless the disk is why
abbrev TellsOver : DialResult → Type 0
TellsOver s = (why : EndReason) → over_why s.dial.consumer.handshake ≡ Some why → is_broken (Some why) ≡ false → EndsIn s.dial.consumer.dialed.link s.events

last_tells : (t : DialResult) → TellsOver (with_last_line t)
last_tells t = by (over_why t.dial.consumer.handshake) refl
  where
    by : (o : Option EndReason) → over_why t.dial.consumer.handshake ≡ o → TellsOver (with_end_line o t)
    by None e = λ why is b. let z : None ≡ Some why = sym e ∙ is in cc
    by (Some why) e = told (is_broken (Some why)) refl
      where
        told : (b : Bool) → is_broken (Some why) ≡ b → TellsOver (if b then t else record t { events = t.events ++ Event.Ended t.dial.consumer.dialed.link why ∷ [] })
        told true q = λ other is b. let same : Some why ≡ Some other = sym e ∙ is in let z : true ≡ false = sym q ∙ ap is_broken same ∙ b in cc
        told false q = λ other is b. in_behind t.dial.consumer.dialed.link t.events (Event.Ended t.dial.consumer.dialed.link why ∷ []) (inl refl)

pub given_tells : (piece : List ℕ) (dial : PlainDial) (states : States) (shelves : Shelves) → TellsOver (after_job (dial_bytes piece dial) states shelves).1
unfolding bytes_taken
given_tells piece dial states shelves =
    let bytes : List ℕ = dial.heard ++ piece in let s : DialResult = with_left (untold dial) bytes in
    after_job_always AnyCall AnyAsk (TellsOver) (dial_bytes piece dial) states shelves
    (always_bind_job AnyReply AnyCall AnyAsk (λ t. Unit {0}) (TellsOver) (frames_taken (frames_in bytes) s) (rest_met (frames_in bytes)) (any_job (frames_taken (frames_in bytes) s))
    (λ t any. last_tells (bytes_counted (frames_in bytes) (fault_met (front_fault t.dial.heard) t))))

-- ---- lines under an arm

module _ (w : PlainWorld) (r : Chronicle) (a : Agrees w r) (linked : AllLinked w r.dial_of) where
  -- the links go on, or are told over, and none is left at a node that stopped
  abbrev pub Ends : Outcome → Type 0
  Ends o = Kept w.links o.0.links o.1.events × NoneStopped (after_lines r o.1.events).dial_of o.1.events

  pub calm_ends : (o : Outcome) → Kept w.links o.0.links o.1.events → Calm o.1.events → Ends o
  calm_ends o kept calm = (kept, calm_free (after_lines r o.1.events).dial_of o.1.events calm)

  -- the node stops behind these lines
  stops_ends : (n : ℕ) (also : Option ℕ) (out : Left) (w1 : PlainWorld) (lines : List Event) → AreDialed r w1.links → Kept w.links w1.links (lines ++ Event.NodeStopped n ∷ down_lines n also w1) → ((dials : Dials) → NoneStopped dials lines)
      → (let all = lines ++ Event.NodeStopped n ∷ down_lines n also w1 in Kept w.links (dropped n out w1).links all × NoneStopped (after_lines r all).dial_of all)
  stops_ends n also out w1 lines d kept free =
      let down : List Event = down_lines n also w1 in let all : List Event = lines ++ Event.NodeStopped n ∷ down in let dials : Dials = (after_lines r all).dial_of in (
        kept_both w.links w1.links (dropped n out w1).links all kept (kept_behind w1.links (dropped n out w1).links lines (Event.NodeStopped n ∷ down) (kept_dropped w r a linked n also w1 d out)),
        stopped_more dials lines (Event.NodeStopped n ∷ down) (free dials)
            (none_at w r a linked n also w1 d all kept (λ l told. in_behind l lines (Event.NodeStopped n ∷ down) told), calm_free dials down (ends_calm n also w1)),
      )

  pub armed_ends : (n : ℕ) (came : Outcome) → AreDialed r came.0.links → Kept w.links came.0.links came.1.events → Calm came.1.events → Ends (with_arm n w came)
  armed_ends n came d kept calm = by (fired_by (arm_in (w.nodes n)).fuse (arm_in (came.0.nodes n)).fuse)
    where
      by : (f : Fired) → Ends (after_fire n (arm_in (w.nodes n)).out f came)
      by fired.No = calm_ends came kept calm
      by fired.Failed = let all : List Event = came.1.events ++ Event.CallFailed n ∷ [] in let dials : Dials = (after_lines r all).dial_of in
          (kept_front w.links came.0.links came.1.events (Event.CallFailed n ∷ []) kept, stopped_more dials came.1.events (Event.CallFailed n ∷ []) (calm_free dials came.1.events calm) tt)
      by fired.Stopped = stops_ends n None (arm_in (w.nodes n)).out came.0 came.1.events d (kept_front w.links came.0.links came.1.events (Event.NodeStopped n ∷ down_lines n None came.0) kept) (λ dials. calm_free dials came.1.events calm)

  -- ---- bytes for a link's consumer

  module _ (l : ℕ) (link : PlainLink) (is : IsLink link w.links) (number : link_number link ≡ l) (wanted : ℕ) where
    -- what they come to, unless the disk ended the link
    abbrev came : Option PlainNode → Outcome
    came o = with_link link (node_outcome w (consumer_node link) (Some link, refusal Cause.UnknownNode) o (down_in wanted link))

    abbrev KeptBut : Outcome → Type 0
    KeptBut o = (is_broken_answer o.1.answer ≡ false → Kept w.links o.0.links o.1.events) × ((more : List Event) → EndsIn l more → Kept w.links o.0.links (o.1.events ++ more))

    came_kept : (o : Option PlainNode) → KeptBut (came o)
    came_kept None = (λ e. kept_put (link_number link) link w.links [] refl, λ more told. kept_put (link_number link) link w.links more refl)
    came_kept (Some node) = by (over_why given.dial.consumer.handshake) refl
      where
        at : PlainNode
        at = placed link.consumer.dialed.vb node

        piece : List ℕ
        piece = take (moved_len wanted link.down) link.down

        given : DialResult
        given = (after_job (dial_bytes piece (dial_of link)) at.vbs at.shelves).1

        same : given.dial.consumer.dialed ≡ link.consumer.dialed
        same = fed_dialed piece (dial_of link) at.vbs at.shelves

        told : (why : EndReason) → over_why given.dial.consumer.handshake ≡ Some why → is_broken (Some why) ≡ false → EndsIn (link_number link) given.events
        told why e b = subst (λ k. EndsIn k given.events) (ap (λ d. d.link) same) (given_tells piece (dial_of link) at.vbs at.shelves why e b)

        broken : (b : Bool) → b ≡ true → is_broken_answer (if b then Answer.No Cause.Disk else Answer.Number (moved_len wanted link.down)) ≡ true
        broken true e = refl
        broken false e = cc

        whole : (b : Bool) → b ≡ false → is_broken_answer (if b then Answer.No Cause.Disk else Answer.Number (moved_len wanted link.down)) ≡ false
        whole true e = cc
        whole false e = refl

        by : (o : Option EndReason) → over_why given.dial.consumer.handshake ≡ o → KeptBut (relinked link (left_unless o (with_down link (moved_len wanted link.down) given)) (with_node_at w (consumer_node link) (down_in wanted link node).0), record { events = given.events; answer = down_answer (moved_len wanted link.down) o })
        by None e = let link' : PlainLink = with_down link (moved_len wanted link.down) given in
            (λ b. kept_put (link_number link) link' w.links given.events (ap (λ d. d.link) same), λ more ends. kept_put (link_number link) link' w.links (given.events ++ more) (ap (λ d. d.link) same))
        by (Some why) e = over (is_broken (Some why)) refl
          where
            over : (b : Bool) → is_broken (Some why) ≡ b → KeptBut (unlinked link (with_node_at w (consumer_node link) (down_in wanted link node).0), record { events = given.events; answer = if b then Answer.No Cause.Disk else Answer.Number (moved_len wanted link.down) })
            over true t = (λ b. cc, λ more ends. kept_out (link_number link) w.links (given.events ++ more) (in_behind (link_number link) given.events more (subst (λ k. EndsIn k more) (sym number) ends)))
            over false t = (λ b. kept_out (link_number link) w.links given.events (told why e t), λ more ends. kept_out (link_number link) w.links (given.events ++ more) (in_front (link_number link) given.events more (told why e t)))

    module _ (o : Option PlainNode) where
      abbrev n : ℕ
      n = consumer_node link

      abbrev x : Outcome
      x = came o

      free : (dials : Dials) → NoneStopped dials x.1.events
      free dials = free_of o
        where
          free_of : (k : Option PlainNode) → NoneStopped dials (came k).1.events
          free_of None = tt
          free_of (Some node) = still_free dials (down_in wanted link node).1.1.events (down_calm wanted link node)

      low : l < 1000
      low = subst (λ k. k < 1000) number (a.1.ends link is).number

      behind : (more : List Event) → EndsIn l more → ((dials : Dials) → NoneStopped dials more) → Ends (x.0, record x.1 { events = x.1.events ++ more })
      behind more told calm = let dials : Dials = (after_lines r (x.1.events ++ more)).dial_of in ((came_kept o).1 more told, stopped_more dials x.1.events more (free dials) (calm dials))

      fires : (f : Fired) → Ends (after_broken n l (arm_in (w.nodes n)).out f x)
      fires fired.No = behind (disk_end l) (inl refl) (λ dials. tt)
      fires fired.Failed = behind (Event.CallFailed n ∷ disk_end l) (inl refl) (λ dials. tt)
      fires fired.Stopped = stops_ends n (Some l) (arm_in (w.nodes n)).out x.0 x.1.events (came_dialed w r a l link is number wanted o)
          ((came_kept o).1 (Event.NodeStopped n ∷ down_lines n (Some l) x.0) (down_ends n (Some l) x.0 l low (ap (λ b. b || is_touched n (row_at link_number l x.0.links)) (eq-eqb l l refl)))) free

      broken_ends : Ends (with_broken n l w x)
      broken_ends = answered (is_broken_answer x.1.answer) refl
        where
          answered : (b : Bool) → is_broken_answer x.1.answer ≡ b → Ends (if b then after_broken n l (arm_in (w.nodes n)).out (fired_by (arm_in (w.nodes n)).fuse (arm_in (x.0.nodes n)).fuse) x else x)
          answered true t = fires (fired_by (arm_in (w.nodes n)).fuse (arm_in (x.0.nodes n)).fuse)
          answered false t = ((came_kept o).0 t, free (after_lines r x.1.events).dial_of)

  pub down_line_ends : (l wanted : ℕ) → Ends (down_step w l wanted)
  down_line_ends l wanted = by (row_at link_number l w.links) refl
    where
      by : (o : Option PlainLink) → row_at link_number l w.links ≡ o → Ends (down_outcome w l o (link_outcome w l consumer_node (down_in wanted) o))
      by None e = (kept_same w.links w.links [] refl, tt)
      by (Some link) e = let p = found_is_link l w.links link e in broken_ends l link p.0 p.1 wanted (w.nodes (consumer_node link))

  -- ---- changes of role

  module _ (n v : ℕ) (asked : AdminCall) (job : admin_job n v asked ≡ role_at n v asked) (silent : (o : Option VbReply) → (let told = admin_result n v asked o in told.ended ≡ None → told.events ≡ [])) where
    abbrev IsSilent : AdminResult → Type 0
    IsSilent told = told.ended ≡ None → told.events ≡ []

    -- each link that fed the vBucket is told over
    abbrev pub FeedsEnd : List Event → Type 0
    FeedsEnd lines = (x : PlainLink) → IsLink x w.links → consumer_node x ≡ n → x.consumer.dialed.vb ≡ v → EndsIn (link_number x) lines

    abbrev pub Turns : Outcome → Type 0
    Turns o = Kept w.links o.0.links o.1.events × ((o.1.events ≡ []) ⊎ FeedsEnd o.1.events)

    called_silent : (node : PlainNode) → IsSilent (role_called n v asked node).1
    called_silent node = by (is_some node.off)
      where
        made : (at : PlainNode) → IsSilent (called_at n v asked at).1
        made at = subst (λ (j : Job AdminResult). IsSilent (after_job j at.vbs at.shelves).1) (sym job)
            (after_job_always AnyCall AnyAsk IsSilent (role_at n v asked) at.vbs at.shelves
            (always_bind_job AnyReply AnyCall AnyAsk (λ made. Unit {0}) IsSilent (role_job v (admin_call asked)) (λ made. Ended (role_noted n v asked made)) (any_job (role_job v (admin_call asked))) (λ made any. silent made.0)))

        by : (b : Bool) → IsSilent (let x : PlainNode × AdminResult = if b then (node, admin_refused Cause.NodeDown) else under_arm v (called_at n v asked) node in x.1)
        by true = λ e. refl
        by false = made (placed v node)

    -- the one that fed it is told over, where there was one
    own_ends : (ids : List ℕ) (w2 : PlainWorld) → FeedsEnd (cut_off (own_link n v (links_ended n v ids w.links)) w2).1
    own_ends ids w2 x i at_node at_vb = by (own_link n v (links_ended n v ids w.links)) refl
      where
        all : List PlainLink
        all = links_ended n v ids w.links

        alike : (z : PlainLink) → (link_ended n v ids z).consumer.dialed ≡ z.consumer.dialed
        alike z = (told_alike n v ids z).dialed

        by : (o : Option PlainLink) → own_link n v all ≡ o → EndsIn (link_number x) (cut_off o w2).1
        by None e = absurd (none_found n v all e (link_ended n v ids x) (told_there n v ids x w.links i) (ap (λ d. d.node) (alike x) ∙ at_node) (ap (λ d. d.vb) (alike x) ∙ at_vb))
        by (Some y) e =
            let p = own_found n v all y e in let (z, j, same) = told_is_link n v ids w.links y p.0 in
            let dialed : y.consumer.dialed ≡ z.consumer.dialed = ap (λ (k : PlainLink). k.consumer.dialed) same ∙ alike z in
            apart y z j dialed (sym (ap (λ d. d.node) dialed) ∙ p.1) (sym (ap (λ d. d.vb) dialed) ∙ p.2) (link_number x == link_number z) refl
          where
            apart : (y z : PlainLink) → IsLink z w.links → y.consumer.dialed ≡ z.consumer.dialed → consumer_node z ≡ n → z.consumer.dialed.vb ≡ v → (b : Bool) → (link_number x == link_number z) ≡ b → (link_number x ≡ link_number y) ⊎ ⊥
            apart y z j dialed s t true q = inl (eqb-true (link_number x) (link_number z) q ∙ sym (ap (λ d. d.link) dialed))
            apart y z j dialed s t false q = absurd ((links_apart x z w.links a.1.differ i j (eqb-false (link_number x) (link_number z) q)).follower (at_node ∙ sym s) (at_vb ∙ sym t))

    posted_turns : (w3 : PlainWorld) (t : Told) (rs : List Resolved) → Kept w.links w3.links t.events → FeedsEnd t.events → Turns (posted_in n rs (w3, t))
    posted_turns w3 t rs kept ends = by (w3.nodes n)
      where
        by : (o : Option PlainNode) → Turns (posted_at n rs w3 t o)
        by None = (kept, inr ends)
        by (Some node) = let more : List Event = (all_posted rs node).1 in (kept_front w.links w3.links t.events more kept, inr (λ x i s e. in_front (link_number x) t.events more (ends x i s e)))

    cut_kept : (links : List PlainLink) (o : Option PlainLink) (w2 : PlainWorld) → Kept links w2.links (cut_off o w2).1 → Kept links (cut_off o w2).0.links (cut_off o w2).1
    cut_kept links None w2 kept = kept
    cut_kept links (Some link) w2 kept = kept_both links w2.links (row_out link_number (link_number link) w2.links) (Event.Ended (link_number link) EndReason.Cut ∷ []) kept (kept_out (link_number link) w2.links (Event.Ended (link_number link) EndReason.Cut ∷ []) (inl refl))

    role_turns : Turns (role_outcome n v asked w)
    role_turns = by (w.nodes n)
      where
        ended : (o : Option (List ℕ)) (node : PlainNode) (told : AdminResult) → told.ended ≡ o → IsSilent told → Turns (turned_if n v w o (with_node_at w n node, told))
        ended None node told e quiet = (kept_same w.links w.links told.events refl, inl (quiet e))
        ended (Some ids) node told e quiet =
            let w2 : PlainWorld = with_ended n v ids (with_node_at w n node) in let own = own_link n v w2.links in let cut : List Event = (cut_off own w2).1 in
            posted_turns (cut_off own w2).0 (record { events = cut ++ told.events; answer = told.answer }) told.resolved
            (kept_front w.links (cut_off own w2).0.links cut told.events (cut_kept w.links own w2 (kept_told n v ids w.links cut)))
            (λ x i s t. in_front (link_number x) cut told.events (own_ends ids w2 x i s t))

        by : (o : Option PlainNode) → Turns (turned_after n v w (node_outcome w n no_node o (role_called n v asked)))
        by None = (kept_same w.links w.links [] refl, inl refl)
        by (Some node) = let x = role_called n v asked node in ended x.1.ended x.0 x.1 refl (called_silent node)

    refused_turns : (why : Option Cause) → Turns (refused_or why w (role_outcome n v asked w))
    refused_turns None = role_turns
    refused_turns (Some why) = (kept_same w.links w.links [] refl, inl refl)

    -- so none feeds the vBucket behind its lines
    none_for : (lines : List Event) → FeedsEnd lines → NoneFor (after_lines r lines).dial_of n v
    none_for lines ends l = by ((after_lines r lines).dial_of l) refl
      where
        fed : (dial : Dial) → r.dial_of l ≡ Some dial → is_dial_for n v (Some dial) ≡ true → EndsIn l lines
        fed dial was t =
            let (x, i, s) = linked l dial was in
            let same : Some (dial_told x) ≡ Some dial = sym (world_dialed w r a x i) ∙ ap r.dial_of s ∙ was in
            let p = and_parts (consumer_node x == n) (x.consumer.dialed.vb == v) (ap (is_dial_for n v) same ∙ t) in
            subst (λ k. EndsIn k lines) s (ends x i (eqb-true (consumer_node x) n p.0) (eqb-true x.consumer.dialed.vb v p.1))

        still : (dial : Dial) → (after_lines r lines).dial_of l ≡ Some dial → (b : Bool) → is_dial_for n v (Some dial) ≡ b → b ≡ false
        still dial e false t = refl
        still dial e true t = let p = goes_on r lines l dial e in absurd (p.1 (fed dial p.0 t))

        by : (o : Option Dial) → (after_lines r lines).dial_of l ≡ o → is_dial_for n v o ≡ false
        by None e = refl
        by (Some dial) e = still dial e (is_dial_for n v (Some dial)) refl

    pub role_ends : (why : Option Cause) → (let came = refused_or why w (role_outcome n v asked w) in Calm came.1.events → (let o = with_arm n w came in Ends o × NoneTurned (after_lines r o.1.events).dial_of n v o.1.events))
    role_ends why calm =
        let came : Outcome = refused_or why w (role_outcome n v asked w) in let t : Turns came = refused_turns why in let o : Outcome = with_arm n w came in
        let dialed = world_dialed w r a in let (behind, is, none) = armed_behind n w came in (
          armed_ends n came (refused_dialed r why w (role_outcome n v asked w) dialed (role_dialed r n v asked w dialed)) t.0 calm,
          ⊎_elim
              (λ e. inl (ap turns_in (is ∙ ap (λ ls. ls ++ behind) e) ∙ none))
              (λ ends. inr (none_for o.1.events (λ x i s e. subst (EndsIn (link_number x)) (sym is) (in_front (link_number x) came.1.events behind (ends x i s e)))))
              t.1,
        )

-- what is told of a call that ended no streams, as it was refused
pub rises_silent : (n v uuid : ℕ) (o : Option VbReply) → (let told = admin_result n v (AdminCall.Promote uuid) o in told.ended ≡ None → told.events ≡ [])
rises_silent n v uuid None = λ e. refl
rises_silent n v uuid (Some reply) = by reply.answer
  where
    by : (a : VbAnswer) → (let told = promote_result n v reply a in told.ended ≡ None → told.events ≡ [])
    by (answer.Branch u parent fork high) = λ e. cc
    by (answer.Status st) = λ e. refl
    by other = λ e. refl

turns_silent : (n v : ℕ) (role : Role) (reply : VbReply) (a : VbAnswer) → (let told = role_result n v role reply a in told.ended ≡ None → told.events ≡ [])
turns_silent n v role reply answer.Done = λ e. cc
turns_silent n v role reply other = λ e. refl

pub follows_silent : (n v : ℕ) (o : Option VbReply) → (let told = admin_result n v AdminCall.Follow o in told.ended ≡ None → told.events ≡ [])
follows_silent n v None = λ e. refl
follows_silent n v (Some reply) = turns_silent n v Role.Replica reply reply.answer

pub dies_silent : (n v : ℕ) (o : Option VbReply) → (let told = admin_result n v AdminCall.Dead o in told.ended ≡ None → told.events ≡ [])
dies_silent n v None = λ e. refl
dies_silent n v (Some reply) = turns_silent n v Role.Dead reply reply.answer
