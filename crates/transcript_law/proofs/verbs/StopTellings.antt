-- where a node stops, or a role cuts a link, the links that end are told as they were dialed
use Rattle.std.specs.Prelude.{◌≡◌, ◌∷◌, ◌++◌, ◌==◌, ◌&&◌, ◌||◌, ◌⊎◌, if◌then◌else◌}
use Rattle.transcript_law.proofs.Words.{ℕ, Bool, true, false, List, [], refl, ap, sym, ◌∙◌, subst, inl, inr, ⊎_elim, eq-eqb, Option, Some, None, Cause, Chronicle, Event, AdminCall, AdminResult, PlainLink, PlainNode, PlainWorld, Outcome, Told}
use Rattle.transcript_law.proofs.Words.{consumer_node, cut_off, link_ended, link_number, links_ended, no_node, node_outcome, own_link, producer_node, refused_or, role_outcome, row_at, row_out, row_put, turned_after, turned_if, with_ended, with_node_at}
use Rattle.node_world.specs.{Arms.{fired_by}, Power.{after_fire, down_lines, is_this_number, is_touched, with_arm}, Turns.{posted_at, posted_in, role_called}, Worlds.{arm_in}}
use Rattle.node_world.specs.declared.arm.Fired.{Fired}
use Rattle.node_world.specs.declared.arm.Fired.TheVariants as fired
use Rattle.transcript_law.proofs.{invariant.{Agreement.{Agrees, IsLink}, LinkRows.{found_is_link}}, links.Turning.{told_alike, told_is_link}, verbs.{Leaving.{own_found}, Tellings.{Are, Tell, are_down, tell_alone, tell_front}}}
use Rattle.transcript_law.specs.{Chronicles.{Dial}, LinesTold.{is_dial_at, is_dial_for}, Tellings.{is_of_end}}
use Rattle.vb_calls.specs.declared.calls.Resolved.{Resolved}

-- ---- links as they were dialed

abbrev pub dial_told : PlainLink → Dial
dial_told link = record { producer = producer_node link; node = consumer_node link; vb = link.consumer.dialed.vb }

-- of each of these links that is told
abbrev pub AreDialed : Chronicle → List PlainLink → Type 0
AreDialed r links = (link : PlainLink) → IsLink link links → r.dial_of (link_number link) ≡ Some (dial_told link)

pub world_dialed : (w : PlainWorld) (r : Chronicle) → Agrees w r → AreDialed r w.links
world_dialed w r (c, a) link is = (a.links link is).dial.dialed

module _ (r : Chronicle) where
  abbrev IsDialed : PlainLink → Type 0
  IsDialed link = r.dial_of (link_number link) ≡ Some (dial_told link)

  -- so it is of a link with the same ends
  pub ends_dialed : (link link' : PlainLink) → link'.consumer.dialed ≡ link.consumer.dialed → link'.server.desk ≡ link.server.desk → IsDialed link → IsDialed link'
  ends_dialed link link' dialed desk e =
      subst (λ d. r.dial_of d.link ≡ Some (record { producer = link'.server.desk.node; node = d.node; vb = d.vb })) (sym dialed)
      (subst (λ k. r.dial_of (link_number link) ≡ Some (record { producer = k.node; node = consumer_node link; vb = link.consumer.dialed.vb })) (sym desk) e)

  ended_dialed : (n v : ℕ) (ids : List ℕ) (links : List PlainLink) → AreDialed r links → AreDialed r (links_ended n v ids links)
  ended_dialed n v ids links d y i = let (x, j, is) = told_is_link n v ids links y i in let same = told_alike n v ids x in subst IsDialed (sym is) (ends_dialed x (link_ended n v ids x) same.dialed same.desk (d x j))

  pub out_dialed : (l : ℕ) (links : List PlainLink) → AreDialed r links → AreDialed r (row_out link_number l links)
  out_dialed l links d x i = d x (in_it links i)
    where
      in_it : (links : List PlainLink) → IsLink x (row_out link_number l links) → IsLink x links
      in_it [] i = absurd i
      in_it (z ∷ zs) i = by (λ k. in_it zs k) (link_number z == l) i
        where
          by : (IsLink x (row_out link_number l zs) → IsLink x zs) → (b : Bool) → IsLink x (if b then zs else z ∷ row_out link_number l zs) → IsLink x (z ∷ zs)
          by more true j = inr j
          by more false j = ⊎_elim (λ e. inl e) (λ k. inr (more k)) j

  pub put_dialed : (l : ℕ) (link : PlainLink) (links : List PlainLink) → IsDialed link → AreDialed r links → AreDialed r (row_put link_number l link links)
  put_dialed l link links told d x i = ⊎_elim (λ e. subst IsDialed (sym e) told) (d x) (in_it links i)
    where
      in_it : (links : List PlainLink) → IsLink x (row_put link_number l link links) → (x ≡ link) ⊎ IsLink x links
      in_it [] i = absurd i
      in_it (z ∷ zs) i = by (λ k. in_it zs k) (link_number z == l) i
        where
          by : (IsLink x (row_put link_number l link zs) → (x ≡ link) ⊎ IsLink x zs) → (b : Bool) → IsLink x (if b then link ∷ zs else z ∷ row_put link_number l link zs) → (x ≡ link) ⊎ IsLink x (z ∷ zs)
          by more true j = ⊎_elim (λ e. inl e) (λ k. inr (inr k)) j
          by more false j = ⊎_elim (λ e. inr (inl e)) (λ k. ⊎_elim (λ e. inl e) (λ m. inr (inr m)) (more k)) j

  -- and of those that a change of role leaves
  pub role_dialed : (n v : ℕ) (asked : AdminCall) (w : PlainWorld) → AreDialed r w.links → AreDialed r (role_outcome n v asked w).0.links
  role_dialed n v asked w d = by (w.nodes n)
    where
      posted : (w3 : PlainWorld) (t : Told) (rs : List Resolved) → AreDialed r w3.links → AreDialed r (posted_in n rs (w3, t)).0.links
      posted w3 t rs e = by (w3.nodes n)
        where
          by : (o : Option PlainNode) → AreDialed r (posted_at n rs w3 t o).0.links
          by None = e
          by (Some node) = e

      left : (o : Option PlainLink) (w2 : PlainWorld) → AreDialed r w2.links → AreDialed r (cut_off o w2).0.links
      left None w2 e = e
      left (Some link) w2 e = out_dialed (link_number link) w2.links e

      by_ended : (o : Option (List ℕ)) (w1 : PlainWorld) (told : AdminResult) → AreDialed r w1.links → AreDialed r (turned_if n v w o (w1, told)).0.links
      by_ended None w1 told e = d
      by_ended (Some ids) w1 told e =
          let w2 : PlainWorld = with_ended n v ids w1 in let own = own_link n v w2.links in
          posted (cut_off own w2).0 (record { events = (cut_off own w2).1 ++ told.events; answer = told.answer }) told.resolved (left own w2 (ended_dialed n v ids w1.links e))

      by : (o : Option PlainNode) → AreDialed r (turned_after n v w (node_outcome w n no_node o (role_called n v asked))).0.links
      by None = d
      by (Some node) = let x = role_called n v asked node in by_ended x.1.ended (with_node_at w n x.0) x.1 d

  -- before it, the link that feeds the vBucket is told as that
  pub own_dialed : (n v : ℕ) (ids : List ℕ) (links : List PlainLink) → AreDialed r links → (link : PlainLink) → own_link n v (links_ended n v ids links) ≡ Some link → is_dial_for n v (r.dial_of (link_number link)) ≡ true
  own_dialed n v ids links d link e =
      let all : List PlainLink = links_ended n v ids links in let p = own_found n v all link e in
      subst (λ o. is_dial_for n v o ≡ true) (sym (ended_dialed n v ids links d link p.0)) (λ i. eq-eqb (consumer_node link) n p.1 i && eq-eqb link.consumer.dialed.vb v p.2 i)

  -- ---- a node that stops

  -- each link that ends then has an end there
  pub stop_ends : (n : ℕ) (also : Option ℕ) (w : PlainWorld) → AreDialed r w.links → ((l : ℕ) → is_this_number l also ≡ true → is_dial_at n (r.dial_of l) ≡ true) → Are (is_of_end r n) (down_lines n also w)
  stop_ends n also w d own = are_down (is_of_end r n) n also w (λ l. either l (is_this_number l also) (own l)) (λ c. eq-eqb n n refl)
    where
      touched : (l : ℕ) (o : Option PlainLink) → row_at link_number l w.links ≡ o → is_touched n o ≡ true → is_dial_at n (r.dial_of l) ≡ true
      touched l None e t = cc
      touched l (Some link) e t = let is = found_is_link l w.links link e in subst (λ o. is_dial_at n o ≡ true) (sym (ap r.dial_of (sym is.1) ∙ d link is.0)) t

      either : (l : ℕ) (b : Bool) → (b ≡ true → is_dial_at n (r.dial_of l) ≡ true) → (b || is_touched n (row_at link_number l w.links)) ≡ true → is_dial_at n (r.dial_of l) ≡ true
      either l true is t = is refl
      either l false is t = touched l (row_at link_number l w.links) refl t

  -- what a line came to under its node's arm, where it tells of no stop itself
  pub tell_armed : (may q : Event → Bool) (n : ℕ) → ((line : Event) → q line ≡ true → may line ≡ true) → ((m : ℕ) → q (Event.NodeStopped m) ≡ true → ⊥) → may (Event.CallFailed n) ≡ true → may (Event.NodeStopped n) ≡ true
      → (w : PlainWorld) (came : Outcome) → AreDialed r came.0.links → Are q came.1.events → Tell may (is_of_end r) (with_arm n w came).1.events
  tell_armed may q n passes goes_on fails stops w came d a = by (fired_by (arm_in (w.nodes n)).fuse (arm_in (came.0.nodes n)).fuse)
    where
      by : (f : Fired) → Tell may (is_of_end r) (after_fire n (arm_in (w.nodes n)).out f came).1.events
      by fired.No = tell_alone may (is_of_end r) q passes goes_on came.1.events a
      by fired.Failed = tell_front may (is_of_end r) q passes goes_on came.1.events (Event.CallFailed n ∷ []) a (λ i. fails i && true)
      by fired.Stopped = tell_front may (is_of_end r) q passes goes_on came.1.events (Event.NodeStopped n ∷ down_lines n None came.0) a (λ i. stops i && stop_ends n None came.0 d (λ l e. cc) i)

  pub refused_dialed : (why : Option Cause) (w : PlainWorld) (came : Outcome) → AreDialed r w.links → AreDialed r came.0.links → AreDialed r (refused_or why w came).0.links
  refused_dialed None w came d e = e
  refused_dialed (Some why) w came d e = d
