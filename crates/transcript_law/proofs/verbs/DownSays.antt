-- a line `down` tells what was taken, or of a vBucket that is about to take its branch over, or takes it over; and behind that what ends the link
use Rattle.std.specs.Prelude.{◌≡◌, ◌∷◌, ◌++◌, ◌&&◌, ◌||◌, ◌==◌}
use Rattle.transcript_law.proofs.Words.{ℕ, Bool, true, false, List, [], refl, ap, sym, ◌∙◌, subst, inl, inr, ⊎_elim, append-nil, append_assoc, eq-eqb, eqb-true, Some, Chronicle, Dial, EndReason, Event, LinkVerb, PlainWorld, Role, Verb, row_out, link_number}
use Rattle.transcript_law.proofs.links.Takes.{OwnsIn, PendsIn, TellsIn, Took, is_own_end}
use Rattle.transcript_law.proofs.verbs.{StopTellings.{AreDialed, stop_ends}, Tellings.{front_of, later_of, tell_front}}
use Rattle.transcript_law.specs.{Takeovers.{MovesAt, TellsOnly, is_of_over}, Tellings.{are_all, are_told, at_link, is_of_disk, is_of_down, is_of_end}, LinesTold.{is_dial_at}}
use Rattle.dcp_consumer.specs.declared.handshake.Dialed.{Dialed}
use Rattle.node_world.specs.Power.{disk_end, down_lines, is_this_number}
use Rattle.takeover.specs.declared.take_over.TakeOver.{TakeOver}

module _ (r : Chronicle) (d : Dialed) (p wanted : ℕ) (dial_is : r.dial_of d.link ≡ Some (record { producer = p; node = d.node; vb = d.vb })) where
  abbrev dial : Dial
  dial = record { producer = p; node = d.node; vb = d.vb }

  abbrev asked : Verb
  asked = Verb.AtLink d.link (LinkVerb.Down wanted)

  abbrev pub Says : List Event → Type 0
  Says lines = TellsOnly r asked lines

  abbrev may : Event → Bool
  may = at_link (Some dial) d.link (LinkVerb.Down wanted)

  -- what may stand behind
  pub record Tail (more : List Event) : Type 0 where
    pub told : are_told may (is_of_end r) more ≡ true
    pub ends : are_told (λ line. is_of_over d.link line || is_of_disk d.node line) (is_of_end r) more ≡ true

  pub says_took : (lines more : List Event) → Took d lines → are_told may (is_of_end r) more ≡ true → Says (lines ++ more)
  says_took lines more took told = inl (subst (λ o. are_told (at_link o d.link (LinkVerb.Down wanted)) (is_of_end r) (lines ++ more) ≡ true) (sym dial_is)
      (tell_front may (is_of_end r) (is_of_down d.link d.node d.vb) (λ line q. front_of (is_of_down d.link d.node d.vb line) (is_of_disk d.node line) q) (λ m q. cc) lines more took told))

  pub says_pends : (t : TakeOver) (lines more : List Event) → PendsIn r d t lines → are_all (is_of_over d.link) more ≡ true → Says (lines ++ more)
  says_pends t lines more x over = inr (subst (λ o. MovesAt r o d.link (LinkVerb.Down wanted) (lines ++ more)) (sym dial_is) (inl (record {
    front = x.front;
    behind = more;
    together = ap (λ ls. ls ++ more) x.together ∙ append_assoc x.front (Event.Role d.node d.vb Role.Pending ∷ []) more;
    taken = x.taken;
    taking = x.taking;
    by_link = x.by_link;
    over = over;
  })))

  pub says_owns : (lines more : List Event) → OwnsIn r d lines → are_told (λ line. is_of_over d.link line || is_of_disk d.node line) (is_of_end r) more ≡ true → Says (lines ++ more)
  says_owns lines more x over = inr (subst (λ o. MovesAt r o d.link (LinkVerb.Down wanted) (lines ++ more)) (sym dial_is) (inr (record {
    front = x.front;
    commits = x.commits;
    behind = more;
    together = ap (λ ls. ls ++ more) x.together ∙ append_assoc x.front (Event.Role d.node d.vb Role.Active ∷ x.commits) more;
    taken = x.taken;
    heir = x.heir;
    by_link = x.by_link;
    own = x.own;
    over = over;
  })))

  -- nothing is behind
  pub says_alone : (t : TakeOver) (lines : List Event) → TellsIn r d t lines → Says lines
  says_alone t lines x = subst Says (append-nil lines) (⊎_elim (λ took. says_took lines [] took refl) (λ pends. says_pends t lines [] pends refl) x)

  pub owns_alone : (lines : List Event) → OwnsIn r d lines → Says lines
  owns_alone lines x = subst Says (append-nil lines) (says_owns lines [] x refl)

  -- the link's own end
  down_end : (why : EndReason) → is_own_end why ≡ true → is_of_down d.link d.node d.vb (Event.Ended d.link why) ≡ true
  down_end EndReason.Disk e = cc
  down_end EndReason.Cut e = cc
  down_end other e = eq-eqb d.link d.link refl

  over_end : (why : EndReason) → is_own_end why ≡ true → is_of_over d.link (Event.Ended d.link why) ≡ true
  over_end EndReason.Disk e = cc
  over_end EndReason.Cut e = cc
  over_end other e = eq-eqb d.link d.link refl

  pub says_over : (t : TakeOver) (lines : List Event) (why : EndReason) → is_own_end why ≡ true → TellsIn r d t lines → Says (lines ++ Event.Ended d.link why ∷ [])
  says_over t lines why e x = ⊎_elim
      (λ took. says_took lines (Event.Ended d.link why ∷ []) took (λ i. (down_end why e i || is_of_disk d.node (Event.Ended d.link why)) && true))
      (λ pends. says_pends t lines (Event.Ended d.link why ∷ []) pends (λ i. over_end why e i && true))
      x

  pub owns_over : (lines : List Event) (why : EndReason) → is_own_end why ≡ true → OwnsIn r d lines → Says (lines ++ Event.Ended d.link why ∷ [])
  owns_over lines why e x = says_owns lines (Event.Ended d.link why ∷ []) x (λ i. (over_end why e i || is_of_disk d.node (Event.Ended d.link why)) && true)

  -- its end because of a disk, and what stands in front of that
  over_disk : is_of_over d.link (Event.Ended d.link EndReason.Disk) ≡ true
  over_disk = eq-eqb d.link d.link refl

  here : (d.node == d.node) ≡ true
  here = eq-eqb d.node d.node refl

  pub tail_closed : Tail (disk_end d.link)
  tail_closed = record { told = λ i. (over_disk i || false) && true; ends = λ i. (over_disk i || false) && true }

  pub tail_failed : Tail (Event.CallFailed d.node ∷ disk_end d.link)
  tail_failed = record { told = λ i. here i && ((over_disk i || false) && true); ends = λ i. here i && ((over_disk i || false) && true) }

  pub tail_stopped : (w : PlainWorld) → AreDialed r w.links → Tail (Event.NodeStopped d.node ∷ down_lines d.node (Some d.link) w)
  tail_stopped w dialed =
      let ends : are_all (is_of_end r d.node) (down_lines d.node (Some d.link) w) ≡ true = stop_ends r d.node (Some d.link) w dialed
      (λ k q. subst (λ o. is_dial_at d.node o ≡ true) (sym (ap r.dial_of (eqb-true k d.link q) ∙ dial_is)) (later_of (p == d.node) (d.node == d.node) here)) in
      record { told = λ i. here i && ends i; ends = λ i. here i && ends i }
