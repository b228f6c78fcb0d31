-- the next snapshot of a client's stream, as its vBucket gives it, is one of what the stream is shown of its branch
use Rattle.std.specs.Prelude.{◌≡◌, ◌<◌, ◌≤◌, ◌^◌, ◌∷◌, nat_le, if◌then◌else◌}
use Rattle.transcript_law.proofs.Words.{ℕ, Bool, true, false, List, [], refl, ap, sym, ◌∙◌, subst, arith, nat_tests, inl, inr, ⊎_elim, Some, fork_of, hist, hist_rises, start_cases, upto, Change, Cluster, Covers, HoldsAt, Member, Plain, Position, Rises, Snapshot, Stream, all_spans, is_whole}
use Rattle.transcript_law.proofs.Words.{Chronicle, PlainWorld}
use Rattle.branch_model.proofs.{Holding.{holds_covers}, Lists.{rises_higher}}
use Rattle.branch_model.specs.{Snapshots.{plain_view}}
use Rattle.transcript_law.proofs.indexers.Views.{none_upto, plain_none, view_holds, view_none_more, view_rises, view_append}
use Rattle.transcript_law.proofs.invariant.Agreement.{AgreesAt, AgreesIn, VbAgrees, all_rise, idle, own_history, top, vb_of}
use Rattle.transcript_law.proofs.invariant.ClientsTold.{IsOpenFor}
use Rattle.transcript_law.proofs.invariant.{Seats.{seat}, Wholes.{WholeTo}}
use Rattle.transcript_law.proofs.links.{Followed.{own_is}, Marking.{covers_more}}
use Rattle.transcript_law.specs.ClientStreams.{stream_view, view}
use Rattle.transcript_law.specs.LawfulClients.{NoneWithin}
use Rattle.transcript_law.specs.Lawfulness.{known_history}
use Rattle.transcript_law.specs.StreamsTold.{ClientStream}
use Rattle.vb_types.specs.Histories.{last_of}
use Rattle.vbucket.specs.Takes.{IsSnapshot}

-- changes up to two places between which none stands
pub upto_same : (h : List Change) (low high : ℕ) → low ≤ high → NoneWithin h low high → upto h low ≡ upto h high
upto_same [] low high up none = refl
upto_same (x ∷ xs) low high up none = by (nat_le x.seq low) refl (upto_same xs low high up (λ y i. none y (inr i)))
  where
    by : (b : Bool) → nat_le x.seq low ≡ b → upto xs low ≡ upto xs high → upto (x ∷ xs) low ≡ upto (x ∷ xs) high
    by true e rest =
        let more : nat_le x.seq high ≡ true = grind (arith, nat_tests, e, up) in
        λ i. if (e ∙ sym more) i then x ∷ rest i else rest i
    by false e rest = by_high (nat_le x.seq high) refl
      where
        by_high : (b : Bool) → nat_le x.seq high ≡ b → upto (x ∷ xs) low ≡ upto (x ∷ xs) high
        by_high true f = absurd (none x (inl refl) (grind (arith, nat_tests, e)) (grind (arith, nat_tests, f)))
        by_high false f = λ i. if (e ∙ sym f) i then x ∷ rest i else rest i

-- what a stream shows, by whether it is shown everything
shown_view : (b : Bool) (h : List Change) → (if b then h else plain_view h) ≡ view b h
shown_view true h = refl
shown_view false h = refl

-- a snapshot of what is held is one of the history, where nothing of that is shown between its end and one at which it is whole
covers_held : (low : ℕ) (W : ℕ → Type 0) (xs h items : List Change) (from end stop : ℕ) → Rises 0 top xs → Rises 0 top h → HoldsAt low W xs h → W stop → low ≤ from → end ≤ stop → NoneWithin h end stop
    → Covers items xs from end → Covers items h from end
covers_held low W xs h items from end stop rx rh holds whole floor up none covers =
    holds_covers low (λ n. n ≡ end) top xs h items from end rx rh (record {
      of = holds.of;
      has = λ n is slot c e above below.
          let last : last_of slot (upto h stop) ≡ Some c = ap (last_of slot) (sym (upto_same h end stop up none)) ∙ ap (λ k. last_of slot (upto h k)) (sym is) ∙ e in
          holds.has stop whole slot c last above (omega (arith, is, below, up));
    }) refl floor covers

-- ---- a stream at its vBucket

module _ (w : PlainWorld) (r : Chronicle) (cl : Cluster) (a : AgreesIn idle w r cl) (n v : ℕ) (g : ClientStream) (id : ℕ) (x : IsOpenFor r.tree (r.branch_at n v) g id (vb_of w n v)) where
  abbrev pub p : Plain
  p = x.vb

  abbrev pub o : Stream
  o = x.stream

  abbrev pub leader : Member
  leader = cl.nodes (seat n v)

  abbrev pub h : List Change
  h = stream_view r.tree g

  pub agrees : VbAgrees r n v leader p
  agrees = subst (AgreesAt r n v leader) x.there (a.vbs n v)

  own_known : own_history r n v ≡ hist r.tree g.branch
  own_known = ap (known_history r.tree) x.branch

  rises_held : Rises 0 top leader.held
  rises_held =
      let s = agrees.sound in let most : p.position.se ≤ 2 ^ 48 = s.capped in let within : p.position.at ≤ p.position.se = s.within.1 in
      rises_higher 0 p.position.at top leader.held (omega (arith, most, within)) (all_rise agrees.kept)

  rises_hist : Rises 0 top (hist r.tree g.branch)
  rises_hist = subst (Rises 0 top) (own_is r cl n v leader a.hists a.rootless agrees.branch ∙ own_known) (hist_rises top cl.tree leader.br a.sound.grows)

  holds : HoldsAt 0 (WholeTo p.floor p.spans p.position) leader.held (hist r.tree g.branch)
  holds = subst (HoldsAt 0 (WholeTo p.floor p.spans p.position) leader.held) own_known agrees.holds

  -- what is shown of what is held
  pub shown_holds : HoldsAt 0 (WholeTo p.floor p.spans p.position) (view g.sync leader.held) h
  shown_holds = view_holds g.sync 0 (WholeTo p.floor p.spans p.position) top leader.held (hist r.tree g.branch) rises_hist holds

  fork_at : fork_of p.position ≡ p.position.at
  fork_at = subst (λ (q : Position). fork_of q ≡ q.at) agrees.member.position
      (⊎_elim (λ y. y.1) (λ y. y.1 ∙ (a.sound.leads (seat n v) (agrees.member.active ∙ x.active)).ss_at) (start_cases leader.position.ss leader.position.se leader.position.at))

  whole_to : (stop : ℕ) → is_whole stop (all_spans p.spans) ≡ true → stop ≤ p.position.at → p.floor ≤ stop → WholeTo p.floor p.spans p.position stop
  whole_to stop whole below floor = (whole, (let same = fork_at in omega (arith, below, same)), floor)

  -- it ends at a seqno
  pub low_end : (stop : ℕ) → stop ≤ p.position.at → stop ≤ top
  low_end stop below = let s = agrees.sound in let most : p.position.se ≤ 2 ^ 48 = s.capped in let within : p.position.at ≤ p.position.se = s.within.1 in omega (arith, most, within, below)

  -- nothing that is shown is in the branch, where nothing of it is held
  pub none_shown : (low stop : ℕ) → p.floor ≤ low → WholeTo p.floor p.spans p.position stop → (b : Bool) → g.sync ≡ b → b ≡ false → NoneWithin (view b p.held) low stop → NoneWithin (view b (hist r.tree g.branch)) low stop
  none_shown low stop floor whole true is e none = cc
  none_shown low stop floor whole false is e none =
      plain_none 0 (WholeTo p.floor p.spans p.position) top leader.held (hist r.tree g.branch) low stop rises_hist holds whole (omega arith)
      (view_none_more false p.floor agrees.below p.held leader.held low stop agrees.parts agrees.low floor none)

  -- a snapshot that it is given
  module _ (stop : ℕ) (snapshot : Snapshot) (is : IsSnapshot p o stop snapshot) (near : p.floor ≤ o.place) where
    open snapshot use {end, items}

    above : o.place < end
    above = is.covers.goes_on

    pub whole : WholeTo p.floor p.spans p.position stop
    whole = let up = above in let within : end ≤ stop = is.within.0 in whole_to stop is.whole is.within.1 (omega (arith, near, up, within))

    -- nothing that is shown lies between the snapshot's end and the end up to which it was taken
    pub between : NoneWithin h end stop
    between = by g.sync refl
      where
        by : (b : Bool) → g.sync ≡ b → NoneWithin (view b (hist r.tree g.branch)) end stop
        by true e = λ y i up down. let same : end ≡ stop = is.full (x.sync ∙ e) in absurd (omega (arith, same, up, down))
        by false e =
            let all : upto (plain_view p.held) stop ≡ upto (plain_view p.held) end = subst (λ b. upto (if b then p.held else plain_view p.held) stop ≡ upto (if b then p.held else plain_view p.held) end) (x.sync ∙ e) is.all in
            none_shown end stop (let up = above in omega (arith, near, up)) whole false e refl (none_upto (plain_view p.held) end stop all)

    covers_shown : Covers items (view g.sync p.held) o.place end
    covers_shown = subst (λ k. Covers items k o.place end) (shown_view o.sync p.held ∙ ap (λ b. view b p.held) x.sync) is.covers

    pub covers_told : Covers items h o.place end
    covers_told =
        covers_held 0 (WholeTo p.floor p.spans p.position) (view g.sync leader.held) h items o.place end stop (view_rises g.sync 0 top leader.held rises_held) (view_rises g.sync 0 top (hist r.tree g.branch) rises_hist)
        shown_holds whole (omega arith) is.within.0 between
        (covers_more p.floor (view g.sync agrees.below) (view g.sync p.held) (view g.sync leader.held) items o.place end (ap (view g.sync) agrees.parts ∙ view_append g.sync agrees.below p.held)
        (view_rises g.sync 0 p.floor agrees.below agrees.low) near covers_shown)
