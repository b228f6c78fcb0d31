-- a client's stream to which its vBucket gives nothing has no more to put, or waits for what is to be saved
use Rattle.std.specs.Prelude.{◌≡◌, ◌⊎◌, ◌<◌, ◌≤◌, ◌++◌, ◌∷◌, nat_le, if◌then◌else◌}
use Rattle.transcript_law.proofs.Words.{ℕ, Bool, true, false, List, [], length, map, refl, ap, sym, ◌∙◌, subst, arith, nat_tests, inl, inr, ⊎_elim, Option, Some, None, is_some, Begun, Change, Chronicle, Cluster, IsIn, ItemLine, PlainStream, PlainWorld, StreamAsk, Span, all_spans, end_span, effective_se, item_of_change, last_seq, need_of, plain_step, take_from, take_to}
use Rattle.branch_model.proofs.Lists.{in_append, rises_in}
use Rattle.dcp_producer.specs.Frames.{reaches_end}
use Rattle.std.proofs.lemmas.Bool.{leb-true}
use Rattle.std.proofs.lemmas.List.{take_all}
use Rattle.transcript_law.proofs.indexers.{Marked.{place_none, reached_is}, Shown.{plain_of_view}, Snapped.{agrees, leader, shown_holds}, Views.{none_joined, none_of}}
use Rattle.transcript_law.proofs.invariant.{Agreement.{AgreesIn, DiskIsIf, VbAgrees, idle, shelf_of, vb_of}, ClientsTold.{BegunIs, IsOpenFor, StreamIs}, Seats.{seat}}
use Rattle.transcript_law.proofs.links.Idling.{active_is}
use Rattle.transcript_law.specs.ClientStreams.{stream_view, view}
use Rattle.transcript_law.proofs.disks.Disks.{saved_so}
use Rattle.transcript_law.specs.LawfulClients.{HasNone, IsQuiet, NoneWithin, WaitsSaved}
use Rattle.transcript_law.specs.StreamLaws.{IsPutWhole, meant_end}
use Rattle.transcript_law.specs.StreamsTold.{ClientStream}
use Rattle.vb_calls.specs.Streams.{is_in_memory}
use Rattle.vb_calls.specs.declared.calls.VbCall.TheVariants.{Take}
use Rattle.vb_types.specs.Histories.{is_visible}
use Rattle.vbucket.specs.Laws.{Follow}
use Rattle.vbucket.specs.Takes.{CutsNone, EndsOne, MayEnd, TakesExactly}

-- ---- where spans end

follow_up : (low high : ℕ) (ws : List Span) → Follow low ws high → low ≤ high
follow_up low high [] f = let e : low ≡ high = f in omega (arith, e)
follow_up low high (w ∷ ws) f = let up : low < w.last = f.1 in let more : w.last ≤ high = follow_up w.last high ws f.2 in omega (arith, up, more)

-- the last one ends where they all end
ends_last : (low high : ℕ) (ws : List Span) → Follow low ws high → low < high → EndsOne high ws
ends_last low high [] f up = let e : low ≡ high = f in absurd (omega (arith, e, up))
ends_last low high (w ∷ []) f up = inl f.2
ends_last low high (w ∷ x ∷ ws) f up =
    let more : x.last ≤ high = follow_up x.last high ws f.2.2 in let step : w.last < x.last = f.2.1 in inr (ends_last w.last high (x ∷ ws) f.2 (omega (arith, more, step)))

-- and none goes on above that
cuts_none : (low high : ℕ) (ws : List Span) → Follow low ws high → CutsNone high ws
cuts_none low high [] f = tt
cuts_none low high (w ∷ ws) f = (λ ss se is below. follow_up w.last high ws f.2, cuts_none w.last high ws f.2)

ends_item : (n end : ℕ) (x : Change) (xs : List Change) → last_seq n (x ∷ xs) ≡ end → (before : List ItemLine) × (item : ItemLine) × (map item_of_change (x ∷ xs) ≡ before ++ item ∷ []) × (item.seq ≡ end)
ends_item n end x [] e = ([], item_of_change x, refl, e)
ends_item n end x (y ∷ ys) e = let (before, item, is, ends) = ends_item x.seq end y ys e in (item_of_change x ∷ before, item, ap (λ items. item_of_change x ∷ items) is, ends)

-- behind its items the last snapshot was put to its end
put_whole : (g : ClientStream) (held : List Change) (last : Option Begun) (t : PlainStream) → BegunIs g held last t → length t.items ≤ t.next → IsPutWhole last
put_whole g held None t begun whole = tt
put_whole g held (Some b) t begun whole =
    subst (λ items. (before : List ItemLine) × (item : ItemLine) × (items ≡ before ++ item ∷ []) × (item.seq ≡ b.end)) (sym (begun.1 ∙ ap (map item_of_change) (take_all t.next t.items whole))) (by t.items begun.0.goes_on begun.0.reaches)
  where
    by : (xs : List Change) → b.from < b.end → last_seq b.from xs ≡ b.end → (before : List ItemLine) × (item : ItemLine) × (map item_of_change xs ≡ before ++ item ∷ []) × (item.seq ≡ b.end)
    by [] up e = let same : b.from ≡ b.end = e in absurd (omega (arith, same, up))
    by (x ∷ xs) up e = ends_item b.from b.end x xs e

no_snapshot : (last : Option Begun) → is_some last ≡ false → last ≡ None
no_snapshot None e = refl
no_snapshot (Some b) e = cc

module _ (w : PlainWorld) (r : Chronicle) (cl : Cluster) (a : AgreesIn idle w r cl) (n v : ℕ) (g : ClientStream) (t : PlainStream) (si : StreamIs r.tree (r.branch_at n v) (r.held n v) (vb_of w n v) g t)
    (x : IsOpenFor r.tree (r.branch_at n v) g t.id (vb_of w n v)) (exactly : TakesExactly) where
  open x use {vb as p, stream as o}

  module _ (near : o.cursor ≡ true) (ends : end_span o (all_spans p.spans) p.held ≡ None) where
    abbrev vb : VbAgrees r n v (leader w r cl a n v g t.id x) p
    vb = agrees w r cl a n v g t.id x

    -- it may end nowhere
    may_not : (m : ℕ) → MayEnd p o m → ⊥
    may_not m may =
        let is : plain_step p (Take t.id) ≡ take_to None o p = ap (λ y. take_from y p) x.opened ∙ ap (λ b. take_to (if b then end_span o (all_spans p.spans) p.held else None) o p) near ∙ ap (λ y. take_to y o p) ends in
        let (o', found, none) = (exactly p t.id vb.sound).nothing.0 (ap (λ y. y.1.answer) is) in
        let both : Some o ≡ Some o' = sym x.opened ∙ found in let same : o ≡ o' = cc in
        none m (subst (λ y. MayEnd p y m) same may)

    floor_low : p.floor ≤ o.place
    floor_low = vb.sound.feeds.cursors t.id o x.opened near

    -- so no change that it is shown is held above its place, once it has what it needs
    none_above : (o.taken ≡ false → need_of o ≤ p.position.at) → (c : Change) → IsIn c p.held → o.place < c.seq → c.seq ≤ p.position.at → (o.sync ≡ true) ⊎ (is_visible c.act ≡ true) → ⊥
    none_above needed c there above below seen =
        may_not p.position.at (record {
          cursor = near;
          above = omega (arith, above, below);
          span = ends_last p.floor p.position.at (all_spans p.spans) vb.sound.spans (let low = floor_low in omega (arith, low, above, below));
          whole = cuts_none p.floor p.position.at (all_spans p.spans) vb.sound.spans;
          needed = λ first. subst (λ b. (if b then 0 else effective_se o.ask.start o.ask.ss o.ask.se) ≤ p.position.at) first (needed first);
          some = (c, there, above, below, seen);
        })

    in_memory : (c : Change) → IsIn c (leader w r cl a n v g t.id x).held → o.place < c.seq → IsIn c p.held
    in_memory c i above = ⊎_elim
        (λ j. let most : c.seq ≤ p.floor = (rises_in 0 p.floor vb.below c vb.low j).1 in let low = floor_low in absurd (omega (arith, most, low, above)))
        (λ j. j) (in_append c vb.below p.held (subst (IsIn c) vb.parts i))

    none_high : (o.taken ≡ false → need_of o ≤ p.position.at) → (b : Bool) → g.sync ≡ b → NoneWithin (view b (leader w r cl a n v g t.id x).held) o.place p.position.at
    none_high needed true e c i above below = none_above needed c (in_memory c i above) above below (inl (x.sync ∙ e))
    none_high needed false e y i above below =
        let c = plain_of_view (leader w r cl a n v g t.id x).held y i in let level : y.seq ≡ c.0.seq = ap (λ (z : Change). z.seq) c.3 in
        let up : o.place < c.0.seq = omega (arith, level, above) in
        none_above needed c.0 (in_memory c.0 c.1 up) up (omega (arith, level, below)) (inr c.2)

    none_all : (o.taken ≡ false → need_of o ≤ p.position.at) → NoneWithin (view g.sync (leader w r cl a n v g t.id x).held) g.place p.position.at
    none_all needed =
        none_joined (view g.sync (leader w r cl a n v g t.id x).held) g.place o.place p.position.at
        (none_of (view g.sync (leader w r cl a n v g t.id x).held) (stream_view r.tree g) g.place o.place (shown_holds w r cl a n v g t.id x).of (place_none g.sync (stream_view r.tree g) g.place o.place x.place).1)
        (none_high needed g.sync refl)

    at_is : last_seq 0 (r.held n v) ≡ p.position.at
    at_is = ap (last_seq 0) vb.held ∙ vb.high

    none_told : (o.taken ≡ false → need_of o ≤ p.position.at) → HasNone r n v g
    none_told needed = inl (subst (λ high. NoneWithin (view g.sync (r.held n v)) g.place high) (sym at_is) (subst (λ held. NoneWithin (view g.sync held) g.place p.position.at) (sym vb.held) (none_all needed)))

    has_none : HasNone r n v g
    has_none = by o.taken refl
      where
        need_is : o.taken ≡ false → need_of o ≡ meant_end g.ask
        need_is e = ap (λ b. if b then 0 else effective_se o.ask.start o.ask.ss o.ask.se) e ∙ ap (λ (k : StreamAsk). effective_se k.start k.ss k.se) x.ask

        by_need : o.taken ≡ false → (b : Bool) → nat_le (need_of o) p.position.at ≡ b → HasNone r n v g
        by_need e true q = none_told (λ first. leb-true (need_of o) p.position.at q)
        by_need e false q =
            let more : p.position.at < need_of o = grind (arith, nat_tests, q) in
            let same : need_of o ≡ meant_end g.ask = need_is e in
            let at = at_is in
            inr (no_snapshot g.last (sym x.taken ∙ e), omega (arith, more, same, at))

        by : (b : Bool) → o.taken ≡ b → HasNone r n v g
        by true e = none_told (λ first. let z : true ≡ false = sym e ∙ first in cc)
        by false e = by_need e (nat_le (need_of o) p.position.at) refl

  -- so it has no more to put
  pub quiet_stream : t.ended ≡ false → length t.items ≤ t.next → reaches_end t.until t.marked ≡ false → o.cursor ≡ true → end_span o (all_spans p.spans) p.held ≡ None → IsQuiet r n v g
  quiet_stream going whole unreached near ends = record {
    whole = put_whole g (r.held n v) g.last t si.begun whole;
    stays = sym si.ended ∙ going;
    goes_on = λ reached. let z : false ≡ true = reached_is g (r.held n v) g.last t si.until si.begun false unreached reached in cc;
    active = (agrees w r cl a n v g t.id x).role ∙ ap (λ k. Some (Some k)) (active_is p.role x.active);
    none = has_none near ends;
  }

  -- what its vBucket counts as saved is what the lines tell
  saved_told : p.saved ≡ (r.disk_at n v).saved
  saved_told = saved_so (r.disk_at n v) (cl.disks (seat n v)) (shelf_of w n v) p (subst (DiskIsIf (r.disk_at n v) (cl.disks (seat n v)) (shelf_of w n v)) x.there (a.disks n v))

  -- or it waits, where not all that it lacks is in memory
  pub waiting_stream : t.ended ≡ false → length t.items ≤ t.next → reaches_end t.until t.marked ≡ false → is_in_memory p o.place ≡ false → WaitsSaved r n v g
  waiting_stream going whole unreached far = record {
    whole = put_whole g (r.held n v) g.last t si.begun whole;
    stays = sym si.ended ∙ going;
    goes_on = λ reached. let z : false ≡ true = reached_is g (r.held n v) g.last t si.until si.begun false unreached reached in cc;
    active = (agrees w r cl a n v g t.id x).role ∙ ap (λ k. Some (Some k)) (active_is p.role x.active);
    saved =
        let low = (place_none g.sync (stream_view r.tree g) g.place o.place x.place).0 in
        let below : o.place < p.floor = grind (arith, nat_tests, far) in
        let most = (agrees w r cl a n v g t.id x).sound.saved in let told = saved_told in omega (arith, low, below, most, told);
  }
