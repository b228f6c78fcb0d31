-- clients that are fed from a journal, judged by hand
use Rattle.std.proofs.Common.{true, false, List, [], ◌∷◌, ◌++◌, ap, arith, inl, inr, refl, subst, sym, ⊎_elim, ◌∙◌, ◌≡◌, ◌≤◌}
unfoldable use Rattle.mcbp_dcp.specs.DcpFrames.{dcp_frame}
use Rattle.mcbp_dcp.specs.declared.message.DcpMsg.TheVariants as msg
unfoldable use Rattle.mcbp_frame.specs.Cutting.{frames_in}
unfoldable use Rattle.mcbp_frame.specs.Frames.{first_frame}
unfoldable use Rattle.mcbp_frame.specs.Spelling.{spelling}
use Rattle.dcp_producer.specs.Frames.{act_message}
use Rattle.vb_types.specs.Histories.{Rises, Slot}
use Rattle.vb_types.specs.declared.change.Change.{Change}
use Rattle.branch_model.proofs.Lasts.{slot_lasts_remain}
use Rattle.branch_model.specs.Snapshots.{Covers, plain_view}
use Rattle.journal_points.specs.Rows.{commit_b, set_a, set_b}
use Rattle.transcript_law.specs.BackfillRows.{LawfulSaved, abort_c, eight, first_two, marked_so, prepare_d, put_from_disk, remove_a, unreplaced}
use Rattle.transcript_law.specs.ClientStreamRows.{all_changes, fresh, one, sent, tree_of, with_streams}
use Rattle.transcript_law.specs.ClientStreams.{Begun, ClientStream, ItemLine, vb_in_header}
use Rattle.transcript_law.specs.LawfulClients.{IsNextMarker}
use Rattle.transcript_law.specs.StreamLaws.{IsUnreplaced, item_of_change}
use Rattle.transcript_law.proofs.rows.BackfillRows.{covers_all, from_disk, no_source, replaced_at, set_b_last, written_out}
use Rattle.transcript_law.proofs.rows.ClientStreamItems.{begun_is}
use Rattle.transcript_law.proofs.rows.ClientStreams.{◌▹◌, none_counted, put_by}

-- ---- what is shown of those changes where durable writes are not

abbrev seen : List Change
seen = plain_view eight

rises_seen : Rises 0 5 seen
rises_seen = (omega arith, (omega arith, (omega arith, omega arith)))

covers_seen : Covers first_two seen 0 5
covers_seen = record { goes_on = omega arith; remains = slot_lasts_remain 5 seen 0 5 rises_seen (omega arith); reaches = refl }

-- a last change of a slot there
seen_last : (x : Change) → IsUnreplaced seen 5 x → x.seq ≡ 1 → ⊥
seen_last x u at =
    let same : x.seq ≡ u.change.seq = ap (λ (y : Change). y.seq) u.written in
    let (y, there, stands) = (slot_lasts_remain 5 seen 0 5 rises_seen (omega arith)).has u.slot u.change u.last (omega (arith, same, at)) (omega (arith, same, at)) in
    let is : y.seq ≡ 1 = ⊎_elim (λ e. ap (λ (c : Change). c.seq) e) (λ e. ap (λ (c : Change). c.seq) e) stands ∙ sym same ∙ at in
    ⊎_elim (λ e. let n : y.seq ≡ 3 = ap (λ (c : Change). c.seq) e in omega (arith, n, is)) (λ j. ⊎_elim (λ e. let n : y.seq ≡ 5 = ap (λ (c : Change). c.seq) e in omega (arith, n, is)) (λ k. k) j) there

-- ---- a stream that is not shown durable writes

abbrev plain_fresh : ClientStream
plain_fresh = fresh false all_changes

abbrev begun : List ItemLine → Begun
begun items = record { history = seen; from = 0; end = 5; disk = true; items = items }

first_seen : IsNextMarker (tree_of eight) plain_fresh 0 5
first_seen = record { opens = refl; stays = refl; goes_on = λ r. r; behind = tt; starts = refl; reaches = λ x i above low. absurd (omega (arith, above, low)); whole = (first_two, covers_seen) }

set_b_header : vb_in_header (spelling (dcp_frame (act_message set_b set_b.act) 9 0)) ≡ 0
unfolding spelling dcp_frame
set_b_header = refl

pub plain : LawfulSaved 5 (fresh false all_changes) (marked_so 0 5 2 ++ sent 0 set_b ++ sent 0 remove_a)
unfolding spelling dcp_frame frames_in first_frame
plain =
    record { put = put_by (with_streams (one plain_fresh)) (msg.SnapshotMarker 0 5 2) 0 plain_fresh (sent 0 set_b ++ sent 0 remove_a) refl refl refl refl refl; source = from_disk 5 5 (omega arith); marker = first_seen } ▹ (λ z. cc)
    ▹ record {
      change = set_b;
      told = refl;
      put = put_by _ (act_message set_b set_b.act) 0 (put_from_disk false 5 []) (sent 0 remove_a) refl refl refl refl refl;
      opens = refl;
      begun = begun [];
      last = refl;
      shown = (set_b, inr (inl refl), inl refl);
      held = (commit_b, inr (inr (inl refl)), refl);
      next = (remove_a ∷ [], record { whole = first_two; covers = covers_seen; front = refl }, λ e. absurd (omega (arith, e)));
      unreplaced = λ d. record { slot = Slot.Committed (98 ∷ []); change = set_b; last = refl; written = refl };
    } ▹ (λ z. cc)
    ▹ record {
      change = remove_a;
      told = refl;
      put = put_by _ (act_message remove_a remove_a.act) 0 (put_from_disk false 5 (set_b ∷ [])) [] refl refl refl refl refl;
      opens = refl;
      begun = begun (item_of_change set_b ∷ []);
      last = refl;
      shown = (remove_a, inr (inr (inl refl)), inl refl);
      held = (_, inr (inr (inr (inr (inl refl)))), refl);
      next = ([], record { whole = first_two; covers = covers_seen; front = refl }, λ e. refl);
      unreplaced = λ d. record { slot = Slot.Committed (97 ∷ []); change = remove_a; last = refl; written = refl };
    } ▹ (λ z. cc) ▹ tt

pub above : LawfulSaved 4 (fresh false all_changes) (marked_so 0 5 2) → ⊥
above l = let low : 5 ≤ 4 = l.0.source.below refl in omega (arith, low)

pub both : LawfulSaved 8 (fresh true all_changes) (marked_so 0 8 3) → ⊥
both l = no_source 3 8 _ (λ e. omega (arith, e)) (λ e. omega (arith, e)) l.0.source

-- ---- whole changes

abbrev sync_begun : Begun
sync_begun = record { history = eight; from = 0; end = 8; disk = true; items = [] }

abbrev sync_put : ClientStream
sync_put = put_from_disk true 8 []

abbrev plain_put : ClientStream
plain_put = put_from_disk false 5 []

commit_header : vb_in_header (spelling (dcp_frame (act_message commit_b commit_b.act) 9 0)) ≡ 0
unfolding spelling dcp_frame
commit_header = refl

set_a_header : vb_in_header (spelling (dcp_frame (act_message set_a set_a.act) 9 0)) ≡ 0
unfolding spelling dcp_frame
set_a_header = refl

pub document : LawfulSaved 8 (put_from_disk true 8 []) (sent 0 set_b)
document = record {
  change = set_b;
  told = refl;
  put = put_by (with_streams (one sync_put)) (act_message set_b set_b.act) 0 sync_put [] set_b_header refl refl refl (none_counted (with_streams (one sync_put)) refl refl);
  opens = refl;
  begun = sync_begun;
  last = refl;
  shown = (commit_b, inr (inr (inl refl)), inr refl);
  held = (commit_b, inr (inr (inl refl)), refl);
  next = (remove_a ∷ abort_c ∷ prepare_d ∷ [], record { whole = unreplaced; covers = covers_all; front = refl }, λ e. absurd (omega (arith, e)));
  unreplaced = λ d. set_b_last;
} ▹ (λ z. cc) ▹ tt

-- an item is judged by the snapshot that its stream is in
sync_last : (c : Change) → vb_in_header (spelling (dcp_frame (act_message c c.act) 9 0)) ≡ 0 → (l : LawfulSaved 8 sync_put (sent 0 c)) → IsUnreplaced eight 8 l.0.change
sync_last c header l =
    let is : l.0.begun ≡ sync_begun = begun_is _ (with_streams (one sync_put)) (item_of_change c) (act_message c c.act) 0 [] sync_put header refl l.0 sync_begun refl in
    subst (λ (b : Begun). IsUnreplaced b.history b.end l.0.change) is (l.0.unreplaced (ap (λ (b : Begun). b.disk) is))

pub commit : LawfulSaved 8 (put_from_disk true 8 []) (sent 0 commit_b) → ⊥
commit l = written_out l.0.change (sync_last commit_b commit_header l) (ap (λ (i : ItemLine). i.act) l.0.told)

pub replaced : LawfulSaved 8 (put_from_disk true 8 []) (sent 0 set_a) → ⊥
replaced l =
    let at : l.0.change.seq ≡ 1 = ap (λ (i : ItemLine). i.seq) l.0.told in
    replaced_at l.0.change (sync_last set_a set_a_header l) (omega (arith, at)) (omega (arith, at)) (λ e. omega (arith, at, e)) (λ e. omega (arith, at, e)) (λ e. omega (arith, at, e)) (λ e. omega (arith, at, e))

pub plain_replaced : LawfulSaved 5 (put_from_disk false 5 []) (sent 0 set_a) → ⊥
plain_replaced l =
    let is : l.0.begun ≡ begun [] = begun_is _ (with_streams (one plain_put)) (item_of_change set_a) (act_message set_a set_a.act) 0 [] plain_put set_a_header refl l.0 (begun []) refl in
    seen_last l.0.change (subst (λ (b : Begun). IsUnreplaced b.history b.end l.0.change) is (l.0.unreplaced (ap (λ (b : Begun). b.disk) is))) (ap (λ (i : ItemLine). i.seq) l.0.told)
