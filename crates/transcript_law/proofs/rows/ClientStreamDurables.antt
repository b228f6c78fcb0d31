-- items of durable writes on clients' streams, judged by hand
use Rattle.std.proofs.Common.{List, [], ap, arith, inl, inr, refl, sym, true, false, ℕ, ⊎_elim, ◌⊎◌, ◌∙◌, ◌∷◌, ◌≡◌, ◌<◌}
use Rattle.std.specs.Prelude.{nat_le}
unfoldable use Rattle.mcbp_dcp.specs.DcpFrames.{dcp_frame}
unfoldable use Rattle.mcbp_frame.specs.Spelling.{spelling}
use Rattle.dcp_producer.specs.Frames.{act_message}
use Rattle.vb_types.specs.Histories.{IsIn, plain, touches, upto}
use Rattle.vb_types.specs.declared.change.Change.{Change}
use Rattle.vb_events.specs.declared.event.ItemAct.{ItemAct}
use Rattle.vb_events.specs.declared.event.ItemAct.TheVariants as item_act
use Rattle.branch_model.proofs.Lasts.{in_filter}
use Rattle.branch_model.proofs.Lists.{last_in}
use Rattle.branch_model.specs.Histories.{HasOf, IsOf}
use Rattle.branch_model.specs.Snapshots.{Covers}
use Rattle.transcript_law.specs.ClientStreamRows.{LawfulHeld, LawfulPut, all_changes, as_document, asks_for, committed, durable, first_item, held_so as held_as_document, inside, left_with, one, prepared, prepared_item, sent, snapshot, with_streams}
use Rattle.transcript_law.specs.ClientStreams.{ClientStream, ItemLine, vb_in_header}
use Rattle.transcript_law.specs.StreamLaws.{IsNextItem, item_of_change, line_act}
use Rattle.transcript_law.specs.Transcripts.{one_change}
use Rattle.transcript_law.proofs.rows.ClientStreams.{◌▹◌, all_between, none_counted, put_by}
use Rattle.transcript_law.proofs.rows.ClientStreamItems.{held_of, item_put, shown_of}

-- ---- streams, and their frames

-- streams that are shown durable writes, and one that is not
abbrev behind_first : ClientStream
behind_first = inside true all_changes durable 0 3 (first_item ∷ [])

abbrev behind_prepare : ClientStream
behind_prepare = inside true all_changes durable 0 3 (first_item ∷ prepared_item ∷ [])

abbrev plain_first : ClientStream
plain_first = inside false all_changes durable 0 3 (first_item ∷ [])

abbrev from_below : ClientStream
from_below = inside true (asks_for 0 2 3 9) durable 2 3 []

-- what the plain one is shown
abbrev shown : List Change
shown = one_change ∷ as_document ∷ []

prepared_header : vb_in_header (spelling (dcp_frame (act_message prepared prepared.act) 9 0)) ≡ 0
unfolding spelling dcp_frame
prepared_header = refl

commit_header : vb_in_header (spelling (dcp_frame (act_message committed committed.act) 9 0)) ≡ 0
unfolding spelling dcp_frame
commit_header = refl

document_header : vb_in_header (spelling (dcp_frame (act_message as_document as_document.act) 9 0)) ≡ 0
unfolding spelling dcp_frame
document_header = refl

-- ---- changes by their seqnos and acts

seq_as : (x c : Change) → (x ≡ c) ⊎ (x ≡ plain c) → x.seq ≡ c.seq
seq_as x c stands = ⊎_elim (λ s. ap (λ (z : Change). z.seq) s) (λ s. ap (λ (z : Change). z.seq) s) stands

-- a commit is no set
no_set : (a : ItemAct) → a ≡ item_act.Commit → a ≡ item_act.Set → ⊥
no_set a e f = let z : item_act.Commit ≡ item_act.Set = sym e ∙ f in cc

-- of these changes one is at the seqno 3
third_of : (c : Change) → IsIn c durable → c.seq ≡ 3 → c ≡ committed
third_of c i at = ⊎_elim (λ e. let n : c.seq ≡ 1 = ap (λ (z : Change). z.seq) e in absurd (omega (arith, at, n)))
    (λ j. ⊎_elim (λ e. let n : c.seq ≡ 2 = ap (λ (z : Change). z.seq) e in absurd (omega (arith, at, n))) (λ k. ⊎_elim (λ e. e) (λ none. absurd none) k) j) i

third_held : (c : Change) → IsIn c held_as_document → c.seq ≡ 3 → c ≡ as_document
third_held c i at = ⊎_elim (λ e. let n : c.seq ≡ 1 = ap (λ (z : Change). z.seq) e in absurd (omega (arith, at, n)))
    (λ j. ⊎_elim (λ e. let n : c.seq ≡ 2 = ap (λ (z : Change). z.seq) e in absurd (omega (arith, at, n))) (λ k. ⊎_elim (λ e. e) (λ none. absurd none) k) j) i

-- ---- streams that are shown durable writes

durable_whole : Covers durable durable 0 3
durable_whole = all_between durable 0 3 (omega arith) (omega arith, (omega arith, (omega arith, omega arith))) refl

prepare_next : IsNextItem (snapshot durable 0 3 (first_item ∷ [])) prepared_item
prepare_next = (committed ∷ [], record { whole = durable; covers = durable_whole; front = refl }, λ e. absurd (omega (arith, e)))

commit_next : IsNextItem (snapshot durable 0 3 (first_item ∷ prepared_item ∷ [])) (item_of_change committed)
commit_next = ([], record { whole = durable; covers = durable_whole; front = refl }, λ e. refl)

pub prepare : LawfulPut durable (one behind_first) (sent 0 prepared)
prepare = item_put _ (with_streams (one behind_first)) 0 prepared behind_first (snapshot durable 0 3 (first_item ∷ [])) [] prepared_header refl refl refl (none_counted (with_streams (one behind_first)) refl refl) refl refl (inr (inl refl)) (prepared, inr (inl refl), refl) prepare_next ▹ (λ z. cc) ▹ tt

pub commit : LawfulPut durable (one behind_prepare) (sent 0 committed)
commit = item_put _ (with_streams (one behind_prepare)) 0 committed behind_prepare (snapshot durable 0 3 (first_item ∷ prepared_item ∷ [])) [] commit_header refl refl refl (none_counted (with_streams (one behind_prepare)) refl refl) refl refl (inr (inr (inl refl))) (committed, inr (inr (inl refl)), refl) commit_next ▹ (λ z. cc) ▹ tt

pub document : LawfulPut durable (one behind_prepare) (sent 0 as_document) → ⊥
document l =
    let (c, i, is) = held_of _ (with_streams (one behind_prepare)) (item_of_change as_document) (act_message as_document as_document.act) 0 [] behind_prepare document_header refl l.0 (snapshot durable 0 3 (first_item ∷ prepared_item ∷ [])) refl in
    let at : l.0.change.seq ≡ 3 = ap (λ (z : ItemLine). z.seq) l.0.told in let set : line_act l.0.change.act ≡ item_act.Set = ap (λ (z : ItemLine). z.act) l.0.told in
    let same : l.0.change ≡ c = is in let third : c ≡ committed = third_of c i (sym (ap (λ (z : Change). z.seq) same) ∙ at) in
    no_set (line_act l.0.change.act) (ap (λ (z : Change). line_act z.act) (same ∙ third)) set

-- ---- one that is not

plain_next : IsNextItem (snapshot shown 0 3 (first_item ∷ [])) (item_of_change as_document)
plain_next = ([], record { whole = shown; covers = all_between shown 0 3 (omega arith) (omega arith, (omega arith, omega arith)) refl; front = refl }, λ e. refl)

pub plain_document : LawfulPut durable (one plain_first) (sent 0 as_document)
plain_document = item_put _ (with_streams (one plain_first)) 0 as_document plain_first (snapshot shown 0 3 (first_item ∷ [])) [] document_header refl refl refl (none_counted (with_streams (one plain_first)) refl refl) refl refl (inr (inl refl)) (committed, inr (inr (inl refl)), refl) plain_next ▹ (λ z. cc) ▹ tt

pub plain_prepare : LawfulPut durable (one plain_first) (sent 0 prepared) → ⊥
plain_prepare l =
    let (c, i, stands) = shown_of _ (with_streams (one plain_first)) prepared_item (act_message prepared prepared.act) 0 [] plain_first prepared_header refl l.0 (snapshot shown 0 3 (first_item ∷ [])) refl in
    let at : l.0.change.seq ≡ 2 = ap (λ (z : ItemLine). z.seq) l.0.told in let same : l.0.change.seq ≡ c.seq = seq_as l.0.change c stands in
    ⊎_elim (λ e. let n : c.seq ≡ 1 = ap (λ (z : Change). z.seq) e in omega (arith, at, same, n)) (λ j. ⊎_elim (λ e. let n : c.seq ≡ 3 = ap (λ (z : Change). z.seq) e in omega (arith, at, same, n)) (λ k. k) j) i

-- what is shown at the seqno 3 is a set
shown_set : (x : Change) → IsOf shown x → x.seq ≡ 3 → x ≡ as_document
shown_set x (c, i, stands) at = ⊎_elim
    (λ e. let n : c.seq ≡ 1 = ap (λ (z : Change). z.seq) e in let same : x.seq ≡ c.seq = seq_as x c stands in absurd (omega (arith, at, same, n)))
    (λ j. ⊎_elim (λ e. ⊎_elim (λ s. s ∙ e) (λ s. s ∙ ap plain e) stands) (λ k. absurd k) j) i

pub plain_commit : LawfulPut durable (one plain_first) (sent 0 committed) → ⊥
plain_commit l =
    let shows : IsOf shown l.0.change = shown_of _ (with_streams (one plain_first)) (item_of_change committed) (act_message committed committed.act) 0 [] plain_first commit_header refl l.0 (snapshot shown 0 3 (first_item ∷ [])) refl in
    let is : l.0.change ≡ as_document = shown_set l.0.change shows (ap (λ (z : ItemLine). z.seq) l.0.told) in
    no_set (line_act l.0.change.act) (ap (λ (z : ItemLine). z.act) l.0.told) (ap (λ (z : Change). line_act z.act) is)

-- ---- commits as documents

-- a snapshot in which the commit stands as its document
whole_by : (xs : List Change) (from : ℕ) → from < 3 → ((x : Change) → IsIn x xs → IsOf durable x) → ((c : Change) → IsIn c durable → from < c.seq → HasOf xs c) → (c : Covers xs xs from 3) → Covers xs durable from 3
whole_by xs from low of has c = record {
  goes_on = low;
  remains = record { rises = c.remains.rises; of = of; has = λ s x e a b. has x (in_filter (λ d. nat_le d.seq 3) x durable (last_in (touches s) (upto durable 3) x e).0).0 a };
  reaches = c.reaches;
}

document_whole : Covers (as_document ∷ []) durable 2 3
document_whole = whole_by (as_document ∷ []) 2 (omega arith)
    (λ x i. ⊎_elim (λ e. (committed, inr (inr (inl refl)), inr e)) (λ k. absurd k) i)
    (λ c i a. ⊎_elim (λ e. let n : c.seq ≡ 1 = ap (λ (z : Change). z.seq) e in absurd (omega (arith, a, n)))
    (λ j. ⊎_elim (λ e. let n : c.seq ≡ 2 = ap (λ (z : Change). z.seq) e in absurd (omega (arith, a, n))) (λ k. ⊎_elim (λ e. (as_document, inl refl, inr (sym (ap plain e)))) (λ none. absurd none) k) j) i)
    (all_between (as_document ∷ []) 2 3 (omega arith) (omega arith, omega arith) refl)

pub below : LawfulPut durable (one from_below) (sent 0 as_document)
below = record {
  change = as_document;
  told = refl;
  put = put_by (with_streams (one from_below)) (act_message as_document as_document.act) 0 from_below [] document_header refl refl refl (none_counted (with_streams (one from_below)) refl refl);
  opens = refl;
  begun = snapshot durable 2 3 [];
  last = refl;
  shown = (committed, inr (inr (inl refl)), inr refl);
  held = (committed, inr (inr (inl refl)), refl);
  next = ([], record { whole = as_document ∷ []; covers = document_whole; front = refl }, λ e. refl);
  unreplaced = λ e. cc;
} ▹ (λ z. cc) ▹ tt

-- a later snapshot of that stream
abbrev later : ClientStream
later = inside true (asks_for 0 1 2 9) durable 2 3 []

pub later_document : LawfulPut durable (one later) (sent 0 as_document) → ⊥
later_document l =
    let (c, i, is) = held_of _ (with_streams (one later)) (item_of_change as_document) (act_message as_document as_document.act) 0 [] later document_header refl l.0 (snapshot durable 2 3 []) refl in
    let at : l.0.change.seq ≡ 3 = ap (λ (z : ItemLine). z.seq) l.0.told in let set : line_act l.0.change.act ≡ item_act.Set = ap (λ (z : ItemLine). z.act) l.0.told in
    let same : l.0.change ≡ c = is in let third : c ≡ committed = third_of c i (sym (ap (λ (z : Change). z.seq) same) ∙ at) in
    no_set (line_act l.0.change.act) (ap (λ (z : Change). line_act z.act) (same ∙ third)) set

commit_alone : IsNextItem (snapshot durable 2 3 []) (item_of_change committed)
commit_alone = ([], record { whole = committed ∷ []; covers = all_between durable 2 3 (omega arith) (omega arith, omega arith) refl; front = refl }, λ e. refl)

pub later_commit : LawfulPut durable (one later) (sent 0 committed)
later_commit = item_put _ (with_streams (one later)) 0 committed later (snapshot durable 2 3 []) [] commit_header refl refl refl (none_counted (with_streams (one later)) refl refl) refl refl (inr (inr (inl refl))) (committed, inr (inr (inl refl)), refl) commit_alone ▹ (λ z. cc) ▹ tt

-- none is sent as itself
pub below_commit : LawfulPut durable (one from_below) (sent 0 committed) → ⊥
below_commit l =
    let (c, i, is) = held_of _ (with_streams (one from_below)) (item_of_change committed) (act_message committed committed.act) 0 [] from_below commit_header refl l.0 (snapshot durable 2 3 []) refl in
    let at : l.0.change.seq ≡ 3 = ap (λ (z : ItemLine). z.seq) l.0.told in let same : l.0.change ≡ plain c = is in
    let third : c ≡ committed = third_of c i (sym (ap (λ (z : Change). z.seq) same) ∙ at) in
    no_set (line_act l.0.change.act) (ap (λ (z : ItemLine). z.act) l.0.told) (ap (λ (z : Change). line_act z.act) (same ∙ ap plain third))

-- a vBucket that was sent the commit as a document sends it so
held_whole : Covers held_as_document durable 0 3
held_whole = whole_by held_as_document 0 (omega arith)
    (λ x i. ⊎_elim (λ e. (one_change, inl refl, inl e)) (λ j. ⊎_elim (λ e. (prepared, inr (inl refl), inl e)) (λ k. ⊎_elim (λ e. (committed, inr (inr (inl refl)), inr e)) (λ none. absurd none) k) j) i)
    (λ c i a. ⊎_elim (λ e. (one_change, inl refl, inl (sym e))) (λ j. ⊎_elim (λ e. (prepared, inr (inl refl), inl (sym e))) (λ k. ⊎_elim (λ e. (as_document, inr (inr (inl refl)), inr (sym (ap plain e)))) (λ none. absurd none) k) j) i)
    (all_between held_as_document 0 3 (omega arith) (omega arith, (omega arith, (omega arith, omega arith))) refl)

pub held_so : LawfulHeld held_as_document durable (one behind_prepare) (sent 0 as_document)
held_so = record {
  change = as_document;
  told = refl;
  put = put_by (with_streams (one behind_prepare)) (act_message as_document as_document.act) 0 behind_prepare [] document_header refl refl refl (none_counted (with_streams (one behind_prepare)) refl refl);
  opens = refl;
  begun = snapshot durable 0 3 (first_item ∷ prepared_item ∷ []);
  last = refl;
  shown = (committed, inr (inr (inl refl)), inr refl);
  held = (as_document, inr (inr (inl refl)), refl);
  next = ([], record { whole = held_as_document; covers = held_whole; front = refl }, λ e. refl);
  unreplaced = λ e. cc;
} ▹ (λ z. cc) ▹ tt

pub held_commit : LawfulHeld held_as_document durable (one behind_prepare) (sent 0 committed) → ⊥
held_commit l =
    let (c, i, is) = held_of _ (with_streams (one behind_prepare)) (item_of_change committed) (act_message committed committed.act) 0 [] behind_prepare commit_header refl l.0 (snapshot durable 0 3 (first_item ∷ prepared_item ∷ [])) refl in
    let at : l.0.change.seq ≡ 3 = ap (λ (z : ItemLine). z.seq) l.0.told in let same : l.0.change ≡ c = is in
    let third : c ≡ as_document = third_held c i (sym (ap (λ (z : Change). z.seq) same) ∙ at) in
    no_set (line_act l.0.change.act) (ap (λ (z : ItemLine). z.act) l.0.told) (ap (λ (z : Change). line_act z.act) (same ∙ third))

-- ---- behind a role

-- as its vBucket held it before
pub turned_commit : LawfulHeld held_as_document durable (one (left_with durable behind_prepare)) (sent 0 committed)
turned_commit = item_put _ (with_streams (one (left_with durable behind_prepare))) 0 committed (left_with durable behind_prepare) (snapshot durable 0 3 (first_item ∷ prepared_item ∷ [])) [] commit_header refl refl refl (none_counted (with_streams (one (left_with durable behind_prepare))) refl refl) refl refl (inr (inr (inl refl))) (committed, inr (inr (inl refl)), refl) commit_next ▹ (λ z. cc) ▹ tt

pub turned_as_document : LawfulHeld held_as_document durable (one (left_with durable behind_prepare)) (sent 0 as_document) → ⊥
turned_as_document l =
    let (c, i, is) = held_of _ (with_streams (one (left_with durable behind_prepare))) (item_of_change as_document) (act_message as_document as_document.act) 0 [] (left_with durable behind_prepare) document_header refl l.0 (snapshot durable 0 3 (first_item ∷ prepared_item ∷ [])) refl in
    let at : l.0.change.seq ≡ 3 = ap (λ (z : ItemLine). z.seq) l.0.told in let set : line_act l.0.change.act ≡ item_act.Set = ap (λ (z : ItemLine). z.act) l.0.told in
    let same : l.0.change ≡ c = is in let third : c ≡ committed = third_of c i (sym (ap (λ (z : Change). z.seq) same) ∙ at) in
    no_set (line_act l.0.change.act) (ap (λ (z : Change). line_act z.act) (same ∙ third)) set

pub turned_document : LawfulPut durable (one (left_with held_as_document behind_prepare)) (sent 0 as_document)
turned_document = record {
  change = as_document;
  told = refl;
  put = put_by (with_streams (one (left_with held_as_document behind_prepare))) (act_message as_document as_document.act) 0 (left_with held_as_document behind_prepare) [] document_header refl refl refl (none_counted (with_streams (one (left_with held_as_document behind_prepare))) refl refl);
  opens = refl;
  begun = snapshot durable 0 3 (first_item ∷ prepared_item ∷ []);
  last = refl;
  shown = (committed, inr (inr (inl refl)), inr refl);
  held = (as_document, inr (inr (inl refl)), refl);
  next = ([], record { whole = held_as_document; covers = held_whole; front = refl }, λ e. refl);
  unreplaced = λ e. cc;
} ▹ (λ z. cc) ▹ tt

pub turned_as_commit : LawfulPut durable (one (left_with held_as_document behind_prepare)) (sent 0 committed) → ⊥
turned_as_commit l =
    let (c, i, is) = held_of _ (with_streams (one (left_with held_as_document behind_prepare))) (item_of_change committed) (act_message committed committed.act) 0 [] (left_with held_as_document behind_prepare) commit_header refl l.0 (snapshot durable 0 3 (first_item ∷ prepared_item ∷ [])) refl in
    let at : l.0.change.seq ≡ 3 = ap (λ (z : ItemLine). z.seq) l.0.told in let same : l.0.change ≡ c = is in
    let third : c ≡ as_document = third_held c i (sym (ap (λ (z : Change). z.seq) same) ∙ at) in
    no_set (line_act l.0.change.act) (ap (λ (z : ItemLine). z.act) l.0.told) (ap (λ (z : Change). line_act z.act) (same ∙ third))
