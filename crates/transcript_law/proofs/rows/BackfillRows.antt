-- links that are fed from a journal, judged by hand
use Rattle.std.proofs.Common.{ℕ, true, false, List, [], ◌∷◌, ◌++◌, map, refl, ap, sym, ◌∙◌, subst, inl, inr, ⊎_elim, arith, ◌≡◌, ◌<◌, ◌≤◌}
use Rattle.std.specs.Prelude.{Some, ◌⊎◌}
use Rattle.vb_types.specs.Histories.{IsIn, Rises, Slot, last_of, plain_act, touches, upto}
use Rattle.vb_types.specs.declared.change.Act.{Act}
use Rattle.vb_types.specs.declared.change.Act.TheVariants as act
use Rattle.vb_types.specs.declared.change.Change.{Change}
use Rattle.vb_types.specs.declared.journal.Record.{Record}
use Rattle.vb_types.specs.declared.journal.Record.TheVariants as noted
use Rattle.vb_events.specs.declared.event.ItemAct.TheVariants as item_act
use Rattle.vb_events.specs.declared.event.StreamName.TheVariants.{Link}
use Rattle.branch_model.specs.Histories.{last_seq}
use Rattle.branch_model.specs.Snapshots.{Covers}
use Rattle.branch_model.proofs.Lasts.{slot_lasts_remain}
use Rattle.branch_model.proofs.Lists.{last_in, rises_in}
use Rattle.journal_points.proofs.Sending.{sends as sends_whole}
use Rattle.journal_points.specs.Rows.{commit_b, prepare_b, set_a, set_b}
use Rattle.transcript_law.proofs.links.Sources.{from_memory}
use Rattle.transcript_law.proofs.rows.Followers.{◌▹◌, stream_is}
use Rattle.transcript_law.specs.BackfillRows.{abort_c, begins, commit_a, eight, ends, fed, first_two, from_inside, from_start, marks, prepare_a, prepare_c, prepare_d, remove_a, saved_elsewhere, sends, unreplaced, within}
use Rattle.transcript_law.specs.Chronicles.{Begun, Granted, ItemLine}
use Rattle.transcript_law.specs.ClientStreamRows.{tree_of}
use Rattle.transcript_law.specs.Lawfulness.{IsMarker, LawfulFrom, LawfulItem}
use Rattle.transcript_law.specs.StreamLaws.{IsFromSource, IsFrontOf, IsNextItem, IsOfSource, IsUnreplaced, IsWholeIf, item_of_change, line_act}

-- ---- whole snapshots

pub rises_eight : Rises 0 8 eight
rises_eight = (omega arith, (omega arith, (omega arith, (omega arith, (omega arith, (omega arith, (omega arith, (omega arith, omega arith))))))))

-- a journal that has them in one batch
abbrev book : List Record
book = noted.Rows (record { position = record { ss = 0; se = 8; at = 8 }; cas = 80; log = []; items = eight }) ∷ []

-- what it gives is a whole snapshot of them, up to each of their seqnos
pub covers_all : Covers unreplaced eight 0 8
covers_all = record { goes_on = omega arith; remains = (sends_whole book 8 0 8 rises_eight (omega arith)).remains; reaches = refl }

covers_two : Covers first_two eight 0 5
covers_two = record { goes_on = omega arith; remains = (sends_whole book 8 0 5 rises_eight (omega arith)).remains; reaches = refl }

covers_one : Covers (set_b ∷ []) eight 1 3
covers_one = record { goes_on = omega arith; remains = (sends_whole book 8 1 3 rises_eight (omega arith)).remains; reaches = refl }

covers_rest : Covers (remove_a ∷ abort_c ∷ prepare_d ∷ []) eight 3 8
covers_rest = record { goes_on = omega arith; remains = (sends_whole book 8 3 8 rises_eight (omega arith)).remains; reaches = refl }

-- and so are they themselves, of which some were replaced
covers_themselves : Covers eight eight 0 8
covers_themselves = record {
  goes_on = omega arith;
  remains = record { rises = rises_eight; of = λ x i. (x, i, inl refl); has = λ slot c e above within. (c, (last_in (touches slot) eight c e).0, inl refl) };
  reaches = refl;
}

pub from_disk : (end saved : ℕ) → end ≤ saved → IsFromSource 2 end saved
from_disk end saved low = record { source = inr refl; below = λ e. low }

-- ---- markers

module _ (saved : ℕ) (g : Granted) where
  marked : (start end flags : ℕ) → IsMarker (tree_of eight) g start end → IsFromSource flags end saved → LawfulFrom (fed saved g) (marks start end flags ∷ [])
  marked start end flags m source = ((g, (0, refl, refl), m, source), tt)

  marker_of : (start end flags : ℕ) → LawfulFrom (fed saved g) (marks start end flags ∷ []) → IsMarker (tree_of eight) g start end × IsFromSource flags end saved
  marker_of start end flags l =
      let (h, stream, m, source) = l.0 in
      (subst (λ x. IsMarker (tree_of eight) x start end) (sym (stream_is (fed saved g) g h refl refl stream)) m, source)

  item_of : (b : Begun) (item : ItemLine) → g.last ≡ Some b → LawfulItem (fed saved g) (Link 1) item → IsNextItem b item × IsOfSource b item
  item_of b item is (h, c, stream, opens, last, next, source) =
      let both : Some b ≡ Some c = sym is ∙ ap (λ (x : Granted). x.last) (stream_is (fed saved g) g h refl refl stream) ∙ last in
      let same : b ≡ c = cc in
      (subst (λ x. IsNextItem x item) (sym same) next, subst (λ x. IsOfSource x item) (sym same) source)

  whole_of : (b : Begun) → g.last ≡ Some b → LawfulFrom (fed saved g) (ends ∷ []) → IsFrontOf b b.items []
  whole_of b is l =
      let (h, stream, opens, whole, by) = l.0 in
      subst IsWholeIf is (subst (λ (x : Granted). IsWholeIf x.last) (sym (stream_is (fed saved g) g h refl refl stream)) whole)

-- a first one from the start
first_marker : (xs : List Change) (end : ℕ) → Covers xs eight 0 end → IsMarker (tree_of eight) from_start 0 end
first_marker xs end covers = record { opens = refl; starts = refl; behind = tt; reaches = omega arith; whole = (xs, covers) }

pub whole : LawfulFrom (fed 8 from_start) (marks 0 8 2 ∷ [])
whole = marked 8 from_start 0 8 2 (first_marker unreplaced 8 covers_all) (from_disk 8 8 (omega arith))

pub part : LawfulFrom (fed 5 from_start) (marks 0 5 2 ∷ [])
part = marked 5 from_start 0 5 2 (first_marker first_two 5 covers_two) (from_disk 5 5 (omega arith))

pub above : LawfulFrom (fed 7 from_start) (marks 0 8 2 ∷ []) → ⊥
above l = let low : 8 ≤ 7 = (marker_of 7 from_start 0 8 2 l).1.below refl in omega (arith, low)

pub elsewhere : LawfulFrom (saved_elsewhere from_start) (marks 0 8 2 ∷ []) → ⊥
elsewhere l = let (g, stream, marker, source) = l.0 in let low : 8 ≤ 0 = source.below refl in omega (arith, low)

pub memory : LawfulFrom (fed 0 from_start) (marks 0 8 1 ∷ [])
memory = marked 0 from_start 0 8 1 (first_marker unreplaced 8 covers_all) (from_memory 8 0)

pub no_source : (flags end saved : ℕ) → (flags ≡ 1 → ⊥) → (flags ≡ 2 → ⊥) → IsFromSource flags end saved → ⊥
no_source flags end saved one two source = ⊎_elim one two source.source

pub both : LawfulFrom (fed 8 from_start) (marks 0 8 3 ∷ []) → ⊥
both l = no_source 3 8 8 (λ e. omega (arith, e)) (λ e. omega (arith, e)) (marker_of 8 from_start 0 8 3 l).1

pub neither : LawfulFrom (fed 8 from_start) (marks 0 8 0 ∷ []) → ⊥
neither l = no_source 0 8 8 (λ e. omega (arith, e)) (λ e. omega (arith, e)) (marker_of 8 from_start 0 8 0 l).1

pub first : LawfulFrom (fed 8 from_inside) (marks 0 3 2 ∷ [])
first = marked 8 from_inside 0 3 2 (record { opens = refl; starts = refl; behind = tt; reaches = omega arith; whole = (set_b ∷ [], covers_one) }) (from_disk 3 8 (omega arith))

-- behind that snapshot
abbrev put_first : Granted
put_first = within (begins true 1 3 (set_b ∷ [])) from_inside

next_marker : IsMarker (tree_of eight) put_first 3 8
next_marker = record {
  opens = refl;
  starts = refl;
  behind = record { whole = set_b ∷ []; covers = covers_one; front = refl };
  reaches = omega arith;
  whole = (remove_a ∷ abort_c ∷ prepare_d ∷ [], covers_rest);
}

pub next : LawfulFrom (fed 8 put_first) (marks 3 8 2 ∷ [])
next = marked 8 put_first 3 8 2 next_marker (from_disk 8 8 (omega arith))

pub next_memory : LawfulFrom (fed 8 put_first) (marks 3 8 1 ∷ [])
next_memory = marked 8 put_first 3 8 1 next_marker (from_memory 8 8)

pub again : LawfulFrom (fed 8 put_first) (marks 0 8 2 ∷ []) → ⊥
again l = let e : ◌≡◌ {A = ℕ} 0 3 = (marker_of 8 put_first 0 8 2 l).0.starts in omega (arith, e)

-- a snapshot of which not all was put
one_put : (xs : List Change) → map item_of_change xs ≡ item_of_change set_b ∷ [] → last_seq 0 xs ≡ 5 → ⊥
one_put [] e r = cc
one_put (x ∷ []) e r = let same : item_of_change x ≡ item_of_change set_b = cc in let n : x.seq ≡ 3 = ap (λ (i : ItemLine). i.seq) same in omega (arith, n, r)
one_put (x ∷ y ∷ ys) e r = cc

two_put : (xs : List Change) → map item_of_change xs ≡ item_of_change set_b ∷ item_of_change remove_a ∷ [] → last_seq 0 xs ≡ 8 → ⊥
two_put [] e r = cc
two_put (x ∷ []) e r = cc
two_put (x ∷ y ∷ []) e r = let same : item_of_change y ≡ item_of_change remove_a = cc in let n : y.seq ≡ 5 = ap (λ (i : ItemLine). i.seq) same in omega (arith, n, r)
two_put (x ∷ y ∷ z ∷ zs) e r = cc

pub unput : LawfulFrom (fed 8 (within (begins true 0 5 (set_b ∷ [])) from_start)) (marks 5 8 2 ∷ []) → ⊥
unput l = let f : IsFrontOf (begins true 0 5 (set_b ∷ [])) (item_of_change set_b ∷ []) [] = (marker_of 8 (within (begins true 0 5 (set_b ∷ [])) from_start) 5 8 2 l).0.behind in one_put f.whole f.front f.covers.reaches

pub unsent : LawfulFrom (fed 5 from_start) (marks 5 8 1 ∷ []) → ⊥
unsent l = let e : ◌≡◌ {A = ℕ} 5 0 = (marker_of 5 from_start 5 8 1 l).0.starts in omega (arith, e)

-- ---- each change that nothing replaced is there

-- none of these has this seqno
abbrev LacksSeq : ℕ → List ItemLine → Type 0
LacksSeq n [] = Unit {0}
LacksSeq n (i ∷ is) = (i.seq ≡ n → ⊥) × LacksSeq n is

-- a change below an item of a snapshot is one of those before it
skips : (n low high : ℕ) (xs : List Change) (before : List ItemLine) (item : ItemLine) (more : List ItemLine) (y : Change) → map item_of_change xs ≡ before ++ item ∷ more → Rises low high xs → IsIn y xs → y.seq ≡ n → n < item.seq → LacksSeq n before → ⊥
skips n low high [] before item more y e r i s l none = i
skips n low high (x ∷ xs) [] item more y e r i s l none =
    let same : item_of_change x ≡ item = cc in let at : x.seq ≡ item.seq = ap (λ (k : ItemLine). k.seq) same in
    ⊎_elim (λ q. let k : y.seq ≡ x.seq = ap (λ (c : Change). c.seq) q in omega (arith, k, at, s, l)) (λ j. let above = (rises_in x.seq high xs y r.1 j).0 in omega (arith, above, at, s, l)) i
skips n low high (x ∷ xs) (k ∷ ks) item more y e r i s l none =
    let same : item_of_change x ≡ k = cc in let at : x.seq ≡ k.seq = ap (λ (q : ItemLine). q.seq) same in let rest : map item_of_change xs ≡ ks ++ item ∷ more = cc in
    ⊎_elim (λ q. none.0 (sym at ∙ sym (ap (λ (c : Change). c.seq) q) ∙ s)) (λ j. skips n x.seq high xs ks item more y rest r.1 j s l none.1) i

-- so no snapshot goes on without the last change of a slot
left_out : (b : Begun) (item : ItemLine) (slot : Slot) (c : Change) → IsNextItem b item → last_of slot (upto b.history b.end) ≡ Some c → b.from < c.seq → c.seq ≤ b.end → c.seq < item.seq → LacksSeq c.seq b.items → ⊥
left_out b item slot c next last above low behind none =
    let (more, front, ends) = next in
    let (y, there, stands) = front.covers.remains.has slot c last above low in
    let same : y.seq ≡ c.seq = ⊎_elim (λ e. ap (λ (x : Change). x.seq) e) (λ e. ap (λ (x : Change). x.seq) e) stands in
    skips c.seq b.from b.end front.whole b.items item (map item_of_change more) y (front.front ∙ assoc b.items item (map item_of_change more)) front.covers.remains.rises there same behind none
  where
    assoc : (xs : List ItemLine) (x : ItemLine) (ys : List ItemLine) → (xs ++ x ∷ []) ++ ys ≡ xs ++ x ∷ ys
    assoc [] x ys = refl
    assoc (z ∷ xs) x ys = ap (λ zs. z ∷ zs) (assoc xs x ys)

-- the streams in a snapshot up to the last change, and up to b's
abbrev behind : List Change → Granted
behind put = within (begins true 0 8 put) from_start

abbrev up_to_three : Granted
up_to_three = within (begins true 0 3 []) from_start

pub removal : LawfulFrom (fed 8 (behind (set_b ∷ []))) (sends abort_c ∷ []) → ⊥
removal l = left_out (begins true 0 8 (set_b ∷ [])) (item_of_change abort_c) (Slot.Committed (97 ∷ [])) commit_a (item_of 8 (behind (set_b ∷ [])) (begins true 0 8 (set_b ∷ [])) (item_of_change abort_c) refl l.0).0 refl (omega arith) (omega arith) (omega arith) ((λ e. omega (arith, e)), tt)

pub abort : LawfulFrom (fed 8 (behind first_two)) (sends prepare_d ∷ []) → ⊥
abort l = left_out (begins true 0 8 first_two) (item_of_change prepare_d) (Slot.Pending (99 ∷ [])) abort_c (item_of 8 (behind first_two) (begins true 0 8 first_two) (item_of_change prepare_d) refl l.0).0 refl (omega arith) (omega arith) (omega arith) ((λ e. omega (arith, e)), ((λ e. omega (arith, e)), tt))

pub inside : LawfulFrom (fed 8 up_to_three) (sends set_b ∷ []) → ⊥
inside l = left_out (begins true 0 3 []) (item_of_change set_b) (Slot.Committed (97 ∷ [])) set_a (item_of 8 up_to_three (begins true 0 3 []) (item_of_change set_b) refl l.0).0 refl (omega arith) (omega arith) (omega arith) tt

-- ---- and each that is there is one

-- the seqnos of the last changes of all slots
last_seqs : (x : Change) → IsUnreplaced eight 8 x → 0 < x.seq → x.seq ≤ 8 → (x.seq ≡ 3) ⊎ ((x.seq ≡ 5) ⊎ ((x.seq ≡ 7) ⊎ (x.seq ≡ 8)))
last_seqs x u above low =
    let same : x.seq ≡ u.change.seq = ap (λ (y : Change). y.seq) u.written in
    let (y, there, stands) = (slot_lasts_remain 8 eight 0 8 rises_eight (omega arith)).has u.slot u.change u.last (omega (arith, same, above)) (omega (arith, same, low)) in
    by y (same ∙ sym (⊎_elim (λ e. ap (λ (c : Change). c.seq) e) (λ e. ap (λ (c : Change). c.seq) e) stands)) there
  where
    by : (y : Change) → x.seq ≡ y.seq → IsIn y (commit_b ∷ commit_a ∷ abort_c ∷ prepare_d ∷ []) → (x.seq ≡ 3) ⊎ ((x.seq ≡ 5) ⊎ ((x.seq ≡ 7) ⊎ (x.seq ≡ 8)))
    by y at i = ⊎_elim (λ e. inl (at ∙ ap (λ (c : Change). c.seq) e)) (λ j. inr (⊎_elim (λ e. inl (at ∙ ap (λ (c : Change). c.seq) e)) (λ k. inr (⊎_elim (λ e. inl (at ∙ ap (λ (c : Change). c.seq) e)) (λ m. inr (⊎_elim (λ e. at ∙ ap (λ (c : Change). c.seq) e) (λ z. absurd z) m)) k)) j)) i

-- one with another seqno was replaced
pub replaced_at : (x : Change) → IsUnreplaced eight 8 x → 0 < x.seq → x.seq ≤ 8 → (x.seq ≡ 3 → ⊥) → (x.seq ≡ 5 → ⊥) → (x.seq ≡ 7 → ⊥) → (x.seq ≡ 8 → ⊥) → ⊥
replaced_at x u above low a b c d = ⊎_elim a (λ j. ⊎_elim b (λ k. ⊎_elim c d k) j) (last_seqs x u above low)

item_replaced : (put : List Change) (n : ℕ) (item : ItemLine) → item.seq ≡ n → 0 < n → n ≤ 8 → (n ≡ 3 → ⊥) → (n ≡ 5 → ⊥) → (n ≡ 7 → ⊥) → (n ≡ 8 → ⊥) → IsOfSource (begins true 0 8 put) item → ⊥
item_replaced put n item is above low a b c d source =
    let (x, u, e) = source refl in
    let at : n ≡ x.seq = sym is ∙ ap (λ (i : ItemLine). i.seq) e in
    replaced_at x u (omega (arith, at, above)) (omega (arith, at, low)) (λ q. a (at ∙ q)) (λ q. b (at ∙ q)) (λ q. c (at ∙ q)) (λ q. d (at ∙ q))

pub replaced : LawfulFrom (fed 8 (behind [])) (sends set_a ∷ []) → ⊥
replaced l = item_replaced [] 1 (item_of_change set_a) refl (omega arith) (omega arith) (λ e. omega (arith, e)) (λ e. omega (arith, e)) (λ e. omega (arith, e)) (λ e. omega (arith, e)) (item_of 8 (behind []) (begins true 0 8 []) (item_of_change set_a) refl l.0).1

pub replaced_prepare : LawfulFrom (fed 8 (behind (set_b ∷ []))) (sends prepare_a ∷ []) → ⊥
replaced_prepare l = item_replaced (set_b ∷ []) 4 (item_of_change prepare_a) refl (omega arith) (omega arith) (λ e. omega (arith, e)) (λ e. omega (arith, e)) (λ e. omega (arith, e)) (λ e. omega (arith, e)) (item_of 8 (behind (set_b ∷ [])) (begins true 0 8 (set_b ∷ [])) (item_of_change prepare_a) refl l.0).1

-- none is a commit
never_commit : (a : Act) → line_act (plain_act a) ≡ item_act.Commit → ⊥
never_commit (act.Set doc) e = cc
never_commit (act.Remove cas rev) e = cc
never_commit (act.Prepare level doc deleted) e = cc
never_commit (act.Commit prepared doc true) e = cc
never_commit (act.Commit prepared doc false) e = cc
never_commit (act.Abort prepared) e = cc

pub written_out : (x : Change) → IsUnreplaced eight 8 x → line_act x.act ≡ item_act.Commit → ⊥
written_out x u e = never_commit u.change.act (ap (λ (c : Change). line_act c.act) (sym u.written) ∙ e)

pub commit : LawfulFrom (fed 8 (behind [])) (sends commit_b ∷ []) → ⊥
commit l =
    let (x, u, is) = (item_of 8 (behind []) (begins true 0 8 []) (item_of_change commit_b) refl l.0).1 refl in
    written_out x u (sym (ap (λ (i : ItemLine). i.act) is))

-- ---- snapshots that are whole

-- these changes are the last ones of their slots
pub set_b_last : IsUnreplaced eight 8 set_b
set_b_last = record { slot = Slot.Committed (98 ∷ []); change = commit_b; last = refl; written = refl }

remove_a_last : IsUnreplaced eight 8 remove_a
remove_a_last = record { slot = Slot.Committed (97 ∷ []); change = commit_a; last = refl; written = refl }

abort_c_last : IsUnreplaced eight 8 abort_c
abort_c_last = record { slot = Slot.Pending (99 ∷ []); change = abort_c; last = refl; written = refl }

prepare_d_last : IsUnreplaced eight 8 prepare_d
prepare_d_last = record { slot = Slot.Pending (100 ∷ []); change = prepare_d; last = refl; written = refl }

all_front : (items : List ItemLine) (more : List Change) → map item_of_change unreplaced ≡ items ++ map item_of_change more → (put : List Change) → IsFrontOf (begins true 0 8 put) items more
all_front items more front put = record { whole = unreplaced; covers = covers_all; front = front }

pub all : LawfulFrom (fed 8 from_start) (marks 0 8 2 ∷ map sends unreplaced)
all = (from_start, (0, refl, refl), first_marker unreplaced 8 covers_all, from_disk 8 8 (omega arith))
    ▹ (_, begins true 0 8 [], (0, refl, refl), refl, refl, (remove_a ∷ abort_c ∷ prepare_d ∷ [], all_front _ _ refl [], λ e. absurd (omega (arith, e))), λ d. (set_b, set_b_last, refl))
    ▹ (_, begins true 0 8 (set_b ∷ []), (0, refl, refl), refl, refl, (abort_c ∷ prepare_d ∷ [], all_front _ _ refl (set_b ∷ []), λ e. absurd (omega (arith, e))), λ d. (remove_a, remove_a_last, refl))
    ▹ (_, begins true 0 8 first_two, (0, refl, refl), refl, refl, (prepare_d ∷ [], all_front _ _ refl first_two, λ e. absurd (omega (arith, e))), λ d. (abort_c, abort_c_last, refl))
    ▹ (_, begins true 0 8 (set_b ∷ remove_a ∷ abort_c ∷ []), (0, refl, refl), refl, refl, ([], all_front _ _ refl (set_b ∷ remove_a ∷ abort_c ∷ []), λ e. refl), λ d. (prepare_d, prepare_d_last, refl)) ▹ tt

pub replaced_memory : LawfulFrom (fed 8 (within (begins false 0 8 []) from_start)) (sends set_a ∷ [])
replaced_memory =
    ((_, begins false 0 8 [], (0, refl, refl), refl, refl, (prepare_b ∷ commit_b ∷ prepare_a ∷ commit_a ∷ prepare_c ∷ abort_c ∷ prepare_d ∷ [], record { whole = eight; covers = covers_themselves; front = refl }, λ e. absurd (omega (arith, e))), λ d. cc), tt)

pub commit_memory : LawfulFrom (fed 8 (within (begins false 0 8 (set_a ∷ prepare_b ∷ [])) from_start)) (sends commit_b ∷ [])
commit_memory =
    ((_, begins false 0 8 (set_a ∷ prepare_b ∷ []), (0, refl, refl), refl, refl, (prepare_a ∷ commit_a ∷ prepare_c ∷ abort_c ∷ prepare_d ∷ [], record { whole = eight; covers = covers_themselves; front = refl }, λ e. absurd (omega (arith, e))), λ d. cc), tt)

pub ended : LawfulFrom (fed 8 (behind unreplaced)) (ends ∷ [])
ended = ((behind unreplaced, (0, refl, refl), refl, record { whole = unreplaced; covers = covers_all; front = refl }, λ plainly no_end. refl), tt)

pub ended_early : LawfulFrom (fed 8 (behind first_two)) (ends ∷ []) → ⊥
ended_early l = let f = whole_of 8 (behind first_two) (begins true 0 8 first_two) refl l in two_put f.whole f.front f.covers.reaches
