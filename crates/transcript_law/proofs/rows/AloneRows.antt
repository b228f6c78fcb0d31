-- lines that one clause alone refuses, judged by hand
use Rattle.std.specs.Prelude.{◌≡◌, ◌<◌, ◌≤◌, ◌∷◌, ◌++◌, ◌==◌, if◌then◌else◌}
use Rattle.transcript_law.proofs.Words.{ℕ, Bool, true, false, List, [], length, map, refl, ap, sym, ◌∙◌, subst, inl, inr, ⊎_elim, arith, Option, Some, None, key_cmp, Act, Change, Doc, Pend, Event, Role, image_of, StandsAs, IsIn, ItemLine, Begun, Granted, Dial, Rises, eqb-true}
use Rattle.transcript_law.proofs.Words.{Chronicle, granted, finished, with_begun, item_of_change, stream_history, LawfulFrom, Lawful, log_of, ask_within, granted_inside, marker_line, both_sent_lines, one_change, next_change, first_doc, stream_end_lines, sent_back, inside_got, change_line, value_lines}
use Rattle.transcript_law.proofs.{rows.Followers.{begun, changes, first_item, next_covers, next_item, one_of, own_dial, seq_as, stream_is, streamed}, rows.NextRows.{resolving_next}, rows.Transcripts.{lines, pending}}
use Rattle.transcript_law.specs.Alone.{back_at, begun_one, both_in, commit_removal, commit_set, counts_anywhere, counts_at_vb, dialed_once, ended_inside, first_before, first_groups, first_lines, got_at, held_before, held_less, held_otherwise, other_value, prepared, prepared_less, range_at, refused_at, removed_item, sent_anywhere, shown_waiting, strange_shown}
use Rattle.transcript_law.specs.{Commits.{prepare_of, the_commit}, Contrary.{acknowledged_lines, sent_known}, Followers.{first_item_line, next_item_line}, Lawfulness.{IsFed}}
use Rattle.transcript_law.specs.Majorities.{IsHeldByMost}
use Rattle.vb_types.proofs.Laws.{get-insert_same}
use Rattle.vb_types.specs.Histories.{plain}
use Rattle.vb_types.specs.Images.{nothing}
use Rattle.vb_types.specs.declared.change.Level.TheVariants.{Majority}
use Rattle.vb_events.specs.declared.event.ItemAct.{ItemAct}
use Rattle.vb_events.specs.declared.event.StreamName.TheVariants.{Link}
use Rattle.std.specs.FinMap as finite

-- ---- changes

pub branch : LawfulFrom held_less (change_line 0 ∷ []) → ⊥
branch l = let e : 1 < 1 = l.0.above_branch in omega arith

abbrev waits : Pend
waits = record { seq = 1; level = Majority; doc = first_doc 1 (6 ∷ []); deleted = false }

waits_there : finite.get (image_of (prepare_of Majority ∷ [])).pending (9 ∷ []) ≡ Some waits
waits_there = get-insert_same nothing.pending (9 ∷ []) waits

-- the chain is the node alone, so the prepare is held by most
held_alone : (p : ℕ) → IsHeldByMost (prepared.counts_at 0 0) (prepared.disk_at 0 0).saved p Majority
held_alone p = record { members = []; differ = tt; each = tt; most = omega arith; saved_for = λ w. absurd w }

named_so : (number : ℕ) (doc : Doc) (deleted : Bool) → the_commit.act ≡ Act.Commit number doc deleted → (waits.seq ≡ number) × (waits.doc ≡ doc) × (waits.deleted ≡ deleted)
named_so number doc deleted e = (cc, cc, cc)

pub commits : LawfulFrom prepared (commit_set (6 ∷ []))
commits = (
  record {
    active = refl;
    writer = record { made_or_took = refl; on_branch = refl };
    above_branch = omega arith;
    above_forks = (λ e. omega arith, tt);
    made = resolving_next (prepare_of Majority ∷ []) the_commit waits refl waits_there refl refl refl refl;
    fulfils = λ number doc deleted e. let t = named_so number doc deleted e in (waits, waits_there, t.0, t.1, t.2);
    backed = λ number doc deleted e p there. let found : Some waits ≡ Some p = sym waits_there ∙ there in let same : waits ≡ p = cc in subst (λ (q : Pend). IsHeldByMost (prepared.counts_at 0 0) (prepared.disk_at 0 0).saved q.seq q.level) same (held_alone 1);
    asked = λ level doc deleted e. cc;
    aborts = λ prepared e. cc;
  },
  tt,
)

pub unprepared : LawfulFrom prepared_less (commit_set (6 ∷ [])) → ⊥
unprepared l =
    let x = l.0.fulfils 1 (first_doc 1 (6 ∷ [])) false refl in
    let e : ◌≡◌ {A = Option Pend} None (Some x.0) = sym (finite.get-empty key_cmp (9 ∷ [])) ∙ x.1 in cc

pub document : LawfulFrom prepared (commit_set (7 ∷ [])) → ⊥
document l =
    let x = l.0.fulfils 1 (first_doc 1 (7 ∷ [])) false refl in
    let found : Some waits ≡ Some x.0 = sym waits_there ∙ x.1 in let same : waits ≡ x.0 = cc in
    let e : ◌≡◌ {A = List ℕ} (6 ∷ []) (7 ∷ []) = ap (λ (p : Pend). p.doc.value) same ∙ ap (λ (d : Doc). d.value) x.3 in cc

pub removal : LawfulFrom prepared commit_removal → ⊥
removal l =
    let x = l.0.fulfils 1 (first_doc 1 (6 ∷ [])) true refl in
    let found : Some waits ≡ Some x.0 = sym waits_there ∙ x.1 in let same : waits ≡ x.0 = cc in
    let e : false ≡ true = ap (λ (p : Pend). p.deleted) same ∙ x.4 in cc

pub history : LawfulFrom held_otherwise strange_shown → ⊥
history l =
    let e : ◌≡◌ {A = List Event} (Event.Document (9 ∷ []) (first_doc 1 (8 ∷ [])) ∷ []) (value_lines (8 ∷ [])) = (l.0.complete refl).lines ∙ lines in
    let k : ◌≡◌ {A = List ℕ} (9 ∷ []) (7 ∷ []) = cc in cc

pub waiting : LawfulFrom inside_got shown_waiting → ⊥
waiting l = let e : ◌≡◌ {A = ℕ} 1 0 = l.0.preps_left ∙ ap length pending in omega arith

-- ---- links

producer_in : Option Dial → ℕ
producer_in None = 0
producer_in (Some d) = d.producer

node_in : Option Dial → ℕ
node_in None = 0
node_in (Some d) = d.node

vb_in_dial : Option Dial → ℕ
vb_in_dial None = 0
vb_in_dial (Some d) = d.vb

-- the one link is that of the vBucket 0 of the node 1
abbrev dial_is : ℕ → Option Dial
dial_is l = if l == 1 then Some own_dial else None

pub own_only : (l m n v : ℕ) → dial_is l ≡ Some (record { producer = m; node = n; vb = v }) → (1 ≡ n) × (0 ≡ v)
unfolding node_in vb_in_dial
own_only l m n v = elim (l == 1) as (λ b. (if b then Some own_dial else None) ≡ Some (record { producer = m; node = n; vb = v }) → (1 ≡ n) × (0 ≡ v)) [
  | true ↦ λ e. (ap node_in e, ap vb_in_dial e)
  | false ↦ λ e. let z : ◌≡◌ {A = Option Dial} None (Some (record { producer = m; node = n; vb = v })) = e in cc
]

pub asked : LawfulFrom dialed_once (refused_at 0)
asked = (record { dialed = (1, refl); plain = inl refl; answered = record { own_log = refl; own_high = refl; verdict = λ e. absurd (omega arith); active = tt } }, tt)

pub asked_elsewhere : LawfulFrom dialed_once (refused_at 2) → ⊥
unfolding producer_in
asked_elsewhere l = let e : ◌≡◌ {A = ℕ} 0 2 = ap producer_in l.0.dialed.1 in omega arith

pub back : LawfulFrom sent_back (back_at 1 0)
back = (((1, 0, refl, refl), record { saved = refl; below = omega arith; farthest = λ n e l. let z : n ≡ 0 = e in omega arith }), tt)

pub back_node : LawfulFrom sent_back (back_at 2 0) → ⊥
back_node l = let (k, m, dialed, point) = l.0.0 in let e : ◌≡◌ {A = ℕ} 1 2 = (own_only k m 2 0 dialed).0 in omega arith

pub back_vb : LawfulFrom sent_back (back_at 1 1) → ⊥
back_vb l = let (k, m, dialed, point) = l.0.0 in let e : ◌≡◌ {A = ℕ} 0 1 = (own_only k m 1 1 dialed).1 in omega arith

abbrev whole_stream : Granted
whole_stream = streamed (begun 0 2 (first_item ∷ next_item ∷ []))

pub range : LawfulFrom (sent_known both_sent_lines) (range_at 1 0 2)
range = (record { ends = omega arith; put = (1, whole_stream, (0, refl, refl, refl), (0, [], refl, refl), (next_change, inr (inl refl), refl)) }, tt)

pub range_anywhere : LawfulFrom sent_anywhere (range_at 1 0 2)
range_anywhere = (record { ends = omega arith; put = (1, whole_stream, (0, refl, refl, refl), (0, [], refl, refl), (next_change, inr (inl refl), refl)) }, tt)

pub range_node : LawfulFrom sent_anywhere (range_at 2 0 2) → ⊥
range_node l = let (k, g, (m, dialed, has, on), next, at) = l.0.put in let e : ◌≡◌ {A = ℕ} 1 2 = (own_only k m 2 0 dialed).0 in omega arith

pub range_vb : LawfulFrom sent_anywhere (range_at 1 1 2) → ⊥
range_vb l = let (k, g, (m, dialed, has, on), next, at) = l.0.put in let e : ◌≡◌ {A = ℕ} 0 1 = (own_only k m 1 1 dialed).1 in omega arith

pub range_below : LawfulFrom first_before (range_at 1 0 1) → ⊥
range_below l = let e : 2 ≤ 1 = l.0.ends in omega arith

-- a link that feeds the replica is the one that was dialed for it, so its stream is known
one_link : (l m n v : ℕ) → dial_is l ≡ Some (record { producer = m; node = n; vb = v }) → l ≡ 1
one_link l m n v = by (l == 1) refl
  where
    by : (b : Bool) → (l == 1) ≡ b → (if b then Some own_dial else None) ≡ Some (record { producer = m; node = n; vb = v }) → l ≡ 1
    by true e q = eqb-true l 1 e
    by false e q = let z : ◌≡◌ {A = Option Dial} None (Some (record { producer = m; node = n; vb = v })) = q in cc

fed_by : (r : Chronicle) (g h : Granted) (k : ℕ) → r.stream_of (Link 1) 0 ≡ Some g → ((m : ℕ) → r.dial_of k ≡ Some (record { producer = m; node = 1; vb = 0 }) → k ≡ 1) → IsFed r k 1 0 h → g ≡ h
fed_by r g h k told only (m, dialed, has, on) = let same : Some g ≡ Some h = sym told ∙ ap (λ j. r.stream_of (Link j) 0) (sym (only m dialed)) ∙ has in cc

none_third : (c : Change) → IsIn c changes → c.seq ≡ 3 → ⊥
none_third c i e = ⊎_elim (λ one. let n : c.seq ≡ 1 = ap (λ (x : Change). x.seq) one in omega arith) (λ next. let n : c.seq ≡ 2 = ap (λ (x : Change). x.seq) next in omega arith) (one_of c i)

pub range_unended : LawfulFrom (sent_known (marker_line 0 3 ∷ [])) (range_at 1 0 3) → ⊥
range_unended l =
    let (k, g, fed, next, (c, is, at)) = l.0.put in
    let same : streamed (begun 0 3 []) ≡ g = fed_by (sent_known (marker_line 0 3 ∷ [])) (streamed (begun 0 3 [])) g k refl (λ m e. one_link k m 1 0 e) fed in
    none_third c (subst (λ (x : Granted). IsIn c (stream_history (sent_known (marker_line 0 3 ∷ [])) x)) (sym same) is) at

mark_end : List (ℕ × ℕ) → ℕ
mark_end [] = 0
mark_end (m ∷ later) = m.1

pub range_short : LawfulFrom (sent_known both_sent_lines) (range_at 1 0 1) → ⊥
unfolding mark_end
range_short l =
    let (k, g, fed, (start, later, next, starts), at) = l.0.put in
    let same : whole_stream ≡ g = fed_by (sent_known both_sent_lines) whole_stream g k refl (λ m e. one_link k m 1 0 e) fed in
    let e : ◌≡◌ {A = ℕ} 2 1 = ap (λ (x : Granted). mark_end x.marks) same ∙ ap mark_end next in omega arith

pub got_node : LawfulFrom sent_anywhere (got_at 2 0 one_change) → ⊥
unfolding node_in
got_node l = let (g, (m, dialed, has, on), of, within) = l.0.put in let e : ◌≡◌ {A = ℕ} 1 2 = ap node_in dialed in omega arith

pub got_vb : LawfulFrom sent_anywhere (got_at 1 1 one_change) → ⊥
unfolding vb_in_dial
got_vb l = let (g, (m, dialed, has, on), of, within) = l.0.put in let e : ◌≡◌ {A = ℕ} 0 1 = ap vb_in_dial dialed in omega arith

pub got_held : LawfulFrom held_before (got_at 1 0 one_change) → ⊥
got_held l = let e : 2 < 1 = l.0.above in omega arith

value_in : Act → List ℕ
value_in (Act.Set doc) = doc.value
value_in other = []

other_of : (c : Change) → IsIn c changes → StandsAs other_value c → ⊥
unfolding value_in
other_of c is stands = ⊎_elim
    (λ one. let same : other_value ≡ one_change = ⊎_elim (λ q. q ∙ one) (λ q. q ∙ ap plain one) stands in let e : ◌≡◌ {A = List ℕ} (9 ∷ []) (8 ∷ []) = ap (λ (x : Change). value_in x.act) same in cc)
    (λ next. let n : c.seq ≡ 2 = ap (λ (x : Change). x.seq) next in let s : 1 ≡ c.seq = seq_as other_value c stands in omega arith) (one_of c is)

pub got_value : LawfulFrom (sent_known both_sent_lines) (got_at 1 0 other_value) → ⊥
got_value l =
    let (g, fed, (c, is, stands), within) = l.0.put in
    let same : whole_stream ≡ g = fed_by (sent_known both_sent_lines) whole_stream g 1 refl (λ m e. refl) fed in
    other_of c (subst (λ (x : Granted). IsIn c (stream_history (sent_known both_sent_lines) x)) (sym same) is) stands

pub dead : LawfulFrom (both_in Role.Dead) (acknowledged_lines 1 2) → ⊥
dead l = let e : false ≡ true = l.0.role Role.Dead refl in cc

pub active : LawfulFrom (both_in Role.Active) (acknowledged_lines 1 2) → ⊥
active l = let e : false ≡ true = l.0.role Role.Active refl in cc

pub counted : LawfulFrom counts_anywhere (counts_at_vb 0 0)
counted = (record { active = tt; dialed = refl; granted = (_, refl, refl, inl refl, refl); held = omega arith; another = λ e. omega arith }, tt)

pub counted_node : LawfulFrom counts_anywhere (counts_at_vb 2 0) → ⊥
unfolding producer_in
counted_node l = let e : ◌≡◌ {A = ℕ} 0 2 = ap producer_in l.0.dialed in omega arith

pub counted_vb : LawfulFrom counts_anywhere (counts_at_vb 0 1) → ⊥
unfolding vb_in_dial
counted_vb l = let e : ◌≡◌ {A = ℕ} 0 1 = ap vb_in_dial l.0.dialed in omega arith

-- ---- streams

abbrev inside : Granted
inside = granted (ask_within 0 1 2 5) (log_of 5)

abbrev begun_inside : Granted
begun_inside = with_begun (granted_inside 2).tree 0 2 1 inside

pub item : LawfulFrom begun_one (next_item_line ∷ [])
item = ((_, begun 1 2 [], (0, refl, refl), refl, refl, ([], record { whole = next_change ∷ []; covers = next_covers; front = refl }, λ e. refl), λ e. cc), tt)

pub item_behind : LawfulFrom ended_inside (next_item_line ∷ []) → ⊥
item_behind l =
    let (g, b, stream, opens, last, next, source) = l.0 in
    let same : finished begun_inside ≡ g = stream_is ended_inside (finished begun_inside) g refl refl stream in
    let e : true ≡ false = ap (λ (x : Granted). x.over) same ∙ opens in cc

pub item_unbegun : LawfulFrom (granted_inside 2) (next_item_line ∷ []) → ⊥
item_unbegun l =
    let (g, b, stream, opens, last, next, source) = l.0 in
    let same : inside ≡ g = stream_is (granted_inside 2) inside g refl refl stream in
    let e : ◌≡◌ {A = Option Begun} None (Some b) = ap (λ (x : Granted). x.last) same ∙ last in cc

is_set : ItemAct → Bool
is_set ItemAct.Set = true
is_set other = false

first_is : (whole : List Change) (told : ItemLine) (rest : List ItemLine) → map item_of_change whole ≡ told ∷ rest → (x : Change) × (xs : List Change) × (whole ≡ x ∷ xs) × (item_of_change x ≡ told)
first_is [] told rest e = cc
first_is (x ∷ xs) told rest e = (x, xs, refl, cc)

-- an item of the start that the request means is not above it
pub item_below : LawfulFrom begun_one (first_item_line ∷ []) → ⊥
item_below l =
    let (g, b, stream, opens, last, (more, f, ends), source) = l.0 in
    let same : begun_inside ≡ g = stream_is begun_one begun_inside g refl refl stream in
    let o : Some (begun 1 2 []) ≡ Some b = ap (λ (x : Granted). x.last) same ∙ last in let is : begun 1 2 [] ≡ b = cc in
    let front : map item_of_change f.whole ≡ first_item ∷ map item_of_change more = f.front ∙ ap (λ (x : Begun). (x.items ++ first_item ∷ []) ++ map item_of_change more) (sym is) in
    let (x, xs, whole, e) = first_is f.whole first_item (map item_of_change more) front in
    let low : 1 ≡ b.from = ap (λ (y : Begun). y.from) is in
    let rises : Rises b.from b.end (x ∷ xs) = subst (λ ys. Rises b.from b.end ys) whole f.covers.remains.rises in
    let n : x.seq ≡ 1 = ap (λ (y : ItemLine). y.seq) e in let above : b.from < x.seq = rises.0 in omega arith

-- each change is a set, so its item is
sets : (x c : Change) → IsIn c changes → StandsAs x c → is_set (item_of_change x).act ≡ false → ⊥
unfolding is_set
sets x c h stands none = ⊎_elim
    (λ one. let same : x ≡ one_change = ⊎_elim (λ q. q ∙ one) (λ q. q ∙ ap plain one) stands in let e : true ≡ false = sym (ap (λ (y : Change). is_set (item_of_change y).act) same) ∙ none in cc)
    (λ next. let same : x ≡ next_change = ⊎_elim (λ q. q ∙ next) (λ q. q ∙ ap plain next) stands in let e : true ≡ false = sym (ap (λ (y : Change). is_set (item_of_change y).act) same) ∙ none in cc) (one_of c h)

pub item_act : LawfulFrom begun_one removed_item → ⊥
unfolding is_set
item_act l =
    let (g, b, stream, opens, last, (more, f, ends), source) = l.0 in
    let same : begun_inside ≡ g = stream_is begun_one begun_inside g refl refl stream in
    let o : Some (begun 1 2 []) ≡ Some b = ap (λ (x : Granted). x.last) same ∙ last in let is : begun 1 2 [] ≡ b = cc in
    let told : ItemLine = record { seq = 2; act = ItemAct.Remove; key = 9 ∷ [] } in
    let front : map item_of_change f.whole ≡ told ∷ map item_of_change more = f.front ∙ ap (λ (x : Begun). (x.items ++ told ∷ []) ++ map item_of_change more) (sym is) in
    let (x, xs, whole, e) = first_is f.whole told (map item_of_change more) front in
    let (c, i, stands) = f.covers.remains.of x (subst (λ ys. IsIn x ys) (sym whole) (inl refl)) in
    let h : IsIn c changes = subst (λ (y : Begun). IsIn c y.history) (sym is) i in
    sets x c h stands (ap (λ (y : ItemLine). is_set y.act) e)

pub ungranted : LawfulFrom dialed_once stream_end_lines → ⊥
ungranted l = let (g, (v, is, has), opens, whole, by) = l.0 in let e : ◌≡◌ {A = Option Granted} None (Some g) = has in cc

pub missing : Lawful (first_lines 5) (first_groups 4) → ⊥
missing l = l.1.1.1.1

pub more : Lawful (first_lines 4) (first_groups 5) → ⊥
more l = l.1.1.1.1
