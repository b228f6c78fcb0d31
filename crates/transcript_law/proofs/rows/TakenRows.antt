-- what a replica takes, judged by hand
use Rattle.std.specs.Prelude.{◌≡◌, ◌≤◌, ◌∷◌, ◌++◌, ◌==◌, if◌then◌else◌}
use Rattle.transcript_law.proofs.Words.{ℕ, List, [], min, refl, ap, sym, ◌∙◌, subst, ⊎_elim, inl, inr, arith, Option, Some, None, eqb-true, Change, IsIn, StandsAs, ItemLine}
use Rattle.transcript_law.proofs.Words.{Granted, past_next, past_mark, after_lines, Dial, Chronicle, granted, next_change, log_of, ask_within, granted_inside, marker_line, first_item_line, both_sent_lines, after_both}
use Rattle.transcript_law.proofs.{Words.{item_of_change, stream_history, LawfulFrom, one_change}, rows.Followers.{changes, own_dial, begun, streamed, first_item, next_item, one_of, seq_as, key_as, stream_is}}
use Rattle.{std.proofs.lemmas.Bool.{true_from_ne_false}, transcript_law.specs.Contrary.{disk_marker, done_lines, sent_known, range_lines, got_lines, strange_change, unadopted}, transcript_law.specs.LinesTold.{stream_branch}, transcript_law.specs.Lawfulness.{IsFed, EndsBy}}
use Rattle.transcript_law.specs.RefusalRows.{two_marks}
use Rattle.vb_events.specs.declared.event.StreamName.TheVariants.{Link}

-- a marker that names the disk, where nothing is saved, and an end that names another reason than the role

pub from_disk : LawfulFrom (granted_inside 2) disk_marker → ⊥
from_disk l = let (g, stream, marker, source) = l.0 in let low : 2 ≤ 0 = source.below refl in omega (arith, low)

pub ends_otherwise : LawfulFrom (granted_inside 2) done_lines → ⊥
ends_otherwise l =
    let (g, stream, opens, whole, by) = l.0 in
    let same : EndsBy (ask_within 0 1 2 5) 0 = subst (λ (x : Granted). EndsBy x.ask 0) (sym (stream_is (granted_inside 2) (granted (ask_within 0 1 2 5) (log_of 5)) g refl refl stream)) by in
    let e : ◌≡◌ {A = ℕ} 0 2 = same refl refl in omega arith

-- the stream of the replica's link

abbrev whole_stream : Granted
whole_stream = streamed (begun 0 2 (first_item ∷ next_item ∷ []))

-- a link that feeds the replica is the one that was dialed for it
fed_by : (r : Chronicle) (g h : Granted) (l : ℕ) → r.stream_of (Link 1) 0 ≡ Some g → ((m : ℕ) → r.dial_of l ≡ Some (record { producer = m; node = 1; vb = 0 }) → l ≡ 1) → IsFed r l 1 0 h → g ≡ h
fed_by r g h l told only (m, dialed, has, on) =
    let same : Some g ≡ Some h = sym told ∙ ap (λ k. r.stream_of (Link k) 0) (sym (only m dialed)) ∙ has in cc

dial_is : ℕ → Option Dial
dial_is l = if l == 1 then Some own_dial else None

only_one : (l m n v : ℕ) → dial_is l ≡ Some (record { producer = m; node = n; vb = v }) → l ≡ 1
unfolding dial_is
only_one l m n v e = eqb-true l 1 (true_from_ne_false (l == 1) (λ q.
    let none : ◌≡◌ {A = Option Dial} None (Some (record { producer = m; node = n; vb = v })) = sym (ap (λ b. if b then Some own_dial else None) q) ∙ e in cc))

-- markers that are taken

pub range : LawfulFrom (sent_known both_sent_lines) (range_lines 0 0 2)
range = (record { ends = omega arith; put = (1, whole_stream, (0, refl, refl, refl), (0, [], refl, refl), (next_change, inr (inl refl), refl)) }, tt)

pub high : LawfulFrom (sent_known both_sent_lines) (range_lines 0 1 2) → ⊥
high l = let (k, g, fed, (start, later, next, starts), at) = l.0.put in let e : 1 ≡ min start 0 = starts in omega (arith, e)

pub low : LawfulFrom after_both (range_lines 0 0 1) → ⊥
low l = let e : 2 ≤ 1 = l.0.ends in omega arith

-- the end of the next marker
mark_end : List (ℕ × ℕ) → ℕ
mark_end [] = 0
mark_end (m ∷ later) = m.1

pub beyond : LawfulFrom (sent_known both_sent_lines) (range_lines 0 0 3) → ⊥
unfolding dial_is mark_end
beyond l =
    let (k, g, fed, (start, later, next, starts), at) = l.0.put in
    let same : whole_stream ≡ g = fed_by (sent_known both_sent_lines) whole_stream g k refl (λ m e. only_one k m 1 0 e) fed in
    let e : ◌≡◌ {A = ℕ} 2 3 = ap (λ (x : Granted). mark_end x.marks) same ∙ ap mark_end next in omega arith

-- the stream whose one marker was taken
pub again : LawfulFrom (sent_known both_sent_lines) (range_lines 0 0 2 ++ range_lines 0 0 2) → ⊥
unfolding dial_is mark_end
again l =
    let (k, g, fed, (start, later, next, starts), at) = l.1.0.put in
    let same : past_mark whole_stream ≡ g = fed_by (after_lines (sent_known both_sent_lines) (range_lines 0 0 2)) (past_mark whole_stream) g k refl (λ m e. only_one k m 1 0 e) fed in
    let e : ◌≡◌ {A = ℕ} 0 2 = ap (λ (x : Granted). mark_end x.marks) same ∙ ap mark_end next in omega arith

-- of two markers the first one is next
pub first_mark : LawfulFrom two_marks (range_lines 0 0 1)
first_mark = (record { ends = omega arith; put = (1, _, (0, refl, refl, refl), (0, (1, 2) ∷ [], refl, refl), (one_change, inl refl, refl)) }, tt)

pub second_mark : LawfulFrom two_marks (range_lines 0 0 2) → ⊥
unfolding dial_is mark_end
second_mark l =
    let (k, g, fed, (start, later, next, starts), at) = l.0.put in
    let e : ◌≡◌ {A = ℕ} 1 2 = ap (λ (x : Granted). mark_end x.marks) (fed_by two_marks _ g k refl (λ m e. only_one k m 1 0 e) fed) ∙ ap mark_end next in omega arith

dialed_vb : Option Dial → ℕ
dialed_vb None = 0
dialed_vb (Some d) = d.vb

pub stranger : LawfulFrom (sent_known both_sent_lines) (range_lines 1 0 2) → ⊥
unfolding dial_is dialed_vb
stranger l =
    let (k, g, (m, dialed, has, on), next, at) = l.0.put in let one : k ≡ 1 = only_one k m 1 1 dialed in
    let e : ◌≡◌ {A = ℕ} 0 1 = ap dialed_vb (ap dial_is (sym one) ∙ dialed) in omega arith

-- before the log was taken over it is on no branch
none_is_no_branch : (g : Granted) → ◌≡◌ {A = Option ℕ} None (Some (stream_branch g)) → ⊥
none_is_no_branch g e = cc

pub range_unadopted : LawfulFrom unadopted (range_lines 0 0 2) → ⊥
range_unadopted l = let (k, g, (m, dialed, has, on), next, at) = l.0.put in none_is_no_branch g on

pub got_unadopted : LawfulFrom unadopted (got_lines 1 one_change) → ⊥
got_unadopted l = let (g, (m, dialed, has, on), of, within) = l.0.put in none_is_no_branch g on

-- changes that are taken

pub got : LawfulFrom (sent_known both_sent_lines) (range_lines 0 0 2 ++ got_lines 1 one_change)
got = (range.0, (record { above = omega arith; put = (_, (0, refl, refl, refl), (one_change, inl refl, inl refl), (next_item ∷ [], refl)) }, tt))

pub other_link : LawfulFrom (sent_known both_sent_lines) (got_lines 2 one_change) → ⊥
other_link l = let (g, (m, dialed, has, on), of, within) = l.0.put in let e : ◌≡◌ {A = Option Dial} None (Some (record { producer = m; node = 1; vb = 0 })) = dialed in cc

strange_of : (c : Change) → IsIn c changes → StandsAs strange_change c → ⊥
strange_of c is stands =
    let key : strange_change.key ≡ c.key = key_as strange_change c stands in
    let seq : strange_change.seq ≡ c.seq = seq_as strange_change c stands in
    ⊎_elim (λ one. let k : c.key ≡ 7 ∷ [] = ap (λ (x : Change). x.key) one in let e : ◌≡◌ {A = List ℕ} (9 ∷ []) (7 ∷ []) = key ∙ k in cc)
    (λ next. let n : c.seq ≡ 2 = ap (λ (x : Change). x.seq) next in let one : 1 ≡ c.seq = seq in omega arith) (one_of c is)

-- the stream that feeds the replica is the one that the lines tell
fed_stream : (r : Chronicle) (g h : Granted) → r.stream_of (Link 1) 0 ≡ Some g → IsFed r 1 1 0 h → g ≡ h
fed_stream r g h told (m, dialed, has, on) = let same : Some g ≡ Some h = sym told ∙ has in cc

pub other_change : LawfulFrom (sent_known both_sent_lines) (got_lines 1 strange_change) → ⊥
other_change l =
    let (g, fed, (c, is, stands), within) = l.0.put in
    let same : whole_stream ≡ g = fed_stream (sent_known both_sent_lines) whole_stream g refl fed in
    strange_of c (subst (λ (x : Granted). IsIn c (stream_history (sent_known both_sent_lines) x)) (sym same) is) stands

-- the first item is not the second change's
next_is_not : (more later : List ItemLine) → first_item ∷ more ≡ item_of_change next_change ∷ later → ⊥
next_is_not more later e =
    let same : first_item ≡ item_of_change next_change = cc in let n : ◌≡◌ {A = ℕ} 1 2 = ap (λ (x : ItemLine). x.seq) same in omega arith

pub unput : LawfulFrom (sent_known (marker_line 0 1 ∷ first_item_line ∷ [])) (got_lines 1 next_change) → ⊥
unput l =
    let first : Granted = streamed (begun 0 1 (first_item ∷ [])) in let (g, fed, of, (later, next)) = l.0.put in
    let same : first ≡ g = fed_stream (sent_known (marker_line 0 1 ∷ first_item_line ∷ [])) first g refl fed in
    next_is_not [] later (ap (λ (x : Granted). x.coming) same ∙ next)

pub skipped : LawfulFrom (sent_known both_sent_lines) (got_lines 1 next_change) → ⊥
skipped l =
    let (g, fed, of, (later, next)) = l.0.put in let same : whole_stream ≡ g = fed_stream (sent_known both_sent_lines) whole_stream g refl fed in
    next_is_not (next_item ∷ []) later (ap (λ (x : Granted). x.coming) same ∙ next)

-- the stream inside its snapshot, of which the first item was put and taken
abbrev half : Granted
half = past_next (streamed (begun 0 2 (first_item ∷ [])))

pub early : LawfulFrom (sent_known (marker_line 0 2 ∷ first_item_line ∷ [])) (got_lines 1 one_change ++ got_lines 1 next_change) → ⊥
early l =
    let (g, fed, of, (later, next)) = l.1.0.put in
    let same : half ≡ g = fed_stream (after_lines (sent_known (marker_line 0 2 ∷ first_item_line ∷ [])) (got_lines 1 one_change)) half g refl fed in
    let none : ◌≡◌ {A = List ItemLine} [] (item_of_change next_change ∷ later) = ap (λ (x : Granted). x.coming) same ∙ next in cc
