-- takes and pumps that leave changes, judged by hand
use Rattle.std.specs.Prelude.{◌≡◌, ◌≤◌, ◌<◌, ◌∷◌}
use Rattle.transcript_law.proofs.Words.{ℕ, Bool, true, false, List, [], refl, ap, sym, ◌∙◌, subst, arith, inl, inr, ⊎_elim, Option, Some, None, Begun, Chronicle, Dial, Event, frames_in_lines, Granted, ItemLine, Role, after_lines, both_sent_lines, granted_inside, item_of_change}
use Rattle.transcript_law.proofs.links.{Idling.{all_put_by}, PumpAnswers.{pumped_right}, Sources.{from_memory}}
use Rattle.transcript_law.proofs.rows.Followers.{◌▹◌, begun, both_cover, changes, first_item, next_item, own_dial, own_stream, streamed}
use Rattle.transcript_law.specs.{Contrary.{after_both_dead}, LineAnswers.{PutsAsTold}, LinesTold.{at_line}, Undone.{AllPut, EndsThere, HasNoMore, IsDue}}
use Rattle.std.specs.FinMap.{get, get-empty, get-insert}
use Rattle.transcript_law.proofs.{Words.{cond, image_of, last_seq, nat_list_cmp_total, key_cmp, nothing, log_of, Pend}, invariant.Waiting.{pends_low}, rows.CommitRows.{waits, waits_there}}
use Rattle.transcript_law.specs.{Commits.{prepare_of}, Followers.{adopted_lines, ask_above}, Undone.{newest}}
use Rattle.vb_types.specs.declared.change.Level.{Level}
use Rattle.vb_types.specs.declared.change.Level.TheVariants.{Majority, PersistMajority}
use Rattle.vb_events.specs.declared.event.Answer.TheVariants as answer
use Rattle.vb_events.specs.declared.event.StreamName.TheVariants as name
use Rattle.vb_events.specs.declared.event.Why.TheVariants as why
use Rattle.transcript_law.specs.Followers.{after_both, next_change}
use Rattle.transcript_law.specs.UndoneRows.{DownLeavesNone, LawfulPump, LawfulTake, acknowledged_too, change_got, next_marker, prepare_got, prepare_held, prepare_marked, prepare_saved, prepare_sent, granted_both, lost, puts_end, puts_first, puts_half, puts_none, regot, stands_to, takes_none, takes_to}
use Rattle.transcript_law.proofs.verbs.Handing.{hands_plain}

-- the second change is held, and was not taken
pub both_left : LawfulTake after_both takes_none → ⊥
both_left l = let e : 2 ≤ 0 = l.0.7.0 refl next_change (inr (inl refl)) in omega (arith, e)

pub one_left : LawfulTake (stands_to 1) takes_none → ⊥
one_left l = let e : 2 ≤ 1 = l.0.7.0 refl next_change (inr (inl refl)) in omega (arith, e)

pub left_again : LawfulTake regot takes_none → ⊥
left_again l = let e : 2 ≤ 1 = l.0.7.0 refl next_change (inr (inl refl)) in omega (arith, e)

-- behind a batch that is gone
pub lost_left : LawfulTake (lost 1) takes_none → ⊥
lost_left l = let e : 2 ≤ 1 = l.0.7.0 refl next_change (inr (inl refl)) in omega (arith, e)

pub lost_again : (at count : ℕ) → LawfulTake (lost 2) (takes_to at count) → at ≤ 2 → ⊥
lost_again at count l low = let e : 2 < at = l.0.0.0.goes_on in omega (arith, e, low)

pub first_again : LawfulTake (lost 1) (takes_to 2 2) → ⊥
first_again l = let e : 2 ≤ 1 = l.0.0.0.most in omega (arith, e)

-- ---- streams

none_put_told : PutsAsTold 9 [] 0 why.Idle
none_put_told = record { told = refl; most = omega arith; all = λ e. cc; only = λ e. absurd (omega arith) }

one_put_told : (lines : List Event) → frames_in_lines lines ≡ 1 → PutsAsTold 9 lines 1 why.Idle
one_put_told lines e = record { told = sym e; most = omega arith; all = λ e. cc; only = λ e. absurd (omega arith) }

-- the stream of the link 1, behind a snapshot of both changes, has no more
put_whole : (read : Chronicle) (g : Granted) → read.dial_of 1 ≡ Some own_dial → read.stream_of (name.Link 1) 0 ≡ Some g → HasNoMore read 0 0 g → AllPut read 1
put_whole read g dialed is no_more = all_put_by read 1 own_dial (Some g) dialed is (λ other same goes. let one : g ≡ other = cc in subst (HasNoMore read 0 0) one no_more)

pub all_put : LawfulPump granted_both (both_sent_lines, answer.Pulled 3 why.Idle)
all_put = (
  (
    (own_stream, (0, refl, refl), record { opens = refl; starts = refl; behind = tt; reaches = omega arith; whole = (changes, both_cover) }, from_memory _ _)
        ▹ (streamed (begun 0 2 []), begun 0 2 [], (0, refl, refl), refl, refl, (next_change ∷ [], record { whole = changes; covers = both_cover; front = refl }, λ e. absurd (omega arith)), λ e. cc)
        ▹ (streamed (begun 0 2 (first_item ∷ [])), begun 0 2 (first_item ∷ []), (0, refl, refl), refl, refl, ([], record { whole = changes; covers = both_cover; front = refl }, λ e. refl), λ e. cc) ▹ tt,
    pumped_right,
    refl,
    refl,
    λ w no standing. cc,
    hands_plain _ _ _ _ refl refl,
    tt,
    put_whole (after_lines (at_line granted_both 1) both_sent_lines) (streamed (begun 0 2 (first_item ∷ next_item ∷ []))) refl refl (record { whole = (first_item ∷ [], next_item, refl, refl); active = refl; none = inl (omega arith) }),
    λ n c opens. cc,
    tt,
    tt,
    (tt, tt),
  ),
  tt,
)

pub put_before : LawfulPump after_both puts_none
put_before = (
  (
    tt,
    none_put_told,
    refl,
    refl,
    λ w no standing. refl,
    hands_plain _ _ _ _ refl refl,
    tt,
    all_put_by (at_line after_both 1) 1 own_dial ((at_line after_both 1).stream_of (name.Link 1) 0) refl refl (λ g is over.
        let one : _ ≡ g = some_one is in subst (HasNoMore (at_line after_both 1) 0 0) one (record { whole = (first_item ∷ [], next_item, refl, refl); active = refl; none = inl (omega arith) })),
    λ n c opens. cc,
    tt,
    tt,
    (tt, tt),
  ),
  tt,
)
  where
    some_one : {a b : Granted} → Some a ≡ Some b → a ≡ b
    some_one e = cc

pub none_put : LawfulPump granted_both puts_none → ⊥
none_put l = let m = l.0.7 own_dial own_stream refl refl refl in ⊎_elim (λ (e : 2 ≤ 0). omega (arith, e)) (λ f. let e : 2 < 0 = f.1 in omega (arith, e)) m.none

pub half_put : LawfulPump granted_both puts_half → ⊥
half_put l = not_there (l.0.7 own_dial (streamed (begun 0 2 (first_item ∷ []))) refl refl refl).whole
  where
    not_there : EndsThere (begun 0 2 (first_item ∷ [])) → ⊥
    not_there ([], item, is, ends) = let one : first_item ≡ item = cc in let e : ◌≡◌ {A = ℕ} 1 2 = ap (λ (i : ItemLine). i.seq) one ∙ ends in omega (arith, e)
    not_there (x ∷ [], item, is, ends) = cc
    not_there (x ∷ y ∷ more, item, is, ends) = cc

pub first_put : LawfulPump granted_both puts_first → ⊥
first_put l = let m = l.0.7 own_dial (streamed (begun 0 1 (first_item ∷ []))) refl refl refl in ⊎_elim (λ (e : 2 ≤ 1). omega (arith, e)) (λ f. none_of f.0) m.none
  where
    none_of : {b : Begun} → Some b ≡ None → ⊥
    none_of e = cc

pub ended : LawfulPump (after_both_dead after_both) puts_end
ended = (
  (
    ((_, (0, refl, refl), refl, record { whole = changes; covers = both_cover; front = refl }, λ f e. refl), tt),
    one_put_told puts_end.0 refl,
    refl,
    refl,
    λ w no standing. cc,
    hands_plain _ _ _ _ refl refl,
    tt,
    all_put_by (after_lines (at_line (after_both_dead after_both) 1) puts_end.0) 1 own_dial ((after_lines (at_line (after_both_dead after_both) 1) puts_end.0).stream_of (name.Link 1) 0) refl refl (λ g is over. absurd (ended_over g is over)),
    λ n c opens. cc,
    tt,
    tt,
    (tt, tt),
  ),
  tt,
)
  where
    ended_over : (g : Granted) → (after_lines (at_line (after_both_dead after_both) 1) puts_end.0).stream_of (name.Link 1) 0 ≡ Some g → g.over ≡ false → ⊥
    ended_over g is over = let z : true ≡ false = ap over_in is ∙ over in cc
      where
        over_in : Option Granted → Bool
        over_in None = true
        over_in (Some g) = g.over

pub unended : LawfulPump (after_both_dead after_both) puts_none → ⊥
unended l = let m = l.0.7 own_dial _ refl refl refl in dead m.active
  where
    dead : Some (Some Role.Dead) ≡ Some (Some Role.Active) → ⊥
    dead e = cc

pub reached : LawfulPump (granted_inside 2) puts_none → ⊥
reached l = let m = l.0.7 own_dial _ refl refl refl in ⊎_elim (λ (e : 2 ≤ 1). omega (arith, e)) (λ f. let e : 2 < 2 = f.1 in omega (arith, e)) m.none

-- ---- acknowledgements

-- behind the prepare the stream is this, on which so much was acknowledged
abbrev sent_stream : Level → List ℕ → Granted
sent_stream how wrote = record {
  ask = ask_above 0 0;
  log = log_of 5;
  place = 1;
  last = Some (record { history = prepare_of how ∷ []; from = 0; end = 1; disk = false; items = item_of_change (prepare_of how) ∷ [] });
  over = false;
  marks = [];
  coming = [];
  wrote = wrote;
}

-- no other waits
is_waits : (how : Level) (key : List ℕ) (p : Pend) → get (image_of (prepare_of how ∷ [])).pending key ≡ Some p → p ≡ waits how
is_waits how key p e = by _ (sym (get-insert nat_list_cmp_total nothing.pending (9 ∷ []) (waits how) key) ∙ e)
  where
    by : (b : Bool) → cond b (Some (waits how)) (get nothing.pending key) ≡ Some p → p ≡ waits how
    by true q = cc
    by false q = let z : None ≡ Some p = sym (get-empty key_cmp key) ∙ q in cc

first_of : Option (ℕ × ℕ) → ℕ
first_of None = 0
first_of (Some ends) = ends.0

second_of : Option (ℕ × ℕ) → ℕ
second_of None = 0
second_of (Some ends) = ends.1

-- one of level 2 is none of level 3
second_level : {saved : ℕ} → Majority ≡ PersistMajority → 1 ≤ saved
second_level e = absurd (not_third e)
  where
    not_third : Majority ≡ PersistMajority → ⊥
    not_third e = cc

-- it is due once its snapshot is whole, and inside one that begins at it; one of level 3 once it is saved
prepare_due : (how : Level) (read : Chronicle) (ss se : ℕ) → read.held 1 0 ≡ prepare_of how ∷ [] → read.snap_at 1 0 ≡ Some (ss, se)
    → ((1 ≡ se → ⊥) → 1 ≤ ss) → (how ≡ PersistMajority → 1 ≤ (read.disk_at 1 0).saved) → IsDue read 1 0 (waits how)
unfolding first_of second_of
prepare_due how read ss se held snap inside saved = record {
  waits = (9 ∷ [], subst (λ h. get (image_of h).pending (9 ∷ []) ≡ Some (waits how)) (sym held) (waits_there how));
  complete = λ qs qe is part.
      let same : ss ≡ qs = ap first_of (sym snap ∙ is) in
      let end : se ≡ qe = ap second_of (sym snap ∙ is) in
      let low : 1 ≤ ss = inside (λ one. part (ap (last_seq 0) held ∙ one ∙ end)) in omega (arith, same, low);
  thirds = λ key p is third low.
      let one : p ≡ waits how = is_waits how key p (subst (λ h. get (image_of h).pending key ≡ Some p) held is) in
      let seq : p.seq ≡ 1 = ap (λ (x : Pend). x.seq) one in
      let kept : 1 ≤ (read.disk_at 1 0).saved = saved (sym (ap (λ (x : Pend). x.level) one) ∙ third) in omega (arith, seq, kept);
}

-- it is whole there
whole : {ss : ℕ} → (◌≡◌ {A = ℕ} 1 1 → ⊥) → 1 ≤ ss
whole off = absurd (off refl)

pub unacknowledged : DownLeavesNone (prepare_sent Majority 1) (prepare_got Majority 1) → ⊥
unacknowledged l = let e : 1 ≤ 0 = l.1 refl own_dial (sent_stream Majority []) refl refl (waits Majority) (prepare_due Majority _ 0 1 refl refl whole second_level) in omega (arith, e)

pub less : DownLeavesNone (prepare_sent Majority 1) (acknowledged_too Majority 0) → ⊥
less l = let e : 1 ≤ 0 = l.1 refl own_dial (sent_stream Majority (0 ∷ [])) refl refl (waits Majority) (prepare_due Majority _ 0 1 refl refl whole second_level) in omega (arith, e)

-- behind a log alone, behind the marker alone of a snapshot that begins at it, and behind the change alone
pub due_by_log : DownLeavesNone (prepare_held Majority) (adopted_lines 5) → ⊥
due_by_log l = let e : 1 ≤ 0 = l.1 refl own_dial (sent_stream Majority []) refl refl (waits Majority) (prepare_due Majority _ 0 1 refl refl whole second_level) in omega (arith, e)

pub due_by_marker : DownLeavesNone (prepare_held Majority) next_marker → ⊥
due_by_marker l = let e : 1 ≤ 0 = l.1 refl own_dial (sent_stream Majority []) refl refl (waits Majority) (prepare_due Majority _ 1 2 refl refl (λ off. omega arith) second_level) in omega (arith, e)

pub due_by_change : DownLeavesNone (prepare_marked Majority) (change_got Majority) → ⊥
due_by_change l = let e : 1 ≤ 0 = l.1 refl own_dial (sent_stream Majority []) refl refl (waits Majority) (prepare_due Majority _ 0 1 refl refl whole second_level) in omega (arith, e)

-- and one of level 3 that is saved
pub due_saved : DownLeavesNone (prepare_saved PersistMajority 1) (prepare_got PersistMajority 1) → ⊥
due_saved l = let e : 1 ≤ 0 = l.1 refl own_dial (sent_stream PersistMajority []) refl refl (waits PersistMajority) (prepare_due PersistMajority _ 0 1 refl refl whole (λ third. omega arith)) in omega (arith, e)

-- no more than one is due
pub acknowledged : DownLeavesNone (prepare_sent Majority 1) (acknowledged_too Majority 1)
acknowledged = (λ z. tt, λ t dial g dialed is e owed. no_more dial g (own_dial_is dial dialed) is e owed)
  where
    own_dial_is : (dial : Dial) → Some own_dial ≡ Some dial → own_dial ≡ dial
    own_dial_is dial e = cc

    no_more : (dial : Dial) (g : Granted) → own_dial ≡ dial → (after_lines (prepare_sent Majority 1) (acknowledged_too Majority 1)).stream_of (name.Link 1) dial.vb ≡ Some g → (e : Pend) → IsDue (after_lines (prepare_sent Majority 1) (acknowledged_too Majority 1)) dial.node dial.vb e → e.seq ≤ newest g.wrote
    no_more dial g same is e owed =
        let read : Chronicle = after_lines (prepare_sent Majority 1) (acknowledged_too Majority 1) in
        let mine : IsDue read 1 0 e = subst (λ (d : Dial). IsDue read d.node d.vb e) (sym same) owed in
        let told : Some (sent_stream Majority (1 ∷ [])) ≡ Some g = subst (λ (d : Dial). read.stream_of (name.Link 1) d.vb ≡ Some g) (sym same) is in
        let stream : sent_stream Majority (1 ∷ []) ≡ g = cc in
        let low : e.seq ≤ 1 = pends_low 0 1 (prepare_of Majority ∷ []) mine.waits.0 e (omega arith, omega arith) mine.waits.1 in
        subst (λ (x : Granted). e.seq ≤ newest x.wrote) stream low

pub inside : DownLeavesNone (prepare_sent Majority 2) (prepare_got Majority 2)
inside = (λ z. tt, λ t dial g dialed is e owed. no_more dial g (own_dial_is dial dialed) e owed)
  where
    own_dial_is : (dial : Dial) → Some own_dial ≡ Some dial → own_dial ≡ dial
    own_dial_is dial e = cc

    no_more : (dial : Dial) (g : Granted) → own_dial ≡ dial → (e : Pend) → IsDue (after_lines (prepare_sent Majority 2) (prepare_got Majority 2)) dial.node dial.vb e → e.seq ≤ newest g.wrote
    no_more dial g same e owed =
        let read : Chronicle = after_lines (prepare_sent Majority 2) (prepare_got Majority 2) in
        let mine : IsDue read 1 0 e = subst (λ (d : Dial). IsDue read d.node d.vb e) (sym same) owed in
        let low : e.seq ≤ 0 = mine.complete 0 2 refl (λ one. omega (arith, one)) in omega (arith, low)

pub unsaved : DownLeavesNone (prepare_sent PersistMajority 1) (prepare_got PersistMajority 1)
unsaved = (λ z. tt, λ t dial g dialed is e owed. no_more dial g (own_dial_is dial dialed) e owed)
  where
    own_dial_is : (dial : Dial) → Some own_dial ≡ Some dial → own_dial ≡ dial
    own_dial_is dial e = cc

    no_more : (dial : Dial) (g : Granted) → own_dial ≡ dial → (e : Pend) → IsDue (after_lines (prepare_sent PersistMajority 1) (prepare_got PersistMajority 1)) dial.node dial.vb e → e.seq ≤ newest g.wrote
    no_more dial g same e owed =
        let read : Chronicle = after_lines (prepare_sent PersistMajority 1) (prepare_got PersistMajority 1) in
        let mine : IsDue read 1 0 e = subst (λ (d : Dial). IsDue read d.node d.vb e) (sym same) owed in
        let one : e ≡ waits PersistMajority = is_waits PersistMajority mine.waits.0 e mine.waits.1 in
        let seq : e.seq ≡ 1 = ap (λ (x : Pend). x.seq) one in
        let saved : 1 ≤ 0 = mine.thirds (9 ∷ []) (waits PersistMajority) (waits_there PersistMajority) refl (omega (arith, seq)) in absurd (omega (arith, saved))
