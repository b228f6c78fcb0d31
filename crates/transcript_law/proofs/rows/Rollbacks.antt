-- roles, rollbacks, ends of streams, what is shown inside a snapshot, and states of vBuckets, judged by hand
use Rattle.std.specs.Prelude.{◌≡◌, ◌∷◌, ◌++◌, ◌==◌, if◌then◌else◌}
use Rattle.transcript_law.proofs.Words.{ℕ, true, false, List, [], length, map, refl, ap, sym, ◌∙◌, subst, arith, Option, Some, None, Change, Doc, Role, last_seq}
use Rattle.transcript_law.proofs.Words.{front, uuid_of, Granted, Dial, is_dial_for, granted, finished, empty_chronicle, after_lines, next_change, log_of, ask_within, granted_inside, made_from}
use Rattle.transcript_law.proofs.Words.{marker_line, item_of_change, IsWholeIf, LawfulFrom, log_lines, made_log, empty_shown, after_dead, change_line, Event, link_over, dialed_anew, sent_back, rolled_lines}
use Rattle.transcript_law.proofs.Words.{stream_end_lines, rest_lines, after_active, forgotten, nothing, inl, inside_dead, inside_got, inside_shown, log_forgotten, strange, after_adopted, after_got}
use Rattle.transcript_law.proofs.Words.{all_active, based, changed_in, empty_in, AreFollowed, FollowsBranch, both_on_one, first_doc, forked_at, one_change, value_lines, new_vb, Picture, image_of}
use Rattle.transcript_law.proofs.rows.Followers.{next_covers, stream_is}
use Rattle.transcript_law.proofs.rows.{FollowerRows.{based_sound, inside_sound}, NextRows.{first_next}}
use Rattle.vbucket.proofs.Committing.{none_rests}
use Rattle.std.specs.FinMap as finite
use Rattle.transcript_law.proofs.rows.Transcripts.{no_entries, as_made, as_set, image, shown, docs, pending, lines}
use Rattle.transcript_law.specs.Contrary.{active_shown, inside_active, inside_newest}
use Rattle.transcript_law.proofs.links.Sources.{from_memory}

-- rollbacks
pub back : LawfulFrom sent_back (rolled_lines 1 0)
back = (((1, 0, refl, refl), record { saved = refl; below = omega arith; farthest = λ n e l. let z : n ≡ 0 = e in omega arith }), tt)

pub elsewhere : LawfulFrom sent_back (rolled_lines 1 1) → ⊥
elsewhere l = let e : ◌≡◌ {A = ℕ} 1 0 = l.0.1.saved in omega arith

back_point : ℕ → Option ℕ
back_point k = if k == 1 then Some 1 else if k == 1 then None else None

only_one : (k named : ℕ) → back_point k ≡ Some named → named ≡ 1
unfolding back_point
only_one k named = elim (k == 1) as (λ b. (if b then Some 1 else if b then None else None) ≡ Some named → named ≡ 1) [ true ↦ λ e. cc | false ↦ λ e. cc ]

pub unnamed : LawfulFrom sent_back (rolled_lines 2 0) → ⊥
unfolding back_point
unnamed l = let (k, m, dialed, point) = l.0.0 in let e : ◌≡◌ {A = ℕ} 2 1 = only_one k 2 point in omega arith

pub unasked : LawfulFrom (made_from 5) (rolled_lines 1 0) → ⊥
unasked l = let (k, m, dialed, point) = l.0.0 in elim (k == 1) as (λ b. ◌≡◌ {A = Option ℕ} (if b then None else None) (Some 1) → ⊥) [ true ↦ λ e. cc | false ↦ λ e. cc ] point

gone : (o : Option Dial) (m : ℕ) (p : Option ℕ) → o ≡ Some (record { producer = m; node = 1; vb = 0 }) → (if is_dial_for 1 0 o then None else p) ≡ Some 1 → ⊥
gone o m p dialed point = let e : ◌≡◌ {A = Option ℕ} None (Some 1) = sym (ap (λ (x : Option Dial). if is_dial_for 1 0 x then None else p) dialed) ∙ point in cc

pub twice_back : LawfulFrom sent_back (rolled_lines 1 0 ++ rolled_lines 1 0) → ⊥
twice_back l = let (k, m, dialed, point) = l.1.0.0 in gone _ m _ dialed point

-- a link that is dialed anew sends nobody back
pub back_anew : LawfulFrom (dialed_anew sent_back) (rolled_lines 1 0) → ⊥
back_anew l =
    let (k, m, dialed, point) = l.0.0 in
    elim (k == 1) as (λ b. ◌≡◌ {A = Option ℕ} (if b then None else if b then None else if b then Some 1 else if b then None else None) (Some 1) → ⊥) [ true ↦ λ e. cc | false ↦ λ e. cc ] point

-- ends of streams
abbrev inside : Granted
inside = granted (ask_within 0 1 2 5) (log_of 5)

pub ends : LawfulFrom (granted_inside 2) (rest_lines ++ stream_end_lines)
ends = (
  (_, (0, refl, refl), record { opens = refl; starts = refl; behind = tt; reaches = omega arith; whole = (next_change ∷ [], next_covers) }, from_memory _ _),
  (
    (_, _, (0, refl, refl), refl, refl, ([], record { whole = next_change ∷ []; covers = next_covers; front = refl }, λ e. refl), λ e. cc),
    ((_, (0, refl, refl), refl, record { whole = next_change ∷ []; covers = next_covers; front = refl }, λ a b. refl), tt),
  ),
)

pub none_put : (xs : List Change) → map item_of_change xs ≡ [] → last_seq 1 xs ≡ 2 → ⊥
none_put [] e r = omega arith
none_put (x ∷ xs) e r = cc

pub cut_short : LawfulFrom (granted_inside 2) (marker_line 0 2 ∷ stream_end_lines) → ⊥
cut_short l =
    let (g, stream, opens, whole, by) = l.1.0 in
    let f = subst (λ (x : Granted). IsWholeIf x.last) (sym (stream_is (after_lines (granted_inside 2) (marker_line 0 2 ∷ [])) _ g refl refl stream)) whole in
    none_put f.whole f.front f.covers.reaches

over_told : (g h : Granted) → finished g ≡ h → h.over ≡ false → ⊥
over_told g h same opens = let e : true ≡ false = ap (λ (x : Granted). x.over) same ∙ opens in cc

pub behind_end : LawfulFrom (granted_inside 2) (stream_end_lines ++ marker_line 0 2 ∷ []) → ⊥
behind_end l = let (g, stream, marker, source) = l.1.0 in over_told inside g (stream_is (after_lines (granted_inside 2) stream_end_lines) (finished inside) g refl refl stream) marker.opens

pub ends_twice : LawfulFrom (granted_inside 2) (stream_end_lines ++ stream_end_lines) → ⊥
ends_twice l = let (g, stream, opens, whole, by) = l.1.0 in over_told inside g (stream_is (after_lines (granted_inside 2) stream_end_lines) (finished inside) g refl refl stream) opens

-- a link that ended has no stream, nor has the next one of its number before it is granted one
pub over_link_marked : LawfulFrom (granted_inside 2) (link_over ++ marker_line 0 2 ∷ []) → ⊥
over_link_marked l = let (g, (v, is, has), marker, source) = l.1.0 in let e : false ≡ true = is in cc

pub link_ends : LawfulFrom (granted_inside 2) link_over
link_ends = ((_, refl), tt)

pub link_ends_twice : LawfulFrom (granted_inside 2) (link_over ++ link_over) → ⊥
link_ends_twice l = let (dial, is) = l.1.0 in let e : ◌≡◌ {A = Option Dial} None (Some dial) = is in cc

pub marked_anew : LawfulFrom (dialed_anew (granted_inside 2)) (marker_line 0 2 ∷ []) → ⊥
marked_anew l = let (g, (v, is, has), marker, source) = l.0 in let e : ◌≡◌ {A = Option Granted} None (Some g) = has in cc

-- logs and roles
pub own_log : LawfulFrom (made_from 5) (log_lines made_log)
own_log = (refl, tt)

pub other_log : LawfulFrom (made_from 5) (log_lines (log_of 5)) → ⊥
other_log l = let e : ◌≡◌ {A = ℕ} 7 5 = ap (λ es. uuid_of (front es)) l.0 in omega arith

pub same_role : LawfulFrom after_active (Event.Role 0 0 Role.Active ∷ []) → ⊥
same_role l = l.0.another refl

pub known_role : (a b : Role) → Some a ≡ Some b → a ≡ b
known_role a b e = cc

pub other_role : LawfulFrom after_dead (empty_shown Role.Replica) → ⊥
other_role l = let e : Role.Dead ≡ Role.Replica = known_role Role.Dead Role.Replica l.0.role in cc

pub unmade : LawfulFrom empty_chronicle (empty_shown Role.Replica) → ⊥
unmade l = let e : ◌≡◌ {A = Option Role} None (Some Role.Replica) = l.0.role in cc

pub any_log : LawfulFrom forgotten (log_lines (log_of 6))
any_log = (tt, tt)

pub any_role : LawfulFrom forgotten (Event.Role 0 0 Role.Dead ∷ [])
any_role = (record { another = λ e. cc; anew = λ e. cc; pending = λ e. cc }, tt)

pub any_change : LawfulFrom forgotten (change_line 0 ∷ [])
any_change = (record { active = tt; writer = record { made_or_took = refl; on_branch = refl }; above_branch = omega arith; above_forks = (λ e. omega arith, tt); made = first_next; fulfils = λ prepared doc deleted e. cc; backed = λ prepared doc deleted e. cc; asked = λ level doc deleted e. cc; aborts = λ prepared e. cc }, tt)

pub any_shown : LawfulFrom forgotten (empty_shown Role.Replica)
any_shown = (shown _ _ _ tt tt refl refl nothing refl refl as_made (λ _. refl) (λ e. cc), tt)

pub resting : LawfulFrom after_dead (change_line 0 ∷ []) → ⊥
resting l = let e : ◌≡◌ {A = Option Role} (Some Role.Dead) (Some Role.Active) = l.0.active in cc

-- vBuckets that are shown inside a snapshot
pub right : LawfulFrom inside_got (inside_shown Role.Replica 1 2 1 (value_lines (8 ∷ [])))
right = (record { role = refl; newest = refl; at = refl; snapshot = refl; left = sym lines; docs_left = sym (ap length docs); preps_left = sym (ap length pending); complete = λ e. absurd (omega (arith, e)) }, (tt, tt))

pub dead : LawfulFrom inside_dead (inside_shown Role.Dead 1 2 1 (value_lines (8 ∷ [])))
dead = (record { role = refl; newest = refl; at = refl; snapshot = refl; left = sym lines; docs_left = sym (ap length docs); preps_left = sym (ap length pending); complete = λ e. absurd (omega (arith, e)) }, (tt, tt))

pub shown_otherwise : LawfulFrom inside_dead (inside_shown Role.Replica 1 2 1 (value_lines (8 ∷ []))) → ⊥
shown_otherwise l = let e : Role.Dead ≡ Role.Replica = known_role Role.Dead Role.Replica l.0.role in cc

pub other_seqno : LawfulFrom inside_got (inside_shown Role.Replica 0 2 1 (value_lines (8 ∷ []))) → ⊥
other_seqno l = let e : ◌≡◌ {A = ℕ} 0 1 = l.0.at in omega arith

pub other_snapshot : LawfulFrom inside_got (inside_shown Role.Replica 1 3 1 (value_lines (8 ∷ []))) → ⊥
other_snapshot l =
    let both : ◌≡◌ {A = ℕ × ℕ} (0, 2) (0, 3) = l.0.snapshot in
    let e : ◌≡◌ {A = ℕ} 2 3 = ap (λ (p : ℕ × ℕ). p.1) both in
    omega arith

-- with the newest branch of its log
pub own_newest : LawfulFrom inside_got (inside_newest 5)
own_newest = right

pub other_newest : LawfulFrom inside_got (inside_newest 6) → ⊥
other_newest l = let e : ◌≡◌ {A = ℕ} 5 6 = l.0.newest in omega arith

pub none_newest : LawfulFrom inside_got (inside_newest 0) → ⊥
none_newest l = let e : ◌≡◌ {A = ℕ} 5 0 = l.0.newest in omega arith

-- one that became active there
pub risen : LawfulFrom inside_active (active_shown 1 1)
risen = (shown _ _ _ refl refl refl refl image refl refl as_set (λ _. refl) (λ _. refl), (tt, tt))

pub risen_inside : LawfulFrom inside_active (active_shown 0 2) → ⊥
risen_inside l =
    let both : ◌≡◌ {A = ℕ × ℕ} (1, 1) (0, 2) = l.0.snapshot in
    let e : ◌≡◌ {A = ℕ} 1 2 = ap (λ (p : ℕ × ℕ). p.1) both in
    omega arith

-- what stands behind the line
behind_is : (behind : List Event) → LawfulFrom inside_got (inside_shown Role.Replica 1 2 1 behind) → behind ≡ value_lines (8 ∷ [])
behind_is behind l = l.0.left ∙ lines

pub other_value : LawfulFrom inside_got (inside_shown Role.Replica 1 2 1 (value_lines (9 ∷ []))) → ⊥
other_value l =
    let e : value_lines (9 ∷ []) ≡ value_lines (8 ∷ []) = behind_is (value_lines (9 ∷ [])) l in
    let d : first_doc 1 (9 ∷ []) ≡ first_doc 1 (8 ∷ []) = cc in
    let v : ◌≡◌ {A = List ℕ} (9 ∷ []) (8 ∷ []) = ap (λ (doc : Doc). doc.value) d in
    cc

pub none_shown : LawfulFrom inside_got (inside_shown Role.Replica 1 2 1 []) → ⊥
none_shown l = let e : [] ≡ value_lines (8 ∷ []) = behind_is [] l in cc

pub other_count : LawfulFrom inside_got (inside_shown Role.Replica 1 2 2 (value_lines (8 ∷ []))) → ⊥
other_count l = let e : ◌≡◌ {A = ℕ} 2 1 = l.0.docs_left ∙ ap length docs in omega arith

-- states of vBuckets
pub partly : FollowsBranch after_adopted 1 0 (empty_in 0 1)
partly = record {
  sound = inside_sound;
  at_rest = none_rests (empty_in 0 1) refl;
  committed = λ active room first more e held. cc;
  role = refl;
  held = refl;
  log = refl;
  writer = λ e. cc;
  follows = record { image_is = refl; rises = omega arith; within = omega arith; of = λ x i. absurd i; has = λ slot c last low high. absurd (omega arith) };
  ancestry = record { short = omega arith; distinct = (tt, tt); falls = tt; at_forks = (refl, tt); traces = (refl, tt) };
  complete = λ e. absurd (omega arith);
}

pub lacking : FollowsBranch after_adopted 1 0 (empty_in 1 1) → ⊥
lacking f =
    let images : image_of [] ≡ image_of (one_change ∷ []) = f.complete refl in
    let counts : ◌≡◌ {A = ℕ} 0 1 = sym (ap length (no_entries Doc)) ∙ ap (λ (i : Picture). length (finite.entries i.docs)) images ∙ ap length docs in
    omega arith

-- a change of which no line tells
pub untold : FollowsBranch after_adopted 1 0 changed_in → ⊥
untold f =
    let images : image_of (one_change ∷ []) ≡ image_of [] = f.held in
    let counts : ◌≡◌ {A = ℕ} 1 0 = sym (ap length docs) ∙ ap (λ (i : Picture). length (finite.entries i.docs)) images ∙ ap length (no_entries Doc) in
    omega arith

-- what a change leaves, in place of the change
pub left : FollowsBranch after_got 1 0 based
left = record {
  sound = based_sound;
  at_rest = none_rests based refl;
  committed = λ active room first more e held. cc;
  role = refl;
  held = refl;
  log = refl;
  writer = λ e. cc;
  follows = record { image_is = refl; rises = omega arith; within = omega arith; of = λ x i. absurd i; has = λ slot c last low high. absurd (omega arith) };
  ancestry = record { short = omega arith; distinct = (tt, tt); falls = tt; at_forks = (refl, tt); traces = (refl, tt) };
  complete = λ e. refl;
}

-- where its log is not known, it is its branch's all the same
pub unlogged : FollowsBranch log_forgotten 1 0 based
unlogged = record { sound = based_sound; at_rest = none_rests based refl; committed = λ active room first more e held. cc; role = refl; held = refl; log = tt; writer = λ e. cc; follows = left.follows; ancestry = record { short = omega arith; distinct = (tt, tt); falls = tt; at_forks = (refl, tt); traces = (refl, tt) }; complete = λ e. refl }

pub stranger : FollowsBranch log_forgotten 1 0 strange → ⊥
stranger f = let e : ◌≡◌ {A = List Change} [] (one_change ∷ []) = f.ancestry.traces.0 in cc

pub two : AreFollowed both_on_one all_active → ⊥
two f = let same = f.alone 0 0 0 1 5 (new_vb 0 Role.Active 5) (new_vb 0 Role.Active 5) (record { there = refl; active = refl; on_branch = refl }) (record { there = refl; active = refl; on_branch = refl }) in
    let vb : ◌≡◌ {A = ℕ} 0 1 = same.1 in
    omega arith

pub above : AreFollowed (forked_at 1) all_active → ⊥
above f = let low = f.forks 0 0 5 (new_vb 0 Role.Active 5) _ (record { there = refl; active = refl; on_branch = refl }) (inl refl) refl in omega arith
