-- a takeover, judged by hand
use Rattle.std.specs.Prelude.{◌≡◌, ◌≤◌, ◌⊎◌, ◌==◌, ◌&&◌, ◌||◌, ◌∷◌, ◌++◌, if◌then◌else◌, map}
use Rattle.transcript_law.proofs.Words.{ℕ, Bool, true, false, List, [], length, refl, ap, sym, ◌∙◌, subst, arith, inl, inr, ⊎_elim, and_parts, list_any, ne_eqb, last_seq, hist, Option, Some, None, Chronicle, Change, Dial, Event, Granted, ItemLine, EndReason, LinkVerb, Role, StreamName, after_lines, one_change, next_change}
use Rattle.std.proofs.lemmas.Bool.{cases_eq as numbers}
use Rattle.transcript_law.proofs.rows.ClientStreams.{all_between}
use Rattle.transcript_law.proofs.rows.Followers.{begun, first_item}
use Rattle.transcript_law.specs.Heirs.{HasAnswer, IsHanded, IsHeir, IsKept, IsOffered, IsRisen, IsStated, IsTaking, IsWriter, IsYielded, LawfulState, MayBeAnswered, TakesOn}
use Rattle.transcript_law.specs.LinesTold.{Answered, Obeyed, Obeys, Put, stream_branch}
use Rattle.transcript_law.specs.StreamLaws.{IsFrontOf, IsWholeIf, item_of_change}
use Rattle.transcript_law.specs.TakeoverAnswers.{Awaits, WaitsForState}
use Rattle.transcript_law.specs.TakeoverLines.{HasEnded, IsTakenOver}
use Rattle.transcript_law.specs.TakeoverRows.{DownTells, MayGet, MayHand, MayStand, PumpSays, PumpTells, active_then, answers_at, asked_with, commits_at, cut_here, dead_here, ended_with, fallen, finishes, first_got, follows_here, gets, given_up, given_up_early, half_heard, half_put, half_taken, heard, heir_change, heir_commit, links_end, marked_only, marks_beside, moved, moved_heard, offered, pends, put_to, puts, redialed, rises_failing, states, takes_down, takes_up, told_active, told_active_early, told_active_in, told_active_short, told_beside, told_pending, untaken, unwritten, with_third, written_by_another}
use Rattle.transcript_law.specs.Takeovers.{GivesUp, IsAboutTo, MovesAt, TakesOver, is_of_over, is_own_commit}
use Rattle.transcript_law.specs.Tellings.{are_all, are_told, at_link, is_of_clients, is_of_disk, is_of_down, is_of_end, is_of_pump}
use Rattle.transcript_law.specs.Followers.{both_got, marker_line}

-- ---- roles

-- what a stream is of, by what is known of it
abbrev branch_in : Option Granted → ℕ
branch_in None = 0
branch_in (Some g) = stream_branch g

-- the link that was dialed is the link 1
link_one : (k : ℕ) (d x : Dial) → (if k == 1 then Some d else None) ≡ Some x → k ≡ 1
link_one k d x e = ⊎_elim (λ same. same) (λ ne. let z : None ≡ Some x = sym (ap (λ b. if b then Some d else None) (ne_eqb k 1 ne)) ∙ e in cc) (numbers k 1)

-- and so its stream is
stream_one : (r : Chronicle) (d : Dial) (said : Role) (s : IsStated r 1 0 said) → ((k : ℕ) → r.dial_of k ≡ (if k == 1 then Some d else None)) → r.stream_of (StreamName.Link 1) 0 ≡ Some s.stream
stream_one r d said s dials = subst (λ k. r.stream_of (StreamName.Link k) 0 ≡ Some s.stream) (link_one s.link d _ (sym (dials s.link) ∙ s.fed.1)) s.fed.2

-- and its state
state_one : (r : Chronicle) (d : Dial) (said : Role) (s : IsStated r 1 0 said) → ((k : ℕ) → r.dial_of k ≡ (if k == 1 then Some d else None)) → r.stated_of 1 ≡ Some said
state_one r d said s dials = subst (λ k. r.stated_of k ≡ Some said) (link_one s.link d _ (sym (dials s.link) ∙ s.fed.1)) s.stated

-- the node of a writer
abbrev pub first_in : Option (ℕ × ℕ) → ℕ
first_in None = 9
first_in (Some p) = p.0

abbrev pub own_dial : Dial
own_dial = record { producer = 0; node = 1; vb = 0 }

-- a vBucket on the branch 5 did not make it
not_risen : (r : Chronicle) (n v : ℕ) → r.branch_at n v ≡ Some 5 → (r.writer_of 5 ≡ Some (n, v) → ⊥) → IsRisen r n v → ⊥
not_risen r n v on other x = let e : ◌≡◌ {A = Option ℕ} (Some 5) (Some x.uuid) = sym on ∙ x.writer.on_branch in let same : 5 ≡ x.uuid = cc in other (ap r.writer_of same ∙ x.writer.made_or_took)

-- the dial of the link, and its stream
pub own_dial_of : (r : Chronicle) (d : Dial) → r.dial_of 1 ≡ Some own_dial → r.dial_of 1 ≡ Some d → own_dial ≡ d
own_dial_of r d e f = let z : ◌≡◌ {A = Option Dial} (Some own_dial) (Some d) = sym e ∙ f in cc

-- a link that was dialed for no takeover is not
untaken_link : (r : Chronicle) (l : ℕ) → (r.takeover_of l).dialed ≡ false → (r.takeover_of l).dialed ≡ true → ⊥
untaken_link r l e f = let z : false ≡ true = sym e ∙ f in cc

fed_now : (r : Chronicle) (said : Role) → r.dial_of 1 ≡ Some own_dial → (r.takeover_of 1).dialed ≡ true → r.stated_of 1 ≡ Some said → (g : Granted) → r.stream_of (StreamName.Link 1) 0 ≡ Some g → r.branch_at 1 0 ≡ Some (stream_branch g) → g.marks ≡ [] → g.coming ≡ [] → IsStated r 1 0 said
fed_now r said dialed takes stated g stream on marks items = record { link = 1; stream = g; fed = (0, dialed, stream, on); takeover = takes; stated = stated; marks = marks; items = items }

abbrev taking_now : IsTaking (told_pending true) 1 0
taking_now = record { replica = refl; given = record { link = 1; stream = _; fed = (0, refl, refl, refl); takeover = refl; stated = refl; marks = refl; items = refl } }

pub pends_now : MayGet (told_pending true) 1 0 Role.Pending
pends_now = record { another = λ e. cc; anew = λ e. cc; pending = λ e. taking_now }

pub pends_unstated : MayGet (put_to true) 1 0 Role.Pending → ⊥
pends_unstated l = let e : ◌≡◌ {A = Option Role} None (Some Role.Pending) = state_one (put_to true) own_dial Role.Pending (l.pending refl).given (λ k. refl) in cc

pub pends_following : MayGet (told_pending false) 1 0 Role.Pending → ⊥
pends_following l = let s = (l.pending refl).given in let e : false ≡ true = subst (λ k. ((told_pending false).takeover_of k).dialed ≡ true) (link_one s.link own_dial _ s.fed.1) s.takeover in cc

-- whether there is something
abbrev count : {A : Type 0} → List A → ℕ
count [] = 0
count (x ∷ xs) = 1

abbrev untaken_items : Option Granted → ℕ
untaken_items None = 9
untaken_items (Some g) = count g.coming

pub pends_untaken : MayGet half_taken 1 0 Role.Pending → ⊥
pends_untaken l = let s = (l.pending refl).given in let told = stream_one half_taken own_dial Role.Pending s (λ k. refl) in let e : ◌≡◌ {A = ℕ} 1 0 = ap untaken_items told ∙ ap count s.items in omega (arith, e)

abbrev unmarked : Option Granted → ℕ
unmarked None = 9
unmarked (Some g) = count g.marks

pub pends_unmarked : MayGet marked_only 1 0 Role.Pending → ⊥
pends_unmarked l = let s = (l.pending refl).given in let told = stream_one marked_only own_dial Role.Pending s (λ k. refl) in let e : ◌≡◌ {A = ℕ} 1 0 = ap unmarked told ∙ ap count s.marks in omega (arith, e)

pub pends_beside : MayGet told_beside 1 0 Role.Pending → ⊥
pends_beside l = let e : ◌≡◌ {A = Option Role} None (Some Role.Pending) = state_one told_beside own_dial Role.Pending (l.pending refl).given (λ k. refl) in cc

-- the link that was dialed anew is the same one
one_redialed : (k : ℕ) → redialed.dial_of k ≡ (if k == 1 then Some own_dial else None)
one_redialed k = elim (k == 1) as (λ b. (if b then Some own_dial else if b then Some own_dial else None) ≡ (if b then Some own_dial else None)) [ true ↦ refl | false ↦ refl ]

pub pends_redialed : MayGet redialed 1 0 Role.Pending → ⊥
pends_redialed l = let e : ◌≡◌ {A = Option Role} None (Some Role.Pending) = state_one redialed own_dial Role.Pending (l.pending refl).given one_redialed in cc

pub pends_fallen : MayGet fallen 1 0 Role.Pending → ⊥
pends_fallen l = let e : ◌≡◌ {A = Option (Option Role)} (Some (Some Role.Dead)) (Some (Some Role.Replica)) = (l.pending refl).replica in cc

pub pends_elsewhere : MayGet (told_pending true) 1 1 Role.Pending → ⊥
pends_elsewhere l = let e : ◌≡◌ {A = Option (Option Role)} (Some None) (Some (Some Role.Replica)) = (l.pending refl).replica in cc

pub pends_producer : MayGet (told_pending true) 0 0 Role.Pending → ⊥
pends_producer l = let e : ◌≡◌ {A = Option (Option Role)} (Some (Some Role.Active)) (Some (Some Role.Replica)) = (l.pending refl).replica in cc

abbrev pub heir_now : IsHeir told_active 1 0
heir_now = record {
  pending = refl;
  given = record { link = 1; stream = _; fed = (0, refl, refl, refl); takeover = refl; stated = refl; marks = refl; items = refl };
  free = refl;
  complete = λ ss se e. let pair : ◌≡◌ {A = ℕ × ℕ} (0, 2) (ss, se) = cc in ap (λ (p : ℕ × ℕ). p.1) pair;
  whole = refl;
}

pub rises_now : MayGet told_active 1 0 Role.Active
rises_now = record { another = λ e. cc; anew = λ e. inr heir_now; pending = λ e. cc }

-- nobody writes on the branch then
none_wrote : (r : Chronicle) (n v : ℕ) → r.branch_at n v ≡ Some 5 → r.writer_of 5 ≡ None → IsRisen r n v → ⊥
none_wrote r n v on none = not_risen r n v on (λ e. let z : ◌≡◌ {A = Option (ℕ × ℕ)} None (Some (n, v)) = sym none ∙ e in cc)

other_wrote : (r : Chronicle) (n v : ℕ) → r.branch_at n v ≡ Some 5 → r.writer_of 5 ≡ Some (0, 0) → (n ≡ 0 → ⊥) → IsRisen r n v → ⊥
other_wrote r n v on wrote other = not_risen r n v on (λ e. other (ap first_in (sym e ∙ wrote)))

one_is_not : ◌≡◌ {A = ℕ} 1 0 → ⊥
one_is_not e = omega (arith, e)

pub rises_unstated : MayGet given_up 1 0 Role.Active → ⊥
rises_unstated l = ⊎_elim (other_wrote given_up 1 0 refl refl one_is_not)
    (λ h. let e : ◌≡◌ {A = Option Role} (Some Role.Pending) (Some Role.Active) = state_one given_up own_dial Role.Active h.given (λ k. refl) in cc) (l.anew refl)

pub rises_replica : MayGet (told_pending true) 1 0 Role.Active → ⊥
rises_replica l = ⊎_elim (other_wrote (told_pending true) 1 0 refl refl one_is_not)
    (λ h. let e : ◌≡◌ {A = Option (Option Role)} (Some (Some Role.Replica)) (Some (Some Role.Pending)) = h.pending in cc) (l.anew refl)

pub rises_short : MayGet told_active_short 1 0 Role.Active → ⊥
rises_short l = ⊎_elim (none_wrote told_active_short 1 0 refl refl)
    (λ h. let told = stream_one told_active_short own_dial Role.Active h.given (λ k. refl) in let e : ◌≡◌ {A = ℕ} 2 3 = h.whole ∙ ap (λ u. last_seq 0 (hist told_active_short.tree u)) (sym (ap branch_in told)) in omega (arith, e)) (l.anew refl)

pub rises_before : MayGet told_active_early 1 0 Role.Active → ⊥
rises_before l = ⊎_elim (none_wrote told_active_early 1 0 refl refl) (λ h. let e : ◌≡◌ {A = Option (Option Role)} (Some (Some Role.Replica)) (Some (Some Role.Pending)) = h.pending in cc) (l.anew refl)

pub rises_written : MayGet written_by_another 1 0 Role.Active → ⊥
rises_written l = ⊎_elim (not_risen written_by_another 1 0 refl (λ e. let k : ◌≡◌ {A = ℕ} 2 1 = ap first_in e in omega (arith, k)))
    (λ h. let e : ◌≡◌ {A = Option (ℕ × ℕ)} (Some (2, 0)) None = h.free in cc) (l.anew refl)

pub rises_inside : MayGet (told_active_in (0, 3)) 1 0 Role.Active → ⊥
rises_inside l = ⊎_elim (none_wrote (told_active_in (0, 3)) 1 0 refl refl) (λ h. let e : ◌≡◌ {A = ℕ} 2 3 = h.complete 0 3 refl in omega (arith, e)) (l.anew refl)

-- nothing is dialed
cut_one : (b : Bool) (d x : Dial) → (if b then None else if b then Some d else None) ≡ Some x → ⊥
cut_one true d x e = cc
cut_one false d x e = cc

pub rises_cut : MayGet (cut_here told_active) 1 0 Role.Active → ⊥
rises_cut l = ⊎_elim (none_wrote (cut_here told_active) 1 0 refl refl) (λ h. cut_one (h.given.link == 1) own_dial _ h.given.fed.1) (l.anew refl)

pub rises_elsewhere : MayGet told_active 1 1 Role.Active → ⊥
rises_elsewhere l = ⊎_elim (λ x. let e : ◌≡◌ {A = Option ℕ} None (Some x.uuid) = x.writer.on_branch in cc)
    (λ h. let e : ◌≡◌ {A = Option (Option Role)} (Some None) (Some (Some Role.Pending)) = h.pending in cc) (l.anew refl)

-- ---- states

-- the snapshot of both changes was put
pub both_whole : IsWholeIf (Some (record { history = one_change ∷ next_change ∷ []; from = 0; end = 2; disk = false; items = item_of_change one_change ∷ item_of_change next_change ∷ [] }))
both_whole = record { whole = one_change ∷ next_change ∷ []; covers = all_between (one_change ∷ next_change ∷ []) 0 2 (omega arith) (omega arith, (omega arith, omega arith)) refl; front = refl }

pub pending_now : LawfulState (put_to true) 1 Role.Pending
pending_now = record {
  dial = own_dial;
  stream = _;
  takes_on = record { dialed = refl; takeover = refl; stream = refl; goes_on = refl };
  next = record { steady = refl; unstated = refl; active = refl };
  writer = record { made_or_took = refl; on_branch = refl };
  whole = both_whole;
  all = refl;
}

pub active_now : LawfulState given_up 1 Role.Active
active_now = record {
  dial = own_dial;
  stream = _;
  takes_on = record { dialed = refl; takeover = refl; stream = refl; goes_on = refl };
  next = record { steady = refl; stated = refl; dead = refl; pending = refl };
  writer = record { made_or_took = refl; on_branch = refl };
  whole = both_whole;
  all = refl;
}

-- the stream of the link
pub own_stream : (r : Chronicle) (d : Dial) (g h : Granted) → r.dial_of 1 ≡ Some own_dial → r.stream_of (StreamName.Link 1) 0 ≡ Some h → TakesOn r 1 d g → h ≡ g
own_stream r d g h dialed stream on =
    let vb : r.stream_of (StreamName.Link 1) 0 ≡ Some g = subst (λ (x : Dial). r.stream_of (StreamName.Link 1) x.vb ≡ Some g) (sym (own_dial_of r d dialed on.dialed)) on.stream in
    let e : ◌≡◌ {A = Option Granted} (Some h) (Some g) = sym stream ∙ vb in cc

-- the place of a stream that has not all of the branch
too_short : (r : Chronicle) (said : Role) (h : Granted) → r.dial_of 1 ≡ Some own_dial → r.stream_of (StreamName.Link 1) 0 ≡ Some h → h.place ≡ 2 → last_seq 0 (hist r.tree (stream_branch h)) ≡ 3 → LawfulState r 1 said → ⊥
too_short r said h dialed stream place last s =
    let same = own_stream r s.dial s.stream h dialed stream s.takes_on in
    let e : 2 ≡ 3 = sym place ∙ ap (λ (x : Granted). x.place) same ∙ s.all ∙ ap (λ (x : Granted). last_seq 0 (hist r.tree (stream_branch x))) (sym same) ∙ last in omega (arith, e)

pub pending_following : LawfulState (put_to false) 1 Role.Pending → ⊥
pending_following s = untaken_link (put_to false) 1 refl s.takes_on.takeover

-- one item of both was put
abbrev head_seq : List ItemLine → ℕ
head_seq [] = 9
head_seq (item ∷ items) = item.seq

half_front : (xs : List Change) → map item_of_change xs ≡ item_of_change one_change ∷ [] → last_seq 0 xs ≡ 2 → ⊥
half_front [] e r = cc
half_front (x ∷ []) e r = let seq : x.seq ≡ 1 = ap head_seq e in omega (arith, seq, r)
half_front (x ∷ y ∷ ys) e r = let z : item_of_change y ∷ map item_of_change ys ≡ [] = cc in cc

pub pending_unput : LawfulState half_put 1 Role.Pending → ⊥
pending_unput s =
    let f : IsFrontOf (begun 0 2 (first_item ∷ [])) (first_item ∷ []) [] = subst (λ (x : Granted). IsWholeIf x.last) (sym (own_stream half_put s.dial s.stream _ refl refl s.takes_on)) s.whole in
    half_front f.whole f.front f.covers.reaches

pub pending_short : LawfulState (with_third (put_to true)) 1 Role.Pending → ⊥
pending_short s = too_short (with_third (put_to true)) Role.Pending _ refl refl refl refl s

pub active_short : LawfulState (with_third given_up) 1 Role.Active → ⊥
active_short s = too_short (with_third given_up) Role.Active _ refl refl refl refl s

pub pending_again : LawfulState (offered true) 1 Role.Pending → ⊥
pending_again s = let e : ◌≡◌ {A = Option Role} (Some Role.Pending) None = s.next.unstated in cc

pub pending_dead : LawfulState (follows_here (put_to true)) 1 Role.Pending → ⊥
pending_dead s = let e : true ≡ false = s.next.steady in cc

pub active_first : LawfulState (put_to true) 1 Role.Active → ⊥
active_first s = let e : ◌≡◌ {A = Option Role} None (Some Role.Pending) = s.next.stated in cc

pub active_early : LawfulState heard 1 Role.Active → ⊥
active_early s = let e : ◌≡◌ {A = Option (Option Role)} (Some (Some Role.Active)) (Some (Some Role.Dead)) = ap (λ (x : Dial). heard.role_at x.producer x.vb) (own_dial_of heard s.dial refl s.takes_on.dialed) ∙ s.next.dead in cc

pub active_dead : LawfulState dead_here 1 Role.Active → ⊥
active_dead s = let e : true ≡ false = s.next.steady in cc

pub pending_nobody : LawfulState (unwritten (put_to true)) 1 Role.Pending → ⊥
pending_nobody s = let e : ◌≡◌ {A = Option (ℕ × ℕ)} None (Some (s.dial.producer, s.dial.vb)) = s.writer.made_or_took in cc

pub active_unobeyed : LawfulState given_up_early 1 Role.Active → ⊥
active_unobeyed s = let e : ◌≡◌ {A = Option (Option Role)} (Some (Some Role.Replica)) (Some (Some Role.Pending)) = ap (λ (x : Dial). given_up_early.role_at x.node x.vb) (own_dial_of given_up_early s.dial refl s.takes_on.dialed) ∙ s.next.pending in cc

pub active_again : LawfulState told_active 1 Role.Active → ⊥
active_again s = let e : ◌≡◌ {A = Option Role} (Some Role.Active) (Some Role.Pending) = s.next.stated in cc

-- ---- groups

-- the node of the first role of these lines
abbrev node_in : List Event → ℕ
node_in (Event.Role n v said ∷ lines) = n
node_in lines = 9

-- behind nothing stands nothing
none_behind : (xs : List Event) (y : Event) (ys : List Event) → [] ≡ xs ++ y ∷ ys → ⊥
none_behind [] y ys e = cc
none_behind (x ∷ xs) y ys e = cc

-- one line is neither in front nor behind, where it passes neither test
one_of_none : (p q : Event → Bool) (x : Event) (front behind : List Event) → x ∷ [] ≡ front ++ behind → are_all p front ≡ true → are_all q behind ≡ true → p x ≡ false → q x ≡ false → ⊥
one_of_none p q x [] behind e a b neither nor = let passes : (q x && true) ≡ true = subst (λ ls. are_all q ls ≡ true) (sym e) b in let z : false ≡ true = sym nor ∙ (and_parts (q x) true passes).0 in cc
one_of_none p q x (y ∷ front) behind e a b neither nor = let same : x ≡ y = cc in let z : false ≡ true = sym neither ∙ ap p same ∙ (and_parts (p y) (are_all p front) a).0 in cc

-- the vBucket that feeds the link is given up
yield : (r : Chronicle) (told frames : List Event) (g : Granted) → TakesOn r 1 own_dial g → IsWriter r 0 0 (stream_branch g) → IsOffered r 1 own_dial → MayBeAnswered r 1 own_dial g Role.Pending → are_all (is_of_clients 0) told ≡ true → are_all (is_of_pump 1) frames ≡ true → GivesUp r 1 own_dial (gets 0 0 Role.Dead ∷ (told ++ frames))
yield r told frames g on writer offered answered clients put = record { told = told; frames = frames; together = refl; stream = g; takes_on = on; writer = writer; offered = offered; answered = answered; clients = clients; put = put }

pub gives_up : PumpTells heard (gets 0 0 Role.Dead ∷ answers_at 0 ∷ marker_line 2 4 ∷ [])
gives_up = inr (yield heard (answers_at 0 ∷ []) (marker_line 2 4 ∷ []) _ (record { dialed = refl; takeover = refl; stream = refl; goes_on = refl }) (record { made_or_took = refl; on_branch = refl }) (record { steady = refl; stated = refl; active = refl })
    (record { has = refl; marks = refl; items = refl; moved = omega arith }) refl refl)

pub gives_up_now : GivesUp heard 1 own_dial (gets 0 0 Role.Dead ∷ states Role.Active ∷ [])
gives_up_now = yield heard [] (states Role.Active ∷ []) _ (record { dialed = refl; takeover = refl; stream = refl; goes_on = refl }) (record { made_or_took = refl; on_branch = refl }) (record { steady = refl; stated = refl; active = refl })
    (record { has = refl; marks = refl; items = refl; moved = omega arith }) refl refl

pub gives_up_unstated : PumpTells (put_to true) (gets 0 0 Role.Dead ∷ []) → ⊥
gives_up_unstated l = ⊎_elim (λ t. let z : false ≡ true = t in cc) (λ g. let e : ◌≡◌ {A = Option Role} None (Some Role.Pending) = g.offered.stated in cc) l

pub gives_up_unobeyed : PumpTells (offered true) (gets 0 0 Role.Dead ∷ []) → ⊥
gives_up_unobeyed l = ⊎_elim (λ t. let z : false ≡ true = t in cc) (λ g. let e : ◌≡◌ {A = Option (Option Role)} (Some (Some Role.Replica)) (Some (Some Role.Pending)) = g.answered.has in cc) l

pub gives_up_unheard : PumpTells pends (gets 0 0 Role.Dead ∷ []) → ⊥
gives_up_unheard l = ⊎_elim (λ t. let z : false ≡ true = t in cc) (λ g. let e : 24 ≤ 0 = g.answered.moved in omega (arith, e)) l

pub gives_up_half : PumpTells half_heard (gets 0 0 Role.Dead ∷ []) → ⊥
gives_up_half l = ⊎_elim (λ t. let z : false ≡ true = t in cc) (λ g. let e : 24 ≤ 23 = g.answered.moved in omega (arith, e)) l

pub gives_up_untaken : PumpTells untaken (gets 0 0 Role.Dead ∷ []) → ⊥
gives_up_untaken l = ⊎_elim (λ t. let z : false ≡ true = t in cc) (λ g. let same = own_stream untaken own_dial g.stream _ refl refl g.takes_on in let e : ◌≡◌ {A = ℕ} 1 0 = ap (λ (x : Granted). count x.coming) same ∙ ap count g.answered.items in omega (arith, e)) l

pub gives_up_nobody : PumpTells (unwritten heard) (gets 0 0 Role.Dead ∷ []) → ⊥
gives_up_nobody l = ⊎_elim (λ t. let z : false ≡ true = t in cc) (λ g. let e : ◌≡◌ {A = Option (ℕ × ℕ)} None (Some (0, 0)) = g.writer.made_or_took in cc) l

pub gives_up_other : PumpTells heard (gets 1 0 Role.Dead ∷ []) → ⊥
gives_up_other l = ⊎_elim (λ t. let z : false ≡ true = t in cc) (λ g. let e : ◌≡◌ {A = ℕ} 1 0 = ap node_in g.together in omega (arith, e)) l

pub gives_up_late : PumpTells heard (marker_line 2 4 ∷ gets 0 0 Role.Dead ∷ []) → ⊥
gives_up_late l = ⊎_elim (λ t. let z : false ≡ true = t in cc) (λ g. let e : ◌≡◌ {A = ℕ} 9 0 = ap node_in g.together in omega (arith, e)) l

pub gives_up_elsewhere : PumpTells heard (gets 0 0 Role.Dead ∷ answers_at 1 ∷ []) → ⊥
gives_up_elsewhere l = ⊎_elim (λ t. let z : false ≡ true = t in cc) (λ g. let e : answers_at 1 ∷ [] ≡ g.told ++ g.frames = ap behind g.together in one_of_none (is_of_clients 0) (is_of_pump 1) (answers_at 1) g.told g.frames e g.clients g.put refl refl) l
  where
    behind : List Event → List Event
    behind [] = []
    behind (x ∷ xs) = xs

pub gives_up_again : PumpTells given_up (gets 0 0 Role.Dead ∷ []) → ⊥
gives_up_again l = ⊎_elim (λ t. let z : false ≡ true = t in cc) (λ g. let e : ◌≡◌ {A = Option (Option Role)} (Some (Some Role.Dead)) (Some (Some Role.Active)) = g.offered.active in cc) l

pub gives_up_twice : PumpTells active_then (gets 0 0 Role.Dead ∷ []) → ⊥
gives_up_twice l = ⊎_elim (λ t. let z : false ≡ true = t in cc) (λ g. let e : ◌≡◌ {A = Option Role} (Some Role.Active) (Some Role.Pending) = g.offered.stated in cc) l

pub gives_up_beside : PumpTells heard (gets 0 0 Role.Dead ∷ marks_beside ∷ []) → ⊥
gives_up_beside l = ⊎_elim (λ t. let z : false ≡ true = t in cc) (λ g. let e : marks_beside ∷ [] ≡ g.told ++ g.frames = ap behind g.together in one_of_none (is_of_clients 0) (is_of_pump 1) marks_beside g.told g.frames e g.clients g.put refl refl) l
  where
    behind : List Event → List Event
    behind [] = []
    behind (x ∷ xs) = xs

-- the role of the first
abbrev role_in : List Event → Role
role_in (Event.Role n v said ∷ lines) = said
role_in lines = Role.Active

pub gives_up_in : PumpTells heard (gets 0 0 Role.Replica ∷ []) → ⊥
gives_up_in l = ⊎_elim (λ t. let z : false ≡ true = t in cc) (λ g. let e : Role.Replica ≡ Role.Dead = ap role_in g.together in cc) l

pub answers_alone : PumpTells heard (answers_at 0 ∷ []) → ⊥
answers_alone l = ⊎_elim (λ t. let z : false ≡ true = t in cc) (λ g. let e : ◌≡◌ {A = ℕ} 9 0 = ap node_in g.together in omega (arith, e)) l

pub plain : PumpTells (offered false) (gets 0 0 Role.Dead ∷ []) → ⊥
plain l = ⊎_elim (λ t. let z : false ≡ true = t in cc) (λ g. untaken_link (offered false) 1 refl g.takes_on.takeover) l

pub pends_told : DownTells (offered true) (both_got ++ gets 1 0 Role.Pending ∷ [])
pends_told = inr (inl (record { front = both_got; behind = []; together = refl; taken = refl; taking = taking_now; by_link = refl; over = refl }))

pub rises_told : DownTells told_active (gets 1 0 Role.Active ∷ heir_commit ∷ [])
rises_told = inr (inr (record { front = []; commits = heir_commit ∷ []; behind = []; together = refl; taken = refl; heir = heir_now; by_link = refl; own = refl; over = refl }))

pub rises_failing_told : DownTells told_active rises_failing
rises_failing_told = inr (inr (record { front = []; commits = []; behind = Event.CallFailed 1 ∷ Event.Ended 1 EndReason.Disk ∷ []; together = refl; taken = refl; heir = heir_now; by_link = refl; own = refl; over = refl }))

-- the first role of lines that begin with none of these
first_role : (q : Event → Bool) (x y : Event) (rest front behind : List Event) → q x ≡ false → x ∷ rest ≡ front ++ y ∷ behind → are_all q front ≡ true → x ≡ y
first_role q x y rest [] behind none e a = cc
first_role q x y rest (z ∷ front) behind none e a = let same : x ≡ z = cc in let no : false ≡ true = sym none ∙ ap q same ∙ (and_parts (q z) (are_all q front) a).0 in cc

-- the role of a line
abbrev said_in : Event → Role
said_in (Event.Role n v said) = said
said_in other = Role.Dead

abbrev at_node : Event → ℕ
at_node (Event.Role n v said) = n
at_node other = 9

-- of lines that begin with a role a `down` tells by that alone
begins : (r : Chronicle) (n : ℕ) (said : Role) (rest : List Event) → DownTells r (gets n 0 said ∷ rest) → r.dial_of 1 ≡ Some own_dial → are_told (λ line. is_of_down 1 1 0 line || is_of_disk 1 line) (is_of_end r) (gets n 0 said ∷ rest) ≡ false → (n ≡ 1) × ((said ≡ Role.Pending) ⊎ (said ≡ Role.Active))
begins r n said rest l dialed fails = ⊎_elim
    (λ t. let z : false ≡ true = sym fails ∙ ap (λ (d : Option Dial). are_told (at_link d 1 (LinkVerb.Down 99)) (is_of_end r) (gets n 0 said ∷ rest)) (sym dialed) ∙ t in cc)
    (λ m. by (r.dial_of 1) dialed m) l
  where
    by : (d : Option Dial) → d ≡ Some own_dial → MovesAt r d 1 (LinkVerb.Down 99) (gets n 0 said ∷ rest) → (n ≡ 1) × ((said ≡ Role.Pending) ⊎ (said ≡ Role.Active))
    by None e m = cc
    by (Some d) e m =
        let same : d ≡ own_dial = cc in
        ⊎_elim (λ x. let one = first_role (is_of_down 1 d.node d.vb) (gets n 0 said) (gets d.node d.vb Role.Pending) rest x.front x.behind refl x.together x.taken in (ap at_node one ∙ ap (λ (y : Dial). y.node) same, inl (ap said_in one)))
        (λ x. let one = first_role (is_of_down 1 d.node d.vb) (gets n 0 said) (gets d.node d.vb Role.Active) rest x.front (x.commits ++ x.behind) refl x.together x.taken in (ap at_node one ∙ ap (λ (y : Dial). y.node) same, inr (ap said_in one))) m

-- all but the first
abbrev tail : List Event → List Event
tail [] = []
tail (x ∷ xs) = xs

pub pends_short : DownTells (offered true) (first_got ++ gets 1 0 Role.Pending ∷ []) → ⊥
pends_short l = ⊎_elim (λ t. let z : false ≡ true = t in cc) (⊎_elim (λ x. about x.front x.behind x.together x.taken x.taking) (λ x. over x.front (x.commits ++ x.behind) x.together x.taken)) l
  where
    third : (x y z : Event) (front : List Event) → are_all (is_of_down 1 1 0) (x ∷ y ∷ z ∷ front) ≡ true → is_of_down 1 1 0 z ≡ true
    third x y z front a = (and_parts (is_of_down 1 1 0 z) (are_all (is_of_down 1 1 0) front) (and_parts (is_of_down 1 1 0 y) (are_all (is_of_down 1 1 0) (z ∷ front)) (and_parts (is_of_down 1 1 0 x) (are_all (is_of_down 1 1 0) (y ∷ z ∷ front)) a).1).1).0

    -- the front is all that it took
    about : (front behind : List Event) → first_got ++ gets 1 0 Role.Pending ∷ [] ≡ front ++ gets 1 0 Role.Pending ∷ behind → are_all (is_of_down 1 1 0) front ≡ true → IsTaking (after_lines (offered true) front) 1 0 → ⊥
    about [] behind e a t = let z : ◌≡◌ {A = ℕ} 9 1 = ap node_in e in omega (arith, z)
    about (x ∷ []) behind e a t = let z : ◌≡◌ {A = ℕ} 9 1 = ap node_in (ap tail e) in omega (arith, z)
    about (x ∷ y ∷ []) behind e a t =
        let f : x ∷ y ∷ [] ≡ first_got = cc in
        let s : IsTaking half_taken 1 0 = subst (λ ls. IsTaking (after_lines (offered true) ls) 1 0) f t in
        pends_untaken (record { another = λ z. cc; anew = λ z. cc; pending = λ z. s })
    about (x ∷ y ∷ z ∷ front) behind e a t = let same : gets 1 0 Role.Pending ≡ z = cc in let no : false ≡ true = ap (is_of_down 1 1 0) same ∙ third x y z front a in cc

    over : (front behind : List Event) → first_got ++ gets 1 0 Role.Pending ∷ [] ≡ front ++ gets 1 0 Role.Active ∷ behind → are_all (is_of_down 1 1 0) front ≡ true → ⊥
    over [] behind e a = let z : ◌≡◌ {A = ℕ} 9 1 = ap node_in e in omega (arith, z)
    over (x ∷ []) behind e a = let z : ◌≡◌ {A = ℕ} 9 1 = ap node_in (ap tail e) in omega (arith, z)
    over (x ∷ y ∷ []) behind e a = let z : Role.Pending ≡ Role.Active = ap role_in (ap tail (ap tail e)) in cc
    over (x ∷ y ∷ z ∷ front) behind e a = let same : gets 1 0 Role.Pending ≡ z = cc in let no : false ≡ true = ap (is_of_down 1 1 0) same ∙ third x y z front a in cc

-- behind the role nothing is taken
past_role : (said : Role) (rest behind : List Event) (front : List Event) → both_got ++ gets 1 0 Role.Pending ∷ rest ≡ front ++ gets 1 0 said ∷ behind → are_all (is_of_down 1 1 0) front ≡ true → (said ≡ Role.Pending) × (rest ≡ behind)
past_role said rest behind [] e a = let z : ◌≡◌ {A = ℕ} 9 1 = ap node_in e in absurd (omega (arith, z))
past_role said rest behind (x ∷ []) e a = let z : ◌≡◌ {A = ℕ} 9 1 = ap node_in (ap tail e) in absurd (omega (arith, z))
past_role said rest behind (x ∷ y ∷ []) e a = let z : ◌≡◌ {A = ℕ} 9 1 = ap node_in (ap tail (ap tail e)) in absurd (omega (arith, z))
past_role said rest behind (x ∷ y ∷ z ∷ []) e a = (sym (ap role_in (ap tail (ap tail (ap tail e)))), ap tail (ap tail (ap tail (ap tail e))))
past_role said rest behind (x ∷ y ∷ z ∷ t ∷ front) e a =
    let rest_a = (and_parts (is_of_down 1 1 0 z) (are_all (is_of_down 1 1 0) (t ∷ front)) (and_parts (is_of_down 1 1 0 y) (are_all (is_of_down 1 1 0) (z ∷ t ∷ front)) (and_parts (is_of_down 1 1 0 x) (are_all (is_of_down 1 1 0) (y ∷ z ∷ t ∷ front)) a).1).1).1 in
    let same : gets 1 0 Role.Pending ≡ t = cc in let no : false ≡ true = ap (is_of_down 1 1 0) same ∙ (and_parts (is_of_down 1 1 0 t) (are_all (is_of_down 1 1 0) front) rest_a).0 in cc

pub pends_taking : DownTells (offered true) (both_got ++ gets 1 0 Role.Pending ∷ first_got) → ⊥
pends_taking l = ⊎_elim (λ t. let z : false ≡ true = t in cc)
    (⊎_elim (λ x. let z : false ≡ true = ap (are_all (is_of_over 1)) (past_role Role.Pending first_got x.behind x.front x.together x.taken).1 ∙ x.over in cc)
    (λ x. let z : Role.Active ≡ Role.Pending = (past_role Role.Active first_got (x.commits ++ x.behind) x.front x.together x.taken).0 in cc)) l

pub rises_other : DownTells told_active (gets 0 0 Role.Active ∷ []) → ⊥
rises_other l = one_is_not (sym (begins told_active 0 Role.Active [] l refl refl).0)

pub pends_other : DownTells (offered true) (gets 0 0 Role.Pending ∷ []) → ⊥
pends_other l = one_is_not (sym (begins (offered true) 0 Role.Pending [] l refl refl).0)

pub pends_untold : DownTells (put_to true) (both_got ++ gets 1 0 Role.Pending ∷ []) → ⊥
pends_untold l = ⊎_elim (λ t. let z : false ≡ true = t in cc)
    (⊎_elim (λ x. about x.front x.behind x.together x.taken x.taking) (λ x. let z : Role.Active ≡ Role.Pending = (past_role Role.Active [] (x.commits ++ x.behind) x.front x.together x.taken).0 in cc)) l
  where
    -- by all that it took no state was put
    about : (front behind : List Event) → both_got ++ gets 1 0 Role.Pending ∷ [] ≡ front ++ gets 1 0 Role.Pending ∷ behind → are_all (is_of_down 1 1 0) front ≡ true → IsTaking (after_lines (put_to true) front) 1 0 → ⊥
    about [] behind e a t = let z : ◌≡◌ {A = ℕ} 9 1 = ap node_in e in omega (arith, z)
    about (x ∷ []) behind e a t = let z : ◌≡◌ {A = ℕ} 9 1 = ap node_in (ap tail e) in omega (arith, z)
    about (x ∷ y ∷ []) behind e a t = let z : ◌≡◌ {A = ℕ} 9 1 = ap node_in (ap tail (ap tail e)) in omega (arith, z)
    about (x ∷ y ∷ z ∷ []) behind e a t =
        let f : x ∷ y ∷ z ∷ [] ≡ both_got = cc in
        let s : IsTaking (after_lines (put_to true) both_got) 1 0 = subst (λ ls. IsTaking (after_lines (put_to true) ls) 1 0) f t in
        let none : ◌≡◌ {A = Option Role} None (Some Role.Pending) = state_one (after_lines (put_to true) both_got) own_dial Role.Pending s.given (λ k. refl) in cc
    about (x ∷ y ∷ z ∷ u ∷ front) behind e a t =
        let rest_a = (and_parts (is_of_down 1 1 0 z) (are_all (is_of_down 1 1 0) (u ∷ front)) (and_parts (is_of_down 1 1 0 y) (are_all (is_of_down 1 1 0) (z ∷ u ∷ front)) (and_parts (is_of_down 1 1 0 x) (are_all (is_of_down 1 1 0) (y ∷ z ∷ u ∷ front)) a).1).1).1 in
        let same : gets 1 0 Role.Pending ≡ u = cc in let no : false ≡ true = ap (is_of_down 1 1 0) same ∙ (and_parts (is_of_down 1 1 0 u) (are_all (is_of_down 1 1 0) front) rest_a).0 in cc

pub rises_early : DownTells given_up (gets 1 0 Role.Active ∷ []) → ⊥
rises_early l = ⊎_elim (λ t. let z : false ≡ true = t in cc) (⊎_elim (λ x. let z : Role.Active ≡ Role.Pending = ap said_in (first_role (is_of_down 1 1 0) (gets 1 0 Role.Active) (gets 1 0 Role.Pending) [] x.front x.behind refl x.together x.taken) in cc) (λ x. by x.front (x.commits ++ x.behind) x.together x.taken x.heir)) l
  where
    by : (front behind : List Event) → gets 1 0 Role.Active ∷ [] ≡ front ++ gets 1 0 Role.Active ∷ behind → are_all (is_of_down 1 1 0) front ≡ true → IsHeir (after_lines given_up front) 1 0 → ⊥
    by [] behind e a h = let z : ◌≡◌ {A = Option Role} (Some Role.Pending) (Some Role.Active) = state_one given_up own_dial Role.Active h.given (λ k. refl) in cc
    by (x ∷ front) behind e a h = none_behind front (gets 1 0 Role.Active) behind (ap tail e)

-- behind the role of an heir neither a set of its own stands, nor what it takes
not_behind : (wrong : Event) (rest : List Event) → is_own_commit 1 0 wrong ≡ false → are_told (λ line. is_of_over 1 line || is_of_disk 1 line) (is_of_end told_active) (wrong ∷ rest) ≡ false → are_told (λ line. is_of_down 1 1 0 line || is_of_disk 1 line) (is_of_end told_active) (gets 1 0 Role.Active ∷ wrong ∷ rest) ≡ false → DownTells told_active (gets 1 0 Role.Active ∷ wrong ∷ rest) → ⊥
not_behind wrong rest own goes_on fails l = ⊎_elim (λ t. let z : false ≡ true = sym fails ∙ t in cc)
    (⊎_elim (λ x. let z : Role.Active ≡ Role.Pending = ap said_in (first_role (is_of_down 1 1 0) (gets 1 0 Role.Active) (gets 1 0 Role.Pending) (wrong ∷ rest) x.front x.behind refl x.together x.taken) in cc) (λ x. by x.front x.commits x.behind x.together x.taken x.own x.over)) l
  where
    by : (front commits behind : List Event) → gets 1 0 Role.Active ∷ wrong ∷ rest ≡ front ++ gets 1 0 Role.Active ∷ (commits ++ behind) → are_all (is_of_down 1 1 0) front ≡ true → are_all (is_own_commit 1 0) commits ≡ true
        → are_told (λ line. is_of_over 1 line || is_of_disk 1 line) (is_of_end told_active) behind ≡ true → ⊥
    by [] [] behind e a o g = let same : wrong ∷ rest ≡ behind = cc in let z : false ≡ true = sym goes_on ∙ ap (are_told (λ line. is_of_over 1 line || is_of_disk 1 line) (is_of_end told_active)) same ∙ g in cc
    by [] (y ∷ commits) behind e a o g = let same : wrong ≡ y = cc in let z : false ≡ true = sym own ∙ ap (is_own_commit 1 0) same ∙ (and_parts (is_own_commit 1 0 y) (are_all (is_own_commit 1 0) commits) o).0 in cc
    by (x ∷ front) commits behind e a o g = let same : gets 1 0 Role.Active ≡ x = cc in let z : false ≡ true = ap (is_of_down 1 1 0) same ∙ (and_parts (is_of_down 1 1 0 x) (are_all (is_of_down 1 1 0) front) a).0 in cc

pub rises_setting : DownTells told_active (gets 1 0 Role.Active ∷ heir_change ∷ []) → ⊥
rises_setting = not_behind heir_change [] refl refl refl

pub rises_committing : DownTells told_active (gets 1 0 Role.Active ∷ commits_at 0 0 ∷ []) → ⊥
rises_committing = not_behind (commits_at 0 0) [] refl refl refl

pub rises_beside : DownTells told_active (gets 1 0 Role.Active ∷ commits_at 1 1 ∷ []) → ⊥
rises_beside = not_behind (commits_at 1 1) [] refl refl refl

pub rises_taking : DownTells told_active (gets 1 0 Role.Active ∷ first_got) → ⊥
rises_taking = not_behind (Event.Ranged 1 0 0 2) (Event.Got 1 0 (StreamName.Link 1) one_change ∷ []) refl refl refl

pub rises_making : DownTells told_active (Event.Branch 1 0 7 (Some 5) 2 2 ∷ gets 1 0 Role.Active ∷ []) → ⊥
rises_making l = ⊎_elim (λ t. let z : false ≡ true = t in cc)
    (⊎_elim (λ x. let z = first_role (is_of_down 1 1 0) (Event.Branch 1 0 7 (Some 5) 2 2) (gets 1 0 Role.Pending) (gets 1 0 Role.Active ∷ []) x.front x.behind refl x.together x.taken in cc) (λ x. let z = first_role (is_of_down 1 1 0) (Event.Branch 1 0 7 (Some 5) 2 2) (gets 1 0 Role.Active) (gets 1 0 Role.Active ∷ []) x.front (x.commits ++ x.behind) refl x.together x.taken in cc)) l
