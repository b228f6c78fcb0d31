-- single lines of a takeover, and how a `pump` of it is answered, judged by hand
use Rattle.std.specs.Prelude.{◌≡◌, ◌≢◌, ◌≤◌, ◌⊎◌, ◌==◌, ◌&&◌, ◌∷◌, ◌++◌}
use Rattle.transcript_law.proofs.Words.{ℕ, Bool, true, false, List, [], refl, ap, sym, ◌∙◌, subst, arith, inl, inr, ⊎_elim, list_any, Option, Some, None, Answer, Chronicle, Dial, EndReason, Event, Granted, Role, StreamName, Why, after_lines}
use Rattle.transcript_law.proofs.rows.TakeoverRows.{gives_up_now, heir_now, own_dial, own_dial_of, own_stream, pends_told, rises_told}
use Rattle.transcript_law.specs.Followers.{both_got, marker_line}
use Rattle.transcript_law.specs.Heirs.{HasAnswer, IsHanded, IsOffered, TakesOn}
use Rattle.transcript_law.specs.LinesTold.{Answered, Obeyed, Obeys, Put}
use Rattle.transcript_law.specs.TakeoverAnswers.{Awaits, WaitsForState}
use Rattle.transcript_law.specs.TakeoverLines.{EndsHanded, HasEnded, IsMarkedIn, IsTakenOver}
use Rattle.transcript_law.specs.TakeoverRows.{MayAsk, MayHand, MayStand, PumpSays, asked_with, dead_here, ended_with, finishes, follows_here, gets, given_up, half_heard, heard, links_end, moved, moved_heard, offered, pends, put_to, puts, states, takes_down, takes_up, told_active}

-- ---- single lines

-- by the dial of the link
as_dialed : (r : Chronicle) (P : Dial → Type 0) → r.dial_of 1 ≡ Some own_dial → P own_dial → (d : Dial) → r.dial_of 1 ≡ Some d → P d
as_dialed r P dialed p d e = subst P (own_dial_of r d dialed e) p

pub marked : MayStand (put_to true) (marker_line 2 3)
marked d t = as_dialed (put_to true) (IsMarkedIn (put_to true) 1) refl (inl (record { steady = refl; unstated = refl; active = refl })) d t.0

pub marked_offered : MayStand (offered true) (marker_line 2 3) → ⊥
marked_offered l = ⊎_elim (λ k. let e : ◌≡◌ {A = Option Role} (Some Role.Pending) None = k.unstated in cc) (λ y. let e : ◌≡◌ {A = Option (Option Role)} (Some (Some Role.Active)) (Some (Some Role.Dead)) = y.dead in cc) (l own_dial (refl, refl))

pub marked_rest : MayStand given_up (marker_line 2 3)
marked_rest d t = as_dialed given_up (IsMarkedIn given_up 1) refl (inr (record { steady = refl; stated = refl; dead = refl; pending = refl })) d t.0

pub marked_late : MayStand told_active (marker_line 2 3) → ⊥
marked_late l = ⊎_elim (λ k. let e : ◌≡◌ {A = Option Role} (Some Role.Active) None = k.unstated in cc) (λ y. let e : ◌≡◌ {A = Option Role} (Some Role.Active) (Some Role.Pending) = y.stated in cc) (l own_dial (refl, refl))

pub marked_turned : MayStand dead_here (marker_line 2 3) → ⊥
marked_turned l = ⊎_elim (λ k. let e : true ≡ false = k.steady in cc) (λ y. let e : true ≡ false = y.steady in cc) (l own_dial (refl, refl))

-- by its stream too
pub as_fed : (r : Chronicle) (h : Granted) (P : Dial → Granted → Type 0) → r.dial_of 1 ≡ Some own_dial → r.stream_of (StreamName.Link 1) 0 ≡ Some h → P own_dial h → (d : Dial) (g : Granted) → r.dial_of 1 ≡ Some d → r.stream_of (StreamName.Link 1) d.vb ≡ Some g → P d g
as_fed r h P dialed stream p d g e f =
    let same = own_dial_of r d dialed e in
    let there : r.stream_of (StreamName.Link 1) 0 ≡ Some g = subst (λ (x : Dial). r.stream_of (StreamName.Link 1) x.vb ≡ Some g) (sym same) f in
    let one : h ≡ g = let z : ◌≡◌ {A = Option Granted} (Some h) (Some g) = sym stream ∙ there in cc in
    subst (λ x. P x g) same (subst (P own_dial) one p)

pub ended : MayStand moved_heard (finishes 0)
ended d g t has = as_fed moved_heard _ (λ x y. EndsHanded moved_heard 1 x y 0) refl refl (inl (refl, record { handed = record { steady = refl; stated = refl; dead = refl }; answered = record { has = inl refl; told = λ e. let z : ◌≡◌ {A = Obeyed} Answered Put = e in cc; marks = refl; items = refl; moved = omega arith } })) d g t.0 has

zero_two : ◌≡◌ {A = ℕ} 0 2 → ⊥
zero_two e = omega (arith, e)

two_zero : ◌≡◌ {A = ℕ} 2 0 → ⊥
two_zero e = omega (arith, e)

pub ended_early : MayStand told_active (finishes 0) → ⊥
ended_early l = ⊎_elim (λ x. x.1.answered.told refl) (λ x. zero_two x.0) (l own_dial _ (refl, refl) refl)

pub ended_unheard : MayStand moved (finishes 0) → ⊥
ended_unheard l = ⊎_elim (λ x. let e : 24 ≤ 0 = x.1.answered.moved in omega (arith, e)) (λ x. zero_two x.0) (l own_dial _ (refl, refl) refl)

pub ended_changed : MayStand moved_heard (finishes 2) → ⊥
ended_changed l = ⊎_elim (λ x. two_zero x.0) (λ x. let e : false ≡ true = x.1 in cc) (l own_dial _ (refl, refl) refl)

pub ended_turned : MayStand (follows_here moved_heard) (finishes 2)
ended_turned d g t has = inr (refl, refl)

pub ended_turned_so : MayStand (follows_here moved_heard) (finishes 0) → ⊥
ended_turned_so l = ⊎_elim (λ x. let e : true ≡ false = x.1.handed.steady in cc) (λ x. zero_two x.0) (l own_dial _ (refl, refl) refl)

-- the end of the stream was put
has_ended : (r : Chronicle) (h : Granted) → r.dial_of 1 ≡ Some own_dial → r.stream_of (StreamName.Link 1) 0 ≡ Some h → h.over ≡ true → (d : Dial) → r.dial_of 1 ≡ Some d → HasEnded r 1 d
has_ended r h dialed stream over d e = subst (HasEnded r 1) (own_dial_of r d dialed e) (record { stream = h; granted = stream; over = over })

pub done : MayStand (ended_with 0 moved_heard) (links_end EndReason.Done)
done d t = (has_ended (ended_with 0 moved_heard) _ refl refl refl d t.0, refl)

pub done_early : MayStand moved_heard (links_end EndReason.Done) → ⊥
done_early l = let x = (l own_dial (refl, refl)).0 in let one : false ≡ true = over_of moved_heard _ refl x in cc
  where
    over_of : (r : Chronicle) (h : Granted) → r.stream_of (StreamName.Link 1) 0 ≡ Some h → HasEnded r 1 own_dial → h.over ≡ true
    over_of r h stream x = let z : ◌≡◌ {A = Option Granted} (Some h) (Some x.stream) = sym stream ∙ x.granted in let same : h ≡ x.stream = cc in ap (λ (g : Granted). g.over) same ∙ x.over

pub done_changed : MayStand (ended_with 0 moved_heard) (links_end EndReason.State) → ⊥
done_changed l = let e : false ≡ true = (l own_dial (refl, refl)).1 in cc

pub done_later : MayStand (follows_here (ended_with 0 moved_heard)) (links_end EndReason.Done)
done_later d t = (has_ended (follows_here (ended_with 0 moved_heard)) _ refl refl refl d t.0, refl)

pub over : MayStand (ended_with 2 (follows_here moved_heard)) (links_end EndReason.State)
over d t = (has_ended (ended_with 2 (follows_here moved_heard)) _ refl refl refl d t.0, refl)

pub over_done : MayStand (ended_with 2 (follows_here moved_heard)) (links_end EndReason.Done) → ⊥
over_done l = let e : true ≡ false = (l own_dial (refl, refl)).1 in cc

pub asked : MayStand (put_to true) (asked_with 1)
asked d t = (refl, refl)

pub asked_plain : MayStand (put_to true) (asked_with 0) → ⊥
asked_plain l = zero_one (l own_dial (refl, refl)).0
  where
    zero_one : ◌≡◌ {A = ℕ} 0 1 → ⊥
    zero_one e = omega (arith, e)

pub flag : MayAsk (put_to true) 1
flag = record { dialed = (1, refl); plain = inr refl; answered = record { own_log = refl; own_high = refl; verdict = (refl, λ z. absurd (omega arith)); active = refl } }

pub flag_following : MayAsk (put_to false) 1 → ⊥
flag_following l = ⊎_elim (λ e. one_zero e) (λ e. let z : false ≡ true = e in cc) l.plain
  where
    one_zero : ◌≡◌ {A = ℕ} 1 0 → ⊥
    one_zero e = omega (arith, e)

pub no_flag : MayAsk (put_to false) 0
no_flag = record { dialed = (1, refl); plain = inl refl; answered = record { own_log = refl; own_high = refl; verdict = (refl, λ z. absurd (omega arith)); active = refl } }

-- ---- answers

-- the link's stream waits for the answer to its last state
awaits_offer : (r : Chronicle) (g : Granted) → r.dial_of 1 ≡ Some own_dial → (r.takeover_of 1).dialed ≡ true → r.stream_of (StreamName.Link 1) 0 ≡ Some g → g.over ≡ false → (r.takeover_of 1).turned ≡ false → r.stated_of 1 ≡ Some Role.Pending → r.role_at 0 0 ≡ Some (Some Role.Active) → Awaits r 1 own_dial g
awaits_offer r g dialed takes stream goes_on steady stated active = record { takes_on = record { dialed = dialed; takeover = takes; stream = stream; goes_on = goes_on }; stated = inl (record { steady = steady; stated = stated; active = active }) }

pub puts_pending : PumpSays (put_to true) (states Role.Pending ∷ []) 1 Why.WaitState
puts_pending = ((tt, λ e. cc), record { dial = own_dial; stream = _; awaits = awaits_offer (after_lines (put_to true) (states Role.Pending ∷ [])) _ refl refl refl refl refl refl refl; unanswered = inl refl })

-- it waits on
waits_on_at : (r : Chronicle) (g : Granted) → Awaits r 1 own_dial g → (HasAnswer r 1 → ⊥) → WaitsForState r 1 []
waits_on_at r g awaits none = record { dial = own_dial; stream = g; awaits = awaits; unanswered = inr none }

pub waits : PumpSays (offered true) [] 0 Why.WaitState
waits = ((tt, λ e. cc), waits_on_at (offered true) _ (awaits_offer (offered true) _ refl refl refl refl refl refl refl) (λ e. let z : Put ≡ Answered = e in cc))

pub waits_on : PumpSays pends [] 0 Why.WaitState
waits_on = ((tt, λ e. cc), waits_on_at pends _ (awaits_offer pends _ refl refl refl refl refl refl refl) (λ e. let z : Obeys ≡ Answered = e in cc))

pub waits_half : PumpSays half_heard [] 0 Why.WaitState
waits_half = ((tt, λ e. cc), waits_on_at half_heard _ (awaits_offer half_heard _ refl refl refl refl refl refl refl) (λ e. let z : Obeys ≡ Answered = e in cc))

pub waits_heard : PumpSays heard [] 0 Why.WaitState → ⊥
waits_heard l = ⊎_elim (λ e. let z : false ≡ true = e in cc) (λ none. none refl) l.1.unanswered

-- nothing that waits was stated
unstated : (r : Chronicle) (d : Dial) (g : Granted) → r.stated_of 1 ≡ None → Awaits r 1 d g → ⊥
unstated r d g none x = ⊎_elim (λ o. let e : ◌≡◌ {A = Option Role} None (Some Role.Pending) = sym none ∙ o.stated in cc) (λ h. let e : ◌≡◌ {A = Option Role} None (Some Role.Active) = sym none ∙ h.stated in cc) x.stated

pub waits_unstated : PumpSays (put_to true) [] 0 Why.WaitState → ⊥
waits_unstated l = unstated (put_to true) l.1.dial l.1.stream refl l.1.awaits

pub waits_turned : PumpSays dead_here [] 0 Why.WaitState → ⊥
waits_turned l = ⊎_elim (λ o. let e : true ≡ false = o.steady in cc) (λ h. let e : true ≡ false = h.steady in cc) l.1.awaits.stated

pub puts_active : PumpSays heard (gets 0 0 Role.Dead ∷ states Role.Active ∷ []) 1 Why.WaitState
puts_active = (
  (tt, λ e. inl (λ z. one_zero z)),
  record {
    dial = own_dial;
    stream = _;
    awaits = record { takes_on = record { dialed = refl; takeover = refl; stream = refl; goes_on = refl }; stated = inr (record { steady = refl; stated = refl; dead = refl }) };
    unanswered = inl refl;
  },
)
  where
    one_zero : ◌≡◌ {A = ℕ} 1 0 → ⊥
    one_zero e = omega (arith, e)

pub gives_up_alone : PumpSays heard (gets 0 0 Role.Dead ∷ []) 0 Why.Full → ⊥
gives_up_alone l = ⊎_elim (λ some. some refl) (λ later. ⊎_elim (λ e. let z : Why.Full ≡ Why.WaitSaved = e in cc) (λ e. let z : Why.Full ≡ Why.Disk = e in cc) later) (l.0.1 refl)

-- a takeover's stream goes on
takes_on_now : (r : Chronicle) → r.dial_of 1 ≡ Some own_dial → (r.takeover_of 1).dialed ≡ true → (g : Granted) → r.stream_of (StreamName.Link 1) 0 ≡ Some g → g.over ≡ false → TakesOn r 1 own_dial g
takes_on_now r dialed takes g stream goes_on = record { dialed = dialed; takeover = takes; stream = stream; goes_on = goes_on }

pub idle : PumpSays (offered true) [] 0 Why.Idle → ⊥
idle l = l.0.0 own_dial _ (takes_on_now (offered true) refl refl _ refl refl)

pub idle_unstated : PumpSays (put_to true) [] 0 Why.Idle → ⊥
idle_unstated l = l.0.0 own_dial _ (takes_on_now (put_to true) refl refl _ refl refl)

pub saves : PumpSays (offered true) [] 0 Why.WaitSaved → ⊥
saves l = l.0.0 own_dial _ (awaits_offer (offered true) _ refl refl refl refl refl refl refl)

-- a stream that is over does not go on
over_on : (r : Chronicle) (h : Granted) → r.dial_of 1 ≡ Some own_dial → r.stream_of (StreamName.Link 1) 0 ≡ Some h → h.over ≡ true → (d : Dial) (g : Granted) → TakesOn r 1 d g → ⊥
over_on r h dialed stream over d g on = let same = own_stream r d g h dialed stream on in let z : true ≡ false = sym over ∙ ap (λ (x : Granted). x.over) same ∙ on.goes_on in cc

abbrev read_end : Chronicle
read_end = after_lines moved_heard (finishes 0 ∷ [])

pub ends_idle : PumpSays moved_heard (finishes 0 ∷ []) 1 Why.Idle
ends_idle = (
  (over_on read_end _ refl refl refl, λ e. cc),
  λ d g dialed stream goes_on. let same = own_stream read_end d g _ refl refl (takes_on_later d g dialed stream goes_on) in let z : true ≡ false = ap (λ (x : Granted). x.over) same ∙ goes_on in absurd cc,
)
  where
    takes_on_later : (d : Dial) (g : Granted) → read_end.dial_of 1 ≡ Some d → read_end.stream_of (StreamName.Link 1) d.vb ≡ Some g → g.over ≡ false → TakesOn read_end 1 d g
    takes_on_later d g dialed stream goes_on = record { dialed = dialed; takeover = refl; stream = stream; goes_on = goes_on }

-- ---- the whole

pub offers : MayHand (put_to true) puts (states Role.Pending ∷ []) (Answer.Pulled 1 Why.WaitState)
offers = record { tells = inl refl; each = (tt, tt); pumps = puts_pending.0 }

pub obeys : MayHand (offered true) takes_down (both_got ++ gets 1 0 Role.Pending ∷ []) (Answer.Number 183)
obeys = record { tells = pends_told; each = (tt, (tt, (tt, (tt, tt)))); pumps = tt }

pub answers : MayHand pends (takes_up 99) [] (Answer.Number 24)
answers = record { tells = inl refl; each = tt; pumps = tt }

pub yields : MayHand heard puts (gets 0 0 Role.Dead ∷ states Role.Active ∷ []) (Answer.Pulled 1 Why.WaitState)
yields = record { tells = inr gives_up_now; each = (tt, (tt, tt)); pumps = puts_active.0 }

pub rises : MayHand told_active takes_down (gets 1 0 Role.Active ∷ []) (Answer.Number 25)
rises = record { tells = inr (inr (record { front = []; commits = []; behind = []; together = refl; taken = refl; heir = heir_now; by_link = refl; own = refl; over = refl })); each = (tt, tt); pumps = tt }

pub ends : MayHand moved_heard puts (finishes 0 ∷ []) (Answer.Pulled 1 Why.Idle)
ends = record { tells = inl refl; each = (ended, tt); pumps = ends_idle.0 }

pub link_over : MayHand (ended_with 0 moved_heard) takes_down (links_end EndReason.Done ∷ []) (Answer.Number 28)
link_over = record { tells = inl refl; each = (done, tt); pumps = tt }
