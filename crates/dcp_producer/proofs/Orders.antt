-- what follows from taking turns
use Rattle.std.proofs.Common.{◌≡◌, ◌≢◌, ◌+◌, ◌<◌, ◌≤◌, ℕ, List, [], ◌∷◌, ◌++◌, length, map, refl, sym, ap, ◌∙◌, subst, inl, inr, append-nil, append_assoc, arith}
use Rattle.std.specs.Prelude.{if◌then◌else◌, take, drop}
use Rattle.std.specs.List.{All}
use Rattle.std.proofs.lemmas.List.{length-append}
use Rattle.std.proofs.lemmas.List.Elements.{All-head, All-tail, All-nil, All-cons, All-append}
use Rattle.vb_events.specs.declared.event.StreamName.{StreamName}
use Rattle.vb_calls.specs.Jobs.{IsRead}
use Rattle.vb_calls.specs.Programs.{AnyCall, Made}
use Rattle.vb_told.proofs.Walks.{told_always_job}
use Rattle.dcp_producer.specs.declared.next_frame.NextFrame.{NextFrame}
use Rattle.dcp_producer.specs.declared.next_frame.NextFrame.TheVariants as next
use Rattle.dcp_producer.specs.Frames.{Next, next_frame}
use Rattle.dcp_producer.specs.Producers.{PlainStream, PlainProducer, Rising}
use Rattle.dcp_producer.specs.Turns.{Tried, IsTold, TakeTurns, turns_of, waiting, made_in}
use Rattle.dcp_producer.specs.Orders.{IsPut, IsOut, IsNotAsked, AreDifferent, AreBetween, AreOut, Stops, most_calls, AskLittle}
use Rattle.dcp_producer.proofs.Framing.{Same, GoesOn, IsPromised, FrameCase, an_item, by_role, all_sent, it_waits, no_place, a_marker, nothing, all_up, a_state, awaits, no_take, from_disk, no_disk, frame_same, frame_told}
use Rattle.dcp_producer.proofs.Turning.{take_drop}

-- ---- the calls of a turn

-- one at most, where a backfill is promised
promised_few : (stream : PlainStream) (made : List Made) (end : ℕ) → IsPromised stream made end → length made ≤ 1
promised_few stream made end (inl (unread, none)) = subst (λ ms. length ms ≤ 1) (sym none) (omega arith)
promised_few stream made end (inr (from, said, calls)) = subst (λ ms. length ms ≤ 1) (sym calls) (omega arith)

few_calls : (name : StreamName) (t : Tried) → FrameCase name t.stream t.made (t.next, t.left) → length t.made ≤ most_calls t.stream.ended t.next
few_calls name t (an_item c there none is) = subst (λ ms. length ms ≤ most_calls t.stream.ended t.next) (sym none) (omega arith)
few_calls name t (by_role put ended none is) = subst (λ ms. length ms ≤ most_calls t.stream.ended t.next) (sym none) (omega arith)
few_calls name t (all_sent put alive reached reply calls is) =
    subst (λ ms. length ms ≤ most_calls t.stream.ended t.next) (sym calls) (subst (λ (x : NextFrame). 1 ≤ most_calls t.stream.ended x) (sym (ap (λ (x : Next). x.0) is)) (omega arith))
few_calls name t (it_waits more reply said calls is) =
    subst (λ ms. length ms ≤ most_calls t.stream.ended t.next) (sym calls) (subst (λ (x : NextFrame). 1 ≤ most_calls t.stream.ended x) (sym (ap (λ (x : Next). x.0) is)) (omega arith))
few_calls name t (no_place more reply said calls is) =
    subst (λ ms. length ms ≤ most_calls t.stream.ended t.next) (sym calls)
    (subst (λ (x : NextFrame). 1 ≤ most_calls t.stream.ended x) (sym (ap (λ (x : Next). x.0) is)) (subst (λ b. 1 ≤ (if b then 0 else 2)) (sym more.alive) (omega arith)))
few_calls name t (a_marker more from reply snapshot said tells calls is) =
    subst (λ ms. length ms ≤ most_calls t.stream.ended t.next) (sym calls) (subst (λ (x : NextFrame). 2 ≤ most_calls t.stream.ended x) (sym (ap (λ (x : Next). x.0) is)) (omega arith))
few_calls name t (nothing more none from reply said tells calls is) =
    subst (λ ms. length ms ≤ most_calls t.stream.ended t.next) (sym calls) (subst (λ (x : NextFrame). 2 ≤ most_calls t.stream.ended x) (sym (ap (λ (x : Next). x.0) is)) (omega arith))
few_calls name t (all_up more g gives told at from reply said tells calls is) =
    subst (λ ms. length ms ≤ most_calls t.stream.ended t.next) (sym calls) (subst (λ (x : NextFrame). 2 ≤ most_calls t.stream.ended x) (sym (ap (λ (x : Next). x.0) is)) (omega arith))
few_calls name t (a_state put alive g gives told at none is) = subst (λ ms. length ms ≤ most_calls t.stream.ended t.next) (sym none) (omega arith)
few_calls name t (awaits put alive g gives at none is) = subst (λ ms. length ms ≤ most_calls t.stream.ended t.next) (sym none) (omega arith)
few_calls name t (no_take more from reply said no_snapshot some calls is) =
    subst (λ ms. length ms ≤ most_calls t.stream.ended t.next) (sym calls)
    (subst (λ (x : NextFrame). 2 ≤ most_calls t.stream.ended x) (sym (ap (λ (x : Next). x.0) is)) (subst (λ b. 2 ≤ (if b then 0 else 2)) (sym more.alive) (omega arith)))
few_calls name t (from_disk more end reading snapshot promised found is) =
    subst (λ (x : NextFrame). length t.made ≤ most_calls t.stream.ended x) (sym (ap (λ (x : Next). x.0) is)) (let low = promised_few t.stream t.made end promised in omega (arith, low))
few_calls name t (no_disk more end reading promised found is) =
    subst (λ (x : NextFrame). length t.made ≤ most_calls t.stream.ended x) (sym (ap (λ (x : Next). x.0) is)) (promised_few t.stream t.made end promised)

pub ask_little : (name : StreamName) (first : List PlainStream) (tries : List Tried) (left : List PlainStream) → TakeTurns name first tries left → AskLittle tries
ask_little name first [] left turns = omega arith
ask_little name first (t ∷ tries) left (rest, is, told, turns) =
    let one = few_calls name t (frame_told name t.stream t.made (t.next, t.left) told) in
    let more = ask_little name (waiting t.next t.left rest) tries left turns in
    let long : length (t.made ++ made_in tries) ≡ length t.made + length (made_in tries) = length-append t.made (made_in tries) in
    omega (arith, one, more, long)

-- ---- the order

-- the turns of a front part, and those of the rest
parted : (name : StreamName) (first : List PlainStream) (front back : List Tried) (left : List PlainStream) → TakeTurns name first (front ++ back) left
    → (mid : List PlainStream) × TakeTurns name first front mid × TakeTurns name mid back left
parted name first [] back left turns = (first, refl, turns)
parted name first (t ∷ front) back left (rest, is, told, turns) =
    let (mid, before, after) = parted name (waiting t.next t.left rest) front back left turns in (mid, (rest, is, told, before), after)

-- who put a frame waits behind the others
put_waits : (x : NextFrame) (left : PlainStream) (rest : List PlainStream) → IsPut x → waiting x left rest ≡ rest ++ left ∷ []
put_waits (next.Put m line) left rest put = refl
put_waits (next.End reason) left rest put = absurd put
put_waits (next.Quiet waits) left rest put = absurd put
put_waits next.Disk left rest put = absurd put

-- behind a turn there wait the same ones, and perhaps the one that had it
waits_more : (x : NextFrame) (left : PlainStream) (a b : List PlainStream) → (more : List PlainStream) × (waiting x left (a ++ b) ≡ a ++ more)
waits_more (next.Put m line) left a b = (b ++ left ∷ [], append_assoc a b (left ∷ []))
waits_more (next.End reason) left a b = (b, refl)
waits_more (next.Quiet waits) left a b = (b, refl)
waits_more next.Disk left a b = (b ++ left ∷ [], append_assoc a b (left ∷ []))

-- the first of these others has its turn before the one behind them
list_first : (a b : PlainStream) (xs ys : List PlainStream) → a ∷ xs ≡ b ∷ ys → (a ≡ b) × (xs ≡ ys)
list_first a b xs ys is = (cc is, cc is)

-- those between
between_are : (name : StreamName) (waited : List PlainStream) (x : PlainStream) (more : List PlainStream) (between back : List Tried) (v : Tried) (left : List PlainStream)
    → All (λ other. other.id ≢ x.id) waited → TakeTurns name (waited ++ x ∷ more) (between ++ v ∷ back) left → v.stream.id ≡ x.id → IsNotAsked x.id between
    → (map (λ t. t.stream) between ≡ waited) × (v.stream ≡ x)
between_are name [] x more [] back v left differ (rest, is, told, turns) same none = (refl, sym (list_first x v.stream more rest is).0)
between_are name (w ∷ waited) x more [] back v left differ (rest, is, told, turns) same none =
    absurd (All-head (λ (other : PlainStream). other.id ≢ x.id) w waited differ (ap (λ (s : PlainStream). s.id) (list_first w v.stream (waited ++ x ∷ more) rest is).0 ∙ same))
between_are name [] x more (t ∷ between) back v left differ (rest, is, told, turns) same none =
    absurd (All-head (λ (u : Tried). u.stream.id ≢ x.id) t between none (sym (ap (λ (s : PlainStream). s.id) (list_first x t.stream more rest is).0)))
between_are name (w ∷ waited) x more (t ∷ between) back v left differ (rest, is, told, turns) same none =
    let (first, others) = list_first w t.stream (waited ++ x ∷ more) rest is in
    let (more', waits) = waits_more t.next t.left (waited ++ x ∷ []) more in
    let now : waiting t.next t.left rest ≡ waited ++ x ∷ more' =
    ap (waiting t.next t.left) (sym others ∙ sym (append_assoc waited (x ∷ []) more)) ∙ waits ∙ append_assoc waited (x ∷ []) more' in
    let (asked, again) = between_are name waited x more' between back v left (All-tail (λ (other : PlainStream). other.id ≢ x.id) w waited differ)
    (subst (λ ws. TakeTurns name ws (between ++ v ∷ back) left) now turns) same (All-tail (λ (u : Tried). u.stream.id ≢ x.id) t between none) in
    ((λ i. sym first i ∷ asked i), again)

-- ---- no two are the same

away_push : (id : ℕ) (xs : List PlainStream) (y : PlainStream) → All (λ other. other.id ≢ id) xs → y.id ≢ id → All (λ other. other.id ≢ id) (xs ++ y ∷ [])
away_push id xs y all one = All-append (λ (other : PlainStream). other.id ≢ id) xs (y ∷ []) all (All-cons (λ (other : PlainStream). other.id ≢ id) y [] one (All-nil (λ (other : PlainStream). other.id ≢ id)))

diff_push : (xs : List PlainStream) (y : PlainStream) → AreDifferent xs → All (λ other. other.id ≢ y.id) xs → AreDifferent (xs ++ y ∷ [])
diff_push [] y diff away = (All-nil (λ (other : PlainStream). other.id ≢ y.id), tt)
diff_push (x ∷ xs) y (here, more) away =
    (away_push x.id xs y here (λ is. All-head (λ (other : PlainStream). other.id ≢ y.id) x xs away (sym is)), diff_push xs y more (All-tail (λ (other : PlainStream). other.id ≢ y.id) x xs away))

pub diff_turn : (x : PlainStream) (xs : List PlainStream) → AreDifferent (x ∷ xs) → AreDifferent (xs ++ x ∷ [])
diff_turn x xs (here, more) = diff_push xs x more here

diff_waits : (x : NextFrame) (stream left : PlainStream) (rest : List PlainStream) → left.id ≡ stream.id → AreDifferent (stream ∷ rest) → AreDifferent (waiting x left rest)
diff_waits (next.Put m line) stream left rest same (here, more) = diff_push rest left more (subst (λ n. All (λ (other : PlainStream). other.id ≢ n) rest) (sym same) here)
diff_waits (next.End reason) stream left rest same (here, more) = more
diff_waits (next.Quiet waits) stream left rest same (here, more) = more
diff_waits next.Disk stream left rest same (here, more) = diff_push rest left more (subst (λ n. All (λ (other : PlainStream). other.id ≢ n) rest) (sym same) here)

same_of : (name : StreamName) (t : Tried) → IsTold name t → t.left.id ≡ t.stream.id
same_of name t told = let same : Same t.stream t.left = told_always_job AnyCall IsRead (GoesOn t.stream) (next_frame name t.stream) t.made (t.next, t.left) (frame_same name t.stream) told in same.id

diff_along : (name : StreamName) (first : List PlainStream) (tries : List Tried) (left : List PlainStream) → TakeTurns name first tries left → AreDifferent first → AreDifferent left
diff_along name first [] left turns diff = subst AreDifferent (sym turns) diff
diff_along name first (t ∷ tries) left (rest, is, told, turns) diff =
    diff_along name (waiting t.next t.left rest) tries left turns (diff_waits t.next t.stream t.left rest (same_of name t told) (subst AreDifferent is diff))

-- ---- between two turns, and behind the last

pub are_between : (name : StreamName) (first : List PlainStream) (tries : List Tried) (left : List PlainStream) → AreDifferent first → TakeTurns name first tries left → AreBetween name first tries
are_between name first tries left diff turns front between back u v parts put same none =
    let (mid, before, after) = parted name first front (u ∷ (between ++ v ∷ back)) left (subst (λ ts. TakeTurns name first ts left) parts turns) in
    let (rest, is, told, more) = after in
    let id : u.left.id ≡ u.stream.id = same_of name u told in
    let now : AreDifferent (u.stream ∷ rest) = subst AreDifferent is (diff_along name first front mid before diff) in
    let (asked, again) = between_are name rest u.left [] between back v left
    (subst (λ n. All (λ (other : PlainStream). other.id ≢ n) rest) (sym id) now.0)
    (subst (λ ws. TakeTurns name ws (between ++ v ∷ back) left) (put_waits u.next u.left rest put) more)
    (same ∙ sym id) (subst (λ n. IsNotAsked n between) (sym id) none) in
    record { waited = rest; turns = subst (TakeTurns name first front) is before; asked = asked; again = again }

away_waits : (id : ℕ) (x : NextFrame) (stream left : PlainStream) (rest : List PlainStream) → left.id ≡ stream.id → All (λ other. other.id ≢ id) (stream ∷ rest) → All (λ other. other.id ≢ id) (waiting x left rest)
away_waits id (next.Put m line) stream left rest same all =
    away_push id rest left (All-tail (λ (other : PlainStream). other.id ≢ id) stream rest all) (λ is. All-head (λ (other : PlainStream). other.id ≢ id) stream rest all (sym same ∙ is))
away_waits id (next.End reason) stream left rest same all = All-tail (λ (other : PlainStream). other.id ≢ id) stream rest all
away_waits id (next.Quiet waits) stream left rest same all = All-tail (λ (other : PlainStream). other.id ≢ id) stream rest all
away_waits id next.Disk stream left rest same all =
    away_push id rest left (All-tail (λ (other : PlainStream). other.id ≢ id) stream rest all) (λ is. All-head (λ (other : PlainStream). other.id ≢ id) stream rest all (sym same ∙ is))

never_again : (name : StreamName) (id : ℕ) (first : List PlainStream) (tries : List Tried) (left : List PlainStream) → All (λ other. other.id ≢ id) first → TakeTurns name first tries left → IsNotAsked id tries
never_again name id first [] left all turns = All-nil (λ (t : Tried). t.stream.id ≢ id)
never_again name id first (t ∷ tries) left all (rest, is, told, turns) =
    let now : All (λ (other : PlainStream). other.id ≢ id) (t.stream ∷ rest) = subst (λ xs. All (λ (other : PlainStream). other.id ≢ id) xs) is all in
    All-cons (λ (u : Tried). u.stream.id ≢ id) t tries (All-head (λ (other : PlainStream). other.id ≢ id) t.stream rest now)
    (never_again name id (waiting t.next t.left rest) tries left (away_waits id t.next t.stream t.left rest (same_of name t told) now) turns)

pub are_out : (name : StreamName) (first : List PlainStream) (tries : List Tried) (left : List PlainStream) → AreDifferent first → Stops tries → TakeTurns name first tries left → AreOut tries
are_out name first tries left diff stops turns front back u parts =
    let (mid, before, after) = parted name first front (u ∷ back) left (subst (λ ts. TakeTurns name first ts left) parts turns) in
    let (rest, is, told, more) = after in
    let now : AreDifferent (u.stream ∷ rest) = subst AreDifferent is (diff_along name first front mid before diff) in
    by rest now more u.next refl
  where
    by : (rest : List PlainStream) → AreDifferent (u.stream ∷ rest) → TakeTurns name (waiting u.next u.left rest) back left → (x : NextFrame) → u.next ≡ x → IsOut x → IsNotAsked u.stream.id back
    by rest now more (next.Put m line) is out = absurd out
    by rest now more (next.End reason) is out =
        never_again name u.stream.id rest back left now.0 (subst (λ ws. TakeTurns name ws back left) (ap (λ x. waiting x u.left rest) is) more)
    by rest now more (next.Quiet waits) is out =
        never_again name u.stream.id rest back left now.0 (subst (λ ws. TakeTurns name ws back left) (ap (λ x. waiting x u.left rest) is) more)
    by rest now more next.Disk is out = subst (IsNotAsked u.stream.id) (sym (stops front back u parts is)) (All-nil (λ (t : Tried). t.stream.id ≢ u.stream.id))

-- ---- the streams of a connection

rising_differ : (x : PlainStream) (xs : List PlainStream) → All (λ other. x.id < other.id) xs → All (λ other. other.id ≢ x.id) xs
rising_differ x [] above = All-nil (λ (other : PlainStream). other.id ≢ x.id)
rising_differ x (y ∷ xs) above =
    let low : x.id < y.id = All-head (λ (other : PlainStream). x.id < other.id) y xs above in
    All-cons (λ (other : PlainStream). other.id ≢ x.id) y xs (λ is. absurd (omega (arith, low, is))) (rising_differ x xs (All-tail (λ (other : PlainStream). x.id < other.id) y xs above))

rising_diff : (xs : List PlainStream) → Rising xs → AreDifferent xs
rising_diff [] rise = tt
rising_diff (x ∷ xs) (above, rise) = (rising_differ x xs above, rising_diff xs rise)

rotated : (xs ys : List PlainStream) → AreDifferent (xs ++ ys) → AreDifferent (ys ++ xs)
rotated [] ys diff = subst AreDifferent (sym (append-nil ys)) diff
rotated (x ∷ xs) ys diff =
    subst AreDifferent (append_assoc ys (x ∷ []) xs) (rotated xs (ys ++ x ∷ []) (subst AreDifferent (append_assoc xs ys (x ∷ [])) (diff_turn x (xs ++ ys) diff)))

pub turns_differ : (end : PlainProducer) → Rising end.streams → AreDifferent (turns_of end)
turns_differ end rise = rotated (take end.turn end.streams) (drop end.turn end.streams) (subst AreDifferent (sym (take_drop end.turn end.streams)) (rising_diff end.streams rise))
