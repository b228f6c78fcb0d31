-- what lines say of the connections of clients
use Rattle.std.specs.Prelude.{◌≡◌, ◌∷◌, ◌++◌, ◌==◌, ◌&&◌, if◌then◌else◌}
use Rattle.transcript_law.proofs.Words.{ℕ, Bool, true, false, List, [], refl, ap, sym, ◌∙◌, map, flat_map, eqb-true, eq-eqb, ne_eqb, Event, Chronicle, LawfulFrom, after_line}
use Rattle.transcript_law.specs.Chronicles.{Conns, conns_line, conns_lines, with_at}
use Rattle.transcript_law.specs.{Clients.{Heard}, Lawfulness.{LinesFrom}}

-- a line of an open connection, or of none; and no node stopped
abbrev pub Says : Conns → Event → Type 0
Says conns (Event.Reply n c bytes) = conns n c ≡ true
Says conns (Event.Closed n c) = conns n c ≡ true
Says conns (Event.NodeStopped n) = ⊥
Says conns other = Unit {0}

-- such lines, one after the other
abbrev pub AllSay : Conns → List Event → Type 0
AllSay conns [] = Unit {0}
AllSay conns (line ∷ lines) = Says conns line × AllSay (conns_line conns line) lines

-- what the law asks of lines beside what else was read
abbrev pub HeardFrom : Conns → List Event → Type 0
HeardFrom conns [] = Unit {0}
HeardFrom conns (line ∷ behind) = Heard conns line behind (Unit {0}) × HeardFrom (conns_line conns line) behind

pub conns_more : (conns : Conns) (lines more : List Event) → conns_lines conns (lines ++ more) ≡ conns_lines (conns_lines conns lines) more
conns_more conns [] more = refl
conns_more conns (line ∷ lines) more = conns_more (conns_line conns line) lines more

pub say_more : (conns : Conns) (lines more : List Event) → AllSay conns lines → AllSay (conns_lines conns lines) more → AllSay conns (lines ++ more)
say_more conns [] more s m = m
say_more conns (line ∷ lines) more s m = (s.0, say_more (conns_line conns line) lines more s.1 m)

-- lines in front of those of which the law asks it
pub say_heard : (conns : Conns) (lines more : List Event) → AllSay conns lines → HeardFrom (conns_lines conns lines) more → HeardFrom conns (lines ++ more)
say_heard conns [] more s h = h
say_heard conns (Event.Reply n c bytes ∷ lines) more s h = ((s.0, tt), say_heard conns lines more s.1 h)
say_heard conns (Event.Closed n c ∷ lines) more s h = ((s.0, tt), say_heard (with_at conns n c false) lines more s.1 h)
say_heard conns (Event.NodeStopped n ∷ lines) more s h = absurd s.0
say_heard conns (other ∷ lines) more s h = (tt, say_heard conns lines more s.1 h)

pub all_heard : (conns : Conns) (lines : List Event) → AllSay conns lines → HeardFrom conns lines
all_heard conns [] s = tt
all_heard conns (Event.Reply n c bytes ∷ lines) s = ((s.0, tt), all_heard conns lines s.1)
all_heard conns (Event.Closed n c ∷ lines) s = ((s.0, tt), all_heard (with_at conns n c false) lines s.1)
all_heard conns (Event.NodeStopped n ∷ lines) s = absurd s.0
all_heard conns (other ∷ lines) s = (tt, all_heard conns lines s.1)

-- with what else was read they are lawful
pub lines_heard : (r : Chronicle) (conns : Conns) (lines : List Event) → LawfulFrom r lines → HeardFrom conns lines → LinesFrom r conns lines
lines_heard r conns [] l h = tt
lines_heard r conns (Event.Reply n c bytes ∷ lines) l h = ((h.0.0, l.0), lines_heard (after_line r (Event.Reply n c bytes)) conns lines l.1 h.1)
lines_heard r conns (Event.Closed n c ∷ lines) l h = ((h.0.0, l.0), lines_heard (after_line r (Event.Closed n c)) (with_at conns n c false) lines l.1 h.1)
lines_heard r conns (Event.NodeStopped n ∷ lines) l h = ((l.0, h.0.1), lines_heard (after_line r (Event.NodeStopped n)) conns lines l.1 h.1)
lines_heard r conns (other ∷ lines) l h = (l.0, lines_heard (after_line r other) conns lines l.1 h.1)

-- ---- lines that say nothing of them

-- a line tells nothing of a client's connection, of a call that failed, and of a node that stopped
abbrev pub IsMute : Event → Type 0
IsMute (Event.Reply n c bytes) = ⊥
IsMute (Event.Closed n c) = ⊥
IsMute (Event.CallFailed n) = ⊥
IsMute (Event.NodeStopped n) = ⊥
IsMute other = Unit {0}

abbrev pub AreMute : List Event → Type 0
AreMute [] = Unit {0}
AreMute (line ∷ lines) = IsMute line × AreMute lines

pub mute_more : (lines more : List Event) → AreMute lines → AreMute more → AreMute (lines ++ more)
mute_more [] more m n = n
mute_more (line ∷ lines) more m n = (m.0, mute_more lines more m.1 n)

pub mute_map : {A : Type 0} (f : A → Event) (xs : List A) → ((x : A) → IsMute (f x)) → AreMute (map f xs)
mute_map f [] each = tt
mute_map f (x ∷ xs) each = (each x, mute_map f xs each)

pub mute_each : {A : Type 0} (f : A → List Event) (xs : List A) → ((x : A) → AreMute (f x)) → AreMute (flat_map f xs)
mute_each f [] each = tt
mute_each f (x ∷ xs) each = mute_more (f x) (flat_map f xs) (each x) (mute_each f xs each)

pub mute_say : (conns : Conns) (lines : List Event) → AreMute lines → AllSay conns lines
mute_say conns [] m = tt
mute_say conns (Event.Reply n c bytes ∷ lines) m = absurd m.0
mute_say conns (Event.Closed n c ∷ lines) m = absurd m.0
mute_say conns (Event.NodeStopped n ∷ lines) m = absurd m.0
mute_say conns (other ∷ lines) m = (tt, mute_say conns lines m.1)

pub mute_same : (conns : Conns) (lines : List Event) → AreMute lines → conns_lines conns lines ≡ conns
mute_same conns [] m = refl
mute_same conns (Event.Closed n c ∷ lines) m = absurd m.0
mute_same conns (other ∷ lines) m = mute_same conns lines m.1

-- ---- tables

-- what stands in a table may be put there again
pub put_same : (conns : Conns) (n c : ℕ) (b : Bool) → conns n c ≡ b → with_at conns n c b ≡ conns
put_same conns n c b is = λ i m d. by m d (m == n) (d == c) refl refl i
  where
    by : (m d : ℕ) (x y : Bool) → (m == n) ≡ x → (d == c) ≡ y → (if x && y then b else conns m d) ≡ conns m d
    by m d true true e f = sym is ∙ (λ i. conns (sym (eqb-true m n e) i) (sym (eqb-true d c f) i))
    by m d true false e f = refl
    by m d false true e f = refl
    by m d false false e f = refl

-- and twice
pub put_twice : (conns : Conns) (n c : ℕ) (b x : Bool) → with_at (with_at conns n c x) n c b ≡ with_at conns n c b
put_twice conns n c b x = λ i m d. by m d (m == n) (d == c) i
  where
    by : (m d : ℕ) (e f : Bool) → (if e && f then b else (if e && f then x else conns m d)) ≡ (if e && f then b else conns m d)
    by m d true true = refl
    by m d true false = refl
    by m d false true = refl
    by m d false false = refl

-- the other rows stay
pub row_there : (conns : Conns) (n c : ℕ) (b : Bool) (m : ℕ) → (m ≡ n → ⊥) → with_at conns n c b m ≡ conns m
row_there conns n c b m ne = λ i d. ap (λ x. if x && d == c then b else conns m d) (ne_eqb m n ne) i

-- and this one is so
pub row_here : (conns : Conns) (n c : ℕ) (b : Bool) → with_at conns n c b n ≡ (λ d. if d == c then b else conns n d)
row_here conns n c b = λ i d. ap (λ x. if x && d == c then b else conns n d) (eq-eqb n n refl) i
